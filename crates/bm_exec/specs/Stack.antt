-- What a frame has still to run: its open blocks, the innermost last.
use Rattle.std.specs.Prelude.{◌≡◌, ℕ, ◌+◌, Bool, true, false, if◌then◌else◌, Option, Some, None, List, [], ◌∷◌}
use Rattle.std.specs.Borrow.{Bor}
use Rattle.bm_journal.specs.declared.ids.Domain.TheVariants.{Plain}
use Rattle.bm_journal.specs.declared.entry.Entry.TheVariants as entry
use Rattle.bm_lang.specs.declared.scenario.Block.{Block}
use Rattle.bm_check.specs.Blocks.{from_inside}
use Rattle.bm_check.specs.declared.name_state.HeldLock.{HeldLock}
use Rattle.bm_check.specs.declared.name_state.HeldLock.TheVariants.{Nothing as NoLock}
use Rattle.bm_check.specs.Statements.{Setting}
use Rattle.bm_check.specs.Values as safe
use Rattle.bm_law_work.specs.Parts.{Stand}
use Rattle.bm_law_scenario.specs.Declared.{Declared, under}
use Rattle.bm_law_scenario.specs.Runs.{Run, Leaving, Done, Followed, Times, RunsBlock, unlocked}
use Rattle.bm_exec.specs.Around.{Around, is_inside, with_begun}
use Rattle.bm_exec.specs.declared.frame.Open.{Open}
use Rattle.bm_exec.specs.Lists.{Behind, RunsList, SafeList}
use Rattle.bm_exec.specs.Stores.{locked_in}

-- a block that may run again, if there is one
abbrev pub RunsBody : Declared → ℕ → (inside : Bool) → Option (List ℕ) → Option (Bor Block) → Run
RunsBody d l i w None = Done
RunsBody d l i w (Some body) = RunsBlock d l i (Behind w) body.now

-- the end of the section that a statement began
abbrev pub Leaves : ℕ → Around → Run
Leaves l z names after s part =
    (w : ℕ) × (z.begun ≡ Some w)
    × Leaving (Stand l (entry.Out Plain (w + 1) ∷ [])) names after s part

-- a block, and the end of its section, if it is one's
abbrev pub ClosedBy : Bool → ℕ → Around → Run → Run
ClosedBy false l z run = run
ClosedBy true l z run = Followed run (Leaves l z)

-- what is around a block
abbrev pub outer : Open → Around → Around
outer o z = if o.leaves then with_begun None z else z

-- the lock that is held in the innermost of some blocks; around all of them none is
abbrev pub lock_of : List Open → HeldLock
lock_of [] = NoLock
lock_of (o ∷ os) = o.lock

-- the innermost of some blocks, under another lock or under none
abbrev pub under_lock : HeldLock → List Open → List Open
under_lock lock [] = []
under_lock lock (o ∷ os) = record o { lock = lock } ∷ os

-- The rest of a block's statements, under the lock that is held in it, and then the whole block some more times, each time under the lock that is held
-- around it.
abbrev pub RunsRest :
    Declared → ℕ → (inside : Bool) → Option (List ℕ) → (around : HeldLock) → Open → Run
RunsRest d l i w k o =
    Followed (RunsList (under (locked_in o.lock) d) l i w o.rest.now)
    (Times (RunsBody (under (locked_in k) d) l i w o.body) o.repeats)

-- the same, and the end of its section
abbrev pub RunsOpen : Declared → ℕ → Around → Option (List ℕ) → (around : HeldLock) → Open → Run
RunsOpen d l z w k o = ClosedBy o.leaves l z (RunsRest d l (is_inside z) w k o)

-- open blocks around one that has ended, the innermost first: that one was a statement's of the first of them
abbrev pub RunsAround : Declared → ℕ → Around → Option (List ℕ) → List Open → Run
RunsAround d l z w [] = Done
RunsAround d l z w (o ∷ os) =
    Followed (Leaving (unlocked (locked_in o.lock) (Behind w)))
    (Followed (RunsOpen d l z w (lock_of os) o) (RunsAround d l (outer o z) w os))

-- open blocks, the innermost first
abbrev pub RunsStack : Declared → ℕ → Around → Option (List ℕ) → List Open → Run
RunsStack d l z w [] = Done
RunsStack d l z w (o ∷ os) =
    Followed (RunsOpen d l z w (lock_of os) o) (RunsAround d l (outer o z) w os)

-- A block that leaves a section is in one that was begun; and around all open blocks it is as at the script's beginning.
abbrev pub Sectioned : (base z : Around) → List Open → Type 0
Sectioned base z [] = z ≡ base
Sectioned base z (o ∷ os) =
    (o.leaves ≡ true → (w : ℕ) × (z.begun ≡ Some w)) × Sectioned base (outer o z) os

-- A lock that is taken in a block is given back in it: at its end the lock that is held is that from around it.
abbrev pub Closes : (around : HeldLock) → (safe.Store → Type 0) → safe.Store → Type 0
Closes k Q r = (r.lock ≡ from_inside k) × Q (safe.with_lock r k)

abbrev pub SafeBody : Setting → Option (Bor Block) → safe.Store → (safe.Store → Type 0) → Type 0
SafeBody e None s Q = Q s
SafeBody e (Some body) s Q = safe.SafeBlock e s body.now Q

abbrev pub SafeOpen :
    Setting → (around : HeldLock) → safe.Store → Open → (safe.Store → Type 0) → Type 0
SafeOpen e k s o Q =
    SafeList e s o.rest.now (Closes k (λ r. safe.Times o.repeats (λ r. SafeBody e o.body r) r Q))

-- at the end nothing is owned, and no lock is held
abbrev pub SafeStack : Setting → safe.Store → List Open → Type 0
SafeStack e s [] = safe.OwnsNothing s
SafeStack e s (o ∷ os) = SafeOpen e (lock_of os) s o (λ r. SafeStack e r os)

-- What a unit that was freed with delay has to wait for before it is given again. (bpf_mem_free_rcu of kernel/bpf/memalloc.c puts it on
-- free_by_rcu, from which call_rcu takes it; that a reply names the stamp and the number seen is this project's own.)
use Rattle.std.specs.Prelude.{◌≡◌, ◌≢◌, ◌≤◌, ℕ, Bool, true, false, eqb, if◌then◌else◌, Option, Some, None, List, [], ◌∷◌}
use Rattle.std.specs.List.{All}
use Rattle.bm_journal.specs.declared.ids.Domain.TheVariants.{Plain}
use Rattle.bm_journal.specs.declared.entry.Entry.{Entry}
use Rattle.bm_journal.specs.declared.entry.Entry.TheVariants as entry
use Rattle.bm_journal.specs.EntryText.{unit_list}
use Rattle.bm_law.specs.Begun.{for_domain}
use Rattle.bm_law.specs.State.{State, opening}
use Rattle.bm_law.specs.Lists.{Log, next as lists_after}
use Rattle.bm_page.specs.declared.units.Seal.{Seal}
use Rattle.bm_law_order.specs.Act.{Act, Sealed}
use Rattle.bm_law_order.specs.Act as act
use Rattle.bm_law_order.specs.Chunk.{Chunk}
use Rattle.bm_law_order.specs.Chunk as chunk
use Rattle.bm_law_order.specs.Orders.{AllFit, Order, by, over}
use Rattle.bm_law_order.specs.Story.{Story, lines_of}
use Rattle.bm_law_order.specs.Polls.{for_processor}

-- Since its life ended a unit waits for nothing; it was freed with delay, and waits for the plain grace period of its batch; or that
-- period was seen to be over, with this stamp by this number.
pub data Wait : Type 0 where
  Nothing : Wait
  Batch : Wait
  Over : (stamp seen : ℕ) → Wait

-- By unit what it waits for; by processor the lists that its log leaves, and the class and number of the plain pass that was its last
-- entry of level 0, if that was one.
pub record Waiting : Type 0 where
  pub waits : ℕ → Wait
  pub lists : ℕ → State ℕ
  pub passed : ℕ → Option (ℕ × ℕ)

abbrev pub on_unit : ℕ → Wait → (ℕ → Wait) → ℕ → Wait
on_unit u wait waits v = if eqb v u then wait else waits v

-- what waits for its batch has waited
abbrev pub ended : (stamp seen : ℕ) → Wait → Wait
ended stamp seen Batch = Over stamp seen
ended stamp seen wait = wait

abbrev pub all_ended : (stamp seen : ℕ) → List ℕ → (ℕ → Wait) → ℕ → Wait
all_ended stamp seen [] waits = waits
all_ended stamp seen (u ∷ us) waits =
    let now = all_ended stamp seen us waits in on_unit u (ended stamp seen (now u)) now

-- A batch that is sent behind a pass of its class has waited: its stamp, and the number that was seen. Other units of a parcel wait
-- for what they did.
abbrev pub waited : (class : ℕ) → Option ℕ → Option (ℕ × ℕ) → List ℕ → (ℕ → Wait) → ℕ → Wait
waited c (Some stamp) (Some (d, seen)) us waits =
    if eqb c d then all_ended stamp seen us waits else waits
waited c _ _ us waits = waits

abbrev pub waits_after : (p : ℕ) → Entry → Waiting → ℕ → Wait
waits_after p (entry.Delay u home) m = on_unit u Batch m.waits
waits_after p (entry.Free u home) m = on_unit u Nothing m.waits
waits_after p (entry.Send c to us) m =
    waited c ((m.lists p).rows c).deferred.plain (m.passed p) (unit_list us) m.waits
waits_after p (entry.Given u life) m = on_unit u Nothing m.waits
waits_after p (entry.GivenAfter u life stamp seen) m = on_unit u Nothing m.waits
waits_after p _ m = m.waits

abbrev pub passed_after : Entry → Option (ℕ × ℕ)
passed_after (entry.Pass c d n) = for_domain Plain d (Some (c, n)) None
passed_after _ = None

-- after an entry of level l of processor p
abbrev pub waiting_after : (p l : ℕ) → Entry → Waiting → Waiting
waiting_after p l e m = record {
  waits = waits_after p e m;
  lists = for_processor p (lists_after (m.lists p) (l, e)) m.lists;
  passed = if eqb l 0 then for_processor p (passed_after e) m.passed else m.passed;
}

-- A unit is given without a seal where it waits for nothing, and with the stamp and the number of its batch where that has waited long
-- enough.
abbrev pub SealFits : (p l : ℕ) → Entry → Waiting → Type 0
SealFits p l (entry.Given u life) m = m.waits u ≡ Nothing
SealFits p l (entry.GivenAfter u life stamp seen) m = (m.waits u ≡ Over stamp seen) × (stamp ≤ seen)
SealFits p l _ m = Unit {0}

abbrev pub nobody_waits : Waiting
nobody_waits = record { waits = λ u. Nothing; lists = opening; passed = λ p. None }

-- Each unit of an order is given with what it has waited for.
abbrev pub IsSealed : Order → Type 0
IsSealed order = AllFit waiting_after SealFits order nobody_waits

-- ---- as acts tell it

-- what a unit with this seal has waited for
abbrev pub waited_for : Option Seal → Wait
waited_for None = Nothing
waited_for (Some seal) = Over seal.stamp seal.seen

-- a number that was seen isn't below the stamp
abbrev pub HasPassed : Option Seal → Type 0
HasPassed None = Unit {0}
HasPassed (Some seal) = seal.stamp ≤ seal.seen

-- what a unit waits for once its life has ended, by a free with delay or a plain one
abbrev pub wait_after : (delayed : Bool) → Wait
wait_after true = Batch
wait_after false = Nothing

-- the seal with which a unit is among these, if it is
abbrev pub seal_among : List Sealed → ℕ → Option (Option Seal)
seal_among [] u = None
seal_among (s ∷ more) u = if eqb s.unit u then Some s.seal else seal_among more u

-- A unit that waited for its batch goes away with the seal of what it waited for. Where it has none it waited for a tracing period alone,
-- and nothing is said of it any more. What didn't wait for a batch goes as it was.
abbrev pub GoesAway : Option Seal → (before now : Wait) → Type 0
GoesAway None Batch now = Unit {0}
GoesAway (Some seal) Batch now = (now ≡ Over seal.stamp seal.seen) × (seal.stamp ≤ seal.seen)
GoesAway seal Nothing now = now ≡ Nothing
GoesAway seal (Over stamp seen) now = now ≡ Over stamp seen

-- .. if it goes
abbrev pub Goes : Option (Option Seal) → (before now : Wait) → Type 0
Goes None before now = now ≡ before
Goes (Some seal) before now = GoesAway seal before now

-- none of these units waits for its batch
abbrev pub NoneAmong : (ℕ → Wait) → List ℕ → Type 0
NoneAmong waits us = All (λ u. waits u ≢ Batch) us

-- What units wait for before an act and after it: a unit begins a life with the seal of what it has waited for.
abbrev pub WaitsBy : Act → (before now : ℕ → Wait) → Type 0
WaitsBy (act.Makes u life type values seal) before now =
    (before u ≡ waited_for seal) × (HasPassed seal × (now ≡ on_unit u Nothing before))
WaitsBy (act.Ends u life home delayed) before now = now ≡ on_unit u (wait_after delayed) before
WaitsBy (act.Sends c to us) before now = (u : ℕ) → Goes (seal_among us u) (before u) (now u)
WaitsBy (act.Returns us) before now = (u : ℕ) → Goes (seal_among us u) (before u) (now u)
WaitsBy (act.Drains c to us) before now = NoneAmong before us × (now ≡ before)
WaitsBy (act.Releases c to us stamp seen) before now = now ≡ all_ended stamp seen us before
WaitsBy _ before now = now ≡ before

-- .. and of some acts, in order
abbrev pub WaitLeads : List Act → (before now : ℕ → Wait) → Type 0
WaitLeads [] before now = now ≡ before
WaitLeads (a ∷ more) before now = (mid : ℕ → Wait) × (WaitsBy a before mid × WaitLeads more mid now)

-- ---- where units wait

-- A batch goes away at level 0, behind a plain pass of its class, with its stamp and the number that was seen there. Where it isn't told what
-- units wait for, nothing is sent or returned.
abbrev pub ReleaseFits : (p l : ℕ) → Chunk → Waiting → Type 0
ReleaseFits p l (chunk.Releasing c to us stamp seen) m =
    (l ≡ 0) × ((((m.lists p).rows c).deferred.plain ≡ Some stamp) × (m.passed p ≡ Some (c, seen)))
ReleaseFits p l (chunk.Sending c to us) m = ⊥
ReleaseFits p l (chunk.Returning c us) m = ⊥
ReleaseFits p l _ m = Unit {0}

-- what the entries of a processor leave
abbrev pub waiting_over : (p : ℕ) → Log → Waiting → Waiting
waiting_over p log m = over waiting_after (by p log) m

-- so it is of each chunk of a story, behind what the entries before it leave
abbrev pub ReleasesFit : (p : ℕ) → Story → Waiting → Type 0
ReleasesFit p [] m = Unit {0}
ReleasesFit p (t ∷ ts) m =
    ReleaseFits p t.level t.chunk m × ReleasesFit p ts (waiting_over p (lines_of t) m)

-- an entry that gives no unit; and so it is of each of them
abbrev pub GivesNo : Entry → Type 0
GivesNo (entry.Given u life) = ⊥
GivesNo (entry.GivenAfter u life stamp seen) = ⊥
GivesNo _ = Unit {0}

abbrev pub GivesNone : Log → Type 0
GivesNone [] = Unit {0}
GivesNone (e ∷ es) = GivesNo e.1 × GivesNone es

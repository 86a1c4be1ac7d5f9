-- What stands behind the passes and the begins of a tied log: why each poll had nothing to do, and for what each period began.
use Rattle.std.specs.Prelude.{◌≡◌, ◌⊎◌, ◌≤◌, ◌+◌, ℕ, Bool, false, true, List, [], ◌∷◌, ◌++◌, None, Some, slice_get}
use Rattle.std.proofs.Common.{◌∙◌, ap, refl, sym}
use Rattle.bm_journal.specs.declared.ids.Domain.{Domain}
use Rattle.bm_journal.specs.declared.period.Period.{Period}
use Rattle.bm_journal.specs.declared.entry.Entry.{Entry}
use Rattle.bm_journal.specs.declared.entry.Entry.TheVariants as entry
use Rattle.bm_law.specs.Lists.{Log, after, stamp_of}
use Rattle.bm_law.specs.Spans.{AllFrom}
use Rattle.bm_law.specs.State.{State, opening}
use Rattle.bm_law.proofs.Folds.{after-append}
use Rattle.bm_law_order.specs.Act.{Act}
use Rattle.bm_law_order.specs.Calls.{calls_in, closes, lock_in, tag_after}
use Rattle.bm_law_order.specs.Act as act
use Rattle.bm_law_order.specs.Chunk.{Chunk, is_judged}
use Rattle.bm_law_order.specs.Chunk as chunk
use Rattle.bm_law_order.specs.Graphs.{Effect, Refuses, effect_of, graph_names_in}
use Rattle.bm_law_order.specs.Tie.{Tied, whatever}
use Rattle.bm_grace.specs.Known.{side}
use Rattle.bm_work.specs.Rested.{Fails, GoesFrom, IsIdle}
use Rattle.bm_exec_levels.specs.Asked.{AsksFor}
use Rattle.bm_grace.specs.declared.grace.Knows.{Ghosts as Knows}

-- By the lists that the log of processor p leaves, the batch of this class, or of some class, waits for this stamp.
abbrev pub WaitsIn : ℕ → ℕ → Domain → ℕ → Log → Type 0
WaitsIn p i d x log = stamp_of d ((after (opening p) log).rows i).deferred ≡ Some x

abbrev pub SomeWaits : ℕ → Domain → ℕ → Log → Type 0
SomeWaits p d x log = (i : ℕ) × WaitsIn p i d x log

-- A period that processor p begins with this number is due: a batch waits for a stamp that isn't below it.
pub record IsDue (p : ℕ) (d : Domain) (n : ℕ) (log : Log) : Type 0 where
  pub stamp : ℕ
  pub awaited : SomeWaits p d stamp log
  pub below : n ≤ stamp

-- Processor p may call the list or tree of this name: its log holds the lock, or it is the closing's, in which nobody holds one.
abbrev pub MayCall : (p : ℕ) → (graph : List ℕ) → Log → Type 0
MayCall p graph log =
    (lock_in log ≡ Some graph) ⊎ ((p ≡ 0) × (closes log ≡ true) × (lock_in log ≡ None))

-- a refused push names the list or tree that has the object, which is one of these
abbrev pub OwnerIs : List (List ℕ) → Effect → (owner : List ℕ) → Type 0
OwnerIs names (Refuses id place) owner = slice_get names place ≡ Some owner
OwnerIs names _ owner = Unit {0}

-- a period's begin and end leave the batches as they are
pub waits-begun :
    (q l i : ℕ) (d : Domain) (x n : ℕ) (log : Log)
    → WaitsIn q i d x (log ++ (l, entry.Begin d n) ∷ []) → WaitsIn q i d x log
waits-begun q l i d x n log w =
    ap (λ (s : State ℕ). stamp_of d (s.rows i).deferred)
    (sym (after-append (opening q) log ((l, entry.Begin d n) ∷ []))) ∙ w

pub waits-whole :
    (q l i : ℕ) (d : Domain) (x n : ℕ) (p : Period) (log : Log)
    → WaitsIn q i d x (log ++ (l, entry.Begin d n) ∷ (l, entry.Finish p) ∷ []) → WaitsIn q i d x log
waits-whole q l i d x n p log w =
    ap (λ (s : State ℕ). stamp_of d (s.rows i).deferred)
    (sym (after-append (opening q) log ((l, entry.Begin d n) ∷ (l, entry.Finish p) ∷ []))) ∙ w

module _ {W : Type 0} (knows : Knows W) where
  -- which processor's side it is
  abbrev pub home : W → ℕ
  home w = (knows.known w).grace.processor

  -- the names of its maps
  abbrev pub names_of : W → List (List ℕ)
  names_of w = graph_names_in (knows.known w).objects.graphs

  -- one side came to be another by these acts, and is the same processor's, with the same maps
  abbrev pub DoesHere : List Act → W → W → Type 0
  DoesHere acts a b = knows.does acts a b × (home b ≡ home a) × (names_of b ≡ names_of a)

  pub here-same : (a : W) → DoesHere [] a a
  here-same a = (knows.does_same a, refl, refl)

  pub here-join :
      (es fs : List Act) (a b c : W) → DoesHere es a b → DoesHere fs b c → DoesHere (es ++ fs) a c
  here-join es fs a b c x y = (knows.does_join es fs a b c x.0 y.0, y.1 ∙ x.1, y.2 ∙ x.2)

  -- a tie without the processor
  pub tied-bare :
      (judge : ℕ → Log → Chunk → Type 0) (since : Log) (start : W) (l : ℕ) (done : List Act)
      (es : List Entry) (log : Log) (w : W) → Tied judge DoesHere since start l done es log w
      → Tied judge knows.does since start l done es log w
  tied-bare judge since start l done es log w t =
      record { story = t.story; judged = t.judged; log_is = t.log_is; done_is = t.done_is.0 }

  -- Behind this log: a look in vain, also at a period that began just now, for a batch that waits for the stamp, below it; a number that
  -- needs no begin; a begin that was too late for the number that was read; or such a period that ended at once.
  pub data Idles (d : Domain) (x : ℕ) (log : Log) (w : W) : List Act → List Entry → Type 0 where
    Looked :
        Fails (side d (knows.known w)).first (side d (knows.known w)).later
        → Idles d x log w (act.Looks d (side d (knows.known w)).later ∷ []) []
    Begun :
        (n : ℕ) → n ≤ x → SomeWaits (home w) d x log
        → Fails (side d (knows.known w)).first (side d (knows.known w)).later
        → Idles d x log w (act.Begins d n ∷ act.Looks d (side d (knows.known w)).later ∷ [])
        (entry.Begin d n ∷ [])
    Read :
        (n : ℕ) → IsIdle x n → (side d (knows.known w)).number ≡ 0
        → Idles d x log w (act.Reads d x n ∷ []) []
    Missed : (even n : ℕ) → Idles d x log w (act.Reads d x even ∷ act.Misses d even n ∷ []) []
    Ended :
        (n : ℕ) (ws : List ℕ) (p : Period) → p.domain ≡ d → n ≤ x → SomeWaits (home w) d x log
        → Idles d x log w (act.Begins d n ∷ act.Looks d ws ∷ act.Finishes p ∷ [])
        (entry.Begin d n ∷ entry.Finish p ∷ [])

  -- A log that is tied since then to such a world, and by what was done last a poll for this stamp has nothing to do.
  pub record Idle (since : Log) (start : W) (l : ℕ) (d : Domain) (x : ℕ) (log : Log) (w : W) :
      Type 0 where
    pub done : List Act
    pub es : List Entry
    pub idle : Idles d x log w done es
    pub tied : Tied whatever DoesHere since start l done es log w

  -- A poll for the batch of a class was idle, and handlers of higher levels may have run since.
  pub record WasIdle (since : Log) (start : W) (l c : ℕ) (d : Domain) (x : ℕ) (log : Log) :
      Type 0 where
    pub waits : WaitsIn (home start) c d x log
    pub before : Log
    pub at : W
    pub idle : Idle since start l d x before at
    pub added : Log
    pub from : AllFrom (l + 1) added
    pub log_is : log ≡ before ++ added

  -- A chunk of level l is judged so by the log before it, since a time: a pass stands after a poll that was idle, a period that
  -- begins was due, a life is made with the values that the level asks for, an exchange and a call on a list or tree have the tag of the next call of the log, a lock is taken
  -- where none is held and given back where it is, a list or tree is called under its lock or in the closing, a batch of the first stage goes away directly after its pass, and units go back of which nobody tells what they wait
  -- for where the closing has begun, and are never sent.
  abbrev pub polled : (closing : Bool) (since : Log) (start : W) → ℕ → Log → Chunk → Type 0
  polled closing since start l log (chunk.Passing c d x n) = WasIdle since start l c d x log
  polled closing since start l log (chunk.Beginning d n ws) = IsDue (home start) d n log
  polled closing since start l log (chunk.WholePeriod n ws p) = IsDue (home start) p.domain n log
  polled closing since start l log (chunk.Releasing c to us stamp seen) =
      GoesFrom (home start) l c stamp seen log
  polled closing since start l log (chunk.Making u life type values seal) = AsksFor l values log
  polled closing since start l log (chunk.Exchanging name put was by tag) =
      tag ≡ tag_after (home start) (calls_in log)
  polled closing since start l log (chunk.Locking graph) = (l ≡ 0) × (lock_in log ≡ None)
  polled closing since start l log (chunk.Unlocking graph) = (l ≡ 0) × (lock_in log ≡ Some graph)
  polled closing since start l log (chunk.Calling graph position call owner tag) =
      (l ≡ 0) × MayCall (home start) graph log × OwnerIs (names_of start) (effect_of call) owner
      × (tag ≡ tag_after (home start) (calls_in log))
  polled closing since start l log (chunk.Returning c us) = closing ≡ true
  polled closing since start l log (chunk.Sending c to us) = ⊥
  polled closing since start l log _ = Unit {0}

  -- what needs no judge has none
  pub unpolled :
      (closing : Bool) (since : Log) (start : W) (l : ℕ) (log : Log) (c : Chunk)
      → is_judged c ≡ false → polled closing since start l log c
  unpolled closing since start l log (chunk.Passing c d x n) e = absurd (cc)
  unpolled closing since start l log (chunk.Beginning d n ws) e = absurd (cc)
  unpolled closing since start l log (chunk.WholePeriod n ws p) e = absurd (cc)
  unpolled closing since start l log (chunk.Releasing c to us stamp seen) e = absurd (cc)
  unpolled closing since start l log (chunk.Making u life type values seal) e = absurd (cc)
  unpolled closing since start l log (chunk.Exchanging name put was by tag) e = absurd (cc)
  unpolled closing since start l log (chunk.Locking graph) e = absurd (cc)
  unpolled closing since start l log (chunk.Unlocking graph) e = absurd (cc)
  unpolled closing since start l log (chunk.Calling graph position call owner tag) e = absurd (cc)
  unpolled closing since start l log (chunk.Returning c us) e = absurd (cc)
  unpolled closing since start l log (chunk.Sending c to us) e = absurd (cc)
  unpolled closing since start l log _ e = tt

  -- what is judged so before the closing is judged so in it
  pub later :
      (since : Log) (start : W) (l : ℕ) (log : Log) (c : Chunk) → polled false since start l log c
      → polled true since start l log c
  later since start l log (chunk.Passing c d x n) j = j
  later since start l log (chunk.Beginning d n ws) j = j
  later since start l log (chunk.WholePeriod n ws p) j = j
  later since start l log (chunk.Releasing c to us stamp seen) j = j
  later since start l log (chunk.Making u life type values seal) j = j
  later since start l log (chunk.Exchanging name put was by tag) j = j
  later since start l log (chunk.Locking graph) j = j
  later since start l log (chunk.Unlocking graph) j = j
  later since start l log (chunk.Calling graph position call owner tag) j = j
  later since start l log (chunk.Returning c us) j = refl
  later since start l log (chunk.Sending c to us) j = j
  later since start l log _ j = tt

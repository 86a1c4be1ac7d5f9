-- Stamps over all logs: what waits for a grace period waits long enough. (get_state_synchronize_rcu, by rcu_seq_snap, and
-- poll_state_synchronize_rcu, by rcu_seq_done, of kernel/rcu/rcu.h. Where the allocator of the kernel hands a batch to call_rcu
-- or call_rcu_tasks_trace, in check_free_by_rcu and do_call_rcu_ttrace of kernel/bpf/memalloc.c, stamps stand here, which is
-- this project's own.)
use Rattle.std.specs.Prelude.{◌≡◌, ◌≤◌, ℕ, ◌+◌, ◌-◌, ◌*◌, ◌%◌, ◌==◌, Bool, true, false, not, ◌&&◌, if◌then◌else◌, Option, None, Some, List, [], ◌∷◌, ◌++◌, length}
use Rattle.bm_journal.specs.declared.ids.Domain.{Domain}
use Rattle.bm_journal.specs.declared.ids.Domain.TheVariants.{Plain, Tracing}
use Rattle.bm_journal.specs.declared.entry.Entry.{Entry}
use Rattle.bm_journal.specs.declared.entry.Entry.TheVariants as entry
use Rattle.bm_journal.specs.EntryText.{unit_list}
use Rattle.bm_law.specs.State.{State, opening}
use Rattle.bm_law.specs.Lists.{Log, next}
use Rattle.bm_law.specs.Spans.{own_entries}
use Rattle.bm_law.specs.Begun.{for_domain}
use Rattle.bm_law_lives.specs.Together.{times, Each, named, EachLog}
use Rattle.bm_law_lives.specs.Lives.{is_last}
use Rattle.bm_law_lives.specs.GraceLaw.{InDomain, begun_number}

-- ---- stamps and numbers

-- The number that ends a wait which begins at number q: of the next period to begin. One in progress doesn't count.
abbrev pub waits_for : ℕ → ℕ
waits_for q = if (q % 2 == 0) then q + 2 else q + 3

-- the numbers of domain d that an entry names: of a period's begin, of its end, and one that was seen
abbrev pub named_number : Domain → Entry → List ℕ
named_number d (entry.Begin e n) = for_domain d e (n ∷ []) []
named_number d (entry.Finish period) = for_domain d period.domain (period.number ∷ []) []
named_number d (entry.Pass c e n) = for_domain d e (n ∷ []) []
named_number d _ = []

-- A stamp is even, and waits for each number that its log named before.
abbrev pub StampFits : Domain → List ℕ → Entry → Type 0
StampFits d before (entry.Stamp c e x) =
    InDomain d e ((x % 2 ≡ 0) × Each (λ q. waits_for q ≤ x) before)
StampFits d before _ = Unit {0}

abbrev pub StampsFit : Domain → List ℕ → Log → Type 0
StampsFit d before [] = Unit {0}
StampsFit d before (e ∷ es) = StampFits d before e.1 × StampsFit d (named_number d e.1 ++ before) es

-- the number of domain d that an entry saw
abbrev pub seen_number : Domain → Entry → List ℕ
seen_number d (entry.Pass c e n) = for_domain d e (n ∷ []) []
seen_number d _ = []

-- No number is seen above the last one that a period of the domain can end with.
abbrev pub SeenFit : Domain → List Log → Type 0
SeenFit d logs =
    Each (λ n. n ≤ 2 * length (named (begun_number d) logs)) (named (seen_number d) logs)

-- ---- what the last entry of level 0 was

abbrev pub last_after : Option Entry → ℕ × Entry → Option Entry
last_after last e = if (e.0 == 0) then Some e.1 else last

-- the number that an entry saw, where it is a pass of this class and domain; and that the last entry of level 0 saw
abbrev pub pass_of : ℕ → Domain → Entry → Option ℕ
pass_of c d (entry.Pass k e n) = if (k == c) then for_domain d e (Some n) None else None
pass_of c d _ = None

abbrev pub passed : ℕ → Domain → Option Entry → Option ℕ
passed c d None = None
passed c d (Some e) = pass_of c d e

-- ---- seals: a unit that was freed with delay is given again after its plain batch has waited

-- whether units have u among them
abbrev pub holds : ℕ → List ℕ → Bool
holds u us = not (times u us == 0)

-- this where a test holds, and else that; and this of what was found, if anything was, and else that
abbrev pub Either : Bool → Type 0 → Type 0 → Type 0
Either true This That = This
Either false This That = That

abbrev pub Found : Option ℕ → (ℕ → Type 0) → Type 0 → Type 0
Found (Some x) This That = This x
Found None This That = That

-- a delayed free of this unit begins
abbrev pub is_delay_of : ℕ → Entry → Bool
is_delay_of u (entry.Delay v home) = u == v
is_delay_of u _ = false

-- behind a drop of this unit its level has the reply `last` and the unit's delayed free
abbrev pub is_delayed : ℕ → List Entry → Bool
is_delayed u (reply ∷ free ∷ own) = is_last reply && is_delay_of u free
is_delayed u _ = false

-- What a log has behind the drop that ended this life of unit u by a delayed free, if one did; and the same of all logs.
abbrev pub part_behind : ℕ → ℕ → Entry → List Entry → Log → List Log
part_behind u life (entry.Drop v k) own part =
    if ((u == v) && ((life == k) && is_delayed u own)) then part ∷ [] else []
part_behind u life _ own part = []

abbrev pub parts_behind : ℕ → ℕ → Log → List Log
parts_behind u life [] = []
parts_behind u life (e ∷ es) =
    part_behind u life e.1 (own_entries e.0 es) es ++ parts_behind u life es

abbrev pub delayed_parts : ℕ → ℕ → List Log → List Log
delayed_parts u life [] = []
delayed_parts u life (log ∷ logs) = parts_behind u life log ++ delayed_parts u life logs

-- the class of the batch that an entry makes, where unit u is in it
abbrev pub batch_with : ℕ → Entry → Option ℕ
batch_with u (entry.Batch c us) = if holds u (unit_list us) then Some c else None
batch_with u _ = None

-- the stamp that a plain batch of class c takes
abbrev pub stamp_in : ℕ → Entry → Option ℕ
stamp_in c (entry.Stamp k e x) = if (k == c) then for_domain Plain e (Some x) None else None
stamp_in c _ = None

-- whether a parcel has unit u in it
abbrev pub sends_unit : ℕ → Entry → Bool
sends_unit u (entry.Send c to us) = holds u (unit_list us)
sends_unit u _ = false

-- Behind the stamp x, the next parcel with unit u follows a plain pass of class c that saw n, which isn't below the stamp.
abbrev pub SentAfter : ℕ → ℕ → ℕ → ℕ → Option Entry → Log → Type 0
SentAfter c u x n last [] = ⊥
SentAfter c u x n last (e ∷ es) =
    Either (sends_unit u e.1) ((passed c Plain last ≡ Some n) × (x ≤ n))
    (SentAfter c u x n (last_after last e) es)

-- Behind the batch with unit u, the next plain stamp of its class is x, and its parcel is sent so.
abbrev pub StampedAt : ℕ → ℕ → ℕ → ℕ → Log → Type 0
StampedAt c u x n [] = ⊥
StampedAt c u x n (e ∷ es) =
    Found (stamp_in c e.1) (λ y. (y ≡ x) × SentAfter c u x n None es) (StampedAt c u x n es)

-- Behind the delayed free of unit u, the first plain batch with it is stamped and sent so.
abbrev pub BatchedAt : ℕ → ℕ → ℕ → Log → Type 0
BatchedAt u x n [] = ⊥
BatchedAt u x n (e ∷ es) = Found (batch_with u e.1) (λ c. StampedAt c u x n es) (BatchedAt u x n es)

abbrev pub SealedIn : ℕ → ℕ → ℕ → List Log → Type 0
SealedIn u x n [] = ⊥
SealedIn u x n (part ∷ parts) = BatchedAt u x n part

-- A unit is given with a seal exactly where its life before ended by a delayed free; and the seal is that of its batch.
abbrev pub GivenFits : List Log → Entry → Type 0
GivenFits logs (entry.Given u life) = delayed_parts u (life - 1) logs ≡ []
GivenFits logs (entry.GivenAfter u life x n) = SealedIn u x n (delayed_parts u (life - 1) logs)
GivenFits logs _ = Unit {0}

abbrev pub SealsFit : List Log → Log → Type 0
SealsFit logs [] = Unit {0}
SealsFit logs (e ∷ es) = GivenFits logs e.1 × SealsFit logs es

-- ---- returns: a unit goes back to the stock after its tracing batch has waited

-- Units by class, where class c has these now.
abbrev pub on_class : ℕ → List ℕ → (ℕ → List ℕ) → ℕ → List ℕ
on_class c us units = λ k. if (k == c) then us else units k

-- The units, by class, that stood in Second when the tracing batch in progress took its stamp: `begin2` or `sweep` brought them
-- there. A batch that begins has taken none.
abbrev pub stood_after : State ℕ → Entry → (ℕ → List ℕ) → ℕ → List ℕ
stood_after s (entry.BeginSecond c us) stood = on_class c [] stood
stood_after s (entry.Sweep c us) stood = on_class c [] stood
stood_after s (entry.Stamp c d x) stood =
    for_domain Tracing d (on_class c (s.rows c).deferred.second stood) stood
stood_after s _ stood = stood

-- a number was seen, and it isn't below the stamp
abbrev pub HasPassed : Option ℕ → Option ℕ → Type 0
HasPassed (Some stamp) (Some seen) = stamp ≤ seen
HasPassed _ _ = ⊥

-- A return stands behind a tracing pass of its class that saw the batch's stamp pass, and gives units back that stood in
-- Second when that stamp was taken.
abbrev pub ReturnFits : State ℕ → Option Entry → (ℕ → List ℕ) → Entry → Type 0
ReturnFits s last stood (entry.Return c us) =
    HasPassed (s.rows c).deferred.tracing (passed c Tracing last)
    × Each (λ u. holds u (stood c) ≡ true) (unit_list us)
ReturnFits s last stood _ = Unit {0}

abbrev pub ReturnsFit : State ℕ → Option Entry → (ℕ → List ℕ) → Log → Type 0
ReturnsFit s last stood [] = Unit {0}
ReturnsFit s last stood (e ∷ es) =
    ReturnFits s last stood e.1
    × ReturnsFit (next s e) (last_after last e) (stood_after s e.1 stood) es

-- ---- the law

pub record StampLaw (logs : List Log) : Type 0 where
  pub plain_stamps : EachLog (λ p log. StampsFit Plain [] log) logs
  pub tracing_stamps : EachLog (λ p log. StampsFit Tracing [] log) logs
  pub plain_seen : SeenFit Plain logs
  pub tracing_seen : SeenFit Tracing logs
  pub seals : EachLog (λ p log. SealsFit logs log) logs
  pub returns : EachLog (λ p log. ReturnsFit (opening p) None (λ c. []) log) logs

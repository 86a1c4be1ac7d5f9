-- How units that wait go away. (check_free_by_rcu of kernel/bpf/memalloc.c hands all of waiting_for_gp to call_rcu at once. Stamps,
-- passes and parcels are this project's own.)
use Rattle.std.specs.Prelude.{◌≡◌, ◌⊎◌, ◌<◌, ℕ, Some, [], ◌∷◌}
use Rattle.bm_journal.specs.declared.entry.Entry.{Entry}
use Rattle.bm_journal.specs.declared.entry.Entry.TheVariants as entry
use Rattle.bm_journal.specs.EntryText.{unit_list}
use Rattle.bm_law.specs.Spans.{own_entries}
use Rattle.bm_law_order.specs.Orders.{AllFit, Order, part_of}
use Rattle.bm_law_order.specs.Seals.{GivesNo, NoneAmong, Waiting, nobody_waits, waiting_after}
use Rattle.bm_law_seals.specs.Answered.{AreAnswered, ArePut}

-- A send takes the whole batch of its class: nothing is in hand, the batch has taken its stamp, and the last entry of ordinary code was
-- a plain pass of the class.
pub record TakesBatch (p l c : ℕ) (m : Waiting) : Type 0 where
  pub hand : ((m.lists p).sides l).hand ≡ []
  pub stamp : ℕ
  pub stamped : ((m.lists p).rows c).deferred.plain ≡ Some stamp
  pub taken : 0 < stamp
  pub seen : ℕ
  pub passed : m.passed p ≡ Some (c, seen)

-- Stamps are taken by ordinary code; and a send takes a batch, or no unit that waits for its batch.
abbrev pub BatchFits : (p l : ℕ) → Entry → Waiting → Type 0
BatchFits p l (entry.Stamp c d x) m = l ≡ 0
BatchFits p l (entry.Send c to us) m = TakesBatch p l c m ⊎ NoneAmong m.waits (unit_list us)
BatchFits p l _ m = Unit {0}

-- no entry gives a unit
abbrev pub GivesNoMore : Order → Type 0
GivesNoMore [] = Unit {0}
GivesNoMore (e ∷ o) = GivesNo e.entry × GivesNoMore o

-- nothing is given after a sweep
abbrev pub EndsGiving : Entry → Order → Type 0
EndsGiving (entry.Sweep c us) o = GivesNoMore o
EndsGiving _ o = Unit {0}

abbrev pub SweepsLast : Order → Type 0
SweepsLast [] = Unit {0}
SweepsLast (e ∷ o) = EndsGiving e.entry o × SweepsLast o

-- In an order the lines of each drop stand together in its log; what is freed with delay is put where it waits; what waits goes away as a
-- batch, after the pass of its stamp; and nothing is given after a sweep.
pub record WaitsInBatches (o : Order) : Type 0 where
  pub answered : (p : ℕ) → AreAnswered (part_of p o)
  pub put : (p l : ℕ) → ArePut (own_entries l (part_of p o))
  pub batches : AllFit waiting_after BatchFits o nobody_waits
  pub swept : SweepsLast o

-- How parts of a log are made.
use Rattle.std.proofs.Common.{◌≡◌, ℕ, List, [], ◌∷◌, ◌++◌, refl, arith}
use Rattle.bm_journal.specs.declared.entry.Entry.{Entry}
use Rattle.bm_law.specs.State.{State}
use Rattle.bm_law.specs.Lists.{Log, after}
use Rattle.bm_law.specs.Spans.{AllFrom, own_entries}
use Rattle.bm_law_work.specs.Parts.{Part, Stand, Say, Then}

-- all entries are of level 0 and above
pub from-zero : (part : Log) → AllFrom 0 part
from-zero [] = tt
from-zero (e ∷ es) = (omega arith, from-zero es)

-- entries of ordinary code
pub ordinary-stand : (own : List Entry) (s : State ℕ) (part : Log) → own_entries 0 part ≡ own → Stand 0 own s part
ordinary-stand own s part h = record { from = from-zero part; own_is = h }

pub ordinary-say : (phrase : List Entry → Type 0) (own : List Entry) (s : State ℕ) (part : Log) → phrase own → own_entries 0 part ≡ own → Say 0 phrase s part
ordinary-say phrase own s part p h = (own, p, ordinary-stand own s part h)

-- one part, and then another
pub then-of : (first second : Part) (s : State ℕ) (one two : Log) → first s one → second (after s one) two → Then first second s (one ++ two)
then-of first second s one two p q = record { one = one; two = two; part_is = refl; is_first = p; is_second = q }

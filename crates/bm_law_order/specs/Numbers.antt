-- The number of each domain of grace periods, as entries name it. (rcu_seq_start, rcu_seq_end, rcu_seq_snap and rcu_seq_done of
-- kernel/rcu/rcu.h; that any processor may begin a period, and that it then is the one to end it, is this project's own.)
use Rattle.std.specs.Prelude.{◌≡◌, ℕ, ◌+◌, ◌%◌, Option, Some, None}
use Rattle.bm_journal.specs.declared.entry.Entry.{Entry}
use Rattle.bm_journal.specs.declared.entry.Entry.TheVariants as entry
use Rattle.bm_law_order.specs.ByDomain.{ByDomain, both, of, with_of}

-- One domain: its number, which is odd while a period is in progress, and the processor that then has it in progress.
pub record Course : Type 0 where
  pub number : ℕ
  pub driver : Option ℕ

abbrev pub Numbers : Type 0
Numbers = ByDomain Course

abbrev pub first_numbers : Numbers
first_numbers = both (record { number = 0; driver = None })

-- The stamp of a number that was seen: the number at the end of the first period that begins afterwards. Where the number is odd, a
-- period is in progress, and may have begun before what the stamp is taken for.
abbrev pub next : ℕ → ℕ
next number = number + 2 + number % 2

-- processor p begins a period, and a period ends
abbrev pub begun : ℕ → Course → Course
begun p here = record { number = here.number + 1; driver = Some p }

abbrev pub ended : Course → Course
ended here = record { number = here.number + 1; driver = None }

-- what an entry of level l of processor p makes of them
abbrev pub numbers_after : (p l : ℕ) → Entry → Numbers → Numbers
numbers_after p l (entry.Begin d n) numbers = with_of d (begun p (of d numbers)) numbers
numbers_after p l (entry.Finish period) numbers =
    with_of period.domain (ended (of period.domain numbers)) numbers
numbers_after p l _ numbers = numbers

-- a period begins where none is in progress
pub record IsBegin (n : ℕ) (here : Course) : Type 0 where
  pub even : here.number % 2 ≡ 0
  pub number : n ≡ here.number + 1

-- the processor ends the period that it has in progress
pub record IsEnd (p n : ℕ) (here : Course) : Type 0 where
  pub driver : here.driver ≡ Some p
  pub odd : here.number % 2 ≡ 1
  pub number : n ≡ here.number + 1

-- what such an entry needs of them
abbrev pub NumbersFit : (p l : ℕ) → Entry → Numbers → Type 0
NumbersFit p l (entry.Begin d n) numbers = IsBegin n (of d numbers)
NumbersFit p l (entry.Finish period) numbers = IsEnd p period.number (of period.domain numbers)
NumbersFit p l (entry.Stamp c d x) numbers = x ≡ next (of d numbers).number
NumbersFit p l (entry.Pass c d n) numbers = n ≡ (of d numbers).number
NumbersFit p l _ numbers = Unit {0}

-- The words of the periods in progress: as they were first looked at, and as they are later. (rcu_gp_init and rcu_gp_fqs of
-- kernel/rcu/tree.c for the plain domain, rcu_tasks_wait_gp of kernel/rcu/tasks.h for the tracing one. What is looked at is this
-- project's own.)
use Rattle.std.specs.Prelude.{◌≡◌, ◌⊎◌, ◌<◌, ℕ, ◌%◌, List, [], ◌∷◌, take}
use Rattle.bm_journal.specs.declared.ids.Domain.{Domain}
use Rattle.bm_journal.specs.declared.ids.Domain.TheVariants.{Plain, Tracing}
use Rattle.bm_journal.specs.declared.period.Period.{Period}
use Rattle.bm_journal.specs.declared.entry.Entry.{Entry}
use Rattle.bm_journal.specs.declared.entry.Entry.TheVariants as entry
use Rattle.bm_law_order.specs.ByDomain.{ByDomain, both, of, with_of}
use Rattle.bm_law_order.specs.Words.{Words}

-- The words of the period of a domain that is in progress: at its begin, and as they were last looked at. Entries of logs name no
-- look, so by them none are the last ones.
pub record Looked : Type 0 where
  pub first : List ℕ
  pub later : List ℕ

abbrev pub Looks : Type 0
Looks = ByDomain Looked

abbrev pub nothing_looked : Looked
nothing_looked = record { first = []; later = [] }

abbrev pub first_looks : Looks
first_looks = both nothing_looked

-- a word of each, in turn
abbrev pub in_turn : List ℕ → List ℕ → List ℕ
in_turn (x ∷ xs) (y ∷ ys) = x ∷ y ∷ in_turn xs ys
in_turn _ _ = []

-- the words of a period as first looked at, once it found these: they stay what they are, if there are some
abbrev pub first_or : List ℕ → List ℕ → List ℕ
first_or words [] = words
first_or words (word ∷ first) = word ∷ first

-- The words that a period of a domain looks at, among so many processors: the plain ones, and in the tracing domain both of each
-- processor, the plain one first.
abbrev pub looked_at : (processors : ℕ) → Words → Domain → List ℕ
looked_at processors words Plain = take processors words.plain
looked_at processors words Tracing =
    in_turn (take processors words.plain) (take processors words.tracing)

-- what an entry of level l of processor p makes of them, where these words would be found
abbrev pub looks_after : (p l : ℕ) → Entry → (Domain → List ℕ) → Looks → Looks
looks_after p l (entry.Begin d n) found looks =
    with_of d (record { first = found d; later = [] }) looks
looks_after p l (entry.Finish period) found looks = with_of period.domain nothing_looked looks
looks_after p l _ found looks = looks

-- each word was even at first, or is greater later
abbrev pub Passes : List ℕ → List ℕ → Type 0
Passes [] [] = Unit {0}
Passes (first ∷ firsts) (later ∷ laters) =
    ((first % 2 ≡ 0) ⊎ (first < later)) × Passes firsts laters
Passes _ _ = ⊥

-- A period ends with the words that it had at its begin and with those that are found now, and they pass.
pub record HasPassed (period : Period) (found : List ℕ) (here : Looked) : Type 0 where
  pub first : period.first ≡ here.first
  pub later : period.later ≡ found
  pub passed : Passes period.first period.later

-- what such an entry needs of them
abbrev pub LooksFit : (p l : ℕ) → Entry → (Domain → List ℕ) → Looks → Type 0
LooksFit p l (entry.Finish period) found looks =
    HasPassed period (found period.domain) (of period.domain looks)
LooksFit p l _ found looks = Unit {0}

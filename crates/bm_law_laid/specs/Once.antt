-- What an order names, and numbers that it names once. (This project's own: journals are.)
use Rattle.std.specs.Prelude.{◌≡◌, ◌⊎◌, ◌<◌, ◌≤◌, ◌%◌, ℕ, List, [], ◌∷◌, ◌++◌}
use Rattle.bm_journal.specs.declared.entry.Entry.{Entry}
use Rattle.bm_law_lives.specs.Together.{times}
use Rattle.bm_law_order.specs.Orders.{Order}

-- what the entries of an order name, in order
abbrev pub named_by : {A : Type 0} → (Entry → List A) → Order → List A
named_by names [] = []
named_by names (e ∷ es) = names e.entry ++ named_by names es

-- Of the numbers of a kind, each one above the first bound and not above the second is in the list once, and no other number is.
pub record Once (P : ℕ → Type 0) (from to : ℕ) (xs : List ℕ) : Type 0 where
  pub once : (x : ℕ) → P x → from < x → x ≤ to → times x xs ≡ 1
  pub none : (x : ℕ) → (P x → ⊥) ⊎ ((x ≤ from) ⊎ (to < x)) → times x xs ≡ 0

abbrev pub Odd : ℕ → Type 0
Odd x = x % 2 ≡ 1

abbrev pub Even : ℕ → Type 0
Even x = x % 2 ≡ 0

abbrev pub Any : ℕ → Type 0
Any x = Unit {0}

-- What a recorder tells.
use Rattle.std.specs.Prelude.{◌≡◌, ℕ, List, [], ◌∷◌, ◌++◌, Option, Some, None, IsTrue, is_none, refl}
use Rattle.bm_journal.specs.declared.counts.Counts.{Counts}
use Rattle.bm_journal.specs.declared.entry.Entry.{Entry}

-- after a put a log was told before, and has gained this entry at its end
pub record Gains (before : Option (List (ℕ × Entry))) (level : ℕ) (entry : Entry)
    (after : List (ℕ × Entry)) : Type 0 where
  pub log : List (ℕ × Entry)
  pub told : before ≡ Some log
  pub more : after ≡ log ++ (level, entry) ∷ []

-- where a log is told after a put, it has gained the entry
abbrev pub Appends : Option (List (ℕ × Entry)) → ℕ → Entry → Option (List (ℕ × Entry)) → Type 0
Appends before level entry None = Unit {0}
Appends before level entry (Some after) = Gains before level entry after

-- a recorder that stores its log: the log, told exactly where no entry was lost, and the counts
pub record Kept : Type 0 where
  pub told : Option (List (ℕ × Entry))
  pub counted : Counts

-- no value is there
pub none-is_none : {X : Type 0} (o : Option X) → IsTrue (is_none o) → o ≡ None
none-is_none None h = refl
none-is_none (Some x) h = cc

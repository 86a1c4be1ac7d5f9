-- A line with another number of words than its form has says nothing.
use Rattle.std.proofs.Common.{◌≡◌, ℕ, List, [], ◌∷◌, None, length, refl, Bor}
use Rattle.bm_law_text.specs.declared.kind.Kind.{Kind}
use Rattle.bm_journal_reader.specs.Pieces.{texts}
use Rattle.bm_law_text.specs.Entries.{pushed, found, class_domain}
use Rattle.bm_law_text.specs.Reading.{past_pushed, total_words}

pub class_domain_other : (k : Kind) (ws : List (Bor (List ℕ))) → (length ws ≡ 3 → ⊥) → class_domain k (texts ws) ≡ None
class_domain_other k [] other = refl
class_domain_other k (a ∷ []) other = refl
class_domain_other k (a ∷ b ∷ []) other = refl
class_domain_other k (a ∷ b ∷ c ∷ []) other = absurd (other refl)
class_domain_other k (a ∷ b ∷ c ∷ d ∷ ws) other = refl

pub pushed_other : (k : Kind) (ws : List (Bor (List ℕ))) → (length ws ≡ 5 → ⊥) → (length ws ≡ 7 → ⊥) → pushed k (texts ws) ≡ None
pushed_other k [] five seven = refl
pushed_other k (a ∷ []) five seven = refl
pushed_other k (a ∷ b ∷ []) five seven = refl
pushed_other k (a ∷ b ∷ c ∷ []) five seven = refl
pushed_other k (a ∷ b ∷ c ∷ d ∷ []) five seven = refl
pushed_other k (a ∷ b ∷ c ∷ d ∷ e ∷ []) five seven = absurd (five refl)
pushed_other k (a ∷ b ∷ c ∷ d ∷ e ∷ f ∷ []) five seven = refl
pushed_other k (a ∷ b ∷ c ∷ d ∷ e ∷ f ∷ g ∷ []) five seven = absurd (seven refl)
pushed_other k (a ∷ b ∷ c ∷ d ∷ e ∷ f ∷ g ∷ h ∷ ws) five seven = refl

pub found_other : (k : Kind) (ws : List (Bor (List ℕ))) → (length ws ≡ 4 → ⊥) → (length ws ≡ 5 → ⊥) → found k (texts ws) ≡ None
found_other k [] four five = refl
found_other k (a ∷ []) four five = refl
found_other k (a ∷ b ∷ []) four five = refl
found_other k (a ∷ b ∷ c ∷ []) four five = refl
found_other k (a ∷ b ∷ c ∷ d ∷ []) four five = absurd (four refl)
found_other k (a ∷ b ∷ c ∷ d ∷ e ∷ []) four five = absurd (five refl)
found_other k (a ∷ b ∷ c ∷ d ∷ e ∷ f ∷ ws) four five = refl

pub past_pushed_other : (maps : List (List ℕ)) (k : Kind) (ws : List (Bor (List ℕ))) → (length ws ≡ 2 → ⊥) → (length ws ≡ 4 → ⊥) → past_pushed maps k (texts ws) ≡ None
past_pushed_other maps k [] two four = refl
past_pushed_other maps k (a ∷ []) two four = refl
past_pushed_other maps k (a ∷ b ∷ []) two four = absurd (two refl)
past_pushed_other maps k (a ∷ b ∷ c ∷ []) two four = refl
past_pushed_other maps k (a ∷ b ∷ c ∷ d ∷ []) two four = absurd (four refl)
past_pushed_other maps k (a ∷ b ∷ c ∷ d ∷ e ∷ ws) two four = refl

pub total_words_other : (ws : List (Bor (List ℕ))) → (length ws ≡ 2 → ⊥) → total_words (texts ws) ≡ None
total_words_other [] two = refl
total_words_other (a ∷ []) two = refl
total_words_other (a ∷ b ∷ []) two = absurd (two refl)
total_words_other (a ∷ b ∷ c ∷ ws) two = refl

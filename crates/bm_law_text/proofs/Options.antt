-- What was read of a value that was read.
use Rattle.std.proofs.Common.{◌≡◌, Bool, true, false, Option, Some, None, refl}
use Rattle.bm_law_text.specs.Parts.{after, only_if}

pub after-some : {A B : Type 0} (o : Option A) (f : A → Option B) (y : B) → after o f ≡ Some y → (x : A) × (o ≡ Some x) × (f x ≡ Some y)
after-some None f y h = cc
after-some (Some x) f y h = (x, refl, h)

pub only_if-some : {A : Type 0} (b : Bool) (o : Option A) (y : A) → only_if b o ≡ Some y → (b ≡ true) × (o ≡ Some y)
only_if-some true o y h = (refl, h)
only_if-some false o y h = cc

-- What a side knows goes on where nothing happened.
use Rattle.std.proofs.Common.{◌≡◌, refl, sym, ◌∙◌, subst, arith}
use Rattle.bm_grace.specs.Known.{Known}
use Rattle.bm_work.specs.Goes.{Alike, GoesOn}

pub goes-still : (a b : Known) → b ≡ a → GoesOn a b
goes-still a b e = subst (λ (x : Known). GoesOn a x) (sym e) record {
  processors = refl;
  processor = refl;
  words = λ d. refl;
  number = λ d. refl;
  first = λ d. refl;
  later = λ d. refl;
  begins = λ d. refl;
  seen = λ d. omega arith;
}

-- and so it is alike
pub alike-still : (a b : Known) → b ≡ a → Alike a b
alike-still a b e =
    subst (λ (x : Known). Alike a x) (sym e) record
    { processors = refl; processor = refl; words = λ d. refl; objects = refl }

-- also over two calls
pub alike-joined : (a b c : Known) → Alike a b → Alike b c → Alike a c
alike-joined a b c x y =
    record {
      processors = y.processors ∙ x.processors;
      processor = y.processor ∙ x.processor;
      words = λ d. y.words d ∙ x.words d;
      objects = y.objects ∙ x.objects;
    }

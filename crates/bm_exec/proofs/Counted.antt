-- Types that carry a count of references, as the law of accepted scripts has them.
use Rattle.std.proofs.Common.{◌≡◌, true, false, ℕ, List, Option, None, Some, ap, inl, inr, refl, slice_get, sym, subst, ◌∙◌}
use Rattle.std.specs.Option.{option_map_or}
use Rattle.bm_check.specs.Statements.{Setting, is_counted}
use Rattle.bm_check.specs.Values.{NonOwning, Owning, Refers}
use Rattle.bm_lang.specs.declared.scenario.MapId.{MapId}
use Rattle.bm_lang.specs.declared.scenario.TypeDeclaration.{TypeDeclaration}
use Rattle.bm_lang.specs.declared.scenario.TypeId.{TypeId}
use Rattle.bm_law_scenario.specs.Calls.{IsCounted}
use Rattle.bm_law_scenario.specs.Held.{Held, Object, Soft}
use Rattle.bm_exec.specs.Stores.{value_of}

pub owning-one : (t u : TypeId) → Owning t ≡ Owning u → t ≡ u
owning-one t u e = cc

non-owning-one : (t u : TypeId) (g h : MapId) → NonOwning t g ≡ NonOwning u h → t ≡ u
non-owning-one t u g h e = cc

-- what a name refers to is of the type of the object that it holds, be it by an owning reference
pub refers-type : (h : Held) (t u : TypeId) (v n : ℕ) → h ≡ Object u v n → Refers (value_of h) t → t ≡ u
refers-type h t u v n is (inl e) = owning-one t u (sym e ∙ ap value_of is)
refers-type h t u v n is (inr e) = (let q = sym e.1 ∙ ap value_of is in cc)

-- .. or by another one
pub refers-soft : (h : Held) (t u : TypeId) (g : MapId) (v n : ℕ) → h ≡ Soft u g v n → Refers (value_of h) t → t ≡ u
refers-soft h t u g v n is (inl e) = (let q = sym e ∙ ap value_of is in cc)
refers-soft h t u g v n is (inr e) = non-owning-one t u e.0 g (sym e.1 ∙ ap value_of is)

-- a type that the setting says is counted is declared so
pub counted-in : (e : Setting) (types : List TypeDeclaration) (t u : TypeId) → e.types ≡ types → t ≡ u → is_counted e t ≡ true → IsCounted types u.0
counted-in e types t u same one h = subst (λ (k : TypeId). IsCounted types k.0) one (declared (slice_get types t.0) refl (ap (λ (ts : List TypeDeclaration). option_map_or (λ d. d.counted) (slice_get ts t.0) false) (sym same) ∙ h))
  where
    declared : (o : Option TypeDeclaration) → slice_get types t.0 ≡ o → option_map_or (λ d. d.counted) o false ≡ true → IsCounted types t.0
    declared None f g = cc
    declared (Some d) f g = record { declared = d; found = f; counted = g }

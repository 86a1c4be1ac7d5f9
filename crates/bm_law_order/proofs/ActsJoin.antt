-- Acts one after the other.
use Rattle.std.proofs.Common.{◌≡◌, ℕ, List, [], ◌∷◌, ◌++◌, refl, sym, ◌∙◌, ap, subst}
use Rattle.bm_law_order.specs.Act.{Act}
use Rattle.bm_law_order.specs.Shared.{Shared}
use Rattle.bm_law_order.specs.Acts.{ActsFit, ActsLead, act_after, acts_over}

pub acts-append : (p : ℕ) (es fs : List Act) (s : Shared) → acts_over p (es ++ fs) s ≡ acts_over p fs (acts_over p es s)
acts-append p [] fs s = refl
acts-append p (e ∷ es) fs s = acts-append p es fs (act_after p e s)

pub acts-fit : (p : ℕ) (es fs : List Act) (s : Shared) → ActsFit p es s → ActsFit p fs (acts_over p es s) → ActsFit p (es ++ fs) s
acts-fit p [] fs s h k = k
acts-fit p (e ∷ es) fs s h k = (h.0, acts-fit p es fs (act_after p e s) h.1 k)

pub acts-before : (p : ℕ) (es fs : List Act) (s : Shared) → ActsFit p (es ++ fs) s → ActsFit p es s
acts-before p [] fs s h = tt
acts-before p (e ∷ es) fs s h = (h.0, acts-before p es fs (act_after p e s) h.1)

pub acts-later : (p : ℕ) (es fs : List Act) (s : Shared) → ActsFit p (es ++ fs) s → ActsFit p fs (acts_over p es s)
acts-later p [] fs s h = h
acts-later p (e ∷ es) fs s h = acts-later p es fs (act_after p e s) h.1

pub acts-same : (p : ℕ) (s : Shared) → ActsLead p [] s s
acts-same p s = record { fit = tt; now_is = refl }

pub acts-join : (p : ℕ) (es fs : List Act) (a b c : Shared) → ActsLead p es a b → ActsLead p fs b c → ActsLead p (es ++ fs) a c
acts-join p es fs a b c x y = record {
  fit = acts-fit p es fs a x.fit (subst (λ s. ActsFit p fs s) (sym x.now_is) y.fit);
  now_is = acts-append p es fs a ∙ (ap (acts_over p fs) x.now_is ∙ y.now_is);
}

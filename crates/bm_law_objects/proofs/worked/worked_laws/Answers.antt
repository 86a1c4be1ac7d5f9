use Rattle.std.proofs.Common.{◌≡◌, ◌∙◌, ℕ, List, [], ◌∷◌, false, get_or, arith, refl, sym, ap, subst, inl, inr}
use Rattle.std.specs.Prelude.{eqb}
use Rattle.std.proofs.lemmas.Bool.Decides.{eqb_tells}
use Rattle.std.proofs.lemmas.List.{get_or_past}
use Rattle.bm_law_lives.specs.Together.{Each}
use Rattle.bm_law_objects.specs.SlotChain.{Exchange, exchanges, exchanges_over, of_processor}
use Rattle.bm_law_objects.specs.Worked.{logs_of, one_slot, right_order}
use Rattle.bm_law_objects.proofs.worked.worked_laws.Goals as goal

-- none of these is of the processor
none-of : (p : ℕ) (xs : List Exchange) → Each (λ x. eqb x.tag.processor p ≡ false) xs → of_processor p xs ≡ []
none-of p [] h = refl
none-of p (x ∷ xs) h = rw h.0 (none-of p xs h.1)

chain-parts : (p : ℕ) → of_processor p (exchanges_over one_slot right_order (λ p. 0)) ≡ exchanges one_slot p (get_or (logs_of right_order) p [])
chain-parts p = elim (eqb_tells 0 p) [
  | inl y ↦ subst (λ q. of_processor q (exchanges_over one_slot right_order (λ p. 0)) ≡ exchanges one_slot q (get_or (logs_of right_order) q [])) y.1 refl
  | inr y ↦ elim (eqb_tells 1 p) [
    | inl z ↦ subst (λ q. of_processor q (exchanges_over one_slot right_order (λ p. 0)) ≡ exchanges one_slot q (get_or (logs_of right_order) q [])) z.1 refl
    | inr z ↦
        (let first = y.1 in
        let second = z.1 in
        none-of p (exchanges_over one_slot right_order (λ p. 0)) (y.0, (z.0, (y.0, (y.0, tt))))
        ∙ sym (ap (exchanges one_slot p) (get_or_past (logs_of right_order) p [] (omega (arith, first, second)))))
  ]
]

pub returns-clause-chain : goal.returns-clause-chain
returns-clause-chain c = record {
  chain = exchanges_over one_slot right_order (λ p. 0);
  follow = ((refl, refl), ((refl, refl), ((refl, refl), ((refl, refl), tt))));
  parts = chain-parts;
}

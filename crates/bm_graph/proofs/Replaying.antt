-- A history with one entry more.
use Rattle.std.proofs.Common.{◌≡◌, true, cond, List, [], ◌∷◌, ◌++◌, Some, None, sym, ap, ◌∙◌, inl, inr}
use Rattle.std.proofs.lemmas.Bool.{cases_Bool}
use Rattle.bm_journal.specs.declared.past.Past.{Past}
use Rattle.bm_graph.specs.Objects.{Object}
use Rattle.bm_graph.specs.Replay.{replay_from}

module _ {S : Type 0} where
  none_some : (t : S) → None ≡ Some t → ⊥
  none_some t e = cc

  -- an entry whose reply is right takes the object to the state after it
  pub replay_from-append : (object : Object S) (s t : S) (ps : List Past) (p : Past) → replay_from object s ps ≡ Some t → object.is_right t p.call ≡ true → replay_from object s (ps ++ p ∷ []) ≡ Some (object.after t p.call)
  replay_from-append object s t [] p e right =
      let same : s ≡ t = cc in
      ap (λ b. cond b (Some (object.after s p.call)) None) (ap (λ x. object.is_right x p.call) same ∙ right) ∙ ap (λ x. Some (object.after x p.call)) same
  replay_from-append object s t (q ∷ qs) p e right = elim (cases_Bool (object.is_right s q.call)) [
    | inl same ↦
        ap (λ b. cond b (replay_from object (object.after s q.call) (qs ++ p ∷ [])) None) same
        ∙ replay_from-append object (object.after s q.call) t qs p (sym (ap (λ b. cond b (replay_from object (object.after s q.call) qs) None) same) ∙ e) right
    | inr apart ↦ absurd (none_some t (sym (ap (λ b. cond b (replay_from object (object.after s q.call) qs) None) apart) ∙ e))
  ]

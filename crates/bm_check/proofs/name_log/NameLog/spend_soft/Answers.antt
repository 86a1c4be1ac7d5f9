use Rattle.std.proofs.Common.{◌≡◌, true, false, sym, ◌∙◌, ap, refl, inl, inr}
use Rattle.std.specs.Str.{bytes_eq}
use Rattle.std.specs.List.{list_any}
use Rattle.bm_check.specs.NameStates.{is_soft}
use Rattle.bm_check.specs.Names.{soft_ended}
use Rattle.bm_check.specs.Changes.{names_in}
use Rattle.bm_check.proofs.TableLemmas.{absent, is_or_not, word_is_itself}
use Rattle.bm_check.proofs.ChangeLemmas.{one_ended}
use Rattle.bm_check.proofs.name_log.NameLog.spend_soft.Goals as goal

pub returns-in_ok-put-clause-ok : goal.returns-in_ok-put-clause-ok
returns-in_ok-put-clause-ok c =
    let n = names_in c.args.self.now in
    let x = c.args.name.now in
    let soft : is_soft (n.state x) ≡ true = ap is_soft (sym c.state.ensures) ∙ (sym c.is_soft.ensures ∙ c.if-is_soft.true) in
    let among : list_any (bytes_eq x) n.met ≡ true = elim (is_or_not (list_any (bytes_eq x) n.met)) [
      | inl isit ↦ isit
      | inr isnt ↦ absurd (let e : is_soft (n.state x) ≡ false = ap is_soft (absent n.met c.args.self.now.table.states.items x isnt) in let t : true ≡ false = sym soft ∙ e in cc)
    ] in
    ap soft_ended c.in_ok-put.ensures.ok ∙ one_ended n x among soft

pub returns-in_ok-put-clause-spent : goal.returns-in_ok-put-clause-spent
returns-in_ok-put-clause-spent c =
    let x = c.args.name.now in
    ap (λ m. is_soft (m.state x)) c.in_ok-put.ensures.ok ∙ (rw (word_is_itself x) refl)

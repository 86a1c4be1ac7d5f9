use Rattle.std.proofs.Common.{get_or, ◌<◌, ℕ, length, List, ap, sym, subst, ◌∙◌, ◌++◌, ◌∷◌, []}
use Rattle.bm_run.proofs.ClassLists.{kept-class, left-class}
use Rattle.bm_run.proofs.classes.opened_classes.Goals.{then-is_used+in_ok-push, else-is_used}
use Rattle.bm_run.proofs.classes.opened_classes.Goals as goal

pub loop-class-preserved : goal.loop-class-preserved
loop-class-preserved c =
    let n = c.loop-class.class-index in
    let xs = c.all-eleven.result in
    let lt : n < length xs = subst (λ (l : List ℕ). n < length l) (sym c.all-eleven.ensures) c.loop-class-test.true in
    elim c.if-is_used.branch [
      | then-is_used+in_ok-push w ↦ ap (λ v. v.items) w.opened-is ∙ (w.in_ok-push.ensures.items ∙ (ap (λ l. l ++ get_or xs n c.class-item.result ∷ []) c.loop-class.invariant ∙ sym (kept-class c.args.types.now c.args.classes.now c.requires xs n c.class-item.result lt w.if-is_used.ensures)))
      | else-is_used w ↦ ap (λ v. v.items) w.opened-is ∙ (c.loop-class.invariant ∙ sym (left-class c.args.types.now c.args.classes.now c.requires xs n c.class-item.result lt w.if-is_used.ensures))
    ]

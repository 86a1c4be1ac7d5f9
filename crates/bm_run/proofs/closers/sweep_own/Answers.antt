use Rattle.std.proofs.Common.{refl, sym, subst}
use Rattle.bm_journal.specs.declared.ids.Domain.TheVariants.{Plain}
use Rattle.bm_post.specs.PostState.{told_in}
use Rattle.bm_world.specs.LivingState.{LivingState}
use Rattle.bm_law_logs.specs.SweepsTold.{SweepsTold}
use Rattle.bm_exec_levels.specs.declared.kept.Kept.{Kept}
use Rattle.bm_run.specs.Closers.{SweepsOf}
use Rattle.bm_run.proofs.ClosersStep.{boxes-empty, done-even, ends-fresh, none-even, outside-rest, stepped}
use Rattle.bm_run.proofs.Results.{both-if-ok, not-err}
use Rattle.bm_run.proofs.closers.sweep_own.Goals as goal

pub sweep_each-swept-requires-clause-at_end : goal.sweep_each-swept-requires-clause-at_end
sweep_each-swept-requires-clause-at_end g c =
    let r = c.requires.rests in
    record {
      sound = (r.here, ends-fresh g.B.Since.since g.B.Since.start c.args.side c.args.kept.caches.recorder.told r.told c.requires.start);
      ordinary = refl;
      fine = r.fine;
    }

pub all_at_rest-requires-2 : goal.all_at_rest-requires-2
all_at_rest-requires-2 g c =
    let rest = not-err c.sweep_each-swept.result _ c.if-is_err.ensures.value c.sweep_each-swept.ensures.rest in
    record { outside = outside-rest c.sweep_each-swept.new.host.side Plain _ (rest Plain).1.0 }

pub returns : goal.returns
returns g c =
    let e = c.if-is_err.ensures.value in
    let n = c.sweep_each-swept.new.host in
    let done = c.sweep_each-swept.ensures in
    let sweeps = not-err c.sweep_each-swept.result _ e done.sweeps in
    let does = not-err c.sweep_each-swept.result _ e done.does in
    let rest = not-err c.sweep_each-swept.result _ e done.rest in
    let end = not-err c.sweep_each-swept.result _ e done.at_end in
    let r = c.requires.rests in
    let later : Kept = record c.args.kept { caches = n.caches } in
    let classes = c.args.classes.now in
    both-if-ok c.if_told.result _ _ _ c.if_told.ensures.same c.if_told.ensures.told (λ x same told.
    let step = stepped (SweepsTold classes (told_in c.args.side.side.post)) c.args.kept later g.B.Since.start c.args.side n.side g.B.Since.since told.0 c.requires.start r.told told.1
    sweeps.told sweeps.alone end.sound.1 end.sound.0 end.fine (outside-rest n.side Plain _ (rest Plain).1.0) c.all_at_rest-2.ensures.driven sweeps.alike does (none-even n.side rest) in
    let swept : SweepsOf classes c.args.kept c.args.side g.B.Since.since later n.side = record {
      step = step;
      empty = sweeps.empty;
      others = sweeps.others;
      boxes = boxes-empty classes c.args.side n.side sweeps.none_left;
      done = done-even n.side rest;
    } in
    subst (λ (k : Kept). SweepsOf classes c.args.kept c.args.side g.B.Since.since k x.1) (sym same.0) (subst (λ (w : LivingState). SweepsOf classes c.args.kept c.args.side g.B.Since.since later w) (sym same.1) swept))

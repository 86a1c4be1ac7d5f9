use Rattle.std.proofs.Common.{refl, sym, subst, length}
use Rattle.std.specs.Prelude.{◌≤◌}
use Rattle.bm_journal.specs.declared.ids.Domain.TheVariants.{Plain, Tracing}
use Rattle.bm_world.specs.LivingState.{LivingState, known_living}
use Rattle.bm_closing.specs.EndsBegun.{EndsBegun}
use Rattle.bm_exec_levels.specs.declared.kept.Kept.{Kept}
use Rattle.bm_run.specs.Closers.{EndsOf}
use Rattle.bm_run.proofs.ClosersStep.{ends-fresh, none-begun, outside-rest, stepped}
use Rattle.bm_run.proofs.Results.{both-if-ok}
use Rattle.bm_run.proofs.closers.end_own.Goals as goal

pub end_periods-requires-clause-at_end : goal.end_periods-requires-clause-at_end
end_periods-requires-clause-at_end g c =
    let r = c.requires.rests in
    record {
      sound = (r.here, ends-fresh g.B.Since.since g.B.Since.start c.args.side c.args.kept.caches.recorder.told r.told c.requires.start);
      ordinary = refl;
      fine = r.fine;
    }

pub all_at_rest-requires-2 : goal.all_at_rest-requires-2
all_at_rest-requires-2 g c = record { outside = outside-rest c.end_periods.new.host.side Plain _ (c.end_periods.ensures.rest Plain _ (c.all_at_rest.ensures.rest Plain)) }

pub returns : goal.returns
returns g c =
    let n = c.end_periods.new.host in
    let done = c.end_periods.ensures in
    let r = c.requires.rests in
    let end = done.at_end in
    let later : Kept = record c.args.kept { caches = n.caches } in
    let classes = c.args.classes.now in
    both-if-ok c.if_told.result _ _ _ c.if_told.ensures.same c.if_told.ensures.told (λ x same told.
    let step = stepped (EndsBegun (known_living c.args.side)) c.args.kept later g.B.Since.start c.args.side n.side g.B.Since.since told.0 c.requires.start r.told told.1
    done.ends done.alone end.sound.1 end.sound.0 end.fine (outside-rest n.side Plain _ (done.rest Plain _ (c.all_at_rest.ensures.rest Plain))) c.all_at_rest-2.ensures.driven done.alike done.does (none-begun n.side done.ended) in
    let ends : EndsOf classes c.args.kept c.args.side g.B.Since.since later n.side = record {
      step = step;
      lists = done.lists;
      room = λ h. subst (λ k. length classes ≤ k) (sym (done.begins Tracing)) h;
    } in
    subst (λ (k : Kept). EndsOf classes c.args.kept c.args.side g.B.Since.since k x.1) (sym same.0) (subst (λ (w : LivingState). EndsOf classes c.args.kept c.args.side g.B.Since.since later w) (sym same.1) ends))

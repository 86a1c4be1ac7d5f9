use Rattle.std.proofs.Common.{◌<◌, ◌∙◌, ap, refl, set, slice_get, subst, sym, List, None, Option, Some}
use Rattle.bm_exec_levels.specs.declared.kept.Kept.{Kept}
use Rattle.bm_run.specs.ClosersCrew.{gathered}
use Rattle.bm_run.proofs.ClosersTaken.{get-set-same, has-still, may-still, needs-there, rests-there, took-has, took-step}
use Rattle.bm_run.proofs.closers.ClosersCrew.step.Goals as goal

pub step_own-requires-clause-rests : goal.step_own-requires-clause-rests
step_own-requires-clause-rests c = rests-there c.args.phase c.args.processor (gathered c.args.self.now) c.requires.may c.take_kept-kept.result c.turned-side.result c.take_kept-kept.ensures.kept (c.turned-side.ensures c.requires.may.world (c.take.ensures.value ∙ c.requires.may.world_is))

pub step_own-requires-clause-needs : goal.step_own-requires-clause-needs
step_own-requires-clause-needs c = needs-there c.args.phase c.args.processor (gathered c.args.self.now) c.requires.may c.take_kept-kept.result c.turned-side.result c.take_kept-kept.ensures.kept (c.turned-side.ensures c.requires.may.world (c.take.ensures.value ∙ c.requires.may.world_is))

pub put_kept-requires : goal.put_kept-requires
put_kept-requires c =
    let x = c.requires.may in
    let there = subst (λ k. c.args.processor < k) (sym x.together.many) x.there in
    ap (λ (ps : List (Option Kept)). slice_get ps c.args.processor) c.take_kept-kept.ensures.places ∙ get-set-same c.args.self.now.places.items c.args.processor None there

pub returns-clause-goes : goal.returns-clause-goes
returns-clause-goes c =
    took-step c.args.phase c.args.processor (gathered c.args.self.now) c.requires.may c.take_kept-kept.result c.turned-side.result c.take_kept-kept.ensures.kept (c.turned-side.ensures c.requires.may.world (c.take.ensures.value ∙ c.requires.may.world_is))
    _ c.in_ok-kept.kept c.in_ok-kept.side refl refl
    (c.put_kept.ensures ∙ ap (λ (ps : List (Option Kept)). set ps c.args.processor (Some c.in_ok-kept.kept)) c.take_kept-kept.ensures.places) c.put_world.ensures c.in_ok-kept.ensures

pub returns-clause-has : goal.returns-clause-has
returns-clause-has c = took-has c.args.phase c.args.processor (gathered c.args.self.now) _ (returns-clause-goes c) c.requires.may

pub returns-clause-others : goal.returns-clause-others
returns-clause-others c = record {
  may_still = λ q ne x. may-still c.args.phase c.args.processor (gathered c.args.self.now) _ (returns-clause-goes c) q ne x;
  has_still = λ q ne x. has-still c.args.phase c.args.processor (gathered c.args.self.now) _ (returns-clause-goes c) q ne x;
}

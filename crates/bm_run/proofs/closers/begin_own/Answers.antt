use Rattle.std.proofs.Common.{◌∙◌, ap, refl, subst, sym}
use Rattle.bm_world.specs.LivingState.{LivingState}
use Rattle.bm_world.specs.ToldLiving.{knows_living}
use Rattle.bm_exec_levels.specs.AtPolls.{home}
use Rattle.bm_exec_levels.specs.AtProcessor.{log_of}
use Rattle.bm_exec_levels.specs.AtTie.{TiedAt}
use Rattle.bm_exec_levels.specs.Sound.{Sound}
use Rattle.bm_exec_levels.specs.declared.kept.Kept.{Kept}
use Rattle.bm_exec_levels.specs.declared.processor.Processor.{Processor}
use Rattle.bm_run.specs.Emptied.{HasRoomFor}
use Rattle.bm_run.proofs.Emptied.{closes-noted}
use Rattle.bm_run.proofs.Results.{both-if-ok, not-err}
use Rattle.bm_run.proofs.ClosersStep.{begun-by, fresh-tied-at}
use Rattle.bm_run.proofs.closers.begin_own.Goals as goal

pub note-requires-clause-fine : goal.note-requires-clause-fine
note-requires-clause-fine g c = (subst (Sound knows_living c.args.program.now) (sym c.open-own.ensures) c.requires.sound).fine

pub empty_maps-emptied-requires-clause-sound : goal.empty_maps-emptied-requires-clause-sound
empty_maps-emptied-requires-clause-sound g c = c.note.ensures.sound c.args.program.now refl refl tt (subst (Sound knows_living c.args.program.now) (sym c.open-own.ensures) c.requires.sound)

pub empty_maps-emptied-requires-clause-tied : goal.empty_maps-emptied-requires-clause-tied
empty_maps-emptied-requires-clause-tied g c = c.note.ensures.tied refl g.B.Since.since g.B.Since.start (fresh-tied-at g.B.Since.since g.B.Since.start c.args.kept c.args.side c.open-own.result c.open-own.ensures c.requires.start c.requires.told)

pub empty_maps-emptied-requires-clause-room : goal.empty_maps-emptied-requires-clause-room
empty_maps-emptied-requires-clause-room g c = subst (HasRoomFor c.args.program.now) (sym c.note.ensures.same) (subst (HasRoomFor c.args.program.now) (sym c.open-own.ensures) c.requires.room)

pub empty_maps-emptied-requires-clause-closing : goal.empty_maps-emptied-requires-clause-closing
empty_maps-emptied-requires-clause-closing g c =
    let m : Processor LivingState = c.note.new.own in
    record {
      begun = closes-noted 0 (log_of c.open-own.result) (log_of m) c.note.ensures.said;
      first = ap (λ (x : Processor LivingState). home knows_living x.side) c.note.ensures.same ∙ (ap (λ (x : Processor LivingState). home knows_living x.side) c.open-own.ensures ∙ c.requires.first);
      unlocked = ap (λ (x : Processor LivingState). x.locked) c.note.ensures.same ∙ (ap (λ (x : Processor LivingState). x.locked) c.open-own.ensures ∙ c.requires.unlocked);
    }

pub returns : goal.returns
returns g c =
    let n = c.note.ensures in
    let e = c.empty_maps-emptied.ensures in
    let r = c.empty_maps-emptied.result in
    let f = c.if-is_err.ensures.value in
    both-if-ok c.if_told.result _ _ _ c.if_told.ensures.same c.if_told.ensures.told (λ x same told.
    begun-by c.args.program.now c.args.kept c.args.side c.open-own.result c.note.new.own c.empty_maps-emptied.new.own x.0 x.1 g.B.Since.since told.0 c.open-own.ensures
    (same.0 ∙ c.close-kept.ensures.kept) (same.1 ∙ c.close-kept.ensures.side) (ap (λ (k : Kept). k.caches.recorder.told) same.0 ∙ told.1) c.requires.told
    n.said n.lists n.same (not-err r _ f e.grew) (not-err r _ f e.lives) (not-err r _ f e.bare) (not-err r _ f e.between).stays (not-err r _ f e.sound) (subst (λ (w : LivingState). TiedAt knows_living g.B.Since.since w c.empty_maps-emptied.new.own) c.requires.start (not-err r _ f e.tied)) c.requires.unlocked)

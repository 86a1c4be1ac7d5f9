use Rattle.std.specs.Prelude.{is_none}
use Rattle.std.proofs.Common.{◌≡◌, ◌∙◌, Some, false, subst, sym}
use Rattle.bm_journal.specs.Recording.{Kept as Recorded}
use Rattle.bm_world.specs.LivingState.{LivingState}
use Rattle.bm_exec_levels.specs.declared.kept.Kept.{Kept}
use Rattle.bm_exec_levels.specs.declared.processor.Processor.{Processor}
use Rattle.bm_run.specs.declared.seats.Seat.{Seat}
use Rattle.bm_run.proofs.ClosersStep.{fresh-tied-at}
use Rattle.bm_run.proofs.SeatAfter.{took-turn}
use Rattle.bm_run.proofs.seats.turn_on.Goals as goal

pub go_on-requires-clause-tied : goal.go_on-requires-clause-tied
go_on-requires-clause-tied g c =
    let may = c.requires.may in
    let kept : Kept = c.in-Some.kept in
    let both : Some may.kept ≡ Some kept = sym may.kept_is ∙ (sym c.take.ensures.value ∙ c.in-Some.is) in
    let same : may.kept ≡ kept = cc in
    let told : kept.caches.recorder.told ≡ Some g.B.Since.since = subst (λ (k : Kept). k.caches.recorder.told ≡ Some g.B.Since.since) same may.told in
    fresh-tied-at g.B.Since.since g.B.Since.start kept c.args.world c.open-own.result c.open-own.ensures c.requires.start told

pub returns : goal.returns
returns g c =
    let kept : Kept = c.in-Some.kept in
    let own : Processor LivingState = c.go_on.new.own in
    let seat' : Seat = record { kept = c.replace.new.dest; remaining = c.go_on.new.remaining; ended = c.in-Ok.ended } in
    let e = c.in-Ok.ensures in
    let same : c.recorder.result.now ≡ own.caches.recorder = c.recorder.ensures in
    let failed : c.failed.result ≡ is_none c.recorder.result.now.told = c.failed.ensures in
    let some : is_none c.recorder.result.now.told ≡ false = sym failed ∙ c.if-failed.false in
    let told : is_none own.caches.recorder.told ≡ false = subst (λ (r : Recorded). is_none r.told ≡ false) same some in
    record {
      took = took-turn c.args.program.now g.B.Since.since g.B.Since.start c.args.world c.close-kept.result.1 c.args.seat.now seat' kept c.close-kept.result.0 c.open-own.result own
          (sym c.take.ensures.value ∙ c.in-Some.is) c.replace.ensures.after c.open-own.ensures c.requires.start c.close-kept.ensures.kept c.close-kept.ensures.side told e.tied e.sound e.processor e.gone;
    }

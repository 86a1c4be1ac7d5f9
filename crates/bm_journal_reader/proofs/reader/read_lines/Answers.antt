use Rattle.std.proofs.Common.{◌≤◌, ◌<◌, ◌+◌, ◌^◌, length, ap, ◌∙◌, arith}
use Rattle.bm_law_text.specs.Pieces.{words}
use Rattle.bm_journal_reader.specs.Pieces.{texts}
use Rattle.bm_journal_reader.proofs.Keeping.{line-refused, reads-no, reads-yes, first-kept, first-shorter}
use Rattle.bm_journal_reader.proofs.SoFar.{says}
use Rattle.bm_journal_reader.proofs.reader.read_lines.Goals as goal

pub returns-then-not-taken : goal.returns-then-not-taken
returns-then-not-taken c =
    let bytes = c.args.bytes.now in
    let rest = c.loop-first.rest.now in
    let line = c.loop-first.line in
    let d = c.loop-first.draft in
    let kept = c.loop-first.invariant.0 in
    let cut = c.in-Some.ensures in
    let ws = ap texts c.as_slice.ensures.value ∙ c.in-Ok.ensures in
    let few : length bytes < 2 ^ 64 = omega arith in
    says bytes rest line d few kept (line-refused c.numbers_round_trip.ensures bytes rest line cut.0 d (texts c.as_slice.result.now) kept cut.1 (ws ∙ ap words cut.2) (reads-no c.in-Ok-take.taken d c.take.new.self _ c.if-not-taken.true c.in-Ok-take.ensures))

pub loop-first-preserved : goal.loop-first-preserved
loop-first-preserved c =
    let cut = c.in-Some.ensures in
    let ws = ap texts c.as_slice.ensures.value ∙ c.in-Ok.ensures in
    let shorter : length c.in-Some.left.now + 1 ≤ length c.loop-first.rest.now = first-shorter c.loop-first.rest.now c.in-Some.first.now c.in-Some.left.now cut in (
      first-kept c.numbers_round_trip.ensures c.args.bytes.now c.loop-first.rest.now c.in-Some.first.now c.in-Some.left.now c.loop-first.line c.loop-first.draft c.take.new.self c.loop-first.invariant.0 cut (reads-yes c.in-Ok-take.taken c.loop-first.draft c.take.new.self _ (words c.in-Some.first.now) c.if-not-taken.false ws c.in-Ok-take.ensures),
      omega (arith, c.loop-first.invariant.1),
    )

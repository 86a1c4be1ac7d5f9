use Rattle.std.proofs.Common.{◌<◌, ◌^◌, [], length, arith, subst}
use Rattle.bm_journal_reader.specs.declared.fault.JournalFault.TheVariants as fault
use Rattle.bm_journal_reader.specs.Faults.{Kept}
use Rattle.bm_journal_reader.specs.Drafts.{draft_stage}
use Rattle.bm_journal_reader.proofs.Finishing.{end-bad, done-none, left-none, whole-text, empty-no, empty-yes}
use Rattle.bm_journal_reader.proofs.SoFar.{names-first, read-fits, says}
use Rattle.bm_journal_reader.proofs.reader.read_journal.Goals as goal

pub returns-in-Err : goal.returns-in-Err
returns-in-Err c = record {
  text = tt;
  fits = tt;
  fault = names-first c.numbers_round_trip.ensures c.args.bytes.now c.in-Err.fault c.in-Err.ensures;
}

pub returns-then-not-is_empty : goal.returns-then-not-is_empty
returns-then-not-is_empty c =
    let bytes = c.args.bytes.now in
    let rest = c.in-Ok.left.0.now in
    let line = c.in-Ok.left.1 in
    let d = c.read_lines.new.draft in
    let h = c.in-Ok.ensures in
    let few : length bytes < 2 ^ 64 = omega arith in
    let apart = left-none (draft_stage d) rest (empty-no rest c.is_empty.result c.is_empty.ensures c.if-not-is_empty.true) in
    record {
      text = tt;
      fits = tt;
      fault = names-first c.numbers_round_trip.ensures bytes (fault.Bad line) (says bytes rest line d few h.0 (end-bad bytes rest line d h.0 h.1 apart));
    }

pub returns-in-Some : goal.returns-in-Some
returns-in-Some c =
    let bytes = c.args.bytes.now in
    let line = c.in-Ok.left.1 in
    let d = c.read_lines.new.draft in
    let none = empty-yes c.in-Ok.left.0.now c.is_empty.result c.is_empty.ensures c.if-not-is_empty.false in
    let kept = subst (λ r. Kept bytes r line d) none c.in-Ok.ensures.0 in
    let few : length bytes < 2 ^ 64 = omega arith in
    record {
      text = whole-text bytes line d c.in-Some.journal kept c.in-Some.ensures;
      fits = read-fits bytes [] line d c.in-Some.journal few kept c.in-Some.ensures;
      fault = tt;
    }

pub returns-in-None : goal.returns-in-None
returns-in-None c =
    let bytes = c.args.bytes.now in
    let rest = c.in-Ok.left.0.now in
    let line = c.in-Ok.left.1 in
    let d = c.read_lines.new.draft in
    let h = c.in-Ok.ensures in
    let few : length bytes < 2 ^ 64 = omega arith in
    record {
      text = tt;
      fits = tt;
      fault = names-first c.numbers_round_trip.ensures bytes (fault.Bad line) (says bytes rest line d few h.0 (end-bad bytes rest line d h.0 h.1 (done-none (draft_stage d) rest c.in-None.ensures)));
    }

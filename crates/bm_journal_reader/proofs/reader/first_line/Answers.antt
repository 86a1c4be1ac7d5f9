use Rattle.std.proofs.Common.{sym}
use Rattle.bm_journal_reader.proofs.Keeping.{behind-first}
use Rattle.bm_journal_reader.proofs.reader.first_line.Goals as goal

pub returns-in-len1-up : goal.returns-in-len1-up
returns-in-len1-up c = (c.in_ok-end.end, sym c.in_ok-end.ensures.place, c.split_at.ensures.front, behind-first c.args.bytes.now c.split_at.result.1.now c.in_ok-end.end c.split_at.ensures.back, c.in_ok-end.ensures.inside)

use Rattle.bm_work.specs.DeskTests.{tests_by}
use Rattle.bm_tests_machine.proofs.Opened.{fine-none}
use Rattle.bm_tests_machine.proofs.desks.desk_over.Goals as goal

pub returns-clause-fine : goal.returns-clause-fine
returns-clause-fine g c = fine-none g.R.Recorder.log g.R.Recorder.counts (g.S.Knows.known c.args.lent).grace.processors (tests_by (g.S.Knows.rights c.args.lent)) c.no_units.result c.no_units.ensures c.requires.some c.requires.few

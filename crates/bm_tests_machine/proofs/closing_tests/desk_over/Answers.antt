use Rattle.std.proofs.Common.{[], ◌∷◌, arith}
use Rattle.bm_cache.proofs.Opened.{fine-opened}
use Rattle.bm_work.specs.DeskTests.{tests_by}
use Rattle.bm_tests_machine.proofs.closing_tests.desk_over.Goals as goal

pub returns-clause-fine : goal.returns-clause-fine
returns-clause-fine g c =
    let n = c.requires.processors in
    fine-opened g.R.Recorder.log g.R.Recorder.counts 0 (g.S.Knows.known c.args.lent).grace.processors (tests_by (g.S.Knows.rights c.args.lent)) ((c.args.class, c.args.free.items) ∷ []) c.opened-caches.result c.opened-caches.ensures.opened (c.requires.reusable, tt) (omega (arith, n)) (omega (arith, n))

use Rattle.std.proofs.Common.{refl}
use Rattle.bm_tests_machine.specs.Holding.{tests_beside}
use Rattle.bm_cache.specs.Shown.{shown}
use Rattle.bm_cache.proofs.Absent.{nowhere, failing, proper-other}
use Rattle.bm_tests_machine.proofs.Held.{tests-held, tests-other, tests-free, holding-rest, fine-other}
use Rattle.bm_tests_machine.proofs.cache_fixtures.free_one.Goals as goal

pub handler-requires-clause-frees : goal.handler-requires-clause-frees
handler-requires-clause-frees g c = holding-rest 1 c.args.ground.now.kept.units.items c.pop.new.self.items c.in-Some.unit c.in-Some.ensures.items c.requires.sound

pub handler-requires-clause-fine : goal.handler-requires-clause-fine
handler-requires-clause-fine g c =
    fine-other g.R.Recorder.log g.R.Recorder.counts 1 0 0 (tests_beside c.args.ground.now.kept.units.items) (tests_beside c.pop.new.self.items) c.args.ground.now.kept.caches refl
    (proper-other c.in-Some.unit.number (tests_beside c.args.ground.now.kept.units.items) (tests_beside c.pop.new.self.items) (tests-other c.args.ground.now.kept.units.items c.pop.new.self.items c.in-Some.unit c.in-Some.ensures.items) (shown c.args.ground.now.kept.caches) (failing c.in-Some.unit.number (tests_beside c.args.ground.now.kept.units.items) (shown c.args.ground.now.kept.caches) (tests-held c.args.ground.now.kept.units.items c.pop.new.self.items c.in-Some.unit c.in-Some.ensures.items) c.requires.fine.proper)) c.requires.fine

pub handler-requires-clause-fresh : goal.handler-requires-clause-fresh
handler-requires-clause-fresh g c = nowhere c.in-Some.unit.number (shown c.args.ground.now.kept.caches) (failing c.in-Some.unit.number (tests_beside c.args.ground.now.kept.units.items) (shown c.args.ground.now.kept.caches) (tests-held c.args.ground.now.kept.units.items c.pop.new.self.items c.in-Some.unit c.in-Some.ensures.items) c.requires.fine.proper)

pub handler-requires-clause-reusable : goal.handler-requires-clause-reusable
handler-requires-clause-reusable g c = tests-free 1 c.args.ground.now.kept.units.items c.pop.new.self.items c.in-Some.unit c.in-Some.ensures.items c.requires.sound 0 c.in-Some.unit.life c.in-Some.unit.seal

pub handler-requires-clause-waits : goal.handler-requires-clause-waits
handler-requires-clause-waits g c = tests-free 1 c.args.ground.now.kept.units.items c.pop.new.self.items c.in-Some.unit c.in-Some.ensures.items c.requires.sound 1 c.in-Some.unit.life c.in-Some.unit.seal

use Rattle.std.proofs.Common.{rules}
use Rattle.bm_tests_machine.specs.Holding.{tests_beside}
use Rattle.bm_cache.specs.Shown.{shown}
use Rattle.bm_cache.proofs.Absent.{nowhere, failing, proper-other, lasting-other}
use Rattle.bm_tests_machine.proofs.Held.{tests-held, tests-other, tests-free, holding-rest, came-other, fine-other}
use Rattle.bm_tests_machine.proofs.cache_hosts.run_second.Goals as goal

pub handler-requires-clause-fine : goal.handler-requires-clause-fine
handler-requires-clause-fine g c =
    fine-other g.R.Recorder.log g.R.Recorder.counts 1 _ 2 (tests_beside c.args.kept.now.units.items) (tests_beside c.pop.new.self.items) c.args.kept.now.caches c.requires.level
    (proper-other c.in-Some.unit.number (tests_beside c.args.kept.now.units.items) (tests_beside c.pop.new.self.items) (tests-other c.args.kept.now.units.items c.pop.new.self.items c.in-Some.unit c.in-Some.ensures.items) (shown c.args.kept.now.caches) (failing c.in-Some.unit.number (tests_beside c.args.kept.now.units.items) (shown c.args.kept.now.caches) (tests-held c.args.kept.now.units.items c.pop.new.self.items c.in-Some.unit c.in-Some.ensures.items) c.requires.fine.proper)) c.requires.fine

pub handler-requires-clause-fresh : goal.handler-requires-clause-fresh
handler-requires-clause-fresh g c = nowhere c.in-Some.unit.number (shown c.args.kept.now.caches) (failing c.in-Some.unit.number (tests_beside c.args.kept.now.units.items) (shown c.args.kept.now.caches) (tests-held c.args.kept.now.units.items c.pop.new.self.items c.in-Some.unit c.in-Some.ensures.items) c.requires.fine.proper)

pub handler-requires-clause-reusable : goal.handler-requires-clause-reusable
handler-requires-clause-reusable g c = tests-free 1 c.args.kept.now.units.items c.pop.new.self.items c.in-Some.unit c.in-Some.ensures.items c.requires.holding 0 c.in-Some.unit.life c.in-Some.unit.seal

pub handler-requires-clause-waits : goal.handler-requires-clause-waits
handler-requires-clause-waits g c = tests-free 1 c.args.kept.now.units.items c.pop.new.self.items c.in-Some.unit c.in-Some.ensures.items c.requires.holding 1 c.in-Some.unit.life c.in-Some.unit.seal

pub returns-in-Some-clause-came : goal.returns-in-Some-clause-came
returns-in-Some-clause-came g c =
    let t = came-other g.R.Recorder.log _ 2 (tests_beside c.args.kept.now.units.items) (tests_beside c.pop.new.self.items) (tests_beside c.handler.new.host.kept.now.units.items) c.args.kept.now.caches c.handler.new.host.kept.now.caches c.requires.level
    (lasting-other c.in-Some.unit.number (tests_beside c.args.kept.now.units.items) (tests_beside c.pop.new.self.items) (tests-other c.args.kept.now.units.items c.pop.new.self.items c.in-Some.unit c.in-Some.ensures.items) (shown c.args.kept.now.caches) (failing c.in-Some.unit.number (tests_beside c.args.kept.now.units.items) (shown c.args.kept.now.caches) (tests-held c.args.kept.now.units.items c.pop.new.self.items c.in-Some.unit c.in-Some.ensures.items) c.requires.fine.proper) 2) c.handler.ensures.came in search rules

pub handler-requires-clause-frees : goal.handler-requires-clause-frees
handler-requires-clause-frees g c = holding-rest 1 c.args.kept.now.units.items c.pop.new.self.items c.in-Some.unit c.in-Some.ensures.items c.requires.holding

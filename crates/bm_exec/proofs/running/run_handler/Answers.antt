use Rattle.std.proofs.Common.{None, arith, refl}
use Rattle.bm_check.specs.Statements.{setting_of}
use Rattle.bm_law_work.proofs.Grown.{grew-map}
use Rattle.bm_exec.proofs.Starting.{start-cleared}
use Rattle.bm_exec.specs.Named.{declared_of}
use Rattle.bm_exec.proofs.running.run_handler.Goals as goal

pub run_on-requires-clause-room : goal.run_on-requires-clause-room
run_on-requires-clause-room g c = omega (arith, c.requires.room, (start-cleared (declared_of c.args.types.now) (setting_of c.args.scenario.now c.args.script.now.kind) c.args.script.now.body c.args.names.now c.clear.new.self _ c.clear.ensures.keys c.clear.ensures.names c.start-frame.ensures.pushed c.requires.can c.requires.fits c.requires.bound c.requires.types c.requires.maps (c.accepted_scripts_are_safe.ensures c.args.scenario.now c.args.script.now c.requires.accepted)).cost)

pub run_on-requires-clause-can : goal.run_on-requires-clause-can
run_on-requires-clause-can g c =
    let m = c.args.machine.now in
    (start-cleared (declared_of c.args.types.now) (setting_of c.args.scenario.now c.args.script.now.kind) c.args.script.now.body c.args.names.now c.clear.new.self _ c.clear.ensures.keys c.clear.ensures.names c.start-frame.ensures.pushed c.requires.can c.requires.fits c.requires.bound c.requires.types c.requires.maps (c.accepted_scripts_are_safe.ensures c.args.scenario.now c.args.script.now c.requires.accepted)).can (g.M.Machine.level m) (g.M.Machine.around m) (g.M.Machine.behind m) (g.M.Machine.lists m) (g.M.Machine.lives m) (λ h. let q = rw c.requires.handles at h in cc) (rw c.requires.bare refl)

pub returns-clause-ran : goal.returns-clause-ran
returns-clause-ran g c =
    let m = c.args.machine.now in
    let w = c.requires.bare in
    let r = rw w at (rw c.in-Ok.is at c.run_on.ensures.ended) in
    record {
      after = _;
      grew = grew-map _ _ (g.M.Machine.lists m) (g.M.Machine.log m) _ (λ part y. (start-cleared (declared_of c.args.types.now) (setting_of c.args.scenario.now c.args.script.now.kind) c.args.script.now.body c.args.names.now c.clear.new.self _ c.clear.ensures.keys c.clear.ensures.names c.start-frame.ensures.pushed c.requires.can c.requires.fits c.requires.bound c.requires.types c.requires.maps (c.accepted_scripts_are_safe.ensures c.args.scenario.now c.args.script.now c.requires.accepted)).runs (g.M.Machine.level m) (g.M.Machine.around m) None _ (g.M.Machine.lists m) part y) r.grew;
      owns_nothing = r.owns_nothing;
    }

pub returns-clause-lives : goal.returns-clause-lives
returns-clause-lives g c = (rw c.in-Ok.is at c.run_on.ensures.lives) (g.M.Machine.lives c.args.machine.now) ((start-cleared (declared_of c.args.types.now) (setting_of c.args.scenario.now c.args.script.now.kind) c.args.script.now.body c.args.names.now c.clear.new.self _ c.clear.ensures.keys c.clear.ensures.names c.start-frame.ensures.pushed c.requires.can c.requires.fits c.requires.bound c.requires.types c.requires.maps (c.accepted_scripts_are_safe.ensures c.args.scenario.now c.args.script.now c.requires.accepted)).holds _)

pub returns-clause-asked : goal.returns-clause-asked
returns-clause-asked g c = omega (arith, (rw c.in-Ok.is at c.run_on.ensures.asked), (start-cleared (declared_of c.args.types.now) (setting_of c.args.scenario.now c.args.script.now.kind) c.args.script.now.body c.args.names.now c.clear.new.self _ c.clear.ensures.keys c.clear.ensures.names c.start-frame.ensures.pushed c.requires.can c.requires.fits c.requires.bound c.requires.types c.requires.maps (c.accepted_scripts_are_safe.ensures c.args.scenario.now c.args.script.now c.requires.accepted)).cost)

pub returns-clause-around : goal.returns-clause-around
returns-clause-around g c = (rw c.in-Ok.is at c.run_on.ensures.around) (g.M.Machine.around c.args.machine.now) ((start-cleared (declared_of c.args.types.now) (setting_of c.args.scenario.now c.args.script.now.kind) c.args.script.now.body c.args.names.now c.clear.new.self _ c.clear.ensures.keys c.clear.ensures.names c.start-frame.ensures.pushed c.requires.can c.requires.fits c.requires.bound c.requires.types c.requires.maps (c.accepted_scripts_are_safe.ensures c.args.scenario.now c.args.script.now c.requires.accepted)).sections _)

pub run_on-requires-clause-unlocked : goal.run_on-requires-clause-unlocked
run_on-requires-clause-unlocked g c = λ z. absurd (let some = c.requires.above in omega (arith, z, some))

pub returns-clause-guarded : goal.returns-clause-guarded
returns-clause-guarded g c = (rw c.in-Ok.is at c.run_on.ensures.above) c.requires.above

use Rattle.bm_exec.specs.Named.{declared_of}
use Rattle.bm_exec.proofs.Guarding.{any-graph-is, lock-performed}
use Rattle.bm_exec.proofs.Results.{get-is}
use Rattle.bm_exec.proofs.running.perform_lock.Goals as goal

pub returns-clause-performed : goal.returns-clause-performed
returns-clause-performed g c names =
    let maps = c.args.types.now.maps.now in
    let m0 = c.args.machine.now in
    let m1 = c.lock.new.self in
    let e = c.lock.ensures in
    let m = c.in-Some.declared.now in
    let of = any-graph-is maps c.args.graph.0 m c.requires.can (get-is maps c.args.graph.0 m c.in-Some.ensures.lookup.3.0 (c.in-Some.ensures.lookup.3.1 _)) in
    rw (e.around, e.guarded, c.set_lock.ensures) (lock-performed (declared_of c.args.types.now) (g.M.Machine.level m0) (g.M.Machine.around m0) (g.M.Machine.behind m0) (g.M.Machine.processor m0) (g.M.Machine.lists m0) (g.M.Machine.lists m1) (g.M.Machine.guarded m0) c.args.graph of.0 m names _
    (g.M.Machine.lives m0) (g.M.Machine.lives m1) (g.M.Machine.asked m0) (g.M.Machine.asked m1) (g.M.Machine.log m0) (g.M.Machine.log m1)
    (g.met.M.Machine.told m0 c.requires.sound) (rw e.processor at (g.met.M.Machine.told m1 e.sound)) of.1 (rw c.duplicate.ensures at e.locked) e.lives e.asked c.requires.lock c.requires.open)

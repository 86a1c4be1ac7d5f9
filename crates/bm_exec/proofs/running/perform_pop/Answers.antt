use Rattle.bm_exec.specs.Named.{declared_of}
use Rattle.bm_exec.specs.Seen.{names_of}
use Rattle.bm_exec.proofs.Exchanging.{taken-is}
use Rattle.bm_exec.proofs.Guarding.{graph-is, pop-performed}
use Rattle.bm_exec.proofs.Results.{get-is}
use Rattle.bm_exec.proofs.Yields.{one-unyielding, pop-quiet}
use Rattle.bm_exec.proofs.running.perform_pop.Goals as goal

pub returns-clause-performed : goal.returns-clause-performed
returns-clause-performed g c os locked =
    let maps = c.args.types.now.maps.now in
    let m0 = c.args.machine.now in
    let m1 = c.pop.new.self in
    let e = c.in_ok-was.ensures in
    let m = c.in-Some.declared.now in
    let was = c.in_ok-was.was' in
    let of = graph-is maps _ c.args.list.0 m c.requires.can (get-is maps c.args.list.0 m c.in-Some.ensures.lookup.3.0 (c.in-Some.ensures.lookup.3.1 _)) in
    let got = rw (c.requires.declared, c.duplicate.ensures) at (e.popped m (rw c.requires.declared of)) in
    let held = rw (c.holding_of.ensures, taken-is m.type_id was, c.end_soft.ensures.names) at c.set_name.ensures.held in
    rw e.around (pop-performed (declared_of c.args.types.now) (g.M.Machine.level m0) (g.M.Machine.around m0) (g.M.Machine.behind m0) (g.M.Machine.processor m0) (g.M.Machine.lists m0) (g.M.Machine.lists m1) (g.M.Machine.guarded m0) (g.M.Machine.guarded m1) c.args.end c.args.list c.args.name.now m was
    (names_of c.args.names.now) (names_of c.set_name.new.names) os (g.M.Machine.lives m0) (g.M.Machine.lives m1) (g.M.Machine.asked m0) (g.M.Machine.asked m1) (g.M.Machine.log m0) (g.M.Machine.log m1)
    (g.met.M.Machine.told m0 c.requires.sound) (rw e.processor at (g.met.M.Machine.told m1 e.sound)) of c.requires.free got held e.asked locked)

pub returns-clause-yields : goal.returns-clause-yields
returns-clause-yields g c =
    let maps = c.args.types.now.maps.now in
    let m = c.in-Some.declared.now in
    let of = graph-is maps _ c.args.list.0 m c.requires.can (get-is maps c.args.list.0 m c.in-Some.ensures.lookup.3.0 (c.in-Some.ensures.lookup.3.1 _)) in
    one-unyielding _ _ _ _ (pop-quiet c.args.end c.in_ok-was.was' _ _ _) (c.in_ok-was.ensures.popped m (rw c.requires.declared of)).records

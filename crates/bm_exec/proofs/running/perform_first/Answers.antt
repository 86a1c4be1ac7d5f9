use Rattle.bm_exec.specs.Named.{declared_of}
use Rattle.bm_exec.specs.Seen.{names_of}
use Rattle.bm_exec.proofs.Guarding.{found-performed, graph-is}
use Rattle.bm_exec.proofs.Results.{get-is}
use Rattle.bm_exec.proofs.Yields.{first-quiet, one-unyielding}
use Rattle.bm_exec.proofs.running.perform_first.Goals as goal

pub returns-clause-performed : goal.returns-clause-performed
returns-clause-performed g c os locked =
    let maps = c.args.types.now.maps.now in
    let m0 = c.args.machine.now in
    let m1 = c.first.new.self in
    let e = c.in_ok-item.ensures in
    let m = c.in-Some.declared.now in
    let of = graph-is maps _ c.args.tree.0 m c.requires.can (get-is maps c.args.tree.0 m c.in-Some.ensures.lookup.3.0 (c.in-Some.ensures.lookup.3.1 _)) in
    let got = rw (c.requires.declared, c.duplicate.ensures) at (e.found m (rw c.requires.declared of)) in
    rw (e.around, e.guarded) (found-performed (declared_of c.args.types.now) (g.M.Machine.level m0) (g.M.Machine.around m0) (g.M.Machine.behind m0) (g.M.Machine.processor m0) (g.M.Machine.lists m0) (g.M.Machine.lists m1) (g.M.Machine.guarded m0) c.args.name.now c.args.tree m c.in_ok-item.item
    (names_of c.args.names.now) (names_of c.set_name.new.names) os (g.M.Machine.lives m0) (g.M.Machine.lives m1) (g.M.Machine.asked m0) (g.M.Machine.asked m1) (g.M.Machine.log m0) (g.M.Machine.log m1)
    (g.met.M.Machine.told m0 c.requires.sound) (rw e.processor at (g.met.M.Machine.told m1 e.sound)) of c.requires.free got (rw c.found_as.ensures at c.set_name.ensures.held) e.lives e.asked locked)

pub returns-clause-yields : goal.returns-clause-yields
returns-clause-yields g c =
    let maps = c.args.types.now.maps.now in
    let m = c.in-Some.declared.now in
    let of = graph-is maps _ c.args.tree.0 m c.requires.can (get-is maps c.args.tree.0 m c.in-Some.ensures.lookup.3.0 (c.in-Some.ensures.lookup.3.1 _)) in
    one-unyielding _ _ _ _ (first-quiet c.in_ok-item.item _ _ _) (c.in_ok-item.ensures.found m (rw c.requires.declared of)).records

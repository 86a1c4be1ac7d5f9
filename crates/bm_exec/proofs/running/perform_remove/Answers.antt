use Rattle.std.proofs.Common.{◌∙◌, ap, subst, sym}
use Rattle.bm_lang.specs.declared.scenario.MapId.{MapId}
use Rattle.bm_lang.specs.declared.scenario.TypeId.{TypeId}
use Rattle.bm_law_scenario.specs.Held.{Soft}
use Rattle.bm_exec.specs.Guarded.{IsShelved}
use Rattle.bm_exec.specs.Named.{declared_of}
use Rattle.bm_exec.specs.Seen.{names_of}
use Rattle.bm_exec.proofs.Guarding.{graph-is, remove-performed, soft-graph, spared-performed}
use Rattle.bm_exec.proofs.Results.{get-is}
use Rattle.bm_exec.proofs.Yields.{one-unyielding}
use Rattle.bm_exec.proofs.running.perform_remove.Goals as goal

pub remove-requires-clause-graph : goal.remove-requires-clause-graph
remove-requires-clause-graph g c =
    let maps = c.args.types.now.maps.now in
    let types = c.args.types.now.declared.now in
    let names = names_of c.args.names.now in
    let o = c.in-Soft.object in
    let held = rw c.as_bytes.ensures.value at (rw c.in-Soft.is at c.holding.ensures) in
    let tree = soft-graph (names c.args.node.now) c.in-Soft.field-0 c.in-Soft.field-1 c.args.tree _ _ (sym held) c.requires.node in
    let there = sym held ∙ ap (λ (q : MapId). Soft c.in-Soft.field-0 q o.unit o.life) tree in
    let m = c.in-Some.declared.now in
    let of = graph-is maps _ c.args.tree.0 m c.requires.can (get-is maps c.args.tree.0 m c.in-Some.ensures.lookup.3.0 (c.in-Some.ensures.lookup.3.1 _)) in
    let typed = c.requires.typed c.in-Soft.field-0 o.unit o.life m there of in
    let S : TypeId → Type 0 = λ t. IsShelved types t.0 c.args.tree.0 (g.M.Machine.guarded c.args.machine.now) o.unit o.life in
    (m, rw c.requires.declared of, sym c.duplicate.ensures, rw c.requires.declared (subst S typed.0 typed.1))

pub returns-in_ok-remove-in-Soft-clause-performed : goal.returns-in_ok-remove-in-Soft-clause-performed
returns-in_ok-remove-in-Soft-clause-performed g c os locked =
    let maps = c.args.types.now.maps.now in
    let names = names_of c.args.names.now in
    let m0 = c.args.machine.now in
    let m1 = c.remove.new.self in
    let e = c.in_ok-remove-in-Soft.ensures in
    let o = c.in-Soft.object in
    let held = rw c.as_bytes.ensures.value at (rw c.in-Soft.is at c.holding.ensures) in
    let tree = soft-graph (names c.args.node.now) c.in-Soft.field-0 c.in-Soft.field-1 c.args.tree _ _ (sym held) c.requires.node in
    let there = sym held ∙ ap (λ (q : MapId). Soft c.in-Soft.field-0 q o.unit o.life) tree in
    let m = c.in-Some.declared.now in
    let of = graph-is maps _ c.args.tree.0 m c.requires.can (get-is maps c.args.tree.0 m c.in-Some.ensures.lookup.3.0 (c.in-Some.ensures.lookup.3.1 _)) in
    let typed = c.requires.typed c.in-Soft.field-0 o.unit o.life m there of in
    let got = rw (c.requires.declared, c.duplicate.ensures) at (e.removed m (rw c.requires.declared of)) in
    rw e.around (remove-performed (declared_of c.args.types.now) (g.M.Machine.level m0) (g.M.Machine.around m0) (g.M.Machine.behind m0) (g.M.Machine.processor m0) (g.M.Machine.lists m0) (g.M.Machine.lists m1) (g.M.Machine.guarded m0) (g.M.Machine.guarded m1) c.args.name.now c.args.tree c.args.node.now m o
    names (names_of c.set_name.new.names) os (g.M.Machine.lives m0) (g.M.Machine.lives m1) (g.M.Machine.asked m0) (g.M.Machine.asked m1) (g.M.Machine.log m0) (g.M.Machine.log m1)
    (g.met.M.Machine.told m0 c.requires.sound) (rw e.processor at (g.met.M.Machine.told m1 e.sound)) of (there ∙ ap (λ (t : TypeId). Soft t c.args.tree o.unit o.life) typed.0) c.requires.free got (rw c.end_soft.ensures.names at c.set_name.ensures.held) e.asked locked)

pub returns-in_ok-remove-in-Soft-clause-yields : goal.returns-in_ok-remove-in-Soft-clause-yields
returns-in_ok-remove-in-Soft-clause-yields g c =
    let maps = c.args.types.now.maps.now in
    let m = c.in-Some.declared.now in
    let of = graph-is maps _ c.args.tree.0 m c.requires.can (get-is maps c.args.tree.0 m c.in-Some.ensures.lookup.3.0 (c.in-Some.ensures.lookup.3.1 _)) in
    one-unyielding _ _ _ _ tt (c.in_ok-remove-in-Soft.ensures.removed m (rw c.requires.declared of)).records

pub returns-in-Null-clause-performed : goal.returns-in-Null-clause-performed
returns-in-Null-clause-performed g c os locked =
    let maps = c.args.types.now.maps.now in
    let m0 = c.args.machine.now in
    let held = rw c.as_bytes.ensures.value at (rw c.in-Null.is at c.holding.ensures) in
    let m = c.in-Some.declared.now in
    let of = graph-is maps _ c.args.tree.0 m c.requires.can (get-is maps c.args.tree.0 m c.in-Some.ensures.lookup.3.0 (c.in-Some.ensures.lookup.3.1 _)) in
    spared-performed (declared_of c.args.types.now) (g.M.Machine.level m0) (g.M.Machine.around m0) (g.M.Machine.behind m0) (g.M.Machine.processor m0) (g.M.Machine.lists m0) (g.M.Machine.guarded m0) c.args.name.now c.args.tree c.args.node.now m
    (names_of c.args.names.now) (names_of c.set_name-in-Null.new.names) os (g.M.Machine.lives m0) (g.M.Machine.asked m0) (g.M.Machine.log m0)
    (g.met.M.Machine.told m0 c.requires.sound) of (sym held) c.requires.free (rw c.end_soft-in-Null.ensures.names at c.set_name-in-Null.ensures.held) locked

use Rattle.std.proofs.Common.{sym}
use Rattle.bm_exec.proofs.Performing.{inner-performed, section-performed}
use Rattle.bm_exec.proofs.Yields.{entered-unyielding, unyielding-none}
use Rattle.bm_exec.proofs.running.perform_section.Goals as goal

pub returns-then-is_inside-clause-performed : goal.returns-then-is_inside-clause-performed
returns-then-is_inside-clause-performed g c types names =
    let m = c.args.machine.now in
    inner-performed types (g.M.Machine.level m) (g.M.Machine.around m) (g.M.Machine.behind m) (g.M.Machine.lists m) (g.M.Machine.guarded m) c.args.body.now names _ _ (g.M.Machine.lives m) (g.M.Machine.asked m) (g.M.Machine.log m) (sym c.if-is_inside.ensures) c.requires.open c.requires.down c.open_block.ensures.pushed

pub returns-else-is_inside-clause-performed : goal.returns-else-is_inside-clause-performed
returns-else-is_inside-clause-performed g c types names =
    let m = c.args.machine.now in
    let n = c.enter.new.self in
    let e = c.enter.ensures in
    section-performed types (g.M.Machine.level m) (g.M.Machine.around m) (g.M.Machine.around n) (g.M.Machine.behind m) (g.M.Machine.processor m) (g.M.Machine.lists m) (g.M.Machine.lists n) (g.M.Machine.guarded m) c.args.body.now names _ _ (g.M.Machine.lives m) (g.M.Machine.lives n) (g.M.Machine.asked m) (g.M.Machine.asked n) (g.M.Machine.log m) (g.M.Machine.log n)
    (g.met.M.Machine.told m c.requires.sound) (rw e.processor at (g.met.M.Machine.told n e.sound)) (sym c.if-is_inside.ensures) (e.entered (sym c.if-is_inside.ensures)) e.lists e.lives e.asked c.requires.open c.requires.down c.open_block-else-is_inside.ensures.pushed

pub returns-then-is_inside-clause-yields : goal.returns-then-is_inside-clause-yields
returns-then-is_inside-clause-yields g c = unyielding-none (g.M.Machine.level c.args.machine.now) (g.M.Machine.log c.args.machine.now)

pub returns-else-is_inside-clause-yields : goal.returns-else-is_inside-clause-yields
returns-else-is_inside-clause-yields g c = entered-unyielding _ _ _ _ _ (c.enter.ensures.entered (sym c.if-is_inside.ensures))

use Rattle.std.proofs.Common.{◌∙◌, arith, subst, sym}
use Rattle.bm_check.specs.declared.name_state.HeldLock.{HeldLock}
use Rattle.bm_exec.specs.Guarded.{IsLock}
use Rattle.bm_exec.specs.Named.{declared_of}
use Rattle.bm_exec.specs.Seen.{names_of}
use Rattle.bm_exec.specs.Stores.{locked_in}
use Rattle.bm_exec.specs.Yields.{Unyielding}
use Rattle.bm_exec.proofs.Guarding.{graph-again, unlock-performed}
use Rattle.bm_exec.proofs.Results.{on-ok, both-ok, get-is}
use Rattle.bm_exec.proofs.Yields.{one-unyielding, unyielding-join}
use Rattle.bm_exec.proofs.running.perform_unlock.Goals as goal

pub returns-clause-performed : goal.returns-clause-performed
returns-clause-performed g c =
    let maps = c.args.types.now.maps.now in
    let m0 = c.args.machine.now in
    let m1 = c.unlock.new.self in
    let m2 = c.settle.new.self in
    let r = c.settle.result in
    let s = c.settle.ensures in
    let e = c.unlock.ensures in
    let m = c.in-Some.declared.now in
    let locked = sym c.held_lock.ensures ∙ c.in-Here.is in
    let mine = subst (λ (k : HeldLock). IsLock maps (locked_in k)) (sym c.requires.held.1 ∙ locked) c.requires.held.3 in
    let of = graph-again maps mine.0 c.in-Here.graph.0 mine.1 m mine.2 (get-is maps c.in-Here.graph.0 m c.in-Some.ensures.lookup.3.0 (c.in-Some.ensures.lookup.3.1 _)) in
    let facts = both-ok r _ _ (both-ok r _ _ (both-ok r _ _ s.settled s.down) (both-ok r _ _ s.guarded s.around)) (both-ok r _ _ (both-ok r _ _ s.sound s.processor) (both-ok r _ _ s.lives s.asked)) in
    on-ok r _ _ facts (λ f.
    rw (f.0.1.1 ∙ e.around, f.0.1.0 ∙ e.guarded, c.set_lock.ensures) (unlock-performed (declared_of c.args.types.now) (g.M.Machine.level m0) (g.M.Machine.around m0) (g.M.Machine.behind m0) (g.M.Machine.processor m0) (g.M.Machine.lists m0) (g.M.Machine.lists m1) (g.M.Machine.lists m2) (g.M.Machine.guarded m0) c.in-Here.graph mine.0 m
    (names_of c.args.names.now) (names_of c.end_soft.new.self) _ (g.M.Machine.lives m0) (g.M.Machine.lives m2) (g.M.Machine.asked m0) (g.M.Machine.asked m2) (g.M.Machine.log m0) (g.M.Machine.log m1) (g.M.Machine.log m2)
    (g.met.M.Machine.told m0 c.requires.sound) (rw e.processor at (g.met.M.Machine.told m1 e.sound)) (rw (f.1.0.1 ∙ e.processor) at (g.met.M.Machine.told m2 f.1.0.0)) of (rw c.duplicate.ensures at e.unlocked) c.end_soft.ensures.names (f.1.1.0 ∙ e.lives) (let x = f.1.1.1 in let y = e.asked in omega (arith, x, y))
    (rw e.behind at f.0.0.0) (rw e.behind at f.0.0.1) locked c.requires.open))

pub returns-clause-yields : goal.returns-clause-yields
returns-clause-yields g c =
    let m0 = c.args.machine.now in
    let m1 = c.unlock.new.self in
    let m2 = c.settle.new.self in
    on-ok c.settle.result _ _ c.settle.ensures.yields (λ y.
    unyielding-join (g.M.Machine.level m0) (g.M.Machine.log m0) (g.M.Machine.log m1) (g.M.Machine.log m2) (one-unyielding _ _ _ _ tt c.unlock.ensures.unlocked)
    (subst (λ l. Unyielding l (g.M.Machine.log m1) (g.M.Machine.log m2)) c.unlock.ensures.level y))

use Rattle.std.proofs.Common.{◌≡◌, ◌∙◌, ap, sym}
use Rattle.bm_exec.specs.Living.{type_in}
use Rattle.bm_exec.specs.Seen.{names_of}
use Rattle.bm_exec.specs.Stores.{value_of}
use Rattle.bm_exec.proofs.Performing.{acquire-performed}
use Rattle.bm_exec.proofs.Yields.{acquired-unyielding}
use Rattle.bm_exec.specs.Named.{declared_of}
use Rattle.bm_exec.proofs.running.perform_acquire.Goals as goal

pub returns-clause-performed : goal.returns-clause-performed
returns-clause-performed g c os down =
    let m0 = c.args.machine.now in
    let m1 = c.acquire.new.self in
    let e = c.acquire.ensures in
    let held = rw c.as_bytes.ensures.value at (rw c.in-Object.is at c.holding.ensures) in
    rw e.around (acquire-performed (declared_of c.args.types.now) (g.M.Machine.level m0) (g.M.Machine.around m0) (g.M.Machine.behind m0) (g.M.Machine.processor m0) (g.M.Machine.lists m0) (g.M.Machine.lists m1) (g.M.Machine.guarded m0) c.args.name.now c.args.of.now _ c.in-Object.object
    (names_of c.args.names.now) (names_of c.put.new.self) (g.M.Machine.lives m0) (g.M.Machine.lives m1) (g.M.Machine.asked m0) (g.M.Machine.asked m1) (g.M.Machine.log m0) (g.M.Machine.log m1)
    (g.met.M.Machine.told m0 c.requires.sound) (rw e.processor at (g.met.M.Machine.told m1 e.sound)) (c.requires.counted _ (ap value_of (sym held))) (sym held) c.requires.free e.acquired (rw c.as_bytes-2.ensures.value at c.in-Ok.ensures.ok) e.asked e.lists os down)

pub returns-clause-yields : goal.returns-clause-yields
returns-clause-yields g c = acquired-unyielding _ _ _ _ _ _ c.acquire.ensures.acquired

pub acquire-requires-clause-living : goal.acquire-requires-clause-living
acquire-requires-clause-living g c =
    let held = rw c.as_bytes.ensures.value at (rw c.in-Object.is at c.holding.ensures) in
    let living = c.requires.holds.1.living c.args.of.now _ _ _ (sym held) in
    (living.class, living.alive)

pub acquire-requires-clause-counted : goal.acquire-requires-clause-counted
acquire-requires-clause-counted g c =
    let held = rw c.as_bytes.ensures.value at (rw c.in-Object.is at c.holding.ensures) in
    let living = c.requires.holds.1.living c.args.of.now _ _ _ (sym held) in
    let typed : type_in (g.M.Machine.lives c.args.machine.now c.in-Object.object.unit) ≡ c.in-Object.type_id.0 = ap type_in living.alive.is ∙ living.typed in
    rw (c.requires.declared, typed) (c.requires.counted _ (ap value_of (sym held)))

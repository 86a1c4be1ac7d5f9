use Rattle.std.proofs.Common.{◌∙◌, ap, sym}
use Rattle.bm_check.specs.Values.{is_owning}
use Rattle.bm_law_scenario.specs.Held.{Names}
use Rattle.bm_exec.specs.Named.{declared_of}
use Rattle.bm_exec.specs.Seen.{names_of}
use Rattle.bm_exec.specs.Stores.{value_of}
use Rattle.bm_exec.proofs.Exchanging.{exchange-performed, slot-is, taken-is, without-is}
use Rattle.bm_exec.proofs.Objects.{to-put}
use Rattle.bm_exec.proofs.Results.{get-is}
use Rattle.bm_exec.proofs.Yields.{exchanged-unyielding}
use Rattle.bm_exec.proofs.running.perform_exchange.Goals as goal

pub take_given-put-requires : goal.take_given-put-requires
take_given-put-requires g c =
    let maps = c.args.types.now.maps.now in
    let m = c.in-Some.declared.now in
    let of = slot-is maps c.args.slot.0 m c.requires.can (get-is maps c.args.slot.0 m c.in-Some.ensures.lookup.3.0 (c.in-Some.ensures.lookup.3.1 _)) in
    record { gives = (m.type_id, c.requires.gives m of) }

pub exchange-was-requires-clause-slot : goal.exchange-was-requires-clause-slot
exchange-was-requires-clause-slot g c =
    let maps = c.args.types.now.maps.now in
    let m = c.in-Some.declared.now in
    let of = slot-is maps c.args.slot.0 m c.requires.can (get-is maps c.args.slot.0 m c.in-Some.ensures.lookup.3.0 (c.in-Some.ensures.lookup.3.1 _)) in
    let puts = c.take_given-put.ensures.puts m.type_id (c.requires.gives m of) in
    (m, rw c.requires.declared of, sym c.duplicate.ensures, to-put c.args.types.now.declared.now c.requires.holds.0 (g.M.Machine.lives c.args.machine.now) (names_of c.args.names.now) _ c.args.given.now m.type_id c.take_given-put.result puts c.requires.holds.1)

pub returns-clause-performed : goal.returns-clause-performed
returns-clause-performed g c os down =
    let maps = c.args.types.now.maps.now in
    let m0 = c.args.machine.now in
    let m1 = c.exchange-was.new.self in
    let e = c.exchange-was.ensures in
    let m = c.in-Some.declared.now in
    let was = c.exchange-was.result in
    let between = names_of c.take_given-put.new.names in
    let of = slot-is maps c.args.slot.0 m c.requires.can (get-is maps c.args.slot.0 m c.in-Some.ensures.lookup.3.0 (c.in-Some.ensures.lookup.3.1 _)) in
    let puts = c.take_given-put.ensures.puts m.type_id (c.requires.gives m of) in
    let free = ap (λ (n : Names). is_owning (value_of (n c.args.name.now))) (without-is c.args.given.now m.type_id c.take_given-put.result (names_of c.args.names.now) between puts) ∙ c.requires.free in
    let done = rw (c.requires.declared, c.duplicate.ensures) at (e.exchanged m (rw c.requires.declared of)) in
    let held = rw (c.as_bytes.ensures.value, c.holding_of.ensures, taken-is m.type_id was) at c.in-Ok.ensures.ok in
    rw e.around (exchange-performed (declared_of c.args.types.now) (g.M.Machine.level m0) (g.M.Machine.around m0) (g.M.Machine.behind m0) (g.M.Machine.processor m0) (g.M.Machine.lists m0) (g.M.Machine.lists m1) (g.M.Machine.guarded m0) c.args.name.now c.args.slot c.args.given.now m c.take_given-put.result was
    (names_of c.args.names.now) between (names_of c.put.new.self) (g.M.Machine.lives m0) (g.M.Machine.lives m1) (g.M.Machine.asked m0) (g.M.Machine.asked m1) (g.M.Machine.log m0) (g.M.Machine.log m1)
    (g.met.M.Machine.told m0 c.requires.sound) (rw e.processor at (g.met.M.Machine.told m1 e.sound)) of puts free done held e.asked e.lists os down)

pub returns-clause-yields : goal.returns-clause-yields
returns-clause-yields g c =
    let maps = c.args.types.now.maps.now in
    let m = c.in-Some.declared.now in
    let of = slot-is maps c.args.slot.0 m c.requires.can (get-is maps c.args.slot.0 m c.in-Some.ensures.lookup.3.0 (c.in-Some.ensures.lookup.3.1 _)) in
    exchanged-unyielding _ _ _ _ _ _ _ _ _ _ (c.exchange-was.ensures.exchanged m (rw c.requires.declared of))

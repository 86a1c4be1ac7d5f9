use Rattle.std.proofs.Common.{◌≡◌, arith, ◌∙◌, ap, refl, sym, subst}
use Rattle.bm_lang.specs.declared.scenario.TypeDeclaration.{TypeDeclaration}
use Rattle.bm_exec.specs.Living.{LetGo, type_in}
use Rattle.bm_exec.specs.Yields.{Unyielding}
use Rattle.bm_exec.proofs.Yields.{let-go-unyielding, unyielding-join}
use Rattle.bm_exec.specs.Named.{declared_of}
use Rattle.bm_exec.specs.Seen.{names_of}
use Rattle.bm_exec.proofs.Fields.{declared-is, not-there}
use Rattle.bm_exec.proofs.Performing.{drop-performed}
use Rattle.bm_exec.proofs.Results.{on-ok, both-ok, get-is}
use Rattle.bm_exec.proofs.KnownNames.{owning-there}
use Rattle.bm_exec.proofs.running.perform_drop.Goals as goal

pub returns-clause-performed : goal.returns-clause-performed
returns-clause-performed g c =
    let m0 = c.args.machine.now in
    let m1 = c.dispose.new.self in
    let m2 = c.settle.new.self in
    let r = c.settle.result in
    let s = c.settle.ensures in
    let held = rw c.as_bytes.ensures.value at (rw c.in-Object.is at c.holding.ensures) in
    let living = c.requires.holds.1.living c.args.name.now _ _ _ (sym held) in
    let d : TypeDeclaration = c.in-Some.declared.now in
    let found : d ≡ living.declared = declared-is c.args.types.now.declared.now _ d living.declared (get-is c.args.types.now.declared.now _ d c.in-Some.ensures.lookup.3.0 (c.in-Some.ensures.lookup.3.1 _)) living.of_class.found in
    let gone = subst (λ (x : TypeDeclaration). LetGo (g.M.Machine.level m0) x.counted living.class c.in-Object.object (g.M.Machine.lists m0) (g.M.Machine.log m0) (g.M.Machine.log m1) (g.M.Machine.lives m0) (g.M.Machine.lives m1)) found (c.dispose.ensures.disposed living.class living.alive) in
    let facts = both-ok r _ _ (both-ok r _ _ s.settled s.down) (both-ok r _ _ (both-ok r _ _ s.sound s.processor) (both-ok r _ _ s.lives s.asked)) in
    on-ok r _ _ facts (λ f os none.
    drop-performed (declared_of c.args.types.now) (g.M.Machine.level m0) (g.M.Machine.around m0) (g.M.Machine.behind c.args.machine.now) (g.M.Machine.processor m0) (g.M.Machine.lists m0) (g.M.Machine.lists m1) (g.M.Machine.lists m2) (g.M.Machine.guarded m0) c.args.name.now _ c.in-Object.object
    (names_of c.args.names.now) (names_of c.put.new.self) (g.M.Machine.lives m0) (g.M.Machine.lives m1) (g.M.Machine.lives m2) (g.M.Machine.asked m0) (g.M.Machine.asked m2)
    (g.M.Machine.log m0) (g.M.Machine.log m1) (g.M.Machine.log m2) living.class living.declared
    (g.met.M.Machine.told m0 c.requires.sound) (rw c.dispose.ensures.processor at (g.met.M.Machine.told m1 c.dispose.ensures.sound))
    (rw (f.1.0.1 ∙ c.dispose.ensures.processor) at (g.met.M.Machine.told m2 f.1.0.0)) living.of_class (sym held) gone (rw c.as_bytes-2.ensures.value at c.in-Ok.ensures.ok) (let x = f.1.1.1 in let y = c.dispose.ensures.asked in omega (arith, x, y))
    f.1.1.0 (rw c.dispose.ensures.behind at f.0.0) (rw c.dispose.ensures.behind at f.0.1) os none)

pub returns-clause-keeps : goal.returns-clause-keeps
returns-clause-keeps g c = on-ok c.settle.result _ _ c.settle.ensures.keeps (λ k. g.met.M.Machine.keeps_join c.args.machine.now c.dispose.new.self c.settle.new.self c.dispose.ensures.keeps k)

pub unreachable-requires-in_default-put : goal.unreachable-requires-in_default-put
unreachable-requires-in_default-put g c =
    let there = owning-there c.args.names.now c.args.name.now c.requires.owned in
    let ok = rw c.in_default-put.is at (c.put.ensures.known (rw c.as_bytes-2.ensures.value there)) in
    cc

pub returns-clause-known : goal.returns-clause-known
returns-clause-known g c =
    let there = owning-there c.args.names.now c.args.name.now c.requires.owned in
    c.put.ensures.same (rw c.as_bytes-2.ensures.value there)

pub returns-clause-yields : goal.returns-clause-yields
returns-clause-yields g c =
    let m0 = c.args.machine.now in
    let m1 = c.dispose.new.self in
    let m2 = c.settle.new.self in
    let held = rw c.as_bytes.ensures.value at (rw c.in-Object.is at c.holding.ensures) in
    let living = c.requires.holds.1.living c.args.name.now _ _ _ (sym held) in
    let quiet : Unyielding (g.M.Machine.level m0) (g.M.Machine.log m0) (g.M.Machine.log m1) = let-go-unyielding _ _ _ _ _ _ _ _ _ (c.dispose.ensures.disposed living.class living.alive) in
    on-ok c.settle.result _ _ c.settle.ensures.yields (λ y.
    unyielding-join (g.M.Machine.level m0) (g.M.Machine.log m0) (g.M.Machine.log m1) (g.M.Machine.log m2) quiet
    (subst (λ l. Unyielding l (g.M.Machine.log m1) (g.M.Machine.log m2)) c.dispose.ensures.level y))

pub dispose-requires-clause-typed : goal.dispose-requires-clause-typed
dispose-requires-clause-typed g c =
    let held = rw c.as_bytes.ensures.value at (rw c.in-Object.is at c.holding.ensures) in
    let living = c.requires.holds.1.living c.args.name.now _ _ _ (sym held) in
    let d : TypeDeclaration = c.in-Some.declared.now in
    let found = get-is c.args.types.now.declared.now _ d c.in-Some.ensures.lookup.3.0 (c.in-Some.ensures.lookup.3.1 _) in
    let typed : type_in (g.M.Machine.lives c.args.machine.now c.in-Object.object.unit) ≡ c.in-Object.type_id.0 = ap type_in living.alive.is ∙ living.typed in
    rw (c.requires.declared, typed) (record { declared = d; found = found; counted_is = refl })

pub dispose-requires-clause-living : goal.dispose-requires-clause-living
dispose-requires-clause-living g c =
    let held = rw c.as_bytes.ensures.value at (rw c.in-Object.is at c.holding.ensures) in
    let living = c.requires.holds.1.living c.args.name.now _ _ _ (sym held) in
    (living.class, living.alive)

pub unreachable-requires-in_default-get : goal.unreachable-requires-in_default-get
unreachable-requires-in_default-get g c =
    let held = rw c.as_bytes.ensures.value at (rw c.in-Object.is at c.holding.ensures) in
    let living = c.requires.holds.1.living c.args.name.now _ _ _ (sym held) in
    not-there c.args.types.now.declared.now _ living.declared c.in_default-get.ensures.lookup.3 living.of_class.found

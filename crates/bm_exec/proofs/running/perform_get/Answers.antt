use Rattle.std.proofs.Common.{◌≤◌, ◌∙◌, ap, inl, inr, is_some, length, slice_get, subst, sym}
use Rattle.bm_lang.specs.declared.scenario.TypeDeclaration.{TypeDeclaration}
use Rattle.bm_lang.specs.declared.scenario.TypeId.{TypeId}
use Rattle.bm_exec.specs.Fields.{HasField}
use Rattle.bm_exec.specs.Guarded.{shelved_values}
use Rattle.bm_exec.specs.Living.{values_in}
use Rattle.bm_exec.specs.Seen.{names_of}
use Rattle.bm_exec.proofs.Counted.{refers-soft, refers-type}
use Rattle.bm_exec.proofs.Fields.{declared-is, there-too}
use Rattle.bm_exec.proofs.Performing.{get-performed}
use Rattle.bm_exec.proofs.Yields.{one-unyielding, read-unyielding}
use Rattle.bm_exec.specs.Named.{declared_of}
use Rattle.bm_exec.proofs.running.perform_get.Goals as goal

-- ---- by an owning reference

pub field_of-requires-clause-field : goal.field_of-requires-clause-field
field_of-requires-clause-field g c =
    let held = rw c.as_bytes.ensures.value at (rw c.in-Object.is at c.holding.ensures) in
    let f = c.requires.field in
    let F : TypeId → Type 0 = λ t. HasField c.args.types.now.declared.now t.0 c.args.field.now in
    subst F (refers-type (names_of c.args.names.now c.args.name.now) f.0 c.in-Object.type_id _ _ (sym held) f.1) f.2

pub field_of-requires-clause-few : goal.field_of-requires-clause-few
field_of-requires-clause-few g c d found =
    let held = rw c.as_bytes.ensures.value at (rw c.in-Object.is at c.holding.ensures) in
    let living = c.requires.holds.1.living c.args.name.now _ _ _ (sym held) in
    subst (λ (k : TypeDeclaration). length k.fields ≤ 8) (declared-is c.args.types.now.declared.now _ living.declared d living.of_class.found found) living.few

pub read-requires-clause-living : goal.read-requires-clause-living
read-requires-clause-living g c =
    let held = rw c.as_bytes.ensures.value at (rw c.in-Object.is at c.holding.ensures) in
    let living = c.requires.holds.1.living c.args.name.now _ _ _ (sym held) in
    (living.class, living.alive)

pub read-requires-clause-there : goal.read-requires-clause-there
read-requires-clause-there g c =
    let held = rw c.as_bytes.ensures.value at (rw c.in-Object.is at c.holding.ensures) in
    let living = c.requires.holds.1.living c.args.name.now _ _ _ (sym held) in
    let of = c.field_of.ensures in
    let found = declared-is c.args.types.now.declared.now _ of.declared living.declared of.found living.of_class.found in
    let same = living.fields ∙ ap (λ (k : TypeDeclaration). length k.fields) (sym found) in
    ap (λ o. is_some (slice_get (values_in o) c.field_of.result)) living.alive.is ∙ there-too living.alive.values of.declared.fields c.field_of.result c.args.field.now same of.named

pub returns-in-Object-clause-performed : goal.returns-in-Object-clause-performed
returns-in-Object-clause-performed g c os down =
    let m0 = c.args.machine.now in
    let m1 = c.read.new.self in
    let e = c.read.ensures in
    let held = rw c.as_bytes.ensures.value at (rw c.in-Object.is at c.holding.ensures) in
    rw e.around (get-performed (declared_of c.args.types.now) (g.M.Machine.level m0) (g.M.Machine.around m0) (g.M.Machine.behind m0) (g.M.Machine.processor m0) (g.M.Machine.lists m0) (g.M.Machine.lists m1) (g.M.Machine.guarded m0) c.args.name.now c.args.field.now c.in-Object.type_id c.in-Object.object c.field_of.result e.read.value
    (names_of c.args.names.now) (g.M.Machine.lives m0) (g.M.Machine.lives m1) (g.M.Machine.asked m0) (g.M.Machine.asked m1) (g.M.Machine.log m0) (g.M.Machine.log m1)
    (g.met.M.Machine.told m0 c.requires.sound) (rw e.processor at (g.met.M.Machine.told m1 e.sound)) c.field_of.ensures (inl (sym held)) e.read.records e.asked e.lists e.lives os down)

pub returns-in-Object-clause-yields : goal.returns-in-Object-clause-yields
returns-in-Object-clause-yields g c = read-unyielding _ _ _ _ _ _ c.read.ensures.read

-- ---- by a non-owning one

pub field_of-requires-in-Soft-clause-field : goal.field_of-requires-in-Soft-clause-field
field_of-requires-in-Soft-clause-field g c =
    let held = rw c.as_bytes.ensures.value at (rw c.in-Soft.is at c.holding.ensures) in
    let f = c.requires.field in
    let F : TypeId → Type 0 = λ t. HasField c.args.types.now.declared.now t.0 c.args.field.now in
    subst F (refers-soft (names_of c.args.names.now c.args.name.now) f.0 c.in-Soft.type_id _ _ _ (sym held) f.1) f.2

pub field_of-requires-in-Soft-clause-few : goal.field_of-requires-in-Soft-clause-few
field_of-requires-in-Soft-clause-few g c d found =
    let types = c.args.types.now.declared.now in
    let held = rw c.as_bytes.ensures.value at (rw c.in-Soft.is at c.holding.ensures) in
    let seen = (c.requires.seen c.in-Soft.type_id _ _ _ (sym held)).2 in
    let made = seen.made in
    let same = declared-is types _ made.declared d made.of_class.found found in
    subst (λ (k : TypeDeclaration). length k.fields ≤ 8) same made.few

pub look-requires-clause-ground : goal.look-requires-clause-ground
look-requires-clause-ground g c =
    let held = rw c.as_bytes.ensures.value at (rw c.in-Soft.is at c.holding.ensures) in
    (c.requires.seen c.in-Soft.type_id _ _ _ (sym held)).0

pub look-requires-clause-shelved : goal.look-requires-clause-shelved
look-requires-clause-shelved g c =
    let held = rw c.as_bytes.ensures.value at (rw c.in-Soft.is at c.holding.ensures) in
    let seen = c.requires.seen c.in-Soft.type_id _ _ _ (sym held) in
    (c.in-Soft.type_id.0, c.in-Soft.field-1.0, rw c.requires.declared seen.2, seen.1)

pub look-requires-clause-there : goal.look-requires-clause-there
look-requires-clause-there g c =
    let types = c.args.types.now.declared.now in
    let held = rw c.as_bytes.ensures.value at (rw c.in-Soft.is at c.holding.ensures) in
    let seen = (c.requires.seen c.in-Soft.type_id _ _ _ (sym held)).2 in
    let made = seen.made in
    let of = c.field_of-in-Soft.ensures in
    let found = declared-is types _ of.declared made.declared of.found made.of_class.found in
    let same = made.fields ∙ ap (λ (k : TypeDeclaration). length k.fields) (sym found) in
    ap (λ o. is_some (slice_get (shelved_values o) c.field_of-in-Soft.result)) seen.found ∙ there-too seen.shelved.values of.declared.fields c.field_of-in-Soft.result c.args.field.now same of.named

pub returns-in-Soft-clause-performed : goal.returns-in-Soft-clause-performed
returns-in-Soft-clause-performed g c os down =
    let m0 = c.args.machine.now in
    let m1 = c.look.new.self in
    let e = c.look.ensures in
    let held = rw c.as_bytes.ensures.value at (rw c.in-Soft.is at c.holding.ensures) in
    rw e.around (get-performed (declared_of c.args.types.now) (g.M.Machine.level m0) (g.M.Machine.around m0) (g.M.Machine.behind m0) (g.M.Machine.processor m0) (g.M.Machine.lists m0) (g.M.Machine.lists m1) (g.M.Machine.guarded m0) c.args.name.now c.args.field.now c.in-Soft.type_id c.in-Soft.object c.field_of-in-Soft.result e.looked.value
    (names_of c.args.names.now) (g.M.Machine.lives m0) (g.M.Machine.lives m1) (g.M.Machine.asked m0) (g.M.Machine.asked m1) (g.M.Machine.log m0) (g.M.Machine.log m1)
    (g.met.M.Machine.told m0 c.requires.sound) (rw e.processor at (g.met.M.Machine.told m1 e.sound)) c.field_of-in-Soft.ensures (inr (c.in-Soft.field-1, sym held)) e.looked.records e.asked e.lists e.lives os down)

pub returns-in-Soft-clause-yields : goal.returns-in-Soft-clause-yields
returns-in-Soft-clause-yields g c = one-unyielding _ _ _ _ tt c.look.ensures.looked.records

use Rattle.std.proofs.Common.{◌≡◌, ◌∙◌, ℕ, Ok, ap, arith, length, refl, slice_get, subst, sym}
use Rattle.bm_check.specs.Values.{is_owning}
use Rattle.bm_lang.specs.declared.scenario.TypeDeclaration.{TypeDeclaration}
use Rattle.bm_lang.specs.declared.scenario.TypeId.{TypeId}
use Rattle.bm_law.specs.State.{State}
use Rattle.bm_law_scenario.specs.Calls.{put_in}
use Rattle.bm_law_scenario.specs.Held.{Object, with_name}
use Rattle.bm_law_scenario.specs.Opened.{OfClass}
use Rattle.bm_exec.specs.Living.{IsHeld, LetGo, Lives, LivesAs, type_in, values_in}
use Rattle.bm_exec.specs.Named.{declared_of}
use Rattle.bm_exec.specs.Seen.{names_of}
use Rattle.bm_exec.specs.Stores.{value_of}
use Rattle.bm_exec.specs.Yields.{Unyielding}
use Rattle.bm_exec.proofs.Fields.{declared-is, not-there}
use Rattle.bm_exec.proofs.Guarding.{graph-is, key-some, put-performed, refused-performed, type-put}
use Rattle.bm_exec.proofs.KnownNames.{owning-there}
use Rattle.bm_exec.proofs.Results.{get-is}
use Rattle.bm_exec.proofs.Yields.{let-go-unyielding, one-unyielding, push-quiet, refused-quiet, unyielding-join}
use Rattle.bm_exec.proofs.running.perform_push.Goals as goal

pub unreachable-requires-in_default-get-2 : goal.unreachable-requires-in_default-get-2
unreachable-requires-in_default-get-2 g c =
    let held = rw c.as_bytes.ensures.value at (rw c.in-Object.is at c.holding.ensures) in
    let living = c.requires.holds.1.living c.args.name.now _ _ _ (sym held) in
    not-there c.args.types.now.declared.now _ living.declared c.in_default-get-2.ensures.lookup.3 living.of_class.found

pub push-requires-clause-graph : goal.push-requires-clause-graph
push-requires-clause-graph g c =
    let maps = c.args.types.now.maps.now in
    let names = names_of c.args.names.now in
    let held = rw c.as_bytes.ensures.value at (rw c.in-Object.is at c.holding.ensures) in
    let living = c.requires.holds.1.living c.args.name.now _ _ _ (sym held) in
    let m = c.in-Some.declared.now in
    let of = graph-is maps _ c.args.graph.0 m c.requires.can (get-is maps c.args.graph.0 m c.in-Some.ensures.lookup.3.0 (c.in-Some.ensures.lookup.3.1 _)) in
    let same = type-put names c.args.name.now c.in-Object.type_id m.type_id _ _ (sym held) (c.requires.gives m of) in
    (m, rw c.requires.declared of, sym c.duplicate.ensures, (living.class, living.alive, living.typed ∙ sym (ap (λ (t : TypeId). t.0) same)))

pub push-requires-clause-keyed : goal.push-requires-clause-keyed
push-requires-clause-keyed g c ordered =
    let maps = c.args.types.now.maps.now in
    let names = names_of c.args.names.now in
    let held = rw c.as_bytes.ensures.value at (rw c.in-Object.is at c.holding.ensures) in
    let living = c.requires.holds.1.living c.args.name.now _ _ _ (sym held) in
    let m = c.in-Some.declared.now in
    let found = get-is maps c.args.graph.0 m c.in-Some.ensures.lookup.3.0 (c.in-Some.ensures.lookup.3.1 _) in
    let of = graph-is maps _ c.args.graph.0 m c.requires.can found in
    let same = type-put names c.args.name.now c.in-Object.type_id m.type_id _ _ (sym held) (c.requires.gives m of) in
    let found_type = ap (λ (t : TypeId). slice_get c.args.types.now.declared.now t.0) same ∙ living.of_class.found in
    let some = key-some c.args.types.now.declared.now maps c.args.graph.0 m living.declared (c.requires.keyed ordered) found found_type in
    let values : length (values_in (g.M.Machine.lives c.args.machine.now c.in-Object.object.unit)) ≡ length living.declared.fields = ap (λ o. length (values_in o)) living.alive.is ∙ living.fields in
    omega (arith, some, values)

pub set_name-requires : goal.set_name-requires
set_name-requires g c =
    let held = rw c.as_bytes.ensures.value at (rw c.in-Object.is at c.holding.ensures) in
    record { there = owning-there c.args.names.now c.args.name.now (ap (λ h. is_owning (value_of h)) (sym held)) }

pub set_name-requires-else-branch : goal.set_name-requires-else-branch
set_name-requires-else-branch g c =
    let held = rw c.as_bytes.ensures.value at (rw c.in-Object.is at c.holding.ensures) in
    record { there = owning-there c.args.names.now c.args.name.now (ap (λ h. is_owning (value_of h)) (sym held)) }

pub dispose-requires-clause-living : goal.dispose-requires-clause-living
dispose-requires-clause-living g c =
    let held = rw c.as_bytes.ensures.value at (rw c.in-Object.is at c.holding.ensures) in
    let living = c.requires.holds.1.living c.args.name.now _ _ _ (sym held) in
    let got = c.in_ok-push.ensures.refused (ap Ok c.if-branch.false) in
    (living.class, subst (λ (v : Lives). LivesAs v living.class c.in-Object.object.unit c.in-Object.object.life) (sym got.lives_same) living.alive)

pub dispose-requires-clause-typed : goal.dispose-requires-clause-typed
dispose-requires-clause-typed g c =
    let m0 = c.args.machine.now in
    let m1 = c.push.new.self in
    let types = c.args.types.now.declared.now in
    let held = rw c.as_bytes.ensures.value at (rw c.in-Object.is at c.holding.ensures) in
    let living = c.requires.holds.1.living c.args.name.now _ _ _ (sym held) in
    let got = c.in_ok-push.ensures.refused (ap Ok c.if-branch.false) in
    let d : TypeDeclaration = c.in-Some-get.of_type.now in
    let found = get-is types _ d c.in-Some-get.ensures.lookup.3.0 (c.in-Some-get.ensures.lookup.3.1 _) in
    let typed : type_in (g.M.Machine.lives m1 c.in-Object.object.unit) ≡ c.in-Object.type_id.0 = ap (λ (v : Lives). type_in (v c.in-Object.object.unit)) got.lives_same ∙ (ap type_in living.alive.is ∙ living.typed) in
    let same = g.met.M.Machine.keeps_declared m0 m1 c.in_ok-push.ensures.keeps ∙ c.requires.declared in
    rw (same, typed) (record { declared = d; found = found; counted_is = refl })

pub returns-then-branch-clause-performed : goal.returns-then-branch-clause-performed
returns-then-branch-clause-performed g c os locked =
    let maps = c.args.types.now.maps.now in
    let types = c.args.types.now.declared.now in
    let names = names_of c.args.names.now in
    let m0 = c.args.machine.now in
    let m1 = c.push.new.self in
    let e = c.in_ok-push.ensures in
    let o = c.in-Object.object in
    let held = rw c.as_bytes.ensures.value at (rw c.in-Object.is at c.holding.ensures) in
    let living = c.requires.holds.1.living c.args.name.now _ _ _ (sym held) in
    let m = c.in-Some.declared.now in
    let of = graph-is maps _ c.args.graph.0 m c.requires.can (get-is maps c.args.graph.0 m c.in-Some.ensures.lookup.3.0 (c.in-Some.ensures.lookup.3.1 _)) in
    let same = type-put names c.args.name.now c.in-Object.type_id m.type_id _ _ (sym held) (c.requires.gives m of) in
    let d : TypeDeclaration = c.in-Some-get.of_type.now in
    let found = ap (λ (t : TypeId). slice_get types t.0) same ∙ get-is types _ d c.in-Some-get.ensures.lookup.3.0 (c.in-Some-get.ensures.lookup.3.1 _) in
    let N : TypeId → Type 0 = λ t. names_of c.set_name.new.names ≡ with_name c.args.name.now (put_in d.counted t c.args.graph o.unit o.life) names in
    let now : N m.type_id = subst N (sym same) (rw c.pushed_as.ensures at c.set_name.ensures.held) in
    let mine = subst (λ (t : TypeId). IsHeld types (g.M.Machine.lives m0) t o.unit o.life) (sym same) living in
    let got = rw c.duplicate.ensures at (e.put_in (ap Ok c.if-branch.true)) in
    let n = e.asked in
    rw e.around (put-performed (declared_of c.args.types.now) (g.M.Machine.level m0) (g.M.Machine.around m0) (g.M.Machine.behind m0) (g.M.Machine.processor m0) (g.M.Machine.lists m0) (g.M.Machine.lists m1) (g.M.Machine.guarded m0) (g.M.Machine.guarded m1) c.args.way c.args.graph c.args.name.now m o d
    names (names_of c.set_name.new.names) os (g.M.Machine.lives m0) (g.M.Machine.lives m1) (g.M.Machine.asked m0) (g.M.Machine.asked m1) (g.M.Machine.log m0) (g.M.Machine.log m1)
    (g.met.M.Machine.told m0 c.requires.sound) (rw e.processor at (g.met.M.Machine.told m1 e.sound)) of found (sym held ∙ ap (λ t. Object t o.unit o.life) (sym same)) mine got now (omega (arith, n)) locked)

pub returns-then-branch-clause-yields : goal.returns-then-branch-clause-yields
returns-then-branch-clause-yields g c = one-unyielding _ _ _ _ (push-quiet c.args.way c.in-Object.object _ _ _) (c.in_ok-push.ensures.put_in (ap Ok c.if-branch.true)).records

pub returns-else-branch-clause-performed : goal.returns-else-branch-clause-performed
returns-else-branch-clause-performed g c os locked =
    let maps = c.args.types.now.maps.now in
    let types = c.args.types.now.declared.now in
    let names = names_of c.args.names.now in
    let m0 = c.args.machine.now in
    let m1 = c.push.new.self in
    let m2 = c.dispose.new.self in
    let e = c.in_ok-push.ensures in
    let f = c.dispose.ensures in
    let o = c.in-Object.object in
    let held = rw c.as_bytes.ensures.value at (rw c.in-Object.is at c.holding.ensures) in
    let living = c.requires.holds.1.living c.args.name.now _ _ _ (sym held) in
    let m = c.in-Some.declared.now in
    let of = graph-is maps _ c.args.graph.0 m c.requires.can (get-is maps c.args.graph.0 m c.in-Some.ensures.lookup.3.0 (c.in-Some.ensures.lookup.3.1 _)) in
    let same = type-put names c.args.name.now c.in-Object.type_id m.type_id _ _ (sym held) (c.requires.gives m of) in
    let d : TypeDeclaration = c.in-Some-get.of_type.now in
    let found = get-is types _ d c.in-Some-get.ensures.lookup.3.0 (c.in-Some-get.ensures.lookup.3.1 _) in
    let got = rw (c.requires.declared, c.duplicate.ensures) at (e.refused (ap Ok c.if-branch.false)) in
    let alive = subst (λ (v : Lives). LivesAs v living.class o.unit o.life) (sym got.lives_same) living.alive in
    let D : TypeDeclaration → TypeId → Type 0 = λ k t. OfClass types t.0 living.class k in
    let class = subst (λ (t : TypeId). D d t) (sym same) (subst (λ (k : TypeDeclaration). D k c.in-Object.type_id) (declared-is types _ living.declared d living.of_class.found found) living.of_class) in
    let typed : type_in (g.M.Machine.lives m0 o.unit) ≡ c.in-Object.type_id.0 = ap type_in living.alive.is ∙ living.typed in
    let counted = ap (λ (k : TypeDeclaration). k.counted) (declared-is types _ d got.counted.declared found (ap (slice_get types) (sym typed) ∙ got.counted.found)) ∙ got.counted.counted in
    let G : ℕ → State ℕ → Type 0 = λ l s. LetGo l d.counted living.class o s (g.M.Machine.log m1) (g.M.Machine.log m2) (g.M.Machine.lives m1) (g.M.Machine.lives m2) in
    let gone : G (g.M.Machine.level m0) (g.M.Machine.lists m0) = subst (λ (l : ℕ). G l (g.M.Machine.lists m0)) e.level (subst (λ (s : State ℕ). G (g.M.Machine.level m1) s) e.lists (f.disposed living.class alive)) in
    let n = e.asked in
    let k = f.asked in
    rw (f.around ∙ e.around, f.guarded) (refused-performed (declared_of c.args.types.now) (g.M.Machine.level m0) (g.M.Machine.around m0) (g.M.Machine.behind m0) (g.M.Machine.processor m0) (g.M.Machine.lists m0) (g.M.Machine.lists m2) (g.M.Machine.guarded m0) (g.M.Machine.guarded m1) c.args.way c.args.graph c.args.name.now m o d living.class
    names (names_of c.set_name-else-branch.new.names) os (g.M.Machine.lives m0) (g.M.Machine.lives m1) (g.M.Machine.lives m2) (g.M.Machine.asked m0) (g.M.Machine.asked m2) (g.M.Machine.log m0) (g.M.Machine.log m1) (g.M.Machine.log m2)
    (g.met.M.Machine.told m0 c.requires.sound) (rw (f.processor ∙ e.processor) at (g.met.M.Machine.told m2 f.sound)) of class counted (sym held ∙ ap (λ t. Object t o.unit o.life) (sym same)) got gone c.set_name-else-branch.ensures.held (omega (arith, n, k)) locked)

pub returns-else-branch-clause-yields : goal.returns-else-branch-clause-yields
returns-else-branch-clause-yields g c =
    let m0 = c.args.machine.now in
    let m1 = c.push.new.self in
    let m2 = c.dispose.new.self in
    let held = rw c.as_bytes.ensures.value at (rw c.in-Object.is at c.holding.ensures) in
    let living = c.requires.holds.1.living c.args.name.now _ _ _ (sym held) in
    let got = c.in_ok-push.ensures.refused (ap Ok c.if-branch.false) in
    let alive = subst (λ (v : Lives). LivesAs v living.class c.in-Object.object.unit c.in-Object.object.life) (sym got.lives_same) living.alive in
    let gone : Unyielding (g.M.Machine.level m1) (g.M.Machine.log m1) (g.M.Machine.log m2) = let-go-unyielding _ _ _ _ _ _ _ _ _ (c.dispose.ensures.disposed living.class alive) in
    unyielding-join (g.M.Machine.level m0) (g.M.Machine.log m0) (g.M.Machine.log m1) (g.M.Machine.log m2) (one-unyielding _ _ _ _ (refused-quiet c.args.way c.in-Object.object _ _ _ _) got.records)
    (subst (λ l. Unyielding l (g.M.Machine.log m1) (g.M.Machine.log m2)) c.in_ok-push.ensures.level gone)

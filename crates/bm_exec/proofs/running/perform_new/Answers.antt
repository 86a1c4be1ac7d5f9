use Rattle.std.proofs.Common.{arith, ◌∙◌, subst}
use Rattle.bm_exec.specs.Yields.{Unyielding}
use Rattle.bm_exec.proofs.Yields.{created-unyielding, unyielding-join}
use Rattle.bm_exec.specs.Seen.{names_of}
use Rattle.bm_exec.specs.Named.{declared_of}
use Rattle.bm_exec.proofs.Objects.{is-made}
use Rattle.bm_exec.proofs.Performing.{new-performed}
use Rattle.bm_exec.proofs.Results.{on-ok, both-ok, get-is}
use Rattle.bm_exec.proofs.running.perform_new.Goals as goal

pub returns-clause-performed : goal.returns-clause-performed
returns-clause-performed g c =
    let m0 = c.args.machine.now in
    let m1 = c.create-reply.new.self in
    let m2 = c.settle.new.self in
    let r = c.settle.result in
    let s = c.settle.ensures in
    let facts = both-ok r _ _ (both-ok r _ _ s.settled s.down) (both-ok r _ _ (both-ok r _ _ s.sound s.processor) (both-ok r _ _ s.lives s.asked)) in
    let made = is-made c.args.types.now.declared.now c.args.types.now.classes.now c.args.type_id.0 c.args.values.now c.in-Some.declared.now c.in-Some-get.class.now c.requires.classes (get-is c.args.types.now.declared.now c.args.type_id.0 c.in-Some.declared.now c.in-Some.ensures.lookup.3.0 (c.in-Some.ensures.lookup.3.1 _)) (get-is c.args.types.now.classes.now c.args.type_id.0 c.in-Some-get.class.now c.in-Some-get.ensures.lookup.3.0 (c.in-Some-get.ensures.lookup.3.1 _)) c.requires.can in
    on-ok r _ _ facts (λ f os none.
    new-performed (declared_of c.args.types.now) (g.M.Machine.level m0) (g.M.Machine.around m0) (g.M.Machine.behind c.args.machine.now) (g.M.Machine.processor m0) (g.M.Machine.lists m0) (g.M.Machine.lists m1) (g.M.Machine.lists m2) (g.M.Machine.guarded m0) c.args.name.now c.args.type_id c.args.values.now
    (names_of c.args.names.now) (names_of c.put.new.self) (g.M.Machine.lives m0) (g.M.Machine.lives m1) (g.M.Machine.lives m2) (g.M.Machine.asked m0) (g.M.Machine.asked m2)
    (g.M.Machine.log m0) (g.M.Machine.log m1) (g.M.Machine.log m2) c.create-reply.result c.in-Some-get.class.now
    (g.met.M.Machine.told m0 c.requires.sound) (rw c.create-reply.ensures.processor at (g.met.M.Machine.told m1 c.create-reply.ensures.sound))
    (rw (f.1.0.1 ∙ c.create-reply.ensures.processor) at (g.met.M.Machine.told m2 f.1.0.0)) made c.requires.free (rw (c.in-Some-new.ensures.1 ∙ c.as_slice.ensures) at (rw c.duplicate.ensures at c.create-reply.ensures.created)) (rw c.as_bytes.ensures.value at (rw c.holding_of.ensures at c.in-Ok.ensures.ok)) (let x = f.1.1.1 in let y = c.create-reply.ensures.asked in omega (arith, x, y))
    f.1.1.0 (rw c.create-reply.ensures.behind at f.0.0) (rw c.create-reply.ensures.behind at f.0.1) os none)

pub create-reply-requires-clause-made : goal.create-reply-requires-clause-made
create-reply-requires-clause-made g c = rw (c.requires.declared, c.in-Some-new.ensures.1 ∙ c.as_slice.ensures) (is-made c.args.types.now.declared.now c.args.types.now.classes.now c.args.type_id.0 c.args.values.now c.in-Some.declared.now c.in-Some-get.class.now c.requires.classes (get-is c.args.types.now.declared.now c.args.type_id.0 c.in-Some.declared.now c.in-Some.ensures.lookup.3.0 (c.in-Some.ensures.lookup.3.1 _)) (get-is c.args.types.now.classes.now c.args.type_id.0 c.in-Some-get.class.now c.in-Some-get.ensures.lookup.3.0 (c.in-Some-get.ensures.lookup.3.1 _)) c.requires.can)

pub returns-clause-keeps : goal.returns-clause-keeps
returns-clause-keeps g c = on-ok c.settle.result _ _ c.settle.ensures.keeps (λ k. g.met.M.Machine.keeps_join c.args.machine.now c.create-reply.new.self c.settle.new.self c.create-reply.ensures.keeps k)

pub returns-clause-yields : goal.returns-clause-yields
returns-clause-yields g c =
    let m0 = c.args.machine.now in
    let m1 = c.create-reply.new.self in
    let m2 = c.settle.new.self in
    on-ok c.settle.result _ _ c.settle.ensures.yields (λ y.
    unyielding-join (g.M.Machine.level m0) (g.M.Machine.log m0) (g.M.Machine.log m1) (g.M.Machine.log m2) (created-unyielding _ _ _ _ _ _ _ _ _ _ c.create-reply.ensures.created)
    (subst (λ l. Unyielding l (g.M.Machine.log m1) (g.M.Machine.log m2)) c.create-reply.ensures.level y))

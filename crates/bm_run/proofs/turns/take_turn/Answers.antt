use Rattle.std.proofs.Common.{◌≡◌, ◌∙◌, ◌≤◌, ◌%◌, Option, Some, ap, arith, refl, subst, sym}
use Rattle.bm_lang.specs.declared.scenario.Script.{Script}
use Rattle.bm_law_scenario.specs.Grammar.{section_of, starts_inside}
use Rattle.bm_world.specs.LivingState.{LivingState}
use Rattle.bm_world.specs.ToldLiving.{knows_living}
use Rattle.bm_exec.specs.Lists.{behind_of}
use Rattle.bm_exec.proofs.Yields.{unyielding-join, yields-join}
use Rattle.bm_exec_levels.specs.Ready.{word_of}
use Rattle.bm_exec_levels.specs.declared.processor.Processor.{Processor}
use Rattle.bm_run.specs.Turns.{Advanced, HasEnded, begun_weight, domain_of, stands_in, weight_left}
use Rattle.bm_run.specs.declared.turns.Begun.{Begun}
use Rattle.bm_run.specs.declared.turns.Remaining.{Remaining}
use Rattle.bm_run.proofs.GoingOn.{advanced-ended, advanced-join, advanced-on}
use Rattle.bm_run.proofs.Stopping.{section-kept}
use Rattle.bm_run.proofs.turns.take_turn.Goals as goal

-- ---- nothing remains

pub returns-in_default-clause-advanced : goal.returns-in_default-clause-advanced
returns-in_default-clause-advanced g c =
    let s = c.args.program.now.scenario.now in
    let w = behind_of c.args.deferred.now.behind in
    let m : Processor LivingState = c.scripts.own in
    let k : Processor LivingState = c.next_begun.new.own in
    let r : Remaining = c.scripts.remaining in
    let q : Remaining = c.next_begun.new.remaining in
    let next = c.in_ok-begun.ensures in
    let now : Advanced s w m r k q = subst (λ (o : Option Begun). Advanced s w m r k (let x : Remaining = record q { begun = o } in x)) (c.in_default.is ∙ sym next.taken) next.advanced in
    advanced-join s w c.args.own.now m k c.args.remaining.now r q c.scripts.invariant.advanced now

pub returns-in_default-clause-turn : goal.returns-in_default-clause-turn
returns-in_default-clause-turn g c = unyielding-join 0 _ _ _ c.scripts.invariant.yields c.in_ok-begun.ensures.yields

-- ---- it yields

pub returns-in-Yielded-clause-advanced : goal.returns-in-Yielded-clause-advanced
returns-in-Yielded-clause-advanced g c =
    let p = c.args.program.now in
    let s = p.scenario.now in
    let w = behind_of c.args.deferred.now.behind in
    let m : Processor LivingState = c.scripts.own in
    let k : Processor LivingState = c.next_begun.new.own in
    let n : Processor LivingState = c.go_on-stopped.new.own in
    let r : Remaining = c.scripts.remaining in
    let q : Remaining = c.next_begun.new.remaining in
    let b : Begun = c.in-Some.begun in
    let next = c.in_ok-begun.ensures in
    let went = c.go_on-stopped.ensures in
    let y = c.in-Yielded.is in
    let here : Advanced s w m r k (record q { begun = Some b }) = subst (λ (o : Option Begun). Advanced s w m r k (let x : Remaining = record q { begun = o } in x)) c.in-Some.is next.advanced in
    let scripted = rw y at went.scripted in
    let word = section-kept (domain_of b) (starts_inside b.script.now) k n refl scripted in
    let on = advanced-on s w p k n b c.go_on-stopped.result.1 q next.sound (rw y at went.sound) scripted.ordinary word (went.yielded y) here.can.declared in
    advanced-join s w c.args.own.now m n c.args.remaining.now r (record q { begun = Some c.go_on-stopped.result.1 }) c.scripts.invariant.advanced (advanced-join s w m k n r (record q { begun = Some b }) (record q { begun = Some c.go_on-stopped.result.1 }) here on)

pub returns-in-Yielded-clause-turn : goal.returns-in-Yielded-clause-turn
returns-in-Yielded-clause-turn g c =
    yields-join 0 _ _ _ (unyielding-join 0 _ _ _ c.scripts.invariant.yields c.in_ok-begun.ensures.yields) (rw c.in-Yielded.is at c.go_on-stopped.ensures.turn)

-- ---- it ends

pub scripts-preserved : goal.scripts-preserved
scripts-preserved g c =
    let p = c.args.program.now in
    let s = p.scenario.now in
    let w = behind_of c.args.deferred.now.behind in
    let m : Processor LivingState = c.scripts.own in
    let k : Processor LivingState = c.next_begun.new.own in
    let n : Processor LivingState = c.go_on-stopped.new.own in
    let l : Processor LivingState = c.finish.new.own in
    let r : Remaining = c.scripts.remaining in
    let q : Remaining = c.next_begun.new.remaining in
    let b : Begun = c.in-Some.begun in
    let i = c.scripts.invariant in
    let next = c.in_ok-begun.ensures in
    let went = c.go_on-stopped.ensures in
    let end = c.in_ok-finish-in-Ended.ensures in
    let e = c.in-Ended.is in
    let here : Advanced s w m r k (record q { begun = Some b }) = subst (λ (o : Option Begun). Advanced s w m r k (let x : Remaining = record q { begun = o } in x)) c.in-Some.is next.advanced in
    let scripted = rw e at went.scripted in
    let word = section-kept (domain_of b) (starts_inside b.script.now) k n refl scripted in
    let ended : HasEnded s w b.script.now n l = subst (λ (x : Script). HasEnded s w x n l) went.same end.ended in
    let over = advanced-ended s w p k n l b q next.sound (rw e at went.sound) end.sound scripted.ordinary word (went.ended e) ended here.can.declared in
    let now : Advanced s w k (record q { begun = Some b }) l q = subst (λ (o : Option Begun). Advanced s w k (let x : Remaining = record q { begun = Some b } in x) l (let x : Remaining = record q { begun = o } in x)) (sym next.taken) over in
    let light : weight_left s (record q { begun = Some b }) ≤ weight_left s r = subst (λ (o : Option Begun). weight_left s (let x : Remaining = record q { begun = o } in x) ≤ weight_left s r) c.in-Some.is next.light in
    let less : weight_left s q ≤ weight_left s (record q { begun = Some b }) = (let z = ap begun_weight next.taken in omega (arith, z)) in
    let before = i.light in
    record {
      sound = end.sound;
      tied = end.tied;
      advanced = advanced-join s w c.args.own.now m l c.args.remaining.now r q i.advanced (advanced-join s w m k l r (record q { begun = Some b }) q here now);
      yields = unyielding-join 0 _ _ _ (unyielding-join 0 _ _ _ (unyielding-join 0 _ _ _ i.yields next.yields) (rw e at went.turn)) end.yields;
      processor = next.processor ∙ i.processor;
      light = omega (arith, light, less, before);
    }

-- the script holds no lock where it stops
pub finish-requires-clause-unlocked : goal.finish-requires-clause-unlocked
finish-requires-clause-unlocked g c = (c.go_on-stopped.ensures.ended c.in-Ended.is).unlocked

-- the script stops in its section
pub finish-requires-clause-inside : goal.finish-requires-clause-inside
finish-requires-clause-inside g c =
    let m : Processor LivingState = c.next_begun.new.own in
    let n : Processor LivingState = c.go_on-stopped.new.own in
    let b : Begun = c.in-Some.begun in
    let went = c.go_on-stopped.ensures in
    let scripted = rw c.in-Ended.is at went.scripted in
    let word = section-kept (domain_of b) (starts_inside b.script.now) m n refl scripted in
    let stands = (subst (λ (o : Option Begun). stands_in c.args.program.now.scenario.now (behind_of c.args.deferred.now.behind) m o) c.in-Some.is c.in_ok-begun.ensures.advanced.can.stands).inside in
    subst (λ (x : Script). word_of knows_living (section_of x.kind) n % 2 ≡ 1) (sym went.same) (ap (λ k. k % 2) word ∙ stands)

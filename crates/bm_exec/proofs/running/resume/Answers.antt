use Rattle.std.proofs.Common.{◌<◌, ap, arith, refl, ◌∙◌, subst, sym}
use Rattle.bm_exec.specs.Guarded.{place_in}
use Rattle.bm_exec.specs.Yields.{Unyielding, YieldsLast}
use Rattle.bm_exec.proofs.Results.{not-err}
use Rattle.bm_exec.proofs.Yields.{left-unyielding, unyielding-join, unyielding-none, yields-join}
use Rattle.bm_exec.proofs.Going.{can-guards, can-quiet, went-can, went-none, went-step, went-left, went-end, some-cost, yield-free}
use Rattle.bm_exec.proofs.Locks.{guards-as, quiet-as, quiet-free, sees-as}
use Rattle.bm_exec.proofs.Softened.{sees-nothing}
use Rattle.bm_exec.specs.Meets.{may_run}
use Rattle.bm_exec.specs.Seen.{has_name}
use Rattle.bm_exec.proofs.KnownNames.{same-names}
use Rattle.bm_exec.proofs.Meeting.{may-inherits}
use Rattle.bm_exec.proofs.Objects.{only-base}
use Rattle.bm_exec.specs.Named.{declared_of}
use Rattle.bm_exec.proofs.running.resume.Goals as goal

pub loop-statement-init : goal.loop-statement-init
loop-statement-init g c = record {
  went = went-none _ _ _ _ _ _ _ _ _ _ _ (can-quiet _ _ _ _ _ _ _ _ c.requires.can);
  known = refl;
  sound = c.requires.sound;
  level = refl;
  processor = refl;
  behind = refl;
  above = λ h. refl;
  through = refl;
  keeps = g.met.M.Machine.keeps_same c.args.machine.now;
  yields = unyielding-none (g.M.Machine.level c.args.machine.now) (g.M.Machine.log c.args.machine.now);
  lighter = omega (arith);
}

pub returns-in-End-clause-ended : goal.returns-in-End-clause-ended
returns-in-End-clause-ended g c = λ _. went-end _ _ _ _ _ c.requires.can.accepted.0 _ _ _ _ _ _ _ _ _ _ _ _ _ _ c.loop-statement.invariant.went (rw c.in-End.is at c.next_statement.ensures.stepped) (c.requires.can.accepted.1, c.requires.can.accepted.2) c.requires.can.accepted.4

pub returns-in-End-clause-turn : goal.returns-in-End-clause-turn
returns-in-End-clause-turn g c = c.loop-statement.invariant.yields

pub returns-in-End-clause-lives : goal.returns-in-End-clause-lives
returns-in-End-clause-lives g c = λ _ base h.
    (let r = went-end _ _ _ _ _ c.requires.can.accepted.0 _ _ _ _ _ _ _ _ _ _ _ _ _ _ c.loop-statement.invariant.went (rw c.in-End.is at c.next_statement.ensures.stepped) (c.requires.can.accepted.1, c.requires.can.accepted.2) c.requires.can.accepted.4 in
    only-base _ base _ _ (c.loop-statement.invariant.went.holds base h) r.owns_nothing)

pub returns-in-End-clause-asked : goal.returns-in-End-clause-asked
returns-in-End-clause-asked g c = λ _. omega (arith, c.loop-statement.invariant.went.cost)

pub returns-in-End-clause-down : goal.returns-in-End-clause-down
returns-in-End-clause-down g c =
    let w = c.loop-statement.invariant.went in
    let ends = rw c.in-End.is at c.next_statement.ensures.stepped in
    quiet-free _ _ _ (ends.locked c.requires.can.accepted.0 _ (w.safe c.requires.can.accepted.0 (c.requires.can.accepted.1, c.requires.can.accepted.2) c.requires.can.accepted.4)) w.down

pub returns-in-End-clause-unlocked : goal.returns-in-End-clause-unlocked
returns-in-End-clause-unlocked g c = λ z.
    let w = c.loop-statement.invariant.went in
    let ends = rw c.in-End.is at c.next_statement.ensures.stepped in
    let free = ends.locked c.requires.can.accepted.0 _ (w.safe c.requires.can.accepted.0 (c.requires.can.accepted.1, c.requires.can.accepted.2) c.requires.can.accepted.4) in
    (w.guards c.requires.can.accepted.0 (c.requires.can.accepted.1, c.requires.can.accepted.2) c.requires.can.accepted.4 (can-guards _ _ _ _ _ _ _ _ _ c.requires.unlocked c.requires.can)).held z ∙ ap place_in free

pub perform-requires-clause-declared : goal.perform-requires-clause-declared
perform-requires-clause-declared g c = g.met.M.Machine.keeps_declared c.args.machine.now c.loop-statement.machine c.loop-statement.invariant.keeps ∙ c.requires.declared

pub perform-requires-clause-room : goal.perform-requires-clause-room
perform-requires-clause-room g c = let t = rw c.in-Statement.is at c.next_statement.ensures.stepped in omega (arith, c.requires.room, c.loop-statement.invariant.went.cost, t.cost, some-cost c.in-Statement.statement.now.action)

pub perform-requires-clause-holds : goal.perform-requires-clause-holds
perform-requires-clause-holds g c = (c.requires.can.holds.0, c.loop-statement.invariant.went.holds c.requires.can.holds.0 c.requires.can.holds.1)

pub perform-requires-clause-may : goal.perform-requires-clause-may
perform-requires-clause-may g c =
    let t = rw c.in-Statement.is at c.next_statement.ensures.stepped in
    let types = declared_of c.args.types.now in
    let known = has_name c.args.names.now in
    let all = c.loop-statement.invariant.went.meets (may_run types known) (may-inherits types known) c.requires.can.may in
    rw (same-names c.args.names.now c.loop-statement.names c.loop-statement.invariant.known) (t.meets_action (may_run types known) all)

pub perform-requires-clause-down : goal.perform-requires-clause-down
perform-requires-clause-down g c =
    let t = rw c.in-Statement.is at c.next_statement.ensures.stepped in
    let i = c.loop-statement.invariant in
    rw i.behind (quiet-as _ _ _ _ (t.locked c.requires.can.accepted.0 _ (i.went.safe c.requires.can.accepted.0 (c.requires.can.accepted.1, c.requires.can.accepted.2) c.requires.can.accepted.4)) i.went.down)

pub perform-requires-clause-sees : goal.perform-requires-clause-sees
perform-requires-clause-sees g c =
    let t = rw c.in-Statement.is at c.next_statement.ensures.stepped in
    let w = c.loop-statement.invariant.went in
    sees-as _ _ _ _ _ (t.locked c.requires.can.accepted.0 _ (w.safe c.requires.can.accepted.0 (c.requires.can.accepted.1, c.requires.can.accepted.2) c.requires.can.accepted.4)) (w.sees (sees-nothing _ _ _ _ c.requires.can.sees_nothing))

pub perform-requires-clause-open : goal.perform-requires-clause-open
perform-requires-clause-open g c = let t = rw c.in-Statement.is at c.next_statement.ensures.stepped in t.some

pub perform-requires-clause-needed : goal.perform-requires-clause-needed
perform-requires-clause-needed g c =
    let t = rw c.in-Statement.is at c.next_statement.ensures.stepped in
    let i = c.loop-statement.invariant in
    let e = c.requires.can.accepted.0 in
    let safe = i.went.safe e (c.requires.can.accepted.1, c.requires.can.accepted.2) c.requires.can.accepted.4 in
    let guards = guards-as _ _ _ _ _ _ (t.locked e _ safe) (i.went.guards e (c.requires.can.accepted.1, c.requires.can.accepted.2) c.requires.can.accepted.4 (can-guards _ _ _ _ _ _ _ _ _ c.requires.unlocked c.requires.can)) in
    (e, c.requires.can.accepted.1, c.requires.can.accepted.2, rw i.level guards, t.safe _ _ safe)

pub loop-statement-smaller-else-is_yield : goal.loop-statement-smaller-else-is_yield
loop-statement-smaller-else-is_yield g c =
    let t = rw c.in-Statement.is at c.next_statement.ensures.stepped in
    let p = not-err c.perform.result _ c.if-is_err.ensures.value c.perform.ensures.performed in
    omega (arith, t.weight, p.weight)

pub loop-statement-preserved-else-is_yield : goal.loop-statement-preserved-else-is_yield
loop-statement-preserved-else-is_yield g c =
    let t = rw c.in-Statement.is at c.next_statement.ensures.stepped in
    let i = c.loop-statement.invariant in
    let e = c.if-is_err.ensures.value in
    let p = not-err c.perform.result _ e c.perform.ensures.performed in
    record {
      went = went-step _ _ _ _ _ _ _ _ _ _ _ _ _ _ _ _ _ _ _ _ _ _ _ _ _ _ _ _ _ c.requires.can.accepted.0 (c.requires.can.accepted.1, c.requires.can.accepted.2) c.requires.can.accepted.4 i.went t (rw (i.level, i.behind) at p);
      known = c.perform.ensures.known ∙ i.known;
      sound = not-err c.perform.result _ e c.perform.ensures.sound;
      level = not-err c.perform.result _ e c.perform.ensures.level ∙ i.level;
      processor = not-err c.perform.result _ e c.perform.ensures.processor ∙ i.processor;
      behind = not-err c.perform.result _ e c.perform.ensures.behind ∙ i.behind;
      above = λ h. not-err c.perform.result _ e c.perform.ensures.above (subst (λ k. 0 < k) (sym i.level) h) ∙ i.above h;
      through = c.perform.ensures.through ∙ i.through;
      keeps = g.met.M.Machine.keeps_join c.args.machine.now c.loop-statement.machine c.perform.new.machine i.keeps (not-err c.perform.result _ e c.perform.ensures.keeps);
      yields =
          (let m = c.args.machine.now in
          let n = c.loop-statement.machine in
          let o = c.perform.new.machine in
          let y = not-err c.perform.result _ e c.perform.ensures.yields in
          unyielding-join (g.M.Machine.level m) (g.M.Machine.log m) (g.M.Machine.log n) (g.M.Machine.log o) i.yields
          (subst (λ l. Unyielding l (g.M.Machine.log n) (g.M.Machine.log o)) i.level (rw (← c.if-is_yield.ensures) at y)));
      lighter = omega (arith, t.weight, p.weight, i.lighter);
    }

-- ---- a yield

pub returns-then-is_yield-clause-turn : goal.returns-then-is_yield-clause-turn
returns-then-is_yield-clause-turn g c =
    let m = c.args.machine.now in
    let n = c.loop-statement.machine in
    let o = c.perform.new.machine in
    let i = c.loop-statement.invariant in
    let y = not-err c.perform.result _ c.if-is_err.ensures.value c.perform.ensures.yields in
    yields-join (g.M.Machine.level m) (g.M.Machine.log m) (g.M.Machine.log n) (g.M.Machine.log o) i.yields
    (subst (λ l. YieldsLast l (g.M.Machine.log n) (g.M.Machine.log o)) i.level (rw (← c.if-is_yield.ensures) at y))

pub returns-then-is_yield-clause-yielded : goal.returns-then-is_yield-clause-yielded
returns-then-is_yield-clause-yielded g c = λ _.
    let t = rw c.in-Statement.is at c.next_statement.ensures.stepped in
    let i = c.loop-statement.invariant in
    let p = not-err c.perform.result _ c.if-is_err.ensures.value c.perform.ensures.performed in
    went-step _ _ _ _ _ _ _ _ _ _ _ _ _ _ _ _ _ _ _ _ _ _ _ _ _ _ _ _ _ c.requires.can.accepted.0 (c.requires.can.accepted.1, c.requires.can.accepted.2) c.requires.can.accepted.4 i.went t (rw (i.level, i.behind) at p)

pub returns-then-is_yield-clause-can : goal.returns-then-is_yield-clause-can
returns-then-is_yield-clause-can g c = λ _.
    let t = rw c.in-Statement.is at c.next_statement.ensures.stepped in
    let i = c.loop-statement.invariant in
    let e = c.if-is_err.ensures.value in
    let p = not-err c.perform.result _ e c.perform.ensures.performed in
    let behind = not-err c.perform.result _ e c.perform.ensures.behind ∙ i.behind in
    let level = not-err c.perform.result _ e c.perform.ensures.level ∙ i.level in
    let b = c.requires.can.accepted.0 in
    let free = yield-free b _ _ c.in-Statement.statement.now.action _ _ c.if-is_yield.ensures (t.safe b _ (i.went.safe b (c.requires.can.accepted.1, c.requires.can.accepted.2) c.requires.can.accepted.4)) p.locked in
    went-can _ _ _ _ _ _ _ _ _ _ _ c.args.names.now c.perform.new.names _ _ _ _ _ _ _ _ (c.perform.ensures.known ∙ i.known) level behind free c.requires.can
    (went-step _ _ _ _ _ _ _ _ _ _ _ _ _ _ _ _ _ _ _ _ _ _ _ _ _ _ _ _ _ b (c.requires.can.accepted.1, c.requires.can.accepted.2) c.requires.can.accepted.4 i.went t (rw (i.level, i.behind) at p))

pub returns-then-is_yield-clause-down : goal.returns-then-is_yield-clause-down
returns-then-is_yield-clause-down g c =
    let t = rw c.in-Statement.is at c.next_statement.ensures.stepped in
    let i = c.loop-statement.invariant in
    let p = not-err c.perform.result _ c.if-is_err.ensures.value c.perform.ensures.performed in
    let b = c.requires.can.accepted.0 in
    let free = yield-free b _ _ c.in-Statement.statement.now.action _ _ c.if-is_yield.ensures (t.safe b _ (i.went.safe b (c.requires.can.accepted.1, c.requires.can.accepted.2) c.requires.can.accepted.4)) p.locked in
    let q = rw (i.level, i.behind) at p in
    quiet-free _ _ _ free q.down

pub returns-then-is_yield-clause-unlocked : goal.returns-then-is_yield-clause-unlocked
returns-then-is_yield-clause-unlocked g c = λ z.
    let t = rw c.in-Statement.is at c.next_statement.ensures.stepped in
    let i = c.loop-statement.invariant in
    let p = not-err c.perform.result _ c.if-is_err.ensures.value c.perform.ensures.performed in
    let b = c.requires.can.accepted.0 in
    let free = yield-free b _ _ c.in-Statement.statement.now.action _ _ c.if-is_yield.ensures (t.safe b _ (i.went.safe b (c.requires.can.accepted.1, c.requires.can.accepted.2) c.requires.can.accepted.4)) p.locked in
    let w = went-step _ _ _ _ _ _ _ _ _ _ _ _ _ _ _ _ _ _ _ _ _ _ _ _ _ _ _ _ _ b (c.requires.can.accepted.1, c.requires.can.accepted.2) c.requires.can.accepted.4 i.went t (rw (i.level, i.behind) at p) in
    (w.guards b (c.requires.can.accepted.1, c.requires.can.accepted.2) c.requires.can.accepted.4 (can-guards _ _ _ _ _ _ _ _ _ c.requires.unlocked c.requires.can)).held z ∙ ap place_in free

pub returns-then-is_yield-clause-above : goal.returns-then-is_yield-clause-above
returns-then-is_yield-clause-above g c = λ h.
    let i = c.loop-statement.invariant in
    not-err c.perform.result _ c.if-is_err.ensures.value c.perform.ensures.above (subst (λ k. 0 < k) (sym i.level) h) ∙ i.above h

pub returns-then-is_yield-clause-less : goal.returns-then-is_yield-clause-less
returns-then-is_yield-clause-less g c = λ _.
    let t = rw c.in-Statement.is at c.next_statement.ensures.stepped in
    let p = not-err c.perform.result _ c.if-is_err.ensures.value c.perform.ensures.performed in
    omega (arith, t.weight, p.weight, c.loop-statement.invariant.lighter)

-- ---- the end of a section

pub leave-requires-clause-room : goal.leave-requires-clause-room
leave-requires-clause-room g c = omega (arith, c.requires.room, c.loop-statement.invariant.went.cost)

pub loop-statement-smaller : goal.loop-statement-smaller
loop-statement-smaller g c = let t = rw c.in-Leave.is at c.next_statement.ensures.stepped in t.weight

pub loop-statement-preserved : goal.loop-statement-preserved
loop-statement-preserved g c =
    let t = rw c.in-Leave.is at c.next_statement.ensures.stepped in
    let i = c.loop-statement.invariant in
    let m = c.loop-statement.machine in
    let n = c.leave.new.self in
    let e = c.leave.ensures in
    let b = (t.sections c.requires.can.sections.0 (g.M.Machine.around m) (i.went.sections c.requires.can.sections.0 c.requires.can.sections.1)).0 in
    record {
      went = went-left _ _ _ _ _ _ (g.M.Machine.processor m) _ _ _ _ _ _ _ _ _ _ _ _ _ _ _ _ _ _ _ _ c.requires.can.accepted.0 (c.requires.can.accepted.1, c.requires.can.accepted.2) c.requires.can.accepted.4 (g.met.M.Machine.told m i.sound) (rw e.processor at (g.met.M.Machine.told n e.sound)) i.went t (rw i.level at (e.left b.0 b.1)) e.lists e.guarded e.lives e.asked;
      known = i.known;
      sound = e.sound;
      level = e.level ∙ i.level;
      processor = e.processor ∙ i.processor;
      behind = e.behind ∙ i.behind;
      above = λ h. e.guarded ∙ i.above h;
      through = e.through ∙ i.through;
      keeps = g.met.M.Machine.keeps_join c.args.machine.now m n i.keeps e.keeps;
      yields = unyielding-join (g.M.Machine.level c.args.machine.now) (g.M.Machine.log c.args.machine.now) (g.M.Machine.log m) (g.M.Machine.log n) i.yields (left-unyielding _ _ _ _ _ (rw i.level at (e.left b.0 b.1)));
      lighter = omega (arith, t.weight, i.lighter);
    }

-- ---- the end

pub returns-in-End-clause-around : goal.returns-in-End-clause-around
returns-in-End-clause-around g c = λ _ base h. (rw c.in-End.is at c.next_statement.ensures.stepped).sections base _ (c.loop-statement.invariant.went.sections base h)

use Rattle.std.proofs.Common.{◌<◌, arith, refl, ◌∙◌, subst, sym}
use Rattle.bm_exec.proofs.Going.{can-quiet, went-join, went-none, went-ran}
use Rattle.bm_exec.proofs.running.run_on.Goals as goal

pub turns-init : goal.turns-init
turns-init g c = record {
  went = went-none _ _ _ _ _ _ _ _ _ _ _ (can-quiet _ _ _ _ _ _ _ _ c.requires.can);
  can = c.requires.can;
  known = refl;
  sound = c.requires.sound;
  level = refl;
  processor = refl;
  behind = refl;
  unlocked = c.requires.unlocked;
  above = λ h. refl;
  through = refl;
  keeps = g.met.M.Machine.keeps_same c.args.machine.now;
}

-- ---- a turn

pub resume-requires-clause-room : goal.resume-requires-clause-room
resume-requires-clause-room g c = omega (arith, c.requires.room, c.turns.invariant.went.cost)

pub resume-requires-clause-declared : goal.resume-requires-clause-declared
resume-requires-clause-declared g c = g.met.M.Machine.keeps_declared c.args.machine.now c.turns.machine c.turns.invariant.keeps ∙ c.requires.declared

-- ---- it yields

pub turns-smaller : goal.turns-smaller
turns-smaller g c = c.resume.ensures.less c.in-Yielded.is

pub turns-preserved : goal.turns-preserved
turns-preserved g c =
    let i = c.turns.invariant in
    let e = c.resume.ensures in
    let y = c.in-Yielded.is in
    record {
      went = went-join _ _ _ _ _ _ _ _ _ _ _ _ _ _ _ _ _ _ _ _ _ _ _ _ _ _ _ i.went (rw (i.level, i.behind) at (e.yielded y));
      can = e.can y;
      known = e.known ∙ i.known;
      sound = rw y at e.sound;
      level = (rw y at e.level) ∙ i.level;
      processor = (rw y at e.processor) ∙ i.processor;
      behind = (rw y at e.behind) ∙ i.behind;
      unlocked = λ h. (rw y at e.unlocked) (i.level ∙ h);
      above = λ h. (rw y at e.above) (subst (λ k. 0 < k) (sym i.level) h) ∙ i.above h;
      through = e.through ∙ i.through;
      keeps = g.met.M.Machine.keeps_join c.args.machine.now c.turns.machine c.resume.new.machine i.keeps (rw y at e.keeps);
    }

-- ---- the end

pub returns-in-Ended-clause-ended : goal.returns-in-Ended-clause-ended
returns-in-Ended-clause-ended g c =
    let i = c.turns.invariant in
    went-ran _ _ _ _ _ _ _ _ _ _ _ _ _ _ _ _ _ _ _ _ _ i.went (rw (i.level, i.behind) at (c.resume.ensures.ended c.in-Ended.is))

pub returns-in-Ended-clause-lives : goal.returns-in-Ended-clause-lives
returns-in-Ended-clause-lives g c = λ base h. c.resume.ensures.lives c.in-Ended.is base (c.turns.invariant.went.holds base h)

pub returns-in-Ended-clause-asked : goal.returns-in-Ended-clause-asked
returns-in-Ended-clause-asked g c = omega (arith, c.turns.invariant.went.cost, c.resume.ensures.asked c.in-Ended.is)

pub returns-in-Ended-clause-down : goal.returns-in-Ended-clause-down
returns-in-Ended-clause-down g c = rw (c.in-Ended.is, c.turns.invariant.behind) at c.resume.ensures.down

pub returns-in-Ended-clause-around : goal.returns-in-Ended-clause-around
returns-in-Ended-clause-around g c = λ base h. c.resume.ensures.around c.in-Ended.is base (c.turns.invariant.went.sections base h)

pub returns-in-Ended-clause-above : goal.returns-in-Ended-clause-above
returns-in-Ended-clause-above g c = λ h.
    let i = c.turns.invariant in
    (rw c.in-Ended.is at c.resume.ensures.above) (subst (λ k. 0 < k) (sym i.level) h) ∙ i.above h

pub resume-requires-clause-unlocked : goal.resume-requires-clause-unlocked
resume-requires-clause-unlocked g c = λ h. c.turns.invariant.unlocked (sym c.turns.invariant.level ∙ h)

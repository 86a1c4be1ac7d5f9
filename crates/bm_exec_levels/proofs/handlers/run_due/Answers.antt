use Rattle.std.proofs.Common.{ℕ, ◌+◌, ◌<◌, ◌≤◌, arith, subst, sym}
use Rattle.bm_plan.specs.Position.{AboutTo}
use Rattle.bm_exec_levels.specs.AtProcessor.{FineAt, IsAt}
use Rattle.bm_exec_levels.proofs.Going.{begun-at, between-at, going-more, going-none, going-same}
use Rattle.bm_exec_levels.proofs.handlers.run_due.Goals as goal

-- where a level is above
is-below : (l due : ℕ) → l + 1 ≤ due → due ≤ 3 → l < 3
is-below l due a h = omega (arith, a, h)

pub loop-due-init : goal.loop-due-init
loop-due-init g c = record { going = going-none g.W.Knows g.L.Rank.number c.args.program.now c.args.own.now c.requires.at c.requires.fine; tied = c.requires.tied }

pub begin_due-requires-clause-at : goal.begin_due-requires-clause-at
begin_due-requires-clause-at g c =
    let F : ℕ → Type 0 = λ n. IsAt g.W.Knows AboutTo n c.args.program.now c.loop-due.own in
    subst F (sym c.level.ensures.number) c.loop-due.invariant.going.at

pub begin_due-requires-clause-fine : goal.begin_due-requires-clause-fine
begin_due-requires-clause-fine g c =
    let F : ℕ → Type 0 = λ n. FineAt g.W.Knows (n + 1) c.loop-due.own in
    subst F (sym c.level.ensures.number) c.loop-due.invariant.going.between.fine

pub loop-due-preserved : goal.loop-due-preserved
loop-due-preserved g c =
    let p = c.args.program.now in
    let l = g.L.Rank.number in
    let q = c.level.ensures.number in
    let b = c.loop-due.own in
    let e = c.in-Some.ensures in
    let i = c.interrupt.ensures in
    let begun = begun-at g.W.Knows c.level.result l p c.in-Some.due b c.begin_due.new.own q e.begun in
    let below : l < 3 = is-below l c.in-Some.due.level begun.begins.above begun.begins.highest in
    record {
      going = going-more g.W.Knows l p c.in-Some.due c.args.own.now b c.begin_due.new.own c.interrupt.new.own c.loop-due.invariant.going
          (between-at g.W.Knows c.level.result l p b c.begin_due.new.own q e.between) e.lives begun (i.at below) (i.between below) i.lives;
      tied = i.tied;
    }

pub interrupt-requires-clause-due : goal.interrupt-requires-clause-due
interrupt-requires-clause-due g c = λ below. (begun-at g.W.Knows c.level.result g.L.Rank.number c.args.program.now c.in-Some.due c.loop-due.own c.begin_due.new.own c.level.ensures.number c.in-Some.ensures.begun).begins

pub returns-clause-between : goal.returns-clause-between
returns-clause-between g c =
    let h = going-same g.W.Knows g.L.Rank.number c.args.program.now c.args.own.now c.loop-due.own c.begin_due.new.own c.in_default.ensures.none c.loop-due.invariant.going in
    h.between

pub returns-clause-lives : goal.returns-clause-lives
returns-clause-lives g c =
    let h = going-same g.W.Knows g.L.Rank.number c.args.program.now c.args.own.now c.loop-due.own c.begin_due.new.own c.in_default.ensures.none c.loop-due.invariant.going in
    h.lives

pub returns-clause-quiet : goal.returns-clause-quiet
returns-clause-quiet g c =
    let h = going-same g.W.Knows g.L.Rank.number c.args.program.now c.args.own.now c.loop-due.own c.begin_due.new.own c.in_default.ensures.none c.loop-due.invariant.going in
    h.quiet

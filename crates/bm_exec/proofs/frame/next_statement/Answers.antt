use Rattle.std.proofs.Common.{arith, refl, drop, Some}
use Rattle.bm_exec.proofs.Stacks.{passed-then, begins-passed, begins-weight, closing, ended-passed, top-of, taken, front-is, behind-is}
use Rattle.bm_exec.proofs.frame.next_statement.Goals as goal

-- a statement comes next
pub returns-in-len1-up : goal.returns-in-len1-up
returns-in-len1-up c =
    let before = top-of _ _ _ _ c.pop.ensures.items c.in-Some.is in
    let now = top-of _ _ (Some _) _ c.push.ensures.items refl in
    let front = front-is c.in-Some.top.rest.now c.first-item.result (omega (arith, c.in-len1-up.len_at_least)) c.first-item.is in
    rw now (record { stepped = taken _ c.in-Some.top _ _ c.first-item.result (drop 1 c.in-Some.top.rest.now) (rw before at c.loop-top.invariant.passed) front (behind-is c.in-Some.top.rest.now) refl refl refl refl })

-- a block begins again
pub loop-top-smaller-in-Some-again : goal.loop-top-smaller-in-Some-again
loop-top-smaller-in-Some-again c =
    let before = top-of _ _ _ _ c.pop.ensures.items c.in-Some.is in
    let now = top-of _ _ (Some _) _ c.push-in-Some-again.ensures.items refl in
    rw before (rw now (begins-weight c.in-Some.top c.in-Some-again.block _ c.in_default-rest.len_below c.in-Some-again.ensures.again))

pub loop-top-preserved-in-Some-again : goal.loop-top-preserved-in-Some-again
loop-top-preserved-in-Some-again c =
    let before = top-of _ _ _ _ c.pop.ensures.items c.in-Some.is in
    let now = top-of _ _ (Some _) _ c.push-in-Some-again.ensures.items refl in
    let l = c.in-Some.ensures.len in
    let m = c.push-in-Some-again.ensures.len in
    let f = c.loop-top.invariant.fits in
    record {
      passed = rw now (passed-then _ _ _ (rw before at c.loop-top.invariant.passed) (begins-passed c.in-Some.top c.in-Some-again.block _ c.in_default-rest.len_below c.in-Some-again.ensures.again));
      fits = omega (arith, l, m, f);
    }

-- a section ends next
pub returns-then-top : goal.returns-then-top
returns-then-top c =
    let before = top-of _ _ _ _ c.pop.ensures.items c.in-Some.is in
    record { stepped = closing _ c.in-Some.top _ (rw before at c.loop-top.invariant.passed) c.in_default-rest.len_below (c.again.ensures.over c.in-None.is) c.if-top.true }

-- a block has ended
pub loop-top-preserved : goal.loop-top-preserved
loop-top-preserved c =
    let before = top-of _ _ _ _ c.pop.ensures.items c.in-Some.is in
    let l = c.in-Some.ensures.len in
    let f = c.loop-top.invariant.fits in
    record {
      passed = passed-then _ _ _ (rw before at c.loop-top.invariant.passed) (ended-passed c.in-Some.top _ c.in_default-rest.len_below (c.again.ensures.over c.in-None.is) c.if-top.false);
      fits = omega (arith, l, f);
    }

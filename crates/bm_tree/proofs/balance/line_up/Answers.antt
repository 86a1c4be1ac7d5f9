use Rattle.std.proofs.Common.{refl}
use Rattle.bm_tree.proofs.Near.{near}
use Rattle.bm_tree.proofs.RedRed.{in_line}
use Rattle.bm_tree.proofs.Ends.{line_up_at}
use Rattle.bm_tree.proofs.balance.line_up.Goals as goal

pub returns-then-kid-at-clause-colours : goal.returns-then-kid-at-clause-colours
returns-then-kid-at-clause-colours c = λ order h i s eu red_up black_un side.
    let is_at = rw (c.kid.ensures, c.link_at.ensures) at c.if-kid-at.true in
    (c.args.at, (c.args.up, line_up_at _ _ c.args.root order c.args.at c.args.up c.args.right h c.rotate.ensures.turns s i eu red_up black_un side is_at))

pub returns-else-kid-at-clause-colours : goal.returns-else-kid-at-clause-colours
returns-else-kid-at-clause-colours c = λ order h i s eu red_up black_un side.
    let outer = rw (c.kid.ensures, c.link_at.ensures) at c.if-kid-at.false in
    (c.args.up, (c.args.at, in_line _ order c.args.at c.args.up _ c.args.right (near _ c.args.root order h) s i eu refl red_up black_un side outer))

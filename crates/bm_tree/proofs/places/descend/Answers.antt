use Rattle.bm_tree.proofs.Descent.{descend_start, descend_step, descend_less, descend_end}
use Rattle.bm_tree.specs.Rows.{key_of}
use Rattle.bm_tree.proofs.places.descend.Goals as goal

pub loop-at-init : goal.loop-at-init
loop-at-init g c = descend_start _ _ _ _ c.requires.holds

pub loop-at-smaller : goal.loop-at-smaller
loop-at-smaller g c =
    rw (c.kid-at.ensures, c.link_at.ensures)
    (descend_less c.args.links.now (key_of c.args.slots.now) c.args.root c.args.key c.loop-at.up c.loop-at.right c.loop-at.at _ c.loop-at.invariant c.loop-at-test.true)

pub loop-at-preserved : goal.loop-at-preserved
loop-at-preserved g c =
    rw (c.kid-at.ensures, c.link_at.ensures, c.key_at.ensures)
    (descend_step c.args.links.now (key_of c.args.slots.now) c.args.root c.args.key c.loop-at.up c.loop-at.right c.loop-at.at c.requires.sorted c.loop-at.invariant c.loop-at-test.true)

pub returns : goal.returns
returns g c =
    descend_end c.args.links.now (key_of c.args.slots.now) c.args.root c.args.key c.loop-at.up c.loop-at.right c.loop-at.at c.loop-at.invariant c.loop-at-test.false

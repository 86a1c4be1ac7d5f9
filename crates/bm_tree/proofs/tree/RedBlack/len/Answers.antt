use Rattle.bm_tree.proofs.Soundness.{sound_len, sound_ascend, sound_differ, sound_shallow}
use Rattle.bm_tree.proofs.tree.RedBlack.len.Goals as goal

pub returns-clause-value : goal.returns-clause-value
returns-clause-value g c = rw (← c.self.view_is) (sound_len _ _ _ _ _ c.self.invariant)

pub returns-clause-in_order : goal.returns-clause-in_order
returns-clause-in_order g c = rw (← c.self.view_is) (sound_ascend _ _ _ _ _ c.self.invariant)

pub returns-clause-places_differ : goal.returns-clause-places_differ
returns-clause-places_differ g c = rw (← c.self.view_is) (sound_differ _ _ _ _ _ c.self.invariant)

pub returns-clause-shallow : goal.returns-clause-shallow
returns-clause-shallow g c = rw (← c.self.view_is) (sound_shallow _ _ _ _ _ c.self.invariant)

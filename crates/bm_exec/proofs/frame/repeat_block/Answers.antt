use Rattle.std.proofs.Common.{◌∙◌, ap, refl, Some}
use Rattle.bm_check.specs.Blocks.{from_inside}
use Rattle.bm_exec.proofs.Stacks.{top-of}
use Rattle.bm_exec.proofs.frame.repeat_block.Goals as goal

pub returns : goal.returns
returns c = record { pushed = record { top = _; now_is = top-of _ _ (Some _) _ c.push.ensures.items refl; rest_is = refl; repeats_is = refl; leaves_is = refl; lock_is = c.from_inside-lock.ensures ∙ ap from_inside c.held_lock.ensures; block = _; body_is = refl; block_is = refl } }

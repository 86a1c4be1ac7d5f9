use Rattle.std.specs.VecDeque.{deque_len}
use Rattle.bm_post.proofs.inbox.Inbox.give_up.Given as goal

abbrev pub decreases-loop-units : goal.decreases-loop-units
decreases-loop-units l = deque_len l.parcels

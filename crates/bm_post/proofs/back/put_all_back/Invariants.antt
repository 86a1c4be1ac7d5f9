use Rattle.std.proofs.Common.{◌≡◌, ◌≤◌, ℕ, reverse, vec_len}
use Rattle.bm_law.specs.Stands.{times}
use Rattle.bm_post.specs.Rights.{numbers}
use Rattle.bm_post.specs.PostState.{all_returned}
use Rattle.bm_post.proofs.Returned.{AreOut}
use Rattle.bm_post.proofs.back.put_all_back.Given as goal

abbrev pub invariant-loop-unit : goal.invariant-loop-unit
invariant-loop-unit l = record {
  out : AreOut l.pool l.units.items;
  once : (n : ℕ) → times n (numbers l.units.items) ≤ 1;
  so_far : all_returned (reverse l.fn.units.items) l.initial.pool ≡ all_returned (reverse l.units.items) l.pool;
}

abbrev pub decreases-loop-unit : goal.decreases-loop-unit
decreases-loop-unit l = vec_len l.units

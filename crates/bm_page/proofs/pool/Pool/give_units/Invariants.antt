use Rattle.std.proofs.Common.{◌≡◌, ◌≤◌, ◌+◌, ◌-◌, length, vec_len, vec_capacity}
use Rattle.bm_page.specs.Kept.{IsWalk}
use Rattle.bm_page.specs.Stock.{fetched}
use Rattle.bm_page.proofs.FetchLemmas.{IsFetching}
use Rattle.bm_page.proofs.pool.Pool.give_units.Given as goal

abbrev pub invariant-loop-given : goal.invariant-loop-given
invariant-loop-given l = record {
  fetching : IsFetching l.class l.want l.initial.out.items l.initial.self l.out.items l.self (l.want - l.given);
  count : length l.out.items ≡ length l.initial.out.items + l.given;
  room : vec_len l.out + length (fetched l.class (l.want - l.given) l.self).units ≤ vec_capacity l.out;
  walk : IsWalk l.class l.self l.walk;
}

use Rattle.std.proofs.Common.{get_or}
use Rattle.bm_cache_lists.specs.Chain.{chain_of}
use Rattle.bm_cache_lists.proofs.Chains.{none}
use Rattle.bm_cache_lists.proofs.Turned.{Read}
use Rattle.bm_cache_lists.proofs.links.Links.listed.Given as goal

abbrev pub invariant-loop-place : goal.invariant-loop-place
invariant-loop-place l = Read l.self-inside.next.items (get_or l.self-inside.heads l.list none).length l._place l.at l.numbers.items (chain_of l.self-inside.next.items (get_or l.self-inside.heads l.list none))

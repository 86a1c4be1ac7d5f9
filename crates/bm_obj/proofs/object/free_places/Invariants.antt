use Rattle.std.proofs.Common.{◌≡◌, ◌≤◌, replicate, vec_len, vec_capacity}
use Rattle.bm_obj.specs.declared.object.UnitPlace.TheVariants.{Free}
use Rattle.bm_obj.proofs.object.free_places.Given as goal

abbrev pub invariant-loop-place : goal.invariant-loop-place
invariant-loop-place l = record { places : l.places.items ≡ replicate l._place (Free 0); number : vec_len l.places ≡ l._place; room : l.count ≤ vec_capacity l.places }

use Rattle.std.proofs.Common.{◌-◌, ◌≤◌, length, map}
use Rattle.std.specs.List.{flat_map}
use Rattle.bm_grace.specs.Rest.{StaysAtRest}
use Rattle.bm_post.specs.Rights.{numbers}
use Rattle.bm_closing.specs.Told.{ReceivesSome}
use Rattle.bm_closing.proofs.Received.{So_far}
use Rattle.bm_closing.proofs.inbox.receive_all.Given as goal

abbrev pub invariant-loop-units : goal.invariant-loop-units
invariant-loop-units g l = record {
  so_far : So_far l.class (flat_map (λ p. p.items) l.initial.parcels.items) (flat_map (λ p. p.items) l.parcels.items) (g.P.Knows.rights l.initial.post) (g.P.Knows.rights l.post) (g.P.Knows.known l.initial.post) (g.P.Knows.known l.post);
  some : length l.parcels.items ≤ length (flat_map (λ p. p.items) l.parcels.items);
  does : ReceivesSome g.P.Knows.does l.class (map (λ p. numbers p.items) l.initial.parcels.items) (map (λ p. numbers p.items) l.parcels.items) l.initial.post l.post;
  rest : StaysAtRest g.P.Knows.rest l.initial.post l.post;
}

abbrev pub decreases-loop-units : goal.decreases-loop-units
decreases-loop-units g l = 65536 - length (flat_map (λ p. p.items) l.parcels.items)

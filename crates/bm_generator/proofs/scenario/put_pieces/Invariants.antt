use Rattle.std.proofs.Common.{◌≡◌, ◌-◌, ◌++◌}
use Rattle.std.specs.List.{flat_map}
use Rattle.bm_generator.specs.Pieces.{pieces, behind_pieces}
use Rattle.bm_generator.specs.Texts.{piece_text}
use Rattle.bm_generator.proofs.scenario.put_pieces.Given as goal

abbrev pub invariant-loop : goal.invariant-loop
invariant-loop l = record {
  text : l.out.items ++ flat_map piece_text (pieces (l.count - l.counter) l.draws.state) ≡ l.initial.out.items ++ flat_map piece_text (pieces l.count l.initial.draws.state);
  state : behind_pieces (l.count - l.counter) l.draws.state ≡ behind_pieces l.count l.initial.draws.state;
}

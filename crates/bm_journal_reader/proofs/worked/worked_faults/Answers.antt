use Rattle.std.proofs.Common.{refl}
use Rattle.bm_journal_reader.proofs.SoFar.{first-wrong-empty}
use Rattle.bm_journal_reader.proofs.worked.worked_faults.Goals as goal

pub returns : goal.returns
returns c = record {
  nothing = refl;
  ended = refl;
  fed = refl;
  agree = refl;
  unfed = λ e. cc;
  on = λ e. cc;
  empty = first-wrong-empty c.numbers_round_trip.ensures;
}

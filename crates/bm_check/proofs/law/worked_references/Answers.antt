use Rattle.std.proofs.Common.{refl}
use Rattle.bm_check.proofs.law.worked_references.Goals as goal

pub returns : goal.returns
returns c = record {
  read_while_held = refl;
  ends_with_the_lock = refl;
  stays_ended = refl;
  ends_with_a_pop = refl;
  ends_with_a_pop_of_the_back = refl;
  ends_with_a_removal = refl;
  taken_out = refl;
  taken_out_once = refl;
  not_put_in = refl;
  not_given_up = refl;
  of_no_other = refl;
}

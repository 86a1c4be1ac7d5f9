use Rattle.bm_run.specs.SeatTurn.{kept_log}
use Rattle.bm_run.proofs.seats.turn_of.Given as goal

abbrev pub ghosts-turn_on : goal.ghosts-turn_on
ghosts-turn_on a = record { since = kept_log a.seat.now.kept; start = a.world }

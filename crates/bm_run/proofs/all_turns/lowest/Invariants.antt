use Rattle.std.proofs.Common.{◌≡◌, ◌<◌, ℕ, true, get_or}
use Rattle.bm_run.specs.Between.{ended_of}
use Rattle.bm_run.proofs.all_turns.lowest.Given as goal

abbrev pub invariant-loop-processor : goal.invariant-loop-processor
invariant-loop-processor l = (p : ℕ) → p < l.processor → get_or (ended_of l.seats) p true ≡ true

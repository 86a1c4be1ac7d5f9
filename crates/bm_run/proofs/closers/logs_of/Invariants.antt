use Rattle.std.proofs.Common.{◌≡◌, ◌++◌, All, IsTrue, Some, map, reverse, vec_len}
use Rattle.bm_journal.specs.WellFormed.{is_whole_log}
use Rattle.bm_run.specs.Closers.{IsEmptied, log_kept}
use Rattle.bm_run.proofs.closers.logs_of.Given as goal

-- the last logs, and the first places
abbrev pub invariant-loop-place : goal.invariant-loop-place
invariant-loop-place l = record {
  told : map log_kept l.places.items ++ map Some (reverse l.logs.items) ≡ map log_kept l.initial.places.items;
  emptied : All IsEmptied l.places.items;
  whole : All (λ log. IsTrue (is_whole_log log)) l.logs.items;
}

abbrev pub decreases-loop-place : goal.decreases-loop-place
decreases-loop-place l = vec_len l.places

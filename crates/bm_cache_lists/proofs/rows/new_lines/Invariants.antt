use Rattle.std.proofs.Common.{◌≡◌, ◌≤◌, replicate, vec_len, vec_capacity}
use Rattle.bm_law.specs.State.{empty_row}
use Rattle.bm_cache_lists.proofs.rows.new_lines.Given as goal

abbrev pub invariant-loop-class : goal.invariant-loop-class
invariant-loop-class l = record { lines : l.lines.items ≡ replicate l._class (empty_row l.target); number : vec_len l.lines ≡ l._class; room : 11 ≤ vec_capacity l.lines }

use Rattle.std.proofs.Common.{◌≡◌, ◌≤◌, All, length, vec_capacity}
use Rattle.bm_exec_levels.specs.Ready.{BindsAll}
use Rattle.bm_exec_levels.proofs.kept.three_tables.Given as goal

abbrev pub invariant-loop-level : goal.invariant-loop-level
invariant-loop-level l = record {
  bound : All (BindsAll l.scripts) l.tables.items;
  tables : length l.tables.items ≡ l._level;
  capacity : 3 ≤ vec_capacity l.tables;
}

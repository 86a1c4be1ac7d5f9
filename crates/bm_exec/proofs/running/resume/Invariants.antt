use Rattle.std.proofs.Common.{◌≡◌, ◌<◌, ◌≤◌, reverse}
use Rattle.bm_exec.specs.Seen.{names_of}
use Rattle.bm_exec.specs.Running.{Went}
use Rattle.bm_exec.specs.Steps.{weight}
use Rattle.bm_exec.specs.Yields.{Unyielding}
use Rattle.bm_exec.specs.Named.{declared_of}
use Rattle.bm_exec.proofs.running.resume.Given as goal

abbrev pub invariant-loop-statement : goal.invariant-loop-statement
invariant-loop-statement g l = record {
  went : Went (declared_of l.types) (g.M.Machine.level l.initial.machine) (g.M.Machine.around l.initial.machine) (g.M.Machine.around l.machine) (g.M.Machine.behind l.initial.machine) (g.M.Machine.lists l.initial.machine) (g.M.Machine.lists l.machine) (g.M.Machine.guarded l.initial.machine) (g.M.Machine.guarded l.machine) (names_of l.initial.names) (names_of l.names) (reverse l.initial.frame.blocks.items) (reverse l.frame.blocks.items) (g.M.Machine.lives l.initial.machine) (g.M.Machine.lives l.machine) (g.M.Machine.asked l.initial.machine) (g.M.Machine.asked l.machine) (g.M.Machine.log l.initial.machine) (g.M.Machine.log l.machine);
  known : l.names.names.keys ≡ l.initial.names.names.keys;
  sound : g.M.Machine.sound l.machine;
  level : g.M.Machine.level l.machine ≡ g.M.Machine.level l.initial.machine;
  processor : g.M.Machine.processor l.machine ≡ g.M.Machine.processor l.initial.machine;
  behind : g.M.Machine.behind l.machine ≡ g.M.Machine.behind l.initial.machine;
  above : 0 < g.M.Machine.level l.initial.machine → g.M.Machine.guarded l.machine ≡ g.M.Machine.guarded l.initial.machine;
  through : g.M.Machine.through l.machine ≡ g.M.Machine.through l.initial.machine;
  keeps : g.M.Machine.keeps l.initial.machine l.machine;
  yields : Unyielding (g.M.Machine.level l.initial.machine) (g.M.Machine.log l.initial.machine) (g.M.Machine.log l.machine);
  lighter : weight (reverse l.frame.blocks.items) ≤ weight (reverse l.initial.frame.blocks.items);
}

abbrev pub decreases-loop-statement : goal.decreases-loop-statement
decreases-loop-statement g l = weight (reverse l.frame.blocks.items)

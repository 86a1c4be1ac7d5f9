use Rattle.std.proofs.Common.{◌≡◌, ◌<◌, None, reverse}
use Rattle.bm_exec.specs.Seen.{names_of}
use Rattle.bm_exec.specs.Going.{CanGoOn}
use Rattle.bm_exec.specs.Running.{Went}
use Rattle.bm_exec.specs.Steps.{weight}
use Rattle.bm_exec.specs.Named.{declared_of}
use Rattle.bm_exec.proofs.running.run_on.Given as goal

abbrev pub invariant-turns : goal.invariant-turns
invariant-turns g l = record {
  went : Went (declared_of l.types) (g.M.Machine.level l.initial.machine) (g.M.Machine.around l.initial.machine) (g.M.Machine.around l.machine) (g.M.Machine.behind l.initial.machine) (g.M.Machine.lists l.initial.machine) (g.M.Machine.lists l.machine) (g.M.Machine.guarded l.initial.machine) (g.M.Machine.guarded l.machine) (names_of l.initial.names) (names_of l.names) (reverse l.initial.frame.blocks.items) (reverse l.frame.blocks.items) (g.M.Machine.lives l.initial.machine) (g.M.Machine.lives l.machine) (g.M.Machine.asked l.initial.machine) (g.M.Machine.asked l.machine) (g.M.Machine.log l.initial.machine) (g.M.Machine.log l.machine);
  can : CanGoOn (declared_of l.types) (g.M.Machine.level l.machine) (g.M.Machine.around l.machine) (g.M.Machine.behind l.machine) (g.M.Machine.lists l.machine) (g.M.Machine.lives l.machine) l.names (reverse l.frame.blocks.items);
  known : l.names.names.keys ≡ l.initial.names.names.keys;
  sound : g.M.Machine.sound l.machine;
  level : g.M.Machine.level l.machine ≡ g.M.Machine.level l.initial.machine;
  processor : g.M.Machine.processor l.machine ≡ g.M.Machine.processor l.initial.machine;
  behind : g.M.Machine.behind l.machine ≡ g.M.Machine.behind l.initial.machine;
  unlocked : g.M.Machine.level l.initial.machine ≡ 0 → (g.M.Machine.guarded l.machine).lock ≡ None;
  above : 0 < g.M.Machine.level l.initial.machine → g.M.Machine.guarded l.machine ≡ g.M.Machine.guarded l.initial.machine;
  through : g.M.Machine.through l.machine ≡ g.M.Machine.through l.initial.machine;
  keeps : g.M.Machine.keeps l.initial.machine l.machine;
}

abbrev pub decreases-turns : goal.decreases-turns
decreases-turns g l = weight (reverse l.frame.blocks.items)

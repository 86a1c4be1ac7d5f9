use Rattle.std.proofs.Common.{◌≡◌, ◌≤◌, ◌++◌, ◌-◌, length, map, take, drop}
use Rattle.bm_work.specs.Periods.{sealed}
use Rattle.bm_work.proofs.sends.seal_all.Given as goal

abbrev pub invariant-seals : goal.invariant-seals
invariant-seals l = (l.units.items ≡ map (sealed l.seal) (take l.at l.initial.units.items) ++ drop l.at l.initial.units.items) × (l.at ≤ length l.initial.units.items)

abbrev pub decreases-seals : goal.decreases-seals
decreases-seals l = length l.units.items - l.at

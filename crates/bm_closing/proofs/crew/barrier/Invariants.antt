use Rattle.std.proofs.Common.{◌≡◌, ◌≤◌, ◌<◌, ℕ}
use Rattle.bm_closing.specs.Crews.{StepsBelow}
use Rattle.bm_closing.proofs.crew.barrier.Given as goal

-- those that come still may take their steps, and those before have taken theirs
abbrev pub invariant-loop-processor : goal.invariant-loop-processor
invariant-loop-processor g l = record {
  count : g.C.Crew.count l.crew ≡ g.C.Crew.count l.initial.crew;
  may : (p : ℕ) → l.processor ≤ p → p < g.C.Crew.count l.crew → g.C.Crew.may l.phase l.crew p;
  has : (p : ℕ) → p < l.processor → g.C.Crew.has l.phase l.crew p;
  steps : StepsBelow (g.C.Crew.goes l.phase) l.processor l.initial.crew l.crew;
}

use Rattle.std.proofs.Common.{◌≡◌, take}
use Rattle.std.specs.List.{list_any, filter}
use Rattle.bm_law_scenario.specs.Opened.{uses_class}
use Rattle.bm_run.proofs.classes.opened_classes.Given as goal

abbrev pub invariant-loop-class : goal.invariant-loop-class
invariant-loop-class l = l.opened.items ≡ filter (λ c. list_any (uses_class c) l.types) (take l.class-index l.class-items)

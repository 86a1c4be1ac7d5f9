use Rattle.std.proofs.Common.{◌≡◌, map, take}
use Rattle.bm_class.specs.Sizes.{size_of_class}
use Rattle.bm_class.specs.Watermarks.{marks_of_size}
use Rattle.bm_run.proofs.classes.with_marks.Given as goal

abbrev pub invariant-loop-class : goal.invariant-loop-class
invariant-loop-class l = l.opened.items ≡ map (λ c. (c, marks_of_size (size_of_class c))) (take l.class-index l.classes)

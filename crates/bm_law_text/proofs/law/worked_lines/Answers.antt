use Rattle.std.proofs.Common.{refl}
use Rattle.bm_class.specs.Sizes.{size_of_class}
use Rattle.bm_law_text.specs.Kinds.{kind_of}
use Rattle.bm_law_text.specs.Parts.{number, name, names, class}
use Rattle.bm_law_text.proofs.law.worked_lines.Goals as goal

pub returns : goal.returns
unfolding kind_of number name names class size_of_class
returns c = record {
  entry = refl;
  zero = refl;
  spaces = refl;
  behind = refl;
  above = refl;
  level = refl;
  longer = refl;
  class = refl;
  size = refl;
  maps = refl;
  twice = refl;
}

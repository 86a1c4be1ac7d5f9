use Rattle.std.proofs.Common.{[], ◌∷◌, refl, inl, inr, lit<}
use Rattle.bm_class.specs.Sizes.{size_of_class}
use Rattle.bm_law.specs.Pages.{all_given}
use Rattle.bm_law_work.specs.WorkedPages.{fetched_by, fetched_later, filled_with}
use Rattle.bm_law_work.proofs.Pages.{not-named, short-named, short-never}
use Rattle.bm_law_work.proofs.worked.worked_pages.Goals as goal

pub returns-clause-both : goal.returns-clause-both
returns-clause-both c = short-named 2 (fetched_by (256 ∷ [])) refl

pub returns-clause-later : goal.returns-clause-later
returns-clause-later c = short-named 2 fetched_later refl

pub returns-clause-enough : goal.returns-clause-enough
unfolding size_of_class
returns-clause-enough c = short-never 9 (fetched_by (256 ∷ 512 ∷ 768 ∷ [])) refl

pub returns-clause-filled : goal.returns-clause-filled
unfolding size_of_class
returns-clause-filled c = short-never 9 (filled_with (0 ∷ 1 ∷ 2 ∷ 3 ∷ [])) refl

pub returns-clause-third : goal.returns-clause-third
returns-clause-third c law = not-named 2 (all_given (fetched_by (256 ∷ []))) refl (law (inr (inl (lit< tt))) 2 (lit< tt))

pub returns-clause-nothing : goal.returns-clause-nothing
returns-clause-nothing c law = not-named 1 (all_given (fetched_by [])) refl (law (inr (inl (lit< tt))) 1 (lit< tt))

pub returns-clause-few : goal.returns-clause-few
unfolding size_of_class
returns-clause-few c law = not-named 1 (all_given (filled_with (0 ∷ 1 ∷ 2 ∷ []))) refl (law (inl (lit< tt)) 1 (lit< tt))

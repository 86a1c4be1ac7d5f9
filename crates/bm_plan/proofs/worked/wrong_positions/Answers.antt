use Rattle.std.proofs.Common.{◌≢◌, List, [], ◌∷◌, refl}
use Rattle.bm_lang.specs.declared.scenario.AtLine.{AtLine}
use Rattle.bm_due.specs.declared.planned.Due.{Due}
use Rattle.bm_plan.proofs.Wrong.{has-returned, never-stands, one-is-due, others-left, others-run}
use Rattle.bm_plan.proofs.worked.wrong_positions.Goals as goal

none-some : (x : Due) (xs : List Due) → [] ≢ x ∷ xs
none-some x xs e = absurd cc

some-none : (x : Due) (xs : List Due) → x ∷ xs ≢ []
some-none x xs e = absurd cc

no-lines : (x : AtLine) (xs : List AtLine) → [] ≢ x ∷ xs
no-lines x xs e = absurd cc

pub returns-clause-due : goal.returns-clause-due
returns-clause-due c = one-is-due _ _ _ _ refl refl

pub returns-clause-still_due : goal.returns-clause-still_due
returns-clause-still_due c = one-is-due _ _ _ _ refl refl

pub returns-clause-resumes : goal.returns-clause-resumes
returns-clause-resumes c = has-returned _ _ _ refl refl

pub returns-clause-outside : goal.returns-clause-outside
returns-clause-outside c = others-run _ _ _ _ refl refl (some-none _ _)

pub returns-clause-inside : goal.returns-clause-inside
returns-clause-inside c = others-run _ _ _ _ refl refl (none-some _ _)

pub returns-clause-passed_over : goal.returns-clause-passed_over
returns-clause-passed_over c = never-stands _ _ refl

pub returns-clause-has_run : goal.returns-clause-has_run
returns-clause-has_run c = others-left _ _ _ _ refl refl (no-lines _ _)

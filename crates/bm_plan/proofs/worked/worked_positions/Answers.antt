use Rattle.std.proofs.Common.{ℕ, Bool, false, true, List, [], ◌∷◌, refl}
use Rattle.bm_lang.specs.declared.scenario.AtLine.{AtLine}
use Rattle.bm_due.specs.Standing.{Standing}
use Rattle.bm_due.specs.Worked.{at_step}
use Rattle.bm_plan.specs.Worked.{two_planned}
use Rattle.bm_plan.proofs.worked.worked_positions.Goals as goal

-- so many steps, these handlers run, and these are left
at : ℕ → List AtLine → List AtLine → Bool → Standing
at steps running left resumes = record { steps = steps; running = running; left = left; ended = false; resumes = resumes }

pub returns-clause-due : goal.returns-clause-due
unfolding at
returns-clause-due c = record { standing = at 2 [] two_planned false; reaches = record { stands = refl; running = refl; left = refl; ended = refl }; no_return = refl }

pub returns-clause-runs : goal.returns-clause-runs
unfolding at
returns-clause-runs c = record { standing = at 2 (at_step 3 2 2 ∷ []) (at_step 3 1 1 ∷ []) false; reaches = record { stands = refl; running = refl; left = refl; ended = refl }; no_return = refl }

pub returns-clause-its_step : goal.returns-clause-its_step
unfolding at
returns-clause-its_step c = record { standing = at 2 (at_step 3 2 2 ∷ []) (at_step 3 1 1 ∷ []) false; reaches = record { stands = refl; running = refl; left = refl; ended = refl }; none_due = refl }

pub returns-clause-back : goal.returns-clause-back
unfolding at
returns-clause-back c = record { standing = at 2 [] (at_step 3 1 1 ∷ []) true; reaches = record { stands = refl; running = refl; left = refl; ended = refl } }

pub returns-clause-none_due : goal.returns-clause-none_due
unfolding at
returns-clause-none_due c = record { standing = at 5 [] [] true; reaches = record { stands = refl; running = refl; left = refl; ended = refl }; none_due = refl }

pub returns-clause-goes_on : goal.returns-clause-goes_on
unfolding at
returns-clause-goes_on c = record { standing = at 8 [] [] false; reaches = record { stands = refl; running = refl; left = refl; ended = refl }; no_return = refl }

use Rattle.std.proofs.Common.{◌≡◌, List, [], ◌∷◌, ◌++◌, refl, sym, ◌∙◌, ap, arith, length}
use Rattle.std.proofs.lemmas.List.{length-append}
use Rattle.bm_lang.specs.declared.scenario.AtLine.{AtLine}
use Rattle.bm_due.specs.Worked.{at_step}
use Rattle.bm_plan.proofs.worked.worked_takes.Goals as goal

no-front : (front : List AtLine) (line : AtLine) (rest : List AtLine) → [] ≡ front ++ line ∷ rest → ⊥
no-front [] line rest e = absurd cc
no-front (x ∷ xs) line rest e = absurd cc

pub returns-clause-second : goal.returns-clause-second
returns-clause-second c = record { front = at_step 3 1 1 ∷ []; line = at_step 3 2 2; rest = []; was = refl; now_is = refl; told = refl }

pub returns-clause-last : goal.returns-clause-last
returns-clause-last c = record { front = []; line = at_step 3 1 1; rest = []; was = refl; now_is = refl; told = refl }

pub returns-clause-none_left : goal.returns-clause-none_left
returns-clause-none_left c due now t = no-front t.front t.line t.rest t.was

pub returns-clause-gone : goal.returns-clause-gone
returns-clause-gone c due left t =
    let same = ap length (sym t.was ∙ t.now_is) in
    let more = length-append t.front (t.line ∷ t.rest) in
    let less = length-append t.front t.rest in
    absurd (omega (arith, same, more, less))

use Rattle.std.proofs.Common.{◌≡◌, ap, subst, sym, refl, ◌∙◌, ◌≤◌, List}
use Rattle.std.specs.List.{All, filter}
use Rattle.std.specs.Prelude.{◌==◌}
use Rattle.bm_lang.specs.declared.scenario.AtLine.{AtLine}
use Rattle.bm_lang.specs.Fine.{FineAt}
use Rattle.bm_lang.specs.Spelling.{declared}
use Rattle.bm_lang.specs.declared.scenario.Parts.{Parts}
use Rattle.bm_due.specs.Due.{planned_for}
use Rattle.bm_due.proofs.Plans.{fine-ats, fine-levels}
use Rattle.bm_due.proofs.planned.Planned.create.Goals as goal

-- what was read are the scenario's lines
planned-for : (c : goal.After-least_steps-least) → c.in_ok-left.left.items ≡ planned_for c.args.processor c.args.scenario.now
planned-for c =
    c.in_ok-left.ensures ∙ ap (λ (xs : List AtLine). filter (λ line. line.processor == c.args.processor) xs) (c.as_slice.ensures ∙ ap (λ (s : Parts). s.ats) c.parts.ensures.value)

pub invariant_of-result : goal.invariant_of-result
invariant_of-result c =
    record {
      levels = subst (λ (xs : List AtLine). All (λ (line : AtLine). line.level ≤ 3) xs) (sym (planned-for c)) (fine-levels c.args.scenario.now c.args.processor c.parts.ensures.fine);
      least_is = rw c.least_steps-least.ensures (rw c.as_slice-2.ensures.value refl);
    }

pub returns-clause-fine : goal.returns-clause-fine
returns-clause-fine c =
    subst (λ (xs : List AtLine). All (FineAt c.args.scenario.now.processors (declared c.args.scenario.now).scripts) xs) (sym (planned-for c)) (fine-ats c.args.scenario.now c.args.processor c.parts.ensures.fine)

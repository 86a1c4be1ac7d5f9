-- A log leads to one standing alone.
use Rattle.std.proofs.Common.{◌≡◌, ◌≢◌, ◌∙◌, true, false, List, Some, None, map, sym, ap}
use Rattle.bm_law.specs.Lists.{Log}
use Rattle.bm_lang.specs.declared.scenario.AtLine.{AtLine}
use Rattle.bm_due.specs.Standing.{Standing, at_first, due_in, standing_after}
use Rattle.bm_due.specs.Told.{told_of}
use Rattle.bm_due.specs.declared.planned.Due.{Due}
use Rattle.bm_plan.specs.Position.{AboutTo, AskedAt, Position, Reaches, StandsAt}

the-same : {s t : Standing} → Some s ≡ Some t → s ≡ t
the-same e = cc

leads : (p : Position) (log : Log) (s t : Standing) → standing_after p.names log (Some (at_first p.lines)) ≡ Some t → Reaches p log s → t ≡ s
leads p log s t e r = the-same (sym e ∙ r.stands)

pub one-is-due : (p : Position) (log : Log) (t : Standing) (line : AtLine) → standing_after p.names log (Some (at_first p.lines)) ≡ Some t → due_in t ≡ Some line → ¬ AskedAt p log
one-is-due p log t line e d a = let f : Some line ≡ None = sym d ∙ ap due_in (leads p log a.standing t e a.reaches) ∙ a.none_due in absurd cc

pub has-returned : (p : Position) (log : Log) (t : Standing) → standing_after p.names log (Some (at_first p.lines)) ≡ Some t → t.resumes ≡ true → ¬ StandsAt p log
has-returned p log t e d a = let f : true ≡ false = sym d ∙ ap (λ (z : Standing). z.resumes) (leads p log a.standing t e a.reaches) ∙ a.no_return in absurd cc

pub others-run : (p : Position) (log : Log) (t : Standing) (dues : List Due) → standing_after p.names log (Some (at_first p.lines)) ≡ Some t → map told_of t.running ≡ dues → dues ≢ p.running → ¬ AboutTo p log
others-run p log t dues e d other a = other (sym d ∙ ap (λ (z : Standing). map told_of z.running) (leads p log a.standing t e a.reaches) ∙ a.reaches.running)

pub others-left : (p : Position) (log : Log) (t : Standing) (left : List AtLine) → standing_after p.names log (Some (at_first p.lines)) ≡ Some t → t.left ≡ left → left ≢ p.plan.left → ¬ AboutTo p log
others-left p log t left e d other a = other (sym d ∙ ap (λ (z : Standing). z.left) (leads p log a.standing t e a.reaches) ∙ a.reaches.left)

pub never-stands : (p : Position) (log : Log) → standing_after p.names log (Some (at_first p.lines)) ≡ None → ¬ AboutTo p log
never-stands p log e a = let f : None ≡ Some a.standing = sym e ∙ a.reaches.stands in absurd cc

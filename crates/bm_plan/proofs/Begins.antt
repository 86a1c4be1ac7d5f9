-- What an answer of the planned handlers tells the code that asked.
use Rattle.std.proofs.Common.{◌≡◌, ◌∙◌, ℕ, Bool, true, false, ◌+◌, ◌<◌, List, [], ◌∷◌, ◌++◌, Option, Some, None, refl, sym, ap, subst}
use Rattle.std.specs.Prelude.{All, IfNone, IfSome}
use Rattle.std.specs.List.{slice_get}
use Rattle.std.specs.Option.{option_map}
use Rattle.std.proofs.Props.{props}
use Rattle.bm_journal.specs.declared.entry.Entry.TheVariants as entry
use Rattle.bm_lang.specs.declared.scenario.AtLine.{AtLine}
use Rattle.bm_law.specs.Lists.{Log}
use Rattle.bm_cache.specs.Steps.{steps_in}
use Rattle.bm_due.specs.Due.{due_handler, left_after}
use Rattle.bm_due.specs.Plan.{Plan, due_of, plan_after}
use Rattle.bm_due.specs.Told.{told_of}
use Rattle.bm_due.specs.declared.planned.Due.{Due}
use Rattle.bm_due.proofs.Selected.{among, due-to, others-from}
use Rattle.bm_plan.specs.Takes.{Takes}
use Rattle.bm_plan.specs.Position.{AboutTo, AskedAt, Position, StandsAt, level_in, within}
use Rattle.bm_plan.specs.declared.handlers.Handlers.{Handlers}
use Rattle.bm_plan.proofs.Positions.{asks-none, begins-here}

-- the line that was told
record Told (o : Option AtLine) (due : Due) : Type 0 where
  pub line : AtLine
  pub is : o ≡ Some line
  pub told : told_of line ≡ due

told-some : (o : Option AtLine) (due : Due) → Some due ≡ option_map told_of o → Told o due
told-some None due e = absurd cc
told-some (Some line) due e = record { line = line; is = refl; told = cc }

told-none : (o : Option AtLine) → None ≡ option_map told_of o → o ≡ None
told-none None e = refl
told-none (Some line) e = absurd cc

-- the same question, by the plan and the level that are here
asked-here : (p : Position) (n l : ℕ) (plan : Plan) → p.plan ≡ plan → level_in p.running ≡ l → due_of n l plan ≡ due_of n (level_in p.running) p.plan
asked-here p n l plan e h = ap (λ k. due_of n k plan) (sym h) ∙ ap (λ (z : Plan). due_of n (level_in p.running) z) (sym e)

left-here : (p : Position) (n l : ℕ) (plan : Plan) → p.plan ≡ plan → level_in p.running ≡ l → plan_after n l plan ≡ plan_after n (level_in p.running) p.plan
left-here p n l plan e h = ap (λ k. plan_after n k plan) (sym h) ∙ ap (λ (z : Plan). plan_after n (level_in p.running) z) (sym e)

pub none-asked : (p : Position) (log : Log) (o : Option Due) (l : ℕ) (plan : Plan) → AboutTo p log → p.plan ≡ plan → level_in p.running ≡ l → o ≡ option_map told_of (due_of (steps_in log + 1) l plan) → IfNone o (AskedAt p log)
none-asked p log (Some due) l plan a e h q = tt
none-asked p log None l plan a e h q =
    asks-none p log a (sym (asked-here p (steps_in log + 1) l plan e h) ∙ told-none (due_of (steps_in log + 1) l plan) q)

pub some-begun : (p : Position) (log : Log) (name : List ℕ) (o : Option Due) (l : ℕ) (plan after : Plan) → AboutTo p log → p.plan ≡ plan → level_in p.running ≡ l → o ≡ option_map told_of (due_of (steps_in log + 1) l plan) → after ≡ plan_after (steps_in log + 1) l plan → IfSome o (λ (due : Due). slice_get p.names due.script.0 ≡ Some name → StandsAt (within due after p) (log ++ (due.level, entry.Handler name) ∷ []))
some-begun p log name None l plan after a e h q u = tt
some-begun p log name (Some due) l plan after a e h q u = λ named.
    let t : Told (due_of (steps_in log + 1) l plan) due = told-some _ due q in
    let d : due_of (steps_in log + 1) (level_in p.running) p.plan ≡ Some t.line = sym (asked-here p (steps_in log + 1) l plan e h) ∙ t.is in
    let v : plan_after (steps_in log + 1) (level_in p.running) p.plan ≡ after = sym (left-here p (steps_in log + 1) l plan e h) ∙ sym u in
    let w : slice_get p.names t.line.script.0 ≡ Some name = ap (λ (z : Due). slice_get p.names z.script.0) t.told ∙ named in
    subst (λ (z : Due). StandsAt (within z after p) (log ++ (z.level, entry.Handler name) ∷ [])) t.told
    (subst (λ (z : Plan). StandsAt (within (told_of t.line) z p) (log ++ (t.line.level, entry.Handler name) ∷ [])) v (begins-here p log t.line name a d w))

-- its script is one of so many
pub script-among : (n l k : ℕ) (plan : Plan) (o : Option Due) → All (λ (line : AtLine). line.script.0 < k) plan.left → o ≡ option_map told_of (due_of n l plan) → IfSome o (λ (due : Due). due.script.0 < k)
script-among n l k plan None all q = tt
script-among n l k plan (Some due) all q =
    let t : Told (due_of n l plan) due = told-some _ due q in
    subst (λ (z : Due). z.script.0 < k) t.told (among (λ (line : AtLine). line.script.0 < k) plan.ended n l plan.left t.line all t.is)

-- the line stood among those that haven't run
takes-left : (n l : ℕ) (ended : Bool) (left : List AtLine) (line : AtLine) → due_handler ended n l left ≡ Some line → Takes (told_of line) left (left_after ended n l left)
takes-left n l true left line e = absurd cc
takes-left n l false left line e =
    let h = due-to n l left line e in
    record { front = h.before; line = line; rest = h.behind; was = h.left_is; now_is = others-from n l left line h; told = refl }

pub takes-line : (n l : ℕ) (plan after : Plan) (o : Option Due) → o ≡ option_map told_of (due_of n l plan) → after ≡ plan_after n l plan → IfSome o (λ (due : Due). Takes due plan.left after.left)
takes-line n l plan after None q u = tt
takes-line n l plan after (Some due) q u =
    let t : Told (due_of n l plan) due = told-some _ due q in
    let T : Due → Type 0 = λ (z : Due). Takes z plan.left after.left in
    subst T t.told (subst (λ (z : Plan). Takes (told_of t.line) plan.left z.left) (sym u) (takes-left n l plan.ended plan.left t.line t.is))

-- the same plan and scripts
same-fact : (k : ℕ) (plan : Plan) (a b : All (λ (line : AtLine). line.script.0 < k) plan.left) → a ≡ b
same-fact k plan a b = let f : IsProp (All (λ (line : AtLine). line.script.0 < k) plan.left) = hlevel props in f a b

pub same-handlers : (h : Handlers) (plan : Plan) (a : All (λ (line : AtLine). line.script.0 < h.scripts) plan.left) → plan ≡ h.planned → record { planned = plan; scripts = h.scripts; among = a } ≡ h
same-handlers h plan a e =
    let Same : Plan → Type 0 = λ (z : Plan). (b : All (λ (line : AtLine). line.script.0 < h.scripts) z.left) → ◌≡◌ {A = Handlers} (record { planned = plan; scripts = h.scripts; among = a }) (record { planned = z; scripts = h.scripts; among = b }) in
    subst Same e (λ b. ap (λ (f : All (λ (line : AtLine). line.script.0 < h.scripts) plan.left). let x : Handlers = record { planned = plan; scripts = h.scripts; among = f } in x) (same-fact (h.scripts) plan a b)) h.among

pub none-same : (h : Handlers) (plan : Plan) (a : All (λ (line : AtLine). line.script.0 < h.scripts) plan.left) (o : Option Due) → IfNone o (plan ≡ h.planned) → IfNone o (◌≡◌ {A = Handlers} (record { planned = plan; scripts = h.scripts; among = a }) h)
none-same h plan a (Some due) e = tt
none-same h plan a None e = same-handlers h plan a e

-- What stands after statements and scripts, and what `run` lines cost.
use Rattle.std.proofs.Common.{sym, ◌≡◌, eq-eqb, ◌≤◌, ℕ, ◌+◌, Bool, true, false, List, [], ◌∷◌, length, refl, ap, ◌∙◌, Option, Some, None, IfSome, slice_get, arith, if◌then◌else◌}
use Rattle.std.specs.Borrow.{Bor}
use Rattle.std.proofs.lemmas.List.Sums.{sum_by-cons}
use Rattle.bm_lang.specs.declared.scenario.RunLine.{RunLine}
use Rattle.bm_lang.specs.declared.scenario.Parts.{Parts}
use Rattle.bm_lang.specs.declared.scenario.Script.{Script}
use Rattle.bm_lang.specs.Limits.{cost_on, script_cost, block_cost}
use Rattle.bm_law.specs.State.{State}
use Rattle.bm_law_work.specs.Parts.{Nothing, If}
use Rattle.bm_law_scenario.specs.Grammar.{behind_script, behind_statement}
use Rattle.bm_law_scenario.specs.Opened.{opened_classes}
use Rattle.bm_law_scenario.specs.Works.{UntilDown, WorkBehind, lowest_raised}
use Rattle.bm_exec.specs.Lists.{Behind, behind_of}
use Rattle.bm_run.specs.Lines.{lines_cost, when_on, works_for, BehindScript}

-- ---- what stands behind statements and scripts

statements-by : (b : Bool) (classes : List ℕ) → Behind (when_on b classes) ≡ If b (UntilDown classes) Nothing
statements-by true classes = refl
statements-by false classes = refl

scripts-by : (b : Bool) (classes : List ℕ) → BehindScript (when_on b classes) ≡ If b (WorkBehind classes) Nothing
scripts-by true classes = refl
scripts-by false classes = refl

pub behind-statements : (s : Parts) → Behind (works_for s) ≡ behind_statement s
behind-statements s = statements-by s.deferred (opened_classes s.types)

pub behind-scripts : (s : Parts) → BehindScript (works_for s) ≡ behind_script s
behind-scripts s = scripts-by s.deferred (opened_classes s.types)

-- where no flag is up, no work is left to run
none-raised : (classes : List ℕ) (t : State ℕ) → ((c : ℕ) → (t.rows c).raised ≡ false) → UntilDown classes t []
none-raised classes t h = (0, (none classes, refl))
  where
    none : (cs : List ℕ) → lowest_raised cs t ≡ None
    none [] = refl
    none (c ∷ cs) = rw (h c) (none cs)

-- the same for the classes of a run
pub down-when : (b : Bool) (classes : List ℕ) (t : State ℕ) → ((c : ℕ) → (t.rows c).raised ≡ false) → Behind (when_on b classes) t []
down-when true classes t h = none-raised classes t h
down-when false classes t h = refl

pub few-when : (o : Option (Bor (List ℕ))) (b : Bool) (classes : List ℕ) → behind_of o ≡ when_on b classes → length classes ≤ 11 → IfSome o (λ x. length x.now ≤ 11)
few-when None b classes e few = tt
few-when (Some x) true classes e few = let same : x.now ≡ classes = cc in rw same few
few-when (Some x) false classes e few = cc

-- ---- what lines cost

-- a line of the processor
pub cost-line : (p : ℕ) (scripts : List Script) (r : RunLine) (rest : List RunLine) (script : Script) → r.processor ≡ p → slice_get scripts r.script.0 ≡ Some script → lines_cost p scripts (r ∷ rest) ≡ (10 + block_cost script.body) + lines_cost p scripts rest
cost-line p scripts r rest script here e =
    let c = sum_by-cons (λ (x : RunLine). cost_on p x.processor (script_cost (slice_get scripts x.script.0))) r rest in
    let w : cost_on p r.processor (script_cost (slice_get scripts r.script.0)) ≡ 10 + block_cost script.body =
    ap (λ b. if b then script_cost (slice_get scripts r.script.0) else 0) (eq-eqb p r.processor (sym here)) ∙ ap script_cost e in
    omega (arith, c, w)

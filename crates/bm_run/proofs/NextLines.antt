-- The `run` lines that a processor hasn't come to.
use Rattle.std.proofs.Common.{◌≡◌, ◌<◌, ◌≤◌, ◌+◌, ◌-◌, ◌∙◌, ℕ, suc, List, [], ◌∷◌, Some, ap, drop, eq-eqb, refl, subst, sym, take, arith, length, slice_get, slice_index_or}
use Rattle.std.specs.Borrow.{Bor}
use Rattle.std.proofs.lemmas.List.{take_all}
use Rattle.bm_lang.specs.declared.scenario.Parts.{Parts}
use Rattle.bm_lang.specs.declared.scenario.RunLine.{RunLine}
use Rattle.bm_lang.specs.declared.scenario.Script.{Script}
use Rattle.bm_lang.specs.Limits.{block_cost}
use Rattle.bm_law_scenario.specs.Grammar.{lines_of}
use Rattle.bm_run.specs.Lines.{AreDeclared, lines_cost}
use Rattle.bm_run.specs.Turns.{IsNextOf, lines_left}
use Rattle.bm_run.specs.declared.turns.Remaining.{Remaining}
use Rattle.bm_run.proofs.Lines.{cost-line}

lines-here : (p : ℕ) (r : RunLine) (rest : List RunLine) → r.processor ≡ p → lines_of p (r ∷ rest) ≡ r ∷ lines_of p rest
lines-here p r rest e = rw (eq-eqb r.processor p e) refl

-- the lines after the first
abbrev pub after_first : List RunLine → List RunLine
after_first lines = take (length lines - 1) (drop 1 lines)

pub first-is : (lines : List RunLine) (d : RunLine) → 1 ≤ length lines → lines ≡ slice_index_or lines 0 d ∷ after_first lines
first-is [] d h = absurd (omega (arith, h))
first-is (line ∷ lines) d h = let e : suc (length lines) - 1 ≡ length lines = omega arith in rw e (ap (λ ls. line ∷ ls) (sym (take_all (length lines) lines (omega arith))))

declared-rest : (s : Parts) (r : RunLine) (rest : List RunLine) → AreDeclared s (r ∷ rest) → AreDeclared s rest
declared-rest s r rest h = λ i d lt. h (suc i) d (omega (arith, lt))

pub declared-after : (s : Parts) (lines : List RunLine) (d : RunLine) → 1 ≤ length lines → AreDeclared s lines → AreDeclared s (after_first lines)
declared-after s lines d h a = declared-rest s (slice_index_or lines 0 d) (after_first lines) (subst (AreDeclared s) (first-is lines d h) a)

-- What a search for the next line has passed: lines of other processors.
pub record Searched (s : Parts) (before now : Remaining) : Type 0 where
  pub same : now ≡ record before { lines = now.lines }
  pub left : lines_left now ≡ lines_left before
  pub cost : lines_cost before.processor s.scripts now.lines.now ≡ lines_cost before.processor s.scripts before.lines.now
  pub declared : AreDeclared s now.lines.now

pub searched-none : (s : Parts) (r : Remaining) → AreDeclared s r.lines.now → Searched s r r
searched-none s r d = record { same = refl; left = refl; cost = refl; declared = d }

-- a line of its own
pub next-is : (s : Parts) (script : Script) (before now : Remaining) (rest : Bor (List RunLine)) (d : RunLine) → 1 ≤ length now.lines.now → rest.now ≡ after_first now.lines.now → (slice_index_or now.lines.now 0 d).processor ≡ now.processor → slice_get s.scripts (slice_index_or now.lines.now 0 d).script.0 ≡ Some script → Searched s before now → IsNextOf s script before (record now { lines = rest })
next-is s script before now rest d some e own found x =
    let line = slice_index_or now.lines.now 0 d in
    let all = first-is now.lines.now d some in
    let here : now.processor ≡ before.processor = ap (λ (r : Remaining). r.processor) x.same in
    record {
      line = line;
      found = found;
      next = sym x.left ∙ (ap (lines_of now.processor) all ∙ (lines-here now.processor line (after_first now.lines.now) own ∙ ap (λ ls. line ∷ lines_of now.processor ls) (sym e)));
      cost = sym x.cost ∙ (ap (lines_cost before.processor s.scripts) all ∙ (cost-line before.processor s.scripts line (after_first now.lines.now) script (own ∙ here) found ∙ ap (λ ls. (10 + block_cost script.body) + lines_cost before.processor s.scripts ls) (sym e)));
    }

-- none is left where no line is
pub none-left : (r : Remaining) → length r.lines.now < 1 → lines_left r ≡ []
none-left r h = ap (lines_of r.processor) (nothing r.lines.now h)
  where
    nothing : (lines : List RunLine) → length lines < 1 → lines ≡ []
    nothing [] h = refl
    nothing (line ∷ lines) h = absurd (omega (arith, h))

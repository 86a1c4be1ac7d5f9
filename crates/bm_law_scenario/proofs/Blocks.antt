-- A run of a block is a run of its list of statements.
use Rattle.std.proofs.Common.{Bool, true, ◌≡◌, ℕ, List, [], ◌∷◌, refl, ap, ◌∙◌}
use Rattle.std.specs.Global.{Vec}
use mathlib.Core.Former.{Count}
use Rattle.bm_lang.specs.declared.scenario.Action.{Action}
use Rattle.bm_lang.specs.declared.scenario.Action.TheOpen.{Block-F}
use Rattle.bm_lang.specs.declared.scenario.Action.TheBlock.{hidden-the_row-Statement-0}
use Rattle.bm_lang.specs.declared.scenario.Block.{Block, roll-Block, rolls-Block', Row_of-Statement, end_of-Statement, more_of-Statement, items-the_row-Statement, items_hidden-the_row-Statement-0}
use Rattle.bm_lang.specs.declared.scenario.Statement.{Statement}
use Rattle.bm_law_scenario.specs.Declared.{Declared, under}
use Rattle.bm_law_scenario.specs.Runs.{lock_after}
use Rattle.bm_law_scenario.proofs.OwnRuns.{Run, Done, Then, RunsAction, RunsBlock, RunsRow}

-- statements, one after the other, in a plain section or in none
abbrev pub RunsListIn : Declared → (inside : Bool) → List Statement → Run
RunsListIn d i [] = Done
RunsListIn d i (s ∷ ss) = Then (RunsAction d i s.action) (RunsListIn (under (lock_after d.lock s.action) d) i ss)

row-runs : (d : Declared) (i : Bool) (n : Count) (row : Row_of-Statement n) → RunsRow d i row ≡ RunsListIn d i (items-the_row-Statement n row)
row-runs d i _ end_of-Statement = refl
row-runs d i _ (more_of-Statement line action rest) = ap (Then (RunsAction d i action)) (row-runs (under (lock_after d.lock action) d) i _ rest)

pub block-runs-in : (d : Declared) (i : Bool) (v : Vec Statement) (end : ℕ) → RunsBlock d i (roll-Block (record { statements = v; end_line = end })) ≡ RunsListIn d i v.items
block-runs-in d i v end =
    let b : Block-F Action Block Statement = record { statements = v; end_line = end } in
    ap (RunsBlock d i) (rolls-Block' b) ∙ (row-runs d i _ (hidden-the_row-Statement-0 v) ∙ ap (RunsListIn d i) (items_hidden-the_row-Statement-0 v))

-- in a plain section
abbrev pub RunsList : Declared → List Statement → Run
RunsList d = RunsListIn d true

pub block-runs : (d : Declared) (v : Vec Statement) (end : ℕ) → RunsBlock d true (roll-Block (record { statements = v; end_line = end })) ≡ RunsList d v.items
block-runs d = block-runs-in d true

-- A run of a block by parts is a run of its list of statements.
use Rattle.std.proofs.Common.{true, ◌≡◌, ℕ, List, [], ◌∷◌, refl, ap, ◌∙◌}
use Rattle.std.specs.Global.{Vec}
use mathlib.Core.Former.{Count}
use Rattle.bm_lang.specs.declared.scenario.Action.{Action}
use Rattle.bm_lang.specs.declared.scenario.Action.TheOpen.{Block-F}
use Rattle.bm_lang.specs.declared.scenario.Action.TheBlock.{hidden-the_row-Statement-0}
use Rattle.bm_lang.specs.declared.scenario.Block.{Block, roll-Block, rolls-Block', Row_of-Statement, end_of-Statement, more_of-Statement, items-the_row-Statement, items_hidden-the_row-Statement-0}
use Rattle.bm_lang.specs.declared.scenario.Statement.{Statement}
use Rattle.bm_law_work.specs.Parts.{Part}
use Rattle.bm_law_scenario.specs.Declared.{Declared, under}
use Rattle.bm_law_scenario.specs.Runs.{Run, Leaving, Done, Followed, RunsAction, RunsBlock, RunsRow, lock_after, unlocked}

-- statements, one after the other
abbrev pub RunsList : Declared → ℕ → Part → List Statement → Run
RunsList d l behind [] = Done
RunsList d l behind (s ∷ ss) =
    let lock = lock_after d.lock s.action in
    Followed (Followed (RunsAction d l true behind s.action) (Leaving (unlocked lock behind))) (RunsList (under lock d) l behind ss)

row-runs : (d : Declared) (l : ℕ) (behind : Part) (n : Count) (row : Row_of-Statement n) → RunsRow d l true behind row ≡ RunsList d l behind (items-the_row-Statement n row)
row-runs d l behind _ end_of-Statement = refl
row-runs d l behind _ (more_of-Statement line action rest) =
    let lock = lock_after d.lock action in
    ap (Followed (Followed (RunsAction d l true behind action) (Leaving (unlocked lock behind)))) (row-runs (under lock d) l behind _ rest)

pub block-parts : (d : Declared) (l : ℕ) (behind : Part) (v : Vec Statement) (end : ℕ) → RunsBlock d l true behind (roll-Block (record { statements = v; end_line = end })) ≡ RunsList d l behind v.items
block-parts d l behind v end =
    let b : Block-F Action Block Statement = record { statements = v; end_line = end } in
    ap (RunsBlock d l true behind) (rolls-Block' b) ∙ (row-runs d l behind _ (hidden-the_row-Statement-0 v) ∙ ap (RunsList d l behind) (items_hidden-the_row-Statement-0 v))

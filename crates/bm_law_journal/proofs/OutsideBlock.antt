-- A run of a block's statements is a run of the block, in a plain section or in none.
use Rattle.std.proofs.Common.{Bool, ◌≡◌, ◌≤◌, ℕ, List, [], ◌∷◌, length, refl, ap, subst, sym, ◌∙◌}
use Rattle.std.specs.Global.{Vec}
use mathlib.Core.Former.{Count}
use Rattle.bm_lang.specs.declared.scenario.Action.{Action}
use Rattle.bm_lang.specs.declared.scenario.Action.TheOpen.{Block-F}
use Rattle.bm_lang.specs.declared.scenario.Action.TheBlock.{hidden-the_row-Statement-0}
use Rattle.bm_lang.specs.declared.scenario.Block.{Block, roll-Block, rolls-Block', Row_of-Statement, end_of-Statement, more_of-Statement, items-the_row-Statement, items_hidden-the_row-Statement-0}
use Rattle.bm_lang.specs.declared.scenario.Statement.{Statement}
use Rattle.bm_law.specs.State.{State}
use Rattle.bm_law.specs.Lists.{Log}
use Rattle.bm_law_scenario.specs.Declared.{Declared, under}
use Rattle.bm_law_scenario.specs.Runs.{Run, Leaving, Done, Followed, RunsAction, RunsBlock, RunsRow, lock_after, unlocked}
use Rattle.bm_law_scenario.specs.Held.{Names}
use Rattle.bm_law_scenario.specs.WorkedJournal.{block_of, vector_of}

-- what stands behind a statement
abbrev Behind : Type 1
Behind = State ℕ → Log → Type 0

-- statements, one after the other
abbrev pub RunsListIn : Declared → (inside : Bool) → Behind → List Statement → Run
RunsListIn d i behind [] = Done
RunsListIn d i behind (s ∷ ss) =
    let lock = lock_after d.lock s.action in
    let one = Followed (RunsAction d 0 i behind s.action) (Leaving (unlocked lock behind)) in
    Followed one (RunsListIn (under lock d) i behind ss)

row-runs : (d : Declared) (i : Bool) (behind : Behind) (n : Count) (row : Row_of-Statement n) →
    RunsRow d 0 i behind row ≡ RunsListIn d i behind (items-the_row-Statement n row)
row-runs d i behind _ end_of-Statement = refl
row-runs d i behind _ (more_of-Statement line action rest) =
    let lock = lock_after d.lock action in
    let one = Followed (RunsAction d 0 i behind action) (Leaving (unlocked lock behind)) in
    ap (Followed one) (row-runs (under lock d) i behind _ rest)

block-is : (d : Declared) (i : Bool) (behind : Behind) (v : Vec Statement) (end : ℕ) →
    RunsBlock d 0 i behind (roll-Block (record { statements = v; end_line = end })) ≡ RunsListIn d i behind v.items
block-is d i behind v end =
    let b : Block-F Action Block Statement = record { statements = v; end_line = end } in
    let row = row-runs d i behind _ (hidden-the_row-Statement-0 v) in
    let items = ap (RunsListIn d i behind) (items_hidden-the_row-Statement-0 v) in
    ap (RunsBlock d 0 i behind) (rolls-Block' b) ∙ (row ∙ items)

pub runs-block : (d : Declared) (i : Bool) (behind : Behind) (own : List Statement) (few : length own ≤ 4) (end : ℕ)
    (names after : Names) (s : State ℕ) (part : Log) →
    RunsListIn d i behind own names after s part → RunsBlock d 0 i behind (block_of own few end) names after s part
runs-block d i behind own few end names after s part h =
    subst (λ (run : Run). run names after s part) (sym (block-is d i behind (vector_of own few) end)) h

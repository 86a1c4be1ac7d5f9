-- Which scripts are accepted, and the first broken rule of one that isn't.
use Rattle.std.specs.Prelude.{◌≡◌, ℕ, ◌<◌, not, Option, Some, None, slice_get}
use Rattle.bm_lang.specs.Limits.{first_limit}
use Rattle.bm_lang.specs.declared.scenario.Parts.{Parts}
use Rattle.bm_lang.specs.declared.scenario.Script.{Script}
use Rattle.bm_check.specs.declared.name_state.HeldLock.TheVariants.{Nothing}
use Rattle.bm_check.specs.declared.rule.Rule.{Rule}
use Rattle.bm_check.specs.declared.rule.Rule.TheVariants as rule
use Rattle.bm_check.specs.Names.{no_names, owns_some}
use Rattle.bm_check.specs.Statements.{setting_of, need}
use Rattle.bm_check.specs.Blocks.{Outcome, Broken, Reaches, at, and_then, unless_broken, end_line, judged_block}

-- a script's block, begun without names and locks; at its end nothing is owned, or rule 4 is broken there
abbrev pub judged_script : Parts → Script → Outcome
judged_script scenario s =
    and_then (judged_block (setting_of scenario s.kind) (at no_names Nothing) s.body)
    (λ p. unless_broken (end_line s.body) (need (not (owns_some p.names)) rule.NothingOwned)
    (Reaches p))

pub record BrokenRule : Type 0 where
  pub line : ℕ
  pub rule : Rule

abbrev pub broken_rule : Outcome → Option BrokenRule
broken_rule (Broken line r) = Some (record { line = line; rule = r })
broken_rule (Reaches p) = None

abbrev pub first_broken_rule : Parts → Script → Option BrokenRule
first_broken_rule scenario s = broken_rule (judged_script scenario s)

-- no rule is broken
abbrev pub Accepted : Parts → Script → Type 0
Accepted scenario s = first_broken_rule scenario s ≡ None

abbrev pub AllAccepted : Parts → Type 0
AllAccepted scenario =
    (i : ℕ) (s : Script) → slice_get scenario.scripts i ≡ Some s → Accepted scenario s

-- the first script in the text's order that isn't accepted, with its first broken rule
pub record IsRejected (scenario : Parts) (script line : ℕ) (r : Rule) : Type 0 where
  pub broken : Script
  pub here : slice_get scenario.scripts script ≡ Some broken
  pub first_rule : first_broken_rule scenario broken ≡ Some (record { line = line; rule = r })
  pub before :
      (i : ℕ) (s : Script) → i < script → slice_get scenario.scripts i ≡ Some s
      → Accepted scenario s

-- what a checked scenario keeps: all its scripts are accepted, and no limit is exceeded
pub record IsChecked (scenario : Parts) : Type 0 where
  pub accepted : AllAccepted scenario
  pub within_limits : first_limit scenario ≡ None

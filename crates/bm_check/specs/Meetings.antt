-- The two kinds of places that meet, by what the judgement on blocks says of each.
use Rattle.std.specs.Prelude.{ℕ, Bool, not}
use Rattle.bm_check.specs.declared.name_state.NameState.{NameState}
use Rattle.bm_check.specs.declared.name_state.HeldLock.{HeldLock}
use Rattle.bm_check.specs.declared.meeting.Meeting.{Meeting}
use Rattle.bm_check.specs.declared.meeting.Meeting.TheVariants.{Branches, Body}
use Rattle.bm_check.specs.declared.rule.Rule.{Rule}
use Rattle.bm_check.specs.declared.rule.Rule.TheVariants as rule
use Rattle.bm_check.specs.NameStates.{clashes, agrees, joined_state, repeated_state}
use Rattle.bm_check.specs.Names.{Names}
use Rattle.bm_check.specs.Blocks.{Place, Outcome, after_if, after_repeat}

abbrev pub breaks : Meeting → NameState → NameState → Bool
breaks Branches s t = clashes s t
breaks Body s t = not (agrees s t)

abbrev pub outcome : Meeting → NameState → NameState → NameState
outcome Branches s t = joined_state s t
outcome Body s t = repeated_state s t

abbrev pub rule_of : Meeting → Rule
rule_of Branches = rule.BranchesAgree
rule_of Body = rule.RepeatAgrees

-- the end of the statement with blocks
abbrev pub after_meeting : Meeting → ℕ → HeldLock → Names → Place → Outcome
after_meeting Branches = after_if
after_meeting Body = after_repeat

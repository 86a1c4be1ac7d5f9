-- The judgement on a few statements, worked out by hand. Their lines begin with 5; x is the byte 120.
use Rattle.std.specs.Prelude.{◌≡◌, ℕ, List, [], ◌∷◌}
use Rattle.bm_lang.specs.declared.scenario.Action.{Action, New, Drop, Lock, PushBack}
use Rattle.bm_lang.specs.declared.scenario.Block.{end_of-Statement, more_of-Statement}
use Rattle.bm_lang.specs.declared.scenario.ScriptKind.{ScriptKind}
use Rattle.bm_lang.specs.declared.scenario.ScriptKind.TheVariants.{Plain, Handler}
use Rattle.bm_lang.specs.declared.scenario.TypeId.{TypeId}
use Rattle.bm_lang.specs.declared.scenario.MapId.{MapId}
use Rattle.bm_check.specs.declared.name_state.NameState.TheVariants.{Maybe}
use Rattle.bm_check.specs.declared.name_state.HeldLock.TheVariants.{Nothing}
use Rattle.bm_check.specs.declared.rule.Rule.TheVariants as rule
use Rattle.bm_check.specs.Names.{no_names, put}
use Rattle.bm_check.specs.Blocks.{Outcome, Broken, Reaches, at, judged_row}

abbrev pub x : List ℕ
x = 120 ∷ []

abbrev pub job : TypeId
job = record { 0 = 0 }

abbrev pub q : MapId
q = record { 0 = 0 }

abbrev pub new_job : Action
new_job = New x job (1 ∷ [])

abbrev pub one : ScriptKind → Action → Outcome
one kind a =
    judged_row (record { types = []; maps = []; kind = kind }) (at no_names Nothing)
    (more_of-Statement 5 a end_of-Statement)

abbrev pub two : Action → Action → Outcome
two a b =
    judged_row (record { types = []; maps = []; kind = Plain }) (at no_names Nothing)
    (more_of-Statement 5 a (more_of-Statement 6 b end_of-Statement))

pub record WorkedStatements : Type 0 where
  pub bound : one Plain new_job ≡ Reaches (at (put no_names x (Maybe job)) Nothing)
  pub unbound : one Plain (Drop x) ≡ Broken 5 rule.BoundOnce
  pub null : two new_job (Drop x) ≡ Broken 6 rule.NotNull
  pub bound_twice : two new_job new_job ≡ Broken 6 rule.BoundOnce
  pub no_lock : one Plain (PushBack q x) ≡ Broken 5 rule.UnderItsLock
  pub second_lock : two (Lock q) (Lock q) ≡ Broken 6 rule.OneLock
  pub under_lock : two (Lock q) new_job ≡ Broken 6 rule.NotUnderLock
  pub handler : one Handler (Lock q) ≡ Broken 5 rule.NotInHandler

-- A running script's names and its lock as the law of accepted scripts has them, and the lock as a run of it has that.
use Rattle.std.specs.Prelude.{Option, Some, None}
use Rattle.bm_check.specs.declared.name_state.HeldLock.{HeldLock}
use Rattle.bm_check.specs.declared.name_state.HeldLock.TheVariants.{Nothing as NoLock, Here, Around}
use Rattle.bm_check.specs.Values.{Value, Empty, Null, Owning, NonOwning, Store}
use Rattle.bm_lang.specs.declared.scenario.MapId.{MapId}
use Rattle.bm_law_scenario.specs.Held as held

abbrev pub value_of : held.Held → Value
value_of held.Nothing = Empty
value_of held.Null = Null
value_of (held.Object t u life) = Owning t
value_of (held.Soft t graph u life) = NonOwning t graph

-- what a script has that holds this lock
abbrev pub store_of : held.Names → HeldLock → Store
store_of names lock = record { value = λ x. value_of (names x); lock = lock }

-- the list or tree whose lock is held
abbrev pub locked_in : HeldLock → Option MapId
locked_in NoLock = None
locked_in (Here graph) = Some graph
locked_in (Around graph) = Some graph

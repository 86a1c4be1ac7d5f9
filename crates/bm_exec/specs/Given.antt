-- What a script gives to a slot, and to a list or tree.
use Rattle.std.specs.Prelude.{◌≡◌, ℕ, List, Option, Some, None}
use Rattle.bm_graph.specs.declared.ways.End.{End}
use Rattle.bm_graph.specs.declared.ways.End.TheVariants as end_
use Rattle.bm_graph.specs.declared.ways.Way.{Way}
use Rattle.bm_graph.specs.declared.ways.Way.TheVariants as way
use Rattle.bm_lang.specs.declared.scenario.Action.{Action, Add, PopBack, PopFront, PushBack, PushFront}
use Rattle.bm_lang.specs.declared.scenario.MapId.{MapId}
use Rattle.bm_lang.specs.declared.scenario.TypeId.{TypeId}
use Rattle.bm_check.specs.Values.{Owning}
use Rattle.bm_law_scenario.specs.Held.{Names, Nothing, with_name}
use Rattle.bm_exec.specs.Stores.{value_of}

-- the name that is given, if one is, holds a reference to an object of this type
abbrev pub Gives : TypeId → Option (List ℕ) → Names → Type 0
Gives t None names = Unit {0}
Gives t (Some x) names = value_of (names x) ≡ Owning t

-- what the names hold once it is given
abbrev pub names_without : Option (List ℕ) → Names → Names
names_without None names = names
names_without (Some x) names = with_name x Nothing names

-- the statement that puts what a name holds into a list or tree
abbrev pub push_action : Way → MapId → List ℕ → Action
push_action way.Front graph x = PushFront graph x
push_action way.Back graph x = PushBack graph x
push_action way.Ordered graph x = Add graph x

-- the statement that takes an object from an end of a list
abbrev pub pop_action : End → MapId → List ℕ → Action
pop_action end_.Front list x = PopFront x list
pop_action end_.Back list x = PopBack x list

-- All objects on one thread, and what each call does to them.
use Rattle.std.specs.Prelude.{◌≡◌, ◌<◌, ℕ, ◌+◌, ◌-◌, Bool, false, eqb, is_some, nat_lt, if◌then◌else◌, List, [], Option, None, Some, length, slice_get, slice_set, sum_by}
use Rattle.std.specs.Option.{option_map, option_map_or}
use Rattle.bm_journal.specs.declared.ids.Tag.{Tag}
use Rattle.bm_page.specs.UnitState.{UnitState}
use Rattle.bm_obj.specs.Known.{Known, some_of}
use Rattle.bm_obj.specs.Notes.{Carried, Noted, Page}
use Rattle.bm_obj.specs.Reference.{Held, Reference, id_of}
use Rattle.bm_obj.specs.Table.{begun_in, changed, object_at, object_in, reference_to, with_count, with_noted, with_owner}
use Rattle.bm_obj.specs.Waits.{after_claim, ended, waiting_at}
use Rattle.bm_obj.specs.declared.answer.Claimed.{Claimed}
use Rattle.bm_obj.specs.declared.answer.Claimed.TheVariants.{Won, Taken}
use Rattle.bm_obj.specs.declared.answer.Displaced.{Displaced}
use Rattle.bm_obj.specs.declared.answer.Released.{Released}
use Rattle.bm_obj.specs.declared.answer.Released.TheVariants.{Still, Last}
use Rattle.bm_obj.specs.declared.object.Object.{Object}
use Rattle.bm_obj.specs.declared.object.UnitPlace.{UnitPlace}
use Rattle.bm_obj.specs.declared.object.UnitPlace.TheVariants.{Free, Lives}
use Rattle.bm_obj.specs.declared.type_def.TypeDef.{TypeDef}
use Rattle.bm_obj.specs.declared.waiting.Waiting.{Waiting}

-- what a slot holds: a reference, if there is one, and the tag of the exchange that left it so, if there was one
abbrev pub Word : Type 0
Word = Displaced Reference

-- By unit the object that it is, or how many lives it has begun; by slot what it holds; by slot and by graph the number of its
-- type; the types; the processor that has its turn; how many references may still be acquired; by graph what waits for its history;
-- and the tag of the last call that was marked.
pub record World : Type 0 where
  pub places : List UnitPlace
  pub words : List Word
  pub slots : List ℕ
  pub graphs : List ℕ
  pub defs : List TypeDef
  pub processor : ℕ
  pub acquires : ℕ
  pub waits : List (Option Waiting)
  pub last : Option Tag

-- an untouched slot
abbrev pub opening_word : Word
opening_word = record { old = None; by = None }

-- ---- what a reference finds

abbrev pub found : Reference → World → Option Object
found r world = object_at world.places r.unit

abbrev pub count_of : Reference → World → ℕ
count_of r world = option_map_or (λ object. object.count) (found r world) 0

abbrev pub values_of : Reference → World → List ℕ
values_of r world = option_map_or (λ object. object.values) (found r world) []

-- the graph that owns the object, if one does
abbrev pub owner_in : Option Object → Option ℕ
owner_in None = None
owner_in (Some object) = object.owner

abbrev pub owner_of : Reference → World → Option ℕ
owner_of r world = owner_in (found r world)

-- ---- what calls do

-- A unit begins its next life, without a seal, as an object with one reference and without an owner. (bpf_obj_new.)
abbrev pub new_object : UnitState → ℕ → List ℕ → Object
new_object unit def values = record {
  unit = record unit { life = unit.life + 1; seal = None };
  count = 1;
  def = def;
  values = values;
  owner = None;
  noted = 0;
  carried = false;
}

abbrev pub made : UnitState → ℕ → List ℕ → World → World
made unit def values world =
    record world
    { places = slice_set world.places unit.number (Lives (new_object unit def values)) }

-- The object has one reference more. (bpf_refcount_acquire.)
abbrev pub acquired : Reference → World → World
acquired r world = record world {
  places = changed r.unit (λ object. with_count (object.count + 1) object) world.places;
  acquires = world.acquires - 1;
}

-- The object has one reference fewer, or it ends, and its unit has begun as many lives as the reference says. (bpf_obj_drop.)
abbrev pub released : Reference → World → World
released r world = record world {
  places =
      if nat_lt 1 (count_of r world)
      then changed r.unit (λ object. with_count (object.count - 1) object) world.places
      else slice_set world.places r.unit (Free r.life);
}

-- .. and the answer: the count that was found, if it was above 1, else the object's unit
abbrev pub IsReleased : Reference → World → Released → Type 0
IsReleased r world (Still count) = (count ≡ count_of r world) × (1 < count)
IsReleased r world (Last unit) =
    (count_of r world ≡ 1) × (option_map (λ object. object.unit) (found r world) ≡ Some unit)

-- A slot holds what was put, by this tag. (bpf_kptr_xchg.)
abbrev pub exchanged : ℕ → Option Reference → Tag → World → World
exchanged slot put tag world =
    record world { words = slice_set world.words slot (record { old = put; by = Some tag }) }

-- A graph owns an object that no graph owned, and this waits for the entry in the graph's history; else nothing changes.
-- (__bpf_list_add and __bpf_rbtree_add of kernel/bpf/helpers.c.)
abbrev pub won : Reference → ℕ → World → World
won r graph world = record world {
  places = changed r.unit (with_owner (Some graph)) world.places;
  waits = slice_set world.waits graph (after_claim (id_of r) (waiting_at world.waits graph));
}

abbrev pub claimed : Reference → ℕ → World → World
claimed r graph world = option_map_or (λ owner. world) (owner_of r world) (won r graph world)

-- .. and the answer: the owner that was found
abbrev pub owner_seen : Claimed → Option ℕ
owner_seen Won = None
owner_seen (Taken owner) = Some owner

-- No graph owns the object any more, and this waits for the entry in the history of the graph that did.
abbrev pub unclaimed : Reference → World → World
unclaimed r world = record world {
  places = changed r.unit (with_owner None) world.places;
  waits = ended (id_of r) (owner_of r world) world.waits;
}

-- A reference goes into a note, and the claim with it, where it isn't in a note already.
abbrev pub put_in : Reference → World → World
put_in r world =
    record world {
      places =
          changed r.unit (λ object. with_noted (object.noted + 1) (is_some object.owner) object)
          world.places;
    }

-- .. and comes out of it
abbrev pub still_carried : Option ℕ → Bool → Bool
still_carried None carried = carried
still_carried (Some graph) carried = false

abbrev pub taken_out : Carried → World → World
taken_out c world = record world {
  places =
      changed c.to.unit
      (λ object. with_noted (object.noted - 1) (still_carried c.claim object.carried) object)
      world.places;
}

-- A call is marked; and a graph's history has its entry.
abbrev pub marked : Tag → World → World
marked tag world = record world { last = Some tag }

abbrev pub entered : ℕ → World → World
entered graph world = record world { waits = slice_set world.waits graph None }

-- ---- what the side knows

-- how many references to a unit one slot holds, and how many all slots do
abbrev pub held_in : ℕ → Word → ℕ
held_in n word = option_map_or (λ r. if eqb r.unit n then 1 else 0) word.old 0

abbrev pub times_held : ℕ → List Word → ℕ
times_held n words = sum_by (held_in n) words

-- The references to an object that are in no slot and no note are in hands.
abbrev pub refs_in : ℕ → Option Object → Option Held
refs_in times None = None
refs_in times (Some object) = some_of (reference_to object) (object.count - (times + object.noted))

-- .. and the claim of an object, if it isn't in a note
abbrev pub claim_in : Option Object → Option ℕ
claim_in None = None
claim_in (Some object) = if object.carried then None else object.owner

-- what notes carry of an object
abbrev pub noted_in : Option Object → Noted
noted_in None = record { refs = None; claim = None }
noted_in (Some object) = record {
  refs = some_of (reference_to object) object.noted;
  claim = if object.carried then object.owner else None;
}

-- The one side has all references and claims that are in hands, all units that aren't objects, and always the page of each graph,
-- which tells no history.
abbrev pub page_of : List ℕ → ℕ → Option Page
page_of graphs graph =
    if nat_lt graph (length graphs) then Some (record { graph = graph; history = None }) else None

abbrev pub known_of : World → Known
known_of world = record {
  processor = world.processor;
  refs = λ n. refs_in (times_held n world.words) (object_in (slice_get world.places n));
  mine = λ n. begun_in (slice_get world.places n);
  claims = λ n. claim_in (object_in (slice_get world.places n));
  slots = world.slots;
  graphs = world.graphs;
  defs = world.defs;
  acquires = world.acquires;
  pages = page_of world.graphs;
  notes = Some (λ n. noted_in (object_in (slice_get world.places n)));
  waits = λ graph. waiting_at world.waits graph;
  last = world.last;
}

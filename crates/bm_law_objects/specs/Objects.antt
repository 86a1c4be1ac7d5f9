-- Objects and slots, as entries name them. An object is made by a call that says its type and the values of its fields, and lives in its
-- unit until its last reference is given up; a slot holds an object or none, and calls exchange what it holds. (In the kernel an object
-- is made by bpf_obj_new_impl of kernel/bpf/helpers.c, and a slot, a map value's field for a pointer to an object, is exchanged by
-- bpf_kptr_xchg there, which is one xchg. Numbers of calls are this project's own.)
use Rattle.std.specs.Prelude.{◌≡◌, ℕ, ◌&&◌, eqb, if◌then◌else◌, Option, Some, None, List}
use Rattle.std.specs.List.{slice_get}
use Rattle.std.specs.Str.{bytes_eq}
use Rattle.bm_journal.specs.declared.ids.ObjId.{ObjId}
use Rattle.bm_journal.specs.declared.ids.Tag.{Tag}
use Rattle.bm_journal.specs.declared.entry.Entry.{Entry}
use Rattle.bm_journal.specs.declared.entry.Entry.TheVariants as entry
pub use Rattle.bm_law_order.specs.Calls.{calls_after, is_call, tag_after}
pub use Rattle.bm_law_order.specs.Lives.{IfAlive, IsAlive}
use Rattle.bm_law_order.specs.Lives.{Lives, first_lives, lives_after}
use Rattle.bm_law_order.specs.Orders.{AllFit, Order}
use Rattle.bm_law_order.specs.Polls.{for_processor}
pub use Rattle.bm_law_order.specs.Slots.{Slot, empty_slot}

-- What a call asks for: an object of this type, with these values of its fields.
pub record Asked : Type 0 where
  pub type_name : List ℕ
  pub values : List ℕ

-- What a unit's last life was made of.
pub record Made : Type 0 where
  pub life : ℕ
  pub asked : Asked

-- By processor and level the object that it asks for, where there is no reply yet; by unit what it was made of; by name the slots; and by
-- processor how many calls its log has so far, of all levels together.
pub record Objects : Type 0 where
  pub asking : ℕ → ℕ → Option Asked
  pub made : ℕ → Option Made
  pub slots : List ℕ → Slot
  pub calls : ℕ → ℕ

abbrev pub first_objects : Objects
first_objects =
    record { asking = λ p l. None; made = λ u. None; slots = λ name. empty_slot; calls = λ p. 0 }

-- ---- what an entry of level l of processor p makes of them

abbrev pub at_place : {A : Type 0} → (p l : ℕ) → A → (ℕ → ℕ → A) → ℕ → ℕ → A
at_place p l x f q k = if eqb q p && eqb k l then x else f q k

abbrev pub asking_after : (p l : ℕ) → Entry → (ℕ → ℕ → Option Asked) → ℕ → ℕ → Option Asked
asking_after p l (entry.New name values) asking =
    at_place p l (Some (record { type_name = name; values = values })) asking
asking_after p l (entry.Given u life) asking = at_place p l None asking
asking_after p l (entry.GivenAfter u life stamp seen) asking = at_place p l None asking
asking_after p l entry.Empty asking = at_place p l None asking
asking_after p l (entry.Busy active) asking = at_place p l None asking
asking_after p l _ asking = asking

-- this life is made of what was asked for
abbrev pub made_of : (life : ℕ) → Option Asked → Option Made
made_of life None = None
made_of life (Some asked) = Some (record { life = life; asked = asked })

abbrev pub with_made : (u life : ℕ) → Option Asked → (ℕ → Option Made) → ℕ → Option Made
with_made u life asked made v = if eqb v u then made_of life asked else made v

-- `asked` is what is asked for at the entry's level
abbrev pub made_after : Entry → Option Asked → (ℕ → Option Made) → ℕ → Option Made
made_after (entry.Given u life) asked made = with_made u life asked made
made_after (entry.GivenAfter u life stamp seen) asked made = with_made u life asked made
made_after _ asked made = made

-- `tag` is the entry's, where it is a call
abbrev pub slots_after : Entry → Tag → (List ℕ → Slot) → List ℕ → Slot
slots_after (entry.Xchg name put was by) tag slots other =
    if bytes_eq name other then record { held = put; by = Some tag } else slots other
slots_after _ tag slots other = slots other

abbrev pub objects_after : (p l : ℕ) → Entry → Objects → Objects
objects_after p l e s = record {
  asking = asking_after p l e s.asking;
  made = made_after e (s.asking p l) s.made;
  slots = slots_after e (tag_after p (s.calls p)) s.slots;
  calls = for_processor p (calls_after (s.calls p) (l, e)) s.calls;
}

-- ---- what an entry needs

-- Lives go their own way; objects and slots beside them.
pub record Owned : Type 0 where
  pub lives : Lives
  pub objects : Objects

abbrev pub owned_after : (p l : ℕ) → Entry → Owned → Owned
owned_after p l e s =
    record { lives = lives_after p l e s.lives; objects = objects_after p l e s.objects }

-- an object was asked for, and there is no reply yet
pub record IsAsked (asking : Option Asked) : Type 0 where
  pub asked : Asked
  pub is : asking ≡ Some asked

-- The unit has this life now, and it was made with this value at this place.
pub record IsRead (u life place value : ℕ) (s : Owned) : Type 0 where
  pub alive : IsAlive u life s.lives
  pub asked : Asked
  pub made_is : s.objects.made u ≡ Some (record { life = life; asked = asked })
  pub value_is : slice_get asked.values place ≡ Some value

-- The slot holds this, which that exchange put; and what is put lives.
pub record IsExchange (slot : Slot) (put was : Option ObjId) (by : Option Tag) (lives : Lives) :
    Type 0 where
  pub was_is : was ≡ slot.held
  pub by_is : by ≡ slot.by
  pub alive : IfAlive put lives

abbrev pub OwnedFit : (p l : ℕ) → Entry → Owned → Type 0
OwnedFit p l (entry.Given u life) s = IsAsked (s.objects.asking p l)
OwnedFit p l (entry.GivenAfter u life stamp seen) s = IsAsked (s.objects.asking p l)
OwnedFit p l (entry.Get u life place value) s = IsRead u life place value s
OwnedFit p l (entry.Xchg name put was by) s = IsExchange (s.objects.slots name) put was by s.lives
OwnedFit p l _ s = Unit {0}

-- At the outset no unit has lived, nothing is asked for, and each slot is empty.
abbrev pub nothing_owned : Owned
nothing_owned = record { lives = first_lives; objects = first_objects }

-- Each entry of an order finds the objects and the slots that it names, from the outset.
abbrev pub IsOwned : Order → Type 0
IsOwned order = AllFit owned_after OwnedFit order nothing_owned

-- What a side knows once a life began or ended, and what stays as it was of all other units. (This project's own.)
use Rattle.std.specs.Prelude.{◌≡◌, ◌≢◌, ◌+◌, ◌-◌, ℕ, Option, Some, None, List, eqb, if◌then◌else◌}
use Rattle.bm_journal.specs.declared.ids.ObjId.{ObjId}
use Rattle.bm_journal.specs.declared.ids.Tag.{Tag}
use Rattle.bm_journal.specs.declared.ids.Domain.{Domain}
use Rattle.bm_journal.specs.declared.past.PastCall.{PastCall}
use Rattle.bm_page.specs.declared.units.Seal.{Seal}
use Rattle.bm_page.specs.UnitState.{UnitState}
use Rattle.bm_grace.specs.Known.{Known, Living, Lives}
pub use Rattle.bm_grace.specs.Living.{HasLife, count_in, life_of_unit, recounted, type_in, values_in, with_life, with_references}
use Rattle.bm_grace.specs.Rights.{Rights}
use Rattle.bm_law_order.specs.Graphs.{graphs_after}
use Rattle.bm_world.specs.Contents.{put_at}

-- One more call is counted.
abbrev pub asked_once : Known → Known
asked_once k = record k { objects = record k.objects { asked = k.objects.asked + 1 } }

-- An object of this type was asked for, with these values of its fields, and a unit began its next life for it: there is one reference to it.
abbrev pub life_begun : (type : ℕ) → (values : List ℕ) → UnitState → Known → Known
life_begun type values unit k = record k {
  objects = record {
    lives =
        with_life unit.number
        (Some (life_of_unit type 1 values (record unit { life = unit.life + 1 })))
        k.objects.lives;
    begun = λ n. if eqb unit.number n then unit.life + 1 else k.objects.begun n;
    asked = k.objects.asked + 1;
    slots = k.objects.slots;
    graphs = k.objects.graphs;
  };
}

-- A reference to an object was asked for, and there is one more.
abbrev pub life_acquired : ℕ → Known → Known
life_acquired n k = record k {
  objects =
      record k.objects {
        lives = recounted n (count_in (k.objects.lives n) + 1) k.objects.lives;
        asked = k.objects.asked + 1;
      };
}

-- There is one less.
abbrev pub life_given_up : ℕ → Known → Known
life_given_up n k =
    record k {
      objects =
          record k.objects
          { lives = recounted n (count_in (k.objects.lives n) - 1) k.objects.lives };
    }

-- The slot at a place holds something else, which a call has put there.
abbrev pub slot_exchanged : (place : ℕ) → (put : Option ObjId) → Tag → Known → Known
slot_exchanged place put tag k =
    record k {
      objects =
          record k.objects
          { slots = put_at place (record { held = put; by = Some tag }) k.objects.slots };
    }

-- A call was made on the list or tree at a place.
abbrev pub graph_called : (place : ℕ) → PastCall → Tag → Known → Known
graph_called place call tag k =
    record k
    { objects = record k.objects { graphs = graphs_after place call tag k.objects.graphs } }

-- what is put there, if anything is, lives
abbrev pub PutLives : Lives → Option ObjId → Type 0
PutLives lives None = Unit {0}
PutLives lives (Some o) = (l : Living) × HasLife lives o.unit o.life l

-- A unit lives no more.
abbrev pub life_ended : ℕ → Known → Known
life_ended n k =
    record k { objects = record k.objects { lives = with_life n None k.objects.lives } }

-- Of all units but this one everything is as before.
pub record OthersAsBefore (u : ℕ) (before now : Rights) : Type 0 where
  pub mine : (n : ℕ) → n ≢ u → now.mine n ≡ before.mine n
  pub settled :
      (n life : ℕ) (seal : Option Seal) → n ≢ u
      → now.settled n life seal ≡ before.settled n life seal
  pub due : (n life : ℕ) (seal : Option Seal) → n ≢ u → now.due n life seal ≡ before.due n life seal
  pub ripe :
      (n life : ℕ) (seal : Option Seal) → n ≢ u → now.ripe n life seal ≡ before.ripe n life seal
  pub since : (d : Domain) (x n : ℕ) → n ≢ u → now.since d x n ≡ before.since d x n

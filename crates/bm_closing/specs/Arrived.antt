-- Units that came from an inbox. (This project's own.)
use Rattle.std.specs.Prelude.{◌≡◌, ◌<◌, ℕ, true, false, [], List, ◌++◌, IfSome}
use Rattle.std.specs.List.{All, concat}
use Rattle.std.specs.Option.{option_map}
use Rattle.bm_law.specs.Stands.{times}
use Rattle.bm_page.specs.UnitState.{UnitState}
use Rattle.bm_grace.specs.Known.{Known}
use Rattle.bm_grace.specs.Rights.{Rights}
use Rattle.bm_post.specs.Calls.{IsOf}
use Rattle.bm_law.specs.Inboxes.{Inboxes, on_inbox}
use Rattle.bm_post.specs.Rights.{Holds, IsSettled, numbers}

-- Units are mine, of this class, and may be used again.
pub record Arrived (class : ℕ) (rights : Rights) (units : List UnitState) : Type 0 where
  pub holds : Holds rights units
  pub of_class : All (IsOf class) units
  pub settled : All (IsSettled rights) units

-- the inbox of a class without a parcel
abbrev pub emptied : ℕ → Inboxes → Inboxes
emptied c boxes = on_inbox c (λ parcels. []) boxes

-- All parcels of a class came, behind units that had come before. They weren't mine before, and else the same are mine. Where
-- parcels are told they were these, each holds a unit, and none is left. What is known of grace periods and of objects is as it
-- was.
pub record Came (class : ℕ) (units units' : List UnitState) (rights rights' : Rights)
    (known known' : Known) : Type 0 where
  pub came : List UnitState
  pub units_are : units' ≡ units ++ came
  pub stay : (n : ℕ) → rights.mine n ≡ true → rights'.mine n ≡ true
  pub fresh : (n : ℕ) → 0 < times n (numbers came) → rights.mine n ≡ false
  pub others : (n : ℕ) → times n (numbers came) ≡ 0 → rights'.mine n ≡ rights.mine n
  pub parcels : IfSome known.parcels (λ boxes. numbers came ≡ concat (boxes class))
  pub none_came : IfSome known.parcels (λ boxes. numbers came ≡ [] → boxes class ≡ [])
  pub none_left : known'.parcels ≡ option_map (emptied class) known.parcels
  pub grace : known'.grace ≡ known.grace
  pub objects : known'.objects ≡ known.objects

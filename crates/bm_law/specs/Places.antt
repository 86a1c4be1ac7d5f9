-- Places of units, and the moves of an entry. (The lists are those of struct bpf_mem_cache in kernel/bpf/memalloc.c;
-- stock, hands and parcels are this project's own.)
use Rattle.std.specs.Prelude.{◌≡◌, ◌≢◌, ℕ, ◌+◌, Bool, true, false, ◌&&◌, List, [], ◌∷◌, ◌++◌, length, drop, reverse, Option, Some, None, if◌then◌else◌, eqb}
use Rattle.bm_journal.specs.declared.ids.Place.{Place}
use Rattle.bm_journal.specs.declared.ids.Place.TheVariants as place
use Rattle.bm_journal.specs.declared.entry.Entry.{Entry}
use Rattle.bm_journal.specs.declared.entry.Entry.TheVariants as entry
pub use Rattle.bm_journal.specs.declared.change.Stack.{Stack}
pub use Rattle.bm_journal.specs.declared.change.Stack.TheVariants.{Free, Extra, ExtraDelayed as Extra_delayed, Delayed, First, Ready, Second}
use Rattle.bm_journal.specs.EntryText.{unit_list}
use Rattle.bm_law.specs.State.{Row, State}
use Rattle.bm_law.specs.Lists.{Log, brought, next}
use Rattle.bm_law.specs.Stands.{class_named}

-- How a list is entered: one by one, so that the last unit named ends on top; all at once, so that the first one does,
-- above what stood there; or behind what is there, as into a hand.
pub data Order : Type 0 where
  One_by_one : Order
  Together : Order
  Behind : Order

-- a move of units: where they come from, in the order in which the entry names them, and where they go
pub record Move : Type 0 where
  pub from : List (Place × List ℕ)
  pub to : Place
  pub order : Order

-- units that all come from one place
abbrev pub move : List ℕ → Place → Place → Order → Option Move
move units from to order = Some (record { from = (from, units) ∷ []; to = to; order = order })

-- what a send takes: all of the hand, or all of First where the hand is empty
abbrev pub sent_from : ℕ → ℕ → List ℕ → Place
sent_from p l [] = place.First p
sent_from p l (u ∷ us) = place.Hand p l

-- all lists of a cache in the closing's order, and then what came out of the inbox
abbrev pub swept_from : ℕ → Row ℕ → List ℕ → List (Place × List ℕ)
swept_from p r inbox =
    (place.Free p, r.free) ∷
    (place.Extra p, r.extra) ∷
    (place.Delayed p, r.delayed) ∷
    (place.ExtraDelayed p, r.extra_delayed) ∷
    (place.First p, r.deferred.first) ∷
    (place.Ready p, r.deferred.ready) ∷
    (place.Second p, r.deferred.second) ∷
    (place.Parcel p, inbox) ∷ []

-- The move of an entry of level l of processor p in this state, where `life` is the life that was dropped last at this
-- level. All other entries move no unit.
abbrev pub moves_of : ℕ → ℕ → ℕ → State ℕ → Entry → Option Move
moves_of p l life s (entry.Fill c us) = move (unit_list us) place.Stock (place.Free p) One_by_one
moves_of p l life s (entry.Fetch c want us) =
    move (unit_list us) place.Stock (place.Hand p l) Behind
moves_of p l life s (entry.Pop c u) = move (u ∷ []) (place.Free p) (place.Hand p l) Behind
moves_of p l life s (entry.Ready c u) = move (u ∷ []) (place.Ready p) (place.Hand p l) Behind
moves_of p l life s (entry.Second c u) = move (u ∷ []) (place.Second p) (place.Hand p l) Behind
moves_of p l life s (entry.Push c u) = move (u ∷ []) (place.Hand p l) (place.Free p) Together
moves_of p l life s (entry.Delayed c u) = move (u ∷ []) (place.Hand p l) (place.Delayed p) Together
moves_of p l life s (entry.Put c u) = move (u ∷ []) (place.Hand p l) (place.Extra p) Together
moves_of p l life s (entry.PutDelayed c u) =
    move (u ∷ []) (place.Hand p l) (place.ExtraDelayed p) Together
moves_of p l life s (entry.Given u lives) =
    move (u ∷ []) (place.Hand p l) (place.Live lives) Together
moves_of p l life s (entry.GivenAfter u lives stamp seen) =
    move (u ∷ []) (place.Hand p l) (place.Live lives) Together
moves_of p l life s (entry.Free u home) = move (u ∷ []) (place.Live life) (place.Hand p l) Behind
moves_of p l life s (entry.Delay u home) = move (u ∷ []) (place.Live life) (place.Hand p l) Behind
moves_of p l life s (entry.TakeExtra c us) =
    move (unit_list us) (place.Extra p) (place.Hand p l) Behind
moves_of p l life s (entry.TakeDelayed c us) =
    move (unit_list us) (place.ExtraDelayed p) (place.Delayed p) One_by_one
moves_of p l life s (entry.Batch c us) =
    move (unit_list us) (place.Delayed p) (place.First p) Together
moves_of p l life s (entry.Send c q us) =
    move (unit_list us) (sent_from p l (s.sides l).hand) (place.Parcel q) Together
moves_of p l life s (entry.Receive c us) =
    move (unit_list us) (place.Parcel p) (place.Ready p) Together
moves_of p l life s (entry.BeginSecond c us) =
    move (unit_list us) (place.Ready p) (place.Second p) Together
moves_of p l life s (entry.Return c us) = move (unit_list us) (place.Second p) place.Stock Together
moves_of p l life s (entry.Sweep c us) =
    Some
    (record {
      from = swept_from p (s.rows c) (brought (entry.Sweep c us) s);
      to = place.Second p;
      order = Together;
    })
moves_of p l life s _ = None

-- the units of a move, in the order in which the entry names them
abbrev pub units_of : List (Place × List ℕ) → List ℕ
units_of [] = []
units_of (x ∷ []) = x.1
units_of (x ∷ y ∷ ys) = x.1 ++ units_of (y ∷ ys)

-- the life that the last drop of level l names; `life` before any
abbrev pub dropped_by : Entry → ℕ → ℕ
dropped_by (entry.Drop u life) before = life
dropped_by _ before = before

abbrev pub dropped_life : ℕ → ℕ → Log → ℕ
dropped_life l life [] = life
dropped_life l life (e ∷ es) = dropped_life l (if eqb e.0 l then dropped_by e.1 life else life) es

-- the list of a cache
abbrev pub list_at : {A : Type 0} → Stack → Row A → List A
list_at Free r = r.free
list_at Extra r = r.extra
list_at Extra_delayed r = r.extra_delayed
list_at Delayed r = r.delayed
list_at First r = r.deferred.first
list_at Ready r = r.deferred.ready
list_at Second r = r.deferred.second

abbrev pub place_of : ℕ → Stack → Place
place_of p Free = place.Free p
place_of p Extra = place.Extra p
place_of p Extra_delayed = place.ExtraDelayed p
place_of p Delayed = place.Delayed p
place_of p First = place.First p
place_of p Ready = place.Ready p
place_of p Second = place.Second p

abbrev pub same_place : Place → Place → Bool
same_place place.Stock place.Stock = true
same_place (place.Free p) (place.Free q) = eqb p q
same_place (place.Hand p l) (place.Hand q k) = eqb p q && eqb l k
same_place (place.Extra p) (place.Extra q) = eqb p q
same_place (place.ExtraDelayed p) (place.ExtraDelayed q) = eqb p q
same_place (place.Delayed p) (place.Delayed q) = eqb p q
same_place (place.First p) (place.First q) = eqb p q
same_place (place.Parcel p) (place.Parcel q) = eqb p q
same_place (place.Ready p) (place.Ready q) = eqb p q
same_place (place.Second p) (place.Second q) = eqb p q
same_place (place.Live k) (place.Live n) = eqb k n
same_place _ _ = false

-- how many units a move takes from a place
abbrev pub taken_from : Place → List (Place × List ℕ) → ℕ
taken_from x [] = 0
taken_from x (y ∷ ys) = if same_place y.0 x then length y.1 + taken_from x ys else taken_from x ys

-- a list after these units came
abbrev pub entered : Order → List ℕ → List ℕ → List ℕ
entered One_by_one units xs = reverse units ++ xs
entered Together units xs = units ++ xs
entered Behind units xs = xs ++ units

-- what stands at a place after a move: what the move takes has left at the top, and what goes there has come
abbrev pub moved : Place → Option Move → List ℕ → List ℕ
moved x None xs = xs
moved x (Some m) xs =
    if same_place m.to x then entered m.order (units_of m.from) (drop (taken_from x m.from) xs)
    else drop (taken_from x m.from) xs

-- An entry moves units as the table says: on the lists of the class that it names, in the hand of its level, and nowhere
-- else.
pub record Moves (p l life : ℕ) (e : Entry) (s : State ℕ) : Type 0 where
  pub lists :
      (k : Stack)
      → list_at k ((next s (l, e)).rows (class_named e))
      ≡ moved (place_of p k) (moves_of p l life s e) (list_at k (s.rows (class_named e)))
  pub hand :
      ((next s (l, e)).sides l).hand
      ≡ moved (place.Hand p l) (moves_of p l life s e) (s.sides l).hand
  pub classes :
      (c : ℕ) → c ≢ class_named e → (k : Stack)
      → list_at k ((next s (l, e)).rows c) ≡ list_at k (s.rows c)
  pub levels : (m : ℕ) → m ≢ l → ((next s (l, e)).sides m).hand ≡ (s.sides m).hand

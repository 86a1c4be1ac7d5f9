-- What an entry moves to the stock and from it.
use Rattle.std.specs.Prelude.{◌≡◌, ◌+◌, ℕ, Some, eqb, if◌then◌else◌, true, false, List, [], ◌∷◌, reverse, Bool}
use Rattle.std.proofs.Common.{refl, ap, arith}
use Rattle.bm_journal.specs.EntryText.{unit_list}
use Rattle.bm_journal.specs.declared.entry.Entry.{Entry}
use Rattle.bm_journal.specs.declared.entry.Entry.TheVariants as entry
use Rattle.bm_law.specs.Pages.{prefill}
use Rattle.bm_law.specs.Stands.{times}
use Rattle.bm_law.proofs.Stands.{times-reverse}
use Rattle.bm_law_laid.specs.UnitsOut.{IsSettled, times_out}
use Rattle.bm_law_laid.proofs.Settled.{all-go-back, fetch-gives}
use Rattle.bm_law_lives.specs.Together.{times as times_of}
use Rattle.bm_law_order.specs.Pages.{PagesFit, fetches, pages_after}
use Rattle.bm_page.specs.Stock.{fetched, stocked_at, Stock as StockValue}
use Rattle.bm_law_places.specs.Place.{Inbox, Stock, times_at}
use Rattle.bm_law_places.specs.World.{World, world_after}
use Rattle.bm_law_places.proofs.MoveOf.{move_of, sent_from}
use Rattle.bm_law_places.proofs.Moved.{come, taken}

-- both ways to count are the same
pub counted-so : (u : ℕ) (xs : List ℕ) → times_of u xs ≡ times u xs
counted-so u [] = refl
counted-so u (x ∷ xs) = let more = counted-so u xs in one (eqb u x) more
  where
    one : (here : Bool) {a b : ℕ} → a ≡ b → (if here then a + 1 else a) ≡ (if here then 1 else 0) + b
    one true e = omega (arith, e)
    one false e = omega (arith, e)

-- a unit is in the stock or out
pub in-or-out : (u : ℕ) (pool : StockValue) → (if (stocked_at pool.units u).out then 0 else 1) + times_out u pool ≡ 1
in-or-out u pool = go (stocked_at pool.units u).out
  where
    go : (out : Bool) → (if out then 0 else 1) + (if out then 1 else 0) ≡ 1
    go true = refl
    go false = refl

fetches-so : (u class want : ℕ) (us : List ℕ) (pool : StockValue) → IsSettled pool → us ≡ fetches class want pool →
    (if (stocked_at (fetched class want pool).pool.units u).out then 0 else 1) + times u us ≡ (if (stocked_at pool.units u).out then 0 else 1) + 0
fetches-so u class want us pool settled f =
    let g = (fetch-gives u class want pool settled).out in
    let a = ap (times_of u) f in
    let b = counted-so u us in
    let x = in-or-out u pool in
    let y = in-or-out u (fetched class want pool).pool in
    omega (arith, g, a, b, x, y)

pub stock-balanced : (u p l : ℕ) (e : Entry) (w : World) → IsSettled w.shared.pool → PagesFit p l e w.shared.pool →
    times_at u Stock (world_after p l e w) + taken u Stock (move_of p l e w) ≡ times_at u Stock w + come u Stock (move_of p l e w)
stock-balanced u p l (entry.Fill c us) w settled f = fetches-so u c (prefill c) (unit_list us) w.shared.pool settled f
stock-balanced u p l (entry.Fetch c want us) w settled f = fetches-so u c want (unit_list us) w.shared.pool settled f
stock-balanced u p l (entry.Return c us) w settled f =
    let back = (all-go-back u (reverse (unit_list us)) w.shared.pool settled f).out in
    let a = counted-so u (reverse (unit_list us)) in
    let b = times-reverse u (unit_list us) in
    let x = in-or-out u w.shared.pool in
    let y = in-or-out u (pages_after p l (entry.Return c us) w.shared.pool) in
    omega (arith, back, a, b, x, y)
stock-balanced u p l (entry.Send c to us) w settled f = sends ((w.lists p).sides l).hand
  where
    sends : (hand : List ℕ) → times_at u Stock w + taken u Stock (Some (record { from = sent_from p l c hand; to = Inbox to c; units = unit_list us })) ≡ times_at u Stock w + 0
    sends [] = refl
    sends (v ∷ vs) = refl
stock-balanced u p l _ w settled f = refl

-- the stock stays settled
pub settled-on : (p l : ℕ) (e : Entry) (pool : StockValue) → IsSettled pool → PagesFit p l e pool → IsSettled (pages_after p l e pool)
settled-on p l (entry.Fill c us) pool settled f = (fetch-gives 0 c (prefill c) pool settled).settled
settled-on p l (entry.Fetch c want us) pool settled f = (fetch-gives 0 c want pool settled).settled
settled-on p l (entry.Return c us) pool settled f = (all-go-back 0 (reverse (unit_list us)) pool settled f).settled
settled-on p l _ pool settled f = settled

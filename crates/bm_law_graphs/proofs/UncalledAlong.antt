-- Where no list or tree is called each entry finds what it needs of them, and none changes.
use Rattle.std.proofs.Common.{◌≡◌, ◌∙◌, ℕ, List, [], ◌∷◌, refl}
use Rattle.bm_journal.specs.declared.entry.Entry.{Entry}
use Rattle.bm_journal.specs.declared.entry.Entry.TheVariants as entry
use Rattle.bm_law_order.specs.Orders.{AllFit, Order, over}
use Rattle.bm_law_graphs.specs.Shelves.{Shelved, ShelvedFit, shelved_after}
use Rattle.bm_law_graphs.specs.Uncalled.{CallNone, CallsNone}

record Apart (names : List (List ℕ)) (p l : ℕ) (e : Entry) (s : Shelved) : Type 0 where
  fits : ShelvedFit names p l e s
  histories : (shelved_after names p l e s).shelves.histories ≡ s.shelves.histories
  within : (shelved_after names p l e s).shelves.within ≡ s.shelves.within
  holders : (shelved_after names p l e s).shelves.holders ≡ s.shelves.holders

apart : (names : List (List ℕ)) (p l : ℕ) (e : Entry) (s : Shelved) → CallsNone e → Apart names p l e s
apart names p l (entry.Lock name) s h = absurd h
apart names p l (entry.Unlock name) s h = absurd h
apart names p l (entry.PushFront name u life pos) s h = absurd h
apart names p l (entry.PushBack name u life pos) s h = absurd h
apart names p l (entry.Add name u life pos) s h = absurd h
apart names p l (entry.PushFrontAlready name u life owner pos) s h = absurd h
apart names p l (entry.PushBackAlready name u life owner pos) s h = absurd h
apart names p l (entry.AddAlready name u life owner pos) s h = absurd h
apart names p l (entry.PopFront name item pos) s h = absurd h
apart names p l (entry.PopBack name item pos) s h = absurd h
apart names p l (entry.First name item pos) s h = absurd h
apart names p l (entry.Remove name u life pos) s h = absurd h
apart names p l _ s h = record { fits = (tt, tt, tt); histories = refl; within = refl; holders = refl }

pub uncalled-fits : (names : List (List ℕ)) (o : Order) (s : Shelved) → CallNone o → AllFit (shelved_after names) (ShelvedFit names) o s
uncalled-fits names [] s h = tt
uncalled-fits names (e ∷ o) s h =
    let a = apart names e.processor e.level e.entry s h.0 in (a.fits, uncalled-fits names o (shelved_after names e.processor e.level e.entry s) h.1)

pub uncalled-histories : (names : List (List ℕ)) (o : Order) (s : Shelved) → CallNone o → (over (shelved_after names) o s).shelves.histories ≡ s.shelves.histories
uncalled-histories names [] s h = refl
uncalled-histories names (e ∷ o) s h =
    let a = apart names e.processor e.level e.entry s h.0 in uncalled-histories names o (shelved_after names e.processor e.level e.entry s) h.1 ∙ a.histories

pub uncalled-within : (names : List (List ℕ)) (o : Order) (s : Shelved) → CallNone o → (over (shelved_after names) o s).shelves.within ≡ s.shelves.within
uncalled-within names [] s h = refl
uncalled-within names (e ∷ o) s h =
    let a = apart names e.processor e.level e.entry s h.0 in uncalled-within names o (shelved_after names e.processor e.level e.entry s) h.1 ∙ a.within

-- .. and nobody takes a lock, or gives one back
pub uncalled-holders : (names : List (List ℕ)) (o : Order) (s : Shelved) → CallNone o → (over (shelved_after names) o s).shelves.holders ≡ s.shelves.holders
uncalled-holders names [] s h = refl
uncalled-holders names (e ∷ o) s h =
    let a = apart names e.processor e.level e.entry s h.0 in uncalled-holders names o (shelved_after names e.processor e.level e.entry s) h.1 ∙ a.holders

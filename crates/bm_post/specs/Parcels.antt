-- Parcels that are told, by the numbers of their units, and what calls make of them. (This project's own: the kernel has no
-- inboxes.)
use Rattle.std.specs.Prelude.{ℕ, ◌==◌, if◌then◌else◌, List, [], ◌∷◌, ◌++◌, drop}
pub use Rattle.bm_law.specs.Inboxes.{Inboxes, on_inbox, oldest}

-- units of a class were sent to a processor: where that is me, they are the newest parcel in my inbox of the class
abbrev pub parcel_sent : (to me class : ℕ) → List ℕ → Inboxes → Inboxes
parcel_sent to me class units boxes =
    if (to == me) then on_inbox class (λ parcels. parcels ++ units ∷ []) boxes else boxes

-- the oldest parcel of a class was taken, if there was one
abbrev pub parcel_taken : ℕ → Inboxes → Inboxes
parcel_taken class = on_inbox class (drop 1)

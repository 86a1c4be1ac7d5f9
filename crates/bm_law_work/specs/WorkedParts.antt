-- Worked parts of logs with deferred work, and the lists that they begin with.
use Rattle.std.specs.Prelude.{ℕ, ◌+◌, Option, List, [], ◌∷◌, ◌++◌, take, drop}
use Rattle.bm_journal.specs.declared.ids.Domain.TheVariants.{Plain}
use Rattle.bm_journal.specs.declared.units.Units.TheVariants.{Whole}
use Rattle.bm_journal.specs.declared.entry.Entry.{Entry}
use Rattle.bm_journal.specs.declared.entry.Entry.TheVariants as entry
use Rattle.bm_law.specs.State.{State, on_row, opening}
use Rattle.bm_law.specs.Lists.{Log, after}
use Rattle.bm_law.specs.Phrases.{added}
use Rattle.bm_law.specs.WorkedDeferred.{at, adds}
use Rattle.bm_law_work.specs.Parts.{Part}
use Rattle.bm_law_work.specs.WorkPhrases.{Moved}

-- what stands behind the first n entries of processor 0's log is such a part
abbrev pub IsFrom : ℕ → Part → Log → Type 0
IsFrom n part log = part (after (opening 0) (take n log)) (drop n log)

-- what stands between the first n entries and the last m ones
abbrev pub IsAmong : ℕ → ℕ → Part → Log → Type 0
IsAmong n m part log = part (after (opening 0) (take n log)) (take m (drop n log))

-- processor 0 with these units in Ready and in Second of class 10, which holds units of 4096 bytes
abbrev pub with_lists : List ℕ → List ℕ → State ℕ
with_lists ready second =
    on_row 10 (λ r. record r { deferred = record r.deferred { ready = ready; second = second } })
    (opening 0)

-- a unit comes from a list, and is added to a Free of k
abbrev pub brings : Entry → ℕ → ℕ → List Entry
brings e u k = e ∷ added 10 u (k + 1) 0

-- a fetch of what is wanted, and the additions of what it gave to a Free of k
abbrev pub fetches : ℕ → ℕ → List ℕ → List Entry
fetches want k units = entry.Fetch 10 want (Whole units) ∷ adds 10 k units

-- A refill of three where Ready holds one unit and Second two: the one of Ready comes first.
abbrev pub from_both : Log
from_both =
    at 0
    (brings (entry.Ready 10 5) 5 0 ++ brings (entry.Second 10 9) 9 1
    ++ brings (entry.Second 10 8) 8 2)

abbrev pub second_too_early : Log
second_too_early =
    at 0
    (brings (entry.Second 10 9) 9 0 ++ brings (entry.Ready 10 5) 5 1
    ++ brings (entry.Second 10 8) 8 2)

-- A refill of three where there is one in Ready: one fetch of two, of which the stock has one. Not of three, not with three
-- units though two were wanted, and not left out.
abbrev pub from_stock : Log
from_stock = at 0 (brings (entry.Ready 10 5) 5 0 ++ fetches 2 1 (7 ∷ []))

abbrev pub fetched_too_many : Log
fetched_too_many = at 0 (brings (entry.Ready 10 5) 5 0 ++ fetches 3 1 (7 ∷ []))

abbrev pub brought_too_many : Log
brought_too_many = at 0 (brings (entry.Ready 10 5) 5 0 ++ fetches 2 1 (7 ∷ 6 ∷ 4 ∷ []))

abbrev pub fetched_none : Log
fetched_none = at 0 (brings (entry.Ready 10 5) 5 0)

-- Takes of a drain, with the free counts that they leave.
abbrev pub take_to : ℕ → ℕ → Moved
take_to u k = record { unit = u; count = k; active = 0 }

-- processor 0 with these units in Delayed and Ready of class 1, and these batches in progress
abbrev pub with_batches : List ℕ → Option ℕ → Option ℕ → State ℕ
with_batches units plain tracing =
    on_row 1
    (λ r. record r {
      delayed = units;
      deferred = record r.deferred { ready = units; plain = plain; tracing = tracing };
    })
    (opening 0)

-- a poll of the plain domain that sees a number, and a parcel
abbrev pub sent_at : ℕ → Log
sent_at seen = at 0 (entry.Pass 1 Plain seen ∷ entry.Send 1 0 (Whole (3 ∷ [])) ∷ [])

abbrev pub kept_at : ℕ → Log
kept_at seen = at 0 (entry.Pass 1 Plain seen ∷ [])

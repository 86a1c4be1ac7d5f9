-- Each line is read back from its words.
use Rattle.std.proofs.Common.{◌≡◌, ℕ, zero, suc, ◌<◌, ◌^◌, Bool, true, false, ◌&&◌, not, ◌||◌, List, [], ◌∷◌, Some, length, refl, arith, decimal, lit≤, sym}
use Rattle.std.proofs.lemmas.Bool.Decides.{nat_tests}
use Rattle.std.proofs.lemmas.Slice.Eq.{bytes_eq-Decides}
use Rattle.std.specs.List.{position_or_len, list_any}
use Rattle.std.specs.Prelude.{IsTrue, nat_lt, slice_get}
use Rattle.std.specs.Str.{bytes_eq}
use Rattle.bm_word.specs.Number.{NumbersRoundTrip}
use Rattle.bm_journal.specs.declared.past.PastCall.{PastCall}
use Rattle.bm_journal.specs.declared.past.PastCall.TheVariants as past
use Rattle.bm_journal.specs.declared.total.Total.{Total}
use Rattle.bm_journal.specs.declared.total.Total.TheVariants as total
use Rattle.bm_journal.specs.JournalText.{past_words}
use Rattle.bm_journal.specs.TotalNames.{total_name}
use Rattle.bm_journal.specs.WellFormed.{all_differ, owner_below}
use Rattle.bm_law_text.specs.declared.line.Line.{Line}
use Rattle.bm_law_text.specs.declared.line.Line.TheVariants as line_as
use Rattle.bm_law_text.specs.Kinds.{kind_of}
use Rattle.bm_law_text.specs.Parts.{names, number}
use Rattle.bm_law_text.specs.Reading.{owner_place, past_call, total_words, line_of}
use Rattle.bm_law_text.specs.Lines.{line_head, line_tail}
use Rattle.bm_law_text.specs.Fits.{Each, IsName, PastCallFits, LineFits}
use Rattle.bm_law_text.proofs.PartsBack.{number-decimal, name-back, class-back, id-back, tag-back}
use Rattle.bm_law_text.proofs.EntriesBack.{entry-back}

pub names-back : (ns : List (List ℕ)) → Each IsName ns → names ns ≡ Some ns
unfolding names
names-back [] h = refl
names-back (n ∷ ns) h = rw (name-back n h.0) (rw (names-back ns h.1) refl)

both : (a b : Bool) → (a && b) ≡ true → (a ≡ true) × (b ≡ true)
both true b h = (refl, h)
both false b h = cc

neither : (a b : Bool) → (a || b) ≡ false → (a ≡ false) × (b ≡ false)
neither true b h = cc
neither false b h = (refl, h)

no_not : (a : Bool) → not a ≡ true → a ≡ false
no_not true h = cc
no_not false h = refl

-- the name at a place, where the names differ, is found at that place alone
not_any : (x : List ℕ) (xs : List (List ℕ)) (place : ℕ) (w : List ℕ) → list_any (bytes_eq x) xs ≡ false → slice_get xs place ≡ Some w → bytes_eq x w ≡ false
not_any x [] place w none at = cc
not_any x (y ∷ ys) zero w none at = let same : y ≡ w = cc in rw (← same) ((neither (bytes_eq x y) (list_any (bytes_eq x) ys) none).0)
not_any x (y ∷ ys) (suc place) w none at = not_any x ys place w ((neither (bytes_eq x y) (list_any (bytes_eq x) ys) none).1) at

same_bytes : (x : List ℕ) → bytes_eq x x ≡ true
same_bytes x = (bytes_eq-Decides x x).1 refl

swapped : (x w : List ℕ) → bytes_eq x w ≡ false → bytes_eq w x ≡ false
swapped x w apart =
    let case : (b : Bool) → bytes_eq w x ≡ b → bytes_eq w x ≡ false = λ b.
    elim b as (λ b. bytes_eq w x ≡ b → bytes_eq w x ≡ false) [
      | true ↦ λ e. let same : w ≡ x = (bytes_eq-Decides w x).0 e in let yes : bytes_eq x w ≡ true = (bytes_eq-Decides x w).1 (sym same) in cc
      | false ↦ λ e. e
    ]
    in case (bytes_eq w x) refl

owner_at : (maps : List (List ℕ)) (place : ℕ) (w : List ℕ) → IsTrue (all_differ maps) → slice_get maps place ≡ Some w → position_or_len (λ m. bytes_eq w m) maps ≡ place
owner_at [] place w differ at = cc
owner_at (x ∷ xs) zero w differ at = let same : x ≡ w = cc in rw (← same) (rw (same_bytes x) refl)
owner_at (x ∷ xs) (suc place) w differ at =
    let d = both (not (list_any (bytes_eq x) xs)) (all_differ xs) differ in
    rw (swapped x w (not_any x xs place w (no_not (list_any (bytes_eq x) xs) d.0) at)) (omega (arith, owner_at xs place w d.1 at))

owner_word : (maps : List (List ℕ)) (place : ℕ) → place < length maps → (w : List ℕ) × (slice_get maps place ≡ Some w)
owner_word [] place lt = absurd (omega arith)
owner_word (x ∷ xs) zero lt = (x, refl)
owner_word (x ∷ xs) (suc place) lt = owner_word xs place (omega arith)

owner-back : (maps : List (List ℕ)) (place : ℕ) (w : List ℕ) → IsTrue (all_differ maps) → place < length maps → place < 2 ^ 8 → slice_get maps place ≡ Some w → owner_place maps w ≡ Some place
unfolding owner_place
owner-back maps place w differ lt small at =
    let here : position_or_len (λ m. bytes_eq w m) maps ≡ place = owner_at maps place w differ at in
    let yes : nat_lt place (length maps) ≡ true = grind (arith, nat_tests) in
    let fits : nat_lt place (2 ^ 8) ≡ true = grind (arith, nat_tests) in
    rw here (rw yes (rw fits refl))

-- ---- histories

below : (a b : ℕ) → IsTrue (nat_lt a b) → a < b
below a b h = grind (arith, nat_tests)

pub past_call-back : NumbersRoundTrip → (maps : List (List ℕ)) (call : PastCall) → IsTrue (all_differ maps) → PastCallFits call → IsTrue (owner_below (length maps) call) → past_call maps (past_words maps call) ≡ Some call
unfolding kind_of
past_call-back rt maps (past.PushFront o) differ fits owned = rw (id-back rt o fits) refl
past_call-back rt maps (past.PushBack o) differ fits owned = rw (id-back rt o fits) refl
past_call-back rt maps (past.Add o key) differ fits owned = rw (id-back rt o fits.0) (rw (number-decimal rt (2 ^ 32) key fits.1 (lit≤ tt)) refl)
past_call-back rt maps (past.PushFrontAlready o other) differ fits owned =
    let lt = below other (length maps) owned in
    let w = owner_word maps other lt in
    let back = owner-back maps other w.0 differ lt fits.1 w.1 in
    rw w.1 (rw (id-back rt o fits.0) (rw back refl))
past_call-back rt maps (past.PushBackAlready o other) differ fits owned =
    let lt = below other (length maps) owned in
    let w = owner_word maps other lt in
    let back = owner-back maps other w.0 differ lt fits.1 w.1 in
    rw w.1 (rw (id-back rt o fits.0) (rw back refl))
past_call-back rt maps (past.AddAlready o key other) differ fits owned =
    let lt = below other (length maps) owned in
    let w = owner_word maps other lt in
    let back = owner-back maps other w.0 differ lt fits.2 w.1 in
    rw w.1 (rw (id-back rt o fits.0) (rw (number-decimal rt (2 ^ 32) key fits.1 (lit≤ tt)) (rw back refl)))
past_call-back rt maps (past.PopFront o) differ fits owned = rw (id-back rt o fits) refl
past_call-back rt maps past.PopFrontNone differ fits owned = refl
past_call-back rt maps (past.PopBack o) differ fits owned = rw (id-back rt o fits) refl
past_call-back rt maps past.PopBackNone differ fits owned = refl
past_call-back rt maps (past.First o) differ fits owned = rw (id-back rt o fits) refl
past_call-back rt maps past.FirstNone differ fits owned = refl
past_call-back rt maps (past.Remove o) differ fits owned = rw (id-back rt o fits) refl

-- ---- totals

total-back : NumbersRoundTrip → (t : Total) (v : ℕ) → v < 2 ^ 64 → total_words (total_name t ∷ decimal v ∷ []) ≡ Some (line_as.Total t v)
total-back rt total.Steps v lt = rw (number-decimal rt (2 ^ 64) v lt (lit≤ tt)) refl
total-back rt total.Given v lt = rw (number-decimal rt (2 ^ 64) v lt (lit≤ tt)) refl
total-back rt total.Empty v lt = rw (number-decimal rt (2 ^ 64) v lt (lit≤ tt)) refl
total-back rt total.Busy v lt = rw (number-decimal rt (2 ^ 64) v lt (lit≤ tt)) refl
total-back rt total.Last v lt = rw (number-decimal rt (2 ^ 64) v lt (lit≤ tt)) refl
total-back rt total.Still v lt = rw (number-decimal rt (2 ^ 64) v lt (lit≤ tt)) refl
total-back rt total.Acquired v lt = rw (number-decimal rt (2 ^ 64) v lt (lit≤ tt)) refl
total-back rt total.Exchanged v lt = rw (number-decimal rt (2 ^ 64) v lt (lit≤ tt)) refl
total-back rt total.Pushed v lt = rw (number-decimal rt (2 ^ 64) v lt (lit≤ tt)) refl
total-back rt total.Already v lt = rw (number-decimal rt (2 ^ 64) v lt (lit≤ tt)) refl
total-back rt total.Taken v lt = rw (number-decimal rt (2 ^ 64) v lt (lit≤ tt)) refl
total-back rt total.None v lt = rw (number-decimal rt (2 ^ 64) v lt (lit≤ tt)) refl
total-back rt total.Raised v lt = rw (number-decimal rt (2 ^ 64) v lt (lit≤ tt)) refl
total-back rt total.Worked v lt = rw (number-decimal rt (2 ^ 64) v lt (lit≤ tt)) refl
total-back rt total.Fetched v lt = rw (number-decimal rt (2 ^ 64) v lt (lit≤ tt)) refl
total-back rt total.Returned v lt = rw (number-decimal rt (2 ^ 64) v lt (lit≤ tt)) refl
total-back rt total.Plain v lt = rw (number-decimal rt (2 ^ 64) v lt (lit≤ tt)) refl
total-back rt total.Tracing v lt = rw (number-decimal rt (2 ^ 64) v lt (lit≤ tt)) refl
total-back rt total.Handlers v lt = rw (number-decimal rt (2 ^ 64) v lt (lit≤ tt)) refl

-- ---- the whole

pub line-back : NumbersRoundTrip → (maps : List (List ℕ)) (l : Line) → IsTrue (all_differ maps) → LineFits maps l → line_of maps (line_head l ∷ line_tail maps l) ≡ Some l
unfolding number
line-back rt maps (line_as.Size p g) differ fits = rw (number-decimal rt (2 ^ 8) p fits.0 (lit≤ tt)) (rw (number-decimal rt (2 ^ 16) g fits.1 (lit≤ tt)) refl)
line-back rt maps (line_as.Types ns) differ fits = rw (names-back ns fits) refl
line-back rt maps (line_as.Maps ns) differ fits = rw (names-back ns fits.0) (rw fits.1 refl)
line-back rt maps (line_as.Scripts ns) differ fits = rw (names-back ns fits) refl
line-back rt maps (line_as.Class c m) differ fits = rw (class-back rt c fits.0) (rw (number-decimal rt (2 ^ 32) m.low fits.1.0 (lit≤ tt)) (rw (number-decimal rt (2 ^ 32) m.high fits.1.1 (lit≤ tt)) (rw (number-decimal rt (2 ^ 32) m.batch fits.1.2 (lit≤ tt)) refl)))
line-back rt maps (line_as.Processor p) differ fits = rw (number-decimal rt (2 ^ 64) p fits (lit≤ tt)) refl
line-back rt maps (line_as.Entry l e) differ fits =
    let lt : l < 4 = omega (arith, fits.0) in
    rw (number-decimal rt 4 l lt (lit≤ tt)) (rw (entry-back rt e fits.1 fits.2) refl)
line-back rt maps (line_as.Graph n) differ fits = rw (name-back n fits) refl
line-back rt maps (line_as.Past p call) differ fits = rw (number-decimal rt (2 ^ 64) p fits.0 (lit≤ tt)) (rw (tag-back rt call.tag fits.1.0) (rw (past_call-back rt maps call.call differ fits.1.1 fits.2) refl))
line-back rt maps (line_as.Total t v) differ fits = total-back rt t v fits

-- A processor that has been opened, in its turn; and the stock that openings leave.
use Rattle.std.proofs.Common.{◌≡◌, ◌<◌, ◌≤◌, ◌+◌, ℕ, zero, suc, true, List, [], ◌∷◌, ◌++◌, length, get_or, refl, sym, ap, subst, ◌∙◌, Option, Some, None, arith, inl, inr, slice_get, length-append}
use Rattle.std.proofs.Math.ListN.{set}
use Rattle.std.specs.Prelude.{◌⊎◌}
use Rattle.bm_journal.specs.Recording.{Kept as Recorded}
use Rattle.bm_lang.specs.declared.scenario.Parts.{Parts}
use Rattle.bm_lang.specs.Fine.{HasConditions}
use Rattle.bm_page.specs.declared.units.Stocked.{Stocked}
use Rattle.bm_page.specs.Stock.{Stock, fetched, given, next_unit, stocked_at}
use Rattle.bm_page.specs.UnitState.{UnitState}
use Rattle.bm_page.proofs.FetchLemmas.{fetched-next, fetched-none, fetched-zero}
use Rattle.bm_law_scenario.specs.Declared.{declared_in}
use Rattle.bm_law_scenario.specs.Fills.{after_fills, opening_stock, prefill}
use Rattle.bm_cache.specs.Shown.{shown}
use Rattle.bm_cache.proofs.Opened.{fine-opened}
use Rattle.bm_work.specs.DeskTests.{tests_by}
use Rattle.bm_world.specs.LivingState.{LivingState, begun_at, known_living, rights_living}
use Rattle.bm_world.specs.Slots.{AllEmpty}
use Rattle.bm_world.specs.declared.slots.Object.{Object}
use Rattle.bm_world.specs.Standings.{standing_at}
use Rattle.bm_world.specs.declared.standing.Standing.{Standing}
use Rattle.bm_world.specs.declared.standing.Standing.TheVariants.{Nothing}
use Rattle.bm_exec_levels.specs.Ready.{IsProgram}
use Rattle.bm_exec_levels.specs.declared.kept.Kept.{Kept}
use Rattle.bm_exec_levels.specs.declared.processor.Processor.{Processor}
use Rattle.bm_exec_levels.specs.declared.program.Program.{Program}
use Rattle.bm_run.specs.Asked.{in_its_turn}
use Rattle.bm_run.specs.Filling.{Filling, IsUnborn, filling, units_in}
use Rattle.bm_run.specs.Opened.{IsOpen}
use Rattle.bm_run.specs.Openings.{AreFilled, AreNew, FilledInTurn, IsFilled}
use Rattle.bm_run.proofs.Bounds.{Within}
use Rattle.bm_run.proofs.OpeningLemmas.{all-begins, dated, fills-suit, living_side, lowered, no-numbers, no-words, none-live, stamped, stocked-empty}
use Rattle.bm_run.proofs.Started.{IsFresh, begins-enough, fresh-at, left-is}

-- ---- the stock

-- what a filling leaves is what its fills leave
pub filling-leaves : (cs : List ℕ) (pool : Stock) → (filling cs pool).pool ≡ after_fills cs pool
filling-leaves [] pool = refl
filling-leaves (c ∷ cs) pool = filling-leaves cs (fetched c (prefill c) pool).pool

-- a unit that is out stays out when one is written that is out
set-out : (units : List Stocked) (n : ℕ) (s : Stocked) (m : ℕ) → s.out ≡ true → (stocked_at units m).out ≡ true → (stocked_at (set units n s) m).out ≡ true
set-out [] n s m z h = h
set-out (u ∷ us) zero s zero z h = z
set-out (u ∷ us) zero s (suc m) z h = h
set-out (u ∷ us) (suc n) s zero z h = h
set-out (u ∷ us) (suc n) s (suc m) z h = set-out us n s m z h

-- .. when one is given
given-out : (c n : ℕ) (pool : Stock) (m : ℕ) → (stocked_at pool.units m).out ≡ true → (stocked_at (given c n pool).units m).out ≡ true
unfolding given
given-out c n pool m h = set-out pool.units n (record (stocked_at pool.units n) { out = true }) m refl h

-- .. in a fetch
next-out : (c want : ℕ) (pool : Stock) (m : ℕ) (o : Option ℕ) → next_unit c pool ≡ o → (stocked_at pool.units m).out ≡ true → ((n : ℕ) → (stocked_at (fetched c want (given c n pool)).pool.units m).out ≡ true) → (stocked_at (fetched c (suc want) pool).pool.units m).out ≡ true
next-out c want pool m None e h f = rw (fetched-none c (suc want) pool e) h
next-out c want pool m (Some n) e h f = rw (fetched-next c want n pool e) (f n)

fetched-out : (c want : ℕ) (pool : Stock) (m : ℕ) → (stocked_at pool.units m).out ≡ true → (stocked_at (fetched c want pool).pool.units m).out ≡ true
fetched-out c zero pool m h = rw (fetched-zero c 0 pool refl) h
fetched-out c (suc want) pool m h = next-out c want pool m (next_unit c pool) refl h (λ n. fetched-out c want (given c n pool) m (given-out c n pool m h))

-- .. and while caches are filled
filling-out : (cs : List ℕ) (pool : Stock) (m : ℕ) → (stocked_at pool.units m).out ≡ true → (stocked_at (filling cs pool).pool.units m).out ≡ true
filling-out [] pool m h = h
filling-out (c ∷ cs) pool m h = filling-out cs (fetched c (prefill c) pool).pool m (fetched-out c (prefill c) pool m h)

-- new units stay so while others are filled in
pub still-new : (cs : List ℕ) (pool now : Stock) (us : List UnitState) → now ≡ (filling cs pool).pool → AreNew pool us → AreNew now us
still-new cs pool now us e h = record {
  unlived = h.unlived;
  out = λ i d lt. subst (λ (x : Stock). (stocked_at x.units (get_or us i d).number).out ≡ true) (sym e) (filling-out cs pool (get_or us i d).number (h.out i d lt));
}

-- ---- one processor after the other

-- an element of a longer list is one of those before, or the new one
at-last : {A : Type 0} (xs : List A) (x : A) (i : ℕ) (y : A) → slice_get (xs ++ x ∷ []) i ≡ Some y → (slice_get xs i ≡ Some y) ⊎ ((i ≡ length xs) × (y ≡ x))
at-last [] x zero y e = inr (refl, cc)
at-last [] x (suc i) y e = absurd (cc)
at-last (z ∷ xs) x zero y e = inl e
at-last (z ∷ xs) x (suc i) y e = elim (at-last xs x i y e) [ inl h ↦ inl h | inr h ↦ inr (ap suc h.0, h.1) ]

-- one processor more has filled its caches
pub one-more : (s : Parts) (classes : List ℕ) (kept more : List Kept) (own : Kept) (p : ℕ) (pool now : Stock) → AreFilled s classes kept pool → length kept ≡ p → more ≡ kept ++ own ∷ [] →
    IsFilled s p (filling classes pool).fills own → AreNew now (units_in (filling classes pool).fills) → now ≡ (filling classes pool).pool → IsUnborn now.units → AreFilled s classes more now
one-more s classes kept more own p pool now h many e filled new left born =
    let stock : pool ≡ opening_stock classes s.pages p = h.stock ∙ ap (opening_stock classes s.pages) many in
    let last : FilledInTurn s classes now p own = record {
      filled = subst (λ (x : Stock). IsFilled s p (filling classes x).fills own) stock filled;
      units = subst (λ (x : Stock). AreNew now (units_in (filling classes x).fills)) stock new;
    } in
    let long : length more ≡ suc p = ap length e ∙ (length-append kept (own ∷ []) ∙ omega (arith, many)) in
    record {
      each = λ i k f. elim (at-last kept own i k (subst (λ (z : List Kept). slice_get z i ≡ Some k) e f)) [
        | inl was ↦ (let x = h.each i k was in record { filled = x.filled; units = still-new classes pool now _ left x.units })
        | inr at ↦ subst (λ j. FilledInTurn s classes now j k) (sym (at.0 ∙ many)) (subst (FilledInTurn s classes now p) (sym at.1) last)
      ];
      stock = left ∙ (filling-leaves classes pool ∙ (ap (after_fills classes) stock ∙ sym (ap (opening_stock classes s.pages) long)));
      unborn = born;
    }

-- ---- the processor

-- A processor whose caches were filled with new units is open in its turn, where nobody has done anything on what processors share.
pub opens : (n i : ℕ) (p : Program) (f : Filling) (pool : Stock) (slots : List (Option Object)) (begun : List ℕ) (standings : List Standing) (kept : Kept) →
    i < n → n ≤ 8 → IsProgram p → HasConditions p.scenario.now → Within p.scenario.now i → IsFilled p.scenario.now i f.fills kept → AreNew pool (units_in f.fills) → IsUnborn pool.units → AllEmpty slots → ((u : ℕ) → begun_at begun u ≡ 0) → ((u : ℕ) → standing_at standings u ≡ Nothing) →
    IsOpen n i p f (in_its_turn kept (living_side n i pool slots begun standings p.scenario.now.maps))
opens n i p f pool slots begun standings kept lt most fits fine limits k new born empty none stands =
    let s = p.scenario.now in
    let maps = s.maps in
    let fs = f.fills in
    let world : LivingState = living_side n i pool slots begun standings maps in
    let m : Processor LivingState = in_its_turn kept world in
    let o = k.caches in
    let none-asked : 0 + kept.settled ≡ 0 = (let z = k.settled in omega (arith, z)) in
    let fresh : IsFresh s i m = record {
      planned = k.planned;
      scripts = k.scripts;
      running = k.running;
      room_running = k.room_running;
      bound = k.bound;
      tables = k.tables;
      room_tables = k.room_tables;
      inside = k.inside;
      locked = k.locked;
      home = o.processor;
      processor = refl;
      words = no-words n i pool slots begun standings maps;
      asked = none-asked;
      calls = k.calls;
      stocked = stocked-empty (declared_in s) (known_living world).objects refl refl (none-live slots empty);
      begun = none;
      lives = none-live slots empty;
    } in
    record {
      sound = record {
        at = fresh-at p i m fs fits fine limits fresh o.told;
        fine = fine-opened (λ (r : Recorded). r.told) (λ r. r.counted) i n (tests_by (rights_living world)) fs kept.caches o (fills-suit n i pool slots begun standings maps fs empty none stands born new) lt most;
        dated = dated i (tests_by (rights_living world)) fs (shown kept.caches) o.lists;
        stamped = stamped i fs (shown kept.caches) o.lists;
        begins = λ d. let b = begins-enough s i m _ limits fresh (all-begins n i pool slots begun standings maps d (omega (arith, lt, most))) in omega (arith, b);
      };
      told = o.told;
      lowered = lowered i fs (shown kept.caches) o.lists;
      none = none-live slots empty;
      begun = none;
      asked = none-asked;
      numbers = no-numbers n i pool slots begun standings maps;
      words = no-words n i pool slots begun standings maps;
      processors = refl;
      processor = refl;
      planned = left-is s i m fresh;
      running = k.running;
      inside = k.inside;
      locked = k.locked;
    }

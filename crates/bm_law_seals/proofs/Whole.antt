-- Each unit that an order gives, from the outset on.
use Rattle.std.specs.Prelude.{◌≡◌, ◌<◌, ◌≤◌, ℕ, List, [], ◌∷◌, ◌++◌, Some, None, get_or, length}
use Rattle.std.proofs.Common.{◌∙◌, ap, arith, eq-eqb, inl, inr, ne_eqb, refl, subst, sym}
use Rattle.std.proofs.lemmas.Bool.Decides.{eqb_tells}
use Rattle.bm_journal.specs.declared.entry.Entry.{Entry}
use Rattle.bm_journal.specs.declared.entry.Entry.TheVariants as entry
use Rattle.bm_law.specs.Lists.{Log, next}
use Rattle.bm_law.specs.Spans.{own_entries}
use Rattle.bm_law.specs.State.{State}
use Rattle.bm_law_laid.specs.LivesEnded.{HasBegun}
use Rattle.bm_law_laid.specs.OrderOf.{AllBelow, IsOrderOf}
use Rattle.bm_law_laid.proofs.Each.{each-log}
use Rattle.bm_law_laid.proofs.LivesOnce.{lives-counted}
use Rattle.bm_law_lives.specs.Lives.{LivesLaw, lives_given}
use Rattle.bm_law_lives.specs.StampLaw.{GivenFits, SealsFit, delayed_parts}
use Rattle.bm_law_lives.specs.Together.{EachLog}
use Rattle.bm_law_order.specs.Lives.{Dropping, Lives as LivesNow, LivesFit, first_lives, lives_after}
use Rattle.bm_law_order.specs.Orders.{AllFit, Event, Order, over, part_of}
use Rattle.bm_law_order.specs.Seals.{GivesNo, IsSealed, SealFits, Waiting, nobody_waits, waiting_after}
use Rattle.bm_law_places.specs.Placed.{IsWellPlaced}
use Rattle.bm_law_places.specs.World.{AllFound, World, outset, world_after}
use Rattle.bm_law_places.proofs.Standing.{standing-on, standing-outset}
use Rattle.bm_law_seals.specs.Answered.{AreAnswered, ArePut}
use Rattle.bm_law_seals.specs.Batches.{BatchFits, EndsGiving, GivesNoMore, SweepsLast, WaitsInBatches}
use Rattle.bm_law_seals.proofs.Along.{Ends, Freed, GivenOne, Lives, NotSweep, Now, Step, Unborn, Waited, Waits, does, ends-step, freed-step, lives-step, other-step, own-step, unborn-step, waited-step}
use Rattle.bm_law_seals.proofs.Born.{all-given, born-on, first-none}
use Rattle.bm_law_seals.proofs.Past.{Past, own-part, past-on}
use Rattle.bm_law_seals.proofs.Under.{Under, dropping-other, unders-on}

-- each entry gives the unit as its logs tell
abbrev AllGiven : ℕ → List Log → Order → Type 0
AllGiven u logs [] = Unit {0}
AllGiven u logs (e ∷ o) = GivenOne u logs e.entry × AllGiven u logs o

none-one : (u : ℕ) (logs : List Log) (e : Entry) → GivesNo e → GivenOne u logs e
none-one u logs (entry.Given v life) h = absurd h
none-one u logs (entry.GivenAfter v life x n) h = absurd h
none-one u logs _ h = tt

none-more : (u : ℕ) (logs : List Log) (o : Order) → GivesNoMore o → AllGiven u logs o
none-more u logs [] h = tt
none-more u logs (e ∷ o) h = (none-one u logs e.entry h.0, none-more u logs o h.1)

found-lives : (o : Order) (w : World) → AllFound o w → AllFit lives_after LivesFit o w.shared.lives
found-lives [] w h = tt
found-lives (e ∷ o) w h = (h.0.shared.lives, found-lives o (world_after e.processor e.level e.entry w) h.1)

-- a sweep ends all giving, and other entries go on
after-entry : (u : ℕ) (logs : List Log) (e : Entry) (o : Order) → EndsGiving e o → (NotSweep e → AllGiven u logs o) → AllGiven u logs o
after-entry u logs (entry.Sweep c us) o h k = none-more u logs o h
after-entry u logs _ o h k = k tt

module _ (u : ℕ) (logs : List Log) (law : LivesLaw logs) (first_none : delayed_parts u 0 logs ≡ []) (answered : (q : ℕ) → q < length logs → AreAnswered (get_or logs q [])) where
  abbrev Unders : Order → LivesNow → Type 0
  Unders o lives = (q : ℕ) → q < length logs → (j : ℕ) (d : Dropping) → lives.dropping q j ≡ Some d → Under (get_or logs q []) j d (part_of q o)

  abbrev Puts : Order → Type 0
  Puts o = (q j : ℕ) → ArePut (own_entries j (part_of q o))

  unders-next : (e : Event) (o : Order) (lives : LivesNow) → LivesFit e.processor e.level e.entry lives → Past logs (e ∷ o) → Unders (e ∷ o) lives → Unders o (lives_after e.processor e.level e.entry lives)
  unders-next e o lives f past unders q lt j d h = elim (eqb_tells e.processor q) [
    | inr y ↦
        (let before : lives.dropping q j ≡ Some d = sym (dropping-other e.processor e.level q j e.entry lives (rw (ne_eqb q e.processor (λ s. y.1 (sym s))) refl)) ∙ h in
        rw y.0 at (unders q lt j d before))
    | inl y ↦
        (let P : ℕ → Type 0 = λ k. k < length logs → (lives_after e.processor e.level e.entry lives).dropping k j ≡ Some d → Under (get_or logs k []) j d (part_of k o) in
        subst P y.1 (λ lt h.
        let p = past e.processor lt in
        unders-on (get_or logs e.processor []) e.processor e.level (part_of e.processor o) lives (answered e.processor lt) e.entry p.0 (p.1 ∙ ap (λ z. p.0 ++ z) (own-part e o)) f
        (λ i x g. subst (Under (get_or logs e.processor []) i x) (own-part e o) (unders e.processor lt i x g)) j d h) lt h)
  ]

  own-puts : (e : Event) (o : Order) → Puts (e ∷ o) → ArePut (e.entry ∷ own_entries e.level (part_of e.processor o))
  own-puts e o puts = rw (eq-eqb e.level e.level refl) at (subst (λ z. ArePut (own_entries e.level z)) (own-part e o) (puts e.processor e.level))

  puts-on : (e : Event) (o : Order) → Puts (e ∷ o) → Puts o
  puts-on e o puts q j = elim (eqb_tells e.processor q) [
    | inr y ↦ rw y.0 at (puts q j)
    | inl y ↦ elim (eqb_tells e.level j) [
      | inr z ↦ rw (y.0, z.0) at (puts q j)
      | inl z ↦ (rw (y.0, z.0) at (puts q j)).1
    ]
  ]

  same-on : (e : Event) (w : World) (m : Waiting) → ((q : ℕ) → m.lists q ≡ w.lists q) → (q : ℕ) → (waiting_after e.processor e.level e.entry m).lists q ≡ (world_after e.processor e.level e.entry w).lists q
  same-on e w m same q = elim (eqb_tells q e.processor) [
    | inl y ↦ rw y.0 (ap (λ (s : State ℕ). next s (e.level, e.entry)) (same e.processor ∙ ap w.lists (sym y.1)))
    | inr y ↦ rw y.0 (same q)
  ]

  along : (o : Order) (w : World) (m : Waiting) → AllFound o w → IsWellPlaced w → AllFit waiting_after SealFits o m → AllFit waiting_after BatchFits o m → SweepsLast o → ((q : ℕ) → m.lists q ≡ w.lists q) → AllBelow (length logs) o → Past logs o → Unders o w.shared.lives → Puts o → HasBegun u w.shared.lives → (over lives_after o w.shared.lives).begun u ≡ length (lives_given u logs) → Now u logs (λ q. part_of q o) w m → AllGiven u logs o
  along [] w m found well seals batches swept same below past unders puts born total now = tt
  along (e ∷ o) w m found well seals batches swept same below past unders puts born total now =
      let p = e.processor in
      let l = e.level in
      let counts = lives-counted u (e ∷ o) w.shared.lives (found-lives (e ∷ o) w found) in
      let most : w.shared.lives.begun u ≤ length (lives_given u logs) = omega (arith, counts, total) in
      let s = step most now in (
        s.0,
        after-entry u logs e.entry o swept.0 (λ n. along o (world_after p l e.entry w) (waiting_after p l e.entry m) found.1 (standing-on p l e.entry w well found.0) seals.1 batches.1 swept.1 (same-on e w m same) below.1 (past-on logs e o past) (unders-next e o w.shared.lives found.0.shared.lives past unders) (puts-on e o puts) (born-on u p l e.entry w.shared.lives born) total (s.1 n)),
      )
    where
      own-unders : (j : ℕ) (d : Dropping) → w.shared.lives.dropping e.processor j ≡ Some d → Under (get_or logs e.processor []) j d ((e.level, e.entry) ∷ part_of e.processor o)
      own-unders j d h = subst (Under (get_or logs e.processor []) j d) (own-part e o) (unders e.processor below.0 j d h)

      step : (most : w.shared.lives.begun u ≤ length (lives_given u logs)) → Now u logs (λ q. part_of q (e ∷ o)) w m → Step u logs law first_none e.processor e.level e.entry o w m found.0 (well.placed u) seals.0 batches.0 same below.0 own-unders (own-puts e o puts) born most
      step most (Unborn b h k) = unborn-step u logs law first_none e.processor e.level e.entry o w m found.0 (well.placed u) seals.0 batches.0 same below.0 own-unders (own-puts e o puts) born most b h k (does u e.processor e.level e.entry w.shared.lives)
      step most (Lives h k) = lives-step u logs law first_none e.processor e.level e.entry o w m found.0 (well.placed u) seals.0 batches.0 same below.0 own-unders (own-puts e o puts) born most h k (does u e.processor e.level e.entry w.shared.lives)
      step most (Ends q j d is hu he hl pos k) = ends-step u logs law first_none e.processor e.level e.entry o w m found.0 (well.placed u) seals.0 batches.0 same below.0 own-unders (own-puts e o puts) born most q j d is hu he hl pos k (does u e.processor e.level e.entry w.shared.lives)
      step most (Freed h k pos plain) = freed-step u logs law first_none e.processor e.level e.entry o w m found.0 (well.placed u) seals.0 batches.0 same below.0 own-unders (own-puts e o puts) born most h k pos plain (does u e.processor e.level e.entry w.shared.lives)
      step most (Waited x n part h k pos delay f) = waited-step u logs law first_none e.processor e.level e.entry o w m found.0 (well.placed u) seals.0 batches.0 same below.0 own-unders (own-puts e o puts) born most x n part h k pos delay f (does u e.processor e.level e.entry w.shared.lives)
      step most (Waits q part k pos delay st) = elim (eqb_tells e.processor q) [
        | inl y ↦ own-step u logs law first_none e.processor e.level e.entry o w m found.0 (well.placed u) seals.0 batches.0 same below.0 own-unders (own-puts e o puts) born most q part k pos delay (part_of q (e ∷ o)) st (sym y.1) (rw y.0 refl) (does u e.processor e.level e.entry w.shared.lives)
        | inr y ↦ other-step u logs law first_none e.processor e.level e.entry o w m found.0 (well.placed u) seals.0 batches.0 same below.0 own-unders (own-puts e o puts) born most q part k pos delay (part_of q (e ∷ o)) st (λ s. y.1 (sym s)) (rw y.0 refl) (does u e.processor e.level e.entry w.shared.lives)
      ]

-- ---- all units, and each log

given-fits : (logs : List Log) (e : Entry) → ((u : ℕ) → GivenOne u logs e) → GivenFits logs e
given-fits logs (entry.Given u life) h = h u refl
given-fits logs (entry.GivenAfter u life x n) h = h u refl
given-fits logs _ h = tt

part-fits : (logs : List Log) (p : ℕ) (o : Order) → ((u : ℕ) → AllGiven u logs o) → SealsFit logs (part_of p o)
part-fits logs p [] h = tt
part-fits logs p (e ∷ o) h =
    let rest = part-fits logs p o (λ u. (h u).1) in
    elim (eqb_tells e.processor p) [
      | inl y ↦ rw y.0 (given-fits logs e.entry (λ u. (h u).0), rest)
      | inr y ↦ rw y.0 rest
    ]

pub seals-fit : (processors pages : ℕ) (logs : List Log) (o : Order) → IsOrderOf logs o → AllFound o (outset processors pages) → IsSealed o → WaitsInBatches o → LivesLaw logs → EachLog (λ p log. SealsFit logs log) logs
seals-fit processors pages logs o is found sealed waits law =
    let w : World = outset processors pages in
    let lives = found-lives o w found in
    let none : (u : ℕ) → delayed_parts u 0 logs ≡ [] = λ u. first-none u logs o first_lives tt lives is.parts in
    let whole : (q : ℕ) → q < length logs → AreAnswered (get_or logs q []) = λ q lt. subst AreAnswered (is.parts q lt) (waits.answered q) in
    let all : (u : ℕ) → AllGiven u logs o = λ u. along u logs law (none u) whole o w nobody_waits found (standing-outset processors pages) sealed waits.batches waits.swept (λ q. refl) is.below
    (λ q lt. ([], sym (is.parts q lt))) (λ q lt j d h. absurd (none-some d h)) waits.put tt (all-given u logs o is lives) (Unborn refl (record { none = refl; ended = λ p l. refl }) refl) in
    each-log (λ p log. SealsFit logs log) logs (λ p lt. subst (SealsFit logs) (is.parts p lt) (part-fits logs p o all))
  where
    none-some : (d : Dropping) → None ≡ Some d → ⊥
    none-some d e = cc

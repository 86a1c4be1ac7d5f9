-- Which inboxes are empty along an order: those of processors that aren't there, and of classes that nobody sends.
use Rattle.std.specs.Prelude.{◌≢◌, ◌≤◌, ◌&&◌, eqb, if◌then◌else◌}
use Rattle.std.proofs.Common.{◌≡◌, ◌<◌, ℕ, Bool, true, false, List, [], ◌∷◌, ◌++◌, arith, drop, refl, sym, ◌∙◌, ap, subst, inl, inr, eq-eqb, ne_eqb}
use Rattle.std.proofs.lemmas.Bool.Decides.{eqb_tells}
use Rattle.bm_journal.specs.EntryText.{unit_list}
use Rattle.bm_journal.specs.declared.entry.Entry.{Entry}
use Rattle.bm_journal.specs.declared.entry.Entry.TheVariants as entry
use Rattle.bm_law.specs.Alone.{AllAt, at_level}
use Rattle.bm_law.specs.Lists.{Log}
use Rattle.bm_law.specs.Spans.{own_entries}
use Rattle.bm_law.specs.State.{opening}
use Rattle.bm_law.proofs.Alone.{at-own}
use Rattle.bm_law_laid.specs.OrderOf.{AllBelow}
use Rattle.bm_law_order.specs.Orders.{AllFit, Event, Order, over, part_of}
use Rattle.bm_law_order.specs.Parcels.{Boxes, BoxesFit, boxes_after, on_box}
use Rattle.bm_law_work.proofs.Each.{AllOf}
use Rattle.bm_lang.specs.declared.scenario.Parts.{Parts}
use Rattle.bm_due.specs.Standing.{HandlersStand}
use Rattle.bm_law_scenario.specs.CallEntries.{IsOfHandler}
use Rattle.bm_law_scenario.specs.Grammar.{Front}
use Rattle.bm_law_scenario.specs.Handlers.{HandlersDone}
use Rattle.bm_law_scenario.specs.Opened.{opened_classes}
use Rattle.bm_law_scenario.proofs.EachLevel.{above-map, handlers-above}
use Rattle.bm_law_scenario.proofs.FrontLaws.{front-has}
use Rattle.bm_law_scenario.proofs.PartLaws.{among}
use Rattle.bm_law_logs.proofs.Front.{AllSends, sends-above}
use Rattle.bm_law_logs.proofs.QuietEntries.{IsQuiet}
use Rattle.bm_law_logs.proofs.Sends.{AllSendOf, SendsOf, front-sends}
use Rattle.bm_run.proofs.Closes.{IsLate}

-- ---- processors that aren't there

empty-other : (p q c k : ℕ) (f : List (List ℕ) → List (List ℕ)) (m : Boxes) → q ≢ p → m q k ≡ [] → on_box p c f m q k ≡ []
empty-other p q c k f m ne e = rw (ne_eqb q p ne) e

empty-less : (p q c k : ℕ) (f : List (List ℕ) → List (List ℕ)) (m : Boxes) → f [] ≡ [] → m q k ≡ [] → on_box p c f m q k ≡ []
empty-less p q c k f m none e = elim (eqb q p && eqb k c) as (λ b. (if b then f (m q k) else m q k) ≡ []) [ true ↦ ap f e ∙ none | false ↦ e ]

beyond-step : (n p l : ℕ) (e : Entry) (m : Boxes) (q c : ℕ) → n ≤ q → BoxesFit n p l e m → m q c ≡ [] → boxes_after p l e m q c ≡ []
beyond-step n p l (entry.Send k to us) m q c le f e = empty-other to q k c (λ parcels. parcels ++ unit_list us ∷ []) m (λ z. absurd (let h = f.there in omega (arith, h, le, z))) e
beyond-step n p l (entry.Receive k us) m q c le f e = empty-less p q k c (drop 1) m refl e
beyond-step n p l (entry.Sweep k us) m q c le f e = empty-less p q k c (λ parcels. []) m refl e
beyond-step n p l _ m q c le f e = e

pub beyond : (n q c : ℕ) → n ≤ q → (o : Order) (m : Boxes) → AllFit boxes_after (BoxesFit n) o m → m q c ≡ [] → over boxes_after o m q c ≡ []
beyond n q c le [] m f e = e
beyond n q c le (x ∷ o) m f e = beyond n q c le o (boxes_after x.processor x.level x.entry m) f.1 (beyond-step n x.processor x.level x.entry m q c le f.0 e)

-- ---- classes that nobody sends

-- a parcel that is sent isn't of this class
abbrev pub NotSent : ℕ → Entry → Type 0
NotSent c (entry.Send k to us) = c ≢ k
NotSent c _ = Unit {0}

abbrev pub NoneSends : ℕ → Log → Type 0
NoneSends c [] = Unit {0}
NoneSends c (e ∷ log) = NotSent c e.1 × NoneSends c log

abbrev pub OrderSendsNone : ℕ → Order → Type 0
OrderSendsNone c [] = Unit {0}
OrderSendsNone c (e ∷ o) = NotSent c e.entry × OrderSendsNone c o

sends-append : (c : ℕ) (a b : Log) → NoneSends c a → NoneSends c b → NoneSends c (a ++ b)
sends-append c [] b h k = k
sends-append c (e ∷ a) b h k = (h.0, sends-append c a b h.1 k)

empty-class : (p q c k : ℕ) (f : List (List ℕ) → List (List ℕ)) (m : Boxes) → k ≢ c → m q k ≡ [] → on_box p c f m q k ≡ []
empty-class p q c k f m ne e = elim (eqb_tells q p) [
  | inl y ↦ rw (y.0, ne_eqb k c ne) e
  | inr y ↦ rw y.0 e
]

unsent-step : (c p l : ℕ) (e : Entry) (m : Boxes) → NotSent c e → ((q : ℕ) → m q c ≡ []) → (q : ℕ) → boxes_after p l e m q c ≡ []
unsent-step c p l (entry.Send k to us) m ne h q = empty-class to q k c (λ parcels. parcels ++ unit_list us ∷ []) m ne (h q)
unsent-step c p l (entry.Receive k us) m ne h q = empty-less p q k c (drop 1) m refl (h q)
unsent-step c p l (entry.Sweep k us) m ne h q = empty-less p q k c (λ parcels. []) m refl (h q)
unsent-step c p l _ m ne h q = h q

pub unsent : (c : ℕ) (o : Order) (m : Boxes) → OrderSendsNone c o → ((q : ℕ) → m q c ≡ []) → (q : ℕ) → over boxes_after o m q c ≡ []
unsent c [] m s h q = h q
unsent c (e ∷ o) m s h q = unsent c o (boxes_after e.processor e.level e.entry m) s.1 (unsent-step c e.processor e.level e.entry m s.0 h) q

-- what holds of the logs holds of the order
own-first : (c : ℕ) (e : Event) (o : Order) → NoneSends c (part_of e.processor (e ∷ o)) → NotSent c e.entry
own-first c e o h = (let k : NoneSends c ((e.level, e.entry) ∷ part_of e.processor o) = subst (λ b. NoneSends c (if b then (e.level, e.entry) ∷ part_of e.processor o else part_of e.processor o)) (eq-eqb e.processor e.processor refl) h in k.0)

behind-first : (c q : ℕ) (e : Event) (o : Order) → NoneSends c (part_of q (e ∷ o)) → NoneSends c (part_of q o)
behind-first c q e o h = by (eqb e.processor q) h
  where
    by : (b : Bool) → NoneSends c (if b then (e.level, e.entry) ∷ part_of q o else part_of q o) → NoneSends c (part_of q o)
    by true k = k.1
    by false k = k

pub order-sends : (n c : ℕ) (o : Order) → AllBelow n o → ((q : ℕ) → q < n → NoneSends c (part_of q o)) → OrderSendsNone c o
order-sends n c [] below h = tt
order-sends n c (e ∷ o) below h = (own-first c e o (h e.processor below.0), order-sends n c o below.1 (λ q lt. behind-first c q e o (h q lt)))

-- ---- the log of one processor

late-sends : (c : ℕ) (e : Entry) → IsLate e → NotSent c e
late-sends c (entry.Send k to us) h = absurd h
late-sends c _ h = tt

all-late-send : (c : ℕ) (es : List Entry) → AllOf IsLate es → NoneSends c (at_level 0 es)
all-late-send c [] h = tt
all-late-send c (e ∷ es) h = (late-sends c e h.0, all-late-send c es h.1)

late-log-sends : (c : ℕ) (log : Log) → AllAt 0 log → AllOf IsLate (own_entries 0 log) → NoneSends c log
late-log-sends c log at h = subst (NoneSends c) (sym (at-own 0 log at)) (all-late-send c (own_entries 0 log) h)

other-sends : (cs : List ℕ) (c : ℕ) (e : Entry) → among c cs ≡ false → SendsOf cs e → NotSent c e
other-sends cs c (entry.Send k to us) none h = λ same. absurd (let x : among c cs ≡ true = subst (λ j. among j cs ≡ true) (sym same) h in cc)
other-sends cs c _ none h = tt

front-sends-none : (cs : List ℕ) (c : ℕ) (log : Log) → among c cs ≡ false → AllSends cs log → NoneSends c log
front-sends-none cs c [] none h = tt
front-sends-none cs c (e ∷ log) none h = (other-sends cs c e.1 none h.0, front-sends-none cs c log none h.1)

handler-quiet : (e : Entry) → IsOfHandler e → IsQuiet e
handler-quiet (entry.Send c to us) h = absurd h
handler-quiet (entry.Receive c us) h = absurd h
handler-quiet (entry.Sweep c us) h = absurd h
handler-quiet _ h = tt

-- The log of a processor whose front runs its scripts, behind whose end what is given up and late entries stand, sends no class that no type uses.
pub log-sends : (s : Parts) (p c : ℕ) (front given late : Log) → among c (opened_classes s.types) ≡ false → HandlersStand s p front → HandlersDone s p front → Front s p (opening p) front → NoneSends c given → AllAt 0 late → AllOf IsLate (own_entries 0 late) → NoneSends c (((front ++ (0, entry.Ended) ∷ []) ++ given) ++ late)
log-sends s p c front given late none stand done is gives at h =
    let cs : List ℕ = opened_classes s.types in
    let own : AllSendOf cs (own_entries 0 front) = front-has s (AllSendOf cs) (front-sends s) p (opening p) front is in
    let sends : AllSends cs front = sends-above cs front (above-map IsOfHandler IsQuiet handler-quiet front (handlers-above s p front stand done)) own in
    sends-append c ((front ++ (0, entry.Ended) ∷ []) ++ given) late (sends-append c (front ++ (0, entry.Ended) ∷ []) given (sends-append c front ((0, entry.Ended) ∷ []) (front-sends-none cs c front none sends) (tt, tt)) gives) (late-log-sends c late at h)

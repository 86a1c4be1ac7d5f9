-- What a log that fits the law of parcels sends, and what it takes out of its inboxes.
use Rattle.std.proofs.Common.{◌≡◌, ◌≢◌, ℕ, ◌+◌, ◌++◌, List, [], ◌∷◌, drop, refl, sym, ◌∙◌, ap, subst, arith, eq-eqb, ne_eqb, inl, inr}
use Rattle.std.specs.List.{concat}
use Rattle.std.proofs.lemmas.List.{append-nil}
use Rattle.std.proofs.lemmas.List.Folds.{concat-append}
use Rattle.std.proofs.lemmas.Bool.Decides.{eqb_tells}
use Rattle.bm_journal.specs.declared.entry.Entry.{Entry}
use Rattle.bm_journal.specs.declared.entry.Entry.TheVariants as entry
use Rattle.bm_journal.specs.EntryText.{unit_list}
use Rattle.bm_law.specs.State.{State, opening}
use Rattle.bm_law.specs.Lists.{Log, brought, next}
use Rattle.bm_law.specs.Stands.{times, class_named}
use Rattle.bm_law.proofs.Stands.{times-append}
use Rattle.bm_law.specs.Inboxes.{Inboxes, inboxes_after, oldest}
use Rattle.bm_law_scenario.specs.Parcels.{ParcelFits, ParcelLaw, ParcelsFit, no_parcels}
use Rattle.bm_law_lives.specs.Together.{beside, named_in}
use Rattle.bm_law_lives.specs.Returns.{in_class, sent_to, unpacked, unpacked_by}
use Rattle.bm_law_logs.specs.UnitsMoved.{arrived_units, sent_units}

-- ---- the inbox of the class that an entry names, and the others

last-parcel : (u : ℕ) (parcels : List (List ℕ)) (us : List ℕ) → times u (concat (parcels ++ us ∷ [])) ≡ times u (concat parcels) + times u us
last-parcel u parcels us =
    ap (times u) (concat-append parcels (us ∷ [])) ∙ times-append u (concat parcels) (us ++ []) ∙ ap (λ v. times u (concat parcels) + times u v) (append-nil us)

first-parcel : (u : ℕ) (parcels : List (List ℕ)) → times u (concat parcels) ≡ times u (concat (drop 1 parcels)) + times u (oldest parcels)
first-parcel u [] = refl
first-parcel u (parcel ∷ parcels) = omega (arith, times-append u parcel (concat parcels))

own-inbox : (p u : ℕ) (e : Entry) (s : State ℕ) (boxes : Inboxes) → ParcelFits p e s boxes →
    times u (concat (inboxes_after p e boxes (class_named e))) + times u (arrived_units e s) ≡ times u (concat (boxes (class_named e))) + times u (sent_units e)
own-inbox p u (entry.Send c to us) s boxes h = rw (eq-eqb to p h, eq-eqb c c refl) (omega (arith, last-parcel u (boxes c) (unit_list us)))
own-inbox p u (entry.Receive c us) s boxes h = rw (eq-eqb c c refl) (omega (arith, first-parcel u (boxes c), ap (times u) h))
own-inbox p u (entry.Sweep c us) s boxes h = rw (eq-eqb c c refl) (omega (arith, ap (times u) h))
own-inbox p u _ s boxes h = refl

other-inbox : (p k : ℕ) (e : Entry) (s : State ℕ) (boxes : Inboxes) → ParcelFits p e s boxes → k ≢ class_named e → inboxes_after p e boxes k ≡ boxes k
other-inbox p k (entry.Send c to us) s boxes h d = rw (eq-eqb to p h, ne_eqb k c d) refl
other-inbox p k (entry.Receive c us) s boxes h d = rw (ne_eqb k c d) refl
other-inbox p k (entry.Sweep c us) s boxes h d = rw (ne_eqb k c d) refl
other-inbox p k _ s boxes h d = refl

-- ---- the inbox of one class

later : (a b x y s v w : ℕ) → y + a ≡ x + s → b ≡ y + w → v ≡ a + b → v ≡ x + (s + w)
later a b x y s v w p q r = omega (arith, p, q, r)

past-none : (a x s : ℕ) → a ≡ x + s → x ≡ 0 → a ≡ s
past-none a x s p q = omega (arith, p, q)

beside-same : (c : ℕ) (us : List ℕ) → beside c (in_class c us) ≡ us
beside-same c [] = refl
beside-same c (u ∷ us) = rw (eq-eqb c c refl) (ap (λ v. u ∷ v) (beside-same c us))

beside-other : (c d : ℕ) (us : List ℕ) → c ≢ d → beside c (in_class d us) ≡ []
beside-other c d [] n = refl
beside-other c d (u ∷ us) n = rw (ne_eqb c d n) (beside-other c d us n)

beside-append : (c : ℕ) (v w : List (ℕ × ℕ)) → beside c (v ++ w) ≡ beside c v ++ beside c w
beside-append c [] w = refl
beside-append c (x ∷ v) w =
    elim (eqb_tells c x.0) [
      | inl y ↦ rw y.0 (ap (λ z. x.1 ∷ z) (beside-append c v w))
      | inr y ↦ rw y.0 (beside-append c v w)
    ]

sent-own : (p : ℕ) (e : Entry) (s : State ℕ) (boxes : Inboxes) → ParcelFits p e s boxes → beside (class_named e) (sent_to p e) ≡ sent_units e
sent-own p (entry.Send c to us) s boxes h = rw (eq-eqb to p h) (beside-same c (unit_list us))
sent-own p _ s boxes h = refl

sent-other : (p k : ℕ) (e : Entry) (s : State ℕ) (boxes : Inboxes) → ParcelFits p e s boxes → k ≢ class_named e → beside k (sent_to p e) ≡ []
sent-other p k (entry.Send c to us) s boxes h d = rw (eq-eqb to p h) (beside-other k c (unit_list us) d)
sent-other p k _ s boxes h d = refl

unpacked-own : (e : Entry) (s : State ℕ) → beside (class_named e) (unpacked e s) ≡ arrived_units e s
unpacked-own (entry.Receive c us) s = beside-same c (unit_list us)
unpacked-own (entry.Sweep c us) s = beside-same c (brought (entry.Sweep c us) s)
unpacked-own _ s = refl

unpacked-other : (k : ℕ) (e : Entry) (s : State ℕ) → k ≢ class_named e → beside k (unpacked e s) ≡ []
unpacked-other k (entry.Receive c us) s d = beside-other k c (unit_list us) d
unpacked-other k (entry.Sweep c us) s d = beside-other k c (brought (entry.Sweep c us) s) d
unpacked-other k _ s d = refl

class-entry : (p k u : ℕ) (e : Entry) (s : State ℕ) (boxes : Inboxes) → ParcelFits p e s boxes →
    times u (concat (inboxes_after p e boxes k)) + times u (beside k (unpacked e s)) ≡ times u (concat (boxes k)) + times u (beside k (sent_to p e))
class-entry p k u e s boxes h =
    let now : Inboxes = inboxes_after p e boxes in
    let P : ℕ → Type 0 = λ k. times u (concat (now k)) + times u (beside k (unpacked e s)) ≡ times u (concat (boxes k)) + times u (beside k (sent_to p e)) in
    elim (eqb_tells k (class_named e)) [
      | inl y ↦ subst P (sym y.1) (rw (unpacked-own e s, sent-own p e s boxes h) (own-inbox p u e s boxes h))
      | inr y ↦ rw (unpacked-other k e s y.1, sent-other p k e s boxes h y.1) (ap (λ v. times u (concat v) + 0) (other-inbox p k e s boxes h y.1))
    ]

class-log : (p k u : ℕ) (log : Log) (s : State ℕ) (boxes : Inboxes) → ParcelsFit p s boxes log →
    times u (beside k (unpacked_by s log)) ≡ times u (concat (boxes k)) + times u (beside k (named_in (sent_to p) log))
class-log p k u [] s boxes h = ap (λ v. times u (concat v) + 0) (sym (h k))
class-log p k u (e ∷ es) s boxes h =
    later _ _ _ _ _ _ _ (class-entry p k u e.1 s boxes h.0) (class-log p k u es (next s e) (inboxes_after p e.1 boxes) h.1)
    (ap (times u) (beside-append k (unpacked e.1 s) (unpacked_by (next s e) es)) ∙ times-append u (beside k (unpacked e.1 s)) (beside k (unpacked_by (next s e) es)))
    ∙ ap (λ x. times u (concat (boxes k)) + x) (sym (ap (times u) (beside-append k (sent_to p e.1) (named_in (sent_to p) es)) ∙ times-append u (beside k (sent_to p e.1)) (beside k (named_in (sent_to p) es))))

-- what is sent of a class arrives as often
pub unpacked-sent : (p k u : ℕ) (log : Log) → ParcelLaw p log → times u (beside k (unpacked_by (opening p) log)) ≡ times u (beside k (named_in (sent_to p) log))
unpacked-sent p k u log h = past-none _ _ _ (class-log p k u log (opening p) no_parcels h) refl

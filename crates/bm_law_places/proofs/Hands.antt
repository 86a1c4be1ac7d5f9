-- What an entry moves to a hand and from it.
use Rattle.std.specs.Prelude.{◌≡◌, ◌+◌, ℕ, eqb, if◌then◌else◌, Bool, true, false, List, [], ◌∷◌, take}
use Rattle.std.proofs.Common.{refl, ap, arith, inl, inr, eqb-true}
use Rattle.std.proofs.lemmas.Bool.Decides.{eqb_tells}
use Rattle.bm_journal.specs.EntryText.{unit_list}
use Rattle.bm_journal.specs.declared.entry.Entry.{Entry}
use Rattle.bm_journal.specs.declared.entry.Entry.TheVariants as entry
use Rattle.bm_law.specs.Effect.{sent}
use Rattle.bm_law.specs.Lists.{Names, next, sends}
use Rattle.bm_law.specs.Stands.{times}
use Rattle.bm_law.specs.State.{Side, State, with_side}
use Rattle.bm_law.proofs.Stands.{times-append, times-take-drop}
use Rattle.bm_law_places.specs.Place.{Hand, Inbox, times_at}
use Rattle.bm_law_places.specs.World.{World, world_after}
use Rattle.bm_law_places.proofs.Caches.{other-names}
use Rattle.bm_law_places.proofs.MoveOf.{move_of, sent_from}
use Rattle.bm_law_places.proofs.Moved.{come, moves, taken}

-- ---- one hand changes

module _ (u j l : ℕ) (h : Side ℕ) (s : State ℕ) where
  hand-takes : (n : ℕ) → times u h.hand + n ≡ times u (s.sides l).hand → times u ((with_side l h s).sides j).hand + (if eqb j l then n else 0) ≡ times u (s.sides j).hand + 0
  hand-takes n e = elim (eqb_tells j l) [
    | inl y ↦ rw y.0 (let same = ap (λ i. times u (s.sides i).hand) y.1 in omega (arith, e, same))
    | inr y ↦ rw y.0 refl
  ]

  hand-gets : (n : ℕ) → times u h.hand ≡ times u (s.sides l).hand + n → times u ((with_side l h s).sides j).hand + 0 ≡ times u (s.sides j).hand + (if eqb j l then n else 0)
  hand-gets n e = elim (eqb_tells j l) [
    | inl y ↦ rw y.0 (let same = ap (λ i. times u (s.sides i).hand) y.1 in omega (arith, e, same))
    | inr y ↦ rw y.0 refl
  ]

  hand-keeps : times u h.hand ≡ times u (s.sides l).hand → times u ((with_side l h s).sides j).hand + 0 ≡ times u (s.sides j).hand + 0
  hand-keeps e = elim (eqb_tells j l) [
    | inl y ↦ rw y.0 (let same = ap (λ i. times u (s.sides i).hand) y.1 in omega (arith, e, same))
    | inr y ↦ rw y.0 refl
  ]

-- all of the hand goes, where there is anything in it
abbrev hand_sent : (u j l : ℕ) → List ℕ → List ℕ → ℕ
hand_sent u j l [] us = 0
hand_sent u j l (v ∷ vs) us = if eqb j l then times u us else 0

send-takes : (u j k l : ℕ) (s : State ℕ) (hand us : List ℕ) → (s.sides l).hand ≡ hand → us ≡ sends hand (s.rows k).deferred.first →
    times u ((sent k l hand s).sides j).hand + hand_sent u j l hand us ≡ times u (s.sides j).hand + 0
send-takes u j k l s [] us is e = refl
send-takes u j k l s (v ∷ vs) us is e = hand-takes u j l _ s (times u us) (let a = ap (times u) e in let b = ap (times u) is in omega (arith, a, b))

-- ---- the hand of a level, at the processor of the entry

-- how often an entry of level l takes a unit from the hands of its processor, and brings it there
abbrev hand_taken : (u j l : ℕ) → Entry → State ℕ → ℕ
hand_taken u j l (entry.Push k v) s = if eqb j l then times u (v ∷ []) else 0
hand_taken u j l (entry.Delayed k v) s = if eqb j l then times u (v ∷ []) else 0
hand_taken u j l (entry.Put k v) s = if eqb j l then times u (v ∷ []) else 0
hand_taken u j l (entry.PutDelayed k v) s = if eqb j l then times u (v ∷ []) else 0
hand_taken u j l (entry.Given v life) s = if eqb j l then times u (v ∷ []) else 0
hand_taken u j l (entry.GivenAfter v life stamp seen) s = if eqb j l then times u (v ∷ []) else 0
hand_taken u j l (entry.Send k to us) s = hand_sent u j l (s.sides l).hand (unit_list us)
hand_taken u j l _ s = 0

abbrev hand_come : (u j l : ℕ) → Entry → ℕ
hand_come u j l (entry.Fetch k want us) = if eqb j l then times u (unit_list us) else 0
hand_come u j l (entry.Pop k v) = if eqb j l then times u (v ∷ []) else 0
hand_come u j l (entry.Ready k v) = if eqb j l then times u (v ∷ []) else 0
hand_come u j l (entry.Second k v) = if eqb j l then times u (v ∷ []) else 0
hand_come u j l (entry.TakeExtra k us) = if eqb j l then times u (unit_list us) else 0
hand_come u j l (entry.Free v home) = if eqb j l then times u (v ∷ []) else 0
hand_come u j l (entry.Delay v home) = if eqb j l then times u (v ∷ []) else 0
hand_come u j l _ = 0

own-hand : (u j l : ℕ) (e : Entry) (s : State ℕ) → Names l e s → times u ((next s (l, e)).sides j).hand + hand_taken u j l e s ≡ times u (s.sides j).hand + hand_come u j l e
own-hand u j l (entry.Free v home) s h = hand-gets u j l _ s _ (omega (arith, times-append u (s.sides l).hand (v ∷ [])))
own-hand u j l (entry.Delay v home) s h = hand-gets u j l _ s _ (omega (arith, times-append u (s.sides l).hand (v ∷ [])))
own-hand u j l (entry.Enter k a) s h = hand-keeps u j l _ s refl
own-hand u j l (entry.Pop k v) s h = hand-gets u j l _ s _ (omega (arith, times-append u (s.sides l).hand (take 1 (s.rows k).free), ap (times u) h))
own-hand u j l (entry.Push k v) s h = hand-takes u j l _ s _ (omega (arith, times-take-drop u (s.sides l).hand, ap (times u) h))
own-hand u j l (entry.Count k n) s h = hand-keeps u j l _ s refl
own-hand u j l (entry.Delayed k v) s h = hand-takes u j l _ s _ (omega (arith, times-take-drop u (s.sides l).hand, ap (times u) h))
own-hand u j l (entry.Look k n) s h = hand-keeps u j l _ s refl
own-hand u j l (entry.Put k v) s h = hand-takes u j l _ s _ (omega (arith, times-take-drop u (s.sides l).hand, ap (times u) h.0))
own-hand u j l (entry.Lost k) s h = hand-keeps u j l _ s refl
own-hand u j l (entry.LookDelayed k n) s h = hand-keeps u j l _ s refl
own-hand u j l (entry.PutDelayed k v) s h = hand-takes u j l _ s _ (omega (arith, times-take-drop u (s.sides l).hand, ap (times u) h.0))
own-hand u j l (entry.LostDelayed k) s h = hand-keeps u j l _ s refl
own-hand u j l (entry.Given v life) s h = hand-takes u j l _ s _ (omega (arith, times-take-drop u (s.sides l).hand, ap (times u) h))
own-hand u j l (entry.GivenAfter v life stamp seen) s h = hand-takes u j l _ s _ (omega (arith, times-take-drop u (s.sides l).hand, ap (times u) h))
own-hand u j l (entry.Ready k v) s h = hand-gets u j l _ s _ (omega (arith, times-append u (s.sides l).hand (take 1 (s.rows k).deferred.ready), ap (times u) h))
own-hand u j l (entry.Second k v) s h = hand-gets u j l _ s _ (omega (arith, times-append u (s.sides l).hand (take 1 (s.rows k).deferred.second), ap (times u) h))
own-hand u j l (entry.Fetch k want us) s h = hand-gets u j l _ s _ (omega (arith, times-append u (s.sides l).hand (unit_list us)))
own-hand u j l (entry.TakeExtra k us) s h = hand-gets u j l _ s _ (omega (arith, times-append u (s.sides l).hand (s.rows k).extra, ap (times u) h))
own-hand u j l (entry.Send k to us) s h = send-takes u j k l s (s.sides l).hand (unit_list us) refl h.1
own-hand u j l _ s h = refl

-- ---- of any processor

taken-own : (u p l q j : ℕ) (e : Entry) (w : World) → eqb q p ≡ true → taken u (Hand q j) (move_of p l e w) ≡ hand_taken u j l e (w.lists p)
taken-own u p l q j (entry.Push k v) w is = rw is refl
taken-own u p l q j (entry.Delayed k v) w is = rw is refl
taken-own u p l q j (entry.Put k v) w is = rw is refl
taken-own u p l q j (entry.PutDelayed k v) w is = rw is refl
taken-own u p l q j (entry.Given v life) w is = rw is refl
taken-own u p l q j (entry.GivenAfter v life stamp seen) w is = rw is refl
taken-own u p l q j (entry.Send k to us) w is = go ((w.lists p).sides l).hand
  where
    go : (hand : List ℕ) → taken u (Hand q j) (moves (sent_from p l k hand) (Inbox to k) (unit_list us)) ≡ hand_sent u j l hand (unit_list us)
    go [] = refl
    go (v ∷ vs) = rw is refl
taken-own u p l q j _ w is = refl

taken-other : (u p l q j : ℕ) (e : Entry) (w : World) → eqb q p ≡ false → taken u (Hand q j) (move_of p l e w) ≡ 0
taken-other u p l q j (entry.Push k v) w is = rw is refl
taken-other u p l q j (entry.Delayed k v) w is = rw is refl
taken-other u p l q j (entry.Put k v) w is = rw is refl
taken-other u p l q j (entry.PutDelayed k v) w is = rw is refl
taken-other u p l q j (entry.Given v life) w is = rw is refl
taken-other u p l q j (entry.GivenAfter v life stamp seen) w is = rw is refl
taken-other u p l q j (entry.Send k to us) w is = go ((w.lists p).sides l).hand
  where
    go : (hand : List ℕ) → taken u (Hand q j) (moves (sent_from p l k hand) (Inbox to k) (unit_list us)) ≡ 0
    go [] = refl
    go (v ∷ vs) = rw is refl
taken-other u p l q j _ w is = refl

come-own : (u p l q j : ℕ) (e : Entry) (w : World) → eqb q p ≡ true → come u (Hand q j) (move_of p l e w) ≡ hand_come u j l e
come-own u p l q j (entry.Fetch k want us) w is = rw is refl
come-own u p l q j (entry.Pop k v) w is = rw is refl
come-own u p l q j (entry.Ready k v) w is = rw is refl
come-own u p l q j (entry.Second k v) w is = rw is refl
come-own u p l q j (entry.TakeExtra k us) w is = rw is refl
come-own u p l q j (entry.Free v home) w is = rw is refl
come-own u p l q j (entry.Delay v home) w is = rw is refl
come-own u p l q j _ w is = refl

come-other : (u p l q j : ℕ) (e : Entry) (w : World) → eqb q p ≡ false → come u (Hand q j) (move_of p l e w) ≡ 0
come-other u p l q j (entry.Fetch k want us) w is = rw is refl
come-other u p l q j (entry.Pop k v) w is = rw is refl
come-other u p l q j (entry.Ready k v) w is = rw is refl
come-other u p l q j (entry.Second k v) w is = rw is refl
come-other u p l q j (entry.TakeExtra k us) w is = rw is refl
come-other u p l q j (entry.Free v home) w is = rw is refl
come-other u p l q j (entry.Delay v home) w is = rw is refl
come-other u p l q j _ w is = refl

hands-balanced : (u p l q j : ℕ) (e : Entry) (w : World) → Names l e (w.lists p) → (here : Bool) → eqb q p ≡ here →
    times u ((if here then next (w.lists q) (l, e) else w.lists q).sides j).hand + taken u (Hand q j) (move_of p l e w) ≡ times u ((w.lists q).sides j).hand + come u (Hand q j) (move_of p l e w)
hands-balanced u p l q j e w f true is =
    let same : q ≡ p = eqb-true q p is in
    other-names _ _ _ _ _ _ _ _
    (ap (λ z. times u ((next (w.lists z) (l, e)).sides j).hand) same)
    (ap (λ z. times u ((w.lists z).sides j).hand) same)
    (taken-own u p l q j e w is)
    (come-own u p l q j e w is)
    (own-hand u j l e (w.lists p) f)
hands-balanced u p l q j e w f false is = other-names _ _ _ _ _ _ _ _ refl refl (taken-other u p l q j e w is) (come-other u p l q j e w is) refl

pub hand-balanced : (u p l q j : ℕ) (e : Entry) (w : World) → Names l e (w.lists p) →
    times_at u (Hand q j) (world_after p l e w) + taken u (Hand q j) (move_of p l e w) ≡ times_at u (Hand q j) w + come u (Hand q j) (move_of p l e w)
hand-balanced u p l q j e w f = hands-balanced u p l q j e w f (eqb q p) refl

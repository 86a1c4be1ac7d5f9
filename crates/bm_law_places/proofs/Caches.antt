-- What an entry moves to the lists of a cache and from them.
use Rattle.std.specs.Prelude.{◌≡◌, ◌+◌, ℕ, eqb, if◌then◌else◌, Bool, true, false, List, [], ◌∷◌, take, reverse}
use Rattle.std.specs.List.{concat}
use Rattle.std.proofs.Common.{refl, ap, arith, inl, inr, eqb-true}
use Rattle.std.proofs.lemmas.Bool.Decides.{eqb_tells}
use Rattle.bm_journal.specs.EntryText.{unit_list}
use Rattle.bm_journal.specs.declared.ids.Domain.{Domain}
use Rattle.bm_journal.specs.declared.ids.Domain.TheVariants.{Plain, Tracing}
use Rattle.bm_journal.specs.declared.entry.Entry.{Entry}
use Rattle.bm_journal.specs.declared.entry.Entry.TheVariants as entry
use Rattle.bm_law.specs.Effect.{sent, stamped}
use Rattle.bm_law.specs.Lists.{Names, brought, next, sends}
use Rattle.bm_law.specs.Stands.{class_named, in_row, times}
use Rattle.bm_law.specs.State.{Row, State, seven_lists, with_row}
use Rattle.bm_law.proofs.Stands.{times-append, times-reverse, times-seven, times-take-drop}
use Rattle.bm_law_places.specs.Place.{Cache, Inbox, times_at}
use Rattle.bm_law_places.specs.World.{Finds, SweepsInbox, World, world_after}
use Rattle.bm_law_places.proofs.MoveOf.{move_of, sent_from}
use Rattle.bm_law_places.proofs.Moved.{come, moves, taken}

-- ---- one cache changes

module _ (u c k : ℕ) (r : Row ℕ) (s : State ℕ) where
  row-takes : (n : ℕ) → in_row u r + n ≡ in_row u (s.rows k) → in_row u ((with_row k r s).rows c) + (if eqb c k then n else 0) ≡ in_row u (s.rows c) + 0
  row-takes n e = elim (eqb_tells c k) [
    | inl y ↦ rw y.0 (let same = ap (λ j. in_row u (s.rows j)) y.1 in omega (arith, e, same))
    | inr y ↦ rw y.0 refl
  ]

  row-gets : (n : ℕ) → in_row u r ≡ in_row u (s.rows k) + n → in_row u ((with_row k r s).rows c) + 0 ≡ in_row u (s.rows c) + (if eqb c k then n else 0)
  row-gets n e = elim (eqb_tells c k) [
    | inl y ↦ rw y.0 (let same = ap (λ j. in_row u (s.rows j)) y.1 in omega (arith, e, same))
    | inr y ↦ rw y.0 refl
  ]

  row-keeps : in_row u r ≡ in_row u (s.rows k) → in_row u ((with_row k r s).rows c) + 0 ≡ in_row u (s.rows c) + 0
  row-keeps e = elim (eqb_tells c k) [
    | inl y ↦ rw y.0 (let same = ap (λ j. in_row u (s.rows j)) y.1 in omega (arith, e, same))
    | inr y ↦ rw y.0 refl
  ]

stamp-keeps : (u c k : ℕ) (d : Domain) (x : ℕ) (s : State ℕ) → in_row u ((with_row k (let r : Row ℕ = record (s.rows k) { deferred = stamped d x (s.rows k).deferred } in r) s).rows c) + 0 ≡ in_row u (s.rows c) + 0
stamp-keeps u c k Plain x s = row-keeps u c k _ s refl
stamp-keeps u c k Tracing x s = row-keeps u c k _ s refl

-- all of First goes where the hand is empty, and nothing of the lists where it isn't
abbrev first_taken : (u c k : ℕ) → List ℕ → List ℕ → ℕ
first_taken u c k [] us = if eqb c k then times u us else 0
first_taken u c k (v ∷ vs) us = 0

send-takes : (u c k l : ℕ) (s : State ℕ) (hand us : List ℕ) → us ≡ sends hand (s.rows k).deferred.first →
    in_row u ((sent k l hand s).rows c) + first_taken u c k hand us ≡ in_row u (s.rows c) + 0
send-takes u c k l s [] us e = row-takes u c k _ s (times u us) (let a = ap (times u) e in omega (arith, a))
send-takes u c k l s (v ∷ vs) us e = refl

-- ---- the cache of a class, at the processor of the entry

-- how often an entry takes a unit from the lists of its processor and class, and brings it there
abbrev row_taken : (u c l : ℕ) → Entry → State ℕ → ℕ
row_taken u c l (entry.Return k us) s = if eqb c k then times u (unit_list us) else 0
row_taken u c l (entry.Pop k v) s = if eqb c k then times u (v ∷ []) else 0
row_taken u c l (entry.Ready k v) s = if eqb c k then times u (v ∷ []) else 0
row_taken u c l (entry.Second k v) s = if eqb c k then times u (v ∷ []) else 0
row_taken u c l (entry.TakeExtra k us) s = if eqb c k then times u (unit_list us) else 0
row_taken u c l (entry.Send k to us) s = first_taken u c k (s.sides l).hand (unit_list us)
row_taken u c l _ s = 0

abbrev row_come : (u c : ℕ) → Entry → List ℕ → ℕ
row_come u c (entry.Fill k us) waiting = if eqb c k then times u (unit_list us) else 0
row_come u c (entry.Push k v) waiting = if eqb c k then times u (v ∷ []) else 0
row_come u c (entry.Delayed k v) waiting = if eqb c k then times u (v ∷ []) else 0
row_come u c (entry.Put k v) waiting = if eqb c k then times u (v ∷ []) else 0
row_come u c (entry.PutDelayed k v) waiting = if eqb c k then times u (v ∷ []) else 0
row_come u c (entry.Receive k us) waiting = if eqb c k then times u (unit_list us) else 0
row_come u c (entry.Sweep k us) waiting = if eqb c k then times u waiting else 0
row_come u c _ waiting = 0

-- what a sweep brings from outside is what waits in the inbox
abbrev Brings : Entry → State ℕ → List ℕ → Type 0
Brings (entry.Sweep k us) s waiting = brought (entry.Sweep k us) s ≡ waiting
Brings _ s waiting = Unit {0}

own-row : (u c l : ℕ) (e : Entry) (s : State ℕ) (waiting : List ℕ) → Names l e s → Brings e s waiting →
    in_row u ((next s (l, e)).rows c) + row_taken u c l e s ≡ in_row u (s.rows c) + row_come u c e waiting
own-row u c l (entry.Fill k us) s waiting h b = row-gets u c k _ s _ (omega (arith, times-append u (reverse (unit_list us)) (s.rows k).free, times-reverse u (unit_list us)))
own-row u c l (entry.Enter k a) s waiting h b = row-keeps u c k _ s refl
own-row u c l (entry.Leave k a) s waiting h b = row-keeps u c k _ s refl
own-row u c l (entry.Pop k v) s waiting h b = row-takes u c k _ s _ (omega (arith, times-take-drop u (s.rows k).free, ap (times u) h))
own-row u c l (entry.Push k v) s waiting h b = row-gets u c k _ s _ (omega (arith, times-append u (take 1 (s.sides l).hand) (s.rows k).free, ap (times u) h))
own-row u c l (entry.Count k n) s waiting h b = row-keeps u c k _ s refl
own-row u c l (entry.Raise k) s waiting h b = row-keeps u c k _ s refl
own-row u c l (entry.Work k) s waiting h b = row-keeps u c k _ s refl
own-row u c l (entry.Delayed k v) s waiting h b = row-gets u c k _ s _ (omega (arith, times-append u (take 1 (s.sides l).hand) (s.rows k).delayed, ap (times u) h))
own-row u c l (entry.Put k v) s waiting h b = row-gets u c k _ s _ (omega (arith, times-append u (take 1 (s.sides l).hand) (s.rows k).extra, ap (times u) h.0))
own-row u c l (entry.PutDelayed k v) s waiting h b = row-gets u c k _ s _ (omega (arith, times-append u (take 1 (s.sides l).hand) (s.rows k).extra_delayed, ap (times u) h.0))
own-row u c l (entry.Receive k us) s waiting h b = row-gets u c k _ s _ (omega (arith, times-append u (unit_list us) (s.rows k).deferred.ready))
own-row u c l (entry.Ready k v) s waiting h b = row-takes u c k _ s _ (omega (arith, times-take-drop u (s.rows k).deferred.ready, ap (times u) h))
own-row u c l (entry.Second k v) s waiting h b = row-takes u c k _ s _ (omega (arith, times-take-drop u (s.rows k).deferred.second, ap (times u) h))
own-row u c l (entry.TakeExtra k us) s waiting h b = row-takes u c k _ s _ (omega (arith, ap (times u) h))
own-row u c l (entry.Send k to us) s waiting h b = send-takes u c k l s (s.sides l).hand (unit_list us) h.1
own-row u c l (entry.TakeDelayed k us) s waiting h b = row-keeps u c k _ s (omega (arith, times-append u (reverse (s.rows k).extra_delayed) (s.rows k).delayed, times-reverse u (s.rows k).extra_delayed))
own-row u c l (entry.Batch k us) s waiting h b = row-keeps u c k _ s (omega (arith, times-append u (s.rows k).delayed (s.rows k).deferred.first))
own-row u c l (entry.Stamp k d x) s waiting h b = stamp-keeps u c k d x s
own-row u c l (entry.BeginSecond k us) s waiting h b = row-keeps u c k _ s (omega (arith, times-append u (s.rows k).deferred.ready (s.rows k).deferred.second))
own-row u c l (entry.Return k us) s waiting h b = row-takes u c k _ s _ (omega (arith, ap (times u) h.0))
own-row u c l (entry.Sweep k us) s waiting h b = row-gets u c k _ s _ (omega (arith, times-append u (seven_lists (s.rows k)) (brought (entry.Sweep k us) s), times-seven u (s.rows k), ap (times u) b))
own-row u c l _ s waiting h b = refl

-- ---- of any processor

taken-own : (u p l q c : ℕ) (e : Entry) (w : World) → eqb q p ≡ true → taken u (Cache q c) (move_of p l e w) ≡ row_taken u c l e (w.lists p)
taken-own u p l q c (entry.Return k us) w is = rw is refl
taken-own u p l q c (entry.Pop k v) w is = rw is refl
taken-own u p l q c (entry.Ready k v) w is = rw is refl
taken-own u p l q c (entry.Second k v) w is = rw is refl
taken-own u p l q c (entry.TakeExtra k us) w is = rw is refl
taken-own u p l q c (entry.Send k to us) w is = go ((w.lists p).sides l).hand
  where
    go : (hand : List ℕ) → taken u (Cache q c) (moves (sent_from p l k hand) (Inbox to k) (unit_list us)) ≡ first_taken u c k hand (unit_list us)
    go [] = rw is refl
    go (v ∷ vs) = refl
taken-own u p l q c _ w is = refl

taken-other : (u p l q c : ℕ) (e : Entry) (w : World) → eqb q p ≡ false → taken u (Cache q c) (move_of p l e w) ≡ 0
taken-other u p l q c (entry.Return k us) w is = rw is refl
taken-other u p l q c (entry.Pop k v) w is = rw is refl
taken-other u p l q c (entry.Ready k v) w is = rw is refl
taken-other u p l q c (entry.Second k v) w is = rw is refl
taken-other u p l q c (entry.TakeExtra k us) w is = rw is refl
taken-other u p l q c (entry.Send k to us) w is = go ((w.lists p).sides l).hand
  where
    go : (hand : List ℕ) → taken u (Cache q c) (moves (sent_from p l k hand) (Inbox to k) (unit_list us)) ≡ 0
    go [] = rw is refl
    go (v ∷ vs) = refl
taken-other u p l q c _ w is = refl

come-own : (u p l q c : ℕ) (e : Entry) (w : World) → eqb q p ≡ true → come u (Cache q c) (move_of p l e w) ≡ row_come u c e (concat (w.shared.boxes p (class_named e)))
come-own u p l q c (entry.Fill k us) w is = rw is refl
come-own u p l q c (entry.Push k v) w is = rw is refl
come-own u p l q c (entry.Delayed k v) w is = rw is refl
come-own u p l q c (entry.Put k v) w is = rw is refl
come-own u p l q c (entry.PutDelayed k v) w is = rw is refl
come-own u p l q c (entry.Receive k us) w is = rw is refl
come-own u p l q c (entry.Sweep k us) w is = rw is refl
come-own u p l q c _ w is = refl

come-other : (u p l q c : ℕ) (e : Entry) (w : World) → eqb q p ≡ false → come u (Cache q c) (move_of p l e w) ≡ 0
come-other u p l q c (entry.Fill k us) w is = rw is refl
come-other u p l q c (entry.Push k v) w is = rw is refl
come-other u p l q c (entry.Delayed k v) w is = rw is refl
come-other u p l q c (entry.Put k v) w is = rw is refl
come-other u p l q c (entry.PutDelayed k v) w is = rw is refl
come-other u p l q c (entry.Receive k us) w is = rw is refl
come-other u p l q c (entry.Sweep k us) w is = rw is refl
come-other u p l q c _ w is = refl

brings-so : (p l : ℕ) (e : Entry) (w : World) → SweepsInbox p l e w → Brings e (w.lists p) (concat (w.shared.boxes p (class_named e)))
brings-so p l (entry.Sweep k us) w h = h
brings-so p l _ w h = tt

pub other-names : (a b t k a' b' t' k' : ℕ) → a' ≡ a → b' ≡ b → t' ≡ t → k' ≡ k → a + t ≡ b + k → a' + t' ≡ b' + k'
other-names a b t k a' b' t' k' p q r v e = omega (arith, p, q, r, v, e)

rows-balanced : (u p l q c : ℕ) (e : Entry) (w : World) → Finds p l e w → (here : Bool) → eqb q p ≡ here →
    in_row u ((if here then next (w.lists q) (l, e) else w.lists q).rows c) + taken u (Cache q c) (move_of p l e w) ≡ in_row u ((w.lists q).rows c) + come u (Cache q c) (move_of p l e w)
rows-balanced u p l q c e w f true is =
    let same : q ≡ p = eqb-true q p is in
    other-names _ _ _ _ _ _ _ _
    (ap (λ z. in_row u ((next (w.lists z) (l, e)).rows c)) same)
    (ap (λ z. in_row u ((w.lists z).rows c)) same)
    (taken-own u p l q c e w is)
    (come-own u p l q c e w is)
    (own-row u c l e (w.lists p) (concat (w.shared.boxes p (class_named e))) f.lists (brings-so p l e w f.inbox))
rows-balanced u p l q c e w f false is = other-names _ _ _ _ _ _ _ _ refl refl (taken-other u p l q c e w is) (come-other u p l q c e w is) refl

pub cache-balanced : (u p l q c : ℕ) (e : Entry) (w : World) → Finds p l e w →
    times_at u (Cache q c) (world_after p l e w) + taken u (Cache q c) (move_of p l e w) ≡ times_at u (Cache q c) w + come u (Cache q c) (move_of p l e w)
cache-balanced u p l q c e w f =
    other-names _ _ _ _ _ _ _ _
    (times-seven u (((world_after p l e w).lists q).rows c))
    (times-seven u ((w.lists q).rows c))
    refl
    refl
    (rows-balanced u p l q c e w f (eqb q p) refl)

-- Units that leave the caches and the side.
use Rattle.std.proofs.Common.{eq-eqb, ◌≡◌, ◌<◌, ◌≤◌, ◌+◌, ℕ, zero, suc, List, [], ◌∷◌, map, length, Option, None, Some, refl, sym, subst, arith, inl, inr}
use Rattle.std.specs.Prelude.{get_or}
use Rattle.std.specs.List.{All}
use Rattle.bm_journal.specs.declared.counts.Counts.{Counts}
use Rattle.bm_journal.specs.declared.ids.Domain.TheVariants.{Plain, Tracing}
use Rattle.bm_journal.specs.declared.units.Units.TheVariants.{Whole}
use Rattle.bm_journal.specs.declared.entry.Entry.TheVariants as entry
use Rattle.bm_grace.specs.Rights.{Rights}
use Rattle.bm_law.specs.Effect.{effect, sent}
use Rattle.bm_law.specs.Kept.{Ready}
use Rattle.std.proofs.lemmas.Bool.Decides.{eqb_tells}
use Rattle.std.proofs.lemmas.List.Elements.{All-nil}
use Rattle.bm_cache.specs.Placed.{Placed}
use Rattle.bm_cache.specs.Span.{Face, Fine}
use Rattle.bm_cache.proofs.Each.{each-effect}
use Rattle.bm_cache.proofs.Stretch.{ready-effect, targets-effect}
use Rattle.bm_work.specs.Works.{Stands}
use Rattle.bm_law.specs.Lists.{Log, sends}
use Rattle.bm_law.specs.Places.{Stack, list_at, Free, Extra, Extra_delayed, Delayed, First, Second}
use Rattle.bm_law.specs.Places.{Ready as ready_list}
use Rattle.bm_law.specs.Stands.{Once, Known, stands, times}
use Rattle.bm_law.specs.State.{State, Deferred, idle_side, seen}
use Rattle.bm_law.proofs.Seen.{seen-effect}
use Rattle.bm_law.proofs.Stands.{stands-effect}
use Rattle.bm_post.specs.Rights.{Holds, IsSettled, MayLeave, numbers}
use Rattle.bm_cache.specs.Each.{Each}
use Rattle.bm_cache.specs.Shown.{shown}
use Rattle.bm_cache.specs.Tokens.{Token, number_of}
use Rattle.bm_cache.specs.Tests.{Tests, Passes, Reusable, Suits, Either, Proper}
use Rattle.bm_cache.specs.declared.caches.Caches.{Caches}
use Rattle.bm_cache.proofs.Absent.{none-there}
use Rattle.bm_work_lists.specs.Fit.{Fit}
use Rattle.bm_work.specs.Dated.{DatedRow, Dated}
use Rattle.bm_work.specs.DeskTests.{since_test, tests_by}
use Rattle.bm_work.specs.Onward.{Onward}
use Rattle.bm_work.proofs.Came.{split}
use Rattle.bm_work.proofs.Steps.{dated-with-row}

-- what is sent stands nowhere afterwards, and only once before
module _ (l i to : ℕ) (ns : List ℕ) (s : State Token) (k : Known l (entry.Send i to (Whole ns))) (o : Once (seen number_of s)) (e : sends (map number_of (s.sides l).hand) (map number_of (s.rows i).deferred.first) ≡ ns) where
  sent-sum : (n : ℕ) → stands n (seen number_of (effect l (entry.Send i to (Whole ns)) [] s)) + times n ns ≡ stands n (seen number_of s) + 0
  sent-sum n =
      let x = entry.Send i to (Whole ns) in
      let F : State ℕ → Type 0 = λ t. stands n t + times n (sends (map number_of (s.sides l).hand) (map number_of (s.rows i).deferred.first)) ≡ stands n (seen number_of s) + 0 in
      let a : stands n (seen number_of (effect l x [] s)) + times n (sends (map number_of (s.sides l).hand) (map number_of (s.rows i).deferred.first)) ≡ stands n (seen number_of s) + 0 = subst F (sym (seen-effect number_of l x [] s)) (stands-effect n l x [] (seen number_of s) k) in
      let G : List ℕ → Type 0 = λ m. stands n (seen number_of (effect l x [] s)) + times n m ≡ stands n (seen number_of s) + 0 in
      subst G e a

  pub sent-once : (n : ℕ) → times n ns ≤ 1
  sent-once n = omega (arith, sent-sum n, o n)

  pub sent-apart : (n : ℕ) → times n ns + stands n (seen number_of (effect l (entry.Send i to (Whole ns)) [] s)) ≤ 1
  sent-apart n = omega (arith, sent-sum n, o n)

-- units of numbers that stand in the caches aren't among those that are gone
pub each-apart : {R : Type 0} (c : Caches R) (ns : List ℕ) → ((n : ℕ) → times n ns + stands n (seen number_of (shown c)) ≤ 1) → Each (λ i k u. times u.number ns ≡ 0) (λ u. times u.number ns ≡ 0) (shown c)
each-apart {R} c ns h = record {
  lists = λ i k j u m. let v = get_or (list_at k ((shown c).rows i)) j u in one v (λ z. (none-there v.number c z).lists i k j u m refl);
  hands = λ l j u m. let v = get_or ((shown c).sides l).hand j u in one v (λ z. (none-there v.number c z).hands l j u m refl);
}
  where
    one : (v : Token) → (stands v.number (seen number_of (shown c)) ≡ 0 → ⊥) → times v.number ns ≡ 0
    one v f = pick (times v.number ns) refl
      where
        pick : (x : ℕ) → times v.number ns ≡ x → times v.number ns ≡ 0
        pick zero e = e
        pick (suc x) e = absurd (f (omega (arith, e, h v.number)))

module _ (gone : List ℕ) (a b : Tests) (o : Onward gone a b) (s : State Token) (e : Each (λ i k u. times u.number gone ≡ 0) (λ u. times u.number gone ≡ 0) s) where
  keeps : (k : ℕ) (u : Token) → times u.number gone ≡ 0 → Passes a k u → Passes b k u
  keeps k u z h = o k u.number u.life u.seal z h

  either : (u : Token) → times u.number gone ≡ 0 → Either a u → Either b u
  either u z (inl h) = inl (keeps 0 u z h)
  either u z (inr h) = inr (keeps 1 u z h)

  suits : (k : Stack) (u : Token) → times u.number gone ≡ 0 → Suits a k u → Suits b k u
  suits Free u z h = keeps 0 u z h
  suits Extra u z h = keeps 0 u z h
  suits ready_list u z h = keeps 0 u z h
  suits Delayed u z h = keeps 1 u z h
  suits Extra_delayed u z h = keeps 1 u z h
  suits First u z h = keeps 1 u z h
  suits Second u z h = either u z h

  pub proper-apart : Proper a s → Proper b s
  proper-apart p = record {
    lists = λ c k i u n. suits k (get_or (list_at k (s.rows c)) i u) (e.lists c k i u n) (p.lists c k i u n);
    hands = λ l i u n. either (get_or (s.sides l).hand i u) (e.hands l i u n) (p.hands l i u n);
  }

  all-apart : (k : ℕ) (us : List Token) → All (λ u. times u.number gone ≡ 0) us → All (Passes a k) us → All (Passes b k) us
  all-apart k us z h i u n = keeps k (get_or us i u) (z i u n) (h i u n)

  pub dated-apart : Dated a s → Dated b s
  dated-apart h k = record {
    plain = λ x y. all-apart (since_test Plain (suc x)) (s.rows k).deferred.first (e.lists k First) ((h k).plain x y);
    tracing = λ x y. all-apart (since_test Tracing (suc x)) (s.rows k).deferred.second (e.lists k Second) ((h k).tracing x y);
    some = (h k).some;
    settled = all-apart 0 (s.rows k).deferred.second (e.lists k Second) (h k).settled;
  }

-- units in hand that may be used again are mine, and may leave
pub holds-fit : (r : Rights) (c : ℕ) (us : List Token) → ((n : ℕ) → times n (numbers us) ≤ 1) → All (Fit (tests_by r) c) us → Holds r us
holds-fit r c us o h = record { each = λ i u n. (let v = get_or us i u in (split (r.mine v.number) (r.settled v.number v.life v.seal) (h i u n).reusable).0); once = o }

-- what a send takes
pub sends-hand : (h f : List Token) → 0 < length h → sends (map number_of h) (map number_of f) ≡ map number_of h
sends-hand [] f m = absurd (omega (arith, m))
sends-hand (u ∷ us) f m = refl

pub sends-first : (h f : List Token) → h ≡ [] → sends (map number_of h) (map number_of f) ≡ map number_of f
sends-first [] f m = refl
sends-first (u ∷ us) f m = absurd (cc)

sent-row : (l i : ℕ) (h : List Token) (s : State Token) (k : ℕ) → ((sent i l h s).rows k).active ≡ (s.rows k).active
sent-row l i [] s k =
    elim (eqb_tells k i) [
      | inl y ↦ rw (y.0, y.1) refl
      | inr y ↦ rw y.0 refl
    ]
sent-row l i (u ∷ us) s k = refl

pub sent-active : (l i to : ℕ) (ns : List ℕ) (s : State Token) (k : ℕ) → ((effect l (entry.Send i to (Whole ns)) [] s).rows k).active ≡ (s.rows k).active
sent-active l i to ns s k = sent-row l i (s.sides l).hand s k

sent-rows : (l i : ℕ) (h : List Token) (s : State Token) → 0 < length h → (k : ℕ) → ((sent i l h s).rows k).deferred ≡ (s.rows k).deferred
sent-rows l i [] s m k = absurd (omega (arith, m))
sent-rows l i (u ∷ us) s m k = refl

sent-side : (l i : ℕ) (h : List Token) (s : State Token) → 0 < length h → (sent i l h s).sides l ≡ idle_side
sent-side l i [] s m = absurd (omega (arith, m))
sent-side l i (u ∷ us) s m = rw (eq-eqb l l refl) refl

-- a hand that was sent is empty, and leaves what deferred work alone writes
pub hand-side : (l i to : ℕ) (ns : List ℕ) (s : State Token) → 0 < length (s.sides l).hand → (effect l (entry.Send i to (Whole ns)) [] s).sides l ≡ idle_side
hand-side l i to ns s m = sent-side l i (s.sides l).hand s m

pub hand-deferred : (l i to : ℕ) (ns : List ℕ) (s : State Token) → 0 < length (s.sides l).hand → (k : ℕ) → ((effect l (entry.Send i to (Whole ns)) [] s).rows k).deferred ≡ (s.rows k).deferred
hand-deferred l i to ns s m k = sent-rows l i (s.sides l).hand s m k

module _ {H R : Type 0} (log : R → Option Log) (counts : R → Counts) (sound : H → Type 0) (tests : H → Tests) (faces : H → Face) (holds : H → Caches R) where
  -- what a call needs, after a parcel was sent
  pub stands-sent : (h k : H) (i to : ℕ) (ns : List ℕ) → faces k ≡ faces h → sound k → Placed log counts (holds k) → shown (holds k) ≡ effect (faces h).level (entry.Send i to (Whole ns)) [] (shown (holds h)) → (holds k).processor ≡ (holds h).processor → ((n : ℕ) → times n ns + stands n (seen number_of (effect (faces h).level (entry.Send i to (Whole ns)) [] (shown (holds h)))) ≤ 1) → Onward ns (tests h) (tests k) → Dated (tests h) (effect (faces h).level (entry.Send i to (Whole ns)) [] (shown (holds h))) → {was : H → Type 0} → Stands log counts was tests faces holds h → Stands log counts sound tests faces holds k
  stands-sent h k i to ns f d p e n a o b w =
      let l = (faces h).level in
      let x = entry.Send i to (Whole ns) in
      let s = shown (holds h) in
      let y = shown (holds k) in
      let A : State Token → Type 0 = λ z. (m : ℕ) → times m ns + stands m (seen number_of z) ≤ 1 in
      let q : Each (λ i k u. times u.number ns ≡ 0) (λ u. times u.number ns ≡ 0) y = each-apart (holds k) ns (subst A (sym e) a) in
      let P : State Token → Type 0 = λ z. Proper (tests h) z in
      let D : State Token → Type 0 = λ z. Dated (tests h) z in
      let Y : State Token → Type 0 = λ z. Ready (l + 1) z in
      let T : State Token → Type 0 = λ z. (c : ℕ) → (z.rows c).target < (faces h).processors in
      let N : ℕ → Type 0 = λ z. z < (faces h).processors in
      let G : Face → Type 0 = λ g. Fine log counts (tests k) g.processors (g.level + 1) (holds k) in
      let S : G (faces h) = record {
        placed = p;
        ready = subst Y (sym e) (ready-effect l x [] s tt w.fine.ready);
        proper = proper-apart ns (tests h) (tests k) o y q (subst P (sym e) (each-effect (λ c k u. Suits (tests h) k u) (Either (tests h)) l x [] s tt w.fine.proper));
        aimed = record { few = w.fine.aimed.few; processor = subst N (sym n) w.fine.aimed.processor; targets = subst T (sym e) (targets-effect (faces h).processors l x [] s tt w.fine.aimed.targets) };
      } in
      record {
        sound = d;
        fine = subst G (sym f) S;
        dated = dated-apart ns (tests h) (tests k) o y q (subst D (sym e) b);
      }

-- First was sent
sent-row-dated : (a : Tests) (d : Deferred Token) → DatedRow a d → DatedRow a (record d { first = []; plain = None })
sent-row-dated a d h = record {
  plain = λ x y. absurd (none-some (suc x) y);
  tracing = h.tracing;
  some = λ x y. absurd (none-some x y);
  settled = h.settled;
}
  where
    none-some : (x : ℕ) → None ≡ Some x → ⊥
    none-some x e = absurd (cc)

pub first-dated : (a : Tests) (l i to : ℕ) (ns : List ℕ) (s : State Token) → (s.sides l).hand ≡ [] → Dated a s → Dated a (effect l (entry.Send i to (Whole ns)) [] s)
first-dated a l i to ns s e h =
    let F : List Token → Type 0 = λ z. Dated a (sent i l z s) in
    subst F (sym e) (dated-with-row a i _ s (sent-row-dated a (s.rows i).deferred (h i)) h)

-- The same of Second, which goes back to the stock.
module _ (l i : ℕ) (ns : List ℕ) (s : State Token) (k : Known l (entry.Return i (Whole ns))) (o : Once (seen number_of s)) (e : map number_of (s.rows i).deferred.second ≡ ns) where
  returned-sum : (n : ℕ) → stands n (seen number_of (effect l (entry.Return i (Whole ns)) [] s)) + times n ns ≡ stands n (seen number_of s) + 0
  returned-sum n =
      let x = entry.Return i (Whole ns) in
      let F : State ℕ → Type 0 = λ t. stands n t + times n (map number_of (s.rows i).deferred.second) ≡ stands n (seen number_of s) + 0 in
      let a : stands n (seen number_of (effect l x [] s)) + times n (map number_of (s.rows i).deferred.second) ≡ stands n (seen number_of s) + 0 = subst F (sym (seen-effect number_of l x [] s)) (stands-effect n l x [] (seen number_of s) k) in
      let G : List ℕ → Type 0 = λ m. stands n (seen number_of (effect l x [] s)) + times n m ≡ stands n (seen number_of s) + 0 in
      subst G e a

  pub returned-once : (n : ℕ) → times n ns ≤ 1
  returned-once n = omega (arith, returned-sum n, o n)

  pub returned-apart : (n : ℕ) → times n ns + stands n (seen number_of (effect l (entry.Return i (Whole ns)) [] s)) ≤ 1
  returned-apart n = omega (arith, returned-sum n, o n)

pub returned-active : (l i : ℕ) (ns : List ℕ) (s : State Token) (k : ℕ) → ((effect l (entry.Return i (Whole ns)) [] s).rows k).active ≡ (s.rows k).active
returned-active l i ns s k =
    elim (eqb_tells k i) [
      | inl y ↦ rw (y.0, y.1) refl
      | inr y ↦ rw y.0 refl
    ]

returned-row-dated : (a : Tests) (d : Deferred Token) → DatedRow a d → DatedRow a (record d { second = []; tracing = None })
returned-row-dated a d h = record {
  plain = h.plain;
  tracing = λ x y. absurd (none-some (suc x) y);
  some = h.some;
  settled = All-nil (Reusable a);
}
  where
    none-some : (x : ℕ) → None ≡ Some x → ⊥
    none-some x e = absurd (cc)

pub returned-dated : (a : Tests) (l i : ℕ) (ns : List ℕ) (s : State Token) → Dated a s → Dated a (effect l (entry.Return i (Whole ns)) [] s)
returned-dated a l i ns s h = dated-with-row a i _ s (returned-row-dated a (s.rows i).deferred (h i)) h

-- units that may be used again are mine, and may leave
pub holds-reusable : (r : Rights) (us : List Token) → ((n : ℕ) → times n (numbers us) ≤ 1) → All (Reusable (tests_by r)) us → Holds r us
holds-reusable r us o h = record { each = λ i u n. (let v = get_or us i u in (split (r.mine v.number) (r.settled v.number v.life v.seal) (h i u n)).0); once = o }

pub settled-reusable : (r : Rights) (us : List Token) → All (Reusable (tests_by r)) us → All (IsSettled r) us
settled-reusable r us h i u n = let v = get_or us i u in (split (r.mine v.number) (r.settled v.number v.life v.seal) (h i u n)).1

pub settled-fit : (r : Rights) (c : ℕ) (us : List Token) → All (Fit (tests_by r) c) us → All (IsSettled r) us
settled-fit r c us h = settled-reusable r us (λ i u n. (h i u n).reusable)

pub leave-reusable : (r : Rights) (us : List Token) → All (Reusable (tests_by r)) us → All (MayLeave r) us
leave-reusable r us h i u n = let v = get_or us i u in inl (split (r.mine v.number) (r.settled v.number v.life v.seal) (h i u n)).1

module _ {H R : Type 0} (log : R → Option Log) (counts : R → Counts) (sound : H → Type 0) (tests : H → Tests) (faces : H → Face) (holds : H → Caches R) where
  -- what a call needs, after Second went back
  pub stands-returned : (h k : H) (i : ℕ) (ns : List ℕ) → faces k ≡ faces h → sound k → Placed log counts (holds k) → shown (holds k) ≡ effect (faces h).level (entry.Return i (Whole ns)) [] (shown (holds h)) → (holds k).processor ≡ (holds h).processor → ((n : ℕ) → times n ns + stands n (seen number_of (effect (faces h).level (entry.Return i (Whole ns)) [] (shown (holds h)))) ≤ 1) → Onward ns (tests h) (tests k) → {was : H → Type 0} → Stands log counts was tests faces holds h → Stands log counts sound tests faces holds k
  stands-returned h k i ns f d p e n a o w =
      let l = (faces h).level in
      let x = entry.Return i (Whole ns) in
      let s = shown (holds h) in
      let y = shown (holds k) in
      let A : State Token → Type 0 = λ z. (m : ℕ) → times m ns + stands m (seen number_of z) ≤ 1 in
      let q : Each (λ i k u. times u.number ns ≡ 0) (λ u. times u.number ns ≡ 0) y = each-apart (holds k) ns (subst A (sym e) a) in
      let P : State Token → Type 0 = λ z. Proper (tests h) z in
      let D : State Token → Type 0 = λ z. Dated (tests h) z in
      let Y : State Token → Type 0 = λ z. Ready (l + 1) z in
      let T : State Token → Type 0 = λ z. (c : ℕ) → (z.rows c).target < (faces h).processors in
      let N : ℕ → Type 0 = λ z. z < (faces h).processors in
      let G : Face → Type 0 = λ g. Fine log counts (tests k) g.processors (g.level + 1) (holds k) in
      let S : G (faces h) = record {
        placed = p;
        ready = subst Y (sym e) (ready-effect l x [] s tt w.fine.ready);
        proper = proper-apart ns (tests h) (tests k) o y q (subst P (sym e) (each-effect (λ c k u. Suits (tests h) k u) (Either (tests h)) l x [] s tt w.fine.proper));
        aimed = record { few = w.fine.aimed.few; processor = subst N (sym n) w.fine.aimed.processor; targets = subst T (sym e) (targets-effect (faces h).processors l x [] s tt w.fine.aimed.targets) };
      } in
      record {
        sound = d;
        fine = subst G (sym f) S;
        dated = dated-apart ns (tests h) (tests k) o y q (subst D (sym e) (returned-dated (tests h) l i ns s w.dated));
      }

-- All units of a class as a batch, on a desk.
use Rattle.std.proofs.Common.{◌≡◌, ◌<◌, ◌&&◌, ◌++◌, ℕ, true, List, [], Option, Some, None, is_none, refl, sym, ◌∙◌, ap, subst, inl, inr, eq-eqb}
use Rattle.std.specs.Prelude.{get_or}
use Rattle.std.specs.List.{All}
use Rattle.std.proofs.lemmas.Bool.Decides.{eqb_tells}
use Rattle.std.proofs.lemmas.List.Elements.{All-append}
use Rattle.bm_journal.specs.declared.counts.Counts.{Counts}
use Rattle.bm_journal.specs.declared.ids.Domain.TheVariants.{Tracing}
use Rattle.bm_journal.specs.declared.units.Units.TheVariants.{Whole}
use Rattle.bm_journal.specs.declared.entry.Entry.TheVariants as entry
use Rattle.bm_page.specs.declared.units.Seal.{Seal}
use Rattle.bm_grace.specs.Rights.{Rights, Ages}
use Rattle.bm_law.specs.Effect.{effect}
use Rattle.bm_law.specs.Kept.{Ready}
use Rattle.bm_law.specs.Lists.{Log}
use Rattle.bm_law.specs.Places.{Stack, list_at, Free, Extra, Extra_delayed, Delayed, First, Second}
use Rattle.bm_law.specs.Places.{Ready as ready_list}
use Rattle.bm_law.specs.State.{State, seven_lists}
use Rattle.bm_post.specs.Rights.{IsSettled, MayLeave}
use Rattle.bm_cache.specs.Placed.{Placed}
use Rattle.bm_cache.specs.Shown.{shown}
use Rattle.bm_cache.specs.Span.{Face, Fine}
use Rattle.bm_cache.specs.Tests.{Tests, Either, Proper, Suits}
use Rattle.bm_cache.specs.Tokens.{Token}
use Rattle.bm_cache.specs.declared.caches.Caches.{Caches}
use Rattle.bm_cache.proofs.Each.{each-effect}
use Rattle.bm_work.specs.DeskTests.{tests_by}
use Rattle.bm_work.proofs.Came.{split}
use Rattle.bm_work.proofs.Tests.{and-of}
use Rattle.bm_closing.specs.AtEnd.{AtEnd}
use Rattle.bm_closing.specs.Arrived.{Arrived}
use Rattle.bm_closing.specs.Waited.{AllRipe}

-- the state in which all units of a class, and these, are a batch with this stamp
abbrev pub batched : ℕ → List ℕ → List Token → ℕ → State Token → State Token
batched c ns us x s = effect 0 (entry.Stamp c Tracing x) [] (effect 0 (entry.Sweep c (Whole ns)) us s)

pub batched-second : (c : ℕ) (ns : List ℕ) (us : List Token) (x : ℕ) (s : State Token) → ((batched c ns us x s).rows c).deferred.second ≡ seven_lists (s.rows c) ++ us
batched-second c ns us x s = rw (eq-eqb c c refl) refl

-- a unit that stands where it suits may be used again, or waits
suits-either : (t : Tests) (k : Stack) (u : Token) → Suits t k u → Either t u
suits-either t Free u h = inl h
suits-either t Extra u h = inl h
suits-either t ready_list u h = inl h
suits-either t Delayed u h = inr h
suits-either t Extra_delayed u h = inr h
suits-either t First u h = inr h
suits-either t Second u h = h

list-either : (t : Tests) (c : ℕ) (s : State Token) → Proper t s → (k : Stack) → All (Either t) (list_at k (s.rows c))
list-either t c s p k i u lt = suits-either t k (get_or (list_at k (s.rows c)) i u) (p.lists c k i u lt)

pub seven-either : (t : Tests) (c : ℕ) (s : State Token) → Proper t s → All (Either t) (seven_lists (s.rows c))
seven-either t c s p =
    let f = list-either t c s p in
    let r = s.rows c in
    All-append (Either t) r.free _ (f Free) (All-append (Either t) r.extra _ (f Extra) (All-append (Either t) r.delayed _ (f Delayed) (All-append (Either t) r.extra_delayed _ (f Extra_delayed) (All-append (Either t) r.deferred.first _ (f First) (All-append (Either t) r.deferred.ready r.deferred.second (f ready_list) (f Second))))))

none-of : (o : Option Seal) → is_none o ≡ true → o ≡ None
none-of None e = refl
none-of (Some x) e = cc

-- once the period has passed each of them may leave
either-leaves : (r q : Rights) (u : Token) → Ages r q → AllRipe r q → Either (tests_by r) u → MayLeave q u
either-leaves r q u a w (inl h) = inl (a.settled u.number u.life u.seal ∙ (split (r.mine u.number) (r.settled u.number u.life u.seal) h).1)
either-leaves r q u a w (inr h) =
    let p = split (r.mine u.number) (r.due u.number u.life None && is_none u.seal) h in
    let d = split (r.due u.number u.life None) (is_none u.seal) p.1 in
    let F : Option Seal → Type 0 = λ z. q.ripe u.number u.life z ≡ true in
    inr (subst F (sym (none-of u.seal d.1)) (w u.number u.life p.0 d.0))

settled-leaves : (r q : Rights) (u : Token) → Ages r q → IsSettled r u → MayLeave q u
settled-leaves r q u a h = inl (a.settled u.number u.life u.seal ∙ h)

pub batch-leaves : (r q : Rights) (c : ℕ) (ns : List ℕ) (us : List Token) (x : ℕ) (s : State Token) → Ages r q → AllRipe r q → Proper (tests_by r) s → All (IsSettled r) us → All (MayLeave q) ((batched c ns us x s).rows c).deferred.second
batch-leaves r q c ns us x s a w p h =
    subst (All (MayLeave q)) (sym (batched-second c ns us x s)) (All-append (MayLeave q) (seven_lists (s.rows c)) us
    (λ i u lt. either-leaves r q (get_or (seven_lists (s.rows c)) i u) a w (seven-either (tests_by r) c s p i u lt))
    (λ i u lt. settled-leaves r q (get_or us i u) a (h i u lt)))

-- ---- the desk

batched-active : (c : ℕ) (ns : List ℕ) (us : List Token) (x : ℕ) (s : State Token) (k : ℕ) → ((batched c ns us x s).rows k).active ≡ (s.rows k).active
batched-active c ns us x s k = elim (eqb_tells k c) [
  | inl y ↦ rw (y.0, y.1, eq-eqb c c refl) refl
  | inr y ↦ rw y.0 refl
]

batched-target : (c : ℕ) (ns : List ℕ) (us : List Token) (x : ℕ) (s : State Token) (k : ℕ) → ((batched c ns us x s).rows k).target ≡ (s.rows k).target
batched-target c ns us x s k = elim (eqb_tells k c) [
  | inl y ↦ rw (y.0, y.1, eq-eqb c c refl) refl
  | inr y ↦ rw y.0 refl
]

pub batched-proper : (t : Tests) (c : ℕ) (ns : List ℕ) (us : List Token) (x : ℕ) (s : State Token) → Proper t s → All (Either t) us → Proper t (batched c ns us x s)
batched-proper t c ns us x s p h =
    each-effect (λ c k u. Suits t k u) (Either t) 0 (entry.Stamp c Tracing x) [] (effect 0 (entry.Sweep c (Whole ns)) us s) tt
    (each-effect (λ c k u. Suits t k u) (Either t) 0 (entry.Sweep c (Whole ns)) us s (h, list-either t c s p) p)

module _ {H R : Type 0} (log : R → Option Log) (counts : R → Counts) (sound : H → Type 0) (tests : H → Tests) (faces : H → Face) (holds : H → Caches R) where
  pub at-end-batched : (h k : H) (z : Caches R) (c : ℕ) (ns : List ℕ) (us : List Token) (x : ℕ) → holds k ≡ z → faces k ≡ faces h → tests k ≡ tests h → sound k → shown z ≡ batched c ns us x (shown (holds h)) → z.processor ≡ (holds h).processor → Placed log counts z → All (Either (tests h)) us → AtEnd log counts sound tests faces holds h → AtEnd log counts sound tests faces holds k
  at-end-batched h k z c ns us x p q t f e n d y s =
      let b = batched c ns us x (shown (holds h)) in
      let F : Tests → ℕ → Caches R → Type 0 = λ v m w. Fine log counts v m 0 w in
      let P : ℕ → Type 0 = λ m. m < (faces h).processors in
      let r : Ready 0 b = record { active = λ i. rw (batched-active c ns us x (shown (holds h)) i) (s.fine.ready.active i); sides = s.fine.ready.sides } in
      let a : F (tests h) (faces h).processors z = record {
        placed = d;
        ready = subst (Ready 0) (sym e) r;
        proper = subst (Proper (tests h)) (sym e) (batched-proper (tests h) c ns us x (shown (holds h)) s.fine.proper y);
        aimed = record { few = s.fine.aimed.few; processor = subst P (sym n) s.fine.aimed.processor; targets = λ i. rw e (rw (batched-target c ns us x (shown (holds h)) i) (s.fine.aimed.targets i)) };
      } in
      record {
        sound = f;
        ordinary = ap (λ (g : Face). g.level) q ∙ s.ordinary;
        fine = subst (λ v. F v (faces k).processors (holds k)) (sym t) (subst (λ m. F (tests h) m (holds k)) (sym (ap (λ (g : Face). g.processors) q)) (subst (F (tests h) (faces h).processors) (sym p) a));
      }

-- units that arrived may be used again, also once rights have aged
pub arrived-either : (c : ℕ) (r q : Rights) (us : List Token) → Ages r q → Arrived c r us → All (Either (tests_by q)) us
arrived-either c r q us a h i u lt =
    let v = get_or us i u in
    inl (and-of (q.mine v.number) (q.settled v.number v.life v.seal) (a.mine v.number ∙ h.holds.each i u lt) (a.settled v.number v.life v.seal ∙ h.settled i u lt))

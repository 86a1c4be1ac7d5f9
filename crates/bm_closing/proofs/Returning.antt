-- A tracing batch that goes back to the stock.
use Rattle.std.proofs.Common.{◌≡◌, ◌<◌, ◌≤◌, ◌+◌, ◌&&◌, ℕ, true, List, [], map, Option, None, is_none, sym, ◌∙◌, ap, subst, inl, inr}
use Rattle.std.specs.Prelude.{get_or}
use Rattle.bm_journal.specs.declared.counts.Counts.{Counts}
use Rattle.bm_journal.specs.declared.units.Units.TheVariants.{Whole}
use Rattle.bm_journal.specs.declared.entry.Entry.TheVariants as entry
use Rattle.bm_journal.specs.Recording.{Appends}
use Rattle.bm_grace.specs.Rights.{Rights}
use Rattle.bm_law.specs.Effect.{effect}
use Rattle.bm_law.specs.Kept.{Ready}
use Rattle.bm_law.specs.Lists.{Log}
use Rattle.bm_law.specs.Places.{Second}
use Rattle.bm_law.specs.Stands.{stands, times}
use Rattle.bm_law.specs.State.{State, seen}
use Rattle.bm_law.proofs.Alone.{Adds-one}
use Rattle.bm_post.specs.Rights.{Holds}
use Rattle.bm_cache.specs.Each.{Each}
use Rattle.bm_cache.specs.Lent.{Ended, Lends, with_second}
use Rattle.bm_cache.specs.Placed.{Placed}
use Rattle.bm_cache.specs.Shown.{shown}
use Rattle.bm_cache.specs.Span.{Face, Fine}
use Rattle.bm_cache.specs.Tests.{Tests, Either, Proper, Suits}
use Rattle.bm_cache.specs.Tokens.{Token, number_of}
use Rattle.bm_cache.specs.declared.caches.Caches.{Caches}
use Rattle.bm_cache.proofs.Each.{each-effect}
use Rattle.bm_cache.proofs.Lent.{return-lent}
use Rattle.bm_cache.proofs.Stretch.{targets-effect}
use Rattle.bm_work.specs.DeskTests.{tests_by}
use Rattle.bm_work.specs.Onward.{Onward}
use Rattle.bm_work.proofs.Came.{split}
use Rattle.bm_work.proofs.Gone.{each-apart, proper-apart, returned-active}
use Rattle.bm_closing.specs.AtEnd.{AtEnd}
use Rattle.bm_closing.specs.SentBack.{SentBack}

-- a unit that may be used again, or waits, is mine
either-mine : (r : Rights) (u : Token) → Either (tests_by r) u → r.mine u.number ≡ true
either-mine r u (inl h) = (split (r.mine u.number) (r.settled u.number u.life u.seal) h).0
either-mine r u (inr h) = (split (r.mine u.number) (r.due u.number u.life None && is_none u.seal) h).0

-- so all of Second are
pub second-held : (r : Rights) (c : ℕ) (s : State Token) → Proper (tests_by r) s → ((n : ℕ) → times n (map number_of (s.rows c).deferred.second) ≤ 1) → Holds r (s.rows c).deferred.second
second-held r c s p o = record {
  each = λ i u n. either-mine r (get_or (s.rows c).deferred.second i u) (p.lists c Second i u n);
  once = o;
}

-- the batch was lent, and the loan has ended
pub sent-back : {R : Type 0} (log : R → Option Log) (counts : R → Counts) (c l : ℕ) (ns : List ℕ) (a b d : Caches R) → l ≡ 0 → ns ≡ map number_of ((shown a).rows c).deferred.second → Lends log counts (with_second c [] (shown a)) a b → Ended log l (entry.Return c (Whole ns)) b d → SentBack log c a d
sent-back {R} log counts c l ns a b d z n lent ended =
    let ms = map number_of ((shown a).rows c).deferred.second in
    let x = entry.Return c (Whole ms) in
    let F : ℕ → List ℕ → Type 0 = λ k us. Ended log k (entry.Return c (Whole us)) b d in
    let e : Ended log 0 x b d = subst (λ k. F k ms) z (subst (F l) n ended) in
    let G : R → Type 0 = λ r. Appends (log r) 0 x (log d.recorder) in
    record {
      gained = Adds-one 0 x (log a.recorder) (log d.recorder) (subst G lent.recorder e.records);
      lists = e.after ∙ return-lent c 0 (shown a) (shown b) lent.lists ms;
      processor = e.processor ∙ lent.processor;
    }

module _ {H R : Type 0} (log : R → Option Log) (counts : R → Counts) (sound : H → Type 0) (tests : H → Tests) (faces : H → Face) (holds : H → Caches R) where
  -- the desk afterwards
  pub at-end-returned : (h k : H) (i : ℕ) (ns : List ℕ) → faces k ≡ faces h → sound k → Placed log counts (holds k) → shown (holds k) ≡ effect 0 (entry.Return i (Whole ns)) [] (shown (holds h)) → (holds k).processor ≡ (holds h).processor → ((n : ℕ) → times n ns + stands n (seen number_of (effect 0 (entry.Return i (Whole ns)) [] (shown (holds h)))) ≤ 1) → Onward ns (tests h) (tests k) → AtEnd log counts sound tests faces holds h → AtEnd log counts sound tests faces holds k
  at-end-returned h k i ns f d p e n a o w =
      let x = entry.Return i (Whole ns) in
      let s = shown (holds h) in
      let y = shown (holds k) in
      let A : State Token → Type 0 = λ z. (m : ℕ) → times m ns + stands m (seen number_of z) ≤ 1 in
      let q : Each (λ i k u. times u.number ns ≡ 0) (λ u. times u.number ns ≡ 0) y = each-apart (holds k) ns (subst A (sym e) a) in
      let P : State Token → Type 0 = λ z. Proper (tests h) z in
      let Y : State Token → Type 0 = λ z. Ready 0 z in
      let T : State Token → Type 0 = λ z. (c : ℕ) → (z.rows c).target < (faces h).processors in
      let N : ℕ → Type 0 = λ z. z < (faces h).processors in
      let G : Face → Type 0 = λ g. Fine log counts (tests k) g.processors 0 (holds k) in
      let r : Ready 0 (effect 0 x [] s) = record { active = λ c. rw (returned-active 0 i ns s c) (w.fine.ready.active c); sides = w.fine.ready.sides } in
      let S : G (faces h) = record {
        placed = p;
        ready = subst Y (sym e) r;
        proper = proper-apart ns (tests h) (tests k) o y q (subst P (sym e) (each-effect (λ c k u. Suits (tests h) k u) (Either (tests h)) 0 x [] s tt w.fine.proper));
        aimed = record { few = w.fine.aimed.few; processor = subst N (sym n) w.fine.aimed.processor; targets = subst T (sym e) (targets-effect (faces h).processors 0 x [] s tt w.fine.aimed.targets) };
      } in
      record {
        sound = d;
        ordinary = ap (λ (z : Face). z.level) f ∙ w.ordinary;
        fine = subst G (sym f) S;
      }

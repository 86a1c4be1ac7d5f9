-- A batch that goes away directly after its pass.
use Rattle.std.proofs.Common.{◌≡◌, ◌<◌, ◌+◌, ◌++◌, ℕ, List, [], ◌∷◌, Option, None, Some, map, sym, ◌∙◌, ap, subst, append_assoc}
use Rattle.std.specs.Prelude.{IfSome}
use Rattle.bm_journal.specs.declared.counts.Counts.{Counts}
use Rattle.bm_journal.specs.declared.ids.Domain.TheVariants.{Plain}
use Rattle.bm_journal.specs.declared.entry.Entry.{Entry}
use Rattle.bm_journal.specs.declared.entry.Entry.TheVariants as entry
use Rattle.bm_journal.specs.declared.units.Units.TheVariants.{Whole}
use Rattle.bm_journal.specs.Recording.{Appends}
use Rattle.bm_law.specs.Lists.{Leaves, Log}
use Rattle.bm_law.specs.Spans.{Above}
use Rattle.bm_law.specs.State.{Side, State, idle_side, seen}
use Rattle.bm_law.proofs.Spans.{from-append}
use Rattle.bm_law_order.specs.Act.{Act}
use Rattle.bm_law_order.specs.Act as act
use Rattle.bm_cache.specs.Shown.{shown}
use Rattle.bm_cache.specs.Span.{Face, Fine}
use Rattle.bm_cache.specs.Tests.{Tests}
use Rattle.bm_cache.specs.Tokens.{Token, number_of}
use Rattle.bm_cache.specs.declared.caches.Caches.{Caches}
use Rattle.bm_work.specs.Rested.{EndsWith, GoesFrom, LastIs, MayGo}

-- an entry that was appended is the last one of its level
pub appended-last : {R : Type 0} (log : R → Option Log) (l : ℕ) (e : Entry) (before : Option Log) (c : Caches R) → Appends before l e (log c.recorder) → LastIs log l e c
appended-last log l e before c a = last (log c.recorder) a
  where
    last : (now : Option Log) → Appends before l e now → IfSome now (EndsWith l e)
    last None a = tt
    last (Some now) a = record { front = a.log; rest = []; above = tt; log_is = a.more }

-- entries of higher levels leave it so
pub last-kept : (l : ℕ) (e : Entry) (before now : Option Log) → Above (l + 1) before now → IfSome before (EndsWith l e) → IfSome now (EndsWith l e)
last-kept l e before None a h = tt
last-kept l e None (Some now) a h = absurd (let q = a.told in cc)
last-kept l e (Some log) (Some now) a h =
    let same : log ≡ a.log = (let q = a.told in cc) in
    record {
      front = h.front;
      rest = h.rest ++ a.added;
      above = from-append (l + 1) h.rest a.added h.above a.from;
      log_is = a.now_is ∙ (ap (λ z. z ++ a.added) (sym same ∙ h.log_is) ∙ append_assoc h.front ((l, e) ∷ h.rest) a.added);
    }

-- what the caches have, their log tells
pub may-go : {R : Type 0} (log : R → Option Log) (counts : R → Counts) (tests : Tests) (n k : ℕ) (c : Caches R) → Fine log counts tests n k c → (l i stamp number : ℕ) → (shown c).sides l ≡ idle_side → ((shown c).rows i).deferred.plain ≡ Some stamp → 0 < stamp → LastIs log l (entry.Pass i Plain number) c → MayGo log n l i stamp number c
may-go log counts tests n k c f l i stamp number idle waits taken last = record { processor = f.aimed.processor; told = told (log c.recorder) f.placed.told last }
  where
    hand : (s : Side Token) → s ≡ idle_side → map number_of s.hand ≡ []
    hand s e = ap (λ (z : Side Token). map number_of z.hand) e

    told : (o : Option Log) → IfSome o (λ es. Leaves c.processor es (seen number_of (shown c))) → IfSome o (EndsWith l (entry.Pass i Plain number)) → IfSome o (GoesFrom c.processor l i stamp number)
    told None t e = tt
    told (Some es) t e = record {
      hand = ap (λ (s : State ℕ). (s.sides l).hand) t.lists ∙ hand ((shown c).sides l) idle;
      stamped = ap (λ (s : State ℕ). (s.rows i).deferred.plain) t.lists ∙ waits;
      taken = taken;
      passed = e;
    }

-- .. also other caches of the same log
pub may-go-as : {R : Type 0} (log : R → Option Log) (n l i stamp number : ℕ) (c z : Caches R) → z.processor ≡ c.processor → z.recorder ≡ c.recorder → MayGo log n l i stamp number c → MayGo log n l i stamp number z
may-go-as log n l i stamp number c z p e m = record {
  processor = subst (λ k. k < n) (sym p) m.processor;
  told = subst (λ k. IfSome (log z.recorder) (GoesFrom k l i stamp number)) (sym p) (subst (λ r. IfSome (log r) (GoesFrom c.processor l i stamp number)) (sym e) m.told);
}

-- the entry of the parcel
pub released : {H R : Type 0} (F : H → Face) (D : H → Caches R) (W : H → Caches R → H) (log : R → Option Log) (sound : H → Type 0) (owes : List Act → H → Type 0) → ((h : H) (c : Caches R) (i to : ℕ) (us : List ℕ) (stamp number : ℕ) → MayGo log (F h).processors (F h).level i stamp number (D h) → c.processor ≡ (D h).processor → Appends (log (D h).recorder) (F h).level (entry.Send i to (Whole us)) (log c.recorder) → owes (act.Releases i to us stamp number ∷ []) h → sound (W h c)) →
    (h : H) (w z : Caches R) (j i to : ℕ) (us : List ℕ) (stamp number : ℕ) → j ≡ (F h).level → w ≡ D h → Appends (log w.recorder) j (entry.Send i to (Whole us)) (log z.recorder) → z.processor ≡ w.processor → MayGo log (F h).processors (F h).level i stamp number (D h) → owes (act.Releases i to us stamp number ∷ []) h → sound (W h z)
released {H} {R} F D W log sound owes law h w z j i to us stamp number l k a p m o =
    let P : ℕ → Caches R → Type 0 = λ n c. Appends (log c.recorder) n (entry.Send i to (Whole us)) (log z.recorder) in
    law h z i to us stamp number m (p ∙ ap (λ (c : Caches R). c.processor) k) (subst (λ n. P n (D h)) l (subst (λ c. P j c) k a)) o

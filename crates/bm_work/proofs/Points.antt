-- What points leave.
use Rattle.std.proofs.Common.{◌≡◌, ◌+◌, ℕ, suc, List, [], Option, refl, sym, ◌∙◌, subst, arith}
use Rattle.std.specs.List.{All}
use Rattle.bm_journal.specs.declared.counts.Counts.{Counts}
use Rattle.bm_journal.specs.declared.ids.Domain.TheVariants.{Plain, Tracing}
use Rattle.bm_grace.specs.Known.{Known}
use Rattle.bm_law.specs.State.{State, Deferred, seen}
use Rattle.bm_law.specs.Lists.{Log}
use Rattle.bm_law.proofs.Spans.{Records-points}
use Rattle.bm_cache.specs.Tokens.{Token, number_of}
use Rattle.bm_cache.specs.Tests.{Tests, Passes, Same, Lasting}
use Rattle.bm_cache.specs.Shown.{shown}
use Rattle.bm_cache.specs.Span.{Face, Fine, Came, Goes, RaisesNone, Unbroken}
use Rattle.bm_cache.specs.declared.caches.Caches.{Caches}
use Rattle.bm_cache.proofs.Flags.{raises-none-point}
use Rattle.bm_law_work.specs.Parts.{Part, Stand}
use Rattle.bm_work_lists.specs.Grown.{GrewBy}
use Rattle.bm_work_lists.proofs.Grown.{grew-stand}
use Rattle.bm_work_lists.proofs.Steps.{unbroken-point}
use Rattle.bm_work.specs.DeskTests.{since_test}
use Rattle.bm_work.specs.Dated.{DatedRow, Dated}
use Rattle.bm_work.specs.Goes.{GoesOn}
use Rattle.bm_work.specs.Works.{Stands, Works}

-- a test of units lasts where their tests are the same
pub all-same : (a b : Tests) (k : ℕ) (us : List Token) → All (Same a b) us → All (Passes a k) us → All (Passes b k) us
all-same a b k us h p i u n = h i u n k ∙ p i u n

pub dated-same : (a b : Tests) (d e : Deferred Token) → e ≡ d → All (Same a b) d.first → All (Same a b) d.second → DatedRow a d → DatedRow b e
dated-same a b d e q f s h = subst (DatedRow b) (sym q) (record {
  plain = λ x y. all-same a b (since_test Plain (suc x)) d.first f (h.plain x y);
  tracing = λ x y. all-same a b (since_test Tracing (suc x)) d.second s (h.tracing x y);
  some = h.some;
  settled = all-same a b 0 d.second s h.settled;
})

-- batches are dated over whatever leaves what deferred work alone writes
pub dated-kept : (l : ℕ) (a b : Tests) (s t : State Token) → ((k : ℕ) → (t.rows k).deferred ≡ (s.rows k).deferred) → Lasting l s a b → Dated a s → Dated b t
dated-kept l a b s t e m h k = dated-same a b (s.rows k).deferred (t.rows k).deferred (e k) (m.first k) (m.second k) (h k)

module _ {H R : Type 0} (log : R → Option Log) (counts : R → Counts) (sound : H → Type 0) (tests : H → Tests) (faces : H → Face) (holds : H → Caches R) where
  pub stands-point : (l : ℕ) (h k : H) → Came log l (tests h) (tests k) (holds h) (holds k) → sound k → Fine log counts (tests k) (faces k).processors ((faces k).level + 1) (holds k) → {was : H → Type 0} → Stands log counts was tests faces holds h → Stands log counts sound tests faces holds k
  stands-point l h k c s f p = record { sound = s; fine = f; dated = dated-kept l (tests h) (tests k) (shown (holds h)) (shown (holds k)) (λ i. (c.kept.rows i).deferred) c.lasting p.dated }

module _ {H R : Type 0} (log : R → Option Log) (tests : H → Tests) (faces : H → Face) (waits : H → ℕ) (stays : H → H → Type 0) (holds : H → Caches R) (known : H → Known) where
  pub works-point : (h k : H) → Came log ((faces h).level + 1) (tests h) (tests k) (holds h) (holds k) → Goes faces waits stays h k → (waits k ≡ waits h → k ≡ h) → GoesOn (known h) (known k) → Works log faces waits stays holds known 0 0 (λ l. Stand l []) h k
  works-point h k c g q n =
      let l = (faces h).level in
      let a = log (holds h).recorder in
      let b = log (holds k).recorder in
      let r = Records-points l a b c.above in
      record {
        phrase = grew-stand l [] (seen number_of (shown (holds h))) a b r;
        goes = g;
        alone = unbroken-point faces waits holds log h k k q refl refl;
        flags = raises-none-point waits holds h k k q refl refl;
        processor = c.processor;
        active = λ i. (c.kept.rows i).active;
        plain_begins = omega (arith, n.begins Plain);
        tracing_begins = omega (arith, n.begins Tracing);
        same_side = n.processor;
      }

module _ {H R : Type 0} (log : R → Option Log) (counts : R → Counts) (sound : H → Type 0) (tests : H → Tests) (faces : H → Face) (waits : H → ℕ) (stays keeps : H → H → Type 0) (holds : H → Caches R) (known : H → Known) (on : (a b : H) → keeps a b → stays a b) (goes-on : (a b : H) → keeps a b → GoesOn (known a) (known b)) where
  -- a call of the host's, as a call of the desk's
  pub works-host : (P : ℕ → Part) (h k : H) → GrewBy (P (faces h).level) (seen number_of (shown (holds h))) (log (holds h).recorder) (log (holds k).recorder) → Goes faces waits keeps h k → Unbroken faces waits holds log h k → RaisesNone waits holds h k → (holds k).processor ≡ (holds h).processor → ((i : ℕ) → ((shown (holds k)).rows i).active ≡ ((shown (holds h)).rows i).active) → Works log faces waits stays holds known 0 0 P h k
  works-host P h k g q u r p a =
      let n = goes-on h k q.keeps in
      let l = (faces h).level in
      record {
        phrase = g;
        goes = record { face = q.face; pending = q.pending; keeps = on h k q.keeps };
        alone = u;
        flags = r;
        processor = p;
        active = a;
        plain_begins = omega (arith, n.begins Plain);
        tracing_begins = omega (arith, n.begins Tracing);
        same_side = n.processor;
      }

  -- what a call needs, after one that leaves what deferred work alone writes
  pub stands-host : (l : ℕ) (h k : H) → sound k → Fine log counts (tests k) (faces k).processors ((faces k).level + 1) (holds k) → ((i : ℕ) → ((shown (holds k)).rows i).deferred ≡ ((shown (holds h)).rows i).deferred) → Lasting l (shown (holds h)) (tests h) (tests k) → Stands log counts sound tests faces holds h → Stands log counts sound tests faces holds k
  stands-host l h k s f e m p = record { sound = s; fine = f; dated = dated-kept l (tests h) (tests k) (shown (holds h)) (shown (holds k)) e m p.dated }

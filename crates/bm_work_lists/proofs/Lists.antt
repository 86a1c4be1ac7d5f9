-- Steps that move a whole list.
use Rattle.std.proofs.Common.{◌≡◌, ◌≢◌, ◌++◌, ℕ, List, [], Option, Some, None, IsTrue, IsSome, refl, subst, arith, eq-eqb, ne_eqb}
use Rattle.bm_journal.specs.declared.units.Units.{Units}
use Rattle.bm_journal.specs.declared.units.Units.TheVariants.{Whole}
use Rattle.bm_journal.specs.declared.entry.Entry.{Entry}
use Rattle.bm_journal.specs.declared.entry.Entry.TheVariants as entry
use Rattle.bm_journal.specs.Recording.{Appends}
use Rattle.bm_journal.specs.WellFormed.{is_whole}
use Rattle.bm_law.specs.declared.mark.Mark.TheVariants as mark
use Rattle.bm_law.specs.State.{State, seen}
use Rattle.bm_law.specs.Effect.{effect}
use Rattle.bm_law.specs.Kept.{Between}
use Rattle.bm_law.specs.Lists.{Log, brought}
use Rattle.bm_law.proofs.Between as between
use Rattle.bm_law.proofs.Waiting.{pops-row, pushes-row}
use Rattle.bm_cache.specs.Tokens.{Token, number_of}
use Rattle.bm_cache.specs.Listed.{TookList}
use Rattle.bm_cache.specs.Shown.{shown, waiting, Took}
use Rattle.bm_cache.specs.declared.caches.Caches.{Caches}

-- where a log is told, the list that an entry names is whole
pub whole-appends : (l : ℕ) (e : Units → Entry) (units : Units) (xs : List ℕ) (a b : Option Log) → (IsSome b → IsTrue (is_whole units)) → (IsTrue (is_whole units) → units ≡ Whole xs) → Appends a l (e units) b → Appends a l (e (Whole xs)) b
whole-appends l e units xs a None t w h = tt
whole-appends l e units xs a (Some now) t w h = subst (λ u. Appends a l (e u) (Some now)) (w (t refl)) h

-- such a step is one of an entry with the whole list
pub took-list : {R : Type 0} (log : R → Option Log) (l : ℕ) (e : Units → Entry) (xs : List ℕ) (x z : Caches R) → brought (e (Whole xs)) (seen number_of (shown x)) ≡ [] → TookList log l e xs x z → Took log l (e (Whole xs)) [] x z
took-list log l e xs x z b h = record {
  names = h.names;
  brings = b;
  after = h.after;
  records = whole-appends l e h.units xs (log x.recorder) (log z.recorder) h.told h.whole h.records;
  number = h.number;
  processor = h.processor;
}

module _ (l c : ℕ) (us : List ℕ) (s : State Token) where
  -- all of Extra comes into the hand
  pub side-extra : (effect l (entry.TakeExtra c (Whole us)) [] s).sides l ≡ record { hand = (s.sides l).hand ++ (s.rows c).extra; mark = mark.Quiet }
  side-extra = rw (eq-eqb l l refl) refl

  pub no-extra : ((effect l (entry.TakeExtra c (Whole us)) [] s).rows c).extra ≡ []
  no-extra = rw (eq-eqb c c refl) refl

  pub between-extra : (s.rows c).active ≡ 0 → Between l c 0 0 s (effect l (entry.TakeExtra c (Whole us)) [] s)
  between-extra n = between.Between-step l c 0 0 _ _ s refl (λ m. absurd (omega (arith, m, n)))

  -- ExtraDelayed comes onto Delayed, and Delayed becomes First, while one call is in the cache
  pub between-gathered : (s.rows c).active ≡ 1 → Between l c 1 1 s (effect l (entry.TakeDelayed c (Whole us)) [] s)
  between-gathered n = between.Between-row l c 1 1 _ s refl (λ m. absurd (omega (arith, m, n)))

  pub between-batch : (s.rows c).active ≡ 1 → Between l c 1 1 s (effect l (entry.Batch c (Whole us)) [] s)
  between-batch n = between.Between-row l c 1 1 _ s refl (λ m. absurd (omega (arith, m, n)))

  -- nothing begins or ceases to wait for its count
  pub waits-gathered : waiting c s ≡ 0 → waiting c (effect l (entry.TakeDelayed c (Whole us)) [] s) ≡ 0
  waits-gathered h = rw (pops-row c c _ s, pushes-row c c _ s) h

  pub waits-batch : waiting c s ≡ 0 → waiting c (effect l (entry.Batch c (Whole us)) [] s) ≡ 0
  waits-batch h = rw (pops-row c c _ s, pushes-row c c _ s) h

  -- a batch takes all of Delayed, and has no stamp yet
  pub batch-deferred : ((effect l (entry.Batch c (Whole us)) [] s).rows c).deferred ≡ record (s.rows c).deferred { first = (s.rows c).delayed ++ (s.rows c).deferred.first; plain = Some 0 }
  batch-deferred = rw (eq-eqb c c refl) refl

  pub batch-others : (k : ℕ) → k ≢ c → ((effect l (entry.Batch c (Whole us)) [] s).rows k).deferred ≡ (s.rows k).deferred
  batch-others k n = rw (ne_eqb k c n) refl

  -- all of Ready becomes Second, and has no stamp yet
  pub between-second : Between l c 0 0 s (effect l (entry.BeginSecond c (Whole us)) [] s)
  between-second = between.Between-row l c 0 0 _ s refl (λ _. record { free = refl; count = refl; delayed = refl; more = []; extra = refl; more_delayed = []; extra_delayed = refl })

  pub second-deferred : ((effect l (entry.BeginSecond c (Whole us)) [] s).rows c).deferred ≡ record (s.rows c).deferred { ready = []; second = (s.rows c).deferred.ready ++ (s.rows c).deferred.second; tracing = Some 0 }
  second-deferred = rw (eq-eqb c c refl) refl

  pub second-others : (k : ℕ) → k ≢ c → ((effect l (entry.BeginSecond c (Whole us)) [] s).rows k).deferred ≡ (s.rows k).deferred
  second-others k n = rw (ne_eqb k c n) refl

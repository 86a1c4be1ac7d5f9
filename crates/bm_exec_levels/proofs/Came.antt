-- What calls of several levels do to the caches of a processor.
use Rattle.std.proofs.Common.{◌≡◌, ◌≤◌, ℕ, [], ◌∷◌, sym, ◌∙◌, subst, arith, inl, inr}
use Rattle.std.proofs.lemmas.Bool.Decides.{leb_tells}
use Rattle.bm_journal.specs.declared.entry.Entry.{Entry}
use Rattle.bm_journal.specs.Recording.{Kept as Recorded}
use Rattle.bm_law.specs.State.{State}
use Rattle.bm_law.specs.Kept.{Kept, Ready}
use Rattle.bm_law.proofs.Between as between
use Rattle.bm_law.proofs.Spans as spans
use Rattle.bm_cache.specs.Shown.{shown, Took}
use Rattle.bm_cache.specs.Tests.{Lasting, Tests}
use Rattle.bm_cache.specs.Tokens.{Token}
use Rattle.bm_cache.specs.declared.caches.Caches.{Caches}
use Rattle.bm_cache.proofs.Moments as moment
use Rattle.bm_cache.proofs.Stretch.{lasting-none}
use Rattle.bm_work_lists.proofs.Spans as work
use Rattle.bm_exec_levels.specs.AtProcessor.{CameAt, FineAt, log_of, tests_of}
use Rattle.bm_exec_levels.specs.Hosting.{with_caches}
use Rattle.bm_exec_levels.specs.declared.processor.Processor.{Processor}
use Rattle.bm_grace.specs.declared.grace.Knows.{Ghosts as Knows}

lasting-down : (k l : ℕ) (s : State Token) (a b : Tests) → k ≤ l → Lasting l s a b → Lasting k s a b
lasting-down k l s a b h x = record { hands = λ j n. x.hands j (omega (arith, n, h)); first = x.first; ready = x.ready; second = x.second }

ready-down : (k l : ℕ) (s t : State Token) → Ready k s → Kept l s t → Ready l t → Ready k t
ready-down k l s t r c u = record {
  active = λ j. (let m = r.active j in let e = (c.rows j).active in omega (arith, m, e));
  sides = λ j m. elim (leb_tells l j) [
    | inl y ↦ u.sides j y.1
    | inr y ↦ c.sides j y.1 ∙ r.sides j m
  ];
}

module _ {W : Type 0} (knows : Knows W) where
  -- calls of level l and above are calls of level k and above
  pub came-down : (k l : ℕ) (a b : Processor W) → k ≤ l → CameAt knows l a b → CameAt knows k a b
  came-down k l a b h c = record {
    kept = between.Kept-below k l (shown a.caches) (shown b.caches) h c.kept;
    above = spans.Above-below k l (log_of a) (log_of b) h c.above;
    lasting = lasting-down k l (shown a.caches) (tests_of knows a) (tests_of knows b) h c.lasting;
    processor = c.processor;
  }

  -- what was fine for level k before is so behind calls of higher levels
  pub fine-down : (k l : ℕ) (a b : Processor W) → FineAt knows k a → CameAt knows l a b → FineAt knows l b → FineAt knows k b
  fine-down k l a b f c g = record {
    placed = g.placed;
    ready = ready-down k l (shown a.caches) (shown b.caches) f.ready c.kept g.ready;
    proper = g.proper;
    aimed = g.aimed;
  }

  -- what is fine for level k is so for the levels above it
  pub fine-up : (k l : ℕ) (a : Processor W) → k ≤ l → FineAt knows k a → FineAt knows l a
  fine-up k l a h f = record {
    placed = f.placed;
    ready = record { active = λ c. (let m = f.ready.active c in omega (arith, m, h)); sides = λ j m. f.ready.sides j (omega (arith, m, h)) };
    proper = f.proper;
    aimed = f.aimed;
  }

  -- no call came
  pub came-none : (l : ℕ) (a : Processor W) → CameAt knows l a a
  came-none l a = moment.came-none (λ (r : Recorded). r.told) l (tests_of knows a) a.caches

  -- calls came twice
  pub came-join : (l : ℕ) (a b c : Processor W) → CameAt knows l a b → CameAt knows l b c → CameAt knows l a c
  came-join l a b c x y = work.came-join (λ (r : Recorded). r.told) l (tests_of knows a) (tests_of knows b) (tests_of knows c) a.caches b.caches c.caches x y

  -- an entry that moves nothing
  pub came-said : (l : ℕ) (e : Entry) (a : Processor W) (z : Caches Recorded) → Took (λ (r : Recorded). r.told) l e [] a.caches z → shown z ≡ shown a.caches → CameAt knows l a (with_caches a z)
  came-said l e a z t s =
      let K : State Token → Type 0 = λ x. Kept l (shown a.caches) x in
      record {
        kept = subst K (sym s) (between.Kept-refl l (shown a.caches));
        above = spans.Above-records l (e ∷ []) (log_of a) z.recorder.told (spans.Records-one l e (log_of a) z.recorder.told t.records);
        lasting = lasting-none l (shown a.caches) (tests_of knows a);
        processor = t.processor;
      }

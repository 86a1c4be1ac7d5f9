-- What a call of the code of a level does to its processor.
use Rattle.std.proofs.Common.{◌≡◌, ◌≢◌, ◌≤◌, ◌+◌, ℕ, zero, suc, false, [], ◌∷◌, Option, refl, sym, ap, subst, arith}
use Rattle.std.specs.Prelude.{◌%◌}
use Rattle.bm_journal.specs.declared.ids.Domain.{Domain}
use Rattle.bm_journal.specs.declared.ids.Domain.TheVariants.{Plain, Tracing}
use Rattle.bm_journal.specs.declared.entry.Entry.{Entry}
use Rattle.bm_journal.specs.Recording.{Appends, Kept as Recorded}
use Rattle.bm_page.specs.declared.units.Seal.{Seal}
use Rattle.bm_law.specs.Kept.{Ready}
use Rattle.bm_law.specs.Stands.{stands}
use Rattle.bm_law.specs.State.{State}
use Rattle.bm_law.proofs.Between.{Kept-refl}
use Rattle.bm_law.proofs.Spans.{Above-none, Above-records, Records-one}
use Rattle.bm_cache.specs.Placed.{Placed}
use Rattle.bm_cache.specs.Shown.{shown}
use Rattle.bm_cache.specs.Span.{Came, Fine}
use Rattle.bm_cache.specs.Tests.{Aimed, Proper, Tests}
use Rattle.bm_cache.specs.Tokens.{Token}
use Rattle.bm_cache.specs.declared.caches.Caches.{Caches}
use Rattle.bm_cache.proofs.Absent.{failing, lasting-other, none-there, nowhere, proper-other}
use Rattle.bm_cache.proofs.Stretch.{lasting-none}
use Rattle.bm_work_lists.proofs.Spans.{came-join}
use Rattle.bm_grace.specs.Known.{Known, Side, Sides, side}
use Rattle.bm_grace.specs.Rights.{AsBefore, Rights}
use Rattle.bm_world.specs.Lives.{OthersAsBefore}
use Rattle.bm_exec_levels.proofs.Lifetimes.{tests-before, tests-others}
use Rattle.bm_work.specs.DeskTests.{tests_by}
use Rattle.bm_work.specs.Goes.{GoesOn}
use Rattle.bm_work.specs.Still.{goes-still}
use Rattle.bm_exec_levels.specs.AtProcessor.{Between, CameAt, FineAt, lists_of, log_of, tests_of}
use Rattle.bm_exec_levels.specs.Hosting.{goes-joined, stays-caches, stays-join, with_caches, with_side}
use Rattle.bm_exec_levels.specs.Ready.{known_of}
use Rattle.bm_exec_levels.specs.declared.processor.Processor.{Processor}
use Rattle.bm_exec_levels.specs.declared.program.Program.{Program}
use Rattle.bm_grace.specs.declared.grace.Knows.{Ghosts as Knows}

-- a unit that isn't mine stands nowhere
none-passes : (r : Rights) (n : ℕ) → r.mine n ≡ false → (k life : ℕ) (seal : Option Seal) → tests_by r k n life seal ≡ false
none-passes r n h zero life seal = rw h refl
none-passes r n h (suc zero) life seal = rw h refl
none-passes r n h (suc (suc k)) life seal = rw h refl

-- what is known of grace periods is as it was
goes-graced : (a b : Known) → b.grace ≡ a.grace → GoesOn a b
goes-graced a b g =
    let F : Sides → Type 0 = λ x. GoesOn a (record b { grace = x }) in
    subst F (sym g) (record {
      processors = refl;
      processor = refl;
      words = λ d. same (λ (s : Side). s.word % 2) d;
      number = λ d. same (λ (s : Side). s.number) d;
      first = λ d. same (λ (s : Side). s.first) d;
      later = λ d. same (λ (s : Side). s.later) d;
      begins = λ d. same (λ (s : Side). s.begins) d;
      seen = λ d. (let e = same (λ (s : Side). s.seen) d in omega (arith, e));
    })
  where
    same : {A : Type 0} (f : Side → A) (d : Domain) → f (side d (record b { grace = a.grace })) ≡ f (side d a)
    same f Plain = refl
    same f Tracing = refl

module _ {W : Type 0} (knows : Knows W) where
  -- one came behind the other
  pub came-at : (l : ℕ) (a b c : Processor W) → CameAt knows l a b → CameAt knows l b c → CameAt knows l a c
  came-at l a b c x y = came-join (λ (r : Recorded). r.told) l (tests_of knows a) (tests_of knows b) (tests_of knows c) a.caches b.caches c.caches x y

  pub came-still : (l : ℕ) (m : Processor W) → CameAt knows l m m
  came-still l m = record { kept = Kept-refl l (shown m.caches); above = Above-none l (log_of m); lasting = lasting-none l (shown m.caches) (tests_of knows m); processor = refl }

  pub between-join : (i j k n l : ℕ) (p : Program) (a b c : Processor W) → Between knows i j l p a b → Between knows k n l p b c → Between knows (i + k) (j + n) l p a c
  between-join i j k n l p a b c x y = record {
    fine = y.fine;
    came = came-at l a b c x.came y.came;
    stays = stays-join knows i j k n p a b c x.stays y.stays;
    goes = goes-joined (known_of knows a) (known_of knows b) (known_of knows c) x.goes y.goes;
    fewer = (let v = x.fewer in let w = y.fewer in omega (arith, v, w));
  }

  -- ---- an entry that moves nothing

  pub fine-noted : (l : ℕ) (m : Processor W) (z : Caches Recorded) → shown z ≡ shown m.caches → z.processor ≡ m.caches.processor → Placed (λ (r : Recorded). r.told) (λ r. r.counted) z → FineAt knows l m → FineAt knows l (with_caches m z)
  fine-noted l m z e n p f = record {
    placed = p;
    ready = subst (λ (x : State Token). Ready l x) (sym e) f.ready;
    proper = subst (λ (x : State Token). Proper (tests_of knows m) x) (sym e) f.proper;
    aimed = record { few = f.aimed.few; processor = rw n f.aimed.processor; targets = λ c. rw e (f.aimed.targets c) };
  }

  pub came-noted : (l : ℕ) (m : Processor W) (z : Caches Recorded) (e : Entry) → shown z ≡ shown m.caches → z.processor ≡ m.caches.processor → Appends (log_of m) l e z.recorder.told → CameAt knows l m (with_caches m z)
  came-noted l m z e s n a = record {
    kept = (let F : State Token → Type 0 = λ x. Rattle.bm_law.specs.Kept.Kept l (shown m.caches) x in subst F (sym s) (Kept-refl l (shown m.caches)));
    above = Above-records l (e ∷ []) (log_of m) z.recorder.told (Records-one l e (log_of m) z.recorder.told a);
    lasting = lasting-none l (shown m.caches) (tests_of knows m);
    processor = n;
  }

  -- ---- the side changes for one unit, which stands nowhere

  module _ (l n : ℕ) (m : Processor W) (w : W) (h : OthersAsBefore n (knows.rights m.side) (knows.rights w)) (e : stands n (lists_of m) ≡ 0) where
    same-others : (k u life : ℕ) (seal : Option Seal) → u ≢ n → tests_by (knows.rights w) k u life seal ≡ tests_of knows m k u life seal
    same-others k u life seal ne = tests-others n (knows.rights m.side) (knows.rights w) h k u life seal ne

    pub fine-sided : (knows.known w).grace.processors ≡ (known_of knows m).grace.processors → FineAt knows l m → FineAt knows l (with_side m w)
    fine-sided g f =
        let apart = none-there n m.caches e in
        let proper : Proper (tests_of knows (with_side m w)) (shown m.caches) = proper-other n (tests_of knows m) (tests_of knows (with_side m w)) same-others (shown m.caches) apart f.proper in
        let N : ℕ → Type 0 = λ k. Aimed k m.caches in
        record { placed = f.placed; ready = f.ready; proper = proper; aimed = subst N (sym g) f.aimed }

    pub came-sided : CameAt knows l m (with_side m w)
    came-sided = record {
      kept = Kept-refl l (shown m.caches);
      above = Above-none l (log_of m);
      lasting = lasting-other n (tests_of knows m) (tests_of knows (with_side m w)) same-others (shown m.caches) (none-there n m.caches e) l;
      processor = refl;
    }

  pub between-noted : (l : ℕ) (p : Program) (m : Processor W) (z : Caches Recorded) (e : Entry) → shown z ≡ shown m.caches → z.processor ≡ m.caches.processor → Placed (λ (r : Recorded). r.told) (λ r. r.counted) z → Appends (log_of m) l e z.recorder.told → FineAt knows l m → Between knows 0 0 l p m (with_caches m z)
  between-noted l p m z e s n q a f = record {
    fine = fine-noted l m z s n q f;
    came = came-noted l m z e s n a;
    stays = stays-caches knows p m z;
    goes = goes-still (known_of knows m) (known_of knows m) refl;
    fewer = omega arith;
  }

  pub stands-nowhere : (l n : ℕ) (m : Processor W) → (knows.rights m.side).mine n ≡ false → FineAt knows l m → stands n (lists_of m) ≡ 0
  stands-nowhere l n m h f = nowhere n (shown m.caches) (failing n (tests_of knows m) (shown m.caches) (none-passes (knows.rights m.side) n h) f.proper)

  -- another side of the same grace periods, on which so many more objects were asked for
  pub between-sided : (n l : ℕ) (p : Program) (m : Processor W) (w : W) → (knows.known w).grace ≡ (known_of knows m).grace → (knows.known w).objects.asked ≡ (known_of knows m).objects.asked + n → FineAt knows l (with_side m w) → CameAt knows l m (with_side m w) → Between knows n 0 l p m (with_side m w)
  between-sided n l p m w g a f c = record {
    fine = f;
    came = c;
    stays = record {
      settled = refl;
      locked = refl;
      running = refl;
      tables = refl;
      inside = refl;
      asks_most = omega (arith, a);
      words_most = (let e = ap (λ (x : Sides). x.plain.word) g in omega (arith, e));
      inner = λ h. ap (λ (x : Sides). x.plain.word) g;
      tracing = ap (λ (x : Sides). x.tracing.word) g;
      parity = λ d. (goes-graced (known_of knows m) (knows.known w) g).words d;
      processors = ap (λ (x : Sides). x.processors) g;
      processor = ap (λ (x : Sides). x.processor) g;
    };
    goes = goes-graced (known_of knows m) (knows.known w) g;
    fewer = omega arith;
  }

  -- the tests of all units are as they were
  pub fine-before : (l : ℕ) (m : Processor W) (w : W) → AsBefore (knows.rights m.side) (knows.rights w) → (knows.known w).grace.processors ≡ (known_of knows m).grace.processors → FineAt knows l m → FineAt knows l (with_side m w)
  fine-before l m w s g f =
      let tests : tests_of knows (with_side m w) ≡ tests_of knows m = tests-before (knows.rights m.side) (knows.rights w) s in
      let F : Tests → ℕ → Type 0 = λ t n. Fine (λ (r : Recorded). r.told) (λ r. r.counted) t n l m.caches in
      subst (F (tests_of knows (with_side m w))) (sym g) (subst (λ t. F t (known_of knows m).grace.processors) (sym tests) f)

  pub came-before : (l : ℕ) (m : Processor W) (w : W) → AsBefore (knows.rights m.side) (knows.rights w) → CameAt knows l m (with_side m w)
  came-before l m w s =
      let tests : tests_of knows (with_side m w) ≡ tests_of knows m = tests-before (knows.rights m.side) (knows.rights w) s in
      let C : Tests → Type 0 = λ t. Came (λ (r : Recorded). r.told) l (tests_of knows m) t m.caches m.caches in
      subst C (sym tests) (came-still l m)

  -- another number of calls is no matter
  pub between-calls : (i j l n : ℕ) (p : Program) (a b : Processor W) → Between knows i j l p a b → Between knows i j l p a (record b { calls = n })
  between-calls i j l n p a b x = record {
    fine = x.fine;
    came = x.came;
    stays = record {
      settled = x.stays.settled;
      locked = x.stays.locked;
      running = x.stays.running;
      tables = x.stays.tables;
      inside = x.stays.inside;
      asks_most = x.stays.asks_most;
      words_most = x.stays.words_most;
      parity = x.stays.parity;
      inner = x.stays.inner;
      tracing = x.stays.tracing;
      processors = x.stays.processors;
      processor = x.stays.processor;
    };
    goes = x.goes;
    fewer = x.fewer;
  }

  -- it asked for no more than so much
  pub between-most : (i k j l : ℕ) (p : Program) (a b : Processor W) → i ≤ k → Between knows i j l p a b → Between knows k j l p a b
  between-most i k j l p a b most x = record {
    fine = x.fine;
    came = x.came;
    stays = record {
      settled = x.stays.settled;
      locked = x.stays.locked;
      running = x.stays.running;
      tables = x.stays.tables;
      inside = x.stays.inside;
      asks_most = (let h = x.stays.asks_most in omega (arith, h, most));
      words_most = x.stays.words_most;
      parity = x.stays.parity;
      inner = x.stays.inner;
      tracing = x.stays.tracing;
      processors = x.stays.processors;
      processor = x.stays.processor;
    };
    goes = x.goes;
    fewer = x.fewer;
  }

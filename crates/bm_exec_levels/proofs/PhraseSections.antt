-- What code in a plain section of its own leaves of its processor.
use Rattle.std.specs.Prelude.{◌%◌, if◌then◌else◌}
use Rattle.std.proofs.Common.{◌≡◌, ◌+◌, ◌∙◌, ℕ, Bool, true, false, length, refl, ap, arith}
use Rattle.bm_journal.specs.declared.ids.Domain.{Domain}
use Rattle.bm_journal.specs.declared.ids.Domain.TheVariants.{Plain, Tracing}
use Rattle.bm_grace.specs.Calls.{moved}
use Rattle.bm_grace.specs.Known.{Known, Side, side}
use Rattle.bm_grace.specs.declared.step.StepKind.{StepKind}
use Rattle.bm_work.specs.Goes.{GoesOn}
use Rattle.bm_exec_levels.specs.AtProcessor.{Between, CameAt, FineAt, Stays}
use Rattle.bm_exec_levels.specs.Ready.{asked_of, known_of, left_cost, left_of, word_of}
use Rattle.bm_exec_levels.specs.declared.processor.Processor.{Processor}
use Rattle.bm_exec_levels.specs.declared.program.Program.{Program}
use Rattle.bm_exec_levels.proofs.Came.{came-join}
use Rattle.bm_grace.specs.declared.grace.Knows.{Ghosts as Knows}

-- the word says of both whether they are in one
pub same-inside : (a b : Bool) (n : ℕ) → n ≡ (if a then 1 else 0) → n ≡ (if b then 1 else 0) → a ≡ b
same-inside true true n h k = refl
same-inside true false n h k = absurd (omega (arith, h, k))
same-inside false true n h k = absurd (omega (arith, h, k))
same-inside false false n h k = refl

-- the word says whether it is in one
pub even-outside : (b : Bool) (w : ℕ) → w % 2 ≡ (if b then 1 else 0) → b ≡ false → w % 2 ≡ 0
even-outside b w h e = h ∙ ap (λ (x : Bool). if x then 1 else 0) e

pub odd-inside : (b : Bool) (w : ℕ) → w % 2 ≡ (if b then 1 else 0) → b ≡ true → w % 2 ≡ 1
odd-inside b w h e = h ∙ ap (λ (x : Bool). if x then 1 else 0) e

-- all but the word is as it was, where the plain word moved
moved-keeps : {A : Type 0} (f : Side → A) → ((s : Side) (w : ℕ) → f (record s { word = w }) ≡ f s) → (step : StepKind) (tells : Bool) (k n : Known) → n ≡ moved step tells Plain k → (d : Domain) → f (side d n) ≡ f (side d k)
moved-keeps f h step tells k n e Plain = ap (λ (x : Known). f x.grace.plain) e ∙ h k.grace.plain (k.grace.plain.word + 1)
moved-keeps f h step tells k n e Tracing = ap (λ (x : Known). f x.grace.tracing) e

module _ {W : Type 0} (knows : Knows W) where
  -- as many were asked for
  pub asked-moved : (step : StepKind) (p : Program) (a z : Processor W) → z ≡ record a { caches = z.caches; side = z.side; inside = z.inside } → known_of knows z ≡ moved step knows.tells Plain (known_of knows a) → asked_of knows p.scenario.now z ≡ asked_of knows p.scenario.now a
  asked-moved step p a z same known =
      let o : (known_of knows z).objects.asked ≡ (known_of knows a).objects.asked = ap (λ (x : Known). x.objects.asked) known in
      let rest : z.settled + left_cost p.scenario.now (left_of z) ≡ a.settled + left_cost p.scenario.now (left_of a) = ap (λ (x : Processor W). x.settled + left_cost p.scenario.now (left_of x)) same in
      omega (arith, o, rest)

  -- the section began, code ran, and the section ended
  module _ (i l : ℕ) (p : Program) (step end : StepKind) (m b c d : Processor W) (e : b ≡ record m { caches = b.caches; side = b.side; inside = b.inside }) (k : known_of knows b ≡ moved step knows.tells Plain (known_of knows m)) (f : d ≡ record c { caches = d.caches; side = d.side; inside = d.inside }) (n : known_of knows d ≡ moved end knows.tells Plain (known_of knows c)) (x : Between knows i 0 l p b c) (even : word_of knows Plain m % 2 ≡ 0) where
    pub word-begun : word_of knows Plain b ≡ word_of knows Plain m + 1
    word-begun = ap (λ (y : Known). (side Plain y).word) k

    pub word-kept : word_of knows Plain c ≡ word_of knows Plain m + 1
    word-kept = (let w = word-begun in let odd : word_of knows Plain b % 2 ≡ 1 = omega (arith, w, even) in x.stays.inner odd ∙ w)

    pub word-ended : word_of knows Plain d ≡ word_of knows Plain m + 2
    word-ended = (let w = word-kept in let v : word_of knows Plain d ≡ word_of knows Plain c + 1 = ap (λ (y : Known). (side Plain y).word) n in omega (arith, w, v))

    parity-section : (w : Domain) → word_of knows w d % 2 ≡ word_of knows w m % 2
    parity-section Plain = (let v = word-ended in omega (arith, v))
    parity-section Tracing = ap (λ (y : Known). y.grace.tracing.word % 2) n ∙ x.stays.parity Tracing ∙ ap (λ (y : Known). y.grace.tracing.word % 2) k

    stays-section : d.inside ≡ m.inside → Stays knows i 2 p m d
    stays-section same =
        let tables = x.stays.tables in
        let tables-b = ap (λ (y : Processor W). length y.tables.items) e in
        let tables-d = ap (λ (y : Processor W). length y.tables.items) f in
        let left-b = ap (λ (y : Processor W). length (left_of y)) e in
        let left-d = ap (λ (y : Processor W). length (left_of y)) f in
        let words = x.stays.words_most in
        let word-b = word-begun in
        let word-c = word-kept in
        let word-d = word-ended in
        let asks = x.stays.asks_most in
        let asked-b = asked-moved step p m b e k in
        let asked-d = asked-moved end p c d f n in
        record {
          settled = ap (λ (y : Processor W). y.settled) f ∙ x.stays.settled ∙ ap (λ (y : Processor W). y.settled) e;
          locked = ap (λ (y : Processor W). y.locked) f ∙ x.stays.locked ∙ ap (λ (y : Processor W). y.locked) e;
          running = ap (λ (y : Processor W). y.running.items) f ∙ x.stays.running ∙ ap (λ (y : Processor W). y.running.items) e;
          tables = omega (arith, tables, tables-b, tables-d);
          inside = same;
          asks_most = omega (arith, asks, asked-b, asked-d);
          words_most = omega (arith, words, word-b, word-c, word-d, left-b, left-d);
          parity = parity-section;
          inner = λ h. absurd (omega (arith, h, even));
          tracing = ap (λ (y : Known). y.grace.tracing.word) n ∙ x.stays.tracing ∙ ap (λ (y : Known). y.grace.tracing.word) k;
          processors = ap (λ (y : Known). y.grace.processors) n ∙ x.stays.processors ∙ ap (λ (y : Known). y.grace.processors) k;
          processor = ap (λ (y : Known). y.grace.processor) n ∙ x.stays.processor ∙ ap (λ (y : Known). y.grace.processor) k;
        }

    goes-section : GoesOn (known_of knows m) (known_of knows d)
    goes-section = record {
      processors = ap (λ (y : Known). y.grace.processors) n ∙ x.goes.processors ∙ ap (λ (y : Known). y.grace.processors) k;
      processor = ap (λ (y : Known). y.grace.processor) n ∙ x.goes.processor ∙ ap (λ (y : Known). y.grace.processor) k;
      words = parity-section;
      number = λ w. moved-keeps (λ (s : Side). s.number) (λ s w. refl) end knows.tells (known_of knows c) (known_of knows d) n w ∙ x.goes.number w ∙ moved-keeps (λ (s : Side). s.number) (λ s w. refl) step knows.tells (known_of knows m) (known_of knows b) k w;
      first = λ w. moved-keeps (λ (s : Side). s.first) (λ s w. refl) end knows.tells (known_of knows c) (known_of knows d) n w ∙ x.goes.first w ∙ moved-keeps (λ (s : Side). s.first) (λ s w. refl) step knows.tells (known_of knows m) (known_of knows b) k w;
      later = λ w. moved-keeps (λ (s : Side). s.later) (λ s w. refl) end knows.tells (known_of knows c) (known_of knows d) n w ∙ x.goes.later w ∙ moved-keeps (λ (s : Side). s.later) (λ s w. refl) step knows.tells (known_of knows m) (known_of knows b) k w;
      begins = λ w. moved-keeps (λ (s : Side). s.begins) (λ s w. refl) end knows.tells (known_of knows c) (known_of knows d) n w ∙ x.goes.begins w ∙ moved-keeps (λ (s : Side). s.begins) (λ s w. refl) step knows.tells (known_of knows m) (known_of knows b) k w;
      seen = λ w.
          (let a = moved-keeps (λ (s : Side). s.seen) (λ s w. refl) end knows.tells (known_of knows c) (known_of knows d) n w in
          let z = x.goes.seen w in
          let y = moved-keeps (λ (s : Side). s.seen) (λ s w. refl) step knows.tells (known_of knows m) (known_of knows b) k w in
          omega (arith, a, z, y));
    }

    pub between-section : CameAt knows l m b → CameAt knows l c d → FineAt knows l d → d.inside ≡ m.inside → Between knows i 2 l p m d
    between-section t u v same =
        let fewer = x.fewer in
        let left-b = ap (λ (y : Processor W). length (left_of y)) e in
        let left-d = ap (λ (y : Processor W). length (left_of y)) f in
        record {
          fine = v;
          came = came-join knows l m b d t (came-join knows l b c d x.came u);
          stays = stays-section same;
          goes = goes-section;
          fewer = omega (arith, fewer, left-b, left-d);
        }

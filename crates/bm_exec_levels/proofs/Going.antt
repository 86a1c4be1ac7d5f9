-- Handlers run one after the other.
use Rattle.std.specs.Prelude.{◌%◌}
use Rattle.std.proofs.Common.{◌≡◌, ◌≤◌, ℕ, ◌+◌, length, refl, sym, ◌∙◌, subst, arith}
use Rattle.bm_plan.specs.Position.{AboutTo}
use Rattle.bm_work.specs.Still.{goes-still}
use Rattle.bm_due.specs.declared.planned.Due.{Due}
use Rattle.bm_exec_levels.specs.AtProcessor.{Between, FineAt, IsAt, IsBegun, SameLives, Stays, due_cost}
use Rattle.bm_exec_levels.specs.Hosting.{goes-joined, lives-joined, lives-same, stays-same}
use Rattle.bm_journal.specs.declared.ids.Domain.TheVariants.{Plain}
use Rattle.bm_exec_levels.specs.Ready.{known_of, left_of, word_of}
use Rattle.bm_exec_levels.specs.declared.processor.Processor.{Processor}
use Rattle.bm_exec_levels.specs.declared.program.Program.{Program}
use Rattle.bm_exec_levels.proofs.Came.{came-down, came-join, came-none, fine-down}
use Rattle.bm_grace.specs.declared.grace.Knows.{Ghosts as Knows}

module _ {W : Type 0} (knows : Knows W) where
  -- none ran
  pub between-none : (k : ℕ) (p : Program) (m : Processor W) → FineAt knows k m → Between knows 0 0 k p m m
  between-none k p m f = record { fine = f; came = came-none knows k m; stays = stays-same knows p m; goes = goes-still (known_of knows m) (known_of knows m) refl; fewer = omega arith }

  -- code of a higher level ran
  pub between-down : (i j k l : ℕ) (p : Program) (a b : Processor W) → k ≤ l → FineAt knows k a → Between knows i j l p a b → Between knows i j k p a b
  between-down i j k l p a b h f x = record {
    fine = fine-down knows k l a b f x.came x.fine;
    came = came-down knows k l a b h x.came;
    stays = x.stays;
    goes = x.goes;
    fewer = x.fewer;
  }

  -- One handler begins and runs: what it asks for and names was reckoned for it.
  stays-turn : (l : ℕ) (p : Program) (due : Due) (a b c d : Processor W) → Stays knows 0 0 p a b → Stays knows 0 0 p b c → IsBegun knows l p due b c → Stays knows (due_cost p due) 2 p c d → Stays knows 0 0 p a d
  stays-turn l p due a b c d x y g z = record {
    settled = z.settled ∙ y.settled ∙ x.settled;
    locked = z.locked ∙ y.locked ∙ x.locked;
    running = z.running ∙ y.running ∙ x.running;
    tables = z.tables ∙ y.tables ∙ x.tables;
    inside = z.inside ∙ y.inside ∙ x.inside;
    asks_most = (let m = x.asks_most in let n = g.asks in let o = z.asks_most in omega (arith, m, n, o));
    words_most = (let m = x.words_most in let n = g.words in let o = z.words_most in omega (arith, m, n, o));
    parity = λ w. z.parity w ∙ y.parity w ∙ x.parity w;
    inner = λ h. (let o : word_of knows Plain c % 2 ≡ 1 = y.parity Plain ∙ x.parity Plain ∙ h in z.inner o ∙ y.inner (x.parity Plain ∙ h) ∙ x.inner h);
    tracing = z.tracing ∙ y.tracing ∙ x.tracing;
    processors = z.processors ∙ y.processors ∙ x.processors;
    processor = z.processor ∙ y.processor ∙ x.processor;
  }

  between-turn : (l k : ℕ) (p : Program) (due : Due) (a b c d : Processor W) → Between knows 0 0 k p a b → Between knows 0 0 k p b c → IsBegun knows l p due b c → Between knows (due_cost p due) 2 k p c d → Between knows 0 0 k p a d
  between-turn l k p due a b c d x y g z = record {
    fine = z.fine;
    came = came-join knows k a b d x.came (came-join knows k b c d y.came z.came);
    stays = stays-turn l p due a b c d x.stays y.stays g z.stays;
    goes = goes-joined (known_of knows a) (known_of knows b) (known_of knows d) x.goes (goes-joined (known_of knows b) (known_of knows c) (known_of knows d) y.goes z.goes);
    fewer = (let m = x.fewer in let n = y.fewer in let o = z.fewer in omega (arith, m, n, o));
  }

  -- Some have run, of all that are due before a step of code of level l.
  pub record Going (l : ℕ) (p : Program) (a b : Processor W) : Type 0 where
    pub at : IsAt knows AboutTo l p b
    pub between : Between knows 0 0 (l + 1) p a b
    pub lives : SameLives knows a b
    pub quiet : length (left_of b) ≡ length (left_of a) → b ≡ a

  module _ (l : ℕ) (p : Program) where
    pub going-none : (a : Processor W) → IsAt knows AboutTo l p a → FineAt knows (l + 1) a → Going l p a a
    going-none a x f = record { at = x; between = between-none (l + 1) p a f; lives = lives-same knows a; quiet = λ _. refl }

    -- one more handler
    pub going-more : (due : Due) (a b c d : Processor W) → Going l p a b → Between knows 0 0 (l + 1) p b c → SameLives knows b c → IsBegun knows l p due b c → IsAt knows AboutTo l p d → Between knows (due_cost p due) 2 (l + 1) p c d → SameLives knows c d → Going l p a d
    going-more due a b c d g y s h x z t =
        let m = g.between.fewer in
        let n = h.fewer in
        let o = z.fewer in
        record {
          at = x;
          between = between-turn l (l + 1) p due a b c d g.between y h z;
          lives = lives-joined knows a c d (lives-joined knows a b c g.lives s) t;
          quiet = λ e. absurd (omega (arith, m, n, o, e));
        }

    -- the same processor
    pub going-same : (a b d : Processor W) → d ≡ b → Going l p a b → Going l p a d
    going-same a b d e g = (let F : Processor W → Type 0 = λ k. Going l p a k in subst F (sym e) g)

  -- by another number of the level
  pub begun-at : (j l : ℕ) (p : Program) (due : Due) (b c : Processor W) → j ≡ l → IsBegun knows j p due b c → IsBegun knows l p due b c
  begun-at j l p due b c e h = (let F : ℕ → Type 0 = λ n. IsBegun knows n p due b c in subst F e h)

  pub between-at : (j l : ℕ) (p : Program) (b c : Processor W) → j ≡ l → Between knows 0 0 (j + 1) p b c → Between knows 0 0 (l + 1) p b c
  between-at j l p b c e h = (let F : ℕ → Type 0 = λ n. Between knows 0 0 (n + 1) p b c in subst F e h)

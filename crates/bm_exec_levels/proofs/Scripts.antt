-- What the statements of a script leave of its processor, and of the plain section around it.
use Rattle.std.proofs.Common.{◌≡◌, ◌≤◌, ◌∙◌, ℕ, Bool, true, false, Option, None, Some, refl, ap, arith}
use Rattle.std.specs.Prelude.{◌%◌, ◌||◌, if◌then◌else◌, is_some}
use Rattle.bm_journal.specs.declared.ids.Domain.TheVariants.{Plain}
use Rattle.bm_grace.specs.declared.grace.Knows.{Ghosts as Knows}
use Rattle.bm_exec.specs.Around.{with_begun}
use Rattle.bm_exec_levels.specs.Ordinary.{Scripted, Statements, around_of, words_of}
use Rattle.bm_exec_levels.specs.Ready.{word_of}
use Rattle.bm_exec_levels.specs.declared.processor.Processor.{Processor}

odd-in : (b : Bool) (w : ℕ) → w % 2 ≡ (if b then 1 else 0) → b ≡ true → w % 2 ≡ 1
odd-in b w h e = h ∙ ap (λ (x : Bool). if x then 1 else 0) e

begun-same : (whole i j : Bool) (v u : ℕ) → j ≡ i → (i ≡ true → u ≡ v) → (if whole then None else (if j then Some u else None)) ≡ (if whole then None else (if i then Some v else None))
begun-same true i j v u e f = refl
begun-same false true j v u e f = ap (λ (b : Bool). if b then Some u else None) e ∙ ap Some (f refl)
begun-same false false j v u e f = ap (λ (b : Bool). if b then Some u else None) e

-- the code is in a plain section
pub inside-is : (whole inside : Bool) (w : ℕ) → (whole || inside) ≡ (whole || is_some (if whole then None else (if inside then Some w else None)))
inside-is true inside w = refl
inside-is false true w = refl
inside-is false false w = refl

either : (a b : Bool) → (a || b) ≡ false → (a ≡ false) × (b ≡ false)
either true b e = absurd (cc)
either false b e = (refl, e)

pub outside-is : (whole inside : Bool) (w : ℕ) → (whole || is_some (if whole then None else (if inside then Some w else None))) ≡ false → (whole ≡ false) × (inside ≡ false)
outside-is whole inside w e = either whole inside (inside-is whole inside w ∙ e)

-- the section that was begun goes on
pub begun-is : (whole inside : Bool) (w v : ℕ) → (if whole then None else (if inside then Some w else None)) ≡ Some v → (whole ≡ false) × (inside ≡ true) × (w ≡ v)
begun-is true inside w v e = absurd (cc)
begun-is false true w v e = (refl, refl, cc)
begun-is false false w v e = absurd (cc)

pub not-whole : {A : Type 0} (whole : Bool) → whole ≡ false → whole ≡ true → A
not-whole true e h = absurd (cc)
not-whole false e h = absurd (cc)

module _ {W : Type 0} (knows : Knows W) where
  pub scripted-of : (whole : Bool) (a b : Processor W) → (whole ≡ true → a.inside ≡ true) → word_of knows Plain a % 2 ≡ (if a.inside then 1 else 0) → Statements knows a b → Scripted knows whole a b
  scripted-of whole a b h r s = record {
    ordinary = s.ordinary;
    fewer = s.fewer;
    running = s.running;
    tracing = s.tracing;
    plain = λ e. s.inner (odd-in a.inside (word_of knows Plain a) r (h e));
  }

  pub around-same : (whole : Bool) (a b : Processor W) → word_of knows Plain a % 2 ≡ (if a.inside then 1 else 0) → Statements knows a b → around_of knows whole b ≡ around_of knows whole a
  around-same whole a b r s = ap (λ (o : Option ℕ). with_begun o (around_of knows whole a)) (begun-same whole a.inside b.inside (word_of knows Plain a) (word_of knows Plain b) s.inside (λ e. s.inner (odd-in a.inside (word_of knows Plain a) r e)))

  pub words-most : (a b : Processor W) → Statements knows a b → words_of knows b ≤ words_of knows a
  words-most a b s = (let i : (if b.inside then 1 else 0) ≡ (if a.inside then 1 else 0) = ap (λ (x : Bool). let n : ℕ = if x then 1 else 0 in n) s.inside in let w = s.words in omega (arith, i, w))

  -- a section begins, where the script was in none
  pub around-begun : (whole : Bool) (a b : Processor W) → whole ≡ false → b.inside ≡ true → around_of knows whole b ≡ with_begun (Some (word_of knows Plain b)) (around_of knows whole a)
  around-begun whole a b e f = ap (λ (o : Option ℕ). with_begun o (around_of knows whole a)) (ap (λ (x : Bool). if x then None else (if b.inside then Some (word_of knows Plain b) else None)) e ∙ ap (λ (x : Bool). if x then Some (word_of knows Plain b) else None) f)

  pub around-ended : (whole : Bool) (a b : Processor W) → whole ≡ false → b.inside ≡ false → around_of knows whole b ≡ with_begun None (around_of knows whole a)
  around-ended whole a b e f = ap (λ (o : Option ℕ). with_begun o (around_of knows whole a)) (ap (λ (x : Bool). if x then None else (if b.inside then Some (word_of knows Plain b) else None)) e ∙ ap (λ (x : Bool). if x then Some (word_of knows Plain b) else None) f)

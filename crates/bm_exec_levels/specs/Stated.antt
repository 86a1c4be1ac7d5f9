-- Statements of ordinary code, one after the other.
use Rattle.std.proofs.Common.{◌≡◌, Bool, refl, ◌∙◌, arith}
use Rattle.bm_journal.specs.declared.ids.Domain.TheVariants.{Plain}
use Rattle.bm_exec_levels.specs.Ordinary.{Ordinary, Scripted, Statements}
use Rattle.bm_exec_levels.specs.declared.processor.Processor.{Processor}
use Rattle.bm_grace.specs.declared.grace.Knows.{Ghosts as Knows}

module _ {W : Type 0} (knows : Knows W) where
  pub ordinary-same : (m : Processor W) → Ordinary knows m m
  ordinary-same m = record { processors = refl; processor = refl }

  -- what each of two stretches leaves, both leave
  pub ordinary-joined :
      (a b c : Processor W) → Ordinary knows a b → Ordinary knows b c → Ordinary knows a c
  ordinary-joined a b c x y =
      record { processors = y.processors ∙ x.processors; processor = y.processor ∙ x.processor }

  -- where nothing is done
  pub statements-same : (m : Processor W) → Statements knows m m
  statements-same m = record {
    ordinary = ordinary-same m;
    fewer = omega arith;
    running = refl;
    inside = refl;
    parity = λ d. refl;
    inner = λ h. refl;
    tracing = refl;
    words = omega arith;
  }

  -- what each of two statements leaves, both leave
  pub statements-joined :
      (a b c : Processor W) → Statements knows a b → Statements knows b c → Statements knows a c
  statements-joined a b c x y = record {
    ordinary = ordinary-joined a b c x.ordinary y.ordinary;
    fewer = (let v = x.fewer in let w = y.fewer in omega (arith, v, w));
    running = y.running ∙ x.running;
    inside = y.inside ∙ x.inside;
    parity = λ d. y.parity d ∙ x.parity d;
    inner = λ h. y.inner (x.parity Plain ∙ h) ∙ x.inner h;
    tracing = y.tracing ∙ x.tracing;
    words = (let v = x.words in let w = y.words in omega (arith, v, w));
  }

  -- ---- of a script

  pub scripted-same : (whole : Bool) (m : Processor W) → Scripted knows whole m m
  scripted-same whole m =
      record {
        ordinary = ordinary-same m;
        fewer = omega arith;
        running = refl;
        tracing = refl;
        plain = λ h. refl;
      }

  pub scripted-joined :
      (whole other : Bool) (a b c : Processor W) → other ≡ whole → Scripted knows whole a b
      → Scripted knows other b c → Scripted knows whole a c
  scripted-joined whole other a b c e x y = record {
    ordinary = ordinary-joined a b c x.ordinary y.ordinary;
    fewer = (let v = x.fewer in let w = y.fewer in omega (arith, v, w));
    running = y.running ∙ x.running;
    tracing = y.tracing ∙ x.tracing;
    plain = λ h. y.plain (e ∙ h) ∙ x.plain h;
  }

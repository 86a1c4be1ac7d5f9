-- How a log grows by parts, where it stands beside placed caches.
use Rattle.std.proofs.Common.{◌≡◌, ℕ, ◌++◌, Option, IfSome, refl, subst}
use Rattle.bm_journal.specs.declared.counts.Counts.{Counts}
use Rattle.bm_law.specs.State.{seen}
use Rattle.bm_law.specs.Lists.{Log, after, Leaves}
use Rattle.bm_cache.specs.Tokens.{number_of}
use Rattle.bm_cache.specs.Shown.{shown}
use Rattle.bm_cache.specs.Placed.{Placed}
use Rattle.bm_cache.specs.declared.caches.Caches.{Caches}
use Rattle.bm_law_work.specs.Parts.{Part, Then}
use Rattle.bm_law_work.specs.Grown.{GrewBy}
use Rattle.bm_law_work.proofs.Grown.{grew-join}
pub use Rattle.bm_law_work.proofs.Grown.{grew-none, grew-stand, grew-say, grew-map, stand-after, say-after, then-after}

module _ {R : Type 0} (log : R → Option Log) (counts : R → Counts) where
  -- the same, of placed caches
  pub grew-parts : (P Q W : Part) (x y : Caches R) (c : Option Log) → ((one two : Log) → P (seen number_of (shown x)) one → Q (after (seen number_of (shown x)) one) two → W (seen number_of (shown x)) (one ++ two)) → y.processor ≡ x.processor → Placed log counts x → Placed log counts y → GrewBy P (seen number_of (shown x)) (log x.recorder) (log y.recorder) → GrewBy Q (seen number_of (shown y)) (log y.recorder) c → GrewBy W (seen number_of (shown x)) (log x.recorder) c
  grew-parts P Q W x y c f e p q g h =
      let L : ℕ → Type 0 = λ n. IfSome (log y.recorder) (λ es. Leaves n es (seen number_of (shown y))) in
      grew-join P Q W x.processor (seen number_of (shown x)) (seen number_of (shown y)) (log x.recorder) (log y.recorder) c f p.told (subst L e q.told) g h

  pub grew-then : (P Q : Part) (x y : Caches R) (c : Option Log) → y.processor ≡ x.processor → Placed log counts x → Placed log counts y → GrewBy P (seen number_of (shown x)) (log x.recorder) (log y.recorder) → GrewBy Q (seen number_of (shown y)) (log y.recorder) c → GrewBy (Then P Q) (seen number_of (shown x)) (log x.recorder) c
  grew-then P Q x y c e p q g h = grew-parts P Q (Then P Q) x y c (λ one two i j. record { one = one; two = two; part_is = refl; is_first = i; is_second = j }) e p q g h

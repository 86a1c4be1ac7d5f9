-- Units that may be put on Free.
use Rattle.std.specs.Prelude.{◌≡◌, ℕ, ◌++◌, List}
use Rattle.bm_law.specs.State.{Deferred}
use Rattle.bm_cache.specs.Tests.{Tests, Reusable}
use Rattle.bm_cache.specs.Tokens.{Token}

-- a unit of this class that may be used again
pub record Fit (tests : Tests) (c : ℕ) (u : Token) : Type 0 where
  pub class : u.class ≡ c
  pub reusable : Reusable tests u

-- First has at most more on top; Ready and Second stand
pub record More (d e : Deferred Token) : Type 0 where
  pub more : List Token
  pub first : e.first ≡ more ++ d.first
  pub ready : e.ready ≡ d.ready
  pub second : e.second ≡ d.second

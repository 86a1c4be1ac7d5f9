-- Units that stand in a list.
use Rattle.std.proofs.Common.{◌<◌, ℕ, [], ◌∷◌, refl, arith, eq-eqb}
use Rattle.bm_law.specs.Stands.{times}

-- a number stands in the list of it alone
pub times-self : (n : ℕ) → 0 < times n (n ∷ [])
times-self n = rw (eq-eqb n n refl) (omega arith)

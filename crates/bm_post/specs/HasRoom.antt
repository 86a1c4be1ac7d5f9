-- Room for one life more. (This project's own: numbers and lives are.)
use Rattle.std.specs.Prelude.{◌≡◌, ℕ, ◌+◌, ◌^◌, ◌<◌, ◌&&◌, nat_lt, Bool, true, Option}
use Rattle.std.proofs.lemmas.Bool.{and_parts, ltb-true}
use Rattle.bm_page.specs.declared.units.Seal.{Seal}

-- a number is one that a unit may have, and a unit with these lives so far has room for one more
abbrev pub has_room : ℕ → ℕ → Bool
has_room n life = nat_lt n (2 ^ 16) && nat_lt (life + 1) (2 ^ 32)

-- that is what the test says
pub room-of :
    (n life : ℕ) (seal : Option Seal) → has_room n life ≡ true → (n < 2 ^ 16) × (life + 1 < 2 ^ 32)
room-of n life seal h =
    let p = and_parts (nat_lt n (2 ^ 16)) (nat_lt (life + 1) (2 ^ 32)) h in
    (ltb-true n (2 ^ 16) p.0, ltb-true (life + 1) (2 ^ 32) p.1)

-- The tests of units that a desk tells its caches, by the rights that its side of the world has. (This project's own.)
use Rattle.std.specs.Prelude.{ℕ, zero, suc, ◌+◌, Bool, ◌&&◌, None, is_none}
use Rattle.bm_journal.specs.declared.ids.Domain.{Domain}
use Rattle.bm_journal.specs.declared.ids.Domain.TheVariants.{Plain, Tracing}
use Rattle.bm_grace.specs.Rights.{Rights, seal_by}
use Rattle.bm_grace.specs.declared.answer.Done.{Done}
use Rattle.bm_grace.specs.declared.answer.Done.TheVariants.{Passed, NotYet}
use Rattle.bm_cache.specs.Tokens.{Token}
use Rattle.bm_cache.specs.Tests.{Tests, Passes, Waits}

-- What may be true of a unit of mine: for 0 that it has been mine since a stamp of a domain, and for n + 1 that it is ripe
-- by that stamp and the number n.
pub record Fact : Type 0 where
  pub domain : Domain
  pub stamp : ℕ
  pub number : ℕ

abbrev pub is_ripe : Rights → Fact → ℕ → ℕ → ℕ → Bool
is_ripe rights f zero n life = rights.since f.domain f.stamp n
is_ripe rights f (suc number) n life = rights.ripe n life (seal_by f.domain f.stamp number)

abbrev pub holds_of : Rights → Fact → ℕ → ℕ → Bool
holds_of rights f n life = rights.mine n && is_ripe rights f f.number n life

-- All facts stand in one list: pairs of a place among the stamps and a number, by their sum, and the stamps of both domains
-- in turn.
abbrev pub onward : ℕ × ℕ → ℕ × ℕ
onward (zero, b) = (suc b, 0)
onward (suc a, b) = (a, suc b)

abbrev pub pair_at : ℕ → ℕ × ℕ
pair_at zero = (0, 0)
pair_at (suc k) = onward (pair_at k)

abbrev pub stamp_at : ℕ → Domain × ℕ
stamp_at zero = (Plain, 0)
stamp_at (suc zero) = (Tracing, 0)
stamp_at (suc (suc n)) = ((stamp_at n).0, suc (stamp_at n).1)

abbrev pub fact_at : ℕ → Fact
fact_at k =
    let p = pair_at k in
    record { domain = (stamp_at p.0).0; stamp = (stamp_at p.0).1; number = p.1 }

-- the places of pairs, stamps and facts in these lists
abbrev pub triangle : ℕ → ℕ
triangle zero = 0
triangle (suc s) = suc (triangle s + s)

abbrev pub stamp_place : Domain → ℕ → ℕ
stamp_place Plain zero = 0
stamp_place Tracing zero = 1
stamp_place d (suc x) = suc (suc (stamp_place d x))

abbrev pub fact_place : Domain → ℕ → ℕ → ℕ
fact_place d x number = triangle (stamp_place d x + number) + number

-- the test that a unit has been mine since a stamp was taken, and the one that it is ripe by that stamp and a number
abbrev pub since_test : Domain → ℕ → ℕ
since_test d x = suc (suc (fact_place d x 0))

abbrev pub ripe_test : Domain → ℕ → ℕ → ℕ
ripe_test d x number = suc (suc (fact_place d x (suc number)))

-- A unit may be used again where it is mine and settled, and it waits where it is mine and due, without a seal. The other
-- tests are the facts.
abbrev pub tests_by : Rights → Tests
tests_by rights zero n life seal = rights.mine n && rights.settled n life seal
tests_by rights (suc zero) n life seal = rights.mine n && (rights.due n life None && is_none seal)
tests_by rights (suc (suc k)) n life seal = holds_of rights (fact_at k) n life

-- A number was seen that passes a stamp: a unit that waited, and has been mine since the stamp, is ripe by both.
abbrev pub Ripened : Tests → Tests → Domain → ℕ → Done → Token → Type 0
Ripened before now d x (Passed number) u =
    Waits before u → Passes before (since_test d x) u → Passes now (ripe_test d x number) u
Ripened before now d x (NotYet number) u = Unit {0}

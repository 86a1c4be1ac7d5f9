-- The tests of units, where what a side tells of them is as it was: of all units, or of all but one.
use Rattle.std.proofs.Common.{◌≡◌, ◌≢◌, ℕ, zero, suc, Bool, Option, None, refl}
use Rattle.std.specs.Prelude.{◌&&◌, is_none}
use mathlib.Core.Path.{fun_ext}
use Rattle.bm_page.specs.declared.units.Seal.{Seal}
use Rattle.bm_journal.specs.declared.ids.Domain.{Domain}
use Rattle.bm_grace.specs.Rights.{AsBefore, Rights}
use Rattle.bm_work.specs.DeskTests.{Fact, fact_at, is_ripe, tests_by}
use Rattle.bm_world.specs.Lives.{OthersAsBefore}

-- Two rights that tell the same of one unit.
record TellsSame (r q : Rights) (n : ℕ) : Type 0 where
  mine : q.mine n ≡ r.mine n
  settled : (life : ℕ) (seal : Option Seal) → q.settled n life seal ≡ r.settled n life seal
  due : (life : ℕ) (seal : Option Seal) → q.due n life seal ≡ r.due n life seal
  ripe : (life : ℕ) (seal : Option Seal) → q.ripe n life seal ≡ r.ripe n life seal
  since : (d : Domain) (x : ℕ) → q.since d x n ≡ r.since d x n

ripe-same : (r q : Rights) (n life : ℕ) (f : Fact) (number : ℕ) → TellsSame r q n → is_ripe q f number n life ≡ is_ripe r f number n life
ripe-same r q n life f zero s = s.since f.domain f.stamp
ripe-same r q n life f (suc number) s = s.ripe life _

and-same : (a b c d : Bool) → a ≡ b → c ≡ d → (a && c) ≡ (b && d)
and-same a b c d e f = rw (e, f) refl

-- so the tests of the unit are the same
tests-same : (r q : Rights) (n : ℕ) → TellsSame r q n → (k life : ℕ) (seal : Option Seal) → tests_by q k n life seal ≡ tests_by r k n life seal
tests-same r q n s zero life seal = and-same (q.mine n) (r.mine n) (q.settled n life seal) (r.settled n life seal) s.mine (s.settled life seal)
tests-same r q n s (suc zero) life seal =
    and-same (q.mine n) (r.mine n) (q.due n life None && is_none seal) (r.due n life None && is_none seal) s.mine (and-same (q.due n life None) (r.due n life None) (is_none seal) (is_none seal) (s.due life None) refl)
tests-same r q n s (suc (suc k)) life seal =
    let f : Fact = fact_at k in
    and-same (q.mine n) (r.mine n) (is_ripe q f f.number n life) (is_ripe r f f.number n life) s.mine (ripe-same r q n life f f.number s)

-- everything is as it was
pub tests-before : (r q : Rights) → AsBefore r q → tests_by q ≡ tests_by r
tests-before r q s = fun_ext (λ k. fun_ext (λ n. fun_ext (λ life. fun_ext (λ seal. tests-same r q n (same n) k life seal))))
  where
    same : (n : ℕ) → TellsSame r q n
    same n = record { mine = s.mine n; settled = s.settled n; due = s.due n; ripe = s.ripe n; since = λ d x. s.since d x n }

-- .. of all units but one
pub tests-others : (u : ℕ) (r q : Rights) → OthersAsBefore u r q → (k n life : ℕ) (seal : Option Seal) → n ≢ u → tests_by q k n life seal ≡ tests_by r k n life seal
tests-others u r q s k n life seal h = tests-same r q n (record { mine = s.mine n h; settled = λ life seal. s.settled n life seal h; due = λ life seal. s.due n life seal h; ripe = λ life seal. s.ripe n life seal h; since = λ d x. s.since d x n h }) k life seal

use Rattle.std.proofs.Common.{◌≡◌, ℕ, true, false, List, [], ◌∷◌, length, arith, refl, ap}
use Rattle.bm_law_graphs.specs.History.{Placed}
use Rattle.bm_law_graphs.specs.Worked.{q}
use Rattle.bm_law_graphs.proofs.worked.wrong_laws.Goals as goal

abbrev first_serial : List Placed → ℕ
first_serial [] = 0
first_serial (x ∷ xs) = x.tag.serial

false-true : false ≡ true → ⊥
false-true e = cc

pub returns-clause-left_out : goal.returns-clause-left_out
returns-clause-left_out c h = let fewer = ap length (h.parts 0) in omega (arith, fewer)

pub returns-clause-twice : goal.returns-clause-twice
returns-clause-twice c h = let longer = ap length (h.parts 0) in omega (arith, longer)

pub returns-clause-tag : goal.returns-clause-tag
returns-clause-tag c h = let other = ap first_serial (h.parts 0) in omega (arith, other)

pub returns-clause-order : goal.returns-clause-order
returns-clause-order c h = let other = ap first_serial (h.parts 0) in omega (arith, other)

pub returns-clause-own : goal.returns-clause-own
returns-clause-own c h = false-true ((h q).0.own refl)

pub returns-clause-slot : goal.returns-clause-slot
returns-clause-slot c h = (h q).0.put

pub returns-clause-nothing : goal.returns-clause-nothing
returns-clause-nothing c h = (h q).0.put

pub returns-clause-other : goal.returns-clause-other
returns-clause-other c h = let same = (h q).1.0.only refl in omega (arith, same)

pub returns-clause-between : goal.returns-clause-between
returns-clause-between c h = let next = (h q 0 (omega arith)).1.1.0.0 in omega (arith, next)

pub returns-clause-never : goal.returns-clause-never
returns-clause-never c h = let once = h 3 1 in omega (arith, once)

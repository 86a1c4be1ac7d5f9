use Rattle.std.proofs.Common.{◌≡◌, ◌≤◌, ◌+◌, ℕ, [], ◌∷◌, map, refl, arith, inl, inr}
use Rattle.std.proofs.lemmas.Bool.Decides.{eqb_tells}
use Rattle.bm_law.specs.Stands.{times}
use Rattle.bm_cache.specs.Tokens.{number_of}
use Rattle.bm_cache.proofs.Outside.{stands-filled}
use Rattle.bm_tests_machine.proofs.cache_move_tests.two_beside.Goals as goal

-- four units of different numbers
four-once : (n : ℕ) → times n (0 ∷ 1 ∷ []) + times n (3 ∷ 2 ∷ []) ≤ 1
four-once n =
    elim (eqb_tells n 0) [
      | inl y ↦ rw y.1 (omega arith)
      | inr y ↦ rw y.0 (elim (eqb_tells n 1) [
        | inl z ↦ rw z.1 (omega arith)
        | inr z ↦ rw z.0 (elim (eqb_tells n 3) [
          | inl w ↦ rw w.1 (omega arith)
          | inr w ↦ rw w.0 (elim (eqb_tells n 2) [
            | inl v ↦ rw v.0 (omega arith)
            | inr v ↦ rw v.0 (omega arith)
          ])
        ])
      ])
    ]

pub returns-clause-fresh : goal.returns-clause-fresh
returns-clause-fresh g c n =
    let free : map number_of c.pair-free.result.items ≡ 0 ∷ 1 ∷ [] = rw (c.pair-free.ensures, c.first_four-a.ensures.numbers.0, c.first_four-a.ensures.numbers.1) refl in
    let rest : map number_of c.pair-rest.result.items ≡ 3 ∷ 2 ∷ [] = rw (c.pair-rest.ensures, c.first_four-a.ensures.numbers.3, c.first_four-a.ensures.numbers.2) refl in
    let s = stands-filled c.opened.result c.pair-free.result.items n c.opened.ensures.lists in
    rw (s, free, rest) (four-once n)

use Rattle.std.proofs.Common.{◌<◌, ◌≤◌, ◌-◌, ℕ, List, map, sym, subst, arith}
use Rattle.std.specs.List.{All}
use Rattle.bm_law.specs.Stands.{times}
use Rattle.bm_cache.specs.Each.{Sits}
use Rattle.bm_cache.specs.Tokens.{Token, number_of}
use Rattle.bm_work_lists.proofs.Ranges.{once-more, lower}
use Rattle.bm_work_lists.proofs.Takes.{all-more}
use Rattle.bm_tests_machine.proofs.work_tests.between.Goals as goal

pub units-preserved : goal.units-preserved
units-preserved g c =
    let v = c.units.invariant in
    let us = c.units.taken.items in
    let u = c.last-unit.result in
    let e = c.put_in.ensures in
    let n : u.number < c.units.number = omega (arith, c.last-unit.ensures.number, c.units-test.true) in
    let k : c.args.floor ≤ u.number = omega (arith, c.last-unit.ensures.number, c.units-test.true) in
    let b : u.number < c.args.below = omega (arith, n, v.most) in
    let s : Sits 0 u = record { class = c.last-unit.ensures.class; numbered = record { number = omega arith; life = omega (arith, c.last-unit.ensures.life) } } in
    let S : List Token → Type 0 = λ ws. All (Sits 0) ws in
    let O : List Token → Type 0 = λ ws. (n : ℕ) → times n (map number_of ws) ≤ 1 in
    let W : List Token → Type 0 = λ ws. All (λ (w : Token). (c.args.floor ≤ w.number) × (w.number < c.args.below)) ws in
    let A : List Token → Type 0 = λ ws. All (λ (w : Token). c.units.number - 1 ≤ w.number) ws in
    record {
      most = omega arith;
      sit = subst S (sym e) (all-more (Sits 0) us u v.sit s);
      once = subst O (sym e) (λ m. once-more m c.units.number us u n v.above (v.once m));
      within = subst W (sym e) (all-more (λ (w : Token). (c.args.floor ≤ w.number) × (w.number < c.args.below)) us u v.within (k, b));
      above = subst A (sym e) (all-more (λ (w : Token). c.units.number - 1 ≤ w.number) us u (lower c.units.number us v.above) (omega (arith, c.last-unit.ensures.number)));
    }

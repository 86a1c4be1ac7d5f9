use Rattle.std.proofs.Common.{◌≡◌, ◌∷◌, ◌++◌, [], List, length, map, reverse, set, subst, refl, ap, ◌∙◌, arith}
use Rattle.std.proofs.lemmas.List.{reverse-append, reverse-reverse}
use Rattle.bm_page.specs.UnitState.{UnitState}
use Rattle.bm_law.specs.Places.{list_at}
use Rattle.bm_law.specs.Stands.{times}
use Rattle.bm_law.proofs.Seen.{map-reverse}
use Rattle.bm_law.proofs.Stands.{times-reverse}
use Rattle.bm_cache_lists.specs.Housed.{number_of, row_at}
use Rattle.bm_cache_lists.specs.Stacks.{with_list}
use Rattle.bm_cache_lists.proofs.Houses.{eleven-rows}
use Rattle.bm_cache_lists.proofs.Loops.{Pushing, pushing-all, pushing-step, fresh-head, written-none}
use Rattle.bm_cache_lists.proofs.rows.Rows.put_on.Goals as goal

-- from the back a list is its last item and what stands before that
from-back : (us vs : List UnitState) (u : UnitState) → us ≡ vs ++ u ∷ [] → reverse us ≡ u ∷ reverse vs
from-back us vs u e = ap (λ (xs : List UnitState). reverse xs) e ∙ reverse-append vs (u ∷ [])

none-left : (us : List UnitState) → length us ≡ 0 → us ≡ []
none-left [] e = refl
none-left (u ∷ us) e = absurd (omega (arith, e))

pub loop-unit-init : goal.loop-unit-init
loop-unit-init c =
    let old = c.args.self.now in
    record {
      written = written-none c.args.row c.args.stack old (eleven-rows c.self.inside.places.items c.self.inside.lines.items old c.self.invariant.0 c.self.view_is);
      moved = refl;
      fresh = λ n i.
          let e : times n (map number_of (reverse c.args.units.items)) ≡ times n (map number_of c.args.units.items) =
          ap (times n) (map-reverse number_of c.args.units.items) ∙ times-reverse n (map number_of c.args.units.items) in
          omega (arith, e, c.requires.fresh n i);
    }

pub push-requires : goal.push-requires
push-requires c =
    let vs = c.pop.new.self.items in
    let u = c.in-Some.unit in
    let p = subst (λ (us : List UnitState). Pushing c.args.row c.args.stack (reverse c.args.units.items) us c.args.self.now c.loop-unit.self) (from-back c.loop-unit.rest.items vs u c.in-Some.ensures.items) c.loop-unit.invariant in
    record { row = c.requires.row; fresh = λ i. fresh-head u.number i u (reverse vs) c.loop-unit.self refl (p.fresh u.number i) }

pub loop-unit-preserved : goal.loop-unit-preserved
loop-unit-preserved c =
    let vs = c.pop.new.self.items in
    let u = c.in-Some.unit in
    let p = subst (λ (us : List UnitState). Pushing c.args.row c.args.stack (reverse c.args.units.items) us c.args.self.now c.loop-unit.self) (from-back c.loop-unit.rest.items vs u c.in-Some.ensures.items) c.loop-unit.invariant in
    pushing-step c.args.row c.args.stack (reverse c.args.units.items) (reverse vs) u c.args.self.now c.loop-unit.self c.push.new.self c.requires.row p c.push.ensures

pub returns : goal.returns
returns c =
    let old = c.args.self.now in
    let k = c.args.stack in
    let r = row_at old c.args.row in
    let us = c.args.units.items in
    let none : reverse c.loop-unit.rest.items ≡ [] = ap (λ (xs : List UnitState). reverse xs) (none-left c.loop-unit.rest.items (omega (arith, c.in_default.ensures.cases.0, c.loop-unit.rest.ok.0))) in
    let p = subst (λ (xs : List UnitState). Pushing c.args.row k (reverse us) xs old c.loop-unit.self) none c.loop-unit.invariant in
    pushing-all c.args.row k (reverse us) old c.loop-unit.self c.requires.row p
    ∙ ap (λ (xs : List UnitState). set old c.args.row (with_list k (xs ++ list_at k r) r)) (reverse-reverse us)

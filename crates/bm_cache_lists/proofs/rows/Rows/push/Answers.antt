use Rattle.std.proofs.Common.{◌≡◌, ◌<◌, ℕ, List, Option, Some, None, arith, ◌∙◌, sym, ap, subst, set, get_or, length, ◌∷◌}
use Rattle.std.proofs.lemmas.List.{get_or_read}
use Rattle.bm_page.specs.UnitState.{UnitState}
use Rattle.bm_law.specs.State.{Row, seen_row}
use Rattle.bm_law.specs.Stands.{in_row}
use Rattle.bm_law.specs.Places.{list_at}
use Rattle.bm_cache_lists.specs.Stacks.{with_list}
use Rattle.bm_cache_lists.specs.Housed.{rows_of, row_at, number_of}
use Rattle.bm_cache_lists.proofs.Houses.{fresh-line, fresh-place, rows-longer, housed-longer, pushed-housed, pushed-view}
use Rattle.bm_cache_lists.proofs.rows.Rows.push.Goals as goal

pub push-requires : goal.push-requires
push-requires c =
    let f = subst (λ (rs : List (Row UnitState)). (i : ℕ) → in_row c.args.unit.number (seen_row number_of (row_at rs i)) ≡ 0) (sym c.self.view_is) c.requires.fresh in
    ap (λ (n : ℕ). in_row n c.index_mut.result.now) c.number-number.ensures ∙ fresh-line c.self.inside.places.items c.self.inside.lines.items c.args.row c.args.stack c.args.unit c.index_mut.result.now c.index_mut.result.now c.self.invariant.0 c.requires.row f c.index_mut.ensures.value

pub unreachable-requires : goal.unreachable-requires
unreachable-requires c =
    let places = c.reach.new.places.items in
    let v : rows_of places c.self.inside.lines.items ≡ c.args.self.now = rows-longer c.self.inside.places.items places c.reach.ensures.longer c.self.inside.lines.items ∙ c.self.view_is in
    let h = housed-longer c.self.inside.places.items places c.reach.ensures.longer c.self.inside.lines.items c.reach.ensures.short c.self.invariant.0 in
    let f = subst (λ (rs : List (Row UnitState)). (i : ℕ) → in_row c.args.unit.number (seen_row number_of (row_at rs i)) ≡ 0) (sym v) c.requires.fresh in
    let z = fresh-place places c.self.inside.lines.items c.args.row c.args.stack c.args.unit c.index_mut.result.now c.push.new.self h c.requires.row f c.index_mut.ensures.value in
    let r : c.index_mut-2.result.now ≡ get_or places c.number-number.result None = get_or_read places c.number-number.result c.index_mut-2.result.now c.reach.ensures.number c.index_mut-2.ensures.value None in
    let w : Some c.in-Some._other ≡ None = sym c.in-Some.is ∙ c.replace.ensures.value ∙ r ∙ ap (λ (n : ℕ). get_or places n None) c.number-number.ensures ∙ z in
    grind (arith, w)

pub invariant_of-self : goal.invariant_of-self
invariant_of-self c =
    let places = c.reach.new.places.items in
    let v : rows_of places c.self.inside.lines.items ≡ c.args.self.now = rows-longer c.self.inside.places.items places c.reach.ensures.longer c.self.inside.lines.items ∙ c.self.view_is in
    let h = housed-longer c.self.inside.places.items places c.reach.ensures.longer c.self.inside.lines.items c.reach.ensures.short c.self.invariant.0 in
    let f = subst (λ (rs : List (Row UnitState)). (i : ℕ) → in_row c.args.unit.number (seen_row number_of (row_at rs i)) ≡ 0) (sym v) c.requires.fresh in
    let b : c.args.unit.number < length places = omega (arith, c.reach.ensures.number, c.number-number.ensures) in
    let q : c.push.new.self ≡ with_list c.args.stack (c.args.unit.number ∷ list_at c.args.stack c.index_mut.result.now) c.index_mut.result.now = c.push.ensures ∙ ap (λ (n : ℕ). with_list c.args.stack (n ∷ list_at c.args.stack c.index_mut.result.now) c.index_mut.result.now) c.number-number.ensures in
    (rw (c.replace.ensures.after, c.number-number.ensures) (pushed-housed places c.self.inside.lines.items c.args.row c.args.stack c.args.unit c.index_mut.result.now c.push.new.self h c.requires.row f c.index_mut.ensures.value b q), c.reach.ensures.room)

pub returns : goal.returns
returns c =
    let places = c.reach.new.places.items in
    let v : rows_of places c.self.inside.lines.items ≡ c.args.self.now = rows-longer c.self.inside.places.items places c.reach.ensures.longer c.self.inside.lines.items ∙ c.self.view_is in
    let h = housed-longer c.self.inside.places.items places c.reach.ensures.longer c.self.inside.lines.items c.reach.ensures.short c.self.invariant.0 in
    let f = subst (λ (rs : List (Row UnitState)). (i : ℕ) → in_row c.args.unit.number (seen_row number_of (row_at rs i)) ≡ 0) (sym v) c.requires.fresh in
    let b : c.args.unit.number < length places = omega (arith, c.reach.ensures.number, c.number-number.ensures) in
    let q : c.push.new.self ≡ with_list c.args.stack (c.args.unit.number ∷ list_at c.args.stack c.index_mut.result.now) c.index_mut.result.now = c.push.ensures ∙ ap (λ (n : ℕ). with_list c.args.stack (n ∷ list_at c.args.stack c.index_mut.result.now) c.index_mut.result.now) c.number-number.ensures in
    let w = pushed-view places c.self.inside.lines.items c.args.row c.args.stack c.args.unit c.index_mut.result.now c.push.new.self h c.requires.row f c.index_mut.ensures.value b q in
    rw (← v) (ap (λ (o : Option UnitState). rows_of (set places c.number-number.result o) (set c.self.inside.lines.items c.args.row c.push.new.self)) c.replace.ensures.after ∙ ap (λ (n : ℕ). rows_of (set places n (Some c.args.unit)) (set c.self.inside.lines.items c.args.row c.push.new.self)) c.number-number.ensures ∙ w)

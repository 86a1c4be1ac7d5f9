use Rattle.std.proofs.Common.{◌≡◌, ◌<◌, ◌/◌, length, ap, sym, ◌∙◌}
use Rattle.std.proofs.lemmas.List.{get_or_default}
use Rattle.bm_page.specs.Stock.{Stock, stocked_at, unborn, class_at}
use Rattle.bm_page.proofs.StockLemmas.{IsPool-given}
use Rattle.bm_page.proofs.pool.Pool.give.Goals as goal

pub invariant_of-self : goal.invariant_of-self
invariant_of-self c =
    let units = c.self.inside.units.items in
    let classes = c.self.inside.classes.items in
    let same_units = ap (λ (s : Stock). s.units) c.self.view_is in
    let same_classes = ap (λ (s : Stock). s.classes) c.self.view_is in
    let inside : c.args.number < length units = rw same_units c.requires.inside in
    let was : c.index_mut-2.result.now ≡ stocked_at units c.args.number = c.index_mut-2.ensures.value ∙ get_or_default units c.args.number c.index_mut-2.result.now unborn inside in
    rw was
    (IsPool-given classes c.self.inside.lows.items units c.args.class c.args.number c.self.invariant inside c.requires.position
    (λ k at. c.requires.page k (sym (ap (λ cs. class_at cs (c.args.number / 256)) same_classes) ∙ at)))

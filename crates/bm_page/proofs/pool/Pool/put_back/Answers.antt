use Rattle.std.proofs.Common.{◌≡◌, ◌+◌, ◌<◌, ◌/◌, ◌%◌, true, false, length, get_or, set, ap, sym, ◌∙◌, arith}
use Rattle.std.specs.Prelude.{min}
use Rattle.std.proofs.lemmas.Grind.{get_or_default_zero}
use Rattle.bm_page.specs.declared.units.Stocked.{Stocked}
use Rattle.bm_page.specs.Stock.{Stock, stocked_at, any_out}
use Rattle.bm_page.specs.Out.{count_out}
use Rattle.bm_page.proofs.StockLemmas.{IsPool-kept, IsPool-emptied, out_inside, returned-kept-at, returned-emptied-at}
use Rattle.bm_page.proofs.OutLemmas.{are_out-returned, count-returned}
use Rattle.bm_page.proofs.pool.Pool.put_back.Goals as goal

pub invariant_of-self : goal.invariant_of-self
invariant_of-self c =
    let number = c.number-number.result in
    let units = c.self.inside.units.items in
    let lows = c.self.inside.lows.items in
    let same_units = ap (λ (s : Stock). s.units) c.self.view_is in
    let out : (stocked_at units number).out ≡ true = rw (c.number-number.ensures, same_units) c.requires.out in
    let inside : number < length units = out_inside units number out in
    let count = c.self.invariant.low_count in
    let unit_count = c.self.invariant.unit_count in
    let page : number / 256 < length lows = omega arith in
    let low = get_or_default_zero lows (number / 256) c.index.result.now page in
    let least : c.min.result ≡ min (get_or lows (number / 256) 0) (number % 256) = c.min.ensures ∙ ap (λ x. min x (number % 256)) (c.index.ensures ∙ low) in
    let back : c.enter_stock.result.out ≡ false = ap (λ (s : Stocked). s.out) c.enter_stock.ensures in
    let none : any_out (set units number c.enter_stock.result) (number / 256) ≡ false = ap (λ us. any_out us (number / 256)) (sym c.deref.ensures.value) ∙ (sym c.has_unit_out.ensures ∙ c.if-not-has_unit_out.true) in
    rw least
    (IsPool-emptied c.self.inside.classes.items lows units number c.enter_stock.result c.self.invariant inside back none)

pub invariant_of-self-else-not-has_unit_out : goal.invariant_of-self-else-not-has_unit_out
invariant_of-self-else-not-has_unit_out c =
    let number = c.number-number.result in
    let units = c.self.inside.units.items in
    let lows = c.self.inside.lows.items in
    let same_units = ap (λ (s : Stock). s.units) c.self.view_is in
    let out : (stocked_at units number).out ≡ true = rw (c.number-number.ensures, same_units) c.requires.out in
    let inside : number < length units = out_inside units number out in
    let count = c.self.invariant.low_count in
    let unit_count = c.self.invariant.unit_count in
    let page : number / 256 < length lows = omega arith in
    let low = get_or_default_zero lows (number / 256) c.index.result.now page in
    let least : c.min.result ≡ min (get_or lows (number / 256) 0) (number % 256) = c.min.ensures ∙ ap (λ x. min x (number % 256)) (c.index.ensures ∙ low) in
    let back : c.enter_stock.result.out ≡ false = ap (λ (s : Stocked). s.out) c.enter_stock.ensures in
    let any : any_out (set units number c.enter_stock.result) (number / 256) ≡ true = ap (λ us. any_out us (number / 256)) (sym c.deref.ensures.value) ∙ (sym c.has_unit_out.ensures ∙ c.if-not-has_unit_out.false) in
    rw least
    (IsPool-kept c.self.inside.classes.items lows units number c.enter_stock.result c.self.invariant inside back any)

pub returns-then-not-has_unit_out : goal.returns-then-not-has_unit_out
returns-then-not-has_unit_out c =
    let number = c.number-number.result in
    let units = c.self.inside.units.items in
    let none : any_out (set units number c.enter_stock.result) (number / 256) ≡ false = ap (λ us. any_out us (number / 256)) (sym c.deref.ensures.value) ∙ (sym c.has_unit_out.ensures ∙ c.if-not-has_unit_out.true) in
    let pool_is = sym (returned-emptied-at c.args.unit c.args.self.now c.self.inside.classes.items units number c.enter_stock.result (ap (λ (s : Stock). s.classes) c.self.view_is) (ap (λ (s : Stock). s.units) c.self.view_is) c.number-number.ensures c.enter_stock.ensures none) in
    record {
      pool = pool_is;
      fewer_out = ap (λ (s : Stock). count_out s.units + 1) pool_is ∙ count-returned c.args.unit c.args.self.now c.requires.out;
      out = λ before after are. rw pool_is (are_out-returned c.args.self.now c.args.unit before after are);
    }

pub returns-else-not-has_unit_out : goal.returns-else-not-has_unit_out
returns-else-not-has_unit_out c =
    let number = c.number-number.result in
    let units = c.self.inside.units.items in
    let any : any_out (set units number c.enter_stock.result) (number / 256) ≡ true = ap (λ us. any_out us (number / 256)) (sym c.deref.ensures.value) ∙ (sym c.has_unit_out.ensures ∙ c.if-not-has_unit_out.false) in
    let pool_is = sym (returned-kept-at c.args.unit c.args.self.now c.self.inside.classes.items units number c.enter_stock.result (ap (λ (s : Stock). s.classes) c.self.view_is) (ap (λ (s : Stock). s.units) c.self.view_is) c.number-number.ensures c.enter_stock.ensures any) in
    record {
      pool = pool_is;
      fewer_out = ap (λ (s : Stock). count_out s.units + 1) pool_is ∙ count-returned c.args.unit c.args.self.now c.requires.out;
      out = λ before after are. rw pool_is (are_out-returned c.args.self.now c.args.unit before after are);
    }

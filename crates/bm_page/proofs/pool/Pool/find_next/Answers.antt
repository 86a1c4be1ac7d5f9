use Rattle.std.proofs.Common.{◌+◌, refl, ap, sym, ◌∙◌, arith}
use Rattle.bm_page.specs.declared.pool.Walk.{Walk}
use Rattle.bm_page.specs.Stock.{lowest_page}
use Rattle.bm_page.proofs.WalkLemmas.{next_unit-stock, next_unit-page, next_unit-none, CanGive-stock, IsWalk-given, IsWalk-fresh}
use Rattle.bm_page.proofs.pool.Pool.find_next.Goals as goal

pub returns-in-Some-clause-next : goal.returns-in-Some-clause-next
returns-in-Some-clause-next c = next_unit-stock c.args.class c.args.self.now c.in-Some.number (sym c.in-Some.is ∙ c.find_stock.ensures.least)

pub returns-in-Some-clause-ready : goal.returns-in-Some-clause-ready
returns-in-Some-clause-ready c = CanGive-stock c.args.class c.args.self.now c.find_stock.new.walk.from c.in-Some.number c.in-Some.ensures.found

pub returns-in-Some-clause-walk : goal.returns-in-Some-clause-walk
returns-in-Some-clause-walk c =
    let found = c.in-Some.ensures.found in
    let on_page = found.on_page in
    IsWalk-given c.args.class c.args.self.now c.find_stock.new.walk c.in-Some.number c.find_stock.ensures.walk (omega arith) (omega arith)

pub returns-in_err-page-clause-next : goal.returns-in_err-page-clause-next
returns-in_err-page-clause-next c =
    c.from_residual.ensures
    ∙ next_unit-none c.args.class c.args.self.now (sym c.in_default.is ∙ c.find_stock.ensures.least) (sym c.in_err-page.was ∙ (c.find_fresh.ensures.lowest ∙ ap lowest_page c.find_stock.ensures.same))

pub returns-clause-next : goal.returns-clause-next
returns-clause-next c = next_unit-page c.args.class c.args.self.now c.in_ok-page.page (sym c.in_default.is ∙ c.find_stock.ensures.least) (sym c.in_ok-page.was ∙ (c.find_fresh.ensures.lowest ∙ ap lowest_page c.find_stock.ensures.same))

pub returns-clause-walk : goal.returns-clause-walk
returns-clause-walk c =
    let walk : Walk = record { from = c.in_ok-page.page; until = c.in_ok-page.page + 1; fresh = c.find_fresh.new.walk.fresh } in
    IsWalk-fresh c.args.class c.args.self.now walk c.in_ok-page.page
    c.in_default.ensures.none
    (rw c.find_stock.ensures.same at c.in_ok-page.ensures.found)
    refl
    refl
    (λ p lt. rw c.find_stock.ensures.same at (c.find_fresh.ensures.fresh p lt))

use Rattle.std.proofs.Common.{◌≤◌, sym, ◌∙◌}
use Rattle.bm_class.specs.Sizes.{units_per_page}
use Rattle.bm_page.proofs.WalkLemmas.{no_stock-other, no_stock-out, IsLeastOn-first, IfSome-weaker, IfNone-weaker}
use Rattle.bm_page.proofs.pool.Pool.find_on_page.Goals as goal

pub returns-then-not-is_page_of-clause-none : goal.returns-then-not-is_page_of-clause-none
returns-then-not-is_page_of-clause-none c = λ u on_page.
    no_stock-other c.args.class c.args.self.now c.args.page u (sym c.is_page_of.ensures ∙ c.if-not-is_page_of.true) on_page

pub returns-clause-none : goal.returns-clause-none
returns-clause-none c =
    IfNone-weaker c.find_position.result _ _
    (λ out u on_page. no_stock-out c.args.class c.args.self.now c.args.page u (λ k lt. out k (rw c.requires.carved lt)) on_page)
    c.find_position.ensures.none

pub returns-clause-found : goal.returns-clause-found
returns-clause-found c =
    let small : units_per_page c.args.class ≤ 256 = rw (← c.requires.carved) c.requires.positions in
    IfSome-weaker c.find_position.result _ _
    (λ number first. IsLeastOn-first c.args.class c.args.self.now c.args.page number (sym c.is_page_of.ensures ∙ c.if-not-is_page_of.false) small (rw (← c.requires.carved) first))
    c.find_position.ensures.found

use Rattle.std.proofs.Common.{◌≡◌, Some, ap, sym, ◌∙◌}
use Rattle.bm_page.specs.UnitState.{UnitState}
use Rattle.bm_page.specs.Stock.{given, unit_given}
use Rattle.bm_page.proofs.FetchLemmas.{number-unit_given}
use Rattle.bm_page.proofs.pool.Pool.give_next.Goals as goal

pub returns-clause-next : goal.returns-clause-next
returns-clause-next c =
    let number : c.give.result.number ≡ c.in_ok-number.number = ap (λ (u : UnitState). u.number) c.give.ensures.unit ∙ number-unit_given c.args.class c.in_ok-number.number c.find_next.new.self in
    sym c.find_next.ensures.next ∙ (c.in_ok-number.was ∙ ap (λ n. Some n) (sym number))

pub returns-clause-unit : goal.returns-clause-unit
returns-clause-unit c =
    let number : c.give.result.number ≡ c.in_ok-number.number = ap (λ (u : UnitState). u.number) c.give.ensures.unit ∙ number-unit_given c.args.class c.in_ok-number.number c.find_next.new.self in
    c.give.ensures.unit ∙ (ap (λ p. unit_given c.args.class c.in_ok-number.number p) c.find_next.ensures.same ∙ ap (λ n. unit_given c.args.class n c.args.self.now) (sym number))

pub returns-clause-pool : goal.returns-clause-pool
returns-clause-pool c =
    let number : c.give.result.number ≡ c.in_ok-number.number = ap (λ (u : UnitState). u.number) c.give.ensures.unit ∙ number-unit_given c.args.class c.in_ok-number.number c.find_next.new.self in
    c.give.ensures.pool ∙ (ap (λ p. given c.args.class c.in_ok-number.number p) c.find_next.ensures.same ∙ ap (λ n. given c.args.class n c.args.self.now) (sym number))

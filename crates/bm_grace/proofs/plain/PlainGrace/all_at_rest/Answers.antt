use Rattle.std.proofs.Common.{◌≡◌, ◌%◌, ◌<◌, IfSome, subst}
use Rattle.bm_grace.specs.AtRest.{IsDriven}
use Rattle.bm_grace.specs.PlainState.{PlainState, domain_in}
use Rattle.bm_grace.specs.Kept.{parity}
use Rattle.bm_grace.proofs.Rests.{all-driven, all-rest, none-left}
use Rattle.bm_grace.proofs.plain.PlainGrace.all_at_rest.Goals as goal

pub returns-clause-rest : goal.returns-clause-rest
returns-clause-rest c = all-rest c.args.self.now (subst (λ (s : PlainState). s.plain.number % 2 ≡ parity s.plain.driver) c.self.view_is c.parity_agrees.ensures) (subst (λ (s : PlainState). s.tracing.number % 2 ≡ parity s.tracing.driver) c.self.view_is c.parity_agrees-2.ensures) c.requires.outside

pub returns-clause-driven : goal.returns-clause-driven
returns-clause-driven c =
    all-driven c.args.self.now
    (subst (λ (s : PlainState). s.plain.number % 2 ≡ parity s.plain.driver) c.self.view_is c.parity_agrees.ensures)
    (subst (λ (s : PlainState). s.tracing.number % 2 ≡ parity s.tracing.driver) c.self.view_is c.parity_agrees-2.ensures)
    (subst (λ (s : PlainState). IfSome s.plain.driver (λ q. q < s.processors)) c.self.view_is c.self.invariant.plain_driver)
    (subst (λ (s : PlainState). IfSome s.tracing.driver (λ q. q < s.processors)) c.self.view_is c.self.invariant.tracing_driver)

pub returns-clause-ended : goal.returns-clause-ended
returns-clause-ended c d none =
    let g = c.args.self.now in
    let driven : IsDriven g.processors (domain_in d g) =
    all-driven g
    (subst (λ (s : PlainState). s.plain.number % 2 ≡ parity s.plain.driver) c.self.view_is c.parity_agrees.ensures)
    (subst (λ (s : PlainState). s.tracing.number % 2 ≡ parity s.tracing.driver) c.self.view_is c.parity_agrees-2.ensures)
    (subst (λ (s : PlainState). IfSome s.plain.driver (λ q. q < s.processors)) c.self.view_is c.self.invariant.plain_driver)
    (subst (λ (s : PlainState). IfSome s.tracing.driver (λ q. q < s.processors)) c.self.view_is c.self.invariant.tracing_driver)
    d in
    none-left g.processors (domain_in d g) driven none

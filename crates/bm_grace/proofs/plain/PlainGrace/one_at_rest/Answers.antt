use Rattle.std.proofs.Common.{◌≡◌, ◌%◌, ◌<◌, IfSome, subst}
use Rattle.bm_grace.specs.PlainState.{PlainState}
use Rattle.bm_grace.specs.Kept.{parity}
use Rattle.bm_grace.proofs.Rests.{one-rests, one-sole}
use Rattle.bm_grace.proofs.plain.PlainGrace.one_at_rest.Goals as goal

pub returns-clause-rest : goal.returns-clause-rest
returns-clause-rest c = one-rests c.args.self.now c.requires.one (subst (λ (s : PlainState). s.processor < s.processors) c.self.view_is c.self.invariant.turn) (subst (λ (s : PlainState). s.plain.number % 2 ≡ parity s.plain.driver) c.self.view_is c.parity_agrees.ensures) (subst (λ (s : PlainState). s.tracing.number % 2 ≡ parity s.tracing.driver) c.self.view_is c.parity_agrees-2.ensures) c.requires.outside

pub returns-clause-sole : goal.returns-clause-sole
returns-clause-sole c = one-sole c.args.self.now c.requires.one (subst (λ (s : PlainState). s.processor < s.processors) c.self.view_is c.self.invariant.turn) (subst (λ (s : PlainState). s.plain.number % 2 ≡ parity s.plain.driver) c.self.view_is c.parity_agrees.ensures) (subst (λ (s : PlainState). s.tracing.number % 2 ≡ parity s.tracing.driver) c.self.view_is c.parity_agrees-2.ensures)
    (subst (λ (s : PlainState). IfSome s.plain.driver (λ q. q < s.processors)) c.self.view_is c.self.invariant.plain_driver) (subst (λ (s : PlainState). IfSome s.tracing.driver (λ q. q < s.processors)) c.self.view_is c.self.invariant.tracing_driver)

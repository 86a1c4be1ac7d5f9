use Rattle.std.proofs.Common.{[], refl}
use Rattle.bm_lang.specs.declared.keyword.Keyword.TheVariants as word
use Rattle.bm_lang.proofs.Steps.{read_nothing}
use Rattle.bm_lang.proofs.Steps.{failed_statement}
use Rattle.bm_lang.proofs.Stating.{statement, statement_fails, is_other}
use Rattle.bm_lang.proofs.statements.simple.Goals as goal

pub returns-in_err-name-in-New : goal.returns-in_err-name-in-New
returns-in_err-name-in-New c = λ p scripts d. rw c.in-New.is (failed_statement _ _ _ _ _ _ _ _ c.from_residual.ensures.1 (statement_fails _ _ d word.New _ _ _ refl (c.in_err-name-in-New.ensures p _ scripts)))

pub returns-in_ok-name-in-New : goal.returns-in_ok-name-in-New
returns-in_ok-name-in-New c = λ p scripts d. rw (c.in-New.is, c.new.ensures) (statement d word.New _ _ refl (c.in_ok-name-in-New.ensures p _ scripts) (λ f. f))

pub returns-in_err-name-in-Drop : goal.returns-in_err-name-in-Drop
returns-in_err-name-in-Drop c = λ p scripts d. rw c.in-Drop.is (failed_statement _ _ _ _ _ _ _ _ c.from_residual-in_err-name-in-Drop.ensures.1 (statement_fails _ _ d word.Drop _ _ _ refl (c.in_err-name-in-Drop.ensures _)))

pub returns-in_ok-name-in-Drop : goal.returns-in_ok-name-in-Drop
returns-in_ok-name-in-Drop c = λ p scripts d. rw c.in-Drop.is (statement d word.Drop _ _ refl (c.in_ok-name-in-Drop.ensures _) (λ f. f))

pub returns-in_err-name-in-Acquire : goal.returns-in_err-name-in-Acquire
returns-in_err-name-in-Acquire c = λ p scripts d. rw c.in-Acquire.is (failed_statement _ _ _ _ _ _ _ _ c.from_residual-in_err-name-in-Acquire.ensures.1 (statement_fails _ _ d word.Acquire _ _ _ refl (c.in_err-name-in-Acquire.ensures _)))

pub returns-in_ok-name-in-Acquire : goal.returns-in_ok-name-in-Acquire
returns-in_ok-name-in-Acquire c = λ p scripts d. rw c.in-Acquire.is (statement d word.Acquire _ _ refl (c.in_ok-name-in-Acquire.ensures _) (λ f. f))

pub returns-in_err-name-in-Get : goal.returns-in_err-name-in-Get
returns-in_err-name-in-Get c = λ p scripts d. rw c.in-Get.is (failed_statement _ _ _ _ _ _ _ _ c.from_residual-in_err-name-in-Get.ensures.1 (statement_fails _ _ d word.Get _ _ _ refl (c.in_err-name-in-Get.ensures _)))

pub returns-in_ok-name-in-Get : goal.returns-in_ok-name-in-Get
returns-in_ok-name-in-Get c = λ p scripts d. rw c.in-Get.is (statement d word.Get _ _ refl (c.in_ok-name-in-Get.ensures _) (λ f. f))

pub returns-in_err-name-in-Xchg : goal.returns-in_err-name-in-Xchg
returns-in_err-name-in-Xchg c = λ p scripts d. rw c.in-Xchg.is (failed_statement _ _ _ _ _ _ _ _ c.from_residual-in_err-name-in-Xchg.ensures.1 (statement_fails _ _ d word.Xchg _ _ _ refl (c.in_err-name-in-Xchg.ensures p _ scripts)))

pub returns-in_ok-name-in-Xchg : goal.returns-in_ok-name-in-Xchg
returns-in_ok-name-in-Xchg c = λ p scripts d. rw c.in-Xchg.is (statement d word.Xchg _ _ refl (c.in_ok-name-in-Xchg.ensures p _ scripts) (λ f. f))

pub returns-in-Unlock : goal.returns-in-Unlock
returns-in-Unlock c = λ p scripts d. rw c.in-Unlock.is (statement d word.Unlock _ [] refl (read_nothing _ [] _ _ refl) (λ f. f))

pub returns-in-Yield : goal.returns-in-Yield
returns-in-Yield c = λ p scripts d. rw c.in-Yield.is (statement d word.Yield _ [] refl (read_nothing _ [] _ _ refl) (λ f. f))

pub on_graph-requires : goal.on_graph-requires
on_graph-requires c = is_other c.args.word c.requires c.in_default.not-New c.in_default.not-Drop c.in_default.not-Acquire c.in_default.not-Get c.in_default.not-Xchg c.in_default.not-Unlock c.in_default.not-Yield

pub returns-in_default : goal.returns-in_default
returns-in_default c = λ p scripts d. c.on_graph.ensures p _ scripts d

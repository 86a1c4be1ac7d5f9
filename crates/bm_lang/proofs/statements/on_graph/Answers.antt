use Rattle.std.proofs.Common.{[], ◌∷◌, refl}
use Rattle.bm_lang.specs.declared.keyword.Keyword.TheVariants as word
use Rattle.bm_lang.specs.declared.names.MapNeed.TheVariants as need
use Rattle.bm_lang.specs.Grammar.{AnyName, MapOf}
use Rattle.bm_lang.proofs.Steps.{fails_front, fails_going, more, going}
use Rattle.bm_lang.proofs.Steps.{failed_statement}
use Rattle.bm_lang.proofs.Stating.{statement, statement_fails, other_body, no_statement}
use Rattle.bm_lang.proofs.statements.on_graph.Goals as goal

pub returns-in_err-graph-in-Lock : goal.returns-in_err-graph-in-Lock
returns-in_err-graph-in-Lock c = λ p types scripts d. rw c.in-Lock.is (failed_statement _ _ _ _ _ _ _ _ c.from_residual.ensures.1 (statement_fails _ _ d word.Lock _ _ _ refl (c.in_err-graph-in-Lock.ensures p types scripts)))

pub returns-in_ok-graph-in-Lock : goal.returns-in_ok-graph-in-Lock
returns-in_ok-graph-in-Lock c = λ p types scripts d. rw c.in-Lock.is (statement d word.Lock _ _ refl (c.in_ok-graph-in-Lock.ensures p types scripts) (λ f. f))

pub returns-in_err-list-in-PushFront : goal.returns-in_err-list-in-PushFront
returns-in_err-list-in-PushFront c = λ p types scripts d. rw c.in-PushFront.is (failed_statement _ _ _ _ _ _ _ _ c.from_residual-in_err-list-in-PushFront.ensures.1 (statement_fails _ _ d word.PushFront _ _ _ refl (c.in_err-list-in-PushFront.ensures p types scripts)))

pub returns-in_ok-list-in-PushFront : goal.returns-in_ok-list-in-PushFront
returns-in_ok-list-in-PushFront c = λ p types scripts d. rw c.in-PushFront.is (statement d word.PushFront _ _ refl (c.in_ok-list-in-PushFront.ensures p types scripts) (λ f. f))

pub returns-in_err-list-in-PushBack : goal.returns-in_err-list-in-PushBack
returns-in_err-list-in-PushBack c = λ p types scripts d. rw c.in-PushBack.is (failed_statement _ _ _ _ _ _ _ _ c.from_residual-in_err-list-in-PushBack.ensures.1 (statement_fails _ _ d word.PushBack _ _ _ refl (c.in_err-list-in-PushBack.ensures p types scripts)))

pub returns-in_ok-list-in-PushBack : goal.returns-in_ok-list-in-PushBack
returns-in_ok-list-in-PushBack c = λ p types scripts d. rw c.in-PushBack.is (statement d word.PushBack _ _ refl (c.in_ok-list-in-PushBack.ensures p types scripts) (λ f. f))

pub returns-in_err-name-in-PopFront : goal.returns-in_err-name-in-PopFront
returns-in_err-name-in-PopFront c = λ p types scripts d. rw c.in-PopFront.is (failed_statement _ _ _ _ _ _ _ _ c.from_residual-in_err-name-in-PopFront.ensures.1 (statement_fails _ _ d word.PopFront _ _ _ refl (c.in_err-name-in-PopFront.ensures p types scripts)))

pub returns-in_ok-name-in-PopFront : goal.returns-in_ok-name-in-PopFront
returns-in_ok-name-in-PopFront c = λ p types scripts d. rw c.in-PopFront.is (statement d word.PopFront _ _ refl (c.in_ok-name-in-PopFront.ensures p types scripts) (λ f. f))

pub returns-in_err-name-in-PopBack : goal.returns-in_err-name-in-PopBack
returns-in_err-name-in-PopBack c = λ p types scripts d. rw c.in-PopBack.is (failed_statement _ _ _ _ _ _ _ _ c.from_residual-in_err-name-in-PopBack.ensures.1 (statement_fails _ _ d word.PopBack _ _ _ refl (c.in_err-name-in-PopBack.ensures p types scripts)))

pub returns-in_ok-name-in-PopBack : goal.returns-in_ok-name-in-PopBack
returns-in_ok-name-in-PopBack c = λ p types scripts d. rw c.in-PopBack.is (statement d word.PopBack _ _ refl (c.in_ok-name-in-PopBack.ensures p types scripts) (λ f. f))

pub returns-in_err-tree-in-Add : goal.returns-in_err-tree-in-Add
returns-in_err-tree-in-Add c = λ p types scripts d. rw c.in-Add.is (failed_statement _ _ _ _ _ _ _ _ c.from_residual-in_err-tree-in-Add.ensures.1 (statement_fails _ _ d word.Add _ _ _ refl (c.in_err-tree-in-Add.ensures p types scripts)))

pub returns-in_ok-tree-in-Add : goal.returns-in_ok-tree-in-Add
returns-in_ok-tree-in-Add c = λ p types scripts d. rw c.in-Add.is (statement d word.Add _ _ refl (c.in_ok-tree-in-Add.ensures p types scripts) (λ f. f))

pub returns-in_err-name-in-First : goal.returns-in_err-name-in-First
returns-in_err-name-in-First c = λ p types scripts d. rw c.in-First.is (failed_statement _ _ _ _ _ _ _ _ c.from_residual-in_err-name-in-First.ensures.1 (statement_fails _ _ d word.First _ _ _ refl (c.in_err-name-in-First.ensures p types scripts)))

pub returns-in_ok-name-in-First : goal.returns-in_ok-name-in-First
returns-in_ok-name-in-First c = λ p types scripts d. rw c.in-First.is (statement d word.First _ _ refl (c.in_ok-name-in-First.ensures p types scripts) (λ f. f))

pub returns-in_err-name-in-Remove : goal.returns-in_err-name-in-Remove
returns-in_err-name-in-Remove c = λ p types scripts d. rw c.in-Remove.is (failed_statement _ _ _ _ _ _ _ _ c.from_residual-in_err-name-in-Remove.ensures.1 (statement_fails _ _ d word.Remove _ _ _ refl (fails_front _ _ (AnyName ∷ MapOf need.Tree ∷ []) (AnyName ∷ []) _ (c.in_err-name-in-Remove.ensures p types scripts))))

pub returns-in_err-node-in-Remove : goal.returns-in_err-node-in-Remove
returns-in_err-node-in-Remove c = λ p types scripts d. rw c.in-Remove.is (failed_statement _ _ _ _ _ _ _ _ c.from_residual-in_err-node-in-Remove.ensures.1 (statement_fails _ _ d word.Remove _ _ _ refl (fails_going _ (more (AnyName ∷ []) (c.in_ok-name-in-Remove.ensures p types scripts)) (c.in_err-node-in-Remove.ensures _))))

pub returns-in_ok-node-in-Remove : goal.returns-in_ok-node-in-Remove
returns-in_ok-node-in-Remove c = λ p types scripts d. rw c.in-Remove.is (statement d word.Remove _ _ refl (going (more (AnyName ∷ []) (c.in_ok-name-in-Remove.ensures p types scripts)) (c.in_ok-node-in-Remove.ensures _) (λ f u. f)) (λ f. f))

pub returns-in_default : goal.returns-in_default
returns-in_default c = λ p types scripts d. no_statement _ _ d c.args.word c.args.start _ (other_body d c.args.word c.requires c.in_default.not-Lock c.in_default.not-PushFront c.in_default.not-PushBack c.in_default.not-PopFront c.in_default.not-PopBack c.in_default.not-Add c.in_default.not-First c.in_default.not-Remove) c.no_statement.ensures

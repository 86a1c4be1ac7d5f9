use Rattle.std.proofs.Common.{[], refl}
use Rattle.bm_lang.specs.Names.{no_draft, no_names}
use Rattle.bm_lang.specs.Known.{drafting}
use Rattle.bm_lang.proofs.Steps.{failed, fails_first, fails_behind, both, as_read}
use Rattle.bm_lang.proofs.reading.header.Goals as goal

pub returns-in_err-word : goal.returns-in_err-word
returns-in_err-word c = failed _ _ _ _ _ _ _ _ _ c.from_residual.ensures.1 (fails_first _ _ _ _ _ (c.in_err-word.ensures no_names))

pub returns-in_err-open : goal.returns-in_err-open
returns-in_err-open c = failed _ _ _ _ _ _ _ _ _ c.from_residual-in_err-open.ensures.1 (fails_behind _ _ (c.in_ok-word.ensures no_names) (fails_first _ _ _ _ _ (c.in_err-open.ensures no_names)))

pub returns-in_err-word-2 : goal.returns-in_err-word-2
returns-in_err-word-2 c = failed _ _ _ _ _ _ _ _ _ c.from_residual-in_err-word-2.ensures.1 (fails_behind _ _ (c.in_ok-word.ensures no_names) (fails_behind _ _ (c.in_ok-open.ensures no_names) (fails_first _ _ _ _ _ (c.in_err-word-2.ensures no_names))))

pub returns-in_err-processors : goal.returns-in_err-processors
returns-in_err-processors c = failed _ _ _ _ _ _ _ _ _ c.from_residual-in_err-processors.ensures.1 (fails_behind _ _ (c.in_ok-word.ensures no_names) (fails_behind _ _ (c.in_ok-open.ensures no_names) (fails_behind _ _ (c.in_ok-word-2.ensures no_names) (fails_first _ _ _ _ _ (c.in_err-processors.ensures)))))

pub returns-in_err-word-3 : goal.returns-in_err-word-3
returns-in_err-word-3 c = failed _ _ _ _ _ _ _ _ _ c.from_residual-in_err-word-3.ensures.1 (fails_behind _ _ (c.in_ok-word.ensures no_names) (fails_behind _ _ (c.in_ok-open.ensures no_names) (fails_behind _ _ (c.in_ok-word-2.ensures no_names) (fails_behind _ _ (c.in_ok-processors.ensures) (fails_first _ _ _ _ _ (c.in_err-word-3.ensures (drafting c.in_ok-processors.processors [] no_draft)))))))

pub returns-in_err-pages : goal.returns-in_err-pages
returns-in_err-pages c = failed _ _ _ _ _ _ _ _ _ c.from_residual-in_err-pages.ensures.1 (fails_behind _ _ (c.in_ok-word.ensures no_names) (fails_behind _ _ (c.in_ok-open.ensures no_names) (fails_behind _ _ (c.in_ok-word-2.ensures no_names) (fails_behind _ _ (c.in_ok-processors.ensures) (fails_behind _ _ (c.in_ok-word-3.ensures (drafting c.in_ok-processors.processors [] no_draft)) (fails_first _ _ _ _ _ (c.in_err-pages.ensures (drafting c.in_ok-processors.processors [] no_draft))))))))

pub returns-in_err-word-4 : goal.returns-in_err-word-4
returns-in_err-word-4 c = failed _ _ _ _ _ _ _ _ _ c.from_residual-in_err-word-4.ensures.1 (fails_behind _ _ (c.in_ok-word.ensures no_names) (fails_behind _ _ (c.in_ok-open.ensures no_names) (fails_behind _ _ (c.in_ok-word-2.ensures no_names) (fails_behind _ _ (c.in_ok-processors.ensures) (fails_behind _ _ (c.in_ok-word-3.ensures (drafting c.in_ok-processors.processors [] no_draft)) (fails_behind _ _ (c.in_ok-pages.ensures (drafting c.in_ok-processors.processors [] no_draft)) (fails_first _ _ _ _ _ (c.in_err-word-4.ensures (drafting c.in_ok-processors.processors [] no_draft)))))))))

pub returns-in_err-deferred : goal.returns-in_err-deferred
returns-in_err-deferred c = failed _ _ _ _ _ _ _ _ _ c.from_residual-in_err-deferred.ensures.1 (fails_behind _ _ (c.in_ok-word.ensures no_names) (fails_behind _ _ (c.in_ok-open.ensures no_names) (fails_behind _ _ (c.in_ok-word-2.ensures no_names) (fails_behind _ _ (c.in_ok-processors.ensures) (fails_behind _ _ (c.in_ok-word-3.ensures (drafting c.in_ok-processors.processors [] no_draft)) (fails_behind _ _ (c.in_ok-pages.ensures (drafting c.in_ok-processors.processors [] no_draft)) (fails_behind _ _ (c.in_ok-word-4.ensures (drafting c.in_ok-processors.processors [] no_draft)) (c.in_err-deferred.ensures (drafting c.in_ok-processors.processors [] no_draft)))))))))

pub returns : goal.returns
returns c = as_read (both (c.in_ok-word.ensures no_names) (both (c.in_ok-open.ensures no_names) (both (c.in_ok-word-2.ensures no_names) (both (c.in_ok-processors.ensures) (both (c.in_ok-word-3.ensures (drafting c.in_ok-processors.processors [] no_draft)) (both (c.in_ok-pages.ensures (drafting c.in_ok-processors.processors [] no_draft)) (both (c.in_ok-word-4.ensures (drafting c.in_ok-processors.processors [] no_draft)) (c.in_ok-deferred.ensures (drafting c.in_ok-processors.processors [] no_draft))))))))) refl (λ f. f.1.1.1.0)

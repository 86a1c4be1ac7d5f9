use Rattle.std.proofs.Common.{◌≡◌, ◌-◌, true, [], ◌∷◌, refl, sym, arith}
use Rattle.std.specs.Prelude.{map, nat_lt}
use Rattle.std.proofs.lemmas.Bool.Decides.{nat_tests}
use Rattle.bm_lang.specs.declared.keyword.Keyword.TheVariants as word
use Rattle.bm_lang.specs.declared.fault.BadKind.TheVariants as kind
use Rattle.bm_lang.specs.Tokens as token
use Rattle.bm_lang.specs.Known.{knowing}
use Rattle.bm_lang.specs.Grammar.{Statements, Braced, Else, CloseBrace, is_word}
use Rattle.bm_lang.specs.Spelling.{any, reserved, type_form, map_form}
use Rattle.bm_lang.proofs.Pushes.{flat_map-push, statements-push}
use Rattle.bm_lang.proofs.Steps.{failed, fails_first, fails_here, fails_shift, fails_behind, fails_going, both, as_read, going, absent, may_passed, read_shift, read_nothing}
use Rattle.bm_lang.proofs.Steps.{failed_statement, no_braced}
use Rattle.bm_lang.proofs.Stating.{statement, statement_fails, is_simple, not_word}
use Rattle.bm_lang.proofs.Trees.{block_is, block_fine, else_is, else_fine}
use Rattle.bm_lang.proofs.Steps.{more'}
use Rattle.bm_lang.proofs.Stating.{read_pass_close, statement_shorter}
use Rattle.bm_lang.proofs.blocks.+blocks.Goals as goal

pub block-returns-in_err-place : goal.block-returns-in_err-place
block-returns-in_err-place t c = λ p scripts. failed _ _ _ _ _ _ _ _ _ c.from_residual.ensures.1 (no_braced _ _ _ _ _ _ [] c.in_err-place.ensures)

pub block-returns-then-depth-eq0 : goal.block-returns-then-depth-eq0
block-returns-then-depth-eq0 t c = λ p scripts. rw c.if-depth-eq0.true (fails_here _ _ _ (knowing p (map type_form c.args.types.items.now) (map map_form c.args.maps.items.now) scripts) (Braced 0) [] kind.Depth _ c.in_ok-place.ensures refl c.fault.ensures)

pub block-loop-statements-init : goal.block-loop-statements-init
block-loop-statements-init t c = λ p scripts. rw c.new-statements.ensures.items (read_nothing _ _ _ _ refl)

pub block-returns-in-Close : goal.block-returns-in-Close
block-returns-in-Close t c = let n : nat_lt 0 c.args.depth ≡ true = grind (arith, nat_tests, c.if-depth-eq0.false) in let e = rw c.in-Close.is at c.take-next.ensures.begins in λ p scripts. as_read (read_shift (knowing p (map type_form c.args.types.items.now) (map map_form c.args.maps.items.now) scripts) (knowing p (map type_form c.args.types.items.now) (map map_form c.args.maps.items.now) scripts) _ (Braced c.args.depth) (Statements (c.args.depth - 1) ∷ CloseBrace ∷ []) [] [] _ (any token.Open) _ _ _ _ _ _ c.in_ok-place.ensures (rw n refl) refl tt (going (more' (CloseBrace ∷ []) (c.loop-statements.invariant p scripts)) (read_pass_close _ _ _ _ _ _ refl e) (λ f u. f)) (λ f. f)) (sym (block_is (map type_form c.args.types.items.now) (map map_form c.args.maps.items.now) c.loop-statements.statements c.take-next.result.place.line)) (λ f. block_fine (map type_form c.args.types.items.now) (map map_form c.args.maps.items.now) c.args.depth c.loop-statements.statements c.take-next.result.place.line (omega (arith, c.if-depth-eq0.false)) f)

pub block-returns-in_err-action-in-Keyword : goal.block-returns-in_err-action-in-Keyword
block-returns-in_err-action-in-Keyword t c = let n : nat_lt 0 c.args.depth ≡ true = grind (arith, nat_tests, c.if-depth-eq0.false) in let e = rw c.in-Keyword.is at c.take-next.ensures.begins in let h = rw (← e) at c.in_err-action-in-Keyword.ensures in λ p scripts. failed _ _ _ _ _ _ _ _ _ c.from_residual-in_err-action-in-Keyword.ensures.1 (fails_shift _ _ _ _ (knowing p (map type_form c.args.types.items.now) (map map_form c.args.maps.items.now) scripts) (knowing p (map type_form c.args.types.items.now) (map map_form c.args.maps.items.now) scripts) (Braced c.args.depth) (Statements (c.args.depth - 1) ∷ CloseBrace ∷ []) [] c.in_ok-place.ensures (rw n refl) (fails_going _ (more' (CloseBrace ∷ []) (c.loop-statements.invariant p scripts)) (h p scripts)))

pub block-loop-statements-smaller : goal.block-loop-statements-smaller
block-loop-statements-smaller t c = let e = rw c.in-Keyword.is at c.take-next.ensures.begins in let h = rw (← e) at c.in_ok-action-in-Keyword.ensures in statement_shorter _ _ _ _ c.in_ok-action-in-Keyword.action _ _ _ (h 0 [])

pub block-loop-statements-preserved : goal.block-loop-statements-preserved
block-loop-statements-preserved t c = let e = rw c.in-Keyword.is at c.take-next.ensures.begins in let h = rw (← e) at c.in_ok-action-in-Keyword.ensures in λ p scripts. rw (c.in_ok-push-in-Keyword.ensures.items, flat_map-push) (going (c.loop-statements.invariant p scripts) (h p scripts) (λ f u. statements-push (map type_form c.args.types.items.now) (map map_form c.args.maps.items.now) (c.args.depth - 1) c.loop-statements.statements.items _ f u))

pub block-returns-in_default : goal.block-returns-in_default
block-returns-in_default t c = let n : nat_lt 0 c.args.depth ≡ true = grind (arith, nat_tests, c.if-depth-eq0.false) in λ p scripts. fails_shift _ _ _ _ (knowing p (map type_form c.args.types.items.now) (map map_form c.args.maps.items.now) scripts) (knowing p (map type_form c.args.types.items.now) (map map_form c.args.maps.items.now) scripts) (Braced c.args.depth) (Statements (c.args.depth - 1) ∷ CloseBrace ∷ []) [] c.in_ok-place.ensures (rw n refl) (fails_going _ (more' (CloseBrace ∷ []) (c.loop-statements.invariant p scripts)) (not_word _ _ (knowing p (map type_form c.args.types.items.now) (map map_form c.args.maps.items.now) scripts) (c.args.depth - 1) c.take-next.result _ c.take-next.ensures.begins c.in_default.not-Keyword c.in_default.not-Close c.refused.ensures))

pub action-returns-in_err-name-in-If : goal.action-returns-in_err-name-in-If
action-returns-in_err-name-in-If t c = λ p scripts. rw c.in-If.is (failed_statement _ _ _ _ _ _ _ _ c.from_residual.ensures.1 (statement_fails _ _ c.args.depth word.If _ _ _ refl (fails_first _ _ _ _ _ (c.in_err-name-in-If.ensures _))))

pub action-returns-in_err-body-in-If : goal.action-returns-in_err-body-in-If
action-returns-in_err-body-in-If t c = λ p scripts. rw c.in-If.is (failed_statement _ _ _ _ _ _ _ _ c.from_residual-in_err-body-in-If.ensures.1 (statement_fails _ _ c.args.depth word.If _ _ _ refl (fails_behind _ _ (c.in_ok-name-in-If.ensures _) (fails_first _ _ _ _ _ (c.in_err-body-in-If.ensures p scripts)))))

pub action-returns-in_err-otherwise-in-If : goal.action-returns-in_err-otherwise-in-If
action-returns-in_err-otherwise-in-If t c = λ p scripts. rw c.in-If.is (failed_statement _ _ _ _ _ _ _ _ c.from_residual-in_err-otherwise-in-If.ensures.1 (statement_fails _ _ c.args.depth word.If _ _ _ refl (fails_behind _ _ (c.in_ok-name-in-If.ensures _) (fails_behind _ _ (c.in_ok-body-in-If.ensures p scripts) (c.in_err-otherwise-in-If.ensures p scripts)))))

pub action-returns-in_ok-otherwise-in-If : goal.action-returns-in_ok-otherwise-in-If
action-returns-in_ok-otherwise-in-If t c = λ p scripts. rw (c.in-If.is, else_is) (statement c.args.depth word.If _ _ refl (both (c.in_ok-name-in-If.ensures _) (both (c.in_ok-body-in-If.ensures p scripts) (c.in_ok-otherwise-in-If.ensures p scripts))) (λ f. (f.1.0, else_fine (map type_form c.args.types.items.now) (map map_form c.args.maps.items.now) c.args.depth c.in_ok-otherwise-in-If.otherwise f.1.1)))

pub action-returns-in_err-count-in-Repeat : goal.action-returns-in_err-count-in-Repeat
action-returns-in_err-count-in-Repeat t c = λ p scripts. rw c.in-Repeat.is (failed_statement _ _ _ _ _ _ _ _ c.from_residual-in_err-count-in-Repeat.ensures.1 (statement_fails _ _ c.args.depth word.Repeat _ _ _ refl (fails_first _ _ _ _ _ (c.in_err-count-in-Repeat.ensures _))))

pub action-returns-in_err-body-in-Repeat : goal.action-returns-in_err-body-in-Repeat
action-returns-in_err-body-in-Repeat t c = λ p scripts. rw c.in-Repeat.is (failed_statement _ _ _ _ _ _ _ _ c.from_residual-in_err-body-in-Repeat.ensures.1 (statement_fails _ _ c.args.depth word.Repeat _ _ _ refl (fails_behind _ _ (c.in_ok-count-in-Repeat.ensures _) (c.in_err-body-in-Repeat.ensures p scripts))))

pub action-returns-in_ok-body-in-Repeat : goal.action-returns-in_ok-body-in-Repeat
action-returns-in_ok-body-in-Repeat t c = λ p scripts. rw c.in-Repeat.is (statement c.args.depth word.Repeat _ _ refl (both (c.in_ok-count-in-Repeat.ensures _) (c.in_ok-body-in-Repeat.ensures p scripts)) (λ f. f.1))

pub action-returns-in_err-body-in-Section : goal.action-returns-in_err-body-in-Section
action-returns-in_err-body-in-Section t c = λ p scripts. rw c.in-Section.is (failed_statement _ _ _ _ _ _ _ _ c.from_residual-in_err-body-in-Section.ensures.1 (statement_fails _ _ c.args.depth word.Section _ _ _ refl (c.in_err-body-in-Section.ensures p scripts)))

pub action-returns-in_ok-body-in-Section : goal.action-returns-in_ok-body-in-Section
action-returns-in_ok-body-in-Section t c = λ p scripts. rw c.in-Section.is (statement c.args.depth word.Section _ _ refl (c.in_ok-body-in-Section.ensures p scripts) (λ f. f))

pub action-simple-requires : goal.action-simple-requires
action-simple-requires t c = is_simple c.args.word c.in_default.not-If c.in_default.not-Repeat c.in_default.not-Section

pub action-returns-in_default : goal.action-returns-in_default
action-returns-in_default t c = λ p scripts. c.simple.ensures p scripts c.args.depth

pub otherwise-returns-in_err-block-in-Some : goal.otherwise-returns-in_err-block-in-Some
otherwise-returns-in_err-block-in-Some t c = λ p scripts. failed _ _ _ _ _ _ _ _ _ c.from_residual.ensures.1 (fails_shift _ _ _ _ (knowing p (map type_form c.args.types.items.now) (map map_form c.args.maps.items.now) scripts) (knowing p (map type_form c.args.types.items.now) (map map_form c.args.maps.items.now) scripts) (Else c.args.depth) (Braced c.args.depth ∷ []) [] c.in-Some.ensures refl (c.in_err-block-in-Some.ensures p scripts))

pub otherwise-returns-in_ok-block-in-Some : goal.otherwise-returns-in_ok-block-in-Some
otherwise-returns-in_ok-block-in-Some t c = λ p scripts. read_shift (knowing p (map type_form c.args.types.items.now) (map map_form c.args.maps.items.now) scripts) (knowing p (map type_form c.args.types.items.now) (map map_form c.args.maps.items.now) scripts) _ (Else c.args.depth) (Braced c.args.depth ∷ []) [] [] _ (reserved word.Else) _ _ _ _ _ _ c.in-Some.ensures refl refl tt (c.in_ok-block-in-Some.ensures p scripts) (λ f. f)

pub otherwise-returns-in-None : goal.otherwise-returns-in-None
otherwise-returns-in-None t c = λ p scripts. absent (knowing p (map type_form c.args.types.items.now) (map map_form c.args.maps.items.now) scripts) (Else c.args.depth) (is_word word.Else) _ _ (λ t h. may_passed _ _ h) c.in-None.ensures

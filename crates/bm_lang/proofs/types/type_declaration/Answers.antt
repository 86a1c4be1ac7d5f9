use Rattle.std.proofs.Common.{refl}
use Rattle.std.specs.Prelude.{map}
use Rattle.bm_lang.specs.Spelling.{type_form}
use Rattle.bm_lang.proofs.Steps.{failed, fails_first, fails_behind, both, as_read}
use Rattle.bm_lang.proofs.types.type_declaration.Goals as goal

pub returns-in_err-name-clause-read : goal.returns-in_err-name-clause-read
returns-in_err-name-clause-read c = λ p. failed _ _ _ _ _ _ _ _ _ c.from_residual.ensures.1 (fails_first _ _ _ _ _ (c.in_err-name.ensures p))

pub returns-in_err-open-clause-read : goal.returns-in_err-open-clause-read
returns-in_err-open-clause-read c = λ p. failed _ _ _ _ _ _ _ _ _ c.from_residual-in_err-open.ensures.1 (fails_behind _ _ (c.in_ok-name.ensures p) (fails_behind _ _ (c.counted-counted.ensures p _ _) (fails_behind _ _ (c.node-node.ensures p _ _ _) (fails_first _ _ _ _ _ (c.in_err-open.ensures _)))))

pub returns-in_err-fields-clause-read : goal.returns-in_err-fields-clause-read
returns-in_err-fields-clause-read c = λ p. failed _ _ _ _ _ _ _ _ _ c.from_residual-in_err-fields.ensures.1 (fails_behind _ _ (c.in_ok-name.ensures p) (fails_behind _ _ (c.counted-counted.ensures p _ _) (fails_behind _ _ (c.node-node.ensures p _ _ _) (fails_behind _ _ (c.in_ok-open.ensures _) (fails_first _ _ _ _ _ (c.in_err-fields.ensures p _ _ _ _))))))

pub returns-in_err-pad-clause-read : goal.returns-in_err-pad-clause-read
returns-in_err-pad-clause-read c = λ p. failed _ _ _ _ _ _ _ _ _ c.from_residual-in_err-pad.ensures.1 (fails_behind _ _ (c.in_ok-name.ensures p) (fails_behind _ _ (c.counted-counted.ensures p _ _) (fails_behind _ _ (c.node-node.ensures p _ _ _) (fails_behind _ _ (c.in_ok-open.ensures _) (fails_behind _ _ (c.in_ok-fields.ensures p _ _ _ _) (fails_first _ _ _ _ _ (c.in_err-pad.ensures p _ _ _ _ _)))))))

pub returns-in_err-type_end-clause-read : goal.returns-in_err-type_end-clause-read
returns-in_err-type_end-clause-read c = λ p. failed _ _ _ _ _ _ _ _ _ c.from_residual-in_err-type_end.ensures.1 (fails_behind _ _ (c.in_ok-name.ensures p) (fails_behind _ _ (c.counted-counted.ensures p _ _) (fails_behind _ _ (c.node-node.ensures p _ _ _) (fails_behind _ _ (c.in_ok-open.ensures _) (fails_behind _ _ (c.in_ok-fields.ensures p _ _ _ _) (fails_behind _ _ (c.in_ok-pad.ensures p _ _ _ _ _) (rw c.new-fields.ensures at (c.in_err-type_end.ensures p (map type_form c.args.types.items.now)))))))))

pub returns-clause-read : goal.returns-clause-read
returns-clause-read c = λ p. let e = rw c.new-fields.ensures at (c.in_ok-type_end.ensures p (map type_form c.args.types.items.now)) in rw c.new-fields.ensures (as_read (both (c.in_ok-name.ensures p) (both (c.counted-counted.ensures p _ _) (both (c.node-node.ensures p _ _ _) (both (c.in_ok-open.ensures _) (both (c.in_ok-fields.ensures p _ _ _ _) (both (c.in_ok-pad.ensures p _ _ _ _ _) e)))))) refl (λ f. (f.0, record { fresh = f.1.1.1.1.0; pad = f.1.1.1.1.1.0; key = f.1.1.1.1.1.1.0; size = f.1.1.1.1.1.1.1 })))

use Rattle.std.proofs.Common.{refl, ◌≡◌, ◌∙◌}
use Rattle.std.specs.Prelude.{map}
use Rattle.bm_lang.specs.declared.keyword.Keyword.TheVariants as word
use Rattle.bm_lang.specs.Tokens.{Reserved}
use Rattle.bm_lang.specs.Spelling.{type_form, map_form, reserved, on}
use Rattle.bm_lang.proofs.Trees.{else_is}
use Rattle.bm_lang.proofs.Printed.{on_ok_then, if_printed, repeat_printed, word_and_block, one_statement, block_end}
use Rattle.bm_lang.proofs.printing.+printing.Goals as goal

pub put_action-returns-in_ok-put_block-in-If : goal.put_action-returns-in_ok-put_block-in-If
put_action-returns-in_ok-put_block-in-If t c =
    let e1 = rw c.text.ensures at c.in_ok-put-in-If.ensures in
    let e2 = rw c.as_bytes.ensures.value at c.in_ok-put-in-If-2.ensures in
    rw (c.in-If.is, else_is) (on_ok_then c.put_else.result c.put_else.ensures (λ h l. if_printed (map type_form c.args.types.now) (map map_form c.args.maps.now) l c.in-If.name c.in-If.body c.in-If.otherwise _ _ _ _ _ e1 e2 c.in_ok-put_block-in-If.ensures h))

pub put_action-returns-in_ok-put_count-in-Repeat : goal.put_action-returns-in_ok-put_count-in-Repeat
put_action-returns-in_ok-put_count-in-Repeat t c =
    let e1 = rw c.text-in-Repeat.ensures at c.in_ok-put-in-Repeat.ensures in
    rw c.in-Repeat.is (on_ok_then c.put_block-in-Repeat.result c.put_block-in-Repeat.ensures (λ h l. repeat_printed (map type_form c.args.types.now) (map map_form c.args.maps.now) l c.in-Repeat.count c.in-Repeat.body _ _ _ _ e1 c.in_ok-put_count-in-Repeat.ensures h))

pub put_action-returns-in_ok-put-in-Section : goal.put_action-returns-in_ok-put-in-Section
put_action-returns-in_ok-put-in-Section t c =
    let e1 = rw c.text-in-Section.ensures at c.in_ok-put-in-Section.ensures in
    rw c.in-Section.is (on_ok_then c.put_block-in-Section.result c.put_block-in-Section.ensures (λ h l. word_and_block (map type_form c.args.types.now) (map map_form c.args.maps.now) (on l (Reserved word.Section)) c.in-Section.body _ _ _ refl e1 h))

pub put_block-loop-statement-preserved : goal.put_block-loop-statement-preserved
put_block-loop-statement-preserved t c = one_statement (map type_form c.args.types.now) (map map_form c.args.maps.now) _ _ _ c.deref-statement-items.result.now c.loop-statement.statement-index c.statement-item.result c.loop-statement-test.true c.statement-item.is c.loop-statement.invariant (c.in_ok-put_action.ensures c.statement-item.result.line)

pub put_block-returns : goal.put_block-returns
put_block-returns t c = on_ok_then c.put-2.result c.put-2.ensures (λ h. let e : c.put-2.new.out.items ≡ _ = h in e ∙ block_end (map type_form c.args.types.now) (map map_form c.args.maps.now) c.args.block.now _ _ _ c.deref-statement-items.result.now c.loop-statement.statement-index c.deref-statement-items.ensures.value c.loop-statement-test.false c.in_ok-put.ensures c.loop-statement.invariant)

pub put_else-returns-in_ok-put-in-Some : goal.put_else-returns-in_ok-put-in-Some
put_else-returns-in_ok-put-in-Some t c =
    let e1 = rw c.text.ensures at c.in_ok-put-in-Some.ensures in
    rw c.in-Some.is (on_ok_then c.put_block.result c.put_block.ensures (λ h. word_and_block (map type_form c.args.types.now) (map map_form c.args.maps.now) (reserved word.Else) c.in-Some.block _ _ _ refl e1 h))

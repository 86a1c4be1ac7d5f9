use Rattle.std.proofs.Common.{◌≡◌, ◌∙◌, ℕ, List, subst, sym}
use Rattle.bm_tool.specs.Causes.{InputCause}
use Rattle.bm_tool.specs.Outcome.{IsServable}
use Rattle.bm_tool.proofs.Causes.{memory_alone}
use Rattle.bm_tool.proofs.generate.run_generated.Goals as goal

pub unreachable-requires : goal.unreachable-requires
unreachable-requires c =
    let same = c.as_slice.ensures.value ∙ c.in_ok-text.ensures.text in
    let servable : IsServable c.as_slice.result.now = subst IsServable (sym same) (c.generated_texts_are_servable.ensures c.args.count c.args.start c.made_text.ensures.few) in
    c.in_default.not-OutOfMemory (memory_alone c.in-Err.refusal c.as_slice.result.now servable c.in-Err.ensures.cause)

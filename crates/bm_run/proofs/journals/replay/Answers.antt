use Rattle.std.proofs.Common.{[], ◌∙◌, ap}
use Rattle.bm_lang.specs.declared.scenario.Parts.{Parts}
use Rattle.bm_run.proofs.Declared.{all-sized}
use Rattle.bm_run.proofs.journals.replay.Goals as goal

pub type_classes-requires : goal.type_classes-requires
type_classes-requires c =
    rw (c.as_slice-types.ensures ∙ ap (λ (s : Parts). s.types) c.parts-parts.ensures.value) (all-sized [] c.scenario-scenario.result.now.types c.parts-parts.ensures.fine.1.conditions.types)

use Rattle.std.proofs.Common.{ap, [], ◌∷◌}
use Rattle.bm_law_text.specs.declared.line.Line.TheVariants as line_as
use Rattle.bm_journal_reader.specs.Drafts.{open_log}
use Rattle.bm_journal_reader.proofs.BodyTaken.{taken, entry-step}
use Rattle.bm_journal_reader.proofs.body.Body.take_entry.Goals as goal

pub returns-in-Log : goal.returns-in-Log
returns-in-Log c = λ maps.
    taken maps (line_as.Entry c.args.level c.args.entry) _ _
    (entry-step maps c.args.level c.args.entry _ _ _ _ _ c.in-Log.log _ (ap open_log c.in-Log.is) c.requires (ap (λ log. log ∷ []) c.in_ok-push-in-Log.ensures.done))

use Rattle.std.proofs.Common.{ap, sym, ◌∙◌, [], ◌∷◌, arith, ◌≡◌}
use Rattle.bm_law_text.specs.declared.line.Line.TheVariants as line_as
use Rattle.bm_journal_reader.proofs.BodyTaken.{taken, log-step}
use Rattle.bm_journal_reader.proofs.body.Body.take_processor.Goals as goal

pub returns : goal.returns
returns c = λ maps.
    let here : c.args.processor ≡ c.in-Some.begun = omega arith in
    let k = c.in_ok-close.ensures in
    taken maps (line_as.Processor c.args.processor) _ _
    (log-step maps c.args.processor c.in-Some.begun _ _ _ _ _ _ _ _ _ _ (sym c.begun_logs.ensures ∙ c.in-Some.is) here c.requires (ap (λ log. log ∷ []) c.new.ensures) (ap (λ v. v.items) k.classes) k.logs k.graphs (ap (λ v. v.items) k.totals))

use Rattle.std.proofs.Common.{ap, ◌∙◌, [], ◌∷◌, ◌++◌, arith, ◌≡◌, length}
use Rattle.bm_journal.specs.TotalNames.{total_place}
use Rattle.bm_law_text.specs.declared.line.Line.TheVariants as line_as
use Rattle.bm_journal_reader.proofs.BodyTaken.{taken, total-step}
use Rattle.bm_journal_reader.proofs.body.Body.take_total.Goals as goal

pub returns-in-Ok : goal.returns-in-Ok
returns-in-Ok c = λ maps.
    let k = c.in_ok-close.ensures in
    let here : total_place c.args.total ≡ length c.args.self.now.totals.items = omega arith in
    taken maps (line_as.Total c.args.total c.args.value) _ _
    (total-step maps c.args.total c.args.value _ _ _ _ _ _ _ _ _ _ here c.requires k.closed (ap (λ v. v.items) k.classes) k.logs k.graphs (c.in-Ok.ensures.ok ∙ ap (λ v. v.items ++ c.args.value ∷ []) k.totals))

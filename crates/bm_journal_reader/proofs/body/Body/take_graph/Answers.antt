use Rattle.std.proofs.Common.{ap, [], ◌∷◌}
use Rattle.bm_law_text.specs.declared.line.Line.TheVariants as line_as
use Rattle.bm_journal_reader.proofs.BodyTaken.{taken, graph-step}
use Rattle.bm_journal_reader.proofs.body.Body.take_graph.Goals as goal

pub returns : goal.returns
returns c = λ maps.
    let k = c.in_ok-close.ensures in
    taken maps (line_as.Graph c.args.name) _ _
    (graph-step maps c.args.name _ _ _ _ _ _ _ _ _ _ c.in_default.not-Totals c.requires (ap (λ pasts. (c.args.name, pasts) ∷ []) c.new.ensures.items) (ap (λ v. v.items) k.classes) k.logs k.graphs (ap (λ v. v.items) k.totals))

use Rattle.std.proofs.Common.{ap, [], ◌∷◌, arith, ◌≡◌, length}
use Rattle.bm_law_text.specs.declared.line.Line.TheVariants as line_as
use Rattle.bm_journal_reader.specs.Drafts.{open_graph}
use Rattle.bm_journal_reader.proofs.BodyTaken.{taken, past-step}
use Rattle.bm_journal_reader.proofs.body.Body.take_past.Goals as goal

pub returns-in_ok-push-in-Graph : goal.returns-in_ok-push-in-Graph
returns-in_ok-push-in-Graph c = λ maps.
    let here : c.args.position ≡ length c.in-Graph.pasts.items = omega arith in
    taken maps (line_as.Past c.args.position c.args.past) _ _
    (past-step maps c.args.position c.args.past _ _ _ _ _ c.in-Graph.field-0 c.in-Graph.pasts.items _ (ap open_graph c.in-Graph.is) here c.requires (ap (λ pasts. (c.in-Graph.field-0, pasts) ∷ []) c.in_ok-push-in-Graph.ensures.items))

use Rattle.std.proofs.Common.{ap, ◌∙◌, subst, length}
use Rattle.bm_journal.specs.WellFormed.{all_differ, owners_below, are_whole}
use Rattle.bm_journal_reader.specs.Drafts.{head_order}
use Rattle.bm_journal_reader.proofs.Finishing.{finished-parts}
use Rattle.bm_journal_reader.proofs.reader.finish.Goals as goal

pub invariant_of-result : goal.invariant_of-result
invariant_of-result c =
    let d = c.args.draft in
    let kept = subst (λ h. head_order h d) c.in-Behind.is c.requires.sound in
    let parts = finished-parts d c.in-Behind.is c.in-Totals.is c.requires.fit in
    record {
      maps_differ = ap all_differ c.new-2.ensures ∙ kept.0.1;
      owners_named = (λ i. owners_below (length (c.new-2.ensures i)) (c.new-6.ensures i)) ∙ parts.0;
      units_whole = ap are_whole c.new-5.ensures ∙ parts.1;
    }

use Rattle.std.proofs.Common.{◌++◌, ◌∙◌, ap, sym, replicate}
use Rattle.bm_journal.specs.JournalText.{entry_line, entry_lines}
use Rattle.bm_journal.specs.Totals.{counts_of}
use Rattle.bm_journal.specs.Counting.{adds, adds_log}
use Rattle.bm_journal.proofs.Lines.{entry_lines-more}
use Rattle.bm_journal.proofs.Sums.{adds_log-more}
use Rattle.bm_journal.proofs.log.Log.push.Goals as goal

pub invariant_of-self : goal.invariant_of-self
invariant_of-self c =
    let level = c.args.level in
    let entry = c.args.entry.now in
    let told = c.self.inside.told.items in
    let more = c.with-self-inside.ensures in (
      c.in-Ok.ensures ∙ ap (λ l. l ++ entry_line level entry) c.self.invariant.0 ∙ sym (entry_lines-more told level entry) ∙ ap entry_lines (sym more),
      c.add_entry.ensures ∙ ap (adds (counts_of entry)) c.self.invariant.1 ∙ sym (adds_log-more told (level, entry) (replicate 19 0)) ∙ ap (λ l. adds_log l (replicate 19 0)) (sym more),
    )

use Rattle.std.proofs.Common.{◌∷◌, ◌+◌, ◌∙◌, ap, sym, drop}
use Rattle.std.proofs.lemmas.List.{at_drop_all, drop_more}
use Rattle.bm_journal.specs.Totals.{totals_of}
use Rattle.bm_journal.specs.Counting.{adds, each_total, adds_logs}
use Rattle.bm_journal.specs.TotalNames.{all_totals}
use Rattle.bm_journal.proofs.Sums.{adds_logs-none}
use Rattle.bm_journal.proofs.counting.totals_of.Goals as goal

pub loop-log-preserved : goal.loop-log-preserved
loop-log-preserved c =
    let logs = c.as_slice-log-items.result.now in
    let log = c.log-item.result in
    let values = c.loop-log.counters.values in
    let rest = drop (c.loop-log.log-index + 1) logs in
    let cut = drop_more logs c.loop-log.log-index log c.loop-log-test.true ∙ ap (λ l. l ∷ rest) (sym c.log-item.is) in
    ap (adds_logs rest) (c.add_all.ensures ∙ ap (λ vs. adds (each_total vs all_totals) values) c.counters.ensures)
    ∙ sym (ap (λ ls. adds_logs ls values) cut)
    ∙ c.loop-log.invariant

pub returns : goal.returns
returns c =
    let logs = c.as_slice-log-items.result.now in
    let rest = at_drop_all (λ logs. adds_logs logs c.loop-log.counters.values) logs c.loop-log.log-index c.loop-log-test.false in
    c.new.ensures ∙ sym rest ∙ c.loop-log.invariant ∙ adds_logs-none logs ∙ ap totals_of c.as_slice-log-items.ensures

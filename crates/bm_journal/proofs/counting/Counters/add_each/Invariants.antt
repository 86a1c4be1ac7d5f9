use Rattle.std.proofs.Common.{◌≡◌, drop}
use Rattle.bm_journal.specs.Counting.{adds, each_total}
use Rattle.bm_journal.proofs.counting.Counters.add_each.Given as goal

-- what is counted so far, and then the other totals
abbrev pub invariant-loop-total : goal.invariant-loop-total
invariant-loop-total l =
    adds (each_total l.others.values (drop l.total-index l.totals)) l.self.values
    ≡ adds (each_total l.others.values l.totals) l.fn.self.values

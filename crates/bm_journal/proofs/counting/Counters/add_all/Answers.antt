use Rattle.std.proofs.Common.{◌∙◌, ap}
use Rattle.bm_journal.specs.Counting.{adds, each_total}
use Rattle.bm_journal.proofs.counting.Counters.add_all.Goals as goal

pub returns : goal.returns
returns c = c.add_each.ensures ∙ ap (λ ts. adds (each_total c.args.others.now.values ts) c.args.self.now.values) c.all.ensures

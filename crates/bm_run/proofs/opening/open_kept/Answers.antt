use Rattle.std.proofs.Common.{map}
use Rattle.bm_run.proofs.OpeningLemmas.{ascending, fills-once}
use Rattle.bm_run.proofs.opening.open_kept.Goals as goal

pub create-requires-clause-ascend : goal.create-requires-clause-ascend
create-requires-clause-ascend c =
    rw c.in_ok-fills.ensures.fills (ascending c.args.classes.now c.args.pool.now c.requires.ascend)

pub create-requires-clause-once : goal.create-requires-clause-once
create-requires-clause-once c =
    fills-once (map (λ f. (f.0, f.1.items)) c.in_ok-fills.fills.items) c.fill.new.pool c.in_ok-fills.ensures.out

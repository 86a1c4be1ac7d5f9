use Rattle.bm_cache_lists.proofs.Houses.{names-back}
use Rattle.bm_cache_lists.proofs.rows.Rows.listed.Goals as goal

pub returns : goal.returns
returns c =
    rw (← c.self.view_is, ← names-back c.self.inside.places.items c.self.inside.lines.items c.args.row c.args.stack c.index.result.now c.self.invariant.0 c.requires c.index.ensures) c.listed.ensures

use Rattle.bm_obj.proofs.Told.{told-page}
use Rattle.bm_obj.proofs.one_world.OneWorldCarry.page_in.Goals as goal

pub returns-clause-known : goal.returns-clause-known
returns-clause-known c = told-page c.args.self.now c.args.n c.requires.graph

use Rattle.std.proofs.Common.{◌≡◌, ℕ, sym, ◌∙◌, subst}
use Rattle.bm_law.specs.State.{Row}
use Rattle.bm_law.specs.Stands.{in_row}
use Rattle.bm_cache_lists.proofs.Heads.{times-row}
use Rattle.bm_cache_lists.proofs.line.Line.push.Goals as goal

pub push-requires-clause-fresh : goal.push-requires-clause-fresh
push-requires-clause-fresh c =
    times-row c.self.inside.active c.self.inside.count c.self.inside.raised c.self.inside.target c.self.inside.plain c.self.inside.tracing c.args.number c.self.inside.links c.self.invariant.0 c.self.invariant.1 ∙ subst (λ (r : Row ℕ). in_row c.args.number r ≡ 0) (sym c.self.view_is) c.requires

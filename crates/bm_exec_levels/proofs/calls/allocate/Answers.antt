use Rattle.std.proofs.Common.{◌≡◌, rules, sym, subst}
use Rattle.bm_cache.specs.Answers.{Allocated}
use Rattle.bm_cache.specs.Shown.{shown}
use Rattle.bm_exec_levels.specs.AtProcessor.{log_of}
use Rattle.bm_exec_levels.specs.declared.processor.Processor.{Processor}
use Rattle.bm_exec_levels.proofs.calls.allocate.Goals as goal

pub returns-clause-answer : goal.returns-clause-answer
returns-clause-answer g c =
    let m : Processor g.row.W.Denot = c.alloc-given.new.host.own.now in
    let lent : c.own-1.given.0 ≡ m = search rules in
    let F : Processor g.row.W.Denot → Type 0 = λ k. Allocated c.args.own.now.caches.processor g.L.Rank.number c.args.class (log_of c.args.own.now) (log_of k) (shown c.args.own.now.caches) (shown k.caches) c.alloc-given.result in
    subst F (sym lent) c.alloc-given.ensures.answer

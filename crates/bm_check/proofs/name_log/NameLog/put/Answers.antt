use Rattle.bm_check.specs.Changes.{names_in}
use Rattle.bm_check.specs.Tables.{names_of}
use Rattle.bm_check.specs.declared.name_log.Change.{Change}
use Rattle.bm_check.proofs.ChangeLemmas.{listed_after, kept_after}
use Rattle.bm_check.proofs.name_log.NameLog.put.Goals as goal

pub invariant_of-self-2 : goal.invariant_of-self-2
invariant_of-self-2 c = record {
  soft_listed = listed_after c.put.result c.args.self.now.soft.items c.list_soft.new.soft.items c.args.name c.args.state (names_in c.args.self.now) (names_of c.put.new.self) c.args.self.now.soft_listed c.in_ok-list_soft.ensures.ok c.put.ensures.ok c.put.ensures.same;
}

pub returns-clause-kept : goal.returns-clause-kept
returns-clause-kept c =
    let change : Change = record { name = c.args.name; state = c.state-before.result } in
    kept_after c.put.result c.args.self.now.changes.items c.push.new.self.items change (names_in c.args.self.now) (names_of c.put.new.self) c.args.state c.in_ok-push.ensures.items c.state-before.ensures c.put.ensures.ok

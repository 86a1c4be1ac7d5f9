use Rattle.std.proofs.Common.{sym, ◌∙◌, ap}
use Rattle.bm_check.specs.Names.{Names}
use Rattle.bm_check.specs.Changes.{names_in, at_states}
use Rattle.bm_check.proofs.ChangeLemmas.{leads_as, no_changes}
use Rattle.bm_check.proofs.name_log.NameLog.go_back.Goals as goal

pub returns-clause-ok : goal.returns-clause-ok
returns-clause-ok c = λ f start.
    let n = names_in c.args.self.now in
    let begun = names_in c.begin-changes.new.self in
    let same = c.begin-changes.ensures.names in
    let back = c.in_ok-apply.ensures.ok f (leads_as c.args.self.now.changes.items c.begin-changes.result.items n begun f (sym c.begin-changes.ensures.value) (sym same) start) in
    let forth = c.in_ok-apply.ensures.kept n.state (leads_as _ c.begin-changes.new.self.changes.items n begun n.state (sym c.begin-changes.ensures.empty) (sym same) (no_changes n)) in
    record {
      names = c.begin.ensures.names ∙ (back ∙ ap (λ (k : Names). at_states k f) same);
      empty = c.begin.ensures.empty;
      leads = leads_as c.apply.new.self.changes.items c.begin.result.items (names_in c.apply.new.self) (names_in c.begin.new.self) n.state (sym c.begin.ensures.value) (sym c.begin.ensures.names) forth;
    }

use Rattle.std.proofs.Common.{◌≡◌, ℕ, List, Bool, true, false, map, ◌++◌, sym, ◌∙◌, ap, ap₂, subst}
use Rattle.std.specs.List.{list_any}
use Rattle.bm_check.specs.declared.name_state.NameState.{NameState}
use Rattle.bm_check.specs.declared.name_log.Change.{Change}
use Rattle.bm_check.specs.Names.{Names}
use Rattle.bm_check.specs.Meetings.{outcome}
use Rattle.bm_check.specs.Changes.{names_in, at_states, end_of, breaks_at, met_at, Starts, Leads}
use Rattle.bm_check.proofs.ChangeLemmas.{a_break, without_break, all_met, applied_there, starts_there}
use Rattle.bm_check.proofs.name_log.NameLog.meet.Goals as goal
use Rattle.bm_check.proofs.name_log.NameLog.meet.Goals.{After-breaks}

-- the names at the first part's end, which are compared
at_first : (c : After-breaks) (f g : List ℕ → NameState) → Starts c.args.self.now f → Leads c.args.first.items (at_states (names_in c.args.self.now) f) g → names_in c.apply.new.self ≡ at_states (names_in c.args.self.now) g
at_first c f g start forth = applied_there (names_in c.args.self.now) (names_in c.go_back.new.self) (names_in c.apply.new.self) f g c.args.first.items (c.in_ok-go_back.ensures.ok f start).names forth c.in_ok-apply.ensures.ok

-- the states at the second part's end
ends_are : (c : After-breaks) → c.in_ok-ends.ends.items ≡ map (end_of (names_in c.args.self.now).state) (c.args.self.now.changes.items ++ c.args.first.items)
ends_are c = c.in_ok-ends.ensures.ok ∙ ap (λ (fs : List Change). map (end_of (names_in c.args.self.now).state) (c.args.self.now.changes.items ++ fs)) c.as_slice.ensures.value

tested : (c : After-breaks) (b : Bool) → c.breaks.result ≡ b → (f g : List ℕ → NameState) → Starts c.args.self.now f → Leads c.args.first.items (at_states (names_in c.args.self.now) f) g → list_any (breaks_at c.args.meeting g) (map (end_of (names_in c.args.self.now).state) (c.args.self.now.changes.items ++ c.args.first.items)) ≡ b
tested c b is f g start forth =
    ap₂ (λ (es : List Change) (n : Names). list_any (breaks_at c.args.meeting n.state) es) (sym (c.as_slice-2.ensures.value ∙ ends_are c)) (sym (at_first c f g start forth))
    ∙ (sym c.breaks.ensures ∙ is)

pub returns-then-breaks-clause-ok : goal.returns-then-breaks-clause-ok
returns-then-breaks-clause-ok c = λ f g start forth.
    a_break c.args.meeting c.args.self.now.changes.items c.args.first.items (names_in c.args.self.now) f g start forth
    (tested ((goal.at.returns-then-breaks-clause-ok c).After-breaks) true c.if-breaks.true f g start forth)

pub returns-clause-ok : goal.returns-clause-ok
returns-clause-ok c = λ f g start forth.
    let later = (goal.at.returns-clause-ok c).After-breaks in
    let n = names_in c.args.self.now in
    let there = at_first later f g start forth in
    let back = c.in_ok-go_back.ensures.ok f start in
    let again = c.in_ok-go_back-2.ensures.ok f (c.in_ok-apply.ensures.kept f (starts_there n (names_in c.go_back.new.self) f c.go_back.new.self.changes.items back.names back.empty)) in
    let outcomes : c.in_ok-outcomes.outcomes.items ≡ map (met_at c.args.meeting g) (map (end_of n.state) (c.args.self.now.changes.items ++ c.args.first.items)) =
    c.in_ok-outcomes.ensures.ok ∙ ap₂ (λ (es : List Change) (m : Names). map (met_at c.args.meeting m.state) es) (c.as_slice-3.ensures.value ∙ ends_are later) there in
    record {
      none = without_break c.args.meeting c.args.self.now.changes.items c.args.first.items n f g start forth (tested later false c.if-breaks.false f g start forth);
      names = again.names ∙ ap (λ (k : Names). at_states k f) there;
      leads = subst (λ (es : List Change). Leads es (at_states n f) (λ x. outcome c.args.meeting (g x) (n.state x))) (sym outcomes) (all_met c.args.meeting c.args.self.now.changes.items c.args.first.items n f g start forth);
    }

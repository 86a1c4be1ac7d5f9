use Rattle.std.proofs.Common.{◌≡◌, ℕ, List, vec_len}
use Rattle.bm_check.specs.declared.name_state.NameState.{NameState}
use Rattle.bm_check.specs.Changes.{names_in, Leads, KeepsStart}
use Rattle.bm_check.proofs.name_log.NameLog.apply.Given as goal

abbrev pub invariant-loop-change : goal.invariant-loop-change
invariant-loop-change l = record {
  leads : (f : List ℕ → NameState) → Leads l.initial.rest.items (names_in l.initial.self) f → Leads l.rest.items (names_in l.self) f × ((names_in l.self).met ≡ (names_in l.initial.self).met);
  kept : KeepsStart l.initial.self l.self;
}

abbrev pub decreases-loop-change : goal.decreases-loop-change
decreases-loop-change l = vec_len l.rest

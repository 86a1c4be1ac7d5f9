use Rattle.std.proofs.Common.{◌≡◌, ◌<◌, ◌≤◌, length, sym, ◌∙◌, ap, arith, get_or, below_more, true}
use Rattle.bm_check.specs.declared.name_state.NameState.TheVariants.{Unbound}
use Rattle.bm_check.specs.NameStates.{owns}
use Rattle.bm_check.proofs.TableLemmas.{both_true, both_false}
use Rattle.bm_check.proofs.table.NameTable.owns_some.Goals as goal

pub returns-then-owns : goal.returns-then-owns
returns-then-owns c =
    let t = c.args.self.now in
    let same = c.deref-state-items.ensures.value in
    let lt : c.loop-state.state-index < length t.names.keys = omega (arith, ap length same, t.each_state, t.states.ok.0) in
    let isit : owns (get_or t.states.items c.loop-state.state-index Unbound) ≡ true = rw (← same) (sym c.owns.ensures ∙ c.if-owns.true) in
    sym (both_true (λ f s. owns s) t.names.keys t.distinct t.states.items t.states.items c.loop-state.state-index lt isit)

pub loop-state-preserved : goal.loop-state-preserved
loop-state-preserved c = below_more _ _ c.loop-state.invariant (sym c.owns.ensures ∙ c.if-owns.false)

pub returns : goal.returns
returns c =
    let t = c.args.self.now in
    let same = c.deref-state-items.ensures.value in
    let all : length t.names.keys ≤ c.loop-state.state-index = omega (arith, ap length same, t.each_state, t.states.ok.0) in
    sym (both_false (λ f s. owns s) t.names.keys t.distinct t.states.items t.states.items (λ i lt. rw (← same) (c.loop-state.invariant i (omega arith))))

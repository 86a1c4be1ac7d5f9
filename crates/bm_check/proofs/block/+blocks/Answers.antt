use Rattle.std.proofs.Common.{◌≡◌, ℕ, sym, ◌∙◌, ap, refl, subst, [], Err, Some, None}
use Rattle.std.proofs.lemmas.Result.{err_from_is_err_and}
use Rattle.bm_check.specs.declared.name_log.NameLog.{NameLog}
use Rattle.bm_check.specs.Changes.{names_in, at_states, Leads, Starts}
use Rattle.bm_check.proofs.ChangeLemmas.{leads_as, leads_later, no_changes}
use Rattle.bm_check.specs.Statements.{setting_of}
use Rattle.bm_lang.specs.declared.scenario.Action.{If}
use Rattle.bm_lang.specs.declared.scenario.Block.{out-Block}
use Rattle.bm_check.specs.declared.name_state.HeldLock.{HeldLock}
use Rattle.bm_check.specs.Answers.{IsJudged, IsOther}
use Rattle.bm_check.specs.declared.name_state.NameState.TheVariants.{Spent}
use Rattle.bm_check.specs.NameStates.{non_null}
use Rattle.bm_check.specs.Names.{Names, put, back_to}
use Rattle.bm_check.specs.Blocks.{at, Reaches, judged_block, from_inside, after_if, end_line}
use Rattle.bm_check.proofs.Growth.{Grows, block_grows}
use Rattle.bm_check.proofs.BlockLemmas.{err_then, err_statement, one_statement, block_judged, block_whole, judged_list, block_ends, plain_is, repeat_is, if_is, if_whole, first_grows, last_is, OtherEnds, forth_there, outer_there, kept_on}
use Rattle.bm_check.proofs.block.+blocks.Goals as goal
use Rattle.bm_check.proofs.block.+blocks.Goals.{judge_block-After-loop-statement, judge_action-In_ok-judge_block-in-If, judge_action-In_ok-first-in-If, judge_action-After-leave, judge_action-After-leave-in-Repeat, judge_action-in-Some+in_ok-judge_block-in-Some, judge_action-in-None}

-- the first block of an `if`, from the names before it
first_block : (t : ℕ) (c : judge_action-In_ok-judge_block-in-If t) → judged_block (setting_of c.args.setting.now.scenario.now c.args.setting.now.kind) (at (put (names_in c.args.log.now) c.in-If.name (non_null ((names_in c.args.log.now).state c.in-If.name))) c.args.lock) c.in-If.body ≡ Reaches (at (names_in c.judge_block.new.log) c.in_ok-judge_block-in-If.field-0)
first_block t c = ap (λ n. judged_block (setting_of c.args.setting.now.scenario.now c.args.setting.now.kind) (at n c.args.lock) c.in-If.body) (sym c.in_ok-outer-in-If.ensures.2) ∙ c.in_ok-judge_block-in-If.ensures.judged

first_met : (t : ℕ) (c : judge_action-In_ok-judge_block-in-If t) → Grows (names_in c.args.log.now) (names_in c.judge_block.new.log)
first_met t c = first_grows (setting_of c.args.setting.now.scenario.now c.args.setting.now.kind) (names_in c.args.log.now) c.args.lock c.args.line c.in-If.name c.in-If.body c.in-If.otherwise (at (names_in c.judge_block.new.log) c.in_ok-judge_block-in-If.field-0) c.in_ok-outer-in-If.ensures.0 (first_block t c)

-- its other block begins at the states before it
other : (t : ℕ) (c : judge_action-In_ok-first-in-If t) → IsOther c.in_ok-first-in-If.first c.judge_block.new.log c.enter_other.new.log c.in-If.name (names_in c.args.log.now).state
other t c = c.in_ok-first-in-If.ensures.ok (names_in c.args.log.now).state (c.in_ok-judge_block-in-If.ensures.kept (names_in c.args.log.now).state c.in_ok-outer-in-If.ensures.3)

pub judge_action-returns-in_err-judge_block-in-Some-clause-judged : goal.judge_action-returns-in_err-judge_block-in-Some-clause-judged
judge_action-returns-in_err-judge_block-in-Some-clause-judged t c =
    let later = (goal.at.judge_action-returns-in_err-judge_block-in-Some-clause-judged t c).In_ok-first-in-If in
    let b = (goal.at.judge_action-returns-in_err-judge_block-in-Some-clause-judged t c).In_ok-judge_block-in-If in
    let e = setting_of c.args.setting.now.scenario.now c.args.setting.now.kind in
    let n = names_in c.args.log.now in
    let u = names_in c.judge_block-in-Some.new.log in
    let s = c.in_err-judge_block-in-Some.field-0.0 in
    let p = err_from_is_err_and c.from_residual-in_err-judge_block-in-Some.result c.from_residual-in_err-judge_block-in-Some.ensures.1 in
    let is = c.in-If.is ∙ ap (λ o. If c.in-If.name c.in-If.body o) c.in-Some.is in
    let here : IsJudged (Err s) u (judged_block e (at (put (back_to n (names_in c.judge_block.new.log)) c.in-If.name Spent) c.args.lock) c.in-Some.block) = subst (λ (m : Names). IsJudged (Err s) u (judged_block e (at m c.args.lock) c.in-Some.block)) (other t later).names c.in_err-judge_block-in-Some.ensures.judged in
    rw (p.1, p.2) (rw (if_is e n c.args.lock c.args.line c.in-If.name c.in-If.body (Some c.in-Some.block) (at (names_in c.judge_block.new.log) c.in_ok-judge_block-in-If.field-0) c.in_ok-outer-in-If.ensures.0 (first_block t b) c.args.action.now is)
    (err_then s u u (judged_block e (at (put (back_to n (names_in c.judge_block.new.log)) c.in-If.name Spent) c.args.lock) c.in-Some.block) (after_if (end_line c.in-Some.block) c.args.lock (names_in c.judge_block.new.log)) here))

-- .. and has been judged, or is absent
other_ends : (t : ℕ) (c : judge_action-After-leave t) → IsOther c.in_ok-first-in-If.first c.judge_block.new.log c.enter_other.new.log c.in-If.name (names_in c.args.log.now).state → OtherEnds (setting_of c.args.setting.now.scenario.now c.args.setting.now.kind) (names_in c.args.log.now) (names_in c.judge_block.new.log) c.match-otherwise.log c.in-If.name c.args.lock c.in-If.body c.args.action.now c.match-otherwise.end_line
other_ends t c begun =
    let e = setting_of c.args.setting.now.scenario.now c.args.setting.now.kind in
    let n = names_in c.args.log.now in
    elim c.match-otherwise.branch [
      | judge_action-in-Some+in_ok-judge_block-in-Some w ↦ record {
        otherwise = Some w.in-Some.block;
        is = c.in-If.is ∙ ap (λ o. If c.in-If.name c.in-If.body o) w.in-Some.is;
        held = w.in_ok-judge_block-in-Some.field-0;
        reaches = ap (λ m. judged_block e (at m c.args.lock) w.in-Some.block) (sym begun.names) ∙ (w.in_ok-judge_block-in-Some.ensures.judged ∙ ap (λ u. Reaches (at (names_in u) w.in_ok-judge_block-in-Some.field-0)) (sym w.log-is));
        last = last_is w.in-Some.block ∙ sym w.end_line-is;
        start = subst (λ (u : NameLog). Starts u n.state) (sym w.log-is) (w.in_ok-judge_block-in-Some.ensures.kept n.state begun.start);
      }
      | judge_action-in-None w ↦ record {
        otherwise = None;
        is = c.in-If.is ∙ ap (λ o. If c.in-If.name c.in-If.body o) w.in-None.is;
        held = c.args.lock;
        reaches = ap (λ m. Reaches (at m c.args.lock)) (sym begun.names ∙ ap names_in (sym w.log-is));
        last = last_is c.in-If.body ∙ sym w.end_line-is;
        start = subst (λ (u : NameLog). Starts u n.state) (sym w.log-is) begun.start;
      }
    ]

pub judge_action-returns-after-otherwise-clause-judged : goal.judge_action-returns-after-otherwise-clause-judged
judge_action-returns-after-otherwise-clause-judged t c =
    let begun = other t ((goal.at.judge_action-returns-after-otherwise-clause-judged t c).In_ok-first-in-If) in
    let reaches = first_block t ((goal.at.judge_action-returns-after-otherwise-clause-judged t c).In_ok-judge_block-in-If) in
    let e = setting_of c.args.setting.now.scenario.now c.args.setting.now.kind in
    let n = names_in c.args.log.now in
    let first = names_in c.judge_block.new.log in
    let last = names_in c.match-otherwise.log in
    let w = other_ends t c begun in
    let forth = forth_there e n first last c.in-If.name c.args.lock w.held w.otherwise c.in_ok-first-in-If.first.items w.reaches begun.leads in
    rw (if_whole e n first last c.args.lock c.in_ok-judge_block-in-If.field-0 w.held c.args.line c.match-otherwise.end_line c.in-If.name c.in-If.body w.otherwise c.args.action.now w.is c.in_ok-outer-in-If.ensures.0 reaches w.reaches w.last)
    (c.leave.ensures.judged n.state first.state w.start forth)

pub judge_action-returns-after-otherwise-clause-kept : goal.judge_action-returns-after-otherwise-clause-kept
judge_action-returns-after-otherwise-clause-kept t c =
    let begun = other t ((goal.at.judge_action-returns-after-otherwise-clause-kept t c).In_ok-first-in-If) in
    let grows = first_met t ((goal.at.judge_action-returns-after-otherwise-clause-kept t c).In_ok-judge_block-in-If) in
    let e = setting_of c.args.setting.now.scenario.now c.args.setting.now.kind in
    let n = names_in c.args.log.now in
    let first = names_in c.judge_block.new.log in
    let last = names_in c.match-otherwise.log in
    let w = other_ends t c begun in
    let forth = forth_there e n first last c.in-If.name c.args.lock w.held w.otherwise c.in_ok-first-in-If.first.items w.reaches begun.leads in
    kept_on c.leave.result _ _
    (λ kept h start. kept n.state first.state h w.start forth (outer_there e n first last c.in-If.name c.args.lock w.held w.otherwise c.args.log.now.changes.items c.in_ok-outer-in-If.outer.items h grows w.reaches c.in_ok-outer-in-If.ensures.1 start))
    c.leave.ensures.kept

-- the body of a `repeat`, from the names before it
body_reaches : (t : ℕ) (c : judge_action-After-leave-in-Repeat t) → judged_block (setting_of c.args.setting.now.scenario.now c.args.setting.now.kind) (at (names_in c.args.log.now) c.args.lock) c.in-Repeat.body ≡ Reaches (at (names_in c.judge_block-in-Repeat.new.log) c.in_ok-judge_block-in-Repeat.field-0)
body_reaches t c = ap (λ m. judged_block (setting_of c.args.setting.now.scenario.now c.args.setting.now.kind) (at m c.args.lock) c.in-Repeat.body) (sym c.begin-outer.ensures.names) ∙ c.in_ok-judge_block-in-Repeat.ensures.judged

body_starts : (t : ℕ) (c : judge_action-After-leave-in-Repeat t) → Starts c.judge_block-in-Repeat.new.log (names_in c.args.log.now).state
body_starts t c =
    let n = names_in c.args.log.now in
    c.in_ok-judge_block-in-Repeat.ensures.kept n.state (leads_as [] c.begin-outer.new.self.changes.items n (names_in c.begin-outer.new.self) n.state (sym c.begin-outer.ensures.empty) (sym c.begin-outer.ensures.names) (no_changes n))

body_forth : (t : ℕ) (c : judge_action-After-leave-in-Repeat t) → Leads c.new.result.items (at_states (names_in c.judge_block-in-Repeat.new.log) (names_in c.args.log.now).state) (names_in c.args.log.now).state
body_forth t c =
    let start = at_states (names_in c.judge_block-in-Repeat.new.log) (names_in c.args.log.now).state in
    leads_as [] c.new.result.items start start start.state (sym c.new.ensures.items) refl (no_changes start)

pub judge_action-returns-in_ok-judge_block-in-Repeat-clause-judged : goal.judge_action-returns-in_ok-judge_block-in-Repeat-clause-judged
judge_action-returns-in_ok-judge_block-in-Repeat-clause-judged t c =
    let e = setting_of c.args.setting.now.scenario.now c.args.setting.now.kind in
    let n = names_in c.args.log.now in
    rw (repeat_is e n (names_in c.judge_block-in-Repeat.new.log) c.args.lock c.in_ok-judge_block-in-Repeat.field-0 c.args.line c.in-Repeat.count c.in-Repeat.body c.args.action.now c.in-Repeat.is (body_reaches t c))
    (c.leave-in-Repeat.ensures.judged n.state n.state (body_starts t c) (body_forth t c))

pub judge_action-returns-in_ok-judge_block-in-Repeat-clause-kept : goal.judge_action-returns-in_ok-judge_block-in-Repeat-clause-kept
judge_action-returns-in_ok-judge_block-in-Repeat-clause-kept t c =
    let e = setting_of c.args.setting.now.scenario.now c.args.setting.now.kind in
    let n = names_in c.args.log.now in
    let end = names_in c.judge_block-in-Repeat.new.log in
    let g = block_grows e (at n c.args.lock) c.in-Repeat.body (at end c.in_ok-judge_block-in-Repeat.field-0) (body_reaches t c) in
    kept_on c.leave-in-Repeat.result _ _
    (λ kept h start. kept n.state n.state h (body_starts t c) (body_forth t c)
    (leads_as c.args.log.now.changes.items c.begin-outer.result.items (at_states end n.state) (at_states end n.state) h (sym c.begin-outer.ensures.value) refl (leads_later c.args.log.now.changes.items n.met end.met g.more n.state h g.met start)))
    c.leave-in-Repeat.ensures.kept

pub judge_action-returns-in_default : goal.judge_action-returns-in_default
judge_action-returns-in_default t c =
    rw (plain_is (setting_of c.args.setting.now.scenario.now c.args.setting.now.kind) (at (names_in c.args.log.now) c.args.lock) c.args.line c.args.action.now c.in_default.not-If c.in_default.not-Repeat c.in_default.not-Section)
    c.simple.ensures

pub judge_block-loop-statement-preserved : goal.judge_block-loop-statement-preserved
judge_block-loop-statement-preserved t c = record {
  judged = c.loop-statement.invariant.judged ∙ one_statement _ _ _ c.deref-statement-items.result.now c.loop-statement.statement-index c.statement-item.result c.loop-statement-test.true c.statement-item.is c.in_ok-held.ensures.judged;
  kept = λ f h. c.in_ok-held.ensures.kept f (c.loop-statement.invariant.kept f h);
}

pub judge_block-returns-in_err-held : goal.judge_block-returns-in_err-held
judge_block-returns-in_err-held t c =
    let e = setting_of c.args.setting.now.scenario.now c.args.setting.now.kind in
    let p = err_from_is_err_and c.from_residual.result c.from_residual.ensures.1 in
    let begun = at (names_in c.args.log.now) (from_inside c.args.lock) in
    let here = err_statement c.in_err-held.field-0.0 _ (names_in c.args.log.now) e _ c.deref-statement-items.result.now c.loop-statement.statement-index c.statement-item.result c.loop-statement-test.true c.statement-item.is c.in_err-held.ensures.judged in
    rw (p.1, p.2) (record { judged = rw (block_judged e (at (names_in c.args.log.now) c.args.lock) c.args.block.now) (err_then c.in_err-held.field-0.0 (names_in c.args.log.now) _ (judged_list e begun (out-Block c.args.block.now).statements.items) (block_ends c.args.lock (out-Block c.args.block.now).end_line) (rw (← c.deref-statement-items.ensures.value) (subst (λ (h : HeldLock). IsJudged (Err c.in_err-held.field-0.0) (names_in c.args.log.now) (judged_list e (at (names_in c.args.log.now) h) c.deref-statement-items.result.now)) c.from_inside-held.ensures (rw c.loop-statement.invariant.judged here)))); kept = tt })

-- a block whose loop has ended
ended : (t : ℕ) (c : judge_block-After-loop-statement t) → judged_block (setting_of c.args.setting.now.scenario.now c.args.setting.now.kind) (at (names_in c.args.log.now) c.args.lock) c.args.block.now ≡ block_ends c.args.lock (out-Block c.args.block.now).end_line (at (names_in c.loop-statement.log) c.loop-statement.held)
ended t c =
    let e = setting_of c.args.setting.now.scenario.now c.args.setting.now.kind in
    block_whole e (names_in c.args.log.now) (names_in c.loop-statement.log) c.args.lock c.loop-statement.held c.args.block.now c.deref-statement-items.result.now c.loop-statement.statement-index c.deref-statement-items.ensures.value c.loop-statement-test.false
    (ap (λ h. judged_list e (at (names_in c.args.log.now) h) c.deref-statement-items.result.now) (sym c.from_inside-held.ensures) ∙ c.loop-statement.invariant.judged)

pub judge_block-returns-then-is_here : goal.judge_block-returns-then-is_here
judge_block-returns-then-is_here t c =
    let here = c.is_here.ensures in
    let isit = c.if-is_here.true in
    record { judged = rw (ended t ((goal.at.judge_block-returns-then-is_here t c).After-loop-statement)) (rw (here, isit) refl); kept = tt }

pub judge_block-returns : goal.judge_block-returns
judge_block-returns t c =
    let here = c.is_here.ensures in
    let isnt = c.if-is_here.false in
    record { judged = rw (ended t ((goal.at.judge_block-returns t c).After-loop-statement)) (rw (here, isnt) refl); kept = c.loop-statement.invariant.kept }

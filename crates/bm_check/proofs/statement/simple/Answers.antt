use Rattle.std.proofs.Common.{◌∙◌, sym}
use Rattle.std.proofs.lemmas.Result.{err_from_is_err_and}
use Rattle.bm_check.specs.Changes.{names_in}
use Rattle.bm_check.specs.Statements.{setting_of, row_of}
use Rattle.bm_check.proofs.StatementLemmas.{is_bound, is_not_bound}
use Rattle.bm_check.proofs.statement.simple.Goals as goal

pub returns-in_err-bind-clause-judged : goal.returns-in_err-bind-clause-judged
returns-in_err-bind-clause-judged c =
    let e = setting_of c.args.setting.now.scenario.now c.args.setting.now.kind in
    let r = row_of e c.args.lock (names_in c.args.log.now) c.args.action.now in
    let p = err_from_is_err_and c.from_residual-in_err-bind.result c.from_residual-in_err-bind.ensures.1 in
    rw (p.1, p.2) (is_not_bound c.in_err-bind.field-0.0 c.args.line c.args.lock c.args.action.now r (names_in c.leave.new.log) (names_in c.bind.new.log) (sym c.needs.ensures ∙ c.in_default.is) (c.in_ok-leave.ensures.ok c.args.lock) (c.in_err-bind.ensures.bound r.bound (c.binding-bound.ensures c.args.lock)))

pub returns-clause-judged : goal.returns-clause-judged
returns-clause-judged c =
    let e = setting_of c.args.setting.now.scenario.now c.args.setting.now.kind in
    let r = row_of e c.args.lock (names_in c.args.log.now) c.args.action.now in
    is_bound c.args.line c.args.lock c.lock_after.result c.args.action.now r (names_in c.leave.new.log) (names_in c.bind.new.log) (sym c.needs.ensures ∙ c.in_default.is) (c.in_ok-leave.ensures.ok c.args.lock) (c.in_ok-bind.ensures.bound r.bound (c.binding-bound.ensures c.args.lock)) c.lock_after.ensures

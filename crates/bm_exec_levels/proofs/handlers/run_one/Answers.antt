use Rattle.std.proofs.Common.{◌≡◌, ◌*◌, ◌++◌, ◌∷◌, [], ℕ, Some, IfSome, ap, refl, subst, sym, ◌∙◌}
use Rattle.bm_law.specs.Lists.{Leaves}
use Rattle.bm_journal.specs.declared.entry.Entry.TheVariants as entry
use Rattle.bm_journal.specs.declared.ids.Domain.TheVariants.{Plain}
use Rattle.bm_lang.specs.Limits.{script_cost}
use Rattle.bm_exec_levels.specs.AtProcessor.{Between, due_cost, lists_of, log_of}
use Rattle.bm_exec_levels.specs.AtTie.{tied-turned}
use Rattle.bm_exec_levels.specs.Ready.{known_of, word_of}
use Rattle.bm_exec_levels.specs.declared.processor.Processor.{Processor}
use Rattle.bm_exec_levels.proofs.Ran.{between-as, cost-is, has-phrase, ran}
use Rattle.bm_exec_levels.proofs.handlers.run_one.Goals as goal

pub end_handler-requires-clause-phrase : goal.end_handler-requires-clause-phrase
end_handler-requires-clause-phrase g c =
    let s = c.args.program.now.scenario.now in
    let m = c.args.own.now in
    let b = c.begin_handler-table.new.own in
    let e = c.begin_handler-table.ensures in
    let l = c.args.due.now.level in
    let z = c.run_inside.new.own in
    let q = (known_of g.W.Knows z).grace.processor in
    let P : ℕ → Type 0 = λ p. IfSome (log_of b) (λ es. Leaves p es (lists_of b)) in
    let here : P q = subst P (e.at.ready.here ∙ sym c.run_inside.ensures.between.stays.processor) e.fine.placed.told in
    has-phrase q g.L.Rank.number l s c.script_of-script.result.now.name (known_of g.W.Knows m) (word_of g.W.Knows Plain b) (lists_of b) (log_of m) (log_of b) (log_of c.run_inside.new.own) c.requires.level (ap (λ (y : Processor g.row.W.Denot). word_of g.W.Knows Plain y) e.same) c.requires.due.1.tells e.said here c.run_inside.ensures.runs

pub returns-clause-at : goal.returns-clause-at
returns-clause-at g c k d =
    c.end_handler.ensures.at c.args.own.now k d (c.run_inside.ensures.between.stays.running ∙ c.begin_handler-table.ensures.running)

pub returns-clause-between : goal.returns-clause-between
returns-clause-between g c =
    let p = c.args.program.now in
    let due = c.args.due.now in
    let x = c.script_of-script.result.now in
    let m = c.args.own.now in
    let b = c.begin_handler-table.new.own in
    let z = c.run_inside.new.own in
    let d = c.end_handler.new.own in
    let e = c.begin_handler-table.ensures in
    let f = c.end_handler.ensures in
    let inside : Between g.W.Knows (due_cost p due) 2 due.level p b z = between-as g.W.Knows (3 * script_cost (Some x)) (due_cost p due) g.L.Rank.number due.level p b z (cost-is p due x c.script_of-script.ensures) c.requires.level c.run_inside.ensures.between in
    let runs : z.running.items ≡ m.running.items ++ due ∷ [] = c.run_inside.ensures.between.stays.running ∙ e.running in
    ran g.W.Knows (due_cost p due) due.level p due m b z d e.same f.same inside e.came f.came f.fine (f.running m.running.items runs) e.tables f.tables

pub run_inside-requires-clause-tied : goal.run_inside-requires-clause-tied
run_inside-requires-clause-tied g c =
    let e = c.begin_handler-table.ensures in
    tied-turned g.W.Knows g.B.Since.since g.B.Since.start c.args.due.now.level c.args.own.now c.begin_handler-table.new.own (entry.Handler c.script_of-script.result.now.name) refl e.said (ap (λ (y : Processor g.row.W.Denot). y.side) e.same) c.requires.tied

pub returns-clause-tied : goal.returns-clause-tied
returns-clause-tied g c =
    let f = c.end_handler.ensures in
    tied-turned g.W.Knows g.B.Since.since g.B.Since.start c.args.due.now.level c.run_inside.new.own c.end_handler.new.own (entry.Back c.script_of-script.result.now.name) refl f.said (ap (λ (y : Processor g.row.W.Denot). y.side) f.same) c.run_inside.ensures.tied

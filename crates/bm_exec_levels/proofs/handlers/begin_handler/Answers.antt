use Rattle.std.proofs.Common.{◌≡◌, ◌+◌, List, ℕ, Some, ap, length, subst, sym, ◌∙◌}
use Rattle.std.proofs.lemmas.List.Elements.{All-pop}
use Rattle.bm_journal.specs.declared.entry.Entry.TheVariants as entry
use Rattle.bm_journal.specs.Recording.{Appends}
use Rattle.bm_exec_levels.specs.AtProcessor.{log_of}
use Rattle.bm_exec_levels.specs.Ready.{BindsAll}
use Rattle.bm_exec.specs.declared.names.NameTable.{NameTable}
use Rattle.bm_exec_levels.proofs.Came.{came-said}
use Rattle.bm_exec_levels.proofs.Dues.{one-longer}
use Rattle.bm_exec_levels.proofs.Turn.{entered}
use Rattle.bm_exec_levels.proofs.handlers.begin_handler.Goals as goal

pub returns-clause-at : goal.returns-clause-at
returns-clause-at g c =
    let m = c.args.own.now in
    let p = c.args.program.now in
    let due = c.args.due.now in
    let b = record m { caches = c.note.new.self; running = c.push.new.self; tables = c.pop.new.self } in
    let d = c.requires.due.1 in
    let A : List ℕ → Type 0 = λ n. Appends (log_of m) due.level (entry.Handler n) (log_of b) in
    let e = c.in-Some.ensures.items in
    let n : length b.tables.items + 1 ≡ length m.tables.items = sym (ap (λ (xs : List NameTable). length xs) e ∙ one-longer b.tables.items c.in-Some.table) in
    let free = All-pop (BindsAll p.scenario.now.scripts) m.tables.items b.tables.items (Some c.in-Some.table) e d.ready.bound in
    entered g.W.Knows c.requires.due.0 p due c.args.script.now m b d c.requires.found c.note.ensures.step.processor (subst A c.duplicate.ensures c.note.ensures.step.records) c.in-Ok.ensures.items c.push.ensures.capacity n c.pop.ensures.capacity free.0

pub returns-clause-came : goal.returns-clause-came
returns-clause-came g c = came-said g.W.Knows c.args.due.now.level (entry.Handler c.duplicate.result) c.args.own.now c.note.new.self c.note.ensures.step c.note.ensures.same

pub returns-clause-bound : goal.returns-clause-bound
returns-clause-bound g c =
    let p = c.args.program.now in
    let free = All-pop (BindsAll p.scenario.now.scripts) c.args.own.now.tables.items c.pop.new.self.items (Some c.in-Some.table) c.in-Some.ensures.items c.requires.due.1.ready.bound in
    free.1

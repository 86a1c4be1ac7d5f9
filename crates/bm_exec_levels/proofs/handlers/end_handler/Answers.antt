use Rattle.std.proofs.Common.{◌≡◌, ◌+◌, List, ℕ, ap, length, subst, ◌∙◌}
use Rattle.std.proofs.lemmas.List.Elements.{All-push, All-same}
use Rattle.bm_journal.specs.declared.entry.Entry.TheVariants as entry
use Rattle.bm_journal.specs.Recording.{Appends}
use Rattle.bm_exec_levels.specs.AtProcessor.{log_of}
use Rattle.bm_exec_levels.specs.Ready.{BindsAll}
use Rattle.bm_exec.specs.declared.names.NameTable.{NameTable}
use Rattle.bm_exec_levels.proofs.Came.{came-said}
use Rattle.bm_exec_levels.proofs.Dues.{one-longer}
use Rattle.bm_exec_levels.proofs.Turn.{left, popped-is}
use Rattle.bm_exec_levels.proofs.handlers.end_handler.Goals as goal

pub returns-clause-at : goal.returns-clause-at
returns-clause-at g c was k d r =
    let m = c.args.own.now in
    let p = c.args.program.now in
    let due = c.args.due.now in
    let b = record m { caches = c.note.new.self; running = c.pop-gone.new.self; tables = c.push.new.self } in
    let A : List ℕ → Type 0 = λ n. Appends (log_of m) due.level (entry.Back n) (log_of b) in
    let q : b.running.items ≡ was.running.items = popped-is g.W.Knows c.pop-gone.result b.running.items m.running.items was.running.items due _ _ _ m.running.ok.0 c.pop-gone.ensures.cases c.pop-gone.ensures.items r in
    let e = c.in-Ok.ensures.items in
    let n : length b.tables.items ≡ length m.tables.items + 1 = ap (λ (xs : List NameTable). length xs) e ∙ one-longer m.tables.items c.args.table in
    let F = BindsAll p.scenario.now.scripts in
    let free = All-same F b.tables.items _ e (All-push F m.tables.items c.args.table c.requires.at.ready.bound c.requires.bound) in
    left g.W.Knows k p due c.args.script.now was m b d c.requires.found c.requires.at c.requires.phrase c.note.ensures.step.processor (subst A c.duplicate.ensures c.note.ensures.step.records) r q c.pop-gone.ensures.capacity n c.push.ensures.capacity free

pub returns-clause-came : goal.returns-clause-came
returns-clause-came g c = came-said g.W.Knows c.args.due.now.level (entry.Back c.duplicate.result) c.args.own.now c.note.new.self c.note.ensures.step c.note.ensures.same

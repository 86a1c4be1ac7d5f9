use Rattle.std.proofs.Common.{◌≡◌, ◌∙◌, [], ◌∷◌, None, Some, ap, refl, sym}
use Rattle.bm_journal.specs.declared.entry.Entry.TheVariants as entry
use Rattle.bm_exec_levels.specs.AtProcessor.{lock_of, log_of}
use Rattle.bm_exec_levels.specs.AtTie.{owes-said, tied-locked, tied-open, tied-unlocked}
use Rattle.bm_exec_levels.specs.Calling.{lock_name, locks-of, name_in}
use Rattle.bm_exec_levels.specs.declared.processor.Processor.{Processor}
use Rattle.bm_exec_levels.proofs.Begun.{at-locked}
use Rattle.bm_exec_levels.proofs.graphs.give_lock_back.Goals as goal

pub returns-clause-at : goal.returns-clause-at
returns-clause-at g c =
    let n = rw c.level.ensures.number at c.note.ensures.step in
    let p = c.args.program.now in
    at-locked g.W.Knows g.L.Rank.number p c.args.own.now c.note.new.self None (entry.Unlock c.args.name) refl tt refl refl n.processor n.records c.requires.at

pub returns-clause-tied : goal.returns-clause-tied
returns-clause-tied g c =
    let n = rw c.level.ensures.number at c.note.ensures.step in
    let l = g.L.Rank.number in
    let p = c.args.program.now in
    let since = g.B.Since.since in
    let start = g.B.Since.start in
    let m : Processor g.row.W.Denot = c.args.own.now in
    let z = c.note.new.self in
    let k : Processor g.row.W.Denot = record m { caches = z; locked = None } in
    let named = ap name_in c.requires.graph.2.found ∙ ap Some c.requires.graph.3 in
    let held = locks-of (log_of m) m.calls (lock_of p m) (Some c.args.name) (ap (lock_name p.scenario.now.maps) c.requires.held ∙ named) c.requires.at.counts in
    tied-unlocked g.W.Knows since start l c.args.name m k c.requires.ground n.records held
    (owes-said g.W.Knows since start l [] [] (entry.Unlock c.args.name) m z n.records (tied-open g.W.Knows since start l m c.requires.tied))

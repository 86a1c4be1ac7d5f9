use Rattle.std.proofs.Common.{◌+◌, List, [], ◌∷◌, ap, append-nil, arith, refl, subst}
use Rattle.bm_law_order.specs.Act.{Act}
use Rattle.bm_law_order.specs.Graphs.{graph_names_in}
use Rattle.bm_grace.specs.Known.{Known}
use Rattle.bm_exec_levels.specs.AtTie.{OwesAt, owes-did, owes-said}
use Rattle.bm_exec_levels.specs.Calling.{call-noted}
use Rattle.bm_exec_levels.specs.Hosting.{with_caches, with_side}
use Rattle.bm_exec_levels.specs.declared.processor.Processor.{Processor}
use Rattle.bm_exec_levels.proofs.Begun.{at-called}
use Rattle.bm_exec_levels.proofs.Noted.{between-calls, between-join, between-noted, between-sided, came-before, fine-before}
use Rattle.bm_exec_levels.proofs.calls.call.Goals as goal

pub note-requires-clause-note : goal.note-requires-clause-note
note-requires-clause-note g c = call-noted c.args.entry c.requires.call

pub overflow_add-own : goal.overflow_add-own
overflow_add-own g c = (let h = c.requires.at.ready.calls in let a = c.requires.room in omega (arith, h, a))

pub returns-clause-at : goal.returns-clause-at
returns-clause-at g c =
    let n = rw c.level.ensures.number at c.note.ensures.step in
    let m : Processor g.row.W.Denot = c.args.own.now in
    let k : Processor g.row.W.Denot = record m { caches = c.note.new.self; side = c.ask.new.self; calls = m.calls + 1 } in
    at-called g.W.Knows g.L.Rank.number c.args.program.now m k c.args.entry c.requires.call c.ask.ensures.known refl c.requires.room n.processor n.records c.requires.at

pub returns-clause-owes : goal.returns-clause-owes
returns-clause-owes g c done owes =
    let n = rw c.level.ensures.number at c.note.ensures.step in
    let l = g.L.Rank.number in
    let since = g.B.Since.since in
    let start = g.B.Since.start in
    let m : Processor g.row.W.Denot = c.args.own.now in
    let w : g.row.W.Denot = c.ask.new.self in
    let counted = owes-did g.W.Knows since start l done [] [] m w (c.ask.ensures.does, ap (λ (x : Known). x.grace.processor) c.ask.ensures.known, ap (λ (x : Known). graph_names_in x.objects.graphs) c.ask.ensures.known) owes in
    let same = subst (λ (acts : List Act). OwesAt g.W.Knows since start l acts [] (with_side m w)) (append-nil done) counted in
    owes-said g.W.Knows since start l done [] c.args.entry (with_side m w) c.note.new.self n.records same

pub returns-clause-between : goal.returns-clause-between
returns-clause-between g c =
    let l = g.L.Rank.number in
    let p = c.args.program.now in
    let n = rw c.level.ensures.number at c.note.ensures.step in
    let m : Processor g.row.W.Denot = c.args.own.now in
    let w : g.row.W.Denot = c.ask.new.self in
    let z = c.note.new.self in
    let e = c.ask.ensures in
    let one = between-sided g.W.Knows 1 l p m w (ap (λ (x : Known). x.grace) e.known) (ap (λ (x : Known). x.objects.asked) e.known) (fine-before g.W.Knows l m w e.same (ap (λ (x : Known). x.grace.processors) e.known) c.requires.fine) (came-before g.W.Knows l m w e.same) in
    let two = between-noted g.W.Knows l p (with_side m w) z c.args.entry c.note.ensures.same n.processor c.note.ensures.placed n.records one.fine in
    between-calls g.W.Knows 1 0 l (m.calls + 1) p m (with_caches (with_side m w) z) (between-join g.W.Knows 1 0 0 0 l p m (with_side m w) (with_caches (with_side m w) z) one two)

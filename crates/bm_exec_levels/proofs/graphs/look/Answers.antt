use Rattle.std.proofs.Common.{[], ◌∷◌, refl}
use Rattle.bm_journal.specs.declared.entry.Entry.TheVariants as entry
use Rattle.bm_journal.specs.declared.ids.ObjId.{ObjId}
use Rattle.bm_law_order.specs.Act as act
use Rattle.bm_law_order.specs.Chunk as chunk
use Rattle.bm_exec_levels.specs.AtTie.{owes-did, tied-closed, tied-open}
use Rattle.bm_exec_levels.specs.declared.processor.Processor.{Processor}
use Rattle.bm_exec_levels.proofs.graphs.look.Goals as goal

pub returns-clause-tied : goal.returns-clause-tied
returns-clause-tied g c =
    let o : ObjId = c.args.object in
    let l = g.L.Rank.number in
    let since = g.B.Since.since in
    let start = g.B.Since.start in
    let m : Processor g.row.W.Denot = c.args.own.now in
    let x = c.read-value.result in
    let did = owes-did g.W.Knows since start l [] (act.Finds o.unit o.life c.args.place x ∷ []) [] m m.side (c.read-value.ensures.does, refl, refl) (tied-open g.W.Knows since start l m c.requires.tied) in
    tied-closed g.W.Knows since start l (act.Finds o.unit o.life c.args.place x ∷ []) (entry.Get o.unit o.life c.args.place x ∷ []) c.call.new.own (record { chunk = chunk.Finding o.unit o.life c.args.place x; free = refl; acts_are = refl; entries_are = refl }) (c.call.ensures.owes (act.Finds o.unit o.life c.args.place x ∷ []) did)

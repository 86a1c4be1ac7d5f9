use Rattle.std.proofs.Common.{◌≡◌, ◌+◌, refl, ap, ◌∙◌, arith, [], ◌∷◌}
use Rattle.std.specs.Prelude.{◌%◌, false}
use Rattle.bm_grace.specs.Known.{Known, side}
use Rattle.bm_grace.specs.declared.step.StepKind.TheVariants.{Leave}
use Rattle.bm_journal.specs.declared.entry.Entry.TheVariants as entry
use Rattle.bm_law_order.specs.Act as act
use Rattle.bm_law_order.specs.Graphs.{graph_names_in}
use Rattle.bm_law_order.specs.Chunk as chunk
use Rattle.bm_exec_levels.specs.AtTie.{tied-told}
use Rattle.bm_exec_levels.specs.Ready.{known_of, word_of}
use Rattle.bm_exec_levels.specs.declared.processor.Processor.{Processor}
use Rattle.bm_exec_levels.proofs.Words.{at-moved, came-moved, moved-here, moved-processor, names-out}
use Rattle.bm_exec_levels.proofs.sections.leave_section.Goals as goal

pub returns-clause-at : goal.returns-clause-at
returns-clause-at g c p at room =
    let m : Processor g.row.W.Denot = c.args.own.now in
    let d = c.args.domain in
    let k : Processor g.row.W.Denot = record m { caches = c.note.new.self; side = c.leave-word.new.self; inside = c.inside_after-own.result } in
    let known = c.leave-word.ensures.known in
    let word : word_of g.W.Knows d k ≡ word_of g.W.Knows d m + 1 = ap (λ (x : Known). (side d x).word) known ∙ moved-here Leave g.W.Knows.tells d (known_of g.W.Knows m) in
    let before = c.requires.inside in
    let parity : word_of g.W.Knows d k % 2 ≡ 0 = omega (arith, word, before) in
    at-moved g.W.Knows Leave d false c.args.level p m k (entry.Out d (word_of g.W.Knows d m + 1)) known refl parity c.inside_after-own.ensures (names-out d (word_of g.W.Knows d m)) c.note.ensures.step.processor (rw c.leave-word.ensures.word at c.note.ensures.step.records) room at

pub returns-clause-came : goal.returns-clause-came
returns-clause-came g c =
    let m : Processor g.row.W.Denot = c.args.own.now in
    let k : Processor g.row.W.Denot = record m { caches = c.note.new.self; side = c.leave-word.new.self; inside = c.inside_after-own.result } in
    let e = c.leave-word.ensures in
    came-moved g.W.Knows c.args.level m k (entry.Out c.args.domain c.leave-word.result) e.same c.note.ensures.same c.note.ensures.step.processor c.note.ensures.step.records

pub returns-clause-tied : goal.returns-clause-tied
returns-clause-tied g c since start t =
    let m : Processor g.row.W.Denot = c.args.own.now in
    let d = c.args.domain in
    let k : Processor g.row.W.Denot = record m { caches = c.note.new.self; side = c.leave-word.new.self; inside = c.inside_after-own.result } in
    let word = c.leave-word.result in
    tied-told g.W.Knows since start c.args.level m k (act.Leaves d word ∷ []) (entry.Out d word) (record { chunk = chunk.Leaving d word; free = refl; acts_are = refl; entries_are = refl }) (c.leave-word.ensures.does, ap (λ (x : Known). x.grace.processor) c.leave-word.ensures.known ∙ moved-processor Leave g.W.Knows.tells d (known_of g.W.Knows m), ap (λ (x : Known). graph_names_in x.objects.graphs) c.leave-word.ensures.known) c.note.ensures.step.records t

use Rattle.std.proofs.Common.{◌≡◌, ◌+◌, refl, ap, ◌∙◌, arith, [], ◌∷◌}
use Rattle.std.specs.Prelude.{◌%◌, true}
use Rattle.bm_grace.specs.Known.{Known, side}
use Rattle.bm_grace.specs.declared.step.StepKind.TheVariants.{Enter}
use Rattle.bm_journal.specs.declared.entry.Entry.TheVariants as entry
use Rattle.bm_law_order.specs.Act as act
use Rattle.bm_law_order.specs.Graphs.{graph_names_in}
use Rattle.bm_law_order.specs.Chunk as chunk
use Rattle.bm_exec_levels.specs.AtTie.{tied-told}
use Rattle.bm_exec_levels.specs.Ready.{known_of, word_of}
use Rattle.bm_exec_levels.specs.declared.processor.Processor.{Processor}
use Rattle.bm_exec_levels.proofs.Words.{at-moved, came-moved, moved-here, moved-processor, names-in}
use Rattle.bm_exec_levels.proofs.sections.enter_section.Goals as goal

pub returns-clause-at : goal.returns-clause-at
returns-clause-at g c p at room =
    let m : Processor g.row.W.Denot = c.args.own.now in
    let d = c.args.domain in
    let k : Processor g.row.W.Denot = record m { caches = c.note.new.self; side = c.enter-word.new.self; inside = c.inside_after-own.result } in
    let known = c.enter-word.ensures.known in
    let word : word_of g.W.Knows d k ≡ word_of g.W.Knows d m + 1 = ap (λ (x : Known). (side d x).word) known ∙ moved-here Enter g.W.Knows.tells d (known_of g.W.Knows m) in
    let before = c.requires.outside in
    let parity : word_of g.W.Knows d k % 2 ≡ 1 = omega (arith, word, before) in
    at-moved g.W.Knows Enter d true c.args.level p m k (entry.In d (word_of g.W.Knows d m + 1)) known refl parity c.inside_after-own.ensures (names-in d (word_of g.W.Knows d m)) c.note.ensures.step.processor (rw c.enter-word.ensures.word at c.note.ensures.step.records) room at

pub returns-clause-came : goal.returns-clause-came
returns-clause-came g c =
    let m : Processor g.row.W.Denot = c.args.own.now in
    let k : Processor g.row.W.Denot = record m { caches = c.note.new.self; side = c.enter-word.new.self; inside = c.inside_after-own.result } in
    let e = c.enter-word.ensures in
    came-moved g.W.Knows c.args.level m k (entry.In c.args.domain c.enter-word.result) e.same c.note.ensures.same c.note.ensures.step.processor c.note.ensures.step.records

pub returns-clause-tied : goal.returns-clause-tied
returns-clause-tied g c since start t =
    let m : Processor g.row.W.Denot = c.args.own.now in
    let d = c.args.domain in
    let k : Processor g.row.W.Denot = record m { caches = c.note.new.self; side = c.enter-word.new.self; inside = c.inside_after-own.result } in
    let word = c.enter-word.result in
    tied-told g.W.Knows since start c.args.level m k (act.Enters d word ∷ []) (entry.In d word) (record { chunk = chunk.Entering d word; free = refl; acts_are = refl; entries_are = refl }) (c.enter-word.ensures.does, ap (λ (x : Known). x.grace.processor) c.enter-word.ensures.known ∙ moved-processor Enter g.W.Knows.tells d (known_of g.W.Knows m), ap (λ (x : Known). graph_names_in x.objects.graphs) c.enter-word.ensures.known) c.note.ensures.step.records t

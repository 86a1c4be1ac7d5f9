use Rattle.std.proofs.Common.{◌≡◌, ◌∙◌, [], ◌∷◌, Option, Some, ap, refl, is_some, List, ℕ, slice_get, subst, sym, true}
use Rattle.bm_journal.specs.declared.entry.Entry.TheVariants as entry
use Rattle.bm_journal.specs.declared.ids.ObjId.{ObjId}
use Rattle.bm_grace.specs.Known.{Known}
use Rattle.bm_law.specs.State.{seen}
use Rattle.bm_law_order.specs.Act as act
use Rattle.bm_law_order.specs.Chunk as chunk
use Rattle.bm_law_scenario.specs.Declared.{Declared, declared_in}
use Rattle.bm_cache.specs.Tokens.{number_of}
use Rattle.bm_exec_levels.specs.AtTie.{owes-did, tied-closed, tied-open}
use Rattle.bm_exec_levels.specs.Ready.{known_of}
use Rattle.bm_exec_levels.specs.Slotted.{in_hands, items_in}
use Rattle.bm_exec_levels.specs.declared.processor.Processor.{Processor}
use Rattle.bm_exec_levels.proofs.Made.{one-read}
use Rattle.bm_exec_levels.proofs.Stocked.{hand-life, hand-values}
use Rattle.bm_exec_levels.proofs.calls.read_field.Goals as goal

pub read-value-requires-clause-lives : goal.read-value-requires-clause-lives
read-value-requires-clause-lives g c =
    let o : ObjId = c.args.object in
    let d : Declared = declared_in c.args.program.now.scenario.now in
    hand-life d (known_of g.W.Knows c.args.own.now).objects c.requires.living.0 o.unit o.life c.requires.at.ready.stocked c.requires.living.1

pub read-value-requires-clause-there : goal.read-value-requires-clause-there
read-value-requires-clause-there g c =
    let o : ObjId = c.args.object in
    let d : Declared = declared_in c.args.program.now.scenario.now in
    let same = hand-values d (known_of g.W.Knows c.args.own.now).objects o.unit _ c.requires.at.ready.stocked c.requires.living.1.is in
    subst (λ (vs : List ℕ). is_some (slice_get vs c.args.place) ≡ true) (sym same) c.requires.there

pub returns-clause-read : goal.returns-clause-read
returns-clause-read g c =
    let o : ObjId = c.args.object in
    let d : Declared = declared_in c.args.program.now.scenario.now in
    let k : Known = known_of g.W.Knows c.args.own.now in
    let same = hand-values d k.objects o.unit _ c.requires.at.ready.stocked c.requires.living.1.is in
    one-read g.L.Rank.number o c.args.place c.read-value.result _ _ (in_hands k.objects) c.call.ensures.said (ap (λ (vs : List ℕ). slice_get vs c.args.place) (sym same) ∙ c.read-value.ensures.value)

pub returns-clause-lists : goal.returns-clause-lists
returns-clause-lists g c = ap (seen number_of) c.call.ensures.shown

pub returns-clause-lives : goal.returns-clause-lives
returns-clause-lives g c = (ap (λ (x : Known). in_hands x.objects) c.call.ensures.known, record { graphs = ap (λ (x : Known). x.objects.graphs) c.call.ensures.known; items = ap (λ (x : Known). items_in x.objects) c.call.ensures.known })

pub returns-clause-tied : goal.returns-clause-tied
returns-clause-tied g c =
    let o : ObjId = c.args.object in
    let l = g.L.Rank.number in
    let since = g.B.Since.since in
    let start = g.B.Since.start in
    let m : Processor g.row.W.Denot = c.args.own.now in
    let x = c.read-value.result in
    let did = owes-did g.W.Knows since start l [] (act.Finds o.unit o.life c.args.place x ∷ []) [] m m.side (c.read-value.ensures.does, refl, refl) (tied-open g.W.Knows since start l m c.requires.tied) in
    tied-closed g.W.Knows since start l (act.Finds o.unit o.life c.args.place x ∷ []) (entry.Get o.unit o.life c.args.place x ∷ []) c.call.new.own (record { chunk = chunk.Finding o.unit o.life c.args.place x; free = refl; acts_are = refl; entries_are = refl }) (c.call.ensures.owes (act.Finds o.unit o.life c.args.place x ∷ []) did)

use Rattle.std.proofs.Common.{◌≡◌, ◌∙◌, ◌+◌, [], ◌∷◌, ap, arith, refl}
use Rattle.bm_journal.specs.declared.entry.Entry.TheVariants as entry
use Rattle.bm_journal.specs.declared.ids.ObjId.{ObjId}
use Rattle.bm_grace.specs.Known.{Known}
use Rattle.bm_law.specs.State.{seen}
use Rattle.bm_law_order.specs.Act as act
use Rattle.bm_law_order.specs.Graphs.{graph_names_in}
use Rattle.bm_law_order.specs.Chunk as chunk
use Rattle.bm_law_scenario.specs.Declared.{Declared, declared_in}
use Rattle.bm_cache.specs.Tokens.{number_of}
use Rattle.bm_exec_levels.specs.AtTie.{owes-did, tied-closed, tied-open}
use Rattle.bm_exec_levels.specs.Hosting.{with_side}
use Rattle.bm_exec_levels.specs.Ready.{known_of}
use Rattle.bm_exec_levels.specs.Slotted.{in_hands, items_in}
use Rattle.bm_exec_levels.specs.declared.processor.Processor.{Processor}
use Rattle.bm_exec_levels.proofs.Begun.{at-acquired}
use Rattle.bm_exec_levels.proofs.Made.{one-more}
use Rattle.bm_exec_levels.proofs.Noted.{between-join, between-sided, came-before, fine-before}
use Rattle.bm_exec_levels.proofs.Stocked.{hand-life, hands-acquired}
use Rattle.bm_exec_levels.proofs.Graphed.{items-counted}
use Rattle.bm_exec.specs.Living.{count_in}
use Rattle.bm_exec_levels.proofs.calls.acquire.Goals as goal

pub acquire-seen-requires-clause-room : goal.acquire-seen-requires-clause-room
acquire-seen-requires-clause-room g c = let room = c.requires.room in omega (arith, room)

pub acquire-seen-requires-clause-lives : goal.acquire-seen-requires-clause-lives
acquire-seen-requires-clause-lives g c =
    let o : ObjId = c.args.object in
    let d : Declared = declared_in c.args.program.now.scenario.now in
    hand-life d (known_of g.W.Knows c.args.own.now).objects c.requires.living.0 o.unit o.life c.requires.at.ready.stocked c.requires.living.1

pub call-requires-clause-at : goal.call-requires-clause-at
call-requires-clause-at g c =
    let o : ObjId = c.args.object in
    let room = c.requires.room in
    at-acquired g.W.Knows g.L.Rank.number c.args.program.now c.args.own.now c.acquire-seen.new.self o.unit _ c.acquire-seen.ensures.known c.requires.living.1.is c.requires.counted (omega (arith, room)) c.requires.at

pub call-requires-clause-fine : goal.call-requires-clause-fine
call-requires-clause-fine g c =
    let e = c.acquire-seen.ensures in
    fine-before g.W.Knows g.L.Rank.number c.args.own.now c.acquire-seen.new.self e.same (ap (λ (x : Known). x.grace.processors) e.known) c.requires.fine

pub call-requires-clause-room : goal.call-requires-clause-room
call-requires-clause-room g c = (let room = c.requires.room in let more = ap (λ (x : Known). x.objects.asked) c.acquire-seen.ensures.known in omega (arith, room, more))

pub returns-clause-acquired : goal.returns-clause-acquired
returns-clause-acquired g c =
    let o : ObjId = c.args.object in
    let d : Declared = declared_in c.args.program.now.scenario.now in
    let e = c.acquire-seen.ensures in
    let k : Known = known_of g.W.Knows c.args.own.now in
    one-more g.L.Rank.number o c.acquire-seen.result _ _ (in_hands k.objects) _ e.some c.call.ensures.said
    (ap (λ (x : Known). in_hands x.objects) c.call.ensures.known ∙ (ap (λ (x : Known). in_hands x.objects) e.known ∙ hands-acquired d k o.unit _ c.requires.at.ready.stocked c.requires.living.1.is))

pub returns-clause-lists : goal.returns-clause-lists
returns-clause-lists g c = ap (seen number_of) c.call.ensures.shown

pub returns-clause-tied : goal.returns-clause-tied
returns-clause-tied g c =
    let o : ObjId = c.args.object in
    let l = g.L.Rank.number in
    let since = g.B.Since.since in
    let start = g.B.Since.start in
    let m : Processor g.row.W.Denot = c.args.own.now in
    let w : g.row.W.Denot = c.acquire-seen.new.self in
    let x = c.acquire-seen.result in
    let e = c.acquire-seen.ensures in
    let did = owes-did g.W.Knows since start l [] (act.Acquires o.unit o.life x ∷ []) [] m w (e.does, ap (λ (x : Known). x.grace.processor) e.known, ap (λ (x : Known). graph_names_in x.objects.graphs) e.known) (tied-open g.W.Knows since start l m c.requires.tied) in
    tied-closed g.W.Knows since start l (act.Acquires o.unit o.life x ∷ []) (entry.Acquire o.unit o.life x ∷ []) c.call.new.own (record { chunk = chunk.Acquiring o.unit o.life x; free = refl; acts_are = refl; entries_are = refl }) (c.call.ensures.owes (act.Acquires o.unit o.life x ∷ []) did)

pub returns-clause-between : goal.returns-clause-between
returns-clause-between g c =
    let l = g.L.Rank.number in
    let p = c.args.program.now in
    let m : Processor g.row.W.Denot = c.args.own.now in
    let w : g.row.W.Denot = c.acquire-seen.new.self in
    let e = c.acquire-seen.ensures in
    let one = between-sided g.W.Knows 1 l p m w (ap (λ (x : Known). x.grace) e.known) (ap (λ (x : Known). x.objects.asked) e.known) (fine-before g.W.Knows l m w e.same (ap (λ (x : Known). x.grace.processors) e.known) c.requires.fine) (came-before g.W.Knows l m w e.same) in
    between-join g.W.Knows 1 0 1 0 l p m (with_side m w) c.call.new.own one c.call.ensures.between

pub returns-clause-items : goal.returns-clause-items
returns-clause-items g c =
    let o : ObjId = c.args.object in
    let k : Known = known_of g.W.Knows c.args.own.now in
    let e = c.acquire-seen.ensures in
    record {
      graphs = ap (λ (x : Known). x.objects.graphs) c.call.ensures.known ∙ ap (λ (x : Known). x.objects.graphs) e.known;
      items = ap (λ (x : Known). items_in x.objects) c.call.ensures.known ∙ (ap (λ (x : Known). items_in x.objects) e.known ∙ items-counted k.objects o.unit (count_in (k.objects.lives o.unit) + 1) (k.objects.asked + 1));
    }

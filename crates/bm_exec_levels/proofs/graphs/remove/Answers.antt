use Rattle.std.proofs.Common.{◌≡◌, ◌∙◌, ℕ, List, [], ◌∷◌, Option, Some, None, ap, false, refl, subst, sym, true}
use Rattle.std.specs.Prelude.{IfSome}
use Rattle.bm_journal.specs.Recording.{Appends}
use Rattle.bm_journal.specs.declared.entry.Entry.{Entry}
use Rattle.bm_journal.specs.declared.entry.Entry.TheVariants as entry
use Rattle.bm_journal.specs.declared.ids.ObjId.{ObjId}
use Rattle.bm_journal.specs.declared.past.PastCall.TheVariants as past
use Rattle.bm_lang.specs.declared.scenario.MapDeclaration.{MapDeclaration}
use Rattle.bm_graph.specs.Calls.{first_call}
use Rattle.bm_graph.specs.Entries.{call_entry}
use Rattle.bm_graph.specs.Ways.{pop_call}
use Rattle.bm_grace.specs.Known.{Known, Objects}
use Rattle.bm_law.proofs.Spans.{Records-one}
use Rattle.bm_law_order.specs.Calls.{tag_after}
use Rattle.bm_law_order.specs.Graphs.{Effect, EffectFits, Looks, Standing, effect_of, graph_names_in, graphs_after, moved, standing_from}
use Rattle.bm_law_scenario.specs.Declared.{Declared, declared_in}
use Rattle.bm_exec.specs.Living.{IsToPut, TakesOut}
use Rattle.bm_exec.specs.Guarded.{Guarded, IsFound, Shelved, Popped, Removed, Found}
use Rattle.bm_exec_levels.specs.AtPolls.{names_of}
use Rattle.bm_exec_levels.specs.AtProcessor.{guarded_of, lives_of, log_of}
use Rattle.bm_exec_levels.specs.Calling.{is_object_call}
use Rattle.bm_exec_levels.specs.Ready.{known_of}
use Rattle.bm_exec_levels.specs.Slotted.{in_hands}
use Rattle.bm_exec_levels.specs.declared.processor.Processor.{Processor}
use Rattle.bm_exec_levels.proofs.Graphed.{HasMoved, fits-popped, graph-call, items-kept, items-popped, items-taken, looks-first, none-held, owns-first, owns-popped, put-popped, shelved-there, stands-there, taken-popped}
use Rattle.bm_exec_levels.proofs.Graphing.{at-graph, guarded-graph, lives-graph, moved-now, takes-graph, tied-graph}
use Rattle.bm_exec_levels.proofs.graphs.remove.Goals as goal

some-is : {A : Type 0} (x y : A) → Some x ≡ Some y → x ≡ y
some-is x y e = cc

pub remove-requires-clause-kind : goal.remove-requires-clause-kind
remove-requires-clause-kind g c = c.requires.at.ready.stocked.kinds c.args.graph.0 c.requires.graph.0 true c.requires.graph.1.found c.requires.graph.1.kind

pub remove-requires-clause-stands : goal.remove-requires-clause-stands
remove-requires-clause-stands g c =
    let d : Declared = declared_in c.args.program.now.scenario.now in
    stands-there d (known_of g.W.Knows c.args.own.now).objects c.args.graph.0 c.requires.graph.0.type_id.0 c.args.object.unit c.args.object.life (guarded_of g.W.Knows c.args.own.now).lock c.requires.at.ready.stocked c.requires.graph.3

pub call-requires-clause-at : goal.call-requires-clause-at
call-requires-clause-at g c =
    let d : Declared = declared_in c.args.program.now.scenario.now in
    let m : Processor g.row.W.Denot = c.args.own.now in
    let o : Objects = (known_of g.W.Knows m).objects in
    let decl = c.requires.graph.0 in
    let e = c.in_ok-position.ensures in
    let stands = stands-there d o c.args.graph.0 decl.type_id.0 c.args.object.unit c.args.object.life (guarded_of g.W.Knows m).lock c.requires.at.ready.stocked c.requires.graph.3 in
    at-graph g.W.Knows g.L.Rank.number c.args.program.now m c.remove.new.self c.args.graph.0 (past.Remove c.args.object) c.next_tag-tag.result decl e.known c.requires.graph.1.found true c.requires.graph.1.kind
    (record { fits = stands; within = e.moves }) tt c.requires.at

pub returns-clause-removed : goal.returns-clause-removed
returns-clause-removed g c x s =
    let l = g.L.Rank.number in
    let p = c.args.program.now in
    let d : Declared = declared_in p.scenario.now in
    let m : Processor g.row.W.Denot = c.args.own.now in
    let k : Processor g.row.W.Denot = c.call.new.own in
    let o : Objects = (known_of g.W.Knows m).objects in
    let place = c.args.graph.0 in
    let id = c.args.object in
    let call = past.Remove id in
    let tag = c.next_tag-tag.result in
    let e = c.in_ok-position.ensures in
    let decl = c.requires.graph.0 in
    let found = c.requires.graph.1.found in
    let stands = stands-there d o place decl.type_id.0 id.unit id.life (guarded_of g.W.Knows m).lock c.requires.at.ready.stocked c.requires.graph.3 in
    let moves : HasMoved place call o.graphs _ = record { fits = stands; within = e.moves } in
    let now = moved-now g.W.Knows l p m c.remove.new.self place call tag decl e.known found moves in
    let same : decl ≡ x = some-is decl x (sym found ∙ s.found) in
    let takes = takes-graph g.W.Knows l p m c.remove.new.self place call tag decl e.known found k c.call.ensures.known None (Some id) refl refl moves tt c.requires.at in
    record {
      position = c.in_ok-position.position;
      records = Records-one l (call_entry c.args.name c.in_ok-position.position [] call) _ _ c.call.ensures.said;
      takes = subst (λ (y : MapDeclaration). TakesOut p.scenario.now.types y.type_id.0 (in_hands o) (lives_of g.W.Knows k) (Some id)) same takes;
      now_in = guarded-graph g.W.Knows l p m c.remove.new.self place call tag decl e.known found k c.call.ensures.known c.call.ensures.locked
          ∙ ap (λ (f : ℕ → Option Shelved). let z : Guarded = record { lock = (guarded_of g.W.Knows m).lock; within = f } in z) (items-taken o (graphs_after place call tag o.graphs) place id now.within);
    }

pub returns-clause-tied : goal.returns-clause-tied
returns-clause-tied g c =
    let m : Processor g.row.W.Denot = c.args.own.now in
    let id = c.args.object in
    let e = c.in_ok-position.ensures in
    tied-graph g.W.Knows g.L.Rank.number c.args.program.now m c.remove.new.self c.args.graph.0 (past.Remove id) c.next_tag-tag.result c.requires.graph.0 e.known c.requires.graph.1.found
    g.B.Since.since g.B.Since.start c.args.name [] c.in_ok-position.position (entry.Remove c.args.name id.unit id.life c.in_ok-position.position) c.call.new.own refl c.requires.ground c.requires.graph.2
    (c.next_tag-tag.ensures ∙ ap (λ q. tag_after q m.calls) c.requires.at.ready.here) c.requires.at c.requires.tied c.requires.may
    tt e.does c.call.ensures.said
    (ap (λ (x : Known). x.grace.processor) c.call.ensures.known) (ap (λ (x : Known). graph_names_in x.objects.graphs) c.call.ensures.known)
    (c.call.ensures.owes _)

pub returns-clause-called : goal.returns-clause-called
returns-clause-called g c =
    let tag = c.next_tag-tag.result in
    record { tag = tag; now_is = ap (λ (x : Known). x.objects.graphs) c.call.ensures.known ∙ ap (λ (x : Known). x.objects.graphs) c.in_ok-position.ensures.known }

use Rattle.std.proofs.Common.{◌≡◌, ◌∙◌, ℕ, List, [], ◌∷◌, Option, Some, None, ap, slice_get, false, refl, subst, sym, true}
use Rattle.std.specs.Prelude.{IfSome}
use Rattle.bm_journal.specs.Recording.{Appends}
use Rattle.bm_journal.specs.declared.entry.Entry.{Entry}
use Rattle.bm_journal.specs.declared.entry.Entry.TheVariants as entry
use Rattle.bm_journal.specs.declared.ids.ObjId.{ObjId}
use Rattle.bm_journal.specs.declared.past.PastCall.TheVariants as past
use Rattle.bm_lang.specs.declared.scenario.MapDeclaration.{MapDeclaration}
use Rattle.bm_graph.specs.Calls.{first_call}
use Rattle.bm_graph.specs.Entries.{call_entry}
use Rattle.bm_graph.specs.Ways.{pop_call}
use Rattle.bm_grace.specs.Known.{Known, Objects}
use Rattle.bm_law.proofs.Spans.{Records-one}
use Rattle.bm_law_order.specs.Calls.{tag_after}
use Rattle.bm_law_order.specs.Graphs.{Effect, EffectFits, Looks, Standing, effect_of, graph_names_in, graphs_after, moved, standing_from}
use Rattle.bm_law_scenario.specs.Declared.{Declared, declared_in}
use Rattle.bm_exec.specs.Living.{IsToPut, TakesOut}
use Rattle.bm_exec.specs.Guarded.{Guarded, IsFound, Shelved, Popped, Removed, Found}
use Rattle.bm_exec_levels.specs.AtPolls.{names_of}
use Rattle.bm_exec_levels.specs.AtProcessor.{guarded_of, lives_of, log_of}
use Rattle.bm_exec_levels.specs.Calling.{is_object_call}
use Rattle.bm_exec_levels.specs.Ready.{known_of}
use Rattle.bm_exec_levels.specs.Slotted.{AreStocked, in_hands, items_in}
use Rattle.bm_exec_levels.specs.declared.processor.Processor.{Processor}
use Rattle.bm_exec_levels.proofs.Graphed.{HasMoved, put_by, fits-popped, graph-call, items-kept, items-popped, items-taken, looks-first, none-held, owns-first, owns-popped, put-popped, shelved-there, stands-there, taken-popped}
use Rattle.bm_exec_levels.proofs.Graphing.{at-graph, guarded-graph, lives-graph, moved-now, takes-graph, tied-graph}
use Rattle.bm_exec_levels.proofs.graphs.first_item.Goals as goal

some-is : {A : Type 0} (x y : A) → Some x ≡ Some y → x ≡ y
some-is x y e = cc

pub first-requires-clause-kind : goal.first-requires-clause-kind
first-requires-clause-kind g c = c.requires.at.ready.stocked.kinds c.args.graph.0 c.requires.graph.0 true c.requires.graph.1.found c.requires.graph.1.kind

first-entry : (name : List ℕ) (position : ℕ) (item : Option ObjId) → entry.First name item position ≡ call_entry name position [] (first_call item)
first-entry name position None = refl
first-entry name position (Some id) = refl

looks-fit : (place : ℕ) (within : ℕ → Option Standing) (item : Option ObjId) → EffectFits place (effect_of (first_call item)) within
looks-fit place within item = subst (λ (f : Effect). EffectFits place f within) (sym (looks-first item)) tt

still-stands : (place : ℕ) (before now : ℕ → Option Standing) (item : Option ObjId) → now ≡ moved place (effect_of (first_call item)) before → now ≡ before
still-stands place before now item e = e ∙ ap (λ (f : Effect). λ u. moved place f before u) (looks-first item)

pub call-requires-clause-at : goal.call-requires-clause-at
call-requires-clause-at g c =
    let m : Processor g.row.W.Denot = c.args.own.now in
    let o : Objects = (known_of g.W.Knows m).objects in
    let item = c.in_ok-position.item in
    let e = c.in_ok-position.ensures in
    let decl = c.requires.graph.0 in
    at-graph g.W.Knows g.L.Rank.number c.args.program.now m c.first.new.self c.args.graph.0 (first_call item) c.next_tag-tag.result decl e.known c.requires.graph.1.found true c.requires.graph.1.kind
    (record { fits = looks-fit c.args.graph.0 (standing_from 0 o.graphs) item; within = e.moves })
    (none-held decl.type_id.0 (in_hands o) _ (ap put_by (looks-first item))) c.requires.at

is-found : (d : Declared) (o : Objects) (place : ℕ) (m : MapDeclaration) (lock : Option ℕ) (item : Option ObjId) → AreStocked d o → slice_get d.maps place ≡ Some m → IfSome item (λ id. standing_from 0 o.graphs id.unit ≡ Some (record { life = id.life; place = place })) → IsFound d.types m.type_id.0 place (record { lock = lock; within = items_in o }) item
is-found d o place m lock None a f h = tt
is-found d o place m lock (Some id) a f h = shelved-there d o place m id lock a f h

pub returns-clause-found : goal.returns-clause-found
returns-clause-found g c x s =
    let l = g.L.Rank.number in
    let p = c.args.program.now in
    let m : Processor g.row.W.Denot = c.args.own.now in
    let o : Objects = (known_of g.W.Knows m).objects in
    let item = c.in_ok-position.item in
    record {
      position = c.in_ok-position.position;
      records = Records-one l (call_entry c.args.name c.in_ok-position.position [] (first_call item)) _ _ (subst (λ (x : Entry). Appends (log_of m) l x (log_of c.call.new.own)) (first-entry c.args.name c.in_ok-position.position item) c.call.ensures.said);
      found = is-found (declared_in p.scenario.now) o c.args.graph.0 x (guarded_of g.W.Knows m).lock item c.requires.at.ready.stocked s.found c.in_ok-position.ensures.stood;
    }

pub returns-clause-guarded : goal.returns-clause-guarded
returns-clause-guarded g c =
    let l = g.L.Rank.number in
    let p = c.args.program.now in
    let m : Processor g.row.W.Denot = c.args.own.now in
    let o : Objects = (known_of g.W.Knows m).objects in
    let place = c.args.graph.0 in
    let item = c.in_ok-position.item in
    let call = first_call item in
    let tag = c.next_tag-tag.result in
    let e = c.in_ok-position.ensures in
    let decl = c.requires.graph.0 in
    let found = c.requires.graph.1.found in
    let now = moved-now g.W.Knows l p m c.first.new.self place call tag decl e.known found (record { fits = looks-fit place (standing_from 0 o.graphs) item; within = e.moves }) in
    guarded-graph g.W.Knows l p m c.first.new.self place call tag decl e.known found c.call.new.own c.call.ensures.known c.call.ensures.locked
    ∙ ap (λ (f : ℕ → Option Shelved). let z : Guarded = record { lock = (guarded_of g.W.Knows m).lock; within = f } in z) (items-kept o (graphs_after place call tag o.graphs) place (still-stands place (standing_from 0 o.graphs) _ item now.within))

pub returns-clause-lives : goal.returns-clause-lives
returns-clause-lives g c =
    let l = g.L.Rank.number in
    let p = c.args.program.now in
    let m : Processor g.row.W.Denot = c.args.own.now in
    let o : Objects = (known_of g.W.Knows m).objects in
    let place = c.args.graph.0 in
    let item = c.in_ok-position.item in
    let call = first_call item in
    let tag = c.next_tag-tag.result in
    let e = c.in_ok-position.ensures in
    let decl = c.requires.graph.0 in
    let found = c.requires.graph.1.found in
    let now = moved-now g.W.Knows l p m c.first.new.self place call tag decl e.known found (record { fits = looks-fit place (standing_from 0 o.graphs) item; within = e.moves }) in
    lives-graph g.W.Knows l p m c.first.new.self place call tag decl e.known found c.call.new.own c.call.ensures.known (still-stands place (standing_from 0 o.graphs) _ item now.within)

pub returns-clause-tied : goal.returns-clause-tied
returns-clause-tied g c =
    let m : Processor g.row.W.Denot = c.args.own.now in
    let item = c.in_ok-position.item in
    let e = c.in_ok-position.ensures in
    tied-graph g.W.Knows g.L.Rank.number c.args.program.now m c.first.new.self c.args.graph.0 (first_call item) c.next_tag-tag.result c.requires.graph.0 e.known c.requires.graph.1.found
    g.B.Since.since g.B.Since.start c.args.name [] c.in_ok-position.position (entry.First c.args.name item c.in_ok-position.position) c.call.new.own (first-entry c.args.name c.in_ok-position.position item) c.requires.ground c.requires.graph.2
    (c.next_tag-tag.ensures ∙ ap (λ q. tag_after q m.calls) c.requires.at.ready.here) c.requires.at c.requires.tied c.requires.may
    (owns-first (names_of g.W.Knows m.side) item []) e.does c.call.ensures.said
    (ap (λ (x : Known). x.grace.processor) c.call.ensures.known) (ap (λ (x : Known). graph_names_in x.objects.graphs) c.call.ensures.known)
    (c.call.ensures.owes _)

pub returns-clause-item : goal.returns-clause-item
returns-clause-item g c = c.in_ok-position.ensures.item

pub returns-clause-called : goal.returns-clause-called
returns-clause-called g c =
    let tag = c.next_tag-tag.result in
    record { tag = tag; now_is = ap (λ (x : Known). x.objects.graphs) c.call.ensures.known ∙ ap (λ (x : Known). x.objects.graphs) c.in_ok-position.ensures.known }

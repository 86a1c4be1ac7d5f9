use Rattle.std.proofs.Common.{◌≡◌, ◌∙◌, ◌<◌, ℕ, List, [], ◌∷◌, Option, Some, None, ap, length, refl, slice_get, subst, sym, true}
use Rattle.std.specs.Prelude.{get_or}
use Rattle.bm_journal.specs.Recording.{Appends}
use Rattle.bm_journal.specs.declared.entry.Entry.{Entry}
use Rattle.bm_lang.specs.declared.scenario.MapDeclaration.{MapDeclaration}
use Rattle.bm_graph.specs.Entries.{call_entry}
use Rattle.bm_graph.specs.Ways.{is_for_tree, push_call, refused_push}
use Rattle.bm_grace.specs.Known.{Known, Living, Objects}
use Rattle.bm_law.proofs.Spans.{Records-one}
use Rattle.bm_law_order.specs.Act as act
use Rattle.bm_law_order.specs.Calls.{tag_after}
use Rattle.bm_law_order.specs.Graphs.{Effect, EffectFits, Looks, Puts, Standing, effect_of, graph_at, graph_names_in, graphs_after, moved, standing_from}
use Rattle.bm_law_scenario.specs.Declared.{Declared, declared_in}
use Rattle.bm_world.specs.Graphs.{key_of, pushed_at, pushed_call, stood}
use Rattle.bm_world.specs.Lives.{graph_called}
use Rattle.bm_world.specs.declared.pushed.Pushed.{Pushed}
use Rattle.bm_exec.specs.Guarded.{Guarded, Shelved, shelved_at}
use Rattle.bm_exec.specs.Living.{IsToPut, values_in}
use Rattle.bm_exec_levels.specs.AtPolls.{names_of}
use Rattle.bm_exec_levels.specs.AtProcessor.{guarded_of, log_of}
use Rattle.bm_exec_levels.specs.Calling.{is_object_call}
use Rattle.bm_exec_levels.specs.Ready.{known_of}
use Rattle.bm_exec_levels.specs.Slotted.{in_hands, item_of}
use Rattle.bm_exec_levels.specs.declared.processor.Processor.{Processor}
use Rattle.bm_exec_levels.proofs.Graphed.{HasMoved, effect-pushed, effect-refused, graph-call, items-kept, items-put, none-held, owner-named, owner-there, owns-pushed, owns-refused, no-key, no-key-refused, put-pushed, put-refused, read-at, refused-counted, taken-pushed}
use Rattle.bm_exec_levels.proofs.Graphing.{at-graph, guarded-graph, lives-graph, moved-now, takes-graph, tied-graph}
use Rattle.bm_exec_levels.proofs.Stocked.{hand-values, handed, put-lives}
use Rattle.bm_exec_levels.proofs.graphs.put.Goals as goal

some-is : {A : Type 0} (x y : A) → Some x ≡ Some y → x ≡ y
some-is x y e = cc

pub push-requires-clause-lives : goal.push-requires-clause-lives
push-requires-clause-lives g c =
    let d : Declared = declared_in c.args.program.now.scenario.now in
    put-lives d (known_of g.W.Knows c.args.own.now).objects c.requires.graph.0.type_id.0 (Some c.args.object) c.requires.at.ready.stocked c.requires.graph.3

pub push-requires-clause-keyed : goal.push-requires-clause-keyed
push-requires-clause-keyed g c = λ ordered.
    let d : Declared = declared_in c.args.program.now.scenario.now in
    let same = hand-values d (known_of g.W.Knows c.args.own.now).objects c.args.object.unit _ c.requires.at.ready.stocked c.requires.graph.3.1.is in
    subst (λ (vs : List ℕ). 0 < length vs) (sym same) (c.requires.keyed ordered)

pub call-requires-clause-at : goal.call-requires-clause-at
call-requires-clause-at g c =
    let l = g.L.Rank.number in
    let p = c.args.program.now in
    let d : Declared = declared_in p.scenario.now in
    let m : Processor g.row.W.Denot = c.args.own.now in
    let w : g.row.W.Denot = c.push.new.self in
    let o : Objects = (known_of g.W.Knows m).objects in
    let place = c.args.graph.0 in
    let way = c.args.way in
    let id = c.args.object in
    let key = key_of (values_in (o.lives id.unit)) in
    let tag = c.next_tag-tag.result in
    let e = c.in_ok-position.ensures in
    let decl = c.requires.graph.0 in
    let found = c.requires.graph.1.found in
    let known = subst (λ (x : Pushed). g.W.Knows.known w ≡ graph_called place (pushed_call way id key x) tag (known_of g.W.Knows m)) c.in-Done.is e.known in
    let stands = subst (λ (x : Pushed). standing_from 0 o.graphs id.unit ≡ stood id.life x) c.in-Done.is e.stood in
    let moves = subst (λ (x : Pushed). standing_from 0 (g.W.Knows.known w).objects.graphs ≡ moved place (effect_of (pushed_call way id key x)) (standing_from 0 o.graphs)) c.in-Done.is e.moves in
    let call = push_call way id key in
    let has : HasMoved place call o.graphs (g.W.Knows.known w).objects.graphs = record { fits = subst (λ (f : Effect). EffectFits place f (standing_from 0 o.graphs)) (sym (effect-pushed way id key)) stands; within = moves } in
    at-graph g.W.Knows l p m w place call tag decl known found (is_for_tree way) c.requires.graph.1.kind has (subst (IsToPut decl.type_id.0 (in_hands o)) (sym (put-pushed way id key)) c.requires.graph.3) c.requires.at

pub bounds-as_slice-owner : goal.bounds-as_slice-owner
bounds-as_slice-owner g c =
    let d : Declared = declared_in c.args.program.now.scenario.now in
    let o : Objects = (known_of g.W.Knows c.args.own.now).objects in
    let id = c.args.object in
    let stands = subst (λ (x : Pushed). standing_from 0 o.graphs id.unit ≡ stood id.life x) c.in-Already.is c.in_ok-position.ensures.stood in
    subst (λ (xs : List MapDeclaration). c.in-Already.owner < length xs) (sym c.as_slice.ensures) (owner-there d o id.unit (record { life = id.life; place = c.in-Already.owner }) c.requires.at.ready.stocked stands)

pub call-requires-in-Already-clause-at : goal.call-requires-in-Already-clause-at
call-requires-in-Already-clause-at g c =
    let l = g.L.Rank.number in
    let p = c.args.program.now in
    let d : Declared = declared_in p.scenario.now in
    let m : Processor g.row.W.Denot = c.args.own.now in
    let w : g.row.W.Denot = c.push.new.self in
    let o : Objects = (known_of g.W.Knows m).objects in
    let place = c.args.graph.0 in
    let way = c.args.way in
    let id = c.args.object in
    let key = key_of (values_in (o.lives id.unit)) in
    let tag = c.next_tag-tag.result in
    let e = c.in_ok-position.ensures in
    let decl = c.requires.graph.0 in
    let found = c.requires.graph.1.found in
    let known = subst (λ (x : Pushed). g.W.Knows.known w ≡ graph_called place (pushed_call way id key x) tag (known_of g.W.Knows m)) c.in-Already.is e.known in
    let stands = subst (λ (x : Pushed). standing_from 0 o.graphs id.unit ≡ stood id.life x) c.in-Already.is e.stood in
    let moves = subst (λ (x : Pushed). standing_from 0 (g.W.Knows.known w).objects.graphs ≡ moved place (effect_of (pushed_call way id key x)) (standing_from 0 o.graphs)) c.in-Already.is e.moves in
    let owner = c.in-Already.owner in
    let call = refused_push way id key owner in
    let has : HasMoved place call o.graphs (g.W.Knows.known w).objects.graphs = record { fits = subst (λ (f : Effect). EffectFits place f (standing_from 0 o.graphs)) (sym (effect-refused way id key owner)) stands; within = moves } in
    at-graph g.W.Knows l p m w place call tag decl known found (is_for_tree way) c.requires.graph.1.kind has (none-held decl.type_id.0 (in_hands o) _ (put-refused way id key owner)) c.requires.at

pub call-requires-in-Already-clause-call : goal.call-requires-in-Already-clause-call
call-requires-in-Already-clause-call g c = subst (λ (x : Entry). is_object_call x ≡ true) (sym (c.refused.ensures 0)) (graph-call c.args.name c.in-Already.position _ (refused_push c.args.way c.args.object 0 0))

pub returns-in-Done-clause-put_in : goal.returns-in-Done-clause-put_in
returns-in-Done-clause-put_in g c = λ done.
    let l = g.L.Rank.number in
    let p = c.args.program.now in
    let d : Declared = declared_in p.scenario.now in
    let m : Processor g.row.W.Denot = c.args.own.now in
    let w : g.row.W.Denot = c.push.new.self in
    let o : Objects = (known_of g.W.Knows m).objects in
    let place = c.args.graph.0 in
    let way = c.args.way in
    let id = c.args.object in
    let key = key_of (values_in (o.lives id.unit)) in
    let tag = c.next_tag-tag.result in
    let e = c.in_ok-position.ensures in
    let decl = c.requires.graph.0 in
    let found = c.requires.graph.1.found in
    let known = subst (λ (x : Pushed). g.W.Knows.known w ≡ graph_called place (pushed_call way id key x) tag (known_of g.W.Knows m)) c.in-Done.is e.known in
    let stands = subst (λ (x : Pushed). standing_from 0 o.graphs id.unit ≡ stood id.life x) c.in-Done.is e.stood in
    let moves = subst (λ (x : Pushed). standing_from 0 (g.W.Knows.known w).objects.graphs ≡ moved place (effect_of (pushed_call way id key x)) (standing_from 0 o.graphs)) c.in-Done.is e.moves in
    let call = push_call way id key in
    let has : HasMoved place call o.graphs (g.W.Knows.known w).objects.graphs = record { fits = subst (λ (f : Effect). EffectFits place f (standing_from 0 o.graphs)) (sym (effect-pushed way id key)) stands; within = moves } in
    let k : Processor g.row.W.Denot = c.call.new.own in
    let now = moved-now g.W.Knows l p m w place call tag decl known found has in
    let held = c.requires.graph.3 in
    let hand = handed d o c.requires.at.ready.stocked id.unit _ held.1.is in
    let puts : standing_from 0 (graphs_after place call tag o.graphs) ≡ moved place (Puts id) (standing_from 0 o.graphs) = now.within ∙ ap (λ (f : Effect). λ u. moved place f (standing_from 0 o.graphs) u) (effect-pushed way id key) in
    record {
      position = c.in-Done.position;
      records = Records-one l (call_entry c.args.name c.in-Done.position [] (push_call way id 0)) _ _ (subst (λ (x : Entry). Appends (log_of m) l x (log_of k)) c.put_in.ensures c.call.ensures.said);
      free = ap (λ s. item_of s (o.lives id.unit)) stands;
      less = takes-graph g.W.Knows l p m w place call tag decl known found k c.call.ensures.known (Some id) None (put-pushed way id key) (taken-pushed way id key) has held c.requires.at;
      now_in = guarded-graph g.W.Knows l p m w place call tag decl known found k c.call.ensures.known c.call.ensures.locked
          ∙ ap (λ (f : ℕ → Option Shelved). let z : Guarded = record { lock = (guarded_of g.W.Knows m).lock; within = f } in z) (items-put o (graphs_after place call tag o.graphs) place id hand.object _ puts hand.lives_so held.1.is (ap (λ (x : Living). shelved_at place (Some x)) hand.is));
    }

pub returns-in-Done-clause-tied : goal.returns-in-Done-clause-tied
returns-in-Done-clause-tied g c =
    let l = g.L.Rank.number in
    let p = c.args.program.now in
    let d : Declared = declared_in p.scenario.now in
    let m : Processor g.row.W.Denot = c.args.own.now in
    let w : g.row.W.Denot = c.push.new.self in
    let o : Objects = (known_of g.W.Knows m).objects in
    let place = c.args.graph.0 in
    let way = c.args.way in
    let id = c.args.object in
    let key = key_of (values_in (o.lives id.unit)) in
    let tag = c.next_tag-tag.result in
    let e = c.in_ok-position.ensures in
    let decl = c.requires.graph.0 in
    let found = c.requires.graph.1.found in
    let known = subst (λ (x : Pushed). g.W.Knows.known w ≡ graph_called place (pushed_call way id key x) tag (known_of g.W.Knows m)) c.in-Done.is e.known in
    let stands = subst (λ (x : Pushed). standing_from 0 o.graphs id.unit ≡ stood id.life x) c.in-Done.is e.stood in
    let moves = subst (λ (x : Pushed). standing_from 0 (g.W.Knows.known w).objects.graphs ≡ moved place (effect_of (pushed_call way id key x)) (standing_from 0 o.graphs)) c.in-Done.is e.moves in
    let call = push_call way id key in
    let has : HasMoved place call o.graphs (g.W.Knows.known w).objects.graphs = record { fits = subst (λ (f : Effect). EffectFits place f (standing_from 0 o.graphs)) (sym (effect-pushed way id key)) stands; within = moves } in
    let does = subst (λ (x : Pushed). g.W.Knows.does (act.Calls (graph_at place o.graphs).name (pushed_at x) (pushed_call way id key x) tag ∷ []) m.side w) c.in-Done.is e.does in
    tied-graph g.W.Knows l p m w place call tag decl known found
    g.B.Since.since g.B.Since.start c.args.name [] c.in-Done.position c.put_in.result c.call.new.own (c.put_in.ensures ∙ sym (no-key c.args.name c.in-Done.position [] way id key)) c.requires.ground c.requires.graph.2
    (c.next_tag-tag.ensures ∙ ap (λ q. tag_after q m.calls) c.requires.at.ready.here) c.requires.at c.requires.tied c.requires.may
    (owns-pushed (names_of g.W.Knows m.side) way id key []) does c.call.ensures.said
    (ap (λ (x : Known). x.grace.processor) c.call.ensures.known) (ap (λ (x : Known). graph_names_in x.objects.graphs) c.call.ensures.known)
    (c.call.ensures.owes _)

pub returns-in-Already-clause-refused : goal.returns-in-Already-clause-refused
returns-in-Already-clause-refused g c = λ done.
    let l = g.L.Rank.number in
    let p = c.args.program.now in
    let d : Declared = declared_in p.scenario.now in
    let m : Processor g.row.W.Denot = c.args.own.now in
    let w : g.row.W.Denot = c.push.new.self in
    let o : Objects = (known_of g.W.Knows m).objects in
    let place = c.args.graph.0 in
    let way = c.args.way in
    let id = c.args.object in
    let key = key_of (values_in (o.lives id.unit)) in
    let tag = c.next_tag-tag.result in
    let e = c.in_ok-position.ensures in
    let decl = c.requires.graph.0 in
    let found = c.requires.graph.1.found in
    let known = subst (λ (x : Pushed). g.W.Knows.known w ≡ graph_called place (pushed_call way id key x) tag (known_of g.W.Knows m)) c.in-Already.is e.known in
    let stands = subst (λ (x : Pushed). standing_from 0 o.graphs id.unit ≡ stood id.life x) c.in-Already.is e.stood in
    let moves = subst (λ (x : Pushed). standing_from 0 (g.W.Knows.known w).objects.graphs ≡ moved place (effect_of (pushed_call way id key x)) (standing_from 0 o.graphs)) c.in-Already.is e.moves in
    let owner = c.in-Already.owner in
    let call = refused_push way id key owner in
    let has : HasMoved place call o.graphs (g.W.Knows.known w).objects.graphs = record { fits = subst (λ (f : Effect). EffectFits place f (standing_from 0 o.graphs)) (sym (effect-refused way id key owner)) stands; within = moves } in
    let k : Processor g.row.W.Denot = c.call-in-Already.new.own in
    let now = moved-now g.W.Knows l p m w place call tag decl known found has in
    let item = c.requires.at.ready.stocked.items id.unit (record { life = id.life; place = owner }) stands in
    let still : standing_from 0 (graphs_after place call tag o.graphs) ≡ standing_from 0 o.graphs = now.within ∙ ap (λ (f : Effect). λ u. moved place f (standing_from 0 o.graphs) u) (effect-refused way id key owner) in
    let entry_is = c.refused.ensures owner ∙ ap (λ (n : List ℕ). call_entry c.args.name c.in-Already.position n (refused_push way id 0 owner)) (c.duplicate-owner.ensures ∙ ap (λ (x : MapDeclaration). x.name) (sym c.index-as_slice-owner.is ∙ read-at d.maps owner c.index-as_slice-owner.result item.graph (c.index-as_slice-owner.is ∙ ap (λ (xs : List MapDeclaration). get_or xs owner c.index-as_slice-owner.result) c.as_slice.ensures) item.found)) in
    record {
      position = c.in-Already.position;
      owner = owner;
      owning = item.graph;
      is_owner = item.found;
      counted = refused-counted d o id.unit _ (record { life = id.life; place = owner }) c.requires.at.ready.stocked c.requires.graph.3.1.is stands;
      records = Records-one l (call_entry c.args.name c.in-Already.position item.graph.name (refused_push way id 0 owner)) _ _ (subst (λ (x : Entry). Appends (log_of m) l x (log_of k)) entry_is c.call-in-Already.ensures.said);
      lives_same = lives-graph g.W.Knows l p m w place call tag decl known found k c.call-in-Already.ensures.known still;
      guarded_same = guarded-graph g.W.Knows l p m w place call tag decl known found k c.call-in-Already.ensures.known c.call-in-Already.ensures.locked
          ∙ ap (λ (f : ℕ → Option Shelved). let z : Guarded = record { lock = (guarded_of g.W.Knows m).lock; within = f } in z) (items-kept o (graphs_after place call tag o.graphs) place still);
    }

pub returns-in-Already-clause-tied : goal.returns-in-Already-clause-tied
returns-in-Already-clause-tied g c =
    let l = g.L.Rank.number in
    let p = c.args.program.now in
    let d : Declared = declared_in p.scenario.now in
    let m : Processor g.row.W.Denot = c.args.own.now in
    let w : g.row.W.Denot = c.push.new.self in
    let o : Objects = (known_of g.W.Knows m).objects in
    let place = c.args.graph.0 in
    let way = c.args.way in
    let id = c.args.object in
    let key = key_of (values_in (o.lives id.unit)) in
    let tag = c.next_tag-tag.result in
    let e = c.in_ok-position.ensures in
    let decl = c.requires.graph.0 in
    let found = c.requires.graph.1.found in
    let known = subst (λ (x : Pushed). g.W.Knows.known w ≡ graph_called place (pushed_call way id key x) tag (known_of g.W.Knows m)) c.in-Already.is e.known in
    let stands = subst (λ (x : Pushed). standing_from 0 o.graphs id.unit ≡ stood id.life x) c.in-Already.is e.stood in
    let moves = subst (λ (x : Pushed). standing_from 0 (g.W.Knows.known w).objects.graphs ≡ moved place (effect_of (pushed_call way id key x)) (standing_from 0 o.graphs)) c.in-Already.is e.moves in
    let owner = c.in-Already.owner in
    let call = refused_push way id key owner in
    let has : HasMoved place call o.graphs (g.W.Knows.known w).objects.graphs = record { fits = subst (λ (f : Effect). EffectFits place f (standing_from 0 o.graphs)) (sym (effect-refused way id key owner)) stands; within = moves } in
    let does = subst (λ (x : Pushed). g.W.Knows.does (act.Calls (graph_at place o.graphs).name (pushed_at x) (pushed_call way id key x) tag ∷ []) m.side w) c.in-Already.is e.does in
    let item = c.requires.at.ready.stocked.items id.unit (record { life = id.life; place = owner }) stands in
    let entry_is = c.refused.ensures owner ∙ (ap (λ (n : List ℕ). call_entry c.args.name c.in-Already.position n (refused_push way id 0 owner)) (c.duplicate-owner.ensures ∙ ap (λ (x : MapDeclaration). x.name) (sym c.index-as_slice-owner.is ∙ read-at d.maps owner c.index-as_slice-owner.result item.graph (c.index-as_slice-owner.is ∙ ap (λ (xs : List MapDeclaration). get_or xs owner c.index-as_slice-owner.result) c.as_slice.ensures) item.found)) ∙ sym (no-key-refused c.args.name c.in-Already.position item.graph.name way id key owner)) in
    tied-graph g.W.Knows l p m w place call tag decl known found
    g.B.Since.since g.B.Since.start c.args.name item.graph.name c.in-Already.position c.refused.result c.call-in-Already.new.own entry_is c.requires.ground c.requires.graph.2
    (c.next_tag-tag.ensures ∙ ap (λ q. tag_after q m.calls) c.requires.at.ready.here) c.requires.at c.requires.tied c.requires.may
    (owns-refused (names_of g.W.Knows m.side) way id key owner item.graph.name (owner-named d o owner item.graph c.requires.at.ready.stocked item.found)) does c.call-in-Already.ensures.said
    (ap (λ (x : Known). x.grace.processor) c.call-in-Already.ensures.known) (ap (λ (x : Known). graph_names_in x.objects.graphs) c.call-in-Already.ensures.known)
    (c.call-in-Already.ensures.owes _)

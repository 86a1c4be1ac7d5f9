use Rattle.std.proofs.Common.{◌≡◌, ◌∙◌, ◌<◌, ◌+◌, ℕ, List, [], ◌∷◌, Option, Some, ap, arith, length, refl, slice_get, subst, sym}
use Rattle.std.specs.Prelude.{◌^◌}
use Rattle.bm_journal.specs.declared.entry.Entry.TheVariants as entry
use Rattle.bm_journal.specs.declared.ids.ObjId.{ObjId}
use Rattle.bm_journal.specs.declared.ids.Tag.{Tag}
use Rattle.bm_lang.specs.declared.scenario.MapDeclaration.{MapDeclaration}
use Rattle.bm_grace.specs.Known.{Known, Lives}
use Rattle.bm_law_order.specs.Act as act
use Rattle.bm_law_order.specs.Graphs.{graph_names_in}
use Rattle.bm_law_order.specs.Calls.{tag_after}
use Rattle.bm_law_order.specs.Slots.{Named, Slot}
use Rattle.bm_law_scenario.specs.Declared.{Declared, declared_in}
use Rattle.bm_world.specs.Contents.{slot_at}
use Rattle.bm_exec.specs.Living.{IsToPut, TakesOut, without}
use Rattle.bm_exec_levels.specs.AtTie.{OwesAt, owes-did, tied-exchanged, tied-open}
use Rattle.bm_exec_levels.specs.AtPolls.{home}
use Rattle.bm_exec_levels.specs.AtProcessor.{lock_of, log_of}
use Rattle.bm_exec_levels.specs.Calling.{counts-of}
use Rattle.bm_law_order.specs.Graphs.{graph_names_in}
use Rattle.bm_exec_levels.specs.Hosting.{with_side}
use Rattle.bm_exec_levels.specs.Ready.{known_of}
use Rattle.bm_exec_levels.specs.Slotted.{in_hands, items_in}
use Rattle.bm_exec_levels.specs.declared.processor.Processor.{Processor}
use Rattle.bm_exec_levels.proofs.Begun.{at-exchanged}
use Rattle.bm_exec_levels.proofs.Made.{one-exchanged}
use Rattle.bm_exec_levels.proofs.Stocked.{hands-exchanged, put-lives, slot-name, slot-there}
use Rattle.bm_exec_levels.proofs.calls.exchange.Goals as goal

some-is : {A : Type 0} (x y : A) → Some x ≡ Some y → x ≡ y
some-is x y e = cc

pub exchange-found-requires-clause-there : goal.exchange-found-requires-clause-there
exchange-found-requires-clause-there g c =
    let d : Declared = declared_in c.args.program.now.scenario.now in
    slot-there d (known_of g.W.Knows c.args.own.now).objects c.args.slot.0 c.requires.slot.0 c.requires.at.ready.stocked c.requires.slot.1.found

pub exchange-found-requires-clause-lives : goal.exchange-found-requires-clause-lives
exchange-found-requires-clause-lives g c =
    let d : Declared = declared_in c.args.program.now.scenario.now in
    put-lives d (known_of g.W.Knows c.args.own.now).objects c.requires.slot.0.type_id.0 c.args.put c.requires.at.ready.stocked c.requires.slot.3

pub call-requires-clause-at : goal.call-requires-clause-at
call-requires-clause-at g c =
    let d : Declared = declared_in c.args.program.now.scenario.now in
    let m = c.requires.slot.0 in
    let found = c.requires.slot.1.found in
    at-exchanged g.W.Knows g.L.Rank.number c.args.program.now c.args.own.now c.exchange-found.new.self c.args.slot.0 c.args.put (record { processor = c.processor.result; serial = c.args.own.now.calls + 1 }) m c.exchange-found.ensures.known
    (slot-there d (known_of g.W.Knows c.args.own.now).objects c.args.slot.0 m c.requires.at.ready.stocked found) found c.requires.slot.1.kind c.requires.slot.3 c.requires.at

pub returns-clause-exchanged : goal.returns-clause-exchanged
returns-clause-exchanged g c m s =
    let d : Declared = declared_in c.args.program.now.scenario.now in
    let k : Known = known_of g.W.Knows c.args.own.now in
    let place : ℕ = c.args.slot.0 in
    let e = c.exchange-found.ensures in
    let tag : Tag = record { processor = c.processor.result; serial = c.args.own.now.calls + 1 } in
    let slot : Slot = record { held = c.args.put; by = Some tag } in
    let same : c.requires.slot.0 ≡ m = some-is c.requires.slot.0 m (sym c.requires.slot.1.found ∙ s.found) in
    let held = subst (λ (x : MapDeclaration). IsToPut x.type_id.0 (in_hands k.objects) c.args.put) same c.requires.slot.3 in
    let takes = hands-exchanged d k.objects place slot c.requires.at.ready.stocked (slot-there d k.objects place m c.requires.at.ready.stocked s.found) m s.found held in
    let lives = sym (ap (λ (x : Known). in_hands x.objects) c.call.ensures.known ∙ ap (λ (x : Known). in_hands x.objects) e.known) in
    let F : Lives → Option ObjId → Type 0 = λ xs was. TakesOut d.types m.type_id.0 (without c.args.put (in_hands k.objects)) xs was in
    one-exchanged g.L.Rank.number d.types m.type_id.0 c.args.name c.args.put c.exchange-found.result.held c.exchange-found.result.by _ _ (in_hands k.objects) _ c.call.ensures.said
    (subst (λ (xs : Lives). F xs c.exchange-found.result.held) lives (subst (F _) (sym e.held) takes))

pub returns-clause-tied : goal.returns-clause-tied
returns-clause-tied g c =
    let l = g.L.Rank.number in
    let since = g.B.Since.since in
    let start = g.B.Since.start in
    let m : Processor g.row.W.Denot = c.args.own.now in
    let w : g.row.W.Denot = c.exchange-found.new.self in
    let d : Declared = declared_in c.args.program.now.scenario.now in
    let k : Known = known_of g.W.Knows m in
    let e = c.exchange-found.ensures in
    let tag : Tag = record { processor = c.processor.result; serial = m.calls + 1 } in
    let held = c.exchange-found.result.held in
    let from = c.exchange-found.result.by in
    let name : (slot_at c.args.slot.0 k.objects.slots).name ≡ c.args.name = slot-name d k.objects c.args.slot.0 c.requires.slot.0 c.requires.at.ready.stocked c.requires.slot.1.found ∙ c.requires.slot.2 in
    let does = subst (λ (n : List ℕ). g.W.Knows.does (act.Exchanges n c.args.put held from tag ∷ []) m.side w) name e.does in
    let did = owes-did g.W.Knows since start l [] (act.Exchanges c.args.name c.args.put held from tag ∷ []) [] m w (does, ap (λ (x : Known). x.grace.processor) e.known, ap (λ (x : Known). graph_names_in x.objects.graphs) e.known) (tied-open g.W.Knows since start l m c.requires.tied) in
    let here : home g.W.Knows c.call.new.own.side ≡ c.processor.result = ap (λ (x : Known). x.grace.processor) c.call.ensures.known ∙ (ap (λ (x : Known). x.grace.processor) e.known ∙ (sym c.requires.at.ready.here ∙ sym c.processor.ensures)) in
    tied-exchanged g.W.Knows since start l c.args.name c.args.put held from tag m c.call.new.own c.call.ensures.said (counts-of (log_of m) m.calls (lock_of c.args.program.now m) c.requires.at.counts) (ap (λ p. tag_after p m.calls) (sym here)) (c.call.ensures.owes (act.Exchanges c.args.name c.args.put held from tag ∷ []) did)

pub returns-clause-items : goal.returns-clause-items
returns-clause-items g c =
    let e = c.exchange-found.ensures in
    record { graphs = ap (λ (x : Known). x.objects.graphs) c.call.ensures.known ∙ ap (λ (x : Known). x.objects.graphs) e.known; items = ap (λ (x : Known). items_in x.objects) c.call.ensures.known ∙ ap (λ (x : Known). items_in x.objects) e.known }

use Rattle.std.proofs.Common.{◌≡◌, ◌∙◌, ◌<◌, ◌*◌, ◌∷◌, [], ℕ, List, None, Option, Some, arith, length, refl, slice_get, subst, sym}
use Rattle.bm_journal.specs.declared.entry.Entry.TheVariants as entry
use Rattle.bm_journal.specs.declared.ids.ObjId.{ObjId}
use Rattle.bm_lang.specs.declared.scenario.MapDeclaration.{MapDeclaration}
use Rattle.bm_lang.specs.declared.scenario.TypeDeclaration.{TypeDeclaration}
use Rattle.bm_graph.specs.Ways.{pop_call}
use Rattle.bm_graph.specs.declared.ways.End.TheVariants.{Front}
use Rattle.bm_law.specs.Spans.{Records}
use Rattle.bm_law_order.specs.Graphs.{NamedGraph, graph_at}
use Rattle.bm_law_scenario.specs.Closing.{EmptiesList}
use Rattle.bm_law_scenario.specs.Declared.{declared_in}
use Rattle.bm_world.specs.Graphs.{first_node}
use Rattle.bm_world.specs.LivingState.{LivingState}
use Rattle.bm_world.specs.ToldLiving.{knows_living}
use Rattle.bm_exec.specs.Guarded.{Popped}
use Rattle.bm_exec_levels.specs.AtProcessor.{graphs_of, guarded_of, lists_of, lives_of, log_of}
use Rattle.bm_exec_levels.specs.Called.{CalledAt}
use Rattle.bm_exec_levels.specs.Ready.{known_of}
use Rattle.bm_exec_levels.specs.Sound.{Sound}
use Rattle.bm_exec_levels.specs.declared.processor.Processor.{Processor}
use Rattle.bm_exec_levels.specs.declared.program.Program.{Program}
use Rattle.bm_exec_levels.proofs.Graphed.{graph-there}
use Rattle.bm_exec_levels.proofs.Grounds.{sound-still}
use Rattle.bm_exec_levels.proofs.Noted.{between-join}
use Rattle.bm_run.proofs.Emptied.{let-go-again, may-call, still-closing}
use Rattle.bm_run.proofs.EmptiedGraphs.{TakenFrom, bare-still, none-first, taken-popped, taken-popped-none}
use Rattle.bm_run.proofs.EmptiedOneByOne.{asks-still, emptied-at, emptied-between, emptying-more, emptying-none, list-all, list-none, list-one}
use Rattle.bm_run.proofs.emptying.empty_list.Goals as goal

-- what a pop from the front of a list found
abbrev Pops : Program → MapDeclaration → List ℕ → (before now : Processor LivingState) → Option ObjId → Type 0
Pops p m name before now was = Popped 0 p.scenario.now.types m.type_id.0 name Front (log_of before) (log_of now) (lives_of knows_living before) (lives_of knows_living now) (guarded_of knows_living before) (guarded_of knows_living now) was

-- a list or tree that is declared is there
there : (p : Program) (m : MapDeclaration) (place : ℕ) (b : Processor LivingState) → Sound knows_living p b → slice_get p.scenario.now.maps place ≡ Some m → place < length (graphs_of knows_living b)
there p m place b s found = graph-there (declared_in p.scenario.now) (known_of knows_living b).objects place m s.at.ready.stocked found

-- the first object was taken, and the lists and trees are so still
one-taken : (place : ℕ) (o : ObjId) (item : Option ObjId) (before now later : List NamedGraph) → place < length before → item ≡ Some o → item ≡ first_node (graph_at place before).nodes → CalledAt place (pop_call Front item) before now → later ≡ now → TakenFrom place 1 before later
one-taken place o item before now later lt is first called same =
    subst (TakenFrom place 1 before) (sym same) (taken-popped place o before now lt (sym is ∙ first) (subst (λ (x : Option ObjId). CalledAt place (pop_call Front x) before now) is called))

pub loop-object-init : goal.loop-object-init
loop-object-init g c =
    let p = c.args.program.now in
    record {
      sound = c.requires.sound;
      tied = c.requires.tied;
      lives = refl;
      emptying = emptying-none (EmptiesList p.scenario.now.types c.args.list.now) p c.args.place.0 c.args.own.now c.requires.sound.fine;
    }

pub pop-requires-clause-room : goal.pop-requires-clause-room
pop-requires-clause-room g c =
    let p = c.args.program.now in
    let room = asks-still (EmptiesList p.scenario.now.types c.args.list.now) p c.args.place.0 c.args.own.now c.loop-object.own c.loop-object.invariant.emptying c.requires.room in
    omega (arith, room)

pub pop-requires-clause-may : goal.pop-requires-clause-may
pop-requires-clause-may g c =
    let p = c.args.program.now in
    let h = c.loop-object.invariant in
    may-call p c.loop-object.own c.duplicate.result (still-closing p (3 * h.emptying.count) c.args.own.now c.loop-object.own h.emptying.between c.requires.closing) h.sound

pub give_back-requires-clause-sound : goal.give_back-requires-clause-sound
give_back-requires-clause-sound g c = sound-still knows_living 1 c.args.program.now c.loop-object.own c.pop.new.own c.in_ok-object.ensures.between c.in_ok-object.ensures.at c.loop-object.invariant.sound

pub give_back-requires-clause-taken : goal.give_back-requires-clause-taken
give_back-requires-clause-taken g c =
    let b : Processor LivingState = c.loop-object.own in
    let m : MapDeclaration = c.args.list.now in
    let o : ObjId = c.in-Some.object in
    let P : Option ObjId → Type 0 = Pops c.args.program.now m c.duplicate.result b c.pop.new.own in
    let got : P (Some o) = subst P c.in-Some.is (c.in_ok-object.ensures.popped m c.requires.list) in
    (lives_of knows_living b, got.takes)

pub give_back-requires-clause-room : goal.give_back-requires-clause-room
give_back-requires-clause-room g c =
    let p = c.args.program.now in
    let room = asks-still (EmptiesList p.scenario.now.types c.args.list.now) p c.args.place.0 c.args.own.now c.loop-object.own c.loop-object.invariant.emptying c.requires.room in
    let most = c.in_ok-object.ensures.between.stays.asks_most in
    omega (arith, room, most)

pub loop-object-smaller : goal.loop-object-smaller
loop-object-smaller g c =
    let e = c.in_ok-object.ensures in
    let b : Processor LivingState = c.loop-object.own in
    let lt = there c.args.program.now c.args.list.now c.args.place.0 b c.loop-object.invariant.sound c.requires.list.found in
    let taken = one-taken c.args.place.0 c.in-Some.object c.in_ok-object.field-0 (graphs_of knows_living b) (graphs_of knows_living c.pop.new.own) (graphs_of knows_living c.give_back.new.own) lt c.in-Some.is e.item e.called c.give_back.ensures.items.graphs in
    let left = taken.left in
    omega (arith, left)

pub loop-object-preserved : goal.loop-object-preserved
loop-object-preserved g c =
    let p = c.args.program.now in
    let types : List TypeDeclaration = p.scenario.now.types in
    let m : MapDeclaration = c.args.list.now in
    let place = c.args.place.0 in
    let o : ObjId = c.in-Some.object in
    let a : Processor LivingState = c.args.own.now in
    let b : Processor LivingState = c.loop-object.own in
    let f : Processor LivingState = c.pop.new.own in
    let d : Processor LivingState = c.give_back.new.own in
    let h = c.loop-object.invariant in
    let e = c.in_ok-object.ensures in
    let back = c.give_back.ensures in
    let P : Option ObjId → Type 0 = Pops p m c.duplicate.result b f in
    let got : P (Some o) = subst P c.in-Some.is (e.popped m c.requires.list) in
    let said = subst (λ (n : List ℕ). Records 0 (entry.PopFront n (Some o) got.position ∷ []) (log_of b) (log_of f)) c.duplicate.ensures got.records in
    let taken = one-taken place o c.in_ok-object.field-0 (graphs_of knows_living b) (graphs_of knows_living f) (graphs_of knows_living d) (there p m place b h.sound c.requires.list.found) c.in-Some.is e.item e.called back.items.graphs in
    record {
      sound = back.sound;
      tied = back.tied;
      lives = back.lives ∙ (let-go-again types m.type_id.0 (lives_of knows_living b) (lives_of knows_living f) o got.takes ∙ h.lives);
      emptying = emptying-more (EmptiesList types m) p place 2 a b d h.emptying (omega arith) taken (between-join knows_living 1 0 1 0 0 p b f d e.between back.between)
          (λ n log more. list-one types m p n 1 1 b f d o got.position log h.sound.fine e.between back.between said back.grew more);
    }

pub returns-clause-grew : goal.returns-clause-grew
returns-clause-grew g c =
    let p = c.args.program.now in
    let types : List TypeDeclaration = p.scenario.now.types in
    let m : MapDeclaration = c.args.list.now in
    let a : Processor LivingState = c.args.own.now in
    let b : Processor LivingState = c.loop-object.own in
    let f : Processor LivingState = c.pop.new.own in
    let P : Option ObjId → Type 0 = Pops p m c.duplicate.result b f in
    let got : P None = subst P c.in_default.is (c.in_ok-object.ensures.popped m c.requires.list) in
    let said = subst (λ (n : List ℕ). Records 0 (entry.PopFront n None got.position ∷ []) (log_of b) (log_of f)) c.duplicate.ensures got.records in
    list-all types m p (lists_of a) (log_of a) (log_of f) c.requires.list.kind (c.loop-object.invariant.emptying.rest 0 (log_of f) (list-none types m p b got.position (log_of f) said))

pub returns-clause-lives : goal.returns-clause-lives
returns-clause-lives g c =
    let m : MapDeclaration = c.args.list.now in
    let P : Option ObjId → Type 0 = Pops c.args.program.now m c.duplicate.result c.loop-object.own c.pop.new.own in
    let got : P None = subst P c.in_default.is (c.in_ok-object.ensures.popped m c.requires.list) in
    got.takes ∙ c.loop-object.invariant.lives

-- a pop in vain
vain : (place : ℕ) (item : Option ObjId) (before now : List NamedGraph) → place < length before → item ≡ None → item ≡ first_node (graph_at place before).nodes → CalledAt place (pop_call Front item) before now → (TakenFrom place 0 before now) × ((graph_at place now).nodes ≡ [])
vain place item before now lt is first called =
    let none = taken-popped-none place before now lt (subst (λ (x : Option ObjId). CalledAt place (pop_call Front x) before now) is called) in
    (none, bare-still place before now none (none-first (graph_at place before).nodes (sym is ∙ first)))

pub returns-clause-emptied : goal.returns-clause-emptied
returns-clause-emptied g c =
    let p = c.args.program.now in
    let m : MapDeclaration = c.args.list.now in
    let place = c.args.place.0 in
    let b : Processor LivingState = c.loop-object.own in
    let f : Processor LivingState = c.pop.new.own in
    let h = c.loop-object.invariant in
    let e = c.in_ok-object.ensures in
    let none = vain place c.in_ok-object.field-0 (graphs_of knows_living b) (graphs_of knows_living f) (there p m place b h.sound c.requires.list.found) c.in_default.is e.item e.called in
    emptied-at (EmptiesList p.scenario.now.types m) p place c.args.own.now b f h.emptying none.0 e.between none.1

pub returns-clause-between : goal.returns-clause-between
returns-clause-between g c =
    let p = c.args.program.now in
    let m : MapDeclaration = c.args.list.now in
    let place = c.args.place.0 in
    let b : Processor LivingState = c.loop-object.own in
    let f : Processor LivingState = c.pop.new.own in
    let h = c.loop-object.invariant in
    let e = c.in_ok-object.ensures in
    let none = vain place c.in_ok-object.field-0 (graphs_of knows_living b) (graphs_of knows_living f) (there p m place b h.sound c.requires.list.found) c.in_default.is e.item e.called in
    emptied-between (EmptiesList p.scenario.now.types m) p place c.args.own.now b f h.emptying none.0 e.between none.1

pub returns-clause-sound : goal.returns-clause-sound
returns-clause-sound g c = sound-still knows_living 1 c.args.program.now c.loop-object.own c.pop.new.own c.in_ok-object.ensures.between c.in_ok-object.ensures.at c.loop-object.invariant.sound

use Rattle.std.proofs.Common.{◌≡◌, ◌∙◌, ◌<◌, ◌*◌, ◌∷◌, [], ℕ, List, None, Option, Some, ap, arith, length, refl, slice_get, subst, sym}
use Rattle.bm_journal.specs.declared.entry.Entry.TheVariants as entry
use Rattle.bm_journal.specs.declared.ids.ObjId.{ObjId}
use Rattle.bm_journal.specs.declared.past.PastCall.TheVariants as past
use Rattle.bm_lang.specs.declared.scenario.MapDeclaration.{MapDeclaration}
use Rattle.bm_lang.specs.declared.scenario.TypeDeclaration.{TypeDeclaration}
use Rattle.bm_graph.specs.Calls.{first_call}
use Rattle.bm_law.specs.Spans.{Records}
use Rattle.bm_law.proofs.Spans.{Records-join}
use Rattle.bm_law_order.specs.Graphs.{NamedGraph, graph_at}
use Rattle.bm_law_scenario.specs.Closing.{EmptiesTree}
use Rattle.bm_law_scenario.specs.Declared.{declared_in}
use Rattle.bm_world.specs.Graphs.{first_node}
use Rattle.bm_world.specs.LivingState.{LivingState}
use Rattle.bm_world.specs.ToldLiving.{knows_living}
use Rattle.bm_exec.specs.Guarded.{Found, Guarded, IsShelved}
use Rattle.bm_exec_levels.specs.AtProcessor.{graphs_of, guarded_of, lists_of, lives_of, log_of}
use Rattle.bm_exec_levels.specs.Called.{CalledAt}
use Rattle.bm_exec_levels.specs.Ready.{known_of}
use Rattle.bm_exec_levels.specs.Sound.{Sound}
use Rattle.bm_exec_levels.specs.declared.processor.Processor.{Processor}
use Rattle.bm_exec_levels.specs.declared.program.Program.{Program}
use Rattle.bm_exec_levels.proofs.Graphed.{graph-there}
use Rattle.bm_exec_levels.proofs.Grounds.{sound-still}
use Rattle.bm_exec_levels.proofs.Noted.{between-join}
use Rattle.bm_run.proofs.Emptied.{let-go-again, may-call, still-closing}
use Rattle.bm_run.proofs.EmptiedGraphs.{TakenFrom, bare-still, nodes-looked, none-first, taken-join, taken-looked, taken-removed}
use Rattle.bm_run.proofs.EmptiedOneByOne.{asks-still, emptied-at, emptied-between, emptying-more, emptying-none, tree-all, tree-none, tree-one}
use Rattle.bm_run.proofs.emptying.empty_tree.Goals as goal

-- what a look for the first object of a tree found
abbrev Finds : Program → MapDeclaration → ℕ → List ℕ → (before now : Processor LivingState) → Option ObjId → Type 0
Finds p m place name before now item = Found 0 p.scenario.now.types m.type_id.0 place name (log_of before) (log_of now) (guarded_of knows_living before) item

-- a list or tree that is declared is there
there : (p : Program) (m : MapDeclaration) (place : ℕ) (b : Processor LivingState) → Sound knows_living p b → slice_get p.scenario.now.maps place ≡ Some m → place < length (graphs_of knows_living b)
there p m place b s found = graph-there (declared_in p.scenario.now) (known_of knows_living b).objects place m s.at.ready.stocked found

-- the first object was looked for and taken out
found-taken : (place : ℕ) (o : ObjId) (item : Option ObjId) (before seen now later : List NamedGraph) → place < length before → place < length seen → item ≡ Some o → item ≡ first_node (graph_at place before).nodes → CalledAt place (first_call item) before seen → CalledAt place (past.Remove o) seen now → later ≡ now → TakenFrom place 1 before later
found-taken place o item before seen now later lt lt' is first looked removed same =
    let still = nodes-looked place item before seen lt looked in
    let there : Some o ≡ first_node (graph_at place seen).nodes = sym is ∙ (first ∙ ap first_node (sym still)) in
    subst (TakenFrom place 1 before) (sym same) (taken-join place 0 1 before seen now (taken-looked place item before seen lt looked) (taken-removed place o seen now lt' there removed))

pub loop-object-init : goal.loop-object-init
loop-object-init g c =
    let p = c.args.program.now in
    record {
      sound = c.requires.sound;
      tied = c.requires.tied;
      lives = refl;
      emptying = emptying-none (EmptiesTree p.scenario.now.types c.args.tree.now) p c.args.place.0 c.args.own.now c.requires.sound.fine;
    }

pub first_item-requires-clause-room : goal.first_item-requires-clause-room
first_item-requires-clause-room g c =
    let p = c.args.program.now in
    let room = asks-still (EmptiesTree p.scenario.now.types c.args.tree.now) p c.args.place.0 c.args.own.now c.loop-object.own c.loop-object.invariant.emptying c.requires.room in
    omega (arith, room)

pub first_item-requires-clause-may : goal.first_item-requires-clause-may
first_item-requires-clause-may g c =
    let p = c.args.program.now in
    let h = c.loop-object.invariant in
    may-call p c.loop-object.own c.duplicate.result (still-closing p (3 * h.emptying.count) c.args.own.now c.loop-object.own h.emptying.between c.requires.closing) h.sound

-- ---- its first object was found

pub remove-requires-clause-room : goal.remove-requires-clause-room
remove-requires-clause-room g c =
    let p = c.args.program.now in
    let room = asks-still (EmptiesTree p.scenario.now.types c.args.tree.now) p c.args.place.0 c.args.own.now c.loop-object.own c.loop-object.invariant.emptying c.requires.room in
    let most = c.in_ok-object.ensures.between.stays.asks_most in
    omega (arith, room, most)

pub remove-requires-clause-may : goal.remove-requires-clause-may
remove-requires-clause-may g c =
    let p = c.args.program.now in
    let a : Processor LivingState = c.args.own.now in
    let b : Processor LivingState = c.loop-object.own in
    let f : Processor LivingState = c.first_item.new.own in
    let h = c.loop-object.invariant in
    let e = c.in_ok-object.ensures in
    may-call p f c.duplicate-name.result (still-closing p 1 b f e.between (still-closing p (3 * h.emptying.count) a b h.emptying.between c.requires.closing)) (sound-still knows_living 1 p b f e.between e.at h.sound)

pub remove-requires-clause-graph : goal.remove-requires-clause-graph
remove-requires-clause-graph g c =
    let p = c.args.program.now in
    let m : MapDeclaration = c.args.tree.now in
    let place = c.args.place.0 in
    let o : ObjId = c.in-Some.object in
    let e = c.in_ok-object.ensures in
    let F : Option ObjId → Type 0 = Finds p m place c.duplicate.result c.loop-object.own c.first_item.new.own in
    let got : F (Some o) = subst F c.in-Some.is (e.found m c.requires.tree) in
    let shelved = subst (λ (x : Guarded). IsShelved p.scenario.now.types m.type_id.0 place x o.unit o.life) (sym e.guarded) got.found in
    (m, c.requires.tree, sym c.duplicate-name.ensures, shelved)

pub give_back-requires-clause-sound : goal.give_back-requires-clause-sound
give_back-requires-clause-sound g c =
    let p = c.args.program.now in
    let b : Processor LivingState = c.loop-object.own in
    let f : Processor LivingState = c.first_item.new.own in
    let r : Processor LivingState = c.remove.new.own in
    let e = c.in_ok-object.ensures in
    let q = c.in_ok-remove.ensures in
    sound-still knows_living 1 p f r q.between q.at (sound-still knows_living 1 p b f e.between e.at c.loop-object.invariant.sound)

pub give_back-requires-clause-taken : goal.give_back-requires-clause-taken
give_back-requires-clause-taken g c = (lives_of knows_living c.first_item.new.own, (c.in_ok-remove.ensures.removed c.args.tree.now c.requires.tree).takes)

pub give_back-requires-clause-room : goal.give_back-requires-clause-room
give_back-requires-clause-room g c =
    let p = c.args.program.now in
    let m : MapDeclaration = c.args.tree.now in
    let place = c.args.place.0 in
    let b : Processor LivingState = c.loop-object.own in
    let f : Processor LivingState = c.first_item.new.own in
    let r : Processor LivingState = c.remove.new.own in
    let h = c.loop-object.invariant in
    let e = c.in_ok-object.ensures in
    let q = c.in_ok-remove.ensures in
    let room = asks-still (EmptiesTree p.scenario.now.types m) p place c.args.own.now b h.emptying c.requires.room in
    let lt = there p m place b h.sound c.requires.tree.found in
    let lt' = there p m place f (sound-still knows_living 1 p b f e.between e.at h.sound) c.requires.tree.found in
    let taken = found-taken place c.in-Some.object c.in_ok-object.field-0 (graphs_of knows_living b) (graphs_of knows_living f) (graphs_of knows_living r) (graphs_of knows_living r) lt lt' c.in-Some.is e.item e.called q.called refl in
    let left = taken.left in
    let one = e.between.stays.asks_most in
    let two = q.between.stays.asks_most in
    omega (arith, room, left, one, two)

pub loop-object-smaller : goal.loop-object-smaller
loop-object-smaller g c =
    let p = c.args.program.now in
    let m : MapDeclaration = c.args.tree.now in
    let place = c.args.place.0 in
    let b : Processor LivingState = c.loop-object.own in
    let f : Processor LivingState = c.first_item.new.own in
    let h = c.loop-object.invariant in
    let e = c.in_ok-object.ensures in
    let q = c.in_ok-remove.ensures in
    let lt = there p m place b h.sound c.requires.tree.found in
    let lt' = there p m place f (sound-still knows_living 1 p b f e.between e.at h.sound) c.requires.tree.found in
    let taken = found-taken place c.in-Some.object c.in_ok-object.field-0 (graphs_of knows_living b) (graphs_of knows_living f) (graphs_of knows_living c.remove.new.own) (graphs_of knows_living c.give_back.new.own) lt lt' c.in-Some.is e.item e.called q.called c.give_back.ensures.items.graphs in
    let left = taken.left in
    omega (arith, left)

pub loop-object-preserved : goal.loop-object-preserved
loop-object-preserved g c =
    let p = c.args.program.now in
    let types : List TypeDeclaration = p.scenario.now.types in
    let m : MapDeclaration = c.args.tree.now in
    let place = c.args.place.0 in
    let o : ObjId = c.in-Some.object in
    let a : Processor LivingState = c.args.own.now in
    let b : Processor LivingState = c.loop-object.own in
    let f : Processor LivingState = c.first_item.new.own in
    let r : Processor LivingState = c.remove.new.own in
    let d : Processor LivingState = c.give_back.new.own in
    let h = c.loop-object.invariant in
    let e = c.in_ok-object.ensures in
    let q = c.in_ok-remove.ensures in
    let back = c.give_back.ensures in
    let F : Option ObjId → Type 0 = Finds p m place c.duplicate.result b f in
    let got : F (Some o) = subst F c.in-Some.is (e.found m c.requires.tree) in
    let gone = q.removed m c.requires.tree in
    let seen = subst (λ (n : List ℕ). Records 0 (entry.First n (Some o) got.position ∷ []) (log_of b) (log_of f)) c.duplicate.ensures got.records in
    let taken-out = subst (λ (n : List ℕ). Records 0 (entry.Remove n o.unit o.life gone.position ∷ []) (log_of f) (log_of r)) c.duplicate-name.ensures gone.records in
    let said = Records-join 0 (entry.First m.name (Some o) got.position ∷ []) (entry.Remove m.name o.unit o.life gone.position ∷ []) (log_of b) (log_of f) (log_of r) seen taken-out in
    let both = between-join knows_living 1 0 1 0 0 p b f r e.between q.between in
    let lt = there p m place b h.sound c.requires.tree.found in
    let lt' = there p m place f (sound-still knows_living 1 p b f e.between e.at h.sound) c.requires.tree.found in
    let taken = found-taken place o c.in_ok-object.field-0 (graphs_of knows_living b) (graphs_of knows_living f) (graphs_of knows_living r) (graphs_of knows_living d) lt lt' c.in-Some.is e.item e.called q.called back.items.graphs in
    record {
      sound = back.sound;
      tied = back.tied;
      lives = back.lives ∙ (let-go-again types m.type_id.0 (lives_of knows_living f) (lives_of knows_living r) o gone.takes ∙ (e.lives ∙ h.lives));
      emptying = emptying-more (EmptiesTree types m) p place 3 a b d h.emptying (omega arith) taken (between-join knows_living 2 0 1 0 0 p b r d both back.between)
          (λ n log more. tree-one types m p n 2 1 b r d o got.position gone.position log h.sound.fine both back.between said back.grew more);
    }

-- ---- it was looked for in vain

pub returns-clause-grew : goal.returns-clause-grew
returns-clause-grew g c =
    let p = c.args.program.now in
    let types : List TypeDeclaration = p.scenario.now.types in
    let m : MapDeclaration = c.args.tree.now in
    let a : Processor LivingState = c.args.own.now in
    let b : Processor LivingState = c.loop-object.own in
    let f : Processor LivingState = c.first_item.new.own in
    let F : Option ObjId → Type 0 = Finds p m c.args.place.0 c.duplicate.result b f in
    let got : F None = subst F c.in_default.is (c.in_ok-object.ensures.found m c.requires.tree) in
    let said = subst (λ (n : List ℕ). Records 0 (entry.First n None got.position ∷ []) (log_of b) (log_of f)) c.duplicate.ensures got.records in
    tree-all types m p (lists_of a) (log_of a) (log_of f) c.requires.tree.kind (c.loop-object.invariant.emptying.rest 0 (log_of f) (tree-none types m p b got.position (log_of f) said))

pub returns-clause-lives : goal.returns-clause-lives
returns-clause-lives g c = c.in_ok-object.ensures.lives ∙ c.loop-object.invariant.lives

vain : (place : ℕ) (item : Option ObjId) (before now : List NamedGraph) → place < length before → item ≡ None → item ≡ first_node (graph_at place before).nodes → CalledAt place (first_call item) before now → (TakenFrom place 0 before now) × ((graph_at place now).nodes ≡ [])
vain place item before now lt is first called =
    let none = taken-looked place item before now lt called in
    (none, bare-still place before now none (none-first (graph_at place before).nodes (sym is ∙ first)))

pub returns-clause-emptied : goal.returns-clause-emptied
returns-clause-emptied g c =
    let p = c.args.program.now in
    let m : MapDeclaration = c.args.tree.now in
    let place = c.args.place.0 in
    let b : Processor LivingState = c.loop-object.own in
    let f : Processor LivingState = c.first_item.new.own in
    let h = c.loop-object.invariant in
    let e = c.in_ok-object.ensures in
    let none = vain place c.in_ok-object.field-0 (graphs_of knows_living b) (graphs_of knows_living f) (there p m place b h.sound c.requires.tree.found) c.in_default.is e.item e.called in
    emptied-at (EmptiesTree p.scenario.now.types m) p place c.args.own.now b f h.emptying none.0 e.between none.1

pub returns-clause-between : goal.returns-clause-between
returns-clause-between g c =
    let p = c.args.program.now in
    let m : MapDeclaration = c.args.tree.now in
    let place = c.args.place.0 in
    let b : Processor LivingState = c.loop-object.own in
    let f : Processor LivingState = c.first_item.new.own in
    let h = c.loop-object.invariant in
    let e = c.in_ok-object.ensures in
    let none = vain place c.in_ok-object.field-0 (graphs_of knows_living b) (graphs_of knows_living f) (there p m place b h.sound c.requires.tree.found) c.in_default.is e.item e.called in
    emptied-between (EmptiesTree p.scenario.now.types m) p place c.args.own.now b f h.emptying none.0 e.between none.1

pub returns-clause-sound : goal.returns-clause-sound
returns-clause-sound g c = sound-still knows_living 1 c.args.program.now c.loop-object.own c.first_item.new.own c.in_ok-object.ensures.between c.in_ok-object.ensures.at c.loop-object.invariant.sound

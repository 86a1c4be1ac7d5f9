-- What each call on lists and trees does to all of them.
use Rattle.std.proofs.Common.{◌≡◌, ◌∙◌, ◌<◌, ℕ, zero, suc, List, [], ◌∷◌, Option, Some, None, Result, Ok, Err, OnOk, OnErr, ap, arith, get_or, length, map, refl, set, subst, sym}
use Rattle.std.specs.Prelude.{IfOk, IfSome}
use Rattle.std.proofs.lemmas.List.{length-map, map-set}
use Rattle.bm_journal.specs.declared.ids.ObjId.{ObjId}
use Rattle.bm_journal.specs.declared.ids.Tag.{Tag}
use Rattle.bm_journal.specs.declared.past.PastCall.{PastCall}
use Rattle.bm_journal.specs.declared.past.PastCall.TheVariants as past
use Rattle.bm_graph.specs.Calls.{first_call}
use Rattle.bm_graph.specs.Objects.{Node}
use Rattle.bm_graph.specs.Ways.{pop_call, push_call, refused_push}
use Rattle.bm_graph.specs.declared.ways.End.{End}
use Rattle.bm_graph.specs.declared.ways.End.TheVariants as end_
use Rattle.bm_graph.specs.declared.ways.Way.{Way}
use Rattle.bm_graph.specs.declared.ways.Way.TheVariants as way
use Rattle.bm_law_order.specs.Graphs.{Calls, Looks, NamedGraph, Puts, Refuses, Takes, effect_of, graph_at, graph_names_in, graphs_after, moved, nodes_after, shelf_of, standing_from}
use Rattle.bm_world.specs.Graphs.{AreGraphs, Grows, HasMore, first_node}
use Rattle.bm_world.specs.NamedGraphs.{named_graph}
use Rattle.bm_world.specs.declared.graphs.MapGraph.{MapGraph}
use Rattle.bm_world.proofs.GraphLemmas.{after-graphs, after-set, called-if, placed-name, put-moves, put-times, same-stands, same-times, take-moves, take-stood, take-times}

pub ok-so : {A E : Type 0} (r : Result A E) (P Q : A → Type 0) → ((x : A) → P x → Q x) → IfOk r P → IfOk r Q
ok-so (Ok x) P Q f h = f x h
ok-so (Err e) P Q f h = tt

pub ok-on : {A E : Type 0} (r : Result A E) (P : A → Type 0) (Q : Type 0) → ((x : A) → P x → Q) → IfOk r P → OnOk r Q
ok-on (Ok x) P Q f h = f x h
ok-on (Err e) P Q f h = tt

pub ok-both : {A E : Type 0} (r : Result A E) (P : A → Type 0) (R : Type 0) (Q : A → Type 0) → ((x : A) → P x → R → Q x) → IfOk r P → OnOk r R → IfOk r Q
ok-both (Ok x) P R Q f h k = f x h k
ok-both (Err e) P R Q f h k = tt

pub ok-two : {A E : Type 0} (r : Result A E) (P R Q : A → Type 0) → ((x : A) → P x → R x → Q x) → IfOk r P → IfOk r R → IfOk r Q
ok-two (Ok x) P R Q f h k = f x h k
ok-two (Err e) P R Q f h k = tt

-- a call was made on the one at a place, and all is as it was otherwise
pub record Made (gs now : List NamedGraph) (place position : ℕ) (call : PastCall) (tag : Tag) : Type 0 where
  pub keeps : AreGraphs now
  pub graphs : now ≡ graphs_after place call tag gs
  pub called : Calls (graph_names_in gs) (graph_at place gs).name position call tag (shelf_of gs) (shelf_of now)
  pub moves : standing_from 0 now ≡ moved place (effect_of call) (standing_from 0 gs)

made-so : (gs now : List NamedGraph) (place position : ℕ) (call : PastCall) (tag : Tag) → AreGraphs gs → place < length gs → now ≡ graphs_after place call tag gs → AreGraphs (graphs_after place call tag gs) → Calls (graph_names_in gs) (graph_at place gs).name position call tag (shelf_of gs) (shelf_of (graphs_after place call tag gs)) → Made gs now place position call tag
made-so gs now place position call tag are lt e keeps called = record {
  keeps = subst AreGraphs (sym e) keeps;
  graphs = e;
  moves = ap (standing_from 0) e ∙ (called.within ∙ ap (λ (k : ℕ). moved k (effect_of call) (standing_from 0 gs)) (placed-name place gs are.apart lt));
  called = subst (λ (x : List NamedGraph). Calls (graph_names_in gs) (graph_at place gs).name position call tag (shelf_of gs) (shelf_of x)) (sym e) called;
}

nodes-are : (g new : NamedGraph) (position : ℕ) (call : PastCall) (tag : Tag) → Grows g new position call tag → new.nodes ≡ nodes_after call g.nodes
nodes-are g new position call tag grows = ap (λ (x : NamedGraph). x.nodes) grows.after

put-made : (gs now : List NamedGraph) (place position : ℕ) (call : PastCall) (tag : Tag) (id : ObjId) (new : NamedGraph) → now ≡ graphs_after place call tag gs → AreGraphs gs → place < length gs → effect_of call ≡ Puts id → standing_from 0 gs id.unit ≡ None → HasMore id (graph_at place gs).nodes new.nodes → Grows (graph_at place gs) new position call tag → Made gs now place position call tag
put-made gs now place position call tag id new e keeps lt puts none more grows =
    let h : HasMore id (graph_at place gs).nodes (nodes_after call (graph_at place gs).nodes) = subst (HasMore id (graph_at place gs).nodes) (nodes-are (graph_at place gs) new position call tag grows) more in
    made-so gs now place position call tag keeps lt e
    (after-graphs place call tag gs keeps (λ u. put-times u place call tag id gs keeps lt none h))
    (called-if place call tag gs new position keeps lt grows (rw puts none) (λ u. rw puts (put-moves u place call tag id gs keeps lt none h)))

take-made : (gs now : List NamedGraph) (place position : ℕ) (call : PastCall) (tag : Tag) (id : ObjId) (new : NamedGraph) → now ≡ graphs_after place call tag gs → AreGraphs gs → place < length gs → effect_of call ≡ Takes id → HasMore id new.nodes (graph_at place gs).nodes → Grows (graph_at place gs) new position call tag → Made gs now place position call tag
take-made gs now place position call tag id new e keeps lt takes less grows =
    let h : HasMore id (nodes_after call (graph_at place gs).nodes) (graph_at place gs).nodes = subst (λ (ns : List Node). HasMore id ns (graph_at place gs).nodes) (nodes-are (graph_at place gs) new position call tag grows) less in
    made-so gs now place position call tag keeps lt e
    (after-graphs place call tag gs keeps (λ u. take-times u place call tag id gs keeps lt h))
    (called-if place call tag gs new position keeps lt grows (rw takes (take-stood place id (nodes_after call (graph_at place gs).nodes) gs keeps lt h)) (λ u. rw takes (take-moves u place call tag id gs keeps lt h)))

-- nothing moves
look-made : (gs now : List NamedGraph) (place position : ℕ) (call : PastCall) (tag : Tag) (new : NamedGraph) → now ≡ graphs_after place call tag gs → AreGraphs gs → place < length gs → effect_of call ≡ Looks → nodes_after call (graph_at place gs).nodes ≡ (graph_at place gs).nodes → Grows (graph_at place gs) new position call tag → Made gs now place position call tag
look-made gs now place position call tag new e keeps lt looks same grows =
    made-so gs now place position call tag keeps lt e
    (after-graphs place call tag gs keeps (λ u. same-times u place call tag gs keeps lt same))
    (called-if place call tag gs new position keeps lt grows (rw looks tt) (λ u. rw looks (same-stands u place call tag gs same)))

refuse-made : (gs now : List NamedGraph) (place position owner : ℕ) (call : PastCall) (tag : Tag) (id : ObjId) (new : NamedGraph) → now ≡ graphs_after place call tag gs → AreGraphs gs → place < length gs → effect_of call ≡ Refuses id owner → nodes_after call (graph_at place gs).nodes ≡ (graph_at place gs).nodes → standing_from 0 gs id.unit ≡ Some (record { life = id.life; place = owner }) → Grows (graph_at place gs) new position call tag → Made gs now place position call tag
refuse-made gs now place position owner call tag id new e keeps lt refuses same stands grows =
    made-so gs now place position call tag keeps lt e
    (after-graphs place call tag gs keeps (λ u. same-times u place call tag gs keeps lt same))
    (called-if place call tag gs new position keeps lt grows (rw refuses stands) (λ u. rw refuses (same-stands u place call tag gs same)))

-- ---- by the way in which they are held

pub told-graph : (xs : List MapGraph) (place : ℕ) (g : MapGraph) → place < length xs → g ≡ get_or xs place g → graph_at place (map named_graph xs) ≡ named_graph g
told-graph [] place g lt e = absurd (omega (arith, lt))
told-graph (x ∷ xs) zero g lt e = ap named_graph (sym e)
told-graph (x ∷ xs) (suc place) g lt e = told-graph xs place g (omega (arith, lt)) e

-- the place is one of those that are held
pub held-there : (xs : List MapGraph) (place : ℕ) (told : List NamedGraph) → map named_graph xs ≡ told → place < length told → place < length xs
held-there xs place told e lt = subst (λ n. place < n) (ap length (sym e) ∙ length-map xs named_graph) lt

told-there : (xs : List MapGraph) (place : ℕ) → place < length xs → place < length (map named_graph xs)
told-there xs place lt = subst (λ n. place < n) (sym (length-map xs named_graph)) lt

grown-told : (xs : List MapGraph) (place position : ℕ) (old new : MapGraph) (call : PastCall) (tag : Tag) → place < length xs → old ≡ get_or xs place old → Grows (named_graph old) (named_graph new) position call tag → Grows (graph_at place (map named_graph xs)) (named_graph new) position call tag
grown-told xs place position old new call tag lt e grows = subst (λ (g : NamedGraph). Grows g (named_graph new) position call tag) (sym (told-graph xs place old lt e)) grows

written : (xs : List MapGraph) (place position : ℕ) (new : MapGraph) (call : PastCall) (tag : Tag) → place < length xs → Grows (graph_at place (map named_graph xs)) (named_graph new) position call tag → map named_graph (set xs place new) ≡ graphs_after place call tag (map named_graph xs)
written xs place position new call tag lt grows = map-set named_graph xs place new ∙ after-set place call tag (map named_graph xs) (named_graph new) (told-there xs place lt) grows.after

put-effect : (w : Way) (id : ObjId) (key : ℕ) → effect_of (push_call w id key) ≡ Puts id
put-effect way.Front id key = refl
put-effect way.Back id key = refl
put-effect way.Ordered id key = refl

refused-effect : (w : Way) (id : ObjId) (key owner : ℕ) → effect_of (refused_push w id key owner) ≡ Refuses id owner
refused-effect way.Front id key owner = refl
refused-effect way.Back id key owner = refl
refused-effect way.Ordered id key owner = refl

refused-nodes : (w : Way) (id : ObjId) (key owner : ℕ) (ns : List Node) → nodes_after (refused_push w id key owner) ns ≡ ns
refused-nodes way.Front id key owner ns = refl
refused-nodes way.Back id key owner ns = refl
refused-nodes way.Ordered id key owner ns = refl

pub pop-effect : (end : End) (id : ObjId) → effect_of (pop_call end (Some id)) ≡ Takes id
pop-effect end_.Front id = refl
pop-effect end_.Back id = refl

none-effect : (end : End) → effect_of (pop_call end None) ≡ Looks
none-effect end_.Front = refl
none-effect end_.Back = refl

none-nodes : (end : End) (ns : List Node) → nodes_after (pop_call end None) ns ≡ ns
none-nodes end_.Front ns = refl
none-nodes end_.Back ns = refl

first-effect : (o : Option ObjId) → effect_of (first_call o) ≡ Looks
first-effect None = refl
first-effect (Some id) = refl

first-nodes : (o : Option ObjId) (ns : List Node) → nodes_after (first_call o) ns ≡ ns
first-nodes None ns = refl
first-nodes (Some id) ns = refl

pub push-made : (xs : List MapGraph) (place position : ℕ) (old new : MapGraph) (w : Way) (id : ObjId) (key : ℕ) (tag : Tag) → AreGraphs (map named_graph xs) → place < length xs → old ≡ get_or xs place old → standing_from 0 (map named_graph xs) id.unit ≡ None → HasMore id (named_graph old).nodes (named_graph new).nodes → Grows (named_graph old) (named_graph new) position (push_call w id key) tag → Made (map named_graph xs) (map named_graph (set xs place new)) place position (push_call w id key) tag
push-made xs place position old new w id key tag keeps lt e none more grows =
    let g = grown-told xs place position old new (push_call w id key) tag lt e grows in
    let m = subst (λ (x : NamedGraph). HasMore id x.nodes (named_graph new).nodes) (sym (told-graph xs place old lt e)) more in
    put-made (map named_graph xs) (map named_graph (set xs place new)) place position (push_call w id key) tag id (named_graph new) (written xs place position new (push_call w id key) tag lt g) keeps (told-there xs place lt) (put-effect w id key) none m g

pub refused-made : (xs : List MapGraph) (place position : ℕ) (old new : MapGraph) (w : Way) (id : ObjId) (key owner : ℕ) (tag : Tag) → AreGraphs (map named_graph xs) → place < length xs → old ≡ get_or xs place old → standing_from 0 (map named_graph xs) id.unit ≡ Some (record { life = id.life; place = owner }) → Grows (named_graph old) (named_graph new) position (refused_push w id key owner) tag → Made (map named_graph xs) (map named_graph (set xs place new)) place position (refused_push w id key owner) tag
refused-made xs place position old new w id key owner tag keeps lt e stands grows =
    let g = grown-told xs place position old new (refused_push w id key owner) tag lt e grows in
    refuse-made (map named_graph xs) (map named_graph (set xs place new)) place position owner (refused_push w id key owner) tag id (named_graph new) (written xs place position new (refused_push w id key owner) tag lt g) keeps (told-there xs place lt) (refused-effect w id key owner) (refused-nodes w id key owner (graph_at place (map named_graph xs)).nodes) stands g

pub popped-made : (xs : List MapGraph) (place position : ℕ) (old new : MapGraph) (end : End) (o : Option ObjId) (tag : Tag) → AreGraphs (map named_graph xs) → place < length xs → old ≡ get_or xs place old → IfSome o (λ id. HasMore id (named_graph new).nodes (named_graph old).nodes) → Grows (named_graph old) (named_graph new) position (pop_call end o) tag → Made (map named_graph xs) (map named_graph (set xs place new)) place position (pop_call end o) tag
popped-made xs place position old new end None tag keeps lt e less grows =
    let g = grown-told xs place position old new (pop_call end None) tag lt e grows in
    look-made (map named_graph xs) (map named_graph (set xs place new)) place position (pop_call end None) tag (named_graph new) (written xs place position new (pop_call end None) tag lt g) keeps (told-there xs place lt) (none-effect end) (none-nodes end (graph_at place (map named_graph xs)).nodes) g
popped-made xs place position old new end (Some id) tag keeps lt e less grows =
    let g = grown-told xs place position old new (pop_call end (Some id)) tag lt e grows in
    let m = subst (λ (x : NamedGraph). HasMore id (named_graph new).nodes x.nodes) (sym (told-graph xs place old lt e)) less in
    take-made (map named_graph xs) (map named_graph (set xs place new)) place position (pop_call end (Some id)) tag id (named_graph new) (written xs place position new (pop_call end (Some id)) tag lt g) keeps (told-there xs place lt) (pop-effect end id) m g

pub popped-stood : (xs : List MapGraph) (place : ℕ) (old new : MapGraph) (o : Option ObjId) → AreGraphs (map named_graph xs) → place < length xs → old ≡ get_or xs place old → IfSome o (λ id. HasMore id (named_graph new).nodes (named_graph old).nodes) → IfSome o (λ id. standing_from 0 (map named_graph xs) id.unit ≡ Some (record { life = id.life; place = place }))
popped-stood xs place old new None keeps lt e less = tt
popped-stood xs place old new (Some id) keeps lt e less =
    let m = subst (λ (x : NamedGraph). HasMore id (named_graph new).nodes x.nodes) (sym (told-graph xs place old lt e)) less in
    take-stood place id (named_graph new).nodes (map named_graph xs) keeps (told-there xs place lt) m

pub firsts-made : (xs : List MapGraph) (place position : ℕ) (old new : MapGraph) (o : Option ObjId) (tag : Tag) → AreGraphs (map named_graph xs) → place < length xs → old ≡ get_or xs place old → Grows (named_graph old) (named_graph new) position (first_call o) tag → Made (map named_graph xs) (map named_graph (set xs place new)) place position (first_call o) tag
firsts-made xs place position old new o tag keeps lt e grows =
    let g = grown-told xs place position old new (first_call o) tag lt e grows in
    look-made (map named_graph xs) (map named_graph (set xs place new)) place position (first_call o) tag (named_graph new) (written xs place position new (first_call o) tag lt g) keeps (told-there xs place lt) (first-effect o) (first-nodes o (graph_at place (map named_graph xs)).nodes) g

-- what is first stands there
first-more : (ns : List Node) (id : ObjId) → Some id ≡ first_node ns → (less : List Node) × HasMore id less ns
first-more [] id e = cc
first-more (n ∷ ns) id e =
    let same : id ≡ n.id = cc in
    (ns, record { key = n.key; before = []; after = ns; less_is = refl; more_is = ap (λ (x : ObjId). let m : Node = record { id = x; key = n.key } in m ∷ ns) (sym same) })

pub first-stood : (xs : List MapGraph) (place : ℕ) (old : MapGraph) (o : Option ObjId) → AreGraphs (map named_graph xs) → place < length xs → old ≡ get_or xs place old → o ≡ first_node (named_graph old).nodes → IfSome o (λ id. standing_from 0 (map named_graph xs) id.unit ≡ Some (record { life = id.life; place = place }))
first-stood xs place old None keeps lt e is = tt
first-stood xs place old (Some id) keeps lt e is =
    let more = first-more (graph_at place (map named_graph xs)).nodes id (is ∙ ap (λ (g : NamedGraph). first_node g.nodes) (sym (told-graph xs place old lt e))) in
    take-stood place id more.0 (map named_graph xs) keeps (told-there xs place lt) more.1

pub removed-made : (xs : List MapGraph) (place position : ℕ) (old new : MapGraph) (id : ObjId) (tag : Tag) → AreGraphs (map named_graph xs) → place < length xs → old ≡ get_or xs place old → HasMore id (named_graph new).nodes (named_graph old).nodes → Grows (named_graph old) (named_graph new) position (past.Remove id) tag → Made (map named_graph xs) (map named_graph (set xs place new)) place position (past.Remove id) tag
removed-made xs place position old new id tag keeps lt e less grows =
    let g = grown-told xs place position old new (past.Remove id) tag lt e grows in
    let m = subst (λ (x : NamedGraph). HasMore id (named_graph new).nodes x.nodes) (sym (told-graph xs place old lt e)) less in
    take-made (map named_graph xs) (map named_graph (set xs place new)) place position (past.Remove id) tag id (named_graph new) (written xs place position new (past.Remove id) tag lt g) keeps (told-there xs place lt) refl m g

set-same : {A : Type 0} (xs : List A) (i : ℕ) (x y : A) → x ≡ get_or xs i x → y ≡ x → set xs i y ≡ xs
set-same [] i x y e f = refl
set-same (z ∷ zs) zero x y e f = ap (λ w. w ∷ zs) (f ∙ e)
set-same (z ∷ zs) (suc i) x y e f = ap (λ ws. z ∷ ws) (set-same zs i x y e f)

-- all keep what they do, whether the call was made or memory was out
pub keeps-all : {A E : Type 0} (r : Result A E) (xs : List MapGraph) (place : ℕ) (old new : MapGraph) (position : A → ℕ) (call : A → PastCall) (tag : Tag) → AreGraphs (map named_graph xs) → old ≡ get_or xs place old → IfOk r (λ a. Made (map named_graph xs) (map named_graph (set xs place new)) place (position a) (call a) tag) → OnErr r (new ≡ old) → AreGraphs (map named_graph (set xs place new))
keeps-all (Ok a) xs place old new position call tag keeps e made err = made.keeps
keeps-all (Err x) xs place old new position call tag keeps e made err = subst (λ (ys : List MapGraph). AreGraphs (map named_graph ys)) (sym (set-same xs place old new e err)) keeps

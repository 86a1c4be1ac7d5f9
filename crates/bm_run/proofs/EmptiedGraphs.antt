-- Lists and trees from which objects are taken until they are empty.
use Rattle.std.proofs.Common.{◌≡◌, ◌≢◌, ◌∙◌, ◌<◌, ◌≤◌, ◌+◌, ℕ, zero, suc, true, List, [], ◌∷◌, Option, None, Some, ap, arith, length, refl, subst, sym}
use Rattle.bm_journal.specs.declared.ids.ObjId.{ObjId}
use Rattle.bm_journal.specs.declared.ids.Tag.{Tag}
use Rattle.bm_journal.specs.declared.past.PastCall.{PastCall}
use Rattle.bm_journal.specs.declared.past.PastCall.TheVariants as past
use Rattle.bm_graph.specs.Calls.{first_call}
use Rattle.bm_graph.specs.Objects.{Node, same_object}
use Rattle.bm_law_order.specs.Graphs.{NamedGraph, graph_at, graphs_after, nodes_after, standing_from}
use Rattle.bm_world.specs.Graphs.{first_node, items_in}
use Rattle.bm_exec_levels.specs.Called.{CalledAt}
use Rattle.bm_exec_levels.proofs.Graphed.{other-graph}
use Rattle.bm_run.specs.Emptied.{EmptiedAt}

-- ---- a call on the one at a place

this-graph : (place : ℕ) (call : PastCall) (tag : Tag) (gs : List NamedGraph) → place < length gs → (graph_at place (graphs_after place call tag gs)).nodes ≡ nodes_after call (graph_at place gs).nodes
this-graph place call tag [] lt = absurd (omega (arith, lt))
this-graph zero call tag (g ∷ gs) lt = refl
this-graph (suc place) call tag (g ∷ gs) lt = this-graph place call tag gs (omega (arith, lt))

all-graphs : (place : ℕ) (call : PastCall) (tag : Tag) (gs : List NamedGraph) → place < length gs → items_in (graphs_after place call tag gs) + length (graph_at place gs).nodes ≡ items_in gs + length (nodes_after call (graph_at place gs).nodes)
all-graphs place call tag [] lt = absurd (omega (arith, lt))
all-graphs zero call tag (g ∷ gs) lt = omega arith
all-graphs (suc place) call tag (g ∷ gs) lt = (let h = all-graphs place call tag gs (omega (arith, lt)) in omega (arith, h))

-- ---- so many objects were taken out

-- So many were taken out of the list or tree at a place, and the other ones stayed as they were.
pub record TakenFrom (place count : ℕ) (before now : List NamedGraph) : Type 0 where
  pub left : count + length (graph_at place now).nodes ≡ length (graph_at place before).nodes
  pub others : (at : ℕ) → at ≢ place → graph_at at now ≡ graph_at at before
  pub fewer : items_in now + count ≡ items_in before

pub taken-none : (place : ℕ) (before now : List NamedGraph) → now ≡ before → TakenFrom place 0 before now
taken-none place before now e = record {
  left = (let same : length (graph_at place now).nodes ≡ length (graph_at place before).nodes = ap (λ (gs : List NamedGraph). length (graph_at place gs).nodes) e in omega (arith, same));
  others = λ at n. ap (graph_at at) e;
  fewer = (let same : items_in now ≡ items_in before = ap items_in e in omega (arith, same));
}

pub taken-join : (place j k : ℕ) (a b c : List NamedGraph) → TakenFrom place j a b → TakenFrom place k b c → TakenFrom place (j + k) a c
taken-join place j k a b c x y = record {
  left = (let l = x.left in let m = y.left in omega (arith, l, m));
  others = λ at n. y.others at n ∙ x.others at n;
  fewer = (let l = x.fewer in let m = y.fewer in omega (arith, l, m));
}

-- a call after which so many fewer nodes are there
taken-call : (place count : ℕ) (call : PastCall) (before now : List NamedGraph) → place < length before → CalledAt place call before now → count + length (nodes_after call (graph_at place before).nodes) ≡ length (graph_at place before).nodes → TakenFrom place count before now
taken-call place count call before now lt c less =
    subst (TakenFrom place count before) (sym c.now_is) (record {
      left = ap (λ (ns : List Node). count + length ns) (this-graph place call c.tag before lt) ∙ less;
      others = λ at n. other-graph place at call c.tag before n;
      fewer = (let h = all-graphs place call c.tag before lt in omega (arith, h, less));
    })

-- the first one was popped
pub taken-popped : (place : ℕ) (o : ObjId) (before now : List NamedGraph) → place < length before → Some o ≡ first_node (graph_at place before).nodes → CalledAt place (past.PopFront o) before now → TakenFrom place 1 before now
taken-popped place o before now lt first c = taken-call place 1 (past.PopFront o) before now lt c (less (graph_at place before).nodes first)
  where
    less : (ns : List Node) → Some o ≡ first_node ns → 1 + length (nodes_after (past.PopFront o) ns) ≡ length ns
    less [] e = absurd (let z : ◌≡◌ {A = Option ObjId} (Some o) None = e in cc)
    less (n ∷ ns) e = omega arith

same-itself : (o : ObjId) → same_object o o ≡ true
same-itself o = grind arith

-- the first one was removed
pub taken-removed : (place : ℕ) (o : ObjId) (before now : List NamedGraph) → place < length before → Some o ≡ first_node (graph_at place before).nodes → CalledAt place (past.Remove o) before now → TakenFrom place 1 before now
taken-removed place o before now lt first c = taken-call place 1 (past.Remove o) before now lt c (less (graph_at place before).nodes first)
  where
    less : (ns : List Node) → Some o ≡ first_node ns → 1 + length (nodes_after (past.Remove o) ns) ≡ length ns
    less [] e = absurd (let z : ◌≡◌ {A = Option ObjId} (Some o) None = e in cc)
    less (n ∷ ns) e =
        let z : ◌≡◌ {A = Option ObjId} (Some o) (Some n.id) = e in
        let same : o ≡ n.id = cc in
        let is : same_object n.id o ≡ true = subst (λ (x : ObjId). same_object x o ≡ true) same (same-itself o) in
        rw is (omega arith)

-- a look takes nothing
first-still : (i : Option ObjId) (ns : List Node) → nodes_after (first_call i) ns ≡ ns
first-still None ns = refl
first-still (Some o) ns = refl

pub taken-looked : (place : ℕ) (item : Option ObjId) (before now : List NamedGraph) → place < length before → CalledAt place (first_call item) before now → TakenFrom place 0 before now
taken-looked place item before now lt c =
    let ns : List Node = (graph_at place before).nodes in
    let same : length (nodes_after (first_call item) ns) ≡ length ns = ap (λ (ns : List Node). length ns) (first-still item ns) in
    taken-call place 0 (first_call item) before now lt c (omega (arith, same))

pub nodes-looked : (place : ℕ) (item : Option ObjId) (before now : List NamedGraph) → place < length before → CalledAt place (first_call item) before now → (graph_at place now).nodes ≡ (graph_at place before).nodes
nodes-looked place item before now lt c = ap (λ (gs : List NamedGraph). (graph_at place gs).nodes) c.now_is ∙ (this-graph place (first_call item) c.tag before lt ∙ first-still item (graph_at place before).nodes)

-- neither does a pop in vain
pub taken-popped-none : (place : ℕ) (before now : List NamedGraph) → place < length before → CalledAt place past.PopFrontNone before now → TakenFrom place 0 before now
taken-popped-none place before now lt c = taken-call place 0 past.PopFrontNone before now lt c (omega arith)

-- what has no first node is empty
pub none-first : (ns : List Node) → None ≡ first_node ns → ns ≡ []
none-first [] e = refl
none-first (n ∷ ns) e = absurd (let z : ◌≡◌ {A = Option ObjId} None (Some n.id) = e in cc)

-- ---- all were taken out

no-nodes : (ns : List Node) → length ns ≡ 0 → ns ≡ []
no-nodes [] e = refl
no-nodes (n ∷ ns) e = absurd (omega (arith, e))

-- where nothing is taken from an empty one it stays so
pub bare-still : (place : ℕ) (before now : List NamedGraph) → TakenFrom place 0 before now → (graph_at place before).nodes ≡ [] → (graph_at place now).nodes ≡ []
bare-still place before now x bare =
    let none : length (graph_at place before).nodes ≡ 0 = ap (λ (ns : List Node). length ns) bare in
    let left = x.left in
    no-nodes (graph_at place now).nodes (omega (arith, none, left))

pub emptied-all : (place count : ℕ) (before now : List NamedGraph) → TakenFrom place count before now → (graph_at place now).nodes ≡ [] → EmptiedAt place before now
emptied-all place count before now x bare =
    let none : length (graph_at place now).nodes ≡ 0 = ap (λ (ns : List Node). length ns) bare in
    record {
      bare = bare;
      others = x.others;
      fewer = (let l = x.left in let m = x.fewer in omega (arith, none, l, m));
    }

-- how many that were
pub all-taken : (place count : ℕ) (before now : List NamedGraph) → TakenFrom place count before now → (graph_at place now).nodes ≡ [] → count ≡ length (graph_at place before).nodes
all-taken place count before now x bare = (let none : length (graph_at place now).nodes ≡ 0 = ap (λ (ns : List Node). length ns) bare in let l = x.left in omega (arith, none, l))

-- .. where there was none, and all stayed as they were
pub emptied-slot : (place : ℕ) (before now : List NamedGraph) → now ≡ before → (graph_at place now).nodes ≡ [] → EmptiedAt place before now
emptied-slot place before now e bare = emptied-all place 0 before now (taken-none place before now e) bare

-- no unit stands where all are empty
pub none-stand : (place : ℕ) (gs : List NamedGraph) → ((at : ℕ) → at < length gs → (graph_at at gs).nodes ≡ []) → (u : ℕ) → standing_from place gs u ≡ None
none-stand place [] h u = refl
none-stand place (g ∷ gs) h u =
    let first : g.nodes ≡ [] = h 0 (omega arith) in
    rw first (none-stand (place + 1) gs (λ at lt. h (suc at) (omega (arith, lt))) u)

-- those at one place are among all
pub items-at : (place : ℕ) (gs : List NamedGraph) → length (graph_at place gs).nodes ≤ items_in gs
items-at place [] = omega arith
items-at zero (g ∷ gs) = omega arith
items-at (suc place) (g ∷ gs) = (let h = items-at place gs in omega (arith, h))

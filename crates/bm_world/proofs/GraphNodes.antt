-- Nodes of lists and trees, with one more or one less.
use Rattle.std.proofs.Common.{◌≡◌, ◌∙◌, ℕ, Bool, true, false, List, [], ◌∷◌, ◌++◌, Option, Some, None, ap, drop, inl, inr, refl, sym, subst, map}
use Rattle.std.specs.Prelude.{eqb, if◌then◌else◌, ◌||◌, ◌==◌}
use Rattle.std.specs.Option.{IsSome, is_some}
use Rattle.std.proofs.lemmas.Bool.{cases_Bool, and_parts}
use Rattle.std.proofs.lemmas.Bool.Decides.{eqb_tells}
use Rattle.std.proofs.lemmas.List.{map-append}
use Rattle.bm_journal.specs.declared.ids.ObjId.{ObjId}
use Rattle.bm_journal.specs.declared.ids.Tag.{Tag}
use Rattle.bm_journal.specs.declared.past.Past.{Past}
use Rattle.bm_journal.specs.declared.past.PastCall.{PastCall}
use Rattle.bm_graph.specs.Calls.{TakesFirst, TakesLast, back_call, first_id}
use Rattle.bm_graph.specs.Contents.{item_of, nodes}
use Rattle.bm_graph.specs.Objects.{Node, Object, list_object, same_object, tree_object}
use Rattle.bm_graph.specs.Replay.{Records, replay, replay_from}
use Rattle.bm_graph.specs.Ways.{pop_call}
use Rattle.bm_graph.specs.declared.item.Item.{Item}
use Rattle.bm_graph.specs.declared.ways.End.TheVariants as end_
use Rattle.bm_graph.proofs.Ids.{same_object-refl}
use Rattle.bm_law_order.specs.Graphs.{NamedGraph, Replays, life_among, node_of, nodes_after, without_last}
use Rattle.bm_world.specs.GraphItems.{item_id}
use Rattle.bm_world.specs.Graphs.{Grows, HasMore, first_node, last_node}
use Rattle.bm_world.specs.NamedGraphs.{list_nodes}

-- a call that a history records, and its reply
pub grown : (name : List ℕ) (is_tree : Bool) (h k : List Past) (ns ms : List Node) (position : ℕ) (tag : Tag) (call : PastCall) → Records h k position tag call → Replays k → ms ≡ nodes_after call ns → Grows (record { name = name; is_tree = is_tree; history = h; nodes = ns }) (record { name = name; is_tree = is_tree; history = k; nodes = ms }) position call tag
grown name is_tree h k ns ms position tag call r right same =
    let F : List Past → List Node → NamedGraph = λ x y. record { name = name; is_tree = is_tree; history = x; nodes = y } in
    record { at = r.at; right = right; after = ap (λ x. F x ms) r.entry ∙ ap (F (h ++ record { tag = tag; call = call } ∷ [])) same }

or-so : (b : Bool) → (b || true) ≡ true
or-so true = refl
or-so false = refl

pub list-right : (h : List Past) (os : List ObjId) → replay list_object h ≡ Some os → Replays h
list-right h os e = ap (λ x. is_some x || is_some (replay tree_object h)) e

pub tree-right : (h : List Past) (ns : List Node) → replay tree_object h ≡ Some ns → Replays h
tree-right h ns e = ap (λ x. is_some (replay list_object h) || is_some x) e ∙ or-so (is_some (replay list_object h))

-- the last entry of a history that replays took the object to the state behind it
module _ {S : Type 0} where
  last-step : (object : Object S) (s t u : S) (p : Past) → s ≡ t → (b : Bool) → (if b then Some (object.after s p.call) else None) ≡ Some u → u ≡ object.after t p.call
  last-step object s t u p same true e = (let back : u ≡ object.after s p.call = cc in back ∙ ap (λ x. object.after x p.call) same)
  last-step object s t u p same false e = cc

  stuck : (b : Bool) (x y : Option S) (t u : S) → (if b then x else None) ≡ Some t → (if b then y else None) ≡ Some u → (x ≡ Some t) × (y ≡ Some u)
  stuck true x y t u e f = (e, f)
  stuck false x y t u e f = cc

  pub stepped : (object : Object S) (s t u : S) (ps : List Past) (p : Past) → replay_from object s ps ≡ Some t → replay_from object s (ps ++ p ∷ []) ≡ Some u → u ≡ object.after t p.call
  stepped object s t u [] p e f = (let same : s ≡ t = cc in last-step object s t u p same (object.is_right s p.call) f)
  stepped object s t u (q ∷ qs) p e f =
      let both = stuck (object.is_right s q.call) (replay_from object (object.after s q.call) qs) (replay_from object (object.after s q.call) (qs ++ p ∷ [])) t u e f in
      stepped object (object.after s q.call) t u qs p both.0 both.1

pub tree-stepped : (h k : List Past) (ns ms : List Node) (position : ℕ) (tag : Tag) (call : PastCall) → Records h k position tag call → replay tree_object h ≡ Some ns → replay tree_object k ≡ Some ms → ms ≡ tree_object.after ns call
tree-stepped h k ns ms position tag call r e f = stepped tree_object [] ns ms h (record { tag = tag; call = call }) e (subst (λ x. replay tree_object x ≡ Some ms) r.entry f)

-- ---- lives among nodes

clash : (n : ℕ) → Some n ≡ None → ⊥
clash n e = cc

last-gone : (ns : List Node) (n : Node) → without_last (ns ++ n ∷ []) ≡ ns
last-gone [] n = refl
last-gone (m ∷ []) n = refl
last-gone (m ∷ k ∷ ns) n = ap (λ x. m ∷ x) (last-gone (k ∷ ns) n)

last-is : (ns : List Node) (n : Node) → last_node (ns ++ n ∷ []) ≡ Some n.id
last-is [] n = refl
last-is (m ∷ []) n = refl
last-is (m ∷ k ∷ ns) n = last-is (k ∷ ns) n

module _ {T : Type 0} where
  -- what isn't among the nodes of items isn't among these, keys or none
  no-item : (key : Item T → ℕ) (items : List (Item T)) (id : ObjId) → life_among id.unit (map (λ (i : Item T). node_of i.id (key i)) items) ≡ None → item_of items id ≡ None
  no-item key [] id e = refl
  no-item key (i ∷ is) id e = elim (cases_Bool (same_object i.id id)) [
    | inl same ↦ absurd (clash i.id.life (sym (ap (λ b. if b then Some i.id.life else life_among id.unit (map (λ (j : Item T). node_of j.id (key j)) is)) (and_parts (i.id.unit == id.unit) (i.id.life == id.life) same).0) ∙ e))
    | inr apart ↦ rw apart (no-item key is id (rest (eqb i.id.unit id.unit) e))
  ]
    where
      rest : (b : Bool) → (if b then Some i.id.life else life_among id.unit (map (λ (j : Item T). node_of j.id (key j)) is)) ≡ None → life_among id.unit (map (λ (j : Item T). node_of j.id (key j)) is) ≡ None
      rest true e = cc
      rest false e = e

  pub no-list-item : (items : List (Item T)) (id : ObjId) → life_among id.unit (list_nodes items) ≡ None → item_of items id ≡ None
  no-list-item items id e = no-item (λ i. 0) items id e

  pub no-tree-item : (items : List (Item T)) (id : ObjId) → life_among id.unit (nodes items) ≡ None → item_of items id ≡ None
  no-tree-item items id e = no-item (λ i. i.key) items id e

  -- .. and what is among them is
  pub there-item : (items : List (Item T)) (id : ObjId) → life_among id.unit (nodes items) ≡ Some id.life → item_of items id ≡ None → ⊥
  there-item [] id e none = cc
  there-item (i ∷ is) id e none = elim (eqb_tells i.id.unit id.unit) [
    | inl y ↦
        (let F : Bool → Option ℕ = λ b. if b then Some i.id.life else life_among id.unit (nodes is) in
        let lives : Some i.id.life ≡ Some id.life = sym (ap F y.0) ∙ e in
        let life : i.id.life ≡ id.life = cc in
        let G : Bool → Option (Item T) = λ b. if b then Some i else item_of is id in
        let same : same_object i.id id ≡ true = subst (λ (x : ObjId). same_object i.id x ≡ true) (ap (λ u. let x : ObjId = record { unit = u; life = i.id.life } in x) y.1 ∙ ap (λ l. let x : ObjId = record { unit = id.unit; life = l } in x) life) (same_object-refl i.id) in
        let found : Some i ≡ None = sym (ap G same) ∙ none in
        cc)
    | inr n ↦
        (let F : Bool → Option ℕ = λ b. if b then Some i.id.life else life_among id.unit (nodes is) in
        let more : life_among id.unit (nodes is) ≡ Some id.life = sym (ap F n.0) ∙ e in
        there-item is id more (rest (same_object i.id id) none))
  ]
    where
      rest : (b : Bool) → (if b then Some i else item_of is id) ≡ None → item_of is id ≡ None
      rest true e = cc
      rest false e = e

  -- ---- what calls make of nodes

  pub list-pushed-back : (items : List (Item T)) (item : Item T) (id : ObjId) → item.id ≡ id → list_nodes (items ++ item ∷ []) ≡ list_nodes items ++ node_of id 0 ∷ []
  list-pushed-back items item id e = map-append (λ (i : Item T). node_of i.id 0) items (item ∷ []) ∙ ap (λ x. list_nodes items ++ node_of x 0 ∷ []) e

  nothing-left : (old new : List (Item T)) → (old ≡ []) × (new ≡ []) → list_nodes new ≡ list_nodes old
  nothing-left old new t = ap list_nodes (t.1 ∙ sym t.0)

  pub popped-front : (old new : List (Item T)) (popped : Option (Item T)) → TakesFirst old new popped → list_nodes new ≡ nodes_after (pop_call end_.Front (item_id popped)) (list_nodes old)
  popped-front old new None t = nothing-left old new t
  popped-front old new (Some item) t = sym (ap (λ (is : List (Item T)). drop 1 (list_nodes is)) t)

  split-last : (new : List (Item T)) (item : Item T) → list_nodes (new ++ item ∷ []) ≡ list_nodes new ++ node_of item.id 0 ∷ []
  split-last new item = list-pushed-back new item item.id refl

  pub popped-back : (old new : List (Item T)) (popped : Option (Item T)) → TakesLast old new popped → list_nodes new ≡ nodes_after (pop_call end_.Back (item_id popped)) (list_nodes old)
  popped-back old new None t = nothing-left old new t
  popped-back old new (Some item) t = sym (ap (λ (is : List (Item T)). without_last (list_nodes is)) t ∙ (ap without_last (split-last new item) ∙ last-gone (list_nodes new) (node_of item.id 0)))

  pub first-popped : (old new : List (Item T)) (popped : Option (Item T)) → TakesFirst old new popped → item_id popped ≡ first_node (list_nodes old)
  first-popped old new None t = sym (ap (λ (is : List (Item T)). first_node (list_nodes is)) t.0)
  first-popped old new (Some item) t = sym (ap (λ (is : List (Item T)). first_node (list_nodes is)) t)

  pub last-popped : (old new : List (Item T)) (popped : Option (Item T)) → TakesLast old new popped → item_id popped ≡ last_node (list_nodes old)
  last-popped old new None t = sym (ap (λ (is : List (Item T)). last_node (list_nodes is)) t.0)
  last-popped old new (Some item) t = sym (ap (λ (is : List (Item T)). last_node (list_nodes is)) t ∙ (ap last_node (split-last new item) ∙ last-is (list_nodes new) (node_of item.id 0)))

  pub first-told : (items : List (Item T)) → first_id items ≡ first_node (nodes items)
  first-told [] = refl
  first-told (i ∷ is) = refl

  -- ---- one more, and one less

  pub more-front : (old new : List (Item T)) (item : Item T) (id : ObjId) → item.id ≡ id → new ≡ item ∷ old → HasMore id (list_nodes old) (list_nodes new)
  more-front old new item id e f = record { key = 0; before = []; after = list_nodes old; less_is = refl; more_is = ap list_nodes f ∙ ap (λ x. node_of x 0 ∷ list_nodes old) e }

  pub more-back : (old new : List (Item T)) (item : Item T) (id : ObjId) → item.id ≡ id → new ≡ old ++ item ∷ [] → HasMore id (list_nodes old) (list_nodes new)
  more-back old new item id e f = record { key = 0; before = list_nodes old; after = []; less_is = sym (nil-behind (list_nodes old)); more_is = ap list_nodes f ∙ list-pushed-back old item id e }
    where
      nil-behind : (ns : List Node) → ns ++ [] ≡ ns
      nil-behind [] = refl
      nil-behind (n ∷ ns) = ap (λ x. n ∷ x) (nil-behind ns)

  pub more-tree : (old new : List (Item T)) (item : Item T) (id : ObjId) (key : ℕ) (before after : List (Item T)) → item.id ≡ id → old ≡ before ++ after → new ≡ before ++ item ∷ after → HasMore id (nodes old) (nodes new)
  more-tree old new item id key before after e f g = record {
    key = item.key;
    before = nodes before;
    after = nodes after;
    less_is = ap nodes f ∙ map-append (λ (i : Item T). node_of i.id i.key) before after;
    more_is = ap nodes g ∙ (map-append (λ (i : Item T). node_of i.id i.key) before (item ∷ after) ∙ ap (λ x. nodes before ++ node_of x item.key ∷ nodes after) e);
  }

  -- how pops are named
  pub back-named : (popped : Option (Item T)) → pop_call end_.Back (item_id popped) ≡ back_call popped
  back-named None = refl
  back-named (Some item) = refl

pub some-item : {A : Type 0} (o : Option A) → (o ≡ None → ⊥) → IsSome o
some-item None h = absurd (h refl)
some-item (Some x) h = refl

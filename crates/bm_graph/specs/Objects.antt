-- The sequential list and the sequential tree: what each call of a history makes of what stood there before it, and whether
-- its reply is right. The rules are those of kernel/bpf/helpers.c and of Documentation/bpf/graph_ds_impl.rst.
use Rattle.std.specs.Prelude.{ℕ, Bool, true, false, ◌&&◌, ◌||◌, not, List, [], ◌∷◌, ◌++◌, ◌==◌, nat_lt, map, if◌then◌else◌}
use Rattle.bm_journal.specs.declared.ids.ObjId.{ObjId}
use Rattle.bm_journal.specs.declared.past.PastCall.{PastCall}
use Rattle.bm_journal.specs.declared.past.PastCall.TheVariants as past

-- an object that calls act on one after the other: its state at first, whether the reply of a call is right in a state, and the
-- state after the call
pub record Object (S : Type 0) : Type 0 where
  pub empty : S
  pub is_right : S → PastCall → Bool
  pub after : S → PastCall → S

-- two ids name one object: the same unit, in the same of its lives
abbrev pub same_object : ObjId → ObjId → Bool
same_object a b = a.unit == b.unit && a.life == b.life

-- the object stands among these
abbrev pub has_object : List ObjId → ObjId → Bool
has_object [] id = false
has_object (o ∷ os) id = same_object o id || has_object os id

abbrev pub is_empty : List ObjId → Bool
is_empty [] = true
is_empty (o ∷ os) = false

-- the object is the first of these
abbrev pub is_first : List ObjId → ObjId → Bool
is_first [] id = false
is_first (o ∷ os) id = same_object o id

-- the object is the last of these
abbrev pub is_last : List ObjId → ObjId → Bool
is_last [] id = false
is_last (o ∷ []) id = same_object o id
is_last (o ∷ p ∷ os) id = is_last (p ∷ os) id

abbrev pub without_first : List ObjId → List ObjId
without_first [] = []
without_first (o ∷ os) = os

abbrev pub without_last : List ObjId → List ObjId
without_last [] = []
without_last (o ∷ []) = []
without_last (o ∷ p ∷ os) = o ∷ without_last (p ∷ os)

-- bpf_list_push_front_impl and bpf_list_push_back_impl push a node that isn't in the list, and refuse one that is in some list
-- or tree; bpf_list_pop_front and bpf_list_pop_back answer the node at their end, and none where the list is empty
abbrev pub list_right : List ObjId → PastCall → Bool
list_right os (past.PushFront id) = not (has_object os id)
list_right os (past.PushBack id) = not (has_object os id)
list_right os (past.PushFrontAlready id owner) = true
list_right os (past.PushBackAlready id owner) = true
list_right os (past.PopFront id) = is_first os id
list_right os past.PopFrontNone = is_empty os
list_right os (past.PopBack id) = is_last os id
list_right os past.PopBackNone = is_empty os
list_right os _ = false

-- a push adds at its end, a pop takes from its end, and a refused push and a pop that finds none change nothing
abbrev pub list_after : List ObjId → PastCall → List ObjId
list_after os (past.PushFront id) = id ∷ os
list_after os (past.PushBack id) = os ++ id ∷ []
list_after os (past.PopFront id) = without_first os
list_after os (past.PopBack id) = without_last os
list_after os _ = os

-- the sequential list: the ids of its objects, from the front
abbrev pub list_object : Object (List ObjId)
list_object = record { empty = []; is_right = list_right; after = list_after }

-- an object of a tree, with its key
pub record Node : Type 0 where
  pub id : ObjId
  pub key : ℕ

abbrev pub ids_of : List Node → List ObjId
ids_of nodes = map (λ n. n.id) nodes

-- one more node: before the first that has a greater key. Where keys ascend, that is after the last whose key isn't greater
abbrev pub with_node : Node → List Node → List Node
with_node new [] = new ∷ []
with_node new (n ∷ ns) = if nat_lt new.key n.key then new ∷ n ∷ ns else n ∷ with_node new ns

abbrev pub without_node : ObjId → List Node → List Node
without_node id [] = []
without_node id (n ∷ ns) = if same_object n.id id then ns else n ∷ without_node id ns

-- bpf_rbtree_add_impl adds a node that isn't in the tree, and refuses one that is in some list or tree; bpf_rbtree_first answers
-- the least node, and none where the tree is empty; bpf_rbtree_remove takes a node that is in the tree
abbrev pub tree_right : List Node → PastCall → Bool
tree_right ns (past.Add id key) = not (has_object (ids_of ns) id)
tree_right ns (past.AddAlready id key owner) = true
tree_right ns (past.First id) = is_first (ids_of ns) id
tree_right ns past.FirstNone = is_empty (ids_of ns)
tree_right ns (past.Remove id) = has_object (ids_of ns) id
tree_right ns _ = false

-- a refused addition and a look at the first node change nothing
abbrev pub tree_after : List Node → PastCall → List Node
tree_after ns (past.Add id key) = with_node (record { id = id; key = key }) ns
tree_after ns (past.Remove id) = without_node id ns
tree_after ns _ = ns

-- the sequential tree: its nodes from the least key, and among equal keys in the order of their additions
abbrev pub tree_object : Object (List Node)
tree_object = record { empty = []; is_right = tree_right; after = tree_after }

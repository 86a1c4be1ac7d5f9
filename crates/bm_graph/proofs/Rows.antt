-- Rows of a tree, their items, nodes and places, after one more and one less.
use Rattle.std.proofs.Common.{◌≡◌, ℕ, ◌<◌, ◌≤◌, true, false, cond, List, [], ◌∷◌, ◌++◌, Some, None, Option, refl, sym, ap, ◌∙◌, subst, inl, inr}
use Rattle.std.specs.Prelude.{◌==◌, IsSome}
use Rattle.std.proofs.lemmas.Bool.{cases_Bool, eqb-true, eq-eqb, lt-ltb, le-ltb, or_left, or_right}
use Rattle.std.proofs.lemmas.List.{map-append}
use Rattle.bm_journal.specs.declared.ids.ObjId.{ObjId}
use Rattle.bm_tree.specs.Row.{Row, item_at, PlacesDiffer}
use Rattle.bm_tree.specs.Row as row
use Rattle.bm_graph.specs.declared.item.Item.{Item}
use Rattle.bm_graph.specs.Objects.{same_object, has_object, ids_of, with_node, without_node}
use Rattle.bm_graph.specs.Contents.{ids, nodes, item_of, IdsDiffer}
use Rattle.bm_graph.specs.Calls.{KeysAtMost, KeysAbove, KeysAtLeast, KeysAscend}
use Rattle.bm_graph.specs.Sound.{items_of, place_of, KeysHeld}
use Rattle.bm_graph.proofs.Ids.{same_object-refl, same_object-true, same_object-sym, other_first, other_rest}

some_none : {A : Type 0} (a : A) → Some a ≡ None → ⊥
some_none a e = cc

true_false : true ≡ false → ⊥
true_false e = cc

-- an option that is some value isn't none
pub some_apart : {A : Type 0} (o : Option A) → IsSome o → o ≡ None → ⊥
some_apart None s e = absurd (cc)
some_apart (Some a) s e = some_none a e

module _ {T : Type 0} where
  -- the row of an item at a place
  abbrev pub row_of : ℕ → Item T → Row (Item T)
  row_of place item = record { place = place; key = item.key; item = item }

  pub items_of-with : (before after : List (Row (Item T))) (r : Row (Item T)) → items_of (before ++ r ∷ after) ≡ items_of before ++ r.item ∷ items_of after
  items_of-with before after r = map-append (λ (r : Row (Item T)). r.item) before (r ∷ after)

  pub items_of-append : (before after : List (Row (Item T))) → items_of (before ++ after) ≡ items_of before ++ items_of after
  items_of-append before after = map-append (λ (r : Row (Item T)). r.item) before after

  -- nodes have the ids of their items
  pub ids_of-nodes : (items : List (Item T)) → ids_of (nodes items) ≡ ids items
  ids_of-nodes [] = refl
  ids_of-nodes (i ∷ is) = ap (λ x. i.id ∷ x) (ids_of-nodes is)

  -- an id that an item has is among the ids
  pub present : (items : List (Item T)) (id : ObjId) (item : Item T) → item_of items id ≡ Some item → has_object (ids items) id ≡ true
  present [] id item e = absurd (cc)
  present (i ∷ is) id item e = elim (cases_Bool (same_object i.id id)) [
    | inl same ↦ or_left (same_object i.id id) (has_object (ids is) id) same
    | inr apart ↦ or_right (same_object i.id id) (has_object (ids is) id) (present is id item (sym (ap (λ b. cond b (Some i) (item_of is id)) apart) ∙ e))
  ]

  -- the item of an id has this id
  pub item_of-id : (items : List (Item T)) (id : ObjId) (item : Item T) → item_of items id ≡ Some item → item.id ≡ id
  item_of-id [] id item e = absurd (cc)
  item_of-id (i ∷ is) id item e = elim (cases_Bool (same_object i.id id)) [
    | inl same ↦
        let found : Some i ≡ Some item = sym (ap (λ b. cond b (Some i) (item_of is id)) same) ∙ e in
        let it : i ≡ item = cc in
        ap (λ (x : Item T). x.id) (sym it) ∙ same_object-true i.id id same
    | inr apart ↦ item_of-id is id item (sym (ap (λ b. cond b (Some i) (item_of is id)) apart) ∙ e)
  ]

  -- where no item has an id, none in the middle has
  pub other_middle : (before after : List (Item T)) (item : Item T) (id : ObjId) → item_of (before ++ item ∷ after) id ≡ None → same_object item.id id ≡ false
  other_middle [] after item id e = other_first item after id e
  other_middle (b ∷ bs) after item id e = other_middle bs after item id (other_rest b (bs ++ item ∷ after) id e)

  -- keys: the row of an added item stands where its node stands
  pub with_node-at : (before after : List (Row (Item T))) (place : ℕ) (item : Item T) → KeysHeld (before ++ after) → row.KeysAtMost item.key before → row.KeysAbove item.key after → with_node (record { id = item.id; key = item.key }) (nodes (items_of (before ++ after))) ≡ nodes (items_of (before ++ row_of place item ∷ after))
  with_node-at [] [] place item k low high = refl
  with_node-at [] (r ∷ rs) place item k low high =
      ap (λ b. cond b (record { id = item.id; key = item.key } ∷ nodes (items_of (r ∷ rs))) (record { id = r.item.id; key = r.item.key } ∷ with_node (record { id = item.id; key = item.key }) (nodes (items_of rs))))
      (lt-ltb item.key r.item.key (subst (λ (x : ℕ). item.key < x) k.0 high.0))
  with_node-at (b ∷ bs) after place item k low high =
      ap (λ c. cond c (record { id = item.id; key = item.key } ∷ nodes (items_of (b ∷ bs ++ after))) (record { id = b.item.id; key = b.item.key } ∷ with_node (record { id = item.id; key = item.key }) (nodes (items_of (bs ++ after)))))
      (le-ltb item.key b.item.key (subst (λ (x : ℕ). x ≤ item.key) k.0 low.0))
      ∙ ap (λ ns. record { id = b.item.id; key = b.item.key } ∷ ns) (with_node-at bs after place item k.1 low.1 high)

  -- the node of an item that is taken goes
  pub without_node-at : (before after : List (Row (Item T))) (r : Row (Item T)) → IdsDiffer (items_of (before ++ r ∷ after)) → without_node r.item.id (nodes (items_of (before ++ r ∷ after))) ≡ nodes (items_of (before ++ after))
  without_node-at [] after r d = ap (λ b. cond b (nodes (items_of after)) (record { id = r.item.id; key = r.item.key } ∷ without_node r.item.id (nodes (items_of after)))) (same_object-refl r.item.id)
  without_node-at (b ∷ bs) after r d =
      let apart : same_object r.item.id b.item.id ≡ false = other_middle (items_of bs) (items_of after) r.item b.item.id (subst (λ (is : List (Item T)). item_of is b.item.id ≡ None) (items_of-with bs after r) d.0) in
      ap (λ c. cond c (nodes (items_of (bs ++ r ∷ after))) (record { id = b.item.id; key = b.item.key } ∷ without_node r.item.id (nodes (items_of (bs ++ r ∷ after))))) (same_object-sym r.item.id b.item.id apart)
      ∙ ap (λ ns. record { id = b.item.id; key = b.item.key } ∷ ns) (without_node-at bs after r d.1)

  pub KeysHeld-with : (before after : List (Row (Item T))) (place : ℕ) (item : Item T) → KeysHeld (before ++ after) → KeysHeld (before ++ row_of place item ∷ after)
  KeysHeld-with [] after place item k = (refl, k)
  KeysHeld-with (b ∷ bs) after place item k = (k.0, KeysHeld-with bs after place item k.1)

  pub KeysHeld-without : (before after : List (Row (Item T))) (r : Row (Item T)) → KeysHeld (before ++ r ∷ after) → KeysHeld (before ++ after)
  KeysHeld-without [] after r k = k.1
  KeysHeld-without (b ∷ bs) after r k = (k.0, KeysHeld-without bs after r k.1)

  -- no row has an object that no item is
  pub place_of-absent : (rows : List (Row (Item T))) (id : ObjId) → item_of (items_of rows) id ≡ None → place_of rows id ≡ None
  place_of-absent [] id e = refl
  place_of-absent (r ∷ rs) id e =
      ap (λ b. cond b (Some r.place) (place_of rs id)) (other_first r.item (items_of rs) id e) ∙ place_of-absent rs id (other_rest r.item (items_of rs) id e)

  -- places: an added item has its place, and each other keeps its own
  pub place_of-with : (before after : List (Row (Item T))) (place : ℕ) (item : Item T) (q : ObjId) → item_of (items_of (before ++ after)) item.id ≡ None → place_of (before ++ row_of place item ∷ after) q ≡ cond (same_object item.id q) (Some place) (place_of (before ++ after) q)
  place_of-with [] after place item q e = refl
  place_of-with (b ∷ bs) after place item q e = elim (cases_Bool (same_object b.item.id q)) [
    | inl same ↦
        let apart : same_object item.id q ≡ false =
        same_object-sym q item.id (ap (λ x. same_object x item.id) (sym (same_object-true b.item.id q same)) ∙ other_first b.item (items_of (bs ++ after)) item.id e) in
        ap (λ c. cond c (Some b.place) (place_of (bs ++ row_of place item ∷ after) q)) same
        ∙ sym (ap (λ c. cond c (Some b.place) (place_of (bs ++ after) q)) same)
        ∙ sym (ap (λ c. cond c (Some place) (place_of (b ∷ bs ++ after) q)) apart)
    | inr apart ↦
        ap (λ c. cond c (Some b.place) (place_of (bs ++ row_of place item ∷ after) q)) apart
        ∙ place_of-with bs after place item q (other_rest b.item (items_of (bs ++ after)) item.id e)
        ∙ ap (λ x. cond (same_object item.id q) (Some place) x) (sym (ap (λ c. cond c (Some b.place) (place_of (bs ++ after) q)) apart))
  ]

  -- places: an item that is taken has none, and each other keeps its own
  pub place_of-without : (before after : List (Row (Item T))) (r : Row (Item T)) (q : ObjId) → IdsDiffer (items_of (before ++ r ∷ after)) → place_of (before ++ after) q ≡ cond (same_object r.item.id q) None (place_of (before ++ r ∷ after) q)
  place_of-without [] after r q d = elim (cases_Bool (same_object r.item.id q)) [
    | inl same ↦
        place_of-absent after q (subst (λ (x : ObjId). item_of (items_of after) x ≡ None) (same_object-true r.item.id q same) d.0)
        ∙ sym (ap (λ c. cond c None (cond c (Some r.place) (place_of after q))) same)
    | inr apart ↦ sym (ap (λ c. cond c None (cond c (Some r.place) (place_of after q))) apart)
  ]
  place_of-without (b ∷ bs) after r q d = elim (cases_Bool (same_object b.item.id q)) [
    | inl same ↦
        let apart : same_object r.item.id q ≡ false =
        ap (λ x. same_object r.item.id x) (sym (same_object-true b.item.id q same)) ∙ other_middle (items_of bs) (items_of after) r.item b.item.id (subst (λ (is : List (Item T)). item_of is b.item.id ≡ None) (items_of-with bs after r) d.0) in
        ap (λ c. cond c (Some b.place) (place_of (bs ++ after) q)) same
        ∙ sym (ap (λ c. cond c (Some b.place) (place_of (bs ++ r ∷ after) q)) same)
        ∙ sym (ap (λ c. cond c None (place_of (b ∷ bs ++ r ∷ after) q)) apart)
    | inr apart ↦
        ap (λ c. cond c (Some b.place) (place_of (bs ++ after) q)) apart
        ∙ place_of-without bs after r q d.1
        ∙ ap (λ x. cond (same_object r.item.id q) None x) (sym (ap (λ c. cond c (Some b.place) (place_of (bs ++ r ∷ after) q)) apart))
  ]

  -- the item at the place of an object is the object's
  pub item_at-place : (rows : List (Row (Item T))) (id : ObjId) (place : ℕ) → PlacesDiffer rows → place_of rows id ≡ Some place → item_at rows place ≡ item_of (items_of rows) id
  item_at-place [] id place d e = absurd (cc)
  item_at-place (r ∷ rs) id place d e = elim (cases_Bool (same_object r.item.id id)) [
    | inl same ↦
        let found : Some r.place ≡ Some place = sym (ap (λ b. cond b (Some r.place) (place_of rs id)) same) ∙ e in
        let here : r.place ≡ place = cc in
        ap (λ b. cond b (Some r.item) (item_at rs place)) (eq-eqb r.place place here) ∙ sym (ap (λ b. cond b (Some r.item) (item_of (items_of rs) id)) same)
    | inr apart ↦
        let later : place_of rs id ≡ Some place = sym (ap (λ b. cond b (Some r.place) (place_of rs id)) apart) ∙ e in
        let rest = item_at-place rs id place d.1 later in
        ap (λ b. cond b (Some r.item) (item_at rs place)) (elsewhere r rs id place d later)
        ∙ rest
        ∙ sym (ap (λ b. cond b (Some r.item) (item_of (items_of rs) id)) apart)
  ]
    where
      -- a later row with an object is at a later row's place
      at_some : (rs : List (Row (Item T))) (id : ObjId) (place : ℕ) → place_of rs id ≡ Some place → item_at rs place ≡ None → ⊥
      at_some [] id place e n = cc
      at_some (r ∷ rs) id place e n = elim (cases_Bool (r.place == place)) [
        | inl here ↦ some_none r.item (sym (ap (λ b. cond b (Some r.item) (item_at rs place)) here) ∙ n)
        | inr there ↦ elim (cases_Bool (same_object r.item.id id)) [
          | inl same ↦
              let found : Some r.place ≡ Some place = sym (ap (λ b. cond b (Some r.place) (place_of rs id)) same) ∙ e in
              let at : r.place ≡ place = cc in
              true_false (sym (eq-eqb r.place place at) ∙ there)
          | inr apart ↦
              at_some rs id place (sym (ap (λ b. cond b (Some r.place) (place_of rs id)) apart) ∙ e) (sym (ap (λ b. cond b (Some r.item) (item_at rs place)) there) ∙ n)
        ]
      ]

      elsewhere : (r : Row (Item T)) (rs : List (Row (Item T))) (id : ObjId) (place : ℕ) → PlacesDiffer (r ∷ rs) → place_of rs id ≡ Some place → (r.place == place) ≡ false
      elsewhere r rs id place d later = elim (cases_Bool (r.place == place)) [
        | inl here ↦ absurd (at_some rs id place later (subst (λ (x : ℕ). item_at rs x ≡ None) (eqb-true r.place place here) d.0))
        | inr there ↦ there
      ]

  -- an object without a place is no item
  pub item_of-absent : (rows : List (Row (Item T))) (id : ObjId) → place_of rows id ≡ None → item_of (items_of rows) id ≡ None
  item_of-absent [] id e = refl
  item_of-absent (r ∷ rs) id e = elim (cases_Bool (same_object r.item.id id)) [
    | inl same ↦ absurd (some_none r.place (sym (ap (λ b. cond b (Some r.place) (place_of rs id)) same) ∙ e))
    | inr apart ↦
        ap (λ b. cond b (Some r.item) (item_of (items_of rs) id)) apart
        ∙ item_of-absent rs id (sym (ap (λ b. cond b (Some r.place) (place_of rs id)) apart) ∙ e)
  ]

  -- the keys of rows and of their items are the same
  pub keys_at_most : (rows : List (Row (Item T))) (key : ℕ) → KeysHeld rows → row.KeysAtMost key rows → KeysAtMost key (items_of rows)
  keys_at_most [] key k low = tt
  keys_at_most (r ∷ rs) key k low = (subst (λ (x : ℕ). x ≤ key) k.0 low.0, keys_at_most rs key k.1 low.1)

  pub keys_above : (rows : List (Row (Item T))) (key : ℕ) → KeysHeld rows → row.KeysAbove key rows → KeysAbove key (items_of rows)
  keys_above [] key k high = tt
  keys_above (r ∷ rs) key k high = (subst (λ (x : ℕ). key < x) k.0 high.0, keys_above rs key k.1 high.1)

  pub keys_at_least : (rows : List (Row (Item T))) (key : ℕ) → KeysHeld rows → row.KeysAtLeast key rows → KeysAtLeast key (items_of rows)
  keys_at_least [] key k least = tt
  keys_at_least (r ∷ rs) key k least = (subst (λ (x : ℕ). key ≤ x) k.0 least.0, keys_at_least rs key k.1 least.1)

  pub keys_ascend : (rows : List (Row (Item T))) → KeysHeld rows → row.KeysAscend rows → KeysAscend (items_of rows)
  keys_ascend [] k a = tt
  keys_ascend (r ∷ rs) k a =
      (keys_at_least rs r.item.key k.1 (subst (λ (x : ℕ). row.KeysAtLeast x rs) k.0 a.0), keys_ascend rs k.1 a.1)

  pub KeysHeld-left : (before after : List (Row (Item T))) → KeysHeld (before ++ after) → KeysHeld before
  KeysHeld-left [] after k = tt
  KeysHeld-left (b ∷ bs) after k = (k.0, KeysHeld-left bs after k.1)

  pub KeysHeld-right : (before after : List (Row (Item T))) → KeysHeld (before ++ after) → KeysHeld after
  KeysHeld-right [] after k = k
  KeysHeld-right (b ∷ bs) after k = KeysHeld-right bs after k.1

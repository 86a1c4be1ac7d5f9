-- Each call of a tree keeps that its history gives its items.
use Rattle.std.proofs.Common.{◌≡◌, ℕ, true, cond, List, [], ◌∷◌, ◌++◌, length-append, Some, None, refl, sym, ap, ◌∙◌, subst, arith}
use Rattle.std.specs.Prelude.{not}
use Rattle.bm_journal.specs.declared.ids.ObjId.{ObjId}
use Rattle.bm_journal.specs.declared.ids.Tag.{Tag}
use Rattle.bm_journal.specs.declared.past.Past.{Past}
use Rattle.bm_journal.specs.declared.past.PastCall.TheVariants as past
use Rattle.bm_tree.specs.Row.{Row, Inserted, Taken}
use Rattle.bm_graph.specs.declared.item.Item.{Item}
use Rattle.bm_graph.specs.declared.index.Index.{Index}
use Rattle.bm_graph.specs.declared.call.GraphCall.{GraphCall}
use Rattle.bm_graph.specs.declared.call.GraphCall.TheVariants.{PushFront, PushBack, Add}
use Rattle.bm_graph.specs.Objects.{tree_object, same_object, has_object, ids_of}
use Rattle.bm_graph.specs.Contents.{nodes, item_of, IdsDiffer}
use Rattle.bm_graph.specs.Calls.{first_call, first_id, Adds, Removes}
use Rattle.bm_graph.specs.Refused.{refused_call, is_addition}
use Rattle.bm_graph.specs.Index.{place_in, HoldsSame, Changes}
use Rattle.bm_graph.specs.Sound.{items_of, place_of, KeysHeld, IsSoundTree}
use Rattle.bm_graph.proofs.Replaying.{replay_from-append}
use Rattle.bm_graph.proofs.Ids.{same_object-refl, absent, IdsDiffer-with, IdsDiffer-without}
use Rattle.bm_graph.proofs.Rows.{row_of, items_of-with, items_of-append, ids_of-nodes, present, item_of-id, with_node-at, without_node-at, KeysHeld-with, KeysHeld-without, KeysHeld-left, KeysHeld-right, place_of-with, place_of-without, keys_at_most, keys_above}

module _ {T : Type 0} where
  pub sound_empty : (rows : List (Row (Item T))) (index : Index) (history : List Past) → rows ≡ [] → history ≡ [] → ((id : ObjId) → place_in index id ≡ None) → IsSoundTree rows index history
  sound_empty rows index history e h none = rw (e, h) record {
    replays = refl;
    differ = tt;
    keyed = tt;
    indexed = none;
    few = omega arith;
  }

  -- one more entry, which changes nothing
  pub sound_same : (rows : List (Row (Item T))) (index : Index) (history : List Past) (p : Past) → IsSoundTree rows index history → tree_object.is_right (nodes (items_of rows)) p.call ≡ true → tree_object.after (nodes (items_of rows)) p.call ≡ nodes (items_of rows) → IsSoundTree rows index (history ++ p ∷ [])
  sound_same rows index history p s right same = record {
    replays = replay_from-append tree_object [] (nodes (items_of rows)) history p s.replays right ∙ ap Some same;
    differ = s.differ;
    keyed = s.keyed;
    indexed = s.indexed;
    few = omega (arith, s.few, length-append history (p ∷ []));
  }

  -- an addition is refused
  pub sound_refused : (rows : List (Row (Item T))) (index : Index) (history : List Past) (tag : Tag) (call : GraphCall) (id : ObjId) (owner : ℕ) → IsSoundTree rows index history → is_addition call ≡ true → IsSoundTree rows index (history ++ record { tag = tag; call = refused_call call id owner } ∷ [])
  sound_refused rows index history tag PushFront id owner s e = absurd (cc)
  sound_refused rows index history tag PushBack id owner s e = absurd (cc)
  sound_refused rows index history tag (Add key) id owner s e = sound_same rows index history (record { tag = tag; call = past.AddAlready id key owner }) s refl refl

  -- the first node is named, or there is none
  pub sound_first : (rows : List (Row (Item T))) (index : Index) (history : List Past) (tag : Tag) → IsSoundTree rows index history → IsSoundTree rows index (history ++ record { tag = tag; call = first_call (first_id (items_of rows)) } ∷ [])
  sound_first [] index history tag s = sound_same [] index history (record { tag = tag; call = past.FirstNone }) s refl refl
  sound_first (r ∷ rs) index history tag s = sound_same (r ∷ rs) index history (record { tag = tag; call = past.First r.item.id }) s (same_object-refl r.item.id) refl

  -- the index may be made anew
  pub sound_index : (rows : List (Row (Item T))) (old new : Index) (history : List Past) → IsSoundTree rows old history → HoldsSame old new → IsSoundTree rows new history
  sound_index rows old new history s same = record {
    replays = s.replays;
    differ = s.differ;
    keyed = s.keyed;
    indexed = λ id. same id ∙ s.indexed id;
    few = s.few;
  }

  -- an item is added at a place
  pub sound_add : (old new : List (Row (Item T))) (was is : Index) (history : List Past) (tag : Tag) (place : ℕ) (item : Item T) → IsSoundTree old was history → item_of (items_of old) item.id ≡ None → Inserted old new place item.key item → Changes was is item.id (Some place) → IsSoundTree new is (history ++ record { tag = tag; call = past.Add item.id item.key } ∷ [])
  sound_add old new was is history tag place item s none i changes =
      let t : IsSoundTree (i.before ++ i.after) was history = subst (λ (rs : List (Row (Item T))). IsSoundTree rs was history) i.was s in
      let gone : item_of (items_of (i.before ++ i.after)) item.id ≡ None = subst (λ (rs : List (Row (Item T))). item_of (items_of rs) item.id ≡ None) i.was none in
      let entry : Past = record { tag = tag; call = past.Add item.id item.key } in
      rw i.is record {
        replays =
            replay_from-append tree_object [] (nodes (items_of (i.before ++ i.after))) history entry t.replays (ap (λ os. not (has_object os item.id)) (ids_of-nodes (items_of (i.before ++ i.after))) ∙ ap not (absent (items_of (i.before ++ i.after)) item.id gone))
            ∙ ap Some (with_node-at i.before i.after place item t.keyed i.low i.high);
        differ = rw items_of-with (IdsDiffer-with (items_of i.before) (items_of i.after) item (rw items_of-append at t.differ) (rw items_of-append at gone));
        keyed = KeysHeld-with i.before i.after place item t.keyed;
        indexed = λ q. changes q ∙ ap (λ x. cond (same_object item.id q) (Some place) x) (t.indexed q) ∙ sym (place_of-with i.before i.after place item q gone);
        few = omega (arith, t.few, length-append history (entry ∷ []), length-append i.before i.after, length-append i.before (row_of place item ∷ i.after));
      }

  pub adds : (old new : List (Row (Item T))) (place : ℕ) (item : Item T) → KeysHeld old → Inserted old new place item.key item → Adds (items_of old) (items_of new) item
  adds old new place item keyed i =
      let k : KeysHeld (i.before ++ i.after) = subst KeysHeld i.was keyed in
      record {
        before = items_of i.before;
        after = items_of i.after;
        was = ap items_of i.was ∙ items_of-append i.before i.after;
        is = ap items_of i.is ∙ items_of-with i.before i.after (row_of place item);
        low = keys_at_most i.before item.key (KeysHeld-left i.before i.after k) i.low;
        high = keys_above i.after item.key (KeysHeld-right i.before i.after k) i.high;
      }

  -- the item of an object is taken
  pub sound_remove : (old new : List (Row (Item T))) (was is : Index) (history : List Past) (tag : Tag) (id : ObjId) (place key : ℕ) (item : Item T) → IsSoundTree old was history → item_of (items_of old) id ≡ Some item → Taken old new place key item → Changes was is id None → IsSoundTree new is (history ++ record { tag = tag; call = past.Remove id } ∷ [])
  sound_remove old new was is history tag id place key item s found i changes =
      let same : item.id ≡ id = item_of-id (items_of old) id item found in
      let r : Row (Item T) = record { place = place; key = key; item = item } in
      let t : IsSoundTree (i.before ++ r ∷ i.after) was history = subst (λ (rs : List (Row (Item T))). IsSoundTree rs was history) i.was s in
      let there : has_object (ids_of (nodes (items_of (i.before ++ r ∷ i.after)))) id ≡ true =
      ap (λ os. has_object os id) (ids_of-nodes (items_of (i.before ++ r ∷ i.after))) ∙ present (items_of (i.before ++ r ∷ i.after)) id item (ap (λ rs. item_of (items_of rs) id) (sym i.was) ∙ found) in
      let entry : Past = record { tag = tag; call = past.Remove id } in
      let differ : IdsDiffer (items_of i.before ++ item ∷ items_of i.after) = rw items_of-with at t.differ in
      rw i.is record {
        replays =
            replay_from-append tree_object [] (nodes (items_of (i.before ++ r ∷ i.after))) history entry t.replays there
            ∙ ap Some (rw (← same) (without_node-at i.before i.after r t.differ));
        differ = rw items_of-append (IdsDiffer-without (items_of i.before) (items_of i.after) item differ);
        keyed = KeysHeld-without i.before i.after r t.keyed;
        indexed = λ q. changes q ∙ ap (λ x. cond (same_object id q) None x) (t.indexed q) ∙ ap (λ x. cond (same_object x q) None (place_of (i.before ++ r ∷ i.after) q)) (sym same) ∙ sym (place_of-without i.before i.after r q t.differ);
        few = omega (arith, t.few, length-append history (entry ∷ []), length-append i.before i.after, length-append i.before (r ∷ i.after));
      }

  pub removes : (old new : List (Row (Item T))) (place key : ℕ) (item : Item T) → Taken old new place key item → Removes (items_of old) (items_of new) item
  removes old new place key item i = record {
    before = items_of i.before;
    after = items_of i.after;
    was = ap items_of i.was ∙ items_of-with i.before i.after (record { place = place; key = key; item = item });
    is = ap items_of i.is ∙ items_of-append i.before i.after;
  }

-- Each call of a list keeps that its history gives its items.
use Rattle.std.proofs.Common.{◌≡◌, ℕ, true, false, List, [], ◌∷◌, ◌++◌, Some, None, Option, refl, sym, ap, ◌∙◌, subst, append-nil, ◌+◌, ◌-◌, length, take, drop, length-drop, arith}
use Rattle.std.specs.Prelude.{not, option_to_list, MatchOption}
use Rattle.std.proofs.lemmas.List.{map-append, nil_from_length}
use Rattle.bm_journal.specs.declared.ids.ObjId.{ObjId}
use Rattle.bm_journal.specs.declared.ids.Tag.{Tag}
use Rattle.bm_journal.specs.declared.past.Past.{Past}
use Rattle.bm_journal.specs.declared.past.PastCall.TheVariants as past
use Rattle.bm_graph.specs.declared.item.Item.{Item}
use Rattle.bm_graph.specs.Objects.{list_object, is_last, without_last}
use Rattle.bm_graph.specs.Contents.{ids, item_of}
use Rattle.bm_graph.specs.Calls.{front_call, back_call, TakesFirst, TakesLast}
use Rattle.bm_graph.specs.Refused.{refused_call, is_addition}
use Rattle.bm_graph.specs.declared.call.GraphCall.{GraphCall}
use Rattle.bm_graph.specs.declared.call.GraphCall.TheVariants.{PushFront, PushBack, Add}
use Rattle.bm_graph.specs.Sound.{IsSoundList}
use Rattle.bm_graph.proofs.Replaying.{replay_from-append}
use Rattle.bm_graph.proofs.Ids.{same_object-refl, absent, IdsDiffer-with, IdsDiffer-without}

is_last-append : (os : List ObjId) (id : ObjId) → is_last (os ++ id ∷ []) id ≡ true
is_last-append [] id = same_object-refl id
is_last-append (o ∷ []) id = same_object-refl id
is_last-append (o ∷ p ∷ os) id = is_last-append (p ∷ os) id

without_last-append : (os : List ObjId) (id : ObjId) → without_last (os ++ id ∷ []) ≡ os
without_last-append [] id = refl
without_last-append (o ∷ []) id = refl
without_last-append (o ∷ p ∷ os) id = ap (λ x. o ∷ x) (without_last-append (p ∷ os) id)

module _ {T : Type 0} where
  pub sound_new : (items : List (Item T)) (history : List Past) → items ≡ [] → history ≡ [] → IsSoundList items history
  sound_new items history e h = rw (e, h) record { replays = refl; differ = tt }

  -- an item is pushed at the front
  pub sound_push_front : (items : List (Item T)) (history : List Past) (tag : Tag) (item : Item T) → IsSoundList items history → item_of items item.id ≡ None → IsSoundList (item ∷ items) (history ++ record { tag = tag; call = past.PushFront item.id } ∷ [])
  sound_push_front items history tag item s e = record {
    replays = replay_from-append list_object [] (ids items) history (record { tag = tag; call = past.PushFront item.id }) s.replays (ap not (absent items item.id e));
    differ = (e, s.differ);
  }

  -- an item is pushed at the back
  pub sound_push_back : (items : List (Item T)) (history : List Past) (tag : Tag) (item : Item T) → IsSoundList items history → item_of items item.id ≡ None → IsSoundList (items ++ item ∷ []) (history ++ record { tag = tag; call = past.PushBack item.id } ∷ [])
  sound_push_back items history tag item s e = record {
    replays =
        replay_from-append list_object [] (ids items) history (record { tag = tag; call = past.PushBack item.id }) s.replays (ap not (absent items item.id e))
        ∙ ap Some (sym (map-append (λ (i : Item T). i.id) items (item ∷ [])));
    differ = IdsDiffer-with items [] item (rw append-nil s.differ) (rw append-nil e);
  }

  -- an entry that changes nothing
  pub sound_already : (items : List (Item T)) (history : List Past) (p : Past) → IsSoundList items history → list_object.is_right (ids items) p.call ≡ true → list_object.after (ids items) p.call ≡ ids items → IsSoundList items (history ++ p ∷ [])
  sound_already items history p s right same = record {
    replays = replay_from-append list_object [] (ids items) history p s.replays right ∙ ap Some same;
    differ = s.differ;
  }

  -- a push is refused
  pub sound_refused : (items : List (Item T)) (history : List Past) (tag : Tag) (call : GraphCall) (id : ObjId) (owner : ℕ) → IsSoundList items history → is_addition call ≡ false → IsSoundList items (history ++ record { tag = tag; call = refused_call call id owner } ∷ [])
  sound_refused items history tag PushFront id owner s e = sound_already items history (record { tag = tag; call = past.PushFrontAlready id owner }) s refl refl
  sound_refused items history tag PushBack id owner s e = sound_already items history (record { tag = tag; call = past.PushBackAlready id owner }) s refl refl
  sound_refused items history tag (Add key) id owner s e = absurd (cc)

  -- what a pop of the deque says
  pub takes_first : (old new : List (Item T)) (popped : Option (Item T)) → old ≡ option_to_list popped ++ new → new ≡ drop 1 old → TakesFirst old new popped
  takes_first old new None e d =
      let none_old : old ≡ [] = nil_from_length old (omega (arith, ap length e, ap length d, length-drop 1 old)) in
      (none_old, sym e ∙ none_old)
  takes_first old new (Some item) e d = e

  pub takes_last : (old new : List (Item T)) (popped : Option (Item T)) (n m : ℕ) → old ≡ new ++ option_to_list popped → new ≡ take (n - 1) old → MatchOption popped ((n ≡ 0) × (m ≡ 0)) (λ _. m + 1 ≡ n) → TakesLast old new popped
  takes_last old new None n m e d l =
      let none_new : new ≡ [] = d ∙ ap (λ k. take (k - 1) old) l.0 in
      (e ∙ rw append-nil none_new, none_new)
  takes_last old new (Some item) n m e d l = e

  -- the first item is taken, or there is none
  pub sound_pop_front : (old new : List (Item T)) (history : List Past) (tag : Tag) (popped : Option (Item T)) → IsSoundList old history → TakesFirst old new popped → IsSoundList new (history ++ record { tag = tag; call = front_call popped } ∷ [])
  sound_pop_front old new history tag None s t =
      let e : new ≡ old = t.1 ∙ sym t.0 in
      rw e (sound_already old history (record { tag = tag; call = past.PopFrontNone }) s (rw t.0 refl) refl)
  sound_pop_front old new history tag (Some item) s t =
      let was : IsSoundList (item ∷ new) history = subst (λ (is : List (Item T)). IsSoundList is history) t s in
      record {
        replays = replay_from-append list_object [] (ids (item ∷ new)) history (record { tag = tag; call = past.PopFront item.id }) was.replays (same_object-refl item.id);
        differ = was.differ.1;
      }

  -- the last item is taken, or there is none
  pub sound_pop_back : (old new : List (Item T)) (history : List Past) (tag : Tag) (popped : Option (Item T)) → IsSoundList old history → TakesLast old new popped → IsSoundList new (history ++ record { tag = tag; call = back_call popped } ∷ [])
  sound_pop_back old new history tag None s t =
      let e : new ≡ old = t.1 ∙ sym t.0 in
      rw e (sound_already old history (record { tag = tag; call = past.PopBackNone }) s (rw t.0 refl) refl)
  sound_pop_back old new history tag (Some item) s t =
      let was : IsSoundList (new ++ item ∷ []) history = subst (λ (is : List (Item T)). IsSoundList is history) t s in
      let split : ids (new ++ item ∷ []) ≡ ids new ++ item.id ∷ [] = map-append (λ (i : Item T). i.id) new (item ∷ []) in
      record {
        replays =
            replay_from-append list_object [] (ids new ++ item.id ∷ []) history (record { tag = tag; call = past.PopBack item.id }) (was.replays ∙ ap Some split) (is_last-append (ids new) item.id)
            ∙ ap Some (without_last-append (ids new) item.id);
        differ = rw append-nil at (IdsDiffer-without new [] item was.differ);
      }

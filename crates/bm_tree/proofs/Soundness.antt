-- The arena's invariant, after an insert and after a take.
use Rattle.std.proofs.Common.{◌≡◌, ◌≢◌, ℕ, zero, suc, ◌+◌, ◌-◌, ◌<◌, ◌≤◌, List, [], ◌∷◌, ◌++◌, length, set, Option, Some, None, refl, sym, ap, ◌∙◌, subst, inl, inr, arith, length-append, length-set}
use Rattle.std.proofs.lemmas.List.{get_or_append_left}
use Rattle.std.specs.Prelude.{slice_get}
use Rattle.bm_tree.specs.declared.links.Link.{Link}
use Rattle.bm_tree.specs.declared.arena.Slot.{Slot}
use Rattle.bm_tree.specs.declared.arena.Slot.TheVariants.{Free, Full}
use Rattle.bm_tree.specs.Links.{none, nil, link}
use Rattle.bm_tree.specs.Shape.{Shape, leaf, node, places, Stands, count, Holds, order_of, Sorted, Rooted, below}
use Rattle.bm_tree.specs.Paths.{Entered}
use Rattle.bm_tree.specs.Colours.{Coloured, depth, IsShallow}
use Rattle.bm_tree.proofs.Near.{near}
use Rattle.bm_tree.proofs.Colouring.{coloured_push}
use Rattle.bm_tree.proofs.Depth.{shallow}
use Rattle.bm_tree.specs.Row.{first_place, item_at, Inserted, Taken, KeysAscend, PlacesDiffer}
use Rattle.bm_tree.specs.Rows.{key_in, key_of, full_in, item_in, rows, Chain, IsSound}
use Rattle.bm_tree.proofs.Trees.{same-eq, same-cases, some_or_none, count-append}
use Rattle.bm_tree.proofs.Frames.{order_of-is, shape_of-is}
use Rattle.bm_tree.proofs.Descent.{sorted_put, sorted_drop, sorted_same}
use Rattle.bm_tree.proofs.Slots.{get-set_same, get-set_other, get-push_same, get-push_other, get_past, full_cases, Filled, rows-append, rows-same, rows-cons, length-rows, item_at-absent, item_at-rows, rows-low, rows-high, chain_free, Chain-same, full_within, rows-ascend, rows-differ, AllFree}

-- links that are pushed change no tree
pub Stands-push : (ls : List Link) (v : Link) (up at : ℕ) (s : Shape) → Stands ls up at s → Stands (ls ++ v ∷ []) up at s
Stands-push ls v up at leaf h = h
Stands-push ls v up at (node l p r) h =
    let e : link (ls ++ v ∷ []) p ≡ link ls p = get_or_append_left ls (v ∷ []) nil p h.1 in
    let e_left : (link (ls ++ v ∷ []) p).left ≡ (link ls p).left = ap (λ (z : Link). z.left) e in
    let e_right : (link (ls ++ v ∷ []) p).right ≡ (link ls p).right = ap (λ (z : Link). z.right) e in
    (h.0, omega (arith, h.1, length-append ls (v ∷ [])), ap (λ (z : Link). z.parent) e ∙ h.2, rw e_left (Stands-push ls v p _ l h.3), rw e_right (Stands-push ls v p _ r h.4))

pub Holds-push : (ls : List Link) (v : Link) (root : ℕ) (order : List ℕ) → length ls < none → Holds ls root order → Holds (ls ++ v ∷ []) root order
Holds-push ls v root order few h = record {
  shape = h.shape;
  stands = Stands-push ls v none root h.shape h.stands;
  in_order = h.in_order;
  once = h.once;
  fits = omega (arith, h.fits, length-append ls (v ∷ []));
  room = omega (arith, few, length-append ls (v ∷ []));
}

pub Holds-empty : Holds [] none []
Holds-empty = record { shape = leaf; stands = refl; in_order = refl; once = λ q. omega arith; fits = omega arith; room = omega arith }

-- a list that has a place is cut there
pub record SplitAt (p : ℕ) (xs : List ℕ) : Type 0 where
  pub us : List ℕ
  pub vs : List ℕ
  pub is : xs ≡ us ++ p ∷ vs

pub split_at : (p : ℕ) (xs : List ℕ) → 1 ≤ count p xs → SplitAt p xs
split_at p [] i = absurd (omega (arith, i))
split_at p (x ∷ xs) i = elim (same-cases p x) [
  | inl e ↦ record { us = []; vs = xs; is = ap (λ z. z ∷ xs) (sym e.0) }
  | inr d ↦ let s = split_at p xs (omega (arith, i, d.1)) in record { us = x ∷ s.us; vs = s.vs; is = ap (λ zs. x ∷ zs) s.is }
]

module _ {T : Type 0} where
  pub sound_new : IsSound {T = T} [] [] none none 0
  sound_new = record {
    order = [];
    holds = Holds-empty;
    coloured = record { height = λ q. 0; ends = refl; level = λ q i. absurd (omega (arith, i)); calm = λ q i. absurd (omega (arith, i)) };
    lengths = refl;
    full = λ q. refl;
    chain = [];
    chained = refl;
    chain_once = λ q. omega arith;
    total = refl;
    counted = refl;
    sorted = tt;
  }

  pub sound_filled : (ls : List Link) (slots : List (Slot T)) (root free len : ℕ) (s : IsSound ls slots root free len) → Filled slots s.order
  sound_filled ls slots root free len s = λ q i. omega (arith, s.full q, s.holds.once q, i)

  pub sound_order : (ls : List Link) (slots : List (Slot T)) (root free len : ℕ) (s : IsSound ls slots root free len) → order_of ls root ≡ s.order
  sound_order ls slots root free len s = order_of-is ls root s.order s.holds

  pub sound_holds : (ls : List Link) (slots : List (Slot T)) (root free len : ℕ) → IsSound ls slots root free len → Holds ls root (order_of ls root)
  sound_holds ls slots root free len s = subst (Holds ls root) (sym (sound_order ls slots root free len s)) s.holds

  pub sound_len : (ls : List Link) (slots : List (Slot T)) (root free len : ℕ) → IsSound ls slots root free len → len ≡ length (rows slots (order_of ls root))
  sound_len ls slots root free len s =
      s.counted ∙ sym (length-rows slots s.order (sound_filled ls slots root free len s)) ∙ ap (λ xs. length (rows slots xs)) (sym (sound_order ls slots root free len s))

  pub sound_item : (ls : List Link) (slots : List (Slot T)) (root free len p : ℕ) → IsSound ls slots root free len → item_at (rows slots (order_of ls root)) p ≡ item_in (slice_get slots p)
  sound_item ls slots root free len p s =
      ap (λ xs. item_at (rows slots xs) p) (sound_order ls slots root free len s) ∙ item_at-rows slots s.order p s.full s.holds.once

  pub sound_rooted : (ls : List Link) (slots : List (Slot T)) (root free len : ℕ) → IsSound ls slots root free len → Rooted ls root
  sound_rooted ls slots root free len s = record {
    up = none;
    shape = s.holds.shape;
    stands = s.holds.stands;
    fits = omega (arith, s.holds.fits, ap length s.holds.in_order);
    room = s.holds.room;
  }

  pub sound_least : (ls : List Link) (slots : List (Slot T)) (root free len p : ℕ) → IsSound ls slots root free len → (rest : List ℕ) × (places (below ls root) ≡ p ∷ rest) → first_place (rows slots (order_of ls root)) ≡ Some p
  sound_least ls slots root free len p s first =
      let shown : order_of ls root ≡ p ∷ first.0 = first.1 in
      let whole : s.order ≡ p ∷ first.0 = sym (sound_order ls slots root free len s) ∙ shown in
      let o = full_cases (slice_get slots p) (sound_filled ls slots root free len s p (omega (arith, ap (count p) whole, same-eq p p refl))) in
      ap (λ xs. first_place (rows slots xs)) shown ∙ ap first_place (rows-cons slots p o.key o.item first.0 o.is)

  pub sound_none : (ls : List Link) (slots : List (Slot T)) (root free len : ℕ) → IsSound ls slots root free len → root ≡ none → first_place (rows slots (order_of ls root)) ≡ None
  sound_none ls slots root free len s e =
      let empty : s.order ≡ [] = sym s.holds.in_order ∙ no_places s.holds.shape s.holds.stands in
      ap (λ xs. first_place (rows slots xs)) (sound_order ls slots root free len s ∙ empty)
    where
      no_places : (t : Shape) → Stands ls none root t → places t ≡ []
      no_places leaf st = refl
      no_places (node l p r) st = absurd (omega (arith, e, st.0, st.1, s.holds.room))

  -- one slot is filled
  pub record Filling (old new : List (Slot T)) (p key : ℕ) (item : T) : Type 0 where
    pub kept : (q : ℕ) → q ≢ p → slice_get new q ≡ slice_get old q
    pub here : slice_get new p ≡ Some (Full key item)
    pub was : full_in (slice_get old p) ≡ 0

  filling_apart : (old new : List (Slot T)) (p key : ℕ) (item : T) (order : List ℕ) → Filling old new p key item → ((q : ℕ) → count q order ≡ full_in (slice_get old q)) → (q : ℕ) → 1 ≤ count q order → slice_get new q ≡ slice_get old q
  filling_apart old new p key item order f full q i = f.kept q (λ e. omega (arith, i, full p, f.was, ap (λ z. count z order) e))

  pub sound_inserted : (ls ms : List Link) (slots slots2 : List (Slot T)) (root root2 free free2 len p key : ℕ) (item : T) (s : IsSound ls slots root free len) → Filling slots slots2 p key item → Entered (key_of slots2) key p s.order ms root2 → length slots2 ≡ length ms → (chain2 : List ℕ) → Chain slots2 free2 chain2 → ((q : ℕ) → count q chain2 ≤ 1) → len + 1 + length chain2 ≡ length slots2 → Coloured ms (order_of ms root2) → IsSound ms slots2 root2 free2 (len + 1)
  sound_inserted ls ms slots slots2 root root2 free free2 len p key item s f e el chain2 chained2 once2 total2 coloured =
      let kf = key_of slots2 in
      let p_key : kf p ≡ key = ap key_in f.here in
      let sorted2 : Sorted kf s.order = sorted_same (key_of slots) kf s.order (λ q i. ap key_in (filling_apart slots slots2 p key item s.order f s.full q i)) s.sorted in
      record {
        order = e.xs ++ p ∷ e.ys;
        holds = e.holds;
        coloured = subst (Coloured ms) (order_of-is ms root2 (e.xs ++ p ∷ e.ys) e.holds) coloured;
        lengths = el;
        full = λ q. elim (same-cases q p) [
          | inl k ↦ omega (arith, k.1, count-append q e.xs (p ∷ e.ys), count-append q e.xs e.ys, ap (count q) e.parts, s.full q, ap (λ z. full_in (slice_get slots z)) k.0, f.was, ap (λ z. full_in (slice_get slots2 z)) k.0, ap full_in f.here)
          | inr d ↦ omega (arith, d.1, count-append q e.xs (p ∷ e.ys), count-append q e.xs e.ys, ap (count q) e.parts, s.full q, ap full_in (f.kept q d.0))
        ];
        chain = chain2;
        chained = chained2;
        chain_once = once2;
        total = total2;
        counted = omega (arith, s.counted, ap length e.parts, length-append e.xs e.ys, length-append e.xs (p ∷ e.ys));
        sorted = sorted_put kf e.xs e.ys p (subst (Sorted kf) e.parts sorted2) (λ q i. omega (arith, e.low q i, p_key)) (λ q i. omega (arith, e.high q i, p_key));
      }

  pub rows_inserted : (ls ms : List Link) (slots slots2 : List (Slot T)) (root root2 free len p key : ℕ) (item : T) (s : IsSound ls slots root free len) → Filling slots slots2 p key item → Entered (key_of slots2) key p s.order ms root2 → Inserted (rows slots (order_of ls root)) (rows slots2 (order_of ms root2)) p key item
  rows_inserted ls ms slots slots2 root root2 free len p key item s f e =
      let same_rows : rows slots2 s.order ≡ rows slots s.order = rows-same slots slots2 s.order (filling_apart slots slots2 p key item s.order f s.full) in
      let filled2 : Filled slots2 s.order = λ q i. ap full_in (filling_apart slots slots2 p key item s.order f s.full q i) ∙ sound_filled ls slots root free len s q i in
      let in_xs : (q : ℕ) → 1 ≤ count q e.xs → 1 ≤ count q s.order = λ q i. omega (arith, i, ap (count q) e.parts, count-append q e.xs e.ys) in
      let in_ys : (q : ℕ) → 1 ≤ count q e.ys → 1 ≤ count q s.order = λ q i. omega (arith, i, ap (count q) e.parts, count-append q e.xs e.ys) in
      record {
        before = rows slots2 e.xs;
        after = rows slots2 e.ys;
        was = ap (rows slots) (sound_order ls slots root free len s) ∙ sym same_rows ∙ ap (rows slots2) e.parts ∙ rows-append slots2 e.xs e.ys;
        is = ap (rows slots2) (order_of-is ms root2 _ e.holds) ∙ rows-append slots2 e.xs (p ∷ e.ys) ∙ ap (λ zs. rows slots2 e.xs ++ zs) (rows-cons slots2 p key item e.ys f.here);
        low = rows-low slots2 e.xs key (λ q i. filled2 q (in_xs q i)) e.low;
        high = rows-high slots2 e.ys key (λ q i. filled2 q (in_ys q i)) e.high;
        was_free = ap (λ xs. item_at (rows slots xs) p) (sound_order ls slots root free len s) ∙ item_at-absent slots s.order p (sound_filled ls slots root free len s) (omega (arith, s.full p, f.was));
      }

  pub sound_taken : (ls ms : List Link) (slots : List (Slot T)) (root root2 free len p key : ℕ) (item : T) (s : IsSound ls slots root free len) (xs ys : List ℕ) → s.order ≡ xs ++ p ∷ ys → Holds ms root2 (xs ++ ys) → Coloured ms (xs ++ ys) → length ms ≡ length ls → slice_get slots p ≡ Some (Full key item) → IsSound ms (set slots p (Free free)) root2 p (len - 1)
  sound_taken ls ms slots root root2 free len p key item s xs ys order h coloured el found =
      let slots2 : List (Slot T) = set slots p (Free free) in
      let full_here : full_in (slice_get slots p) ≡ 1 = ap full_in found in
      let lone : count p s.chain ≡ 0 = elim (some_or_none (count p s.chain)) [
        | inl i ↦ absurd (omega (arith, full_here, chain_free slots free s.chain p s.chained i))
        | inr z ↦ z
      ] in
      let bound : p < length slots = full_within slots p full_here in
      let now : slice_get slots2 p ≡ Some (Free free) = get-set_same slots p (Free free) bound in
      let kept : (q : ℕ) → q ≢ p → slice_get slots2 q ≡ slice_get slots q = λ q d. get-set_other slots p q (Free free) d in
      let order_len : length s.order ≡ length xs + suc (length ys) = ap length order ∙ length-append xs (p ∷ ys) in
      let only : count p (xs ++ ys) ≡ 0 = omega (arith, s.holds.once p, ap (count p) order, count-append p xs (p ∷ ys), count-append p xs ys, same-eq p p refl) in
      record {
        order = xs ++ ys;
        holds = h;
        coloured = coloured;
        lengths = length-set slots p (Free free) ∙ s.lengths ∙ sym el;
        full = λ q. elim (same-cases q p) [
          | inl k ↦ omega (arith, only, ap (λ z. count z (xs ++ ys)) k.0, ap (λ z. full_in (slice_get slots2 z)) k.0, ap full_in now)
          | inr d ↦ omega (arith, d.1, s.full q, ap (count q) order, count-append q xs (p ∷ ys), count-append q xs ys, ap full_in (kept q d.0))
        ];
        chain = p ∷ s.chain;
        chained = (refl, (free, now, Chain-same slots slots2 free s.chain (λ q i. kept q (λ e. omega (arith, i, lone, ap (λ z. count z s.chain) e))) s.chained));
        chain_once = λ q. elim (same-cases q p) [
          | inl k ↦ omega (arith, k.1, lone, ap (λ z. count z s.chain) k.0)
          | inr d ↦ omega (arith, d.1, s.chain_once q)
        ];
        total = omega (arith, s.total, s.counted, order_len, length-set slots p (Free free));
        counted = omega (arith, s.counted, order_len, length-append xs ys);
        sorted = sorted_same (key_of slots) (key_of slots2) (xs ++ ys) (λ q i. ap key_in (kept q (λ e. omega (arith, i, only, ap (λ z. count z (xs ++ ys)) e)))) (sorted_drop (key_of slots) xs ys p (subst (Sorted (key_of slots)) order s.sorted));
      }

  pub rows_taken : (ls ms : List Link) (slots : List (Slot T)) (root root2 free len p key : ℕ) (item : T) (s : IsSound ls slots root free len) (xs ys : List ℕ) → s.order ≡ xs ++ p ∷ ys → Holds ms root2 (xs ++ ys) → slice_get slots p ≡ Some (Full key item) → Taken (rows slots (order_of ls root)) (rows (set slots p (Free free)) (order_of ms root2)) p key item
  rows_taken ls ms slots root root2 free len p key item s xs ys order h found =
      let slots2 : List (Slot T) = set slots p (Free free) in
      let only : count p (xs ++ ys) ≡ 0 = omega (arith, s.holds.once p, ap (count p) order, count-append p xs (p ∷ ys), count-append p xs ys, same-eq p p refl) in
      let same_rows : rows slots2 (xs ++ ys) ≡ rows slots (xs ++ ys) = rows-same slots slots2 (xs ++ ys) (λ q i. get-set_other slots p q (Free free) (λ e. omega (arith, i, only, ap (λ z. count z (xs ++ ys)) e))) in
      record {
        before = rows slots xs;
        after = rows slots ys;
        was = ap (rows slots) (sound_order ls slots root free len s ∙ order) ∙ rows-append slots xs (p ∷ ys) ∙ ap (λ zs. rows slots xs ++ zs) (rows-cons slots p key item ys found);
        is = ap (rows slots2) (order_of-is ms root2 (xs ++ ys) h) ∙ same_rows ∙ rows-append slots xs ys;
      }

  pub sound_present : (ls : List Link) (slots : List (Slot T)) (root free len p : ℕ) (s : IsSound ls slots root free len) → full_in (slice_get slots p) ≡ 1 → 1 ≤ count p (order_of ls root)
  sound_present ls slots root free len p s e = omega (arith, s.full p, e, ap (count p) (sound_order ls slots root free len s))

  -- the order is cut at a place that holds an item
  pub sound_split : (ls : List Link) (slots : List (Slot T)) (root free len p : ℕ) (s : IsSound ls slots root free len) → full_in (slice_get slots p) ≡ 1 → SplitAt p s.order
  sound_split ls slots root free len p s e = split_at p s.order (omega (arith, s.full p, e))

  -- a place is filled, and not yet in the order
  pub record Ready (ls : List Link) (slots : List (Slot T)) (root free len : ℕ) (s : IsSound ls slots root free len) (ls2 : List Link) (slots2 : List (Slot T)) (p key : ℕ) (item : T) (free2 : ℕ) : Type 0 where
    pub order : order_of ls2 root ≡ s.order
    pub holds : Holds ls2 root (order_of ls2 root)
    pub coloured : Coloured ls2 (order_of ls2 root)
    pub sorted : Sorted (key_of slots2) (order_of ls2 root)
    pub fresh : count p (order_of ls2 root) ≡ 0
    pub inside : p < length ls2
    pub few : length (order_of ls2 root) < length ls2
    pub filling : Filling slots slots2 p key item
    pub lengths : length slots2 ≡ length ls2
    pub chain2 : List ℕ
    pub chained2 : Chain slots2 free2 chain2
    pub once2 : (q : ℕ) → count q chain2 ≤ 1
    pub total2 : len + 1 + length chain2 ≡ length slots2

  ready_from : (ls : List Link) (slots : List (Slot T)) (root free len : ℕ) (s : IsSound ls slots root free len) (ls2 : List Link) (slots2 : List (Slot T)) (p key : ℕ) (item : T) (free2 : ℕ) → Holds ls2 root s.order → Coloured ls2 s.order → Filling slots slots2 p key item → length slots2 ≡ length ls2 → p < length ls2 → (chain2 : List ℕ) → Chain slots2 free2 chain2 → ((q : ℕ) → count q chain2 ≤ 1) → len + 1 + length chain2 ≡ length slots2 → Ready ls slots root free len s ls2 slots2 p key item free2
  ready_from ls slots root free len s ls2 slots2 p key item free2 h coloured f el inside chain2 chained2 once2 total2 =
      let order : order_of ls2 root ≡ s.order = order_of-is ls2 root s.order h in
      let sorted2 : Sorted (key_of slots2) s.order = sorted_same (key_of slots) (key_of slots2) s.order (λ q i. ap key_in (filling_apart slots slots2 p key item s.order f s.full q i)) s.sorted in
      record {
        order = order;
        holds = subst (Holds ls2 root) (sym order) h;
        coloured = subst (Coloured ls2) (sym order) coloured;
        sorted = subst (Sorted (key_of slots2)) (sym order) sorted2;
        fresh = omega (arith, ap (count p) order, s.full p, f.was);
        inside = inside;
        few = omega (arith, ap length order, s.counted, total2, el);
        filling = f;
        lengths = el;
        chain2 = chain2;
        chained2 = chained2;
        once2 = once2;
        total2 = total2;
      }

  pub chain_end : (slots : List (Slot T)) (free : ℕ) (xs : List ℕ) → length slots ≤ none → free ≡ none → Chain slots free xs → xs ≡ []
  chain_end slots free [] room e c = refl
  chain_end slots free (x ∷ xs) room e c = absurd (some_none (sym c.1.1 ∙ get_past slots x (omega (arith, room, e, c.0))))
    where
      some_none : {A : Type 0} {a : A} → Some a ≡ None → ⊥
      some_none e = cc

  -- at the end of the arena, where no place is free
  pub ready_end : (ls : List Link) (slots : List (Slot T)) (root free len key : ℕ) (item : T) (s : IsSound ls slots root free len) → free ≡ none → length (rows slots (order_of ls root)) < none → Ready ls slots root free len s (ls ++ nil ∷ []) (slots ++ Full key item ∷ []) (length slots) key item free
  ready_end ls slots root free len key item s e room =
      let no_chain : s.chain ≡ [] = chain_end slots free s.chain (omega (arith, s.holds.room, s.lengths)) e s.chained in
      let total : length slots ≡ len = omega (arith, s.total, ap length no_chain) in
      let few : length ls < none = omega (arith, total, s.lengths, room, sound_len ls slots root free len s) in
      ready_from ls slots root free len s (ls ++ nil ∷ []) (slots ++ Full key item ∷ []) (length slots) key item free
      (Holds-push ls nil root s.order few s.holds)
      (coloured_push ls nil s.order few (near ls root s.order s.holds) s.coloured)
      (record {
        kept = λ q d. get-push_other slots q (Full key item) d;
        here = get-push_same slots (Full key item);
        was = ap full_in (get_past slots (length slots) (omega arith));
      })
      (omega (arith, length-append slots (Full key item ∷ []), length-append ls (nil ∷ []), s.lengths))
      (omega (arith, length-append ls (nil ∷ []), s.lengths))
      [] e (λ q. omega arith) (omega (arith, total, length-append slots (Full key item ∷ [])))

  -- what the first free place is
  pub record FirstFree (slots : List (Slot T)) (free : ℕ) (chain : List ℕ) : Type 0 where
    pub next : ℕ
    pub rest : List ℕ
    pub is : chain ≡ free ∷ rest
    pub here : slice_get slots free ≡ Some (Free next)
    pub chained : Chain slots next rest

  pub first_free : (slots : List (Slot T)) (free : ℕ) (xs : List ℕ) → free ≢ none → Chain slots free xs → FirstFree slots free xs
  first_free slots free [] ne c = absurd (ne c)
  first_free slots free (x ∷ xs) ne c =
      record { next = c.1.0; rest = xs; is = ap (λ z. z ∷ xs) (sym c.0); here = ap (slice_get slots) c.0 ∙ c.1.1; chained = c.1.2 }

  free_within : (os : List (Slot T)) (q n : ℕ) → slice_get os q ≡ Some (Free n) → q < length os
  free_within [] q n e = absurd (cc)
  free_within (o ∷ os) zero n e = omega arith
  free_within (o ∷ os) (suc q) n e = omega (arith, free_within os q n e)

  pub sound_free : (ls : List Link) (slots : List (Slot T)) (root free len : ℕ) (s : IsSound ls slots root free len) → free ≢ none → (free < length slots) × ((next : ℕ) × (slice_get slots free ≡ Some (Free next)))
  sound_free ls slots root free len s ne =
      let f = first_free slots free s.chain ne s.chained in
      (free_within slots free f.next f.here, (f.next, f.here))

  -- at a free place
  pub ready_free : (ls : List Link) (slots : List (Slot T)) (root free len key : ℕ) (item : T) (free2 : ℕ) (s : IsSound ls slots root free len) → free ≢ none → slice_get slots free ≡ Some (Free free2) → Ready ls slots root free len s ls (set slots free (Full key item)) free key item free2
  ready_free ls slots root free len key item free2 s ne found =
      let f = first_free slots free s.chain ne s.chained in
      let same_next : f.next ≡ free2 = injected f.next free2 (slice_get slots free) f.here found in
      let slots2 : List (Slot T) = set slots free (Full key item) in
      let bound : free < length slots = free_within slots free free2 found in
      let alone : count free f.rest ≡ 0 = omega (arith, s.chain_once free, ap (count free) f.is, same-eq free free refl) in
      let kept : (q : ℕ) → q ≢ free → slice_get slots2 q ≡ slice_get slots q = λ q d. get-set_other slots free q (Full key item) d in
      let chained2 : Chain slots2 f.next f.rest = Chain-same slots slots2 f.next f.rest (λ q i. kept q (λ e. omega (arith, i, alone, ap (λ z. count z f.rest) e))) f.chained in
      ready_from ls slots root free len s ls slots2 free key item free2 s.holds s.coloured
      (record { kept = kept; here = get-set_same slots free (Full key item) bound; was = ap full_in found })
      (length-set slots free (Full key item) ∙ s.lengths)
      (omega (arith, bound, s.lengths))
      f.rest (subst (λ (z : ℕ). Chain slots2 z f.rest) same_next chained2)
      (λ q. omega (arith, s.chain_once q, ap (count q) f.is))
      (omega (arith, s.total, ap length f.is, length-set slots free (Full key item)))
    where
      injected : (a b : ℕ) (o : Option (Slot T)) → o ≡ Some (Free a) → o ≡ Some (Free b) → a ≡ b
      injected a b o e f = cc

  pub ready_sound : (ls : List Link) (slots : List (Slot T)) (root free len : ℕ) (s : IsSound ls slots root free len) (ls2 ms : List Link) (slots2 : List (Slot T)) (p key : ℕ) (item : T) (free2 root2 : ℕ) (r : Ready ls slots root free len s ls2 slots2 p key item free2) → Entered (key_of slots2) key p (order_of ls2 root) ms root2 → length ms ≡ length ls2 → Coloured ms (order_of ms root2) → IsSound ms slots2 root2 free2 (len + 1)
  ready_sound ls slots root free len s ls2 ms slots2 p key item free2 root2 r e el coloured =
      sound_inserted ls ms slots slots2 root root2 free free2 len p key item s r.filling
      (subst (λ (xs : List ℕ). Entered (key_of slots2) key p xs ms root2) r.order e)
      (r.lengths ∙ sym el) r.chain2 r.chained2 r.once2 r.total2 coloured

  pub ready_rows : (ls : List Link) (slots : List (Slot T)) (root free len : ℕ) (s : IsSound ls slots root free len) (ls2 ms : List Link) (slots2 : List (Slot T)) (p key : ℕ) (item : T) (free2 root2 : ℕ) (r : Ready ls slots root free len s ls2 slots2 p key item free2) → Entered (key_of slots2) key p (order_of ls2 root) ms root2 → Inserted (rows slots (order_of ls root)) (rows slots2 (order_of ms root2)) p key item
  ready_rows ls slots root free len s ls2 ms slots2 p key item free2 root2 r e =
      rows_inserted ls ms slots slots2 root root2 free len p key item s r.filling
      (subst (λ (xs : List ℕ). Entered (key_of slots2) key p xs ms root2) r.order e)

  pub sound_shallow : (ls : List Link) (slots : List (Slot T)) (root free len : ℕ) → IsSound ls slots root free len → IsShallow (depth (below ls root)) (length (rows slots (order_of ls root)))
  sound_shallow ls slots root free len s =
      let hold = s.holds in
      let here : below ls root ≡ hold.shape = shape_of-is ls none root hold.shape (length ls) hold.room hold.stands (omega (arith, hold.fits, ap length hold.in_order)) in
      let size : length (rows slots (order_of ls root)) ≡ length s.order = sym (sound_len ls slots root free len s) ∙ s.counted in
      let p = shallow ls root s.order hold s.coloured in
      (p.0, omega (arith, p.1, ap depth here), omega (arith, p.2, size))

  pub sound_ascend : (ls : List Link) (slots : List (Slot T)) (root free len : ℕ) → IsSound ls slots root free len → KeysAscend (rows slots (order_of ls root))
  sound_ascend ls slots root free len s =
      subst (λ (xs : List ℕ). KeysAscend (rows slots xs)) (sym (sound_order ls slots root free len s)) (rows-ascend slots s.order (sound_filled ls slots root free len s) s.sorted)

  pub sound_differ : (ls : List Link) (slots : List (Slot T)) (root free len : ℕ) → IsSound ls slots root free len → PlacesDiffer (rows slots (order_of ls root))
  sound_differ ls slots root free len s =
      subst (λ (xs : List ℕ). PlacesDiffer (rows slots xs)) (sym (sound_order ls slots root free len s)) (rows-differ slots s.order (sound_filled ls slots root free len s) s.holds.once)

  -- with no rows, no slot holds an item
  pub sound_empty : (ls : List Link) (slots : List (Slot T)) (root free len : ℕ) → IsSound ls slots root free len → rows slots (order_of ls root) ≡ [] → AllFree slots
  sound_empty ls slots root free len s e q =
      let none_left : length s.order ≡ 0 = omega (arith, s.counted, sound_len ls slots root free len s, ap length e) in
      omega (arith, s.full q, nothing s.order none_left q)
    where
      nothing : (xs : List ℕ) → length xs ≡ 0 → (q : ℕ) → count q xs ≡ 0
      nothing [] z q = refl
      nothing (x ∷ xs) z q = absurd (omega (arith, z))

  -- where no place is free, each place has an item
  pub sound_full : (ls : List Link) (slots : List (Slot T)) (root free len : ℕ) → IsSound ls slots root free len → free ≡ none → (length slots ≡ len) × (length ls ≡ len)
  sound_full ls slots root free len s e =
      let no_chain : s.chain ≡ [] = chain_end slots free s.chain (omega (arith, s.holds.room, s.lengths)) e s.chained in
      let total : length slots ≡ len = omega (arith, s.total, ap length no_chain) in
      (total, omega (arith, total, s.lengths))

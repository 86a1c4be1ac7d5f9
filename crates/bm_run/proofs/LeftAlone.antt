-- Entries of other processors leave a processor alone, and so does a turn of another one.
use Rattle.std.specs.Prelude.{◌≡◌, ◌≢◌, ◌<◌, ◌≤◌, ◌+◌, ◌*◌, ◌/◌, ◌%◌, ◌&&◌, ℕ, zero, suc, Bool, true, false, nat_lt, is_some, if◌then◌else◌, length, map, Option, None, Some, List, [], ◌∷◌, get_or, slice_index, sum_by}
use Rattle.std.specs.List.{concat}
use Rattle.std.proofs.Common.{refl, sym, ap, ◌∙◌, subst, arith, inl, inr, eqb, eq-eqb}
use Rattle.std.proofs.lemmas.Bool.{lt-ltb}
use Rattle.std.proofs.lemmas.Bool.Decides.{eqb_tells}
use Rattle.std.proofs.lemmas.List.{get_or-set_other}
use Rattle.std.proofs.lemmas.List.Sums.{sum_by-cons}
use Rattle.bm_journal.specs.declared.ids.Domain.{Domain}
use Rattle.bm_journal.specs.declared.ids.Domain.TheVariants.{Plain, Tracing}
use Rattle.bm_journal.specs.declared.entry.Entry.{Entry}
use Rattle.bm_journal.specs.declared.entry.Entry.TheVariants as entry
use Rattle.bm_law.specs.Places.{Stack, list_at, Free, Extra, Extra_delayed, Delayed, First, Ready, Second}
use Rattle.bm_law.specs.Stands.{in_row, times}
use Rattle.bm_law.specs.State.{Row, State, seen, seen_row, seven_lists}
use Rattle.bm_law.proofs.Stands.{times-append, times-seven}
use Rattle.bm_law_order.specs.ByDomain.{of}
use Rattle.bm_law_order.specs.Lives.{Life}
use Rattle.bm_law_order.specs.Orders.{Order, by, part_of, shared_over}
use Rattle.bm_law_order.specs.Shared.{Shared}
use Rattle.bm_law_order.specs.Story.{Story, deeds, lines, plainly}
use Rattle.bm_law_order.specs.Words.{Words, with_word, words_after}
use Rattle.bm_law_order.proofs.BarePool.{stocked-bare}
use Rattle.bm_law_places.specs.Placed.{IsUntouched, IsWellPlaced, LeavesAlone}
use Rattle.bm_law_places.specs.World.{AllFound, World, world_after, world_over}
use Rattle.bm_law_places.proofs.Apart.{leaves-alone, others-part}
use Rattle.bm_law_places.proofs.Standing.{shared-of}
use Rattle.bm_page.specs.Stock.{stocked_at}
use Rattle.bm_page.specs.UnitState.{UnitState}
use Rattle.bm_page.specs.declared.units.Stocked.{Stocked}
use Rattle.bm_grace.specs.Known.{side}
use Rattle.bm_grace.specs.PlainState.{domain_in}
use Rattle.bm_post.specs.PostState.{Parcels, inbox, times_in, waits}
use Rattle.bm_post.specs.Rights.{numbers}
use Rattle.bm_cache.specs.Each.{Each}
use Rattle.bm_cache.specs.Tokens.{Token, number_of}
use Rattle.bm_world.specs.LivingState.{LivingState, known_living}
use Rattle.bm_world.specs.Slots.{object_at, unit_of}
use Rattle.bm_world.specs.declared.slots.Object.{Object}
use Rattle.bm_world.specs.Standings.{standing_at}
use Rattle.bm_world.specs.Told.{IsSideOf, told_boxes}
use Rattle.bm_world.specs.ToldLiving.{life_of, told_living}
use Rattle.bm_run.specs.LeftAlone.{IsLeftAlone, IsTurnOf, KeepsFor, StaysPut}
use Rattle.bm_run.specs.SoFar.{at_turn}
use Rattle.bm_run.proofs.TurnTaken.{side-at}
use Rattle.bm_run.specs.Spared.{Has}
use Rattle.bm_run.proofs.Spares.{is-with, story-spares}

-- ---- words

others-word : (d e : Domain) (p q w : ℕ) (words : Words) → q ≢ p → slice_index (of d (with_word p e w words)) q ≡ slice_index (of d words) q
others-word Plain Plain p q w words ne = get_or-set_other words.plain p q w 0 ne
others-word Tracing Tracing p q w words ne = get_or-set_other words.tracing p q w 0 ne
others-word Plain Tracing p q w words ne = refl
others-word Tracing Plain p q w words ne = refl

word-one : (d : Domain) (p q l : ℕ) (e : Entry) (words : Words) → q ≢ p → slice_index (of d (words_after p l e words)) q ≡ slice_index (of d words) q
word-one d p q l (entry.In e w) words ne = others-word d e p q w words ne
word-one d p q l (entry.Out e w) words ne = others-word d e p q w words ne
word-one d p q l _ words ne = refl

some-none : {A : Type 0} (x : A) (xs : List A) → x ∷ xs ≡ [] → ⊥
some-none x xs e = cc

-- entries of others leave a processor's words
word-over : (d : Domain) (q : ℕ) (o : Order) (w : World) → part_of q o ≡ [] → slice_index (of d (world_over o w).shared.words) q ≡ slice_index (of d w.shared.words) q
word-over d q [] w none = refl
word-over d q (e ∷ o) w none = elim (eqb_tells e.processor q) [
  | inl y ↦ absurd (some-none _ _ (rw y.0 at none))
  | inr y ↦ word-over d q o (world_after e.processor e.level e.entry w) (rw y.0 at none) ∙ word-one d e.processor q e.level e.entry w.shared.words (λ s. y.1 (sym s))
]

processors-over : (o : Order) (w : World) → (world_over o w).shared.processors ≡ w.shared.processors
processors-over [] w = refl
processors-over (e ∷ o) w = processors-over o (world_after e.processor e.level e.entry w)

-- ---- inboxes

-- a number stands in parcels as often as in all their units
times-parcels : (n : ℕ) (parcels : Parcels) → times n (concat (map numbers parcels)) ≡ times_in n parcels
times-parcels n [] = refl
times-parcels n (us ∷ parcels) =
    let a = times-append n (numbers us) (concat (map numbers parcels)) in
    let b = times-parcels n parcels in
    let c = sum_by-cons (λ (units : List UnitState). times n (numbers units)) us parcels in
    omega (arith, a, b, c)

sums-same : {A : Type 0} (f : A → ℕ) (d : A) (xs ys : List A) → length xs ≡ length ys → ((i : ℕ) → i < length xs → f (get_or xs i d) ≡ f (get_or ys i d)) → sum_by f xs ≡ sum_by f ys
sums-same f d [] [] e h = refl
sums-same f d [] (y ∷ ys) e h = absurd (omega (arith, e))
sums-same f d (x ∷ xs) [] e h = absurd (omega (arith, e))
sums-same f d (x ∷ xs) (y ∷ ys) e h =
    let a = sum_by-cons f x xs in
    let b = sum_by-cons f y ys in
    let first = h 0 (omega arith) in
    let rest = sums-same f d xs ys (omega (arith, e)) (λ i lt. h (suc i) (omega (arith, lt))) in
    omega (arith, a, b, first, rest)

boxes-told : (world : LivingState) (p c : ℕ) → p < 8 → c < 11 → told_boxes world.side.post p c ≡ map numbers (inbox p c world.side.post)
boxes-told world p c less few =
    ap (λ b. if b && nat_lt c 11 then map numbers (inbox p c world.side.post) else []) (lt-ltb p 8 less)
    ∙ ap (λ b. if b then map numbers (inbox p c world.side.post) else []) (lt-ltb c 11 few)

module _ (before now : World) (a w : LivingState) (is : before.shared ≡ plainly (told_living a)) (then_is : now.shared ≡ plainly (told_living w)) where
  box-same : (n p c : ℕ) → p < 8 → c < 11 → times n (concat (now.shared.boxes p c)) ≡ times n (concat (before.shared.boxes p c)) → times_in n (inbox p c w.side.post) ≡ times_in n (inbox p c a.side.post)
  box-same n p c less few same =
      sym (times-parcels n (inbox p c w.side.post))
      ∙ (ap (λ x. times n (concat x)) (sym (boxes-told w p c less few))
      ∙ (ap (λ (s : Shared). times n (concat (s.boxes p c))) (sym then_is)
      ∙ (same
      ∙ (ap (λ (s : Shared). times n (concat (s.boxes p c))) is
      ∙ (ap (λ x. times n (concat x)) (boxes-told a p c less few)
      ∙ times-parcels n (inbox p c a.side.post))))))

  waits-same : (n : ℕ) → length a.side.post.inboxes ≡ 88 → length w.side.post.inboxes ≡ 88 → ((p c : ℕ) → times n (concat (now.shared.boxes p c)) ≡ times n (concat (before.shared.boxes p c))) → waits n w.side.post.inboxes ≡ waits n a.side.post.inboxes
  waits-same n e f same =
      sums-same (times_in n) [] w.side.post.inboxes a.side.post.inboxes (omega (arith, e, f)) (λ i lt.
      let at : 11 * (i / 11) + i % 11 ≡ i = omega arith in
      let less : i / 11 < 8 = omega (arith, lt, f) in
      let few : i % 11 < 11 = omega arith in
      subst (λ k. times_in n (get_or w.side.post.inboxes k []) ≡ times_in n (get_or a.side.post.inboxes k [])) at (box-same n (i / 11) (i % 11) less few (same (i / 11) (i % 11))))

  -- ---- one unit

  lives-told : (x : Option Object) → is_some (life_of x) ≡ is_some (unit_of x)
  lives-told None = refl
  lives-told (Some object) = refl

  put-of : (n : ℕ) → length a.side.post.inboxes ≡ 88 → length w.side.post.inboxes ≡ 88 → standing_at w.standings n ≡ standing_at a.standings n → IsUntouched n before now → StaysPut n a w
  put-of n e f standing u = record {
    out = ap (λ (x : Stocked). x.out) (sym (stocked-bare w.side.post.pool.units n))
        ∙ (ap (λ (s : Shared). (stocked_at s.pool.units n).out) (sym then_is)
        ∙ (u.out
        ∙ (ap (λ (s : Shared). (stocked_at s.pool.units n).out) is
        ∙ ap (λ (x : Stocked). x.out) (stocked-bare a.side.post.pool.units n))));
    inboxes = waits-same n e f u.inboxes;
    lives = sym (lives-told (object_at w.slots n))
        ∙ (ap (λ (s : Shared). is_some (s.lives.holds n)) (sym then_is)
        ∙ (ap (λ (x : Option Life). is_some x) u.holds
        ∙ (ap (λ (s : Shared). is_some (s.lives.holds n)) is
        ∙ lives-told (object_at a.slots n))));
    begun = ap (λ (s : Shared). s.lives.begun n) (sym then_is) ∙ (u.begun ∙ ap (λ (s : Shared). s.lives.begun n) is);
    standing = standing;
  }

  -- ---- words of the side

  word-told : (d : Domain) (q : ℕ) → a.side.grace.processor ≡ q → w.side.grace.processor ≡ q → slice_index (of d now.shared.words) q ≡ slice_index (of d before.shared.words) q → (side d (known_living w)).word ≡ (side d (known_living a)).word
  word-told Plain q e f same =
      ap (slice_index w.side.grace.plain.words) f
      ∙ (ap (λ (s : Shared). slice_index s.words.plain q) (sym then_is) ∙ (same ∙ (ap (λ (s : Shared). slice_index s.words.plain q) is ∙ ap (slice_index a.side.grace.plain.words) (sym e))))
  word-told Tracing q e f same =
      ap (slice_index w.side.grace.tracing.words) f
      ∙ (ap (λ (s : Shared). slice_index s.words.tracing q) (sym then_is) ∙ (same ∙ (ap (λ (s : Shared). slice_index s.words.tracing q) is ∙ ap (slice_index a.side.grace.tracing.words) (sym e))))

-- ---- the units of a processor

more-times : (b : Bool) (k : ℕ) → 0 < k → 0 < (if b then 1 else 0) + k
more-times true k h = omega arith
more-times false k h = omega (arith, h)

-- a unit of a list is in it
times-at : (us : List Token) (i : ℕ) (d : Token) → i < length us → 0 < times (get_or us i d).number (map number_of us)
times-at [] i d lt = absurd (omega (arith, lt))
times-at (u ∷ us) zero d lt = rw (eq-eqb u.number u.number refl) (omega arith)
times-at (u ∷ us) (suc i) d lt =
    let rest = times-at us i d (omega (arith, lt)) in
    let v = get_or us i d in
    more-times (eqb v.number u.number) (times v.number (map number_of us)) rest

in-seven : (n : ℕ) (k : Stack) (r : Row ℕ) → 0 < times n (list_at k r) → 0 < times n (seven_lists r)
in-seven n k r h = subst (λ x. 0 < x) (sym (times-seven n r)) (go k h)
  where
    go : (k : Stack) → 0 < times n (list_at k r) → 0 < in_row n r
    go Free h = omega (arith, h)
    go Extra h = omega (arith, h)
    go Extra_delayed h = omega (arith, h)
    go Delayed h = omega (arith, h)
    go First h = omega (arith, h)
    go Ready h = omega (arith, h)
    go Second h = omega (arith, h)

list-seen : (k : Stack) (r : Row Token) → list_at k (seen_row number_of r) ≡ map number_of (list_at k r)
list-seen Free r = refl
list-seen Extra r = refl
list-seen Extra_delayed r = refl
list-seen Delayed r = refl
list-seen First r = refl
list-seen Ready r = refl
list-seen Second r = refl

-- what is so of each number that a state has is so of each of its units
pub each-had : (P : ℕ → Type 0) (s : State Token) → ((n : ℕ) → Has n (seen number_of s) → P n) → Each (λ c k u. P u.number) (λ u. P u.number) s
each-had P s h = record {
  lists = λ c k i u lt.
      let us = list_at k (s.rows c) in
      h (get_or us i u).number (inl (c, in-seven (get_or us i u).number k (seen_row number_of (s.rows c)) (subst (λ xs. 0 < times (get_or us i u).number xs) (sym (list-seen k (s.rows c))) (times-at us i u lt))));
  hands = λ l i u lt. h (get_or (s.sides l).hand i u).number (inr (l, times-at (s.sides l).hand i u lt));
}

-- ---- the processor

-- An order without entries of processor q, in which each entry finds what it needs, leaves q alone, where the units that it has wait for
-- what they waited for, and it may begin as many periods.
pub left-alone : (q : ℕ) (o : Order) (before : World) (a w : LivingState) (s : State Token) →
    part_of q o ≡ [] → IsWellPlaced before → AllFound o before → before.shared ≡ plainly (told_living a) → (world_over o before).shared ≡ plainly (told_living w) → before.lists q ≡ seen number_of s → IsSideOf q a.side → IsSideOf q w.side →
    ((d : Domain) → (side d (known_living a)).begins ≤ (side d (known_living w)).begins) →
    a.asked ≤ w.asked →
    ((n : ℕ) → Has n (seen number_of s) → standing_at w.standings n ≡ standing_at a.standings n) →
    IsLeftAlone s a w
left-alone q o before a w s none placed found is then_is lists x y begins asked standing =
    let now : World = world_over o before in
    let alone : LeavesAlone q before now = leaves-alone q o before none placed found in
    record {
      processors = ap (λ (z : Shared). z.processors) (sym then_is) ∙ (processors-over o before ∙ ap (λ (z : Shared). z.processors) is);
      processor = y.grace_is ∙ sym x.grace_is;
      words = λ d. word-told before now a w is then_is d q x.grace_is y.grace_is (word-over d q o before none);
      begins = begins;
      asked = asked;
      units = each-had (λ n. StaysPut n a w) s (λ n h. put-of before now a w is then_is n x.boxes y.boxes (standing n h) (alone.units n (is-with q n before (subst (Has n) (sym lists) h))));
    }

-- ---- a turn

-- A turn of processor p leaves another one alone, for which its acts keep what isn't told.
pub turn-left : (p q : ℕ) → q ≢ p → (story : Story) (places : World) (a w : LivingState) (s : State Token) → IsTurnOf p story places a w → KeepsFor q (deeds story) a w → places.lists q ≡ seen number_of s → q < a.side.grace.processors → IsLeftAlone s (at_turn q a) (at_turn q w)
turn-left p q ne story places a w s t k lists turn =
    let o = by p (lines story) in
    let then_is : (world_over o places).shared ≡ plainly (told_living w) = shared-of o places ∙ (ap (shared_over o) t.told ∙ t.leads.now_is) in
    let as_many : w.side.grace.processors ≡ a.side.grace.processors = ap (λ (z : Shared). z.processors) (sym then_is) ∙ (processors-over o places ∙ ap (λ (z : Shared). z.processors) t.told) in
    left-alone q o places (at_turn q a) (at_turn q w) s (others-part p q (lines story) ne) t.placed t.found t.told then_is lists
    (side-at q p a turn t.begins_his) (side-at q p w (subst (λ n. q < n) (sym as_many) turn) t.ends_his)
    (λ d. by-domain d (k.begins d))
    k.asked
    (λ n h. k.standings n (story-spares p q n ne story places t.placed (subst (Has n) (sym lists) h) t.found))
  where
    by-domain : (d : Domain) → slice_index (domain_in d a.side.grace).begins q ≤ slice_index (domain_in d w.side.grace).begins q → (side d (known_living (at_turn q a))).begins ≤ (side d (known_living (at_turn q w))).begins
    by-domain Plain h = h
    by-domain Tracing h = h

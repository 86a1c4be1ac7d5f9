-- The exchanges of a slot follow one another along an order, and so those of its logs form a chain.
use Rattle.std.proofs.Common.{◌≡◌, ◌≢◌, ℕ, List, [], ◌∷◌, ◌++◌, length, Some, refl, sym, ◌∙◌, ap, subst, arith, inl, inr}
use Rattle.std.proofs.lemmas.Bool.{cases_Bool, cases_lt}
use Rattle.std.proofs.lemmas.Bool.Decides.{eqb_tells}
use Rattle.std.proofs.lemmas.List.{get_or_past}
use Rattle.std.proofs.lemmas.Slice.Eq.{bytes_eq-Decides}
use Rattle.std.specs.Str.{bytes_eq}
use Rattle.bm_journal.specs.declared.entry.Entry.{Entry}
use Rattle.bm_journal.specs.declared.entry.Entry.TheVariants as entry
use Rattle.bm_law.specs.Lists.{Log}
use Rattle.bm_law_order.specs.Orders.{AllFit, Order, part_of}
use Rattle.bm_law_laid.specs.OrderOf.{IsOrderOf}
use Rattle.bm_law_objects.specs.Gathered.{gathered}
use Rattle.bm_law_objects.specs.Objects.{IsOwned, Owned, OwnedFit, Slot, calls_after, nothing_owned, objects_after, owned_after, tag_after}
use Rattle.bm_law_objects.specs.SlotChain.{Exchange, Follow, SlotChain, exchange_of, exchanges, exchanges_over, of_processor}
use Rattle.bm_law_objects.proofs.Gathering.{part-past, gathered-kept}

abbrev FollowSlot : Slot → List Exchange → Type 0
FollowSlot x xs = Follow x.held x.by xs

-- what follows after an entry follows before it, with the exchange that the entry is
follow-one : (slot : List ℕ) (p l : ℕ) (e : Entry) (s : Owned) (xs : List Exchange) → OwnedFit p l e s → FollowSlot ((objects_after p l e s.objects).slots slot) xs → FollowSlot (s.objects.slots slot) (exchange_of slot p (s.objects.calls p) (l, e) ++ xs)
follow-one slot p l (entry.Xchg name put was by) s xs f h = elim (cases_Bool (bytes_eq name slot)) [
  | inl y ↦
      (let same : name ≡ slot = (bytes_eq-Decides name slot).0 y in
      let then : Follow put (Some (tag_after p (s.objects.calls p))) xs = rw y at h in
      let held : was ≡ (s.objects.slots slot).held = subst (λ n. was ≡ (s.objects.slots n).held) same f.was_is in
      let put_by : by ≡ (s.objects.slots slot).by = subst (λ n. by ≡ (s.objects.slots n).by) same f.by_is in
      rw y ((held, put_by), then))
  | inr n ↦ (let then : FollowSlot (s.objects.slots slot) xs = rw n at h in rw n then)
]
follow-one slot p l _ s xs f h = h

pub follow-over : (slot : List ℕ) (o : Order) (s : Owned) → AllFit owned_after OwnedFit o s → Follow (s.objects.slots slot).held (s.objects.slots slot).by (exchanges_over slot o s.objects.calls)
follow-over slot [] s h = tt
follow-over slot (e ∷ o) s h =
    let now : Owned = owned_after e.processor e.level e.entry s in
    follow-one slot e.processor e.level e.entry s (exchanges_over slot o now.objects.calls) h.0 (follow-over slot o now h.1)

-- ---- of each processor

pub of-append : (p : ℕ) (xs ys : List Exchange) → of_processor p (xs ++ ys) ≡ of_processor p xs ++ of_processor p ys
of-append p [] ys = refl
of-append p (x ∷ xs) ys = elim (eqb_tells x.tag.processor p) [ inl y ↦ rw y.0 (ap (λ zs. x ∷ zs) (of-append p xs ys)) | inr y ↦ rw y.0 (of-append p xs ys) ]

of-own : (slot : List ℕ) (p n : ℕ) (e : ℕ × Entry) → of_processor p (exchange_of slot p n e) ≡ exchange_of slot p n e
of-own slot p n (l, entry.Xchg name put was by) = elim (cases_Bool (bytes_eq name slot)) [
  | inl y ↦ rw y (elim (eqb_tells p p) [ inl z ↦ rw z.0 refl | inr z ↦ absurd (z.1 refl) ])
  | inr y ↦ rw y refl
]
of-own slot p n (l, _) = refl

of-other : (slot : List ℕ) (p q n : ℕ) (e : ℕ × Entry) → q ≢ p → of_processor p (exchange_of slot q n e) ≡ []
of-other slot p q n (l, entry.Xchg name put was by) ne = elim (cases_Bool (bytes_eq name slot)) [
  | inl y ↦ rw y (elim (eqb_tells q p) [ inl z ↦ absurd (ne z.1) | inr z ↦ rw z.0 refl ])
  | inr y ↦ rw y refl
]
of-other slot p q n (l, _) ne = refl

over-parts : (slot : List ℕ) (p : ℕ) (o : Order) (calls : ℕ → ℕ) → of_processor p (exchanges_over slot o calls) ≡ gathered calls_after (exchange_of slot p) (calls p) (part_of p o)
over-parts slot p o calls = gathered-kept calls_after (exchange_of slot) of_processor (λ p. refl) of-append (of-own slot) (of-other slot) p o calls

pub logs-chain : (slot : List ℕ) (logs : List Log) (o : Order) → IsOrderOf logs o → IsOwned o → SlotChain slot logs
logs-chain slot logs o is owned = record {
  chain = exchanges_over slot o (λ p. 0);
  follow = follow-over slot o nothing_owned owned;
  parts = λ p. over-parts slot p o (λ q. 0) ∙ ap (exchanges slot p) (elim (cases_lt p (length logs)) [
    | inl lt ↦ is.parts p lt
    | inr past ↦ part-past (length logs) p o is.below (λ lt. omega (arith, lt, past)) ∙ sym (get_or_past logs p [] past)
  ]);
}

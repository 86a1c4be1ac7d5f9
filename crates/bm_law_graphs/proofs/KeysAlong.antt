-- The key of an addition is the first value with which its object was made.
use Rattle.std.proofs.Common.{◌≡◌, ◌⊎◌, ◌<◌, ℕ, Option, List, [], ◌∷◌, ◌++◌, length, get_or, None, Some, refl, sym, ◌∙◌, ap, subst, arith, inl, inr}
use Rattle.std.specs.List.{slice_get}
use Rattle.std.specs.Str.{bytes_eq}
use Rattle.std.proofs.lemmas.Bool.{cases_Bool}
use Rattle.std.proofs.lemmas.Bool.Decides.{eqb_tells}
use Rattle.bm_journal.specs.declared.ids.Tag.{Tag}
use Rattle.bm_journal.specs.declared.entry.Entry.{Entry}
use Rattle.bm_journal.specs.declared.entry.Entry.TheVariants as entry
use Rattle.bm_journal.specs.declared.past.Past.{Past}
use Rattle.bm_law.specs.Lists.{Log}
use Rattle.bm_law_lives.specs.Together.{Each}
use Rattle.bm_law_order.specs.Orders.{AllFit, Order, over}
use Rattle.bm_law_laid.specs.OrderOf.{IsOrderOf}
use Rattle.bm_law_objects.specs.Gathered.{AreLast, IsLast, OneOf, itself, last_call, no_call}
use Rattle.bm_law_objects.specs.Objects.{Asked, Made, Objects, asking_after, made_after, made_of, with_made}
use Rattle.bm_law_objects.specs.ReadsLaw.{Object, Read, Wrote, all_objects, asked_by, given_by, last_object, object_of, objects_over}
use Rattle.bm_law_objects.proofs.Gathering.{gathered-one, next, one-left, one-right}
use Rattle.bm_law_objects.proofs.Replies.{under-point, under-same}
use Rattle.bm_law_graphs.specs.Calls.{GraphCall, graph_call, object}
use Rattle.bm_law_graphs.specs.Keys.{KeysLaw, first_field, key_read}
use Rattle.bm_law_graphs.specs.Shelves.{HasKey, IsShelved, KeyFits, Shelved, ShelvedFit, Shelves, called, call_in, entry_of, guarded_after, key_of, nothing_shelved, shelved_after, tag_in}

-- ---- what is asked for is the last call for an object

under-entry : (p l : ℕ) (e : Entry) (asking last : ℕ → ℕ → Option Asked) → AreLast itself asking last → AreLast itself (asking_after p l e asking) (next (last_call asked_by) (record { processor = p; level = l; entry = e }) last)
under-entry p l (entry.New name values) asking last h = under-point itself p l (Some (record { type_name = name; values = values })) (Some (record { type_name = name; values = values })) asking last h refl
under-entry p l (entry.Given u life) asking last h = under-point itself p l None None asking last h tt
under-entry p l (entry.GivenAfter u life stamp seen) asking last h = under-point itself p l None None asking last h tt
under-entry p l entry.Empty asking last h = under-point itself p l None None asking last h tt
under-entry p l (entry.Busy active) asking last h = under-point itself p l None None asking last h tt
under-entry p l _ asking last h = under-same itself p l asking last h

-- ---- what units were made of

abbrev IsMade : Read → (ℕ → Option Made) → Type 0
IsMade r made = OneOf (Wrote r) (last_object r.unit (made r.unit))

given-made : (r : Read) (u life : ℕ) (asking last : Option Asked) (made : ℕ → Option Made) → IsLast asking last → IsMade r (with_made u life asking made) → OneOf (Wrote r) (object_of u life last) ⊎ IsMade r made
given-made r u life None last made h w = elim (eqb_tells r.unit u) [
  | inl y ↦ (let none : OneOf (Wrote r) [] = rw y.0 at w in absurd none)
  | inr y ↦ inr (rw y.0 at w)
]
given-made r u life (Some a) last made h w = elim (eqb_tells r.unit u) [
  | inl y ↦
      (let here : OneOf (Wrote r) (last_object r.unit (made_of life (Some a))) = rw y.0 at w in
      inl (subst (λ x. OneOf (Wrote r) (object_of u life x)) (sym h) (subst (λ v. OneOf (Wrote r) (object_of v life (Some a))) y.1 here)))
  | inr y ↦ inr (rw y.0 at w)
]

made-one : (r : Read) (p l : ℕ) (e : Entry) (s : Objects) (last : ℕ → ℕ → Option Asked) → AreLast itself s.asking last → IsMade r (made_after e (s.asking p l) s.made) → OneOf (Wrote r) (given_by (last p) (l, e)) ⊎ IsMade r s.made
made-one r p l (entry.Given u life) s last h w = given-made r u life (s.asking p l) (last p l) s.made (h p l) w
made-one r p l (entry.GivenAfter u life stamp seen) s last h w = given-made r u life (s.asking p l) (last p l) s.made (h p l) w
made-one r p l _ s last h w = inr w

-- ---- the key of an addition

first-value : (values : List ℕ) → 0 < length values → slice_get values 0 ≡ Some (get_or values 0 0)
first-value [] lt = absurd (omega (arith, lt))
first-value (v ∷ vs) lt = refl

key-made : (u life : ℕ) (s : Objects) → HasKey u life s → IsMade (first_field (object u life) (key_of (s.made u))) s.made
key-made u life s h =
    let made : Made = record { life = life; asked = h.asked } in
    let key : get_or h.asked.values 0 0 ≡ key_of (s.made u) = ap key_of (sym h.made_is) in
    subst (λ m. OneOf (Wrote (first_field (object u life) (key_of (s.made u)))) (last_object u m)) (sym h.made_is) (inl (record { unit = refl; life = refl; value = first-value h.asked.values h.has_key ∙ ap Some key }))

module _ (Q : Read → Type 0) where
  abbrev Keyed : List Past → Type 0
  Keyed h = Each (λ p. Each Q (key_read p.call)) h

  abbrev KeyedCall : Option GraphCall → Type 0
  KeyedCall None = Unit {0}
  KeyedCall (Some x) = Each Q (key_read x.call)

  call-keyed : (names : List (List ℕ)) (e : Entry) (s : Objects) → KeyFits e s → ((r : Read) → IsMade r s.made → Q r) → KeyedCall (graph_call names (λ u. key_of (s.made u)) e)
  call-keyed names (entry.Add name u life pos) s f known = (known (first_field (object u life) (key_of (s.made u))) (key-made u life s f), tt)
  call-keyed names (entry.AddAlready name u life owner pos) s f known = (known (first_field (object u life) (key_of (s.made u))) (key-made u life s f), tt)
  call-keyed names (entry.PopFront name None pos) s f known = tt
  call-keyed names (entry.PopFront name (Some id) pos) s f known = tt
  call-keyed names (entry.PopBack name None pos) s f known = tt
  call-keyed names (entry.PopBack name (Some id) pos) s f known = tt
  call-keyed names (entry.First name None pos) s f known = tt
  call-keyed names (entry.First name (Some id) pos) s f known = tt
  call-keyed names _ s f known = tt

  keyed-more : (h : List Past) (p : Past) → Keyed h → Each Q (key_read p.call) → Keyed (h ++ p ∷ [])
  keyed-more [] p k now = (now, tt)
  keyed-more (q ∷ h) p k now = (k.0, keyed-more h p k.1 now)

  history-keyed : (names : List (List ℕ)) (name : List ℕ) (x : Option GraphCall) (tag : Tag) (s : Shelves) → KeyedCall x → Keyed (s.histories name) → Keyed ((called names x tag s).histories name)
  history-keyed names name None tag s now k = k
  history-keyed names name (Some x) tag s now k = elim (cases_Bool (bytes_eq x.graph name)) [
    | inl y ↦ rw y (keyed-more (s.histories name) (entry_of x tag) k now)
    | inr n ↦ rw n k
  ]

  -- where this is so of what is made along the order, and of what was made before
  keys-over : (names : List (List ℕ)) (name : List ℕ) (o : Order) (s : Shelved) (last : ℕ → ℕ → Option Asked) → AllFit (shelved_after names) (ShelvedFit names) o s → AreLast itself s.objects.asking last → ((r : Read) → OneOf (Wrote r) (objects_over o last) → Q r) → ((r : Read) → IsMade r s.objects.made → Q r) →
      Keyed (s.shelves.histories name) → Keyed ((over (shelved_after names) o s).shelves.histories name)
  keys-over names name [] s last h under later before k = k
  keys-over names name (e ∷ o) s last h under later before k =
      let p = e.processor in
      let now : Shelved = shelved_after names p e.level e.entry s in
      let latest : ℕ → ℕ → Option Asked = next (last_call asked_by) e last in
      let first : List Object = given_by (last p) (e.level, e.entry) in
      keys-over names name o now latest h.1 (under-entry p e.level e.entry s.objects.asking last under)
      (λ r made. later r (one-right (last_call asked_by) (λ p. given_by) (Wrote r) first (objects_over o latest) made))
      (λ r made. elim (made-one r p e.level e.entry s.objects last under made) [
        | inl here ↦ later r (one-left (last_call asked_by) (λ p. given_by) (Wrote r) first (objects_over o latest) here)
        | inr there ↦ before r there
      ])
      (history-keyed names name (call_in names e.entry s.objects) (tag_in p s.objects) (guarded_after p e.entry s.shelves) (call-keyed names e.entry s.objects h.0.1 before) k)

pub logs-keys : (names : List (List ℕ)) (logs : List Log) (o : Order) → IsOrderOf logs o → IsShelved names o → (name : List ℕ) → KeysLaw ((over (shelved_after names) o nothing_shelved).shelves.histories name) logs
logs-keys names logs o is h name =
    keys-over (λ r. OneOf (Wrote r) (all_objects logs)) names name o nothing_shelved (λ p. no_call) h (λ p l. tt) (λ r made. gathered-one (last_call asked_by) (λ p. given_by) (Wrote r) no_call logs o is made) (λ r none. absurd none) tt

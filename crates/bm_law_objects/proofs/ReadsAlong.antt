-- What is read along an order was written there, and so it is in its logs.
use Rattle.std.proofs.Common.{◌≡◌, ◌⊎◌, ℕ, List, [], ◌∷◌, ◌++◌, None, Some, Option, refl, sym, subst, inl, inr}
use Rattle.std.proofs.lemmas.Bool.Decides.{eqb_tells}
use Rattle.bm_journal.specs.declared.entry.Entry.{Entry}
use Rattle.bm_journal.specs.declared.entry.Entry.TheVariants as entry
use Rattle.bm_law.specs.Lists.{Log}
use Rattle.bm_law_lives.specs.Together.{Each}
use Rattle.bm_law_order.specs.Orders.{AllFit, Order}
use Rattle.bm_law_laid.specs.Once.{named_by}
use Rattle.bm_law_laid.specs.OrderOf.{IsOrderOf}
use Rattle.bm_law_objects.specs.Gathered.{AreLast, OneOf, IsLast, itself, last_call, no_call}
use Rattle.bm_law_objects.specs.Objects.{Asked, IsAsked, IsOwned, Made, Owned, OwnedFit, asking_after, made_of, nothing_owned, owned_after, with_made}
use Rattle.bm_law_objects.specs.ReadsLaw.{Object, Read, ReadsLaw, Wrote, all_objects, asked_by, given_by, last_object, object_of, objects_over, read_of}
use Rattle.bm_law_objects.proofs.Gathering.{each-along, each-named, next, one-left, one-right, gathered-one}
use Rattle.bm_law_objects.proofs.Replies.{under-point, under-same}

-- what is asked for somewhere is the last call there
abbrev AskedLast : (ℕ → ℕ → Option Asked) → (ℕ → ℕ → Option Asked) → Type 0
AskedLast asking last = AreLast itself asking last

under-entry : (p l : ℕ) (e : Entry) (asking last : ℕ → ℕ → Option Asked) → AskedLast asking last → AskedLast (asking_after p l e asking) (next (last_call asked_by) (record { processor = p; level = l; entry = e }) last)
under-entry p l (entry.New name values) asking last h = under-point itself p l (Some (record { type_name = name; values = values })) (Some (record { type_name = name; values = values })) asking last h refl
under-entry p l (entry.Given u life) asking last h = under-point itself p l None None asking last h tt
under-entry p l (entry.GivenAfter u life stamp seen) asking last h = under-point itself p l None None asking last h tt
under-entry p l entry.Empty asking last h = under-point itself p l None None asking last h tt
under-entry p l (entry.Busy active) asking last h = under-point itself p l None None asking last h tt
under-entry p l _ asking last h = under-same itself p l asking last h

-- ---- what units were made of

-- a unit's last life was made before, or is among these
abbrev IsMade : Read → Owned → Type 0
IsMade r s = OneOf (Wrote r) (last_object r.unit (s.objects.made r.unit))

given-made : (r : Read) (p l u life : ℕ) (asking last : ℕ → ℕ → Option Asked) (made : ℕ → Option Made) → IsAsked (asking p l) → AskedLast asking last → OneOf (Wrote r) (last_object r.unit (with_made u life (asking p l) made r.unit)) → OneOf (Wrote r) (object_of u life (last p l)) ⊎ OneOf (Wrote r) (last_object r.unit (made r.unit))
given-made r p l u life asking last made a h w = elim (eqb_tells r.unit u) [
  | inl y ↦
      (let here : OneOf (Wrote r) (last_object r.unit (made_of life (asking p l))) = rw y.0 at w in
      let known : OneOf (Wrote r) (last_object r.unit (made_of life (Some a.asked))) = subst (λ x. OneOf (Wrote r) (last_object r.unit (made_of life x))) a.is here in
      let there : last p l ≡ Some a.asked = subst (λ x. IsLast x (last p l)) a.is (h p l) in
      inl (subst (λ x. OneOf (Wrote r) (object_of u life x)) (sym there) (subst (λ v. OneOf (Wrote r) (object_of v life (Some a.asked))) y.1 known)))
  | inr y ↦ inr (rw y.0 at w)
]

made-one : (r : Read) (p l : ℕ) (e : Entry) (s : Owned) (last : ℕ → ℕ → Option Asked) → OwnedFit p l e s → AskedLast s.objects.asking last → IsMade r (owned_after p l e s) → OneOf (Wrote r) (given_by (last p) (l, e)) ⊎ IsMade r s
made-one r p l (entry.Given u life) s last f h w = given-made r p l u life s.objects.asking last s.objects.made f h w
made-one r p l (entry.GivenAfter u life stamp seen) s last f h w = given-made r p l u life s.objects.asking last s.objects.made f h w
made-one r p l _ s last f h w = inr w

read-made : (p l : ℕ) (e : Entry) (s : Owned) → OwnedFit p l e s → Each (λ r. IsMade r s) (read_of e)
read-made p l (entry.Get u life place value) s f =
    let r : Read = record { unit = u; life = life; place = place; value = value } in
    (subst (λ m. OneOf (Wrote r) (last_object u m)) (sym f.made_is) (inl (record { unit = refl; life = refl; value = f.value_is })), tt)
read-made p l _ s f = tt

each-weaker : (P Q : Read → Type 0) (xs : List Read) → ((r : Read) → P r → Q r) → Each P xs → Each Q xs
each-weaker P Q [] f h = tt
each-weaker P Q (x ∷ xs) f h = (f x h.0, each-weaker P Q xs f h.1)

pub reads-over : (o : Order) (s : Owned) (last : ℕ → ℕ → Option Asked) → AllFit owned_after OwnedFit o s → AreLast itself s.objects.asking last → Each (λ r. OneOf (Wrote r) (objects_over o last) ⊎ OneOf (Wrote r) (last_object r.unit (s.objects.made r.unit))) (named_by read_of o)
reads-over [] s last h under = tt
reads-over (e ∷ o) s last h under =
    let p = e.processor in
    let now : Owned = owned_after p e.level e.entry s in
    let latest : ℕ → ℕ → Option Asked = next (last_call asked_by) e last in
    let first : List Object = given_by (last p) (e.level, e.entry) in
    let P : Read → Type 0 = λ r. OneOf (Wrote r) (first ++ objects_over o latest) ⊎ IsMade r s in
    let rest = reads-over o now latest h.1 (under-entry p e.level e.entry s.objects.asking last under) in
    each-along P read_of e o
    (each-weaker (λ r. IsMade r s) P (read_of e.entry) (λ r w. inr w) (read-made p e.level e.entry s h.0))
    (each-weaker (λ r. OneOf (Wrote r) (objects_over o latest) ⊎ IsMade r now) P (named_by read_of o) (λ r w. elim w [
      | inl made ↦ inl (one-right (last_call asked_by) (λ p. given_by) (Wrote r) first (objects_over o latest) made)
      | inr before ↦ elim (made-one r p e.level e.entry s last h.0 under before) [
        | inl here ↦ inl (one-left (last_call asked_by) (λ p. given_by) (Wrote r) first (objects_over o latest) here)
        | inr there ↦ inr there
      ]
    ]) rest)

pub logs-reads : (logs : List Log) (o : Order) → IsOrderOf logs o → IsOwned o → ReadsLaw logs
logs-reads logs o is owned =
    let along = reads-over o nothing_owned (λ p. no_call) owned (λ p l. tt) in
    let P : Read → Type 0 = λ r. OneOf (Wrote r) (objects_over o (λ p. no_call)) in
    let found = each-weaker (λ r. P r ⊎ IsMade r nothing_owned) P (named_by read_of o) (λ r w. elim w [ inl made ↦ made | inr none ↦ absurd none ]) along in
    let Q : Read → Type 0 = λ r. OneOf (Wrote r) (all_objects logs) in
    each-named Q read_of logs o is (each-weaker P Q (named_by read_of o) (λ r made. gathered-one (last_call asked_by) (λ p. given_by) (Wrote r) no_call logs o is made) found)

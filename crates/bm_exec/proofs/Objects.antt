-- Types with their classes, and the objects that names hold.
use Rattle.std.proofs.Common.{◌≡◌, ◌⊎◌, ◌<◌, ◌≤◌, ◌+◌, ◌-◌, ℕ, arith, length, zero, suc, Bool, true, false, List, [], ◌∷◌, map, refl, sym, ap, ◌∙◌, Option, Some, None, slice_get, eqb, eq-eqb, inl, inr, subst, if◌then◌else◌, ◌&&◌, nat_le}
use mathlib.Core.Path.{fun_ext}
use Rattle.std.specs.Str.{bytes_eq}
use Rattle.bm_journal.specs.declared.ids.ObjId.{ObjId}
use Rattle.bm_lang.specs.declared.scenario.TypeDeclaration.{TypeDeclaration}
use Rattle.bm_lang.specs.declared.scenario.TypeId.{TypeId}
use Rattle.bm_class.specs.Sizes.{class_of_size}
use Rattle.bm_law_scenario.specs.Held.{Held, Nothing, Null, Object, Soft, Names, soft_ended, soft_spent, with_name, OwnsNothing}
use Rattle.bm_law_scenario.specs.Opened.{OfClass, object_size}
use Rattle.bm_law_scenario.specs.Calls.{Puts, answered, taken}
use Rattle.bm_check.specs.declared.name_state.HeldLock.{HeldLock}
use Rattle.bm_check.specs.Values as safe
use Rattle.bm_exec.specs.Runnable.{Classes, has_fields}
use Rattle.bm_exec.specs.Stores.{store_of, value_of}
use Rattle.bm_grace.specs.Living.{with_references}
use Rattle.bm_exec.specs.Living.{Adds, Begins, Holds, IsHeld, IsMade, IsReached, IsToPut, Lives, Living, Referring, TakenOut, TakesOut, count_in, less_of, let_go, new_life, one_less, recounted, refers, reply_of, with_life, without}
use Rattle.bm_check.specs.Values.{is_owning}
use Rattle.std.proofs.lemmas.Bool.Decides.{Decides-eqb}
use Rattle.bm_exec.proofs.Meeting.{new-few, new-fits}
use Rattle.bm_exec.proofs.Tables.{same_word, word_is_itself, is_or_not}

-- the class of a type
class-of : (types : List TypeDeclaration) (classes : List ℕ) (t : ℕ) (d : TypeDeclaration) (c : ℕ) → map Some classes ≡ map (λ (x : TypeDeclaration). class_of_size (object_size x)) types → slice_get types t ≡ Some d → slice_get classes t ≡ Some c → class_of_size (object_size d) ≡ Some c
class-of [] classes t d c e f g = cc
class-of (x ∷ xs) [] t d c e f g = cc
class-of (x ∷ xs) (y ∷ ys) zero d c e f g = cc
class-of (x ∷ xs) (y ∷ ys) (suc t) d c e f g = class-of xs ys t d c (cc) f g

pub class-at : (types : List TypeDeclaration) (classes : List ℕ) (t : ℕ) (d : TypeDeclaration) (c : ℕ) → Classes types classes → slice_get types t ≡ Some d → slice_get classes t ≡ Some c → OfClass types t c d
class-at types classes t d c e f g = record { found = f; class = class-of types classes t d c e.each f g }

-- what a statement that runs asks for may be made
abbrev pub is-made : (types : List TypeDeclaration) (classes : List ℕ) (t : ℕ) (values : List ℕ) (d : TypeDeclaration) (c : ℕ) → Classes types classes → slice_get types t ≡ Some d → slice_get classes t ≡ Some c → (has_fields (slice_get types t) (length values) && nat_le (length values) 8) ≡ true → IsMade types c t values
is-made types classes t values d c cs f g can = record { declared = d; of_class = class-at types classes t d c cs f g; fields = new-fits types t values d can f; few = new-few types t values d can f }

-- a name's value, in the names as the law of accepted scripts has them
value-if : (b : Bool) (v w : Held) → value_of (if b then v else w) ≡ (if b then value_of v else value_of w)
value-if true v w = refl
value-if false v w = refl

pub store-with : (x : List ℕ) (v : Held) (names : Names) (k : HeldLock) → store_of (with_name x v names) k ≡ safe.with_value (store_of names k) x (value_of v)
store-with x v names k = ap (λ f. let s : safe.Store = record { value = f; lock = k } in s) (fun_ext (λ y. value-if (bytes_eq x y) v (names y)))

-- what a name holds after it got something
pub here : (x : List ℕ) (v : Held) (names : Names) (y : List ℕ) → bytes_eq x y ≡ true → with_name x v names y ≡ v
here x v names y e = rw e refl

pub elsewhere : (x : List ℕ) (v : Held) (names : Names) (y : List ℕ) → bytes_eq x y ≡ false → with_name x v names y ≡ names y
elsewhere x v names y e = rw e refl

same-object : (t t' : TypeId) (u u' n n' : ℕ) → Object t u n ≡ Object t' u' n' → (t ≡ t') × (u ≡ u') × (n ≡ n')
same-object t t' u u' n n' e = (cc, cc, cc)

null-is-none : (t : TypeId) (u n : ℕ) → Null ≡ Object t u n → ⊥
null-is-none t u n e = cc

pub nothing-is-none : (t : TypeId) (u n : ℕ) → Nothing ≡ Object t u n → ⊥
nothing-is-none t u n e = cc

-- ---- how many names refer to a unit

-- a name that owns nothing refers to nothing
owns-none : (u : ℕ) (v : Held) → is_owning (value_of v) ≡ false → refers u v ≡ false
owns-none u Nothing e = refl
owns-none u Null e = refl
owns-none u (Object t v n) e = cc
owns-none u (Soft t graph v n) e = refl

refers-if : (u : ℕ) (b : Bool) (v w : Held) → refers u (if b then v else w) ≡ (if b then refers u v else refers u w)
refers-if u true v w = refl
refers-if u false v w = refl

refers-object : (u v n : ℕ) (t : TypeId) (w : Held) → w ≡ Object t v n → v ≡ u → refers u w ≡ true
refers-object u v n t w e f = ap (refers u) e ∙ eq-eqb v u f

-- which names refer to it decides how many do
referring-same : (u k : ℕ) (names names' : Names) → ((x : List ℕ) → refers u (names x) ≡ refers u (names' x)) → Referring u k names → Referring u k names'
referring-same u zero names names' e r = λ x. sym (e x) ∙ r x
referring-same u (suc k) names names' e r = (r.0, sym (e r.0) ∙ r.1, referring-same u k (with_name r.0 Nothing names) (with_name r.0 Nothing names') (λ y. cleared r.0 y) r.2)
  where
    cleared : (x y : List ℕ) → refers u (with_name x Nothing names y) ≡ refers u (with_name x Nothing names' y)
    cleared x y = refers-if u (bytes_eq x y) Nothing (names y) ∙ (ap (λ b. if bytes_eq x y then false else b) (e y) ∙ sym (refers-if u (bytes_eq x y) Nothing (names' y)))

-- another name is set, and neither before nor after it refers to it
referring-aside : (u k : ℕ) (y : List ℕ) (v : Held) (names : Names) → refers u (names y) ≡ false → refers u v ≡ false → Referring u k names → Referring u k (with_name y v names)
referring-aside u k y v names e f r = referring-same u k names (with_name y v names) (λ x. elim (is_or_not (bytes_eq y x)) [
  | inl same ↦ rw same (ap (λ z. refers u (names z)) (sym (same_word y x same)) ∙ (e ∙ sym f))
  | inr other ↦ rw other refl
]) r

-- one more name refers to it
referring-more : (u k : ℕ) (y : List ℕ) (v : Held) (names : Names) → refers u (names y) ≡ false → refers u v ≡ true → Referring u k names → Referring u (suc k) (with_name y v names)
referring-more u k y v names e f r = (
  y,
  rw (word_is_itself y) f,
  referring-same u k names (with_name y Nothing (with_name y v names)) (λ x. elim (is_or_not (bytes_eq y x)) [
    | inl same ↦ rw same (ap (λ z. refers u (names z)) (sym (same_word y x same)) ∙ e)
    | inr other ↦ rw other refl
  ]) r,
)

swapped : (u : ℕ) (x y z : List ℕ) (names : Names) → refers u (with_name y Nothing (with_name x Nothing names) z) ≡ refers u (with_name x Nothing (with_name y Nothing names) z)
swapped u x y z names = both (bytes_eq x z) (bytes_eq y z) (names z)
  where
    both : (a b : Bool) (v : Held) → refers u (if b then Nothing else (if a then Nothing else v)) ≡ refers u (if a then Nothing else (if b then Nothing else v))
    both true true v = refl
    both true false v = refl
    both false true v = refl
    both false false v = refl

not-both : {b : Bool} → b ≡ true → b ≡ false → ⊥
not-both p q = cc

flipped-false : (x y : List ℕ) → bytes_eq x y ≡ false → bytes_eq y x ≡ false
flipped-false x y other = elim (is_or_not (bytes_eq y x)) [
  | inl same ↦ (let q : y ≡ x = same_word y x same in absurd (not-both (subst (λ z. bytes_eq z y ≡ true) q (word_is_itself y)) other))
  | inr isnt ↦ isnt
]

-- one of those that refer to it lets go
pub referring-less : (u k : ℕ) (y : List ℕ) (names : Names) → refers u (names y) ≡ true → Referring u (suc k) names → Referring u k (with_name y Nothing names)
referring-less u zero y names e r = elim (is_or_not (bytes_eq r.0 y)) [
  | inl same ↦ subst (λ z. Referring u zero (with_name z Nothing names)) (same_word r.0 y same) r.2
  | inr other ↦ absurd (not-both (ap (refers u) (elsewhere r.0 Nothing names y other) ∙ e) (r.2 y))
]
referring-less u (suc k) y names e r = elim (is_or_not (bytes_eq r.0 y)) [
  | inl same ↦ subst (λ z. Referring u (suc k) (with_name z Nothing names)) (same_word r.0 y same) r.2
  | inr other ↦ (
    r.0,
    ap (refers u) (elsewhere y Nothing names r.0 (flipped-false r.0 y other)) ∙ r.1,
    referring-same u k (with_name y Nothing (with_name r.0 Nothing names)) (with_name r.0 Nothing (with_name y Nothing names)) (λ z. swapped u r.0 y z names) (referring-less u k y (with_name r.0 Nothing names) (ap (refers u) (elsewhere r.0 Nothing names y other) ∙ e) r.2),
  )
]

-- some name refers to what there are references to
referring-none : (u k : ℕ) (names : Names) → 0 < k → ((x : List ℕ) → OwnsNothing (names x)) → Referring u k names → ⊥
referring-none u zero names some o r = absurd (omega (arith, some))
referring-none u (suc k) names some o r = owned (names r.0) (o r.0) r.1
  where
    owned : (v : Held) → OwnsNothing v → refers u v ≡ true → ⊥
    owned Nothing h e = cc
    owned Null h e = cc
    owned (Object t v n) h e = absurd h
    owned (Soft t graph v n) h e = cc

-- ---- lives

with-other : (u v : ℕ) (l : Option Living) (lives : Lives) → eqb u v ≡ false → with_life u l lives v ≡ lives v
with-other u v l lives e = rw e refl

with-same : (u v : ℕ) (l : Option Living) (lives : Lives) → u ≡ v → with_life u l lives v ≡ l
with-same u v l lives e = rw (eq-eqb u v e) refl

some-none : {A : Type 0} (x : A) → None ≡ Some x → ⊥
some-none x e = cc

some-is : {A : Type 0} (x y : A) → Some x ≡ Some y → x ≡ y
some-is x y e = cc

-- another unit lives as it did
still-held : (types : List TypeDeclaration) (lives lives' : Lives) (t : TypeId) (v n : ℕ) → lives' v ≡ lives v → IsHeld types lives t v n → IsHeld types lives' t v n
still-held types lives lives' t v n e h = record {
  class = h.class;
  declared = h.declared;
  of_class = h.of_class;
  alive = record { home = h.alive.home; type = h.alive.type; count = h.alive.count; values = h.alive.values; is = e ∙ h.alive.is };
  typed = h.typed;
  single = h.single;
  fields = h.fields;
  few = h.few;
}

-- a unit under which nothing lived is another than one under which something does
fresh-other : (u v : ℕ) (lives : Lives) (l : Living) → lives u ≡ None → lives v ≡ Some l → eqb u v ≡ false
fresh-other u v lives l e f = elim (is_or_not (eqb u v)) [
  | inl same ↦ (let q : u ≡ v = (Decides-eqb u v).0 same in cc)
  | inr other ↦ other
]

-- ---- references beside those of others

-- what doesn't live nobody has a reference to
adds-none : (k : ℕ) (o : Option Living) → Adds k o None → (k ≡ 0) × (o ≡ None)
adds-none zero o h = (refl, sym h)
adds-none (suc k) None h = absurd (some-none h.0 h.1)
adds-none (suc k) (Some l) h = absurd (some-none _ h.1)

-- of one reference nobody else has any
adds-one : (k : ℕ) (o a : Option Living) → Adds (suc k) o a → count_in a ≡ 1 → (k ≡ 0) × (o ≡ None)
adds-one k None a h one = (let count : count_in a ≡ h.0.count = ap count_in h.1 in let more = h.2 in omega (arith, one, count, more), refl)
adds-one k (Some l) a h one = (let count : count_in a ≡ l.count + suc k = ap count_in h.1 in let some = h.0 in absurd (omega (arith, one, count, some)))

-- an object with so many references
abbrev With : (count : ℕ) → Living → Living
With count l = record l { count = count }

-- one reference less, and others are left
adds-less : (k seen : ℕ) (o a : Option Living) → Adds (suc k) o a → count_in a ≡ seen → 1 < seen → Adds k o (with_references (seen - 1) a)
adds-less zero seen None a h e more = (let count : count_in a ≡ h.0.count = ap count_in h.1 in let one = h.2 in absurd (omega (arith, e, more, count, one)))
adds-less (suc k) seen None a h e more =
    let count : count_in a ≡ h.0.count = ap count_in h.1 in
    let all = h.2 in
    (With (seen - 1) h.0, ap (with_references (seen - 1)) h.1, omega (arith, e, more, count, all))
adds-less zero seen (Some l) a h e more =
    let count : count_in a ≡ l.count + 1 = ap count_in h.1 in
    let left : seen - 1 ≡ l.count = omega (arith, e, count) in
    ap (with_references (seen - 1)) h.1 ∙ ap (λ n. Some (With n l)) left
adds-less (suc k) seen (Some l) a h e more =
    let count : count_in a ≡ l.count + suc (suc k) = ap count_in h.1 in
    let left : seen - 1 ≡ l.count + suc k = omega (arith, e, count) in
    (h.0, ap (with_references (seen - 1)) h.1 ∙ ap (λ n. Some (With n l)) left)

-- .. and one more
adds-again : (k : ℕ) (o a : Option Living) (l : Living) → Adds k o a → a ≡ Some l → 0 < l.count → Adds (suc k) o (Some (With (l.count + 1) l))
adds-again zero o a l h e some = subst (λ v. Adds 1 v (Some (With (l.count + 1) l))) (sym e ∙ h) (some, refl)
adds-again (suc k) None a l h e some =
    let same : l ≡ h.0 = some-is _ _ (sym e ∙ h.1) in
    let all = h.2 in
    let count = ap (λ (v : Living). v.count) same in
    (With (l.count + 1) l, refl, omega (arith, all, count))
adds-again (suc k) (Some m) a l h e some =
    let same : l ≡ With (m.count + suc k) m = some-is _ _ (sym e ∙ h.1) in
    let now : m.count + suc k + 1 ≡ m.count + suc (suc k) = omega arith in
    (h.0, ap (λ (v : Living). Some (With (v.count + 1) v)) same ∙ ap (λ n. Some (With n m)) now)

-- whoever has a reference sees that there is one
adds-some : (k : ℕ) (o a : Option Living) → Adds (suc k) o a → 0 < count_in a
adds-some k None a h = (let count : count_in a ≡ h.0.count = ap count_in h.1 in let all = h.2 in omega (arith, count, all))
adds-some k (Some l) a h = (let count : count_in a ≡ l.count + suc k = ap count_in h.1 in omega (arith, count))

-- some name refers to a unit
pub referring-some : (u k : ℕ) (x : List ℕ) (names : Names) → refers u (names x) ≡ true → Referring u k names → (j : ℕ) × (k ≡ suc j)
referring-some u zero x names e r = absurd (not-both e (r x))
referring-some u (suc j) x names e r = (j, refl)

-- a name is set that neither referred to the unit nor does
reached-aside : (u : ℕ) (o a a' : Option Living) (x : List ℕ) (v : Held) (names : Names) → refers u (names x) ≡ false → refers u v ≡ false → a' ≡ a → IsReached u o a names → IsReached u o a' (with_name x v names)
reached-aside u o a a' x v names free bare e r = record { own = r.own; held = referring-aside u r.own x v names free bare r.held; adds = subst (Adds r.own o) (sym e) r.adds }

-- ---- what names hold

-- an object that is held
abbrev HeldAs : List TypeDeclaration → Lives → Held → Type 0
HeldAs types lives Nothing = Unit {0}
HeldAs types lives Null = Unit {0}
HeldAs types lives (Object t u n) = IsHeld types lives t u n
HeldAs types lives (Soft t graph u n) = Unit {0}

-- what a name holds after it got something: that, or what it held
held-now : (x : List ℕ) (v : Held) (names : Names) (y : List ℕ) (w : Held) → with_name x v names y ≡ w → ((x ≡ y) × (v ≡ w)) ⊎ ((bytes_eq x y ≡ false) × (names y ≡ w))
held-now x v names y w f = elim (is_or_not (bytes_eq x y)) [
  | inl same ↦ inl (same_word x y same, sym (here x v names y same) ∙ f)
  | inr other ↦ inr (other, sym (elsewhere x v names y other) ∙ f)
]

pub holds-null : (types : List TypeDeclaration) (base lives lives' : Lives) (names : Names) (x : List ℕ) (v : Held) → ((u : ℕ) → refers u v ≡ false) → ((t : TypeId) (u n : ℕ) → v ≡ Object t u n → ⊥) → is_owning (value_of (names x)) ≡ false → lives' ≡ lives → Holds types base lives names → Holds types base lives' (with_name x v names)
holds-null types base lives lives' names x v bare none free e h = record {
  living = λ y t u n f. elim (held-now x v names y _ f) [ inl a ↦ absurd (none t u n a.1) | inr b ↦ rw e (h.living y t u n b.1) ];
  reached = λ u. reached-aside u (base u) (lives u) (lives' u) x v names (owns-none u (names x) free) (bare u) (ap (λ (f : Lives). f u) e) (h.reached u);
}

-- a name that holds a new object
holds-new : (types : List TypeDeclaration) (base lives lives' : Lives) (names : Names) (x : List ℕ) (t : TypeId) (u n c home : ℕ) (values : List ℕ) (d : TypeDeclaration) → OfClass types t.0 c d → length values ≡ length d.fields → length d.fields ≤ 8 → lives u ≡ None → is_owning (value_of (names x)) ≡ false → lives' ≡ with_life u (Some (new_life c t.0 n home values)) lives → Holds types base lives names → Holds types base lives' (with_name x (Object t u n) names)
holds-new types base lives lives' names x t u n c home values d of fits most fresh free e h =
    let new : Living = new_life c t.0 n home values in
    let kept = λ (y : List ℕ) (t' : TypeId) (u' n' : ℕ) (f : names y ≡ Object t' u' n'). fresh-other u u' lives _ fresh (h.living y t' u' n' f).alive.is in record {
      living = λ y t' u' n' f. elim (held-now x (Object t u n) names y _ f) [
        | inl a ↦ (let q = same-object t t' u u' n n' a.1 in record {
          class = c;
          declared = d;
          of_class = rw q.0 at of;
          alive = record { home = home; type = t.0; count = 1; values = values; is = rw e (with-same u u' (Some new) lives q.1 ∙ ap (λ k. Some (new_life c t.0 k home values)) q.2) };
          typed = ap (λ (k : TypeId). k.0) q.0;
          single = λ s. refl;
          fields = fits;
          few = most;
        })
        | inr b ↦ still-held types lives lives' t' u' n' (rw e (with-other u u' (Some new) lives (kept y t' u' n' b.1))) (h.living y t' u' n' b.1)
      ];
      reached = λ u'. elim (is_or_not (eqb u u')) [
        | inl same ↦ reached-new u' ((Decides-eqb u u').0 same)
        | inr other ↦ reached-aside u' (base u') (lives u') (lives' u') x (Object t u n) names (owns-none u' (names x) free) other (rw e (with-other u u' (Some new) lives other)) (h.reached u')
      ];
    }
  where
    reached-new : (u' : ℕ) → u ≡ u' → IsReached u' (base u') (lives' u') (with_name x (Object t u n) names)
    reached-new u' same =
        let new : Living = new_life c t.0 n home values in
        let r = h.reached u' in
        let z = adds-none r.own (base u') (subst (Adds r.own (base u')) (ap lives (sym same) ∙ fresh) r.adds) in
        record {
          own = 1;
          held = referring-more u' 0 x (Object t u n) names (owns-none u' (names x) free) (eq-eqb u u' same) (subst (λ k. Referring u' k names) z.0 r.held);
          adds = rw z.1 (new, rw e (with-same u u' (Some new) lives same), refl);
        }

-- to what a name holds there is a reference
pub held-some : (types : List TypeDeclaration) (base lives : Lives) (names : Names) (x : List ℕ) (t : TypeId) (u n : ℕ) → names x ≡ Object t u n → Holds types base lives names → 0 < count_in (lives u)
held-some types base lives names x t u n held h =
    let r = h.reached u in
    let s = referring-some u r.own x names (refers-object u u n t (names x) held refl) r.held in
    adds-some s.0 (base u) (lives u) (subst (λ k. Adds k (base u) (lives u)) s.1 r.adds)

-- the names after the last reference to an object was given up by the name that held it
holds-less : (types : List TypeDeclaration) (base lives lives' : Lives) (names : Names) (x : List ℕ) (t : TypeId) (u n : ℕ) → names x ≡ Object t u n → count_in (lives u) ≡ 1 → lives' ≡ with_life u None lives → Holds types base lives names → Holds types base lives' (with_name x Nothing names)
holds-less types base lives lives' names x t u n held one e h = record {
  living = λ y t' u' n' f. elim (held-now x Nothing names y _ f) [
    | inl a ↦ absurd (nothing-is-none t' u' n' a.1)
    | inr b ↦ still-held types lives lives' t' u' n' (rw e (with-other u u' None lives (others y t' u' n' b.0 b.1))) (h.living y t' u' n' b.1)
  ];
  reached = λ u'. elim (is_or_not (eqb u u')) [
    | inl same ↦ reached-none u' ((Decides-eqb u u').0 same)
    | inr other ↦ reached-aside u' (base u') (lives u') (lives' u') x Nothing names (ap (refers u') held ∙ other) refl (rw e (with-other u u' None lives other)) (h.reached u')
  ];
}
  where
    refers-here : refers u (names x) ≡ true
    refers-here = refers-object u u n t (names x) held refl

    -- no other name refers to it
    alone : Referring u 0 (with_name x Nothing names) × (base u ≡ None)
    alone =
        let r = h.reached u in
        let s = referring-some u r.own x names refers-here r.held in
        let z = adds-one s.0 (base u) (lives u) (subst (λ k. Adds k (base u) (lives u)) s.1 r.adds) one in
        (referring-less u 0 x names refers-here (subst (λ k. Referring u k names) (s.1 ∙ ap suc z.0) r.held), z.1)

    others : (y : List ℕ) (t' : TypeId) (u' n' : ℕ) → bytes_eq x y ≡ false → names y ≡ Object t' u' n' → eqb u u' ≡ false
    others y t' u' n' other f = elim (is_or_not (eqb u u')) [
      | inl same ↦ (let q : u' ≡ u = sym ((Decides-eqb u u').0 same) in
          absurd (not-both (refers-object u u' n' t' (names y) f q) (ap (refers u) (sym (elsewhere x Nothing names y other)) ∙ alone.0 y)))
      | inr isnt ↦ isnt
    ]

    reached-none : (u' : ℕ) → u ≡ u' → IsReached u' (base u') (lives' u') (with_name x Nothing names)
    reached-none u' same = record {
      own = 0;
      held = subst (λ v. Referring v 0 (with_name x Nothing names)) same alone.0;
      adds = rw e (with-same u u' None lives same) ∙ sym (ap base (sym same) ∙ alone.1);
    }

-- ---- another number of references

-- the unit itself, and others
module _ (lives lives' : Lives) (u count : ℕ) (e : lives' ≡ recounted u count lives) where
  recounted-other : (v : ℕ) → eqb u v ≡ false → lives' v ≡ lives v
  recounted-other v other = rw e (rw other refl)

  recounted-at : (v : ℕ) → u ≡ v → lives' v ≡ with_references count (lives v)
  recounted-at v same = rw e (rw (eq-eqb u v same) (ap (with_references count) (ap lives same)))

  recounted-here : (v : ℕ) (l : Living) → u ≡ v → lives v ≡ Some l → lives' v ≡ Some (With count l)
  recounted-here v l same f = recounted-at v same ∙ ap (with_references count) f

  held-recounted : (types : List TypeDeclaration) (t : TypeId) (v n : ℕ) → ((h : IsHeld types lives t v n) → u ≡ v → h.declared.counted ≡ false → count ≡ 1) → IsHeld types lives t v n → IsHeld types lives' t v n
  held-recounted types t v n more h = elim (is_or_not (eqb u v)) [
    | inl isit ↦ (let same = (Decides-eqb u v).0 isit in record {
      class = h.class;
      declared = h.declared;
      of_class = h.of_class;
      alive = record { home = h.alive.home; type = h.alive.type; count = count; values = h.alive.values; is = recounted-here v _ same h.alive.is };
      typed = h.typed;
      single = λ s. more h same s;
      fields = h.fields;
      few = h.few;
    })
    | inr other ↦ still-held types lives lives' t v n (recounted-other v other) h
  ]

-- the names after a reference was given up by a name that held it, and others are left
holds-still : (types : List TypeDeclaration) (base lives lives' : Lives) (names : Names) (x : List ℕ) (t : TypeId) (u n seen : ℕ) → names x ≡ Object t u n → count_in (lives u) ≡ seen → 1 < seen → lives' ≡ recounted u (seen - 1) lives → Holds types base lives names → Holds types base lives' (with_name x Nothing names)
holds-still types base lives lives' names x t u n seen held counts others e h = record {
  living = λ y t' u' n' f. elim (held-now x Nothing names y _ f) [
    | inl a ↦ absurd (nothing-is-none t' u' n' a.1)
    | inr b ↦ held-recounted lives lives' u (seen - 1) e types t' u' n' (λ k same s. let one = k.single s in let was : k.alive.count ≡ seen = sym (ap count_in k.alive.is) ∙ (ap (λ v. count_in (lives v)) (sym same) ∙ counts) in absurd (omega (arith, one, was, others))) (h.living y t' u' n' b.1)
  ];
  reached = λ u'. elim (is_or_not (eqb u u')) [
    | inl isit ↦ reached-here u' ((Decides-eqb u u').0 isit)
    | inr other ↦ reached-aside u' (base u') (lives u') (lives' u') x Nothing names (ap (refers u') held ∙ other) refl (recounted-other lives lives' u (seen - 1) e u' other) (h.reached u')
  ];
}
  where
    reached-here : (u' : ℕ) → u ≡ u' → IsReached u' (base u') (lives' u') (with_name x Nothing names)
    reached-here u' same =
        let r = h.reached u' in
        let own = refers-object u' u n t (names x) held same in
        let s = referring-some u' r.own x names own r.held in
        record {
          own = s.0;
          held = referring-less u' s.0 x names own (subst (λ k. Referring u' k names) s.1 r.held);
          adds = subst (Adds s.0 (base u')) (sym (recounted-at lives lives' u (seen - 1) e u' same)) (adds-less s.0 seen (base u') (lives u') (subst (λ k. Adds k (base u') (lives u')) s.1 r.adds) (ap (λ v. count_in (lives v)) (sym same) ∙ counts) others);
        }

-- a reference was given up by the name that held it: the last of all that names hold
let-go-one : (u : ℕ) (lives : Lives) (l : Living) → lives u ≡ Some l → l.count ≡ 1 → let_go u lives ≡ with_life u None lives
let-go-one u lives l is one = ap (λ o. with_life u o lives) (ap one_less is ∙ ap (λ k. less_of k l) one)

-- .. of several
let-go-more : (u k : ℕ) (lives : Lives) (l : Living) → lives u ≡ Some l → l.count ≡ suc (suc k) → let_go u lives ≡ recounted u (suc k) lives
let-go-more u k lives l is more = ap (λ o. with_life u o lives) (ap one_less is ∙ (ap (λ n. less_of n l) more ∙ sym (ap (with_references (suc k)) is)))

-- .. either way
pub let-go : (types : List TypeDeclaration) (base lives lives' : Lives) (names : Names) (x : List ℕ) (t : TypeId) (u n : ℕ) → names x ≡ Object t u n → lives' ≡ let_go u lives → Holds types base lives names → Holds types base lives' (with_name x Nothing names)
let-go types base lives lives' names x t u n held e h = by-count mine.alive.count refl
  where
    mine : IsHeld types lives t u n
    mine = h.living x t u n held

    counted : count_in (lives u) ≡ mine.alive.count
    counted = ap count_in mine.alive.is

    less : (k : ℕ) → suc k ≡ suc (suc k) - 1
    less k = omega arith

    by-count : (k : ℕ) → mine.alive.count ≡ k → Holds types base lives' (with_name x Nothing names)
    by-count zero q = let some = held-some types base lives names x t u n held h in let c = counted in absurd (omega (arith, some, c, q))
    by-count (suc zero) q = holds-less types base lives lives' names x t u n held (counted ∙ q) (e ∙ let-go-one u lives _ mine.alive.is q) h
    by-count (suc (suc k)) q = holds-still types base lives lives' names x t u n (suc (suc k)) held (counted ∙ q) (omega arith) (e ∙ (let-go-more u k lives _ mine.alive.is q ∙ ap (λ j. recounted u j lives) (less k))) h

-- one more name holds an object to which there are references already
holds-again : (types : List TypeDeclaration) (base lives lives' : Lives) (names : Names) (y : List ℕ) (t : TypeId) (u n : ℕ) (l : Living) → lives u ≡ Some l → 0 < l.count → lives' ≡ recounted u (l.count + 1) lives → IsHeld types lives' t u n → is_owning (value_of (names y)) ≡ false → Holds types base lives names → Holds types base lives' (with_name y (Object t u n) names)
holds-again types base lives lives' names y t u n l is some e mine free h = record {
  living = λ z t' u' n' f. elim (held-now y (Object t u n) names z _ f) [
    | inl a ↦ subst (HeldAs types lives') a.1 mine
    | inr b ↦ held-recounted lives lives' u (l.count + 1) e types t' u' n' (λ k same s. once t' u' n' k same s) (h.living z t' u' n' b.1)
  ];
  reached = λ u'. elim (is_or_not (eqb u u')) [
    | inl isit ↦ reached-here u' ((Decides-eqb u u').0 isit)
    | inr other ↦ reached-aside u' (base u') (lives u') (lives' u') y (Object t u n) names (owns-none u' (names y) free) other (recounted-other lives lives' u (l.count + 1) e u' other) (h.reached u')
  ];
}
  where
    -- whoever holds the object holds one of the same type
    once : (t' : TypeId) (u' n' : ℕ) (k : IsHeld types lives t' u' n') → u ≡ u' → k.declared.counted ≡ false → l.count + 1 ≡ 1
    once t' u' n' k same s =
        let there = some-is _ _ (sym is ∙ (ap lives same ∙ k.alive.is)) in
        let now = some-is _ _ (sym (recounted-here lives lives' u (l.count + 1) e u l refl is) ∙ mine.alive.is) in
        let types-same : t.0 ≡ t'.0 = sym mine.typed ∙ (sym (ap (λ (v : Living). v.type) now) ∙ (ap (λ (v : Living). v.type) there ∙ k.typed)) in
        let declared : mine.declared ≡ k.declared = some-is mine.declared k.declared (sym mine.of_class.found ∙ (ap (slice_get types) types-same ∙ k.of_class.found)) in
        ap (λ (v : Living). v.count) now ∙ mine.single (ap (λ (z : TypeDeclaration). z.counted) declared ∙ s)

    reached-here : (u' : ℕ) → u ≡ u' → IsReached u' (base u') (lives' u') (with_name y (Object t u n) names)
    reached-here u' same =
        let r = h.reached u' in
        let here : lives u' ≡ Some l = ap lives (sym same) ∙ is in
        record {
          own = suc r.own;
          held = referring-more u' r.own y (Object t u n) names (owns-none u' (names y) free) (eq-eqb u u' same) r.held;
          adds = subst (Adds (suc r.own) (base u')) (sym (recounted-here lives lives' u (l.count + 1) e u' l same here)) (adds-again r.own (base u') (lives u') l r.adds here some);
        }

-- the names after one more reference was asked for, which another name holds now
pub holds-more : (types : List TypeDeclaration) (base lives lives' : Lives) (names : Names) (x y : List ℕ) (t : TypeId) (u n : ℕ) (d : TypeDeclaration) → slice_get types t.0 ≡ Some d → d.counted ≡ true → names x ≡ Object t u n → is_owning (value_of (names y)) ≡ false → lives' ≡ recounted u (count_in (lives u) + 1) lives → Holds types base lives names → Holds types base lives' (with_name y (Object t u n) names)
holds-more types base lives lives' names x y t u n d found counted held free e h =
    let mine = h.living x t u n held in
    let count : count_in (lives u) ≡ mine.alive.count = ap count_in mine.alive.is in
    let now : lives' ≡ recounted u (mine.alive.count + 1) lives = e ∙ ap (λ k. recounted u (k + 1) lives) count in
    holds-again types base lives lives' names y t u n _ mine.alive.is (subst (λ k. 0 < k) count (held-some types base lives names x t u n held h)) now
    (held-recounted lives lives' u (mine.alive.count + 1) now types t u n (λ k same s. absurd (uncounted k s)) mine) free h
  where
    uncounted : (k : IsHeld types lives t u n) → k.declared.counted ≡ false → ⊥
    uncounted k s =
        let declared : d ≡ k.declared = some-is d k.declared (sym found ∙ k.of_class.found) in
        not-both counted (ap (λ (z : TypeDeclaration). z.counted) declared ∙ s)

-- what a reply leaves
pub holds-reply : (types : List TypeDeclaration) (base lives lives' : Lives) (names : Names) (x : List ℕ) (t : TypeId) (c : ℕ) (values : List ℕ) (reply : Option ObjId) → IsMade types c t.0 values → is_owning (value_of (names x)) ≡ false → Begins c t.0 values lives lives' reply → Holds types base lives names → Holds types base lives' (with_name x (answered t (reply_of reply)) names)
holds-reply types base lives lives' names x t c values None made free e h = holds-null types base lives lives' names x Null (λ u. refl) (λ t u n f. null-is-none t u n f) free e h
holds-reply types base lives lives' names x t c values (Some o) made free e h = holds-new types base lives lives' names x t o.unit o.life c e.home values made.declared made.of_class made.fields made.few e.none free e.now h

-- ---- exchanges

-- what a name gave is held by it no more
pub holds-put : (types : List TypeDeclaration) (base lives : Lives) (names between : Names) (given : Option (List ℕ)) (t : TypeId) (put : Option ObjId) → Puts given t names put between → Holds types base lives names → Holds types base (without put lives) between
holds-put types base lives names between None t put p h = rw p.0 (rw p.1 h)
holds-put types base lives names between (Some x) t put p h = rw p.1 (rw p.3 (let-go types base lives (let_go p.0.unit lives) names x t p.0.unit p.0.life p.2 refl h))

-- .. and lives as what it was asked for as
pub to-put : (types : List TypeDeclaration) (base lives : Lives) (names between : Names) (given : Option (List ℕ)) (t : TypeId) (put : Option ObjId) → Puts given t names put between → Holds types base lives names → IsToPut t.0 lives put
to-put types base lives names between None t put p h = rw p.0 tt
to-put types base lives names between (Some x) t put p h = (let k = h.living x t p.0.unit p.0.life p.2 in rw p.1 (k.class, k.alive, k.typed))

-- an object that a slot held is what a name holds as one of the slot's type
taken-held : (types : List TypeDeclaration) (lives lives' : Lives) (t : TypeId) (o : ObjId) → TakenOut types t.0 lives lives' o → IsHeld types lives' t o.unit o.life
taken-held types lives lives' t o x = record {
  class = x.object.class;
  declared = x.made.declared;
  of_class = x.made.of_class;
  alive = record { home = x.object.home; type = x.object.type; count = x.object.count; values = x.object.values; is = rw x.now_is (with-same o.unit o.unit (Some x.object) lives refl ∙ ap (λ k. Some (record x.object { life = k })) x.life_is) };
  typed = x.type_is;
  single = x.single;
  fields = x.made.fields;
  few = x.made.few;
}

-- a name holds what a slot held
holds-taken : (types : List TypeDeclaration) (base lives lives' : Lives) (names : Names) (y : List ℕ) (t : TypeId) (o : ObjId) → is_owning (value_of (names y)) ≡ false → TakenOut types t.0 lives lives' o → Holds types base lives names → Holds types base lives' (with_name y (Object t o.unit o.life) names)
holds-taken types base lives lives' names y t o free x h = by-life (lives o.unit) refl
  where
    by-life : (a : Option Living) → lives o.unit ≡ a → Holds types base lives' (with_name y (Object t o.unit o.life) names)
    by-life None is =
        let one : x.object.count ≡ 1 = x.count_is ∙ ap (λ a. count_in a + 1) is in
        let new : x.object ≡ new_life x.object.class t.0 o.life x.object.home x.object.values =
        ap (λ k. record x.object { life = k }) x.life_is ∙ (ap (λ k. record x.object { life = o.life; type = k }) x.type_is ∙ ap (λ k. record x.object { life = o.life; type = t.0; count = k }) one) in
        holds-new types base lives lives' names y t o.unit o.life x.object.class x.object.home x.object.values x.made.declared x.made.of_class x.made.fields x.made.few is free (x.now_is ∙ ap (λ k. with_life o.unit (Some k) lives) new) h
    by-life (Some l) is =
        holds-again types base lives lives' names y t o.unit o.life l is (x.some l is)
        (x.now_is ∙ ap (λ a. with_life o.unit a lives) (ap Some (x.same l is) ∙ sym (ap (with_references (l.count + 1)) is))) (taken-held types lives lives' t o x) free h

-- .. if it held anything
pub holds-takes : (types : List TypeDeclaration) (base lives lives' : Lives) (names : Names) (y : List ℕ) (t : TypeId) (was : Option ObjId) → is_owning (value_of (names y)) ≡ false → TakesOut types t.0 lives lives' was → Holds types base lives names → Holds types base lives' (with_name y (taken t was) names)
holds-takes types base lives lives' names y t None free e h = holds-null types base lives lives' names y Null (λ u. refl) (λ t u n f. null-is-none t u n f) free e h
holds-takes types base lives lives' names y t (Some o) free x h = holds-taken types base lives lives' names y t o free x h

-- ---- non-owning references

-- which objects names hold decides, and no non-owning reference does
pub holds-like : (types : List TypeDeclaration) (base lives : Lives) (names names' : Names) → ((x : List ℕ) (t : TypeId) (u n : ℕ) → names' x ≡ Object t u n → names x ≡ Object t u n) → ((u : ℕ) (x : List ℕ) → refers u (names x) ≡ refers u (names' x)) → Holds types base lives names → Holds types base lives names'
holds-like types base lives names names' same e h = record {
  living = λ x t u n f. h.living x t u n (same x t u n f);
  reached = λ u. let r = h.reached u in record { own = r.own; held = referring-same u r.own names names' (e u) r.held; adds = r.adds };
}

object-before : (v : Held) (t : TypeId) (u n : ℕ) → soft_spent v ≡ Object t u n → v ≡ Object t u n
object-before Nothing t u n e = cc
object-before Null t u n e = cc
object-before (Object s v m) t u n e = e
object-before (Soft s graph v m) t u n e = cc

refers-spent : (u : ℕ) (v : Held) → refers u v ≡ refers u (soft_spent v)
refers-spent u Nothing = refl
refers-spent u Null = refl
refers-spent u (Object t v n) = refl
refers-spent u (Soft t graph v n) = refl

pub holds-ended : (types : List TypeDeclaration) (base lives : Lives) (names : Names) → Holds types base lives names → Holds types base lives (soft_ended names)
holds-ended types base lives names h = holds-like types base lives names (soft_ended names) (λ x t u n f. object-before (names x) t u n f) (λ u x. refers-spent u (names x)) h

-- a name holds what is no owning reference, in place of nothing
pub holds-other : (types : List TypeDeclaration) (base lives : Lives) (names : Names) (x : List ℕ) (v : Held) → ((u : ℕ) → refers u v ≡ false) → ((t : TypeId) (u n : ℕ) → v ≡ Object t u n → ⊥) → Holds types base lives (with_name x Nothing names) → Holds types base lives (with_name x v names)
holds-other types base lives names x v bare none h = holds-like types base lives (with_name x Nothing names) (with_name x v names)
    (λ y t u n f. elim (held-now x v names y _ f) [ inl a ↦ absurd (none t u n a.1) | inr b ↦ elsewhere x Nothing names y b.0 ∙ b.1 ])
    (λ u y. refers-if u (bytes_eq x y) Nothing (names y) ∙ (ap (λ (b : Bool). if bytes_eq x y then b else refers u (names y)) (sym (bare u)) ∙ sym (refers-if u (bytes_eq x y) v (names y)))) h

-- where no name owns, there are the references of the others
pub only-base : (types : List TypeDeclaration) (base lives : Lives) (names : Names) → Holds types base lives names → ((x : List ℕ) → OwnsNothing (names x)) → lives ≡ base
only-base types base lives names h o = fun_ext (λ u. alike u (h.reached u).own (base u) (lives u) (h.reached u).held (h.reached u).adds)
  where
    alike : (u k : ℕ) (others all : Option Living) → Referring u k names → Adds k others all → all ≡ others
    alike u zero others all r a = a
    alike u (suc k) others all r a = absurd (referring-none u (suc k) names (omega arith) o r)

-- Where each object stands, as the histories tell it.
use Rattle.std.proofs.Common.{◌≡◌, ◌≢◌, ℕ, suc, ◌+◌, ◌<◌, Bool, true, false, Option, List, [], ◌∷◌, ◌++◌, length, get_or, Some, None, refl, sym, ◌∙◌, ap, subst, arith, inl, inr}
use Rattle.std.specs.Bool.{Decides}
use Rattle.std.specs.Str.{bytes_eq}
use Rattle.std.proofs.lemmas.Bool.{cases_Bool}
use Rattle.std.proofs.lemmas.Bool.Decides.{eqb_tells}
use Rattle.std.proofs.lemmas.Slice.Eq.{bytes_eq-Decides}
use Rattle.bm_journal.specs.declared.ids.ObjId.{ObjId}
use Rattle.bm_journal.specs.declared.ids.Tag.{Tag}
use Rattle.bm_journal.specs.declared.past.Past.{Past}
use Rattle.bm_graph.specs.Objects.{same_object}
use Rattle.bm_graph.proofs.Ids.{same_object-refl, same_object-true}
use Rattle.bm_law_graphs.specs.Calls.{Effect, GraphCall, Puts, Takes, effect_of, place_of}
use Rattle.bm_law_graphs.specs.Shelves.{EffectFits, Standing, entry_of, moved, recorded}
use Rattle.bm_law_graphs.specs.Refusals.{stands_after, stands_from}

-- ---- names and places

pub place-name : (names : List (List ℕ)) (name : List ℕ) → place_of names name < length names → get_or names (place_of names name) [] ≡ name
place-name [] name lt = absurd (omega (arith, lt))
place-name (n ∷ ns) name lt = elim (cases_Bool (bytes_eq n name)) [
  | inl y ↦ rw y ((bytes_eq-Decides n name).0 y)
  | inr y ↦
      (let less : place_of ns name + 1 < length (n ∷ ns) = rw y at lt in
      let next : place_of ns name + 1 ≡ suc (place_of ns name) = omega arith in
      rw y (ap (λ k. get_or (n ∷ ns) k []) next ∙ place-name ns name (omega (arith, less))))
]

-- a place at which a name stands
pub record Known (names : List (List ℕ)) (place : ℕ) : Type 0 where
  pub below : place < length names
  pub same : place_of names (get_or names place []) ≡ place

pub known-declared : (names : List (List ℕ)) (name : List ℕ) → place_of names name < length names → Known names (place_of names name)
known-declared names name lt = record { below = lt; same = ap (place_of names) (place-name names name lt) }

-- ---- objects

abbrev at_place : (life place : ℕ) → Option Standing
at_place life place = Some (record { life = life; place = place })

abbrev life_at : Option Standing → ℕ
life_at None = 0
life_at (Some x) = x.life

abbrev place_at : Option Standing → ℕ
place_at None = 0
place_at (Some x) = x.place

pub none-some : (x : Standing) → None ≡ Some x → ⊥
none-some x e = cc

false-true : false ≡ true → ⊥
false-true e = cc

same-parts : (a b : ObjId) → a.unit ≡ b.unit → a.life ≡ b.life → a ≡ b
same-parts a b units lives = ap (λ x. record { unit = x; life = a.life }) units ∙ ap (λ x. record { unit = b.unit; life = x }) lives

-- objects of one unit that aren't the same have other lives
other-life : (a b : ObjId) → same_object a b ≡ false → a.unit ≡ b.unit → a.life ≡ b.life → ⊥
other-life a b apart units lives = false-true (sym apart ∙ (ap (same_object a) (sym (same-parts a b units lives)) ∙ same_object-refl a))

-- ---- after a call

-- on another list or tree
moved-other : (g place u life : ℕ) (b : Bool) (f : Effect) (within : ℕ → Option Standing) → g ≢ place → EffectFits g f within → Decides b (within u ≡ at_place life place) → Decides b (moved g f within u ≡ at_place life place)
moved-other g place u life b (Puts id) within ne fits h = elim (eqb_tells u id.unit) [
  | inl y ↦
      (let none : within u ≡ None = subst (λ v. within v ≡ None) (sym y.1) fits in
      rw y.0 (λ yes. absurd (none-some (record { life = life; place = place }) (sym none ∙ h.0 yes)), λ e. absurd (ne (ap place_at e))))
  | inr n ↦ rw n.0 h
]
moved-other g place u life b (Takes id) within ne fits h = elim (eqb_tells u id.unit) [
  | inl y ↦
      (let some : within u ≡ at_place id.life g = subst (λ v. within v ≡ at_place id.life g) (sym y.1) fits in
      rw y.0 (λ yes. absurd (ne (ap place_at (sym some ∙ h.0 yes))), λ e. absurd (none-some (record { life = life; place = place }) e)))
  | inr n ↦ rw n.0 h
]
moved-other g place u life b _ within ne fits h = h

-- on this one
put-here : (g : ℕ) (id x : ObjId) (b : Bool) (within : ℕ → Option Standing) → within x.unit ≡ None → Decides b (within id.unit ≡ at_place id.life g) → Decides (stands_after id b (Puts x)) (moved g (Puts x) within id.unit ≡ at_place id.life g)
put-here g id x b within fits h = elim (cases_Bool (same_object x id)) [
  | inl y ↦
      (let same : x ≡ id = same_object-true x id y in
      elim (eqb_tells id.unit x.unit) [
        | inl z ↦ rw y (rw z.0 (λ yes. ap (λ (o : ObjId). at_place o.life g) same, λ e. refl))
        | inr z ↦ absurd (z.1 (ap (λ (o : ObjId). o.unit) (sym same)))
      ])
  | inr n ↦ elim (eqb_tells id.unit x.unit) [
    | inl z ↦
        (let none : within id.unit ≡ None = subst (λ v. within v ≡ None) (sym z.1) fits in
        rw n (rw z.0 (λ yes. absurd (none-some (record { life = id.life; place = g }) (sym none ∙ h.0 yes)), λ e. absurd (other-life x id n (sym z.1) (ap life_at e)))))
    | inr z ↦ rw n (rw z.0 h)
  ]
]

take-here : (g : ℕ) (id x : ObjId) (b : Bool) (within : ℕ → Option Standing) → within x.unit ≡ at_place x.life g → Decides b (within id.unit ≡ at_place id.life g) → Decides (stands_after id b (Takes x)) (moved g (Takes x) within id.unit ≡ at_place id.life g)
take-here g id x b within fits h = elim (cases_Bool (same_object x id)) [
  | inl y ↦
      (let same : x ≡ id = same_object-true x id y in
      elim (eqb_tells id.unit x.unit) [
        | inl z ↦ rw y (rw z.0 (λ never. absurd (false-true never), λ e. absurd (none-some (record { life = id.life; place = g }) e)))
        | inr z ↦ absurd (z.1 (ap (λ (o : ObjId). o.unit) (sym same)))
      ])
  | inr n ↦ elim (eqb_tells id.unit x.unit) [
    | inl z ↦
        (let some : within id.unit ≡ at_place x.life g = subst (λ v. within v ≡ at_place x.life g) (sym z.1) fits in
        rw n (rw z.0 (λ yes. absurd (other-life x id n (sym z.1) (ap life_at (sym some ∙ h.0 yes))), λ e. absurd (none-some (record { life = id.life; place = g }) e))))
    | inr z ↦ rw n (rw z.0 h)
  ]
]

moved-here : (g : ℕ) (id : ObjId) (b : Bool) (f : Effect) (within : ℕ → Option Standing) → EffectFits g f within → Decides b (within id.unit ≡ at_place id.life g) → Decides (stands_after id b f) (moved g f within id.unit ≡ at_place id.life g)
moved-here g id b (Puts x) within fits h = put-here g id x b within fits h
moved-here g id b (Takes x) within fits h = take-here g id x b within fits h
moved-here g id b _ within fits h = h

pub stands-more : (id : ObjId) (b : Bool) (h : List Past) (p : Past) → stands_from id b (h ++ p ∷ []) ≡ stands_after id (stands_from id b h) (effect_of p.call)
stands-more id b [] p = refl
stands-more id b (q ∷ h) p = stands-more id (stands_after id b (effect_of q.call)) h p

-- ---- what is kept

-- An object stands in a list or tree exactly where its history says so, and each stands in one that there is.
pub record AreStanding (names : List (List ℕ)) (histories : List ℕ → List Past) (within : ℕ → Option Standing) : Type 0 where
  pub stand : (name : List ℕ) (id : ObjId) → place_of names name < length names → Decides (stands_from id false (histories name)) (within id.unit ≡ at_place id.life (place_of names name))
  pub known : (u : ℕ) (x : Standing) → within u ≡ Some x → Known names x.place

moved-known : (names : List (List ℕ)) (g u : ℕ) (x : Standing) (f : Effect) (within : ℕ → Option Standing) → Known names g → (within u ≡ Some x → Known names x.place) → moved g f within u ≡ Some x → Known names x.place
moved-known names g u x (Puts id) within known h e = elim (eqb_tells u id.unit) [
  | inl y ↦ (let now : at_place id.life g ≡ Some x = rw y.0 at e in subst (Known names) (ap place_at now) known)
  | inr n ↦ (let was : within u ≡ Some x = rw n.0 at e in h was)
]
moved-known names g u x (Takes id) within known h e = elim (eqb_tells u id.unit) [
  | inl y ↦ (let now : None ≡ Some x = rw y.0 at e in absurd (none-some x now))
  | inr n ↦ (let was : within u ≡ Some x = rw n.0 at e in h was)
]
moved-known names g u x _ within known h e = h e

pub call-standing : (names : List (List ℕ)) (x : GraphCall) (tag : Tag) (histories : List ℕ → List Past) (within : ℕ → Option Standing) → place_of names x.graph < length names → EffectFits (place_of names x.graph) (effect_of x.call) within → AreStanding names histories within →
    AreStanding names (recorded x.graph (entry_of x tag) histories) (moved (place_of names x.graph) (effect_of x.call) within)
call-standing names x tag histories within declared fits h = record {
  stand = λ name id lt. elim (cases_Bool (bytes_eq x.graph name)) [
    | inl y ↦
        (let same : x.graph ≡ name = (bytes_eq-Decides x.graph name).0 y in
        let now = moved-here (place_of names x.graph) id (stands_from id false (histories name)) (effect_of x.call) within fits (subst (λ n. Decides (stands_from id false (histories name)) (within id.unit ≡ at_place id.life (place_of names n))) (sym same) (h.stand name id lt)) in
        let there = subst (λ n. Decides (stands_after id (stands_from id false (histories name)) (effect_of x.call)) (moved (place_of names x.graph) (effect_of x.call) within id.unit ≡ at_place id.life (place_of names n))) same now in
        rw y (subst (λ b. Decides b (moved (place_of names x.graph) (effect_of x.call) within id.unit ≡ at_place id.life (place_of names name))) (sym (stands-more id false (histories name) (entry_of x tag))) there))
    | inr n ↦
        (let apart : place_of names x.graph ≢ place_of names name =
        (λ e. false-true (sym n ∙ (bytes_eq-Decides x.graph name).1 (sym (place-name names x.graph declared) ∙ (ap (λ k. get_or names k []) e ∙ place-name names name lt)))) in
        rw n (moved-other (place_of names x.graph) (place_of names name) id.unit id.life (stands_from id false (histories name)) (effect_of x.call) within apart fits (h.stand name id lt)))
  ];
  known = λ u y e. moved-known names (place_of names x.graph) u y (effect_of x.call) within (known-declared names x.graph declared) (h.known u y) e;
}

-- An object is in the list or tree to which a history replays exactly where the history put it in and didn't take it since.
use Rattle.std.proofs.Common.{◌≡◌, Bool, true, false, List, [], ◌∷◌, ◌++◌, Some, None, refl, sym, ◌∙◌, ap, subst, inl, inr}
use Rattle.std.specs.Prelude.{not, nat_lt, if◌then◌else◌}
use Rattle.std.proofs.lemmas.Bool.{cases_Bool}
use Rattle.bm_journal.specs.declared.ids.ObjId.{ObjId}
use Rattle.bm_journal.specs.declared.past.Past.{Past}
use Rattle.bm_journal.specs.declared.past.PastCall.{PastCall}
use Rattle.bm_journal.specs.declared.past.PastCall.TheVariants as past
use Rattle.bm_graph.specs.Objects.{Node, Object, has_object, ids_of, is_first, is_last, list_after, list_object, list_right, same_object, tree_after, tree_object, tree_right, with_node, without_first, without_last, without_node}
use Rattle.bm_graph.specs.Replay.{replay, replay_from}
use Rattle.bm_graph.proofs.Ids.{same_object-sym, same_object-true}
use Rattle.bm_law_graphs.specs.Calls.{effect_of}
use Rattle.bm_law_graphs.specs.Refusals.{stands_after, stands_from}

-- ---- objects that differ

abbrev Differ : List ObjId → Type 0
Differ [] = Unit {0}
Differ (o ∷ os) = (has_object os o ≡ false) × Differ os

-- one more, and one less
abbrev more : (x id : ObjId) → Bool → Bool
more x id b = if same_object x id then true else b

abbrev less : (x id : ObjId) → Bool → Bool
less x id b = if same_object x id then false else b

true-false : true ≡ false → ⊥
true-false e = cc

has-parts : (o x : ObjId) (os : List ObjId) → has_object (o ∷ os) x ≡ false → (same_object o x ≡ false) × (has_object os x ≡ false)
has-parts o x os e = elim (cases_Bool (same_object o x)) [
  | inl y ↦ (let wrong : true ≡ false = rw y at e in absurd (true-false wrong))
  | inr n ↦ (let rest : has_object os x ≡ false = rw n at e in (n, rest))
]

none-less : (x id : ObjId) → less x id false ≡ false
none-less x id = elim (cases_Bool (same_object x id)) [ inl y ↦ rw y refl | inr n ↦ rw n refl ]

no-more : (x id : ObjId) (b : Bool) → same_object x id ≡ false → b ≡ false → more x id b ≡ false
no-more x id b n e = rw n e

-- ---- lists

has-front : (x id : ObjId) (os : List ObjId) → has_object (x ∷ os) id ≡ more x id (has_object os id)
has-front x id os = elim (cases_Bool (same_object x id)) [ inl y ↦ rw y refl | inr n ↦ rw n refl ]

has-back : (x id : ObjId) (os : List ObjId) → has_object (os ++ x ∷ []) id ≡ more x id (has_object os id)
has-back x id [] = has-front x id []
has-back x id (o ∷ os) = elim (cases_Bool (same_object o id)) [
  | inl y ↦ rw y (elim (cases_Bool (same_object x id)) [ inl z ↦ rw z refl | inr z ↦ rw z refl ])
  | inr n ↦ rw n (has-back x id os)
]

differ-back : (x : ObjId) (os : List ObjId) → Differ os → has_object os x ≡ false → Differ (os ++ x ∷ [])
differ-back x [] d e = (refl, tt)
differ-back x (o ∷ os) d e = let parts = has-parts o x os e in (has-back x o os ∙ no-more x o (has_object os o) (same_object-sym o x parts.0) d.0, differ-back x os d.1 parts.1)

first-less : (x id : ObjId) (os : List ObjId) → is_first os x ≡ true → Differ os → has_object (without_first os) id ≡ less x id (has_object os id)
first-less x id [] e d = absurd (true-false (sym e))
first-less x id (o ∷ os) e d =
    let same : o ≡ x = same_object-true o x e in
    elim (cases_Bool (same_object x id)) [
      | inl y ↦ (let here : o ≡ id = same ∙ same_object-true x id y in rw y (subst (λ i. has_object os i ≡ false) here d.0))
      | inr n ↦ (let apart : same_object o id ≡ false = ap (λ i. same_object i id) same ∙ n in rw (n, apart) refl)
    ]

differ-first : (os : List ObjId) → Differ os → Differ (without_first os)
differ-first [] d = tt
differ-first (o ∷ os) d = d.1

last-in : (x : ObjId) (os : List ObjId) → is_last os x ≡ true → has_object os x ≡ true
last-in x [] e = absurd (true-false (sym e))
last-in x (o ∷ []) e = rw e refl
last-in x (o ∷ p ∷ os) e = elim (cases_Bool (same_object o x)) [ inl y ↦ rw y refl | inr n ↦ rw n (last-in x (p ∷ os) e) ]

last-less : (x id : ObjId) (os : List ObjId) → is_last os x ≡ true → Differ os → has_object (without_last os) id ≡ less x id (has_object os id)
last-less x id [] e d = absurd (true-false (sym e))
last-less x id (o ∷ []) e d =
    let same : o ≡ x = same_object-true o x e in
    elim (cases_Bool (same_object x id)) [
      | inl y ↦ rw y refl
      | inr n ↦ (let apart : same_object o id ≡ false = ap (λ i. same_object i id) same ∙ n in rw (n, apart) refl)
    ]
last-less x id (o ∷ p ∷ os) e d = elim (cases_Bool (same_object o id)) [
  | inl y ↦
      (let here : o ≡ id = same_object-true o id y in
      let other : same_object x id ≡ false = elim (cases_Bool (same_object x id)) [
        | inl z ↦ (let there : x ≡ o = same_object-true x id z ∙ sym here in absurd (true-false (sym (last-in x (p ∷ os) e) ∙ (ap (has_object (p ∷ os)) there ∙ d.0))))
        | inr z ↦ z
      ] in
      rw (other, y) refl)
  | inr n ↦ rw n (last-less x id (p ∷ os) e d.1)
]

differ-last : (x : ObjId) (os : List ObjId) → is_last os x ≡ true → Differ os → Differ (without_last os)
differ-last x [] e d = tt
differ-last x (o ∷ []) e d = tt
differ-last x (o ∷ p ∷ os) e d = (last-less x o (p ∷ os) e d.1 ∙ (ap (less x o) d.0 ∙ none-less x o), differ-last x (p ∷ os) e d.1)

not-true : (b : Bool) → not b ≡ true → b ≡ false
not-true b e = elim (cases_Bool b) [ inl y ↦ (let wrong : false ≡ true = rw y at e in absurd (true-false (sym wrong))) | inr n ↦ n ]

-- what a call makes of the objects of a list or tree
abbrev Goes : (was now : List ObjId) → PastCall → Type 0
Goes was now call = Differ now × ((id : ObjId) → has_object now id ≡ stands_after id (has_object was id) (effect_of call))

list-goes : (os : List ObjId) (call : PastCall) → list_right os call ≡ true → Differ os → Goes os (list_after os call) call
list-goes os (past.PushFront x) e d = ((not-true (has_object os x) e, d), λ id. has-front x id os)
list-goes os (past.PushBack x) e d = (differ-back x os d (not-true (has_object os x) e), λ id. has-back x id os)
list-goes os (past.PopFront x) e d = (differ-first os d, λ id. first-less x id os e d)
list-goes os (past.PopBack x) e d = (differ-last x os e d, λ id. last-less x id os e d)
list-goes os (past.PushFrontAlready x owner) e d = (d, λ id. refl)
list-goes os (past.PushBackAlready x owner) e d = (d, λ id. refl)
list-goes os past.PopFrontNone e d = (d, λ id. refl)
list-goes os past.PopBackNone e d = (d, λ id. refl)
list-goes os _ e d = absurd (true-false (sym e))

-- ---- trees

has-with : (n : Node) (id : ObjId) (ns : List Node) → has_object (ids_of (with_node n ns)) id ≡ more n.id id (has_object (ids_of ns) id)
has-with n id [] = has-front n.id id []
has-with n id (m ∷ ns) = elim (cases_Bool (nat_lt n.key m.key)) [
  | inl y ↦ rw y (has-front n.id id (ids_of (m ∷ ns)))
  | inr y ↦ rw y (elim (cases_Bool (same_object m.id id)) [
    | inl z ↦ rw z (elim (cases_Bool (same_object n.id id)) [ inl w ↦ rw w refl | inr w ↦ rw w refl ])
    | inr z ↦ rw z (has-with n id ns)
  ])
]

differ-with : (n : Node) (ns : List Node) → Differ (ids_of ns) → has_object (ids_of ns) n.id ≡ false → Differ (ids_of (with_node n ns))
differ-with n [] d e = (refl, tt)
differ-with n (m ∷ ns) d e =
    let parts = has-parts m.id n.id (ids_of ns) e in
    elim (cases_Bool (nat_lt n.key m.key)) [
      | inl y ↦ rw y (e, d)
      | inr y ↦ rw y (has-with n m.id ns ∙ no-more n.id m.id (has_object (ids_of ns) m.id) (same_object-sym m.id n.id parts.0) d.0, differ-with n ns d.1 parts.1)
    ]

has-without : (x id : ObjId) (ns : List Node) → Differ (ids_of ns) → has_object (ids_of (without_node x ns)) id ≡ less x id (has_object (ids_of ns) id)
has-without x id [] d = sym (none-less x id)
has-without x id (m ∷ ns) d = elim (cases_Bool (same_object m.id x)) [
  | inl y ↦
      (let same : m.id ≡ x = same_object-true m.id x y in
      rw y (elim (cases_Bool (same_object x id)) [
        | inl z ↦ (let here : m.id ≡ id = same ∙ same_object-true x id z in rw z (subst (λ i. has_object (ids_of ns) i ≡ false) here d.0))
        | inr z ↦ (let apart : same_object m.id id ≡ false = ap (λ i. same_object i id) same ∙ z in rw (z, apart) refl)
      ]))
  | inr n ↦ rw n (elim (cases_Bool (same_object m.id id)) [
    | inl y ↦
        (let here : m.id ≡ id = same_object-true m.id id y in
        let other : same_object x id ≡ false = subst (λ i. same_object x i ≡ false) here (same_object-sym m.id x n) in
        rw (other, y) refl)
    | inr z ↦ rw z (has-without x id ns d.1)
  ])
]

differ-without : (x : ObjId) (ns : List Node) → Differ (ids_of ns) → Differ (ids_of (without_node x ns))
differ-without x [] d = tt
differ-without x (m ∷ ns) d = elim (cases_Bool (same_object m.id x)) [
  | inl y ↦ rw y d.1
  | inr n ↦ rw n (has-without x m.id ns d.1 ∙ (ap (less x m.id) d.0 ∙ none-less x m.id), differ-without x ns d.1)
]

tree-goes : (ns : List Node) (call : PastCall) → tree_right ns call ≡ true → Differ (ids_of ns) → Goes (ids_of ns) (ids_of (tree_after ns call)) call
tree-goes ns (past.Add x key) e d = (differ-with (record { id = x; key = key }) ns d (not-true (has_object (ids_of ns) x) e), λ id. has-with (record { id = x; key = key }) id ns)
tree-goes ns (past.Remove x) e d = (differ-without x ns d, λ id. has-without x id ns d)
tree-goes ns (past.AddAlready x key owner) e d = (d, λ id. refl)
tree-goes ns (past.First x) e d = (d, λ id. refl)
tree-goes ns past.FirstNone e d = (d, λ id. refl)
tree-goes ns _ e d = absurd (true-false (sym e))

-- ---- along a history

module _ {S : Type 0} (object : Object S) (ids : S → List ObjId) (goes : (s : S) (call : PastCall) → object.is_right s call ≡ true → Differ (ids s) → Goes (ids s) (ids (object.after s call)) call) where
  none-some : (t : S) → None ≡ Some t → ⊥
  none-some t e = cc

  pub stands-along : (s t : S) (h : List Past) (id : ObjId) → Differ (ids s) → replay_from object s h ≡ Some t → has_object (ids t) id ≡ stands_from id (has_object (ids s) id) h
  stands-along s t [] id d e = let same : s ≡ t = cc in ap (λ x. has_object (ids x) id) (sym same)
  stands-along s t (p ∷ h) id d e = elim (cases_Bool (object.is_right s p.call)) [
    | inl y ↦
        (let next = goes s p.call y d in
        let rest : replay_from object (object.after s p.call) h ≡ Some t = rw y at e in
        stands-along (object.after s p.call) t h id next.0 rest ∙ ap (λ b. stands_from id b h) (next.1 id))
    | inr n ↦ (let wrong : None ≡ Some t = rw n at e in absurd (none-some t wrong))
  ]

pub list-stands : (h : List Past) (os : List ObjId) → replay list_object h ≡ Some os → (id : ObjId) → has_object os id ≡ stands_from id false h
list-stands h os e id = stands-along list_object (λ os. os) list-goes [] os h id tt e

pub tree-stands : (h : List Past) (ns : List Node) → replay tree_object h ≡ Some ns → (id : ObjId) → has_object (ids_of ns) id ≡ stands_from id false h
tree-stands h ns e id = stands-along tree_object ids_of tree-goes [] ns h id tt e

-- While a processor holds a lock, nobody else calls.
use Rattle.std.proofs.Common.{◌≡◌, ◌≢◌, ℕ, ◌+◌, Option, List, [], ◌∷◌, ◌++◌, length, Some, None, refl, sym, ◌∙◌, ap, subst, arith, inl, inr, length-append}
use Rattle.std.proofs.lemmas.Bool.{cases_Bool}
use Rattle.std.proofs.lemmas.Bool.Decides.{eqb_tells}
use Rattle.std.proofs.lemmas.Slice.Eq.{bytes_eq-Decides}
use Rattle.std.specs.Str.{bytes_eq}
use Rattle.bm_journal.specs.declared.ids.Tag.{Tag}
use Rattle.bm_journal.specs.declared.entry.Entry.{Entry}
use Rattle.bm_journal.specs.declared.entry.Entry.TheVariants as entry
use Rattle.bm_law.specs.Lists.{Log}
use Rattle.bm_law_lives.specs.Together.{Each}
use Rattle.bm_law_order.specs.Orders.{AllFit, Order, part_of}
use Rattle.bm_law_laid.specs.OrderOf.{IsOrderOf}
use Rattle.bm_law_graphs.specs.Calls.{GraphCall, graph_call}
use Rattle.bm_law_graphs.specs.Shelves.{CallFits, IsShelved, Shelved, ShelvedFit, Shelves, called, call_in, entry_of, guarded_after, key_of, nothing_shelved, shelved_after, tag_in}
use Rattle.bm_law_graphs.specs.Locks.{Consecutive, Follows, Free, LocksLaw, Next, Taken, Under, called_under, position_on, under_after, under_call}

-- what a log has under a lock, beside who holds it and how long the history is
abbrev Agrees : (p : ℕ) → Under → Option ℕ → ℕ → Type 0
Agrees p Free holder n = Unit {0}
Agrees p Taken holder n = holder ≡ Some p
Agrees p (Next k) holder n = (holder ≡ Some p) × (n ≡ k)

none-some : (p : ℕ) → None ≡ Some p → ⊥
none-some p e = cc

number : Option ℕ → ℕ
number None = 0
number (Some p) = p

some-same : (p q : ℕ) → Some p ≡ Some q → p ≡ q
unfolding number
some-same p q e = ap number e

-- ---- an entry of this processor

called-agrees : (p position n : ℕ) (u : Under) (holder : Option ℕ) → position ≡ n → Agrees p u holder n → Follows u position × Agrees p (called_under position u) holder (n + 1)
called-agrees p position n Free holder e a = (tt, tt)
called-agrees p position n Taken holder e a = (tt, (a, ap (λ k. k + 1) (sym e)))
called-agrees p position n (Next k) holder e a = (e ∙ a.1, (a.0, ap (λ k. k + 1) (sym e)))

own-call : (names : List (List ℕ)) (name : List ℕ) (p l : ℕ) (x : Option GraphCall) (tag : Tag) (s t : Shelves) (u : Under) → CallFits names p l x tag s → t.histories name ≡ s.histories name → Agrees p u (t.holders name) (length (s.histories name)) →
    Each (Follows u) (position_on name x) × Agrees p (under_call name x u) ((called names x tag t).holders name) (length ((called names x tag t).histories name))
own-call names name p l None tag s t u f same a = (tt, subst (λ h. Agrees p u (t.holders name) (length h)) (sym same) a)
own-call names name p l (Some x) tag s t u f same a = elim (cases_Bool (bytes_eq x.graph name)) [
  | inl y ↦
      (let here : x.graph ≡ name = (bytes_eq-Decides x.graph name).0 y in
      let position : x.position ≡ length (s.histories name) = subst (λ n. x.position ≡ length (s.histories n)) here f.position in
      let both = called-agrees p x.position (length (s.histories name)) u (t.holders name) position a in
      let longer : length (s.histories name) + 1 ≡ length (t.histories name ++ entry_of x tag ∷ []) = (let all = length-append (t.histories name) (entry_of x tag ∷ []) in let long = ap length same in omega (arith, all, long)) in
      rw y ((both.0, tt), subst (λ n. Agrees p (called_under x.position u) (t.holders name) n) longer both.1))
  | inr n ↦ rw n (tt, subst (λ h. Agrees p u (t.holders name) (length h)) (sym same) a)
]

-- keys and owners don't matter
position-same : (names : List (List ℕ)) (key : ℕ → ℕ) (name : List ℕ) (e : Entry) → position_on name (graph_call [] (λ v. 0) e) ≡ position_on name (graph_call names key e)
position-same names key name (entry.Lock n) = refl
position-same names key name _ = refl

under-same : (names : List (List ℕ)) (key : ℕ → ℕ) (name : List ℕ) (u : Under) (e : Entry) → under_call name (graph_call [] (λ v. 0) e) u ≡ under_call name (graph_call names key e) u
under-same names key name u (entry.Lock n) = refl
under-same names key name u _ = refl

abbrev After : (names : List (List ℕ)) → (name : List ℕ) → (p q l : ℕ) → Entry → Shelved → Under → Type 0
After names name p q l e s u = let now : Shelves = (shelved_after names q l e s).shelves in Agrees p u (now.holders name) (length (now.histories name))

abbrev Now : (name : List ℕ) → (p : ℕ) → Shelved → Under → Type 0
Now name p s u = Agrees p u (s.shelves.holders name) (length (s.shelves.histories name))

plain-entry : (names : List (List ℕ)) (name : List ℕ) (p l : ℕ) (e : Entry) (s : Shelved) (u : Under) → ShelvedFit names p l e s → Agrees p u ((guarded_after p e s.shelves).holders name) (length (s.shelves.histories name)) →
    Each (Follows u) (position_on name (graph_call [] (λ v. 0) e)) × After names name p p l e s (under_call name (graph_call [] (λ v. 0) e) u)
plain-entry names name p l e s u f a =
    let key : ℕ → ℕ = λ v. key_of (s.objects.made v) in
    let both = own-call names name p l (call_in names e s.objects) (tag_in p s.objects) s.shelves (guarded_after p e s.shelves) u f.2 refl a in (
      subst (λ xs. Each (Follows u) xs) (sym (position-same names key name e)) both.0,
      subst (λ v. After names name p p l e s v) (sym (under-same names key name u e)) both.1,
    )

own-entry : (names : List (List ℕ)) (name : List ℕ) (p l : ℕ) (e : Entry) (s : Shelved) (u : Under) → ShelvedFit names p l e s → Now name p s u →
    Each (Follows u) (position_on name (graph_call [] (λ v. 0) e)) × After names name p p l e s (under_after name u (l, e))
own-entry names name p l (entry.Lock n) s u f a = elim (cases_Bool (bytes_eq n name)) [
  | inl y ↦ (tt, rw y refl)
  | inr y ↦ (tt, rw y a)
]
own-entry names name p l (entry.Unlock n) s u f a = elim (cases_Bool (bytes_eq n name)) [
  | inl y ↦ (tt, rw y tt)
  | inr y ↦ (tt, rw y a)
]
own-entry names name p l e s u f a = plain-entry names name p l e s u f a

-- ---- an entry of another processor

abbrev Holds : (p : ℕ) → (name : List ℕ) → Shelves → Type 0
Holds p name s = s.holders name ≡ Some p

other-call : (names : List (List ℕ)) (name : List ℕ) (p q l : ℕ) (x : Option GraphCall) (tag : Tag) (s : Shelves) (e : Entry) → q ≢ p → CallFits names q l x tag s → Holds p name s → (called names x tag (guarded_after q e s)).histories name ≡ s.histories name
other-call names name p q l None tag s e ne f held = refl
other-call names name p q l (Some x) tag s e ne f held = elim (cases_Bool (bytes_eq x.graph name)) [
  | inl y ↦
      (let here : x.graph ≡ name = (bytes_eq-Decides x.graph name).0 y in
      let holder : s.holders x.graph ≡ Some p = subst (λ n. s.holders n ≡ Some p) (sym here) held in
      elim f.guarded [
        | inl own ↦ absurd (ne (some-same q p (sym own ∙ holder)))
        | inr closing ↦ absurd (none-some p (sym closing.free ∙ holder))
      ])
  | inr n ↦ rw n refl
]

other-holder : (name : List ℕ) (names : List (List ℕ)) (p q l : ℕ) (e : Entry) (s : Shelved) → q ≢ p → ShelvedFit names q l e s → Holds p name s.shelves → (guarded_after q e s.shelves).holders name ≡ Some p
other-holder name names p q l (entry.Lock n) s ne f held = elim (cases_Bool (bytes_eq n name)) [
  | inl y ↦ (let here : n ≡ name = (bytes_eq-Decides n name).0 y in absurd (none-some p (sym f.0.1 ∙ subst (λ m. s.shelves.holders m ≡ Some p) (sym here) held)))
  | inr y ↦ rw y held
]
other-holder name names p q l (entry.Unlock n) s ne f held = elim (cases_Bool (bytes_eq n name)) [
  | inl y ↦ (let here : n ≡ name = (bytes_eq-Decides n name).0 y in absurd (ne (some-same q p (sym f.0.1 ∙ subst (λ m. s.shelves.holders m ≡ Some p) (sym here) held))))
  | inr y ↦ rw y held
]
other-holder name names p q l _ s ne f held = held

called-holder : (names : List (List ℕ)) (name : List ℕ) (x : Option GraphCall) (tag : Tag) (s : Shelves) → (called names x tag s).holders name ≡ s.holders name
called-holder names name None tag s = refl
called-holder names name (Some x) tag s = refl

still-holds : (names : List (List ℕ)) (name : List ℕ) (p q l : ℕ) (e : Entry) (s : Shelved) → q ≢ p → ShelvedFit names q l e s → Holds p name s.shelves → Holds p name (shelved_after names q l e s).shelves
still-holds names name p q l e s ne f held = called-holder names name (call_in names e s.objects) (tag_in q s.objects) (guarded_after q e s.shelves) ∙ other-holder name names p q l e s ne f held

other-entry : (names : List (List ℕ)) (name : List ℕ) (p q l : ℕ) (e : Entry) (s : Shelved) (u : Under) → q ≢ p → ShelvedFit names q l e s → Now name p s u → After names name p q l e s u
other-entry names name p q l e s Free ne f a = tt
other-entry names name p q l e s Taken ne f a = still-holds names name p q l e s ne f a
other-entry names name p q l e s (Next k) ne f a = (
  still-holds names name p q l e s ne f a.0,
  ap length (other-call names name p q l (call_in names e s.objects) (tag_in q s.objects) s.shelves e ne f.2 a.0) ∙ a.1,
)

-- ---- along an order

pub consecutive-over : (names : List (List ℕ)) (name : List ℕ) (p : ℕ) (o : Order) (s : Shelved) (u : Under) → AllFit (shelved_after names) (ShelvedFit names) o s → Now name p s u → Consecutive name u (part_of p o)
consecutive-over names name p [] s u h a = tt
consecutive-over names name p (e ∷ o) s u h a =
    let now : Shelved = shelved_after names e.processor e.level e.entry s in
    elim (eqb_tells e.processor p) [
      | inl y ↦
          (let own = own-entry names name e.processor e.level e.entry s u h.0 (subst (λ q. Now name q s u) (sym y.1) a) in
          let then : Now name p now (under_after name u (e.level, e.entry)) = subst (λ q. Now name q now (under_after name u (e.level, e.entry))) y.1 own.1 in
          rw y.0 (own.0, consecutive-over names name p o now (under_after name u (e.level, e.entry)) h.1 then))
      | inr y ↦ rw y.0 (consecutive-over names name p o now u h.1 (other-entry names name p e.processor e.level e.entry s u y.1 h.0 a))
    ]

pub logs-consecutive : (names : List (List ℕ)) (logs : List Log) (o : Order) → IsOrderOf logs o → IsShelved names o → LocksLaw logs
logs-consecutive names logs o is h name p lt = subst (Consecutive name Free) (is.parts p lt) (consecutive-over names name p o nothing_shelved Free h tt)

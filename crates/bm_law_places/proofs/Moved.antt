-- A move of units from a place to another, and what it leaves in one place.
use Rattle.std.specs.Prelude.{◌≡◌, ◌≢◌, ℕ, zero, suc, ◌+◌, if◌then◌else◌, List, Option, Some, None}
use Rattle.std.proofs.Common.{refl, sym, ◌∙◌, ap, subst, inl, inr, arith}
use Rattle.bm_law.specs.Stands.{times}
use Rattle.bm_law_places.specs.Place.{Place, times_at}
use Rattle.bm_law_places.specs.Placed.{InOnePlace}
use Rattle.bm_law_places.specs.World.{World}
use Rattle.bm_law_places.proofs.Same.{place_tells, same_place}

pub record Move : Type 0 where
  pub from : Place
  pub to : Place
  pub units : List ℕ

abbrev pub moves : Place → Place → List ℕ → Option Move
moves from to units = Some (record { from = from; to = to; units = units })

-- how often a move takes unit u from a place, and brings it there
abbrev pub taken : ℕ → Place → Option Move → ℕ
taken u x None = 0
taken u x (Some m) = if same_place x m.from then times u m.units else 0

abbrev pub come : ℕ → Place → Option Move → ℕ
come u x None = 0
come u x (Some m) = if same_place x m.to then times u m.units else 0

-- After a move each place names a unit as often as before, less what was taken, and what has come.
abbrev pub Balanced : ℕ → Option Move → (before now : Place → ℕ) → Type 0
Balanced u m before now = (x : Place) → now x + taken u x m ≡ before x + come u x m

-- ---- one place

-- one of these numbers is 1, and the others are 0
pub record IsOnce (f : Place → ℕ) : Type 0 where
  pub place : Place
  pub here : f place ≡ 1
  pub only : (other : Place) → other ≢ place → f other ≡ 0

module _ (f g : Place → ℕ) where
  as-before : ((x : Place) → g x ≡ f x) → IsOnce f → IsOnce g
  as-before e once = record { place = once.place; here = e once.place ∙ once.here; only = λ x ne. e x ∙ once.only x ne }

  -- so many go from one place to another
  record Goes (a b : Place) (k : ℕ) : Type 0 where
    less : g a + k ≡ f a
    more : g b ≡ f b + k
    rest : (x : Place) → x ≢ a → x ≢ b → g x ≡ f x

  goes-none : (a b : Place) (k : ℕ) → Goes a b k → k ≡ 0 → (x : Place) → g x ≡ f x
  goes-none a b k go none x =
      let less = go.less in
      let more = go.more in
      elim (place_tells x a) [
        | inl y ↦ subst (λ z. g z ≡ f z) (sym y.1) (omega (arith, less, none))
        | inr y ↦
            elim (place_tells x b) [
              | inl z ↦ subst (λ w. g w ≡ f w) (sym z.1) (omega (arith, more, none))
              | inr z ↦ go.rest x y.1 z.1
            ]
      ]

  goes-one : (a b : Place) (k : ℕ) → a ≢ b → Goes a b k → (once : IsOnce f) → once.place ≡ a → IsOnce g
  goes-one a b zero ne go once e = as-before (goes-none a b zero go refl) once
  goes-one a b (suc k) ne go once e =
      let less = go.less in
      let more = go.more in
      let here : f a ≡ 1 = ap f (sym e) ∙ once.here in
      let there : f b ≡ 0 = once.only b (λ q. ne (sym (q ∙ e))) in
      record {
        place = b;
        here = omega (arith, less, more, here, there);
        only = λ x other.
            elim (place_tells x a) [
              | inl y ↦ ap g y.1 ∙ omega (arith, less, here)
              | inr y ↦ go.rest x y.1 other ∙ once.only x (λ q. y.1 (q ∙ e))
            ];
      }

  goes-once : (a b : Place) (k : ℕ) → a ≢ b → Goes a b k → IsOnce f → IsOnce g
  goes-once a b k ne go once =
      elim (place_tells once.place a) [
        | inl y ↦ goes-one a b k ne go once y.1
        | inr y ↦
            let away : f a ≡ 0 = once.only a (λ q. y.1 (sym q)) in
            let less = go.less in
            as-before (goes-none a b k go (omega (arith, less, away))) once
      ]

  -- what is balanced goes so
  goes-so : (u : ℕ) (m : Move) → m.from ≢ m.to → Balanced u (Some m) f g → Goes m.from m.to (times u m.units)
  goes-so u m ne e = record {
    less = elim (place_tells m.from m.from) [
      | inl y ↦ elim (place_tells m.from m.to) [ inl z ↦ absurd (ne z.1) | inr z ↦ (let q = rw (y.0, z.0) at (e m.from) in omega (arith, q)) ]
      | inr y ↦ absurd (y.1 refl)
    ];
    more = elim (place_tells m.to m.to) [
      | inl y ↦ elim (place_tells m.to m.from) [ inl z ↦ absurd (ne (sym z.1)) | inr z ↦ (let q = rw (y.0, z.0) at (e m.to) in omega (arith, q)) ]
      | inr y ↦ absurd (y.1 refl)
    ];
    rest = λ x out in_.
        elim (place_tells x m.from) [
          | inl y ↦ absurd (out y.1)
          | inr y ↦ elim (place_tells x m.to) [ inl z ↦ absurd (in_ z.1) | inr z ↦ (let q = rw (y.0, z.0) at (e x) in omega (arith, q)) ]
        ];
  }

  same-place-stays : (u : ℕ) (m : Move) → m.from ≡ m.to → Balanced u (Some m) f g → (x : Place) → g x ≡ f x
  same-place-stays u m same e x = (let q : g x + taken u x (Some m) ≡ f x + taken u x (Some m) = e x ∙ ap (λ z. f x + (if same_place x z then times u m.units else 0)) (sym same) in omega (arith, q))

  pub once-moved : (u : ℕ) (m : Option Move) → Balanced u m f g → IsOnce f → IsOnce g
  once-moved u None e once = as-before (λ x. let q = e x in omega (arith, q)) once
  once-moved u (Some m) e once =
      elim (place_tells m.from m.to) [
        | inl y ↦ as-before (same-place-stays u m y.1 e) once
        | inr y ↦ goes-once m.from m.to (times u m.units) y.1 (goes-so u m y.1 e) once
      ]

pub one-once : (u : ℕ) (w : World) → InOnePlace u w → IsOnce (λ x. times_at u x w)
one-once u w h = record { place = h.place; here = h.here; only = h.only }

pub once-one : (u : ℕ) (w : World) → IsOnce (λ x. times_at u x w) → InOnePlace u w
once-one u w h = record { place = h.place; here = h.here; only = h.only }

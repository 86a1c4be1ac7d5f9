-- Parcels that came from an inbox.
use Rattle.std.proofs.Common.{◌≡◌, ◌<◌, ◌≤◌, ◌+◌, ◌++◌, ◌^◌, ℕ, true, false, Bool, ◌==◌, List, [], ◌∷◌, length, drop, get_or, Option, Some, None, IfSome, refl, sym, ◌∙◌, ap, subst, arith, append-nil, append_assoc, inl, inr}
use Rattle.std.specs.List.{All, concat}
use Rattle.std.specs.Option.{option_map}
use Rattle.std.proofs.lemmas.List.{map-append, length-map}
use Rattle.std.proofs.lemmas.List.Elements.{All-append, All-head, All-tail}
use Rattle.std.proofs.lemmas.Bool.Decides.{nat_tests}
use mathlib.Core.Path.{fun_ext}
use Rattle.bm_page.specs.UnitState.{UnitState}
use Rattle.bm_page.specs.declared.units.Seal.{Seal}
use Rattle.bm_grace.specs.Known.{Known}
use Rattle.bm_grace.specs.Rights.{Rights}
use Rattle.bm_law.specs.Stands.{times, stands, Once, AllUnder}
use Rattle.bm_law.specs.State.{State, opening, with_side}
use Rattle.bm_law.specs.declared.mark.Mark.TheVariants as mark
use Rattle.bm_law.proofs.Once as onces
use Rattle.bm_law.proofs.Stands.{times-append}
use Rattle.bm_post.specs.Calls.{IsOf, Takes, Receives}
use Rattle.bm_law.specs.Inboxes.{Inboxes, oldest}
use Rattle.bm_post.specs.Parcels.{parcel_taken}
use Rattle.bm_post.specs.Rights.{AreSame, Gains, IsSettled, Lasting, number_of, numbers}
use Rattle.bm_post.proofs.Counts.{at-number, here-times, zero-or-more}
use Rattle.bm_closing.specs.Arrived.{Arrived, Came, emptied}

numbers-append : (us vs : List UnitState) → numbers (us ++ vs) ≡ numbers us ++ numbers vs
numbers-append us vs = map-append number_of us vs

times-both : (n : ℕ) (us vs : List UnitState) → times n (numbers (us ++ vs)) ≡ times n (numbers us) + times n (numbers vs)
times-both n us vs = ap (times n) (numbers-append us vs) ∙ times-append n (numbers us) (numbers vs)

-- ---- units that came behind others

-- what was mine is mine, after units came that weren't
pub gains-mine : (r q : Rights) (come : List ℕ) → Gains come r q → (n : ℕ) → r.mine n ≡ true → q.mine n ≡ true
gains-mine r q come g n h = elim (zero-or-more (times n come)) [
  | inl none ↦ g.others n none ∙ h
  | inr some ↦ g.are n some
]

true-false : (b : Bool) → b ≡ true → b ≡ false → ⊥
true-false b p q = absurd (cc)

-- a unit that came isn't among those of mine
apart : (r q : Rights) (us : List UnitState) (come : List ℕ) → Gains come r q → All (λ (u : UnitState). r.mine u.number ≡ true) us → (n : ℕ) → 0 < times n come → times n (numbers us) ≡ 0
apart r q us come g m n some = elim (zero-or-more (times n (numbers us))) [
  | inl none ↦ none
  | inr there ↦ absurd (true-false (r.mine n) (at-number (λ k. r.mine k ≡ true) us n m there) (g.were_not n some))
]

pub arrived-more : (class : ℕ) (r q : Rights) (us vs : List UnitState) → Arrived class r us → Takes class vs r q → Lasting [] r q → Arrived class q (us ++ vs)
arrived-more class r q us vs a t l = record {
  holds = record {
    each = All-append (λ (u : UnitState). q.mine u.number ≡ true) us vs
        (λ i d lt. gains-mine r q (numbers vs) t.gains (get_or us i d).number (a.holds.each i d lt))
        (came-mine vs t.gains.are);
    once = λ n. elim (zero-or-more (times n (numbers vs))) [
      | inl none ↦ (let e = times-both n us vs in let o = a.holds.once n in omega (arith, e, o, none))
      | inr some ↦ (let e = times-both n us vs in let o = t.gains.once n in let z = apart r q us (numbers vs) t.gains a.holds.each n some in omega (arith, e, o, z))
    ];
  };
  of_class = All-append (IsOf class) us vs a.of_class t.of_class;
  settled = All-append (IsSettled q) us vs
      (λ i d lt. (let u = get_or us i d in l.settled u.number u.life u.seal (a.holds.each i d lt) (gains-mine r q (numbers vs) t.gains u.number (a.holds.each i d lt)) (a.settled i d lt)))
      t.settled;
}
  where
    came-mine : (ws : List UnitState) → ((n : ℕ) → 0 < times n (numbers ws) → q.mine n ≡ true) → All (λ (u : UnitState). q.mine u.number ≡ true) ws
    came-mine ws h i d lt = h (get_or ws i d).number (here-times ws i d lt)

-- ---- how many there may be

abbrev in-hand : List ℕ → State ℕ
in-hand xs = with_side 0 (record { hand = xs; mark = mark.Quiet }) (opening 0)

stands-hand : (n : ℕ) (xs : List ℕ) → stands n (in-hand xs) ≡ times n xs
unfolding stands
stands-hand n xs = omega arith

pub few : (xs : List ℕ) → AllUnder 65536 xs → ((n : ℕ) → times n xs ≤ 1) → length xs ≤ 65536
few xs u o =
    let once : Once (in-hand xs) = λ n. (let e = stands-hand n xs in let k = o n in omega (arith, e, k)) in
    let h = onces.room 65536 (in-hand xs) 0 0 [] (omega arith) (omega arith) once (λ n. omega arith) tt u in
    omega (arith, h)

under : (us : List UnitState) → All (λ (u : UnitState). u.number < 65536) us → AllUnder 65536 (numbers us)
under [] h = tt
under (u ∷ us) h = (All-head (λ (v : UnitState). v.number < 65536) u us h, under us (All-tail (λ (v : UnitState). v.number < 65536) u us h))

pub arrived-few : (class : ℕ) (r : Rights) (us : List UnitState) → ((n life : ℕ) (seal : Option Seal) → r.settled n life seal ≡ true → (n < 2 ^ 16) × (life + 1 < 2 ^ 32)) → Arrived class r us → length us ≤ 65536
arrived-few class r us room a =
    let h = few (numbers us) (under us (λ i d lt. (let u = get_or us i d in (room u.number u.life u.seal (a.settled i d lt)).0))) a.holds.once in
    let e : length (numbers us) ≡ length us = length-map us number_of in
    omega (arith, h, e)

-- ---- what is told of the inbox

taken-none : (class : ℕ) (boxes : Inboxes) → boxes class ≡ [] → parcel_taken class boxes ≡ emptied class boxes
taken-none class boxes e = fun_ext (λ k. row k (k == class) refl)
  where
    row : (k : ℕ) (b : Bool) → (k == class) ≡ b → parcel_taken class boxes k ≡ emptied class boxes k
    row k true h = rw h (rw (same k h) (rw e refl))
      where
        same : (k : ℕ) → (k == class) ≡ true → k ≡ class
        same k h = grind (arith, nat_tests, h)
    row k false h = rw h refl

taken-emptied : (class : ℕ) (boxes : Inboxes) → emptied class (parcel_taken class boxes) ≡ emptied class boxes
taken-emptied class boxes = fun_ext (λ k. row k (k == class) refl)
  where
    row : (k : ℕ) (b : Bool) → (k == class) ≡ b → emptied class (parcel_taken class boxes) k ≡ emptied class boxes k
    row k true h = rw h refl
    row k false h = rw h refl

-- none was there
pub told-none : (class : ℕ) (o p : Option Inboxes) → p ≡ option_map (parcel_taken class) o → IfSome o (λ boxes. boxes class ≡ []) → p ≡ option_map (emptied class) o
told-none class None p e h = e
told-none class (Some boxes) p e h = e ∙ ap Some (taken-none class boxes h)

pub empty-told : (class : ℕ) (o : Option Inboxes) → IfSome o (λ boxes. boxes class ≡ []) → IfSome o (λ boxes. numbers [] ≡ concat (boxes class))
empty-told class None h = tt
empty-told class (Some boxes) h = rw h refl

-- one was, and then the others
pub told-more : (class : ℕ) (o p q : Option Inboxes) → p ≡ option_map (parcel_taken class) o → q ≡ option_map (emptied class) p → q ≡ option_map (emptied class) o
told-more class None p q e f = f ∙ ap (option_map (emptied class)) e
told-more class (Some boxes) p q e f = f ∙ (ap (option_map (emptied class)) e ∙ ap Some (taken-emptied class boxes))

first-parcel : (ps : List (List ℕ)) (us vs : List ℕ) → 0 < length us → oldest ps ≡ us → vs ≡ concat (drop 1 ps) → us ++ vs ≡ concat ps
first-parcel [] us vs some e f = absurd (no-units us some e)
  where
    no-units : (us : List ℕ) → 0 < length us → [] ≡ us → ⊥
    no-units [] some e = omega (arith, some)
    no-units (u ∷ us) some e = cc
first-parcel (p ∷ ps) us vs some e f = rw (sym e) (ap (λ z. p ++ z) f)

pub parcels-told : (class : ℕ) (o p : Option Inboxes) (us vs : List UnitState) → 0 < length us → p ≡ option_map (parcel_taken class) o → IfSome o (λ boxes. oldest (boxes class) ≡ numbers us) → IfSome p (λ boxes. numbers vs ≡ concat (boxes class)) → IfSome o (λ boxes. numbers (us ++ vs) ≡ concat (boxes class))
parcels-told class None p us vs some e h k = tt
parcels-told class (Some boxes) p us vs some e h k =
    let F : Option Inboxes → Type 0 = λ x. IfSome x (λ b. numbers vs ≡ concat (b class)) in
    let m : numbers vs ≡ concat (parcel_taken class boxes class) = subst F e k in
    let c : (class == class) ≡ true = grind (arith, nat_tests) in
    let n : numbers vs ≡ concat (drop 1 (boxes class)) = m ∙ rw c refl in
    let l : 0 < length (numbers us) = (let q = length-map us number_of in omega (arith, q, some)) in
    numbers-append us vs ∙ first-parcel (boxes class) (numbers us) (numbers vs) l h n

-- where no unit came there was no parcel
empty-came : (class : ℕ) (o : Option Inboxes) → IfSome o (λ boxes. boxes class ≡ []) → IfSome o (λ boxes. numbers [] ≡ [] → boxes class ≡ [])
empty-came class None h = tt
empty-came class (Some boxes) h = λ n. h

some-came : (class : ℕ) (vs ws : List UnitState) (o : Option Inboxes) → 0 < length vs → IfSome o (λ boxes. numbers (vs ++ ws) ≡ [] → boxes class ≡ [])
some-came class vs ws None h = tt
some-came class [] ws (Some boxes) h = absurd (omega (arith, h))
some-came class (v ∷ vs) ws (Some boxes) h = λ n. absurd (some-none v.number (numbers (vs ++ ws)) n)
  where
    some-none : (x : ℕ) (xs : List ℕ) → x ∷ xs ≡ [] → ⊥
    some-none x xs e = cc

-- ---- all of it

pub came-none : (class : ℕ) (us : List UnitState) (r q : Rights) (k m : Known) → AreSame r q → m.parcels ≡ option_map (parcel_taken class) k.parcels → m.grace ≡ k.grace → m.objects ≡ k.objects → IfSome k.parcels (λ boxes. boxes class ≡ []) → Came class us us r q k m
came-none class us r q k m s e g o h = record {
  came = [];
  units_are = sym (append-nil us);
  stay = λ n x. s n ∙ x;
  fresh = λ n x. absurd (omega (arith, x));
  others = λ n x. s n;
  parcels = empty-told class k.parcels h;
  none_came = empty-came class k.parcels h;
  none_left = told-none class k.parcels m.parcels e h;
  grace = g;
  objects = o;
}

pub came-more : (class : ℕ) (us vs ws : List UnitState) (r q t : Rights) (k m n : Known) → Receives class vs r q → m.parcels ≡ option_map (parcel_taken class) k.parcels → m.grace ≡ k.grace → m.objects ≡ k.objects → IfSome k.parcels (λ boxes. oldest (boxes class) ≡ numbers vs) → Came class (us ++ vs) ws q t m n → Came class us ws r t k n
came-more class us vs ws r q t k m n g e same o h c = record {
  came = vs ++ c.came;
  units_are = c.units_are ∙ append_assoc us vs c.came;
  stay = λ i x. c.stay i (gains-mine r q (numbers vs) g.takes.gains i x);
  fresh = λ i x. elim (zero-or-more (times i (numbers vs))) [
    | inl none ↦ (let b = times-both i vs c.came in let f = c.fresh i (omega (arith, x, b, none)) in sym (g.takes.gains.others i none) ∙ f)
    | inr some ↦ g.takes.gains.were_not i some
  ];
  others = λ i x. (let b = times-both i vs c.came in c.others i (omega (arith, x, b)) ∙ g.takes.gains.others i (omega (arith, x, b)));
  parcels = parcels-told class k.parcels m.parcels vs c.came g.some e h c.parcels;
  none_came = some-came class vs c.came k.parcels g.some;
  none_left = told-more class k.parcels m.parcels n.parcels e c.none_left;
  grace = c.grace ∙ same;
  objects = c.objects ∙ o;
}

-- Parcels came so far: whatever comes then, all of it came.
pub record So_far (class : ℕ) (units units' : List UnitState) (rights rights' : Rights) (known known' : Known) : Type 0 where
  pub arrived : Arrived class rights' units'
  pub then_came : (more : List UnitState) (q : Rights) (m : Known) → Came class units' more rights' q known' m → Came class units more rights q known m
  pub stay : (n : ℕ) → rights.mine n ≡ true → rights'.mine n ≡ true
  pub lasts : Lasting [] rights rights'

-- what lasts over two calls
pub lasting-join : (r q t : Rights) → ((n : ℕ) → r.mine n ≡ true → q.mine n ≡ true) → Lasting [] r q → Lasting [] q t → Lasting [] r t
lasting-join r q t stay a b = record {
  settled = λ n life seal m k h. (let y = stay n m in b.settled n life seal y k (a.settled n life seal m y h));
  due = λ n life seal m k e h. (let y = stay n m in b.due n life seal y k e (a.due n life seal m y e h));
  ripe = λ n life seal m k e h. (let y = stay n m in b.ripe n life seal y k e (a.ripe n life seal m y e h));
  since = λ d x n m k h. (let y = stay n m in b.since d x n y k (a.since d x n m y h));
}

pub so-far-more : (class : ℕ) (us vs ws : List UnitState) (r q t : Rights) (k m n : Known) → So_far class us vs r q k m → Receives class ws q t → Lasting [] q t → n.parcels ≡ option_map (parcel_taken class) m.parcels → n.grace ≡ m.grace → n.objects ≡ m.objects → IfSome m.parcels (λ boxes. oldest (boxes class) ≡ numbers ws) → So_far class us (vs ++ ws) r t k n
so-far-more class us vs ws r q t k m n s g l e same j h = record {
  arrived = arrived-more class q t vs ws s.arrived g.takes l;
  then_came = λ more p o c. s.then_came more p o (came-more class vs ws more q t p m n o g e same j h c);
  stay = λ i x. gains-mine q t (numbers ws) g.takes.gains i (s.stay i x);
  lasts = lasting-join r q t s.stay s.lasts l;
}

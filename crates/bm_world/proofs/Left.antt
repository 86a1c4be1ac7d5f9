-- Units that go away, each with what it has waited for.
use Rattle.std.proofs.Common.{◌≡◌, ◌≢◌, ◌⊎◌, ◌∙◌, ℕ, zero, suc, ◌<◌, ◌≤◌, true, false, List, [], ◌∷◌, length, length-set, get_or, set, replicate, refl, sym, ap, subst, inl, inr, arith, eqb, eq-eqb, ne_eqb, Option, Some, None}
use Rattle.std.specs.Prelude.{◌&&◌, nat_le}
use Rattle.std.specs.List.{All}
use Rattle.std.proofs.lemmas.Bool.{cases_eq, and_parts, and_from, eqb-true, false≢true, leb-true}
use Rattle.std.proofs.lemmas.List.{get_or-set_other, get_or-set_same}
use Rattle.std.proofs.lemmas.List.Elements.{All-head, All-tail, All-cons, All-nil}
use Rattle.bm_law.specs.Stands.{times}
use Rattle.bm_page.specs.UnitState.{UnitState}
use Rattle.bm_page.specs.declared.units.Seal.{Seal}
use Rattle.bm_law_order.specs.Act.{sealed}
use Rattle.bm_law_order.specs.Seals.{Batch, Goes, GoesAway, Over, all_ended, ended, seal_among}
use Rattle.bm_law_order.specs.Seals.{Wait as Wait'}
use Rattle.bm_post.specs.Rights.{numbers}
use Rattle.bm_post.proofs.Counts.{here-times, zero-or-more}
use Rattle.bm_world.specs.Standings.{IsTimed, copied, has_waited, is_over, left_by, same_seal, standing_at, standing_of, told_standing, waits_told}
use Rattle.bm_world.specs.WaitingState.{passes}
use Rattle.bm_world.specs.declared.wait.Wait.{Wait}
use Rattle.bm_world.specs.declared.standing.Standing.{Standing}
use Rattle.bm_world.specs.declared.standing.Standing.TheVariants.{Nothing, Waits, Sealed}

-- ---- seals

same-is : (s t : Seal) → same_seal s t ≡ true → s ≡ t
same-is s t h =
    let p = and_parts (eqb s.stamp t.stamp) (eqb s.seen t.seen) h in
    let F : ℕ → ℕ → Seal = λ x n. record { stamp = x; seen = n } in
    ap (λ x. F x s.seen) (eqb-true s.stamp t.stamp p.0) ∙ ap (F t.stamp) (eqb-true s.seen t.seen p.1)

-- a unit that doesn't wait stands as its seal says
pub stands-so : (x : Standing) (seal : Option Seal) → has_waited x seal ≡ true → x ≡ standing_of seal
stands-so Nothing None h = refl
stands-so Nothing (Some t) h = absurd (false≢true h)
stands-so (Waits w) seal h = absurd (false≢true h)
stands-so (Sealed s) None h = absurd (false≢true h)
stands-so (Sealed s) (Some t) h = ap Sealed (same-is s t h)

same-self : (t : Seal) → same_seal t t ≡ true
same-self t = and_from (eqb t.stamp t.stamp) (eqb t.seen t.seen) (eq-eqb t.stamp t.stamp refl) (eq-eqb t.seen t.seen refl)

waited-self : (seal : Option Seal) → has_waited (standing_of seal) seal ≡ true
waited-self None = refl
waited-self (Some t) = same-self t

pub waited-so : (x : Standing) (seal : Option Seal) → x ≡ standing_of seal → has_waited x seal ≡ true
waited-so x seal e = subst (λ y. has_waited y seal ≡ true) (sym e) (waited-self seal)

-- the stamp of a seal by which a wait is over isn't above its number
seal-order : (number : ℕ) (w : Wait) (s : Seal) → passes number w s ≡ true → s.stamp ≤ s.seen
seal-order number w s h = leb-true s.stamp s.seen (and_parts (nat_le s.stamp s.seen) (nat_le s.seen number) (and_parts (nat_le w.plain s.stamp) (nat_le s.stamp s.seen && nat_le s.seen number) h).1).0

-- a unit that may leave goes away with its seal
pub goes-so : (plain tracing : ℕ) (x : Standing) (seal : Option Seal) → (has_waited x seal ≡ true) ⊎ (is_over plain tracing x seal ≡ true) → IsTimed plain tracing x → GoesAway seal (told_standing x) (told_standing (standing_of seal))
goes-so plain tracing Nothing seal (inl h) t = ap told_standing (sym (stands-so Nothing seal h))
goes-so plain tracing Nothing seal (inr h) t = absurd (false≢true h)
goes-so plain tracing (Waits w) seal (inl h) t = absurd (false≢true h)
goes-so plain tracing (Waits w) None (inr h) t = tt
goes-so plain tracing (Waits w) (Some s) (inr h) t = (refl, seal-order plain w s h)
goes-so plain tracing (Sealed s) seal (inl h) t = ap told_standing (sym (stands-so (Sealed s) seal h))
goes-so plain tracing (Sealed s) seal (inr h) t = absurd (false≢true h)

-- .. and stands so that it is timed
pub timed-so : (plain tracing : ℕ) (x : Standing) (seal : Option Seal) → (has_waited x seal ≡ true) ⊎ (is_over plain tracing x seal ≡ true) → IsTimed plain tracing x → IsTimed plain tracing (standing_of seal)
timed-so plain tracing x seal (inl h) t = subst (IsTimed plain tracing) (stands-so x seal h) t
timed-so plain tracing (Waits w) None (inr h) t = tt
timed-so plain tracing (Waits w) (Some s) (inr h) t = seal-order plain w s h
timed-so plain tracing Nothing seal (inr h) t = absurd (false≢true h)
timed-so plain tracing (Sealed s) seal (inr h) t = absurd (false≢true h)

-- ---- lists

-- at first each unit waits for nothing
pub none-stands : (k n : ℕ) → standing_at (replicate k Nothing) n ≡ Nothing
none-stands zero n = refl
none-stands (suc k) zero = refl
none-stands (suc k) (suc n) = none-stands k n

abbrev pub Standings : Type 0
Standings = List Standing

pub left-size : (us : List UnitState) (ss : Standings) → length (left_by us ss) ≡ length ss
left-size [] ss = refl
left-size (u ∷ us) ss = left-size us (set ss u.number (standing_of u.seal)) ∙ length-set ss u.number (standing_of u.seal)

pub left-other : (us : List UnitState) (ss : Standings) (n : ℕ) → times n (numbers us) ≡ 0 → standing_at (left_by us ss) n ≡ standing_at ss n
left-other [] ss n h = refl
left-other (u ∷ us) ss n h =
    elim (cases_eq n u.number) [
      | inl same ↦ absurd (let e = eq-eqb n u.number same in let g = rw e at h in omega (arith, g))
      | inr other ↦
          let e : eqb n u.number ≡ false = ne_eqb n u.number other in
          let g = rw e at h in
          left-other us (set ss u.number (standing_of u.seal)) n (omega (arith, g)) ∙ get_or-set_other ss u.number n (standing_of u.seal) Nothing other
    ]

-- ---- units that come back

pub copied-size : (us : List UnitState) (from to : Standings) → length (copied us from to) ≡ length to
copied-size [] from to = refl
copied-size (u ∷ us) from to = copied-size us from (set to u.number (standing_at from u.number)) ∙ length-set to u.number (standing_at from u.number)

copied-other : (us : List UnitState) (from to : Standings) (n : ℕ) → times n (numbers us) ≡ 0 → standing_at (copied us from to) n ≡ standing_at to n
copied-other [] from to n h = refl
copied-other (u ∷ us) from to n h =
    elim (cases_eq n u.number) [
      | inl same ↦ absurd (let e = eq-eqb n u.number same in let g = rw e at h in omega (arith, g))
      | inr other ↦
          let e : eqb n u.number ≡ false = ne_eqb n u.number other in
          let g = rw e at h in
          copied-other us from (set to u.number (standing_at from u.number)) n (omega (arith, g)) ∙ get_or-set_other to u.number n (standing_at from u.number) Nothing other
    ]

-- where one list stands as the other at a number it stays so
copied-keeps : (us : List UnitState) (from to : Standings) (n : ℕ) → n < length to → standing_at to n ≡ standing_at from n → standing_at (copied us from to) n ≡ standing_at from n
copied-keeps [] from to n lt h = h
copied-keeps (u ∷ us) from to n lt h =
    copied-keeps us from (set to u.number (standing_at from u.number)) n (subst (λ m. n < m) (sym (length-set to u.number (standing_at from u.number))) lt)
    (elim (cases_eq n u.number) [
      | inl same ↦ ap (standing_at (set to u.number (standing_at from u.number))) same ∙ (get_or-set_same to u.number (standing_at from u.number) Nothing (subst (λ m. m < length to) same lt) ∙ ap (standing_at from) (sym same))
      | inr other ↦ get_or-set_other to u.number n (standing_at from u.number) Nothing other ∙ h
    ])

copied-there : (us : List UnitState) (from to : Standings) (n : ℕ) → n < length to → 0 < times n (numbers us) → standing_at (copied us from to) n ≡ standing_at from n
copied-there [] from to n lt h = absurd (omega (arith, h))
copied-there (u ∷ us) from to n lt h =
    let now : Standings = set to u.number (standing_at from u.number) in
    let within : n < length now = subst (λ m. n < m) (sym (length-set to u.number (standing_at from u.number))) lt in
    elim (cases_eq n u.number) [
      | inl same ↦ copied-keeps us from now n within (ap (standing_at now) same ∙ (get_or-set_same to u.number (standing_at from u.number) Nothing (subst (λ m. m < length to) same lt) ∙ ap (standing_at from) (sym same)))
      | inr other ↦
          let e : eqb n u.number ≡ false = ne_eqb n u.number other in
          let g = rw e at h in
          copied-there us from now n within (omega (arith, g))
    ]

same-lists : (xs ys : Standings) → length xs ≡ length ys → ((n : ℕ) → n < length xs → standing_at xs n ≡ standing_at ys n) → xs ≡ ys
same-lists [] [] e h = refl
same-lists [] (y ∷ ys) e h = absurd (omega (arith, e))
same-lists (x ∷ xs) [] e h = absurd (omega (arith, e))
same-lists (x ∷ xs) (y ∷ ys) e h =
    let head : x ≡ y = h 0 (omega arith) in
    let tail : xs ≡ ys = same-lists xs ys (omega (arith, e)) (λ n lt. h (suc n) (omega (arith, lt))) in
    ap (λ z. z ∷ xs) head ∙ ap (λ zs. y ∷ zs) tail

-- units that come back wait for what they did
pub back-same : (us : List UnitState) (ss before : Standings) → length before ≡ length ss → copied us (copied us ss before) (left_by us ss) ≡ ss
back-same us ss before e =
    let gone : Standings = left_by us ss in
    let kept : Standings = copied us ss before in
    let size : length (copied us kept gone) ≡ length ss = copied-size us kept gone ∙ left-size us ss in
    same-lists (copied us kept gone) ss size (λ n lt. elim (zero-or-more (times n (numbers us))) [
      | inl none ↦ copied-other us kept gone n none ∙ left-other us ss n none
      | inr some ↦
          let here : n < length ss = subst (λ m. n < m) size lt in
          copied-there us kept gone n (subst (λ m. n < m) (sym (left-size us ss)) here) some ∙ copied-there us ss before n (subst (λ m. n < m) (sym e) here) some
    ])

-- of units of which no two have one number
pub left-there : (us : List UnitState) (ss : Standings) → ((n : ℕ) → times n (numbers us) ≤ 1) → All (λ (u : UnitState). u.number < length ss) us → All (λ (u : UnitState). standing_at (left_by us ss) u.number ≡ standing_of u.seal) us
left-there [] ss once there = All-nil _
left-there (u ∷ us) ss once there =
    let now : Standings = set ss u.number (standing_of u.seal) in
    let size : length now ≡ length ss = length-set ss u.number (standing_of u.seal) in
    let none : times u.number (numbers us) ≡ 0 = (let o = once u.number in let e = eq-eqb u.number u.number refl in let g = rw e at o in omega (arith, g)) in
    All-cons (λ (v : UnitState). standing_at (left_by us now) v.number ≡ standing_of v.seal) u us
    (left-other us now u.number none ∙ get_or-set_same ss u.number (standing_of u.seal) Nothing (All-head (λ (v : UnitState). v.number < length ss) u us there))
    (left-there us now (λ n. fewer n (once n)) (λ k d lt. subst (λ m. (get_or us k d).number < m) (sym size) (All-tail (λ (v : UnitState). v.number < length ss) u us there k d lt)))
  where
    fewer : (n : ℕ) → times n (numbers (u ∷ us)) ≤ 1 → times n (numbers us) ≤ 1
    fewer n h = omega (arith, h)

-- a unit stands as before, or is one of those that went
pub among : (us : List UnitState) (n : ℕ) → ((seal_among (sealed us) n ≡ None) × (times n (numbers us) ≡ 0)) ⊎ ((k : ℕ) × ((d : UnitState) → (k < length us) × (((get_or us k d).number ≡ n) × (seal_among (sealed us) n ≡ Some (get_or us k d).seal))))
among [] n = inl (refl, refl)
among (u ∷ us) n =
    elim (cases_eq n u.number) [
      | inl same ↦ inr (0, λ d. (omega arith, (sym same, rw (eq-eqb u.number n (sym same)) refl)))
      | inr other ↦
          let e : eqb u.number n ≡ false = ne_eqb u.number n (λ q. other (sym q)) in
          let f : eqb n u.number ≡ false = ne_eqb n u.number other in
          elim (among us n) [
            | inl none ↦ inl (rw e none.0, rw f (let g = none.1 in omega (arith, g)))
            | inr some ↦ inr (suc some.0, λ d. (let g = (some.1 d).0 in omega (arith, g), ((some.1 d).1.0, rw e (some.1 d).1.1)))
          ]
    ]

-- what units wait for goes as their seals say
pub goes-left : (plain tracing : ℕ) (us : List UnitState) (ss : Standings) → ((n : ℕ) → IsTimed plain tracing (standing_at ss n)) → ((n : ℕ) → times n (numbers us) ≤ 1) → All (λ (u : UnitState). u.number < length ss) us → All (λ (u : UnitState). (has_waited (standing_at ss u.number) u.seal ≡ true) ⊎ (is_over plain tracing (standing_at ss u.number) u.seal ≡ true)) us → (n : ℕ) → Goes (seal_among (sealed us) n) (waits_told ss n) (waits_told (left_by us ss) n)
goes-left plain tracing us ss timed once there may n =
    elim (among us n) [
      | inl none ↦ rw none.0 (ap told_standing (left-other us ss n none.1))
      | inr some ↦
          let zero-unit : UnitState = record { number = 0; class = 0; home = 0; life = 0; seal = None } in
          let x = some.1 zero-unit in
          let u : UnitState = get_or us some.0 zero-unit in
          let now : standing_at (left_by us ss) n ≡ standing_of u.seal = ap (standing_at (left_by us ss)) (sym x.1.0) ∙ left-there us ss once there some.0 zero-unit x.0 in
          let F : ℕ → Type 0 = λ m. GoesAway u.seal (told_standing (standing_at ss m)) (told_standing (standing_of u.seal)) in
          rw x.1.1 (subst (λ y. GoesAway u.seal (waits_told ss n) (told_standing y)) (sym now) (subst F x.1.0 (goes-so plain tracing (standing_at ss u.number) u.seal (may some.0 zero-unit x.0) (timed u.number))))
    ]

-- ---- the same, where it is known what the units waited for

-- units that don't wait stand as they did
pub left-settled : (us : List UnitState) (ss : Standings) → ((n : ℕ) → times n (numbers us) ≤ 1) → All (λ (u : UnitState). u.number < length ss) us → All (λ (u : UnitState). has_waited (standing_at ss u.number) u.seal ≡ true) us → (n : ℕ) → standing_at (left_by us ss) n ≡ standing_at ss n
left-settled us ss once fit settled n =
    elim (among us n) [
      | inl none ↦ left-other us ss n none.1
      | inr some ↦
          let zero-unit : UnitState = record { number = 0; class = 0; home = 0; life = 0; seal = None } in
          let x = some.1 zero-unit in
          let u : UnitState = get_or us some.0 zero-unit in
          ap (standing_at (left_by us ss)) (sym x.1.0) ∙ (left-there us ss once fit some.0 zero-unit x.0 ∙ (sym (stands-so (standing_at ss u.number) u.seal (settled some.0 zero-unit x.0)) ∙ ap (standing_at ss) x.1.0))
    ]

not-batch : (x : Standing) (seal : Option Seal) → has_waited x seal ≡ true → told_standing x ≢ Batch
not-batch Nothing seal h e = absurd (cc)
not-batch (Waits w) seal h e = absurd (false≢true h)
not-batch (Sealed s) seal h e = absurd (cc)

pub none-batch : (us : List UnitState) (ss : Standings) → All (λ (u : UnitState). has_waited (standing_at ss u.number) u.seal ≡ true) us → All (λ n. waits_told ss n ≢ Batch) (numbers us)
none-batch [] ss h = All-nil _
none-batch (u ∷ us) ss h =
    All-cons (λ n. waits_told ss n ≢ Batch) u.number (numbers us) (not-batch (standing_at ss u.number) u.seal (All-head (λ (v : UnitState). has_waited (standing_at ss v.number) v.seal ≡ true) u us h))
    (none-batch us ss (All-tail (λ (v : UnitState). has_waited (standing_at ss v.number) v.seal ≡ true) u us h))

-- a unit whose wait is over waits
over-waits : (plain tracing : ℕ) (x : Standing) (seal : Option Seal) → is_over plain tracing x seal ≡ true → told_standing x ≡ Batch
over-waits plain tracing Nothing seal h = absurd (false≢true h)
over-waits plain tracing (Waits w) seal h = refl
over-waits plain tracing (Sealed s) seal h = absurd (false≢true h)

all-ended-other : (x y : ℕ) (ns : List ℕ) (w : ℕ → Wait') (n : ℕ) → times n ns ≡ 0 → all_ended x y ns w n ≡ w n
all-ended-other x y [] w n h = refl
all-ended-other x y (m ∷ ns) w n h =
    elim (cases_eq n m) [
      | inl same ↦ absurd (let e = eq-eqb n m same in let g = rw e at h in omega (arith, g))
      | inr other ↦
          let e : eqb n m ≡ false = ne_eqb n m other in
          let g = rw e at h in
          rw e (all-ended-other x y ns w n (omega (arith, g)))
    ]

all-ended-there : (x y : ℕ) (ns : List ℕ) (w : ℕ → Wait') (n : ℕ) → 0 < times n ns → w n ≡ Batch → all_ended x y ns w n ≡ Over x y
all-ended-there x y [] w n h b = absurd (omega (arith, h))
all-ended-there x y (m ∷ ns) w n h b =
    elim (cases_eq n m) [
      | inl same ↦ rw (eq-eqb n m same) (subst (λ k. ended x y (all_ended x y ns w k) ≡ Over x y) same (elim (zero-or-more (times n ns)) [
        | inl none ↦ ap (ended x y) (all-ended-other x y ns w n none ∙ b)
        | inr some ↦ ap (ended x y) (all-ended-there x y ns w n some b)
      ]))
      | inr other ↦
          let e : eqb n m ≡ false = ne_eqb n m other in
          let g = rw e at h in
          rw e (all-ended-there x y ns w n (omega (arith, g)) b)
    ]

-- units that have waited for one stamp, by one number
pub left-released : (plain tracing : ℕ) (seal : Seal) (us : List UnitState) (ss : Standings) → ((n : ℕ) → times n (numbers us) ≤ 1) → All (λ (u : UnitState). u.number < length ss) us → All (λ (u : UnitState). (u.seal ≡ Some seal) × (is_over plain tracing (standing_at ss u.number) (Some seal) ≡ true)) us → (n : ℕ) → waits_told (left_by us ss) n ≡ all_ended seal.stamp seal.seen (numbers us) (waits_told ss) n
left-released plain tracing seal us ss once fit waited n =
    elim (among us n) [
      | inl none ↦ ap told_standing (left-other us ss n none.1) ∙ sym (all-ended-other seal.stamp seal.seen (numbers us) (waits_told ss) n none.1)
      | inr some ↦
          let zero-unit : UnitState = record { number = 0; class = 0; home = 0; life = 0; seal = None } in
          let x = some.1 zero-unit in
          let u : UnitState = get_or us some.0 zero-unit in
          let k = waited some.0 zero-unit x.0 in
          let batch : waits_told ss n ≡ Batch = ap (waits_told ss) (sym x.1.0) ∙ over-waits plain tracing (standing_at ss u.number) (Some seal) k.1 in
          let now : waits_told (left_by us ss) n ≡ Over seal.stamp seal.seen = ap (waits_told (left_by us ss)) (sym x.1.0) ∙ (ap told_standing (left-there us ss once fit some.0 zero-unit x.0) ∙ ap (λ (s : Option Seal). told_standing (standing_of s)) k.0) in
          now ∙ sym (all-ended-there seal.stamp seal.seen (numbers us) (waits_told ss) n (subst (λ m. 0 < times m (numbers us)) x.1.0 (here-times us some.0 zero-unit x.0)) batch)
    ]

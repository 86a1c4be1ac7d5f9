-- That units keep room for one life more.
use Rattle.std.proofs.Common.{◌≡◌, ℕ, zero, suc, ◌+◌, ◌*◌, ◌^◌, ◌<◌, ◌≤◌, replicate, true, List, [], ◌∷◌, ◌++◌, length, length-set, get_or, reverse, refl, sym, ◌∙◌, ap, subst, inl, inr, arith, Option, Some, None}
use Rattle.std.specs.Prelude.{◌&&◌, ◌⊎◌, nat_lt}
use Rattle.std.specs.List.{All}
use Rattle.std.proofs.lemmas.Bool.{cases_eq, cases_lt, lt-ltb}
use Rattle.std.proofs.lemmas.List.{get_or_past, reverse-append, length-replicate}
use Rattle.std.proofs.lemmas.List.Elements.{All-head, All-tail, All-append, All-cons, All-nil}
use Rattle.bm_page.specs.declared.units.Stocked.{Stocked}
use Rattle.bm_page.specs.UnitState.{UnitState, stocked_of}
use Rattle.bm_page.specs.Stock.{Stock, stocked_at, unborn, fetched, next_unit, given, returned}
use Rattle.bm_page.specs.Out.{AreOut, IsFromStock}
use Rattle.bm_page.proofs.StockLemmas.{stocked_at-same, stocked_at-other, out_inside}
use Rattle.bm_page.proofs.FetchLemmas.{fetched-zero, fetched-none, fetched-next}
use Rattle.bm_post.specs.HasRoom.{has_room, room-of}
use Rattle.bm_post.specs.PostState.{PostState, all_returned, rights_in}
use Rattle.bm_post.specs.Rights.{MayLeave}
use Rattle.bm_post.specs.Kept.{HasRoom, IsRoomy}

-- the test holds
pub room-is : (n life : ℕ) → n < 2 ^ 16 → life + 1 < 2 ^ 32 → has_room n life ≡ true
room-is n life h k = ap (λ b. b && nat_lt (life + 1) (2 ^ 32)) (lt-ltb n (2 ^ 16) h) ∙ lt-ltb (life + 1) (2 ^ 32) k

-- a unit that was given keeps its lives
pub given-life : (class number n : ℕ) (pool : Stock) → (stocked_at (given class number pool).units n).life ≡ (stocked_at pool.units n).life
unfolding given
given-life class number n pool =
    elim (cases_eq n number) [
      | inl same ↦ elim (cases_lt number (length pool.units)) [
        | inl less ↦ ap (λ m. (stocked_at (given class number pool).units m).life) same ∙ ap (λ (s : Stocked). s.life) (stocked_at-same pool.units number (record (stocked_at pool.units number) { out = true }) less) ∙ ap (λ m. (stocked_at pool.units m).life) (sym same)
        | inr past ↦ ap (λ m. (stocked_at (given class number pool).units m).life) same ∙ ap (λ (s : Stocked). s.life) (get_or_past (given class number pool).units number unborn (rw length-set past)) ∙ ap (λ (s : Stocked). s.life) (sym (get_or_past pool.units number unborn past)) ∙ ap (λ m. (stocked_at pool.units m).life) (sym same)
      ]
      | inr other ↦ ap (λ (s : Stocked). s.life) (stocked_at-other pool.units number n _ other)
    ]

given-roomy : (class number : ℕ) (pool : Stock) → IsRoomy pool → IsRoomy (given class number pool)
unfolding given
given-roomy class number pool h = record {
  size = rw length-set h.size;
  lives = λ n. let e = given-life class number n pool in omega (arith, e, h.lives n);
}

pub next_cases : (o : Option ℕ) → (o ≡ None) ⊎ ((n : ℕ) × (o ≡ Some n))
next_cases None = inl refl
next_cases (Some n) = inr (n, refl)

-- after a fetch
pub fetched-roomy : (class want : ℕ) (pool : Stock) → IsRoomy pool → IsRoomy (fetched class want pool).pool
fetched-roomy class zero pool h = rw (fetched-zero class zero pool refl) h
fetched-roomy class (suc want) pool h =
    elim (next_cases (next_unit class pool)) [
      | inl none ↦ rw (fetched-none class (suc want) pool none) h
      | inr (number, next) ↦ rw (fetched-next class want number pool next) (fetched-roomy class want (given class number pool) (given-roomy class number pool h))
    ]

-- units that came have room
pub came-room : (class : ℕ) (pool pool' : Stock) (us : List UnitState) → IsRoomy pool → IsRoomy pool' → All (IsFromStock class pool) us → AreOut pool' us → All HasRoom us
came-room class pool pool' us h h' each out k d lt =
    let u : UnitState = get_or us k d in
    let i : u.number < length pool'.units = out_inside pool'.units u.number (out.each k d lt).out in
    let s = h'.size in
    room-is u.number u.life (omega (arith, i, s)) (let e = (each k d lt).life in let l = h.lives u.number in omega (arith, e, l))

-- units that went back
returned-roomy : (u : UnitState) (pool : Stock) → HasRoom u → IsRoomy pool → IsRoomy (returned u pool)
unfolding returned
returned-roomy u pool r h = record {
  size = rw length-set h.size;
  lives = λ n. elim (cases_eq n u.number) [
    | inl same ↦ elim (cases_lt u.number (length pool.units)) [
      | inl less ↦ let e : (stocked_at (returned u pool).units n).life ≡ u.life = ap (λ m. (stocked_at (returned u pool).units m).life) same ∙ ap (λ (s : Stocked). s.life) (stocked_at-same pool.units u.number (stocked_of u) less) in let l = (room-of u.number u.life None r).1 in omega (arith, e, l)
      | inr past ↦ let e : (stocked_at (returned u pool).units n).life ≡ 0 = ap (λ m. (stocked_at (returned u pool).units m).life) same ∙ ap (λ (s : Stocked). s.life) (get_or_past (returned u pool).units u.number unborn (rw length-set past)) in omega (arith, e)
    ]
    | inr other ↦ let e : (stocked_at (returned u pool).units n).life ≡ (stocked_at pool.units n).life = ap (λ (s : Stocked). s.life) (stocked_at-other pool.units u.number n (stocked_of u) other) in omega (arith, e, h.lives n)
  ];
}

pub all-roomy : (us : List UnitState) (pool : Stock) → All HasRoom us → IsRoomy pool → IsRoomy (all_returned us pool)
all-roomy [] pool r h = h
all-roomy (u ∷ us) pool r h = all-roomy us (returned u pool) (All-tail HasRoom u us r) (returned-roomy u pool (All-head HasRoom u us r) h)

pub all-reversed : (us : List UnitState) → All HasRoom us → All HasRoom (reverse us)
all-reversed [] h = h
all-reversed (u ∷ us) h =
    let e : reverse (u ∷ us) ≡ reverse us ++ u ∷ [] = reverse-append (u ∷ []) us in
    subst (All HasRoom) (sym e) (All-append HasRoom (reverse us) (u ∷ []) (all-reversed us (All-tail HasRoom u us h)) (All-cons HasRoom u [] (All-head HasRoom u us h) (All-nil HasRoom)))

-- what may leave has room
pub leaves-room : (s : PostState) (us : List UnitState) → All (MayLeave (rights_in s)) us → All HasRoom us
leaves-room s us h k d lt = elim (h k d lt) [ inl a ↦ a | inr b ↦ b ]

-- a pool that was just made
pub new-roomy : (pool : Stock) (pages : ℕ) → pages ≤ 256 → pool.units ≡ replicate (256 * pages) unborn → IsRoomy pool
new-roomy pool pages few e = record {
  size = let l : length pool.units ≡ 256 * pages = ap (λ (z : List Stocked). length z) e ∙ length-replicate (256 * pages) unborn in omega (arith, l, few);
  lives = λ n. let l : (stocked_at pool.units n).life ≡ 0 = ap (λ (z : List Stocked). (stocked_at z n).life) e ∙ unborn-at (256 * pages) n in omega (arith, l);
}
  where
    unborn-at : (k n : ℕ) → (stocked_at (replicate k unborn) n).life ≡ 0
    unborn-at zero n = refl
    unborn-at (suc k) zero = refl
    unborn-at (suc k) (suc n) = unborn-at k n

-- How many lives the units of the pool and of the inboxes have had.
use Rattle.std.proofs.Common.{◌≡◌, ℕ, suc, zero, List, [], ◌∷◌, ◌++◌, false, true, length, length-set, get_or, set, drop, replicate, reverse, refl, sym, ◌∙◌, ap, subst, inl, inr, Option, Some, None, Result, Ok, Err, OnOk, OnErr, IfSome, IfNone}
use Rattle.std.specs.List.{All}
use Rattle.std.proofs.lemmas.Bool.{cases_eq, cases_lt, false≢true}
use Rattle.std.proofs.lemmas.List.{get_or-set_same, get_or-set_other, get_or_past, reverse-append}
use Rattle.std.proofs.lemmas.List.Elements.{All-head, All-tail, All-append, All-cons, All-nil}
use Rattle.bm_page.specs.declared.units.Stocked.{Stocked}
use Rattle.bm_page.specs.UnitState.{UnitState, stocked_of}
use Rattle.bm_page.specs.Out.{IsFromStock}
use Rattle.bm_page.specs.Stock.{Stock, stocked_at, unborn, fetched, next_unit, given, returned}
use Rattle.bm_page.proofs.StockLemmas.{stocked_at-same, stocked_at-other}
use Rattle.bm_page.proofs.FetchLemmas.{fetched-zero, fetched-none, fetched-next}
use Rattle.bm_post.specs.PostState.{Parcels, PostState, all_returned, inbox, no_parcels, place, sent_to, taken_by}
use Rattle.bm_post.proofs.Room.{next_cases}
use Rattle.bm_world.specs.LivingState.{HasLived, HaveLived, LivedAs, begun_at}
use Rattle.bm_world.specs.Standings.{standing_at, standing_of}
use Rattle.bm_world.specs.declared.standing.Standing.{Standing}

-- each unit of a pool has had the lives that it has begun
abbrev pub StockLived : List ℕ → List Standing → Stock → Type 0
StockLived begun standings pool = (n : ℕ) → (stocked_at pool.units n).out ≡ false → HasLived begun standings n (stocked_at pool.units n).life (stocked_at pool.units n).seal

-- ---- units that come from the pool

-- of the rest of a pool it is so still
unlocked : (class number n : ℕ) (pool : Stock) → (stocked_at (given class number pool).units n).out ≡ false → stocked_at (given class number pool).units n ≡ stocked_at pool.units n
unfolding given
unlocked class number n pool out =
    elim (cases_eq n number) [
      | inl same ↦ elim (cases_lt number (length pool.units)) [
        | inl less ↦
            let e : stocked_at (given class number pool).units n ≡ record (stocked_at pool.units number) { out = true } = ap (λ m. stocked_at (given class number pool).units m) same ∙ stocked_at-same pool.units number (record (stocked_at pool.units number) { out = true }) less in
            absurd (false≢true (sym out ∙ ap (λ (s : Stocked). s.out) e))
        | inr past ↦ ap (λ m. stocked_at (given class number pool).units m) same ∙ get_or_past (given class number pool).units number unborn (rw length-set past) ∙ sym (get_or_past pool.units number unborn past) ∙ ap (λ m. stocked_at pool.units m) (sym same)
      ]
      | inr other ↦ stocked_at-other pool.units number n _ other
    ]

given-lived : (class number : ℕ) (begun : List ℕ) (standings : List Standing) (pool : Stock) → StockLived begun standings pool → StockLived begun standings (given class number pool)
given-lived class number begun standings pool h n out =
    let e = unlocked class number n pool out in
    let k = h n (ap (λ (s : Stocked). s.out) (sym e) ∙ out) in
    (ap (λ (s : Stocked). s.life) e ∙ k.0, k.1 ∙ ap (λ (s : Stocked). standing_of s.seal) (sym e))

fetched-lived : (class want : ℕ) (begun : List ℕ) (standings : List Standing) (pool : Stock) → StockLived begun standings pool → StockLived begun standings (fetched class want pool).pool
fetched-lived class zero begun standings pool h = rw (fetched-zero class zero pool refl) h
fetched-lived class (suc want) begun standings pool h =
    elim (next_cases (next_unit class pool)) [
      | inl none ↦ rw (fetched-none class (suc want) pool none) h
      | inr (number, next) ↦ rw (fetched-next class want number pool next) (fetched-lived class want begun standings (given class number pool) (given-lived class number begun standings pool h))
    ]

-- units that were in stock
pub came-lived : (class : ℕ) (begun : List ℕ) (standings : List Standing) (pool : Stock) (us : List UnitState) → StockLived begun standings pool → All (IsFromStock class pool) us → All (LivedAs begun standings) us
came-lived class begun standings pool us h each k d lt = let u : UnitState = get_or us k d in let e = each k d lt in let was = h u.number e.stock in (e.life ∙ was.0, was.1 ∙ ap standing_of (sym e.seal))

-- ---- units that go back to the pool

returned-lived : (u : UnitState) (begun : List ℕ) (standings : List Standing) (pool : Stock) → LivedAs begun standings u → StockLived begun standings pool → StockLived begun standings (returned u pool)
unfolding returned
returned-lived u begun standings pool r h n out =
    elim (cases_eq n u.number) [
      | inl same ↦ elim (cases_lt u.number (length pool.units)) [
        | inl less ↦
            let now : stocked_at (returned u pool).units n ≡ stocked_of u = ap (λ m. stocked_at (returned u pool).units m) same ∙ stocked_at-same pool.units u.number (stocked_of u) less in
            (ap (λ (s : Stocked). s.life) now ∙ r.0 ∙ ap (begun_at begun) (sym same), ap (standing_at standings) same ∙ r.1 ∙ ap (λ (s : Stocked). standing_of s.seal) (sym now))
        | inr past ↦ as-before (ap (λ m. stocked_at (returned u pool).units m) same ∙ get_or_past (returned u pool).units u.number unborn (rw length-set past) ∙ sym (get_or_past pool.units u.number unborn past) ∙ ap (λ m. stocked_at pool.units m) (sym same))
      ]
      | inr other ↦ as-before (stocked_at-other pool.units u.number n (stocked_of u) other)
    ]
  where
    as-before : stocked_at (returned u pool).units n ≡ stocked_at pool.units n → HasLived begun standings n (stocked_at (returned u pool).units n).life (stocked_at (returned u pool).units n).seal
    as-before e = let k = h n (ap (λ (s : Stocked). s.out) (sym e) ∙ out) in (ap (λ (s : Stocked). s.life) e ∙ k.0, k.1 ∙ ap (λ (s : Stocked). standing_of s.seal) (sym e))

all-lived : (us : List UnitState) (begun : List ℕ) (standings : List Standing) (pool : Stock) → All (LivedAs begun standings) us → StockLived begun standings pool → StockLived begun standings (all_returned us pool)
all-lived [] begun standings pool r h = h
all-lived (u ∷ us) begun standings pool r h = all-lived us begun standings (returned u pool) (All-tail (LivedAs begun standings) u us r) (returned-lived u begun standings pool (All-head (LivedAs begun standings) u us r) h)

all-reversed : (P : UnitState → Type 0) (us : List UnitState) → All P us → All P (reverse us)
all-reversed P [] h = h
all-reversed P (u ∷ us) h =
    let e : reverse (u ∷ us) ≡ reverse us ++ u ∷ [] = reverse-append (u ∷ []) us in
    subst (All P) (sym e) (All-append P (reverse us) (u ∷ []) (all-reversed P us (All-tail P u us h)) (All-cons P u [] (All-head P u us h) (All-nil P)))

-- ---- the calls of a post

pub lived-fetched : {E : Type 0} (r : Result ℕ E) (class want : ℕ) (begun : List ℕ) (standings : List Standing) (post post' : PostState) → OnOk r (post' ≡ record post { pool = (fetched class want post.pool).pool }) → OnErr r (post' ≡ post) → HaveLived begun standings post → HaveLived begun standings post'
lived-fetched (Ok n) class want begun standings post post' ok err h = subst (HaveLived begun standings) (sym ok) record { stock = fetched-lived class want begun standings post.pool h.stock; boxes = h.boxes }
lived-fetched (Err e) class want begun standings post post' ok err h = subst (HaveLived begun standings) (sym err) h

pub lived-back : (us : List UnitState) (begun : List ℕ) (standings : List Standing) (post post' : PostState) → post' ≡ record post { pool = all_returned (reverse us) post.pool } → All (LivedAs begun standings) us → HaveLived begun standings post → HaveLived begun standings post'
lived-back us begun standings post post' e all h = subst (HaveLived begun standings) (sym e) record { stock = all-lived (reverse us) begun standings post.pool (all-reversed (LivedAs begun standings) us all) h.stock; boxes = h.boxes }

-- an inbox was changed
boxes-set : (begun : List ℕ) (standings : List Standing) (i : ℕ) (xs : List Parcels) (x : Parcels) → All (All (LivedAs begun standings)) x → ((k : ℕ) → All (All (LivedAs begun standings)) (get_or xs k [])) → (k : ℕ) → All (All (LivedAs begun standings)) (get_or (set xs i x) k [])
boxes-set begun standings i xs x all h k =
    elim (cases_eq k i) [
      | inl same ↦ elim (cases_lt i (length xs)) [
        | inl less ↦ subst (λ j. All (All (LivedAs begun standings)) (get_or (set xs i x) j [])) (sym same) (rw (get_or-set_same xs i x [] less) all)
        | inr past ↦ let none : get_or (set xs i x) k [] ≡ [] = ap (λ j. get_or (set xs i x) j []) same ∙ get_or_past (set xs i x) i [] (rw length-set past) in rw none (All-nil _)
      ]
      | inr other ↦ rw (get_or-set_other xs i k x [] other) (h k)
    ]

pub lived-sent : {A E : Type 0} (r : Result A E) (to class : ℕ) (begun : List ℕ) (standings : List Standing) (us : List UnitState) (post post' : PostState) → OnOk r (post' ≡ sent_to to class us post) → OnErr r (post' ≡ post) → All (LivedAs begun standings) us → HaveLived begun standings post → HaveLived begun standings post'
lived-sent (Ok x) to class begun standings us post post' ok err all h = subst (HaveLived begun standings) (sym ok) record {
  stock = h.stock;
  boxes = boxes-set begun standings (place to class) post.inboxes (inbox to class post ++ us ∷ []) (All-append (All (LivedAs begun standings)) (inbox to class post) (us ∷ []) (h.boxes (place to class)) (All-cons (All (LivedAs begun standings)) us [] all (All-nil _))) h.boxes;
}
lived-sent (Err e) to class begun standings us post post' ok err all h = subst (HaveLived begun standings) (sym err) h

drop-lived : (begun : List ℕ) (standings : List Standing) (ps : Parcels) → All (All (LivedAs begun standings)) ps → All (All (LivedAs begun standings)) (drop 1 ps)
drop-lived begun standings [] h = h
drop-lived begun standings (p ∷ ps) h = All-tail (All (LivedAs begun standings)) p ps h

pub lived-received : {A : Type 0} (r : Option A) (class : ℕ) (begun : List ℕ) (standings : List Standing) (post post' : PostState) → IfSome r (λ v. post' ≡ taken_by post.processor class post) → IfNone r (post' ≡ post) → HaveLived begun standings post → HaveLived begun standings post'
lived-received (Some v) class begun standings post post' some none h = subst (HaveLived begun standings) (sym some) record {
  stock = h.stock;
  boxes = boxes-set begun standings (place post.processor class) post.inboxes (drop 1 (inbox post.processor class post)) (drop-lived begun standings (inbox post.processor class post) (h.boxes (place post.processor class))) h.boxes;
}
lived-received None class begun standings post post' some none h = subst (HaveLived begun standings) (sym none) h

-- units that came in a parcel
pub parcel-lived : {A : Type 0} (r : Option A) (items : A → List UnitState) (class : ℕ) (begun : List ℕ) (standings : List Standing) (post post' : PostState) → IfSome r (λ v. inbox post.processor class post ≡ items v ∷ inbox post.processor class post') → HaveLived begun standings post → IfSome r (λ v. All (LivedAs begun standings) (items v))
parcel-lived (Some v) items class begun standings post post' e h = All-head (All (LivedAs begun standings)) (items v) (inbox post.processor class post') (subst (All (All (LivedAs begun standings))) e (h.boxes (place post.processor class)))
parcel-lived None items class begun standings post post' e h = tt

-- ---- the beginning

-- where each count is 0
pub none-counted : (k n : ℕ) → begun_at (replicate k 0) n ≡ 0
none-counted zero n = refl
none-counted (suc k) zero = refl
none-counted (suc k) (suc n) = none-counted k n

-- a post whose pool was just made, and whose inboxes are empty
pub new-lived : (post : PostState) (k : ℕ) → post.pool.units ≡ replicate k unborn → post.inboxes ≡ no_parcels → HaveLived [] [] post
new-lived post k units empty = record {
  stock = λ n out. let e : stocked_at post.pool.units n ≡ unborn = ap (λ (z : List Stocked). stocked_at z n) units ∙ unborn-at k n in (ap (λ (s : Stocked). s.life) e, ap (λ (s : Stocked). standing_of s.seal) (sym e));
  boxes = λ i. let e : get_or post.inboxes i [] ≡ [] = ap (λ (z : List Parcels). get_or z i []) empty ∙ none-at 88 i in rw e (All-nil _);
}
  where
    unborn-at : (k n : ℕ) → stocked_at (replicate k unborn) n ≡ unborn
    unborn-at zero n = refl
    unborn-at (suc k) zero = refl
    unborn-at (suc k) (suc n) = unborn-at k n

    none-at : (k i : ℕ) → get_or (replicate k (let x : Parcels = [] in x)) i [] ≡ []
    none-at zero i = refl
    none-at (suc k) zero = refl
    none-at (suc k) (suc i) = none-at k i

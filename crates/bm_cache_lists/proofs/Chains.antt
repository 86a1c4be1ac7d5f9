-- Chains when a link or a head is written.
use Rattle.std.proofs.Common.{◌≡◌, ◌≢◌, ◌<◌, ◌≤◌, ℕ, zero, suc, ◌+◌, ◌++◌, List, [], ◌∷◌, length, set, get_or, get_or-set_other, get_or-set_same, ◌-◌, drop, take, replicate, length-append, true, eq-eqb, refl, sym, ◌∙◌, ap, arith, add-one, eqb, cond, subst, inl, inr}
use Rattle.std.specs.List.{All}
use Rattle.std.proofs.lemmas.List.{map-set, get_or-map, length-map, length-set}
use Rattle.std.proofs.lemmas.List.Elements.{All-head, All-tail, All-cons, All-nil, All-set, All-get_or, All-replicate}
use Rattle.std.proofs.lemmas.Bool.Decides.{eqb_tells}
use Rattle.bm_law.specs.Stands.{times, AllUnder}
use Rattle.bm_law.proofs.Stands.{times-append, times-take-drop, length-once}
use Rattle.bm_cache_lists.specs.declared.links.Head.{Head}
use Rattle.bm_cache_lists.specs.Chain.{Chain, follow, chain_of, chains, Ends, joined, Linked, IsLonger}

-- a number that stands nowhere in a list isn't its first, and stands nowhere below
pub not-first : (x y : ℕ) (ys : List ℕ) → times x (y ∷ ys) ≡ 0 → y ≢ x
not-first x y ys t q =
    elim (eqb_tells x y) [
      | inl s ↦ let e : ◌≡◌ {A = ℕ} (cond (eqb x y) 1 0) 1 = rw s.0 refl in omega (arith, e, t)
      | inr s ↦ s.1 (sym q)
    ]

pub not-below : (x y : ℕ) (ys : List ℕ) → times x (y ∷ ys) ≡ 0 → times x ys ≡ 0
not-below x y ys t = omega (arith, t)

-- THE LEMMA: a link that a chain doesn't have may be written.
pub chain-other : (next : List ℕ) (x v h : ℕ) (xs : List ℕ) → times x xs ≡ 0 → Chain next h xs → Chain (set next x v) h xs
chain-other next x v h [] t c = c
chain-other next x v h (y ∷ ys) t c =
    let e : get_or (set next x v) y 0 ≡ get_or next y 0 = get_or-set_other next x y v 0 (not-first x y ys t) in
    (c.0, rw (length-set next x v) c.1, rw e (chain-other next x v (get_or next y 0) ys (not-below x y ys t) c.2))

pub follow-other : (next : List ℕ) (x v n h : ℕ) → times x (follow next n h) ≡ 0 → follow (set next x v) n h ≡ follow next n h
follow-other next x v zero h t = refl
follow-other next x v (suc n) h t =
    let e : get_or (set next x v) h 0 ≡ get_or next h 0 = get_or-set_other next x h v 0 (not-first x h _ t) in
    rw e (ap (λ (xs : List ℕ). h ∷ xs) (follow-other next x v n (get_or next h 0) (not-below x h _ t)))

pub ends-other : (next : List ℕ) (x v : ℕ) (h : Head) → times x (chain_of next h) ≡ 0 → Ends next h → Ends (set next x v) h
ends-other next x v h t c =
    rw (follow-other next x v h.length h.first t) (chain-other next x v h.first (chain_of next h) t c)

left-none : (x : ℕ) (xs ys : List ℕ) → times x (xs ++ ys) ≡ 0 → times x xs ≡ 0
left-none x xs ys t = omega (arith, t, times-append x xs ys)

right-none : (x : ℕ) (xs ys : List ℕ) → times x (xs ++ ys) ≡ 0 → times x ys ≡ 0
right-none x xs ys t = omega (arith, t, times-append x xs ys)

-- the same of all lists
pub chains-other : (next : List ℕ) (x v : ℕ) (hs : List Head) → times x (joined (chains next hs)) ≡ 0 → chains (set next x v) hs ≡ chains next hs
chains-other next x v [] t = refl
chains-other next x v (h ∷ hs) t =
    let a = follow-other next x v h.length h.first (left-none x (chain_of next h) _ t) in
    let b = chains-other next x v hs (right-none x (chain_of next h) _ t) in
    rw (a, b) refl

pub all-other : (next : List ℕ) (x v : ℕ) (hs : List Head) → times x (joined (chains next hs)) ≡ 0 → All (Ends next) hs → All (Ends (set next x v)) hs
all-other next x v [] t a = All-nil (Ends (set next x v))
all-other next x v (h ∷ hs) t a =
    All-cons (Ends (set next x v)) h hs
    (ends-other next x v h (left-none x (chain_of next h) _ t) (All-head (Ends next) h hs a))
    (all-other next x v hs (right-none x (chain_of next h) _ t) (All-tail (Ends next) h hs a))

-- how often a number stands in all lists when one is written
pub times-set : (n : ℕ) (xss : List (List ℕ)) (k : ℕ) (ys : List ℕ) → k < length xss → times n (joined (set xss k ys)) + times n (get_or xss k []) ≡ times n (joined xss) + times n ys
times-set n [] k ys h = absurd (omega (arith, h))
times-set n (xs ∷ xss) zero ys h = omega (arith, times-append n xs (joined xss), times-append n ys (joined xss))
times-set n (xs ∷ xss) (suc k) ys h =
    omega (arith, times-append n xs (joined xss), times-append n xs (joined (set xss k ys)), times-set n xss k ys (let l : k < length xss = omega (arith, h) in l))

pub times-of : (n : ℕ) (xss : List (List ℕ)) (k : ℕ) → times n (get_or xss k []) ≤ times n (joined xss)
times-of n [] k = omega arith
times-of n (xs ∷ xss) zero = omega (arith, times-append n xs (joined xss))
times-of n (xs ∷ xss) (suc k) = omega (arith, times-append n xs (joined xss), times-of n xss k)

-- the numbers of a chain have links, so there are at most as many
pub chain-under : (next : List ℕ) (h : ℕ) (xs : List ℕ) → Chain next h xs → AllUnder (length next) xs
chain-under next h [] c = tt
chain-under next h (x ∷ xs) c = (c.1, chain-under next _ xs c.2)

pub length-follow : (next : List ℕ) (n h : ℕ) → length (follow next n h) ≡ n
length-follow next zero h = refl
length-follow next (suc n) h = ap (λ (k : ℕ). suc k) (length-follow next n (get_or next h 0))

-- the head that stands for none
abbrev pub none : Head
none = record { first = 0; length = 0 }

-- the end
abbrev pub over : Head
over = record { first = 65536; length = 0 }

pub at-chain : (next : List ℕ) (hs : List Head) (k : ℕ) → k < length hs → get_or (chains next hs) k [] ≡ chain_of next (get_or hs k none)
at-chain next hs k h = get_or-map (chain_of next) hs k none [] h

pub within : (next : List ℕ) (hs : List Head) (k : ℕ) → Linked next hs → k < 8 → k < length hs
within next hs k l h = omega (arith, l.eight, h)

pub within-chains : (next : List ℕ) (hs : List Head) (k : ℕ) → Linked next hs → k < 8 → k < length (chains next hs)
within-chains next hs k l h = omega (arith, l.eight, h, length-map hs (chain_of next))

pub ends-at : (next : List ℕ) (hs : List Head) (k : ℕ) → Linked next hs → k < 8 → Ends next (get_or hs k none)
ends-at next hs k l h = All-get_or (Ends next) hs k none (within next hs k l h) l.ends

-- a list with a number: its first number, and what follows it
pub first-under : (next : List ℕ) (n f : ℕ) → n ≢ 0 → Chain next f (follow next n f) → f < length next
first-under next zero f z c = absurd (z refl)
first-under next (suc n) f z c = c.1

pub first-on : (next : List ℕ) (n f : ℕ) → n ≢ 0 → follow next n f ≡ f ∷ drop 1 (follow next n f)
first-on next zero f z = absurd (z refl)
first-on next (suc n) f z = refl

pub rest-on : (next : List ℕ) (n f : ℕ) → n ≢ 0 → follow next (n - 1) (get_or next f 0) ≡ drop 1 (follow next n f)
rest-on next zero f z = absurd (z refl)
rest-on next (suc n) f z = let e : suc n - 1 ≡ n = omega arith in rw e refl

pub rest-ends : (next : List ℕ) (n f : ℕ) → n ≢ 0 → Chain next f (follow next n f) → Chain next (get_or next f 0) (follow next (n - 1) (get_or next f 0))
rest-ends next zero f z c = absurd (z refl)
rest-ends next (suc n) f z c = let e : suc n - 1 ≡ n = omega arith in rw e c.2

-- at most as many numbers as there are
pub length-under : (next : List ℕ) (hs : List Head) (k : ℕ) → Linked next hs → k < 8 → (get_or hs k none).length ≤ 65536
length-under next hs k l h =
    let xs = chain_of next (get_or hs k none) in
    let e = at-chain next hs k (within next hs k l h) in
    let o : (n : ℕ) → times n xs ≤ 1 = λ n. let t : times n xs ≤ times n (joined (chains next hs)) = subst (λ (ys : List ℕ). times n ys ≤ times n (joined (chains next hs))) e (times-of n (chains next hs) k) in omega (arith, t, l.once n) in
    let r : length xs ≤ length next = length-once (length next) xs (chain-under next _ xs (ends-at next hs k l h)) o in
    omega (arith, r, l.room, length-follow next (get_or hs k none).length (get_or hs k none).first)

-- PUSH
abbrev pub pushed : List Head → ℕ → ℕ → List Head
pushed hs k n = set hs k (record { first = n; length = (get_or hs k none).length + 1 })

-- at the number itself its new link is read
push-chain : (next : List ℕ) (n v len : ℕ) → n < length next → follow (set next n v) (len + 1) n ≡ n ∷ follow (set next n v) len v
push-chain next n v len m =
    let e : get_or (set next n v) n 0 ≡ v = get_or-set_same next n v 0 m in
    rw (add-one, e) refl

push-ends : (next : List ℕ) (n v len : ℕ) → n < length next → Chain (set next n v) v (follow (set next n v) len v) → Chain (set next n v) n (follow (set next n v) (len + 1) n)
push-ends next n v len m c =
    let e : get_or (set next n v) n 0 ≡ v = get_or-set_same next n v 0 m in
    rw (push-chain next n v len m) (refl, rw (length-set next n v) m, rw e c)

pub push-view : (next : List ℕ) (hs : List Head) (k n : ℕ) → Linked next hs → k < 8 → n < length next → times n (joined (chains next hs)) ≡ 0 → chains (set next n (get_or hs k none).first) (pushed hs k n) ≡ set (chains next hs) k (n ∷ get_or (chains next hs) k [])
push-view next hs k n l h m t =
    let o = get_or hs k none in
    let next' : List ℕ = set next n o.first in
    let h' : Head = record { first = n; length = o.length + 1 } in
    let e = at-chain next hs k (within next hs k l h) in
    let z : times n (get_or (chains next hs) k []) ≡ 0 = omega (arith, t, times-of n (chains next hs) k) in
    let y : times n (chain_of next o) ≡ 0 = subst (λ (ys : List ℕ). times n ys ≡ 0) e z in
    let q : chain_of next' h' ≡ n ∷ get_or (chains next hs) k [] =
    push-chain next n o.first o.length m ∙ ap (λ (ys : List ℕ). n ∷ ys) (follow-other next n o.first o.length o.first y) ∙ ap (λ (ys : List ℕ). n ∷ ys) (sym e) in
    map-set (chain_of next') hs k h' ∙ ap (λ (xss : List (List ℕ)). set xss k (chain_of next' h')) (chains-other next n o.first hs t) ∙ ap (λ (ys : List ℕ). set (chains next hs) k ys) q

-- a number that stood nowhere goes on a list
fresh-once : (n x a b c : ℕ) → a ≡ 0 → b ≤ 1 → (n ≡ x → b ≡ 0) → cond (eqb x n) 1 0 + b ≤ 1
fresh-once n x a b c p q r =
    elim (eqb_tells x n) [
      | inl s ↦ let e : ◌≡◌ {A = ℕ} (cond (eqb x n) 1 0) 1 = rw s.0 refl in omega (arith, e, r (sym s.1))
      | inr s ↦ let e : ◌≡◌ {A = ℕ} (cond (eqb x n) 1 0) 0 = rw s.0 refl in omega (arith, e, q)
    ]

pub push-once : (xss : List (List ℕ)) (k n : ℕ) → k < length xss → ((x : ℕ) → times x (joined xss) ≤ 1) → times n (joined xss) ≡ 0 → (x : ℕ) → times x (joined (set xss k (n ∷ get_or xss k []))) ≤ 1
push-once xss k n h o t x =
    let s = times-set x xss k (n ∷ get_or xss k []) h in
    let f : cond (eqb x n) 1 0 + times x (joined xss) ≤ 1 = fresh-once n x 0 (times x (joined xss)) 0 refl (o x) (λ q. subst (λ (y : ℕ). times y (joined xss) ≡ 0) q t) in
    omega (arith, s, f)

pub linked-push : (next : List ℕ) (hs : List Head) (k n : ℕ) → Linked next hs → k < 8 → n < length next → times n (joined (chains next hs)) ≡ 0 → Linked (set next n (get_or hs k none).first) (pushed hs k n)
linked-push next hs k n l h m t =
    let o = get_or hs k none in
    let next' : List ℕ = set next n o.first in
    let h' : Head = record { first = n; length = o.length + 1 } in
    let others = all-other next n o.first hs t l.ends in
    let mine : Ends next' o = All-get_or (Ends next') hs k none (within next hs k l h) others in
    record {
      room = rw (length-set next n o.first) l.room;
      eight = length-set hs k h' ∙ l.eight;
      ends = All-set (Ends next') hs k h' (push-ends next n o.first o.length m mine) others;
      once = λ x. rw (push-view next hs k n l h m t) (push-once (chains next hs) k n (within-chains next hs k l h) l.once t x);
    }

-- POP
abbrev pub popped : List Head → ℕ → ℕ → List Head
popped hs k v = set hs k (record { first = v; length = (get_or hs k none).length - 1 })

pub pop-view : (next : List ℕ) (hs : List Head) (k v : ℕ) → Linked next hs → k < 8 → (get_or hs k none).length ≢ 0 → v ≡ get_or next (get_or hs k none).first 0 → chains next (popped hs k v) ≡ set (chains next hs) k (drop 1 (get_or (chains next hs) k []))
pop-view next hs k v l h z w =
    let o = get_or hs k none in
    let h' : Head = record { first = v; length = o.length - 1 } in
    let q : chain_of next h' ≡ drop 1 (get_or (chains next hs) k []) = ap (follow next (o.length - 1)) w ∙ rest-on next o.length o.first z ∙ ap (λ (ys : List ℕ). drop 1 ys) (sym (at-chain next hs k (within next hs k l h))) in
    map-set (chain_of next) hs k h' ∙ ap (λ (ys : List ℕ). set (chains next hs) k ys) q

pub drop-once : (xss : List (List ℕ)) (k : ℕ) → k < length xss → (x : ℕ) → times x (joined (set xss k (drop 1 (get_or xss k [])))) + times x (take 1 (get_or xss k [])) ≡ times x (joined xss)
drop-once xss k h x =
    omega (arith, times-set x xss k (drop 1 (get_or xss k [])) h, times-take-drop x (get_or xss k []))

pub linked-pop : (next : List ℕ) (hs : List Head) (k v : ℕ) → Linked next hs → k < 8 → (get_or hs k none).length ≢ 0 → v ≡ get_or next (get_or hs k none).first 0 → Linked next (popped hs k v)
linked-pop next hs k v l h z w =
    let o = get_or hs k none in
    let h' : Head = record { first = v; length = o.length - 1 } in
    let e : Ends next h' = subst (λ (f : ℕ). Chain next f (follow next (o.length - 1) f)) (sym w) (rest-ends next o.length o.first z (ends-at next hs k l h)) in
    record {
      room = l.room;
      eight = length-set hs k h' ∙ l.eight;
      ends = All-set (Ends next) hs k h' e l.ends;
      once = λ x. rw (pop-view next hs k v l h z w) (omega (arith, drop-once (chains next hs) k (within-chains next hs k l h) x, l.once x));
    }

-- what the top of a list is
pub top-is : (next : List ℕ) (hs : List Head) (k : ℕ) → Linked next hs → k < 8 → (get_or hs k none).length ≢ 0 → get_or (chains next hs) k [] ≡ (get_or hs k none).first ∷ drop 1 (get_or (chains next hs) k [])
top-is next hs k l h z =
    let o = get_or hs k none in
    rw (at-chain next hs k (within next hs k l h)) (first-on next o.length o.first z)

pub top-under : (next : List ℕ) (hs : List Head) (k : ℕ) → Linked next hs → k < 8 → (get_or hs k none).length ≢ 0 → (get_or hs k none).first < length next
top-under next hs k l h z = first-under next (get_or hs k none).length (get_or hs k none).first z (ends-at next hs k l h)

pub empty-is : (next : List ℕ) (hs : List Head) (k : ℕ) → Linked next hs → k < 8 → (get_or hs k none).length ≡ 0 → get_or (chains next hs) k [] ≡ []
empty-is next hs k l h z =
    let o = get_or hs k none in
    rw (at-chain next hs k (within next hs k l h)) (ap (λ (n : ℕ). follow next n o.first) z)

-- a number that left the top stands nowhere
pub gone-once : (xss : List (List ℕ)) (k n : ℕ) → k < length xss → ((x : ℕ) → times x (joined xss) ≤ 1) → get_or xss k [] ≡ n ∷ drop 1 (get_or xss k []) → times n (joined (set xss k (drop 1 (get_or xss k [])))) ≡ 0
gone-once xss k n h o e =
    let t : times n (get_or xss k []) ≡ times n (n ∷ drop 1 (get_or xss k [])) = ap (times n) e in
    let u : eqb n n ≡ true = eq-eqb n n refl in
    let v : ◌≡◌ {A = ℕ} (cond (eqb n n) 1 0) 1 = rw u refl in
    omega (arith, times-set n xss k (drop 1 (get_or xss k [])) h, o n, t, v)

-- HAND ON
abbrev pub handed : List Head → ℕ → ℕ → List Head
handed hs from to = set (set hs to (get_or hs from none)) from over

pub hand-view : (next : List ℕ) (hs : List Head) (from to : ℕ) → Linked next hs → from < 8 → chains next (handed hs from to) ≡ set (set (chains next hs) to (get_or (chains next hs) from [])) from []
hand-view next hs from to l h =
    let o = get_or hs from none in
    map-set (chain_of next) (set hs to o) from over ∙
    ap (λ (xss : List (List ℕ)). set xss from []) (map-set (chain_of next) hs to o ∙ ap (λ (ys : List ℕ). set (chains next hs) to ys) (sym (at-chain next hs from (within next hs from l h))))

-- the list that was handed on stands there still, if it isn't the other
from-same : (xss : List (List ℕ)) (from to : ℕ) → to < length xss → get_or (set xss to (get_or xss from [])) from [] ≡ get_or xss from []
from-same xss from to h =
    elim (eqb_tells from to) [
      | inl s ↦ rw s.1 (get_or-set_same xss to (get_or xss to []) [] h)
      | inr s ↦ get_or-set_other xss to from (get_or xss from []) [] s.1
    ]

pub hand-once : (xss : List (List ℕ)) (from to : ℕ) → from < length xss → to < length xss → get_or xss to [] ≡ [] → (x : ℕ) → times x (joined (set (set xss to (get_or xss from [])) from [])) ≡ times x (joined xss)
hand-once xss from to h k e x =
    let a = times-set x xss to (get_or xss from []) k in
    let l : from < length (set xss to (get_or xss from [])) = omega (arith, h, length-set xss to (get_or xss from [])) in
    let b = times-set x (set xss to (get_or xss from [])) from [] l in
    let c = ap (times x) (from-same xss from to k) in
    let d = ap (times x) e in
    omega (arith, a, b, c, d)

pub linked-hand : (next : List ℕ) (hs : List Head) (from to : ℕ) → Linked next hs → from < 8 → to < 8 → get_or (chains next hs) to [] ≡ [] → Linked next (handed hs from to)
linked-hand next hs from to l h k e =
    let o = get_or hs from none in
    record {
      room = l.room;
      eight = length-set (set hs to o) from over ∙ length-set hs to o ∙ l.eight;
      ends = All-set (Ends next) (set hs to o) from over refl (All-set (Ends next) hs to o (ends-at next hs from l h) l.ends);
      once = λ x. rw (hand-view next hs from to l h) (omega (arith, hand-once (chains next hs) from to (within-chains next hs from l h) (within-chains next hs to l k) e x, l.once x));
    }

-- at the beginning
pub linked-new : (next : List ℕ) → length next ≡ 0 → Linked next (replicate 8 over)
linked-new next e = record {
  room = omega (arith, e);
  eight = refl;
  ends = All-replicate (Ends next) 8 over refl;
  once = λ n. omega arith;
}

-- A ROW OF LINKS THAT GREW: what was read of it is read as before
module _ (was is : List ℕ) (g : IsLonger 0 was is) where
  follow-longer : (n h : ℕ) → follow is n h ≡ follow was n h
  follow-longer zero h = refl
  follow-longer (suc n) h = rw (g.same h) (ap (λ (xs : List ℕ). h ∷ xs) (follow-longer n (get_or was h 0)))

  pub chains-longer : (hs : List Head) → chains is hs ≡ chains was hs
  chains-longer [] = refl
  chains-longer (h ∷ hs) = rw (follow-longer h.length h.first, chains-longer hs) refl

  chain-longer : (h : ℕ) (xs : List ℕ) → Chain was h xs → Chain is h xs
  chain-longer h [] c = c
  chain-longer h (x ∷ xs) c =
      let b : x < length is = omega (arith, c.1, g.longer) in
      (c.0, b, rw (g.same x) (chain-longer (get_or was x 0) xs c.2))

  ends-longer : (h : Head) → Ends was h → Ends is h
  ends-longer h c = rw (follow-longer h.length h.first) (chain-longer h.first (chain_of was h) c)

  all-longer : (hs : List Head) → All (Ends was) hs → All (Ends is) hs
  all-longer [] a = All-nil (Ends is)
  all-longer (h ∷ hs) a = All-cons (Ends is) h hs (ends-longer h (All-head (Ends was) h hs a)) (all-longer hs (All-tail (Ends was) h hs a))

  pub linked-longer : (hs : List Head) → length is ≤ 65536 → Linked was hs → Linked is hs
  linked-longer hs r l = record {
    room = r;
    eight = l.eight;
    ends = all-longer hs l.ends;
    once = λ n. rw (chains-longer hs) (l.once n);
  }

-- what isn't there is read as blank, so a blank may be added
blank-read : {A : Type 0} (blank : A) (xs : List A) (i : ℕ) → get_or (xs ++ blank ∷ []) i blank ≡ get_or xs i blank
blank-read blank [] zero = refl
blank-read blank [] (suc i) = refl
blank-read blank (x ∷ xs) zero = refl
blank-read blank (x ∷ xs) (suc i) = blank-read blank xs i

pub longer-none : {A : Type 0} (blank : A) (was : List A) → IsLonger blank was was
longer-none blank was = record { longer = omega arith; same = λ i. refl }

pub longer-one : {A : Type 0} (blank : A) (was is : List A) → IsLonger blank was is → IsLonger blank was (is ++ blank ∷ [])
longer-one blank was is g = record {
  longer = omega (arith, g.longer, length-append is (blank ∷ []));
  same = λ i. blank-read blank is i ∙ g.same i;
}

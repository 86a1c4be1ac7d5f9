-- No more objects are in lists and trees than there are units.
use Rattle.std.proofs.Common.{◌≡◌, ◌≢◌, ◌∙◌, ◌+◌, ◌<◌, ◌≤◌, ℕ, zero, suc, List, [], ◌∷◌, Option, Some, None, ap, arith, inl, inr, length, refl, sym}
use Rattle.std.proofs.lemmas.Bool.{cases_eq, cases_lt}
use Rattle.bm_graph.specs.Objects.{Node}
use Rattle.bm_law_order.specs.Graphs.{NamedGraph, standing_from}
use Rattle.bm_world.specs.Graphs.{items_in, times_among, times_in}
use Rattle.bm_world.specs.LivingState.{AreShelved}
use Rattle.bm_world.specs.Slots.{stands_in}
use Rattle.bm_world.proofs.GraphLemmas.{hit, hit-itself, hit-one, hit-other, stands-none, times-of}
use Rattle.bm_world.proofs.Shelving.{unknown-stands}
use Rattle.bm_world.proofs.SlotLemmas.{Slotted}

abbrev below : ℕ → (ℕ → ℕ) → ℕ
below zero f = 0
below (suc n) f = below n f + f n

below-same : (n : ℕ) (f g : ℕ → ℕ) → ((u : ℕ) → u < n → f u ≡ g u) → below n f ≡ below n g
below-same zero f g h = refl
below-same (suc n) f g h = (let r = below-same n f g (λ u lt. h u (omega (arith, lt))) in let e = h n (omega arith) in omega (arith, r, e))

below-sum : (n : ℕ) (f g : ℕ → ℕ) → below n (λ u. f u + g u) ≡ below n f + below n g
below-sum zero f g = refl
below-sum (suc n) f g = (let r = below-sum n f g in omega (arith, r))

below-none : (n : ℕ) → below n (λ u. 0) ≡ 0
below-none zero = refl
below-none (suc n) = (let r = below-none n in omega (arith, r))

below-most : (n : ℕ) (f : ℕ → ℕ) → ((u : ℕ) → f u ≤ 1) → below n f ≤ n
below-most zero f h = omega arith
below-most (suc n) f h = (let r = below-most n f h in let e = h n in omega (arith, r, e))

-- a node is of one of them
below-hit : (n : ℕ) (x : Node) → x.id.unit < n → below n (λ u. hit u x) ≡ 1
below-hit zero x lt = absurd (omega (arith, lt))
below-hit (suc n) x lt = elim (cases_eq x.id.unit n) [
  | inl e ↦
      (let none = below-same n (λ u. hit u x) (λ u. 0) (λ u less. hit-other u x (λ same. (let lt : u < n = less in omega (arith, same, e, lt)))) in
      let zeros = below-none n in
      let one = hit-one n x e in
      omega (arith, none, zeros, one))
  | inr other ↦
      (let r = below-hit n x (let o = other in lt-of x.id.unit n lt other) in
      let none = hit-other n x other in
      omega (arith, r, none))
]
  where
    lt-of : (a b : ℕ) → a < suc b → a ≢ b → a < b
    lt-of a b lt ne = elim (cases_lt a b) [
      | inl y ↦ y
      | inr z ↦ absurd (ne (let k = z in omega (arith, lt, k)))
    ]

-- no unit from n on is among these nodes
abbrev NoneFrom : ℕ → (ℕ → ℕ) → Type 0
NoneFrom n f = (u : ℕ) → n ≤ u → f u ≡ 0

node-below : (n : ℕ) (x : Node) (ns : List Node) → NoneFrom n (λ u. times_among u (x ∷ ns)) → x.id.unit < n
node-below n x ns h = elim (cases_lt x.id.unit n) [
  | inl lt ↦ lt
  | inr le ↦ absurd (let e = h x.id.unit le in let t = times-of x.id.unit x ns in let one = hit-itself x in omega (arith, e, t, one))
]

nodes-below : (n : ℕ) (ns : List Node) → NoneFrom n (λ u. times_among u ns) → below n (λ u. times_among u ns) ≡ length ns
nodes-below n [] h = below-none n
nodes-below n (x ∷ ns) h =
    let lt = node-below n x ns h in
    let rest = nodes-below n ns (λ u le. (let e = h u le in let t = times-of u x ns in omega (arith, e, t))) in
    let one = below-hit n x lt in
    let split = below-same n (λ u. times_among u (x ∷ ns)) (λ u. hit u x + times_among u ns) (λ u lt. times-of u x ns) in
    let both = below-sum n (λ u. hit u x) (λ u. times_among u ns) in
    omega (arith, rest, one, split, both)

graphs-below : (n : ℕ) (gs : List NamedGraph) → NoneFrom n (λ u. times_in u gs) → below n (λ u. times_in u gs) ≡ items_in gs
graphs-below n [] h = below-none n
graphs-below n (g ∷ gs) h =
    let here = nodes-below n g.nodes (λ u le. (let e = h u le in omega (arith, e))) in
    let rest = graphs-below n gs (λ u le. (let e = h u le in omega (arith, e))) in
    let both = below-sum n (λ u. times_among u g.nodes) (λ u. times_in u gs) in
    omega (arith, here, rest, both)

-- each is of a unit that has a place among the slots
pub few-items : (slots : Slotted) (graphs : List NamedGraph) (n : ℕ) → length slots ≡ n → ((u : ℕ) → times_in u graphs ≤ 1) → AreShelved slots graphs → items_in graphs ≤ n
few-items slots graphs n size once h =
    let all = graphs-below n graphs (λ u le. stands-none 0 u graphs (unknown-stands slots graphs u (let s = size in omega (arith, le, s)) h)) in
    let most = below-most n (λ u. times_in u graphs) once in
    omega (arith, all, most)

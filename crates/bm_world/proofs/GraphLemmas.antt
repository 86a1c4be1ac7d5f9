-- Lists and trees by their places and by their names: what a call on one of them makes of all.
use Rattle.std.proofs.Common.{◌≡◌, ◌≢◌, ◌⊎◌, ◌∙◌, ◌+◌, ◌<◌, ◌≤◌, ℕ, zero, suc, Bool, true, false, List, [], ◌∷◌, ◌++◌, Option, Some, None, ap, arith, inl, inr, length, refl, set, sym, subst}
use Rattle.std.specs.Prelude.{eqb, if◌then◌else◌, not}
use Rattle.std.specs.List.{list_all}
use Rattle.std.specs.Str.{bytes_eq}
use Rattle.std.proofs.lemmas.Bool.{and_parts}
use Rattle.std.proofs.lemmas.Bool.Decides.{eqb_tells}
use Rattle.std.proofs.lemmas.List.Elements.{All-head, All-tail}
use Rattle.std.proofs.lemmas.Slice.Eq.{bytes_eq-Decides}
use mathlib.Core.Path.{fun_ext}
use Rattle.bm_journal.specs.declared.ids.ObjId.{ObjId}
use Rattle.bm_journal.specs.declared.ids.Tag.{Tag}
use Rattle.bm_journal.specs.declared.past.Past.{Past}
use Rattle.bm_journal.specs.declared.past.PastCall.{PastCall}
use Rattle.bm_graph.specs.Objects.{Node}
use Rattle.bm_law_order.specs.Graphs.{Calls, EffectFits, NamedGraph, Puts, Replays, Takes, effect_of, graph_after, graph_at, graph_names_in, graphs_after, history_in, life_among, moved, node_of, nodes_after, place_of, recorded, shelf_of, standing_from, standing_or}
use Rattle.bm_law_order.specs.Graphs.{Standing as Stood}
use Rattle.bm_world.specs.Contents.{are_apart}
use Rattle.bm_world.specs.Graphs.{AreBare, AreGraphs, Grows, HasMore, times_among, times_in}

-- ---- how often a unit is among nodes

same-unit : (u : ℕ) → eqb u u ≡ true
same-unit u = elim (eqb_tells u u) [ inl y ↦ y.0 | inr n ↦ absurd (n.1 refl) ]

pub hit : (u : ℕ) → Node → ℕ
hit u n = if eqb n.id.unit u then 1 else 0

pub hit-itself : (n : Node) → hit n.id.unit n ≡ 1
unfolding hit
hit-itself n = ap (λ b. if b then 1 else 0) (same-unit n.id.unit)

pub hit-one : (u : ℕ) (n : Node) → n.id.unit ≡ u → hit u n ≡ 1
hit-one u n e = subst (λ v. hit v n ≡ 1) e (hit-itself n)

pub hit-other : (u : ℕ) (n : Node) → n.id.unit ≢ u → hit u n ≡ 0
unfolding hit
hit-other u n ne = elim (eqb_tells n.id.unit u) [ inl y ↦ absurd (ne y.1) | inr k ↦ ap (λ b. if b then 1 else 0) k.0 ]

pub times-of : (u : ℕ) (n : Node) (ns : List Node) → times_among u (n ∷ ns) ≡ hit u n + times_among u ns
unfolding hit
times-of u n ns = refl

times-more : (u : ℕ) (n : Node) (before after : List Node) → times_among u (before ++ n ∷ after) ≡ hit u n + times_among u (before ++ after)
times-more u n [] after = times-of u n after
times-more u n (b ∷ bs) after =
    let p = times-of u b (bs ++ n ∷ after) in
    let q = times-of u b (bs ++ after) in
    let r = times-more u n bs after in
    omega (arith, p, q, r)

life-else : (u : ℕ) (n : Node) (before after : List Node) → n.id.unit ≢ u → life_among u (before ++ n ∷ after) ≡ life_among u (before ++ after)
life-else u n [] after ne = elim (eqb_tells n.id.unit u) [ inl y ↦ absurd (ne y.1) | inr k ↦ ap (λ b. if b then Some n.id.life else life_among u after) k.0 ]
life-else u n (b ∷ bs) after ne = ap (λ x. if eqb b.id.unit u then Some b.id.life else x) (life-else u n bs after ne)

life-none : (u : ℕ) (ns : List Node) → times_among u ns ≡ 0 → life_among u ns ≡ None
life-none u [] h = refl
life-none u (n ∷ ns) h =
    let t = times-of u n ns in
    elim (eqb_tells n.id.unit u) [
      | inl y ↦ absurd (let e = hit-one u n y.1 in omega (arith, t, e, h))
      | inr k ↦ rw k.0 (life-none u ns (omega (arith, t, h)))
    ]

clash : (n : ℕ) → Some n ≡ None → ⊥
clash n e = cc

none-times : (u : ℕ) (ns : List Node) → life_among u ns ≡ None → times_among u ns ≡ 0
none-times u [] h = refl
none-times u (n ∷ ns) h =
    let t = times-of u n ns in
    elim (eqb_tells n.id.unit u) [
      | inl y ↦ absurd (let F : Bool → Option ℕ = λ b. if b then Some n.id.life else life_among u ns in clash n.id.life (sym (ap F y.0) ∙ h))
      | inr k ↦
          (let F : Bool → Option ℕ = λ b. if b then Some n.id.life else life_among u ns in
          let e = hit-other u n k.1 in
          let r = none-times u ns (sym (ap F k.0) ∙ h) in
          omega (arith, t, e, r))
    ]

some-times : (u life : ℕ) (ns : List Node) → life_among u ns ≡ Some life → 1 ≤ times_among u ns
some-times u life [] e = cc
some-times u life (n ∷ ns) e =
    let t = times-of u n ns in
    elim (eqb_tells n.id.unit u) [
      | inl y ↦ (let f = hit-one u n y.1 in omega (arith, t, f))
      | inr k ↦
          (let F : Bool → Option ℕ = λ b. if b then Some n.id.life else life_among u ns in
          let r = some-times u life ns (sym (ap F k.0) ∙ e) in
          omega (arith, t, r))
    ]

-- the only node of a unit has its life
life-put : (n : Node) (before after : List Node) → times_among n.id.unit (before ++ after) ≡ 0 → life_among n.id.unit (before ++ n ∷ after) ≡ Some n.id.life
life-put n [] after h = ap (λ b. if b then Some n.id.life else life_among n.id.unit after) (same-unit n.id.unit)
life-put n (b ∷ bs) after h =
    let t = times-of n.id.unit b (bs ++ after) in
    elim (eqb_tells b.id.unit n.id.unit) [
      | inl y ↦ absurd (let e = hit-one n.id.unit b y.1 in omega (arith, t, e, h))
      | inr k ↦ rw k.0 (life-put n bs after (omega (arith, t, h)))
    ]

-- ---- .. in all lists and trees

pub bare-times : (u : ℕ) (gs : List NamedGraph) → AreBare gs → times_in u gs ≡ 0
bare-times u [] h = refl
bare-times u (g ∷ gs) h = (let e = ap (times_among u) (All-head (λ (g : NamedGraph). g.nodes ≡ []) g gs h) in let r = bare-times u gs (All-tail (λ (g : NamedGraph). g.nodes ≡ []) g gs h) in omega (arith, e, r))

pub bare-graphs : (gs : List NamedGraph) → are_apart (graph_names_in gs) ≡ true → length gs ≤ 256 → AreBare gs → AreGraphs gs
bare-graphs gs apart few bare = record { apart = apart; once = λ u. (let e = bare-times u gs bare in omega (arith, e)); few = few }

none-stands : (place : ℕ) (u : ℕ) (gs : List NamedGraph) → times_in u gs ≡ 0 → standing_from place gs u ≡ None
none-stands place u [] h = refl
none-stands place u (g ∷ gs) h =
    rw (life-none u g.nodes (omega (arith, h))) (none-stands (place + 1) u gs (omega (arith, h)))

pub stands-none : (place : ℕ) (u : ℕ) (gs : List NamedGraph) → standing_from place gs u ≡ None → times_in u gs ≡ 0
stands-none place u [] h = refl
stands-none place u (g ∷ gs) h =
    let here = first (life_among u g.nodes) refl h in
    let e = none-times u g.nodes here.0 in
    let r = stands-none (place + 1) u gs here.1 in
    omega (arith, e, r)
  where
    first : (o : Option ℕ) → life_among u g.nodes ≡ o → standing_or place o (standing_from (place + 1) gs u) ≡ None → (life_among u g.nodes ≡ None) × (standing_from (place + 1) gs u ≡ None)
    first None e h = (e, h)
    first (Some life) e h = cc

-- what is in the one at a place stands there, where it is in no other
stands-there : (k place u life : ℕ) (gs : List NamedGraph) → place < length gs → times_in u gs ≤ 1 → life_among u (graph_at place gs).nodes ≡ Some life → standing_from k gs u ≡ Some (record { life = life; place = k + place })
stands-there k place u life [] lt once e = absurd (omega (arith, lt))
stands-there k zero u life (g ∷ gs) lt once e = ap (λ o. standing_or k o (standing_from (k + 1) gs u)) e ∙ ap (λ p. let s : Stood = record { life = life; place = p } in Some s) (let q : k ≡ k + 0 = omega arith in q)
stands-there k (suc place) u life (g ∷ gs) lt once e =
    let more = there place gs (omega (arith, lt)) e in
    let none = life-none u g.nodes (omega (arith, more, once)) in
    rw none (stands-there (k + 1) place u life gs (omega (arith, lt)) (omega (arith, once)) e ∙ ap (λ p. let s : Stood = record { life = life; place = p } in Some s) (let q : k + 1 + place ≡ k + suc place = omega arith in q))
  where
    there : (place : ℕ) (gs : List NamedGraph) → place < length gs → life_among u (graph_at place gs).nodes ≡ Some life → 1 ≤ times_in u gs
    there place [] lt e = absurd (omega (arith, lt))
    there zero (g ∷ gs) lt e = (let r = some-times u life g.nodes e in omega (arith, r))
    there (suc place) (g ∷ gs) lt e = (let r = there place gs (omega (arith, lt)) e in omega (arith, r))

-- ---- after a call

-- what is there
pub graph-there : (place : ℕ) (call : PastCall) (tag : Tag) (gs : List NamedGraph) → place < length gs → graph_at place (graphs_after place call tag gs) ≡ graph_after call tag (graph_at place gs)
graph-there place call tag [] lt = absurd (omega (arith, lt))
graph-there zero call tag (g ∷ gs) lt = refl
graph-there (suc place) call tag (g ∷ gs) lt = graph-there place call tag gs (omega (arith, lt))

pub after-length : (place : ℕ) (call : PastCall) (tag : Tag) (gs : List NamedGraph) → length (graphs_after place call tag gs) ≡ length gs
after-length place call tag [] = refl
after-length zero call tag (g ∷ gs) = refl
after-length (suc place) call tag (g ∷ gs) = ap suc (after-length place call tag gs)

pub after-names : (place : ℕ) (call : PastCall) (tag : Tag) (gs : List NamedGraph) → graph_names_in (graphs_after place call tag gs) ≡ graph_names_in gs
after-names place call tag [] = refl
after-names zero call tag (g ∷ gs) = refl
after-names (suc place) call tag (g ∷ gs) = ap (λ ns. g.name ∷ ns) (after-names place call tag gs)

-- the one at a place is written
pub after-set : (place : ℕ) (call : PastCall) (tag : Tag) (gs : List NamedGraph) (h : NamedGraph) → place < length gs → h ≡ graph_after call tag (graph_at place gs) → set gs place h ≡ graphs_after place call tag gs
after-set place call tag [] h lt e = absurd (omega (arith, lt))
after-set zero call tag (g ∷ gs) h lt e = ap (λ x. x ∷ gs) e
after-set (suc place) call tag (g ∷ gs) h lt e = ap (λ xs. g ∷ xs) (after-set place call tag gs h (omega (arith, lt)) e)

after-times : (u place : ℕ) (call : PastCall) (tag : Tag) (gs : List NamedGraph) → place < length gs → times_in u (graphs_after place call tag gs) + times_among u (graph_at place gs).nodes ≡ times_in u gs + times_among u (nodes_after call (graph_at place gs).nodes)
after-times u place call tag [] lt = absurd (omega (arith, lt))
after-times u zero call tag (g ∷ gs) lt = omega arith
after-times u (suc place) call tag (g ∷ gs) lt = (let r = after-times u place call tag gs (omega (arith, lt)) in omega (arith, r))

after-stands : (k u place : ℕ) (call : PastCall) (tag : Tag) (gs : List NamedGraph) → life_among u (nodes_after call (graph_at place gs).nodes) ≡ life_among u (graph_at place gs).nodes → standing_from k (graphs_after place call tag gs) u ≡ standing_from k gs u
after-stands k u place call tag [] e = refl
after-stands k u zero call tag (g ∷ gs) e = ap (λ o. standing_or k o (standing_from (k + 1) gs u)) e
after-stands k u (suc place) call tag (g ∷ gs) e = ap (λ x. standing_or k (life_among u g.nodes) x) (after-stands (k + 1) u place call tag gs e)

-- ---- names

is_or_not : (b : Bool) → (b ≡ true) ⊎ (b ≡ false)
is_or_not true = inl refl
is_or_not false = inr refl

not-true : (b : Bool) → not b ≡ true → b ≡ false
not-true true h = cc
not-true false h = refl

itself : (x : List ℕ) → bytes_eq x x ≡ true
itself x = (bytes_eq-Decides x x).1 refl

other-name : (n : List ℕ) (place : ℕ) (gs : List NamedGraph) → list_all (λ m. not (bytes_eq n m)) (graph_names_in gs) ≡ true → place < length gs → bytes_eq n (graph_at place gs).name ≡ false
other-name n place [] h lt = absurd (omega (arith, lt))
other-name n zero (g ∷ gs) h lt = not-true (bytes_eq n g.name) (and_parts (not (bytes_eq n g.name)) (list_all (λ m. not (bytes_eq n m)) (graph_names_in gs)) h).0
other-name n (suc place) (g ∷ gs) h lt = other-name n place gs (and_parts (not (bytes_eq n g.name)) (list_all (λ m. not (bytes_eq n m)) (graph_names_in gs)) h).1 (omega (arith, lt))

pub placed-name : (place : ℕ) (gs : List NamedGraph) → are_apart (graph_names_in gs) ≡ true → place < length gs → place_of (graph_names_in gs) (graph_at place gs).name ≡ place
placed-name place [] h lt = absurd (omega (arith, lt))
placed-name zero (g ∷ gs) h lt = ap (λ b. if b then 0 else place_of (graph_names_in gs) g.name + 1) (itself g.name)
placed-name (suc place) (g ∷ gs) h lt =
    let p = and_parts (list_all (λ m. not (bytes_eq g.name m)) (graph_names_in gs)) (are_apart (graph_names_in gs)) h in
    let e : (if bytes_eq g.name (graph_at place gs).name then 0 else place_of (graph_names_in gs) (graph_at place gs).name + 1) ≡ place_of (graph_names_in gs) (graph_at place gs).name + 1 = ap (λ b. if b then 0 else place_of (graph_names_in gs) (graph_at place gs).name + 1) (other-name g.name place gs p.0 (omega (arith, lt))) in
    let r = placed-name place gs p.1 (omega (arith, lt)) in
    omega (arith, e, r)

pub history-there : (place : ℕ) (gs : List NamedGraph) → are_apart (graph_names_in gs) ≡ true → place < length gs → history_in gs (graph_at place gs).name ≡ (graph_at place gs).history
history-there place [] h lt = absurd (omega (arith, lt))
history-there zero (g ∷ gs) h lt = rw (itself g.name) refl
history-there (suc place) (g ∷ gs) h lt =
    let p = and_parts (list_all (λ m. not (bytes_eq g.name m)) (graph_names_in gs)) (are_apart (graph_names_in gs)) h in
    rw (other-name g.name place gs p.0 (omega (arith, lt))) (history-there place gs p.1 (omega (arith, lt)))

after-history : (place : ℕ) (call : PastCall) (tag : Tag) (gs : List NamedGraph) → are_apart (graph_names_in gs) ≡ true → place < length gs → (other : List ℕ) → history_in (graphs_after place call tag gs) other ≡ recorded (graph_at place gs).name (record { tag = tag; call = call }) (history_in gs) other
after-history place call tag [] h lt other = absurd (omega (arith, lt))
after-history zero call tag (g ∷ gs) h lt other = if-twice (bytes_eq g.name other)
  where
    p : Past
    p = record { tag = tag; call = call }

    if-twice : (b : Bool) → (if b then g.history ++ record { tag = tag; call = call } ∷ [] else history_in gs other) ≡ (if b then (if b then g.history else history_in gs other) ++ record { tag = tag; call = call } ∷ [] else (if b then g.history else history_in gs other))
    if-twice true = refl
    if-twice false = refl
after-history (suc place) call tag (g ∷ gs) h lt other =
    let p = and_parts (list_all (λ m. not (bytes_eq g.name m)) (graph_names_in gs)) (are_apart (graph_names_in gs)) h in
    let apart = other-name g.name place gs p.0 (omega (arith, lt)) in
    let rest = after-history place call tag gs p.1 (omega (arith, lt)) other in
    elim (is_or_not (bytes_eq g.name other)) [
      | inl same ↦
          let e : g.name ≡ other = (bytes_eq-Decides g.name other).0 same in
          let aside : bytes_eq (graph_at place gs).name other ≡ false = elim (is_or_not (bytes_eq (graph_at place gs).name other)) [
            | inl both ↦
                let f : (graph_at place gs).name ≡ g.name = (bytes_eq-Decides (graph_at place gs).name other).0 both ∙ sym e in
                let t : bytes_eq g.name (graph_at place gs).name ≡ true = subst (λ x. bytes_eq g.name x ≡ true) (sym f) (itself g.name) in
                cc
            | inr isnt ↦ isnt
          ] in
          rw (same, aside) refl
      | inr isnt ↦ rw isnt rest
    ]

-- ---- what a call is to all

-- a call that fits, by which objects stand where it moves them
pub called-if : (place : ℕ) (call : PastCall) (tag : Tag) (gs : List NamedGraph) (new : NamedGraph) (position : ℕ) → AreGraphs gs → place < length gs → Grows (graph_at place gs) new position call tag → EffectFits place (effect_of call) (standing_from 0 gs) → ((u : ℕ) → standing_from 0 (graphs_after place call tag gs) u ≡ moved place (effect_of call) (standing_from 0 gs) u) →
    Calls (graph_names_in gs) (graph_at place gs).name position call tag (shelf_of gs) (shelf_of (graphs_after place call tag gs))
called-if place call tag gs new position keeps lt grows fits moves =
    let there = history-there place gs keeps.apart lt in
    let name = placed-name place gs keeps.apart lt in
    let p : Past = record { tag = tag; call = call } in
    record {
      at = grows.at ∙ ap length (sym there);
      right = subst Replays (ap (λ (g : NamedGraph). g.history) grows.after ∙ ap (λ (h : List Past). h ++ p ∷ []) (sym there)) grows.right;
      fits = subst (λ (k : ℕ). EffectFits k (effect_of call) (standing_from 0 gs)) (sym name) fits;
      histories = fun_ext (after-history place call tag gs keeps.apart lt);
      within = fun_ext (λ u. moves u ∙ ap (λ (k : ℕ). moved k (effect_of call) (standing_from 0 gs) u) (sym name));
    }

part-times : (u place : ℕ) (gs : List NamedGraph) → place < length gs → times_among u (graph_at place gs).nodes ≤ times_in u gs
part-times u place [] lt = absurd (omega (arith, lt))
part-times u zero (g ∷ gs) lt = omega arith
part-times u (suc place) (g ∷ gs) lt = (let r = part-times u place gs (omega (arith, lt)) in omega (arith, r))

more-times : (u : ℕ) (id : ObjId) (less more : List Node) (h : HasMore id less more) → times_among u more ≡ hit u (node_of id h.key) + times_among u less
more-times u id less more h =
    let a = ap (times_among u) h.more_is in
    let b = ap (times_among u) h.less_is in
    let c = times-more u (node_of id h.key) h.before h.after in
    omega (arith, a, b, c)

-- an object is put in that stands nowhere
pub put-times : (u place : ℕ) (call : PastCall) (tag : Tag) (id : ObjId) (gs : List NamedGraph) → AreGraphs gs → place < length gs → standing_from 0 gs id.unit ≡ None → HasMore id (graph_at place gs).nodes (nodes_after call (graph_at place gs).nodes) → times_in u (graphs_after place call tag gs) ≤ 1
put-times u place call tag id gs keeps lt none h =
    let a = after-times u place call tag gs lt in
    let m = more-times u id (graph_at place gs).nodes (nodes_after call (graph_at place gs).nodes) h in
    let once = keeps.once u in
    elim (eqb_tells id.unit u) [
      | inl y ↦
          (let z = stands-none 0 id.unit gs none in
          let zero-here : times_in u gs ≡ 0 = subst (λ v. times_in v gs ≡ 0) y.1 z in
          let one : hit u (node_of id h.key) ≡ 1 = subst (λ v. hit v (node_of id h.key) ≡ 1) y.1 (hit-itself (node_of id h.key)) in
          omega (arith, a, m, zero-here, one))
      | inr n ↦ (let nought = hit-other u (node_of id h.key) n.1 in omega (arith, a, m, once, nought))
    ]

pub put-moves : (u place : ℕ) (call : PastCall) (tag : Tag) (id : ObjId) (gs : List NamedGraph) → AreGraphs gs → place < length gs → standing_from 0 gs id.unit ≡ None → HasMore id (graph_at place gs).nodes (nodes_after call (graph_at place gs).nodes) → standing_from 0 (graphs_after place call tag gs) u ≡ moved place (Puts id) (standing_from 0 gs) u
put-moves u place call tag id gs keeps lt none h = elim (eqb_tells u id.unit) [
  | inl y ↦
      (let part = part-times id.unit place gs lt in
      let z = stands-none 0 id.unit gs none in
      let less = ap (times_among id.unit) h.less_is in
      let life : life_among id.unit (nodes_after call (graph_at place gs).nodes) ≡ Some id.life = ap (life_among id.unit) h.more_is ∙ life-put (node_of id h.key) h.before h.after (omega (arith, part, z, less)) in
      let there : life_among id.unit (graph_at place (graphs_after place call tag gs)).nodes ≡ Some id.life = ap (λ (g : NamedGraph). life_among id.unit g.nodes) (graph-there place call tag gs lt) ∙ life in
      let size = after-length place call tag gs in
      let stands = stands-there 0 place id.unit id.life (graphs_after place call tag gs) (omega (arith, size, lt)) (put-times id.unit place call tag id gs keeps lt none h) there in
      let at : standing_from 0 (graphs_after place call tag gs) id.unit ≡ Some (record { life = id.life; place = place }) = stands ∙ ap (λ k. let s : Stood = record { life = id.life; place = k } in Some s) (let q : 0 + place ≡ place = omega arith in q) in
      rw y.0 (ap (standing_from 0 (graphs_after place call tag gs)) y.1 ∙ at))
  | inr n ↦
      (let other : (node_of id h.key).id.unit ≢ u = λ e. n.1 (sym e) in
      rw n.0 (after-stands 0 u place call tag gs (ap (life_among u) h.more_is ∙ (life-else u (node_of id h.key) h.before h.after other ∙ ap (life_among u) (sym h.less_is)))))
]

-- .. or one is taken
pub take-times : (u place : ℕ) (call : PastCall) (tag : Tag) (id : ObjId) (gs : List NamedGraph) → AreGraphs gs → place < length gs → HasMore id (nodes_after call (graph_at place gs).nodes) (graph_at place gs).nodes → times_in u (graphs_after place call tag gs) ≤ 1
take-times u place call tag id gs keeps lt h =
    let a = after-times u place call tag gs lt in
    let m = more-times u id (nodes_after call (graph_at place gs).nodes) (graph_at place gs).nodes h in
    let once = keeps.once u in
    omega (arith, a, m, once)

gone-times : (place : ℕ) (call : PastCall) (tag : Tag) (id : ObjId) (gs : List NamedGraph) → AreGraphs gs → place < length gs → HasMore id (nodes_after call (graph_at place gs).nodes) (graph_at place gs).nodes → times_in id.unit (graphs_after place call tag gs) ≡ 0
gone-times place call tag id gs keeps lt h =
    let a = after-times id.unit place call tag gs lt in
    let m = more-times id.unit id (nodes_after call (graph_at place gs).nodes) (graph_at place gs).nodes h in
    let one = hit-itself (node_of id h.key) in
    let once = keeps.once id.unit in
    omega (arith, a, m, once, one)

pub take-stood : (place : ℕ) (id : ObjId) (less : List Node) (gs : List NamedGraph) → AreGraphs gs → place < length gs → HasMore id less (graph_at place gs).nodes → standing_from 0 gs id.unit ≡ Some (record { life = id.life; place = place })
take-stood place id less gs keeps lt h =
    let m = more-times id.unit id less (graph_at place gs).nodes h in
    let one = hit-itself (node_of id h.key) in
    let part = part-times id.unit place gs lt in
    let once = keeps.once id.unit in
    let less_is = ap (times_among id.unit) h.less_is in
    let life : life_among id.unit (graph_at place gs).nodes ≡ Some id.life = ap (life_among id.unit) h.more_is ∙ life-put (node_of id h.key) h.before h.after (omega (arith, m, one, part, once, less_is)) in
    stands-there 0 place id.unit id.life gs lt once life ∙ ap (λ k. let s : Stood = record { life = id.life; place = k } in Some s) (let q : 0 + place ≡ place = omega arith in q)

pub take-moves : (u place : ℕ) (call : PastCall) (tag : Tag) (id : ObjId) (gs : List NamedGraph) → AreGraphs gs → place < length gs → HasMore id (nodes_after call (graph_at place gs).nodes) (graph_at place gs).nodes → standing_from 0 (graphs_after place call tag gs) u ≡ moved place (Takes id) (standing_from 0 gs) u
take-moves u place call tag id gs keeps lt h = elim (eqb_tells u id.unit) [
  | inl y ↦
      (let at = none-stands 0 id.unit (graphs_after place call tag gs) (gone-times place call tag id gs keeps lt h) in
      rw y.0 (ap (standing_from 0 (graphs_after place call tag gs)) y.1 ∙ at))
  | inr n ↦
      (let other : (node_of id h.key).id.unit ≢ u = λ e. n.1 (sym e) in
      rw n.0 (after-stands 0 u place call tag gs (ap (life_among u) h.less_is ∙ (sym (life-else u (node_of id h.key) h.before h.after other) ∙ ap (life_among u) (sym h.more_is)))))
]

-- .. or none moves
pub same-times : (u place : ℕ) (call : PastCall) (tag : Tag) (gs : List NamedGraph) → AreGraphs gs → place < length gs → nodes_after call (graph_at place gs).nodes ≡ (graph_at place gs).nodes → times_in u (graphs_after place call tag gs) ≤ 1
same-times u place call tag gs keeps lt e =
    let a = after-times u place call tag gs lt in
    let m = ap (times_among u) e in
    let once = keeps.once u in
    omega (arith, a, m, once)

pub same-stands : (u place : ℕ) (call : PastCall) (tag : Tag) (gs : List NamedGraph) → nodes_after call (graph_at place gs).nodes ≡ (graph_at place gs).nodes → standing_from 0 (graphs_after place call tag gs) u ≡ standing_from 0 gs u
same-stands u place call tag gs e = after-stands 0 u place call tag gs (ap (life_among u) e)

-- what all keep, however it was called
pub after-graphs : (place : ℕ) (call : PastCall) (tag : Tag) (gs : List NamedGraph) → AreGraphs gs → ((u : ℕ) → times_in u (graphs_after place call tag gs) ≤ 1) → AreGraphs (graphs_after place call tag gs)
after-graphs place call tag gs keeps once = record {
  apart = ap are_apart (after-names place call tag gs) ∙ keeps.apart;
  once = once;
  few = (let a = after-length place call tag gs in let b = keeps.few in omega (arith, a, b));
}

-- what stands at a place is in the one there
abbrev place-in : Option Stood → ℕ
place-in None = 0
place-in (Some x) = x.place

abbrev life-in : Option Stood → Option ℕ
life-in None = None
life-in (Some x) = Some x.life

later-first : (k u : ℕ) (s : Stood) (o : Option ℕ) (others : Option Stood) → (others ≡ Some s → k + 1 ≤ s.place) → standing_or k o others ≡ Some s → k ≤ s.place
later-first k u s None others h e = (let r = h e in omega (arith, r))
later-first k u s (Some life) others h e = (let same : k ≡ s.place = ap place-in e in omega (arith, same))

later-place : (k u : ℕ) (s : Stood) (gs : List NamedGraph) → standing_from k gs u ≡ Some s → k ≤ s.place
later-place k u s [] e = cc
later-place k u s (g ∷ gs) e = later-first k u s (life_among u g.nodes) (standing_from (k + 1) gs u) (later-place (k + 1) u s gs) e

stood-here : (k u : ℕ) (s : Stood) (g : NamedGraph) (gs : List NamedGraph) (o : Option ℕ) → life_among u g.nodes ≡ o → s.place ≡ k → standing_or k o (standing_from (k + 1) gs u) ≡ Some s → life_among u g.nodes ≡ Some s.life
stood-here k u s g gs None f at e = absurd (let r = later-place (k + 1) u s gs e in omega (arith, r, at))
stood-here k u s g gs (Some life) f at e = f ∙ ap life-in e

stood-on : (k place u : ℕ) (s : Stood) (o : Option ℕ) (others : Option Stood) → s.place ≡ k + suc place → standing_or k o others ≡ Some s → others ≡ Some s
stood-on k place u s None others at e = e
stood-on k place u s (Some life) others at e = absurd (let same : k ≡ s.place = ap place-in e in omega (arith, same, at))

pub stood-there : (k place u : ℕ) (s : Stood) (gs : List NamedGraph) → standing_from k gs u ≡ Some s → s.place ≡ k + place → life_among u (graph_at place gs).nodes ≡ Some s.life
stood-there k place u s [] e at = cc
stood-there k zero u s (g ∷ gs) e at = stood-here k u s g gs (life_among u g.nodes) refl (omega (arith, at)) e
stood-there k (suc place) u s (g ∷ gs) e at = stood-there (k + 1) place u s gs (stood-on k place u s (life_among u g.nodes) (standing_from (k + 1) gs u) at e) (omega (arith, at))

-- .. and what stands nowhere isn't
nowhere-or : (k u : ℕ) (o : Option ℕ) (others : Option Stood) → standing_or k o others ≡ None → (o ≡ None) × (others ≡ None)
nowhere-or k u None others e = (refl, e)
nowhere-or k u (Some life) others e = cc

pub nowhere-there : (k place u : ℕ) (gs : List NamedGraph) → standing_from k gs u ≡ None → life_among u (graph_at place gs).nodes ≡ None
nowhere-there k place u [] e = refl
nowhere-there k zero u (g ∷ gs) e = (nowhere-or k u (life_among u g.nodes) (standing_from (k + 1) gs u) e).0
nowhere-there k (suc place) u (g ∷ gs) e = nowhere-there (k + 1) place u gs (nowhere-or k u (life_among u g.nodes) (standing_from (k + 1) gs u) e).1

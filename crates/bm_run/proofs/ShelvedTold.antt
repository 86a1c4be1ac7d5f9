-- Lists and trees along the order of a run: each call on one finds it as the calls before it left it, under its lock or in the closing.
use Rattle.std.proofs.Common.{◌≡◌, ◌∙◌, ◌≤◌, ◌+◌, ℕ, zero, suc, Bool, true, false, not, List, [], ◌∷◌, ◌++◌, Option, None, Some, ap, append-nil, append_assoc, arith, inl, inr, length, refl, slice_get, subst, sym}
use Rattle.std.specs.List.{list_all}
use Rattle.std.specs.Str.{bytes_eq}
use Rattle.std.proofs.lemmas.Bool.{and_parts, cases_Bool}
use Rattle.std.proofs.lemmas.Slice.Eq.{bytes_eq-Decides}
use Rattle.bm_journal.specs.declared.ids.ObjId.{ObjId}
use Rattle.bm_law.specs.Lists.{Log}
use Rattle.bm_law_order.specs.Act.{Act}
use Rattle.bm_law_order.specs.Calls.{calls_in, closes, lock_in, tag_after}
use Rattle.bm_law_order.specs.Chunk.{Chunk, acts_of}
use Rattle.bm_law_order.specs.Chunk as chunk
use Rattle.bm_law_order.specs.Graphs.{Effect, GraphsLead, NamedGraph, Refuses, Shelf, effect_of, graph_names_in, history_in, place_of, shelf_of, standing_from}
use Rattle.bm_law_order.specs.Orders.{AllFit, Order, by, over, part_of}
use Rattle.bm_law_order.specs.Story.{AllJudged, Story, deeds, lines, lines_of}
use Rattle.bm_law_order.specs.Tie.{Tied}
use Rattle.bm_law_order.proofs.Along.{by-append, fit-append, over-append}
use Rattle.bm_law_order.proofs.GraphsJoin.{graphs-split}
use Rattle.bm_law_objects.specs.Objects.{Objects, Owned, nothing_owned, owned_after}
use Rattle.bm_law_graphs.specs.LocksTold.{LocksTold, held_by}
use Rattle.bm_law_graphs.specs.Shelves.{IsShelved, Shelved, ShelvedFit, nothing_shelved, shelved_after}
use Rattle.bm_law_graphs.specs.ToldCalls.{FoundApart, JudgedCall, KeyedCall, MayCall, ShelvesGo}
use Rattle.bm_law_graphs.proofs.ChunkShelved.{chunk-shelved}
use Rattle.bm_law_graphs.proofs.ShelvedAlong.{closing-along, declared-call, longer, objects-along}
use Rattle.bm_world.specs.Contents.{are_apart}
use Rattle.bm_world.specs.LivingState.{LivingState}
use Rattle.bm_world.specs.ToldLiving.{LivingDoes, knows_living}
use Rattle.bm_exec_levels.specs.AtPolls.{OwnerIs, home, polled}
use Rattle.bm_run.specs.SoFar.{shelves_over}
use Rattle.bm_run.proofs.Laid.{added-lines}
use Rattle.bm_run.proofs.OwnedTold.{KeyedAlong}
use Rattle.bm_run.proofs.SlotsTold.{calls-along, calls-more}

-- ---- names

-- a list or tree that isn't there has no history
no-history : (gs : List NamedGraph) (name : List ℕ) → length (graph_names_in gs) ≤ place_of (graph_names_in gs) name → history_in gs name ≡ []
no-history [] name h = refl
no-history (g ∷ gs) name h = elim (cases_Bool (bytes_eq g.name name)) [
  | inl y ↦
      (let first : place_of (graph_names_in (g ∷ gs)) name ≡ 0 = rw y refl in
      absurd (omega (arith, h, first)))
  | inr y ↦
      (let next : place_of (graph_names_in (g ∷ gs)) name ≡ place_of (graph_names_in gs) name + 1 = rw y refl in
      let rest = no-history gs name (omega (arith, h, next)) in
      rw y rest)
]

not-true : (b : Bool) → not b ≡ true → b ≡ false
not-true true h = cc
not-true false h = refl

other-name : (n : List ℕ) (names : List (List ℕ)) (place : ℕ) (name : List ℕ) → list_all (λ m. not (bytes_eq n m)) names ≡ true → slice_get names place ≡ Some name → bytes_eq n name ≡ false
other-name n [] place name h is = absurd (let z : ◌≡◌ {A = Option (List ℕ)} None (Some name) = is in cc)
other-name n (m ∷ ms) zero name h is =
    let z : ◌≡◌ {A = Option (List ℕ)} (Some m) (Some name) = is in
    let same : m ≡ name = cc in
    subst (λ k. bytes_eq n k ≡ false) same (not-true (bytes_eq n m) (and_parts (not (bytes_eq n m)) (list_all (λ k. not (bytes_eq n k)) ms) h).0)
other-name n (m ∷ ms) (suc place) name h is = other-name n ms place name (and_parts (not (bytes_eq n m)) (list_all (λ k. not (bytes_eq n k)) ms) h).1 is

-- names of which none stands twice are each found where they stand
pub found-apart : (names : List (List ℕ)) → are_apart names ≡ true → FoundApart names
found-apart [] h place name is = absurd (let z : ◌≡◌ {A = Option (List ℕ)} None (Some name) = is in cc)
found-apart (n ∷ ns) h zero name is =
    let z : ◌≡◌ {A = Option (List ℕ)} (Some n) (Some name) = is in
    let same : n ≡ name = cc in
    rw ((bytes_eq-Decides n name).1 same) refl
found-apart (n ∷ ns) h (suc place) name is =
    let p = and_parts (list_all (λ m. not (bytes_eq n m)) ns) (are_apart ns) h in
    let rest = found-apart ns p.1 place name is in
    rw (other-name n ns place name p.0 is) (omega (arith, rest))

-- ---- stories

owner-named : (names : List (List ℕ)) (f : Effect) (owner : List ℕ) → OwnerIs names f owner → (id : ObjId) (place : ℕ) → f ≡ Refuses id place → slice_get names place ≡ Some owner
owner-named names f owner o id place e = subst (λ (g : Effect). OwnerIs names g owner) e o

module _ (p : ℕ) (closing : Bool) (since : Log) (start : LivingState) where
  abbrev names : List (List ℕ)
  names = graph_names_in start.graphs

  judged-of : (l : ℕ) (c : Chunk) (log : Log) → home knows_living start ≡ p → polled knows_living closing since start l log c → JudgedCall names p l log c
  judged-of l (chunk.Locking graph) log own j = j
  judged-of l (chunk.Unlocking graph) log own j = j
  judged-of l (chunk.Calling graph position call owner tag) log own j = (
    j.0,
    subst (λ q. MayCall q graph log) own j.1,
    λ id place e. owner-named names (effect_of call) owner j.2 id place e,
    j.3 ∙ ap (λ q. tag_after q (calls_in log)) own,
  )
  judged-of l _ log own j = tt

  story-shelved : (ts : Story) (x : Shelved) (y : Owned) (before now : Shelf) (log : Log) → home knows_living start ≡ p → FoundApart names → x.objects ≡ y.objects → y.objects.calls p ≡ calls_in log → x.shelves.histories ≡ before.histories → x.shelves.within ≡ before.within → LocksTold p log x.shelves → GraphsLead names (deeds ts) before now →
      ((name : List ℕ) → length names ≤ place_of names name → now.histories name ≡ []) → KeyedAlong p ts y → AllJudged (polled knows_living closing since start) log ts → ShelvesGo names p log (lines ts) x now
  story-shelved [] x y before now log own apart beside calls histories within locks lead none keyed judged = record {
    fit = tt;
    histories = histories ∙ ap (λ (s : Shelf). s.histories) (sym lead);
    within = within ∙ ap (λ (s : Shelf). s.within) (sym lead);
    locks = subst (λ (z : Log). LocksTold p z x.shelves) (sym (append-nil log)) locks;
  }
  story-shelved (t ∷ ts) x y before now log own apart beside calls histories within locks lead none keyed judged =
      let es = acts_of t.chunk in
      let first = lines_of t in
      let after = shelved_after names in
      let fits = ShelvedFit names in
      let k = graphs-split names es (deeds ts) before now lead in
      let one = chunk-shelved names p t.level t.chunk x before k.0 log apart (record {
        histories = histories;
        within = within;
        calls = ap (λ (o : Objects). o.calls p) beside ∙ calls;
        locks = locks;
        judged = judged-of t.level t.chunk log own judged.0;
        named = declared-call names t.chunk before k.0 now.histories k.1.0 none (longer names (deeds ts) k.0 now k.1.1);
        keyed = subst (KeyedCall t.chunk) (sym beside) keyed.0;
        leads = k.1.0;
      }) in
      let x1 : Shelved = over after (by p first) x in
      let y1 : Owned = over owned_after (by p first) y in
      let rest = story-shelved ts x1 y1 k.0 now (log ++ first) own apart (objects-along names (by p first) x y beside) (calls-more p y log first calls) one.histories one.within one.locks k.1.1 none keyed.1 judged.1 in
      let order = by-append p first (lines ts) in
      let joined = ap (λ (o : Order). over after o x) order ∙ over-append after fits (by p first) (by p (lines ts)) x in
      record {
        fit = subst (λ (o : Order). AllFit after fits o x) (sym order) (fit-append after fits (by p first) (by p (lines ts)) x one.fit rest.fit);
        histories = ap (λ (z : Shelved). z.shelves.histories) joined ∙ rest.histories;
        within = ap (λ (z : Shelved). z.shelves.within) joined ∙ rest.within;
        locks =
            subst (λ (z : Shelved). LocksTold p (log ++ (first ++ lines ts)) z.shelves) (sym joined)
            (subst (λ (z : Log). LocksTold p z (over after (by p (lines ts)) x1).shelves) (append_assoc log first (lines ts)) rest.locks);
      }

-- By these names of maps, of which none stands twice, each entry of an order finds the lists, trees and locks that it names; then lists and
-- trees are what a world tells, and nobody holds a lock.
pub record ShelvedFor (names : List (List ℕ)) (o : Order) (world : LivingState) : Type 0 where
  pub apart : are_apart names ≡ true
  pub shelved : IsShelved names o
  pub histories : (shelves_over names o).shelves.histories ≡ history_in world.graphs
  pub within : (shelves_over names o).shelves.within ≡ standing_from 0 world.graphs
  pub unlocked : (name : List ℕ) → (shelves_over names o).shelves.holders name ≡ None

-- .. by those of the world
abbrev pub ShelvedSoFar : Order → LivingState → Type 0
ShelvedSoFar o world = ShelvedFor (graph_names_in world.graphs) o world

-- Where it is so of the order so far, it is with what a processor's log adds while it is tied, where that log holds no lock before and after.
pub tied-shelved-since : (closing : Bool) (p : ℕ) (o : Order) (since added log : Log) (start now : LivingState) → home knows_living start ≡ p → part_of p o ≡ since → log ≡ since ++ added → (t : Tied (polled knows_living closing since start) LivingDoes since start 0 [] [] log now) → lock_in since ≡ None → lock_in log ≡ None →
    ShelvedSoFar o start → KeyedAlong p t.story (over owned_after o nothing_owned) → ShelvedSoFar (o ++ by p added) now
tied-shelved-since closing p o since added log start now own part log_is t before after h keyed =
    let judge = polled knows_living closing since start in
    let said = added-lines judge since added log start now log_is t in
    let names = graph_names_in start.graphs in
    let x : Shelved = shelves_over names o in
    let y : Owned = over owned_after o nothing_owned in
    let acts = append-nil (deeds t.story) in
    let called = subst (λ (es : List Act). GraphsLead names es (shelf_of start.graphs) (shelf_of now.graphs)) acts t.done_is.called in
    let same : graph_names_in now.graphs ≡ names = t.done_is.named in
    let none : (name : List ℕ) → length names ≤ place_of names name → history_in now.graphs name ≡ [] =
    λ name le. no-history now.graphs name (subst (λ (ns : List (List ℕ)). length ns ≤ place_of ns name) (sym same) le) in
    let locks : LocksTold p since x.shelves =
    record {
      holders = λ name. h.unlocked name ∙ ap (λ k. held_by p k name) (sym before);
      closing = λ zero c. closing-along names o nothing_shelved (subst (λ q. closes (part_of q o) ≡ true) zero (ap closes part ∙ c));
    } in
    let r = story-shelved p closing since start t.story x y (shelf_of start.graphs) (shelf_of now.graphs) since own (found-apart names h.apart) (objects-along names o nothing_shelved nothing_owned refl) (calls-along p o nothing_owned ∙ ap calls_in part) h.histories h.within locks called none keyed t.judged in
    let whole = over-append (shelved_after names) (ShelvedFit names) o (by p (lines t.story)) nothing_shelved in
    let ended : lock_in (since ++ lines t.story) ≡ None = subst (λ (z : Log). lock_in (since ++ z) ≡ None) said (ap lock_in (sym log_is) ∙ after) in
    let told : ShelvedFor names (o ++ by p (lines t.story)) now =
    record {
      apart = h.apart;
      shelved = fit-append (shelved_after names) (ShelvedFit names) o (by p (lines t.story)) nothing_shelved h.shelved r.fit;
      histories = ap (λ (z : Shelved). z.shelves.histories) whole ∙ r.histories;
      within = ap (λ (z : Shelved). z.shelves.within) whole ∙ r.within;
      unlocked = λ name. ap (λ (z : Shelved). z.shelves.holders name) whole ∙ (r.locks.holders name ∙ ap (λ k. held_by p k name) ended);
    } in
    subst (λ (z : Log). ShelvedSoFar (o ++ by p z) now) (sym said) (subst (λ (ns : List (List ℕ)). ShelvedFor ns (o ++ by p (lines t.story)) now) (sym same) told)

-- What each call of the world with the units that live in it does.
use Rattle.std.proofs.Common.{◌≡◌, ◌≢◌, ◌⊎◌, Bool, ℕ, ◌+◌, ◌<◌, ◌≤◌, true, List, [], ◌∷◌, false, set, length, Option, None, Some, Result, Ok, Err, OnOk, refl, sym, ◌∙◌, ap, subst, inl, inr, eq-eqb, ne_eqb, arith}
use Rattle.std.specs.Prelude.{eqb, if◌then◌else◌, slice_get, slice_index}
use Rattle.std.specs.List.{All}
use Rattle.std.proofs.lemmas.Bool.{cases_eq}
use Rattle.std.proofs.lemmas.List.{get_or-set_other, get_or-set_same}
use mathlib.Core.Path.{fun_ext}
use Rattle.bm_law_order.specs.Act.{Act}
use Rattle.bm_law_order.specs.Act as act
use Rattle.bm_page.specs.UnitState.{UnitState}
use Rattle.bm_grace.specs.PlainState.{domain_in}
use Rattle.bm_law_order.specs.Acts.{ActFits, ActsLead, act_after, pushed_by, recounted}
use Rattle.bm_law_order.specs.Graphs.{CalledBy, Calls, GraphsLead, NamedGraph, Shelf, graph_names_in, shelf_of}
use Rattle.bm_law_order.specs.Lives.{Has, Life, Lives, counted}
use Rattle.bm_law_order.specs.Made.{Fields, IsKeyed, MadeBy, MadeLead, with_fields}
use Rattle.bm_law_order.specs.Seals.{Goes, HasPassed, WaitLeads, WaitsBy, on_unit, seal_among, wait_after, waited_for}
use Rattle.bm_law_order.specs.Seals as seals
use Rattle.bm_law_order.specs.Shared.{Shared}
use Rattle.bm_law_order.specs.Slots.{Contents, ExchangedBy, Named, Slot, SlotsLead, named_in, with_slot}
use Rattle.bm_journal.specs.declared.ids.ObjId.{ObjId}
use Rattle.bm_journal.specs.declared.ids.Tag.{Tag}
use Rattle.bm_journal.specs.declared.past.PastCall.{PastCall}
use Rattle.bm_page.specs.declared.units.Seal.{Seal}
use Rattle.bm_law.specs.Stands.{times}
use Rattle.bm_post.specs.Rights.{numbers}
use Rattle.bm_law_order.specs.Act.{sealed, units_of}
use Rattle.bm_world.specs.Spared.{AllSpare}
use Rattle.bm_world.specs.Contents.{put_at, slot_at}
use Rattle.bm_world.specs.Lives.{PutLives}
use Rattle.bm_world.proofs.KnownLiving.{is-living}
use Rattle.bm_law_order.specs.Lives.{IfAlive}
use Rattle.bm_world.specs.LivingState.{LivingState, begun_at, lives_of, next_life, slots_counted, standings_after, wait_now, with_begun, with_ended, with_exchanged}
use Rattle.bm_world.specs.Standings.{AreStanding, IsTimed, has_waited, is_over, left_by, standing_at, standing_of, told_standing, waits_told}
use Rattle.bm_world.specs.declared.standing.Standing.{Standing}
use Rattle.bm_world.specs.declared.standing.Standing.TheVariants.{Nothing, Waits}
use Rattle.bm_world.specs.SideState.{SideState}
use Rattle.bm_world.specs.Slots.{count_of, new_object, object_at, unit_at, values_of, with_count}
use Rattle.bm_world.specs.declared.slots.Object.{Object}
use Rattle.bm_world.specs.Told.{IsSideOf, SideDoes, told}
use Rattle.bm_world.specs.ToldLiving.{LivingDoes, fields_told, life_of, lives_told, told_living}
use Rattle.bm_world.proofs.Left.{goes-left, left-other, left-released, left-settled, none-batch}
use Rattle.bm_world.proofs.Did.{units-sealed}
use Rattle.bm_world.proofs.SlotLemmas.{no-object, object-other, object-same, values-stay}

-- acts by which each unit waits for what it did
abbrev pub KeepWaits : List Act → Type 0
KeepWaits acts = (w : ℕ → seals.Wait) → WaitLeads acts w w

-- .. and by which no life is made or read, no slot's content is exchanged, and no list or tree is called
abbrev pub KeepMade : List Act → Type 0
KeepMade acts = ((w : Fields) → MadeLead acts w w) × ((w : Contents) → SlotsLead acts w w) × ((names : List (List ℕ)) (w : Shelf) → GraphsLead names acts w w)

keep-slots : (acts : List Act) (a b : LivingState) → b.contents ≡ a.contents → ((w : Contents) → SlotsLead acts w w) → SlotsLead acts (named_in a.contents) (named_in b.contents)
keep-slots acts a b same k = subst (λ (xs : List Named). SlotsLead acts (named_in a.contents) (named_in xs)) (sym same) (k (named_in a.contents))

-- one act that exchanges nothing, of two states that show the same slots
none-exchanged : (x : Act) (a b : LivingState) → b.contents ≡ a.contents → ((w : Contents) → ExchangedBy x w w) → SlotsLead (x ∷ []) (named_in a.contents) (named_in b.contents)
none-exchanged x a b same k = keep-slots (x ∷ []) a b same (λ w. (w, (k w, refl)))

-- .. and so it is of lists and trees
keep-graphs : (acts : List Act) (a b : LivingState) → b.graphs ≡ a.graphs → ((names : List (List ℕ)) (w : Shelf) → GraphsLead names acts w w) → GraphsLead (graph_names_in a.graphs) acts (shelf_of a.graphs) (shelf_of b.graphs)
keep-graphs acts a b same k = subst (λ (gs : List NamedGraph). GraphsLead (graph_names_in a.graphs) acts (shelf_of a.graphs) (shelf_of gs)) (sym same) (k (graph_names_in a.graphs) (shelf_of a.graphs))

none-called : (x : Act) (a b : LivingState) → b.graphs ≡ a.graphs → ((names : List (List ℕ)) (w : Shelf) → CalledBy names x w w) → GraphsLead (graph_names_in a.graphs) (x ∷ []) (shelf_of a.graphs) (shelf_of b.graphs)
none-called x a b same k = keep-graphs (x ∷ []) a b same (λ names w. (w, (k names w, refl)))

-- what the side did, where no unit began or ended a life
pub lifts-so : (acts : List Act) (a b : LivingState) → b.contents ≡ a.contents → b.graphs ≡ a.graphs → a.asked ≤ b.asked → b.slots ≡ a.slots → b.begun ≡ a.begun → WaitLeads acts (waits_told a.standings) (waits_told b.standings) → ((n : ℕ) → AllSpare n acts → standing_at b.standings n ≡ standing_at a.standings n) → KeepMade acts → SideDoes acts a.side b.side → LivingDoes acts a b
lifts-so acts a b contents graphs asked slots begun w k m d = let F : List (Option Object) → Fields = λ xs n. values_of (object_at xs n) in let same-fields : fields_told b ≡ fields_told a = ap F slots in record {
  waits = w;
  made = subst (MadeLead acts (fields_told a)) (sym same-fields) (m.0 (fields_told a));
  exchanged = keep-slots acts a b contents m.1;
  called = keep-graphs acts a b graphs m.2;
  named = ap graph_names_in graphs;
  asked = asked;
  keeps = k;
  did = λ p s.
      let u = d.did p s in
      let same : lives_told b ≡ lives_told a = (let F : List (Option Object) → List ℕ → Lives = λ xs ys. record { begun = begun_at ys; holds = λ n. life_of (object_at xs n); dropping = λ p l. None } in ap (λ xs. F xs b.begun) slots ∙ ap (F a.slots) begun) in
      record { leads = subst (λ lives. ActsLead p acts (told_living a) (told lives b.side)) (sym same) (u.leads (lives_told a)); stays = u.stays; others = u.others };
}

-- .. and none went away
pub lifts : (acts : List Act) (a b : LivingState) → b.contents ≡ a.contents → b.graphs ≡ a.graphs → a.asked ≤ b.asked → b.slots ≡ a.slots → b.begun ≡ a.begun → b.standings ≡ a.standings → KeepWaits acts → KeepMade acts → SideDoes acts a.side b.side → LivingDoes acts a b
lifts acts a b contents graphs asked slots begun standings k m d = lifts-so acts a b contents graphs asked slots begun (subst (λ (ss : List Standing). WaitLeads acts (waits_told a.standings) (waits_told ss)) (sym standings) (k (waits_told a.standings))) (λ n s. ap (λ (ss : List Standing). standing_at ss n) standings) m d

pub lifts-ok : {A E : Type 0} (r : Result A E) (acts : List Act) (a b : LivingState) → b.contents ≡ a.contents → b.graphs ≡ a.graphs → a.asked ≤ b.asked → b.slots ≡ a.slots → b.begun ≡ a.begun → OnOk r (WaitLeads acts (waits_told a.standings) (waits_told b.standings)) → OnOk r ((n : ℕ) → AllSpare n acts → standing_at b.standings n ≡ standing_at a.standings n) → KeepMade acts → OnOk r (SideDoes acts a.side b.side) → OnOk r (LivingDoes acts a b)
lifts-ok (Ok x) acts a b contents graphs asked slots begun w k m d = lifts-so acts a b contents graphs asked slots begun w k m d
lifts-ok (Err x) acts a b contents graphs asked slots begun w k m d = tt

pub on-ok : {A E P : Type 0} (r : Result A E) → P → OnOk r P
on-ok (Ok x) p = p
on-ok (Err x) p = tt

-- what an act that says nothing of units leaves
pub keep-one : (a : Act) → ((w : ℕ → seals.Wait) → WaitsBy a w w) → KeepWaits (a ∷ [])
keep-one a h w = (w, (h w, refl))

pub made-one : (a : Act) → ((w : Fields) → MadeBy a w w) → ((w : Contents) → ExchangedBy a w w) → ((names : List (List ℕ)) (w : Shelf) → CalledBy names a w w) → KeepMade (a ∷ [])
made-one a h k g = (λ w. (w, (h w, refl)), λ w. (w, (k w, refl)), λ names w. (w, (g names w, refl)))

-- standings that didn't change
pub kept-none : (acts : List Act) (ss : List Standing) (n : ℕ) → AllSpare n acts → standing_at ss n ≡ standing_at ss n
kept-none acts ss n s = refl

-- units that went away were named
pub kept-sealed : (us : List UnitState) (ss : List Standing) (n : ℕ) → times n (units_of (sealed us)) ≡ 0 → standing_at (left_by us ss) n ≡ standing_at ss n
kept-sealed us ss n h = left-other us ss n (ap (times n) (sym (units-sealed us)) ∙ h)

-- units went away
pub waits-left : (a : Act) (plain tracing : ℕ) (slots : List (Option Object)) (us : List UnitState) (ss : List Standing) → ((before now : ℕ → seals.Wait) → ((n : ℕ) → Goes (seal_among (sealed us) n) (before n) (now n)) → WaitsBy a before now) → AreStanding plain tracing slots ss → ((n : ℕ) → times n (numbers us) ≤ 1) → All (λ (u : UnitState). u.number < length ss) us → All (λ (u : UnitState). (has_waited (standing_at ss u.number) u.seal ≡ true) ⊎ (is_over plain tracing (standing_at ss u.number) u.seal ≡ true)) us → WaitLeads (a ∷ []) (waits_told ss) (waits_told (left_by us ss))
waits-left a plain tracing slots us ss by k once fit over = (waits_told (left_by us ss), (by (waits_told ss) (waits_told (left_by us ss)) (goes-left plain tracing us ss k.timed once fit over), refl))

-- a test of equality, the other way round
turned : (m n : ℕ) → eqb m n ≡ eqb n m
turned m n = elim (cases_eq m n) [
  | inl same ↦ eq-eqb m n same ∙ sym (eq-eqb n m (sym same))
  | inr other ↦ ne_eqb m n other ∙ sym (ne_eqb n m (λ q. other (sym q)))
]

-- .. of which it is known what they waited for
pub waits-given : (us : List UnitState) (ss : List Standing) → ((n : ℕ) → times n (numbers us) ≤ 1) → All (λ (u : UnitState). u.number < length ss) us → All (λ (u : UnitState). has_waited (standing_at ss u.number) u.seal ≡ true) us → WaitLeads (act.GivesBack (numbers us) ∷ []) (waits_told ss) (waits_told (left_by us ss))
waits-given us ss once fit settled = (waits_told ss, (refl, fun_ext (λ n. ap told_standing (left-settled us ss once fit settled n))))

pub waits-drained : (c to : ℕ) (us : List UnitState) (ss : List Standing) → ((n : ℕ) → times n (numbers us) ≤ 1) → All (λ (u : UnitState). u.number < length ss) us → All (λ (u : UnitState). has_waited (standing_at ss u.number) u.seal ≡ true) us → WaitLeads (act.Drains c to (numbers us) ∷ []) (waits_told ss) (waits_told (left_by us ss))
waits-drained c to us ss once fit settled = (waits_told ss, ((none-batch us ss settled, refl), fun_ext (λ n. ap told_standing (left-settled us ss once fit settled n))))

pub waits-released : (c to plain tracing : ℕ) (seal : Seal) (us : List UnitState) (ss : List Standing) → ((n : ℕ) → times n (numbers us) ≤ 1) → All (λ (u : UnitState). u.number < length ss) us → All (λ (u : UnitState). (u.seal ≡ Some seal) × (is_over plain tracing (standing_at ss u.number) (Some seal) ≡ true)) us → WaitLeads (act.Releases c to (numbers us) seal.stamp seal.seen ∷ []) (waits_told ss) (waits_told (left_by us ss))
waits-released c to plain tracing seal us ss once fit waited = (waits_told (left_by us ss), (fun_ext (λ n. left-released plain tracing seal us ss once fit waited n), refl))

-- what is told of a seal, and of a standing that was set
told-is : (seal : Option Seal) → told_standing (standing_of seal) ≡ waited_for seal
told-is None = refl
told-is (Some s) = refl

passed-is : (plain tracing : ℕ) (seal : Option Seal) → IsTimed plain tracing (standing_of seal) → HasPassed seal
passed-is plain tracing None h = tt
passed-is plain tracing (Some s) h = h

told-set : (ss : List Standing) (n m : ℕ) (x : Standing) → n < length ss → waits_told (set ss n x) m ≡ on_unit n (told_standing x) (waits_told ss) m
told-set ss n m x lt =
    elim (cases_eq m n) [
      | inl same ↦ rw (eq-eqb m n same) (ap (waits_told (set ss n x)) same ∙ ap told_standing (get_or-set_same ss n x Nothing lt))
      | inr other ↦ rw (ne_eqb m n other) (ap told_standing (get_or-set_other ss n m x Nothing other))
    ]

-- what is told of values, where a slot was written
fields-set : (slots : List (Option Object)) (n : ℕ) (x : Option Object) (m : ℕ) → n < length slots → values_of (object_at (set slots n x) m) ≡ with_fields n (values_of x) (λ k. values_of (object_at slots k)) m
fields-set slots n x m lt =
    elim (cases_eq m n) [
      | inl same ↦ rw (eq-eqb m n same) (ap (λ k. values_of (object_at (set slots n x) k)) same ∙ ap values_of (object-same slots n x lt))
      | inr other ↦ rw (ne_eqb m n other) (ap values_of (object-other slots n m x other))
    ]

-- .. and of lives
lives-set : (slots : List (Option Object)) (n : ℕ) (x : Option Object) (m : ℕ) → n < length slots → life_of (object_at (set slots n x) m) ≡ (if eqb m n then life_of x else life_of (object_at slots m))
lives-set slots n x m lt =
    elim (cases_eq m n) [
      | inl same ↦ rw (eq-eqb m n same) (ap (λ k. life_of (object_at (set slots n x) k)) same ∙ ap life_of (object-same slots n x lt))
      | inr other ↦ rw (ne_eqb m n other) (ap life_of (object-other slots n m x other))
    ]

-- a unit of this processor's begins a life
pub does-make : (type : ℕ) (values : List ℕ) (u : UnitState) (a b : LivingState) → b ≡ with_begun type values u a → standing_at a.standings u.number ≡ standing_of u.seal → IsTimed a.side.grace.plain.number a.side.grace.tracing.number (standing_at a.standings u.number) → u.number < length a.standings → unit_at a.slots u.number ≡ None → u.life ≡ begun_at a.begun u.number → ((n : ℕ) → begun_at b.begun n ≡ (if eqb u.number n then begun_at a.begun n + 1 else begun_at a.begun n)) → u.number < length a.slots → u.home ≡ a.side.grace.processor → LivingDoes (act.Makes u.number (u.life + 1) type values u.seal ∷ []) a b
does-make type values u a b e stands timed within-standings none next counts there home = record {
  waits = (waits_told b.standings, ((ap told_standing stands ∙ told-is u.seal, (passed-is a.side.grace.plain.number a.side.grace.tracing.number u.seal (subst (IsTimed a.side.grace.plain.number a.side.grace.tracing.number) stands timed), fun_ext (λ n. ap (λ (ss : List Standing). waits_told ss n) (ap (λ (w : LivingState). w.standings) e) ∙ told-set a.standings u.number n Nothing within-standings))), refl));
  made = (fields_told b, (fun_ext (λ m. ap (λ (w : LivingState). fields_told w m) e ∙ fields-set a.slots u.number (Some (new_object type values (next_life u))) m there), refl));
  exchanged = none-exchanged (act.Makes u.number (u.life + 1) type values u.seal) a b (ap (λ (w : LivingState). w.contents) e) (λ w. refl);
  called = none-called (act.Makes u.number (u.life + 1) type values u.seal) a b (ap (λ (w : LivingState). w.graphs) e) (λ names w. refl);
  named = ap (λ (w : LivingState). graph_names_in w.graphs) e;
  asked = (let z = ap (λ (w : LivingState). w.asked) e in omega (arith, z));
  keeps = λ n s. ap (λ (w : LivingState). standing_at w.standings n) e ∙ get_or-set_other a.standings u.number n Nothing Nothing s.0;
  did = λ p s. record {
    leads = record {
      fit = (record { none = ap life_of (no-object (object_at a.slots u.number) none); next_is = ap (λ n. n + 1) next }, tt);
      now_is =
          let side : b.side ≡ a.side = ap (λ (w : LivingState). w.side) e in
          let F : (ℕ → ℕ) → (ℕ → Option Life) → SideState → Shared = λ xs ys w. told (record { begun = xs; holds = ys; dropping = λ p l. None }) w in
          ap (λ xs. F xs (λ v. if eqb v u.number then Some (record { maker = p; count = 1 }) else life_of (object_at a.slots v)) a.side)
          (fun_ext (λ n. ap (λ b. if b then begun_at a.begun n + 1 else begun_at a.begun n) (turned n u.number) ∙ sym (counts n)))
          ∙ (ap (λ ys. F (begun_at b.begun) ys a.side) (fun_ext (λ n. held p (home ∙ s.grace_is) n))
          ∙ ap (F (begun_at b.begun) (λ n. life_of (object_at b.slots n))) (sym side));
    };
    stays = subst (IsSideOf p) (sym (ap (λ (w : LivingState). w.side) e)) s;
    others = λ d q ne. ap (λ (w : LivingState). slice_index (domain_in d w.side.grace).begins q) e;
  };
}
  where
    held : (p : ℕ) → u.home ≡ p → (n : ℕ) → (if eqb n u.number then Some (record { maker = p; count = 1 }) else life_of (object_at a.slots n)) ≡ life_of (object_at b.slots n)
    held p h n =
        ap (λ (q : ℕ). let v : Life = record { maker = q; count = 1 } in if eqb n u.number then Some v else life_of (object_at a.slots n)) (sym h)
        ∙ (sym (lives-set a.slots u.number (Some (new_object type values (next_life u))) n there) ∙ ap (λ (w : LivingState). life_of (object_at w.slots n)) (sym e))

-- a life ends
pub does-end : (delayed : Bool) (n : ℕ) (u : UnitState) (a b : LivingState) → b ≡ with_ended delayed n a → standing_at a.standings n ≡ Nothing → n < length a.standings → life_of (object_at a.slots n) ≡ Some (record { maker = u.home; count = 1 }) → u.life ≡ begun_at a.begun n → n < length a.slots → LivingDoes (act.Ends n u.life u.home delayed ∷ []) a b
does-end delayed n u a b e stands within-standings lives last there = record {
  waits = (waits_told b.standings, (fun_ext (λ m. ap (λ (ss : List Standing). waits_told ss m) (ap (λ (w : LivingState). w.standings) e) ∙ told-ended delayed m), refl));
  made = (fields_told b, (fun_ext (λ m. ap (λ (w : LivingState). fields_told w m) e ∙ fields-set a.slots n None m there), refl));
  exchanged = none-exchanged (act.Ends n u.life u.home delayed) a b (ap (λ (w : LivingState). w.contents) e) (λ w. refl);
  called = none-called (act.Ends n u.life u.home delayed) a b (ap (λ (w : LivingState). w.graphs) e) (λ names w. refl);
  named = ap (λ (w : LivingState). graph_names_in w.graphs) e;
  asked = (let z = ap (λ (w : LivingState). w.asked) e in omega (arith, z));
  keeps = λ m s. ap (λ (w : LivingState). standing_at w.standings m) e ∙ kept-ended delayed m s.0;
  did = λ p s. record {
    leads = record {
      fit = (record { holds = lives; now_is = last }, tt);
      now_is =
          let F : (ℕ → Option Life) → LivingState → Shared = λ ys w. told (record { begun = begun_at w.begun; holds = ys; dropping = λ p l. None }) w.side in
          ap (λ ys. F ys a) (fun_ext (λ m. gone m)) ∙ sym (ap told_living e);
    };
    stays = subst (IsSideOf p) (sym (ap (λ (w : LivingState). w.side) e)) s;
    others = λ d q ne. ap (λ (w : LivingState). slice_index (domain_in d w.side.grace).begins q) e;
  };
}
  where
    kept-ended : (delayed : Bool) (m : ℕ) → m ≢ n → standing_at (standings_after delayed n a.side.grace a.standings) m ≡ standing_at a.standings m
    kept-ended true m ne = get_or-set_other a.standings n m (Waits (wait_now a.side.grace)) Nothing ne
    kept-ended false m ne = refl

    told-ended : (delayed : Bool) (m : ℕ) → waits_told (standings_after delayed n a.side.grace a.standings) m ≡ on_unit n (wait_after delayed) (waits_told a.standings) m
    told-ended true m = told-set a.standings n m (Waits (wait_now a.side.grace)) within-standings
    told-ended false m =
        elim (cases_eq m n) [
          | inl same ↦ rw (eq-eqb m n same) (ap (waits_told a.standings) same ∙ ap told_standing stands)
          | inr other ↦ rw (ne_eqb m n other) refl
        ]

    gone : (m : ℕ) → (if eqb m n then None else life_of (object_at a.slots m)) ≡ life_of (object_at (set a.slots n None) m)
    gone m = sym (lives-set a.slots n None m there)

-- ---- references

-- an act by which there are so many references to the object that a unit is
pub does-recount : (x : Act) (f : ℕ → ℕ) (n life count : ℕ) (a b : LivingState) → ((w : ℕ → seals.Wait) → WaitsBy x w w) → ((w : Fields) → MadeBy x w w) → ((m : ℕ) → AllSpare m (x ∷ [])) → ((p : ℕ) → Has n life (count_of (object_at a.slots n)) (lives_told a) → ActFits p x (told_living a)) → ((p : ℕ) → act_after p x (told_living a) ≡ told (recounted f n (lives_told a)) a.side) → b.side ≡ a.side → b.standings ≡ a.standings → b.begun ≡ a.begun → b.slots ≡ slots_counted n count a.slots → count ≡ f (count_of (object_at a.slots n)) → n < length a.slots → Has n life (count_of (object_at a.slots n)) (lives_told a) → b.contents ≡ a.contents → b.graphs ≡ a.graphs → a.asked ≤ b.asked → ((w : Contents) → ExchangedBy x w w) → ((names : List (List ℕ)) (w : Shelf) → CalledBy names x w w) → LivingDoes (x ∷ []) a b
does-recount x f n life count a b waits made spares fits after side standings begun slots is lt has contents graphs asked quiet uncalled = record {
  waits = subst (λ (ss : List Standing). WaitLeads (x ∷ []) (waits_told a.standings) (waits_told ss)) (sym standings) (waits_told a.standings, (waits (waits_told a.standings), refl));
  made = subst (MadeLead (x ∷ []) (fields_told a)) (sym fields) (fields_told a, (made (fields_told a), refl));
  exchanged = none-exchanged x a b contents quiet;
  called = none-called x a b graphs uncalled;
  named = ap graph_names_in graphs;
  asked = asked;
  keeps = λ m s. ap (λ (ss : List Standing). standing_at ss m) standings;
  did = λ p s. record {
    leads = record {
      fit = (fits p has, tt);
      now_is = after p ∙ (ap (λ (ys : Lives). told ys a.side) lives ∙ ap (told (lives_told b)) (sym side));
    };
    stays = subst (IsSideOf p) (sym side) s;
    others = λ d q ne. ap (λ (w : SideState). slice_index (domain_in d w.grace).begins q) side;
  };
}
  where
    fields : fields_told b ≡ fields_told a
    fields = fun_ext (λ m. ap (λ (xs : List (Option Object)). values_of (object_at xs m)) slots ∙ values-stay a.slots n count m lt)

    told-counted : (y : Option Object) → count ≡ f (count_of y) → counted f (life_of y) ≡ life_of (with_count count y)
    told-counted None e = refl
    told-counted (Some o) e = ap (λ k. let v : Life = record { maker = o.unit.home; count = k } in Some v) (sym e)

    holds : (m : ℕ) → (recounted f n (lives_told a)).holds m ≡ life_of (object_at b.slots m)
    holds m =
        ap (λ y. if eqb m n then y else life_of (object_at a.slots m)) (told-counted (object_at a.slots n) is)
        ∙ (sym (lives-set a.slots n (with_count count (object_at a.slots n)) m lt) ∙ ap (λ (xs : List (Option Object)). life_of (object_at xs m)) (sym slots))

    lives : recounted f n (lives_told a) ≡ lives_told b
    lives =
        let F : List ℕ → (ℕ → Option Life) → Lives = λ xs ys. record { begun = begun_at xs; holds = ys; dropping = λ p l. None } in
        ap (F a.begun) (fun_ext holds) ∙ ap (λ xs. F xs (λ m. life_of (object_at b.slots m))) (sym begun)

-- the life that an object has
pub has-life : (n life : ℕ) (a : LivingState) (o : Object) → object_at a.slots n ≡ Some o → life ≡ begun_at a.begun n → Has n life (count_of (object_at a.slots n)) (lives_told a)
has-life n life a o e now = record { held = record { maker = o.unit.home; count = o.count }; holds = ap life_of e; count = ap count_of (sym e); now_is = now }

-- a read of a field
pub does-read : (n life place value : ℕ) (a : LivingState) (o : Object) → object_at a.slots n ≡ Some o → life ≡ begun_at a.begun n → slice_get (values_of (object_at a.slots n)) place ≡ Some value → LivingDoes (act.Finds n life place value ∷ []) a a
does-read n life place value a o e now is = record {
  waits = (waits_told a.standings, (refl, refl));
  made = (fields_told a, ((is, refl), refl));
  exchanged = (named_in a.contents, (refl, refl));
  called = (shelf_of a.graphs, (refl, refl));
  named = refl;
  asked = omega arith;
  keeps = λ m s. refl;
  did = λ p s. record {
    leads = record { fit = (record { held = record { maker = o.unit.home; count = o.count }; holds = ap life_of e; now_is = now }, tt); now_is = refl };
    stays = s;
    others = λ d q ne. refl;
  };
}

-- ---- slots

-- what is put into a slot lives, if anything is
pub put-alive : (put : Option ObjId) (a : LivingState) → ((n : ℕ) (o : Object) → object_at a.slots n ≡ Some o → o.unit.life ≡ begun_at a.begun n) → PutLives (lives_of a.slots) put → IfAlive put (lives_told a)
put-alive None a last h = tt
put-alive (Some x) a last h =
    let alive = is-living a.slots x.unit x.life h.0 h.1 in
    record { held = record { maker = alive.object.unit.home; count = alive.object.count }; holds = ap life_of alive.is; now_is = sym alive.now_is ∙ last x.unit alive.object alive.is }

-- an exchange
pub does-exchange : (place : ℕ) (put : Option ObjId) (tag : Tag) (a : LivingState) → ((n : ℕ) (o : Object) → object_at a.slots n ≡ Some o → o.unit.life ≡ begun_at a.begun n) → PutLives (lives_of a.slots) put → named_in (put_at place (record { held = put; by = Some tag }) a.contents) ≡ with_slot (slot_at place a.contents).name (record { held = put; by = Some tag }) (named_in a.contents) → named_in a.contents (slot_at place a.contents).name ≡ (slot_at place a.contents).slot →
    LivingDoes (act.Exchanges (slot_at place a.contents).name put (slot_at place a.contents).slot.held (slot_at place a.contents).slot.by tag ∷ []) a (with_exchanged place put tag a)
does-exchange place put tag a last lives told is = record {
  waits = (waits_told a.standings, (refl, refl));
  made = (fields_told a, (refl, refl));
  exchanged = (named_in (with_exchanged place put tag a).contents, ((ap (λ (s : Slot). s.held) (sym is), ap (λ (s : Slot). s.by) (sym is), told), refl));
  called = (shelf_of a.graphs, (refl, refl));
  named = refl;
  asked = omega arith;
  keeps = λ m s. refl;
  did = λ p s. record {
    leads = record { fit = (put-alive put a last lives, tt); now_is = refl };
    stays = s;
    others = λ d q ne. refl;
  };
}

-- ---- lists and trees

-- a call on one of them, by which objects move at most from one to another
pub does-call : (name : List ℕ) (position : ℕ) (call : PastCall) (tag : Tag) (a : LivingState) (slots : List (Option Object)) (graphs : List NamedGraph) → ((m : ℕ) → life_of (object_at slots m) ≡ life_of (object_at a.slots m)) → ((m : ℕ) → values_of (object_at slots m) ≡ values_of (object_at a.slots m)) → IfAlive (pushed_by call) (lives_told a) → IsKeyed call (fields_told a) → Calls (graph_names_in a.graphs) name position call tag (shelf_of a.graphs) (shelf_of graphs) → graph_names_in graphs ≡ graph_names_in a.graphs →
    LivingDoes (act.Calls name position call tag ∷ []) a (record a { slots = slots; graphs = graphs })
does-call name position call tag a slots graphs lives values alive keyed called named = record {
  waits = (waits_told a.standings, (refl, refl));
  made = (fields_told a, ((keyed, refl), fun_ext values));
  exchanged = (named_in a.contents, (refl, refl));
  called = (shelf_of graphs, (called, refl));
  named = named;
  asked = omega arith;
  keeps = λ m s. refl;
  did = λ p s. record {
    leads = record {
      fit = (alive, tt);
      now_is =
          let F : (ℕ → Option Life) → Shared = λ ys. told (record { begun = begun_at a.begun; holds = ys; dropping = λ p l. None }) a.side in
          ap F (fun_ext (λ m. sym (lives m)));
    };
    stays = s;
    others = λ d q ne. refl;
  };
}

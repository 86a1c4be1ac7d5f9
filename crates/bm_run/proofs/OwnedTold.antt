-- Objects along the order of a run: each unit is given where an object was asked for, each read finds a value with which its object was
-- made, and each exchange finds what its slot holds.
use Rattle.std.proofs.Common.{◌≡◌, ◌∙◌, ◌+◌, ℕ, Bool, true, false, List, [], ◌∷◌, ◌++◌, Option, None, Some, ap, append-nil, eq-eqb, inl, inr, map, refl, slice_get, subst, sym}
use Rattle.std.specs.Prelude.{◌&&◌, ◌-◌, eqb, if◌then◌else◌}
use Rattle.std.proofs.lemmas.Bool.Decides.{eqb_tells}
use Rattle.bm_journal.specs.declared.ids.ObjId.{ObjId}
use Rattle.bm_journal.specs.declared.entry.Entry.{Entry}
use Rattle.bm_journal.specs.declared.entry.Entry.TheVariants as entry
use Rattle.bm_law.specs.Lists.{Log}
use Rattle.bm_law.specs.Phrases.{given}
use Rattle.bm_law.specs.Spans.{own_entries}
use Rattle.bm_law.proofs.Spans.{own-append}
use Rattle.bm_page.specs.declared.units.Seal.{Seal}
use Rattle.bm_graph.specs.Entries.{call_entry}
use Rattle.bm_journal.specs.declared.past.PastCall.{PastCall}
use Rattle.bm_journal.specs.declared.past.PastCall.TheVariants as past
use Rattle.bm_law_order.specs.Act.{Act}
use Rattle.bm_law_order.specs.Act as act
use Rattle.bm_law_order.specs.Acts.{ActsFit, acts_over, pushed_by}
use Rattle.bm_law_order.specs.Calls.{calls_in}
use Rattle.bm_law_order.specs.Chunk.{Chunk, acts_of, entries_of, seal_told}
use Rattle.bm_law_order.specs.Chunk as chunk
use Rattle.bm_law_order.specs.Lives.{IfAlive, IsAlive, Life, Lives, counted, lives_after}
use Rattle.bm_law_order.specs.Made.{Fields, IsKeyed, MadeLead, with_fields}
use Rattle.bm_law_order.specs.Orders.{AllFit, Leads, Order, by, over, part_of, shared_over}
use Rattle.bm_law_order.specs.Quiet.{is_quiet}
use Rattle.bm_law_order.specs.Shared.{Shared, fresh, shared_after}
use Rattle.bm_law_order.specs.Slots.{Contents, SlotsLead, named_in}
use Rattle.bm_law_order.proofs.SlotsJoin.{slots-split}
use Rattle.bm_law_order.specs.Story.{AllJudged, Steady, Story, at_level, deeds, lines, lines_of, plainly}
use Rattle.bm_law_order.specs.Tie.{Tied}
use Rattle.bm_law_order.proofs.ActsJoin.{acts-append, acts-before, acts-later}
use Rattle.bm_law_order.proofs.Along.{by-append, fit-append, over-append}
use Rattle.bm_law_order.proofs.Stories.{comes}
use Rattle.bm_law_objects.specs.Objects.{Asked, IsOwned, Made, Objects, Owned, OwnedFit, asking_after, at_place, made_after, nothing_owned, owned_after}
use Rattle.bm_law_graphs.specs.ToldCalls.{HasMadeKey, KeyedBy, KeyedCall}
use Rattle.bm_world.specs.LivingState.{LivingState}
use Rattle.bm_world.specs.Told.{IsSideOf}
use Rattle.bm_world.specs.ToldLiving.{LivingDoes, fields_told, knows_living, told_living}
use Rattle.bm_exec_levels.specs.Asked.{asked_after, asked_over}
use Rattle.bm_exec_levels.specs.AtPolls.{home, polled}
use Rattle.bm_run.specs.SoFar.{IsMadeOf, MadeAs}
use Rattle.bm_run.proofs.AddedParts.{own-log}
use Rattle.bm_run.proofs.Laid.{added-lines}
use Rattle.bm_run.proofs.SlotsTold.{ExchangeOf, calls-along, calls-more, chunk-slots, exchange-of, tag-of}

-- ---- what a level asks for

abbrev asked_values : Option Asked → Option (List ℕ)
asked_values None = None
asked_values (Some asked) = Some asked.values

here : {A : Type 0} (p l : ℕ) (x : A) (f : ℕ → ℕ → A) → at_place p l x f p l ≡ x
here p l x f = rw (eq-eqb p p refl) (rw (eq-eqb l l refl) refl)

elsewhere : {A : Type 0} (p l q k : ℕ) (x : A) (f : ℕ → ℕ → A) → eqb q p && eqb k l ≡ false → at_place p l x f q k ≡ f q k
elsewhere p l q k x f e = rw e refl

asked-here : (p l : ℕ) (e : Entry) (asking : ℕ → ℕ → Option Asked) → asked_values (asking_after p l e asking p l) ≡ asked_after e (asked_values (asking p l))
asked-here p l (entry.New name values) asking = ap asked_values (here p l (Some (record { type_name = name; values = values })) asking)
asked-here p l (entry.Given u life) asking = ap asked_values (here p l None asking)
asked-here p l (entry.GivenAfter u life stamp seen) asking = ap asked_values (here p l None asking)
asked-here p l entry.Empty asking = ap asked_values (here p l None asking)
asked-here p l (entry.Busy active) asking = ap asked_values (here p l None asking)
asked-here p l _ asking = refl

asked-elsewhere : (p l q k : ℕ) (e : Entry) (asking : ℕ → ℕ → Option Asked) → eqb q p && eqb k l ≡ false → asking_after p l e asking q k ≡ asking q k
asked-elsewhere p l q k (entry.New name values) asking d = elsewhere p l q k (Some (record { type_name = name; values = values })) asking d
asked-elsewhere p l q k (entry.Given u life) asking d = elsewhere p l q k None asking d
asked-elsewhere p l q k (entry.GivenAfter u life stamp seen) asking d = elsewhere p l q k None asking d
asked-elsewhere p l q k entry.Empty asking d = elsewhere p l q k None asking d
asked-elsewhere p l q k (entry.Busy active) asking d = elsewhere p l q k None asking d
asked-elsewhere p l q k _ asking d = refl

apart-one : (a b c d : ℕ) → (c ≡ a → ⊥) → eqb a c && eqb b d ≡ false
apart-one a b c d n = elim (eqb_tells a c) [
  | inl y ↦ absurd (n (sym y.1))
  | inr y ↦ rw y.0 refl
]

apart-two : (a b c d : ℕ) → (d ≡ b → ⊥) → eqb a c && eqb b d ≡ false
apart-two a b c d n = elim (eqb_tells b d) [
  | inl y ↦ absurd (n (sym y.1))
  | inr y ↦ rw y.0 (none (eqb a c))
]
  where
    none : (x : Bool) → (x && false) ≡ false
    none true = refl
    none false = refl

-- along an order, it is what the entries of the level ask for
asking-over : (p l : ℕ) (o : Order) (x : Owned) → asked_values ((over owned_after o x).objects.asking p l) ≡ asked_over (own_entries l (part_of p o)) (asked_values (x.objects.asking p l))
asking-over p l [] x = refl
asking-over p l (e ∷ o) x =
    let next : Owned = owned_after e.processor e.level e.entry x in
    let rest = asking-over p l o next in
    elim (eqb_tells e.processor p) [
      | inl y ↦ elim (eqb_tells e.level l) [
        | inl z ↦ rest ∙ one y.1 z.1 y.0 z.0
        | inr z ↦ rest ∙ (ap (λ a. asked_over (own_entries l (part_of p o)) (asked_values a)) (asked-elsewhere e.processor e.level p l e.entry x.objects.asking (apart-two p l e.processor e.level z.1)) ∙ sym (other-level y.0 z.0))
      ]
      | inr y ↦ rest ∙ (ap (λ a. asked_over (own_entries l (part_of p o)) (asked_values a)) (asked-elsewhere e.processor e.level p l e.entry x.objects.asking (apart-one p l e.processor e.level y.1)) ∙ sym (other-part y.0))
    ]
  where
    start : Option (List ℕ)
    start = asked_values (x.objects.asking p l)

    other-part : eqb e.processor p ≡ false → asked_over (own_entries l (part_of p (e ∷ o))) start ≡ asked_over (own_entries l (part_of p o)) start
    other-part a = rw a refl

    other-level : eqb e.processor p ≡ true → eqb e.level l ≡ false → asked_over (own_entries l (part_of p (e ∷ o))) start ≡ asked_over (own_entries l (part_of p o)) start
    other-level a b = rw a (rw b refl)

    own-level : eqb e.processor p ≡ true → eqb e.level l ≡ true → asked_over (own_entries l (part_of p (e ∷ o))) start ≡ asked_over (own_entries l (part_of p o)) (asked_after e.entry start)
    own-level a b = rw a (rw b refl)

    one : e.processor ≡ p → e.level ≡ l → eqb e.processor p ≡ true → eqb e.level l ≡ true → asked_over (own_entries l (part_of p o)) (asked_values (asking_after e.processor e.level e.entry x.objects.asking p l)) ≡ asked_over (own_entries l (part_of p (e ∷ o))) start
    one same level a b =
        let F : ℕ → ℕ → Type 0 = λ q k. asked_values (asking_after q k e.entry x.objects.asking p l) ≡ asked_after e.entry start in
        let told : F e.processor e.level = subst (λ q. F q e.level) (sym same) (subst (F p) (sym level) (asked-here p l e.entry x.objects.asking)) in
        ap (asked_over (own_entries l (part_of p o))) told ∙ sym (own-level a b)

asked-append : (one two : List Entry) (asked : Option (List ℕ)) → asked_over (one ++ two) asked ≡ asked_over two (asked_over one asked)
asked-append [] two asked = refl
asked-append (e ∷ one) two asked = asked-append one two (asked_after e asked)

is-asked : (asking : Option Asked) (values : List ℕ) → asked_values asking ≡ Some values → (asked : Asked) × (asking ≡ Some asked) × (asked.values ≡ values)
is-asked None values e = cc
is-asked (Some asked) values e = (asked, refl, cc)

-- ---- lives

-- objects go beside the lives of an order
owned-lives : (o : Order) (x : Owned) (s : Shared) → x.lives ≡ s.lives → (over owned_after o x).lives ≡ (shared_over o s).lives
owned-lives [] x s h = h
owned-lives (e ∷ o) x s h = owned-lives o (owned_after e.processor e.level e.entry x) (shared_after e.processor e.level e.entry s) (ap (lives_after e.processor e.level e.entry) h)

-- ---- what lives were made with

-- so it is of all units
abbrev Agree : (ℕ → Option Made) → Lives → Fields → Type 0
Agree made lives fields = (u : ℕ) → MadeAs (lives.holds u) (lives.begun u) (fields u) (made u)

record Follows (p : ℕ) (es : Log) (x : Owned) (lives : Lives) (now : Fields) : Type 0 where
  fit : AllFit owned_after OwnedFit (by p es) x
  agrees : Agree (over owned_after (by p es) x).objects.made lives now

-- another number of references is no matter
made-counted : (f : ℕ → ℕ) (held : Option Life) (now : ℕ) (values : List ℕ) (made : Option Made) → MadeAs held now values made → MadeAs (counted f held) now values made
made-counted f None now values made h = tt
made-counted f (Some l) now values made h = h

recounted-agrees : (f : ℕ → ℕ) (u : ℕ) (made : ℕ → Option Made) (lives : Lives) (fields : Fields) → Agree made lives fields → (v : ℕ) → MadeAs (if eqb v u then counted f (lives.holds u) else lives.holds v) (lives.begun v) (fields v) (made v)
recounted-agrees f u made lives fields h v = elim (eqb_tells v u) [
  | inl y ↦ rw y.0 (subst (λ k. MadeAs (counted f (lives.holds k)) (lives.begun v) (fields v) (made v)) y.1 (made-counted f (lives.holds v) (lives.begun v) (fields v) (made v) (h v)))
  | inr y ↦ rw y.0 (h v)
]

ended-agrees : (u : ℕ) (made : ℕ → Option Made) (lives : Lives) (fields : Fields) → Agree made lives fields → (v : ℕ) → MadeAs (if eqb v u then None else lives.holds v) (lives.begun v) (with_fields u [] fields v) (made v)
ended-agrees u made lives fields h v = elim (eqb_tells v u) [
  | inl y ↦ rw (y.0) tt
  | inr y ↦ rw (y.0) (h v)
]

made-key : (id : ObjId) (key : ℕ) (made : ℕ → Option Made) (lives : Lives) (fields : Fields) (objects : Objects) → objects.made ≡ made → Agree made lives fields → IsAlive id.unit id.life lives → slice_get (fields id.unit) 0 ≡ Some key → HasMadeKey id key objects
made-key id key made lives fields objects e h alive keyed =
    let m = subst (λ (o : Option Life). MadeAs o (lives.begun id.unit) (fields id.unit) (made id.unit)) alive.holds (h id.unit) in (
      m.0,
      ap (λ (f : ℕ → Option Made). f id.unit) e ∙ (m.1 ∙ ap (λ (k : ℕ). let z : Made = record { life = k; asked = m.0 } in Some z) (sym alive.now_is)),
      ap (λ (vs : List ℕ). slice_get vs 0) m.2 ∙ keyed,
    )

-- so it is of each addition along a story of processor p
abbrev pub KeyedAlong : (p : ℕ) → Story → Owned → Type 0
KeyedAlong p [] x = Unit {0}
KeyedAlong p (t ∷ ts) x = KeyedCall t.chunk x.objects × KeyedAlong p ts (over owned_after (by p (lines_of t)) x)

module _ (p : ℕ) where
  -- one entry that makes and reads nothing
  plain-one : (l : ℕ) (e : Entry) (x : Owned) (lives : Lives) (fields now : Fields) → OwnedFit p l e x → made_after e (x.objects.asking p l) x.objects.made ≡ x.objects.made → now ≡ fields → Agree x.objects.made lives fields → Follows p ((l, e) ∷ []) x lives now
  plain-one l e x lives fields now fit same n h = record {
    fit = (fit, tt);
    agrees = λ u. subst (λ (m : ℕ → Option Made). MadeAs (lives.holds u) (lives.begun u) (now u) (m u)) (sym same) (subst (λ (f : Fields). MadeAs (lives.holds u) (lives.begun u) (f u) (x.objects.made u)) (sym n) (h u));
  }

  nothing-said : (x : Owned) (lives : Lives) (fields now : Fields) → now ≡ fields → Agree x.objects.made lives fields → Follows p [] x lives now
  nothing-said x lives fields now n h = record { fit = tt; agrees = λ u. subst (λ (f : Fields). MadeAs (lives.holds u) (lives.begun u) (f u) (x.objects.made u)) (sym n) (h u) }

  quiet-one : (l : ℕ) (e : Entry) (x : Owned) → is_quiet e ≡ true → OwnedFit p l e x × (made_after e (x.objects.asking p l) x.objects.made ≡ x.objects.made)
  quiet-one l (entry.Given u life) x q = absurd (cc)
  quiet-one l (entry.GivenAfter u life stamp seen) x q = absurd (cc)
  quiet-one l (entry.Get u life place value) x q = absurd (cc)
  quiet-one l (entry.Xchg name put was from) x q = absurd (cc)
  quiet-one l _ x q = (tt, refl)

  -- a life is made
  made-agrees : (u life : ℕ) (values : List ℕ) (asked : Asked) (made : ℕ → Option Made) (lives : Lives) (fields : Fields) → asked.values ≡ values → life ≡ lives.begun u + 1 → Agree made lives fields →
      (v : ℕ) → MadeAs (if eqb v u then Some (record { maker = p; count = 1 }) else lives.holds v) (if eqb v u then lives.begun v + 1 else lives.begun v) (with_fields u values fields v) (if eqb v u then Some (record { life = life; asked = asked }) else made v)
  made-agrees u life values asked made lives fields e next h v = elim (eqb_tells v u) [
    | inl y ↦ rw y.0 (asked, ap (λ (k : ℕ). let m : Made = record { life = k; asked = asked } in Some m) (next ∙ ap (λ (k : ℕ). lives.begun k + 1) (sym y.1)), e)
    | inr y ↦ rw y.0 (h v)
  ]

  making : (l u life type : ℕ) (values : List ℕ) (seal : Option Seal) (x : Owned) (s : Shared) (fields now : Fields) → asked_values (x.objects.asking p l) ≡ Some values → life ≡ s.lives.begun u + 1 → now ≡ with_fields u values fields → Agree x.objects.made s.lives fields →
      Follows p ((l, given u life (seal_told seal)) ∷ []) x (acts_over p (act.Makes u life type values seal ∷ []) s).lives now
  making l u life type values seal x s fields now a next n h =
      let k = is-asked (x.objects.asking p l) values a in
      of-seal seal k.0 k.1 (λ v.
      subst (λ (f : Fields). MadeAs (if eqb v u then Some (record { maker = p; count = 1 }) else s.lives.holds v) (if eqb v u then s.lives.begun v + 1 else s.lives.begun v) (f v) (if eqb v u then Some (record { life = life; asked = k.0 }) else x.objects.made v)) (sym n)
      (made-agrees u life values k.0 x.objects.made s.lives fields k.2 next h v))
    where
      After : (ℕ → Option Made) → Type 0
      After made = (v : ℕ) → MadeAs (if eqb v u then Some (record { maker = p; count = 1 }) else s.lives.holds v) (if eqb v u then s.lives.begun v + 1 else s.lives.begun v) (now v) (made v)

      of-seal : (seal : Option Seal) (asked : Asked) → x.objects.asking p l ≡ Some asked → After (λ v. if eqb v u then Some (record { life = life; asked = asked }) else x.objects.made v) → Follows p ((l, given u life (seal_told seal)) ∷ []) x (acts_over p (act.Makes u life type values seal ∷ []) s).lives now
      of-seal None asked is h = record { fit = (record { asked = asked; is = is }, tt); agrees = subst (λ (o : Option Asked). After (made_after (entry.Given u life) o x.objects.made)) (sym is) h }
      of-seal (Some z) asked is h = record { fit = (record { asked = asked; is = is }, tt); agrees = subst (λ (o : Option Asked). After (made_after (entry.GivenAfter u life z.stamp z.seen) o x.objects.made)) (sym is) h }

  -- a field is read
  finding : (l u life place value : ℕ) (x : Owned) (s : Shared) (fields now : Fields) → x.lives ≡ s.lives → ActsFit p (act.Finds u life place value ∷ []) s → slice_get (fields u) place ≡ Some value → now ≡ fields → Agree x.objects.made s.lives fields → Follows p ((l, entry.Get u life place value) ∷ []) x s.lives now
  finding l u life place value x s fields now e f found n h =
      let alive = f.0 in
      let m = subst (λ (o : Option Life). MadeAs o (s.lives.begun u) (fields u) (x.objects.made u)) alive.holds (h u) in
      plain-one l (entry.Get u life place value) x s.lives fields now
      (record {
        alive = record { held = alive.held; holds = ap (λ (y : Lives). y.holds u) e ∙ alive.holds; now_is = alive.now_is ∙ ap (λ (y : Lives). y.begun u) (sym e) };
        asked = m.0;
        made_is = m.1 ∙ ap (λ (k : ℕ). let z : Made = record { life = k; asked = m.0 } in Some z) (sym alive.now_is);
        value_is = ap (λ (vs : List ℕ). slice_get vs place) m.2 ∙ found;
      }) refl n h

  -- a call on a list or tree says nothing of objects that live, or of slots
  calling : (l : ℕ) (graph : List ℕ) (position : ℕ) (owner : List ℕ) (call : PastCall) (x : Owned) (lives : Lives) (fields now : Fields) → now ≡ fields → Agree x.objects.made lives fields → Follows p ((l, call_entry graph position owner call) ∷ []) x lives now
  calling l graph position owner (past.PushFront id) x lives fields now n h = plain-one l (entry.PushFront graph id.unit id.life position) x lives fields now tt refl n h
  calling l graph position owner _ x lives fields now n h = plain-one l _ x lives fields now tt refl n h

  receives-keep : (c : ℕ) (parcels : List (List ℕ)) (w now : Fields) → MadeLead (map (act.Receives c) parcels ++ act.Receives c [] ∷ []) w now → now ≡ w
  receives-keep c [] w now h = h.1.1 ∙ h.1.0
  receives-keep c (us ∷ parcels) w now h = receives-keep c parcels h.0 now h.1.1 ∙ h.1.0

  receives-live : (c : ℕ) (parcels : List (List ℕ)) (s : Shared) → (acts_over p (map (act.Receives c) parcels ++ act.Receives c [] ∷ []) s).lives ≡ s.lives
  receives-live c [] s = refl
  receives-live c (us ∷ parcels) s = receives-live c parcels (acts_over p (act.Receives c us ∷ []) s)

  module _ (closing : Bool) (since : Log) (start : LivingState) where
    chunk-owned : (l : ℕ) (c : Chunk) (x : Owned) (s : Shared) (fields now : Fields) (log : Log) → x.lives ≡ s.lives → Agree x.objects.made s.lives fields → asked_values (x.objects.asking p l) ≡ asked_over (own_entries l log) None → ActsFit p (acts_of c) s → MadeLead (acts_of c) fields now → polled knows_living closing since start l log c → ExchangeOf p c x →
        Follows p (at_level l (entries_of c)) x (acts_over p (acts_of c) s).lives now
    chunk-owned l (chunk.Making u life type values seal) x s fields now log e h a f m j z = making l u life type values seal x s fields now (a ∙ j) f.0.next_is (m.1.1 ∙ m.1.0) h
    chunk-owned l (chunk.Finding u life place value) x s fields now log e h a f m j z = finding l u life place value x s fields now e f m.1.0.0 (m.1.1 ∙ m.1.0.1) h
    chunk-owned l (chunk.Exchanging name put was from tag) x s fields now log e h a f m j z = record {
      fit = (z, tt);
      agrees = λ v. subst (λ (g : Fields). MadeAs (s.lives.holds v) (s.lives.begun v) (g v) (x.objects.made v)) (sym (m.1.1 ∙ m.1.0)) (h v);
    }
    chunk-owned l (chunk.Acquiring u life seen) x s fields now log e h a f m j z = record {
      fit = (tt, tt);
      agrees = λ v. subst (λ (g : Fields). MadeAs (if eqb v u then counted (λ n. n + 1) (s.lives.holds u) else s.lives.holds v) (s.lives.begun v) (g v) (x.objects.made v)) (sym (m.1.1 ∙ m.1.0)) (recounted-agrees (λ n. n + 1) u x.objects.made s.lives fields h v);
    }
    chunk-owned l (chunk.GivingUp u life seen) x s fields now log e h a f m j z = record {
      fit = (tt, (tt, tt));
      agrees = λ v. subst (λ (g : Fields). MadeAs (if eqb v u then counted (λ n. n - 1) (s.lives.holds u) else s.lives.holds v) (s.lives.begun v) (g v) (x.objects.made v)) (sym (m.1.1 ∙ m.1.0)) (recounted-agrees (λ n. n - 1) u x.objects.made s.lives fields h v);
    }
    chunk-owned l (chunk.Ending u life home true) x s fields now log e h a f m j z = record {
      fit = (tt, (tt, (tt, tt)));
      agrees = λ v. subst (λ (g : Fields). MadeAs (if eqb v u then None else s.lives.holds v) (s.lives.begun v) (g v) (x.objects.made v)) (sym (m.1.1 ∙ m.1.0)) (ended-agrees u x.objects.made s.lives fields h v);
    }
    chunk-owned l (chunk.Ending u life home false) x s fields now log e h a f m j z = record {
      fit = (tt, (tt, (tt, tt)));
      agrees = λ v. subst (λ (g : Fields). MadeAs (if eqb v u then None else s.lives.holds v) (s.lives.begun v) (g v) (x.objects.made v)) (sym (m.1.1 ∙ m.1.0)) (ended-agrees u x.objects.made s.lives fields h v);
    }
    chunk-owned l (chunk.Locking graph) x s fields now log e h a f m j z = plain-one l (entry.Lock graph) x s.lives fields now tt refl m h
    chunk-owned l (chunk.Unlocking graph) x s fields now log e h a f m j z = plain-one l (entry.Unlock graph) x s.lives fields now tt refl m h
    chunk-owned l (chunk.Calling graph position call owner tag) x s fields now log e h a f m j z = calling l graph position owner call x s.lives fields now (m.1.1 ∙ m.1.0.1) h
    chunk-owned l (chunk.Quiet e q) x s fields now log k h a f m j z = let o = quiet-one l e x q in plain-one l e x s.lives fields now o.0 o.1 m h
    chunk-owned l (chunk.Looking d ws) x s fields now log e h a f m j z = nothing-said x s.lives fields now (m.1.1 ∙ m.1.0) h
    chunk-owned l (chunk.Asking d y n) x s fields now log e h a f m j z = nothing-said x s.lives fields now (m.1.1 ∙ m.1.0) h
    chunk-owned l (chunk.Missing d even n) x s fields now log e h a f m j z = nothing-said x s.lives fields now (m.1.1 ∙ m.1.0) h
    chunk-owned l (chunk.FindingNone c) x s fields now log e h a f m j z = nothing-said x s.lives fields now (m.1.1 ∙ m.1.0) h
    chunk-owned l (chunk.Beginning d n ws) x s fields now log e h a f m j z = plain-one l (entry.Begin d n) x s.lives fields now tt refl (m.1.1.1.1 ∙ (m.1.1.1.0 ∙ m.1.0)) h
    chunk-owned l (chunk.Finishing ws q) x s fields now log e h a f m j z = plain-one l (entry.Finish q) x s.lives fields now tt refl (m.1.1.1.1 ∙ (m.1.1.1.0 ∙ m.1.0)) h
    chunk-owned l (chunk.WholePeriod n ws q) x s fields now log e h a f m j z = record {
      fit = (tt, (tt, tt));
      agrees = λ v. subst (λ (g : Fields). MadeAs (s.lives.holds v) (s.lives.begun v) (g v) (x.objects.made v)) (sym (m.1.1.1.1.1.1 ∙ (m.1.1.1.1.1.0 ∙ (m.1.1.1.0 ∙ m.1.0)))) (h v);
    }
    chunk-owned l (chunk.Sweeping c us parcels) x s fields now log e h a f m j z =
        subst (λ (y : Lives). Follows p (at_level l (entries_of (chunk.Sweeping c us parcels))) x y now) (sym (receives-live c parcels s)) (plain-one l _ x s.lives fields now tt refl (receives-keep c parcels fields now m) h)
    chunk-owned l (chunk.Entering d w) x s fields now log e h a f m j z = plain-one l _ x s.lives fields now tt refl (m.1.1 ∙ m.1.0) h
    chunk-owned l (chunk.Leaving d w) x s fields now log e h a f m j z = plain-one l _ x s.lives fields now tt refl (m.1.1 ∙ m.1.0) h
    chunk-owned l (chunk.Stamping c d y) x s fields now log e h a f m j z = plain-one l _ x s.lives fields now tt refl (m.1.1 ∙ m.1.0) h
    chunk-owned l (chunk.Passing c d y n) x s fields now log e h a f m j z = plain-one l _ x s.lives fields now tt refl (m.1.1 ∙ m.1.0) h
    chunk-owned l (chunk.Filling c us) x s fields now log e h a f m j z = plain-one l _ x s.lives fields now tt refl (m.1.1 ∙ m.1.0) h
    chunk-owned l (chunk.Fetching c want us) x s fields now log e h a f m j z = plain-one l _ x s.lives fields now tt refl (m.1.1 ∙ m.1.0) h
    chunk-owned l (chunk.Returning c us) x s fields now log e h a f m j z = plain-one l _ x s.lives fields now tt refl (m.1.1 ∙ m.1.0) h
    chunk-owned l (chunk.Sending c to us) x s fields now log e h a f m j z = plain-one l _ x s.lives fields now tt refl (m.1.1 ∙ m.1.0) h
    chunk-owned l (chunk.Draining c to us) x s fields now log e h a f m j z = plain-one l _ x s.lives fields now tt refl (m.1.1 ∙ m.1.0) h
    chunk-owned l (chunk.Releasing c to us stamp n) x s fields now log e h a f m j z = plain-one l _ x s.lives fields now tt refl (m.1.1 ∙ m.1.0) h
    chunk-owned l (chunk.GivingBack c us) x s fields now log e h a f m j z = plain-one l _ x s.lives fields now tt refl (m.1.1 ∙ m.1.0) h
    chunk-owned l (chunk.Receiving c us) x s fields now log e h a f m j z = plain-one l _ x s.lives fields now tt refl (m.1.1 ∙ m.1.0) h

    -- ---- stories

    -- what the levels of this processor ask for behind a log
    abbrev AskAll : Owned → Log → Type 0
    AskAll x log = (l : ℕ) → asked_values (x.objects.asking p l) ≡ asked_over (own_entries l log) None

    ask-more : (x : Owned) (log es : Log) → AskAll x log → AskAll (over owned_after (by p es) x) (log ++ es)
    ask-more x log es h l =
        asking-over p l (by p es) x
        ∙ (ap (λ z. asked_over (own_entries l z) (asked_values (x.objects.asking p l))) (own-log p es)
        ∙ (ap (asked_over (own_entries l es)) (h l)
        ∙ (sym (asked-append (own_entries l log) (own_entries l es) None) ∙ ap (λ z. asked_over z None) (sym (own-append l log es)))))

    made-split : (es fs : List Act) (a c : Fields) → MadeLead (es ++ fs) a c → (b : Fields) × (MadeLead es a b × MadeLead fs b c)
    made-split [] fs a c h = (a, (refl, h))
    made-split (e ∷ es) fs a c h = let r = made-split es fs h.0 c h.1.1 in (r.0, ((h.0, (h.1.0, r.1.0)), r.1.1))

    -- an addition to a tree is of an object that lives, and was made with its key
    keyed-call : (call : PastCall) (made : ℕ → Option Made) (lives : Lives) (fields : Fields) (objects : Objects) → objects.made ≡ made → Agree made lives fields → IfAlive (pushed_by call) lives → IsKeyed call fields → KeyedBy call objects
    keyed-call (past.Add id key) made lives fields objects e h alive keyed = made-key id key made lives fields objects e h alive keyed
    keyed-call (past.AddAlready id key owner) made lives fields objects e h alive keyed = made-key id key made lives fields objects e h alive keyed
    keyed-call _ made lives fields objects e h alive keyed = tt

    keyed-of : (c : Chunk) (x : Owned) (s : Shared) (fields now : Fields) → Agree x.objects.made s.lives fields → ActsFit p (acts_of c) s → MadeLead (acts_of c) fields now → KeyedCall c x.objects
    keyed-of (chunk.Calling graph position call owner tag) x s fields now h f m = keyed-call call x.objects.made s.lives fields x.objects refl h f.0 m.1.0.0
    keyed-of _ x s fields now h f m = tt

    story-owned : (ts : Story) (x : Owned) (s : Shared) (fields now : Fields) (slots later : Contents) (log : Log) → home knows_living start ≡ p → x.objects.calls p ≡ calls_in log → x.objects.slots ≡ slots → SlotsLead (deeds ts) slots later → x.lives ≡ (plainly s).lives → Steady s → Agree x.objects.made s.lives fields → AskAll x log → ActsFit p (deeds ts) s → MadeLead (deeds ts) fields now → AllJudged (polled knows_living closing since start) log ts →
        Follows p (lines ts) x (acts_over p (deeds ts) s).lives now × ((over owned_after (by p (lines ts)) x).objects.slots ≡ later) × KeyedAlong p ts x
    story-owned [] x s fields now slots later log own calls held r e steady h a f m j = (nothing-said x s.lives fields now m h, held ∙ sym r, tt)
    story-owned (t ∷ ts) x s fields now slots later log own calls held r e steady h a f m j =
        let es = acts_of t.chunk in
        let first = lines_of t in
        let q = made-split es (deeds ts) fields now m in
        let k = slots-split es (deeds ts) slots later r in
        let tag = tag-of p closing since start t.level t.chunk x log own calls j.0 in
        let found = exchange-of p t.chunk x s slots k.0 held e (acts-before p es (deeds ts) s f) k.1.0 in
        let s1 : Shared = acts_over p es s in
        let x1 : Owned = over owned_after (by p first) x in
        let one = chunk-owned t.level t.chunk x s fields q.0 log e h (a t.level) (acts-before p es (deeds ts) s f) q.1.0 j.0 found in
        let came = comes p t.level t.chunk s (acts-before p es (deeds ts) s f) steady in
        let lives : x1.lives ≡ (plainly s1).lives = owned-lives (by p first) x (plainly s) e ∙ ap (λ (z : Shared). z.lives) came.leads.now_is in
        let rest = story-owned ts x1 s1 q.0 now k.0 later (log ++ first) own (calls-more p x log first calls) (chunk-slots p t.level t.chunk x slots k.0 held tag k.1.0) k.1.1 lives came.steady one.agrees (ask-more x log first a) (acts-later p es (deeds ts) s f) q.1.1 j.1 in
        let all = acts-append p es (deeds ts) s in
        let order = by-append p first (lines ts) in
        let joined = ap (λ (o : Order). over owned_after o x) order ∙ over-append owned_after OwnedFit (by p first) (by p (lines ts)) x in (
          record {
            fit = subst (λ (o : Order). AllFit owned_after OwnedFit o x) (sym order) (fit-append owned_after OwnedFit (by p first) (by p (lines ts)) x one.fit rest.0.fit);
            agrees =
                subst (λ (z : Shared). Agree (over owned_after (by p (first ++ lines ts)) x).objects.made z.lives now) (sym all)
                (subst (λ (y : Owned). Agree y.objects.made (acts_over p (deeds ts) s1).lives now) (sym joined) rest.0.agrees);
          },
          ap (λ (y : Owned). y.objects.slots) joined ∙ rest.1,
          (keyed-of t.chunk x s fields q.0 h (acts-before p es (deeds ts) s f) q.1.0, rest.2),
        )

-- what an order leaves of objects
abbrev pub owned_over : Order → Owned
owned_over o = over owned_after o nothing_owned

-- Where it is so of the order so far, it is with what a processor's log adds while it is tied.
pub tied-owned-since : (closing : Bool) (n pages p : ℕ) (o : Order) (since added log : Log) (start now : LivingState) → Leads o (fresh n pages) (plainly (told_living start)) → Steady (told_living start) → IsSideOf p start.side → part_of p o ≡ since → log ≡ since ++ added → (t : Tied (polled knows_living closing since start) LivingDoes since start 0 [] [] log now) → IsOwned o → IsMadeOf o start → (owned_over o).objects.slots ≡ named_in start.contents →
    (IsOwned (o ++ by p added) × (IsMadeOf (o ++ by p added) now × ((owned_over (o ++ by p added)).objects.slots ≡ named_in now.contents))) × KeyedAlong p t.story (owned_over o)
tied-owned-since closing n pages p o since added log start now leads steady own part log_is t owned made slots =
    let judge = polled knows_living closing since start in
    let said = added-lines judge since added log start now log_is t in
    let s = told_living start in
    let x : Owned = owned_over o in
    let lives : x.lives ≡ (plainly s).lives = owned-lives o nothing_owned (fresh n pages) refl ∙ ap (λ (z : Shared). z.lives) leads.now_is in
    let asks : (l : ℕ) → asked_values (x.objects.asking p l) ≡ asked_over (own_entries l since) None = λ l. asking-over p l o nothing_owned ∙ ap (λ z. asked_over (own_entries l z) None) part in
    let acts = append-nil (deeds t.story) in
    let did = (t.done_is.did p own).leads in
    let fit = subst (λ (es : List Act). ActsFit p es s) acts did.fit in
    let led = subst (λ (es : List Act). acts_over p es s ≡ told_living now) acts did.now_is in
    let fields = subst (λ (es : List Act). MadeLead es (fields_told start) (fields_told now)) acts t.done_is.made in
    let exchanged = subst (λ (es : List Act). SlotsLead es (named_in start.contents) (named_in now.contents)) acts t.done_is.exchanged in
    let calls : x.objects.calls p ≡ calls_in since = calls-along p o nothing_owned ∙ ap calls_in part in
    let told = story-owned p closing since start t.story x s (fields_told start) (fields_told now) (named_in start.contents) (named_in now.contents) since own.grace_is calls slots exchanged lives steady made asks fit fields t.judged in
    let r = told.0 in
    let whole = over-append owned_after OwnedFit o (by p (lines t.story)) nothing_owned in
    let agrees : Agree (owned_over (o ++ by p (lines t.story))).objects.made (told_living now).lives (fields_told now) =
    subst (λ (z : Shared). Agree (owned_over (o ++ by p (lines t.story))).objects.made z.lives (fields_told now)) led
    (subst (λ (y : Owned). Agree y.objects.made (acts_over p (deeds t.story) s).lives (fields_told now)) (sym whole) r.agrees) in
    let F : Log → Type 0 = λ z. IsOwned (o ++ by p z) × (IsMadeOf (o ++ by p z) now × ((owned_over (o ++ by p z)).objects.slots ≡ named_in now.contents)) in
    (subst F (sym said) (fit-append owned_after OwnedFit o (by p (lines t.story)) nothing_owned owned r.fit, (agrees, ap (λ (y : Owned). y.objects.slots) whole ∙ told.1)), told.2)

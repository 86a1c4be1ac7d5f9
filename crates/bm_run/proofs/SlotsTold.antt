-- Slots along the order of a run: each exchange finds what the slot holds, and names the call that put it there.
use Rattle.std.proofs.Common.{◌≡◌, ◌∙◌, ℕ, Bool, true, false, List, [], ◌∷◌, ◌++◌, Option, None, Some, ap, eq-eqb, inl, inr, map, refl, subst, sym}
use Rattle.std.specs.Prelude.{eqb}
use Rattle.std.proofs.lemmas.Bool.{ne_eqb}
use Rattle.std.proofs.lemmas.Bool.Decides.{eqb_tells}
use Rattle.bm_journal.specs.declared.entry.Entry.{Entry}
use Rattle.bm_journal.specs.declared.entry.Entry.TheVariants as entry
use Rattle.bm_journal.specs.declared.ids.Tag.{Tag}
use Rattle.bm_journal.specs.declared.past.PastCall.{PastCall}
use Rattle.bm_journal.specs.declared.past.PastCall.TheVariants as past
use Rattle.bm_law.specs.Lists.{Log}
use Rattle.bm_page.specs.declared.units.Seal.{Seal}
use Rattle.bm_law_order.specs.Act as act
use Rattle.bm_law_order.specs.Acts.{ActsFit}
use Rattle.bm_law_order.specs.Calls.{calls_after, calls_in, calls_over, tag_after}
use Rattle.bm_law_order.specs.Chunk.{Chunk, acts_of, entries_of}
use Rattle.bm_law_order.specs.Chunk as chunk
use Rattle.bm_law_order.specs.Lives.{IfAlive}
use Rattle.bm_law_order.specs.Orders.{Order, by, over, part_of}
use Rattle.bm_law_order.specs.Polls.{for_processor}
use Rattle.bm_law_order.specs.Quiet.{is_quiet}
use Rattle.bm_law_order.specs.Shared.{Shared}
use Rattle.bm_law_order.specs.Slots.{Contents, SlotsLead, with_slot}
use Rattle.bm_law_order.specs.Story.{at_level}
use Rattle.bm_law_objects.specs.Objects.{IsExchange, Owned, owned_after, slots_after}
use Rattle.bm_world.specs.LivingState.{LivingState}
use Rattle.bm_world.specs.ToldLiving.{knows_living}
use Rattle.bm_exec_levels.specs.AtPolls.{home, polled}
use Rattle.bm_run.proofs.AddedParts.{own-log}

-- ---- how many calls a log has

calls-append : (n : ℕ) (a b : Log) → calls_over n (a ++ b) ≡ calls_over (calls_over n a) b
calls-append n [] b = refl
calls-append n (e ∷ a) b = calls-append (calls_after n e) a b

-- along an order, they are those of the processor's log
pub calls-along : (p : ℕ) (o : Order) (x : Owned) → (over owned_after o x).objects.calls p ≡ calls_over (x.objects.calls p) (part_of p o)
calls-along p [] x = refl
calls-along p (e ∷ o) x =
    let rest = calls-along p o (owned_after e.processor e.level e.entry x) in
    elim (eqb_tells e.processor p) [
      | inl y ↦ rest ∙ (ap (λ n. calls_over n (part_of p o)) (same y.1) ∙ sym (mine y.0))
      | inr y ↦ rest ∙ (ap (λ n. calls_over n (part_of p o)) (other y.1) ∙ sym (theirs y.0))
    ]
  where
    start : ℕ
    start = x.objects.calls p

    same : e.processor ≡ p → for_processor e.processor (calls_after (x.objects.calls e.processor) (e.level, e.entry)) x.objects.calls p ≡ calls_after start (e.level, e.entry)
    same h = subst (λ q. for_processor q (calls_after (x.objects.calls q) (e.level, e.entry)) x.objects.calls p ≡ calls_after start (e.level, e.entry)) (sym h) (rw (eq-eqb p p refl) refl)

    other : (e.processor ≡ p → ⊥) → for_processor e.processor (calls_after (x.objects.calls e.processor) (e.level, e.entry)) x.objects.calls p ≡ start
    other h = rw (ne_eqb p e.processor (λ q. h (sym q))) refl

    mine : eqb e.processor p ≡ true → calls_over start (part_of p (e ∷ o)) ≡ calls_over (calls_after start (e.level, e.entry)) (part_of p o)
    mine a = rw a refl

    theirs : eqb e.processor p ≡ false → calls_over start (part_of p (e ∷ o)) ≡ calls_over start (part_of p o)
    theirs a = rw a refl

module _ (p : ℕ) where
  -- so it is when its log goes on
  pub calls-more : (x : Owned) (log es : Log) → x.objects.calls p ≡ calls_in log → (over owned_after (by p es) x).objects.calls p ≡ calls_in (log ++ es)
  calls-more x log es h =
      calls-along p (by p es) x
      ∙ (ap (calls_over (x.objects.calls p)) (own-log p es)
      ∙ (ap (λ n. calls_over n es) h ∙ sym (calls-append 0 log es)))

  -- ---- a chunk

  -- an exchange has the tag of the next call
  abbrev pub TagOf : Chunk → Owned → Type 0
  TagOf (chunk.Exchanging name put was from tag) x = tag ≡ tag_after p (x.objects.calls p)
  TagOf _ x = Unit {0}

  pub tag-of : (closing : Bool) (since : Log) (start : LivingState) (l : ℕ) (c : Chunk) (x : Owned) (log : Log) → home knows_living start ≡ p → x.objects.calls p ≡ calls_in log → polled knows_living closing since start l log c → TagOf c x
  tag-of closing since start l (chunk.Exchanging name put was from tag) x log h e j = j ∙ (ap (λ q. tag_after q (calls_in log)) h ∙ ap (tag_after p) (sym e))
  tag-of closing since start l _ x log h e j = tt

  -- .. and finds what the slot holds
  abbrev pub ExchangeOf : Chunk → Owned → Type 0
  ExchangeOf (chunk.Exchanging name put was from tag) x = IsExchange (x.objects.slots name) put was from x.lives
  ExchangeOf _ x = Unit {0}

  pub exchange-of : (c : Chunk) (x : Owned) (s : Shared) (before now : Contents) → x.objects.slots ≡ before → x.lives ≡ s.lives → ActsFit p (acts_of c) s → SlotsLead (acts_of c) before now → ExchangeOf c x
  exchange-of (chunk.Exchanging name put was from tag) x s before now e lives f m = record {
    was_is = m.1.0.0 ∙ ap (λ (g : Contents). (g name).held) (sym e);
    by_is = m.1.0.1 ∙ ap (λ (g : Contents). (g name).by) (sym e);
    alive = subst (IfAlive put) (sym lives) f.0;
  }
  exchange-of _ x s before now e lives f m = tt

  quiet-slots : (e : Entry) (t : Tag) (f : Contents) → is_quiet e ≡ true → slots_after e t f ≡ f
  quiet-slots (entry.Xchg name put was from) t f q = absurd (cc)
  quiet-slots _ t f q = refl

  -- what slots hold behind some entries of a level
  abbrev SlotsBehind : ℕ → Chunk → Owned → Contents
  SlotsBehind l c x = (over owned_after (by p (at_level l (entries_of c))) x).objects.slots

  given-slots : (l u life : ℕ) (seal : Option Seal) (type : ℕ) (values : List ℕ) (x : Owned) → SlotsBehind l (chunk.Making u life type values seal) x ≡ x.objects.slots
  given-slots l u life None type values x = refl
  given-slots l u life (Some z) type values x = refl

  called-slots : (l : ℕ) (graph : List ℕ) (position : ℕ) (call : PastCall) (owner : List ℕ) (tag : Tag) (x : Owned) → SlotsBehind l (chunk.Calling graph position call owner tag) x ≡ x.objects.slots
  called-slots l graph position (past.PushFront id) owner tag x = refl
  called-slots l graph position _ owner tag x = refl

  receives-slots : (c : ℕ) (parcels : List (List ℕ)) (w now : Contents) → SlotsLead (map (act.Receives c) parcels ++ act.Receives c [] ∷ []) w now → now ≡ w
  receives-slots c [] w now h = h.1.1 ∙ h.1.0
  receives-slots c (us ∷ parcels) w now h = receives-slots c parcels h.0 now h.1.1 ∙ h.1.0

  pub chunk-slots : (l : ℕ) (c : Chunk) (x : Owned) (before now : Contents) → x.objects.slots ≡ before → TagOf c x → SlotsLead (acts_of c) before now → SlotsBehind l c x ≡ now
  chunk-slots l (chunk.Exchanging name put was from tag) x before now e t m =
      ap (λ (g : Tag). with_slot name (record { held = put; by = Some g }) x.objects.slots) (sym t)
      ∙ (ap (with_slot name (record { held = put; by = Some tag })) e ∙ sym (m.1.1 ∙ m.1.0.2))
  chunk-slots l (chunk.Making u life type values seal) x before now e t m = given-slots l u life seal type values x ∙ (e ∙ sym (m.1.1 ∙ m.1.0))
  chunk-slots l (chunk.Locking graph) x before now e t m = e ∙ sym m
  chunk-slots l (chunk.Unlocking graph) x before now e t m = e ∙ sym m
  chunk-slots l (chunk.Calling graph position call owner tag) x before now e t m = called-slots l graph position call owner tag x ∙ (e ∙ sym (m.1.1 ∙ m.1.0))
  chunk-slots l (chunk.Finding u life place value) x before now e t m = e ∙ sym (m.1.1 ∙ m.1.0)
  chunk-slots l (chunk.Acquiring u life seen) x before now e t m = e ∙ sym (m.1.1 ∙ m.1.0)
  chunk-slots l (chunk.GivingUp u life seen) x before now e t m = e ∙ sym (m.1.1 ∙ m.1.0)
  chunk-slots l (chunk.Ending u life h true) x before now e t m = e ∙ sym (m.1.1 ∙ m.1.0)
  chunk-slots l (chunk.Ending u life h false) x before now e t m = e ∙ sym (m.1.1 ∙ m.1.0)
  chunk-slots l (chunk.Quiet n q) x before now e t m = quiet-slots n (tag_after p (x.objects.calls p)) x.objects.slots q ∙ (e ∙ sym m)
  chunk-slots l (chunk.Looking d ws) x before now e t m = e ∙ sym (m.1.1 ∙ m.1.0)
  chunk-slots l (chunk.Asking d y n) x before now e t m = e ∙ sym (m.1.1 ∙ m.1.0)
  chunk-slots l (chunk.Missing d even n) x before now e t m = e ∙ sym (m.1.1 ∙ m.1.0)
  chunk-slots l (chunk.FindingNone c) x before now e t m = e ∙ sym (m.1.1 ∙ m.1.0)
  chunk-slots l (chunk.Beginning d n ws) x before now e t m = e ∙ sym (m.1.1.1.1 ∙ (m.1.1.1.0 ∙ m.1.0))
  chunk-slots l (chunk.Finishing ws q) x before now e t m = e ∙ sym (m.1.1.1.1 ∙ (m.1.1.1.0 ∙ m.1.0))
  chunk-slots l (chunk.WholePeriod n ws q) x before now e t m = e ∙ sym (m.1.1.1.1.1.1 ∙ (m.1.1.1.1.1.0 ∙ (m.1.1.1.0 ∙ m.1.0)))
  chunk-slots l (chunk.Sweeping c us parcels) x before now e t m = e ∙ sym (receives-slots c parcels before now m)
  chunk-slots l (chunk.Entering d w) x before now e t m = e ∙ sym (m.1.1 ∙ m.1.0)
  chunk-slots l (chunk.Leaving d w) x before now e t m = e ∙ sym (m.1.1 ∙ m.1.0)
  chunk-slots l (chunk.Stamping c d y) x before now e t m = e ∙ sym (m.1.1 ∙ m.1.0)
  chunk-slots l (chunk.Passing c d y n) x before now e t m = e ∙ sym (m.1.1 ∙ m.1.0)
  chunk-slots l (chunk.Filling c us) x before now e t m = e ∙ sym (m.1.1 ∙ m.1.0)
  chunk-slots l (chunk.Fetching c want us) x before now e t m = e ∙ sym (m.1.1 ∙ m.1.0)
  chunk-slots l (chunk.Returning c us) x before now e t m = e ∙ sym (m.1.1 ∙ m.1.0)
  chunk-slots l (chunk.Sending c to us) x before now e t m = e ∙ sym (m.1.1 ∙ m.1.0)
  chunk-slots l (chunk.Draining c to us) x before now e t m = e ∙ sym (m.1.1 ∙ m.1.0)
  chunk-slots l (chunk.Releasing c to us stamp n) x before now e t m = e ∙ sym (m.1.1 ∙ m.1.0)
  chunk-slots l (chunk.GivingBack c us) x before now e t m = e ∙ sym (m.1.1 ∙ m.1.0)
  chunk-slots l (chunk.Receiving c us) x before now e t m = e ∙ sym (m.1.1 ∙ m.1.0)

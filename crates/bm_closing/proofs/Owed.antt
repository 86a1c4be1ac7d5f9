-- What a desk whose processor has ended owes, and what is told at once.
use Rattle.std.proofs.Common.{◌≡◌, ◌≤◌, ◌++◌, ◌∷◌, [], ℕ, List, Option, Some, None, map, refl, sym, ◌∙◌, ap, subst, append-nil}
use Rattle.std.specs.List.{concat, flat_map}
use Rattle.std.proofs.lemmas.List.{map-append}
use Rattle.bm_journal.specs.declared.counts.Counts.{Counts}
use Rattle.bm_journal.specs.declared.ids.Domain.{Domain}
use Rattle.bm_journal.specs.declared.ids.Domain.TheVariants.{Tracing}
use Rattle.bm_journal.specs.declared.period.Period.{Period}
use Rattle.bm_journal.specs.declared.units.Units.TheVariants.{Whole}
use Rattle.bm_journal.specs.declared.entry.Entry.{Entry}
use Rattle.bm_journal.specs.declared.entry.Entry.TheVariants as entry
use Rattle.bm_page.specs.UnitState.{UnitState}
use Rattle.bm_law.specs.Alone.{Adds}
use Rattle.bm_law.specs.Lists.{Log}
use Rattle.bm_law_order.specs.Act.{Act}
use Rattle.bm_law_order.specs.Act as act
use Rattle.bm_law_order.specs.Chunk.{Shows}
use Rattle.bm_law_order.specs.Chunk as chunk
use Rattle.bm_post.specs.Rights.{number_of, numbers}
use Rattle.bm_cache.specs.Span.{Face}
use Rattle.bm_cache.specs.Tests.{Tests}
use Rattle.bm_cache.specs.declared.caches.Caches.{Caches}
use Rattle.bm_work.specs.Rested.{HasStamp}
use Rattle.bm_work.proofs.Owing.{shows}
use Rattle.bm_closing.specs.AtEnd.{AtEnd}
use Rattle.bm_closing.specs.Gathered.{gathering}
use Rattle.bm_closing.specs.Told.{at_once, passed_at_once, receives_all, waiting}
use Rattle.bm_closing.specs.declared.period.Waited.{Waited}

-- a desk at its end, but for what is sound, and what is sound
pub at-end-with : {H R : Type 0} (log : R → Option Log) (counts : R → Counts) (S T : H → Type 0) (tests : H → Tests) (faces : H → Face) (holds : H → Caches R) (h : H) → T h → AtEnd log counts S tests faces holds h → AtEnd log counts T tests faces holds h
at-end-with log counts S T tests faces holds h t s = record { sound = t; ordinary = s.ordinary; fine = s.fine }

-- nothing was recorded
adds-none : (l : ℕ) (o : Option Log) → Adds l [] o o
adds-none l None = tt
adds-none l (Some log) = record { log = log; told = refl; now_is = sym (append-nil log) }

-- the period that was in progress ended
pub finishing : (d : Domain) (ws : List ℕ) (p : Period) → p.domain ≡ d → Shows (act.Looks d ws ∷ act.Finishes p ∷ []) (entry.Finish p ∷ [])
finishing d ws p e = let F : Domain → Type 0 = λ k. Shows (act.Looks k ws ∷ act.Finishes p ∷ []) (entry.Finish p ∷ []) in subst F e (shows (chunk.Finishing ws p) refl)

-- the numbers of parcels, one after the other
pub parcels-numbers : {P : Type 0} (items : P → List UnitState) (ps : List P) → concat (map (λ p. numbers (items p)) ps) ≡ numbers (flat_map items ps)
parcels-numbers items [] = refl
parcels-numbers items (p ∷ ps) = ap (λ z. numbers (items p) ++ z) (parcels-numbers items ps) ∙ sym (map-append number_of (items p) (flat_map items ps))

module _ {H R : Type 0} (F : H → Face) (D : H → Caches R) (W : H → Caches R → H) (log : R → Option Log) (owes : List Act → List Entry → H → Type 0)
    (noted : (h : H) (c : Caches R) (done : List Act) (es more : List Entry) → c.processor ≡ (D h).processor → Adds (F h).level more (log (D h).recorder) (log c.recorder) → owes done es h → owes done (es ++ more) (W h c)) where
  -- the caches were lent, and the recorder is as it was
  pub owes-lent : (h : H) (z : Caches R) → z ≡ D h → (done : List Act) (es : List Entry) → owes done es h → owes done es (W h z)
  owes-lent h z e done es o =
      let A : Caches R → Type 0 = λ c. Adds (F h).level [] (log (D h).recorder) (log c.recorder) in
      subst (λ (x : List Entry). owes done x (W h z)) (append-nil es) (noted h z done es [] (ap (λ (c : Caches R). c.processor) e) (subst A (sym e) (adds-none (F h).level (log (D h).recorder))) o)

  -- all units of a class became a batch, and its period has passed
  pub gathered-sound : (sound : H → Type 0) →
      ((h : H) (done more : List Act) (es others : List Entry) → Shows done es → owes (done ++ more) (es ++ others) h → owes more others h) →
      ((h : H) (d : Domain) (x n m c : ℕ) (ws : List ℕ) (p : Period) → p.domain ≡ d → n ≤ x → HasStamp log (F h).processors c d x (D h) → owes (at_once d x n m ws p) (passed_at_once d n m c p) h → sound h) →
      (h : H) (v z : Caches R) (i : ℕ) (us ns : List ℕ) (parcels : List (List ℕ)) (ws : List ℕ) (w : Waited) → v ≡ D h → z.processor ≡ v.processor → (F h).level ≡ 0 → ns ≡ us ++ concat parcels → w.period.domain ≡ Tracing → w.begun ≤ w.stamp → HasStamp log (F (W h z)).processors i Tracing w.stamp (D (W h z)) →
      Adds 0 (gathering i ns w) (log v.recorder) (log z.recorder) → owes (receives_all i parcels ++ waiting ws w) [] h → sound (W h z)
  gathered-sound sound told passed h v z i us ns parcels ws w e p l n d b f a o =
      let k = W h z in
      let A : ℕ → Caches R → List ℕ → Type 0 = λ x c xs. Adds x (gathering i xs w) (log c.recorder) (log z.recorder) in
      let a1 : A (F h).level (D h) (us ++ concat parcels) = subst (λ x. A x (D h) (us ++ concat parcels)) (sym l) (subst (λ c. A 0 c (us ++ concat parcels)) e (subst (A 0 v) n a)) in
      let stamps = act.Stamps Tracing w.stamp ∷ [] in
      let rest = at_once Tracing w.stamp w.begun w.seen ws w.period in
      let after = passed_at_once Tracing w.begun w.seen i w.period in
      let one = noted h z (receives_all i parcels ++ waiting ws w) [] (gathering i (us ++ concat parcels) w) (p ∙ ap (λ (c : Caches R). c.processor) e) a1 o in
      let two = told k (receives_all i parcels) (waiting ws w) (entry.Sweep i (Whole (us ++ concat parcels)) ∷ []) (entry.Stamp i Tracing w.stamp ∷ after) (shows (chunk.Sweeping i us parcels) refl) one in
      let three = told k stamps rest (entry.Stamp i Tracing w.stamp ∷ []) after (shows (chunk.Stamping i Tracing w.stamp) refl) two in
      passed k Tracing w.stamp w.begun w.seen i ws w.period d b f three

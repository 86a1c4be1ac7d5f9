-- Each unit of a log that is tied since a time was given with what it had waited for.
use Rattle.std.specs.Prelude.{◌≡◌, ◌≢◌, ◌<◌, ◌≤◌, ◌++◌, ℕ, zero, suc, eqb, false, [], ◌∷◌, Some}
use Rattle.std.proofs.Common.{◌∙◌, ap, append-nil, arith, eq-eqb, inl, inr, ne_eqb, refl, subst, sym}
use Rattle.std.proofs.lemmas.Bool.{cases_Bool}
use Rattle.std.proofs.lemmas.Bool.Decides.{eqb_tells}
use Rattle.bm_journal.specs.declared.ids.Domain.TheVariants.{Plain}
use Rattle.bm_journal.specs.declared.entry.Entry.{Entry}
use Rattle.bm_journal.specs.declared.entry.Entry.TheVariants as entry
use Rattle.bm_law.specs.Lists.{Log, after}
use Rattle.bm_law.specs.Spans.{AllFrom}
use Rattle.bm_law.specs.State.{State, opening}
use Rattle.bm_law_order.specs.Chunk.{Chunk, entries_of}
use Rattle.bm_law_order.specs.Chunk as chunk
use Rattle.bm_law_order.specs.Orders.{AllFit, Order, by, over, part_of}
use Rattle.bm_law_order.specs.Seals.{ReleaseFits, ReleasesFit, SealFits, Wait, WaitLeads, Waiting, nobody_waits, waiting_after, waiting_over}
use Rattle.bm_law_order.specs.Story.{AllJudged, Story, at_level, deeds, lines, lines_of}
use Rattle.bm_law_order.specs.Tie.{Tied}
use Rattle.bm_law_order.proofs.Along.{by-append, fit-append, over-append}
use Rattle.bm_law_order.proofs.Waited.{story-goes}
use Rattle.bm_law_scenario.proofs.EachLevel.{AllAbove, above-back, above-front}
use Rattle.bm_work.specs.Rested.{EndsWith, GoesFrom}
use Rattle.bm_world.specs.LivingState.{LivingState}
use Rattle.bm_world.specs.Standings.{waits_told}
use Rattle.bm_world.specs.ToldLiving.{LivingDoes, knows_living}
use Rattle.bm_exec_levels.specs.AtPolls.{home, polled}
use Rattle.bm_run.specs.SoFar.{SealedSoFar}
use Rattle.bm_run.proofs.AddedParts.{lists-step, part-added}
use Rattle.bm_run.proofs.Laid.{added-lines}

-- ---- what a log leaves of what units wait for

-- the lists that an order leaves
pub lists-waiting : (q : ℕ) (o : Order) (m : Waiting) → (over waiting_after o m).lists q ≡ after (m.lists q) (part_of q o)
lists-waiting q [] m = refl
lists-waiting q (e ∷ o) m = lists-waiting q o (waiting_after e.processor e.level e.entry m) ∙ lists-step q e o m.lists

-- the last entry of ordinary code is one of the processor's own
passed-other : (q p l : ℕ) (e : Entry) (m : Waiting) → q ≢ p → (waiting_after p l e m).passed q ≡ m.passed q
passed-other q p l e m ne = elim (cases_Bool (eqb l 0)) [ inl y ↦ rw (y, ne_eqb q p ne) refl | inr y ↦ rw y refl ]

passed-same : (q l : ℕ) (e : Entry) (m k : Waiting) → m.passed q ≡ k.passed q → (waiting_after q l e m).passed q ≡ (waiting_after q l e k).passed q
passed-same q l e m k h = elim (cases_Bool (eqb l 0)) [ inl y ↦ rw (y, eq-eqb q q refl) refl | inr y ↦ rw y h ]

passed-own : (q : ℕ) (o : Order) (m k : Waiting) → m.passed q ≡ k.passed q → (over waiting_after o m).passed q ≡ (waiting_over q (part_of q o) k).passed q
passed-own q [] m k h = h
passed-own q (e ∷ o) m k h =
    let now = waiting_after e.processor e.level e.entry m in
    elim (eqb_tells e.processor q) [
      | inl y ↦ rw y.0 (passed-own q o now (waiting_after q e.level e.entry k) (ap (λ (p : ℕ). (waiting_after p e.level e.entry m).passed q) y.1 ∙ passed-same q e.level e.entry m k h))
      | inr y ↦ rw y.0 (passed-own q o now k (passed-other q e.processor e.level e.entry m (λ z. y.1 (sym z)) ∙ h))
    ]

-- entries of higher levels leave the pass that was the last entry of ordinary code
passed-kept : (q : ℕ) (log : Log) (m : Waiting) → AllFrom 1 log → (waiting_over q log m).passed q ≡ m.passed q
passed-kept q [] m f = refl
passed-kept q (e ∷ log) m f = passed-kept q log (waiting_after q e.0 e.1 m) f.1 ∙ above e.0 e.1 f.0
  where
    above : (l : ℕ) (x : Entry) → 1 ≤ l → (waiting_after q l x m).passed q ≡ m.passed q
    above l x u = rw (ne_eqb l 0 (λ z. omega (arith, u, z))) refl

passed-last : (q c n : ℕ) (log : Log) → EndsWith 0 (entry.Pass c Plain n) log → (waiting_over q log nobody_waits).passed q ≡ Some (c, n)
passed-last q c n log h =
    let m = waiting_over q h.front nobody_waits in
    let e : ℕ × Entry = (0, entry.Pass c Plain n) in
    let now = waiting_after q 0 (entry.Pass c Plain n) m in
    let apart : waiting_over q log nobody_waits ≡ waiting_over q h.rest now = ap (λ z. waiting_over q z nobody_waits) h.log_is ∙ (ap (λ o. over waiting_after o nobody_waits) (by-append q h.front (e ∷ h.rest)) ∙ over-append waiting_after SealFits (by q h.front) (by q (e ∷ h.rest)) nobody_waits) in
    let here : now.passed q ≡ Some (c, n) = rw (eq-eqb q q refl) refl in
    ap (λ (z : Waiting). z.passed q) apart ∙ (passed-kept q h.rest now h.above ∙ here)

-- ---- batches that go away

-- sends are of ordinary code
abbrev pub LowSend : Entry → Type 0
LowSend (entry.Send c to us) = ⊥
LowSend _ = Unit {0}

pub level-zero : (l : ℕ) → (0 < l → ⊥) → l ≡ 0
level-zero zero h = refl
level-zero (suc l) h = absurd (h (omega arith))

-- A log of a processor goes on, as the part of an order, from the time since when it is tied.
module _ (p : ℕ) (since : Log) (start : LivingState) (own : start.side.grace.processor ≡ p) where
  -- what is judged so goes away as a batch
  pub goes-low : (l c n stamp : ℕ) (o : Order) → l ≡ 0 → GoesFrom (home knows_living start) l c stamp n (part_of p o) → (over waiting_after o nobody_waits).passed p ≡ Some (c, n)
  goes-low l c n stamp o z g = passed-own p o nobody_waits nobody_waits refl ∙ passed-last p c n (part_of p o) (subst (λ k. EndsWith k (entry.Pass c Plain n) (part_of p o)) z g.passed)

  -- by the lists that are there
  pub stamped-so : (l c n stamp : ℕ) (o : Order) → GoesFrom (home knows_living start) l c stamp n (part_of p o) → (((over waiting_after o nobody_waits).lists p).rows c).deferred.plain ≡ Some stamp
  stamped-so l c n stamp o g =
      ap (λ (s : State ℕ). (s.rows c).deferred.plain) (lists-waiting p o nobody_waits)
      ∙ subst (λ q. ((after (opening q) (part_of p o)).rows c).deferred.plain ≡ Some stamp) own g.stamped

  release-fits : (l : ℕ) (o : Order) (c : Chunk) → polled knows_living false since start l (part_of p o) c → AllAbove LowSend (at_level l (entries_of c)) → ReleaseFits p l c (over waiting_after o nobody_waits)
  release-fits l o (chunk.Releasing c to us stamp n) j low =
      let z : l ≡ 0 = level-zero l low.0 in
      (z, (stamped-so l c n stamp o j, goes-low l c n stamp o z j))
  release-fits l o (chunk.Sending c to us) j low = j
  release-fits l o (chunk.Returning c us) j low = absurd (cc)
  release-fits l o _ j low = tt

  -- so it is of a story
  pub releases-fit : (o : Order) (ts : Story) → AllJudged (polled knows_living false since start) (part_of p o) ts → AllAbove LowSend (lines ts) → ReleasesFit p ts (over waiting_after o nobody_waits)
  releases-fit o [] j low = tt
  releases-fit o (t ∷ ts) j low =
      let first = lines_of t in
      let judged = subst (λ z. AllJudged (polled knows_living false since start) z ts) (sym (part-added p o first)) j.1 in
      let rest = releases-fit (o ++ by p first) ts judged (above-back LowSend first (lines ts) low) in (
        release-fits t.level o t.chunk j.0 (above-front LowSend first (lines ts) low),
        subst (ReleasesFit p ts) (over-append waiting_after SealFits o (by p first) nobody_waits) rest,
      )

-- ---- a log

-- how its acts go on from what units waited for
pub tied-waits : (since log : Log) (start now : LivingState) (o : Order) → (over waiting_after o nobody_waits).waits ≡ waits_told start.standings →
    (t : Tied (polled knows_living false since start) LivingDoes since start 0 [] [] log now) → WaitLeads (deeds t.story) (over waiting_after o nobody_waits).waits (waits_told now.standings)
tied-waits since log start now o same t =
    let there = waits_told now.standings in
    subst (λ (w : ℕ → Wait). WaitLeads (deeds t.story) w there) (sym same) (subst (λ z. WaitLeads z (waits_told start.standings) there) (append-nil (deeds t.story)) t.done_is.waits)

-- Where each unit so far was given with what it had waited for, it is so with the entries that were added.
pub tied-sealed-since : (p : ℕ) (o : Order) (since added log : Log) (start now : LivingState) → start.side.grace.processor ≡ p → part_of p o ≡ since → log ≡ since ++ added →
    Tied (polled knows_living false since start) LivingDoes since start 0 [] [] log now → AllAbove LowSend added → SealedSoFar o start → SealedSoFar (o ++ by p added) now
tied-sealed-since p o since added log start now own part log_is t low h =
    let m = over waiting_after o nobody_waits in
    let there = waits_told now.standings in
    let said = added-lines (polled knows_living false since start) since added log start now log_is t in
    let judged = subst (λ z. AllJudged (polled knows_living false since start) z t.story) (sym part) t.judged in
    let fit = releases-fit p since start own o t.story judged (subst (AllAbove LowSend) said low) in
    let g = story-goes p t.story m there (tied-waits since log start now o h.waits t) fit in
    record {
      waits =
          ap (λ (z : Waiting). z.waits) (over-append waiting_after SealFits o (by p added) nobody_waits)
          ∙ (ap (λ (z : Log). (waiting_over p z m).waits) said ∙ g.now_is);
      sealed = fit-append waiting_after SealFits o (by p added) nobody_waits h.sealed (subst (λ (z : Log). AllFit waiting_after SealFits (by p z) m) (sym said) g.fit);
    }

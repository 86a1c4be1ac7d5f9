-- Periods that begin and end, and the entries that say so.
use Rattle.std.proofs.Common.{◌≡◌, ℕ, Bool, true, [], ◌∷◌, Option, refl, ◌∙◌, ap, subst, arith}
use Rattle.bm_journal.specs.Recording.{Appends}
use Rattle.bm_journal.specs.declared.ids.Domain.{Domain}
use Rattle.bm_journal.specs.declared.ids.Domain.TheVariants.{Plain, Tracing}
use Rattle.bm_journal.specs.declared.entry.Entry.{Entry}
use Rattle.bm_grace.specs.Calls.{began}
use Rattle.bm_grace.specs.Known.{Known, Sides, side}
use Rattle.bm_grace.specs.Rights.{Rights}
use Rattle.bm_grace.specs.declared.answer.Began.TheVariants.{Moved}
use Rattle.bm_law.specs.Lists.{Log}
use Rattle.bm_law.specs.State.{State, seen}
use Rattle.bm_law.proofs.Spans.{Records-one}
use Rattle.bm_law.proofs.Alone.{Alone-one}
use Rattle.bm_cache.specs.Shown.{shown}
use Rattle.bm_cache.specs.Span.{Face, Goes}
use Rattle.bm_cache.specs.Tests.{Tests}
use Rattle.bm_cache.specs.Tokens.{Token, number_of}
use Rattle.bm_cache.specs.declared.caches.Caches.{Caches}
use Rattle.bm_cache.proofs.Moments.{goes-join}
use Rattle.bm_law_work.specs.Parts.{Say}
use Rattle.bm_law_work.specs.WorkPhrases.{IsOne}
use Rattle.bm_work_lists.proofs.Grown.{grew-say}
use Rattle.bm_work.specs.Works.{Called, Handled, Turned, Works}

-- ---- the numbers of both sides after a call

-- none began
pub numbers-moved : (t : Bool) (d b : Domain) (n even : ℕ) (k : Known) → (side d (began t b (Moved n) even k)).number ≡ (side d k).number
numbers-moved t Plain Plain n even k = refl
numbers-moved t Plain Tracing n even k = refl
numbers-moved t Tracing Plain n even k = refl
numbers-moved t Tracing Tracing n even k = refl

-- ---- a call, and its entry

module _ {H R W : Type 0} (log : R → Option Log) (faces : H → Face) (waits : H → ℕ) (stays : H → H → Type 0) (holds : H → Caches R) (shared : H → W) (known : W → Known) (rights : H → Rights) (tests : H → Tests) (join : (a b c : H) → stays a b → stays b c → stays a c) where
  -- the side was called, and then an entry was recorded
  pub works-turned : (p t : ℕ) (e : Entry) (a b c : H) → Turned faces waits stays holds (λ h. known (shared h)) rights p t a b → Appends (log (holds b).recorder) (faces b).level e (log (holds c).recorder) → shown (holds c) ≡ shown (holds b) → (holds c).processor ≡ (holds b).processor → Handled faces waits stays shared tests b c → Works log faces waits stays holds (λ h. known (shared h)) p t (λ l. Say l (IsOne e)) a c
  works-turned p t e a b c u r v w h =
      let l = (faces a).level in
      let x = log (holds a).recorder in
      let y = log (holds c).recorder in
      let q : (faces b).level ≡ l = ap (λ (f : Face). f.level) u.face in
      let F : ℕ → Caches R → Type 0 = λ k d. Appends (log d.recorder) k e y in
      let s : Appends x l e y = subst (λ k. F k (holds a)) q (subst (F (faces b).level) u.held r) in
      let m = Records-one l e x y s in
      let K : W → Sides = λ k. (known k).grace in
      let o : shown (holds c) ≡ shown (holds a) = v ∙ ap (λ (d : Caches R). shown d) u.held in
      let gu : Goes faces waits stays a b = record { face = u.face; pending = omega (arith, u.pending); keeps = u.stays } in
      let gh : Goes faces waits stays b c = record { face = h.face; pending = omega (arith, h.pending); keeps = h.stays } in
      record {
        phrase = grew-say l (IsOne e) (e ∷ []) (seen number_of (shown (holds a))) x y m refl;
        goes = goes-join join gu gh;
        alone = record { alone = λ _. Alone-one l e x y s };
        flags = record { flags = λ _ i k. (let U : State Token → Type 0 = λ d. (d.rows i).raised ≡ true in subst U o k) };
        processor = w ∙ ap (λ (d : Caches R). d.processor) u.held;
        active = λ i. ap (λ (d : State Token). (d.rows i).active) o;
        plain_begins = omega (arith, u.plain_begins, ap (λ k. (K k).plain.begins) h.shared_is);
        tracing_begins = omega (arith, u.tracing_begins, ap (λ k. (K k).tracing.begins) h.shared_is);
        same_side = ap (λ k. (K k).processor) h.shared_is ∙ u.same_side;
      }

  -- none began or ended
  pub called-turned : (p t : ℕ) (a b : H) → Turned faces waits stays holds (λ h. known (shared h)) rights p t a b → ((d : Domain) → (side d (known (shared b))).number ≡ (side d (known (shared a))).number) → Called faces waits stays holds (λ h. known (shared h)) rights p t a b
  called-turned p t a b u n = record { held = u.held; face = u.face; pending = u.pending; stays = u.stays; ages = u.ages; same_side = u.same_side; numbers = n; plain_begins = u.plain_begins; tracing_begins = u.tracing_begins }

-- Parcels and units that come, and those that go.
use Rattle.std.proofs.Common.{◌≡◌, ℕ, List, [], map, Option, refl, ◌∙◌, ap, arith, inl, inr}
use Rattle.std.proofs.lemmas.Bool.Decides.{eqb_tells}
use Rattle.bm_journal.specs.declared.units.Units.TheVariants.{Whole}
use Rattle.bm_journal.specs.declared.entry.Entry.TheVariants as entry
use Rattle.bm_grace.specs.Known.{Known, Sides}
use Rattle.bm_law.specs.Effect.{effect}
use Rattle.bm_law.specs.Lists.{Log}
use Rattle.bm_law.specs.State.{State}
use Rattle.bm_cache.specs.Listed.{TookUnits}
use Rattle.bm_cache.specs.Shown.{shown}
use Rattle.bm_cache.specs.Span.{Face, Goes}
use Rattle.bm_cache.specs.Tests.{Tests}
use Rattle.bm_cache.specs.Tokens.{Token, number_of}
use Rattle.bm_cache.specs.declared.caches.Caches.{Caches}
use Rattle.bm_cache.proofs.Moments.{goes-join}
use Rattle.bm_law_work.specs.Parts.{Say}
use Rattle.bm_law_work.specs.WorkPhrases.{IsOne}
use Rattle.bm_work.specs.Works.{Handled, Posted, Works}
use Rattle.bm_work.proofs.Steps.{appends-whole, units-at, works-entry}

-- a parcel changes no active number
received-active : (l c : ℕ) (ns : List ℕ) (us : List Token) (s : State Token) (k : ℕ) → ((effect l (entry.Receive c (Whole ns)) us s).rows k).active ≡ (s.rows k).active
received-active l c ns us s k =
    elim (eqb_tells k c) [
      | inl y ↦ rw (y.0, y.1) refl
      | inr y ↦ rw y.0 refl
    ]

module _ {H R W : Type 0} (log : R → Option Log) (faces : H → Face) (waits : H → ℕ) (stays : H → H → Type 0) (holds : H → Caches R) (shared : H → W) (known : W → Known) where
  -- the post gave the oldest parcel, or told that there is none, and that was recorded
  pub works-received : (tests : H → Tests) (join : (a b c : H) → stays a b → stays b c → stays a c) (h x k : H) (c : ℕ) (us : List Token) → Posted faces waits stays holds (λ z. known (shared z)) tests [] h x → Handled faces waits stays shared tests x k → TookUnits log (faces x).level (entry.Receive c) (map number_of us) us (holds x) (holds k) → Works log faces waits stays holds (λ z. known (shared z)) 0 0 (λ l. Say l (IsOne (entry.Receive c (Whole (map number_of us))))) h k
  works-received tests join h x k c us p d t =
      let l = (faces h).level in
      let ns = map number_of us in
      let e = entry.Receive c (Whole ns) in
      let K : W → Sides = λ w. (known w).grace in
      let v = units-at log l (faces x).level (entry.Receive c) ns us (holds h) (holds x) (holds k) (ap (λ (z : Face). z.level) p.face) p.held t in
      let r = appends-whole log l (entry.Receive c) ns us (holds h) (holds k) v in
      let gx : Goes faces waits stays h x = record { face = p.face; pending = omega (arith, p.pending); keeps = p.stays } in
      let gk : Goes faces waits stays x k = record { face = d.face; pending = omega (arith, d.pending); keeps = d.stays } in
      works-entry log faces waits stays holds (λ z. known (shared z)) h k e us (goes-join join gx gk) (ap K d.shared_is ∙ p.known_is) r v.processor v.after (received-active l c ns us (shown (holds h))) refl

  -- the post gave units, and that was recorded
  pub works-fetched : (tests : H → Tests) (join : (a b c : H) → stays a b → stays b c → stays a c) (h x k : H) (c want : ℕ) (us : List Token) → Posted faces waits stays holds (λ z. known (shared z)) tests [] h x → Handled faces waits stays shared tests x k → TookUnits log (faces x).level (entry.Fetch c want) (map number_of us) us (holds x) (holds k) → Works log faces waits stays holds (λ z. known (shared z)) 0 0 (λ l. Say l (IsOne (entry.Fetch c want (Whole (map number_of us))))) h k
  works-fetched tests join h x k c want us p d t =
      let l = (faces h).level in
      let ns = map number_of us in
      let e = entry.Fetch c want (Whole ns) in
      let K : W → Sides = λ w. (known w).grace in
      let v = units-at log l (faces x).level (entry.Fetch c want) ns us (holds h) (holds x) (holds k) (ap (λ (z : Face). z.level) p.face) p.held t in
      let r = appends-whole log l (entry.Fetch c want) ns us (holds h) (holds k) v in
      let gx : Goes faces waits stays h x = record { face = p.face; pending = omega (arith, p.pending); keeps = p.stays } in
      let gk : Goes faces waits stays x k = record { face = d.face; pending = omega (arith, d.pending); keeps = d.stays } in
      works-entry log faces waits stays holds (λ z. known (shared z)) h k e us (goes-join join gx gk) (ap K d.shared_is ∙ p.known_is) r v.processor v.after (λ i. refl) refl

-- A desk that is at rest again.
use Rattle.std.proofs.Common.{◌≡◌, ◌≢◌, ◌≤◌, ℕ, ◌+◌, false, Option, sym, ◌∙◌, ap, subst, arith, inl, inr}
use Rattle.std.proofs.lemmas.Bool.Decides.{eqb_tells}
use Rattle.bm_journal.specs.declared.counts.Counts.{Counts}
use Rattle.bm_journal.specs.declared.ids.Domain.{Domain}
use Rattle.bm_journal.specs.declared.ids.Domain.TheVariants.{Plain, Tracing}
use Rattle.bm_grace.specs.Known.{Known, side}
use Rattle.bm_law.specs.State.{State, Deferred, idle_side}
use Rattle.bm_law.specs.Kept.{Ready}
use Rattle.bm_law.specs.Lists.{Log, is_unstamped}
use Rattle.bm_law.proofs.Between.{Ready-up}
use Rattle.bm_cache.specs.Tokens.{Token}
use Rattle.bm_cache.specs.Tests.{Tests}
use Rattle.bm_cache.specs.Shown.{shown}
use Rattle.bm_cache.specs.Span.{Came, Face, Fine}
use Rattle.bm_cache.specs.declared.caches.Caches.{Caches}
use Rattle.bm_law_work.specs.Parts.{Part}
use Rattle.bm_work.specs.Goes.{GoesOn}
use Rattle.bm_work.specs.Rests.{Rests}
use Rattle.bm_work.specs.Works.{Stands, Works}
use Rattle.bm_work.proofs.Points.{stands-point}

-- a call has left each active number as it was, and nothing in hand
pub ready-again : {A : Type 0} (l : ℕ) (s t : State A) → Ready l s → ((k : ℕ) → (t.rows k).active ≡ (s.rows k).active) → Ready (l + 1) t → t.sides l ≡ idle_side → Ready l t
ready-again l s t h a u q = record {
  active = λ k. omega (arith, h.active k, a k);
  sides = λ k m. elim (eqb_tells k l) [
    | inl y ↦ rw y.1 q
    | inr y ↦ u.sides k (let d : k ≢ l = y.1 in omega (arith, m, d))
  ];
}

begins-left : (n : ℕ) (a b : Known) → ((d : Domain) → n + 1 ≤ (side d a).begins) → a.grace.plain.begins ≤ b.grace.plain.begins + 1 → a.grace.tracing.begins ≤ b.grace.tracing.begins + 1 → (d : Domain) → n ≤ (side d b).begins
begins-left n a b h p t Plain = let q : n + 1 ≤ a.grace.plain.begins = h Plain in omega (arith, q, p)
begins-left n a b h p t Tracing = let q : n + 1 ≤ a.grace.tracing.begins = h Tracing in omega (arith, q, t)

module _ {H R : Type 0} (log : R → Option Log) (counts : R → Counts) (sound : H → Type 0) (tests : H → Tests) (faces : H → Face) (holds : H → Caches R) (known : H → Known) where
  -- a work has left it at rest
  pub rests-worked : (waits : H → ℕ) (stays : H → H → Type 0) (c n : ℕ) (P : ℕ → Part) (a b : H) → Rests log counts sound tests faces holds known c (n + 1) a → Works log faces waits stays holds known 1 1 P a b → Stands log counts sound tests faces holds b → is_unstamped ((shown (holds b)).rows c).deferred.plain ≡ false → (shown (holds b)).sides (faces a).level ≡ idle_side → Rests log counts sound tests faces holds known c n b
  rests-worked waits stays c n P a b r w s u i =
      let e : (faces b).level ≡ (faces a).level = ap (λ (z : Face). z.level) w.goes.face in
      let F : ℕ → Type 0 = λ l. Ready l (shown (holds b)) in
      let G : ℕ → Type 0 = λ l. Ready (l + 1) (shown (holds b)) in
      let q : Ready (faces a).level (shown (holds b)) = ready-again (faces a).level (shown (holds a)) (shown (holds b)) r.quiet w.active (subst G e s.fine.ready) i in
      record {
        stands = s;
        ordinary = e ∙ r.ordinary;
        quiet = subst F (sym e) q;
        stamped = u;
        begins = begins-left n (known a) (known b) r.begins w.plain_begins w.tracing_begins;
      }

  fine-up : (t : Tests) (p l : ℕ) (c : Caches R) → Fine log counts t p l c → Fine log counts t p (l + 1) c
  fine-up t p l c f = record { placed = f.placed; ready = Ready-up l (shown c) f.ready; proper = f.proper; aimed = f.aimed }

  -- a call of its level on its caches has left it at rest
  pub rests-called : (c n : ℕ) (a b : H) → Came log (faces a).level (tests a) (tests b) (holds a) (holds b) → sound b → Fine log counts (tests b) (faces b).processors (faces b).level (holds b) → faces b ≡ faces a → GoesOn (known a) (known b) → {was : H → Type 0} → Rests log counts was tests faces holds known c n a → Rests log counts sound tests faces holds known c n b
  rests-called c n a b m s f e g r =
      let l = (faces b).level in
      let D : Deferred Token → Type 0 = λ d. is_unstamped d.plain ≡ false in
      let N : ℕ → Type 0 = λ k. n ≤ k in
      record {
        stands = stands-point log counts sound tests faces holds (faces a).level a b m s (fine-up (tests b) (faces b).processors l (holds b) f) r.stands;
        ordinary = ap (λ (z : Face). z.level) e ∙ r.ordinary;
        quiet = f.ready;
        stamped = subst D (sym (m.kept.rows c).deferred) r.stamped;
        begins = λ d. subst N (sym (g.begins d)) (r.begins d);
      }

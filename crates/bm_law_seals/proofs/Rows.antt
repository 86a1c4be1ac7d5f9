-- What an entry leaves of a hand, of the units that wait for a batch, and of the batch itself.
use Rattle.std.specs.Prelude.{◌≡◌, ◌≢◌, ◌≤◌, ◌+◌, ℕ, List, [], ◌∷◌, Option, reverse, take}
use Rattle.std.proofs.Common.{◌∙◌, ap, arith, inl, inr, ne_eqb, refl, sym}
use Rattle.std.proofs.lemmas.Bool.Decides.{eqb_tells}
use Rattle.bm_journal.specs.declared.ids.Domain.TheVariants.{Plain, Tracing}
use Rattle.bm_journal.specs.declared.entry.Entry.{Entry}
use Rattle.bm_journal.specs.declared.entry.Entry.TheVariants as entry
use Rattle.bm_law.specs.Effect.{sent}
use Rattle.bm_law.specs.Lists.{next}
use Rattle.bm_law.specs.Stands.{times}
use Rattle.bm_law.specs.State.{Row, State, with_row}
use Rattle.bm_law.proofs.Stands.{times-append, times-reverse}

-- ---- a part of one row

module _ {A : Type 0} (f : Row ℕ → A) (c k : ℕ) (r : Row ℕ) (s : State ℕ) where
  pub row-same : f r ≡ f (s.rows k) → f ((with_row k r s).rows c) ≡ f (s.rows c)
  row-same e = elim (eqb_tells c k) [
    | inl y ↦ rw y.0 (e ∙ ap (λ j. f (s.rows j)) (sym y.1))
    | inr y ↦ rw y.0 refl
  ]

  pub row-other : c ≢ k → f ((with_row k r s).rows c) ≡ f (s.rows c)
  row-other ne = rw (ne_eqb c k ne) refl

-- ---- hands

pub side-other : (l j : ℕ) (e : Entry) (s : State ℕ) → j ≢ l → (next s (l, e)).sides j ≡ s.sides j
side-other l j (entry.Free u home) s ne = rw (ne_eqb j l ne) refl
side-other l j (entry.Delay u home) s ne = rw (ne_eqb j l ne) refl
side-other l j (entry.Enter c a) s ne = rw (ne_eqb j l ne) refl
side-other l j (entry.Pop c u) s ne = rw (ne_eqb j l ne) refl
side-other l j (entry.Push c u) s ne = rw (ne_eqb j l ne) refl
side-other l j (entry.Count c k) s ne = rw (ne_eqb j l ne) refl
side-other l j (entry.Delayed c u) s ne = rw (ne_eqb j l ne) refl
side-other l j (entry.Look c k) s ne = rw (ne_eqb j l ne) refl
side-other l j (entry.Put c u) s ne = rw (ne_eqb j l ne) refl
side-other l j (entry.Lost c) s ne = rw (ne_eqb j l ne) refl
side-other l j (entry.LookDelayed c k) s ne = rw (ne_eqb j l ne) refl
side-other l j (entry.PutDelayed c u) s ne = rw (ne_eqb j l ne) refl
side-other l j (entry.LostDelayed c) s ne = rw (ne_eqb j l ne) refl
side-other l j (entry.Given u life) s ne = rw (ne_eqb j l ne) refl
side-other l j (entry.GivenAfter u life x n) s ne = rw (ne_eqb j l ne) refl
side-other l j (entry.Ready c u) s ne = rw (ne_eqb j l ne) refl
side-other l j (entry.Second c u) s ne = rw (ne_eqb j l ne) refl
side-other l j (entry.Fetch c want us) s ne = rw (ne_eqb j l ne) refl
side-other l j (entry.TakeExtra c us) s ne = rw (ne_eqb j l ne) refl
side-other l j (entry.Send c to us) s ne = go (s.sides l).hand
  where
    go : (hand : List ℕ) → (sent c l hand s).sides j ≡ s.sides j
    go [] = refl
    go (u ∷ us) = rw (ne_eqb j l ne) refl
side-other l j _ s ne = refl

-- ---- units that wait for a batch

abbrev pub waiting_in : ℕ → Row ℕ → ℕ
waiting_in u r = times u r.delayed + times u r.extra_delayed

-- an entry takes none of them from the class, unless it begins a batch there or sweeps it
abbrev pub KeepsWaiting : ℕ → Entry → Type 0
KeepsWaiting c (entry.Batch k us) = c ≢ k
KeepsWaiting c (entry.Sweep k us) = ⊥
KeepsWaiting c _ = Unit {0}

module _ (u c : ℕ) (s : State ℕ) where
  more : (k : ℕ) (r : Row ℕ) → waiting_in u (s.rows k) ≤ waiting_in u r → waiting_in u (s.rows c) ≤ waiting_in u ((with_row k r s).rows c)
  more k r le = elim (eqb_tells c k) [
    | inl y ↦ rw y.0 (let same = ap (λ j. waiting_in u (s.rows j)) y.1 in omega (arith, le, same))
    | inr y ↦ rw y.0 (omega arith)
  ]

  same : (k : ℕ) (r : Row ℕ) → waiting_in u r ≡ waiting_in u (s.rows k) → waiting_in u (s.rows c) ≤ waiting_in u ((with_row k r s).rows c)
  same k r e = more k r (omega (arith, e))

  pub waiting-on : (l : ℕ) (e : Entry) → KeepsWaiting c e → waiting_in u (s.rows c) ≤ waiting_in u ((next s (l, e)).rows c)
  waiting-on l (entry.Fill k us) h = same k _ refl
  waiting-on l (entry.Enter k a) h = same k _ refl
  waiting-on l (entry.Leave k a) h = same k _ refl
  waiting-on l (entry.Pop k v) h = same k _ refl
  waiting-on l (entry.Push k v) h = same k _ refl
  waiting-on l (entry.Count k n) h = same k _ refl
  waiting-on l (entry.Raise k) h = same k _ refl
  waiting-on l (entry.Work k) h = same k _ refl
  waiting-on l (entry.Delayed k v) h = more k _ (let a = times-append u (take 1 (s.sides l).hand) (s.rows k).delayed in omega (arith, a))
  waiting-on l (entry.Put k v) h = same k _ refl
  waiting-on l (entry.PutDelayed k v) h = more k _ (let a = times-append u (take 1 (s.sides l).hand) (s.rows k).extra_delayed in omega (arith, a))
  waiting-on l (entry.Receive k us) h = same k _ refl
  waiting-on l (entry.Ready k v) h = same k _ refl
  waiting-on l (entry.Second k v) h = same k _ refl
  waiting-on l (entry.TakeExtra k us) h = same k _ refl
  waiting-on l (entry.Send k to us) h = go (s.sides l).hand
    where
      go : (hand : List ℕ) → waiting_in u (s.rows c) ≤ waiting_in u ((sent k l hand s).rows c)
      go [] = same k _ refl
      go (v ∷ vs) = omega arith
  waiting-on l (entry.TakeDelayed k us) h = more k _ (let a = times-append u (reverse (s.rows k).extra_delayed) (s.rows k).delayed in let b = times-reverse u (s.rows k).extra_delayed in omega (arith, a, b))
  waiting-on l (entry.Batch k us) h = rw (ne_eqb c k h) (omega arith)
  waiting-on l (entry.Stamp k Plain x) h = same k _ refl
  waiting-on l (entry.Stamp k Tracing x) h = same k _ refl
  waiting-on l (entry.BeginSecond k us) h = same k _ refl
  waiting-on l (entry.Return k us) h = same k _ refl
  waiting-on l (entry.Sweep k us) h = absurd h
  waiting-on l _ h = omega arith

-- ---- the batch in progress

abbrev pub batch_of : Row ℕ → List ℕ × Option ℕ
batch_of r = (r.deferred.first, r.deferred.plain)

-- an entry leaves the batch of the class, unless it begins one there, stamps it, sends it, or sweeps
abbrev pub KeepsBatch : (c : ℕ) → (hand : List ℕ) → Entry → Type 0
KeepsBatch c hand (entry.Batch k us) = c ≢ k
KeepsBatch c hand (entry.Stamp k Plain x) = c ≢ k
KeepsBatch c [] (entry.Send k to us) = c ≢ k
KeepsBatch c hand (entry.Sweep k us) = ⊥
KeepsBatch c hand _ = Unit {0}

module _ (c l : ℕ) (s : State ℕ) where
  kept : (k : ℕ) (r : Row ℕ) → batch_of r ≡ batch_of (s.rows k) → batch_of ((with_row k r s).rows c) ≡ batch_of (s.rows c)
  kept k r e = row-same batch_of c k r s e

  pub batch-on : (e : Entry) → KeepsBatch c (s.sides l).hand e → batch_of ((next s (l, e)).rows c) ≡ batch_of (s.rows c)
  batch-on (entry.Fill k us) h = kept k _ refl
  batch-on (entry.Enter k a) h = kept k _ refl
  batch-on (entry.Leave k a) h = kept k _ refl
  batch-on (entry.Pop k v) h = kept k _ refl
  batch-on (entry.Push k v) h = kept k _ refl
  batch-on (entry.Count k n) h = kept k _ refl
  batch-on (entry.Raise k) h = kept k _ refl
  batch-on (entry.Work k) h = kept k _ refl
  batch-on (entry.Delayed k v) h = kept k _ refl
  batch-on (entry.Put k v) h = kept k _ refl
  batch-on (entry.PutDelayed k v) h = kept k _ refl
  batch-on (entry.Receive k us) h = kept k _ refl
  batch-on (entry.Ready k v) h = kept k _ refl
  batch-on (entry.Second k v) h = kept k _ refl
  batch-on (entry.TakeExtra k us) h = kept k _ refl
  batch-on (entry.Send k to us) h = go (s.sides l).hand h
    where
      go : (hand : List ℕ) → KeepsBatch c hand (entry.Send k to us) → batch_of ((sent k l hand s).rows c) ≡ batch_of (s.rows c)
      go [] h = row-other batch_of c k _ s h
      go (v ∷ vs) h = refl
  batch-on (entry.TakeDelayed k us) h = kept k _ refl
  batch-on (entry.Batch k us) h = row-other batch_of c k _ s h
  batch-on (entry.Stamp k Plain x) h = row-other batch_of c k _ s h
  batch-on (entry.Stamp k Tracing x) h = kept k _ refl
  batch-on (entry.BeginSecond k us) h = kept k _ refl
  batch-on (entry.Return k us) h = kept k _ refl
  batch-on (entry.Sweep k us) h = absurd h
  batch-on _ h = refl

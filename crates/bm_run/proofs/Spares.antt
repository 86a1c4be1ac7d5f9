-- The acts of a processor spare the units that another one has, and so don't change what these wait for.
use Rattle.std.specs.Prelude.{◌≡◌, ◌≢◌, ◌<◌, ◌+◌, ℕ, zero, suc, false, eqb, if◌then◌else◌, map, Option, None, Some, List, [], ◌∷◌, ◌++◌, take}
use Rattle.std.proofs.Common.{refl, sym, ap, ◌∙◌, subst, arith, inl, inr, eq-eqb, ne_eqb}
use Rattle.std.proofs.lemmas.Bool.{false≢true}
use Rattle.std.proofs.lemmas.Bool.Decides.{eqb_tells}
use Rattle.bm_law.specs.Lists.{Names, sends}
use Rattle.bm_law.specs.Phrases.{given}
use Rattle.bm_law.specs.Stands.{times}
use Rattle.bm_law.specs.State.{seven_lists}
use Rattle.bm_law.proofs.Stands.{times-seven, times-take-drop}
use Rattle.bm_law_order.specs.Act.{Act, Sealed, units_of}
use Rattle.bm_law_order.specs.Act as act
use Rattle.bm_law_order.specs.Chunk.{Chunk, acts_of, entries_of, seal_told}
use Rattle.bm_law_order.specs.Chunk as chunk
use Rattle.bm_law_order.specs.Lives.{Life}
use Rattle.bm_law_order.specs.Orders.{Order, by}
use Rattle.bm_law_order.specs.Seals.{Wait, WaitLeads, WaitsBy, all_ended, seal_among}
use Rattle.bm_law_order.specs.Story.{Story, at_level, deeds, lines, lines_of}
use Rattle.bm_law_order.proofs.Along.{by-append, fit-front, fit-rest}
use Rattle.bm_law_places.specs.Place.{Cache, Hand}
use Rattle.bm_law_places.specs.Placed.{IsWellPlaced, IsWith}
use Rattle.bm_law_places.specs.World.{AllFound, Finds, World, world_after, world_over}
use Rattle.bm_law_places.proofs.Apart.{leaves-alone, only-with, others-part}
use Rattle.bm_law_places.proofs.Standing.{standing-over}
use Rattle.bm_page.specs.declared.units.Seal.{Seal}
use Rattle.bm_world.specs.Spared.{AllSpare, Spares, spare-append}
use Rattle.bm_run.specs.Spared.{Has}

-- ---- what a unit waits for

off : (n u : ℕ) (k : ℕ) → (if eqb n u then 1 else 0) + k ≡ 0 → (eqb n u ≡ false) × (k ≡ 0)
off n u k h = elim (eqb_tells n u) [
  | inl y ↦ (let one : 1 + k ≡ 0 = rw y.0 at h in absurd (omega (arith, one)))
  | inr y ↦ (y.0, (let none : 0 + k ≡ 0 = rw y.0 at h in omega (arith, none)))
]

among-none : (n : ℕ) (us : List Sealed) → times n (units_of us) ≡ 0 → seal_among us n ≡ None
among-none n [] h = refl
among-none n (u ∷ us) h =
    let e = off n u.unit (times n (units_of us)) h in
    let other : eqb u.unit n ≡ false = elim (eqb_tells u.unit n) [
      | inl y ↦ absurd (false≢true (sym e.0 ∙ eq-eqb n u.unit (sym y.1)))
      | inr y ↦ y.0
    ] in
    rw other (among-none n us e.1)

ended-none : (n stamp seen : ℕ) (us : List ℕ) (waits : ℕ → Wait) → times n us ≡ 0 → all_ended stamp seen us waits n ≡ waits n
ended-none n stamp seen [] waits h = refl
ended-none n stamp seen (u ∷ us) waits h =
    let e = off n u (times n us) h in
    rw e.0 (ended-none n stamp seen us waits e.1)

spared-one : (n : ℕ) (a : Act) (x y : ℕ → Wait) → Spares n a → WaitsBy a x y → y n ≡ x n
spared-one n (act.Makes u life type values seal) x y s w = ap (λ (f : ℕ → Wait). f n) w.1.1 ∙ rw (ne_eqb n u s) refl
spared-one n (act.Ends u life home delayed) x y s w = ap (λ (f : ℕ → Wait). f n) w ∙ rw (ne_eqb n u s) refl
spared-one n (act.Sends c to us) x y s w = rw (among-none n us s) at (w n)
spared-one n (act.Returns us) x y s w = rw (among-none n us s) at (w n)
spared-one n (act.Drains c to us) x y s w = ap (λ (f : ℕ → Wait). f n) w.1
spared-one n (act.Releases c to us stamp seen) x y s w = ap (λ (f : ℕ → Wait). f n) w ∙ ended-none n stamp seen us x s
spared-one n _ x y s w = ap (λ (f : ℕ → Wait). f n) w

-- Acts that spare a unit don't change what is told of its waiting.
pub waits-spared : (n : ℕ) (acts : List Act) (x y : ℕ → Wait) → AllSpare n acts → WaitLeads acts x y → y n ≡ x n
waits-spared n [] x y s w = ap (λ (f : ℕ → Wait). f n) w
waits-spared n (a ∷ acts) x y s w = waits-spared n acts w.0 y s.1 w.1.1 ∙ spared-one n a x w.0 s.0 w.1.0

-- ---- whose units acts name

pub is-with : (q n : ℕ) (w : World) → Has n (w.lists q) → IsWith q n w
is-with q n w (inl h) = record { place = Cache q h.0; own = refl; named = h.1 }
is-with q n w (inr h) = record { place = Hand q h.0; own = refl; named = h.1 }

nothing-there : (k : ℕ) → (0 < k → ⊥) → k ≡ 0
nothing-there zero h = refl
nothing-there (suc k) h = absurd (h (omega arith))

one-time : (n u : ℕ) → n ≡ u → times n (u ∷ []) ≡ 1
one-time n u e = rw (eq-eqb n u e) refl

some-lives : (held : Life) → Some held ≡ None → ⊥
some-lives held e = cc

receives-spare : (n c : ℕ) (parcels : List (List ℕ)) → AllSpare n (map (act.Receives c) parcels)
receives-spare n c [] = tt
receives-spare n c (parcel ∷ parcels) = (tt, receives-spare n c parcels)

-- Unit n is processor q's, and processor p is another one.
module _ (p q n : ℕ) (other : q ≢ p) where
  not-his : (w : World) → IsWellPlaced w → Has n (w.lists q) → IsWith p n w → ⊥
  not-his w s h = (only-with q n w (s.placed n) (is-with q n w h)).others p (λ e. other (sym e))

  no-cache : (w : World) (c : ℕ) → IsWellPlaced w → Has n (w.lists q) → times n (seven_lists ((w.lists p).rows c)) ≡ 0
  no-cache w c s h = nothing-there _ (λ lt. not-his w s h (record { place = Cache p c; own = refl; named = lt }))

  no-hand : (w : World) (l : ℕ) → IsWellPlaced w → Has n (w.lists q) → times n ((w.lists p).sides l).hand ≡ 0
  no-hand w l s h = nothing-there _ (λ lt. not-his w s h (record { place = Hand p l; own = refl; named = lt }))

  no-first : (w : World) (c : ℕ) → IsWellPlaced w → Has n (w.lists q) → times n ((w.lists p).rows c).deferred.first ≡ 0
  no-first w c s h = (let a = times-seven n ((w.lists p).rows c) in let b = no-cache w c s h in omega (arith, a, b))

  no-second : (w : World) (c : ℕ) → IsWellPlaced w → Has n (w.lists q) → times n ((w.lists p).rows c).deferred.second ≡ 0
  no-second w c s h = (let a = times-seven n ((w.lists p).rows c) in let b = no-cache w c s h in omega (arith, a, b))

  -- what p sends
  sent-none : (w : World) (l c : ℕ) (us : List ℕ) → IsWellPlaced w → Has n (w.lists q) → us ≡ sends ((w.lists p).sides l).hand ((w.lists p).rows c).deferred.first → times n us ≡ 0
  sent-none w l c us s h is = ap (times n) is ∙ go ((w.lists p).sides l).hand (no-hand w l s h)
    where
      go : (hand : List ℕ) → times n hand ≡ 0 → times n (sends hand ((w.lists p).rows c).deferred.first) ≡ 0
      go [] k = no-first w c s h
      go (v ∷ vs) k = k

  -- what p gives
  given-other : (w : World) (l u : ℕ) → IsWellPlaced w → Has n (w.lists q) → take 1 ((w.lists p).sides l).hand ≡ u ∷ [] → n ≢ u
  given-other w l u s h is e =
      let a = times-take-drop n ((w.lists p).sides l).hand in
      let b : times n (take 1 ((w.lists p).sides l).hand) ≡ 1 = ap (times n) is ∙ one-time n u e in
      let none = no-hand w l s h in
      absurd (omega (arith, a, b, none))

  made-other : (w : World) (l u life : ℕ) (seal : Option Seal) → IsWellPlaced w → Has n (w.lists q) → Names l (given u life (seal_told seal)) (w.lists p) → n ≢ u
  made-other w l u life None s h is = given-other w l u s h is
  made-other w l u life (Some seal) s h is = given-other w l u s h is

  -- a life that ends
  lives-other : (w : World) (u : ℕ) (held : Life) → IsWellPlaced w → Has n (w.lists q) → w.shared.lives.holds u ≡ Some held → n ≢ u
  lives-other w u held s h is e =
      let none = (only-with q n w (s.placed n) (is-with q n w h)).lifeless in
      some-lives held (sym is ∙ (ap w.shared.lives.holds (sym e) ∙ none))

  chunk-spares : (l : ℕ) (c : Chunk) (w : World) → IsWellPlaced w → Has n (w.lists q) → AllFound (by p (at_level l (entries_of c))) w → AllSpare n (acts_of c)
  chunk-spares l (chunk.Acquiring u life seen) w s h f = (tt, tt)
  chunk-spares l (chunk.Finding u life place value) w s h f = (tt, tt)
  chunk-spares l (chunk.Exchanging name put was from tag) w s h f = (tt, tt)
  chunk-spares l (chunk.Locking graph) w s h f = tt
  chunk-spares l (chunk.Unlocking graph) w s h f = tt
  chunk-spares l (chunk.Calling graph position call owner tag) w s h f = (tt, tt)
  chunk-spares l (chunk.GivingUp u life seen) w s h f = (tt, tt)
  chunk-spares l (chunk.Making u life type values seal) w s h f = (made-other w l u life seal s h f.0.lists, tt)
  chunk-spares l (chunk.Ending u life home delayed) w s h f = (lives-other w u f.0.shared.lives.has.held s h f.0.shared.lives.has.holds, tt)
  chunk-spares l (chunk.Sending c to us) w s h f = (sent-none w l c (units_of us) s h f.0.lists.1, tt)
  chunk-spares l (chunk.Draining c to us) w s h f = (sent-none w l c us s h f.0.lists.1, tt)
  chunk-spares l (chunk.Releasing c to us stamp seen) w s h f = (sent-none w l c us s h f.0.lists.1, tt)
  chunk-spares l (chunk.Returning c us) w s h f = (ap (times n) f.0.lists.0 ∙ no-second w c s h, tt)
  chunk-spares l (chunk.GivingBack c us) w s h f = (ap (times n) f.0.lists.0 ∙ no-second w c s h, tt)
  chunk-spares l (chunk.Sweeping c us parcels) w s h f = spare-append n (map (act.Receives c) parcels) (act.Receives c [] ∷ []) (receives-spare n c parcels) (tt, tt)
  chunk-spares l (chunk.Quiet e k) w s h f = tt
  chunk-spares l (chunk.Looking d ws) w s h f = (tt, tt)
  chunk-spares l (chunk.Asking d x k) w s h f = (tt, tt)
  chunk-spares l (chunk.Missing d even k) w s h f = (tt, tt)
  chunk-spares l (chunk.Entering d word) w s h f = (tt, tt)
  chunk-spares l (chunk.Leaving d word) w s h f = (tt, tt)
  chunk-spares l (chunk.Stamping c d x) w s h f = (tt, tt)
  chunk-spares l (chunk.Passing c d x k) w s h f = (tt, tt)
  chunk-spares l (chunk.Beginning d k ws) w s h f = (tt, (tt, tt))
  chunk-spares l (chunk.Finishing ws period) w s h f = (tt, (tt, tt))
  chunk-spares l (chunk.WholePeriod k ws period) w s h f = (tt, (tt, (tt, tt)))
  chunk-spares l (chunk.Filling c us) w s h f = (tt, tt)
  chunk-spares l (chunk.Fetching c want us) w s h f = (tt, tt)
  chunk-spares l (chunk.Receiving c us) w s h f = (tt, tt)
  chunk-spares l (chunk.FindingNone c) w s h f = (tt, tt)

  -- The acts of a stretch of p's log that finds what it needs spare it.
  pub story-spares : (ts : Story) (w : World) → IsWellPlaced w → Has n (w.lists q) → AllFound (by p (lines ts)) w → AllSpare n (deeds ts)
  story-spares [] w s h f = tt
  story-spares (t ∷ ts) w s h f =
      let apart : AllFound (by p (lines_of t) ++ by p (lines ts)) w = subst (λ (o : Order). AllFound o w) (by-append p (lines_of t) (lines ts)) f in
      let one = fit-front world_after Finds (by p (lines_of t)) (by p (lines ts)) w apart in
      let two = fit-rest world_after Finds (by p (lines_of t)) (by p (lines ts)) w apart in
      let now : World = world_over (by p (lines_of t)) w in
      let alone = leaves-alone q (by p (lines_of t)) w (others-part p q (lines_of t) other) s one in
      spare-append n (acts_of t.chunk) (deeds ts) (chunk-spares t.level t.chunk w s h one) (story-spares ts now (standing-over (by p (lines_of t)) w s one) (subst (Has n) (sym alone.lists) h) two)

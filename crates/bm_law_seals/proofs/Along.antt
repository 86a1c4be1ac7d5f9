-- Along an order each unit that is given has waited in the batch that its log tells of.
use Rattle.std.specs.Prelude.{◌≡◌, ◌≢◌, ◌<◌, ◌≤◌, ◌+◌, ◌-◌, ◌⊎◌, eqb, if◌then◌else◌, is_some, ℕ, Bool, true, false, List, [], ◌∷◌, ◌++◌, Option, Some, None, get_or, length, take}
use Rattle.std.proofs.Common.{◌∙◌, ap, arith, eq-eqb, inl, inr, ne_eqb, refl, subst, sym}
use Rattle.std.proofs.lemmas.Bool.Decides.{eqb_tells}
use Rattle.bm_journal.specs.declared.entry.Entry.{Entry}
use Rattle.bm_journal.specs.declared.units.Units.{Units}
use Rattle.bm_journal.specs.declared.entry.Entry.TheVariants as entry
use Rattle.bm_journal.specs.EntryText.{unit_list}
use Rattle.bm_law.specs.Lists.{Log, Names, next, sends}
use Rattle.bm_law.specs.Spans.{own_entries}
use Rattle.bm_law.specs.Stands.{in_row, times}
use Rattle.bm_law.specs.State.{State}
use Rattle.bm_law.proofs.Stands.{times-append, times-seven, times-take-drop}
use Rattle.bm_law_laid.specs.LivesEnded.{HasBegun, OneBegun}
use Rattle.bm_law_lives.specs.Lives.{LivesLaw, ends_life, lives_given, objects_ended}
use Rattle.bm_law_lives.specs.StampLaw.{BatchedAt, SealedIn, delayed_parts, is_delayed, parts_behind, sends_unit}
use Rattle.bm_law_lives.specs.Together as together
use Rattle.bm_law_order.specs.Lives.{Dropping, Life, Lives as LivesNow, LivesFit, answered_last, answered_still, counted as recounted, lives_after, maker_of}
use Rattle.bm_law_order.specs.Orders.{Order, part_of}
use Rattle.bm_law_order.specs.Seals.{Batch, Nothing, Over, SealFits, Wait, Waiting, waited, waiting_after, waits_after}
use Rattle.bm_law_places.specs.Place.{Cache, Ending as EndingPlace, Hand, Living as LivingPlace, ending, times_at}
use Rattle.bm_law_places.specs.Placed.{InOnePlace, IsOnlyWith, IsWith}
use Rattle.bm_law_places.specs.World.{Finds, World, world_after}
use Rattle.bm_law_places.proofs.Apart.{is-there, only-with}
use Rattle.bm_law_seals.specs.Answered.{ArePut, PutsDelayed}
use Rattle.bm_law_seals.specs.Batches.{BatchFits, TakesBatch}
use Rattle.bm_law_seals.proofs.Counts.{Among, all-ends, all-have, all-spare, ended-at-most, log-has, log-spares, no-more, only-one}
use Rattle.bm_law_seals.proofs.Others.{GivesOther, IsAside, IsLifeless, SendsAside, all-gone, aside-gives, begun-same, lifeless-aside, lifeless-on, not-among, on-self, once, only-lifeless, sends-idle, sole, stage-with, waits-kept}
use Rattle.bm_law_seals.proofs.Rows.{waiting_in}
use Rattle.bm_law_seals.proofs.Stages.{InBatch, InDelayed, InHand, InStamped, IsCalm, Stage, counted, holds-some, passed_on, sent-in, stage-on, told}
use Rattle.bm_law_seals.proofs.Under.{Under, dropping-other}

-- ---- how a life ended, as the logs tell it

-- A drop of this life stands in a log, and a delayed free behind it; and a plain one.
pub record HasDelay (u k : ℕ) (logs : List Log) (part : Log) : Type 0 where
  pub processor : ℕ
  pub there : processor < length logs
  pub level : ℕ
  pub front : Log
  pub is : get_or logs processor [] ≡ front ++ (level, entry.Drop u k) ∷ part
  pub delayed : is_delayed u (own_entries level part) ≡ true

pub record HasPlain (u k : ℕ) (logs : List Log) : Type 0 where
  pub processor : ℕ
  pub there : processor < length logs
  pub level : ℕ
  pub front : Log
  pub part : Log
  pub is : get_or logs processor [] ≡ front ++ (level, entry.Drop u k) ∷ part
  pub plain : is_delayed u (own_entries level part) ≡ false
  pub ends : ends_life u (own_entries level part) ≡ true

-- so it is the one part, or there is none
delayed-one : (u k : ℕ) (logs : List Log) (part : Log) → LivesLaw logs → 0 < k → k ≤ length (lives_given u logs) → HasDelay u k logs part → delayed_parts u k logs ≡ part ∷ []
delayed-one u k logs part law pos most h =
    let here = subst (λ log. Among-in log) (sym h.is) (log-has u k h.level h.front part h.delayed) in
    let a = all-ends u k logs in
    let b = ended-at-most u k logs law pos most in
    only-one part (delayed_parts u k logs) (all-have u k part h.processor logs h.there here) (omega (arith, a, b))
  where
    Among-in : Log → Type 0
    Among-in log = Among part (parts_behind u k log)

plain-none : (u k : ℕ) (logs : List Log) → LivesLaw logs → 0 < k → k ≤ length (lives_given u logs) → HasPlain u k logs → delayed_parts u k logs ≡ []
plain-none u k logs law pos most h =
    let spares = subst Spares (sym h.is) (log-spares u k h.level h.front h.part h.plain h.ends) in
    let a = all-spare u k h.processor logs h.there spares in
    let b = ended-at-most u k logs law pos most in
    no-more (delayed_parts u k logs) (omega (arith, a, b))
  where
    Spares : Log → Type 0
    Spares log = length (parts_behind u k log) + 1 ≤ together.times k (together.beside u (objects_ended log))

-- ---- what is known of a unit

pub data Now (u : ℕ) (logs : List Log) (rest : ℕ → Log) (w : World) (m : Waiting) : Type 0 where
  Unborn : w.shared.lives.begun u ≡ 0 → IsLifeless u w.shared.lives → m.waits u ≡ Nothing → Now u logs rest w m
  Lives : is_some (w.shared.lives.holds u) ≡ true → m.waits u ≡ Nothing → Now u logs rest w m
  Ends : (p l : ℕ) (d : Dropping) → w.shared.lives.dropping p l ≡ Some d → d.unit ≡ u → is_some d.ended ≡ true → d.life ≡ w.shared.lives.begun u → 0 < w.shared.lives.begun u → m.waits u ≡ Nothing → Now u logs rest w m
  Freed : IsLifeless u w.shared.lives → m.waits u ≡ Nothing → 0 < w.shared.lives.begun u → HasPlain u (w.shared.lives.begun u) logs → Now u logs rest w m
  Waits : (q : ℕ) (part : Log) → m.waits u ≡ Batch → 0 < w.shared.lives.begun u → HasDelay u (w.shared.lives.begun u) logs part → Stage u (w.lists q) (m.passed q) (rest q) part → Now u logs rest w m
  Waited : (x n : ℕ) (part : Log) → IsLifeless u w.shared.lives → m.waits u ≡ Over x n → 0 < w.shared.lives.begun u → HasDelay u (w.shared.lives.begun u) logs part → (x ≤ n → BatchedAt u x n part) → Now u logs rest w m

-- the unit is given with the seal that its logs tell of
abbrev pub GivenOne : ℕ → List Log → Entry → Type 0
GivenOne u logs (entry.Given v life) = u ≡ v → delayed_parts u (life - 1) logs ≡ []
GivenOne u logs (entry.GivenAfter v life x n) = u ≡ v → SealedIn u x n (delayed_parts u (life - 1) logs)
GivenOne u logs _ = Unit {0}

nothing-batch : Nothing ≡ Batch → ⊥
nothing-batch e = cc

nothing-over : (x n : ℕ) → Nothing ≡ Over x n → ⊥
nothing-over x n e = cc

batch-over : (x n : ℕ) → Batch ≡ Over x n → ⊥
batch-over x n e = cc

over-same : (x n y k : ℕ) → Over x n ≡ Over y k → (x ≡ y) × (n ≡ k)
over-same x n y k e = (cc, cc)

some-none : {A : Type 0} (x : A) → Some x ≡ None → ⊥
some-none x e = cc

living-ending : (p l : ℕ) → LivingPlace ≡ EndingPlace p l → ⊥
living-ending p l e = cc

hand-ending : (p l q j : ℕ) → Hand p l ≡ EndingPlace q j → ⊥
hand-ending p l q j e = cc

ending-ending : (p l q j : ℕ) → EndingPlace p l ≡ EndingPlace q j → (p ≡ q) × (l ≡ j)
ending-ending p l q j e = (cc, cc)

-- ---- what an entry does to the unit

-- it isn't the reply that ends its life
abbrev pub NotLast : (u p l : ℕ) → Entry → LivesNow → Type 0
NotLast u p l entry.Last lives = (d : Dropping) → lives.dropping p l ≡ Some d → u ≢ d.unit
NotLast u p l _ lives = Unit {0}

pub data Does (u p l : ℕ) (e : Entry) (lives : LivesNow) : Type 0 where
  Gives : (life : ℕ) → e ≡ entry.Given u life → Does u p l e lives
  GivesAfter : (life x n : ℕ) → e ≡ entry.GivenAfter u life x n → Does u p l e lives
  Frees : (home : ℕ) → e ≡ entry.Free u home → Does u p l e lives
  Delays : (home : ℕ) → e ≡ entry.Delay u home → Does u p l e lives
  Lasts : (d : Dropping) → e ≡ entry.Last → lives.dropping p l ≡ Some d → d.unit ≡ u → Does u p l e lives
  Aside : IsAside u e → NotLast u p l e lives → Does u p l e lives

some-same : (x y : Dropping) → Some x ≡ Some y → x ≡ y
some-same x y e = cc

some-number : (x y : ℕ) → Some x ≡ Some y → x ≡ y
some-number x y e = cc

pub does : (u p l : ℕ) (e : Entry) (lives : LivesNow) → Does u p l e lives
does u p l (entry.Given v life) lives = elim (eqb_tells u v) [ inl y ↦ Gives life (ap (λ k. entry.Given k life) (sym y.1)) | inr y ↦ Aside y.1 tt ]
does u p l (entry.GivenAfter v life x n) lives = elim (eqb_tells u v) [ inl y ↦ GivesAfter life x n (ap (λ k. entry.GivenAfter k life x n) (sym y.1)) | inr y ↦ Aside y.1 tt ]
does u p l (entry.Free v home) lives = elim (eqb_tells u v) [ inl y ↦ Frees home (ap (λ k. entry.Free k home) (sym y.1)) | inr y ↦ Aside y.1 tt ]
does u p l (entry.Delay v home) lives = elim (eqb_tells u v) [ inl y ↦ Delays home (ap (λ k. entry.Delay k home) (sym y.1)) | inr y ↦ Aside y.1 tt ]
does u p l entry.Last lives = go (lives.dropping p l) refl
  where
    go : (o : Option Dropping) → lives.dropping p l ≡ o → Does u p l entry.Last lives
    go None e = Aside tt (λ d h. absurd (some-none d (sym h ∙ e)))
    go (Some d) e = elim (eqb_tells u d.unit) [
      | inl y ↦ Lasts d refl e (sym y.1)
      | inr y ↦ Aside tt (λ x h. λ s. y.1 (s ∙ ap (λ (z : Dropping). z.unit) (some-same x d (sym h ∙ e))))
    ]
does u p l _ lives = Aside tt tt

-- a life that isn't ended goes on
counted-some : (f : ℕ → ℕ) (o : Option Life) → is_some o ≡ true → is_some (recounted f o) ≡ true
counted-some f None h = h
counted-some f (Some x) h = h

with-counted : (u v : ℕ) (f : ℕ → ℕ) (lives : LivesNow) → is_some (lives.holds u) ≡ true → is_some (if eqb u v then recounted f (lives.holds v) else lives.holds u) ≡ true
with-counted u v f lives h = elim (eqb_tells u v) [
  | inl y ↦ rw y.0 (counted-some f (lives.holds v) (ap (λ k. is_some (lives.holds k)) (sym y.1) ∙ h))
  | inr y ↦ rw y.0 h
]

living-on : (u p l : ℕ) (e : Entry) (lives : LivesNow) → IsAside u e → NotLast u p l e lives → is_some (lives.holds u) ≡ true → is_some ((lives_after p l e lives).holds u) ≡ true
living-on u p l (entry.Given v life) lives a n h = rw (ne_eqb u v a) h
living-on u p l (entry.GivenAfter v life x k) lives a n h = rw (ne_eqb u v a) h
living-on u p l (entry.Acquire v life k) lives a n h = with-counted u v (λ n. n + 1) lives h
living-on u p l (entry.Still k) lives a n h = go (lives.dropping p l)
  where
    go : (o : Option Dropping) → is_some ((answered_still p l o lives).holds u) ≡ true
    go None = h
    go (Some d) = with-counted u d.unit (λ k. k - 1) lives h
living-on u p l entry.Last lives a n h = go (lives.dropping p l) refl
  where
    go : (o : Option Dropping) → lives.dropping p l ≡ o → is_some ((answered_last p l o lives).holds u) ≡ true
    go None e = h
    go (Some d) e = rw (ne_eqb u d.unit (n d e)) h
living-on u p l _ lives a n h = h

-- a drop that has ended its life stays until the free
abbrev unit_or : Option Dropping → ℕ
unit_or None = 0
unit_or (Some d) = d.unit

abbrev life_or : Option Dropping → ℕ
life_or None = 0
life_or (Some d) = d.life

abbrev ended_or : Option Dropping → Bool
ended_or None = false
ended_or (Some d) = is_some d.ended

true-not : true ≡ false → ⊥
true-not e = cc

ending-stays : (u p l : ℕ) (e : Entry) (lives : LivesNow) (d : Dropping) → LivesFit p l e lives → lives.dropping p l ≡ Some d → d.unit ≡ u → is_some d.ended ≡ true → IsAside u e → (lives_after p l e lives).dropping p l ≡ Some d
ending-stays u p l (entry.Drop v k) lives d f h hu he a = absurd (some-none d (sym h ∙ f.none))
ending-stays u p l (entry.Still k) lives d f h hu he a = absurd (true-not (sym he ∙ ap ended_or (sym h ∙ f.0.under)))
ending-stays u p l entry.Last lives d f h hu he a = absurd (true-not (sym he ∙ ap ended_or (sym h ∙ f.under)))
ending-stays u p l (entry.Free v home) lives d f h hu he a = absurd (a (sym hu ∙ ap unit_or (sym h ∙ f.under)))
ending-stays u p l (entry.Delay v home) lives d f h hu he a = absurd (a (sym hu ∙ ap unit_or (sym h ∙ f.under)))
ending-stays u p l _ lives d f h hu he a = h

-- ---- what a stage asks of an entry

abbrev pub NotSweep : Entry → Type 0
NotSweep (entry.Sweep c us) = ⊥
NotSweep _ = Unit {0}

-- a send that has the unit, or an entry that is calm
data Calls (u l : ℕ) (e : Entry) : Type 0 where
  Sends : (c to : ℕ) (us : Units) → e ≡ entry.Send c to us → 0 < times u (unit_list us) → Calls u l e
  Calm : IsCalm u l e → ((waits : ℕ → Wait) → SendsAside u e waits) → Calls u l e

calls : (u p l : ℕ) (e : Entry) (w : World) (m : Waiting) → Finds p l e w → BatchFits p l e m → NotSweep e → Calls u l e
calls u p l (entry.Send c to us) w m finds fits n = elim (counted (times u (unit_list us))) [
  | inl lt ↦ Sends c to us refl lt
  | inr z ↦ Calm z (λ waits. inr z)
]
calls u p l (entry.Stamp c d x) w m finds fits n = (let is = finds.shared.numbers in Calm (omega (arith, is), fits) (λ waits. tt))
calls u p l (entry.Sweep c us) w m finds fits n = absurd n
calls u p l _ w m finds fits n = Calm tt (λ waits. tt)

-- ---- one entry

given-aside : (u : ℕ) (logs : List Log) (e : Entry) → GivesOther u e → GivenOne u logs e
given-aside u logs (entry.Given v life) h = λ s. absurd (h s)
given-aside u logs (entry.GivenAfter v life x n) h = λ s. absurd (h s)
given-aside u logs _ h = tt

first-of-hand : (u : ℕ) (hand : List ℕ) → take 1 hand ≡ u ∷ [] → 0 < times u hand
first-of-hand u hand h =
    let a = times-take-drop u hand in
    let b : times u (take 1 hand) ≡ 1 = ap (times u) h ∙ rw (eq-eqb u u refl) refl in
    omega (arith, a, b)

module _ (u : ℕ) (logs : List Log) (law : LivesLaw logs) (first_none : delayed_parts u 0 logs ≡ []) (p l : ℕ) (e : Entry) (o : Order) (w : World) (m : Waiting)
    (finds : Finds p l e w) (one : InOnePlace u w) (seal : SealFits p l e m) (fits : BatchFits p l e m) (same : (q : ℕ) → m.lists q ≡ w.lists q)
    (there : p < length logs) (unders : (j : ℕ) (d : Dropping) → w.shared.lives.dropping p j ≡ Some d → Under (get_or logs p []) j d ((l, e) ∷ part_of p o))
    (puts : ArePut (e ∷ own_entries l (part_of p o))) (born : HasBegun u w.shared.lives) (most : w.shared.lives.begun u ≤ length (lives_given u logs)) where
  abbrev lives : LivesNow
  lives = w.shared.lives

  abbrev w' : World
  w' = world_after p l e w

  abbrev m' : Waiting
  m' = waiting_after p l e m

  abbrev Later : Type 0
  Later = Now u logs (λ q. part_of q o) w' m'

  -- the unit is given, and what is known then; and after a sweep no more need be known
  abbrev pub Step : Type 0
  Step = GivenOne u logs e × (NotSweep e → Later)

  step-aside : GivesOther u e → (NotSweep e → Later) → Step
  step-aside g k = (given-aside u logs e g, k)

  lives-fit : LivesFit p l e lives
  lives-fit = finds.shared.lives

  -- ---- it begins a life

  now-lives : (is_some ((lives_after p l e lives).holds u) ≡ true) → waits_after p e m u ≡ Nothing → Later
  now-lives h k = Lives h k

  gives-now : (life : ℕ) → e ≡ entry.Given u life → Later
  gives-now life q = now-lives
      (ap (λ z. is_some ((lives_after p l z lives).holds u)) q ∙ rw (eq-eqb u u refl) refl)
      (ap (λ z. waits_after p z m u) q ∙ on-self u u Nothing m.waits refl)

  gives-after-now : (life x n : ℕ) → e ≡ entry.GivenAfter u life x n → Later
  gives-after-now life x n q = now-lives
      (ap (λ z. is_some ((lives_after p l z lives).holds u)) q ∙ rw (eq-eqb u u refl) refl)
      (ap (λ z. waits_after p z m u) q ∙ on-self u u Nothing m.waits refl)

  given-seal : (life : ℕ) → e ≡ entry.Given u life → m.waits u ≡ Nothing
  given-seal life q = subst (λ z. SealFits p l z m) q seal

  after-seal : (life x n : ℕ) → e ≡ entry.GivenAfter u life x n → (m.waits u ≡ Over x n) × (x ≤ n)
  after-seal life x n q = subst (λ z. SealFits p l z m) q seal

  given-life : (life : ℕ) → e ≡ entry.Given u life → life ≡ lives.begun u + 1
  given-life life q = (subst (λ z. LivesFit p l z lives) q lives-fit).next_is

  after-life : (life x n : ℕ) → e ≡ entry.GivenAfter u life x n → life ≡ lives.begun u + 1
  after-life life x n q = (subst (λ z. LivesFit p l z lives) q lives-fit).next_is

  gives-step : (life : ℕ) (q : e ≡ entry.Given u life) → delayed_parts u (life - 1) logs ≡ [] → Step
  gives-step life q none = (subst (GivenOne u logs) (sym q) (λ s. none), λ n. gives-now life q)

  -- the reply `last` to its drop ends a life that it has
  lasts-held : (d : Dropping) → e ≡ entry.Last → lives.dropping p l ≡ Some d → d.unit ≡ u → (held : Life) × (lives.holds u ≡ Some held) × (d.life ≡ lives.begun u)
  lasts-held d q h hu =
      let r = subst (λ z. LivesFit p l z lives) q lives-fit in
      let unit : r.unit ≡ u = ap unit_or (sym r.under ∙ h) ∙ hu in
      let life : d.life ≡ r.life = ap life_or (sym h ∙ r.under) in
      (r.has.held, ap lives.holds (sym unit) ∙ r.has.holds, life ∙ (r.has.now_is ∙ ap lives.begun unit))

  -- ---- nothing of it lives

  lifeless-off : IsLifeless u lives → (home : ℕ) → (e ≡ entry.Free u home) ⊎ (e ≡ entry.Delay u home) → ⊥
  lifeless-off h home (inl q) = lifeless-aside u p l (entry.Free u home) lives (subst (λ z. LivesFit p l z lives) q lives-fit) tt h refl
  lifeless-off h home (inr q) = lifeless-aside u p l (entry.Delay u home) lives (subst (λ z. LivesFit p l z lives) q lives-fit) tt h refl

  lifeless-last : IsLifeless u lives → (d : Dropping) → e ≡ entry.Last → lives.dropping p l ≡ Some d → d.unit ≡ u → ⊥
  lifeless-last h d q is hu = (let k = lasts-held d q is hu in some-none k.0 (sym k.1 ∙ h.none))

  idle-waits : IsAside u e → m.waits u ≢ Batch → waits_after p e m u ≡ m.waits u
  idle-waits a ne = waits-kept u p e m a (sends-idle u e m.waits ne)

  not-waiting : {v : Wait} → m.waits u ≡ v → (v ≡ Batch → ⊥) → m.waits u ≢ Batch
  not-waiting is h b = h (sym is ∙ b)

  pub unborn-step : lives.begun u ≡ 0 → IsLifeless u lives → m.waits u ≡ Nothing → Does u p l e lives → Step
  unborn-step b h k (Gives life q) = gives-step life q (let n = given-life life q in let z : life - 1 ≡ 0 = omega (arith, n, b) in subst (λ j. delayed_parts u j logs ≡ []) (sym z) first_none)
  unborn-step b h k (GivesAfter life x n q) = absurd (nothing-over x n (sym k ∙ (after-seal life x n q).0))
  unborn-step b h k (Frees home q) = absurd (lifeless-off h home (inl q))
  unborn-step b h k (Delays home q) = absurd (lifeless-off h home (inr q))
  unborn-step b h k (Lasts d q is hu) = absurd (lifeless-last h d q is hu)
  unborn-step b h k (Aside a nl) =
      let g = aside-gives u e a in
      step-aside g (λ n. Unborn (begun-same u p l e lives g ∙ b) (lifeless-on u p l e lives lives-fit g h) (idle-waits a (not-waiting k nothing-batch) ∙ k))

  pub freed-step : IsLifeless u lives → m.waits u ≡ Nothing → 0 < lives.begun u → HasPlain u (lives.begun u) logs → Does u p l e lives → Step
  freed-step h k pos plain (Gives life q) = gives-step life q (let n = given-life life q in let z : life - 1 ≡ lives.begun u = omega (arith, n) in subst (λ j. delayed_parts u j logs ≡ []) (sym z) (plain-none u (lives.begun u) logs law pos most plain))
  freed-step h k pos plain (GivesAfter life x n q) = absurd (nothing-over x n (sym k ∙ (after-seal life x n q).0))
  freed-step h k pos plain (Frees home q) = absurd (lifeless-off h home (inl q))
  freed-step h k pos plain (Delays home q) = absurd (lifeless-off h home (inr q))
  freed-step h k pos plain (Lasts d q is hu) = absurd (lifeless-last h d q is hu)
  freed-step h k pos plain (Aside a nl) =
      let g = aside-gives u e a in
      let b = begun-same u p l e lives g in
      step-aside g (λ n. Freed (lifeless-on u p l e lives lives-fit g h) (idle-waits a (not-waiting k nothing-batch) ∙ k) (omega (arith, b, pos)) (subst (λ j. HasPlain u j logs) (sym b) plain))

  pub waited-step : (x n : ℕ) (part : Log) → IsLifeless u lives → m.waits u ≡ Over x n → 0 < lives.begun u → HasDelay u (lives.begun u) logs part → (x ≤ n → BatchedAt u x n part) → Does u p l e lives → Step
  waited-step x n part h k pos delay f (Gives life q) = absurd (nothing-over x n (sym (given-seal life q) ∙ k))
  waited-step x n part h k pos delay f (GivesAfter life y i q) =
      let s = after-seal life y i q in
      let is = over-same x n y i (sym k ∙ s.0) in
      let a = after-life life y i q in
      let z : life - 1 ≡ lives.begun u = omega (arith, a) in
      let parts : delayed_parts u (life - 1) logs ≡ part ∷ [] = ap (λ j. delayed_parts u j logs) z ∙ delayed-one u (lives.begun u) logs part law pos most delay in
      let le : x ≤ n = (let c = s.1 in let d = is.0 in let g = is.1 in omega (arith, c, d, g)) in
      let sealed : SealedIn u y i (delayed_parts u (life - 1) logs) = subst (SealedIn u y i) (sym parts) (subst (λ j. BatchedAt u y j part) is.1 (subst (λ j. BatchedAt u j n part) is.0 (f le))) in
      (subst (GivenOne u logs) (sym q) (λ s. sealed), λ n. gives-after-now life y i q)
  waited-step x n part h k pos delay f (Frees home q) = absurd (lifeless-off h home (inl q))
  waited-step x n part h k pos delay f (Delays home q) = absurd (lifeless-off h home (inr q))
  waited-step x n part h k pos delay f (Lasts d q is hu) = absurd (lifeless-last h d q is hu)
  waited-step x n part h k pos delay f (Aside a nl) =
      let g = aside-gives u e a in
      let b = begun-same u p l e lives g in
      step-aside g (λ c. Waited x n part (lifeless-on u p l e lives lives-fit g h) (idle-waits a (not-waiting k (λ z. batch-over x n (sym z))) ∙ k) (omega (arith, b, pos)) (subst (λ j. HasDelay u j logs part) (sym b) delay) f)

  -- ---- it lives

  in-life : is_some (lives.holds u) ≡ true → 0 < times_at u LivingPlace w
  in-life h = rw h (omega arith)

  in-ending : (q j : ℕ) (d : Dropping) → lives.dropping q j ≡ Some d → d.unit ≡ u → is_some d.ended ≡ true → 0 < times_at u (EndingPlace q j) w
  in-ending q j d is hu he =
      let t : times u (ending (lives.dropping q j)) ≡ 1 = ap (λ (x : Option Dropping). times u (ending x)) is ∙ (ap (λ (b : Bool). times u (if b then d.unit ∷ [] else [])) he ∙ rw (eq-eqb u d.unit (sym hu)) refl) in
      omega (arith, t)

  -- a free of it stands where a drop has ended its life
  free-under : (home : ℕ) → (e ≡ entry.Free u home) ⊎ (e ≡ entry.Delay u home) → (life : ℕ) × (lives.dropping p l ≡ Some (record { unit = u; life = life; ended = Some home }))
  free-under home (inl q) = (let r = subst (λ z. LivesFit p l z lives) q lives-fit in (r.life, r.under))
  free-under home (inr q) = (let r = subst (λ z. LivesFit p l z lives) q lives-fit in (r.life, r.under))

  life-off : is_some (lives.holds u) ≡ true → (home : ℕ) → (e ≡ entry.Free u home) ⊎ (e ≡ entry.Delay u home) → ⊥
  life-off h home q =
      let r = free-under home q in
      living-ending p l (is-there u LivingPlace w one (in-life h) ∙ sym (is-there u (EndingPlace p l) w one (in-ending p l _ r.1 refl refl)))

  held-not : is_some (lives.holds u) ≡ true → lives.holds u ≡ None → ⊥
  held-not h none = true-not (sym h ∙ ap (λ (x : Option Life). is_some x) none)

  maker-some : (o : Option Life) (x : Life) → o ≡ Some x → is_some (maker_of o) ≡ true
  maker-some None x h = absurd (some-none x (sym h))
  maker-some (Some y) x h = refl

  begun-pos : (held : Life) → lives.holds u ≡ Some held → 0 < lives.begun u
  begun-pos held h = subst (OneBegun (lives.begun u)) h born

  lasts-now : (d : Dropping) → e ≡ entry.Last → lives.dropping p l ≡ Some d → d.unit ≡ u → m.waits u ≡ Nothing → Later
  lasts-now d q is hu k =
      let r = lasts-held d q is hu in
      let pos = begun-pos r.0 r.1 in
      let b : (lives_after p l e lives).begun u ≡ lives.begun u = ap (λ z. (lives_after p l z lives).begun u) q ∙ begun-same u p l entry.Last lives tt in
      let now : (lives_after p l e lives).dropping p l ≡ Some (record d { ended = maker_of (lives.holds d.unit) }) =
      ap (λ z. (lives_after p l z lives).dropping p l) q ∙ (ap (λ (x : Option Dropping). (answered_last p l x lives).dropping p l) is ∙ rw (eq-eqb p p refl, eq-eqb l l refl) refl) in
      Ends p l (record d { ended = maker_of (lives.holds d.unit) }) now hu (maker-some (lives.holds d.unit) r.0 (ap lives.holds hu ∙ r.1)) (r.2 ∙ sym b) (omega (arith, b, pos)) (ap (λ z. waits_after p z m u) q ∙ k)

  pub lives-step : is_some (lives.holds u) ≡ true → m.waits u ≡ Nothing → Does u p l e lives → Step
  lives-step h k (Gives life q) = absurd (held-not h (subst (λ z. LivesFit p l z lives) q lives-fit).none)
  lives-step h k (GivesAfter life x n q) = absurd (held-not h (subst (λ z. LivesFit p l z lives) q lives-fit).none)
  lives-step h k (Frees home q) = absurd (life-off h home (inl q))
  lives-step h k (Delays home q) = absurd (life-off h home (inr q))
  lives-step h k (Lasts d q is hu) = step-aside (subst (GivesOther u) (sym q) tt) (λ n. lasts-now d q is hu k)
  lives-step h k (Aside a nl) = step-aside (aside-gives u e a) (λ n. Lives (living-on u p l e lives a nl h) (idle-waits a (not-waiting k nothing-batch) ∙ k))

  -- ---- a drop has ended its life

  -- nothing of it lives but this drop
  no-life : (q j : ℕ) → 0 < times_at u (EndingPlace q j) w → lives.holds u ≡ None
  no-life q j lt = go (lives.holds u) refl
    where
      go : (x : Option Life) → lives.holds u ≡ x → lives.holds u ≡ None
      go None h = h
      go (Some x) h = absurd (living-ending q j (is-there u LivingPlace w one (in-life (ap (λ (x : Option Life). is_some x) h)) ∙ sym (is-there u (EndingPlace q j) w one lt)))

  freed-lifeless : (home life : ℕ) → lives.dropping p l ≡ Some (record { unit = u; life = life; ended = Some home }) → IsLifeless u (lives_after p l (entry.Free u home) lives)
  freed-lifeless home life is =
      let lt = in-ending p l _ is refl refl in
      record {
        none = no-life p l lt;
        ended = λ q j. elim (eqb_tells q p) [
          | inr y ↦ rw y.0 (elsewhere q j lt (λ s. y.1 s.0))
          | inl y ↦ elim (eqb_tells j l) [
            | inr z ↦ rw (y.0, z.0) (elsewhere q j lt (λ s. z.1 s.1))
            | inl z ↦ rw (y.0, z.0) refl
          ]
        ];
      }
    where
      elsewhere : (q j : ℕ) → 0 < times_at u (EndingPlace p l) w → ((q ≡ p) × (j ≡ l) → ⊥) → times u (ending (lives.dropping q j)) ≡ 0
      elsewhere q j lt ne = elim (counted (times u (ending (lives.dropping q j)))) [
        | inl some ↦ absurd (ne (ending-ending q j p l (is-there u (EndingPlace q j) w one some ∙ sym (is-there u (EndingPlace p l) w one lt))))
        | inr z ↦ z
      ]

  module _ (q j : ℕ) (d : Dropping) (is : lives.dropping q j ≡ Some d) (hu : d.unit ≡ u) (he : is_some d.ended ≡ true) (hl : d.life ≡ lives.begun u) (pos : 0 < lives.begun u) (k : m.waits u ≡ Nothing) where
    there-too : 0 < times_at u (EndingPlace q j) w
    there-too = in-ending q j d is hu he

    -- the free that follows names the life that was begun last
    freed-life : (home life : ℕ) → lives.dropping p l ≡ Some (record { unit = u; life = life; ended = Some home }) → life ≡ lives.begun u
    freed-life home life h =
        let s = ending-ending p l q j (is-there u (EndingPlace p l) w one (in-ending p l _ h refl refl) ∙ sym (is-there u (EndingPlace q j) w one there-too)) in
        let here : lives.dropping p l ≡ Some d = ap (λ a. lives.dropping a l) s.0 ∙ (ap (λ b. lives.dropping q b) s.1 ∙ is) in
        ap life_or (sym h ∙ here) ∙ hl

    own-two : (x y : Entry) (more : Log) → own_entries l ((l, x) ∷ (l, y) ∷ more) ≡ x ∷ y ∷ own_entries l more
    own-two x y more = rw (eq-eqb l l refl) refl

    freed-now : (home : ℕ) → e ≡ entry.Free u home → Later
    freed-now home q =
        let r = free-under home (inl q) in
        let under = unders l _ r.1 in
        let part : Log = (l, entry.Last) ∷ (l, e) ∷ part_of p o in
        let life = freed-life home r.0 r.1 in
        let b : (lives_after p l e lives).begun u ≡ lives.begun u = ap (λ z. (lives_after p l z lives).begun u) q ∙ begun-same u p l (entry.Free u home) lives tt in
        let own : own_entries l part ≡ entry.Last ∷ entry.Free u home ∷ own_entries l (part_of p o) = own-two entry.Last e (part_of p o) ∙ ap (λ z. entry.Last ∷ z ∷ own_entries l (part_of p o)) q in
        let plain : HasPlain u (lives.begun u) logs = record {
          processor = p;
          there = there;
          level = l;
          front = under.front;
          part = part;
          is = under.is ∙ ap (λ k. under.front ++ (l, entry.Drop u k) ∷ part) life;
          plain = ap (is_delayed u) own;
          ends = ap (ends_life u) own ∙ rw (eq-eqb u u refl) refl;
        } in
        Freed (subst (λ z. IsLifeless u (lives_after p l z lives)) (sym q) (freed-lifeless home r.0 r.1)) (ap (λ z. waits_after p z m u) q ∙ on-self u u Nothing m.waits refl) (omega (arith, b, pos)) (subst (λ j. HasPlain u j logs) (sym b) plain)

    delayed-now : (home : ℕ) → e ≡ entry.Delay u home → Later
    delayed-now home q =
        let r = free-under home (inr q) in
        let under = unders l _ r.1 in
        let part : Log = (l, entry.Last) ∷ (l, e) ∷ part_of p o in
        let life = freed-life home r.0 r.1 in
        let b : (lives_after p l e lives).begun u ≡ lives.begun u = ap (λ z. (lives_after p l z lives).begun u) q ∙ begun-same u p l (entry.Delay u home) lives tt in
        let own : own_entries l part ≡ entry.Last ∷ entry.Delay u home ∷ own_entries l (part_of p o) = own-two entry.Last e (part_of p o) ∙ ap (λ z. entry.Last ∷ z ∷ own_entries l (part_of p o)) q in
        let delay : HasDelay u (lives.begun u) logs part = record {
          processor = p;
          there = there;
          level = l;
          front = under.front;
          is = under.is ∙ ap (λ k. under.front ++ (l, entry.Drop u k) ∷ part) life;
          delayed = ap (is_delayed u) own ∙ rw (eq-eqb u u refl) refl;
        } in
        let goes : PutsDelayed u (own_entries l (part_of p o)) = (subst (λ z. ArePut (z ∷ own_entries l (part_of p o))) q puts).0 in
        let lists : w'.lists p ≡ next (w.lists p) (l, entry.Delay u home) = rw (eq-eqb p p refl) (ap (λ z. next (w.lists p) (l, z)) q) in
        let in_hand : 0 < times u ((next (w.lists p) (l, entry.Delay u home)).sides l).hand = rw (eq-eqb l l refl) (let a = times-append u ((w.lists p).sides l).hand (u ∷ []) in let c : times u (u ∷ []) ≡ 1 = rw (eq-eqb u u refl) refl in omega (arith, a, c)) in
        let says : (x n : ℕ) → BatchedAt u x n (part_of p o) → BatchedAt u x n part = subst (λ z. (x n : ℕ) → BatchedAt u x n (part_of p o) → BatchedAt u x n ((l, entry.Last) ∷ (l, z) ∷ part_of p o)) (sym q) (λ x n h. h) in
        Waits p part (ap (λ z. waits_after p z m u) q ∙ on-self u u Batch m.waits refl) (omega (arith, b, pos)) (subst (λ j. HasDelay u j logs part) (sym b) delay)
        (InHand l (subst (λ (s : State ℕ). 0 < times u (s.sides l).hand) (sym lists) in_hand) goes says)

    ends-stay : IsAside u e → (lives_after p l e lives).dropping q j ≡ Some d
    ends-stay a = elim (eqb_tells q p) [
      | inr y ↦ dropping-other p l q j e lives (rw y.0 refl) ∙ is
      | inl y ↦ elim (eqb_tells j l) [
        | inr z ↦ dropping-other p l q j e lives (rw (y.0, z.0) refl) ∙ is
        | inl z ↦
            (let here : lives.dropping p l ≡ Some d = ap (λ a. lives.dropping a l) (sym y.1) ∙ (ap (λ b. lives.dropping q b) (sym z.1) ∙ is) in
            ap (λ a. (lives_after p l e lives).dropping a j) y.1 ∙ (ap (λ b. (lives_after p l e lives).dropping p b) z.1 ∙ ending-stays u p l e lives d lives-fit here hu he a))
      ]
    ]

    pub ends-step : Does u p l e lives → Step
    ends-step (Gives life q) =
        let names : take 1 ((w.lists p).sides l).hand ≡ u ∷ [] = subst (λ z. Names l z (w.lists p)) q finds.lists in
        absurd (hand-ending p l _ _ (is-there u (Hand p l) w one (first-of-hand u ((w.lists p).sides l).hand names) ∙ sym (is-there u (EndingPlace _ _) w one there-too)))
    ends-step (GivesAfter life x n q) = absurd (nothing-over x n (sym k ∙ (after-seal life x n q).0))
    ends-step (Frees home q) = step-aside (subst (GivesOther u) (sym q) tt) (λ n. freed-now home q)
    ends-step (Delays home q) = step-aside (subst (GivesOther u) (sym q) tt) (λ n. delayed-now home q)
    ends-step (Lasts x q h xu) =
        let r = lasts-held x q h xu in
        absurd (some-none r.0 (sym r.1 ∙ no-life _ _ there-too))
    ends-step (Aside a nl) =
        let g = aside-gives u e a in
        let b = begun-same u p l e lives g in
        step-aside g (λ n. Ends q j d (ends-stay a) hu he (hl ∙ sym b) (omega (arith, b, pos)) (idle-waits a (not-waiting k nothing-batch) ∙ k))

  -- ---- it waits

  module _ (q : ℕ) (part : Log) (k : m.waits u ≡ Batch) (pos : 0 < lives.begun u) (delay : HasDelay u (lives.begun u) logs part) (before : Log) (stage : Stage u (w.lists q) (m.passed q) before part) where
    only : IsOnlyWith q u w
    only = only-with q u w one (stage-with u q w one (m.passed q) before part stage)

    lifeless : IsLifeless u lives
    lifeless = only-lifeless q u w only

    batch-not : (life x n : ℕ) → (e ≡ entry.Given u life) ⊎ (e ≡ entry.GivenAfter u life x n) → ⊥
    batch-not life x n (inl z) = nothing-batch (sym (given-seal life z) ∙ k)
    batch-not life x n (inr z) = batch-over x n (sym k ∙ (after-seal life x n z).0)

    -- another processor sends other units
    with-sends : (c : ℕ) (us hand first : List ℕ) → us ≡ sends hand first → 0 < times u us → (0 < times u hand) ⊎ (0 < times u first)
    with-sends c us [] first is lt = (let t = ap (times u) is in inr (omega (arith, t, lt)))
    with-sends c us (v ∷ vs) first is lt = (let t = ap (times u) is in inl (omega (arith, t, lt)))

    other-with : (c to : ℕ) (us : Units) → e ≡ entry.Send c to us → 0 < times u (unit_list us) → IsWith p u w
    other-with c to us z lt =
        let names = subst (λ x. Names l x (w.lists p)) z finds.lists in
        elim (with-sends c (unit_list us) ((w.lists p).sides l).hand ((w.lists p).rows c).deferred.first names.1 lt) [
          | inl h ↦ record { place = Hand p l; own = refl; named = h }
          | inr h ↦ record { place = Cache p c; own = refl; named = (let s = times-seven u ((w.lists p).rows c) in omega (arith, h, s)) }
        ]

    sends-off : q ≢ p → (c to : ℕ) (us : Units) → e ≡ entry.Send c to us → 0 < times u (unit_list us) → ⊥
    sends-off ne c to us z lt = only.others p (λ s. ne (sym s)) (other-with c to us z lt)

    later-waits : SendsAside u e m.waits → IsAside u e → waits_after p e m u ≡ Batch
    later-waits s a = waits-kept u p e m a s ∙ k

    now-waits : GivesOther u e → waits_after p e m u ≡ Batch → Stage u (w'.lists q) (m'.passed q) (part_of q o) part → Later
    now-waits g ws st =
        let b = begun-same u p l e lives g in
        Waits q part ws (omega (arith, b, pos)) (subst (λ j. HasDelay u j logs part) (sym b) delay) st

    passed-other : q ≢ p → m'.passed q ≡ m.passed q
    passed-other ne = elim (eqb_tells l 0) [ inl y ↦ rw (y.0, ne_eqb q p ne) refl | inr y ↦ rw y.0 refl ]

    passed-own : q ≡ p → m'.passed q ≡ passed_on l e (m.passed q)
    passed-own s = elim (eqb_tells l 0) [ inl y ↦ rw (y.0, eq-eqb q p s) refl | inr y ↦ rw y.0 refl ]

    pub other-step : q ≢ p → before ≡ part_of q o → Does u p l e lives → Step
    other-step ne is (Gives life z) = absurd (batch-not life 0 0 (inl z))
    other-step ne is (GivesAfter life x n z) = absurd (batch-not life x n (inr z))
    other-step ne is (Frees home z) = absurd (lifeless-off lifeless home (inl z))
    other-step ne is (Delays home z) = absurd (lifeless-off lifeless home (inr z))
    other-step ne is (Lasts d z h hu) = absurd (lifeless-last lifeless d z h hu)
    other-step ne is (Aside a nl) = step-aside (aside-gives u e a) (λ n.
        now-waits (aside-gives u e a) (later-waits (aside-sends n) a)
        (subst (λ (s : State ℕ). Stage u s (m'.passed q) (part_of q o) part) (sym (rw (ne_eqb q p ne) refl))
        (subst (λ b. Stage u (w.lists q) b (part_of q o) part) (sym (passed-other ne))
        (subst (λ b. Stage u (w.lists q) (m.passed q) b part) is stage))))
      where
        aside-sends : NotSweep e → SendsAside u e m.waits
        aside-sends n = go (calls u p l e w m finds fits n)
          where
            go : Calls u l e → SendsAside u e m.waits
            go (Sends c to us z lt) = absurd (sends-off ne c to us z lt)
            go (Calm c s) = s m.waits

    -- the processor itself
    pub own-step : q ≡ p → before ≡ (l, e) ∷ part_of q o → Does u p l e lives → Step
    own-step s is (Gives life z) = absurd (batch-not life 0 0 (inl z))
    own-step s is (GivesAfter life x n z) = absurd (batch-not life x n (inr z))
    own-step s is (Frees home z) = absurd (lifeless-off lifeless home (inl z))
    own-step s is (Delays home z) = absurd (lifeless-off lifeless home (inr z))
    own-step s is (Lasts d z h hu) = absurd (lifeless-last lifeless d z h hu)
    own-step s is (Aside a nl) = step-aside (aside-gives u e a) (λ n. own-goes n (calls u p l e w m finds fits n))
      where
        staged : Stage u (w.lists q) (m.passed q) ((l, e) ∷ part_of q o) part
        staged = subst (λ b. Stage u (w.lists q) (m.passed q) b part) is stage

        own-names : Names l e (w.lists q)
        own-names = subst (λ r. Names l e (w.lists r)) (sym s) finds.lists

        own-lists : w'.lists q ≡ next (w.lists q) (l, e)
        own-lists = rw (eq-eqb q p s) refl

        calm-goes : IsCalm u l e → SendsAside u e m.waits → Later
        calm-goes c sa = now-waits (aside-gives u e a) (later-waits sa a)
            (subst (λ (t : State ℕ). Stage u t (m'.passed q) (part_of q o) part) (sym own-lists)
            (subst (λ b. Stage u (next (w.lists q) (l, e)) b (part_of q o) part) (sym (passed-own s))
            (stage-on u l e (w.lists q) (m.passed q) (part_of q o) part own-names (sole u q w one) c staged)))

        -- its batch goes away
        gone : (c to : ℕ) (us : Units) → e ≡ entry.Send c to us → 0 < times u (unit_list us) → TakesBatch p l c m → Stage u (w.lists q) (m.passed q) ((l, e) ∷ part_of q o) part → Later
        gone c to us z lt_us b st =
            let lists : m.lists p ≡ w.lists q = same p ∙ ap w.lists (sym s) in
            let names = subst (λ x. Names l x (w.lists q)) z own-names in
            let hand : ((w.lists q).sides l).hand ≡ [] = ap (λ (t : State ℕ). (t.sides l).hand) (sym lists) ∙ b.hand in
            let takes : unit_list us ≡ ((w.lists q).rows c).deferred.first = names.1 ∙ ap (λ h. sends h ((w.lists q).rows c).deferred.first) hand in
            let first : 0 < times u ((w.lists q).rows c).deferred.first = (let t = ap (times u) takes in omega (arith, t, lt_us)) in
            let plain : ((w.lists q).rows c).deferred.plain ≡ Some b.stamp = ap (λ (t : State ℕ). (t.rows c).deferred.plain) (sym lists) ∙ b.stamped in
            let in_row_c : 0 < in_row u ((w.lists q).rows c) = (let r = (w.lists q).rows c in let i : times u r.deferred.first ≤ in_row u r = omega arith in omega (arith, first, i)) in
            go first plain in_row_c st
          where
            over-now : (x : ℕ) → ((m.lists p).rows c).deferred.plain ≡ Some x → m.passed p ≡ Some (c, b.seen) → waits_after p e m u ≡ Over x b.seen
            over-now x is seen =
                ap (λ y. waits_after p y m u) z
                ∙ (ap (λ o. waited c o (m.passed p) (unit_list us) m.waits u) is
                ∙ (ap (λ o. waited c (Some x) o (unit_list us) m.waits u) seen
                ∙ (rw (eq-eqb c c refl) refl
                ∙ all-gone x b.seen u (unit_list us) m.waits k lt_us)))

            waited-now : (x : ℕ) → ((m.lists p).rows c).deferred.plain ≡ Some x → (x ≤ b.seen → BatchedAt u x b.seen part) → Later
            waited-now x is f =
                let g = subst (GivesOther u) (sym z) tt in
                let n = begun-same u p l e lives g in
                Waited x b.seen part (lifeless-on u p l e lives lives-fit g lifeless) (over-now x is b.passed) (omega (arith, n, pos)) (subst (λ j. HasDelay u j logs part) (sym n) delay) f

            of-class : (d x : ℕ) → c ≡ d → ((w.lists q).rows d).deferred.plain ≡ Some x → ((w.lists q).rows c).deferred.plain ≡ Some b.stamp → b.stamp ≡ x
            of-class d x cd is plain = some-number b.stamp x (sym plain ∙ (ap (λ j. ((w.lists q).rows j).deferred.plain) cd ∙ is))

            go : 0 < times u ((w.lists q).rows c).deferred.first → ((w.lists q).rows c).deferred.plain ≡ Some b.stamp → 0 < in_row u ((w.lists q).rows c) → Stage u (w.lists q) (m.passed q) ((l, e) ∷ part_of q o) part → Later
            go first plain row (InHand j in_hand puts f) = absurd ((sole u q w one).apart c j row in_hand)
            go first plain row (InDelayed d waits f) =
                let cd = (sole u q w one).rows c d row (let r = (w.lists q).rows d in let i : waiting_in u r ≤ in_row u r = omega arith in omega (arith, waits, i)) in
                let moved : 0 < waiting_in u ((w.lists q).rows c) = subst (λ j. 0 < waiting_in u ((w.lists q).rows j)) (sym cd) waits in
                let most_once = once u q w one c in
                absurd (omega (arith, moved, first, most_once))
            go first plain row (InBatch d lt is f) =
                let cd = (sole u q w one).rows c d row (let r = (w.lists q).rows d in let i : times u r.deferred.first ≤ in_row u r = omega arith in omega (arith, lt, i)) in
                let zero_stamp = of-class d 0 cd is plain in
                let taken = b.taken in
                absurd (omega (arith, zero_stamp, taken))
            go first plain row (InStamped d x last lt is xpos agrees f) =
                let cd = (sole u q w one).rows c d row (let r = (w.lists q).rows d in let i : times u r.deferred.first ≤ in_row u r = omega arith in omega (arith, lt, i)) in
                let stamp_is = of-class d x cd is plain in
                let seen : told last ≡ Some (d, b.seen) = sym agrees ∙ (ap m.passed s ∙ (b.passed ∙ ap (λ j. Some (j, b.seen)) cd)) in
                let sends : sends_unit u e ≡ true = ap (sends_unit u) z ∙ holds-some u (unit_list us) lt_us in
                waited-now x (b.stamped ∙ ap Some stamp_is) (sent-in u l e (part_of q o) part d x b.seen last sends seen f)

        own-goes : NotSweep e → Calls u l e → Later
        own-goes n (Calm c sa) = calm-goes c (sa m.waits)
        own-goes n (Sends c to us z lt) = elim (subst (λ y. BatchFits p l y m) z fits) [
          | inl b ↦ gone c to us z lt b staged
          | inr none ↦ absurd (let t = not-among u (unit_list us) m.waits k none in omega (arith, t, lt))
        ]

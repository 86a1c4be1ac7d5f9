-- Classes that are swept, one after the other, and what stands before.
use Rattle.std.proofs.Common.{◌≡◌, ◌≢◌, ℕ, ◌%◌, ◌++◌, Bool, true, false, List, [], ◌∷◌, Option, Some, None, IfSome, refl, ◌∙◌, ap, subst, arith, eqb, eq-eqb, ne_eqb, inl, inr}
use Rattle.std.specs.List.{concat}
use Rattle.std.specs.Option.{option_map}
use Rattle.std.proofs.lemmas.Bool.{cases_eq}
use Rattle.bm_journal.specs.declared.counts.Counts.{Counts}
use Rattle.bm_journal.specs.declared.ids.Domain.{Domain}
use Rattle.bm_journal.specs.declared.ids.Domain.TheVariants.{Plain, Tracing}
use Rattle.bm_grace.specs.Known.{Known, Side, side}
use Rattle.bm_grace.specs.Calls.{changed}
use Rattle.bm_grace.specs.Rest.{MovesNumber}
use Rattle.bm_grace.specs.declared.step.TableStep.{TableStep}
use Rattle.bm_law.specs.Lists.{Log}
use Rattle.bm_law.specs.State.{State, Row, seen, seven_lists}
use Rattle.bm_law.specs.Stands.{times}
use Rattle.bm_law.proofs.Alone.{Alone-join, Alone-none}
use Rattle.bm_post.proofs.Counts.{zero-or-more}
use Rattle.bm_cache.specs.Placed.{Placed}
use Rattle.bm_cache.specs.Shown.{shown}
use Rattle.bm_cache.specs.Span.{Face}
use Rattle.bm_cache.specs.Tokens.{Token, number_of}
use Rattle.bm_cache.specs.declared.caches.Caches.{Caches}
use Rattle.bm_cache.proofs.Moments.{goes-join}
use Rattle.bm_law_work.specs.Grown.{GrewBy}
use Rattle.bm_law.specs.Inboxes.{Inboxes}
use Rattle.bm_law_work.specs.Parts.{Part, Then}
use Rattle.bm_law_work.proofs.Grown.{grew-none}
use Rattle.bm_work_lists.proofs.Grown.{grew-parts, grew-then}
use Rattle.bm_work.specs.Still.{alike-joined, alike-still}
use Rattle.bm_law_scenario.specs.Closing.{AreSweeps, SweepWhere}
use Rattle.bm_law_logs.specs.SweepsTold.{SweepsTold}
use Rattle.bm_closing.specs.Arrived.{emptied}
use Rattle.bm_closing.specs.Sweeps.{Sweeps}
use Rattle.bm_closing.specs.SweepsEach.{SweepsEach, all_emptied}

-- ---- domains

-- a call that changes one domain leaves the side of the other one
pub other-changed : (t : Bool) (d e : Domain) (s : Side) (steps : List TableStep) (k : Known) → e ≢ d → side e (changed t d s steps k) ≡ side e k
other-changed t Plain Plain s steps k ne = absurd (ne refl)
other-changed t Plain Tracing s steps k ne = refl
other-changed t Tracing Plain s steps k ne = refl
other-changed t Tracing Tracing s steps k ne = absurd (ne refl)

pub tracing-plain : Tracing ≢ Plain
tracing-plain e = cc

pub plain-tracing : Plain ≢ Tracing
plain-tracing e = cc

-- the number of the tracing domain has moved to an even one
pub rests-even : {W : Type 0} (rest : W → Domain → ℕ → Type 0) (v w : W) → ((d : Domain) → (n : ℕ) × (rest v d n × (n % 2 ≡ 0))) → ((n : ℕ) → n % 2 ≡ 0 → (m : ℕ) × ((m % 2 ≡ 0) × MovesNumber rest Tracing n m v w)) → (d : Domain) → (n : ℕ) × (rest w d n × (n % 2 ≡ 0))
rests-even rest v w h k Plain =
    let r = h Plain in
    let t = h Tracing in
    let m = k t.0 t.1.1 in
    (r.0, (m.1.1.other Plain r.0 plain-tracing r.1.0, r.1.1))
rests-even rest v w h k Tracing =
    let t = h Tracing in
    let m = k t.0 t.1.1 in
    (m.0, (m.1.1.moves t.1.0, m.1.0))

-- ---- inboxes

-- none was emptied
none-emptied : (o : Option Inboxes) → o ≡ option_map (all_emptied []) o
none-emptied None = refl
none-emptied (Some boxes) = refl

-- one was, and then the others
more-emptied : (c : ℕ) (cs : List ℕ) (o p q : Option Inboxes) → p ≡ option_map (emptied c) o → q ≡ option_map (all_emptied cs) p → q ≡ option_map (all_emptied (c ∷ cs)) o
more-emptied c cs None p q e f = f ∙ ap (option_map (all_emptied cs)) e
more-emptied c cs (Some boxes) p q e f = f ∙ ap (option_map (all_emptied cs)) e

-- ---- logs

module _ {R : Type 0} (log : R → Option Log) (counts : R → Counts) where
  -- a class was swept, and then the others
  told-more : (c : ℕ) (cs inbox : List ℕ) (x y : Caches R) (z : Option Log) (o p : Option Inboxes) → p ≡ option_map (emptied c) o → IfSome o (λ boxes. inbox ≡ concat (boxes c)) → IfSome o (λ boxes. inbox ≡ [] → boxes c ≡ []) → y.processor ≡ x.processor → Placed log counts x → Placed log counts y → GrewBy (SweepWhere c (seven_lists ((seen number_of (shown x)).rows c) ++ inbox)) (seen number_of (shown x)) (log x.recorder) (log y.recorder) → IfSome p (λ boxes. GrewBy (SweepsTold cs boxes) (seen number_of (shown y)) (log y.recorder) z) → IfSome o (λ boxes. GrewBy (SweepsTold (c ∷ cs) boxes) (seen number_of (shown x)) (log x.recorder) z)
  told-more c cs inbox x y z None p e held none same here there g h = tt
  told-more c cs inbox x y z (Some boxes) p e held none same here there g h =
      let s = seen number_of (shown x) in
      let P : List ℕ → Part = λ us. SweepWhere c (seven_lists (s.rows c) ++ us) in
      let F : List ℕ → Type 0 = λ us. GrewBy (P us) s (log x.recorder) (log y.recorder) in
      let G : Option Inboxes → Type 0 = λ q. IfSome q (λ b. GrewBy (SweepsTold cs b) (seen number_of (shown y)) (log y.recorder) z) in
      let second : GrewBy (SweepsTold cs (emptied c boxes)) (seen number_of (shown y)) (log y.recorder) z = subst G e h in
      let left : concat (boxes c) ≡ [] → boxes c ≡ [] = λ q. none (held ∙ q) in
      grew-parts log counts (P (concat (boxes c))) (SweepsTold cs (emptied c boxes)) (SweepsTold (c ∷ cs) boxes) x y z (λ one two i j. (left, record { one = one; two = two; part_is = refl; is_first = i; is_second = j })) same here there (subst F held g) second

  sweeps-more : (c : ℕ) (cs inbox : List ℕ) (x y : Caches R) (z : Option Log) → y.processor ≡ x.processor → Placed log counts x → Placed log counts y → GrewBy (SweepWhere c (seven_lists ((seen number_of (shown x)).rows c) ++ inbox)) (seen number_of (shown x)) (log x.recorder) (log y.recorder) → GrewBy (AreSweeps cs) (seen number_of (shown y)) (log y.recorder) z → GrewBy (AreSweeps (c ∷ cs)) (seen number_of (shown x)) (log x.recorder) z
  sweeps-more c cs inbox x y z same here there g h =
      let s = seen number_of (shown x) in
      grew-parts log counts (SweepWhere c (seven_lists (s.rows c) ++ inbox)) (AreSweeps cs) (AreSweeps (c ∷ cs)) x y z (λ one two i j. (inbox, record { one = one; two = two; part_is = refl; is_first = i; is_second = j })) same here there g h

  -- something else stands before, and the parcels are the same
  pub told-behind : (P : Part) (cs : List ℕ) (x y : Caches R) (z : Option Log) (o p : Option Inboxes) → p ≡ o → y.processor ≡ x.processor → Placed log counts x → Placed log counts y → GrewBy P (seen number_of (shown x)) (log x.recorder) (log y.recorder) → IfSome p (λ boxes. GrewBy (SweepsTold cs boxes) (seen number_of (shown y)) (log y.recorder) z) → IfSome o (λ boxes. GrewBy (Then P (SweepsTold cs boxes)) (seen number_of (shown x)) (log x.recorder) z)
  told-behind P cs x y z None p e same here there g h = tt
  told-behind P cs x y z (Some boxes) p e same here there g h =
      let G : Option Inboxes → Type 0 = λ q. IfSome q (λ b. GrewBy (SweepsTold cs b) (seen number_of (shown y)) (log y.recorder) z) in
      let second : GrewBy (SweepsTold cs boxes) (seen number_of (shown y)) (log y.recorder) z = subst G e h in
      grew-then log counts P (SweepsTold cs boxes) x y z same here there g second

-- ---- a desk

module _ {H R : Type 0} (log : R → Option Log) (faces : H → Face) (waits : H → ℕ) (stays : H → H → Type 0) (holds : H → Caches R) (known : H → Known) where
  none-told : (o : Option Inboxes) (s : State ℕ) (a : Option Log) → IfSome o (λ boxes. GrewBy (SweepsTold [] boxes) s a a)
  none-told None s a = tt
  none-told (Some boxes) s a = grew-none (SweepsTold [] boxes) s a refl

  -- no class
  pub each-none : (a : H) → stays a a → SweepsEach log faces waits stays holds known [] a a
  each-none a k = record {
    told = none-told (known a).parcels (seen number_of (shown (holds a))) (log (holds a).recorder);
    sweeps = grew-none (AreSweeps []) (seen number_of (shown (holds a))) (log (holds a).recorder) refl;
    alone = Alone-none 0 (log (holds a).recorder);
    none_left = none-emptied (known a).parcels;
    empty = λ c some. absurd (omega (arith, some));
    others = λ c none. refl;
    processor = refl;
    goes = record { face = refl; pending = omega arith; keeps = k };
    alike = alike-still (known a) (known a) refl;
    plain_begins = refl;
    tracing_begins = omega arith;
  }

  -- one class, and then the others
  pub each-more : (counts : R → Counts) (join : (a b c : H) → stays a b → stays b c → stays a c) (c : ℕ) (cs : List ℕ) (a b d : H) → Placed log counts (holds a) → Placed log counts (holds b) → Sweeps log faces waits stays holds known c a b → SweepsEach log faces waits stays holds known cs b d → SweepsEach log faces waits stays holds known (c ∷ cs) a d
  each-more counts join c cs a b d here there s r =
      let L : H → Option Log = λ h. log (holds h).recorder in
      record {
        told = told-more log counts c cs s.inbox (holds a) (holds b) (L d) (known a).parcels (known b).parcels s.none_left s.parcels s.none_waited s.processor here there s.phrase r.told;
        sweeps = sweeps-more log counts c cs s.inbox (holds a) (holds b) (L d) s.processor here there s.phrase r.sweeps;
        alone = Alone-join 0 (L a) (L b) (L d) s.alone r.alone;
        none_left = more-emptied c cs (known a).parcels (known b).parcels (known d).parcels s.none_left r.none_left;
        empty = λ k some. elim (zero-or-more (times k cs)) [
          | inr more ↦ r.empty k more
          | inl none ↦ elim (cases_eq k c) [
            | inl same ↦ ap (λ (x : Row Token). seven_lists x) (r.others k none) ∙ ap (λ (n : ℕ). seven_lists ((shown (holds b)).rows n)) same ∙ s.empty
            | inr ne ↦ (let e : eqb k c ≡ false = ne_eqb k c ne in let m = rw e at some in absurd (omega (arith, m, none)))
          ]
        ];
        others = λ k none. elim (cases_eq k c) [
          | inl same ↦ (let e : eqb k c ≡ true = eq-eqb k c same in let m = rw e at none in absurd (omega (arith, m)))
          | inr ne ↦ (let e : eqb k c ≡ false = ne_eqb k c ne in let m = rw e at none in r.others k (omega (arith, m)) ∙ s.others k ne)
        ];
        processor = r.processor ∙ s.processor;
        goes = goes-join join s.goes r.goes;
        alike = alike-joined (known a) (known b) (known d) s.alike r.alike;
        plain_begins = r.plain_begins ∙ s.plain_begins;
        tracing_begins = let p = s.tracing_begins in let q = r.tracing_begins in omega (arith, p, q);
      }

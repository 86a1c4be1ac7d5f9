-- Where sweeps stop for want of memory.
use Rattle.std.proofs.Common.{◌≡◌, ◌≢◌, ◌<◌, ◌≤◌, ◌++◌, ℕ, List, [], ◌∷◌, length, Option, None, Some, IfSome, refl, sym, ◌∙◌, ap, subst, arith, append-nil, append_assoc, inl, inr, eq-eqb, ne_eqb}
use Rattle.std.specs.List.{concat}
use Rattle.std.proofs.lemmas.List.{length-map}
use Rattle.bm_journal.specs.declared.counts.Counts.{Counts}
use Rattle.bm_journal.specs.declared.ids.Domain.TheVariants.{Tracing}
use Rattle.bm_journal.specs.declared.units.Units.TheVariants.{Whole}
use Rattle.bm_journal.specs.declared.entry.Entry.TheVariants as entry
use Rattle.bm_grace.specs.Known.{Known}
use Rattle.bm_law.specs.Alone.{Alone}
use Rattle.bm_law.specs.Inboxes.{Inboxes}
use Rattle.bm_law.specs.Lists.{Log, after}
use Rattle.bm_law.specs.State.{State, seen, seven_lists}
use Rattle.bm_law.proofs.Alone.{Alone-none, Records-adds}
use Rattle.bm_law.proofs.Folds.{after-append}
use Rattle.bm_post.specs.Rights.{numbers}
use Rattle.bm_cache.specs.Placed.{Placed}
use Rattle.bm_cache.specs.Shown.{shown}
use Rattle.bm_cache.specs.Span.{Face}
use Rattle.bm_cache.specs.Tokens.{Token, number_of}
use Rattle.bm_cache.specs.declared.caches.Caches.{Caches}
use Rattle.bm_law_work.specs.Grown.{GrewBy}
use Rattle.bm_law_work.specs.Parts.{Part, Say, Then}
use Rattle.bm_law_work.proofs.Grown.{grew-map, grew-none, grew-say}
use Rattle.bm_work_lists.proofs.Grown.{grew-parts}
use Rattle.bm_law_scenario.specs.Closing.{AreSweeps, SweepOf, SweepWhere}
use Rattle.bm_closing.specs.Gathered.{Gathered, gathering, swept}
use Rattle.bm_closing.specs.Stops.{ClassStop, LacksReturn, StopsEach, StopsSweep, SweepStop, Unreturned, in_lists}
use Rattle.bm_closing.specs.Sweeps.{Sweeps}
use Rattle.bm_closing.specs.declared.period.Waited.{Waited}
use Rattle.bm_closing.proofs.Classes.{each-more, each-none}
use Rattle.bm_closing.proofs.Sweeping.{batched}
use Rattle.bm_closing.proofs.Swept.{alone-adds, sweep-of, swept-named}

-- ---- its entries

-- nothing of it
stop-none : (c : ℕ) (ns : List ℕ) (s : State ℕ) → SweepStop c ns s []
stop-none c [] s = refl
stop-none c (n ∷ ns) s = inl refl

-- all but the return, where there are units
stop-some : (c : ℕ) (ns : List ℕ) (s : State ℕ) (part : Log) → 0 < length ns → Say 0 (LacksReturn c ns) s part → SweepStop c ns s part
stop-some c [] s part some h = absurd (omega (arith, some))
stop-some c (n ∷ ns) s part some h = inr h

-- a sweep stands before others, and before what follows these
sweep-behind : (c : ℕ) (inbox cs : List ℕ) (Q : Part) (s : State ℕ) (one two : Log) → SweepWhere c (seven_lists (s.rows c) ++ inbox) s one → Then (AreSweeps cs) Q (after s one) two → Then (AreSweeps (c ∷ cs)) Q s (one ++ two)
sweep-behind c inbox cs Q s one two i h =
    let F : State ℕ → Type 0 = λ t. Q t h.two in
    record {
      one = one ++ h.one;
      two = h.two;
      part_is = ap (λ (z : Log). one ++ z) h.part_is ∙ sym (append_assoc one h.one h.two);
      is_first = (inbox, record { one = one; two = h.one; part_is = refl; is_first = i; is_second = h.is_first });
      is_second = subst F (sym (after-append s one h.one)) h.is_second;
    }

-- ---- its units

batched-seven : (c : ℕ) (ns : List ℕ) (us : List Token) (x : ℕ) (s : State Token) → seven_lists ((batched c ns us x s).rows c) ≡ seven_lists (s.rows c) ++ us
batched-seven c ns us x s = rw (eq-eqb c c refl) refl

batched-others : (c : ℕ) (ns : List ℕ) (us : List Token) (x : ℕ) (s : State Token) (k : ℕ) → k ≢ c → (batched c ns us x s).rows k ≡ s.rows k
batched-others c ns us x s k d = rw (ne_eqb k c d) refl

-- those of an inbox that is told
abbrev inbox-told : ℕ → Option Inboxes → List ℕ
inbox-told c None = []
inbox-told c (Some boxes) = concat (boxes c)

is-told : (c : ℕ) (o : Option Inboxes) → IfSome o (λ boxes. inbox-told c o ≡ concat (boxes c))
is-told c None = tt
is-told c (Some boxes) = refl

-- a gathering that no return follows
pub unreturned : {R : Type 0} (log : R → Option Log) (counts : R → Counts) (c : ℕ) (us : List Token) (w : Waited) (a b : Caches R) → w.period.domain ≡ Tracing → w.stamp ≤ w.seen → Gathered log c us w a b → Placed log counts b → Unreturned log counts c us a b
unreturned {R} log counts c us w a b tracing le g p =
    let s = shown a in
    let ns = swept c us s in
    let own = gathering c ns w in
    let L : Caches R → Option Log = λ x. log x.recorder in
    let target = in_lists c s ++ numbers us in
    let F : List ℕ → Type 0 = λ xs. SweepOf c xs (own ++ entry.Return c (Whole xs) ∷ []) in
    let lists : shown b ≡ batched c ns us w.stamp s = g.lists in
    record {
      phrase = grew-say 0 (LacksReturn c target) own (seen number_of s) (L a) (L b) (Records-adds 0 own (L a) (L b) g.gained) (subst F (swept-named c us s) (sweep-of c ns w tracing le));
      alone = alone-adds 0 own (L a) (L b) g.gained;
      placed = p;
      kept = ap (λ (t : State Token). seven_lists (t.rows c)) lists ∙ batched-seven c ns us w.stamp s;
      others = λ k d. ap (λ (t : State Token). t.rows k) lists ∙ batched-others c ns us w.stamp s k d;
      processor = g.processor;
    }

-- ---- a desk

module _ {H R : Type 0} (log : R → Option Log) (counts : R → Counts) (faces : H → Face) (holds : H → Caches R) (known : H → Known) where
  -- the caches are as they were
  pub stops-before : (c : ℕ) (a b : H) → holds b ≡ holds a → Placed log counts (holds a) → StopsSweep log counts faces holds known c a b
  stops-before c a b e p =
      let s = shown (holds a) in
      let told = inbox-told c (known a).parcels in
      let P = SweepStop c (in_lists c s ++ told) in
      let x = log (holds a).recorder in
      let G : Caches R → Type 0 = λ y. GrewBy P (seen number_of s) x (log y.recorder) in
      let A : Caches R → Type 0 = λ y. Alone 0 x (log y.recorder) in
      let F : Caches R → Type 0 = λ y. Placed log counts y in
      record {
        inbox = told;
        stopped = record {
          phrase = subst G (sym e) (grew-none P (seen number_of s) x (stop-none c (in_lists c s ++ told) (seen number_of s)));
          placed = subst F (sym e) p;
        };
        alone = subst A (sym e) (Alone-none 0 x);
        parcels = is-told c (known a).parcels;
        came = [];
        none_or_all = inl refl;
        kept = ap (λ (y : Caches R). seven_lists ((shown y).rows c)) e ∙ sym (append-nil (seven_lists (s.rows c)));
        others = λ k d. ap (λ (y : Caches R). (shown y).rows k) e;
        processor = ap (λ (y : Caches R). y.processor) e;
      }

  -- the units were swept, and stand in the lists
  pub stops-swept : (c : ℕ) (us : List Token) (a d f : H) → holds d ≡ holds a → IfSome (known a).parcels (λ boxes. numbers us ≡ concat (boxes c)) → 0 < length (seven_lists ((shown (holds d)).rows c) ++ us) → Unreturned log counts c us (holds d) (holds f) → StopsSweep log counts faces holds known c a f
  stops-swept c us a d f e told some u =
      let U : Caches R → Type 0 = λ y. Unreturned log counts c us y (holds f) in
      let v : U (holds a) = subst U e u in
      let s = shown (holds a) in
      let S : Caches R → Type 0 = λ y. 0 < length (seven_lists ((shown y).rows c) ++ us) in
      let there : S (holds a) = subst S e some in
      let target = in_lists c s ++ numbers us in
      let n : length target ≡ length (seven_lists (s.rows c) ++ us) = ap length (sym (swept-named c us s)) ∙ length-map (seven_lists (s.rows c) ++ us) number_of in
      let t = seen number_of s in
      record {
        inbox = numbers us;
        stopped = record {
          phrase = grew-map (Say 0 (LacksReturn c target)) (SweepStop c target) t (log (holds a).recorder) (log (holds f).recorder) (λ part. stop-some c target t part (omega (arith, there, n))) v.phrase;
          placed = v.placed;
        };
        alone = v.alone;
        parcels = told;
        came = us;
        none_or_all = inr refl;
        kept = v.kept;
        others = v.others;
        processor = v.processor;
      }

  module _ (waits : H → ℕ) (stays : H → H → Type 0) where
    -- the first of these classes
    pub stops-first : (c : ℕ) (cs : List ℕ) (a b : H) → stays a a → Placed log counts (holds a) → StopsSweep log counts faces holds known c a b → StopsEach log counts faces waits stays holds known (c ∷ cs) a b
    stops-first c cs a b same here s =
        let t = seen number_of (shown (holds a)) in
        let P = SweepStop c (seven_lists (t.rows c) ++ s.inbox) in
        let Q = Then (AreSweeps []) (ClassStop c) in
        record {
          done = [];
          class = c;
          left = cs;
          classes_are = refl;
          stopped = record {
            phrase = grew-map P Q t (log (holds a).recorder) (log (holds b).recorder) (λ part h. record { one = []; two = part; part_is = refl; is_first = refl; is_second = (s.inbox, h) }) s.stopped.phrase;
            placed = s.stopped.placed;
          };
          middle = a;
          sweeps = each-none log faces waits stays holds known a same;
          stops = s;
        }

    -- one of the others, behind the sweep of the first
    pub stops-later : ((a b c : H) → stays a b → stays b c → stays a c) → (c : ℕ) (cs : List ℕ) (a b d : H) → Placed log counts (holds a) → Placed log counts (holds b) → Sweeps log faces waits stays holds known c a b → StopsEach log counts faces waits stays holds known cs b d → StopsEach log counts faces waits stays holds known (c ∷ cs) a d
    stops-later join c cs a b d here there s r =
        let t = seen number_of (shown (holds a)) in
        let P = SweepWhere c (seven_lists (t.rows c) ++ s.inbox) in
        let Q = Then (AreSweeps r.done) (ClassStop r.class) in
        let W = Then (AreSweeps (c ∷ r.done)) (ClassStop r.class) in
        record {
          done = c ∷ r.done;
          class = r.class;
          left = r.left;
          classes_are = ap (λ (ks : List ℕ). c ∷ ks) r.classes_are;
          stopped = record {
            phrase = grew-parts log counts P Q W (holds a) (holds b) (log (holds d).recorder) (λ one two i j. sweep-behind c s.inbox r.done (ClassStop r.class) t one two i j) s.processor here there s.phrase r.stopped.phrase;
            placed = r.stopped.placed;
          };
          middle = r.middle;
          sweeps = each-more log faces waits stays holds known counts join c r.done a b r.middle here there s r.sweeps;
          stops = r.stops;
        }

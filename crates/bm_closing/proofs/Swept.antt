-- A whole sweep of a class.
use Rattle.std.proofs.Common.{◌≡◌, ◌≢◌, ◌<◌, ◌≤◌, ◌+◌, ◌++◌, ℕ, false, List, [], ◌∷◌, length, map, Option, None, Some, IfSome, refl, sym, ◌∙◌, ap, subst, arith, inl, inr, eq-eqb, ne_eqb}
use Rattle.std.specs.List.{concat}
use Rattle.std.proofs.lemmas.List.{map-append, length-map}
use Rattle.bm_journal.specs.declared.ids.Domain.TheVariants.{Tracing}
use Rattle.bm_journal.specs.declared.units.Units.TheVariants.{Whole}
use Rattle.bm_journal.specs.declared.entry.Entry.{Entry}
use Rattle.bm_journal.specs.declared.entry.Entry.TheVariants as entry
use Rattle.bm_page.specs.UnitState.{UnitState}
use Rattle.bm_grace.specs.Known.{Known, Sides}
use Rattle.bm_grace.specs.Rights.{Rights}
use Rattle.bm_law.specs.Alone.{AllAt, Adds, Alone, at_level}
use Rattle.bm_law.specs.Effect.{effect}
use Rattle.bm_law.specs.Lists.{Log}
use Rattle.bm_law.specs.State.{State, seen, seven_lists}
use Rattle.bm_law.specs.Stands.{stands, times}
use Rattle.bm_law.specs.SweepPhrases.{PollPhrase}
use Rattle.bm_law.proofs.Alone.{Adds-join, Alone-none, Records-adds}
use Rattle.bm_law.proofs.Seen.{map-seven}
use Rattle.bm_law.proofs.Stands.{times-append}
use Rattle.bm_post.specs.Rights.{Loses, numbers}
use Rattle.bm_post.proofs.Counts.{zero-or-more}
use Rattle.bm_cache.specs.Shown.{shown}
use Rattle.bm_cache.specs.Span.{Face, Goes}
use Rattle.bm_cache.specs.Tokens.{Token, number_of}
use Rattle.bm_cache.specs.declared.caches.Caches.{Caches}
use Rattle.bm_cache.proofs.Moments.{goes-join}
use Rattle.bm_law_work.specs.Grown.{GrewBy}
use Rattle.bm_law_work.specs.Parts.{Say}
use Rattle.bm_law_work.proofs.Grown.{grew-map, grew-none, grew-say}
use Rattle.bm_work.specs.Goes.{Alike}
use Rattle.bm_work.specs.Still.{alike-joined}
use Rattle.bm_law_scenario.specs.Closing.{SweepOf, SweepWhere}
use Rattle.bm_closing.specs.Arrived.{Arrived, Came}
use Rattle.bm_closing.specs.Emptied.{Emptied}
use Rattle.bm_closing.specs.Gathered.{Gathered, gathering, swept}
use Rattle.bm_closing.specs.SentBack.{SentBack}
use Rattle.bm_closing.specs.Swept.{Swept}
use Rattle.bm_closing.specs.Sweeps.{Sweeps}
use Rattle.bm_closing.specs.declared.period.Waited.{Waited}
use Rattle.bm_closing.proofs.AtEnds.{alike-graces}
use Rattle.bm_closing.proofs.Sweeping.{batched, batched-second}

-- ---- its entries

-- a gathering and a return are a sweep
pub sweep-of : (c : ℕ) (ns : List ℕ) (w : Waited) → w.period.domain ≡ Tracing → w.stamp ≤ w.seen → SweepOf c ns (gathering c ns w ++ entry.Return c (Whole ns) ∷ [])
sweep-of c ns w d le =
    let begun : List Entry = entry.Begin Tracing w.begun ∷ entry.Finish w.period ∷ [] in
    let poll : List Entry = entry.Begin Tracing w.begun ∷ entry.Finish w.period ∷ entry.Pass c Tracing w.seen ∷ [] in
    let polls : PollPhrase c Tracing poll = record {
      ended = [];
      begun = begun;
      seen = w.seen;
      own_is = refl;
      may_finish = inl refl;
      may_begin = inr (w.begun, entry.Finish w.period ∷ [], refl, inr (entry.Finish w.period, refl, (w.period, d, refl)));
    } in
    record {
      phrase = record { swept = ns; returned = ns; stamp = w.stamp; poll = poll; own_is = refl; polls = polls };
      taken = refl;
      waited = le;
      given = refl;
    }

-- entries that were added are of one level
level-at : (l : ℕ) (v : List Entry) → AllAt l (at_level l v)
level-at l [] = tt
level-at l (e ∷ v) = (refl, level-at l v)

pub alone-adds : (l : ℕ) (own : List Entry) (a b : Option Log) → Adds l own a b → Alone l a b
alone-adds l own a None h = tt
alone-adds l own a (Some now) h = record { log = h.log; told = h.told; added = at_level l own; now_is = h.now_is; at = level-at l own }

-- a sweep stands where there are units
where-some : (c : ℕ) (ns : List ℕ) (s : State ℕ) (part : Log) → 0 < length ns → Say 0 (SweepOf c ns) s part → SweepWhere c ns s part
where-some c [] s part some h = absurd (omega (arith, some))
where-some c (n ∷ ns) s part some h = h

where-none : (c : ℕ) (ns : List ℕ) (s : State ℕ) → ns ≡ [] → SweepWhere c ns s []
where-none c ns s e = let F : List ℕ → Type 0 = λ ms. SweepWhere c ms s [] in subst F (sym e) refl

-- ---- its units

-- they are named by the numbers of the lists and then of those that came
pub swept-named : (c : ℕ) (us : List Token) (s : State Token) → swept c us s ≡ seven_lists ((seen number_of s).rows c) ++ numbers us
swept-named c us s = map-append number_of (seven_lists (s.rows c)) us ∙ ap (λ (x : List ℕ). x ++ map number_of us) (map-seven number_of (s.rows c))

-- the lists afterwards
returned-empty : (c x : ℕ) (ns ms : List ℕ) (us : List Token) (s : State Token) → seven_lists ((effect 0 (entry.Return c (Whole ms)) [] (batched c ns us x s)).rows c) ≡ []
returned-empty c x ns ms us s = rw (eq-eqb c c refl) refl

returned-others : (c x : ℕ) (ns ms : List ℕ) (us : List Token) (s : State Token) (k : ℕ) → k ≢ c → (effect 0 (entry.Return c (Whole ms)) [] (batched c ns us x s)).rows k ≡ s.rows k
returned-others c x ns ms us s k d = rw (ne_eqb k c d) refl

-- ---- a desk

module _ {H R : Type 0} (log : R → Option Log) (faces : H → Face) (waits : H → ℕ) (stays : H → H → Type 0) (holds : H → Caches R) (known : H → Known) (join : (a b c : H) → stays a b → stays b c → stays a c) where
  -- the units became a batch, and went back
  pub swept-of : (c : ℕ) (us : List UnitState) (w : Waited) (a b d : H) → w.period.domain ≡ Tracing → w.stamp ≤ w.seen → Gathered log c us w (holds a) (holds b) → SentBack log c (holds b) (holds d) → Goes faces waits stays a b → Goes faces waits stays b d → Alike (known a) (known b) → Alike (known b) (known d) → (known b).parcels ≡ (known a).parcels → (known d).parcels ≡ (known b).parcels → (known d).grace ≡ (known b).grace → (known b).grace.plain.begins ≡ (known a).grace.plain.begins → (known a).grace.tracing.begins ≤ (known b).grace.tracing.begins + 1 → Swept log faces waits stays holds known c us a d
  swept-of c us w a b d tracing le g r go1 go2 k1 k2 p1 p2 same plain begins =
      let s = shown (holds a) in
      let L : H → Option Log = λ h. log (holds h).recorder in
      let ns = swept c us s in
      let ms = map number_of ((shown (holds b)).rows c).deferred.second in
      let back : List Entry = entry.Return c (Whole ns) ∷ [] in
      let e : ms ≡ ns = ap (λ (t : State Token). map number_of (t.rows c).deferred.second) g.lists ∙ ap (map number_of) (batched-second c ns us w.stamp s) in
      let F : List ℕ → Type 0 = λ xs. Adds 0 (entry.Return c (Whole xs) ∷ []) (L b) (L d) in
      let adds : Adds 0 (gathering c ns w ++ back) (L a) (L d) = Adds-join 0 (gathering c ns w) back (L a) (L b) (L d) g.gained (subst F e r.gained) in
      let G : List ℕ → Type 0 = λ xs. SweepOf c xs (gathering c ns w ++ back) in
      let target = seven_lists ((seen number_of s).rows c) ++ numbers us in
      let lists : shown (holds d) ≡ effect 0 (entry.Return c (Whole ms)) [] (batched c ns us w.stamp s) = r.lists ∙ ap (effect 0 (entry.Return c (Whole ms)) []) g.lists in
      record {
        phrase = grew-say 0 (SweepOf c target) (gathering c ns w ++ back) (seen number_of s) (L a) (L d) (Records-adds 0 (gathering c ns w ++ back) (L a) (L d) adds) (subst G (swept-named c us s) (sweep-of c ns w tracing le));
        alone = alone-adds 0 (gathering c ns w ++ back) (L a) (L d) adds;
        empty = ap (λ (t : State Token). seven_lists (t.rows c)) lists ∙ returned-empty c w.stamp ns ms us s;
        others = λ k n. ap (λ (t : State Token). t.rows k) lists ∙ returned-others c w.stamp ns ms us s k n;
        processor = r.processor ∙ g.processor;
        goes = goes-join join go1 go2;
        alike = alike-joined (known a) (known b) (known d) k1 k2;
        parcels = p2 ∙ p1;
        plain_begins = ap (λ (x : Sides). x.plain.begins) same ∙ plain;
        tracing_begins = let t = ap (λ (x : Sides). x.tracing.begins) same in omega (arith, t, begins);
      }

  module _ (rights : H → Rights) where
    -- the inbox was emptied, and then the caches were asked
    pub emptied-still : (c : ℕ) (us : List UnitState) (a b d : H) → holds d ≡ holds b → known d ≡ known b → rights d ≡ rights b → Goes faces waits stays b d → Emptied faces waits stays holds known rights c us a b → Emptied faces waits stays holds known rights c us a d
    emptied-still c us a b d p q r go e =
        let A : Rights → Type 0 = λ x. Arrived c x us in
        let C : Rights → Known → Type 0 = λ x k. Came c [] us (rights a) x (known a) k in
        let P : Caches R → Type 0 = λ x. (n : ℕ) → stands n (seen number_of (shown x)) + times n (numbers us) ≤ 1 in
        record {
          held = p ∙ e.held;
          arrived = subst A (sym r) e.arrived;
          came = subst (λ x. C x (known d)) (sym r) (subst (C (rights b)) (sym q) e.came);
          apart = subst P (sym p) e.apart;
          goes = goes-join join e.goes go;
        }

    module _ (c : ℕ) (us : List UnitState) (a b : H) (e : Emptied faces waits stays holds known rights c us a b) where
      -- the units that came are all that was told
      all-came : ◌≡◌ {A = List UnitState} e.came.came us
      all-came = sym e.came.units_are

      pub told-came : IfSome (known a).parcels (λ boxes. numbers us ≡ concat (boxes c))
      told-came = let F : List UnitState → Type 0 = λ vs. IfSome (known a).parcels (λ boxes. numbers vs ≡ concat (boxes c)) in subst F all-came e.came.parcels

      none-told : IfSome (known a).parcels (λ boxes. numbers us ≡ [] → boxes c ≡ [])
      none-told = let F : List UnitState → Type 0 = λ vs. IfSome (known a).parcels (λ boxes. numbers vs ≡ [] → boxes c ≡ []) in subst F all-came e.came.none_came

      came-alike : Alike (known a) (known b)
      came-alike = alike-graces (known a) (known b) e.came.grace e.came.objects

      -- there were units, and they were swept
      pub sweeps-some : (d : H) → 0 < length (seven_lists ((shown (holds b)).rows c) ++ us) → Swept log faces waits stays holds known c us b d → Sweeps log faces waits stays holds known c a d
      sweeps-some d some s =
          let L : H → Option Log = λ h. log (holds h).recorder in
          let t = seen number_of (shown (holds b)) in
          let target = seven_lists (t.rows c) ++ numbers us in
          let n : length target ≡ length (seven_lists ((shown (holds b)).rows c) ++ us) = ap length (sym (swept-named c us (shown (holds b)))) ∙ length-map (seven_lists ((shown (holds b)).rows c) ++ us) number_of in
          let f : (part : Log) → Say 0 (SweepOf c target) t part → SweepWhere c target t part = λ part. where-some c target t part (omega (arith, some, n)) in
          let P : Caches R → Type 0 = λ x. GrewBy (SweepWhere c (seven_lists ((seen number_of (shown x)).rows c) ++ numbers us)) (seen number_of (shown x)) (log x.recorder) (L d) in
          let A : Caches R → Type 0 = λ x. Alone 0 (log x.recorder) (L d) in
          let O : Caches R → Type 0 = λ x. (k : ℕ) → k ≢ c → (shown (holds d)).rows k ≡ (shown x).rows k in
          record {
            inbox = numbers us;
            phrase = subst P e.held (grew-map (Say 0 (SweepOf c target)) (SweepWhere c target) t (L b) (L d) f s.phrase);
            alone = subst A e.held s.alone;
            parcels = told-came;
            none_waited = none-told;
            none_left = s.parcels ∙ e.came.none_left;
            empty = s.empty;
            others = subst O e.held s.others;
            processor = s.processor ∙ ap (λ (x : Caches R). x.processor) e.held;
            goes = goes-join join e.goes s.goes;
            alike = alike-joined (known a) (known b) (known d) came-alike s.alike;
            plain_begins = s.plain_begins ∙ ap (λ (x : Sides). x.plain.begins) e.came.grace;
            tracing_begins = let q = ap (λ (x : Sides). x.tracing.begins) e.came.grace in let m = s.tracing_begins in omega (arith, q, m);
          }

      -- there were none
      pub sweeps-none : seven_lists ((shown (holds b)).rows c) ≡ [] → us ≡ [] → Sweeps log faces waits stays holds known c a b
      sweeps-none lists none =
          let L : H → Option Log = λ h. log (holds h).recorder in
          let t = seen number_of (shown (holds b)) in
          let target = seven_lists (t.rows c) ++ numbers us in
          let z : target ≡ [] = sym (swept-named c us (shown (holds b))) ∙ ap (λ (x : List Token). map number_of (x ++ us)) lists ∙ ap (map number_of) none in
          let P : Caches R → Type 0 = λ x. GrewBy (SweepWhere c (seven_lists ((seen number_of (shown x)).rows c) ++ numbers us)) (seen number_of (shown x)) (log x.recorder) (L b) in
          let A : Caches R → Type 0 = λ x. Alone 0 (log x.recorder) (L b) in
          record {
            inbox = numbers us;
            phrase = subst P e.held (grew-none (SweepWhere c target) t (L b) (where-none c target t z));
            alone = subst A e.held (Alone-none 0 (L b));
            parcels = told-came;
            none_waited = none-told;
            none_left = e.came.none_left;
            empty = lists;
            others = λ k n. ap (λ (x : Caches R). (shown x).rows k) e.held;
            processor = ap (λ (x : Caches R). x.processor) e.held;
            goes = e.goes;
            alike = came-alike;
            plain_begins = ap (λ (x : Sides). x.plain.begins) e.came.grace;
            tracing_begins = let q = ap (λ (x : Sides). x.tracing.begins) e.came.grace in omega (arith, q);
          }

-- ---- whose the units are

two-lists : (n : ℕ) (us vs : List Token) → times n (map number_of (us ++ vs)) ≡ times n (map number_of us) + times n (map number_of vs)
two-lists n us vs = ap (times n) (map-append number_of us vs) ∙ times-append n (map number_of us) (map number_of vs)

pub all-gone : (c : ℕ) (xs us : List Token) (r q t : Rights) (k m : Known) → Came c [] us r q k m → Loses (map number_of (xs ++ us)) q t → Loses (map number_of xs) r t
all-gone c xs us r q t k m came l =
    let e : ◌≡◌ {A = List Token} came.came us = sym came.units_are in
    let F : List Token → Type 0 = λ vs. (n : ℕ) → 0 < times n (map number_of vs) → r.mine n ≡ false in
    let G : List Token → Type 0 = λ vs. (n : ℕ) → times n (map number_of vs) ≡ 0 → q.mine n ≡ r.mine n in
    let fresh : (n : ℕ) → 0 < times n (map number_of us) → r.mine n ≡ false = subst F e came.fresh in
    let others : (n : ℕ) → times n (map number_of us) ≡ 0 → q.mine n ≡ r.mine n = subst G e came.others in
    record {
      are_gone = λ n some. (let b = two-lists n xs us in l.are_gone n (omega (arith, some, b)));
      others = λ n none. elim (zero-or-more (times n (map number_of us))) [
        | inl lack ↦ (let b = two-lists n xs us in l.others n (omega (arith, none, lack, b)) ∙ others n lack)
        | inr some ↦ (let b = two-lists n xs us in l.are_gone n (omega (arith, some, b)) ∙ sym (fresh n some))
      ];
    }

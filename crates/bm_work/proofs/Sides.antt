-- Calls of the side, and what is made of calls.
use Rattle.std.proofs.Common.{Result, Ok, Err, OnOk, OnErr, ◌≡◌, ◌≤◌, Bool, true, false, ℕ, ◌+◌, ◌++◌, List, [], Option, refl, sym, ◌∙◌, ap, subst, arith}
use Rattle.bm_journal.specs.declared.counts.Counts.{Counts}
use Rattle.bm_grace.specs.Known.{Known, Sides}
use Rattle.bm_grace.specs.Rights.{Rights, Ages}
use Rattle.bm_law.specs.Lists.{Log, after}
use Rattle.bm_law.specs.State.{State, seen}
use Rattle.bm_cache.specs.Tokens.{Token, number_of}
use Rattle.bm_cache.specs.Tests.{Tests, Passes, Proper}
use Rattle.bm_cache.specs.Shown.{shown}
use Rattle.bm_cache.specs.Placed.{Placed}
use Rattle.bm_cache.specs.Span.{Face, Fine, Goes, RaisesNone}
use Rattle.bm_cache.specs.declared.caches.Caches.{Caches}
use Rattle.bm_cache.proofs.Flags.{raises-none-join, raises-none-same}
use Rattle.bm_cache.proofs.Moments.{goes-join}
use Rattle.bm_cache.proofs.Unbroken.{unbroken-join, unbroken-same}
use Rattle.bm_journal.specs.declared.entry.Entry.{Entry}
use Rattle.bm_law.specs.Spans.{own_entries}
use Rattle.bm_law.proofs.Spans.{from-append, own-append}
use Rattle.bm_law_work.specs.Parts.{Part, Nothing, Say, Stand, Then}
use Rattle.bm_work_lists.specs.Grown.{GrewBy}
use Rattle.bm_work_lists.proofs.Grown.{grew-map, grew-none, grew-parts}
use Rattle.bm_work.specs.Dated.{Dated}
use Rattle.bm_work.specs.Onward.{Onward}
use Rattle.bm_work.specs.Works.{Stands, Called, Posted, Stopped, Works}
use Rattle.bm_work.specs.Goes.{Alike}
use Rattle.bm_work.specs.DeskTests.{tests_by}
use Rattle.bm_work.proofs.Onward.{fine-on, dated-on}
use Rattle.std.specs.List.{All}
use Rattle.bm_work.proofs.Tests.{ages-onward}

-- nothing has changed
pub alike-same : (k : Known) → Alike k k
alike-same k = record { processors = refl; processor = refl; words = λ d. refl; objects = refl }

pub ages-same : (r : Rights) → Ages r r
ages-same r = record { mine = λ n. refl; settled = λ n i s. refl; due = λ n i s. refl; ripe = λ n i s h. h; since = λ d x n h. h }

-- what an answer tells, by what it tells
pub on-ok : {T E P Q : Type 0} (r : Result T E) → (P → Q) → OnOk r P → OnOk r Q
on-ok (Ok t) f h = f h
on-ok (Err e) f h = tt

pub on-err : {T E P Q : Type 0} (r : Result T E) → (P → Q) → OnErr r P → OnErr r Q
on-err (Ok t) f h = tt
on-err (Err e) f h = f h

pub on-err-any : {T E X : Type 0} (r : Result T E) → X → OnErr r X
on-err-any (Ok t) x = tt
on-err-any (Err e) x = x

pub on-err-both : {T E P Q X : Type 0} (r : Result T E) → (P → Q → X) → OnErr r P → OnErr r Q → OnErr r X
on-err-both (Ok t) f h k = tt
on-err-both (Err e) f h k = f h k

-- tests that are as they were go on
pub onward-same : (a b : Tests) → b ≡ a → Onward [] a b
onward-same a b e = λ k n life seal z h. ap (λ (t : Tests). t k n life seal) e ∙ h

-- while rights age, tests go on
pub aged-tests : {H : Type 0} (tests : H → Tests) (rights : H → Rights) → ((h : H) → tests h ≡ tests_by (rights h)) → (a b : H) → Ages (rights a) (rights b) → Onward [] (tests a) (tests b)
aged-tests {H} tests rights are a b r = subst (λ t. Onward [] t (tests b)) (sym (are a)) (subst (λ t. Onward [] (tests_by (rights a)) t) (sym (are b)) (ages-onward (rights a) (rights b) [] r))

module _ {H R : Type 0} (log : R → Option Log) (counts : R → Counts) (sound : H → Type 0) (tests : H → Tests) (faces : H → Face) (holds : H → Caches R) where
  -- what a call needs stands while the side changes so that tests go on
  pub stands-side : (h k : H) → holds k ≡ holds h → faces k ≡ faces h → sound k → Onward [] (tests h) (tests k) → Stands log counts sound tests faces holds h → Stands log counts sound tests faces holds k
  stands-side h k p q f o s =
      let F : Face → Caches R → Type 0 = λ g c. Fine log counts (tests k) g.processors (g.level + 1) c in
      let D : Caches R → Type 0 = λ c. Dated (tests k) (shown c) in
      record {
        sound = f;
        fine = subst (λ g. F g (holds k)) (sym q) (subst (F (faces h)) (sym p) (fine-on log counts (tests h) (tests k) (faces h).processors ((faces h).level + 1) (holds h) o s.fine));
        dated = subst D (sym p) (dated-on (tests h) (tests k) (shown (holds h)) o s.dated);
      }

module _ {H R : Type 0} (log : R → Option Log) (counts : R → Counts) (faces : H → Face) (waits : H → ℕ) (stays : H → H → Type 0) (holds : H → Caches R) (known : H → Known) (join : (a b c : H) → stays a b → stays b c → stays a c) where
  -- two calls, one after the other, from these lists
  pub works-join-at : (p t p' t' : ℕ) (P Q W : ℕ → Part) (a b c : H) → ((l : ℕ) (one two : Log) → P l (seen number_of (shown (holds a))) one → Q l (after (seen number_of (shown (holds a))) one) two → W l (seen number_of (shown (holds a))) (one ++ two)) → Placed log counts (holds a) → Placed log counts (holds b) → Works log faces waits stays holds known p t P a b → Works log faces waits stays holds known p' t' Q b c → Works log faces waits stays holds known (p + p') (t + t') W a c
  works-join-at p t p' t' P Q W a b c f x y v w =
      let l = (faces a).level in
      let e : (faces b).level ≡ l = ap (λ (z : Face). z.level) v.goes.face in
      let q : GrewBy (Q l) (seen number_of (shown (holds b))) (log (holds b).recorder) (log (holds c).recorder) = subst (λ k. GrewBy (Q k) (seen number_of (shown (holds b))) (log (holds b).recorder) (log (holds c).recorder)) e w.phrase in
      record {
        phrase = grew-parts log counts (P l) (Q l) (W l) (holds a) (holds b) (log (holds c).recorder) (f l) v.processor x y v.phrase q;
        goes = goes-join join v.goes w.goes;
        alone = unbroken-join v.goes w.goes v.alone w.alone;
        flags = raises-none-join v.goes w.goes v.flags w.flags;
        processor = w.processor ∙ v.processor;
        active = λ k. w.active k ∙ v.active k;
        plain_begins = omega (arith, v.plain_begins, w.plain_begins);
        tracing_begins = omega (arith, v.tracing_begins, w.tracing_begins);
        same_side = w.same_side ∙ v.same_side;
      }

  -- two calls, one after the other
  pub works-join : (p t p' t' : ℕ) (P Q W : ℕ → Part) (a b c : H) → ((l : ℕ) (s : State ℕ) (one two : Log) → P l s one → Q l (after s one) two → W l s (one ++ two)) → Placed log counts (holds a) → Placed log counts (holds b) → Works log faces waits stays holds known p t P a b → Works log faces waits stays holds known p' t' Q b c → Works log faces waits stays holds known (p + p') (t + t') W a c
  works-join p t p' t' P Q W a b c f = works-join-at p t p' t' P Q W a b c (λ l. f l (seen number_of (shown (holds a))))

  pub works-then : (p t p' t' : ℕ) (P Q : ℕ → Part) (a b c : H) → Placed log counts (holds a) → Placed log counts (holds b) → Works log faces waits stays holds known p t P a b → Works log faces waits stays holds known p' t' Q b c → Works log faces waits stays holds known (p + p') (t + t') (λ l. Then (P l) (Q l)) a c
  works-then p t p' t' P Q a b c = works-join p t p' t' P Q (λ l. Then (P l) (Q l)) a b c (λ l s one two i j. record { one = one; two = two; part_is = refl; is_first = i; is_second = j })

module _ {H R : Type 0} (log : R → Option Log) (counts : R → Counts) (faces : H → Face) (waits : H → ℕ) (stays : H → H → Type 0) (holds : H → Caches R) (known : H → Known) (rights : H → Rights) where
  -- a call of the side records nothing
  pub works-called : (p t : ℕ) (a b : H) → Called faces waits stays holds known rights p t a b → Works log faces waits stays holds known p t (λ l. Nothing) a b
  works-called p t a b c =
      let e = c.held in
      let s = seen number_of (shown (holds a)) in
      let G : Caches R → Type 0 = λ x. GrewBy Nothing s (log (holds a).recorder) (log x.recorder) in
      record {
        phrase = subst G (sym e) (grew-none Nothing s (log (holds a).recorder) refl);
        goes = record { face = c.face; pending = omega (arith, c.pending); keeps = c.stays };
        alone = unbroken-same faces waits holds log a b e;
        flags = raises-none-same waits holds a b e;
        processor = ap (λ (x : Caches R). x.processor) e;
        active = λ k. ap (λ (x : Caches R). ((shown x).rows k).active) e;
        plain_begins = c.plain_begins;
        tracing_begins = c.tracing_begins;
        same_side = c.same_side;
      }

  -- more periods may have begun
  pub works-at-most : (p t p' t' : ℕ) (P : ℕ → Part) (a b : H) → p ≤ p' → t ≤ t' → Works log faces waits stays holds known p t P a b → Works log faces waits stays holds known p' t' P a b
  works-at-most p t p' t' P a b h k w = record { phrase = w.phrase; goes = w.goes; alone = w.alone; flags = w.flags; processor = w.processor; active = w.active; plain_begins = omega (arith, w.plain_begins, h); tracing_begins = omega (arith, w.tracing_begins, k); same_side = w.same_side }

-- a call, and then one that stops for want of memory
pub works-stopped : {H R : Type 0} (log : R → Option Log) (counts : R → Counts) (faces : H → Face) (waits : H → ℕ) (stays : H → H → Type 0) (holds : H → Caches R) (known : H → Known) (p t : ℕ) (P Q W : ℕ → Part) (a b c : H) → ((l : ℕ) (s : State ℕ) (one two : Log) → P l s one → Q l (after s one) two → W l s (one ++ two)) → Placed log counts (holds a) → Placed log counts (holds b) → Works log faces waits stays holds known p t P a b → Stopped log counts faces holds Q b c → Stopped log counts faces holds W a c
works-stopped {H} {R} log counts faces waits stays holds known p t P Q W a b c f x y v w =
    let l = (faces a).level in
    let e : (faces b).level ≡ l = ap (λ (z : Face). z.level) v.goes.face in
    let S = seen number_of (shown (holds a)) in
    let q : GrewBy (Q l) (seen number_of (shown (holds b))) (log (holds b).recorder) (log (holds c).recorder) = subst (λ k. GrewBy (Q k) (seen number_of (shown (holds b))) (log (holds b).recorder) (log (holds c).recorder)) e w.phrase in
    record {
      phrase = grew-parts log counts (P l) (Q l) (W l) (holds a) (holds b) (log (holds c).recorder) (f l S) v.processor x y v.phrase q;
      placed = w.placed;
    }

-- the same, from these lists
pub works-stopped-at : {H R : Type 0} (log : R → Option Log) (counts : R → Counts) (faces : H → Face) (waits : H → ℕ) (stays : H → H → Type 0) (holds : H → Caches R) (known : H → Known) (p t : ℕ) (P Q W : ℕ → Part) (a b c : H) → ((l : ℕ) (one two : Log) → P l (seen number_of (shown (holds a))) one → Q l (after (seen number_of (shown (holds a))) one) two → W l (seen number_of (shown (holds a))) (one ++ two)) → Placed log counts (holds a) → Placed log counts (holds b) → Works log faces waits stays holds known p t P a b → Stopped log counts faces holds Q b c → Stopped log counts faces holds W a c
works-stopped-at {H} {R} log counts faces waits stays holds known p t P Q W a b c f x y v w =
    let l = (faces a).level in
    let e : (faces b).level ≡ l = ap (λ (z : Face). z.level) v.goes.face in
    let q : GrewBy (Q l) (seen number_of (shown (holds b))) (log (holds b).recorder) (log (holds c).recorder) = subst (λ k. GrewBy (Q k) (seen number_of (shown (holds b))) (log (holds b).recorder) (log (holds c).recorder)) e w.phrase in
    record {
      phrase = grew-parts log counts (P l) (Q l) (W l) (holds a) (holds b) (log (holds c).recorder) (f l) v.processor x y v.phrase q;
      placed = w.placed;
    }

-- a call that records no more than handlers did, as one that stops
pub stopped-of : {H R : Type 0} (log : R → Option Log) (counts : R → Counts) (faces : H → Face) (waits : H → ℕ) (stays : H → H → Type 0) (holds : H → Caches R) (known : H → Known) (p t : ℕ) (P : ℕ → Part) (a b : H) → Works log faces waits stays holds known p t P a b → Placed log counts (holds b) → Stopped log counts faces holds P a b
stopped-of log counts faces waits stays holds known p t P a b w h = record { phrase = w.phrase; placed = h }

-- a part that is another one too, from these lists
pub works-map-at : {H R : Type 0} (log : R → Option Log) (faces : H → Face) (waits : H → ℕ) (stays : H → H → Type 0) (holds : H → Caches R) (known : H → Known) (p t : ℕ) (P Q : ℕ → Part) (a b : H) → ((l : ℕ) (part : Log) → P l (seen number_of (shown (holds a))) part → Q l (seen number_of (shown (holds a))) part) → Works log faces waits stays holds known p t P a b → Works log faces waits stays holds known p t Q a b
works-map-at log faces waits stays holds known p t P Q a b f w =
    let l = (faces a).level in
    let s = seen number_of (shown (holds a)) in
    record { phrase = grew-map (P l) (Q l) s (log (holds a).recorder) (log (holds b).recorder) (f l) w.phrase; goes = w.goes; alone = w.alone; flags = w.flags; processor = w.processor; active = w.active; plain_begins = w.plain_begins; tracing_begins = w.tracing_begins; same_side = w.same_side }

-- a part that is another one too, from these lists and at the desk's level
pub works-map-here : {H R : Type 0} (log : R → Option Log) (faces : H → Face) (waits : H → ℕ) (stays : H → H → Type 0) (holds : H → Caches R) (known : H → Known) (p t : ℕ) (P Q : ℕ → Part) (a b : H) → ((part : Log) → P (faces a).level (seen number_of (shown (holds a))) part → Q (faces a).level (seen number_of (shown (holds a))) part) → Works log faces waits stays holds known p t P a b → Works log faces waits stays holds known p t Q a b
works-map-here log faces waits stays holds known p t P Q a b f w =
    let l = (faces a).level in
    let s = seen number_of (shown (holds a)) in
    record { phrase = grew-map (P l) (Q l) s (log (holds a).recorder) (log (holds b).recorder) f w.phrase; goes = w.goes; alone = w.alone; flags = w.flags; processor = w.processor; active = w.active; plain_begins = w.plain_begins; tracing_begins = w.tracing_begins; same_side = w.same_side }

-- a part that is another one too
pub works-map : {H R : Type 0} (log : R → Option Log) (faces : H → Face) (waits : H → ℕ) (stays : H → H → Type 0) (holds : H → Caches R) (known : H → Known) (p t : ℕ) (P Q : ℕ → Part) (a b : H) → ((l : ℕ) (s : State ℕ) (part : Log) → P l s part → Q l s part) → Works log faces waits stays holds known p t P a b → Works log faces waits stays holds known p t Q a b
works-map log faces waits stays holds known p t P Q a b f w =
    let l = (faces a).level in
    let s = seen number_of (shown (holds a)) in
    record { phrase = grew-map (P l) (Q l) s (log (holds a).recorder) (log (holds b).recorder) (f l s) w.phrase; goes = w.goes; alone = w.alone; flags = w.flags; processor = w.processor; active = w.active; plain_begins = w.plain_begins; tracing_begins = w.tracing_begins; same_side = w.same_side }

-- nothing was done, where that is such a part
pub works-still : {H R : Type 0} (log : R → Option Log) (faces : H → Face) (waits : H → ℕ) (stays : H → H → Type 0) (holds : H → Caches R) (known : H → Known) (P : ℕ → Part) (a : H) → stays a a → ((l : ℕ) → P l (seen number_of (shown (holds a))) []) → Works log faces waits stays holds known 0 0 P a a
works-still log faces waits stays holds known P a k h = record {
  phrase = grew-none (P (faces a).level) (seen number_of (shown (holds a))) (log (holds a).recorder) (h (faces a).level);
  goes = record { face = refl; pending = omega (arith); keeps = k };
  alone = unbroken-same faces waits holds log a a refl;
  flags = raises-none-same waits holds a a refl;
  processor = refl;
  active = λ i. refl;
  plain_begins = omega (arith);
  tracing_begins = omega (arith);
  same_side = refl;
}

-- the same at the desk's level
pub works-still-here : {H R : Type 0} (log : R → Option Log) (faces : H → Face) (waits : H → ℕ) (stays : H → H → Type 0) (holds : H → Caches R) (known : H → Known) (P : ℕ → Part) (a : H) → stays a a → P (faces a).level (seen number_of (shown (holds a))) [] → Works log faces waits stays holds known 0 0 P a a
works-still-here log faces waits stays holds known P a k h = record {
  phrase = grew-none (P (faces a).level) (seen number_of (shown (holds a))) (log (holds a).recorder) h;
  goes = record { face = refl; pending = omega (arith); keeps = k };
  alone = unbroken-same faces waits holds log a a refl;
  flags = raises-none-same waits holds a a refl;
  processor = refl;
  active = λ i. refl;
  plain_begins = omega (arith);
  tracing_begins = omega (arith);
  same_side = refl;
}

-- a flag that is down stays down where no handler ran
pub flag-down : {H R : Type 0} {waits : H → ℕ} {holds : H → Caches R} {a b : H} (c : ℕ) → RaisesNone waits holds a b → waits b ≡ waits a → ((shown (holds a)).rows c).raised ≡ false → ((shown (holds b)).rows c).raised ≡ false
flag-down {H} {R} {waits} {holds} {a} {b} c r e d = pick ((shown (holds b)).rows c).raised refl
  where
    pick : (x : Bool) → ((shown (holds b)).rows c).raised ≡ x → ((shown (holds b)).rows c).raised ≡ false
    pick false p = p
    pick true p = let q : ((shown (holds a)).rows c).raised ≡ true = r.flags e c p in absurd (cc)

-- nothing, and then a part
pub nothing-first : (Q : Part) (s : State ℕ) (one two : Log) → Nothing s one → Q (after s one) two → Q s (one ++ two)
nothing-first Q s one two e h =
    let F : Log → Type 0 = λ x. Q (after s x) two → Q s (x ++ two) in
    subst F (sym e) (λ k. k) h

module _ {H R : Type 0} (log : R → Option Log) (counts : R → Counts) (faces : H → Face) (waits : H → ℕ) (stays : H → H → Type 0) (holds : H → Caches R) (known : H → Known) (rights : H → Rights) (join : (a b c : H) → stays a b → stays b c → stays a c) where
  -- a call of the side, and then another call
  pub called-works : (p t p' t' : ℕ) (Q : ℕ → Part) (a b c : H) → Placed log counts (holds a) → Placed log counts (holds b) → Called faces waits stays holds known rights p t a b → Works log faces waits stays holds known p' t' Q b c → Works log faces waits stays holds known (p + p') (t + t') Q a c
  called-works p t p' t' Q a b c x y h w = works-join log counts faces waits stays holds known join p t p' t' (λ l. Nothing) Q Q a b c (λ l s one two i k. nothing-first (Q l) s one two i k) x y (works-called log counts faces waits stays holds known rights p t a b h) w

module _ {H R : Type 0} (log : R → Option Log) (counts : R → Counts) (faces : H → Face) (waits : H → ℕ) (stays : H → H → Type 0) (holds : H → Caches R) (known : H → Known) (tests : H → Tests) (join : (a b c : H) → stays a b → stays b c → stays a c) where
  -- a call of the post records nothing
  works-kept : (gone : List ℕ) (a b : H) → Posted faces waits stays holds known tests gone a b → Works log faces waits stays holds known 0 0 (λ l. Nothing) a b
  works-kept gone a b h =
      let e = h.held in
      let s = seen number_of (shown (holds a)) in
      let G : Caches R → Type 0 = λ z. GrewBy Nothing s (log (holds a).recorder) (log z.recorder) in
      record {
        phrase = subst G (sym e) (grew-none Nothing s (log (holds a).recorder) refl);
        goes = record { face = h.face; pending = omega (arith, h.pending); keeps = h.stays };
        alone = unbroken-same faces waits holds log a b e;
        flags = raises-none-same waits holds a b e;
        processor = ap (λ (z : Caches R). z.processor) e;
        active = λ k. ap (λ (z : Caches R). ((shown z).rows k).active) e;
        plain_begins = omega (arith, ap (λ (z : Sides). z.plain.begins) h.known_is);
        tracing_begins = omega (arith, ap (λ (z : Sides). z.tracing.begins) h.known_is);
        same_side = ap (λ (z : Sides). z.processor) h.known_is;
      }

  -- such a call of the post, and then another call
  pub posted-works : (gone : List ℕ) (p t : ℕ) (Q : ℕ → Part) (a b c : H) → Placed log counts (holds a) → Placed log counts (holds b) → Posted faces waits stays holds known tests gone a b → Works log faces waits stays holds known p t Q b c → Works log faces waits stays holds known p t Q a c
  posted-works gone p t Q a b c x y h w =
      let r = works-join log counts faces waits stays holds known join 0 0 p t (λ l. Nothing) Q Q a b c (λ l s one two i k. nothing-first (Q l) s one two i k) x y (works-kept gone a b h) w in
      record { phrase = r.phrase; goes = r.goes; alone = r.alone; flags = r.flags; processor = r.processor; active = r.active; plain_begins = omega (arith, r.plain_begins); tracing_begins = omega (arith, r.tracing_begins); same_side = r.same_side }

  -- another call, and then such a one of the post
  pub works-posted : (gone : List ℕ) (p t : ℕ) (P : ℕ → Part) (a b c : H) → Works log faces waits stays holds known p t P a b → Posted faces waits stays holds known tests gone b c → Works log faces waits stays holds known p t P a c
  works-posted gone p t P a b c w h =
      let e = h.held in
      let l = (faces a).level in
      let G : Caches R → Type 0 = λ z. GrewBy (P l) (seen number_of (shown (holds a))) (log (holds a).recorder) (log z.recorder) in
      let g : Goes faces waits stays b c = record { face = h.face; pending = omega (arith, h.pending); keeps = h.stays } in
      record {
        phrase = subst G (sym e) w.phrase;
        goes = goes-join join w.goes g;
        alone = unbroken-join w.goes g w.alone (unbroken-same faces waits holds log b c e);
        flags = raises-none-join w.goes g w.flags (raises-none-same waits holds b c e);
        processor = ap (λ (z : Caches R). z.processor) e ∙ w.processor;
        active = λ k. ap (λ (z : Caches R). ((shown z).rows k).active) e ∙ w.active k;
        plain_begins = omega (arith, w.plain_begins, ap (λ (z : Sides). z.plain.begins) h.known_is);
        tracing_begins = omega (arith, w.tracing_begins, ap (λ (z : Sides). z.tracing.begins) h.known_is);
        same_side = ap (λ (z : Sides). z.processor) h.known_is ∙ w.same_side;
      }

  -- such a call of the post, and then one that stops
  pub posted-stopped : (gone : List ℕ) (Q : ℕ → Part) (a b c : H) → Placed log counts (holds a) → Placed log counts (holds b) → Posted faces waits stays holds known tests gone a b → Stopped log counts faces holds Q b c → Stopped log counts faces holds Q a c
  posted-stopped gone Q a b c x y h w = works-stopped log counts faces waits stays holds known 0 0 (λ l. Nothing) Q Q a b c (λ l s one two i k. nothing-first (Q l) s one two i k) x y (works-kept gone a b h) w

-- entries of one's own, one stretch after the other
pub stand-join : (l : ℕ) (v w : List Entry) (s t : State ℕ) (one two : Log) → Stand l v s one → Stand l w t two → Stand l (v ++ w) s (one ++ two)
stand-join l v w s t one two h k = record { from = from-append l one two h.from k.from; own_is = own-append l one two ∙ ap (λ z. z ++ own_entries l two) h.own_is ∙ ap (λ z. v ++ z) k.own_is }

pub say-join : (l : ℕ) (P Q W : List Entry → Type 0) (s t : State ℕ) (one two : Log) → ((v w : List Entry) → P v → Q w → W (v ++ w)) → Say l P s one → Say l Q t two → Say l W s (one ++ two)
say-join l P Q W s t one two f h k = (h.0 ++ k.0, f h.0 k.0 h.1 k.1, stand-join l h.0 k.0 s t one two h.2 k.2)

module _ {H R W : Type 0} (log : R → Option Log) (counts : R → Counts) (sound : H → Type 0) (tests : H → Tests) (faces : H → Face) (holds : H → Caches R) (shared : H → W) (with_shared : H → W → H) (known : W → Known) (rights : W → Rights) (back : (h : H) (w : W) → shared (with_shared h w) ≡ w) (held : (h : H) (w : W) → holds (with_shared h w) ≡ holds h) (face : (h : H) (w : W) → Alike (known (shared h)) (known w) → faces (with_shared h w) ≡ faces h) (sounds : (h : H) (w : W) → Alike (known (shared h)) (known w) → sound h → sound (with_shared h w)) (are : (h : H) → tests h ≡ tests_by (rights (shared h))) where
  -- the tests that a desk tells, while the rights go on
  pub tests-shared : (gone : List ℕ) (h : H) (v w : W) → v ≡ shared h → Onward gone (tests_by (rights v)) (tests_by (rights w)) → Onward gone (tests h) (tests (with_shared h w))
  tests-shared gone h v w e o =
      let a : tests h ≡ tests_by (rights v) = are h ∙ ap (λ x. tests_by (rights x)) (sym e) in
      let b : tests (with_shared h w) ≡ tests_by (rights w) = are (with_shared h w) ∙ ap (λ x. tests_by (rights x)) (back h w) in
      subst (λ t. Onward gone t (tests (with_shared h w))) (sym a) (subst (λ t. Onward gone (tests_by (rights v)) t) (sym b) o)

  -- the side was called, and the rights have aged
  pub stands-called : (h : H) (v w : W) → v ≡ shared h → Alike (known v) (known w) → Ages (rights v) (rights w) → Stands log counts sound tests faces holds h → Stands log counts sound tests faces holds (with_shared h w)
  stands-called h v w e a r s =
      let a' : Alike (known (shared h)) (known w) = subst (λ x. Alike (known x) (known w)) e a in
      stands-side log counts sound tests faces holds h (with_shared h w) (held h w) (face h w a') (sounds h w a' s.sound) (tests-shared [] h v w e (ages-onward (rights v) (rights w) [] r)) s

  -- a post's call was made, and tests go on
  pub stands-posted : (h : H) (v w : W) → v ≡ shared h → Alike (known v) (known w) → Onward [] (tests_by (rights v)) (tests_by (rights w)) → Stands log counts sound tests faces holds h → Stands log counts sound tests faces holds (with_shared h w)
  stands-posted h v w e a o s =
      let a' : Alike (known (shared h)) (known w) = subst (λ x. Alike (known x) (known w)) e a in
      stands-side log counts sound tests faces holds h (with_shared h w) (held h w) (face h w a') (sounds h w a' s.sound) (tests-shared [] h v w e o) s

  -- units stand where they suit, by the rights
  pub proper-shared : (h : H) (v : W) → v ≡ shared h → Proper (tests h) (shown (holds h)) → Proper (tests_by (rights v)) (shown (holds h))
  proper-shared h v e p = subst (λ t. Proper t (shown (holds h))) (are h ∙ ap (λ x. tests_by (rights x)) (sym e)) p

  -- what is true of units by the rights is true by the tests
  pub passes-shared : (k : ℕ) (us : List Token) (h : H) (w : W) → All (Passes (tests_by (rights w)) k) us → All (Passes (tests (with_shared h w)) k) us
  passes-shared k us h w a = let F : Tests → Type 0 = λ t. All (Passes t k) us in subst F (sym (are (with_shared h w) ∙ ap (λ x. tests_by (rights x)) (back h w))) a

  -- the same, where what the side knows now is told by an equation
  pub stands-knows : (h : H) (v w : W) (k : Known) → v ≡ shared h → known w ≡ k → Alike (known v) k → Ages (rights v) (rights w) → Stands log counts sound tests faces holds h → Stands log counts sound tests faces holds (with_shared h w)
  stands-knows h v w k e q a r s = stands-called h v w e (subst (λ x. Alike (known v) x) (sym q) a) r s

  -- the side was asked, and is as it was
  pub stands-asked : (h : H) (w : W) → w ≡ shared h → Stands log counts sound tests faces holds h → Stands log counts sound tests faces holds (with_shared h w)
  stands-asked h w e s = stands-called h w w e (alike-same (known w)) (ages-same (rights w)) s

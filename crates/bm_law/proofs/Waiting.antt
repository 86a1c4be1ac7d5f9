-- The free counts after an entry.
use Rattle.std.proofs.Common.{◌≡◌, ◌≢◌, ◌<◌, ℕ, ◌+◌, ◌-◌, ◌++◌, false, List, [], ◌∷◌, length, take, drop, reverse, refl, sym, ◌∙◌, ap, arith, eqb, cond, eq-eqb, ne_eqb, inl, inr}
use Rattle.std.proofs.lemmas.List.{length-append, length-reverse}
use Rattle.std.proofs.lemmas.Bool.Decides.{eqb_tells, leb_tells}
use Rattle.bm_journal.specs.declared.entry.Entry.{Entry}
use Rattle.bm_journal.specs.declared.entry.Entry.TheVariants as entry
use Rattle.bm_law.specs.declared.mark.Mark.{Mark}
use Rattle.bm_law.specs.declared.mark.Mark.TheVariants as mark
use Rattle.bm_law.specs.State.{Row, Side, State, opening, with_row, with_side, seen}
use Rattle.bm_law.specs.Effect.{effect, sent}
use Rattle.bm_law.specs.Lists.{CountsTo}
use Rattle.bm_law.specs.Stands.{sum_to}
use Rattle.bm_law.specs.Waiting.{took, gave, pops_waiting, pushes_waiting, Agrees, CountsAgree, is_waiting, Steady}
use Rattle.bm_law.specs.Kept.{Kept, Ready}
use Rattle.bm_law.proofs.Stands.{sum-same, sum-update}

module _ {A : Type 0} where
  -- a level's mark changes
  pub pops-side : (k l : ℕ) (h : Side A) (s : State A) → l < 4 → pops_waiting k (with_side l h s) + took k (s.sides l).mark ≡ pops_waiting k s + took k h.mark
  unfolding pops_waiting
  pops-side k l h s m =
      let g : ℕ → ℕ = λ j. took k (s.sides j).mark in
      let g' : ℕ → ℕ = λ j. took k (cond (eqb j l) h (s.sides j)).mark in
      let e : (j : ℕ) → j ≢ l → g' j ≡ g j = λ j d. rw (ne_eqb j l d) refl in
      let here : g' l ≡ took k h.mark = rw (eq-eqb l l refl) refl in
      sum-update 4 l g g' m e ∙ ap (λ x. sum_to 4 g + x) here

  pub pushes-side : (k l : ℕ) (h : Side A) (s : State A) → l < 4 → pushes_waiting k (with_side l h s) + gave k (s.sides l).mark ≡ pushes_waiting k s + gave k h.mark
  unfolding pushes_waiting
  pushes-side k l h s m =
      let g : ℕ → ℕ = λ j. gave k (s.sides j).mark in
      let g' : ℕ → ℕ = λ j. gave k (cond (eqb j l) h (s.sides j)).mark in
      let e : (j : ℕ) → j ≢ l → g' j ≡ g j = λ j d. rw (ne_eqb j l d) refl in
      let here : g' l ≡ gave k h.mark = rw (eq-eqb l l refl) refl in
      sum-update 4 l g g' m e ∙ ap (λ x. sum_to 4 g + x) here

  pub pops-row : (k c : ℕ) (r : Row A) (s : State A) → pops_waiting k (with_row c r s) ≡ pops_waiting k s
  unfolding pops_waiting
  pops-row k c r s = refl

  pub pushes-row : (k c : ℕ) (r : Row A) (s : State A) → pushes_waiting k (with_row c r s) ≡ pushes_waiting k s
  unfolding pushes_waiting
  pushes-row k c r s = refl

-- a level that waits for no count
quiet-took : (k : ℕ) (m : Mark) → is_waiting m ≡ false → took k m ≡ 0
quiet-took k mark.Quiet h = refl
quiet-took k (mark.Bound home delayed) h = refl
quiet-took k (mark.Took d) h = absurd (cc)
quiet-took k (mark.Gave d) h = refl
quiet-took k (mark.Saw d n) h = refl
quiet-took k (mark.SawDelayed d n) h = refl

quiet-gave : (k : ℕ) (m : Mark) → is_waiting m ≡ false → gave k m ≡ 0
quiet-gave k mark.Quiet h = refl
quiet-gave k (mark.Bound home delayed) h = refl
quiet-gave k (mark.Took d) h = refl
quiet-gave k (mark.Gave d) h = absurd (cc)
quiet-gave k (mark.Saw d n) h = refl
quiet-gave k (mark.SawDelayed d n) h = refl

cancel : (x y a b : ℕ) → x + a ≡ y + b → b ≡ a → x ≡ y
cancel x y a b e p = omega (arith, e, p)

one-less : {A : Type 0} (xs : List A) → 0 < length xs → length (drop 1 xs) + 1 ≡ length xs
one-less [] h = absurd (omega (arith, h))
one-less (x ∷ xs) h = omega arith

one-more : {A : Type 0} (hand xs : List A) → 0 < length hand → length (take 1 hand ++ xs) ≡ length xs + 1
one-more [] xs h = absurd (omega (arith, h))
one-more (x ∷ hand) xs h = omega arith

one-here : (c : ℕ) → ◌≡◌ {A = ℕ} (cond (eqb c c) 1 0) 1
one-here c = rw (eq-eqb c c refl) refl

not-here : (k c d : ℕ) → k ≢ c → d ≡ c → ◌≡◌ {A = ℕ} (cond (eqb d k) 1 0) 0
not-here k c d n e = rw (ne_eqb d k (λ q. n (sym q ∙ e))) refl

-- the mark that a count ends is one of its class
counts-others : (k c n m : ℕ) (w : Mark) → k ≢ c → CountsTo w c n m → (0 ≡ took k w) × (0 ≡ gave k w)
counts-others k c n m (mark.Took d) h t = (sym (not-here k c d h t.0), refl)
counts-others k c n m (mark.Gave d) h t = (refl, sym (not-here k c d h t.0))
counts-others k c n m mark.Quiet h t = absurd t
counts-others k c n m (mark.Bound home delayed) h t = absurd t
counts-others k c n m (mark.Saw d j) h t = absurd t
counts-others k c n m (mark.SawDelayed d j) h t = absurd t

same-count : (x y a b : ℕ) → x + a ≡ y + b → a ≡ 0 → b ≡ 0 → x ≡ y
same-count x y a b e p q = omega (arith, e, p, q)

module _ {A : Type 0} where
  agrees-at : (p p' q q' : ℕ) (r : Row A) → p ≡ p' → q ≡ q' → Agrees p' q' r → Agrees p q r
  agrees-at p p' q q' r e f a = rw (e, f) a

  -- the hand of a level changes, and it waits for no count before and after
  pub agree-side : (l : ℕ) (h : Side A) (s : State A) → l < 4 → is_waiting (s.sides l).mark ≡ false → is_waiting h.mark ≡ false → CountsAgree s → CountsAgree (with_side l h s)
  agree-side l h s m p q a k =
      agrees-at _ _ _ _ (s.rows k)
      (same-count _ _ _ _ (pops-side k l h s m) (quiet-took k (s.sides l).mark p) (quiet-took k h.mark q))
      (same-count _ _ _ _ (pushes-side k l h s m) (quiet-gave k (s.sides l).mark p) (quiet-gave k h.mark q))
      (a k)

  -- a cache changes
  pub agree-row : (c : ℕ) (r : Row A) (s : State A) → (Agrees (pops_waiting c s) (pushes_waiting c s) (s.rows c) → Agrees (pops_waiting c s) (pushes_waiting c s) r) → CountsAgree s → CountsAgree (with_row c r s)
  agree-row c r s f a k =
      elim (eqb_tells k c) [
        | inl y ↦ rw (y.0, y.1, pops-row c c r s, pushes-row c c r s) (f (a c))
        | inr y ↦ rw (y.0, pops-row k c r s, pushes-row k c r s) (a k)
      ]

  -- the hand changes, and what the level waits for doesn't
  pub agree-hand : (l : ℕ) (h : Side A) (s : State A) → l < 4 → h.mark ≡ (s.sides l).mark → CountsAgree s → CountsAgree (with_side l h s)
  agree-hand l h s m e a k =
      agrees-at _ _ _ _ (s.rows k)
      (cancel _ _ _ _ (pops-side k l h s m) (ap (took k) e))
      (cancel _ _ _ _ (pushes-side k l h s m) (ap (gave k) e))
      (a k)

  -- what counts don't speak of changes
  same-row : (p q : ℕ) (r r' : Row A) → r'.active ≡ r.active → r'.count ≡ r.count → r'.free ≡ r.free → Agrees p q r → Agrees p q r'
  same-row p q r r' d e f a = record {
    one = a.one;
    none = λ z. a.none (sym d ∙ z);
    count = ap (λ x. x + q) e ∙ a.count ∙ ap (λ x. length x + p) (sym f);
  }

  pub agree-still : (c : ℕ) (r : Row A) (s : State A) → r.active ≡ (s.rows c).active → r.count ≡ (s.rows c).count → r.free ≡ (s.rows c).free → CountsAgree s → CountsAgree (with_row c r s)
  agree-still c r s d e f a = agree-row c r s (same-row _ _ (s.rows c) r d e f) a

  -- both change
  pub agree-both : (l c : ℕ) (r : Row A) (h : Side A) (s : State A) → l < 4 → ((k : ℕ) → k ≢ c → (took k h.mark ≡ took k (s.sides l).mark) × (gave k h.mark ≡ gave k (s.sides l).mark)) → ((p q : ℕ) → p + took c (s.sides l).mark ≡ pops_waiting c s + took c h.mark → q + gave c (s.sides l).mark ≡ pushes_waiting c s + gave c h.mark → Agrees p q r) → CountsAgree s → CountsAgree (with_row c r (with_side l h s))
  agree-both l c r h s m o f a k =
      let t : State A = with_side l h s in
      elim (eqb_tells k c) [
        | inl y ↦ rw (y.0, y.1, pops-row c c r t, pushes-row c c r t) (f (pops_waiting c t) (pushes_waiting c t) (pops-side c l h s m) (pushes-side c l h s m))
        | inr y ↦ rw (y.0, pops-row k c r t, pushes-row k c r t)
            (agrees-at _ _ _ _ (s.rows k) (cancel _ _ _ _ (pops-side k l h s m) (o k y.1).0) (cancel _ _ _ _ (pushes-side k l h s m) (o k y.1).1) (a k))
      ]

  quiet-others : (l c : ℕ) (n : Mark) (s : State A) → is_waiting (s.sides l).mark ≡ false → ((k : ℕ) → k ≢ c → (took k n ≡ 0) × (gave k n ≡ 0)) → (k : ℕ) → k ≢ c → (took k n ≡ took k (s.sides l).mark) × (gave k n ≡ gave k (s.sides l).mark)
  quiet-others l c n s w f k d = ((f k d).0 ∙ sym (quiet-took k (s.sides l).mark w), (f k d).1 ∙ sym (quiet-gave k (s.sides l).mark w))

  pub counts-enter : (l c : ℕ) (r : Row A) (h : Side A) (s : State A) → l < 4 → is_waiting (s.sides l).mark ≡ false → is_waiting h.mark ≡ false → (Agrees (pops_waiting c s) (pushes_waiting c s) (s.rows c) → Agrees (pops_waiting c s) (pushes_waiting c s) r) → CountsAgree s → CountsAgree (with_row c r (with_side l h s))
  counts-enter l c r h s m w v f a =
      agree-both l c r h s m (quiet-others l c h.mark s w (λ k d. (quiet-took k h.mark v, quiet-gave k h.mark v)))
      (λ p q i j. agrees-at p _ q _ r (same-count _ _ _ _ i (quiet-took c (s.sides l).mark w) (quiet-took c h.mark v)) (same-count _ _ _ _ j (quiet-gave c (s.sides l).mark w) (quiet-gave c h.mark v)) (f (a c))) a

  entered : (p q t : ℕ) (r : Row A) → Agrees p q r → Agrees p q (let r' : Row A = record r { active = r.active + 1; target = t } in r')
  entered p q t r a = record { one = a.one; none = λ z. absurd (omega (arith, z)); count = a.count }

  left : (p q b : ℕ) (r : Row A) → r.active ≡ b + 1 → (b ≡ 0 → p + q ≡ 0) → Agrees p q r → Agrees p q (let r' : Row A = record r { active = r.active - 1 } in r')
  left p q b r e w a = record { one = a.one; none = λ z. w (omega (arith, e, z)); count = a.count }

  -- a pop and a push, and their counts
  popped : (p q i j u v : ℕ) (r : Row A) → 0 < r.active → i + j ≡ 0 → 0 < length r.free → u ≡ 0 → v ≡ 0 → p + u ≡ i + 1 → q + v ≡ j + 0 → Agrees i j r → Agrees p q (let r' : Row A = record r { free = drop 1 r.free } in r')
  popped p q i j u v r n z f x y b d a =
      let e : length (drop 1 r.free) + 1 ≡ length r.free = one-less r.free f in
      record { one = omega (arith, b, d, z, x, y); none = λ w. absurd (omega (arith, w, n)); count = omega (arith, a.count, e, b, d, z, x, y) }

  pushed : (p q i j u v : ℕ) (hand : List A) (r : Row A) → 0 < r.active → i + j ≡ 0 → 0 < length hand → u ≡ 0 → v ≡ 0 → p + u ≡ i + 0 → q + v ≡ j + 1 → Agrees i j r → Agrees p q (let r' : Row A = record r { free = take 1 hand ++ r.free } in r')
  pushed p q i j u v hand r n z f x y b d a =
      let e : length (take 1 hand ++ r.free) ≡ length r.free + 1 = one-more hand r.free f in
      record { one = omega (arith, b, d, z, x, y); none = λ w. absurd (omega (arith, w, n)); count = omega (arith, a.count, e, b, d, z, x, y) }

  counted : (p q i j c k : ℕ) (m : Mark) (r : Row A) → CountsTo m c r.count k → p + took c m ≡ i + 0 → q + gave c m ≡ j + 0 → Agrees i j r → Agrees p q (let r' : Row A = record r { count = k } in r')
  counted p q i j c k (mark.Took d) r t b f a =
      let o : ◌≡◌ {A = ℕ} (cond (eqb d c) 1 0) 1 = rw (eq-eqb d c t.0) refl in
      record { one = omega (arith, b, f, o, a.one); none = λ z. omega (arith, b, f, o, a.one); count = omega (arith, b, f, o, a.one, a.count, t.1) }
  counted p q i j c k (mark.Gave d) r t b f a =
      let o : ◌≡◌ {A = ℕ} (cond (eqb d c) 1 0) 1 = rw (eq-eqb d c t.0) refl in
      record { one = omega (arith, b, f, o, a.one); none = λ z. omega (arith, b, f, o, a.one); count = omega (arith, b, f, o, a.one, a.count, t.1) }
  counted p q i j c k mark.Quiet r t b f a = absurd t
  counted p q i j c k (mark.Bound home delayed) r t b f a = absurd t
  counted p q i j c k (mark.Saw d n) r t b f a = absurd t
  counted p q i j c k (mark.SawDelayed d n) r t b f a = absurd t

  filled : (p q : ℕ) (us : List A) (r : Row A) → Agrees p q r → Agrees p q (let r' : Row A = record r { free = reverse us ++ r.free; count = r.count + length us } in r')
  filled p q us r a =
      let e : length (reverse us ++ r.free) ≡ length us + length r.free = length-append (reverse us) r.free ∙ ap (λ x. x + length r.free) (length-reverse us) in
      record { one = a.one; none = a.none; count = omega (arith, a.count, e) }

  swept : (p q : ℕ) (r r' : Row A) → p + q ≡ 0 → r'.free ≡ [] → r'.count ≡ 0 → Agrees p q r'
  swept p q r r' z e f =
      let g : length r'.free ≡ 0 = ap length e in
      record { one = omega (arith, z); none = λ _. z; count = omega (arith, z, g, f) }

  counts-sent : (c l : ℕ) (hand : List A) (s : State A) → l < 4 → is_waiting (s.sides l).mark ≡ false → CountsAgree s → CountsAgree (sent c l hand s)
  counts-sent c l [] s m w a = agree-still c _ s refl refl refl a
  counts-sent c l (u ∷ us) s m w a = agree-side l _ s m w refl a

  -- An entry leaves counts that agree.
  pub counts-effect : (l : ℕ) (e : Entry) (us : List A) (s : State A) → l < 4 → Steady l e s → CountsAgree s → CountsAgree (effect l e us s)
  counts-effect l (entry.Fill c ns) us s m w a = agree-row c _ s (filled _ _ us (s.rows c)) a
  counts-effect l (entry.Free u home) us s m w a = agree-side l _ s m w refl a
  counts-effect l (entry.Delay u home) us s m w a = agree-side l _ s m w refl a
  counts-effect l (entry.Enter c n) us s m w a = counts-enter l c _ _ s m w refl (entered _ _ _ (s.rows c)) a
  counts-effect l (entry.Leave c n) us s m w a = agree-row c _ s (left _ _ n (s.rows c) w.0 w.1) a
  counts-effect l (entry.Pop c u) us s m w a =
      agree-both l c _ _ s m (quiet-others l c (mark.Took c) s w.0 (λ k d. (rw (ne_eqb c k (λ q. d (sym q))) refl, refl)))
      (λ p q i j. popped p q (pops_waiting c s) (pushes_waiting c s) _ _ (s.rows c) w.1 w.2 w.3 (quiet-took c (s.sides l).mark w.0) (quiet-gave c (s.sides l).mark w.0) (i ∙ ap (λ x. pops_waiting c s + x) (one-here c)) j (a c)) a
  counts-effect l (entry.Push c u) us s m w a =
      agree-both l c _ _ s m (quiet-others l c (mark.Gave c) s w.0 (λ k d. (refl, rw (ne_eqb c k (λ q. d (sym q))) refl)))
      (λ p q i j. pushed p q (pops_waiting c s) (pushes_waiting c s) _ _ (s.sides l).hand (s.rows c) w.1 w.2 w.3 (quiet-took c (s.sides l).mark w.0) (quiet-gave c (s.sides l).mark w.0) i (j ∙ ap (λ x. pushes_waiting c s + x) (one-here c)) (a c)) a
  counts-effect l (entry.Count c k) us s m w a =
      agree-both l c _ _ s m (λ j d. counts-others j c (s.rows c).count k (s.sides l).mark d w)
      (λ p q i j. counted p q (pops_waiting c s) (pushes_waiting c s) c k (s.sides l).mark (s.rows c) w i j (a c)) a
  counts-effect l (entry.Raise c) us s m w a = agree-still c _ s refl refl refl a
  counts-effect l (entry.Work c) us s m w a = agree-still c _ s refl refl refl a
  counts-effect l (entry.Delayed c u) us s m w a = counts-enter l c _ _ s m w refl (same-row _ _ (s.rows c) _ refl refl refl) a
  counts-effect l (entry.Look c k) us s m w a = agree-side l _ s m w refl a
  counts-effect l (entry.Put c u) us s m w a = counts-enter l c _ _ s m w refl (same-row _ _ (s.rows c) _ refl refl refl) a
  counts-effect l (entry.Lost c) us s m w a = agree-side l _ s m w refl a
  counts-effect l (entry.LookDelayed c k) us s m w a = agree-side l _ s m w refl a
  counts-effect l (entry.PutDelayed c u) us s m w a = counts-enter l c _ _ s m w refl (same-row _ _ (s.rows c) _ refl refl refl) a
  counts-effect l (entry.LostDelayed c) us s m w a = agree-side l _ s m w refl a
  counts-effect l (entry.Given u life) us s m w a = agree-hand l _ s m refl a
  counts-effect l (entry.GivenAfter u life stamp seen) us s m w a = agree-hand l _ s m refl a
  counts-effect l (entry.Receive c ns) us s m w a = agree-still c _ s refl refl refl a
  counts-effect l (entry.Ready c u) us s m w a = counts-enter l c _ _ s m w refl (same-row _ _ (s.rows c) _ refl refl refl) a
  counts-effect l (entry.Second c u) us s m w a = counts-enter l c _ _ s m w refl (same-row _ _ (s.rows c) _ refl refl refl) a
  counts-effect l (entry.Fetch c want ns) us s m w a = agree-side l _ s m w refl a
  counts-effect l (entry.TakeExtra c ns) us s m w a = counts-enter l c _ _ s m w refl (same-row _ _ (s.rows c) _ refl refl refl) a
  counts-effect l (entry.Send c p ns) us s m w a = counts-sent c l (s.sides l).hand s m w a
  counts-effect l (entry.TakeDelayed c ns) us s m w a = agree-still c _ s refl refl refl a
  counts-effect l (entry.Batch c ns) us s m w a = agree-still c _ s refl refl refl a
  counts-effect l (entry.Stamp c d x) us s m w a = agree-still c _ s refl refl refl a
  counts-effect l (entry.BeginSecond c ns) us s m w a = agree-still c _ s refl refl refl a
  counts-effect l (entry.Return c ns) us s m w a = agree-still c _ s refl refl refl a
  counts-effect l (entry.Sweep c ns) us s m w a = agree-row c _ s (λ _. swept _ _ (s.rows c) _ w refl refl) a
  counts-effect l _ us s m w a = a

  -- the counts agree before the opening
  pub counts-opening : (p : ℕ) → (let s : State A = opening p in CountsAgree s)
  unfolding pops_waiting pushes_waiting
  counts-opening p c = record { one = omega arith; none = λ _. refl; count = refl }

  pub counts-opened : (p : ℕ) (s : State A) → s ≡ opening p → CountsAgree s
  counts-opened p s e = rw e (counts-opening p)

  -- Handlers that came between leave what waits: the levels below theirs are as before, and theirs are idle.
  sides-same : (l : ℕ) (s t : State A) → Kept l s t → Ready l s → Ready l t → (k : ℕ) → t.sides k ≡ s.sides k
  sides-same l s t h a b k =
      elim (leb_tells l k) [
        | inl y ↦ b.sides k y.1 ∙ sym (a.sides k y.1)
        | inr y ↦ h.sides k y.1
      ]

  pub pops-kept : (l c : ℕ) (s t : State A) → Kept l s t → Ready l s → Ready l t → pops_waiting c t ≡ pops_waiting c s
  unfolding pops_waiting
  pops-kept l c s t h a b = sum-same 4 (λ k. took c (s.sides k).mark) (λ k. took c (t.sides k).mark) (λ k n. ap (λ (x : Side A). took c x.mark) (sides-same l s t h a b k))

  pub pushes-kept : (l c : ℕ) (s t : State A) → Kept l s t → Ready l s → Ready l t → pushes_waiting c t ≡ pushes_waiting c s
  unfolding pushes_waiting
  pushes-kept l c s t h a b = sum-same 4 (λ k. gave c (s.sides k).mark) (λ k. gave c (t.sides k).mark) (λ k n. ap (λ (x : Side A). gave c x.mark) (sides-same l s t h a b k))

-- What a recorder counts goes with the lists.
use Rattle.std.proofs.Common.{◌≡◌, ◌≢◌, ◌<◌, ℕ, ◌+◌, ◌-◌, ◌^◌, ◌++◌, List, [], ◌∷◌, length, take, drop, reverse, false, ne_eqb, refl, sym, ◌∙◌, ap, arith, eqb, cond, inl, inr}
use Rattle.std.proofs.lemmas.List.{length-append, length-reverse, length-set, get_or-set_same, get_or-set_other, get_or-replicate}
use Rattle.std.proofs.lemmas.Bool.Decides.{eqb_tells}
use Rattle.bm_journal.specs.declared.counts.Counts.{Counts}
use Rattle.bm_journal.specs.declared.counts.Lengths.{Lengths}
use Rattle.bm_journal.specs.declared.ids.Domain.TheVariants.{Plain, Tracing}
use Rattle.bm_journal.specs.declared.entry.Entry.{Entry}
use Rattle.bm_journal.specs.declared.entry.Entry.TheVariants as entry
use Rattle.bm_journal.specs.UnitCount.{unit_count}
use Rattle.bm_journal.specs.Counts.{more, no_lengths, no_counts, lengths_of, hand_of, lists, hand, counts_after}
use Rattle.bm_law.specs.State.{Row, Side, State, opening, with_row, with_side, seven_lists}
use Rattle.bm_law.specs.Effect.{effect, sent}
use Rattle.bm_law.specs.Stands.{Known}
use Rattle.bm_law.specs.Lengths.{lengths_in, Tells, Sized, Countable}

module _ {A : Type 0} where
  pub length-seven : (r : Row A) → length (seven_lists r) ≡ length r.free + (length r.extra + (length r.delayed + (length r.extra_delayed + (length r.deferred.first + (length r.deferred.ready + length r.deferred.second)))))
  length-seven r =
      length-append r.free _ ∙ ap (λ x. length r.free + x)
      (length-append r.extra _ ∙ ap (λ x. length r.extra + x)
      (length-append r.delayed _ ∙ ap (λ x. length r.delayed + x)
      (length-append r.extra_delayed _ ∙ ap (λ x. length r.extra_delayed + x)
      (length-append r.deferred.first _ ∙ ap (λ x. length r.deferred.first + x)
      (length-append r.deferred.ready r.deferred.second)))))

  -- a cache, a hand, changes
  pub tells-row : (c : ℕ) (f : Lengths → Lengths) (r : Row A) (k : Counts) (s : State A) → c < 11 → f (lengths_in (s.rows c)) ≡ lengths_in r → Tells k s → Tells (lists c f k) (with_row c r s)
  tells-row c f r k s h e t = record {
    classes = length-set k.classes c (f (lengths_of k c)) ∙ t.classes;
    hands = t.hands;
    lists = λ j m. elim (eqb_tells j c) [
      | inl y ↦ rw (y.0, y.1) (get_or-set_same k.classes c (f (lengths_of k c)) no_lengths (omega (arith, h, t.classes)) ∙ ap f (t.lists c h) ∙ e)
      | inr y ↦ rw y.0 (get_or-set_other k.classes c j (f (lengths_of k c)) no_lengths y.1 ∙ t.lists j m)
    ];
    hand = t.hand;
  }

  pub tells-side : (l : ℕ) (g : ℕ → ℕ) (h : Side A) (k : Counts) (s : State A) → l < 4 → g (length (s.sides l).hand) ≡ length h.hand → Tells k s → Tells (hand l g k) (with_side l h s)
  tells-side l g h k s m e t = record {
    classes = t.classes;
    hands = length-set k.hands l (g (hand_of k l)) ∙ t.hands;
    lists = t.lists;
    hand = λ j n. elim (eqb_tells j l) [
      | inl y ↦ rw (y.0, y.1) (get_or-set_same k.hands l (g (hand_of k l)) 0 (omega (arith, m, t.hands)) ∙ ap g (t.hand l m) ∙ e)
      | inr y ↦ rw y.0 (get_or-set_other k.hands l j (g (hand_of k l)) 0 y.1 ∙ t.hand j n)
    ];
  }

  pub tells-both : (c l : ℕ) (f : Lengths → Lengths) (g : ℕ → ℕ) (r : Row A) (h : Side A) (k : Counts) (s : State A) → c < 11 → l < 4 → f (lengths_in (s.rows c)) ≡ lengths_in r → g (length (s.sides l).hand) ≡ length h.hand → Tells k s → Tells (hand l g (lists c f k)) (with_row c r (with_side l h s))
  tells-both c l f g r h k s n m e d t = tells-row c f r (hand l g k) (with_side l h s) n e (tells-side l g h k s m d t)

  -- no length changes
  pub still-row : (c : ℕ) (r : Row A) (k : Counts) (s : State A) → lengths_in r ≡ lengths_in (s.rows c) → Tells k s → Tells k (with_row c r s)
  still-row c r k s e t = record {
    classes = t.classes;
    hands = t.hands;
    lists = λ j m. elim (eqb_tells j c) [
      | inl y ↦ rw y.0 (t.lists j m ∙ rw y.1 (sym e))
      | inr y ↦ rw y.0 (t.lists j m)
    ];
    hand = t.hand;
  }

  pub still-side : (l : ℕ) (h : Side A) (k : Counts) (s : State A) → length h.hand ≡ length (s.sides l).hand → Tells k s → Tells k (with_side l h s)
  still-side l h k s e t = record {
    classes = t.classes;
    hands = t.hands;
    lists = t.lists;
    hand = λ j n. elim (eqb_tells j l) [
      | inl y ↦ rw y.0 (t.hand j n ∙ rw y.1 (sym e))
      | inr y ↦ rw y.0 (t.hand j n)
    ];
  }

  -- one unit off a list, and on top of one
  drop-less : (xs : List A) → length xs - 1 ≡ length (drop 1 xs)
  drop-less [] = refl
  drop-less (x ∷ xs) = omega arith

  put-more : (hand xs : List A) → 0 < length hand → length xs + 1 < 2 ^ 64 → more (length xs) 1 ≡ length (take 1 hand ++ xs)
  put-more [] xs h b = absurd (omega (arith, h))
  put-more (x ∷ hand) xs h b = omega (arith, b)

  take-more : (hand xs : List A) → 0 < length xs → length hand + 1 < 2 ^ 64 → more (length hand) 1 ≡ length (hand ++ take 1 xs)
  take-more hand [] h b = absurd (omega (arith, h))
  take-more hand (x ∷ xs) h b = omega (arith, b, length-append hand (x ∷ []))

  behind : (hand units : List A) (n : ℕ) → n ≡ length units → length hand + length units < 2 ^ 64 → more (length hand) n ≡ length (hand ++ units)
  behind hand units n e b = omega (arith, e, b, length-append hand units)

  on : (units xs : List A) (n : ℕ) → n ≡ length units → length xs + length units < 2 ^ 64 → more (length xs) n ≡ length (units ++ xs)
  on units xs n e b = omega (arith, e, b, length-append units xs)

  reversed : (units xs : List A) (n : ℕ) → n ≡ length units → length xs + length units < 2 ^ 64 → more (length xs) n ≡ length (reverse units ++ xs)
  reversed units xs n e b = omega (arith, e, b, length-append (reverse units) xs, length-reverse units)

  -- what is countable altogether is so in its parts
  abbrev pub total : Row A → ℕ
  total r = length r.free + (length r.extra + (length r.delayed + (length r.extra_delayed + (length r.deferred.first + (length r.deferred.ready + length r.deferred.second)))))

  in_all : (r : Row A) (m n : ℕ) → length (seven_lists r) + m + n < 2 ^ 64 → total r + m + n < 2 ^ 64
  in_all r m n b = omega (arith, b, length-seven r)

  tells-sent : (c l : ℕ) (held : List A) (k : Counts) (s : State A) → c < 11 → l < 4 → (s.sides l).hand ≡ held → Tells k s → Tells (cond (eqb (hand_of k l) 0) (lists c (λ x. record x { first = 0 }) k) (hand l (λ n. 0) k)) (sent c l held s)
  tells-sent c l [] k s n m e t =
      let z : hand_of k l ≡ 0 = t.hand l m ∙ ap length e in
      rw z (tells-row c (λ x. record x { first = 0 }) _ k s n refl t)
  tells-sent c l (u ∷ us) k s n m e t =
      let z : hand_of k l ≡ length us + 1 = t.hand l m ∙ ap length e ∙ omega arith in
      let d : hand_of k l ≢ 0 = λ q. omega (arith, q, z) in
      let f : eqb (hand_of k l) 0 ≡ false = ne_eqb (hand_of k l) 0 d in
      rw f (tells-side l (λ n. 0) _ k s m refl t)

  -- An entry that names what it moves is counted as the lists change.
  pub tells-effect : (l : ℕ) (e : Entry) (units : List A) (k : Counts) (s : State A) → Known l e → Sized l e units s → Countable l e units s → Tells k s → Tells (counts_after l e k) (effect l e units s)
  tells-effect l (entry.Fill c us) units k s n z b t =
      let r = s.rows c in
      let a = in_all r (length (s.sides l).hand) (length units) b in
      tells-row c (λ x. record x { free = more x.free (unit_count us) }) _ k s n.class (ap (λ x. let y : Lengths = record (lengths_in r) { free = x } in y) (reversed units r.free (unit_count us) z (omega (arith, a)))) t
  tells-effect l (entry.Free u home) units k s n z b t =
      tells-side l (λ n. more n 1) _ k s n.level (behind (s.sides l).hand units 1 (sym z) (omega (arith, b))) t
  tells-effect l (entry.Delay u home) units k s n z b t =
      tells-side l (λ n. more n 1) _ k s n.level (behind (s.sides l).hand units 1 (sym z) (omega (arith, b))) t
  tells-effect l (entry.Enter c a) units k s n z b t = still-row c _ k (with_side l _ s) refl (still-side l _ k s refl t)
  tells-effect l (entry.Leave c a) units k s n z b t = still-row c _ k s refl t
  tells-effect l (entry.Pop c u) units k s n z b t =
      let r = s.rows c in
      let h = (s.sides l).hand in
      let a = in_all r (length h) (length units) b in
      tells-both c l (λ x. record x { free = x.free - 1 }) (λ n. more n 1) _ _ k s n.class n.level (ap (λ x. let y : Lengths = record (lengths_in r) { free = x } in y) (drop-less r.free)) (take-more h r.free z (omega (arith, a))) t
  tells-effect l (entry.Push c u) units k s n z b t =
      let r = s.rows c in
      let h = (s.sides l).hand in
      let a = in_all r (length h) (length units) b in
      tells-both c l (λ x. record x { free = more x.free 1 }) (λ n. n - 1) _ _ k s n.class n.level (ap (λ x. let y : Lengths = record (lengths_in r) { free = x } in y) (put-more h r.free z (omega (arith, a)))) (drop-less h) t
  tells-effect l (entry.Count c j) units k s n z b t = still-row c _ k (with_side l _ s) refl (still-side l _ k s refl t)
  tells-effect l (entry.Raise c) units k s n z b t = still-row c _ k s refl t
  tells-effect l (entry.Work c) units k s n z b t = still-row c _ k s refl t
  tells-effect l (entry.Delayed c u) units k s n z b t =
      let r = s.rows c in
      let h = (s.sides l).hand in
      let a = in_all r (length h) (length units) b in
      tells-both c l (λ x. record x { delayed = more x.delayed 1 }) (λ n. n - 1) _ _ k s n.class n.level (ap (λ x. let y : Lengths = record (lengths_in r) { delayed = x } in y) (put-more h r.delayed z (omega (arith, a)))) (drop-less h) t
  tells-effect l (entry.Look c j) units k s n z b t = still-side l _ k s refl t
  tells-effect l (entry.Put c u) units k s n z b t =
      let r = s.rows c in
      let h = (s.sides l).hand in
      let a = in_all r (length h) (length units) b in
      tells-both c l (λ x. record x { extra = more x.extra 1 }) (λ n. n - 1) _ _ k s n.class n.level (ap (λ x. let y : Lengths = record (lengths_in r) { extra = x } in y) (put-more h r.extra z (omega (arith, a)))) (drop-less h) t
  tells-effect l (entry.Lost c) units k s n z b t = still-side l _ k s refl t
  tells-effect l (entry.LookDelayed c j) units k s n z b t = still-side l _ k s refl t
  tells-effect l (entry.PutDelayed c u) units k s n z b t =
      let r = s.rows c in
      let h = (s.sides l).hand in
      let a = in_all r (length h) (length units) b in
      tells-both c l (λ x. record x { extra_delayed = more x.extra_delayed 1 }) (λ n. n - 1) _ _ k s n.class n.level (ap (λ x. let y : Lengths = record (lengths_in r) { extra_delayed = x } in y) (put-more h r.extra_delayed z (omega (arith, a)))) (drop-less h) t
  tells-effect l (entry.LostDelayed c) units k s n z b t = still-side l _ k s refl t
  tells-effect l (entry.Given u life) units k s n z b t = tells-side l (λ n. n - 1) _ k s n.level (drop-less (s.sides l).hand) t
  tells-effect l (entry.GivenAfter u life stamp seen) units k s n z b t = tells-side l (λ n. n - 1) _ k s n.level (drop-less (s.sides l).hand) t
  tells-effect l (entry.Receive c us) units k s n z b t =
      let r = s.rows c in
      let a = in_all r (length (s.sides l).hand) (length units) b in
      tells-row c (λ x. record x { ready = more x.ready (unit_count us) }) _ k s n.class (ap (λ x. let y : Lengths = record (lengths_in r) { ready = x } in y) (on units r.deferred.ready (unit_count us) z (omega (arith, a)))) t
  tells-effect l (entry.Ready c u) units k s n z b t =
      let r = s.rows c in
      let h = (s.sides l).hand in
      let a = in_all r (length h) (length units) b in
      tells-both c l (λ x. record x { ready = x.ready - 1 }) (λ n. more n 1) _ _ k s n.class n.level (ap (λ x. let y : Lengths = record (lengths_in r) { ready = x } in y) (drop-less r.deferred.ready)) (take-more h r.deferred.ready z (omega (arith, a))) t
  tells-effect l (entry.Second c u) units k s n z b t =
      let r = s.rows c in
      let h = (s.sides l).hand in
      let a = in_all r (length h) (length units) b in
      tells-both c l (λ x. record x { second = x.second - 1 }) (λ n. more n 1) _ _ k s n.class n.level (ap (λ x. let y : Lengths = record (lengths_in r) { second = x } in y) (drop-less r.deferred.second)) (take-more h r.deferred.second z (omega (arith, a))) t
  tells-effect l (entry.Fetch c want us) units k s n z b t =
      tells-side l (λ n. more n (unit_count us)) _ k s n.level (behind (s.sides l).hand units (unit_count us) z (omega (arith, b))) t
  tells-effect l (entry.TakeExtra c us) units k s n z b t =
      let r = s.rows c in
      let h = (s.sides l).hand in
      let a = in_all r (length h) (length units) b in
      tells-both c l (λ x. record x { extra = 0 }) (λ n. more n (unit_count us)) _ _ k s n.class n.level refl (behind h r.extra (unit_count us) z (omega (arith, a))) t
  tells-effect l (entry.Send c p us) units k s n z b t = tells-sent c l (s.sides l).hand k s n.class n.level refl t
  tells-effect l (entry.TakeDelayed c us) units k s n z b t =
      let r = s.rows c in
      let a = in_all r (length (s.sides l).hand) (length units) b in
      tells-row c (λ x. record x { extra_delayed = 0; delayed = more x.delayed (unit_count us) }) _ k s n.class (ap (λ x. let y : Lengths = record (lengths_in r) { extra_delayed = 0; delayed = x } in y) (reversed r.extra_delayed r.delayed (unit_count us) z (omega (arith, a)))) t
  tells-effect l (entry.Batch c us) units k s n z b t =
      let r = s.rows c in
      let a = in_all r (length (s.sides l).hand) (length units) b in
      tells-row c (λ x. record x { delayed = 0; first = more x.first (unit_count us) }) _ k s n.class (ap (λ x. let y : Lengths = record (lengths_in r) { delayed = 0; first = x } in y) (on r.delayed r.deferred.first (unit_count us) z (omega (arith, a)))) t
  tells-effect l (entry.Stamp c Plain x) units k s n z b t = still-row c _ k s refl t
  tells-effect l (entry.Stamp c Tracing x) units k s n z b t = still-row c _ k s refl t
  tells-effect l (entry.BeginSecond c us) units k s n z b t =
      let r = s.rows c in
      let a = in_all r (length (s.sides l).hand) (length units) b in
      tells-row c (λ x. record x { ready = 0; second = more x.second (unit_count us) }) _ k s n.class (ap (λ x. let y : Lengths = record (lengths_in r) { ready = 0; second = x } in y) (on r.deferred.ready r.deferred.second (unit_count us) z (omega (arith, a)))) t
  tells-effect l (entry.Return c us) units k s n z b t = tells-row c (λ x. record x { second = 0 }) _ k s n.class refl t
  tells-effect l (entry.Sweep c us) units k s n z b t =
      tells-row c (λ x. record no_lengths { second = unit_count us }) _ k s n.class (ap (λ x. let y : Lengths = record no_lengths { second = x } in y) (z ∙ sym (length-append (seven_lists (s.rows c)) units))) t
  tells-effect l _ units k s n z b t = t

  -- nothing is counted before the opening
  pub tells-opening : (p : ℕ) (s : State A) → s ≡ opening p → Tells no_counts s
  tells-opening p s e = rw e (let t : Tells {A = A} no_counts (opening p) = record { classes = refl; hands = refl; lists = λ c h. get_or-replicate 11 c no_lengths no_lengths h; hand = λ l h. get_or-replicate 4 l 0 0 h } in t)

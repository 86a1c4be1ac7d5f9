-- How moments of a call join.
use Rattle.std.proofs.Common.{◌≡◌, ◌≢◌, ◌<◌, ◌≤◌, ℕ, ◌+◌, ◌++◌, List, [], refl, sym, ◌∙◌, ap, subst, arith, append_assoc, ne_eqb, eq-eqb, inl, inr}
use Rattle.std.proofs.lemmas.Bool.Decides.{eqb_tells}
use Rattle.bm_journal.specs.declared.units.Units.{Units}
use Rattle.bm_journal.specs.declared.entry.Entry.TheVariants as entry
use Rattle.bm_law.specs.Effect.{effect}
use Rattle.bm_law.specs.State.{Row, Side, State, opening, idle_side, with_row, with_side}
use Rattle.bm_law.specs.Kept.{Inside, RowKept, Kept, Ready, Between}

module _ {A : Type 0} where
  -- a state's parts after a change
  pub row-here : (c : ℕ) (r : Row A) (s : State A) → (with_row c r s).rows c ≡ r
  row-here c r s = rw (eq-eqb c c refl) refl

  pub row-other : (c k : ℕ) (r : Row A) (s : State A) → k ≢ c → (with_row c r s).rows k ≡ s.rows k
  row-other c k r s d = rw (ne_eqb k c d) refl

  pub side-here : (l : ℕ) (h : Side A) (s : State A) → (with_side l h s).sides l ≡ h
  side-here l h s = rw (eq-eqb l l refl) refl

  pub side-other : (l k : ℕ) (h : Side A) (s : State A) → k ≢ l → (with_side l h s).sides k ≡ s.sides k
  side-other l k h s d = rw (ne_eqb k l d) refl

  pub Inside-refl : (r : Row A) → Inside r r
  Inside-refl r = record { free = refl; count = refl; delayed = refl; more = []; extra = refl; more_delayed = []; extra_delayed = refl }

  pub Inside-join : (r s t : Row A) → Inside r s → Inside s t → Inside r t
  Inside-join r s t a b = record {
    free = b.free ∙ a.free;
    count = b.count ∙ a.count;
    delayed = b.delayed ∙ a.delayed;
    more = b.more ++ a.more;
    extra = b.extra ∙ ap (λ x. b.more ++ x) a.extra ∙ sym (append_assoc b.more a.more r.extra);
    more_delayed = b.more_delayed ++ a.more_delayed;
    extra_delayed = b.extra_delayed ∙ ap (λ x. b.more_delayed ++ x) a.extra_delayed ∙ sym (append_assoc b.more_delayed a.more_delayed r.extra_delayed);
  }

  pub RowKept-refl : (r : Row A) → RowKept r r
  RowKept-refl r = record { active = refl; deferred = refl; inside = λ _. Inside-refl r }

  pub RowKept-join : (r s t : Row A) → RowKept r s → RowKept s t → RowKept r t
  RowKept-join r s t a b = record {
    active = b.active ∙ a.active;
    deferred = b.deferred ∙ a.deferred;
    inside = λ h. Inside-join r s t (a.inside h) (b.inside (rw a.active h));
  }

  pub Kept-refl : (l : ℕ) (s : State A) → Kept l s s
  Kept-refl l s = record { rows = λ c. RowKept-refl (s.rows c); sides = λ k h. refl }

  pub Kept-join : (l : ℕ) (s t u : State A) → Kept l s t → Kept l t u → Kept l s u
  Kept-join l s t u a b = record { rows = λ c. RowKept-join (s.rows c) (t.rows c) (u.rows c) (a.rows c) (b.rows c); sides = λ k h. b.sides k h ∙ a.sides k h }

  -- calls of a higher level keep more
  pub Kept-below : (k l : ℕ) (s t : State A) → k ≤ l → Kept l s t → Kept k s t
  Kept-below k l s t h a = record { rows = a.rows; sides = λ j m. a.sides j (omega (arith, m, h)) }

  pub Between-none : (l c n : ℕ) (s : State A) → Between l c n n s s
  Between-none l c n s = record { active = refl; inside = λ h. Inside-refl (s.rows c); others = λ k d. RowKept-refl (s.rows k); sides = λ k h. refl }

  pub Between-join : (l c m n o : ℕ) (s t u : State A) → Between l c m n s t → Between l c n o t u → Between l c m o s u
  Between-join l c m n o s t u a b = record {
    active = omega (arith, a.active, b.active);
    inside = λ h. Inside-join (s.rows c) (t.rows c) (u.rows c) (a.inside h) (b.inside (omega (arith, a.active, h)));
    others = λ k d. RowKept-join (s.rows k) (t.rows k) (u.rows k) (a.others k d) (b.others k d);
    sides = λ k h. b.sides k h ∙ a.sides k h;
  }

  -- handlers ran
  pub Between-point : (l c n : ℕ) (s t : State A) → Kept (l + 1) s t → Between l c n n s t
  Between-point l c n s t k = record {
    active = ap (λ x. x + n) (k.rows c).active;
    inside = λ h. (k.rows c).inside (omega (arith, h));
    others = λ j d. k.rows j;
    sides = λ j h. k.sides j (omega (arith, h));
  }

  -- one step of the call, on the cache of its class and the hand of its level
  pub Between-step : (l c m n : ℕ) (r : Row A) (h : Side A) (s : State A) → r.active + m ≡ (s.rows c).active + n → (m < (s.rows c).active → Inside (s.rows c) r) → Between l c m n s (with_row c r (with_side l h s))
  Between-step l c m n r h s a i =
      let q : (with_row c r (with_side l h s)).rows c ≡ r = row-here c r (with_side l h s) in
      record {
        active = ap (λ (x : Row A). x.active + m) q ∙ a;
        inside = λ j. let P : Row A → Type 0 = λ x. Inside (s.rows c) x in subst P (sym q) (i j);
        others = λ k d. let P : Row A → Type 0 = λ x. RowKept (s.rows k) x in subst P (sym (row-other c k r (with_side l h s) d)) (RowKept-refl (s.rows k));
        sides = λ k j. rw (ne_eqb k l (λ q. omega (arith, q, j))) refl;
      }

  pub Between-row : (l c m n : ℕ) (r : Row A) (s : State A) → r.active + m ≡ (s.rows c).active + n → (m < (s.rows c).active → Inside (s.rows c) r) → Between l c m n s (with_row c r s)
  Between-row l c m n r s a i =
      let q : (with_row c r s).rows c ≡ r = row-here c r s in
      record {
        active = ap (λ (x : Row A). x.active + m) q ∙ a;
        inside = λ j. let P : Row A → Type 0 = λ x. Inside (s.rows c) x in subst P (sym q) (i j);
        others = λ k d. let P : Row A → Type 0 = λ x. RowKept (s.rows k) x in subst P (sym (row-other c k r s d)) (RowKept-refl (s.rows k));
        sides = λ k j. refl;
      }

  pub Between-side : (l c n : ℕ) (h : Side A) (s : State A) → Between l c n n s (with_side l h s)
  Between-side l c n h s = record {
    active = refl;
    inside = λ j. Inside-refl (s.rows c);
    others = λ k d. RowKept-refl (s.rows k);
    sides = λ k j. rw (ne_eqb k l (λ q. omega (arith, q, j))) refl;
  }

  -- a whole call
  pub Kept-between : (l c : ℕ) (s t : State A) → Between l c 0 0 s t → (t.rows c).deferred ≡ (s.rows c).deferred → Kept l s t
  Kept-between l c s t b d = record {
    rows = λ k. elim (eqb_tells k c) [
      | inl y ↦ rw y.1 (let k : RowKept (s.rows c) (t.rows c) = record { active = omega (arith, b.active); deferred = d; inside = b.inside } in k)
      | inr y ↦ b.others k y.1
    ];
    sides = b.sides;
  }

  -- a step leaves the state ready for handlers
  pub Ready-step : (l c : ℕ) (r : Row A) (h : Side A) (s : State A) → Ready (l + 1) s → r.active ≤ l + 1 → Ready (l + 1) (with_row c r (with_side l h s))
  Ready-step l c r h s a n = record {
    active = λ k. elim (eqb_tells k c) [
      | inl y ↦ rw y.0 n
      | inr y ↦ rw y.0 (a.active k)
    ];
    sides = λ k m. rw (ne_eqb k l (λ q. omega (arith, q, m))) (a.sides k m);
  }

  pub Ready-row : (l c : ℕ) (r : Row A) (s : State A) → Ready (l + 1) s → r.active ≤ l + 1 → Ready (l + 1) (with_row c r s)
  Ready-row l c r s a n = record {
    active = λ k. elim (eqb_tells k c) [
      | inl y ↦ rw y.0 n
      | inr y ↦ rw y.0 (a.active k)
    ];
    sides = a.sides;
  }

  pub Ready-side : (l : ℕ) (h : Side A) (s : State A) → Ready (l + 1) s → Ready (l + 1) (with_side l h s)
  Ready-side l h s a = record {
    active = a.active;
    sides = λ k m. rw (ne_eqb k l (λ q. omega (arith, q, m))) (a.sides k m);
  }

  pub Ready-up : (l : ℕ) (s : State A) → Ready l s → Ready (l + 1) s
  Ready-up l s h = record { active = λ k. omega (arith, h.active k); sides = λ k m. h.sides k (omega (arith, m)) }

  -- the end of a call
  pub Ready-end : (l c : ℕ) (s t : State A) → Ready l s → Between l c 0 0 s t → Ready (l + 1) t → t.sides l ≡ idle_side → Ready l t
  Ready-end l c s t h b u q = record {
    active = λ k. elim (eqb_tells k c) [
      | inl y ↦ rw y.1 (omega (arith, h.active c, b.active))
      | inr y ↦ omega (arith, h.active k, (b.others k y.1).active)
    ];
    sides = λ k m. elim (eqb_tells k l) [
      | inl y ↦ rw y.1 q
      | inr y ↦ u.sides k (let d : k ≢ l = y.1 in omega (arith, m, d))
    ];
  }

  -- calls of level l and above leave the state as ready as it was
  pub Ready-kept : (l : ℕ) (s t : State A) → Ready l s → Kept l s t → ((k : ℕ) → l ≤ k → t.sides k ≡ idle_side) → Ready l t
  Ready-kept l s t h k q = record { active = λ c. omega (arith, h.active c, (k.rows c).active); sides = q }

  -- before the opening, and after a fill
  pub Ready-opening : (l p : ℕ) (s : State A) → s ≡ opening p → Ready l s
  Ready-opening l p s e = rw e (let r : Ready {A = A} l (opening p) = record { active = λ c. omega arith; sides = λ k h. refl } in r)

  pub Ready-fill : (l k c : ℕ) (ns : Units) (us : List A) (s : State A) → Ready l s → Ready l (effect k (entry.Fill c ns) us s)
  Ready-fill l k c ns us s h = record {
    active = λ j. elim (eqb_tells j c) [
      | inl y ↦ rw y.0 (h.active c)
      | inr y ↦ rw y.0 (h.active j)
    ];
    sides = h.sides;
  }

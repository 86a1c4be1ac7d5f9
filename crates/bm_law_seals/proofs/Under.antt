-- A drop that is under way stands last in its log, with its reply if that has come.
use Rattle.std.specs.Prelude.{◌≡◌, ◌≢◌, ◌&&◌, eqb, if◌then◌else◌, ℕ, false, [], ◌∷◌, ◌++◌, Option, Some, None}
use Rattle.std.proofs.Common.{◌∙◌, ap, eq-eqb, inl, inr, refl, subst, sym}
use Rattle.std.proofs.lemmas.Bool.Decides.{eqb_tells}
use Rattle.bm_journal.specs.declared.entry.Entry.{Entry}
use Rattle.bm_journal.specs.declared.entry.Entry.TheVariants as entry
use Rattle.bm_law.specs.Lists.{Log}
use Rattle.bm_law_order.specs.Lives.{Dropping, IsReply as IsReplied, Lives, LivesFit, answered_last, answered_still, lives_after, maker_of}
use Rattle.bm_law_seals.specs.Answered.{AreAnswered, GoesOn, IsAnswered, IsFree, IsReply}

-- the reply `last`, where it has come
abbrev pub answered : Option ℕ → ℕ → Log → Log
answered None l rest = rest
answered (Some home) l rest = (l, entry.Last) ∷ rest

-- a log has this drop of level l, and behind it and its reply the rest
pub record Under (log : Log) (l : ℕ) (d : Dropping) (rest : Log) : Type 0 where
  pub front : Log
  pub is : log ≡ front ++ (l, entry.Drop d.unit d.life) ∷ answered d.ended l rest

answer-at : (front : Log) (x : ℕ × Entry) (rest : Log) → AreAnswered (front ++ x ∷ rest) → IsAnswered x.0 x.1 rest
answer-at [] x rest h = h.0
answer-at (e ∷ front) x rest h = answer-at front x rest h.1

rest-answered : (x : ℕ × Entry) (front : Log) (rest : Log) → AreAnswered (front ++ x ∷ rest) → AreAnswered (x ∷ rest)
rest-answered x [] rest h = h
rest-answered x (e ∷ front) rest h = rest-answered x front rest h.1

-- the entry that answers a drop: its reply, or, where that has come, the free
abbrev Answers : Option ℕ → Entry → Type 0
Answers None e = IsReply e
Answers (Some home) e = IsFree e

under-next : (log : Log) (l k : ℕ) (d : Dropping) (e : Entry) (rest : Log) → AreAnswered log → Under log l d ((k, e) ∷ rest) → (k ≡ l) × Answers d.ended e
under-next log l k d e rest h u = go d.ended (answer-at u.front (l, entry.Drop d.unit d.life) (answered d.ended l ((k, e) ∷ rest)) (subst AreAnswered u.is h)) (rest-answered (l, entry.Drop d.unit d.life) u.front (answered d.ended l ((k, e) ∷ rest)) (subst AreAnswered u.is h)).1
  where
    go : (ended : Option ℕ) → GoesOn l IsReply (answered ended l ((k, e) ∷ rest)) → AreAnswered (answered ended l ((k, e) ∷ rest)) → (k ≡ l) × Answers ended e
    go None g a = g
    go (Some home) g a = a.0

not-answer : (ended : Option ℕ) (e : Entry) → (IsReply e → ⊥) → (IsFree e → ⊥) → Answers ended e → ⊥
not-answer None e a b h = a h
not-answer (Some home) e a b h = b h

abbrev pub dropped : ℕ → ℕ → Dropping
dropped v k = record { unit = v; life = k; ended = None }

some-same : (x y : Dropping) → Some x ≡ Some y → x ≡ y
some-same x y e = cc

module _ (log : Log) (p l : ℕ) (rest : Log) (lives : Lives) (whole : AreAnswered log) where
  -- so each drop of the processor that is under way stands before an entry
  abbrev Unders : Entry → Type 0
  Unders e = (j : ℕ) (d : Dropping) → lives.dropping p j ≡ Some d → Under log j d ((l, e) ∷ rest)

  other-level : (e : Entry) (j : ℕ) (d : Dropping) → Unders e → j ≢ l → lives.dropping p j ≡ Some d → ⊥
  other-level e j d unders ne is = ne (sym (under-next log j l d e rest whole (unders j d is)).0)

  bare : (d : Dropping) (o : Option Dropping) → o ≡ None → o ≡ Some d → ⊥
  bare d o e h = none-some (sym e ∙ h)
    where
      none-some : {x : Dropping} → None ≡ Some x → ⊥
      none-some e = cc

  drops-on : (v k : ℕ) (front : Log) → log ≡ front ++ (l, entry.Drop v k) ∷ rest → Unders (entry.Drop v k) → (j : ℕ) (d : Dropping) → (lives_after p l (entry.Drop v k) lives).dropping p j ≡ Some d → Under log j d rest
  drops-on v k front is unders j d h = elim (eqb_tells j l) [
    | inl y ↦
        (let now : Some (dropped v k) ≡ Some d = (rw (eq-eqb p p refl, y.0) at h) in
        let same : dropped v k ≡ d = some-same (dropped v k) d now in
        subst (λ z. Under log j z rest) same (record { front = front; is = is ∙ ap (λ m. front ++ (m, entry.Drop v k) ∷ rest) (sym y.1) }))
    | inr y ↦ absurd (other-level (entry.Drop v k) j d unders y.1 (rw (eq-eqb p p refl, y.0) at h))
  ]

  -- a drop that is under way no more
  gone-on : (e : Entry) → Unders e → (after : Lives) → ((j : ℕ) → after.dropping p j ≡ (if eqb p p && eqb j l then None else lives.dropping p j)) → (j : ℕ) (d : Dropping) → after.dropping p j ≡ Some d → Under log j d rest
  gone-on e unders after is j d h = elim (eqb_tells j l) [
    | inl y ↦ absurd (bare d (if eqb p p && eqb j l then None else lives.dropping p j) (rw (eq-eqb p p refl, y.0) refl) (sym (is j) ∙ h))
    | inr y ↦ absurd (other-level e j d unders y.1 (rw (eq-eqb p p refl, y.0) at (sym (is j) ∙ h)))
  ]

  lasts-on : (o : Option Dropping) → lives.dropping p l ≡ o → IsReplied p l 1 lives → Unders entry.Last → (j : ℕ) (d : Dropping) → (answered_last p l o lives).dropping p j ≡ Some d → Under log j d rest
  lasts-on None e r unders j d h = absurd (bare _ (lives.dropping p l) e r.under)
  lasts-on (Some x) e r unders j d h = elim (eqb_tells j l) [
    | inr y ↦ absurd (other-level entry.Last j d unders y.1 (rw (eq-eqb p p refl, y.0) at h))
    | inl y ↦
        (let unit : x.unit ≡ r.unit = ap unit_or (sym e ∙ r.under) in
        let open_still : x.ended ≡ None = ap ended_or (sym e ∙ r.under) in
        let held : maker_of (lives.holds x.unit) ≡ Some r.has.held.maker = ap maker_of (ap lives.holds unit ∙ r.has.holds) in
        let now : Some (record x { ended = maker_of (lives.holds x.unit) }) ≡ Some d = (rw (eq-eqb p p refl, y.0) at h) in
        let same : record x { ended = maker_of (lives.holds x.unit) } ≡ d = some-same (record x { ended = maker_of (lives.holds x.unit) }) d now in
        let old = unders l x e in
        subst (λ z. Under log j z rest) same (record {
          front = old.front;
          is = old.is
              ∙ (ap (λ m. old.front ++ (l, entry.Drop x.unit x.life) ∷ answered m l ((l, entry.Last) ∷ rest)) open_still
              ∙ (ap (λ m. old.front ++ (l, entry.Drop x.unit x.life) ∷ answered m l rest) (sym held)
              ∙ ap (λ m. old.front ++ (m, entry.Drop x.unit x.life) ∷ answered (maker_of (lives.holds x.unit)) m rest) (sym y.1)));
        }))
  ]
    where
      unit_or : Option Dropping → ℕ
      unit_or None = 0
      unit_or (Some x) = x.unit

      ended_or : Option Dropping → Option ℕ
      ended_or None = None
      ended_or (Some x) = x.ended

  stills-on : (k : ℕ) (o : Option Dropping) → lives.dropping p l ≡ o → IsReplied p l k lives → Unders (entry.Still k) → (j : ℕ) (d : Dropping) → (answered_still p l o lives).dropping p j ≡ Some d → Under log j d rest
  stills-on k None e r unders j d h = absurd (bare _ (lives.dropping p l) e r.under)
  stills-on k (Some x) e r unders j d h = gone-on (entry.Still k) unders (answered_still p l (Some x) lives) (λ i. refl) j d h

  none-on : (e : Entry) → (IsReply e → ⊥) → (IsFree e → ⊥) → Unders e → (j : ℕ) (d : Dropping) → lives.dropping p j ≡ Some d → Under log j d rest
  none-on e a b unders j d h = absurd (not-answer d.ended e a b (under-next log j l d e rest whole (unders j d h)).1)

  pub unders-on : (e : Entry) (front : Log) → log ≡ front ++ (l, e) ∷ rest → LivesFit p l e lives → Unders e → (j : ℕ) (d : Dropping) → (lives_after p l e lives).dropping p j ≡ Some d → Under log j d rest
  unders-on (entry.Drop v k) front is f unders = drops-on v k front is unders
  unders-on entry.Last front is f unders = lasts-on (lives.dropping p l) refl f unders
  unders-on (entry.Still k) front is f unders = stills-on k (lives.dropping p l) refl f.0 unders
  unders-on (entry.Free u home) front is f unders = gone-on (entry.Free u home) unders (lives_after p l (entry.Free u home) lives) (λ i. refl)
  unders-on (entry.Delay u home) front is f unders = gone-on (entry.Delay u home) unders (lives_after p l (entry.Delay u home) lives) (λ i. refl)
  unders-on e front is f unders = none-on e (λ h. h) (λ h. h) unders

-- drops of another processor, or of another level, stay
pub dropping-other : (p l q j : ℕ) (e : Entry) (lives : Lives) → (eqb q p && eqb j l) ≡ false → (lives_after p l e lives).dropping q j ≡ lives.dropping q j
dropping-other p l q j (entry.Drop v k) lives ne = rw ne refl
dropping-other p l q j (entry.Free u home) lives ne = rw ne refl
dropping-other p l q j (entry.Delay u home) lives ne = rw ne refl
dropping-other p l q j (entry.Still k) lives ne = go (lives.dropping p l)
  where
    go : (o : Option Dropping) → (answered_still p l o lives).dropping q j ≡ lives.dropping q j
    go None = refl
    go (Some d) = rw ne refl
dropping-other p l q j entry.Last lives ne = go (lives.dropping p l)
  where
    go : (o : Option Dropping) → (answered_last p l o lives).dropping q j ≡ lives.dropping q j
    go None = refl
    go (Some d) = rw ne refl
dropping-other p l q j _ lives ne = refl

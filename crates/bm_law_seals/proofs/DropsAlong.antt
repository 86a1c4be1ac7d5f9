-- What the log of one processor tells of drops, along an order: each drop fits, and what it ends is what its replies end in the order.
use Rattle.std.specs.Prelude.{◌≡◌, ◌≢◌, ◌+◌, ◌-◌, eqb, if◌then◌else◌, ℕ, List, [], ◌∷◌, ◌++◌, length, Option, Some, None}
use Rattle.std.proofs.Common.{◌∙◌, ap, arith, eq-eqb, inl, inr, length-append, ne_eqb, refl, subst, sym}
use Rattle.std.proofs.lemmas.Bool.Decides.{eqb_tells}
use Rattle.bm_journal.specs.declared.entry.Entry.{Entry}
use Rattle.bm_journal.specs.declared.entry.Entry.TheVariants as entry
use Rattle.bm_law.specs.Lists.{Log}
use Rattle.bm_law.specs.Spans.{own_entries}
use Rattle.bm_law_laid.specs.LivesEnded.{life_ended}
use Rattle.bm_law_laid.proofs.Onces.{beside-append, times-append}
use Rattle.bm_law_lives.specs.Lives.{DropsFit, ended_object, givers, objects_ended}
use Rattle.bm_law_lives.specs.Together.{beside, named_in, times}
use Rattle.bm_law_lives.specs.Units.{freed_units}
use Rattle.bm_law_order.specs.Lives.{Dropping, Life, Lives, LivesFit, answered_last, answered_still, counted, given_life, lives_after, maker_of}
use Rattle.bm_law_order.specs.Orders.{AllFit, Event, Order, over, part_of}
use Rattle.bm_law_seals.specs.Answered.{AreAnswered}
use Rattle.bm_law_seals.proofs.Drops.{Aside, Calm, Dropped, Ended, Fits, Made, Stage, Turn, aside, held, lacked, owed, turn}
use Rattle.bm_law_seals.proofs.Past.{own-part}
use Rattle.bm_law_seals.proofs.Under.{dropping-other}

-- ---- who made the lives

-- a life that this entry gives is given by its processor alone
abbrev pub GivesAlone : List Log → ℕ → Entry → Type 0
GivesAlone logs q (entry.Given v life) = givers v life logs ≡ q ∷ []
GivesAlone logs q (entry.GivenAfter v life x n) = givers v life logs ≡ q ∷ []
GivesAlone logs q _ = Unit {0}

abbrev pub AllGiveAlone : List Log → Order → Type 0
AllGiveAlone logs [] = Unit {0}
AllGiveAlone logs (e ∷ o) = GivesAlone logs e.processor e.entry × AllGiveAlone logs o

none-made : {A : Type 0} (x : A) → None ≡ Some x → ⊥
none-made x e = cc

module _ (logs : List Log) (lives : Lives) (made : Made logs lives) where
  gives-made : (q v life : ℕ) → life ≡ lives.begun v + 1 → givers v life logs ≡ q ∷ [] → Made logs (given_life q v lives)
  gives-made q v life next g w x h = elim (eqb_tells w v) [
    | inl y ↦
        (let maker : Some q ≡ Some x.maker = ap maker_of (rw y.0 at h) in
        rw y.0 (subst (λ z. givers z (lives.begun z + 1) logs ≡ x.maker ∷ []) (sym y.1) (subst (λ n. givers v n logs ≡ x.maker ∷ []) next (g ∙ ap (λ m. m ∷ []) (some-same maker)))))
    | inr y ↦ rw y.0 (made w x (rw y.0 at h))
  ]
    where
      some-same : {a b : ℕ} → Some a ≡ Some b → a ≡ b
      some-same e = cc

  recounts-made : (v : ℕ) (f : ℕ → ℕ) (w : ℕ) (x : Life) → (if eqb w v then counted f (lives.holds v) else lives.holds w) ≡ Some x → givers w (lives.begun w) logs ≡ x.maker ∷ []
  recounts-made v f w x h = elim (eqb_tells w v) [
    | inl y ↦ recounted (lives.holds w) refl (ap (λ z. counted f (lives.holds z)) y.1 ∙ (rw y.0 at h))
    | inr y ↦ made w x (rw y.0 at h)
  ]
    where
      maker-same : (a : Life) → counted f (Some a) ≡ Some x → a.maker ≡ x.maker
      maker-same a e = maker (ap maker_of e)
        where
          maker : Some a.maker ≡ Some x.maker → a.maker ≡ x.maker
          maker e = cc

      recounted : (o : Option Life) → lives.holds w ≡ o → counted f o ≡ Some x → givers w (lives.begun w) logs ≡ x.maker ∷ []
      recounted None is e = absurd (none-made x e)
      recounted (Some a) is e = made w a is ∙ ap (λ m. m ∷ []) (maker-same a e)

  stills-made : (p l : ℕ) (o : Option Dropping) → Made logs (answered_still p l o lives)
  stills-made p l None = made
  stills-made p l (Some d) = recounts-made d.unit (λ k. k - 1)

  lasts-made : (p l : ℕ) (o : Option Dropping) → Made logs (answered_last p l o lives)
  lasts-made p l None w x h = made w x h
  lasts-made p l (Some d) w x h = elim (eqb_tells w d.unit) [ inl y ↦ absurd (none-made x (rw y.0 at h)) | inr y ↦ made w x (rw y.0 at h) ]

  made-on : (q l : ℕ) (e : Entry) → LivesFit q l e lives → GivesAlone logs q e → Made logs (lives_after q l e lives)
  made-on q l (entry.Given v life) f g = gives-made q v life f.next_is g
  made-on q l (entry.GivenAfter v life x n) f g = gives-made q v life f.next_is g
  made-on q l (entry.Acquire v life k) f g = recounts-made v (λ n. n + 1)
  made-on q l (entry.Still k) f g = stills-made q l (lives.dropping q l)
  made-on q l entry.Last f g = lasts-made q l (lives.dropping q l)
  made-on q l _ f g = made

-- ---- one processor

-- the lives of unit u that replies of processor p end
abbrev pub ended_by : (u p : ℕ) → Order → Lives → List ℕ
ended_by u p [] lives = []
ended_by u p (e ∷ o) lives = (if eqb e.processor p then life_ended u e.processor e.level e.entry lives else []) ++ ended_by u p o (lives_after e.processor e.level e.entry lives)

-- a number that adds up
pub record Adds (f : List ℕ → ℕ) : Type 0 where
  pub none : f [] ≡ 0
  pub both : (xs ys : List ℕ) → f (xs ++ ys) ≡ f xs + f ys

-- What a log has from a stage on fits; what its drops end is what its replies end, but for a life whose free is lacking at last; and
-- what it frees is what its replies end, but for a life whose free is to come.
pub record Told (u p : ℕ) (logs : List Log) (o : Order) (lives : Lives) (rest : Log) (s : Stage p logs lives rest) : Type 0 where
  pub fits : Fits p logs lives rest s
  pub drops : DropsFit logs rest
  pub last : Stage p logs (over lives_after o lives) []
  pub ended : (f : List ℕ → ℕ) → Adds f → f (owed u p logs lives rest s) + f (beside u (objects_ended rest)) + f (lacked u p logs (over lives_after o lives) [] last)
      ≡ f (ended_by u p o lives) + f (lacked u p logs lives rest s)
  pub freed : times u (named_in freed_units rest) + length (held u p logs (over lives_after o lives) [] last) ≡ length (ended_by u p o lives) + length (held u p logs lives rest s)

told-none : (u p : ℕ) (logs : List Log) (lives : Lives) (s : Stage p logs lives []) → Told u p logs [] lives [] s
told-none u p logs lives (Calm h) = record { fits = tt; drops = tt; last = Calm h; ended = λ f a. (let z = a.none in omega (arith, z)); freed = refl }
told-none u p logs lives (Dropped l v k is none g) = record { fits = tt; drops = tt; last = Dropped l v k is none g; ended = λ f a. (let z = a.none in omega (arith, z)); freed = refl }
told-none u p logs lives (Ended l v k home is none g made) = record { fits = tt; drops = tt; last = Ended l v k home is none g made; ended = λ f a. (let z = a.none in omega (arith, z)); freed = omega arith }

told-own : (u : ℕ) (logs : List Log) (e : Event) (o : Order) (rest : Log) (lives : Lives) (s : Stage e.processor logs lives ((e.level, e.entry) ∷ rest)) (t : Turn u e.processor logs e.level e.entry rest lives s)
    → Told u e.processor logs o (lives_after e.processor e.level e.entry lives) rest t.next → Told u e.processor logs (e ∷ o) lives ((e.level, e.entry) ∷ rest) s
told-own u logs e o rest lives s t r =
    let p = e.processor in
    let l = e.level in
    let x = e.entry in
    let now : Lives = lives_after p l x lives in
    let by : List ℕ = ended_by u p o now in
    let ends : List ℕ = life_ended u p l x lives in
    let own : ended_by u p (e ∷ o) lives ≡ ends ++ by = rw (eq-eqb p p refl) refl in
    let all = t.fits r.fits in
    record {
      fits = all.0;
      drops = (all.1, r.drops);
      last = r.last;
      ended = λ f a.
          let here : List ℕ = beside u (ended_object x (own_entries l rest)) in
          let lacks : List ℕ = lacked u p logs now rest t.next in
          let before : List ℕ = lacked u p logs lives ((l, x) ∷ rest) s in
          let one = ap f t.ended in
          let one1 = a.both (owed u p logs lives ((l, x) ∷ rest) s) (here ++ lacks) in
          let one2 = a.both here lacks in
          let one3 = a.both ends (owed u p logs now rest t.next ++ before) in
          let one4 = a.both (owed u p logs now rest t.next) before in
          let more = r.ended f a in
          let both : f (beside u (ended_object x (own_entries l rest) ++ objects_ended rest)) ≡ f here + f (beside u (objects_ended rest)) = ap f (beside-append u (ended_object x (own_entries l rest)) (objects_ended rest)) ∙ a.both here (beside u (objects_ended rest)) in
          let split : f (ended_by u p (e ∷ o) lives) ≡ f ends + f by = ap f own ∙ a.both ends by in
          omega (arith, one, one1, one2, one3, one4, more, both, split);
      freed =
          let one = t.freed in
          let more = r.freed in
          let both = times-append u (freed_units x) (named_in freed_units rest) in
          let split : length (ended_by u p (e ∷ o) lives) ≡ length ends + length by = ap length own ∙ length-append ends by in
          omega (arith, one, more, both, split);
    }

told-other : (u p : ℕ) (logs : List Log) (e : Event) (o : Order) (rest : Log) (lives : Lives) (s : Stage p logs lives rest) (d : Aside u p logs rest lives (lives_after e.processor e.level e.entry lives) s) → e.processor ≢ p
    → Told u p logs o (lives_after e.processor e.level e.entry lives) rest d.next → Told u p logs (e ∷ o) lives rest s
told-other u p logs e o rest lives s d ne r =
    let skip : ended_by u p (e ∷ o) lives ≡ ended_by u p o (lives_after e.processor e.level e.entry lives) = rw (ne_eqb e.processor p ne) refl in
    record {
      fits = d.fits r.fits;
      drops = r.drops;
      last = r.last;
      ended = λ f a.
          let more = r.ended f a in
          let owes = ap f d.owes in
          let lacks = ap f d.lacks in
          let by = ap f skip in
          omega (arith, more, owes, lacks, by);
      freed =
          let more = r.freed in
          let holds = ap length d.holds in
          let by = ap length skip in
          omega (arith, more, holds, by);
    }

pub along : (u p : ℕ) (logs : List Log) (o : Order) (lives : Lives) (rest : Log) → part_of p o ≡ rest → (s : Stage p logs lives rest) → AllFit lives_after LivesFit o lives → Made logs lives → AllGiveAlone logs o → AreAnswered rest → Told u p logs o lives rest s
along u p logs [] lives rest is s fit made alone a = subst (λ r. (s : Stage p logs lives r) → Told u p logs [] lives r s) is (told-none u p logs lives) s
along u p logs (e ∷ o) lives rest is s fit made alone a =
    let now : Lives = lives_after e.processor e.level e.entry lives in
    let goes = made-on logs lives made e.processor e.level e.entry fit.0 alone.0 in
    elim (eqb_tells e.processor p) [
      | inl y ↦
          subst (λ q. (rest : Log) → part_of q (e ∷ o) ≡ rest → (s : Stage q logs lives rest) → AreAnswered rest → Told u q logs (e ∷ o) lives rest s) y.1
          (λ rest is s a. subst (λ r. (s : Stage e.processor logs lives r) → AreAnswered r → Told u e.processor logs (e ∷ o) lives r s) (sym (own-part e o) ∙ is)
          (λ s a. let t = turn u e.processor logs e.level (part_of e.processor o) lives e.entry s fit.0 made a.0 in told-own u logs e o (part_of e.processor o) lives s t (along u e.processor logs o now (part_of e.processor o) refl t.next fit.1 goes alone.1 a.1)) s a)
          rest is s a
      | inr y ↦
          (let d = aside u p logs rest lives now s (λ j. dropping-other e.processor e.level p j e.entry lives (rw (ne_eqb p e.processor (λ z. y.1 (sym z))) refl)) in
          told-other u p logs e o rest lives s d y.1 (along u p logs o now rest (rw y.0 at is) d.next fit.1 goes alone.1 a))
    ]

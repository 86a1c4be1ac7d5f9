-- How far the last drop of a processor has come: none is under way, its reply comes next, or its free does.
use Rattle.std.specs.Prelude.{◌≡◌, ◌≢◌, ◌+◌, ◌&&◌, ◌==◌, eqb, if◌then◌else◌, ℕ, Bool, true, false, List, [], ◌∷◌, ◌++◌, length, Option, Some, None}
use Rattle.std.proofs.Common.{◌∙◌, ap, arith, eq-eqb, inl, inr, ne_eqb, refl, subst, sym}
use Rattle.std.proofs.lemmas.Bool.Decides.{eqb_tells}
use Rattle.bm_journal.specs.declared.entry.Entry.{Entry}
use Rattle.bm_journal.specs.declared.entry.Entry.TheVariants as entry
use Rattle.bm_law.specs.Lists.{Log}
use Rattle.bm_law.specs.Spans.{own_entries}
use Rattle.bm_law_laid.specs.LivesEnded.{life_ended, life_of_drop}
use Rattle.bm_law_lives.specs.Lives.{DropFits, FreeFits, NamesHome, RestFits, ended_object, givers, is_free_of}
use Rattle.bm_law_lives.specs.Together.{beside, times}
use Rattle.bm_law_lives.specs.Units.{freed_units}
use Rattle.bm_law_order.specs.Lives.{Dropping, IsEnding, IsReply as IsReplied, Life, Lives, LivesFit, answered_last, answered_still, lives_after, maker_of}
use Rattle.bm_law_seals.specs.Answered.{GoesOn, IsAnswered, IsFree, IsReply}
use Rattle.bm_law_seals.proofs.Under.{dropped}

-- ---- stages

-- a drop that has ended a life, which this processor made
abbrev pub ending : (v k home : ℕ) → Dropping
ending v k home = record { unit = v; life = k; ended = Some home }

-- at no other level a drop of this processor is under way
abbrev NoOther : (p l : ℕ) → Lives → Type 0
NoOther p l lives = (j : ℕ) → j ≢ l → lives.dropping p j ≡ None

-- each life that a unit has was given by its maker alone
abbrev pub Made : List Log → Lives → Type 0
Made logs lives = (w : ℕ) (x : Life) → lives.holds w ≡ Some x → givers w (lives.begun w) logs ≡ x.maker ∷ []

-- Where the log of a processor has this rest, no drop of it is under way; or one is whose reply comes next; or one that has ended a life,
-- whose free comes next.
pub data Stage (p : ℕ) (logs : List Log) (lives : Lives) (rest : Log) : Type 0 where
  Calm : ((j : ℕ) → lives.dropping p j ≡ None) → Stage p logs lives rest
  Dropped : (l v k : ℕ) → lives.dropping p l ≡ Some (dropped v k) → NoOther p l lives → GoesOn l IsReply rest → Stage p logs lives rest
  Ended : (l v k home : ℕ) → lives.dropping p l ≡ Some (ending v k home) → NoOther p l lives → GoesOn l IsFree rest → givers v k logs ≡ home ∷ [] → Stage p logs lives rest

-- the life of unit u that the drop ends, by what its log has behind it
abbrev pub owed : (u p : ℕ) (logs : List Log) (lives : Lives) (rest : Log) → Stage p logs lives rest → List ℕ
owed u p logs lives rest (Calm h) = []
owed u p logs lives rest (Dropped l v k is none g) = beside u (ended_object (entry.Drop v k) (own_entries l rest))
owed u p logs lives rest (Ended l v k home is none g made) = []

-- the life of unit u that has ended and whose free is to come
abbrev pub held : (u p : ℕ) (logs : List Log) (lives : Lives) (rest : Log) → Stage p logs lives rest → List ℕ
held u p logs lives rest (Calm h) = []
held u p logs lives rest (Dropped l v k is none g) = []
held u p logs lives rest (Ended l v k home is none g made) = life_of_drop u (Some (ending v k home))

-- the same, where the log has no such free
abbrev is_freed : ℕ → List Entry → Bool
is_freed v [] = false
is_freed v (x ∷ own) = is_free_of v x

abbrev pub lacked : (u p : ℕ) (logs : List Log) (lives : Lives) (rest : Log) → Stage p logs lives rest → List ℕ
lacked u p logs lives rest (Calm h) = []
lacked u p logs lives rest (Dropped l v k is none g) = []
lacked u p logs lives rest (Ended l v k home is none g made) = if is_freed v (own_entries l rest) then [] else life_of_drop u (Some (ending v k home))

-- what is left of the drop fits
abbrev pub Fits : (p : ℕ) (logs : List Log) (lives : Lives) (rest : Log) → Stage p logs lives rest → Type 0
Fits p logs lives rest (Calm h) = Unit {0}
Fits p logs lives rest (Dropped l v k is none g) = RestFits v (givers v k logs) (own_entries l rest)
Fits p logs lives rest (Ended l v k home is none g made) = FreeFits v (givers v k logs) (own_entries l rest)

-- ---- one entry of the processor

-- It leads to a stage; what fits then, fits before; and what is owed, lacked and held before it is, but for what the entry ends and
-- frees, what is so then.
pub record Turn (u p : ℕ) (logs : List Log) (l : ℕ) (x : Entry) (rest : Log) (lives : Lives) (s : Stage p logs lives ((l, x) ∷ rest)) : Type 0 where
  pub next : Stage p logs (lives_after p l x lives) rest
  pub fits : Fits p logs (lives_after p l x lives) rest next → Fits p logs lives ((l, x) ∷ rest) s × DropFits logs x (own_entries l rest)
  pub ended : owed u p logs lives ((l, x) ∷ rest) s ++ (beside u (ended_object x (own_entries l rest)) ++ lacked u p logs (lives_after p l x lives) rest next)
      ≡ life_ended u p l x lives ++ (owed u p logs (lives_after p l x lives) rest next ++ lacked u p logs lives ((l, x) ∷ rest) s)
  pub freed : times u (freed_units x) + length (held u p logs (lives_after p l x lives) rest next) ≡ length (life_ended u p l x lives) + length (held u p logs lives ((l, x) ∷ rest) s)

none-some : (d : Dropping) → None ≡ Some d → ⊥
none-some d e = cc

abbrev unit_or : Option Dropping → ℕ
unit_or None = 0
unit_or (Some d) = d.unit

abbrev life_or : Option Dropping → ℕ
life_or None = 0
life_or (Some d) = d.life

abbrev number_or : Option ℕ → ℕ
number_or None = 0
number_or (Some n) = n

abbrev home_or : Option Dropping → ℕ
home_or None = 0
home_or (Some d) = number_or d.ended

module _ (u p : ℕ) (logs : List Log) (l : ℕ) (rest : Log) (lives : Lives) where
  own-first : (x : Entry) → own_entries l ((l, x) ∷ rest) ≡ x ∷ own_entries l rest
  own-first x = rw (eq-eqb l l refl) refl

  -- ---- where no drop is under way

  calm-drop : (v k : ℕ) (h : (j : ℕ) → lives.dropping p j ≡ None) → GoesOn l IsReply rest → Turn u p logs l (entry.Drop v k) rest lives (Calm h)
  calm-drop v k h g = record {
    next = Dropped l v k (rw (eq-eqb p p refl, eq-eqb l l refl) refl) (λ j ne. rw (eq-eqb p p refl, ne_eqb j l ne) (h j)) g;
    fits = λ f. (tt, f);
    ended = refl;
    freed = refl;
  }

  calm-other : (x : Entry) (h : (j : ℕ) → lives.dropping p j ≡ None) → ((j : ℕ) → (lives_after p l x lives).dropping p j ≡ lives.dropping p j) → ended_object x (own_entries l rest) ≡ [] → life_ended u p l x lives ≡ [] → freed_units x ≡ [] → DropFits logs x (own_entries l rest) → Turn u p logs l x rest lives (Calm h)
  calm-other x h same a b c d = record {
    next = Calm (λ j. same j ∙ h j);
    fits = λ f. (tt, d);
    ended = rw (a, b) refl;
    freed = rw (c, b) refl;
  }

  calm : (x : Entry) (h : (j : ℕ) → lives.dropping p j ≡ None) → LivesFit p l x lives → IsAnswered l x rest → Turn u p logs l x rest lives (Calm h)
  calm (entry.Drop v k) h f a = calm-drop v k h a
  calm entry.Last h f a = absurd (none-some _ (sym (h l) ∙ f.under))
  calm (entry.Still k) h f a = absurd (none-some _ (sym (h l) ∙ f.0.under))
  calm (entry.Free v home) h f a = absurd (none-some _ (sym (h l) ∙ f.under))
  calm (entry.Delay v home) h f a = absurd (none-some _ (sym (h l) ∙ f.under))
  calm x h f a = calm-other x h (λ j. refl) refl refl refl tt

  -- ---- where the reply comes next

  gone : NoOther p l lives → (j : ℕ) → (if eqb p p && eqb j l then None else lives.dropping p j) ≡ None
  gone none j = elim (eqb_tells j l) [ inl y ↦ rw (eq-eqb p p refl, y.0) refl | inr y ↦ rw (eq-eqb p p refl, y.0) (none j y.1) ]

  still-owes : (n v k : ℕ) (own : List Entry) → beside u (ended_object (entry.Drop v k) (entry.Still n ∷ own)) ≡ []
  still-owes n v k [] = refl
  still-owes n v k (x ∷ own) = refl

  dropped-still : (n v k : ℕ) (is : lives.dropping p l ≡ Some (dropped v k)) (none : NoOther p l lives) (g : GoesOn l IsReply ((l, entry.Still n) ∷ rest)) → Turn u p logs l (entry.Still n) rest lives (Dropped l v k is none g)
  dropped-still n v k is none g = record {
    next = Calm (λ j. subst (λ o. (answered_still p l o lives).dropping p j ≡ None) (sym is) (gone none j));
    fits = λ f. (subst (λ own. RestFits v (givers v k logs) own) (sym (own-first (entry.Still n))) tt, tt);
    ended = ap (λ z. z ++ []) (subst (λ own. beside u (ended_object (entry.Drop v k) own) ≡ []) (sym (own-first (entry.Still n))) (still-owes n v k (own_entries l rest)));
    freed = refl;
  }

  last-owes : (v k home : ℕ) (own : List Entry) → beside u (ended_object (entry.Drop v k) (entry.Last ∷ own)) ++ (if is_freed v own then [] else life_of_drop u (Some (ending v k home))) ≡ life_of_drop u (Some (dropped v k)) ++ []
  last-owes v k home own = cases own
    where
      same : (b : Bool) → (if b then k ∷ [] else []) ≡ (if b then k ∷ [] else []) ++ []
      same true = refl
      same false = refl

      by : (b : Bool) → beside u (if b then (v, k) ∷ [] else []) ++ (if b then [] else (if eqb u v then k ∷ [] else [])) ≡ (if eqb u v then k ∷ [] else []) ++ []
      by true = refl
      by false = same (eqb u v)

      cases : (own : List Entry) → beside u (ended_object (entry.Drop v k) (entry.Last ∷ own)) ++ (if is_freed v own then [] else life_of_drop u (Some (ending v k home))) ≡ life_of_drop u (Some (dropped v k)) ++ []
      cases [] = same (eqb u v)
      cases (x ∷ own) = by (is_free_of v x)

  dropped-last : (v k : ℕ) (is : lives.dropping p l ≡ Some (dropped v k)) (none : NoOther p l lives) (g : GoesOn l IsReply ((l, entry.Last) ∷ rest)) → IsReplied p l 1 lives → Made logs lives → GoesOn l IsFree rest → Turn u p logs l entry.Last rest lives (Dropped l v k is none g)
  dropped-last v k is none g r made a =
      let unit : v ≡ r.unit = ap unit_or (sym is ∙ r.under) in
      let life : k ≡ lives.begun v = ap life_or (sym is ∙ r.under) ∙ (r.has.now_is ∙ ap lives.begun (sym unit)) in
      let holds : lives.holds v ≡ Some r.has.held = ap lives.holds unit ∙ r.has.holds in
      let home : ℕ = r.has.held.maker in
      let now : (answered_last p l (lives.dropping p l) lives).dropping p l ≡ Some (ending v k home) =
      subst (λ o. (answered_last p l o lives).dropping p l ≡ Some (ending v k home)) (sym is) (rw (eq-eqb p p refl, eq-eqb l l refl) (ap (λ m. let d : Dropping = record { unit = v; life = k; ended = m } in Some d) (ap maker_of holds))) in
      let other : (j : ℕ) → j ≢ l → (answered_last p l (lives.dropping p l) lives).dropping p j ≡ None =
      λ j ne. subst (λ o. (answered_last p l o lives).dropping p j ≡ None) (sym is) (rw (eq-eqb p p refl, ne_eqb j l ne) (none j ne)) in
      let same : length (life_of_drop u (lives.dropping p l)) ≡ length (life_of_drop u (Some (ending v k home))) = ap (λ o. length (life_of_drop u o)) is in
      record {
        next = Ended l v k home now other a (subst (λ n. givers v n logs ≡ home ∷ []) (sym life) (made v r.has.held holds));
        fits = λ f. (subst (λ own. RestFits v (givers v k logs) own) (sym (own-first entry.Last)) f, tt);
        ended = ap (λ own. beside u (ended_object (entry.Drop v k) own) ++ (if is_freed v (own_entries l rest) then [] else life_of_drop u (Some (ending v k home)))) (own-first entry.Last)
            ∙ (last-owes v k home (own_entries l rest) ∙ ap (λ o. life_of_drop u o ++ []) (sym is));
        freed = omega (arith, same);
      }

  dropped-here : (x : Entry) (v k : ℕ) (is : lives.dropping p l ≡ Some (dropped v k)) (none : NoOther p l lives) (g : GoesOn l IsReply ((l, x) ∷ rest)) → LivesFit p l x lives → Made logs lives → IsAnswered l x rest → Turn u p logs l x rest lives (Dropped l v k is none g)
  dropped-here (entry.Still n) v k is none g f made a = dropped-still n v k is none g
  dropped-here entry.Last v k is none g f made a = dropped-last v k is none g f made a
  dropped-here x v k is none g f made a = absurd g.1

  -- ---- where the free comes next

  ended-frees : (x : Entry) (w to v k home : ℕ) (is : lives.dropping p l ≡ Some (ending v k home)) (none : NoOther p l lives) (g : GoesOn l IsFree ((l, x) ∷ rest)) (made : givers v k logs ≡ home ∷ []) → IsEnding p l w to lives
      → ((j : ℕ) → (lives_after p l x lives).dropping p j ≡ (if eqb p p && eqb j l then None else lives.dropping p j)) → ((homes : List ℕ) → w ≡ v → homes ≡ to ∷ [] → NamesHome v homes x) → is_free_of v x ≡ (v == w) → freed_units x ≡ w ∷ [] → ended_object x (own_entries l rest) ≡ [] → life_ended u p l x lives ≡ [] → DropFits logs x (own_entries l rest) → Turn u p logs l x rest lives (Ended l v k home is none g made)
  ended-frees x w to v k home is none g made r after names free units object life fit =
      let unit : v ≡ w = ap unit_or (sym is ∙ r.under) in
      let same : home ≡ to = ap home_or (sym is ∙ r.under) in
      let is_free : is_free_of v x ≡ true = free ∙ eq-eqb v w unit in
      let none_lacks : (if is_freed v (own_entries l ((l, x) ∷ rest)) then [] else life_of_drop u (Some (ending v k home))) ≡ [] =
      subst (λ own. (if is_freed v own then [] else life_of_drop u (Some (ending v k home))) ≡ []) (sym (own-first x)) (rw is_free refl) in
      record {
        next = Calm (λ j. after j ∙ gone none j);
        fits = λ f. (subst (λ own. FreeFits v (givers v k logs) own) (sym (own-first x)) (names (givers v k logs) (sym unit) (made ∙ ap (λ h. h ∷ []) same)), fit);
        ended = rw (object, life) (sym none_lacks);
        freed = rw (units, life) (subst (λ z. times u (z ∷ []) + 0 ≡ 0 + length (life_of_drop u (Some (ending v k home)))) unit (elim (eqb_tells u v) [ inl y ↦ rw y.0 refl | inr y ↦ rw y.0 refl ]));
      }

  ended-here : (x : Entry) (v k home : ℕ) (is : lives.dropping p l ≡ Some (ending v k home)) (none : NoOther p l lives) (g : GoesOn l IsFree ((l, x) ∷ rest)) (made : givers v k logs ≡ home ∷ []) → LivesFit p l x lives → Turn u p logs l x rest lives (Ended l v k home is none g made)
  ended-here (entry.Free w to) v k home is none g made f = ended-frees (entry.Free w to) w to v k home is none g made f (λ j. refl) (λ homes a b. (a, b)) refl refl refl refl tt
  ended-here (entry.Delay w to) v k home is none g made f = ended-frees (entry.Delay w to) w to v k home is none g made f (λ j. refl) (λ homes a b. (a, b)) refl refl refl refl tt
  ended-here x v k home is none g made f = absurd g.1

  -- ---- each stage

  pub turn : (x : Entry) (s : Stage p logs lives ((l, x) ∷ rest)) → LivesFit p l x lives → Made logs lives → IsAnswered l x rest → Turn u p logs l x rest lives s
  turn x (Calm h) f made a = calm x h f a
  turn x (Dropped m v k is none g) f made a = subst (λ m. (is : lives.dropping p m ≡ Some (dropped v k)) (none : NoOther p m lives) (g : GoesOn m IsReply ((l, x) ∷ rest)) → Turn u p logs l x rest lives (Dropped m v k is none g)) g.0
      (λ is none g. dropped-here x v k is none g f made a) is none g
  turn x (Ended m v k home is none g by) f made a = subst (λ m. (is : lives.dropping p m ≡ Some (ending v k home)) (none : NoOther p m lives) (g : GoesOn m IsFree ((l, x) ∷ rest)) → Turn u p logs l x rest lives (Ended m v k home is none g by)) g.0
      (λ is none g. ended-here x v k home is none g by f) is none g

-- ---- an entry of another processor

-- It leaves the stage as it is.
pub record Aside (u p : ℕ) (logs : List Log) (rest : Log) (lives now : Lives) (s : Stage p logs lives rest) : Type 0 where
  pub next : Stage p logs now rest
  pub owes : owed u p logs now rest next ≡ owed u p logs lives rest s
  pub lacks : lacked u p logs now rest next ≡ lacked u p logs lives rest s
  pub holds : held u p logs now rest next ≡ held u p logs lives rest s
  pub fits : Fits p logs now rest next → Fits p logs lives rest s

pub aside : (u p : ℕ) (logs : List Log) (rest : Log) (lives now : Lives) (s : Stage p logs lives rest) → ((j : ℕ) → now.dropping p j ≡ lives.dropping p j) → Aside u p logs rest lives now s
aside u p logs rest lives now (Calm h) same = record { next = Calm (λ j. same j ∙ h j); owes = refl; lacks = refl; holds = refl; fits = λ f. f }
aside u p logs rest lives now (Dropped l v k is none g) same = record { next = Dropped l v k (same l ∙ is) (λ j ne. same j ∙ none j ne) g; owes = refl; lacks = refl; holds = refl; fits = λ f. f }
aside u p logs rest lives now (Ended l v k home is none g made) same = record { next = Ended l v k home (same l ∙ is) (λ j ne. same j ∙ none j ne) g made; owes = refl; lacks = refl; holds = refl; fits = λ f. f }

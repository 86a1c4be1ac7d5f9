-- The law of lives over all logs, from an order of them.
use Rattle.std.specs.Prelude.{◌≡◌, ◌≢◌, ◌<◌, ◌≤◌, ◌+◌, ℕ, zero, suc, List, [], ◌∷◌, ◌++◌, None, Some, get_or, length, replicate}
use Rattle.std.proofs.Common.{◌∙◌, ap, arith, eq-eqb, inl, inr, length-append, ne_eqb, refl, subst, sym}
use Rattle.std.proofs.lemmas.Bool.{cases_lt}
use Rattle.std.proofs.lemmas.Bool.Decides.{eqb_tells}
use Rattle.bm_journal.specs.declared.entry.Entry.{Entry}
use Rattle.bm_journal.specs.declared.entry.Entry.TheVariants as entry
use Rattle.bm_law.specs.Lists.{Log}
use Rattle.bm_law.specs.Stands.{sum_to}
use Rattle.bm_law.proofs.Stands.{sum-same, sum-update, sum-zero}
use Rattle.bm_law_laid.specs.LivesEnded.{ended_of, ended_so_far, life_ended, lives_ended_over}
use Rattle.bm_law_laid.specs.LivesGiven.{life_given}
use Rattle.bm_law_laid.specs.Once.{Any, Once, named_by}
use Rattle.bm_law_laid.specs.OrderOf.{AllBelow, IsOrderOf}
use Rattle.bm_law_laid.proofs.Each.{each-below, each-log}
use Rattle.bm_law_laid.proofs.EndsOnce.{ends-counted, ends-once}
use Rattle.bm_law_laid.proofs.LivesOnce.{lives-once}
use Rattle.bm_law_laid.proofs.NamedParts.{named-parts}
use Rattle.bm_law_laid.proofs.Onces.{beside-append, times-append}
use Rattle.bm_law_laid.proofs.OverLogs.{fitting-lives, given-of}
use Rattle.bm_law_laid.proofs.Sums.{sum-logs}
use Rattle.bm_law_lives.specs.Lives.{DropsFit, LivesLaw, WholeLives, all_ended, given_object, givers, givers_from, lives_ended, lives_given, objects_ended}
use Rattle.bm_law_lives.specs.Together.{beside, named, named_in, times}
use Rattle.bm_law_lives.specs.Units.{FreedAsGiven, freed_units, given_units}
use Rattle.bm_law_order.specs.Lives.{Lives, LivesFit, first_lives, lives_after}
use Rattle.bm_law_order.specs.Orders.{AllFit, Event, Order, over, part_of}
use Rattle.bm_law_seals.specs.Answered.{AreAnswered}
use Rattle.bm_law_seals.proofs.Born.{all-given}
use Rattle.bm_law_seals.proofs.Drops.{Calm, Dropped, Ended, Stage, held, lacked}
use Rattle.bm_law_seals.proofs.DropsAlong.{Adds, AllGiveAlone, GivesAlone, Told, along, ended_by}
use Rattle.bm_law_seals.proofs.Past.{Past, own-part, past-on}

-- ---- each life is given once, so by one processor

most-once : (to x : ℕ) (xs : List ℕ) → Once Any 0 to xs → times x xs ≤ 1
most-once to x xs h = elim (cases_lt 0 x) [
  | inr low ↦ (let none = h.none x (inr (inl low)) in omega (arith, none))
  | inl pos ↦ elim (cases_lt to x) [
    | inl high ↦ (let none = h.none x (inr (inr high)) in omega (arith, none))
    | inr le ↦ (let once = h.once x tt pos le in omega (arith, once))
  ]
]

given-once : (u life : ℕ) (logs : List Log) (o : Order) → IsOrderOf logs o → AllFit lives_after LivesFit o first_lives → times life (lives_given u logs) ≤ 1
given-once u life logs o is fit =
    let same : times life (lives_given u logs) ≡ times life (named_by (life_given u) o) = ap (times life) (given-of u logs) ∙ named-parts (life_given u) logs o is life in
    let most = most-once ((over lives_after o first_lives).begun u) life (named_by (life_given u) o) (lives-once u o first_lives fit).given in
    omega (arith, same, most)

-- the lives of a unit that one log gives
abbrev given_in : ℕ → Log → List ℕ
given_in u log = beside u (named_in given_object log)

given-split : (u life : ℕ) (log : Log) (logs : List Log) → times life (lives_given u (log ∷ logs)) ≡ times life (given_in u log) + times life (lives_given u logs)
given-split u life log logs = ap (times life) (beside-append u (named_in given_object log) (named given_object logs)) ∙ times-append life (given_in u log) (lives_given u logs)

part-given : (u life p : ℕ) (logs : List Log) → p < length logs → times life (given_in u (get_or logs p [])) ≤ times life (lives_given u logs)
part-given u life p [] lt = absurd (omega (arith, lt))
part-given u life zero (log ∷ logs) lt = let s = given-split u life log logs in omega (arith, s)
part-given u life (suc p) (log ∷ logs) lt = let s = given-split u life log logs in let r = part-given u life p logs (omega (arith, lt)) in omega (arith, s, r)

none-give : (u life q : ℕ) (logs : List Log) → times life (lives_given u logs) ≡ 0 → givers_from q u life logs ≡ []
none-give u life q [] h = refl
none-give u life q (log ∷ logs) h =
    let s = given-split u life log logs in
    let here : times life (given_in u log) ≡ 0 = omega (arith, s, h) in
    ap (λ n. replicate n q ++ givers_from (q + 1) u life logs) here ∙ none-give u life (q + 1) logs (omega (arith, s, h))

one-gives : (u life q p : ℕ) (logs : List Log) → p < length logs → 0 < times life (given_in u (get_or logs p [])) → times life (lives_given u logs) ≤ 1 → givers_from q u life logs ≡ (q + p) ∷ []
one-gives u life q p [] lt some once = absurd (omega (arith, lt))
one-gives u life q zero (log ∷ logs) lt some once =
    let s = given-split u life log logs in
    let here : times life (given_in u log) ≡ 1 = omega (arith, s, some, once) in
    let same : q ≡ q + 0 = omega arith in
    ap (λ n. replicate n q ++ givers_from (q + 1) u life logs) here ∙ (ap (λ z. q ∷ z) (none-give u life (q + 1) logs (omega (arith, s, some, once))) ∙ ap (λ n. n ∷ []) same)
one-gives u life q (suc p) (log ∷ logs) lt some once =
    let s = given-split u life log logs in
    let r = part-given u life p logs (omega (arith, lt)) in
    let here : times life (given_in u log) ≡ 0 = omega (arith, s, r, some, once) in
    let same : (q + 1) + p ≡ q + suc p = omega arith in
    ap (λ n. replicate n q ++ givers_from (q + 1) u life logs) here ∙ (one-gives u life (q + 1) p logs (omega (arith, lt)) some (omega (arith, s, once)) ∙ ap (λ n. n ∷ []) same)

-- an entry of a log that gives it
gives-here : (u life l : ℕ) (x : Entry) (front rest : Log) → given_object x ≡ (u, life) ∷ [] → 0 < times life (given_in u (front ++ (l, x) ∷ rest))
gives-here u life l x [] rest h = subst (λ xs. 0 < times life (beside u (xs ++ named_in given_object rest))) (sym h) (rw (eq-eqb u u refl) (rw (eq-eqb life life refl) (omega arith)))
gives-here u life l x (e ∷ front) rest h =
    let more = gives-here u life l x front rest h in
    let s : times life (given_in u (e ∷ (front ++ (l, x) ∷ rest))) ≡ times life (beside u (given_object e.1)) + times life (given_in u (front ++ (l, x) ∷ rest)) =
    ap (times life) (beside-append u (given_object e.1) (named_in given_object (front ++ (l, x) ∷ rest))) ∙ times-append life (beside u (given_object e.1)) (given_in u (front ++ (l, x) ∷ rest)) in
    omega (arith, more, s)

module _ (logs : List Log) (once : (u life : ℕ) → times life (lives_given u logs) ≤ 1) where
  alone : (e : Event) (o : Order) → e.processor < length logs → Past logs (e ∷ o) → (u life : ℕ) → given_object e.entry ≡ (u, life) ∷ [] → givers u life logs ≡ e.processor ∷ []
  alone e o lt past u life gives =
      let h = past e.processor lt in
      let at : get_or logs e.processor [] ≡ h.0 ++ (e.level, e.entry) ∷ part_of e.processor o = h.1 ∙ ap (λ z. h.0 ++ z) (own-part e o) in
      let some = subst (λ (z : Log). 0 < times life (given_in u z)) (sym at) (gives-here u life e.level e.entry h.0 (part_of e.processor o) gives) in
      let same : 0 + e.processor ≡ e.processor = omega arith in
      one-gives u life 0 e.processor logs lt some (once u life) ∙ ap (λ n. n ∷ []) same

  gives-alone : (q : ℕ) (x : Entry) → ((u life : ℕ) → given_object x ≡ (u, life) ∷ [] → givers u life logs ≡ q ∷ []) → GivesAlone logs q x
  gives-alone q (entry.Given u life) h = h u life refl
  gives-alone q (entry.GivenAfter u life stamp seen) h = h u life refl
  gives-alone q _ h = tt

  all-alone : (o : Order) → AllBelow (length logs) o → Past logs o → AllGiveAlone logs o
  all-alone [] below past = tt
  all-alone (e ∷ o) below past = (gives-alone e.processor e.entry (alone e o below.0 past), all-alone o below.1 (past-on logs e o past))

-- ---- what replies of all processors end

module _ (u : ℕ) (f : List ℕ → ℕ) (adds : Adds f) where
  ended-here : (n : ℕ) (e : Event) (o : Order) (lives : Lives) → n ≡ e.processor
      → f (ended_by u n (e ∷ o) lives) ≡ f (life_ended u e.processor e.level e.entry lives) + f (ended_by u n o (lives_after e.processor e.level e.entry lives))
  ended-here n e o lives same = elim (eqb_tells e.processor n) [
    | inl y ↦ rw y.0 (adds.both (life_ended u e.processor e.level e.entry lives) (ended_by u n o (lives_after e.processor e.level e.entry lives)))
    | inr y ↦ absurd (y.1 (sym same))
  ]

  ended-there : (n : ℕ) (e : Event) (o : Order) (lives : Lives) → n ≢ e.processor → f (ended_by u n (e ∷ o) lives) ≡ f (ended_by u n o (lives_after e.processor e.level e.entry lives))
  ended-there n e o lives ne = rw (ne_eqb e.processor n (λ s. ne (sym s))) refl

  all-ended-by : (n : ℕ) (o : Order) (lives : Lives) → AllBelow n o → sum_to n (λ p. f (ended_by u p o lives)) ≡ f (lives_ended_over u o lives)
  all-ended-by n [] lives h = sum-same n (λ p. 0) (λ p. f []) (λ p lt. adds.none) ∙ (sum-zero n ∙ sym adds.none)
  all-ended-by n (e ∷ o) lives h =
      let now : Lives = lives_after e.processor e.level e.entry lives in
      let more = sum-update n e.processor (λ p. f (ended_by u p o now)) (λ p. f (ended_by u p (e ∷ o) lives)) h.0 (λ p ne. ended-there p e o lives ne) in
      let here = ended-here e.processor e o lives refl in
      let rest = all-ended-by n o now h.1 in
      let both = adds.both (life_ended u e.processor e.level e.entry lives) (lives_ended_over u o now) in
      omega (arith, more, here, rest, both)

  logs-ended : (logs : List Log) → sum_to (length logs) (λ p. f (beside u (objects_ended (get_or logs p [])))) ≡ f (lives_ended u logs)
  logs-ended = sum-logs (λ log. f (beside u (objects_ended log))) (λ ls. f (lives_ended u ls)) adds.none (λ log ls. ap f (beside-append u (objects_ended log) (all_ended ls)) ∙ adds.both (beside u (objects_ended log)) (lives_ended u ls))

sum-most : (n : ℕ) (f g : ℕ → ℕ) → ((k : ℕ) → k < n → f k ≤ g k) → sum_to n f ≤ sum_to n g
sum-most zero f g h = omega arith
sum-most (suc n) f g h =
    let a = h n (omega arith) in
    let b = sum-most n f g (λ k lt. h k (omega (arith, lt))) in
    omega (arith, a, b)

times-adds : (k : ℕ) → Adds (times k)
times-adds k = record { none = refl; both = times-append k }

length-adds : Adds length
length-adds = record { none = refl; both = λ xs ys. length-append xs ys }

-- ---- lives that are given, counted by units

given-one : (u : ℕ) (x : Entry) → length (beside u (given_object x)) ≡ times u (given_units x)
given-one u (entry.Given v life) = elim (eqb_tells u v) [ inl y ↦ rw y.0 refl | inr y ↦ rw y.0 refl ]
given-one u (entry.GivenAfter v life stamp seen) = elim (eqb_tells u v) [ inl y ↦ rw y.0 refl | inr y ↦ rw y.0 refl ]
given-one u _ = refl

given-log : (u : ℕ) (log : Log) → length (given_in u log) ≡ times u (named_in given_units log)
given-log u [] = refl
given-log u (e ∷ log) =
    let here = given-one u e.1 in
    let more = given-log u log in
    let a : length (given_in u (e ∷ log)) ≡ length (beside u (given_object e.1)) + length (given_in u log) = ap length (beside-append u (given_object e.1) (named_in given_object log)) ∙ length-append (beside u (given_object e.1)) (given_in u log) in
    let b = times-append u (given_units e.1) (named_in given_units log) in
    omega (arith, here, more, a, b)

given-logs : (u : ℕ) (logs : List Log) → length (lives_given u logs) ≡ times u (named given_units logs)
given-logs u [] = refl
given-logs u (log ∷ logs) =
    let here = given-log u log in
    let more = given-logs u logs in
    let a : length (lives_given u (log ∷ logs)) ≡ length (given_in u log) + length (lives_given u logs) = ap length (beside-append u (named_in given_object log) (named given_object logs)) ∙ length-append (given_in u log) (lives_given u logs) in
    let b = times-append u (named_in given_units log) (named given_units logs) in
    omega (arith, here, more, a, b)

-- ---- the laws

none-made : {A : Type 0} (x : A) → None ≡ Some x → ⊥
none-made x e = cc

nothing-lacks : (u p : ℕ) (logs : List Log) (lives : Lives) (s : Stage p logs lives []) → ((l : ℕ) → lives.dropping p l ≡ None) → (lacked u p logs lives [] s ≡ []) × (held u p logs lives [] s ≡ [])
nothing-lacks u p logs lives (Calm h) none = (refl, refl)
nothing-lacks u p logs lives (Dropped l v k is other g) none = (refl, refl)
nothing-lacks u p logs lives (Ended l v k home is other g made) none = absurd (none-made _ (sym (none l) ∙ is))

module _ (logs : List Log) (o : Order) (is : IsOrderOf logs o) (fit : AllFit lives_after LivesFit o first_lives) (answered : (p : ℕ) → AreAnswered (part_of p o)) where
  abbrev begins : (p : ℕ) → Stage p logs first_lives (get_or logs p [])
  begins p = Calm (λ j. refl)

  told : (u p : ℕ) → p < length logs → Told u p logs o first_lives (get_or logs p []) (begins p)
  told u p lt = along u p logs o first_lives (get_or logs p []) (is.parts p lt) (begins p) fit (λ w x h. absurd (none-made x h))
      (all-alone logs (λ v life. given-once v life logs o is fit) o is.below (λ q there. ([], sym (is.parts q there)))) (subst AreAnswered (is.parts p lt) (answered p))

  -- no more ends in logs than in the order
  ends-most : (u : ℕ) (f : List ℕ → ℕ) → Adds f → f (lives_ended u logs) ≤ f (lives_ended_over u o first_lives)
  ends-most u f adds =
      let a = logs-ended u f adds logs in
      let b = all-ended-by u f adds (length logs) o first_lives is.below in
      let none = adds.none in
      let most = sum-most (length logs) (λ p. f (beside u (objects_ended (get_or logs p [])))) (λ p. f (ended_by u p o first_lives)) (λ p lt. (let t = (told u p lt).ended f adds in omega (arith, t, none))) in
      omega (arith, a, b, most)

  ends-at-most : (u k : ℕ) → times k (lives_ended u logs) ≤ 1
  ends-at-most u k =
      let few = ends-most u (times k) (times-adds k) in
      let most = most-once (ended_so_far u (over lives_after o first_lives)) k (lives_ended_over u o first_lives) (ends-once u o first_lives fit tt).each in
      omega (arith, few, most)

  pub lives-law : LivesLaw logs
  lives-law = record {
    given = λ u. fitting-lives u logs o is fit;
    ended = λ u. each-below (λ k. times (k + 1) (lives_ended u logs) ≤ 1) (length (lives_given u logs)) (λ k lt. ends-at-most u (k + 1));
    homes = each-log (λ p log. DropsFit logs log) logs (λ p lt. (told 0 p lt).drops);
  }

  module _ (none : (u : ℕ) → (over lives_after o first_lives).holds u ≡ None) (calm : (p l : ℕ) → (over lives_after o first_lives).dropping p l ≡ None) where
    -- the order ends each life that it gives
    over-all : (u : ℕ) → length (lives_ended_over u o first_lives) ≡ length (lives_given u logs)
    over-all u =
        let counted = ends-counted u o first_lives fit tt in
        let given = all-given u logs o is fit in
        let all : ended_so_far u (over lives_after o first_lives) ≡ (over lives_after o first_lives).begun u = ap (ended_of ((over lives_after o first_lives).begun u)) (none u) in
        omega (arith, counted, given, all)

    ends-same : (u : ℕ) → length (lives_ended u logs) ≡ length (lives_ended_over u o first_lives)
    ends-same u =
        let a = logs-ended u length length-adds logs in
        let b = all-ended-by u length length-adds (length logs) o first_lives is.below in
        let same = sum-same (length logs) (λ p. length (ended_by u p o first_lives)) (λ p. length (beside u (objects_ended (get_or logs p [])))) (λ p lt.
        let t = told u p lt in
        let n = t.ended length length-adds in
        let z = ap length (nothing-lacks u p logs (over lives_after o first_lives) t.last (calm p)).0 in
        omega (arith, n, z)) in
        omega (arith, a, b, same)

    pub whole-lives : WholeLives logs
    whole-lives = record { law = lives-law; each_ended = λ u. ends-same u ∙ over-all u }

    frees-same : (u : ℕ) → times u (named freed_units logs) ≡ length (lives_ended_over u o first_lives)
    frees-same u =
        let a = sum-logs (λ log. times u (named_in freed_units log)) (λ ls. times u (named freed_units ls)) refl (λ log ls. times-append u (named_in freed_units log) (named freed_units ls)) logs in
        let b = all-ended-by u length length-adds (length logs) o first_lives is.below in
        let same = sum-same (length logs) (λ p. length (ended_by u p o first_lives)) (λ p. times u (named_in freed_units (get_or logs p []))) (λ p lt.
        let t = told u p lt in
        let n = t.freed in
        let z = ap length (nothing-lacks u p logs (over lives_after o first_lives) t.last (calm p)).1 in
        omega (arith, n, z)) in
        omega (arith, a, b, same)

    pub freed-as-given : FreedAsGiven logs
    freed-as-given u = frees-same u ∙ (over-all u ∙ given-logs u logs)

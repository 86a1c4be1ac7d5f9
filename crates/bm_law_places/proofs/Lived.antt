-- What an entry moves to a life and from it.
use Rattle.std.specs.Prelude.{◌≡◌, ◌+◌, ◌-◌, ℕ, eqb, if◌then◌else◌, ◌&&◌, Bool, true, false, List, [], ◌∷◌, Option, Some, None, is_some}
use Rattle.std.proofs.Common.{refl, ◌∙◌, ap, arith, inl, inr, eqb-true}
use Rattle.std.proofs.lemmas.Bool.{and_parts, cases_Bool}
use Rattle.std.proofs.lemmas.Bool.Decides.{eqb_tells}
use Rattle.bm_journal.specs.EntryText.{unit_list}
use Rattle.bm_journal.specs.declared.entry.Entry.{Entry}
use Rattle.bm_journal.specs.declared.entry.Entry.TheVariants as entry
use Rattle.bm_law.specs.Stands.{times}
use Rattle.bm_law_order.specs.Lives.{Dropping, Life, Lives, LivesFit, answered_last, answered_still, counted, given_life, maker_of, with_drop, with_life}
use Rattle.bm_law_places.specs.Place.{Ending, Inbox, Living, ending, times_at}
use Rattle.bm_law_places.specs.World.{World, world_after}
use Rattle.bm_law_places.proofs.MoveOf.{dropped, move_of, sent_from}
use Rattle.bm_law_places.proofs.Moved.{come, moves, taken}

abbrev pub living : Option Life → ℕ
living life = if is_some life then 1 else 0

-- ---- lives

gives : (p u v : ℕ) (lives : Lives) → lives.holds v ≡ None → living ((given_life p v lives).holds u) + 0 ≡ living (lives.holds u) + times u (v ∷ [])
gives p u v lives none = elim (eqb_tells u v) [
  | inl y ↦ rw y.0 (let was = ap living (ap lives.holds y.1 ∙ none) in omega (arith, was))
  | inr y ↦ rw y.0 refl
]

counts : (f : ℕ → ℕ) (life : Option Life) → living (counted f life) ≡ living life
counts f None = refl
counts f (Some life) = refl

-- another number of references to the life that the unit has, or none
recounts : (f : ℕ → ℕ) (u v : ℕ) (lives : Lives) → living ((with_life v (counted f (lives.holds v)) lives).holds u) + 0 ≡ living (lives.holds u) + 0
recounts f u v lives = elim (eqb_tells u v) [
  | inl y ↦ rw y.0 (let a = counts f (lives.holds v) in let b = ap (λ w. living (lives.holds w)) y.1 in omega (arith, a, b))
  | inr y ↦ rw y.0 refl
]

still-lives : (p l u : ℕ) (o : Option Dropping) (lives : Lives) → living ((answered_still p l o lives).holds u) + 0 ≡ living (lives.holds u) + 0
still-lives p l u None lives = refl
still-lives p l u (Some d) lives = recounts (λ k. k - 1) u d.unit lives

last-lives : (p l u unit life : ℕ) (held : Life) (o : Option Dropping) (lives : Lives) → o ≡ Some (record { unit = unit; life = life; ended = None }) → lives.holds unit ≡ Some held →
    living ((answered_last p l o lives).holds u) + times u (dropped o) ≡ living (lives.holds u) + 0
last-lives p l u unit life held None lives is has = absurd (cc)
last-lives p l u unit life held (Some d) lives is has =
    let same : d.unit ≡ unit = ap unit_of is in
    elim (eqb_tells u d.unit) [
      | inl y ↦ rw y.0 (let was = ap living (ap lives.holds (y.1 ∙ same) ∙ has) in omega (arith, was))
      | inr y ↦ rw y.0 refl
    ]
  where
    unit_of : Option Dropping → ℕ
    unit_of None = 0
    unit_of (Some x) = x.unit

pub life-balanced : (u p l : ℕ) (e : Entry) (w : World) → LivesFit p l e w.shared.lives →
    times_at u Living (world_after p l e w) + taken u Living (move_of p l e w) ≡ times_at u Living w + come u Living (move_of p l e w)
life-balanced u p l (entry.Given v life) w f = gives p u v w.shared.lives f.none
life-balanced u p l (entry.GivenAfter v life stamp seen) w f = gives p u v w.shared.lives f.none
life-balanced u p l (entry.Acquire v life k) w f = recounts (λ n. n + 1) u v w.shared.lives
life-balanced u p l (entry.Still k) w f = still-lives p l u (w.shared.lives.dropping p l) w.shared.lives
life-balanced u p l entry.Last w f = last-lives p l u f.unit f.life f.has.held (w.shared.lives.dropping p l) w.shared.lives f.under f.has.holds
life-balanced u p l (entry.Send c to us) w f = go ((w.lists p).sides l).hand
  where
    go : (hand : List ℕ) → times_at u Living w + taken u Living (moves (sent_from p l c hand) (Inbox to c) (unit_list us)) ≡ times_at u Living w + 0
    go [] = refl
    go (v ∷ vs) = refl
life-balanced u p l _ w f = refl

-- ---- drops that have ended a life

-- what is under way at a level changes from one drop to another
drops-to : (u p l q j : ℕ) (drop : Option Dropping) (lives : Lives) → times u (ending ((with_drop p l drop lives).dropping q j)) ≡ (if eqb q p && eqb j l then times u (ending drop) else times u (ending (lives.dropping q j)))
drops-to u p l q j drop lives = elim (cases_Bool (eqb q p && eqb j l)) [ inl y ↦ rw y refl | inr y ↦ rw y refl ]

dropped-there : (p l q j : ℕ) (lives : Lives) → eqb q p && eqb j l ≡ true → lives.dropping q j ≡ lives.dropping p l
dropped-there p l q j lives h =
    let both = and_parts (eqb q p) (eqb j l) h in
    ap (λ x. lives.dropping x j) (eqb-true q p both.0) ∙ ap (lives.dropping p) (eqb-true j l both.1)

-- so many more than before, or so many less
ends : (u p l q j n m : ℕ) (drop : Option Dropping) (lives : Lives) → times u (ending drop) + n ≡ times u (ending (lives.dropping p l)) + m →
    times u (ending ((with_drop p l drop lives).dropping q j)) + (if eqb q p && eqb j l then n else 0) ≡ times u (ending (lives.dropping q j)) + (if eqb q p && eqb j l then m else 0)
ends u p l q j n m drop lives e = elim (cases_Bool (eqb q p && eqb j l)) [
  | inl y ↦ rw y (let same = ap (λ d. times u (ending d)) (dropped-there p l q j lives y) in omega (arith, e, same))
  | inr y ↦ rw y refl
]

none-if : (here : Bool) (n : ℕ) → n ≡ 0 → (if here then n else n) ≡ 0
none-if true n e = e
none-if false n e = e

both-none : (a b x y : ℕ) → x ≡ 0 → y ≡ 0 → a + x ≡ b + y → a + 0 ≡ b + 0
both-none a b x y p q e = omega (arith, p, q, e)

taken-none : (a b x y : ℕ) → x ≡ 0 → a + x ≡ b + y → a + 0 ≡ b + y
taken-none a b x y p e = omega (arith, p, e)

come-none : (a b x y : ℕ) → y ≡ 0 → a + x ≡ b + y → a + x ≡ b + 0
come-none a b x y q e = omega (arith, q, e)

-- nothing is taken and nothing comes
ends-same : (u p l q j : ℕ) (drop : Option Dropping) (lives : Lives) → ending drop ≡ [] → ending (lives.dropping p l) ≡ [] →
    times u (ending ((with_drop p l drop lives).dropping q j)) + 0 ≡ times u (ending (lives.dropping q j)) + 0
ends-same u p l q j drop lives now was =
    both-none _ _ _ _ (none-if (eqb q p && eqb j l) 0 refl) (none-if (eqb q p && eqb j l) 0 refl) (ends u p l q j 0 0 drop lives (let a = ap (times u) now in let b = ap (times u) was in omega (arith, a, b)))

still-ends : (u p l q j unit life : ℕ) (o : Option Dropping) (lives : Lives) → lives.dropping p l ≡ o → o ≡ Some (record { unit = unit; life = life; ended = None }) →
    times u (ending ((answered_still p l o lives).dropping q j)) + 0 ≡ times u (ending (lives.dropping q j)) + 0
still-ends u p l q j unit life None lives here is = refl
still-ends u p l q j unit life (Some d) lives here is = ends-same u p l q j None (with_life d.unit (counted (λ k. k - 1) (lives.holds d.unit)) lives) refl (ap ending (here ∙ is))

last-ends : (u p l q j unit life : ℕ) (held : Life) (o : Option Dropping) (lives : Lives) → lives.dropping p l ≡ o → o ≡ Some (record { unit = unit; life = life; ended = None }) → lives.holds unit ≡ Some held →
    times u (ending ((answered_last p l o lives).dropping q j)) + 0 ≡ times u (ending (lives.dropping q j)) + (if eqb q p && eqb j l then times u (dropped o) else 0)
last-ends u p l q j unit life held None lives here is has = absurd (cc)
last-ends u p l q j unit life held (Some d) lives here is has =
    let same : d.unit ≡ unit = ap unit_of is in
    let makes : maker_of (lives.holds d.unit) ≡ Some held.maker = ap maker_of (ap lives.holds same ∙ has) in
    let now : ending (Some (record d { ended = maker_of (lives.holds d.unit) })) ≡ d.unit ∷ [] = ap (λ (m : Option ℕ). ending (Some (record d { ended = m }))) makes in
    taken-none _ _ _ _ (none-if (eqb q p && eqb j l) 0 refl) (ends u p l q j 0 (times u (d.unit ∷ [])) (Some (record d { ended = maker_of (lives.holds d.unit) })) (with_life d.unit None lives) (let a = ap (times u) now in let b = ap (λ x. times u (ending x)) (here ∙ is) in omega (arith, a, b)))
  where
    unit_of : Option Dropping → ℕ
    unit_of None = 0
    unit_of (Some x) = x.unit

freed-ends : (u p l q j v life home : ℕ) (lives : Lives) → lives.dropping p l ≡ Some (record { unit = v; life = life; ended = Some home }) →
    times u (ending ((with_drop p l None lives).dropping q j)) + (if eqb q p && eqb j l then times u (v ∷ []) else 0) ≡ times u (ending (lives.dropping q j)) + 0
freed-ends u p l q j v life home lives is =
    come-none _ _ _ _ (none-if (eqb q p && eqb j l) 0 refl) (ends u p l q j (times u (v ∷ [])) 0 None lives (let b = ap (λ x. times u (ending x)) is in omega (arith, b)))

pub ending-balanced : (u p l q j : ℕ) (e : Entry) (w : World) → LivesFit p l e w.shared.lives →
    times_at u (Ending q j) (world_after p l e w) + taken u (Ending q j) (move_of p l e w) ≡ times_at u (Ending q j) w + come u (Ending q j) (move_of p l e w)
ending-balanced u p l q j (entry.Drop v life) w f = ends-same u p l q j _ w.shared.lives refl (ap ending f.none)
ending-balanced u p l q j (entry.Still k) w f = still-ends u p l q j f.0.unit f.0.life (w.shared.lives.dropping p l) w.shared.lives refl f.0.under
ending-balanced u p l q j entry.Last w f = last-ends u p l q j f.unit f.life f.has.held (w.shared.lives.dropping p l) w.shared.lives refl f.under f.has.holds
ending-balanced u p l q j (entry.Free v home) w f = freed-ends u p l q j v f.life home w.shared.lives f.under
ending-balanced u p l q j (entry.Delay v home) w f = freed-ends u p l q j v f.life home w.shared.lives f.under
ending-balanced u p l q j (entry.Send c to us) w f = go ((w.lists p).sides l).hand
  where
    go : (hand : List ℕ) → times_at u (Ending q j) w + taken u (Ending q j) (moves (sent_from p l c hand) (Inbox to c) (unit_list us)) ≡ times_at u (Ending q j) w + 0
    go [] = refl
    go (v ∷ vs) = refl
ending-balanced u p l q j _ w f = refl

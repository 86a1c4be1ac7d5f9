-- Batches that pass, or don't.
use Rattle.std.proofs.Common.{◌≡◌, ◌<◌, ◌≤◌, ◌-◌, ◌++◌, ℕ, suc, Bool, true, false, nat_eq, nat_le, List, [], Option, None, Some, refl, sym, ◌∙◌, subst, arith, inl, inr}
use Rattle.std.specs.List.{All}
use Rattle.std.proofs.lemmas.Bool.Decides.{eqb_tells, leb_tells}
use Rattle.std.proofs.lemmas.Grind.{common_steps}
use Rattle.bm_journal.specs.declared.ids.Domain.{Domain}
use Rattle.bm_journal.specs.declared.ids.Domain.TheVariants.{Plain}
use Rattle.bm_grace.specs.declared.answer.Done.TheVariants.{Passed}
use Rattle.bm_law.specs.State.{State}
use Rattle.bm_law.specs.Lists.{Log, after, is_unstamped}
use Rattle.bm_law.specs.Places.{First}
use Rattle.bm_cache.specs.Tokens.{Token}
use Rattle.bm_cache.specs.Tests.{Tests, Passes, Proper}
use Rattle.bm_law_work.specs.Parts.{Part, Nothing, Say, If}
use Rattle.bm_law_work.specs.WorkPhrases.{Passing}
use Rattle.bm_work.specs.Dated.{Dated}
use Rattle.bm_work.specs.DeskTests.{Ripened, ripe_test}
use Rattle.bm_work.specs.Periods.{Sees}
use Rattle.bm_work.specs.Stops.{Missing, StopPassed}

le-true : (a b : ℕ) → a ≤ b → nat_le a b ≡ true
le-true a b h =
    elim (leb_tells a b) [
      | inl y ↦ y.0
      | inr y ↦ absurd (omega (arith, h, y.1))
    ]

le-false : (a b : ℕ) → b < a → nat_le a b ≡ false
le-false a b h =
    elim (leb_tells a b) [
      | inl y ↦ absurd (omega (arith, h, y.1))
      | inr y ↦ y.0
    ]

module _ (l c : ℕ) (d : Domain) (n stamp : ℕ) (passed : Part) where
  not-yet : (s : State ℕ) (part : Log) → n < stamp → Say l (Sees c d n) s part → Passing l c d (Some stamp) passed s part
  not-yet s part h (own, (poll, e), st) =
      let F : Bool → Type 0 = λ b. If b passed Nothing (after s part) [] in
      let q : nat_le stamp poll.seen ≡ false = le-false stamp poll.seen (omega (arith, h, e)) in
      (own, poll, record { one = part; two = []; part_is = grind (arith, common_steps); is_first = st; is_second = subst F (sym q) refl })

  yes : (s : State ℕ) (one two : Log) → stamp ≤ n → Say l (Sees c d n) s one → passed (after s one) two → Passing l c d (Some stamp) passed s (one ++ two)
  yes s one two h (own, (poll, e), st) p =
      let F : Bool → Type 0 = λ b. If b passed Nothing (after s one) two in
      let q : nat_le stamp poll.seen ≡ true = le-true stamp poll.seen (omega (arith, h, e)) in
      (own, poll, record { one = one; two = two; part_is = refl; is_first = st; is_second = subst F (sym q) p })

  -- the number seen is below the stamp, or it isn't
  pub pass-not : (o : Option ℕ) (s : State ℕ) (part : Log) → o ≡ Some stamp → n < stamp → Say l (Sees c d n) s part → Passing l c d o passed s part
  pass-not o s part e h p = let F : Option ℕ → Type 0 = λ x. Passing l c d x passed s part in subst F (sym e) (not-yet s part h p)

  pub pass-yes : (o : Option ℕ) (s : State ℕ) (one two : Log) → o ≡ Some stamp → stamp ≤ n → Say l (Sees c d n) s one → passed (after s one) two → Passing l c d o passed s (one ++ two)
  pass-yes o s one two e h p q = let F : Option ℕ → Type 0 = λ x. Passing l c d x passed s (one ++ two) in subst F (sym e) (yes s one two h p q)

-- and then memory is wanting
pub pass-stop : (l c : ℕ) (d : Domain) (n stamp : ℕ) (o : Option ℕ) (s : State ℕ) (one two : Log) → o ≡ Some stamp → stamp ≤ n → Say l (Sees c d n) s one → Missing l (after s one) two → StopPassed l c d o s (one ++ two)
pass-stop l c d n stamp o s one two e h p q =
    let F : Option ℕ → Type 0 = λ x. StopPassed l c d x s (one ++ two) in
    subst F (sym e) (n, h, record { one = one; two = two; part_is = refl; is_first = p; is_second = q })

-- a stamp that was taken
pub stamp-some : (o : Option ℕ) (x : ℕ) → o ≡ Some x → is_unstamped o ≡ false → x ≡ suc (x - 1)
stamp-some None x e h = absurd (cc)
stamp-some (Some y) x e h =
    elim (eqb_tells y 0) [
      | inl z ↦ absurd (let q : nat_eq y 0 ≡ true = z.0 in cc)
      | inr z ↦ (let q : y ≡ x = some-same y x e in let d : y ≡ 0 → ⊥ = z.1 in positive x (λ v. d (q ∙ v)))
    ]
  where
    some-same : (a b : ℕ) → Some a ≡ Some b → a ≡ b
    some-same a b e = cc

    positive : (a : ℕ) → (a ≡ 0 → ⊥) → a ≡ suc (a - 1)
    positive a f = omega (arith, f)

-- the units of a plain batch that has passed are ripe
pub batch-ripe : (a b : Tests) (c x n : ℕ) (s : State Token) (us : List Token) → us ≡ (s.rows c).deferred.first → (s.rows c).deferred.plain ≡ Some (suc x) → Proper a s → Dated a s → All (Ripened a b Plain (suc x) (Passed n)) (s.rows c).deferred.first → All (Passes b (ripe_test Plain (suc x) n)) us
batch-ripe a b c x n s us e q p d r =
    let F : List Token → Type 0 = λ z. All (Passes b (ripe_test Plain (suc x) n)) z in
    subst F (sym e) (λ i u m. r i u m (p.lists c First i u m) ((d c).plain x q i u m))

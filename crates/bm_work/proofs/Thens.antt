-- How parts of a log are put together.
use Rattle.std.proofs.Common.{◌≡◌, ◌++◌, ℕ, Bool, true, false, [], refl, sym, ◌∙◌, ap, subst, append_assoc}
use Rattle.bm_law.specs.State.{State}
use Rattle.bm_law.specs.Lists.{Log, after}
use Rattle.bm_law.proofs.Folds.{after-append}
use Rattle.bm_law_work.specs.Parts.{Part, Nothing, Then, When, If}

-- three parts, of which the first two, or the last two, are taken together
pub then-right : (P Q R : Part) (s : State ℕ) (part : Log) → Then (Then P Q) R s part → Then P (Then Q R) s part
then-right P Q R s part h =
    let f = h.is_first in
    let F : State ℕ → Type 0 = λ z. R z h.two in
    let e : after s h.one ≡ after (after s f.one) f.two = ap (λ z. after s z) f.part_is ∙ after-append s f.one f.two in
    record {
      one = f.one;
      two = f.two ++ h.two;
      part_is = h.part_is ∙ ap (λ z. z ++ h.two) f.part_is ∙ append_assoc f.one f.two h.two;
      is_first = f.is_first;
      is_second = record { one = f.two; two = h.two; part_is = refl; is_first = f.is_second; is_second = subst F e h.is_second };
    }

pub then-second : (P Q R : Part) (s : State ℕ) (part : Log) → ((t : State ℕ) (x : Log) → Q t x → R t x) → Then P Q s part → Then P R s part
then-second P Q R s part f h = record { one = h.one; two = h.two; part_is = h.part_is; is_first = h.is_first; is_second = f (after s h.one) h.two h.is_second }

-- four parts
pub then-all : (P Q R S : Part) (s : State ℕ) (part : Log) → Then (Then P (Then Q R)) S s part → Then P (Then Q (Then R S)) s part
then-all P Q R S s part h = then-second P (Then (Then Q R) S) (Then Q (Then R S)) s part (λ t x k. then-right Q R S t x k) (then-right P (Then Q R) S s part h)

pub then-of : (P Q : Part) (s : State ℕ) (one two : Log) → P s one → Q (after s one) two → Then P Q s (one ++ two)
then-of P Q s one two h k = record { one = one; two = two; part_is = refl; is_first = h; is_second = k }

-- a part under a test that holds, or doesn't
pub when-true : (test : State ℕ → Bool) (P : Part) (s : State ℕ) (part : Log) → test s ≡ true → P s part → When test P s part
when-true test P s part e h = let F : Bool → Type 0 = λ b. If b P Nothing s part in subst F (sym e) h

pub when-false : (test : State ℕ → Bool) (P : Part) (s : State ℕ) (part : Log) → test s ≡ false → part ≡ [] → When test P s part
when-false test P s part e h = let F : Bool → Type 0 = λ b. If b P Nothing s part in subst F (sym e) h

pub true-when : (test : State ℕ → Bool) (P : Part) (s : State ℕ) (part : Log) → test s ≡ true → When test P s part → P s part
true-when test P s part e h = let F : Bool → Type 0 = λ b. If b P Nothing s part in subst F e h

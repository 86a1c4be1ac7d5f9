-- How a refill from the lists goes on, and what it is with a fetch after it.
use Rattle.std.proofs.Common.{◌≡◌, ◌<◌, ℕ, zero, suc, ◌+◌, ◌-◌, ◌++◌, List, [], ◌∷◌, length, drop, map, refl, sym, ◌∙◌, ap, subst, arith, append_assoc}
use Rattle.std.proofs.lemmas.List.{drop-drop, length-drop}
use Rattle.std.proofs.Math.Seq.{drop-nil}
use Rattle.std.proofs.lemmas.Grind.{common_steps}
use Rattle.bm_journal.specs.declared.entry.Entry.TheVariants as entry
use Rattle.bm_law.specs.State.{State, Deferred}
use Rattle.bm_law.specs.Lists.{Log, after}
use Rattle.bm_law.proofs.Folds.{after-append}
use Rattle.bm_cache.specs.Tokens.{Token, number_of}
use Rattle.bm_law_work.specs.Parts.{Part, Stand, Then}
use Rattle.bm_law_work.specs.WorkPhrases.{Brings, Fetches, RefillBy, Refill}
use Rattle.bm_work_lists.specs.FromLists.{less, FromBy, FromLists, Fetched}
use Rattle.bm_work_lists.proofs.Grown.{then-after}

all-of-it : (part : Log) → part ≡ part ++ []
all-of-it part = grind (arith, common_steps)

-- a refill of one, from one of the lists
then-none : (P : Part) (l c : ℕ) (s : State ℕ) (part : Log) → P s part → Then P (FromLists l c 0 0) s part
then-none P l c s part h = record { one = part; two = []; part_is = all-of-it part; is_first = h; is_second = (refl, refl) }

pub from-ready : (l c u : ℕ) (us : List ℕ) (s : State ℕ) (part : Log) → (s.rows c).deferred.ready ≡ u ∷ us → Brings l c (entry.Ready c u) u s part → FromLists l c 1 0 s part
from-ready l c u us s part e h =
    let F : List ℕ → Type 0 = λ r. FromBy l c 1 0 (FromLists l c 0 0) r (s.rows c).deferred.second s part in
    subst F (sym e) (then-none (Brings l c (entry.Ready c u) u) l c s part h)

pub from-second : (l c u : ℕ) (us : List ℕ) (s : State ℕ) (part : Log) → (s.rows c).deferred.ready ≡ [] → (s.rows c).deferred.second ≡ u ∷ us → Brings l c (entry.Second c u) u s part → FromLists l c 1 0 s part
from-second l c u us s part d e h =
    let F : List ℕ → List ℕ → Type 0 = λ r q. FromBy l c 1 0 (FromLists l c 0 0) r q s part in
    subst (λ r. F r (s.rows c).deferred.second) (sym d) (subst (F []) (sym e) (then-none (Brings l c (entry.Second c u) u) l c s part h))

-- a refill of one, and then of more
next-part : (P Q : Part) (l c : ℕ) (s : State ℕ) (one two : Log) → Then P (FromLists l c 0 0) s one → Q (after s one) two → Then P Q s (one ++ two)
next-part P Q l c s one two h k =
    let e : one ≡ h.one = h.part_is ∙ ap (λ z. h.one ++ z) h.is_second.1 ∙ sym (all-of-it h.one) in
    let F : Log → Type 0 = λ z. Q (after s z) two in
    record { one = h.one; two = two; part_is = ap (λ z. z ++ two) e; is_first = h.is_first; is_second = subst F e k }

by-more : (l c n left : ℕ) (s : State ℕ) (ready second : List ℕ) (one two : Log) → FromBy l c 1 0 (FromLists l c 0 0) ready second s one → FromLists l c n left (after s one) two → FromBy l c (suc n) left (FromLists l c n left) ready second s (one ++ two)
by-more l c n left s (u ∷ us) second one two h k = next-part (Brings l c (entry.Ready c u) u) (FromLists l c n left) l c s one two h k
by-more l c n left s [] (u ∷ us) one two h k = next-part (Brings l c (entry.Second c u) u) (FromLists l c n left) l c s one two h k
by-more l c n left s [] [] one two h k = absurd (omega (arith, h.0))

pub from-more : (l c m n left : ℕ) (s : State ℕ) (one two : Log) → m ≡ suc n → FromLists l c 1 0 s one → FromLists l c n left (after s one) two → FromLists l c m left s (one ++ two)
from-more l c m n left s one two e h k =
    let F : ℕ → Type 0 = λ z. FromLists l c z left s (one ++ two) in
    subst F (sym e) (by-more l c n left s (s.rows c).deferred.ready (s.rows c).deferred.second one two h k)

-- the end, where nothing is left to bring, and where both lists are empty
pub from-none : (l c n : ℕ) (s : State ℕ) → n ≡ 0 → FromLists l c n n s []
from-none l c zero s e = (refl, refl)
from-none l c (suc n) s e = absurd (omega (arith, e))

pub from-ends : (l c n : ℕ) (s : State ℕ) (part : Log) → 0 < n → (s.rows c).deferred.ready ≡ [] → (s.rows c).deferred.second ≡ [] → Stand l [] s part → FromLists l c n n s part
from-ends l c zero s part h d e p = absurd (omega (arith, h))
from-ends l c (suc n) s part h d e p =
    let F : List ℕ → List ℕ → Type 0 = λ r q. FromBy l c (suc n) (suc n) (FromLists l c n (suc n)) r q s part in
    subst (λ r. F r (s.rows c).deferred.second) (sym d) (subst (F []) (sym e) (refl, p))

-- With the fetch of what is left it is the whole refill.
module _ (l c : ℕ) where
  fetch-after : (n : ℕ) (s : State ℕ) (one two : Log) → Stand l [] s one → Fetches l c n (after s one) two → Fetches l c n s (one ++ two)
  fetch-after n s one two h f = (f.0, f.1, then-after l _ _ s one two h f.2)

  then-whole : (P : Part) (n left : ℕ) (s : State ℕ) (one two : Log) → ((t : State ℕ) (v : Log) → FromLists l c n left t v → Fetched l c left (after t v) two → Refill l c n t (v ++ two)) → Then P (FromLists l c n left) s one → Fetched l c left (after s one) two → Then P (Refill l c n) s (one ++ two)
  then-whole P n left s one two w h f =
      let F : State ℕ → Type 0 = λ t. Fetched l c left t two in
      let e : after s one ≡ after (after s h.one) h.two = ap (after s) h.part_is ∙ after-append s h.one h.two in
      record { one = h.one; two = h.two ++ two; part_is = ap (λ z. z ++ two) h.part_is ∙ append_assoc h.one h.two two; is_first = h.is_first; is_second = w (after s h.one) h.two h.is_second (subst F e f) }

  by-whole : (n left : ℕ) (s : State ℕ) (ready second : List ℕ) (one two : Log) → ((t : State ℕ) (v : Log) → FromLists l c n left t v → Fetched l c left (after t v) two → Refill l c n t (v ++ two)) → FromBy l c (suc n) left (FromLists l c n left) ready second s one → Fetched l c left (after s one) two → RefillBy l c (suc n) (Refill l c n) ready second s (one ++ two)
  by-whole n left s (u ∷ us) second one two w h f = then-whole (Brings l c (entry.Ready c u) u) n left s one two w h f
  by-whole n left s [] (u ∷ us) one two w h f = then-whole (Brings l c (entry.Second c u) u) n left s one two w h f
  by-whole n left s [] [] one two w h f =
      let F : ℕ → Type 0 = λ z. Fetched l c z (after s one) two in
      fetch-after (suc n) s one two h.1 (subst F h.0 f)

  pub from-whole : (n left : ℕ) (s : State ℕ) (one two : Log) → FromLists l c n left s one → Fetched l c left (after s one) two → Refill l c n s (one ++ two)
  from-whole zero left s one two h f =
      let F : ℕ → Type 0 = λ z. Fetched l c z (after s one) two in
      let g : two ≡ [] = subst F h.0 f in
      ap (λ z. z ++ two) h.1 ∙ g
  from-whole (suc n) left s one two h f = by-whole n left s (s.rows c).deferred.ready (s.rows c).deferred.second one two (λ t v. from-whole n left t v two) h f

-- what is left after two refills
fewer : (m n k : ℕ) → (n - k) + (m - (k - n)) ≡ (n + m) - k
fewer m n k = omega arith

pub less-less : (m n : ℕ) (d : Deferred Token) → less m (less n d) ≡ less (n + m) d
less-less m n d =
    let r : drop m (drop n d.ready) ≡ drop (n + m) d.ready = drop-drop m n d.ready in
    let e : m - length (drop n d.ready) ≡ m - (length d.ready - n) = ap (λ z. m - z) (length-drop n d.ready) in
    let q : drop (m - length (drop n d.ready)) (drop (n - length d.ready) d.second) ≡ drop ((n + m) - length d.ready) d.second = ap (λ z. drop z (drop (n - length d.ready) d.second)) e ∙ drop-drop (m - (length d.ready - n)) (n - length d.ready) d.second ∙ ap (λ z. drop z d.second) (fewer m n (length d.ready)) in
    ap (λ (z : List Token). let t : Deferred Token = record d { ready = z; second = drop (m - length (drop n d.ready)) (drop (n - length d.ready) d.second) } in t) r ∙ ap (λ (z : List Token). let t : Deferred Token = record d { ready = drop (n + m) d.ready; second = z } in t) q

-- nothing is taken, or nothing is there
no-less : (n : ℕ) → 0 - n ≡ 0
no-less n = omega arith

pub less-none : (n : ℕ) (d : Deferred Token) → n ≡ 0 → less n d ≡ d
less-none n d e =
    let q : drop (0 - length d.ready) d.second ≡ d.second = ap (λ z. drop z d.second) (no-less (length d.ready)) in
    ap (λ z. less z d) e ∙ ap (λ (z : List Token). let t : Deferred Token = record d { second = z } in t) q

pub less-empty : (n : ℕ) (d : Deferred Token) → d.ready ≡ [] → d.second ≡ [] → less n d ≡ d
less-empty n d r s =
    let p : drop n d.ready ≡ d.ready = ap (drop n) r ∙ drop-nil n ∙ sym r in
    let q : drop (n - length d.ready) d.second ≡ d.second = ap (drop (n - length d.ready)) s ∙ drop-nil (n - length d.ready) ∙ sym s in
    ap (λ (z : List Token). let t : Deferred Token = record d { ready = z; second = drop (n - length d.ready) d.second } in t) p ∙ ap (λ (z : List Token). let t : Deferred Token = record d { second = z } in t) q

-- a unit less of both together
pub one-less : (d : Deferred Token) → 0 < length d.ready + length d.second → length (less 1 d).ready + length (less 1 d).second + 1 ≡ length d.ready + length d.second
one-less d h = omega (arith, h, length-drop 1 d.ready, length-drop (1 - length d.ready) d.second)

-- one unit less, of the first list that holds one
pub less-ready : (d : Deferred Token) (u : Token) (rest : List Token) → d.ready ≡ u ∷ rest → less 1 d ≡ record d { ready = rest }
less-ready d u rest e =
    let q : drop (1 - length d.ready) d.second ≡ d.second = ap (λ z. drop z d.second) (let n : 1 - length d.ready ≡ 0 = omega (arith, ap (λ (us : List Token). length us) e) in n) in
    ap (λ (z : List Token). let t : Deferred Token = record d { ready = drop 1 d.ready; second = z } in t) q ∙ ap (λ (z : List Token). let t : Deferred Token = record d { ready = drop 1 z } in t) e

pub less-second : (d : Deferred Token) (u : Token) (rest : List Token) → d.ready ≡ [] → d.second ≡ u ∷ rest → less 1 d ≡ record d { second = rest }
less-second d u rest r e =
    let p : drop 1 d.ready ≡ d.ready = ap (drop 1) r ∙ sym r in
    let n : 1 - length d.ready ≡ 1 = omega (arith, ap (λ (us : List Token). length us) r) in
    ap (λ (z : List Token). let t : Deferred Token = record d { ready = z; second = drop (1 - length d.ready) d.second } in t) p ∙ ap (λ z. let t : Deferred Token = record d { second = drop z d.second } in t) n ∙ ap (λ (z : List Token). let t : Deferred Token = record d { second = drop 1 z } in t) e

-- a list by the numbers of its units
pub numbers-of : (us : List Token) (u : Token) (rest : List Token) → us ≡ u ∷ rest → map number_of us ≡ u.number ∷ map number_of rest
numbers-of us u rest e = ap (map number_of) e

pub some-left : (us vs : List Token) (u : Token) (rest : List Token) → us ≡ u ∷ rest → 0 < length us + length vs
some-left us vs u rest e = omega (arith, ap (λ (ws : List Token). length ws) e)

pub some-left_second : (us vs : List Token) (u : Token) (rest : List Token) → vs ≡ u ∷ rest → 0 < length us + length vs
some-left_second us vs u rest e = omega (arith, ap (λ (ws : List Token). length ws) e)

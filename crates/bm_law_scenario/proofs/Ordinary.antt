-- Parts of a log of ordinary code alone, by their entries.
use Rattle.std.proofs.Common.{◌≡◌, ℕ, List, [], ◌∷◌, ◌++◌, refl, sym, ap, ◌∙◌, subst}
use Rattle.bm_journal.specs.declared.entry.Entry.{Entry}
use Rattle.bm_law.specs.State.{State}
use Rattle.bm_law.specs.Alone.{AllAt}
use Rattle.bm_law.specs.Lists.{Log, after}
use Rattle.bm_law.proofs.Alone.{level-append, level-from, level-own}
use Rattle.bm_law_work.specs.Parts.{Part, Stand, Say, Then}
use Rattle.bm_law.specs.Ordinary.{ordinary}

-- all of them are of level 0
pub all-ordinary : (es : List Entry) → AllAt 0 (ordinary es)
all-ordinary [] = tt
all-ordinary (e ∷ es) = (refl, all-ordinary es)

-- exactly these entries
pub stands : (own : List Entry) (s : State ℕ) → Stand 0 own s (ordinary own)
stands own s = record { from = level-from 0 own; own_is = level-own 0 own }

pub stood : (own : List Entry) (s : State ℕ) (es : List Entry) → Stand 0 own s (ordinary es) → es ≡ own
stood own s es h = sym (level-own 0 es) ∙ h.own_is

pub said : (phrase : List Entry → Type 0) (s : State ℕ) (es : List Entry) → Say 0 phrase s (ordinary es) → phrase es
said phrase s es h = subst phrase (sym (stood h.0 s es h.2)) h.1

pub says : (phrase : List Entry → Type 0) (own : List Entry) (s : State ℕ) → phrase own → Say 0 phrase s (ordinary own)
says phrase own s h = (own, h, stands own s)

-- one part, and then another
pub then-of : (first second : Part) (s : State ℕ) (v w : List Entry) → first s (ordinary v) → second (after s (ordinary v)) (ordinary w) → Then first second s (ordinary (v ++ w))
then-of first second s v w p q = record { one = ordinary v; two = ordinary w; part_is = level-append 0 v w; is_first = p; is_second = q }

-- a cut of such a part, by its entries
pub record Cut (es : List Entry) (one two : Log) : Type 0 where
  pub left : List Entry
  pub right : List Entry
  pub whole : es ≡ left ++ right
  pub one_is : one ≡ ordinary left
  pub two_is : two ≡ ordinary right

pub cut-of : (es : List Entry) (one two : Log) → ordinary es ≡ one ++ two → Cut es one two
cut-of es [] two h = record { left = []; right = es; whole = refl; one_is = refl; two_is = sym h }
cut-of [] (e ∷ one) two h = absurd (cc)
cut-of (x ∷ es) (e ∷ one) two h =
    let t : ordinary es ≡ one ++ two = cc in
    let d : (0, x) ≡ e = cc in
    let c = cut-of es one two t in
    record { left = x ∷ c.left; right = c.right; whole = ap (λ z. x ∷ z) c.whole; one_is = ap (λ z. z ∷ one) (sym d) ∙ ap (λ z. (0, x) ∷ z) c.one_is; two_is = c.two_is }

-- one part and then another, by their entries
pub record Parted (first second : Part) (s : State ℕ) (es : List Entry) : Type 0 where
  pub left : List Entry
  pub right : List Entry
  pub whole : es ≡ left ++ right
  pub is_first : first s (ordinary left)
  pub is_second : second (after s (ordinary left)) (ordinary right)

pub parted : (first second : Part) (s : State ℕ) (es : List Entry) → Then first second s (ordinary es) → Parted first second s es
parted first second s es h =
    let c = cut-of es h.one h.two h.part_is in
    let F : Log → Type 0 = λ x. first s x in
    let G : Log → Log → Type 0 = λ x y. second (after s x) y in
    record { left = c.left; right = c.right; whole = c.whole; is_first = subst F c.one_is h.is_first; is_second = subst (λ y. G (ordinary c.left) y) c.two_is (subst (λ x. G x h.two) c.one_is h.is_second) }

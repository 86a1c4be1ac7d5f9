-- Parts of a log of ordinary code alone, in which no handler runs.
use Rattle.std.proofs.Common.{◌≡◌, ℕ, List, [], ◌∷◌, ◌++◌, refl, sym, ◌∙◌, ap, subst, inl, inr}
use Rattle.bm_journal.specs.declared.ids.Domain.{Domain}
use Rattle.bm_journal.specs.declared.entry.Entry.{Entry}
use Rattle.bm_journal.specs.declared.entry.Entry.TheVariants as entry
use Rattle.bm_law.specs.State.{State}
use Rattle.bm_law.specs.Lists.{Log, after}
use Rattle.bm_law.specs.Spans.{own_entries}
use Rattle.bm_law.specs.SweepPhrases.{PollPhrase}
use Rattle.bm_law.specs.WorkedDeferred.{at}
use Rattle.bm_law_work.specs.Parts.{Part, Say, Then}

-- the entries of such a part
pub own-of : (es : List Entry) → own_entries 0 (at 0 es) ≡ es
own-of [] = refl
own-of (e ∷ es) = ap (λ x. e ∷ x) (own-of es)

-- a cut of such a part, by its entries
pub record Cut (es : List Entry) (one two : Log) : Type 0 where
  pub left : List Entry
  pub right : List Entry
  pub whole : es ≡ left ++ right
  pub one_is : one ≡ at 0 left
  pub two_is : two ≡ at 0 right

pub cut-of : (es : List Entry) (one two : Log) → at 0 es ≡ one ++ two → Cut es one two
cut-of es [] two h = record { left = []; right = es; whole = refl; one_is = refl; two_is = sym h }
cut-of [] (e ∷ one) two h = absurd (cc)
cut-of (x ∷ es) (e ∷ one) two h =
    let t : at 0 es ≡ one ++ two = cc in
    let d : (0, x) ≡ e = cc in
    let c = cut-of es one two t in
    record { left = x ∷ c.left; right = c.right; whole = ap (λ z. x ∷ z) c.whole; one_is = ap (λ z. z ∷ one) (sym d) ∙ ap (λ z. (0, x) ∷ z) c.one_is; two_is = c.two_is }

-- one part and then another, by their entries
pub record Parted (first second : Part) (s : State ℕ) (es : List Entry) : Type 0 where
  pub left : List Entry
  pub right : List Entry
  pub whole : es ≡ left ++ right
  pub is_first : first s (at 0 left)
  pub is_second : second (after s (at 0 left)) (at 0 right)

pub parted : (first second : Part) (s : State ℕ) (es : List Entry) → Then first second s (at 0 es) → Parted first second s es
parted first second s es h =
    let c = cut-of es h.one h.two h.part_is in
    let F : Log → Type 0 = λ x. first s x in
    let G : Log → Log → Type 0 = λ x y. second (after s x) y in
    record { left = c.left; right = c.right; whole = c.whole; is_first = subst F c.one_is h.is_first; is_second = subst (λ y. G (at 0 c.left) y) c.two_is (subst (λ x. G x h.two) c.one_is h.is_second) }

-- entries that a phrase allows
pub said : (phrase : List Entry → Type 0) (s : State ℕ) (es : List Entry) → Say 0 phrase s (at 0 es) → phrase es
said phrase s es h = subst phrase (sym h.2.own_is ∙ own-of es) h.1

-- a poll that sees a number, where no period begins or ends
pub poll-head : (c n : ℕ) (d : Domain) (own rest more : List Entry) (p : PollPhrase c d own) → own ++ rest ≡ entry.Pass c d n ∷ more → (p.seen ≡ n) × (rest ≡ more)
poll-head c n d own rest more p h = elim p.may_finish [
  | inl a ↦ elim p.may_begin [
    | inl b ↦
        let q : entry.Pass c d p.seen ∷ rest ≡ entry.Pass c d n ∷ more = rw (← h, p.own_is, a, b) refl in
        (cc, cc)
    | inr b ↦ absurd (let q : entry.Begin d b.0 ∷ (b.1 ++ entry.Pass c d p.seen ∷ []) ++ rest ≡ entry.Pass c d n ∷ more = rw (← h, p.own_is, a, b.2) refl in cc)
  ]
  | inr a ↦ absurd (let q : entry.Finish a.2.0 ∷ (p.begun ++ entry.Pass c d p.seen ∷ []) ++ rest ≡ entry.Pass c d n ∷ more = rw (← h, p.own_is, a.1, a.2.2) refl in cc)
]

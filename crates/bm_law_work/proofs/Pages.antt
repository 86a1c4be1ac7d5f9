-- Which pages entries name.
use Rattle.std.proofs.Common.{◌≡◌, ℕ, zero, suc, ◌<◌, ◌/◌, ◌++◌, Bool, true, false, eqb, eq-eqb, ne_eqb, nat_lt, List, [], ◌∷◌, length, refl, sym, ◌∙◌, ap, arith, inl, inr}
use Rattle.std.specs.Prelude.{◌&&◌, ◌||◌}
use Rattle.std.proofs.lemmas.Bool.{and_parts, cases_eq, cases_lt, false≢true, lt-ltb}
use Rattle.bm_journal.specs.declared.entry.Entry.{Entry}
use Rattle.bm_law.specs.Stands.{times}
use Rattle.bm_law.proofs.Stands.{times-append}
use Rattle.bm_law.specs.Pages.{wanted, units_given, all_given, HasShort, NamesPage, ShortLaw}

-- ---- pages named

pub names-first : (page : ℕ) (v w : List ℕ) → NamesPage page v → NamesPage page (v ++ w)
names-first page v w h = record { unit = h.unit; page_is = h.page_is; stands = (let t = times-append h.unit v w in let s = h.stands in omega (arith, t, s)) }

pub names-last : (page : ℕ) (v w : List ℕ) → NamesPage page w → NamesPage page (v ++ w)
names-last page v w h = record { unit = h.unit; page_is = h.page_is; stands = (let t = times-append h.unit v w in let s = h.stands in omega (arith, t, s)) }

-- ---- by computation

abbrev pub is_named : ℕ → List ℕ → Bool
is_named page [] = false
is_named page (u ∷ us) = eqb (u / 256) page || is_named page us

abbrev pub all_named : ℕ → List ℕ → Bool
all_named zero us = true
all_named (suc n) us = is_named n us && all_named n us

abbrev pub any_short : List Entry → Bool
any_short [] = false
any_short (e ∷ es) = nat_lt (length (units_given e)) (wanted e) || any_short es

names-of : (page : ℕ) (us : List ℕ) → is_named page us ≡ true → NamesPage page us
names-of page [] h = absurd (cc)
names-of page (u ∷ us) h =
    elim (cases_eq (u / 256) page) [
      | inl same ↦ record { unit = u; page_is = same; stands = (let one = eq-eqb u u refl in rw one (omega arith)) }
      | inr other ↦
          let rest = names-of page us (rw (ne_eqb (u / 256) page other) at h) in
          record { unit = rest.unit; page_is = rest.page_is; stands = (let s = rest.stands in omega (arith, s)) }
    ]

pub not-named : (page : ℕ) (us : List ℕ) → is_named page us ≡ false → ¬ NamesPage page us
not-named page [] h n = (let s = n.stands in omega (arith, s))
not-named page (u ∷ us) h n =
    elim (cases_eq (u / 256) page) [
      | inl same ↦ absurd (false≢true (sym (rw (eq-eqb (u / 256) page same) at h)))
      | inr other ↦
          let apart : eqb n.unit u ≡ false = ne_eqb n.unit u (λ q. other (ap (λ k. k / 256) (sym q) ∙ n.page_is)) in
          let t = rw apart at n.stands in
          let s : 0 < times n.unit us = omega (arith, t) in
          not-named page us (rw (ne_eqb (u / 256) page other) at h) (record { unit = n.unit; page_is = n.page_is; stands = s })
    ]

all-names : (n : ℕ) (us : List ℕ) → all_named n us ≡ true → (page : ℕ) → page < n → NamesPage page us
all-names zero us h page lt = absurd (omega arith)
all-names (suc n) us h page lt =
    let both = and_parts (is_named n us) (all_named n us) h in
    elim (cases_lt page n) [
      | inl below ↦ all-names n us both.1 page below
      | inr last ↦ let same : page ≡ n = omega arith in names-of page us (ap (λ k. is_named k us) same ∙ both.0)
    ]

not-short : (es : List Entry) → any_short es ≡ false → ¬ HasShort es
not-short [] h k = k
not-short (e ∷ es) h k =
    elim k [
      | inl here ↦ absurd (false≢true (sym (rw (lt-ltb (length (units_given e)) (wanted e) here) at h)))
      | inr rest ↦ not-short es (last (nat_lt (length (units_given e)) (wanted e)) (any_short es) h) rest
    ]
  where
    last : (a b : Bool) → a || b ≡ false → b ≡ false
    last true b h = absurd (cc)
    last false b h = h

-- the law, where each page is named, or where as many came as were wanted
pub short-named : (pages : ℕ) (es : List Entry) → all_named pages (all_given es) ≡ true → ShortLaw pages es
short-named pages es h k = all-names pages (all_given es) h

pub short-never : (pages : ℕ) (es : List Entry) → any_short es ≡ false → ShortLaw pages es
short-never pages es h k = absurd (not-short es h k)

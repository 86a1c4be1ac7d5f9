-- Fewer units came than were wanted only where each page gave one.
use Rattle.std.proofs.Common.{◌≡◌, ◌⊎◌, ◌/◌, ◌<◌, ◌++◌, ℕ, zero, suc, Bool, true, false, List, [], ◌∷◌, length, length-set, map, reverse, replicate, set, if◌then◌else◌, is_none, is_some, refl, sym, ◌∙◌, ap, append_assoc, subst, inl, inr, arith, eq-eqb, Option, Some, None, length-append}
use Rattle.std.specs.Prelude.{nat_lt, slice_set}
use Rattle.std.proofs.lemmas.Bool.{cases_eq, false≢true, lt-ltb, ltb-true}
use Rattle.std.proofs.lemmas.Bool.Decides.{eqb_tells}
use Rattle.std.proofs.lemmas.List.{length-replicate}
use Rattle.bm_journal.specs.EntryText.{unit_list}
use Rattle.bm_journal.specs.declared.entry.Entry.{Entry}
use Rattle.bm_journal.specs.declared.entry.Entry.TheVariants as entry
use Rattle.bm_law.specs.Lists.{Log}
use Rattle.bm_law.specs.Stands.{times}
use Rattle.bm_page.specs.UnitState.{UnitState}
use Rattle.bm_page.specs.Stock.{Stock, any_out, class_at, least_stock, lowest_page, unit_or_page, fetched, next_unit, given, unit_given, returned}
use Rattle.bm_page.proofs.Least.{least_below-None}
use Rattle.bm_page.proofs.StockLemmas.{class_at-inside, class_at-other, class_at-same}
use Rattle.bm_page.proofs.FetchLemmas.{fetched-zero, fetched-none, fetched-next, number-unit_given}
use Rattle.bm_law.specs.Pages.{HasShort, IsShort, NamesPage, all_given, prefill, units_given, wanted}
use Rattle.bm_law_work.proofs.Pages.{names-first, names-last}
use Rattle.bm_law_lives.specs.Short.{JournalShort, all_entries}
use Rattle.bm_law_lives.specs.Together.{named, named_in}
use Rattle.bm_law_lives.specs.Together as together
use Rattle.bm_law_order.specs.Orders.{AllFit, IsLaid, Order}
use Rattle.bm_law_order.specs.Pages.{PagesFit, all_back, bare, fresh_pages, pages_after, unit_numbers}
use Rattle.bm_law_order.specs.Shared.{fresh}
use Rattle.bm_law_laid.specs.Once.{named_by}
use Rattle.bm_law_laid.specs.OrderOf.{IsOrderOf}
use Rattle.bm_law_laid.proofs.NamedParts.{named-count, named-parts}
use Rattle.bm_law_laid.proofs.Parts.{pages-fit}

-- a page has a class, by the classes of all pages
abbrev HasClass : ℕ → List (Option ℕ) → Type 0
HasClass page classes = is_some (class_at classes page) ≡ true

-- ---- a fetch

next_cases : (o : Option ℕ) → (o ≡ None) ⊎ ((n : ℕ) × (o ≡ Some n))
next_cases None = inl refl
next_cases (Some n) = inr (n, refl)

-- ---- a fetch

given-count : (class number : ℕ) (pool : Stock) → length (given class number pool).classes ≡ length pool.classes
unfolding given
given-count class number pool = length-set pool.classes (number / 256) (Some class)

given-came : (class number page : ℕ) (pool : Stock) → HasClass page (given class number pool).classes → HasClass page pool.classes ⊎ (number / 256 ≡ page)
unfolding given
given-came class number page pool h =
    elim (cases_eq page (number / 256)) [
      | inl same ↦ inr (sym same)
      | inr other ↦ inl (ap is_some (sym (class_at-other pool.classes (number / 256) page (Some class) other)) ∙ h)
    ]

fetched-count : (class want : ℕ) (pool : Stock) → length (fetched class want pool).pool.classes ≡ length pool.classes
fetched-count class zero pool = rw (fetched-zero class zero pool refl) refl
fetched-count class (suc want) pool =
    elim (next_cases (next_unit class pool)) [
      | inl none ↦ rw (fetched-none class (suc want) pool none) refl
      | inr (number, next) ↦ rw (fetched-next class want number pool next) (fetched-count class want (given class number pool) ∙ given-count class number pool)
    ]

names-here : (page : ℕ) (u : UnitState) (us : List UnitState) → u.number / 256 ≡ page → NamesPage page (unit_numbers (u ∷ us))
names-here page u us e = record { unit = u.number; page_is = e; stands = (let one = eq-eqb u.number u.number refl in rw one (omega arith)) }

names-behind : (page : ℕ) (u : UnitState) (us : List UnitState) → NamesPage page (unit_numbers us) → NamesPage page (unit_numbers (u ∷ us))
names-behind page u us h = record { unit = h.unit; page_is = h.page_is; stands = (let s = h.stands in omega (arith, s)) }

-- a page that has a class had one, or gave a unit
fetched-came : (class want page : ℕ) (pool : Stock) → HasClass page (fetched class want pool).pool.classes → HasClass page pool.classes ⊎ NamesPage page (unit_numbers (fetched class want pool).units)
fetched-came class zero page pool h =
    let e = fetched-zero class zero pool refl in
    inl (subst (λ f. HasClass page f.pool.classes) e h)
fetched-came class (suc want) page pool h =
    elim (next_cases (next_unit class pool)) [
      | inl none ↦ let e = fetched-none class (suc want) pool none in inl (subst (λ f. HasClass page f.pool.classes) e h)
      | inr (number, next) ↦
          let e = fetched-next class want number pool next in
          let u = unit_given class number pool in
          let us = (fetched class want (given class number pool)).units in
          let F : List UnitState → Type 0 = λ vs. HasClass page pool.classes ⊎ NamesPage page (unit_numbers vs) in
          subst F (sym (ap (λ f. f.units) e)) (
          elim (fetched-came class want page (given class number pool) (subst (λ f. HasClass page f.pool.classes) e h)) [
            | inl before ↦ elim (given-came class number page pool before) [
              | inl had ↦ inl had
              | inr here ↦ inr (names-here page u us (ap (λ n. n / 256) (number-unit_given class number pool) ∙ here))
            ]
            | inr behind ↦ inr (names-behind page u us behind)
          ])
    ]

some-of : (o : Option ℕ) → is_none o ≡ false → is_some o ≡ true
some-of None h = cc
some-of (Some n) h = refl

none-left : (stock page : Option ℕ) → unit_or_page stock page ≡ None → page ≡ None
none-left (Some number) page e = cc
none-left None (Some p) e = cc
none-left None None e = refl

-- where no unit is left each page has a class
none-without : (class : ℕ) (pool : Stock) → next_unit class pool ≡ None → (page : ℕ) → page < length pool.classes → HasClass page pool.classes
unfolding next_unit
none-without class pool e page lt =
    some-of (class_at pool.classes page) (least_below-None (λ p. is_none (class_at pool.classes p)) (length pool.classes) (none-left (least_stock class pool) (lowest_page pool) e) page lt)

-- where fewer came than were wanted none is left
fetched-fewer : (class want : ℕ) (pool : Stock) → length (fetched class want pool).units < want → next_unit class (fetched class want pool).pool ≡ None
fetched-fewer class zero pool h = absurd (omega arith)
fetched-fewer class (suc want) pool h =
    elim (next_cases (next_unit class pool)) [
      | inl none ↦ rw (fetched-none class (suc want) pool none) none
      | inr (number, next) ↦
          let e = fetched-next class want number pool next in
          let n = ap (λ f. length f.units) e in
          rw e (fetched-fewer class want (given class number pool) (omega (arith, n, h)))
    ]

-- ---- units that go back

record Spares (before now : List (Option ℕ)) : Type 0 where
  count : length now ≡ length before
  kept : (page : ℕ) → HasClass page now → HasClass page before

returned-spares : (u : UnitState) (pool : Stock) → Spares pool.classes (returned u pool).classes
unfolding returned
returned-spares u pool =
    let units = (returned u pool).units in
    let page = u.number / 256 in
    elim (any_out units page) as (λ b. Spares pool.classes (if b then pool.classes else slice_set pool.classes page None)) [
      | true ↦ record { count = refl; kept = λ p h. h }
      | false ↦ record {
        count = length-set pool.classes page None;
        kept = λ p h.
            elim (cases_eq p page) [
              | inl same ↦ emptied p page pool.classes same h
              | inr other ↦ ap is_some (sym (class_at-other pool.classes page p None other)) ∙ h
            ];
      }
    ]
  where
    emptied : (p page : ℕ) (classes : List (Option ℕ)) → p ≡ page → HasClass p (set classes page None) → HasClass p classes
    emptied p page classes same h =
        let inside : p < length classes = (let i = class_at-inside (set classes page None) p h in let k = length-set classes page None in omega (arith, i, k)) in
        let none : class_at (set classes page None) p ≡ None = ap (λ n. class_at (set classes page None) n) same ∙ class_at-same classes page None (subst (λ n. n < length classes) same inside) in
        absurd (false≢true (sym (ap is_some none) ∙ h))

all-back-spares : (ns : List ℕ) (pool : Stock) → Spares pool.classes (all_back ns pool).classes
all-back-spares [] pool = record { count = refl; kept = λ p h. h }
all-back-spares (n ∷ ns) pool =
    let a = returned-spares (bare n) pool in
    let b = all-back-spares ns (returned (bare n) pool) in
    record { count = b.count ∙ a.count; kept = λ p h. a.kept p (b.kept p h) }

-- ---- one entry

-- There are as many pages, each that has a class had one or gave a unit by this entry, and where fewer came than were wanted each page
-- has one.
record Takes (e : Entry) (before now : List (Option ℕ)) : Type 0 where
  count : length now ≡ length before
  came : (page : ℕ) → HasClass page now → HasClass page before ⊎ NamesPage page (units_given e)
  fewer : IsShort e → (page : ℕ) → page < length before → HasClass page now

numbers-count : (us : List UnitState) → length (unit_numbers us) ≡ length us
numbers-count [] = refl
numbers-count (u ∷ us) = ap suc (numbers-count us)

fetch-takes : (e : Entry) (c want : ℕ) (pool : Stock) → wanted e ≡ want → units_given e ≡ unit_numbers (fetched c want pool).units → Takes e pool.classes (fetched c want pool).pool.classes
fetch-takes e c want pool w g =
    let f = fetched c want pool in
    let n : length (units_given e) ≡ length f.units = ap length g ∙ numbers-count f.units in
    let same = fetched-count c want pool in
    record {
      count = same;
      came = λ page h. subst (λ us. HasClass page pool.classes ⊎ NamesPage page us) (sym g) (fetched-came c want page pool h);
      fewer = λ few page lt. none-without c f.pool (fetched-fewer c want pool (omega (arith, few, n, w))) page (omega (arith, lt, same));
    }

spares-takes : (e : Entry) (x y : List (Option ℕ)) → units_given e ≡ [] → wanted e ≡ 0 → Spares x y → Takes e x y
spares-takes e x y g w s = record { count = s.count; came = λ page h. inl (s.kept page h); fewer = λ few page lt. absurd (omega (arith, few, w)) }

takes : (p l : ℕ) (e : Entry) (pool : Stock) → PagesFit p l e pool → Takes e pool.classes (pages_after p l e pool).classes
takes p l (entry.Fill c us) pool f = fetch-takes (entry.Fill c us) c (prefill c) pool refl f
takes p l (entry.Fetch c want us) pool f = fetch-takes (entry.Fetch c want us) c want pool refl f
takes p l (entry.Return c us) pool f = spares-takes (entry.Return c us) pool.classes (pages_after p l (entry.Return c us) pool).classes refl refl (all-back-spares (reverse (unit_list us)) pool)
takes p l e pool f = spares-takes e pool.classes pool.classes refl refl (record { count = refl; kept = λ page h. h })

-- ---- an order

-- an entry by which fewer came than were wanted
abbrev shorts : Entry → List ℕ
shorts e = if nat_lt (length (units_given e)) (wanted e) then 0 ∷ [] else []

is-short : (e : Entry) → 0 < length (shorts e) → IsShort e
is-short e h = go (nat_lt (length (units_given e)) (wanted e)) refl h
  where
    go : (b : Bool) → nat_lt (length (units_given e)) (wanted e) ≡ b → 0 < length {A = ℕ} (if b then 0 ∷ [] else []) → IsShort e
    go true q h = ltb-true (length (units_given e)) (wanted e) q
    go false q h = absurd (omega (arith, h))

-- a page has a class, or gave a unit
abbrev HadOrGave : ℕ → Stock → Order → Type 0
HadOrGave page pool o = HasClass page pool.classes ⊎ NamesPage page (named_by units_given o)

classes-over : (page : ℕ) (o : Order) (pool : Stock) → AllFit pages_after PagesFit o pool → 0 < length (named_by shorts o) → page < length pool.classes → HadOrGave page pool o
classes-over page [] pool h short lt = absurd (omega (arith, short))
classes-over page (e ∷ o) pool h short lt =
    let now = pages_after e.processor e.level e.entry pool in
    let t = takes e.processor e.level e.entry pool h.0 in
    let same = t.count in
    let sum = length-append (shorts e.entry) (named_by shorts o) in
    let had : HasClass page now.classes → HadOrGave page pool (e ∷ o) = λ k.
    elim (t.came page k) [
      | inl before ↦ inl before
      | inr here ↦ inr (names-first page (units_given e.entry) (named_by units_given o) here)
    ] in
    elim (some-first (shorts e.entry) (named_by shorts o) short) [
      | inl here ↦ had (t.fewer (is-short e.entry here) page lt)
      | inr rest ↦ elim (classes-over page o now h.1 rest (omega (arith, lt, same))) [
        | inl k ↦ had k
        | inr behind ↦ inr (names-last page (units_given e.entry) (named_by units_given o) behind)
      ]
    ]
  where
    some-first : (xs ys : List ℕ) → 0 < length (xs ++ ys) → (0 < length xs) ⊎ (0 < length ys)
    some-first [] ys h = inr h
    some-first (x ∷ xs) ys h = inl (omega arith)

-- ---- logs

given-entries : (log : Log) (es : List Entry) → all_given (map (λ e. e.1) log ++ es) ≡ named_in units_given log ++ all_given es
given-entries [] es = refl
given-entries (e ∷ log) es = ap (λ us. units_given e.1 ++ us) (given-entries log es) ∙ sym (append_assoc (units_given e.1) (named_in units_given log) (all_given es))

given-named : (logs : List Log) → all_given (all_entries logs) ≡ named units_given logs
given-named [] = refl
given-named (log ∷ logs) = given-entries log (all_entries logs) ∙ ap (λ us. named_in units_given log ++ us) (given-named logs)

abbrev shorts-of : List Entry → List ℕ
shorts-of [] = []
shorts-of (e ∷ es) = shorts e ++ shorts-of es

some-short : (es : List Entry) → HasShort es → 0 < length (shorts-of es)
some-short [] h = absurd h
some-short (e ∷ es) h =
    let sum = length-append (shorts e) (shorts-of es) in
    elim h [
      | inl here ↦ let one : length (shorts e) ≡ 1 = (rw (lt-ltb (length (units_given e)) (wanted e) here) refl) in omega (arith, sum, one)
      | inr rest ↦ let more = some-short es rest in omega (arith, sum, more)
    ]

shorts-entries : (log : Log) (es : List Entry) → shorts-of (map (λ e. e.1) log ++ es) ≡ named_in shorts log ++ shorts-of es
shorts-entries [] es = refl
shorts-entries (e ∷ log) es = ap (λ us. shorts e.1 ++ us) (shorts-entries log es) ∙ sym (append_assoc (shorts e.1) (named_in shorts log) (shorts-of es))

shorts-named : (logs : List Log) → shorts-of (all_entries logs) ≡ named shorts logs
shorts-named [] = refl
shorts-named (log ∷ logs) = shorts-entries log (all_entries logs) ∙ ap (λ us. named_in shorts log ++ us) (shorts-named logs)

-- both counts of a number are the same
same-times : (x : ℕ) (ys : List ℕ) → times x ys ≡ together.times x ys
same-times x [] = refl
same-times x (y ∷ ys) =
    let same = same-times x ys in
    elim (eqb_tells x y) [
      | inl q ↦ rw q.0 (omega (arith, same))
      | inr q ↦ rw q.0 (omega (arith, same))
    ]

named-so : (page : ℕ) (v w : List ℕ) → ((x : ℕ) → together.times x v ≡ together.times x w) → NamesPage page v → NamesPage page w
named-so page v w same h =
    let a = same-times h.unit v in
    let b = same-times h.unit w in
    let c = same h.unit in
    let s = h.stands in
    record { unit = h.unit; page_is = h.page_is; stands = omega (arith, a, b, c, s) }

no-class : (pages page : ℕ) → ¬ HasClass page (replicate pages (let o : Option ℕ = None in o))
no-class zero page h = cc
no-class (suc pages) zero h = cc
no-class (suc pages) (suc page) h = no-class pages page h

pub logs-short : (processors pages : ℕ) (logs : List Log) (o : Order) → IsOrderOf logs o → IsLaid processors pages o → JournalShort pages logs
logs-short processors pages logs o is laid short page lt =
    let fit = pages-fit o (fresh processors pages) laid in
    let some = subst (λ us. 0 < length us) (shorts-named logs) (some-short (all_entries logs) short) in
    let many = named-count shorts logs o is in
    let there = length-replicate pages (let o : Option ℕ = None in o) in
    subst (NamesPage page) (sym (given-named logs))
    (elim (classes-over page o (fresh_pages pages) fit (omega (arith, some, many)) (omega (arith, lt, there))) [
      | inl class ↦ absurd (no-class pages page class)
      | inr gave ↦ named-so page (named_by units_given o) (named units_given logs) (λ x. sym (named-parts units_given logs o is x)) gave
    ])

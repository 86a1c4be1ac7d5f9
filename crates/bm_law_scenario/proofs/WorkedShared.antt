-- References that are acquired and given up, and wrong ones.
use Rattle.std.specs.Prelude.{◌≡◌, ◌<◌, ℕ, zero, suc, true, List, [], ◌∷◌, Some, false, slice_get}
use Rattle.std.specs.Str.{bytes_eq}
use Rattle.std.proofs.lemmas.Slice.Eq.{bytes_eq-Decides}
use Rattle.std.proofs.Common.{◌∙◌, ap, arith, inl, inr, refl, sym}
use Rattle.std.proofs.lemmas.Bool.{false≢true}
use Rattle.bm_journal.specs.declared.entry.Entry.TheVariants as entry
use Rattle.bm_lang.specs.declared.scenario.MapId.{MapId}
use Rattle.bm_lang.specs.declared.scenario.TypeDeclaration.{TypeDeclaration}
use Rattle.bm_lang.specs.declared.scenario.TypeId.{TypeId}
use Rattle.bm_law_scenario.specs.Calls.{IsCounted, RunsAcquire, RunsGet, RunsStill}
use Rattle.bm_law_scenario.specs.Held.{Names, Object}
use Rattle.bm_law_scenario.specs.Held as held
use Rattle.bm_law_scenario.specs.Worked.{item}
use Rattle.bm_law_scenario.specs.WorkedDrops.{a_field, acquires, both_hold, counted_types, gives_one_up, holding_three, other_field, reads, y_holds, y_name}
use Rattle.bm_law_scenario.specs.WorkedJournal.{item_id, types, x_name}
use Rattle.bm_law_scenario.proofs.Freed.{no-count}

-- ---- right ones

is-counted : IsCounted counted_types 0
is-counted = record { declared = record item { line = 5; counted = true; fields = [] }; found = refl; counted = refl }

pub acquires-seen : (seen : ℕ) → 0 < seen → RunsAcquire counted_types y_name x_name holding_three (acquires seen) both_hold
acquires-seen seen some = record {
  type = item_id;
  unit = 3;
  life = 1;
  held = refl;
  of_type = is-counted;
  seen = seen;
  some = some;
  part_is = refl;
  after_is = refl;
}

pub left-seen : (seen : ℕ) → 1 < seen → RunsStill counted_types x_name both_hold (gives_one_up seen) y_holds
left-seen seen others = record {
  type = item_id;
  unit = 3;
  life = 1;
  held = refl;
  of_type = is-counted;
  seen = seen;
  others = others;
  part_is = refl;
  after_is = refl;
}

-- ---- wrong ones

acquired-seen : (seen u n k : ℕ) → entry.Acquire 3 1 seen ∷ [] ≡ entry.Acquire u n k ∷ [] → seen ≡ k
acquired-seen seen u n k e = cc

left-of : (seen u n k : ℕ) → entry.Drop 3 1 ∷ entry.Still seen ∷ [] ≡ entry.Drop u n ∷ entry.Still k ∷ [] → seen ≡ k
left-of seen u n k e = cc

uncounted-not : (t : ℕ) → IsCounted types t → ⊥
uncounted-not t c = false≢true (sym (no-count types t c.declared (refl, tt) c.found) ∙ c.counted)

-- a count below 1 is seen
pub acquires_none-wrong : RunsAcquire counted_types y_name x_name holding_three (acquires 0) both_hold → ⊥
acquires_none-wrong h = let e = acquired-seen 0 h.unit h.life h.seen h.part_is in let s = h.some in omega (arith, e, s)

-- the type has no count
pub acquires_uncounted-wrong : RunsAcquire types y_name x_name holding_three (acquires 1) both_hold → ⊥
acquires_uncounted-wrong h = uncounted-not h.type.0 h.of_type

-- the last reference is answered as one of others
pub none_left-wrong : RunsStill counted_types x_name both_hold (gives_one_up 1) y_holds → ⊥
none_left-wrong h = let e = left-of 1 h.unit h.life h.seen h.part_is in let s = h.others in omega (arith, e, s)

pub left_uncounted-wrong : RunsStill types x_name both_hold (gives_one_up 2) y_holds → ⊥
left_uncounted-wrong h = uncounted-not h.type.0 h.of_type

-- the name keeps what it gave up
nothing-object : (t : TypeId) (u n : ℕ) → Object t u n ≡ held.Nothing → ⊥
nothing-object t u n e = cc

pub kept-wrong : RunsStill counted_types x_name both_hold (gives_one_up 2) both_hold → ⊥
kept-wrong h = nothing-object item_id 3 1 (ap (λ (names : Names). names x_name) h.after_is)

-- ---- reads

one-field : (t : ℕ) (d : TypeDeclaration) → slice_get types t ≡ Some d → d.fields ≡ a_field ∷ []
one-field zero d e = (let q : record item { line = 5 } ≡ d = cc in ap (λ (x : TypeDeclaration). x.fields) (sym q))
one-field (suc t) d e = cc

pub reads-first : RunsGet types x_name a_field holding_three (reads 0) holding_three
reads-first = record {
  type = item_id;
  unit = 3;
  life = 1;
  held = inl refl;
  place = 0;
  of_type = record { declared = record item { line = 5 }; found = refl; named = refl };
  value = 7;
  part_is = refl;
  after_is = refl;
}

read-at : (place u n k v : ℕ) → entry.Get 3 1 place 7 ∷ [] ≡ entry.Get u n k v ∷ [] → place ≡ k
read-at place u n k v e = cc

-- what stands at the place of a read
read-field : (place : ℕ) (x field : List ℕ) (names : Names) → (h : RunsGet types x field names (reads place) names) → slice_get (a_field ∷ []) place ≡ Some field
read-field place x field names h =
    let d = h.of_type.declared in
    ap (λ k. slice_get (a_field ∷ []) k) (read-at place h.unit h.life h.place h.value h.part_is) ∙ (ap (λ (fs : List (List ℕ)). slice_get fs h.place) (sym (one-field h.type.0 d h.of_type.found)) ∙ h.of_type.named)

pub reads_second-wrong : RunsGet types x_name a_field holding_three (reads 1) holding_three → ⊥
reads_second-wrong h = (let e = read-field 1 x_name a_field holding_three h in cc)

pub reads_other-wrong : RunsGet types x_name other_field holding_three (reads 0) holding_three → ⊥
reads_other-wrong h =
    let same : a_field ≡ other_field = (let q = read-field 0 x_name other_field holding_three h in cc) in
    false≢true (sym differ ∙ (bytes_eq-Decides a_field other_field).1 same)
  where
    differ : bytes_eq a_field other_field ≡ false
    differ = refl

held-not : (t : TypeId) (u n : ℕ) → held.Nothing ≡ Object t u n → ⊥
held-not t u n e = cc

soft-not : (t : TypeId) (g : MapId) (u n : ℕ) → held.Nothing ≡ held.Soft t g u n → ⊥
soft-not t g u n e = cc

pub reads_none-wrong : RunsGet types y_name a_field holding_three (reads 0) holding_three → ⊥
reads_none-wrong h = elim h.held [ inl e ↦ held-not h.type h.unit h.life e | inr e ↦ soft-not h.type e.0 h.unit h.life e.1 ]

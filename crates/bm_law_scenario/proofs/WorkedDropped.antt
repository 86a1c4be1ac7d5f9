-- Drops of objects with a count, and without one, are so, and wrong ones aren't.
use Rattle.std.specs.Prelude.{◌≡◌, ℕ, zero, suc, Bool, true, false, is_some, List, [], ◌∷◌, ◌++◌, Some, None, slice_get}
use Rattle.std.proofs.Common.{◌∙◌, ap, inl, inr, refl, subst, sym}
use Rattle.bm_class.specs.Sizes.{class_of_size}
use Rattle.bm_journal.specs.declared.entry.Entry.{Entry}
use Rattle.bm_journal.specs.declared.entry.Entry.TheVariants as entry
use Rattle.bm_lang.specs.declared.scenario.TypeDeclaration.{TypeDeclaration}
use Rattle.bm_law.specs.Phrases.{DelayPhrase, FreePhrase, overtaken_delayed, raise_unless}
use Rattle.bm_law.specs.State.{State}
use Rattle.bm_law.proofs.Alone.{level-from, level-own}
use Rattle.bm_law_scenario.specs.Calls.{Frees, RunsDrop, RunsGivingUp, any_batch, batch_in}
use Rattle.bm_law_scenario.specs.Opened.{OfClass}
use Rattle.bm_law_scenario.specs.Worked.{item}
use Rattle.bm_law_scenario.specs.WorkedDrops.{DropsAbove, counted_types, delays, delays_and_raises, frees_plainly, holding_three, in_batch, no_batch, none_held}
use Rattle.bm_law_scenario.specs.WorkedJournal.{item_id, types, x_name}
use Rattle.bm_law_scenario.proofs.Freed.{no-count}

pub of-counted : OfClass counted_types 0 0 (record item { line = 5; counted = true; fields = [] })
unfolding class_of_size
of-counted = record { found = refl; class = refl }

-- what stands behind the drop and its reply
abbrev rest_of : List Entry → List Entry
rest_of (drop ∷ reply ∷ own) = own
rest_of _ = []

pub delay-of : (s : State ℕ) (part : List Entry) (batch : Bool) → batch ≡ is_some (s.rows 0).deferred.plain → part ≡ entry.Drop 3 1 ∷ entry.Last ∷ rest_of part → DelayPhrase 0 3 0 batch (rest_of part) → RunsDrop counted_types x_name (batch_in s) holding_three part none_held
delay-of s part batch is parts d = record {
  type = item_id;
  unit = 3;
  life = 1;
  held = refl;
  class = 0;
  declared = record item { line = 5; counted = true; fields = [] };
  of_class = of-counted;
  home = 0;
  batch = batch;
  batch_is = is;
  own = rest_of part;
  part_is = parts;
  frees = d;
  after_is = refl;
}

pub drops-raised : RunsDrop counted_types x_name (batch_in no_batch) holding_three delays_and_raises none_held
drops-raised = delay-of no_batch delays_and_raises false refl refl (inl (0, refl))

pub drops-waiting : RunsDrop counted_types x_name (batch_in in_batch) holding_three delays none_held
drops-waiting = delay-of in_batch delays true refl refl (inl (0, refl))

-- ---- wrong ones

-- each type has a count
all-counted : (t : ℕ) (d : TypeDeclaration) → slice_get counted_types t ≡ Some d → d.counted ≡ true
all-counted zero d f = (let q : record item { line = 5; counted = true; fields = [] } ≡ d = cc in ap (λ (x : TypeDeclaration). x.counted) (sym q))
all-counted (suc t) d f = absurd (none-some d f)
  where
    none-some : (d : TypeDeclaration) → None ≡ Some d → ⊥
    none-some d e = cc

delayed : (counted : Bool) (c u home : ℕ) (batch : Bool) (own : List Entry) → counted ≡ true → Frees counted c u home batch own → DelayPhrase c u home batch own
delayed true c u home batch own e h = h
delayed false c u home batch own e h = absurd (cc)

freed : (counted : Bool) (c u home : ℕ) (batch : Bool) (own : List Entry) → counted ≡ false → Frees counted c u home batch own → FreePhrase c u home own
freed false c u home batch own e h = h
freed true c u home batch own e h = absurd (cc)

own-is : (part : List Entry) (unit life : ℕ) (own : List Entry) → part ≡ entry.Drop unit life ∷ entry.Last ∷ own → own ≡ rest_of part
own-is part unit life own e = sym (ap rest_of e)

-- the delayed free of a counted object's drop
delay-in : (known : ℕ → Bool → Type 0) (part : List Entry) (h : RunsDrop counted_types x_name known holding_three part none_held) → DelayPhrase h.class h.unit h.home h.batch (rest_of part)
delay-in known part h = subst (DelayPhrase h.class h.unit h.home h.batch) (own-is part h.unit h.life h.own h.part_is) (delayed h.declared.counted h.class h.unit h.home h.batch h.own (all-counted h.type.0 h.declared h.of_class.found) h.frees)

free-delay : (u v home to : ℕ) (es fs : List Entry) → entry.Free u home ∷ es ≡ entry.Delay v to ∷ fs → ⊥
free-delay u v home to es fs e = cc

pub plainly-wrong : RunsDrop counted_types x_name any_batch holding_three frees_plainly none_held → ⊥
plainly-wrong h = elim (delay-in any_batch frees_plainly h) [
  | inl x ↦ free-delay _ _ _ _ _ _ x.1
  | inr x ↦ free-delay _ _ _ _ _ _ x.5
]

pub uncounted-wrong : RunsDrop types x_name any_batch holding_three delays_and_raises none_held → ⊥
uncounted-wrong h =
    let f = subst (FreePhrase h.class h.unit h.home) (own-is delays_and_raises h.unit h.life h.own h.part_is) (freed h.declared.counted h.class h.unit h.home h.batch h.own (no-count types h.type.0 h.declared (refl, tt) h.of_class.found) h.frees) in
    elim f [
      | inl x ↦ free-delay _ _ _ _ _ _ (sym x.2)
      | inr x ↦ free-delay _ _ _ _ _ _ (sym x.5)
    ]

-- the lines of a delayed free that finds its cache in use
put-not : (c u b k a v : ℕ) (lost : List ℕ) (batch : Bool) (es : List Entry) → entry.Enter 0 1 ∷ entry.Delayed 0 v ∷ es ≡ entry.Enter c b ∷ overtaken_delayed c lost ++ entry.LookDelayed c k ∷ entry.PutDelayed c u ∷ entry.Leave c a ∷ raise_unless batch c → ⊥
put-not c u b k a v [] batch es e = cc
put-not c u b k a v (l ∷ lost) batch es e = cc

behind-first : (x y : Entry) (es fs : List Entry) → x ∷ es ≡ y ∷ fs → es ≡ fs
behind-first x y es fs e = cc

-- the class that the lines name
class-of : (c a v u : ℕ) (es fs : List Entry) → entry.Enter 0 1 ∷ entry.Delayed 0 v ∷ entry.Leave 0 0 ∷ es ≡ entry.Enter c 1 ∷ entry.Delayed c u ∷ entry.Leave c a ∷ fs → (0 ≡ c) × (es ≡ fs)
class-of c a v u es fs e = (cc, cc)

raise-known : (c : ℕ) (b : Bool) (es : List Entry) → es ≡ raise_unless b c → (d : Bool) → b ≡ d → es ≡ raise_unless d c
raise-known c b es e d q = e ∙ ap (λ x. raise_unless x c) q

none-raise : (c : ℕ) → [] ≡ entry.Raise c ∷ [] → ⊥
none-raise c e = cc

-- whether a batch is in progress decides whether the flag is raised
flag-of : (s : State ℕ) (part es : List Entry) → rest_of part ≡ entry.Delay 3 0 ∷ entry.Enter 0 1 ∷ entry.Delayed 0 3 ∷ entry.Leave 0 0 ∷ es → (h : RunsDrop counted_types x_name (batch_in s) holding_three part none_held) → es ≡ raise_unless (is_some (s.rows 0).deferred.plain) 0
flag-of s part es parts h = elim (delay-in (batch_in s) part h) [
  | inl x ↦
      (let lines = behind-first _ _ _ _ (sym parts ∙ x.1) in
      let c = class-of h.class x.0 3 h.unit es (raise_unless h.batch h.class) lines in
      let known : h.batch ≡ is_some (s.rows 0).deferred.plain = h.batch_is ∙ ap (λ k. is_some (s.rows k).deferred.plain) (sym c.0) in
      c.1 ∙ (ap (raise_unless h.batch) (sym c.0) ∙ ap (λ b. raise_unless b 0) known))
  | inr x ↦ absurd (put-not _ _ _ _ _ _ x.1 h.batch _ (behind-first _ _ _ _ (sym parts ∙ x.5)))
]

pub unraised-wrong : RunsDrop counted_types x_name (batch_in no_batch) holding_three delays none_held → ⊥
unraised-wrong h = none-raise 0 (flag-of no_batch delays [] refl h)

pub raised_again-wrong : RunsDrop counted_types x_name (batch_in in_batch) holding_three delays_and_raises none_held → ⊥
raised_again-wrong h = none-raise 0 (sym (flag-of in_batch delays_and_raises (entry.Raise 0 ∷ []) refl h))

-- ---- in a handler

above : (s : State ℕ) (own : List Entry) → RunsDrop counted_types x_name (batch_in s) holding_three own none_held → DropsAbove s own
above s own h = (own, inr h, record { from = level-from 2 own; own_is = level-own 2 own })

-- the drop of the one reference isn't answered that others are left
last-still : (u n k v m : ℕ) (es : List Entry) → entry.Drop u n ∷ entry.Last ∷ es ≡ entry.Drop v m ∷ entry.Still k ∷ [] → ⊥
last-still u n k v m es e = cc

not-above : (s : State ℕ) (own : List Entry) → own ≡ entry.Drop 3 1 ∷ entry.Last ∷ rest_of own → (RunsDrop counted_types x_name (batch_in s) holding_three own none_held → ⊥) → DropsAbove s own → ⊥
not-above s own parts wrong h =
    elim (subst (λ es. RunsGivingUp counted_types x_name (batch_in s) holding_three es none_held) (sym h.2.own_is ∙ level-own 2 own) h.1) [
      | inl r ↦ last-still 3 1 r.seen r.unit r.life (rest_of own) (sym parts ∙ r.part_is)
      | inr r ↦ wrong r
    ]

pub above-raised : DropsAbove no_batch delays_and_raises
above-raised = above no_batch delays_and_raises drops-raised

pub above-waiting : DropsAbove in_batch delays
above-waiting = above in_batch delays drops-waiting

pub above-unraised : DropsAbove no_batch delays → ⊥
above-unraised = not-above no_batch delays refl unraised-wrong

pub above-raised_again : DropsAbove in_batch delays_and_raises → ⊥
above-raised_again = not-above in_batch delays_and_raises refl raised_again-wrong

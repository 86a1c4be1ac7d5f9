-- Logs of changes, and what applying one gives.
use Rattle.std.proofs.Common.{◌≡◌, ℕ, Bool, true, false, ◌==◌, ◌||◌, ◌<◌, ◌-◌, zero, suc, length, get_or, slice_get, option_to_list, Option, Some, None, arith, List, [], ◌∷◌, ◌++◌, map, Result, Ok, Err, OnOk, OnErr, refl, sym, ap, ap₂, ◌∙◌, subst, inl, inr, Bor, if◌then◌else◌}
use mathlib.Core.Path.{fun_ext}
use Rattle.std.proofs.lemmas.Option.{slice_get-get_or}
use Rattle.std.specs.List.{list_any}
use Rattle.std.specs.Str.{bytes_eq}
use Rattle.std.proofs.lemmas.List.Folds.{list_any-append}
use Rattle.bm_check.specs.declared.name_state.NameState.{NameState}
use Rattle.bm_check.specs.declared.name_state.NameState.TheVariants.{Unbound, Spent, Maybe, Owned, Soft, MaybeSoft}
use Rattle.bm_check.specs.declared.meeting.Meeting.{Meeting}
use Rattle.bm_check.specs.declared.meeting.Meeting.TheVariants.{Branches, Body}
use Rattle.bm_check.specs.declared.name_log.Change.{Change}
use Rattle.bm_check.specs.NameStates.{is_soft, is_same}
use Rattle.bm_check.specs.Names.{Names, put, with_name, soft_ended}
use Rattle.bm_check.specs.Tables.{AreListed, listed}
use Rattle.bm_check.specs.declared.name_state.HeldLock.{HeldLock}
use Rattle.bm_check.specs.declared.stop.Stop.{Stop}
use Rattle.bm_check.specs.Blocks.{at, Broken, Reaches}
use Rattle.bm_check.specs.Meetings.{breaks, outcome, rule_of, after_meeting}
use Rattle.bm_check.specs.Changes.{at_states, applied, AreMet, Leads, end_of, breaks_at, met_at, some_break}
use Rattle.bm_check.proofs.TableLemmas.{is_or_not, same_word, flipped, named}
use Rattle.bm_check.proofs.Growth.{put_has}

-- a change, as a function of what it gives
abbrev pub over : List ℕ → NameState → (List ℕ → NameState) → List ℕ → NameState
over x s f = λ y. if bytes_eq x y then s else f y

applied_at_end : (cs : List Change) (c : Change) (f : List ℕ → NameState) → applied (cs ++ c ∷ []) f ≡ applied cs (over c.name.now c.state f)
applied_at_end [] c f = refl
applied_at_end (d ∷ cs) c f = ap (over d.name.now d.state) (applied_at_end cs c f)

met_at_end : (cs : List Change) (c : Change) (met : List (List ℕ)) → AreMet cs met → list_any (bytes_eq c.name.now) met ≡ true → AreMet (cs ++ c ∷ []) met
met_at_end [] c met h is = (is, tt)
met_at_end (d ∷ cs) c met h is = (h.0, met_at_end cs c met h.1 is)

met_before_end : (cs : List Change) (c : Change) (met : List (List ℕ)) → AreMet (cs ++ c ∷ []) met → AreMet cs met × (list_any (bytes_eq c.name.now) met ≡ true)
met_before_end [] c met h = (tt, h.0)
met_before_end (d ∷ cs) c met h = let r = met_before_end cs c met h.1 in ((h.0, r.0), r.1)

more_met : (x : List ℕ) (met more : List (List ℕ)) → list_any (bytes_eq x) met ≡ true → list_any (bytes_eq x) (met ++ more) ≡ true
more_met x met more h = list_any-append (bytes_eq x) met more ∙ rw h refl

pub all_more_met : (cs : List Change) (met more : List (List ℕ)) → AreMet cs met → AreMet cs (met ++ more)
all_more_met [] met more h = tt
all_more_met (c ∷ cs) met more h = (more_met c.name.now met more h.0, all_more_met cs met more h.1)

with_more : (met : List (List ℕ)) (x y : List ℕ) → list_any (bytes_eq y) met ≡ true → list_any (bytes_eq y) (with_name met x) ≡ true
with_more met x y h = elim (is_or_not (list_any (bytes_eq x) met)) [ inl isit ↦ rw isit h | inr isnt ↦ rw isnt (more_met y met (x ∷ []) h) ]

all_with_more : (cs : List Change) (met : List (List ℕ)) (x : List ℕ) → AreMet cs met → AreMet cs (with_name met x)
all_with_more [] met x h = tt
all_with_more (c ∷ cs) met x h = (with_more met x c.name.now h.0, all_with_more cs met x h.1)

-- what a name had before it changed
undone : (x : List ℕ) (s : NameState) (f : List ℕ → NameState) → over x (f x) (over x s f) ≡ f
undone x s f = fun_ext (λ y. elim (is_or_not (bytes_eq x y)) [ inl isit ↦ rw isit (ap f (same_word x y isit)) | inr isnt ↦ rw isnt refl ])

-- a change that is noted leaves the start as it was
pub noted : (cs : List Change) (n : Names) (f : List ℕ → NameState) (c : Change) (s : NameState) → c.state ≡ n.state c.name.now → Leads cs n f → Leads (cs ++ c ∷ []) (put n c.name.now s) f
noted cs n f c s before h = record {
  met = met_at_end cs c (with_name n.met c.name.now) (all_with_more cs n.met c.name.now h.met) (put_has n.met c.name.now);
  states = applied_at_end cs c (over c.name.now s n.state) ∙ (ap (λ t. applied cs (over c.name.now t (over c.name.now s n.state))) before ∙ (ap (applied cs) (undone c.name.now s n.state) ∙ h.states));
}

-- the last change of a log, applied
pub one_back : (cs : List Change) (c : Change) (n : Names) (f : List ℕ → NameState) → Leads (cs ++ c ∷ []) n f → Leads cs (put n c.name.now c.state) f × ((put n c.name.now c.state).met ≡ n.met)
one_back cs c n f h =
    let r = met_before_end cs c n.met h.met in
    (record { met = all_with_more cs n.met c.name.now r.0; states = sym (applied_at_end cs c n.state) ∙ h.states }, rw (r.1) refl)

pub all_applied : (n m : Names) (f : List ℕ → NameState) → Leads [] n f → n.met ≡ m.met → n ≡ at_states m f
all_applied n m f h met = ap₂ named met h.states

-- nothing has changed
pub no_changes : (n : Names) → Leads [] n n.state
no_changes n = record { met = tt; states = refl }

-- a log leads to the same states where more names are met
pub leads_later : (cs : List Change) (met later more : List (List ℕ)) (f g : List ℕ → NameState) → later ≡ met ++ more → Leads cs (named met f) g → Leads cs (named later f) g
leads_later cs met later more f g is h = record { met = subst (λ (ms : List (List ℕ)). AreMet cs ms) (sym is) (all_more_met cs met more h.met); states = h.states }

-- the names of a log
abbrev pub is_in : List Change → List ℕ → Bool
is_in cs y = list_any (λ c. bytes_eq c.name.now y) cs

not_first : (c : Change) (cs : List Change) (y : List ℕ) → is_in (c ∷ cs) y ≡ false → (bytes_eq c.name.now y ≡ false) × (is_in cs y ≡ false)
not_first c cs y h = elim (is_or_not (bytes_eq c.name.now y)) [ inl isit ↦ (let e : true ≡ false = rw isit at h in cc) | inr isnt ↦ (isnt, rw isnt at h) ]

pub unchanged : (cs : List Change) (f : List ℕ → NameState) (y : List ℕ) → is_in cs y ≡ false → applied cs f y ≡ f y
unchanged [] f y h = refl
unchanged (c ∷ cs) f y h = let r = not_first c cs y h in rw (r.0) (unchanged cs f y r.1)

-- a log of states that a function gives
pub given_at : (G : List ℕ → NameState) (cs : List Change) (f : List ℕ → NameState) (y : List ℕ) → (is_in cs y ≡ false → f y ≡ G y) → applied (map (end_of G) cs) f y ≡ G y
given_at G [] f y same = same refl
given_at G (c ∷ cs) f y same = elim (is_or_not (bytes_eq c.name.now y)) [
  | inl isit ↦ rw isit (ap G (same_word c.name.now y isit))
  | inr isnt ↦ rw isnt (given_at G cs f y (λ h. same (rw isnt h)))
]

ends_met : (G : List ℕ → NameState) (cs : List Change) (met : List (List ℕ)) → AreMet cs met → AreMet (map (end_of G) cs) met
ends_met G [] met h = tt
ends_met G (c ∷ cs) met h = (h.0, ends_met G cs met h.1)

both_met : (cs ds : List Change) (met : List (List ℕ)) → AreMet cs met → AreMet ds met → AreMet (cs ++ ds) met
both_met [] ds met h k = k
both_met (c ∷ cs) ds met h k = (h.0, both_met cs ds met h.1 k)

in_neither : (cs ds : List Change) (y : List ℕ) → is_in (cs ++ ds) y ≡ false → (is_in cs y ≡ false) × (is_in ds y ≡ false)
in_neither [] ds y h = (refl, h)
in_neither (c ∷ cs) ds y h =
    let r = not_first c (cs ++ ds) y h in
    let t = in_neither cs ds y r.1 in
    (rw (r.0) t.0, t.1)

outcomes_are : (m : Meeting) (F C : List ℕ → NameState) (cs : List Change) → map (met_at m F) (map (end_of C) cs) ≡ map (end_of (λ x. outcome m (F x) (C x))) cs
outcomes_are m F C [] = refl
outcomes_are m F C (c ∷ cs) = ap (λ ds. end_of (λ x. outcome m (F x) (C x)) c ∷ ds) (outcomes_are m F C cs)

breaks_are : (m : Meeting) (F C : List ℕ → NameState) (cs : List Change) → list_any (breaks_at m F) (map (end_of C) cs) ≡ list_any (λ c. breaks m (F c.name.now) (C c.name.now)) cs
breaks_are m F C [] = refl
breaks_are m F C (c ∷ cs) = elim (is_or_not (breaks m (F c.name.now) (C c.name.now))) [ inl isit ↦ rw isit refl | inr isnt ↦ rw isnt (breaks_are m F C cs) ]

-- a test of names, over those of a log and over all
found : (P : List ℕ → Bool) (x : List ℕ) (met : List (List ℕ)) → list_any (bytes_eq x) met ≡ true → P x ≡ true → list_any P met ≡ true
found P x [] among isit = cc
found P x (y ∷ met) among isit = elim (is_or_not (P y)) [
  | inl h ↦ rw h refl
  | inr h ↦ rw h (elim (is_or_not (bytes_eq x y)) [
    | inl same ↦ (let e : P x ≡ P y = ap P (same_word x y same) in cc)
    | inr other ↦ found P x met (rw other at among) isit
  ])
]

some_found : (P : List ℕ → Bool) (cs : List Change) (met : List (List ℕ)) → AreMet cs met → list_any (λ c. P c.name.now) cs ≡ true → list_any P met ≡ true
some_found P [] met h isit = cc
some_found P (c ∷ cs) met h isit = elim (is_or_not (P c.name.now)) [ inl here ↦ found P c.name.now met h.0 here | inr isnt ↦ some_found P cs met h.1 (rw isnt at isit) ]

passes_none : (P : List ℕ → Bool) (cs : List Change) (y : List ℕ) → list_any (λ c. P c.name.now) cs ≡ false → is_in cs y ≡ true → P y ≡ false
passes_none P [] y none among = cc
passes_none P (c ∷ cs) y none among = elim (is_or_not (P c.name.now)) [
  | inl h ↦ (let e : true ≡ false = rw h at none in cc)
  | inr h ↦ elim (is_or_not (bytes_eq c.name.now y)) [
    | inl same ↦ ap P (sym (same_word c.name.now y same)) ∙ h
    | inr other ↦ passes_none P cs y (rw h at none) (rw other at among)
  ]
]

none_found : (P : List ℕ → Bool) (cs : List Change) (met : List (List ℕ)) → list_any (λ c. P c.name.now) cs ≡ false → ((y : List ℕ) → is_in cs y ≡ false → P y ≡ false) → list_any P met ≡ false
none_found P cs [] none others = refl
none_found P cs (y ∷ met) none others =
    let here : P y ≡ false = elim (is_or_not (is_in cs y)) [ inl among ↦ passes_none P cs y none among | inr isnt ↦ others y isnt ] in
    rw here (none_found P cs met none others)

-- a state that meets itself
same_number : (n : ℕ) → (n == n) ≡ true
same_number n = grind arith

same_state : (s : NameState) → is_same s s ≡ true
same_state Unbound = refl
same_state Spent = refl
same_state (Maybe t) = same_number t.0
same_state (Owned t) = same_number t.0
same_state (Soft t g) = rw (same_number t.0, same_number g.0) refl
same_state (MaybeSoft t g) = rw (same_number t.0, same_number g.0) refl

no_break : (m : Meeting) (s : NameState) → breaks m s s ≡ false
no_break Branches s = rw (same_state s) refl
no_break Body s = rw (same_state s) refl

same_outcome : (m : Meeting) (s : NameState) → outcome m s s ≡ s
same_outcome Branches s = rw (same_state s) refl
same_outcome Body Unbound = refl
same_outcome Body Spent = refl
same_outcome Body (Maybe t) = refl
same_outcome Body (Owned t) = refl
same_outcome Body (Soft t g) = refl
same_outcome Body (MaybeSoft t g) = refl

-- Two parts of a text meet. Both begin at the states f; the log of the second one leads back to them from n, and another one
-- from them to the first one's end.
module _ (m : Meeting) (cs first : List Change) (n : Names) (f g : List ℕ → NameState) (start : Leads cs n f) (forth : Leads first (at_states n f) g) where
  start_kept : (y : List ℕ) → is_in (cs ++ first) y ≡ false → f y ≡ n.state y
  start_kept y h = sym (ap (λ (k : List ℕ → NameState). k y) start.states) ∙ unchanged cs n.state y (in_neither cs first y h).0

  all_kept : (y : List ℕ) → is_in (cs ++ first) y ≡ false → g y ≡ n.state y
  all_kept y h = sym (ap (λ (k : List ℕ → NameState). k y) forth.states) ∙ (unchanged first f y (in_neither cs first y h).1 ∙ start_kept y h)

  whole_met : AreMet (cs ++ first) n.met
  whole_met = both_met cs first n.met start.met forth.met

  pub a_break : list_any (breaks_at m g) (map (end_of n.state) (cs ++ first)) ≡ true → some_break m g n ≡ true
  a_break h = some_found (λ x. breaks m (g x) (n.state x)) (cs ++ first) n.met whole_met (sym (breaks_are m g n.state (cs ++ first)) ∙ h)

  pub without_break : list_any (breaks_at m g) (map (end_of n.state) (cs ++ first)) ≡ false → some_break m g n ≡ false
  without_break h = none_found (λ x. breaks m (g x) (n.state x)) (cs ++ first) n.met (sym (breaks_are m g n.state (cs ++ first)) ∙ h) (λ y isnt. rw (all_kept y isnt) (no_break m (n.state y)))

  pub all_met : Leads (map (met_at m g) (map (end_of n.state) (cs ++ first))) (at_states n f) (λ x. outcome m (g x) (n.state x))
  all_met = rw (outcomes_are m g n.state (cs ++ first)) (record {
    met = ends_met (λ x. outcome m (g x) (n.state x)) (cs ++ first) n.met whole_met;
    states = fun_ext (λ y. given_at (λ x. outcome m (g x) (n.state x)) (cs ++ first) f y (λ isnt. start_kept y isnt ∙ (sym (same_outcome m (n.state y)) ∙ ap (λ s. outcome m s (n.state y)) (sym (all_kept y isnt)))));
  })

-- names that are non-owning references
pub listed_on : (soft : List (Bor (List ℕ))) (x : Bor (List ℕ)) (n : Names) (s : NameState) → AreListed soft n → AreListed (listed soft x s) n
listed_on soft x n s h y is = elim (is_or_not (is_soft s)) [ inl isit ↦ rw isit (list_any-append (λ k. bytes_eq y k.now) soft (x ∷ []) ∙ rw (h y is) refl) | inr isnt ↦ rw isnt (h y is) ]

pub listed_put : (soft : List (Bor (List ℕ))) (x : Bor (List ℕ)) (n : Names) (s : NameState) → AreListed soft n → AreListed (listed soft x s) (put n x.now s)
listed_put soft x n s h y is = elim (is_or_not (bytes_eq x.now y)) [
  | inl same ↦
      (let isit : is_soft s ≡ true = rw same at is in
      let e : bytes_eq y x.now ≡ true = flipped y x.now ∙ same in
      rw isit (list_any-append (λ k. bytes_eq y k.now) soft (x ∷ []) ∙ rw e (last_true (list_any (λ k. bytes_eq y k.now) soft))))
  | inr other ↦ listed_on soft x n s h y (rw other at is)
]
  where
    last_true : (b : Bool) → (b || true) ≡ true
    last_true true = refl
    last_true false = refl

-- the last one of the list has ended
pub last_off : (soft : List (Bor (List ℕ))) (x : Bor (List ℕ)) (n : Names) → AreListed (soft ++ x ∷ []) n → is_soft (n.state x.now) ≡ false → AreListed soft n
last_off soft x n h spent y is = elim (is_or_not (list_any (λ k. bytes_eq y k.now) soft)) [
  | inl among ↦ among
  | inr isnt ↦
      (let whole : list_any (λ k. bytes_eq y k.now) (soft ++ x ∷ []) ≡ true = h y is in
      elim (is_or_not (bytes_eq y x.now)) [
        | inl same ↦ (let e : y ≡ x.now = same_word y x.now same in let f : is_soft (n.state y) ≡ false = ap (λ z. is_soft (n.state z)) e ∙ spent in absurd (let t : true ≡ false = sym is ∙ f in cc))
        | inr other ↦ absurd (let t : false ≡ true = rw (list_any-append (λ k. bytes_eq y k.now) soft (x ∷ []), isnt, other) at whole in cc)
      ])
]

-- a name's reference ends, and all the others as before
pub one_ended : (n : Names) (x : List ℕ) → list_any (bytes_eq x) n.met ≡ true → is_soft (n.state x) ≡ true → soft_ended (put n x Spent) ≡ soft_ended n
one_ended n x among isit = ap₂ named (rw among refl) (fun_ext (λ y. elim (is_or_not (bytes_eq x y)) [
  | inl same ↦ (let h : is_soft (n.state y) ≡ true = ap (λ z. is_soft (n.state z)) (sym (same_word x y same)) ∙ isit in rw (same, h) refl)
  | inr other ↦ rw other refl
]))

-- where none is left
pub none_soft : (n : Names) → AreListed [] n → n ≡ soft_ended n
none_soft n h = ap (named n.met) (fun_ext (λ y. elim (is_or_not (is_soft (n.state y))) [ inl isit ↦ absurd (let e : false ≡ true = h y isit in cc) | inr isnt ↦ rw isnt refl ]))

-- what a change of a name does to the lists beside the table
pub listed_after : (r : Result (Unit {0}) Stop) (soft now : List (Bor (List ℕ))) (x : Bor (List ℕ)) (s : NameState) (n m : Names) → AreListed soft n → now ≡ listed soft x s → OnOk r (m ≡ put n x.now s) → OnErr r (m ≡ n) → AreListed now m
listed_after (Ok u) soft now x s n m h is ok err = subst (λ (k : Names). AreListed now k) (sym ok) (subst (λ (ks : List (Bor (List ℕ))). AreListed ks (put n x.now s)) (sym is) (listed_put soft x n s h))
listed_after (Err e) soft now x s n m h is ok err = subst (λ (k : Names). AreListed now k) (sym err) (subst (λ (ks : List (Bor (List ℕ))). AreListed ks n) (sym is) (listed_on soft x n s h))

pub leads_as : (cs ds : List Change) (n m : Names) (f : List ℕ → NameState) → cs ≡ ds → n ≡ m → Leads cs n f → Leads ds m f
leads_as cs ds n m f same names h = subst (λ (k : Names). Leads ds k f) names (subst (λ (es : List Change). Leads es n f) same h)

pub kept_after : (r : Result (Unit {0}) Stop) (cs now : List Change) (c : Change) (n m : Names) (s : NameState) → now ≡ cs ++ c ∷ [] → c.state ≡ n.state c.name.now → OnOk r (m ≡ put n c.name.now s) → OnOk r ((f : List ℕ → NameState) → Leads cs n f → Leads now m f)
kept_after (Ok u) cs now c n m s is before ok = λ f h. leads_as (cs ++ c ∷ []) now (put n c.name.now s) m f (sym is) (sym ok) (noted cs n f c s before h)
kept_after (Err e) cs now c n m s is before ok = tt

-- one step of applying a log
pub next_applied : (cs rest : List Change) (c : Change) (n m : Names) (f : List ℕ → NameState) → cs ≡ rest ++ c ∷ [] → m ≡ put n c.name.now c.state → Leads cs n f → Leads rest m f × (m.met ≡ n.met)
next_applied cs rest c n m f is ok h =
    let o = one_back rest c n f (leads_as cs (rest ++ c ∷ []) n n f is refl h) in
    (leads_as rest rest (put n c.name.now c.state) m f refl (sym ok) o.0, ap (λ (k : Names). k.met) ok ∙ o.1)

-- a log is applied at states to which another one has led
pub applied_there : (n m k : Names) (f g : List ℕ → NameState) (cs : List Change) → m ≡ at_states n f → Leads cs (at_states n f) g → ((h : List ℕ → NameState) → Leads cs m h → k ≡ at_states m h) → k ≡ at_states n g
applied_there n m k f g cs names h apply = apply g (leads_as cs cs (at_states n f) m g refl (sym names) h) ∙ ap (λ (l : Names). at_states l g) names

-- .. and that one's log is empty then
pub starts_there : (n m : Names) (f : List ℕ → NameState) (cs : List Change) → m ≡ at_states n f → cs ≡ [] → Leads cs m f
starts_there n m f cs names empty = leads_as [] cs (at_states n f) m f (sym empty) (sym names) (no_changes (at_states n f))

-- the ends of the statements with blocks
pub after_met : (m : Meeting) (line : ℕ) (l : HeldLock) (n : Names) (g : List ℕ → NameState) → some_break m g n ≡ false → after_meeting m line l (at_states n g) (at n l) ≡ Reaches (at (at_states n (λ x. outcome m (g x) (n.state x))) l)
after_met Branches line l n g h = rw h refl
after_met Body line l n g h = rw h refl

pub after_broken : (m : Meeting) (line : ℕ) (l : HeldLock) (n : Names) (g : List ℕ → NameState) → some_break m g n ≡ true → after_meeting m line l (at_states n g) (at n l) ≡ Broken line (rule_of m)
after_broken Branches line l n g h = rw h refl
after_broken Body line l n g h = rw h refl

-- the last one of a list
got : (xs : List (Bor (List ℕ))) (i : ℕ) (x d : Bor (List ℕ)) → slice_get xs i ≡ Some x → get_or xs i d ≡ x
got [] i x d h = cc
got (y ∷ xs) zero x d h = cc
got (y ∷ xs) (suc i) x d h = got xs i x d h

got_within : (xs : List (Bor (List ℕ))) (i : ℕ) (x : Bor (List ℕ)) → slice_get xs i ≡ Some x → i < length xs
got_within [] i x h = cc
got_within (y ∷ xs) zero x h = omega arith
got_within (y ∷ xs) (suc i) x h = let lt : i < length xs = got_within xs i x h in omega arith

pub popped : (xs now : List (Bor (List ℕ))) (o : Option (Bor (List ℕ))) (n : ℕ) (x : Bor (List ℕ)) → length xs ≡ n → slice_get xs (length xs - 1) ≡ Some x → ((d : Bor (List ℕ)) → 0 < n → o ≡ Some (get_or xs (n - 1) d)) → xs ≡ now ++ option_to_list o → xs ≡ now ++ x ∷ []
popped xs now o n x long last value items =
    let lt : length xs - 1 < length xs = got_within xs (length xs - 1) x last in
    let some : 0 < n = omega arith in
    let is : o ≡ Some x = value x some ∙ ap (λ (y : Bor (List ℕ)). Some y) (ap (λ (k : ℕ). get_or xs (k - 1) x) (sym long) ∙ got xs (length xs - 1) x x last) in
    items ∙ ap (λ (t : Option (Bor (List ℕ))). now ++ option_to_list t) is

pub no_last : (xs : List (Bor (List ℕ))) → slice_get xs (length xs - 1) ≡ None → xs ≡ []
no_last [] h = refl
no_last (y ∷ xs) h =
    let lt : length (y ∷ xs) - 1 < length (y ∷ xs) = omega arith in
    let some : slice_get (y ∷ xs) (length (y ∷ xs) - 1) ≡ Some (get_or (y ∷ xs) (length (y ∷ xs) - 1) y) = slice_get-get_or (y ∷ xs) (length (y ∷ xs) - 1) y lt in
    let e : None ≡ Some (get_or (y ∷ xs) (length (y ∷ xs) - 1) y) = sym h ∙ some in
    cc

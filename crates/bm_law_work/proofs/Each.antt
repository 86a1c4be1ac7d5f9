-- What holds of each entry of a part.
use Rattle.std.proofs.Common.{ℕ, Bool, true, false, ◌++◌, List, [], ◌∷◌, sym, subst}
use Rattle.bm_journal.specs.declared.entry.Entry.{Entry}
use Rattle.bm_law.specs.State.{State}
use Rattle.bm_law.specs.Lists.{Log, after}
use Rattle.bm_law.specs.Spans.{own_entries}
use Rattle.bm_law.proofs.Spans.{own-append}
use Rattle.bm_law_work.specs.Parts.{Part, Nothing, Stand, Say, Then, If, When}

abbrev pub AllOf : (Entry → Type 0) → List Entry → Type 0
AllOf I [] = Unit {0}
AllOf I (e ∷ es) = I e × AllOf I es

pub of-append : (I : Entry → Type 0) (v w : List Entry) → AllOf I v → AllOf I w → AllOf I (v ++ w)
of-append I [] w h k = k
of-append I (e ∷ v) w h k = (h.0, of-append I v w h.1 k)

pub of-map : (I J : Entry → Type 0) → ((e : Entry) → I e → J e) → (es : List Entry) → AllOf I es → AllOf J es
of-map I J f [] h = tt
of-map I J f (e ∷ es) h = (f e h.0, of-map I J f es h.1)

-- A part of whose entries of level l it holds.
abbrev pub PartOf : (Entry → Type 0) → ℕ → Part → Type 0
PartOf I l P = (s : State ℕ) (part : Log) → P s part → AllOf I (own_entries l part)

pub part-map : (I J : Entry → Type 0) → ((e : Entry) → I e → J e) → (l : ℕ) (P : Part) → PartOf I l P → PartOf J l P
part-map I J f l P q s part h = of-map I J f (own_entries l part) (q s part h)

pub part-stand : (I : Entry → Type 0) (l : ℕ) (own : List Entry) → AllOf I own → PartOf I l (Stand l own)
part-stand I l own q s part h = subst (AllOf I) (sym h.own_is) q

pub part-say : (I : Entry → Type 0) (l : ℕ) (phrase : List Entry → Type 0) → ((own : List Entry) → phrase own → AllOf I own) → PartOf I l (Say l phrase)
part-say I l phrase q s part h = part-stand I l h.0 (q h.0 h.1) s part h.2

pub part-nothing : (I : Entry → Type 0) (l : ℕ) → PartOf I l Nothing
part-nothing I l s part h = let F : Log → Type 0 = λ z. AllOf I (own_entries l z) in subst F (sym h) tt

pub part-then : (I : Entry → Type 0) (l : ℕ) (P Q : Part) → PartOf I l P → PartOf I l Q → PartOf I l (Then P Q)
part-then I l P Q f g s part h =
    let F : Log → Type 0 = λ z. AllOf I (own_entries l z) in
    subst F (sym h.part_is) (subst (AllOf I) (sym (own-append l h.one h.two)) (of-append I (own_entries l h.one) (own_entries l h.two) (f s h.one h.is_first) (g (after s h.one) h.two h.is_second)))

pub part-if : (I : Entry → Type 0) (l : ℕ) (b : Bool) (P Q : Part) → PartOf I l P → PartOf I l Q → PartOf I l (If b P Q)
part-if I l true P Q f g = f
part-if I l false P Q f g = g

pub part-when : (I : Entry → Type 0) (l : ℕ) (test : State ℕ → Bool) (P : Part) → PartOf I l P → PartOf I l (When test P)
part-when I l test P f s part h = part-if I l (test s) P Nothing f (part-nothing I l) s part h

-- Steps are what the total of steps counts.
use Rattle.std.proofs.Common.{◌≡◌, ◌↔◌, ◌∙◌, ℕ, ◌+◌, List, [], ◌∷◌, Option, Some, None, refl, sym, ap, arith}
use Rattle.bm_journal.specs.declared.ids.Domain.TheVariants.{Plain, Tracing}
use Rattle.bm_journal.specs.declared.ids.Domain.{Domain}
use Rattle.bm_journal.specs.declared.ids.ObjId.{ObjId}
use Rattle.bm_journal.specs.declared.entry.Entry.{Entry}
use Rattle.bm_journal.specs.declared.entry.Entry.TheVariants as entry
use Rattle.bm_journal.specs.declared.total.Total.TheVariants as total
use Rattle.bm_journal.specs.Totals.{counts_of, finished, looked_up, popped, share_of, total_in}
use Rattle.bm_law.specs.Lists.{Log}
use Rattle.bm_due.specs.Standing.{Begins, Ends, Kind, Returns, Standing, Stays, Steps, after_kind, kind_of, standing_after, step_or_not}
use Rattle.bm_due.proofs.Standings.{begun-tells, returned-tells, split-first, stayed-tells, stepped-tells, stopped-tells}

-- how many steps an entry of a kind is
abbrev pub steps_of : Kind → ℕ
steps_of Steps = 1
steps_of _ = 0

popped-none : (x : Option ObjId) → share_of total.Steps (popped x) ≡ 0
popped-none (Some o) = refl
popped-none None = refl

looked-none : (x : Option ObjId) → share_of total.Steps (looked_up x) ≡ 0
looked-none (Some o) = refl
looked-none None = refl

finished-none : (d : Domain) → share_of total.Steps (finished d) ≡ 0
finished-none Plain = refl
finished-none Tracing = refl

pub pop-front-stays : (name : List ℕ) (x : Option ObjId) (at : ℕ) → kind_of (entry.PopFront name x at) ≡ Stays
pop-front-stays name x at = ap step_or_not (popped-none x)

pub pop-back-stays : (name : List ℕ) (x : Option ObjId) (at : ℕ) → kind_of (entry.PopBack name x at) ≡ Stays
pop-back-stays name x at = ap step_or_not (popped-none x)

pub first-stays : (name : List ℕ) (x : Option ObjId) (at : ℕ) → kind_of (entry.First name x at) ≡ Stays
first-stays name x at = ap step_or_not (looked-none x)

pub counted : (e : Entry) → share_of total.Steps (counts_of e) ≡ steps_of (kind_of e)
counted (entry.PopFront name x at) = popped-none x ∙ sym (ap steps_of (pop-front-stays name x at))
counted (entry.PopBack name x at) = popped-none x ∙ sym (ap steps_of (pop-back-stays name x at))
counted (entry.First name x at) = looked-none x ∙ sym (ap steps_of (first-stays name x at))
counted (entry.Finish p) = finished-none p.domain ∙ sym (ap steps_of (ap step_or_not (finished-none p.domain)))
counted e = refl

pub finish-stays : (p : _) → kind_of (entry.Finish p) ≡ Stays
finish-stays p = ap step_or_not (finished-none p.domain)

-- one entry takes as many steps as its kind has
taken : (names : List (List ℕ)) (l : ℕ) (k : Kind) (s t : Standing) → after_kind names l k s ≡ Some t → t.steps ≡ s.steps + steps_of k
taken names l (Begins name) s t e = let w = begun-tells names l name _ s t e in ap (λ (z : Standing). z.steps) w.4 ∙ omega arith
taken names l (Returns name) s t e = let w = returned-tells names l name _ s t e in ap (λ (z : Standing). z.steps) w.6 ∙ omega arith
taken names l Ends s t e = let w = stopped-tells l _ s t e in ap (λ (z : Standing). z.steps) w.3 ∙ omega arith
taken names l Steps s t e = let w = stepped-tells l s t e in ap (λ (z : Standing). z.steps) w.2
taken names l Stays s t e = let w = stayed-tells l s t e in ap (λ (z : Standing). z.steps) w.2 ∙ omega arith

pub steps-counted : (names : List (List ℕ)) (log : Log) (s t : Standing) → standing_after names log (Some s) ≡ Some t → t.steps ≡ s.steps + total_in total.Steps log
steps-counted names [] s t h = let q : t ≡ s = cc in ap (λ (z : Standing). z.steps) q ∙ omega arith
steps-counted names (e ∷ es) s t h =
    let w : (m : Standing) × (after_kind names e.0 (kind_of e.1) s ≡ Some m) = split-first names es _ t h in
    let r : t.steps ≡ w.0.steps + total_in total.Steps es = steps-counted names es w.0 t (sym (ap (standing_after names es) w.1) ∙ h) in
    let q : w.0.steps ≡ s.steps + steps_of (kind_of e.1) = taken names e.0 (kind_of e.1) s w.0 w.1 in
    let c : share_of total.Steps (counts_of e.1) ≡ steps_of (kind_of e.1) = counted e.1 in
    omega arith

steps-at : (k : Kind) → steps_of k ≡ 1 → k ≡ Steps
steps-at (Begins name) e = absurd (omega arith)
steps-at (Returns name) e = absurd (omega arith)
steps-at Ends e = absurd (omega arith)
steps-at Steps e = refl
steps-at Stays e = absurd (omega arith)

pub is-counted : (e : Entry) → (kind_of e ≡ Steps) ↔ (share_of total.Steps (counts_of e) ≡ 1)
is-counted e = ((λ k. counted e ∙ ap steps_of k), (λ h. steps-at (kind_of e) (sym (counted e) ∙ h)))

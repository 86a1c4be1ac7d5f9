-- Worked ends of periods.
use Rattle.std.proofs.Common.{◌≡◌, ℕ, None, Some, List, [], ◌∷◌, ◌++◌, refl, sym, ap, ◌∙◌}
use Rattle.bm_journal.specs.declared.ids.Domain.TheVariants.{Plain, Tracing}
use Rattle.bm_journal.specs.declared.period.Period.{Period}
use Rattle.bm_journal.specs.declared.entry.Entry.{Entry}
use Rattle.bm_journal.specs.declared.entry.Entry.TheVariants as entry
use Rattle.bm_law.specs.State.{opening}
use Rattle.bm_law.specs.Spans.{own_entries}
use Rattle.bm_law.proofs.Alone.{level-own}
use Rattle.bm_law.specs.Ordinary.{ordinary}
use Rattle.bm_law_scenario.specs.Closing.{EndsOne, EndsPeriods, IsEnd}
use Rattle.bm_law_scenario.specs.WrongDeferred.{begun, ends}
use Rattle.bm_law_scenario.proofs.Ordinary.{said, says, parted, then-of}

pub plain-ends : EndsPeriods (begun Plain 1) (opening 0) (ends Plain 2)
plain-ends = then-of _ _ (opening 0) (entry.Finish (record { domain = Plain; number = 2; first = 0 ∷ []; later = 0 ∷ [] }) ∷ []) [] (says _ _ _ (record { domain = Plain; number = 2; first = 0 ∷ []; later = 0 ∷ [] }, refl, refl, refl)) refl

-- where the plain period that began with 1 is in progress, and no tracing one, its end stands there alone
ended : (es : List Entry) → EndsPeriods (begun Plain 1) (opening 0) (ordinary es) → IsEnd Plain 1 es
ended es h =
    let t = parted (EndsOne Plain (Some 1)) (EndsOne Tracing None) (opening 0) es h in
    let e = said (IsEnd Plain 1) (opening 0) t.left t.is_first in
    let none : t.right ≡ [] = sym (level-own 0 t.right) ∙ ap (own_entries 0) t.is_second in
    (e.0, e.1, e.2, t.whole ∙ ap (λ z. z ++ t.right) e.3 ∙ ap (λ z. (entry.Finish e.0 ∷ []) ++ z) none)

no-entry : {e : Entry} → [] ≡ e ∷ [] → ⊥
no-entry e = cc

pub left-wrong : EndsPeriods (begun Plain 1) (opening 0) [] → ⊥
left-wrong h = no-entry (ended [] h).3

same-period : {a b : Period} → entry.Finish a ∷ [] ≡ entry.Finish b ∷ [] → a ≡ b
same-period e = cc

four-two : ◌≡◌ {A = ℕ} 4 2 → ⊥
four-two e = cc

pub number-wrong : EndsPeriods (begun Plain 1) (opening 0) (ends Plain 4) → ⊥
number-wrong h =
    let e = ended (entry.Finish (record { domain = Plain; number = 4; first = 0 ∷ []; later = 0 ∷ [] }) ∷ []) h in
    four-two (ap (λ (p : Period). p.number) (same-period e.3) ∙ e.2)

apart : Tracing ≡ Plain → ⊥
apart e = cc

pub domain-wrong : EndsPeriods (begun Plain 1) (opening 0) (ends Tracing 2) → ⊥
domain-wrong h =
    let e = ended (entry.Finish (record { domain = Tracing; number = 2; first = 0 ∷ []; later = 0 ∷ [] }) ∷ []) h in
    apart (ap (λ (p : Period). p.domain) (same-period e.3) ∙ e.1)

one-none : {e : Entry} → e ∷ [] ≡ [] → ⊥
one-none e = cc

pub twice-wrong : EndsPeriods (ends Plain 2) (opening 0) (ends Plain 2) → ⊥
twice-wrong h =
    let es : List Entry = entry.Finish (record { domain = Plain; number = 2; first = 0 ∷ []; later = 0 ∷ [] }) ∷ [] in
    let t = parted (EndsOne Plain None) (EndsOne Tracing None) (opening 0) es h in
    let one : t.left ≡ [] = sym (level-own 0 t.left) ∙ ap (own_entries 0) t.is_first in
    let two : t.right ≡ [] = sym (level-own 0 t.right) ∙ ap (own_entries 0) t.is_second in
    one-none (t.whole ∙ ap (λ z. z ++ t.right) one ∙ two)

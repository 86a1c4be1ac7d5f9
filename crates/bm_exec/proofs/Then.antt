-- Runs one after the other.
use Rattle.std.proofs.Common.{◌≡◌, ℕ, [], ◌++◌, refl, sym, ap, ◌∙◌, subst, append_assoc, append-nil}
use Rattle.bm_law.specs.State.{State}
use Rattle.bm_law.specs.Lists.{Log, after}
use Rattle.bm_law.proofs.Folds.{after-append}
use Rattle.bm_law_scenario.specs.Held.{Names}
use Rattle.bm_law_scenario.specs.Runs.{Run, Done, Followed}

-- what nothing is left of runs
pub done-first : (a : Run) (names last : Names) (s : State ℕ) (part : Log) → a names last s part → Followed Done a names last s part
done-first a names last s part x = (names, record { one = []; two = part; part_is = refl; is_first = (refl, refl); is_second = x })

pub done-last : (a : Run) (names last : Names) (s : State ℕ) (part : Log) → a names last s part → Followed a Done names last s part
done-last a names last s part x = (last, record { one = part; two = []; part_is = sym (append-nil part); is_first = x; is_second = (refl, refl) })

pub undone-first : (a : Run) (names last : Names) (s : State ℕ) (part : Log) → Followed Done a names last s part → a names last s part
undone-first a names last s part x =
    let t = x.1 in
    let whole : part ≡ t.two = t.part_is ∙ ap (λ z. z ++ t.two) t.is_first.1 in
    let state : after s t.one ≡ s = ap (after s) t.is_first.1 in
    subst (λ z. a names last s z) (sym whole) (subst (λ n. a n last s t.two) t.is_first.0 (subst (λ q. a x.0 last q t.two) state t.is_second))

pub undone-last : (a : Run) (names last : Names) (s : State ℕ) (part : Log) → Followed a Done names last s part → a names last s part
undone-last a names last s part x =
    let t = x.1 in
    let whole : part ≡ t.one = t.part_is ∙ (ap (λ z. t.one ++ z) t.is_second.1 ∙ append-nil t.one) in
    subst (λ z. a names last s z) (sym whole) (subst (λ n. a names n s t.one) (sym t.is_second.0) t.is_first)

-- the second of three, put to the first
pub front : (a b c : Run) (names last : Names) (s : State ℕ) (part : Log) → Followed a (Followed b c) names last s part → Followed (Followed a b) c names last s part
front a b c names last s part x =
    let t = x.1 in
    let v = t.is_second.1 in
    let C : State ℕ → Type 0 = λ q. c t.is_second.0 last q v.two in (
      t.is_second.0,
      record {
        one = t.one ++ v.one;
        two = v.two;
        part_is = t.part_is ∙ ap (λ z. t.one ++ z) v.part_is ∙ sym (append_assoc t.one v.one v.two);
        is_first = (x.0, record { one = t.one; two = v.one; part_is = refl; is_first = t.is_first; is_second = v.is_first });
        is_second = subst C (sym (after-append s t.one v.one)) v.is_second;
      },
    )

-- a part does the same as another
pub map-first : (a b c : Run) (names last : Names) (s : State ℕ) (part : Log) → ((m : Names) (p : Log) → a names m s p → b names m s p) → Followed a c names last s part → Followed b c names last s part
map-first a b c names last s part f x =
    let t = x.1 in
    (x.0, record { one = t.one; two = t.two; part_is = t.part_is; is_first = f x.0 t.one t.is_first; is_second = t.is_second })

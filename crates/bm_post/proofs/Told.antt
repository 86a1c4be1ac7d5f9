-- What calls make of the parcels that are told.
use Rattle.std.proofs.Common.{◌≡◌, ◌≢◌, ℕ, ◌%◌, ◌<◌, ◌≤◌, false, List, [], ◌∷◌, ◌++◌, length, get_or, set, drop, map, refl, sym, ◌∙◌, ap, subst, inl, inr, arith, eq-eqb, ne_eqb, Some, Result, Ok, Err, OnOk}
use Rattle.std.specs.Prelude.{if◌then◌else◌}
use Rattle.std.proofs.lemmas.Bool.{cases_eq, cases_lt, lt-ltb, le-ltb}
use Rattle.std.proofs.lemmas.List.{get_or-set_same, get_or-set_other, map-append}
use mathlib.Core.Path.{fun_ext}
use Rattle.bm_page.specs.UnitState.{UnitState}
use Rattle.bm_post.specs.Calls.{Mails}
use Rattle.bm_post.specs.Parcels.{on_inbox, parcel_sent, parcel_taken}
use Rattle.bm_post.specs.PostState.{Parcels, PostState, inbox, known_by, place, sent_to, taken_by, told_in, with_inbox}
use Rattle.bm_post.specs.Rights.{numbers}
use Rattle.bm_post.specs.Kept.{IsPost}
use Rattle.bm_page.specs.Stock.{Stock}
use Rattle.bm_post.proofs.Posts.{state}

-- what is told of a class that there is, and of one that there isn't
told-inside : (s : PostState) (c : ℕ) → c < 11 → told_in s c ≡ map numbers (inbox s.processor c s)
told-inside s c less = ap (λ b. if b then map numbers (inbox s.processor c s) else []) (lt-ltb c 11 less)

told-outside : (s : PostState) (c : ℕ) → 11 ≤ c → told_in s c ≡ []
told-outside s c more = ap (λ b. if b then map numbers (inbox s.processor c s) else []) (le-ltb c 11 more)

-- an inbox that was changed, and another one
changed-same : (s : PostState) (p c : ℕ) (x : Parcels) → place p c < length s.inboxes → inbox p c (with_inbox p c x s) ≡ x
changed-same s p c x there = get_or-set_same s.inboxes (place p c) x [] there

changed-other : (s : PostState) (p c q k : ℕ) (x : Parcels) → place q k ≢ place p c → inbox q k (with_inbox p c x s) ≡ inbox q k s
changed-other s p c q k x ne = get_or-set_other s.inboxes (place p c) (place q k) x [] ne

-- the inbox of one class is this side's and is changed
told-changed : (s : PostState) (class : ℕ) (x : Parcels) (f : List (List ℕ) → List (List ℕ)) → class < 11 → s.processor < 8 → length s.inboxes ≡ 88 → map numbers x ≡ f (map numbers (inbox s.processor class s)) → told_in (with_inbox s.processor class x s) ≡ on_inbox class f (told_in s)
told-changed s class x f few turn count e = fun_ext (λ c. at c)
  where
    at : (c : ℕ) → told_in (with_inbox s.processor class x s) c ≡ on_inbox class f (told_in s) c
    at c =
        elim (cases_eq c class) [
          | inl same ↦
              let here : told_in (with_inbox s.processor class x s) class ≡ f (told_in s class) =
              told-inside (with_inbox s.processor class x s) class few
              ∙ (ap (λ (ps : Parcels). map numbers ps) (changed-same s s.processor class x (omega (arith, few, turn, count)))
              ∙ (e ∙ ap f (sym (told-inside s class few)))) in
              let on : on_inbox class f (told_in s) c ≡ f (told_in s c) = ap (λ b. if b then f (told_in s c) else told_in s c) (eq-eqb c class same) in
              subst (λ k. told_in (with_inbox s.processor class x s) k ≡ f (told_in s k)) (sym same) here ∙ sym on
          | inr other ↦
              let off : on_inbox class f (told_in s) c ≡ told_in s c = ap (λ b. if b then f (told_in s c) else told_in s c) (ne_eqb c class other) in
              elim (cases_lt c 11) [
                | inl less ↦
                    told-inside (with_inbox s.processor class x s) c less
                    ∙ (ap (λ (ps : Parcels). map numbers ps) (changed-other s s.processor class s.processor c x (λ q. other (omega (arith, q))))
                    ∙ (sym (told-inside s c less) ∙ sym off))
                | inr more ↦ told-outside (with_inbox s.processor class x s) c more ∙ (sym (told-outside s c more) ∙ sym off)
              ]
        ]

-- .. or it is another side's, and this one tells what it told
told-elsewhere : (s : PostState) (to class : ℕ) (x : Parcels) → class < 11 → to ≢ s.processor → told_in (with_inbox to class x s) ≡ told_in s
told-elsewhere s to class x few ne = fun_ext (λ c. at c)
  where
    at : (c : ℕ) → told_in (with_inbox to class x s) c ≡ told_in s c
    at c =
        elim (cases_lt c 11) [
          | inl less ↦
              told-inside (with_inbox to class x s) c less
              ∙ (ap (λ (ps : Parcels). map numbers ps) (changed-other s to class s.processor c x (λ q. ne (omega (arith, q, less, few))))
              ∙ sym (told-inside s c less))
          | inr more ↦ told-outside (with_inbox to class x s) c more ∙ sym (told-outside s c more)
        ]

sent-told : (s : PostState) (to class : ℕ) (us : List UnitState) → class < 11 → s.processor < 8 → length s.inboxes ≡ 88 → told_in (sent_to to class us s) ≡ parcel_sent to s.processor class (numbers us) (told_in s)
sent-told s to class us few turn count =
    let more : List (List ℕ) → List (List ℕ) = λ ps. ps ++ numbers us ∷ [] in
    elim (cases_eq to s.processor) [
      | inl same ↦
          let sent : parcel_sent to s.processor class (numbers us) (told_in s) ≡ on_inbox class more (told_in s) = ap (λ b. if b then on_inbox class more (told_in s) else told_in s) (eq-eqb to s.processor same) in
          let mine : told_in (sent_to s.processor class us s) ≡ on_inbox class more (told_in s) =
          told-changed s class (inbox s.processor class s ++ us ∷ []) more few turn count (map-append numbers (inbox s.processor class s) (us ∷ [])) in
          ap (λ t. told_in (sent_to t class us s)) same ∙ (mine ∙ sym sent)
      | inr other ↦
          let kept : parcel_sent to s.processor class (numbers us) (told_in s) ≡ told_in s = ap (λ b. if b then on_inbox class more (told_in s) else told_in s) (ne_eqb to s.processor other) in
          told-elsewhere s to class (inbox to class s ++ us ∷ []) few other ∙ sym kept
    ]

map-drop_one : (ps : Parcels) → map numbers (drop 1 ps) ≡ drop 1 (map numbers ps)
map-drop_one [] = refl
map-drop_one (p ∷ ps) = refl

taken-told : (s : PostState) (class : ℕ) → class < 11 → s.processor < 8 → length s.inboxes ≡ 88 → told_in (taken_by s.processor class s) ≡ parcel_taken class (told_in s)
taken-told s class few turn count = told-changed s class (drop 1 (inbox s.processor class s)) (drop 1) few turn count (map-drop_one (inbox s.processor class s))

-- ---- the calls

-- a call changed the inbox at a place
pub send-told : {A E : Type 0} (r : Result A E) (p q i to class : ℕ) (pool : Stock) (xs : List Parcels) (y : Parcels) (us : List UnitState) → i ≡ place to class → i % 11 ≡ class → OnOk r (y ≡ get_or xs i [] ++ us ∷ []) → IsPost p q pool xs → OnOk r (Mails false (parcel_sent to q class (numbers us)) (known_by (state pool p q xs)) (known_by (state pool p q (set xs i y))))
send-told (Ok x) p q i to class pool xs y us at few e is =
    let now : state pool p q (set xs i y) ≡ sent_to to class us (state pool p q xs) =
    ap (λ (z : Parcels). state pool p q (set xs i z)) e ∙ ap (λ j. state pool p q (set xs j (get_or xs j [] ++ us ∷ []))) at in
    record {
      steps = [];
      known = ap known_by now ∙ ap (λ t. record (known_by (state pool p q xs)) { parcels = Some t }) (sent-told (state pool p q xs) to class us (omega (arith, few)) (let l = is.processor_limit in let t = is.turn in omega (arith, l, t)) is.inbox_count);
    }
send-told (Err x) p q i to class pool xs y us at few e is = tt

pub receive-told : (p q i class : ℕ) (pool : Stock) (xs : List Parcels) (y : Parcels) → i ≡ place q class → i % 11 ≡ class → y ≡ drop 1 (get_or xs i []) → IsPost p q pool xs → Mails false (parcel_taken class) (known_by (state pool p q xs)) (known_by (state pool p q (set xs i y)))
receive-told p q i class pool xs y at few rest is =
    let now : state pool p q (set xs i y) ≡ taken_by q class (state pool p q xs) =
    ap (λ (z : Parcels). state pool p q (set xs i z)) rest ∙ ap (λ j. state pool p q (set xs j (drop 1 (get_or xs j [])))) at in
    record {
      steps = [];
      known = ap known_by now ∙ ap (λ t. record (known_by (state pool p q xs)) { parcels = Some t }) (taken-told (state pool p q xs) class (omega (arith, few)) (let l = is.processor_limit in let t = is.turn in omega (arith, l, t)) is.inbox_count);
    }

-- What acts tell, entries tell: an order of entries is laid where the acts that they stand for lead on.
use Rattle.std.proofs.Common.{◌≡◌, ◌≢◌, ◌⊎◌, ℕ, ◌<◌, Bool, true, false, List, [], ◌∷◌, ◌++◌, map, drop, Option, Some, None, refl, sym, ◌∙◌, ap, subst, arith, inl, inr, eqb, eq-eqb}
use Rattle.std.specs.Prelude.{if◌then◌else◌, ◌&&◌, ◌-◌, length}
use Rattle.std.specs.List.{All, concat}
use Rattle.std.proofs.lemmas.List.Elements.{All-head, All-tail, All-cons, All-nil}
use Rattle.std.proofs.lemmas.Bool.Decides.{eqb_tells}
use mathlib.Core.Path.{fun_ext}
use Rattle.bm_journal.specs.declared.ids.Domain.{Domain}
use Rattle.bm_journal.specs.declared.ids.Domain.TheVariants.{Plain, Tracing}
use Rattle.bm_journal.specs.declared.period.Period.{Period}
use Rattle.bm_journal.specs.declared.entry.Entry.{Entry}
use Rattle.bm_journal.specs.declared.entry.Entry.TheVariants as entry
use Rattle.bm_journal.specs.declared.past.PastCall.{PastCall}
use Rattle.bm_journal.specs.declared.past.PastCall.TheVariants as past
use Rattle.bm_law.specs.Inboxes.{oldest}
use Rattle.bm_law.specs.Phrases.{given}
use Rattle.bm_law_order.specs.ByDomain.{ByDomain, of, with_of}
use Rattle.bm_law_order.specs.Numbers.{Course, IsBegin, Numbers, begun, ended}
use Rattle.bm_law_order.specs.Looks.{Looked, Looks, first_or, nothing_looked}
use Rattle.bm_law_order.specs.Lives.{Dropping, Has, IsGiven, Life, Lives, answered_last, answered_still, counted, maker_of, with_drop, with_life}
use Rattle.bm_law_order.specs.Parcels.{Boxes, EndsWith, on_box}
use Rattle.bm_law_order.specs.Shared.{Shared, Fits, found, shared_after}
use Rattle.bm_law_order.specs.Orders.{Leads, by}
use Rattle.bm_page.specs.declared.units.Seal.{Seal}
use Rattle.bm_graph.specs.Entries.{call_entry}
use Rattle.bm_law_order.specs.Act.{Act, units_of}
use Rattle.bm_law_order.specs.Act as act
use Rattle.bm_law_order.specs.Acts.{ActsFit, CanEnd, IsOnly, LooksAt, act_after, acts_over, looked}
use Rattle.bm_law_order.specs.Chunk.{Chunk, acts_of, entries_of, seal_told}
use Rattle.bm_law_order.specs.Chunk as chunk
use Rattle.bm_law_order.specs.Story.{Steady, Story, at_level, deeds, lines, lines_of, plain_looks, plainly, unlooked}
use Rattle.bm_law_order.proofs.ActsJoin.{acts-append, acts-before, acts-later}
use Rattle.bm_law_order.proofs.Along.{leads-by-join, leads-same}
use Rattle.bm_law_order.proofs.Quiets.{leads-quiet}

-- ---- one domain

of-with : {A : Type 0} (d : Domain) (a : A) (x : ByDomain A) → of d (with_of d a x) ≡ a
of-with Plain a x = refl
of-with Tracing a x = refl

with-with : {A : Type 0} (d : Domain) (a b : A) (x : ByDomain A) → with_of d a (with_of d b x) ≡ with_of d a x
with-with Plain a b x = refl
with-with Tracing a b x = refl

with-same : {A : Type 0} (d : Domain) (x : ByDomain A) → with_of d (of d x) x ≡ x
with-same Plain x = refl
with-same Tracing x = refl

plain-with : (d : Domain) (here : Looked) (looks : Looks) → plain_looks (with_of d here looks) ≡ with_of d (unlooked here) (plain_looks looks)
plain-with Plain here looks = refl
plain-with Tracing here looks = refl

plain-of : (d : Domain) (looks : Looks) → of d (plain_looks looks) ≡ unlooked (of d looks)
plain-of Plain looks = refl
plain-of Tracing looks = refl

-- ---- steady

abbrev Looked-at : Numbers → Looks → Type 0
Looked-at numbers looks = (d : Domain) → ((of d numbers).driver ≡ None) ⊎ ((of d looks).first ≢ [])

at-of : (d : Domain) (c : Course) (here : Looked) (numbers : Numbers) (looks : Looks) → Looked-at numbers looks → (c.driver ≡ None) ⊎ (here.first ≢ []) → Looked-at (with_of d c numbers) (with_of d here looks)
at-of Plain c here numbers looks h k = elim [ Plain ↦ k | Tracing ↦ h Tracing ]
at-of Tracing c here numbers looks h k = elim [ Plain ↦ h Plain | Tracing ↦ k ]

first-stays : (ws first : List ℕ) → first ≢ [] → first_or ws first ≡ first
first-stays ws [] ne = absurd (ne refl)
first-stays ws (x ∷ xs) ne = refl

-- a period in progress was looked at
in-progress : (o : Option ℕ) (first : List ℕ) (p : ℕ) → (o ≡ None) ⊎ (first ≢ []) → o ≡ Some p → first ≢ []
in-progress o first p (inl none) some = absurd (cc)
in-progress o first p (inr ne) some = ne

-- ---- one chunk

-- what a chunk does and says
pub record Comes (p l : ℕ) (x : Chunk) (s : Shared) : Type 0 where
  pub leads : Leads (by p (at_level l (entries_of x))) (plainly s) (plainly (acts_over p (acts_of x) s))
  pub steady : Steady (acts_over p (acts_of x) s)

-- a look alone
looks-same : (p : ℕ) (d : Domain) (ws : List ℕ) (s : Shared) → Steady s → LooksAt p d ws s → plain_looks (with_of d (looked ws (of d s.looks)) s.looks) ≡ plain_looks s.looks
looks-same p d ws s h f =
    let here = of d s.looks in
    let kept : first_or ws here.first ≡ here.first = first-stays ws here.first (in-progress (of d s.numbers).driver here.first p (h.looked d) f.driver) in
    plain-with d (looked ws here) s.looks
    ∙ (ap (λ first. with_of d (record { first = first; later = [] }) (plain_looks s.looks)) kept
    ∙ (ap (λ e. with_of d e (plain_looks s.looks)) (sym (plain-of d s.looks)) ∙ with-same d (plain_looks s.looks)))

looks-steady : (p : ℕ) (d : Domain) (ws : List ℕ) (s : Shared) → Steady s → LooksAt p d ws s → Steady (act_after p (act.Looks d ws) s)
looks-steady p d ws s h f =
    let here = of d s.looks in
    let ne = in-progress (of d s.numbers).driver here.first p (h.looked d) f.driver in
    let at : Looked-at (with_of d (of d s.numbers) s.numbers) (with_of d (looked ws here) s.looks) = at-of d (of d s.numbers) (looked ws here) s.numbers s.looks h.looked (inr (λ q. ne (sym (first-stays ws here.first ne) ∙ q))) in
    record { looked = subst (λ (n : Numbers). Looked-at n (with_of d (looked ws here) s.looks)) (with-same d s.numbers) at; undropped = h.undropped; full = h.full }

-- ---- periods

-- a period ends whose words were looked at just now
ends-leads : (p l : ℕ) (period : Period) (s : Shared) → CanEnd p period s → (of period.domain s.looks).later ≡ found s period.domain → Leads (by p ((l, entry.Finish period) ∷ [])) (plainly s) (plainly (act_after p (act.Finishes period) s))
ends-leads p l period s f later =
    let d = period.domain in
    let first : period.first ≡ (of d (plain_looks s.looks)).first = f.first ∙ ap (λ (x : Looked). x.first) (sym (plain-of d s.looks)) in
    record {
      fit = (record { words = tt; numbers = f.number; looks = record { first = first; later = f.later ∙ later; passed = f.passed }; lives = tt; pages = tt; boxes = tt }, tt);
      now_is = ap (λ (z : Looks). let t : Shared = record s { numbers = with_of d (ended (of d s.numbers)) s.numbers; looks = z } in t) (sym (plain-with d nothing_looked s.looks));
    }

ends-steady : (p : ℕ) (period : Period) (s : Shared) → Steady s → Steady (act_after p (act.Finishes period) s)
ends-steady p period s h =
    let d = period.domain in
    record { looked = at-of d (ended (of d s.numbers)) nothing_looked s.numbers s.looks h.looked (inl refl); undropped = h.undropped; full = h.full }

-- a period begins and is looked at
begins-leads : (p l : ℕ) (d : Domain) (n : ℕ) (ws : List ℕ) (s : Shared) → IsBegin n (of d s.numbers) → LooksAt p d ws (act_after p (act.Begins d n) s) → Leads (by p ((l, entry.Begin d n) ∷ [])) (plainly s) (plainly (acts_over p (act.Begins d n ∷ act.Looks d ws ∷ []) s))
begins-leads p l d n ws s f g =
    let begun_looks = with_of d nothing_looked s.looks in
    let here : Looked = record { first = ws; later = ws } in
    let fresh : looked ws (of d begun_looks) ≡ here = ap (looked ws) (of-with d nothing_looked s.looks) in
    let looks : with_of d (looked ws (of d begun_looks)) begun_looks ≡ with_of d here s.looks = ap (λ z. with_of d z begun_looks) fresh ∙ with-with d here nothing_looked s.looks in
    let told : plain_looks (with_of d (looked ws (of d begun_looks)) begun_looks) ≡ with_of d (record { first = found s d; later = [] }) (plain_looks s.looks) =
    ap plain_looks looks ∙ (plain-with d here s.looks ∙ ap (λ first. with_of d (record { first = first; later = [] }) (plain_looks s.looks)) g.words_are) in
    record {
      fit = (record { words = tt; numbers = f; looks = tt; lives = tt; pages = tt; boxes = tt }, tt);
      now_is = ap (λ (z : Looks). let t : Shared = record s { numbers = with_of d (begun p (of d s.numbers)) s.numbers; looks = z } in t) (sym told);
    }

begins-steady : (p : ℕ) (d : Domain) (n : ℕ) (ws : List ℕ) (s : Shared) → Steady s → LooksAt p d ws (act_after p (act.Begins d n) s) → Steady (acts_over p (act.Begins d n ∷ act.Looks d ws ∷ []) s)
begins-steady p d n ws s h g =
    let begun_looks = with_of d nothing_looked s.looks in
    let here : Looked = record { first = ws; later = ws } in
    let looks : with_of d (looked ws (of d begun_looks)) begun_looks ≡ with_of d here s.looks = ap (λ z. with_of d (looked ws z) begun_looks) (of-with d nothing_looked s.looks) ∙ with-with d here nothing_looked s.looks in
    let c = begun p (of d s.numbers) in
    record {
      looked = subst (λ (z : Looks). Looked-at (with_of d c s.numbers) z) (sym looks) (at-of d c here s.numbers s.looks h.looked (inr g.some));
      undropped = h.undropped;
      full = h.full;
    }

-- what was looked at just now is what is found
looked-now : (p : ℕ) (d : Domain) (ws : List ℕ) (s : Shared) → LooksAt p d ws s → (of d (with_of d (looked ws (of d s.looks)) s.looks)).later ≡ found s d
looked-now p d ws s f = ap (λ (x : Looked). x.later) (of-with d (looked ws (of d s.looks)) s.looks) ∙ f.words_are

-- ---- lives

same-place : (p l : ℕ) (f : ℕ → ℕ → Option Dropping) (x y : Option Dropping) → f p l ≡ None → (λ (q k : ℕ). if eqb q p && eqb k l then None else (if eqb q p && eqb k l then x else (if eqb q p && eqb k l then y else f q k))) ≡ f
same-place p l f x y none = fun_ext (λ q. fun_ext (λ k. at q k))
  where
    at : (q k : ℕ) → (if eqb q p && eqb k l then None else (if eqb q p && eqb k l then x else (if eqb q p && eqb k l then y else f q k))) ≡ f q k
    at q k = elim (eqb_tells q p) [
      | inl a ↦ elim (eqb_tells k l) [
        | inl b ↦ rw (a.0, b.0, a.1, b.1) (sym none)
        | inr b ↦ rw (a.0, b.0) refl
      ]
      | inr a ↦ rw a.0 refl
    ]

drop-here : (p l : ℕ) (d : Option Dropping) (lives : Lives) → (with_drop p l d lives).dropping p l ≡ d
drop-here p l d lives = rw (eq-eqb p p refl, eq-eqb l l refl) refl

-- a drop that ends a life, and the free that follows it
drop-leads : (p l u life home : ℕ) (delayed : Bool) (e : Entry) (s : Shared) → ((z : Shared) → z.lives.dropping p l ≡ Some (record { unit = u; life = life; ended = Some home }) → Fits p l e z) → ((z : Shared) → shared_after p l e z ≡ record z { lives = with_drop p l None z.lives }) → Steady s → IsOnly u life home s → Leads (by p ((l, entry.Drop u life) ∷ (l, entry.Last) ∷ (l, e) ∷ [])) (plainly s) (plainly (act_after p (act.Ends u life home delayed) s))
drop-leads p l u life home delayed e s fits after h f =
    let held : Life = record { maker = home; count = 1 } in
    let none = h.undropped p l in
    let d0 : Dropping = record { unit = u; life = life; ended = None } in
    let d1 : Dropping = record { unit = u; life = life; ended = Some home } in
    let L0 = s.lives in
    let L1 = with_drop p l (Some d0) L0 in
    let L2 = with_drop p l (Some d1) (with_life u None L1) in
    let under : L1.dropping p l ≡ Some d0 = drop-here p l (Some d0) L0 in
    let last : answered_last p l (L1.dropping p l) L1 ≡ L2 =
    ap (λ o. answered_last p l o L1) under ∙ ap (λ o. with_drop p l (Some (record d0 { ended = maker_of o })) (with_life u None L1)) f.holds in
    let z2 : Shared = shared_after p l entry.Last (shared_after p l (entry.Drop u life) (plainly s)) in
    let ending : z2.lives.dropping p l ≡ Some d1 = ap (λ (x : Lives). x.dropping p l) last ∙ drop-here p l (Some d1) (with_life u None L1) in
    let F : Lives → Shared = λ x. record (plainly s) { lives = x } in
    let G : (ℕ → ℕ → Option Dropping) → Lives = λ x. record (with_life u None L0) { dropping = x } in
    record {
      fit = (
        record { words = tt; numbers = tt; looks = tt; lives = record { references = 1; has = record { held = held; holds = f.holds; count = refl; now_is = f.now_is }; none = none }; pages = tt; boxes = tt },
        (
          record { words = tt; numbers = tt; looks = tt; lives = record { unit = u; life = life; under = under; has = record { held = held; holds = f.holds; count = refl; now_is = f.now_is } }; pages = tt; boxes = tt },
          (fits z2 ending, tt),
        ),
      );
      now_is = after z2 ∙ (ap (λ x. F (with_drop p l None x)) last ∙ ap (λ x. F (G x)) (same-place p l L0.dropping (Some d1) (Some d0) none));
    }

same-drop : (p l : ℕ) (f : ℕ → ℕ → Option Dropping) (x : Option Dropping) → f p l ≡ None → (λ (q k : ℕ). if eqb q p && eqb k l then None else (if eqb q p && eqb k l then x else f q k)) ≡ f
same-drop p l f x none = fun_ext (λ q. fun_ext (λ k. at q k))
  where
    at : (q k : ℕ) → (if eqb q p && eqb k l then None else (if eqb q p && eqb k l then x else f q k)) ≡ f q k
    at q k = elim (eqb_tells q p) [
      | inl a ↦ elim (eqb_tells k l) [
        | inl b ↦ rw (a.0, b.0, a.1, b.1) (sym none)
        | inr b ↦ rw (a.0, b.0) refl
      ]
      | inr a ↦ rw a.0 refl
    ]

-- a drop after which references are left
given-up-leads : (p l u life seen : ℕ) (s : Shared) → Steady s → Has u life seen s.lives → 1 < seen → Leads (by p ((l, entry.Drop u life) ∷ (l, entry.Still seen) ∷ [])) (plainly s) (plainly (act_after p (act.GivesUp u life seen) s))
given-up-leads p l u life seen s h has more =
    let none = h.undropped p l in
    let d0 : Dropping = record { unit = u; life = life; ended = None } in
    let L0 = s.lives in
    let L1 = with_drop p l (Some d0) L0 in
    let under : L1.dropping p l ≡ Some d0 = drop-here p l (Some d0) L0 in
    let now = counted (λ k. k - 1) (L0.holds u) in
    let still : answered_still p l (L1.dropping p l) L1 ≡ with_drop p l None (with_life u now L1) = ap (λ o. answered_still p l o L1) under in
    let F : Lives → Shared = λ x. record (plainly s) { lives = x } in
    let G : (ℕ → ℕ → Option Dropping) → Lives = λ x. record (with_life u now L0) { dropping = x } in
    record {
      fit = (
        record { words = tt; numbers = tt; looks = tt; lives = record { references = seen; has = has; none = none }; pages = tt; boxes = tt },
        (record { words = tt; numbers = tt; looks = tt; lives = (record { unit = u; life = life; under = under; has = record { held = has.held; holds = has.holds; count = has.count; now_is = has.now_is } }, more); pages = tt; boxes = tt }, tt),
      );
      now_is = ap F still ∙ ap (λ x. F (G x)) (same-drop p l L0.dropping (Some d0) none);
    }

made-leads : (p l u life type : ℕ) (values : List ℕ) (seal : Option Seal) (s : Shared) → IsGiven u life s.lives → Leads (by p ((l, given u life (seal_told seal)) ∷ [])) (plainly s) (plainly (act_after p (act.Makes u life type values seal) s))
made-leads p l u life type values None s f = record { fit = (record { words = tt; numbers = tt; looks = tt; lives = f; pages = tt; boxes = tt }, tt); now_is = refl }
made-leads p l u life type values (Some x) s f = record { fit = (record { words = tt; numbers = tt; looks = tt; lives = f; pages = tt; boxes = tt }, tt); now_is = refl }

-- ---- parcels

abbrev Full : Boxes → Type 0
Full boxes = (q k : ℕ) → All (λ parcel. parcel ≢ []) (boxes q k)

box-here : (p c : ℕ) (f : List (List ℕ) → List (List ℕ)) (boxes : Boxes) → on_box p c f boxes p c ≡ f (boxes p c)
box-here p c f boxes = rw (eq-eqb p p refl, eq-eqb c c refl) refl

full-box : (p c : ℕ) (f : List (List ℕ) → List (List ℕ)) (boxes : Boxes) → ((box : List (List ℕ)) → All (λ parcel. parcel ≢ []) box → All (λ parcel. parcel ≢ []) (f box)) → Full boxes → Full (on_box p c f boxes)
full-box p c f boxes keeps h q k = either (eqb q p && eqb k c)
  where
    either : (b : Bool) → All (λ parcel. parcel ≢ []) (if b then f (boxes q k) else boxes q k)
    either true = keeps (boxes q k) (h q k)
    either false = h q k

full-drop : (box : List (List ℕ)) → All (λ (parcel : List ℕ). parcel ≢ []) box → All (λ (parcel : List ℕ). parcel ≢ []) (drop 1 box)
full-drop [] h = h
full-drop (x ∷ xs) h = All-tail (λ (parcel : List ℕ). parcel ≢ []) x xs h

full-more : (us : List ℕ) → 0 < length us → (box : List (List ℕ)) → All (λ (parcel : List ℕ). parcel ≢ []) box → All (λ (parcel : List ℕ). parcel ≢ []) (box ++ us ∷ [])
full-more us some [] h = All-cons (λ (parcel : List ℕ). parcel ≢ []) us [] (λ q. let z : length us ≡ 0 = ap length q in omega (arith, z, some)) (All-nil (λ (parcel : List ℕ). parcel ≢ []))
full-more us some (x ∷ xs) h =
    All-cons (λ (parcel : List ℕ). parcel ≢ []) x (xs ++ us ∷ []) (All-head (λ (parcel : List ℕ). parcel ≢ []) x xs h) (full-more us some xs (All-tail (λ (parcel : List ℕ). parcel ≢ []) x xs h))

oldest-none : (box : List (List ℕ)) → All (λ (parcel : List ℕ). parcel ≢ []) box → [] ≡ oldest box → box ≡ []
oldest-none [] h e = refl
oldest-none (x ∷ xs) h e = absurd (All-head (λ (parcel : List ℕ). parcel ≢ []) x xs h (sym e))

takes-oldest : (box : List (List ℕ)) → concat box ≡ oldest box ++ concat (drop 1 box)
takes-oldest [] = refl
takes-oldest (x ∷ xs) = refl

emptied : (p c : ℕ) (boxes : Boxes) → boxes p c ≡ [] → on_box p c (drop 1) boxes ≡ on_box p c (λ parcels. []) boxes
emptied p c boxes e = fun_ext (λ q. fun_ext (λ k. at q k))
  where
    at : (q k : ℕ) → on_box p c (drop 1) boxes q k ≡ on_box p c (λ parcels. []) boxes q k
    at q k = elim (eqb_tells q p) [
      | inl a ↦ elim (eqb_tells k c) [
        | inl b ↦ rw (a.0, b.0, a.1, b.1, e) refl
        | inr b ↦ rw (a.0, b.0) refl
      ]
      | inr a ↦ rw a.0 refl
    ]

-- nothing is taken where nothing waits
unchanged : (p c : ℕ) (boxes : Boxes) → boxes p c ≡ [] → on_box p c (drop 1) boxes ≡ boxes
unchanged p c boxes e = fun_ext (λ q. fun_ext (λ k. at q k))
  where
    at : (q k : ℕ) → on_box p c (drop 1) boxes q k ≡ boxes q k
    at q k = elim (eqb_tells q p) [
      | inl a ↦ elim (eqb_tells k c) [
        | inl b ↦ rw (a.0, b.0, a.1, b.1, e) refl
        | inr b ↦ rw (a.0, b.0) refl
      ]
      | inr a ↦ rw a.0 refl
    ]

emptied-both : (p c : ℕ) (f : List (List ℕ) → List (List ℕ)) (boxes : Boxes) → on_box p c (λ parcels. []) (on_box p c f boxes) ≡ on_box p c (λ parcels. []) boxes
emptied-both p c f boxes = fun_ext (λ q. fun_ext (λ k. at (eqb q p && eqb k c) (f (boxes q k)) (boxes q k)))
  where
    at : (b : Bool) (x y : List (List ℕ)) → (if b then [] else (if b then x else y)) ≡ (if b then [] else y)
    at true x y = refl
    at false x y = refl

-- parcels received one by one, until there is none, are all that waited
record Received (p c : ℕ) (parcels : List (List ℕ)) (s : Shared) : Type 0 where
  pub waited : concat (s.boxes p c) ≡ concat parcels
  pub left : acts_over p (map (act.Receives c) parcels ++ act.Receives c [] ∷ []) s ≡ record s { boxes = on_box p c (λ parcels. []) s.boxes }

received : (p c : ℕ) (parcels : List (List ℕ)) (s : Shared) → Full s.boxes → ActsFit p (map (act.Receives c) parcels ++ act.Receives c [] ∷ []) s → Received p c parcels s
received p c [] s h f =
    let none = oldest-none (s.boxes p c) (h p c) f.0 in
    record {
      waited = ap concat none;
      left = ap (λ (b : Boxes). let t : Shared = record s { boxes = b } in t) (emptied p c s.boxes none);
    }
received p c (x ∷ xs) s h f =
    let s1 : Shared = act_after p (act.Receives c x) s in
    let rest = received p c xs s1 (full-box p c (drop 1) s.boxes full-drop h) f.1 in
    record {
      waited =
          takes-oldest (s.boxes p c)
          ∙ (ap (λ us. us ++ concat (drop 1 (s.boxes p c))) (sym f.0)
          ∙ ap (λ us. x ++ us) (ap concat (sym (box-here p c (drop 1) s.boxes)) ∙ rest.waited));
      left = rest.left ∙ ap (λ (b : Boxes). let t : Shared = record s { boxes = b } in t) (emptied-both p c (drop 1) s.boxes);
    }

-- ---- all of them

steady-like : (a b : Shared) → b.numbers ≡ a.numbers → b.looks ≡ a.looks → b.lives.dropping ≡ a.lives.dropping → Full b.boxes → Steady a → Steady b
steady-like a b e f g k h = record {
  looked = subst (λ (n : Numbers). Looked-at n b.looks) (sym e) (subst (λ (z : Looks). Looked-at a.numbers z) (sym f) h.looked);
  undropped = λ p l. ap (λ (z : ℕ → ℕ → Option Dropping). z p l) g ∙ h.undropped p l;
  full = k;
}

-- a period that begins and ends at once
whole-comes : (p l n : ℕ) (ws : List ℕ) (period : Period) (s : Shared) → ActsFit p (acts_of (chunk.WholePeriod n ws period)) s → Steady s → Comes p l (chunk.WholePeriod n ws period) s
whole-comes p l n ws period s f h =
    let d = period.domain in
    let s1 : Shared = act_after p (act.Begins d n) s in
    let s2 : Shared = act_after p (act.Looks d ws) s1 in
    record {
      leads = leads-by-join p ((l, entry.Begin d n) ∷ []) ((l, entry.Finish period) ∷ []) (plainly s) (plainly s2) (plainly (act_after p (act.Finishes period) s2)) (begins-leads p l d n ws s f.0 f.1.0) (ends-leads p l period s2 f.1.1.0 (looked-now p d ws s1 f.1.0));
      steady = ends-steady p period s2 (begins-steady p d n ws s h f.1.0);
    }

-- a call on a list or tree touches nothing of it
call-fits : (p l : ℕ) (graph : List ℕ) (position : ℕ) (owner : List ℕ) (call : PastCall) (s : Shared) → Fits p l (call_entry graph position owner call) s
call-fits p l graph position owner (past.PushFront id) s = record { words = tt; numbers = tt; looks = tt; lives = tt; pages = tt; boxes = tt }
call-fits p l graph position owner _ s = record { words = tt; numbers = tt; looks = tt; lives = tt; pages = tt; boxes = tt }

call-after : (p l : ℕ) (graph : List ℕ) (position : ℕ) (owner : List ℕ) (call : PastCall) (s : Shared) → shared_after p l (call_entry graph position owner call) s ≡ s
call-after p l graph position owner (past.PushFront id) s = refl
call-after p l graph position owner _ s = refl

finishing-comes : (p l : ℕ) (ws : List ℕ) (period : Period) (s : Shared) → ActsFit p (acts_of (chunk.Finishing ws period)) s → Steady s → Comes p l (chunk.Finishing ws period) s
finishing-comes p l ws period s f h =
    let d = period.domain in
    let s1 : Shared = act_after p (act.Looks d ws) s in
    let same : plainly s1 ≡ plainly s = ap (λ (z : Looks). let t : Shared = record s { looks = z } in t) (looks-same p d ws s h f.0) in
    record {
      leads = subst (λ z. Leads (by p ((l, entry.Finish period) ∷ [])) z (plainly (act_after p (act.Finishes period) s1))) same (ends-leads p l period s1 f.1.0 (looked-now p d ws s f.0));
      steady = ends-steady p period s1 (looks-steady p d ws s h f.0);
    }

looking-comes : (p l : ℕ) (d : Domain) (ws : List ℕ) (s : Shared) → LooksAt p d ws s → Steady s → Comes p l (chunk.Looking d ws) s
looking-comes p l d ws s f h =
    let same : plainly (act_after p (act.Looks d ws) s) ≡ plainly s = ap (λ (z : Looks). let t : Shared = record s { looks = z } in t) (looks-same p d ws s h f) in
    record { leads = subst (Leads [] (plainly s)) (sym same) (leads-same (plainly s)); steady = looks-steady p d ws s h f }

sweeping-comes : (p l c : ℕ) (us : List ℕ) (parcels : List (List ℕ)) (s : Shared) → ActsFit p (acts_of (chunk.Sweeping c us parcels)) s → Steady s → Comes p l (chunk.Sweeping c us parcels) s
sweeping-comes p l c us parcels s f h =
    let r = received p c parcels s h.full f in
    let s1 : Shared = record s { boxes = on_box p c (λ parcels. []) s.boxes } in
    let last : EndsWith (concat (s.boxes p c)) (us ++ concat parcels) = record { before = us; units_are = ap (λ xs. us ++ xs) (sym r.waited) } in
    record {
      leads = record { fit = (record { words = tt; numbers = tt; looks = tt; lives = tt; pages = tt; boxes = last }, tt); now_is = ap plainly (sym r.left) };
      steady = subst Steady (sym r.left) (steady-like s s1 refl refl refl (full-box p c (λ parcels. []) s.boxes (λ box k. All-nil (λ (parcel : List ℕ). parcel ≢ [])) h.full) h);
    }

ending-comes : (p l u life home : ℕ) (delayed : Bool) (s : Shared) → IsOnly u life home s → Steady s → Comes p l (chunk.Ending u life home delayed) s
ending-comes p l u life home true s f h = record {
  leads = drop-leads p l u life home true (entry.Delay u home) s (λ z k. record { words = tt; numbers = tt; looks = tt; lives = record { life = life; under = k }; pages = tt; boxes = tt }) (λ z. refl) h f;
  steady = steady-like s (act_after p (act.Ends u life home true) s) refl refl refl h.full h;
}
ending-comes p l u life home false s f h = record {
  leads = drop-leads p l u life home false (entry.Free u home) s (λ z k. record { words = tt; numbers = tt; looks = tt; lives = record { life = life; under = k }; pages = tt; boxes = tt }) (λ z. refl) h f;
  steady = steady-like s (act_after p (act.Ends u life home false) s) refl refl refl h.full h;
}

-- What a chunk does where its acts find what they need, its entries say.
pub comes : (p l : ℕ) (x : Chunk) (s : Shared) → ActsFit p (acts_of x) s → Steady s → Comes p l x s
comes p l (chunk.Quiet e k) s f h = record { leads = leads-quiet p l e (plainly s) k; steady = h }
comes p l (chunk.Looking d ws) s f h = looking-comes p l d ws s f.0 h
comes p l (chunk.Asking d x n) s f h = record { leads = leads-same (plainly s); steady = h }
comes p l (chunk.Missing d even n) s f h = record { leads = leads-same (plainly s); steady = h }
comes p l (chunk.Entering d w) s f h = record {
  leads = record { fit = (record { words = f.0; numbers = tt; looks = tt; lives = tt; pages = tt; boxes = tt }, tt); now_is = refl };
  steady = steady-like s (act_after p (act.Enters d w) s) refl refl refl h.full h;
}
comes p l (chunk.Leaving d w) s f h = record {
  leads = record { fit = (record { words = f.0; numbers = tt; looks = tt; lives = tt; pages = tt; boxes = tt }, tt); now_is = refl };
  steady = steady-like s (act_after p (act.Leaves d w) s) refl refl refl h.full h;
}
comes p l (chunk.Stamping c d x) s f h = record {
  leads = record { fit = (record { words = tt; numbers = f.0; looks = tt; lives = tt; pages = tt; boxes = tt }, tt); now_is = refl };
  steady = h;
}
comes p l (chunk.Passing c d x n) s f h = record {
  leads = record { fit = (record { words = tt; numbers = f.0; looks = tt; lives = tt; pages = tt; boxes = tt }, tt); now_is = refl };
  steady = h;
}
comes p l (chunk.Beginning d n ws) s f h = record { leads = begins-leads p l d n ws s f.0 f.1.0; steady = begins-steady p d n ws s h f.1.0 }
comes p l (chunk.Finishing ws period) s f h = finishing-comes p l ws period s f h
comes p l (chunk.WholePeriod n ws period) s f h = whole-comes p l n ws period s f h
comes p l (chunk.Filling c us) s f h = record {
  leads = record { fit = (record { words = tt; numbers = tt; looks = tt; lives = tt; pages = f.0; boxes = tt }, tt); now_is = refl };
  steady = steady-like s (acts_over p (acts_of (chunk.Filling c us)) s) refl refl refl h.full h;
}
comes p l (chunk.Fetching c want us) s f h = record {
  leads = record { fit = (record { words = tt; numbers = tt; looks = tt; lives = tt; pages = f.0; boxes = tt }, tt); now_is = refl };
  steady = steady-like s (acts_over p (acts_of (chunk.Fetching c want us)) s) refl refl refl h.full h;
}
comes p l (chunk.Returning c us) s f h = record {
  leads = record { fit = (record { words = tt; numbers = tt; looks = tt; lives = tt; pages = f.0; boxes = tt }, tt); now_is = refl };
  steady = steady-like s (acts_over p (acts_of (chunk.Returning c us)) s) refl refl refl h.full h;
}
comes p l (chunk.Sending c to us) s f h = record {
  leads = record { fit = (record { words = tt; numbers = tt; looks = tt; lives = tt; pages = tt; boxes = f.0 }, tt); now_is = refl };
  steady = steady-like s (acts_over p (acts_of (chunk.Sending c to us)) s) refl refl refl (full-box to c (λ parcels. parcels ++ units_of us ∷ []) s.boxes (full-more (units_of us) f.0.some) h.full) h;
}
comes p l (chunk.Draining c to us) s f h = record {
  leads = record { fit = (record { words = tt; numbers = tt; looks = tt; lives = tt; pages = tt; boxes = f.0 }, tt); now_is = refl };
  steady = steady-like s (acts_over p (acts_of (chunk.Draining c to us)) s) refl refl refl (full-box to c (λ parcels. parcels ++ us ∷ []) s.boxes (full-more us f.0.some) h.full) h;
}
comes p l (chunk.Releasing c to us stamp seen) s f h = record {
  leads = record { fit = (record { words = tt; numbers = tt; looks = tt; lives = tt; pages = tt; boxes = f.0 }, tt); now_is = refl };
  steady = steady-like s (acts_over p (acts_of (chunk.Releasing c to us stamp seen)) s) refl refl refl (full-box to c (λ parcels. parcels ++ us ∷ []) s.boxes (full-more us f.0.some) h.full) h;
}
comes p l (chunk.GivingBack c us) s f h = record {
  leads = record { fit = (record { words = tt; numbers = tt; looks = tt; lives = tt; pages = f.0; boxes = tt }, tt); now_is = refl };
  steady = steady-like s (acts_over p (acts_of (chunk.GivingBack c us)) s) refl refl refl h.full h;
}
comes p l (chunk.Receiving c us) s f h = record {
  leads = record { fit = (record { words = tt; numbers = tt; looks = tt; lives = tt; pages = tt; boxes = f.0 }, tt); now_is = refl };
  steady = steady-like s (acts_over p (acts_of (chunk.Receiving c us)) s) refl refl refl (full-box p c (drop 1) s.boxes full-drop h.full) h;
}
comes p l (chunk.FindingNone c) s f h =
    let r = received p c [] s h.full f in
    let box : s.boxes p c ≡ [] = oldest-none (s.boxes p c) (h.full p c) f.0 in
    let same : on_box p c (drop 1) s.boxes ≡ s.boxes = unchanged p c s.boxes box in
    record {
      leads = subst (λ (b : Boxes). Leads [] (plainly s) (plainly (record s { boxes = b }))) (sym same) (leads-same (plainly s));
      steady = steady-like s (acts_over p (acts_of (chunk.FindingNone c)) s) refl refl refl (full-box p c (drop 1) s.boxes full-drop h.full) h;
    }
comes p l (chunk.Sweeping c us parcels) s f h = sweeping-comes p l c us parcels s f h
comes p l (chunk.Making u life type values seal) s f h = record { leads = made-leads p l u life type values seal s f.0; steady = steady-like s (acts_over p (acts_of (chunk.Making u life type values seal)) s) refl refl refl h.full h }
comes p l (chunk.Acquiring u life seen) s f h = record {
  leads = record { fit = (record { words = tt; numbers = tt; looks = tt; lives = f.0; pages = tt; boxes = tt }, tt); now_is = refl };
  steady = steady-like s (acts_over p (acts_of (chunk.Acquiring u life seen)) s) refl refl refl h.full h;
}
comes p l (chunk.Finding u life place value) s f h = record {
  leads = record { fit = (record { words = tt; numbers = tt; looks = tt; lives = tt; pages = tt; boxes = tt }, tt); now_is = refl };
  steady = h;
}
comes p l (chunk.Exchanging name put was from tag) s f h = record {
  leads = record { fit = (record { words = tt; numbers = tt; looks = tt; lives = tt; pages = tt; boxes = tt }, tt); now_is = refl };
  steady = h;
}
comes p l (chunk.Locking graph) s f h = record {
  leads = record { fit = (record { words = tt; numbers = tt; looks = tt; lives = tt; pages = tt; boxes = tt }, tt); now_is = refl };
  steady = h;
}
comes p l (chunk.Unlocking graph) s f h = record {
  leads = record { fit = (record { words = tt; numbers = tt; looks = tt; lives = tt; pages = tt; boxes = tt }, tt); now_is = refl };
  steady = h;
}
comes p l (chunk.Calling graph position call owner tag) s f h = record {
  leads = record { fit = (call-fits p l graph position owner call (plainly s), tt); now_is = call-after p l graph position owner call (plainly s) };
  steady = h;
}
comes p l (chunk.GivingUp u life seen) s f h = record {
  leads = given-up-leads p l u life seen s h f.0.0 f.0.1;
  steady = steady-like s (acts_over p (acts_of (chunk.GivingUp u life seen)) s) refl refl refl h.full h;
}
comes p l (chunk.Ending u life home delayed) s f h = ending-comes p l u life home delayed s f.0 h

-- ---- a story

pub record Reads (p : ℕ) (story : Story) (s : Shared) : Type 0 where
  pub leads : Leads (by p (lines story)) (plainly s) (plainly (acts_over p (deeds story) s))
  pub steady : Steady (acts_over p (deeds story) s)

-- The lines of a story lead where its deeds do.
pub story-reads : (p : ℕ) (story : Story) (s : Shared) → ActsFit p (deeds story) s → Steady s → Reads p story s
story-reads p [] s f h = record { leads = leads-same (plainly s); steady = h }
story-reads p (t ∷ ts) s f h =
    let es = acts_of t.chunk in
    let one = comes p t.level t.chunk s (acts-before p es (deeds ts) s f) h in
    let rest = story-reads p ts (acts_over p es s) (acts-later p es (deeds ts) s f) one.steady in
    let all : acts_over p (es ++ deeds ts) s ≡ acts_over p (deeds ts) (acts_over p es s) = acts-append p es (deeds ts) s in
    record {
      leads = subst (λ z. Leads (by p (lines (t ∷ ts))) (plainly s) (plainly z)) (sym all) (leads-by-join p (lines_of t) (lines ts) (plainly s) (plainly (acts_over p es s)) (plainly (acts_over p (deeds ts) (acts_over p es s))) one.leads rest.leads);
      steady = subst Steady (sym all) rest.steady;
    }

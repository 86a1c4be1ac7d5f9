-- Inboxes that hold parcels of some classes alone.
use Rattle.std.proofs.Common.{◌≡◌, ℕ, Bool, true, false, ◌||◌, List, [], ◌∷◌, ◌++◌, drop, refl, sym, ◌∙◌, ap, subst, inl, inr, ◌==◌, if◌then◌else◌}
use Rattle.std.proofs.lemmas.Bool.Decides.{eqb_tells}
use Rattle.bm_journal.specs.declared.entry.Entry.{Entry}
use Rattle.bm_journal.specs.declared.entry.Entry.TheVariants as entry
use Rattle.bm_journal.specs.EntryText.{unit_list}
use Rattle.bm_law.specs.Inboxes.{Inboxes, on_inbox, inboxes_after}
use Rattle.bm_law_scenario.proofs.PartLaws.{among}
use Rattle.bm_law_logs.proofs.Sends.{SendsOf}

-- the other classes hold none
abbrev pub Inside : List ℕ → Inboxes → Type 0
Inside cs boxes = (k : ℕ) → among k cs ≡ false → boxes k ≡ []

apart : {b : Bool} {A : Type 0} → b ≡ false → b ≡ true → A
apart e f = absurd (cc)

-- an inbox of one of these classes, whatever it gets
on-inside : (cs : List ℕ) (c : ℕ) (f : List (List ℕ) → List (List ℕ)) (boxes : Inboxes) → among c cs ≡ true → Inside cs boxes → Inside cs (on_inbox c f boxes)
on-inside cs c f boxes m z k e = elim (eqb_tells k c) [
  | inl y ↦ apart e (subst (λ d. among d cs ≡ true) (sym y.1) m)
  | inr y ↦ rw y.0 (z k e)
]

-- one that loses parcels
less-inside : (cs : List ℕ) (c : ℕ) (f : List (List ℕ) → List (List ℕ)) (boxes : Inboxes) → f [] ≡ [] → Inside cs boxes → Inside cs (on_inbox c f boxes)
less-inside cs c f boxes n z k e = elim (k == c) as (λ b. (if b then f (boxes k) else boxes k) ≡ []) [ true ↦ ap f (z k e) ∙ n | false ↦ z k e ]

pub after-inside : (cs : List ℕ) (e : Entry) (boxes : Inboxes) → SendsOf cs e → Inside cs boxes → Inside cs (inboxes_after 0 e boxes)
after-inside cs (entry.Send c to us) boxes m z = elim (to == 0) as (λ b. Inside cs (if b then on_inbox c (λ parcels. parcels ++ unit_list us ∷ []) boxes else boxes)) [ true ↦ on-inside cs c (λ parcels. parcels ++ unit_list us ∷ []) boxes m z | false ↦ z ]
after-inside cs (entry.Receive c us) boxes m z = less-inside cs c (λ parcels. drop 1 parcels) boxes refl z
after-inside cs (entry.Sweep c us) boxes m z = absurd m
after-inside cs _ boxes m z = z

-- the inbox of the first class is emptied
pub rest-inside : (c : ℕ) (cs : List ℕ) (boxes : Inboxes) → Inside (c ∷ cs) boxes → Inside cs (on_inbox c (λ parcels. []) boxes)
rest-inside c cs boxes z k e = elim (eqb_tells k c) [
  | inl y ↦ rw y.0 refl
  | inr y ↦ rw y.0 (z k (ap (λ b. b || among k cs) y.0 ∙ e))
]

-- The closing of processors that empty no map.
use Rattle.std.proofs.Common.{◌≡◌, ℕ, zero, suc, List, [], ◌∷◌, ◌++◌, ap, refl, subst, sym, ◌∙◌}
use Rattle.bm_journal.specs.declared.entry.Entry.TheVariants as entry
use Rattle.bm_law.specs.State.{State}
use Rattle.bm_law.specs.Lists.{Log, after}
use Rattle.bm_law_work.specs.Parts.{Part, Nothing, Stand, Then}
use Rattle.bm_law_scenario.specs.Closing.{AreSweeps, Closing, Empties, EndsPeriods, close_of}
use Rattle.bm_law_scenario.specs.Declared.{Declared}

-- what such a closing leaves
abbrev pub BareClosing : ℕ → List ℕ → Log → Part
BareClosing p classes log = Then (Stand 0 (entry.Ended ∷ close_of p)) (Then (EndsPeriods log) (AreSweeps classes))

bare : (Q : Part) (s : State ℕ) (part : Log) → Then Nothing Q s part → Q s part
bare Q s part h =
    let whole : part ≡ h.two = h.part_is ∙ ap (λ z. z ++ h.two) h.is_first in
    subst (Q s) (sym whole) (subst (λ z. Q (after s z) h.two) h.is_first h.is_second)

pub closing-bare : (d : Declared) (p : ℕ) (classes : List ℕ) (log : Log) (s : State ℕ) (part : Log) → Empties p d ≡ Nothing → Closing d p classes log s part → BareClosing p classes log s part
closing-bare d p classes log s part none h =
    let Q : Part = Then (EndsPeriods log) (AreSweeps classes) in
    let F : Part → Type 0 = λ E. Then E Q (after s h.one) h.two in
    record { one = h.one; two = h.two; part_is = h.part_is; is_first = h.is_first; is_second = bare Q (after s h.one) h.two (subst F none h.is_second) }

pub bare-closing : (d : Declared) (p : ℕ) (classes : List ℕ) (log : Log) (s : State ℕ) (part : Log) → Empties p d ≡ Nothing → BareClosing p classes log s part → Closing d p classes log s part
bare-closing d p classes log s part none h =
    let Q : Part = Then (EndsPeriods log) (AreSweeps classes) in
    let F : Part → Type 0 = λ E. Then E Q (after s h.one) h.two in
    record {
      one = h.one;
      two = h.two;
      part_is = h.part_is;
      is_first = h.is_first;
      is_second = subst F (sym none) (record { one = []; two = h.two; part_is = refl; is_first = refl; is_second = h.is_second });
    }

-- where no map is declared
pub no-maps : (p : ℕ) (d : Declared) → d.maps ≡ [] → Empties p d ≡ Nothing
no-maps zero d e = ap (λ ms. Empties 0 (record { types = d.types; maps = ms; lock = d.lock })) e
no-maps (suc p) d e = refl

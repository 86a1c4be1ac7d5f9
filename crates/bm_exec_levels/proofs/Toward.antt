-- Works one after the other, as parts of a log.
use Rattle.std.proofs.Common.{◌≡◌, ◌++◌, ℕ, suc, List, [], ◌∷◌, Option, Some, None, refl, sym, subst, append_assoc}
use Rattle.bm_law.specs.State.{State}
use Rattle.bm_law.specs.Lists.{Log, after}
use Rattle.bm_law.proofs.Folds.{after-append}
use Rattle.bm_law_work.specs.Parts.{Part, Nothing}
use Rattle.bm_law_work.specs.WorkPhrases.{Work}
use Rattle.bm_law_scenario.specs.Works.{lowest_raised, NextWork, UntilDown, WorkEach, WorksBy}

-- a part such that with what is left behind it the whole stands there
pub record Toward (left whole : Part) (s : State ℕ) (part : Log) : Type 0 where
  pub whole_of : (rest : Log) → left (after s part) rest → whole s (part ++ rest)

-- nothing was done yet
pub toward-none : (P : Part) (s : State ℕ) → Toward P P s []
toward-none P s = record { whole_of = λ rest h. h }

-- more was done
pub toward-more : (P Q W : Part) (s : State ℕ) (one two : Log) → Toward Q W s one → Toward P Q (after s one) two → Toward P W s (one ++ two)
toward-more P Q W s one two f g = record {
  whole_of = λ rest h.
      let F : State ℕ → Type 0 = λ t. P t rest in
      let G : Log → Type 0 = λ x. W s x in
      subst G (sym (append_assoc one two rest)) (f.whole_of (two ++ rest) (g.whole_of rest (subst F (after-append s one two) h)));
}

-- the work of the lowest class whose flag is up
pub record Lowest (classes : List ℕ) (c : ℕ) (s : State ℕ) (part : Log) : Type 0 where
  pub is_lowest : lowest_raised classes s ≡ Some c
  pub work : Work 0 c s part

-- no flag is up, and nothing is done
pub record AllDown (classes : List ℕ) (s : State ℕ) (part : Log) : Type 0 where
  pub down : lowest_raised classes s ≡ None
  pub nothing : part ≡ []

pub lowest-toward : (classes : List ℕ) (c : ℕ) (s : State ℕ) (part : Log) → Lowest classes c s part → Toward (UntilDown classes) (UntilDown classes) s part
lowest-toward classes c s part w = record {
  whole_of = λ rest h.
      let F : Option ℕ → Type 0 = λ o. NextWork o (WorksBy classes h.0) s (part ++ rest) in
      (suc h.0, subst F (sym w.is_lowest) record { one = part; two = rest; part_is = refl; is_first = w.work; is_second = h.1 });
}

pub down-toward : (classes : List ℕ) (s : State ℕ) (one two : Log) → Toward (UntilDown classes) (UntilDown classes) s one → AllDown classes (after s one) two → UntilDown classes s (one ++ two)
down-toward classes s one two f d = f.whole_of two (0, (d.down, d.nothing))

-- the work of one more class of the list
each-toward : (c : ℕ) (cs : List ℕ) (s : State ℕ) (part : Log) → Work 0 c s part → Toward (WorkEach cs) (WorkEach (c ∷ cs)) s part
each-toward c cs s part w = record { whole_of = λ rest h. record { one = part; two = rest; part_is = refl; is_first = w; is_second = h } }

pub each-more : (cs left : List ℕ) (c : ℕ) (rest : List ℕ) (s : State ℕ) (one two : Log) → left ≡ c ∷ rest → Toward (WorkEach left) (WorkEach cs) s one → Work 0 c (after s one) two → Toward (WorkEach rest) (WorkEach cs) s (one ++ two)
each-more cs left c rest s one two e f w =
    let F : List ℕ → Type 0 = λ x. Toward (WorkEach rest) (WorkEach x) (after s one) two in
    toward-more (WorkEach rest) (WorkEach left) (WorkEach cs) s one two f (subst F (sym e) (each-toward c rest (after s one) two w))

pub each-end : (cs left : List ℕ) (s : State ℕ) (one two : Log) → left ≡ [] → Toward (WorkEach left) (WorkEach cs) s one → Nothing (after s one) two → WorkEach cs s (one ++ two)
each-end cs left s one two e f h =
    let F : List ℕ → Type 0 = λ x. WorkEach x (after s one) two in
    f.whole_of two (subst F (sym e) h)

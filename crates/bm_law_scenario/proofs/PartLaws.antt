-- What holds of each part of a front.
use Rattle.std.proofs.Common.{◌≡◌, ℕ, zero, suc, Bool, true, false, cond, ◌||◌, List, [], ◌∷◌, ◌++◌, Option, Some, None, refl, sym, subst, find, nat_eq, eq-eqb}
use Rattle.std.specs.List.{list_any}
use Rattle.bm_journal.specs.declared.entry.Entry.{Entry}
use Rattle.bm_law.specs.Lists.{Log, after}
use Rattle.bm_law.specs.Spans.{own_entries}
use Rattle.bm_law.specs.State.{State}
use Rattle.bm_law.proofs.Spans.{own-append}
use Rattle.bm_law_work.specs.Parts.{Part, Nothing, Stand, Say, Then, If}
use Rattle.bm_law_work.specs.WorkPhrases.{Work}
use Rattle.bm_law_scenario.specs.Works.{NextWork, UntilDown, WorkBehind, WorkEach, WorksBy, lowest_raised}

-- ---- classes

-- whether a class is one of these
abbrev pub among : ℕ → List ℕ → Bool
among c cs = list_any (λ d. nat_eq c d) cs

-- a class stands first, or behind another one
pub first-among : (c d : ℕ) (cs : List ℕ) → c ≡ d → among c (d ∷ cs) ≡ true
first-among c d cs e = rw (eq-eqb c d e) refl

pub later-among : (c d : ℕ) (cs : List ℕ) → among c cs ≡ true → among c (d ∷ cs) ≡ true
later-among c d cs e = either (nat_eq c d) e
  where
    either : (x : Bool) {y : Bool} → y ≡ true → (x || y) ≡ true
    either true e = refl
    either false e = e

-- a class that is found is one of these
found-first : (found : Bool) (c d : ℕ) (cs : List ℕ) (rest : Option ℕ) → (rest ≡ Some c → among c cs ≡ true) → cond found (Some d) rest ≡ Some c → among c (d ∷ cs) ≡ true
found-first true c d cs rest f e = first-among c d cs (cc)
found-first false c d cs rest f e = later-among c d cs (f e)

pub found-among : (test : ℕ → Bool) (cs : List ℕ) (c : ℕ) → find test cs ≡ Some c → among c cs ≡ true
found-among test [] c e = absurd (cc)
found-among test (d ∷ cs) c e = found-first (test d) c d cs (find test cs) (found-among test cs c) e

-- ---- laws of parts

-- A law of parts: nothing has it, two parts have it together, and so does a part that is always one of several.
pub record Laws (L : Part → Type 0) : Type 1 where
  pub nothing : L Nothing
  pub both : (Q R : Part) → L Q → L R → L (Then Q R)
  pub cases : (A : Type 0) (Q : A → Part) (R : Part) → ((a : A) → L (Q a)) → ((s : State ℕ) (part : Log) → R s part → (a : A) × Q a s part) → L R

module _ (L : Part → Type 0) (k : Laws L) where
  -- a part that is always another one, or never
  pub law-as : (Q R : Part) → L Q → ((s : State ℕ) (part : Log) → R s part → Q s part) → L R
  law-as Q R q f = k.cases (Unit {0}) (λ u. Q) R (λ u. q) (λ s part h. (tt, f s part h))

  pub law-never : (R : Part) → ((s : State ℕ) (part : Log) → R s part → ⊥) → L R
  law-never R f = k.cases ⊥ (λ u. Nothing) R (λ u. absurd u) (λ s part h. absurd (f s part h))

  pub law-if : (b : Bool) (Q R : Part) → L Q → L R → L (If b Q R)
  law-if true Q R f g = f
  law-if false Q R f g = g

  -- works of classes that have it
  law-next : (cs : List ℕ) (raised : Option ℕ) (rest : Part) → ((c : ℕ) → among c cs ≡ true → L (Work 0 c)) → ((c : ℕ) → raised ≡ Some c → among c cs ≡ true) → L rest → L (NextWork raised rest)
  law-next cs None rest w m q = law-never (NextWork None rest) (λ s part h. h)
  law-next cs (Some c) rest w m q = law-as (Then (Work 0 c) rest) (NextWork (Some c) rest) (k.both (Work 0 c) rest (w c (m c refl)) q) (λ s part h. h)

  law-works : (cs : List ℕ) (n : ℕ) → ((c : ℕ) → among c cs ≡ true → L (Work 0 c)) → L (WorksBy cs n)
  law-works cs zero w = law-as Nothing (WorksBy cs zero) k.nothing (λ s part h. h.1)
  law-works cs (suc n) w =
      k.cases (State ℕ) (λ t. NextWork (lowest_raised cs t) (WorksBy cs n)) (WorksBy cs (suc n))
      (λ t. law-next cs (lowest_raised cs t) (WorksBy cs n) w (found-among (λ c. (t.rows c).raised) cs) (law-works cs n w)) (λ s part h. (s, h))

  pub law-until : (cs : List ℕ) → ((c : ℕ) → among c cs ≡ true → L (Work 0 c)) → L (UntilDown cs)
  law-until cs w = k.cases ℕ (WorksBy cs) (UntilDown cs) (λ n. law-works cs n w) (λ s part h. h)

  law-each : (cs ds : List ℕ) → ((c : ℕ) → among c cs ≡ true → L (Work 0 c)) → ((c : ℕ) → among c ds ≡ true → among c cs ≡ true) → L (WorkEach ds)
  law-each cs [] w m = k.nothing
  law-each cs (d ∷ ds) w m = k.both (Work 0 d) (WorkEach ds) (w d (m d (first-among d d ds refl))) (law-each cs ds w (λ c e. m c (later-among c d ds e)))

  pub law-behind : (cs : List ℕ) → ((c : ℕ) → among c cs ≡ true → L (Work 0 c)) → L (WorkBehind cs)
  law-behind cs w = k.both (WorkEach cs) (UntilDown cs) (law-each cs cs w (λ c e. e)) (law-until cs w)

-- ---- what the entries of ordinary code in a part have

-- A property of stretches that nothing has, and that two of them have together.
pub record Joins (P : List Entry → Type 0) : Type 0 where
  pub none : P []
  pub join : (v w : List Entry) → P v → P w → P (v ++ w)

abbrev pub Has : (List Entry → Type 0) → Part → Type 0
Has P Q = (s : State ℕ) (part : Log) → Q s part → P (own_entries 0 part)

module _ (P : List Entry → Type 0) where
  pub has-stand : (own : List Entry) → P own → Has P (Stand 0 own)
  has-stand own q s part h = subst P (sym h.own_is) q

  pub has-say : (phrase : List Entry → Type 0) → ((own : List Entry) → phrase own → P own) → Has P (Say 0 phrase)
  has-say phrase q s part h = has-stand h.0 (q h.0 h.1) s part h.2

  pub has-laws : Joins P → Laws (Has P)
  has-laws k = record {
    nothing = λ s part h. let F : Log → Type 0 = λ z. P (own_entries 0 z) in subst F (sym h) k.none;
    both = λ Q R f g s part h.
        let F : Log → Type 0 = λ z. P (own_entries 0 z) in
        subst F (sym h.part_is) (subst P (sym (own-append 0 h.one h.two)) (k.join (own_entries 0 h.one) (own_entries 0 h.two) (f s h.one h.is_first) (g (after s h.one) h.two h.is_second)));
    cases = λ A Q R f g s part h. let x = g s part h in f x.0 s part x.1;
  }

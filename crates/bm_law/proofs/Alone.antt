-- How stretches join into which no handler came, and what they add.
use Rattle.std.proofs.Common.{◌≡◌, ℕ, List, [], ◌∷◌, ◌++◌, Option, Some, None, refl, sym, ◌∙◌, ap, subst, arith, append_assoc, eq-eqb}
use Rattle.std.proofs.lemmas.Grind.{common_steps}
use Rattle.std.proofs.lemmas.List.{append_cancel_left}
use Rattle.bm_journal.specs.declared.entry.Entry.{Entry}
use Rattle.bm_journal.specs.Recording.{Appends}
use Rattle.bm_law.specs.Lists.{Log}
use Rattle.bm_law.specs.Spans.{own_entries, AllFrom, Records}
use Rattle.bm_law.specs.Alone.{at_level, AllAt, GrewAt, Alone, Gained, Adds}

pub at-append : (l : ℕ) (a b : Log) → AllAt l a → AllAt l b → AllAt l (a ++ b)
at-append l [] b h k = k
at-append l (e ∷ a) b h k = (h.0, at-append l a b h.1 k)

pub level-append : (l : ℕ) (v w : List Entry) → at_level l (v ++ w) ≡ at_level l v ++ at_level l w
level-append l [] w = refl
level-append l (e ∷ v) w = ap (λ (x : Log). (l, e) ∷ x) (level-append l v w)

-- entries of one level are the own entries of that level
pub at-own : (l : ℕ) (a : Log) → AllAt l a → a ≡ at_level l (own_entries l a)
at-own l [] h = refl
at-own l (e ∷ a) h =
    let P : ℕ → Type 0 = λ k. e ∷ a ≡ (k, e.1) ∷ at_level l (own_entries l a) in
    rw (eq-eqb e.0 l h.0) (subst P h.0 (ap (λ (x : Log). e ∷ x) (at-own l a h.1)))

pub level-from : (l : ℕ) (v : List Entry) → AllFrom l (at_level l v)
level-from l [] = tt
level-from l (e ∷ v) = (omega arith, level-from l v)

pub level-own : (l : ℕ) (v : List Entry) → own_entries l (at_level l v) ≡ v
level-own l [] = refl
level-own l (e ∷ v) = rw (eq-eqb l l refl) (ap (λ x. e ∷ x) (level-own l v))

same-log : (a b : Log) → Some a ≡ Some b → a ≡ b
same-log a b h = cc

-- nothing was added
pub Alone-none : (l : ℕ) (a : Option Log) → Alone l a a
Alone-none l None = tt
Alone-none l (Some log) = record { log = log; told = refl; added = []; now_is = grind (arith, common_steps); at = tt }

-- one entry was added
pub Alone-one : (l : ℕ) (e : Entry) (a b : Option Log) → Appends a l e b → Alone l a b
Alone-one l e a None h = tt
Alone-one l e a (Some now) h = record { log = h.log; told = h.told; added = (l, e) ∷ []; now_is = h.more; at = (refl, tt) }

-- two stretches join
pub Alone-join : (l : ℕ) (a b c : Option Log) → Alone l a b → Alone l b c → Alone l a c
Alone-join l a b None f g = tt
Alone-join l a b (Some now) f g =
    let P : Option Log → Type 0 = λ o. Alone l a o in
    let h : GrewAt l a g.log = subst P g.told f in
    record {
      log = h.log;
      told = h.told;
      added = h.added ++ g.added;
      now_is = g.now_is ∙ ap (λ x. x ++ g.added) h.now_is ∙ append_assoc h.log h.added g.added;
      at = at-append l h.added g.added h.at g.at;
    }

-- what the log gained is what the call recorded
pub Adds-alone : (l : ℕ) (own : List Entry) (a b : Option Log) → Records l own a b → Alone l a b → Adds l own a b
Adds-alone l own a None f g = tt
Adds-alone l own a (Some now) f g =
    let s : f.log ≡ g.log = same-log f.log g.log (sym f.told ∙ g.told) in
    let e : g.log ++ f.added ≡ g.log ++ g.added = ap (λ x. x ++ f.added) (sym s) ∙ sym f.now_is ∙ g.now_is in
    let d : f.added ≡ g.added = append_cancel_left g.log f.added g.added e in
    let o : own_entries l g.added ≡ own = ap (own_entries l) (sym d) ∙ f.owned in
    record {
      log = g.log;
      told = g.told;
      now_is = g.now_is ∙ ap (λ x. g.log ++ x) (at-own l g.added g.at ∙ ap (at_level l) o);
    }

pub Adds-none : (l : ℕ) (a : Option Log) → Adds l [] a a
Adds-none l None = tt
Adds-none l (Some log) = record { log = log; told = refl; now_is = grind (arith, common_steps) }

pub Adds-one : (l : ℕ) (e : Entry) (a b : Option Log) → Appends a l e b → Adds l (e ∷ []) a b
Adds-one l e a None h = tt
Adds-one l e a (Some now) h = record { log = h.log; told = h.told; now_is = h.more }

pub Adds-join : (l : ℕ) (v w : List Entry) (a b c : Option Log) → Adds l v a b → Adds l w b c → Adds l (v ++ w) a c
Adds-join l v w a b None f g = tt
Adds-join l v w a b (Some now) f g =
    let P : Option Log → Type 0 = λ o. Adds l v a o in
    let h : Gained l v a g.log = subst P g.told f in
    record {
      log = h.log;
      told = h.told;
      now_is = g.now_is ∙ ap (λ x. x ++ at_level l w) h.now_is ∙ append_assoc h.log (at_level l v) (at_level l w) ∙ ap (λ x. h.log ++ x) (sym (level-append l v w));
    }

-- what was added alone is recorded
pub Records-adds : (l : ℕ) (own : List Entry) (a b : Option Log) → Adds l own a b → Records l own a b
Records-adds l own a None g = tt
Records-adds l own a (Some now) g = record { log = g.log; told = g.told; added = at_level l own; now_is = g.now_is; from = level-from l own; owned = level-own l own }

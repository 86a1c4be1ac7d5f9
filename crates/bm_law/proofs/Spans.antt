-- How stretches of a log join.
use Rattle.std.proofs.Common.{◌≡◌, ◌≤◌, ◌<◌, ℕ, ◌+◌, true, false, List, [], ◌∷◌, ◌++◌, Option, Some, None, refl, ◌∙◌, ap, subst, eqb, cond, arith, append_assoc, ne_eqb, eq-eqb}
use Rattle.std.proofs.lemmas.Grind.{common_steps}
use Rattle.bm_journal.specs.declared.entry.Entry.{Entry}
use Rattle.bm_journal.specs.Recording.{Appends}
use Rattle.bm_law.specs.Lists.{Log}
use Rattle.bm_law.specs.Spans.{own_entries, AllFrom, Grew, Records, Rose, Above}

pub own-append : (l : ℕ) (a b : Log) → own_entries l (a ++ b) ≡ own_entries l a ++ own_entries l b
own-append l [] b = refl
own-append l (e ∷ a) b =
    elim (eqb e.0 l) as (λ t. cond t (e.1 ∷ own_entries l (a ++ b)) (own_entries l (a ++ b)) ≡ cond t (e.1 ∷ own_entries l a) (own_entries l a) ++ own_entries l b)
    [ true ↦ ap (λ x. e.1 ∷ x) (own-append l a b) | false ↦ own-append l a b ]

pub from-append : (l : ℕ) (a b : Log) → AllFrom l a → AllFrom l b → AllFrom l (a ++ b)
from-append l [] b h k = k
from-append l (e ∷ a) b h k = (h.0, from-append l a b h.1 k)

pub from-below : (k l : ℕ) (a : Log) → k ≤ l → AllFrom l a → AllFrom k a
from-below k l [] h f = tt
from-below k l (e ∷ a) h f = (omega (arith, f.0), from-below k l a h f.1)

-- entries of higher levels are none of the call's own
pub none-own : (l k : ℕ) (a : Log) → l < k → AllFrom k a → own_entries l a ≡ []
none-own l k [] h f = refl
none-own l k (e ∷ a) h f =
    let d : eqb e.0 l ≡ false = ne_eqb e.0 l (λ q. omega (arith, f.0, q, h)) in
    rw d (none-own l k a h f.1)

-- nothing was added
pub Records-none : (l : ℕ) (a : Option Log) → Records l [] a a
Records-none l None = tt
Records-none l (Some log) = record { log = log; told = refl; added = []; now_is = grind (arith, common_steps); from = tt; owned = refl }

-- one entry was added
pub Records-one : (l : ℕ) (e : Entry) (a b : Option Log) → Appends a l e b → Records l (e ∷ []) a b
Records-one l e a None h = tt
Records-one l e a (Some now) h = record {
  log = h.log;
  told = h.told;
  added = (l, e) ∷ [];
  now_is = h.more;
  from = (omega arith, tt);
  owned = rw (eq-eqb l l refl) refl;
}

-- two stretches join
pub Records-join : (l : ℕ) (v w : List Entry) (a b c : Option Log) → Records l v a b → Records l w b c → Records l (v ++ w) a c
Records-join l v w a b None f g = tt
Records-join l v w a b (Some now) f g =
    let P : Option Log → Type 0 = λ o. Records l v a o in
    let h : Grew l v a g.log = subst P g.told f in
    record {
      log = h.log;
      told = h.told;
      added = h.added ++ g.added;
      now_is = g.now_is ∙ ap (λ x. x ++ g.added) h.now_is ∙ append_assoc h.log h.added g.added;
      from = from-append l h.added g.added h.from g.from;
      owned = own-append l h.added g.added ∙ ap (λ x. x ++ own_entries l g.added) h.owned ∙ ap (λ x. v ++ x) g.owned;
    }

-- what a call of a higher level adds
pub Records-above : (l k : ℕ) (v : List Entry) (a b : Option Log) → l < k → Records k v a b → Records l [] a b
Records-above l k v a None h g = tt
Records-above l k v a (Some now) h g = record {
  log = g.log;
  told = g.told;
  added = g.added;
  now_is = g.now_is;
  from = from-below l k g.added (omega arith) g.from;
  owned = none-own l k g.added h g.from;
}

-- what handlers add
pub Records-points : (l : ℕ) (a b : Option Log) → Above (l + 1) a b → Records l [] a b
Records-points l a None g = tt
Records-points l a (Some now) g = record {
  log = g.log;
  told = g.told;
  added = g.added;
  now_is = g.now_is;
  from = from-below l (l + 1) g.added (omega arith) g.from;
  owned = none-own l (l + 1) g.added (omega arith) g.from;
}

pub Above-records : (l : ℕ) (v : List Entry) (a b : Option Log) → Records l v a b → Above l a b
Above-records l v a None g = tt
Above-records l v a (Some now) g = record { log = g.log; told = g.told; added = g.added; now_is = g.now_is; from = g.from }

pub Above-none : (l : ℕ) (a : Option Log) → Above l a a
Above-none l None = tt
Above-none l (Some log) = record { log = log; told = refl; added = []; now_is = grind (arith, common_steps); from = tt }

pub Above-join : (l : ℕ) (a b c : Option Log) → Above l a b → Above l b c → Above l a c
Above-join l a b None f g = tt
Above-join l a b (Some now) f g =
    let P : Option Log → Type 0 = λ o. Above l a o in
    let h : Rose l a g.log = subst P g.told f in
    record {
      log = h.log;
      told = h.told;
      added = h.added ++ g.added;
      now_is = g.now_is ∙ ap (λ x. x ++ g.added) h.now_is ∙ append_assoc h.log h.added g.added;
      from = from-append l h.added g.added h.from g.from;
    }

pub Above-below : (k l : ℕ) (a b : Option Log) → k ≤ l → Above l a b → Above k a b
Above-below k l a None h g = tt
Above-below k l a (Some now) h g = record { log = g.log; told = g.told; added = g.added; now_is = g.now_is; from = from-below k l g.added h g.from }

use Rattle.std.proofs.Common.{◌≡◌, ◌+◌, ◌++◌, ℕ, List, [], ◌∷◌, refl, ap, arith, inl, inr}
use Rattle.bm_journal.specs.declared.ids.Domain.{Domain}
use Rattle.bm_journal.specs.declared.ids.Domain.TheVariants.{Tracing}
use Rattle.bm_journal.specs.declared.period.Period.{Period}
use Rattle.bm_journal.specs.declared.units.Units.TheVariants.{Whole}
use Rattle.bm_journal.specs.declared.entry.Entry.{Entry}
use Rattle.bm_journal.specs.declared.entry.Entry.TheVariants as entry
use Rattle.bm_law.specs.SweepPhrases.{MayBegin, MayFinish, PollPhrase}
use Rattle.bm_closing.proofs.Swept.{sweep-of}
use Rattle.bm_closing.proofs.law.stop_law.Goals as goal

-- of an entry: whether it is a return, and the number that a pass has seen
abbrev one-return : Entry → ℕ
one-return (entry.Return c us) = 1
one-return _ = 0

abbrev one-seen : Entry → ℕ
one-seen (entry.Pass c d n) = n
one-seen _ = 0

-- .. over entries
abbrev total : (Entry → ℕ) → List Entry → ℕ
total f [] = 0
total f (e ∷ es) = f e + total f es

total-append : (f : Entry → ℕ) (xs ys : List Entry) → total f (xs ++ ys) ≡ total f xs + total f ys
total-append f [] ys = omega arith
total-append f (x ∷ xs) ys = let e = total-append f xs ys in omega (arith, e)

-- what is no such entry adds nothing, so that a poll has what its pass has
module _ (f : Entry → ℕ) (no-finish : (p : Period) → f (entry.Finish p) ≡ 0) (no-begin : (d : Domain) (n : ℕ) → f (entry.Begin d n) ≡ 0) where
  finish-none : (d : Domain) (own : List Entry) → MayFinish d own → total f own ≡ 0
  finish-none d own (inl e) = ap (total f) e
  finish-none d own (inr h) = let e = ap (total f) h.1 in let k = ap f h.2.2 in let z = no-finish h.2.0 in omega (arith, e, k, z)

  begin-none : (d : Domain) (own : List Entry) → MayBegin d own → total f own ≡ 0
  begin-none d own (inl e) = ap (total f) e
  begin-none d own (inr h) = let e = ap (total f) h.2 in let k = finish-none d h.1 h.3 in let z = no-begin d h.0 in omega (arith, e, k, z)

  poll-total : (c : ℕ) (d : Domain) (own : List Entry) (p : PollPhrase c d own) → total f own ≡ f (entry.Pass c d p.seen)
  poll-total c d own p =
      let pass : List Entry = entry.Pass c d p.seen ∷ [] in
      let e = ap (total f) p.own_is in
      let k = total-append f p.ended (p.begun ++ pass) in
      let m = total-append f p.begun pass in
      let x = finish-none d p.ended p.may_finish in
      let y = begin-none d p.begun p.may_begin in
      omega (arith, e, k, m, x, y)

pub returns-clause-gathered : goal.returns-clause-gathered
returns-clause-gathered c i units w d le = sweep-of i units w d le

pub returns-clause-returned : goal.returns-clause-returned
returns-clause-returned c i units w h =
    let back : List Entry = entry.Return i (Whole h.phrase.returned) ∷ [] in
    let e = ap (total one-return) h.phrase.own_is in
    let f = total-append one-return h.phrase.poll back in
    let n = poll-total one-return (λ p. refl) (λ d n. refl) i Tracing h.phrase.poll h.phrase.polls in
    omega (arith, e, f, n)

pub returns-clause-unstamped : goal.returns-clause-unstamped
returns-clause-unstamped c i n units d more h = let e = h.phrase.own_is in cc

pub returns-clause-classed : goal.returns-clause-classed
returns-clause-classed c i k units w h = let e = h.phrase.own_is in cc

pub returns-clause-named : goal.returns-clause-named
returns-clause-named c i units others w h = let e = h.phrase.own_is in let t = h.taken in cc

pub returns-clause-waited : goal.returns-clause-waited
returns-clause-waited c i units w h =
    let back : List Entry = entry.Return i (Whole h.phrase.returned) ∷ [] in
    let e = ap (total one-seen) h.phrase.own_is in
    let f = total-append one-seen h.phrase.poll back in
    let n = poll-total one-seen (λ p. refl) (λ d n. refl) i Tracing h.phrase.poll h.phrase.polls in
    let stamp : w.stamp ≡ h.phrase.stamp = (let q = h.phrase.own_is in cc) in
    let le = h.waited in
    omega (arith, e, f, n, stamp, le)

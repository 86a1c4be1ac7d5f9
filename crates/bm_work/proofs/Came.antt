-- Units that come to a side.
use Rattle.std.proofs.Common.{◌≡◌, ◌≢◌, ◌≤◌, ◌+◌, ◌++◌, ℕ, zero, suc, ◌&&◌, true, false, is_none, List, [], ◌∷◌, map, Option, None, refl, ◌∙◌, ap, arith, Bool, not, nat_eq, length, drop, ◌-◌, ne_eqb}
use Rattle.std.specs.Prelude.{get_or}
use Rattle.std.specs.List.{All}
use Rattle.bm_journal.specs.declared.units.Units.TheVariants.{Whole}
use Rattle.bm_journal.specs.declared.entry.Entry.{Entry}
use Rattle.bm_journal.specs.declared.entry.Entry.TheVariants as entry
use Rattle.bm_work.specs.Periods.{AddsFirst, GetsParcel}
use Rattle.bm_page.specs.declared.units.Seal.{Seal}
use Rattle.bm_grace.specs.Rights.{Rights, seal_by}
use Rattle.bm_law.specs.State.{State, seen}
use Rattle.bm_law.specs.Stands.{Once, stands, times}
use Rattle.std.proofs.lemmas.Grind.{common_steps}
use Rattle.bm_law.specs.Lists.{Log, after}
use Rattle.bm_law_work.specs.Parts.{Say}
use Rattle.bm_law_work.specs.WorkPhrases.{AddAll, Receive}
use Rattle.std.proofs.lemmas.List.Elements.{All-drop, All-head}
use Rattle.bm_post.specs.Rights.{AreSame, Gains, Lasting}
use Rattle.bm_post.specs.Calls.{Takes}
use Rattle.bm_post.proofs.Posts.{held}
use Rattle.bm_cache.specs.Tokens.{Token, number_of}
use Rattle.bm_cache.specs.Tests.{Proper, Reusable}
use Rattle.bm_cache.proofs.Absent.{failing, nowhere}
use Rattle.bm_work.specs.DeskTests.{Fact, is_ripe, fact_at, tests_by}
use Rattle.bm_work.specs.Onward.{Onward}
use Rattle.bm_work.proofs.Tests.{and-of}

-- calls of the post leave true what was true of the units that stay mine
facts-last : (r q : Rights) (gone : List ℕ) (f : Fact) (number n life : ℕ) → Lasting gone r q → times n gone ≡ 0 → r.mine n ≡ true → q.mine n ≡ true → is_ripe r f number n life ≡ true → is_ripe q f number n life ≡ true
facts-last r q gone f zero n life l e m k h = l.since f.domain f.stamp n m k h
facts-last r q gone f (suc number) n life l e m k h = l.ripe n life (seal_by f.domain f.stamp number) m k e h

pub split : (a b : Bool) → (a && b) ≡ true → (a ≡ true) × (b ≡ true)
split true b h = (refl, h)
split false b h = absurd (cc)

pub lasting-onward : (r q : Rights) (gone : List ℕ) → ((n : ℕ) → times n gone ≡ 0 → r.mine n ≡ true → q.mine n ≡ true) → Lasting gone r q → Onward gone (tests_by r) (tests_by q)
lasting-onward r q gone m l zero n life seal e h =
    let p = split (r.mine n) (r.settled n life seal) h in
    let k : q.mine n ≡ true = m n e p.0 in
    and-of (q.mine n) (q.settled n life seal) k (l.settled n life seal p.0 k p.1)
lasting-onward r q gone m l (suc zero) n life seal e h =
    let p = split (r.mine n) (r.due n life None && is_none seal) h in
    let d = split (r.due n life None) (is_none seal) p.1 in
    let k : q.mine n ≡ true = m n e p.0 in
    and-of (q.mine n) (q.due n life None && is_none seal) k (and-of (q.due n life None) (is_none seal) (l.due n life None p.0 k e d.0) d.1)
lasting-onward r q gone m l (suc (suc i)) n life seal e h =
    let f = fact_at i in
    let p = split (r.mine n) (is_ripe r f f.number n life) h in
    let k : q.mine n ≡ true = m n e p.0 in
    and-of (q.mine n) (is_ripe q f f.number n life) k (facts-last r q gone f f.number n life l e p.0 k p.1)

true-false : (b : Bool) → b ≡ true → b ≡ false → ⊥
true-false b p q = absurd (cc)

-- units that came weren't mine before
gains-mine : (r q : Rights) (come : List ℕ) → Gains come r q → (n : ℕ) → r.mine n ≡ true → q.mine n ≡ true
gains-mine r q come g n h = pick (times n come) refl
  where
    pick : (k : ℕ) → times n come ≡ k → q.mine n ≡ true
    pick zero e = g.others n e ∙ h
    pick (suc k) e = g.are n (omega (arith, e))

pub gains-onward : (r q : Rights) (come : List ℕ) → Gains come r q → Lasting [] r q → Onward [] (tests_by r) (tests_by q)
gains-onward r q come g l = lasting-onward r q [] (λ n e h. gains-mine r q come g n h) l

pub same-onward : (r q : Rights) → AreSame r q → Lasting [] r q → Onward [] (tests_by r) (tests_by q)
same-onward r q s l = lasting-onward r q [] (λ n e h. s n ∙ h) l

-- what isn't mine passes no test
no-test : (r : Rights) (n : ℕ) → r.mine n ≡ false → (k life : ℕ) (seal : Option Seal) → tests_by r k n life seal ≡ false
no-test r n h zero life seal = rw h refl
no-test r n h (suc zero) life seal = rw h refl
no-test r n h (suc (suc k)) life seal = rw h refl

-- so they stand nowhere in the caches, and differ from each other
pub gains-fresh : (r q : Rights) (come : List ℕ) (s : State Token) → Once (seen number_of s) → Proper (tests_by r) s → Gains come r q → (n : ℕ) → stands n (seen number_of s) + times n come ≤ 1
gains-fresh r q come s o p g n = pick (times n come) refl
  where
    pick : (k : ℕ) → times n come ≡ k → stands n (seen number_of s) + times n come ≤ 1
    pick zero e = omega (arith, e, o n)
    pick (suc k) e =
        let f : r.mine n ≡ false = g.were_not n (omega (arith, e)) in
        let z : stands n (seen number_of s) ≡ 0 = nowhere n s (failing n (tests_by r) s (no-test r n f) p) in
        omega (arith, z, g.once n)

pub takes-reusable : (class : ℕ) (units : List Token) (r q : Rights) → Takes class units r q → All (Reusable (tests_by q)) units
takes-reusable class units r q t i u n = let v = get_or units i u in and-of (q.mine v.number) (q.settled v.number v.life v.seal) ((held class units r q t).each i u n) (t.settled i u n)

-- a parcel of units, as it is recorded
pub gets-parcel : (c : ℕ) (us : List Token) (b : Bool) (own : List Entry) → b ≡ nat_eq (length us) 0 → own ≡ entry.Receive c (Whole (map number_of us)) ∷ [] → GetsParcel c (not b) own
gets-parcel c [] true own e h = h
gets-parcel c (u ∷ us) false own e h = (map number_of (u ∷ us), omega (arith), h)
gets-parcel c [] false own e h = absurd (cc)
gets-parcel c (u ∷ us) true own e h = absurd (let q : nat_eq (length (u ∷ us)) 0 ≡ false = ne_eqb (length (u ∷ us)) 0 (λ z. omega (arith, z)) in cc)

-- one parcel, and those after it; and none
pub receive-more : (l c n : ℕ) (s : State ℕ) (one two : Log) → Say l (GetsParcel c true) s one → Receive l c n (after s one) two → Receive l c (suc n) s (one ++ two)
receive-more l c n s one two (own, ([], m, e), st) h = absurd (omega (arith, m))
receive-more l c n s one two (own, (u ∷ us, m, e), st) h = (u ∷ us, record { one = one; two = two; part_is = refl; is_first = (own, e, st); is_second = h })

pub receive-none : (l c n : ℕ) (s : State ℕ) (part : Log) → Say l (GetsParcel c false) s part → Receive l c (suc n) s part
receive-none l c n s part h = ([], record { one = part; two = []; part_is = grind (arith, common_steps); is_first = h; is_second = refl })

-- additions of units in hand
pub adds-more : (l c : ℕ) (us : List ℕ) (s : State ℕ) (one two : Log) → Say l (AddsFirst c us) s one → AddAll l c (drop 1 us) (after s one) two → AddAll l c us s (one ++ two)
adds-more l c [] s one two (own, a, st) h = absurd a
adds-more l c (u ∷ us) s one two (own, a, st) h = record { one = one; two = two; part_is = refl; is_first = (own, a, st); is_second = h }

pub drop-named : (us : List Token) → map number_of (drop 1 us) ≡ drop 1 (map number_of us)
drop-named [] = refl
drop-named (u ∷ us) = refl

pub one-there : (P : Token → Type 0) (us : List Token) (n : ℕ) → n ≡ length us → n ≢ 0 → All P us → (u : Token) × (rest : List Token) × (us ≡ u ∷ rest) × P u
one-there P [] n e d h = absurd (d e)
one-there P (u ∷ us) n e d h = (u, us, refl, All-head P u us h)

pub all-rest : (P : Token → Type 0) (us : List Token) → All P us → All P (drop 1 us)
all-rest P us h = All-drop P 1 us h

pub one-less : (us : List Token) (n : ℕ) → n ≡ length us → n ≢ 0 → n - 1 ≡ length (drop 1 us)
one-less [] n e d = absurd (d e)
one-less (u ∷ us) n e d = omega (arith, e)

-- a fetch into an empty list
pub fetched-all : (us vs ws : List Token) → ws ≡ us ++ vs → us ≡ [] → ws ≡ vs
fetched-all us vs ws e h = e ∙ ap (λ x. x ++ vs) h

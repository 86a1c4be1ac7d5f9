-- The tests of a desk.
use Rattle.std.proofs.Common.{◌≡◌, ℕ, zero, suc, ◌+◌, Bool, true, false, ◌&&◌, Option, None, is_none, List, [], refl, sym, ◌∙◌, ap, subst, arith, inl, inr}
use Rattle.std.proofs.lemmas.Bool.{and_parts}
use Rattle.bm_journal.specs.declared.ids.Domain.{Domain}
use Rattle.bm_journal.specs.declared.ids.Domain.TheVariants.{Plain, Tracing}
use Rattle.bm_page.specs.declared.units.Seal.{Seal}
use Rattle.bm_grace.specs.Rights.{Rights, Ages, MineSince, Ripens, seal_by}
use Rattle.std.specs.Prelude.{get_or}
use Rattle.std.specs.List.{All}
use Rattle.bm_grace.specs.declared.answer.Done.{Done}
use Rattle.bm_grace.specs.declared.answer.Done.TheVariants.{Passed, NotYet}
use Rattle.bm_cache.specs.Tokens.{Token}
use Rattle.bm_cache.specs.Tests.{Tests, Either, Passes, Same}
use Rattle.bm_work.specs.DeskTests.{Ripened, Fact, is_ripe, holds_of, onward, pair_at, stamp_at, fact_at, triangle, stamp_place, fact_place, since_test, ripe_test, tests_by}
use Rattle.bm_work.specs.Onward.{Onward}

-- a stamp stands at its place
pub stamp-there : (d : Domain) (x : ℕ) → stamp_at (stamp_place d x) ≡ (d, x)
stamp-there Plain zero = refl
stamp-there Tracing zero = refl
stamp-there Plain (suc x) = ap (λ p. (p.0, suc p.1)) (stamp-there Plain x)
stamp-there Tracing (suc x) = ap (λ p. (p.0, suc p.1)) (stamp-there Tracing x)

-- a pair stands at its place
along : (s : ℕ) → pair_at (triangle s) ≡ (s, 0) → (b a : ℕ) → a + b ≡ s → pair_at (triangle s + b) ≡ (a, b)
along s h zero a e = (let p : triangle s + 0 ≡ triangle s = omega (arith) in ap pair_at p) ∙ h ∙ ap (λ x. (x, 0)) (let q : s ≡ a = omega (arith, e) in q)
along s h (suc b) a e = (let p : triangle s + suc b ≡ suc (triangle s + b) = omega (arith) in ap pair_at p) ∙ ap onward (along s h b (suc a) (omega (arith, e)))

row-start : (s : ℕ) → pair_at (triangle s) ≡ (s, 0)
row-start zero = refl
row-start (suc s) = ap onward (along s (row-start s) s 0 (omega (arith)))

pub pair-there : (a b : ℕ) → pair_at (triangle (a + b) + b) ≡ (a, b)
pair-there a b = along (a + b) (row-start (a + b)) b a refl

-- a fact stands at its place
fact-of : ℕ × ℕ → Fact
fact-of p = record { domain = (stamp_at p.0).0; stamp = (stamp_at p.0).1; number = p.1 }

pub fact-there : (d : Domain) (x number : ℕ) → fact_at (fact_place d x number) ≡ record { domain = d; stamp = x; number = number }
unfolding fact-of
fact-there d x number = ap fact-of (pair-there (stamp_place d x) number) ∙ ap (λ (p : Domain × ℕ). let f : Fact = record { domain = p.0; stamp = p.1; number = number } in f) (stamp-there d x)

-- the tests of facts
pub since-is : (r : Rights) (d : Domain) (x n life : ℕ) (seal : Option Seal) → tests_by r (since_test d x) n life seal ≡ (r.mine n && r.since d x n)
since-is r d x n life seal = ap (λ (f : Fact). holds_of r f n life) (fact-there d x 0)

pub ripe-is : (r : Rights) (d : Domain) (x number n life : ℕ) (seal : Option Seal) → tests_by r (ripe_test d x number) n life seal ≡ (r.mine n && r.ripe n life (seal_by d x number))
ripe-is r d x number n life seal = ap (λ (f : Fact). holds_of r f n life) (fact-there d x (suc number))

-- both halves of a conjunction go on
pub both : (a b c d : Bool) → (a ≡ true → c ≡ true) → (b ≡ true → d ≡ true) → (a && b) ≡ true → (c && d) ≡ true
both true b c d f g h = rw (f refl) (g h)
both false b c d f g h = absurd (cc)

ripe-on : (r q : Rights) (f : Fact) (number n life : ℕ) → Ages r q → is_ripe r f number n life ≡ true → is_ripe q f number n life ≡ true
ripe-on r q f zero n life a h = a.since f.domain f.stamp n h
ripe-on r q f (suc number) n life a h = a.ripe n life (seal_by f.domain f.stamp number) h

-- calls on grace periods leave true what was true
pub ages-onward : (r q : Rights) (gone : List ℕ) → Ages r q → Onward gone (tests_by r) (tests_by q)
ages-onward r q gone a zero n life seal e h = both (r.mine n) (r.settled n life seal) (q.mine n) (q.settled n life seal) (λ m. a.mine n ∙ m) (λ m. a.settled n life seal ∙ m) h
ages-onward r q gone a (suc zero) n life seal e h = both (r.mine n) (r.due n life None && is_none seal) (q.mine n) (q.due n life None && is_none seal) (λ m. a.mine n ∙ m) (both (r.due n life None) (is_none seal) (q.due n life None) (is_none seal) (λ m. a.due n life None ∙ m) (λ m. m)) h
ages-onward r q gone a (suc (suc k)) n life seal e h = both (r.mine n) (is_ripe r (fact_at k) (fact_at k).number n life) (q.mine n) (is_ripe q (fact_at k) (fact_at k).number n life) (λ m. a.mine n ∙ m) (ripe-on r q (fact_at k) (fact_at k).number n life a) h

pub and-of : (a b : Bool) → a ≡ true → b ≡ true → (a && b) ≡ true
and-of a b h k = rw (h, k) refl

-- a passed stamp makes ripe, as the tests tell it
pub ripens-tests : (r q : Rights) (d : Domain) (x : ℕ) (o : Done) (u : Token) → Ages r q → Ripens d x o r q → Ripened (tests_by r) (tests_by q) d x o u
ripens-tests r q d x (NotYet n) u a h = tt
ripens-tests r q d x (Passed n) u a h = λ w p.
    let v = and_parts (r.mine u.number) (r.due u.number u.life None && is_none u.seal) w in
    let y = and_parts (r.due u.number u.life None) (is_none u.seal) v.1 in
    let z = and_parts (r.mine u.number) (r.since d x u.number) (sym (since-is r d x u.number u.life u.seal) ∙ p) in
    ripe-is q d x n u.number u.life u.seal ∙ and-of (q.mine u.number) (q.ripe u.number u.life (seal_by d x n)) (a.mine u.number ∙ v.0) (h u.number u.life v.0 z.1 y.0)

-- the same of units whose tests were the same before, and which go on afterwards
pub ripened-all : (a b e f : Tests) (d : Domain) (x : ℕ) (o : Done) (us : List Token) → All (Same a b) us → ((u : Token) → Ripened b e d x o u) → Onward [] e f → All (Ripened a f d x o) us
ripened-all a b e f d x (NotYet n) us s r g i u m = tt
ripened-all a b e f d x (Passed n) us s r g i u m = λ w p.
    let t = get_or us i u in
    g (ripe_test d x n) t.number t.life t.seal refl (r t (s i u m 1 ∙ w) (s i u m (since_test d x) ∙ p))

-- the same of what was true before, of the same units
pub ripened-before : (a b e : Tests) (d : Domain) (x : ℕ) (o : Done) (us vs : List Token) → Onward [] a b → vs ≡ us → All (Ripened b e d x o) vs → All (Ripened a e d x o) us
ripened-before a b e d x (NotYet n) us vs g q r i u m = tt
ripened-before a b e d x (Passed n) us vs g q r i u m = λ w p.
    let F : List Token → Type 0 = λ z. All (Ripened b e d x (Passed n)) z in
    let t = get_or us i u in
    subst F q r i u m (g 1 t.number t.life t.seal refl w) (g (since_test d x) t.number t.life t.seal refl p)

-- a unit that may be used again or waits is mine, and has been since the stamp that was taken
either-mine : (r : Rights) (u : Token) → Either (tests_by r) u → r.mine u.number ≡ true
either-mine r u (inl h) = (and_parts (r.mine u.number) (r.settled u.number u.life u.seal) h).0
either-mine r u (inr h) = (and_parts (r.mine u.number) (r.due u.number u.life None && is_none u.seal) h).0

pub since-tests : (r q : Rights) (d : Domain) (x : ℕ) (u : Token) → Ages r q → MineSince d x r q → Either (tests_by r) u → Passes (tests_by q) (since_test d x) u
since-tests r q d x u a h e =
    let m : r.mine u.number ≡ true = either-mine r u e in
    since-is q d x u.number u.life u.seal ∙ and-of (q.mine u.number) (q.since d x u.number) (a.mine u.number ∙ m) (h u.number m)

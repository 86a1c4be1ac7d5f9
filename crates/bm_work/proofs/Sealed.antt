-- Units that were sealed.
use Rattle.std.proofs.Common.{eq-eqb, zero, suc, take, drop, ◌++◌, slice_set, ◌≡◌, ◌<◌, ◌&&◌, ℕ, true, List, [], ◌∷◌, map, length, Option, refl, sym, ◌∙◌, ap, subst, arith, inl, inr}
use Rattle.std.specs.Prelude.{get_or}
use Rattle.std.specs.List.{All}
use Rattle.std.proofs.lemmas.Bool.Decides.{eqb_tells}
use Rattle.std.proofs.lemmas.List.Elements.{All-cons, All-head, All-nil, All-tail}
use Rattle.std.proofs.Math.Path.{fun_ext}
use Rattle.bm_journal.specs.declared.counts.Counts.{Counts}
use Rattle.bm_journal.specs.declared.counts.Lengths.{Lengths}
use Rattle.bm_journal.specs.declared.ids.Domain.TheVariants.{Plain}
use Rattle.bm_grace.specs.Rights.{Rights, seal_by}
use Rattle.bm_page.specs.declared.units.Seal.{Seal}
use Rattle.bm_law.specs.Lengths.{lengths_in}
use Rattle.bm_law.specs.Lists.{Log}
use Rattle.bm_law.specs.Places.{Stack, list_at, Free, Extra, Extra_delayed, Delayed, First, Second}
use Rattle.bm_law.specs.Places.{Ready as ready_list}
use Rattle.bm_law.specs.Stands.{Once}
use Rattle.bm_law.specs.State.{Row, State, seen, seen_row, with_row}
use Rattle.bm_cache.proofs.Lent.{twice-row}
use Rattle.bm_law.proofs.Waiting.{agree-still}
use Rattle.bm_post.specs.Calls.{IsOf}
use Rattle.bm_post.specs.Rights.{MayLeave, WaitedBy}
use Rattle.bm_cache.specs.Each.{Numbered, Sits}
use Rattle.bm_cache.specs.Lent.{with_first}
use Rattle.bm_cache.specs.Placed.{PlacedAs}
use Rattle.bm_cache.specs.Tests.{Passes}
use Rattle.bm_cache.specs.Tokens.{Token, number_of}
use Rattle.bm_cache.specs.declared.caches.Caches.{Caches}
use Rattle.bm_cache.proofs.Each.{each-row}
use Rattle.bm_work.specs.DeskTests.{ripe_test, tests_by}
use Rattle.bm_work.specs.Periods.{sealed}
use Rattle.bm_work.proofs.Came.{split}
use Rattle.bm_work.proofs.Tests.{ripe-is}

-- only the seal of a unit changes
pub sealed-named : (x : Seal) (us : List Token) → map number_of (map (sealed x) us) ≡ map number_of us
sealed-named x [] = refl
sealed-named x (u ∷ us) = ap (λ ns. number_of u ∷ ns) (sealed-named x us)

pub sealed-length : (x : Seal) (us : List Token) → length (map (sealed x) us) ≡ length us
sealed-length x [] = refl
sealed-length x (u ∷ us) = omega (arith, sealed-length x us)

pub sealed-sit : (x : Seal) (i : ℕ) (us : List Token) → All (Sits i) us → All (Sits i) (map (sealed x) us)
sealed-sit x i [] h = All-nil (Sits i)
sealed-sit x i (u ∷ us) h = let p = All-head (Sits i) u us h in All-cons (Sits i) (sealed x u) (map (sealed x) us) (record { class = p.class; numbered = record { number = p.numbered.number; life = p.numbered.life } }) (sealed-sit x i us (All-tail (Sits i) u us h))

-- units that are ripe by a stamp and a number, once they are sealed with both
pub sealed-mine : (r : Rights) (x : Seal) (us : List Token) → All (Passes (tests_by r) (ripe_test Plain x.stamp x.seen)) us → All (λ (u : Token). r.mine u.number ≡ true) (map (sealed x) us)
sealed-mine r x [] h = All-nil (λ (u : Token). r.mine u.number ≡ true)
sealed-mine r x (u ∷ us) h =
    let P : Token → Type 0 = Passes (tests_by r) (ripe_test Plain x.stamp x.seen) in
    let p : (r.mine u.number && r.ripe u.number u.life (seal_by Plain x.stamp x.seen)) ≡ true = sym (ripe-is r Plain x.stamp x.seen u.number u.life u.seal) ∙ All-head P u us h in
    All-cons (λ (u : Token). r.mine u.number ≡ true) (sealed x u) (map (sealed x) us) (split (r.mine u.number) (r.ripe u.number u.life (seal_by Plain x.stamp x.seen)) p).0 (sealed-mine r x us (All-tail P u us h))

pub sealed-leave : (r : Rights) (x : Seal) (us : List Token) → All (Passes (tests_by r) (ripe_test Plain x.stamp x.seen)) us → All (MayLeave r) (map (sealed x) us)
sealed-leave r x [] h = All-nil (MayLeave r)
sealed-leave r x (u ∷ us) h =
    let P : Token → Type 0 = Passes (tests_by r) (ripe_test Plain x.stamp x.seen) in
    let p : (r.mine u.number && r.ripe u.number u.life (seal_by Plain x.stamp x.seen)) ≡ true = sym (ripe-is r Plain x.stamp x.seen u.number u.life u.seal) ∙ All-head P u us h in
    All-cons (MayLeave r) (sealed x u) (map (sealed x) us) (inr (split (r.mine u.number) (r.ripe u.number u.life (seal_by Plain x.stamp x.seen)) p).1) (sealed-leave r x us (All-tail P u us h))

-- .. have waited for that period
pub sealed-waited : (r : Rights) (x : Seal) (us : List Token) → All (Passes (tests_by r) (ripe_test Plain x.stamp x.seen)) us → All (WaitedBy r x) (map (sealed x) us)
sealed-waited r x [] h = All-nil (WaitedBy r x)
sealed-waited r x (u ∷ us) h =
    let P : Token → Type 0 = Passes (tests_by r) (ripe_test Plain x.stamp x.seen) in
    let p : (r.mine u.number && r.ripe u.number u.life (seal_by Plain x.stamp x.seen)) ≡ true = sym (ripe-is r Plain x.stamp x.seen u.number u.life u.seal) ∙ All-head P u us h in
    All-cons (WaitedBy r x) (sealed x u) (map (sealed x) us) (record { sealed = refl; ripe = (split (r.mine u.number) (r.ripe u.number u.life (seal_by Plain x.stamp x.seen)) p).1 }) (sealed-waited r x us (All-tail P u us h))

pub sits-class : (i : ℕ) (us : List Token) → All (Sits i) us → All (IsOf i) us
sits-class i us h j u n = (h j u n).class

-- First holds units of the same numbers, which sit as well
module _ {R : Type 0} (log : R → Option Log) (counts : R → Counts) (c : Caches R) (i : ℕ) (us : List Token) (s : State Token) (q : map number_of us ≡ map number_of (s.rows i).deferred.first) (n : length us ≡ length (s.rows i).deferred.first) where
  new-row : Row Token
  new-row = record (s.rows i) { deferred = record (s.rows i).deferred { first = us } }

  row-seen : (let r : Row Token = record (s.rows i) { deferred = record (s.rows i).deferred { first = us } } in seen_row number_of r) ≡ seen_row number_of (s.rows i)
  row-seen = ap (λ (xs : List ℕ). let r : Row ℕ = record (seen_row number_of (s.rows i)) { deferred = record (seen_row number_of (s.rows i)).deferred { first = xs } } in r) q

  seen-first : seen number_of (with_first i us s) ≡ seen number_of s
  seen-first =
      let rows : ◌≡◌ {A = ℕ → Row ℕ} (seen number_of (with_first i us s)).rows (seen number_of s).rows =
      fun_ext (λ k. elim (eqb_tells k i) [
        | inl y ↦ rw (y.0, y.1) row-seen
        | inr y ↦ rw y.0 refl
      ]) in
      ap (λ (x : ℕ → Row ℕ). let t : State ℕ = record { rows = x; sides = (seen number_of s).sides } in t) rows

  lists-sit : All (Sits i) us → PlacedAs log counts c s → (k : Stack) → All (Sits i) (list_at k (let r : Row Token = record (s.rows i) { deferred = record (s.rows i).deferred { first = us } } in r))
  lists-sit a p Free = p.classed.lists i Free
  lists-sit a p Extra = p.classed.lists i Extra
  lists-sit a p Extra_delayed = p.classed.lists i Extra_delayed
  lists-sit a p Delayed = p.classed.lists i Delayed
  lists-sit a p First = a
  lists-sit a p ready_list = p.classed.lists i ready_list
  lists-sit a p Second = p.classed.lists i Second

  lengths-same : (k : ℕ) → lengths_in ((with_first i us s).rows k) ≡ lengths_in (s.rows k)
  lengths-same k =
      elim (eqb_tells k i) [
        | inl y ↦ rw (y.0, y.1) (ap (λ (x : ℕ). let r : Lengths = record (lengths_in (s.rows i)) { first = x } in r) n)
        | inr y ↦ rw y.0 refl
      ]

  pub placed-sealed : All (Sits i) us → PlacedAs log counts c s → PlacedAs log counts c (with_first i us s)
  placed-sealed a p =
      let O : State ℕ → Type 0 = λ z. Once z in
      record {
        once = subst O (sym seen-first) p.once;
        classed = each-row (λ d k u. Sits d u) Numbered i _ s (lists-sit a p) p.classed;
        agree = agree-still i _ s refl refl refl p.agree;
        tells = record { classes = p.tells.classes; hands = p.tells.hands; lists = λ k h. p.tells.lists k h ∙ sym (lengths-same k); hand = p.tells.hand };
        told = rw seen-first p.told;
        number = p.number;
      }

-- one unit more is sealed
pub there-still : (x : Seal) (us : List Token) (i : ℕ) (d : Token) → i < length us → get_or (map (sealed x) (take i us) ++ drop i us) i d ≡ get_or us i d
there-still x [] i d h = absurd (omega (arith, h))
there-still x (u ∷ us) zero d h = refl
there-still x (u ∷ us) (suc i) d h = there-still x us i d (omega (arith, h))

pub seal-step : (x : Seal) (us : List Token) (i : ℕ) (v d : Token) → i < length us → v ≡ sealed x (get_or us i d) → slice_set (map (sealed x) (take i us) ++ drop i us) i v ≡ map (sealed x) (take (suc i) us) ++ drop (suc i) us
seal-step x [] i v d h e = absurd (omega (arith, h))
seal-step x (u ∷ us) zero v d h e = ap (λ z. z ∷ us) e
seal-step x (u ∷ us) (suc i) v d h e = ap (λ z. sealed x u ∷ z) (seal-step x us i v d (omega (arith, h)) e)

pub mixed-length : (x : Seal) (us : List Token) (i : ℕ) → length (map (sealed x) (take i us) ++ drop i us) ≡ length us
mixed-length x [] zero = refl
mixed-length x [] (suc i) = refl
mixed-length x (u ∷ us) zero = refl
mixed-length x (u ∷ us) (suc i) = omega (arith, mixed-length x us i)

-- First is lent, whatever stood there
pub twice-first : (i : ℕ) (us : List Token) (s : State Token) → with_first i [] (with_first i us s) ≡ with_first i [] s
twice-first i us s =
    let f : Row Token → Row Token = λ r. record r { deferred = record r.deferred { first = [] } } in
    let r : Row Token = record (s.rows i) { deferred = record (s.rows i).deferred { first = us } } in
    let e : (with_first i us s).rows i ≡ r = rw (eq-eqb i i refl) refl in
    ap (λ x. with_row i (f x) (with_first i us s)) e ∙ twice-row i (f r) r s

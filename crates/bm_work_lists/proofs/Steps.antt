-- What single steps of deferred work leave.
use Rattle.std.proofs.Common.{◌≡◌, ◌<◌, ◌≤◌, ℕ, ◌+◌, ◌++◌, List, [], ◌∷◌, length, Option, refl, sym, ◌∙◌, ap, subst, arith, eq-eqb}
use Rattle.std.specs.List.{All}
use Rattle.std.proofs.lemmas.List.Elements.{All-head, All-tail}
use Rattle.bm_journal.specs.declared.entry.Entry.TheVariants as entry
use Rattle.bm_law.specs.declared.mark.Mark.TheVariants as mark
use Rattle.bm_law.specs.State.{Row, Side, State, seven_lists}
use Rattle.std.proofs.lemmas.List.{length-append}
use Rattle.bm_law.specs.Effect.{effect}
use Rattle.bm_cache.specs.Tokens.{Token}
use Rattle.bm_cache.specs.Tests.{Tests, Passes, Same}
use Rattle.bm_cache.specs.Span.{Face, Unbroken}
use Rattle.bm_cache.specs.declared.caches.Caches.{Caches}
use Rattle.bm_law.specs.Lists.{Log}
use Rattle.bm_law.specs.Alone.{Alone}
use Rattle.bm_law.proofs.Alone.{Alone-none}

-- the hand after a push, where others stay, and after a pop, behind what was there
pub pushed-more : (c l n : ℕ) (s : State Token) (u : Token) (rest : List Token) → (s.sides l).hand ≡ u ∷ rest → (effect l (entry.Push c n) [] s).sides l ≡ record { hand = rest; mark = mark.Gave c }
pushed-more c l n s u rest h = rw (eq-eqb l l refl, h) refl

pub popped-more : (c l n : ℕ) (s : State Token) (u : Token) (rest : List Token) → (s.rows c).free ≡ u ∷ rest → (effect l (entry.Pop c n) [] s).sides l ≡ record { hand = (s.sides l).hand ++ u ∷ []; mark = mark.Took c }
popped-more c l n s u rest f = rw (eq-eqb l l refl, f) refl

-- the first of a list
same-rest : (u v : Token) (rest rest' : List Token) → u ∷ rest ≡ v ∷ rest' → rest ≡ rest'
same-rest u v rest rest' q = cc

pub one-rest : (us : List Token) (u v : Token) (rest rest' : List Token) → us ≡ u ∷ rest → us ≡ v ∷ rest' → rest ≡ rest'
one-rest us u v rest rest' p q = same-rest u v rest rest' (sym p ∙ q)

pub first-lasts : (a b : Tests) (k : ℕ) (u : Token) (us rest : List Token) → us ≡ u ∷ rest → All (Same a b) us → Passes a k u → Passes b k u
first-lasts a b k u us rest e h p = All-head (Same a b) u rest (let F : List Token → Type 0 = λ z. All (Same a b) z in subst F e h) k ∙ p

pub rest-lasts : (a b : Tests) (u : Token) (us rest : List Token) → us ≡ u ∷ rest → All (Same a b) us → All (Same a b) rest
rest-lasts a b u us rest e h = All-tail (Same a b) u rest (let F : List Token → Type 0 = λ z. All (Same a b) z in subst F e h)

-- tests over two stretches
pub same-join : (a b d : Tests) (us : List Token) → All (Same a b) us → All (Same b d) us → All (Same a d) us
same-join a b d us h k i e n j = k i e n j ∙ h i e n j

-- a point alone
pub unbroken-point : {H R : Type 0} (F : H → Face) (P : H → ℕ) (D : H → Caches R) (log : R → Option Log) (x y y' : H) → (P y ≡ P x → y ≡ x) → D y' ≡ D y → P y' ≡ P y → Unbroken F P D log x y'
unbroken-point {H} {R} F P D log x y y' q i n = record {
  alone = λ h.
      let s : y ≡ x = q (sym n ∙ h) in
      let A : Caches R → Type 0 = λ c. Alone (F x).level (log (D x).recorder) (log c.recorder) in
      subst A (sym (i ∙ ap D s)) (Alone-none (F x).level (log (D x).recorder));
}

-- a hand has room while Free holds a unit
pub hand-room : (s : State Token) (c l : ℕ) (u : Token) (rest : List Token) → (s.rows c).free ≡ u ∷ rest → length (seven_lists (s.rows c)) + length (s.sides l).hand ≤ 65536 → length (s.sides l).hand < 65536
hand-room s c l u rest f h =
    let r : Row Token = s.rows c in
    let more : List Token = r.extra ++ (r.delayed ++ (r.extra_delayed ++ (r.deferred.first ++ (r.deferred.ready ++ r.deferred.second)))) in
    let n : length (seven_lists r) ≡ length r.free + length more = length-append r.free more in
    omega (arith, h, n, ap (λ (us : List Token). length us) f)

-- a hand by its parts
pub side-of : (s : Side Token) (h : List Token) → s.hand ≡ h → s.mark ≡ mark.Quiet → s ≡ record { hand = h; mark = mark.Quiet }
side-of s h p q = ap (λ (z : List Token). let r : Side Token = record { hand = z; mark = s.mark } in r) p ∙ ap (λ m. let r : Side Token = record { hand = h; mark = m } in r) q

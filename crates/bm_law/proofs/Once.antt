-- What follows where no unit stands twice.
use Rattle.std.proofs.Common.{map, subst, ◌≡◌, ◌<◌, ◌≤◌, ℕ, ◌+◌, List, [], ◌∷◌, ◌++◌, length, refl, ◌∙◌, ap, arith, sym}
use Rattle.std.proofs.lemmas.List.{length-append, length-map}
use Rattle.bm_journal.specs.declared.entry.Entry.{Entry}
use Rattle.bm_journal.specs.declared.entry.Entry.TheVariants as entry
use Rattle.bm_law.specs.State.{seen, State, opening, seven_lists, seen_row}
use Rattle.bm_law.specs.Effect.{effect}
use Rattle.bm_law.proofs.Seen.{seen-effect, map-seven}
use Rattle.bm_law.specs.Stands.{AllUnder, times, in_row, stands, Once, Known, comes_in, goes_out}
use Rattle.bm_law.proofs.Stands.{length-once, times-append, once-with-hand, stands-effect, times-seven}

less : (x y o i : ℕ) → x + o ≡ y + i → y + i ≤ 1 → x ≤ 1
less x y o i p q = omega (arith, p, q)

less-none : (x y o : ℕ) → x + o ≡ y + 0 → y ≤ 1 → x ≤ 1
less-none x y o p q = omega (arith, p, q)

-- an entry leaves each unit in one place, where what comes in stands nowhere yet
pub once-effect : (l : ℕ) (e : Entry) (us : List ℕ) (s : State ℕ) → Known l e → ((n : ℕ) → stands n s + times n (comes_in e us) ≤ 1) → Once (effect l e us s)
once-effect l e us s k h n = less _ _ _ _ (stands-effect n l e us s k) (h n)

fresh : (x y o : ℕ) → x + o ≡ y + 0 → y ≤ 1 → 1 ≤ o → x ≡ 0
fresh x y o p q h = omega (arith, p, q, h)

-- a unit that goes out stands nowhere any more
pub gone-fresh : (u l : ℕ) (e : Entry) (us : List ℕ) (s : State ℕ) → Known l e → comes_in e us ≡ [] → Once s → 1 ≤ times u (goes_out l e s) → stands u (effect l e us s) ≡ 0
gone-fresh u l e us s k q o h = fresh _ _ _ (stands-effect u l e us s k ∙ ap (λ x. stands u s + times u x) q) (o u) h

AllUnder-append : (N : ℕ) (xs ys : List ℕ) → AllUnder N xs → AllUnder N ys → AllUnder N (xs ++ ys)
AllUnder-append N [] ys h k = k
AllUnder-append N (x ∷ xs) ys h k = (h.0, AllUnder-append N xs ys h.1 k)

within : (a b x y : ℕ) → a ≤ x → x + b ≤ 1 → a + b ≤ 1
within a b x y p q = omega (arith, p, q)

-- The pigeonhole: where unit numbers are below N, a list of a class and a hand together have at most N units. So while
-- the hand has one, the list has room for one more.
pub room : (N : ℕ) (s : State ℕ) (c l : ℕ) (xs : List ℕ) → c < 11 → l < 4 → Once s → ((n : ℕ) → times n xs ≤ in_row n (s.rows c)) → AllUnder N xs → AllUnder N (s.sides l).hand → length xs + length (s.sides l).hand ≤ N
room N s c l xs h k o part a b =
    let t : (n : ℕ) → times n (xs ++ (s.sides l).hand) ≤ 1 =
    λ n. rw (times-append n xs (s.sides l).hand) (within _ _ _ 0 (part n) (once-with-hand s c l n h k o)) in
    rw (← length-append xs (s.sides l).hand) (length-once N (xs ++ (s.sides l).hand) (AllUnder-append N xs (s.sides l).hand a b) t)

-- nothing stands anywhere before the opening
pub stands-opening : (n p : ℕ) → stands n (opening p) ≡ 0
unfolding stands
stands-opening n p = refl

pub once-opening : (p : ℕ) → Once (opening p)
once-opening p n = rw (stands-opening n p) (omega arith)

-- one step of caches whose units are seen through f, where one unit comes in that stands nowhere
pub once-come : {A : Type 0} (f : A → ℕ) (s t : State A) (l : ℕ) (e : Entry) (us : List A) → t ≡ effect l e us s → Known l e → ((n : ℕ) → stands n (seen f s) + times n (comes_in e (map f us)) ≤ 1) → Once (seen f t)
once-come f s t l e us q k h = subst Once (sym (ap (seen f) q ∙ seen-effect f l e us s)) (once-effect l e (map f us) (seen f s) k h)

under-map : {A : Type 0} (N : ℕ) (f : A → ℕ) → ((u : A) → f u < N) → (xs : List A) → AllUnder N (map f xs)
under-map N f h [] = tt
under-map N f h (x ∷ xs) = (h x, under-map N f h xs)

at-most : (a b : ℕ) → a ≡ b → a ≤ b
at-most a b e = omega (arith, e)

same-sum : (a b x y N : ℕ) → a ≡ x → b ≡ y → a + b ≤ N → x + y ≤ N
same-sum a b x y N p q h = omega (arith, p, q, h)

-- The pigeonhole for units seen through f, by numbers below N: all lists of a class and a hand together have at most N.
pub room-seen : {A : Type 0} (N : ℕ) (f : A → ℕ) → ((u : A) → f u < N) → (s : State A) (c l : ℕ) → c < 11 → l < 4 → Once (seen f s) → length (seven_lists (s.rows c)) + length (s.sides l).hand ≤ N
room-seen N f b s c l h k o =
    let xs : List ℕ = seven_lists (seen_row f (s.rows c)) in
    let e : map f (seven_lists (s.rows c)) ≡ xs = map-seven f (s.rows c) in
    let a : AllUnder N xs = subst (AllUnder N) e (under-map N f b (seven_lists (s.rows c))) in
    let r : length xs + length (map f (s.sides l).hand) ≤ N =
    room N (seen f s) c l xs h k o (λ n. at-most _ _ (times-seven n (seen_row f (s.rows c)))) a (under-map N f b (s.sides l).hand) in
    same-sum _ _ _ _ N (sym (ap length e) ∙ length-map (seven_lists (s.rows c)) f) (length-map (s.sides l).hand f) r

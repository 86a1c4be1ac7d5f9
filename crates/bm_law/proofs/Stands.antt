-- Sums, and how often a unit stands after an entry.
use Rattle.std.proofs.Common.{◌≡◌, ◌≢◌, ◌<◌, ◌≤◌, ℕ, zero, suc, ◌+◌, ◌++◌, List, [], ◌∷◌, length, take, drop, reverse, refl, sym, ◌∙◌, ap, arith, eqb, cond, eq-eqb, ne_eqb, inl, inr}
use Rattle.std.proofs.lemmas.List.{reverse-append}
use Rattle.std.proofs.lemmas.Bool.Decides.{eqb_tells}
use Rattle.bm_journal.specs.declared.ids.Domain.{Domain}
use Rattle.bm_journal.specs.declared.ids.Domain.TheVariants.{Plain, Tracing}
use Rattle.bm_journal.specs.declared.entry.Entry.{Entry}
use Rattle.bm_journal.specs.declared.entry.Entry.TheVariants as entry
use Rattle.bm_law.specs.State.{Row, Side, State, with_row, with_side, seven_lists}
use Rattle.bm_law.specs.Effect.{effect, sent, stamped}
use Rattle.bm_law.specs.Lists.{sends}
use Rattle.bm_law.specs.Stands.{AllUnder, sum_to, times, in_row, stands, Once, Known, comes_in, goes_out}

pub sum-same : (N : ℕ) (f g : ℕ → ℕ) → ((k : ℕ) → k < N → g k ≡ f k) → sum_to N g ≡ sum_to N f
sum-same zero f g h = refl
sum-same (suc N) f g h = omega (arith, h N (omega arith), sum-same N f g (λ k m. h k (omega (arith, m))))

-- one term changes
pub sum-update : (N i : ℕ) (f g : ℕ → ℕ) → i < N → ((k : ℕ) → k ≢ i → g k ≡ f k) → sum_to N g + f i ≡ sum_to N f + g i
sum-update zero i f g h e = absurd (omega (arith, h))
sum-update (suc N) i f g h e =
    elim (eqb_tells i N) [
      | inl y ↦ let r : sum_to N g ≡ sum_to N f = sum-same N f g (λ k m. e k (λ q. omega (arith, q, m, y.1))) in
          rw y.1 (omega (arith, r))
      | inr y ↦ let n : N ≢ i = λ q. y.1 (sym q) in
          let d : i ≢ N = y.1 in
          omega (arith, e N n, sum-update N i f g (omega (arith, h, d)) e)
    ]

pub sum-term : (N i : ℕ) (f : ℕ → ℕ) → i < N → f i ≤ sum_to N f
sum-term zero i f h = absurd (omega (arith, h))
sum-term (suc N) i f h =
    elim (eqb_tells i N) [
      | inl y ↦ rw y.1 (omega arith)
      | inr y ↦ let d : i ≢ N = y.1 in omega (arith, sum-term N i f (omega (arith, h, d)))
    ]

pub sum-add : (N : ℕ) (f g : ℕ → ℕ) → sum_to N (λ k. f k + g k) ≡ sum_to N f + sum_to N g
sum-add zero f g = refl
sum-add (suc N) f g = omega (arith, sum-add N f g)

pub sum-ones : (N : ℕ) (f : ℕ → ℕ) → ((k : ℕ) → f k ≤ 1) → sum_to N f ≤ N
sum-ones zero f h = omega arith
sum-ones (suc N) f h = omega (arith, h N, sum-ones N f h)

pub sum-zero : (N : ℕ) → sum_to N (λ _. 0) ≡ 0
sum-zero zero = refl
sum-zero (suc N) = omega (arith, sum-zero N)

add-none : (a b : ℕ) → a ≡ 0 → b ≡ 0 → a + b ≡ 0
add-none a b p q = omega (arith, p, q)

one-none : (a b : ℕ) → a ≡ 1 → b ≡ 0 → a + b ≡ 1
one-none a b p q = omega (arith, p, q)

none-one : (a b : ℕ) → a ≡ 0 → b ≡ 1 → a + b ≡ 1
none-one a b p q = omega (arith, p, q)

sum-none : (N x : ℕ) → N ≤ x → sum_to N (λ k. cond (eqb k x) 1 0) ≡ 0
sum-none zero x h = refl
sum-none (suc N) x h =
    let n : N ≤ x = omega (arith, h) in
    let d : N ≢ x = λ q. omega (arith, q, h) in
    let e : cond (eqb N x) 1 0 ≡ 0 = rw (ne_eqb N x d) refl in
    add-none _ _ e (sum-none N x n)

sum-one : (N x : ℕ) → x < N → sum_to N (λ k. cond (eqb k x) 1 0) ≡ 1
sum-one zero x h = absurd (omega (arith, h))
sum-one (suc N) x h =
    elim (eqb_tells N x) [
      | inl y ↦ let n : N ≤ x = omega (arith, y.1) in
          let e : cond (eqb N x) 1 0 ≡ 1 = rw y.0 refl in one-none _ _ e (sum-none N x n)
      | inr y ↦ let d : N ≢ x = y.1 in
          let n : x < N = omega (arith, h, d) in
          let e : cond (eqb N x) 1 0 ≡ 0 = rw y.0 refl in none-one _ _ e (sum-one N x n)
    ]

length-times : (N : ℕ) (xs : List ℕ) → AllUnder N xs → length xs ≡ sum_to N (λ n. times n xs)
length-times N [] h = sym (sum-zero N)
length-times N (x ∷ xs) h =
    omega (arith, sum-add N (λ n. cond (eqb n x) 1 0) (λ n. times n xs), sum-one N x h.0, length-times N xs h.1)

-- of numbers below N that stand at most once each there are at most N
pub length-once : (N : ℕ) (xs : List ℕ) → AllUnder N xs → ((n : ℕ) → times n xs ≤ 1) → length xs ≤ N
length-once N xs h t = omega (arith, length-times N xs h, sum-ones N (λ n. times n xs) t)

pub times-append : (n : ℕ) (xs ys : List ℕ) → times n (xs ++ ys) ≡ times n xs + times n ys
times-append n [] ys = omega arith
times-append n (x ∷ xs) ys = omega (arith, times-append n xs ys)

pub times-take-drop : (n : ℕ) (xs : List ℕ) → times n (take 1 xs) + times n (drop 1 xs) ≡ times n xs
times-take-drop n [] = refl
times-take-drop n (x ∷ xs) = omega arith

pub times-reverse : (n : ℕ) (xs : List ℕ) → times n (reverse xs) ≡ times n xs
times-reverse n [] = refl
times-reverse n (x ∷ xs) =
    let a : times n (reverse (x ∷ xs)) ≡ times n (reverse xs ++ x ∷ []) = ap (times n) (reverse-append (x ∷ []) xs) in
    omega (arith, a, times-append n (reverse xs) (x ∷ []), times-reverse n xs)

pub times-seven : (n : ℕ) (r : Row ℕ) → times n (seven_lists r) ≡ in_row n r
times-seven n r =
    times-append n r.free _ ∙ ap (λ x. times n r.free + x)
    (times-append n r.extra _ ∙ ap (λ x. times n r.extra + x)
    (times-append n r.delayed _ ∙ ap (λ x. times n r.delayed + x)
    (times-append n r.extra_delayed _ ∙ ap (λ x. times n r.extra_delayed + x)
    (times-append n r.deferred.first _ ∙ ap (λ x. times n r.deferred.first + x)
    (times-append n r.deferred.ready r.deferred.second)))))

swap : (a r x b y : ℕ) → a + x ≡ b + y → a + r + x ≡ b + r + y
swap a r x b y e = omega (arith, e)

swap' : (r a x b y : ℕ) → a + x ≡ b + y → r + a + x ≡ r + b + y
swap' r a x b y e = omega (arith, e)

-- one cache changes, one hand, or both
pub stands-row : (n c : ℕ) (r : Row ℕ) (s : State ℕ) → c < 11 → stands n (with_row c r s) + in_row n (s.rows c) ≡ stands n s + in_row n r
unfolding stands
stands-row n c r s h =
    let g : ℕ → ℕ = λ k. in_row n (s.rows k) in
    let g' : ℕ → ℕ = λ k. in_row n (cond (eqb k c) r (s.rows k)) in
    let e : (k : ℕ) → k ≢ c → g' k ≡ g k = λ k d. rw (ne_eqb k c d) refl in
    let here : g' c ≡ in_row n r = rw (eq-eqb c c refl) refl in
    let u : sum_to 11 g' + g c ≡ sum_to 11 g + g' c = sum-update 11 c g g' h e in
    let rest : ℕ = sum_to 4 (λ l. times n (s.sides l).hand) in
    swap (sum_to 11 g') rest (g c) (sum_to 11 g) (in_row n r) (u ∙ ap (λ x. sum_to 11 g + x) here)

pub stands-side : (n l : ℕ) (h : Side ℕ) (s : State ℕ) → l < 4 → stands n (with_side l h s) + times n (s.sides l).hand ≡ stands n s + times n h.hand
unfolding stands
stands-side n l h s m =
    let g : ℕ → ℕ = λ k. times n (s.sides k).hand in
    let g' : ℕ → ℕ = λ k. times n (cond (eqb k l) h (s.sides k)).hand in
    let e : (k : ℕ) → k ≢ l → g' k ≡ g k = λ k d. rw (ne_eqb k l d) refl in
    let here : g' l ≡ times n h.hand = rw (eq-eqb l l refl) refl in
    let u : sum_to 4 g' + g l ≡ sum_to 4 g + g' l = sum-update 4 l g g' m e in
    let rest : ℕ = sum_to 11 (λ c. in_row n (s.rows c)) in
    swap' rest (sum_to 4 g') (g l) (sum_to 4 g) (times n h.hand) (u ∙ ap (λ x. sum_to 4 g + x) here)

join : (x y z a b a' b' : ℕ) → x + a ≡ y + a' → y + b ≡ z + b' → x + a + b ≡ z + a' + b'
join x y z a b a' b' p q = omega (arith, p, q)

pub stands-both : (n c l : ℕ) (r : Row ℕ) (h : Side ℕ) (s : State ℕ) → c < 11 → l < 4 → stands n (with_row c r (with_side l h s)) + in_row n (s.rows c) + times n (s.sides l).hand ≡ stands n s + in_row n r + times n h.hand
stands-both n c l r h s k m = join _ _ _ _ _ _ _ (stands-row n c r (with_side l h s) k) (stands-side n l h s m)

bound : (a b x y : ℕ) → a ≤ x → b ≤ y → x + y ≤ 1 → a + b ≤ 1
bound a b x y h k o = omega (arith, h, k, o)

-- the lists of a class and a hand together name no unit twice
pub once-with-hand : (s : State ℕ) (c l n : ℕ) → c < 11 → l < 4 → Once s → in_row n (s.rows c) + times n (s.sides l).hand ≤ 1
unfolding stands
once-with-hand s c l n h k o =
    bound _ _ _ _ (sum-term 11 c (λ c. in_row n (s.rows c)) h) (sum-term 4 l (λ l. times n (s.sides l).hand) k) (o n)

-- what goes out and what comes in
both-balance : (x y a b a' b' o i : ℕ) → x + a + b ≡ y + a' + b' → a' + b' + o ≡ a + b + i → x + o ≡ y + i
both-balance x y a b a' b' o i p q = omega (arith, p, q)

one-balance : (x y a a' o i : ℕ) → x + a ≡ y + a' → a' + o ≡ a + i → x + o ≡ y + i
one-balance x y a a' o i p q = omega (arith, p, q)

both : (n c l o i : ℕ) (r : Row ℕ) (h : Side ℕ) (s : State ℕ) → c < 11 → l < 4 → in_row n r + times n h.hand + o ≡ in_row n (s.rows c) + times n (s.sides l).hand + i → stands n (with_row c r (with_side l h s)) + o ≡ stands n s + i
both n c l o i r h s k m e = both-balance _ _ _ _ _ _ _ _ (stands-both n c l r h s k m) e

row : (n c o i : ℕ) (r : Row ℕ) (s : State ℕ) → c < 11 → in_row n r + o ≡ in_row n (s.rows c) + i → stands n (with_row c r s) + o ≡ stands n s + i
row n c o i r s k e = one-balance _ _ _ _ _ _ (stands-row n c r s k) e

side : (n l o i : ℕ) (h : Side ℕ) (s : State ℕ) → l < 4 → times n h.hand + o ≡ times n (s.sides l).hand + i → stands n (with_side l h s) + o ≡ stands n s + i
side n l o i h s m e = one-balance _ _ _ _ _ _ (stands-side n l h s m) e

stands-sent : (n c l : ℕ) (hand : List ℕ) (s : State ℕ) → c < 11 → l < 4 → (s.sides l).hand ≡ hand → stands n (sent c l hand s) + times n (sends hand (s.rows c).deferred.first) ≡ stands n s + 0
stands-sent n c l [] s k m e = row n c _ _ _ s k (omega arith)
stands-sent n c l (u ∷ us) s k m e = side n l _ _ _ s m (rw e (omega arith))

stands-stamped : (n c : ℕ) (d : Domain) (x : ℕ) (s : State ℕ) → c < 11 → stands n (with_row c (let r : Row ℕ = record (s.rows c) { deferred = stamped d x (s.rows c).deferred } in r) s) + 0 ≡ stands n s + 0
stands-stamped n c Plain x s k = row n c _ _ _ s k refl
stands-stamped n c Tracing x s k = row n c _ _ _ s k refl

-- The count of units: what stood there or came in stands there afterwards or has gone out.
pub stands-effect : (n l : ℕ) (e : Entry) (us : List ℕ) (s : State ℕ) → Known l e → stands n (effect l e us s) + times n (goes_out l e s) ≡ stands n s + times n (comes_in e us)
stands-effect n l (entry.Fill c ns) us s k =
    row n c _ _ _ s k.class (omega (arith, times-append n (reverse us) (s.rows c).free, times-reverse n us))
stands-effect n l (entry.Free u home) us s k = side n l _ _ _ s k.level (omega (arith, times-append n (s.sides l).hand us))
stands-effect n l (entry.Delay u home) us s k = side n l _ _ _ s k.level (omega (arith, times-append n (s.sides l).hand us))
stands-effect n l (entry.Enter c a) us s k = both n c l _ _ _ _ s k.class k.level refl
stands-effect n l (entry.Leave c a) us s k = row n c _ _ _ s k.class refl
stands-effect n l (entry.Pop c u) us s k =
    both n c l _ _ _ _ s k.class k.level (omega (arith, times-append n (s.sides l).hand (take 1 (s.rows c).free), times-take-drop n (s.rows c).free))
stands-effect n l (entry.Push c u) us s k =
    both n c l _ _ _ _ s k.class k.level (omega (arith, times-append n (take 1 (s.sides l).hand) (s.rows c).free, times-take-drop n (s.sides l).hand))
stands-effect n l (entry.Count c j) us s k = both n c l _ _ _ _ s k.class k.level refl
stands-effect n l (entry.Raise c) us s k = row n c _ _ _ s k.class refl
stands-effect n l (entry.Work c) us s k = row n c _ _ _ s k.class refl
stands-effect n l (entry.Delayed c u) us s k =
    both n c l _ _ _ _ s k.class k.level (omega (arith, times-append n (take 1 (s.sides l).hand) (s.rows c).delayed, times-take-drop n (s.sides l).hand))
stands-effect n l (entry.Look c j) us s k = side n l _ _ _ s k.level refl
stands-effect n l (entry.Put c u) us s k =
    both n c l _ _ _ _ s k.class k.level (omega (arith, times-append n (take 1 (s.sides l).hand) (s.rows c).extra, times-take-drop n (s.sides l).hand))
stands-effect n l (entry.Lost c) us s k = side n l _ _ _ s k.level refl
stands-effect n l (entry.LookDelayed c j) us s k = side n l _ _ _ s k.level refl
stands-effect n l (entry.PutDelayed c u) us s k =
    both n c l _ _ _ _ s k.class k.level (omega (arith, times-append n (take 1 (s.sides l).hand) (s.rows c).extra_delayed, times-take-drop n (s.sides l).hand))
stands-effect n l (entry.LostDelayed c) us s k = side n l _ _ _ s k.level refl
stands-effect n l (entry.Given u life) us s k = side n l _ _ _ s k.level (omega (arith, times-take-drop n (s.sides l).hand))
stands-effect n l (entry.GivenAfter u life stamp seen) us s k = side n l _ _ _ s k.level (omega (arith, times-take-drop n (s.sides l).hand))
stands-effect n l (entry.Receive c ns) us s k = row n c _ _ _ s k.class (omega (arith, times-append n us (s.rows c).deferred.ready))
stands-effect n l (entry.Ready c u) us s k =
    both n c l _ _ _ _ s k.class k.level (omega (arith, times-append n (s.sides l).hand (take 1 (s.rows c).deferred.ready), times-take-drop n (s.rows c).deferred.ready))
stands-effect n l (entry.Second c u) us s k =
    both n c l _ _ _ _ s k.class k.level (omega (arith, times-append n (s.sides l).hand (take 1 (s.rows c).deferred.second), times-take-drop n (s.rows c).deferred.second))
stands-effect n l (entry.Fetch c want ns) us s k = side n l _ _ _ s k.level (omega (arith, times-append n (s.sides l).hand us))
stands-effect n l (entry.TakeExtra c ns) us s k =
    both n c l _ _ _ _ s k.class k.level (omega (arith, times-append n (s.sides l).hand (s.rows c).extra))
stands-effect n l (entry.Send c p ns) us s k = stands-sent n c l (s.sides l).hand s k.class k.level refl
stands-effect n l (entry.TakeDelayed c ns) us s k =
    row n c _ _ _ s k.class (omega (arith, times-append n (reverse (s.rows c).extra_delayed) (s.rows c).delayed, times-reverse n (s.rows c).extra_delayed))
stands-effect n l (entry.Batch c ns) us s k = row n c _ _ _ s k.class (omega (arith, times-append n (s.rows c).delayed (s.rows c).deferred.first))
stands-effect n l (entry.Stamp c d x) us s k = stands-stamped n c d x s k.class
stands-effect n l (entry.BeginSecond c ns) us s k = row n c _ _ _ s k.class (omega (arith, times-append n (s.rows c).deferred.ready (s.rows c).deferred.second))
stands-effect n l (entry.Return c ns) us s k = row n c _ _ _ s k.class (omega arith)
stands-effect n l (entry.Sweep c ns) us s k =
    row n c _ _ _ s k.class (omega (arith, times-append n (seven_lists (s.rows c)) us, times-seven n (s.rows c)))
stands-effect n l _ us s k = refl

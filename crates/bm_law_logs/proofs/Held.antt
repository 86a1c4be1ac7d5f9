-- How often a unit stands in the lists of N classes and the hands of N levels, and what an entry does to that.
use Rattle.std.proofs.Common.{◌≡◌, ◌≢◌, ◌<◌, ◌≤◌, ℕ, ◌+◌, List, [], ◌∷◌, take, reverse, refl, sym, ◌∙◌, ap, arith, eqb, cond, eq-eqb, ne_eqb}
use Rattle.bm_journal.specs.declared.ids.Domain.{Domain}
use Rattle.bm_journal.specs.declared.ids.Domain.TheVariants.{Plain, Tracing}
use Rattle.bm_journal.specs.declared.entry.Entry.{Entry}
use Rattle.bm_journal.specs.declared.entry.Entry.TheVariants as entry
use Rattle.bm_law.specs.State.{Row, Side, State, opening, with_row, with_side, seven_lists}
use Rattle.bm_law.specs.Effect.{effect, sent, stamped}
use Rattle.bm_law.specs.Lists.{Log, sends}
use Rattle.bm_law.specs.Stands.{sum_to, times, in_row, class_named, comes_in, goes_out}
use Rattle.bm_law.specs.Worked.{Emptied}
use Rattle.bm_law.proofs.Stands.{sum-same, sum-update, sum-zero, times-append, times-reverse, times-seven, times-take-drop}

unfoldable pub held : ℕ → ℕ → State ℕ → ℕ
held N u s = sum_to N (λ c. in_row u (s.rows c)) + sum_to N (λ l. times u (s.sides l).hand)

-- ---- entries whose level and class are below N

pub record Within (N l : ℕ) (e : Entry) : Type 0 where
  pub level : l < N
  pub class : class_named e < N

abbrev pub AllWithin : ℕ → Log → Type 0
AllWithin N [] = Unit {0}
AllWithin N (e ∷ es) = Within N e.0 e.1 × AllWithin N es

-- a number that is above all of them
pub reach : Log → ℕ
reach [] = 0
reach (e ∷ es) = e.0 + class_named e.1 + 1 + reach es

pub within-reach : (N : ℕ) (log : Log) → reach log ≤ N → AllWithin N log
unfolding reach
within-reach N [] h = tt
within-reach N (e ∷ es) h = (record { level = omega (arith, h); class = omega (arith, h) }, within-reach N es (omega (arith, h)))

pub all-within : (log : Log) → AllWithin (reach log) log
all-within log = within-reach (reach log) log (omega arith)

-- ---- one cache changes, one hand, or both

swap : (a r x b y : ℕ) → a + x ≡ b + y → a + r + x ≡ b + r + y
swap a r x b y e = omega (arith, e)

swap' : (r a x b y : ℕ) → a + x ≡ b + y → r + a + x ≡ r + b + y
swap' r a x b y e = omega (arith, e)

held-row : (N u c : ℕ) (r : Row ℕ) (s : State ℕ) → c < N → held N u (with_row c r s) + in_row u (s.rows c) ≡ held N u s + in_row u r
unfolding held
held-row N u c r s h =
    let f : ℕ → ℕ = λ k. in_row u (s.rows k) in
    let g : ℕ → ℕ = λ k. in_row u (cond (eqb k c) r (s.rows k)) in
    let e : (k : ℕ) → k ≢ c → g k ≡ f k = λ k d. rw (ne_eqb k c d) refl in
    let here : g c ≡ in_row u r = rw (eq-eqb c c refl) refl in
    let rest : ℕ = sum_to N (λ l. times u (s.sides l).hand) in
    swap (sum_to N g) rest (f c) (sum_to N f) (in_row u r) (sum-update N c f g h e ∙ ap (λ x. sum_to N f + x) here)

held-side : (N u l : ℕ) (h : Side ℕ) (s : State ℕ) → l < N → held N u (with_side l h s) + times u (s.sides l).hand ≡ held N u s + times u h.hand
unfolding held
held-side N u l h s m =
    let f : ℕ → ℕ = λ k. times u (s.sides k).hand in
    let g : ℕ → ℕ = λ k. times u (cond (eqb k l) h (s.sides k)).hand in
    let e : (k : ℕ) → k ≢ l → g k ≡ f k = λ k d. rw (ne_eqb k l d) refl in
    let here : g l ≡ times u h.hand = rw (eq-eqb l l refl) refl in
    let rest : ℕ = sum_to N (λ c. in_row u (s.rows c)) in
    swap' rest (sum_to N g) (f l) (sum_to N f) (times u h.hand) (sum-update N l f g m e ∙ ap (λ x. sum_to N f + x) here)

-- what goes out and what comes in
one-balance : (x y a b o i : ℕ) → x + a ≡ y + b → b + o ≡ a + i → x + o ≡ y + i
one-balance x y a b o i p q = omega (arith, p, q)

both-balance : (x y z a b c d o i : ℕ) → x + a ≡ y + b → y + c ≡ z + d → b + d + o ≡ a + c + i → x + o ≡ z + i
both-balance x y z a b c d o i p q r = omega (arith, p, q, r)

row : (N u c o i : ℕ) (r : Row ℕ) (s : State ℕ) → c < N → in_row u r + o ≡ in_row u (s.rows c) + i → held N u (with_row c r s) + o ≡ held N u s + i
row N u c o i r s k e = one-balance _ _ _ _ o i (held-row N u c r s k) e

side : (N u l o i : ℕ) (h : Side ℕ) (s : State ℕ) → l < N → times u h.hand + o ≡ times u (s.sides l).hand + i → held N u (with_side l h s) + o ≡ held N u s + i
side N u l o i h s m e = one-balance _ _ _ _ o i (held-side N u l h s m) e

both : (N u c l o i : ℕ) (r : Row ℕ) (h : Side ℕ) (s : State ℕ) → c < N → l < N → in_row u r + times u h.hand + o ≡ in_row u (s.rows c) + times u (s.sides l).hand + i → held N u (with_row c r (with_side l h s)) + o ≡ held N u s + i
both N u c l o i r h s k m e = both-balance _ _ _ _ _ _ _ o i (held-row N u c r (with_side l h s) k) (held-side N u l h s m) e

held-sent : (N u c l : ℕ) (hand : List ℕ) (s : State ℕ) → c < N → l < N → (s.sides l).hand ≡ hand → held N u (sent c l hand s) + times u (sends hand (s.rows c).deferred.first) ≡ held N u s + 0
held-sent N u c l [] s k m e = row N u c _ _ _ s k (omega arith)
held-sent N u c l (v ∷ vs) s k m e = side N u l _ _ _ s m (rw e (omega arith))

held-stamped : (N u c : ℕ) (d : Domain) (x : ℕ) (s : State ℕ) → c < N → held N u (with_row c (let r : Row ℕ = record (s.rows c) { deferred = stamped d x (s.rows c).deferred } in r) s) + 0 ≡ held N u s + 0
held-stamped N u c Plain x s k = row N u c _ _ _ s k refl
held-stamped N u c Tracing x s k = row N u c _ _ _ s k refl

-- The count of a unit: where it stood or came in it stands after an entry, or has gone out.
pub held-effect : (N u l : ℕ) (e : Entry) (us : List ℕ) (s : State ℕ) → Within N l e → held N u (effect l e us s) + times u (goes_out l e s) ≡ held N u s + times u (comes_in e us)
held-effect N u l (entry.Fill c ns) us s k =
    row N u c _ _ _ s k.class (omega (arith, times-append u (reverse us) (s.rows c).free, times-reverse u us))
held-effect N u l (entry.Free v home) us s k = side N u l _ _ _ s k.level (omega (arith, times-append u (s.sides l).hand us))
held-effect N u l (entry.Delay v home) us s k = side N u l _ _ _ s k.level (omega (arith, times-append u (s.sides l).hand us))
held-effect N u l (entry.Enter c a) us s k = both N u c l _ _ _ _ s k.class k.level refl
held-effect N u l (entry.Leave c a) us s k = row N u c _ _ _ s k.class refl
held-effect N u l (entry.Pop c v) us s k =
    both N u c l _ _ _ _ s k.class k.level (omega (arith, times-append u (s.sides l).hand (take 1 (s.rows c).free), times-take-drop u (s.rows c).free))
held-effect N u l (entry.Push c v) us s k =
    both N u c l _ _ _ _ s k.class k.level (omega (arith, times-append u (take 1 (s.sides l).hand) (s.rows c).free, times-take-drop u (s.sides l).hand))
held-effect N u l (entry.Count c j) us s k = both N u c l _ _ _ _ s k.class k.level refl
held-effect N u l (entry.Raise c) us s k = row N u c _ _ _ s k.class refl
held-effect N u l (entry.Work c) us s k = row N u c _ _ _ s k.class refl
held-effect N u l (entry.Delayed c v) us s k =
    both N u c l _ _ _ _ s k.class k.level (omega (arith, times-append u (take 1 (s.sides l).hand) (s.rows c).delayed, times-take-drop u (s.sides l).hand))
held-effect N u l (entry.Look c j) us s k = side N u l _ _ _ s k.level refl
held-effect N u l (entry.Put c v) us s k =
    both N u c l _ _ _ _ s k.class k.level (omega (arith, times-append u (take 1 (s.sides l).hand) (s.rows c).extra, times-take-drop u (s.sides l).hand))
held-effect N u l (entry.Lost c) us s k = side N u l _ _ _ s k.level refl
held-effect N u l (entry.LookDelayed c j) us s k = side N u l _ _ _ s k.level refl
held-effect N u l (entry.PutDelayed c v) us s k =
    both N u c l _ _ _ _ s k.class k.level (omega (arith, times-append u (take 1 (s.sides l).hand) (s.rows c).extra_delayed, times-take-drop u (s.sides l).hand))
held-effect N u l (entry.LostDelayed c) us s k = side N u l _ _ _ s k.level refl
held-effect N u l (entry.Given v life) us s k = side N u l _ _ _ s k.level (omega (arith, times-take-drop u (s.sides l).hand))
held-effect N u l (entry.GivenAfter v life stamp seen) us s k = side N u l _ _ _ s k.level (omega (arith, times-take-drop u (s.sides l).hand))
held-effect N u l (entry.Receive c ns) us s k = row N u c _ _ _ s k.class (omega (arith, times-append u us (s.rows c).deferred.ready))
held-effect N u l (entry.Ready c v) us s k =
    both N u c l _ _ _ _ s k.class k.level (omega (arith, times-append u (s.sides l).hand (take 1 (s.rows c).deferred.ready), times-take-drop u (s.rows c).deferred.ready))
held-effect N u l (entry.Second c v) us s k =
    both N u c l _ _ _ _ s k.class k.level (omega (arith, times-append u (s.sides l).hand (take 1 (s.rows c).deferred.second), times-take-drop u (s.rows c).deferred.second))
held-effect N u l (entry.Fetch c want ns) us s k = side N u l _ _ _ s k.level (omega (arith, times-append u (s.sides l).hand us))
held-effect N u l (entry.TakeExtra c ns) us s k =
    both N u c l _ _ _ _ s k.class k.level (omega (arith, times-append u (s.sides l).hand (s.rows c).extra))
held-effect N u l (entry.Send c p ns) us s k = held-sent N u c l (s.sides l).hand s k.class k.level refl
held-effect N u l (entry.TakeDelayed c ns) us s k =
    row N u c _ _ _ s k.class (omega (arith, times-append u (reverse (s.rows c).extra_delayed) (s.rows c).delayed, times-reverse u (s.rows c).extra_delayed))
held-effect N u l (entry.Batch c ns) us s k = row N u c _ _ _ s k.class (omega (arith, times-append u (s.rows c).delayed (s.rows c).deferred.first))
held-effect N u l (entry.Stamp c d x) us s k = held-stamped N u c d x s k.class
held-effect N u l (entry.BeginSecond c ns) us s k = row N u c _ _ _ s k.class (omega (arith, times-append u (s.rows c).deferred.ready (s.rows c).deferred.second))
held-effect N u l (entry.Return c ns) us s k = row N u c _ _ _ s k.class (omega arith)
held-effect N u l (entry.Sweep c ns) us s k =
    row N u c _ _ _ s k.class (omega (arith, times-append u (seven_lists (s.rows c)) us, times-seven u (s.rows c)))
held-effect N u l _ us s k = refl

-- ---- before the opening, and where all is empty, nothing stands

none-and-none : (a b : ℕ) → a ≡ 0 → b ≡ 0 → a + b ≡ 0
none-and-none a b p q = omega (arith, p, q)

pub held-opening : (N u p : ℕ) → held N u (opening p) ≡ 0
unfolding held
held-opening N u p = none-and-none _ _ (sum-zero N) (sum-zero N)

pub held-emptied : (N u : ℕ) (s : State ℕ) → Emptied s → held N u s ≡ 0
unfolding held
held-emptied N u s h =
    let none : ℕ → ℕ = λ _. 0 in
    let f : ℕ → ℕ = λ c. in_row u (s.rows c) in
    let g : ℕ → ℕ = λ l. times u (s.sides l).hand in
    let rows : (k : ℕ) → f k ≡ 0 = λ k. sym (times-seven u (s.rows k)) ∙ ap (times u) (h.lists k) in
    let sides : (k : ℕ) → g k ≡ 0 = λ k. ap (times u) (h.hands k) in
    none-and-none (sum_to N f) (sum_to N g) (sum-same N none f (λ k _. rows k) ∙ sum-zero N) (sum-same N none g (λ k _. sides k) ∙ sum-zero N)

-- What ends, begins again and is taken off the open blocks of a frame.
use Rattle.std.proofs.Common.{◌≡◌, ◌⊎◌, ◌≤◌, inl, inr, ℕ, suc, zero, ◌+◌, ◌*◌, Bool, true, false, ◌&&◌, if◌then◌else◌, List, [], ◌∷◌, ◌++◌, length, refl, subst, sym, ap, ◌∙◌, arith, reverse, drop, take, slice_index_or, Option, Some, None, ◌<◌, ◌-◌}
use Rattle.std.proofs.lemmas.List.{reverse-append}
use Rattle.std.proofs.Math.Nat.{suc-mul}
use Rattle.std.specs.Option.{option_to_list}
use Rattle.bm_lang.specs.declared.scenario.MapId.{MapId}
use Rattle.bm_lang.specs.declared.scenario.Statement.{Statement}
use Rattle.bm_lang.specs.Limits.{action_cost, block_cost}
use Rattle.bm_law_scenario.specs.Declared.{Declared, under}
use Rattle.bm_law_scenario.specs.Held.{Names}
use Rattle.bm_law.specs.State.{State}
use Rattle.bm_law.specs.Lists.{Log, after}
use Rattle.bm_law_scenario.specs.Runs.{Run, Done, Followed, Times, RunsBlock, lock_after as lock_left}
use Rattle.bm_check.specs.Blocks.{from_inside}
use Rattle.bm_check.specs.declared.name_state.HeldLock.{HeldLock}
use Rattle.bm_check.specs.Statements.{Setting, lock_after}
use Rattle.bm_check.specs.Values as safe
use Rattle.bm_exec.specs.Around.{Around, is_inside, with_begun}
use Rattle.bm_exec.specs.declared.frame.Open.{Open}
use Rattle.bm_exec.specs.Stores.{locked_in, store_of}
use Rattle.bm_exec.specs.Lists.{block_list, Behind, Quiet, RunsStatement, RunsList}
use Rattle.std.specs.Borrow.{Bor}
use Rattle.bm_lang.specs.declared.scenario.Block.{Block}
use Rattle.bm_exec.specs.Meets.{Test, body_meets, list_meets, stack_meets}
use Rattle.bm_exec.specs.Stack.{ClosedBy, Leaves, RunsAround, RunsBody, RunsOpen, RunsRest, RunsStack, SafeBody, SafeStack, Sectioned, lock_of, outer}
use Rattle.bm_exec.specs.Cost.{open_cost}
use Rattle.bm_exec.specs.Steps.{weight, BeginsAgain, Closing, IsSafe, Passed, RunsNext, Taken, Ended}
use Rattle.bm_exec.proofs.Blocks.{block-runs, block-safe, block-cost}
use Rattle.bm_exec.proofs.Locks.{left-locked, locked-inside, quiet-as}
use Rattle.bm_exec.proofs.Then.{done-first, front, map-first}

pub passed-none : (os : List Open) → Passed os os
passed-none os = record { runs = λ d l z w e names last s part h b x. x; safe = λ e names x. x; locked = λ e names x. refl; meets = λ p x. x; sections = λ base z x. x; cost = omega arith; weight = omega arith }

and-left : (a b : Bool) → (a && b) ≡ true → a ≡ true
and-left true b e = refl
and-left false b e = e

and-right : (a b : Bool) → (a && b) ≡ true → b ≡ true
and-right true b e = e
and-right false b e = cc

-- what a block leaves stays where its section ends after it
closed-map : (b : Bool) (l : ℕ) (z : Around) (P Q : Run) (names last : Names) (s : State ℕ) (part : Log) → ((m : Names) (p : Log) → P names m s p → Q names m s p) → ClosedBy b l z P names last s part → ClosedBy b l z Q names last s part
closed-map false l z P Q names last s part f x = f last part x
closed-map true l z P Q names last s part f x = map-first P Q (Leaves l z) names last s part f x

-- what comes first in a block comes first where its section ends after it
closed-front : (b : Bool) (l : ℕ) (z : Around) (P Q : Run) (names last : Names) (s : State ℕ) (part : Log) → Followed P (ClosedBy b l z Q) names last s part → ClosedBy b l z (Followed P Q) names last s part
closed-front false l z P Q names last s part x = x
closed-front true l z P Q names last s part x = front P Q (Leaves l z) names last s part x

-- nothing more is left to run in a block whose statements have ended: it runs no more, or has no block
abbrev pub IsOver : Open → Type 0
IsOver o = (o.repeats ≡ 0) ⊎ (o.body ≡ None)

times-none : (n : ℕ) (names : Names) (s : State ℕ) → Times Done n names names s []
times-none zero names s = (refl, refl)
times-none (suc n) names s = done-first (Times Done n) names names s [] (times-none n names s)

over-rest : (d : Declared) (l : ℕ) (i : Bool) (w : Option (List ℕ)) (k : HeldLock) (o : Open) → o.rest.now ≡ [] → IsOver o → (names : Names) (s : State ℕ) → RunsRest d l i w k o names names s []
over-rest d l i w k o e (inl n) names s = rw e (rw n (done-first Done names names s [] (refl, refl)))
over-rest d l i w k o e (inr h) names s = rw e (rw h (done-first (Times Done o.repeats) names names s [] (times-none o.repeats names s)))

over-open : (d : Declared) (l : ℕ) (z : Around) (w : Option (List ℕ)) (k : HeldLock) (o : Open) → o.rest.now ≡ [] → IsOver o → o.leaves ≡ false → (names : Names) (s : State ℕ) → RunsOpen d l z w k o names names s []
over-open d l z w k o e v f names s = rw f (over-rest d l (is_inside z) w k o e v names s)

around : (d : Declared) (l : ℕ) (z : Around) (w : Option (List ℕ)) (os : List Open) (names last : Names) (s : State ℕ) (part : Log) → Quiet (lock_of os) w s → RunsStack d l z w os names last s part → RunsAround d l z w os names last s part
around d l z w [] names last s part b x = x
around d l z w (o ∷ os) names last s part b x = (names, record { one = []; two = part; part_is = refl; is_first = (refl, b); is_second = x })

-- around a block that leaves no section it is as in it
outer-same : (o : Open) (z : Around) → o.leaves ≡ false → outer o z ≡ z
outer-same o z e = ap (λ b. if b then with_begun None z else z) e

outer-left : (o : Open) (z : Around) → o.leaves ≡ true → outer o z ≡ with_begun None z
outer-left o z e = ap (λ b. if b then with_begun None z else z) e

ended-runs : (d : Declared) (l : ℕ) (z : Around) (w : Option (List ℕ)) (o : Open) (os : List Open) → o.rest.now ≡ [] → IsOver o → o.leaves ≡ false → (names last : Names) (s : State ℕ) (part : Log) → Quiet (lock_of os) w s → RunsStack d l z w os names last s part → RunsStack d l z w (o ∷ os) names last s part
ended-runs d l z w o os e v f names last s part b x =
    let A : Around → Type 0 = λ y. RunsAround d l y w os names last s part in
    (names, record { one = []; two = part; part_is = refl; is_first = over-open d l z w (lock_of os) o e v f names s; is_second = subst A (sym (outer-same o z f)) (around d l z w os names last s part b x) })

-- its section ends next
closing-runs : (d : Declared) (l : ℕ) (z : Around) (w : Option (List ℕ)) (o : Open) (os : List Open) → o.rest.now ≡ [] → IsOver o → o.leaves ≡ true → (names last : Names) (s : State ℕ) (one two : Log) → Quiet (lock_of os) w (after s one) → Leaves l z names names s one → RunsStack d l (with_begun None z) w os names last (after s one) two → RunsStack d l z w (o ∷ os) names last s (one ++ two)
closing-runs d l z w o os e v f names last s one two b h x =
    let R : Run = RunsRest d l (is_inside z) w (lock_of os) o in
    let A : Around → Type 0 = λ y. RunsAround d l y w os names last (after s one) two in
    let closed : Followed R (Leaves l z) names names s one = (names, record { one = []; two = one; part_is = refl; is_first = over-rest d l (is_inside z) w (lock_of os) o e v names s; is_second = h }) in
    (names, record { one = one; two = two; part_is = refl; is_first = rw f closed; is_second = subst A (sym (outer-left o z f)) (around d l (with_begun None z) w os names last (after s one) two b x) })

safe-none : (e : Setting) (n : ℕ) (s : safe.Store) (Q : safe.Store → Type 0) → safe.Times n (λ r. SafeBody e None r) s Q → Q s
safe-none e zero s Q x = x
safe-none e (suc n) s Q x = safe-none e n s Q x

over-safe : (e : Setting) (o : Open) (os : List Open) → o.rest.now ≡ [] → IsOver o → (names : Names) → IsSafe e names (o ∷ os) → IsSafe e names os
over-safe e o os r (inl n) names x = (rw n at (rw r at x)).1
over-safe e o os r (inr h) names x = safe-none e o.repeats (store_of names (lock_of os)) (λ t. SafeStack e t os) (rw h at (rw r at x)).1

-- a block ends under the lock that is held around it
over-lock : (e : Setting) (o : Open) (os : List Open) → o.rest.now ≡ [] → (names : Names) → IsSafe e names (o ∷ os) → o.lock ≡ from_inside (lock_of os)
over-lock e o os r names x = (rw r at x).0

over-locked : (e : Setting) (o : Open) (os : List Open) → o.rest.now ≡ [] → (names : Names) → IsSafe e names (o ∷ os) → locked_in (lock_of os) ≡ locked_in o.lock
over-locked e o os r names x = sym (ap locked_in (over-lock e o os r names x) ∙ locked-inside (lock_of os))

-- one whose statements have ended and that runs again
again-rest : (d : Declared) (l : ℕ) (i : Bool) (w : Option (List ℕ)) (around : HeldLock) (o p : Open) (n : ℕ) (body : Bor Block) → o.rest.now ≡ [] → o.repeats ≡ suc n → o.body ≡ Some body → p.rest.now ≡ block_list body.now → p.repeats ≡ n → p.body ≡ Some body → locked_in p.lock ≡ locked_in around → (names last : Names) (s : State ℕ) (part : Log) → RunsRest d l i w around p names last s part → RunsRest d l i w around o names last s part
again-rest d l i w around o p n body e m h r k b q names last s part x =
    let c : Declared = under (locked_in around) d in
    let B = RunsBlock c l i (Behind w) body.now in
    let T = λ (j : Option MapId). Followed (RunsList (under j d) l i w (block_list body.now)) (Times B n) names last s part in
    let y : Followed (RunsList c l i w (block_list body.now)) (Times B n) names last s part = subst T q (rw b at (rw k at (rw r at x))) in
    let z : Followed B (Times B n) names last s part = rw (sym (block-runs c l i w body.now)) at y in
    let F : Option (Bor Block) → Type 0 = λ q. Followed (RunsList (under (locked_in o.lock) d) l i w o.rest.now) (Times (RunsBody c l i w q) o.repeats) names last s part in
    subst F (sym h) (rw e (rw m (done-first (Followed B (Times B n)) names last s part z)))

again-open : (d : Declared) (l : ℕ) (z : Around) (w : Option (List ℕ)) (around : HeldLock) (o p : Open) (n : ℕ) (body : Bor Block) → o.rest.now ≡ [] → o.repeats ≡ suc n → o.body ≡ Some body → p.rest.now ≡ block_list body.now → p.repeats ≡ n → p.body ≡ Some body → p.leaves ≡ o.leaves → locked_in p.lock ≡ locked_in around → (names last : Names) (s : State ℕ) (part : Log) → RunsOpen d l z w around p names last s part → RunsOpen d l z w around o names last s part
again-open d l z w around o p n body e m h r k b f g names last s part x =
    let i = is_inside z in
    closed-map o.leaves l z (RunsRest d l i w around p) (RunsRest d l i w around o) names last s part (λ q y c. again-rest d l i w around o p n body e m h r k b g names q s y c) (subst (λ c. ClosedBy c l z (RunsRest d l i w around p) names last s part) f x)

outer-as : (o p : Open) (z : Around) → p.leaves ≡ o.leaves → outer p z ≡ outer o z
outer-as o p z e = ap (λ b. if b then with_begun None z else z) e

again-runs : (d : Declared) (l : ℕ) (z : Around) (w : Option (List ℕ)) (o p : Open) (os : List Open) (n : ℕ) (body : Bor Block) → o.rest.now ≡ [] → o.repeats ≡ suc n → o.body ≡ Some body → p.rest.now ≡ block_list body.now → p.repeats ≡ n → p.body ≡ Some body → p.leaves ≡ o.leaves → locked_in p.lock ≡ locked_in (lock_of os) → (names last : Names) (s : State ℕ) (part : Log) → RunsStack d l z w (p ∷ os) names last s part → RunsStack d l z w (o ∷ os) names last s part
again-runs d l z w o p os n body e m h r k b f g names last s part x =
    let a = lock_of os in
    let y = subst (λ (c : Around). Followed (RunsOpen d l z w a p) (RunsAround d l c w os) names last s part) (outer-as o p z f) x in
    map-first (RunsOpen d l z w a p) (RunsOpen d l z w a o) (RunsAround d l (outer o z) w os) names last s part (λ q c v. again-open d l z w a o p n body e m h r k b f g names q s c v) y

again-safe : (e : Setting) (o p : Open) (os : List Open) (n : ℕ) (body : Bor Block) → o.rest.now ≡ [] → o.repeats ≡ suc n → o.body ≡ Some body → p.rest.now ≡ block_list body.now → p.repeats ≡ n → p.body ≡ Some body → p.lock ≡ o.lock → (names : Names) → IsSafe e names (o ∷ os) → IsSafe e names (p ∷ os)
again-safe e o p os n body r m h q k b g names x =
    let a = lock_of os in
    let B = λ (s : safe.Store). safe.SafeBlock e s body.now in
    let y = (rw h at (rw m at (rw r at x))).1 in
    let F : HeldLock → Type 0 = λ c. SafeStack e (store_of names c) (p ∷ os) in
    subst F (sym (g ∙ over-lock e o os r names x)) (rw q (rw k (rw b (rw (block-safe e names a body.now (λ s. safe.Times n B s (λ t. SafeStack e t os))) at y))))

again-sum : (n b : ℕ) → 0 + suc n * (1 + b) ≡ suc (b + n * (1 + b))
again-sum n b = omega (arith, suc-mul n (1 + b))

again-cost : (o p : Open) (n : ℕ) (body : Bor Block) → o.rest.now ≡ [] → o.repeats ≡ suc n → o.body ≡ Some body → p.rest.now ≡ block_list body.now → p.repeats ≡ n → p.body ≡ Some body → open_cost o ≡ suc (open_cost p)
again-cost o p n body e m h r k b = rw e (rw m (rw h (rw r (rw k (rw b (rw (sym (block-cost body.now)) (again-sum n (block_cost body.now))))))))

-- what is at the end of the list of open blocks is on top of the stack
on-top : (items popped : List Open) (o : Open) → items ≡ popped ++ o ∷ [] → reverse items ≡ o ∷ reverse popped
on-top items popped o e = ap reverse e ∙ reverse-append popped (o ∷ [])

pub top-of : (items popped : List Open) (found : Option Open) (o : Open) → items ≡ popped ++ option_to_list found → found ≡ Some o → reverse items ≡ o ∷ reverse popped
top-of items popped found o e f = on-top items popped o (rw f at e)

pub passed-then : (a b c : List Open) → Passed a b → Passed b c → Passed a c
passed-then a b c x y = record {
  runs = λ d l z w e names last s part h q v. x.runs d l z w e names last s part h q (y.runs d l z w e names last s part (x.safe e names h) (quiet-as (lock_of a) (lock_of b) w s (x.locked e names h) q) v);
  safe = λ e names z. y.safe e names (x.safe e names z);
  locked = λ e names z. y.locked e names (x.safe e names z) ∙ x.locked e names z;
  meets = λ p z. y.meets p (x.meets p z);
  sections = λ base z v. y.sections base z (x.sections base z v);
  cost = omega (arith, x.cost, y.cost);
  weight = omega (arith, x.weight, y.weight);
}

meets-rest : (p : Test) (o : Open) (os : List Open) → stack_meets p (o ∷ os) ≡ true → stack_meets p os ≡ true
meets-rest p o os e =
    let d = suc (length os) in
    and-right (body_meets (p d) o.body) (stack_meets p os) (and-right (list_meets (p d) o.rest.now) (body_meets (p d) o.body && stack_meets p os) e)

meets-body : (p : Test) (o : Open) (os : List Open) → stack_meets p (o ∷ os) ≡ true → body_meets (p (suc (length os))) o.body ≡ true
meets-body p o os e =
    let d = suc (length os) in
    and-left (body_meets (p d) o.body) (stack_meets p os) (and-right (list_meets (p d) o.rest.now) (body_meets (p d) o.body && stack_meets p os) e)

both : (a b : Bool) → a ≡ true → b ≡ true → (a && b) ≡ true
both true b e f = f
both false b e f = e

no-length : {A : Type 0} (xs : List A) → length xs < 1 → xs ≡ []
no-length [] lt = refl
no-length (x ∷ xs) lt = absurd (omega arith)

-- the sections around a block
sections-over : (base z : Around) (o : Open) (os : List Open) → o.leaves ≡ false → Sectioned base z (o ∷ os) → Sectioned base z os
sections-over base z o os f x = subst (λ (y : Around). Sectioned base y os) (outer-same o z f) x.1

sections-closing : (base z : Around) (o : Open) (os : List Open) → o.leaves ≡ true → Sectioned base z (o ∷ os) → ((w : ℕ) × (z.begun ≡ Some w)) × Sectioned base (with_begun None z) os
sections-closing base z o os f x = (x.0 f, subst (λ (y : Around). Sectioned base y os) (outer-left o z f) x.1)

sections-as : (base z : Around) (o p : Open) (os : List Open) → p.leaves ≡ o.leaves → Sectioned base z (o ∷ os) → Sectioned base z (p ∷ os)
sections-as base z o p os f x = (λ h. x.0 (sym f ∙ h), subst (λ (y : Around). Sectioned base y os) (sym (outer-as o p z f)) x.1)

-- a block that ended is closed
pub ended-passed : (o : Open) (os : List Open) → length o.rest.now < 1 → IsOver o → o.leaves ≡ false → Passed (o ∷ os) os
ended-passed o os lt v f = let e = no-length o.rest.now lt in record {
  runs = λ d l z w b names last s part h q x. ended-runs d l z w o os e v f names last s part (quiet-as o.lock (lock_of os) w s (over-locked b o os e names h) q) x;
  safe = λ s names x. over-safe s o os e v names x;
  locked = λ s names x. over-locked s o os e names x;
  meets = λ p x. meets-rest p o os x;
  sections = λ base z x. sections-over base z o os f x;
  cost = omega arith;
  weight = omega arith;
}

-- .. or its section ends next
pub closing : (before : List Open) (o : Open) (os : List Open) → Passed before (o ∷ os) → length o.rest.now < 1 → IsOver o → o.leaves ≡ true → Closing before os
closing before o os x lt v f = let e = no-length o.rest.now lt in record {
  runs = λ d l z w b names last s one two g q c h y.
      let locked = over-locked b o os e names (x.safe b names g) ∙ x.locked b names g in
      x.runs d l z w b names last s (one ++ two) g q (closing-runs d l z w o os e v f names last s one two (quiet-as (lock_of before) (lock_of os) w (after s one) locked c) h y);
  safe = λ s names y. over-safe s o os e v names (x.safe s names y);
  locked = λ s names y. over-locked s o os e names (x.safe s names y) ∙ x.locked s names y;
  meets = λ p y. meets-rest p o os (x.meets p y);
  sections = λ base z y. sections-closing base z o os f (x.sections base z y);
  cost = (let c = x.cost in omega (arith, c));
  weight = (let c = x.weight in omega (arith, c));
}

-- .. or begins again
again-passed : (o p : Open) (os : List Open) (n : ℕ) (body : Bor Block) → length o.rest.now < 1 → o.repeats ≡ suc n → o.body ≡ Some body → p.rest.now ≡ block_list body.now → p.repeats ≡ n → p.body ≡ Some body → p.leaves ≡ o.leaves → p.lock ≡ o.lock → Passed (o ∷ os) (p ∷ os)
again-passed o p os n body lt m h r k b f g =
    let e = no-length o.rest.now lt in
    let c = again-cost o p n body e m h r k b in record {
      runs = λ d l z w a names last s part v q x. again-runs d l z w o p os n body e m h r k b f (ap locked_in g ∙ sym (over-locked a o os e names v)) names last s part x;
      safe = λ s names x. again-safe s o p os n body e m h r k b g names x;
      locked = λ s names x. ap locked_in g;
      meets = λ q x.
          let d = suc (length os) in
          let y : list_meets (q d) (block_list body.now) ≡ true = rw h at (meets-body q o os x) in
          rw r (rw b (both (list_meets (q d) (block_list body.now)) (list_meets (q d) (block_list body.now) && stack_meets q os) y (both (list_meets (q d) (block_list body.now)) (stack_meets q os) y (meets-rest q o os x))));
      sections = λ base z x. sections-as base z o p os f x;
      cost = omega (arith, c);
      weight = omega (arith, c);
    }

pub weight-less : (o : Open) (os : List Open) → weight os < weight (o ∷ os)
weight-less o os = omega arith

weight-again : (o p : Open) (os : List Open) (n : ℕ) (body : Bor Block) → length o.rest.now < 1 → o.repeats ≡ suc n → o.body ≡ Some body → p.rest.now ≡ block_list body.now → p.repeats ≡ n → p.body ≡ Some body → weight (p ∷ os) < weight (o ∷ os)
weight-again o p os n body lt m h r k b = omega (arith, again-cost o p n body (no-length o.rest.now lt) m h r k b)

pub begins-passed : (o p : Open) (os : List Open) → length o.rest.now < 1 → BeginsAgain o p → Passed (o ∷ os) (p ∷ os)
begins-passed o p os lt b = again-passed o p os b.less b.block lt b.repeats b.body b.rest_is b.repeats_is b.body_is b.leaves_is b.lock_is

pub begins-weight : (o p : Open) (os : List Open) → length o.rest.now < 1 → BeginsAgain o p → weight (p ∷ os) < weight (o ∷ os)
begins-weight o p os lt b = weight-again o p os b.less b.block lt b.repeats b.body b.rest_is b.repeats_is b.body_is

-- a statement is taken
taken-open : (d : Declared) (l : ℕ) (z : Around) (w : Option (List ℕ)) (around : HeldLock) (o p : Open) (s : Statement) (ss : List Statement) → o.rest.now ≡ s ∷ ss → p.rest.now ≡ ss → p.repeats ≡ o.repeats → p.body ≡ o.body → p.leaves ≡ o.leaves → locked_in p.lock ≡ lock_left (locked_in o.lock) s.action → (names last : Names) (t : State ℕ) (part : Log) → Followed (RunsStatement (under (locked_in o.lock) d) l (is_inside z) w s.action) (RunsOpen d l z w around p) names last t part → RunsOpen d l z w around o names last t part
taken-open d l z w around o p s ss e r k b f g names last t part x =
    let i = is_inside z in
    let c : Declared = under (locked_in o.lock) d in
    let A = RunsStatement c l i w s.action in
    let L = RunsList (under (lock_left (locked_in o.lock) s.action) d) l i w ss in
    let T = Times (RunsBody (under (locked_in around) d) l i w o.body) o.repeats in
    let G : Option MapId → Type 0 = λ j. Followed A (ClosedBy o.leaves l z (Followed (RunsList (under j d) l i w ss) T)) names last t part in
    let y : Followed A (ClosedBy o.leaves l z (Followed L T)) names last t part = subst G g (rw b at (rw k at (rw r at (rw f at x)))) in
    closed-map o.leaves l z (Followed A (Followed L T)) (RunsRest d l i w around o) names last t part (λ q c v. rw e (front A L T names q t c v)) (closed-front o.leaves l z A (Followed L T) names last t part y)

taken-runs : (d : Declared) (l : ℕ) (z : Around) (w : Option (List ℕ)) (o p : Open) (os : List Open) (s : Statement) (ss : List Statement) → o.rest.now ≡ s ∷ ss → p.rest.now ≡ ss → p.repeats ≡ o.repeats → p.body ≡ o.body → p.leaves ≡ o.leaves → p.lock ≡ o.lock → (names last : Names) (t : State ℕ) (part : Log) → RunsNext d l z w s.action (p ∷ os) names last t part → RunsStack d l z w (o ∷ os) names last t part
taken-runs d l z w o p os s ss e r k b f g names last t part x =
    let a = lock_of os in
    let A = RunsStatement (under (locked_in o.lock) d) l (is_inside z) w s.action in
    let q : Open = record p { lock = lock_after p.lock s.action } in
    let left : locked_in q.lock ≡ lock_left (locked_in o.lock) s.action = left-locked p.lock s.action ∙ ap (λ j. lock_left (locked_in j) s.action) g in
    let N : HeldLock → Around → Type 0 = λ j c. Followed (RunsStatement (under (locked_in j) d) l (is_inside z) w s.action) (Followed (RunsOpen d l z w a q) (RunsAround d l c w os)) names last t part in
    let y : N o.lock (outer o z) = subst (λ (c : Around). N o.lock c) (outer-as o p z f) (subst (λ (j : HeldLock). N j (outer p z)) g x) in
    map-first (Followed A (RunsOpen d l z w a q)) (RunsOpen d l z w a o) (RunsAround d l (outer o z) w os) names last t part (λ m c v. taken-open d l z w a o q s ss e r k b f left names m t c v)
    (front A (RunsOpen d l z w a q) (RunsAround d l (outer o z) w os) names last t part y)

taken-safe : (e : Setting) (o p : Open) (os : List Open) (s : Statement) (ss : List Statement) → o.rest.now ≡ s ∷ ss → p.rest.now ≡ ss → p.repeats ≡ o.repeats → p.body ≡ o.body → p.lock ≡ o.lock → (names : Names) → IsSafe e names (o ∷ os) → safe.SafeAction e (store_of names p.lock) s.action (λ r. SafeStack e r (p ∷ os))
taken-safe e o p os s ss q r k b g names x = rw g (rw r (rw k (rw b (rw q at x))))

pub taken : (before : List Open) (o p : Open) (os : List Open) (s : Statement) (ss : List Statement) → Passed before (o ∷ os) → o.rest.now ≡ s ∷ ss → p.rest.now ≡ ss → p.repeats ≡ o.repeats → p.body ≡ o.body → p.leaves ≡ o.leaves → p.lock ≡ o.lock → Taken before (p ∷ os) s
taken before o p os s ss x e r k b f g =
    let cost : open_cost o ≡ action_cost s.action + open_cost p = rw e (rw r (rw k (rw b (omega arith)))) in record {
      runs = λ d l z w h names last t part v q y. x.runs d l z w h names last t part v q (taken-runs d l z w o p os s ss e r k b f g names last t part y);
      safe = λ q names y. taken-safe q o p os s ss e r k b g names (x.safe q names y);
      locked = λ q names y. ap locked_in g ∙ x.locked q names y;
      meets_action = λ q y.
          let d = suc (length os) in
          let c = rw e at (x.meets q y) in
          and-left (q d s.action) (list_meets (q d) ss) (and-left (list_meets (q d) (s ∷ ss)) (body_meets (q d) o.body && stack_meets q os) c);
      meets = λ q y.
          let d = suc (length os) in
          let c = rw e at (x.meets q y) in
          let all = and-left (list_meets (q d) (s ∷ ss)) (body_meets (q d) o.body && stack_meets q os) c in
          rw r (rw b (both (list_meets (q d) ss) (body_meets (q d) o.body && stack_meets q os) (and-right (q d s.action) (list_meets (q d) ss) all) (and-right (list_meets (q d) (s ∷ ss)) (body_meets (q d) o.body && stack_meets q os) c)));
      sections = λ base z y. sections-as base z o p os f (x.sections base z y);
      cost = omega (arith, x.cost, cost);
      weight = omega (arith, x.weight, cost);
      some = omega arith;
    }

-- nothing is left
pub ended : (before : List Open) → Passed before [] → Ended before
ended before x = record {
  runs = λ d l z w e names s h q. x.runs d l z w e names names s [] h q (refl, refl);
  safe = λ e names y z. (x.safe e names y).values z;
  locked = λ e names y. sym (x.locked e names y);
  sections = λ base z y. x.sections base z y;
}

-- what is first in a slice that isn't empty
pub front-is : {A : Type 0} (xs : List A) (x : A) → 1 ≤ length xs → x ≡ slice_index_or xs 0 x → xs ≡ x ∷ drop 1 xs
front-is [] x le e = absurd (omega arith)
front-is (y ∷ ys) x le e = ap (λ z. z ∷ ys) (sym e)

pub no-more : (n : ℕ) → (0 < n → ⊥) → n ≡ 0
no-more zero f = refl
no-more (suc n) f = absurd (f (omega arith))

pub all-gone : (os : List Open) → length os ≡ 0 → reverse os ≡ []
all-gone os e = ap reverse (no-length os (omega (arith, e)))

take-all : {A : Type 0} (xs : List A) → take (length xs) xs ≡ xs
take-all [] = refl
take-all (x ∷ xs) = ap (λ z. x ∷ z) (take-all xs)

-- what stands behind the first
pub behind-is : {A : Type 0} (xs : List A) → take (length xs - 1) (drop 1 xs) ≡ drop 1 xs
behind-is [] = refl
behind-is (x ∷ xs) = let e : suc (length xs) - 1 ≡ length xs = omega arith in rw e (take-all xs)

-- Statements that were performed.
use Rattle.std.proofs.Common.{◌≡◌, ◌∙◌, ◌≤◌, ℕ, suc, ◌+◌, ◌*◌, Bool, true, false, ◌&&◌, ◌||◌, if◌then◌else◌, List, [], ◌∷◌, ◌++◌, length, ◌<◌, refl, sym, ap, subst, Option, Some, None, IfSome, is_some, append_assoc, arith, inl, inr, max}
use Rattle.bm_journal.specs.declared.entry.Entry.TheVariants as entry
use Rattle.bm_journal.specs.declared.ids.ObjId.{ObjId}
use Rattle.bm_lang.specs.declared.scenario.Action.{Acquire, Action, Drop, Get, New, If', Repeat, Section, Yield, Held-Action-If-2, None', Some'}
use Rattle.bm_lang.specs.declared.scenario.Block.{Block}
use Rattle.bm_lang.specs.Limits.{action_cost, else_cost, block_cost}
use Rattle.bm_lang.specs.declared.scenario.TypeDeclaration.{TypeDeclaration}
use Rattle.bm_lang.specs.declared.scenario.MapId.{MapId}
use Rattle.bm_lang.specs.declared.scenario.TypeId.{TypeId}
use Rattle.bm_law.specs.State.{State}
use Rattle.bm_law.specs.Lists.{Log, Leaves, after}
use Rattle.bm_law.specs.Spans.{Records}
use Rattle.bm_journal.specs.declared.ids.Domain.TheVariants.{Plain}
use Rattle.bm_law_scenario.specs.Declared.{Declared, under}
use Rattle.bm_law_scenario.specs.Held.{Nothing, Null, Object, Names, with_name}
use Rattle.bm_law_scenario.specs.Opened.{OfClass}
use Rattle.bm_law.proofs.Folds.{after-append}
use Rattle.bm_law_work.specs.Grown.{GrewBy}
use Rattle.bm_law_work.proofs.Grown.{grew-say, grew-none, grew-stand, grew-map, grew-join}
use Rattle.bm_law_scenario.proofs.Freed.{knows-batch}
use Rattle.bm_law_scenario.specs.Calls.{IsCounted, IsField, RunsAcquire, Reaches, RunsGet, RunsGivingUp, RunsNew, answered, batch_in}
use Rattle.bm_law_work.specs.Parts.{Part, Say, Stand}
use Rattle.bm_law_scenario.specs.Runs.{Done, Followed, Leaving, Times, Within, RunsAction, RunsBlock, lock_after as lock_left, unlocked}
use Rattle.bm_check.specs.Blocks.{from_inside}
use Rattle.bm_check.specs.declared.name_state.HeldLock.{HeldLock}
use Rattle.bm_check.specs.declared.name_state.HeldLock.TheVariants.{Nothing as NoLock}
use Rattle.bm_check.specs.Statements.{Setting, is_handler, lock_after}
use Rattle.bm_check.specs.Values as safe
use Rattle.bm_exec.specs.Around.{Around, Entered, is_inside, with_begun}
use Rattle.bm_exec.specs.declared.frame.Open.{Open}
use Rattle.bm_exec.specs.Guarded.{Guarded}
use Rattle.bm_exec.specs.Stores.{locked_in, store_of, value_of}
use Rattle.bm_exec.specs.Lists.{block_list, Behind, Quiet, RunsStatement, RunsList}
use Rattle.bm_exec.specs.Cost.{open_cost}
use Rattle.bm_exec.specs.Stack.{ClosedBy, Leaves as LeavesSection, RunsAround, RunsOpen, RunsRest, RunsStack, SafeStack, Sectioned, lock_of, outer, under_lock}
use Rattle.bm_exec.specs.Steps.{IsSafe, Pushed, RunsNext, left_by}
use Rattle.bm_exec.proofs.Blocks.{block-runs, block-safe, block-cost}
use Rattle.std.specs.Borrow.{Bor}
use Rattle.bm_exec.specs.Meets.{Inherits, Test, body_meets, list_meets, stack_meets}
use Rattle.bm_exec.specs.Living.{Acquired, Created, IsMade, LetGo, Lives, let_go, reply_of}
use Rattle.bm_exec.specs.Running.{Performed}
use Rattle.bm_exec.proofs.Locks.{guards-as, locked-inside, quiet-as, sees-as, under-same}
use Rattle.bm_exec.proofs.Objects.{holds-more, holds-reply, let-go, store-with}
use Rattle.bm_exec.proofs.Softened.{answered-hard, nothing-hard, object-hard, sees-put}
use Rattle.bm_lang.specs.declared.scenario.Statement.{Statement}
use Rattle.bm_exec.proofs.Then.{undone-first, undone-last, front, map-first}

-- what the reply leaves is safe, whatever it was
safe-reply : (e : Setting) (os : List Open) (names : Names) (k : HeldLock) (x : List ℕ) (t : TypeId) (values : List ℕ) (reply : Option ObjId) → safe.SafeAction e (store_of names k) (New x t values) (λ r. SafeStack e r os) → SafeStack e (store_of (with_name x (answered t (reply_of reply)) names) k) os
safe-reply e os names k x t values None s = rw (store-with x Null names k) (s.1.1 false)
safe-reply e os names k x t values (Some o) s = rw (store-with x (Object t o.unit o.life) names k) (s.1.1 true)

-- what a call leaves, then the work behind it, and then the rest
pub called : (d : Declared) (l : ℕ) (z : Around) (w : Option (List ℕ)) (p : ℕ) (a : Action) (s s1 s' : State ℕ) (names names' : Names) (os now : List Open) (log log1 log' : Option Log) → IfSome log (λ es. Leaves p es s) → IfSome log1 (λ es. Leaves p es s1) → IfSome log' (λ es. Leaves p es s') → left_by a os ≡ now →
    GrewBy (RunsAction (under (locked_in (lock_of os)) d) l (is_inside z) (Behind w) a names names') s log log1 → GrewBy (unlocked (lock_left (locked_in (lock_of os)) a) (Behind w)) s1 log1 log' → (last : Names) (final : Option Log) → GrewBy (RunsStack d l z w now names' last) s' log' final → GrewBy (RunsNext d l z w a os names last) s log final
called d l z w p a s s1 s' names names' os now log log1 log' x x1 x' left y b last final more =
    let c : Declared = under (locked_in (lock_of os)) d in
    let B : Part = unlocked (lock_left (locked_in (lock_of os)) a) (Behind w) in
    let more' : GrewBy (RunsStack d l z w (left_by a os) names' last) s' log' final = subst (λ (ps : List Open). GrewBy (RunsStack d l z w ps names' last) s' log' final) (sym left) more in
    let g : GrewBy (RunsStatement c l (is_inside z) w a names names') s log log' =
    grew-join (RunsAction c l (is_inside z) (Behind w) a names names') B (RunsStatement c l (is_inside z) w a names names') p s s1 log log1 log' (λ one two i j. (names', record { one = one; two = two; part_is = refl; is_first = i; is_second = (refl, j) })) x x1 y b in
    grew-join (RunsStatement c l (is_inside z) w a names names') (RunsStack d l z w (left_by a os) names' last) (RunsNext d l z w a os names last) p s s' log log' final
    (λ one two i j. (names', record { one = one; two = two; part_is = refl; is_first = i; is_second = j })) x x' g more'

-- what is left to run behind a statement that leaves the lock as it is
pub none-left : (k : HeldLock) (w : Option (List ℕ)) (s : State ℕ) (log : Option Log) → Quiet k w s → GrewBy (unlocked (locked_in k) (Behind w)) s log log
none-left k w s log q = grew-none (unlocked (locked_in k) (Behind w)) s log q

pub new-performed : (d : Declared) (l : ℕ) (z : Around) (w : Option (List ℕ)) (p : ℕ) (s s1 s' : State ℕ) (g : Guarded) (x : List ℕ) (t : TypeId) (values : List ℕ) (names names' : Names) (lives lives' lives'' : Lives) (asked asked' : ℕ) (log log1 log' : Option Log) (reply : Option ObjId) (c : ℕ) →
    IfSome log (λ es. Leaves p es s) → IfSome log1 (λ es. Leaves p es s1) → IfSome log' (λ es. Leaves p es s') → (made : IsMade d.types c t.0 values) → safe.is_owning (value_of (names x)) ≡ false → Created l c t.0 made.declared.name values log log1 lives lives' reply → names' ≡ with_name x (answered t (reply_of reply)) names → asked' ≤ asked + 3 →
    lives'' ≡ lives' → GrewBy (Behind w) s1 log1 log' → Behind w s' [] → (os : List Open) → lock_of os ≡ NoLock → Performed d l z z w s s' g g (New x t values) names names' os os lives lives'' asked asked' log log'
new-performed d l z w p s s1 s' g x t values names names' lives lives' lives'' asked asked' log log1 log' reply c leaves leaves1 leaves' made free got e n same work down os none = record {
  grew = called d l z w p (New x t values) s s1 s' names names' os os log log1 log' leaves leaves1 leaves' (under-same os)
      (grew-say l (λ own. RunsNew d.types x t values names own names') (entry.New made.declared.name values ∷ got.own) s log log1 got.records
      (record { class = c; declared = made.declared; of_class = made.of_class; own = got.own; reply = reply_of reply; part_is = refl; allocates = got.allocates; after_is = e })) (rw none work);
  safe = λ s of y. rw e (safe-reply s os names (lock_of os) x t values reply y);
  guards = λ s of y h. h;
  locked = refl;
  holds = λ base h. rw same (rw e (holds-reply d.types base lives lives' names x t c values reply made free got.begins h));
  sees = λ h. rw e (sees-put d g (lock_of os) names x (answered t (reply_of reply)) (answered-hard t (reply_of reply)) h);
  meets = λ p h a b. b;
  sections = λ base h. h;
  cost = omega (arith, n);
  weight = omega arith;
  down = rw none down;
}

-- what a name's letting go leaves in the log, and of the references that names hold
module _ (d : Declared) (l : ℕ) (i : Bool) (w : Option (List ℕ)) (s : State ℕ) (x : List ℕ) (t : TypeId) (o : ObjId) (names names' : Names) (lives lives' : Lives) (log log1 : Option Log) (c : ℕ) (declared : TypeDeclaration) (of : OfClass d.types t.0 c declared) (held : names x ≡ Object t o.unit o.life) (e : names' ≡ with_name x Nothing names) where
  drop-runs : LetGo l declared.counted c o s log log1 lives lives' → GrewBy (RunsAction d l i (Behind w) (Drop x) names names') s log log1
  drop-runs (inl gone) =
      grew-map (Say l (λ own. RunsGivingUp d.types x (batch_in s) names own names')) (RunsAction d l i (Behind w) (Drop x) names names') s log log1 (λ part y. y)
      (grew-say l (λ own. RunsGivingUp d.types x (batch_in s) names own names') (entry.Drop o.unit o.life ∷ entry.Last ∷ gone.own) s log log1 gone.records
      (inr (record { type = t; unit = o.unit; life = o.life; held = held; class = c; declared = declared; of_class = of; home = gone.home; batch = is_some (s.rows c).deferred.plain; batch_is = knows-batch s c; own = gone.own; part_is = refl; frees = gone.frees; after_is = e })))
  drop-runs (inr (counted, gone)) =
      grew-map (Say l (λ own. RunsGivingUp d.types x (batch_in s) names own names')) (RunsAction d l i (Behind w) (Drop x) names names') s log log1 (λ part y. y)
      (grew-say l (λ own. RunsGivingUp d.types x (batch_in s) names own names') (entry.Drop o.unit o.life ∷ entry.Still gone.seen ∷ []) s log log1 gone.records
      (inl (record { type = t; unit = o.unit; life = o.life; held = held; of_type = record { declared = declared; found = of.found; counted = counted }; seen = gone.seen; others = gone.others; part_is = refl; after_is = e })))

  drop-less : LetGo l declared.counted c o s log log1 lives lives' → lives' ≡ let_go o.unit lives
  drop-less (inl gone) = gone.ends
  drop-less (inr (counted, gone)) = gone.less

pub drop-performed : (d : Declared) (l : ℕ) (z : Around) (w : Option (List ℕ)) (p : ℕ) (s s1 s' : State ℕ) (g : Guarded) (x : List ℕ) (t : TypeId) (o : ObjId) (names names' : Names) (lives lives' lives'' : Lives) (asked asked' : ℕ) (log log1 log' : Option Log) (c : ℕ) (declared : TypeDeclaration) →
    IfSome log (λ es. Leaves p es s) → IfSome log1 (λ es. Leaves p es s1) → IfSome log' (λ es. Leaves p es s') → OfClass d.types t.0 c declared → names x ≡ Object t o.unit o.life → LetGo l declared.counted c o s log log1 lives lives' → names' ≡ with_name x Nothing names → asked' ≤ asked + 2 →
    lives'' ≡ lives' → GrewBy (Behind w) s1 log1 log' → Behind w s' [] → (os : List Open) → lock_of os ≡ NoLock → Performed d l z z w s s' g g (Drop x) names names' os os lives lives'' asked asked' log log'
drop-performed d l z w p s s1 s' g x t o names names' lives lives' lives'' asked asked' log log1 log' c declared leaves leaves1 leaves' of held gone e n same work down os none =
    let k : Declared = under (locked_in (lock_of os)) d in record {
      grew = called d l z w p (Drop x) s s1 s' names names' os os log log1 log' leaves leaves1 leaves' (under-same os) (drop-runs k l (is_inside z) w s x t o names names' lives lives' log log1 c declared of held e gone) (rw none work);
      safe = λ s from y. rw e (rw (store-with x Nothing names (lock_of os)) y.1.3);
      guards = λ s of y h. h;
      locked = refl;
      holds = λ base h. rw same (rw e (let-go d.types base lives lives' names x t o.unit o.life held (drop-less k l (is_inside z) w s x t o names names' lives lives' log log1 c declared of held e gone) h));
      sees = λ h. rw e (sees-put d g (lock_of os) names x Nothing nothing-hard h);
      meets = λ p h a b. b;
      sections = λ base h. h;
      cost = omega (arith, n);
      weight = omega arith;
      down = rw none down;
    }

pub acquire-performed : (d : Declared) (l : ℕ) (z : Around) (w : Option (List ℕ)) (p : ℕ) (s s' : State ℕ) (g : Guarded) (y x : List ℕ) (t : TypeId) (o : ObjId) (names names' : Names) (lives lives' : Lives) (asked asked' : ℕ) (log log' : Option Log) →
    IfSome log (λ es. Leaves p es s) → IfSome log' (λ es. Leaves p es s') → IsCounted d.types t.0 → names x ≡ Object t o.unit o.life → safe.is_owning (value_of (names y)) ≡ false → Acquired l o log log' lives lives' → names' ≡ with_name y (Object t o.unit o.life) names → asked' ≤ asked + 2 →
    s' ≡ s → (os : List Open) → Quiet (lock_of os) w s → Performed d l z z w s s' g g (Acquire y x) names names' os os lives lives' asked asked' log log'
acquire-performed d l z w p s s' g y x t o names names' lives lives' asked asked' log log' leaves leaves' of held free got e n same os down =
    let quiet : Quiet (lock_of os) w s' = rw same down in record {
      grew = called d l z w p (Acquire y x) s s' s' names names' os os log log' log' leaves leaves' leaves' (under-same os)
          (grew-say l (λ own. RunsAcquire d.types y x names own names') (entry.Acquire o.unit o.life got.seen ∷ []) s log log' got.records
          (record { type = t; unit = o.unit; life = o.life; held = held; of_type = of; seen = got.seen; some = got.some; part_is = refl; after_is = e })) (none-left (lock_of os) w s' log' quiet);
      safe = λ b from k. rw e (rw (store-with y (Object t o.unit o.life) names (lock_of os)) (of-gives b k));
      guards = λ b of k h. h;
      locked = refl;
      holds = λ base h. rw e (holds-more d.types base lives lives' names x y t o.unit o.life of.declared of.found of.counted held free got.more h);
      sees = λ h. rw e (sees-put d g (lock_of os) names y (Object t o.unit o.life) (object-hard t o.unit o.life) h);
      meets = λ p h a b. b;
      sections = λ base h. h;
      cost = omega (arith, n);
      weight = omega arith;
      down = quiet;
    }
  where
    of-gives : (b : Setting) → safe.SafeAction b (store_of names (lock_of os)) (Acquire y x) (λ r. SafeStack b r os) → SafeStack b (safe.with_value (store_of names (lock_of os)) y (value_of (Object t o.unit o.life))) os
    of-gives b k = (let same : k.0 ≡ t = (let q = sym k.1 ∙ ap value_of held in cc) in subst (λ v. SafeStack b (safe.with_value (store_of names (lock_of os)) y (safe.Owning v)) os) same k.3.1)

-- a field is read, by an owning reference or by another one
pub get-performed : (d : Declared) (l : ℕ) (z : Around) (w : Option (List ℕ)) (p : ℕ) (s s' : State ℕ) (g : Guarded) (x field : List ℕ) (t : TypeId) (o : ObjId) (place value : ℕ) (names : Names) (lives lives' : Lives) (asked asked' : ℕ) (log log' : Option Log) →
    IfSome log (λ es. Leaves p es s) → IfSome log' (λ es. Leaves p es s') → IsField d.types t.0 field place → Reaches x t o.unit o.life names → Records l (entry.Get o.unit o.life place value ∷ []) log log' → asked' ≤ asked + 1 →
    s' ≡ s → lives' ≡ lives → (os : List Open) → Quiet (lock_of os) w s → Performed d l z z w s s' g g (Get x field) names names os os lives lives' asked asked' log log'
get-performed d l z w p s s' g x field t o place value names lives lives' asked asked' log log' leaves leaves' of held got n same alive os down =
    let quiet : Quiet (lock_of os) w s' = rw same down in record {
      grew = called d l z w p (Get x field) s s' s' names names os os log log' log' leaves leaves' leaves' (under-same os)
          (grew-say l (λ own. RunsGet d.types x field names own names) (entry.Get o.unit o.life place value ∷ []) s log log' got
          (record { type = t; unit = o.unit; life = o.life; held = held; place = place; of_type = of; value = value; part_is = refl; after_is = refl })) (none-left (lock_of os) w s' log' quiet);
      safe = λ b in_it k. k.3;
      guards = λ b in_it k h. h;
      locked = refl;
      holds = λ base h. rw alive h;
      sees = λ h. h;
      meets = λ p h a b. b;
      sections = λ base h. h;
      cost = omega (arith, n);
      weight = omega arith;
      down = quiet;
    }

-- a block that runs once, under the lock that is held around it
rest-once : (d : Declared) (l : ℕ) (i : Bool) (w : Option (List ℕ)) (k : HeldLock) (o : Open) (body : Block) → o.rest.now ≡ block_list body → o.repeats ≡ 0 → o.lock ≡ from_inside k → (names last : Names) (s : State ℕ) (part : Log) → RunsRest d l i w k o names last s part → RunsBlock (under (locked_in k) d) l i (Behind w) body names last s part
rest-once d l i w k o body r n q names last s part x =
    let c : Declared = under (locked_in k) d in
    let F : Option MapId → Type 0 = λ j. Followed (RunsList (under j d) l i w (block_list body)) Done names last s part in
    let y : Followed (RunsList c l i w (block_list body)) Done names last s part = subst F (ap locked_in q ∙ locked-inside k) (rw n at (rw r at x)) in
    rw (block-runs c l i w body) (undone-last (RunsList c l i w (block_list body)) names last s part y)

pub block-once : (d : Declared) (l : ℕ) (z : Around) (w : Option (List ℕ)) (k : HeldLock) (o : Open) (body : Block) → o.rest.now ≡ block_list body → o.repeats ≡ 0 → o.leaves ≡ false → o.lock ≡ from_inside k → (names last : Names) (s : State ℕ) (part : Log) → RunsOpen d l z w k o names last s part → RunsBlock (under (locked_in k) d) l (is_inside z) (Behind w) body names last s part
block-once d l z w k o body r n f q names last s part x = rest-once d l (is_inside z) w k o body r n q names last s part (rw f at x)

block-times : (d : Declared) (l : ℕ) (z : Around) (w : Option (List ℕ)) (a : HeldLock) (o : Open) (k : ℕ) (body : Block) (b : Bor Block) → o.rest.now ≡ [] → o.repeats ≡ k → o.body ≡ Some b → b.now ≡ body → o.leaves ≡ false → (names last : Names) (s : State ℕ) (part : Log) → RunsOpen d l z w a o names last s part → Times (RunsBlock (under (locked_in a) d) l (is_inside z) (Behind w) body) k names last s part
block-times d l z w a o k body b r n f g q names last s part x =
    let B = RunsBlock (under (locked_in a) d) l (is_inside z) (Behind w) body in
    let y : Followed Done (Times B k) names last s part = rw g at (rw f at (rw n at (rw r at (rw q at x)))) in
    undone-first (Times B k) names last s part y

-- around a block that leaves no section it is as in it
stack-over : (d : Declared) (l : ℕ) (z : Around) (w : Option (List ℕ)) (o : Open) (os : List Open) (names last : Names) (s : State ℕ) (part : Log) → o.leaves ≡ false → RunsStack d l z w (o ∷ os) names last s part → Followed (RunsOpen d l z w (lock_of os) o) (RunsAround d l z w os) names last s part
stack-over d l z w o os names last s part f x =
    let same : outer o z ≡ z = ap (λ b. if b then with_begun None z else z) f in
    subst (λ (y : Around). Followed (RunsOpen d l z w (lock_of os) o) (RunsAround d l y w os) names last s part) same x

-- a statement that leaves the lock as it is
abbrev pub KeepsLock : Action → Type 0
KeepsLock a = ((k : HeldLock) → lock_after k a ≡ k) × ((o : Option MapId) → lock_left o a ≡ o)

-- a block that a statement opened, and what is around it: the block of that statement, at least
opened : (d : Declared) (l : ℕ) (z : Around) (w : Option (List ℕ)) (a : Action) (o : Open) (before : List Open) (names last : Names) (s : State ℕ) (part : Log) → KeepsLock a → 0 < length before → o.leaves ≡ false → ((m : Names) (p : Log) → RunsOpen d l z w (lock_of before) o names m s p → RunsAction (under (locked_in (lock_of before)) d) l (is_inside z) (Behind w) a names m s p) →
    RunsStack d l z w (o ∷ before) names last s part → RunsNext d l z w a before names last s part
opened d l z w a o [] names last s part keeps some g f x = absurd (omega (arith, some))
opened d l z w a o (p ∷ ps) names last s part keeps some g f x =
    let c : Declared = under (locked_in p.lock) d in
    let O = RunsOpen d l z w p.lock o in
    let S = RunsStack d l z w (p ∷ ps) in
    let B = Leaving (unlocked (locked_in p.lock) (Behind w)) in
    let A = RunsAction c l (is_inside z) (Behind w) a in
    let y : Followed (Followed A B) S names last s part =
    map-first (Followed O B) (Followed A B) S names last s part (λ m q y. map-first O A B names m s q f y)
    (front O B S names last s part (stack-over d l z w o (p ∷ ps) names last s part g x)) in
    let L : Option MapId → HeldLock → Type 0 = λ j k. Followed (Followed A (Leaving (unlocked j (Behind w)))) (RunsStack d l z w (under_lock k (p ∷ ps))) names last s part in
    subst (λ (j : Option MapId). L j (lock_after p.lock a)) (sym (keeps.1 (locked_in p.lock))) (subst (λ (k : HeldLock). L (locked_in p.lock) k) (sym (keeps.0 p.lock)) y)

pub once-safe : (e : Setting) (o : Open) (os : List Open) (names : Names) (body : Block) → o.rest.now ≡ block_list body → o.repeats ≡ 0 → o.lock ≡ from_inside (lock_of os) → safe.SafeBlock e (store_of names (lock_of os)) body (λ r. SafeStack e r os) → IsSafe e names (o ∷ os)
once-safe e o os names body r n q x = rw q (rw r (rw n (rw (block-safe e names (lock_of os) body (λ s. SafeStack e s os)) at x)))

times-safe : (e : Setting) (o : Open) (os : List Open) (names : Names) (k : ℕ) (body : Block) (b : Bor Block) → o.rest.now ≡ [] → o.repeats ≡ k → o.body ≡ Some b → b.now ≡ body → o.lock ≡ from_inside (lock_of os) → safe.Times k (λ r. safe.SafeBlock e r body) (store_of names (lock_of os)) (λ r. SafeStack e r os) → IsSafe e names (o ∷ os)
times-safe e o os names k body b r n f g q x = rw r (rw n (rw f (rw g (q, x))))

pub both : (a b : Bool) → a ≡ true → b ≡ true → (a && b) ≡ true
both true b e f = f
both false b e f = e

pub left : (a b : Bool) → (a && b) ≡ true → a ≡ true
left true b e = refl
left false b e = e

pub right : (a b : Bool) → (a && b) ≡ true → b ≡ true
right true b e = e
right false b e = cc

max-left : (a b : ℕ) → a ≤ max a b
max-left a b = omega arith

max-right : (a b : ℕ) → b ≤ max a b
max-right a b = omega arith

-- a statement that opens a block
pub sections-inner : (base z : Around) (o : Open) (os : List Open) → o.leaves ≡ false → Sectioned base z os → Sectioned base z (o ∷ os)
sections-inner base z o os f h =
    let same : outer o z ≡ z = ap (λ b. if b then with_begun None z else z) f in
    (λ e. absurd (cc), subst (λ (y : Around). Sectioned base y os) (sym same) h)

push-performed : (d : Declared) (l : ℕ) (z : Around) (w : Option (List ℕ)) (s : State ℕ) (g : Guarded) (a : Action) (names : Names) (before now : List Open) (rest : List Statement) (n : ℕ) (body : Block) (lives : Lives) (asked : ℕ) (log : Option Log) → KeepsLock a → 0 < length before → Quiet (lock_of before) w s → (o : Pushed before now rest n false body) →
    ((m : Names) (p : Log) → RunsOpen d l z w (lock_of before) o.top names m s p → RunsAction (under (locked_in (lock_of before)) d) l (is_inside z) (Behind w) a names m s p) →
    ((e : Setting) → safe.SafeAction e (store_of names (lock_of before)) a (λ r. SafeStack e r before) → IsSafe e names (o.top ∷ before)) →
    ((p : Test) → Inherits p → p (length before) a ≡ true → (list_meets (p (suc (length before))) o.top.rest.now ≡ true) × (list_meets (p (suc (length before))) (block_list body) ≡ true)) →
    suc (open_cost o.top) ≤ action_cost a →
    Performed d l z z w s s g g a names names before now lives lives asked asked log log
push-performed d l z w s g a names before now rest n body lives asked log keeps some down o runs safe meets cost =
    let locked : locked_in (lock_of now) ≡ locked_in (lock_of before) = ap (λ (os : List Open). locked_in (lock_of os)) o.now_is ∙ (ap locked_in o.lock_is ∙ locked-inside (lock_of before)) in record {
      grew = λ last final q. grew-map (RunsStack d l z w (o.top ∷ before) names last) (RunsNext d l z w a before names last) s log final (λ part y. opened d l z w a o.top before names last s part keeps some o.leaves_is runs y) (rw o.now_is at q);
      safe = λ e of y. rw o.now_is (safe e y);
      guards = λ e of y h. guards-as d.maps (is_handler e.kind) l g (lock_of before) (lock_of now) locked h;
      locked = locked ∙ sym (keeps.1 (locked_in (lock_of before)));
      holds = λ base h. h;
      sees = λ h. sees-as d g (lock_of before) (lock_of now) names locked h;
      meets = λ p h x y.
          let depth = suc (length before) in
          let c = meets p h x in
          let blocks : body_meets (p depth) o.top.body ≡ true = rw o.body_is (rw o.block_is c.1) in
          rw o.now_is (both (list_meets (p depth) o.top.rest.now) (body_meets (p depth) o.top.body && stack_meets p before) c.0 (both (body_meets (p depth) o.top.body) (stack_meets p before) blocks y));
      sections = λ base h. rw o.now_is (sections-inner base z o.top before o.leaves_is h);
      cost = rw o.now_is (omega (arith, cost));
      weight = rw o.now_is (omega (arith, cost));
      down = quiet-as (lock_of before) (lock_of now) w s locked down;
    }

pub once-cost : (d : Declared) (o : Open) (body : Block) → o.rest.now ≡ block_list body → o.repeats ≡ 0 → open_cost o ≡ block_cost body
once-cost d o body r n = rw r (rw n (omega (arith, block-cost body)))

times-cost : (o : Open) (k : ℕ) (body : Block) (b : Bor Block) → o.rest.now ≡ [] → o.repeats ≡ k → o.body ≡ Some b → b.now ≡ body → open_cost o ≡ k * (1 + block_cost body)
times-cost o k body b r n f g = rw r (rw n (rw f (rw g (omega arith))))

pub repeat-performed : (d : Declared) (l : ℕ) (z : Around) (w : Option (List ℕ)) (s : State ℕ) (g : Guarded) (k : ℕ) (body : Block) (names : Names) (before now : List Open) (lives : Lives) (asked : ℕ) (log : Option Log) → 0 < length before → Quiet (lock_of before) w s → Pushed before now [] k false body → Performed d l z z w s s g g (Repeat k body) names names before now lives lives asked asked log log
repeat-performed d l z w s g k body names before now lives asked log some down o =
    push-performed d l z w s g (Repeat k body) names before now [] k body lives asked log (λ m. refl, λ m. refl) some down o
    (λ m p y. block-times d l z w (lock_of before) o.top k body o.block o.rest_is o.repeats_is o.body_is o.block_is o.leaves_is names m s p y)
    (λ e y. times-safe e o.top before names k body o.block o.rest_is o.repeats_is o.body_is o.block_is o.lock_is y)
    (λ p h y. (rw o.rest_is refl, h.again (length before) k body y))
    (let c = times-cost o.top k body o.block o.rest_is o.repeats_is o.body_is o.block_is in omega (arith, c))

-- an `if` whose name holds a reference to an object, owning or not
pub first-performed : (d : Declared) (l : ℕ) (z : Around) (w : Option (List ℕ)) (s : State ℕ) (g : Guarded) (x : List ℕ) (t : TypeId) (u n : ℕ) (body : Block) (otherwise : Held-Action-If-2) (names : Names) (before now : List Open) (lives : Lives) (asked : ℕ) (log : Option Log) → 0 < length before → Quiet (lock_of before) w s → Reaches x t u n names → Pushed before now (block_list body) 0 false body → Performed d l z z w s s g g (If' x body otherwise) names names before now lives lives asked asked log log
first-performed d l z w s g x t u n body otherwise names before now lives asked log some down held o =
    push-performed d l z w s g (If' x body otherwise) names before now (block_list body) 0 body lives asked log (λ m. refl, λ m. refl) some down o
    (λ m p y. chosen held m p (block-once d l z w (lock_of before) o.top body o.rest_is o.repeats_is o.leaves_is o.lock_is names m s p y))
    (λ e y. once-safe e o.top before names body o.rest_is o.repeats_is o.lock_is (y.1 t (refers held)))
    (λ p h y. let c = h.first (length before) x body otherwise y in (rw o.rest_is c, c))
    (let c = once-cost d o.top body o.rest_is o.repeats_is in omega (arith, c, max-left (block_cost body) (else_cost otherwise)))
  where
    c : Declared
    c = under (locked_in (lock_of before)) d

    chosen : Reaches x t u n names → (m : Names) (p : Log) → RunsBlock c l (is_inside z) (Behind w) body names m s p → RunsAction c l (is_inside z) (Behind w) (If' x body otherwise) names m s p
    chosen (inl owns) m p y = rw owns y
    chosen (inr sees) m p y = rw sees.1 y

    refers : Reaches x t u n names → safe.Refers (value_of (names x)) t
    refers (inl owns) = inl (ap value_of owns)
    refers (inr sees) = inr (sees.0, ap value_of sees.1)

pub other-performed : (d : Declared) (l : ℕ) (z : Around) (w : Option (List ℕ)) (s : State ℕ) (g : Guarded) (x : List ℕ) (body other : Block) (otherwise : Held-Action-If-2) (names : Names) (before now : List Open) (lives : Lives) (asked : ℕ) (log : Option Log) → 0 < length before → Quiet (lock_of before) w s → names x ≡ Null → otherwise ≡ Some' other → Pushed before now (block_list other) 0 false other → Performed d l z z w s s g g (If' x body otherwise) names names before now lives lives asked asked log log
other-performed d l z w s g x body other otherwise names before now lives asked log some down held q o =
    push-performed d l z w s g (If' x body otherwise) names before now (block_list other) 0 other lives asked log (λ m. refl, λ m. refl) some down o
    (λ m p y. rw held (rw q (block-once d l z w (lock_of before) o.top other o.rest_is o.repeats_is o.leaves_is o.lock_is names m s p y)))
    (λ e y. once-safe e o.top before names other o.rest_is o.repeats_is o.lock_is (rw q at (y.0 (ap value_of held))))
    (λ p h y. let c = h.other (length before) x body other (rw q at y) in (rw o.rest_is c, c))
    (let c = once-cost d o.top other o.rest_is o.repeats_is in let same : else_cost otherwise ≡ block_cost other = ap else_cost q in omega (arith, c, same, max-right (block_cost body) (else_cost otherwise)))

skip-runs : (d : Declared) (l : ℕ) (z : Around) (w : Option (List ℕ)) (s : State ℕ) (x : List ℕ) (body : Block) (otherwise : Held-Action-If-2) (names : Names) → names x ≡ Null → otherwise ≡ None' → RunsAction d l (is_inside z) (Behind w) (If' x body otherwise) names names s []
skip-runs d l z w s x body otherwise names held q = rw held (rw q (refl, refl))

pub skip-performed : (d : Declared) (l : ℕ) (z : Around) (w : Option (List ℕ)) (s : State ℕ) (g : Guarded) (x : List ℕ) (body : Block) (otherwise : Held-Action-If-2) (names : Names) (before : List Open) (lives : Lives) (asked : ℕ) (log : Option Log) → Quiet (lock_of before) w s → names x ≡ Null → otherwise ≡ None' → Performed d l z z w s s g g (If' x body otherwise) names names before before lives lives asked asked log log
skip-performed d l z w s g x body otherwise names before lives asked log down held q = record {
  grew = λ last final more. grew-map (RunsStack d l z w before names last) (RunsNext d l z w (If' x body otherwise) before names last) s log final
      (λ part y. let S : List Open → Type 0 = λ os. RunsStack d l z w os names last s part in
      (names, record { one = []; two = part; part_is = refl; is_first = (names, record { one = []; two = []; part_is = refl; is_first = skip-runs (under (locked_in (lock_of before)) d) l z w s x body otherwise names held q; is_second = (refl, down) }); is_second = subst S (sym (under-same before)) y })) more;
  safe = λ e of y. rw q at (y.0 (ap value_of held));
  guards = λ e of y h. h;
  locked = refl;
  holds = λ base h. h;
  sees = λ h. h;
  meets = λ p h x y. y;
  sections = λ base h. h;
  cost = omega arith;
  weight = omega arith;
  down = down;
}

-- ---- sections

-- a section inside another one
pub inner-performed : (d : Declared) (l : ℕ) (z : Around) (w : Option (List ℕ)) (s : State ℕ) (g : Guarded) (body : Block) (names : Names) (before now : List Open) (lives : Lives) (asked : ℕ) (log : Option Log) → is_inside z ≡ true → 0 < length before → Quiet (lock_of before) w s → Pushed before now (block_list body) 0 false body → Performed d l z z w s s g g (Section body) names names before now lives lives asked asked log log
inner-performed d l z w s g body names before now lives asked log inside some down o =
    let c : Declared = under (locked_in (lock_of before)) d in
    push-performed d l z w s g (Section body) names before now (block_list body) 0 body lives asked log (λ m. refl, λ m. refl) some down o
    (λ m p y. rw inside (subst (λ i. RunsBlock c l i (Behind w) body names m s p) inside (block-once d l z w (lock_of before) o.top body o.rest_is o.repeats_is o.leaves_is o.lock_is names m s p y)))
    (λ e y. once-safe e o.top before names body o.rest_is o.repeats_is o.lock_is y)
    (λ p h y. let c = h.within (length before) body y in (rw o.rest_is c, c))
    (let c = once-cost d o.top body o.rest_is o.repeats_is in omega (arith, c))

begun-inside : (z : Around) (v : ℕ) → is_inside (with_begun (Some v) z) ≡ true
begun-inside z v = either z.whole
  where
    either : (b : Bool) → (b || true) ≡ true
    either true = refl
    either false = refl

none-begun : (z : Around) → is_inside z ≡ false → z.begun ≡ None
none-begun z e = over z.whole z.begun e
  where
    over : (b : Bool) (o : Option ℕ) → (b || is_some o) ≡ false → o ≡ None
    over true o e = absurd (cc)
    over false None e = refl
    over false (Some v) e = absurd (cc)

back : (z : Around) (v : ℕ) → is_inside z ≡ false → with_begun None (with_begun (Some v) z) ≡ z
back z v e = ap (λ o. with_begun o z) (sym (none-begun z e))

-- what is left to run in a section that begins, and around it
section-runs : (d : Declared) (l : ℕ) (z : Around) (w : Option (List ℕ)) (v : ℕ) (o p : Open) (os : List Open) (body : Block) → is_inside z ≡ false → o.rest.now ≡ block_list body → o.repeats ≡ 0 → o.leaves ≡ true → o.lock ≡ from_inside p.lock → (names last : Names) (s : State ℕ) (one two : Log) → Stand l (entry.In Plain v ∷ []) s one → RunsStack d l (with_begun (Some v) z) w (o ∷ p ∷ os) names last (after s one) two → RunsNext d l z w (Section body) (p ∷ os) names last s (one ++ two)
section-runs d l z w v o p os body out r n f lock names last s one two h x =
    let y : Around = with_begun (Some v) z in
    let i = is_inside y in
    let K : Declared = under (locked_in p.lock) d in
    let P : Part = unlocked (locked_in p.lock) (Behind w) in
    let B = Leaving P in
    let S = RunsStack d l z w (p ∷ os) in
    let same : outer o y ≡ z = ap (λ b. if b then with_begun None y else y) f ∙ back z v out in
    let t : Followed (RunsOpen d l y w p.lock o) (Followed B S) names last (after s one) two = subst (λ (c : Around). Followed (RunsOpen d l y w p.lock o) (RunsAround d l c w (p ∷ os)) names last (after s one) two) same x in
    let u = front (RunsOpen d l y w p.lock o) B S names last (after s one) two t in
    let k = u.1 in
    let g = k.is_first in
    let c : Followed (RunsRest d l i w p.lock o) (LeavesSection l y) names g.0 (after s one) g.1.one = subst (λ b. ClosedBy b l y (RunsRest d l i w p.lock o) names g.0 (after s one) g.1.one) f g.1.is_first in
    let inner : RunsBlock K l true (Behind w) body names c.0 (after s one) c.1.one = subst (λ b. RunsBlock K l b (Behind w) body names c.0 (after s one) c.1.one) (begun-inside z v) (rest-once d l i w p.lock o body r n lock names c.0 (after s one) c.1.one c.1.is_first) in
    let ends = c.1.is_second in
    let word : ends.0 ≡ v = (let q = ends.1 in cc) in
    let stands : Stand l (entry.Out Plain (v + 1) ∷ []) (after (after s one) c.1.one) c.1.two = subst (λ k. Stand l (entry.Out Plain (k + 1) ∷ []) (after (after s one) c.1.one) c.1.two) word ends.2.1 in
    let inner' : RunsBlock K l true (Behind w) body names g.0 (after s one) c.1.one = subst (λ m. RunsBlock K l true (Behind w) body names m (after s one) c.1.one) (sym ends.2.0) inner in
    let whole : Within false l (RunsBlock K l true (Behind w) body) names g.0 s (one ++ g.1.one) =
    (v, record { one = one; two = g.1.one; part_is = refl; is_first = h; is_second = record { one = c.1.one; two = c.1.two; part_is = c.1.part_is; is_first = inner'; is_second = stands } }) in
    let act : RunsAction K l (is_inside z) (Behind w) (Section body) names g.0 s (one ++ g.1.one) = subst (λ b. Within b l (RunsBlock K l true (Behind w) body) names g.0 s (one ++ g.1.one)) (sym out) whole in
    let A : State ℕ → Type 0 = λ q. P q g.1.two in
    let G : State ℕ → Type 0 = λ q. S u.0 last q k.two in (
      u.0,
      record {
        one = (one ++ g.1.one) ++ g.1.two;
        two = k.two;
        part_is = ap (λ q. one ++ q) k.part_is ∙ sym (append_assoc one k.one k.two) ∙ ap (λ q. q ++ k.two) (ap (λ q. one ++ q) g.1.part_is ∙ sym (append_assoc one g.1.one g.1.two));
        is_first = (g.0, record { one = one ++ g.1.one; two = g.1.two; part_is = refl; is_first = act; is_second = (g.1.is_second.0, subst A (sym (after-append s one g.1.one)) g.1.is_second.1) });
        is_second = subst G (ap (after (after s one)) g.1.part_is ∙ after-append (after s one) g.1.one g.1.two ∙ ap (λ q. after q g.1.two) (sym (after-append s one g.1.one)) ∙ sym (after-append s (one ++ g.1.one) g.1.two)) k.is_second;
      },
    )

-- a section begins
pub section-performed : (d : Declared) (l : ℕ) (z z' : Around) (w : Option (List ℕ)) (p : ℕ) (s s' : State ℕ) (g : Guarded) (body : Block) (names : Names) (before now : List Open) (lives lives' : Lives) (asked asked' : ℕ) (log log' : Option Log) →
    IfSome log (λ es. Leaves p es s) → IfSome log' (λ es. Leaves p es s') → is_inside z ≡ false → Entered l z z' log log' → s' ≡ s → lives' ≡ lives → asked' ≤ asked + 2 → 0 < length before → Quiet (lock_of before) w s → Pushed before now (block_list body) 0 true body → Performed d l z z' w s s' g g (Section body) names names before now lives lives' asked asked' log log'
section-performed d l z z' w p s s' g body names [] now lives lives' asked asked' log log' x x' out e same alive n some down o = absurd (omega (arith, some))
section-performed d l z z' w p s s' g body names (q ∷ qs) now lives lives' asked asked' log log' x x' out e same alive n some down o =
    let locked : locked_in (lock_of now) ≡ locked_in q.lock = ap (λ (os : List Open). locked_in (lock_of os)) o.now_is ∙ (ap locked_in o.lock_is ∙ locked-inside q.lock) in record {
      grew = λ last final r.
          let F : Around → Type 0 = λ y. GrewBy (RunsStack d l y w (o.top ∷ q ∷ qs) names last) s' log' final in
          grew-join (Stand l (entry.In Plain e.word ∷ [])) (RunsStack d l (with_begun (Some e.word) z) w (o.top ∷ q ∷ qs) names last) (RunsNext d l z w (Section body) (q ∷ qs) names last) p s s' log log' final
          (λ one two i j. section-runs d l z w e.word o.top q qs body out o.rest_is o.repeats_is o.leaves_is o.lock_is names last s one two i j) x x' (grew-stand l (entry.In Plain e.word ∷ []) s log log' e.records) (subst F e.now_is (rw o.now_is at r));
      safe = λ b of y. rw o.now_is (once-safe b o.top (q ∷ qs) names body o.rest_is o.repeats_is o.lock_is y);
      guards = λ b of y h. guards-as d.maps (is_handler b.kind) l g q.lock (lock_of now) locked h;
      locked = locked;
      holds = λ base h. rw alive h;
      sees = λ h. sees-as d g q.lock (lock_of now) names locked h;
      meets = λ t h a b.
          let depth = suc (length (q ∷ qs)) in
          let c = h.within (length (q ∷ qs)) body a in
          let blocks : body_meets (t depth) o.top.body ≡ true = rw o.body_is (rw o.block_is c) in
          let first : list_meets (t depth) o.top.rest.now ≡ true = rw o.rest_is c in
          rw o.now_is (both (list_meets (t depth) o.top.rest.now) (body_meets (t depth) o.top.body && stack_meets t (q ∷ qs)) first (both (body_meets (t depth) o.top.body) (stack_meets t (q ∷ qs)) blocks b));
      sections = λ base h. rw o.now_is (rw e.now_is (begun-sections base z e.word o.top (q ∷ qs) out o.leaves_is h));
      cost = (let c = once-cost d o.top body o.rest_is o.repeats_is in rw o.now_is (omega (arith, c, n)));
      weight = (let c = once-cost d o.top body o.rest_is o.repeats_is in rw o.now_is (omega (arith, c)));
      down = quiet-as q.lock (lock_of now) w s' locked (rw same down);
    }
  where
    begun-sections : (base z : Around) (v : ℕ) (o : Open) (os : List Open) → is_inside z ≡ false → o.leaves ≡ true → Sectioned base z os → Sectioned base (with_begun (Some v) z) (o ∷ os)
    begun-sections base z v o os out f h =
        let y : Around = with_begun (Some v) z in
        let same : outer o y ≡ z = ap (λ b. if b then with_begun None y else y) f ∙ back z v out in
        (λ e. (v, refl), subst (λ (c : Around). Sectioned base c os) (sym same) h)

-- ---- a yield

pub yield-performed : (d : Declared) (l : ℕ) (z : Around) (w : Option (List ℕ)) (p : ℕ) (s s' : State ℕ) (g : Guarded) (names : Names) (os : List Open) (lives lives' : Lives) (asked asked' : ℕ) (log log' : Option Log) →
    IfSome log (λ es. Leaves p es s) → IfSome log' (λ es. Leaves p es s') → Records l (entry.Yield ∷ []) log log' → s' ≡ s → lives' ≡ lives → asked' ≤ asked → Quiet (lock_of os) w s → Performed d l z z w s s' g g Yield names names os os lives lives' asked asked' log log'
yield-performed d l z w p s s' g names os lives lives' asked asked' log log' x x' r same alive n down =
    let quiet : Quiet (lock_of os) w s' = rw same down in record {
      grew = called d l z w p Yield s s' s' names names os os log log' log' x x' x' (under-same os)
          (grew-map (Stand l (entry.Yield ∷ [])) (Leaving (Stand l (entry.Yield ∷ [])) names names) s log log' (λ part y. (refl, y)) (grew-stand l (entry.Yield ∷ []) s log log' r)) (none-left (lock_of os) w s' log' quiet);
      safe = λ e of y. y.2;
      guards = λ e of y h. h;
      locked = refl;
      holds = λ base h. rw alive h;
      sees = λ h. h;
      meets = λ t h a b. b;
      sections = λ base h. h;
      cost = omega (arith, n);
      weight = omega arith;
      down = quiet;
    }

-- Statements, one after the other.
use Rattle.std.proofs.Common.{◌≡◌, ◌≤◌, ◌+◌, ◌∙◌, ℕ, true, false, List, [], ◌∷◌, Option, None, IfSome, refl, subst, sym, ap, arith}
use Rattle.bm_journal.specs.declared.ids.Domain.TheVariants.{Plain}
use Rattle.bm_journal.specs.declared.entry.Entry.{Entry}
use Rattle.bm_journal.specs.declared.entry.Entry.TheVariants as entry
use Rattle.bm_lang.specs.declared.scenario.Action.{Action, New, Drop, Acquire, Get, Exchange, If', Repeat, Section, Lock, Unlock, Yield, PushFront, PushBack, PopFront, PopBack, Add, First, Remove}
use Rattle.bm_lang.specs.declared.scenario.MapId.{MapId}
use Rattle.bm_lang.specs.declared.scenario.Statement.{Statement}
use Rattle.bm_lang.specs.Limits.{action_cost}
use Rattle.bm_law.specs.State.{State}
use Rattle.bm_law.specs.Lists.{Leaves, Log}
use Rattle.bm_law_work.specs.Grown.{GrewBy}
use Rattle.bm_law_work.specs.Parts.{Part, Stand}
use Rattle.bm_law_work.proofs.Grown.{grew-join, grew-none, grew-map, grew-stand}
use Rattle.bm_law_scenario.specs.Declared.{Declared}
use Rattle.bm_law_scenario.specs.Runs.{lock_after as lock_left}
use Rattle.bm_law_scenario.specs.Held.{Held, Nothing, Null, Object, Soft, Names, OwnsNothing}
use Rattle.bm_check.specs.declared.name_state.HeldLock.{HeldLock}
use Rattle.bm_check.specs.declared.name_state.HeldLock.TheVariants.{Nothing as NoLock}
use Rattle.bm_check.specs.Statements.{Setting, is_handler}
use Rattle.bm_check.specs.Values as safe
use Rattle.bm_exec.specs.Around.{Around, HasLeft, with_begun}
use Rattle.bm_exec.specs.declared.frame.Open.{Open}
use Rattle.bm_exec.specs.declared.names.NameTable.{NameTable}
use Rattle.bm_exec.proofs.KnownNames.{same-names}
use Rattle.bm_exec.proofs.Meeting.{may-inherits}
use Rattle.bm_exec.specs.Going.{CanGoOn}
use Rattle.bm_exec.specs.Meets.{may_run}
use Rattle.bm_exec.specs.Seen.{has_name, names_of}
use Rattle.bm_exec.specs.Guarded.{Guarded, Guards, IsLock, place_in}
use Rattle.bm_exec.specs.Stores.{locked_in, store_of, value_of}
use Rattle.bm_exec.specs.Yields.{is_yield}
use Rattle.bm_exec.specs.Lists.{Quiet}
use Rattle.bm_exec.specs.Stack.{RunsStack, lock_of}
use Rattle.bm_exec.specs.Living.{Lives}
use Rattle.bm_exec.specs.Steps.{Closing, IsSafe, RunsNext, Taken, Ended}
use Rattle.bm_exec.proofs.Locks.{guards-as, no-lock, quiet-as, quiet-free, sees-as}
use Rattle.bm_exec.proofs.Softened.{sees-free, sees-nothing}
use Rattle.bm_exec.specs.Running.{IsOf, Performed, Went, Ran}

pub some-cost : (a : Action) → 1 ≤ action_cost a
some-cost (New x t values) = omega arith
some-cost (Drop x) = omega arith
some-cost (Acquire y x) = omega arith
some-cost (Get x f) = omega arith
some-cost (Exchange y s x) = omega arith
some-cost (If' x body otherwise) = omega arith
some-cost (Repeat n body) = omega arith
some-cost (Section body) = omega arith
some-cost (Lock g) = omega arith
some-cost Unlock = omega arith
some-cost Yield = omega arith
some-cost (PushFront q x) = omega arith
some-cost (PushBack q x) = omega arith
some-cost (PopFront x q) = omega arith
some-cost (PopBack x q) = omega arith
some-cost (Add t x) = omega arith
some-cost (First x t) = omega arith
some-cost (Remove y t x) = omega arith

pub went-none : (d : Declared) (l : ℕ) (z : Around) (w : Option (List ℕ)) (s : State ℕ) (g : Guarded) (names : Names) (os : List Open) (lives : Lives) (asked : ℕ) (log : Option Log) → Quiet (lock_of os) w s → Went d l z z w s s g g names names os os lives lives asked asked log log
went-none d l z w s g names os lives asked log down = record {
  grew = λ last final q. q;
  safe = λ e of y. y;
  guards = λ e of y h. h;
  holds = λ base h. h;
  sees = λ h. h;
  meets = λ p h y. y;
  sections = λ base h. h;
  cost = omega arith;
  down = down;
}

pub went-step : (d : Declared) (l : ℕ) (z z1 z2 : Around) (v : Option (List ℕ)) (s : Statement) (s0 s1 s2 : State ℕ) (g0 g1 g2 : Guarded) (n0 n1 n2 : Names) (b0 b1 b2 b3 : List Open) (lives lives' lives'' : Lives) (a0 a1 a2 : ℕ) (log0 log1 log2 : Option Log) (e : Setting) → IsOf d e → IsSafe e n0 b0 →
    Went d l z z1 v s0 s1 g0 g1 n0 n1 b0 b1 lives lives' a0 a1 log0 log1 → Taken b1 b2 s → Performed d l z1 z2 v s1 s2 g1 g2 s.action n1 n2 b2 b3 lives' lives'' a1 a2 log1 log2 → Went d l z z2 v s0 s2 g0 g2 n0 n2 b0 b3 lives lives'' a0 a2 log0 log2
went-step d l z z1 z2 v s s0 s1 s2 g0 g1 g2 n0 n1 n2 b0 b1 b2 b3 lives lives' lives'' a0 a1 a2 log0 log1 log2 e of safe w t p = record {
  grew = λ last final q. w.grew last final (grew-map (RunsNext d l z1 v s.action b2 n1 last) (RunsStack d l z1 v b1 n1 last) s1 log1 final (λ part y. t.runs d l z1 v e n1 last s1 part (w.safe e of safe) w.down y) (p.grew last final q));
  safe = λ b from x. p.safe b from (t.safe b n1 (w.safe b from x));
  guards = λ b from x h. p.guards b from (t.safe b n1 (w.safe b from x)) (guards-as d.maps (is_handler b.kind) l g1 (lock_of b1) (lock_of b2) (t.locked b n1 (w.safe b from x)) (w.guards b from x h));
  holds = λ base h. p.holds base (w.holds base h);
  sees = λ h. p.sees (sees-as d g1 (lock_of b1) (lock_of b2) n1 (t.locked e n1 (w.safe e of safe)) (w.sees h));
  meets = λ q h x. p.meets q h (t.meets_action q (w.meets q h x)) (t.meets q (w.meets q h x));
  sections = λ base h. p.sections base (t.sections base z1 (w.sections base h));
  cost = omega (arith, w.cost, t.cost, p.cost);
  down = p.down;
}

-- a block ended, and then its section
pub went-left : (d : Declared) (l : ℕ) (z z1 z2 : Around) (v : Option (List ℕ)) (p : ℕ) (s0 s1 s2 : State ℕ) (g0 g1 g2 : Guarded) (n0 n1 : Names) (b0 b1 b2 : List Open) (lives lives' lives'' : Lives) (a0 a1 a2 : ℕ) (log0 log1 log2 : Option Log) (e : Setting) → IsOf d e → IsSafe e n0 b0 → IfSome log1 (λ es. Leaves p es s1) → IfSome log2 (λ es. Leaves p es s2) →
    Went d l z z1 v s0 s1 g0 g1 n0 n1 b0 b1 lives lives' a0 a1 log0 log1 → Closing b1 b2 → HasLeft l z1 z2 log1 log2 → s2 ≡ s1 → g2 ≡ g1 → lives'' ≡ lives' → a2 ≤ a1 → Went d l z z2 v s0 s2 g0 g2 n0 n1 b0 b2 lives lives'' a0 a2 log0 log2
went-left d l z z1 z2 v p s0 s1 s2 g0 g1 g2 n0 n1 b0 b1 b2 lives lives' lives'' a0 a1 a2 log0 log1 log2 e of safe x x2 w c h same guarded alive n =
    let out : List Entry = entry.Out Plain (h.word + 1) ∷ [] in
    let mine : IsSafe e n1 b1 = w.safe e of safe in
    let quiet : Quiet (lock_of b1) v s2 = rw same w.down in record {
      grew = λ last final more.
          let rest : Part = RunsStack d l (with_begun None z1) v b2 n1 last in
          let quietly : Part = λ t part. Quiet (lock_of b1) v t × rest t part in
          let F : Around → Type 0 = λ y. GrewBy (RunsStack d l y v b2 n1 last) s2 log2 final in
          w.grew last final (grew-join (Stand l out) quietly (RunsStack d l z1 v b1 n1 last) p s1 s2 log1 log2 final
          (λ one two i j. c.runs d l z1 v e n1 last s1 one two mine w.down j.0 (h.word, h.was, (refl, i)) j.1) x x2
          (grew-stand l out s1 log1 log2 h.records) (grew-map rest quietly s2 log2 final (λ part y. (quiet, y)) (subst F h.now_is more)));
      safe = λ b from y. c.safe b n1 (w.safe b from y);
      guards = λ b from y k. rw guarded (guards-as d.maps (is_handler b.kind) l g1 (lock_of b1) (lock_of b2) (c.locked b n1 (w.safe b from y)) (w.guards b from y k));
      holds = λ base y. rw alive (w.holds base y);
      sees = λ k. rw guarded (sees-as d g1 (lock_of b1) (lock_of b2) n1 (c.locked e n1 mine) (w.sees k));
      meets = λ q k y. c.meets q (w.meets q k y);
      sections = λ base y. rw h.now_is ((c.sections base z1 (w.sections base y)).1);
      cost = omega (arith, w.cost, c.cost, n);
      down = quiet-as (lock_of b1) (lock_of b2) v s2 (c.locked e n1 mine) quiet;
    }

pub owns-none : (h : Held) → safe.is_owning (value_of h) ≡ false → OwnsNothing h
owns-none Nothing e = tt
owns-none Null e = tt
owns-none (Object t u n) e = cc
owns-none (Soft t graph u n) e = tt

pub went-end : (d : Declared) (l : ℕ) (z z1 : Around) (v : Option (List ℕ)) (e : Setting) (s0 s1 : State ℕ) (g0 g1 : Guarded) (n0 n1 : Names) (b0 b1 : List Open) (lives lives' : Lives) (a0 a1 : ℕ) (log0 log1 : Option Log) →
    Went d l z z1 v s0 s1 g0 g1 n0 n1 b0 b1 lives lives' a0 a1 log0 log1 → Ended b1 → IsOf d e → IsSafe e n0 b0 → Ran d l z v s0 n0 n1 b0 log0 log1
went-end d l z z1 v e s0 s1 g0 g1 n0 n1 b0 b1 lives lives' a0 a1 log0 log1 w ends of s = record {
  grew = w.grew n1 log1 (grew-none (RunsStack d l z1 v b1 n1 n1) s1 log1 (ends.runs d l z1 v e n1 s1 (w.safe e of s) w.down));
  owns_nothing = λ x. owns-none (n1 x) (ends.safe e n1 (w.safe e of s) x);
}

-- some statements, and then others
pub went-join : (d : Declared) (l : ℕ) (z z1 z2 : Around) (v : Option (List ℕ)) (s0 s1 s2 : State ℕ) (g0 g1 g2 : Guarded) (n0 n1 n2 : Names) (b0 b1 b2 : List Open) (lives lives' lives'' : Lives) (a0 a1 a2 : ℕ) (log0 log1 log2 : Option Log) →
    Went d l z z1 v s0 s1 g0 g1 n0 n1 b0 b1 lives lives' a0 a1 log0 log1 → Went d l z1 z2 v s1 s2 g1 g2 n1 n2 b1 b2 lives' lives'' a1 a2 log1 log2 → Went d l z z2 v s0 s2 g0 g2 n0 n2 b0 b2 lives lives'' a0 a2 log0 log2
went-join d l z z1 z2 v s0 s1 s2 g0 g1 g2 n0 n1 n2 b0 b1 b2 lives lives' lives'' a0 a1 a2 log0 log1 log2 x y = record {
  grew = λ last final q. x.grew last final (y.grew last final q);
  safe = λ e of h. y.safe e of (x.safe e of h);
  guards = λ e of h k. y.guards e of (x.safe e of h) (x.guards e of h k);
  holds = λ base h. y.holds base (x.holds base h);
  sees = λ h. y.sees (x.sees h);
  meets = λ q h k. y.meets q h (x.meets q h k);
  sections = λ base h. y.sections base (x.sections base h);
  cost = omega (arith, x.cost, y.cost);
  down = y.down;
}

-- .. and then all the others
pub went-ran : (d : Declared) (l : ℕ) (z z1 : Around) (v : Option (List ℕ)) (s0 s1 : State ℕ) (g0 g1 : Guarded) (n0 n1 n2 : Names) (b0 b1 : List Open) (lives lives' : Lives) (a0 a1 : ℕ) (log0 log1 log2 : Option Log) →
    Went d l z z1 v s0 s1 g0 g1 n0 n1 b0 b1 lives lives' a0 a1 log0 log1 → Ran d l z1 v s1 n1 n2 b1 log1 log2 → Ran d l z v s0 n0 n2 b0 log0 log2
went-ran d l z z1 v s0 s1 g0 g1 n0 n1 n2 b0 b1 lives lives' a0 a1 log0 log1 log2 x r = record { grew = x.grew n2 log2 r.grew; owns_nothing = r.owns_nothing }

-- what can go on can do so after some statements, where no lock is held
pub went-can : (d : Declared) (l m : ℕ) (z z1 : Around) (v w : Option (List ℕ)) (s0 s1 : State ℕ) (g0 g1 : Guarded) (t0 t1 : NameTable) (b0 b1 : List Open) (lives lives' : Lives) (a0 a1 : ℕ) (log0 log1 : Option Log) → t1.names.keys ≡ t0.names.keys → m ≡ l → w ≡ v → locked_in (lock_of b1) ≡ None →
    CanGoOn d l z v s0 lives t0 b0 → Went d l z z1 v s0 s1 g0 g1 (names_of t0) (names_of t1) b0 b1 lives lives' a0 a1 log0 log1 → CanGoOn d m z1 w s1 lives' t1 b1
went-can d l m z z1 v w s0 s1 g0 g1 t0 t1 b0 b1 lives lives' a0 a1 log0 log1 k level e free c x = record {
  holds = (c.holds.0, x.holds c.holds.0 c.holds.1);
  sees_nothing = sees-free d g1 (lock_of b1) (names_of t1) free (x.sees (sees-nothing d g0 (lock_of b0) (names_of t0) c.sees_nothing));
  may = rw (same-names t0 t1 k) (x.meets (may_run d (has_name t0)) (may-inherits d (has_name t0)) c.may);
  accepted = (c.accepted.0, c.accepted.1, c.accepted.2, (λ h. level ∙ c.accepted.3 h), x.safe c.accepted.0 (c.accepted.1, c.accepted.2) c.accepted.4);
  unlocked = no-lock (lock_of b1) free;
  sections = (c.sections.0, x.sections c.sections.0 c.sections.1);
  down = rw e (quiet-free (lock_of b1) v s1 free x.down);
}

-- what a script that can go on knows of the lock
pub can-guards : (d : Declared) (l : ℕ) (z : Around) (w : Option (List ℕ)) (s : State ℕ) (g : Guarded) (lives : Lives) (t : NameTable) (os : List Open) → (l ≡ 0 → g.lock ≡ None) → (c : CanGoOn d l z w s lives t os) → Guards d.maps (is_handler c.accepted.0.kind) l g (lock_of os)
can-guards d l z w s g lives t os free c =
    let none : locked_in (lock_of os) ≡ None = ap locked_in c.unlocked in record {
      ground = c.accepted.3;
      none = λ h. c.unlocked;
      held = λ q. free q ∙ sym (ap place_in none);
      declared = subst (IsLock d.maps) (sym none) tt;
    }

pub can-quiet : (d : Declared) (l : ℕ) (z : Around) (w : Option (List ℕ)) (s : State ℕ) (lives : Lives) (t : NameTable) (os : List Open) → CanGoOn d l z w s lives t os → Quiet (lock_of os) w s
can-quiet d l z w s lives t os c = quiet-as NoLock (lock_of os) w s (ap locked_in c.unlocked) c.down

-- where a script yields no lock is held
pub yield-free : (b : Setting) (names : Names) (k : HeldLock) (a : Action) (Q : safe.Store → Type 0) (now : Option MapId) → true ≡ is_yield a → safe.SafeAction b (store_of names k) a Q → now ≡ lock_left (locked_in k) a → now ≡ None
yield-free b names k Yield Q now yields it e = e ∙ ap locked_in it.1
yield-free b names k (New x t values) Q now yields it e = cc
yield-free b names k (Drop x) Q now yields it e = cc
yield-free b names k (Acquire y x) Q now yields it e = cc
yield-free b names k (Get x f) Q now yields it e = cc
yield-free b names k (Exchange y s x) Q now yields it e = cc
yield-free b names k (If' x body otherwise) Q now yields it e = cc
yield-free b names k (Repeat n body) Q now yields it e = cc
yield-free b names k (Section body) Q now yields it e = cc
yield-free b names k (Lock g) Q now yields it e = cc
yield-free b names k Unlock Q now yields it e = cc
yield-free b names k (PushFront q x) Q now yields it e = cc
yield-free b names k (PushBack q x) Q now yields it e = cc
yield-free b names k (PopFront x q) Q now yields it e = cc
yield-free b names k (PopBack x q) Q now yields it e = cc
yield-free b names k (Add t x) Q now yields it e = cc
yield-free b names k (First x t) Q now yields it e = cc
yield-free b names k (Remove y t x) Q now yields it e = cc

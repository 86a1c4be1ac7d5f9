-- The free counts agree with the lists, but for what waits: the count is told in a step of its own.
-- (unit_alloc and unit_free in kernel/bpf/memalloc.c count after the take and after the push.)
use Rattle.std.specs.Prelude.{◌≡◌, ◌<◌, ◌≤◌, ℕ, ◌+◌, Bool, true, false, length, if◌then◌else◌, eqb}
use Rattle.bm_journal.specs.declared.entry.Entry.{Entry}
use Rattle.bm_journal.specs.declared.entry.Entry.TheVariants as entry
use Rattle.bm_law.specs.declared.mark.Mark.{Mark}
use Rattle.bm_law.specs.declared.mark.Mark.TheVariants as mark
use Rattle.bm_law.specs.State.{Row, State}
use Rattle.bm_law.specs.Lists.{CountsTo}
use Rattle.bm_law.specs.Stands.{sum_to}

-- a pop, or a push, of class c waits at a level with this mark: 1 or 0
abbrev pub took : ℕ → Mark → ℕ
took c (mark.Took d) = if eqb d c then 1 else 0
took c _ = 0

abbrev pub gave : ℕ → Mark → ℕ
gave c (mark.Gave d) = if eqb d c then 1 else 0
gave c _ = 0

-- how many pops, and pushes, of class c wait for their count
unfoldable pub pops_waiting : {A : Type 0} → ℕ → State A → ℕ
pops_waiting c s = sum_to 4 (λ l. took c (s.sides l).mark)

unfoldable pub pushes_waiting : {A : Type 0} → ℕ → State A → ℕ
pushes_waiting c s = sum_to 4 (λ l. gave c (s.sides l).mark)

-- A cache for which so many pops and pushes wait: at most one does, none where the cache is not active, and the free
-- count is the length of Free, plus one while a pop waits and less one while a push does.
pub record Agrees {A : Type 0} (pops pushes : ℕ) (r : Row A) : Type 0 where
  pub one : pops + pushes ≤ 1
  pub none : r.active ≡ 0 → pops + pushes ≡ 0
  pub count : r.count + pushes ≡ length r.free + pops

-- each cache of a state
abbrev pub CountsAgree : {A : Type 0} → State A → Type 0
CountsAgree s = (c : ℕ) → Agrees (pops_waiting c s) (pushes_waiting c s) (s.rows c)

-- a level with this mark waits for a count
abbrev pub is_waiting : Mark → Bool
is_waiting (mark.Took d) = true
is_waiting (mark.Gave d) = true
is_waiting _ = false

-- The entry stands where the grammar of calls has it, as far as the counts go: one that ends what its level waited for
-- finds no count waiting there; a pop and a push find an active cache for which nothing waits, and a unit; a count is
-- one that waits; the last leave, and a sweep, find nothing waiting.
abbrev pub Steady : {A : Type 0} → ℕ → Entry → State A → Type 0
Steady l (entry.Free u home) s = is_waiting (s.sides l).mark ≡ false
Steady l (entry.Delay u home) s = is_waiting (s.sides l).mark ≡ false
Steady l (entry.Enter c a) s = is_waiting (s.sides l).mark ≡ false
Steady l (entry.Leave c a) s =
    ((s.rows c).active ≡ a + 1) × (a ≡ 0 → pops_waiting c s + pushes_waiting c s ≡ 0)
Steady l (entry.Pop c u) s =
    (is_waiting (s.sides l).mark ≡ false) × (0 < (s.rows c).active)
    × (pops_waiting c s + pushes_waiting c s ≡ 0) × (0 < length (s.rows c).free)
Steady l (entry.Push c u) s =
    (is_waiting (s.sides l).mark ≡ false) × (0 < (s.rows c).active)
    × (pops_waiting c s + pushes_waiting c s ≡ 0) × (0 < length (s.sides l).hand)
Steady l (entry.Count c k) s = CountsTo (s.sides l).mark c (s.rows c).count k
Steady l (entry.Delayed c u) s = is_waiting (s.sides l).mark ≡ false
Steady l (entry.Look c k) s = is_waiting (s.sides l).mark ≡ false
Steady l (entry.Put c u) s = is_waiting (s.sides l).mark ≡ false
Steady l (entry.Lost c) s = is_waiting (s.sides l).mark ≡ false
Steady l (entry.LookDelayed c k) s = is_waiting (s.sides l).mark ≡ false
Steady l (entry.PutDelayed c u) s = is_waiting (s.sides l).mark ≡ false
Steady l (entry.LostDelayed c) s = is_waiting (s.sides l).mark ≡ false
Steady l (entry.Ready c u) s = is_waiting (s.sides l).mark ≡ false
Steady l (entry.Second c u) s = is_waiting (s.sides l).mark ≡ false
Steady l (entry.Fetch c want us) s = is_waiting (s.sides l).mark ≡ false
Steady l (entry.TakeExtra c us) s = is_waiting (s.sides l).mark ≡ false
Steady l (entry.Send c p us) s = is_waiting (s.sides l).mark ≡ false
Steady l (entry.Sweep c us) s = pops_waiting c s + pushes_waiting c s ≡ 0
Steady l _ s = Unit {0}

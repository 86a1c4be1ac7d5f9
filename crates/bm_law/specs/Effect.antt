-- What an entry does to the lists. One equation for each entry that does anything.
-- (The lists' moves are those of kernel/bpf/memalloc.c: unit_alloc, unit_free, unit_free_rcu, alloc_bulk, free_bulk,
-- do_call_rcu, check_free_by_rcu. Parcels, stamps, hands and the closing are this project's own.)
use Rattle.std.specs.Prelude.{ℕ, ◌+◌, ◌-◌, true, false, Some, None, List, [], ◌∷◌, ◌++◌, length, take, drop, reverse}
use Rattle.bm_journal.specs.declared.ids.Domain.{Domain}
use Rattle.bm_journal.specs.declared.ids.Domain.TheVariants.{Plain, Tracing}
use Rattle.bm_journal.specs.declared.entry.Entry.{Entry}
use Rattle.bm_journal.specs.declared.entry.Entry.TheVariants as entry
use Rattle.bm_law.specs.declared.mark.Mark.{Mark}
use Rattle.bm_law.specs.declared.mark.Mark.TheVariants as mark
use Rattle.bm_law.specs.State.{State, Deferred, on_row, on_side, seven_lists}

-- the target after a raise of the active number: the home of the unit whose free has begun at this level, if one has
abbrev pub aimed : Mark → ℕ → ℕ
aimed (mark.Bound home delayed) target = home
aimed _ target = target

-- a batch of this domain has the stamp x, or has not taken one yet, which is 0
abbrev pub stamped : {A : Type 0} → Domain → ℕ → Deferred A → Deferred A
stamped Plain x d = record d { plain = Some x }
stamped Tracing x d = record d { tracing = Some x }

-- All of the hand is sent, or all of First where the hand is empty; that ends the plain batch.
abbrev pub sent : {A : Type 0} → ℕ → ℕ → List A → State A → State A
sent c l [] s =
    on_row c (λ r. record r { deferred = record r.deferred { first = []; plain = None } }) s
sent c l (u ∷ us) s = on_side l (λ h. record { hand = []; mark = mark.Quiet }) s

-- The state after an entry of level l. `units` are those that it brings from outside: from the stock, from a parcel,
-- or the unit that is freed. A single unit goes on top, and comes off the top. Where units are moved one by one the
-- last one ends on top; in every other move of a list the first one does. A hand keeps its units in the order in which
-- they came, and the one that came first leaves first.
abbrev pub effect : {A : Type 0} → ℕ → Entry → List A → State A → State A
effect l (entry.Fill c us) units s =
    on_row c (λ r. record r { free = reverse units ++ r.free; count = r.count + length units }) s
-- a free begins
effect l (entry.Free u home) units s =
    on_side l (λ h. record { hand = h.hand ++ units; mark = mark.Bound home false }) s
effect l (entry.Delay u home) units s =
    on_side l (λ h. record { hand = h.hand ++ units; mark = mark.Bound home true }) s
-- the active number
effect l (entry.Enter c a) units s =
    on_row c (λ r. record r { active = r.active + 1; target = aimed (s.sides l).mark r.target })
    (on_side l (λ h. record h { mark = mark.Quiet }) s)
effect l (entry.Leave c a) units s = on_row c (λ r. record r { active = r.active - 1 }) s
-- Free and its count
effect l (entry.Pop c u) units s =
    on_row c (λ r. record r { free = drop 1 r.free })
    (on_side l (λ h. record { hand = h.hand ++ take 1 (s.rows c).free; mark = mark.Took c }) s)
effect l (entry.Push c u) units s =
    on_row c (λ r. record r { free = take 1 (s.sides l).hand ++ r.free })
    (on_side l (λ h. record { hand = drop 1 h.hand; mark = mark.Gave c }) s)
effect l (entry.Count c k) units s =
    on_row c (λ r. record r { count = k }) (on_side l (λ h. record h { mark = mark.Quiet }) s)
-- the flag
effect l (entry.Raise c) units s = on_row c (λ r. record r { raised = true }) s
effect l (entry.Work c) units s = on_row c (λ r. record r { raised = false }) s
-- Delayed, Extra and ExtraDelayed
effect l (entry.Delayed c u) units s =
    on_row c (λ r. record r { delayed = take 1 (s.sides l).hand ++ r.delayed })
    (on_side l (λ h. record { hand = drop 1 h.hand; mark = mark.Quiet }) s)
effect l (entry.Look c k) units s = on_side l (λ h. record h { mark = mark.Saw c k }) s
effect l (entry.Put c u) units s =
    on_row c (λ r. record r { extra = take 1 (s.sides l).hand ++ r.extra })
    (on_side l (λ h. record { hand = drop 1 h.hand; mark = mark.Quiet }) s)
effect l (entry.Lost c) units s = on_side l (λ h. record h { mark = mark.Quiet }) s
effect l (entry.LookDelayed c k) units s =
    on_side l (λ h. record h { mark = mark.SawDelayed c k }) s
effect l (entry.PutDelayed c u) units s =
    on_row c (λ r. record r { extra_delayed = take 1 (s.sides l).hand ++ r.extra_delayed })
    (on_side l (λ h. record { hand = drop 1 h.hand; mark = mark.Quiet }) s)
effect l (entry.LostDelayed c) units s = on_side l (λ h. record h { mark = mark.Quiet }) s
-- a unit is given
effect l (entry.Given u life) units s = on_side l (λ h. record h { hand = drop 1 h.hand }) s
effect l (entry.GivenAfter u life stamp seen) units s =
    on_side l (λ h. record h { hand = drop 1 h.hand }) s
-- refill and drain
effect l (entry.Receive c us) units s =
    on_row c (λ r. record r { deferred = record r.deferred { ready = units ++ r.deferred.ready } })
    s
effect l (entry.Ready c u) units s =
    on_row c (λ r. record r { deferred = record r.deferred { ready = drop 1 r.deferred.ready } })
    (on_side l
    (λ h. record { hand = h.hand ++ take 1 (s.rows c).deferred.ready; mark = mark.Quiet }) s)
effect l (entry.Second c u) units s =
    on_row c (λ r. record r { deferred = record r.deferred { second = drop 1 r.deferred.second } })
    (on_side l
    (λ h. record { hand = h.hand ++ take 1 (s.rows c).deferred.second; mark = mark.Quiet }) s)
effect l (entry.Fetch c want us) units s =
    on_side l (λ h. record { hand = h.hand ++ units; mark = mark.Quiet }) s
effect l (entry.TakeExtra c us) units s =
    on_row c (λ r. record r { extra = [] })
    (on_side l (λ h. record { hand = h.hand ++ (s.rows c).extra; mark = mark.Quiet }) s)
effect l (entry.Send c p us) units s = sent c l (s.sides l).hand s
-- the first stage
effect l (entry.TakeDelayed c us) units s =
    on_row c (λ r. record r { delayed = reverse r.extra_delayed ++ r.delayed; extra_delayed = [] })
    s
effect l (entry.Batch c us) units s =
    on_row c
    (λ r. record r {
      delayed = [];
      deferred =
          record r.deferred { first = r.delayed ++ r.deferred.first; plain = Some 0 };
    })
    s
effect l (entry.Stamp c d x) units s =
    on_row c (λ r. record r { deferred = stamped d x r.deferred }) s
-- the second stage and the closing
effect l (entry.BeginSecond c us) units s =
    on_row c
    (λ r. record r {
      deferred =
          record r.deferred {
            ready = [];
            second = r.deferred.ready ++ r.deferred.second;
            tracing = Some 0;
          };
    })
    s
effect l (entry.Return c us) units s =
    on_row c (λ r. record r { deferred = record r.deferred { second = []; tracing = None } }) s
effect l (entry.Sweep c us) units s =
    on_row c
    (λ r. record r {
      free = [];
      extra = [];
      delayed = [];
      extra_delayed = [];
      count = 0;
      deferred =
          record r.deferred {
            first = [];
            ready = [];
            second = seven_lists r ++ units;
            tracing = Some 0;
          };
    })
    s
-- All others leave the lists as they are.
effect l _ units s = s

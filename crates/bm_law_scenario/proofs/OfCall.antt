-- A block writes what its calls write.
use Rattle.std.proofs.Common.{ℕ, Bool, true, false, List, [], ◌∷◌, Option, Some, None, sym, subst, inl, inr, nat_lt, if◌then◌else◌}
use Rattle.bm_class.specs.Sizes.{size_of_class}
use Rattle.bm_class.specs.Watermarks.{low_of_size, high_of_size}
use Rattle.bm_journal.specs.declared.entry.Entry.{Entry}
use Rattle.bm_journal.specs.declared.entry.Entry.TheVariants as entry
use Rattle.bm_journal.specs.declared.past.PastCall.{PastCall}
use Rattle.bm_journal.specs.declared.past.PastCall.TheVariants as past
use Rattle.bm_graph.specs.Entries.{call_entry}
use Rattle.bm_law.specs.Phrases.{given, raise_below, overtaken, overtaken_delayed, raise_unless, DelayPhrase, FreePhrase}
use Rattle.bm_law_work.proofs.Each.{AllOf, of-append}
use Rattle.bm_law_scenario.specs.CallEntries.{IsOfStatement}
use Rattle.bm_law_scenario.specs.Calls.{Allocates}
use Rattle.bm_law_scenario.specs.Declared.{Declared}
use Rattle.bm_law_scenario.proofs.Freed.{either-free}
use Rattle.bm_law_scenario.proofs.RunsAll.{Closed}

abbrev pub OfCalls : List Entry → Type 0
OfCalls es = AllOf IsOfStatement es

of-raise : (c : ℕ) (b : Bool) → OfCalls (if b then entry.Raise c ∷ [] else [])
of-raise c true = (tt, tt)
of-raise c false = tt

of-given : (u life : ℕ) (seal : Option (ℕ × ℕ)) → IsOfStatement (given u life seal)
of-given u life None = tt
of-given u life (Some seal) = tt

of-overtaken : (c : ℕ) (ks : List ℕ) → OfCalls (overtaken c ks)
of-overtaken c [] = tt
of-overtaken c (k ∷ ks) = (tt, (tt, of-overtaken c ks))

of-alloc : (c : ℕ) (own : List Entry) (reply : Option (ℕ × ℕ)) → Allocates c own reply → OfCalls own
of-alloc c own (Some o) x = subst OfCalls (sym x.3) (tt, (tt, (tt, (tt, of-append IsOfStatement (raise_below c x.1) (given o.0 o.1 x.0 ∷ []) (of-raise c (nat_lt x.1 (low_of_size (size_of_class c)))) (of-given o.0 o.1 x.0, tt)))))
of-alloc c own None (inl x) = subst OfCalls (sym x.1) (tt, (tt, (tt, of-append IsOfStatement (raise_below c 0) (entry.Empty ∷ []) (of-raise c (nat_lt 0 (low_of_size (size_of_class c)))) (tt, tt))))
of-alloc c own None (inr x) = subst OfCalls (sym x.3) (tt, (tt, of-append IsOfStatement (raise_below c 0) (entry.Busy x.0 ∷ []) (of-raise c (nat_lt 0 (low_of_size (size_of_class c)))) (tt, tt)))

of-free : (c u home : ℕ) (own : List Entry) → FreePhrase c u home own → OfCalls own
of-free c u home own (inl x) = subst OfCalls (sym x.2) (tt, (tt, (tt, (tt, (tt, of-raise c (nat_lt (high_of_size (size_of_class c)) x.0))))))
of-free c u home own (inr x) = subst OfCalls (sym x.5) (tt, (tt, of-append IsOfStatement (overtaken c x.1) (entry.Look c x.2 ∷ entry.Put c u ∷ entry.Leave c x.3 ∷ []) (of-overtaken c x.1) (tt, (tt, (tt, tt)))))

of-overtaken_delayed : (c : ℕ) (ks : List ℕ) → OfCalls (overtaken_delayed c ks)
of-overtaken_delayed c [] = tt
of-overtaken_delayed c (k ∷ ks) = (tt, (tt, of-overtaken_delayed c ks))

of-unless : (b : Bool) (c : ℕ) → OfCalls (raise_unless b c)
of-unless true c = tt
of-unless false c = (tt, tt)

of-delay : (c u home : ℕ) (batch : Bool) (own : List Entry) → DelayPhrase c u home batch own → OfCalls own
of-delay c u home batch own (inl x) = subst OfCalls (sym x.1) (tt, (tt, (tt, (tt, of-unless batch c))))
of-delay c u home batch own (inr x) = subst OfCalls (sym x.5) (tt, (tt, of-append IsOfStatement (overtaken_delayed c x.1) (entry.LookDelayed c x.2 ∷ entry.PutDelayed c u ∷ entry.Leave c x.3 ∷ raise_unless batch c) (of-overtaken_delayed c x.1) (tt, (tt, (tt, of-unless batch c)))))

-- a call on a list or tree
pub of-graph_call : (graph : List ℕ) (position : ℕ) (owner : List ℕ) (call : PastCall) → IsOfStatement (call_entry graph position owner call)
of-graph_call graph position owner (past.PushFront id) = tt
of-graph_call graph position owner _ = tt

pub of-calls : (d : Declared) → Closed d OfCalls
of-calls d = record {
  none = tt;
  join = of-append IsOfStatement;
  new = λ x t values names part after r. subst OfCalls (sym r.part_is) (tt, of-alloc r.class r.own r.reply r.allocates);
  dropped = λ x names part after r. subst OfCalls (sym r.part_is) (tt, (tt, either-free OfCalls r.declared.counted r.class r.unit r.home r.batch r.own (of-free r.class r.unit r.home r.own) (of-delay r.class r.unit r.home r.batch r.own) r.frees));
  still = λ x names part after r. subst OfCalls (sym r.part_is) (tt, (tt, tt));
  acquired = λ y x names part after r. subst OfCalls (sym r.part_is) (tt, tt);
  read = λ x field names part after r. subst OfCalls (sym r.part_is) (tt, tt);
  exchanged = λ y slot given names part after r. subst OfCalls (sym r.part_is) (tt, tt);
  locks = λ graph. (tt, tt);
  unlocks = λ graph. (tt, tt);
  calls = λ graph position owner call. (of-graph_call graph position owner call, tt);
  enters = λ w. (tt, tt);
  leaves = λ w. (tt, tt);
  yields = (tt, tt);
}

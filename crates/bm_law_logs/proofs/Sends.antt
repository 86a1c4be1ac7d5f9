-- Entries of a front send parcels of opened classes alone, and sweep nothing.
use Rattle.std.proofs.Common.{[], ◌∷◌, ◌≡◌, ℕ, true, List, sym, subst}
use Rattle.bm_journal.specs.declared.entry.Entry.{Entry}
use Rattle.bm_journal.specs.declared.entry.Entry.TheVariants as entry
use Rattle.bm_lang.specs.declared.scenario.Parts.{Parts}
use Rattle.bm_law.specs.Spans.{own_entries}
use Rattle.bm_law_work.proofs.Each.{AllOf, of-append, of-map}
use Rattle.bm_law_scenario.specs.Declared.{declared_in}
use Rattle.bm_law_scenario.specs.CallEntries.{IsOfStatement}
use Rattle.bm_law_scenario.specs.Opened.{opened_classes}
use Rattle.bm_law_scenario.specs.WorkEntries.{IsOfWork}
use Rattle.bm_law_scenario.proofs.FrontLaws.{Written}
use Rattle.bm_law_scenario.proofs.OfCall.{of-calls}
use Rattle.bm_law_scenario.proofs.OfWork.{work-writes}
use Rattle.bm_graph.specs.Entries.{call_entry}
use Rattle.bm_law_scenario.proofs.PartLaws.{among}
use Rattle.bm_law_logs.proofs.QuietEntries.{IsQuiet}

-- a parcel that is sent is of one of these classes, and nothing is swept
abbrev pub SendsOf : List ℕ → Entry → Type 0
SendsOf cs (entry.Send c to us) = among c cs ≡ true
SendsOf cs (entry.Sweep c us) = ⊥
SendsOf cs _ = Unit {0}

abbrev pub AllSendOf : List ℕ → List Entry → Type 0
AllSendOf cs es = AllOf (SendsOf cs) es

pub quiet-sends : (cs : List ℕ) (e : Entry) → IsQuiet e → SendsOf cs e
quiet-sends cs (entry.Send c to us) q = absurd q
quiet-sends cs (entry.Sweep c us) q = absurd q
quiet-sends cs _ q = tt

call-sends : (cs : List ℕ) (e : Entry) → IsOfStatement e → SendsOf cs e
call-sends cs (entry.Send c to us) q = absurd q
call-sends cs (entry.Sweep c us) q = absurd q
call-sends cs _ q = tt

work-sends : (cs : List ℕ) (c : ℕ) → among c cs ≡ true → (e : Entry) → IsOfWork c e → SendsOf cs e
work-sends cs c m (entry.Send d to us) q = subst (λ k. among k cs ≡ true) (sym q) m
work-sends cs c m (entry.Sweep d us) q = absurd q
work-sends cs c m _ q = tt

pub front-sends : (s : Parts) → Written s (AllSendOf (opened_classes s.types))
front-sends s =
    let cs : List ℕ = opened_classes s.types in
    let calls = of-calls (declared_in s) in
    record {
      closed = record {
        none = tt;
        join = of-append (SendsOf cs);
        new = λ x t values names part after r. of-map IsOfStatement (SendsOf cs) (call-sends cs) part (calls.new x t values names part after r);
        dropped = λ x names part after r. of-map IsOfStatement (SendsOf cs) (call-sends cs) part (calls.dropped x names part after r);
        still = λ x names part after r. of-map IsOfStatement (SendsOf cs) (call-sends cs) part (calls.still x names part after r);
        acquired = λ y x names part after r. of-map IsOfStatement (SendsOf cs) (call-sends cs) part (calls.acquired y x names part after r);
        read = λ x field names part after r. of-map IsOfStatement (SendsOf cs) (call-sends cs) part (calls.read x field names part after r);
        exchanged = λ y slot given names part after r. of-map IsOfStatement (SendsOf cs) (call-sends cs) part (calls.exchanged y slot given names part after r);
        locks = λ graph. (tt, tt);
        unlocks = λ graph. (tt, tt);
        calls = λ graph position owner call. of-map IsOfStatement (SendsOf cs) (call-sends cs) (call_entry graph position owner call ∷ []) (calls.calls graph position owner call);
        enters = λ w. (tt, tt);
        leaves = λ w. (tt, tt);
        yields = (tt, tt);
      };
      fill = λ c us m. (tt, tt);
      begins = λ d name w. (tt, (tt, tt));
      ends = λ d name w. (tt, (tt, tt));
      work = λ c m t part h. of-map (IsOfWork c) (SendsOf cs) (work-sends cs c m) (own_entries 0 part) (work-writes 0 c t part h);
    }

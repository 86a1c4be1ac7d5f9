-- A lawful log returns what has waited.
use Rattle.std.proofs.Common.{ℕ, zero, suc, List, [], ◌∷◌, ◌++◌, Option, None, Some, sym, subst}
use Rattle.bm_journal.specs.declared.ids.Domain.{Domain}
use Rattle.bm_journal.specs.declared.ids.Domain.TheVariants.{Plain, Tracing}
use Rattle.bm_journal.specs.declared.entry.Entry.{Entry}
use Rattle.bm_journal.specs.declared.entry.Entry.TheVariants as entry
use Rattle.bm_lang.specs.declared.scenario.Parts.{Parts}
use Rattle.bm_page.specs.Stock.{Stock, fetched}
use Rattle.bm_due.specs.Standing.{HandlersStand}
use Rattle.bm_law.specs.Lists.{Leaves, Log}
use Rattle.bm_law.specs.State.{State, opening, seven_lists}
use Rattle.bm_law_work.specs.Parts.{Part, Nothing, Say, Stand, Then}
use Rattle.bm_law_work.proofs.Each.{AllOf, of-map, part-say, part-stand}
use Rattle.bm_law_scenario.specs.Declared.{declared_in}
use Rattle.bm_law_scenario.specs.CallEntries.{IsOfStatement, IsOfHandler}
use Rattle.bm_law_scenario.specs.Calls.{RunsAcquire, RunsExchange, RunsGet, RunsDrop, RunsNew, RunsStill, any_batch}
use Rattle.bm_law_scenario.specs.Closing.{AreSweeps, Closing, Empties, EndsOne, EndsPeriods, IsEnd, SweepWhere, close_of, in_progress}
use Rattle.bm_law_scenario.specs.Fills.{AreFills, prefill}
use Rattle.bm_law_scenario.specs.Grammar.{Front, IsLog}
use Rattle.bm_law_scenario.specs.Handlers.{HandlersDone}
use Rattle.bm_law_scenario.specs.Opened.{opened_classes}
use Rattle.bm_law_scenario.proofs.EachLevel.{AllAbove, above-map, handlers-above}
use Rattle.bm_law_scenario.proofs.OfCall.{of-calls}
use Rattle.bm_law_lives.specs.StampLaw.{ReturnsFit}
use Rattle.bm_graph.specs.Entries.{call_entry}
use Rattle.bm_law_scenario.specs.WorkEntries.{KeepsBatch}
use Rattle.bm_law_logs.proofs.Batches.{ReturnsBy, Stood, keeps-say, nothing-at, returns-laws, then-at}
use Rattle.bm_law_scenario.proofs.FrontLaws.{Fronted, front-law}
use Rattle.bm_law_scenario.proofs.PartLaws.{law-as}
use Rattle.bm_law_scenario.proofs.BlockLaws.{law-empties}
use Rattle.bm_law_logs.proofs.Returned.{where-by, work-by}

abbrev Keep : List Entry → Type 0
Keep es = AllOf KeepsBatch es

call-keeps : (e : Entry) → IsOfStatement e → KeepsBatch e
call-keeps (entry.Stamp c d x) h = absurd h
call-keeps (entry.BeginSecond c us) h = absurd h
call-keeps (entry.Return c us) h = absurd h
call-keeps (entry.Sweep c us) h = absurd h
call-keeps _ h = tt

handler-keeps : (e : Entry) → IsOfHandler e → KeepsBatch e
handler-keeps (entry.Stamp c d x) h = absurd h
handler-keeps (entry.BeginSecond c us) h = absurd h
handler-keeps (entry.Return c us) h = absurd h
handler-keeps (entry.Sweep c us) h = absurd h
handler-keeps _ h = tt

fills-keep : (cs : List ℕ) (pool : Stock) (own : List Entry) → AreFills cs pool own → Keep own
fills-keep [] pool own f = subst Keep (sym f) tt
fills-keep (c ∷ cs) pool own f = subst Keep (sym f.1) (tt, fills-keep cs (fetched c (prefill c) pool).pool f.0 f.2)

says : (phrase : List Entry → Type 0) → ((own : List Entry) → phrase own → Keep own) → ReturnsBy (Say 0 phrase)
says phrase q = keeps-say (Say 0 phrase) (part-say KeepsBatch 0 phrase q)

stands : (own : List Entry) → Keep own → ReturnsBy (Stand 0 own)
stands own q = keeps-say (Stand 0 own) (part-stand KeepsBatch 0 own q)

front-by : (s : Parts) → Fronted s ReturnsBy
front-by s =
    let calls = of-calls (declared_in s) in
    record {
      calls = record {
        new = λ x t values names after. says (λ own. RunsNew s.types x t values names own after) (λ own h. of-map IsOfStatement KeepsBatch call-keeps own (calls.new x t values names own after h));
        dropped = λ x names after. says (λ own. RunsDrop s.types x any_batch names own after) (λ own h. of-map IsOfStatement KeepsBatch call-keeps own (calls.dropped x names own after h));
        still = λ x names after. says (λ own. RunsStill s.types x names own after) (λ own h. of-map IsOfStatement KeepsBatch call-keeps own (calls.still x names own after h));
        acquired = λ y x names after. says (λ own. RunsAcquire s.types y x names own after) (λ own h. of-map IsOfStatement KeepsBatch call-keeps own (calls.acquired y x names own after h));
        read = λ x field names after. says (λ own. RunsGet s.types x field names own after) (λ own h. of-map IsOfStatement KeepsBatch call-keeps own (calls.read x field names own after h));
        exchanged = λ y slot given names after. says (λ own. RunsExchange s.maps y slot given names own after) (λ own h. of-map IsOfStatement KeepsBatch call-keeps own (calls.exchanged y slot given names own after h));
        locks = λ graph. stands (entry.Lock graph ∷ []) (tt, tt);
        unlocks = λ graph. stands (entry.Unlock graph ∷ []) (tt, tt);
        calls = λ graph position owner call. stands (call_entry graph position owner call ∷ []) (of-map IsOfStatement KeepsBatch call-keeps (call_entry graph position owner call ∷ []) (calls.calls graph position owner call));
        enters = λ w. stands (entry.In Plain w ∷ []) (tt, tt);
        leaves = λ w. stands (entry.Out Plain w ∷ []) (tt, tt);
        yields = stands (entry.Yield ∷ []) (tt, tt);
        silent = stands [] tt;
      };
      fills = λ pool. says (AreFills (opened_classes s.types) pool) (λ own h. fills-keep (opened_classes s.types) pool own h);
      begins = λ d name w. stands (entry.Script name ∷ entry.In d w ∷ []) (tt, (tt, tt));
      ends = λ d name w. stands (entry.Out d w ∷ entry.Done name ∷ []) (tt, (tt, tt));
      work = λ c m. work-by c;
    }

-- ---- the closing

ends-by : (d : Domain) (begun : Option ℕ) → ReturnsBy (EndsOne d begun)
ends-by d None = nothing-at
ends-by d (Some n) = says (IsEnd d n) (λ own h. subst Keep (sym h.3) (tt, tt))

sweeps-by : (cs : List ℕ) → ReturnsBy (AreSweeps cs)
sweeps-by [] = law-as ReturnsBy returns-laws Nothing (AreSweeps []) nothing-at (λ s part h. h)
sweeps-by (c ∷ cs) =
    returns-laws.cases (List ℕ × State ℕ) (λ x. Then (SweepWhere c (seven_lists (x.1.rows c) ++ x.0)) (AreSweeps cs)) (AreSweeps (c ∷ cs))
    (λ x. returns-laws.both (SweepWhere c (seven_lists (x.1.rows c) ++ x.0)) (AreSweeps cs) (where-by c (seven_lists (x.1.rows c) ++ x.0)) (sweeps-by cs)) (λ s part h. ((h.0, s), h.1))

close-keeps : (p : ℕ) → Keep (entry.Ended ∷ close_of p)
close-keeps zero = (tt, (tt, tt))
close-keeps (suc p) = (tt, tt)

empties-by : (s : Parts) (p : ℕ) → ReturnsBy (Empties p (declared_in s))
empties-by s p = law-empties (declared_in s) ReturnsBy returns-laws (front-by s).calls Nothing nothing-at (λ slot was by. stands (entry.Xchg slot None was by ∷ []) (tt, tt)) p

closing-by : (s : Parts) (p : ℕ) (classes : List ℕ) (log : Log) → ReturnsBy (Closing (declared_in s) p classes log)
closing-by s p classes log =
    let head : Part = Stand 0 (entry.Ended ∷ close_of p) in
    let ends : Part = EndsPeriods log in
    let empties : Part = Empties p (declared_in s) in
    returns-laws.both head (Then empties (Then ends (AreSweeps classes))) (stands (entry.Ended ∷ close_of p) (close-keeps p))
    (returns-laws.both empties (Then ends (AreSweeps classes)) (empties-by s p)
    (returns-laws.both ends (AreSweeps classes)
    (returns-laws.both (EndsOne Plain (in_progress Plain None log)) (EndsOne Tracing (in_progress Tracing None log)) (ends-by Plain (in_progress Plain None log)) (ends-by Tracing (in_progress Tracing None log)))
    (sweeps-by classes)))

-- ---- a log

none-stands : (p : ℕ) → Stood (opening p) (λ c. [])
none-stands p k x u e = absurd (cc)

pub returned-log : (s : Parts) (p : ℕ) (log : Log) (last : State ℕ) → HandlersStand s p log → HandlersDone s p log → IsLog s p log → Leaves p log last → ReturnsFit (opening p) None (λ c. []) log
returned-log s p log last stand done i leaves =
    let classes = opened_classes s.types in
    let closes : Part = Closing (declared_in s) p classes i.front in
    let above : AllAbove KeepsBatch log = above-map IsOfHandler KeepsBatch handler-keeps log (handlers-above s p log stand done) in
    let whole : Then (Front s p) closes (opening p) log = record { one = i.front; two = i.closing; part_is = i.log_is; is_first = i.is_front; is_second = i.is_closing } in
    (then-at (opening p) (Front s p) closes (front-law s ReturnsBy returns-laws (front-by s) p (opening p)) (closing-by s p classes i.front) None (λ c. []) log leaves.named above (none-stands p) whole).fit

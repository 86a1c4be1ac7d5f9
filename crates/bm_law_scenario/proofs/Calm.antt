-- Entries that have nothing to do with parcels and periods: all that fills and scripts leave where no deferred work runs.
use Rattle.std.proofs.Common.{◌≡◌, ℕ, zero, suc, ◌+◌, Bool, true, false, List, [], ◌∷◌, ◌++◌, refl, sym, ap, ◌∙◌, subst, Option, Some, None, inl, inr, nat_lt, if◌then◌else◌}
use Rattle.bm_class.specs.Sizes.{size_of_class}
use Rattle.bm_class.specs.Watermarks.{low_of_size, high_of_size}
use Rattle.bm_journal.specs.declared.ids.Domain.{Domain}
use Rattle.bm_journal.specs.declared.ids.Domain.TheVariants.{Plain, Tracing}
use Rattle.bm_journal.specs.declared.units.Units.TheVariants.{Whole}
use Rattle.bm_journal.specs.declared.entry.Entry.{Entry}
use Rattle.bm_journal.specs.declared.entry.Entry.TheVariants as entry
use Rattle.bm_journal.specs.declared.past.PastCall.{PastCall}
use Rattle.bm_journal.specs.declared.past.PastCall.TheVariants as past
use Rattle.bm_graph.specs.Entries.{call_entry}
use Rattle.bm_lang.specs.declared.scenario.RunLine.{RunLine}
use Rattle.bm_lang.specs.declared.scenario.Parts.{Parts}
use Rattle.bm_lang.specs.declared.scenario.Script.{Script}
use Rattle.bm_page.specs.Stock.{Stock, fetched}
use Rattle.bm_law.specs.State.{State}
use Rattle.bm_law.specs.Lists.{Log, next, after}
use Rattle.bm_law.specs.Phrases.{given, raise_below, overtaken, overtaken_delayed, raise_unless, DelayPhrase, FreePhrase}
use Rattle.bm_law.specs.SweepPhrases.{PollPhrase}
use Rattle.bm_law_scenario.specs.Declared.{Declared, declared_in}
use Rattle.bm_law_scenario.specs.Held.{no_names}
use Rattle.bm_law_scenario.specs.Calls.{Allocates}
use Rattle.bm_law_scenario.specs.Fills.{AreFills, numbers_of, prefill}
use Rattle.bm_law_scenario.specs.Closing.{close_of, begun_after, in_progress}
use Rattle.bm_law.specs.Inboxes.{Inboxes, inboxes_after}
use Rattle.bm_law_scenario.specs.Parcels.{ParcelFits, ParcelsFit}
use Rattle.bm_law.specs.Ordinary.{ordinary}
use Rattle.bm_law_scenario.specs.Grammar.{section_of, starts_inside}
use Rattle.bm_law_scenario.proofs.OwnGrammar.{IsScript, AreScripts}
use Rattle.bm_law_scenario.proofs.Freed.{either-free}
use Rattle.bm_law_scenario.proofs.RunsAll.{Closed, block-all}
use Rattle.bm_law_scenario.proofs.Spares.{Polled, poll-all}

-- no parcel stands in any inbox
abbrev pub Empty : Inboxes → Type 0
Empty boxes = (c : ℕ) → boxes c ≡ []

-- an entry that may stand where there is no parcel, and then there is none
pub record Quiet (e : Entry) : Type 0 where
  pub fits : (p : ℕ) (s : State ℕ) (boxes : Inboxes) → Empty boxes → ParcelFits p e s boxes
  pub keeps : (p : ℕ) (boxes : Inboxes) → Empty boxes → Empty (inboxes_after p e boxes)

-- one by which no period begins, too
pub record Calm (e : Entry) : Type 0 where
  pub quiet : Quiet e
  pub idle : (d : Domain) → begun_after d None e ≡ None

abbrev pub AllQuiet : List Entry → Type 0
AllQuiet [] = Unit {0}
AllQuiet (e ∷ es) = Quiet e × AllQuiet es

abbrev pub AllCalm : List Entry → Type 0
AllCalm [] = Unit {0}
AllCalm (e ∷ es) = Calm e × AllCalm es

pub quiet-join : (v w : List Entry) → AllQuiet v → AllQuiet w → AllQuiet (v ++ w)
quiet-join [] w a b = b
quiet-join (e ∷ es) w a b = (a.0, quiet-join es w a.1 b)

pub calm-join : (v w : List Entry) → AllCalm v → AllCalm w → AllCalm (v ++ w)
calm-join [] w a b = b
calm-join (e ∷ es) w a b = (a.0, calm-join es w a.1 b)

pub calm-quiet : (es : List Entry) → AllCalm es → AllQuiet es
calm-quiet [] h = tt
calm-quiet (e ∷ es) h = (h.0.quiet, calm-quiet es h.1)

-- ---- what they are good for

-- no period is in progress after such entries
pub calm-idle : (d : Domain) (es : List Entry) → AllCalm es → in_progress d None (ordinary es) ≡ None
calm-idle d [] h = refl
calm-idle d (e ∷ es) h = subst (λ b. in_progress d b (ordinary es) ≡ None) (sym (h.0.idle d)) (calm-idle d es h.1)

-- such entries came first, and what follows fitted
pub quiet-fitted : (p : ℕ) (s : State ℕ) (boxes : Inboxes) (es : List Entry) (rest : Log) → AllQuiet es → Empty boxes → ParcelsFit p s boxes (ordinary es ++ rest) → (more : Inboxes) × Empty more × ParcelsFit p (after s (ordinary es)) more rest
quiet-fitted p s boxes [] rest h z k = (boxes, z, k)
quiet-fitted p s boxes (e ∷ es) rest h z k = quiet-fitted p (next s (0, e)) (inboxes_after p e boxes) es rest h.1 (h.0.keeps p boxes z) k.1

-- ---- single entries

-- nothing is asked of the entry, and it changes no inbox
quiet : (e : Entry) → ((p : ℕ) (s : State ℕ) (boxes : Inboxes) → ParcelFits p e s boxes) → ((p : ℕ) (boxes : Inboxes) → inboxes_after p e boxes ≡ boxes) → Quiet e
quiet e f k = record { fits = λ p s b z. f p s b; keeps = λ p b z c. ap (λ (x : Inboxes). x c) (k p b) ∙ z c }

calm : (e : Entry) → ((p : ℕ) (s : State ℕ) (boxes : Inboxes) → ParcelFits p e s boxes) → ((p : ℕ) (boxes : Inboxes) → inboxes_after p e boxes ≡ boxes) → ((d : Domain) → begun_after d None e ≡ None) → Calm e
calm e f k i = record { quiet = quiet e f k; idle = i }

-- ---- calls

calm-raise : (d : ℕ) (b : Bool) → AllCalm (if b then entry.Raise d ∷ [] else [])
calm-raise d true = (calm (entry.Raise d) (λ p s b. tt) (λ p b. refl) (λ e. refl), tt)
calm-raise d false = tt

calm-given : (u life : ℕ) (seal : Option (ℕ × ℕ)) → Calm (given u life seal)
calm-given u life None = calm (entry.Given u life) (λ p s b. tt) (λ p b. refl) (λ e. refl)
calm-given u life (Some seal) = calm (entry.GivenAfter u life seal.0 seal.1) (λ p s b. tt) (λ p b. refl) (λ e. refl)

calm-alloc : (c : ℕ) (own : List Entry) (reply : Option (ℕ × ℕ)) → Allocates c own reply → AllCalm own
calm-alloc c own (Some o) x = subst AllCalm (sym x.3) (calm (entry.Enter c 1) (λ p s b. tt) (λ p b. refl) (λ d. refl), (calm (entry.Pop c o.0) (λ p s b. tt) (λ p b. refl) (λ d. refl), (calm (entry.Count c x.1) (λ p s b. tt) (λ p b. refl) (λ d. refl), (calm (entry.Leave c x.2) (λ p s b. tt) (λ p b. refl) (λ d. refl), calm-join (raise_below c x.1) (given o.0 o.1 x.0 ∷ []) (calm-raise c (nat_lt x.1 (low_of_size (size_of_class c)))) (calm-given o.0 o.1 x.0, tt)))))
calm-alloc c own None (inl x) = subst AllCalm (sym x.1) (calm (entry.Enter c 1) (λ p s b. tt) (λ p b. refl) (λ d. refl), (calm (entry.PopNone c) (λ p s b. tt) (λ p b. refl) (λ d. refl), (calm (entry.Leave c x.0) (λ p s b. tt) (λ p b. refl) (λ d. refl), calm-join (raise_below c 0) (entry.Empty ∷ []) (calm-raise c (nat_lt 0 (low_of_size (size_of_class c)))) (calm entry.Empty (λ p s b. tt) (λ p b. refl) (λ d. refl), tt))))
calm-alloc c own None (inr x) = subst AllCalm (sym x.3) (calm (entry.Enter c x.0) (λ p s b. tt) (λ p b. refl) (λ d. refl), (calm (entry.Leave c x.1) (λ p s b. tt) (λ p b. refl) (λ d. refl), calm-join (raise_below c 0) (entry.Busy x.0 ∷ []) (calm-raise c (nat_lt 0 (low_of_size (size_of_class c)))) (calm (entry.Busy x.0) (λ p s b. tt) (λ p b. refl) (λ d. refl), tt)))

calm-overtaken : (d : ℕ) (ks : List ℕ) → AllCalm (overtaken d ks)
calm-overtaken d [] = tt
calm-overtaken d (k ∷ ks) = (calm (entry.Look d k) (λ p s b. tt) (λ p b. refl) (λ d. refl), (calm (entry.Lost d) (λ p s b. tt) (λ p b. refl) (λ d. refl), calm-overtaken d ks))

calm-free : (c u home : ℕ) (own : List Entry) → FreePhrase c u home own → AllCalm own
calm-free c u home own (inl x) = subst AllCalm (sym x.2) (calm (entry.Free u home) (λ p s b. tt) (λ p b. refl) (λ d. refl), (calm (entry.Enter c 1) (λ p s b. tt) (λ p b. refl) (λ d. refl), (calm (entry.Push c u) (λ p s b. tt) (λ p b. refl) (λ d. refl), (calm (entry.Count c x.0) (λ p s b. tt) (λ p b. refl) (λ d. refl), (calm (entry.Leave c x.1) (λ p s b. tt) (λ p b. refl) (λ d. refl), calm-raise c (nat_lt (high_of_size (size_of_class c)) x.0))))))
calm-free c u home own (inr x) = subst AllCalm (sym x.5) (calm (entry.Free u home) (λ p s b. tt) (λ p b. refl) (λ d. refl), (calm (entry.Enter c x.0) (λ p s b. tt) (λ p b. refl) (λ d. refl), calm-join (overtaken c x.1) (entry.Look c x.2 ∷ entry.Put c u ∷ entry.Leave c x.3 ∷ []) (calm-overtaken c x.1) (calm (entry.Look c x.2) (λ p s b. tt) (λ p b. refl) (λ d. refl), (calm (entry.Put c u) (λ p s b. tt) (λ p b. refl) (λ d. refl), (calm (entry.Leave c x.3) (λ p s b. tt) (λ p b. refl) (λ d. refl), tt)))))

calm-delayed : (d : ℕ) (ks : List ℕ) → AllCalm (overtaken_delayed d ks)
calm-delayed d [] = tt
calm-delayed d (k ∷ ks) = (calm (entry.LookDelayed d k) (λ p s b. tt) (λ p b. refl) (λ d. refl), (calm (entry.LostDelayed d) (λ p s b. tt) (λ p b. refl) (λ d. refl), calm-delayed d ks))

calm-unless : (b : Bool) (c : ℕ) → AllCalm (raise_unless b c)
calm-unless true c = tt
calm-unless false c = (calm (entry.Raise c) (λ p s b. tt) (λ p b. refl) (λ e. refl), tt)

calm-delay : (c u home : ℕ) (batch : Bool) (own : List Entry) → DelayPhrase c u home batch own → AllCalm own
calm-delay c u home batch own (inl x) = subst AllCalm (sym x.1) (calm (entry.Delay u home) (λ p s b. tt) (λ p b. refl) (λ d. refl), (calm (entry.Enter c 1) (λ p s b. tt) (λ p b. refl) (λ d. refl), (calm (entry.Delayed c u) (λ p s b. tt) (λ p b. refl) (λ d. refl), (calm (entry.Leave c x.0) (λ p s b. tt) (λ p b. refl) (λ d. refl), calm-unless batch c))))
calm-delay c u home batch own (inr x) = subst AllCalm (sym x.5) (calm (entry.Delay u home) (λ p s b. tt) (λ p b. refl) (λ d. refl), (calm (entry.Enter c x.0) (λ p s b. tt) (λ p b. refl) (λ d. refl), calm-join (overtaken_delayed c x.1) (entry.LookDelayed c x.2 ∷ entry.PutDelayed c u ∷ entry.Leave c x.3 ∷ raise_unless batch c) (calm-delayed c x.1) (calm (entry.LookDelayed c x.2) (λ p s b. tt) (λ p b. refl) (λ d. refl), (calm (entry.PutDelayed c u) (λ p s b. tt) (λ p b. refl) (λ d. refl), (calm (entry.Leave c x.3) (λ p s b. tt) (λ p b. refl) (λ d. refl), calm-unless batch c)))))

calm-graph_call : (graph : List ℕ) (position : ℕ) (owner : List ℕ) (call : PastCall) → Calm (call_entry graph position owner call)
calm-graph_call graph position owner (past.PushFront id) = calm (entry.PushFront graph id.unit id.life position) (λ p s b. tt) (λ p b. refl) (λ d. refl)
calm-graph_call graph position owner call = calm (call_entry graph position owner call) (λ p s b. tt) (λ p b. refl) (λ d. refl)

calm-closed : (d : Declared) → Closed d AllCalm
calm-closed d = record {
  none = tt;
  join = calm-join;
  new = λ x t values names part after r. subst AllCalm (sym r.part_is) (calm (entry.New r.declared.name values) (λ p s b. tt) (λ p b. refl) (λ d. refl), calm-alloc r.class r.own r.reply r.allocates);
  dropped = λ x names part after r. subst AllCalm (sym r.part_is) (calm (entry.Drop r.unit r.life) (λ p s b. tt) (λ p b. refl) (λ d. refl), (calm entry.Last (λ p s b. tt) (λ p b. refl) (λ d. refl), either-free AllCalm r.declared.counted r.class r.unit r.home r.batch r.own (calm-free r.class r.unit r.home r.own) (calm-delay r.class r.unit r.home r.batch r.own) r.frees));
  still = λ x names part after r. subst AllCalm (sym r.part_is) (calm (entry.Drop r.unit r.life) (λ p s b. tt) (λ p b. refl) (λ d. refl), (calm (entry.Still r.seen) (λ p s b. tt) (λ p b. refl) (λ d. refl), tt));
  acquired = λ y x names part after r. subst AllCalm (sym r.part_is) (calm (entry.Acquire r.unit r.life r.seen) (λ p s b. tt) (λ p b. refl) (λ d. refl), tt);
  read = λ x field names part after r. subst AllCalm (sym r.part_is) (calm (entry.Get r.unit r.life r.place r.value) (λ p s b. tt) (λ p b. refl) (λ d. refl), tt);
  exchanged = λ y slot given names part after r. subst AllCalm (sym r.part_is) (calm (entry.Xchg r.declared.name r.put r.was r.by) (λ p s b. tt) (λ p b. refl) (λ d. refl), tt);
  locks = λ graph. (calm (entry.Lock graph) (λ p s b. tt) (λ p b. refl) (λ d. refl), tt);
  unlocks = λ graph. (calm (entry.Unlock graph) (λ p s b. tt) (λ p b. refl) (λ d. refl), tt);
  calls = λ graph position owner call. (calm-graph_call graph position owner call, tt);
  enters = λ w. (calm (entry.In Plain w) (λ p s b. tt) (λ p b. refl) (λ d. refl), tt);
  leaves = λ w. (calm (entry.Out Plain w) (λ p s b. tt) (λ p b. refl) (λ d. refl), tt);
  yields = (calm entry.Yield (λ p s b. tt) (λ p b. refl) (λ d. refl), tt);
}

-- ---- fills and scripts

pub calm-fills : (cs : List ℕ) (pool : Stock) (own : List Entry) → AreFills cs pool own → AllCalm own
calm-fills [] pool own e = subst AllCalm (sym e) tt
calm-fills (c ∷ cs) pool own f =
    let got = fetched c (prefill c) pool in
    subst AllCalm (sym f.1) (calm (entry.Fill c (Whole (numbers_of got.units))) (λ p s b. tt) (λ p b. refl) (λ d. refl), calm-fills cs got.pool f.0 f.2)

calm-script : (s : Parts) (x : Script) (w : ℕ) (own : List Entry) → IsScript s x w own → AllCalm own
calm-script s x w own i = subst AllCalm (sym i.own_is) (calm (entry.Script x.name) (λ p s b. tt) (λ p b. refl) (λ d. refl), (calm (entry.In (section_of x.kind) w) (λ p s b. tt) (λ p b. refl) (λ d. refl), calm-join i.part (entry.Out (section_of x.kind) (w + 1) ∷ entry.Done x.name ∷ []) (block-all (declared_in s) AllCalm (calm-closed (declared_in s)) (starts_inside x) x.body no_names i.part i.after i.runs) (calm (entry.Out (section_of x.kind) (w + 1)) (λ p s b. tt) (λ p b. refl) (λ d. refl), (calm (entry.Done x.name) (λ p s b. tt) (λ p b. refl) (λ d. refl), tt))))

pub calm-scripts : (s : Parts) (rs : List RunLine) (own : List Entry) → AreScripts s rs own → AllCalm own
calm-scripts s [] own e = subst AllCalm (sym e) tt
calm-scripts s (r ∷ rs) own x = subst AllCalm (sym x.2.3) (calm-join x.2.1 x.2.2 (calm-script s x.0 x.2.0 x.2.1 x.2.4) (calm-scripts s rs x.2.2 x.2.5))

-- ---- the rest of a sweep

quiet-poll : (c : ℕ) → Polled c Tracing AllQuiet
quiet-poll c = record {
  none = tt;
  join = quiet-join;
  begin = λ e n q. subst (λ x. AllQuiet (x ∷ [])) (sym q) (quiet (entry.Begin Tracing n) (λ p s b. tt) (λ p b. refl), tt);
  pass = λ n. (quiet (entry.Pass c Tracing n) (λ p s b. tt) (λ p b. refl), tt);
  finish = λ e q. subst (λ x. AllQuiet (x ∷ [])) (sym q.2) (quiet (entry.Finish q.0) (λ p s b. tt) (λ p b. refl), tt);
}

-- what stands behind the first entry of a sweep
pub quiet-behind : (c stamp : ℕ) (poll : List Entry) (returned : List ℕ) → PollPhrase c Tracing poll → AllQuiet (entry.Stamp c Tracing stamp ∷ poll ++ entry.Return c (Whole returned) ∷ [])
quiet-behind c stamp poll returned p = (
  quiet (entry.Stamp c Tracing stamp) (λ p s b. tt) (λ p b. refl),
  quiet-join poll (entry.Return c (Whole returned) ∷ []) (poll-all c Tracing AllQuiet (quiet-poll c) poll p) (quiet (entry.Return c (Whole returned)) (λ p s b. tt) (λ p b. refl), tt),
)

-- the end of the scripts
pub calm-ended : (p : ℕ) → AllCalm (entry.Ended ∷ close_of p)
calm-ended zero = (calm entry.Ended (λ p s b. tt) (λ p b. refl) (λ d. refl), (calm entry.Close (λ p s b. tt) (λ p b. refl) (λ d. refl), tt))
calm-ended (suc p) = (calm entry.Ended (λ p s b. tt) (λ p b. refl) (λ d. refl), tt)

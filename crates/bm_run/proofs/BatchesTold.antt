-- The log of a run waits in batches: the lines of its drops stand together, a delayed free puts its unit where it waits, stamps are taken
-- by ordinary code, what waits goes away as a batch, and nothing is given after a sweep. What needs no whole log is said of a stretch of
-- any processor's, or of any order.
use Rattle.std.specs.Prelude.{◌≡◌, ◌≢◌, ◌<◌, ◌++◌, ℕ, zero, suc, Bool, true, false, if◌then◌else◌, nat_lt, List, [], ◌∷◌, Option, Some, None}
use Rattle.std.proofs.Common.{◌∙◌, ap, append-nil, arith, eq-eqb, inl, inr, refl, subst, sym}
use Rattle.std.proofs.lemmas.Bool.Decides.{eqb_tells}
use Rattle.bm_class.specs.Sizes.{size_of_class}
use Rattle.bm_class.specs.Watermarks.{high_of_size, low_of_size}
use Rattle.bm_journal.specs.declared.entry.Entry.{Entry}
use Rattle.bm_journal.specs.declared.entry.Entry.TheVariants as entry
use Rattle.bm_lang.specs.declared.scenario.Parts.{Parts}
use Rattle.bm_page.specs.declared.units.Seal.{Seal}
use Rattle.bm_law.specs.Alone.{AllAt}
use Rattle.bm_law.specs.Lists.{Log, after}
use Rattle.bm_law.specs.Phrases.{DelayPhrase, FreePhrase, given, overtaken, overtaken_delayed, raise_below, raise_unless}
use Rattle.bm_law.specs.Spans.{own_entries}
use Rattle.bm_law.specs.State.{State, opening}
use Rattle.bm_law.proofs.Spans.{own-append}
use Rattle.bm_law_work.proofs.Each.{AllOf, of-append, of-map}
use Rattle.bm_due.specs.Standing.{HandlersStand}
use Rattle.bm_law_scenario.specs.Declared.{Declared, declared_in}
use Rattle.bm_law_scenario.specs.CallEntries.{IsOfHandler, IsOfStatement}
use Rattle.bm_law_scenario.specs.Calls.{Allocates}
use Rattle.bm_law_scenario.specs.Grammar.{Front}
use Rattle.bm_law_scenario.specs.Handlers.{HandlersDone}
use Rattle.bm_law_scenario.specs.WorkEntries.{IsOfWork}
use Rattle.bm_law_scenario.proofs.EachLevel.{AllAbove, Framed, above-back, above-front, handlers-have}
use Rattle.bm_law_scenario.proofs.Freed.{either-free}
use Rattle.bm_law_scenario.proofs.FrontLaws.{Written, front-has}
use Rattle.bm_law_scenario.proofs.Levels.{levels}
use Rattle.bm_law_scenario.proofs.OfCall.{of-calls}
use Rattle.bm_law_scenario.proofs.OfWork.{work-writes}
use Rattle.bm_law_scenario.proofs.RunsAll.{Closed}
use Rattle.bm_graph.specs.Entries.{call_entry}
use Rattle.bm_journal.specs.declared.past.PastCall.{PastCall}
use Rattle.bm_journal.specs.declared.past.PastCall.TheVariants as past
use Rattle.bm_law_order.specs.Act.{Act}
use Rattle.bm_law_order.specs.Chunk.{Chunk, acts_of, entries_of}
use Rattle.bm_law_order.specs.Chunk as chunk
use Rattle.bm_law_order.specs.Orders.{AllFit, Order, by, over, part_of}
use Rattle.bm_law_order.specs.Quiet.{is_quiet}
use Rattle.bm_law_order.specs.Seals.{GivesNo, GivesNone, Wait, WaitLeads, Waiting, nobody_waits, waiting_after, waiting_over}
use Rattle.bm_law_order.specs.Story.{AllJudged, Story, at_level, deeds, lines, lines_of}
use Rattle.bm_law_order.specs.Tie.{Tied}
use Rattle.bm_law_order.proofs.Along.{by-append, fit-append, over-append}
use Rattle.bm_law_order.proofs.Waited.{story-goes}
use Rattle.bm_law_places.proofs.Apart.{others-part}
use Rattle.bm_law_seals.specs.Answered.{AreAnswered, ArePut, IsAnswered, IsPut, PutsDelayed}
use Rattle.bm_law_seals.specs.Batches.{BatchFits, EndsGiving, GivesNoMore, SweepsLast}
use Rattle.bm_world.specs.LivingState.{LivingState}
use Rattle.bm_world.specs.Standings.{waits_told}
use Rattle.bm_world.specs.ToldLiving.{LivingDoes, knows_living}
use Rattle.bm_exec_levels.specs.AtPolls.{polled}
use Rattle.bm_run.specs.LeftAlone.{AllUnswept, IsUnswept}
use Rattle.bm_run.specs.SoFar.{SealedSoFar}
use Rattle.bm_run.specs.LogsSoFar.{AnswersAll, OrderUnswept}
use Rattle.bm_run.proofs.AddedParts.{own-log, part-added}
use Rattle.bm_run.proofs.Closes.{IsLate}
use Rattle.bm_run.proofs.Laid.{added-lines}
use Rattle.bm_run.proofs.SealsTold.{LowSend, goes-low, level-zero, lists-waiting, releases-fit, stamped-so, tied-waits}

-- ---- drops

quiet-answered : (l : ℕ) (e : Entry) (rest : Log) → is_quiet e ≡ true → IsAnswered l e rest
quiet-answered l (entry.Drop u life) rest q = absurd (cc)
quiet-answered l entry.Last rest q = absurd (cc)
quiet-answered l _ rest q = tt

given-answered : (l u life type : ℕ) (values : List ℕ) (seal : Option Seal) (rest : Log) → AreAnswered rest → AreAnswered (at_level l (entries_of (chunk.Making u life type values seal)) ++ rest)
given-answered l u life type values None rest h = (tt, h)
given-answered l u life type values (Some s) rest h = (tt, h)

called-answered : (l : ℕ) (graph : List ℕ) (position : ℕ) (owner : List ℕ) (call : PastCall) (rest : Log) → AreAnswered rest → AreAnswered ((l, call_entry graph position owner call) ∷ rest)
called-answered l graph position owner (past.PushFront id) rest h = (tt, h)
called-answered l graph position owner _ rest h = (tt, h)

-- the lines of a chunk end no drop without its answers
chunk-answered : (l : ℕ) (c : Chunk) (rest : Log) → AreAnswered rest → AreAnswered (at_level l (entries_of c) ++ rest)
chunk-answered l (chunk.Quiet e q) rest h = (quiet-answered l e rest q, h)
chunk-answered l (chunk.Making u life type values seal) rest h = given-answered l u life type values seal rest h
chunk-answered l (chunk.Calling graph position call owner tag) rest h = called-answered l graph position owner call rest h
chunk-answered l (chunk.GivingUp u life seen) rest h = ((refl, tt), (tt, h))
chunk-answered l (chunk.Ending u life home true) rest h = ((refl, tt), ((refl, tt), (tt, h)))
chunk-answered l (chunk.Ending u life home false) rest h = ((refl, tt), ((refl, tt), (tt, h)))
chunk-answered l (chunk.WholePeriod n ws p) rest h = (tt, (tt, h))
chunk-answered l (chunk.Looking d ws) rest h = h
chunk-answered l (chunk.Asking d x n) rest h = h
chunk-answered l (chunk.Missing d even n) rest h = h
chunk-answered l (chunk.FindingNone c) rest h = h
chunk-answered l _ rest h = (tt, h)

append-log : (a b c : Log) → (a ++ b) ++ c ≡ a ++ (b ++ c)
append-log [] b c = refl
append-log (e ∷ a) b c = ap (λ z. e ∷ z) (append-log a b c)

story-answers : (ts : Story) → AnswersAll (lines ts)
story-answers [] rest h = h
story-answers (t ∷ ts) rest h = subst AreAnswered (sym (append-log (lines_of t) (lines ts) rest)) (chunk-answered t.level t.chunk (lines ts ++ rest) (story-answers ts rest h))

-- so it is of what was added to a log that is tied since a time
pub tied-answers-since : (judge : ℕ → Log → Chunk → Type 0) (since added log : Log) (start now : LivingState) → log ≡ since ++ added → Tied judge LivingDoes since start 0 [] [] log now → AnswersAll added
tied-answers-since judge since added log start now log_is t = subst AnswersAll (sym (added-lines judge since added log start now log_is t)) (story-answers t.story)

-- a log that is made of such stretches
pub all-answered : (log : Log) → AnswersAll log → AreAnswered log
all-answered log h = subst AreAnswered (append-nil log) (h [] tt)

-- ---- delayed frees

-- In these entries a delayed free goes on until it has put its unit where it waits.
abbrev PutsWithin : ℕ → List Entry → Type 0
PutsWithin u (entry.Enter c a ∷ own) = PutsWithin u own
PutsWithin u (entry.LookDelayed c k ∷ own) = PutsWithin u own
PutsWithin u (entry.LostDelayed c ∷ own) = PutsWithin u own
PutsWithin u (entry.Delayed c v ∷ own) = v ≡ u
PutsWithin u (entry.PutDelayed c v ∷ own) = v ≡ u
PutsWithin u _ = ⊥

abbrev IsPutWithin : Entry → List Entry → Type 0
IsPutWithin (entry.Delay u home) own = PutsWithin u own
IsPutWithin _ own = Unit {0}

abbrev ArePutWithin : List Entry → Type 0
ArePutWithin [] = Unit {0}
ArePutWithin (e ∷ own) = IsPutWithin e own × ArePutWithin own

puts-more : (u : ℕ) (own more : List Entry) → PutsWithin u own → PutsWithin u (own ++ more)
puts-more u (entry.Enter c a ∷ own) more h = puts-more u own more h
puts-more u (entry.LookDelayed c k ∷ own) more h = puts-more u own more h
puts-more u (entry.LostDelayed c ∷ own) more h = puts-more u own more h
puts-more u (entry.Delayed c v ∷ own) more h = h
puts-more u (entry.PutDelayed c v ∷ own) more h = h
puts-more u _ more h = absurd h

put-more : (e : Entry) (own more : List Entry) → IsPutWithin e own → IsPutWithin e (own ++ more)
put-more (entry.Delay u home) own more h = puts-more u own more h
put-more _ own more h = tt

within-append : (one two : List Entry) → ArePutWithin one → ArePutWithin two → ArePutWithin (one ++ two)
within-append [] two h k = k
within-append (e ∷ one) two h k = (put-more e one two h.0, within-append one two h.1 k)

puts-so : (u : ℕ) (own : List Entry) → PutsWithin u own → PutsDelayed u own
puts-so u (entry.Enter c a ∷ own) h = puts-so u own h
puts-so u (entry.LookDelayed c k ∷ own) h = puts-so u own h
puts-so u (entry.LostDelayed c ∷ own) h = puts-so u own h
puts-so u (entry.Delayed c v ∷ own) h = h
puts-so u (entry.PutDelayed c v ∷ own) h = h
puts-so u _ h = absurd h

put-so : (e : Entry) (own : List Entry) → IsPutWithin e own → IsPut e own
put-so (entry.Delay u home) own h = puts-so u own h
put-so _ own h = tt

puts-put : (own : List Entry) → ArePutWithin own → ArePut own
puts-put [] h = tt
puts-put (e ∷ own) h = (put-so e own h.0, puts-put own h.1)

-- what frees nothing with delay
abbrev pub IsUndelayed : Entry → Type 0
IsUndelayed (entry.Delay u home) = ⊥
IsUndelayed _ = Unit {0}

undelayed-put : (e : Entry) (own : List Entry) → IsUndelayed e → IsPutWithin e own
undelayed-put (entry.Delay u home) own h = absurd h
undelayed-put _ own h = tt

undelayed-within : (own : List Entry) → AllOf IsUndelayed own → ArePutWithin own
undelayed-within [] h = tt
undelayed-within (e ∷ own) h = (undelayed-put e own h.0, undelayed-within own h.1)

raise-within : (b : Bool) (c : ℕ) → ArePutWithin (if b then entry.Raise c ∷ [] else [])
raise-within true c = (tt, tt)
raise-within false c = tt

unless-within : (b : Bool) (c : ℕ) → ArePutWithin (raise_unless b c)
unless-within true c = tt
unless-within false c = (tt, tt)

given-within : (u life : ℕ) (seal : Option (ℕ × ℕ)) → ArePutWithin (given u life seal ∷ [])
given-within u life None = (tt, tt)
given-within u life (Some x) = (tt, tt)

overtaken-within : (c : ℕ) (ks : List ℕ) → ArePutWithin (overtaken c ks)
overtaken-within c [] = tt
overtaken-within c (k ∷ ks) = (tt, (tt, overtaken-within c ks))

overtaken-puts : (c u : ℕ) (ks : List ℕ) (rest : List Entry) → PutsWithin u rest → PutsWithin u (overtaken_delayed c ks ++ rest)
overtaken-puts c u [] rest h = h
overtaken-puts c u (k ∷ ks) rest h = overtaken-puts c u ks rest h

overtaken-delayed-within : (c : ℕ) (ks : List ℕ) → ArePutWithin (overtaken_delayed c ks)
overtaken-delayed-within c [] = tt
overtaken-delayed-within c (k ∷ ks) = (tt, (tt, overtaken-delayed-within c ks))

alloc-within : (c : ℕ) (own : List Entry) (reply : Option (ℕ × ℕ)) → Allocates c own reply → ArePutWithin own
alloc-within c own (Some o) x = subst ArePutWithin (sym x.3) (tt, (tt, (tt, (tt, within-append (raise_below c x.1) (given o.0 o.1 x.0 ∷ []) (raise-within (nat_lt x.1 (low_of_size (size_of_class c))) c) (given-within o.0 o.1 x.0)))))
alloc-within c own None (inl x) = subst ArePutWithin (sym x.1) (tt, (tt, (tt, within-append (raise_below c 0) (entry.Empty ∷ []) (raise-within (nat_lt 0 (low_of_size (size_of_class c))) c) (tt, tt))))
alloc-within c own None (inr x) = subst ArePutWithin (sym x.3) (tt, (tt, within-append (raise_below c 0) (entry.Busy x.0 ∷ []) (raise-within (nat_lt 0 (low_of_size (size_of_class c))) c) (tt, tt)))

free-within : (c u home : ℕ) (own : List Entry) → FreePhrase c u home own → ArePutWithin own
free-within c u home own (inl x) = subst ArePutWithin (sym x.2) (tt, (tt, (tt, (tt, (tt, raise-within (nat_lt (high_of_size (size_of_class c)) x.0) c)))))
free-within c u home own (inr x) = subst ArePutWithin (sym x.5) (tt, (tt, within-append (overtaken c x.1) (entry.Look c x.2 ∷ entry.Put c u ∷ entry.Leave c x.3 ∷ []) (overtaken-within c x.1) (tt, (tt, (tt, tt)))))

delay-within : (c u home : ℕ) (batch : Bool) (own : List Entry) → DelayPhrase c u home batch own → ArePutWithin own
delay-within c u home batch own (inl x) = subst ArePutWithin (sym x.1) (refl, (tt, (tt, (tt, unless-within batch c))))
delay-within c u home batch own (inr x) =
    let rest = entry.LookDelayed c x.2 ∷ entry.PutDelayed c u ∷ entry.Leave c x.3 ∷ raise_unless batch c in
    subst ArePutWithin (sym x.5) (overtaken-puts c u x.1 rest refl, (tt, within-append (overtaken_delayed c x.1) rest (overtaken-delayed-within c x.1) (tt, (tt, (tt, unless-within batch c)))))

call-within : (graph : List ℕ) (position : ℕ) (owner : List ℕ) (call : PastCall) → ArePutWithin (call_entry graph position owner call ∷ [])
call-within graph position owner (past.PushFront id) = (tt, tt)
call-within graph position owner _ = (tt, tt)

closed-within : (d : Declared) → Closed d ArePutWithin
closed-within d = record {
  none = tt;
  join = within-append;
  new = λ x t values names part after r. subst ArePutWithin (sym r.part_is) (tt, alloc-within r.class r.own r.reply r.allocates);
  dropped = λ x names part after r. subst ArePutWithin (sym r.part_is) (tt, (tt, either-free ArePutWithin r.declared.counted r.class r.unit r.home r.batch r.own (free-within r.class r.unit r.home r.own) (delay-within r.class r.unit r.home r.batch r.own) r.frees));
  still = λ x names part after r. subst ArePutWithin (sym r.part_is) (tt, (tt, tt));
  acquired = λ y x names part after r. subst ArePutWithin (sym r.part_is) (tt, tt);
  read = λ x field names part after r. subst ArePutWithin (sym r.part_is) (tt, tt);
  exchanged = λ y slot given names part after r. subst ArePutWithin (sym r.part_is) (tt, tt);
  locks = λ graph. (tt, tt);
  unlocks = λ graph. (tt, tt);
  calls = λ graph position owner call. call-within graph position owner call;
  enters = λ w. (tt, tt);
  leaves = λ w. (tt, tt);
  yields = (tt, tt);
}

work-undelayed : (c : ℕ) (e : Entry) → IsOfWork c e → IsUndelayed e
work-undelayed c (entry.Delay u home) h = absurd h
work-undelayed c _ h = tt

written-within : (s : Parts) → Written s ArePutWithin
written-within s = record {
  closed = closed-within (declared_in s);
  fill = λ c us m. (tt, tt);
  begins = λ d name w. (tt, (tt, tt));
  ends = λ d name w. (tt, (tt, tt));
  work = λ c m t part h. undelayed-within (own_entries 0 part) (of-map (IsOfWork c) IsUndelayed (work-undelayed c) (own_entries 0 part) (work-writes 0 c t part h));
}

-- .. and of handlers
framed-within : (s : Parts) → Framed s ArePutWithin
framed-within s = record { closed = closed-within (declared_in s); begins = λ name. (tt, tt); ends = λ name. (tt, tt) }

late-undelayed : (e : Entry) → IsLate e → IsUndelayed e
late-undelayed (entry.Delay u home) h = absurd h
late-undelayed _ h = tt

-- ---- stamps and sends

-- stamps are of ordinary code
abbrev pub LowStamp : Entry → Type 0
LowStamp (entry.Stamp c d x) = ⊥
LowStamp _ = Unit {0}

pub handler-low : (e : Entry) → IsOfHandler e → LowStamp e
handler-low (entry.Stamp c d x) h = absurd h
handler-low _ h = tt

pub handler-sends : (e : Entry) → IsOfHandler e → LowSend e
handler-sends (entry.Send c to us) h = absurd h
handler-sends _ h = tt

quiet-batches : (p l : ℕ) (e : Entry) (m : Waiting) → is_quiet e ≡ true → BatchFits p l e m
quiet-batches p l (entry.Stamp c d x) m q = absurd (cc)
quiet-batches p l (entry.Send c to us) m q = absurd (cc)
quiet-batches p l _ m q = tt

abbrev Batches : ℕ → Log → Waiting → Type 0
Batches p log m = AllFit waiting_after BatchFits (by p log) m

made-batches : (p l u life type : ℕ) (values : List ℕ) (seal : Option Seal) (m : Waiting) → Batches p (at_level l (entries_of (chunk.Making u life type values seal))) m
made-batches p l u life type values None m = (tt, tt)
made-batches p l u life type values (Some x) m = (tt, tt)

called-batches : (p l : ℕ) (graph : List ℕ) (position : ℕ) (owner : List ℕ) (call : PastCall) (m : Waiting) → Batches p ((l, call_entry graph position owner call) ∷ []) m
called-batches p l graph position owner (past.PushFront id) m = (tt, tt)
called-batches p l graph position owner _ m = (tt, tt)

go-split : (es fs : List Act) (a c : ℕ → Wait) → WaitLeads (es ++ fs) a c → (b : ℕ → Wait) × (WaitLeads es a b × WaitLeads fs b c)
go-split [] fs a c h = (a, (refl, h))
go-split (e ∷ es) fs a c h = let r = go-split es fs h.0 c h.1.1 in (r.0, ((h.0, (h.1.0, r.1.0)), r.1.1))

-- what an order leaves
abbrev left_by : Order → Waiting
left_by o = over waiting_after o nobody_waits

module _ (p : ℕ) (since : Log) (start : LivingState) (own : start.side.grace.processor ≡ p) where
  -- a batch goes away as it has to
  chunk-batches : (l : ℕ) (o : Order) (c : Chunk) (now : ℕ → Wait) → WaitLeads (acts_of c) (left_by o).waits now → polled knows_living false since start l (part_of p o) c → AllAbove LowSend (at_level l (entries_of c)) → AllAbove LowStamp (at_level l (entries_of c)) → Batches p (at_level l (entries_of c)) (left_by o)
  chunk-batches l o (chunk.Releasing c to us stamp n) now w j send low = (
    inl (record {
      hand =
          ap (λ (s : State ℕ). (s.sides l).hand) (lists-waiting p o nobody_waits)
          ∙ subst (λ q. ((after (opening q) (part_of p o)).sides l).hand ≡ []) own j.hand;
      stamp = stamp;
      stamped = stamped-so p since start own l c n stamp o j;
      taken = j.taken;
      seen = n;
      passed = goes-low p since start own l c n stamp o (level-zero l send.0) j;
    }),
    tt,
  )
  chunk-batches l o (chunk.Draining c to us) now w j send low = (inr w.1.0.0, tt)
  chunk-batches l o (chunk.Stamping c d x) now w j send low = (level-zero l low.0, tt)
  chunk-batches l o (chunk.Sending c to us) now w j send low = absurd j
  chunk-batches l o (chunk.Quiet e q) now w j send low = (quiet-batches p l e (left_by o) q, tt)
  chunk-batches l o (chunk.Looking d ws) now w j send low = tt
  chunk-batches l o (chunk.Asking d x n) now w j send low = tt
  chunk-batches l o (chunk.Missing d even n) now w j send low = tt
  chunk-batches l o (chunk.FindingNone c) now w j send low = tt
  chunk-batches l o (chunk.WholePeriod n ws q) now w j send low = (tt, (tt, tt))
  chunk-batches l o (chunk.Making u life type values seal) now w j send low = made-batches p l u life type values seal (left_by o)
  chunk-batches l o (chunk.Calling graph position call owner tag) now w j send low = called-batches p l graph position owner call (left_by o)
  chunk-batches l o (chunk.GivingUp u life seen) now w j send low = (tt, (tt, tt))
  chunk-batches l o (chunk.Ending u life home true) now w j send low = (tt, (tt, (tt, tt)))
  chunk-batches l o (chunk.Ending u life home false) now w j send low = (tt, (tt, (tt, tt)))
  chunk-batches l o _ now w j send low = (tt, tt)

  -- so they do along a story
  story-batches : (o : Order) (ts : Story) (now : ℕ → Wait) → WaitLeads (deeds ts) (left_by o).waits now → AllJudged (polled knows_living false since start) (part_of p o) ts → AllAbove LowSend (lines ts) → AllAbove LowStamp (lines ts) → Batches p (lines ts) (left_by o)
  story-batches o [] now w j send low = tt
  story-batches o (t ∷ ts) now w j send low =
      let m = left_by o in
      let first = lines_of t in
      let next = o ++ by p first in
      let q = go-split (acts_of t.chunk) (deeds ts) m.waits now w in
      let sends = above-front LowSend first (lines ts) send in
      let here = chunk-batches t.level o t.chunk q.0 q.1.0 j.0 sends (above-front LowStamp first (lines ts) low) in
      let one = story-goes p (t ∷ []) m q.0 (subst (λ z. WaitLeads z m.waits q.0) (sym (append-nil (acts_of t.chunk))) q.1.0) (releases-fit p since start own o (t ∷ []) (j.0, tt) (subst (AllAbove LowSend) (sym (append-nil first)) sends)) in
      let apart : left_by next ≡ waiting_over p first m = over-append waiting_after BatchFits o (by p first) nobody_waits in
      let waits : (left_by next).waits ≡ q.0 = ap (λ (z : Waiting). z.waits) apart ∙ (ap (λ z. (waiting_over p z m).waits) (sym (append-nil first)) ∙ one.now_is) in
      let judged = subst (λ z. AllJudged (polled knows_living false since start) z ts) (sym (part-added p o first)) j.1 in
      let rest = story-batches next ts now (subst (λ z. WaitLeads (deeds ts) z now) (sym waits) q.1.1) judged (above-back LowSend first (lines ts) send) (above-back LowStamp first (lines ts) low) in
      subst (λ z. AllFit waiting_after BatchFits z m) (sym (by-append p first (lines ts)))
      (fit-append waiting_after BatchFits (by p first) (by p (lines ts)) m here (subst (Batches p (lines ts)) apart rest))

-- Where batches went away as they have to so far, they do so with the entries that were added to a log that is tied since a time.
pub tied-batches-since : (p : ℕ) (o : Order) (since added log : Log) (start now : LivingState) → start.side.grace.processor ≡ p → part_of p o ≡ since → log ≡ since ++ added →
    Tied (polled knows_living false since start) LivingDoes since start 0 [] [] log now → AllAbove LowSend added → AllAbove LowStamp added → SealedSoFar o start → AllFit waiting_after BatchFits o nobody_waits → AllFit waiting_after BatchFits (o ++ by p added) nobody_waits
tied-batches-since p o since added log start now own part log_is t send low h b =
    let said = added-lines (polled knows_living false since start) since added log start now log_is t in
    let judged = subst (λ z. AllJudged (polled knows_living false since start) z t.story) (sym part) t.judged in
    let here = story-batches p since start own o t.story (waits_told now.standings) (tied-waits since log start now o h.waits t) judged (subst (AllAbove LowSend) said send) (subst (AllAbove LowStamp) said low) in
    fit-append waiting_after BatchFits o (by p added) nobody_waits b (subst (λ (z : Log). Batches p z (left_by o)) (sym said) here)

late-batch : (p : ℕ) (e : Entry) (m : Waiting) → IsLate e → BatchFits p 0 e m
late-batch p (entry.Stamp c d x) m h = refl
late-batch p (entry.Send c to us) m h = absurd h
late-batch p _ m h = tt

-- nothing is sent in the closing
pub late-batches : (p : ℕ) (log : Log) (m : Waiting) → AllAt 0 log → AllOf IsLate (own_entries 0 log) → AllFit waiting_after BatchFits (by p log) m
late-batches p [] m at late = tt
late-batches p (e ∷ es) m at late =
    let own : IsLate e.1 × AllOf IsLate (own_entries 0 es) = rw (eq-eqb e.0 0 at.0) at late in
    (subst (λ l. BatchFits p l e.1 m) (sym at.0) (late-batch p e.1 m own.0), late-batches p es (waiting_after p e.0 e.1 m) at.1 own.1)

-- ---- sweeps

statement-unswept : (e : Entry) → IsOfStatement e → IsUnswept e
statement-unswept (entry.Sweep c us) h = absurd h
statement-unswept _ h = tt

pub handler-unswept : (e : Entry) → IsOfHandler e → IsUnswept e
handler-unswept (entry.Sweep c us) h = absurd h
handler-unswept _ h = tt

work-unswept : (c : ℕ) (e : Entry) → IsOfWork c e → IsUnswept e
work-unswept c (entry.Sweep d us) h = absurd h
work-unswept c _ h = tt

unswept : (s : Parts) → Written s (AllOf IsUnswept)
unswept s =
    let k = of-calls (declared_in s) in
    record {
      closed = record {
        none = tt;
        join = of-append IsUnswept;
        new = λ x t values names part after r. of-map IsOfStatement IsUnswept statement-unswept part (k.new x t values names part after r);
        dropped = λ x names part after r. of-map IsOfStatement IsUnswept statement-unswept part (k.dropped x names part after r);
        still = λ x names part after r. of-map IsOfStatement IsUnswept statement-unswept part (k.still x names part after r);
        acquired = λ y x names part after r. of-map IsOfStatement IsUnswept statement-unswept part (k.acquired y x names part after r);
        read = λ x field names part after r. of-map IsOfStatement IsUnswept statement-unswept part (k.read x field names part after r);
        exchanged = λ y slot given names part after r. of-map IsOfStatement IsUnswept statement-unswept part (k.exchanged y slot given names part after r);
        locks = λ graph. (tt, tt);
        unlocks = λ graph. (tt, tt);
        calls = λ graph position owner call. of-map IsOfStatement IsUnswept statement-unswept (call_entry graph position owner call ∷ []) (k.calls graph position owner call);
        enters = λ w. (tt, tt);
        leaves = λ w. (tt, tt);
        yields = (tt, tt);
      };
      fill = λ c us m. (tt, tt);
      begins = λ d name w. (tt, (tt, tt));
      ends = λ d name w. (tt, (tt, tt));
      work = λ c m t part h. of-map (IsOfWork c) IsUnswept (work-unswept c) (own_entries 0 part) (work-writes 0 c t part h);
    }

zero-or : (l : ℕ) → (l ≢ 0) → 0 < l
zero-or zero h = absurd (h refl)
zero-or (suc l) h = omega arith

pub all-unswept : (log : Log) → AllOf IsUnswept (own_entries 0 log) → AllAbove IsUnswept log → AllUnswept log
all-unswept [] own above = tt
all-unswept (e ∷ es) own above = elim (eqb_tells e.0 0) [
  | inl y ↦ (let h : IsUnswept e.1 × AllOf IsUnswept (own_entries 0 es) = rw y.0 at own in (h.0, all-unswept es h.1 above.1))
  | inr y ↦ (above.0 (zero-or e.0 y.1), all-unswept es (rw y.0 at own) above.1)
]

pub unswept-by : (p : ℕ) (log : Log) → AllUnswept log → OrderUnswept (by p log)
unswept-by p [] h = tt
unswept-by p (e ∷ log) h = (h.0, unswept-by p log h.1)

pub unswept-append : (a b : Order) → OrderUnswept a → OrderUnswept b → OrderUnswept (a ++ b)
unswept-append [] b h k = k
unswept-append (e ∷ a) b h k = (h.0, unswept-append a b h.1 k)

-- nothing is given in the closing
pub no-more : (p : ℕ) (log : Log) → GivesNone log → GivesNoMore (by p log)
no-more p [] h = tt
no-more p (e ∷ es) h = (h.0, no-more p es h.1)

pub no-more-append : (a b : Order) → GivesNoMore a → GivesNoMore b → GivesNoMore (a ++ b)
no-more-append [] b h k = k
no-more-append (e ∷ a) b h k = (h.0, no-more-append a b h.1 k)

ends-giving : (e : Entry) (o : Order) → GivesNoMore o → EndsGiving e o
ends-giving (entry.Sweep c us) o h = h
ends-giving _ o h = tt

unswept-giving : (e : Entry) (o : Order) → IsUnswept e → EndsGiving e o
unswept-giving (entry.Sweep c us) o h = absurd h
unswept-giving _ o h = tt

closing-last : (o : Order) → GivesNoMore o → SweepsLast o
closing-last [] h = tt
closing-last (e ∷ o) h = (ends-giving e.entry o h.1, closing-last o h.1)

-- where entries that sweep nothing come before ones that give nothing
pub sweeps-last : (front closing : Order) → OrderUnswept front → GivesNoMore closing → SweepsLast (front ++ closing)
sweeps-last [] closing u g = closing-last closing g
sweeps-last (e ∷ front) closing u g = (unswept-giving e.entry (front ++ closing) u.0, sweeps-last front closing u.1 g)

-- ---- the log of a run

-- what holds of the one log, and of none, holds of each part
each-part : (P : Log → Type 0) (log : Log) → P log → P [] → (p : ℕ) → P (part_of p (by 0 log))
each-part P log h none p = elim (eqb_tells p 0) [
  | inl y ↦ subst (λ q. P (part_of q (by 0 log))) (sym y.1) (subst P (sym (own-log 0 log)) h)
  | inr y ↦ subst P (sym (others-part 0 p log y.1)) none
]

pub late-none : (log : Log) → AllAt 0 log → AllOf IsLate (own_entries 0 log) → GivesNone log
late-none [] at late = tt
late-none (e ∷ es) at late = (let own : IsLate e.1 × AllOf IsLate (own_entries 0 es) = rw (eq-eqb e.0 0 at.0) at late in (late-no e.1 own.0, late-none es at.1 own.1))
  where
    late-no : (e : Entry) → IsLate e → GivesNo e
    late-no (entry.Given u life) h = absurd h
    late-no (entry.GivenAfter u life x n) h = absurd h
    late-no _ h = tt

-- A delayed free in the log of any processor puts its unit where it waits: in its front, at its end, in what is late, and in handlers.
pub log-puts : (s : Parts) (p : ℕ) (log front ended late : Log) → log ≡ (front ++ ended) ++ late → Front s p (opening p) front → AllOf IsLate (own_entries 0 late) → AllOf IsUndelayed (own_entries 0 ended) → HandlersStand s p log → HandlersDone s p log → (l : ℕ) → ArePut (own_entries l log)
log-puts s p log front ended late parts is_front late_own ended_own stands done l =
    let early : Log = front ++ ended in
    let inner : ArePutWithin (own_entries 0 early) = subst ArePutWithin (sym (own-append 0 front ended)) (within-append (own_entries 0 front) (own_entries 0 ended) (front-has s ArePutWithin (written-within s) p (opening p) front is_front) (undelayed-within (own_entries 0 ended) ended_own)) in
    let outer : ArePutWithin (own_entries 0 late) = undelayed-within (own_entries 0 late) (of-map IsLate IsUndelayed late-undelayed (own_entries 0 late) late_own) in
    let ordinary : ArePutWithin (own_entries 0 log) = subst (λ z. ArePutWithin (own_entries 0 z)) (sym parts) (subst ArePutWithin (sym (own-append 0 early late)) (within-append (own_entries 0 early) (own_entries 0 late) inner outer)) in
    puts-put (own_entries l log) (elim (eqb_tells l 0) [
      | inl y ↦ subst (λ k. ArePutWithin (own_entries k log)) (sym y.1) ordinary
      | inr y ↦ handlers-have s ArePutWithin (framed-within s) (own_entries l log) (levels s p log stands done l (zero-or l y.1))
    ])

-- How the logs of a run are cut is known by what their entries of ordinary code are, where handlers leave none at which a log is cut.
use Rattle.std.specs.Prelude.{not}
use Rattle.std.specs.List.{concat}
use Rattle.std.proofs.Common.{◌≡◌, ◌≢◌, ◌<◌, ℕ, zero, suc, Bool, true, false, List, [], ◌∷◌, ◌++◌, Option, Some, None, arith, refl, sym, ◌∙◌, ap, subst, inl, inr}
use Rattle.std.proofs.lemmas.Bool.Decides.{eqb_tells}
use Rattle.bm_journal.specs.declared.ids.Domain.{Domain}
use Rattle.bm_journal.specs.declared.ids.Domain.TheVariants.{Plain, Tracing}
use Rattle.bm_journal.specs.declared.entry.Entry.{Entry}
use Rattle.bm_journal.specs.declared.entry.Entry.TheVariants as entry
use Rattle.bm_lang.specs.declared.scenario.Parts.{Parts}
use Rattle.bm_lang.specs.declared.scenario.RunLine.{RunLine}
use Rattle.bm_page.specs.Stock.{Stock}
use Rattle.bm_law.specs.Alone.{AllAt, at_level}
use Rattle.bm_law.specs.Inboxes.{Inboxes, on_inbox}
use Rattle.bm_law.specs.Lists.{Log, after}
use Rattle.bm_law.specs.Spans.{own_entries}
use Rattle.bm_law.specs.State.{State, opening, seven_lists}
use Rattle.bm_law.proofs.Spans.{own-append}
use Rattle.bm_law_work.specs.Parts.{Say, Then}
use Rattle.bm_law_work.proofs.Each.{AllOf, PartOf, of-append, of-map, part-nothing, part-say, part-then}
use Rattle.bm_law_order.specs.Whole.{is_ended, is_fill, is_finish_or_sweep, is_sweep, is_yield, joined}
use Rattle.bm_law_scenario.specs.Declared.{declared_in}
use Rattle.bm_law_scenario.specs.CallEntries.{IsOfHandler, IsOfStatement}
use Rattle.bm_law_scenario.specs.Closing.{EndsOne, SweepWhere}
use Rattle.bm_law_scenario.specs.Fills.{AreFills}
use Rattle.bm_law_scenario.specs.Grammar.{AreScripts, Front, section_of}
use Rattle.bm_law_scenario.specs.WorkEntries.{IsOfWork}
use Rattle.bm_law_scenario.proofs.EachLevel.{AllAbove, above-map}
use Rattle.bm_law_scenario.proofs.FrontLaws.{Written, front-has}
use Rattle.bm_graph.specs.Entries.{call_entry}
use Rattle.bm_law_scenario.proofs.OfCall.{of-calls}
use Rattle.bm_law_scenario.proofs.OfWork.{work-writes}
use Rattle.bm_law_logs.specs.SweepsTold.{SweepsTold}
use Rattle.bm_exec.specs.Yields.{IsInTurn, AllInTurn}
use Rattle.bm_run.specs.InTurns.{AreParts, ArePieces, BeginsWith, IsPiece, LogParts, NonePass, stop_of}
use Rattle.bm_run.proofs.PiecesCut.{begins-append}

-- ---- entries of all levels

-- the first of these entries has it, if there is one
abbrev pub FirstOf : (Entry → Type 0) → List Entry → Type 0
FirstOf I [] = Unit {0}
FirstOf I (e ∷ es) = I e

first-all : (I : Entry → Type 0) (es : List Entry) → AllOf I es → FirstOf I es
first-all I [] h = tt
first-all I (e ∷ es) h = h.0

first-append : (I : Entry → Type 0) (v w : List Entry) → FirstOf I v → FirstOf I w → FirstOf I (v ++ w)
first-append I [] w h k = k
first-append I (e ∷ v) w h k = h

above-zero : (l : ℕ) → l ≢ 0 → 0 < l
above-zero zero h = absurd (h refl)
above-zero (suc l) h = omega arith

at-above : (I : Entry → Type 0) (log : Log) → AllAt 0 log → AllAbove I log
at-above I [] at = tt
at-above I (e ∷ log) at = (λ up. absurd (none e.0 at.0 up), at-above I log at.1)
  where
    none : (l : ℕ) → l ≡ 0 → 0 < l → ⊥
    none l e up = omega arith

-- none passes a test that those of ordinary code don't pass, nor those above
pub none-pass : (test : ℕ × Entry → Bool) (I : Entry → Type 0) → ((l : ℕ) (e : Entry) → I e → test (l, e) ≡ false) → (log : Log) → AllOf I (own_entries 0 log) → AllAbove I log → NonePass test log
none-pass test I f [] own above = tt
none-pass test I f (e ∷ log) own above = elim (eqb_tells e.0 0) [
  | inl y ↦ (let h : I e.1 × AllOf I (own_entries 0 log) = rw y.0 at own in (f e.0 e.1 h.0, none-pass test I f log h.1 above.1))
  | inr y ↦ (f e.0 e.1 (above.0 (above-zero e.0 y.1)), none-pass test I f log (rw y.0 at own) above.1)
]

-- the first one passes a test that the first of ordinary code passes, and those above
pub first-passes : (test : ℕ × Entry → Bool) (I : Entry → Type 0) → ((l : ℕ) (e : Entry) → I e → test (l, e) ≡ true) → (log : Log) → FirstOf I (own_entries 0 log) → AllAbove I log → BeginsWith test log
first-passes test I f [] own above = tt
first-passes test I f (e ∷ log) own above = elim (eqb_tells e.0 0) [
  | inl y ↦ (let h : I e.1 = rw y.0 at own in f e.0 e.1 h)
  | inr y ↦ f e.0 e.1 (above.0 (above-zero e.0 y.1))
]

-- ---- pieces

no-yield : (l : ℕ) (e : Entry) → IsInTurn e → is_yield (l, e) ≡ false
no-yield l entry.Yield h = absurd h
no-yield l _ h = refl

no-yields : (es : List Entry) → AllInTurn es → AllOf IsInTurn es
no-yields [] h = tt
no-yields (e ∷ es) h = (h.0, no-yields es h.1)

-- What a turn records and then its stop is its piece, where neither the turn nor a handler yielded before.
pub stopped-piece : (ends : Bool) (front : Log) → AllInTurn (own_entries 0 front) → AllAbove IsInTurn front → IsPiece ends (front ++ (0, stop_of ends) ∷ [])
stopped-piece ends front own above = record { front = front; piece_is = refl; unyielding = none-pass is_yield IsInTurn no-yield front (no-yields (own_entries 0 front) own) above }

-- ---- the opening and the scripts

abbrev pub IsFill : Entry → Type 0
IsFill (entry.Fill c us) = Unit {0}
IsFill _ = ⊥

abbrev pub IsUnfilled : Entry → Type 0
IsUnfilled (entry.Fill c us) = ⊥
IsUnfilled _ = Unit {0}

abbrev pub IsUnended : Entry → Type 0
IsUnended entry.Ended = ⊥
IsUnended _ = Unit {0}

fill-passes : (l : ℕ) (e : Entry) → IsFill e → not (is_fill (l, e)) ≡ false
fill-passes l (entry.Fill c us) h = refl
fill-passes l _ h = absurd h

unfilled-passes : (l : ℕ) (e : Entry) → IsUnfilled e → not (is_fill (l, e)) ≡ true
unfilled-passes l (entry.Fill c us) h = absurd h
unfilled-passes l _ h = refl

unended-passes : (l : ℕ) (e : Entry) → IsUnended e → is_ended (l, e) ≡ false
unended-passes l entry.Ended h = absurd h
unended-passes l _ h = refl

-- what a handler leaves
handler-unfilled : (e : Entry) → IsOfHandler e → IsUnfilled e
handler-unfilled (entry.Fill c us) h = absurd h
handler-unfilled _ h = tt

handler-unended : (e : Entry) → IsOfHandler e → IsUnended e
handler-unended entry.Ended h = absurd h
handler-unended _ h = tt

fills-own : (cs : List ℕ) (pool : Stock) (own : List Entry) → AreFills cs pool own → AllOf IsFill own
fills-own [] pool own h = subst (AllOf IsFill) (sym h) tt
fills-own (c ∷ cs) pool own h = subst (AllOf IsFill) (sym h.1) (tt, fills-own cs _ h.0 h.2)

pub opening-own : (cs : List ℕ) (pool : Stock) (t : State ℕ) (fills : Log) → Say 0 (AreFills cs pool) t fills → AllOf IsFill (own_entries 0 fills)
opening-own cs pool t fills h = subst (AllOf IsFill) (sym h.2.own_is) (fills-own cs pool h.0 h.1)

-- the scripts begin with the begin of one
pub scripts-first : (s : Parts) (lines : List RunLine) (t : State ℕ) (part : Log) → AreScripts s lines t part → FirstOf IsUnfilled (own_entries 0 part)
scripts-first s [] t part h = subst (λ z. FirstOf IsUnfilled (own_entries 0 z)) (sym h) tt
scripts-first s (r ∷ rs) t part h =
    let phrase = h.3.is_first in
    let begin : own_entries 0 phrase.one ≡ entry.Script h.0.name ∷ entry.In (section_of h.0.kind) h.2 ∷ [] = phrase.is_first.own_is in
    let one : own_entries 0 h.3.one ≡ (entry.Script h.0.name ∷ entry.In (section_of h.0.kind) h.2 ∷ []) ++ own_entries 0 phrase.two =
    ap (own_entries 0) phrase.part_is ∙ (own-append 0 phrase.one phrase.two ∙ ap (λ z. z ++ own_entries 0 phrase.two) begin) in
    let all = ap (own_entries 0) h.3.part_is ∙ (own-append 0 h.3.one h.3.two ∙ ap (λ z. z ++ own_entries 0 h.3.two) one) in
    subst (FirstOf IsUnfilled) (sym all) tt

statement-unended : (e : Entry) → IsOfStatement e → IsUnended e
statement-unended entry.Ended h = absurd h
statement-unended _ h = tt

work-unended : (c : ℕ) (e : Entry) → IsOfWork c e → IsUnended e
work-unended c entry.Ended h = absurd h
work-unended c _ h = tt

unended : (s : Parts) → Written s (AllOf IsUnended)
unended s =
    let k = of-calls (declared_in s) in
    record {
      closed = record {
        none = tt;
        join = of-append IsUnended;
        new = λ x t values names part after r. of-map IsOfStatement IsUnended statement-unended part (k.new x t values names part after r);
        dropped = λ x names part after r. of-map IsOfStatement IsUnended statement-unended part (k.dropped x names part after r);
        still = λ x names part after r. of-map IsOfStatement IsUnended statement-unended part (k.still x names part after r);
        acquired = λ y x names part after r. of-map IsOfStatement IsUnended statement-unended part (k.acquired y x names part after r);
        read = λ x field names part after r. of-map IsOfStatement IsUnended statement-unended part (k.read x field names part after r);
        exchanged = λ y slot given names part after r. of-map IsOfStatement IsUnended statement-unended part (k.exchanged y slot given names part after r);
        locks = λ graph. (tt, tt);
        unlocks = λ graph. (tt, tt);
        calls = λ graph position owner call. of-map IsOfStatement IsUnended statement-unended (call_entry graph position owner call ∷ []) (k.calls graph position owner call);
        enters = λ w. (tt, tt);
        leaves = λ w. (tt, tt);
        yields = (tt, tt);
      };
      fill = λ c us m. (tt, tt);
      begins = λ d name w. (tt, (tt, tt));
      ends = λ d name w. (tt, (tt, tt));
      work = λ c m t part h. of-map (IsOfWork c) IsUnended (work-unended c) (own_entries 0 part) (work-writes 0 c t part h);
    }

-- a processor hasn't ended in its opening and its scripts
pub front-unended : (s : Parts) (p : ℕ) (fills scripts : Log) → Front s p (opening p) (fills ++ scripts) → AllOf IsUnended (own_entries 0 scripts)
front-unended s p fills scripts h =
    of-back (own_entries 0 fills) (own_entries 0 scripts) (subst (AllOf IsUnended) (own-append 0 fills scripts) (front-has s (AllOf IsUnended) (unended s) p (opening p) (fills ++ scripts) h))
  where
    of-back : (v w : List Entry) → AllOf IsUnended (v ++ w) → AllOf IsUnended w
    of-back [] w k = k
    of-back (e ∷ v) w k = of-back v w k.1

-- ---- the closing

-- It ends no period, and sweeps nothing.
abbrev pub IsEarly : Entry → Type 0
IsEarly (entry.Finish period) = ⊥
IsEarly (entry.Sweep c us) = ⊥
IsEarly _ = Unit {0}

abbrev pub IsFinish : Entry → Type 0
IsFinish (entry.Finish period) = Unit {0}
IsFinish _ = ⊥

abbrev pub IsSweep : Entry → Type 0
IsSweep (entry.Sweep c us) = Unit {0}
IsSweep _ = ⊥

early-passes : (l : ℕ) (e : Entry) → IsEarly e → is_finish_or_sweep (l, e) ≡ false
early-passes l (entry.Finish period) h = absurd h
early-passes l (entry.Sweep c us) h = absurd h
early-passes l _ h = refl

finish-passes : (l : ℕ) (e : Entry) → IsFinish e → is_finish_or_sweep (l, e) ≡ true
finish-passes l (entry.Finish period) h = refl
finish-passes l _ h = absurd h

finish-sweeps : (l : ℕ) (e : Entry) → IsFinish e → is_sweep (l, e) ≡ false
finish-sweeps l (entry.Finish period) h = refl
finish-sweeps l _ h = absurd h

sweep-passes : (l : ℕ) (e : Entry) → IsSweep e → is_sweep (l, e) ≡ true
sweep-passes l (entry.Sweep c us) h = refl
sweep-passes l _ h = absurd h

end-own : (d : Domain) (begun : Option ℕ) → PartOf IsFinish 0 (EndsOne d begun)
end-own d None = part-nothing IsFinish 0
end-own d (Some n) = part-say IsFinish 0 _ (λ own h. subst (AllOf IsFinish) (sym h.3) (tt, tt))

-- the ends of the periods that are in progress, whatever they are
pub ends-own : (plain tracing : Option ℕ) → PartOf IsFinish 0 (Then (EndsOne Plain plain) (EndsOne Tracing tracing))
ends-own plain tracing = part-then IsFinish 0 (EndsOne Plain plain) (EndsOne Tracing tracing) (end-own Plain plain) (end-own Tracing tracing)

where-first : (c : ℕ) (us : List ℕ) (t : State ℕ) (part : Log) → SweepWhere c us t part → FirstOf IsSweep (own_entries 0 part)
where-first c [] t part h = subst (λ z. FirstOf IsSweep (own_entries 0 z)) (sym h) tt
where-first c (u ∷ us) t part h = subst (FirstOf IsSweep) (sym (h.2.own_is ∙ h.1.phrase.own_is)) tt

two-first : (one two part : Log) → part ≡ one ++ two → FirstOf IsSweep (own_entries 0 one) → FirstOf IsSweep (own_entries 0 two) → FirstOf IsSweep (own_entries 0 part)
two-first one two part e h k = subst (FirstOf IsSweep) (sym (ap (own_entries 0) e ∙ own-append 0 one two)) (first-append IsSweep (own_entries 0 one) (own_entries 0 two) h k)

-- .. and where the parcels are told
pub told-first : (cs : List ℕ) (boxes : Inboxes) (t : State ℕ) (part : Log) → SweepsTold cs boxes t part → FirstOf IsSweep (own_entries 0 part)
told-first [] boxes t part h = subst (λ z. FirstOf IsSweep (own_entries 0 z)) (sym h) tt
told-first (c ∷ cs) boxes t part h =
    let k = h.1 in
    two-first k.one k.two part k.part_is (where-first c (seven_lists (t.rows c) ++ concat (boxes c)) t k.one k.is_first) (told-first cs (on_inbox c (λ parcels. []) boxes) (after t k.one) k.two k.is_second)

at-front : (a b : Log) → AllAt 0 (a ++ b) → AllAt 0 a
at-front [] b h = tt
at-front (e ∷ a) b h = (h.0, at-front a b h.1)

at-back : (a b : Log) → AllAt 0 (a ++ b) → AllAt 0 b
at-back [] b h = h
at-back (e ∷ a) b h = at-back a b h.1

pub level-at : (es : List Entry) → AllAt 0 (at_level 0 es)
level-at [] = tt
level-at (e ∷ es) = (refl, level-at es)

-- ---- all parts

-- What is known of the parts of a log: its opening and its closing are of ordinary code alone, which first opens, and then runs its
-- scripts, in which handlers run; it ends once, behind the scripts, and then gives up, ends periods and sweeps.
pub record AreKnown (x : LogParts) : Type 0 where
  pub fills_at : AllAt 0 x.fills
  pub fills_own : AllOf IsFill (own_entries 0 x.fills)
  pub turns : ArePieces true x.pieces
  pub scripts : Log
  pub scripts_are : joined x.pieces ≡ scripts ++ (0, entry.Ended) ∷ []
  pub scripts_first : FirstOf IsUnfilled (own_entries 0 scripts)
  pub scripts_own : AllOf IsUnended (own_entries 0 scripts)
  pub handled : AllAbove IsOfHandler scripts
  pub given_at : AllAt 0 x.given
  pub given_own : AllOf IsEarly (own_entries 0 x.given)
  pub finishes_at : AllAt 0 x.finishes
  pub finishes_own : AllOf IsFinish (own_entries 0 x.finishes)
  pub sweeps_at : AllAt 0 x.sweeps
  pub sweeps_own : FirstOf IsSweep (own_entries 0 x.sweeps)

-- So each part is told from the next one.
pub known-parts : (x : LogParts) → AreKnown x → AreParts x
known-parts x h =
    let unfilled = above-map IsOfHandler IsUnfilled handler-unfilled h.scripts h.handled in
    let begins = first-passes (λ e. not (is_fill e)) IsUnfilled unfilled-passes h.scripts h.scripts_first unfilled in
    record {
      fills = none-pass (λ e. not (is_fill e)) IsFill fill-passes x.fills h.fills_own (at-above IsFill x.fills h.fills_at);
      begins = subst (BeginsWith (λ e. not (is_fill e))) (sym h.scripts_are) (begins-append (λ e. not (is_fill e)) h.scripts ((0, entry.Ended) ∷ []) begins refl);
      turns = h.turns;
      scripts = h.scripts;
      scripts_are = h.scripts_are;
      unended = none-pass is_ended IsUnended unended-passes h.scripts h.scripts_own (above-map IsOfHandler IsUnended handler-unended h.scripts h.handled);
      given = none-pass is_finish_or_sweep IsEarly early-passes x.given h.given_own (at-above IsEarly x.given h.given_at);
      finishes_begin = first-passes is_finish_or_sweep IsFinish finish-passes x.finishes (first-all IsFinish (own_entries 0 x.finishes) h.finishes_own) (at-above IsFinish x.finishes h.finishes_at);
      finishes = none-pass is_sweep IsFinish finish-sweeps x.finishes h.finishes_own (at-above IsFinish x.finishes h.finishes_at);
      sweeps_begin = first-passes is_sweep IsSweep sweep-passes x.sweeps h.sweeps_own (at-above IsSweep x.sweeps h.sweeps_at);
    }

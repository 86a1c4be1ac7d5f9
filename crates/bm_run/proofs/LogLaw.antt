-- What the log of any processor of a run tells, and what is left in its lists.
use Rattle.std.proofs.Common.{◌≡◌, ℕ, Bool, true, false, List, [], ◌∷◌, map, refl, sym, ap, subst, ◌∙◌, Option, Some, IfSome, arith}
use Rattle.bm_world.specs.ToldLiving.{knows_living}
use Rattle.std.specs.List.{list_any}
use Rattle.bm_journal.specs.declared.entry.Entry.{Entry}
use Rattle.bm_journal.specs.declared.entry.Entry.TheVariants as entry
use Rattle.bm_lang.specs.declared.scenario.Parts.{Parts}
use Rattle.bm_page.specs.Stock.{Stock, fetched}
use Rattle.bm_law.specs.Alone.{at_level}
use Rattle.bm_law.specs.Lists.{Leaves, Log, after}
use Rattle.bm_law.specs.Null.{NullLaw}
use Rattle.bm_law.specs.Stands.{times}
use Rattle.bm_law.specs.State.{State, opening, seen, seven_lists}
use Rattle.bm_law.proofs.Seen.{map-seven}
use Rattle.bm_cache.specs.Opening.{Fills, fill_log, named}
use Rattle.bm_cache.specs.Tokens.{Token, number_of}
use Rattle.bm_law.specs.Inboxes.{Inboxes}
use Rattle.bm_law_scenario.specs.Closing.{AreSweeps}
use Rattle.bm_law_scenario.specs.Fills.{AreFills, prefill}
use Rattle.bm_due.specs.Standing.{HandlersStand}
use Rattle.bm_law_scenario.specs.Grammar.{Front, IsLog}
use Rattle.bm_law_scenario.specs.Handlers.{HandlersDone}
use Rattle.bm_law_scenario.specs.Opened.{opened_classes, uses_class}
use Rattle.bm_law_logs.specs.SweepsTold.{SweepsTold}
use Rattle.bm_exec_levels.specs.AtProcessor.{log_of}
use Rattle.bm_exec_levels.specs.Here.{position_of}
use Rattle.bm_exec_levels.specs.Logged.{Tells}
use Rattle.bm_exec_levels.specs.Ready.{known_of}
use Rattle.bm_exec_levels.specs.Sound.{Sound}
use Rattle.bm_exec_levels.specs.declared.processor.Processor.{Processor}
use Rattle.bm_exec_levels.specs.declared.program.Program.{Program}
use Rattle.bm_plan.specs.Position.{Position, StandsAt}
use Rattle.bm_world.specs.LivingState.{LivingState}
use Rattle.bm_run.specs.Filling.{filling}
use Rattle.bm_run.proofs.Closes.{LawfulSoFar}
use Rattle.bm_run.proofs.OpenedList.{opened-has}

-- ---- the entries of the opening

abbrev pub fill_entries : Fills → List Entry
fill_entries [] = []
fill_entries (f ∷ fs) = entry.Fill f.0 (named f.1) ∷ fill_entries fs

pub fill-level : (fs : Fills) → fill_log fs ≡ at_level 0 (fill_entries fs)
fill-level [] = refl
fill-level (f ∷ fs) = ap (λ l. (0, entry.Fill f.0 (named f.1)) ∷ l) (fill-level fs)

pub are-fills : (cs : List ℕ) (pool : Stock) → AreFills cs pool (fill_entries (filling cs pool).fills)
are-fills [] pool = refl
are-fills (c ∷ cs) pool = let f = fetched c (prefill c) pool in (fill_entries (filling cs f.pool).fills, refl, are-fills cs f.pool)

-- ---- what a log tells where ordinary code stands

-- where it is in its log
abbrev pub here : Program → Processor LivingState → Position
here p m = position_of (known_of knows_living m).grace.processor p.scenario.now m.handlers.planned m.running.items

pub tells-here : (p : Program) (m : Processor LivingState) (log : Log) → Sound knows_living p m → log_of m ≡ Some log → LawfulSoFar (known_of knows_living m).grace.processor (here p m) p.scenario.now log
tells-here p m log s told =
    let at : StandsAt (here p m) log = subst (λ (x : Option Log). IfSome x (StandsAt (here p m))) told s.at.at.at in
    let t : Tells p.scenario.now (known_of knows_living m) log = subst (λ (x : Option Log). IfSome x (Tells p.scenario.now (known_of knows_living m))) told s.at.tells in
    record { stands = at; done = t.done }

-- ---- the lists of classes that no type uses

pub no-tokens : (us : List Token) → map number_of us ≡ [] → us ≡ []
no-tokens [] e = refl
no-tokens (u ∷ us) e = cc

pub never-used : (s : Parts) (c : ℕ) → times c (opened_classes s.types) ≡ 0 → (b : Bool) → list_any (uses_class c) s.types ≡ b → list_any (uses_class c) s.types ≡ false
never-used s c none true e = absurd (let h = opened-has s.types c e in omega (arith, h, none))
never-used s c none false e = e

-- Of the front of a log: the cache of a class that no type uses stays as it was.
abbrev pub RowsKept : Type 0
RowsKept = (s : Parts) (p : ℕ) (front : Log) → HandlersStand s p front → HandlersDone s p front → Front s p (opening p) front → (c : ℕ) → list_any (uses_class c) s.types ≡ false → (after (opening p) front).rows c ≡ (opening p).rows c

-- ---- all together

no-seen : (us : List Token) → us ≡ [] → map number_of us ≡ []
no-seen us e = ap (map number_of) e

pub lists-end : (s : Parts) (c : ℕ) (last : State Token) (b : Bool) → list_any (uses_class c) s.types ≡ b → (list_any (uses_class c) s.types ≡ true → seven_lists (last.rows c) ≡ []) → (list_any (uses_class c) s.types ≡ false → seven_lists ((seen number_of last).rows c) ≡ []) → seven_lists ((seen number_of last).rows c) ≡ []
lists-end s c last true e f g = sym (map-seven number_of (last.rows c)) ∙ no-seen (seven_lists (last.rows c)) (f e)
lists-end s c last false e f g = g e

-- Of a whole log with handlers: its allocations answer null where the law says so.
abbrev pub NullKept : Type 0
NullKept = (s : Parts) (p : ℕ) (log : Log) (last : State ℕ) → HandlersStand s p log → HandlersDone s p log → IsLog s p log → Leaves p log last → NullLaw p log

abbrev pub ToldSweeps : Type 0
ToldSweeps = (classes : List ℕ) (boxes : Inboxes) (t : State ℕ) (part : Log) → SweepsTold classes boxes t part → AreSweeps classes t part

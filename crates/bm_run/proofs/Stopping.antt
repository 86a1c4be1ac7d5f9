-- What a script has run when it stops.
use Rattle.std.proofs.Common.{◌≡◌, ℕ, Bool, List, Option, Some, None, refl}
use Rattle.std.specs.Option.{option_map}
use Rattle.bm_journal.specs.declared.ids.Domain.{Domain}
use Rattle.bm_journal.specs.declared.ids.Domain.TheVariants.{Plain, Tracing}
use Rattle.bm_lang.specs.declared.scenario.MapId.{MapId}
use Rattle.bm_law.specs.Lists.{Log}
use Rattle.bm_law.specs.State.{State}
use Rattle.bm_law_work.specs.Grown.{GrewBy, GrewPart}
use Rattle.bm_law_work.specs.Parts.{Part}
use Rattle.bm_law_scenario.specs.Declared.{Declared}
use Rattle.bm_law_scenario.specs.Grammar.{is_plain}
use Rattle.bm_law_scenario.specs.Held.{Names, OwnsNothing}
use Rattle.bm_world.specs.LivingState.{LivingState}
use Rattle.bm_world.specs.ToldLiving.{knows_living}
use Rattle.bm_exec.specs.Around.{Around}
use Rattle.bm_exec.specs.Running.{Ran}
use Rattle.bm_exec.specs.Stack.{RunsStack}
use Rattle.bm_exec.specs.Yields.{IfWent}
use Rattle.bm_exec.specs.declared.frame.Open.{Open}
use Rattle.bm_exec.specs.declared.running.Stopped.{Stopped}
use Rattle.bm_exec.specs.declared.running.Stopped.TheVariants as stopped
use Rattle.bm_exec_levels.specs.Ordinary.{Scripted}
use Rattle.bm_exec_levels.specs.Ready.{word_of}
use Rattle.bm_exec_levels.specs.declared.processor.Processor.{Processor}

pub if-went : (r : Stopped) (P Q : Type 0) → IfWent r P → (P → Q) → IfWent r Q
if-went stopped.Ended P Q h f = f h
if-went stopped.Yielded P Q h f = f h
if-went stopped.NoMemory P Q h f = tt

pub both-went : (r : Stopped) (P Q R : Type 0) → IfWent r P → IfWent r Q → (P → Q → R) → IfWent r R
both-went stopped.Ended P Q R h k f = f h k
both-went stopped.Yielded P Q R h k f = f h k
both-went stopped.NoMemory P Q R h k f = tt

-- what open blocks run, to names that own nothing
abbrev pub Finishes : Declared → Around → Option (List ℕ) → List Open → Names → Part
Finishes d z w blocks names l part = (last : Names) × RunsStack d 0 z w blocks names last l part × ((x : List ℕ) → OwnsNothing (last x))

pub finishes-on : (d : Declared) (z z' : Around) (w : Option (List ℕ)) (s s' : State ℕ) (names names' : Names) (before now : List Open) (log log' : Option Log) →
    ((after : Names) (final : Option Log) → GrewBy (RunsStack d 0 z' w now names' after) s' log' final → GrewBy (RunsStack d 0 z w before names after) s log final) → (mid : Option Log) →
    GrewBy (Finishes d z' w now names') s' log' mid → GrewBy (Finishes d z w before names) s log mid
finishes-on d z z' w s s' names names' before now log log' f None h = tt
finishes-on d z z' w s s' names names' before now log log' f (Some mid) h =
    let p = h.is_part in
    let g : GrewPart (RunsStack d 0 z w before names p.0) s log mid = f p.0 (Some mid) (record { log = h.log; told = h.told; added = h.added; now_is = h.now_is; is_part = p.1 }) in
    record { log = g.log; told = g.told; added = g.added; now_is = g.now_is; is_part = (p.0, g.is_part, p.2) }

pub finishes-ran : (d : Declared) (z : Around) (w : Option (List ℕ)) (s : State ℕ) (names names' : Names) (before : List Open) (log log' : Option Log) → Ran d 0 z w s names names' before log log' → GrewBy (Finishes d z w before names) s log log'
finishes-ran d z w s names names' before log None r = tt
finishes-ran d z w s names names' before log (Some now) r =
    let g = r.grew in
    record { log = g.log; told = g.told; added = g.added; now_is = g.now_is; is_part = (names', g.is_part, r.owns_nothing) }

-- ---- its lock

-- where no place of a lock is told, none is held
pub none-locked : (lock : Option MapId) → option_map (λ (g : MapId). g.0) lock ≡ None → lock ≡ None
none-locked None e = refl
none-locked (Some g) e = absurd (cc)

-- ---- the word of its section

-- it stays, by what the script is in
pub section-kept : (d : Domain) (whole : Bool) (a b : Processor LivingState) → whole ≡ is_plain d → Scripted knows_living whole a b → word_of knows_living d b ≡ word_of knows_living d a
section-kept Plain whole a b e s = s.plain e
section-kept Tracing whole a b e s = s.tracing

-- The closing of a processor, behind its scripts: what it leaves in the log. (bpf_obj_free_fields in kernel/bpf/syscall.c gives up what the fields of a
-- map's value hold when the map goes away. free_mem_alloc and drain_mem_cache in
-- kernel/bpf/memalloc.c empty all lists of a cache after the last grace periods. That a tracing period stands behind each
-- sweep, the order of the lists, and that periods are finished by those who began them are this project's own.)
use Rattle.std.specs.Prelude.{◌≡◌, ◌≤◌, ℕ, zero, suc, ◌+◌, Option, Some, None, List, [], ◌∷◌, ◌++◌}
use Rattle.bm_journal.specs.declared.ids.Domain.{Domain}
use Rattle.bm_journal.specs.declared.ids.Domain.TheVariants.{Plain, Tracing}
use Rattle.bm_journal.specs.declared.period.Period.{Period}
use Rattle.bm_journal.specs.declared.ids.ObjId.{ObjId}
use Rattle.bm_journal.specs.declared.ids.Tag.{Tag}
use Rattle.bm_journal.specs.declared.entry.Entry.{Entry}
use Rattle.bm_journal.specs.declared.entry.Entry.TheVariants as entry
use Rattle.bm_lang.specs.declared.scenario.MapDeclaration.{MapDeclaration}
use Rattle.bm_lang.specs.declared.scenario.MapKind.{MapKind}
use Rattle.bm_lang.specs.declared.scenario.MapKind.TheVariants.{Slot}
use Rattle.bm_lang.specs.declared.scenario.MapKind.TheVariants as kind
use Rattle.bm_lang.specs.declared.scenario.TypeDeclaration.{TypeDeclaration}
use Rattle.bm_lang.specs.declared.scenario.TypeId.{TypeId}
use Rattle.bm_law.specs.State.{seven_lists}
use Rattle.bm_law.specs.Lists.{Log}
use Rattle.bm_law.specs.SweepPhrases.{SweepPhrase}
pub use Rattle.bm_law.specs.Begun.{begun_after}
use Rattle.bm_law_work.specs.Parts.{Part, Nothing, Stand, Say, Then}
use Rattle.bm_law_scenario.specs.Calls.{RunsGivingUp, batch_in}
use Rattle.bm_law_scenario.specs.Declared.{Declared}
use Rattle.bm_law_scenario.specs.Held.{Names, Object, no_names, with_name}

-- processor 0 begins the closing
abbrev pub close_of : ℕ → List Entry
close_of zero = entry.Close ∷ []
close_of (suc p) = []

-- what a slot of this type held is given up, as a statement gives up what a name holds
abbrev pub GivesBack : List TypeDeclaration → TypeId → Option ObjId → Part
GivesBack types t None = Nothing
GivesBack types t (Some o) = λ s part.
    (x : List ℕ) × (after : Names)
    × Say 0
    (λ own. RunsGivingUp types x (batch_in s) (with_name x (Object t o.unit o.life) no_names)
    own after)
    s part

-- a slot is exchanged with null, and what it held is given up
abbrev pub EmptiesSlot : List TypeDeclaration → MapDeclaration → Part
EmptiesSlot types slot s part =
    (was : Option ObjId) × (by : Option Tag)
    × Then (Stand 0 (entry.Xchg slot.name None was by ∷ [])) (GivesBack types slot.type_id was) s
    part

-- a list is popped from the front n times, what it gave is given up each time, and then it is empty
abbrev pub EmptiesList : List TypeDeclaration → MapDeclaration → ℕ → Part
EmptiesList types list zero s part =
    (position : ℕ) × Stand 0 (entry.PopFront list.name None position ∷ []) s part
EmptiesList types list (suc n) s part =
    (o : ObjId) × (position : ℕ)
    × Then (Stand 0 (entry.PopFront list.name (Some o) position ∷ []))
    (Then (GivesBack types list.type_id (Some o)) (EmptiesList types list n)) s part

-- so is a tree: its first object is taken out each time
abbrev pub EmptiesTree : List TypeDeclaration → MapDeclaration → ℕ → Part
EmptiesTree types tree zero s part =
    (position : ℕ) × Stand 0 (entry.First tree.name None position ∷ []) s part
EmptiesTree types tree (suc n) s part =
    (o : ObjId) × (seen taken : ℕ)
    × Then
    (Stand 0
    (entry.First tree.name (Some o) seen ∷ entry.Remove tree.name o.unit o.life taken ∷ []))
    (Then (GivesBack types tree.type_id (Some o)) (EmptiesTree types tree n)) s part

-- A map is emptied. (bpf_list_head_free and bpf_rb_root_free in kernel/bpf/helpers.c.)
abbrev pub EmptiesMap : List TypeDeclaration → MapKind → MapDeclaration → Part
EmptiesMap types Slot m = EmptiesSlot types m
EmptiesMap types kind.List m = λ s part. (n : ℕ) × EmptiesList types m n s part
EmptiesMap types kind.Tree m = λ s part. (n : ℕ) × EmptiesTree types m n s part

-- one map after the other, in the order of their declarations
abbrev pub EmptiesMaps : List TypeDeclaration → List MapDeclaration → Part
EmptiesMaps types [] = Nothing
EmptiesMaps types (m ∷ ms) = Then (EmptiesMap types m.kind m) (EmptiesMaps types ms)

-- processor 0 empties the maps
abbrev pub Empties : ℕ → Declared → Part
Empties zero d = EmptiesMaps d.types d.maps
Empties (suc p) d = Nothing

-- the number with which the period of this domain that is in progress began, if one is, after a log
abbrev pub in_progress : Domain → Option ℕ → Log → Option ℕ
in_progress d begun [] = begun
in_progress d begun (e ∷ es) = in_progress d (begun_after d begun e.1) es

-- the end of the period that began with number n
abbrev pub IsEnd : Domain → ℕ → List Entry → Type 0
IsEnd d n own =
    (period : Period) × (period.domain ≡ d) × (period.number ≡ n + 1)
    × (own ≡ entry.Finish period ∷ [])

-- the end of a period exactly where one is in progress
abbrev pub EndsOne : Domain → Option ℕ → Part
EndsOne d None = Nothing
EndsOne d (Some n) = Say 0 (IsEnd d n)

-- the periods that a processor has in progress after this log end, first the plain one
abbrev pub EndsPeriods : Log → Part
EndsPeriods log =
    Then (EndsOne Plain (in_progress Plain None log))
    (EndsOne Tracing (in_progress Tracing None log))

-- A sweep that takes exactly these units, waits until its stamp is reached, and gives exactly these units back to the stock.
pub record SweepOf (c : ℕ) (units : List ℕ) (own : List Entry) : Type 0 where
  pub phrase : SweepPhrase c own
  pub taken : phrase.swept ≡ units
  pub waited : phrase.stamp ≤ phrase.polls.seen
  pub given : phrase.returned ≡ units

-- a sweep exactly where there are units
abbrev pub SweepWhere : ℕ → List ℕ → Part
SweepWhere c [] = Nothing
SweepWhere c (u ∷ us) = Say 0 (SweepOf c (u ∷ us))

-- One class after the other: a sweep where its lists or its inbox hold a unit. It takes those of the lists, and then
-- those of the inbox, of which the law of parcels tells.
abbrev pub AreSweeps : List ℕ → Part
AreSweeps [] s part = Nothing s part
AreSweeps (c ∷ cs) s part =
    (inbox : List ℕ) × Then (SweepWhere c (seven_lists (s.rows c) ++ inbox)) (AreSweeps cs) s part

-- the closing of processor p after this log
abbrev pub Closing : Declared → ℕ → List ℕ → Log → Part
Closing d p classes log =
    Then (Stand 0 (entry.Ended ∷ close_of p))
    (Then (Empties p d) (Then (EndsPeriods log) (AreSweeps classes)))

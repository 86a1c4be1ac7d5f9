-- What the types of a journal keep of its values: each number is in the range of its type, each name is a word, each
-- list is as long as its type lets it be.
use Rattle.std.specs.Prelude.{◌≡◌, ℕ, ◌<◌, ◌≤◌, ◌^◌, List, [], ◌∷◌, Option, Some, None, length, IsTrue}
use Rattle.bm_word.specs.Word.{is_word}
use Rattle.bm_class.specs.declared.watermarks.Marks.{Marks}
use Rattle.bm_journal.specs.declared.ids.ObjId.{ObjId}
use Rattle.bm_journal.specs.declared.ids.Tag.{Tag}
use Rattle.bm_journal.specs.declared.units.Units.{Units}
use Rattle.bm_journal.specs.declared.units.Units.TheVariants.{Whole, Counted}
use Rattle.bm_journal.specs.declared.period.Period.{Period}
use Rattle.bm_journal.specs.declared.entry.Entry.{Entry}
use Rattle.bm_journal.specs.declared.entry.Entry.TheVariants as entry
use Rattle.bm_journal.specs.declared.past.Past.{Past}
use Rattle.bm_journal.specs.declared.past.PastCall.{PastCall}
use Rattle.bm_journal.specs.declared.past.PastCall.TheVariants as past
use Rattle.bm_journal.specs.declared.journal.Journal.{Journal}
use Rattle.bm_journal.specs.WellFormed.{all_differ, is_whole_entry, owner_below}
use Rattle.bm_law_text.specs.declared.line.Line.{Line}
use Rattle.bm_law_text.specs.declared.line.Line.TheVariants as line_as

-- each element does
abbrev pub Each : {X : Type 0} → (X → Type 0) → List X → Type 0
Each P [] = Unit {0}
Each P (x ∷ xs) = P x × Each P xs

abbrev pub IsName : List ℕ → Type 0
IsName name = IsTrue (is_word name)

abbrev pub IdFits : ObjId → Type 0
IdFits o = (o.unit < 2 ^ 16) × (o.life < 2 ^ 32)

abbrev pub ObjectFits : Option ObjId → Type 0
ObjectFits (Some o) = IdFits o
ObjectFits None = Unit {0}

abbrev pub TagFits : Tag → Type 0
TagFits t = (t.processor < 2 ^ 8) × (t.serial < 2 ^ 32)

abbrev pub CallFits : Option Tag → Type 0
CallFits (Some t) = TagFits t
CallFits None = Unit {0}

abbrev pub UnitsFit : Units → Type 0
UnitsFit (Whole us) = Each (λ u. u < 2 ^ 16) us
UnitsFit (Counted n) = n < 2 ^ 32

-- at most so many numbers of 32 bits
abbrev pub FewFit : ℕ → List ℕ → Type 0
FewFit most ns = Each (λ n. n < 2 ^ 32) ns × (length ns ≤ most)

abbrev pub PeriodFits : Period → Type 0
PeriodFits p = (p.number < 2 ^ 32) × FewFit 16 p.first × FewFit 16 p.later

abbrev pub EntryFits : Entry → Type 0
EntryFits (entry.Fill c us) = (c ≤ 10) × UnitsFit us
EntryFits (entry.Script name) = IsName name
EntryFits (entry.Done name) = IsName name
EntryFits (entry.Handler name) = IsName name
EntryFits (entry.Back name) = IsName name
EntryFits (entry.In d w) = w < 2 ^ 32
EntryFits (entry.Out d w) = w < 2 ^ 32
EntryFits entry.Yield = Unit {0}
EntryFits entry.Ended = Unit {0}
EntryFits entry.Close = Unit {0}
EntryFits (entry.New name vs) = IsName name × FewFit 8 vs
EntryFits (entry.Given u l) = (u < 2 ^ 16) × (l < 2 ^ 32)
EntryFits (entry.GivenAfter u l s n) = (u < 2 ^ 16) × (l < 2 ^ 32) × (s < 2 ^ 32) × (n < 2 ^ 32)
EntryFits entry.Empty = Unit {0}
EntryFits (entry.Busy a) = a < 2 ^ 32
EntryFits (entry.Drop u l) = (u < 2 ^ 16) × (l < 2 ^ 32)
EntryFits (entry.Still k) = k < 2 ^ 32
EntryFits entry.Last = Unit {0}
EntryFits (entry.Free u h) = (u < 2 ^ 16) × (h < 2 ^ 8)
EntryFits (entry.Delay u h) = (u < 2 ^ 16) × (h < 2 ^ 8)
EntryFits (entry.Acquire u l k) = (u < 2 ^ 16) × (l < 2 ^ 32) × (k < 2 ^ 32)
EntryFits (entry.Get u l f v) = (u < 2 ^ 16) × (l < 2 ^ 32) × (f < 2 ^ 8) × (v < 2 ^ 32)
EntryFits (entry.Xchg name put was by) = IsName name × ObjectFits put × ObjectFits was × CallFits by
EntryFits (entry.Lock name) = IsName name
EntryFits (entry.Unlock name) = IsName name
EntryFits (entry.PushFront name u l pos) =
    IsName name × (u < 2 ^ 16) × (l < 2 ^ 32) × (pos < 2 ^ 32)
EntryFits (entry.PushBack name u l pos) = IsName name × (u < 2 ^ 16) × (l < 2 ^ 32) × (pos < 2 ^ 32)
EntryFits (entry.Add name u l pos) = IsName name × (u < 2 ^ 16) × (l < 2 ^ 32) × (pos < 2 ^ 32)
EntryFits (entry.PushFrontAlready name u l owner pos) =
    IsName name × (u < 2 ^ 16) × (l < 2 ^ 32) × IsName owner × (pos < 2 ^ 32)
EntryFits (entry.PushBackAlready name u l owner pos) =
    IsName name × (u < 2 ^ 16) × (l < 2 ^ 32) × IsName owner × (pos < 2 ^ 32)
EntryFits (entry.AddAlready name u l owner pos) =
    IsName name × (u < 2 ^ 16) × (l < 2 ^ 32) × IsName owner × (pos < 2 ^ 32)
EntryFits (entry.PopFront name x pos) = IsName name × ObjectFits x × (pos < 2 ^ 32)
EntryFits (entry.PopBack name x pos) = IsName name × ObjectFits x × (pos < 2 ^ 32)
EntryFits (entry.First name x pos) = IsName name × ObjectFits x × (pos < 2 ^ 32)
EntryFits (entry.Remove name u l pos) = IsName name × (u < 2 ^ 16) × (l < 2 ^ 32) × (pos < 2 ^ 32)
EntryFits (entry.Work c) = c ≤ 10
EntryFits (entry.Begin d n) = n < 2 ^ 32
EntryFits (entry.Finish p) = PeriodFits p
EntryFits (entry.Enter c a) = (c ≤ 10) × (a < 2 ^ 32)
EntryFits (entry.Pop c u) = (c ≤ 10) × (u < 2 ^ 16)
EntryFits (entry.PopNone c) = c ≤ 10
EntryFits (entry.Count c k) = (c ≤ 10) × (k < 2 ^ 32)
EntryFits (entry.Leave c a) = (c ≤ 10) × (a < 2 ^ 32)
EntryFits (entry.Raise c) = c ≤ 10
EntryFits (entry.Push c u) = (c ≤ 10) × (u < 2 ^ 16)
EntryFits (entry.Delayed c u) = (c ≤ 10) × (u < 2 ^ 16)
EntryFits (entry.Look c k) = (c ≤ 10) × (k < 2 ^ 32)
EntryFits (entry.Put c u) = (c ≤ 10) × (u < 2 ^ 16)
EntryFits (entry.Lost c) = c ≤ 10
EntryFits (entry.LookDelayed c k) = (c ≤ 10) × (k < 2 ^ 32)
EntryFits (entry.PutDelayed c u) = (c ≤ 10) × (u < 2 ^ 16)
EntryFits (entry.LostDelayed c) = c ≤ 10
EntryFits (entry.Receive c us) = (c ≤ 10) × UnitsFit us
EntryFits (entry.Read c k) = (c ≤ 10) × (k < 2 ^ 32)
EntryFits (entry.Ready c u) = (c ≤ 10) × (u < 2 ^ 16)
EntryFits (entry.Second c u) = (c ≤ 10) × (u < 2 ^ 16)
EntryFits (entry.Fetch c want us) = (c ≤ 10) × (want < 2 ^ 32) × UnitsFit us
EntryFits (entry.TakeExtra c us) = (c ≤ 10) × UnitsFit us
EntryFits (entry.Send c p us) = (c ≤ 10) × (p < 2 ^ 8) × UnitsFit us
EntryFits (entry.TakeDelayed c us) = (c ≤ 10) × UnitsFit us
EntryFits (entry.Batch c us) = (c ≤ 10) × UnitsFit us
EntryFits (entry.Stamp c d s) = (c ≤ 10) × (s < 2 ^ 32)
EntryFits (entry.Pass c d n) = (c ≤ 10) × (n < 2 ^ 32)
EntryFits (entry.BeginSecond c us) = (c ≤ 10) × UnitsFit us
EntryFits (entry.Return c us) = (c ≤ 10) × UnitsFit us
EntryFits (entry.Sweep c us) = (c ≤ 10) × UnitsFit us

abbrev pub LeveledFits : ℕ × Entry → Type 0
LeveledFits x = (x.0 ≤ 3) × EntryFits x.1

abbrev pub MarksFit : Marks → Type 0
MarksFit m = (m.low < 2 ^ 32) × (m.high < 2 ^ 32) × (m.batch < 2 ^ 32)

abbrev pub ClassFits : ℕ × Marks → Type 0
ClassFits x = (x.0 ≤ 10) × MarksFit x.1

abbrev pub PastCallFits : PastCall → Type 0
PastCallFits (past.PushFront o) = IdFits o
PastCallFits (past.PushBack o) = IdFits o
PastCallFits (past.Add o key) = IdFits o × (key < 2 ^ 32)
PastCallFits (past.PushFrontAlready o owner) = IdFits o × (owner < 2 ^ 8)
PastCallFits (past.PushBackAlready o owner) = IdFits o × (owner < 2 ^ 8)
PastCallFits (past.AddAlready o key owner) = IdFits o × (key < 2 ^ 32) × (owner < 2 ^ 8)
PastCallFits (past.PopFront o) = IdFits o
PastCallFits past.PopFrontNone = Unit {0}
PastCallFits (past.PopBack o) = IdFits o
PastCallFits past.PopBackNone = Unit {0}
PastCallFits (past.First o) = IdFits o
PastCallFits past.FirstNone = Unit {0}
PastCallFits (past.Remove o) = IdFits o

abbrev pub PastFits : Past → Type 0
PastFits past = TagFits past.tag × PastCallFits past.call

abbrev pub GraphFits : List ℕ × List Past → Type 0
GraphFits graph = IsName graph.0 × Each PastFits graph.1 × (length graph.1 < 2 ^ 64)

-- what a line keeps, where the maps have these names
abbrev pub LineFits : List (List ℕ) → Line → Type 0
LineFits maps (line_as.Size p g) = (p < 2 ^ 8) × (g < 2 ^ 16)
LineFits maps (line_as.Types ns) = Each IsName ns
LineFits maps (line_as.Maps ns) = Each IsName ns × IsTrue (all_differ ns)
LineFits maps (line_as.Scripts ns) = Each IsName ns
LineFits maps (line_as.Class c m) = (c ≤ 10) × MarksFit m
LineFits maps (line_as.Processor p) = p < 2 ^ 64
LineFits maps (line_as.Entry l e) = (l ≤ 3) × EntryFits e × IsTrue (is_whole_entry e)
LineFits maps (line_as.Graph n) = IsName n
LineFits maps (line_as.Past p call) =
    (p < 2 ^ 64) × PastFits call × IsTrue (owner_below (length maps) call.call)
LineFits maps (line_as.Total t v) = v < 2 ^ 64

-- what the types keep of a whole journal; the rest are ghost fields of its own
pub record JournalFits (j : Journal) : Type 0 where
  pub processors : j.processors < 2 ^ 8
  pub pages : j.pages < 2 ^ 16
  pub types : Each IsName j.types
  pub maps : Each IsName j.maps
  pub scripts : Each IsName j.scripts
  pub classes : Each ClassFits j.classes
  pub logs : Each (Each LeveledFits) j.logs
  pub few_logs : length j.logs < 2 ^ 64
  pub graphs : Each GraphFits j.graphs
  pub totals : Each (λ n. n < 2 ^ 64) j.totals
  pub nineteen : length j.totals ≡ 19

-- The totals of a journal, their order and their names.
use Rattle.std.specs.Prelude.{ℕ, List, [], ◌∷◌, codes}
use Rattle.bm_journal.specs.declared.total.Total.{Total}
use Rattle.bm_journal.specs.declared.total.Total.TheVariants as total

-- all totals, in the order in which they are printed
abbrev pub all_totals : List Total
all_totals =
    total.Steps ∷ total.Given ∷ total.Empty ∷ total.Busy ∷ total.Last ∷ total.Still ∷ total.Acquired
    ∷ total.Exchanged ∷ total.Pushed ∷ total.Already ∷ total.Taken ∷ total.None ∷ total.Raised
    ∷ total.Worked ∷ total.Fetched ∷ total.Returned ∷ total.Plain ∷ total.Tracing ∷ total.Handlers
    ∷ []

-- the place of a total among all, from 0
abbrev pub total_place : Total → ℕ
total_place total.Steps = 0
total_place total.Given = 1
total_place total.Empty = 2
total_place total.Busy = 3
total_place total.Last = 4
total_place total.Still = 5
total_place total.Acquired = 6
total_place total.Exchanged = 7
total_place total.Pushed = 8
total_place total.Already = 9
total_place total.Taken = 10
total_place total.None = 11
total_place total.Raised = 12
total_place total.Worked = 13
total_place total.Fetched = 14
total_place total.Returned = 15
total_place total.Plain = 16
total_place total.Tracing = 17
total_place total.Handlers = 18

-- the name of a total
abbrev pub total_name : Total → List ℕ
total_name total.Steps = codes "steps"
total_name total.Given = codes "given"
total_name total.Empty = codes "empty"
total_name total.Busy = codes "busy"
total_name total.Last = codes "last"
total_name total.Still = codes "still"
total_name total.Acquired = codes "acquired"
total_name total.Exchanged = codes "exchanged"
total_name total.Pushed = codes "pushed"
total_name total.Already = codes "already"
total_name total.Taken = codes "taken"
total_name total.None = codes "none"
total_name total.Raised = codes "raised"
total_name total.Worked = codes "worked"
total_name total.Fetched = codes "fetched"
total_name total.Returned = codes "returned"
total_name total.Plain = codes "plain"
total_name total.Tracing = codes "tracing"
total_name total.Handlers = codes "handlers"

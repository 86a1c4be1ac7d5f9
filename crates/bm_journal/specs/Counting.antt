-- The counters that the code goes over the entries with.
use Rattle.std.specs.Prelude.{ℕ, ◌+◌, ◌-◌, ◌^◌, Bool, true, false, min, List, [], ◌∷◌, slice_index, slice_set, replicate}
use Rattle.bm_journal.specs.declared.counting.Part.{Part}
use Rattle.bm_journal.specs.declared.counting.Part.TheVariants as part
use Rattle.bm_journal.specs.declared.total.Total.{Total}
use Rattle.bm_journal.specs.declared.entry.Entry.{Entry}
use Rattle.bm_journal.specs.TotalNames.{all_totals, total_place}
use Rattle.bm_journal.specs.Totals.{step, step_and, one, counts_of}
use Rattle.bm_journal.specs.UnitCount.{unit_count}

-- what an entry adds, from what the code reads off it
abbrev pub counted_parts : Bool × Part → List (Total × ℕ)
counted_parts (false, part.Nothing) = []
counted_parts (false, part.One t) = one t
counted_parts (false, part.Units t us) = (t, unit_count us.now) ∷ []
counted_parts (true, part.Nothing) = step
counted_parts (true, part.One t) = step_and t 1
counted_parts (true, part.Units t us) = step_and t (unit_count us.now)

-- the numbers with so much more of one total, held at the greatest number of their type
abbrev pub added : Total → ℕ → List ℕ → List ℕ
added t amount values =
    slice_set values (total_place t)
    (min (slice_index values (total_place t) + amount) (2 ^ 64 - 1))

-- the numbers after the additions of an entry and of a log, one by one
abbrev pub adds : List (Total × ℕ) → List ℕ → List ℕ
adds [] values = values
adds (x ∷ xs) values = adds xs (added x.0 x.1 values)

abbrev pub adds_log : List (ℕ × Entry) → List ℕ → List ℕ
adds_log [] values = values
adds_log (x ∷ log) values = adds_log log (adds (counts_of x.1) values)

-- as much of each of these totals as these numbers say
abbrev pub each_total : List ℕ → List Total → List (Total × ℕ)
each_total more [] = []
each_total more (t ∷ ts) = (t, slice_index more (total_place t)) ∷ each_total more ts

-- the numbers after those of each log, counted from nothing, were added
abbrev pub adds_logs : List (List (ℕ × Entry)) → List ℕ → List ℕ
adds_logs [] values = values
adds_logs (log ∷ logs) values =
    adds_logs logs (adds (each_total (adds_log log (replicate 19 0)) all_totals) values)

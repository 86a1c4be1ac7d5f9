-- References to a life: each acquire raises the count of references, and each drop that isn't the last lowers it; so the count goes up past
-- a number as often as it comes down past it. (bpf_refcount_acquire_impl and bpf_obj_drop_impl of kernel/bpf/helpers.c, which
-- count by refcount_inc_not_zero and refcount_dec_and_test. That entries say the count seen is this project's own.)
use Rattle.std.specs.Prelude.{◌≡◌, ◌<◌, ℕ, ◌+◌, Bool, false, ◌&&◌, eqb, nat_lt, if◌then◌else◌, Option, Some, None, List, [], ◌∷◌}
use Rattle.bm_journal.specs.declared.ids.ObjId.{ObjId}
use Rattle.bm_journal.specs.declared.entry.Entry.{Entry}
use Rattle.bm_journal.specs.declared.entry.Entry.TheVariants as entry
use Rattle.bm_law.specs.Lists.{Log}
use Rattle.bm_law_lives.specs.Together.{named, times}
use Rattle.bm_law_order.specs.Lives.{Dropping, Life, Lives}
use Rattle.bm_law_order.specs.Orders.{Order}
use Rattle.bm_law_objects.specs.Gathered.{last_call, no_call, gathered_by, gathered_over}

-- the count that an acquire of this life of a unit saw
abbrev pub acquired_at : (u life : ℕ) → Entry → List ℕ
acquired_at u life (entry.Acquire v n k) = if eqb u v && eqb life n then k ∷ [] else []
acquired_at u life _ = []

-- what a drop gives up
abbrev pub dropped : Entry → Option ObjId
dropped (entry.Drop u life) = Some (record { unit = u; life = life })
dropped _ = None

abbrev pub is_life : (u life : ℕ) → Option ObjId → Bool
is_life u life None = false
is_life u life (Some x) = eqb u x.unit && eqb life x.life

-- the count that a drop of this life saw which wasn't the last, where `last` has the last drop of each level
abbrev pub still_at : (u life : ℕ) → (ℕ → Option ObjId) → ℕ × Entry → List ℕ
still_at u life last (l, entry.Still k) = if is_life u life (last l) then k ∷ [] else []
still_at u life last (l, _) = []

-- those of all logs, and of an order whose levels have begun such drops before
abbrev pub all_stills : (u life : ℕ) → List Log → List ℕ
all_stills u life logs = gathered_by (last_call dropped) (λ p. still_at u life) no_call logs

abbrev pub stills_over : (u life : ℕ) → Order → (ℕ → ℕ → Option ObjId) → List ℕ
stills_over u life o last = gathered_over (last_call dropped) (λ p. still_at u life) o last

-- As many acquires of a life saw a count of k as drops of it were answered that there were k + 1.
abbrev pub ReferenceLaw : List Log → Type 0
ReferenceLaw logs =
    (u life k : ℕ)
    → times k (named (acquired_at u life) logs) ≡ times (k + 1) (all_stills u life logs)

-- ---- at some time

-- whether the count of a life is above k: then one acquire more than drops went past it; the first reference was there from the start
abbrev pub above : (k : ℕ) → Option Life → ℕ
above k None = 0
above k (Some life) = if nat_lt 0 k && nat_lt k life.count then 1 else 0

-- .. where unit u has this life
abbrev pub count_above : (u life k : ℕ) → Lives → ℕ
count_above u life k lives = if eqb life (lives.begun u) then above k (lives.holds u) else 0

-- there is a reference to a life as long as it lasts
abbrev pub IsCounted : Option Life → Type 0
IsCounted None = Unit {0}
IsCounted (Some life) = 0 < life.count

-- the drop that is under way at a level, or that ended a life which isn't freed yet
abbrev pub under_way : Option Dropping → Option ObjId
under_way None = None
under_way (Some d) = Some (record { unit = d.unit; life = d.life })

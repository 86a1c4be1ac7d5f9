-- The references to a unit, over an order. (bpf_obj_new_impl, bpf_refcount_acquire_impl and bpf_obj_drop_impl of
-- kernel/bpf/helpers.c.)
use Rattle.std.specs.Prelude.{ℕ, ◌+◌, eqb, if◌then◌else◌, Option, Some, None, [], ◌∷◌}
use Rattle.bm_journal.specs.declared.entry.Entry.{Entry}
use Rattle.bm_journal.specs.declared.entry.Entry.TheVariants as entry
use Rattle.bm_law_order.specs.Lives.{Dropping, Life, Lives, lives_after}
use Rattle.bm_law_order.specs.Orders.{Order}

-- how many references there are to the life that unit u has; to none there is none
abbrev pub count_of : Option Life → ℕ
count_of None = 0
count_of (Some life) = life.count

abbrev pub references : ℕ → Lives → ℕ
references u lives = count_of (lives.holds u)

-- how many an entry adds: a life begins with one
abbrev pub references_made : ℕ → Entry → ℕ
references_made u (entry.Given v life) = if eqb u v then 1 else 0
references_made u (entry.GivenAfter v life stamp seen) = if eqb u v then 1 else 0
references_made u (entry.Acquire v life k) = if eqb u v then 1 else 0
references_made u _ = 0

-- how many an entry of level l of processor p gives up: a reply the one that its level drops
abbrev pub dropped_of : ℕ → Option Dropping → ℕ
dropped_of u None = 0
dropped_of u (Some d) = if eqb u d.unit then 1 else 0

abbrev pub references_dropped : (u p l : ℕ) → Entry → Lives → ℕ
references_dropped u p l (entry.Still k) lives = dropped_of u (lives.dropping p l)
references_dropped u p l entry.Last lives = dropped_of u (lives.dropping p l)
references_dropped u p l _ lives = 0

-- the same of an order
abbrev pub references_made_over : ℕ → Order → ℕ
references_made_over u [] = 0
references_made_over u (e ∷ o) = references_made u e.entry + references_made_over u o

abbrev pub references_dropped_over : ℕ → Order → Lives → ℕ
references_dropped_over u [] lives = 0
references_dropped_over u (e ∷ o) lives =
    references_dropped u e.processor e.level e.entry lives
    + references_dropped_over u o (lives_after e.processor e.level e.entry lives)

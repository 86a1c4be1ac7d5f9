-- What the worked scripts leave in a log.
use Rattle.std.proofs.Common.{inr, ℕ, inl, true, false, cond, List, [], ◌∷◌, ◌++◌, Some, None, refl, sym, subst, lit≤, bytes_eq}
use Rattle.bm_class.specs.Sizes.{class_of_size, size_of_class}
use Rattle.bm_class.specs.Watermarks.{low_of_size, high_of_size}
use Rattle.bm_journal.specs.declared.entry.Entry.{Entry}
use Rattle.bm_journal.specs.declared.entry.Entry.TheVariants as entry
use Rattle.bm_lang.specs.declared.scenario.Action.{Repeat}
use Rattle.bm_law.specs.Phrases.{FreePhrase}
use Rattle.bm_law_scenario.specs.Declared.{unmapped}
use Rattle.bm_law_scenario.specs.Held.{Nothing, Null, Object, Names, no_names, with_name, OwnsNothing}
use Rattle.bm_law_scenario.specs.Opened.{OfClass}
use Rattle.bm_law_scenario.specs.Calls.{Allocates, RunsNew, RunsDrop, any_batch}
use Rattle.bm_law_scenario.proofs.OwnRuns.{Run, RunsBlock}
use Rattle.bm_law_scenario.specs.Worked.{item}
use Rattle.bm_law_scenario.specs.WorkedJournal.{vector_of, block_of, types, x_name, item_id, makes_x, drops_x, drops_x_unless_null, makes_and_drops, makes_and_drops_twice, asks, took, took_none, gave}
use Rattle.bm_law_scenario.proofs.Blocks.{RunsList, block-runs}
use Rattle.bm_law_scenario.proofs.Taken.{holding}

pub of-item : OfClass types 0 0 (record item { line = 5 })
unfolding class_of_size
of-item = record { found = refl; class = refl }

-- ---- with an object

-- the names behind the drop
abbrev pub dropped : Names
dropped = with_name x_name Nothing holding

takes : Allocates 0 (took 3) (Some (3, 1))
unfolding size_of_class low_of_size
takes = (None, 3, 0, refl)

pub new-runs : RunsNew types x_name item_id (7 ∷ []) no_names (asks ∷ took 3) holding
new-runs = record {
  class = 0;
  declared = record item { line = 5 };
  of_class = of-item;
  own = took 3;
  reply = Some (3, 1);
  part_is = refl;
  allocates = takes;
  after_is = refl;
}

-- the free in the drop
abbrev freed : List Entry
freed = entry.Free 3 0 ∷ entry.Enter 0 1 ∷ entry.Push 0 3 ∷ entry.Count 0 4 ∷ entry.Leave 0 0 ∷ []

frees : FreePhrase 0 3 0 freed
unfolding size_of_class high_of_size
frees = inl (4, 0, refl)

pub drop-runs : RunsDrop types x_name any_batch holding (gave 3 4) dropped
drop-runs = record {
  type = item_id;
  unit = 3;
  life = 1;
  held = refl;
  class = 0;
  declared = record item { line = 5 };
  of_class = of-item;
  home = 0;
  batch = false;
  batch_is = tt;
  own = freed;
  part_is = refl;
  frees = frees;
  after_is = refl;
}

inner-runs : (line : ℕ) → RunsBlock (unmapped types) true (block_of (drops_x line ∷ []) (lit≤ tt) line) holding (gave 3 4) dropped
inner-runs line =
    let list : RunsList (unmapped types) (drops_x line ∷ []) holding (gave 3 4) dropped = record { middle = dropped; one = gave 3 4; two = []; part_is = refl; first_runs = inr drop-runs; second_runs = (refl, refl) } in
    subst (λ (run : Run). run holding (gave 3 4) dropped) (sym (block-runs (unmapped types) (vector_of (drops_x line ∷ []) (lit≤ tt)) line)) list

pub object-runs : (first second end : ℕ) → RunsBlock (unmapped types) true (makes_and_drops first second end) no_names (asks ∷ took 3 ++ gave 3 4) dropped
object-runs first second end =
    let list : RunsList (unmapped types) (makes_x first ∷ drops_x_unless_null second ∷ []) no_names (asks ∷ took 3 ++ gave 3 4) dropped = record {
      middle = holding;
      one = asks ∷ took 3;
      two = gave 3 4;
      part_is = refl;
      first_runs = new-runs;
      second_runs = record { middle = dropped; one = gave 3 4; two = []; part_is = refl; first_runs = inner-runs second; second_runs = (refl, refl) };
    } in
    subst (λ (run : Run). run no_names (asks ∷ took 3 ++ gave 3 4) dropped) (sym (block-runs (unmapped types) (vector_of (makes_x first ∷ drops_x_unless_null second ∷ []) (lit≤ tt)) end)) list

pub dropped-owns_nothing : (y : List ℕ) → OwnsNothing (dropped y)
dropped-owns_nothing y = elim (bytes_eq x_name y) as (λ b. OwnsNothing (cond b Nothing (cond b (Object item_id 3 1) Nothing))) [ true ↦ tt | false ↦ tt ]

-- ---- with null

-- the names behind the call
abbrev pub with_null : Names → Names
with_null names = with_name x_name Null names

takes-none : Allocates 0 took_none None
unfolding size_of_class low_of_size
takes-none = inl (0, refl)

null-new_runs : (names : Names) → RunsNew types x_name item_id (7 ∷ []) names (asks ∷ took_none) (with_null names)
null-new_runs names = record {
  class = 0;
  declared = record item { line = 5 };
  of_class = of-item;
  own = took_none;
  reply = None;
  part_is = refl;
  allocates = takes-none;
  after_is = refl;
}

pub null-runs : (first second end : ℕ) (names : Names) → RunsBlock (unmapped types) true (makes_and_drops first second end) names (asks ∷ took_none) (with_null names)
null-runs first second end names =
    let list : RunsList (unmapped types) (makes_x first ∷ drops_x_unless_null second ∷ []) names (asks ∷ took_none) (with_null names) = record {
      middle = with_null names;
      one = asks ∷ took_none;
      two = [];
      part_is = refl;
      first_runs = null-new_runs names;
      second_runs = record { middle = with_null names; one = []; two = []; part_is = refl; first_runs = (refl, refl); second_runs = (refl, refl) };
    } in
    subst (λ (run : Run). run names (asks ∷ took_none) (with_null names)) (sym (block-runs (unmapped types) (vector_of (makes_x first ∷ drops_x_unless_null second ∷ []) (lit≤ tt)) end)) list

-- twice
abbrev pub two_nulls : List Entry
two_nulls = asks ∷ took_none ++ asks ∷ took_none

pub twice-runs : (line end : ℕ) → RunsBlock (unmapped types) true (makes_and_drops_twice line end) no_names two_nulls (with_null (with_null no_names))
twice-runs line end =
    let list : RunsList (unmapped types) (record { line = line; action = Repeat 2 (makes_and_drops line line line) } ∷ []) no_names two_nulls (with_null (with_null no_names)) = record {
      middle = with_null (with_null no_names);
      one = two_nulls;
      two = [];
      part_is = refl;
      first_runs = record {
        middle = with_null no_names;
        one = asks ∷ took_none;
        two = asks ∷ took_none;
        part_is = refl;
        first_runs = null-runs line line line no_names;
        second_runs = record {
          middle = with_null (with_null no_names);
          one = asks ∷ took_none;
          two = [];
          part_is = refl;
          first_runs = null-runs line line line (with_null no_names);
          second_runs = (refl, refl);
        };
      };
      second_runs = (refl, refl);
    } in
    subst (λ (run : Run). run no_names two_nulls (with_null (with_null no_names))) (sym (block-runs (unmapped types) (vector_of (record { line = line; action = Repeat 2 (makes_and_drops line line line) } ∷ []) (lit≤ tt)) end)) list

pub null-owns_nothing : (y : List ℕ) → OwnsNothing (with_null no_names y)
null-owns_nothing y = elim (bytes_eq x_name y) as (λ b. OwnsNothing (cond b Null Nothing)) [ true ↦ tt | false ↦ tt ]

pub nulls-own_nothing : (y : List ℕ) → OwnsNothing (with_null (with_null no_names) y)
nulls-own_nothing y = elim (bytes_eq x_name y) as (λ b. OwnsNothing (cond b Null (cond b Null Nothing))) [ true ↦ tt | false ↦ tt ]

-- The seven lists of a row at the heads of links, in the order in which a closing takes them. (This project's own.)
use Rattle.std.specs.Prelude.{ℕ, ◌+◌, Bool, Option, Some, List, [], ◌++◌, get_or, length, reverse}
use Rattle.bm_law.specs.State.{Row}
use Rattle.bm_law.specs.Places.{list_at}
use Rattle.bm_journal.specs.declared.change.Stack.{Stack}
use Rattle.bm_journal.specs.declared.change.Stack.TheVariants.{Free, Extra, Delayed, ExtraDelayed, First, Ready, Second}

-- the head of a list
abbrev pub head_of : Stack → ℕ
head_of Free = 0
head_of Extra = 1
head_of Delayed = 2
head_of ExtraDelayed = 3
head_of First = 4
head_of Ready = 5
head_of Second = 6

-- the row with another such list
abbrev pub with_list : {A : Type 0} → Stack → List A → Row A → Row A
with_list Free xs r = record r { free = xs }
with_list Extra xs r = record r { extra = xs }
with_list Delayed xs r = record r { delayed = xs }
with_list ExtraDelayed xs r = record r { extra_delayed = xs }
with_list First xs r = record r { deferred = record r.deferred { first = xs } }
with_list Ready xs r = record r { deferred = record r.deferred { ready = xs } }
with_list Second xs r = record r { deferred = record r.deferred { second = xs } }

-- the row with a list changed so
abbrev pub on_list : {A : Type 0} → Stack → (List A → List A) → Row A → Row A
on_list k f r = with_list k (f (list_at k r)) r

-- all of a list, in the order that f gives it, on another
abbrev pub moved_onto : {A : Type 0} → Stack → Stack → (List A → List A) → Row A → Row A
moved_onto from to f r = with_list from [] (with_list to (f (list_at from r) ++ list_at to r) r)

-- Free filled with units one by one, and counted
abbrev pub filled : {A : Type 0} → List A → Row A → Row A
filled us r = record r { free = reverse us ++ r.free; count = r.count + length us }

-- all of Delayed on First, as the plain batch in progress
abbrev pub batched : {A : Type 0} → Row A → Row A
batched r =
    record r {
      delayed = [];
      deferred = record r.deferred { first = r.delayed ++ r.deferred.first; plain = Some 0 };
    }

-- all of Ready on Second, as the tracing batch in progress
abbrev pub second_begun : {A : Type 0} → Row A → Row A
second_begun r =
    record r {
      deferred =
          record r.deferred
          { ready = []; second = r.deferred.ready ++ r.deferred.second; tracing = Some 0 };
    }

-- Second alone has units, and they are the tracing batch in progress.
abbrev pub swept_to : {A : Type 0} → List A → Row A → Row A
swept_to us r =
    record r {
      free = [];
      extra = [];
      delayed = [];
      extra_delayed = [];
      count = 0;
      deferred = record r.deferred { first = []; ready = []; second = us; tracing = Some 0 };
    }

-- the row of these lists, by their heads, and of these numbers
abbrev pub row_of : List (List ℕ) → ℕ → ℕ → Bool → ℕ → Option ℕ → Option ℕ → Row ℕ
row_of ls active count raised target plain tracing = record {
  free = get_or ls 0 [];
  extra = get_or ls 1 [];
  delayed = get_or ls 2 [];
  extra_delayed = get_or ls 3 [];
  active = active;
  count = count;
  raised = raised;
  target = target;
  deferred = record {
    ready = get_or ls 5 [];
    second = get_or ls 6 [];
    first = get_or ls 4 [];
    plain = plain;
    tracing = tracing;
  };
}

-- The numbers of a row.
use Rattle.bm_law.specs.State.{Row}
use Rattle.bm_cache_lists.specs.declared.line.Numbers.{Numbers}

abbrev pub numbers_in : {A : Type 0} → Row A → Numbers
numbers_in r = record {
  active = r.active;
  count = r.count;
  raised = r.raised;
  target = r.target;
  plain = r.deferred.plain;
  tracing = r.deferred.tracing;
}

-- the row with other numbers
abbrev pub with_numbers : {A : Type 0} → Numbers → Row A → Row A
with_numbers n r = record r {
  active = n.active;
  count = n.count;
  raised = n.raised;
  target = n.target;
  deferred = record r.deferred { plain = n.plain; tracing = n.tracing };
}

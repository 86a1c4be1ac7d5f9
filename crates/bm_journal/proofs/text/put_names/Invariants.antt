use Rattle.std.proofs.Common.{◌≡◌, ◌++◌, drop}
use Rattle.bm_journal.specs.Line.{spaced}
use Rattle.bm_journal.proofs.text.put_names.Given as goal

-- what stands there and what is still to come
abbrev pub invariant-loop-name : goal.invariant-loop-name
invariant-loop-name l = l.out.items ++ spaced (drop l.name-index l.names) ≡ l.fn.out.items ++ spaced l.names

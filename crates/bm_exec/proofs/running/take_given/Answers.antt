use Rattle.std.proofs.Common.{ap}
use Rattle.bm_check.specs.Values.{is_owning}
use Rattle.bm_exec.proofs.KnownNames.{owning-there}
use Rattle.bm_exec.proofs.running.take_given.Goals as goal

pub unreachable-requires-in_default-put : goal.unreachable-requires-in_default-put
unreachable-requires-in_default-put c =
    let owned = rw c.in-Some.is at c.requires.gives.1 in
    let there = owning-there c.args.names.now c.in-Some.given (ap is_owning owned) in
    let ok = rw c.in_default-put.is at (c.put.ensures.known (rw c.as_bytes-2.ensures.value there)) in
    cc

pub returns-clause-known : goal.returns-clause-known
returns-clause-known c =
    let owned = rw c.in-Some.is at c.requires.gives.1 in
    let there = owning-there c.args.names.now c.in-Some.given (ap is_owning owned) in
    c.put.ensures.same (rw c.as_bytes-2.ensures.value there)

use Rattle.std.proofs.Common.{refl}
use Rattle.bm_run.proofs.NextLines.{declared-after, next-is, searched-none}
use Rattle.bm_run.proofs.Results.{get-is, not-there}
use Rattle.bm_run.proofs.turns.next_script.Goals as goal

pub loop-remaining-init : goal.loop-remaining-init
loop-remaining-init c = record { searched = searched-none c.args.scenario.now c.args.remaining.now c.requires.declared }

pub unreachable-requires : goal.unreachable-requires
unreachable-requires c =
    let look = rw c.as_slice.ensures at c.in_default-get.ensures.lookup in
    not-there c.args.scenario.now.scripts _ look.3 (c.loop-remaining.invariant.searched.declared 0 _ c.in-len1-up.len_at_least)

pub returns-then-line-remaining-clause-some : goal.returns-then-line-remaining-clause-some
returns-then-line-remaining-clause-some c =
    let look = rw c.as_slice.ensures at c.in-Some.ensures.lookup in
    let found = get-is _ _ c.in-Some.script.now look.3.0 (look.3.1 _) in
    next-is c.args.scenario.now c.in-Some.script.now c.args.remaining.now c.loop-remaining.remaining _ _ c.in-len1-up.len_at_least refl c.if-line-remaining.true found c.loop-remaining.invariant.searched

pub returns-then-line-remaining-clause-declared : goal.returns-then-line-remaining-clause-declared
returns-then-line-remaining-clause-declared c = declared-after c.args.scenario.now c.loop-remaining.remaining.lines.now (record { line = 0; processor = 0; script = record { 0 = 0 } }) c.in-len1-up.len_at_least c.loop-remaining.invariant.searched.declared

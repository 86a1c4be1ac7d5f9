use Rattle.bm_lang.proofs.Listed.{scenario_printed}
use Rattle.bm_lang.proofs.ReadBack.{reads_back_as}
use Rattle.bm_lang.proofs.listing.print_scenario.Goals as goal

pub returns-clause-text : goal.returns-clause-text
returns-clause-text c =
    let e1 = rw c.new-out.ensures.items at c.in_ok-put_header.ensures in
    let e2 = rw c.as_slice-types.ensures at c.in_ok-put_types.ensures in
    let e3 = rw (c.as_slice-types.ensures, c.as_slice-maps.ensures) at c.in_ok-put_maps.ensures in
    let e4 = rw (c.as_slice-types.ensures, c.as_slice-maps.ensures, c.as_slice-scripts.ensures) at c.in_ok-put_scripts.ensures in
    let e5 = rw (c.as_slice-scripts.ensures, c.as_slice.ensures) at c.in_ok-put_runs.ensures in
    let e6 = rw (c.as_slice-scripts.ensures, c.as_slice-2.ensures) at c.in_ok-put_ats.ensures in
    rw (← c.parts-parts.ensures.value) (scenario_printed c.parts-parts.result.now _ _ _ _ _ _ _ _ e1 e2 e3 e4 e5 e6 c.in_ok-put_turns.ensures c.in_ok-put.ensures)

pub returns-clause-back : goal.returns-clause-back
returns-clause-back c = reads_back_as c.args.scenario.now c.put.new.out.items c.parts-parts.ensures.fine (returns-clause-text c)

use Rattle.bm_tests_machine.proofs.poll_tests.passes_at_once.Goals as goal

pub stamp_and_poll-requires-clause-stands : goal.stamp_and_poll-requires-clause-stands
stamp_and_poll-requires-clause-stands g c =
    let e = c.desk_over-desk.ensures in
    record { sound = tt; fine = e.fine; dated = e.dated }

pub stamp_and_poll-requires-clause-apart : goal.stamp_and_poll-requires-clause-apart
stamp_and_poll-requires-clause-apart g c h w s = s

pub stamp_and_poll-requires-clause-free : goal.stamp_and_poll-requires-clause-free
stamp_and_poll-requires-clause-free g c m = m

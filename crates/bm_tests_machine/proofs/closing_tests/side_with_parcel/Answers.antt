use Rattle.bm_post.proofs.Posts.{held}
use Rattle.bm_tests_machine.proofs.closing_tests.side_with_parcel.Goals as goal

pub send-requires-clause-mine : goal.send-requires-clause-mine
send-requires-clause-mine g c = held c.args.class c.fetched-parcel.result.items _ _ c.fetched-parcel.ensures.takes

pub returns-clause-rest : goal.returns-clause-rest
returns-clause-rest g c d = c.send.ensures.rest d 0 (c.fetched-parcel.ensures.rest d 0 (c.one_side-side.ensures.rest d))

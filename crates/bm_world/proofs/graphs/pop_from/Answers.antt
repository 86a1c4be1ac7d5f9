use Rattle.std.proofs.Common.{ℕ, Option}
use Rattle.bm_journal.specs.declared.ids.ObjId.{ObjId}
use Rattle.bm_graph.specs.Ways.{pop_call}
use Rattle.bm_graph.specs.declared.ways.End.TheVariants as end_
use Rattle.bm_world.specs.GraphItems.{ListGrows}
use Rattle.bm_world.specs.Graphs.{Grows}
use Rattle.bm_world.specs.NamedGraphs.{list_named}
use Rattle.bm_world.proofs.GraphsDid.{ok-so}
use Rattle.bm_world.proofs.graphs.pop_from.Goals as goal

pub returns-in-Front-clause-grows : goal.returns-in-Front-clause-grows
returns-in-Front-clause-grows c =
    let name = c.args.graph.now.name in
    rw (c.in-List.is, c.in-Front.is) (ok-so c.pop_front.result (λ (a : ℕ × Option ObjId). ListGrows c.in-List.list c.pop_front.new.list a.0 (pop_call end_.Front a.1) c.args.tag) (λ (a : ℕ × Option ObjId). Grows (list_named name c.in-List.list) (list_named name c.pop_front.new.list) a.0 (pop_call end_.Front a.1) c.args.tag) (λ a grows. grows name) c.pop_front.ensures.grows)

pub returns-in-Back-clause-grows : goal.returns-in-Back-clause-grows
returns-in-Back-clause-grows c =
    let name = c.args.graph.now.name in
    rw (c.in-List.is, c.in-Back.is) (ok-so c.pop_back.result (λ (a : ℕ × Option ObjId). ListGrows c.in-List.list c.pop_back.new.list a.0 (pop_call end_.Back a.1) c.args.tag) (λ (a : ℕ × Option ObjId). Grows (list_named name c.in-List.list) (list_named name c.pop_back.new.list) a.0 (pop_call end_.Back a.1) c.args.tag) (λ a grows. grows name) c.pop_back.ensures.grows)

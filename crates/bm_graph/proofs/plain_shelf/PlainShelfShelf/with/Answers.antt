use Rattle.std.proofs.Common.{◌≡◌, ◌≢◌, ℕ, ◌+◌, ◌-◌, ◌<◌, ◌∙◌, Some, length, refl, sym, ap, arith, set, slice_get, get_or}
use Rattle.std.proofs.lemmas.List.{length-map}
use Rattle.std.proofs.lemmas.Option.{slice_get-get_or}
use Rattle.bm_graph.specs.declared.graph.Graph.{Graph}
use Rattle.bm_graph.proofs.Shelves.{kinds-set, put-back}
use Rattle.bm_graph.proofs.plain_shelf.PlainShelfShelf.with.Goals as goal

pub returns-clause-kinds : goal.returns-clause-kinds
returns-clause-kinds g c =
    let xs = c.self.inside.graphs.items in
    let ys = c.swap_remove-lent.new.self.items in
    let x = c.swap_remove-lent.result in
    let y : Graph g.row.T.Denot × g.row.T.Denot = (c.visit.new.graph, c.in-Some.page) in
    let long_old = c.self.inside.graphs.ok.0 in
    let long_new = c.swap_remove-lent.new.self.ok.0 in
    let one = c.swap_remove-lent.ensures.len in
    let count : length ys + 1 ≡ length xs = omega (arith, long_old, long_new, one) in
    let inside : c.args.graph < length xs = rw (← c.self.view_is, length-map) at c.requires.graph in
    let at_place = λ (d : Graph g.row.T.Denot × g.row.T.Denot) (lt : c.args.graph + 1 < length xs). c.swap_remove-lent.ensures.by_index.0 d (omega (arith, lt, long_old)) ∙ ap (λ k. get_or xs k d) (let h : c.self.inside.graphs.len - 1 ≡ length ys = omega (arith, long_old, long_new, one) in h) in
    let elsewhere = λ (k : ℕ) (d : Graph g.row.T.Denot × g.row.T.Denot) (ne : k ≢ c.args.graph) (lt : k + 1 < length xs). c.swap_remove-lent.ensures.by_index.1 k d ne (omega (arith, lt, long_old)) in
    let back : c.put_back.new.items.items ≡ set xs c.args.graph y = put-back xs ys c.put_back.new.items.items c.args.graph (length ys) y count inside refl at_place elsewhere (c.put_back.ensures.by_index.3 y) in
    let found : slice_get xs c.args.graph ≡ Some x = slice_get-get_or xs c.args.graph x inside ∙ ap (λ o. Some o) (sym c.swap_remove-lent.ensures.value) in
    rw (← c.self.view_is, back) (kinds-set xs c.args.graph y x found c.visit.ensures.kind)

pub returns-clause-visited : goal.returns-clause-visited
returns-clause-visited g c =
    let xs = c.self.inside.graphs.items in
    let ys = c.swap_remove-lent.new.self.items in
    let x = c.swap_remove-lent.result in
    let y : Graph g.row.T.Denot × g.row.T.Denot = (c.visit.new.graph, c.in-Some.page) in
    let long_old = c.self.inside.graphs.ok.0 in
    let long_new = c.swap_remove-lent.new.self.ok.0 in
    let one = c.swap_remove-lent.ensures.len in
    let count : length ys + 1 ≡ length xs = omega (arith, long_old, long_new, one) in
    let inside : c.args.graph < length xs = rw (← c.self.view_is, length-map) at c.requires.graph in
    let at_place = λ (d : Graph g.row.T.Denot × g.row.T.Denot) (lt : c.args.graph + 1 < length xs). c.swap_remove-lent.ensures.by_index.0 d (omega (arith, lt, long_old)) ∙ ap (λ k. get_or xs k d) (let h : c.self.inside.graphs.len - 1 ≡ length ys = omega (arith, long_old, long_new, one) in h) in
    let elsewhere = λ (k : ℕ) (d : Graph g.row.T.Denot × g.row.T.Denot) (ne : k ≢ c.args.graph) (lt : k + 1 < length xs). c.swap_remove-lent.ensures.by_index.1 k d ne (omega (arith, lt, long_old)) in
    let back : c.put_back.new.items.items ≡ set xs c.args.graph y = put-back xs ys c.put_back.new.items.items c.args.graph (length ys) y count inside refl at_place elsewhere (c.put_back.ensures.by_index.3 y) in
    let found : slice_get xs c.args.graph ≡ Some x = slice_get-get_or xs c.args.graph x inside ∙ ap (λ o. Some o) (sym c.swap_remove-lent.ensures.value) in
    rw (← c.self.view_is) record {
      lent = x.0;
      page = x.1;
      left = y.0;
      left_page = y.1;
      found = found;
      visited = c.visit.ensures.visits x.1 y.1 refl c.in-Some.is;
      kind = c.visit.ensures.kind;
      stays = ap (λ o. Some o) back;
    }

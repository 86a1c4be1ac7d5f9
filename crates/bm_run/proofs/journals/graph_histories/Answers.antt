use Rattle.std.proofs.Common.{◌≡◌, ◌<◌, ◌+◌, ◌++◌, ◌∷◌, ℕ, List, [], ◌∙◌, ap, append-nil, append_assoc, arith, drop, length, refl, subst, sym}
use Rattle.std.proofs.lemmas.List.{drop_more, nil_from_length}
use Rattle.bm_journal.specs.declared.past.Past.{Past}
use Rattle.bm_lang.specs.declared.scenario.MapDeclaration.{MapDeclaration}
use Rattle.bm_run.specs.Histories.{of_graph, of_graphs}
use Rattle.bm_run.proofs.journals.graph_histories.Goals as goal

abbrev History : Type 0
History = List ℕ × List Past

none-left : (ms : List MapDeclaration) → of_graphs ms [] ≡ []
none-left [] = refl
none-left (m ∷ ms) = refl

pub loop-history-init : goal.loop-history-init
loop-history-init c = rw (c.new-kept.ensures.items, c.into_iter-history-iterator.ensures.into_iter_gives.0) record { kept_is = refl; left = (let many = c.requires in omega (arith, many)) }

pub loop-history-preserved : goal.loop-history-preserved
loop-history-preserved c =
    let maps : List MapDeclaration = c.args.maps.now in
    let all : List History = c.args.histories.items in
    let kept : List History = c.loop-history.kept.items in
    let place = c.loop-history.place in
    let m : MapDeclaration = c.index-maps-place.result in
    let h : History = c.in-Some.history in
    let rest : List History = c.next.new.self.rest.items in
    let inv = c.loop-history.invariant in
    let more : place + length (h ∷ rest) ≡ length maps = subst (λ (hs : List History). place + length hs ≡ length maps) c.in-Some.ensures.steps.0 inv.left in
    let lt : place < length maps = omega (arith, more) in
    let at : drop place maps ≡ m ∷ drop (place + 1) maps = drop_more maps place m lt ∙ ap (λ (x : MapDeclaration). x ∷ drop (place + 1) maps) (sym c.index-maps-place.is) in
    let one : kept ++ of_graphs (drop place maps) (h ∷ rest) ≡ of_graphs maps all = subst (λ (hs : List History). kept ++ of_graphs (drop place maps) hs ≡ of_graphs maps all) c.in-Some.ensures.steps.0 inv.kept_is in
    let two : kept ++ of_graphs (m ∷ drop (place + 1) maps) (h ∷ rest) ≡ of_graphs maps all = subst (λ (ms : List MapDeclaration). kept ++ of_graphs ms (h ∷ rest) ≡ of_graphs maps all) at one in
    let added : c.keep_graph.new.kept.items ≡ kept ++ of_graph m h = c.in_ok-keep_graph.ensures in
    record {
      kept_is = ap (λ (hs : List History). hs ++ of_graphs (drop (place + 1) maps) rest) added ∙ (append_assoc kept (of_graph m h) (of_graphs (drop (place + 1) maps) rest) ∙ two);
      left = omega (arith, more);
    }

pub returns : goal.returns
returns c =
    let maps : List MapDeclaration = c.args.maps.now in
    let kept : List History = c.loop-history.kept.items in
    let ms = drop c.loop-history.place maps in
    let left = c.in-None.ensures.steps.0 in
    let held = c.loop-history.history-iterator.rest.ok.0 in
    let none : c.loop-history.history-iterator.rest.items ≡ [] = nil_from_length c.loop-history.history-iterator.rest.items (omega (arith, left, held)) in
    let all : kept ++ of_graphs ms [] ≡ of_graphs maps c.args.histories.items = subst (λ (hs : List History). kept ++ of_graphs ms hs ≡ of_graphs maps c.args.histories.items) none c.loop-history.invariant.kept_is in
    sym (append-nil kept) ∙ (ap (λ (hs : List History). kept ++ hs) (sym (none-left ms)) ∙ all)

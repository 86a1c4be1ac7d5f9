use Rattle.std.specs.Prelude.{Bool, IsTrue, None, false, get_or, length, not, true}
use Rattle.std.specs.List.{list_all, list_any}
use Rattle.std.specs.Str.{bytes_eq}
use Rattle.std.proofs.lemmas.Bool.{and_parts, not-true}
use Rattle.bm_world.specs.Contents.{are_apart}
use Rattle.std.proofs.Common.{rules, ◌∙◌, map, ◌≡◌, ◌<◌, ◌≤◌, ℕ, [], ◌∷◌, List, Some, ap, arith, refl, slice_get, subst, sym}
use Rattle.std.proofs.lemmas.List.Sums.{list_all-from_AllPass}
use Rattle.std.proofs.lemmas.Option.{get_or_from_slice_get, slice_get_within}
use Rattle.bm_journal.specs.WellFormed.{all_differ, is_whole_log, owner_below, owners_below}
use Rattle.bm_journal.specs.declared.past.Past.{Past}
use Rattle.bm_lang.specs.declared.scenario.MapDeclaration.{MapDeclaration}
use Rattle.bm_journal.specs.declared.ids.Domain.TheVariants.{Plain, Tracing}
use Rattle.bm_class.specs.Sizes.{size_of_class}
use Rattle.bm_class.specs.Watermarks.{marks_of_size}
use Rattle.bm_law.specs.Lists.{Log}
use Rattle.bm_law.specs.State.{opening}
use Rattle.bm_law_lives.specs.Returns.{ReturnsLaw, receiver}
use Rattle.bm_law_lives.specs.StampLaw.{ReturnsFit, StampLaw}
use Rattle.bm_law_lives.specs.Together.{Each, named}
use Rattle.bm_law_logs.specs.UnitsMoved.{LeavesNothing}
use Rattle.bm_law_laid.proofs.Parts.{lives-fit, lives-over}
use Rattle.bm_law_order.specs.Lives.{Lives, first_lives, lives_after}
use Rattle.bm_law_order.specs.Orders.{IsLaid, Order, over}
use Rattle.bm_law_order.specs.Shared.{fresh}
use Rattle.bm_law_order.specs.Whole.{whole}
use Rattle.bm_law_journal.specs.Lawful.{history_of, named_turns}
use Rattle.bm_law_scenario.specs.Lawful.{LawfulLog}
use Rattle.bm_law_scenario.specs.Opened.{opened}
use Rattle.bm_law_lives.specs.Short.{JournalShort}
use Rattle.bm_law_lives.specs.GraceLaw.{WholeGrace}
use Rattle.bm_law_lives.specs.Lives.{WholeLives}
use Rattle.bm_law_graphs.specs.GraphLaws.{GraphLaws}
use Rattle.bm_law_graphs.specs.Shelves.{IsShelved, nothing_shelved, shelved_after}
use Rattle.bm_law_order.specs.Graphs.{graph_names_in, history_in}
use Rattle.bm_world.specs.GraphItems.{history_told}
use Rattle.bm_run.specs.Histories.{of_graphs}
use Rattle.std.proofs.Math.Path.{fun_ext}
use Rattle.bm_law_objects.specs.Objects.{IsOwned}
use Rattle.bm_law_objects.specs.ReadsLaw.{ReadsLaw}
use Rattle.bm_law_objects.specs.ReferenceLaw.{ReferenceLaw}
use Rattle.bm_law_objects.specs.SlotChain.{SlotChain}
use Rattle.bm_law_order.specs.Polls.{IsPolled}
use Rattle.bm_law_order.specs.Seals.{IsSealed}
use Rattle.bm_law_places.specs.Placed.{IsPlaced}
use Rattle.bm_law_lives.specs.SectionWords.{SectionWords}
use Rattle.bm_run.proofs.FinalLaws.{owned-is, batched-is, each-log, found-is, idle-is, inbox-is, inboxes-are, laid-is, log-of-each, none-alive, none-dropping, order-is, parcels-are, placed-is, polled-is, sealed-is, shelved-is, histories-are, none-within}
use Rattle.bm_run.proofs.FinalLog.{final-lawful}
use Rattle.bm_run.proofs.FineRuns.{maps_apart}
use Rattle.bm_run.proofs.HistoriesKept.{as-many, kept-histories, kept-names}
use Rattle.bm_run.proofs.OwnersNamed.{AreBelow, kept-owners, owners-along}
use Rattle.bm_run.proofs.ParcelsArrive.{parcels-arrive}
use Rattle.bm_run.proofs.journals.journal_of.Goals as goal

pub invariant_of-result-clause-units_whole : goal.invariant_of-result-clause-units_whole
invariant_of-result-clause-units_whole c = rw c.new-logs.ensures (list_all-from_AllPass is_whole_log c.args.closed.logs.items c.requires.whole)

-- the log of each processor is lawful
each-lawful : (c : goal.After-result-1) (p : ℕ) → p < length c.args.closed.logs.items → LawfulLog c.args.scenario.now p (get_or c.args.closed.logs.items p [])
each-lawful c p lt =
    let s = c.args.scenario.now in
    let logs : List Log = c.args.closed.logs.items in
    let turns = named_turns s.turns in
    let h = c.requires.closed in
    let few : length logs ≤ 8 = (let f = c.requires.few in let m = h.so_far.many in omega (arith, f, m)) in
    let there : p < s.processors = subst (λ k. p < k) h.so_far.many lt in
    let laid = subst (λ k. IsLaid k s.pages (whole turns logs)) (sym h.so_far.many) (laid-is s turns logs c.args.closed.histories.items h) in
    let words = log-of-each (λ p log. SectionWords log) logs (c.journal_law.ensures.words s.pages logs (whole turns logs) few (order-is s turns logs c.args.closed.histories.items h) laid) p lt in
    final-lawful s p (get_or logs p []) (get_or h.given p []) (get_or h.finishes p []) (get_or h.sweeps p []) c.handled_law.ensures.rows c.handled_law.ensures.null c.sweeps_law.ensures (h.logs p there) words (parcels-are s turns logs c.args.closed.histories.items h p there)

classes-are : (c : goal.After-result-1) → c.new-classes.result ≡ opened c.args.scenario.now.types
classes-are c = c.new-classes.ensures ∙ (c.in_ok-with_marks.ensures ∙ ap (λ (cs : List ℕ). map (λ k. (k, marks_of_size (size_of_class k))) cs) c.requires.classes)

-- the histories are those that the order makes
graphs-are : (c : goal.After-result-1) → c.new-graphs.result ≡ of_graphs c.args.scenario.now.maps c.args.closed.histories.items
graphs-are c = search rules

told-is : (c : goal.After-result-1) → c.new-graphs.result ≡ of_graphs c.args.scenario.now.maps (map history_told c.requires.closed.world.graphs)
told-is c = graphs-are c ∙ ap (of_graphs c.args.scenario.now.maps) c.requires.closed.histories_are

apart-are : (c : goal.After-result-1) → are_apart (graph_names_in c.requires.closed.world.graphs) ≡ true
apart-are c = subst (λ (ns : List (List ℕ)). are_apart ns ≡ true) (sym c.requires.closed.names) (maps_apart c.args.scenario.now c.requires.fine)

history-is : (c : goal.After-result-1) (name : List ℕ) → history_of c.new-graphs.result name ≡ history_in c.requires.closed.world.graphs name
history-is c name =
    let h = c.requires.closed in
    ap (λ (graphs : List (List ℕ × List Past)). history_of graphs name) (told-is c) ∙ kept-histories c.args.scenario.now.maps h.world.graphs name h.names (apart-are c) h.unused

maps-are : (c : goal.After-result-1) → c.in_ok-maps.maps ≡ map (λ (m : MapDeclaration). m.name) c.args.scenario.now.maps
maps-are c = c.in_ok-maps.ensures ∙ ap (map (λ (m : MapDeclaration). m.name)) c.as_slice-2.ensures

graphs-lawful : (c : goal.After-result-1) → GraphLaws c.in_ok-maps.maps (history_of c.new-graphs.result) c.args.closed.logs.items
graphs-lawful c =
    let s = c.args.scenario.now in
    let logs : List Log = c.args.closed.logs.items in
    let histories = c.args.closed.histories.items in
    let h = c.requires.closed in
    let turns = named_turns s.turns in
    let names : List (List ℕ) = map (λ (m : MapDeclaration). m.name) s.maps in
    let laws = c.graphs_law.ensures.logs names logs (whole turns logs) (order-is s turns logs histories h) (shelved-is s turns logs histories h) (none-within s turns logs histories h) in
    let same : (over (shelved_after names) (whole turns logs) nothing_shelved).shelves.histories ≡ history_of c.new-graphs.result = fun_ext (λ name. histories-are s turns logs histories h name ∙ sym (history-is c name)) in
    subst (λ (ns : List (List ℕ)). GraphLaws ns (history_of c.new-graphs.result) logs) (sym (maps-are c)) (subst (λ (f : List ℕ → List Past). GraphLaws names f logs) same laws)

-- the histories of all maps are as many as these
pub graph_histories-requires : goal.graph_histories-requires
graph_histories-requires c =
    let h = c.requires.closed in
    subst (λ (hs : List (List ℕ × List Past)). length hs ≡ length c.as_slice-4.result.now) (sym h.histories_are)
    (subst (λ (ms : List MapDeclaration). length (map history_told h.world.graphs) ≡ length ms) (sym c.as_slice-4.ensures) (as-many h.world.graphs c.args.scenario.now.maps h.names))

-- refused pushes name maps
pub invariant_of-result-clause-owners_named : goal.invariant_of-result-clause-owners_named
invariant_of-result-clause-owners_named c =
    let s = c.args.scenario.now in
    let logs : List Log = c.args.closed.logs.items in
    let histories = c.args.closed.histories.items in
    let h = c.requires.closed in
    let turns = named_turns s.turns in
    let names : List (List ℕ) = map (λ (m : MapDeclaration). m.name) s.maps in
    let first : AreBelow names nothing_shelved.shelves = record { within = λ u x q. absurd (cc); named = λ name. refl } in
    let along = owners-along names (whole turns logs) nothing_shelved (shelved-is s turns logs histories h) first in
    let told = λ (name : List ℕ). subst (λ (ps : List Past). list_all (λ (p : Past). owner_below (length names) p.call) ps ≡ true) (histories-are s turns logs histories h name) (along.named name) in
    let apart : are_apart (graph_names_in h.world.graphs) ≡ true = subst (λ (ns : List (List ℕ)). are_apart ns ≡ true) (sym h.names) (maps_apart s c.requires.fine) in
    let maps : c.in_ok-maps.maps ≡ names = c.in_ok-maps.ensures ∙ ap (map (λ (m : MapDeclaration). m.name)) c.as_slice-2.ensures in
    let kept = kept-owners (length names) s.maps h.world.graphs apart told in
    let graphs : c.new-graphs.result ≡ of_graphs s.maps histories = search rules in
    subst (λ (ms : List (List ℕ)). IsTrue (owners_below (length ms) c.new-graphs.result)) (sym maps) (subst (λ (gs : List (List ℕ × List Past)). owners_below (length names) gs ≡ true) (sym (graphs ∙ ap (of_graphs s.maps) h.histories_are)) kept)

-- no two maps have one name
none-any : (n : List ℕ) (ns : List (List ℕ)) → list_all (λ m. not (bytes_eq n m)) ns ≡ true → list_any (bytes_eq n) ns ≡ false
none-any n [] h = refl
none-any n (m ∷ ms) h =
    let parts = and_parts (not (bytes_eq n m)) (list_all (λ x. not (bytes_eq n x)) ms) h in
    rw (not-true (bytes_eq n m) parts.0) (none-any n ms parts.1)

names-differ : (ns : List (List ℕ)) → are_apart ns ≡ true → all_differ ns ≡ true
names-differ [] h = refl
names-differ (n ∷ ns) h =
    let parts = and_parts (list_all (λ m. not (bytes_eq n m)) ns) (are_apart ns) h in
    rw (none-any n ns parts.0) (names-differ ns parts.1)

pub invariant_of-result-clause-maps_differ : goal.invariant_of-result-clause-maps_differ
invariant_of-result-clause-maps_differ c =
    subst (λ (ns : List (List ℕ)). IsTrue (all_differ ns)) (sym (c.in_ok-maps.ensures ∙ ap (map (λ (m : MapDeclaration). m.name)) c.as_slice-2.ensures))
    (is-true (all_differ (map (λ (m : MapDeclaration). m.name) c.args.scenario.now.maps)) (names-differ (map (λ (m : MapDeclaration). m.name) c.args.scenario.now.maps) (maps_apart c.args.scenario.now c.requires.fine)))
  where
    is-true : (b : Bool) → b ≡ true → IsTrue b
    is-true b e = e

pub returns-clause-lawful : goal.returns-clause-lawful
returns-clause-lawful c =
    let s = c.args.scenario.now in
    let logs : List Log = c.args.closed.logs.items in
    let turns = named_turns s.turns in
    let h = c.requires.closed in
    let n = s.processors in
    let order : Order = whole turns logs in
    let of-logs = order-is s turns logs c.args.closed.histories.items h in
    let laid = laid-is s turns logs c.args.closed.histories.items h in
    let laws = c.journal_law.ensures in
    let many : length logs ≡ n = h.so_far.many in
    let few : length logs ≤ 8 = (let f = c.requires.few in omega (arith, f, many)) in
    let one : logs ≡ c.new-logs.result = sym c.new-logs.ensures in
    let batched = batched-is s turns logs c.args.closed.histories.items h in
    let outset = fresh n s.pages in
    let fits = lives-fit order outset laid in
    let last = lives-over order outset in
    let none : (u : ℕ) → (over lives_after order first_lives).holds u ≡ None = λ u. subst (λ (x : Lives). x.holds u ≡ None) last (none-alive s turns logs c.args.closed.histories.items h u) in
    let done : (p l : ℕ) → (over lives_after order first_lives).dropping p l ≡ None = λ p l. subst (λ (x : Lives). x.dropping p l ≡ None) last (none-dropping s turns logs c.args.closed.histories.items h p l) in
    let lives = c.lives_law.ensures.whole logs order of-logs fits batched.answered none done in
    let freed = c.lives_law.ensures.freed logs order of-logs fits batched.answered none done in
    let nothing = each-log LeavesNothing logs (λ p lt. (let l = each-lawful c p lt in (l.last, l.lists, l.emptied))) in
    let receivers = subst (λ k. Each (λ p. p < k) (named receiver logs)) (sym many) (laws.receivers n s.pages logs order of-logs laid) in
    let owned : IsOwned order = owned-is s turns logs c.args.closed.histories.items h in
    let arrive = parcels-arrive n s.pages logs order of-logs laid (inbox-is s turns logs c.args.closed.histories.items h) (inboxes-are s turns logs c.args.closed.histories.items h) in
    record {
      logs = record {
        heading = record {
          processors = refl;
          pages = refl;
          types = search rules;
          maps = search rules;
          scripts = search rules;
          classes = classes-are c;
        };
        count = subst (λ (x : List Log). length x ≡ n) one many;
        logs = subst (λ (x : List Log). (p : ℕ) (log : Log) → slice_get x p ≡ Some log → LawfulLog s p log) one
            (λ p log e. subst (LawfulLog s p) (get_or_from_slice_get logs p log [] e) (each-lawful c p (slice_get_within logs p log e)));
        graphs = ap (map (λ (h : List ℕ × List Past). h.0)) (told-is c) ∙ kept-names s.maps h.world.graphs h.names;
        totals = search rules;
        short = subst (JournalShort s.pages) one (laws.short n s.pages logs order of-logs laid);
      };
      lives = subst WholeLives one lives;
      returns = subst ReturnsLaw one (c.returns_law.ensures.together logs nothing freed receivers arrive);
      grace = subst WholeGrace one (record {
        law = laws.grace s.pages logs order few of-logs (subst (λ k. IsLaid k s.pages order) (sym many) laid);
        plain_ended = laws.ended Plain n s.pages logs order of-logs laid (idle-is s turns logs c.args.closed.histories.items h Plain);
        tracing_ended = laws.ended Tracing n s.pages logs order of-logs laid (idle-is s turns logs c.args.closed.histories.items h Tracing);
      });
      stamps = subst StampLaw one (record {
        plain_stamps = laws.stamps Plain n s.pages logs order of-logs laid;
        tracing_stamps = laws.stamps Tracing n s.pages logs order of-logs laid;
        plain_seen = laws.seen Plain n s.pages logs order of-logs laid;
        tracing_seen = laws.seen Tracing n s.pages logs order of-logs laid;
        seals = c.seals_law.ensures n s.pages logs order of-logs (found-is s turns logs c.args.closed.histories.items h) (sealed-is s turns logs c.args.closed.histories.items h) batched lives.law;
        returns = each-log (λ p log. ReturnsFit (opening p) None (λ c. []) log) logs (λ p lt. (let l = each-lawful c p lt in c.returned_law.ensures s p (get_or logs p []) l.last l.handlers l.phrases l.is_log l.lists));
      });
      references = subst ReferenceLaw one (c.counts_law.ensures.laid n s.pages logs order of-logs laid (none-alive s turns logs c.args.closed.histories.items h));
      slots = λ slot. subst (SlotChain slot) one (c.slots_law.ensures.logs slot logs order of-logs owned);
      reads = subst ReadsLaw one (c.reads_law.ensures.logs logs order of-logs owned);
      graphs = subst (GraphLaws c.in_ok-maps.maps (history_of c.new-graphs.result)) one (graphs-lawful c);
    }

pub returns-clause-laid : goal.returns-clause-laid
returns-clause-laid c =
    let s = c.args.scenario.now in
    let logs : List Log = c.args.closed.logs.items in
    let turns = named_turns s.turns in
    let h = c.requires.closed in
    let n = s.processors in
    let one : logs ≡ c.new-logs.result = sym c.new-logs.ensures in
    let order : Order = whole turns c.new-logs.result in
    let names : List (List ℕ) = map (λ (m : MapDeclaration). m.name) s.maps in
    let maps = sym (maps-are c) in
    record {
      laid = subst (λ (x : List Log). IsLaid n s.pages (whole turns x)) one (laid-is s turns logs c.args.closed.histories.items h);
      placed = subst (λ (x : List Log). IsPlaced n s.pages (whole turns x)) one (placed-is s turns logs c.args.closed.histories.items h);
      polled = subst (λ (x : List Log). IsPolled n s.pages (whole turns x)) one (polled-is s turns logs c.args.closed.histories.items h);
      sealed = subst (λ (x : List Log). IsSealed (whole turns x)) one (sealed-is s turns logs c.args.closed.histories.items h);
      owned = subst (λ (x : List Log). IsOwned (whole turns x)) one (owned-is s turns logs c.args.closed.histories.items h);
      shelved = subst (λ (ns : List (List ℕ)). IsShelved ns order) maps (subst (λ (x : List Log). IsShelved names (whole turns x)) one (shelved-is s turns logs c.args.closed.histories.items h));
      histories = λ name.
          history-is c name
          ∙ subst (λ (ns : List (List ℕ)). history_in h.world.graphs name ≡ (over (shelved_after ns) order nothing_shelved).shelves.histories name) maps
          (subst (λ (x : List Log). history_in h.world.graphs name ≡ (over (shelved_after names) (whole turns x) nothing_shelved).shelves.histories name) one (sym (histories-are s turns logs c.args.closed.histories.items h name)));
    }

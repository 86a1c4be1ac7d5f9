-- A block with a list and one with a tree leave what the worked entries say, and the closing empties both.
use Rattle.std.proofs.Common.{Bool, ℕ, cond, inl, inr, true, false, List, [], ◌∷◌, ◌++◌, Some, None, refl, sym, subst, bytes_eq, codes, lit<, lit≤, ◌≡◌}
use Rattle.bm_class.specs.Sizes.{class_of_size, size_of_class}
use Rattle.bm_class.specs.Watermarks.{low_of_size, high_of_size}
use Rattle.bm_graph.specs.declared.ways.End.TheVariants as end_
use Rattle.bm_graph.specs.declared.ways.Way.TheVariants as way
use Rattle.bm_journal.specs.declared.entry.Entry.{Entry}
use Rattle.bm_journal.specs.declared.entry.Entry.TheVariants as entry
use Rattle.bm_law.specs.Lists.{after}
use Rattle.bm_law.specs.Ordinary.{ordinary}
use Rattle.bm_law.specs.Phrases.{FreePhrase}
use Rattle.bm_law.specs.State.{State, opening}
use Rattle.bm_law_scenario.specs.Calls.{Allocates, RunsDrop, RunsFirst, RunsGet, RunsLock, RunsNew, RunsPop, RunsPush, RunsRefused, RunsRemove, RunsTaking, RunsUnlock, any_batch, batch_in}
use Rattle.bm_law_scenario.specs.Held.{Names, OwnsNothing, no_names, soft_spent, with_name}
use Rattle.bm_law_scenario.specs.Held as held
use Rattle.bm_law_scenario.specs.Opened.{OfClass}
use Rattle.bm_law_scenario.specs.Runs.{Run, RunsBlock}
use Rattle.bm_law_scenario.specs.WorkedDrops.{a_field, y_name}
use Rattle.bm_law_scenario.specs.WorkedJournal.{x_name}
use Rattle.bm_law_scenario.specs.WorkedLists.{Empties, LeavesFrom, added, adds, asks_job, done, drops_y, empties_list, empties_tree, f_name, finds, found, found_none, gives_up, graphs, grow_entries, grows, holding_job, holding_leaf, holding_shared, job, job_id, leaf, leaf_done, leaf_id, leaf_left, left, lock_of, long_block, popped, pops, pushed, pushes, q_id, q_map, queue_entries, queues, r_id, r_map, reads_a, refused_and_dropped, removed, removed_none, removes, row_of, shared, shared_id, shared_spent, t_id, t_map, the_job, the_leaf, unlock_of, visit_entries, visits, within, work, works}
use Rattle.bm_law_scenario.proofs.BlockParts.{RunsList, block-parts}
use Rattle.bm_law_scenario.proofs.Ordinary.{says, stands, then-of}

-- ---- making and giving up

of-job : OfClass graphs.types 0 2 job
unfolding class_of_size
of-job = record { found = refl; class = refl }

of-leaf : OfClass graphs.types 2 2 leaf
unfolding class_of_size
of-leaf = record { found = refl; class = refl }

abbrev took_job : List Entry
took_job = entry.Enter 2 1 ∷ entry.Pop 2 3 ∷ entry.Count 2 3 ∷ entry.Leave 2 0 ∷ entry.Raise 2 ∷ entry.Given 3 1 ∷ []

takes : Allocates 2 took_job (Some (3, 1))
unfolding size_of_class low_of_size
takes = (None, 3, 0, refl)

pub new-runs : RunsNew graphs.types x_name job_id (7 ∷ []) no_names asks_job holding_job
new-runs = record {
  class = 2;
  declared = job;
  of_class = of-job;
  own = took_job;
  reply = Some (3, 1);
  part_is = refl;
  allocates = takes;
  after_is = refl;
}

abbrev freed : ℕ → List Entry
freed u = entry.Free u 0 ∷ entry.Enter 2 1 ∷ entry.Push 2 u ∷ entry.Count 2 4 ∷ entry.Leave 2 0 ∷ []

frees : (u : ℕ) → FreePhrase 2 u 0 (freed u)
unfolding size_of_class high_of_size
frees u = inl (4, 0, refl)

pub drop-job : (x : List ℕ) (names : Names) (s : State ℕ) → names x ≡ held.Object job_id 3 1 → batch_in s 2 false → RunsDrop graphs.types x (batch_in s) names (gives_up 3) (with_name x held.Nothing names)
drop-job x names s held none = record {
  type = job_id;
  unit = 3;
  life = 1;
  held = held;
  class = 2;
  declared = job;
  of_class = of-job;
  home = 0;
  batch = false;
  batch_is = none;
  own = freed 3;
  part_is = refl;
  frees = frees 3;
  after_is = refl;
}

drop-leaf : (x : List ℕ) (names : Names) (s : State ℕ) → names x ≡ held.Object leaf_id 5 1 → batch_in s 2 false → RunsDrop graphs.types x (batch_in s) names (gives_up 5) (with_name x held.Nothing names)
drop-leaf x names s held none = record {
  type = leaf_id;
  unit = 5;
  life = 1;
  held = held;
  class = 2;
  declared = leaf;
  of_class = of-leaf;
  home = 0;
  batch = false;
  batch_is = none;
  own = freed 5;
  part_is = refl;
  frees = frees 5;
  after_is = refl;
}

-- ---- the list

pub locks-q : RunsLock graphs q_id holding_job (lock_of (codes "q")) holding_job
locks-q = record { is_tree = false; declared = _; is_graph = record { found = refl; kind = refl }; none = refl; part_is = refl; after_is = refl }

pub push-runs : RunsPush (within q_id) way.Back q_id x_name holding_job pushes pushed
push-runs = record {
  locked = refl;
  declared = _;
  is_graph = record { found = refl; kind = refl };
  object = job;
  of_type = refl;
  id = the_job;
  held = refl;
  position = 0;
  part_is = refl;
  after_is = refl;
}

-- by the non-owning name
pub get-runs : RunsGet graphs.types x_name a_field pushed reads_a pushed
get-runs = record {
  type = job_id;
  unit = 3;
  life = 1;
  held = inr (q_id, refl);
  place = 0;
  of_type = record { declared = job; found = refl; named = refl };
  value = 7;
  part_is = refl;
  after_is = refl;
}

pop-runs : RunsPop (within q_id) end_.Front q_id y_name pushed pops popped
pop-runs = record {
  locked = refl;
  declared = _;
  is_graph = record { found = refl; kind = refl };
  item = Some the_job;
  position = 1;
  part_is = refl;
  after_is = refl;
}

unlocks-q : RunsUnlock (within q_id) popped (unlock_of (codes "q")) left
unlocks-q = record { graph = q_id; locked = refl; is_tree = false; declared = _; is_graph = record { found = refl; kind = refl }; part_is = refl; after_is = refl }

-- ---- its block

-- a block with one drop of y, and one entry in place of work
drop-runs : (names : Names) (u : ℕ) (s : State ℕ) → ((t : State ℕ) → batch_in t 2 false → RunsDrop graphs.types y_name (batch_in t) names (gives_up u) (with_name y_name held.Nothing names)) → batch_in s 2 false → RunsBlock graphs 0 true works (long_block drops_y (lit≤ tt)) names (with_name y_name held.Nothing names) s (ordinary (gives_up u ++ work))
drop-runs names u s drops none =
    let next : Names = with_name y_name held.Nothing names in
    let list : RunsList graphs 0 works drops_y names next s (ordinary (gives_up u ++ work)) =
    (next, then-of _ _ s (gives_up u ++ work) [] (next, then-of _ _ s (gives_up u) work (says _ _ _ (inr (drops s none))) (refl, stands _ _)) (refl, refl)) in
    subst (λ (run : Run). run names next s (ordinary (gives_up u ++ work))) (sym (block-parts graphs 0 works (row_of drops_y (lit≤ tt)) 20)) list

abbrev at_visit : State ℕ
at_visit = after (opening 0) (ordinary (asks_job ++ work))

visits-run : RunsBlock graphs 0 true works (long_block visits (lit≤ tt)) holding_job done at_visit (ordinary visit_entries)
visits-run =
    let list : RunsList graphs 0 works visits holding_job done at_visit (ordinary visit_entries) = (
      holding_job,
      then-of _ _ at_visit (lock_of (codes "q")) (pushes ++ reads_a ++ pops ++ (unlock_of (codes "q") ++ work) ++ (gives_up 3 ++ work) ++ work)
          (holding_job, then-of _ _ _ (lock_of (codes "q")) [] (says _ _ _ locks-q) (refl, refl)) (
            pushed,
            then-of _ _ _ pushes (reads_a ++ pops ++ (unlock_of (codes "q") ++ work) ++ (gives_up 3 ++ work) ++ work)
                (pushed, then-of _ _ _ pushes [] (says _ _ _ (inl push-runs)) (refl, refl)) (
                  pushed,
                  then-of _ _ _ reads_a (pops ++ (unlock_of (codes "q") ++ work) ++ (gives_up 3 ++ work) ++ work)
                      (pushed, then-of _ _ _ reads_a [] (says _ _ _ get-runs) (refl, refl)) (
                        popped,
                        then-of _ _ _ pops ((unlock_of (codes "q") ++ work) ++ (gives_up 3 ++ work) ++ work)
                            (popped, then-of _ _ _ pops [] (says _ _ _ pop-runs) (refl, refl)) (
                              left,
                              then-of _ _ _ (unlock_of (codes "q") ++ work) ((gives_up 3 ++ work) ++ work)
                                  (left, then-of _ _ _ (unlock_of (codes "q")) work (says _ _ _ unlocks-q) (refl, stands _ _))
                                  (done, then-of _ _ _ ((gives_up 3 ++ work) ++ work) [] (done, then-of _ _ _ (gives_up 3 ++ work) work (drop-runs left 3 _ (λ t none. drop-job y_name left t refl none) refl) (refl, stands _ _)) (refl, refl)),
                            ),
                      ),
                ),
          ),
    ) in
    subst (λ (run : Run). run holding_job done at_visit (ordinary visit_entries)) (sym (block-parts graphs 0 works (row_of visits (lit≤ tt)) 20)) list

pub queues-leave : LeavesFrom graphs queues no_names queue_entries done
queues-leave =
    let list : RunsList graphs 0 works queues no_names done (opening 0) (ordinary queue_entries) = (
      holding_job,
      then-of _ _ (opening 0) (asks_job ++ work) (visit_entries ++ work)
          (holding_job, then-of _ _ _ asks_job work (says _ _ _ new-runs) (refl, stands _ _))
          (done, then-of _ _ _ (visit_entries ++ work) [] (done, then-of _ _ _ visit_entries work visits-run (refl, stands _ _)) (refl, refl)),
    ) in
    (lit≤ tt, subst (λ (run : Run). run no_names done (opening 0) (ordinary queue_entries)) (sym (block-parts graphs 0 works (row_of queues (lit≤ tt)) 20)) list)

pub queued-owns_nothing : (z : List ℕ) → OwnsNothing (done z)
queued-owns_nothing z = both (bytes_eq y_name z) (bytes_eq x_name z)
  where
    both : (a b : Bool) → OwnsNothing (cond a held.Nothing (soft_spent (cond a (held.Object job_id 3 1) (soft_spent (cond b (held.Soft job_id q_id 3 1) (cond b (held.Object job_id 3 1) held.Nothing))))))
    both true b = tt
    both false true = tt
    both false false = tt

-- ---- the tree

locks-t : RunsLock graphs t_id holding_leaf (lock_of (codes "t")) holding_leaf
locks-t = record { is_tree = true; declared = _; is_graph = record { found = refl; kind = refl }; none = refl; part_is = refl; after_is = refl }

add-runs : RunsPush (within t_id) way.Ordered t_id x_name holding_leaf adds added
add-runs = record {
  locked = refl;
  declared = _;
  is_graph = record { found = refl; kind = refl };
  object = leaf;
  of_type = refl;
  id = the_leaf;
  held = refl;
  position = 0;
  part_is = refl;
  after_is = refl;
}

first-runs : RunsFirst (within t_id) t_id f_name added finds found
first-runs = record {
  locked = refl;
  declared = _;
  is_graph = record { found = refl; kind = refl };
  item = Some the_leaf;
  position = 1;
  part_is = refl;
  after_is = refl;
}

remove-runs : RunsTaking (within t_id) t_id y_name f_name found removes removed
remove-runs = record {
  declared = _;
  is_graph = record { found = refl; kind = refl };
  id = the_leaf;
  held = refl;
  position = 2;
  part_is = refl;
  after_is = refl;
}

unlocks-t : RunsUnlock (within t_id) removed (unlock_of (codes "t")) leaf_left
unlocks-t = record { graph = t_id; locked = refl; is_tree = true; declared = _; is_graph = record { found = refl; kind = refl }; part_is = refl; after_is = refl }

pub grows-leave : LeavesFrom graphs grows holding_leaf grow_entries leaf_done
grows-leave =
    let list : RunsList graphs 0 works grows holding_leaf leaf_done (opening 0) (ordinary grow_entries) = (
      holding_leaf,
      then-of _ _ (opening 0) (lock_of (codes "t")) (adds ++ finds ++ removes ++ (unlock_of (codes "t") ++ work) ++ (gives_up 5 ++ work) ++ work)
          (holding_leaf, then-of _ _ _ (lock_of (codes "t")) [] (says _ _ _ locks-t) (refl, refl)) (
            added,
            then-of _ _ _ adds (finds ++ removes ++ (unlock_of (codes "t") ++ work) ++ (gives_up 5 ++ work) ++ work)
                (added, then-of _ _ _ adds [] (says _ _ _ (inl add-runs)) (refl, refl)) (
                  found,
                  then-of _ _ _ finds (removes ++ (unlock_of (codes "t") ++ work) ++ (gives_up 5 ++ work) ++ work)
                      (found, then-of _ _ _ finds [] (says _ _ _ first-runs) (refl, refl)) (
                        removed,
                        then-of _ _ _ removes ((unlock_of (codes "t") ++ work) ++ (gives_up 5 ++ work) ++ work)
                            (removed, then-of _ _ _ removes [] (says _ _ _ (refl, inl remove-runs)) (refl, refl)) (
                              leaf_left,
                              then-of _ _ _ (unlock_of (codes "t") ++ work) ((gives_up 5 ++ work) ++ work)
                                  (leaf_left, then-of _ _ _ (unlock_of (codes "t")) work (says _ _ _ unlocks-t) (refl, stands _ _))
                                  (leaf_done, then-of _ _ _ ((gives_up 5 ++ work) ++ work) [] (leaf_done, then-of _ _ _ (gives_up 5 ++ work) work (drop-runs leaf_left 5 _ (λ t none. drop-leaf y_name leaf_left t refl none) refl) (refl, stands _ _)) (refl, refl)),
                            ),
                      ),
                ),
          ),
    ) in
    (lit≤ tt, subst (λ (run : Run). run holding_leaf leaf_done (opening 0) (ordinary grow_entries)) (sym (block-parts graphs 0 works (row_of grows (lit≤ tt)) 20)) list)

pub grown-owns_nothing : (z : List ℕ) → OwnsNothing (leaf_done z)
grown-owns_nothing z = all (bytes_eq y_name z) (bytes_eq f_name z) (bytes_eq x_name z)
  where
    all : (a b c : Bool) → OwnsNothing (cond a held.Nothing (soft_spent (cond a (held.Object leaf_id 5 1) (soft_spent (cond b (held.Soft leaf_id t_id 5 1) (cond c (held.Soft leaf_id t_id 5 1) (cond c (held.Object leaf_id 5 1) held.Nothing)))))))
    all true b c = tt
    all false true c = tt
    all false false true = tt
    all false false false = tt

-- ---- single calls

pub null-runs : RunsRemove (within t_id) t_id y_name f_name found_none [] removed_none
null-runs = (refl, inr (record { null = refl; part_is = refl; after_is = refl }))

pub refused-runs : RunsRefused (within r_id) way.Back r_id x_name any_batch holding_shared refused_and_dropped shared_spent
refused-runs = record {
  locked = refl;
  declared = _;
  is_graph = record { found = refl; kind = refl };
  id = the_job;
  held = refl;
  position = 4;
  owner = 1;
  owning = r_map;
  is_owner = refl;
  own = entry.Drop 3 1 ∷ entry.Still 2 ∷ [];
  part_is = refl;
  gives_up = inl (record {
    type = shared_id;
    unit = 3;
    life = 1;
    held = refl;
    of_type = record { declared = shared; found = refl; counted = refl };
    seen = 2;
    others = lit< tt;
    part_is = refl;
    after_is = refl;
  });
}

-- ---- the closing

-- the lists behind the calls
abbrev at_popped : State ℕ
at_popped = after (opening 0) (ordinary (entry.PopFront (codes "q") (Some the_job) 2 ∷ []))

abbrev at_removed : State ℕ
at_removed = after (opening 0) (ordinary (entry.First (codes "t") (Some the_leaf) 3 ∷ entry.Remove (codes "t") 5 1 4 ∷ []))

pub list-empties : Empties q_map empties_list
list-empties = (
  1,
  (
    the_job,
    2,
    then-of _ _ _ (entry.PopFront (codes "q") (Some the_job) 2 ∷ []) (gives_up 3 ++ entry.PopFront (codes "q") None 3 ∷ []) (stands _ _)
        (then-of _ _ _ (gives_up 3) (entry.PopFront (codes "q") None 3 ∷ []) (x_name, _, says _ _ _ (inr (drop-job x_name (with_name x_name (held.Object job_id 3 1) no_names) at_popped refl refl))) (3, stands _ _)),
  ),
)

pub tree-empties : Empties t_map empties_tree
tree-empties = (
  1,
  (
    the_leaf,
    3,
    4,
    then-of _ _ _ (entry.First (codes "t") (Some the_leaf) 3 ∷ entry.Remove (codes "t") 5 1 4 ∷ []) (gives_up 5 ++ entry.First (codes "t") None 5 ∷ []) (stands _ _)
        (then-of _ _ _ (gives_up 5) (entry.First (codes "t") None 5 ∷ []) (x_name, _, says _ _ _ (inr (drop-leaf x_name (with_name x_name (held.Object leaf_id 5 1) no_names) at_removed refl refl))) (5, stands _ _)),
  ),
)

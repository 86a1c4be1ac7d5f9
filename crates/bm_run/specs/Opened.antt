-- A processor after its opening.
use Rattle.std.specs.Prelude.{◌≡◌, ◌+◌, ◌&&◌, ℕ, Bool, true, false, List, [], ◌∷◌, None, IfSome, map, nat_lt}
use Rattle.bm_world.specs.ToldLiving.{knows_living}
use Rattle.bm_journal.specs.declared.ids.Domain.{Domain}
use Rattle.bm_lang.specs.declared.scenario.MapDeclaration.{MapDeclaration}
use Rattle.bm_lang.specs.declared.scenario.MapKind.{MapKind}
use Rattle.bm_lang.specs.declared.scenario.MapKind.TheVariants as kind
use Rattle.bm_law_order.specs.Graphs.{NamedGraph}
use Rattle.bm_law_order.specs.Slots.{Named, empty_slot}
use Rattle.bm_page.specs.Stock.{Stock}
use Rattle.bm_grace.specs.Known.{side}
use Rattle.bm_grace.specs.PlainState.{idle}
use Rattle.bm_post.specs.PostState.{no_parcels}
use Rattle.bm_world.specs.SideState.{SideState}
use Rattle.bm_world.specs.LivingState.{LivingState, begun_at, lives_of}
use Rattle.bm_law_scenario.specs.Fills.{fresh_stock}
use Rattle.bm_cache.specs.Opening.{fill_log}
use Rattle.bm_cache.specs.Shown.{shown}
use Rattle.bm_due.specs.Due.{planned_for}
use Rattle.bm_exec_levels.specs.Ready.{known_of, left_of}
use Rattle.bm_exec_levels.specs.Sound.{Sound}
use Rattle.bm_exec_levels.specs.declared.processor.Processor.{Processor}
use Rattle.bm_exec_levels.specs.declared.program.Program.{Program}
use Rattle.bm_run.specs.Filling.{Filling}

-- some of the eleven classes, ascending
abbrev pub ascends : List ℕ → Bool
ascends [] = true
ascends (c ∷ []) = nat_lt c 11
ascends (c ∷ d ∷ cs) = nat_lt c d && ascends (d ∷ cs)

-- Processor p's side, of so many, of all that processors share, with this stock: nobody has sent a parcel, begun a period or entered
-- a section. (This project's own.)
abbrev pub fresh_side : (processors p : ℕ) → Stock → SideState
fresh_side n p pool = record {
  post = record { pool = pool; processors = n; processor = p; inboxes = no_parcels };
  grace = record { processors = n; processor = p; plain = idle; tracing = idle };
}

-- .. where no unit lives or has begun a life, none was asked for, and there is no slot, list or tree
abbrev pub fresh_world : (processors p : ℕ) → Stock → LivingState
fresh_world n p pool =
    record {
      side = fresh_side n p pool;
      slots = [];
      begun = [];
      standings = [];
      asked = 0;
      contents = [];
      graphs = [];
    }

-- the slots of these maps, which hold nothing
abbrev pub empty_slots : List MapDeclaration → List Named
empty_slots maps =
    map (λ (m : MapDeclaration). let s : Named = record { name = m.name; slot = empty_slot } in s)
    maps

-- whether a map of this kind is a tree
abbrev pub is_tree_kind : MapKind → Bool
is_tree_kind kind.Slot = false
is_tree_kind kind.List = false
is_tree_kind kind.Tree = true

-- the lists and trees of these maps, in which nothing is, and on which nobody has called; at the place of a slot stands an empty list
abbrev pub empty_graph : MapDeclaration → NamedGraph
empty_graph m = record { name = m.name; is_tree = is_tree_kind m.kind; history = []; nodes = [] }

abbrev pub empty_graphs : List MapDeclaration → List NamedGraph
empty_graphs maps = map empty_graph maps

-- the world of one processor before its opening: all units are in stock
abbrev pub outset : (pages : ℕ) → LivingState
outset pages = fresh_world 1 0 (fresh_stock pages)

-- Processor i of n, whose caches were filled so: the log has a `fill` for each class, no flag is up, no object lives, no life began,
-- none was asked for, no period is in progress, and no section was entered. No handler that the program plans for it has run, none
-- runs, it is in no section, and it holds no lock. (bpf_mem_alloc_init and prefill_mem_cache in kernel/bpf/memalloc.c; objects, periods, sections and
-- planned handlers are this project's own.)
pub record IsOpen (n i : ℕ) (p : Program) (f : Filling) (m : Processor LivingState) : Type 0 where
  pub sound : Sound knows_living p m
  pub told : IfSome m.caches.recorder.told (λ es. es ≡ fill_log f.fills)
  pub lowered : (c : ℕ) → ((shown m.caches).rows c).raised ≡ false
  pub none : (u : ℕ) → lives_of m.side.slots u ≡ None
  pub begun : (u : ℕ) → begun_at m.side.begun u ≡ 0
  pub asked : (known_of knows_living m).objects.asked + m.settled ≡ 0
  pub numbers : (d : Domain) → (side d (known_of knows_living m)).number ≡ 0
  pub words : (d : Domain) → (side d (known_of knows_living m)).word ≡ 0
  pub processors : (known_of knows_living m).grace.processors ≡ n
  pub processor : (known_of knows_living m).grace.processor ≡ i
  pub planned : left_of m ≡ planned_for i p.scenario.now
  pub running : m.running.items ≡ []
  pub inside : m.inside ≡ false
  pub locked : m.locked ≡ None

-- Worked blocks with a list and a tree. An object is made, pushed under the list's lock, read by the non-owning name, popped and dropped; another one
-- is added to a tree, found there and removed; a push of an object that is in a list already is refused; and the closing empties the list and the
-- tree. In place of deferred work one entry stands.
use Rattle.std.specs.Prelude.{ℕ, ◌≤◌, refl, true, List, [], ◌∷◌, ◌++◌, Some, None, length, codes}
use Rattle.std.specs.Global.{Vec}
use Rattle.std.specs.Ptr.{null_ptr}
use Rattle.std.proofs.Common.{lit<, lit≤}
use Rattle.bm_journal.specs.declared.entry.Entry.{Entry}
use Rattle.bm_journal.specs.declared.entry.Entry.TheVariants as entry
use Rattle.bm_journal.specs.declared.ids.ObjId.{ObjId}
use Rattle.bm_lang.specs.declared.scenario.Action.{Add, Drop, First, Get, If', Lock, New, None', PopFront, PushBack, Remove, Unlock}
use Rattle.bm_lang.specs.declared.scenario.Block.{Block, roll-Block}
use Rattle.bm_lang.specs.declared.scenario.MapDeclaration.{MapDeclaration}
use Rattle.bm_lang.specs.declared.scenario.MapId.{MapId}
use Rattle.bm_lang.specs.declared.scenario.MapKind.TheVariants as kind
use Rattle.bm_lang.specs.declared.scenario.Node.TheVariants as node
use Rattle.bm_lang.specs.declared.scenario.Statement.{Statement}
use Rattle.bm_lang.specs.declared.scenario.TypeDeclaration.{TypeDeclaration}
use Rattle.bm_lang.specs.declared.scenario.TypeId.{TypeId}
use Rattle.bm_law.specs.Ordinary.{ordinary}
use Rattle.bm_law.specs.State.{opening}
use Rattle.bm_law_work.specs.Parts.{Part, Stand}
use Rattle.bm_law_scenario.specs.Closing.{EmptiesMap}
use Rattle.bm_law_scenario.specs.Declared.{Declared, under}
use Rattle.bm_law_scenario.specs.Held.{Names, Object, Soft, no_names, soft_ended, with_name}
use Rattle.bm_law_scenario.specs.Held as held
use Rattle.bm_law_scenario.specs.Runs.{RunsBlock}
use Rattle.bm_law_scenario.specs.Worked.{plain_type}
use Rattle.bm_law_scenario.specs.WorkedDrops.{a_field, y_name}
use Rattle.bm_law_scenario.specs.WorkedJournal.{x_name}

-- ---- what is declared

-- `type job list { a }`, `type shared counted list { a }` and `type leaf tree { a }`
abbrev pub job : TypeDeclaration
job = record (plain_type (codes "job") (a_field ∷ []) None) { node = Some node.List }

abbrev pub shared : TypeDeclaration
shared =
    record (plain_type (codes "shared") (a_field ∷ []) None)
    { node = Some node.List; counted = true }

abbrev pub leaf : TypeDeclaration
leaf = record (plain_type (codes "leaf") (a_field ∷ []) None) { node = Some node.Tree }

abbrev pub job_id : TypeId
job_id = record { 0 = 0 }

abbrev pub shared_id : TypeId
shared_id = record { 0 = 1 }

abbrev pub leaf_id : TypeId
leaf_id = record { 0 = 2 }

-- `list q job`, `list r shared`, `tree t leaf` and `slot s job`
abbrev pub q_map : MapDeclaration
q_map = record { line = 4; kind = kind.List; name = codes "q"; type_id = job_id }

abbrev pub r_map : MapDeclaration
r_map = record { line = 5; kind = kind.List; name = codes "r"; type_id = shared_id }

abbrev pub t_map : MapDeclaration
t_map = record { line = 6; kind = kind.Tree; name = codes "t"; type_id = leaf_id }

abbrev pub s_map : MapDeclaration
s_map = record { line = 7; kind = kind.Slot; name = codes "s"; type_id = job_id }

abbrev pub q_id : MapId
q_id = record { 0 = 0 }

abbrev pub r_id : MapId
r_id = record { 0 = 1 }

abbrev pub t_id : MapId
t_id = record { 0 = 2 }

abbrev pub s_id : MapId
s_id = record { 0 = 3 }

-- under no lock; and under this one
abbrev pub graphs : Declared
graphs =
    record
    { types = job ∷ shared ∷ leaf ∷ []; maps = q_map ∷ r_map ∷ t_map ∷ s_map ∷ []; lock = None }

abbrev pub within : MapId → Declared
within g = under (Some g) graphs

-- one entry in place of deferred work
abbrev pub works : Part
works = Stand 0 (entry.Work 2 ∷ [])

-- ---- a list

-- a block of these statements, of which there are at most eight
abbrev pub row_of : (statements : List Statement) → length statements ≤ 8 → Vec Statement
row_of statements few =
    record {
      ptr = null_ptr;
      len = length statements;
      cap = 8;
      alloc = record { memory = record { seal = tt } };
      items = statements;
      ok = (refl, few);
      small = lit< tt;
    }

abbrev pub long_block : (statements : List Statement) → length statements ≤ 8 → Block
long_block statements few =
    roll-Block (record { statements = row_of statements few; end_line = 20 })

abbrev pub makes : Statement
makes = record { line = 10; action = New x_name job_id (7 ∷ []) }

abbrev pub drops_y : List Statement
drops_y = record { line = 16; action = Drop y_name } ∷ []

-- `lock q push_back q x get x a pop_front y q unlock if y { drop y }`
abbrev pub visits : List Statement
visits =
    record { line = 11; action = Lock q_id } ∷
    record { line = 12; action = PushBack q_id x_name } ∷
    record { line = 13; action = Get x_name a_field } ∷
    record { line = 14; action = PopFront y_name q_id } ∷
    record { line = 15; action = Unlock } ∷
    record { line = 16; action = If' y_name (long_block drops_y (lit≤ tt)) None' } ∷ []

-- `new x job 7` and `if x { .. }`
abbrev pub queues : List Statement
queues = makes ∷ record { line = 17; action = If' x_name (long_block visits (lit≤ tt)) None' } ∷ []

-- x holds the object, and then a non-owning reference to what is in the list; y takes it, the lock is given back, and y gives it up
abbrev pub holding_job : Names
holding_job = with_name x_name (Object job_id 3 1) no_names

abbrev pub pushed : Names
pushed = with_name x_name (Soft job_id q_id 3 1) holding_job

abbrev pub popped : Names
popped = with_name y_name (Object job_id 3 1) (soft_ended pushed)

abbrev pub left : Names
left = soft_ended popped

abbrev pub done : Names
done = with_name y_name held.Nothing left

abbrev pub the_job : ObjId
the_job = record { unit = 3; life = 1 }

abbrev pub asks_job : List Entry
asks_job =
    entry.New (codes "job") (7 ∷ []) ∷ entry.Enter 2 1 ∷ entry.Pop 2 3 ∷ entry.Count 2 3
    ∷ entry.Leave 2 0 ∷ entry.Raise 2 ∷ entry.Given 3 1 ∷ []

abbrev pub lock_of : List ℕ → List Entry
lock_of name = entry.Lock name ∷ []

abbrev pub unlock_of : List ℕ → List Entry
unlock_of name = entry.Unlock name ∷ []

abbrev pub pushes : List Entry
pushes = entry.PushBack (codes "q") 3 1 0 ∷ []

abbrev pub reads_a : List Entry
reads_a = entry.Get 3 1 0 7 ∷ []

abbrev pub pops : List Entry
pops = entry.PopFront (codes "q") (Some the_job) 1 ∷ []

abbrev pub work : List Entry
work = entry.Work 2 ∷ []

-- unit u is given up by a plain free
abbrev pub gives_up : ℕ → List Entry
gives_up u =
    entry.Drop u 1 ∷ entry.Last ∷ entry.Free u 0 ∷ entry.Enter 2 1 ∷ entry.Push 2 u
    ∷ entry.Count 2 4 ∷ entry.Leave 2 0 ∷ []

-- `lock q`, and `unlock`
abbrev pub locks : List Statement
locks = record { line = 11; action = Lock q_id } ∷ []

abbrev pub unlocks : List Statement
unlocks = record { line = 15; action = Unlock } ∷ []

-- y holds nothing once the object was taken; and x holds its non-owning reference still
abbrev pub popped_none : Names
popped_none = with_name y_name held.Nothing (soft_ended pushed)

abbrev pub popped_soft : Names
popped_soft = with_name y_name (Object job_id 3 1) pushed

-- under the lock no work stands; behind `unlock`, the drop and each `if` it does
abbrev pub visit_entries : List Entry
visit_entries =
    lock_of (codes "q") ++ pushes ++ reads_a ++ pops ++ (unlock_of (codes "q") ++ work)
    ++ (gives_up 3 ++ work) ++ work

abbrev pub queue_entries : List Entry
queue_entries = (asks_job ++ work) ++ (visit_entries ++ work)

-- ---- a tree

abbrev pub f_name : List ℕ
f_name = codes "f"

abbrev pub the_leaf : ObjId
the_leaf = record { unit = 5; life = 1 }

-- `lock t add t x first f t remove y t f unlock if y { drop y }`
abbrev pub grows : List Statement
grows =
    record { line = 11; action = Lock t_id } ∷
    record { line = 12; action = Add t_id x_name } ∷
    record { line = 13; action = First f_name t_id } ∷
    record { line = 14; action = Remove y_name t_id f_name } ∷
    record { line = 15; action = Unlock } ∷
    record { line = 16; action = If' y_name (long_block drops_y (lit≤ tt)) None' } ∷ []

abbrev pub holding_leaf : Names
holding_leaf = with_name x_name (Object leaf_id 5 1) no_names

abbrev pub added : Names
added = with_name x_name (Soft leaf_id t_id 5 1) holding_leaf

abbrev pub found : Names
found = with_name f_name (Soft leaf_id t_id 5 1) added

abbrev pub removed : Names
removed = with_name y_name (Object leaf_id 5 1) (soft_ended found)

abbrev pub leaf_left : Names
leaf_left = soft_ended removed

abbrev pub leaf_done : Names
leaf_done = with_name y_name held.Nothing leaf_left

-- nothing is found, and y is null
abbrev pub found_none : Names
found_none = with_name f_name held.Null no_names

abbrev pub removed_none : Names
removed_none = with_name y_name held.Null (soft_ended found_none)

abbrev pub adds : List Entry
adds = entry.Add (codes "t") 5 1 0 ∷ []

abbrev pub finds : List Entry
finds = entry.First (codes "t") (Some the_leaf) 1 ∷ []

abbrev pub removes : List Entry
removes = entry.Remove (codes "t") 5 1 2 ∷ []

abbrev pub grow_entries : List Entry
grow_entries =
    lock_of (codes "t") ++ adds ++ finds ++ removes ++ (unlock_of (codes "t") ++ work)
    ++ (gives_up 5 ++ work) ++ work

-- ---- a refused push

-- x holds a reference to an object with a count, of which another one is in the list; it is given up, and the object stays
abbrev pub holding_shared : Names
holding_shared = with_name x_name (Object shared_id 3 1) no_names

abbrev pub shared_spent : Names
shared_spent = with_name x_name held.Nothing holding_shared

abbrev pub refused : List Entry
refused = entry.PushBackAlready (codes "r") 3 1 (codes "r") 4 ∷ []

abbrev pub refused_and_dropped : List Entry
refused_and_dropped = refused ++ entry.Drop 3 1 ∷ entry.Still 2 ∷ []

-- ---- the closing

-- the list, and the tree, give up what is in them, and then nothing is found
abbrev pub takes_job : List Entry
takes_job = entry.PopFront (codes "q") (Some the_job) 2 ∷ gives_up 3

abbrev pub empties_list : List Entry
empties_list = takes_job ++ entry.PopFront (codes "q") None 3 ∷ []

abbrev pub takes_leaf : List Entry
takes_leaf = entry.First (codes "t") (Some the_leaf) 3 ∷ entry.Remove (codes "t") 5 1 4 ∷ gives_up 5

abbrev pub empties_tree : List Entry
empties_tree = takes_leaf ++ entry.First (codes "t") None 5 ∷ []

-- the closing of this map, from the opening's lists
abbrev pub Empties : MapDeclaration → List Entry → Type 0
Empties m own = EmptiesMap graphs.types m.kind m (opening 0) (ordinary own)

-- a block in a plain section, where one entry stands in place of deferred work
abbrev pub LeavesFrom : Declared → List Statement → Names → List Entry → Names → Type 0
LeavesFrom d statements names own after =
    (few : length statements ≤ 8)
    × RunsBlock d 0 true works (long_block statements few) names after (opening 0) (ordinary own)

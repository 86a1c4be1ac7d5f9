-- The scenario that two numbers make, a count of pieces and a start: a queue of counted jobs, a tree by key and a spare part in
-- a slot, which four processors and two planned handlers share. It is this project's own, and docs/scenarios.md tells it in
-- words. Lines are those of its printed text.
use Rattle.std.specs.Prelude.{ℕ, zero, suc, ◌+◌, ◌≤◌, true, false, List, [], ◌∷◌, ◌++◌, length, take, Some, None, codes}
use Rattle.std.specs.Global.{Vec}
use Rattle.std.specs.Ptr.{null_ptr}
use Rattle.std.proofs.Common.{refl, sym, subst, lit<}
use Rattle.std.proofs.Math.Nat.{min-le_left}
use Rattle.std.proofs.lemmas.List.{length-take}
use Rattle.bm_lang.specs.declared.scenario.Action.{Action, New, Drop, Exchange, If', None', Lock, Unlock, Yield, PushBack, PopFront, Add, First, Remove}
use Rattle.bm_lang.specs.declared.scenario.Block.{Block, roll-Block}
use Rattle.bm_lang.specs.declared.scenario.Statement.{Statement}
use Rattle.bm_lang.specs.declared.scenario.Parts.{Parts}
use Rattle.bm_lang.specs.declared.scenario.Script.{Script}
use Rattle.bm_lang.specs.declared.scenario.ScriptKind.TheVariants.{Plain, Handler}
use Rattle.bm_lang.specs.declared.scenario.TypeDeclaration.{TypeDeclaration}
use Rattle.bm_lang.specs.declared.scenario.MapDeclaration.{MapDeclaration}
use Rattle.bm_lang.specs.declared.scenario.MapKind.TheVariants as map
use Rattle.bm_lang.specs.declared.scenario.Node.TheVariants as node
use Rattle.bm_lang.specs.declared.scenario.TypeId.{TypeId}
use Rattle.bm_lang.specs.declared.scenario.MapId.{MapId}
use Rattle.bm_lang.specs.declared.scenario.RunLine.{RunLine}
use Rattle.bm_lang.specs.declared.scenario.AtLine.{AtLine}
use Rattle.bm_generator.specs.declared.pieces.Piece.{Piece}
use Rattle.bm_generator.specs.declared.pieces.Piece.TheVariants as piece
use Rattle.bm_generator.specs.Pieces.{pieces, behind_pieces}

-- ---- the declarations

-- `type job counted list { a b }`, `type node tree { k }`, `type part counted { v }`
abbrev pub types : List TypeDeclaration
types =
    record {
      line = 5;
      name = codes "job";
      counted = true;
      node = Some node.List;
      fields = codes "a" ∷ codes "b" ∷ [];
      pad = None;
    } ∷
    record {
      line = 8;
      name = codes "node";
      counted = false;
      node = Some node.Tree;
      fields = codes "k" ∷ [];
      pad = None;
    } ∷
    record {
      line = 11;
      name = codes "part";
      counted = true;
      node = None;
      fields = codes "v" ∷ [];
      pad = None;
    }
    ∷ []

abbrev pub job : TypeId
job = record { 0 = 0 }

abbrev pub tree_node : TypeId
tree_node = record { 0 = 1 }

abbrev pub part : TypeId
part = record { 0 = 2 }

-- `slot spare part`, `list q job`, `tree t node`
abbrev pub maps : List MapDeclaration
maps =
    record { line = 14; kind = map.Slot; name = codes "spare"; type_id = part } ∷
    record { line = 15; kind = map.List; name = codes "q"; type_id = job } ∷
    record { line = 16; kind = map.Tree; name = codes "t"; type_id = tree_node } ∷ []

abbrev pub spare : MapId
spare = record { 0 = 0 }

abbrev pub q : MapId
q = record { 0 = 1 }

abbrev pub t : MapId
t = record { 0 = 2 }

-- ---- blocks

abbrev pub room : ℕ
room = 10000

pub has_room : {A : Type 0} (items : List A) → length (take room items) ≤ room
has_room items =
    subst (λ n. n ≤ room) (sym (length-take room items)) (min-le_left room (length items))

-- A block of these statements that ends on this line. It has room for 10,000: a script has at most five for each of at most
-- 2,000 pieces.
abbrev pub block_of : List Statement → ℕ → Block
block_of statements line = roll-Block (record { statements = vector; end_line = line })
  where
    vector : Vec Statement
    vector =
        record {
          ptr = null_ptr;
          len = length (take room statements);
          cap = room;
          alloc = record { memory = record { seal = tt } };
          items = take room statements;
          ok = (refl, has_room statements);
          small = lit< tt;
        }

abbrev pub on_line : ℕ → Action → Statement
on_line line a = record { line = line; action = a }

-- `if x { .. }` that begins on the first line and ends on the last
abbrev pub unless_null : ℕ → List ℕ → List Statement → ℕ → Statement
unless_null first x body last = on_line first (If' x (block_of body last) None')

-- ---- pieces as statements

-- the names that scripts bind
abbrev pub x : List ℕ
x = codes "x"

abbrev pub o : List ℕ
o = codes "o"

abbrev pub f : List ℕ
f = codes "f"

abbrev pub g : List ℕ
g = codes "g"

-- the statements of a piece whose first line is l
abbrev pub statements : ℕ → Piece → List Statement
statements l (piece.Push a b) =
    on_line l (New x job (a ∷ b ∷ [])) ∷
    unless_null (l + 1) x
    (on_line (l + 2) (Lock q) ∷ on_line (l + 3) (PushBack q x) ∷ on_line (l + 4) Unlock
    ∷ [])
    (l + 5)
    ∷ []
statements l piece.Pop =
    on_line l (Lock q) ∷ on_line (l + 1) (PopFront x q) ∷ on_line (l + 2) Unlock ∷
    unless_null (l + 3) x (on_line (l + 4) (Drop x) ∷ []) (l + 5) ∷ []
statements l (piece.Plant k) =
    on_line l (New x tree_node (k ∷ [])) ∷
    unless_null (l + 1) x
    (on_line (l + 2) (Lock t) ∷ on_line (l + 3) (Add t x) ∷ on_line (l + 4) Unlock ∷ [])
    (l + 5)
    ∷ []
statements l piece.Pick =
    on_line l (Lock t) ∷ on_line (l + 1) (First f t) ∷ on_line (l + 2) (Remove g t f)
    ∷ on_line (l + 3) Unlock ∷
    unless_null (l + 4) g (on_line (l + 5) (Drop g) ∷ []) (l + 6) ∷ []
statements l (piece.Swap v) =
    on_line l (New x part (v ∷ [])) ∷
    unless_null (l + 1) x
    (on_line (l + 2) (Exchange o spare (Some x))
    ∷ unless_null (l + 3) o (on_line (l + 4) (Drop o) ∷ []) (l + 5) ∷ [])
    (l + 6)
    ∷ []
statements l piece.Yield = on_line l Yield ∷ []

-- how many lines a piece has
abbrev pub height : Piece → ℕ
height (piece.Push a b) = 6
height piece.Pop = 6
height (piece.Plant k) = 6
height piece.Pick = 7
height (piece.Swap v) = 7
height piece.Yield = 1

abbrev pub heights : List Piece → ℕ
heights [] = 0
heights (p ∷ ps) = height p + heights ps

-- the statements of pieces one after the other, the first of them on line l
abbrev pub body : ℕ → List Piece → List Statement
body l [] = []
body l (p ∷ ps) = statements l p ++ body (l + height p) ps

-- ---- the scripts and the lines that run them

-- the script of a processor, named `p` and its number, with these pieces; its first line is l
abbrev pub script : ℕ → ℕ → List Piece → Script
script processor l ps =
    record {
      line = l;
      name = 112 ∷ (48 + processor) ∷ [];
      kind = Plain;
      body = block_of (body (l + 1) ps) (l + 1 + heights ps);
    }

-- the line behind such a script
abbrev pub behind_script : ℕ → List Piece → ℕ
behind_script l ps = l + 2 + heights ps

-- the handler `h`, which makes a part of value 7 and puts it into the slot
abbrev pub handler : ℕ → Script
handler l =
    record {
      line = l;
      name = codes "h";
      kind = Handler;
      body = block_of (statements (l + 1) (piece.Swap 7)) (l + 8);
    }

-- the scripts of k processors from this one on, with n pieces each, drawn from state s on, and the handler; they begin on line l
abbrev pub scripts : ℕ → ℕ → ℕ → ℕ → ℕ → List Script
scripts zero processor n s l = handler l ∷ []
scripts (suc k) processor n s l =
    script processor l (pieces n s)
    ∷ scripts k (processor + 1) n (behind_pieces n s) (behind_script l (pieces n s))

-- the line of the handler
abbrev pub handler_line : ℕ → ℕ → ℕ → ℕ → ℕ
handler_line zero n s l = l
handler_line (suc k) n s l = handler_line k n (behind_pieces n s) (behind_script l (pieces n s))

-- `run 0 p0` to `run 3 p3`, from this line on
abbrev pub run_line : ℕ → ℕ → RunLine
run_line l i = record { line = l + i; processor = i; script = record { 0 = i } }

abbrev pub runs : ℕ → List RunLine
runs l = run_line l 0 ∷ run_line l 1 ∷ run_line l 2 ∷ run_line l 3 ∷ []

-- `at 0 100 1 h` and `at 1 200 2 h`, from this line on
abbrev pub ats : ℕ → List AtLine
ats l =
    record { line = l; processor = 0; step = 100; level = 1; script = record { 0 = 4 } } ∷
    record { line = l + 1; processor = 1; step = 200; level = 2; script = record { 0 = 4 } } ∷ []

-- the processors in turn, n times
abbrev pub turns : ℕ → List ℕ
turns zero = []
turns (suc n) = 0 ∷ 1 ∷ 2 ∷ 3 ∷ turns n

-- ---- the whole: n pieces a processor, at most 2,000, drawn from the state `start` on. The first script is on line 17.
abbrev pub generated : ℕ → ℕ → Parts
generated n start =
    let h = handler_line 4 n start 17 in
    record {
      processors = 4;
      pages = 64;
      deferred = true;
      types = types;
      maps = maps;
      scripts = scripts 4 0 n start 17;
      runs = runs (h + 9);
      ats = ats (h + 13);
      turns = Some (turns n);
    }

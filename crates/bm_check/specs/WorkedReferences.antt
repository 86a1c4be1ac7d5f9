-- How long a non-owning reference stands, worked out by hand. The list q and the tree t hold objects of one type, which isn't
-- counted. The script stands under the lock of one of the two and owns an object under the name x, the byte 120; the first
-- statement is on line 5 and puts the object in. The names y and z, the bytes 121 and 122, are free.
use Rattle.std.specs.Prelude.{◌≡◌, ℕ, false, List, [], ◌∷◌, Option, Some, None}
use Rattle.bm_lang.specs.declared.scenario.Action.{Action, Get, Drop, Lock, Unlock, PushBack, PopFront, PopBack, Add, First, Remove}
use Rattle.bm_lang.specs.declared.scenario.Block.{Row_of-Statement, end_of-Statement, more_of-Statement}
use Rattle.bm_lang.specs.declared.scenario.TypeDeclaration.{TypeDeclaration}
use Rattle.bm_lang.specs.declared.scenario.MapDeclaration.{MapDeclaration}
use Rattle.bm_lang.specs.declared.scenario.MapKind.{MapKind}
use Rattle.bm_lang.specs.declared.scenario.MapKind.TheVariants as map
use Rattle.bm_lang.specs.declared.scenario.ScriptKind.TheVariants.{Plain}
use Rattle.bm_lang.specs.declared.scenario.MapId.{MapId}
use Rattle.bm_check.specs.declared.name_state.NameState.{NameState}
use Rattle.bm_check.specs.declared.name_state.NameState.TheVariants.{Maybe, Owned, Soft}
use Rattle.bm_check.specs.declared.name_state.HeldLock.TheVariants.{Here}
use Rattle.bm_check.specs.declared.rule.Rule.TheVariants as rule
use Rattle.bm_check.specs.Names.{no_names, put}
use Rattle.bm_check.specs.Statements.{Setting}
use Rattle.bm_check.specs.Blocks.{Outcome, Broken, Reaches, at, judged_row}
use Rattle.bm_check.specs.Worked.{x, job, q}

abbrev pub y : List ℕ
y = 121 ∷ []

abbrev pub z : List ℕ
z = 122 ∷ []

abbrev pub t : MapId
t = record { 0 = 1 }

-- the field of a job
abbrev pub field : List ℕ
field = 102 ∷ []

abbrev pub job_type : TypeDeclaration
job_type =
    record
    { line = 1; name = 106 ∷ []; counted = false; node = None; fields = field ∷ []; pad = None }

abbrev pub map_of : MapKind → List ℕ → MapDeclaration
map_of kind name = record { line = 2; kind = kind; name = name; type_id = job }

abbrev pub with_list_and_tree : Setting
with_list_and_tree =
    record {
      types = job_type ∷ [];
      maps = map_of map.List (113 ∷ []) ∷ map_of map.Tree (116 ∷ []) ∷ [];
      kind = Plain;
    }

-- statements under the lock of a map, by a script that owns an object under x
abbrev pub three : MapId → Action → Action → Action → Outcome
three g a b c =
    judged_row with_list_and_tree (at (put no_names x (Owned job)) (Here g))
    (more_of-Statement 5 a (more_of-Statement 6 b (more_of-Statement 7 c end_of-Statement)))

abbrev pub four : MapId → Action → Action → Action → Action → Outcome
four g a b c d =
    judged_row with_list_and_tree (at (put no_names x (Owned job)) (Here g))
    (more_of-Statement 5 a
    (more_of-Statement 6 b (more_of-Statement 7 c (more_of-Statement 8 d end_of-Statement))))

-- one statement under the lock of a map, where x leads into the list q
abbrev pub one_soft : MapId → Action → Outcome
one_soft g a =
    judged_row with_list_and_tree (at (put no_names x (Soft job q)) (Here g))
    (more_of-Statement 5 a end_of-Statement)

abbrev pub reads : Action
reads = Get x field

-- what stands under a name after all statements
abbrev pub left : Outcome → List ℕ → Option NameState
left (Broken line r) n = None
left (Reaches p) n = Some (p.names.state n)

pub record WorkedReferences : Type 0 where
  -- under the lock the pushed object is read through its name, again and again
  pub read_while_held : left (three q (PushBack q x) reads reads) x ≡ Some (Soft job q)
  -- the unlock ends it, and taking the lock again doesn't bring it back
  pub ends_with_the_lock : three q (PushBack q x) Unlock reads ≡ Broken 7 rule.NotSpent
  pub stays_ended : four q (PushBack q x) Unlock (Lock q) reads ≡ Broken 8 rule.NotSpent
  -- a pop may take out any object that a name leads to, and so ends all
  pub ends_with_a_pop : three q (PushBack q x) (PopFront y q) reads ≡ Broken 7 rule.NotSpent
  pub ends_with_a_pop_of_the_back :
      three q (PushBack q x) (PopBack y q) reads ≡ Broken 7 rule.NotSpent
  -- a removal too, and what it takes out is taken out once
  pub ends_with_a_removal : three t (Add t x) (Remove y t x) reads ≡ Broken 7 rule.NotSpent
  pub taken_out : left (three t (Add t x) (First y t) (Remove z t y)) z ≡ Some (Maybe job)
  pub taken_out_once :
      four t (Add t x) (First y t) (Remove z t y) (Remove (123 ∷ []) t x) ≡ Broken 8 rule.NotSpent
  -- it owns nothing that could be put in, or be given up after the unlock, and leads into its own list or tree alone
  pub not_put_in : one_soft q (PushBack q x) ≡ Broken 5 rule.RightKind
  pub not_given_up : three q (PushBack q x) Unlock (Drop x) ≡ Broken 7 rule.NotSpent
  pub of_no_other : one_soft t (Remove y t x) ≡ Broken 5 rule.RightKind

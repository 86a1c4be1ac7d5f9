-- The objects to which names hold references, by their units. The references that slots hold aren't counted here.
use Rattle.std.specs.Prelude.{◌≡◌, ◌⊎◌, ◌<◌, ◌≤◌, ◌+◌, slice_get, ℕ, zero, suc, Bool, true, false, eqb, List, [], ◌∷◌, length, Option, Some, None, is_some}
use Rattle.bm_journal.specs.declared.entry.Entry.{Entry}
use Rattle.bm_journal.specs.declared.entry.Entry.TheVariants as entry
use Rattle.bm_journal.specs.declared.ids.ObjId.{ObjId}
use Rattle.bm_journal.specs.declared.ids.Tag.{Tag}
use Rattle.bm_lang.specs.declared.scenario.TypeDeclaration.{TypeDeclaration}
use Rattle.bm_lang.specs.declared.scenario.TypeId.{TypeId}
pub use Rattle.bm_grace.specs.Known.{Living, Lives}
pub use Rattle.bm_grace.specs.Living.{count_in, recounted, type_in, values_in, with_life}
use Rattle.bm_law.specs.Lists.{Log}
use Rattle.bm_law.specs.Spans.{Records}
use Rattle.bm_law.specs.State.{State}
use Rattle.bm_law_scenario.specs.Held.{Held, Names, Nothing, Null, Object, Soft, with_name}
use Rattle.bm_law_scenario.specs.Opened.{OfClass}
use Rattle.bm_law_scenario.specs.Calls.{Allocates, Frees}

-- Unit u lives life n, and is of class c.
pub record LivesAs (lives : Lives) (c u n : ℕ) : Type 0 where
  pub home : ℕ
  pub type : ℕ
  pub count : ℕ
  pub values : List ℕ
  pub is :
      lives u
      ≡ Some
      (record { class = c; life = n; home = home; type = type; count = count; values = values })

-- the home of the life that a unit has
abbrev pub home_of : Option Living → Option ℕ
home_of None = None
home_of (Some l) = Some l.home

abbrev pub reply_of : Option ObjId → Option (ℕ × ℕ)
reply_of None = None
reply_of (Some o) = Some (o.unit, o.life)

-- a new object of class c and of type t, with one reference
abbrev pub new_life : (c t life home : ℕ) → (values : List ℕ) → Living
new_life c t life home values =
    record { class = c; life = life; home = home; type = t; count = 1; values = values }

-- the life that a reply begins, where its unit had none
pub record BeginsLife (c t : ℕ) (values : List ℕ) (lives lives' : Lives) (o : ObjId) : Type 0 where
  pub none : lives o.unit ≡ None
  pub home : ℕ
  pub now : lives' ≡ with_life o.unit (Some (new_life c t o.life home values)) lives

-- a reply that gives an object begins its life, of this class and type and with these values of its fields, and its unit had none; a null reply
-- begins none
abbrev pub Begins : (c t : ℕ) → (values : List ℕ) → Lives → Lives → Option ObjId → Type 0
Begins c t values lives lives' None = lives' ≡ lives
Begins c t values lives lives' (Some o) = BeginsLife c t values lives lives' o

-- A call for an object of class c and of type t, which has this name: its entries, its reply, and the object that lives now.
pub record Created (l c t : ℕ) (name values : List ℕ) (log log' : Option Log) (lives lives' : Lives)
    (reply : Option ObjId) : Type 0 where
  pub own : List Entry
  pub records : Records l (entry.New name values ∷ own) log log'
  pub allocates : Allocates c own (reply_of reply)
  pub begins : Begins c t values lives lives' reply

-- A call for one more reference to an object: its entry, which names how many there were, those of slots too, and that names hold one more.
pub record Acquired (l : ℕ) (o : ObjId) (log log' : Option Log) (lives lives' : Lives) :
    Type 0 where
  pub seen : ℕ
  pub some : 0 < seen
  pub records : Records l (entry.Acquire o.unit o.life seen ∷ []) log log'
  pub more : lives' ≡ recounted o.unit (count_in (lives o.unit) + 1) lives

-- A field of an object is read, by its place: its entry, which names the value that the object has there.
pub record HasRead (l : ℕ) (o : ObjId) (place : ℕ) (log log' : Option Log) (lives : Lives) :
    Type 0 where
  pub value : ℕ
  pub records : Records l (entry.Get o.unit o.life place value ∷ []) log log'
  pub found : slice_get (values_in (lives o.unit)) place ≡ Some value

-- one reference less; none is left where there was one
abbrev pub less_of : (count : ℕ) → Living → Option Living
less_of zero l = None
less_of (suc zero) l = None
less_of (suc (suc k)) l = Some (record l { count = suc k })

abbrev pub one_less : Option Living → Option Living
one_less None = None
one_less (Some l) = less_of l.count l

-- a name lets go of a reference to unit u
abbrev pub let_go : (u : ℕ) → Lives → Lives
let_go u lives = with_life u (one_less (lives u)) lives

-- A reference to an object is given up, and others are left, be it in slots: its entries, which name how many there were, and that names hold one
-- less.
pub record GivenUp (l : ℕ) (o : ObjId) (log log' : Option Log) (lives lives' : Lives) : Type 0 where
  pub seen : ℕ
  pub others : 1 < seen
  pub records : Records l (entry.Drop o.unit o.life ∷ entry.Still seen ∷ []) log log'
  pub less : lives' ≡ let_go o.unit lives

-- The last reference to an object of a counted type, or of another one, is given up, with these lists before: its entries, of which the
-- free goes to the object's home, and that the object lives no more.
pub record Disposed (l : ℕ) (counted : Bool) (c : ℕ) (o : ObjId) (s : State ℕ)
    (log log' : Option Log) (lives lives' : Lives) : Type 0 where
  pub home : ℕ
  pub own : List Entry
  pub records : Records l (entry.Drop o.unit o.life ∷ entry.Last ∷ own) log log'
  pub frees : Frees counted c o.unit home (is_some (s.rows c).deferred.plain) own
  pub to_home : home_of (lives o.unit) ≡ Some home
  pub only : count_in (lives o.unit) ≡ 1
  pub ends : lives' ≡ let_go o.unit lives

-- a reference is given up: it is the last, or others are left, as only objects of a counted type have them
abbrev pub LetGo :
    (l : ℕ) (counted : Bool) (c : ℕ) (o : ObjId) (s : State ℕ) (log log' : Option Log)
    (lives lives' : Lives) → Type 0
LetGo l counted c o s log log' lives lives' =
    Disposed l counted c o s log log' lives lives'
    ⊎ ((counted ≡ true) × GivenUp l o log log' lives lives')

-- type t is declared, and its objects carry a count of references or not
pub record HasType (types : List TypeDeclaration) (t : ℕ) (counted : Bool) : Type 0 where
  pub declared : TypeDeclaration
  pub found : slice_get types t ≡ Some declared
  pub counted_is : declared.counted ≡ counted

-- an object of class c and type t may be made with these values
pub record IsMade (types : List TypeDeclaration) (c t : ℕ) (values : List ℕ) : Type 0 where
  pub declared : TypeDeclaration
  pub of_class : OfClass types t c declared
  pub fields : length values ≡ length declared.fields
  pub few : length declared.fields ≤ 8

-- lives without a reference that is put into a slot
abbrev pub without : Option ObjId → Lives → Lives
without None lives = lives
without (Some o) lives = let_go o.unit lives

-- A reference that a slot of type t held is taken: it is to an object of that type, of which names hold one reference more now. Where some hold one
-- already, they hold it to this object.
pub record TakenOut (types : List TypeDeclaration) (t : ℕ) (between lives' : Lives) (o : ObjId) :
    Type 0 where
  pub object : Living
  pub life_is : object.life ≡ o.life
  pub type_is : object.type ≡ t
  pub made : IsMade types object.class t object.values
  pub count_is : object.count ≡ count_in (between o.unit) + 1
  pub some : (l : Living) → between o.unit ≡ Some l → 0 < l.count
  pub same : (l : Living) → between o.unit ≡ Some l → object ≡ record l { count = l.count + 1 }
  pub single : made.declared.counted ≡ false → object.count ≡ 1
  pub now_is : lives' ≡ with_life o.unit (Some object) between

-- what a slot held is taken, if it held anything
abbrev pub TakesOut :
    (types : List TypeDeclaration) (t : ℕ) (between lives' : Lives) → Option ObjId → Type 0
TakesOut types t between lives' None = lives' ≡ between
TakesOut types t between lives' (Some o) = TakenOut types t between lives' o

-- what is put is held by a name, as an object of type t
abbrev pub IsToPut : (t : ℕ) → Lives → Option ObjId → Type 0
IsToPut t lives None = Unit {0}
IsToPut t lives (Some o) = (c : ℕ) × (a : LivesAs lives c o.unit o.life) × (a.type ≡ t)

-- An exchange of what a slot of type t holds: its entry, which names the slot, what it puts there, what it found and the exchange that had put that.
pub record Exchanged (l : ℕ) (types : List TypeDeclaration) (t : ℕ) (name : List ℕ)
    (put : Option ObjId) (log log' : Option Log) (lives lives' : Lives) (was : Option ObjId) :
    Type 0 where
  pub by : Option Tag
  pub records : Records l (entry.Xchg name put was by ∷ []) log log'
  pub takes : TakesOut types t (without put lives) lives' was

-- whether what is held is a reference to an object of unit u; a non-owning one isn't counted
abbrev pub refers : (u : ℕ) → Held → Bool
refers u Nothing = false
refers u Null = false
refers u (Object t v n) = eqb v u
refers u (Soft t graph v n) = false

-- So many names hold references to unit u: where they let go of them one after the other, none is left.
abbrev pub Referring : (u count : ℕ) → Names → Type 0
Referring u zero names = (x : List ℕ) → refers u (names x) ≡ false
Referring u (suc count) names =
    (x : List ℕ) × (refers u (names x) ≡ true) × Referring u count (with_name x Nothing names)

-- A name holds unit u in its life n: it lives so, as an object of that type and of its class, with a value for each field of the type, of
-- which there are at most eight. Where the type carries no count of references, this is the only one.
pub record IsHeld (types : List TypeDeclaration) (lives : Lives) (t : TypeId) (u n : ℕ) :
    Type 0 where
  pub class : ℕ
  pub declared : TypeDeclaration
  pub of_class : OfClass types t.0 class declared
  pub alive : LivesAs lives class u n
  pub typed : alive.type ≡ t.0
  pub single : declared.counted ≡ false → alive.count ≡ 1
  pub fields : length alive.values ≡ length declared.fields
  pub few : length declared.fields ≤ 8

-- To an object there are so many references beside those of others: it lives by them alone where others have none.
abbrev pub Adds : (own : ℕ) → (others all : Option Living) → Type 0
Adds zero others all = all ≡ others
Adds (suc k) None all = (l : Living) × (all ≡ Some l) × (l.count ≡ suc k)
Adds (suc k) (Some l) all = (0 < l.count) × (all ≡ Some (record l { count = l.count + suc k }))

-- .. as many as there are names that hold unit u
pub record IsReached (u : ℕ) (others all : Option Living) (names : Names) : Type 0 where
  pub own : ℕ
  pub held : Referring u own names
  pub adds : Adds own others all

-- The names of a script, beside which other names have references to the objects of `base`: each name that holds an object holds one that lives,
-- and to each object names hold the references of the others and those of the script. What slots hold isn't counted.
pub record Holds (types : List TypeDeclaration) (base lives : Lives) (names : Names) : Type 0 where
  pub living :
      (x : List ℕ) (t : TypeId) (u n : ℕ) → names x ≡ Object t u n → IsHeld types lives t u n
  pub reached : (u : ℕ) → IsReached u (base u) (lives u) names

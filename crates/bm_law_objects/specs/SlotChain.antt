-- The exchanges of a slot form one chain: each takes out what the one before put in. (bpf_kptr_xchg of kernel/bpf/helpers.c is one xchg,
-- so no exchange is lost and none takes what another one took. That an exchange names the one before is this project's own.)
use Rattle.std.specs.Prelude.{◌≡◌, ℕ, ◌+◌, Bool, true, false, ◌&&◌, eqb, if◌then◌else◌, Option, Some, None, List, [], ◌∷◌, get_or}
use Rattle.std.specs.Str.{bytes_eq}
use Rattle.bm_journal.specs.declared.ids.ObjId.{ObjId}
use Rattle.bm_journal.specs.declared.ids.Tag.{Tag}
use Rattle.bm_journal.specs.declared.entry.Entry.{Entry}
use Rattle.bm_journal.specs.declared.entry.Entry.TheVariants as entry
use Rattle.bm_law.specs.Lists.{Log}
use Rattle.bm_law_order.specs.Orders.{Order}
use Rattle.bm_law_objects.specs.Objects.{calls_after, tag_after}
use Rattle.bm_law_objects.specs.Gathered.{gathered, gathered_by, gathered_over}

-- A call that exchanges what a slot holds: what it puts in, what was there, and the exchange that had put that, none at the start.
pub record Exchange : Type 0 where
  pub tag : Tag
  pub put : Option ObjId
  pub was : Option ObjId
  pub by : Option Tag

-- the exchange of this slot that an entry of processor p is, if it is one, where n calls of its log stand before it
abbrev pub exchange_of : (slot : List ℕ) → (p n : ℕ) → ℕ × Entry → List Exchange
exchange_of slot p n (l, entry.Xchg name put was by) =
    if bytes_eq name slot then record { tag = tag_after p n; put = put; was = was; by = by } ∷ []
    else []
exchange_of slot p n (l, _) = []

-- those of a log, of all logs, and of an order whose processors have made so many calls before
abbrev pub exchanges : (slot : List ℕ) → (p : ℕ) → Log → List Exchange
exchanges slot p log = gathered calls_after (exchange_of slot p) 0 log

abbrev pub all_exchanges : (slot : List ℕ) → List Log → List Exchange
all_exchanges slot logs = gathered_by calls_after (exchange_of slot) 0 logs

abbrev pub exchanges_over : (slot : List ℕ) → Order → (ℕ → ℕ) → List Exchange
exchanges_over slot o calls = gathered_over calls_after (exchange_of slot) o calls

-- The first of these finds this in the slot, put by that exchange, and each next one what the one before put.
abbrev pub Follow : Option ObjId → Option Tag → List Exchange → Type 0
Follow held by [] = Unit {0}
Follow held by (x ∷ xs) = ((x.was ≡ held) × (x.by ≡ by)) × Follow x.put (Some x.tag) xs

abbrev pub of_processor : ℕ → List Exchange → List Exchange
of_processor p [] = []
of_processor p (x ∷ xs) = if eqb x.tag.processor p then x ∷ of_processor p xs else of_processor p xs

-- There is one chain of the slot's exchanges: it begins with the empty slot, and has those of each log in the log's order.
pub record SlotChain (slot : List ℕ) (logs : List Log) : Type 0 where
  pub chain : List Exchange
  pub follow : Follow None None chain
  pub parts : (p : ℕ) → of_processor p chain ≡ exchanges slot p (get_or logs p [])

-- ---- which exchange names which

abbrev pub same_tag : Tag → Tag → Bool
same_tag a b = eqb a.processor b.processor && eqb a.serial b.serial

abbrev pub names_tag : Option Tag → Option Tag → Bool
names_tag None None = true
names_tag None (Some b) = false
names_tag (Some a) None = false
names_tag (Some a) (Some b) = same_tag a b

-- how many of these name this exchange as the one before them, or the start
abbrev pub times_named : Option Tag → List Exchange → ℕ
times_named by [] = 0
times_named by (x ∷ xs) = if names_tag by x.by then times_named by xs + 1 else times_named by xs

-- how many of these are the exchange with this tag
abbrev pub times_made : Tag → List Exchange → ℕ
times_made tag [] = 0
times_made tag (x ∷ xs) = if same_tag tag x.tag then times_made tag xs + 1 else times_made tag xs

-- each of these but the last one is so
abbrev pub EachButLast : (Exchange → Type 0) → List Exchange → Type 0
EachButLast P [] = Unit {0}
EachButLast P (x ∷ []) = Unit {0}
EachButLast P (x ∷ y ∷ xs) = P x × EachButLast P (y ∷ xs)

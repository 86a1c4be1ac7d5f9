-- What yields, and what doesn't.
use Rattle.std.proofs.Common.{ℕ, Bool, true, false, if◌then◌else◌, nat_lt, List, [], ◌∷◌, ◌++◌, Option, Some, None, sym, subst, append_assoc, inl, inr}
use Rattle.bm_class.specs.Sizes.{size_of_class}
use Rattle.bm_class.specs.Watermarks.{high_of_size, low_of_size}
use Rattle.bm_journal.specs.declared.entry.Entry.{Entry}
use Rattle.bm_journal.specs.declared.entry.Entry.TheVariants as entry
use Rattle.bm_journal.specs.declared.ids.ObjId.{ObjId}
use Rattle.bm_lang.specs.declared.scenario.TypeDeclaration.{TypeDeclaration}
use Rattle.bm_law.specs.Lists.{Log}
use Rattle.bm_law.specs.Phrases.{DelayPhrase, FreePhrase, given, overtaken, overtaken_delayed, raise_below, raise_unless}
use Rattle.bm_law.specs.Spans.{Records}
use Rattle.bm_law.specs.State.{State}
use Rattle.bm_law.proofs.Spans.{Records-join, Records-none}
use Rattle.bm_law_scenario.specs.Calls.{Allocates}
use Rattle.bm_law_scenario.proofs.Freed.{either-free}
use Rattle.bm_exec.specs.Around.{Around, Entered, HasLeft}
use Rattle.bm_exec.specs.Living.{Acquired, Created, Disposed, Exchanged, GivenUp, HasRead, LetGo, Lives, reply_of}
use Rattle.bm_graph.specs.Calls.{first_call}
use Rattle.bm_graph.specs.Entries.{call_entry}
use Rattle.bm_graph.specs.Ways.{pop_call, push_call, refused_push}
use Rattle.bm_graph.specs.declared.ways.End.{End}
use Rattle.bm_graph.specs.declared.ways.End.TheVariants as end_is
use Rattle.bm_graph.specs.declared.ways.Way.{Way}
use Rattle.bm_graph.specs.declared.ways.Way.TheVariants as way_is
use Rattle.bm_exec.specs.Yields.{AllInTurn, IsInTurn, Unyielding, YieldsLast}

-- ---- one after the other

pub none-append : (v w : List Entry) → AllInTurn v → AllInTurn w → AllInTurn (v ++ w)
none-append [] w h k = k
none-append (e ∷ v) w h k = (h.0, none-append v w h.1 k)

pub unyielding-none : (l : ℕ) (log : Option Log) → Unyielding l log log
unyielding-none l log = record { own = []; none = tt; records = Records-none l log }

pub unyielding-join : (l : ℕ) (a b c : Option Log) → Unyielding l a b → Unyielding l b c → Unyielding l a c
unyielding-join l a b c x y = record { own = x.own ++ y.own; none = none-append x.own y.own x.none y.none; records = Records-join l x.own y.own a b c x.records y.records }

pub yields-join : (l : ℕ) (a b c : Option Log) → Unyielding l a b → YieldsLast l b c → YieldsLast l a c
yields-join l a b c x y =
    let last : List Entry = entry.Yield ∷ [] in
    record {
      own = x.own ++ y.own;
      none = none-append x.own y.own x.none y.none;
      records = subst (λ (o : List Entry). Records l o a c) (sym (append_assoc x.own y.own last)) (Records-join l x.own (y.own ++ last) a b c x.records y.records);
    }

pub yields-one : (l : ℕ) (a b : Option Log) → Records l (entry.Yield ∷ []) a b → YieldsLast l a b
yields-one l a b r = record { own = []; none = tt; records = r }

-- ---- calls

raise-none : (b : Bool) (c : ℕ) → AllInTurn (if b then entry.Raise c ∷ [] else [])
raise-none true c = (tt, tt)
raise-none false c = tt

unless-none : (b : Bool) (c : ℕ) → AllInTurn (raise_unless b c)
unless-none true c = tt
unless-none false c = (tt, tt)

given-none : (u life : ℕ) (seal : Option (ℕ × ℕ)) → AllInTurn (given u life seal ∷ [])
given-none u life None = (tt, tt)
given-none u life (Some x) = (tt, tt)

overtaken-none : (c : ℕ) (ks : List ℕ) → AllInTurn (overtaken c ks)
overtaken-none c [] = tt
overtaken-none c (k ∷ ks) = (tt, (tt, overtaken-none c ks))

delayed-none : (c : ℕ) (ks : List ℕ) → AllInTurn (overtaken_delayed c ks)
delayed-none c [] = tt
delayed-none c (k ∷ ks) = (tt, (tt, delayed-none c ks))

alloc-none : (c : ℕ) (own : List Entry) (reply : Option (ℕ × ℕ)) → Allocates c own reply → AllInTurn own
alloc-none c own (Some o) x = subst AllInTurn (sym x.3) (tt, (tt, (tt, (tt, none-append (raise_below c x.1) (given o.0 o.1 x.0 ∷ []) (raise-none (nat_lt x.1 (low_of_size (size_of_class c))) c) (given-none o.0 o.1 x.0)))))
alloc-none c own None (inl x) = subst AllInTurn (sym x.1) (tt, (tt, (tt, none-append (raise_below c 0) (entry.Empty ∷ []) (raise-none (nat_lt 0 (low_of_size (size_of_class c))) c) (tt, tt))))
alloc-none c own None (inr x) = subst AllInTurn (sym x.3) (tt, (tt, none-append (raise_below c 0) (entry.Busy x.0 ∷ []) (raise-none (nat_lt 0 (low_of_size (size_of_class c))) c) (tt, tt)))

free-none : (c u home : ℕ) (own : List Entry) → FreePhrase c u home own → AllInTurn own
free-none c u home own (inl x) = subst AllInTurn (sym x.2) (tt, (tt, (tt, (tt, (tt, raise-none (nat_lt (high_of_size (size_of_class c)) x.0) c)))))
free-none c u home own (inr x) = subst AllInTurn (sym x.5) (tt, (tt, none-append (overtaken c x.1) (entry.Look c x.2 ∷ entry.Put c u ∷ entry.Leave c x.3 ∷ []) (overtaken-none c x.1) (tt, (tt, (tt, tt)))))

delay-none : (c u home : ℕ) (batch : Bool) (own : List Entry) → DelayPhrase c u home batch own → AllInTurn own
delay-none c u home batch own (inl x) = subst AllInTurn (sym x.1) (tt, (tt, (tt, (tt, unless-none batch c))))
delay-none c u home batch own (inr x) =
    subst AllInTurn (sym x.5) (tt, (tt, none-append (overtaken_delayed c x.1) (entry.LookDelayed c x.2 ∷ entry.PutDelayed c u ∷ entry.Leave c x.3 ∷ raise_unless batch c) (delayed-none c x.1) (tt, (tt, (tt, unless-none batch c)))))

pub created-unyielding : (l c t : ℕ) (name values : List ℕ) (a b : Option Log) (lives lives' : Lives) (reply : Option ObjId) → Created l c t name values a b lives lives' reply → Unyielding l a b
created-unyielding l c t name values a b lives lives' reply made = record { own = entry.New name values ∷ made.own; none = (tt, alloc-none c made.own (reply_of reply) made.allocates); records = made.records }

disposed-unyielding : (l : ℕ) (counted : Bool) (c : ℕ) (o : ObjId) (s : State ℕ) (a b : Option Log) (lives lives' : Lives) → Disposed l counted c o s a b lives lives' → Unyielding l a b
disposed-unyielding l counted c o s a b lives lives' gone = record {
  own = entry.Drop o.unit o.life ∷ entry.Last ∷ gone.own;
  none = (tt, (tt, either-free AllInTurn counted c o.unit gone.home _ gone.own (free-none c o.unit gone.home gone.own) (delay-none c o.unit gone.home _ gone.own) gone.frees));
  records = gone.records;
}

given-up-unyielding : (l : ℕ) (o : ObjId) (a b : Option Log) (lives lives' : Lives) → GivenUp l o a b lives lives' → Unyielding l a b
given-up-unyielding l o a b lives lives' gone = record { own = _; none = (tt, (tt, tt)); records = gone.records }

pub let-go-unyielding : (l : ℕ) (counted : Bool) (c : ℕ) (o : ObjId) (s : State ℕ) (a b : Option Log) (lives lives' : Lives) → LetGo l counted c o s a b lives lives' → Unyielding l a b
let-go-unyielding l counted c o s a b lives lives' (inl gone) = disposed-unyielding l counted c o s a b lives lives' gone
let-go-unyielding l counted c o s a b lives lives' (inr gone) = given-up-unyielding l o a b lives lives' gone.1

pub acquired-unyielding : (l : ℕ) (o : ObjId) (a b : Option Log) (lives lives' : Lives) → Acquired l o a b lives lives' → Unyielding l a b
acquired-unyielding l o a b lives lives' got = record { own = _; none = (tt, tt); records = got.records }

pub read-unyielding : (l : ℕ) (o : ObjId) (place : ℕ) (a b : Option Log) (lives : Lives) → HasRead l o place a b lives → Unyielding l a b
read-unyielding l o place a b lives got = record { own = _; none = (tt, tt); records = got.records }

pub exchanged-unyielding : (l : ℕ) (types : List TypeDeclaration) (t : ℕ) (name : List ℕ) (put : Option ObjId) (a b : Option Log) (lives lives' : Lives) (was : Option ObjId) → Exchanged l types t name put a b lives lives' was → Unyielding l a b
exchanged-unyielding l types t name put a b lives lives' was got = record { own = _; none = (tt, tt); records = got.records }

pub entered-unyielding : (l : ℕ) (z z' : Around) (a b : Option Log) → Entered l z z' a b → Unyielding l a b
entered-unyielding l z z' a b h = record { own = _; none = (tt, tt); records = h.records }

pub left-unyielding : (l : ℕ) (z z' : Around) (a b : Option Log) → HasLeft l z z' a b → Unyielding l a b
left-unyielding l z z' a b h = record { own = _; none = (tt, tt); records = h.records }

-- ---- calls on lists and trees

pub one-unyielding : (l : ℕ) (e : Entry) (a b : Option Log) → IsInTurn e → Records l (e ∷ []) a b → Unyielding l a b
one-unyielding l e a b quiet r = record { own = e ∷ []; none = (quiet, tt); records = r }

pub push-quiet : (way : Way) (o : ObjId) (name : List ℕ) (position : ℕ) (owner : List ℕ) → IsInTurn (call_entry name position owner (push_call way o 0))
push-quiet way_is.Front o name position owner = tt
push-quiet way_is.Back o name position owner = tt
push-quiet way_is.Ordered o name position owner = tt

pub refused-quiet : (way : Way) (o : ObjId) (name : List ℕ) (position : ℕ) (owner : List ℕ) (place : ℕ) → IsInTurn (call_entry name position owner (refused_push way o 0 place))
refused-quiet way_is.Front o name position owner place = tt
refused-quiet way_is.Back o name position owner place = tt
refused-quiet way_is.Ordered o name position owner place = tt

pub pop-quiet : (end : End) (was : Option ObjId) (name : List ℕ) (position : ℕ) (owner : List ℕ) → IsInTurn (call_entry name position owner (pop_call end was))
pop-quiet end_is.Front None name position owner = tt
pop-quiet end_is.Front (Some o) name position owner = tt
pop-quiet end_is.Back None name position owner = tt
pop-quiet end_is.Back (Some o) name position owner = tt

pub first-quiet : (item : Option ObjId) (name : List ℕ) (position : ℕ) (owner : List ℕ) → IsInTurn (call_entry name position owner (first_call item))
first-quiet None name position owner = tt
first-quiet (Some o) name position owner = tt

-- What the closing adds first: processor 0 records its begin, and then empties the maps. No entry of it is of deferred work, ends a
-- period, sweeps, sends or gives a unit.
use Rattle.std.proofs.Common.{◌≡◌, ℕ, zero, suc, Bool, true, false, List, [], ◌∷◌, ◌++◌, Option, Some, None, if◌then◌else◌, inl, inr, nat_lt, refl, sym, ◌∙◌, ap, subst}
use Rattle.std.specs.List.{list_any}
use Rattle.bm_class.specs.Sizes.{size_of_class}
use Rattle.bm_class.specs.Watermarks.{high_of_size}
use Rattle.bm_journal.specs.declared.ids.Domain.{Domain}
use Rattle.bm_journal.specs.declared.ids.ObjId.{ObjId}
use Rattle.bm_journal.specs.declared.ids.Tag.{Tag}
use Rattle.bm_journal.specs.declared.entry.Entry.{Entry}
use Rattle.bm_journal.specs.declared.entry.Entry.TheVariants as entry
use Rattle.bm_lang.specs.declared.scenario.MapDeclaration.{MapDeclaration}
use Rattle.bm_lang.specs.declared.scenario.MapKind.{MapKind}
use Rattle.bm_lang.specs.declared.scenario.MapKind.TheVariants as kind
use Rattle.bm_lang.specs.declared.scenario.Parts.{Parts}
use Rattle.bm_lang.specs.declared.scenario.TypeId.{TypeId}
use Rattle.bm_law.specs.Alone.{AllAt, at_level}
use Rattle.bm_law.specs.Begun.{begun_after}
use Rattle.bm_law.specs.Lists.{Log, after}
use Rattle.bm_law.specs.Phrases.{DelayPhrase, FreePhrase, overtaken, overtaken_delayed, raise_unless}
use Rattle.bm_law.specs.Spans.{own_entries}
use Rattle.bm_law.specs.State.{State}
use Rattle.bm_law.proofs.Alone.{at-own}
use Rattle.bm_law_order.specs.Calls.{lock_after, lock_over}
use Rattle.bm_law_order.specs.Orders.{AllFit, by}
use Rattle.bm_law_order.specs.Seals.{GivesNo, GivesNone, Waiting, waiting_after}
use Rattle.bm_law_seals.specs.Answered.{PutsDelayed}
use Rattle.bm_law_seals.specs.Batches.{BatchFits}
use Rattle.bm_law_work.specs.Parts.{Stand, Then}
use Rattle.bm_law_work.proofs.Each.{AllOf, of-append, of-map}
use Rattle.bm_law_scenario.specs.Calls.{RunsDrop, RunsGivingUp, RunsStill, any_batch, batch_in}
use Rattle.bm_law_scenario.specs.Closing.{Empties, EmptiesList, EmptiesMap, EmptiesMaps, EmptiesSlot, EmptiesTree, GivesBack, close_of, in_progress}
use Rattle.bm_law_scenario.specs.Declared.{Declared, declared_in}
use Rattle.bm_law_scenario.specs.Held.{Names, Object, no_names, with_name}
use Rattle.bm_law_scenario.specs.Opened.{uses_class}
use Rattle.bm_law_scenario.proofs.Freed.{either-free, loosened}
use Rattle.bm_law_scenario.proofs.PartLaws.{Has, Joins, Laws, has-laws, has-say, has-stand}
use Rattle.bm_law_scenario.proofs.RunsAll.{Closed}
use Rattle.bm_law_scenario.proofs.Spares.{AllSpare, spared as rows-spared}
use Rattle.bm_law_logs.proofs.Spared.{spared}
use Rattle.bm_run.specs.Between.{GivesFirst}
use Rattle.bm_run.specs.LeftAlone.{AllUnswept, IsUnswept}
use Rattle.bm_run.proofs.EmptiedSlots.{AllPutNone, PutsNone}
use Rattle.bm_run.proofs.ClosersBoxes.{NoneSends, NotSent}
use Rattle.bm_run.proofs.OwnParcels.{IsUnsent}
use Rattle.bm_run.proofs.PiecesKnown.{IsEarly}

-- ---- laws of what it adds

-- A property of stretches that joins, and that each way to give up a reference has, each exchange with null, each pop of a list from the front, each
-- look at a tree and each removal, and the begin of the closing.
pub record GivesUp (d : Declared) (P : List Entry → Type 0) : Type 0 where
  pub joins : Joins P
  pub still : (x : List ℕ) (names : Names) (part : List Entry) (after : Names) → RunsStill d.types x names part after → P part
  pub dropped : (x : List ℕ) (names : Names) (part : List Entry) (after : Names) → RunsDrop d.types x any_batch names part after → P part
  pub exchanged : (slot : List ℕ) (was : Option ObjId) (by : Option Tag) → P (entry.Xchg slot None was by ∷ [])
  pub popped : (list : List ℕ) (item : Option ObjId) (position : ℕ) → P (entry.PopFront list item position ∷ [])
  pub looked : (tree : List ℕ) (item : Option ObjId) (position : ℕ) → P (entry.First tree item position ∷ [])
  pub removed : (tree : List ℕ) (u life position : ℕ) → P (entry.Remove tree u life position ∷ [])
  pub closes : P (entry.Close ∷ [])

module _ (d : Declared) (P : List Entry → Type 0) (k : GivesUp d P) where
  laws : Laws (Has P)
  laws = has-laws P k.joins

  given-up : (x : List ℕ) (s : State ℕ) (names : Names) (own : List Entry) (after : Names) → RunsGivingUp d.types x (batch_in s) names own after → P own
  given-up x s names own after (inl r) = k.still x names own after r
  given-up x s names own after (inr r) = k.dropped x names own after (loosened d.types x (batch_in s) names after own r)

  back-has : (t : TypeId) (was : Option ObjId) → Has P (GivesBack d.types t was)
  back-has t None s part h = laws.nothing s part h
  back-has t (Some o) s part h =
      let names = with_name h.0 (Object t o.unit o.life) no_names in
      has-say P (λ own. RunsGivingUp d.types h.0 (batch_in s) names own h.1) (λ own r. given-up h.0 s names own h.1 r) s part h.2

  slot-has : (m : MapDeclaration) → Has P (EmptiesSlot d.types m)
  slot-has m s part h =
      let exchange : List Entry = entry.Xchg m.name None h.0 h.1 ∷ [] in
      laws.both (Stand 0 exchange) (GivesBack d.types m.type_id h.0) (has-stand P exchange (k.exchanged m.name h.0 h.1)) (back-has m.type_id h.0) s part h.2

  list-has : (m : MapDeclaration) (n : ℕ) → Has P (EmptiesList d.types m n)
  list-has m zero s part h = has-stand P (entry.PopFront m.name None h.0 ∷ []) (k.popped m.name None h.0) s part h.1
  list-has m (suc n) s part h =
      let pop : List Entry = entry.PopFront m.name (Some h.0) h.1 ∷ [] in
      laws.both (Stand 0 pop) (Then (GivesBack d.types m.type_id (Some h.0)) (EmptiesList d.types m n)) (has-stand P pop (k.popped m.name (Some h.0) h.1))
      (laws.both (GivesBack d.types m.type_id (Some h.0)) (EmptiesList d.types m n) (back-has m.type_id (Some h.0)) (list-has m n)) s part h.2

  tree-has : (m : MapDeclaration) (n : ℕ) → Has P (EmptiesTree d.types m n)
  tree-has m zero s part h = has-stand P (entry.First m.name None h.0 ∷ []) (k.looked m.name None h.0) s part h.1
  tree-has m (suc n) s part h =
      let first : List Entry = entry.First m.name (Some h.0) h.1 ∷ [] in
      let remove : List Entry = entry.Remove m.name h.0.unit h.0.life h.2 ∷ [] in
      laws.both (Stand 0 (first ++ remove)) (Then (GivesBack d.types m.type_id (Some h.0)) (EmptiesTree d.types m n))
      (has-stand P (first ++ remove) (k.joins.join first remove (k.looked m.name (Some h.0) h.1) (k.removed m.name h.0.unit h.0.life h.2)))
      (laws.both (GivesBack d.types m.type_id (Some h.0)) (EmptiesTree d.types m n) (back-has m.type_id (Some h.0)) (tree-has m n)) s part h.3

  map-has : (kind : MapKind) (m : MapDeclaration) → Has P (EmptiesMap d.types kind m)
  map-has kind.Slot m = slot-has m
  map-has kind.List m = λ s part h. list-has m h.0 s part h.1
  map-has kind.Tree m = λ s part h. tree-has m h.0 s part h.1

  maps-have : (ms : List MapDeclaration) → Has P (EmptiesMaps d.types ms)
  maps-have [] = laws.nothing
  maps-have (m ∷ ms) = laws.both (EmptiesMap d.types m.kind m) (EmptiesMaps d.types ms) (map-has m.kind m) (maps-have ms)

  empties-have : (p : ℕ) → Has P (Empties p d)
  empties-have zero = maps-have d.maps
  empties-have (suc p) = laws.nothing

  close-has : (p : ℕ) → P (close_of p)
  close-has zero = k.closes
  close-has (suc p) = k.joins.none

  -- what processor p adds has it
  pub given-has : (p : ℕ) → Has P (GivesFirst d p)
  given-has p = laws.both (Stand 0 (close_of p)) (Empties p d) (has-stand P (close_of p) (close-has p)) (empties-have p)

-- ---- its entries

-- An entry of a free, behind its call.
abbrev pub IsListing : Entry → Type 0
IsListing (entry.Enter c a) = Unit {0}
IsListing (entry.Push c u) = Unit {0}
IsListing (entry.Count c k) = Unit {0}
IsListing (entry.Look c k) = Unit {0}
IsListing (entry.Put c u) = Unit {0}
IsListing (entry.Lost c) = Unit {0}
IsListing (entry.Delayed c u) = Unit {0}
IsListing (entry.LookDelayed c k) = Unit {0}
IsListing (entry.PutDelayed c u) = Unit {0}
IsListing (entry.LostDelayed c) = Unit {0}
IsListing (entry.Leave c a) = Unit {0}
IsListing (entry.Raise c) = Unit {0}
IsListing _ = ⊥

-- An entry with which the closing gives up what the maps hold: its begin, an exchange that
-- puts nothing, a drop with its reply, or one of a free.
abbrev pub IsGivingUp : Entry → Type 0
IsGivingUp entry.Close = Unit {0}
IsGivingUp (entry.Xchg name put was by) = put ≡ None
IsGivingUp (entry.PopFront name item position) = Unit {0}
IsGivingUp (entry.First name item position) = Unit {0}
IsGivingUp (entry.Remove name u life position) = Unit {0}
IsGivingUp (entry.Drop u life) = Unit {0}
IsGivingUp (entry.Still k) = Unit {0}
IsGivingUp entry.Last = Unit {0}
IsGivingUp (entry.Free u home) = Unit {0}
IsGivingUp (entry.Delay u home) = Unit {0}
IsGivingUp e = IsListing e

listing-gives : (e : Entry) → IsListing e → IsGivingUp e
listing-gives entry.Close h = tt
listing-gives (entry.Xchg name put was by) h = absurd h
listing-gives (entry.PopFront name item position) h = tt
listing-gives (entry.First name item position) h = tt
listing-gives (entry.Remove name u life position) h = tt
listing-gives (entry.Drop u life) h = tt
listing-gives (entry.Still k) h = tt
listing-gives entry.Last h = tt
listing-gives (entry.Free u home) h = tt
listing-gives (entry.Delay u home) h = tt
listing-gives _ h = h

raise-lists : (c : ℕ) (b : Bool) → AllOf IsListing (if b then entry.Raise c ∷ [] else [])
raise-lists c true = (tt, tt)
raise-lists c false = tt

unless-lists : (c : ℕ) (b : Bool) → AllOf IsListing (raise_unless b c)
unless-lists c true = tt
unless-lists c false = (tt, tt)

overtaken-lists : (c : ℕ) (ks : List ℕ) → AllOf IsListing (overtaken c ks)
overtaken-lists c [] = tt
overtaken-lists c (k ∷ ks) = (tt, (tt, overtaken-lists c ks))

delayed-lists : (c : ℕ) (ks : List ℕ) → AllOf IsListing (overtaken_delayed c ks)
delayed-lists c [] = tt
delayed-lists c (k ∷ ks) = (tt, (tt, delayed-lists c ks))

-- a plain free, by what stands behind its call
pub record IsFreed (u home : ℕ) (own : List Entry) : Type 0 where
  pub rest : List Entry
  pub own_is : own ≡ entry.Free u home ∷ rest
  pub lists : AllOf IsListing rest

pub freed : (c u home : ℕ) (own : List Entry) → FreePhrase c u home own → IsFreed u home own
freed c u home own (inl x) = record {
  rest = _;
  own_is = x.2;
  lists = (tt, (tt, (tt, (tt, raise-lists c (nat_lt (high_of_size (size_of_class c)) x.0)))));
}
freed c u home own (inr x) = record {
  rest = _;
  own_is = x.5;
  lists = (tt, of-append IsListing (overtaken c x.1) (entry.Look c x.2 ∷ entry.Put c u ∷ entry.Leave c x.3 ∷ []) (overtaken-lists c x.1) (tt, (tt, (tt, tt))));
}

-- a delayed one, which puts its unit where it waits, whatever stands behind it
pub record IsDelayed (u home : ℕ) (own : List Entry) : Type 0 where
  pub rest : List Entry
  pub own_is : own ≡ entry.Delay u home ∷ rest
  pub lists : AllOf IsListing rest
  pub puts : (more : List Entry) → PutsDelayed u (rest ++ more)

overtaken-puts : (c u : ℕ) (ks : List ℕ) (rest more : List Entry) → PutsDelayed u (rest ++ more) → PutsDelayed u ((overtaken_delayed c ks ++ rest) ++ more)
overtaken-puts c u [] rest more h = h
overtaken-puts c u (k ∷ ks) rest more h = overtaken-puts c u ks rest more h

pub delayed : (c u home : ℕ) (batch : Bool) (own : List Entry) → DelayPhrase c u home batch own → IsDelayed u home own
delayed c u home batch own (inl x) = record { rest = _; own_is = x.1; lists = (tt, (tt, (tt, unless-lists c batch))); puts = λ more. refl }
delayed c u home batch own (inr x) =
    let last : List Entry = entry.LookDelayed c x.2 ∷ entry.PutDelayed c u ∷ entry.Leave c x.3 ∷ raise_unless batch c in
    record {
      rest = _;
      own_is = x.5;
      lists = (tt, of-append IsListing (overtaken_delayed c x.1) last (delayed-lists c x.1) (tt, (tt, (tt, unless-lists c batch))));
      puts = λ more. overtaken-puts c u x.1 last more refl;
    }

freed-gives : (c u home : ℕ) (own : List Entry) → FreePhrase c u home own → AllOf IsGivingUp own
freed-gives c u home own h = (let x = freed c u home own h in subst (AllOf IsGivingUp) (sym x.own_is) (tt, of-map IsListing IsGivingUp listing-gives x.rest x.lists))

delayed-gives : (c u home : ℕ) (batch : Bool) (own : List Entry) → DelayPhrase c u home batch own → AllOf IsGivingUp own
delayed-gives c u home batch own h = (let x = delayed c u home batch own h in subst (AllOf IsGivingUp) (sym x.own_is) (tt, of-map IsListing IsGivingUp listing-gives x.rest x.lists))

gives : (d : Declared) → GivesUp d (AllOf IsGivingUp)
gives d = record {
  joins = record { none = tt; join = of-append IsGivingUp };
  still = λ x names part after r. subst (AllOf IsGivingUp) (sym r.part_is) (tt, (tt, tt));
  dropped = λ x names part after r. subst (AllOf IsGivingUp) (sym r.part_is) (tt, (tt, either-free (AllOf IsGivingUp) r.declared.counted r.class r.unit r.home r.batch r.own (freed-gives r.class r.unit r.home r.own) (delayed-gives r.class r.unit r.home r.batch r.own) r.frees));
  exchanged = λ slot was by. (refl, tt);
  popped = λ list item position. (tt, tt);
  looked = λ tree item position. (tt, tt);
  removed = λ tree u life position. (tt, tt);
  closes = (tt, tt);
}

-- each of its entries is one
pub given-gives : (d : Declared) (p : ℕ) (t : State ℕ) (given : Log) → GivesFirst d p t given → AllOf IsGivingUp (own_entries 0 given)
given-gives d p t given h = given-has d (AllOf IsGivingUp) (gives d) p t given h

-- ---- what such entries aren't

gives-early : (e : Entry) → IsGivingUp e → IsEarly e
gives-early (entry.Finish period) h = absurd h
gives-early (entry.Sweep c us) h = absurd h
gives-early _ h = tt

gives-unsent : (e : Entry) → IsGivingUp e → IsUnsent e
gives-unsent (entry.Send c to us) h = absurd h
gives-unsent _ h = tt

gives-not-sent : (c : ℕ) (e : Entry) → IsGivingUp e → NotSent c e
gives-not-sent c (entry.Send k to us) h = absurd h
gives-not-sent c _ h = tt

gives-unswept : (e : Entry) → IsGivingUp e → IsUnswept e
gives-unswept (entry.Sweep c us) h = absurd h
gives-unswept _ h = tt

gives-no : (e : Entry) → IsGivingUp e → GivesNo e
gives-no (entry.Given u life) h = absurd h
gives-no (entry.GivenAfter u life x n) h = absurd h
gives-no _ h = tt

gives-progress : (d : Domain) (o : Option ℕ) (e : Entry) → IsGivingUp e → begun_after d o e ≡ o
gives-progress d o (entry.Begin k n) h = absurd h
gives-progress d o (entry.Finish period) h = absurd h
gives-progress d o _ h = refl

gives-batch : (p : ℕ) (e : Entry) (m : Waiting) → IsGivingUp e → BatchFits p 0 e m
gives-batch p (entry.Stamp c d x) m h = absurd h
gives-batch p (entry.Send c to us) m h = absurd h
gives-batch p _ m h = tt

gives-puts : (e : Entry) → IsGivingUp e → PutsNone e
gives-puts (entry.Xchg name put was by) h = h
gives-puts _ h = tt

gives-unlocked : (e : Entry) → IsGivingUp e → (held : Option (List ℕ)) → lock_after held e ≡ held
gives-unlocked (entry.Lock name) h held = absurd h
gives-unlocked (entry.Unlock name) h held = absurd h
gives-unlocked _ h held = refl

-- ---- logs of such entries of ordinary code

all-put-none : (es : List Entry) → AllOf IsGivingUp es → AllPutNone (at_level 0 es)
all-put-none [] h = tt
all-put-none (e ∷ es) h = (gives-puts e h.0, all-put-none es h.1)

all-send-none : (c : ℕ) (es : List Entry) → AllOf IsGivingUp es → NoneSends c (at_level 0 es)
all-send-none c [] h = tt
all-send-none c (e ∷ es) h = (gives-not-sent c e h.0, all-send-none c es h.1)

all-unswept : (es : List Entry) → AllOf IsGivingUp es → AllUnswept (at_level 0 es)
all-unswept [] h = tt
all-unswept (e ∷ es) h = (gives-unswept e h.0, all-unswept es h.1)

all-give-none : (es : List Entry) → AllOf IsGivingUp es → GivesNone (at_level 0 es)
all-give-none [] h = tt
all-give-none (e ∷ es) h = (gives-no e h.0, all-give-none es h.1)

all-progress : (d : Domain) (o : Option ℕ) (es : List Entry) → AllOf IsGivingUp es → in_progress d o (at_level 0 es) ≡ o
all-progress d o [] h = refl
all-progress d o (e ∷ es) h = ap (λ b. in_progress d b (at_level 0 es)) (gives-progress d o e h.0) ∙ all-progress d o es h.1

all-unlocked : (es : List Entry) → AllOf IsGivingUp es → (held : Option (List ℕ)) → lock_over held (at_level 0 es) ≡ held
all-unlocked [] h held = refl
all-unlocked (e ∷ es) h held = ap (λ k. lock_over k (at_level 0 es)) (gives-unlocked e h.0 held) ∙ all-unlocked es h.1 held

all-batches : (p : ℕ) (es : List Entry) (m : Waiting) → AllOf IsGivingUp es → AllFit waiting_after BatchFits (by p (at_level 0 es)) m
all-batches p [] m h = tt
all-batches p (e ∷ es) m h = (gives-batch p e m h.0, all-batches p es (waiting_after p 0 e m) h.1)

-- ---- what processor p adds

module _ (d : Declared) (p : ℕ) (t : State ℕ) (given : Log) (h : GivesFirst d p t given) where
  -- it ends no period and sweeps nothing
  pub given-early : AllOf IsEarly (own_entries 0 given)
  given-early = of-map IsGivingUp IsEarly gives-early (own_entries 0 given) (given-gives d p t given h)

  -- it sends nothing
  pub given-unsent : AllOf IsUnsent (own_entries 0 given)
  given-unsent = of-map IsGivingUp IsUnsent gives-unsent (own_entries 0 given) (given-gives d p t given h)

  module _ (at : AllAt 0 given) where
    all : AllOf IsGivingUp (own_entries 0 given)
    all = given-gives d p t given h

    is : given ≡ at_level 0 (own_entries 0 given)
    is = at-own 0 given at

    pub given-sends : (c : ℕ) → NoneSends c given
    given-sends c = subst (NoneSends c) (sym is) (all-send-none c (own_entries 0 given) all)

    -- no exchange puts anything
    pub given-puts : AllPutNone given
    given-puts = subst AllPutNone (sym is) (all-put-none (own_entries 0 given) all)

    pub given-unswept : AllUnswept given
    given-unswept = subst AllUnswept (sym is) (all-unswept (own_entries 0 given) all)

    -- it takes no lock, and gives none back
    pub given-unlocked : (held : Option (List ℕ)) → lock_over held given ≡ held
    given-unlocked held = ap (lock_over held) is ∙ all-unlocked (own_entries 0 given) all held

    -- it gives no unit
    pub given-none : GivesNone given
    given-none = subst GivesNone (sym is) (all-give-none (own_entries 0 given) all)

    -- no period begins or ends in it
    pub given-progress : (k : Domain) (o : Option ℕ) → in_progress k o given ≡ o
    given-progress k o = ap (in_progress k o) is ∙ all-progress k o (own_entries 0 given) all

    pub given-batches : (q : ℕ) (m : Waiting) → AllFit waiting_after BatchFits (by q given) m
    given-batches q m = subst (λ (z : Log). AllFit waiting_after BatchFits (by q z) m) (sym is) (all-batches q (own_entries 0 given) m all)

-- ---- lists of classes that no type uses

spares : (s : Parts) (c : ℕ) → list_any (uses_class c) s.types ≡ false → GivesUp (declared_in s) (AllSpare c)
spares s c e =
    let k : Closed (declared_in s) (AllSpare c) = (spared s c e).closed in
    record {
      joins = record { none = k.none; join = k.join };
      still = k.still;
      dropped = k.dropped;
      exchanged = λ slot was by. (λ l us z. refl, tt);
      popped = λ list item position. (λ l us z. refl, tt);
      looked = λ tree item position. (λ l us z. refl, tt);
      removed = λ tree u life position. (λ l us z. refl, tt);
      closes = (λ l us z. refl, tt);
    }

pub given-rows : (s : Parts) (p : ℕ) (t : State ℕ) (given : Log) → GivesFirst (declared_in s) p t given → AllAt 0 given → (c : ℕ) → list_any (uses_class c) s.types ≡ false → (after t given).rows c ≡ t.rows c
given-rows s p t given h at c e =
    let own : List Entry = own_entries 0 given in
    ap (λ (z : Log). (after t z).rows c) (at-own 0 given at) ∙ rows-spared c own t (given-has (declared_in s) (AllSpare c) (spares s c e) p t given h)

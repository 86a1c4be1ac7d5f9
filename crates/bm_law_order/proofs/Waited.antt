-- Where it is told what units wait for, each is given with what it has waited for.
use Rattle.std.specs.Prelude.{◌≢◌, Bool, eqb, if◌then◌else◌, map}
use Rattle.std.specs.List.{All}
use Rattle.std.proofs.Common.{◌≡◌, ◌∙◌, ℕ, true, false, List, [], ◌∷◌, ◌++◌, Option, None, Some, refl, sym, ap, subst, inl, inr, eq-eqb, ne_eqb}
use Rattle.std.proofs.lemmas.Bool.{cases_eq}
use Rattle.std.proofs.lemmas.List.Elements.{All-head, All-tail}
use mathlib.Core.Path.{fun_ext}
use Rattle.bm_journal.specs.declared.entry.Entry.{Entry}
use Rattle.bm_journal.specs.declared.entry.Entry.TheVariants as entry
use Rattle.bm_journal.specs.declared.past.PastCall.{PastCall}
use Rattle.bm_journal.specs.declared.past.PastCall.TheVariants as past
use Rattle.bm_law.specs.Lists.{Log}
use Rattle.bm_page.specs.declared.units.Seal.{Seal}
use Rattle.bm_graph.specs.Entries.{call_entry}
use Rattle.bm_law_order.specs.Act.{Act}
use Rattle.bm_law_order.specs.Act as act
use Rattle.bm_law_order.specs.Chunk.{Chunk, acts_of, entries_of, seal_told}
use Rattle.bm_law_order.specs.Chunk as chunk
use Rattle.bm_law_order.specs.Orders.{AllFit, Order, by, over}
use Rattle.bm_law_order.specs.Quiet.{is_quiet}
use Rattle.bm_law_order.specs.Seals.{Batch, GivesNo, GivesNone, HasPassed, IsSealed, Nothing, Over, ReleaseFits, ReleasesFit, SealFits, Wait, WaitLeads, Waiting, WaitsBy, all_ended, ended, nobody_waits, on_unit, wait_after, waited, waited_for, waiting_after, waiting_over, waits_after}
use Rattle.bm_law_order.specs.Story.{Story, at_level, deeds, lines, lines_of}
use Rattle.bm_law_order.proofs.Along.{by-append}

-- ---- entries

-- an entry leaves what units wait for as it is, and needs nothing of it
pub record Leaves (p l : ℕ) (e : Entry) (m : Waiting) : Type 0 where
  pub fits : SealFits p l e m
  pub stays : waits_after p e m ≡ m.waits

quiet-leaves : (p l : ℕ) (e : Entry) (m : Waiting) → is_quiet e ≡ true → Leaves p l e m
quiet-leaves p l (entry.Delay u home) m q = absurd (cc)
quiet-leaves p l (entry.Free u home) m q = absurd (cc)
quiet-leaves p l (entry.Send c to us) m q = absurd (cc)
quiet-leaves p l (entry.Given u life) m q = absurd (cc)
quiet-leaves p l (entry.GivenAfter u life x n) m q = absurd (cc)
quiet-leaves p l _ m q = record { fits = tt; stays = refl }

-- ---- parcels

ended-same : (x n : ℕ) (w : Wait) → w ≢ Batch → ended x n w ≡ w
ended-same x n Nothing h = refl
ended-same x n Batch h = absurd (h refl)
ended-same x n (Over y k) h = refl

-- units that don't wait for a batch wait for what they did
all-same : (x n : ℕ) (us : List ℕ) (w : ℕ → Wait) → All (λ u. w u ≢ Batch) us → all_ended x n us w ≡ w
all-same x n [] w h = refl
all-same x n (u ∷ us) w h =
    let rest : all_ended x n us w ≡ w = all-same x n us w (All-tail (λ v. w v ≢ Batch) u us h) in
    let here : ended x n (w u) ≡ w u = ended-same x n (w u) (All-head (λ v. w v ≢ Batch) u us h) in
    ap (λ z. on_unit u (ended x n (z u)) z) rest ∙ (ap (λ k. on_unit u k w) here ∙ fun_ext (λ v. put-same u v w))
  where
    put-same : (u v : ℕ) (w : ℕ → Wait) → on_unit u (w u) w v ≡ w v
    put-same u v w = elim (cases_eq v u) [
      | inl same ↦ rw (eq-eqb v u same) (ap w (sym same))
      | inr other ↦ rw (ne_eqb v u other) refl
    ]

drained : (c : ℕ) (stamp : Option ℕ) (passed : Option (ℕ × ℕ)) (us : List ℕ) (w : ℕ → Wait) → All (λ u. w u ≢ Batch) us → waited c stamp passed us w ≡ w
drained c None passed us w h = refl
drained c (Some x) None us w h = refl
drained c (Some x) (Some (d, n)) us w h = either (eqb c d)
  where
    either : (b : Bool) → (if b then all_ended x n us w else w) ≡ w
    either true = all-same x n us w h
    either false = refl

released : (c x n : ℕ) (us : List ℕ) (w : ℕ → Wait) (stamp : Option ℕ) (passed : Option (ℕ × ℕ)) → stamp ≡ Some x → passed ≡ Some (c, n) → waited c stamp passed us w ≡ all_ended x n us w
released c x n us w stamp passed e f = rw (e, f) (rw (eq-eqb c c refl) refl)

-- ---- chunks

-- behind entries that fit, units wait for this
pub record Goes (p : ℕ) (es : Log) (m : Waiting) (now : ℕ → Wait) : Type 0 where
  pub fit : AllFit waiting_after SealFits (by p es) m
  pub now_is : (waiting_over p es m).waits ≡ now

one-goes : (p l : ℕ) (e : Entry) (m : Waiting) (now : ℕ → Wait) → Leaves p l e m → now ≡ m.waits → Goes p ((l, e) ∷ []) m now
one-goes p l e m now s n = record { fit = (s.fits, tt); now_is = s.stays ∙ sym n }

sealed-fits : (p l u life type : ℕ) (values : List ℕ) (seal : Option Seal) (m : Waiting) (now : ℕ → Wait) → m.waits u ≡ waited_for seal → HasPassed seal → now ≡ on_unit u Nothing m.waits → Goes p (at_level l (entries_of (chunk.Making u life type values seal))) m now
sealed-fits p l u life type values None m now h q n = record { fit = (h, tt); now_is = sym n }
sealed-fits p l u life type values (Some s) m now h q n = record { fit = ((h, q), tt); now_is = sym n }

ending-goes : (p l u life home : ℕ) (delayed : Bool) (m : Waiting) (now : ℕ → Wait) → now ≡ on_unit u (wait_after delayed) m.waits → Goes p (at_level l (entries_of (chunk.Ending u life home delayed))) m now
ending-goes p l u life home true m now n = record { fit = (tt, (tt, (tt, tt))); now_is = sym n }
ending-goes p l u life home false m now n = record { fit = (tt, (tt, (tt, tt))); now_is = sym n }

-- an act that says nothing of units
kept : (a : Act) (w now : ℕ → Wait) → WaitLeads (a ∷ []) w now → ((mid : ℕ → Wait) → WaitsBy a w mid → mid ≡ w) → now ≡ w
kept a w now h k = h.1.1 ∙ k h.0 h.1.0

receives-keep : (c : ℕ) (parcels : List (List ℕ)) (w now : ℕ → Wait) → WaitLeads (map (act.Receives c) parcels ++ act.Receives c [] ∷ []) w now → now ≡ w
receives-keep c [] w now h = h.1.1 ∙ h.1.0
receives-keep c (us ∷ parcels) w now h = receives-keep c parcels h.0 now h.1.1 ∙ h.1.0

nothing-said : (p : ℕ) (m : Waiting) (now : ℕ → Wait) → now ≡ m.waits → Goes p [] m now
nothing-said p m now n = record { fit = tt; now_is = sym n }

-- a call on a list or tree says nothing of what units wait for
call-leaves : (p l : ℕ) (graph : List ℕ) (position : ℕ) (owner : List ℕ) (call : PastCall) (m : Waiting) → Leaves p l (call_entry graph position owner call) m
call-leaves p l graph position owner (past.PushFront id) m = record { fits = tt; stays = refl }
call-leaves p l graph position owner _ m = record { fits = tt; stays = refl }

-- behind the entries of a chunk units wait for what its acts say
chunk-goes : (p l : ℕ) (c : Chunk) (m : Waiting) (now : ℕ → Wait) → WaitLeads (acts_of c) m.waits now → ReleaseFits p l c m → Goes p (at_level l (entries_of c)) m now
chunk-goes p l (chunk.Quiet e q) m now h r = one-goes p l e m now (quiet-leaves p l e m q) h
chunk-goes p l (chunk.Looking d ws) m now h r = nothing-said p m now (h.1.1 ∙ h.1.0)
chunk-goes p l (chunk.Asking d x n) m now h r = nothing-said p m now (h.1.1 ∙ h.1.0)
chunk-goes p l (chunk.Missing d even n) m now h r = nothing-said p m now (h.1.1 ∙ h.1.0)
chunk-goes p l (chunk.FindingNone c) m now h r = nothing-said p m now (h.1.1 ∙ h.1.0)
chunk-goes p l (chunk.Beginning d n ws) m now h r = one-goes p l (entry.Begin d n) m now (record { fits = tt; stays = refl }) (h.1.1.1.1 ∙ (h.1.1.1.0 ∙ h.1.0))
chunk-goes p l (chunk.Finishing ws period) m now h r = one-goes p l (entry.Finish period) m now (record { fits = tt; stays = refl }) (h.1.1.1.1 ∙ (h.1.1.1.0 ∙ h.1.0))
chunk-goes p l (chunk.WholePeriod n ws period) m now h r = record { fit = (tt, (tt, tt)); now_is = sym (h.1.1.1.1.1.1 ∙ (h.1.1.1.1.1.0 ∙ (h.1.1.1.0 ∙ h.1.0))) }
chunk-goes p l (chunk.Returning c us) m now h r = absurd r
chunk-goes p l (chunk.Sending c to us) m now h r = absurd r
chunk-goes p l (chunk.Sweeping c us parcels) m now h r = one-goes p l _ m now (record { fits = tt; stays = refl }) (receives-keep c parcels m.waits now h)
chunk-goes p l (chunk.Draining c to us) m now h r = record { fit = (tt, tt); now_is = drained c ((m.lists p).rows c).deferred.plain (m.passed p) us m.waits h.1.0.0 ∙ sym (h.1.1 ∙ h.1.0.1) }
chunk-goes p l (chunk.Releasing c to us x n) m now h r = record { fit = (tt, tt); now_is = released c x n us m.waits ((m.lists p).rows c).deferred.plain (m.passed p) r.1.0 r.1.1 ∙ sym (h.1.1 ∙ h.1.0) }
chunk-goes p l (chunk.Making u life type values seal) m now h r = sealed-fits p l u life type values seal m now h.1.0.0 h.1.0.1.0 (h.1.1 ∙ h.1.0.1.1)
chunk-goes p l (chunk.Acquiring u life seen) m now h r = one-goes p l (entry.Acquire u life seen) m now (record { fits = tt; stays = refl }) (h.1.1 ∙ h.1.0)
chunk-goes p l (chunk.Finding u life place value) m now h r = one-goes p l (entry.Get u life place value) m now (record { fits = tt; stays = refl }) (h.1.1 ∙ h.1.0)
chunk-goes p l (chunk.Exchanging name put was from tag) m now h r = one-goes p l (entry.Xchg name put was from) m now (record { fits = tt; stays = refl }) (h.1.1 ∙ h.1.0)
chunk-goes p l (chunk.Locking graph) m now h r = one-goes p l (entry.Lock graph) m now (record { fits = tt; stays = refl }) h
chunk-goes p l (chunk.Unlocking graph) m now h r = one-goes p l (entry.Unlock graph) m now (record { fits = tt; stays = refl }) h
chunk-goes p l (chunk.Calling graph position call owner tag) m now h r = one-goes p l (call_entry graph position owner call) m now (call-leaves p l graph position owner call m) (h.1.1 ∙ h.1.0)
chunk-goes p l (chunk.GivingUp u life seen) m now h r = record { fit = (tt, (tt, tt)); now_is = sym (h.1.1 ∙ h.1.0) }
chunk-goes p l (chunk.Ending u life home delayed) m now h r = ending-goes p l u life home delayed m now (h.1.1 ∙ h.1.0)
chunk-goes p l (chunk.Entering d w) m now h r = one-goes p l (entry.In d w) m now (record { fits = tt; stays = refl }) (h.1.1 ∙ h.1.0)
chunk-goes p l (chunk.Leaving d w) m now h r = one-goes p l (entry.Out d w) m now (record { fits = tt; stays = refl }) (h.1.1 ∙ h.1.0)
chunk-goes p l (chunk.Stamping c d x) m now h r = one-goes p l (entry.Stamp c d x) m now (record { fits = tt; stays = refl }) (h.1.1 ∙ h.1.0)
chunk-goes p l (chunk.Passing c d x n) m now h r = one-goes p l (entry.Pass c d n) m now (record { fits = tt; stays = refl }) (h.1.1 ∙ h.1.0)
chunk-goes p l (chunk.Filling c us) m now h r = one-goes p l _ m now (record { fits = tt; stays = refl }) (h.1.1 ∙ h.1.0)
chunk-goes p l (chunk.Fetching c want us) m now h r = one-goes p l _ m now (record { fits = tt; stays = refl }) (h.1.1 ∙ h.1.0)
chunk-goes p l (chunk.GivingBack c us) m now h r = one-goes p l _ m now (record { fits = tt; stays = refl }) (h.1.1 ∙ h.1.0)
chunk-goes p l (chunk.Receiving c us) m now h r = one-goes p l _ m now (record { fits = tt; stays = refl }) (h.1.1 ∙ h.1.0)

-- ---- stories

go-split : (es fs : List Act) (a c : ℕ → Wait) → WaitLeads (es ++ fs) a c → (b : ℕ → Wait) × (WaitLeads es a b × WaitLeads fs b c)
go-split [] fs a c h = (a, (refl, h))
go-split (e ∷ es) fs a c h = let r = go-split es fs h.0 c h.1.1 in (r.0, ((h.0, (h.1.0, r.1.0)), r.1.1))

both-fit : (es fs : Order) (m : Waiting) → AllFit waiting_after SealFits es m → AllFit waiting_after SealFits fs (over waiting_after es m) → AllFit waiting_after SealFits (es ++ fs) m
both-fit [] fs m h k = k
both-fit (e ∷ es) fs m h k = (h.0, both-fit es fs (waiting_after e.processor e.level e.entry m) h.1 k)

both-over : (es fs : Order) (m : Waiting) → over waiting_after (es ++ fs) m ≡ over waiting_after fs (over waiting_after es m)
both-over [] fs m = refl
both-over (e ∷ es) fs m = both-over es fs (waiting_after e.processor e.level e.entry m)

pub goes-join : (p : ℕ) (es fs : Log) (m : Waiting) (mid now : ℕ → Wait) → Goes p es m mid → Goes p fs (waiting_over p es m) now → Goes p (es ++ fs) m now
goes-join p es fs m mid now g k =
    let same = by-append p es fs in
    record {
      fit = subst (λ (o : Order). AllFit waiting_after SealFits o m) (sym same) (both-fit (by p es) (by p fs) m g.fit k.fit);
      now_is = ap (λ (o : Order). (over waiting_after o m).waits) same ∙ (ap (λ (z : Waiting). z.waits) (both-over (by p es) (by p fs) m) ∙ k.now_is);
    }

-- Where the acts of a story tell what units wait for, and each batch goes away as it should, its entries fit.
pub story-goes : (p : ℕ) (ts : Story) (m : Waiting) (now : ℕ → Wait) → WaitLeads (deeds ts) m.waits now → ReleasesFit p ts m → Goes p (lines ts) m now
story-goes p [] m now h r = nothing-said p m now h
story-goes p (t ∷ ts) m now h r =
    let q = go-split (acts_of t.chunk) (deeds ts) m.waits now h in
    let here = chunk-goes p t.level t.chunk m q.0 q.1.0 r.0 in
    let rest = story-goes p ts (waiting_over p (lines_of t) m) now (subst (λ w. WaitLeads (deeds ts) w now) (sym here.now_is) q.1.1) r.1 in
    goes-join p (lines_of t) (lines ts) m q.0 now here rest

no-fits : (p l : ℕ) (e : Entry) (m : Waiting) → GivesNo e → SealFits p l e m
no-fits p l (entry.Given u life) m h = absurd h
no-fits p l (entry.GivenAfter u life stamp seen) m h = absurd h
no-fits p l _ m h = tt

none-fit : (p : ℕ) (log : Log) (m : Waiting) → GivesNone log → AllFit waiting_after SealFits (by p log) m
none-fit p [] m h = tt
none-fit p (e ∷ log) m h = (no-fits p e.0 e.1 m h.0, none-fit p log (waiting_after p e.0 e.1 m) h.1)

-- So each unit is given with what it has waited for, also where entries come behind that give none.
pub story-then-sealed : (p : ℕ) (ts : Story) (rest : Log) (now : ℕ → Wait) → WaitLeads (deeds ts) (λ u. Nothing) now → ReleasesFit p ts nobody_waits → GivesNone rest → IsSealed (by p (lines ts ++ rest))
story-then-sealed p ts rest now h r none =
    let g = story-goes p ts nobody_waits now h r in
    subst (λ (o : Order). AllFit waiting_after SealFits o nobody_waits) (sym (by-append p (lines ts) rest)) (both-fit (by p (lines ts)) (by p rest) nobody_waits g.fit (none-fit p rest (waiting_over p (lines ts) nobody_waits) none))

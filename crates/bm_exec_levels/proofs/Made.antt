-- Objects that begin to live by a call of the code of a level, and that live no more.
use Rattle.std.proofs.Common.{◌≡◌, ◌∙◌, ◌+◌, ◌-◌, ◌<◌, ℕ, sym, Bool, true, false, is_some, List, [], ◌∷◌, Option, Some, None, slice_get, refl, ap, subst, inl, inr}
use Rattle.bm_journal.specs.declared.ids.ObjId.{ObjId}
use Rattle.bm_journal.specs.declared.entry.Entry.{Entry}
use Rattle.bm_journal.specs.declared.entry.Entry.TheVariants as entry
use Rattle.bm_journal.specs.Recording.{Appends}
use Rattle.bm_page.specs.UnitState.{UnitState}
use Rattle.bm_grace.specs.Known.{Lives}
use Rattle.bm_law.specs.Lists.{Log}
use Rattle.bm_law.specs.Phrases.{alloc_took}
use Rattle.bm_law.specs.State.{State}
use Rattle.bm_law.specs.Spans.{Records}
use Rattle.bm_law.proofs.Spans.{Records-one, Records-join}
use Rattle.bm_law_scenario.specs.Calls.{Allocates, Frees}
use Rattle.bm_cache.specs.Tokens.{seal_numbers}
use Rattle.bm_journal.specs.declared.ids.Tag.{Tag}
use Rattle.bm_lang.specs.declared.scenario.TypeDeclaration.{TypeDeclaration}
use Rattle.bm_exec.specs.Living.{Acquired, Created, Disposed, Exchanged, GivenUp, HasRead, TakesOut, count_in, home_of, let_go, new_life, recounted, values_in, with_life, without}
use Rattle.bm_exec_levels.specs.Freeing.{FreeRest, free_entry}

-- ---- what the call left

pub made-one : (l class type : ℕ) (name values : List ℕ) (log0 log1 log2 : Option Log) (u : UnitState) (k a : ℕ) (lives lives' : Lives) →
    Appends log0 l (entry.New name values) log1 → Records l (alloc_took class u.number (u.life + 1) (seal_numbers u.seal) k a) log1 log2 → lives u.number ≡ None → lives' ≡ with_life u.number (Some (new_life class type (u.life + 1) u.home values)) lives →
    Created l class type name values log0 log2 lives lives' (Some (record { unit = u.number; life = u.life + 1 }))
made-one l class type name values log0 log1 log2 u k a lives lives' n r none now = record {
  own = alloc_took class u.number (u.life + 1) (seal_numbers u.seal) k a;
  records = Records-join l (entry.New name values ∷ []) (alloc_took class u.number (u.life + 1) (seal_numbers u.seal) k a) log0 log1 log2 (Records-one l (entry.New name values) log0 log1 n) r;
  allocates = (seal_numbers u.seal, k, a, refl);
  begins = record { none = none; home = u.home; now = now };
}

pub made-none : (l class type : ℕ) (name values : List ℕ) (log0 log1 log2 : Option Log) (own : List Entry) (lives lives' : Lives) →
    Appends log0 l (entry.New name values) log1 → Records l own log1 log2 → Allocates class own None → lives' ≡ lives → Created l class type name values log0 log2 lives lives' None
made-none l class type name values log0 log1 log2 own lives lives' n r a same = record {
  own = own;
  records = Records-join l (entry.New name values ∷ []) own log0 log1 log2 (Records-one l (entry.New name values) log0 log1 n) r;
  allocates = a;
  begins = same;
}

-- a free, plain or with delay, by its first entry and the rest
rest-phrase : (delayed : Bool) (fell c u home : ℕ) (batch : Bool) (rest : List Entry) → FreeRest delayed fell c u batch rest → Frees delayed c u home batch (free_entry delayed u home ∷ rest)
rest-phrase false fell c u home batch rest (inl x) = inl (x.0, x.1, ap (λ z. entry.Free u home ∷ z) x.2)
rest-phrase false fell c u home batch rest (inr x) = inr (x.0, x.1, x.2, x.3, x.4, ap (λ z. entry.Free u home ∷ z) x.6)
rest-phrase true fell c u home batch rest (inl x) = inl (x.0, ap (λ z. entry.Delay u home ∷ z) x.1)
rest-phrase true fell c u home batch rest (inr x) = inr (x.0, x.1, x.2, x.3, x.4, ap (λ z. entry.Delay u home ∷ z) x.6)

-- whether a plain batch of a class is in progress
abbrev pub batch_of : State ℕ → ℕ → Bool
batch_of s c = is_some (s.rows c).deferred.plain

pub given-up : (delayed : Bool) (l fell c : ℕ) (o : ObjId) (u : UnitState) (s t : State ℕ) (rest : List Entry) (log0 log1 log2 log3 : Option Log) (lives lives' : Lives) →
    u.number ≡ o.unit → u.class ≡ c → t ≡ s → home_of (lives o.unit) ≡ Some u.home → Appends log0 l (entry.Drop o.unit o.life) log1 → Appends log1 l entry.Last log2 → Records l (free_entry delayed u.number u.home ∷ rest) log2 log3 → FreeRest delayed fell u.class u.number (batch_of t u.class) rest →
    count_in (lives o.unit) ≡ 1 → lives' ≡ let_go o.unit lives → Disposed l delayed c o s log0 log3 lives lives'
given-up delayed l fell c o u s t rest log0 log1 log2 log3 lives lives' number class same home n m r f only ends = record {
  home = u.home;
  own = free_entry delayed u.number u.home ∷ rest;
  records = Records-join l (entry.Drop o.unit o.life ∷ []) (entry.Last ∷ free_entry delayed u.number u.home ∷ rest) log0 log1 log3 (Records-one l (entry.Drop o.unit o.life) log0 log1 n)
      (Records-join l (entry.Last ∷ []) (free_entry delayed u.number u.home ∷ rest) log1 log2 log3 (Records-one l entry.Last log1 log2 m) r);
  frees =
      let own = free_entry delayed u.number u.home ∷ rest in
      subst (λ k. Frees delayed k o.unit u.home (batch_of s k) own) class (subst (λ k. Frees delayed u.class k u.home (batch_of s u.class) own) number (subst (λ z. Frees delayed u.class u.number u.home (batch_of z u.class) own) same (rest-phrase delayed fell u.class u.number u.home (batch_of t u.class) rest f)));
  to_home = home;
  only = only;
  ends = ends;
}

-- one more reference, and one less
pub one-more : (l : ℕ) (o : ObjId) (seen : ℕ) (log log' : Option Log) (lives lives' : Lives) → 0 < seen → Appends log l (entry.Acquire o.unit o.life seen) log' → lives' ≡ recounted o.unit (count_in (lives o.unit) + 1) lives → Acquired l o log log' lives lives'
one-more l o seen log log' lives lives' some a e = record {
  seen = seen;
  some = some;
  records = Records-one l (entry.Acquire o.unit o.life seen) log log' a;
  more = e;
}

pub one-less : (l : ℕ) (o : ObjId) (seen : ℕ) (log mid log' : Option Log) (lives lives' : Lives) → 1 < seen → Appends log l (entry.Drop o.unit o.life) mid → Appends mid l (entry.Still seen) log' → lives' ≡ let_go o.unit lives → GivenUp l o log log' lives lives'
one-less l o seen log mid log' lives lives' others a b e = record {
  seen = seen;
  others = others;
  records = Records-join l (entry.Drop o.unit o.life ∷ []) (entry.Still seen ∷ []) log mid log' (Records-one l (entry.Drop o.unit o.life) log mid a) (Records-one l (entry.Still seen) mid log' b);
  less = e;
}

-- a read
pub one-read : (l : ℕ) (o : ObjId) (place value : ℕ) (log log' : Option Log) (lives : Lives) → Appends log l (entry.Get o.unit o.life place value) log' → slice_get (values_in (lives o.unit)) place ≡ Some value → HasRead l o place log log' lives
one-read l o place value log log' lives a found = record { value = value; records = Records-one l (entry.Get o.unit o.life place value) log log' a; found = found }

-- an exchange
pub one-exchanged : (l : ℕ) (types : List TypeDeclaration) (t : ℕ) (name : List ℕ) (put was : Option ObjId) (by : Option Tag) (log log' : Option Log) (lives lives' : Lives) → Appends log l (entry.Xchg name put was by) log' → TakesOut types t (without put lives) lives' was → Exchanged l types t name put log log' lives lives' was
one-exchanged l types t name put was from log log' lives lives' a takes = record { by = from; records = Records-one l (entry.Xchg name put was from) log log' a; takes = takes }

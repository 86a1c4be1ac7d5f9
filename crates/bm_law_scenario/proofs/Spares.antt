-- Entries that leave the lists of a class as they are.
use Rattle.std.proofs.Common.{◌≡◌, ◌≢◌, ℕ, Bool, true, false, List, [], ◌∷◌, ◌++◌, refl, sym, ◌∙◌, subst, Option, Some, None, inl, inr, ne_eqb, nat_lt, if◌then◌else◌}
use Rattle.bm_class.specs.Sizes.{size_of_class}
use Rattle.bm_class.specs.Watermarks.{low_of_size, high_of_size}
use Rattle.bm_journal.specs.declared.ids.Domain.{Domain}
use Rattle.bm_journal.specs.declared.ids.Domain.TheVariants.{Tracing}
use Rattle.bm_journal.specs.declared.units.Units.TheVariants.{Whole}
use Rattle.bm_journal.specs.declared.entry.Entry.{Entry}
use Rattle.bm_journal.specs.declared.entry.Entry.TheVariants as entry
use Rattle.bm_law.specs.State.{State, Row, with_row}
use Rattle.bm_law.specs.Effect.{effect}
use Rattle.bm_law.specs.Lists.{next, after}
use Rattle.bm_law.specs.Phrases.{given, raise_below, overtaken, overtaken_delayed, raise_unless, DelayPhrase, FreePhrase}
use Rattle.bm_law.specs.SweepPhrases.{Finishes, MayFinish, MayBegin, PollPhrase, SweepPhrase}
use Rattle.bm_law_scenario.specs.Calls.{Allocates}
use Rattle.bm_law.specs.Ordinary.{ordinary}

-- an entry leaves the lists of class c as they are, of whatever level it is and whatever it brings
abbrev pub Spares : ℕ → Entry → Type 0
Spares c e = (l : ℕ) (us : List ℕ) (s : State ℕ) → (effect l e us s).rows c ≡ s.rows c

abbrev pub AllSpare : ℕ → List Entry → Type 0
AllSpare c [] = Unit {0}
AllSpare c (e ∷ es) = Spares c e × AllSpare c es

pub spare-join : (c : ℕ) (v w : List Entry) → AllSpare c v → AllSpare c w → AllSpare c (v ++ w)
spare-join c [] w a b = b
spare-join c (e ∷ es) w a b = (a.0, spare-join c es w a.1 b)

pub spared : (c : ℕ) (own : List Entry) (s : State ℕ) → AllSpare c own → (after s (ordinary own)).rows c ≡ s.rows c
spared c [] s h = refl
spared c (e ∷ es) s h = spared c es (next s (0, e)) h.1 ∙ h.0 0 _ s

-- a step on another class
pub other-row : (c d : ℕ) (r : Row ℕ) (s : State ℕ) → c ≢ d → (with_row d r s).rows c ≡ s.rows c
other-row c d r s ne = rw (ne_eqb c d ne) refl

spare-raise : (c d : ℕ) (b : Bool) → c ≢ d → AllSpare c (if b then entry.Raise d ∷ [] else [])
spare-raise c d true ne = (λ l us s. other-row c d _ s ne, tt)
spare-raise c d false ne = tt

spare-given : (c u life : ℕ) (seal : Option (ℕ × ℕ)) → Spares c (given u life seal)
spare-given c u life None = λ l us s. refl
spare-given c u life (Some seal) = λ l us s. refl

pub spare-alloc : (c d : ℕ) (own : List Entry) (reply : Option (ℕ × ℕ)) → c ≢ d → Allocates d own reply → AllSpare c own
spare-alloc c d own (Some o) ne x = subst (AllSpare c) (sym x.3) (
  λ l us s. other-row c d _ s ne,
  (
    λ l us s. other-row c d _ s ne,
    (
      λ l us s. other-row c d _ s ne,
      (
        λ l us s. other-row c d _ s ne,
        spare-join c (raise_below d x.1) (given o.0 o.1 x.0 ∷ []) (spare-raise c d (nat_lt x.1 (low_of_size (size_of_class d))) ne) (spare-given c o.0 o.1 x.0, tt),
      ),
    ),
  ),
)
spare-alloc c d own None ne (inl x) = subst (AllSpare c) (sym x.1) (
  λ l us s. other-row c d _ s ne,
  (
    λ l us s. refl,
    (
      λ l us s. other-row c d _ s ne,
      spare-join c (raise_below d 0) (entry.Empty ∷ []) (spare-raise c d (nat_lt 0 (low_of_size (size_of_class d))) ne) (λ l us s. refl, tt),
    ),
  ),
)
spare-alloc c d own None ne (inr x) = subst (AllSpare c) (sym x.3) (
  λ l us s. other-row c d _ s ne,
  (
    λ l us s. other-row c d _ s ne,
    spare-join c (raise_below d 0) (entry.Busy x.0 ∷ []) (spare-raise c d (nat_lt 0 (low_of_size (size_of_class d))) ne) (λ l us s. refl, tt),
  ),
)

spare-overtaken : (c d : ℕ) (ks : List ℕ) → AllSpare c (overtaken d ks)
spare-overtaken c d [] = tt
spare-overtaken c d (k ∷ ks) = (λ l us s. refl, (λ l us s. refl, spare-overtaken c d ks))

pub spare-free : (c d u home : ℕ) (own : List Entry) → c ≢ d → FreePhrase d u home own → AllSpare c own
spare-free c d u home own ne (inl x) = subst (AllSpare c) (sym x.2) (
  λ l us s. refl,
  (
    λ l us s. other-row c d _ s ne,
    (
      λ l us s. other-row c d _ s ne,
      (
        λ l us s. other-row c d _ s ne,
        (
          λ l us s. other-row c d _ s ne,
          spare-raise c d (nat_lt (high_of_size (size_of_class d)) x.0) ne,
        ),
      ),
    ),
  ),
)
spare-free c d u home own ne (inr x) = subst (AllSpare c) (sym x.5) (
  λ l us s. refl,
  (
    λ l us s. other-row c d _ s ne,
    spare-join c (overtaken d x.1) (entry.Look d x.2 ∷ entry.Put d u ∷ entry.Leave d x.3 ∷ []) (spare-overtaken c d x.1)
        (λ l us s. refl, (λ l us s. other-row c d _ s ne, (λ l us s. other-row c d _ s ne, tt))),
  ),
)

spare-delayed : (c d : ℕ) (ks : List ℕ) → AllSpare c (overtaken_delayed d ks)
spare-delayed c d [] = tt
spare-delayed c d (k ∷ ks) = (λ l us s. refl, (λ l us s. refl, spare-delayed c d ks))

spare-unless : (c d : ℕ) (b : Bool) → c ≢ d → AllSpare c (raise_unless b d)
spare-unless c d true ne = tt
spare-unless c d false ne = (λ l us s. other-row c d _ s ne, tt)

pub spare-delay : (c d u home : ℕ) (batch : Bool) (own : List Entry) → c ≢ d → DelayPhrase d u home batch own → AllSpare c own
spare-delay c d u home batch own ne (inl x) = subst (AllSpare c) (sym x.1) (
  λ l us s. refl,
  (λ l us s. other-row c d _ s ne, (λ l us s. other-row c d _ s ne, (λ l us s. other-row c d _ s ne, spare-unless c d batch ne))),
)
spare-delay c d u home batch own ne (inr x) = subst (AllSpare c) (sym x.5) (
  λ l us s. refl,
  (
    λ l us s. other-row c d _ s ne,
    spare-join c (overtaken_delayed d x.1) (entry.LookDelayed d x.2 ∷ entry.PutDelayed d u ∷ entry.Leave d x.3 ∷ raise_unless batch d) (spare-delayed c d x.1)
        (λ l us s. refl, (λ l us s. other-row c d _ s ne, (λ l us s. other-row c d _ s ne, spare-unless c d batch ne))),
  ),
)

-- ---- a sweep of another class

-- a property of stretches that joins, and that the parts of a poll have
pub record Polled (c : ℕ) (d : Domain) (P : List Entry → Type 0) : Type 0 where
  pub none : P []
  pub join : (v w : List Entry) → P v → P w → P (v ++ w)
  pub begin : (e : Entry) (n : ℕ) → e ≡ entry.Begin d n → P (e ∷ [])
  pub pass : (n : ℕ) → P (entry.Pass c d n ∷ [])
  pub finish : (e : Entry) (q : Finishes d e) → P (e ∷ [])

finish-all : (c : ℕ) (d : Domain) (P : List Entry → Type 0) (k : Polled c d P) (own : List Entry) → MayFinish d own → P own
finish-all c d P k own (inl e) = subst P (sym e) k.none
finish-all c d P k own (inr x) = subst P (sym x.1) (k.finish x.0 x.2)

begin-all : (c : ℕ) (d : Domain) (P : List Entry → Type 0) (k : Polled c d P) (own : List Entry) → MayBegin d own → P own
begin-all c d P k own (inl e) = subst P (sym e) k.none
begin-all c d P k own (inr x) = subst P (sym x.2) (k.join (entry.Begin d x.0 ∷ []) x.1 (k.begin (entry.Begin d x.0) x.0 refl) (finish-all c d P k x.1 x.3))

pub poll-all : (c : ℕ) (d : Domain) (P : List Entry → Type 0) (k : Polled c d P) (own : List Entry) → PollPhrase c d own → P own
poll-all c d P k own q = subst P (sym q.own_is)
    (k.join q.ended (q.begun ++ entry.Pass c d q.seen ∷ []) (finish-all c d P k q.ended q.may_finish) (k.join q.begun (entry.Pass c d q.seen ∷ []) (begin-all c d P k q.begun q.may_begin) (k.pass q.seen)))

spare-poll : (k c : ℕ) → Polled c Tracing (AllSpare k)
spare-poll k c = record {
  none = tt;
  join = spare-join k;
  begin = λ e n q. subst (λ x. AllSpare k (x ∷ [])) (sym q) (λ l us s. refl, tt);
  pass = λ n. (λ l us s. refl, tt);
  finish = λ e q. subst (λ x. AllSpare k (x ∷ [])) (sym q.2) (λ l us s. refl, tt);
}

pub spare-sweep : (k c : ℕ) (own : List Entry) → k ≢ c → SweepPhrase c own → AllSpare k own
spare-sweep k c own ne p = subst (AllSpare k) (sym p.own_is) (
  λ l us s. other-row k c _ s ne,
  (
    λ l us s. other-row k c _ s ne,
    spare-join k p.poll (entry.Return c (Whole p.returned) ∷ []) (poll-all c Tracing (AllSpare k) (spare-poll k c) p.poll p.polls) (λ l us s. other-row k c _ s ne, tt),
  ),
)

-- What a met need says.
use Rattle.std.proofs.Common.{◌≡◌, Bool, true, false, not, refl, sym, ap, ◌∙◌, subst, inl, inr, ◌⊎◌, Option, Some, None, ◌==◌, ◌&&◌, ◌||◌}
use Rattle.std.specs.Option.{option_or}
use Rattle.std.proofs.lemmas.Bool.{eqb-true}
use Rattle.bm_lang.specs.declared.scenario.TypeId.{TypeId}
use Rattle.bm_lang.specs.declared.scenario.MapId.{MapId}
use Rattle.bm_check.specs.declared.name_state.NameState.{NameState}
use Rattle.bm_check.specs.declared.name_state.NameState.TheVariants.{Unbound, Spent, Maybe, Owned, Soft, MaybeSoft}
use Rattle.bm_check.specs.declared.name_state.HeldLock.{HeldLock}
use Rattle.bm_check.specs.declared.name_state.HeldLock.TheVariants.{Nothing, Here, Around}
use Rattle.bm_check.specs.declared.rule.Rule.{Rule}
use Rattle.bm_check.specs.NameStates.{is_free, owns, is_same, agrees, clashes, joined_state, repeated_state, soft_spent, non_null}
use Rattle.bm_check.specs.Statements.{need, owning, reading, non_owning, doubtful, some_lock, lock_from_here, is_free_of_locks}
use Rattle.bm_check.proofs.TableLemmas.{is_or_not}
use Rattle.bm_check.specs.Values.{Value, Empty, Null, Owning, NonOwning, is_owning, Fits, Refers, soft_spent as ended}

pub both_none : (a b : Option Rule) → option_or a b ≡ None → (a ≡ None) × (b ≡ None)
both_none None b h = (refl, h)
both_none (Some r) b h = cc

pub met : (b : Bool) (r : Rule) → need b r ≡ None → b ≡ true
met true r h = refl
met false r h = cc

pub not_met : (b : Bool) (r : Rule) → need (not b) r ≡ None → b ≡ false
not_met false r h = refl
not_met true r h = cc

pub lock_free : (l : HeldLock) → is_free_of_locks l ≡ true → l ≡ Nothing
lock_free Nothing h = refl
lock_free (Here g) h = cc
lock_free (Around g) h = cc

pub lock_here : (l : HeldLock) → option_or (some_lock l) (lock_from_here l) ≡ None → (g : MapId) × (l ≡ Here g)
lock_here Nothing h = cc
lock_here (Here g) h = (g, refl)
lock_here (Around g) h = cc

-- an owning reference
pub is_owned : (test : TypeId → Bool) (s : NameState) → owning test s ≡ None → (t : TypeId) × (s ≡ Owned t) × (test t ≡ true)
is_owned test Unbound h = cc
is_owned test Spent h = cc
is_owned test (Maybe t) h = let e = both_none (need (test t) _) _ h in cc
is_owned test (Owned t) h = let e = both_none (need (test t) _) None h in (t, refl, met (test t) _ e.0)
is_owned test (Soft t g) h = cc
is_owned test (MaybeSoft t g) h = cc

pub is_readable : (test : TypeId → Bool) (s : NameState) → reading test s ≡ None → (t : TypeId) × ((s ≡ Owned t) ⊎ ((g : MapId) × (s ≡ Soft t g))) × (test t ≡ true)
is_readable test Unbound h = cc
is_readable test Spent h = cc
is_readable test (Maybe t) h = let e = both_none (need (test t) _) _ h in cc
is_readable test (Owned t) h = let e = both_none (need (test t) _) None h in (t, inl refl, met (test t) _ e.0)
is_readable test (Soft t g) h = let e = both_none (need (test t) _) None h in (t, inr (g, refl), met (test t) _ e.0)
is_readable test (MaybeSoft t g) h = let e = both_none (need (test t) _) _ h in cc

same_map : (g h : MapId) → (g.0 == h.0) ≡ true → h ≡ g
same_map g h e = let f : g.0 ≡ h.0 = eqb-true g.0 h.0 e in λ i. record { 0 = sym f i }

same_type : (t u : TypeId) → (t.0 == u.0) ≡ true → t ≡ u
same_type t u e = let f : t.0 ≡ u.0 = eqb-true t.0 u.0 e in λ i. record { 0 = f i }

pub is_node : (g : MapId) (s : NameState) → non_owning g s ≡ None → (t : TypeId) × ((s ≡ Soft t g) ⊎ (s ≡ MaybeSoft t g))
is_node g Unbound h = cc
is_node g Spent h = cc
is_node g (Maybe t) h = cc
is_node g (Owned t) h = cc
is_node g (Soft t k) h = (t, inl (ap (Soft t) (same_map g k (met (g.0 == k.0) _ h))))
is_node g (MaybeSoft t k) h = (t, inr (ap (MaybeSoft t) (same_map g k (met (g.0 == k.0) _ h))))

-- what a state says of a value
pub not_owned : (s : NameState) (v : Value) → owns s ≡ false → Fits s v → is_owning v ≡ false
not_owned Unbound v h f = f
not_owned Spent v h f = f
not_owned (Maybe t) v h f = cc
not_owned (Owned t) v h f = cc
not_owned (Soft t g) v h f = ap is_owning f
not_owned (MaybeSoft t g) v h f = elim f [ inl null ↦ ap is_owning null | inr node ↦ ap is_owning node ]

pub free_owns : (s : NameState) → is_free s ≡ true → owns s ≡ false
free_owns Unbound h = refl
free_owns Spent h = refl
free_owns (Maybe t) h = cc
free_owns (Owned t) h = cc
free_owns (Soft t g) h = cc
free_owns (MaybeSoft t g) h = cc

pub fits_free : (s : NameState) (v : Value) → is_free s ≡ true → is_owning v ≡ false → Fits s v
fits_free Unbound v h f = f
fits_free Spent v h f = f
fits_free (Maybe t) v h f = cc
fits_free (Owned t) v h f = cc
fits_free (Soft t g) v h f = cc
fits_free (MaybeSoft t g) v h f = cc

-- a value whose non-owning reference ends owns no more than before
ended_owns : (v : Value) → is_owning v ≡ false → is_owning (ended v) ≡ false
ended_owns Empty h = refl
ended_owns Null h = refl
ended_owns (Owning t) h = h
ended_owns (NonOwning t g) h = refl

pub fits_spent : (s : NameState) (v : Value) → Fits s v → Fits (soft_spent s) (ended v)
fits_spent Unbound v f = ended_owns v f
fits_spent Spent v f = ended_owns v f
fits_spent (Maybe t) v f = elim f [ inl null ↦ inl (ap ended null) | inr owns ↦ inr (ap ended owns) ]
fits_spent (Owned t) v f = ap ended f
fits_spent (Soft t g) v f = ap (λ (w : Value). is_owning (ended w)) f
fits_spent (MaybeSoft t g) v f = elim f [
  | inl null ↦ ap (λ (w : Value). is_owning (ended w)) null
  | inr node ↦ ap (λ (w : Value). is_owning (ended w)) node
]

-- the name of an `if`
not_null : (t : TypeId) → Refers Null t → ⊥
not_null t r = elim r [ inl e ↦ cc | inr e ↦ (let f = e.1 in cc) ]

pub fits_non_null : (s : NameState) (v : Value) (t : TypeId) → Refers v t → Fits s v → Fits (non_null s) v
fits_non_null Unbound v t r f = f
fits_non_null Spent v t r f = f
fits_non_null (Maybe u) v t r f = elim f [ inl null ↦ absurd (not_null t (subst (λ (w : Value). Refers w t) null r)) | inr e ↦ e ]
fits_non_null (Owned u) v t r f = f
fits_non_null (Soft u g) v t r f = f
fits_non_null (MaybeSoft u g) v t r f = elim f [ inl null ↦ absurd (not_null t (subst (λ (w : Value). Refers w t) null r)) | inr e ↦ e ]

pub null_or_not : (s : NameState) (v : Value) → doubtful s ≡ None → Fits s v → (v ≡ Null) ⊎ ((t : TypeId) × Refers v t)
null_or_not Unbound v h f = cc
null_or_not Spent v h f = cc
null_or_not (Maybe t) v h f = elim f [ inl null ↦ inl null | inr e ↦ inr (t, inl e) ]
null_or_not (Owned t) v h f = cc
null_or_not (Soft t g) v h f = cc
null_or_not (MaybeSoft t g) v h f = elim f [ inl null ↦ inl null | inr e ↦ inr (t, inr (g, e)) ]

-- states that are compared
and_true : (a b : Bool) → (a && b) ≡ true → (a ≡ true) × (b ≡ true)
and_true true b h = (refl, h)
and_true false b h = cc

or_false : (a b : Bool) → (a || b) ≡ false → (a ≡ false) × (b ≡ false)
or_false false b h = (refl, h)
or_false true b h = cc

pub same_state : (s t : NameState) → is_same s t ≡ true → s ≡ t
same_state Unbound Unbound h = refl
same_state Spent Spent h = refl
same_state (Maybe t) (Maybe u) h = ap Maybe (same_type t u h)
same_state (Owned t) (Owned u) h = ap Owned (same_type t u h)
same_state (Soft t g) (Soft u k) h = let e = and_true (t.0 == u.0) (g.0 == k.0) h in ap (λ x. Soft x g) (same_type t u e.0) ∙ ap (Soft u) (sym (same_map g k e.1))
same_state (MaybeSoft t g) (MaybeSoft u k) h = let e = and_true (t.0 == u.0) (g.0 == k.0) h in ap (λ x. MaybeSoft x g) (same_type t u e.0) ∙ ap (MaybeSoft u) (sym (same_map g k e.1))
same_state _ _ h = cc

and_false_or : (a b : Bool) → (a || b) ≡ true → a ≡ false → b ≡ true
and_false_or false b h e = h
and_false_or true b h e = cc

free_both : (a b : NameState) → is_same a b ≡ false → agrees a b ≡ true → (is_free a ≡ true) × (is_free b ≡ true)
free_both a b differ h = and_true (is_free a) (is_free b) (and_false_or (is_same a b) (is_free a && is_free b) h differ)

and_false : (a b : Bool) → (a && b) ≡ false → a ≡ true → b ≡ false
and_false true b h e = h
and_false false b h e = cc

owns_none : (a b : NameState) → is_same a b ≡ false → clashes a b ≡ false → (owns a ≡ false) × (owns b ≡ false)
owns_none a b differ h = elim (is_or_not (agrees a b)) [
  | inl agree ↦ (let both = free_both a b differ agree in (free_owns a both.0, free_owns b both.1))
  | inr not_agree ↦ or_false (owns a) (owns b) (and_false (not (agrees a b)) (owns a || owns b) h (ap not not_agree))
]

spent_where : (a : NameState) (v : Value) → agrees a Spent ≡ true → Fits a v → is_owning v ≡ false
spent_where Unbound v h f = f
spent_where Spent v h f = f
spent_where (Maybe t) v h f = cc
spent_where (Owned t) v h f = cc
spent_where (Soft t g) v h f = cc
spent_where (MaybeSoft t g) v h f = cc

-- states of two places where none clashes
pub fits_joined_first : (a b : NameState) (v : Value) → clashes a b ≡ false → Fits a v → Fits (joined_state a b) v
fits_joined_first a b v h f = elim (is_or_not (is_same a b)) [
  | inl same ↦ rw same f
  | inr differ ↦ rw differ (not_owned a v (owns_none a b differ h).0 f)
]

pub fits_joined_second : (a b : NameState) (v : Value) → clashes a b ≡ false → Fits b v → Fits (joined_state a b) v
fits_joined_second a b v h f = elim (is_or_not (is_same a b)) [
  | inl same ↦ rw same (subst (λ (s : NameState). Fits s v) (sym (same_state a b same)) f)
  | inr differ ↦ rw differ (not_owned b v (owns_none a b differ h).1 f)
]

-- states at a body's start and end that agree
pub fits_start : (a b : NameState) (v : Value) → agrees a b ≡ true → Fits b v → Fits a v
fits_start a b v h f = elim (is_or_not (is_same a b)) [
  | inl same ↦ subst (λ (s : NameState). Fits s v) (sym (same_state a b same)) f
  | inr differ ↦ (let both = free_both a b differ h in fits_free a v both.0 (not_owned b v (free_owns b both.1) f))
]

pub fits_repeated : (a b : NameState) (v : Value) → agrees a b ≡ true → Fits a v → Fits (repeated_state a b) v
fits_repeated a Unbound v h f = f
fits_repeated a Spent v h f = spent_where a v h f
fits_repeated a (Maybe t) v h f = f
fits_repeated a (Owned t) v h f = f
fits_repeated a (Soft t g) v h f = f
fits_repeated a (MaybeSoft t g) v h f = f

-- Two cuts of one list.
use Rattle.std.proofs.Common.{◌≡◌, ◌⊎◌, inl, inr, ℕ, true, false, eqb, List, [], ◌∷◌, ◌++◌, refl, sym, ap, ◌∙◌}
use Rattle.std.proofs.lemmas.Bool.Decides.{eqb_tells}
use Rattle.bm_journal.specs.declared.entry.Entry.{Entry}
use Rattle.bm_law.specs.Lists.{Log}
use Rattle.bm_law.specs.Spans.{own_entries}
use Rattle.bm_law.specs.State.{State}
use Rattle.bm_law_work.specs.Parts.{Stand, Then}
use Rattle.bm_law_work.proofs.Parts.{from-zero}

-- what stands behind the front of the same list
pub tail-of : {A : Type 0} {x y : A} {v w : List A} → x ∷ v ≡ y ∷ w → v ≡ w
tail-of e = cc

pub head-of : {A : Type 0} {x y : A} {v w : List A} → x ∷ v ≡ y ∷ w → x ≡ y
head-of e = cc

-- A list that ends with b is cut at c: there, or before.
pub record Before {A : Type 0} (log front : List A) (c b : A) (rest : List A) : Type 0 where
  pub more : List A
  pub rest_is : rest ≡ more ++ b ∷ []
  pub log_is : log ≡ front ++ c ∷ more

pub record Last {A : Type 0} (log front : List A) (c b : A) (rest : List A) : Type 0 where
  pub none : rest ≡ []
  pub same : b ≡ c
  pub log_is : log ≡ front

pub last-cut : {A : Type 0} (log front rest : List A) (b c : A) → log ++ b ∷ [] ≡ front ++ c ∷ rest → Last log front c b rest ⊎ Before log front c b rest
last-cut [] [] rest b c e = inl (record { none = sym (tail-of e); same = head-of e; log_is = refl })
last-cut [] (a ∷ front) rest b c e = absurd (none front c rest (tail-of e))
  where
    none : {A : Type 0} (v : List A) (c : A) (w : List A) → [] ≡ v ++ c ∷ w → ⊥
    none [] c w q = cc
    none (x ∷ v) c w q = cc
last-cut (x ∷ log) [] rest b c e = inr (record { more = log; rest_is = sym (tail-of e); log_is = ap (λ z. z ∷ log) (head-of e) })
last-cut (x ∷ log) (a ∷ front) rest b c e = elim (last-cut log front rest b c (tail-of e)) [
  | inl k ↦ inl (record { none = k.none; same = k.same; log_is = ap (λ z. z ∷ log) (head-of e) ∙ ap (λ z. a ∷ z) k.log_is })
  | inr k ↦ inr (record { more = k.more; rest_is = k.rest_is; log_is = ap (λ z. z ∷ log) (head-of e) ∙ ap (λ z. a ∷ z) k.log_is })
]

-- Two cuts of a list at x and at y: the same one, or y stands behind x, or x behind y.
pub record Same {A : Type 0} (v : List A) (x : A) (w v' : List A) (y : A) (w' : List A) : Type 0 where
  pub front : v ≡ v'
  pub at : x ≡ y
  pub rest : w ≡ w'

pub record Behind {A : Type 0} (w : List A) (y : A) (w' : List A) : Type 0 where
  pub between : List A
  pub rest_is : w ≡ between ++ y ∷ w'

pub cuts : {A : Type 0} (v w v' w' : List A) (x y : A) → v ++ x ∷ w ≡ v' ++ y ∷ w' → Same v x w v' y w' ⊎ (Behind w y w' ⊎ Behind w' x w)
cuts [] w [] w' x y e = inl (record { front = refl; at = head-of e; rest = tail-of e })
cuts [] w (a ∷ v') w' x y e = inr (inl (record { between = v'; rest_is = tail-of e }))
cuts (a ∷ v) w [] w' x y e = inr (inr (record { between = v; rest_is = sym (tail-of e) }))
cuts (a ∷ v) w (a' ∷ v') w' x y e = elim (cuts v w v' w' x y (tail-of e)) [
  | inl k ↦ inl (record { front = ap (λ z. z ∷ v) (head-of e) ∙ ap (λ z. a' ∷ z) k.front; at = k.at; rest = k.rest })
  | inr k ↦ inr k
]

-- ---- a part of a log, cut behind its first entry of ordinary code

record First (e : Entry) (own : List Entry) (part : Log) : Type 0 where
  one : Log
  two : Log
  part_is : part ≡ one ++ two
  first : own_entries 0 one ≡ e ∷ []
  rest : own_entries 0 two ≡ own

own-here : (x : ℕ × Entry) (v : Log) → eqb x.0 0 ≡ true → own_entries 0 (x ∷ v) ≡ x.1 ∷ own_entries 0 v
own-here x v e = rw e refl

own-aside : (x : ℕ × Entry) (v : Log) → eqb x.0 0 ≡ false → own_entries 0 (x ∷ v) ≡ own_entries 0 v
own-aside x v e = rw e refl

first-cut : (e : Entry) (own : List Entry) (part : Log) → own_entries 0 part ≡ e ∷ own → First e own part
first-cut e own [] q = absurd (cc)
first-cut e own (x ∷ xs) q = elim (eqb_tells x.0 0) [
  | inl y ↦
      let whole : x.1 ∷ own_entries 0 xs ≡ e ∷ own = sym (own-here x xs y.0) ∙ q in
      record { one = x ∷ []; two = xs; part_is = refl; first = own-here x [] y.0 ∙ ap (λ z. z ∷ []) (head-of whole); rest = tail-of whole }
  | inr y ↦
      let h = first-cut e own xs (sym (own-aside x xs y.0) ∙ q) in
      record { one = x ∷ h.one; two = h.two; part_is = ap (λ z. x ∷ z) h.part_is; first = own-aside x h.one y.0 ∙ h.first; rest = h.rest }
]

pub stand-cut : (e : Entry) (own : List Entry) (s : State ℕ) (part : Log) → Stand 0 (e ∷ own) s part → Then (Stand 0 (e ∷ [])) (Stand 0 own) s part
stand-cut e own s part h =
    let cut = first-cut e own part h.own_is in
    record { one = cut.one; two = cut.two; part_is = cut.part_is; is_first = record { from = from-zero cut.one; own_is = cut.first }; is_second = record { from = from-zero cut.two; own_is = cut.rest } }

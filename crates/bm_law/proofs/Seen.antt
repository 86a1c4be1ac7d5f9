-- An entry does the same to a state seen through a function.
use Rattle.std.proofs.Common.{◌≡◌, ℕ, ◌+◌, Bool, true, false, List, [], ◌∷◌, ◌++◌, length, take, reverse, map, Some, refl, sym, ◌∙◌, ap, eqb, cond}
use Rattle.std.proofs.lemmas.List.{map-append, drop-map, take-map, reverse-append, length-map}
use Rattle.std.proofs.Math.Path.{fun_ext}
use Rattle.bm_journal.specs.declared.ids.Domain.{Domain}
use Rattle.bm_journal.specs.declared.ids.Domain.TheVariants.{Plain, Tracing}
use Rattle.bm_journal.specs.declared.entry.Entry.{Entry}
use Rattle.bm_journal.specs.declared.entry.Entry.TheVariants as entry
use Rattle.bm_law.specs.declared.mark.Mark.{Mark}
use Rattle.bm_law.specs.declared.mark.Mark.TheVariants as mark
use Rattle.bm_law.specs.State.{Row, Side, State, with_row, with_side, seven_lists, seen, seen_row, seen_side, seen_deferred}
use Rattle.bm_law.specs.Effect.{effect, sent, stamped}

seen-cond : {A B : Type 0} (b : Bool) (f : A → B) (x y : A) → f (cond b x y) ≡ cond b (f x) (f y)
seen-cond true f x y = refl
seen-cond false f x y = refl

pub seen-row : {A B : Type 0} (f : A → B) (c : ℕ) (r : Row A) (r' : Row B) (s : State A) → seen_row f r ≡ r' → seen f (with_row c r s) ≡ with_row c r' (seen f s)
seen-row f c r r' s e =
    let rows : (λ (k : ℕ). seen_row f (cond (eqb k c) r (s.rows k))) ≡ (λ (k : ℕ). cond (eqb k c) r' (seen_row f (s.rows k))) =
    fun_ext (λ k. seen-cond (eqb k c) (seen_row f) r (s.rows k) ∙ ap (λ x. cond (eqb k c) x (seen_row f (s.rows k))) e) in
    ap (λ x. record { rows = x; sides = λ k. seen_side f (s.sides k) }) rows

pub seen-side : {A B : Type 0} (f : A → B) (l : ℕ) (h : Side A) (h' : Side B) (s : State A) → seen_side f h ≡ h' → seen f (with_side l h s) ≡ with_side l h' (seen f s)
seen-side f l h h' s e =
    let sides : (λ (k : ℕ). seen_side f (cond (eqb k l) h (s.sides k))) ≡ (λ (k : ℕ). cond (eqb k l) h' (seen_side f (s.sides k))) =
    fun_ext (λ k. seen-cond (eqb k l) (seen_side f) h (s.sides k) ∙ ap (λ x. cond (eqb k l) x (seen_side f (s.sides k))) e) in
    ap (λ x. record { rows = λ k. seen_row f (s.rows k); sides = x }) sides

pub seen-both : {A B : Type 0} (f : A → B) (c l : ℕ) (r : Row A) (r' : Row B) (h : Side A) (h' : Side B) (s : State A) → seen_row f r ≡ r' → seen_side f h ≡ h' → seen f (with_row c r (with_side l h s)) ≡ with_row c r' (with_side l h' (seen f s))
seen-both f c l r r' h h' s e e' = seen-row f c r r' (with_side l h s) e ∙ ap (with_row c r') (seen-side f l h h' s e')

pub map-reverse : {A B : Type 0} (f : A → B) (xs : List A) → map f (reverse xs) ≡ reverse (map f xs)
map-reverse f [] = refl
map-reverse f (x ∷ xs) =
    ap (map f) (reverse-append (x ∷ []) xs) ∙ map-append f (reverse xs) (x ∷ []) ∙ ap (λ z. z ++ f x ∷ []) (map-reverse f xs) ∙ sym (reverse-append (f x ∷ []) (map f xs))

pair-eq : {A : Type 0} {a b : List A} {m n : ℕ} → a ≡ b → m ≡ n → (let x : List A × ℕ = (a, m) in let y : List A × ℕ = (b, n) in x ≡ y)
pair-eq p q = cc

pub map-seven : {A B : Type 0} (f : A → B) (r : Row A) → map f (seven_lists r) ≡ seven_lists (seen_row f r)
map-seven f r =
    map-append f r.free _ ∙ ap (λ x. map f r.free ++ x)
    (map-append f r.extra _ ∙ ap (λ x. map f r.extra ++ x)
    (map-append f r.delayed _ ∙ ap (λ x. map f r.delayed ++ x)
    (map-append f r.extra_delayed _ ∙ ap (λ x. map f r.extra_delayed ++ x)
    (map-append f r.deferred.first _ ∙ ap (λ x. map f r.deferred.first ++ x)
    (map-append f r.deferred.ready r.deferred.second)))))

seen-sent : {A B : Type 0} (f : A → B) (c l : ℕ) (hand : List A) (s : State A) → seen f (sent c l hand s) ≡ sent c l (map f hand) (seen f s)
seen-sent f c l [] s = seen-row f c _ _ s refl
seen-sent f c l (u ∷ us) s = seen-side f l _ _ s refl

seen-stamped : {A B : Type 0} (f : A → B) (d : Domain) (x : ℕ) (r : Row A) → seen_deferred f (stamped d x r.deferred) ≡ stamped d x (seen_deferred f r.deferred)
seen-stamped f Plain x r = refl
seen-stamped f Tracing x r = refl

-- one unit from the front of a hand on top of a list
seen-on : {A B : Type 0} (f : A → B) (hand xs : List A) → map f (take 1 hand ++ xs) ≡ take 1 (map f hand) ++ map f xs
seen-on f hand xs = map-append f (take 1 hand) xs ∙ ap (λ x. x ++ map f xs) (sym (take-map f 1 hand))

-- the top of a list behind a hand
seen-behind : {A B : Type 0} (f : A → B) (hand xs : List A) → map f (hand ++ take 1 xs) ≡ map f hand ++ take 1 (map f xs)
seen-behind f hand xs = map-append f hand (take 1 xs) ∙ ap (λ x. map f hand ++ x) (sym (take-map f 1 xs))

in_hand : {B : Type 0} {a b : List B} (m : Mark) → a ≡ b → (let x : Side B = record { hand = a; mark = m } in let y : Side B = record { hand = b; mark = m } in x ≡ y)
in_hand m e = ap (λ x. record { hand = x; mark = m }) e

pub seen-effect : {A B : Type 0} (f : A → B) (l : ℕ) (e : Entry) (us : List A) (s : State A) → seen f (effect l e us s) ≡ effect l e (map f us) (seen f s)
seen-effect f l (entry.Fill c ns) us s =
    let r = s.rows c in
    let a : map f (reverse us ++ r.free) ≡ reverse (map f us) ++ map f r.free = map-append f (reverse us) r.free ∙ ap (λ x. x ++ map f r.free) (map-reverse f us) in
    let b : length us ≡ length (map f us) = sym (length-map us f) in
    seen-row f c _ _ s (ap (λ (x : List _ × ℕ). let t : Row _ = record (seen_row f r) { free = x.0; count = r.count + x.1 } in t) (pair-eq a b))
seen-effect f l (entry.Free u home) us s = seen-side f l _ _ s (in_hand (mark.Bound home false) (map-append f (s.sides l).hand us))
seen-effect f l (entry.Delay u home) us s = seen-side f l _ _ s (in_hand (mark.Bound home true) (map-append f (s.sides l).hand us))
seen-effect f l (entry.Enter c a) us s = seen-both f c l _ _ _ _ s refl refl
seen-effect f l (entry.Leave c a) us s = seen-row f c _ _ s refl
seen-effect f l (entry.Pop c u) us s =
    let r = s.rows c in
    seen-both f c l _ _ _ _ s
    (ap (λ x. let t : Row _ = record (seen_row f r) { free = x } in t) (sym (drop-map f 1 r.free)))
    (in_hand (mark.Took c) (seen-behind f (s.sides l).hand r.free))
seen-effect f l (entry.Push c u) us s =
    let r = s.rows c in
    seen-both f c l _ _ _ _ s
    (ap (λ x. let t : Row _ = record (seen_row f r) { free = x } in t) (seen-on f (s.sides l).hand r.free))
    (in_hand (mark.Gave c) (sym (drop-map f 1 (s.sides l).hand)))
seen-effect f l (entry.Count c k) us s = seen-both f c l _ _ _ _ s refl refl
seen-effect f l (entry.Raise c) us s = seen-row f c _ _ s refl
seen-effect f l (entry.Work c) us s = seen-row f c _ _ s refl
seen-effect f l (entry.Delayed c u) us s =
    let r = s.rows c in
    seen-both f c l _ _ _ _ s
    (ap (λ x. let t : Row _ = record (seen_row f r) { delayed = x } in t) (seen-on f (s.sides l).hand r.delayed))
    (in_hand mark.Quiet (sym (drop-map f 1 (s.sides l).hand)))
seen-effect f l (entry.Look c k) us s = seen-side f l _ _ s refl
seen-effect f l (entry.Put c u) us s =
    let r = s.rows c in
    seen-both f c l _ _ _ _ s
    (ap (λ x. let t : Row _ = record (seen_row f r) { extra = x } in t) (seen-on f (s.sides l).hand r.extra))
    (in_hand mark.Quiet (sym (drop-map f 1 (s.sides l).hand)))
seen-effect f l (entry.Lost c) us s = seen-side f l _ _ s refl
seen-effect f l (entry.LookDelayed c k) us s = seen-side f l _ _ s refl
seen-effect f l (entry.PutDelayed c u) us s =
    let r = s.rows c in
    seen-both f c l _ _ _ _ s
    (ap (λ x. let t : Row _ = record (seen_row f r) { extra_delayed = x } in t) (seen-on f (s.sides l).hand r.extra_delayed))
    (in_hand mark.Quiet (sym (drop-map f 1 (s.sides l).hand)))
seen-effect f l (entry.LostDelayed c) us s = seen-side f l _ _ s refl
seen-effect f l (entry.Given u life) us s = seen-side f l _ _ s (in_hand (s.sides l).mark (sym (drop-map f 1 (s.sides l).hand)))
seen-effect f l (entry.GivenAfter u life stamp seen) us s = seen-side f l _ _ s (in_hand (s.sides l).mark (sym (drop-map f 1 (s.sides l).hand)))
seen-effect f l (entry.Receive c ns) us s =
    let r = s.rows c in
    seen-row f c _ _ s (ap (λ x. let t : Row _ = record (seen_row f r) { deferred = record (seen_deferred f r.deferred) { ready = x } } in t) (map-append f us r.deferred.ready))
seen-effect f l (entry.Ready c u) us s =
    let r = s.rows c in
    seen-both f c l _ _ _ _ s
    (ap (λ x. let t : Row _ = record (seen_row f r) { deferred = record (seen_deferred f r.deferred) { ready = x } } in t) (sym (drop-map f 1 r.deferred.ready)))
    (in_hand mark.Quiet (seen-behind f (s.sides l).hand r.deferred.ready))
seen-effect f l (entry.Second c u) us s =
    let r = s.rows c in
    seen-both f c l _ _ _ _ s
    (ap (λ x. let t : Row _ = record (seen_row f r) { deferred = record (seen_deferred f r.deferred) { second = x } } in t) (sym (drop-map f 1 r.deferred.second)))
    (in_hand mark.Quiet (seen-behind f (s.sides l).hand r.deferred.second))
seen-effect f l (entry.Fetch c want ns) us s = seen-side f l _ _ s (in_hand mark.Quiet (map-append f (s.sides l).hand us))
seen-effect f l (entry.TakeExtra c ns) us s =
    seen-both f c l _ _ _ _ s refl (in_hand mark.Quiet (map-append f (s.sides l).hand (s.rows c).extra))
seen-effect f l (entry.Send c p ns) us s = seen-sent f c l (s.sides l).hand s
seen-effect f l (entry.TakeDelayed c ns) us s =
    let r = s.rows c in
    seen-row f c _ _ s (ap (λ x. let t : Row _ = record (seen_row f r) { delayed = x; extra_delayed = [] } in t)
    (map-append f (reverse r.extra_delayed) r.delayed ∙ ap (λ x. x ++ map f r.delayed) (map-reverse f r.extra_delayed)))
seen-effect f l (entry.Batch c ns) us s =
    let r = s.rows c in
    seen-row f c _ _ s (ap (λ x. let t : Row _ = record (seen_row f r) { delayed = []; deferred = record (seen_deferred f r.deferred) { first = x; plain = Some 0 } } in t)
    (map-append f r.delayed r.deferred.first))
seen-effect f l (entry.Stamp c d x) us s =
    let r = s.rows c in
    seen-row f c _ _ s (ap (λ y. let t : Row _ = record (seen_row f r) { deferred = y } in t) (seen-stamped f d x r))
seen-effect f l (entry.BeginSecond c ns) us s =
    let r = s.rows c in
    seen-row f c _ _ s (ap (λ x. let t : Row _ = record (seen_row f r) { deferred = record (seen_deferred f r.deferred) { ready = []; second = x; tracing = Some 0 } } in t)
    (map-append f r.deferred.ready r.deferred.second))
seen-effect f l (entry.Return c ns) us s = seen-row f c _ _ s refl
seen-effect f l (entry.Sweep c ns) us s =
    let r = s.rows c in
    seen-row f c _ _ s (ap (λ x. let t : Row _ = record (seen_row f r) { free = []; extra = []; delayed = []; extra_delayed = []; count = 0; deferred = record (seen_deferred f r.deferred) { first = []; ready = []; second = x; tracing = Some 0 } } in t)
    (map-append f (seven_lists r) us ∙ ap (λ x. x ++ map f us) (map-seven f r)))
seen-effect f l _ us s = refl

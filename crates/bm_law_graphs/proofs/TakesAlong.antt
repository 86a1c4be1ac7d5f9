-- What is put into lists and trees is taken out again, or still stands there.
use Rattle.std.proofs.Common.{◌≡◌, ℕ, ◌+◌, Option, List, [], ◌∷◌, Some, None, refl, sym, ap, subst, arith, inl, inr}
use Rattle.std.proofs.lemmas.Bool.Decides.{eqb_tells}
use Rattle.bm_journal.specs.declared.ids.Tag.{Tag}
use Rattle.bm_journal.specs.declared.entry.Entry.{Entry}
use Rattle.bm_journal.specs.declared.entry.Entry.TheVariants as entry
use Rattle.bm_law.specs.Lists.{Log}
use Rattle.bm_law_lives.specs.Together.{times}
use Rattle.bm_law_order.specs.Orders.{AllFit, Order, over}
use Rattle.bm_law_laid.specs.Once.{named_by}
use Rattle.bm_law_laid.specs.OrderOf.{IsOrderOf}
use Rattle.bm_law_laid.proofs.NamedParts.{named-parts}
use Rattle.bm_law_laid.proofs.Onces.{times-append}
use Rattle.bm_law_graphs.specs.Calls.{Effect, GraphCall, Puts, Takes, effect_of, graph_call, place_of}
use Rattle.bm_law_graphs.specs.Shelves.{CallFits, EffectFits, IsShelved, Shelved, ShelvedFit, Shelves, Standing, called, call_in, guarded_after, key_of, moved, nothing_shelved, shelved_after, tag_in}
use Rattle.bm_law_graphs.specs.Takes.{TakesLaw, life_put, life_taken, life_within, of_call, put_by, taken_by}

effect-takes : (u life place : ℕ) (f : Effect) (within : ℕ → Option Standing) → EffectFits place f within → times life (life_put u f) + times life (life_within (within u)) ≡ times life (life_taken u f) + times life (life_within (moved place f within u))
effect-takes u life place (Puts id) within fits = elim (eqb_tells u id.unit) [
  | inl y ↦
      (let none : within u ≡ None = subst (λ v. within v ≡ None) (sym y.1) fits in
      let gone : times life (life_within (within u)) ≡ 0 = ap (λ x. times life (life_within x)) none in
      rw y.0 (omega (arith, gone)))
  | inr n ↦ rw n.0 refl
]
effect-takes u life place (Takes id) within fits = elim (eqb_tells u id.unit) [
  | inl y ↦
      (let some : within u ≡ Some (record { life = id.life; place = place }) = subst (λ v. within v ≡ Some (record { life = id.life; place = place })) (sym y.1) fits in
      let there : times life (life_within (within u)) ≡ times life (id.life ∷ []) = ap (λ x. times life (life_within x)) some in
      rw y.0 (omega (arith, there)))
  | inr n ↦ rw n.0 refl
]
effect-takes u life place _ within fits = refl

called-takes : (names : List (List ℕ)) (u life p l : ℕ) (e : Entry) (x : Option GraphCall) (tag : Tag) (s : Shelves) → CallFits names p l x tag s →
    times life (of_call (life_put u) x) + times life (life_within (s.within u)) ≡ times life (of_call (life_taken u) x) + times life (life_within ((called names x tag (guarded_after p e s)).within u))
called-takes names u life p l e None tag s f = refl
called-takes names u life p l e (Some x) tag s f = effect-takes u life (place_of names x.graph) (effect_of x.call) s.within f.fits

-- neither keys nor owners matter
put-same : (names : List (List ℕ)) (key : ℕ → ℕ) (u : ℕ) (e : Entry) → put_by u e ≡ of_call (life_put u) (graph_call names key e)
put-same names key u (entry.PopFront name None pos) = refl
put-same names key u (entry.PopFront name (Some id) pos) = refl
put-same names key u (entry.PopBack name None pos) = refl
put-same names key u (entry.PopBack name (Some id) pos) = refl
put-same names key u (entry.First name None pos) = refl
put-same names key u (entry.First name (Some id) pos) = refl
put-same names key u _ = refl

taken-same : (names : List (List ℕ)) (key : ℕ → ℕ) (u : ℕ) (e : Entry) → taken_by u e ≡ of_call (life_taken u) (graph_call names key e)
taken-same names key u (entry.PopFront name None pos) = refl
taken-same names key u (entry.PopFront name (Some id) pos) = refl
taken-same names key u (entry.PopBack name None pos) = refl
taken-same names key u (entry.PopBack name (Some id) pos) = refl
taken-same names key u (entry.First name None pos) = refl
taken-same names key u (entry.First name (Some id) pos) = refl
taken-same names key u _ = refl

entry-takes : (names : List (List ℕ)) (u life p l : ℕ) (e : Entry) (s : Shelved) → ShelvedFit names p l e s →
    times life (put_by u e) + times life (life_within (s.shelves.within u)) ≡ times life (taken_by u e) + times life (life_within ((shelved_after names p l e s).shelves.within u))
entry-takes names u life p l e s f =
    let key : ℕ → ℕ = λ v. key_of (s.objects.made v) in
    let put = ap (times life) (put-same names key u e) in
    let taken = ap (times life) (taken-same names key u e) in
    let both = called-takes names u life p l e (call_in names e s.objects) (tag_in p s.objects) s.shelves f.2 in
    omega (arith, put, taken, both)

pub takes-over : (names : List (List ℕ)) (u life : ℕ) (o : Order) (s : Shelved) → AllFit (shelved_after names) (ShelvedFit names) o s →
    times life (named_by (put_by u) o) + times life (life_within (s.shelves.within u)) ≡ times life (named_by (taken_by u) o) + times life (life_within ((over (shelved_after names) o s).shelves.within u))
takes-over names u life [] s h = refl
takes-over names u life (e ∷ o) s h =
    let now : Shelved = shelved_after names e.processor e.level e.entry s in
    let first = entry-takes names u life e.processor e.level e.entry s h.0 in
    let rest = takes-over names u life o now h.1 in
    let put = times-append life (put_by u e.entry) (named_by (put_by u) o) in
    let taken = times-append life (taken_by u e.entry) (named_by (taken_by u) o) in
    omega (arith, first, rest, put, taken)

pub logs-takes : (names : List (List ℕ)) (logs : List Log) (o : Order) → IsOrderOf logs o → IsShelved names o → ((u : ℕ) → (over (shelved_after names) o nothing_shelved).shelves.within u ≡ None) → TakesLaw logs
logs-takes names logs o is h empty u life =
    let put = named-parts (put_by u) logs o is life in
    let taken = named-parts (taken_by u) logs o is life in
    let along = takes-over names u life o nothing_shelved h in
    let last : times life (life_within ((over (shelved_after names) o nothing_shelved).shelves.within u)) ≡ 0 = ap (λ x. times life (life_within x)) (empty u) in
    omega (arith, put, taken, along, last)

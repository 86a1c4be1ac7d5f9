-- The worked journal in which an object is put into a list, and the closing takes it from there: entry by entry, and by its log alone.
use Rattle.std.specs.Prelude.{◌≡◌, ◌<◌, ℕ, zero, suc, List, [], ◌∷◌}
use Rattle.std.proofs.Common.{◌∙◌, Bool, None, ap, arith, codes, cond, false, inl, inr, length, lit<, lit≤, refl, subst, sym, true}
use Rattle.std.proofs.lemmas.Bool.{cases_Bool}
use Rattle.std.proofs.lemmas.Bool.Decides.{eqb_tells}
use Rattle.std.proofs.lemmas.Slice.Eq.{bytes_eq-Decides}
use Rattle.std.specs.Str.{bytes_eq}
use Rattle.bm_class.specs.Sizes.{size_of_class}
use Rattle.bm_page.specs.Stock.{any_out, fetched, given, is_stock_of, least_below, next_unit, returned, unit_given}
use Rattle.bm_journal.specs.declared.ids.Domain.TheVariants.{Plain, Tracing}
use Rattle.bm_journal.specs.declared.past.Past.{Past}
use Rattle.bm_law.specs.Lists.{AllName, Log, after}
use Rattle.bm_law.specs.State.{opening}
use Rattle.bm_law.proofs.Agree.{leaves-lists}
use Rattle.bm_law_graphs.specs.GraphLaws.{GraphLaws}
use Rattle.bm_law_graphs.specs.History.{GraphHistory}
use Rattle.bm_law_graphs.specs.Keys.{KeysLaw}
use Rattle.bm_law_graphs.specs.Calls.{place_of}
use Rattle.bm_law_graphs.specs.Refusals.{EachAfter, RefusalFits, RefusalLaw}
use Rattle.bm_law_graphs.specs.Shelves.{IsShelved, nothing_shelved, shelved_after}
use Rattle.bm_law_laid.specs.OrderOf.{AllBelow}
use Rattle.bm_law_lives.specs.GraceLaw.{DomainLaw, WholeGrace}
use Rattle.bm_law_lives.specs.Lives.{LivesLaw, WholeLives, all_ended, given_object}
use Rattle.bm_law_lives.specs.Returns.{ReturnsLaw, returned_units, taken_units}
use Rattle.bm_law_lives.specs.StampLaw.{StampLaw}
use Rattle.bm_law_lives.specs.Together.{named}
use Rattle.bm_law_lives.proofs.Named.{by-both, by-pairs, same-times}
use Rattle.bm_law_objects.specs.Objects.{IsOwned}
use Rattle.bm_law_objects.specs.ReferenceLaw.{ReferenceLaw}
use Rattle.bm_law_order.specs.Orders.{AllFit, IsLaid, Order, over, part_of}
use Rattle.bm_law_order.specs.Polls.{IsPolled}
use Rattle.bm_law_order.specs.Seals.{IsSealed}
use Rattle.bm_law_order.specs.Whole.{whole}
use Rattle.bm_law_places.specs.Placed.{IsPlaced}
use Rattle.bm_law_places.specs.World.{SweepsInbox, outset, world_after}
use Rattle.bm_law_places.proofs.Logs.{parts-name}
use Rattle.bm_law_places.proofs.Standing.{all-placed, found-in-parts}
use Rattle.bm_law_scenario.specs.WorkedVisit.{history_q, history_r, history_t, visited_journal, visited_log}
use Rattle.bm_law_journal.specs.Lawful.{history_of}

abbrev pub one : List Log
one = visited_log ∷ []

abbrev pub one_order : Order
one_order = whole [] one

-- ---- entry by entry

pub one-laid : IsLaid 1 1 one_order
unfolding any_out fetched given is_stock_of least_below next_unit returned size_of_class unit_given
one-laid = (record { words = tt; numbers = tt; looks = tt; lives = tt; pages = refl; boxes = tt }, (record { words = tt; numbers = tt; looks = tt; lives = tt; pages = tt; boxes = tt }, (record { words = record { next_is = refl; parity = refl }; numbers = tt; looks = tt; lives = tt; pages = tt; boxes = tt }, (record { words = tt; numbers = tt; looks = tt; lives = tt; pages = tt; boxes = tt }, (record { words = tt; numbers = tt; looks = tt; lives = tt; pages = tt; boxes = tt }, (record { words = tt; numbers = tt; looks = tt; lives = tt; pages = tt; boxes = tt }, (record { words = tt; numbers = tt; looks = tt; lives = tt; pages = tt; boxes = tt }, (record { words = tt; numbers = tt; looks = tt; lives = tt; pages = tt; boxes = tt }, (record { words = tt; numbers = tt; looks = tt; lives = tt; pages = tt; boxes = tt }, (record { words = tt; numbers = tt; looks = tt; lives = record { none = refl; next_is = refl }; pages = tt; boxes = tt }, (record { words = tt; numbers = tt; looks = tt; lives = tt; pages = tt; boxes = tt }, (record { words = tt; numbers = tt; looks = tt; lives = tt; pages = tt; boxes = tt }, (record { words = tt; numbers = tt; looks = tt; lives = tt; pages = tt; boxes = tt }, (record { words = tt; numbers = tt; looks = tt; lives = tt; pages = tt; boxes = tt }, (record { words = record { next_is = refl; parity = refl }; numbers = tt; looks = tt; lives = tt; pages = tt; boxes = tt }, (record { words = tt; numbers = tt; looks = tt; lives = tt; pages = tt; boxes = tt }, (record { words = tt; numbers = tt; looks = tt; lives = tt; pages = tt; boxes = tt }, (record { words = tt; numbers = tt; looks = tt; lives = tt; pages = tt; boxes = tt }, (record { words = tt; numbers = tt; looks = tt; lives = tt; pages = tt; boxes = tt }, (record { words = tt; numbers = tt; looks = tt; lives = record { references = 1; has = record { held = record { maker = 0; count = 1 }; holds = refl; count = refl; now_is = refl }; none = refl }; pages = tt; boxes = tt }, (record { words = tt; numbers = tt; looks = tt; lives = record { unit = 3; life = 1; under = refl; has = record { held = record { maker = 0; count = 1 }; holds = refl; count = refl; now_is = refl } }; pages = tt; boxes = tt }, (record { words = tt; numbers = tt; looks = tt; lives = record { life = 1; under = refl }; pages = tt; boxes = tt }, (record { words = tt; numbers = tt; looks = tt; lives = tt; pages = tt; boxes = tt }, (record { words = tt; numbers = tt; looks = tt; lives = tt; pages = tt; boxes = tt }, (record { words = tt; numbers = tt; looks = tt; lives = tt; pages = tt; boxes = tt }, (record { words = tt; numbers = tt; looks = tt; lives = tt; pages = tt; boxes = tt }, (record { words = tt; numbers = tt; looks = tt; lives = tt; pages = tt; boxes = tt }, (record { words = tt; numbers = tt; looks = tt; lives = tt; pages = tt; boxes = tt }, (record { words = tt; numbers = tt; looks = tt; lives = tt; pages = tt; boxes = tt }, (record { words = tt; numbers = tt; looks = tt; lives = tt; pages = tt; boxes = tt }, (record { words = tt; numbers = tt; looks = tt; lives = tt; pages = tt; boxes = record { before = 3 ∷ 2 ∷ 1 ∷ 0 ∷ []; units_are = refl } }, (record { words = tt; numbers = refl; looks = tt; lives = tt; pages = tt; boxes = tt }, (record { words = tt; numbers = record { even = refl; number = refl }; looks = tt; lives = tt; pages = tt; boxes = tt }, (record { words = tt; numbers = record { driver = refl; odd = refl; number = refl }; looks = record { first = refl; later = refl; passed = (inl refl, (inl refl, tt)) }; lives = tt; pages = tt; boxes = tt }, (record { words = tt; numbers = refl; looks = tt; lives = tt; pages = tt; boxes = tt }, (record { words = tt; numbers = tt; looks = tt; lives = tt; pages = (refl, (refl, (refl, (refl, tt)))); boxes = tt }, tt))))))))))))))))))))))))))))))))))))

pub one-polled : IsPolled 1 1 one_order
one-polled = (tt, (tt, (tt, (tt, (tt, (tt, (tt, (tt, (tt, (tt, (tt, (tt, (tt, (tt, (tt, (tt, (tt, (tt, (tt, (tt, (tt, (tt, (tt, (tt, (tt, (tt, (tt, (tt, (tt, (tt, (tt, (tt, (record { class = 2; stamp = 2; waits = refl; below = lit≤ tt }, (tt, (inl (record { waits = λ k h. absurd (cc); idle = λ k. inr (lit≤ tt) }), (tt, tt))))))))))))))))))))))))))))))))))))

pub one-sealed : IsSealed one_order
one-sealed = (tt, (tt, (tt, (tt, (tt, (tt, (tt, (tt, (tt, (refl, (tt, (tt, (tt, (tt, (tt, (tt, (tt, (tt, (tt, (tt, (tt, (tt, (tt, (tt, (tt, (tt, (tt, (tt, (tt, (tt, (tt, (tt, (tt, (tt, (tt, (tt, tt))))))))))))))))))))))))))))))))))))

pub one-owned : IsOwned one_order
one-owned = (tt, (tt, (tt, (tt, (tt, (tt, (tt, (tt, (tt, (record { asked = record { type_name = codes "job"; values = 7 ∷ [] }; is = refl }, (tt, (tt, (record { alive = record { held = record { maker = 0; count = 1 }; holds = refl; now_is = refl }; asked = record { type_name = codes "job"; values = 7 ∷ [] }; made_is = refl; value_is = refl }, (tt, (tt, (tt, (tt, (tt, (tt, (tt, (tt, (tt, (tt, (tt, (tt, (tt, (tt, (tt, (tt, (record { was_is = refl; by_is = refl; alive = tt }, (tt, (tt, (tt, (tt, (tt, (tt, tt))))))))))))))))))))))))))))))))))))

below : AllBelow 1 one_order
below = (lit< tt, (lit< tt, (lit< tt, (lit< tt, (lit< tt, (lit< tt, (lit< tt, (lit< tt, (lit< tt, (lit< tt, (lit< tt, (lit< tt, (lit< tt, (lit< tt, (lit< tt, (lit< tt, (lit< tt, (lit< tt, (lit< tt, (lit< tt, (lit< tt, (lit< tt, (lit< tt, (lit< tt, (lit< tt, (lit< tt, (lit< tt, (lit< tt, (lit< tt, (lit< tt, (lit< tt, (lit< tt, (lit< tt, (lit< tt, (lit< tt, (lit< tt, tt))))))))))))))))))))))))))))))))))))

names : (p : ℕ) → p < 1 → AllName (opening p) (part_of p one_order)
names zero lt = (leaves-lists 0 visited_log (after (opening 0) visited_log) refl).named
names (suc p) lt = absurd (omega (arith, lt))

sweeps : AllFit world_after SweepsInbox one_order (outset 1 1)
unfolding any_out fetched given is_stock_of least_below next_unit returned size_of_class unit_given
sweeps = (tt, (tt, (tt, (tt, (tt, (tt, (tt, (tt, (tt, (tt, (tt, (tt, (tt, (tt, (tt, (tt, (tt, (tt, (tt, (tt, (tt, (tt, (tt, (tt, (tt, (tt, (tt, (tt, (tt, (tt, (refl, (tt, (tt, (tt, (tt, (tt, tt))))))))))))))))))))))))))))))))))))

pub one-placed : IsPlaced 1 1 one_order
one-placed = all-placed 1 1 one_order (found-in-parts one_order (outset 1 1) one-laid (parts-name 1 one_order below names) sweeps)

pub one-shelved : IsShelved visited_journal.maps one_order
one-shelved = ((tt, tt, tt), ((tt, tt, tt), ((tt, tt, tt), ((tt, tt, tt), ((tt, tt, tt), ((tt, tt, tt), ((tt, tt, tt), ((tt, tt, tt), ((tt, tt, tt), ((tt, tt, tt), (((refl, refl), tt, tt), ((tt, tt, record { declared = lit< tt; level = refl; guarded = inl refl; position = refl; right = refl; fits = refl }), ((tt, tt, tt), (((refl, refl), tt, tt), ((tt, tt, tt), ((tt, tt, tt), ((tt, tt, tt), ((tt, tt, tt), ((tt, tt, record { declared = lit< tt; level = refl; guarded = inr (record { first = refl; closing = refl; free = refl }); position = refl; right = refl; fits = refl }), ((tt, tt, tt), ((tt, tt, tt), ((tt, tt, tt), ((tt, tt, tt), ((tt, tt, tt), ((tt, tt, tt), ((tt, tt, tt), ((tt, tt, record { declared = lit< tt; level = refl; guarded = inr (record { first = refl; closing = refl; free = refl }); position = refl; right = refl; fits = tt }), ((tt, tt, record { declared = lit< tt; level = refl; guarded = inr (record { first = refl; closing = refl; free = refl }); position = refl; right = refl; fits = tt }), ((tt, tt, record { declared = lit< tt; level = refl; guarded = inr (record { first = refl; closing = refl; free = refl }); position = refl; right = refl; fits = tt }), ((tt, tt, tt), ((tt, tt, tt), ((tt, tt, tt), ((tt, tt, tt), ((tt, tt, tt), ((tt, tt, tt), ((tt, tt, tt), tt))))))))))))))))))))))))))))))))))))

-- ---- its log alone

one-law : LivesLaw one
one-law = record {
  given = by-pairs _ (named given_object one) (λ u e. rw e tt) (search tt);
  ended = by-pairs _ (named given_object one) (λ u e. rw e tt) (search (tt, lit≤));
  homes = search tt;
}

pub one-lives : WholeLives one
one-lives = record { law = one-law; each_ended = by-both _ (all_ended one) (named given_object one) (λ u e f. ap length (e ∙ sym f)) (search tt) (search tt) }

pub one-returns : ReturnsLaw one
one-returns = record {
  returned = same-times (named returned_units one) (named taken_units one) (search tt) (search tt);
  receivers = tt;
  arrive = (λ c u. refl, tt);
}

one-plain : DomainLaw Plain one
one-plain = record { numbers = search (tt, lit≤); sections = search tt; periods = search tt }

one-tracing : DomainLaw Tracing one
one-tracing = record { numbers = search (tt, lit≤); sections = search tt; periods = search (tt, inl, lit≤) }

pub one-grace : WholeGrace one
one-grace = record { law = record { plain = one-plain; tracing = one-tracing }; plain_ended = refl; tracing_ended = refl }

pub one-stamps : StampLaw one
one-stamps = record {
  plain_stamps = search tt;
  tracing_stamps = search (tt, lit≤);
  plain_seen = search tt;
  tracing_seen = search (tt, lit≤);
  seals = search tt;
  returns = search (tt, lit≤);
}

-- no reference is acquired, and the one that is given up is the last
pub one-references : ReferenceLaw one
one-references u life k = refl

-- ---- its histories

-- those that the order makes
abbrev made : List ℕ → List Past
made name = (over (shelved_after visited_journal.maps) one_order nothing_shelved).shelves.histories name

abbrev Same : List ℕ → Type 0
Same other = history_of visited_journal.graphs other ≡ made other

pub one-histories : (name : List ℕ) → history_of visited_journal.graphs name ≡ made name
one-histories name = elim (cases_Bool (bytes_eq (codes "q") name)) [
  | inl y ↦ of-name (codes "q") y refl
  | inr q ↦ elim (cases_Bool (bytes_eq (codes "r") name)) [
    | inl y ↦ of-name (codes "r") y refl
    | inr r ↦ elim (cases_Bool (bytes_eq (codes "t") name)) [ inl y ↦ of-name (codes "t") y refl | inr t ↦ rw (q, r, t) refl ]
  ]
]
  where
    of-name : (other : List ℕ) → bytes_eq other name ≡ true → Same other → Same name
    of-name other y e = subst Same ((bytes_eq-Decides other name).0 y) e

-- nothing stands in a list or tree at last
pub one-within : (u : ℕ) → (over (shelved_after visited_journal.maps) one_order nothing_shelved).shelves.within u ≡ None
one-within u = elim (eqb_tells u 3) [ inl y ↦ rw y.1 refl | inr y ↦ rw y.0 refl ]

-- no push is refused
one-refusals : RefusalLaw visited_journal.maps (history_of visited_journal.graphs)
one-refusals name = each (bytes_eq (codes "q") name) (bytes_eq (codes "r") name) (bytes_eq (codes "t") name)
  where
    each : (a b c : Bool) → EachAfter (RefusalFits visited_journal.maps (history_of visited_journal.graphs) (place_of visited_journal.maps name)) [] (cond a history_q (cond b history_r (cond c history_t [])))
    each true b c = (tt, (tt, (tt, tt)))
    each false true c = (tt, tt)
    each false false true = (tt, tt)
    each false false false = tt

pub one-graphs : GraphLaws visited_journal.maps made one → GraphLaws visited_journal.maps (history_of visited_journal.graphs) one
one-graphs laws = record {
  each = λ name. subst (λ (h : List Past). GraphHistory visited_journal.maps name h one) (sym (one-histories name)) (laws.each name);
  keys = λ name. subst (λ (h : List Past). KeysLaw h one) (sym (one-histories name)) (laws.keys name);
  refusals = one-refusals;
  locks = laws.locks;
  takes = laws.takes;
}

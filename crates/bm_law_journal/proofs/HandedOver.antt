-- The worked journal of two processors, one of which hands an object to the other through a slot: entry by entry, and by its logs together.
use Rattle.std.specs.Prelude.{◌≡◌, ◌<◌, ℕ, zero, suc, List, [], ◌∷◌, get_or}
use Rattle.std.proofs.Common.{◌∙◌, ap, arith, codes, inl, inr, length, lit<, lit≤, refl, sym}
use Rattle.bm_class.specs.Sizes.{size_of_class}
use Rattle.bm_page.specs.Stock.{any_out, fetched, given, is_stock_of, least_below, next_unit, returned, unit_given}
use Rattle.bm_journal.specs.declared.ids.Domain.TheVariants.{Plain, Tracing}
use Rattle.bm_law.specs.Lists.{AllName, Log}
use Rattle.bm_law.specs.State.{opening}
use Rattle.bm_law_graphs.specs.GraphLaws.{GraphLaws}
use Rattle.bm_law_graphs.specs.History.{calls_on, of_processor, placed}
use Rattle.bm_law_graphs.specs.Locks.{Consecutive, Free}
use Rattle.bm_law_laid.specs.OrderOf.{AllBelow}
use Rattle.bm_law_lives.specs.GraceLaw.{DomainLaw, WholeGrace}
use Rattle.bm_law_lives.specs.Lives.{LivesLaw, WholeLives, all_ended, given_object}
use Rattle.bm_law_lives.specs.Returns.{ReturnsLaw, returned_units, taken_units}
use Rattle.bm_law_lives.specs.StampLaw.{StampLaw}
use Rattle.bm_law_lives.specs.Together.{named}
use Rattle.bm_law_lives.proofs.Named.{by-both, by-pairs, same-times}
use Rattle.bm_law_objects.specs.Objects.{IsOwned}
use Rattle.bm_law_objects.specs.ReferenceLaw.{ReferenceLaw}
use Rattle.bm_law_order.specs.Orders.{AllFit, IsLaid, Order, part_of}
use Rattle.bm_law_order.specs.Polls.{IsPolled}
use Rattle.bm_law_order.specs.Seals.{IsSealed}
use Rattle.bm_law_order.specs.Whole.{whole}
use Rattle.bm_law_places.specs.Placed.{IsPlaced}
use Rattle.bm_law_places.specs.World.{SweepsInbox, outset, world_after}
use Rattle.bm_law_places.proofs.Logs.{parts-name}
use Rattle.bm_law_places.proofs.Standing.{all-placed, found-in-parts}
use Rattle.bm_law_scenario.specs.WorkedSlots.{desk, giver, taker}
use Rattle.bm_law_journal.specs.Lawful.{history_of}

abbrev pub both : List Log
both = giver ∷ taker ∷ []

abbrev pub both_order : Order
both_order = whole [] both

-- ---- entry by entry

pub both-laid : IsLaid 2 1 both_order
unfolding any_out fetched given is_stock_of least_below next_unit returned size_of_class unit_given
both-laid = (record { words = tt; numbers = tt; looks = tt; lives = tt; pages = refl; boxes = tt }, (record { words = tt; numbers = tt; looks = tt; lives = tt; pages = refl; boxes = tt }, (record { words = tt; numbers = tt; looks = tt; lives = tt; pages = tt; boxes = tt }, (record { words = record { next_is = refl; parity = refl }; numbers = tt; looks = tt; lives = tt; pages = tt; boxes = tt }, (record { words = tt; numbers = tt; looks = tt; lives = tt; pages = tt; boxes = tt }, (record { words = tt; numbers = tt; looks = tt; lives = tt; pages = tt; boxes = tt }, (record { words = tt; numbers = tt; looks = tt; lives = tt; pages = tt; boxes = tt }, (record { words = tt; numbers = tt; looks = tt; lives = tt; pages = tt; boxes = tt }, (record { words = tt; numbers = tt; looks = tt; lives = tt; pages = tt; boxes = tt }, (record { words = tt; numbers = tt; looks = tt; lives = tt; pages = tt; boxes = tt }, (record { words = tt; numbers = tt; looks = tt; lives = record { none = refl; next_is = refl }; pages = tt; boxes = tt }, (record { words = tt; numbers = tt; looks = tt; lives = tt; pages = tt; boxes = tt }, (record { words = record { next_is = refl; parity = refl }; numbers = tt; looks = tt; lives = tt; pages = tt; boxes = tt }, (record { words = tt; numbers = tt; looks = tt; lives = tt; pages = tt; boxes = tt }, (record { words = tt; numbers = tt; looks = tt; lives = tt; pages = tt; boxes = tt }, (record { words = tt; numbers = tt; looks = tt; lives = tt; pages = tt; boxes = tt }, (record { words = record { next_is = refl; parity = refl }; numbers = tt; looks = tt; lives = tt; pages = tt; boxes = tt }, (record { words = tt; numbers = tt; looks = tt; lives = tt; pages = tt; boxes = tt }, (record { words = tt; numbers = tt; looks = tt; lives = record { references = 1; has = record { held = record { maker = 0; count = 1 }; holds = refl; count = refl; now_is = refl }; none = refl }; pages = tt; boxes = tt }, (record { words = tt; numbers = tt; looks = tt; lives = record { unit = 3; life = 1; under = refl; has = record { held = record { maker = 0; count = 1 }; holds = refl; count = refl; now_is = refl } }; pages = tt; boxes = tt }, (record { words = tt; numbers = tt; looks = tt; lives = record { life = 1; under = refl }; pages = tt; boxes = tt }, (record { words = tt; numbers = tt; looks = tt; lives = tt; pages = tt; boxes = tt }, (record { words = tt; numbers = tt; looks = tt; lives = tt; pages = tt; boxes = tt }, (record { words = tt; numbers = tt; looks = tt; lives = tt; pages = tt; boxes = tt }, (record { words = tt; numbers = tt; looks = tt; lives = tt; pages = tt; boxes = tt }, (record { words = record { next_is = refl; parity = refl }; numbers = tt; looks = tt; lives = tt; pages = tt; boxes = tt }, (record { words = tt; numbers = tt; looks = tt; lives = tt; pages = tt; boxes = tt }, (record { words = tt; numbers = tt; looks = tt; lives = tt; pages = tt; boxes = tt }, (record { words = tt; numbers = tt; looks = tt; lives = tt; pages = tt; boxes = tt }, (record { words = tt; numbers = tt; looks = tt; lives = tt; pages = tt; boxes = tt }, (record { words = tt; numbers = tt; looks = tt; lives = tt; pages = tt; boxes = record { before = 2 ∷ 1 ∷ 0 ∷ []; units_are = refl } }, (record { words = tt; numbers = refl; looks = tt; lives = tt; pages = tt; boxes = tt }, (record { words = tt; numbers = record { even = refl; number = refl }; looks = tt; lives = tt; pages = tt; boxes = tt }, (record { words = tt; numbers = record { driver = refl; odd = refl; number = refl }; looks = record { first = refl; later = refl; passed = (inl refl, (inl refl, (inl refl, (inl refl, tt)))) }; lives = tt; pages = tt; boxes = tt }, (record { words = tt; numbers = refl; looks = tt; lives = tt; pages = tt; boxes = tt }, (record { words = tt; numbers = tt; looks = tt; lives = tt; pages = (refl, (refl, (refl, tt))); boxes = tt }, (record { words = tt; numbers = tt; looks = tt; lives = tt; pages = tt; boxes = record { before = 3 ∷ 7 ∷ 6 ∷ 5 ∷ 4 ∷ []; units_are = refl } }, (record { words = tt; numbers = refl; looks = tt; lives = tt; pages = tt; boxes = tt }, (record { words = tt; numbers = record { even = refl; number = refl }; looks = tt; lives = tt; pages = tt; boxes = tt }, (record { words = tt; numbers = record { driver = refl; odd = refl; number = refl }; looks = record { first = refl; later = refl; passed = (inl refl, (inl refl, (inl refl, (inl refl, tt)))) }; lives = tt; pages = tt; boxes = tt }, (record { words = tt; numbers = refl; looks = tt; lives = tt; pages = tt; boxes = tt }, (record { words = tt; numbers = tt; looks = tt; lives = tt; pages = (refl, (refl, (refl, (refl, (refl, tt))))); boxes = tt }, tt))))))))))))))))))))))))))))))))))))))))))

pub both-polled : IsPolled 2 1 both_order
both-polled = (tt, (tt, (tt, (tt, (tt, (tt, (tt, (tt, (tt, (tt, (tt, (tt, (tt, (tt, (tt, (tt, (tt, (tt, (tt, (tt, (tt, (tt, (tt, (tt, (tt, (tt, (tt, (tt, (tt, (tt, (tt, (tt, (record { class = 0; stamp = 2; waits = refl; below = lit≤ tt }, (tt, (inl (record { waits = λ k h. absurd (cc); idle = λ k. inr (lit≤ tt) }), (tt, (tt, (tt, (record { class = 0; stamp = 4; waits = refl; below = lit≤ tt }, (tt, (inl (record { waits = λ k h. absurd (cc); idle = λ k. inr (lit≤ tt) }), (tt, tt))))))))))))))))))))))))))))))))))))))))))

pub both-sealed : IsSealed both_order
both-sealed = (tt, (tt, (tt, (tt, (tt, (tt, (tt, (tt, (tt, (tt, (refl, (tt, (tt, (tt, (tt, (tt, (tt, (tt, (tt, (tt, (tt, (tt, (tt, (tt, (tt, (tt, (tt, (tt, (tt, (tt, (tt, (tt, (tt, (tt, (tt, (tt, (tt, (tt, (tt, (tt, (tt, (tt, tt))))))))))))))))))))))))))))))))))))))))))

pub both-owned : IsOwned both_order
both-owned = (tt, (tt, (tt, (tt, (tt, (tt, (tt, (tt, (tt, (tt, (record { asked = record { type_name = codes "item"; values = 7 ∷ [] }; is = refl }, (record { was_is = refl; by_is = refl; alive = record { held = record { maker = 0; count = 1 }; holds = refl; now_is = refl } }, (tt, (tt, (tt, (tt, (tt, (record { was_is = refl; by_is = refl; alive = tt }, (tt, (tt, (tt, (tt, (tt, (tt, (tt, (tt, (tt, (tt, (tt, (record { was_is = refl; by_is = refl; alive = tt }, (tt, (tt, (tt, (tt, (tt, (tt, (tt, (tt, (tt, (tt, (tt, (tt, tt))))))))))))))))))))))))))))))))))))))))))

below : AllBelow 2 both_order
below = (lit< tt, (lit< tt, (lit< tt, (lit< tt, (lit< tt, (lit< tt, (lit< tt, (lit< tt, (lit< tt, (lit< tt, (lit< tt, (lit< tt, (lit< tt, (lit< tt, (lit< tt, (lit< tt, (lit< tt, (lit< tt, (lit< tt, (lit< tt, (lit< tt, (lit< tt, (lit< tt, (lit< tt, (lit< tt, (lit< tt, (lit< tt, (lit< tt, (lit< tt, (lit< tt, (lit< tt, (lit< tt, (lit< tt, (lit< tt, (lit< tt, (lit< tt, (lit< tt, (lit< tt, (lit< tt, (lit< tt, (lit< tt, (lit< tt, tt))))))))))))))))))))))))))))))))))))))))))

names : (p : ℕ) → p < 2 → AllName (opening p) (part_of p both_order)
names zero lt = (tt, (tt, (tt, (tt, (refl, (refl, ((refl, refl), (refl, (tt, (refl, (tt, (tt, (tt, (tt, (tt, (tt, (refl, (refl, (tt, (tt, (tt, ((refl, refl), tt))))))))))))))))))))))
names (suc zero) lt = (tt, (tt, (tt, (tt, (tt, (tt, (tt, (refl, (refl, ((refl, refl), (refl, (tt, (tt, (tt, (refl, (refl, (tt, (tt, (tt, ((refl, refl), tt))))))))))))))))))))
names (suc (suc p)) lt = absurd (omega (arith, lt))

sweeps : AllFit world_after SweepsInbox both_order (outset 2 1)
unfolding any_out fetched given is_stock_of least_below next_unit returned size_of_class unit_given
sweeps = (tt, (tt, (tt, (tt, (tt, (tt, (tt, (tt, (tt, (tt, (tt, (tt, (tt, (tt, (tt, (tt, (tt, (tt, (tt, (tt, (tt, (tt, (tt, (tt, (tt, (tt, (tt, (tt, (tt, (tt, (refl, (tt, (tt, (tt, (tt, (tt, (refl, (tt, (tt, (tt, (tt, (tt, tt))))))))))))))))))))))))))))))))))))))))))

pub both-placed : IsPlaced 2 1 both_order
both-placed = all-placed 2 1 both_order (found-in-parts both_order (outset 2 1) both-laid (parts-name 2 both_order below names) sweeps)

-- ---- together

both-law : LivesLaw both
both-law = record {
  given = by-pairs _ (named given_object both) (λ u e. rw e tt) (search tt);
  ended = by-pairs _ (named given_object both) (λ u e. rw e tt) (search (tt, lit≤));
  homes = search tt;
}

pub both-lives : WholeLives both
both-lives = record { law = both-law; each_ended = by-both _ (all_ended both) (named given_object both) (λ u e f. ap length (e ∙ sym f)) (search tt) (search tt) }

pub both-returns : ReturnsLaw both
both-returns = record {
  returned = same-times (named returned_units both) (named taken_units both) (search tt) (search tt);
  receivers = tt;
  arrive = (λ c u. refl, (λ c u. refl, tt));
}

both-plain : DomainLaw Plain both
both-plain = record { numbers = search (tt, lit≤); sections = search tt; periods = search tt }

both-tracing : DomainLaw Tracing both
both-tracing = record { numbers = search (tt, lit≤); sections = search tt; periods = search (tt, inl, lit≤) }

pub both-grace : WholeGrace both
both-grace = record { law = record { plain = both-plain; tracing = both-tracing }; plain_ended = refl; tracing_ended = refl }

pub both-stamps : StampLaw both
both-stamps = record {
  plain_stamps = search tt;
  tracing_stamps = search (tt, lit≤);
  plain_seen = search tt;
  tracing_seen = search (tt, lit≤);
  seals = search tt;
  returns = search (tt, lit≤);
}

-- no reference is acquired, and the one that is given up is the last
pub both-references : ReferenceLaw both
both-references u life k = refl

parts : (name : List ℕ) (p : ℕ) → of_processor p (placed 0 []) ≡ calls_on (desk ∷ []) name p (get_or both p [])
parts name zero = refl
parts name (suc zero) = refl
parts name (suc (suc p)) = refl

locks : (name : List ℕ) (p : ℕ) → Consecutive name Free (get_or both p [])
locks name zero = search tt
locks name (suc zero) = search tt
locks name (suc (suc p)) = tt

pub both-graphs : GraphLaws (desk ∷ []) (history_of []) both
both-graphs = record {
  each = λ name. record { right = refl; parts = parts name };
  keys = λ name. tt;
  refusals = λ name. tt;
  locks = λ name p lt. locks name p;
  takes = λ u life. refl;
}

-- The journal in which a unit is lent, entry by entry of its one order.
use Rattle.std.specs.Prelude.{◌<◌, ℕ, zero, suc, List, [], ◌∷◌, codes}
use Rattle.std.proofs.Common.{refl, arith, inl, inr, lit<, lit≤}
use Rattle.bm_class.specs.Sizes.{size_of_class}
use Rattle.bm_page.specs.Stock.{any_out, fetched, given, is_stock_of, least_below, next_unit, returned, unit_given}
use Rattle.bm_law.specs.Lists.{AllName}
use Rattle.bm_law.specs.State.{opening}
use Rattle.bm_law_laid.specs.OrderOf.{AllBelow}
use Rattle.bm_law_objects.specs.Objects.{IsOwned}
use Rattle.bm_law_order.specs.Orders.{AllFit, IsLaid, Order, part_of}
use Rattle.bm_law_order.specs.Polls.{IsPolled}
use Rattle.bm_law_order.specs.Seals.{IsSealed}
use Rattle.bm_law_order.specs.Whole.{whole}
use Rattle.bm_law_places.specs.Placed.{IsPlaced}
use Rattle.bm_law_places.specs.World.{SweepsInbox, outset, world_after}
use Rattle.bm_law_places.proofs.Logs.{parts-name}
use Rattle.bm_law_places.proofs.Standing.{all-placed, found-in-parts}
use Rattle.bm_law_journal.specs.WorkedLoan.{found_first, loan_logs, logs_seeing}
use Rattle.bm_law_journal.specs.WorkedTurns.{turns}
use Rattle.bm_law_journal.proofs.BorrowerLog.{borrower-leaves}
use Rattle.bm_law_journal.proofs.LenderLog.{lender-leaves}
use Rattle.bm_law_journal.proofs.Lent.{one-waits}

abbrev pub loan_order : Order
loan_order = whole turns loan_logs

pub loan-laid : IsLaid 2 1 loan_order
unfolding any_out fetched given is_stock_of least_below next_unit returned size_of_class unit_given
loan-laid = (record { words = tt; numbers = tt; looks = tt; lives = tt; pages = refl; boxes = tt }, (record { words = tt; numbers = tt; looks = tt; lives = tt; pages = refl; boxes = tt }, (record { words = tt; numbers = tt; looks = tt; lives = tt; pages = tt; boxes = tt }, (record { words = record { next_is = refl; parity = refl }; numbers = tt; looks = tt; lives = tt; pages = tt; boxes = tt }, (record { words = tt; numbers = tt; looks = tt; lives = tt; pages = tt; boxes = tt }, (record { words = tt; numbers = tt; looks = tt; lives = tt; pages = tt; boxes = tt }, (record { words = tt; numbers = tt; looks = tt; lives = tt; pages = tt; boxes = tt }, (record { words = tt; numbers = tt; looks = tt; lives = tt; pages = tt; boxes = tt }, (record { words = tt; numbers = tt; looks = tt; lives = tt; pages = tt; boxes = tt }, (record { words = tt; numbers = tt; looks = tt; lives = tt; pages = tt; boxes = tt }, (record { words = tt; numbers = tt; looks = tt; lives = record { none = refl; next_is = refl }; pages = tt; boxes = tt }, (record { words = tt; numbers = tt; looks = tt; lives = tt; pages = tt; boxes = tt }, (record { words = tt; numbers = tt; looks = tt; lives = tt; pages = tt; boxes = refl }, (record { words = tt; numbers = tt; looks = tt; lives = tt; pages = tt; boxes = tt }, (record { words = tt; numbers = tt; looks = tt; lives = tt; pages = refl; boxes = tt }, (record { words = tt; numbers = tt; looks = tt; lives = tt; pages = tt; boxes = tt }, (record { words = tt; numbers = tt; looks = tt; lives = tt; pages = tt; boxes = tt }, (record { words = tt; numbers = tt; looks = tt; lives = tt; pages = tt; boxes = tt }, (record { words = tt; numbers = tt; looks = tt; lives = tt; pages = tt; boxes = tt }, (record { words = record { next_is = refl; parity = refl }; numbers = tt; looks = tt; lives = tt; pages = tt; boxes = tt }, (record { words = tt; numbers = tt; looks = tt; lives = tt; pages = tt; boxes = tt }, (record { words = tt; numbers = tt; looks = tt; lives = tt; pages = tt; boxes = tt }, (record { words = record { next_is = refl; parity = refl }; numbers = tt; looks = tt; lives = tt; pages = tt; boxes = tt }, (record { words = tt; numbers = tt; looks = tt; lives = tt; pages = tt; boxes = tt }, (record { words = tt; numbers = tt; looks = tt; lives = record { references = 1; has = record { held = record { maker = 0; count = 1 }; holds = refl; count = refl; now_is = refl }; none = refl }; pages = tt; boxes = tt }, (record { words = tt; numbers = tt; looks = tt; lives = record { unit = 0; life = 1; under = refl; has = record { held = record { maker = 0; count = 1 }; holds = refl; count = refl; now_is = refl } }; pages = tt; boxes = tt }, (record { words = tt; numbers = tt; looks = tt; lives = record { life = 1; under = refl }; pages = tt; boxes = tt }, (record { words = tt; numbers = tt; looks = tt; lives = tt; pages = tt; boxes = tt }, (record { words = tt; numbers = tt; looks = tt; lives = tt; pages = tt; boxes = tt }, (record { words = tt; numbers = tt; looks = tt; lives = tt; pages = tt; boxes = tt }, (record { words = tt; numbers = tt; looks = tt; lives = tt; pages = tt; boxes = tt }, (record { words = tt; numbers = tt; looks = tt; lives = tt; pages = tt; boxes = tt }, (record { words = tt; numbers = tt; looks = tt; lives = tt; pages = tt; boxes = refl }, (record { words = tt; numbers = tt; looks = tt; lives = tt; pages = tt; boxes = tt }, (record { words = tt; numbers = tt; looks = tt; lives = tt; pages = refl; boxes = tt }, (record { words = tt; numbers = tt; looks = tt; lives = tt; pages = tt; boxes = tt }, (record { words = tt; numbers = tt; looks = tt; lives = tt; pages = tt; boxes = tt }, (record { words = tt; numbers = tt; looks = tt; lives = tt; pages = tt; boxes = tt }, (record { words = tt; numbers = tt; looks = tt; lives = tt; pages = tt; boxes = tt }, (record { words = tt; numbers = refl; looks = tt; lives = tt; pages = tt; boxes = tt }, (record { words = record { next_is = refl; parity = refl }; numbers = tt; looks = tt; lives = tt; pages = tt; boxes = tt }, (record { words = tt; numbers = tt; looks = tt; lives = tt; pages = tt; boxes = tt }, (record { words = tt; numbers = tt; looks = tt; lives = tt; pages = tt; boxes = tt }, (record { words = tt; numbers = tt; looks = tt; lives = tt; pages = tt; boxes = refl }, (record { words = tt; numbers = tt; looks = tt; lives = tt; pages = tt; boxes = tt }, (record { words = tt; numbers = tt; looks = tt; lives = tt; pages = refl; boxes = tt }, (record { words = tt; numbers = record { even = refl; number = refl }; looks = tt; lives = tt; pages = tt; boxes = tt }, (record { words = tt; numbers = refl; looks = tt; lives = tt; pages = tt; boxes = tt }, (record { words = tt; numbers = tt; looks = tt; lives = tt; pages = tt; boxes = tt }, (record { words = tt; numbers = tt; looks = tt; lives = tt; pages = tt; boxes = tt }, (record { words = tt; numbers = tt; looks = tt; lives = tt; pages = tt; boxes = tt }, (record { words = tt; numbers = tt; looks = tt; lives = tt; pages = tt; boxes = tt }, (record { words = record { next_is = refl; parity = refl }; numbers = tt; looks = tt; lives = tt; pages = tt; boxes = tt }, (record { words = tt; numbers = tt; looks = tt; lives = tt; pages = tt; boxes = tt }, (record { words = record { next_is = refl; parity = refl }; numbers = tt; looks = tt; lives = tt; pages = tt; boxes = tt }, (record { words = tt; numbers = tt; looks = tt; lives = tt; pages = tt; boxes = tt }, (record { words = record { next_is = refl; parity = refl }; numbers = tt; looks = tt; lives = tt; pages = tt; boxes = tt }, (record { words = tt; numbers = tt; looks = tt; lives = tt; pages = tt; boxes = tt }, (record { words = tt; numbers = tt; looks = tt; lives = tt; pages = tt; boxes = tt }, (record { words = tt; numbers = tt; looks = tt; lives = tt; pages = tt; boxes = refl }, (record { words = tt; numbers = tt; looks = tt; lives = tt; pages = tt; boxes = tt }, (record { words = tt; numbers = tt; looks = tt; lives = tt; pages = refl; boxes = tt }, (record { words = tt; numbers = record { driver = refl; odd = refl; number = refl }; looks = record { first = refl; later = refl; passed = (inr (omega arith), (inl refl, tt)) }; lives = tt; pages = tt; boxes = tt }, (record { words = tt; numbers = refl; looks = tt; lives = tt; pages = tt; boxes = tt }, (record { words = tt; numbers = tt; looks = tt; lives = tt; pages = tt; boxes = record { there = omega arith; some = omega arith } }, (record { words = tt; numbers = tt; looks = tt; lives = tt; pages = tt; boxes = tt }, (record { words = tt; numbers = tt; looks = tt; lives = tt; pages = tt; boxes = tt }, (record { words = tt; numbers = tt; looks = tt; lives = tt; pages = tt; boxes = tt }, (record { words = tt; numbers = tt; looks = tt; lives = tt; pages = tt; boxes = tt }, (record { words = record { next_is = refl; parity = refl }; numbers = tt; looks = tt; lives = tt; pages = tt; boxes = tt }, (record { words = tt; numbers = tt; looks = tt; lives = tt; pages = tt; boxes = tt }, (record { words = tt; numbers = tt; looks = tt; lives = tt; pages = tt; boxes = tt }, (record { words = tt; numbers = tt; looks = tt; lives = tt; pages = tt; boxes = refl }, (record { words = tt; numbers = tt; looks = tt; lives = tt; pages = tt; boxes = refl }, (record { words = tt; numbers = tt; looks = tt; lives = tt; pages = tt; boxes = tt }, (record { words = tt; numbers = tt; looks = tt; lives = tt; pages = tt; boxes = tt }, (record { words = tt; numbers = tt; looks = tt; lives = tt; pages = tt; boxes = tt }, (record { words = tt; numbers = tt; looks = tt; lives = tt; pages = tt; boxes = tt }, (record { words = tt; numbers = tt; looks = tt; lives = tt; pages = tt; boxes = tt }, (record { words = tt; numbers = tt; looks = tt; lives = tt; pages = tt; boxes = tt }, (record { words = tt; numbers = tt; looks = tt; lives = tt; pages = refl; boxes = tt }, (record { words = tt; numbers = tt; looks = tt; lives = tt; pages = tt; boxes = tt }, (record { words = tt; numbers = tt; looks = tt; lives = tt; pages = tt; boxes = tt }, (record { words = tt; numbers = tt; looks = tt; lives = tt; pages = tt; boxes = tt }, (record { words = tt; numbers = tt; looks = tt; lives = tt; pages = tt; boxes = tt }, (record { words = record { next_is = refl; parity = refl }; numbers = tt; looks = tt; lives = tt; pages = tt; boxes = tt }, (record { words = tt; numbers = tt; looks = tt; lives = tt; pages = tt; boxes = tt }, (record { words = tt; numbers = tt; looks = tt; lives = tt; pages = tt; boxes = tt }, (record { words = tt; numbers = tt; looks = tt; lives = tt; pages = tt; boxes = tt }, (record { words = tt; numbers = tt; looks = tt; lives = tt; pages = tt; boxes = tt }, (record { words = tt; numbers = tt; looks = tt; lives = tt; pages = tt; boxes = tt }, (record { words = tt; numbers = tt; looks = tt; lives = tt; pages = tt; boxes = tt }, (record { words = tt; numbers = tt; looks = tt; lives = record { none = refl; next_is = refl }; pages = tt; boxes = tt }, (record { words = tt; numbers = tt; looks = tt; lives = tt; pages = tt; boxes = tt }, (record { words = tt; numbers = tt; looks = tt; lives = tt; pages = tt; boxes = refl }, (record { words = tt; numbers = tt; looks = tt; lives = tt; pages = tt; boxes = tt }, (record { words = tt; numbers = tt; looks = tt; lives = tt; pages = refl; boxes = tt }, (record { words = tt; numbers = tt; looks = tt; lives = tt; pages = tt; boxes = tt }, (record { words = tt; numbers = tt; looks = tt; lives = tt; pages = tt; boxes = tt }, (record { words = tt; numbers = tt; looks = tt; lives = tt; pages = tt; boxes = tt }, (record { words = tt; numbers = tt; looks = tt; lives = record { references = 1; has = record { held = record { maker = 0; count = 1 }; holds = refl; count = refl; now_is = refl }; none = refl }; pages = tt; boxes = tt }, (record { words = tt; numbers = tt; looks = tt; lives = record { unit = 0; life = 2; under = refl; has = record { held = record { maker = 0; count = 1 }; holds = refl; count = refl; now_is = refl } }; pages = tt; boxes = tt }, (record { words = tt; numbers = tt; looks = tt; lives = record { life = 2; under = refl }; pages = tt; boxes = tt }, (record { words = tt; numbers = tt; looks = tt; lives = tt; pages = tt; boxes = tt }, (record { words = tt; numbers = tt; looks = tt; lives = tt; pages = tt; boxes = tt }, (record { words = tt; numbers = tt; looks = tt; lives = tt; pages = tt; boxes = tt }, (record { words = tt; numbers = tt; looks = tt; lives = tt; pages = tt; boxes = tt }, (record { words = record { next_is = refl; parity = refl }; numbers = tt; looks = tt; lives = tt; pages = tt; boxes = tt }, (record { words = tt; numbers = tt; looks = tt; lives = tt; pages = tt; boxes = tt }, (record { words = tt; numbers = tt; looks = tt; lives = tt; pages = tt; boxes = tt }, (record { words = tt; numbers = tt; looks = tt; lives = tt; pages = tt; boxes = refl }, (record { words = tt; numbers = tt; looks = tt; lives = tt; pages = tt; boxes = tt }, (record { words = tt; numbers = tt; looks = tt; lives = tt; pages = refl; boxes = tt }, (record { words = tt; numbers = tt; looks = tt; lives = tt; pages = tt; boxes = tt }, (record { words = tt; numbers = tt; looks = tt; lives = tt; pages = tt; boxes = tt }, (record { words = tt; numbers = tt; looks = tt; lives = tt; pages = tt; boxes = tt }, (record { words = tt; numbers = tt; looks = tt; lives = tt; pages = tt; boxes = tt }, (record { words = tt; numbers = tt; looks = tt; lives = tt; pages = tt; boxes = tt }, (record { words = tt; numbers = tt; looks = tt; lives = tt; pages = tt; boxes = tt }, (record { words = tt; numbers = tt; looks = tt; lives = tt; pages = tt; boxes = record { before = 0 ∷ []; units_are = refl } }, (record { words = tt; numbers = refl; looks = tt; lives = tt; pages = tt; boxes = tt }, (record { words = tt; numbers = record { even = refl; number = refl }; looks = tt; lives = tt; pages = tt; boxes = tt }, (record { words = tt; numbers = record { driver = refl; odd = refl; number = refl }; looks = record { first = refl; later = refl; passed = (inl refl, (inl refl, (inl refl, (inl refl, tt)))) }; lives = tt; pages = tt; boxes = tt }, (record { words = tt; numbers = refl; looks = tt; lives = tt; pages = tt; boxes = tt }, (record { words = tt; numbers = tt; looks = tt; lives = tt; pages = (refl, tt); boxes = tt }, tt)))))))))))))))))))))))))))))))))))))))))))))))))))))))))))))))))))))))))))))))))))))))))))))))))))))))))))))))))))))))))))))

pub loan-polled : IsPolled 2 1 loan_order
loan-polled = (tt, (tt, (tt, (tt, (tt, (tt, (tt, (tt, (tt, (tt, (tt, (tt, (tt, (tt, (tt, (tt, (tt, (tt, (tt, (tt, (tt, (tt, (tt, (tt, (tt, (tt, (tt, (tt, (tt, (tt, (tt, (tt, (tt, (tt, (tt, (tt, (tt, (tt, (tt, (tt, (tt, (tt, (tt, (tt, (tt, (tt, (record { class = 10; stamp = 2; waits = refl; below = lit≤ tt }, (inl (record { waits = λ k h. one-waits h.0; idle = λ k. absurd (k refl) }), (tt, (tt, (tt, (tt, (tt, (tt, (tt, (tt, (tt, (tt, (tt, (tt, (tt, (tt, (tt, (inl (record { waits = λ k h. absurd (cc); idle = λ k. inr (lit≤ tt) }), (tt, (tt, (tt, (tt, (tt, (tt, (tt, (tt, (tt, (tt, (tt, (tt, (tt, (tt, (tt, (tt, (tt, (tt, (tt, (tt, (tt, (tt, (tt, (tt, (tt, (tt, (tt, (tt, (tt, (tt, (tt, (tt, (tt, (tt, (tt, (tt, (tt, (tt, (tt, (tt, (tt, (tt, (tt, (tt, (tt, (tt, (tt, (tt, (tt, (tt, (tt, (tt, (tt, (tt, (tt, (tt, (tt, (record { class = 10; stamp = 2; waits = refl; below = lit≤ tt }, (tt, (inl (record { waits = λ k h. absurd (cc); idle = λ k. inr (lit≤ tt) }), (tt, tt)))))))))))))))))))))))))))))))))))))))))))))))))))))))))))))))))))))))))))))))))))))))))))))))))))))))))))))))))))))))))))))

pub loan-sealed : IsSealed loan_order
loan-sealed = (tt, (tt, (tt, (tt, (tt, (tt, (tt, (tt, (tt, (tt, (refl, (tt, (tt, (tt, (tt, (tt, (tt, (tt, (tt, (tt, (tt, (tt, (tt, (tt, (tt, (tt, (tt, (tt, (tt, (tt, (tt, (tt, (tt, (tt, (tt, (tt, (tt, (tt, (tt, (tt, (tt, (tt, (tt, (tt, (tt, (tt, (tt, (tt, (tt, (tt, (tt, (tt, (tt, (tt, (tt, (tt, (tt, (tt, (tt, (tt, (tt, (tt, (tt, (tt, (tt, (tt, (tt, (tt, (tt, (tt, (tt, (tt, (tt, (tt, (tt, (tt, (tt, (tt, (tt, (tt, (tt, (tt, (tt, (tt, (tt, (tt, (tt, (tt, (tt, (tt, (tt, (tt, ((refl, lit≤ tt), (tt, (tt, (tt, (tt, (tt, (tt, (tt, (tt, (tt, (tt, (tt, (tt, (tt, (tt, (tt, (tt, (tt, (tt, (tt, (tt, (tt, (tt, (tt, (tt, (tt, (tt, (tt, (tt, (tt, (tt, (tt, (tt, tt)))))))))))))))))))))))))))))))))))))))))))))))))))))))))))))))))))))))))))))))))))))))))))))))))))))))))))))))))))))))))))))

pub loan-owned : (first : List ℕ) → IsOwned (whole turns (logs_seeing first))
loan-owned first = (tt, (tt, (tt, (tt, (tt, (tt, (tt, (tt, (tt, (tt, (record { asked = record { type_name = codes "big"; values = [] }; is = refl }, (tt, (tt, (tt, (tt, (tt, (tt, (tt, (record { was_is = refl; by_is = refl; alive = record { held = record { maker = 0; count = 1 }; holds = refl; now_is = refl } }, (tt, (tt, (tt, (tt, (record { was_is = refl; by_is = refl; alive = tt }, (tt, (tt, (tt, (tt, (tt, (tt, (tt, (tt, (tt, (tt, (tt, (tt, (tt, (tt, (tt, (tt, (tt, (tt, (tt, (tt, (tt, (tt, (tt, (tt, (tt, (tt, (tt, (tt, (tt, (tt, (tt, (tt, (tt, (tt, (tt, (tt, (tt, (tt, (tt, (tt, (tt, (tt, (tt, (tt, (tt, (tt, (tt, (tt, (tt, (tt, (tt, (tt, (tt, (tt, (tt, (tt, (tt, (tt, (tt, (tt, (tt, (tt, (tt, (tt, (tt, (tt, (tt, (tt, (record { asked = record { type_name = codes "wide"; values = [] }; is = refl }, (tt, (tt, (tt, (tt, (tt, (tt, (tt, (tt, (tt, (tt, (tt, (tt, (tt, (tt, (tt, (tt, (tt, (tt, (tt, (tt, (tt, (tt, (tt, (tt, (tt, (record { was_is = refl; by_is = refl; alive = tt }, (tt, (tt, (tt, (tt, (tt, (tt, tt)))))))))))))))))))))))))))))))))))))))))))))))))))))))))))))))))))))))))))))))))))))))))))))))))))))))))))))))))))))))))))))

below : AllBelow 2 loan_order
below = search lit<

names : (p : ℕ) → p < 2 → AllName (opening p) (part_of p loan_order)
names zero lt = lender-leaves.named
names (suc zero) lt = (borrower-leaves found_first).named
names (suc (suc p)) lt = absurd (omega (arith, lt))

sweeps : AllFit world_after SweepsInbox loan_order (outset 2 1)
unfolding any_out fetched given is_stock_of least_below next_unit returned size_of_class unit_given
sweeps = (tt, (tt, (tt, (tt, (tt, (tt, (tt, (tt, (tt, (tt, (tt, (tt, (tt, (tt, (tt, (tt, (tt, (tt, (tt, (tt, (tt, (tt, (tt, (tt, (tt, (tt, (tt, (tt, (tt, (tt, (tt, (tt, (tt, (tt, (tt, (tt, (tt, (tt, (tt, (tt, (tt, (tt, (tt, (tt, (tt, (tt, (tt, (tt, (tt, (tt, (tt, (tt, (tt, (tt, (tt, (tt, (tt, (tt, (tt, (tt, (tt, (tt, (tt, (tt, (tt, (tt, (tt, (tt, (tt, (tt, (tt, (tt, (tt, (tt, (tt, (tt, (tt, (tt, (tt, (tt, (tt, (tt, (tt, (tt, (tt, (tt, (tt, (tt, (tt, (tt, (tt, (tt, (tt, (tt, (tt, (tt, (tt, (tt, (tt, (tt, (tt, (tt, (tt, (tt, (tt, (tt, (tt, (tt, (tt, (tt, (tt, (tt, (tt, (tt, (tt, (tt, (tt, (tt, (tt, (refl, (tt, (tt, (tt, (tt, (tt, tt)))))))))))))))))))))))))))))))))))))))))))))))))))))))))))))))))))))))))))))))))))))))))))))))))))))))))))))))))))))))))))))

pub loan-placed : IsPlaced 2 1 loan_order
loan-placed = all-placed 2 1 loan_order (found-in-parts loan_order (outset 2 1) loan-laid (parts-name 2 loan_order below names) sweeps)

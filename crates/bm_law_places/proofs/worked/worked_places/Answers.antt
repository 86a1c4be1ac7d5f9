use Rattle.std.specs.Prelude.{◌≡◌, ◌<◌, ℕ, zero, suc, [], ◌∷◌, ◌++◌}
use Rattle.std.proofs.Common.{refl, sym, arith, append-nil, inl, inr, lit<}
use Rattle.std.proofs.lemmas.Bool.Decides.{eqb_tells}
use Rattle.bm_class.specs.Sizes.{size_of_class}
use Rattle.bm_page.specs.Stock.{any_out, fetched, given, is_stock_of, least_below, next_unit, returned, unit_given}
use Rattle.bm_law.specs.Lists.{AllName}
use Rattle.bm_law.specs.State.{opening}
use Rattle.bm_law_laid.specs.OrderOf.{AllBelow}
use Rattle.bm_law_order.specs.Orders.{AllFit, IsLaid, Order, part_of}
use Rattle.bm_law_places.specs.Place.{Place, Stock, Inbox, Cache, Hand, Living, Ending, times_at}
use Rattle.bm_law_places.specs.Placed.{InOnePlace, IsPlaced}
use Rattle.bm_law_places.specs.WorkedPlaces.{all_of, borrowed, fetched_from_other, filled_twice, given_in_stock, lost_at_fill, pushed_twice, received_unsent, returned_though_kept, sent_home, sent_though_kept, swept_from_stock, swept_home}
use Rattle.bm_law_places.specs.World.{SweepsInbox, outset, world_after, world_over}
use Rattle.bm_law_places.proofs.Apart.{not-twice}
use Rattle.bm_law_places.proofs.Logs.{parts-name}
use Rattle.bm_law_places.proofs.Standing.{all-placed, found-in-parts}
use Rattle.bm_law_places.proofs.worked.worked_places.Goals as goal

-- ---- right orders

home-below : AllBelow 2 (all_of (borrowed ++ sent_home))
home-below = (lit< tt, (lit< tt, (lit< tt, (lit< tt, (lit< tt, (lit< tt, (lit< tt, (lit< tt, (lit< tt, (lit< tt, (lit< tt, (lit< tt, (lit< tt, (lit< tt, (lit< tt, (lit< tt, (lit< tt, (lit< tt, (lit< tt, (lit< tt, (lit< tt, (lit< tt, tt))))))))))))))))))))))

home-names : (p : ℕ) → p < 2 → AllName (opening p) (part_of p (all_of (borrowed ++ sent_home)))
home-names zero lt = (tt, (tt, (tt, (tt, (refl, (refl, ((refl, refl), (refl, (refl, (refl, ((refl, refl), (refl, ((refl, refl), tt)))))))))))))
home-names (suc zero) lt = (tt, (refl, (refl, ((refl, refl), (refl, (refl, (tt, ((refl, refl), ((refl, refl), tt)))))))))
home-names (suc (suc p)) lt = absurd (omega (arith, lt))

home-laid : IsLaid 2 3 (all_of (borrowed ++ sent_home))
unfolding any_out fetched given is_stock_of least_below next_unit returned size_of_class unit_given
home-laid = (record { words = tt; numbers = tt; looks = tt; lives = tt; pages = refl; boxes = tt }, (record { words = tt; numbers = tt; looks = tt; lives = tt; pages = refl; boxes = tt }, (record { words = tt; numbers = tt; looks = tt; lives = tt; pages = tt; boxes = tt }, (record { words = tt; numbers = tt; looks = tt; lives = tt; pages = tt; boxes = tt }, (record { words = tt; numbers = tt; looks = tt; lives = tt; pages = tt; boxes = tt }, (record { words = tt; numbers = tt; looks = tt; lives = tt; pages = tt; boxes = tt }, (record { words = tt; numbers = tt; looks = tt; lives = record { none = refl; next_is = refl }; pages = tt; boxes = tt }, (record { words = tt; numbers = tt; looks = tt; lives = record { references = 1; has = record { held = record { maker = 1; count = 1 }; holds = refl; count = refl; now_is = refl }; none = refl }; pages = tt; boxes = tt }, (record { words = tt; numbers = tt; looks = tt; lives = record { unit = 256; life = 1; under = refl; has = record { held = record { maker = 1; count = 1 }; holds = refl; count = refl; now_is = refl } }; pages = tt; boxes = tt }, (record { words = tt; numbers = tt; looks = tt; lives = record { life = 1; under = refl }; pages = tt; boxes = tt }, (record { words = tt; numbers = tt; looks = tt; lives = tt; pages = tt; boxes = tt }, (record { words = tt; numbers = tt; looks = tt; lives = tt; pages = tt; boxes = tt }, (record { words = tt; numbers = tt; looks = tt; lives = tt; pages = tt; boxes = tt }, (record { words = tt; numbers = tt; looks = tt; lives = tt; pages = tt; boxes = tt }, (record { words = tt; numbers = tt; looks = tt; lives = tt; pages = tt; boxes = tt }, (record { words = tt; numbers = tt; looks = tt; lives = tt; pages = tt; boxes = tt }, (record { words = tt; numbers = tt; looks = tt; lives = tt; pages = tt; boxes = tt }, (record { words = tt; numbers = tt; looks = tt; lives = tt; pages = tt; boxes = tt }, (record { words = tt; numbers = tt; looks = tt; lives = tt; pages = tt; boxes = record { there = omega arith; some = omega arith } }, (record { words = tt; numbers = tt; looks = tt; lives = tt; pages = tt; boxes = refl }, (record { words = tt; numbers = tt; looks = tt; lives = tt; pages = tt; boxes = tt }, (record { words = tt; numbers = tt; looks = tt; lives = tt; pages = (refl, tt); boxes = tt }, tt))))))))))))))))))))))

sweep-below : AllBelow 2 (all_of (borrowed ++ swept_home))
sweep-below = (lit< tt, (lit< tt, (lit< tt, (lit< tt, (lit< tt, (lit< tt, (lit< tt, (lit< tt, (lit< tt, (lit< tt, (lit< tt, (lit< tt, (lit< tt, (lit< tt, (lit< tt, (lit< tt, (lit< tt, (lit< tt, (lit< tt, (lit< tt, tt))))))))))))))))))))

sweep-names : (p : ℕ) → p < 2 → AllName (opening p) (part_of p (all_of (borrowed ++ swept_home)))
sweep-names zero lt = (tt, (tt, (tt, (tt, (refl, (refl, ((refl, refl), (refl, (refl, (refl, ((refl, refl), (refl, ((refl, refl), tt)))))))))))))
sweep-names (suc zero) lt = (tt, (refl, (refl, ((refl, refl), (refl, (refl, (refl, tt)))))))
sweep-names (suc (suc p)) lt = absurd (omega (arith, lt))

sweep-laid : IsLaid 2 3 (all_of (borrowed ++ swept_home))
unfolding any_out fetched given is_stock_of least_below next_unit returned size_of_class unit_given
sweep-laid = (record { words = tt; numbers = tt; looks = tt; lives = tt; pages = refl; boxes = tt }, (record { words = tt; numbers = tt; looks = tt; lives = tt; pages = refl; boxes = tt }, (record { words = tt; numbers = tt; looks = tt; lives = tt; pages = tt; boxes = tt }, (record { words = tt; numbers = tt; looks = tt; lives = tt; pages = tt; boxes = tt }, (record { words = tt; numbers = tt; looks = tt; lives = tt; pages = tt; boxes = tt }, (record { words = tt; numbers = tt; looks = tt; lives = tt; pages = tt; boxes = tt }, (record { words = tt; numbers = tt; looks = tt; lives = record { none = refl; next_is = refl }; pages = tt; boxes = tt }, (record { words = tt; numbers = tt; looks = tt; lives = record { references = 1; has = record { held = record { maker = 1; count = 1 }; holds = refl; count = refl; now_is = refl }; none = refl }; pages = tt; boxes = tt }, (record { words = tt; numbers = tt; looks = tt; lives = record { unit = 256; life = 1; under = refl; has = record { held = record { maker = 1; count = 1 }; holds = refl; count = refl; now_is = refl } }; pages = tt; boxes = tt }, (record { words = tt; numbers = tt; looks = tt; lives = record { life = 1; under = refl }; pages = tt; boxes = tt }, (record { words = tt; numbers = tt; looks = tt; lives = tt; pages = tt; boxes = tt }, (record { words = tt; numbers = tt; looks = tt; lives = tt; pages = tt; boxes = tt }, (record { words = tt; numbers = tt; looks = tt; lives = tt; pages = tt; boxes = tt }, (record { words = tt; numbers = tt; looks = tt; lives = tt; pages = tt; boxes = tt }, (record { words = tt; numbers = tt; looks = tt; lives = tt; pages = tt; boxes = tt }, (record { words = tt; numbers = tt; looks = tt; lives = tt; pages = tt; boxes = tt }, (record { words = tt; numbers = tt; looks = tt; lives = tt; pages = tt; boxes = tt }, (record { words = tt; numbers = tt; looks = tt; lives = tt; pages = tt; boxes = tt }, (record { words = tt; numbers = tt; looks = tt; lives = tt; pages = tt; boxes = record { there = omega arith; some = omega arith } }, (record { words = tt; numbers = tt; looks = tt; lives = tt; pages = tt; boxes = record { before = []; units_are = refl } }, tt))))))))))))))))))))

-- two processors, whose entries name what is in their lists, and whose sweeps take what waits
two-placed : (o : Order) → AllBelow 2 o → ((p : ℕ) → p < 2 → AllName (opening p) (part_of p o)) → IsLaid 2 3 o → AllFit world_after SweepsInbox o (outset 2 3) → IsPlaced 2 3 o
two-placed o below names laid sweeps = all-placed 2 3 o (found-in-parts o (outset 2 3) laid (parts-name 2 o below names) sweeps)

pub returns-clause-placed : goal.returns-clause-placed
unfolding any_out fetched given is_stock_of least_below next_unit returned size_of_class unit_given
returns-clause-placed c = two-placed (all_of (borrowed ++ sent_home)) home-below home-names home-laid (tt, (tt, (tt, (tt, (tt, (tt, (tt, (tt, (tt, (tt, (tt, (tt, (tt, (tt, (tt, (tt, (tt, (tt, (tt, (tt, (tt, (tt, tt))))))))))))))))))))))

pub returns-clause-placed_sweep : goal.returns-clause-placed_sweep
unfolding any_out fetched given is_stock_of least_below next_unit returned size_of_class unit_given
returns-clause-placed_sweep c = two-placed (all_of (borrowed ++ swept_home)) sweep-below sweep-names sweep-laid (tt, (tt, (tt, (tt, (tt, (tt, (tt, (tt, (tt, (tt, (tt, (tt, (tt, (tt, (tt, (tt, (tt, (tt, (tt, (refl, tt))))))))))))))))))))

pub returns-clause-through : goal.returns-clause-through
unfolding any_out fetched given is_stock_of least_below next_unit returned size_of_class unit_given
returns-clause-through c = (refl, (refl, (refl, (refl, (refl, (refl, (refl, (refl, (refl, (refl, tt))))))))))

pub returns-clause-through_sweep : goal.returns-clause-through_sweep
unfolding any_out fetched given is_stock_of least_below next_unit returned size_of_class unit_given
returns-clause-through_sweep c = (refl, (refl, (refl, (refl, (refl, (refl, (refl, (refl, (refl, tt)))))))))

-- ---- wrong orders

pub returns-clause-filled : goal.returns-clause-filled
unfolding any_out fetched given is_stock_of least_below next_unit returned size_of_class unit_given
returns-clause-filled c = not-twice 2 3 0 filled_twice (Cache 0 10) (Cache 1 10) refl (lit< tt) (lit< tt)

pub returns-clause-pushed : goal.returns-clause-pushed
unfolding any_out fetched given is_stock_of least_below next_unit returned size_of_class unit_given
returns-clause-pushed c = not-twice 2 3 256 pushed_twice (Cache 0 10) (Cache 1 10) refl (lit< tt) (lit< tt)

pub returns-clause-fetched : goal.returns-clause-fetched
unfolding any_out fetched given is_stock_of least_below next_unit returned size_of_class unit_given
returns-clause-fetched c = not-twice 2 3 256 fetched_from_other (Hand 0 0) (Cache 1 10) refl (lit< tt) (lit< tt)

pub returns-clause-received : goal.returns-clause-received
unfolding any_out fetched given is_stock_of least_below next_unit returned size_of_class unit_given
returns-clause-received c = not-twice 2 3 0 received_unsent (Cache 0 10) (Cache 1 10) refl (lit< tt) (lit< tt)

pub returns-clause-sent : goal.returns-clause-sent
unfolding any_out fetched given is_stock_of least_below next_unit returned size_of_class unit_given
returns-clause-sent c = not-twice 2 3 0 sent_though_kept (Cache 0 10) (Inbox 1 10) refl (lit< tt) (lit< tt)

pub returns-clause-given : goal.returns-clause-given
unfolding any_out fetched given is_stock_of least_below next_unit returned size_of_class unit_given
returns-clause-given c = not-twice 2 3 512 given_in_stock (Stock) (Living) refl (lit< tt) (lit< tt)

pub returns-clause-returned : goal.returns-clause-returned
unfolding any_out fetched given is_stock_of least_below next_unit returned size_of_class unit_given
returns-clause-returned c = not-twice 2 3 0 returned_though_kept (Stock) (Cache 0 10) refl (lit< tt) (lit< tt)

pub returns-clause-swept : goal.returns-clause-swept
unfolding any_out fetched given is_stock_of least_below next_unit returned size_of_class unit_given
returns-clause-swept c = not-twice 2 3 512 swept_from_stock (Stock) (Cache 0 10) refl (lit< tt) (lit< tt)

pub returns-clause-swept_laid : goal.returns-clause-swept_laid
unfolding any_out fetched given is_stock_of least_below next_unit returned size_of_class unit_given
returns-clause-swept_laid c = (record { words = tt; numbers = tt; looks = tt; lives = tt; pages = refl; boxes = tt }, (record { words = tt; numbers = tt; looks = tt; lives = tt; pages = refl; boxes = tt }, (record { words = tt; numbers = tt; looks = tt; lives = tt; pages = tt; boxes = record { before = 0 ∷ 512 ∷ []; units_are = refl } }, tt)))

swept-names : (p : ℕ) → p < 2 → AllName (opening p) (part_of p swept_from_stock)
swept-names zero lt = (tt, (refl, tt))
swept-names (suc zero) lt = (tt, tt)
swept-names (suc (suc p)) lt = absurd (omega (arith, lt))

pub returns-clause-swept_named : goal.returns-clause-swept_named
returns-clause-swept_named c = parts-name 2 swept_from_stock (lit< tt, (lit< tt, (lit< tt, tt))) swept-names

-- no place names unit 0 once the stock has given it
nowhere : (a : Place) → times_at 0 a (world_over lost_at_fill (outset 2 3)) ≡ 0
unfolding any_out fetched given is_stock_of least_below next_unit returned size_of_class unit_given
nowhere Stock = refl
nowhere (Inbox p c) = refl
nowhere (Cache p c) = elim (eqb_tells p 0) [
  | inl y ↦ elim (eqb_tells c 10) [ inl z ↦ rw (y.0, z.0) refl | inr z ↦ rw (y.0, z.0) refl ]
  | inr y ↦ rw y.0 refl
]
nowhere (Hand p l) = elim (eqb_tells p 0) [ inl y ↦ rw y.0 refl | inr y ↦ rw y.0 refl ]
nowhere Living = refl
nowhere (Ending p l) = refl

pub returns-clause-lost : goal.returns-clause-lost
returns-clause-lost c placed =
    let one : InOnePlace 0 (world_over lost_at_fill (outset 2 3)) = placed lost_at_fill [] (sym (append-nil lost_at_fill)) 0 in
    let here = one.here in
    let none = nowhere one.place in
    omega (arith, here, none)

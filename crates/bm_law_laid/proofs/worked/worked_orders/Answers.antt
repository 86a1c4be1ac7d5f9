use Rattle.std.proofs.Common.{◌≡◌, ℕ, List, [], ◌∷◌, refl, ap, inl, inr, arith, length}
use Rattle.std.proofs.lemmas.Bool.{false≢true}
use Rattle.bm_class.specs.Sizes.{size_of_class}
use Rattle.bm_page.specs.Stock.{any_out, fetched, given, is_stock_of, least_below, next_unit, returned, unit_given}
use Rattle.bm_law_laid.proofs.worked.worked_orders.Goals as goal

pub returns-clause-laid : goal.returns-clause-laid
unfolding any_out fetched given is_stock_of least_below next_unit returned size_of_class unit_given
returns-clause-laid c = (
  record { words = tt; numbers = tt; looks = tt; lives = tt; pages = refl; boxes = tt },
  (
    record { words = tt; numbers = tt; looks = tt; lives = tt; pages = refl; boxes = tt },
    (
      record { words = record { next_is = refl; parity = refl }; numbers = tt; looks = tt; lives = tt; pages = tt; boxes = tt },
      (
        record { words = tt; numbers = tt; looks = tt; lives = tt; pages = tt; boxes = tt },
        (
          record { words = record { next_is = refl; parity = refl }; numbers = tt; looks = tt; lives = tt; pages = tt; boxes = tt },
          (
            record { words = tt; numbers = tt; looks = tt; lives = tt; pages = tt; boxes = tt },
            (
              record { words = tt; numbers = tt; looks = tt; lives = tt; pages = tt; boxes = tt },
              (
                record { words = tt; numbers = tt; looks = tt; lives = tt; pages = tt; boxes = tt },
                (
                  record { words = tt; numbers = tt; looks = tt; lives = tt; pages = tt; boxes = tt },
                  (
                    record { words = tt; numbers = tt; looks = tt; lives = record { none = refl; next_is = refl }; pages = tt; boxes = tt },
                    (
                      record { words = tt; numbers = tt; looks = tt; lives = record { references = 1; has = record { held = record { maker = 0; count = 1 }; holds = refl; count = refl; now_is = refl }; none = refl }; pages = tt; boxes = tt },
                      (
                        record { words = tt; numbers = tt; looks = tt; lives = record { unit = 0; life = 1; under = refl; has = record { held = record { maker = 0; count = 1 }; holds = refl; count = refl; now_is = refl } }; pages = tt; boxes = tt },
                        (
                          record { words = tt; numbers = tt; looks = tt; lives = record { life = 1; under = refl }; pages = tt; boxes = tt },
                          (
                            record { words = tt; numbers = tt; looks = tt; lives = tt; pages = tt; boxes = tt },
                            (
                              record { words = tt; numbers = tt; looks = tt; lives = tt; pages = tt; boxes = tt },
                              (
                                record { words = tt; numbers = tt; looks = tt; lives = tt; pages = tt; boxes = tt },
                                (
                                  record { words = record { next_is = refl; parity = refl }; numbers = tt; looks = tt; lives = tt; pages = tt; boxes = tt },
                                  (
                                    record { words = tt; numbers = tt; looks = tt; lives = tt; pages = tt; boxes = refl },
                                    (
                                      record { words = tt; numbers = tt; looks = tt; lives = tt; pages = refl; boxes = tt },
                                      (
                                        record { words = tt; numbers = refl; looks = tt; lives = tt; pages = tt; boxes = tt },
                                        (
                                          record { words = tt; numbers = record { even = refl; number = refl }; looks = tt; lives = tt; pages = tt; boxes = tt },
                                          (
                                            record { words = tt; numbers = refl; looks = tt; lives = tt; pages = tt; boxes = tt },
                                            (
                                              record { words = tt; numbers = tt; looks = tt; lives = tt; pages = tt; boxes = tt },
                                              (
                                                record { words = record { next_is = refl; parity = refl }; numbers = tt; looks = tt; lives = tt; pages = tt; boxes = tt },
                                                (
                                                  record { words = tt; numbers = record { driver = refl; odd = refl; number = refl }; looks = record { first = refl; later = refl; passed = (inl refl, (inr (omega arith), tt)) }; lives = tt; pages = tt; boxes = tt },
                                                  (
                                                    record { words = tt; numbers = refl; looks = tt; lives = tt; pages = tt; boxes = tt },
                                                    (
                                                      record { words = tt; numbers = tt; looks = tt; lives = tt; pages = tt; boxes = record { there = omega arith; some = omega arith } },
                                                      (
                                                        record { words = tt; numbers = tt; looks = tt; lives = tt; pages = tt; boxes = refl },
                                                        (
                                                          record { words = tt; numbers = tt; looks = tt; lives = tt; pages = tt; boxes = refl },
                                                          (record { words = tt; numbers = tt; looks = tt; lives = tt; pages = (refl, tt); boxes = tt }, tt),
                                                        ),
                                                      ),
                                                    ),
                                                  ),
                                                ),
                                              ),
                                            ),
                                          ),
                                        ),
                                      ),
                                    ),
                                  ),
                                ),
                              ),
                            ),
                          ),
                        ),
                      ),
                    ),
                  ),
                ),
              ),
            ),
          ),
        ),
      ),
    ),
  ),
)

pub returns-clause-older : goal.returns-clause-older
unfolding any_out fetched given is_stock_of least_below next_unit returned size_of_class unit_given
returns-clause-older c = (
  record { words = tt; numbers = tt; looks = tt; lives = tt; pages = refl; boxes = tt },
  (
    record { words = tt; numbers = tt; looks = tt; lives = tt; pages = refl; boxes = tt },
    (
      record { words = tt; numbers = tt; looks = tt; lives = tt; pages = tt; boxes = record { there = omega arith; some = omega arith } },
      (
        record { words = tt; numbers = tt; looks = tt; lives = tt; pages = tt; boxes = record { there = omega arith; some = omega arith } },
        (record { words = tt; numbers = tt; looks = tt; lives = tt; pages = tt; boxes = refl }, tt),
      ),
    ),
  ),
)

first-same : (x y : ℕ) → x ∷ [] ≡ y ∷ [] → x ≡ y
first-same x y e = ap first e
  where
    first : List ℕ → ℕ
    first [] = 0
    first (x ∷ xs) = x

pub returns-clause-unit : goal.returns-clause-unit
unfolding any_out fetched given is_stock_of least_below next_unit returned size_of_class unit_given
returns-clause-unit c h = let same = first-same 768 512 h.1.1.0.pages in omega (arith, same)

pub returns-clause-page : goal.returns-clause-page
unfolding any_out fetched given is_stock_of least_below next_unit returned size_of_class unit_given
returns-clause-page c h = let same = first-same 256 512 h.1.1.0.pages in omega (arith, same)

pub returns-clause-greater : goal.returns-clause-greater
unfolding any_out fetched given is_stock_of least_below next_unit returned size_of_class unit_given
returns-clause-greater c h = let same = ap first_of h.0.pages in omega (arith, same)
  where
    first_of : List ℕ → ℕ
    first_of [] = 0
    first_of (x ∷ xs) = x

pub returns-clause-few : goal.returns-clause-few
unfolding any_out fetched given is_stock_of least_below next_unit returned size_of_class unit_given
returns-clause-few c h = let same = ap length h.0.pages in omega (arith, same)

pub returns-clause-returned : goal.returns-clause-returned
unfolding any_out fetched given is_stock_of least_below next_unit returned size_of_class unit_given
returns-clause-returned c h = false≢true h.1.1.1.0.pages.0

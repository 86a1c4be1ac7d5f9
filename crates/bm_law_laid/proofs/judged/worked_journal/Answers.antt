use Rattle.std.proofs.Common.{refl, inl, arith, [], ◌∷◌}
use Rattle.bm_class.specs.Sizes.{size_of_class}
use Rattle.bm_page.specs.Stock.{any_out, fetched, given, is_stock_of, least_below, next_unit, returned, unit_given}
use Rattle.bm_law_laid.proofs.judged.worked_journal.Goals as goal

pub returns : goal.returns
unfolding any_out fetched given is_stock_of least_below next_unit returned size_of_class unit_given
returns c = (record { words = tt; numbers = tt; looks = tt; lives = tt; pages = refl; boxes = tt }, (record { words = record { next_is = refl; parity = refl }; numbers = tt; looks = tt; lives = tt; pages = tt; boxes = tt }, (record { words = tt; numbers = tt; looks = tt; lives = tt; pages = tt; boxes = tt }, (record { words = tt; numbers = tt; looks = tt; lives = tt; pages = tt; boxes = tt }, (record { words = tt; numbers = tt; looks = tt; lives = tt; pages = tt; boxes = tt }, (record { words = tt; numbers = tt; looks = tt; lives = tt; pages = tt; boxes = tt }, (record { words = tt; numbers = tt; looks = tt; lives = tt; pages = tt; boxes = tt }, (record { words = tt; numbers = tt; looks = tt; lives = record { none = refl; next_is = refl }; pages = tt; boxes = tt }, (record { words = tt; numbers = tt; looks = tt; lives = record { references = 1; has = record { held = record { maker = 0; count = 1 }; holds = refl; count = refl; now_is = refl }; none = refl }; pages = tt; boxes = tt }, (record { words = tt; numbers = tt; looks = tt; lives = record { unit = 0; life = 1; under = refl; has = record { held = record { maker = 0; count = 1 }; holds = refl; count = refl; now_is = refl } }; pages = tt; boxes = tt }, (record { words = tt; numbers = tt; looks = tt; lives = record { life = 1; under = refl }; pages = tt; boxes = tt }, (record { words = tt; numbers = tt; looks = tt; lives = tt; pages = tt; boxes = tt }, (record { words = tt; numbers = tt; looks = tt; lives = tt; pages = tt; boxes = tt }, (record { words = tt; numbers = tt; looks = tt; lives = tt; pages = tt; boxes = tt }, (record { words = record { next_is = refl; parity = refl }; numbers = tt; looks = tt; lives = tt; pages = tt; boxes = tt }, (record { words = tt; numbers = tt; looks = tt; lives = tt; pages = tt; boxes = tt }, (record { words = tt; numbers = tt; looks = tt; lives = tt; pages = tt; boxes = tt }, (record { words = tt; numbers = tt; looks = tt; lives = tt; pages = tt; boxes = tt }, (record { words = tt; numbers = tt; looks = tt; lives = tt; pages = tt; boxes = tt }, (record { words = tt; numbers = refl; looks = tt; lives = tt; pages = tt; boxes = tt }, (record { words = tt; numbers = record { even = refl; number = refl }; looks = tt; lives = tt; pages = tt; boxes = tt }, (record { words = tt; numbers = record { driver = refl; odd = refl; number = refl }; looks = record { first = refl; later = refl; passed = (inl refl, tt) }; lives = tt; pages = tt; boxes = tt }, (record { words = tt; numbers = refl; looks = tt; lives = tt; pages = tt; boxes = tt }, (record { words = tt; numbers = tt; looks = tt; lives = tt; pages = tt; boxes = record { there = omega arith; some = omega arith } }, (record { words = tt; numbers = tt; looks = tt; lives = tt; pages = tt; boxes = refl }, (record { words = tt; numbers = tt; looks = tt; lives = tt; pages = tt; boxes = tt }, (record { words = tt; numbers = refl; looks = tt; lives = tt; pages = tt; boxes = tt }, (record { words = tt; numbers = record { even = refl; number = refl }; looks = tt; lives = tt; pages = tt; boxes = tt }, (record { words = tt; numbers = record { driver = refl; odd = refl; number = refl }; looks = record { first = refl; later = refl; passed = (inl refl, (inl refl, tt)) }; lives = tt; pages = tt; boxes = tt }, (record { words = tt; numbers = refl; looks = tt; lives = tt; pages = tt; boxes = tt }, (record { words = tt; numbers = tt; looks = tt; lives = tt; pages = (refl, tt); boxes = tt }, (record { words = tt; numbers = tt; looks = tt; lives = tt; pages = refl; boxes = tt }, (record { words = tt; numbers = tt; looks = tt; lives = tt; pages = tt; boxes = tt }, (record { words = tt; numbers = tt; looks = tt; lives = tt; pages = tt; boxes = tt }, (record { words = tt; numbers = tt; looks = tt; lives = tt; pages = tt; boxes = tt }, (record { words = tt; numbers = tt; looks = tt; lives = tt; pages = tt; boxes = tt }, (record { words = record { next_is = refl; parity = refl }; numbers = tt; looks = tt; lives = tt; pages = tt; boxes = tt }, (record { words = tt; numbers = tt; looks = tt; lives = tt; pages = tt; boxes = tt }, (record { words = tt; numbers = tt; looks = tt; lives = tt; pages = tt; boxes = tt }, (record { words = tt; numbers = tt; looks = tt; lives = tt; pages = tt; boxes = tt }, (record { words = tt; numbers = tt; looks = tt; lives = tt; pages = tt; boxes = tt }, (record { words = tt; numbers = tt; looks = tt; lives = tt; pages = tt; boxes = tt }, (record { words = tt; numbers = tt; looks = tt; lives = record { none = refl; next_is = refl }; pages = tt; boxes = tt }, (record { words = tt; numbers = tt; looks = tt; lives = record { references = 1; has = record { held = record { maker = 0; count = 1 }; holds = refl; count = refl; now_is = refl }; none = refl }; pages = tt; boxes = tt }, (record { words = tt; numbers = tt; looks = tt; lives = record { unit = 0; life = 2; under = refl; has = record { held = record { maker = 0; count = 1 }; holds = refl; count = refl; now_is = refl } }; pages = tt; boxes = tt }, (record { words = tt; numbers = tt; looks = tt; lives = record { life = 2; under = refl }; pages = tt; boxes = tt }, (record { words = tt; numbers = tt; looks = tt; lives = tt; pages = tt; boxes = tt }, (record { words = tt; numbers = tt; looks = tt; lives = tt; pages = tt; boxes = tt }, (record { words = tt; numbers = tt; looks = tt; lives = tt; pages = tt; boxes = tt }, (record { words = tt; numbers = tt; looks = tt; lives = tt; pages = tt; boxes = tt }, (record { words = record { next_is = refl; parity = refl }; numbers = tt; looks = tt; lives = tt; pages = tt; boxes = tt }, (record { words = tt; numbers = tt; looks = tt; lives = tt; pages = tt; boxes = tt }, (record { words = tt; numbers = tt; looks = tt; lives = tt; pages = tt; boxes = tt }, (record { words = tt; numbers = tt; looks = tt; lives = tt; pages = tt; boxes = record { before = 0 ∷ []; units_are = refl } }, (record { words = tt; numbers = refl; looks = tt; lives = tt; pages = tt; boxes = tt }, (record { words = tt; numbers = record { even = refl; number = refl }; looks = tt; lives = tt; pages = tt; boxes = tt }, (record { words = tt; numbers = record { driver = refl; odd = refl; number = refl }; looks = record { first = refl; later = refl; passed = (inl refl, (inl refl, tt)) }; lives = tt; pages = tt; boxes = tt }, (record { words = tt; numbers = refl; looks = tt; lives = tt; pages = tt; boxes = tt }, (record { words = tt; numbers = tt; looks = tt; lives = tt; pages = (refl, tt); boxes = tt }, tt)))))))))))))))))))))))))))))))))))))))))))))))))))))))))))

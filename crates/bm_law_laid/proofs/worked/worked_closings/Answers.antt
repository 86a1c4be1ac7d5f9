use Rattle.std.proofs.Common.{[], ◌∷◌, inl, refl}
use Rattle.bm_class.specs.Sizes.{size_of_class}
use Rattle.bm_page.specs.Stock.{any_out, fetched, given, is_stock_of, least_below, next_unit, returned, unit_given}
use Rattle.bm_law_laid.proofs.worked.worked_closings.Goals as goal

pub returns-clause-laid : goal.returns-clause-laid
unfolding any_out fetched given is_stock_of least_below next_unit returned size_of_class unit_given
returns-clause-laid c = (
  record { words = tt; numbers = tt; looks = tt; lives = tt; pages = refl; boxes = tt },
  (
    record { words = tt; numbers = tt; looks = tt; lives = tt; pages = refl; boxes = tt },
    (
      record { words = tt; numbers = tt; looks = tt; lives = tt; pages = tt; boxes = record { before = 0 ∷ []; units_are = refl } },
      (
        record { words = tt; numbers = refl; looks = tt; lives = tt; pages = tt; boxes = tt },
        (
          record { words = tt; numbers = record { even = refl; number = refl }; looks = tt; lives = tt; pages = tt; boxes = tt },
          (
            record { words = tt; numbers = record { driver = refl; odd = refl; number = refl }; looks = record { first = refl; later = refl; passed = (inl refl, (inl refl, (inl refl, (inl refl, tt)))) }; lives = tt; pages = tt; boxes = tt },
            (
              record { words = tt; numbers = refl; looks = tt; lives = tt; pages = tt; boxes = tt },
              (record { words = tt; numbers = tt; looks = tt; lives = tt; pages = (refl, tt); boxes = tt }, tt),
            ),
          ),
        ),
      ),
    ),
  ),
)

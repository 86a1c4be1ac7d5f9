-- The parcels that a log of the one processor that there is leaves. (Parcels are this project's own.)
use Rattle.std.specs.Prelude.{◌≡◌, []}
use Rattle.bm_law.specs.Lists.{Log}
use Rattle.bm_law.specs.Inboxes.{Inboxes}
use Rattle.bm_law_order.specs.Orders.{AllFit, by, over}
use Rattle.bm_law_order.specs.Parcels.{Boxes, BoxesFit, boxes_after}

-- no processor's inboxes hold a parcel
abbrev pub no_boxes : Boxes
no_boxes = λ p c. []

-- Each entry of the log finds what it needs of the inboxes, which are empty at the outset; behind it these parcels wait.
pub record LeavesParcels (log : Log) (boxes : Inboxes) : Type 0 where
  pub fit : AllFit boxes_after (BoxesFit 1) (by 0 log) no_boxes
  pub left : over boxes_after (by 0 log) no_boxes 0 ≡ boxes

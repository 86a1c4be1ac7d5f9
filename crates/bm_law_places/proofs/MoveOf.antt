-- The move of an entry: from which place to which other one it takes which units.
use Rattle.std.specs.Prelude.{ℕ, List, [], ◌∷◌, Option, Some, None}
use Rattle.std.specs.List.{concat}
use Rattle.bm_journal.specs.EntryText.{unit_list}
use Rattle.bm_journal.specs.declared.entry.Entry.{Entry}
use Rattle.bm_journal.specs.declared.entry.Entry.TheVariants as entry
use Rattle.bm_law_order.specs.Lives.{Dropping}
use Rattle.bm_law_places.specs.Place.{Place, Stock, Inbox, Cache, Hand, Living, Ending}
use Rattle.bm_law_places.specs.World.{World}
use Rattle.bm_law_places.proofs.Moved.{Move, moves}

-- the unit that is dropped, if one is
abbrev pub dropped : Option Dropping → List ℕ
dropped None = []
dropped (Some drop) = drop.unit ∷ []

-- a send takes all of the hand, or all of First where the hand is empty
abbrev pub sent_from : (p l c : ℕ) → List ℕ → Place
sent_from p l c [] = Cache p c
sent_from p l c (u ∷ us) = Hand p l

abbrev pub move_of : (p l : ℕ) → Entry → World → Option Move
move_of p l (entry.Fill c us) w = moves Stock (Cache p c) (unit_list us)
move_of p l (entry.Fetch c want us) w = moves Stock (Hand p l) (unit_list us)
move_of p l (entry.Return c us) w = moves (Cache p c) Stock (unit_list us)
move_of p l (entry.Pop c u) w = moves (Cache p c) (Hand p l) (u ∷ [])
move_of p l (entry.Ready c u) w = moves (Cache p c) (Hand p l) (u ∷ [])
move_of p l (entry.Second c u) w = moves (Cache p c) (Hand p l) (u ∷ [])
move_of p l (entry.TakeExtra c us) w = moves (Cache p c) (Hand p l) (unit_list us)
move_of p l (entry.Push c u) w = moves (Hand p l) (Cache p c) (u ∷ [])
move_of p l (entry.Delayed c u) w = moves (Hand p l) (Cache p c) (u ∷ [])
move_of p l (entry.Put c u) w = moves (Hand p l) (Cache p c) (u ∷ [])
move_of p l (entry.PutDelayed c u) w = moves (Hand p l) (Cache p c) (u ∷ [])
move_of p l (entry.Given u life) w = moves (Hand p l) Living (u ∷ [])
move_of p l (entry.GivenAfter u life stamp seen) w = moves (Hand p l) Living (u ∷ [])
move_of p l entry.Last w = moves Living (Ending p l) (dropped (w.shared.lives.dropping p l))
move_of p l (entry.Free u home) w = moves (Ending p l) (Hand p l) (u ∷ [])
move_of p l (entry.Delay u home) w = moves (Ending p l) (Hand p l) (u ∷ [])
move_of p l (entry.Send c to us) w = moves (sent_from p l c ((w.lists p).sides l).hand) (Inbox to c) (unit_list us)
move_of p l (entry.Receive c us) w = moves (Inbox p c) (Cache p c) (unit_list us)
move_of p l (entry.Sweep c us) w = moves (Inbox p c) (Cache p c) (concat (w.shared.boxes p c))
move_of p l _ w = None

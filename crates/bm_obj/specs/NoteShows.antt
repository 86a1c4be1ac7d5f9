-- What notes of a world on one thread show.
use Rattle.std.specs.Prelude.{Option, None, Some}
use Rattle.bm_obj.specs.Notes.{Carried, Page}
use Rattle.bm_obj.specs.declared.note.Note.{Note}
use Rattle.bm_obj.specs.declared.note.Note.TheVariants as note

abbrev pub item_in : Note → Option Carried
item_in (note.Item r claim) = Some (record { to = r; claim = claim })
item_in (note.Page graph) = None

abbrev pub page_in : Note → Option Page
page_in (note.Item r claim) = None
page_in (note.Page graph) = Some (record { graph = graph; history = None })

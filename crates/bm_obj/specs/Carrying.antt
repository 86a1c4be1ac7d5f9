-- What a side knows over notes and pages. (This project's own.)
use Rattle.std.specs.Prelude.{◌≡◌, ℕ, [], ◌∷◌, ◌++◌, Option, None, Some, IfSome}
use Rattle.std.specs.Option.{option_map, option_map_or}
use Rattle.bm_journal.specs.declared.ids.Tag.{Tag}
use Rattle.bm_journal.specs.declared.past.Past.{Past}
use Rattle.bm_obj.specs.Known.{HasPage, IsGraphOf, Known, at_unit, fewer, gained, more, spent}
use Rattle.bm_obj.specs.Notes.{Carried, IsNoted, LeavesItem, Noted, Page}
use Rattle.bm_obj.specs.Reference.{Reference, id_of}

-- what a note carries of an object: the reference, and the claim, where the side has it
abbrev pub carried_from : Reference → Known → Carried
carried_from r k = record { to = r; claim = k.claims r.unit }

-- The side has the page of the graph whose claim is carried.
abbrev pub HasClaimPage : Option ℕ → Known → Type 0
HasClaimPage claim k = IfSome claim (λ graph. HasPage graph k)

-- A claim that is carried is for a graph of the object's type.
abbrev pub IsClaimOfType : Carried → Known → Type 0
IsClaimOfType c k = IfSome c.claim (λ graph. IsGraphOf k.graphs c.to.def graph)

-- One of the notes carries this, as far as the side tells of notes.
abbrev pub IsCarried : Carried → Known → Type 0
IsCarried c k = IfSome k.notes (λ notes. IsNoted c (notes c.to.unit))

-- one note more, and one fewer
abbrev pub with_note : Carried → Noted → Noted
with_note c noted =
    record {
      refs = more c.to noted.refs;
      claim = option_map_or (λ graph. Some graph) c.claim noted.claim;
    }

abbrev pub without_note : Carried → Noted → Noted
without_note c noted =
    record { refs = fewer noted.refs; claim = option_map_or (λ graph. None) c.claim noted.claim }

-- A reference goes into a note, and the claim that the side has of the object goes with it.
abbrev pub told_put_in : Carried → Known → Known
told_put_in c k = record (spent c.to k) {
  claims = at_unit c.to.unit None k.claims;
  notes = option_map (λ notes. at_unit c.to.unit (with_note c (notes c.to.unit)) notes) k.notes;
}

-- .. and comes out of it
abbrev pub told_taken_out : Carried → Known → Known
told_taken_out c k = record (gained c.to k) {
  claims = option_map_or (λ graph. at_unit c.to.unit (Some graph) k.claims) c.claim k.claims;
  notes = option_map (λ notes. at_unit c.to.unit (without_note c (notes c.to.unit)) notes) k.notes;
}

-- A call is marked.
abbrev pub told_marked : Tag → Known → Known
told_marked tag k = record k { last = Some tag }

-- The page of a graph is at this side.
abbrev pub told_page_in : Page → Known → Known
told_page_in page k = record k { pages = at_unit page.graph (Some page) k.pages }

-- The side has no claim for the graph itself: each stands in a note.
abbrev pub NoClaimFor : ℕ → Known → Type 0
NoClaimFor graph k = (n : ℕ) → k.claims n ≡ Some graph → ⊥

-- A page with one entry more, where it tells its history.
abbrev pub with_entry : ℕ → Past → Page → Page
with_entry at past page =
    record page
    { history = option_map (λ es. es ++ record { at = at; past = past } ∷ []) page.history }

-- A graph's history has the entry, and nothing waits for it.
abbrev pub told_entered : ℕ → ℕ → Past → Known → Known
told_entered graph at past k = record k {
  pages = at_unit graph (option_map (with_entry at past) (k.pages graph)) k.pages;
  waits = at_unit graph None k.waits;
}

-- The side can look at an object in a note: it has the page of the graph that has the claim, and where the page tells its history,
-- that leaves the object as an item.
abbrev pub LeavesIn : Carried → Page → Type 0
LeavesIn c page = IfSome page.history (λ es. LeavesItem (id_of c.to) es)

abbrev pub MayLook : Carried → Known → Type 0
MayLook c k =
    (graph : ℕ) × (c.claim ≡ Some graph) × (HasPage graph k × IfSome (k.pages graph) (LeavesIn c))

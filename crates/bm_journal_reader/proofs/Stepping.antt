-- The lines of a journal are read from its text, stage by stage.
use Rattle.std.proofs.Common.{◌≡◌, ℕ, suc, ◌+◌, Bool, true, ◌==◌, List, [], ◌∷◌, ◌++◌, Some, map, take, refl, sym, ap, ◌∙◌, subst}
use Rattle.std.specs.Prelude.{IsTrue}
use Rattle.bm_word.specs.Number.{NumbersRoundTrip}
use Rattle.bm_journal.specs.declared.journal.Journal.{Journal}
use Rattle.bm_journal.specs.JournalText.{journal_text}
use Rattle.bm_journal.specs.TotalNames.{total_place}
use Rattle.bm_journal.specs.WellFormed.{all_differ}
use Rattle.bm_law_text.specs.declared.line.Line.{Line}
use Rattle.bm_law_text.specs.declared.line.Line.TheVariants as line_as
use Rattle.bm_law_text.specs.Parts.{after, only_if}
use Rattle.bm_law_text.specs.Fits.{Each, IsName, LineFits, JournalFits}
use Rattle.bm_law_text.specs.Lines.{line_head, line_tail, body_items, journal_items}
use Rattle.bm_law_text.specs.Pieces.{pieces, words}
use Rattle.bm_law_text.specs.Reading.{line_of}
use Rattle.bm_law_text.proofs.Clean.{clean, clean_words, both, line-clean}
use Rattle.bm_law_text.proofs.ItemsFit.{items-fit}
use Rattle.bm_law_text.proofs.LinesBack.{line-back}
use Rattle.bm_law_text.proofs.Options.{after-some, only_if-some}
use Rattle.bm_law_text.proofs.PartsSound.{same}
use Rattle.bm_law_text.proofs.TextBack.{content, words-back, lines-cut, text-lines}
use Rattle.bm_journal_reader.specs.Drafts.{Stage, Begun, Sized, Typed, Mapped, Opened, Logging, Telling, Counting, stage_maps, next, step}
use Rattle.bm_journal_reader.specs.Faults.{with_feeds, AgreeIn, is_done, first_bad}
use Rattle.bm_journal_reader.proofs.Accepted.{run, accepted}
use Rattle.bm_journal_reader.proofs.Refused.{Follows, no_feed, refused}

-- behind the maps their names stay
abbrev pub Named : List (List ℕ) → Stage → Type 0
Named m Begun = ⊥
Named m Sized = ⊥
Named m Typed = ⊥
Named m (Mapped n) = n ≡ m
Named m (Opened n) = n ≡ m
Named m (Logging n k) = n ≡ m
Named m (Telling n k) = n ≡ m
Named m (Counting n k) = n ≡ m

pub named-maps : (m : List (List ℕ)) (s : Stage) → Named m s → stage_maps s ≡ m
named-maps m Begun h = absurd h
named-maps m Sized h = absurd h
named-maps m Typed h = absurd h
named-maps m (Mapped n) h = h
named-maps m (Opened n) h = h
named-maps m (Logging n k) h = h
named-maps m (Telling n k) h = h
named-maps m (Counting n k) h = h

moved : {A : Type 0} (P : A → Type 0) (x y : A) → Some x ≡ Some y → P x → P y
moved P x y e h = subst P (same e) h

only-moved : {A : Type 0} (P : A → Type 0) (b : Bool) (x y : A) → only_if b (Some x) ≡ Some y → P x → P y
only-moved P b x y e h = subst P (same (only_if-some b (Some x) y e).1) h

pub stays : (m : List (List ℕ)) (s : Stage) (l : Line) (t : Stage) → Named m s → next s l ≡ Some t → Named m t
stays m Begun l t h e = absurd h
stays m Sized l t h e = absurd h
stays m Typed l t h e = absurd h
stays m (Mapped n) (line_as.Scripts ns) t h e = moved (Named m) (Opened n) t e h
stays m (Mapped n) l t h e = absurd (cc)
stays m (Opened n) (line_as.Class c k) t h e = moved (Named m) (Opened n) t e h
stays m (Opened n) (line_as.Processor p) t h e = only-moved (Named m) (p == 0) (Logging n (0 + 1)) t e h
stays m (Opened n) (line_as.Graph g) t h e = moved (Named m) (Telling n 0) t e h
stays m (Opened n) (line_as.Total a v) t h e = only-moved (Named m) (total_place a == 0) (Counting n (0 + 1)) t e h
stays m (Opened n) l t h e = absurd (cc)
stays m (Logging n k) (line_as.Entry a x) t h e = moved (Named m) (Logging n k) t e h
stays m (Logging n k) (line_as.Processor p) t h e = only-moved (Named m) (p == k) (Logging n (k + 1)) t e h
stays m (Logging n k) (line_as.Graph g) t h e = moved (Named m) (Telling n 0) t e h
stays m (Logging n k) (line_as.Total a v) t h e = only-moved (Named m) (total_place a == 0) (Counting n (0 + 1)) t e h
stays m (Logging n k) l t h e = absurd (cc)
stays m (Telling n k) (line_as.Past p x) t h e = only-moved (Named m) (p == k) (Telling n (k + 1)) t e h
stays m (Telling n k) (line_as.Graph g) t h e = moved (Named m) (Telling n 0) t e h
stays m (Telling n k) (line_as.Total a v) t h e = only-moved (Named m) (total_place a == 0) (Counting n 1) t e h
stays m (Telling n k) l t h e = absurd (cc)
stays m (Counting n k) (line_as.Total a v) t h e = only-moved (Named m) (total_place a == k) (Counting n (k + 1)) t e h
stays m (Counting n k) l t h e = absurd (cc)

-- the words of a line of its text
line-words : (m : List (List ℕ)) (l : Line) → Each IsName m → LineFits m l → words (content m l) ≡ line_head l ∷ line_tail m l
line-words m l names fits =
    let c = both (clean (line_head l)) (clean_words (line_tail m l)) (line-clean m l names fits) in
    words-back (line_head l) (line_tail m l) c.0 c.1

follows : NumbersRoundTrip → (m : List (List ℕ)) → IsTrue (all_differ m) → Each IsName m → (s u : Stage) (ls : List Line) → Named m s → Each (LineFits m) ls → run s ls ≡ Some u → is_done u ≡ true → Follows m s ls
follows rt m differ names s u [] named fits ran all = subst (λ u. is_done u ≡ true) (sym (same ran)) all
follows rt m differ names s u (l ∷ ls) named fits ran all =
    let a = after-some (next s l) (λ t. run t ls) u ran in
    let said : line_of (stage_maps s) (words (content m l)) ≡ Some l =
    ap (line_of (stage_maps s)) (line-words m l names fits.0) ∙ ap (λ n. line_of n (line_head l ∷ line_tail m l)) (named-maps m s named) ∙ line-back rt m l differ fits.0 in
    (a.0, ap (λ o. after o (next s)) said ∙ a.1, follows rt m differ names a.0 u ls (stays m s l a.0 named a.1) fits.1 a.2 all)

-- the first three lines say the same whatever the names of the maps
heading-line : NumbersRoundTrip → (m : List (List ℕ)) (l : Line) (s t : Stage) → Each IsName m → LineFits m l → LineFits [] l → line_tail [] l ≡ line_tail m l → stage_maps s ≡ [] → next s l ≡ Some t → step s (words (content m l)) ≡ Some t
heading-line rt m l s t names fits fits0 tail none goes =
    let said : line_of (stage_maps s) (words (content m l)) ≡ Some l =
    ap (line_of (stage_maps s)) (line-words m l names fits ∙ ap (λ ws. line_head l ∷ ws) (sym tail)) ∙ ap (λ n. line_of n (line_head l ∷ line_tail [] l)) none ∙ line-back rt [] l refl fits0 in
    ap (λ o. after o (next s)) said ∙ goes

journal-follows : NumbersRoundTrip → (j : Journal) → JournalFits j → Follows j.maps Begun (journal_items j)
journal-follows rt j h =
    let m = j.maps in
    let fits = items-fit j h in
    let size = line_as.Size j.processors j.pages in
    let types = line_as.Types j.types in
    let declared = line_as.Maps j.maps in (
      Sized,
      heading-line rt m size Begun Sized h.maps fits.0 fits.0 refl refl refl,
      (
        Typed,
        heading-line rt m types Sized Typed h.maps fits.1.0 fits.1.0 refl refl refl,
        (
          Mapped m,
          heading-line rt m declared Typed (Mapped m) h.maps fits.1.1.0 fits.1.1.0 refl refl refl,
          follows rt m j.maps_differ h.maps (Mapped m) (Counting m 19) (line_as.Scripts j.scripts ∷ body_items j) refl fits.1.1.1 (accepted j h.nineteen) refl,
        ),
      ),
    )

-- where a line may not come, no journal's text agrees with these up to it
pub no-journal : NumbersRoundTrip → (bytes : List ℕ) (k : ℕ) (j : Journal) → Each (λ p. no_feed p ≡ true) (pieces bytes) → first_bad Begun (pieces bytes) ≡ Some k → JournalFits j → AgreeIn (suc k) bytes (journal_text j) → ⊥
no-journal rt bytes k j clean bad h agree =
    let cut : pieces (journal_text j) ≡ map (content j.maps) (journal_items j) ++ [] ∷ [] = ap pieces (text-lines j) ∙ lines-cut j.maps (journal_items j) h.maps (items-fit j h) in
    refused j.maps (pieces bytes) (journal_items j) Begun k clean (journal-follows rt j h) bad (agree ∙ ap (λ ps. take (suc k) (with_feeds ps)) cut)

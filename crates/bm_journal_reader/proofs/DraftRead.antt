-- A line of the heading, taken.
use Rattle.std.proofs.Common.{◌≡◌, ℕ, Bool, true, false, List, [], ◌∷◌, ◌++◌, Some, None, refl, sym, ap, ◌∙◌, subst}
use Rattle.std.specs.Prelude.{codes}
use Rattle.bm_journal.specs.EntryText.{Words}
use Rattle.bm_journal.specs.WellFormed.{all_differ}
use Rattle.bm_law_text.specs.declared.line.Line.{Line}
use Rattle.bm_law_text.specs.declared.line.Line.TheVariants as line_as
use Rattle.bm_journal_reader.specs.declared.draft.Head.TheVariants as head
use Rattle.bm_journal_reader.specs.declared.draft.Draft.{Draft}
use Rattle.bm_journal_reader.specs.declared.body.Part.{Part}
use Rattle.bm_journal_reader.specs.declared.body.Part.TheVariants as part
use Rattle.bm_law_text.specs.Parts.{after, names}
use Rattle.bm_law_text.specs.Entries.{past_word}
use Rattle.bm_law_text.specs.Reading.{size_words, body_line_of}
use Rattle.bm_journal_reader.specs.Drafts.{Opened, stage_line, next, draft_stage, head_order, staged, body_stage, body_lines, parts_lines, open_log, open_graph, IsInOrder, UpTo, MapsKept, IsSound, Read, Reads, Takes}

pub size-read : (old new : Draft) (ws rest : Words) → old.head ≡ head.Size → new.head ≡ head.Types → Some rest ≡ past_word (codes "processors") ws → Some (line_as.Size new.processors new.pages) ≡ size_words rest → Read old ws new
size-read old new ws rest e1 e2 a b = record {
  line = line_as.Size new.processors new.pages;
  said = rw e1 (rw (← a) (sym b));
  stage = rw e1 (rw e2 refl);
  lines = rw e1 (rw e2 refl);
  sound = rw e2 tt;
}

pub types-read : (old new : Draft) (ws rest : Words) → old.head ≡ head.Types → new.head ≡ head.Maps → new.processors ≡ old.processors → new.pages ≡ old.pages → Some rest ≡ past_word (codes "types") ws → Some new.types.items ≡ names rest → Read old ws new
types-read old new ws rest e1 e2 p g a b = record {
  line = line_as.Types new.types.items;
  said = rw e1 (rw (← a) (rw (← b) refl));
  stage = rw e1 (rw e2 refl);
  lines = rw e1 (rw e2 (cc));
  sound = rw e2 tt;
}

pub maps-read : (old new : Draft) (ws rest : Words) → old.head ≡ head.Maps → new.head ≡ head.Scripts → new.processors ≡ old.processors → new.pages ≡ old.pages → new.types ≡ old.types → Some rest ≡ past_word (codes "maps") ws → Some new.maps.items ≡ names rest → new.maps.items ≡ rest → (new.owners ≡ rest) × (all_differ rest ≡ true) → Read old ws new
maps-read old new ws rest e1 e2 p g t a b n d =
    let differ : all_differ new.maps.items ≡ true = ap all_differ n ∙ d.1 in
    record {
      line = line_as.Maps new.maps.items;
      said = rw e1 (rw (← a) (rw (← b) (rw differ refl)));
      stage = rw e1 (rw e2 refl);
      lines = rw e1 (rw e2 (cc));
      sound = rw e2 (d.0 ∙ sym n, differ);
    }

pub scripts-read : (old new : Draft) (ws rest : Words) → old.head ≡ head.Scripts → IsSound old → new.head ≡ head.Behind → new.processors ≡ old.processors → new.pages ≡ old.pages → new.types ≡ old.types → new.maps ≡ old.maps → new.owners ≡ old.owners → Some rest ≡ past_word (codes "scripts") ws → Some new.scripts.items ≡ names rest → new.body.classes.items ≡ [] → new.body.logs.items ≡ [] → new.body.graphs.items ≡ [] → new.body.totals.items ≡ [] → new.body.part ≡ part.Classes → Read old ws new
scripts-read old new ws rest e1 so e2 p g t m o a b b1 b2 b3 b4 b5 =
    let P = parts_lines in
    let kept : MapsKept old = subst (λ h. head_order h old) e1 so in
    let none : body_lines new.body ≡ [] = (λ i. P (b1 i) (b2 i ++ open_log (b5 i)) (b3 i ++ open_graph (b5 i)) (b4 i)) in
    let order : IsInOrder new.body = subst (λ q. UpTo q new.body.logs.items new.body.graphs.items new.body.totals.items) (sym b5) (b2, b3, b4) in
    record {
      line = line_as.Scripts new.scripts.items;
      said = rw e1 (rw (← a) (rw (← b) refl));
      stage = rw e1 (rw e2 (rw b5 (ap (λ v. Some (Opened v.items)) (sym m))));
      lines = rw e1 (rw e2 (rw none (cc)));
      sound = rw e2 ((o ∙ kept.0 ∙ ap (λ v. v.items) (sym m), ap (λ v. all_differ v.items) m ∙ kept.1), order);
    }

-- behind the heading, whatever is open, the same lines are looked for
pub behind-line : (maps : List (List ℕ)) (p : Part) (logs totals : ℕ) (ws : Words) → stage_line (staged maps p logs totals) ws ≡ body_line_of maps ws
behind-line maps part.Classes logs totals ws = refl
behind-line maps (part.Log v) logs totals ws = refl
behind-line maps (part.Graph n v) logs totals ws = refl
behind-line maps part.Totals logs totals ws = refl

pub behind-reads : (b : Bool) (old new : Draft) (ws : Words) (line : Line) → old.head ≡ head.Behind → IsSound old → new.head ≡ old.head → new.processors ≡ old.processors → new.pages ≡ old.pages → new.types ≡ old.types → new.maps ≡ old.maps → new.owners ≡ old.owners → new.scripts ≡ old.scripts → Some line ≡ body_line_of old.owners ws → Takes b old.maps.items old.body line new.body → Reads b old ws new
behind-reads b old new ws line e1 so e2 p g t m o s a takes =
    let kept : MapsKept old × IsInOrder old.body = subst (λ h. head_order h old) e1 so in
    let here : body_line_of old.maps.items ws ≡ Some line = ap (λ maps. body_line_of maps ws) (sym kept.0.0) ∙ sym a in
    let said : stage_line (draft_stage old) ws ≡ Some line = rw e1 (behind-line old.maps.items old.body.part _ _ ws ∙ here) in
    let behind : new.head ≡ head.Behind = e2 ∙ e1 in
    let case : (b : Bool) → Takes b old.maps.items old.body line new.body → Reads b old ws new = λ b.
    elim b as (λ b. Takes b old.maps.items old.body line new.body → Reads b old ws new) [
      | true ↦ λ h. record {
        line = line;
        said = said;
        stage = rw e1 (rw behind (h.stage ∙ ap (λ v. Some (body_stage v.items new.body)) (sym m)));
        lines = rw e1 (rw behind ((λ i. line_as.Size (p i) (g i) ∷ line_as.Types (t i).items ∷ line_as.Maps (m i).items ∷ line_as.Scripts (s i).items ∷ h.lines i)));
        sound = rw behind ((o ∙ kept.0.0 ∙ ap (λ v. v.items) (sym m), ap (λ v. all_differ v.items) m ∙ kept.0.1), h.order);
      }
      | false ↦ λ h. rw said (rw e1 h)
    ]
    in case b takes

pub maps-refused : (old : Draft) (ws rest ns : Words) → old.head ≡ head.Maps → Some rest ≡ past_word (codes "maps") ws → Some ns ≡ names rest → ns ≡ rest → all_differ rest ≡ false → after (stage_line (draft_stage old) ws) (next (draft_stage old)) ≡ None
maps-refused old ws rest ns e a b n d =
    let apart : all_differ ns ≡ false = ap all_differ n ∙ d in
    rw e (rw (← a) (rw (← b) (rw apart refl)))

-- What the words of a line say.
use Rattle.std.specs.Prelude.{ℕ, ◌^◌, List, [], ◌∷◌, Option, Some, None, codes, position, find, if◌then◌else◌}
use Rattle.std.specs.Str.{bytes_eq}
use Rattle.bm_journal.specs.declared.ids.ObjId.{ObjId}
use Rattle.bm_journal.specs.declared.past.PastCall.{PastCall}
use Rattle.bm_journal.specs.declared.past.PastCall.TheVariants as past
use Rattle.bm_journal.specs.EntryText.{Words}
use Rattle.bm_journal.specs.TotalNames.{all_totals, total_name}
use Rattle.bm_journal.specs.WellFormed.{all_differ}
use Rattle.std.specs.Prelude.{nat_lt}
use Rattle.bm_law_text.specs.declared.kind.Kind.{Kind}
use Rattle.bm_law_text.specs.declared.kind.Kind.TheVariants as kind
use Rattle.bm_law_text.specs.declared.line.Line.{Line}
use Rattle.bm_law_text.specs.declared.line.Line.TheVariants as line_as
use Rattle.bm_law_text.specs.Kinds.{kind_of}
use Rattle.bm_law_text.specs.Parts.{after, only_if, word_is, number, name, names, class, object_id, tag}
use Rattle.bm_law_text.specs.Entries.{entry_of}

-- ---- the heading and the totals

abbrev pub size_words : Words → Option Line
size_words (p ∷ w ∷ g ∷ []) =
    only_if (word_is (codes "pages") w)
    (after (number (2 ^ 8) p) (λ p. after (number (2 ^ 16) g) (λ g. Some (line_as.Size p g))))
size_words words = None

abbrev pub class_words : Words → Option Line
class_words (c ∷ w ∷ l ∷ h ∷ b ∷ []) =
    only_if (word_is (codes "marks") w)
    (after (class c)
    (λ c. after (number (2 ^ 32) l)
    (λ l. after (number (2 ^ 32) h)
    (λ h. after (number (2 ^ 32) b)
    (λ b. Some (line_as.Class c (record { low = l; high = h; batch = b })))))))
class_words words = None

abbrev pub processor_words : Words → Option Line
processor_words (p ∷ []) = after (number (2 ^ 64) p) (λ p. Some (line_as.Processor p))
processor_words words = None

abbrev pub graph_words : Words → Option Line
graph_words (n ∷ []) = after (name n) (λ n. Some (line_as.Graph n))
graph_words words = None

abbrev pub total_words : Words → Option Line
total_words (n ∷ v ∷ []) =
    after (find (λ t. bytes_eq (total_name t) n) all_totals)
    (λ t. after (number (2 ^ 64) v) (λ v. Some (line_as.Total t v)))
total_words words = None

-- ---- histories; an owner is one of the maps, at a place that a byte can say

unfoldable pub owner_place : List (List ℕ) → List ℕ → Option ℕ
owner_place maps word =
    after (position (λ m. bytes_eq word m) maps)
    (λ place. only_if (nat_lt place (2 ^ 8)) (Some place))

abbrev pub past_pushed_call : Kind → ObjId → Option PastCall
past_pushed_call kind.PushFront o = Some (past.PushFront o)
past_pushed_call kind.PushBack o = Some (past.PushBack o)
past_pushed_call k o = None

abbrev pub past_refused_call : Kind → ObjId → ℕ → Option PastCall
past_refused_call kind.PushFront o owner = Some (past.PushFrontAlready o owner)
past_refused_call kind.PushBack o owner = Some (past.PushBackAlready o owner)
past_refused_call k o owner = None

abbrev pub past_refused : Kind → Option ObjId → List ℕ → Option ℕ → Option PastCall
past_refused k o y owner =
    only_if (word_is (codes "already") y) (after o (λ o. after owner (past_refused_call k o)))

abbrev pub past_pushed : List (List ℕ) → Kind → Words → Option PastCall
past_pushed maps k (u ∷ l ∷ []) = after (object_id u l) (past_pushed_call k)
past_pushed maps k (u ∷ l ∷ y ∷ owner ∷ []) =
    past_refused k (object_id u l) y (owner_place maps owner)
past_pushed maps k words = None

abbrev pub past_added : List (List ℕ) → Words → Option PastCall
past_added maps (u ∷ l ∷ key ∷ []) =
    after (object_id u l) (λ o. after (number (2 ^ 32) key) (λ key. Some (past.Add o key)))
past_added maps (u ∷ l ∷ key ∷ y ∷ owner ∷ []) =
    only_if (word_is (codes "already") y)
    (after (object_id u l)
    (λ o. after (number (2 ^ 32) key)
    (λ key. after (owner_place maps owner)
    (λ owner. Some (past.AddAlready o key owner)))))
past_added maps words = None

abbrev pub past_found_call : Kind → ObjId → Option PastCall
past_found_call kind.PopFront o = Some (past.PopFront o)
past_found_call kind.PopBack o = Some (past.PopBack o)
past_found_call kind.First o = Some (past.First o)
past_found_call kind.Remove o = Some (past.Remove o)
past_found_call k o = None

abbrev pub past_none_call : Kind → Option PastCall
past_none_call kind.PopFront = Some past.PopFrontNone
past_none_call kind.PopBack = Some past.PopBackNone
past_none_call kind.First = Some past.FirstNone
past_none_call k = None

abbrev pub past_found : Kind → Words → Option PastCall
past_found k (u ∷ l ∷ []) = after (object_id u l) (past_found_call k)
past_found k (x ∷ []) = only_if (word_is (codes "none") x) (past_none_call k)
past_found k words = None

abbrev pub past_as : List (List ℕ) → Kind → Words → Option PastCall
past_as maps kind.PushFront ws = past_pushed maps kind.PushFront ws
past_as maps kind.PushBack ws = past_pushed maps kind.PushBack ws
past_as maps kind.Add ws = past_added maps ws
past_as maps k ws = past_found k ws

abbrev pub past_call : List (List ℕ) → Words → Option PastCall
past_call maps [] = None
past_call maps (w ∷ ws) = after (kind_of w) (λ k. past_as maps k ws)

abbrev pub past_line_words : List (List ℕ) → Words → Option Line
past_line_words maps (pos ∷ b ∷ p ∷ s ∷ ws) =
    only_if (word_is (codes "by") b)
    (after (number (2 ^ 64) pos)
    (λ pos. after (tag p s)
    (λ t. after (past_call maps ws)
    (λ c. Some (line_as.Past pos (record { tag = t; call = c }))))))
past_line_words maps words = None

-- ---- the whole: a line that begins with a number is an entry, and any other is told by its first word

abbrev pub heading_titled : List ℕ → Words → Option Line
heading_titled w ws =
    if word_is (codes "processors") w then size_words ws
    else (if word_is (codes "types") w then after (names ws) (λ ns. Some (line_as.Types ns))
    else
    (if word_is (codes "maps") w
    then after (names ws) (λ ns. only_if (all_differ ns) (Some (line_as.Maps ns)))
    else (if word_is (codes "scripts") w then after (names ws) (λ ns. Some (line_as.Scripts ns))
    else None)))

abbrev pub body_titled : List (List ℕ) → List ℕ → Words → Option Line → Option Line
body_titled maps w ws other =
    if word_is (codes "at") w then past_line_words maps ws
    else (if word_is (codes "graph") w then graph_words ws
    else (if word_is (codes "processor") w then processor_words ws
    else (if word_is (codes "total") w then total_words ws
    else (if word_is (codes "class") w then class_words ws
    else other))))

abbrev pub headed : List (List ℕ) → Option ℕ → List ℕ → Words → Option Line → Option Line
headed maps None w ws other = body_titled maps w ws other
headed maps (Some l) w ws other = after (entry_of ws) (λ e. Some (line_as.Entry l e))

-- what the words of a line say, where the maps have these names
abbrev pub line_of : List (List ℕ) → Words → Option Line
line_of maps [] = None
line_of maps (w ∷ ws) = headed maps (number 4 w) w ws (heading_titled w ws)

-- the same of a line behind the heading's first four
abbrev pub body_line_of : List (List ℕ) → Words → Option Line
body_line_of maps [] = None
body_line_of maps (w ∷ ws) = headed maps (number 4 w) w ws None

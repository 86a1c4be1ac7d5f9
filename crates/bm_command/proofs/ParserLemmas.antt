-- The parser's answer to the words of a command is the command that they are.
use Rattle.std.proofs.Common.{◌≡◌, inl, inr, Bool, true, false, List, [], ◌∷◌, Option, Some, None, is_some, option_map, refl, ap, ◌∙◌, codes}
use Rattle.std.specs.Prelude.{Box}
use Rattle.std.specs.Box.{box_value}
use Rattle.std.specs.Str.{bytes_eq}
use Rattle.clap.specs.Words.{App, HasMatchesOf, Row, Text, is_simple, one_of, one_text, rows_of, subcommand_of, subcommand_rows, subcommand_rows_of, takes}
use Rattle.clap.specs.declared.parser.matches.ArgMatches.{ArgMatches}
use Rattle.clap.specs.declared.parser.matches.Found.{Found}
use Rattle.clap.proofs.WalkLemmas.{one_text-rows}
use Rattle.clap.specs.declared.parser.matches.SubCommand.{SubCommand}
use Rattle.clap.specs.declared.parser.matches.ArgMatches.TheViews.{out-SubCommand}
use Rattle.clap.proofs.OnLiterals.{clap_on_literals}
use Rattle.bm_command.specs.declared.command.Reading.TheVariants.{Replay}
use Rattle.bm_command.specs.Words.{reading_of}
use Rattle.bm_command.specs.Grammar.{grammar_app, entered_reading, replay_by}
use Rattle.bm_command.proofs.WordLemmas.{are_known, is_or_not, same_word}

pub is_simple_grammar : is_simple grammar_app ≡ true
unfolding clap_on_literals
is_simple_grammar = refl

-- the parser takes the words, and what it finds is the command
pub record IsReadAs (words : List Text) : Type 0 where
  pub taken : takes grammar_app words ≡ true
  pub found : entered_reading (subcommand_of grammar_app words) ≡ reading_of words

replay_read : IsReadAs (codes "replay" ∷ [])
unfolding clap_on_literals
replay_read = record { taken = refl; found = refl }

totals_read : IsReadAs (codes "replay" ∷ codes "--totals" ∷ [])
unfolding clap_on_literals
totals_read = record { taken = refl; found = refl }

check_read : IsReadAs (codes "check" ∷ [])
unfolding clap_on_literals
check_read = record { taken = refl; found = refl }

pub commands_are_read : (words : List Text) → is_some (reading_of words) ≡ true → IsReadAs words
commands_are_read words h = elim (are_known words h) [
  | inl replay ↦ rw replay replay_read
  | inr others ↦ elim others [
    | inl totals ↦ rw totals totals_read
    | inr check ↦ rw check check_read
  ]
]

-- ---- the getters

-- a subcommand is its name and what was found behind it
pub entered_is : {Z : Type 0} (entered : Option (Box SubCommand Z)) (name : Text) (rows : List Row)
    → Some name ≡ option_map (λ b. (out-SubCommand (box_value b)).name.now) entered
    → Some rows ≡ option_map (λ p. p.1) (subcommand_rows entered)
    → subcommand_rows entered ≡ Some (name, rows)
entered_is None name rows n r = absurd (cc)
entered_is (Some b) name rows n r = cc

-- a flag that was read is the command's
pub flag_is : (text : Option Text) (flag : Bool) → is_some (replay_by text) ≡ true
    → (text ≡ Some (codes "true") → flag ≡ true) → (text ≡ Some (codes "false") → flag ≡ false)
    → replay_by text ≡ Some (Replay flag)
flag_is None flag h set unset = absurd (let bad : false ≡ true = h in cc)
flag_is (Some text) flag h set unset = elim (is_or_not (bytes_eq text (codes "true"))) [
  | inl is ↦ (let same : text ≡ codes "true" = same_word _ _ is in let on : flag ≡ true = set (ap (λ (t : Text). Some t) same) in
      rw (is, on) refl)
  | inr isnt ↦ elim (is_or_not (bytes_eq text (codes "false"))) [
    | inl is ↦ (let same : text ≡ codes "false" = same_word _ _ is in let off : flag ≡ false = unset (ap (λ (t : Text). Some t) same) in
        rw (isnt, is, off) refl)
    | inr other ↦ absurd (let bad : false ≡ true = rw (isnt, other) at h in cc)
  ]
]

-- `replay` was entered, and its flag read
pub replay_entered : {Z : Type 0} (entered : Option (Box SubCommand Z)) (name : Text) (found : Found) (flag : Bool)
    → Some name ≡ option_map (λ b. (out-SubCommand (box_value b)).name.now) entered
    → Some (rows_of found) ≡ option_map (λ p. p.1) (subcommand_rows entered)
    → name ≡ codes "replay"
    → is_some (entered_reading (subcommand_rows entered)) ≡ true
    → (one_text found (codes "totals") ≡ Some (codes "true") → flag ≡ true)
    → (one_text found (codes "totals") ≡ Some (codes "false") → flag ≡ false)
    → entered_reading (subcommand_rows entered) ≡ Some (Replay flag)
replay_entered entered name found flag n r is h set unset =
    let whole : subcommand_rows entered ≡ Some (codes "replay", rows_of found) = entered_is entered _ _ (n' n is) r in
    let given : is_some (replay_by (one_of (codes "totals") (rows_of found))) ≡ true = rw whole at h in
    let text : one_text found (codes "totals") ≡ one_of (codes "totals") (rows_of found) = one_text-rows found (codes "totals") in
    rw whole (flag_is _ flag given (λ e. set (text ∙ e)) (λ e. unset (text ∙ e)))
  where
    n' : {o : Option Text} → Some name ≡ o → name ≡ codes "replay" → Some (codes "replay") ≡ o
    n' e f = cc

-- what the parser found of a command's words is the command
pub matches_are : (program : App) (words : List Text) (m : ArgMatches) → program ≡ grammar_app → is_some (reading_of words) ≡ true
    → HasMatchesOf program words m → entered_reading (subcommand_rows_of m) ≡ reading_of words
matches_are program words m is h has =
    let found : subcommand_rows_of m ≡ subcommand_of grammar_app words =
    (has (ap is_simple is ∙ is_simple_grammar)).1 ∙ ap (λ (a : App). subcommand_of a words) is in
    rw found (commands_are_read words h).found

-- the parser takes a command's words
pub words_are_taken : (program : App) (words : List Text) → program ≡ grammar_app → is_some (reading_of words) ≡ true
    → takes program words ≡ true
words_are_taken program words is h = rw is (commands_are_read words h).taken

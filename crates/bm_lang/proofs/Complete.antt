-- What is spelled so, and meets its conditions, is taken by the machine.
use Rattle.std.proofs.Common.{◌≡◌, ℕ, suc, ◌<◌, ◌≤◌, ◌==◌, ◌%◌, ◌&&◌, Bool, true, false, not, List, [], ◌∷◌, ◌++◌, refl, sym, ◌∙◌, subst, append_assoc, Option, Some, None, Ok, Err, Result, arith}
use Rattle.std.specs.Prelude.{map, All, IfOk, IfSome, is_some, nat_lt, nat_le, unwrap_or}
use Rattle.std.specs.List.{flat_map}
use Rattle.std.proofs.lemmas.List.{append-nil}
use Rattle.std.proofs.lemmas.Bool.Decides.{nat_tests}
use Rattle.bm_lang.specs.declared.keyword.Keyword.TheVariants as word
use Rattle.bm_lang.specs.declared.fault.LangFault.{LangFault}
use Rattle.bm_lang.specs.declared.fault.LangFault.TheVariants.{Bad, NoMemory}
use Rattle.bm_lang.specs.declared.scenario.Parts.{Parts}
use Rattle.bm_lang.specs.declared.scenario.TypeDeclaration.{TypeDeclaration}
use Rattle.bm_lang.specs.declared.scenario.MapDeclaration.{MapDeclaration}
use Rattle.bm_lang.specs.declared.scenario.MapKind.{MapKind}
use Rattle.bm_lang.specs.declared.scenario.MapKind.TheVariants as map_kind
use Rattle.bm_lang.specs.declared.scenario.Script.{Script}
use Rattle.bm_lang.specs.declared.scenario.RunLine.{RunLine}
use Rattle.bm_lang.specs.declared.scenario.AtLine.{AtLine}
use Rattle.bm_lang.specs.declared.scenario.Node.{Node}
use Rattle.bm_lang.specs.declared.scenario.Node.TheVariants as node
use Rattle.bm_lang.specs.Tokens.{Sort, Open, Close, Reserved, End, Mark, tokens, start}
use Rattle.bm_lang.specs.Names.{Names, TypeForm, MapForm, ScriptForm, no_names, no_draft, type_named}
use Rattle.bm_lang.specs.Known.{drafting, knowing, form}
use Rattle.bm_lang.specs.Grammar.{Shift, next, Word, OpenBrace, CloseBrace, EndOfText, AnyNumber, OnOrOff, ProcessorCount, Types, TypeName, Counted, NodeOfType, Fields, PadOfType, PadBytes, TypeEnd, Maps, MapName, MapType, Scripts, ScriptName, KindOfScript, Runs, Processor, ScriptOf, Ats, Level, Turns, TurnNumbers, Braced, is_word, is_name, is_number, declarations, scenario}
use Rattle.bm_lang.specs.Machine.{parse, fault_of}
use Rattle.bm_lang.specs.Spelling as words
use Rattle.bm_lang.specs.Spelling.{any, on, name, number, reserved, declared, type_form, map_form, script_form, type_name, script_name, type_words, spell_type, counted_words, node_word, node_words, pad_words, map_word, spell_map, script_word, spell_script, spell_run, spell_at, spell_turns, on_or_off, spell_header, spell_scenario}
use Rattle.bm_lang.specs.Fine.{Fresh, FineType, FineTypes, FineMaps, FineScripts, FineRun, FineAt, HasConditions}
use Rattle.bm_lang.specs.Reads.{Spells, Says, Reading, begins_node, begins_map}
use Rattle.bm_lang.specs.Scenarios.{Reads, ReadsButLines, IsFine, IfBad, IsOkUnlessMemory}
use Rattle.bm_lang.proofs.Steps.{may_passed, name_passed, number_passed, node_passed, map_passed, node_known, map_known, script_known}
use Rattle.bm_lang.proofs.Pushes.{end-of-seven}
use Rattle.bm_lang.proofs.Through.{Said, Through, stay, take_word, leave_out, then, behind_it, regroup, first_isnt, first_of_lines, Distinct}
use Rattle.bm_lang.proofs.Actions.{Around, map_type_taken, script_taken, block_through}

counted_through : (b : Bool) (p : ℕ) (types : List TypeForm) (n : List ℕ) (rest : List words.Word) (a c : List Mark) → Said a (counted_words b ++ rest) c → first_isnt (is_word word.Counted) rest ≡ true
    → Through (drafting p types (form n false None [] 0)) (Counted ∷ []) (drafting p types (form n b None [] 0)) [] a rest c
counted_through false p types n rest a c q o = leave_out Counted (is_word word.Counted) q o (λ t h. may_passed _ _ h) (stay _ [] q)
counted_through true p types n rest a c q o = take_word Counted [] [] (reserved word.Counted) q refl (λ m r. stay _ [] r)

node_through : (o : Option Node) (p : ℕ) (types : List TypeForm) (n : List ℕ) (b : Bool) (rest : List words.Word) (a c : List Mark) → Said a (node_words o ++ rest) c → first_isnt begins_node rest ≡ true
    → Through (drafting p types (form n b None [] 0)) (NodeOfType ∷ []) (drafting p types (form n b o [] 0)) [] a rest c
node_through None p types n b rest a c q o = leave_out NodeOfType begins_node q o (node_passed (drafting p types (form n b None [] 0))) (stay _ [] q)
node_through (Some d) p types n b rest a c q o = take_word NodeOfType [] [] (reserved (node_word d)) q (rw node_known refl) (λ m r. stay _ [] r)

fields_through : (fs : List (List ℕ)) (p : ℕ) (types : List TypeForm) (n : List ℕ) (b : Bool) (o : Option Node) (before : List (List ℕ)) (rest : List words.Word) (a c : List Mark) → Fresh before fs → Said a (map name fs ++ rest) c → first_isnt is_name rest ≡ true
    → Through (drafting p types (form n b o before 0)) (Fields ∷ []) (drafting p types (form n b o (before ++ fs) 0)) [] a rest c
fields_through [] p types n b o before rest a c f q e = rw append-nil (leave_out Fields is_name q e (λ t h. name_passed t _ h) (stay _ [] q))
fields_through (x ∷ xs) p types n b o before rest a c f q e =
    let P : List (List ℕ) → Type 0 = λ fs. Through (drafting p types (form n b o before 0)) (Fields ∷ []) (drafting p types (form n b o fs 0)) [] a rest c in
    subst P (append_assoc before (x ∷ []) xs) (take_word Fields (Fields ∷ []) [] (name x) q (rw f.0 refl) (λ m r. fields_through xs p types n b o (before ++ x ∷ []) rest m c f.1 r e))

pad_through : (o : Option ℕ) (p : ℕ) (types : List TypeForm) (n : List ℕ) (b : Bool) (d : Option Node) (fs : List (List ℕ)) (rest : List words.Word) (a c : List Mark) → IfSome o (λ k. (k % 8 == 0) ≡ true) → Said a (pad_words o ++ rest) c → first_isnt (is_word word.Pad) rest ≡ true
    → Through (drafting p types (form n b d fs 0)) (PadOfType ∷ []) (drafting p types (form n b d fs (unwrap_or o 0))) [] a rest c
pad_through None p types n b d fs rest a c f q e = leave_out PadOfType (is_word word.Pad) q e (λ t h. may_passed _ _ h) (stay _ [] q)
pad_through (Some k) p types n b d fs rest a c f q e = take_word PadOfType (PadBytes ∷ []) [] (reserved word.Pad) q refl (λ m r. take_word PadBytes [] [] (number k) r (rw f refl) (λ m s. stay _ [] s))

after_count : (d : Option Node) (ws rest : List words.Word) → first_isnt (is_word word.Counted) ((node_words d ++ any Open ∷ ws) ++ rest) ≡ true
after_count None ws rest = refl
after_count (Some node.List) ws rest = refl
after_count (Some node.Tree) ws rest = refl

after_fields : (o : Option ℕ) (rest : List words.Word) → first_isnt is_name ((pad_words o ++ any Close ∷ []) ++ rest) ≡ true
after_fields None rest = refl
after_fields (Some k) rest = refl

type_through : (t : TypeDeclaration) (p : ℕ) (before : List TypeForm) (rest : List words.Word) (a c : List Mark) → is_some (type_named before t.name) ≡ false → FineType t → Said a (type_words t ++ rest) c
    → Through (drafting p before no_draft) (TypeName ∷ Counted ∷ NodeOfType ∷ OpenBrace ∷ Fields ∷ PadOfType ∷ TypeEnd ∷ []) (drafting p (before ++ type_form t ∷ []) no_draft) [] a rest c
type_through t p before rest a c u f q =
    let w4 = pad_words t.pad ++ any Close ∷ [] in
    let w3 = map name t.fields ++ w4 in
    let w2 = node_words t.node ++ any Open ∷ w3 in
    take_word TypeName [] (Counted ∷ NodeOfType ∷ OpenBrace ∷ Fields ∷ PadOfType ∷ TypeEnd ∷ []) (name t.name) q (rw u refl) (λ m q.
    then (behind_it (NodeOfType ∷ OpenBrace ∷ Fields ∷ PadOfType ∷ TypeEnd ∷ []) (counted_through t.counted p before t.name (w2 ++ rest) m c (regroup (counted_words t.counted) w2 rest q) (after_count t.node w3 rest))) (λ m q.
    then (behind_it (OpenBrace ∷ Fields ∷ PadOfType ∷ TypeEnd ∷ []) (node_through t.node p before t.name t.counted (any Open ∷ (w3 ++ rest)) m c (regroup (node_words t.node) (any Open ∷ w3) rest q) refl)) (λ m q.
    take_word OpenBrace [] (Fields ∷ PadOfType ∷ TypeEnd ∷ []) (any Open) q refl (λ m q.
    then (behind_it (PadOfType ∷ TypeEnd ∷ []) (fields_through t.fields p before t.name t.counted t.node [] (w4 ++ rest) m c f.fresh (regroup (map name t.fields) w4 rest q) (after_fields t.pad rest))) (λ m q.
    then (behind_it (TypeEnd ∷ []) (pad_through t.pad p before t.name t.counted t.node t.fields (any Close ∷ rest) m c f.pad (regroup (pad_words t.pad) (any Close ∷ []) rest q) refl)) (λ m q.
    take_word TypeEnd [] [] (any Close) q (rw (f.key, f.size) refl) (λ m q. stay _ [] q)))))))

types_through : (ts : List TypeDeclaration) (p : ℕ) (before : List TypeForm) (rest : List words.Word) (a c : List Mark) → FineTypes before ts → Said a (flat_map spell_type ts ++ rest) c → first_isnt (is_word word.Type) rest ≡ true
    → Through (drafting p before no_draft) (Types ∷ []) (drafting p (before ++ map type_form ts) no_draft) [] a rest c
types_through [] p before rest a c f q e = rw append-nil (leave_out Types (is_word word.Type) q e (λ t h. may_passed _ _ h) (stay _ [] q))
types_through (t ∷ ts) p before rest a c f q e =
    let P : List TypeForm → Type 0 = λ fs. Through (drafting p before no_draft) (Types ∷ []) (drafting p fs no_draft) [] a rest c in
    subst P (append_assoc before (type_form t ∷ []) (map type_form ts))
    (take_word Types (TypeName ∷ Counted ∷ NodeOfType ∷ OpenBrace ∷ Fields ∷ PadOfType ∷ TypeEnd ∷ Types ∷ []) [] (on t.line (Reserved word.Type)) (regroup (spell_type t) (flat_map spell_type ts) rest q) refl
    (λ m r. then (behind_it (Types ∷ []) (type_through t p before (flat_map spell_type ts ++ rest) m c f.0 f.1 r)) (λ m s. types_through ts p (before ++ type_form t ∷ []) rest m c f.2 s e)))

maps_through : (ms : List MapDeclaration) (p : ℕ) (types : List TypeForm) (before : List MapForm) (rest : List words.Word) (a c : List Mark) → Distinct (λ (t : TypeForm). t.name) [] types → FineMaps types before ms → Said a (flat_map (spell_map types) ms ++ rest) c → first_isnt begins_map rest ≡ true
    → Through (knowing p types before []) (Maps ∷ []) (knowing p types (before ++ map map_form ms) []) [] a rest c
maps_through [] p types before rest a c d f q e = rw append-nil (leave_out Maps begins_map q e (map_passed _) (stay _ [] q))
maps_through (x ∷ ms) p types before rest a c d f q e =
    let P : List MapForm → Type 0 = λ fs. Through (knowing p types before []) (Maps ∷ []) (knowing p types fs []) [] a rest c in
    subst P (append_assoc before (map_form x ∷ []) (map map_form ms))
    (take_word {n = knowing p types before []} Maps (MapName x.kind ∷ Maps ∷ []) [] (on x.line (Reserved (map_word x.kind))) (regroup (spell_map types x) (flat_map (spell_map types) ms) rest q) (rw map_known refl) (λ m r.
    take_word {n = knowing p types (before ++ map_form x ∷ []) []} (MapName x.kind) (MapType x.kind ∷ []) (Maps ∷ []) (name x.name) r (rw f.0 refl) (λ m s.
    take_word (MapType x.kind) [] (Maps ∷ []) (name (type_name types x.type_id.0)) s (map_type_taken p x.type_id.0 x.kind types (before ++ map_form x ∷ []) d f.1) (λ m t. maps_through ms p types (before ++ map_form x ∷ []) rest m c d f.2 t e))))

scripts_through : (ss : List Script) (p : ℕ) (types : List TypeForm) (maps : List MapForm) (before : List ScriptForm) (rest : List words.Word) (a c : List Mark) → Distinct (λ (t : TypeForm). t.name) [] types → Distinct (λ (m : MapForm). m.name) [] maps
    → FineScripts types maps before ss → Said a (flat_map (spell_script types maps) ss ++ rest) c → first_isnt (is_word word.Script) rest ≡ true
    → Through (knowing p types maps before) (Scripts ∷ []) (knowing p types maps (before ++ map script_form ss)) [] a rest c
scripts_through [] p types maps before rest a c dt dm f q e = rw append-nil (leave_out Scripts (is_word word.Script) q e (λ t h. may_passed _ _ h) (stay _ [] q))
scripts_through (x ∷ ss) p types maps before rest a c dt dm f q e =
    let P : List ScriptForm → Type 0 = λ fs. Through (knowing p types maps before) (Scripts ∷ []) (knowing p types maps fs) [] a rest c in
    let z : Around = record { p = p; types = types; maps = maps; scripts = before ++ script_form x ∷ []; distinct_types = dt; distinct_maps = dm } in
    subst P (append_assoc before (script_form x ∷ []) (map script_form ss))
    (take_word Scripts (ScriptName ∷ Scripts ∷ []) [] (on x.line (Reserved word.Script)) (regroup (spell_script types maps x) (flat_map (spell_script types maps) ss) rest q) refl (λ m r.
    take_word {n = knowing p types maps before} ScriptName (KindOfScript x.name ∷ []) (Scripts ∷ []) (name x.name) r (rw f.0 refl) (λ m s.
    take_word {n = knowing p types maps (before ++ script_form x ∷ [])} (KindOfScript x.name) (Braced 16 ∷ []) (Scripts ∷ []) (reserved (script_word x.kind)) s (rw script_known refl) (λ m t.
    then (behind_it (Scripts ∷ []) (block_through x.body z 16 (flat_map (spell_script types maps) ss ++ rest) m c f.1 t)) (λ m u. scripts_through ss p types maps (before ++ script_form x ∷ []) rest m c dt dm f.2 u e)))))

below : (n p : ℕ) → n < p → nat_lt n p ≡ true
below n p h = grind (arith, nat_tests)

first_of : {X : Type 0} (P : X → Type 0) (x : X) (xs : List X) → All P (x ∷ xs) → P x
first_of P x xs h = h 0 x (omega arith)

others_of : {X : Type 0} (P : X → Type 0) (x : X) (xs : List X) → All P (x ∷ xs) → All P xs
others_of P x xs h = λ k d lt. h (suc k) d (omega arith)

runs_through : (rs : List RunLine) (p : ℕ) (types : List TypeForm) (maps : List MapForm) (scripts : List ScriptForm) (rest : List words.Word) (a c : List Mark) → Distinct (λ (s : ScriptForm). s.name) [] scripts → All (FineRun p scripts) rs
    → Said a (flat_map (spell_run scripts) rs ++ rest) c → first_isnt (is_word word.Run) rest ≡ true → Through (knowing p types maps scripts) (Runs ∷ []) (knowing p types maps scripts) [] a rest c
runs_through [] p types maps scripts rest a c d f q e = leave_out Runs (is_word word.Run) q e (λ t h. may_passed _ _ h) (stay _ [] q)
runs_through (x ∷ rs) p types maps scripts rest a c d f q e =
    let g = first_of (FineRun p scripts) x rs f in
    take_word Runs (Processor ∷ ScriptOf false ∷ Runs ∷ []) [] (on x.line (Reserved word.Run)) (regroup (spell_run scripts x) (flat_map (spell_run scripts) rs) rest q) refl (λ m r.
    take_word {n = knowing p types maps scripts} Processor [] (ScriptOf false ∷ Runs ∷ []) (number x.processor) r (rw (below x.processor p g.processor) refl) (λ m s.
    take_word (ScriptOf false) [] (Runs ∷ []) (name (script_name scripts x.script.0)) s (script_taken p x.script.0 false types maps scripts d g.script) (λ m t. runs_through rs p types maps scripts rest m c d (others_of (FineRun p scripts) x rs f) t e)))

level_is : (n : ℕ) → 1 ≤ n → n ≤ 3 → nat_le 1 n && nat_le n 3 ≡ true
level_is n a b = grind (arith, nat_tests)

ats_through : (xs : List AtLine) (p : ℕ) (types : List TypeForm) (maps : List MapForm) (scripts : List ScriptForm) (rest : List words.Word) (a c : List Mark) → Distinct (λ (s : ScriptForm). s.name) [] scripts → All (FineAt p scripts) xs
    → Said a (flat_map (spell_at scripts) xs ++ rest) c → first_isnt (is_word word.At) rest ≡ true → Through (knowing p types maps scripts) (Ats ∷ []) (knowing p types maps scripts) [] a rest c
ats_through [] p types maps scripts rest a c d f q e = leave_out Ats (is_word word.At) q e (λ t h. may_passed _ _ h) (stay _ [] q)
ats_through (x ∷ xs) p types maps scripts rest a c d f q e =
    let g = first_of (FineAt p scripts) x xs f in
    take_word Ats (Processor ∷ AnyNumber ∷ Level ∷ ScriptOf true ∷ Ats ∷ []) [] (on x.line (Reserved word.At)) (regroup (spell_at scripts x) (flat_map (spell_at scripts) xs) rest q) refl (λ m r.
    take_word {n = knowing p types maps scripts} Processor [] (AnyNumber ∷ Level ∷ ScriptOf true ∷ Ats ∷ []) (number x.processor) r (rw (below x.processor p g.processor) refl) (λ m s.
    take_word AnyNumber [] (Level ∷ ScriptOf true ∷ Ats ∷ []) (number x.step) s refl (λ m t.
    take_word {n = knowing p types maps scripts} Level [] (ScriptOf true ∷ Ats ∷ []) (number x.level) t (rw (level_is x.level g.lowest g.highest) refl) (λ m u.
    take_word (ScriptOf true) [] (Ats ∷ []) (name (script_name scripts x.script.0)) u (script_taken p x.script.0 true types maps scripts d g.script) (λ m v. ats_through xs p types maps scripts rest m c d (others_of (FineAt p scripts) x xs f) v e)))))

numbers_through : (ns : List ℕ) (p : ℕ) (types : List TypeForm) (maps : List MapForm) (scripts : List ScriptForm) (rest : List words.Word) (a c : List Mark) → All (λ n. n < p) ns → Said a (map number ns ++ rest) c → first_isnt is_number rest ≡ true
    → Through (knowing p types maps scripts) (TurnNumbers ∷ []) (knowing p types maps scripts) [] a rest c
numbers_through [] p types maps scripts rest a c f q e = leave_out TurnNumbers is_number q e (λ t h. number_passed t _ h) (stay _ [] q)
numbers_through (n ∷ ns) p types maps scripts rest a c f q e = take_word TurnNumbers (TurnNumbers ∷ []) [] (number n) q (rw (below n p (first_of (λ n. n < p) n ns f)) refl) (λ m r. numbers_through ns p types maps scripts rest m c (others_of (λ n. n < p) n ns f) r e)

turns_through : (o : Option (List ℕ)) (p : ℕ) (types : List TypeForm) (maps : List MapForm) (scripts : List ScriptForm) (rest : List words.Word) (a c : List Mark) → IfSome o (All (λ n. n < p)) → Said a (spell_turns o ++ rest) c → first_isnt (is_word word.Turns) rest ≡ true
    → Through (knowing p types maps scripts) (Turns ∷ []) (knowing p types maps scripts) [] a rest c
turns_through None p types maps scripts rest a c f q e = leave_out Turns (is_word word.Turns) q e (λ t h. may_passed _ _ h) (stay _ [] q)
turns_through (Some ns) p types maps scripts rest a c f q e =
    take_word Turns (OpenBrace ∷ TurnNumbers ∷ CloseBrace ∷ []) [] (reserved word.Turns) q refl (λ m r.
    take_word OpenBrace [] (TurnNumbers ∷ CloseBrace ∷ []) (any Open) r refl (λ m s.
    then (behind_it (CloseBrace ∷ []) (numbers_through ns p types maps scripts (any Close ∷ rest) m c f (regroup (map number ns) (any Close ∷ []) rest s) refl)) (λ m t.
    take_word CloseBrace [] [] (any Close) t refl (λ m u. stay _ [] u))))

-- no two declared things of a kind have one name
types_distinct : (before : List TypeForm) (ts : List TypeDeclaration) → FineTypes before ts → Distinct (λ (t : TypeForm). t.name) before (map type_form ts)
types_distinct before [] f = tt
types_distinct before (t ∷ ts) f = (f.0, types_distinct (before ++ type_form t ∷ []) ts f.2)

maps_distinct : (types : List TypeForm) (before : List MapForm) (ms : List MapDeclaration) → FineMaps types before ms → Distinct (λ (m : MapForm). m.name) before (map map_form ms)
maps_distinct types before [] f = tt
maps_distinct types before (m ∷ ms) f = (f.0, maps_distinct types (before ++ map_form m ∷ []) ms f.2)

scripts_distinct : (types : List TypeForm) (maps : List MapForm) (before : List ScriptForm) (ss : List Script) → FineScripts types maps before ss → Distinct (λ (s : ScriptForm). s.name) before (map script_form ss)
scripts_distinct types maps before [] f = tt
scripts_distinct types maps before (s ∷ ss) f = (f.0, scripts_distinct types maps (before ++ script_form s ∷ []) ss f.2)

kind_first : (types : List TypeForm) (m : MapDeclaration) (k : MapKind) → first_isnt (is_word word.Type) (on m.line (Reserved (map_word k)) ∷ []) ≡ true
kind_first types m map_kind.Slot = refl
kind_first types m map_kind.List = refl
kind_first types m map_kind.Tree = refl

turns_first : (test : Sort → Bool) (o : Option (List ℕ)) → not (test (Reserved word.Turns)) ≡ true → not (test Close) ≡ true → first_isnt test (spell_turns o ++ any Close ∷ any End ∷ []) ≡ true
turns_first test None h e = e
turns_first test (Some ns) h e = h

on_off_taken : (b : Bool) → next no_names OnOrOff (Reserved (on_or_off b)) ≡ Shift no_names []
on_off_taken true = refl
on_off_taken false = refl

spells_says : (ws : List words.Word) (a b : List Mark) → Spells a ws b → Says a ws b
spells_says [] a b p = p
spells_says (w ∷ ws) a b p = (p.0, p.1, p.2, spells_says ws p.1 b p.4)

on_off_at : (names : Names) (b : Bool) → next names OnOrOff (Reserved (on_or_off b)) ≡ Shift names []
on_off_at names true = refl
on_off_at names false = refl

at_end : (a : List Mark) (names : Names) → Said a [] [] → parse a names [] ≡ None
unfolding parse
at_end a names q = rw q.it refl

-- a scenario's words, and behind them the end of the text
scenario_through : (s : Parts) (a : List Mark) → HasConditions s → Said a (spell_scenario s ++ any End ∷ []) [] → Through no_names scenario (declared s) [] a [] []
scenario_through s a f q =
    let n = s.processors in
    let ts = map type_form s.types in let ms = map map_form s.maps in let ss = map script_form s.scripts in
    let r6 = spell_turns s.turns ++ any Close ∷ any End ∷ [] in
    let r5 = flat_map (spell_at ss) s.ats ++ r6 in
    let r4 = flat_map (spell_run ss) s.runs ++ r5 in
    let r3 = flat_map (spell_script ts ms) s.scripts ++ r4 in
    let r2 = flat_map (spell_map ts) s.maps ++ r3 in
    let dt = types_distinct [] s.types f.types in let dm = maps_distinct ts [] s.maps f.maps in let ds = scripts_distinct ts ms [] s.scripts f.scripts in
    let P : List words.Word → Type 0 = λ ws. Said a ws [] in
    let all = subst P (sym (end-of-seven (spell_header n s.pages s.deferred) (flat_map spell_type s.types) (flat_map (spell_map ts) s.maps) (flat_map (spell_script ts ms) s.scripts) (flat_map (spell_run ss) s.runs) (flat_map (spell_at ss) s.ats) (spell_turns s.turns) (any Close) (any End))) q in
    let later : (test : Sort → Bool) → not (test (Reserved word.Turns)) ≡ true → not (test Close) ≡ true → not (test (Reserved word.At)) ≡ true → first_isnt test r5 ≡ true = λ test h e g. first_of_lines test (spell_at ss) s.ats r6 (λ x. g) (turns_first test s.turns h e) in
    let later4 : (test : Sort → Bool) → not (test (Reserved word.Turns)) ≡ true → not (test Close) ≡ true → not (test (Reserved word.At)) ≡ true → not (test (Reserved word.Run)) ≡ true → first_isnt test r4 ≡ true = λ test h e g i. first_of_lines test (spell_run ss) s.runs r5 (λ x. i) (later test h e g) in
    let later3 : (test : Sort → Bool) → not (test (Reserved word.Turns)) ≡ true → not (test Close) ≡ true → not (test (Reserved word.At)) ≡ true → not (test (Reserved word.Run)) ≡ true → not (test (Reserved word.Script)) ≡ true → first_isnt test r3 ≡ true
    = λ test h e g i j. first_of_lines test (spell_script ts ms) s.scripts r4 (λ x. j) (later4 test h e g i) in
    take_word (Word word.Scenario) [] _ (reserved word.Scenario) all refl (λ m q.
    take_word OpenBrace [] _ (any Open) q refl (λ m q.
    take_word (Word word.Processors) [] _ (reserved word.Processors) q refl (λ m q.
    take_word ProcessorCount [] _ (number n) q (rw (below 0 n f.processors) refl) (λ m q.
    take_word (Word word.Pages) [] _ (reserved word.Pages) q refl (λ m q.
    take_word AnyNumber [] _ (number s.pages) q refl (λ m q.
    take_word (Word word.Deferred) [] _ (reserved word.Deferred) q refl (λ m q.
    take_word OnOrOff [] declarations (reserved (on_or_off s.deferred)) q (on_off_at (drafting n [] no_draft) s.deferred) (λ m q.
    then (behind_it (Maps ∷ Scripts ∷ Runs ∷ Ats ∷ Turns ∷ CloseBrace ∷ EndOfText ∷ []) (types_through s.types n [] r2 m [] f.types q (first_of_lines (is_word word.Type) (spell_map ts) s.maps r3 (λ x. kind_first ts x x.kind) (later3 (is_word word.Type) refl refl refl refl refl)))) (λ m q.
    then (behind_it (Scripts ∷ Runs ∷ Ats ∷ Turns ∷ CloseBrace ∷ EndOfText ∷ []) (maps_through s.maps n ts [] r3 m [] dt f.maps q (later3 begins_map refl refl refl refl refl))) (λ m q.
    then (behind_it (Runs ∷ Ats ∷ Turns ∷ CloseBrace ∷ EndOfText ∷ []) (scripts_through s.scripts n ts ms [] r4 m [] dt dm f.scripts q (later4 (is_word word.Script) refl refl refl refl))) (λ m q.
    then (behind_it (Ats ∷ Turns ∷ CloseBrace ∷ EndOfText ∷ []) (runs_through s.runs n ts ms ss r5 m [] ds f.runs q (later (is_word word.Run) refl refl refl))) (λ m q.
    then (behind_it (Turns ∷ CloseBrace ∷ EndOfText ∷ []) (ats_through s.ats n ts ms ss r6 m [] ds f.ats q (turns_first (is_word word.At) s.turns refl refl))) (λ m q.
    then (behind_it (CloseBrace ∷ EndOfText ∷ []) (turns_through s.turns n ts ms ss (any Close ∷ any End ∷ []) m [] f.turns q refl)) (λ m q.
    take_word CloseBrace [] (EndOfText ∷ []) (any Close) q refl (λ m q.
    take_word EndOfText [] [] (any End) q refl (λ m q. stay (declared s) [] q))))))))))))))))

-- what a text says, line numbers apart, has no fault
pub says_parse : (bytes : List ℕ) (s : Parts) → ReadsButLines bytes s → fault_of bytes ≡ None
says_parse bytes s h =
    let t = scenario_through s (tokens start bytes) h.conditions (record { it = h.said }) in
    t.runs [] ∙ at_end t.middle (declared s) t.says

pub without_lines : (bytes : List ℕ) (s : Parts) → Reads bytes s → ReadsButLines bytes s
without_lines bytes s h = record { said = spells_says (spell_scenario s ++ any End ∷ []) (tokens start bytes) [] h.spelled; conditions = h.conditions }

pub bad_fault : (r : Result Parts LangFault) (bytes : List ℕ) → Reading r no_names scenario declared (λ s. spell_scenario s ++ any End ∷ []) HasConditions (tokens start bytes) [] → IfBad r (λ f. fault_of bytes ≡ Some f)
bad_fault (Ok s) bytes h = tt
bad_fault (Err NoMemory) bytes h = tt
bad_fault (Err (Bad f)) bytes h = h []

pub reads_only : (r : Result Parts LangFault) (bytes : List ℕ) (s : Parts) → Reading r no_names scenario declared (λ s. spell_scenario s ++ any End ∷ []) HasConditions (tokens start bytes) [] → Reads bytes s → IsOkUnlessMemory r
reads_only (Ok x) bytes s g h = tt
reads_only (Err NoMemory) bytes s g h = tt
reads_only (Err (Bad f)) bytes s g h = let e = says_parse bytes s (without_lines bytes s h) in let d = g [] in cc

pub fine_found : (r : Result Parts LangFault) (bytes : List ℕ) → IfOk r (Reads bytes) → IfOk r IsFine
fine_found (Ok s) bytes h = (bytes, without_lines bytes s h)
fine_found (Err e) bytes h = tt

pub found_read : (r : Result Parts LangFault) (bytes : List ℕ) → Reading r no_names scenario declared (λ s. spell_scenario s ++ any End ∷ []) HasConditions (tokens start bytes) [] → IfOk r (Reads bytes)
found_read (Ok s) bytes h = record { spelled = h.spelled; conditions = h.fine }
found_read (Err e) bytes h = tt

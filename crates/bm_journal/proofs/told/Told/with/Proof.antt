-- One entry more was told: the struct has no bytes, and its list is the one before with the entry at its end.
use Rattle.std.proofs.Common.{[], ◌∷◌, ◌++◌, refl}
use seplogic.Ra.Ura.{Ura}
use mir.Syntax.{named}
use mir.Val.{Val, vptr, vstruct, vnil}
use base.Logic.{SProp, ent, emp, via, fst∗}
use prog.Memory.{Memory}
use prog.Routine.{Routine}
use prog.Wp.{Calls, Loops, WpFn, Tables}
use contract.Lifetimes.{Lfts, Shares}
use contract.Monad.{Fun}
use contract.Running.{tables, tables_of}
use sound.WpLaws.{WpFn-mono}
use types.Logic.{Logic}
use types.Kit.{‵, raw, ◌$◌, ◌∵◌, !, qed, move, suffices, done}
use types.Part.{agg}
use types.Run.{enter, returns, no_more}
use types.ByLocal.{alloc_all, pass_all, free_all, look_at, sets}
use denote.Exit.{yes}
use denote.RattleType.{owns}
use denote.Ref.{shr_vals, shr_Tells}
use denote.Shadow.{pure_i}
use denote.Signature.{plain, types_at}
use denote.Triple.Entry.{on_entry, alive, Args}
use denote.Triple.Spec.{Meets, triple_of}
use denote.Triple.Table.{entered}
use denote.Triple.Walked.{says, stay_none_ref, Stays, walk_of, Walks, ends_at, walked, Goes-none_ref, walk_Meets}
use Rattle.bm_journal.specs.contracts.told.Told as told
use Rattle.bm_journal.specs.contracts.level.Level as level
use Rattle.bm_journal.specs.contracts.entry.Entry as entry
use Rattle.bm_journal.specs.contracts.told.Told.with as f
use Rattle.bm_journal.specs.contracts.told.Told.with.Key.{name as key}
use Rattle.bm_journal.proofs.told.Told.with.Statement as stated
use Rattle.bm_journal.proofs.told.Told.with.Code as code

abbrev stayed : Stays (f.ended).signature.params (f.ended).kept
stayed = (
  stay_none_ref (0 ∷ []) tt (plain (λ _. told.the_row)) yes,
  (stay_none_ref (1 ∷ []) tt (plain (λ _. level.the_row)) yes, (stay_none_ref (2 ∷ []) tt (plain (λ _. entry.the_row)) yes, tt)),
)

module _ {M : Type 1} {𝓤 : Ura M} (𝓛 : Logic 𝓤) (mem : Memory → SProp 𝓤) (run : Routine → Fun 𝓤) where
  open 𝓛 use {H}

  module _ (C : Calls 𝓤 H) (Λ : Loops 𝓤 H) (κs : Lfts 3) (qs : Shares 3) (a : Args f.signature κs) where
    abbrev before : Val
    before = vptr a.0.ref_ptr.0 a.0.ref_ptr.1

    abbrev at_level : Val
    at_level = vptr a.1.0.ref_ptr.0 a.1.0.ref_ptr.1

    abbrev the_entry : Val
    the_entry = vptr a.1.1.0.ref_ptr.0 a.1.1.0.ref_ptr.1

    abbrev chosen : (walk_of 𝓛 f.ended stayed (f.clauses 𝓛 mem run)).Ghost
    chosen = ((κs, qs, tt, a, (before ∷ [], (at_level ∷ [], (the_entry ∷ [], tt)))), tt)

    abbrev more_told : told.the_row.Denot
    more_told = record { items = a.0.now.items ++ (a.1.0.now, a.1.1.0.now) ∷ [] }

    walk : ent 𝓤 (on_entry 𝓛 f.signature κs qs a (before ∷ [], (at_level ∷ [], (the_entry ∷ [], tt))))
        (WpFn 𝓤 H C Λ code.function (before ∷ at_level ∷ the_entry ∷ []) ((walk_of 𝓛 f.ended stayed (f.clauses 𝓛 mem run)).post chosen))
    walk =
        qed 𝓛 (raw (alive 𝓛 f.signature κs qs) ∷ ‵ (owns (types_at f.signature.params κs) a (before ∷ [], (at_level ∷ [], (the_entry ∷ [], tt)))) ∷ []) ∵
        enter ! C Λ code.function (before ∷ at_level ∷ the_entry ∷ []) _ $
        alloc_all ! (λ l. pass_all ! refl ((tt, tt), ((tt, tt), ((tt, tt), tt))) $
        sets ! (agg ! (no_more !)) refl (tt, tt) $ returns ! (look_at ! 0 refl) $ free_all ! refl $
        suffices ! _ (ends_at 𝓛 f.ended stayed (f.clauses 𝓛 mem run) chosen (vstruct vnil) more_told (tt, (tt, (tt, tt))) (tt, (tt, (tt, tt)))) $ says ! refl $
        pure_i ! (told.the_row.own_val more_told (vstruct vnil ∷ [])) ((λ vss. (tt, tt)), tt) ((tt, (refl, tt)), tt) $
        move ! (1 ∷ 2 ∷ 0 ∷ []) $ done !)

  module _ (C : Calls 𝓤 H) (Λ : Loops 𝓤 H) where
    walks : Walks 𝓛 f.ended stayed (WpFn 𝓤 H C Λ code.function) (f.clauses 𝓛 mem run)
    walks =
        walked 𝓛 f.ended stayed (f.clauses 𝓛 mem run) (WpFn 𝓤 H C Λ code.function) (λ κs. (shr_vals, (shr_vals, (shr_vals, tt))))
        (λ κs. (shr_Tells (named 0) κs.0 told.the_row, (shr_Tells (named 1) κs.1.0 level.the_row, (shr_Tells (named 2) κs.1.1.0 entry.the_row, tt))))
        (λ κs qs bounds a g are. via 𝓤 _ (fst∗ 𝓤 _ (emp 𝓤)) (walk C Λ κs qs a))

  meets : (𝓣 : Tables 𝓤 H) → Meets 𝓛 f.signature (WpFn 𝓤 H 𝓣.C 𝓣.Λ code.function) (f.spec 𝓛 mem run)
  meets 𝓣 =
      walk_Meets 𝓛 f.ended stayed (
        Goes-none_ref 𝓛 3 (0 ∷ []) tt (plain (λ _. told.the_row)) yes,
        (
          Goes-none_ref 𝓛 3 (1 ∷ []) tt (plain (λ _. level.the_row)) yes,
          (Goes-none_ref 𝓛 3 (2 ∷ []) tt (plain (λ _. entry.the_row)) yes, tt),
        ),
      ) (f.clauses 𝓛 mem run)
      (WpFn 𝓤 H 𝓣.C 𝓣.Λ code.function) (WpFn-mono 𝓤 H 𝓛.laws 𝓣 code.function) (walks 𝓣.C 𝓣.Λ)

pub with_spec : {M : Type 1} → stated.statement M
unfolding tables_of
with_spec 𝓤 𝓛 𝓜 𝓡 wired =
    let 𝓣 : Tables 𝓤 𝓛.H = tables_of 𝓤 𝓛.H 𝓜 (tables 𝓤 𝓛.H 𝓜 𝓡 𝓡.env) in
    entered 𝓤 𝓛.H (triple_of 𝓛 f.signature (f.spec 𝓛 𝓜.mem 𝓡.returns)) 𝓣.C 𝓣.Λ key code.function
    (code.unfolded 𝓤 𝓛.H 𝓜 𝓡 wired) (meets 𝓛 𝓜.mem 𝓡.returns 𝓣)

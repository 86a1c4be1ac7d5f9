-- The blocks of a scenario that was read nest no deeper than a frame has room for.
use Rattle.std.proofs.Common.{◌≡◌, ℕ, zero, suc, ◌-◌, ◌&&◌, Bool, true, false, List, [], ◌∷◌, Some, subst, refl, slice_get, arith}
use Rattle.bm_lang.specs.declared.scenario.Action.{Action, If', Repeat, Section, Held-Action-If-2, None', Some'}
use Rattle.bm_lang.specs.declared.scenario.Block.{Block, Block', Row_of-Statement, end_of-Statement, more_of-Statement}
use Rattle.bm_lang.specs.declared.scenario.Parts.{Parts}
use Rattle.bm_lang.specs.declared.scenario.Script.{Script}
use Rattle.bm_lang.specs.Names.{MapForm, ScriptForm, TypeForm}
use Rattle.bm_lang.specs.Fine.{FineAction, FineBlock, FineElse, FineRow, FineScripts, HasConditions}
use Rattle.bm_exec.specs.Depth.{action_fits, block_fits, else_fits, row_fits}

both : (a b : Bool) → a ≡ true → b ≡ true → (a && b) ≡ true
both true b e f = f
both false b e f = e

some-is : (x y : Script) → Some x ≡ Some y → x ≡ y
some-is x y e = cc

mutual
  action-nests : (types : List TypeForm) (maps : List MapForm) (d : ℕ) (a : Action) → FineAction types maps d a → action_fits d a ≡ true
  action-nests types maps d (If' x body otherwise) f = both (block_fits d body) (else_fits d otherwise) (block-nests types maps d body f.0) (else-nests types maps d otherwise f.1)
  action-nests types maps d (Repeat n body) f = block-nests types maps d body f
  action-nests types maps d (Section body) f = block-nests types maps d body f
  action-nests types maps d a f = refl

  else-nests : (types : List TypeForm) (maps : List MapForm) (d : ℕ) (o : Held-Action-If-2) → FineElse types maps d o → else_fits d o ≡ true
  else-nests types maps d None' f = refl
  else-nests types maps d (Some' body) f = block-nests types maps d body f

  pub block-nests : (types : List TypeForm) (maps : List MapForm) (d : ℕ) (b : Block) → FineBlock types maps d b → block_fits d b ≡ true
  block-nests types maps zero (Block' shape row end_line) f = absurd (let h = f.0 in omega (arith, h))
  block-nests types maps (suc d) (Block' shape row end_line) f =
      let e : suc d - 1 ≡ d = omega arith in row-nests types maps d row (subst (λ (n : ℕ). FineRow types maps n row) e f.1)

  row-nests : (types : List TypeForm) (maps : List MapForm) (d : ℕ) {m : _} (row : Row_of-Statement m) → FineRow types maps d row → row_fits d row ≡ true
  row-nests types maps d end_of-Statement f = refl
  row-nests types maps d (more_of-Statement line action rest) f = both (action_fits d action) (row_fits d rest) (action-nests types maps d action f.0) (row-nests types maps d rest f.1)

scripts-nest : (types : List TypeForm) (maps : List MapForm) (before : List ScriptForm) (scripts : List Script) → FineScripts types maps before scripts → (i : ℕ) (x : Script) → slice_get scripts i ≡ Some x → block_fits 16 x.body ≡ true
scripts-nest types maps before [] f i x e = absurd (cc)
scripts-nest types maps before (s ∷ ss) f zero x e = subst (λ (y : Script). block_fits 16 y.body ≡ true) (some-is s x e) (block-nests types maps 16 s.body f.1)
scripts-nest types maps before (s ∷ ss) f (suc i) x e = scripts-nest types maps _ ss f.2 i x e

pub all-nest : (s : Parts) → HasConditions s → (i : ℕ) (x : Script) → slice_get s.scripts i ≡ Some x → block_fits 16 x.body ≡ true
all-nest s c = scripts-nest _ _ _ s.scripts c.scripts

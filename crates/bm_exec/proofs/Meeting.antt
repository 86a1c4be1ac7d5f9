-- Which statements can run on a frame, block by block.
use Rattle.std.proofs.Common.{◌≡◌, ℕ, zero, suc, ◌-◌, ◌<◌, ◌≤◌, Bool, true, false, ◌&&◌, List, refl, subst, arith, Option, Some, None, ap, is_some, length, nat_le, slice_get, sym, ◌∙◌}
use Rattle.std.proofs.lemmas.Bool.{eqb-true}
use Rattle.std.proofs.lemmas.Bool.Decides.{nat_tests}
use mathlib.Core.Former.{Count}
use Rattle.bm_lang.specs.declared.scenario.Action.{Action, If, If', Repeat, Section, Held-Action-If-2, None', Some'}
use Rattle.bm_lang.specs.declared.scenario.Block.{Block, Block', Row_of-Statement, end_of-Statement, more_of-Statement, items-the_row-Statement}
use Rattle.bm_lang.specs.declared.scenario.TypeDeclaration.{TypeDeclaration}
use Rattle.bm_law_scenario.specs.Declared.{Declared}
use Rattle.bm_exec.specs.Bindings.{binds_among, binds_by, binds_else, binds_in}
use Rattle.bm_exec.specs.Depth.{action_fits, block_fits, else_fits, row_fits}
use Rattle.bm_exec.specs.Lists.{block_list}
use Rattle.bm_exec.specs.Meets.{Inherits, list_meets, may_run}
use Rattle.bm_exec.specs.Runnable.{can_run_action, can_run_block, can_run_else, can_run_row, has_fields}

left : (a b : Bool) → (a && b) ≡ true → a ≡ true
left true b e = refl
left false b e = e

right : (a b : Bool) → (a && b) ≡ true → b ≡ true
right true b e = e
right false b e = cc

three : (a b c : Bool) → a ≡ true → b ≡ true → c ≡ true → (a && (b && c)) ≡ true
three true true c e f g = g
three true false c e f g = f
three false b c e f g = e

both : (a b : Bool) → a ≡ true → b ≡ true → (a && b) ≡ true
both true b e f = f
both false b e f = e

module _ (declared : Declared) (known : List ℕ → Bool) where
  row-meets : (d : ℕ) (n : Count) (row : Row_of-Statement n) → can_run_row declared row ≡ true → row_fits (16 - d) row ≡ true → binds_in known row ≡ true → list_meets (may_run declared known d) (items-the_row-Statement n row) ≡ true
  row-meets d _ end_of-Statement c f b = refl
  row-meets d _ (more_of-Statement line action rest) c f b =
      let head = three (can_run_action declared action) (action_fits (16 - d) action) (binds_by known action) (left (can_run_action declared action) (can_run_row declared rest) c) (left (action_fits (16 - d) action) (row_fits (16 - d) rest) f) (left (binds_by known action) (binds_in known rest) b) in
      both (may_run declared known d action) (list_meets (may_run declared known d) (items-the_row-Statement _ rest)) head
      (row-meets d _ rest (right (can_run_action declared action) (can_run_row declared rest) c) (right (action_fits (16 - d) action) (row_fits (16 - d) rest) f) (right (binds_by known action) (binds_in known rest) b))

  fits-room : (k d : ℕ) (b : Block) → k ≡ 16 - d → block_fits k b ≡ true → d < 16
  fits-room zero d (Block' shape row end_line) e f = absurd (cc)
  fits-room (suc k) d (Block' shape row end_line) e f = omega (arith, e)

  block-in : (k d : ℕ) (b : Block) → k ≡ 16 - d → can_run_block declared b ≡ true → block_fits k b ≡ true → binds_among known b ≡ true → list_meets (may_run declared known (suc d)) (block_list b) ≡ true
  block-in zero d (Block' shape row end_line) e c f b = absurd (cc)
  block-in (suc k) d (Block' shape row end_line) e c f b =
      let less : k ≡ 16 - suc d = omega (arith, e) in
      row-meets (suc d) _ row c (subst (λ j. row_fits j row ≡ true) less f) b

  -- the statements of a block that may be opened among so many may run
  pub block-meets : (d : ℕ) (b : Block) → can_run_block declared b ≡ true → block_fits (16 - d) b ≡ true → binds_among known b ≡ true → list_meets (may_run declared known (suc d)) (block_list b) ≡ true
  block-meets d b = block-in (16 - d) d b refl

  -- .. and there is room for it
  pub block-room : (d : ℕ) (b : Block) → block_fits (16 - d) b ≡ true → d < 16
  block-room d b f = fits-room (16 - d) d b refl f

  -- what a statement says of the blocks in it
  pub opens-first : (d : ℕ) (x : List ℕ) (body : Block) (otherwise : Held-Action-If-2) → may_run declared known d (If' x body otherwise) ≡ true → (can_run_block declared body ≡ true) × (block_fits (16 - d) body ≡ true) × (binds_among known body ≡ true)
  opens-first d x body otherwise m =
      let c = left (can_run_block declared body && can_run_else declared otherwise) ((block_fits (16 - d) body && else_fits (16 - d) otherwise) && (binds_among known body && binds_else known otherwise)) m in
      let r = right (can_run_block declared body && can_run_else declared otherwise) ((block_fits (16 - d) body && else_fits (16 - d) otherwise) && (binds_among known body && binds_else known otherwise)) m in
      let f = left (block_fits (16 - d) body && else_fits (16 - d) otherwise) (binds_among known body && binds_else known otherwise) r in
      let b = right (block_fits (16 - d) body && else_fits (16 - d) otherwise) (binds_among known body && binds_else known otherwise) r in
      (left (can_run_block declared body) (can_run_else declared otherwise) c, left (block_fits (16 - d) body) (else_fits (16 - d) otherwise) f, left (binds_among known body) (binds_else known otherwise) b)

  pub opens-if : (d : ℕ) (x : List ℕ) (body : Block) (otherwise : Option Block) → may_run declared known d (If x body otherwise) ≡ true → (can_run_block declared body ≡ true) × (block_fits (16 - d) body ≡ true) × (binds_among known body ≡ true)
  opens-if d x body None m = opens-first d x body None' m
  opens-if d x body (Some other) m = opens-first d x body (Some' other) m

  pub opens-other : (d : ℕ) (x : List ℕ) (body other : Block) → may_run declared known d (If' x body (Some' other)) ≡ true → (can_run_block declared other ≡ true) × (block_fits (16 - d) other ≡ true) × (binds_among known other ≡ true)
  opens-other d x body other m =
      let o : Held-Action-If-2 = Some' other in
      let c = left (can_run_block declared body && can_run_else declared o) ((block_fits (16 - d) body && else_fits (16 - d) o) && (binds_among known body && binds_else known o)) m in
      let r = right (can_run_block declared body && can_run_else declared o) ((block_fits (16 - d) body && else_fits (16 - d) o) && (binds_among known body && binds_else known o)) m in
      let f = left (block_fits (16 - d) body && else_fits (16 - d) o) (binds_among known body && binds_else known o) r in
      let b = right (block_fits (16 - d) body && else_fits (16 - d) o) (binds_among known body && binds_else known o) r in
      (right (can_run_block declared body) (can_run_else declared o) c, right (block_fits (16 - d) body) (else_fits (16 - d) o) f, right (binds_among known body) (binds_else known o) b)

  pub opens-again : (d n : ℕ) (body : Block) → may_run declared known d (Repeat n body) ≡ true → (can_run_block declared body ≡ true) × (block_fits (16 - d) body ≡ true) × (binds_among known body ≡ true)
  opens-again d n body m =
      let r = right (can_run_block declared body) (block_fits (16 - d) body && binds_among known body) m in
      (left (can_run_block declared body) (block_fits (16 - d) body && binds_among known body) m, left (block_fits (16 - d) body) (binds_among known body) r, right (block_fits (16 - d) body) (binds_among known body) r)

  pub opens-section : (d : ℕ) (body : Block) → may_run declared known d (Section body) ≡ true → (can_run_block declared body ≡ true) × (block_fits (16 - d) body ≡ true) × (binds_among known body ≡ true)
  opens-section d body m =
      let r = right (can_run_block declared body) (block_fits (16 - d) body && binds_among known body) m in
      (left (can_run_block declared body) (block_fits (16 - d) body && binds_among known body) m, left (block_fits (16 - d) body) (binds_among known body) r, right (block_fits (16 - d) body) (binds_among known body) r)

  pub may-inherits : Inherits (may_run declared known)
  may-inherits = record {
    first = λ d x body otherwise m. let o = opens-first d x body otherwise m in block-meets d body o.0 o.1 o.2;
    other = λ d x body other m. let o = opens-other d x body other m in block-meets d other o.0 o.1 o.2;
    within = λ d body m. let o = opens-section d body m in block-meets d body o.0 o.1 o.2;
    again = λ d n body m. let o = opens-again d n body m in block-meets d body o.0 o.1 o.2;
  }

-- the name that `new` binds is known
pub new-known : (declared : Declared) (known : List ℕ → Bool) (d : ℕ) (a : Action) → may_run declared known d a ≡ true → (can_run_action declared a ≡ true) × (binds_by known a ≡ true)
new-known declared known d a m = (left (can_run_action declared a) (action_fits (16 - d) a && binds_by known a) m, right (action_fits (16 - d) a) (binds_by known a) (right (can_run_action declared a) (action_fits (16 - d) a && binds_by known a) m))

-- a type that has so many fields is declared
pub declared-fields : (o : Option TypeDeclaration) (n : ℕ) → has_fields o n ≡ true → is_some o ≡ true
declared-fields None n e = cc
declared-fields (Some d) n e = refl

-- an object is asked for with a value for each field of its type
pub new-fits : (types : List TypeDeclaration) (t : ℕ) (values : List ℕ) (d : TypeDeclaration) → (has_fields (slice_get types t) (length values) && nat_le (length values) 8) ≡ true → slice_get types t ≡ Some d → length values ≡ length d.fields
new-fits types t values d can found =
    let has = left (has_fields (slice_get types t) (length values)) (nat_le (length values) 8) can in
    eqb-true (length values) (length d.fields) (ap (λ (o : Option TypeDeclaration). has_fields o (length values)) (sym found) ∙ has)

-- .. and there are at most eight of them
pub new-few : (types : List TypeDeclaration) (t : ℕ) (values : List ℕ) (d : TypeDeclaration) → (has_fields (slice_get types t) (length values) && nat_le (length values) 8) ≡ true → slice_get types t ≡ Some d → length d.fields ≤ 8
new-few types t values d can found =
    let fits = new-fits types t values d can found in
    let few = right (has_fields (slice_get types t) (length values)) (nat_le (length values) 8) can in
    at-most (length values) (length d.fields) few fits
  where
    at-most : (a b : ℕ) → nat_le a 8 ≡ true → a ≡ b → b ≤ 8
    at-most a b h e = grind (arith, nat_tests)

-- The names that blocks bind.
use Rattle.std.proofs.Common.{◌≡◌, ℕ, zero, suc, ◌+◌, ◌<◌, ◌≤◌, Bool, true, false, ◌&&◌, List, [], ◌∷◌, length, take, get_or, Option, Some, None, refl, sym, ap, ◌∙◌, arith, add-one}
use mathlib.Core.Former.{Count}
use Rattle.std.specs.List.{list_all}
use Rattle.std.proofs.lemmas.List.{take_all}
use Rattle.bm_lang.specs.declared.scenario.Action.{Action, If', Repeat, Section, Held-Action-If-2, None', Some'}
use Rattle.bm_lang.specs.declared.scenario.Block.{Block, Block', out-Block, roll-out-Block, rolls-Block', Row_of-Statement, end_of-Statement, more_of-Statement, items-the_row-Statement, items_hidden-the_row-Statement-0}
use Rattle.bm_lang.specs.declared.scenario.Statement.{Statement}
use Rattle.bm_exec.specs.Bindings.{bound_by, passes, binds_by, binds_else, binds_among, binds_in}
use Rattle.bm_exec.specs.Lists.{block_list}
use Rattle.bm_exec.proofs.Performing.{both}

-- the same of a list of statements
abbrev pub binds_list : (List ℕ → Bool) → List Statement → Bool
binds_list p ss = list_all (λ s. binds_by p s.action) ss

row-binds : (p : List ℕ → Bool) (n : Count) (row : Row_of-Statement n) → binds_in p row ≡ binds_list p (items-the_row-Statement n row)
row-binds p _ end_of-Statement = refl
row-binds p _ (more_of-Statement line action rest) = ap (λ b. binds_by p action && b) (row-binds p _ rest)

pub block-binds : (p : List ℕ → Bool) (b : Block) → binds_among p b ≡ binds_list p (block_list b)
block-binds p (Block' shape row end_line) = row-binds p _ row

-- the statements of a block
pub statements-are : (b : Block) → block_list b ≡ (out-Block b).statements.items
statements-are b =
    let o = out-Block b in
    ap block_list (sym (roll-out-Block b)) ∙ (ap block_list (rolls-Block' o) ∙ items_hidden-the_row-Statement-0 o.statements)

pub left : (a b : Bool) → (a && b) ≡ true → a ≡ true
left true b e = refl
left false b e = e

pub right : (a b : Bool) → (a && b) ≡ true → b ≡ true
right true b e = e
right false b e = cc

passes-more : (p q : List ℕ → Bool) → ((x : List ℕ) → p x ≡ true → q x ≡ true) → (o : Option (List ℕ)) → passes p o ≡ true → passes q o ≡ true
passes-more p q f None e = refl
passes-more p q f (Some x) e = f x e

-- Names that pass a test pass one that passes more.
mutual
  pub binds-more : (p q : List ℕ → Bool) → ((x : List ℕ) → p x ≡ true → q x ≡ true) → (a : Action) → binds_by p a ≡ true → binds_by q a ≡ true
  binds-more p q f (If' x body otherwise) e = both (binds_among q body) (binds_else q otherwise) (block-more p q f body (left (binds_among p body) (binds_else p otherwise) e)) (else-more p q f otherwise (right (binds_among p body) (binds_else p otherwise) e))
  binds-more p q f (Repeat n body) e = block-more p q f body e
  binds-more p q f (Section body) e = block-more p q f body e
  binds-more p q f a e = passes-more p q f (bound_by a) e

  pub else-more : (p q : List ℕ → Bool) → ((x : List ℕ) → p x ≡ true → q x ≡ true) → (o : Held-Action-If-2) → binds_else p o ≡ true → binds_else q o ≡ true
  else-more p q f None' e = refl
  else-more p q f (Some' body) e = block-more p q f body e

  pub block-more : (p q : List ℕ → Bool) → ((x : List ℕ) → p x ≡ true → q x ≡ true) → (b : Block) → binds_among p b ≡ true → binds_among q b ≡ true
  block-more p q f (Block' shape row end_line) e = row-more p q f row e

  pub row-more : (p q : List ℕ → Bool) → ((x : List ℕ) → p x ≡ true → q x ≡ true) → {m : _} (row : Row_of-Statement m) → binds_in p row ≡ true → binds_in q row ≡ true
  row-more p q f end_of-Statement e = refl
  row-more p q f (more_of-Statement line action rest) e = both (binds_by q action) (binds_in q rest) (binds-more p q f action (left (binds_by p action) (binds_in p rest) e)) (row-more p q f rest (right (binds_by p action) (binds_in p rest) e))

-- A test that all of the first i pass, and a weaker one that the next passes too: all of those pass that.
one-suc : {X : Type 0} (f g : X → Bool) → ((x : X) → f x ≡ true → g x ≡ true) → (xs : List X) (i : ℕ) (x : X) → i < length xs → x ≡ get_or xs i x → list_all f (take i xs) ≡ true → g x ≡ true → list_all g (take (suc i) xs) ≡ true
one-suc f g more [] i x lt is e h = absurd (omega arith)
one-suc f g more (y ∷ ys) zero x lt is e h = both (g y) true (ap g (sym is) ∙ h) refl
one-suc f g more (y ∷ ys) (suc i) x lt is e h =
    both (g y) (list_all g (take (suc i) ys)) (more y (left (f y) (list_all f (take i ys)) e))
    (one-suc f g more ys i x (omega arith) is (right (f y) (list_all f (take i ys)) e) h)

pub one-more : {X : Type 0} (f g : X → Bool) → ((x : X) → f x ≡ true → g x ≡ true) → (xs : List X) (i : ℕ) (x : X) → i < length xs → x ≡ get_or xs i x → list_all f (take i xs) ≡ true → g x ≡ true → list_all g (take (i + 1) xs) ≡ true
one-more f g more xs i x lt is e h = rw add-one (one-suc f g more xs i x lt is e h)

-- all statements of a block
pub block-all : (p : List ℕ → Bool) (b : Block) (ss : List Statement) (i : ℕ) → ss ≡ (out-Block b).statements.items → length ss ≤ i → binds_list p (take i ss) ≡ true → binds_among p b ≡ true
block-all p b ss i is le e = block-binds p b ∙ (ap (binds_list p) (statements-are b ∙ sym is ∙ sym (take_all i ss le)) ∙ e)

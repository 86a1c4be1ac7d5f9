-- The work of each class of a list, on a desk.
use Rattle.std.proofs.Common.{◌≡◌, ◌≤◌, ◌+◌, ℕ, List, [], ◌∷◌, Option, refl, arith}
use Rattle.bm_journal.specs.declared.counts.Counts.{Counts}
use Rattle.bm_grace.specs.Known.{Known}
use Rattle.bm_grace.specs.Rights.{Rights}
use Rattle.bm_law.specs.Lists.{Log}
use Rattle.bm_law.specs.State.{seen}
use Rattle.bm_cache.specs.Tokens.{number_of}
use Rattle.bm_cache.specs.Shown.{shown}
use Rattle.bm_cache.specs.Placed.{Placed}
use Rattle.bm_cache.specs.Span.{Face}
use Rattle.bm_cache.specs.declared.caches.Caches.{Caches}
use Rattle.bm_law_work.specs.Parts.{Nothing}
use Rattle.bm_law_work.specs.WorkPhrases.{Work}
use Rattle.bm_law_scenario.specs.Works.{WorkEach}
use Rattle.bm_work.specs.Works.{Works}
use Rattle.bm_work.proofs.Sides.{works-at-most, works-join, works-still}
use Rattle.bm_exec_levels.proofs.Toward.{Toward, each-end, each-more, toward-none}

module _ {H R : Type 0} (log : R → Option Log) (counts : R → Counts) (faces : H → Face) (waits : H → ℕ) (stays : H → H → Type 0) (holds : H → Caches R) (known : H → Known) (join : (a b c : H) → stays a b → stays b c → stays a c) (classes : List ℕ) where
  pub works-none : (a : H) → stays a a → Works log faces waits stays holds known 0 0 (λ l. Toward (WorkEach classes) (WorkEach classes)) a a
  works-none a k = works-still log faces waits stays holds known (λ l. Toward (WorkEach classes) (WorkEach classes)) a k (λ l. toward-none (WorkEach classes) (seen number_of (shown (holds a))))

  -- one more class had its work
  pub works-more : (n c : ℕ) (left rest : List ℕ) (a b d : H) → left ≡ c ∷ rest → Placed log counts (holds a) → Placed log counts (holds b) → Works log faces waits stays holds known n n (λ l. Toward (WorkEach left) (WorkEach classes)) a b → Works log faces waits stays holds known 1 1 (λ l. Work 0 c) b d → Works log faces waits stays holds known (n + 1) (n + 1) (λ l. Toward (WorkEach rest) (WorkEach classes)) a d
  works-more n c left rest a b d e x y v w = works-join log counts faces waits stays holds known join n n 1 1 (λ l. Toward (WorkEach left) (WorkEach classes)) (λ l. Work 0 c) (λ l. Toward (WorkEach rest) (WorkEach classes)) a b d (λ l s one two p q. each-more classes left c rest s one two e p q) x y v w

  -- each had its work
  pub works-each : (rights : H → Rights) (n m : ℕ) (left : List ℕ) (a b : H) → stays b b → left ≡ [] → n ≤ m → Placed log counts (holds a) → Placed log counts (holds b) → Works log faces waits stays holds known n n (λ l. Toward (WorkEach left) (WorkEach classes)) a b → Works log faces waits stays holds known m m (λ l. WorkEach classes) a b
  works-each rights n m left a b k e most x y v =
      let le : n + 0 ≤ m = omega (arith, most) in
      works-at-most log counts faces waits stays holds known rights (n + 0) (n + 0) m m (λ l. WorkEach classes) a b le le
      (works-join log counts faces waits stays holds known join n n 0 0 (λ l. Toward (WorkEach left) (WorkEach classes)) (λ l. Nothing) (λ l. WorkEach classes) a b b (λ l s one two p q. each-end classes left s one two e p q) x y v
      (works-still log faces waits stays holds known (λ l. Nothing) b k (λ l. refl)))

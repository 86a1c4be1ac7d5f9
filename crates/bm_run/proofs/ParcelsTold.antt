-- The parcels that an order leaves for a processor are those that wait in the world whose side is its own.
use Rattle.std.specs.Prelude.{nat_lt, ◌&&◌, if◌then◌else◌}
use Rattle.std.proofs.Common.{◌≡◌, ◌<◌, ℕ, Bool, [], List, map, sym, ◌∙◌, ap}
use Rattle.std.proofs.lemmas.Bool.{lt-ltb}
use Rattle.bm_post.specs.PostState.{PostState, inbox, told_in}
use Rattle.bm_post.specs.Rights.{numbers}
use Rattle.bm_world.specs.Told.{told_boxes}

-- those of the processor whose side it is
own-boxes : (p : ℕ) (post : PostState) → p < 8 → post.processor ≡ p → told_boxes post p ≡ told_in post
own-boxes p post lt e =
    let F : Bool → ℕ → List (List ℕ) = λ b c. if b && nat_lt c 11 then map numbers (inbox p c post) else [] in
    let G : ℕ → ℕ → List (List ℕ) = λ q c. if nat_lt c 11 then map numbers (inbox q c post) else [] in
    ap F (lt-ltb p 8 lt) ∙ ap G (sym e)

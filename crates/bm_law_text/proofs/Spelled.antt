-- Each kind is found by its word, and what is found has the word.
use Rattle.std.proofs.Common.{◌≡◌, ℕ, Bool, true, false, cond, List, [], ◌∷◌, Some, refl, sym}
use Rattle.std.specs.Prelude.{find}
use Rattle.std.specs.Str.{bytes_eq}
use Rattle.std.proofs.lemmas.Slice.Eq.{bytes_eq-Decides}
use Rattle.bm_law_text.specs.declared.kind.Kind.{Kind}
use Rattle.bm_law_text.specs.declared.kind.Kind.TheVariants as kind
use Rattle.bm_law_text.specs.Kinds.{kind_of, kind_text, all_kinds}

pub found : (k : Kind) → kind_of (kind_text k) ≡ Some k
unfolding kind_of
found kind.Fill = refl
found kind.Script = refl
found kind.Done = refl
found kind.Handler = refl
found kind.Back = refl
found kind.In = refl
found kind.Out = refl
found kind.Yield = refl
found kind.Ended = refl
found kind.Close = refl
found kind.New = refl
found kind.Given = refl
found kind.Empty = refl
found kind.Busy = refl
found kind.Drop = refl
found kind.Still = refl
found kind.Last = refl
found kind.Free = refl
found kind.Delay = refl
found kind.Acquire = refl
found kind.Get = refl
found kind.Xchg = refl
found kind.Lock = refl
found kind.Unlock = refl
found kind.PushFront = refl
found kind.PushBack = refl
found kind.Add = refl
found kind.PopFront = refl
found kind.PopBack = refl
found kind.First = refl
found kind.Remove = refl
found kind.Work = refl
found kind.Begin = refl
found kind.Finish = refl
found kind.Enter = refl
found kind.Pop = refl
found kind.Count = refl
found kind.Leave = refl
found kind.Raise = refl
found kind.Push = refl
found kind.Delayed = refl
found kind.Look = refl
found kind.Put = refl
found kind.Lost = refl
found kind.LookDelayed = refl
found kind.PutDelayed = refl
found kind.LostDelayed = refl
found kind.Receive = refl
found kind.Read = refl
found kind.Ready = refl
found kind.Second = refl
found kind.Fetch = refl
found kind.TakeExtra = refl
found kind.Send = refl
found kind.TakeDelayed = refl
found kind.Batch = refl
found kind.Stamp = refl
found kind.Pass = refl
found kind.BeginSecond = refl
found kind.Return = refl
found kind.Sweep = refl

found_in : (word : List ℕ) (ks : List Kind) (k : Kind) → find (λ k. bytes_eq (kind_text k) word) ks ≡ Some k → word ≡ kind_text k
found_in word [] k h = cc
found_in word (x ∷ ks) k h =
    let here : (b : Bool) → bytes_eq (kind_text x) word ≡ b → cond b (Some x) (find (λ k. bytes_eq (kind_text k) word) ks) ≡ Some k → word ≡ kind_text k = λ b.
    elim b as (λ b. bytes_eq (kind_text x) word ≡ b → cond b (Some x) (find (λ k. bytes_eq (kind_text k) word) ks) ≡ Some k → word ≡ kind_text k) [
      | true ↦ λ e h. let same : kind_text x ≡ word = (bytes_eq-Decides (kind_text x) word).0 e in let is : x ≡ k = cc in rw (← is) (sym same)
      | false ↦ λ e h. found_in word ks k h
    ]
    in here (bytes_eq (kind_text x) word) refl h

-- the word of the kind that it tells
pub spelled : (word : List ℕ) (k : Kind) → kind_of word ≡ Some k → word ≡ kind_text k
unfolding kind_of
spelled word k h = found_in word all_kinds k h

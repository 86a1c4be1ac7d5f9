-- The kinds of entries and the words that tell them. (`words_of` of bm_journal has these words, each at the head of a line.)
use Rattle.std.specs.Prelude.{ℕ, List, [], ◌∷◌, Option, codes, find}
use Rattle.std.specs.Str.{bytes_eq}
use Rattle.bm_law_text.specs.declared.kind.Kind.{Kind}
use Rattle.bm_law_text.specs.declared.kind.Kind.TheVariants as kind

-- the word of a kind
abbrev pub kind_text : Kind → List ℕ
kind_text kind.Fill = codes "fill"
kind_text kind.Script = codes "script"
kind_text kind.Done = codes "done"
kind_text kind.Handler = codes "handler"
kind_text kind.Back = codes "back"
kind_text kind.In = codes "in"
kind_text kind.Out = codes "out"
kind_text kind.Yield = codes "yield"
kind_text kind.Ended = codes "ended"
kind_text kind.Close = codes "close"
kind_text kind.New = codes "new"
kind_text kind.Given = codes "given"
kind_text kind.Empty = codes "empty"
kind_text kind.Busy = codes "busy"
kind_text kind.Drop = codes "drop"
kind_text kind.Still = codes "still"
kind_text kind.Last = codes "last"
kind_text kind.Free = codes "free"
kind_text kind.Delay = codes "delay"
kind_text kind.Acquire = codes "acquire"
kind_text kind.Get = codes "get"
kind_text kind.Xchg = codes "xchg"
kind_text kind.Lock = codes "lock"
kind_text kind.Unlock = codes "unlock"
kind_text kind.PushFront = codes "push_front"
kind_text kind.PushBack = codes "push_back"
kind_text kind.Add = codes "add"
kind_text kind.PopFront = codes "pop_front"
kind_text kind.PopBack = codes "pop_back"
kind_text kind.First = codes "first"
kind_text kind.Remove = codes "remove"
kind_text kind.Work = codes "work"
kind_text kind.Begin = codes "begin"
kind_text kind.Finish = codes "finish"
kind_text kind.Enter = codes "enter"
kind_text kind.Pop = codes "pop"
kind_text kind.Count = codes "count"
kind_text kind.Leave = codes "leave"
kind_text kind.Raise = codes "raise"
kind_text kind.Push = codes "push"
kind_text kind.Delayed = codes "delayed"
kind_text kind.Look = codes "look"
kind_text kind.Put = codes "put"
kind_text kind.Lost = codes "lost"
kind_text kind.LookDelayed = codes "lookd"
kind_text kind.PutDelayed = codes "putd"
kind_text kind.LostDelayed = codes "lostd"
kind_text kind.Receive = codes "receive"
kind_text kind.Read = codes "read"
kind_text kind.Ready = codes "ready"
kind_text kind.Second = codes "second"
kind_text kind.Fetch = codes "fetch"
kind_text kind.TakeExtra = codes "takex"
kind_text kind.Send = codes "send"
kind_text kind.TakeDelayed = codes "taked"
kind_text kind.Batch = codes "batch"
kind_text kind.Stamp = codes "stamp"
kind_text kind.Pass = codes "pass"
kind_text kind.BeginSecond = codes "begin2"
kind_text kind.Return = codes "return"
kind_text kind.Sweep = codes "sweep"

-- all kinds, each once
abbrev pub all_kinds : List Kind
all_kinds =
    kind.Fill ∷ kind.Script ∷ kind.Done ∷ kind.Handler ∷ kind.Back ∷ kind.In ∷
    kind.Out ∷ kind.Yield ∷ kind.Ended ∷ kind.Close ∷ kind.New ∷ kind.Given ∷
    kind.Empty ∷ kind.Busy ∷ kind.Drop ∷ kind.Still ∷ kind.Last ∷ kind.Free ∷
    kind.Delay ∷ kind.Acquire ∷ kind.Get ∷ kind.Xchg ∷ kind.Lock ∷ kind.Unlock ∷
    kind.PushFront ∷ kind.PushBack ∷ kind.Add ∷ kind.PopFront ∷ kind.PopBack ∷ kind.First ∷
    kind.Remove ∷ kind.Work ∷ kind.Begin ∷ kind.Finish ∷ kind.Enter ∷ kind.Pop ∷
    kind.Count ∷ kind.Leave ∷ kind.Raise ∷ kind.Push ∷ kind.Delayed ∷ kind.Look ∷
    kind.Put ∷ kind.Lost ∷ kind.LookDelayed ∷ kind.PutDelayed ∷ kind.LostDelayed ∷ kind.Receive ∷
    kind.Read ∷ kind.Ready ∷ kind.Second ∷ kind.Fetch ∷ kind.TakeExtra ∷ kind.Send ∷
    kind.TakeDelayed ∷ kind.Batch ∷ kind.Stamp ∷ kind.Pass ∷ kind.BeginSecond ∷ kind.Return ∷
    kind.Sweep ∷
    []

-- the kind with this word
unfoldable pub kind_of : List ℕ → Option Kind
kind_of word = find (λ k. bytes_eq (kind_text k) word) all_kinds

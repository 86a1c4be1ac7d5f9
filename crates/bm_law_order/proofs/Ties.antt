-- A tie lasts.
use Rattle.std.proofs.Common.{◌≡◌, ℕ, true, false, List, [], ◌∷◌, ◌++◌, Option, Some, None, refl, sym, ◌∙◌, ap, subst, append_assoc, append-nil}
use Rattle.bm_journal.specs.declared.entry.Entry.{Entry}
use Rattle.bm_journal.specs.Recording.{Appends}
use Rattle.bm_law.specs.Lists.{Log}
use Rattle.bm_law.proofs.Alone.{level-append}
use Rattle.bm_law_order.specs.Quiet.{is_quiet}
use Rattle.bm_law_order.specs.Act.{Act}
use Rattle.bm_law_order.specs.Chunk.{Chunk, Shows, acts_of, entries_of, is_judged}
use Rattle.bm_law_order.specs.Chunk as chunk
use Rattle.bm_law_order.specs.Story.{AllJudged, Story, Told, at_level, deeds, lines, lines_of}
use Rattle.bm_law_order.specs.Tie.{Tied, TiedBy, whatever}

one-more : (ts : Story) (t : Told) → lines (ts ++ t ∷ []) ≡ lines ts ++ lines_of t
one-more [] t = append-nil (lines_of t)
one-more (x ∷ ts) t = ap (λ z. lines_of x ++ z) (one-more ts t) ∙ sym (append_assoc (lines_of x) (lines ts) (lines_of t))

one-deed : (ts : Story) (t : Told) → deeds (ts ++ t ∷ []) ≡ deeds ts ++ acts_of t.chunk
one-deed [] t = append-nil (acts_of t.chunk)
one-deed (x ∷ ts) t = ap (λ z. acts_of x.chunk ++ z) (one-deed ts t) ∙ sym (append_assoc (acts_of x.chunk) (deeds ts) (acts_of t.chunk))

both-lines : (ts us : Story) → lines (ts ++ us) ≡ lines ts ++ lines us
both-lines [] us = refl
both-lines (x ∷ ts) us = ap (λ z. lines_of x ++ z) (both-lines ts us) ∙ sym (append_assoc (lines_of x) (lines ts) (lines us))

both-deeds : (ts us : Story) → deeds (ts ++ us) ≡ deeds ts ++ deeds us
both-deeds [] us = refl
both-deeds (x ∷ ts) us = ap (λ z. acts_of x.chunk ++ z) (both-deeds ts us) ∙ sym (append_assoc (acts_of x.chunk) (deeds ts) (deeds us))

all-whatever : (log : Log) (story : Story) → AllJudged whatever log story
all-whatever log [] = tt
all-whatever log (t ∷ ts) = (tt, all-whatever (log ++ lines_of t) ts)

-- however its chunks are judged, it is tied
pub tie-unjudged : {W : Type 0} (judge : ℕ → Log → Chunk → Type 0) (does : List Act → W → W → Type 0) (since : Log) (start : W) (l : ℕ) (done : List Act) (es : List Entry) (log : Log) (w : W) → Tied judge does since start l done es log w → Tied whatever does since start l done es log w
tie-unjudged judge does since start l done es log w t = record { story = t.story; judged = all-whatever since t.story; log_is = t.log_is; done_is = t.done_is }

module _ {W : Type 0} (judge : ℕ → Log → Chunk → Type 0) (free : (l : ℕ) (log : Log) (c : Chunk) → is_judged c ≡ false → judge l log c) (does : List Act → W → W → Type 0)
    (same : (a : W) → does [] a a) (join : (es fs : List Act) (a b c : W) → does es a b → does fs b c → does (es ++ fs) a c) (since : Log) (start : W) where
  one-judged : (log : Log) (ts : Story) (t : Told) → AllJudged judge log ts → judge t.level (log ++ lines ts) t.chunk → AllJudged judge log (ts ++ t ∷ [])
  one-judged log [] t h k = (subst (λ z. judge t.level z t.chunk) (append-nil log) k, tt)
  one-judged log (x ∷ ts) t h k = (h.0, one-judged (log ++ lines_of x) ts t h.1 (subst (λ z. judge t.level z t.chunk) (sym (append_assoc log (lines_of x) (lines ts))) k))

  both-judged : (log : Log) (ts us : Story) → AllJudged judge log ts → AllJudged judge (log ++ lines ts) us → AllJudged judge log (ts ++ us)
  both-judged log [] us h k = subst (λ z. AllJudged judge z us) (append-nil log) k
  both-judged log (x ∷ ts) us h k = (h.0, both-judged (log ++ lines_of x) ts us h.1 (subst (λ z. AllJudged judge z us) (sym (append_assoc log (lines_of x) (lines ts))) k))

  pub tie-open : (l : ℕ) → Tied judge does since start l [] [] since start
  tie-open l = record { story = []; judged = tt; log_is = sym (append-nil since); done_is = same start }

  -- the side did more
  pub tie-done : (l : ℕ) (done more : List Act) (es : List Entry) (log : Log) (w v : W) → does more w v → Tied judge does since start l done es log w → Tied judge does since start l (done ++ more) es log v
  tie-done l done more es log w v d t = record {
    story = t.story;
    judged = t.judged;
    log_is = t.log_is;
    done_is = subst (λ z. does z start v) (append_assoc (deeds t.story) done more) (join (deeds t.story ++ done) more start w v t.done_is d);
  }

  -- an entry was recorded
  pub tie-said : (l : ℕ) (done : List Act) (es : List Entry) (e : Entry) (log : Log) (w : W) → Tied judge does since start l done es log w → Tied judge does since start l done (es ++ e ∷ []) (log ++ (l, e) ∷ []) w
  tie-said l done es e log w t = record {
    story = t.story;
    judged = t.judged;
    log_is =
        ap (λ z. z ++ (l, e) ∷ []) t.log_is
        ∙ (append_assoc since (lines t.story ++ at_level l es) ((l, e) ∷ [])
        ∙ ap (λ z. since ++ z) (append_assoc (lines t.story) (at_level l es) ((l, e) ∷ []) ∙ ap (λ z. lines t.story ++ z) (sym (level-append l es (e ∷ [])))));
    done_is = t.done_is;
  }

  -- The first entries stand for the first acts, by a chunk that is judged so behind whatever log stands before them.
  pub tie-first : (l : ℕ) (done more : List Act) (es others : List Entry) (log : Log) (w : W) (c : Chunk) → acts_of c ≡ done → entries_of c ≡ es →
      ((before : Log) → log ≡ before ++ (at_level l es ++ at_level l others) → judge l before c) → Tied judge does since start l (done ++ more) (es ++ others) log w → Tied judge does since start l more others log w
  tie-first l done more es others log w c a e o t =
      let x : Told = record { level = l; chunk = c } in
      let said : lines (t.story ++ x ∷ []) ≡ lines t.story ++ at_level l es = one-more t.story x ∙ ap (λ z. lines t.story ++ at_level l z) e in
      let did : deeds (t.story ++ x ∷ []) ≡ deeds t.story ++ done = one-deed t.story x ∙ ap (λ z. deeds t.story ++ z) a in
      let log_is : log ≡ since ++ (lines t.story ++ (at_level l es ++ at_level l others)) = t.log_is ∙ ap (λ z. since ++ (lines t.story ++ z)) (level-append l es others) in
      record {
        story = t.story ++ x ∷ [];
        judged = one-judged since t.story x t.judged (o (since ++ lines t.story) (log_is ∙ sym (append_assoc since (lines t.story) (at_level l es ++ at_level l others))));
        log_is = log_is ∙ ap (λ z. since ++ z) (sym (append_assoc (lines t.story) (at_level l es) (at_level l others)) ∙ ap (λ z. z ++ at_level l others) (sym said));
        done_is = subst (λ z. does z start w) (sym (append_assoc (deeds t.story) done more) ∙ ap (λ z. z ++ more) (sym did)) t.done_is;
      }

  -- the same of all of them
  pub tie-judged : (l : ℕ) (done : List Act) (es : List Entry) (log : Log) (w : W) (c : Chunk) → acts_of c ≡ done → entries_of c ≡ es → ((before : Log) → log ≡ before ++ at_level l es → judge l before c) → Tied judge does since start l done es log w → Tied judge does since start l [] [] log w
  tie-judged l done es log w c a e o t =
      let P : List Act → List Entry → Type 0 = λ d x. Tied judge does since start l d x log w in
      tie-first l done [] es [] log w c a e (λ before q. o before (q ∙ ap (λ z. before ++ z) (append-nil (at_level l es)))) (subst (λ d. P d (es ++ [])) (sym (append-nil done)) (subst (λ x. P done x) (sym (append-nil es)) t))

  -- the same by a chunk that no log judges
  pub tie-closed : (l : ℕ) (done : List Act) (es : List Entry) (log : Log) (w : W) → Shows done es → Tied judge does since start l done es log w → Tied judge does since start l [] [] log w
  tie-closed l done es log w s t = tie-judged l done es log w s.chunk s.acts_are s.entries_are (λ before q. free l before s.chunk s.free) t

  -- an entry that touches nothing
  pub tie-quiet : (l : ℕ) (e : Entry) (log : Log) (w : W) → is_quiet e ≡ true → Tied judge does since start l [] [] log w → Tied judge does since start l [] [] (log ++ (l, e) ∷ []) w
  tie-quiet l e log w q t = tie-closed l [] (e ∷ []) (log ++ (l, e) ∷ []) w (record { chunk = chunk.Quiet e q; free = refl; acts_are = refl; entries_are = refl }) (tie-said l [] [] e log w t)

  -- where nothing is owed, the level is no matter
  pub tie-level : (l k : ℕ) (log : Log) (w : W) → Tied judge does since start l [] [] log w → Tied judge does since start k [] [] log w
  tie-level l k log w t = record { story = t.story; judged = t.judged; log_is = t.log_is; done_is = t.done_is }

  -- what was tied since later on goes on from what was tied
  pub tie-joined : (l k : ℕ) (log now : Log) (w v : W) → Tied judge does since start l [] [] log w → Tied judge does log w k [] [] now v → Tied judge does since start l [] [] now v
  tie-joined l k log now w v t u =
      let there : log ≡ since ++ lines t.story = t.log_is ∙ ap (λ z. since ++ z) (append-nil (lines t.story)) in
      record {
        story = t.story ++ u.story;
        judged = both-judged since t.story u.story t.judged (subst (λ z. AllJudged judge z u.story) there u.judged);
        log_is =
            u.log_is
            ∙ (ap (λ z. z ++ (lines u.story ++ [])) there
            ∙ (append_assoc since (lines t.story) (lines u.story ++ [])
            ∙ ap (λ z. since ++ z) (sym (append_assoc (lines t.story) (lines u.story) []) ∙ ap (λ z. z ++ []) (sym (both-lines t.story u.story)))));
        done_is = subst (λ z. does z start v) (ap (λ z. z ++ (deeds u.story ++ [])) (append-nil (deeds t.story)) ∙ (sym (append_assoc (deeds t.story) (deeds u.story) []) ∙ ap (λ z. z ++ []) (sym (both-deeds t.story u.story)))) (join (deeds t.story ++ []) (deeds u.story ++ []) start w v t.done_is u.done_is);
      }

  -- ---- as a host's laws need it

  pub law-done : (l : ℕ) (done more : List Act) (es : List Entry) (log : Option Log) (w v : W) → does more w v → TiedBy judge does since start l done es log w → TiedBy judge does since start l (done ++ more) es log v
  law-done l done more es None w v d t = tt
  law-done l done more es (Some log) w v d t = tie-done l done more es log w v d t

  pub law-said : (l : ℕ) (done : List Act) (es : List Entry) (e : Entry) (before now : Option Log) (w : W) → Appends before l e now → TiedBy judge does since start l done es before w → TiedBy judge does since start l done (es ++ e ∷ []) now w
  law-said l done es e before None w a t = tt
  law-said l done es e None (Some now) w a t = absurd (let q = a.told in cc)
  law-said l done es e (Some log) (Some now) w a t =
      let same : log ≡ a.log = (let q = a.told in cc) in
      subst (λ z. Tied judge does since start l done (es ++ e ∷ []) z w) (ap (λ z. z ++ (l, e) ∷ []) same ∙ sym a.more) (tie-said l done es e log w t)

  pub law-closed : (l : ℕ) (done : List Act) (es : List Entry) (log : Option Log) (w : W) → Shows done es → TiedBy judge does since start l done es log w → TiedBy judge does since start l [] [] log w
  law-closed l done es None w s t = tt
  law-closed l done es (Some log) w s t = tie-closed l done es log w s t

  pub law-stepped : (l : ℕ) (done : List Act) (e : Entry) (before now : Option Log) (w : W) → Shows done (e ∷ []) → Appends before l e now → TiedBy judge does since start l done [] before w → TiedBy judge does since start l [] [] now w
  law-stepped l done e before now w s a t = law-closed l done (e ∷ []) now w s (law-said l done [] e before now w a t)

  pub law-quiet : (l : ℕ) (e : Entry) (before now : Option Log) (w : W) → is_quiet e ≡ true → Appends before l e now → TiedBy judge does since start l [] [] before w → TiedBy judge does since start l [] [] now w
  law-quiet l e before now w q a t = law-stepped l [] e before now w (record { chunk = chunk.Quiet e q; free = refl; acts_are = refl; entries_are = refl }) a t

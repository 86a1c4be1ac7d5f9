-- The texts of two worked journals: of one object made and dropped, which is that of examples/one_object.journal, and of one
-- object of 4096 bytes with deferred work.
use Rattle.std.specs.Prelude.{ℕ, List, [], ◌∷◌, ◌++◌, codes}
use Rattle.std.specs.List.{flat_map}

-- these lines, each with its line feed
abbrev pub lines_text : List (List ℕ) → List ℕ
lines_text lines = flat_map (λ line. line ++ 10 ∷ []) lines

-- the lines of the journal of one object
abbrev pub one_object_lines : List (List ℕ)
one_object_lines =
    codes "processors 1 pages 1" ∷
    codes "types item" ∷
    codes "maps" ∷
    codes "scripts main" ∷
    codes "class 16 marks 32 96 48" ∷
    codes "processor 0" ∷
    codes "0 fill 16 0 1 2 3" ∷
    codes "0 script main" ∷
    codes "0 in plain 1" ∷
    codes "0 new item 7" ∷
    codes "0 enter 16 1" ∷
    codes "0 pop 16 3" ∷
    codes "0 count 16 3" ∷
    codes "0 leave 16 0" ∷
    codes "0 raise 16" ∷
    codes "0 given 3 1" ∷
    codes "0 drop 3 1" ∷
    codes "0 last" ∷
    codes "0 free 3 0" ∷
    codes "0 enter 16 1" ∷
    codes "0 push 16 3" ∷
    codes "0 count 16 4" ∷
    codes "0 leave 16 0" ∷
    codes "0 out plain 2" ∷
    codes "0 done main" ∷
    codes "0 ended" ∷
    codes "0 close" ∷
    codes "0 sweep 16 3 2 1 0" ∷
    codes "0 stamp 16 tracing 2" ∷
    codes "0 begin tracing 1" ∷
    codes "0 finish tracing 2 first 2 0 later 2 0" ∷
    codes "0 pass 16 tracing 2" ∷
    codes "0 return 16 3 2 1 0" ∷
    codes "total steps 13" ∷
    codes "total given 1" ∷
    codes "total empty 0" ∷
    codes "total busy 0" ∷
    codes "total last 1" ∷
    codes "total still 0" ∷
    codes "total acquired 0" ∷
    codes "total exchanged 0" ∷
    codes "total pushed 0" ∷
    codes "total already 0" ∷
    codes "total taken 0" ∷
    codes "total none 0" ∷
    codes "total raised 1" ∷
    codes "total worked 0" ∷
    codes "total fetched 4" ∷
    codes "total returned 4" ∷
    codes "total plain 0" ∷
    codes "total tracing 1" ∷
    codes "total handlers 0" ∷ []

-- the lines of the journal of one object of 4096 bytes, with deferred work
abbrev pub one_block_lines : List (List ℕ)
one_block_lines =
    codes "processors 1 pages 2" ∷
    codes "types block" ∷
    codes "maps" ∷
    codes "scripts main" ∷
    codes "class 4096 marks 2 6 3" ∷
    codes "processor 0" ∷
    codes "0 fill 4096 0" ∷
    codes "0 script main" ∷
    codes "0 in plain 1" ∷
    codes "0 new block" ∷
    codes "0 enter 4096 1" ∷
    codes "0 pop 4096 0" ∷
    codes "0 count 4096 0" ∷
    codes "0 leave 4096 0" ∷
    codes "0 raise 4096" ∷
    codes "0 given 0 1" ∷
    codes "0 work 4096" ∷
    codes "0 receive 4096" ∷
    codes "0 read 4096 0" ∷
    codes "0 fetch 4096 3 256" ∷
    codes "0 enter 4096 1" ∷
    codes "0 push 4096 256" ∷
    codes "0 count 4096 1" ∷
    codes "0 leave 4096 0" ∷
    codes "0 enter 4096 1" ∷
    codes "0 taked 4096" ∷
    codes "0 leave 4096 0" ∷
    codes "0 drop 0 1" ∷
    codes "0 last" ∷
    codes "0 free 0 0" ∷
    codes "0 enter 4096 1" ∷
    codes "0 push 4096 0" ∷
    codes "0 count 4096 2" ∷
    codes "0 leave 4096 0" ∷
    codes "0 out plain 2" ∷
    codes "0 done main" ∷
    codes "0 work 4096" ∷
    codes "0 receive 4096" ∷
    codes "0 read 4096 2" ∷
    codes "0 enter 4096 1" ∷
    codes "0 taked 4096" ∷
    codes "0 leave 4096 0" ∷
    codes "0 ended" ∷
    codes "0 close" ∷
    codes "0 sweep 4096 0 256" ∷
    codes "0 stamp 4096 tracing 2" ∷
    codes "0 begin tracing 1" ∷
    codes "0 finish tracing 2 first 2 0 later 2 0" ∷
    codes "0 pass 4096 tracing 2" ∷
    codes "0 return 4096 0 256" ∷
    codes "total steps 28" ∷
    codes "total given 1" ∷
    codes "total empty 0" ∷
    codes "total busy 0" ∷
    codes "total last 1" ∷
    codes "total still 0" ∷
    codes "total acquired 0" ∷
    codes "total exchanged 0" ∷
    codes "total pushed 0" ∷
    codes "total already 0" ∷
    codes "total taken 0" ∷
    codes "total none 0" ∷
    codes "total raised 1" ∷
    codes "total worked 2" ∷
    codes "total fetched 2" ∷
    codes "total returned 2" ∷
    codes "total plain 0" ∷
    codes "total tracing 1" ∷
    codes "total handlers 0" ∷ []

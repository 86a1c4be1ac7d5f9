-- The sizes of units, their classes, and the class of an object.
use Rattle.std.specs.Prelude.{ℕ, ◌+◌, ◌/◌, ◌≤◌, ◌==◌, nat_le, if◌then◌else◌, List, [], ◌∷◌, slice_index, All, position, Option, None}

-- The eleven sizes of units in bytes, ascending; the place of a size in this list is its class.
-- (`sizes` of kernel/bpf/memalloc.c; that they ascend is this project's own.)
abbrev pub sizes : List ℕ
sizes = 16 ∷ 32 ∷ 64 ∷ 96 ∷ 128 ∷ 192 ∷ 256 ∷ 512 ∷ 1024 ∷ 2048 ∷ 4096 ∷ []

-- The size of a class's units in bytes, and 0 from class 11 on.
unfoldable pub size_of_class : ℕ → ℕ
size_of_class class = slice_index sizes class

-- The class of an object of n bytes: the first size that has room for the object and the 8 bytes
-- before it. An object of no bytes has none. (bpf_mem_alloc and bpf_mem_cache_idx in
-- kernel/bpf/memalloc.c.)
unfoldable pub class_of_size : ℕ → Option ℕ
class_of_size n = if n == 0 then None else position (λ size. nat_le (n + 8) size) sizes

-- The same in the rule's words: the class's size has room for the n bytes and the 8 before them,
-- and it is the least of the sizes that have.
pub record IsClassOf (n class : ℕ) : Type 0 where
  pub fits : n + 8 ≤ size_of_class class
  pub least : All (λ size. n + 8 ≤ size → size_of_class class ≤ size) sizes

-- How many units of a class a page of 4096 bytes is carved into. (This project's own rule.)
abbrev pub units_per_page : ℕ → ℕ
units_per_page class = 4096 / size_of_class class

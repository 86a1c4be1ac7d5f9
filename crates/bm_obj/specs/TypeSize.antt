-- The size of an object of a type.
use Rattle.std.specs.Prelude.{ℕ, ◌+◌, ◌*◌, Bool, true, false}
use Rattle.bm_obj.specs.declared.type_def.Node.{Node}
use Rattle.bm_obj.specs.declared.type_def.Node.TheVariants.{Bare, List, Tree}
use Rattle.bm_obj.specs.declared.type_def.TypeDef.{TypeDef}

-- A node of a list takes 24 bytes, one of a tree 32. (struct bpf_list_node and struct bpf_rb_node of include/uapi/linux/bpf.h.)
abbrev pub node_size : Node → ℕ
node_size Bare = 0
node_size List = 24
node_size Tree = 32

-- A count takes 8 bytes: four, and four for the alignment. (struct bpf_refcount; that it takes 8 is this project's own.)
abbrev pub count_size : Bool → ℕ
count_size true = 8
count_size false = 0

-- The fields, 8 bytes each, the node, the count and the bytes more.
abbrev pub type_size : TypeDef → ℕ
type_size def = 8 * def.fields + node_size def.node + count_size def.counted + def.pad

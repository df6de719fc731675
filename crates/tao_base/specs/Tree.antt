-- The tree of buckets: a complete binary tree of height l, its nodes numbered from 1 in heap order, its leaves from 0.
use Rattle.std.specs.Prelude.{ℕ, nat_eq, ◌+◌, ◌-◌, ◌/◌, ◌%◌, ◌^◌, Bool, List, map, filter}
use Rattle.std.specs.List.{range_with_len, list_any}

-- how many nodes a tree of this height has
abbrev pub node_count : ℕ → ℕ
node_count l = 2 ^ (l + 1) - 1

-- the node of a leaf's path at a depth: the root is at depth 0, the leaf at depth l
abbrev pub node_at : ℕ → ℕ → ℕ → ℕ
node_at l leaf depth = (2 ^ l + leaf) / 2 ^ (l - depth)

-- the nodes from the root to a leaf
abbrev pub path : ℕ → ℕ → List ℕ
path l leaf = map (node_at l leaf) (range_with_len 0 (l + 1))

-- whether a node is on a leaf's path, in a tree of height l
abbrev pub is_on_path : ℕ → ℕ → ℕ → Bool
is_on_path l leaf node = list_any (nat_eq node) (path l leaf)

-- the leaf that a tape word stands for
abbrev pub leaf_of : ℕ → ℕ → ℕ
leaf_of l word = word % 2 ^ l

-- the nodes on the paths of some leaves, rising, each once
abbrev pub nodes_of : ℕ → List ℕ → List ℕ
nodes_of l leaves = filter (λ w. list_any (λ leaf. is_on_path l leaf w) leaves) (range_with_len 1 (node_count l))

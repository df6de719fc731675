-- Worked changes of tables, by their values.
use Rattle.std.specs.Prelude.{◌≡◌, ℕ, Bool, true, false, List, [], ◌∷◌, map, Some, None}
use Rattle.tao_base.specs.declared.storage.Order.{Order}
use Rattle.tao_world.specs.State.{Reading, Sending, is_set_at, row_at}
use Rattle.tao_world.specs.Changes.{bucket_put, new_sending, with_put}

-- an order of two nodes, with buckets of one byte
abbrev pub two_nodes : Order
two_nodes = record { version = 1; nonce = 4; nodes = 1 ∷ 3 ∷ []; image = 7 ∷ 8 ∷ [] }

-- its store with these flags, of which so many are left
abbrev pub store_with : List Bool → ℕ → Sending
store_with put left = record { order = two_nodes; put = put; left = left }

-- a fetch of arrival 2 of which nothing was read
abbrev pub unread : Reading
unread = record { arrival = 2; leaf = 0; read = false ∷ false ∷ []; bytes = 0 ∷ 0 ∷ [] }

-- A bucket among others, flags, rows, and a store put node by node: a second put of a node changes nothing.
pub record AreWorked : Type 0 where
  pub bucket : bucket_put 2 (0 ∷ 1 ∷ 2 ∷ 3 ∷ 4 ∷ 5 ∷ []) 1 (8 ∷ 9 ∷ []) ≡ 0 ∷ 1 ∷ 8 ∷ 9 ∷ 4 ∷ 5 ∷ []
  pub last : bucket_put 2 (0 ∷ 1 ∷ 2 ∷ 3 ∷ []) 1 (8 ∷ 9 ∷ []) ≡ 0 ∷ 1 ∷ 8 ∷ 9 ∷ []
  pub flags : map (is_set_at (true ∷ false ∷ [])) (0 ∷ 1 ∷ 2 ∷ []) ≡ true ∷ false ∷ false ∷ []
  pub rows : map (row_at (None ∷ Some unread ∷ [])) (0 ∷ 1 ∷ 2 ∷ []) ≡ None ∷ Some unread ∷ None ∷ []
  pub new : new_sending two_nodes ≡ store_with (false ∷ false ∷ []) 2
  pub one : with_put (new_sending two_nodes) 1 ≡ store_with (false ∷ true ∷ []) 1
  pub again : with_put (store_with (false ∷ true ∷ []) 1) 1 ≡ store_with (false ∷ true ∷ []) 1
  pub all : with_put (store_with (false ∷ true ∷ []) 1) 0 ≡ store_with (true ∷ true ∷ []) 0

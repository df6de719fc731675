-- The preallocated log of a link in memory.
use Rattle.std.specs.Prelude.{ℕ, ◌+◌, ◌*◌, ◌≤◌, List, vec_len, vec_capacity, Vec, All}
use Rattle.std.specs.declared.alloc.Global.{Global}
use Rattle.tao_tree.specs.Ledgers.{AreNoted, HasLen}
use Rattle.tao_tree.specs.declared.ledger.Note.{Note}

-- a list can take so many more items
abbrev pub HasSpare : {X : Type 0} → Vec X Global → ℕ → Type 0
HasSpare list more = vec_len list + more ≤ vec_capacity list

-- The lists of a ledger have capacity for so many more calls and buckets of stores, with a spare path for each call. Its nodes and images
-- are those of its notes.
pub record HasRooms (path_len bucket_len calls buckets : ℕ) (notes : Vec Note Global) (nodes images : Vec ℕ Global) (answers spare : Vec (List ℕ) Global) (stored : Vec ℕ Global) : Type 0 where
  pub for_notes : HasSpare notes calls
  pub for_nodes : HasSpare nodes buckets
  pub for_images : HasSpare images (buckets * bucket_len)
  pub for_answers : HasSpare answers calls
  pub for_stored : HasSpare stored calls
  pub for_paths : calls ≤ vec_len spare
  pub paths : All (HasLen path_len) spare.items
  pub noted : AreNoted notes.items nodes.items images.items

-- The final array: what a scan of the whole tree sees when all is done.
use Rattle.std.specs.Prelude.{◌≡◌, ℕ, ◌<◌, ◌^◌, ◌==◌, Bool, true, false, List, map, length, Some}
use Rattle.std.specs.List.{list_any, range_with_len}
use Rattle.tao_base.specs.declared.storage.Entry.{Entry}
use Rattle.tao_base.specs.Limits.{Shape}
use Rattle.tao_base.specs.Array.{block_at}
use Rattle.tao_base.specs.Tree.{is_on_path}
use Rattle.tao_model.specs.Placement.{look, first_copy}
use Rattle.tao_model.specs.FreshCopy.{FreshCopy, current_contents}
use Rattle.tao_held.specs.Steps.{value_or_zeros}

-- A final look: nothing is under way, so the settled values are the array's. Each node that the proxy doesn't hold
-- is read as it was last written.
pub record IsFinalLook (s : Shape) (array : List (List ℕ)) (leaf : ℕ → ℕ) (value : ℕ → List ℕ) (resident : ℕ → Bool) (own newest read : ℕ → List Entry) : Type 0 where
  pub blocks : length array ≡ s.n
  pub leaves : (b : ℕ) → b < s.n → leaf b < 2 ^ s.l
  pub quiet : (b : ℕ) → b < s.n → value b ≡ block_at array b
  pub honest : (w : ℕ) → 0 < w → resident w ≡ false → read w ≡ newest w
  pub fresh : FreshCopy s leaf value (current_contents resident own newest)

-- each entry seen has the array's value
abbrev pub SeenIsFinal : Type 0
SeenIsFinal = (s : Shape) (array : List (List ℕ)) (leaf : ℕ → ℕ) (value : ℕ → List ℕ) (resident : ℕ → Bool) (own newest read : ℕ → List Entry)
    → IsFinalLook s array leaf value resident own newest read
    → (b w : ℕ) (x : List ℕ) → b < s.n → look b (current_contents resident own read w) ≡ Some x → x ≡ block_at array b

-- the stash and the nodes of all paths, in any order
pub record AreAllNodes (l : ℕ) (nodes : List ℕ) : Type 0 where
  pub stash : list_any (λ v. v == 0) nodes ≡ true
  pub paths : (leaf w : ℕ) → leaf < 2 ^ l → is_on_path l leaf w ≡ true → list_any (λ v. v == w) nodes ≡ true

-- the value of each block as it is seen in these nodes
abbrev pub seen_array : Shape → List ℕ → (ℕ → List Entry) → List (List ℕ)
seen_array s nodes seen = map (λ b. value_or_zeros s (first_copy nodes seen b)) (range_with_len 0 s.n)

-- the values seen are the plain array after all arrivals
abbrev pub FinalArray : Type 0
FinalArray = (s : Shape) (array : List (List ℕ)) (leaf : ℕ → ℕ) (value : ℕ → List ℕ) (resident : ℕ → Bool) (own newest read : ℕ → List Entry) (nodes : List ℕ)
    → IsFinalLook s array leaf value resident own newest read → AreAllNodes s.l nodes
    → seen_array s nodes (current_contents resident own read) ≡ array

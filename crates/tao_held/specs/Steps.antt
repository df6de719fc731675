-- What a fetched path does to the proxy's contents: its nodes are admitted, the block is looked up and put, the path evicted.
-- Node 0 is the stash.
use Rattle.std.specs.Prelude.{ℕ, ◌==◌, Bool, not, ◌&&◌, ◌||◌, if◌then◌else◌, List, [], ◌∷◌, replicate, Option, unwrap_or}
use Rattle.tao_base.specs.declared.storage.Entry.{Entry}
use Rattle.tao_base.specs.Limits.{Shape}
use Rattle.tao_base.specs.Tree.{path, is_on_path}
use Rattle.tao_model.specs.Placement.{first_copy}
use Rattle.tao_model.specs.Passes.{gather}
use Rattle.tao_model.specs.Evictions.{evicted}

-- the nodes of the path that the proxy doesn't hold are admitted; those that it holds stay
abbrev pub take_in : ℕ → ℕ → (ℕ → Bool) → (ℕ → List Entry) → (ℕ → List Entry) → ℕ → List Entry
take_in l at resident taken own w = if is_on_path l at w && not (resident w) then taken w else own w

-- the nodes that the proxy holds afterwards
abbrev pub with_path : ℕ → ℕ → (ℕ → Bool) → ℕ → Bool
with_path l at resident w = resident w || is_on_path l at w

-- the copy that a look-up finds: the one in the stash, else the first on the path, from the root on
abbrev pub found_copy : ℕ → ℕ → (ℕ → List Entry) → ℕ → Option (List ℕ)
found_copy l at contents b = first_copy (0 ∷ path l at) contents b

-- a copy's value, or a block of zeros if there is no copy
abbrev pub value_or_zeros : Shape → Option (List ℕ) → List ℕ
value_or_zeros s copy = unwrap_or copy (replicate s.b 0)

-- the entry of block b with this value
abbrev pub entry_of : ℕ → List ℕ → Entry
entry_of b value = record { id = b; value = value }

-- the stash gets this value of the block in place of any old one
abbrev pub put : (ℕ → List Entry) → ℕ → List ℕ → ℕ → List Entry
put contents b value w = if w == 0 then gather (entry_of b value ∷ []) (contents 0) else contents w

-- the stash and the path are evicted, each block by its position
abbrev pub evict : Shape → ℕ → (ℕ → ℕ) → (ℕ → List Entry) → ℕ → List Entry
evict s at leaf contents w = evicted s (path s.l at) leaf contents w

-- after a fetch for block b, with the new positions and the block's new value
abbrev pub after_real_fetch : Shape → ℕ → (ℕ → ℕ) → (ℕ → Bool) → (ℕ → List Entry) → (ℕ → List Entry) → ℕ → List ℕ → ℕ → List Entry
after_real_fetch s at leaf resident taken own b value = evict s at leaf (put (take_in s.l at resident taken own) b value)

-- after a fetch for no block, by a fake arrival or a pad
abbrev pub after_fake_fetch : Shape → ℕ → (ℕ → ℕ) → (ℕ → Bool) → (ℕ → List Entry) → (ℕ → List Entry) → ℕ → List Entry
after_fake_fetch s at leaf resident taken own = evict s at leaf (take_in s.l at resident taken own)

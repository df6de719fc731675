-- Laws of openings: the words and the blocks determine the loaded tree.
use Rattle.std.specs.Prelude.{◌≡◌, List, []}
use Rattle.tao_base.specs.declared.storage.Bucket.{Bucket}
use Rattle.tao_base.specs.Session.{Opening}
use Rattle.tao_model.specs.Requests.{leaf_at}
use Rattle.tao_model.specs.Evictions.{load_contents, load_buckets}
use Rattle.tao_model.specs.Lawful.{IsOpening, OpensWithLoad}

-- the tree that an opening must be loaded with
abbrev pub opening_load : Opening → List Bucket
opening_load o = load_buckets o.shape (load_contents o.shape (λ block. leaf_at o [] block) o.first)

-- an opening that opens with its load has this tree
abbrev pub OneOpening : Type 0
OneOpening = (o : Opening) → OpensWithLoad o → o.loaded ≡ opening_load o

-- and conversely
abbrev pub OpensSo : Type 0
OpensSo = (o : Opening) → IsOpening o → o.loaded ≡ opening_load o → OpensWithLoad o

-- What a link in memory is, and what its calls do to it.
use Rattle.std.specs.Prelude.{◌≡◌, ℕ, ◌+◌, ◌-◌, ◌*◌, ◌&&◌, Bool, nat_eq, nat_lt, nat_le, List, [], ◌∷◌, ◌++◌, length, fold, slice_index, slice_set, bit_xor, if◌then◌else◌}
use Rattle.tao_base.specs.Causes.{one_more}
use Rattle.tao_base.specs.Limits.{Shape, bucket_len}
use Rattle.tao_base.specs.Links.{Told, told}
use Rattle.tao_base.specs.declared.links.Asked.{Asked}
use Rattle.tao_tree.specs.Ledgers.{LedgerState}
use Rattle.tao_tree.specs.Nodes.{IsSomePath}
use Rattle.tao_tree.specs.declared.forgeries.Forgery.{Forgery}

-- one byte xored, if there is such a byte
abbrev pub xored_at : List ℕ → ℕ → ℕ → List ℕ
xored_at bytes at mask = if nat_lt at (length bytes) then slice_set bytes at (bit_xor (slice_index bytes at) mask) else bytes

-- a forgery alters the answer of its own call alone
abbrev pub forged_once : ℕ → List ℕ → Forgery → List ℕ
forged_once call path f = if nat_eq f.call call then xored_at path f.at f.mask else path

-- the answer of a call, with each forgery of it
abbrev pub forged : List Forgery → ℕ → List ℕ → List ℕ
forged forgeries call path = fold (forged_once call) path forgeries

-- what a link answers: a path of the tree, forged
pub record IsForgedPath (s : Shape) (leaf : ℕ) (forgeries : List Forgery) (call : ℕ) (path : List ℕ) : Type 0 where
  pub honest : List ℕ
  pub is_path : IsSomePath s leaf honest
  pub altered : path ≡ forged forgeries call honest

-- the tree's parameters; the log and its capacity in calls and in buckets of stores; the numbers of the calls that fail; how many calls
-- there were, and how many failed; the forgeries
pub record LinkState : Type 0 where
  pub shape : Shape
  pub told : Told
  pub room : ℕ
  pub buckets : ℕ
  pub fails : List ℕ
  pub calls : ℕ
  pub faults : ℕ
  pub forgeries : List Forgery

-- the log has capacity for a call, and for so many buckets if it is a store
abbrev pub has_room : LinkState → ℕ → Bool
has_room s buckets = nat_lt 0 s.room && nat_le buckets s.buckets

-- a call is counted
abbrev pub called : LinkState → LinkState
called s = record s { calls = one_more s.calls }

-- a call is counted and logged, and takes capacity for itself and for so many buckets
abbrev pub telling : LinkState → Asked → ℕ → LinkState
telling s asked buckets = record (called s) { told = told (s.told.asked ++ asked ∷ []) s.told.answers s.told.stored; room = s.room - 1; buckets = s.buckets - buckets }

-- a fetch was answered by this path
abbrev pub with_answer : LinkState → List ℕ → LinkState
with_answer s path = record s { told = told s.told.asked (s.told.answers ++ path ∷ []) s.told.stored }

-- a store of this version was acknowledged
abbrev pub with_stored : LinkState → ℕ → LinkState
with_stored s version = record s { told = told s.told.asked s.told.answers (s.told.stored ++ version ∷ []) }

-- a call failed: it is logged if there is capacity, and counts in either case
abbrev pub failed : LinkState → Asked → ℕ → LinkState
failed s asked buckets = record (if has_room s buckets then telling s asked buckets else called s) { faults = one_more s.faults }

-- a new link: its log is empty and without capacity
abbrev pub new_link : Shape → List ℕ → LinkState
new_link s fails = record { shape = s; told = told [] [] []; room = 0; buckets = 0; fails = fails; calls = 0; faults = 0; forgeries = [] }

-- the ledger keeps paths and buckets of the tree's lengths
pub record LinksTo (s : Shape) (ledger : LedgerState) : Type 0 where
  pub paths : ledger.path_len ≡ (s.l + 1) * bucket_len s
  pub images : ledger.bucket_len ≡ bucket_len s

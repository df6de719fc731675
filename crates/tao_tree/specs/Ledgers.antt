-- The log of a link in memory: its calls and what came of them, how they lie in memory, and the capacity for more.
use Rattle.std.specs.Prelude.{◌≡◌, ℕ, ◌+◌, ◌-◌, List, [], ◌∷◌, ◌++◌, length, take, drop}
use Rattle.tao_base.specs.Links.{Told, told}
use Rattle.tao_base.specs.declared.links.Asked.{Asked}
use Rattle.tao_base.specs.declared.links.Asked.TheVariants.{Fetch, Store}
use Rattle.tao_tree.specs.declared.ledger.Note.{Note}
use Rattle.tao_tree.specs.declared.ledger.Note.TheVariants.{Fetched, Sent}

-- the log so far; its capacity in calls and in buckets of stores; the lengths of a path and a bucket
pub record LedgerState : Type 0 where
  pub told : Told
  pub calls : ℕ
  pub buckets : ℕ
  pub path_len : ℕ
  pub bucket_len : ℕ

-- the log of a new link, for paths and buckets of these lengths: empty and without capacity
abbrev pub nothing : ℕ → ℕ → LedgerState
nothing path_len bucket_len = record { told = told [] [] []; calls = 0; buckets = 0; path_len = path_len; bucket_len = bucket_len }

-- the calls that these notes are of: the nodes and images of all stores lie one behind another
abbrev pub asked_in : List Note → List ℕ → List ℕ → List Asked
asked_in [] nodes images = []
asked_in (Fetched id leaf ∷ notes) nodes images = Fetch id leaf ∷ asked_in notes nodes images
asked_in (Sent version nonce count len ∷ notes) nodes images =
    Store version nonce (take count nodes) (take len images) ∷ asked_in notes (drop count nodes) (drop len images)

-- how many nodes the notes are of
abbrev pub noted_nodes : List Note → ℕ
noted_nodes [] = 0
noted_nodes (Fetched id leaf ∷ notes) = noted_nodes notes
noted_nodes (Sent version nonce count len ∷ notes) = count + noted_nodes notes

-- how many bytes of images the notes are of
abbrev pub noted_bytes : List Note → ℕ
noted_bytes [] = 0
noted_bytes (Fetched id leaf ∷ notes) = noted_bytes notes
noted_bytes (Sent version nonce count len ∷ notes) = len + noted_bytes notes

-- the nodes and images that there are, are those of the notes
pub record AreNoted (notes : List Note) (nodes images : List ℕ) : Type 0 where
  pub nodes_all : length nodes ≡ noted_nodes notes
  pub bytes_all : length images ≡ noted_bytes notes

-- there are so many bytes
abbrev pub HasLen : ℕ → List ℕ → Type 0
HasLen len bytes = length bytes ≡ len

-- a call is logged, and takes capacity
abbrev pub asked : LedgerState → Asked → ℕ → LedgerState
asked s call buckets = record s { told = told (s.told.asked ++ call ∷ []) s.told.answers s.told.stored; calls = s.calls - 1; buckets = s.buckets - buckets }

-- and it was answered by this path
abbrev pub answered : LedgerState → List ℕ → LedgerState
answered s path = record s { told = told s.told.asked (s.told.answers ++ path ∷ []) s.told.stored }

-- or acknowledged
abbrev pub acknowledged : LedgerState → ℕ → LedgerState
acknowledged s version = record s { told = told s.told.asked s.told.answers (s.told.stored ++ version ∷ []) }

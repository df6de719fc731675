-- Exchanges of entries.
use Rattle.std.specs.Prelude.{◌≡◌, ℕ, List, map}
use Rattle.std.specs.List.Sorted.{IsStrictlyIncreasing}
use Rattle.tao_base.specs.declared.storage.Bucket.{Bucket}
use Rattle.tao_base.specs.declared.storage.Entry.{Entry}
use Rattle.tao_model.specs.Trace.{nodes_in}
use Rattle.tao_holdings.specs.Lists.{with_entries_of, with_buckets}

-- entries that are exchanged twice are back
abbrev pub ExchangedBack : Type 0
ExchangedBack = (buckets : List Bucket) (contents : ℕ → List Entry) → IsStrictlyIncreasing (nodes_in buckets)
    → (with_buckets (map (with_entries_of contents) buckets) (with_buckets buckets contents) ≡ contents)
    × (map (with_entries_of (with_buckets buckets contents)) (map (with_entries_of contents) buckets) ≡ buckets)

-- An image: the bytes of buckets one behind another, each of the same length.
use Rattle.std.specs.Prelude.{ℕ, ◌*◌, ◌/◌, List, length, map, take, drop}
use Rattle.std.specs.List.{range_with_len}

-- bucket i of an image, counted from 0
abbrev pub bucket_in : ℕ → List ℕ → ℕ → List ℕ
bucket_in len image i = take len (drop (i * len) image)

-- the buckets of an image; a shorter rest is left out
abbrev pub buckets_in : ℕ → List ℕ → List (List ℕ)
buckets_in len image = map (bucket_in len image) (range_with_len 0 (length image / len))

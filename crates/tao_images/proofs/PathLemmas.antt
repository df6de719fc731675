-- A path that is read bucket after bucket.
use Rattle.std.proofs.Common.{◌≡◌, ℕ, ◌+◌, ◌<◌, Bool, true, false, not, if◌then◌else◌, List, [], ◌∷◌, ◌++◌, length, map, append-nil, take, slice_set, Option, Some, None, refl, sym, ap, ap₂, ◌∙◌}
use Rattle.std.specs.List.{filter_map, range_with_len}
use Rattle.std.specs.Option.{option_to_list}
use Rattle.std.proofs.lemmas.List.{map-append, take_more_set, take-set}
use Rattle.tao_base.specs.Limits.{Shape}
use Rattle.tao_base.specs.Tree.{node_at}
use Rattle.tao_base.specs.declared.storage.Bucket.{Bucket}
use Rattle.tao_bucket.specs.Reading.{read_bucket}
use Rattle.tao_bucket.specs.Rooms.{RoomState}
use Rattle.tao_bucket.proofs.Firsts.{given_more}
use Rattle.tao_images.specs.Paths.{piece, read_at, held_in}

-- the first rooms hold the buckets that were read so far
abbrev pub Hold : (ℕ → Option Bucket) → ℕ → ℕ → List RoomState → Type 0
Hold read depth count rooms = map held_in (take count rooms) ≡ map (λ bucket. Some bucket) (filter_map read (range_with_len 0 depth))

one_more : (read : ℕ → Option Bucket) (depth : ℕ) (o : Option Bucket) → read depth ≡ o
    → map (λ bucket. Some bucket) (filter_map read (range_with_len 0 (depth + 1))) ≡ map (λ bucket. Some bucket) (filter_map read (range_with_len 0 depth)) ++ map (λ bucket. Some bucket) (option_to_list o)
one_more read depth o here =
    ap (map (λ bucket. Some bucket)) (given_more read depth ∙ ap (λ o. filter_map read (range_with_len 0 depth) ++ option_to_list o) here)
    ∙ map-append (λ (bucket : Bucket). Some bucket) (filter_map read (range_with_len 0 depth)) (option_to_list o)

-- one depth more, in whose room a bucket was read or nothing
hold_more : (read : ℕ → Option Bucket) (depth count next : ℕ) (rooms : List RoomState) (room : RoomState) (is_read : Bool) → count < length rooms
    → read depth ≡ (if is_read then room.held else None) → (is_read ≡ true → (bucket : Bucket) × (room.held ≡ Some bucket)) → next ≡ (if is_read then count + 1 else count)
    → Hold read depth count rooms → Hold read (depth + 1) next (slice_set rooms count room)
hold_more read depth count next rooms room true within here is_some up so_far =
    let bucket = is_some refl in
    ap (λ n. map held_in (take n (slice_set rooms count room))) up ∙ ap (map held_in) (take_more_set rooms count room within) ∙ map-append held_in (take count rooms) (room ∷ [])
    ∙ ap₂ (λ (front : List (Option Bucket)) o. front ++ o ∷ []) so_far bucket.1 ∙ sym (one_more read depth (Some bucket.0) (here ∙ bucket.1))
hold_more read depth count next rooms room false within here is_some up so_far =
    ap (λ n. map held_in (take n (slice_set rooms count room))) up ∙ ap (map held_in) (take-set rooms count room) ∙ so_far
    ∙ sym (one_more read depth None here ∙ append-nil (map (λ bucket. Some bucket) (filter_map read (range_with_len 0 depth))))

pub read_more : (key : List ℕ) (s : Shape) (skipped : ℕ → Bool) (leaf : ℕ) (path : List ℕ) (depth count next : ℕ) (rooms : List RoomState) (room : RoomState) (is_read : Bool)
    → count < length rooms → is_read ≡ not (skipped (node_at s.l leaf depth)) → (is_read ≡ true → room.held ≡ Some (read_bucket key s (piece s path depth)))
    → next ≡ (if is_read then count + 1 else count) → Hold (read_at key s skipped leaf path) depth count rooms → Hold (read_at key s skipped leaf path) (depth + 1) next (slice_set rooms count room)
unfolding read_at
read_more key s skipped leaf path depth count next rooms room is_read within needed value up so_far =
    hold_more (read_at key s skipped leaf path) depth count next rooms room is_read within (here (skipped (node_at s.l leaf depth)) is_read needed value)
    (λ yes. (read_bucket key s (piece s path depth), value yes)) up so_far
  where
    here : (skip is_read : Bool) → is_read ≡ not skip → (is_read ≡ true → room.held ≡ Some (read_bucket key s (piece s path depth)))
        → (if skip then None else Some (read_bucket key s (piece s path depth))) ≡ (if is_read then room.held else None)
    here true true needed value = let t : true ≡ false = needed in absurd cc
    here true false needed value = refl
    here false true needed value = sym (value refl)
    here false false needed value = let t : false ≡ true = needed in absurd cc

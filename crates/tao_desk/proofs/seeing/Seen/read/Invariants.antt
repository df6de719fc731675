use Rattle.std.proofs.Common.{List, ◌≡◌, ◌++◌, map, take, All, vec_capacity}
use Rattle.std.specs.List.{filter_map, flat_map}
use Rattle.tao_base.specs.declared.storage.Entry.{Entry}
use Rattle.tao_base.specs.Limits.{Shape}
use Rattle.tao_flush.specs.Blocks.{IsEntry}
use Rattle.tao_images.specs.Paths.{held_in}
use Rattle.tao_desk.specs.Scanning.{Sees}
use Rattle.tao_desk.proofs.seeing.Seen.read.Given as goal

abbrev pub invariant-loop-room : goal.invariant-loop-room
invariant-loop-room l = record {
  sees : (s : Shape) (before : List Entry) → Sees s before l.initial.self.values.items l.initial.self.known.items
      → All (λ bucket. All (IsEntry s) bucket.entries) (filter_map held_in l.initial.rooms)
      → Sees s (before ++ flat_map (λ bucket. bucket.entries) (filter_map held_in (take l.room-index l.initial.rooms))) l.self.values.items l.self.known.items;
  taken : map (λ bucket. bucket.value) l.self.taken.items ≡ map (λ bucket. bucket.value) l.initial.self.taken.items ++ filter_map held_in (take l.room-index l.initial.rooms);
  capacity : vec_capacity l.self.taken ≡ vec_capacity l.initial.self.taken;
}

use Rattle.std.proofs.Common.{List, ◌≡◌, ◌+◌, ◌++◌, map, length, take, All, sym, ap, ◌∙◌, subst, append_assoc, arith}
use Rattle.std.specs.List.{filter_map, flat_map}
use Rattle.std.specs.Option.{option_to_list}
use Rattle.std.proofs.lemmas.List.{take_all, length-append, length-map}
use Rattle.tao_base.specs.declared.storage.Bucket.{Bucket}
use Rattle.tao_bucket.specs.Rooms.{RoomState}
use Rattle.tao_flush.specs.Blocks.{IsEntry}
use Rattle.tao_images.specs.Paths.{held_in}
use Rattle.tao_desk.specs.Scanning.{Sees}
use Rattle.tao_desk.proofs.SeenEntries.{holds_in_room, no_more_in_room, rooms_more, sees_buckets}
use Rattle.tao_desk.proofs.seeing.Seen.read.Goals as goal

pub read_one-requires-clause-each : goal.read_one-requires-clause-each
read_one-requires-clause-each c =
    let given = c.requires.each in (
      given.0,
      given.1 ++ flat_map (λ (bucket : Bucket). bucket.entries) (filter_map held_in (take c.loop-room.room-index c.args.rooms.now)),
      c.loop-room.invariant.sees given.0 given.1 given.2 given.3,
      holds_in_room (λ (bucket : Bucket). All (IsEntry given.0) bucket.entries) c.args.rooms.now c.loop-room.room-index c.room-item.result c.room-item.result c.loop-room-test.true c.room-item.is given.3,
    )

pub read_one-requires-clause-space : goal.read_one-requires-clause-space
read_one-requires-clause-space c =
    let before : length c.loop-room.self.taken.items ≡ length c.args.self.now.taken.items + length (filter_map held_in (take c.loop-room.room-index c.args.rooms.now)) =
    sym (length-map c.loop-room.self.taken.items (λ bucket. bucket.value)) ∙ ap (λ (bs : List Bucket). length bs) c.loop-room.invariant.taken
    ∙ length-append (map (λ bucket. bucket.value) c.args.self.now.taken.items) (filter_map held_in (take c.loop-room.room-index c.args.rooms.now))
    ∙ ap (λ n. n + length (filter_map held_in (take c.loop-room.room-index c.args.rooms.now))) (length-map c.args.self.now.taken.items (λ bucket. bucket.value)) in
    let more = no_more_in_room c.args.rooms.now c.loop-room.room-index c.room-item.result c.room-item.result c.loop-room-test.true c.room-item.is in
    omega (arith, before, more, c.requires.space, c.loop-room.invariant.capacity, c.loop-room.self.taken.ok, c.args.self.now.taken.ok)

pub loop-room-preserved : goal.loop-room-preserved
loop-room-preserved c =
    let more = rooms_more c.args.rooms.now c.loop-room.room-index c.room-item.result c.room-item.result c.loop-room-test.true c.room-item.is in record {
      sees = λ s before is all. sees_buckets before (filter_map held_in (take c.loop-room.room-index c.args.rooms.now)) (option_to_list c.room-item.result.held)
          (filter_map held_in (take (c.loop-room.room-index + 1) c.args.rooms.now)) more
          (c.read_one.ensures.sees s (before ++ flat_map (λ (bucket : Bucket). bucket.entries) (filter_map held_in (take c.loop-room.room-index c.args.rooms.now))) (c.loop-room.invariant.sees s before is all)
          (holds_in_room (λ (bucket : Bucket). All (IsEntry s) bucket.entries) c.args.rooms.now c.loop-room.room-index c.room-item.result c.room-item.result c.loop-room-test.true c.room-item.is all));
      taken = c.read_one.ensures.taken ∙ ap (λ (bs : List Bucket). bs ++ option_to_list c.room-item.result.held) c.loop-room.invariant.taken
          ∙ append_assoc (map (λ bucket. bucket.value) c.args.self.now.taken.items) (filter_map held_in (take c.loop-room.room-index c.args.rooms.now)) (option_to_list c.room-item.result.held)
          ∙ ap (λ (bs : List Bucket). map (λ bucket. bucket.value) c.args.self.now.taken.items ++ bs) (sym more);
      capacity = c.read_one.ensures.capacity ∙ c.loop-room.invariant.capacity;
    }

pub returns-clause-sees : goal.returns-clause-sees
returns-clause-sees c =
    λ s before is all. subst (λ (rs : List RoomState). Sees s (before ++ flat_map (λ (bucket : Bucket). bucket.entries) (filter_map held_in rs)) c.loop-room.self.values.items c.loop-room.self.known.items)
    (take_all c.loop-room.room-index c.args.rooms.now c.loop-room-test.false) (c.loop-room.invariant.sees s before is all)

use Rattle.std.proofs.Common.{◌<◌, ◌++◌, ◌∷◌, [], List, length, sym, ap, ◌∙◌, arith}
use Rattle.std.specs.List.{slice_index_or}
use Rattle.std.proofs.lemmas.List.Elements.{All-set}
use Rattle.tao_base.specs.declared.storage.Bucket.{Bucket}
use Rattle.tao_images.specs.Paths.{IsRoom}
use Rattle.tao_processor.proofs.Looked.{taken_more, rest_held, emptied_room}
use Rattle.tao_processor.proofs.rooms.take_looked.Goals as goal

pub take_bucket-requires-clause-alike : goal.take_bucket-requires-clause-alike
take_bucket-requires-clause-alike c =
    let low : c.loop-i.i < length c.loop-i.rooms = let test = c.loop-i-test.true in let within = c.requires.within in let long = c.loop-i.auto.rooms in omega arith in
    let alike = c.requires.alike in
    (alike.0, c.loop-i.invariant.rooms alike.0 alike.1 c.loop-i.i c.index-rooms-i.result low, c.loop-i.invariant.stocked alike.0 alike.2)

pub loop-i-preserved : goal.loop-i-preserved
loop-i-preserved c =
    let now = c.loop-i.invariant in
    let test = c.loop-i-test.true in
    let within = c.requires.within in
    let long = c.loop-i.auto.rooms in
    let d = c.index-rooms-i.result in
    let room = slice_index_or c.loop-i.rooms c.loop-i.i d in
    let low : c.loop-i.i < length c.args.rooms.now = omega (arith, test, within) in
    let there : c.loop-i.i < length c.loop-i.rooms = omega (arith, test, within, long) in
    record {
      taken = c.push_reserved.ensures.items ∙ ap (λ (bs : List Bucket). bs ++ c.take_bucket.result ∷ []) now.taken
          ∙ sym (taken_more c.loop-i.i c.args.rooms.now room d c.take_bucket.result low (now.rest c.loop-i.i d (omega arith) low) c.take_bucket.ensures.bucket);
      count = let more = c.push_reserved.ensures.len in let before = now.count in omega (arith, more, before);
      capacity = let more = c.push_reserved.ensures.capacity in let before = now.capacity in omega (arith, more, before);
      stock = let less = c.take_bucket.ensures.len in let before = now.stock in omega (arith, less, before);
      rest = rest_held c.args.rooms.now c.loop-i.rooms c.loop-i.i c.take_bucket.new.room now.rest;
      rooms = λ s each. All-set (IsRoom s) c.loop-i.rooms c.loop-i.i c.take_bucket.new.room (emptied_room s room c.take_bucket.new.room c.take_bucket.ensures.room (now.rooms s each c.loop-i.i d there)) (now.rooms s each);
      stocked = λ s each. c.take_bucket.ensures.stocked s (now.stocked s each);
    }

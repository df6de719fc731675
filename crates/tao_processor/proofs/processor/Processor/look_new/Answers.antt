use Rattle.std.proofs.Common.{◌≡◌, List, length, replicate, vec_len, vec_capacity, sym, ap, ◌∙◌, subst, arith}
use Rattle.tao_bucket.specs.Rooms.{RoomState}
use Rattle.tao_processor.specs.Rooms.{buckets_held, KeepsRooms}
use Rattle.tao_processor.proofs.Looked.{look_new_so, looked_so, held_read, rooms_read, rooms_empty, rooms_keep, err_of}
use Rattle.tao_processor.proofs.WrittenBack.{whole_front}
use Rattle.tao_processor.proofs.processor.Processor.look_new.Goals as goal

pub returns-in_err-self-inside-clause-fault : goal.returns-in_err-self-inside-clause-fault
returns-in_err-self-inside-clause-fault c =
    let so = (look_new_so {looked = buckets_held c.self.inside.looked c.self.inside.rooms.items} c.args.leaf c.args.path.now (replicate 32 0) c.self.invariant c.self.view_is c.deref.ensures.value c.requires.leaf) in
    err_of c.from_residual.result c.in_err-self-inside.field-0.0 c.from_residual.ensures.1 ∙ c.in_err-self-inside.ensures.fault ∙ so.0

pub returns-clause-fault : goal.returns-clause-fault
returns-clause-fault c =
    let so = (look_new_so {looked = buckets_held c.self.inside.looked c.self.inside.rooms.items} c.args.leaf c.args.path.now (replicate 32 0) c.self.invariant c.self.view_is c.deref.ensures.value c.requires.leaf) in
    c.in_ok-self-inside.ensures.fault ∙ so.0

pub invariant_of-self : goal.invariant_of-self
invariant_of-self c =
    let many : length c.read_path.new.rooms ≡ length c.self.inside.rooms.items = c.read_path.auto.rooms ∙ ap (λ (rs : List RoomState). length rs) c.deref_mut.ensures.value in
    let whole = whole_front (vec_len c.self.inside.rooms) c.read_path.new.rooms c.self.inside.rooms.items many (omega (arith, c.self.inside.rooms.ok)) in
    rooms_keep c.self.invariant (subst (λ (rs : List RoomState). KeepsRooms c.self.inside.p rs 0 c.self.inside.taken.items (vec_capacity c.self.inside.taken) c.self.inside.stock.items) (sym whole)
    (rooms_empty c.self.invariant.rooms_are many c.in_err-self-inside.ensures.rooms))

pub invariant_of-self-2 : goal.invariant_of-self-2
invariant_of-self-2 c =
    let many : length c.read_path.new.rooms ≡ length c.self.inside.rooms.items = c.read_path.auto.rooms ∙ ap (λ (rs : List RoomState). length rs) c.deref_mut.ensures.value in
    let whole = whole_front (vec_len c.self.inside.rooms) c.read_path.new.rooms c.self.inside.rooms.items many (omega (arith, c.self.inside.rooms.ok)) in
    rooms_keep c.self.invariant (subst (λ (rs : List RoomState). KeepsRooms c.self.inside.p rs c.in_ok-self-inside.field-0 c.self.inside.taken.items (vec_capacity c.self.inside.taken) c.self.inside.stock.items) (sym whole)
    (rooms_read _ c.self.invariant.rooms_are many c.in_ok-self-inside.ensures.rooms c.in_ok-self-inside.ensures.within c.in_ok-self-inside.ensures.read))

pub returns-clause-ok : goal.returns-clause-ok
returns-clause-ok c =
    let so = (look_new_so {looked = buckets_held c.self.inside.looked c.self.inside.rooms.items} c.args.leaf c.args.path.now (replicate 32 0) c.self.invariant c.self.view_is c.deref.ensures.value c.requires.leaf) in
    let many : length c.read_path.new.rooms ≡ length c.self.inside.rooms.items = c.read_path.auto.rooms ∙ ap (λ (rs : List RoomState). length rs) c.deref_mut.ensures.value in
    let whole = whole_front (vec_len c.self.inside.rooms) c.read_path.new.rooms c.self.inside.rooms.items many (omega (arith, c.self.inside.rooms.ok)) in
    looked_so {looked = buckets_held c.self.inside.looked c.self.inside.rooms.items} c.self.invariant c.self.view_is
    (ap (λ (rs : List RoomState). buckets_held c.in_ok-self-inside.field-0 rs) whole ∙ held_read c.in_ok-self-inside.field-0 c.read_path.new.rooms _ c.in_ok-self-inside.ensures.read ∙ so.1)

use Rattle.std.proofs.Common.{◌≡◌, ◌^◌, ◌<◌, ◌+◌, List, map, length, vec_capacity, sym, subst, arith}
use Rattle.std.specs.List.{filter_map}
use Rattle.std.proofs.lemmas.List.{length-map}
use Rattle.tao_base.specs.declared.storage.Bucket.{Bucket}
use Rattle.tao_images.specs.Answers.{AreScanned}
use Rattle.tao_images.specs.Paths.{held_in}
use Rattle.tao_processor.specs.State.{ProcessorState}
use Rattle.tao_desk.specs.Inside.{IsDesk}
use Rattle.tao_desk.specs.Scanning.{IsScan, ReadsLeaf}
use Rattle.tao_desk.specs.Sound.{IsSound}
use Rattle.tao_desk.specs.State.{DeskState}
use Rattle.tao_desk.proofs.KeptDesks.{fault_keeps}
use Rattle.tao_desk.proofs.Scanned.{leaf_fails, leaf_read, entries_read, room_for_leaf, leaf_scan}
use Rattle.tao_desk.proofs.SoundDesks.{sound_desk}
use Rattle.tao_desk.proofs.desk.Desk.read_new.Goals as goal

pub returns-then-is_down-clause-sound : goal.returns-then-is_down-clause-sound
returns-then-is_down-clause-sound g c = subst (λ (d : DeskState). IsSound g.T.Tape.word d) c.self.view_is (sound_desk c.self.inside.processor c.sound.ensures c.self.invariant)

pub fault-requires-clause-follows : goal.fault-requires-clause-follows
fault-requires-clause-follows g c =
    let scan = subst (λ (d : DeskState). IsScan d.history c.args.leaf (map (λ bucket. bucket.value) c.args.seen.now.taken.items) c.args.seen.now.values.items c.args.seen.now.known.items (vec_capacity c.args.seen.now.taken)) (sym c.self.view_is) c.requires.scan in
    leaf_fails c.self.inside.processor c.args.leaf c.args.path.now c.in-Err.refused c.self.invariant.owes
    (subst (λ (d : DeskState). c.args.leaf < 2 ^ d.history.opening.shape.l) (sym c.self.view_is) c.requires.leaf) scan.all_done scan.all_acked c.in-Err.ensures.fault c.in-Err.ensures.err c.cause_of.ensures c.from.ensures

pub returns-in-Err-clause-sound : goal.returns-in-Err-clause-sound
returns-in-Err-clause-sound g c =
    sound_desk c.fault.new.self c.sound-in-Err.ensures
    (subst (λ (st : ProcessorState). IsDesk g.T.Tape.word (g.T.Tape.source c.self.inside.tape) (g.T.Tape.place c.self.inside.tape) st.history) (sym c.fault.ensures.state)
    (fault_keeps g.T.Tape.word c.cause_of.result (subst (λ (st : ProcessorState). IsDesk g.T.Tape.word (g.T.Tape.source c.self.inside.tape) (g.T.Tape.place c.self.inside.tape) st.history) (sym c.in-Err.ensures.err) c.self.invariant)))

pub read-requires-clause-each : goal.read-requires-clause-each
read-requires-clause-each g c =
    let h = c.self.inside.processor.history in
    let scan = subst (λ (d : DeskState). IsScan d.history c.args.leaf (map (λ bucket. bucket.value) c.args.seen.now.taken.items) c.args.seen.now.values.items c.args.seen.now.known.items (vec_capacity c.args.seen.now.taken)) (sym c.self.view_is) c.requires.scan in
    let low = subst (λ (d : DeskState). c.args.leaf < 2 ^ d.history.opening.shape.l) (sym c.self.view_is) c.requires.leaf in
    let read : AreScanned c.self.inside.processor.key h c.args.leaf c.args.path.now (filter_map held_in c.looked.result.now) =
    leaf_read c.self.inside.processor c.args.leaf c.args.path.now low (λ i. (c.type_inv.path i).fits) c.in-Ok.ensures.fault c.in-Ok.ensures.ok c.looked.ensures in
    (h.opening.shape, _, scan.sees, entries_read c.self.inside.processor.key h c.args.leaf c.args.path.now (filter_map held_in c.looked.result.now) read)

pub read-requires-clause-space : goal.read-requires-clause-space
read-requires-clause-space g c =
    let h = c.self.inside.processor.history in
    let scan = subst (λ (d : DeskState). IsScan d.history c.args.leaf (map (λ bucket. bucket.value) c.args.seen.now.taken.items) c.args.seen.now.values.items c.args.seen.now.known.items (vec_capacity c.args.seen.now.taken)) (sym c.self.view_is) c.requires.scan in
    let low = subst (λ (d : DeskState). c.args.leaf < 2 ^ d.history.opening.shape.l) (sym c.self.view_is) c.requires.leaf in
    let read : AreScanned c.self.inside.processor.key h c.args.leaf c.args.path.now (filter_map held_in c.looked.result.now) =
    leaf_read c.self.inside.processor c.args.leaf c.args.path.now low (λ i. (c.type_inv.path i).fits) c.in-Ok.ensures.fault c.in-Ok.ensures.ok c.looked.ensures in
    let room = room_for_leaf c.self.inside.processor.key h c.args.leaf c.args.path.now (map (λ bucket. bucket.value) c.args.seen.now.taken.items) (filter_map held_in c.looked.result.now) scan low read in
    let len : length (map (λ bucket. bucket.value) c.args.seen.now.taken.items) ≡ length c.args.seen.now.taken.items = length-map c.args.seen.now.taken.items (λ bucket. bucket.value) in
    omega (arith, room, len, c.args.seen.now.taken.ok)

pub returns-clause-read : goal.returns-clause-read
returns-clause-read g c =
    let low = subst (λ (d : DeskState). c.args.leaf < 2 ^ d.history.opening.shape.l) (sym c.self.view_is) c.requires.leaf in
    subst (λ (d : DeskState). ReadsLeaf d c.args.leaf c.args.path.now (map (λ bucket. bucket.value) c.args.seen.now.taken.items) (map (λ bucket. bucket.value) c.read.new.self.taken.items)) c.self.view_is (
      filter_map held_in c.looked.result.now,
      leaf_read c.self.inside.processor c.args.leaf c.args.path.now low (λ i. (c.type_inv.path i).fits) c.in-Ok.ensures.fault c.in-Ok.ensures.ok c.looked.ensures,
      c.read.ensures.taken,
    )

pub returns-clause-scan : goal.returns-clause-scan
returns-clause-scan g c =
    let h = c.self.inside.processor.history in
    let taken : List Bucket = map (λ bucket. bucket.value) c.args.seen.now.taken.items in
    let more : List Bucket = filter_map held_in c.looked.result.now in
    let scan = subst (λ (d : DeskState). IsScan d.history c.args.leaf taken c.args.seen.now.values.items c.args.seen.now.known.items (vec_capacity c.args.seen.now.taken)) (sym c.self.view_is) c.requires.scan in
    let low = subst (λ (d : DeskState). c.args.leaf < 2 ^ d.history.opening.shape.l) (sym c.self.view_is) c.requires.leaf in
    let read : AreScanned c.self.inside.processor.key h c.args.leaf c.args.path.now more =
    leaf_read c.self.inside.processor c.args.leaf c.args.path.now low (λ i. (c.type_inv.path i).fits) c.in-Ok.ensures.fault c.in-Ok.ensures.ok c.looked.ensures in
    subst (λ (d : DeskState). IsScan d.history (c.args.leaf + 1) (map (λ bucket. bucket.value) c.read.new.self.taken.items) c.read.new.self.values.items c.read.new.self.known.items (vec_capacity c.read.new.self.taken)) c.self.view_is
    (subst (λ n. IsScan h (c.args.leaf + 1) (map (λ bucket. bucket.value) c.read.new.self.taken.items) c.read.new.self.values.items c.read.new.self.known.items n) (sym c.read.ensures.capacity)
    (subst (λ (bs : List Bucket). IsScan h (c.args.leaf + 1) bs c.read.new.self.values.items c.read.new.self.known.items (vec_capacity c.args.seen.now.taken)) (sym c.read.ensures.taken)
    (leaf_scan c.self.inside.processor.key h c.args.leaf c.args.path.now taken more scan low read
    (c.read.ensures.sees h.opening.shape _ scan.sees (entries_read c.self.inside.processor.key h c.args.leaf c.args.path.now more read)))))

pub returns-clause-sound : goal.returns-clause-sound
returns-clause-sound g c =
    sound_desk c.look_new.new.self c.sound-2.ensures
    (subst (λ (st : ProcessorState). IsDesk g.T.Tape.word (g.T.Tape.source c.self.inside.tape) (g.T.Tape.place c.self.inside.tape) st.history) (sym c.in-Ok.ensures.ok) c.self.invariant)

use Rattle.std.proofs.Common.{◌≡◌, ◌-◌, ◌*◌, [], ◌∷◌, ◌++◌, length, ap, ap₂, sym, ◌∙◌, arith}
use Rattle.tao_base.specs.Links.{asked_of}
use Rattle.tao_tree.specs.Ledgers.{asked}
use Rattle.tao_tree.proofs.NoteLemmas.{state, asked_store, noted_store, WithStore, images_left}
use Rattle.tao_tree.proofs.ledger.Ledger.add_failed_store.Goals as goal

abbrev stored_notes : (c : goal.After-append_within-2) → WithStore c.self.inside.notes.items c.push_reserved.new.self.items c.args.order.now.version c.args.order.now.nonce c.self.inside.nodes.items c.self.inside.images.items c.append_within.new.list.items c.append_within-2.new.list.items c.args.order.now.nodes c.args.order.now.image
stored_notes c = record {
  notes_more = c.push_reserved.ensures.items ∙ ap (λ note. c.self.inside.notes.items ++ note ∷ []) c.note_of.ensures;
  nodes_more = c.append_within.ensures.items ∙ ap (λ more. c.self.inside.nodes.items ++ more) c.as_slice-2.ensures;
  bytes_more = c.append_within-2.ensures.items ∙ ap (λ more. c.self.inside.images.items ++ more) c.as_slice-3.ensures;
}

pub invariant_of-self : goal.invariant_of-self
invariant_of-self c =
    let calls : c.self.inside.calls ≡ c.args.self.now.calls = ap (λ s. s.calls) c.self.view_is in
    let buckets : c.self.inside.buckets ≡ c.args.self.now.buckets = ap (λ s. s.buckets) c.self.view_is in
    let size : length c.args.order.now.image ≡ length c.args.order.now.nodes * c.self.inside.bucket_len = c.requires.image ∙ ap (λ s. length c.args.order.now.nodes * s.bucket_len) (sym c.self.view_is) in
    let count = ap length c.as_slice.ensures in
    let count_two = ap length c.as_slice-2.ensures in
    let bytes = ap length c.as_slice-3.ensures in
    let left = images_left c.self.inside.buckets (length c.as_slice.result.now) c.self.inside.bucket_len (omega arith) in
    let same : length c.as_slice.result.now * c.self.inside.bucket_len ≡ length c.args.order.now.nodes * c.self.inside.bucket_len = ap (λ n. n * c.self.inside.bucket_len) count in
    record {
      for_notes = omega arith;
      for_nodes = omega arith;
      for_images = omega arith;
      for_answers = omega arith;
      for_stored = omega arith;
      for_paths = omega arith;
      paths = c.self.invariant.paths;
      noted = noted_store c.self.inside.notes.items c.push_reserved.new.self.items c.args.order.now.version c.args.order.now.nonce c.self.inside.nodes.items c.self.inside.images.items c.append_within.new.list.items c.append_within-2.new.list.items c.args.order.now.nodes c.args.order.now.image c.self.invariant.noted (stored_notes c);
    }

pub returns : goal.returns
returns c =
    let l = c.self.inside in
    let calls_now = asked_store l.notes.items c.push_reserved.new.self.items c.args.order.now.version c.args.order.now.nonce l.nodes.items l.images.items c.append_within.new.list.items c.append_within-2.new.list.items c.args.order.now.nodes c.args.order.now.image c.self.invariant.noted (stored_notes c) in
    ap₂ (λ calls count. state l.path_len l.bucket_len calls l.answers.items l.stored.items (l.calls - 1) (l.buckets - count)) calls_now (ap length c.as_slice.ensures)
    ∙ ap (λ s. asked s (asked_of c.args.order.now) (length c.args.order.now.nodes)) c.self.view_is

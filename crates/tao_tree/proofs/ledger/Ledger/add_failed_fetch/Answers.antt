use Rattle.std.proofs.Common.{◌≡◌, ◌-◌, ap, ap₂, ◌∙◌, arith}
use Rattle.tao_base.specs.declared.links.Asked.TheVariants.{Fetch}
use Rattle.tao_tree.specs.Ledgers.{asked, asked_in}
use Rattle.tao_tree.proofs.NoteLemmas.{state, asked_fetch, noted_fetch}
use Rattle.tao_tree.proofs.ledger.Ledger.add_failed_fetch.Goals as goal

pub invariant_of-self : goal.invariant_of-self
invariant_of-self c =
    let calls : c.self.inside.calls ≡ c.args.self.now.calls = ap (λ s. s.calls) c.self.view_is in
    record {
      for_notes = omega arith;
      for_nodes = c.self.invariant.for_nodes;
      for_images = c.self.invariant.for_images;
      for_answers = omega arith;
      for_stored = omega arith;
      for_paths = omega arith;
      paths = c.self.invariant.paths;
      noted = noted_fetch c.self.inside.notes.items c.push_reserved.new.self.items c.args.id c.args.leaf c.self.inside.nodes.items c.self.inside.images.items c.push_reserved.ensures.items c.self.invariant.noted;
    }

pub returns : goal.returns
returns c =
    let l = c.self.inside in
    let same : l.buckets ≡ l.buckets - 0 = omega arith in
    ap₂ (λ calls b. state l.path_len l.bucket_len calls l.answers.items l.stored.items (l.calls - 1) b)
    (ap (λ notes. asked_in notes l.nodes.items l.images.items) c.push_reserved.ensures.items ∙ asked_fetch l.notes.items c.args.id c.args.leaf l.nodes.items l.images.items) same
    ∙ ap (λ s. asked s (Fetch c.args.id c.args.leaf) 0) c.self.view_is

use Rattle.std.proofs.Common.{◌≡◌, ◌-◌, [], ◌∷◌, ◌++◌, ap, ap₂, sym, subst, ◌∙◌, arith}
use Rattle.std.specs.List.{All}
use Rattle.tao_base.specs.declared.links.Asked.TheVariants.{Fetch}
use Rattle.tao_tree.specs.Ledgers.{HasLen, asked, answered, asked_in}
use Rattle.tao_tree.proofs.NoteLemmas.{state, asked_fetch, noted_fetch}
use Rattle.tao_tree.proofs.ledger.Ledger.add_fetch.Goals as goal

pub invariant_of-self : goal.invariant_of-self
invariant_of-self c =
    let calls : c.self.inside.calls ≡ c.args.self.now.calls = ap (λ s. s.calls) c.self.view_is in
    record {
      for_notes = omega arith;
      for_nodes = c.self.invariant.for_nodes;
      for_images = c.self.invariant.for_images;
      for_answers = omega arith;
      for_stored = omega arith;
      for_paths = omega arith;
      paths = subst (λ n. All (HasLen n) c.take_filled.new.spare.items) (c.requires.path ∙ ap (λ s. s.path_len) (sym c.self.view_is)) c.take_filled.ensures.paths;
      noted = noted_fetch c.self.inside.notes.items c.push_reserved.new.self.items c.args.id c.args.leaf c.self.inside.nodes.items c.self.inside.images.items c.push_reserved.ensures.items c.self.invariant.noted;
    }

pub returns : goal.returns
returns c =
    let l = c.self.inside in
    let same : l.buckets ≡ l.buckets - 0 = omega arith in
    ap (λ answers. state l.path_len l.bucket_len (asked_in c.push_reserved.new.self.items l.nodes.items l.images.items) answers l.stored.items (l.calls - 1) l.buckets)
    (c.push_reserved-2.ensures.items ∙ ap (λ path. l.answers.items ++ path ∷ []) c.take_filled.ensures.value)
    ∙ ap₂ (λ calls b. state l.path_len l.bucket_len calls (l.answers.items ++ c.args.path.now ∷ []) l.stored.items (l.calls - 1) b)
    (ap (λ notes. asked_in notes l.nodes.items l.images.items) c.push_reserved.ensures.items ∙ asked_fetch l.notes.items c.args.id c.args.leaf l.nodes.items l.images.items) same
    ∙ ap (λ s. answered (asked s (Fetch c.args.id c.args.leaf) 0) c.args.path.now) c.self.view_is

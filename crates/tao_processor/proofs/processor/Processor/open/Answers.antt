use Rattle.std.proofs.Common.{◌≡◌, ◌+◌, ℕ, List, All, sym, ap, ◌∙◌, subst}
use Rattle.std.specs.List.{range_with_len}
use Rattle.std.specs.Prelude.{vec_capacity}
use Rattle.tao_base.specs.Buckets.{IsInForm}
use Rattle.tao_base.specs.Tree.{node_count}
use Rattle.tao_base.specs.declared.storage.Bucket.{Bucket}
use Rattle.tao_model.specs.Trace.{nodes_in}
use Rattle.tao_holdings.specs.Holding.{HoldingsState, none_held, leaf_by}
use Rattle.tao_flush.specs.Loads.{IsLoaded}
use Rattle.tao_processor.specs.Rooms.{KeepsRooms}
use Rattle.tao_processor.specs.Tags.{HasTagsOf}
use Rattle.tao_processor.proofs.Opened.{opened_from, loaded_opens}
use Rattle.tao_processor.proofs.processor.Processor.open.Goals as goal

pub load_tags-requires-clause-in_form : goal.load_tags-requires-clause-in_form
load_tags-requires-clause-in_form c =
    let st : c.in_ok-loaded.holdings ≡ none_held c.args.p.now c.in_ok-loaded.holdings.stash c.args.words =
    c.in_ok-loaded.ensures.state ∙ ap (λ (ws : List ℕ). none_held c.args.p.now c.in_ok-loaded.holdings.stash ws) c.as_slice.ensures in
    let load = subst (λ (bs : List (List ℕ)). IsLoaded c.args.p.now (leaf_by (none_held c.args.p.now c.in_ok-loaded.holdings.stash c.args.words)) bs c.in_ok-loaded.loaded c.in_ok-loaded.holdings.stash) c.as_slice-2.ensures
    (subst (λ (lf : ℕ → ℕ). IsLoaded c.args.p.now lf c.as_slice-2.result.now c.in_ok-loaded.loaded c.in_ok-loaded.holdings.stash) (ap (λ (h : HoldingsState). leaf_by h) st) c.in_ok-loaded.ensures.loaded) in
    let opens = loaded_opens c.args.p.now c.args.words c.args.blocks c.in_ok-loaded.loaded c.in_ok-loaded.holdings.stash c.k.ensures.shape c.requires.words c.requires.blocks c.requires.values load in
    subst (λ (bs : List Bucket). All (IsInForm c.args.p.now) bs) (sym c.as_slice-3.ensures) opens.in_form

pub load_tags-requires-clause-nodes : goal.load_tags-requires-clause-nodes
load_tags-requires-clause-nodes c =
    let st : c.in_ok-loaded.holdings ≡ none_held c.args.p.now c.in_ok-loaded.holdings.stash c.args.words =
    c.in_ok-loaded.ensures.state ∙ ap (λ (ws : List ℕ). none_held c.args.p.now c.in_ok-loaded.holdings.stash ws) c.as_slice.ensures in
    let load = subst (λ (bs : List (List ℕ)). IsLoaded c.args.p.now (leaf_by (none_held c.args.p.now c.in_ok-loaded.holdings.stash c.args.words)) bs c.in_ok-loaded.loaded c.in_ok-loaded.holdings.stash) c.as_slice-2.ensures
    (subst (λ (lf : ℕ → ℕ). IsLoaded c.args.p.now lf c.as_slice-2.result.now c.in_ok-loaded.loaded c.in_ok-loaded.holdings.stash) (ap (λ (h : HoldingsState). leaf_by h) st) c.in_ok-loaded.ensures.loaded) in
    let opens = loaded_opens c.args.p.now c.args.words c.args.blocks c.in_ok-loaded.loaded c.in_ok-loaded.holdings.stash c.k.ensures.shape c.requires.words c.requires.blocks c.requires.values load in
    subst (λ (bs : List Bucket). nodes_in bs ≡ range_with_len 1 (node_count c.args.p.now.l)) (sym c.as_slice-3.ensures) opens.numbered.nodes

pub invariant_of-result : goal.invariant_of-result
invariant_of-result c =
    let st : c.in_ok-loaded.holdings ≡ none_held c.args.p.now c.in_ok-loaded.holdings.stash c.args.words =
    c.in_ok-loaded.ensures.state ∙ ap (λ (ws : List ℕ). none_held c.args.p.now c.in_ok-loaded.holdings.stash ws) c.as_slice.ensures in
    let load = subst (λ (bs : List (List ℕ)). IsLoaded c.args.p.now (leaf_by (none_held c.args.p.now c.in_ok-loaded.holdings.stash c.args.words)) bs c.in_ok-loaded.loaded c.in_ok-loaded.holdings.stash) c.as_slice-2.ensures
    (subst (λ (lf : ℕ → ℕ). IsLoaded c.args.p.now lf c.as_slice-2.result.now c.in_ok-loaded.loaded c.in_ok-loaded.holdings.stash) (ap (λ (h : HoldingsState). leaf_by h) st) c.in_ok-loaded.ensures.loaded) in
    let has = subst (λ (bs : List Bucket). HasTagsOf c.args.key c.args.p.now bs c.in_ok-tags.tags.items) c.as_slice-3.ensures c.in_ok-tags.ensures in
    let parts = c.in_ok-requests.ensures in
    let lists = c.in_ok-requests.field-0.lists in
    let rooms = subst (λ (bs : List Bucket). KeepsRooms c.args.p.now lists.rooms.items 0 lists.taken.items (vec_capacity lists.taken) bs) (sym c.new-5.ensures.items) parts.rooms in
    opened_from {words = c.args.words} {blocks = c.args.blocks} {loaded = c.in_ok-loaded.loaded} {stash = c.in_ok-loaded.holdings.stash} c.k.ensures.shape c.requires.words c.requires.blocks c.requires.values
    load parts.written parts.recent_fits has rooms
    c.in_ok-session.ensures parts.requests parts.sequence parts.acknowledged c.new.ensures.items c.new.ensures.len parts.recent c.new-2.ensures.items
    (ap (λ n. n + 1) (c.from.ensures ∙ c.nodes.ensures.value)) st c.new-3.ensures.items c.new-3.ensures.len c.new-4.ensures.items

use Rattle.std.proofs.Common.{◌≡◌, ℕ, Bool, List, true, All, map, sym, ap, ◌∙◌, subst}
use Rattle.std.specs.List.Sorted.{IsStrictlyIncreasing}
use Rattle.std.proofs.lemmas.List.Elements.{All-drop, All-map}
use Rattle.tao_base.specs.declared.storage.Bucket.{Bucket}
use Rattle.tao_base.specs.Buckets.{IsInForm}
use Rattle.tao_model.specs.Trace.{nodes_in}
use Rattle.tao_holdings.specs.Holding.{is_held, contents_in}
use Rattle.tao_holdings.specs.Lists.{with_entries_of}
use Rattle.tao_processor.specs.Steps.{IsEmpty}
use Rattle.tao_processor.proofs.WrittenBack.{all_stamps, stamps_nodes, nodes_stay, stamps_in_form, held_again, empty_again}
use Rattle.tao_processor.proofs.writing.write_back.Goals as goal

pub exchange-requires-clause-rising : goal.exchange-requires-clause-rising
exchange-requires-clause-rising c =
    subst (λ (ns : List ℕ). IsStrictlyIncreasing ns) (sym (ap nodes_in c.stamp.ensures ∙ stamps_nodes c.args.nodes.now c.args.version c.args.nonce)) c.requires.rising

pub exchange-requires-clause-held : goal.exchange-requires-clause-held
exchange-requires-clause-held c =
    subst (λ (bs : List Bucket). All (λ bucket. is_held c.args.holdings.now bucket.node ≡ true) bs) (sym c.stamp.ensures)
    (all_stamps (λ bucket. is_held c.args.holdings.now bucket.node ≡ true) c.args.nodes.now c.args.version c.args.nonce (λ k low. c.requires.held k 0 low))

pub exchange-requires-clause-in_form : goal.exchange-requires-clause-in_form
exchange-requires-clause-in_form c =
    subst (λ (bs : List Bucket). All (IsInForm c.args.holdings.now.shape) bs) (sym c.stamp.ensures) (stamps_in_form c.args.holdings.now.shape c.args.nodes.now c.args.version c.args.nonce c.requires.tree)

pub exchange-requires-2-clause-rising : goal.exchange-requires-2-clause-rising
exchange-requires-2-clause-rising c =
    subst (λ (ns : List ℕ). IsStrictlyIncreasing ns)
    (sym (ap nodes_in c.exchange.ensures.buckets ∙ nodes_stay (contents_in c.args.holdings.now) c.stamp.new.buckets ∙ ap nodes_in c.stamp.ensures ∙ stamps_nodes c.args.nodes.now c.args.version c.args.nonce)) c.requires.rising

pub exchange-requires-2-clause-held : goal.exchange-requires-2-clause-held
exchange-requires-2-clause-held c =
    subst (λ (r : ℕ → Bool). All (λ bucket. r bucket.node ≡ true) c.exchange.new.buckets) (sym c.exchange.ensures.held)
    (subst (λ (bs : List Bucket). All (λ bucket. is_held c.args.holdings.now bucket.node ≡ true) bs) (sym c.exchange.ensures.buckets)
    (All-map (λ bucket. is_held c.args.holdings.now bucket.node ≡ true) (with_entries_of (contents_in c.args.holdings.now)) c.stamp.new.buckets
    (subst (λ (bs : List Bucket). All (λ bucket. is_held c.args.holdings.now bucket.node ≡ true) bs) (sym c.stamp.ensures)
    (all_stamps (λ bucket. is_held c.args.holdings.now bucket.node ≡ true) c.args.nodes.now c.args.version c.args.nonce (λ k low. c.requires.held k 0 low)))))

pub returns-clause-holdings : goal.returns-clause-holdings
returns-clause-holdings c =
    held_again c.stamp.new.buckets c.exchange.new.buckets c.args.holdings.now c.exchange.new.self c.exchange-2.new.self
    (subst (λ (ns : List ℕ). IsStrictlyIncreasing ns) (sym (ap nodes_in c.stamp.ensures ∙ stamps_nodes c.args.nodes.now c.args.version c.args.nonce)) c.requires.rising)
    c.exchange.ensures.buckets c.exchange.ensures.held c.exchange.ensures.contents c.exchange.ensures.others c.exchange-2.ensures.held c.exchange-2.ensures.contents c.exchange-2.ensures.others

pub returns-clause-empty : goal.returns-clause-empty
returns-clause-empty c =
    empty_again c.stamp.new.buckets c.exchange.new.buckets c.exchange-2.new.buckets _ c.args.nodes.now c.args.version c.args.nonce c.args.holdings.now c.exchange.new.self
    (subst (λ (ns : List ℕ). IsStrictlyIncreasing ns) (sym (ap nodes_in c.stamp.ensures ∙ stamps_nodes c.args.nodes.now c.args.version c.args.nonce)) c.requires.rising)
    c.stamp.ensures c.exchange.ensures.buckets c.exchange.ensures.contents c.exchange-2.ensures.buckets
    (subst (λ (bs : List Bucket). All IsEmpty bs) (sym c.split_at_mut-front.ensures.back) (All-drop IsEmpty _ c.args.written.now c.requires.empty))

pub returns-clause-in_form : goal.returns-clause-in_form
returns-clause-in_form c =
    subst (λ (bs : List Bucket). All (IsInForm c.args.holdings.now.shape) bs)
    (c.exchange.ensures.buckets ∙ ap (λ (bs : List Bucket). map (with_entries_of (contents_in c.args.holdings.now)) bs) c.stamp.ensures) c.exchange.ensures.in_form

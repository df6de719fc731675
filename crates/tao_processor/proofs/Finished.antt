-- How settling and evicting change the parts.
use Rattle.std.proofs.Common.{◌≡◌, ℕ, true, List, sym, ap, ap₂, ◌∙◌, slice_set}
use Rattle.tao_base.specs.declared.storage.Entry.{Entry}
use Rattle.tao_base.specs.Limits.{Shape}
use Rattle.tao_held.specs.Steps.{found_copy, value_or_zeros, put, evict}
use Rattle.tao_requests.specs.State.{RequestsState, block_of}
use Rattle.tao_requests.specs.Settling.{settled, value_from, KeepsAnswers}
use Rattle.tao_holdings.specs.Holding.{HoldingsState, is_held, contents_in, leaf_by}
use Rattle.tao_processor.specs.Steps.{Settles, Finishes, is_for_block, found_by, put_where, moved_where, settled_where}

pub settled_real : (i leaf word block : ℕ) (found value : List ℕ) (old new : HoldingsState) (q r : RequestsState) → is_for_block q i ≡ true → block ≡ block_of q.requests i
    → found ≡ value_or_zeros old.shape (found_copy old.shape.l leaf (contents_in old) block) → value ≡ value_from i (block_of q.requests i) found q.requests
    → r ≡ settled q i found → contents_in new ≡ put (contents_in old) block value → new ≡ record old { stash = new.stash; words = slice_set old.words block word }
    → KeepsAnswers q.requests r.requests → Settles i leaf word old new q r
settled_real i leaf word block found value old new q r real on finds leaves settles puts others stays = record {
  contents = puts ∙ ap₂ (λ (b : ℕ) (v : List ℕ). put (contents_in old) b v) on (leaves ∙ ap (λ v. value_from i (block_of q.requests i) v q.requests) found_is)
      ∙ ap (λ t. put_where t (contents_in old) (block_of q.requests i) (value_from i (block_of q.requests i) (found_by old q i leaf) q.requests)) (sym real);
  others = others ∙ ap (λ (ws : List ℕ). record old { stash = new.stash; words = ws })
      (ap (λ b. slice_set old.words b word) on ∙ ap (λ t. moved_where t old.words (block_of q.requests i) word) (sym real));
  requests = settles ∙ ap (settled q i) found_is ∙ ap (λ t. settled_where t q i (found_by old q i leaf)) (sym real);
  stays = stays;
}
  where
    found_is : found ≡ found_by old q i leaf
    found_is = finds ∙ ap (λ b. value_or_zeros old.shape (found_copy old.shape.l leaf (contents_in old) b)) on

pub finished : (i leaf word : ℕ) (old mid new : HoldingsState) (q r : RequestsState) → Settles i leaf word old mid q r
    → is_held new ≡ is_held mid → contents_in new ≡ evict mid.shape leaf (leaf_by mid) (contents_in mid)
    → new ≡ record mid { nodes = new.nodes; stash = new.stash } → Finishes i leaf word old new q r
finished i leaf word old mid new q r settles held evicts others = record {
  held = held ∙ ap (λ (st : HoldingsState). is_held st) settles.others;
  contents = evicts ∙ ap (λ (s : Shape). evict s leaf (leaf_by mid) (contents_in mid)) (ap (λ (st : HoldingsState). st.shape) settles.others)
      ∙ ap₂ (λ (lf : ℕ → ℕ) (c : ℕ → List Entry). evict old.shape leaf lf c) (sym (ap (λ (st : HoldingsState). leaf_by st) others)) settles.contents;
  others = others ∙ ap (λ (st : HoldingsState). record st { nodes = new.nodes; stash = new.stash }) settles.others;
  requests = settles.requests;
  stays = settles.stays;
}

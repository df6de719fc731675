use Rattle.std.proofs.Common.{◌≡◌, ◌≤◌, ℕ, Bool, false, List, length, take, replicate, ap, ap₂, ◌∙◌, sym, subst}
use Rattle.std.proofs.lemmas.List.{take-replicate}
use Rattle.tao_world.proofs.requests.Store.new.Goals as goal

pub returns : goal.returns
returns c =
    let count : length c.as_slice-left.result.now ≡ length c.args.order.nodes = ap length c.as_slice-left.ensures in
    let put : c.truncate.new.self.items ≡ replicate (length c.args.order.nodes) false =
    c.truncate.ensures.items ∙ ap (take (length c.as_slice-left.result.now)) c.requires.unset
    ∙ take-replicate (length c.as_slice-left.result.now) (length c.args.flags.items) false (subst (λ n. n ≤ length c.args.flags.items) (sym count) c.requires.few)
    ∙ ap (λ (n : ℕ). replicate n false) count
    in
    ap₂ (λ (put : List Bool) (left : ℕ). record { order = c.args.order; put = put; left = left }) put count

-- The parts of a load.
use Rattle.std.proofs.Common.{◌≡◌, ℕ, ◌-◌, ◌*◌, ◌≤◌, List, ◌+◌, length, take, drop, All, sym, ap, ◌∙◌, arith}
use Rattle.std.specs.Prelude.{min, max}
use Rattle.tao_base.specs.Buckets.{IsInForm}
use Rattle.tao_base.specs.Links.{order_limit}
use Rattle.tao_base.specs.Session.{Opening}
use Rattle.tao_base.specs.Tree.{node_count}
use Rattle.tao_base.specs.declared.storage.Bucket.{Bucket}
use Rattle.tao_model.specs.Lawful.{OpensWithLoad}
use Rattle.std.proofs.lemmas.List.{take_all, length-drop, length-take, length-map}
use Rattle.std.proofs.lemmas.List.Elements.{All-take, All-drop}
use Rattle.std.proofs.lemmas.List.FromFn.{length-range_with_len}

-- what is left, if that is no more than a part
pub last_part : {X : Type 0} (xs : List X) (at first most : ℕ) → at ≡ first → length xs - at ≤ most → take (length xs - at) (drop at xs) ≡ take most (drop first xs)
last_part xs at first most same few =
    take_all (length xs - at) (drop at xs) (let len = length-drop at xs in omega arith) ∙ ap (λ n. drop n xs) same
    ∙ sym (take_all most (drop first xs) (let len = length-drop first xs in omega arith))

-- the load has a bucket for each node
pub load_len : (o : Opening) → OpensWithLoad o → length o.loaded ≡ node_count o.shape.l
load_len o opens = sym (length-map o.loaded (λ (bucket : Bucket). bucket.node)) ∙ ap length opens.numbered.nodes ∙ length-range_with_len 1 (node_count o.shape.l)

-- each part is in form
pub part_in_form : (o : Opening) (first : ℕ) → OpensWithLoad o → All (IsInForm o.shape) (take 256 (drop first o.loaded))
part_in_form o first opens = All-take (IsInForm o.shape) 256 (drop first o.loaded) (All-drop (IsInForm o.shape) first o.loaded opens.in_form)

-- and no more than an order may have
pub part_is_few : (o : Opening) (first : ℕ) → OpensWithLoad o → length (take 256 (drop first o.loaded)) ≤ order_limit o.shape
part_is_few o first opens =
    let most = length-take 256 (drop first o.loaded) in
    let rest = length-drop first o.loaded in
    let all = load_len o opens in
    least (length (take 256 (drop first o.loaded))) (node_count o.shape.l) (o.shape.k * (o.shape.l + 1)) (omega arith) (omega arith)
  where
    least : (n a b : ℕ) → n ≤ a → n ≤ 256 → n ≤ min a (max 256 b)
    least n a b low high = omega arith

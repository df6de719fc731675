use Rattle.std.proofs.Common.{ℕ, refl, arith}
use Rattle.std.proofs.lemmas.List.{get_or-replicate}
use Rattle.tao_tag.proofs.Tagging.{padded_by_bytes}
use Rattle.tao_tag.proofs.tags.padded.Goals as goal

pub loop-i-init : goal.loop-i-init
loop-i-init c = record { long = refl; front = λ k h. absurd (omega arith); rest = λ k _ h. get_or-replicate {A = ℕ} 64 k c.args.pad 0 h }

pub returns : goal.returns
returns c =
    let all = c.loop-i.invariant in
    padded_by_bytes c.args.key.now c.loop-i.block c.args.pad c.requires all.long (λ k h. all.front k (omega arith)) (λ k h. all.rest k (omega arith))

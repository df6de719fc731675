use Rattle.std.proofs.Common.{◌≡◌, ℕ, ◌+◌, length, replicate, refl, ap, ◌∙◌, arith}
use Rattle.std.proofs.lemmas.List.{length-take, length-drop}
use Rattle.tao_bucket.proofs.Written.{slots_written}
use Rattle.tao_bucket.proofs.slots.write_slots.Goals as goal

pub returns : goal.returns
returns c =
    let all : c.loop-i.i ≡ length c.args.entries.now = omega arith in
    slots_written c.args.p.now.z c.args.p.now.b (4 + c.b.result) (length c.args.entries.now) c.args.entries.now c.loop-i.slots c.fill.new.self
    (ap (λ b. 4 + b) c.b.ensures.value) refl (c.loop-i.auto.slots ∙ c.requires.len) (rw all at c.loop-i.invariant)
    (c.fill.ensures.after (λ y h. h) ∙ ap (λ n. replicate {A = ℕ} n 0) (simp (length-take, length-drop) (omega arith)))

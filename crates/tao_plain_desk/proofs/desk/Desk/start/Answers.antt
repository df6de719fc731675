use Rattle.std.proofs.Common.{◌+◌, ◌∙◌, sym, ap, ap₂, take}
use Rattle.tao_plain_desk.specs.Whole.{empty_load, arrivals_of}
use Rattle.tao_plain_desk.proofs.DeskStep.{desk_start, desk_sound, words_at_start}
use Rattle.tao_plain_desk.proofs.desk.Desk.start.Goals as goal

pub invariant_of-result : goal.invariant_of-result
invariant_of-result c =
    let opened = c.in_ok-session.ensures in (
      sym (ap (λ r. r.history.opening.shape) opened),
      desk_start _ _ _ _ _ _ _ _ _ _ c.n-n.ensures.shape c.requires.once c.requires.words c.requires.count c.requires.values
          (c.in_ok-own.ensures ∙ ap₂ take c.n-n.ensures.value c.as_slice.ensures) (c.in_ok-places.ensures ∙ c.as_slice-2.ensures)
          (c.in_ok-server.ensures ∙ ap empty_load c.nodes.ensures.value) (c.in_ok-loaded.ensures ∙ ap empty_load c.nodes-2.ensures.value)
          (c.in_ok-array.ensures ∙ c.as_slice-3.ensures) (c.in_ok-path.ensures ∙ ap (λ k. empty_load (k + 1)) c.l.ensures.value)
          (ap (λ r. r.history) opened),
    )

pub returns-clause-sound : goal.returns-clause-sound
returns-clause-sound c = desk_sound _ _ _ _ _ _ _ (invariant_of-result c).1

pub returns-clause-left : goal.returns-clause-left
returns-clause-left c =
    let opened = c.in_ok-session.ensures in
    words_at_start _ _ _ (ap (λ r. r.history.opening.shape) opened) (ap (λ r. arrivals_of r.history) opened) c.requires.words

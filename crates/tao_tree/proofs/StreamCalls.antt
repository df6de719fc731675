-- What came of a call over a stream.
use Rattle.std.proofs.Common.{◌≡◌, inl, inr, ℕ, ◌+◌, List, Result, Ok, Err, subst}
use Rattle.std.specs.Prelude.{OnErr}
use Rattle.tao_base.specs.Causes.{Rose, one_more}
use Rattle.tao_base.specs.Transfers.{PutsAll, PutsPart, ConsumesFewer}
use Rattle.std.specs.Io.KnownBytes.{Consumes}
use Rattle.tao_wire.specs.Frames.{frame}
use Rattle.tao_wire.specs.declared.message.Message.{Message}
use Rattle.tao_tree.specs.Streams.{StreamState, Halves, Exchange, ConsumesWrong, IsAnswered, Fails}

pub on_err : {T E : Type 0} (r : Result T E) (P : Type 0) → P → OnErr r P
on_err (Ok x) P p = tt
on_err (Err e) P p = p

module _ {S K : Type 0} (h : Halves S K) (e : Exchange) (old inside new : StreamState S K) (bytes : List ℕ) (view : inside ≡ old) (frame_is : bytes ≡ e.sent) where
  pub answered : (answer : Message) → PutsAll h.put h.sink_faults inside.sink new.sink bytes → Consumes (h.left inside.source) (h.left new.source) (frame answer) → new.wrong ≡ inside.wrong
      → IsAnswered h e old new answer
  answered answer sent came uncounted = subst (λ o. IsAnswered h e o new answer) view (record {
    sent = subst (PutsAll h.put h.sink_faults inside.sink new.sink) frame_is sent;
    came = came;
    uncounted = uncounted;
  })

  pub send_failed : PutsPart h.put h.sink_faults inside.sink new.sink bytes → new.source ≡ inside.source → new.wrong ≡ inside.wrong → Fails h e old new
  send_failed part unread uncounted = subst (λ o. Fails h e o new) view (inl (record {
    part = subst (PutsPart h.put h.sink_faults inside.sink new.sink) frame_is part;
    unread = unread;
    uncounted = uncounted;
  }))

  pub receive_failed : PutsAll h.put h.sink_faults inside.sink new.sink bytes → ConsumesFewer (h.left inside.source) (h.left new.source) (4 + e.len)
      → Rose (h.source_faults inside.source) (h.source_faults new.source) → new.wrong ≡ inside.wrong → Fails h e old new
  receive_failed sent part rose uncounted = subst (λ o. Fails h e o new) view (inr (inl (record {
    sent = subst (PutsAll h.put h.sink_faults inside.sink new.sink) frame_is sent;
    part = part;
    rose = rose;
    uncounted = uncounted;
  })))

  pub answered_wrong : PutsAll h.put h.sink_faults inside.sink new.sink bytes → ConsumesWrong (h.left inside.source) (h.left new.source) e.IsWanted e.len
      → h.source_faults new.source ≡ h.source_faults inside.source → new.wrong ≡ one_more inside.wrong → Fails h e old new
  answered_wrong sent came unfailed counted = subst (λ o. Fails h e o new) view (inr (inr (record {
    sent = subst (PutsAll h.put h.sink_faults inside.sink new.sink) frame_is sent;
    came = came;
    unfailed = unfailed;
    counted = counted;
  })))

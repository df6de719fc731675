-- Worked records as the server sees them, and beside a second play.
use Rattle.std.specs.Prelude.{◌≡◌, ℕ, true, false, List, [], ◌∷◌, ◌++◌, map, reverse, take}
use Rattle.std.specs.List.{range_with_len}
use Rattle.tao_base.specs.declared.calls.Op.TheVariants.{Read}
use Rattle.tao_base.specs.declared.parameters.Form.TheVariants.{One}
use Rattle.tao_base.specs.declared.session.Event.{Event}
use Rattle.tao_base.specs.declared.session.Event.TheVariants.{Arrive, Acked}
use Rattle.tao_base.specs.Limits.{shape}
use Rattle.tao_base.specs.Session.{Opening}
use Rattle.tao_model.specs.declared.trace.Request.TheVariants.{Load, Fetch, Store, Again, Scan}
use Rattle.tao_model.specs.Events.{word_at}
use Rattle.tao_model.specs.Trace.{request_trace}
use Rattle.tao_model.specs.Shapes.{twin_permutation}
use Rattle.tao_model.specs.Worked.{opening, history, zero, leaves, residents, write_backs_out_of_order}

-- two write-backs, the later acknowledged first; the first store is sent again at the close
abbrev pub TraceOutOfOrder : Type 0
TraceOutOfOrder = request_trace write_backs_out_of_order (1 ∷ []) true
    ≡ Load 3 ∷ Fetch 0 0 ∷ Store 1 4 (1 ∷ 2 ∷ []) ∷ Fetch 1 1 ∷ Store 2 6 (1 ∷ 3 ∷ []) ∷ Fetch 2 1 ∷ Store 3 8 (1 ∷ 3 ∷ []) ∷ Again 1 4 (1 ∷ 2 ∷ []) ∷ Scan ∷ []

-- If the earlier write-back is acknowledged first, the root stays, since the second fetch touched it. The first leaf goes.
abbrev pub TouchedSinceIsKept : Type 0
TouchedSinceIsKept = residents (history write_backs_out_of_order.opening (take 6 write_backs_out_of_order.events ++ Acked 1 ∷ [])) 3 ≡ true ∷ false ∷ true ∷ []

-- four blocks with these first words
abbrev pub four_blocks : List ℕ → Opening
four_blocks words = opening (shape 2 2 4 4 4 One) words (zero ∷ zero ∷ zero ∷ zero ∷ []) []

-- four clients read one block at once
abbrev pub reads_of_one : List Event
reads_of_one = Arrive 0 (Read 0) 3 ∷ Arrive 1 (Read 0) 2 ∷ Arrive 2 (Read 0) 1 ∷ Arrive 3 (Read 0) 0 ∷ []

-- the second play: each client reads a block of its own
abbrev pub reads_of_four : List Event
reads_of_four = Arrive 0 (Read 0) 1 ∷ Arrive 1 (Read 1) 2 ∷ Arrive 2 (Read 2) 3 ∷ Arrive 3 (Read 3) 3 ∷ []

-- where the twin permutation puts a place of the first tape
abbrev pub twin_place : ℕ → ℕ
twin_place place = twin_permutation (four_blocks (0 ∷ 1 ∷ 2 ∷ 3 ∷ [])) (reverse reads_of_one) (four_blocks (0 ∷ 2 ∷ 1 ∷ 0 ∷ [])) (reverse reads_of_four) place

-- Four reads of one block beside reads of four blocks: where the first tape's words go, that the second tape has them there,
-- and the leaves that both plays fetch.
pub record IsTwinOfReads : Type 0 where
  pub places : map twin_place (range_with_len 0 8) ≡ 0 ∷ 4 ∷ 5 ∷ 6 ∷ 7 ∷ 1 ∷ 2 ∷ 3 ∷ []
  pub words : map (λ place. word_at (four_blocks (0 ∷ 2 ∷ 1 ∷ 0 ∷ [])) (reverse reads_of_four) (twin_place place)) (range_with_len 0 8) ≡ 0 ∷ 1 ∷ 2 ∷ 3 ∷ 3 ∷ 2 ∷ 1 ∷ 0 ∷ []
  pub first : leaves (history (four_blocks (0 ∷ 1 ∷ 2 ∷ 3 ∷ [])) reads_of_one) 4 ≡ 0 ∷ 2 ∷ 1 ∷ 0 ∷ []
  pub second : leaves (history (four_blocks (0 ∷ 2 ∷ 1 ∷ 0 ∷ [])) reads_of_four) 4 ≡ 0 ∷ 2 ∷ 1 ∷ 0 ∷ []

-- A worked record whose stores are sent again, as a text and as the server sees it, closed and not closed.
use Rattle.std.specs.Prelude.{◌≡◌, ℕ, false, true, List, [], ◌∷◌, ◌++◌, take, None, codes}
use Rattle.std.specs.List.{flat_map}
use Rattle.tao_base.specs.Session.{History}
use Rattle.tao_model.specs.declared.trace.Request.{Request}
use Rattle.tao_model.specs.declared.trace.Request.TheVariants.{Load, Fetch, Store, Again, Scan}
use Rattle.tao_model.specs.Trace.{request_trace}
use Rattle.tao_model.specs.Transcript.{transcript, transcript_with, request_line}
use Rattle.tao_model.specs.Worked.{history, all_a, one_read, write_backs_out_of_order, IsTold}

-- Two write-backs, the later of which is acknowledged first.
abbrev pub both_acknowledged : History
both_acknowledged = history write_backs_out_of_order.opening (take 8 write_backs_out_of_order.events)

-- the lines up to the second store
abbrev pub lines_before : List ℕ
lines_before = codes "tree 1 1 4 2 1\nload 3\narrive 0 0 read 0\nfetch 0 0\ndone 0\nreply 0 0 00000000\nstore 1 4 1 2\n"
    ++ codes "arrive 1 0 write 1 62626262\nfetch 1 1\ndone 1\nreply 1 0 00000000\nstore 2 6 1 3\n"

-- both stores sent again: each stands before its own acknowledgement
abbrev pub lines_again : List ℕ
lines_again = codes "again 2 6 1 3\nack 2\nagain 1 4 1 2\nack 1\n"

-- The text with both stores sent again, closed; then the same session not closed, with both, one and none of them sent again.
pub record ResendsAreTold : Type 0 where
  pub closed : IsTold both_acknowledged 2 (lines_before ++ lines_again ++ codes "scan\nblock 0 00000000\nblock 1 62626262\nend 0\n")
      (0 ∷ 1 ∷ []) (false ∷ false ∷ false ∷ [])
  pub both : transcript both_acknowledged 2 None (codes "end 8\n") ≡ lines_before ++ lines_again ++ codes "end 8\n"
  pub one : transcript both_acknowledged 1 None (codes "end 8\n") ≡ lines_before ++ codes "ack 2\nagain 1 4 1 2\nack 1\nend 8\n"
  pub none : transcript both_acknowledged 0 None (codes "end 8\n") ≡ lines_before ++ codes "ack 2\nack 1\nend 8\n"

-- the requests up to the second store
abbrev pub requests_before : List Request
requests_before = Load 3 ∷ Fetch 0 0 ∷ Store 1 4 (1 ∷ 2 ∷ []) ∷ Fetch 1 1 ∷ Store 2 6 (1 ∷ 3 ∷ []) ∷ []

-- What the server sees: stores sent again follow all others in the order in which they were sent, and there is a scan only at a close.
pub record ResendsAreSeen : Type 0 where
  pub closed : request_trace both_acknowledged (1 ∷ 2 ∷ []) true
      ≡ requests_before ++ Again 1 4 (1 ∷ 2 ∷ []) ∷ Again 2 6 (1 ∷ 3 ∷ []) ∷ Scan ∷ []
  pub later_first : request_trace both_acknowledged (2 ∷ 1 ∷ []) false
      ≡ requests_before ++ Again 2 6 (1 ∷ 3 ∷ []) ∷ Again 1 4 (1 ∷ 2 ∷ []) ∷ []
  pub none : request_trace both_acknowledged [] false ≡ requests_before

-- the lines of these requests
abbrev pub RequestsAreTold : Type 0
RequestsAreTold = flat_map request_line (request_trace both_acknowledged (1 ∷ 2 ∷ []) true)
    ≡ codes "load 3\nfetch 0 0\nstore 1 4 1 2\nfetch 1 1\nstore 2 6 1 3\nagain 1 4 1 2\nagain 2 6 1 3\nscan\n"

-- The text of the one read where another value was answered.
abbrev pub GivenAreTold : Type 0
GivenAreTold = transcript_with (λ es i. all_a) one_read 0 None (codes "end 8\n")
    ≡ codes "tree 1 1 4 1 1\nload 3\narrive 0 0 read 0\nfetch 0 1\ndone 0\nreply 0 0 61616161\nstore 1 4 1 3\nack 1\nend 8\n"

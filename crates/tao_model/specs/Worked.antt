-- Worked records as lists of events, with their transcripts, fetched leaves and residents.
use Rattle.std.specs.Prelude.{◌≡◌, ℕ, Bool, true, false, List, [], ◌∷◌, map, reverse, length, take, Some, codes}
use Rattle.std.specs.List.{range_with_len}
use Rattle.tao_base.specs.declared.calls.Op.TheVariants.{Read, Write}
use Rattle.tao_base.specs.declared.parameters.Form.TheVariants.{One}
use Rattle.tao_base.specs.declared.session.Event.{Event}
use Rattle.tao_base.specs.declared.session.Event.TheVariants.{Arrive, Done, Issue, Acked}
use Rattle.tao_base.specs.declared.storage.Bucket.{Bucket}
use Rattle.tao_base.specs.declared.storage.Entry.{Entry}
use Rattle.tao_base.specs.Limits.{Shape, shape}
use Rattle.tao_base.specs.Session.{Opening, History}
use Rattle.tao_model.specs.Requests.{fetched_leaf}
use Rattle.tao_model.specs.Replies.{array_now}
use Rattle.tao_model.specs.Residence.{is_resident}
use Rattle.tao_model.specs.Transcript.{transcript}

-- a bucket by its node, version, nonce and entries
abbrev pub bucket : ℕ → ℕ → ℕ → List Entry → Bucket
bucket node version nonce entries = record { node = node; version = version; nonce = nonce; entries = entries }

-- an entry by the id of its block and the value
abbrev pub entry : ℕ → List ℕ → Entry
entry id value = record { id = id; value = value }

-- an opening by its parameters, the blocks' first words, the first array and the loaded buckets
abbrev pub opening : Shape → List ℕ → List (List ℕ) → List Bucket → Opening
opening s words first loaded = record { shape = s; words = words; first = first; loaded = loaded }

-- a session's record by its opening and its events, the oldest first
abbrev pub history : Opening → List Event → History
history o events = record { opening = o; events = events }

-- blocks of four bytes
abbrev pub zero : List ℕ
zero = 0 ∷ 0 ∷ 0 ∷ 0 ∷ []

-- four letters a
abbrev pub all_a : List ℕ
all_a = 97 ∷ 97 ∷ 97 ∷ 97 ∷ []

-- four letters b
abbrev pub all_b : List ℕ
all_b = 98 ∷ 98 ∷ 98 ∷ 98 ∷ []

-- the transcript of a session that ended with status 0
abbrev pub closed : History → ℕ → List ℕ
closed h again = transcript h again (Some (array_now h.opening (reverse h.events))) (codes "end 0\n")

-- the leaves that this many arrivals fetch, from the first on
abbrev pub leaves : History → ℕ → List ℕ
leaves h arrivals = map (fetched_leaf h.opening (reverse h.events)) (range_with_len 0 arrivals)

-- which of the first nodes, root first, the proxy holds after all events
abbrev pub residents : History → ℕ → List Bool
residents h nodes = map (is_resident h.opening (reverse h.events)) (range_with_len 1 nodes)

-- What was worked out by hand: the text, the leaf that each arrival fetches, and which nodes the proxy holds at the end.
pub record IsTold (h : History) (again : ℕ) (told : List ℕ) (asked : List ℕ) (kept : List Bool) : Type 0 where
  pub text : closed h again ≡ told
  pub fetched : leaves h (length asked) ≡ asked
  pub held : residents h (length kept) ≡ kept

-- ---- one read of the one block, which lies in its leaf

-- The one block is fetched from leaf 1. Its new position is leaf 0, so it is written back into the root.
abbrev pub one_read : History
one_read = history
    (opening (shape 1 1 4 1 1 One) (1 ∷ []) (zero ∷ [])
    (bucket 1 0 1 [] ∷ bucket 2 0 2 [] ∷ bucket 3 0 3 (entry 0 zero ∷ []) ∷ []))
    (Arrive 0 (Read 0) 0
    ∷ Done 0 (bucket 1 0 1 [] ∷ bucket 3 0 3 (entry 0 zero ∷ []) ∷ [])
    ∷ Issue 1 4 (bucket 1 1 4 (entry 0 zero ∷ []) ∷ bucket 3 1 5 [] ∷ [])
    ∷ Acked 1 ∷ [])

-- leaf 1 is fetched, and at the end the proxy holds no node
abbrev pub OneRead : Type 0
OneRead = IsTold one_read 0 (codes "tree 1 1 4 1 1\nload 3\narrive 0 0 read 0\nfetch 0 1\ndone 0\nreply 0 0 00000000\nstore 1 4 1 3\nack 1\nscan\nblock 0 00000000\nend 0\n") (1 ∷ []) (false ∷ false ∷ false ∷ [])

-- ---- read, write, read of one block: each fetch goes where the last one put it

-- Read, write, read of one block, one after another: each moves the block to the leaf of its own word.
-- The next one finds it in the root.
abbrev pub read_write_read : History
read_write_read = history
    (opening (shape 2 2 4 2 1 One) (0 ∷ 3 ∷ []) (all_a ∷ zero ∷ [])
    (bucket 1 0 1 [] ∷ bucket 2 0 2 [] ∷ bucket 3 0 3 [] ∷ bucket 4 0 4 (entry 0 all_a ∷ []) ∷ bucket 5 0 5 [] ∷ bucket 6 0 6 [] ∷ bucket 7 0 7 (entry 1 zero ∷ []) ∷ []))
    (Arrive 0 (Read 0) 2
    ∷ Done 0 (bucket 1 0 1 [] ∷ bucket 2 0 2 [] ∷ bucket 4 0 4 (entry 0 all_a ∷ []) ∷ [])
    ∷ Issue 1 8 (bucket 1 1 8 (entry 0 all_a ∷ []) ∷ bucket 2 1 9 [] ∷ bucket 4 1 10 [] ∷ [])
    ∷ Acked 1
    ∷ Arrive 0 (Write 0 all_b) 1
    ∷ Done 1 (bucket 1 1 8 (entry 0 all_a ∷ []) ∷ bucket 3 0 3 [] ∷ bucket 6 0 6 [] ∷ [])
    ∷ Issue 2 11 (bucket 1 2 11 (entry 0 all_b ∷ []) ∷ bucket 3 2 12 [] ∷ bucket 6 2 13 [] ∷ [])
    ∷ Acked 2
    ∷ Arrive 1 (Read 0) 2
    ∷ Done 2 (bucket 1 2 11 (entry 0 all_b ∷ []) ∷ bucket 2 1 9 [] ∷ bucket 5 0 5 [] ∷ [])
    ∷ Issue 3 14 (bucket 1 3 14 (entry 0 all_b ∷ []) ∷ bucket 2 3 15 [] ∷ bucket 5 3 16 [] ∷ [])
    ∷ Acked 3 ∷ [])

-- the last read is answered the written value; leaves 0, 2 and 1 are fetched, and at the end no node is held
abbrev pub ReadWriteRead : Type 0
ReadWriteRead = IsTold read_write_read 0 (codes "tree 2 2 4 2 1\nfirst 0 61616161\nload 7\narrive 0 0 read 0\nfetch 0 0\ndone 0\nreply 0 0 61616161\nstore 1 8 1 2 4\nack 1\narrive 1 0 write 0 62626262\nfetch 1 2\ndone 1\nreply 1 0 61616161\nstore 2 11 1 3 6\nack 2\narrive 2 1 read 0\nfetch 2 1\ndone 2\nreply 2 1 62626262\nstore 3 14 1 2 5\nack 3\nscan\nblock 0 62626262\nblock 1 00000000\nend 0\n") (0 ∷ 2 ∷ 1 ∷ []) (false ∷ false ∷ false ∷ false ∷ false ∷ false ∷ false ∷ [])

-- ---- four blocks on one path of three nodes: one stays in the stash

-- Three blocks fill the path to leaf 0. The fourth is read from the stash and stays there: of these nodes its new path
-- has only the root.
abbrev pub full_path : History
full_path = history
    (opening (shape 2 1 4 4 1 One) (0 ∷ 0 ∷ 0 ∷ 0 ∷ []) (zero ∷ zero ∷ zero ∷ zero ∷ [])
    (bucket 1 0 1 (entry 2 zero ∷ []) ∷ bucket 2 0 2 (entry 1 zero ∷ []) ∷ bucket 3 0 3 [] ∷ bucket 4 0 4 (entry 0 zero ∷ []) ∷ bucket 5 0 5 [] ∷ bucket 6 0 6 [] ∷ bucket 7 0 7 [] ∷ []))
    (Arrive 0 (Read 3) 3
    ∷ Done 0 (bucket 1 0 1 (entry 2 zero ∷ []) ∷ bucket 2 0 2 (entry 1 zero ∷ []) ∷ bucket 4 0 4 (entry 0 zero ∷ []) ∷ [])
    ∷ Issue 1 8 (bucket 1 1 8 (entry 2 zero ∷ []) ∷ bucket 2 1 9 (entry 1 zero ∷ []) ∷ bucket 4 1 10 (entry 0 zero ∷ []) ∷ [])
    ∷ Acked 1 ∷ [])

-- all nodes of the path are stored; leaf 0 is fetched, and at the end no node is held
abbrev pub FullPath : Type 0
FullPath = IsTold full_path 0 (codes "tree 2 1 4 4 1\nload 7\narrive 0 0 read 3\nfetch 0 0\ndone 0\nreply 0 0 00000000\nstore 1 8 1 2 4\nack 1\nscan\nblock 0 00000000\nblock 1 00000000\nblock 2 00000000\nblock 3 00000000\nend 0\n") (0 ∷ []) (false ∷ false ∷ false ∷ false ∷ false ∷ false ∷ false ∷ [])

-- ---- three requests of one block under way at once: the later two are fake, and the first one's Done releases all

-- Three clients read one block before any path arrives. The paths come in reverse order; one write-back covers all three.
abbrev pub overlapping_requests : History
overlapping_requests = history
    (opening (shape 2 2 4 2 3 One) (0 ∷ 3 ∷ []) (all_a ∷ zero ∷ [])
    (bucket 1 0 1 [] ∷ bucket 2 0 2 [] ∷ bucket 3 0 3 [] ∷ bucket 4 0 4 (entry 0 all_a ∷ []) ∷ bucket 5 0 5 [] ∷ bucket 6 0 6 [] ∷ bucket 7 0 7 (entry 1 zero ∷ []) ∷ []))
    (Arrive 0 (Read 0) 1
    ∷ Arrive 1 (Read 0) 2
    ∷ Arrive 2 (Read 0) 3
    ∷ Done 2 (bucket 1 0 1 [] ∷ bucket 3 0 3 [] ∷ bucket 7 0 7 (entry 1 zero ∷ []) ∷ [])
    ∷ Done 1 (bucket 6 0 6 [] ∷ [])
    ∷ Done 0 (bucket 2 0 2 [] ∷ bucket 4 0 4 (entry 0 all_a ∷ []) ∷ [])
    ∷ Issue 1 8 (bucket 1 1 8 [] ∷ bucket 2 1 9 (entry 0 all_a ∷ []) ∷ bucket 3 1 10 [] ∷ bucket 4 1 11 [] ∷ bucket 6 1 12 [] ∷ bucket 7 1 13 (entry 1 zero ∷ []) ∷ [])
    ∷ Acked 1 ∷ [])

-- The store is sent again. All replies come after the first one's Done; leaves 0, 2 and 3 are fetched,
-- and at the end no node is held.
abbrev pub OverlappingRequests : Type 0
OverlappingRequests = IsTold overlapping_requests 1 (codes "tree 2 2 4 2 3\nfirst 0 61616161\nload 7\narrive 0 0 read 0\nfetch 0 0\narrive 1 1 read 0\nfetch 1 2\narrive 2 2 read 0\nfetch 2 3\ndone 2\ndone 1\ndone 0\nreply 0 0 61616161\nreply 1 1 61616161\nreply 2 2 61616161\nstore 1 8 1 2 3 4 6 7\nagain 1 8 1 2 3 4 6 7\nack 1\nscan\nblock 0 61616161\nblock 1 00000000\nend 0\n") (0 ∷ 2 ∷ 3 ∷ []) (false ∷ false ∷ false ∷ false ∷ false ∷ false ∷ false ∷ [])

-- ---- two write-backs, the later acknowledged first

-- One block is read, the other written, and the later store is acknowledged first. Then the written block is read.
abbrev pub write_backs_out_of_order : History
write_backs_out_of_order = history
    (opening (shape 1 1 4 2 1 One) (0 ∷ 1 ∷ []) (zero ∷ zero ∷ [])
    (bucket 1 0 1 [] ∷ bucket 2 0 2 (entry 0 zero ∷ []) ∷ bucket 3 0 3 (entry 1 zero ∷ []) ∷ []))
    (Arrive 0 (Read 0) 0
    ∷ Done 0 (bucket 1 0 1 [] ∷ bucket 2 0 2 (entry 0 zero ∷ []) ∷ [])
    ∷ Issue 1 4 (bucket 1 1 4 [] ∷ bucket 2 1 5 (entry 0 zero ∷ []) ∷ [])
    ∷ Arrive 0 (Write 1 all_b) 1
    ∷ Done 1 (bucket 3 0 3 (entry 1 zero ∷ []) ∷ [])
    ∷ Issue 2 6 (bucket 1 2 6 [] ∷ bucket 3 2 7 (entry 1 all_b ∷ []) ∷ [])
    ∷ Acked 2
    ∷ Acked 1
    ∷ Arrive 1 (Read 1) 0
    ∷ Done 2 (bucket 1 2 6 [] ∷ bucket 3 2 7 (entry 1 all_b ∷ []) ∷ [])
    ∷ Issue 3 8 (bucket 1 3 8 (entry 1 all_b ∷ []) ∷ bucket 3 3 9 [] ∷ [])
    ∷ Acked 3 ∷ [])

-- The third store is sent again. The last reply is the written value; leaves 0, 1 and 1 are fetched,
-- and at the end no node is held.
abbrev pub WriteBacksOutOfOrder : Type 0
WriteBacksOutOfOrder = IsTold write_backs_out_of_order 1 (codes "tree 1 1 4 2 1\nload 3\narrive 0 0 read 0\nfetch 0 0\ndone 0\nreply 0 0 00000000\nstore 1 4 1 2\narrive 1 0 write 1 62626262\nfetch 1 1\ndone 1\nreply 1 0 00000000\nstore 2 6 1 3\nack 2\nack 1\narrive 2 1 read 1\nfetch 2 1\ndone 2\nreply 2 1 62626262\nstore 3 8 1 3\nagain 3 8 1 3\nack 3\nscan\nblock 0 00000000\nblock 1 62626262\nend 0\n") (0 ∷ 1 ∷ 1 ∷ []) (false ∷ false ∷ false ∷ [])

-- ---- an acknowledgement that keeps the root, since a fetch covers it

-- The first write-back is acknowledged while a fetch to the other side of the tree is under way.
-- So the root stays and isn't fetched again.
abbrev pub kept_under_a_fetch : History
kept_under_a_fetch = history
    (opening (shape 2 2 4 2 1 One) (0 ∷ 3 ∷ []) (zero ∷ zero ∷ [])
    (bucket 1 0 1 [] ∷ bucket 2 0 2 [] ∷ bucket 3 0 3 [] ∷ bucket 4 0 4 (entry 0 zero ∷ []) ∷ bucket 5 0 5 [] ∷ bucket 6 0 6 [] ∷ bucket 7 0 7 (entry 1 zero ∷ []) ∷ []))
    (Arrive 0 (Read 0) 1
    ∷ Done 0 (bucket 1 0 1 [] ∷ bucket 2 0 2 [] ∷ bucket 4 0 4 (entry 0 zero ∷ []) ∷ [])
    ∷ Issue 1 8 (bucket 1 1 8 [] ∷ bucket 2 1 9 (entry 0 zero ∷ []) ∷ bucket 4 1 10 [] ∷ [])
    ∷ Arrive 1 (Read 1) 2
    ∷ Acked 1
    ∷ Done 1 (bucket 3 0 3 [] ∷ bucket 7 0 7 (entry 1 zero ∷ []) ∷ [])
    ∷ Issue 2 11 (bucket 1 2 11 [] ∷ bucket 3 2 12 (entry 1 zero ∷ []) ∷ bucket 7 2 13 [] ∷ [])
    ∷ Acked 2 ∷ [])

-- the second store is sent again; leaves 0 and 3 are fetched, and at the end no node is held
abbrev pub KeptUnderAFetch : Type 0
KeptUnderAFetch = IsTold kept_under_a_fetch 1 (codes "tree 2 2 4 2 1\nload 7\narrive 0 0 read 0\nfetch 0 0\ndone 0\nreply 0 0 00000000\nstore 1 8 1 2 4\narrive 1 1 read 1\nfetch 1 3\nack 1\ndone 1\nreply 1 1 00000000\nstore 2 11 1 3 7\nagain 2 11 1 3 7\nack 2\nscan\nblock 0 00000000\nblock 1 00000000\nend 0\n") (0 ∷ 3 ∷ []) (false ∷ false ∷ false ∷ false ∷ false ∷ false ∷ false ∷ [])

-- ---- two fetches of a period of three: nothing is written back

-- Two of the three Dones that fill a period: what they fetched stays with the proxy.
abbrev pub no_write_back_before_the_period : History
no_write_back_before_the_period = history
    (opening (shape 1 1 4 1 3 One) (0 ∷ []) (zero ∷ [])
    (bucket 1 0 1 [] ∷ bucket 2 0 2 (entry 0 zero ∷ []) ∷ bucket 3 0 3 [] ∷ []))
    (Arrive 0 (Read 0) 1
    ∷ Done 0 (bucket 1 0 1 [] ∷ bucket 2 0 2 (entry 0 zero ∷ []) ∷ [])
    ∷ Arrive 0 (Read 0) 0
    ∷ Done 1 (bucket 3 0 3 [] ∷ []) ∷ [])

-- no store; leaves 0 and 1 are fetched, and at the end the proxy holds all three nodes
abbrev pub NoWriteBackBeforeThePeriod : Type 0
NoWriteBackBeforeThePeriod = IsTold no_write_back_before_the_period 0 (codes "tree 1 1 4 1 3\nload 3\narrive 0 0 read 0\nfetch 0 0\ndone 0\nreply 0 0 00000000\narrive 1 0 read 0\nfetch 1 1\ndone 1\nreply 1 0 00000000\nscan\nblock 0 00000000\nend 0\n") (0 ∷ 1 ∷ []) (true ∷ true ∷ true ∷ [])

-- while the second fetch is under way, the first acknowledgement keeps the root and lets the rest of its path go
abbrev pub RootIsKept : Type 0
RootIsKept = residents (history kept_under_a_fetch.opening (take 5 kept_under_a_fetch.events)) 7 ≡ true ∷ false ∷ false ∷ false ∷ false ∷ false ∷ false ∷ []

-- before the acknowledgement the proxy holds all that the three fetches brought
abbrev pub AllIsHeld : Type 0
AllIsHeld = residents (history overlapping_requests.opening (take 7 overlapping_requests.events)) 7 ≡ true ∷ true ∷ true ∷ true ∷ false ∷ true ∷ true ∷ []

-- A small record for the tests: a write and a read of one block under way at once, the read released late, a pad, a write-back, and an end by damage.
use Rattle.std.specs.Prelude.{ℕ, List, [], ◌∷◌, ◌++◌}
use Rattle.tao_base.specs.declared.calls.Op.TheVariants.{Read, Write, Pad}
use Rattle.tao_base.specs.declared.parameters.Form.TheVariants.{Two}
use Rattle.tao_base.specs.declared.session.Cause.TheVariants.{Damaged}
use Rattle.tao_base.specs.declared.session.Event.{Event}
use Rattle.tao_base.specs.declared.session.Event.TheVariants.{Arrive, Done, Issue, Acked, Fault}
use Rattle.tao_base.specs.declared.storage.Bucket.{Bucket}
use Rattle.tao_base.specs.declared.storage.BucketFault.TheVariants.{Tag}
use Rattle.tao_base.specs.Limits.{shape}
use Rattle.tao_base.specs.Session.{Opening, History}

-- a bucket without entries
abbrev pub bare : ℕ → ℕ → ℕ → Bucket
bare node version nonce = record { node = node; version = version; nonce = nonce; entries = [] }

-- two blocks of 4 bytes, zeros and aaaa, in a tree of height 1 with one block in a bucket, period 3 and tags; no bucket is loaded
abbrev pub told_opening : Opening
told_opening = record {
  shape = shape 1 1 4 2 3 Two;
  words = 0 ∷ 1 ∷ [];
  first = (0 ∷ 0 ∷ 0 ∷ 0 ∷ []) ∷ (97 ∷ 97 ∷ 97 ∷ 97 ∷ []) ∷ [];
  loaded = [];
}

-- client 0 writes bbbb to block 0, client 1 reads block 0, and client 2 pads
abbrev pub arrivals : List Event
arrivals = Arrive 0 (Write 0 (98 ∷ 98 ∷ 98 ∷ 98 ∷ [])) 1 ∷ Arrive 1 (Read 0) 1 ∷ Arrive 2 Pad 0 ∷ []

-- All are done, the read first, written back and acknowledged. Then a read of block 1 is given a bucket with a wrong tag.
abbrev pub later_events : List Event
later_events = Done 1 (bare 1 0 1 ∷ bare 3 0 3 ∷ []) ∷ Done 2 (bare 2 0 2 ∷ []) ∷ Done 0 []
    ∷ Issue 1 4 (bare 1 1 4 ∷ bare 2 1 5 ∷ bare 3 1 6 ∷ []) ∷ Acked 1
    ∷ Arrive 0 (Read 1) 5 ∷ Fault (Damaged 3 3 Tag) ∷ []

-- the whole record
abbrev pub told_record : History
told_record = record { opening = told_opening; events = arrivals ++ later_events }

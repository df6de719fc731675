-- What a call has given to its sink, which is seen by the bytes that were put and by its fault counter. It may fail at any write.
use Rattle.std.specs.Prelude.{◌≡◌, ◌⊎◌, ℕ, List, ◌++◌, length, flat_map, Option, Some, Result, Ok, Err}
use Rattle.std.specs.Borrow.{Bor}
use Rattle.std.specs.Io.KnownBytes.{Appends}
use Rattle.tao_base.specs.Session.{History}
use Rattle.tao_base.specs.Transfers.{PutsAll, PutsPart}
use Rattle.tao_model.specs.Transcript.{opening_lines, closing_lines}
use Rattle.tao_trace.specs.Printing.{lines_before}
use Rattle.tao_trace.specs.WholeLines.{AreFirstLines}
use Rattle.taostore.specs.declared.faults.StreamFault.{StreamFault}
use Rattle.taostore.specs.declared.faults.StreamFault.TheVariants.{Failed, NoMemory}

-- the lines of a session that was played to its end, as they are told
abbrev pub session_lines : History → List (List ℕ) → List ℕ
session_lines h blocks = (opening_lines h.opening ++ lines_before h 0 (length h.events)) ++ closing_lines (Some blocks)

-- the bytes of the pieces, one after another
abbrev pub joined : List (Bor (List ℕ)) → List ℕ
joined pieces = flat_map (λ piece. piece.now) pieces

module _ {K : Type 0} (put : K → Option (List ℕ)) (faults : K → ℕ) (old new : K) where
  -- a call that is to end with this status and text does so; or the sink fails, and the call ends with 5
  abbrev pub Finishes : ℕ → List ℕ → ℕ → Type 0
  Finishes status text result = ((result ≡ status) × PutsAll put faults old new text) ⊎ ((result ≡ 5) × PutsPart put faults old new text)

  -- a text was told: all of it was put but what still waits behind it
  pub record Tells (text waiting : List ℕ) : Type 0 where
    pub sent : List ℕ
    pub puts : PutsAll put faults old new sent
    pub whole : sent ++ waiting ≡ text

  -- behind what waited these lines are told; where memory runs out the first of them, and where the sink fails a part of it all is put
  abbrev pub TellsLines : {T : Type 0} → List ℕ → List ℕ → List ℕ → Result T StreamFault → Type 0
  TellsLines waited waits lines (Ok done) = Tells (waited ++ lines) waits
  TellsLines waited waits lines (Err Failed) = PutsPart put faults old new (waited ++ lines)
  TellsLines waited waits lines (Err NoMemory) = (some : List ℕ) × AreFirstLines some lines × Tells (waited ++ some) waits

-- more bytes were put behind those that were there
abbrev pub PutsMore : {K : Type 0} → (K → Option (List ℕ)) → K → K → Type 0
PutsMore put old new = (bytes : List ℕ) × Appends (put old) (put new) bytes

-- Streams that are shut; and doors: the links that they dial, the streams that they accept, and what is given back to them.
use Rattle.std.specs.Prelude.{◌≡◌, ℕ, ◌+◌, ◌-◌, ◌≤◌, List, [], ◌∷◌, ◌++◌, drop, slice_get, Option, Some, None, Result, Ok, Err, is_ok, IfSome, IfOk, if◌then◌else◌}
use Rattle.std.specs.Option.{option_map}
use Rattle.tao_base.specs.Causes.{Rose}
use Rattle.tao_base.specs.Limits.{Shape}
use Rattle.tao_base.specs.Links.{Reach, Told, IsReachFor, told}
use Rattle.tao_base.specs.declared.doors.DoorFault.{DoorFault}
use Rattle.tao_base.specs.declared.doors.DoorFault.TheVariants.{Failed, Memory}

-- one half of a stream tells the same as before: its bytes, its faults, and what it knows of the other half
pub record KeepsHalf {S : Type 0} (bytes : S → Option (List ℕ)) (faults : S → ℕ) (other : S → ℕ × Option (List ℕ)) (old new : S) : Type 0 where
  pub same_bytes : bytes new ≡ bytes old
  pub same_faults : faults new ≡ faults old
  pub same_other : other new ≡ other old

-- The fault counter is incremented where doors have failed; it stays where they are out of memory, or all is Ok.
abbrev pub HasDoorCause : {T : Type 0} → ℕ → ℕ → Result T DoorFault → Type 0
HasDoorCause before now (Ok made) = now ≡ before
HasDoorCause before now (Err Failed) = (before ≤ now) × Rose before now
HasDoorCause before now (Err Memory) = now ≡ before

-- a new link for these parameters: no call of it has failed, and its log, where it has one, is empty
pub record IsNewLink {L : Type 0} (reach : L → Reach) (faults : L → ℕ) (log : L → Option Told) (s : Shape) (link : L) : Type 0 where
  pub for_store : IsReachFor s (reach link)
  pub unfailed : faults link ≡ 0
  pub untold : IfSome (log link) (λ logged. logged ≡ told [] [] [])

-- How many dialled links are out; how many streams were accepted, and how many given back. Where doors tell that: the links given back
-- with their numbers, the streams that wait, and the streams given back, that of connection 0 first.
pub record Handed (Near Stream : Type 0) : Type 0 where
  pub links_out : ℕ
  pub accepted : ℕ
  pub returned : ℕ
  pub hung : Option (List (ℕ × Near))
  pub waiting : Option (List Stream)
  pub back : Option (List Stream)

-- a list, where it is told, with one more item at its end
abbrev pub added : {X : Type 0} → Option (List X) → X → Option (List X)
added items item = option_map (λ list. list ++ item ∷ []) items

-- what `accept` answers is the first stream that waits, and None only where none does
abbrev pub AnswersFirst : {Stream E : Type 0} → Option (List Stream) → Result (Option Stream) E → Type 0
AnswersFirst waiting result = IfSome waiting (λ streams. IfOk result (λ answer. answer ≡ slice_get streams 0))

module _ {Near Stream : Type 0} (h : Handed Near Stream) where
  -- a link that was dialled is out
  abbrev pub after_dial : {T E : Type 0} → Result T E → Handed Near Stream
  after_dial result = if is_ok result then record h { links_out = h.links_out + 1 } else h

  -- a stream that was handed out no longer waits
  abbrev pub after_accept : {E : Type 0} → Result (Option Stream) E → Handed Near Stream
  after_accept (Ok (Some stream)) = record h { accepted = h.accepted + 1; waiting = option_map (drop 1) h.waiting }
  after_accept (Ok None) = h
  after_accept (Err fault) = h

  -- a link was given back under this number
  abbrev pub after_hang_up : ℕ → Near → Handed Near Stream
  after_hang_up link near = record h { links_out = h.links_out - 1; hung = added h.hung (link, near) }

  -- a stream was given back
  abbrev pub after_give_back : Stream → Handed Near Stream
  after_give_back stream = record h { returned = h.returned + 1; back = added h.back stream }

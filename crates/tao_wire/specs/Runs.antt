-- What a decoder answers, and what a caller may do with one, in any order.
use Rattle.std.specs.Prelude.{◌≡◌, ℕ, List, [], ◌∷◌, ◌++◌, Option, Some, None, Result, Ok, Err, ⊤}
use Rattle.tao_wire.specs.Frames.{BeginsWith, BeginsWithSome, IsPartial, BeginsFaulty}
use Rattle.tao_wire.specs.declared.message.Message.{Message}
use Rattle.tao_wire.specs.declared.message.WireFault.{WireFault}
use Rattle.tao_wire.specs.declared.message.WireFault.TheVariants.{Long, Kind, Body, Memory}

-- the limit of the length field, and the bytes that were fed and not yet handed out
pub record DecoderState : Type 0 where
  pub limit : ℕ
  pub left : List ℕ

-- what may be answered where these bytes are left, and what is left then; out of memory only where a message is next
abbrev pub Answers : ℕ → List ℕ → Result (Option Message) WireFault → List ℕ → Type 0
Answers limit left (Ok (Some message)) new = BeginsWith limit left message new
Answers limit left (Ok None) new = IsPartial limit left × (new ≡ left)
Answers limit left (Err Long) new = BeginsFaulty limit left Long × (new ≡ left)
Answers limit left (Err Kind) new = BeginsFaulty limit left Kind × (new ≡ left)
Answers limit left (Err Body) new = BeginsFaulty limit left Body × (new ≡ left)
Answers limit left (Err Memory) new = BeginsWithSome limit left × (new ≡ left)

-- what a caller did: it fed a piece, or it asked and was answered
pub data Turn : Type 0 where
  Fed : List ℕ → Turn
  Asked : Result (Option Message) WireFault → Turn

-- all that was fed
abbrev pub fed : List Turn → List ℕ
fed [] = []
fed (Fed piece ∷ turns) = piece ++ fed turns
fed (Asked answer ∷ turns) = fed turns

-- the messages that were handed out
abbrev pub handed : List Turn → List Message
handed [] = []
handed (Fed piece ∷ turns) = handed turns
handed (Asked (Ok (Some message)) ∷ turns) = message ∷ handed turns
handed (Asked (Ok None) ∷ turns) = handed turns
handed (Asked (Err fault) ∷ turns) = handed turns

-- a decoder may go through these turns, from what is left in it to what is left then
abbrev pub Run : ℕ → List ℕ → List Turn → List ℕ → Type 0
Run limit left [] new = new ≡ left
Run limit left (Fed piece ∷ turns) new = Run limit (left ++ piece) turns new
Run limit left (Asked answer ∷ turns) new = (middle : List ℕ) × Answers limit left answer middle × Run limit middle turns new

-- each answer of these turns is this fault
abbrev pub AllFail : WireFault → List Turn → Type 0
AllFail fault [] = ⊤
AllFail fault (Fed piece ∷ turns) = AllFail fault turns
AllFail fault (Asked answer ∷ turns) = (answer ≡ Err fault) × AllFail fault turns

-- What follows from the definitions alone.
use Rattle.std.specs.Prelude.{◌≡◌, ℕ, ◌^◌, ◌<◌, List, [], ◌∷◌, ◌++◌, Option, All}
use Rattle.tao_wire.specs.Frames.{BeginsWith, BeginsFaulty, Ends, Splits, FrameStream}
use Rattle.tao_wire.specs.Runs.{Turn, Run, fed, handed, AllFail}
use Rattle.tao_wire.specs.declared.message.Message.{Message}
use Rattle.tao_wire.specs.declared.message.WireFault.{WireFault}

-- a stream has no two readings
abbrev pub OneReading : Type 0
OneReading = (limit : ℕ) (stream rest rest' : List ℕ) (messages messages' : List Message) (fault fault' : Option WireFault) → limit < 2 ^ 32
    → FrameStream limit stream messages rest fault → FrameStream limit stream messages' rest' fault' → (messages ≡ messages') × (rest ≡ rest') × (fault ≡ fault')

-- each stream of bytes has a reading
abbrev pub EveryStream : Type 0
EveryStream = (limit : ℕ) (stream : List ℕ) → limit < 2 ^ 32 → All (λ byte. byte < 256) stream
    → (messages : List Message) × (rest : List ℕ) × (fault : Option WireFault) × FrameStream limit stream messages rest fault

-- what was split off a stream are its first messages, and the others are those of what is left
abbrev pub FrontOf : Type 0
FrontOf = (limit : ℕ) (stream left rest : List ℕ) (front messages : List Message) (fault : Option WireFault) → limit < 2 ^ 32
    → Splits limit stream front left → FrameStream limit stream messages rest fault
    → (more : List Message) × (messages ≡ front ++ more) × FrameStream limit left more rest fault

-- a stream stays split when more comes
abbrev pub SplitsFed : Type 0
SplitsFed = (limit : ℕ) (stream left piece : List ℕ) (front : List Message) → Splits limit stream front left → Splits limit (stream ++ piece) front (left ++ piece)

-- and when the next message is handed out
abbrev pub SplitsHanded : Type 0
SplitsHanded = (limit : ℕ) (stream left rest : List ℕ) (front : List Message) (message : Message)
    → Splits limit stream front left → BeginsWith limit left message rest → Splits limit stream (front ++ message ∷ []) rest

-- a faulty frame stays so when more comes
abbrev pub FaultyLater : Type 0
FaultyLater = (limit : ℕ) (bytes more : List ℕ) (fault : WireFault) → BeginsFaulty limit bytes fault → BeginsFaulty limit (bytes ++ more) fault

-- however a stream is chunked, and whenever the decoder is asked, what it has handed out are the first messages of the stream
abbrev pub AnyCutting : Type 0
AnyCutting = (limit : ℕ) (turns : List Turn) (left rest : List ℕ) (messages : List Message) (fault : Option WireFault) → limit < 2 ^ 32
    → Run limit [] turns left → FrameStream limit (fed turns) messages rest fault → (more : List Message) × (messages ≡ handed turns ++ more)

-- and all of them, where no message is next
abbrev pub AllHanded : Type 0
AllHanded = (limit : ℕ) (turns : List Turn) (left : List ℕ) (fault : Option WireFault)
    → Run limit [] turns left → Ends limit left fault → FrameStream limit (fed turns) (handed turns) left fault

-- where a faulty frame is next, each answer from then on is its fault
abbrev pub FaultForEver : Type 0
FaultForEver = (limit : ℕ) (turns : List Turn) (left new : List ℕ) (fault : WireFault) → limit < 2 ^ 32
    → BeginsFaulty limit left fault → Run limit left turns new → AllFail fault turns

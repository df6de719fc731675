-- A script that is played on the desk: what it opens, and what its steps leave in the record.
use Rattle.std.specs.Prelude.{◌≡◌, ℕ, ◌+◌, List, [], ◌∷◌, take, replicate, slice_set, slice_index, fold, map, reverse, length, Option, Some, None, ⊤}
use Rattle.std.specs.List.{range_with_len}
use Rattle.tao_base.specs.declared.storage.Entry.{Entry}
use Rattle.tao_base.specs.Session.{History}
use Rattle.tao_text.specs.declared.script.Script.{Script}
use Rattle.tao_text.specs.declared.script.Step.{Step}
use Rattle.tao_text.specs.declared.script.What.{What}
use Rattle.tao_text.specs.declared.script.What.TheVariants.{Do, A, Read, Done, Put, Ack}
use Rattle.tao_tape.specs.Tapes.{key_word}
use Rattle.tao_model.specs.Replies.{array_now}
use Rattle.taostore.specs.declared.session.Played.{Played}
use Rattle.taostore.specs.declared.session.Played.TheVariants.{Whole, Part, Nothing}
use Rattle.tao_plain_desk.specs.Whole.{started, arrivals_of, PlaysOne, IsSound}

-- blocks with a load's value in place of the block that it names; as they were where there is no such block
abbrev pub put_load : List (List ℕ) → Entry → List (List ℕ)
put_load blocks entry = slice_set blocks entry.id entry.value

-- zeros, and then the value of each load at its block
abbrev pub first_blocks : ℕ → ℕ → List Entry → List (List ℕ)
first_blocks n b loads = fold put_load (replicate n (replicate b 0)) loads

-- the words of the text, or those of its key that its operations use
abbrev pub words_of : Option (List ℕ) → List ℕ → ℕ → List ℕ
words_of (Some words) key count = words
words_of None key count = map (key_word key) (range_with_len 0 count)

-- a script's tape: the words that it gives, or else of its key's words one for each block and each step
abbrev pub tape_of : Script → List ℕ
tape_of script = words_of script.tape script.key (script.params.n + length script.steps)

-- the record before the first step
abbrev pub opened : Script → History
opened script = (started script.params (tape_of script) (first_blocks script.params.n script.params.b script.loads)).history

-- one step is an operation, which leaves its four events, with the next word of the tape
abbrev pub PlaysStep : List ℕ → What → History → History → Type 0
PlaysStep tape (Do client op) old new = PlaysOne old new client op (slice_index tape (old.opening.shape.n + arrivals_of old))
PlaysStep tape (A client op) old new = ⊥
PlaysStep tape (Read fetch depth) old new = ⊥
PlaysStep tape (Done fetch) old new = ⊥
PlaysStep tape (Put version bucket) old new = ⊥
PlaysStep tape (Ack version) old new = ⊥

-- the steps one after another
abbrev pub PlaysSteps : List ℕ → List Step → History → History → Type 0
PlaysSteps tape [] old new = new ≡ old
PlaysSteps tape (step ∷ steps) old new = (mid : History) × PlaysStep tape step.what old mid × PlaysSteps tape steps mid new

-- the record of a script of which these steps were played: it goes on lawfully, is unaltered, and has their events and no others
pub record IsPlayed (script : Script) (steps : List Step) (h : History) : Type 0 where
  pub sound : IsSound h
  pub played : PlaysSteps (tape_of script) steps (opened script) h

-- what playing a script comes to
abbrev pub PlaysScript : Script → Played → Type 0
PlaysScript script (Whole session blocks) = IsPlayed script script.steps session.history × (blocks ≡ array_now session.history.opening (reverse session.history.events))
PlaysScript script (Part session) = (count : ℕ) × IsPlayed script (take count script.steps) session.history
PlaysScript script Nothing = ⊤

-- a session that ends here, before its end
abbrev pub IsPart : History → Played → Type 0
IsPart h (Whole session blocks) = ⊥
IsPart h (Part session) = session.history ≡ h
IsPart h Nothing = ⊥

-- a session that ends here with the final array, or without it where memory runs out
abbrev pub Closes : History → Played → Type 0
Closes h (Whole session blocks) = (session.history ≡ h) × (blocks ≡ array_now h.opening (reverse h.events))
Closes h (Part session) = session.history ≡ h
Closes h Nothing = ⊥

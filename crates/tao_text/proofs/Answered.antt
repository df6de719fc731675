-- What a returned script or fault says of the text.
use Rattle.std.proofs.Common.{◌≡◌, ◌⊎◌, inl, inr, List, ℕ, Result, Ok, Err}
use Rattle.std.specs.Prelude.{IfErr, IfOk}
use Rattle.tao_text.specs.declared.faults.TextFault.{TextFault}
use Rattle.tao_text.specs.declared.script.Script.{Script}
use Rattle.tao_text.specs.declared.script.Twins.{Twins}
use Rattle.tao_text.specs.declared.text.TextOf.{TextOf}
use Rattle.tao_text.specs.Scripts.{GivesText, no_memory, reading_of, twins_reading}
use Rattle.tao_text.specs.Texts.{FirstBreakOf, IsOps, IsScript, IsStore, IsTextOf, IsTwinText, IsTwins}
use Rattle.tao_text.proofs.TextLaws.{IsOther, ops_keep, store_keeps, text_breaks, text_is, text_keeps}
use Rattle.tao_text.proofs.TwinLaws.{twin_breaks, twins_are, twins_keep}

is_text : (text : TextOf) → IsOther text → (bytes : List ℕ) (result : Result Script TextFault) → GivesText result (reading_of text bytes) → IfOk result (IsTextOf text bytes)
is_text text other bytes (Ok script) given = text_is text bytes script other given
is_text text other bytes (Err fault) given = tt

is_break : (text : TextOf) → IsOther text → (bytes : List ℕ) (result : Result Script TextFault) → GivesText result (reading_of text bytes) → IfErr result (λ fault. (fault ≡ no_memory) ⊎ FirstBreakOf text bytes fault)
is_break text other bytes (Ok script) given = tt
is_break text other bytes (Err fault) (inl memory) = inl memory
is_break text other bytes (Err fault) (inr given) = inr (text_breaks text bytes fault other given)

pub is_script : (bytes : List ℕ) (result : Result Script TextFault) → GivesText result (reading_of TextOf.Script bytes) → IfOk result (IsTextOf TextOf.Script bytes)
is_script bytes result given = is_text TextOf.Script (λ twin. absurd cc) bytes result given

pub is_script_break : (bytes : List ℕ) (result : Result Script TextFault) → GivesText result (reading_of TextOf.Script bytes) → IfErr result (λ fault. (fault ≡ no_memory) ⊎ FirstBreakOf TextOf.Script bytes fault)
is_script_break bytes result given = is_break TextOf.Script (λ twin. absurd cc) bytes result given

pub keeps_limits : (bytes : List ℕ) (result : Result Script TextFault) → GivesText result (reading_of TextOf.Script bytes) → IfOk result IsScript
keeps_limits bytes (Ok script) given = text_keeps TextOf.Script bytes script (λ twin. absurd cc) given
keeps_limits bytes (Err fault) given = tt

pub is_ops : (bytes : List ℕ) (result : Result Script TextFault) → GivesText result (reading_of TextOf.Ops bytes) → IfOk result (IsTextOf TextOf.Ops bytes)
is_ops bytes result given = is_text TextOf.Ops (λ twin. absurd cc) bytes result given

pub is_ops_break : (bytes : List ℕ) (result : Result Script TextFault) → GivesText result (reading_of TextOf.Ops bytes) → IfErr result (λ fault. (fault ≡ no_memory) ⊎ FirstBreakOf TextOf.Ops bytes fault)
is_ops_break bytes result given = is_break TextOf.Ops (λ twin. absurd cc) bytes result given

pub keeps_ops : (bytes : List ℕ) (result : Result Script TextFault) → GivesText result (reading_of TextOf.Ops bytes) → IfOk result IsOps
keeps_ops bytes (Ok script) given = ops_keep bytes script given
keeps_ops bytes (Err fault) given = tt

pub is_store : (bytes : List ℕ) (result : Result Script TextFault) → GivesText result (reading_of TextOf.Store bytes) → IfOk result (IsTextOf TextOf.Store bytes)
is_store bytes result given = is_text TextOf.Store (λ twin. absurd cc) bytes result given

pub is_store_break : (bytes : List ℕ) (result : Result Script TextFault) → GivesText result (reading_of TextOf.Store bytes) → IfErr result (λ fault. (fault ≡ no_memory) ⊎ FirstBreakOf TextOf.Store bytes fault)
is_store_break bytes result given = is_break TextOf.Store (λ twin. absurd cc) bytes result given

pub keeps_store : (bytes : List ℕ) (result : Result Script TextFault) → GivesText result (reading_of TextOf.Store bytes) → IfOk result IsStore
keeps_store bytes (Ok script) given = store_keeps bytes script given
keeps_store bytes (Err fault) given = tt

pub is_twin_text : (bytes : List ℕ) (result : Result Twins TextFault) → GivesText result (twins_reading bytes) → IfOk result (IsTwinText bytes)
is_twin_text bytes (Ok twins) given = twins_are bytes twins given
is_twin_text bytes (Err fault) given = tt

pub is_twin_break : (bytes : List ℕ) (result : Result Twins TextFault) → GivesText result (twins_reading bytes) → IfErr result (λ fault. (fault ≡ no_memory) ⊎ FirstBreakOf TextOf.Twin bytes fault)
is_twin_break bytes (Ok twins) given = tt
is_twin_break bytes (Err fault) (inl memory) = inl memory
is_twin_break bytes (Err fault) (inr given) = inr (twin_breaks bytes fault given)

pub keeps_twins : (bytes : List ℕ) (result : Result Twins TextFault) → GivesText result (twins_reading bytes) → IfOk result IsTwins
keeps_twins bytes (Ok twins) given = twins_keep bytes twins given
keeps_twins bytes (Err fault) given = tt

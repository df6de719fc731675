-- A call after calls that took nothing does what it would have done before them.
use Rattle.std.proofs.Common.{◌≡◌, ℕ, List, ◌++◌, take, Option, None, Some, sym, ap, ◌∙◌, append-nil}
use Rattle.std.specs.Io.KnownBytes.{Appends, Consumes, Keeps}

pub kept_consumes : (a b c : Option (List ℕ)) (bytes : List ℕ) → Keeps a b → Consumes b c bytes → Consumes a c bytes
kept_consumes None b c bytes same one = tt
kept_consumes (Some x) None c bytes same one = absurd same
kept_consumes (Some x) (Some y) None bytes same one = absurd one
kept_consumes (Some x) (Some y) (Some z) bytes same one = sym same ∙ one

pub kept_appends : (a b c : Option (List ℕ)) (bytes : List ℕ) → Keeps a b → Appends b c bytes → Appends a c bytes
kept_appends None b c bytes same one = tt
kept_appends (Some x) None c bytes same one = absurd same
kept_appends (Some x) (Some y) None bytes same one = absurd one
kept_appends (Some x) (Some y) (Some z) bytes same one = one ∙ ap (λ l. l ++ bytes) same

pub empty_keeps : (a b : Option (List ℕ)) (n : ℕ) (bytes : List ℕ) → n ≡ 0 → Appends a b (take n bytes) → Keeps a b
empty_keeps None b n bytes none one = tt
empty_keeps (Some x) None n bytes none one = absurd one
empty_keeps (Some x) (Some y) n bytes none one = one ∙ ap (λ m. x ++ take m bytes) none ∙ append-nil x

-- The fault of a reading, and that of the words at the places of a form.
use Rattle.std.proofs.Common.{◌≡◌, ◌⊎◌, inl, inr, ℕ, zero, suc, List, [], ◌∷◌, Option, Some, None, Result, Ok, Err, refl, ⊎_elim, sym, subst, ◌∙◌, arith}
use Rattle.std.specs.Prelude.{Any}
use Rattle.tao_text.specs.declared.faults.TextKind.{TextKind}
use Rattle.tao_text.specs.declared.faults.TextKind.TheVariants.{Number, Hex}
use Rattle.tao_text.specs.Forms.{◌>>=◌, numbers_of}
use Rattle.tao_text.specs.LineForms.{Part, numbers_in, values_in}
use Rattle.tao_text.specs.Spelling.{IsNumber, IsHex}
use Rattle.tao_text.specs.Values.{number_of, hex_of}
use Rattle.tao_text.proofs.ValueLaws.{number_is, number_reads, no_number_fault, hex_is, hex_reads, no_hex_fault}

abbrev pub fault_of : {A : Type 0} → Result A TextKind → Option TextKind
fault_of (Ok x) = None
fault_of (Err kind) = Some kind

-- the first of two faults
abbrev pub or_fault : Option TextKind → Option TextKind → Option TextKind
or_fault None later = later
or_fault (Some kind) later = Some kind

-- the fault of the first word that isn't a number, or else a later fault
abbrev pub numbers_fault : List (List ℕ) → Option TextKind → Option TextKind
numbers_fault [] later = later
numbers_fault (word ∷ words) later = or_fault (fault_of (number_of word)) (numbers_fault words later)

-- the fault of the first word that isn't hex
abbrev pub values_fault : List (List ℕ) → Option TextKind
values_fault [] = None
values_fault (word ∷ words) = or_fault (fault_of (hex_of word)) (values_fault words)

-- the fault of words of this form
abbrev pub fault_in : List Part → List (List ℕ) → Option TextKind
fault_in form words = numbers_fault (numbers_in form words) (values_fault (values_in form words))

-- one step after another

pub step_fault : {A B : Type 0} (r : Result A TextKind) (f : A → Result B TextKind) (later : Option TextKind) → ((x : A) → fault_of (f x) ≡ later) → fault_of (r >>= f) ≡ or_fault (fault_of r) later
step_fault (Ok x) f later h = h x
step_fault (Err kind) f later h = refl

pub last_fault : {A B : Type 0} (r : Result A TextKind) (f : A → Result B TextKind) → ((x : A) → fault_of (f x) ≡ None) → fault_of (r >>= f) ≡ fault_of r
last_fault (Ok x) f h = h x
last_fault (Err kind) f h = refl

pub or_none : (o : Option TextKind) → o ≡ or_fault o None
or_none None = refl
or_none (Some kind) = refl

pub all_numbers_fault : (words : List (List ℕ)) → fault_of (numbers_of words) ≡ numbers_fault words None
unfolding numbers_of
all_numbers_fault [] = refl
all_numbers_fault (word ∷ words) =
    step_fault (number_of word) (λ n. numbers_of words >>= λ ns. Ok (n ∷ ns)) (numbers_fault words None)
    (λ n. last_fault (numbers_of words) (λ ns. Ok (n ∷ ns)) (λ ns. refl) ∙ all_numbers_fault words)

-- what the faults of words say

abbrev pub NoNumber : List ℕ → Type 0
NoNumber word = ¬ ((n : ℕ) × IsNumber word n)

abbrev pub NoHex : List ℕ → Type 0
NoHex word = ¬ ((bytes : List ℕ) × IsHex word bytes)

any_none : {X : Type 0} (P : X → Type 0) → ¬ Any P []
any_none P any = absurd (omega (arith, any.2))

any_here : {X : Type 0} (P : X → Type 0) (x : X) (xs : List X) → P x → Any P (x ∷ xs)
any_here P x xs p = (0, x, omega arith, refl, p)

any_later : {X : Type 0} (P : X → Type 0) (x : X) (xs : List X) → Any P xs → Any P (x ∷ xs)
any_later P x xs any = (suc any.0, any.1, omega (arith, any.2), any.3, any.4)

any_cases : {X : Type 0} (P : X → Type 0) (x : X) (xs : List X) → Any P (x ∷ xs) → P x ⊎ Any P xs
any_cases P x xs (zero, y, inside, is, p) = inl (subst P (sym is) p)
any_cases P x xs (suc k, y, inside, is, p) = inr (k, y, omega arith, is, p)

-- a word isn't as it should be, and this is the fault; or all are, and the fault is a later one
abbrev pub Shows : (List ℕ → Type 0) → TextKind → List (List ℕ) → Option TextKind → Option TextKind → Type 0
Shows Bad kind words later fault = ((fault ≡ Some kind) × Any Bad words) ⊎ ((fault ≡ later) × (¬ Any Bad words))

shows_none : (Bad : List ℕ → Type 0) (kind : TextKind) (later : Option TextKind) → Shows Bad kind [] later later
shows_none Bad kind later = inr (refl, any_none Bad)

shows_here : (Bad : List ℕ → Type 0) (kind : TextKind) (word : List ℕ) (words : List (List ℕ)) (later : Option TextKind) → Bad word → Shows Bad kind (word ∷ words) later (Some kind)
shows_here Bad kind word words later bad = inl (refl, any_here Bad word words bad)

shows_later : (Bad : List ℕ → Type 0) (kind : TextKind) (word : List ℕ) (words : List (List ℕ)) (later fault : Option TextKind) → ¬ Bad word → Shows Bad kind words later fault → Shows Bad kind (word ∷ words) later fault
shows_later Bad kind word words later fault good (inl found) = inl (found.0, any_later Bad word words found.1)
shows_later Bad kind word words later fault good (inr none) = inr (none.0, λ any. ⊎_elim good none.1 (any_cases Bad word words any))

ok_or_err : {A : Type 0} (r : Result A TextKind) (x : A) (kind : TextKind) → r ≡ Ok x → r ≡ Err kind → ⊥
ok_or_err (Ok y) x kind ok err = cc err
ok_or_err (Err other) x kind ok err = cc ok

number_shows : (word : List ℕ) (words : List (List ℕ)) (later fault : Option TextKind) (r : Result ℕ TextKind) → number_of word ≡ r
    → Shows NoNumber Number words later fault → Shows NoNumber Number (word ∷ words) later (or_fault (fault_of r) fault)
number_shows word words later fault (Ok n) is shows = shows_later NoNumber Number word words later fault (λ none. none (n, number_is word n is)) shows
number_shows word words later fault (Err kind) is shows =
    rw (no_number_fault word kind is) (shows_here NoNumber Number word words later (λ number. ok_or_err (number_of word) number.0 kind (number_reads word number.0 number.1) is))

pub numbers_show : (words : List (List ℕ)) (later : Option TextKind) → Shows NoNumber Number words later (numbers_fault words later)
numbers_show [] later = shows_none NoNumber Number later
numbers_show (word ∷ words) later = number_shows word words later (numbers_fault words later) (number_of word) refl (numbers_show words later)

hex_shows : (word : List ℕ) (words : List (List ℕ)) (fault : Option TextKind) (r : Result (List ℕ) TextKind) → hex_of word ≡ r
    → Shows NoHex Hex words None fault → Shows NoHex Hex (word ∷ words) None (or_fault (fault_of r) fault)
hex_shows word words fault (Ok bytes) is shows = shows_later NoHex Hex word words None fault (λ none. none (bytes, hex_is word bytes is)) shows
hex_shows word words fault (Err kind) is shows =
    rw (no_hex_fault word kind is) (shows_here NoHex Hex word words None (λ hex. ok_or_err (hex_of word) hex.0 kind (hex_reads word hex.0 hex.1) is))

pub values_show : (words : List (List ℕ)) → Shows NoHex Hex words None (values_fault words)
values_show [] = shows_none NoHex Hex None
values_show (word ∷ words) = hex_shows word words (values_fault words) (hex_of word) refl (values_show words)

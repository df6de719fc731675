-- Numbers read one word after another.
use Rattle.std.proofs.Common.{◌≡◌, ℕ, List, [], ◌∷◌, ◌++◌, Result, Ok, Err, refl, sym, ap, ◌∙◌, append_assoc}
use Rattle.std.proofs.lemmas.List.{append-nil}
use Rattle.tao_text.specs.declared.faults.TextKind.{TextKind}
use Rattle.tao_text.specs.Forms.{◌>>=◌, numbers_of}
use Rattle.tao_text.specs.Values.{number_of}

-- the numbers that were read before, and those that are still read
abbrev pub with_front : List ℕ → Result (List ℕ) TextKind → Result (List ℕ) TextKind
with_front front read = read >>= λ rest. Ok (front ++ rest)

with_one_more : (front : List ℕ) (n : ℕ) (read : Result (List ℕ) TextKind) → with_front (front ++ n ∷ []) read ≡ with_front front (read >>= λ ns. Ok (n ∷ ns))
with_one_more front n (Ok ns) = ap Ok (append_assoc front (n ∷ []) ns)
with_one_more front n (Err kind) = refl

pub with_none : (read : Result (List ℕ) TextKind) → with_front [] read ≡ read
with_none (Ok ns) = refl
with_none (Err kind) = refl

pub goes_on : (front : List ℕ) (parts more : List (List ℕ)) (word : List ℕ) (n : ℕ) (all : Result (List ℕ) TextKind) → parts ≡ word ∷ more → number_of word ≡ Ok n
    → with_front front (numbers_of parts) ≡ all → with_front (front ++ n ∷ []) (numbers_of more) ≡ all
unfolding numbers_of
goes_on front parts more word n all first number so_far = with_one_more front n (numbers_of more) ∙ sym (rw (first, number) refl) ∙ so_far

pub stops : (front : List ℕ) (parts more : List (List ℕ)) (word : List ℕ) (kind : TextKind) (all : Result (List ℕ) TextKind) → parts ≡ word ∷ more → number_of word ≡ Err kind
    → with_front front (numbers_of parts) ≡ all → all ≡ Err kind
unfolding numbers_of
stops front parts more word kind all first number so_far = sym so_far ∙ rw (first, number) refl

pub is_done : (front : List ℕ) (parts : List (List ℕ)) (all : Result (List ℕ) TextKind) → parts ≡ [] → with_front front (numbers_of parts) ≡ all → all ≡ Ok front
unfolding numbers_of
is_done front parts all none so_far = sym so_far ∙ rw none (ap Ok (append-nil front))

-- The lines of a text and the words of a line.
use Rattle.std.proofs.Common.{◌≡◌, ◌≢◌, ◌==◌, inl, inr, ℕ, ◌<◌, Bool, true, List, [], ◌∷◌, ◌++◌, length, get_or, filter, refl, ap, ◌∙◌, arith}
use Rattle.std.specs.Prelude.{All}
use Rattle.std.specs.List.{AllByRecursion, slice_split, onto_first}
use Rattle.std.proofs.lemmas.Bool.{cases_Bool, ne_eqb}
use Rattle.std.proofs.lemmas.List.Elements.{filter-append, recursion_from_All}
use Rattle.std.proofs.lemmas.List.Splits.{length-slice_split, slice_split_at, slice_split_none, slice_split-cons_yes, slice_split-cons_no}
use Rattle.tao_text.specs.Spelling.{IsWord, spelled}
use Rattle.tao_text.specs.Words.{has_bytes, lines, words, without_empty_end}

-- the words of a line

with_first_kept : (b : ℕ) (parts more : List (List ℕ)) → 0 < length parts → onto_first b (parts ++ more) ≡ onto_first b parts ++ more
with_first_kept b [] more some = absurd (omega arith)
with_first_kept b (first ∷ rest) more some = refl

-- a byte that ends a part ends it
split_append : (p : ℕ → Bool) (front : List ℕ) (b : ℕ) (rest : List ℕ) → p b ≡ true → slice_split p (front ++ b ∷ rest) ≡ slice_split p front ++ slice_split p rest
split_append p [] b rest h = slice_split-cons_yes p b rest h
split_append p (x ∷ front) b rest h =
    elim (cases_Bool (p x)) [
      | inl ends ↦ slice_split-cons_yes p x (front ++ b ∷ rest) ends ∙ rw (split_append p front b rest h, slice_split-cons_yes p x front ends) refl
      | inr goes ↦
          slice_split-cons_no p x (front ++ b ∷ rest) goes
          ∙ rw (split_append p front b rest h, slice_split-cons_no p x front goes) (with_first_kept x (slice_split p front) (slice_split p rest) (omega (arith, length-slice_split p front)))
    ]

pub words_of_two : (front rest : List ℕ) → words (front ++ 32 ∷ rest) ≡ words front ++ words rest
unfolding words
words_of_two front rest = ap (filter has_bytes) (split_append (λ b. b == 32) front 32 rest refl) ∙ filter-append has_bytes (slice_split (λ b. b == 32) front) (slice_split (λ b. b == 32) rest)

one_word : (word : List ℕ) → 0 < length word → filter has_bytes (word ∷ []) ≡ word ∷ []
one_word [] some = absurd (omega arith)
one_word (b ∷ bytes) some = refl

pub words_of_one : (word : List ℕ) → 0 < length word → All (λ b. b ≢ 32) word → words word ≡ word ∷ []
unfolding words
words_of_one word some bytes =
    ap (filter has_bytes) (slice_split_none (λ b. b == 32) word (λ k d h. ne_eqb (get_or word k d) 32 (bytes k d h))) ∙ one_word word some

unspaced : (word : List ℕ) → IsWord word → All (λ b. b ≢ 32) word
unspaced word is = λ k d h e. let p = is.bytes k d h in omega (arith, p.0, e)

words_each : (ws : List (List ℕ)) → AllByRecursion IsWord ws → words (spelled ws) ≡ ws
unfolding words
words_each [] each = refl
words_each (word ∷ []) each = words_of_one word each.0.some (unspaced word each.0)
words_each (word ∷ next ∷ ws) each =
    words_of_two word (spelled (next ∷ ws)) ∙ rw (words_of_one word each.0.some (unspaced word each.0), words_each (next ∷ ws) each.1) refl

pub words_spelled : (ws : List (List ℕ)) → All IsWord ws → words (spelled ws) ≡ ws
words_spelled ws each = words_each ws (recursion_from_All IsWord ws each)

-- the lines of a text

kept_first : (part : List ℕ) (parts : List (List ℕ)) → 0 < length parts → without_empty_end (part ∷ parts) ≡ part ∷ without_empty_end parts
kept_first part [] h = absurd (omega arith)
kept_first part (next ∷ rest) h = refl

pub lines_of_two : (line rest : List ℕ) → All (λ b. b ≢ 10) line → lines (line ++ 10 ∷ rest) ≡ line ∷ lines rest
unfolding lines
lines_of_two line rest bytes =
    ap without_empty_end (slice_split_at (λ b. b == 10) line 10 rest (λ k d h. ne_eqb (get_or line k d) 10 (bytes k d h)) refl)
    ∙ kept_first line (slice_split (λ b. b == 10) rest) (omega (arith, length-slice_split (λ b. b == 10) rest))

one_line : (line : List ℕ) → 0 < length line → without_empty_end (line ∷ []) ≡ line ∷ []
one_line [] some = absurd (omega arith)
one_line (b ∷ bytes) some = refl

pub lines_of_one : (line : List ℕ) → 0 < length line → All (λ b. b ≢ 10) line → lines line ≡ line ∷ []
unfolding lines
lines_of_one line some bytes =
    ap without_empty_end (slice_split_none (λ b. b == 10) line (λ k d h. ne_eqb (get_or line k d) 10 (bytes k d h))) ∙ one_line line some

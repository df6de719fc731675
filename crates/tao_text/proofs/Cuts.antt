-- A text or a line, split at the first byte that ends a part.
use Rattle.std.proofs.Common.{◌≡◌, ◌==◌, ℕ, ◌+◌, ◌<◌, ◌⊎◌, inl, inr, Bool, true, false, cond, List, [], ◌∷◌, length, refl, sym, ap, ◌∙◌, subst, arith, length-drop}
use Rattle.std.specs.List.{slice_split, before_first, after_first, position_or_len}
use Rattle.std.proofs.lemmas.Bool.{cases_lt}
use Rattle.std.proofs.lemmas.List.{drop_all, take_all}
use Rattle.std.proofs.lemmas.List.Splits.{slice_split_first, slice_split_none, length-slice_split}
use Rattle.std.proofs.lemmas.List.Sums.{fails_before_first}
use Rattle.tao_text.specs.Words.{lines, words, has_bytes, without_empty_end}

pub after_shorter : (p : ℕ → Bool) (xs : List ℕ) → 0 < length xs → length (after_first p xs) < length xs
after_shorter p xs h = omega (arith, length-drop (position_or_len p xs + 1) xs)

-- where it is split: at an element that passes, or at the end
record IsCut (p : ℕ → Bool) (xs : List ℕ) : Type 0 where
  split : slice_split p xs ≡ before_first p xs ∷ slice_split p (after_first p xs)

record IsWhole (p : ℕ → Bool) (xs : List ℕ) : Type 0 where
  split : slice_split p xs ≡ xs ∷ []
  front : before_first p xs ≡ xs
  back : after_first p xs ≡ []

cut_or_whole : (p : ℕ → Bool) (xs : List ℕ) → IsCut p xs ⊎ IsWhole p xs
cut_or_whole p xs =
    elim (cases_lt (position_or_len p xs) (length xs)) [
      | inl some ↦ inl (record { split = slice_split_first p xs 0 some })
      | inr none ↦ inr (record {
        split = slice_split_none p xs (λ k d h. fails_before_first p xs k d (omega arith));
        front = take_all (position_or_len p xs) xs none;
        back = drop_all (position_or_len p xs + 1) xs (omega arith);
      })
    ]

-- a first part stays if others follow
kept_first : (part : List ℕ) (parts : List (List ℕ)) → 0 < length parts → without_empty_end (part ∷ parts) ≡ part ∷ without_empty_end parts
kept_first part [] h = absurd (omega arith)
kept_first part (next ∷ rest) h = refl

some_parts : (p : ℕ → Bool) (xs : List ℕ) → 0 < length (slice_split p xs)
some_parts p xs = omega (arith, length-slice_split p xs)

kept_last : (last : List ℕ) → 0 < length last → without_empty_end (last ∷ []) ≡ last ∷ []
kept_last [] h = absurd (omega arith)
kept_last (b ∷ bytes) h = refl

pub lines_none : (text : List ℕ) → length text ≡ 0 → lines text ≡ []
unfolding lines
lines_none [] h = refl
lines_none (b ∷ bytes) h = absurd (omega arith)

pub lines_cut : (text : List ℕ) → 0 < length text → lines text ≡ before_first (λ b. b == 10) text ∷ lines (after_first (λ b. b == 10) text)
unfolding lines
lines_cut text h =
    elim (cut_or_whole (λ b. b == 10) text) [
      | inl cut ↦ ap without_empty_end cut.split ∙ kept_first (before_first (λ b. b == 10) text) (slice_split (λ b. b == 10) (after_first (λ b. b == 10) text)) (some_parts (λ b. b == 10) (after_first (λ b. b == 10) text))
      | inr whole ↦ rw (whole.split, whole.front, whole.back) (kept_last text h)
    ]

pub words_none : (line : List ℕ) → length line ≡ 0 → words line ≡ []
unfolding words
words_none [] h = refl
words_none (b ∷ bytes) h = absurd (omega arith)

words_cut : (line : List ℕ) → words line ≡ cond (has_bytes (before_first (λ b. b == 32) line)) (before_first (λ b. b == 32) line ∷ words (after_first (λ b. b == 32) line)) (words (after_first (λ b. b == 32) line))
unfolding words
words_cut line =
    elim (cut_or_whole (λ b. b == 32) line) [
      | inl cut ↦ rw cut.split refl
      | inr whole ↦ rw (whole.split, whole.front, whole.back) refl
    ]

some_bytes : (word : List ℕ) → 0 < length word → has_bytes word ≡ true
some_bytes [] h = absurd (omega arith)
some_bytes (b ∷ bytes) h = refl

no_bytes : (word : List ℕ) → length word ≡ 0 → has_bytes word ≡ false
no_bytes [] h = refl
no_bytes (b ∷ bytes) h = absurd (omega arith)

pub words_more : (line word rest : List ℕ) → word ≡ before_first (λ b. b == 32) line → rest ≡ after_first (λ b. b == 32) line → 0 < length word → words line ≡ word ∷ words rest
words_more line word rest front back some = rw (front, back) (words_cut line ∙ rw (some_bytes (before_first (λ b. b == 32) line) (subst (λ (w : List ℕ). 0 < length w) front some)) refl)

pub words_after_space : (line word rest : List ℕ) → word ≡ before_first (λ b. b == 32) line → rest ≡ after_first (λ b. b == 32) line → length word ≡ 0 → words line ≡ words rest
words_after_space line word rest front back none = rw back (words_cut line ∙ rw (no_bytes (before_first (λ b. b == 32) line) (sym (ap length front) ∙ none)) refl)

-- Texts of numbers in order: one number more appends one text.
use Rattle.std.proofs.Common.{◌≡◌, ℕ, ◌+◌, ◌-◌, ◌≤◌, arith, List, [], ◌∷◌, ◌++◌, map, flat_map, sym, ap, ◌∙◌, append_assoc, append-nil}
use Rattle.std.specs.List.{range_with_len}
use Rattle.std.proofs.lemmas.Grind.{flat_map-append}
use Rattle.std.proofs.lemmas.List.Folds.{flat_map-map}
use Rattle.std.proofs.lemmas.List.FromFn.{map-range_with_len_more}

pub texts_more : (f : ℕ → List ℕ) (a n j : ℕ) → a + n ≡ j → flat_map f (range_with_len a (n + 1)) ≡ flat_map f (range_with_len a n) ++ f j
texts_more f a n j at = sym (flat_map-map (λ (text : List ℕ). text) f (range_with_len a (n + 1)))
    ∙ ap (flat_map (λ (text : List ℕ). text)) (map-range_with_len_more f a n j at)
    ∙ flat_map-append (λ (text : List ℕ). text) (map f (range_with_len a n)) (f j ∷ [])
    ∙ ap (λ (front : List ℕ). front ++ (f j ++ [])) (flat_map-map (λ (text : List ℕ). text) f (range_with_len a n))
    ∙ ap (λ (back : List ℕ). flat_map f (range_with_len a n) ++ back) (append-nil (f j))

-- the loop's form: the texts so far stand behind what was there before
pub appended_more : (f : ℕ → List ℕ) (out new old : List ℕ) (a n j : ℕ) → a + n ≡ j → new ≡ old ++ f j → old ≡ out ++ flat_map f (range_with_len a n) → new ≡ out ++ flat_map f (range_with_len a (n + 1))
appended_more f out new old a n j at one before = one ∙ ap (λ (text : List ℕ). text ++ f j) before ∙ append_assoc out (flat_map f (range_with_len a n)) (f j)
    ∙ ap (λ (text : List ℕ). out ++ text) (sym (texts_more f a n j at))

-- two pieces appended one after another
pub two_pieces : (out mid new one two all : List ℕ) → mid ≡ out ++ one → new ≡ mid ++ two → one ++ two ≡ all → new ≡ out ++ all
two_pieces out mid new one two all a b c = b ∙ ap (λ (text : List ℕ). text ++ two) a ∙ append_assoc out one two ∙ ap (λ (text : List ℕ). out ++ text) c

-- the same, for numbers from `a` up to `j`
pub up_to_more : (f : ℕ → List ℕ) (out new old : List ℕ) (a j : ℕ) → a ≤ j → new ≡ old ++ f j → old ≡ out ++ flat_map f (range_with_len a (j - a)) → new ≡ out ++ flat_map f (range_with_len a (j + 1 - a))
up_to_more f out new old a j low one before = appended_more f out new old a (j - a) j (omega arith) one before ∙ ap (λ (n : ℕ). out ++ flat_map f (range_with_len a n)) (omega arith)

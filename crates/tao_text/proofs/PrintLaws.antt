-- Printed lines are words joined by single spaces.
use Rattle.std.proofs.Common.{◌≡◌, ℕ, List, [], ◌∷◌, ◌++◌, map, refl, sym, ap, ◌∙◌, append_assoc}
use Rattle.std.specs.Prelude.{decimal, flat_map}
use Rattle.std.proofs.lemmas.List.{append-nil}
use Rattle.hex.specs.Hex.{encode_lower}
use Rattle.tao_base.specs.Lines.{hex_line, spaced, spaced_hex, words_line}
use Rattle.tao_text.specs.Spelling.{spelled, spelled_line}

-- words after the first, each after a space
abbrev further : List (List ℕ) → List ℕ
further ws = flat_map (λ (w : List ℕ). 32 ∷ w) ws

spelled_is : (word : List ℕ) (ws : List (List ℕ)) → spelled (word ∷ ws) ≡ word ++ further ws
spelled_is word [] = sym (append-nil word)
spelled_is word (next ∷ ws) = ap (λ (text : List ℕ). word ++ 32 ∷ text) (spelled_is next ws)

numbers_further : (numbers : List ℕ) → flat_map spaced numbers ≡ further (map decimal numbers)
unfolding spaced
numbers_further [] = refl
numbers_further (n ∷ numbers) = ap (λ (text : List ℕ). spaced n ++ text) (numbers_further numbers)

more_further : (ws : List (List ℕ)) (word : List ℕ) → further (ws ++ word ∷ []) ≡ further ws ++ 32 ∷ word
more_further [] word = ap (λ (text : List ℕ). 32 ∷ text) (append-nil word)
more_further (next ∷ ws) word = ap (λ (text : List ℕ). (32 ∷ next) ++ text) (more_further ws word) ∙ sym (append_assoc (32 ∷ next) (further ws) (32 ∷ word))

pub words_line_is : (word numbers : List ℕ) → words_line word numbers ≡ spelled_line (word ∷ map decimal numbers)
unfolding words_line
words_line_is word numbers =
    ap (λ (text : List ℕ). word ++ text ++ 10 ∷ []) (numbers_further numbers) ∙ ap (λ (text : List ℕ). text ++ 10 ∷ []) (sym (spelled_is word (map decimal numbers)))

pub hex_line_is : (word numbers value : List ℕ) → hex_line word numbers value ≡ spelled_line ((word ∷ map decimal numbers) ++ encode_lower value ∷ [])
unfolding hex_line spaced_hex
hex_line_is word numbers value =
    let text : word ++ flat_map spaced numbers ++ 32 ∷ encode_lower value ≡ spelled (word ∷ (map decimal numbers ++ encode_lower value ∷ [])) =
    append_assoc word (flat_map spaced numbers) (32 ∷ encode_lower value)
    ∙ ap (λ (rest : List ℕ). word ++ (rest ++ 32 ∷ encode_lower value)) (numbers_further numbers)
    ∙ ap (λ (rest : List ℕ). word ++ rest) (sym (more_further (map decimal numbers) (encode_lower value)))
    ∙ sym (spelled_is word (map decimal numbers ++ encode_lower value ∷ []))
    in
    ap (λ (t : List ℕ). t ++ 10 ∷ []) text

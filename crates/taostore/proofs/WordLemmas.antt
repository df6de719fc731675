-- One word as bytes; and words ask to play or are refused.
use Rattle.std.proofs.Common.{◌≡◌, ◌⊎◌, inl, inr, ◌<◌, ◌≤◌, ℕ, List, [], ◌∷◌, Bool, codes, length, map, get_or, IsTrue, string_bytes, Global, String, sym, ap, ◌∙◌, arith}
use Rattle.std.specs.Str.{bytes_eq}
use Rattle.std.proofs.lemmas.Bool.{cases_Bool}
use Rattle.std.proofs.lemmas.Slice.Eq.{bytes_eq-Decides}
use Rattle.taostore.specs.Words.{AskToPlay, AreRefused}

-- the bytes of a list of one word
one_word : (words : List (String Global)) (word : String Global) → 1 ≤ length words → length words < 2 → word ≡ get_or words 0 word
    → map string_bytes words ≡ string_bytes word ∷ []
one_word [] word some one same = absurd (omega arith)
one_word (w ∷ []) word some one same = ap (λ x. string_bytes x ∷ []) (sym same)
one_word (w ∷ v ∷ ws) word some one same = absurd (omega arith)

-- the one word has this text, just where the list has this text alone
pub is_one_word : (words : List (String Global)) (word : String Global) (encoded text : List ℕ) (same : Bool) → 1 ≤ length words → length words < 2
    → word ≡ get_or words 0 word → encoded ≡ string_bytes word → same ≡ bytes_eq encoded text
    → (IsTrue same → map string_bytes words ≡ text ∷ []) × (map string_bytes words ≡ text ∷ [] → IsTrue same)
is_one_word words word encoded text same some one item bytes test =
    let decides = bytes_eq-Decides encoded text in
    let list : map string_bytes words ≡ encoded ∷ [] = one_word words word some one item ∙ ap (λ x. x ∷ []) (sym bytes) in
    (λ yes. list ∙ ap (λ x. x ∷ []) (decides.0 (sym test ∙ yes)), λ asked. test ∙ decides.1 (cc))

-- words ask to play or are refused
pub asked_or_refused : (words : List (List ℕ)) → AskToPlay words ⊎ AreRefused words
asked_or_refused [] = inr (λ asked. cc asked)
asked_or_refused (word ∷ []) =
    let decides = bytes_eq-Decides word (codes "play") in
    elim (cases_Bool (bytes_eq word (codes "play"))) [
      | inl same ↦ inl (ap (λ w. w ∷ []) (decides.0 same))
      | inr other ↦ inr (λ asked. let is : word ≡ codes "play" = cc asked in cc (sym other ∙ decides.1 is))
    ]
asked_or_refused (word ∷ other ∷ words) = inr (λ asked. cc asked)

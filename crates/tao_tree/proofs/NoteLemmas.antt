-- One more note of a call.
use Rattle.std.proofs.Common.{◌≡◌, ℕ, ◌+◌, ◌-◌, ◌*◌, ◌≤◌, List, [], ◌∷◌, ◌++◌, length, take, drop, refl, sym, ap, ap₂, ◌∙◌, arith}
use Rattle.std.proofs.lemmas.List.{take-append-le, drop-append-le, length-append, length-drop, take_all}
use Rattle.std.proofs.Math.Nat.{add-mul}
use Rattle.tao_base.specs.Links.{told}
use Rattle.tao_base.specs.declared.links.Asked.{Asked}
use Rattle.tao_base.specs.declared.links.Asked.TheVariants.{Fetch, Store}
use Rattle.tao_tree.specs.Ledgers.{LedgerState, AreNoted, asked_in, noted_nodes, noted_bytes}
use Rattle.tao_tree.specs.declared.ledger.Note.{Note}
use Rattle.tao_tree.specs.declared.ledger.Note.TheVariants.{Fetched, Sent}

abbrev pub state : ℕ → ℕ → List Asked → List (List ℕ) → List ℕ → ℕ → ℕ → LedgerState
state path_len bucket_len asked answers stored calls buckets = record { told = told asked answers stored; calls = calls; buckets = buckets; path_len = path_len; bucket_len = bucket_len }

pub asked_fetch : (notes : List Note) (id leaf : ℕ) (nodes images : List ℕ) → asked_in (notes ++ Fetched id leaf ∷ []) nodes images ≡ asked_in notes nodes images ++ Fetch id leaf ∷ []
asked_fetch [] id leaf nodes images = refl
asked_fetch (Fetched i w ∷ notes) id leaf nodes images = ap (λ rest. Fetch i w ∷ rest) (asked_fetch notes id leaf nodes images)
asked_fetch (Sent v n k m ∷ notes) id leaf nodes images = ap (λ rest. Store v n (take k nodes) (take m images) ∷ rest) (asked_fetch notes id leaf (drop k nodes) (drop m images))

fetch_nodes : (notes : List Note) (id leaf : ℕ) → noted_nodes (notes ++ Fetched id leaf ∷ []) ≡ noted_nodes notes
fetch_nodes [] id leaf = refl
fetch_nodes (Fetched i w ∷ notes) id leaf = fetch_nodes notes id leaf
fetch_nodes (Sent v n k m ∷ notes) id leaf = ap (λ rest. k + rest) (fetch_nodes notes id leaf)

fetch_bytes : (notes : List Note) (id leaf : ℕ) → noted_bytes (notes ++ Fetched id leaf ∷ []) ≡ noted_bytes notes
fetch_bytes [] id leaf = refl
fetch_bytes (Fetched i w ∷ notes) id leaf = fetch_bytes notes id leaf
fetch_bytes (Sent v n k m ∷ notes) id leaf = ap (λ rest. m + rest) (fetch_bytes notes id leaf)

pub noted_fetch : (notes now : List Note) (id leaf : ℕ) (nodes images : List ℕ) → now ≡ notes ++ Fetched id leaf ∷ [] → AreNoted notes nodes images → AreNoted now nodes images
noted_fetch notes now id leaf nodes images more before = record {
  nodes_all = before.nodes_all ∙ sym (ap noted_nodes more ∙ fetch_nodes notes id leaf);
  bytes_all = before.bytes_all ∙ sym (ap noted_bytes more ∙ fetch_bytes notes id leaf);
}

asked_sent : (notes : List Note) (version nonce : ℕ) (nodes images more bytes : List ℕ) → length nodes ≡ noted_nodes notes → length images ≡ noted_bytes notes
    → asked_in (notes ++ Sent version nonce (length more) (length bytes) ∷ []) (nodes ++ more) (images ++ bytes) ≡ asked_in notes nodes images ++ Store version nonce more bytes ∷ []
asked_sent [] version nonce [] [] more bytes h k = ap₂ (λ a b. Store version nonce a b ∷ []) (take_all (length more) more (omega arith)) (take_all (length bytes) bytes (omega arith))
asked_sent [] version nonce [] (b ∷ bs) more bytes h k = absurd (omega arith)
asked_sent [] version nonce (n ∷ ns) images more bytes h k = absurd (omega arith)
asked_sent (Fetched i w ∷ notes) version nonce nodes images more bytes h k = ap (λ rest. Fetch i w ∷ rest) (asked_sent notes version nonce nodes images more bytes h k)
asked_sent (Sent v n c m ∷ notes) version nonce nodes images more bytes h k =
    let few : c ≤ length nodes = omega arith in
    let small : m ≤ length images = omega arith in
    let nodes_left : length (drop c nodes) ≡ noted_nodes notes = length-drop c nodes ∙ omega arith in
    let bytes_left : length (drop m images) ≡ noted_bytes notes = length-drop m images ∙ omega arith in
    ap₂ (λ a b. Store v n a b ∷ asked_in (notes ++ Sent version nonce (length more) (length bytes) ∷ []) (drop c (nodes ++ more)) (drop m (images ++ bytes))) (take-append-le c nodes more few) (take-append-le m images bytes small)
    ∙ ap₂ (λ a b. Store v n (take c nodes) (take m images) ∷ asked_in (notes ++ Sent version nonce (length more) (length bytes) ∷ []) a b) (drop-append-le c nodes more few) (drop-append-le m images bytes small)
    ∙ ap (λ rest. Store v n (take c nodes) (take m images) ∷ rest) (asked_sent notes version nonce (drop c nodes) (drop m images) more bytes nodes_left bytes_left)

sent_nodes : (notes : List Note) (version nonce count len : ℕ) → noted_nodes (notes ++ Sent version nonce count len ∷ []) ≡ noted_nodes notes + count
sent_nodes [] version nonce count len = omega arith
sent_nodes (Fetched i w ∷ notes) version nonce count len = sent_nodes notes version nonce count len
sent_nodes (Sent v n k m ∷ notes) version nonce count len = let rest = sent_nodes notes version nonce count len in omega (arith, rest)

sent_bytes : (notes : List Note) (version nonce count len : ℕ) → noted_bytes (notes ++ Sent version nonce count len ∷ []) ≡ noted_bytes notes + len
sent_bytes [] version nonce count len = omega arith
sent_bytes (Fetched i w ∷ notes) version nonce count len = sent_bytes notes version nonce count len
sent_bytes (Sent v n k m ∷ notes) version nonce count len = let rest = sent_bytes notes version nonce count len in omega (arith, rest)

-- the notes, nodes and images with those of one more store
pub record WithStore (notes now : List Note) (version nonce : ℕ) (nodes images nodes_now images_now more bytes : List ℕ) : Type 0 where
  pub notes_more : now ≡ notes ++ Sent version nonce (length more) (length bytes) ∷ []
  pub nodes_more : nodes_now ≡ nodes ++ more
  pub bytes_more : images_now ≡ images ++ bytes

pub asked_store : (notes now : List Note) (version nonce : ℕ) (nodes images nodes_now images_now more bytes : List ℕ) → AreNoted notes nodes images → WithStore notes now version nonce nodes images nodes_now images_now more bytes
    → asked_in now nodes_now images_now ≡ asked_in notes nodes images ++ Store version nonce more bytes ∷ []
asked_store notes now version nonce nodes images nodes_now images_now more bytes before w =
    ap (λ n. asked_in n nodes_now images_now) w.notes_more
    ∙ ap₂ (asked_in (notes ++ Sent version nonce (length more) (length bytes) ∷ [])) w.nodes_more w.bytes_more
    ∙ asked_sent notes version nonce nodes images more bytes before.nodes_all before.bytes_all

pub noted_store : (notes now : List Note) (version nonce : ℕ) (nodes images nodes_now images_now more bytes : List ℕ) → AreNoted notes nodes images → WithStore notes now version nonce nodes images nodes_now images_now more bytes
    → AreNoted now nodes_now images_now
noted_store notes now version nonce nodes images nodes_now images_now more bytes before w = record {
  nodes_all = ap length w.nodes_more ∙ length-append nodes more ∙ ap (λ n. n + length more) before.nodes_all ∙ sym (ap noted_nodes w.notes_more ∙ sent_nodes notes version nonce (length more) (length bytes));
  bytes_all = ap length w.bytes_more ∙ length-append images bytes ∙ ap (λ n. n + length bytes) before.bytes_all ∙ sym (ap noted_bytes w.notes_more ∙ sent_bytes notes version nonce (length more) (length bytes));
}

-- the room for images that is left
pub images_left : (all some len : ℕ) → some ≤ all → some * len + (all - some) * len ≡ all * len
images_left all some len h = let sum : some + (all - some) ≡ all = omega arith in sym (add-mul some (all - some) len) ∙ ap (λ n. n * len) sum

-- Buckets that are stamped for a write-back.
use Rattle.std.proofs.Common.{◌≡◌, ℕ, ◌+◌, ◌<◌, ◌≤◌, List, [], ◌∷◌, ◌++◌, length, take, drop, map, All, set, get_or, refl, sym, ap, ap₂, ◌∙◌, subst, arith, zero-add}
use Rattle.std.specs.Prelude.{slice_index}
use Rattle.std.specs.List.{slice_index_or, range_with_len}
use Rattle.std.specs.List.Sorted.{IsStrictlyIncreasing}
use Rattle.std.proofs.lemmas.List.{length-map, get_or-map, same_lists, take_more_set, get_or-set_other, get_or_default, length-set, take_all, append-nil}
use Rattle.std.proofs.lemmas.List.{drop_all}
use Rattle.std.proofs.lemmas.List.Elements.{All-append, All-nil}
use Rattle.std.proofs.lemmas.List.FromFn.{get_or-map-range_with_len, length-map-range_with_len, map-range_with_len_more}
use Rattle.tao_base.specs.declared.storage.Bucket.{Bucket}
use Rattle.tao_base.specs.declared.storage.Entry.{Entry}
use Rattle.tao_base.specs.Limits.{Shape}
use Rattle.tao_base.specs.Buckets.{IsInForm}
use Rattle.tao_model.specs.Trace.{nodes_in}
use Rattle.tao_holdings.specs.Holding.{HoldingsState, is_held, contents_in}
use Rattle.tao_holdings.specs.Lists.{with_entries_of, with_buckets}
use Rattle.tao_holdings.proofs.Exchanged.{exchanged_back}
use Rattle.tao_processor.specs.Steps.{IsNodeOf, IsEmpty, stamp_at, stamps, HoldsAgain}

pub stamps_len : (nodes : List ℕ) (v n : ℕ) → length (stamps nodes v n) ≡ length nodes
stamps_len nodes v n = length-map-range_with_len (stamp_at nodes v n) 0 (length nodes)

pub stamp_there : (nodes : List ℕ) (v n k : ℕ) (d : Bucket) → k < length nodes → get_or (stamps nodes v n) k d ≡ stamp_at nodes v n k
stamp_there nodes v n k d low = get_or-map-range_with_len (stamp_at nodes v n) 0 (length nodes) k k d low (zero-add k)

-- what holds of each stamp holds of all
pub all_stamps : (P : Bucket → Type 0) (nodes : List ℕ) (v n : ℕ) → ((k : ℕ) → k < length nodes → P (stamp_at nodes v n k)) → All P (stamps nodes v n)
all_stamps P nodes v n each k d low =
    let small : k < length nodes = let long = stamps_len nodes v n in omega arith in
    subst (λ (b : Bucket). P b) (sym (stamp_there nodes v n k d small)) (each k small)

pub stamps_nodes : (nodes : List ℕ) (v n : ℕ) → nodes_in (stamps nodes v n) ≡ nodes
stamps_nodes nodes v n = same_lists (nodes_in (stamps nodes v n)) nodes (length-map (stamps nodes v n) (λ bucket. bucket.node) ∙ stamps_len nodes v n) (λ k d low.
    let long = length-map (stamps nodes v n) (λ bucket. bucket.node) in
    let some = stamps_len nodes v n in
    let small : k < length nodes = omega arith in
    let empty : Bucket = record { node = 0; version = 0; nonce = 0; entries = [] } in
    get_or-map (λ (bucket : Bucket). bucket.node) (stamps nodes v n) k empty d (omega arith) ∙ ap (λ (bucket : Bucket). bucket.node) (stamp_there nodes v n k empty small)
    ∙ get_or_default nodes k 0 d small)

pub nodes_stay : (c : ℕ → List Entry) (bs : List Bucket) → nodes_in (map (with_entries_of c) bs) ≡ nodes_in bs
nodes_stay c [] = refl
nodes_stay c (b ∷ bs) = ap (λ (ns : List ℕ). b.node ∷ ns) (nodes_stay c bs)

pub stamps_in_form : (s : Shape) (nodes : List ℕ) (v n : ℕ) → All (IsNodeOf s) nodes → All (IsInForm s) (stamps nodes v n)
stamps_in_form s nodes v n tree = all_stamps (IsInForm s) nodes v n (λ k low. record {
  low = (tree k 0 low).low;
  high = (tree k 0 low).high;
  entries = record { few = omega arith; rising = tt; ids = All-nil (λ entry. entry.id < s.n); values = All-nil (λ entry. length entry.value ≡ s.b) };
})

-- two exchanges leave all as it was
pub held_again : (bs bs1 : List Bucket) (h0 h1 h2 : HoldingsState) → IsStrictlyIncreasing (nodes_in bs) → bs1 ≡ map (with_entries_of (contents_in h0)) bs
    → is_held h1 ≡ is_held h0 → contents_in h1 ≡ with_buckets bs (contents_in h0) → h1 ≡ record h0 { nodes = h1.nodes }
    → is_held h2 ≡ is_held h1 → contents_in h2 ≡ with_buckets bs1 (contents_in h1) → h2 ≡ record h1 { nodes = h2.nodes } → HoldsAgain h0 h2
held_again bs bs1 h0 h1 h2 rising first held1 contents1 others1 held2 contents2 others2 = record {
  held = held2 ∙ held1;
  contents = contents2 ∙ ap₂ (λ (xs : List Bucket) (c : ℕ → List Entry). with_buckets xs c) first contents1 ∙ (exchanged_back bs (contents_in h0) rising).0;
  others = others2 ∙ ap (λ (st : HoldingsState). record st { nodes = h2.nodes }) others1;
}

-- and the buckets are empty again
pub empty_again : (bs bs1 bs2 rest : List Bucket) (nodes : List ℕ) (v n : ℕ) (h0 h1 : HoldingsState) → IsStrictlyIncreasing (nodes_in bs) → bs ≡ stamps nodes v n
    → bs1 ≡ map (with_entries_of (contents_in h0)) bs → contents_in h1 ≡ with_buckets bs (contents_in h0) → bs2 ≡ map (with_entries_of (contents_in h1)) bs1
    → All IsEmpty rest → All IsEmpty (bs2 ++ rest)
empty_again bs bs1 bs2 rest nodes v n h0 h1 rising stamped first contents second all =
    All-append IsEmpty bs2 rest
    (subst (λ (xs : List Bucket). All IsEmpty xs)
    (sym (second ∙ ap₂ (λ (c : ℕ → List Entry) (xs : List Bucket). map (with_entries_of c) xs) contents first ∙ (exchanged_back bs (contents_in h0) rising).1 ∙ stamped))
    (all_stamps IsEmpty nodes v n (λ k low. refl))) all

-- ---- the loop of stamps

pub stamp_more : (bs : List Bucket) (nodes : List ℕ) (v n i : ℕ) (es : List Entry) → i < length bs → take i bs ≡ map (stamp_at nodes v n) (range_with_len 0 i) → es ≡ []
    → take (i + 1) (set bs i (record { node = slice_index nodes i; version = v; nonce = n + i; entries = es })) ≡ map (stamp_at nodes v n) (range_with_len 0 (i + 1))
stamp_more bs nodes v n i es low done empty =
    take_more_set bs i (record { node = slice_index nodes i; version = v; nonce = n + i; entries = es }) low
    ∙ ap₂ (λ (xs : List Bucket) (e : List Entry). xs ++ (record { node = slice_index nodes i; version = v; nonce = n + i; entries = e }) ∷ []) done empty
    ∙ sym (map-range_with_len_more (stamp_at nodes v n) 0 i i (zero-add i))

pub rest_stays : (bs : List Bucket) (i : ℕ) (b : Bucket) → ((k : ℕ) (d : Bucket) → i ≤ k → k < length bs → IsEmpty (slice_index_or bs k d))
    → (k : ℕ) (d : Bucket) → i + 1 ≤ k → k < length (set bs i b) → IsEmpty (slice_index_or (set bs i b) k d)
rest_stays bs i b rest k d past low =
    let long = length-set bs i b in
    ap (λ (x : Bucket). x.entries) (get_or-set_other bs i k b d (omega arith)) ∙ rest k d (omega arith) (omega arith)

-- a whole list written back
pub whole_front : {X : Type 0} (n : ℕ) (xs ys : List X) → length xs ≡ length ys → n ≡ length ys → take n (xs ++ drop (length xs) ys) ≡ xs
whole_front {X} n xs ys same long =
    ap (λ (zs : List X). take n (xs ++ zs)) (drop_all (length xs) ys (omega arith)) ∙ ap (take n) (append-nil xs) ∙ take_all n xs (omega arith)

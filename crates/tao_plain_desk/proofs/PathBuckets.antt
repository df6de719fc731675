-- One more bucket of a path: gathered, stamped, stored.
use Rattle.std.proofs.Common.{◌≡◌, ℕ, ◌+◌, ◌-◌, ◌<◌, ◌≤◌, List, [], ◌∷◌, ◌++◌, length, map, take, get_or, set, All, refl, sym, ap, ap₂, ◌∙◌, subst, arith}
use Rattle.std.specs.List.{range_with_len}
use Rattle.std.proofs.lemmas.List.{take_more_set, map-set, set-get_or, take_all, get_or_default}
use Rattle.std.proofs.lemmas.List.FromFn.{map-range_with_len_more}
use Rattle.std.proofs.lemmas.List.Elements.{All-set, All-push}
use Rattle.tao_base.specs.declared.storage.Bucket.{Bucket}
use Rattle.tao_base.specs.Tree.{node_at, path}
use Rattle.tao_model.specs.Trace.{nodes_in}
use Rattle.tao_plain_desk.specs.Whole.{empty_bucket, empty_load}
use Rattle.tao_plain_desk.specs.Quiet.{AreEmpty, AreStamped, bucket_at, stamped}

-- what was gathered, to a depth
abbrev pub gathered : List Bucket → ℕ → ℕ → ℕ → List Bucket
gathered server l leaf depth = map (bucket_at server) (map (node_at l leaf) (range_with_len 0 depth))

map_append : {X Y : Type 0} (f : X → Y) (xs ys : List X) → map f (xs ++ ys) ≡ map f xs ++ map f ys
map_append f [] ys = refl
map_append f (x ∷ xs) ys = ap (λ rest. f x ∷ rest) (map_append f xs ys)

pub gathered_more : (server buckets : List Bucket) (l leaf depth : ℕ) (bucket : Bucket) → depth < length buckets → take depth buckets ≡ gathered server l leaf depth
    → bucket ≡ bucket_at server (node_at l leaf depth) → take (depth + 1) (set buckets depth bucket) ≡ gathered server l leaf (depth + 1)
gathered_more server buckets l leaf depth bucket within so_far is =
    take_more_set buckets depth bucket within ∙ ap₂ (λ front last. front ++ last ∷ []) so_far is
    ∙ sym (ap (map (bucket_at server)) (map-range_with_len_more (node_at l leaf) 0 depth depth (omega arith)) ∙ map_append (bucket_at server) (map (node_at l leaf) (range_with_len 0 depth)) (node_at l leaf depth ∷ []))

pub gathered_all : (server buckets : List Bucket) (l leaf : ℕ) → length buckets ≡ l + 1 → take (l + 1) buckets ≡ gathered server l leaf (l + 1)
    → buckets ≡ map (bucket_at server) (path l leaf)
gathered_all server buckets l leaf len done = sym (take_all (l + 1) buckets (omega arith)) ∙ done

-- what is stamped, to a place
pub record IsStampedTo (old buckets : List Bucket) (version nonce i : ℕ) : Type 0 where
  pub nodes : nodes_in buckets ≡ nodes_in old
  pub versions : All (λ bucket. bucket.version ≡ version) (take i buckets)
  pub nonces : map (λ bucket. bucket.nonce) (take i buckets) ≡ range_with_len nonce i
  pub empty : AreEmpty buckets

range_more : (a n : ℕ) → range_with_len a (n + 1) ≡ range_with_len a n ++ (a + n) ∷ []
range_more a n = sym (map_id (range_with_len a (n + 1))) ∙ map-range_with_len_more (λ x. x) a n (a + n) refl ∙ ap (λ xs. xs ++ (a + n) ∷ []) (map_id (range_with_len a n))
  where
    map_id : (xs : List ℕ) → map (λ x. x) xs ≡ xs
    map_id [] = refl
    map_id (x ∷ xs) = ap (λ ys. x ∷ ys) (map_id xs)

pub stamped_more : (old buckets : List Bucket) (version nonce i : ℕ) (d : Bucket) → i < length buckets → IsStampedTo old buckets version nonce i
    → IsStampedTo old (set buckets i (stamped (get_or buckets i d) version (nonce + i))) version nonce (i + 1)
stamped_more old buckets version nonce i d within s =
    let bucket = stamped (get_or buckets i d) version (nonce + i) in
    let front : take (i + 1) (set buckets i bucket) ≡ take i buckets ++ bucket ∷ [] = take_more_set buckets i bucket within in
    record {
      nodes = map-set (λ b. b.node) buckets i bucket ∙ ap (λ nodes. set nodes i bucket.node) refl ∙ same_node buckets i d within ∙ s.nodes;
      versions = subst (All (λ b. b.version ≡ version)) (sym front) (All-push (λ b. b.version ≡ version) (take i buckets) bucket s.versions refl);
      nonces = ap (map (λ b. b.nonce)) front ∙ map_append (λ b. b.nonce) (take i buckets) (bucket ∷ []) ∙ ap (λ xs. xs ++ (nonce + i) ∷ []) s.nonces ∙ sym (range_more nonce i);
      empty = All-set (λ b. b.entries ≡ []) buckets i bucket (s.empty i d within) s.empty;
    }
  where
    same_node : (buckets : List Bucket) (i : ℕ) (d : Bucket) → i < length buckets → set (nodes_in buckets) i (get_or buckets i d).node ≡ nodes_in buckets
    same_node buckets i d within = sym (map-set (λ b. b.node) buckets i (get_or buckets i d)) ∙ ap nodes_in (set-get_or buckets i d)

pub stamped_all : (old buckets : List Bucket) (version nonce : ℕ) → IsStampedTo old buckets version nonce (length buckets) → AreStamped (nodes_in old) version nonce buckets
stamped_all old buckets version nonce s =
    let whole : take (length buckets) buckets ≡ buckets = take_all (length buckets) buckets (omega arith) in
    record {
      nodes = s.nodes;
      versions = subst (All (λ b. b.version ≡ version)) whole s.versions;
      nonces = ap (map (λ b. b.nonce)) (sym whole) ∙ s.nonces;
      empty = s.empty;
    }

-- what is read of the server's list at a node
pub at_node : (server : List Bucket) (bucket : Bucket) (node at : ℕ) → node ≡ at → node - 1 < length server → bucket ≡ get_or server (node - 1) bucket → bucket ≡ bucket_at server at
at_node server bucket node at same within is =
    is ∙ get_or_default server (node - 1) bucket (empty_bucket 0 0 0) within ∙ ap (λ w. get_or server (w - 1) (empty_bucket 0 0 0)) same

-- one more bucket of the load
pub load_more : (buckets : List Bucket) (node : ℕ) → 1 ≤ node → buckets ≡ empty_load (node - 1) → buckets ++ empty_bucket node 0 node ∷ [] ≡ empty_load (node + 1 - 1)
load_more buckets node low is =
    let e : node + 1 - 1 ≡ node - 1 + 1 = omega arith in
    ap (λ front. front ++ empty_bucket node 0 node ∷ []) is ∙ sym (ap empty_load e ∙ map-range_with_len_more (λ w. empty_bucket w 0 w) 1 (node - 1) node (omega arith))

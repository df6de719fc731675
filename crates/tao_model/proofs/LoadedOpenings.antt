-- An opening's tree is the one load of its blocks.
use Rattle.std.proofs.Common.{◌≡◌, ℕ, zero, suc, ◌+◌, ◌<◌, ◌≤◌, List, [], ◌∷◌, map, length, All, Some, refl, sym, ap, ◌∙◌, subst, arith, nat_lt}
use Rattle.std.specs.List.{range_with_len}
use Rattle.std.proofs.lemmas.Bool.{ne_eqb, eq-eqb, ltb-true}
use Rattle.std.proofs.lemmas.Option.{cond_some}
use Rattle.std.proofs.lemmas.List.Elements.{All-head, All-tail, All-nil, All-cons, All-weaker}
use Rattle.tao_base.specs.declared.storage.Entry.{Entry}
use Rattle.tao_base.specs.declared.storage.Bucket.{Bucket}
use Rattle.tao_base.specs.Array.{block_at}
use Rattle.tao_base.specs.Tree.{node_count}
use Rattle.tao_model.specs.Placement.{IsPlaced, may_load, block_below, entries_at}
use Rattle.tao_model.specs.Trace.{nodes_in}
use Rattle.tao_model.specs.Requests.{leaf_at}
use Rattle.tao_base.specs.Buckets.{IsInForm}
use Rattle.tao_model.specs.Lawful.{OpensWithLoad}
use Rattle.tao_model.specs.Evictions.{load_contents, first_bucket}
use Rattle.tao_model.proofs.PlacedEntries.{entries_are_gathered}
use Rattle.tao_model.specs.Openings.{OneOpening, OpensSo}
use Rattle.tao_model.proofs.OneLoad.{load_pass, load_is_placed, one_load}

abbrev bucket_of_parts : ℕ → ℕ → ℕ → List Entry → Bucket
bucket_of_parts node version nonce entries = record { node = node; version = version; nonce = nonce; entries = entries }

same_bucket : (x : Bucket) (w : ℕ) (contents : ℕ → List Entry) → x.node ≡ w → x.version ≡ 0 → x.nonce ≡ w → x.entries ≡ contents w → x ≡ first_bucket contents w
same_bucket x w contents node version nonce entries =
    ap (λ n. bucket_of_parts n x.version x.nonce x.entries) node ∙ ap (λ v. bucket_of_parts w v x.nonce x.entries) version
    ∙ ap (λ n. bucket_of_parts w 0 n x.entries) nonce ∙ ap (λ es. bucket_of_parts w 0 w es) entries

cons_parts : {X : Type 0} (x y : X) (xs ys : List X) → x ∷ xs ≡ y ∷ ys → (x ≡ y) × (xs ≡ ys)
cons_parts x y xs ys h = (cc, cc)

nil_cons : {X : Type 0} (x : X) (xs : List X) → [] ≡ x ∷ xs → ⊥
nil_cons x xs h = cc

numbered_same : (bs : List Bucket) (contents : ℕ → List Entry) (n a : ℕ) → nodes_in bs ≡ range_with_len a n → All (λ bucket. bucket.version ≡ 0) bs
    → map (λ bucket. bucket.nonce) bs ≡ range_with_len a n → ((w : ℕ) → a ≤ w → entries_at bs w ≡ contents w) → bs ≡ map (first_bucket contents) (range_with_len a n)
numbered_same [] contents zero a nodes versions nonces entries = refl
numbered_same [] contents (suc n) a nodes versions nonces entries = absurd (nil_cons a (range_with_len (a + 1) n) nodes)
numbered_same (x ∷ xs) contents zero a nodes versions nonces entries = absurd (nil_cons x.node (nodes_in xs) (sym nodes))
numbered_same (x ∷ xs) contents (suc n) a nodes versions nonces entries =
    let at = cons_parts x.node a (nodes_in xs) (range_with_len (a + 1) n) nodes in
    let count = cons_parts x.nonce a (map (λ bucket. bucket.nonce) xs) (range_with_len (a + 1) n) nonces in
    let here : x.entries ≡ contents a = sym (rw (eq-eqb x.node a at.0) refl) ∙ entries a (omega arith) in
    let rest : xs ≡ map (first_bucket contents) (range_with_len (a + 1) n) =
    numbered_same xs contents n (a + 1) at.1 (All-tail (λ bucket. bucket.version ≡ 0) x xs versions) count.1
    (λ w later. sym (rw (ne_eqb x.node w (λ same. let is = at.0 in omega arith)) refl) ∙ entries w (omega arith)) in
    ap (λ b. b ∷ xs) (same_bucket x a contents at.0 (All-head (λ bucket. bucket.version ≡ 0) x xs versions) count.0 here) ∙ ap (λ l. first_bucket contents a ∷ l) rest

pub one_opening : OneOpening
one_opening o opens = numbered_same o.loaded (load_contents o.shape (λ block. leaf_at o [] block) o.first) (node_count o.shape.l) 1
    opens.numbered.nodes opens.numbered.versions opens.numbered.nonces
    (λ w node. one_load o.shape (λ block. leaf_at o [] block) o.first o.loaded opens.placed w (omega arith))

listed_nodes : (contents : ℕ → List Entry) (n a : ℕ) → nodes_in (map (first_bucket contents) (range_with_len a n)) ≡ range_with_len a n
listed_nodes contents zero a = refl
listed_nodes contents (suc n) a = ap (λ l. a ∷ l) (listed_nodes contents n (a + 1))

listed_versions : (contents : ℕ → List Entry) (n a : ℕ) → All (λ bucket. bucket.version ≡ 0) (map (first_bucket contents) (range_with_len a n))
listed_versions contents zero a = All-nil (λ bucket. bucket.version ≡ 0)
listed_versions contents (suc n) a =
    All-cons (λ bucket. bucket.version ≡ 0) (first_bucket contents a) (map (first_bucket contents) (range_with_len (a + 1) n)) refl (listed_versions contents n (a + 1))

listed_nonces : (contents : ℕ → List Entry) (n a : ℕ) → map (λ bucket. bucket.nonce) (map (first_bucket contents) (range_with_len a n)) ≡ range_with_len a n
listed_nonces contents zero a = refl
listed_nonces contents (suc n) a = ap (λ l. a ∷ l) (listed_nonces contents n (a + 1))

listed_all : (P : Bucket → Type 0) (contents : ℕ → List Entry) (n a : ℕ) → ((w : ℕ) → a ≤ w → w < a + n → P (first_bucket contents w))
    → All P (map (first_bucket contents) (range_with_len a n))
listed_all P contents zero a h = All-nil P
listed_all P contents (suc n) a h = All-cons P (first_bucket contents a) (map (first_bucket contents) (range_with_len (a + 1) n)) (h a (omega arith) (omega arith))
    (listed_all P contents n (a + 1) (λ w low high. h w (omega arith) (omega arith)))

pub opens_so : OpensSo
opens_so o is same = subst (λ loaded. OpensWithLoad (record { shape = o.shape; words = o.words; first = o.first; loaded = loaded })) (sym same) (record {
  numbered = record {
    nodes = listed_nodes contents (node_count o.shape.l) 1;
    versions = listed_versions contents (node_count o.shape.l) 1;
    nonces = listed_nonces contents (node_count o.shape.l) 1;
  };
  in_form = listed_all (IsInForm o.shape) contents (node_count o.shape.l) 1 (λ w low high. in_form w low (omega arith));
  placed = load_is_placed o.shape (λ block. leaf_at o [] block) o.first;
})
  where
    contents : ℕ → List Entry
    contents = load_contents o.shape (λ block. leaf_at o [] block) o.first

    p : IsPlaced (may_load o.shape (λ block. leaf_at o [] block)) (node_count o.shape.l) o.shape.z (block_below o.shape.n o.first) contents
    p = load_pass o.shape (λ block. leaf_at o [] block) o.first

    found : (w : ℕ) → All (λ entry. block_below o.shape.n o.first entry.id ≡ Some entry.value) (contents w)
    found w = entries_are_gathered (may_load o.shape (λ block. leaf_at o [] block)) (node_count o.shape.l) o.shape.z (block_below o.shape.n o.first) contents p w

    in_form : (w : ℕ) → 1 ≤ w → w ≤ node_count o.shape.l → IsInForm o.shape (first_bucket contents w)
    in_form w low high = record {
      low = low;
      high = high;
      entries = record {
        few = p.room w (omega arith);
        rising = p.rises w;
        ids = All-weaker (λ entry. block_below o.shape.n o.first entry.id ≡ Some entry.value) (λ entry. entry.id < o.shape.n)
            (λ entry is_block. ltb-true entry.id o.shape.n (cond_some (nat_lt entry.id o.shape.n) (block_at o.first entry.id) entry.value is_block).0) (contents w) (found w);
        values = All-weaker (λ entry. block_below o.shape.n o.first entry.id ≡ Some entry.value) (λ entry. length entry.value ≡ o.shape.b)
            (λ entry is_block.
            let parts = cond_some (nat_lt entry.id o.shape.n) (block_at o.first entry.id) entry.value is_block in
            let below = ltb-true entry.id o.shape.n parts.0 in
            let all = is.blocks in
            ap length (sym parts.1) ∙ is.values entry.id [] (omega arith)) (contents w) (found w);
      };
    }

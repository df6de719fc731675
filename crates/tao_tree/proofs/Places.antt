-- How the nodes of a tree lie in memory.
use Rattle.std.proofs.Common.{◌≡◌, ℕ, zero, suc, ◌+◌, ◌-◌, ◌*◌, ◌<◌, ◌≤◌, List, [], ◌∷◌, ◌++◌, length, take, drop, replicate, slice_set, slice_index_or, Option, Some, None, refl, sym, ap, ap₂, ◌∙◌, subst, arith, append_assoc}
use Rattle.std.specs.Option.{option_map}
use Rattle.std.proofs.lemmas.List.{take-append-le, drop-append-le, take-take, drop-drop, drop-take, length-take-le, length-drop, length-append, take-replicate, drop-replicate, take_all, drop_all, length-set, get_or_default, length-replicate}
use Rattle.std.proofs.Math.Nat.{suc-mul, mul-le-mul_right}
use Rattle.tao_base.proofs.Fronts.{with_front_all}
use Rattle.tao_base.specs.Limits.{Shape, bucket_len}
use Rattle.tao_base.specs.Tree.{node_count}
use Rattle.tao_tree.specs.Nodes.{holding, held_version, held_of, held_in, bytes_of, AreBlank, IsLaidOut}

no_nodes : (len : ℕ) → zero * len ≡ 0
no_nodes len = omega arith

pub version_held : (bytes : List ℕ) (v : Option ℕ) → option_map held_version (held_of bytes v) ≡ v
version_held bytes None = refl
version_held bytes (Some version) = refl

-- what one node holds
pub held_in_at : (len : ℕ) (bytes : List ℕ) (vs : List (Option ℕ)) (i : ℕ) → slice_index_or (held_in len bytes vs) i None ≡ held_of (take len (drop (i * len) bytes)) (slice_index_or vs i None)
held_in_at len bytes [] i = refl
held_in_at len bytes (v ∷ vs) zero = ap (λ n. held_of (take len (drop n bytes)) v) (sym (no_nodes len))
held_in_at len bytes (v ∷ vs) (suc i) =
    held_in_at len (drop len bytes) vs i
    ∙ ap (λ b. held_of (take len b) (slice_index_or vs i None)) (drop-drop (i * len) len bytes ∙ ap (λ n. drop n bytes) (omega (arith, suc-mul i len)))

-- the bytes that a node tells
pub blank_at : (len : ℕ) (bytes : List ℕ) (vs : List (Option ℕ)) (i : ℕ) → i < length vs → AreBlank len bytes vs
    → take len (drop (i * len) bytes) ≡ bytes_of len (held_of (take len (drop (i * len) bytes)) (slice_index_or vs i None))
blank_at len bytes [] i h blank = absurd (omega arith)
blank_at len bytes (v ∷ vs) zero h blank = subst (λ n. take len (drop n bytes) ≡ bytes_of len (held_of (take len (drop n bytes)) v)) (sym (no_nodes len)) blank.0
blank_at len bytes (v ∷ vs) (suc i) h blank =
    let here : drop (i * len) (drop len bytes) ≡ drop (suc i * len) bytes = drop-drop (i * len) len bytes ∙ ap (λ n. drop n bytes) (omega (arith, suc-mul i len)) in
    subst (λ b. take len b ≡ bytes_of len (held_of (take len b) (slice_index_or vs i None))) here (blank_at len (drop len bytes) vs i (omega arith) blank.1)

-- bytes that are written at one node
abbrev pub rewritten : ℕ → ℕ → List ℕ → List ℕ → List ℕ
rewritten at len more bytes = take at bytes ++ more ++ drop (at + len) bytes

-- the first node of bytes that are written at it, and what is behind it
first_of_rewritten : (len : ℕ) (bytes more : List ℕ) → length more ≡ len → take len (rewritten (zero * len) len more bytes) ≡ more
first_of_rewritten len bytes more m =
    ap (λ n. take len (rewritten n len more bytes)) (no_nodes len) ∙ take-append-le len more (drop (0 + len) bytes) (omega arith) ∙ take_all len more (omega arith)

rest_of_rewritten : (len : ℕ) (bytes more : List ℕ) → length more ≡ len → drop len (rewritten (zero * len) len more bytes) ≡ drop len bytes
rest_of_rewritten len bytes more m =
    ap (λ n. drop len (rewritten n len more bytes)) (no_nodes len)
    ∙ drop-append-le len more (drop (0 + len) bytes) (omega arith) ∙ ap (λ front. front ++ drop (0 + len) bytes) (drop_all len more (omega arith)) ∙ ap (λ n. drop n bytes) (omega arith)

-- where a later node is written, the first stays
front_of_rewritten : (len i : ℕ) (bytes more : List ℕ) → suc i * len ≤ length bytes → take len (rewritten (suc i * len) len more bytes) ≡ take len bytes
front_of_rewritten len i bytes more h =
    let size : suc i * len ≡ i * len + len = suc-mul i len in
    let long : length (take (suc i * len) bytes) ≡ suc i * len = length-take-le (suc i * len) bytes h in
    ap (take len) (append_assoc (take (suc i * len) bytes) more (drop (suc i * len + len) bytes))
    ∙ take-append-le len (take (suc i * len) bytes) (more ++ drop (suc i * len + len) bytes) (omega arith)
    ∙ take-take len (suc i * len) bytes (omega arith)

later_of_rewritten : (len i : ℕ) (bytes more : List ℕ) → suc i * len ≤ length bytes → drop len (rewritten (suc i * len) len more bytes) ≡ rewritten (i * len) len more (drop len bytes)
later_of_rewritten len i bytes more h =
    let size : suc i * len ≡ len + i * len = omega (arith, suc-mul i len) in
    let long : length (take (suc i * len) bytes) ≡ suc i * len = length-take-le (suc i * len) bytes h in
    let front : drop len (take (suc i * len) bytes) ≡ take (i * len) (drop len bytes) = ap (λ n. drop len (take n bytes)) size ∙ drop-take len (i * len) bytes in
    let back : drop (suc i * len + len) bytes ≡ drop (i * len + len) (drop len bytes) = ap (λ n. drop n bytes) (omega (arith, size)) ∙ sym (drop-drop (i * len + len) len bytes) in
    ap (drop len) (append_assoc (take (suc i * len) bytes) more (drop (suc i * len + len) bytes))
    ∙ drop-append-le len (take (suc i * len) bytes) (more ++ drop (suc i * len + len) bytes) (omega arith)
    ∙ ap₂ (λ a b. a ++ (more ++ b)) front back
    ∙ sym (append_assoc (take (i * len) (drop len bytes)) more (drop (i * len + len) (drop len bytes)))

-- a node that is written holds that, and the others hold what they held
pub held_in_set : (len i version : ℕ) (bytes more : List ℕ) (vs : List (Option ℕ)) → i < length vs → i * len ≤ length bytes → length more ≡ len
    → held_in len (rewritten (i * len) len more bytes) (slice_set vs i (Some version)) ≡ slice_set (held_in len bytes vs) i (Some (holding version more))
held_in_set len i version bytes more [] h k m = absurd (omega arith)
held_in_set len zero version bytes more (v ∷ vs) h k m =
    ap₂ (λ first rest. Some (holding version first) ∷ held_in len rest vs) (first_of_rewritten len bytes more m) (rest_of_rewritten len bytes more m)
held_in_set len (suc i) version bytes more (v ∷ vs) h k m =
    let size : suc i * len ≡ len + i * len = omega (arith, suc-mul i len) in
    let left : length (drop len bytes) ≡ length bytes - len = length-drop len bytes in
    ap₂ (λ first rest. held_of first v ∷ held_in len rest (slice_set vs i (Some version))) (front_of_rewritten len i bytes more k) (later_of_rewritten len i bytes more k)
    ∙ ap (λ rest. held_of (take len bytes) v ∷ rest) (held_in_set len i version (drop len bytes) more vs (omega arith) (omega arith) m)

pub blank_set : (len i version : ℕ) (bytes more : List ℕ) (vs : List (Option ℕ)) → i < length vs → i * len ≤ length bytes → length more ≡ len → AreBlank len bytes vs
    → AreBlank len (rewritten (i * len) len more bytes) (slice_set vs i (Some version))
blank_set len i version bytes more [] h k m blank = absurd (omega arith)
blank_set len zero version bytes more (v ∷ vs) h k m blank = (refl, subst (λ rest. AreBlank len rest vs) (sym (rest_of_rewritten len bytes more m)) blank.1)
blank_set len (suc i) version bytes more (v ∷ vs) h k m blank =
    let size : suc i * len ≡ len + i * len = omega (arith, suc-mul i len) in
    let left : length (drop len bytes) ≡ length bytes - len = length-drop len bytes in
    let first : take len bytes ≡ take len (rewritten (suc i * len) len more bytes) = sym (front_of_rewritten len i bytes more k) in (
      subst (λ b. b ≡ bytes_of len (held_of b v)) first blank.0,
      subst (λ rest. AreBlank len rest (slice_set vs i (Some version))) (sym (later_of_rewritten len i bytes more k)) (blank_set len i version (drop len bytes) more vs (omega arith) (omega arith) m blank.1),
    )

-- no node holds anything at first
pub held_none : (len count : ℕ) (bytes : List ℕ) → held_in len bytes (replicate count None) ≡ replicate count None
held_none len zero bytes = refl
held_none len (suc count) bytes = ap (λ rest. None ∷ rest) (held_none len count (drop len bytes))

pub blank_none : (len count size : ℕ) → count * len ≤ size → AreBlank len (replicate size 0) (replicate count None)
blank_none len zero size h = tt
blank_none len (suc count) size h =
    let all : suc count * len ≡ len + count * len = omega (arith, suc-mul count len) in (
      take-replicate len size 0 (omega arith),
      subst (λ rest. AreBlank len rest (replicate count None)) (sym (drop-replicate len size 0)) (blank_none len count (size - len) (omega arith)),
    )

pub length_rewritten : (at len : ℕ) (bytes more : List ℕ) → at + len ≤ length bytes → length more ≡ len → length (rewritten at len more bytes) ≡ length bytes
length_rewritten at len bytes more h m =
    let front : length (take at bytes) ≡ at = length-take-le at bytes (omega arith) in
    let back : length (drop (at + len) bytes) ≡ length bytes - (at + len) = length-drop (at + len) bytes in
    length-append (take at bytes ++ more) (drop (at + len) bytes) ∙ ap (λ n. n + length (drop (at + len) bytes)) (length-append (take at bytes) more) ∙ omega arith

-- what the code read of a node's version
pub known_at : (len i : ℕ) (bytes : List ℕ) (vs : List (Option ℕ)) (known : Option ℕ) → i < length vs → known ≡ slice_index_or vs i known
    → known ≡ option_map held_version (slice_index_or (held_in len bytes vs) i None)
known_at len i bytes vs known h read =
    read ∙ get_or_default vs i known None h ∙ sym (ap (option_map held_version) (held_in_at len bytes vs i) ∙ version_held (take len (drop (i * len) bytes)) (slice_index_or vs i None))

-- what the code read of a node's bytes
pub bytes_read : (len i : ℕ) (bytes : List ℕ) (vs : List (Option ℕ)) → i < length vs → AreBlank len bytes vs → take len (drop (i * len) bytes) ≡ bytes_of len (slice_index_or (held_in len bytes vs) i None)
bytes_read len i bytes vs h blank = blank_at len bytes vs i h blank ∙ ap (bytes_of len) (sym (held_in_at len bytes vs i))

-- a node's place is within the bytes
pub place_within : (len i count size : ℕ) → i < count → size ≡ count * len → i * len + len ≤ size
place_within len i count size h all = omega (arith, suc-mul i len, mul-le-mul_right {m = suc i} {n = count} len (omega arith))

-- one node was written
pub tree_written : (s : Shape) (version i size : ℕ) (old new more : List ℕ) (vs : List (Option ℕ)) → IsLaidOut s old vs → i < length vs → length more ≡ bucket_len s → size ≡ length old
    → new ≡ rewritten (i * length more) (length more) more old
    → IsLaidOut s (take size (new ++ drop (length new) old)) (slice_set vs i (Some version))
    × (held_in (bucket_len s) (take size (new ++ drop (length new) old)) (slice_set vs i (Some version)) ≡ slice_set (held_in (bucket_len s) old vs) i (Some (holding version more)))
tree_written s version i size old new more vs laid h m n written =
    let len = bucket_len s in
    let within : i * len + len ≤ length old = place_within len i (length vs) (length old) h laid.len in
    let same : new ≡ rewritten (i * len) len more old = written ∙ ap (λ k. rewritten (i * k) k more old) m in
    let long : length new ≡ length old = ap length same ∙ length_rewritten (i * len) len old more within m in
    let whole : take size (new ++ drop (length new) old) ≡ rewritten (i * len) len more old = ap (λ k. take k (new ++ drop (length new) old)) n ∙ with_front_all old new long ∙ same in
    let count : length (slice_set vs i (Some version)) ≡ length vs = length-set vs i (Some version) in (
      record {
        count = count ∙ laid.count;
        len = ap length (whole ∙ sym same) ∙ long ∙ laid.len ∙ ap (λ k. k * len) (sym count);
        blank = subst (λ b. AreBlank len b (slice_set vs i (Some version))) (sym whole) (blank_set len i version old more vs h (omega arith) m laid.blank);
      },
      ap (λ b. held_in len b (slice_set vs i (Some version))) whole ∙ held_in_set len i version old more vs h (omega arith) m,
    )

-- a tree without buckets
pub none_laid_out : (s : Shape) (bytes : List ℕ) (vs : List (Option ℕ)) → bytes ≡ replicate (node_count s.l * bucket_len s) 0 → vs ≡ replicate (node_count s.l) None → IsLaidOut s bytes vs
none_laid_out s bytes vs b v =
    let count : length vs ≡ node_count s.l = ap length v ∙ length-replicate (node_count s.l) None in
    record {
      count = count;
      len = ap length b ∙ length-replicate (node_count s.l * bucket_len s) 0 ∙ ap (λ n. n * bucket_len s) (sym count);
      blank = subst (λ w. AreBlank (bucket_len s) bytes w) (sym v) (subst (λ a. AreBlank (bucket_len s) a (replicate (node_count s.l) None)) (sym b) (blank_none (bucket_len s) (node_count s.l) (node_count s.l * bucket_len s) (omega arith)));
    }

-- a part of the bytes, as the code reads it
pub part_read : (i n len : ℕ) (bytes all : List ℕ) → n ≡ len → all ≡ bytes → take (i * n + n - i * n) (drop (i * n) all) ≡ take len (drop (i * len) bytes)
part_read i n len bytes all h same =
    let k : i * n + n - i * n ≡ n = omega arith in
    ap (λ m. take m (drop (i * n) all)) k ∙ ap₂ (λ m b. take m (drop (i * m) b)) h same

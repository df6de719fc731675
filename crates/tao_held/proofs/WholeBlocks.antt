-- What is held, found and answered are whole blocks. The events `es` are newest first.
use Rattle.std.proofs.Common.{◌≡◌, ℕ, ◌<◌, ◌≤◌, Bool, true, false, not, ◌&&◌, ◌||◌, cond, List, [], ◌∷◌, reverse, length, All, Option, Some, None, IfSome, refl, sym, ap, subst, arith, inl, inr, ◌⊎◌, nat_eq, nat_lt}
use Rattle.std.specs.Option.{option_or}
use Rattle.std.proofs.lemmas.Bool.{cases_lt, lt-ltb, le-ltb, true≢false}
use Rattle.std.proofs.lemmas.List.{length-replicate}
use Rattle.std.proofs.lemmas.List.Elements.{All-nil, All-head, All-tail, All-weaker}
use Rattle.tao_base.specs.declared.calls.Op.{Op}
use Rattle.tao_base.specs.declared.calls.Op.TheVariants.{Read, Write, Pad}
use Rattle.tao_base.specs.declared.session.Event.{Event}
use Rattle.tao_base.specs.declared.session.Event.TheVariants.{Arrive, Done, Issue, Acked, Fault}
use Rattle.tao_base.specs.declared.storage.Bucket.{Bucket}
use Rattle.tao_base.specs.declared.storage.Entry.{Entry}
use Rattle.tao_base.specs.Limits.{Shape}
use Rattle.tao_base.specs.Session.{Opening}
use Rattle.tao_base.specs.Tree.{node_count, path, is_on_path}
use Rattle.tao_base.specs.Buckets.{IsInForm}
use Rattle.tao_model.specs.Events.{arrived, is_done, is_pad}
use Rattle.tao_model.specs.Requests.{is_real, is_settled, settler, leaf_at, fetched_leaf, position}
use Rattle.tao_model.specs.Residence.{is_resident}
use Rattle.tao_model.specs.Placement.{look, first_copy, entries_at, may_load, may_evict, block_below, IsEvicted}
use Rattle.tao_model.specs.Evictions.{load_contents}
use Rattle.tao_model.specs.Lawful.{FollowsLawfully, IsOpening, IsInRange}
use Rattle.tao_model.proofs.FallingPaths.{has}
use Rattle.tao_model.proofs.OneEviction.{eviction_is_placed}
use Rattle.tao_model.proofs.OneLoad.{load_pass}
use Rattle.tao_model.proofs.PlacedEntries.{all_found, entries_are_gathered}
use Rattle.tao_held.specs.Steps.{take_in, found_copy, value_or_zeros, put, evict}
use Rattle.tao_held.specs.Held.{held, after_fetch, found_in, found_value, served_answer, block_on, op_value, value_since, value_between}
use Rattle.tao_held.specs.HeldLaws.{HaveLength, HeldHaveLength, FoundHaveLength, AnswersHaveLength}
use Rattle.tao_held.proofs.AlikeContents.{put_is}

-- ---- look-ups

-- so many bytes
abbrev IsLong : ℕ → List ℕ → Type 0
IsLong n value = length value ≡ n

abbrev AreLong : ℕ → List Entry → Type 0
AreLong n entries = All (λ entry. length entry.value ≡ n) entries

pub look_long : (n b : ℕ) (entries : List Entry) → AreLong n entries → IfSome (look b entries) (IsLong n)
look_long n b [] all = tt
look_long n b (e ∷ es) all = either (nat_eq e.id b) (look_long n b es (All-tail (λ entry. length entry.value ≡ n) e es all))
  where
    either : (t : Bool) → IfSome (look b es) (IsLong n) → IfSome (cond t (Some e.value) (look b es)) (IsLong n)
    either true ih = All-head (λ entry. length entry.value ≡ n) e es all
    either false ih = ih

pub first_long : (n b : ℕ) (nodes : List ℕ) (contents : ℕ → List Entry) → HaveLength n contents → IfSome (first_copy nodes contents b) (IsLong n)
first_long n b [] contents long = tt
first_long n b (w ∷ nodes) contents long = either (look b (contents w)) (look_long n b (contents w) (long w)) (first_long n b nodes contents long)
  where
    either : (x : Option (List ℕ)) → IfSome x (IsLong n) → IfSome (first_copy nodes contents b) (IsLong n) → IfSome (option_or x (first_copy nodes contents b)) (IsLong n)
    either None h ih = ih
    either (Some value) h ih = h

-- entries that are all found among whole blocks
found_long : (n : ℕ) (found : ℕ → Option (List ℕ)) (entries : List Entry) → ((b : ℕ) → IfSome (found b) (IsLong n))
    → All (λ entry. found entry.id ≡ Some entry.value) entries → AreLong n entries
found_long n found entries long each = All-weaker (λ entry. found entry.id ≡ Some entry.value) (λ entry. length entry.value ≡ n)
    (λ entry is. subst (λ x. IfSome x (IsLong n)) is (long entry.id)) entries each

-- ---- the load

block_long : (o : Opening) → IsOpening o → (b : ℕ) → IfSome (block_below o.shape.n o.first b) (IsLong o.shape.b)
block_long o opens b = either (cases_lt b o.shape.n)
  where
    either : (b < o.shape.n) ⊎ (o.shape.n ≤ b) → IfSome (block_below o.shape.n o.first b) (IsLong o.shape.b)
    either (inl low) = rw (lt-ltb b o.shape.n low) (opens.values b [] (let blocks = opens.blocks in omega arith))
    either (inr past) = rw (le-ltb b o.shape.n past) tt

load_long : (o : Opening) → IsOpening o → HaveLength o.shape.b (load_contents o.shape (λ block. leaf_at o [] block) o.first)
load_long o opens w = found_long o.shape.b (block_below o.shape.n o.first) (load_contents o.shape (λ block. leaf_at o [] block) o.first w) (block_long o opens)
    (entries_are_gathered (may_load o.shape (λ block. leaf_at o [] block)) (node_count o.shape.l) o.shape.z (block_below o.shape.n o.first)
    (load_contents o.shape (λ block. leaf_at o [] block) o.first) (load_pass o.shape (λ block. leaf_at o [] block) o.first) w)

-- ---- a fetch

evict_long : (n : ℕ) (s : Shape) (at : ℕ) (leaf : ℕ → ℕ) (contents : ℕ → List Entry) → HaveLength n contents → HaveLength n (evict s at leaf contents)
evict_long n s at leaf contents long w = either (has w (0 ∷ path s.l at)) refl
  where
    moved : IsEvicted s (path s.l at) leaf contents (evict s at leaf contents)
    moved = eviction_is_placed s (path s.l at) leaf contents

    either : (t : Bool) → has w (0 ∷ path s.l at) ≡ t → AreLong n (evict s at leaf contents w)
    either false off = subst (AreLong n) (sym (moved.others w off)) (long w)
    either true on = found_long n (first_copy (0 ∷ path s.l at) contents) (evict s at leaf contents w) (λ b. first_long n b (0 ∷ path s.l at) contents long)
        (subst (All (λ entry. first_copy (0 ∷ path s.l at) contents entry.id ≡ Some entry.value)) (ap (λ t. cond t (evict s at leaf contents w) []) on)
        (entries_are_gathered (may_evict s.l (path s.l at) leaf contents) (node_count s.l) s.z (first_copy (0 ∷ path s.l at) contents)
        (λ v. cond (has v (0 ∷ path s.l at)) (evict s at leaf contents v) []) moved.placed w))

put_long : (n : ℕ) (contents : ℕ → List Entry) (b : ℕ) (value : List ℕ) → HaveLength n contents → IsLong n value → HaveLength n (put contents b value)
put_long n contents b value long len w = either (cases_lt 0 w)
  where
    stash : AreLong n (put contents b value 0)
    stash =
        let is = put_is contents b value in
        found_long n (λ c. look c (put contents b value 0)) (put contents b value 0)
        (λ c. subst (λ x. IfSome x (IsLong n)) (sym (is.1 c)) (one c (nat_eq b c))) (all_found 0 (put contents b value 0) is.0)
      where
        one : (c : ℕ) (t : Bool) → IfSome (cond t (Some value) (look c (contents 0))) (IsLong n)
        one c true = len
        one c false = look_long n c (contents 0) (long 0)

    either : (0 < w) ⊎ (w ≤ 0) → AreLong n (put contents b value w)
    either (inl node) = let is = put_is contents b value in subst (AreLong n) (sym (is.2 w node)) (long w)
    either (inr low) = let here : 0 ≡ w = omega arith in subst (λ v. AreLong n (put contents b value v)) here stash

take_long : (n l at : ℕ) (resident : ℕ → Bool) (taken own : ℕ → List Entry) → HaveLength n taken → HaveLength n own → HaveLength n (take_in l at resident taken own)
take_long n l at resident taken own fetched long w = either (is_on_path l at w && not (resident w))
  where
    either : (t : Bool) → AreLong n (cond t (taken w) (own w))
    either true = fetched w
    either false = long w

-- what holds of each bucket's entries, and of none, holds of a node's
pub entries_are : (P : List Entry → Type 0) (buckets : List Bucket) (w : ℕ) → P [] → All (λ bucket. P bucket.entries) buckets → P (entries_at buckets w)
entries_are P [] w none all = none
entries_are P (x ∷ buckets) w none all = either (nat_eq x.node w) (entries_are P buckets w none (All-tail (λ bucket. P bucket.entries) x buckets all))
  where
    either : (t : Bool) → P (entries_at buckets w) → P (cond t x.entries (entries_at buckets w))
    either true ih = All-head (λ bucket. P bucket.entries) x buckets all
    either false ih = ih

taken_long : (s : Shape) (taken : List Bucket) → All (IsInForm s) taken → HaveLength s.b (entries_at taken)
taken_long s taken forms w = entries_are (AreLong s.b) taken w (All-nil (λ entry. length entry.value ≡ s.b))
    (All-weaker (IsInForm s) (λ bucket. AreLong s.b bucket.entries) (λ bucket form. form.entries.values) taken forms)

fetch_long : (real : Bool) (s : Shape) (at : ℕ) (leaf : ℕ → ℕ) (resident : ℕ → Bool) (taken own : ℕ → List Entry) (block : ℕ) (value : List ℕ)
    → HaveLength s.b taken → HaveLength s.b own → IsLong s.b value → HaveLength s.b (after_fetch real s at leaf resident taken own block value)
fetch_long true s at leaf resident taken own block value fetched long len =
    evict_long s.b s at leaf (put (take_in s.l at resident taken own) block value)
    (put_long s.b (take_in s.l at resident taken own) block value (take_long s.b s.l at resident taken own fetched long) len)
fetch_long false s at leaf resident taken own block value fetched long len =
    evict_long s.b s at leaf (take_in s.l at resident taken own) (take_long s.b s.l at resident taken own fetched long)

copy_long : (s : Shape) (x : Option (List ℕ)) → IfSome x (IsLong s.b) → IsLong s.b (value_or_zeros s x)
copy_long s None h = length-replicate s.b 0
copy_long s (Some value) h = h

in_long : (o : Opening) (es : List Event) (own : ℕ → List Entry) (i : ℕ) (taken : List Bucket) → HaveLength o.shape.b own → All (IsInForm o.shape) taken
    → IsLong o.shape.b (found_in o es own i taken)
in_long o es own i taken long forms =
    copy_long o.shape (found_copy o.shape.l (fetched_leaf o es i) (take_in o.shape.l (fetched_leaf o es i) (λ w. is_resident o es w) (entries_at taken) own) (block_on es i))
    (first_long o.shape.b (block_on es i) (0 ∷ path o.shape.l (fetched_leaf o es i))
    (take_in o.shape.l (fetched_leaf o es i) (λ w. is_resident o es w) (entries_at taken) own)
    (take_long o.shape.b o.shape.l (fetched_leaf o es i) (λ w. is_resident o es w) (entries_at taken) own (taken_long o.shape taken forms) long))

-- ---- operations

op_long : (s : Shape) (op : Op) (block : ℕ) (v : List ℕ) → IsInRange s op → IsLong s.b v → IsLong s.b (op_value block op v)
op_long s (Read id) block v range len = len
op_long s (Write id value) block v range len = either (nat_eq id block)
  where
    either : (t : Bool) → IsLong s.b (cond t value v)
    either true = range.1
    either false = len
op_long s Pad block v range len = len

since_long : (o : Opening) (es : List Event) (block i : ℕ) (v : List ℕ) → FollowsLawfully o es → IsLong o.shape.b v → IsLong o.shape.b (value_since es block i v)
since_long o [] block i v f len = len
since_long o (Arrive client op word ∷ es) block i v f len = either (nat_lt (arrived es) i) (since_long o es block i v f.0 len)
  where
    either : (t : Bool) → IsLong o.shape.b (value_since es block i v) → IsLong o.shape.b (cond t v (op_value block op (value_since es block i v)))
    either true ih = len
    either false ih = op_long o.shape op block (value_since es block i v) f.2.3 ih
since_long o (Done arrival taken ∷ es) block i v f len = since_long o es block i v f.0 len
since_long o (Issue version nonce buckets ∷ es) block i v f len = since_long o es block i v f.0 len
since_long o (Acked version ∷ es) block i v f len = since_long o es block i v f.0 len
since_long o (Fault cause ∷ es) block i v f len = since_long o es block i v f.0 len

between_long : (o : Opening) (es : List Event) (block i j : ℕ) (v : List ℕ) → FollowsLawfully o es → IsLong o.shape.b v → IsLong o.shape.b (value_between es block i j v)
between_long o [] block i j v f len = len
between_long o (Arrive client op word ∷ es) block i j v f len = either (nat_lt (arrived es) j) (between_long o es block i j v f.0 len)
  where
    either : (t : Bool) → IsLong o.shape.b (value_between es block i j v)
        → IsLong o.shape.b (cond t (value_since (Arrive client op word ∷ es) block i v) (value_between es block i j v))
    either true ih = since_long o (Arrive client op word ∷ es) block i v f len
    either false ih = ih
between_long o (Done arrival taken ∷ es) block i j v f len = between_long o es block i j v f.0 len
between_long o (Issue version nonce buckets ∷ es) block i j v f len = between_long o es block i j v f.0 len
between_long o (Acked version ∷ es) block i j v f len = between_long o es block i j v f.0 len
between_long o (Fault cause ∷ es) block i j v f len = between_long o es block i j v f.0 len

-- ---- a record

pub held_long : (o : Opening) (es : List Event) → FollowsLawfully o es → HaveLength o.shape.b (λ w. held o es w)
unfolding held
held_long o [] f w = either (nat_eq w 0)
  where
    either : (t : Bool) → AreLong o.shape.b (cond t (load_contents o.shape (λ block. leaf_at o [] block) o.first 0) [])
    either true = load_long o f 0
    either false = All-nil (λ entry. length entry.value ≡ o.shape.b)
held_long o (Arrive client op word ∷ es) f w = held_long o es f.0 w
held_long o (Done i taken ∷ es) f w =
    let before = held_long o es f.0 in
    let forms = f.2.1.in_form in
    fetch_long (is_real es i) o.shape (fetched_leaf o es i) (λ block. position o (Done i taken ∷ es) block) (λ v. is_resident o es v) (entries_at taken) (λ v. held o es v)
    (block_on es i) (value_since es (block_on es i) i (found_in o es (λ v. held o es v) i taken)) (taken_long o.shape taken forms) before
    (since_long o es (block_on es i) i (found_in o es (λ v. held o es v) i taken) f.0 (in_long o es (λ v. held o es v) i taken before forms)) w
held_long o (Issue version nonce buckets ∷ es) f w = held_long o es f.0 w
held_long o (Acked version ∷ es) f w = either (nat_eq w 0 || is_resident o (Acked version ∷ es) w) (held_long o es f.0 w)
  where
    either : (t : Bool) → AreLong o.shape.b (held o es w) → AreLong o.shape.b (cond t (held o es w) [])
    either true ih = ih
    either false ih = All-nil (λ entry. length entry.value ≡ o.shape.b)
held_long o (Fault cause ∷ es) f w = held_long o es f.0 w

pub value_long : (o : Opening) (es : List Event) (i : ℕ) → FollowsLawfully o es → is_done es i ≡ true → IsLong o.shape.b (found_value o es i)
unfolding found_value
value_long o [] i f done = absurd (true≢false (sym done))
value_long o (Arrive client op word ∷ es) i f done = value_long o es i f.0 done
value_long o (Done arrival taken ∷ es) i f done = either (nat_eq arrival i) done (λ earlier. value_long o es i f.0 earlier)
  where
    either : (t : Bool) → (t || is_done es i) ≡ true → (is_done es i ≡ true → IsLong o.shape.b (found_value o es i))
        → IsLong o.shape.b (cond t (found_in o es (λ w. held o es w) i taken) (found_value o es i))
    either true is ih = in_long o es (λ w. held o es w) i taken (held_long o es f.0) f.2.1.in_form
    either false earlier ih = ih earlier
value_long o (Issue version nonce buckets ∷ es) i f done = value_long o es i f.0 done
value_long o (Acked version ∷ es) i f done = value_long o es i f.0 done
value_long o (Fault cause ∷ es) i f done = value_long o es i f.0 done

pub answer_long : (o : Opening) (es : List Event) (j : ℕ) → FollowsLawfully o es → is_settled es j ≡ true → length (served_answer o es j) ≡ cond (is_pad es j) 0 o.shape.b
unfolding served_answer
answer_long o es j f settled = either (is_pad es j) settled
  where
    either : (t : Bool) → (t || is_done es (settler es j)) ≡ true
        → length (cond t [] (value_between es (block_on es j) (settler es j) j (found_value o es (settler es j)))) ≡ cond t 0 o.shape.b
    either true is = refl
    either false done = between_long o es (block_on es j) (settler es j) j (found_value o es (settler es j)) f (value_long o es (settler es j) f done)

pub held_have_length : HeldHaveLength
held_have_length o events f = held_long o (reverse events) f

pub found_have_length : FoundHaveLength
found_have_length o events i f done = value_long o (reverse events) i f done

pub answers_have_length : AnswersHaveLength
answers_have_length o events j f settled = answer_long o (reverse events) j f settled

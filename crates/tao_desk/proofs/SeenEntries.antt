-- What a scan sees, entry after entry, and bucket after bucket.
use Rattle.std.proofs.Common.{◌≡◌, ℕ, ◌+◌, ◌<◌, ◌≤◌, Bool, true, false, cond, ◌⊎◌, inl, inr, List, [], ◌∷◌, ◌++◌, filter, take, drop, set, replicate, length, get_or, All, Option, Some, None, is_some, refl, sym, ap, ap₂, ◌∙◌, subst, append_assoc, arith}
use Rattle.std.specs.List.{flat_map, filter_map, range_with_len}
use Rattle.std.specs.Option.{option_or, option_to_list}
use Rattle.std.proofs.lemmas.Bool.{cases_eq, true≢false}
use Rattle.std.proofs.lemmas.Grind.{flat_map-append}
use Rattle.std.proofs.lemmas.List.{append-nil, take_more, take-append-drop, length-append, length-replicate, get_or-replicate, length-set, get_or-set_same, get_or-set_other}
use Rattle.std.proofs.lemmas.List.Elements.{All-set, All-replicate, All-head, All-tail, All-nil, All-cons, filter-append, filter_map-append}
use Rattle.tao_base.specs.declared.storage.Bucket.{Bucket}
use Rattle.tao_base.specs.declared.storage.Entry.{Entry}
use Rattle.tao_base.specs.Limits.{Shape}
use Rattle.tao_bucket.proofs.Firsts.{range_split}
use Rattle.tao_bucket.specs.Rooms.{RoomState}
use Rattle.tao_flush.specs.Blocks.{IsEntry}
use Rattle.tao_held.specs.Steps.{value_or_zeros}
use Rattle.tao_images.specs.Paths.{held_in}
use Rattle.tao_model.proofs.RisingEntries.{look_append, look_here, look_on}
use Rattle.tao_model.specs.Placement.{look}
use Rattle.tao_processor.proofs.WrittenBack.{whole_front}
use Rattle.tao_desk.specs.Scanning.{Sees}

-- ---- entries

pub sees_none : (s : Shape) (values : List (List ℕ)) (known : List Bool) → values ≡ replicate s.n (replicate s.b 0) → known ≡ replicate s.n false → Sees s [] values known
sees_none s values known zeros none = record {
  count = ap length zeros ∙ length-replicate s.n (replicate s.b 0);
  known_count = ap length none ∙ length-replicate s.n false;
  values_are = λ b d below. ap (λ (vs : List (List ℕ)). get_or vs b d) zeros ∙ get_or-replicate s.n b (replicate s.b 0) d below;
  known_are = λ b d below. ap (λ (fs : List Bool). get_or fs b d) none ∙ get_or-replicate s.n b false d below;
  lengths = subst (λ (vs : List (List ℕ)). All (λ value. length value ≡ s.b) vs) (sym zeros) (All-replicate (λ (value : List ℕ). length value ≡ s.b) s.n (replicate s.b 0) (length-replicate s.b 0));
}

or_some : (x y : Option (List ℕ)) → is_some x ≡ true → option_or x y ≡ x
or_some None y is = absurd (true≢false (sym is))
or_some (Some v) y is = refl

or_none : (x : Option (List ℕ)) → option_or x None ≡ x
or_none None = refl
or_none (Some v) = refl

none_of : (x : Option (List ℕ)) → is_some x ≡ false → x ≡ None
none_of None is = refl
none_of (Some v) is = absurd (true≢false is)

-- an entry of another block changes nothing for a block
look_other : (before : List Entry) (e : Entry) (b : ℕ) → (e.id ≡ b → ⊥) → look b (before ++ e ∷ []) ≡ look b before
look_other before e b other = look_append b before (e ∷ []) ∙ ap (λ (x : Option (List ℕ)). option_or (look b before) x) (look_on e [] b other) ∙ or_none (look b before)

-- an entry of a block that was seen
pub sees_known : {s : Shape} {before : List Entry} {values : List (List ℕ)} {known : List Bool} (e : Entry) (d : Bool) → Sees s before values known → e.id < s.n → get_or known e.id d ≡ true
    → Sees s (before ++ e ∷ []) values known
sees_known {s} {before} {values} {known} e d is low seen = record {
  count = is.count;
  known_count = is.known_count;
  values_are = λ b d below. is.values_are b d below ∙ ap (value_or_zeros s) (sym (same b));
  known_are = λ b d below. is.known_are b d below ∙ ap is_some (sym (same b));
  lengths = is.lengths;
}
  where
    same : (b : ℕ) → look b (before ++ e ∷ []) ≡ look b before
    same b = either (cases_eq e.id b)
      where
        either : (e.id ≡ b) ⊎ (e.id ≡ b → ⊥) → look b (before ++ e ∷ []) ≡ look b before
        either (inl here) =
            look_append b before (e ∷ []) ∙ or_some (look b before) (look b (e ∷ []))
            (subst (λ i. is_some (look i before) ≡ true) here (sym (is.known_are e.id d low) ∙ seen))
        either (inr other) = look_other before e b other

-- an entry of a block that wasn't
sees_new : {s : Shape} {before : List Entry} {values : List (List ℕ)} {known : List Bool} (e : Entry) (d : Bool) → Sees s before values known → e.id < s.n → length e.value ≡ s.b
    → get_or known e.id d ≡ false → Sees s (before ++ e ∷ []) (set values e.id e.value) (set known e.id true)
sees_new {s} {before} {values} {known} e d is low long unseen = record {
  count = length-set values e.id e.value ∙ is.count;
  known_count = length-set known e.id true ∙ is.known_count;
  values_are = λ b x below. value b x below (cases_eq e.id b);
  known_are = λ b x below. flag b x below (cases_eq e.id b);
  lengths = All-set (λ (v : List ℕ). length v ≡ s.b) values e.id e.value long is.lengths;
}
  where
    here : look e.id (before ++ e ∷ []) ≡ Some e.value
    here =
        look_append e.id before (e ∷ []) ∙ ap₂ (λ (x y : Option (List ℕ)). option_or x y) (none_of (look e.id before) (sym (is.known_are e.id d low) ∙ unseen)) (look_here e [] e.id refl)

    value : (b : ℕ) (x : List ℕ) → b < s.n → (e.id ≡ b) ⊎ (e.id ≡ b → ⊥) → get_or (set values e.id e.value) b x ≡ value_or_zeros s (look b (before ++ e ∷ []))
    value b x below (inl same) =
        subst (λ i. get_or (set values e.id e.value) i x ≡ value_or_zeros s (look i (before ++ e ∷ []))) same
        (get_or-set_same values e.id e.value x (let n = is.count in omega (arith, n, low)) ∙ ap (value_or_zeros s) (sym here))
    value b x below (inr other) =
        get_or-set_other values e.id b e.value x (λ same. other (sym same)) ∙ is.values_are b x below ∙ ap (value_or_zeros s) (sym (look_other before e b other))

    flag : (b : ℕ) (x : Bool) → b < s.n → (e.id ≡ b) ⊎ (e.id ≡ b → ⊥) → get_or (set known e.id true) b x ≡ is_some (look b (before ++ e ∷ []))
    flag b x below (inl same) =
        subst (λ i. get_or (set known e.id true) i x ≡ is_some (look i (before ++ e ∷ []))) same
        (get_or-set_same known e.id true x (let n = is.known_count in omega (arith, n, low)) ∙ ap is_some (sym here))
    flag b x below (inr other) =
        get_or-set_other known e.id b true x (λ same. other (sym same)) ∙ is.known_are b x below ∙ ap is_some (sym (look_other before e b other))

-- all bytes of its value are written over
pub sees_written : {s : Shape} {before : List Entry} {values : List (List ℕ)} {known : List Bool} (e : Entry) (d : Bool) (old new : List ℕ) → Sees s before values known → IsEntry s e
    → get_or known e.id d ≡ false → length new ≡ length old → new ≡ e.value
    → Sees s (before ++ e ∷ []) (set values e.id (take (length old) (new ++ drop (length new) old))) (set known e.id true)
sees_written {s} {before} {values} {known} e d old new is entry unseen same own =
    subst (λ (v : List ℕ). Sees s (before ++ e ∷ []) (set values e.id v) (set known e.id true)) (sym (whole_front (length old) new old same refl ∙ own)) (sees_new e d is entry.0 entry.1 unseen)

-- entries after entries
pub sees_next : {s : Shape} {values : List (List ℕ)} {known : List Bool} (before entries : List Entry) (i : ℕ) (d e : Entry) → i < length entries → e ≡ get_or entries i d
    → Sees s ((before ++ take i entries) ++ e ∷ []) values known → Sees s (before ++ take (i + 1) entries) values known
sees_next {s} {values} {known} before entries i d e below is sees =
    subst (λ (es : List Entry). Sees s es values known)
    (append_assoc before (take i entries) (e ∷ []) ∙ ap (λ (es : List Entry). before ++ es) (ap (λ (x : Entry). take i entries ++ x ∷ []) is ∙ sym (take_more entries i d below))) sees

-- ---- buckets

one_held : (x : Option Bucket) (z b : ℕ) → filter_map held_in (record { z = z; b = b; held = x } ∷ []) ≡ option_to_list x
one_held None z b = refl
one_held (Some bucket) z b = refl

-- the buckets in one room more
pub rooms_more : (rooms : List RoomState) (i : ℕ) (room d : RoomState) → i < length rooms → room ≡ get_or rooms i d
    → filter_map held_in (take (i + 1) rooms) ≡ filter_map held_in (take i rooms) ++ option_to_list room.held
rooms_more rooms i room d below is =
    ap (λ (rs : List RoomState). filter_map held_in rs) (take_more rooms i d below ∙ ap (λ (r : RoomState). take i rooms ++ r ∷ []) (sym is))
    ∙ filter_map-append held_in (take i rooms) (room ∷ [])
    ∙ ap (λ (bs : List Bucket). filter_map held_in (take i rooms) ++ bs) (one_held room.held room.z room.b)

-- all buckets in the rooms: those before one, its own, and those behind
rooms_split : (rooms : List RoomState) (i : ℕ) (room d : RoomState) → i < length rooms → room ≡ get_or rooms i d
    → filter_map held_in rooms ≡ filter_map held_in (take i rooms) ++ (option_to_list room.held ++ filter_map held_in (drop (i + 1) rooms))
rooms_split rooms i room d below is =
    ap (λ (rs : List RoomState). filter_map held_in rs) (sym (take-append-drop (i + 1) rooms)) ∙ filter_map-append held_in (take (i + 1) rooms) (drop (i + 1) rooms)
    ∙ ap (λ (bs : List Bucket). bs ++ filter_map held_in (drop (i + 1) rooms)) (rooms_more rooms i room d below is)
    ∙ append_assoc (filter_map held_in (take i rooms)) (option_to_list room.held) (filter_map held_in (drop (i + 1) rooms))

all_behind : (P : Bucket → Type 0) (before behind : List Bucket) → All P (before ++ behind) → All P behind
all_behind P [] behind all = all
all_behind P (x ∷ before) behind all = all_behind P before behind (All-tail P x (before ++ behind) all)

all_before : (P : Bucket → Type 0) (before behind : List Bucket) → All P (before ++ behind) → All P before
all_before P [] behind all = All-nil P
all_before P (x ∷ before) behind all = All-cons P x before (All-head P x (before ++ behind) all) (all_before P before behind (All-tail P x (before ++ behind) all))

-- what holds of all buckets in the rooms holds of those of one
pub holds_in_room : (P : Bucket → Type 0) (rooms : List RoomState) (i : ℕ) (room d : RoomState) → i < length rooms → room ≡ get_or rooms i d → All P (filter_map held_in rooms)
    → All P (option_to_list room.held)
holds_in_room P rooms i room d below is all =
    all_before P (option_to_list room.held) (filter_map held_in (drop (i + 1) rooms))
    (all_behind P (filter_map held_in (take i rooms)) (option_to_list room.held ++ filter_map held_in (drop (i + 1) rooms)) (subst (All P) (rooms_split rooms i room d below is) all))

pub no_more_in_room : (rooms : List RoomState) (i : ℕ) (room d : RoomState) → i < length rooms → room ≡ get_or rooms i d
    → length (filter_map held_in (take i rooms)) + length (option_to_list room.held) ≤ length (filter_map held_in rooms)
no_more_in_room rooms i room d below is =
    let all = ap (λ (bs : List Bucket). length bs) (rooms_split rooms i room d below is)
    ∙ length-append (filter_map held_in (take i rooms)) (option_to_list room.held ++ filter_map held_in (drop (i + 1) rooms)) in
    let rest = length-append (option_to_list room.held) (filter_map held_in (drop (i + 1) rooms)) in
    omega (arith, all, rest)

-- the entries of more buckets
pub sees_buckets : {s : Shape} {values : List (List ℕ)} {known : List Bool} (before : List Entry) (buckets more all : List Bucket) → all ≡ buckets ++ more
    → Sees s ((before ++ flat_map (λ (x : Bucket). x.entries) buckets) ++ flat_map (λ (x : Bucket). x.entries) more) values known
    → Sees s (before ++ flat_map (λ (x : Bucket). x.entries) all) values known
sees_buckets {s} {values} {known} before buckets more all is sees =
    subst (λ (es : List Entry). Sees s es values known)
    (append_assoc before (flat_map (λ (x : Bucket). x.entries) buckets) (flat_map (λ (x : Bucket). x.entries) more)
    ∙ ap (λ (es : List Entry). before ++ es)
    (sym (ap (λ (bs : List Bucket). flat_map (λ (x : Bucket). x.entries) bs) is ∙ flat_map-append (λ (x : Bucket). x.entries) buckets more))) sees

-- ---- nodes

-- the entries of one held node more, and of one that isn't held
pub nodes_more : (held : ℕ → List Entry) (resident : ℕ → Bool) (stash : List Entry) (count node : ℕ) → node ≡ count + 1
    → stash ++ flat_map held (filter resident (range_with_len 1 (count + 1))) ≡ (stash ++ flat_map held (filter resident (range_with_len 1 count))) ++ cond (resident node) (held node) []
nodes_more held resident stash count node at =
    ap (λ (es : List Entry). stash ++ es)
    (ap (λ (ws : List ℕ). flat_map held (filter resident ws)) (range_split 1 count 1)
    ∙ ap (flat_map held) (filter-append resident (range_with_len 1 count) ((1 + count) ∷ []))
    ∙ flat_map-append held (filter resident (range_with_len 1 count)) (filter resident ((1 + count) ∷ []))
    ∙ ap (λ (es : List Entry). flat_map held (filter resident (range_with_len 1 count)) ++ es) (subst (λ w. flat_map held (filter resident (w ∷ [])) ≡ cond (resident node) (held node) []) (omega (arith, at)) (one (resident node) refl)))
    ∙ sym (append_assoc stash (flat_map held (filter resident (range_with_len 1 count))) (cond (resident node) (held node) []))
  where
    one : (t : Bool) → resident node ≡ t → flat_map held (filter resident (node ∷ [])) ≡ cond (resident node) (held node) []
    one true is = rw is (append-nil (held node))
    one false is = rw is refl

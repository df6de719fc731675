-- Answers that are taken and refused, and what they add to the record. The events `es` are newest first.
use Rattle.std.proofs.Common.{◌≡◌, ◌≢◌, ℕ, ◌+◌, ◌^◌, ◌<◌, ◌≤◌, Bool, true, false, not, ◌||◌, cond, ◌⊎◌, inl, inr, nat_eq, nat_lt, List, [], ◌∷◌, All, length, filter, reverse, Option, Some, None, is_some, refl, sym, ap, subst, ◌∙◌, mod-lt, arith}
use Rattle.std.specs.List.{range_with_len}
use Rattle.std.specs.Prelude.{IfSome}
use Rattle.std.specs.Option.{option_or, option_map_or}
use Rattle.std.proofs.Math.Pow.{pow_pos}
use Rattle.std.proofs.lemmas.Bool.{ltb-true, and_parts, or_parts, cases_Bool, cond-true, cond-false, true≢false}
use Rattle.std.proofs.lemmas.Option.{same_Some}
use Rattle.std.proofs.lemmas.List.{length-map}
use Rattle.std.proofs.lemmas.List.FromFn.{get_or-map-range_with_len, length-range_with_len}
use Rattle.std.proofs.lemmas.List.Elements.{All-nil, All-cons, All-head, All-tail, All-weaker}
use Rattle.tao_base.specs.declared.parameters.Form.{Form}
use Rattle.tao_base.specs.declared.parameters.Form.TheVariants.{One, Two, Turn}
use Rattle.tao_base.specs.declared.session.Event.{Event}
use Rattle.tao_base.specs.declared.session.Event.TheVariants.{Arrive, Done, Issue, Acked, Fault}
use Rattle.tao_base.specs.declared.storage.Bucket.{Bucket}
use Rattle.tao_base.specs.Limits.{Shape}
use Rattle.tao_base.specs.Session.{Opening}
use Rattle.tao_base.specs.Tree.{node_at, path, is_on_path}
use Rattle.tao_base.proofs.TreeLemmas.{on_path_member}
use Rattle.tao_bucket.specs.Encoding.{format_of, tag_of}
use Rattle.tao_model.specs.Events.{arrived, is_done, is_under_way, word_at}
use Rattle.tao_model.specs.Requests.{fetched_leaf, word_used}
use Rattle.tao_model.specs.Residence.{bucket_of, is_resident, newest_version, newest_write, Unaltered, HasEntriesOf}
use Rattle.tao_model.specs.Lawful.{IsNumbered, FollowsLawfully, IsAwayOn, MayFail}
use Rattle.tao_images.specs.declared.nodes.Refused.{Refused}
use Rattle.tao_images.specs.declared.nodes.Refused.TheVariants.{Damaged, Stale}
use Rattle.tao_images.specs.Answers.{kept_tag, is_met, is_passed, cause_of}
use Rattle.tao_images.specs.AnswerLaws.{FetchIsTaken, LeafIsTaken, FetchIsRead, LeafIsRead, ReadIsLatest, ScanReadsFirstMet, FetchMayFail, LeafMayFail, FetchMayBeDone, DoneHasTags, WrittenIsUnforged, UnalteredIsHonest}
use Rattle.tao_images.specs.Honesty.{IsUnforged, HasTagOf}
use Rattle.tao_images.specs.Nodes.{IsRefusalOf}
use Rattle.tao_images.specs.Paths.{IsReadFrom}
use Rattle.tao_images.proofs.ReadLemmas.{read_along, latest_held}
use Rattle.tao_images.proofs.Refusals.{path_taken, refused_node}

-- ---- answers that are taken

pub fetch_is_taken : FetchIsTaken
fetch_is_taken key h i path shape fit =
    let o = h.opening in
    let es = reverse h.events in
    (latest_held key o.shape (is_resident o es) (newest_version es) (kept_tag key o es) (fetched_leaf o es i) path fit, path_taken key o.shape (is_resident o es) (newest_version es) (kept_tag key o es) (fetched_leaf o es i) path shape)

pub leaf_is_taken : LeafIsTaken
leaf_is_taken key h leaf path shape fit =
    let o = h.opening in
    let es = reverse h.events in
    (latest_held key o.shape (is_passed o es leaf) (newest_version es) (kept_tag key o es) leaf path fit, path_taken key o.shape (is_passed o es leaf) (newest_version es) (kept_tag key o es) leaf path shape)

leaf_low : (o : Opening) (es : List Event) (i : ℕ) → fetched_leaf o es i < 2 ^ o.shape.l
leaf_low o es i = mod-lt (word_at o es (word_used o es i)) (pow_pos o.shape.l)

pub fetch_is_read : FetchIsRead
fetch_is_read key h i path fit none =
    let o = h.opening in
    let es = reverse h.events in
    read_along key o.shape (is_resident o es) (newest_version es) (kept_tag key o es) (fetched_leaf o es i) path (leaf_low o es i) fit none

pub leaf_is_read : LeafIsRead
leaf_is_read key h leaf path small fit none =
    let o = h.opening in
    let es = reverse h.events in
    read_along key o.shape (is_passed o es leaf) (newest_version es) (kept_tag key o es) leaf path small fit none

pub read_is_latest : ReadIsLatest
read_is_latest key s skipped version tag leaf path buckets read = record {
  versions = All-weaker (IsReadFrom key s version tag leaf path) (λ bucket. bucket.version ≡ version bucket.node) (λ bucket is. is.holds.version) buckets read.each;
  tags = All-weaker (IsReadFrom key s version tag leaf path) (λ bucket. format_of s.form bucket.version ≡ 2 → tag_of key s bucket ≡ tag bucket.node)
      (λ bucket is two. is.holds.tagged (ap (format_of s.form) (sym is.holds.version) ∙ two)) buckets read.each;
}

-- what passes neither of two tests, in one step or in two
filter_both : (p q : ℕ → Bool) (xs : List ℕ) → filter (λ x. not (p x || q x)) xs ≡ filter (λ x. not (p x)) (filter (λ x. not (q x)) xs)
filter_both p q [] = refl
filter_both p q (x ∷ xs) = here (p x) (q x) refl (filter_both p q xs)
  where
    rest : List ℕ
    rest = filter (λ y. not (q y)) xs

    here : (t u : Bool) → p x ≡ t → filter (λ y. not (p y || q y)) xs ≡ filter (λ y. not (p y)) rest
        → cond (not (t || u)) (x ∷ filter (λ y. not (p y || q y)) xs) (filter (λ y. not (p y || q y)) xs) ≡ filter (λ y. not (p y)) (cond (not u) (x ∷ rest) rest)
    here true true e ih = ih
    here true false e ih = ih ∙ sym (cond-false (not (p x)) (x ∷ filter (λ y. not (p y)) rest) (filter (λ y. not (p y)) rest) (ap not e))
    here false true e ih = ih
    here false false e ih = ap (λ ys. x ∷ ys) ih ∙ sym (cond-true (not (p x)) (x ∷ filter (λ y. not (p y)) rest) (filter (λ y. not (p y)) rest) (ap not e))

pub scan_reads_first_met : ScanReadsFirstMet
scan_reads_first_met key h leaf image buckets read =
    let o = h.opening in
    read.nodes ∙ filter_both (is_resident o (reverse h.events)) (is_met o.shape.l leaf) (path o.shape.l leaf)

-- ---- causes

node_on_path : (l leaf d : ℕ) → d ≤ l → is_on_path l leaf (node_at l leaf d) ≡ true
node_on_path l leaf d within =
    let count : length (path l leaf) ≡ l + 1 = length-map (range_with_len 0 (l + 1)) (node_at l leaf) ∙ length-range_with_len 0 (l + 1) in
    (on_path_member l leaf (node_at l leaf d)).1 (d, omega arith, get_or-map-range_with_len (node_at l leaf) 0 (l + 1) d d (node_at l leaf d) (omega arith) (omega arith))

-- a refusal of a node that the fetch reads from the server
may_fail : (o : Opening) (es : List Event) (fetch node : ℕ) (refused : Refused) → IsAwayOn o es fetch node → IsRefusalOf node (newest_version es node) refused
    → MayFail o es (cause_of fetch refused)
may_fail o es fetch node (Damaged at fault) away is = subst (IsAwayOn o es fetch) (sym is) away
may_fail o es fetch node (Stale at wanted found) away is = (subst (IsAwayOn o es fetch) (sym is.0) away, is.1 ∙ ap (newest_version es) (sym is.0), λ e. is.2 (e ∙ is.1))

is_not : (b : Bool) → not b ≡ true → b ≡ false
is_not true e = let t : false ≡ true = e in absurd cc
is_not false e = refl

-- a fetch under way has arrived and isn't done
under_way : (es : List Event) (i : ℕ) → is_under_way es i ≡ true → (i < arrived es) × (is_done es i ≡ false)
under_way es i is =
    let both = and_parts (nat_lt i (arrived es)) (not (is_done es i)) is in
    (ltb-true i (arrived es) both.0, is_not (is_done es i) both.1)

pub fetch_may_fail : FetchMayFail
fetch_may_fail key h i path refused way is =
    let o = h.opening in
    let es = reverse h.events in
    let leaf = fetched_leaf o es i in
    let found = refused_node key o.shape (is_resident o es) (newest_version es) (kept_tag key o es) leaf path refused is in
    let now = under_way es i way in
    may_fail o es i (node_at o.shape.l leaf found.0) refused (found.2, inl (now.0, now.1, node_on_path o.shape.l leaf found.0 found.1)) found.3

pub leaf_may_fail : LeafMayFail
leaf_may_fail key h leaf path refused small done acked is =
    let o = h.opening in
    let es = reverse h.events in
    let found = refused_node key o.shape (is_passed o es leaf) (newest_version es) (kept_tag key o es) leaf path refused is in
    let node = node_at o.shape.l leaf found.0 in
    let away = or_parts (is_resident o es node) (is_met o.shape.l leaf node) found.2 in
    may_fail o es (2 ^ 32 + leaf) node refused (away.0, inr (leaf, small, refl, node_on_path o.shape.l leaf found.0 found.1, done, acked)) found.3

-- ---- Dones

pub fetch_may_be_done : FetchMayBeDone
fetch_may_be_done key h i path taken way read =
    let o = h.opening in
    let es = reverse h.events in
    let now = under_way es i way in
    let latest = read_is_latest key o.shape (is_resident o es) (newest_version es) (kept_tag key o es) (fetched_leaf o es i) path taken read in
    record { arrived = now.0; under_way = now.1; nodes = read.nodes; in_form = read.in_form; versions = latest.versions }

-- what holds of all buckets holds of the node's
found_in : (P : Bucket → Type 0) (node : ℕ) (buckets : List Bucket) (x : Bucket) → All P buckets → bucket_of node buckets ≡ Some x → P x
found_in P node [] x all is = absurd (true≢false (sym (ap is_some is)))
found_in P node (b ∷ buckets) x all is = either (nat_eq b.node node) is (found_in P node buckets x (All-tail P b buckets all))
  where
    either : (t : Bool) → cond t (Some b) (bucket_of node buckets) ≡ Some x → (bucket_of node buckets ≡ Some x → P x) → P x
    either true here later = subst P (same_Some b x here) (All-head P b buckets all)
    either false other later = later other

-- the latest version of a node has its number
written_version : (o : Opening) (es : List Event) (node : ℕ) (x : Bucket) → IsNumbered o → FollowsLawfully o es → newest_write o es node ≡ Some x → x.version ≡ newest_version es node
written_version o [] node x opens f is = found_in (λ b. b.version ≡ 0) node o.loaded x opens.versions is
written_version o (Arrive client op word ∷ es) node x opens f is = written_version o es node x opens f.0 is
written_version o (Done arrival taken ∷ es) node x opens f is = written_version o es node x opens f.0 is
written_version o (Issue version nonce buckets ∷ es) node x opens f is = either (bucket_of node buckets) refl is (written_version o es node x opens f.0)
  where
    either : (b : Option Bucket) → bucket_of node buckets ≡ b → option_or b (newest_write o es node) ≡ Some x → (newest_write o es node ≡ Some x → x.version ≡ newest_version es node)
        → x.version ≡ cond (is_some b) version (newest_version es node)
    either None e found earlier = earlier found
    either (Some y) e found earlier = found_in (λ b. b.version ≡ version) node buckets x f.2.versions (e ∙ found)
written_version o (Acked version ∷ es) node x opens f is = written_version o es node x opens f.0 is
written_version o (Fault cause ∷ es) node x opens f is = written_version o es node x opens f.0 is

pub done_has_tags : DoneHasTags
done_has_tags key h i path taken opens follows before read =
    let o = h.opening in
    let es = reverse h.events in
    let same : Bucket → Type 0 = λ bucket. IfSome (newest_write o es bucket.node) (HasTagOf key o.shape bucket) in
    (before, All-weaker (IsReadFrom key o.shape (newest_version es) (kept_tag key o es) (fetched_leaf o es i) path) same (λ bucket is. one o es bucket is.holds.version is.holds.tagged opens.numbered follows) taken read.each)
  where
    one : (o : Opening) (es : List Event) (bucket : Bucket) → bucket.version ≡ newest_version es bucket.node → (format_of o.shape.form (newest_version es bucket.node) ≡ 2 → tag_of key o.shape bucket ≡ kept_tag key o es bucket.node)
        → IsNumbered o → FollowsLawfully o es → IfSome (newest_write o es bucket.node) (HasTagOf key o.shape bucket)
    one o es bucket version tagged opens follows = either (newest_write o es bucket.node) refl
      where
        either : (x : Option Bucket) → newest_write o es bucket.node ≡ x → IfSome x (HasTagOf key o.shape bucket)
        either None is = tt
        either (Some written) is = λ two.
            tagged (ap (format_of o.shape.form) (sym (written_version o es bucket.node written opens follows is)) ∙ two) ∙ ap (λ x. option_map_or (tag_of key o.shape) x []) is

-- ---- forgeries

pub written_is_unforged : WrittenIsUnforged
written_is_unforged key s written = record { untagged = λ one. refl; tagged = λ two. inl refl }

one_or_two : (form : Form) (version : ℕ) → (format_of form version ≡ 1) ⊎ (format_of form version ≡ 2)
one_or_two One version = inl refl
one_or_two Two version = inr refl
one_or_two Turn version = either (cases_Bool (nat_eq version 0))
  where
    either : (nat_eq version 0 ≡ true) ⊎ (nat_eq version 0 ≡ false) → (format_of Turn version ≡ 1) ⊎ (format_of Turn version ≡ 2)
    either (inl first) = inl (cond-true (nat_eq version 0) 1 2 first)
    either (inr later) = inr (cond-false (nat_eq version 0) 1 2 later)

pub unforged_is_honest : (key : List ℕ) (s : Shape) (bucket written : Bucket) → IsUnforged key s bucket written → HasTagOf key s bucket written → HasEntriesOf bucket written
unforged_is_honest key s bucket written unforged tagged = either (one_or_two s.form written.version)
  where
    same : (bucket ≡ written) ⊎ (tag_of key s bucket ≢ tag_of key s written) → tag_of key s bucket ≡ tag_of key s written → bucket.entries ≡ written.entries
    same (inl is) tags = ap (λ b. b.entries) is
    same (inr other) tags = absurd (other tags)

    either : (format_of s.form written.version ≡ 1) ⊎ (format_of s.form written.version ≡ 2) → bucket.entries ≡ written.entries
    either (inl one) = unforged.untagged one
    either (inr two) = same (unforged.tagged two) (tagged two)

both : (key : List ℕ) (s : Shape) (bucket : Bucket) (o : Option Bucket) → IfSome o (IsUnforged key s bucket) → IfSome o (HasTagOf key s bucket) → IfSome o (HasEntriesOf bucket)
both key s bucket None unforged tagged = tt
both key s bucket (Some written) unforged tagged = unforged_is_honest key s bucket written unforged tagged

all_both : (key : List ℕ) (s : Shape) (written : ℕ → Option Bucket) (taken : List Bucket) → All (λ bucket. IfSome (written bucket.node) (IsUnforged key s bucket)) taken
    → All (λ bucket. IfSome (written bucket.node) (HasTagOf key s bucket)) taken → All (λ bucket. IfSome (written bucket.node) (HasEntriesOf bucket)) taken
all_both key s written [] unforged tagged = All-nil (λ bucket. IfSome (written bucket.node) (HasEntriesOf bucket))
all_both key s written (b ∷ taken) unforged tagged =
    let U : Bucket → Type 0 = λ bucket. IfSome (written bucket.node) (IsUnforged key s bucket) in
    let T : Bucket → Type 0 = λ bucket. IfSome (written bucket.node) (HasTagOf key s bucket) in
    All-cons (λ bucket. IfSome (written bucket.node) (HasEntriesOf bucket)) b taken
    (both key s b (written b.node) (All-head U b taken unforged) (All-head T b taken tagged))
    (all_both key s written taken (All-tail U b taken unforged) (All-tail T b taken tagged))

pub unaltered_is_honest : UnalteredIsHonest
unaltered_is_honest key h unforged tagged = honest (reverse h.events) unforged tagged
  where
    s : Shape
    s = h.opening.shape

    honest : (es : List Event) → Unaltered (IsUnforged key s) h.opening es → Unaltered (HasTagOf key s) h.opening es → Unaltered HasEntriesOf h.opening es
    honest [] u t = tt
    honest (Arrive client op word ∷ es) u t = honest es u t
    honest (Done arrival taken ∷ es) u t = (honest es u.0 t.0, all_both key s (newest_write h.opening es) taken u.1 t.1)
    honest (Issue version nonce buckets ∷ es) u t = honest es u t
    honest (Acked version ∷ es) u t = honest es u t
    honest (Fault cause ∷ es) u t = honest es u t

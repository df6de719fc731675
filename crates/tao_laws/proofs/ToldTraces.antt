-- A lawful record's requests, from its steps and the leaves of its fetches. Events and steps are newest first.
use Rattle.std.proofs.Common.{◌≡◌, ℕ, ◌+◌, ◌*◌, ◌<◌, cond, List, [], ◌∷◌, ◌++◌, filter, length, refl, sym, ap, ◌∙◌, arith, nat_eq, nat_lt}
use Rattle.std.specs.List.{range_with_len}
use Rattle.std.proofs.lemmas.List.{length-map}
use Rattle.std.proofs.lemmas.List.Elements.{filter_agree}
use Rattle.tao_base.specs.declared.session.Event.{Event}
use Rattle.tao_base.specs.declared.session.Event.TheVariants.{Arrive, Done, Issue, Acked, Fault}
use Rattle.tao_base.specs.declared.storage.Bucket.{Bucket}
use Rattle.tao_base.specs.Limits.{Shape}
use Rattle.tao_base.specs.Session.{Opening}
use Rattle.tao_base.specs.Tree.{node_count, is_on_path}
use Rattle.tao_model.specs.declared.trace.Request.{Request}
use Rattle.tao_model.specs.declared.trace.Request.TheVariants.{Load, Fetch, Store, Again}
use Rattle.tao_model.specs.Events.{arrived, dones, issues, buckets_issued}
use Rattle.tao_model.specs.Requests.{fetched_leaf}
use Rattle.tao_model.specs.Residence.{last_touch}
use Rattle.tao_model.specs.Trace.{nodes_in, requests, again_of}
use Rattle.tao_model.specs.Lawful.{FollowsLawfully, MayBeIssued}
use Rattle.tao_model.specs.Shapes.{Step, asks, takes_in, writes, acknowledges, steps_of}
use Rattle.tao_model.proofs.Places.{leaf_stays_later}

-- ---- requests rebuilt from the steps; `leaf` gives the leaf of each fetch

abbrev pub asked : List Step → ℕ
asked [] = 0
asked (asks client ∷ steps) = asked steps + 1
asked (takes_in arrival ∷ steps) = asked steps
asked (writes version ∷ steps) = asked steps
asked (acknowledges version ∷ steps) = asked steps

abbrev taken : List Step → ℕ
taken [] = 0
taken (asks client ∷ steps) = taken steps
taken (takes_in arrival ∷ steps) = taken steps + 1
taken (writes version ∷ steps) = taken steps
taken (acknowledges version ∷ steps) = taken steps

abbrev written : List Step → ℕ
written [] = 0
written (asks client ∷ steps) = written steps
written (takes_in arrival ∷ steps) = written steps
written (writes version ∷ steps) = written steps + 1
written (acknowledges version ∷ steps) = written steps

abbrev touch : Shape → (ℕ → ℕ) → List Step → ℕ → ℕ
touch s leaf [] node = 0
touch s leaf (asks client ∷ steps) node = touch s leaf steps node
touch s leaf (takes_in arrival ∷ steps) node = cond (is_on_path s.l (leaf arrival) node) (taken steps + 1) (touch s leaf steps node)
touch s leaf (writes version ∷ steps) node = touch s leaf steps node
touch s leaf (acknowledges version ∷ steps) node = touch s leaf steps node

-- the nodes of the next write-back
abbrev due_nodes : Shape → (ℕ → ℕ) → List Step → List ℕ
due_nodes s leaf steps = filter (λ node. nat_lt (written steps * s.k) (touch s leaf steps node)) (range_with_len 1 (node_count s.l))

abbrev all_buckets : Shape → (ℕ → ℕ) → List Step → ℕ
all_buckets s leaf [] = 0
all_buckets s leaf (asks client ∷ steps) = all_buckets s leaf steps
all_buckets s leaf (takes_in arrival ∷ steps) = all_buckets s leaf steps
all_buckets s leaf (writes version ∷ steps) = all_buckets s leaf steps + length (due_nodes s leaf steps)
all_buckets s leaf (acknowledges version ∷ steps) = all_buckets s leaf steps

abbrev first_nonce : Shape → (ℕ → ℕ) → List Step → ℕ
first_nonce s leaf steps = node_count s.l + 1 + all_buckets s leaf steps

abbrev pub told : Shape → (ℕ → ℕ) → List Step → List Request
told s leaf [] = Load (node_count s.l) ∷ []
told s leaf (asks client ∷ steps) = told s leaf steps ++ Fetch (asked steps) (leaf (asked steps)) ∷ []
told s leaf (takes_in arrival ∷ steps) = told s leaf steps
told s leaf (writes version ∷ steps) = told s leaf steps ++ Store version (first_nonce s leaf steps) (due_nodes s leaf steps) ∷ []
told s leaf (acknowledges version ∷ steps) = told s leaf steps

abbrev pub told_again : Shape → (ℕ → ℕ) → List Step → ℕ → List Request
told_again s leaf [] v = []
told_again s leaf (asks client ∷ steps) v = told_again s leaf steps v
told_again s leaf (takes_in arrival ∷ steps) v = told_again s leaf steps v
told_again s leaf (writes version ∷ steps) v =
    cond (nat_eq version v) (Again version (first_nonce s leaf steps) (due_nodes s leaf steps) ∷ []) (told_again s leaf steps v)
told_again s leaf (acknowledges version ∷ steps) v = told_again s leaf steps v

-- ---- the record agrees with what is rebuilt from its steps

pub asked_is : (es : List Event) → arrived es ≡ asked (steps_of es)
asked_is [] = refl
asked_is (Arrive client op word ∷ es) = ap (λ n. n + 1) (asked_is es)
asked_is (Done arrival buckets ∷ es) = asked_is es
asked_is (Issue version nonce buckets ∷ es) = asked_is es
asked_is (Acked version ∷ es) = asked_is es
asked_is (Fault cause ∷ es) = asked_is es

taken_is : (es : List Event) → dones es ≡ taken (steps_of es)
taken_is [] = refl
taken_is (Arrive client op word ∷ es) = taken_is es
taken_is (Done arrival buckets ∷ es) = ap (λ n. n + 1) (taken_is es)
taken_is (Issue version nonce buckets ∷ es) = taken_is es
taken_is (Acked version ∷ es) = taken_is es
taken_is (Fault cause ∷ es) = taken_is es

written_is : (es : List Event) → issues es ≡ written (steps_of es)
written_is [] = refl
written_is (Arrive client op word ∷ es) = written_is es
written_is (Done arrival buckets ∷ es) = written_is es
written_is (Issue version nonce buckets ∷ es) = ap (λ n. n + 1) (written_is es)
written_is (Acked version ∷ es) = written_is es
written_is (Fault cause ∷ es) = written_is es

-- the arrivals fetch these leaves
abbrev pub Fetches : Opening → List Event → (ℕ → ℕ) → Type 0
Fetches o es leaf = (i : ℕ) → i < arrived es → fetched_leaf o es i ≡ leaf i

arrived_more : (e : Event) (es : List Event) (i : ℕ) → i < arrived es → i < arrived (e ∷ es)
arrived_more (Arrive client op word) es i h = omega arith
arrived_more (Done arrival buckets) es i h = h
arrived_more (Issue version nonce buckets) es i h = h
arrived_more (Acked version) es i h = h
arrived_more (Fault cause) es i h = h

-- the same before the newest event
earlier_fetches : (o : Opening) (e : Event) (es : List Event) (leaf : ℕ → ℕ) → FollowsLawfully o es → Fetches o (e ∷ es) leaf → Fetches o es leaf
earlier_fetches o e es leaf f same i h = sym (leaf_stays_later o (e ∷ []) es i f h) ∙ same i (arrived_more e es i h)

touch_is : (o : Opening) (es : List Event) (leaf : ℕ → ℕ) (node : ℕ) → FollowsLawfully o es → Fetches o es leaf → last_touch o es node ≡ touch o.shape leaf (steps_of es) node
touch_is o [] leaf node f same = refl
touch_is o (Arrive client op word ∷ es) leaf node f same = touch_is o es leaf node f.0 (earlier_fetches o (Arrive client op word) es leaf f.0 same)
touch_is o (Done arrival buckets ∷ es) leaf node f same =
    let before : Fetches o es leaf = earlier_fetches o (Done arrival buckets) es leaf f.0 same in
    rw (before arrival f.2.1.arrived, taken_is es, touch_is o es leaf node f.0 before) refl
touch_is o (Issue version nonce buckets ∷ es) leaf node f same = touch_is o es leaf node f.0 (earlier_fetches o (Issue version nonce buckets) es leaf f.0 same)
touch_is o (Acked version ∷ es) leaf node f same = touch_is o es leaf node f.0 (earlier_fetches o (Acked version) es leaf f.0 same)
touch_is o (Fault cause ∷ es) leaf node f same = touch_is o es leaf node f.0 (earlier_fetches o (Fault cause) es leaf f.0 same)

nodes_are : (o : Opening) (es : List Event) (leaf : ℕ → ℕ) (version nonce : ℕ) (buckets : List Bucket) → FollowsLawfully o es → Fetches o es leaf → MayBeIssued o es version nonce buckets
    → nodes_in buckets ≡ due_nodes o.shape leaf (steps_of es)
nodes_are o es leaf version nonce buckets f same m =
    m.nodes
    ∙ filter_agree (λ node. nat_lt (issues es * o.shape.k) (last_touch o es node)) (λ node. nat_lt (written (steps_of es) * o.shape.k) (touch o.shape leaf (steps_of es) node))
    (λ node. rw (written_is es, touch_is o es leaf node f same) refl) (range_with_len 1 (node_count o.shape.l))

buckets_are : (o : Opening) (es : List Event) (leaf : ℕ → ℕ) → FollowsLawfully o es → Fetches o es leaf → buckets_issued es ≡ all_buckets o.shape leaf (steps_of es)
buckets_are o [] leaf f same = refl
buckets_are o (Arrive client op word ∷ es) leaf f same = buckets_are o es leaf f.0 (earlier_fetches o (Arrive client op word) es leaf f.0 same)
buckets_are o (Done arrival buckets ∷ es) leaf f same = buckets_are o es leaf f.0 (earlier_fetches o (Done arrival buckets) es leaf f.0 same)
buckets_are o (Issue version nonce buckets ∷ es) leaf f same =
    let before : Fetches o es leaf = earlier_fetches o (Issue version nonce buckets) es leaf f.0 same in
    let long : length buckets ≡ length (due_nodes o.shape leaf (steps_of es)) =
    sym (length-map buckets (λ bucket. bucket.node)) ∙ ap length (nodes_are o es leaf version nonce buckets f.0 before f.2) in
    rw (buckets_are o es leaf f.0 before, long) refl
buckets_are o (Acked version ∷ es) leaf f same = buckets_are o es leaf f.0 (earlier_fetches o (Acked version) es leaf f.0 same)
buckets_are o (Fault cause ∷ es) leaf f same = buckets_are o es leaf f.0 (earlier_fetches o (Fault cause) es leaf f.0 same)

nonce_is : (o : Opening) (es : List Event) (leaf : ℕ → ℕ) (version nonce : ℕ) (buckets : List Bucket) → FollowsLawfully o es → Fetches o es leaf → MayBeIssued o es version nonce buckets
    → nonce ≡ first_nonce o.shape leaf (steps_of es)
nonce_is o es leaf version nonce buckets f same m = m.counts_on ∙ ap (λ n. node_count o.shape.l + 1 + n) (buckets_are o es leaf f same)

pub told_is : (o : Opening) (es : List Event) (leaf : ℕ → ℕ) → FollowsLawfully o es → Fetches o es leaf → requests o es ≡ told o.shape leaf (steps_of es)
told_is o [] leaf f same = refl
told_is o (Arrive client op word ∷ es) leaf f same =
    ap (λ r. r ++ Fetch (arrived es) (fetched_leaf o (Arrive client op word ∷ es) (arrived es)) ∷ []) (told_is o es leaf f.0 (earlier_fetches o (Arrive client op word) es leaf f.0 same))
    ∙ ap (λ x. told o.shape leaf (steps_of es) ++ Fetch (arrived es) x ∷ []) (same (arrived es) (omega arith))
    ∙ ap (λ n. told o.shape leaf (steps_of es) ++ Fetch n (leaf n) ∷ []) (asked_is es)
told_is o (Done arrival buckets ∷ es) leaf f same = told_is o es leaf f.0 (earlier_fetches o (Done arrival buckets) es leaf f.0 same)
told_is o (Issue version nonce buckets ∷ es) leaf f same =
    let before : Fetches o es leaf = earlier_fetches o (Issue version nonce buckets) es leaf f.0 same in
    ap (λ r. r ++ Store version nonce (nodes_in buckets) ∷ []) (told_is o es leaf f.0 before)
    ∙ ap (λ x. told o.shape leaf (steps_of es) ++ Store version x (nodes_in buckets) ∷ []) (nonce_is o es leaf version nonce buckets f.0 before f.2)
    ∙ ap (λ x. told o.shape leaf (steps_of es) ++ Store version (first_nonce o.shape leaf (steps_of es)) x ∷ []) (nodes_are o es leaf version nonce buckets f.0 before f.2)
told_is o (Acked version ∷ es) leaf f same = told_is o es leaf f.0 (earlier_fetches o (Acked version) es leaf f.0 same)
told_is o (Fault cause ∷ es) leaf f same = told_is o es leaf f.0 (earlier_fetches o (Fault cause) es leaf f.0 same)

pub again_is : (o : Opening) (es : List Event) (leaf : ℕ → ℕ) (v : ℕ) → FollowsLawfully o es → Fetches o es leaf → again_of es v ≡ told_again o.shape leaf (steps_of es) v
again_is o [] leaf v f same = refl
again_is o (Arrive client op word ∷ es) leaf v f same = again_is o es leaf v f.0 (earlier_fetches o (Arrive client op word) es leaf f.0 same)
again_is o (Done arrival buckets ∷ es) leaf v f same = again_is o es leaf v f.0 (earlier_fetches o (Done arrival buckets) es leaf f.0 same)
again_is o (Issue version nonce buckets ∷ es) leaf v f same =
    let before : Fetches o es leaf = earlier_fetches o (Issue version nonce buckets) es leaf f.0 same in
    ap (λ r. cond (nat_eq version v) (Again version nonce (nodes_in buckets) ∷ []) r) (again_is o es leaf v f.0 before)
    ∙ ap (λ x. cond (nat_eq version v) (Again version x (nodes_in buckets) ∷ []) (told_again o.shape leaf (steps_of es) v)) (nonce_is o es leaf version nonce buckets f.0 before f.2)
    ∙ ap (λ x. cond (nat_eq version v) (Again version (first_nonce o.shape leaf (steps_of es)) x ∷ []) (told_again o.shape leaf (steps_of es) v))
    (nodes_are o es leaf version nonce buckets f.0 before f.2)
again_is o (Acked version ∷ es) leaf v f same = again_is o es leaf v f.0 (earlier_fetches o (Acked version) es leaf f.0 same)
again_is o (Fault cause ∷ es) leaf v f same = again_is o es leaf v f.0 (earlier_fetches o (Fault cause) es leaf f.0 same)

-- A step that isn't misplaced can be played. Moves and events are newest first.
use Rattle.std.proofs.Common.{◌≡◌, ℕ, ◌+◌, ◌<◌, ◌≤◌, Bool, true, false, not, ◌&&◌, List, [], ◌∷◌, ◌++◌, map, filter, reverse, length, Some, None, refl, sym, ap, ◌∙◌, subst, arith, inl, inr, ◌⊎◌, nat_eq}
use Rattle.std.specs.List.{list_all}
use Rattle.std.proofs.lemmas.Bool.{cases_lt, eq-eqb, eqb-true, ne_eqb, true≢false, and_parts, or_cases, or_from, and_right, or_left, or_right, false_from_ne_true, not-true, not-false}
use Rattle.std.proofs.lemmas.List.{reverse-append, reverse-reverse, append_assoc}
use Rattle.std.proofs.lemmas.List.FromFn.{get_or-map-range_with_len, length-map-range_with_len}
use Rattle.tao_base.specs.declared.session.Event.{Event}
use Rattle.tao_base.specs.Session.{Opening}
use Rattle.tao_base.specs.Tree.{node_at, path, node_count}
use Rattle.tao_base.specs.Limits.{session_limit}
use Rattle.tao_model.specs.Events.{arrived, is_under_way, is_outstanding}
use Rattle.tao_model.specs.Requests.{fetches, fetched_leaf}
use Rattle.tao_model.specs.Residence.{is_issued}
use Rattle.tao_model.specs.Lawful.{FollowsLawfully}
use Rattle.tao_model.specs.Passes.{Falls}
use Rattle.tao_model.proofs.FallingPaths.{has, has_below, has_reverse, on_path_has, path_falls}
use Rattle.tao_model.proofs.LawfulToWhole.{arrived_within}
use Rattle.tao_laws.proofs.Listings.{HasOnce, has_filter, once_append, once_filter, listed_at}
use Rattle.tao_laws.proofs.RecentNodes.{leaf_low}
use Rattle.tao_text.specs.declared.script.What.{What}
use Rattle.tao_schedule.specs.Moves.{Move, Serves, Applies, is_served, is_applied, nodes_issued}
use Rattle.tao_schedule.specs.Schedules.{Goes, GoOn}
use Rattle.tao_schedule.specs.Steps.{is_misplaced, is_full, moves_of}
use Rattle.tao_schedule.specs.Laws.{ChangesNone, PlacedMayGo}
use Rattle.tao_schedule.proofs.ToldEvents.{issued_has}

-- ---- a path has each node once

falls_once : (k : ℕ) (nodes : List ℕ) → Falls k nodes → HasOnce nodes
falls_once k [] f = tt
falls_once k (w ∷ nodes) f =
    (false_from_ne_true (has w nodes) (λ h. let below = (has_below w w nodes f.2 h).1 in omega arith), falls_once w nodes f.2)

once_reverse : (xs : List ℕ) → HasOnce xs → HasOnce (reverse xs)
once_reverse [] a = tt
once_reverse (x ∷ xs) a =
    subst HasOnce (sym (reverse-append (x ∷ []) xs))
    (once_append (reverse xs) (x ∷ []) (once_reverse xs a.1) (refl, tt) (λ w h. or_from (nat_eq x w) false (ne_eqb x w (λ same. other w h same)) refl))
  where
    other : (w : ℕ) → has w (reverse xs) ≡ true → x ≡ w → ⊥
    other w h same = true≢false (sym (ap (λ u. has u xs) same ∙ sym (has_reverse w xs) ∙ h) ∙ a.0)

path_once : (o : Opening) (es : List Event) (i : ℕ) → HasOnce (path o.shape.l (fetched_leaf o es i))
path_once o es i =
    subst HasOnce (reverse-reverse (path o.shape.l (fetched_leaf o es i)))
    (once_reverse (reverse (path o.shape.l (fetched_leaf o es i))) (falls_once (node_count o.shape.l + 1) (reverse (path o.shape.l (fetched_leaf o es i)))
    (path_falls o.shape.l (fetched_leaf o es i) (leaf_low o es i))))

-- ---- reads and puts

onto_more : (m : Move) (moves ms : List Move) → reverse (m ∷ moves) ++ ms ≡ reverse moves ++ (m ∷ ms)
onto_more m moves ms = ap (λ l. l ++ ms) (reverse-append (m ∷ []) moves) ∙ append_assoc (reverse moves) (m ∷ []) ms

serves_go : (o : Opening) (ms : List Move) (es : List Event) (i : ℕ) (xs : List ℕ) → is_under_way es i ≡ true → HasOnce xs
    → ((w : ℕ) → has w xs ≡ true → (fetches o es i w ≡ true) × (is_served ms i w ≡ false)) → ChangesNone o ms es (map (Serves i) xs)
unfolding GoOn Goes
serves_go o ms es i [] way once h = (refl, refl)
serves_go o ms es i (x ∷ xs) way once h =
    let here = h x (or_left (nat_eq x x) (has x xs) (eq-eqb x x refl)) in (
      es,
      (way, here.0, here.1, refl),
      subst (λ l. GoOn o (Serves i x ∷ ms) es (map (Serves i) xs) l es) (sym (onto_more (Serves i x) (map (Serves i) xs) ms))
          (serves_go o (Serves i x ∷ ms) es i xs way once.1 (λ w there. let both = h w (or_right (nat_eq x w) (has w xs) there) in (
            both.0,
            or_from (nat_eq i i && nat_eq x w) (is_served ms i w) (and_right (nat_eq i i) (nat_eq x w) (ne_eqb x w (λ same. true≢false (sym (ap (λ u. has u xs) same ∙ there) ∙ once.0)))) both.1,
          ))),
    )

applies_go : (o : Opening) (ms : List Move) (es : List Event) (v : ℕ) (xs : List ℕ) → is_outstanding es v ≡ true → ((w : ℕ) → has w xs ≡ true → is_issued es v w ≡ true)
    → ChangesNone o ms es (map (Applies v) xs)
unfolding GoOn Goes
applies_go o ms es v [] out h = (refl, refl)
applies_go o ms es v (x ∷ xs) out h = (
  es,
  (out, h x (or_left (nat_eq x x) (has x xs) (eq-eqb x x refl)), refl),
  subst (λ l. GoOn o (Applies v x ∷ ms) es (map (Applies v) xs) l es) (sym (onto_more (Applies v x) (map (Applies v) xs) ms))
      (applies_go o (Applies v x ∷ ms) es v xs out (λ w there. h w (or_right (nat_eq x w) (has w xs) there))),
)

all_has : (passes : ℕ → Bool) (xs : List ℕ) → list_all passes xs ≡ true → (w : ℕ) → has w xs ≡ true → passes w ≡ true
all_has passes [] all w h = absurd (true≢false (sym h))
all_has passes (x ∷ xs) all w h =
    let parts = and_parts (passes x) (list_all passes xs) all in
    either parts.0 (or_cases (nat_eq x w) (has w xs) h) (λ later. all_has passes xs parts.1 w later)
  where
    either : passes x ≡ true → (nat_eq x w ≡ true) ⊎ (has w xs ≡ true) → (has w xs ≡ true → passes w ≡ true) → passes w ≡ true
    either here (inl same) ih = subst (λ u. passes u ≡ true) (eqb-true x w same) here
    either here (inr later) ih = ih later

filtered : (passes : ℕ → Bool) (xs : List ℕ) (w : ℕ) → has w (filter passes xs) ≡ true → (passes w ≡ true) × (has w xs ≡ true)
filtered passes xs w h = and_parts (passes w) (has w xs) (sym (has_filter passes w xs) ∙ h)

reads_go : (o : Opening) (ms : List Move) (es : List Event) (fetch : ℕ) → is_under_way es fetch ≡ true
    → ChangesNone o ms es (map (Serves fetch) (filter (λ node. not (is_served ms fetch node)) (path o.shape.l (fetched_leaf o es fetch))))
reads_go o ms es fetch way =
    serves_go o ms es fetch (filter (λ node. not (is_served ms fetch node)) (path o.shape.l (fetched_leaf o es fetch))) way
    (once_filter (λ node. not (is_served ms fetch node)) (path o.shape.l (fetched_leaf o es fetch)) (path_once o es fetch))
    (λ w h. let both = filtered (λ node. not (is_served ms fetch node)) (path o.shape.l (fetched_leaf o es fetch)) w h in
    (on_path_has o.shape.l (fetched_leaf o es fetch) w ∙ both.1, not-true (is_served ms fetch w) both.0))

-- the node at each depth of a path is on it
depth_on : (o : Opening) (es : List Event) (i depth : ℕ) → depth ≤ o.shape.l → fetches o es i (node_at o.shape.l (fetched_leaf o es i) depth) ≡ true
depth_on o es i depth low =
    let long : length (path o.shape.l (fetched_leaf o es i)) ≡ o.shape.l + 1 = length-map-range_with_len (node_at o.shape.l (fetched_leaf o es i)) 0 (o.shape.l + 1) in
    on_path_has o.shape.l (fetched_leaf o es i) (node_at o.shape.l (fetched_leaf o es i) depth)
    ∙ ap (λ w. has w (path o.shape.l (fetched_leaf o es i))) (sym (get_or-map-range_with_len (node_at o.shape.l (fetched_leaf o es i)) 0 (o.shape.l + 1) depth depth 0 (omega arith) (omega arith)))
    ∙ listed_at (path o.shape.l (fetched_leaf o es i)) depth (omega arith)

read_one : (o : Opening) (ms : List Move) (es : List Event) (fetch depth : ℕ) → depth ≤ o.shape.l → is_misplaced o ms es (What.Read fetch (Some depth)) ≡ false
    → ChangesNone o ms es (Serves fetch (node_at o.shape.l (fetched_leaf o es fetch) depth) ∷ [])
unfolding is_misplaced GoOn Goes
read_one o ms es fetch depth low may =
    let both = and_parts (is_under_way es fetch) (not (is_served ms fetch (node_at o.shape.l (fetched_leaf o es fetch) depth)))
    (not-false (is_under_way es fetch && not (is_served ms fetch (node_at o.shape.l (fetched_leaf o es fetch) depth))) may) in
    (es, (both.0, depth_on o es fetch depth low, not-true (is_served ms fetch (node_at o.shape.l (fetched_leaf o es fetch) depth)) both.1, refl), (refl, refl))

puts_go : (o : Opening) (ms : List Move) (es : List Event) (v : ℕ) → FollowsLawfully o es → is_outstanding es v ≡ true
    → ChangesNone o ms es (map (Applies v) (filter (λ node. not (is_applied ms v node)) (nodes_issued es v)))
puts_go o ms es v f out =
    applies_go o ms es v (filter (λ node. not (is_applied ms v node)) (nodes_issued es v)) out
    (λ w h. issued_has o es v w f ∙ (filtered (λ node. not (is_applied ms v node)) (nodes_issued es v) w h).1)

put_one : (o : Opening) (ms : List Move) (es : List Event) (v node : ℕ) → is_misplaced o ms es (What.Put v (Some node)) ≡ false → ChangesNone o ms es (Applies v node ∷ [])
unfolding is_misplaced GoOn Goes
put_one o ms es v node may =
    let both = and_parts (is_outstanding es v) (is_issued es v node && not (is_applied ms v node)) (not-false (is_outstanding es v && (is_issued es v node && not (is_applied ms v node))) may) in
    let inner = and_parts (is_issued es v node) (not (is_applied ms v node)) both.1 in
    (es, (both.0, inner.0, refl), (refl, refl))

has_room : (o : Opening) (es : List Event) → FollowsLawfully o es → nat_eq (arrived es) (session_limit o.shape) ≡ false → arrived es < session_limit o.shape
has_room o es f full =
    either (cases_lt (arrived es) (session_limit o.shape))
  where
    either : (arrived es < session_limit o.shape) ⊎ (session_limit o.shape ≤ arrived es) → arrived es < session_limit o.shape
    either (inl low) = low
    either (inr high) = let within = arrived_within o es f in absurd (true≢false (sym (eq-eqb (arrived es) (session_limit o.shape) (omega arith)) ∙ full))

pub placed_may_go : PlacedMayGo
unfolding is_misplaced is_full moves_of Goes
placed_may_go o ms es (What.Do client op) f r may full = has_room o es f full
placed_may_go o ms es (What.A client op) f r may full = has_room o es f full
placed_may_go o ms es (What.Read fetch None) f r may full = reads_go o ms es fetch (not-false (is_under_way es fetch) may)
placed_may_go o ms es (What.Read fetch (Some depth)) f r may full = read_one o ms es fetch depth r may
placed_may_go o ms es (What.Done fetch) f r may full =
    let both = and_parts (is_under_way es fetch) (list_all (is_served ms fetch) (path o.shape.l (fetched_leaf o es fetch)))
    (not-false (is_under_way es fetch && list_all (is_served ms fetch) (path o.shape.l (fetched_leaf o es fetch))) may) in
    (both.0, λ node on. all_has (is_served ms fetch) (path o.shape.l (fetched_leaf o es fetch)) both.1 node (sym (on_path_has o.shape.l (fetched_leaf o es fetch) node) ∙ on))
placed_may_go o ms es (What.Put version None) f r may full = puts_go o ms es version f (not-false (is_outstanding es version) may)
placed_may_go o ms es (What.Put version (Some node)) f r may full = put_one o ms es version node may
placed_may_go o ms es (What.Ack version) f r may full =
    let both = and_parts (is_outstanding es version) (list_all (is_applied ms version) (nodes_issued es version))
    (not-false (is_outstanding es version && list_all (is_applied ms version) (nodes_issued es version)) may) in
    (both.0, λ node on. all_has (is_applied ms version) (nodes_issued es version) both.1 node (sym (issued_has o es version node f) ∙ on), refl)

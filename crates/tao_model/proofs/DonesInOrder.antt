-- Dones in order, and the last Done that touched a node. The events `es` are newest first.
use Rattle.std.proofs.Common.{◌≡◌, ℕ, ◌+◌, ◌-◌, ◌<◌, ◌≤◌, Bool, true, false, ◌||◌, List, [], ◌∷◌, ◌++◌, map, reverse, length, drop, get_or, Option, None, refl, sym, ap, ◌∙◌, subst, arith, inl, inr, ◌⊎◌, nat_lt, Any}
use Rattle.std.specs.List.{filter_map, cons_option, list_any, range_with_len}
use Rattle.std.proofs.lemmas.Bool.{cases_lt, ltb-true, lt-ltb, true≢false}
use Rattle.std.proofs.lemmas.List.{reverse-append, reverse-reverse, append-nil, get_or_append_left, get_or_push, length-drop, get_or-drop, length_push, get_or_default}
use Rattle.std.proofs.lemmas.List.Elements.{filter_map-append, filter_agree}
use Rattle.std.proofs.lemmas.List.Folds.{list_any_at, Any-from_list_any}
use Rattle.tao_base.specs.declared.session.Event.{Event}
use Rattle.tao_base.specs.declared.session.Event.TheVariants.{Arrive, Done, Issue, Acked, Fault}
use Rattle.tao_base.specs.declared.storage.Bucket.{Bucket}
use Rattle.tao_base.specs.Session.{Opening}
use Rattle.tao_base.specs.Tree.{is_on_path, node_count}
use Rattle.tao_model.specs.Greatest.{IsGreatest}
use Rattle.tao_model.specs.Events.{arrived, dones}
use Rattle.tao_model.specs.Requests.{fetched_leaf, fetches}
use Rattle.tao_model.specs.Residence.{last_touch}
use Rattle.tao_model.specs.Lawful.{FollowsLawfully}
use Rattle.tao_model.specs.LookBacks.{done_of, done_arrivals, arrival_done, LastTouchIsLast, TouchedAreNodes}
use Rattle.tao_model.proofs.GreatestNumbers.{greatest_step, greatest_none, greatest_same}
use Rattle.tao_model.proofs.Places.{leaf_stays_later}

-- what is picked from a record's events after one more event
pub picked_more : {Y : Type 0} (pick : Event → Option Y) (es : List Event) (e : Event)
    → filter_map pick (reverse (e ∷ es)) ≡ filter_map pick (reverse es) ++ cons_option (pick e) []
picked_more pick es e = ap (filter_map pick) (reverse-append (e ∷ []) es) ∙ filter_map-append pick (reverse es) (e ∷ [])

pub picked_same : {Y : Type 0} (pick : Event → Option Y) (es : List Event) (e : Event) → pick e ≡ None → filter_map pick (reverse (e ∷ es)) ≡ filter_map pick (reverse es)
picked_same pick es e none = picked_more pick es e ∙ ap (λ o. filter_map pick (reverse es) ++ cons_option o []) none ∙ append-nil (filter_map pick (reverse es))

pub dones_listed : (es : List Event) → length (done_arrivals (reverse es)) ≡ dones es
dones_listed [] = refl
dones_listed (Arrive client op word ∷ es) = ap length (picked_same done_of es (Arrive client op word) refl) ∙ dones_listed es
dones_listed (Done arrival taken ∷ es) = ap length (picked_more done_of es (Done arrival taken)) ∙ length_push (done_arrivals (reverse es)) arrival ∙ ap (λ n. n + 1) (dones_listed es)
dones_listed (Issue version nonce buckets ∷ es) = ap length (picked_same done_of es (Issue version nonce buckets) refl) ∙ dones_listed es
dones_listed (Acked version ∷ es) = ap length (picked_same done_of es (Acked version) refl) ∙ dones_listed es
dones_listed (Fault cause ∷ es) = ap length (picked_same done_of es (Fault cause) refl) ∙ dones_listed es

-- one more event keeps the arrivals of the earlier Dones
done_stays_at : (es : List Event) (e : Event) (k : ℕ) → k < dones es → get_or (done_arrivals (reverse (e ∷ es))) k 0 ≡ get_or (done_arrivals (reverse es)) k 0
done_stays_at es e k h =
    let len = dones_listed es in
    ap (λ l. get_or l k 0) (picked_more done_of es e) ∙ get_or_append_left (done_arrivals (reverse es)) (cons_option (done_of e) []) 0 k (omega arith)

pub done_newest : (es : List Event) (arrival : ℕ) (taken : List Bucket) → get_or (done_arrivals (reverse (Done arrival taken ∷ es))) (dones es) 0 ≡ arrival
done_newest es arrival taken = ap (λ l. get_or l (dones es) 0) (picked_more done_of es (Done arrival taken)) ∙ get_or_push (done_arrivals (reverse es)) arrival 0 (dones es) (dones_listed es)

-- each Done belongs to an arrival
pub done_below : (o : Opening) (es : List Event) (k : ℕ) → FollowsLawfully o es → k < dones es → get_or (done_arrivals (reverse es)) k 0 < arrived es
done_below o [] k f h = absurd (omega arith)
done_below o (Arrive client op word ∷ es) k f h = let below = done_below o es k f.0 h in rw (done_stays_at es (Arrive client op word) k h) (omega arith)
done_below o (Done arrival taken ∷ es) k f h = either (cases_lt k (dones es)) (λ older. done_below o es k f.0 older)
  where
    either : (k < dones es) ⊎ (dones es ≤ k) → (k < dones es → get_or (done_arrivals (reverse es)) k 0 < arrived es)
        → get_or (done_arrivals (reverse (Done arrival taken ∷ es))) k 0 < arrived es
    either (inl older) ih = rw (done_stays_at es (Done arrival taken) k older) (ih older)
    either (inr newest) ih =
        let there = f.2.1.arrived in
        let at : k ≡ dones es = omega arith in
        rw (ap (λ j. get_or (done_arrivals (reverse (Done arrival taken ∷ es))) j 0) at ∙ done_newest es arrival taken) (omega arith)
done_below o (Issue version nonce buckets ∷ es) k f h = rw (done_stays_at es (Issue version nonce buckets) k h) (done_below o es k f.0 h)
done_below o (Acked version ∷ es) k f h = rw (done_stays_at es (Acked version) k h) (done_below o es k f.0 h)
done_below o (Fault cause ∷ es) k f h = rw (done_stays_at es (Fault cause) k h) (done_below o es k f.0 h)

-- ---- the last touch

-- whether the path of the Done with this number has the node
abbrev touches : Opening → List Event → ℕ → ℕ → Bool
touches o es node number = fetches o es (arrival_done (reverse es) number) node

pub fetch_stays : (o : Opening) (es : List Event) (e : Event) (i node : ℕ) → FollowsLawfully o es → i < arrived es → fetches o (e ∷ es) i node ≡ fetches o es i node
fetch_stays o es e i node f h = ap (λ leaf. is_on_path o.shape.l leaf node) (leaf_stays_later o (e ∷ []) es i f h)

touches_stays : (o : Opening) (es : List Event) (e : Event) (node number : ℕ) → FollowsLawfully o es → 0 < number → number ≤ dones es
    → touches o (e ∷ es) node number ≡ touches o es node number
touches_stays o es e node number f some within =
    ap (λ i. fetches o (e ∷ es) i node) (done_stays_at es e (number - 1) (omega arith))
    ∙ fetch_stays o es e (arrival_done (reverse es) number) node f (done_below o es (number - 1) f (omega arith))

pub last_touch_from : (o : Opening) (es : List Event) (node : ℕ) → FollowsLawfully o es → IsGreatest (touches o es node) (dones es) (last_touch o es node)
last_touch_from o [] node f = greatest_none (touches o [] node)
last_touch_from o (Arrive client op word ∷ es) node f = greatest_same (touches o es node) (touches o (Arrive client op word ∷ es) node) (dones es) (last_touch o es node)
    (λ number some within. touches_stays o es (Arrive client op word) node number f.0 some within) (last_touch_from o es node f.0)
last_touch_from o (Done arrival taken ∷ es) node f =
    greatest_step (touches o (Done arrival taken ∷ es) node) (dones es) (last_touch o es node) (fetches o es arrival node)
    (ap (λ i. fetches o (Done arrival taken ∷ es) i node) (ap (λ k. get_or (done_arrivals (reverse (Done arrival taken ∷ es))) k 0) (omega arith) ∙ done_newest es arrival taken)
    ∙ fetch_stays o es (Done arrival taken) arrival node f.0 f.2.1.arrived)
    (greatest_same (touches o es node) (touches o (Done arrival taken ∷ es) node) (dones es) (last_touch o es node)
    (λ number some within. touches_stays o es (Done arrival taken) node number f.0 some within) (last_touch_from o es node f.0))
last_touch_from o (Issue version nonce buckets ∷ es) node f = greatest_same (touches o es node) (touches o (Issue version nonce buckets ∷ es) node) (dones es) (last_touch o es node)
    (λ number some within. touches_stays o es (Issue version nonce buckets) node number f.0 some within) (last_touch_from o es node f.0)
last_touch_from o (Acked version ∷ es) node f = greatest_same (touches o es node) (touches o (Acked version ∷ es) node) (dones es) (last_touch o es node)
    (λ number some within. touches_stays o es (Acked version) node number f.0 some within) (last_touch_from o es node f.0)
last_touch_from o (Fault cause ∷ es) node f = greatest_same (touches o es node) (touches o (Fault cause ∷ es) node) (dones es) (last_touch o es node)
    (λ number some within. touches_stays o es (Fault cause) node number f.0 some within) (last_touch_from o es node f.0)

pub last_touch_is_last : LastTouchIsLast
last_touch_is_last o events node f =
    subst (λ told. IsGreatest (λ number. fetches o (reverse events) (arrival_done told number) node) (dones (reverse events)) (last_touch o (reverse events) node))
    (reverse-reverse events) (last_touch_from o (reverse events) node f)

-- ---- the nodes of later Dones

same_tests : (a b : Bool) → (a ≡ true → b ≡ true) → (b ≡ true → a ≡ true) → a ≡ b
same_tests true b there back = sym (there refl)
same_tests false true there back = back refl
same_tests false false there back = refl

touched_on : (o : Opening) (es : List Event) (number node : ℕ) → FollowsLawfully o es
    → nat_lt number (last_touch o es node) ≡ list_any (λ i. fetches o es i node) (drop number (done_arrivals (reverse es)))
touched_on o es number node f = same_tests (nat_lt number (last_touch o es node)) (list_any (λ i. fetches o es i node) (drop number done)) there back
  where
    done : List ℕ
    done = done_arrivals (reverse es)

    last : ℕ
    last = last_touch o es node

    is : IsGreatest (touches o es node) (dones es) last
    is = last_touch_from o es node f

    there : nat_lt number last ≡ true → list_any (λ i. fetches o es i node) (drop number done) ≡ true
    there h =
        let above = ltb-true number last h in
        let within = is.within in
        let all = dones_listed es in
        let short = length-drop number done in
        list_any_at (λ i. fetches o es i node) (drop number done) (last - 1 - number) 0 (omega arith)
        (ap (λ i. fetches o es i node) (get_or-drop number done (last - 1 - number) 0 ∙ ap (λ k. get_or done k 0) (omega arith)) ∙ passes is.here)
      where
        passes : (last ≡ 0) ⊎ (touches o es node last ≡ true) → touches o es node last ≡ true
        passes (inl none) = let above = ltb-true number last h in absurd (omega arith)
        passes (inr here) = here

    back : list_any (λ i. fetches o es i node) (drop number done) ≡ true → nat_lt number last ≡ true
    back h = lt-ltb number last (either (cases_lt number last))
      where
        found : Any (λ i. fetches o es i node ≡ true) (drop number done)
        found = Any-from_list_any (λ i. fetches o es i node) (drop number done) h

        either : (number < last) ⊎ (last ≤ number) → number < last
        either (inl above) = above
        either (inr low) =
            let short = length-drop number done in
            let all = dones_listed es in
            let k_in = found.2 in
            let at : arrival_done (reverse es) (number + found.0 + 1) ≡ found.1 =
            ap (λ k. get_or done k 0) (omega arith) ∙ sym (get_or-drop number done found.0 0) ∙ get_or_default (drop number done) found.0 0 found.1 k_in ∙ found.3 in
            absurd (true≢false (sym (ap (λ i. fetches o es i node) at ∙ found.4) ∙ is.none (number + found.0 + 1) (omega arith) (omega arith)))

any_map : {X Y : Type 0} (p : X → Bool) (h : Y → X) (ys : List Y) → list_any p (map h ys) ≡ list_any (λ y. p (h y)) ys
any_map p h [] = refl
any_map p h (y ∷ ys) = ap (λ t. p (h y) || t) (any_map p h ys)

pub touched_are_nodes : TouchedAreNodes
touched_are_nodes o events number f =
    filter_agree (λ node. nat_lt number (last_touch o (reverse events) node))
    (λ node. list_any (λ leaf. is_on_path o.shape.l leaf node) (map (fetched_leaf o (reverse events)) (drop number (done_arrivals events))))
    (λ node. touched_on o (reverse events) number node f
    ∙ ap (λ told. list_any (λ i. fetches o (reverse events) i node) (drop number (done_arrivals told))) (reverse-reverse events)
    ∙ sym (any_map (λ leaf. is_on_path o.shape.l leaf node) (fetched_leaf o (reverse events)) (drop number (done_arrivals events))))
    (range_with_len 1 (node_count o.shape.l))

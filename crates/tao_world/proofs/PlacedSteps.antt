-- The tables tell which steps may come. The events `es` are newest first.
use Rattle.std.proofs.Common.{◌≡◌, ℕ, zero, suc, ◌+◌, ◌<◌, ◌≤◌, Bool, true, false, not, ◌&&◌, cond, List, [], ◌∷◌, ◌++◌, reverse, length, get_or, take, drop, Contains, Option, Some, None, is_some, refl, sym, ap, ap₂, ◌∙◌, subst, arith, nat_eq}
use Rattle.std.specs.Prelude.{count_by}
use Rattle.std.specs.List.{list_all, list_any, range_with_len}
use Rattle.std.proofs.Math.Seq.{split_at}
use Rattle.std.proofs.lemmas.Bool.{eq-eqb, ne_eqb, eqb-true, and_parts, and_from}
use Rattle.std.proofs.lemmas.List.Folds.{Any-from_list_any, list_any_at, list_all-map}
use Rattle.std.proofs.lemmas.List.FromFn.{get_or-range_with_len, length-range_with_len}
use Rattle.std.proofs.lemmas.List.Sums.{sum_by-cons}
use Rattle.tao_base.specs.declared.session.Event.{Event}
use Rattle.tao_base.specs.declared.session.Event.TheVariants.{Arrive, Done, Issue, Acked, Fault}
use Rattle.tao_base.specs.declared.storage.Bucket.{Bucket}
use Rattle.tao_base.specs.declared.storage.Order.{Order}
use Rattle.tao_base.specs.Session.{Opening, History}
use Rattle.tao_base.specs.Tree.{node_at, path}
use Rattle.tao_model.specs.Events.{issues, is_under_way, is_outstanding}
use Rattle.tao_model.specs.Requests.{fetched_leaf}
use Rattle.tao_model.specs.Residence.{is_issued}
use Rattle.tao_model.specs.Lawful.{FollowsLawfully}
use Rattle.tao_model.specs.Trace.{nodes_in}
use Rattle.tao_model.proofs.FallingPaths.{has}
use Rattle.tao_model.proofs.RealArrivals.{looked_back}
use Rattle.tao_laws.proofs.Listings.{listed_at, place_in, at_place}
use Rattle.tao_text.specs.declared.script.What.{What}
use Rattle.tao_schedule.specs.Moves.{Move, nodes_issued, is_served, is_applied}
use Rattle.tao_schedule.specs.Steps.{is_misplaced}
use Rattle.tao_world.specs.State.{Reading, Sending, is_set_at, row_at}
use Rattle.tao_world.specs.Shows.{ShowsFetch, ShowsStore, ShowsSending}
use Rattle.tao_world.specs.Steps.{passes, is_whole, has_left, may_come, TablesTellMisplaced, StoreHasNodes}
use Rattle.tao_world.proofs.WriteBacks.{IsWriteBack, made, order_nodes, issues_grow}

-- ---- the nodes of a version

issued_next : (o : Opening) (later earlier : List Event) (v nonce : ℕ) (buckets : List Bucket) → FollowsLawfully o (later ++ Issue v nonce buckets ∷ earlier) → v ≡ issues earlier + 1
issued_next o [] earlier v nonce buckets f = f.2.next
issued_next o (e ∷ later) earlier v nonce buckets f = issued_next o later earlier v nonce buckets f.0

nodes_at : (o : Opening) (later earlier : List Event) (v nonce : ℕ) (buckets : List Bucket) → FollowsLawfully o (later ++ Issue v nonce buckets ∷ earlier)
    → nodes_issued (later ++ Issue v nonce buckets ∷ earlier) v ≡ nodes_in buckets
nodes_at o [] earlier v nonce buckets f = ap (λ t. cond t (nodes_in buckets) (nodes_issued earlier v)) (eq-eqb v v refl)
nodes_at o (Arrive client op word ∷ later) earlier v nonce buckets f = nodes_at o later earlier v nonce buckets f.0
nodes_at o (Done arrival taken ∷ later) earlier v nonce buckets f = nodes_at o later earlier v nonce buckets f.0
nodes_at o (Issue version start others ∷ later) earlier v nonce buckets f =
    let grown = issues_grow later (Issue v nonce buckets ∷ earlier) in
    let next = f.2.next in
    let first = issued_next o later earlier v nonce buckets f.0 in
    ap (λ t. cond t (nodes_in others) (nodes_issued (later ++ Issue v nonce buckets ∷ earlier) v)) (ne_eqb version v (λ same. omega arith))
    ∙ nodes_at o later earlier v nonce buckets f.0
nodes_at o (Acked version ∷ later) earlier v nonce buckets f = nodes_at o later earlier v nonce buckets f.0
nodes_at o (Fault cause ∷ later) earlier v nonce buckets f = nodes_at o later earlier v nonce buckets f.0

sent_nodes : (o : Opening) (events : List Event) (v nonce : ℕ) (buckets : List Bucket) → FollowsLawfully o (reverse events) → Contains events (Issue v nonce buckets)
    → nodes_issued (reverse events) v ≡ nodes_in buckets
sent_nodes o events v nonce buckets f there =
    let e = Issue v nonce buckets in
    let before = take there.0 events in
    let behind = drop (suc there.0) events in
    let split : reverse events ≡ reverse behind ++ e ∷ reverse before =
    ap reverse (split_at events there.0 e there.1 ∙ ap (λ x. before ++ x ∷ behind) there.2) ∙ looked_back before behind e
    in
    ap (λ l. nodes_issued l v) split ∙ nodes_at o (reverse behind) (reverse before) v nonce buckets (subst (FollowsLawfully o) split f)

store_nodes : (ms : List Move) (key : List ℕ) (h : History) (v : ℕ) (sending : Sending) → FollowsLawfully h.opening (reverse h.events) → ShowsSending ms key h v sending
    → nodes_issued (reverse h.events) v ≡ sending.order.nodes
store_nodes ms key h v sending f row =
    ap (nodes_issued (reverse h.events)) (sym row.version) ∙ sent_nodes h.opening h.events sending.order.version sending.order.nonce row.order.0 f row.order.1
    ∙ sym (ap (λ (x : Order). x.nodes) row.order.2)

pub store_has_nodes : StoreHasNodes
store_has_nodes ms key h tree fetches stores v sending shows found = store_nodes ms key h v sending shows.lawful.follows (subst (ShowsStore ms key h v) found (shows.puts.rows v))

-- ---- flags

same_tests : (a b : Bool) → (a ≡ true → b ≡ true) → (b ≡ true → a ≡ true) → a ≡ b
same_tests true b there back = sym (there refl)
same_tests false true there back = back refl
same_tests false false there back = refl

all_alike : (f g : ℕ → Bool) (a n : ℕ) → ((d : ℕ) → a ≤ d → d < a + n → f d ≡ g d) → list_all f (range_with_len a n) ≡ list_all g (range_with_len a n)
all_alike f g a zero alike = refl
all_alike f g a (suc n) alike = ap₂ ◌&&◌ (alike a (omega arith) (omega arith)) (all_alike f g (a + 1) n (λ d low high. alike d (omega arith) (omega arith)))

none_left : (p : ℕ → Bool) (nodes : List ℕ) (put : List Bool) → length put ≡ length nodes → ((j : ℕ) → j < length nodes → get_or put j false ≡ p (get_or nodes j 0))
    → list_all p nodes ≡ nat_eq (count_by not put) 0
none_left p [] [] long flags = refl
none_left p [] (t ∷ put) long flags = absurd (omega arith)
none_left p (w ∷ nodes) [] long flags = absurd (omega arith)
none_left p (w ∷ nodes) (t ∷ put) long flags =
    ap (λ u. u && list_all p nodes) (sym (flags 0 (omega arith))) ∙ first t (none_left p nodes put (omega arith) (λ j low. flags (suc j) (omega arith)))
  where
    first : (t : Bool) → list_all p nodes ≡ nat_eq (count_by not put) 0 → (t && list_all p nodes) ≡ nat_eq (count_by not (t ∷ put)) 0
    first true ih = ih ∙ ap (λ n. nat_eq n 0) (let sum = sum_by-cons (λ x. cond (not x) 1 0) true put in omega arith)
    first false ih = sym (ne_eqb (count_by not (false ∷ put)) 0 (λ none. let sum = sum_by-cons (λ x. cond (not x) 1 0) false put in omega arith))

-- a node is listed and doesn't pass
module _ (p : ℕ → Bool) (nodes : List ℕ) (put : List Bool) (node : ℕ) (flags : (j : ℕ) → j < length nodes → is_set_at put j ≡ p (get_or nodes j 0)) where
  abbrev test : ℕ → Bool
  test j = nat_eq (get_or nodes j 0) node && not (is_set_at put j)

  abbrev places : List ℕ
  places = range_with_len 0 (length nodes)

  there : list_any test places ≡ true → (has node nodes && not (p node)) ≡ true
  there some =
      let found = Any-from_list_any test places some in
      let count = length-range_with_len 0 (length nodes) in
      let in_range = found.2 in
      let j = found.1 in
      let at : j ≡ 0 + found.0 = sym found.3 ∙ get_or-range_with_len 0 (length nodes) found.0 j (omega arith) in
      let low : j < length nodes = omega arith in
      let both = and_parts (nat_eq (get_or nodes j 0) node) (not (is_set_at put j)) found.4 in
      let same : get_or nodes j 0 ≡ node = eqb-true (get_or nodes j 0) node both.0 in
      and_from (has node nodes) (not (p node)) (ap (λ w. has w nodes) (sym same) ∙ listed_at nodes j low) (ap (λ w. not (p w)) (sym same) ∙ ap not (sym (flags j low)) ∙ both.1)

  back : (has node nodes && not (p node)) ≡ true → list_any test places ≡ true
  back both =
      let parts = and_parts (has node nodes) (not (p node)) both in
      let at = at_place nodes node parts.0 in
      let j = place_in nodes node in
      let count = length-range_with_len 0 (length nodes) in
      let low = at.0 in
      let here : 0 + j ≡ j = omega arith in
      list_any_at test places j 0 (omega arith)
      (ap test (get_or-range_with_len 0 (length nodes) j 0 low ∙ here)
      ∙ and_from (nat_eq (get_or nodes j 0) node) (not (is_set_at put j)) (eq-eqb (get_or nodes j 0) node at.1) (ap not (flags j low ∙ ap p at.1) ∙ parts.1))

  left_where : list_any test places ≡ (has node nodes && not (p node))
  left_where = same_tests (list_any test places) (has node nodes && not (p node)) there back

-- ---- the rows

module _ (ms : List Move) (key : List ℕ) (h : History) where
  abbrev es : List Event
  es = reverse h.events

  under_row : (i : ℕ) (row : Option Reading) → ShowsFetch ms key h i row → is_under_way es i ≡ is_some row
  under_row i None is = is
  under_row i (Some reading) is = is.under_way

  out_row : (v : ℕ) (row : Option Sending) → ShowsStore ms key h v row → is_outstanding es v ≡ is_some row
  out_row v None is = is
  out_row v (Some sending) is = is.outstanding

  read_row : (i d : ℕ) (row : Option Reading) → d ≤ h.opening.shape.l → ShowsFetch ms key h i row
      → (is_under_way es i && not (is_served ms i (node_at h.opening.shape.l (fetched_leaf h.opening es i) d))) ≡ passes (λ reading. not (is_set_at reading.read d)) row
  read_row i d None within is = ap (λ t. t && not (is_served ms i (node_at h.opening.shape.l (fetched_leaf h.opening es i) d))) is
  read_row i d (Some reading) within is =
      ap₂ (λ t u. t && not u) is.under_way (ap (λ leaf. is_served ms i (node_at h.opening.shape.l leaf d)) (sym is.leaf) ∙ sym (is.read d within))

  done_row : (i : ℕ) (row : Option Reading) → ShowsFetch ms key h i row
      → (is_under_way es i && list_all (is_served ms i) (path h.opening.shape.l (fetched_leaf h.opening es i))) ≡ passes (is_whole h.opening.shape.l) row
  done_row i None is = ap (λ t. t && list_all (is_served ms i) (path h.opening.shape.l (fetched_leaf h.opening es i))) is
  done_row i (Some reading) is =
      let l = h.opening.shape.l in
      ap₂ ◌&&◌ is.under_way
      (ap (λ leaf. list_all (is_served ms i) (path l leaf)) (sym is.leaf) ∙ list_all-map (is_served ms i) (node_at l reading.leaf) (range_with_len 0 (l + 1))
      ∙ all_alike (λ d. is_served ms i (node_at l reading.leaf d)) (is_set_at reading.read) 0 (l + 1) (λ d low high. sym (is.read d (omega arith))))

  module _ (follows : FollowsLawfully h.opening (reverse h.events)) (v : ℕ) where
    put_row : (node : ℕ) (row : Option Sending) → ShowsStore ms key h v row
        → (is_outstanding es v && (is_issued es v node && not (is_applied ms v node))) ≡ passes (has_left node) row
    put_row node None is = ap (λ t. t && (is_issued es v node && not (is_applied ms v node))) is
    put_row node (Some sending) is =
        let back : IsWriteBack h.opening h.events sending.order.version is.order.0 =
        made h.opening h.events sending.order.version sending.order.nonce is.order.0 follows is.order.1
        in
        ap₂ ◌&&◌ is.outstanding
        (ap (λ t. t && not (is_applied ms v node)) (ap (λ u. is_issued es u node) (sym is.version)
        ∙ order_nodes key h follows sending.order.version sending.order.nonce is.order.0 sending.order back is.order.2 node)
        ∙ sym (left_where (is_applied ms v) sending.order.nodes sending.put node is.put))

    ack_row : (row : Option Sending) → ShowsStore ms key h v row
        → (is_outstanding es v && list_all (is_applied ms v) (nodes_issued es v)) ≡ passes (λ sending. nat_eq sending.left 0) row
    ack_row None is = ap (λ t. t && list_all (is_applied ms v) (nodes_issued es v)) is
    ack_row (Some sending) is =
        ap₂ ◌&&◌ is.outstanding
        (ap (list_all (is_applied ms v)) (store_nodes ms key h v sending follows is) ∙ none_left (is_applied ms v) sending.order.nodes sending.put is.flags is.put
        ∙ ap (λ n. nat_eq n 0) (sym is.left))

pub tables_tell_misplaced : TablesTellMisplaced
unfolding is_misplaced may_come
tables_tell_misplaced ms key h tree fetches stores (What.Do client op) shows deep = refl
tables_tell_misplaced ms key h tree fetches stores (What.A client op) shows deep = refl
tables_tell_misplaced ms key h tree fetches stores (What.Read fetch None) shows deep = ap not (under_row ms key h fetch (row_at fetches fetch) (shows.reads.rows fetch))
tables_tell_misplaced ms key h tree fetches stores (What.Read fetch (Some depth)) shows deep = ap not (read_row ms key h fetch depth (row_at fetches fetch) deep (shows.reads.rows fetch))
tables_tell_misplaced ms key h tree fetches stores (What.Done fetch) shows deep = ap not (done_row ms key h fetch (row_at fetches fetch) (shows.reads.rows fetch))
tables_tell_misplaced ms key h tree fetches stores (What.Put version None) shows deep = ap not (out_row ms key h version (row_at stores version) (shows.puts.rows version))
tables_tell_misplaced ms key h tree fetches stores (What.Put version (Some node)) shows deep =
    ap not (put_row ms key h shows.lawful.follows version node (row_at stores version) (shows.puts.rows version))
tables_tell_misplaced ms key h tree fetches stores (What.Ack version) shows deep = ap not (ack_row ms key h shows.lawful.follows version (row_at stores version) (shows.puts.rows version))

-- What a Done finds, and that it keeps the invariant.
use Rattle.std.proofs.Common.{◌≡◌, ℕ, ◌+◌, ◌*◌, ◌^◌, ◌<◌, ◌≤◌, Bool, true, false, not, ◌||◌, List, [], ◌∷◌, length, filter, reverse, All, refl, sym, ap, ◌∙◌, subst, arith}
use Rattle.std.proofs.Math.Pow.{pow_pos}
use Rattle.std.proofs.lemmas.List.{length-map, get_or_read_under}
use Rattle.std.proofs.lemmas.List.Elements.{filter_agree}
use Rattle.std.proofs.lemmas.List.FromFn.{length-map-range_with_len}
use Rattle.std.specs.List.{slice_index_or}
use Rattle.std.specs.List.Sorted.{IsStrictlyIncreasing}
use Rattle.tao_base.specs.declared.session.Event.{Event}
use Rattle.tao_base.specs.declared.session.Event.TheVariants.{Done}
use Rattle.tao_base.specs.declared.storage.Bucket.{Bucket}
use Rattle.tao_base.specs.Session.{Opening, History}
use Rattle.tao_base.specs.Limits.{Shape}
use Rattle.tao_base.specs.Tree.{is_on_path, leaf_of, path, node_at}
use Rattle.tao_model.specs.Events.{arrived, dones, issues, acks, is_done, is_pad_op, has_fault, word_of}
use Rattle.tao_model.specs.Requests.{is_real, fetched_leaf}
use Rattle.tao_model.specs.Residence.{is_resident, Unaltered}
use Rattle.tao_images.specs.Answers.{AreFetched}
use Rattle.tao_images.specs.Honesty.{HasTagOf}
use Rattle.tao_images.proofs.AnswerLemmas.{done_has_tags}
use Rattle.tao_model.specs.Trace.{nodes_in}
use Rattle.tao_base.specs.Buckets.{IsInForm}
use Rattle.tao_model.specs.Lawful.{FollowsLawfully, MayFollow, touched_after}
use Rattle.tao_model.specs.OneMore.{with_one_more}
use Rattle.tao_held.specs.Held.{block_on}
use Rattle.tao_held.proofs.Blocks as blocks
use Rattle.tao_tables.specs.WriteBacks.{IsRecentList}
use Rattle.tao_laws.specs.Counted.{CountsWork}
use Rattle.tao_tables.specs.Pools.{AreCounts, DoneInRoom}
use Rattle.tao_laws.proofs.CountedWork.{work_is_counted}
use Rattle.tao_tables.proofs.KeptFlags.{flags_are_told}
use Rattle.tao_tables.proofs.PoolRoom.{counts_are_known, room_done}
use Rattle.tao_record.specs.State.{AreBucketsOf, done_len}
use Rattle.tao_requests.specs.declared.request.Request.{Request}
use Rattle.tao_requests.specs.State.{request_at, block_of, IsUnderWay}
use Rattle.tao_requests.proofs.Followed.{following, as_many, on_is, follows_real}
use Rattle.tao_requests.proofs.Arrivals.{no_pad}
use Rattle.tao_sequence.specs.Release.{is_done_in}
use Rattle.tao_holdings.specs.Holding.{HoldingsState, is_held, count_in, IsPathHeld}
use Rattle.tao_held.specs.Steps.{with_path}
use Rattle.tao_processor.specs.declared.fetches.Fetch.{Fetch}
use Rattle.tao_processor.specs.Steps.{is_for_block}
use Rattle.tao_processor.specs.Groups.{Parts, IsProcessor, pools_of, no_row}
use Rattle.tao_tables.proofs.KeptWrites.{few_pass, recent_is_short}
use Rattle.tao_tables.proofs.MovedTables.{cover_is_bounded}
use Rattle.tao_tables.proofs.ServedAnswers.{block_is_same}
use Rattle.tao_tables.proofs.ProxySteps.{follows_on}

-- what a Done finds
pub record IsReadyForDone (x : Parts) (i : ℕ) (taken : List Bucket) : Type 0 where
  pub lawful : FollowsLawfully x.session.history.opening (with_one_more x.session.history.events (Done i taken))
  pub there : i < arrived (reverse x.session.history.events)
  pub open_yet : is_done (reverse x.session.history.events) i ≡ false
  pub room : DoneInRoom x.shape x.ready (arrived (reverse x.session.history.events)) (dones (reverse x.session.history.events)) (issues (reverse x.session.history.events))
      (acks (reverse x.session.history.events)) (pools_of x)
  pub few : length taken ≤ x.session.history.opening.shape.l + 1
  pub fits : AreBucketsOf x.session.history.opening.shape (done_len x.session.history.opening.shape) taken
  pub small : fetched_leaf x.session.history.opening (reverse x.session.history.events) i < 2 ^ x.session.history.opening.shape.l
  pub nodes : nodes_in taken ≡ filter (λ w. not (is_held x.holdings w)) (path x.session.history.opening.shape.l (fetched_leaf x.session.history.opening (reverse x.session.history.events) i))
  pub in_form : All (IsInForm x.session.history.opening.shape) taken
  pub asked : i < length x.requests.requests
  pub under_way : is_for_block x.requests i ≡ true → IsUnderWay x.requests.requests i
  pub on_block : is_for_block x.requests i ≡ true → is_pad_op (request_at x.requests.requests i).op ≡ false
  pub block : is_for_block x.requests i ≡ true → block_of x.requests.requests i < x.session.history.opening.shape.n
  pub begun : (w : ℕ) → is_on_path x.session.history.opening.shape.l (fetched_leaf x.session.history.opening (reverse x.session.history.events) i) w ≡ true → 1 ≤ count_in x.holdings w
  pub limit : i < length x.done_flags
  pub once : is_done_in x.done_flags i ≡ false
  pub rising : IsStrictlyIncreasing x.recent
  pub honest : Unaltered (HasTagOf x.key x.session.history.opening.shape) x.session.history.opening (Done i taken ∷ reverse x.session.history.events)
  pub space : length x.recent + (x.session.history.opening.shape.l + 1) ≤ x.recent_room

pub leaf_small : (l word : ℕ) → leaf_of l word < 2 ^ l
leaf_small l word = let some = pow_pos l in omega arith

pub ready_for_done : (x : Parts) (i : ℕ) (taken : List Bucket) → IsProcessor x → has_fault (reverse x.session.history.events) ≡ false
    → MayFollow x.session.history.opening (reverse x.session.history.events) (Done i taken) → ((path : List ℕ) × AreFetched x.key x.session.history i path taken) → IsReadyForDone x i taken
ready_for_done x i taken is running may read = record {
  lawful = lawful;
  there = may.1.arrived;
  open_yet = may.1.under_way;
  room = room_done x.shape x.ready (arrived es) (dones es) (issues es) (acks es) (pools_of x) counts (work.some i may.1.arrived may.1.under_way) is.pools;
  few = few;
  fits = record { few = few; each = λ k d low. let form = may.1.in_form k d low in record { few = form.entries.few; values = form.entries.values } };
  small = leaf_small o.shape.l _;
  nodes = may.1.nodes ∙ filter_agree (λ w. not (is_resident o es w)) (λ w. not (is_held x.holdings w)) (λ w. ap not (sym (is.held_is.nodes.residents w))) (path o.shape.l (fetched_leaf o es i));
  in_form = may.1.in_form;
  asked = let many = as_many es rs (following events rs is.asked.follows) in let low = may.1.arrived in omega arith;
  under_way = λ real. (follows_real events rs i taken [] is.asked.follows may.1.arrived (sym kind ∙ real) may.1.under_way).0;
  on_block = λ real. no_pad (block_on es i) (request_at rs i).op (sym (on_is es rs (following events rs is.asked.follows) i (block_on es i) may.1.arrived) ∙ blocks.real_on es i may.1.arrived (sym kind ∙ real));
  block = λ real. subst (λ b. b < o.shape.n) (sym (block_is_same events rs i is.asked.follows may.1.arrived (sym kind ∙ real)))
      (blocks.on_below o es i (block_on es i) is.record_is.proxy.follows may.1.arrived (blocks.real_on es i may.1.arrived (sym kind ∙ real)));
  begun = λ w on. subst (λ n. 1 ≤ n) (sym (is.held_is.nodes.counts w)) ((cover_is_bounded o events w).some i may.1.arrived may.1.under_way on);
  limit = ((flags_are_told o events x.done_flags x.acked_flags is.flags).done_free i taken lawful).within;
  once = ((flags_are_told o events x.done_flags x.acked_flags is.flags).done_free i taken lawful).down;
  rising = subst (λ (ns : List ℕ). IsStrictlyIncreasing ns) (sym is.writes.touched) short.rises;
  honest = done_has_tags x.key x.session.history i read.0 taken is.record_is.proxy.opens is.record_is.proxy.follows is.tagged.taken read.1;
  space =
      let list = subst (λ (ns : List ℕ). length ns + (o.shape.l + 1) ≤ o.shape.k * (o.shape.l + 1)) (sym is.writes.touched) (short.room may.0) in
      let fits = subst (λ (s : Shape). s.k * (s.l + 1) ≤ x.recent_room) (sym is.record_is.shape) is.recent_fits in
      omega (arith, list, fits);
}
  where
    o : Opening
    o = x.session.history.opening

    events : List Event
    events = x.session.history.events

    es : List Event
    es = reverse events

    rs : List Request
    rs = x.requests.requests

    lawful : FollowsLawfully o (with_one_more events (Done i taken))
    lawful = follows_on o events (Done i taken) is.record_is.proxy.follows running may

    work : CountsWork o es
    work = work_is_counted o events is.record_is.proxy.follows

    kind : is_for_block x.requests i ≡ is_real es i
    kind = is.asked.follows.kinds i may.1.arrived

    counts : AreCounts x.shape (arrived es) (dones es) (issues es) (acks es)
    counts = subst (λ (s : Shape). AreCounts s (arrived es) (dones es) (issues es) (acks es)) is.record_is.shape (counts_are_known o events is.record_is.proxy.follows)

    few : length taken ≤ o.shape.l + 1
    few =
        let named = sym (length-map taken (λ bucket. bucket.node)) ∙ ap length may.1.nodes in
        let shorter = few_pass (λ node. not (is_resident o es node)) (path o.shape.l (fetched_leaf o es i)) in
        let long = length-map-range_with_len (node_at o.shape.l (fetched_leaf o es i)) 0 (o.shape.l + 1) in
        omega (arith, named, shorter, long)

    short : IsRecentList o es (touched_after o es (issues es * o.shape.k))
    short = recent_is_short o events is.record_is.proxy.follows

-- this holds if the visible state allows the Done
pub done_ready : {x : Parts} {h : History} {key : List ℕ} {taken looked : List Bucket} (i : ℕ) → IsProcessor x → x.session.history ≡ h → x.key ≡ key → taken ≡ looked
    → has_fault (reverse h.events) ≡ false → MayFollow h.opening (reverse h.events) (Done i looked) → ((path : List ℕ) × AreFetched key h i path looked) → IsReadyForDone x i taken
done_ready {x} {h} {key} {taken} {looked} i is same keyed here running may read = ready_for_done x i taken is
    (subst (λ (g : History). has_fault (reverse g.events) ≡ false) (sym same) running)
    (subst (λ (g : History). MayFollow g.opening (reverse g.events) (Done i taken)) (sym same) (subst (λ (bs : List Bucket). MayFollow h.opening (reverse h.events) (Done i bs)) (sym here) may))
    (read.0, subst (λ (k : List ℕ). AreFetched k x.session.history i read.0 taken) (sym keyed) (subst (λ (g : History). AreFetched key g i read.0 taken) (sym same) (subst (λ (bs : List Bucket). AreFetched key h i read.0 bs) (sym here) read.1)))

-- the row of an arrival
pub row_is : {x : Parts} {i : ℕ} {row : Fetch} → IsProcessor x → i < arrived (reverse x.session.history.events) → x.row_count ≡ length x.rows → row ≡ slice_index_or x.rows i row
    → (row.leaf ≡ fetched_leaf x.session.history.opening (reverse x.session.history.events) i) × (row.word ≡ word_of (reverse x.session.history.events) i)
row_is {x} {i} {row} is there len at =
    let low : i < x.row_count = let count = is.fetched.counts in omega arith in
    let same = get_or_read_under x.rows i x.row_count row no_row at low len in
    (ap (λ (r : Fetch). r.leaf) same ∙ is.fetched.leaves i low, ap (λ (r : Fetch). r.word) same ∙ is.fetched.words i low)

pub leaf_fits : {s t : Shape} {leaf at : ℕ} → s ≡ t → leaf ≡ at → at < 2 ^ t.l → leaf < 2 ^ s.l
leaf_fits {s} {t} {leaf} {at} same here low = subst (λ (u : Shape). leaf < 2 ^ u.l) (sym same) (subst (λ a. a < 2 ^ t.l) (sym here) low)

all_held : (r on : Bool) → on ≡ true → (r || on) ≡ true
all_held true on h = refl
all_held false on h = h

-- the path is held once it is admitted
pub path_is_held : (old now : HoldingsState) (leaf : ℕ) → now.shape ≡ old.shape → is_held now ≡ with_path old.shape.l leaf (is_held old) → IsPathHeld now leaf
path_is_held old now leaf same held w on =
    ap (λ (r : ℕ → Bool). r w) held ∙ all_held (is_held old w) (is_on_path old.shape.l leaf w) (sym (ap (λ (s : Shape). is_on_path s.l leaf w) same) ∙ on)

-- One whole operation, over all that the desk holds.
use Rattle.std.proofs.Common.{◌≡◌, ℕ, zero, suc, ◌+◌, ◌-◌, ◌*◌, ◌^◌, ◌<◌, ◌≤◌, Bool, true, false, not, ◌&&◌, List, [], ◌∷◌, ◌++◌, length, map, take, reverse, slice_index, get_or, set, All, Some, refl, sym, ap, ◌∙◌, subst, arith, inl, inr, ◌⊎◌, nat_eq}
use Rattle.std.proofs.lemmas.Bool.{ne_eqb, eq-eqb, lt-ltb, cases_eq, true≢false}
use Rattle.std.proofs.lemmas.List.{reverse-append, length-set, get_or-set_same, get_or-set_other, get_or_default, length-map, length-take-le}
use Rattle.std.proofs.lemmas.List.FromFn.{length-map-range_with_len, get_or-map-range_with_len}
use Rattle.std.proofs.lemmas.List.Elements.{All-map}
use Rattle.std.proofs.lemmas.Nat.{pow-add, pow_pos}
use Rattle.std.specs.List.{range_with_len}
use Rattle.tao_base.specs.Array.{array_step}
use Rattle.tao_base.specs.Limits.{Shape, IsShape, session_limit}
use Rattle.tao_base.specs.declared.calls.Op.{Op}
use Rattle.tao_base.specs.declared.calls.Op.TheVariants.{Read, Write, Pad}
use Rattle.tao_base.specs.declared.session.Event.{Event}
use Rattle.tao_base.specs.declared.session.Event.TheVariants.{Arrive, Done, Issue, Acked}
use Rattle.tao_base.specs.declared.storage.Bucket.{Bucket}
use Rattle.tao_base.specs.Session.{Opening, History}
use Rattle.tao_record.specs.State.{AreBucketsOf, issue_len}
use Rattle.tao_model.specs.Trace.{nodes_in}
use Rattle.tao_base.specs.Tree.{node_at, node_count, path, leaf_of}
use Rattle.tao_model.specs.Events.{arrived, is_done, is_on, names, word_at}
use Rattle.tao_model.specs.Requests.{any_below, is_real, real_now, next_word, word_for, leaf_at, fetched_leaf}
use Rattle.tao_model.specs.Replies.{array_now}
use Rattle.tao_model.specs.Residence.{bucket_of, newest_write}
use Rattle.tao_model.specs.Lawful.{FollowsLawfully, OwesNone, IsInRange}
use Rattle.tao_model.specs.OneMore.{AfterArrive}
use Rattle.tao_model.proofs.Stays.{newest_first, place_stays}
use Rattle.tao_model.proofs.Places.{next_below}
use Rattle.tao_model.proofs.OneMoreEvent.{one_more_arrive, own_word}
use Rattle.tao_plain_desk.specs.Whole.{DeskState, arrivals_of, words_left, IsSound, PlaysOne, empty_bucket, empty_load}
use Rattle.tao_plain_desk.specs.Quiet.{IsQuiet, AreEmpty, four, AreStamped, Stores, MayPlay, IsDesk, bucket_at, placed}
use Rattle.tao_plain_desk.proofs.QuietStep.{quiet_step, none_below, all_between, all_nodes, nodes_map}
use Rattle.tao_plain_desk.proofs.PathList.{path_climbs}

-- where all arrivals are done, no real one on a block is under way
none_open : (o : Opening) (es : List Event) (n : ℕ) (server : ℕ → Bucket) → IsQuiet o es n server → (id : ℕ)
    → any_below (λ i. is_on es i id && (is_real es i && not (is_done es i))) (arrived es) ≡ false
none_open o es n server q id = none_below (λ i. is_on es i id && (is_real es i && not (is_done es i))) (arrived es)
    (λ i h. let a = q.arrived in rw (q.all_done i (omega arith)) (last (is_on es i id) (is_real es i)))
  where
    last : (a b : Bool) → (a && (b && false)) ≡ false
    last true true = refl
    last true false = refl
    last false b = refl

-- so an arrival on a block is real
pub all_done_real : (o : Opening) (es : List Event) (n block : ℕ) (server : ℕ → Bucket) (op : Op) → IsQuiet o es n server → names block op ≡ true → real_now es op ≡ true
all_done_real o es n block server (Read id) q named = rw (none_open o es n server q id) refl
all_done_real o es n block server (Write id value) q named = rw (none_open o es n server q id) refl
all_done_real o es n block server Pad q named = absurd (true≢false (sym named))

-- one more arrival, behind the events newest first
after_arrive : (o : Opening) (events : List Event) (n client word : ℕ) (op : Op) (server : ℕ → Bucket) → IsQuiet o (reverse events) n server → MayPlay o n client op
    → AfterArrive o (reverse events) (Arrive client op word ∷ reverse events) op word
after_arrive o events n client word op server q m =
    let d = q.dones in let i = q.issues in
    let owes : OwesNone o (reverse events) = rw q.once (omega arith) in
    let lawful : FollowsLawfully o (Arrive client op word ∷ reverse events) =
    (q.follows, q.fault, (owes, subst (λ k. k < session_limit o.shape) (sym q.arrived) m.room, m.client, m.range)) in
    subst (λ now. AfterArrive o (reverse events) now op word) (newest_first events (Arrive client op word))
    (one_more_arrive o events client op word (subst (FollowsLawfully o) (sym (newest_first events (Arrive client op word))) lawful))

-- the leaf that is fetched is that of the word that the desk has for it
leaf_is : (o : Opening) (es : List Event) (n client word leaf : ℕ) (op : Op) (places : List ℕ) (server : ℕ → Bucket) → IsQuiet o es n server → IsInRange o.shape op
    → AfterArrive o es (Arrive client op word ∷ es) op word
    → ((block : ℕ) → block < o.shape.n → slice_index places block ≡ word_at o es (next_word o es block))
    → leaf ≡ leaf_of o.shape.l (word_for (slice_index places) word true op) → leaf ≡ fetched_leaf o (Arrive client op word ∷ es) (arrived es)
leaf_is o es n client word leaf (Read id) places server q range after place is =
    is ∙ ap (leaf_of o.shape.l) (place id range) ∙ sym (after.leaf_of_block id (eq-eqb id id refl) (all_done_real o es n id server (Read id) q (eq-eqb id id refl)))
leaf_is o es n client word leaf (Write id value) places server q range after place is =
    is ∙ ap (leaf_of o.shape.l) (place id range.0) ∙ sym (after.leaf_of_block id (eq-eqb id id refl) (all_done_real o es n id server (Write id value) q (eq-eqb id id refl)))
leaf_is o es n client word leaf Pad places server q range after place is = is ∙ sym (after.leaf_of_word refl)

-- the words of the blocks' positions afterwards
block_place : (o : Opening) (es : List Event) (n client word id block : ℕ) (op : Op) (places : List ℕ) (server : ℕ → Bucket) → IsQuiet o es n server
    → ((b : ℕ) → b < o.shape.n → slice_index places b ≡ word_at o es (next_word o es b)) → length places ≡ o.shape.n → id < o.shape.n → block < o.shape.n
    → real_now es op ≡ true → ((b : ℕ) → names b op ≡ nat_eq id b)
    → slice_index (set places id word) block ≡ word_at o (Arrive client op word ∷ es) (next_word o (Arrive client op word ∷ es) block)
block_place o es n client word id block op places server q place len low small real named = either (cases_eq id block)
  where
    either : (id ≡ block) ⊎ (id ≡ block → ⊥) → slice_index (set places id word) block ≡ word_at o (Arrive client op word ∷ es) (next_word o (Arrive client op word ∷ es) block)
    either (inl same) = rw (real, named block, eq-eqb id block same)
        (ap (λ b. get_or (set places id word) b 0) (sym same) ∙ get_or-set_same places id word 0 (omega arith) ∙ sym (own_word o es client op word))
    either (inr other) = rw (real, named block, ne_eqb id block other)
        (get_or-set_other places id block word 0 (λ same. other (sym same)) ∙ place block small ∙ sym (place_stays o es (Arrive client op word) (next_word o es block) (next_below o es block small)))

place_step : (o : Opening) (es : List Event) (n client word block : ℕ) (op : Op) (places : List ℕ) (server : ℕ → Bucket) → IsQuiet o es n server → IsInRange o.shape op
    → ((b : ℕ) → b < o.shape.n → slice_index places b ≡ word_at o es (next_word o es b)) → length places ≡ o.shape.n → block < o.shape.n
    → slice_index (placed places op word) block ≡ word_at o (Arrive client op word ∷ es) (next_word o (Arrive client op word ∷ es) block)
place_step o es n client word block (Read id) places server q range place len small =
    block_place o es n client word id block (Read id) places server q place len range small (all_done_real o es n id server (Read id) q (eq-eqb id id refl)) (λ b. refl)
place_step o es n client word block (Write id value) places server q range place len small =
    block_place o es n client word id block (Write id value) places server q place len range.0 small (all_done_real o es n id server (Write id value) q (eq-eqb id id refl)) (λ b. refl)
place_step o es n client word block Pad places server q range place len small =
    place block small ∙ sym (place_stays o es (Arrive client Pad word) (next_word o es block) (next_below o es block small))

length_step : (blocks : List (List ℕ)) (op : Op) → length (array_step blocks op) ≡ length blocks
length_step blocks (Read id) = refl
length_step blocks (Write id value) = length-set blocks id value
length_step blocks Pad = refl

length_placed : (places : List ℕ) (op : Op) (word : ℕ) → length (placed places op word) ≡ length places
length_placed places (Read id) word = length-set places id word
length_placed places (Write id value) word = length-set places id word
length_placed places Pad word = refl

-- the record after the four events, newest first
four_newest : (events : List Event) (a d i k : Event) → reverse (events ++ a ∷ d ∷ i ∷ k ∷ []) ≡ k ∷ i ∷ d ∷ a ∷ reverse events
four_newest events a d i k = reverse-append events (a ∷ d ∷ i ∷ k ∷ [])

abbrev four_at : ℕ → List Event → ℕ → Op → ℕ → List Bucket → ℕ → List Bucket → List Event
four_at k es client op word taken nonce buckets = Acked (k + 1) ∷ Issue (k + 1) nonce buckets ∷ Done k taken ∷ Arrive client op word ∷ es

-- what the four events make of what the desk holds
pub record IsStep (h : History) (n : ℕ) (array array' : List (List ℕ)) (words words' : List ℕ) (server server' path' : List Bucket)
    (events' : List Event) (client : ℕ) (op : Op) (word fetched first : ℕ) : Type 0 where
  pub leaf : fetched ≡ leaf_of h.opening.shape.l (word_for (slice_index words) word true op)
  pub nonce : first ≡ node_count h.opening.shape.l + 1 + n * (h.opening.shape.l + 1)
  pub events : events' ≡ h.events ++ Arrive client op word ∷ Done n (map (bucket_at server) (path h.opening.shape.l fetched)) ∷ Issue (n + 1) first path' ∷ Acked (n + 1) ∷ []
  pub stamped : AreStamped (path h.opening.shape.l fetched) (n + 1) first path'
  pub stores : Stores (length server) path' (bucket_at server) (bucket_at server')
  pub blocks : array' ≡ array_step array op
  pub places : words' ≡ placed words op word
  pub server_len : length server' ≡ length server
  pub path_len : length path' ≡ h.opening.shape.l + 1

pub desk_step : (h h' : History) (tape : List ℕ) (array array' : List (List ℕ)) (words words' : List ℕ) (server server' room path' : List Bucket) (n client : ℕ) (op : Op) (word fetched first : ℕ)
    → IsDesk h tape array words server room n → MayPlay h.opening n client op → h'.opening ≡ h.opening
    → IsStep h n array array' words words' server server' path' h'.events client op word fetched first → IsDesk h' tape array' words' server' path' (n + 1)
desk_step h h' tape array array' words words' server server' room path' n client op word fetched first d m same s =
    let q = d.quiet in
    let es = reverse h.events in
    let after = after_arrive h.opening h.events n client word op (bucket_at server) q m in
    let fetches : fetched ≡ fetched_leaf h.opening (Arrive client op word ∷ es) n =
    leaf_is h.opening es n client word fetched op words (bucket_at server) q m.range after d.place s.leaf ∙ ap (fetched_leaf h.opening (Arrive client op word ∷ es)) q.arrived in
    let stores : Stores (node_count h.opening.shape.l) path' (bucket_at server) (bucket_at server') = subst (λ k. Stores k path' (bucket_at server) (bucket_at server')) d.server_len s.stores in
    let newest : reverse h'.events ≡ Acked (n + 1) ∷ Issue (n + 1) first path' ∷ Done n (map (bucket_at server) (path h.opening.shape.l fetched)) ∷ Arrive client op word ∷ es =
    ap reverse s.events ∙ four_newest h.events (Arrive client op word) (Done n (map (bucket_at server) (path h.opening.shape.l fetched))) (Issue (n + 1) first path') (Acked (n + 1)) in
    let step : IsQuiet h.opening (four es client op word (map (bucket_at server) (path h.opening.shape.l fetched)) first path') (n + 1) (bucket_at server') =
    quiet_step h.opening es n (bucket_at server) (bucket_at server') client op word fetched first path' q m fetches s.nonce s.stamped stores in
    let quiet : IsQuiet h.opening (reverse h'.events) (n + 1) (bucket_at server') =
    subst (λ l. IsQuiet h.opening l (n + 1) (bucket_at server')) (ap (λ k. four_at k es client op word (map (bucket_at server) (path h.opening.shape.l fetched)) first path') q.arrived ∙ sym newest) step in
    rw same (record {
      quiet = quiet;
      words = d.words;
      array = s.blocks ∙ ap (λ a. array_step a op) d.array ∙ sym (ap (array_now h.opening) newest);
      blocks_len = ap length s.blocks ∙ length_step array op ∙ d.blocks_len;
      places_len = ap length s.places ∙ length_placed words op word ∙ d.places_len;
      place = λ block small.
          ap (λ ws. slice_index ws block) s.places ∙ place_step h.opening es n client word block op words (bucket_at server) q m.range d.place d.places_len small
          ∙ sym (ap (λ l. word_at h.opening l (next_word h.opening l block)) newest);
      server_len = s.server_len ∙ d.server_len;
      path_len = s.path_len;
      path_empty = s.stamped.empty;
      within = let r = m.room in omega arith;
    })

-- the desk's record goes on lawfully
pub desk_sound : (h : History) (tape : List ℕ) (array : List (List ℕ)) (words : List ℕ) (server room : List Bucket) (n : ℕ) → IsDesk h tape array words server room n → IsSound h
desk_sound h tape array words server room n d =
    let q = d.quiet in let dones = q.dones in let issues = q.issues in
    record { follows = q.follows; owes = rw q.once (omega arith); unaltered = q.unaltered }

-- the server's buckets have no entries
pub server_empty : (h : History) (tape : List ℕ) (array : List (List ℕ)) (words : List ℕ) (server room : List Bucket) (n : ℕ) → IsDesk h tape array words server room n → AreEmpty server
server_empty h tape array words server room n d = λ k x within.
    let len = d.server_len in
    let q = d.quiet in
    let e : k + 1 - 1 ≡ k = omega arith in
    ap (λ b. b.entries) (get_or_default server k x (empty_bucket 0 0 0) within ∙ ap (λ i. get_or server i (empty_bucket 0 0 0)) (sym e)) ∙ (q.served (k + 1) (omega arith) (omega arith)).empty

-- buckets without entries fit any room that is long enough
pub fits_room : (s : Shape) (most : ℕ) (buckets : List Bucket) → AreEmpty buckets → length buckets ≤ most → AreBucketsOf s most buckets
fits_room s most buckets empty few = record {
  few = few;
  each = λ k d h. record { few = rw (empty k d h) (omega arith); values = rw (empty k d h) (λ i e g. absurd (omega arith)) };
}

below_power : (n : ℕ) → n < 2 ^ n
below_power zero = omega arith
below_power (suc n) = let ih = below_power n in let twice : 2 ^ (1 + n) ≡ 2 ^ 1 * 2 ^ n = pow-add 2 1 n in let e : suc n ≡ 1 + n = omega arith in rw e (omega arith)

pub one_path_room : (s : Shape) (len : ℕ) → s.k ≡ 1 → len ≡ s.l + 1 → len ≤ issue_len s
one_path_room s len once is = let low = below_power (s.l + 1) in rw once (omega arith)

-- the nodes of a path are nodes of the tree
pub nodes_within : (l leaf version nonce : ℕ) (buckets : List Bucket) → leaf < 2 ^ l → AreStamped (path l leaf) version nonce buckets
    → All (λ bucket. (1 ≤ bucket.node) × (bucket.node ≤ node_count l)) buckets
nodes_within l leaf version nonce buckets small s =
    all_nodes (λ w. (1 ≤ w) × (w ≤ node_count l)) buckets
    (subst (All (λ w. (1 ≤ w) × (w ≤ node_count l))) (sym s.nodes)
    (all_between (λ w. (1 ≤ w) × (w ≤ node_count l)) 1 (1 + node_count l) (path l leaf) (path_climbs l leaf small) (λ w low high. (low, omega arith))))

-- the gathered path has the path's nodes
pub gathered_nodes : (h : History) (tape : List ℕ) (array : List (List ℕ)) (words : List ℕ) (server room : List Bucket) (n leaf : ℕ) → IsDesk h tape array words server room n
    → leaf < 2 ^ h.opening.shape.l → nodes_in (map (bucket_at server) (path h.opening.shape.l leaf)) ≡ path h.opening.shape.l leaf
gathered_nodes h tape array words server room n leaf d small =
    let q = d.quiet in
    nodes_map (bucket_at server) (path h.opening.shape.l leaf)
    (all_between (λ w. (bucket_at server w).node ≡ w) 1 (1 + node_count h.opening.shape.l) (path h.opening.shape.l leaf) (path_climbs h.opening.shape.l leaf small)
    (λ w low high. (q.served w low (omega arith)).node))

pub gathered_empty : (h : History) (tape : List ℕ) (array : List (List ℕ)) (words : List ℕ) (server room : List Bucket) (n leaf : ℕ) → IsDesk h tape array words server room n
    → leaf < 2 ^ h.opening.shape.l → AreEmpty (map (bucket_at server) (path h.opening.shape.l leaf))
gathered_empty h tape array words server room n leaf d small =
    let q = d.quiet in
    All-map (λ b. b.entries ≡ []) (bucket_at server) (path h.opening.shape.l leaf)
    (all_between (λ w. (bucket_at server w).entries ≡ []) 1 (1 + node_count h.opening.shape.l) (path h.opening.shape.l leaf) (path_climbs h.opening.shape.l leaf small)
    (λ w low high. (q.served w low (omega arith)).empty))

pub gathered_written : (h : History) (tape : List ℕ) (array : List (List ℕ)) (words : List ℕ) (server room : List Bucket) (n leaf : ℕ) → IsDesk h tape array words server room n
    → leaf < 2 ^ h.opening.shape.l
    → All (λ b. newest_write h.opening (reverse h.events) b.node ≡ Some b) (map (bucket_at server) (path h.opening.shape.l leaf))
gathered_written h tape array words server room n leaf d small =
    let q = d.quiet in
    All-map (λ b. newest_write h.opening (reverse h.events) b.node ≡ Some b) (bucket_at server) (path h.opening.shape.l leaf)
    (all_between (λ w. newest_write h.opening (reverse h.events) (bucket_at server w).node ≡ Some (bucket_at server w)) 1 (1 + node_count h.opening.shape.l)
    (path h.opening.shape.l leaf) (path_climbs h.opening.shape.l leaf small)
    (λ w low high. let s = q.served w low (omega arith) in ap (newest_write h.opening (reverse h.events)) s.node ∙ s.written))

pub gathered_len : (server : List Bucket) (l leaf : ℕ) → length (map (bucket_at server) (path l leaf)) ≡ l + 1
gathered_len server l leaf = length-map (path l leaf) (bucket_at server) ∙ length-map-range_with_len (node_at l leaf) 0 (l + 1)

-- a leaf is one of the tree's
pub leaf_small : (l word : ℕ) → leaf_of l word < 2 ^ l
leaf_small l word = let some = pow_pos l in omega arith

-- what the gathered path is ready for
pub gathered_ready : (p : Shape) (h h1 : History) (tape : List ℕ) (array : List (List ℕ)) (words : List ℕ) (server sliced room taken : List Bucket) (n leaf : ℕ)
    → p ≡ h.opening.shape → h1 ≡ h → IsDesk h tape array words server room n → leaf < 2 ^ p.l → sliced ≡ server → taken ≡ map (bucket_at sliced) (path p.l leaf)
    → (length taken ≡ h1.opening.shape.l + 1) × (AreEmpty taken × ((nodes_in taken ≡ path h.opening.shape.l leaf) × (leaf < 2 ^ h.opening.shape.l)))
gathered_ready p h h1 tape array words server sliced room taken n leaf shape same d small slice is =
    let gathered : taken ≡ map (bucket_at server) (path h.opening.shape.l leaf) =
    is ∙ ap (λ s. map (bucket_at s) (path p.l leaf)) slice ∙ ap (λ s. map (bucket_at server) (path s.l leaf)) shape in
    let low : leaf < 2 ^ h.opening.shape.l = subst (λ s. leaf < 2 ^ s.l) shape small in (
      ap length gathered ∙ gathered_len server h.opening.shape.l leaf ∙ ap (λ k. k.opening.shape.l + 1) (sym same),
      (
        subst AreEmpty (sym gathered) (gathered_empty h tape array words server room n leaf d low),
        (ap nodes_in gathered ∙ gathered_nodes h tape array words server room n leaf d low, low),
      ),
    )

-- what is fetched is the latest version of each node
taken_written : (p : Shape) (h : History) (tape : List ℕ) (array : List (List ℕ)) (words : List ℕ) (server sliced room taken : List Bucket) (n leaf : ℕ)
    → p ≡ h.opening.shape → IsDesk h tape array words server room n → leaf < 2 ^ p.l → sliced ≡ server → taken ≡ map (bucket_at sliced) (path p.l leaf)
    → All (λ b. newest_write h.opening (reverse h.events) b.node ≡ Some b) taken
taken_written p h tape array words server sliced room taken n leaf shape d small slice is =
    let gathered : taken ≡ map (bucket_at server) (path h.opening.shape.l leaf) =
    is ∙ ap (λ s. map (bucket_at s) (path p.l leaf)) slice ∙ ap (λ s. map (bucket_at server) (path s.l leaf)) shape in
    subst (All (λ b. newest_write h.opening (reverse h.events) b.node ≡ Some b)) (sym gathered)
    (gathered_written h tape array words server room n leaf d (subst (λ s. leaf < 2 ^ s.l) shape small))

-- the four events are those of one whole operation
pub plays_one : (p : Shape) (h h1 h' : History) (tape slice : List ℕ) (array : List (List ℕ)) (words : List ℕ) (server sliced room taken path' : List Bucket)
    (n k client : ℕ) (op : Op) (leaf first : ℕ)
    → p ≡ h.opening.shape → h1 ≡ h → IsDesk h tape array words server room n → leaf < 2 ^ p.l → sliced ≡ server → taken ≡ map (bucket_at sliced) (path p.l leaf)
    → k ≡ p.n → slice ≡ tape → h'.opening ≡ h1.opening
    → h'.events ≡ h1.events ++ Arrive client op (slice_index slice (k + n)) ∷ Done n taken ∷ Issue (n + 1) first path' ∷ Acked (n + 1) ∷ []
    → AreStamped (nodes_in taken) (n + 1) first path' → PlaysOne h h' client op (slice_index tape (h.opening.shape.n + arrivals_of h))
plays_one p h h1 h' tape slice array words server sliced room taken path' n k client op leaf first shape same d small sliced_is is blocks slice_is opening events stamped =
    let arrived : n ≡ arrivals_of h = sym d.quiet.arrived in
    let word : slice_index slice (k + n) ≡ slice_index tape (h.opening.shape.n + arrivals_of h) =
    ap (λ s. slice_index s (k + n)) slice_is ∙ ap (λ m. slice_index tape (m + n)) (blocks ∙ ap (λ s. s.n) shape)
    ∙ ap (λ i. slice_index tape (h.opening.shape.n + i)) arrived in
    record {
      taken = taken;
      nonce = first;
      buckets = path';
      opening = opening ∙ ap (λ g. g.opening) same;
      events = events ∙ ap (λ g. g.events ++ Arrive client op (slice_index slice (k + n)) ∷ Done n taken ∷ Issue (n + 1) first path' ∷ Acked (n + 1) ∷ []) same
          ∙ ap (λ w. h.events ++ Arrive client op w ∷ Done n taken ∷ Issue (n + 1) first path' ∷ Acked (n + 1) ∷ []) word
          ∙ ap (λ i. h.events ++ Arrive client op (slice_index tape (h.opening.shape.n + arrivals_of h)) ∷ Done i taken ∷ Issue (i + 1) first path' ∷ Acked (i + 1) ∷ []) arrived;
      as_written = taken_written p h tape array words server sliced room taken n leaf shape d small sliced_is is;
      bare = stamped.empty;
    }

-- the whole step, over what each call of it gives
pub do_one_step : (p : Shape) (h h1 h' : History) (tape : List ℕ) (array array' : List (List ℕ)) (words words' : List ℕ) (server sliced room taken path' stored server' : List Bucket)
    (n client : ℕ) (op : Op) (word used leaf first : ℕ)
    → p ≡ h.opening.shape → h1 ≡ h → IsDesk h tape array words server room n → MayPlay h.opening n client op
    → used ≡ word_for (slice_index words) word true op → leaf ≡ leaf_of p.l used → first ≡ node_count p.l + 1 + n * (p.l + 1)
    → sliced ≡ server → taken ≡ map (bucket_at sliced) (path p.l leaf)
    → h'.opening ≡ h1.opening → h'.events ≡ h1.events ++ Arrive client op word ∷ Done n taken ∷ Issue (n + 1) first path' ∷ Acked (n + 1) ∷ []
    → AreStamped (nodes_in taken) (n + 1) first path' → length path' ≡ length taken → stored ≡ path' → Stores (length server) stored (bucket_at server) (bucket_at server')
    → length server' ≡ length server → array' ≡ array_step array op → words' ≡ placed words op word
    → IsDesk h' tape array' words' server' path' (n + 1)
do_one_step p h h1 h' tape array array' words words' server sliced room taken path' stored server' n client op word used leaf first
    shape same d m uses leaf_at first_at slice is opening events stamped len stores_is stores server_len blocks places =
    let small : leaf < 2 ^ p.l = subst (λ x. x < 2 ^ p.l) (sym leaf_at) (leaf_small p.l used) in
    let ready = gathered_ready p h h1 tape array words server sliced room taken n leaf shape same d small slice is in
    let gathered : taken ≡ map (bucket_at server) (path h.opening.shape.l leaf) =
    is ∙ ap (λ s. map (bucket_at s) (path p.l leaf)) slice ∙ ap (λ s. map (bucket_at server) (path s.l leaf)) shape in
    desk_step h h' tape array array' words words' server server' room path' n client op word leaf first d m (opening ∙ ap (λ k. k.opening) same) (record {
      leaf = leaf_at ∙ ap (λ s. leaf_of s.l used) shape ∙ ap (leaf_of h.opening.shape.l) uses;
      nonce = first_at ∙ ap (λ s. node_count s.l + 1 + n * (s.l + 1)) shape;
      events = events ∙ ap (λ k. k.events ++ Arrive client op word ∷ Done n taken ∷ Issue (n + 1) first path' ∷ Acked (n + 1) ∷ []) same
          ∙ ap (λ t. h.events ++ Arrive client op word ∷ Done n t ∷ Issue (n + 1) first path' ∷ Acked (n + 1) ∷ []) gathered;
      stamped = subst (λ nodes. AreStamped nodes (n + 1) first path') ready.1.1.0 stamped;
      stores = subst (λ b. Stores (length server) b (bucket_at server) (bucket_at server')) stores_is stores;
      blocks = blocks;
      places = places;
      server_len = server_len;
      path_len = len ∙ ready.0 ∙ ap (λ k. k.opening.shape.l + 1) same;
    })

-- the load's bucket of a node
find_load : (a n w : ℕ) → a ≤ w → w < a + n → bucket_of w (map (λ v. empty_bucket v 0 v) (range_with_len a n)) ≡ Some (empty_bucket w 0 w)
find_load a zero w low high = absurd (omega arith)
find_load a (suc n) w low high = either (cases_eq a w) (find_load (a + 1) n w)
  where
    either : (a ≡ w) ⊎ (a ≡ w → ⊥) → (a + 1 ≤ w → w < a + 1 + n → bucket_of w (map (λ v. empty_bucket v 0 v) (range_with_len (a + 1) n)) ≡ Some (empty_bucket w 0 w))
        → bucket_of w (map (λ v. empty_bucket v 0 v) (range_with_len a (suc n))) ≡ Some (empty_bucket w 0 w)
    either (inl same) rest = rw (eq-eqb a w same) (ap (λ v. Some (empty_bucket v 0 v)) same)
    either (inr other) rest = rw (ne_eqb a w other) (rest (omega (arith, other)) (omega arith))

-- the desk as it starts
pub desk_start : (s : Shape) (tape own places : List ℕ) (blocks array : List (List ℕ)) (server loaded room : List Bucket) (h : History)
    → IsShape s → s.k ≡ 1 → s.n ≤ length tape → length blocks ≡ s.n → All (λ value. length value ≡ s.b) blocks
    → own ≡ take s.n tape → places ≡ own → server ≡ empty_load (node_count s.l) → loaded ≡ empty_load (node_count s.l) → array ≡ blocks → room ≡ empty_load (s.l + 1)
    → h ≡ record { opening = record { shape = s; words = own; first = blocks; loaded = loaded }; events = [] } → IsDesk h tape array places server room 0
desk_start s tape own places blocks array server loaded room h shape once enough count values own_is places_is server_is loaded_is array_is room_is h_is =
    rw (h_is, places_is, own_is, server_is, loaded_is, array_is, room_is) (record {
      quiet = record {
        follows = record { shape = shape; words = length-take-le s.n tape enough; blocks = count; values = values };
        once = once;
        fault = refl;
        arrived = refl;
        dones = refl;
        issues = refl;
        all_done = λ i h. absurd (omega arith);
        acked = λ v h. refl;
        buckets = omega arith;
        away = λ w. refl;
        touch = λ w. omega arith;
        unaltered = tt;
        served = λ w low high.
            let at : bucket_at (empty_load (node_count s.l)) w ≡ empty_bucket w 0 w =
            get_or-map-range_with_len (λ v. empty_bucket v 0 v) 1 (node_count s.l) (w - 1) w (empty_bucket 0 0 0) (omega arith) (omega arith) in
            rw at (record { written = find_load 1 (node_count s.l) w low (omega arith); version = refl; node = refl; empty = refl });
      };
      words = refl;
      array = refl;
      blocks_len = count;
      places_len = length-take-le s.n tape enough;
      place = λ block small. sym (rw (lt-ltb block s.n small) refl);
      server_len = length-map-range_with_len (λ w. empty_bucket w 0 w) 1 (node_count s.l);
      path_len = length-map-range_with_len (λ w. empty_bucket w 0 w) 1 (s.l + 1);
      path_empty = All-map (λ b. b.entries ≡ []) (λ w. empty_bucket w 0 w) (range_with_len 1 (s.l + 1)) (λ k d h. refl);
      within = omega arith;
    })

-- the stamped path is of nodes of the server
pub stored_nodes : (p : Shape) (h h1 : History) (tape : List ℕ) (array : List (List ℕ)) (words : List ℕ) (server sliced room taken path' stored : List Bucket) (n leaf version first : ℕ)
    → p ≡ h.opening.shape → h1 ≡ h → IsDesk h tape array words server room n → leaf < 2 ^ p.l → sliced ≡ server → taken ≡ map (bucket_at sliced) (path p.l leaf)
    → AreStamped (nodes_in taken) version first path' → stored ≡ path' → All (λ bucket. (1 ≤ bucket.node) × (bucket.node ≤ length server)) stored
stored_nodes p h h1 tape array words server sliced room taken path' stored n leaf version first shape same d small slice is stamped stores_is =
    let ready = gathered_ready p h h1 tape array words server sliced room taken n leaf shape same d small slice is in
    let within = nodes_within h.opening.shape.l leaf version first path' ready.1.1.1 (subst (λ nodes. AreStamped nodes version first path') ready.1.1.0 stamped) in
    let len = d.server_len in
    subst (All (λ bucket. (1 ≤ bucket.node) × (bucket.node ≤ length server))) (sym stores_is)
    (subst (λ k. All (λ bucket. (1 ≤ bucket.node) × (bucket.node ≤ k)) path') (sym len) within)

-- ---- the words of the tape that are left

abbrev pub state_of : History → List ℕ → DeskState
state_of h tape = record { history = h; tape = tape }

pub word_there : (d : DeskState) (h : History) (tape slice : List ℕ) (p : Shape) (k n : ℕ) → state_of h tape ≡ d → 0 < words_left d → p ≡ h.opening.shape → k ≡ p.n
    → arrivals_of h ≡ n → slice ≡ tape → k + n < length slice
unfolding words_left
word_there d h tape slice p k n view left shape is arrived same =
    let at : 0 < length tape - (h.opening.shape.n + arrivals_of h) = subst (λ s. 0 < length s.tape - (s.history.opening.shape.n + arrivals_of s.history)) (sym view) left in
    let whole : k ≡ h.opening.shape.n = is ∙ ap (λ s. s.n) shape in
    let len : length slice ≡ length tape = ap length same in
    omega arith

pub word_taken : (d : DeskState) (h h' : History) (tape : List ℕ) (n : ℕ) → state_of h tape ≡ d → 0 < words_left d → arrivals_of h ≡ n → h'.opening ≡ h.opening → arrivals_of h' ≡ n + 1
    → words_left (state_of h' tape) + 1 ≡ words_left d
unfolding words_left
word_taken d h h' tape n view left arrived opening arrived' =
    let at : 0 < length tape - (h.opening.shape.n + arrivals_of h) = subst (λ s. 0 < length s.tape - (s.history.opening.shape.n + arrivals_of s.history)) (sym view) left in
    let blocks : h'.opening.shape.n ≡ h.opening.shape.n = ap (λ o. o.shape.n) opening in
    let now : length tape - (h'.opening.shape.n + arrivals_of h') + 1 ≡ length tape - (h.opening.shape.n + arrivals_of h) = omega arith in
    now ∙ ap (λ s. length s.tape - (s.history.opening.shape.n + arrivals_of s.history)) view

pub words_at_start : (s : Shape) (words : List ℕ) (h : History) → h.opening.shape ≡ s → arrivals_of h ≡ 0 → s.n ≤ length words → words_left (state_of h words) + s.n ≡ length words
unfolding words_left
words_at_start s words h shape none enough = let blocks : h.opening.shape.n ≡ s.n = ap (λ x. x.n) shape in omega arith

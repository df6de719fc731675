-- Answers that were read, and the rooms that hold their buckets.
use Rattle.std.proofs.Common.{◌≡◌, ℕ, ◌+◌, ◌<◌, ◌≤◌, ◌^◌, Bool, ◌||◌, List, [], ◌∷◌, length, take, map, reverse, All, Option, Some, None, is_some, Result, Ok, Err, refl, sym, ap, ap₂, ◌∙◌, subst, arith, get_or, set, drop, ◌++◌}
use Rattle.std.specs.List.{filter_map, cons_option, slice_index_or}
use Rattle.std.proofs.lemmas.Bool.{eq-eqb}
use Rattle.std.proofs.lemmas.List.{get_or_default, take_more, get_or-set_other}
use Rattle.std.proofs.lemmas.List.Elements.{All-nil, All-cons, filter_map-append}
use Rattle.tao_base.specs.Limits.{Shape}
use Rattle.tao_base.specs.Session.{Opening}
use Rattle.tao_base.specs.Tree.{node_count}
use Rattle.tao_base.specs.declared.session.Event.{Event}
use Rattle.tao_base.specs.declared.storage.Bucket.{Bucket}
use Rattle.tao_bucket.specs.Encoding.{format_of}
use Rattle.tao_bucket.specs.Rooms.{RoomState, emptied}
use Rattle.tao_images.specs.Answers.{kept_tag, is_met, is_passed, leaf_refusal, buckets_scanned}
use Rattle.tao_images.specs.Paths.{path_refusal, buckets_read, IsKnownAlike, IsRoom, held_in}
use Rattle.tao_images.proofs.KnownLemmas.{same_known}
use Rattle.tao_holdings.specs.Holding.{is_held, version_in}
use Rattle.tao_model.specs.Residence.{is_resident, newest_version}
use Rattle.tao_processor.specs.Groups.{Parts, IsProcessor}
use Rattle.tao_processor.specs.Rooms.{IsFull, IsStockFor, buckets_held, KeepsRooms}
use Rattle.tao_processor.specs.State.{ProcessorState, look_refusal, buckets_looked}
use Rattle.std.specs.Result.{result_err, IsErrAnd}
use Rattle.tao_processor.proofs.TagsKept.{tagged_later}

-- ---- what is known of the nodes

-- the two ways to know of nodes refuse and read the same
pub record ReadAlike (key : List ℕ) (s : Shape) (skipped skipped' : ℕ → Bool) (version version' : ℕ → ℕ) (tag tag' : ℕ → List ℕ) (leaf : ℕ) (image : List ℕ) : Type 0 where
  pub refusal : path_refusal key s skipped version tag leaf image ≡ path_refusal key s skipped' version' tag' leaf image
  pub buckets : buckets_read key s skipped leaf image ≡ buckets_read key s skipped' leaf image

-- the tables tell what the record tells
pub read_alike : (x : Parts) (leaf : ℕ) (image no_tag : List ℕ) (skipped skipped' : ℕ → Bool) → IsProcessor x → leaf < 2 ^ x.session.history.opening.shape.l
    → ((w : ℕ) → is_held x.holdings w ≡ is_resident x.session.history.opening (reverse x.session.history.events) w → skipped w ≡ skipped' w)
    → ReadAlike x.key x.session.history.opening.shape skipped skipped' (λ w. version_in x.holdings w) (newest_version (reverse x.session.history.events))
    (λ w. slice_index_or x.tags w no_tag) (kept_tag x.key x.session.history.opening (reverse x.session.history.events)) leaf image
read_alike x leaf image no_tag skipped skipped' is small skips = record { refusal = both.0; buckets = both.1 }
  where
    o : Opening
    o = x.session.history.opening

    es : List Event
    es = reverse x.session.history.events

    later : (w version : ℕ) → format_of o.shape.form version ≡ 2 → version ≡ newest_version es w → 1 ≤ w → w ≤ node_count o.shape.l → slice_index_or x.tags w no_tag ≡ kept_tag x.key o es w
    later w version two newest low high =
        let there = is.tagged.places (tagged_later o.shape.form version two) in
        get_or_default x.tags w no_tag [] (omega (arith, there, high))
        ∙ is.tagged.told w low high (eq-eqb (format_of o.shape.form (newest_version es w)) 2 (ap (format_of o.shape.form) (sym newest) ∙ two))

    alike : IsKnownAlike o.shape skipped skipped' (λ w. version_in x.holdings w) (newest_version es) (λ w. slice_index_or x.tags w no_tag) (kept_tag x.key o es)
    alike = record {
      skips = λ w low high. skips w (is.held_is.nodes.residents w);
      versions = λ w low high. is.held_is.nodes.versions w;
      tags = λ w low high two. later w (version_in x.holdings w) two (is.held_is.nodes.versions w) low high;
    }

    both : (path_refusal x.key o.shape skipped (λ w. version_in x.holdings w) (λ w. slice_index_or x.tags w no_tag) leaf image ≡ path_refusal x.key o.shape skipped' (newest_version es) (kept_tag x.key o es) leaf image)
        × (buckets_read x.key o.shape skipped leaf image ≡ buckets_read x.key o.shape skipped' leaf image)
    both = same_known x.key o.shape skipped skipped' (λ w. version_in x.holdings w) (newest_version es) (λ w. slice_index_or x.tags w no_tag) (kept_tag x.key o es) leaf image small alike

-- what contracts see of a processor with these buckets in its rooms
abbrev pub view_of : Parts → List Bucket → ProcessorState
view_of x looked = record { key = x.key; history = x.session.history; holdings = x.holdings; ready = x.ready; looked = looked }

-- an answer to a fetch is refused and read as the record tells
pub look_so : {x : Parts} {c : ProcessorState} {looked : List Bucket} {kept : List (List ℕ)} (leaf : ℕ) (image no_tag : List ℕ) → IsProcessor x → view_of x looked ≡ c → kept ≡ x.tags
    → leaf < 2 ^ c.history.opening.shape.l
    → (path_refusal x.key x.shape (λ w. is_held x.holdings w) (λ w. version_in x.holdings w) (λ w. slice_index_or kept w no_tag) leaf image ≡ look_refusal c leaf image)
    × (buckets_read x.key x.shape (λ w. is_held x.holdings w) leaf image ≡ buckets_looked c leaf image)
look_so {x} {c} {looked} {kept} leaf image no_tag is same tags_are small =
    let o = x.session.history.opening in
    let skipped : ℕ → Bool = λ w. is_held x.holdings w in
    let low = subst (λ (st : ProcessorState). leaf < 2 ^ st.history.opening.shape.l) (sym same) small in
    let alike = read_alike x leaf image no_tag skipped (is_resident o (reverse x.session.history.events)) is low (λ w held. held) in (
      ap₂ (λ (s : Shape) (ts : List (List ℕ)). path_refusal x.key s skipped (λ w. version_in x.holdings w) (λ w. slice_index_or ts w no_tag) leaf image) (sym is.record_is.shape) tags_are
          ∙ alike.refusal ∙ ap (λ (st : ProcessorState). look_refusal st leaf image) same,
      ap (λ (s : Shape). buckets_read x.key s skipped leaf image) (sym is.record_is.shape) ∙ alike.buckets ∙ ap (λ (st : ProcessorState). buckets_looked st leaf image) same,
    )

-- so is one to the closing scan
pub look_new_so : {x : Parts} {c : ProcessorState} {looked : List Bucket} {kept : List (List ℕ)} (leaf : ℕ) (image no_tag : List ℕ) → IsProcessor x → view_of x looked ≡ c → kept ≡ x.tags
    → leaf < 2 ^ c.history.opening.shape.l
    → (path_refusal x.key x.shape (λ w. is_held x.holdings w || is_met x.shape.l leaf w) (λ w. version_in x.holdings w) (λ w. slice_index_or kept w no_tag) leaf image ≡ leaf_refusal c.key c.history leaf image)
    × (buckets_read x.key x.shape (λ w. is_held x.holdings w || is_met x.shape.l leaf w) leaf image ≡ buckets_scanned c.key c.history leaf image)
look_new_so {x} {c} {looked} {kept} leaf image no_tag is same tags_are small =
    let o = x.session.history.opening in
    let skipped : ℕ → Bool = λ w. is_held x.holdings w || is_met o.shape.l leaf w in
    let low = subst (λ (st : ProcessorState). leaf < 2 ^ st.history.opening.shape.l) (sym same) small in
    let alike = read_alike x leaf image no_tag skipped (is_passed o (reverse x.session.history.events) leaf) is low (λ w held. ap (λ t. t || is_met o.shape.l leaf w) held) in (
      ap₂ (λ (s : Shape) (ts : List (List ℕ)). path_refusal x.key s (λ w. is_held x.holdings w || is_met s.l leaf w) (λ w. version_in x.holdings w) (λ w. slice_index_or ts w no_tag) leaf image)
          (sym is.record_is.shape) tags_are
          ∙ alike.refusal ∙ ap (λ (st : ProcessorState). leaf_refusal st.key st.history leaf image) same,
      ap (λ (s : Shape). buckets_read x.key s (λ w. is_held x.holdings w || is_met s.l leaf w) leaf image) (sym is.record_is.shape)
          ∙ alike.buckets ∙ ap (λ (st : ProcessorState). buckets_scanned st.key st.history leaf image) same,
    )

-- what contracts see once the rooms hold other buckets
pub looked_so : {x : Parts} {c : ProcessorState} {looked now buckets : List Bucket} → IsProcessor x → view_of x looked ≡ c → now ≡ buckets → view_of x now ≡ record c { looked = buckets }
looked_so {x} {c} {looked} {now} {buckets} is same here = ap (view_of x) here ∙ ap (λ (st : ProcessorState). record st { looked = buckets }) same

pub err_of : {X E : Type 0} (result : Result X E) (e : E) → IsErrAnd result (λ x. x ≡ e) → result_err result ≡ Some e
err_of (Ok x) e is = absurd is
err_of (Err x) e is = ap (λ y. Some y) is

-- ---- what the rooms hold

-- the buckets of rooms that are all full
held_all : (rooms : List RoomState) (buckets : List Bucket) → map held_in rooms ≡ map Some buckets → (filter_map held_in rooms ≡ buckets) × All IsFull rooms
held_all [] [] same = (refl, All-nil IsFull)
held_all [] (b ∷ buckets) same = absurd (let long = ap length same in omega (arith, long))
held_all (r ∷ rooms) [] same = absurd (let long = ap length same in omega (arith, long))
held_all (r ∷ rooms) (b ∷ buckets) same =
    let first : r.held ≡ Some b = ap (λ (xs : List (Option Bucket)). get_or xs 0 None) same in
    let rest = held_all rooms buckets (ap (λ (xs : List (Option Bucket)). drop 1 xs) same) in
    (ap₂ cons_option first rest.0, All-cons IsFull r rooms (ap is_some first) rest.1)

pub held_read : (count : ℕ) (rooms : List RoomState) (buckets : List Bucket) → map held_in (take count rooms) ≡ map Some buckets → buckets_held count rooms ≡ buckets
held_read count rooms buckets same = (held_all (take count rooms) buckets same).0

-- the rooms once an answer was read
pub rooms_read : {s : Shape} {rooms now : List RoomState} {looked space count : ℕ} {taken stock : List Bucket} (buckets : List Bucket) → KeepsRooms s rooms looked taken space stock → length now ≡ length rooms
    → All (IsRoom s) now → count ≤ s.l + 1 → map held_in (take count now) ≡ map Some buckets → KeepsRooms s now count taken space stock
rooms_read {s} {rooms} {now} {looked} {space} {count} {taken} {stock} buckets keeps long each within same = record {
  enough = let before = keeps.enough in omega (arith, before, long);
  each = each;
  within = within;
  full = (held_all (take count now) buckets same).1;
  empty = keeps.empty;
  fits = keeps.fits;
  stocked = keeps.stocked;
}

-- and once one was refused
pub rooms_empty : {s : Shape} {rooms now : List RoomState} {looked space : ℕ} {taken stock : List Bucket} → KeepsRooms s rooms looked taken space stock → length now ≡ length rooms
    → All (IsRoom s) now → KeepsRooms s now 0 taken space stock
rooms_empty {s} {rooms} {now} {looked} {space} {taken} {stock} keeps long each = record {
  enough = let before = keeps.enough in omega (arith, before, long);
  each = each;
  within = omega arith;
  full = All-nil IsFull;
  empty = keeps.empty;
  fits = keeps.fits;
  stocked = keeps.stocked;
}

-- other rooms change nothing else
pub rooms_keep : {x : Parts} {rooms : List RoomState} {looked : ℕ} → IsProcessor x → KeepsRooms x.shape rooms looked x.taken x.taken_room x.stock
    → IsProcessor (record x { rooms = rooms; looked = looked })
rooms_keep {x} {rooms} {looked} is keeps = record {
  record_is = is.record_is;
  held_is = is.held_is;
  asked = is.asked;
  flags = is.flags;
  fetched = is.fetched;
  writes = is.writes;
  tagged = is.tagged;
  pools = is.pools;
  blocks = is.blocks;
  order_rooms = is.order_rooms;
  rooms_are = keeps;
  recent_fits = is.recent_fits;
  written_fits = is.written_fits;
  written_empty = is.written_empty;
}

-- ---- buckets that are taken from rooms

-- one more is taken
pub taken_more : (count : ℕ) (rooms : List RoomState) (room d : RoomState) (bucket : Bucket) → count < length rooms → room ≡ get_or rooms count d → room.held ≡ Some bucket
    → buckets_held (count + 1) rooms ≡ buckets_held count rooms ++ bucket ∷ []
taken_more count rooms room d bucket low here held =
    ap (filter_map held_in) (take_more rooms count d low ∙ ap (λ (r : RoomState). take count rooms ++ r ∷ []) (sym here))
    ∙ filter_map-append held_in (take count rooms) (room ∷ []) ∙ ap (λ (o : Option Bucket). buckets_held count rooms ++ cons_option o []) held

-- the rooms that are still to come stay
pub rest_held : (rooms now : List RoomState) (i : ℕ) (room : RoomState) → ((k : ℕ) (d : RoomState) → i ≤ k → k < length rooms → get_or now k d ≡ get_or rooms k d)
    → (k : ℕ) (d : RoomState) → i + 1 ≤ k → k < length rooms → get_or (set now i room) k d ≡ get_or rooms k d
rest_held rooms now i room rest k d past low = get_or-set_other now i k room d (omega arith) ∙ rest k d (omega arith) low

-- the rooms at the start
pub rooms_at_start : {s : Shape} {rooms : List RoomState} {taken stock : List Bucket} {space : ℕ} → All (IsRoom s) rooms → length rooms ≡ s.l + 1 → taken ≡ [] → s.l + 1 ≤ space → stock ≡ []
    → KeepsRooms s rooms 0 taken space stock
rooms_at_start {s} {rooms} {taken} {stock} {space} each long empty fits none = record {
  enough = omega (arith, long);
  each = each;
  within = omega arith;
  full = All-nil IsFull;
  empty = empty;
  fits = fits;
  stocked = subst (λ (bs : List Bucket). All (IsStockFor s) bs) (sym none) (All-nil (IsStockFor s));
}

-- the rooms once their buckets were taken
pub rooms_taken : {s : Shape} {rooms now : List RoomState} {looked space wide : ℕ} {taken left stock rest : List Bucket} → KeepsRooms s rooms looked taken space stock → length now ≡ length rooms
    → All (IsRoom s) now → left ≡ [] → space ≤ wide → All (IsStockFor s) rest → KeepsRooms s now 0 left wide rest
rooms_taken {s} {rooms} {now} {looked} {space} {wide} {taken} {left} {stock} {rest} keeps long each empty more stocked = record {
  enough = let before = keeps.enough in omega (arith, before, long);
  each = each;
  within = omega arith;
  full = All-nil IsFull;
  empty = empty;
  fits = let before = keeps.fits in omega (arith, before, more);
  stocked = stocked;
}

-- a room that was emptied is one still
pub emptied_room : (s : Shape) (room now : RoomState) → now ≡ emptied room → IsRoom s room → IsRoom s now
emptied_room s room now same is = record { z = ap (λ (r : RoomState). r.z) same ∙ is.z; b = ap (λ (r : RoomState). r.b) same ∙ is.b }

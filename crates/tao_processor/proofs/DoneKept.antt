-- A Done keeps the invariant.
use Rattle.std.proofs.Common.{◌≡◌, ℕ, ◌+◌, ◌-◌, ◌≤◌, Bool, true, false, List, [], ◌∷◌, ◌++◌, length, reverse, All, refl, sym, ap, ap₂, ◌∙◌, subst, arith}
use Rattle.std.specs.Prelude.{slice_set}
use Rattle.tao_base.specs.declared.session.Event.{Event}
use Rattle.tao_base.specs.declared.session.Event.TheVariants.{Done}
use Rattle.tao_base.specs.declared.storage.Bucket.{Bucket}
use Rattle.tao_base.specs.Session.{Opening, History}
use Rattle.tao_base.specs.Limits.{Shape}
use Rattle.tao_model.specs.Events.{arrived, dones, issues, acks, word_of}
use Rattle.tao_model.specs.Requests.{fetched_leaf}
use Rattle.tao_model.specs.Placement.{entries_at}
use Rattle.tao_model.specs.OneMore.{with_one_more}
use Rattle.tao_model.proofs.Stays.{newest_first}
use Rattle.tao_held.specs.Held.{WritesHeld}
use Rattle.tao_held.specs.Steps.{take_in, with_path}
use Rattle.tao_tables.specs.WriteBacks.{PutsPath}
use Rattle.tao_tables.specs.Flags.{TellsFlags}
use Rattle.tao_tables.specs.Pools.{Pools, HasPools, KeepsPools}
use Rattle.tao_tables.proofs.KeptFlags.{flags_are_told}
use Rattle.tao_tables.proofs.KeptRows.{rows_are_told}
use Rattle.tao_tables.proofs.PoolRoom.{room_grows}
use Rattle.tao_record.specs.State.{RecordState, added}
use Rattle.tao_requests.specs.State.{RequestsState}
use Rattle.tao_holdings.specs.Holding.{HoldingsState, is_held, contents_in, count_in, touch_in, AreForms, one_less, touched}
use Rattle.tao_processor.specs.Steps.{Finishes, LeavesBlocks, settled_where, is_for_block, found_by}
use Rattle.tao_bucket.specs.Rooms.{RoomState}
use Rattle.tao_processor.specs.Rooms.{KeepsRooms, buckets_held}
use Rattle.tao_images.specs.Answers.{with_event}
use Rattle.tao_processor.specs.State.{ProcessorState}
use Rattle.tao_processor.specs.Groups.{Parts, IsProcessor, KeepsHoldings, KeepsRequests, pools_of}
use Rattle.tao_processor.proofs.DoneHoldings.{DoesFetch, done_holdings}
use Rattle.tao_processor.proofs.DoneReady.{IsReadyForDone}
use Rattle.tao_processor.proofs.TagsKept.{tags_go_on}
use Rattle.tao_tables.proofs.KeptWrites.{writes_are_told}

-- what the calls of a Done do, by the leaf, the word and the number that they were given
pub record DoesDone (x : Parts) (i leaf word t : ℕ) (taken : List Bucket) (session : RecordState) (h1 h2 h3 : HoldingsState) (q : RequestsState) (done_flags : List Bool)
    (recent : List ℕ) (room : ℕ) (values : List (List ℕ)) (value_count : ℕ) (rooms : List RoomState) (left : List Bucket) (space : ℕ) (stock : List Bucket) (stock_count : ℕ) : Type 0 where
  pub adds : session ≡ record (added x.session (Done i taken)) { dones = x.session.dones - 1 }
  pub held_now : is_held h1 ≡ with_path x.holdings.shape.l leaf (is_held x.holdings)
  pub taken_in : contents_in h1 ≡ take_in x.holdings.shape.l leaf (is_held x.holdings) (entries_at taken) (contents_in x.holdings)
  pub nodes_alone : h1 ≡ record x.holdings { nodes = h1.nodes }
  pub finishes : Finishes i leaf word h1 h2 x.requests q
  pub blocks : LeavesBlocks h1.shape.b x.value_count value_count values
  pub counts : count_in h3 ≡ one_less h2.shape.l leaf (count_in h2)
  pub touches : touch_in h3 ≡ touched h2.shape.l leaf t (touch_in h2)
  pub numbers_alone : h3 ≡ record h2 { counts = h3.counts; touches = h3.touches }
  pub flag : done_flags ≡ slice_set x.done_flags i true
  pub puts : PutsPath x.shape.l leaf x.recent recent
  pub no_less : x.recent_room ≤ room
  pub rooms_are : KeepsRooms x.shape rooms 0 left space stock
  pub stock_less : stock_count + x.looked ≡ x.stock_count

spare_stays : (a : Bool) (q : RequestsState) (i : ℕ) (v : List ℕ) → (settled_where a q i v).spare ≡ q.spare
spare_stays true q i v = refl
spare_stays false q i v = refl

pub done_keeps : {x : Parts} {i leaf word t : ℕ} {taken : List Bucket} {session : RecordState} {h1 h2 h3 : HoldingsState} {q : RequestsState} {done_flags : List Bool} {recent : List ℕ} {room : ℕ}
    {values : List (List ℕ)} {value_count : ℕ} {rooms : List RoomState} {left : List Bucket} {space : ℕ} {stock : List Bucket} {stock_count : ℕ} → IsProcessor x → IsReadyForDone x i taken → AreForms x.holdings
    → (leaf ≡ fetched_leaf x.session.history.opening (reverse x.session.history.events) i) × (word ≡ word_of (reverse x.session.history.events) i) → t ≡ x.done_count + 1
    → DoesDone x i leaf word t taken session h1 h2 h3 q done_flags recent room values value_count rooms left space stock stock_count
    → IsProcessor (record x { session = session; requests = q; done_flags = done_flags; recent = recent; recent_room = room; done_count = x.done_count + 1; holdings = h3; values = values; value_count = value_count; rooms = rooms; looked = 0; taken = left; taken_room = space; stock = stock; stock_count = stock_count })
done_keeps {x} {i} {leaf} {word} {t} {taken} {session} {h1} {h2} {h3} {q} {done_flags} {recent} {room} {values} {value_count} {rooms} {left} {space} {stock} {stock_count} is ready forms row number does =
    subst (λ (s : RecordState). IsProcessor (record x { session = s; requests = q; done_flags = done_flags; recent = recent; recent_room = room; done_count = x.done_count + 1; holdings = h3; values = values; value_count = value_count; rooms = rooms; looked = 0; taken = left; taken_room = space; stock = stock; stock_count = stock_count }))
    (sym does.adds) (record {
      record_is = record {
        shape = is.record_is.shape;
        proxy = record {
          opens = is.record_is.proxy.opens;
          follows = ready.lawful;
          writes = subst (λ now. WritesHeld o now) (sym (newest_first events (Done i taken))) is.record_is.proxy.writes;
        };
      };
      held_is = both.0;
      asked = both.1;
      flags = subst (λ (fs : List Bool). TellsFlags o (with_one_more events (Done i taken)) fs x.acked_flags) (sym does.flag) ((flags_are_told o events x.done_flags x.acked_flags is.flags).done i taken ready.lawful);
      fetched = (rows_are_told o events x.row_count _ _ is.fetched).done i taken;
      writes = (writes_are_told o events x.recent x.places x.done_count x.issue_count x.ack_count x.next_nonce is.writes).done i taken recent ready.lawful
          (subst (λ (s : Shape). PutsPath s.l (fetched_leaf o es i) x.recent recent) (sym is.record_is.shape) (subst (λ at. PutsPath x.shape.l at x.recent recent) row.0 does.puts));
      tagged = (tags_go_on x.key o events x.tags is.tagged).done i taken ready.honest;
      pools = subst (λ now. HasPools x.shape x.ready (arrived now) (dones now) (issues now) (acks now) now_left) (sym (newest_first events (Done i taken)))
          (room_grows x.shape x.ready (arrived es) (dones es + 1) (issues es) (acks es) spent now_left grows (ready.room.left x.looked 1 is.rooms_are.within (omega arith)));
      order_rooms = is.order_rooms;
      blocks = subst (λ (s : Shape). All (λ value. length value ≡ s.b) values) shape1 does.blocks.each;
      rooms_are = does.rooms_are;
      recent_fits = let less = does.no_less in let fits = is.recent_fits in omega (arith, less, fits);
      written_fits = is.written_fits;
      written_empty = is.written_empty;
    })
  where
    o : Opening
    o = x.session.history.opening

    events : List Event
    events = x.session.history.events

    es : List Event
    es = reverse events

    shape1 : h1.shape ≡ x.shape
    shape1 = ap (λ (h : HoldingsState). h.shape) does.nodes_alone ∙ is.held_is.shape ∙ is.record_is.shape

    shape2 : h2.shape ≡ o.shape
    shape2 = ap (λ (h : HoldingsState). h.shape) does.finishes.others ∙ ap (λ (h : HoldingsState). h.shape) does.nodes_alone ∙ is.held_is.shape

    fetch : DoesFetch o.shape i (fetched_leaf o es i) (word_of es i) (dones es + 1) taken x.holdings h1 h2 h3 x.requests q
    fetch = record {
      held_now = does.held_now ∙ ap₂ (λ (s : Shape) (at : ℕ). with_path s.l at (is_held x.holdings)) is.held_is.shape row.0;
      taken_in = does.taken_in ∙ ap₂ (λ (s : Shape) (at : ℕ). take_in s.l at (is_held x.holdings) (entries_at taken) (contents_in x.holdings)) is.held_is.shape row.0;
      nodes_alone = does.nodes_alone;
      finishes = subst (λ at. Finishes i at (word_of es i) h1 h2 x.requests q) row.0 (subst (λ own. Finishes i leaf own h1 h2 x.requests q) row.1 does.finishes);
      counts = does.counts ∙ ap₂ (λ (s : Shape) (at : ℕ). one_less s.l at (count_in h2)) shape2 row.0;
      touches = does.touches ∙ ap₂ (λ (s : Shape) (at : ℕ). touched s.l at t (touch_in h2)) shape2 row.0
          ∙ ap (λ n. touched o.shape.l (fetched_leaf o es i) n (touch_in h2)) (number ∙ ap (λ n. n + 1) is.writes.dones);
      numbers_alone = does.numbers_alone;
    }

    both : KeepsHoldings o (with_one_more events (Done i taken)) h3 × KeepsRequests o (events ++ Done i taken ∷ []) q
    both = done_holdings o events i taken x.holdings h1 h2 h3 x.requests q is.held_is is.asked ready.lawful ready.there ready.open_yet forms fetch

    spare : q.spare ≡ x.requests.spare
    spare = ap (λ (r : RequestsState). r.spare) does.finishes.requests ∙ spare_stays (is_for_block x.requests i) x.requests i (found_by h1 x.requests i leaf)

    spent : Pools
    spent = record (pools_of x) { dones = x.session.dones - 1; stock = x.stock_count - x.looked; values = x.value_count - 1 }

    now_left : Pools
    now_left = record (pools_of x) { dones = x.session.dones - 1; stock = stock_count; values = value_count; requests = q.spare }

    grows : KeepsPools spent now_left
    grows = record {
      dones = omega arith;
      issues = omega arith;
      others = omega arith;
      orders = omega arith;
      stock = let less = does.stock_less in omega (arith, less);
      values = let few = does.blocks.few in omega arith;
      requests = omega (arith, spare);
      rows = omega arith;
      places = omega arith;
    }

-- what contracts see of it
pub done_so : {x : Parts} (looked taken : List Bucket) (i : ℕ) (session : RecordState) (h3 : HoldingsState) (rooms : List RoomState) (old : ProcessorState) → IsProcessor x
    → (record { key = x.key; history = x.session.history; holdings = x.holdings; ready = x.ready; looked = looked }) ≡ old → taken ≡ looked
    → session ≡ record (added x.session (Done i taken)) { dones = x.session.dones - 1 }
    → (record { key = x.key; history = session.history; holdings = h3; ready = x.ready; looked = buckets_held 0 rooms }) ≡ record old { history = with_event old.history (Done i old.looked); holdings = h3; looked = [] }
done_so {x} looked taken i session h3 rooms old is same here adds =
    subst (λ (st : ProcessorState). (record { key = x.key; history = session.history; holdings = h3; ready = x.ready; looked = buckets_held 0 rooms }) ≡ record st { history = with_event st.history (Done i st.looked); holdings = h3; looked = [] }) same
    (ap (λ (h : History). record { key = x.key; history = h; holdings = h3; ready = x.ready; looked = [] })
    (ap (λ (r : RecordState). r.history) adds ∙ ap (λ (bs : List Bucket). with_event x.session.history (Done i bs)) here))

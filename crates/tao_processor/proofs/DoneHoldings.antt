-- How a Done changes holdings and requests.
use Rattle.std.proofs.Common.{◌≡◌, ℕ, ◌+◌, ◌<◌, Bool, true, false, cond, List, [], ◌∷◌, ◌++◌, reverse, Option, Some, None, All, refl, sym, ap, ap₂, ◌∙◌, subst, nat_eq}
use Rattle.std.proofs.Math.Path.{fun_ext}
use Rattle.std.proofs.lemmas.Bool.{true≢false}
use Rattle.std.proofs.lemmas.List.Elements.{All-nil}
use Rattle.std.specs.Prelude.{slice_set, slice_index, IfSome}
use Rattle.std.specs.List.{slice_index_or}
use Rattle.tao_base.specs.declared.session.Event.{Event}
use Rattle.tao_base.specs.declared.session.Event.TheVariants.{Done}
use Rattle.tao_base.specs.declared.storage.Bucket.{Bucket}
use Rattle.tao_base.specs.declared.storage.Entry.{Entry}
use Rattle.tao_base.specs.Session.{Opening}
use Rattle.tao_base.specs.Limits.{Shape}
use Rattle.tao_base.specs.Tree.{leaf_of}
use Rattle.tao_model.specs.Events.{arrived, dones, is_done, word_of}
use Rattle.tao_model.specs.Requests.{is_real, fetched_leaf, position}
use Rattle.tao_model.specs.Placement.{entries_at}
use Rattle.tao_base.specs.Buckets.{IsInForm}
use Rattle.tao_model.specs.Lawful.{FollowsLawfully}
use Rattle.tao_model.specs.OneMore.{with_one_more}
use Rattle.tao_model.proofs.Stays.{newest_first}
use Rattle.tao_flush.specs.Blocks.{IsEntry}
use Rattle.tao_held.specs.Steps.{take_in, with_path, found_copy, value_or_zeros, put, evict}
use Rattle.tao_held.specs.Held.{held, after_fetch, found_in, block_on, value_since}
use Rattle.tao_held.specs.HeldLaws.{AreIdsBelow}
use Rattle.tao_tables.specs.Tables.{TellsNodes, MovesTables}
use Rattle.tao_tables.specs.Answers.{SettlesRight}
use Rattle.tao_tables.specs.Positions.{TellsPositions, words_done}
use Rattle.tao_tables.proofs.MovedTables.{tells_done}
use Rattle.tao_tables.proofs.ServedAnswers.{block_is_same, served_real}
use Rattle.tao_requests.specs.State.{RequestsState, block_of}
use Rattle.tao_requests.specs.Settling.{settled, value_from, KeepsAnswers}
use Rattle.tao_requests.proofs.Followed.{follows_real, follows_fake}
use Rattle.tao_holdings.specs.Holding.{HoldingsState, is_held, contents_in, entries_of, count_in, touch_in, version_in, leaf_by, one_less, touched, AreForms}
use Rattle.tao_processor.specs.Steps.{Finishes, is_for_block, found_by, put_where, moved_where, settled_where}
use Rattle.tao_processor.specs.Groups.{KeepsHoldings, KeepsRequests}
use Rattle.tao_tables.proofs.KeptRows.{positions_are_told}
use Rattle.tao_tables.proofs.KeptAnswers.{served_else}

-- all that a Done does to the holdings, from `h0` on, by a leaf, a word and the number of the Done
pub record DoesFetch (s : Shape) (i at own t : ℕ) (taken : List Bucket) (h0 h1 h2 h3 : HoldingsState) (q r : RequestsState) : Type 0 where
  pub held_now : is_held h1 ≡ with_path s.l at (is_held h0)
  pub taken_in : contents_in h1 ≡ take_in s.l at (is_held h0) (entries_at taken) (contents_in h0)
  pub nodes_alone : h1 ≡ record h0 { nodes = h1.nodes }
  pub finishes : Finishes i at own h1 h2 q r
  pub counts : count_in h3 ≡ one_less s.l at (count_in h2)
  pub touches : touch_in h3 ≡ touched s.l at t (touch_in h2)
  pub numbers_alone : h3 ≡ record h2 { counts = h3.counts; touches = h3.touches }

-- ---- plain steps

moved_same : (a b : Bool) (ws : List ℕ) (m n own : ℕ) → a ≡ b → (b ≡ true → m ≡ n) → moved_where a ws m own ≡ cond b (slice_set ws n own) ws
moved_same true true ws m n own e same = ap (λ k. slice_set ws k own) (same refl)
moved_same true false ws m n own e same = absurd (true≢false e)
moved_same false true ws m n own e same = absurd (true≢false (sym e))
moved_same false false ws m n own e same = refl

fetch_same : (a b : Bool) (s : Shape) (at : ℕ) (leaf : ℕ → ℕ) (r : ℕ → Bool) (tk c : ℕ → List Entry) (m n : ℕ) (v x : List ℕ) → a ≡ b → (b ≡ true → m ≡ n) → (b ≡ true → v ≡ x)
    → evict s at leaf (put_where a (take_in s.l at r tk c) m v) ≡ after_fetch b s at leaf r tk c n x
fetch_same true true s at leaf r tk c m n v x e same value = ap₂ (λ (k : ℕ) (y : List ℕ). evict s at leaf (put (take_in s.l at r tk c) k y)) (same refl) (value refl)
fetch_same true false s at leaf r tk c m n v x e same value = absurd (true≢false e)
fetch_same false true s at leaf r tk c m n v x e same value = absurd (true≢false (sym e))
fetch_same false false s at leaf r tk c m n v x e same value = refl

stash_below : (s : Shape) (entries : List Entry) → All (IsEntry s) entries → All (λ entry. entry.id < s.n) entries
stash_below s entries each k d low = (each k d low).0

-- all ids of what is held are blocks of the store
pub ids_below : (s : Shape) (st : HoldingsState) → AreForms st → st.shape ≡ s → AreIdsBelow s.n (λ w. contents_in st w)
ids_below s st forms same w = subst (λ (u : Shape). All (λ entry. entry.id < u.n) (contents_in st w)) same (either (nat_eq w 0))
  where
    node : (found : Option Bucket) → slice_index_or st.nodes w None ≡ found → All (λ entry. entry.id < st.shape.n) (entries_of found)
    node None is = All-nil (λ entry. entry.id < st.shape.n)
    node (Some bucket) is = (subst (λ (there : Option Bucket). IfSome there (λ bucket. (bucket.node ≡ w) × IsInForm st.shape bucket)) is (forms.nodes w)).1.entries.ids

    either : (t : Bool) → All (λ entry. entry.id < st.shape.n) (cond t st.stash (entries_of (slice_index_or st.nodes w None)))
    either true = stash_below st.shape st.stash forms.stash.each
    either false = node (slice_index_or st.nodes w None) refl

-- ---- the Done

pub done_holdings : (o : Opening) (events : List Event) (i : ℕ) (taken : List Bucket) (h0 h1 h2 h3 : HoldingsState) (q r : RequestsState)
    → KeepsHoldings o (reverse events) h0 → KeepsRequests o events q → FollowsLawfully o (with_one_more events (Done i taken)) → i < arrived (reverse events) → is_done (reverse events) i ≡ false → AreForms h0
    → DoesFetch o.shape i (fetched_leaf o (reverse events) i) (word_of (reverse events) i) (dones (reverse events) + 1) taken h0 h1 h2 h3 q r
    → KeepsHoldings o (with_one_more events (Done i taken)) h3 × KeepsRequests o (events ++ Done i taken ∷ []) r
done_holdings o events i taken h0 h1 h2 h3 q r holds asks f there open_yet forms does =
    (record { shape = shape3; nodes = nodes; positions = positions }, requests)
  where
    es : List Event
    es = reverse events

    at : ℕ
    at = fetched_leaf o es i

    shape1 : h1.shape ≡ o.shape
    shape1 = ap (λ (h : HoldingsState). h.shape) does.nodes_alone ∙ holds.shape

    shape3 : h3.shape ≡ o.shape
    shape3 = ap (λ (h : HoldingsState). h.shape) does.numbers_alone ∙ ap (λ (h : HoldingsState). h.shape) does.finishes.others ∙ shape1

    for_block : is_for_block q i ≡ is_real es i
    for_block = asks.follows.kinds i there

    on : is_real es i ≡ true → block_of q.requests i ≡ block_on es i
    on real = block_is_same events q.requests i asks.follows there real

    words1 : h1.words ≡ h0.words
    words1 = ap (λ (h : HoldingsState). h.words) does.nodes_alone

    words3 : h3.words ≡ words_done es i h0.words
    words3 =
        ap (λ (h : HoldingsState). h.words) does.numbers_alone ∙ ap (λ (h : HoldingsState). h.words) does.finishes.others
        ∙ ap (λ (ws : List ℕ). moved_where (is_for_block q i) ws (block_of q.requests i) (word_of es i)) words1
        ∙ moved_same (is_for_block q i) (is_real es i) h0.words (block_of q.requests i) (block_on es i) (word_of es i) for_block on

    positions : TellsPositions o (with_one_more events (Done i taken)) h3.words
    positions = subst (λ (ws : List ℕ). TellsPositions o (with_one_more events (Done i taken)) ws) (sym words3)
        ((positions_are_told o events h0.words holds.positions).done i taken f)

    leaves : (b : ℕ) → b < o.shape.n → leaf_by h3 b ≡ position o (Done i taken ∷ es) b
    leaves b low =
        ap (λ (s : Shape). leaf_of s.l (slice_index h3.words b)) shape3
        ∙ subst (λ (now : List Event). leaf_of o.shape.l (slice_index h3.words b) ≡ position o now b) (newest_first events (Done i taken))
        ((positions_are_told o (events ++ Done i taken ∷ []) h3.words positions).leaves b low)

    -- the value that the look-up finds
    y : List ℕ
    y = value_or_zeros o.shape (found_copy o.shape.l at (take_in o.shape.l at (is_held h0) (entries_at taken) (contents_in h0)) (block_on es i))

    y_is : y ≡ found_in o es (λ w. held o es w) i taken
    y_is = ap₂ (λ (rs : ℕ → Bool) (c : ℕ → List Entry). value_or_zeros o.shape (found_copy o.shape.l at (take_in o.shape.l at rs (entries_at taken) c) (block_on es i)))
        (fun_ext (λ w. holds.nodes.residents w)) (fun_ext (λ w. holds.nodes.contents w))

    found_is : is_real es i ≡ true → found_by h1 q i at ≡ y
    found_is real =
        ap₂ (λ (s : Shape) (c : ℕ → List Entry). value_or_zeros s (found_copy s.l at c (block_of q.requests i))) shape1 does.taken_in
        ∙ ap (λ b. value_or_zeros o.shape (found_copy o.shape.l at (take_in o.shape.l at (is_held h0) (entries_at taken) (contents_in h0)) b)) (on real)

    settles : is_real es i ≡ true → r ≡ settled q i y
    settles real = does.finishes.requests ∙ ap (λ t. settled_where t q i (found_by h1 q i at)) (for_block ∙ real) ∙ ap (settled q i) (found_is real)

    right : is_real es i ≡ true → SettlesRight o es (with_one_more events (Done i taken)) i y q.requests
    right real = served_real o events i taken y q.requests f asks.follows asks.served real y_is
        (subst (λ (u : RequestsState). KeepsAnswers q.requests u.requests) (settles real) does.finishes.stays)

    value : List ℕ
    value = value_since es (block_on es i) i y

    value_is : is_real es i ≡ true → value_from i (block_of q.requests i) (found_by h1 q i at) q.requests ≡ value
    value_is real = ap (λ v. value_from i (block_of q.requests i) v q.requests) (found_is real) ∙ (right real).left

    contents3 : contents_in h3 ≡ after_fetch (is_real es i) o.shape at (leaf_by h3) (is_held h0) (entries_at taken) (contents_in h0) (block_on es i) value
    contents3 =
        ap (λ (h : HoldingsState). contents_in h) does.numbers_alone ∙ does.finishes.contents
        ∙ ap₂ (λ (s : Shape) (c : ℕ → List Entry). evict s at (leaf_by h2) (put_where (is_for_block q i) c (block_of q.requests i) (value_from i (block_of q.requests i) (found_by h1 q i at) q.requests)))
        shape1 does.taken_in
        ∙ fetch_same (is_for_block q i) (is_real es i) o.shape at (leaf_by h2) (is_held h0) (entries_at taken) (contents_in h0) (block_of q.requests i) (block_on es i)
        (value_from i (block_of q.requests i) (found_by h1 q i at) q.requests) value for_block on value_is
        ∙ ap (λ (lf : ℕ → ℕ). after_fetch (is_real es i) o.shape at lf (is_held h0) (entries_at taken) (contents_in h0) (block_on es i) value)
        (sym (ap (λ (h : HoldingsState). leaf_by h) does.numbers_alone))

    held3 : is_held h3 ≡ with_path o.shape.l at (is_held h0)
    held3 = ap (λ (h : HoldingsState). is_held h) does.numbers_alone ∙ does.finishes.held ∙ does.held_now

    counts3 : count_in h3 ≡ one_less o.shape.l at (count_in h0)
    counts3 = does.counts ∙ ap (λ (n : ℕ → ℕ). one_less o.shape.l at n)
        (ap (λ (h : HoldingsState). count_in h) does.finishes.others ∙ ap (λ (h : HoldingsState). count_in h) does.nodes_alone)

    touches3 : touch_in h3 ≡ touched o.shape.l at (dones es + 1) (touch_in h0)
    touches3 = does.touches ∙ ap (λ (n : ℕ → ℕ). touched o.shape.l at (dones es + 1) n)
        (ap (λ (h : HoldingsState). touch_in h) does.finishes.others ∙ ap (λ (h : HoldingsState). touch_in h) does.nodes_alone)

    versions3 : version_in h3 ≡ version_in h0
    versions3 = ap (λ (h : HoldingsState). version_in h) does.numbers_alone ∙ ap (λ (h : HoldingsState). version_in h) does.finishes.others ∙ ap (λ (h : HoldingsState). version_in h) does.nodes_alone

    moves : MovesTables o es i taken (λ b. leaf_by h3 b) value (λ w. is_held h0 w) (λ w. is_held h3 w) (λ w. contents_in h0 w) (λ w. contents_in h3 w)
        (λ w. count_in h0 w) (λ w. count_in h3 w) (λ w. touch_in h0 w) (λ w. touch_in h3 w)
    moves = record {
      positions = leaves;
      found = λ real. refl;
      residents = λ w. ap (λ (g : ℕ → Bool). g w) held3;
      contents = λ w. ap (λ (g : ℕ → List Entry). g w) contents3;
      counts = λ w. ap (λ (g : ℕ → ℕ). g w) counts3;
      touches = λ w. ap (λ (g : ℕ → ℕ). g w) touches3;
    }

    nodes : TellsNodes o (with_one_more events (Done i taken)) (λ w. is_held h3 w) (λ w. contents_in h3 w) (λ w. count_in h3 w) (λ w. touch_in h3 w) (λ w. version_in h3 w)
    nodes = subst (λ (v : ℕ → ℕ). TellsNodes o (with_one_more events (Done i taken)) (λ w. is_held h3 w) (λ w. contents_in h3 w) (λ w. count_in h3 w) (λ w. touch_in h3 w) v) (sym versions3)
        (tells_done o events i taken (λ b. leaf_by h3 b) value (λ w. is_held h0 w) (λ w. is_held h3 w) (λ w. contents_in h0 w) (λ w. contents_in h3 w)
        (λ w. count_in h0 w) (λ w. count_in h3 w) (λ w. touch_in h0 w) (λ w. touch_in h3 w) (λ w. version_in h0 w) holds.nodes f (ids_below o.shape h0 forms holds.shape) moves)

    requests : KeepsRequests o (events ++ Done i taken ∷ []) r
    requests = either (is_real es i) refl
      where
        either : (b : Bool) → is_real es i ≡ b → KeepsRequests o (events ++ Done i taken ∷ []) r
        either true real = subst (λ (u : RequestsState). KeepsRequests o (events ++ Done i taken ∷ []) u) (sym (settles real)) (record {
          shape = asks.shape;
          follows = (follows_real events q.requests i taken y asks.follows there real open_yet).1;
          served = (right real).served;
        })
        either false fake = subst (λ (u : RequestsState). KeepsRequests o (events ++ Done i taken ∷ []) u)
            (sym (does.finishes.requests ∙ ap (λ t. settled_where t q i (found_by h1 q i at)) (for_block ∙ fake))) (record {
              shape = asks.shape;
              follows = follows_fake events q.requests i taken asks.follows fake;
              served = (served_else o events q.requests asks.follows asks.served).fake i taken f fake;
            })

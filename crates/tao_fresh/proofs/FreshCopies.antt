-- After each event there is one fresh copy of each block. The events `es` are newest first.
use Rattle.std.proofs.Common.{◌≡◌, ℕ, ◌+◌, Bool, true, false, ◌&&◌, ◌||◌, cond, List, [], ◌∷◌, reverse, is_some, refl, sym, ap, ◌∙◌, subst, nat_eq}
use Rattle.std.proofs.lemmas.Bool.{and_parts, false_from_ne_true}
use Rattle.tao_base.specs.declared.session.Event.{Event}
use Rattle.tao_base.specs.declared.session.Event.TheVariants.{Arrive, Done, Issue, Acked, Fault}
use Rattle.tao_base.specs.declared.storage.Bucket.{Bucket}
use Rattle.tao_base.specs.declared.storage.Entry.{Entry}
use Rattle.tao_base.specs.Limits.{Shape}
use Rattle.tao_base.specs.Session.{Opening}
use Rattle.tao_base.specs.Tree.{node_count, leaf_of}
use Rattle.tao_base.specs.Array.{block_at}
use Rattle.tao_model.specs.Events.{is_on}
use Rattle.tao_model.specs.Requests.{is_real, leaf_at, fetched_leaf, position, position_word}
use Rattle.tao_model.specs.Residence.{bucket_of, departs, is_resident, Unaltered, HasEntriesOf}
use Rattle.tao_model.specs.Placement.{look, entries_at, IsPlaced, may_load, block_below, with_stash}
use Rattle.tao_model.specs.FreshCopy.{FreshCopy, current_contents}
use Rattle.tao_model.specs.Evictions.{load_contents}
use Rattle.tao_model.specs.Lawful.{FollowsLawfully, OpensWithLoad, MayBeDone}
use Rattle.tao_model.proofs.Stays.{place_stays}
use Rattle.tao_model.proofs.Places.{position_below}
use Rattle.tao_model.proofs.OneLoad.{load_pass}
use Rattle.tao_model.proofs.OnePlacement.{one_placement}
use Rattle.tao_laws.specs.SettledValues.{settled_value}
use Rattle.tao_laws.specs.OpenRequests.{IsOpen}
use Rattle.tao_laws.proofs.HandedWords.{hands_from}
use Rattle.tao_laws.proofs.WrittenNodes.{writes_residents}
use Rattle.tao_contents.specs.FetchLaws.{IsHonest}
use Rattle.tao_contents.specs.Moves.{ChangesOne}
use Rattle.tao_contents.proofs.MovedCopies.{fresh_alike}
use Rattle.tao_contents.proofs.Fetched.{fetch_finds, fake_fetch_keeps, real_fetch_keeps}
use Rattle.tao_contents.proofs.Opened.{opening_is_fresh}
use Rattle.tao_contents.proofs.WrittenBack.{issue_keeps, acknowledgement_keeps}
use Rattle.tao_held.specs.Steps.{with_path, value_or_zeros, after_real_fetch}
use Rattle.tao_held.specs.Held.{held, after_fetch, found_in, block_on, value_since, newest_entries, WritesHeld}
use Rattle.tao_fresh.specs.FreshLaws.{present, CopiesAreFresh}
use Rattle.tao_held.proofs.Blocks.{on_is, real_on, on_below}
use Rattle.tao_fresh.proofs.SettledMoves.{settled_real, settled_other, settled_arrive, on_first}
use Rattle.tao_fresh.proofs.WrittenBuckets.{entries_found, honest_from}
use Rattle.tao_fresh.proofs.CleanNodes.{clean_from, departing_is_old, stays_held, unissued_entries}

-- ---- a fetch, for plain functions

-- a fetch for block a along the path of its position; only a has a new position and a new value
pub record IsRealStep (at a : ℕ) (leaf leaf' : ℕ → ℕ) (value value' : ℕ → List ℕ) (x : List ℕ) : Type 0 where
  pub here : leaf a ≡ at
  pub changes : ChangesOne a leaf leaf' value value'
  pub put : x ≡ value' a

-- a fetch for no block
pub record IsFakeStep (leaf leaf' : ℕ → ℕ) (value value' : ℕ → List ℕ) : Type 0 where
  pub positions : (b : ℕ) → leaf b ≡ leaf' b
  pub values : (b : ℕ) → value b ≡ value' b

fetch_keeps_fresh : (real : Bool) (s : Shape) (at : ℕ) (leaf leaf' : ℕ → ℕ) (value value' : ℕ → List ℕ) (resident : ℕ → Bool) (taken own newest : ℕ → List Entry) (a : ℕ) (x : List ℕ)
    → (real ≡ true → IsRealStep at a leaf leaf' value value' x) → (real ≡ false → IsFakeStep leaf leaf' value value') → IsHonest s.l at resident taken newest
    → FreshCopy s leaf value (current_contents resident own newest)
    → FreshCopy s leaf' value' (current_contents (with_path s.l at resident) (after_fetch real s at leaf' resident taken own a x) newest)
fetch_keeps_fresh true s at leaf leaf' value value' resident taken own newest a x for_real for_none honest fresh =
    let r = for_real refl in
    subst (λ y. FreshCopy s leaf' value' (current_contents (with_path s.l at resident) (after_real_fetch s at leaf' resident taken own a y) newest)) (sym r.put)
    (real_fetch_keeps s at leaf leaf' value value' resident taken own newest a r.here r.changes honest fresh)
fetch_keeps_fresh false s at leaf leaf' value value' resident taken own newest a x for_real for_none honest fresh =
    let r = for_none refl in
    fake_fetch_keeps s at leaf' value' resident taken own newest honest
    (fresh_alike s leaf leaf' value value' (current_contents resident own newest) (current_contents resident own newest)
    (λ b low. r.positions b) (λ b low. r.values b) (λ w b low. refl) fresh)

-- ---- a Done

pub open_one : (o : Opening) (es : List Event) (i : ℕ) (taken : List Bucket) → MayBeDone o es i taken → is_real es i ≡ true → IsOpen es (block_on es i) i
open_one o es i taken may real = record { arrived = may.arrived; on = real_on es i may.arrived real; real = real; under_way = may.under_way }

-- a Done keeps the positions of all blocks but the one that its real fetch is for
position_kept : (o : Opening) (es : List Event) (i : ℕ) (taken : List Bucket) (b : ℕ) → (is_real es i && is_on es i b) ≡ false
    → position o (Done i taken ∷ es) b ≡ position o es b
position_kept o es i taken b other = ap (λ t. leaf_at o es (cond t (o.shape.n + i) (position_word o es b))) other

-- a real fetch finds the settled value
pub found_settled : (o : Opening) (es : List Event) (i : ℕ) (taken : List Bucket) → FollowsLawfully o es → MayBeDone o es i taken → is_real es i ≡ true
    → IsHonest o.shape.l (fetched_leaf o es i) (λ w. is_resident o es w) (entries_at taken) (λ w. newest_entries o es w)
    → FreshCopy o.shape (λ b. position o es b) (λ b. settled_value o es b) (present o es)
    → found_in o es (λ w. held o es w) i taken ≡ settled_value o es (block_on es i)
found_settled o es i taken f may real honest fresh =
    let h = open_one o es i taken may real in
    ap (value_or_zeros o.shape)
    (fetch_finds o.shape (fetched_leaf o es i) (λ b. position o es b) (λ b. settled_value o es b) (λ w. is_resident o es w) (entries_at taken) (λ w. held o es w)
    (λ w. newest_entries o es w) (block_on es i) (on_below o es i (block_on es i) f h.arrived h.on)
    (sym (ap (leaf_at o es) ((hands_from o es (block_on es i) f).used i h))) honest fresh)

real_step : (o : Opening) (es : List Event) (i : ℕ) (taken : List Bucket) → FollowsLawfully o es → MayBeDone o es i taken → is_real es i ≡ true
    → found_in o es (λ w. held o es w) i taken ≡ settled_value o es (block_on es i)
    → IsRealStep (fetched_leaf o es i) (block_on es i) (λ b. position o es b) (λ b. position o (Done i taken ∷ es) b) (λ b. settled_value o es b)
    (λ b. settled_value o (Done i taken ∷ es) b) (value_since es (block_on es i) i (found_in o es (λ w. held o es w) i taken))
real_step o es i taken f may real found = record {
  here = sym (ap (leaf_at o es) ((hands_from o es (block_on es i) f).used i h));
  changes = record {
    positions = λ b other. position_kept o es i taken b (off b other);
    values = λ b other. settled_other o es i taken b (off b other);
  };
  put = ap (value_since es (block_on es i) i) found ∙ sym (settled_real o es i taken (block_on es i) (on_first o es i (block_on es i) f h.arrived h.on) h);
}
  where
    h : IsOpen es (block_on es i) i
    h = open_one o es i taken may real

    off : (b : ℕ) → (b ≡ block_on es i → ⊥) → (is_real es i && is_on es i b) ≡ false
    off b other = false_from_ne_true (is_real es i && is_on es i b) (λ on. other (sym (on_is es i b may.arrived (and_parts (is_real es i) (is_on es i b) on).1)))

fake_step : (o : Opening) (es : List Event) (i : ℕ) (taken : List Bucket) → is_real es i ≡ false
    → IsFakeStep (λ b. position o es b) (λ b. position o (Done i taken ∷ es) b) (λ b. settled_value o es b) (λ b. settled_value o (Done i taken ∷ es) b)
fake_step o es i taken fake = record {
  positions = λ b. sym (position_kept o es i taken b (ap (λ t. t && is_on es i b) fake));
  values = λ b. sym (settled_other o es i taken b (ap (λ t. t && is_on es i b) fake));
}

-- ---- the opening

opening_placed : (o : Opening) → OpensWithLoad o → IsPlaced (may_load o.shape (λ b. leaf_at o [] b)) (node_count o.shape.l) o.shape.z (block_below o.shape.n o.first)
    (with_stash (load_contents o.shape (λ b. leaf_at o [] b) o.first 0) (entries_at o.loaded))
opening_placed o opens = subst (λ stash. IsPlaced (may_load o.shape (λ b. leaf_at o [] b)) (node_count o.shape.l) o.shape.z (block_below o.shape.n o.first) (with_stash stash (entries_at o.loaded)))
    (sym same) opens.placed.1
  where
    same : load_contents o.shape (λ b. leaf_at o [] b) o.first 0 ≡ opens.placed.0
    same = one_placement (may_load o.shape (λ b. leaf_at o [] b)) (node_count o.shape.l) o.shape.z (block_below o.shape.n o.first)
        (load_contents o.shape (λ b. leaf_at o [] b) o.first) (with_stash opens.placed.0 (entries_at o.loaded))
        (load_pass o.shape (λ b. leaf_at o [] b) o.first) opens.placed.1 0

fresh_at_opening : (o : Opening) → OpensWithLoad o → FreshCopy o.shape (λ b. position o [] b) (λ b. settled_value o [] b) (present o [])
unfolding held
fresh_at_opening o opens =
    fresh_alike o.shape (λ b. leaf_at o [] b) (λ b. position o [] b) (λ b. block_at o.first b) (λ b. settled_value o [] b)
    (current_contents (λ w. false) (λ w. held o [] w) (entries_at o.loaded)) (present o []) (λ b low. refl) (λ b low. refl)
    (λ w b low. ap (λ entries. look b (cond (nat_eq w 0 || false) (held o [] w) entries)) (sym (entries_found w o.loaded)))
    (opening_is_fresh o.shape (λ b. leaf_at o [] b) o.first o.loaded (λ w. held o [] w) (opening_placed o opens))

-- ---- every event

pub fresh_from : (o : Opening) (es : List Event) → OpensWithLoad o → FollowsLawfully o es → WritesHeld o es → Unaltered HasEntriesOf o es
    → FreshCopy o.shape (λ b. position o es b) (λ b. settled_value o es b) (present o es)
unfolding held
fresh_from o [] opens f h u = fresh_at_opening o opens
fresh_from o (Arrive client op word ∷ es) opens f h u =
    fresh_alike o.shape (λ b. position o es b) (λ b. position o (Arrive client op word ∷ es) b) (λ b. settled_value o es b) (λ b. settled_value o (Arrive client op word ∷ es) b)
    (present o es) (present o (Arrive client op word ∷ es))
    (λ b low. sym (ap (leaf_of o.shape.l) (place_stays o es (Arrive client op word) (position_word o es b) (position_below o es b f.0 low))))
    (λ b low. sym (settled_arrive o es client op word b f.0)) (λ w b low. refl) (fresh_from o es opens f.0 h u)
fresh_from o (Done i taken ∷ es) opens f h u =
    let before = fresh_from o es opens f.0 h u.0 in
    let honest = honest_from o es i taken opens f.2.1 u.1 in
    fetch_keeps_fresh (is_real es i) o.shape (fetched_leaf o es i) (λ b. position o es b) (λ b. position o (Done i taken ∷ es) b) (λ b. settled_value o es b)
    (λ b. settled_value o (Done i taken ∷ es) b) (λ w. is_resident o es w) (entries_at taken) (λ w. held o es w) (λ w. newest_entries o es w) (block_on es i)
    (value_since es (block_on es i) i (found_in o es (λ w. held o es w) i taken))
    (λ real. real_step o es i taken f.0 f.2.1 real (found_settled o es i taken f.0 f.2.1 real honest before))
    (λ fake. fake_step o es i taken fake) honest before
fresh_from o (Issue version nonce buckets ∷ es) opens f h u =
    issue_keeps o.shape (λ b. position o es b) (λ b. settled_value o es b) (λ w. is_resident o es w) (λ w. is_some (bucket_of w buckets)) (λ w. held o es w)
    (λ w. newest_entries o es w) (λ w. newest_entries o (Issue version nonce buckets ∷ es) w)
    (λ w on. (writes_residents o es version nonce buckets w f.0 f.2).resident on) (λ w off. unissued_entries o es w buckets off) (fresh_from o es opens f.0 h.0 u)
fresh_from o (Acked version ∷ es) opens f h u =
    acknowledgement_keeps o.shape (λ b. position o es b) (λ b. settled_value o es b) (λ w. is_resident o es w) (λ w. departs o es version w) (λ w. held o es w)
    (λ w. held o (Acked version ∷ es) w) (λ w. newest_entries o es w)
    (λ w low there leaves. clean_from o es f.0 h w low there (departing_is_old o es version w f.2.2 leaves))
    (record { stash = refl; stays = λ w there stays. stays_held o es version w there stays }) (fresh_from o es opens f.0 h u)
fresh_from o (Fault cause ∷ es) opens f h u = fresh_from o es opens f.0 h u

pub copies_are_fresh : CopiesAreFresh
copies_are_fresh o events p u = fresh_from o (reverse events) p.opens p.follows p.writes u

-- How one more event changes the tables. The events `es` are newest first.
use Rattle.std.proofs.Common.{◌≡◌, ℕ, suc, ◌+◌, ◌-◌, ◌*◌, ◌<◌, Bool, true, false, not, ◌&&◌, ◌||◌, cond, List, [], ◌∷◌, reverse, All, is_some, refl, sym, ap, ◌∙◌, arith, nat_eq, nat_lt}
use Rattle.std.proofs.Math.Path.{fun_ext}
use Rattle.std.proofs.lemmas.Bool.{eqb-true, and_from}
use Rattle.std.proofs.lemmas.List.Elements.{All-nil, All-weaker}
use Rattle.tao_base.specs.declared.calls.Op.{Op}
use Rattle.tao_base.specs.declared.session.Event.{Event}
use Rattle.tao_base.specs.declared.session.Event.TheVariants.{Arrive, Done, Issue, Acked, Fault}
use Rattle.tao_base.specs.declared.storage.Bucket.{Bucket}
use Rattle.tao_base.specs.declared.storage.Entry.{Entry}
use Rattle.tao_base.specs.Limits.{Shape}
use Rattle.tao_base.specs.Session.{Opening}
use Rattle.tao_base.specs.Tree.{is_on_path}
use Rattle.tao_model.specs.Events.{arrived, dones, is_done}
use Rattle.tao_model.specs.Requests.{is_real, fetches, fetched_leaf, position}
use Rattle.tao_model.specs.Residence.{last_touch, bucket_of, is_issued, is_covered, is_resident}
use Rattle.tao_model.specs.Placement.{entries_at}
use Rattle.tao_base.specs.Buckets.{IsInForm}
use Rattle.tao_model.specs.Lawful.{FollowsLawfully, MayBeDone}
use Rattle.tao_model.proofs.Stays.{newest_first}
use Rattle.tao_model.proofs.Places.{done_arrived, leaf_stays_later}
use Rattle.tao_held.specs.Steps.{take_in, found_copy, value_or_zeros}
use Rattle.tao_held.specs.Held.{held, after_fetch, found_in, block_on, value_since}
use Rattle.tao_held.specs.HeldLaws.{AreIdsBelow}
use Rattle.tao_held.proofs.WholeBlocks.{entries_are}
use Rattle.tao_held.proofs.Blocks.{real_on, on_below}
use Rattle.tao_held.proofs.AlikeContents.{take_in_same, fetched_alike}
use Rattle.tao_laws.specs.Counted.{count_below}
use Rattle.tao_laws.proofs.Counts.{count_same, count_within, count_less, any_counts}
use Rattle.tao_tables.specs.Tables.{cover_count, TellsNodes, TellsArrive, MovesTables, TellsDone, TellsIssue, TellsAcked, TellsFault, TellsStart, CoverIsBounded}

-- ---- an arrival

cover_arrive : (o : Opening) (es : List Event) (client : ℕ) (op : Op) (word w : ℕ) → FollowsLawfully o es
    → cover_count o (Arrive client op word ∷ es) w
    ≡ cond (is_on_path o.shape.l (fetched_leaf o (Arrive client op word ∷ es) (arrived es)) w) (cover_count o es w + 1) (cover_count o es w)
cover_arrive o es client op word w f =
    let next : arrived es + 1 ≡ suc (arrived es) = omega arith in
    ap (count_below (λ i. not (is_done es i) && fetches o (Arrive client op word ∷ es) i w)) next
    ∙ ap (λ c. cond (not (is_done es (arrived es)) && fetches o (Arrive client op word ∷ es) (arrived es) w) (c + 1) c)
    (count_same (λ i. not (is_done es i) && fetches o (Arrive client op word ∷ es) i w) (λ i. not (is_done es i) && fetches o es i w) (arrived es)
    (λ i low. ap (λ leaf. not (is_done es i) && is_on_path o.shape.l leaf w) (leaf_stays_later o (Arrive client op word ∷ []) es i f low)))
    ∙ ap (λ d. cond (not d && fetches o (Arrive client op word ∷ es) (arrived es) w) (cover_count o es w + 1) (cover_count o es w)) (done_arrived o es (arrived es) f (omega arith))

pub tells_arrive : TellsArrive
unfolding held
tells_arrive o events client op word r c n n' t v tells = rw (newest_first events (Arrive client op word)) (λ f covers. record {
  residents = tells.residents;
  contents = tells.contents;
  counts = λ w. covers w ∙ ap (λ k. cond (is_on_path o.shape.l (fetched_leaf o (Arrive client op word ∷ reverse events) (arrived (reverse events))) w) (k + 1) k) (tells.counts w)
      ∙ sym (cover_arrive o (reverse events) client op word w f.0);
  touches = tells.touches;
  versions = tells.versions;
})

-- ---- a Done

taken_below : (s : Shape) (taken : List Bucket) → All (IsInForm s) taken → AreIdsBelow s.n (entries_at taken)
taken_below s taken forms w = entries_are (λ entries. All (λ entry. entry.id < s.n) entries) taken w (All-nil (λ entry. entry.id < s.n))
    (All-weaker (IsInForm s) (λ bucket. All (λ entry. entry.id < s.n) bucket.entries) (λ bucket form. form.entries.ids) taken forms)

-- only a real fetch has a value
value_same : (real : Bool) (s : Shape) (at : ℕ) (leaf : ℕ → ℕ) (resident : ℕ → Bool) (taken own : ℕ → List Entry) (block : ℕ) (x y : List ℕ) (w : ℕ) → (real ≡ true → x ≡ y)
    → after_fetch real s at leaf resident taken own block x w ≡ after_fetch real s at leaf resident taken own block y w
value_same true s at leaf resident taken own block x y w same = ap (λ z. after_fetch true s at leaf resident taken own block z w) (same refl)
value_same false s at leaf resident taken own block x y w same = refl

-- the Done of an arrival that has the node on its path
uncovered_order : (d e g : Bool) → (not (e || d) && g) ≡ (not e && (not d && g))
uncovered_order true true g = refl
uncovered_order true false g = refl
uncovered_order false true g = refl
uncovered_order false false g = refl

cover_done : (o : Opening) (es : List Event) (i : ℕ) (taken : List Bucket) (w : ℕ) → MayBeDone o es i taken
    → cover_count o (Done i taken ∷ es) w ≡ cond (is_on_path o.shape.l (fetched_leaf o es i) w) (cover_count o es w - 1) (cover_count o es w)
cover_done o es i taken w may = either (fetches o es i w) refl
  where
    turned : cover_count o (Done i taken ∷ es) w ≡ count_below (λ j. not (nat_eq i j) && (not (is_done es j) && fetches o es j w)) (arrived es)
    turned = count_same (λ j. not (nat_eq i j || is_done es j) && fetches o es j w) (λ j. not (nat_eq i j) && (not (is_done es j) && fetches o es j w)) (arrived es)
        (λ j low. uncovered_order (is_done es j) (nat_eq i j) (fetches o es j w))

    -- the arrival itself doesn't count before either
    off_same : fetches o es i w ≡ false → (j : ℕ) → (e : Bool) → nat_eq i j ≡ e → (not (e || is_done es j) && fetches o es j w) ≡ (not (is_done es j) && fetches o es j w)
    off_same off j false other = refl
    off_same off j true here =
        let gone : fetches o es j w ≡ false = ap (λ k. fetches o es k w) (sym (eqb-true i j here)) ∙ off in
        sym (ap (λ g. not (is_done es j) && g) gone ∙ none (not (is_done es j)))
      where
        none : (b : Bool) → (b && false) ≡ false
        none true = refl
        none false = refl

    either : (b : Bool) → fetches o es i w ≡ b → cover_count o (Done i taken ∷ es) w ≡ cond b (cover_count o es w - 1) (cover_count o es w)
    either true on =
        let less = count_less (λ j. not (is_done es j) && fetches o es j w) i (arrived es) may.arrived (and_from (not (is_done es i)) (fetches o es i w) (ap not may.under_way) on) in
        turned ∙ omega arith
    either false off = count_same (λ j. not (nat_eq i j || is_done es j) && fetches o es j w) (λ j. not (is_done es j) && fetches o es j w) (arrived es)
        (λ j low. off_same off j (nat_eq i j) refl)

done_contents : (o : Opening) (es : List Event) (i : ℕ) (taken : List Bucket) (leaf : ℕ → ℕ) (x : List ℕ) (r r' : ℕ → Bool) (c c' : ℕ → List Entry) (n n' t t' v : ℕ → ℕ)
    → TellsNodes o es r c n t v → FollowsLawfully o es → MayBeDone o es i taken → AreIdsBelow o.shape.n c → MovesTables o es i taken leaf x r r' c c' n n' t t'
    → (w : ℕ) → c' w ≡ held o (Done i taken ∷ es) w
unfolding held
done_contents o es i taken leaf x r r' c c' n n' t t' v tells f may ids moves w =
    moves.contents w
    ∙ fetched_alike (is_real es i) o.shape (fetched_leaf o es i) leaf (λ b. position o (Done i taken ∷ es) b) r (λ u. is_resident o es u) (entries_at taken) c (λ u. held o es u) (block_on es i) x
    moves.positions tells.residents tells.contents (taken_below o.shape taken may.in_form) ids
    (λ real. on_below o es i (block_on es i) f may.arrived (real_on es i may.arrived real)) w
    ∙ value_same (is_real es i) o.shape (fetched_leaf o es i) (λ b. position o (Done i taken ∷ es) b) (λ u. is_resident o es u) (entries_at taken) (λ u. held o es u) (block_on es i) x
    (value_since es (block_on es i) i (found_in o es (λ u. held o es u) i taken)) w
    (λ real. moves.found real ∙ ap (λ copy. value_since es (block_on es i) i (value_or_zeros o.shape copy)) found)
  where
    found : found_copy o.shape.l (fetched_leaf o es i) (take_in o.shape.l (fetched_leaf o es i) r (entries_at taken) c) (block_on es i)
        ≡ found_copy o.shape.l (fetched_leaf o es i) (take_in o.shape.l (fetched_leaf o es i) (λ u. is_resident o es u) (entries_at taken) (λ u. held o es u)) (block_on es i)
    found = ap (λ contents. found_copy o.shape.l (fetched_leaf o es i) contents (block_on es i))
        (fun_ext (take_in_same o.shape.l (fetched_leaf o es i) r (λ u. is_resident o es u) (entries_at taken) c (λ u. held o es u) tells.residents tells.contents))

pub tells_done : TellsDone
tells_done o events i taken leaf x r r' c c' n n' t t' v tells = rw (newest_first events (Done i taken)) (λ f ids moves. record {
  residents = λ w. moves.residents w ∙ ap (λ b. b || is_on_path o.shape.l (fetched_leaf o (reverse events) i) w) (tells.residents w);
  contents = done_contents o (reverse events) i taken leaf x r r' c c' n n' t t' v tells f.0 f.2.1 ids moves;
  counts = λ w. moves.counts w ∙ ap (λ k. cond (is_on_path o.shape.l (fetched_leaf o (reverse events) i) w) (k - 1) k) (tells.counts w) ∙ sym (cover_done o (reverse events) i taken w f.2.1);
  touches = λ w. moves.touches w ∙ ap (cond (is_on_path o.shape.l (fetched_leaf o (reverse events) i) w) (dones (reverse events) + 1)) (tells.touches w);
  versions = tells.versions;
})

-- ---- a write-back, an acknowledgement

pub tells_issue : TellsIssue
unfolding held
tells_issue o events version nonce buckets r c n t v v' tells = rw (newest_first events (Issue version nonce buckets)) (λ moved. record {
  residents = tells.residents;
  contents = tells.contents;
  counts = tells.counts;
  touches = tells.touches;
  versions = λ w. moved w ∙ ap (cond (is_some (bucket_of w buckets)) version) (tells.versions w);
})

not_not : (b : Bool) → not (not b) ≡ b
not_not true = refl
not_not false = refl

pub tells_acked : TellsAcked
unfolding held
tells_acked o events version issued r r' c c' n t v tells = rw (newest_first events (Acked version)) (λ is goes keeps. record {
  residents = λ w. residents is goes w;
  contents = λ w. keeps w ∙ ap (λ b. cond (nat_eq w 0 || b) (c w) []) (residents is goes w) ∙ ap (λ entries. cond (nat_eq w 0 || is_resident o (Acked version ∷ reverse events) w) entries []) (tells.contents w);
  counts = tells.counts;
  touches = tells.touches;
  versions = tells.versions;
})
  where
    none_covers : (w : ℕ) → nat_eq (n w) 0 ≡ not (is_covered o (reverse events) w)
    none_covers w = ap (λ k. nat_eq k 0) (tells.counts w) ∙ sym (not_not (nat_eq (cover_count o (reverse events) w) 0))
        ∙ ap not (sym (any_counts (λ i. not (is_done (reverse events) i) && fetches o (reverse events) i w) (arrived (reverse events))))

    residents : ((w : ℕ) → issued w ≡ is_issued (reverse events) version w)
        → ((w : ℕ) → r' w ≡ (r w && not (issued w && (not (nat_lt (version * o.shape.k) (t w)) && nat_eq (n w) 0)))) → (w : ℕ) → r' w ≡ is_resident o (Acked version ∷ reverse events) w
    residents is goes w =
        goes w
        ∙ ap (λ b. b && not (issued w && (not (nat_lt (version * o.shape.k) (t w)) && nat_eq (n w) 0))) (tells.residents w)
        ∙ ap (λ b. is_resident o (reverse events) w && not (b && (not (nat_lt (version * o.shape.k) (t w)) && nat_eq (n w) 0))) (is w)
        ∙ ap (λ k. is_resident o (reverse events) w && not (is_issued (reverse events) version w && (not (nat_lt (version * o.shape.k) k) && nat_eq (n w) 0))) (tells.touches w)
        ∙ ap (λ b. is_resident o (reverse events) w && not (is_issued (reverse events) version w && (not (nat_lt (version * o.shape.k) (last_touch o (reverse events) w)) && b))) (none_covers w)

pub tells_fault : TellsFault
unfolding held
tells_fault o events cause r c n t v tells = rw (newest_first events (Fault cause)) (record {
  residents = tells.residents;
  contents = tells.contents;
  counts = tells.counts;
  touches = tells.touches;
  versions = tells.versions;
})

-- ---- the start, and bounds

pub tells_start : TellsStart
unfolding held
tells_start o stash r c n t v load away contents counts touches versions = record {
  residents = away;
  contents = λ w. contents w ∙ ap (λ entries. cond (nat_eq w 0) entries []) load;
  counts = counts;
  touches = touches;
  versions = versions;
}

pub cover_is_bounded : CoverIsBounded
cover_is_bounded o events w = record {
  few = count_within (λ i. not (is_done (reverse events) i) && fetches o (reverse events) i w) (arrived (reverse events));
  some = λ i there off on.
      let less = count_less (λ j. not (is_done (reverse events) j) && fetches o (reverse events) j w) i (arrived (reverse events)) there
      (and_from (not (is_done (reverse events) i)) (fetches o (reverse events) i w) (ap not off) on) in
      omega (arith, less);
}

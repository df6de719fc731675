-- The closing scan: its state after each path, and the final array.
use Rattle.std.proofs.Common.{◌≡◌, ℕ, suc, ◌+◌, ◌-◌, ◌^◌, ◌<◌, ◌≤◌, Bool, true, false, not, cond, ◌&&◌, ◌⊎◌, inl, inr, List, [], ◌∷◌, ◌++◌, map, filter, reverse, length, get_or, All, Option, Some, None, is_some, nat_eq, refl, if◌then◌else◌, sym, ap, ap₂, ◌∙◌, subst, append_assoc, arith}
use Rattle.std.specs.List.{flat_map, range_with_len}
use Rattle.std.specs.Option.{option_or}
use Rattle.std.proofs.lemmas.Bool.{eq-eqb, ne_eqb, cases_eq, and_parts, or_left, or_right, or_from, true≢false}
use Rattle.std.proofs.lemmas.Option.{same_Some}
use Rattle.std.proofs.lemmas.Grind.{flat_map-append}
use Rattle.std.proofs.lemmas.List.{append-nil, length-append, length-map, map-append}
use Rattle.std.proofs.lemmas.List.FromFn.{get_or-map-range_with_len, length-map-range_with_len}
use Rattle.std.proofs.lemmas.List.Elements.{filter-append}
use Rattle.tao_base.specs.declared.session.Cause.{Cause}
use Rattle.tao_base.specs.declared.session.Cause.TheVariants as causes
use Rattle.tao_base.specs.declared.session.Event.{Event}
use Rattle.tao_base.specs.declared.session.Event.TheVariants.{Fault}
use Rattle.tao_base.specs.declared.storage.Bucket.{Bucket}
use Rattle.tao_base.specs.declared.storage.Entry.{Entry}
use Rattle.tao_base.specs.Limits.{Shape, IsShape}
use Rattle.tao_base.specs.Session.{Opening, History}
use Rattle.tao_base.specs.Tree.{node_count, is_on_path}
use Rattle.tao_contents.proofs.Looks.{on_path_is_node}
use Rattle.tao_contents.proofs.WrittenBack.{on_path_within}
use Rattle.tao_fresh.proofs.FinalLooks.{array_is_seen}
use Rattle.tao_held.specs.Held.{held, newest_entries, IsOfProxy}
use Rattle.tao_held.specs.Steps.{value_or_zeros}
use Rattle.tao_images.specs.Answers.{first_met, visited, with_event, cause_of, leaf_refusal, buckets_scanned, AreScanned, IsUnaltered}
use Rattle.tao_images.specs.Paths.{AreBytes}
use Rattle.tao_images.specs.declared.nodes.Refused.{Refused}
use Rattle.tao_flush.specs.Blocks.{IsEntry}
use Rattle.tao_processor.specs.State.{ProcessorState, IsProcessorSound}
use Rattle.tao_desk.proofs.SoundDesks.{held_entries}
use Rattle.tao_model.specs.Lawful.{OwesNone, MayFollow}
use Rattle.tao_images.specs.Honesty.{HasTagOf}
use Rattle.tao_images.proofs.AnswerLemmas.{scan_reads_first_met, leaf_may_fail, leaf_is_read, unaltered_is_honest}
use Rattle.tao_laws.proofs.Listings.{HasOnce, has_append, has_filter, has_range, once_filter}
use Rattle.tao_model.proofs.FallingPaths.{has}
use Rattle.tao_model.proofs.RisingEntries.{look_append}
use Rattle.tao_model.proofs.Stays.{newest_first}
use Rattle.tao_model.specs.Events.{arrived, dones, issues, acks, has_fault}
use Rattle.tao_model.specs.FreshCopy.{current_contents}
use Rattle.tao_model.specs.Placement.{look, first_copy, entries_at}
use Rattle.tao_model.specs.Replies.{array_now}
use Rattle.tao_model.specs.Residence.{is_resident, Unaltered}
use Rattle.tao_model.specs.Trace.{nodes_in}
use Rattle.tao_desk.specs.declared.faults.DoneFault.{DoneFault}
use Rattle.tao_desk.specs.declared.faults.DoneFault.TheVariants.{Down, Stranger, Damaged, Stale}
use Rattle.tao_desk.specs.declared.faults.ScanFault.{ScanFault}
use Rattle.tao_desk.specs.declared.faults.ScanFault.TheVariants.{Busy, Down as BeginDown}
use Rattle.tao_desk.specs.Calls.{Refuses}
use Rattle.tao_desk.specs.Refusals.{begin_refusal}
use Rattle.tao_desk.specs.State.{DeskState, faulted}
use Rattle.tao_desk.proofs.SeenEntries.{nodes_more}
use Rattle.tao_desk.specs.Scanning.{Sees, IsScan, held_nodes, entries_if_held, entries_before, entries_held, entries_seen, values_in}
use Rattle.tao_desk.proofs.Visited.{visited_more, once_visited, all_visited, within_visited, few_nodes}

-- ---- the beginning

pub nothing_busy : (h : History) → has_fault (reverse h.events) ≡ false → dones (reverse h.events) ≡ arrived (reverse h.events) → acks (reverse h.events) ≡ issues (reverse h.events)
    → begin_refusal h ≡ None
nothing_busy h running done acked =
    rw (running, eq-eqb (dones (reverse h.events)) (arrived (reverse h.events)) done, eq-eqb (acks (reverse h.events)) (issues (reverse h.events)) acked) refl

pub fetches_busy : (h : History) → has_fault (reverse h.events) ≡ false → (dones (reverse h.events) ≡ arrived (reverse h.events) → ⊥)
    → begin_refusal h ≡ Some (Busy (arrived (reverse h.events) - dones (reverse h.events)) (issues (reverse h.events) - acks (reverse h.events)))
fetches_busy h running undone = rw (running, ne_eqb (dones (reverse h.events)) (arrived (reverse h.events)) undone) refl

pub write_backs_busy : (h : History) → has_fault (reverse h.events) ≡ false → dones (reverse h.events) ≡ arrived (reverse h.events) → (acks (reverse h.events) ≡ issues (reverse h.events) → ⊥)
    → begin_refusal h ≡ Some (Busy (arrived (reverse h.events) - dones (reverse h.events)) (issues (reverse h.events) - acks (reverse h.events)))
write_backs_busy h running done outstanding =
    rw (running, eq-eqb (dones (reverse h.events)) (arrived (reverse h.events)) done, ne_eqb (acks (reverse h.events)) (issues (reverse h.events)) outstanding) refl

-- where nothing is refused, nothing is under way or outstanding
pub is_quiet : (h : History) → begin_refusal h ≡ None → (dones (reverse h.events) ≡ arrived (reverse h.events)) × (acks (reverse h.events) ≡ issues (reverse h.events))
is_quiet h none = either (has_fault (reverse h.events)) (cases_eq (dones (reverse h.events)) (arrived (reverse h.events))) (cases_eq (acks (reverse h.events)) (issues (reverse h.events))) none
  where
    some : (x : ScanFault) → Some x ≡ None → ⊥
    some x is = true≢false (ap is_some is)

    either : (t : Bool) → (dones (reverse h.events) ≡ arrived (reverse h.events)) ⊎ (dones (reverse h.events) ≡ arrived (reverse h.events) → ⊥)
        → (acks (reverse h.events) ≡ issues (reverse h.events)) ⊎ (acks (reverse h.events) ≡ issues (reverse h.events) → ⊥)
        → (if t then Some BeginDown else (if nat_eq (dones (reverse h.events)) (arrived (reverse h.events)) && nat_eq (acks (reverse h.events)) (issues (reverse h.events)) then None
        else Some (Busy (arrived (reverse h.events) - dones (reverse h.events)) (issues (reverse h.events) - acks (reverse h.events))))) ≡ None
        → (dones (reverse h.events) ≡ arrived (reverse h.events)) × (acks (reverse h.events) ≡ issues (reverse h.events))
    either true a b is = absurd (some BeginDown is)
    either false (inl done) (inl acked) is = (done, acked)
    either false (inl done) (inr other) is =
        absurd (some (Busy (arrived (reverse h.events) - dones (reverse h.events)) (issues (reverse h.events) - acks (reverse h.events)))
        (subst (λ t. (if t && false then None else Some (Busy (arrived (reverse h.events) - dones (reverse h.events)) (issues (reverse h.events) - acks (reverse h.events)))) ≡ None)
        (eq-eqb (dones (reverse h.events)) (arrived (reverse h.events)) done)
        (subst (λ t. (if nat_eq (dones (reverse h.events)) (arrived (reverse h.events)) && t then None else Some (Busy (arrived (reverse h.events) - dones (reverse h.events)) (issues (reverse h.events) - acks (reverse h.events)))) ≡ None)
        (ne_eqb (acks (reverse h.events)) (issues (reverse h.events)) other) is)))
    either false (inr other) b is =
        absurd (some (Busy (arrived (reverse h.events) - dones (reverse h.events)) (issues (reverse h.events) - acks (reverse h.events)))
        (subst (λ t. (if t && nat_eq (acks (reverse h.events)) (issues (reverse h.events)) then None else Some (Busy (arrived (reverse h.events) - dones (reverse h.events)) (issues (reverse h.events) - acks (reverse h.events)))) ≡ None)
        (ne_eqb (dones (reverse h.events)) (arrived (reverse h.events)) other) is))

-- what the proxy holds are entries of the store
pub stash_entries : (c : ProcessorState) → IsProcessorSound c → All (IsEntry c.history.opening.shape) (held c.history.opening (reverse c.history.events) 0)
stash_entries c is =
    subst (λ s. All (IsEntry s) (held c.history.opening (reverse c.history.events) 0)) is.shape
    (subst (λ (es : List Entry). All (IsEntry c.holdings.shape) es) (is.contents 0) is.forms.stash.each)

pub node_entries_held : (c : ProcessorState) (node : ℕ) → IsProcessorSound c → 1 ≤ node → is_resident c.history.opening (reverse c.history.events) node ≡ true
    → All (IsEntry c.history.opening.shape) (held c.history.opening (reverse c.history.events) node)
node_entries_held c node is low there =
    subst (λ s. All (IsEntry s) (held c.history.opening (reverse c.history.events) node)) is.shape
    (subst (λ (es : List Entry). All (IsEntry c.holdings.shape) es) (is.contents node) (held_entries c.holdings node low is.forms (is.residents node ∙ there)).each)

pub told_some : (t : Bool) (x y : List Entry) → Some y ≡ (if t then Some x else None) → (t ≡ true) × (y ≡ (if t then x else [])) × (y ≡ x)
told_some true x y is = (refl, same_Some y x is, same_Some y x is)
told_some false x y is = absurd (true≢false (ap is_some is))

-- the entries of one node more
pub one_node_more : (o : Opening) (es : List Event) (node : ℕ) → 1 ≤ node → entries_before o es (node - 1) ++ entries_if_held o es node ≡ entries_before o es (node + 1 - 1)
one_node_more o es node low =
    let next : node - 1 + 1 ≡ node + 1 - 1 = omega (arith, low) in
    sym (nodes_more (λ w. held o es w) (λ w. is_resident o es w) (held o es 0) (node - 1) node (omega (arith, low))) ∙ ap (entries_before o es) next

-- ---- the state after each path

is_not : (t : Bool) → not t ≡ true → t ≡ false
is_not true e = absurd (true≢false (sym e))
is_not false e = refl

-- nothing was read yet
pub begun_scan : (h : History) {values : List (List ℕ)} {known : List Bool} {space : ℕ} → dones (reverse h.events) ≡ arrived (reverse h.events) → acks (reverse h.events) ≡ issues (reverse h.events)
    → Sees h.opening.shape (entries_held h.opening (reverse h.events)) values known → node_count h.opening.shape.l < space → IsScan h 0 [] values known space
begun_scan h {values} {known} {space} done acked sees room = record {
  all_done = done;
  all_acked = acked;
  within = omega arith;
  nodes = refl;
  sees = subst (λ (es : List Entry). Sees h.opening.shape es values known) (sym (append-nil (entries_held h.opening (reverse h.events)))) sees;
  space_left = room;
}

-- the nodes that were read, with those of one path more
nodes_now : (key : List ℕ) (h : History) (next : ℕ) (path : List ℕ) (taken more : List Bucket) → AreScanned key h next path more
    → nodes_in taken ≡ filter (λ w. not (is_resident h.opening (reverse h.events) w)) (visited h.opening.shape.l next)
    → nodes_in (taken ++ more) ≡ filter (λ w. not (is_resident h.opening (reverse h.events) w)) (visited h.opening.shape.l (next + 1))
nodes_now key h next path taken more read before =
    map-append (λ (bucket : Bucket). bucket.node) taken more ∙ ap₂ (λ (a b : List ℕ). a ++ b) before (scan_reads_first_met key h next path more read)
    ∙ sym (ap (filter away) (visited_more h.opening.shape.l next) ∙ filter-append away (visited h.opening.shape.l next) (first_met h.opening.shape.l next))
  where
    away : ℕ → Bool
    away w = not (is_resident h.opening (reverse h.events) w)

-- nodes that were read are of the tree, and no more than it has
few_read : (h : History) (next : ℕ) (taken : List Bucket) → next ≤ 2 ^ h.opening.shape.l
    → nodes_in taken ≡ filter (λ w. not (is_resident h.opening (reverse h.events) w)) (visited h.opening.shape.l next)
    → length taken ≤ node_count h.opening.shape.l + 1
few_read h next taken within nodes =
    let len : length (nodes_in taken) ≡ length taken = length-map taken (λ (bucket : Bucket). bucket.node) in
    let few = few_nodes (node_count h.opening.shape.l) (nodes_in taken) (subst HasOnce (sym nodes) (once_filter away (visited h.opening.shape.l next) (once_visited h.opening.shape.l next within)))
    (λ w on. (within_visited h.opening.shape.l next w within (and_parts (away w) (has w (visited h.opening.shape.l next)) (sym (ap (has w) nodes ∙ has_filter away w (visited h.opening.shape.l next)) ∙ on)).1).1) in
    omega (arith, len, few)
  where
    away : ℕ → Bool
    away w = not (is_resident h.opening (reverse h.events) w)

-- there is room for the buckets of one path more
pub room_for_leaf : (key : List ℕ) (h : History) (next : ℕ) (path : List ℕ) (taken more : List Bucket) {values : List (List ℕ)} {known : List Bool} {space : ℕ}
    → IsScan h next taken values known space → next < 2 ^ h.opening.shape.l → AreScanned key h next path more → length taken + length more ≤ space
room_for_leaf key h next path taken more {values} {known} {space} is low read =
    let few = few_read h (next + 1) (taken ++ more) (omega (arith, low)) (nodes_now key h next path taken more read is.nodes) in
    let len = length-append taken more in
    let room = is.space_left in
    omega (arith, few, len, room)

-- one path more was read
pub leaf_scan : (key : List ℕ) (h : History) (next : ℕ) (path : List ℕ) (taken more : List Bucket) {values now : List (List ℕ)} {known flags : List Bool} {space : ℕ}
    → IsScan h next taken values known space → next < 2 ^ h.opening.shape.l → AreScanned key h next path more
    → Sees h.opening.shape (entries_seen h.opening (reverse h.events) taken ++ flat_map (λ (bucket : Bucket). bucket.entries) more) now flags
    → IsScan h (next + 1) (taken ++ more) now flags space
leaf_scan key h next path taken more {values} {now} {known} {flags} {space} is low read sees = record {
  all_done = is.all_done;
  all_acked = is.all_acked;
  within = omega (arith, low);
  nodes = nodes_now key h next path taken more read is.nodes;
  sees = subst (λ (es : List Entry). Sees h.opening.shape es now flags)
      (append_assoc (entries_held h.opening (reverse h.events)) (flat_map (λ (bucket : Bucket). bucket.entries) taken) (flat_map (λ (bucket : Bucket). bucket.entries) more)
      ∙ ap (λ (es : List Entry). entries_held h.opening (reverse h.events) ++ es) (sym (flat_map-append (λ (bucket : Bucket). bucket.entries) taken more))) sees;
  space_left = is.space_left;
}

-- a fault changes nothing of it
pub fault_scan : {h : History} {next : ℕ} {taken : List Bucket} {values : List (List ℕ)} {known : List Bool} {space : ℕ} (cause : Cause)
    → IsScan h next taken values known space → IsScan (with_event h (Fault cause)) next taken values known space
unfolding held
fault_scan {h} {next} {taken} {values} {known} {space} cause is = record {
  all_done = subst (λ (es : List Event). dones es ≡ arrived es) (sym (newest_first h.events (Fault cause))) is.all_done;
  all_acked = subst (λ (es : List Event). acks es ≡ issues es) (sym (newest_first h.events (Fault cause))) is.all_acked;
  within = is.within;
  nodes = subst (λ (es : List Event). nodes_in taken ≡ filter (λ w. not (is_resident h.opening es w)) (visited h.opening.shape.l next)) (sym (newest_first h.events (Fault cause))) is.nodes;
  sees = subst (λ (es : List Event). Sees h.opening.shape (entries_seen h.opening es taken) values known) (sym (newest_first h.events (Fault cause))) is.sees;
  space_left = is.space_left;
}

-- the scan of a desk that fails, or had failed
pub failed_scan : (d : DeskState) {now : DeskState} {next : ℕ} {taken : List Bucket} {values : List (List ℕ)} {known : List Bool} {space : ℕ} (cause : Cause)
    → IsScan d.history next taken values known space → now ≡ (if has_fault (reverse d.history.events) then d else faulted d cause) → IsScan now.history next taken values known space
failed_scan d {now} {next} {taken} {values} {known} {space} cause is state =
    subst (λ (x : DeskState). IsScan x.history next taken values known space) (sym state) (either (has_fault (reverse d.history.events)))
  where
    either : (t : Bool) → IsScan (if t then d else faulted d cause).history next taken values known space
    either true = is
    either false = fault_scan cause is

-- the scan of a desk that has refused an answer
pub refused_scan : (i : ℕ) (d now : DeskState) {next : ℕ} {taken : List Bucket} {values : List (List ℕ)} {known : List Bool} {space : ℕ} (fault : DoneFault)
    → IsScan d.history next taken values known space → Refuses i d now fault → IsScan now.history next taken values known space
refused_scan i d now {next} {taken} {values} {known} {space} Down is state = subst (λ (x : DeskState). IsScan x.history next taken values known space) (sym state) is
refused_scan i d now {next} {taken} {values} {known} {space} Stranger is state = subst (λ (x : DeskState). IsScan x.history next taken values known space) (sym state) is
refused_scan i d now {next} {taken} {values} {known} {space} (Damaged node fault) is state =
    subst (λ (x : DeskState). IsScan x.history next taken values known space) (sym state) (fault_scan (causes.Damaged i node fault) is)
refused_scan i d now {next} {taken} {values} {known} {space} (Stale node wanted found) is state =
    subst (λ (x : DeskState). IsScan x.history next taken values known space) (sym state) (fault_scan (causes.Stale i node wanted found) is)

-- ---- the answer at a leaf

-- the session may end with a refused one
pub leaf_fails : (old : ProcessorState) {mid : ProcessorState} {cause : Cause} {number : ℕ} (leaf : ℕ) (path : List ℕ) (refused : Refused) → OwesNone old.history.opening (reverse old.history.events)
    → leaf < 2 ^ old.history.opening.shape.l → dones (reverse old.history.events) ≡ arrived (reverse old.history.events) → acks (reverse old.history.events) ≡ issues (reverse old.history.events)
    → Some refused ≡ leaf_refusal old.key old.history leaf path → mid ≡ record old { looked = [] } → cause ≡ cause_of (4294967296 + number) refused → number ≡ leaf
    → MayFollow mid.history.opening (reverse mid.history.events) (Fault cause)
leaf_fails old {mid} {cause} {number} leaf path refused owes low done acked some state is at =
    subst (λ (st : ProcessorState). MayFollow st.history.opening (reverse st.history.events) (Fault cause)) (sym state)
    (subst (λ (x : Cause). MayFollow old.history.opening (reverse old.history.events) (Fault x)) (sym (is ∙ ap (λ n. cause_of (4294967296 + n) refused) at))
    (owes, leaf_may_fail old.key old.history leaf path refused low done acked (sym some)))

-- what was read from one that is taken
pub leaf_read : (old : ProcessorState) {mid : ProcessorState} {looked : List Bucket} (leaf : ℕ) (path : List ℕ) → leaf < 2 ^ old.history.opening.shape.l → AreBytes path
    → None ≡ leaf_refusal old.key old.history leaf path → mid ≡ record old { looked = buckets_scanned old.key old.history leaf path } → looked ≡ mid.looked
    → AreScanned old.key old.history leaf path looked
leaf_read old {mid} {looked} leaf path low bytes none state is =
    subst (AreScanned old.key old.history leaf path) (sym (is ∙ ap (λ (st : ProcessorState). st.looked) state)) (leaf_is_read old.key old.history leaf path low bytes (sym none))

pub entries_read : (key : List ℕ) (h : History) (leaf : ℕ) (path : List ℕ) (more : List Bucket) → AreScanned key h leaf path more
    → All (λ (bucket : Bucket). All (IsEntry h.opening.shape) bucket.entries) more
entries_read key h leaf path more read =
    λ k d below i e within. ((read.in_form k d below).entries.ids i e within, (read.in_form k d below).entries.values i e within)

-- ---- the array

same_lists : {X : Type 0} (xs ys : List X) → length xs ≡ length ys → ((i : ℕ) (d : X) → i < length xs → get_or xs i d ≡ get_or ys i d) → xs ≡ ys
same_lists [] [] len same = refl
same_lists [] (y ∷ ys) len same = absurd (omega (arith, len))
same_lists (x ∷ xs) [] len same = absurd (omega (arith, len))
same_lists (x ∷ xs) (y ∷ ys) len same = ap₂ (λ v vs. v ∷ vs) (same 0 x (omega arith)) (same_lists xs ys (omega (arith, len)) (λ i d below. same (suc i) d (omega (arith, below))))

pub seen_values : {s : Shape} {entries : List Entry} {values : List (List ℕ)} {known : List Bool} → Sees s entries values known → values ≡ values_in s entries
seen_values {s} {entries} {values} {known} is =
    same_lists values (values_in s entries) (is.count ∙ sym (length-map-range_with_len (λ b. value_or_zeros s (look b entries)) 0 s.n))
    (λ i d below.
    let n = is.count in
    let low : i < s.n = omega (arith, n, below) in is.values_are i d low ∙ sym (get_or-map-range_with_len (λ b. value_or_zeros s (look b entries)) 0 s.n i i d low (omega arith)))

-- the first copies in nodes are those among the entries of all of them
copies_along : (contents : ℕ → List Entry) (b : ℕ) (nodes : List ℕ) → first_copy nodes contents b ≡ look b (flat_map contents nodes)
copies_along contents b [] = refl
copies_along contents b (w ∷ ws) = ap (λ (x : Option (List ℕ)). option_or (look b (contents w)) x) (copies_along contents b ws) ∙ sym (look_append b (contents w) (flat_map contents ws))

-- the same entries, node for node
same_entries : (f g : ℕ → List Entry) (nodes : List ℕ) → ((w : ℕ) → has w nodes ≡ true → f w ≡ g w) → flat_map f nodes ≡ flat_map g nodes
same_entries f g [] same = refl
same_entries f g (w ∷ ws) same = ap₂ (λ (a b : List Entry). a ++ b) (same w (or_left (nat_eq w w) (has w ws) (eq-eqb w w refl))) (same_entries f g ws (λ v on. same v (or_right (nat_eq w v) (has v ws) on)))

-- the entries of buckets of which no two are of one node
entries_along : (taken : List Bucket) → HasOnce (nodes_in taken) → flat_map (entries_at taken) (nodes_in taken) ≡ flat_map (λ (bucket : Bucket). bucket.entries) taken
entries_along [] once = refl
entries_along (x ∷ xs) once =
    ap₂ (λ (a b : List Entry). a ++ b) (own (nat_eq x.node x.node) (eq-eqb x.node x.node refl))
    (same_entries (entries_at (x ∷ xs)) (entries_at xs) (nodes_in xs) later ∙ entries_along xs once.1)
  where
    own : (t : Bool) → t ≡ true → cond t x.entries (entries_at xs x.node) ≡ x.entries
    own true is = refl
    own false is = absurd (true≢false (sym is))

    later : (w : ℕ) → has w (nodes_in xs) ≡ true → entries_at (x ∷ xs) w ≡ entries_at xs w
    later w on = ap (λ t. cond t x.entries (entries_at xs w)) (ne_eqb x.node w (λ same. true≢false (sym on ∙ subst (λ v. has v (nodes_in xs) ≡ false) same once.0)))

map_same : {X : Type 0} (f g : ℕ → X) (xs : List ℕ) → ((b : ℕ) → f b ≡ g b) → map f xs ≡ map g xs
map_same f g [] same = refl
map_same f g (x ∷ xs) same = ap₂ (λ y ys. y ∷ ys) (same x) (map_same f g xs same)

-- when all paths were read, the final array is the plain array
final_array_from : (key : List ℕ) (h : History) (taken : List Bucket) {values : List (List ℕ)} {known : List Bool} {space : ℕ} → IsScan h (2 ^ h.opening.shape.l) taken values known space
    → IsShape h.opening.shape → IsOfProxy h.opening (reverse h.events) → Unaltered (HasTagOf key h.opening.shape) h.opening (reverse h.events) → IsUnaltered key h
    → All (λ (bucket : Bucket). bucket.entries ≡ newest_entries h.opening (reverse h.events) bucket.node) taken
    → values_in h.opening.shape (entries_seen h.opening (reverse h.events) taken) ≡ array_now h.opening (reverse h.events)
final_array_from key h taken {values} {known} {space} is shape proxy tags unaltered honest =
    map_same (λ b. value_or_zeros o.shape (look b (entries_seen o es taken))) (λ b. value_or_zeros o.shape (first_copy nodes contents b)) (range_with_len 0 o.shape.n)
    (λ b. ap (value_or_zeros o.shape) (sym (copies_along contents b nodes ∙ ap (look b) all_entries)))
    ∙ array_is_seen o h.events taken nodes proxy (unaltered_is_honest key h unaltered tags) is.all_done (record { all = read; honest = honest }) (record { stash = refl; paths = on_paths })
  where
    o : Opening
    o = h.opening

    es : List Event
    es = reverse h.events

    away : ℕ → Bool
    away w = not (is_resident o es w)

    -- the stash, the nodes that the proxy holds, and those that were read
    nodes : List ℕ
    nodes = 0 ∷ held_nodes o es (node_count o.shape.l) ++ nodes_in taken

    contents : ℕ → List Entry
    contents w = current_contents (λ v. is_resident o es v) (λ v. held o es v) (entries_at taken) w

    holds : (w : ℕ) → has w (held_nodes o es (node_count o.shape.l)) ≡ true → contents w ≡ held o es w
    holds w on =
        let there = (and_parts (is_resident o es w) (has w (range_with_len 1 (node_count o.shape.l))) (sym (has_filter (λ v. is_resident o es v) w (range_with_len 1 (node_count o.shape.l))) ∙ on)).0 in
        ap (λ t. cond t (held o es w) (entries_at taken w)) (or_right (nat_eq w 0) (is_resident o es w) there)

    was_read : (w : ℕ) → has w (nodes_in taken) ≡ true → contents w ≡ entries_at taken w
    was_read w on =
        let parts = and_parts (away w) (has w (visited o.shape.l (2 ^ o.shape.l))) (sym (ap (has w) is.nodes ∙ has_filter away w (visited o.shape.l (2 ^ o.shape.l))) ∙ on) in
        let low = (within_visited o.shape.l (2 ^ o.shape.l) w (omega arith) parts.1).0 in
        ap (λ t. cond t (held o es w) (entries_at taken w)) (or_from (nat_eq w 0) (is_resident o es w) (ne_eqb w 0 (λ same. omega (arith, low, same))) (is_not (is_resident o es w) parts.0))

    all_entries : flat_map contents nodes ≡ entries_seen o es taken
    all_entries =
        ap (λ (entries : List Entry). held o es 0 ++ entries)
        (flat_map-append contents (held_nodes o es (node_count o.shape.l)) (nodes_in taken)
        ∙ ap₂ (λ (a b : List Entry). a ++ b) (same_entries contents (λ w. held o es w) (held_nodes o es (node_count o.shape.l)) holds)
        (same_entries contents (entries_at taken) (nodes_in taken) was_read
        ∙ entries_along taken (subst HasOnce (sym is.nodes) (once_filter away (visited o.shape.l (2 ^ o.shape.l)) (once_visited o.shape.l (2 ^ o.shape.l) (omega arith))))))
        ∙ sym (append_assoc (held o es 0) (flat_map (λ w. held o es w) (held_nodes o es (node_count o.shape.l))) (flat_map (λ (bucket : Bucket). bucket.entries) taken))

    read : (w : ℕ) → 1 ≤ w → w ≤ node_count o.shape.l → is_resident o es w ≡ false → has w (nodes_in taken) ≡ true
    read w low high off =
        ap (has w) is.nodes ∙ has_filter away w (visited o.shape.l (2 ^ o.shape.l))
        ∙ ap₂ (λ a b. a && b) (ap not off) (all_visited o.shape.l w shape.height_high low high)

    listed : (w : ℕ) → 1 ≤ w → w ≤ node_count o.shape.l → (t : Bool) → is_resident o es w ≡ t → has w (held_nodes o es (node_count o.shape.l) ++ nodes_in taken) ≡ true
    listed w low high true there =
        has_append w (held_nodes o es (node_count o.shape.l)) (nodes_in taken)
        ∙ or_left (has w (held_nodes o es (node_count o.shape.l))) (has w (nodes_in taken)) (has_filter (λ v. is_resident o es v) w (range_with_len 1 (node_count o.shape.l))
        ∙ ap₂ (λ a b. a && b) there (has_range 1 (node_count o.shape.l) w low (omega (arith, high))))
    listed w low high false off = has_append w (held_nodes o es (node_count o.shape.l)) (nodes_in taken) ∙ or_right (has w (held_nodes o es (node_count o.shape.l))) (has w (nodes_in taken)) (read w low high off)

    on_paths : (leaf w : ℕ) → leaf < 2 ^ o.shape.l → is_on_path o.shape.l leaf w ≡ true → has w nodes ≡ true
    on_paths leaf w small on =
        or_right (nat_eq 0 w) (has w (held_nodes o es (node_count o.shape.l) ++ nodes_in taken))
        (listed w (on_path_is_node o.shape.l leaf w on) (on_path_within o.shape.l leaf w small on) (is_resident o es w) refl)

pub final_array_is : (key : List ℕ) (h : History) (next : ℕ) (taken : List Bucket) {values : List (List ℕ)} {known : List Bool} {space : ℕ} → IsScan h next taken values known space
    → next ≡ 2 ^ h.opening.shape.l → IsShape h.opening.shape → IsOfProxy h.opening (reverse h.events) → Unaltered (HasTagOf key h.opening.shape) h.opening (reverse h.events) → IsUnaltered key h
    → All (λ (bucket : Bucket). bucket.entries ≡ newest_entries h.opening (reverse h.events) bucket.node) taken
    → values_in h.opening.shape (entries_seen h.opening (reverse h.events) taken) ≡ array_now h.opening (reverse h.events)
final_array_is key h next taken {values} {known} {space} is last = final_array_from key h taken (subst (λ n. IsScan h n taken values known space) last is)

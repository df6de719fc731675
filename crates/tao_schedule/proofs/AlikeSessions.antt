-- Sessions that are alike stay alike. Moves and events are newest first.
use Rattle.std.proofs.Common.{◌≡◌, ℕ, ◌+◌, ◌-◌, ◌*◌, ◌<◌, Bool, true, false, not, ◌&&◌, ◌||◌, cond, List, [], ◌∷◌, ◌++◌, map, filter, reverse, Some, None, refl, sym, ap, ◌∙◌, subst, arith, inl, inr, ◌⊎◌, nat_eq}
use Rattle.std.specs.Prelude.{⊤}
use Rattle.std.specs.List.{list_all}
use Rattle.std.proofs.lemmas.Bool.{not-false, and_parts, true≢false, ne_eqb, or_from}
use Rattle.std.proofs.lemmas.List.{reverse-reverse, append_assoc}
use Rattle.std.proofs.lemmas.List.Elements.{filter_agree}
use Rattle.tao_base.specs.declared.session.Event.{Event}
use Rattle.tao_base.specs.declared.session.Event.TheVariants.{Arrive, Done, Issue, Acked, Fault}
use Rattle.tao_base.specs.declared.storage.Bucket.{Bucket}
use Rattle.tao_base.specs.Limits.{session_limit}
use Rattle.tao_base.specs.Session.{Opening, History}
use Rattle.tao_base.specs.Tree.{node_at, path, leaf_of}
use Rattle.tao_model.specs.Events.{arrived, dones, issues, word_of, word_at, is_under_way, is_outstanding}
use Rattle.tao_model.specs.Requests.{fetched_leaf, word_used}
use Rattle.tao_model.specs.Replies.{op_of, ops}
use Rattle.tao_model.specs.Lawful.{FollowsLawfully}
use Rattle.tao_model.specs.Shapes.{steps_of, IsOneShape}
use Rattle.tao_model.proofs.FallingPaths.{has}
use Rattle.tao_model.proofs.Places.{leaf_stays_later, arrived_grows}
use Rattle.tao_model.proofs.LawfulToWhole.{earlier_follows}
use Rattle.tao_laws.specs.TwoPlays.{LeavesAgree}
use Rattle.tao_laws.proofs.KindsAlone.{picked_back, same_steps, kinds_need_no_word}
use Rattle.tao_laws.proofs.ToldTraces.{told_again, again_is}
use Rattle.tao_text.specs.declared.script.What.{What}
use Rattle.tao_text.specs.Breaks.{is_arrival}
use Rattle.tao_schedule.specs.Moves.{Move, Arrives, Serves, Completes, Applies, Acknowledges, nodes_issued, seen, is_served, is_applied}
use Rattle.tao_schedule.specs.Schedules.{Goes, IsSchedule, GoOn, TakesIn}
use Rattle.tao_schedule.specs.Steps.{is_misplaced, is_full, moves_of, rest_of, seen_step, asked_behind, IsPart, AreParts, IsStep, ArePlayed}
use Rattle.tao_schedule.specs.Alike.{IsSession, AreAlike, AlikeSteps, AlikeTests, TestsNeedNoOp, StepGoesOn, PlayedIsAllowed, AlikeGoOn, OneSchedule, PlayedFront, MisplacedStays}
use Rattle.tao_schedule.proofs.ServerVersions.{under_parts}
use Rattle.tao_schedule.proofs.ToldEvents.{bare, arrived_bare, dones_bare, issues_bare, done_bare, acked_bare, steps_bare, told, goes_lawful, bare_is_told, SeenSame, seen_told, served_seen, applied_seen, nodes_again, nodes_are_again, issued_has}

-- ---- what two sessions with the same moves share

bare_same : (es : List Event) → SeenSame (bare es) es
bare_same es = record { arrived = arrived_bare es; dones = dones_bare es; issues = issues_bare es; done = done_bare es; acked = acked_bare es; steps = steps_bare es }

same_by : (es others them : List Event) → SeenSame es others → SeenSame others them → SeenSame es them
same_by es others them h k = record {
  arrived = h.arrived ∙ k.arrived;
  dones = h.dones ∙ k.dones;
  issues = h.issues ∙ k.issues;
  done = λ i. h.done i ∙ k.done i;
  acked = λ v. h.acked v ∙ k.acked v;
  steps = h.steps ∙ k.steps;
}

same_back : (es others : List Event) → SeenSame es others → SeenSame others es
same_back es others h =
    record { arrived = sym h.arrived; dones = sym h.dones; issues = sym h.issues; done = λ i. sym (h.done i); acked = λ v. sym (h.acked v); steps = sym h.steps }

session_told : (o : Opening) (ms : List Move) (es : List Event) → IsSession o ms es → SeenSame (told o.shape (map seen ms)) es
session_told o ms es s =
    same_by (told o.shape (map seen ms)) (bare es) es
    (subst (λ l. SeenSame (told o.shape (map seen ms)) l) (sym (bare_is_told o ms es s.schedule s.follows)) (seen_told o.shape ms)) (bare_same es)

pub seen_facts : (o : Opening) (ms : List Move) (es : List Event) (other : Opening) (ns : List Move) (others : List Event) → IsSession o ms es → IsSession other ns others
    → o.shape ≡ other.shape → map seen ms ≡ map seen ns → SeenSame es others
seen_facts o ms es other ns others s t shape moves =
    same_by es (told o.shape (map seen ms)) others (same_back (told o.shape (map seen ms)) es (session_told o ms es s))
    (subst (λ l. SeenSame l others) (sym (ap (λ x. told x (map seen ms)) shape ∙ ap (told other.shape) moves)) (session_told other ns others t))

pub alike_steps : AlikeSteps
alike_steps o ms es other ns others s t a = (seen_facts o ms es other ns others s t a.shape a.moves).steps

pub nodes_same : (o : Opening) (es : List Event) (other : Opening) (others : List Event) (v : ℕ) → FollowsLawfully o es → FollowsLawfully other others → o.shape ≡ other.shape
    → SeenSame es others → LeavesAgree o es other others → nodes_issued es v ≡ nodes_issued others v
nodes_same o es other others v f g shape h leaves =
    nodes_are_again es v
    ∙ ap nodes_again (again_is o es (fetched_leaf o es) v f (λ i there. refl) ∙ ap (λ s. told_again s (fetched_leaf o es) (steps_of es) v) shape
    ∙ ap (λ l. told_again other.shape (fetched_leaf o es) l v) h.steps
    ∙ sym (again_is other others (fetched_leaf o es) v g (λ i there. let as_many = h.arrived in sym (leaves i (omega arith)))))
    ∙ sym (nodes_are_again others v)

served_same : (ms ns : List Move) → map seen ms ≡ map seen ns → (i node : ℕ) → is_served ms i node ≡ is_served ns i node
served_same ms ns moves i node = sym (served_seen ms i node) ∙ ap (λ l. is_served l i node) moves ∙ served_seen ns i node

applied_same : (ms ns : List Move) → map seen ms ≡ map seen ns → (v node : ℕ) → is_applied ms v node ≡ is_applied ns v node
applied_same ms ns moves v node = sym (applied_seen ms v node) ∙ ap (λ l. is_applied l v node) moves ∙ applied_seen ns v node

pub under_same : (es others : List Event) → SeenSame es others → (i : ℕ) → is_under_way es i ≡ is_under_way others i
under_same es others h i = rw (h.arrived, h.done i) refl

pub outstanding_same : (es others : List Event) → SeenSame es others → (v : ℕ) → is_outstanding es v ≡ is_outstanding others v
outstanding_same es others h v = rw (h.issues, h.acked v) refl

-- ---- tests

and_same : (t u x y : Bool) → t ≡ u → (t ≡ true → x ≡ y) → (t && x) ≡ (u && y)
and_same true u x y e h = h refl ∙ ap (λ b. b && y) e
and_same false u x y e h = ap (λ b. b && y) e

all_same : (passes tests : ℕ → Bool) → ((i : ℕ) → passes i ≡ tests i) → (xs : List ℕ) → list_all passes xs ≡ list_all tests xs
all_same passes tests same [] = refl
all_same passes tests same (x ∷ xs) = rw (same x, all_same passes tests same xs) refl

test_same : (o : Opening) (ms : List Move) (es : List Event) (other : Opening) (ns : List Move) (others : List Event) (what : What) → IsSession o ms es → IsSession other ns others
    → AreAlike o ms es other ns others → SeenSame es others → is_misplaced o ms es what ≡ is_misplaced other ns others what
unfolding is_misplaced
test_same o ms es other ns others (What.Do client op) s t a h = refl
test_same o ms es other ns others (What.A client op) s t a h = refl
test_same o ms es other ns others (What.Read fetch None) s t a h = ap not (under_same es others h fetch)
test_same o ms es other ns others (What.Read fetch (Some depth)) s t a h =
    ap not (and_same (is_under_way es fetch) (is_under_way others fetch) (not (is_served ms fetch (node_at o.shape.l (fetched_leaf o es fetch) depth)))
    (not (is_served ns fetch (node_at other.shape.l (fetched_leaf other others fetch) depth))) (under_same es others h fetch)
    (λ way. ap not (ap (λ leaf. is_served ms fetch (node_at o.shape.l leaf depth)) (a.leaves fetch (under_parts es fetch way).0)
    ∙ ap (λ s. is_served ms fetch (node_at s.l (fetched_leaf other others fetch) depth)) a.shape
    ∙ served_same ms ns a.moves fetch (node_at other.shape.l (fetched_leaf other others fetch) depth))))
test_same o ms es other ns others (What.Done fetch) s t a h =
    ap not (and_same (is_under_way es fetch) (is_under_way others fetch) (list_all (is_served ms fetch) (path o.shape.l (fetched_leaf o es fetch)))
    (list_all (is_served ns fetch) (path other.shape.l (fetched_leaf other others fetch))) (under_same es others h fetch)
    (λ way. ap (λ leaf. list_all (is_served ms fetch) (path o.shape.l leaf)) (a.leaves fetch (under_parts es fetch way).0)
    ∙ ap (λ s. list_all (is_served ms fetch) (path s.l (fetched_leaf other others fetch))) a.shape
    ∙ all_same (is_served ms fetch) (is_served ns fetch) (served_same ms ns a.moves fetch) (path other.shape.l (fetched_leaf other others fetch))))
test_same o ms es other ns others (What.Put version None) s t a h = ap not (outstanding_same es others h version)
test_same o ms es other ns others (What.Put version (Some node)) s t a h =
    rw (
      outstanding_same es others h version,
      applied_same ms ns a.moves version node,
      issued_has o es version node s.follows ∙ ap (has node) (nodes_same o es other others version s.follows t.follows a.shape h a.leaves) ∙ sym (issued_has other others version node t.follows),
    ) refl
test_same o ms es other ns others (What.Ack version) s t a h =
    rw (outstanding_same es others h version, nodes_same o es other others version s.follows t.follows a.shape h a.leaves)
    (ap (λ b. not (is_outstanding others version && b)) (all_same (is_applied ms version) (is_applied ns version) (applied_same ms ns a.moves version) (nodes_issued others version)))

full_same : (o : Opening) (es : List Event) (other : Opening) (others : List Event) (what : What) → o.shape ≡ other.shape → SeenSame es others → is_full o es what ≡ is_full other others what
unfolding is_full
full_same o es other others what shape h = rw (h.arrived) (ap (λ s. is_arrival what && nat_eq (arrived others) (session_limit s)) shape)

rest_same : (o : Opening) (es : List Event) (other : Opening) (others : List Event) (what : What) → o.shape ≡ other.shape → SeenSame es others → rest_of o es what ≡ rest_of other others what
unfolding rest_of
rest_same o es other others (What.Do client op) shape h = rw (h.arrived, h.dones, h.issues, ap (λ s. s.k) shape) refl
rest_same o es other others (What.A client op) shape h = refl
rest_same o es other others (What.Read fetch depth) shape h = refl
rest_same o es other others (What.Done fetch) shape h = refl
rest_same o es other others (What.Put version bucket) shape h = refl
rest_same o es other others (What.Ack version) shape h = refl

way_of_read : (o : Opening) (ms : List Move) (es : List Event) (fetch depth : ℕ) → is_misplaced o ms es (What.Read fetch (Some depth)) ≡ false → is_under_way es fetch ≡ true
unfolding is_misplaced
way_of_read o ms es fetch depth may =
    (and_parts (is_under_way es fetch) (not (is_served ms fetch (node_at o.shape.l (fetched_leaf o es fetch) depth)))
    (not-false (is_under_way es fetch && not (is_served ms fetch (node_at o.shape.l (fetched_leaf o es fetch) depth))) may)).0

moves_same : (o : Opening) (ms : List Move) (es : List Event) (other : Opening) (ns : List Move) (others : List Event) (word : ℕ) (what : What) → IsSession o ms es
    → IsSession other ns others → AreAlike o ms es other ns others → SeenSame es others → is_misplaced o ms es what ≡ false
    → moves_of o ms es word what ≡ moves_of other ns others word what
unfolding moves_of is_misplaced
moves_same o ms es other ns others word (What.Do client op) s t a h may = refl
moves_same o ms es other ns others word (What.A client op) s t a h may = refl
moves_same o ms es other ns others word (What.Read fetch None) s t a h may =
    let way = not-false (is_under_way es fetch) may in
    ap (map (Serves fetch)) (ap (λ leaf. filter (λ node. not (is_served ms fetch node)) (path o.shape.l leaf)) (a.leaves fetch (under_parts es fetch way).0)
    ∙ ap (λ s. filter (λ node. not (is_served ms fetch node)) (path s.l (fetched_leaf other others fetch))) a.shape
    ∙ filter_agree (λ node. not (is_served ms fetch node)) (λ node. not (is_served ns fetch node)) (λ node. ap not (served_same ms ns a.moves fetch node))
    (path other.shape.l (fetched_leaf other others fetch)))
moves_same o ms es other ns others word (What.Read fetch (Some depth)) s t a h may =
    let way = way_of_read o ms es fetch depth may in
    ap (λ leaf. Serves fetch (node_at o.shape.l leaf depth) ∷ []) (a.leaves fetch (under_parts es fetch way).0)
    ∙ ap (λ s. Serves fetch (node_at s.l (fetched_leaf other others fetch) depth) ∷ []) a.shape
moves_same o ms es other ns others word (What.Done fetch) s t a h may = refl
moves_same o ms es other ns others word (What.Put version None) s t a h may =
    ap (map (Applies version)) (ap (filter (λ node. not (is_applied ms version node))) (nodes_same o es other others version s.follows t.follows a.shape h a.leaves)
    ∙ filter_agree (λ node. not (is_applied ms version node)) (λ node. not (is_applied ns version node)) (λ node. ap not (applied_same ms ns a.moves version node))
    (nodes_issued others version))
moves_same o ms es other ns others word (What.Put version (Some node)) s t a h may = refl
moves_same o ms es other ns others word (What.Ack version) s t a h may = refl

pub alike_tests : AlikeTests
alike_tests o ms es other ns others what s t a = record {
  misplaced = test_same o ms es other ns others what s t a h;
  full = full_same o es other others what a.shape h;
  rest = rest_same o es other others what a.shape h;
  moves = λ word may. moves_same o ms es other ns others word what s t a h may;
}
  where
    h : SeenSame es others
    h = seen_facts o ms es other ns others s t a.shape a.moves

-- ---- a step without its operation

misplaced_seen : (o : Opening) (ms : List Move) (es : List Event) (what : What) → is_misplaced o ms es (seen_step what) ≡ is_misplaced o ms es what
unfolding is_misplaced
misplaced_seen o ms es (What.Do client op) = refl
misplaced_seen o ms es (What.A client op) = refl
misplaced_seen o ms es (What.Read fetch depth) = refl
misplaced_seen o ms es (What.Done fetch) = refl
misplaced_seen o ms es (What.Put version bucket) = refl
misplaced_seen o ms es (What.Ack version) = refl

full_seen : (o : Opening) (es : List Event) (what : What) → is_full o es (seen_step what) ≡ is_full o es what
unfolding is_full
full_seen o es (What.Do client op) = refl
full_seen o es (What.A client op) = refl
full_seen o es (What.Read fetch depth) = refl
full_seen o es (What.Done fetch) = refl
full_seen o es (What.Put version bucket) = refl
full_seen o es (What.Ack version) = refl

rest_seen : (o : Opening) (es : List Event) (what : What) → rest_of o es (seen_step what) ≡ rest_of o es what
unfolding rest_of
rest_seen o es (What.Do client op) = refl
rest_seen o es (What.A client op) = refl
rest_seen o es (What.Read fetch depth) = refl
rest_seen o es (What.Done fetch) = refl
rest_seen o es (What.Put version bucket) = refl
rest_seen o es (What.Ack version) = refl

pub map_seen : (f : ℕ → Move) → ((node : ℕ) → seen (f node) ≡ f node) → (xs : List ℕ) → map seen (map f xs) ≡ map f xs
map_seen f same [] = refl
map_seen f same (x ∷ xs) = rw (same x, map_seen f same xs) refl

moves_seen : (o : Opening) (ms : List Move) (es : List Event) (word : ℕ) (what : What) → map seen (moves_of o ms es word what) ≡ moves_of o ms es 0 (seen_step what)
unfolding moves_of
moves_seen o ms es word (What.Do client op) = refl
moves_seen o ms es word (What.A client op) = refl
moves_seen o ms es word (What.Read fetch None) = map_seen (Serves fetch) (λ node. refl) (filter (λ node. not (is_served ms fetch node)) (path o.shape.l (fetched_leaf o es fetch)))
moves_seen o ms es word (What.Read fetch (Some depth)) = refl
moves_seen o ms es word (What.Done fetch) = refl
moves_seen o ms es word (What.Put version None) = map_seen (Applies version) (λ node. refl) (filter (λ node. not (is_applied ms version node)) (nodes_issued es version))
moves_seen o ms es word (What.Put version (Some node)) = refl
moves_seen o ms es word (What.Ack version) = refl

pub tests_need_no_op : TestsNeedNoOp
tests_need_no_op o ms es what = (misplaced_seen o ms es what, full_seen o es what)

-- ---- staying alike

abbrev pub onto : List Move → List Move → List Move
onto [] ms = ms
onto (m ∷ rest) ms = onto rest (m ∷ ms)

pub seen_onto : (moves ms : List Move) → map seen (onto moves ms) ≡ onto (map seen moves) (map seen ms)
seen_onto [] ms = refl
seen_onto (m ∷ rest) ms = seen_onto rest (m ∷ ms)

pub go_moves : (o : Opening) (ms : List Move) (es : List Event) (moves later : List Move) (now : List Event) → GoOn o ms es moves later now → later ≡ onto moves ms
unfolding GoOn
go_moves o ms es [] later now g = g.0
go_moves o ms es (m ∷ rest) later now g = go_moves o (m ∷ ms) g.0 rest later now g.2

pub go_schedule : (o : Opening) (ms : List Move) (es : List Event) (moves later : List Move) (now : List Event) → IsSchedule o ms es → GoOn o ms es moves later now → IsSchedule o later now
unfolding GoOn IsSchedule
go_schedule o ms es [] later now s g = subst (λ l. IsSchedule o l now) (sym g.0) (subst (IsSchedule o ms) (sym g.1) s)
go_schedule o ms es (m ∷ rest) later now s g = go_schedule o (m ∷ ms) g.0 rest later now (es, s, g.1) g.2

pub go_lawful : (o : Opening) (ms : List Move) (es : List Event) (moves later : List Move) (now : List Event) → GoOn o ms es moves later now → FollowsLawfully o now → FollowsLawfully o es
unfolding GoOn
go_lawful o ms es [] later now g f = subst (FollowsLawfully o) g.1 f
go_lawful o ms es (m ∷ rest) later now g f = goes_lawful o ms es m g.0 g.1 (go_lawful o (m ∷ ms) g.0 rest later now g.2 f)

-- earlier arrivals fetch the same leaves as before
abbrev Keeps : Opening → List Event → List Event → Type 0
Keeps o es now = (i : ℕ) → i < arrived es → (i < arrived now) × (fetched_leaf o now i ≡ fetched_leaf o es i)

keeps_more : (o : Opening) (added es now : List Event) → now ≡ added ++ es → FollowsLawfully o es → Keeps o es now
keeps_more o added es now is f i there =
    let grown = arrived_grows added es in (subst (λ l. i < arrived l) (sym is) (omega arith), ap (λ l. fetched_leaf o l i) is ∙ leaf_stays_later o added es i f there)

goes_keep : (o : Opening) (ms : List Move) (es : List Event) (m : Move) (now : List Event) → Goes o ms es m now → FollowsLawfully o es → Keeps o es now
unfolding Goes
goes_keep o ms es (Arrives client op word) now g f = keeps_more o (Arrive client op word ∷ []) es now g.1 f
goes_keep o ms es (Serves fetch served) now g f = keeps_more o [] es now g.3 f
goes_keep o ms es (Completes fetch) now g f = either g.2.1 g.2.2
  where
    either : (taken : List Bucket) → ((now ≡ Done fetch taken ∷ es) ⊎ ((version : ℕ) × (nonce : ℕ) × (buckets : List Bucket) × (now ≡ Issue version nonce buckets ∷ Done fetch taken ∷ es)))
        → Keeps o es now
    either taken (inl is) = keeps_more o (Done fetch taken ∷ []) es now is f
    either taken (inr (version, nonce, buckets, is)) = keeps_more o (Issue version nonce buckets ∷ Done fetch taken ∷ []) es now is f
goes_keep o ms es (Applies version applied) now g f = keeps_more o [] es now g.2 f
goes_keep o ms es (Acknowledges version) now g f = keeps_more o (Acked version ∷ []) es now g.2 f

keeps_both : (o : Opening) (es next now : List Event) → Keeps o es next → Keeps o next now → Keeps o es now
keeps_both o es next now h k i there = let first = h i there in let second = k i first.0 in (second.0, second.1 ∙ first.1)

go_keep : (o : Opening) (ms : List Move) (es : List Event) (moves later : List Move) (now : List Event) → GoOn o ms es moves later now → FollowsLawfully o now → Keeps o es now
unfolding GoOn
go_keep o ms es [] later now g f = keeps_more o [] es now g.1 (subst (FollowsLawfully o) g.1 f)
go_keep o ms es (m ∷ rest) later now g f =
    let next = go_lawful o (m ∷ ms) g.0 rest later now g.2 f in
    keeps_both o es g.0 now (goes_keep o ms es m g.0 g.1 (goes_lawful o ms es m g.0 g.1 next)) (go_keep o (m ∷ ms) g.0 rest later now g.2 f)

pub parts_schedule : (o : Opening) (word : ℕ → ℕ) (ms : List Move) (es : List Event) (parts : List What) (later : List Move) (now : List Event) → IsSchedule o ms es
    → AreParts o word ms es parts later now → IsSchedule o later now
unfolding AreParts IsPart
parts_schedule o word ms es [] later now s g = subst (λ l. IsSchedule o l now) (sym g.0) (subst (IsSchedule o ms) (sym g.1) s)
parts_schedule o word ms es (what ∷ rest) later now s g =
    parts_schedule o word g.0 g.1 rest later now (go_schedule o ms es (moves_of o ms es (word (arrived es)) what) g.0 g.1 s g.2.1) g.3

part_lawful : (o : Opening) (word : ℕ → ℕ) (ms : List Move) (es : List Event) (what : What) (later : List Move) (now : List Event) → IsPart o word ms es what later now
    → FollowsLawfully o now → FollowsLawfully o es
unfolding IsPart
part_lawful o word ms es what later now g f = go_lawful o ms es (moves_of o ms es (word (arrived es)) what) later now g.1 f

part_keep : (o : Opening) (word : ℕ → ℕ) (ms : List Move) (es : List Event) (what : What) (later : List Move) (now : List Event) → IsPart o word ms es what later now
    → FollowsLawfully o now → Keeps o es now
unfolding IsPart
part_keep o word ms es what later now g f = go_keep o ms es (moves_of o ms es (word (arrived es)) what) later now g.1 f

part_schedule : (o : Opening) (word : ℕ → ℕ) (ms : List Move) (es : List Event) (what : What) (later : List Move) (now : List Event) → IsSchedule o ms es
    → IsPart o word ms es what later now → IsSchedule o later now
unfolding IsPart
part_schedule o word ms es what later now s g = go_schedule o ms es (moves_of o ms es (word (arrived es)) what) later now s g.1

pub parts_lawful : (o : Opening) (word : ℕ → ℕ) (ms : List Move) (es : List Event) (parts : List What) (later : List Move) (now : List Event) → AreParts o word ms es parts later now
    → FollowsLawfully o now → FollowsLawfully o es
unfolding AreParts
parts_lawful o word ms es [] later now g f = subst (FollowsLawfully o) g.1 f
parts_lawful o word ms es (what ∷ rest) later now g f = part_lawful o word ms es what g.0 g.1 g.2 (parts_lawful o word g.0 g.1 rest later now g.3 f)

parts_keep : (o : Opening) (word : ℕ → ℕ) (ms : List Move) (es : List Event) (parts : List What) (later : List Move) (now : List Event) → AreParts o word ms es parts later now
    → FollowsLawfully o now → Keeps o es now
unfolding AreParts
parts_keep o word ms es [] later now g f = keeps_more o [] es now g.1 (subst (FollowsLawfully o) g.1 f)
parts_keep o word ms es (what ∷ rest) later now g f =
    keeps_both o es g.1 now (part_keep o word ms es what g.0 g.1 g.2 (parts_lawful o word g.0 g.1 rest later now g.3 f)) (parts_keep o word g.0 g.1 rest later now g.3 f)

pub step_goes_on : StepGoesOn
unfolding IsStep
step_goes_on o word ms es what later now s g = parts_schedule o word ms es (what ∷ rest_of o es what) later now s g

pub step_lawful : (o : Opening) (word : ℕ → ℕ) (ms : List Move) (es : List Event) (what : What) (later : List Move) (now : List Event) → IsStep o word ms es what later now
    → FollowsLawfully o now → FollowsLawfully o es
unfolding IsStep
step_lawful o word ms es what later now g f = parts_lawful o word ms es (what ∷ rest_of o es what) later now g f

-- ---- events without an arrival

abbrev pub AreQuiet : List Event → Type 0
AreQuiet [] = ⊤
AreQuiet (Arrive client op word ∷ es) = ⊥
AreQuiet (Done arrival taken ∷ es) = AreQuiet es
AreQuiet (Issue version nonce buckets ∷ es) = AreQuiet es
AreQuiet (Acked version ∷ es) = AreQuiet es
AreQuiet (Fault cause ∷ es) = AreQuiet es

-- only events without an arrival were added
pub record IsQuiet (es now : List Event) : Type 0 where
  pub added : List Event
  pub quiet : AreQuiet added
  pub split : now ≡ added ++ es

pub no_more : (es now : List Event) → now ≡ es → IsQuiet es now
no_more es now is = record { added = []; quiet = tt; split = is }

quiet_append : (newer added : List Event) → AreQuiet newer → AreQuiet added → AreQuiet (newer ++ added)
quiet_append [] added q r = r
quiet_append (Arrive client op word ∷ newer) added q r = absurd q
quiet_append (Done arrival taken ∷ newer) added q r = quiet_append newer added q r
quiet_append (Issue version nonce buckets ∷ newer) added q r = quiet_append newer added q r
quiet_append (Acked version ∷ newer) added q r = quiet_append newer added q r
quiet_append (Fault cause ∷ newer) added q r = quiet_append newer added q r

pub quiet_both : (es next now : List Event) → IsQuiet es next → IsQuiet next now → IsQuiet es now
quiet_both es next now h k = record {
  added = k.added ++ h.added;
  quiet = quiet_append k.added h.added k.quiet h.quiet;
  split = k.split ∙ ap (λ l. k.added ++ l) h.split ∙ sym (append_assoc k.added h.added es);
}

pub quiet_arrived : (added es : List Event) → AreQuiet added → arrived (added ++ es) ≡ arrived es
quiet_arrived [] es q = refl
quiet_arrived (Arrive client op word ∷ added) es q = absurd q
quiet_arrived (Done arrival taken ∷ added) es q = quiet_arrived added es q
quiet_arrived (Issue version nonce buckets ∷ added) es q = quiet_arrived added es q
quiet_arrived (Acked version ∷ added) es q = quiet_arrived added es q
quiet_arrived (Fault cause ∷ added) es q = quiet_arrived added es q

pub as_many_arrived : (es now : List Event) → IsQuiet es now → arrived now ≡ arrived es
as_many_arrived es now q = ap arrived q.split ∙ quiet_arrived q.added es q.quiet

pub go_serves : (o : Opening) (ms : List Move) (es : List Event) (fetch : ℕ) (xs : List ℕ) (later : List Move) (now : List Event) → GoOn o ms es (map (Serves fetch) xs) later now → now ≡ es
unfolding GoOn Goes
go_serves o ms es fetch [] later now g = g.1
go_serves o ms es fetch (x ∷ xs) later now g = go_serves o (Serves fetch x ∷ ms) g.0 fetch xs later now g.2 ∙ g.1.3

go_applies : (o : Opening) (ms : List Move) (es : List Event) (version : ℕ) (xs : List ℕ) (later : List Move) (now : List Event) → GoOn o ms es (map (Applies version) xs) later now
    → now ≡ es
unfolding GoOn Goes
go_applies o ms es version [] later now g = g.1
go_applies o ms es version (x ∷ xs) later now g = go_applies o (Applies version x ∷ ms) g.0 version xs later now g.2 ∙ g.1.2

pub quiet_taking : (o : Opening) (es : List Event) (fetch : ℕ) (now : List Event) → TakesIn o es fetch now → IsQuiet es now
quiet_taking o es fetch now t = either t.1 t.2
  where
    either : (taken : List Bucket) → ((now ≡ Done fetch taken ∷ es) ⊎ ((version : ℕ) × (nonce : ℕ) × (buckets : List Bucket) × (now ≡ Issue version nonce buckets ∷ Done fetch taken ∷ es)))
        → IsQuiet es now
    either taken (inl is) = record { added = Done fetch taken ∷ []; quiet = tt; split = is }
    either taken (inr (version, nonce, buckets, is)) = record { added = Issue version nonce buckets ∷ Done fetch taken ∷ []; quiet = tt; split = is }

-- a part adds its arrival, if it has one, and no other
pub part_is_quiet : (o : Opening) (word : ℕ → ℕ) (ms : List Move) (es : List Event) (what : What) (later : List Move) (now : List Event) → IsPart o word ms es what later now
    → IsQuiet (asked_behind word es what) now
unfolding IsPart moves_of GoOn Goes
part_is_quiet o word ms es (What.Do client op) later now g = no_more (Arrive client op (word (arrived es)) ∷ es) now (g.1.2.1 ∙ g.1.1.1)
part_is_quiet o word ms es (What.A client op) later now g = no_more (Arrive client op (word (arrived es)) ∷ es) now (g.1.2.1 ∙ g.1.1.1)
part_is_quiet o word ms es (What.Read fetch None) later now g =
    no_more es now (go_serves o ms es fetch (filter (λ node. not (is_served ms fetch node)) (path o.shape.l (fetched_leaf o es fetch))) later now g.1)
part_is_quiet o word ms es (What.Read fetch (Some depth)) later now g = no_more es now (g.1.2.1 ∙ g.1.1.3)
part_is_quiet o word ms es (What.Done fetch) later now g = quiet_both es g.1.0 now (quiet_taking o es fetch g.1.0 g.1.1.2) (no_more g.1.0 now g.1.2.1)
part_is_quiet o word ms es (What.Put version None) later now g =
    no_more es now (go_applies o ms es version (filter (λ node. not (is_applied ms version node)) (nodes_issued es version)) later now g.1)
part_is_quiet o word ms es (What.Put version (Some node)) later now g = no_more es now (g.1.2.1 ∙ g.1.1.2)
part_is_quiet o word ms es (What.Ack version) later now g = record { added = Acked version ∷ []; quiet = tt; split = g.1.2.1 ∙ g.1.1.2 }

asks_none : (word : ℕ → ℕ) (es : List Event) (what : What) → is_arrival what ≡ false → asked_behind word es what ≡ es
asks_none word es (What.Do client op) none = absurd (true≢false none)
asks_none word es (What.A client op) none = absurd (true≢false none)
asks_none word es (What.Read fetch depth) none = refl
asks_none word es (What.Done fetch) none = refl
asks_none word es (What.Put version bucket) none = refl
asks_none word es (What.Ack version) none = refl

abbrev pub AskNone : List What → Type 0
AskNone [] = ⊤
AskNone (what ∷ rest) = (is_arrival what ≡ false) × AskNone rest

rest_asks_none : (o : Opening) (es : List Event) (what : What) → AskNone (rest_of o es what)
unfolding rest_of
rest_asks_none o es (What.Do client op) = (refl, (refl, either (nat_eq (dones es + 1) ((issues es + 1) * o.shape.k))))
  where
    either : (t : Bool) → AskNone (cond t (What.Put (issues es + 1) None ∷ What.Ack (issues es + 1) ∷ []) [])
    either true = (refl, (refl, tt))
    either false = tt
rest_asks_none o es (What.A client op) = tt
rest_asks_none o es (What.Read fetch depth) = tt
rest_asks_none o es (What.Done fetch) = tt
rest_asks_none o es (What.Put version bucket) = tt
rest_asks_none o es (What.Ack version) = tt

pub parts_are_quiet : (o : Opening) (word : ℕ → ℕ) (ms : List Move) (es : List Event) (parts : List What) (later : List Move) (now : List Event) → AskNone parts
    → AreParts o word ms es parts later now → IsQuiet es now
unfolding AreParts
parts_are_quiet o word ms es [] later now none g = no_more es now g.1
parts_are_quiet o word ms es (what ∷ rest) later now none g =
    quiet_both es g.1 now (subst (λ l. IsQuiet l g.1) (asks_none word es what none.0) (part_is_quiet o word ms es what g.0 g.1 g.2)) (parts_are_quiet o word g.0 g.1 rest later now none.1 g.3)

-- a step adds its arrival, if it has one, and no other
pub step_is_quiet : (o : Opening) (word : ℕ → ℕ) (ms : List Move) (es : List Event) (what : What) (later : List Move) (now : List Event) → IsStep o word ms es what later now
    → IsQuiet (asked_behind word es what) now
unfolding IsStep AreParts
step_is_quiet o word ms es what later now g =
    quiet_both (asked_behind word es what) g.1 now (part_is_quiet o word ms es what g.0 g.1 g.2) (parts_are_quiet o word g.0 g.1 (rest_of o es what) later now (rest_asks_none o es what) g.3)

pub asked_count : (word : ℕ → ℕ) (es : List Event) (what : What) → arrived (asked_behind word es what) ≡ arrived es + cond (is_arrival (seen_step what)) 1 0
asked_count word es (What.Do client op) = refl
asked_count word es (What.A client op) = refl
asked_count word es (What.Read fetch depth) = omega arith
asked_count word es (What.Done fetch) = omega arith
asked_count word es (What.Put version bucket) = omega arith
asked_count word es (What.Ack version) = omega arith

pub leaves_behind : (o : Opening) (es now : List Event) (other : Opening) (others thus : List Event) → IsQuiet es now → IsQuiet others thus → FollowsLawfully o now → FollowsLawfully other thus
    → arrived es ≡ arrived others → LeavesAgree o es other others → LeavesAgree o now other thus
leaves_behind o es now other others thus q r f d as_many leaves i there =
    let known : i < arrived es = let same = as_many_arrived es now q in omega arith in
    (keeps_more o q.added es now q.split (earlier_follows o q.added es (subst (FollowsLawfully o) q.split f)) i known).1
    ∙ leaves i known
    ∙ sym (keeps_more other r.added others thus r.split (earlier_follows other r.added others (subst (FollowsLawfully other) r.split d)) i (omega arith)).1

part_not_full : (o : Opening) (word : ℕ → ℕ) (ms : List Move) (es : List Event) (what : What) (later : List Move) (now : List Event) → IsPart o word ms es what later now
    → is_full o es what ≡ false
unfolding IsPart moves_of GoOn Goes is_full
part_not_full o word ms es (What.Do client op) later now g = let low = g.1.1.0 in ne_eqb (arrived es) (session_limit o.shape) (λ same. omega arith)
part_not_full o word ms es (What.A client op) later now g = let low = g.1.1.0 in ne_eqb (arrived es) (session_limit o.shape) (λ same. omega arith)
part_not_full o word ms es (What.Read fetch depth) later now g = refl
part_not_full o word ms es (What.Done fetch) later now g = refl
part_not_full o word ms es (What.Put version bucket) later now g = refl
part_not_full o word ms es (What.Ack version) later now g = refl

part_placed : (o : Opening) (word : ℕ → ℕ) (ms : List Move) (es : List Event) (what : What) (later : List Move) (now : List Event) → IsPart o word ms es what later now
    → is_misplaced o ms es what ≡ false
unfolding IsPart
part_placed o word ms es what later now g = g.0

pub played_is_allowed : PlayedIsAllowed
unfolding IsStep AreParts
played_is_allowed o word ms es what later now g = (part_placed o word ms es what g.0 g.1 g.2, part_not_full o word ms es what g.0 g.1 g.2)

-- ---- two sessions go on

pub back_leaves : (o : Opening) (es now : List Event) (other : Opening) (others thus : List Event) → SeenSame es others → Keeps o es now → Keeps other others thus
    → LeavesAgree o now other thus → LeavesAgree o es other others
back_leaves o es now other others thus h k l leaves i there =
    let first = k i there in
    let as_many = h.arrived in
    sym first.1 ∙ leaves i first.0 ∙ (l i (omega arith)).1

-- two parts that differ only in operation and word
part_alike : (o : Opening) (word : ℕ → ℕ) (ms : List Move) (es : List Event) (what : What) (later : List Move) (now : List Event)
    (other : Opening) (words : ℕ → ℕ) (ns : List Move) (others : List Event) (which : What) (newer : List Move) (thus : List Event)
    → IsSession o ms es → IsSession other ns others → AreAlike o ms es other ns others → seen_step what ≡ seen_step which
    → IsPart o word ms es what later now → IsPart other words ns others which newer thus → map seen later ≡ map seen newer
unfolding IsPart
part_alike o word ms es what later now other words ns others which newer thus s t a same g k =
    ap (map seen) (go_moves o ms es (moves_of o ms es (word (arrived es)) what) later now g.1)
    ∙ seen_onto (moves_of o ms es (word (arrived es)) what) ms
    ∙ ap (onto (map seen (moves_of o ms es (word (arrived es)) what))) a.moves
    ∙ ap (λ l. onto l (map seen ns)) moves
    ∙ sym (seen_onto (moves_of other ns others (words (arrived others)) which) ns)
    ∙ sym (ap (map seen) (go_moves other ns others (moves_of other ns others (words (arrived others)) which) newer thus k.1))
  where
    moves : map seen (moves_of o ms es (word (arrived es)) what) ≡ map seen (moves_of other ns others (words (arrived others)) which)
    moves = moves_seen o ms es (word (arrived es)) what
        ∙ moves_same o ms es other ns others 0 (seen_step what) s t a (seen_facts o ms es other ns others s t a.shape a.moves) (misplaced_seen o ms es what ∙ g.0)
        ∙ ap (moves_of other ns others 0) same
        ∙ sym (moves_seen other ns others (words (arrived others)) which)

-- the same parts
pub parts_alike : (o : Opening) (word : ℕ → ℕ) (ms : List Move) (es : List Event) (parts : List What) (later : List Move) (now : List Event)
    (other : Opening) (words : ℕ → ℕ) (ns : List Move) (others : List Event) (newer : List Move) (thus : List Event)
    → IsSchedule o ms es → IsSchedule other ns others → FollowsLawfully o now → FollowsLawfully other thus → o.shape ≡ other.shape → map seen ms ≡ map seen ns
    → LeavesAgree o now other thus → AreParts o word ms es parts later now → AreParts other words ns others parts newer thus → map seen later ≡ map seen newer
unfolding AreParts
parts_alike o word ms es [] later now other words ns others newer thus s t f d shape moves leaves g k = ap (map seen) g.0 ∙ moves ∙ sym (ap (map seen) k.0)
parts_alike o word ms es (what ∷ rest) later now other words ns others newer thus s t f d shape moves leaves g k =
    let f_next = parts_lawful o word g.0 g.1 rest later now g.3 f in
    let d_next = parts_lawful other words k.0 k.1 rest newer thus k.3 d in
    let one : IsSession o ms es = record { schedule = s; follows = part_lawful o word ms es what g.0 g.1 g.2 f_next } in
    let two : IsSession other ns others = record { schedule = t; follows = part_lawful other words ns others what k.0 k.1 k.2 d_next } in
    let h = seen_facts o ms es other ns others one two shape moves in
    let here : LeavesAgree o es other others = back_leaves o es now other others thus h
    (keeps_both o es g.1 now (part_keep o word ms es what g.0 g.1 g.2 f_next) (parts_keep o word g.0 g.1 rest later now g.3 f))
    (keeps_both other others k.1 thus (part_keep other words ns others what k.0 k.1 k.2 d_next) (parts_keep other words k.0 k.1 rest newer thus k.3 d)) leaves in
    let alike : AreAlike o ms es other ns others = record { shape = shape; leaves = here; moves = moves } in
    parts_alike o word g.0 g.1 rest later now other words k.0 k.1 newer thus (part_schedule o word ms es what g.0 g.1 s g.2)
    (part_schedule other words ns others what k.0 k.1 t k.2) f d shape
    (part_alike o word ms es what g.0 g.1 other words ns others what k.0 k.1 one two alike refl g.2 k.2) leaves g.3 k.3

-- alike first parts and the same rest
step_alike : (o : Opening) (word : ℕ → ℕ) (ms : List Move) (es : List Event) (what : What) (rest : List What) (later : List Move) (now : List Event)
    (other : Opening) (words : ℕ → ℕ) (ns : List Move) (others : List Event) (which : What) (newer : List Move) (thus : List Event)
    → IsSession o ms es → IsSession other ns others → FollowsLawfully o now → FollowsLawfully other thus → AreAlike o ms es other ns others → seen_step what ≡ seen_step which
    → LeavesAgree o now other thus → AreParts o word ms es (what ∷ rest) later now → AreParts other words ns others (which ∷ rest) newer thus → map seen later ≡ map seen newer
unfolding AreParts
step_alike o word ms es what rest later now other words ns others which newer thus s t f d a same leaves g k =
    parts_alike o word g.0 g.1 rest later now other words k.0 k.1 newer thus (part_schedule o word ms es what g.0 g.1 s.schedule g.2)
    (part_schedule other words ns others which k.0 k.1 t.schedule k.2) f d a.shape
    (part_alike o word ms es what g.0 g.1 other words ns others which k.0 k.1 s t a same g.2 k.2) leaves g.3 k.3

-- if all arrivals after the step fetch the same leaves
leaves_go_on : (o : Opening) (word : ℕ → ℕ) (ms : List Move) (es : List Event) (what : What) (later : List Move) (now : List Event)
    (other : Opening) (words : ℕ → ℕ) (ns : List Move) (others : List Event) (which : What) (newer : List Move) (thus : List Event)
    → IsSchedule o ms es → IsSchedule other ns others → FollowsLawfully o now → FollowsLawfully other thus
    → AreAlike o ms es other ns others → seen_step what ≡ seen_step which → IsStep o word ms es what later now → IsStep other words ns others which newer thus
    → LeavesAgree o now other thus → AreAlike o later now other newer thus
unfolding IsStep
leaves_go_on o word ms es what later now other words ns others which newer thus s t f d a same g k leaves =
    let one : IsSession o ms es = record { schedule = s; follows = parts_lawful o word ms es (what ∷ rest_of o es what) later now g f } in
    let two : IsSession other ns others = record { schedule = t; follows = parts_lawful other words ns others (which ∷ rest_of other others which) newer thus k d } in
    let h = seen_facts o ms es other ns others one two a.shape a.moves in
    let rest : rest_of other others which ≡ rest_of o es what =
    sym (rest_seen other others which) ∙ ap (rest_of other others) (sym same) ∙ sym (rest_same o es other others (seen_step what) a.shape h) ∙ rest_seen o es what in
    record {
      shape = a.shape;
      leaves = leaves;
      moves = step_alike o word ms es what (rest_of o es what) later now other words ns others which newer thus one two f d a same leaves g
          (subst (λ l. AreParts other words ns others (which ∷ l) newer thus) rest k);
    }

pub alike_go_on : AlikeGoOn
alike_go_on o word ms es what later now other words ns others which newer thus s t f d a same g k leaves =
    leaves_go_on o word ms es what later now other words ns others which newer thus s t f d a same g k
    (leaves_behind o (asked_behind word es what) now other (asked_behind words others which) thus (step_is_quiet o word ms es what later now g)
    (step_is_quiet other words ns others which newer thus k) f d as_many leaves)
  where
    one : IsSession o ms es
    one = record { schedule = s; follows = step_lawful o word ms es what later now g f }

    two : IsSession other ns others
    two = record { schedule = t; follows = step_lawful other words ns others which newer thus k d }

    h : SeenSame es others
    h = seen_facts o ms es other ns others one two a.shape a.moves

    as_many : arrived (asked_behind word es what) ≡ arrived (asked_behind words others which)
    as_many = asked_count word es what ∙ ap (λ n. n + cond (is_arrival (seen_step what)) 1 0) h.arrived ∙ ap (λ x. arrived others + cond (is_arrival x) 1 0) same
        ∙ sym (asked_count words others which)

-- ---- one script

ops_bare : (es : List Event) → ops (bare es) ≡ ops es
ops_bare [] = refl
ops_bare (Arrive client op word ∷ es) = rw (ops_bare es) refl
ops_bare (Done arrival taken ∷ es) = ops_bare es
ops_bare (Issue version nonce buckets ∷ es) = ops_bare es
ops_bare (Acked version ∷ es) = ops_bare es
ops_bare (Fault cause ∷ es) = ops_bare es

word_bare : (es : List Event) (i : ℕ) → word_of (bare es) i ≡ word_of es i
word_bare [] i = refl
word_bare (Arrive client op word ∷ es) i = rw (arrived_bare es, word_bare es i) refl
word_bare (Done arrival taken ∷ es) i = word_bare es i
word_bare (Issue version nonce buckets ∷ es) i = word_bare es i
word_bare (Acked version ∷ es) i = word_bare es i
word_bare (Fault cause ∷ es) i = word_bare es i

-- records that differ only in contents fetch the same leaves
bare_leaf : (o : Opening) (es : List Event) (other : Opening) (others : List Event) → o.shape ≡ other.shape → o.words ≡ other.words → bare es ≡ bare others → (i : ℕ)
    → fetched_leaf o es i ≡ fetched_leaf other others i
bare_leaf o es other others shape words same i =
    ap (λ place. leaf_of o.shape.l (word_at o es place)) used ∙ words_same (word_used other others i)
  where
    steps : steps_of es ≡ steps_of others
    steps = sym (steps_bare es) ∙ ap steps_of same ∙ steps_bare others

    operations : ops es ≡ ops others
    operations = sym (ops_bare es) ∙ ap ops same ∙ ops_bare others

    first : History
    first = record { opening = o; events = reverse es }

    second : History
    second = record { opening = other; events = reverse others }

    one : IsOneShape first second
    one = record { parameters = shape; steps = same_steps es others steps }

    used : word_used o es i ≡ word_used other others i
    used = ap (λ l. word_used o l i) (sym (reverse-reverse es))
        ∙ (kinds_need_no_word first second one (picked_back op_of es ∙ ap reverse operations ∙ sym (picked_back op_of others))).used i
        ∙ ap (λ l. word_used other l i) (reverse-reverse others)

    words_same : (place : ℕ) → leaf_of o.shape.l (word_at o es place) ≡ leaf_of other.shape.l (word_at other others place)
    words_same place = rw (shape, words, sym (word_bare es (place - other.shape.n)) ∙ ap (λ l. word_of l (place - other.shape.n)) same ∙ word_bare others (place - other.shape.n)) refl

exact_alike : (o : Opening) (ms : List Move) (es : List Event) (other : Opening) (ns : List Move) (others : List Event) → IsSession o ms es → IsSession other ns others
    → o.shape ≡ other.shape → o.words ≡ other.words → ms ≡ ns → AreAlike o ms es other ns others
exact_alike o ms es other ns others s t shape words same = record {
  shape = shape;
  leaves = λ i there. bare_leaf o es other others shape words
      (bare_is_told o ms es s.schedule s.follows ∙ ap (λ x. told x ms) shape ∙ ap (told other.shape) same ∙ sym (bare_is_told other ns others t.schedule t.follows)) i;
  moves = ap (map seen) same;
}

part_exact : (o : Opening) (word : ℕ → ℕ) (ms : List Move) (es : List Event) (what : What) (later : List Move) (now : List Event)
    (other : Opening) (ns : List Move) (others : List Event) (newer : List Move) (thus : List Event)
    → IsSession o ms es → IsSession other ns others → o.shape ≡ other.shape → o.words ≡ other.words → ms ≡ ns
    → IsPart o word ms es what later now → IsPart other word ns others what newer thus → later ≡ newer
unfolding IsPart
part_exact o word ms es what later now other ns others newer thus s t shape words same g k =
    go_moves o ms es (moves_of o ms es (word (arrived es)) what) later now g.1
    ∙ ap (onto (moves_of o ms es (word (arrived es)) what)) same
    ∙ ap (λ l. onto l ns) (moves_same o ms es other ns others (word (arrived es)) what s t alike h g.0 ∙ ap (λ n. moves_of other ns others (word n) what) h.arrived)
    ∙ sym (go_moves other ns others (moves_of other ns others (word (arrived others)) what) newer thus k.1)
  where
    alike : AreAlike o ms es other ns others
    alike = exact_alike o ms es other ns others s t shape words same

    h : SeenSame es others
    h = seen_facts o ms es other ns others s t shape alike.moves

parts_exact : (o : Opening) (word : ℕ → ℕ) (ms : List Move) (es : List Event) (parts : List What) (later : List Move) (now : List Event)
    (other : Opening) (ns : List Move) (others : List Event) (newer : List Move) (thus : List Event)
    → IsSchedule o ms es → IsSchedule other ns others → FollowsLawfully o now → FollowsLawfully other thus → o.shape ≡ other.shape → o.words ≡ other.words → ms ≡ ns
    → AreParts o word ms es parts later now → AreParts other word ns others parts newer thus → later ≡ newer
unfolding AreParts
parts_exact o word ms es [] later now other ns others newer thus s t f d shape words same g k = g.0 ∙ same ∙ sym k.0
parts_exact o word ms es (what ∷ rest) later now other ns others newer thus s t f d shape words same g k =
    let one : IsSession o ms es = record { schedule = s; follows = part_lawful o word ms es what g.0 g.1 g.2 (parts_lawful o word g.0 g.1 rest later now g.3 f) } in
    let two : IsSession other ns others = record { schedule = t; follows = part_lawful other word ns others what k.0 k.1 k.2 (parts_lawful other word k.0 k.1 rest newer thus k.3 d) } in
    parts_exact o word g.0 g.1 rest later now other k.0 k.1 newer thus (part_schedule o word ms es what g.0 g.1 s g.2) (part_schedule other word ns others what k.0 k.1 t k.2) f d shape words
    (part_exact o word ms es what g.0 g.1 other ns others k.0 k.1 one two shape words same g.2 k.2) g.3 k.3

pub played_schedule : (o : Opening) (word : ℕ → ℕ) (steps : List What) (ms : List Move) (es : List Event) → ArePlayed o word steps ms es → IsSchedule o ms es
unfolding ArePlayed IsStep IsSchedule
played_schedule o word [] ms es p = subst (λ l. IsSchedule o l es) (sym p.0) p.1
played_schedule o word (what ∷ steps) ms es p =
    parts_schedule o word p.0 p.1 (what ∷ rest_of o p.1 what) ms es (played_schedule o word steps p.0 p.1 p.2) p.3

same_moves : (o : Opening) (word : ℕ → ℕ) (steps : List What) (ms : List Move) (es : List Event) (other : Opening) (ns : List Move) (others : List Event)
    → o.shape ≡ other.shape → o.words ≡ other.words → FollowsLawfully o es → FollowsLawfully other others
    → ArePlayed o word steps ms es → ArePlayed other word steps ns others → ms ≡ ns
unfolding ArePlayed IsStep
same_moves o word [] ms es other ns others shape words f d p q = p.0 ∙ sym q.0
same_moves o word (what ∷ steps) ms es other ns others shape words f d p q =
    let f_before = parts_lawful o word p.0 p.1 (what ∷ rest_of o p.1 what) ms es p.3 f in
    let d_before = parts_lawful other word q.0 q.1 (what ∷ rest_of other q.1 what) ns others q.3 d in
    let earlier : p.0 ≡ q.0 = same_moves o word steps p.0 p.1 other q.0 q.1 shape words f_before d_before p.2 q.2 in
    let s : IsSession o p.0 p.1 = record { schedule = played_schedule o word steps p.0 p.1 p.2; follows = f_before } in
    let t : IsSession other q.0 q.1 = record { schedule = played_schedule other word steps q.0 q.1 q.2; follows = d_before } in
    let h = seen_facts o p.0 p.1 other q.0 q.1 s t shape (ap (map seen) earlier) in
    parts_exact o word p.0 p.1 (what ∷ rest_of o p.1 what) ms es other q.0 q.1 ns others s.schedule t.schedule f d shape words earlier p.3
    (subst (λ l. AreParts other word q.0 q.1 (what ∷ l) ns others) (sym (rest_same o p.1 other q.1 what shape h)) q.3)

pub one_schedule : OneSchedule
one_schedule o word steps ms es other ns others shape words f d p q =
    let same = same_moves o word steps ms es other ns others shape words f d p q in (
      same,
      exact_alike o ms es other ns others (record { schedule = played_schedule o word steps ms es p; follows = f })
          (record { schedule = played_schedule other word steps ns others q; follows = d }) shape words same,
    )

-- ---- prefixes

pub asked_front : (word : ℕ → ℕ) (es : List Event) (what : What) → (front : List Event) × (asked_behind word es what ≡ front ++ es)
asked_front word es (What.Do client op) = (Arrive client op (word (arrived es)) ∷ [], refl)
asked_front word es (What.A client op) = (Arrive client op (word (arrived es)) ∷ [], refl)
asked_front word es (What.Read fetch depth) = ([], refl)
asked_front word es (What.Done fetch) = ([], refl)
asked_front word es (What.Put version bucket) = ([], refl)
asked_front word es (What.Ack version) = ([], refl)

-- a step adds its events at the front of the list
step_front : (o : Opening) (word : ℕ → ℕ) (ms : List Move) (es : List Event) (what : What) (later : List Move) (now : List Event) → IsStep o word ms es what later now
    → (front : List Event) × (now ≡ front ++ es)
step_front o word ms es what later now g =
    let quiet = step_is_quiet o word ms es what later now g in
    let front = asked_front word es what in
    (quiet.added ++ front.0, quiet.split ∙ ap (λ l. quiet.added ++ l) front.1 ∙ sym (append_assoc quiet.added front.0 es))

pub played_front : PlayedFront
unfolding ArePlayed
played_front o word [] steps ms es p = record { moves = ms; events = es; later = []; played = p; split = refl }
played_front o word (what ∷ rest) steps ms es p =
    let h = played_front o word rest steps p.0 p.1 p.2 in
    let front = step_front o word p.0 p.1 what ms es p.3 in
    record {
      moves = h.moves;
      events = h.events;
      later = front.0 ++ h.later;
      played = h.played;
      split = front.1 ∙ ap (λ l. front.0 ++ l) h.split ∙ sym (append_assoc front.0 h.later h.events);
    }

never_played : (o : Opening) (word : ℕ → ℕ) (steps : List What) (what : What) (ms : List Move) (es : List Event) (other : Opening) (ns : List Move) (others : List Event)
    → o.shape ≡ other.shape → o.words ≡ other.words → FollowsLawfully o es → FollowsLawfully other others
    → ArePlayed o word steps ms es → (is_misplaced o ms es what || is_full o es what) ≡ true → ArePlayed other word (what ∷ steps) ns others → ⊥
unfolding ArePlayed
never_played o word steps what ms es other ns others shape words f d p bad q =
    let d_before = step_lawful other word q.0 q.1 what ns others q.3 d in
    let same = one_schedule o word steps ms es other q.0 q.1 shape words f d_before p q.2 in
    let s : IsSession o ms es = record { schedule = played_schedule o word steps ms es p; follows = f } in
    let t : IsSession other q.0 q.1 = record { schedule = played_schedule other word steps q.0 q.1 q.2; follows = d_before } in
    let tests = alike_tests o ms es other q.0 q.1 what s t same.1 in
    let allowed = played_is_allowed other word q.0 q.1 what ns others q.3 in
    true≢false (sym bad ∙ or_from (is_misplaced o ms es what) (is_full o es what) (tests.misplaced ∙ allowed.0) (tests.full ∙ allowed.1))

pub misplaced_stays : MisplacedStays
misplaced_stays o word rest steps what ms es other ns others shape words f d p bad q =
    let front = played_front other word rest (what ∷ steps) ns others q in
    never_played o word steps what ms es other front.moves front.events shape words f (earlier_follows other front.later front.events (subst (FollowsLawfully other) front.split d)) p bad front.played

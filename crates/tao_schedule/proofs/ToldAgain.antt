-- A session replayed with other operations: the second session plays it. Events, moves and steps are newest first.
use Rattle.std.proofs.Common.{◌≡◌, ℕ, false, ◌+◌, ◌-◌, ◌<◌, ◌≤◌, cond, List, [], ◌∷◌, ◌++◌, map, reverse, refl, sym, ap, ◌∙◌, subst, arith, inl, inr, ◌⊎◌}
use Rattle.std.proofs.lemmas.Bool.{cases_lt, eq-eqb, lt-ltb, le-ltb}
use Rattle.std.proofs.lemmas.List.{reverse-reverse, append_assoc}
use Rattle.tao_base.specs.declared.calls.Op.{Op}
use Rattle.tao_base.specs.declared.session.Event.{Event}
use Rattle.tao_base.specs.declared.session.Event.TheVariants.{Arrive, Done, Issue, Acked, Fault}
use Rattle.tao_base.specs.Session.{Opening, History}
use Rattle.tao_base.specs.Tree.{leaf_of}
use Rattle.tao_model.specs.Events.{arrived, word_at}
use Rattle.tao_model.specs.Requests.{fetched_leaf, word_used}
use Rattle.tao_model.specs.Lawful.{FollowsLawfully}
use Rattle.tao_model.specs.Shapes.{steps_of, IsOneShape, HasMovedWords, twin_permutation}
use Rattle.tao_model.proofs.Stays.{used_stays, place_stays}
use Rattle.tao_model.proofs.Places.{arrived_grows, place_stays_later, stays_later}
use Rattle.tao_model.proofs.LawfulToWhole.{earlier_follows}
use Rattle.tao_laws.specs.TapeWords.{AreInRange}
use Rattle.tao_laws.specs.TwoPlays.{LeavesAgree}
use Rattle.tao_laws.specs.Retold.{retold, retold_place}
use Rattle.tao_laws.proofs.RetoldPlaces.{steps_retold, arrived_retold, same_count, used_told, retold_is_twin}
use Rattle.tao_laws.proofs.EqualPlays.{leaves_tell_traces}
use Rattle.tao_laws.proofs.DistinctPlaces.{in_range, distinct_from, known_from}
use Rattle.tao_laws.proofs.KindsAlone.{same_steps}
use Rattle.tao_laws.proofs.Permutations.{permutation_is_one_to_one}
use Rattle.tao_text.specs.declared.script.What.{What}
use Rattle.tao_text.specs.Breaks.{is_arrival}
use Rattle.tao_schedule.specs.Moves.{Move, seen}
use Rattle.tao_schedule.specs.Steps.{is_misplaced, is_full, seen_step, asked_behind, IsStep, ArePlayed}
use Rattle.tao_schedule.specs.Alike.{IsSession, AreAlike}
use Rattle.tao_schedule.specs.Twins.{IsTwinTape, IsTold, TwinLeaves, arrivals_in, with_op, retold_steps, TakesTape, TwinIsAlike, TwinMeetsNoFault, TwinsLookAlike}
use Rattle.tao_schedule.specs.Drains.{IsDrainAlike}
use Rattle.tao_schedule.specs.Schedules.{IsSchedule}
use Rattle.tao_schedule.proofs.DrainedSessions.{drain_goes_on, drain_is_quiet, drains_alike}
use Rattle.tao_schedule.proofs.AlikeSessions.{asked_front, played_front, AreQuiet, IsQuiet, quiet_arrived, as_many_arrived, step_is_quiet, step_lawful, played_schedule, alike_steps, alike_tests, alike_go_on, played_is_allowed, tests_need_no_op}

-- ---- a replayed prefix

used_front : (f : ℕ → Op) (o : Opening) (later es : List Event) (i : ℕ) → i < arrived es → word_used o (retold f (later ++ es)) i ≡ word_used o (retold f es) i
used_front f o [] es i h = refl
used_front f o (Arrive client op word ∷ later) es i h =
    let grown = arrived_grows later es in
    let same = arrived_retold f (later ++ es) in
    used_stays o (retold f (later ++ es)) (Arrive client (f (arrived (later ++ es))) word) i (omega arith) ∙ used_front f o later es i h
used_front f o (Done arrival taken ∷ later) es i h = used_front f o later es i h
used_front f o (Issue version nonce buckets ∷ later) es i h = used_front f o later es i h
used_front f o (Acked version ∷ later) es i h = used_front f o later es i h
used_front f o (Fault cause ∷ later) es i h = used_front f o later es i h

range_front : (f : ℕ → Op) (o : Opening) (later es : List Event) → AreInRange o (retold f (later ++ es)) → AreInRange o (retold f es)
range_front f o [] es r = r
range_front f o (Arrive client op word ∷ later) es r = range_front f o later es r.0
range_front f o (Done arrival taken ∷ later) es r = range_front f o later es r
range_front f o (Issue version nonce buckets ∷ later) es r = range_front f o later es r
range_front f o (Acked version ∷ later) es r = range_front f o later es r
range_front f o (Fault cause ∷ later) es r = range_front f o later es r

abbrev MovesUsed : Opening → List Event → List Event → Type 0
MovesUsed o es others = (i : ℕ) → i < arrived es → twin_permutation o es o others (word_used o es i) ≡ word_used o others i

moves_used : (f : ℕ → Op) (o : Opening) (es : List Event) → AreInRange o es → AreInRange o (retold f es) → MovesUsed o es (retold f es)
moves_used f o es r q =
    subst (λ l. MovesUsed o l (retold f es)) (reverse-reverse es) (subst (λ l. MovesUsed o (reverse (reverse es)) l) (reverse-reverse (retold f es)) twin)
  where
    twin : MovesUsed o (reverse (reverse es)) (reverse (reverse (retold f es)))
    twin = (permutation_is_one_to_one (record { opening = o; events = reverse es }) (record { opening = o; events = reverse (retold f es) })
        (subst (AreInRange o) (sym (reverse-reverse es)) r) (subst (AreInRange o) (sym (reverse-reverse (retold f es))) q)
        (record { parameters = refl; steps = same_steps es (retold f es) (sym (steps_retold f es)) })).used

abbrev GoesWithin : Opening → List Event → Opening → List Event → Type 0
GoesWithin o es other others = (place : ℕ) → place < o.shape.n + arrived es → twin_permutation o es other others place < o.shape.n + arrived es

places_within : (o : Opening) (es : List Event) (other : Opening) (others : List Event) → AreInRange o es → AreInRange other others → o.shape ≡ other.shape
    → steps_of es ≡ steps_of others → GoesWithin o es other others
places_within o es other others r q shape steps =
    subst (λ l. GoesWithin o l other others) (reverse-reverse es) (subst (λ l. GoesWithin o (reverse (reverse es)) other l) (reverse-reverse others) twin)
  where
    twin : GoesWithin o (reverse (reverse es)) other (reverse (reverse others))
    twin = (permutation_is_one_to_one (record { opening = o; events = reverse es }) (record { opening = other; events = reverse others })
        (subst (AreInRange o) (sym (reverse-reverse es)) r) (subst (AreInRange other) (sym (reverse-reverse others)) q)
        (record { parameters = shape; steps = same_steps es others steps })).one_to_one.within

pub twin_leaves : TwinLeaves
twin_leaves f tape o later es other others lawful t shape steps told i there =
    ap (leaf_of o.shape.l) (word_there ∙ ap (λ place. word_at o (later ++ es) place) (sym used) ∙ sym (t.moved (word_used o (later ++ es) i) low)
    ∙ ap tape goes ∙ sym (told.words (word_used other others i) high))
    ∙ ap (λ s. leaf_of s.l (word_at other others (word_used other others i))) shape
  where
    front : FollowsLawfully o es
    front = earlier_follows o later es lawful

    used : word_used o (later ++ es) i ≡ word_used o es i
    used = stays_later (λ l. word_used o l i) (i + 1) (λ l e k. used_stays o l e i (omega arith)) later es (omega arith)

    below : word_used o es i < o.shape.n + arrived es
    below = (distinct_from o es (in_range o es front)).used_below i there

    low : word_used o (later ++ es) i < o.shape.n + arrived (later ++ es)
    low = let grown = arrived_grows later es in omega (arith, used, below)

    word_there : word_at o es (word_used o es i) ≡ word_at o (later ++ es) (word_used o es i)
    word_there = sym (place_stays_later o later es (word_used o es i) below)

    goes : retold_place f o (later ++ es) (word_used o (later ++ es) i) ≡ word_used other others i
    goes = let grown = arrived_grows later es in
        moves_used f o (later ++ es) (in_range o (later ++ es) lawful) t.in_range i (omega arith) ∙ used_front f o later es i there ∙ used_told f o es other others shape steps told.asked i

    high : word_used other others i < other.shape.n + arrived others
    high =
        let known = known_from o (retold f es) i (range_front f o later es t.in_range) (let same = arrived_retold f es in omega arith) in
        let is = used_told f o es other others shape steps told.asked i in
        let as_many = same_count es others steps in
        let blocks : o.shape.n ≡ other.shape.n = ap (λ s. s.n) shape in
        omega arith

-- ---- the second session has the operations and the words

retold_quiet : (f : ℕ → Op) (added es : List Event) → AreQuiet added → retold f es ≡ es → retold f (added ++ es) ≡ added ++ es
retold_quiet f [] es q h = h
retold_quiet f (Arrive client op word ∷ added) es q h = absurd q
retold_quiet f (Done arrival taken ∷ added) es q h = ap (λ l. Done arrival taken ∷ l) (retold_quiet f added es q h)
retold_quiet f (Issue version nonce buckets ∷ added) es q h = ap (λ l. Issue version nonce buckets ∷ l) (retold_quiet f added es q h)
retold_quiet f (Acked version ∷ added) es q h = ap (λ l. Acked version ∷ l) (retold_quiet f added es q h)
retold_quiet f (Fault cause ∷ added) es q h = ap (λ l. Fault cause ∷ l) (retold_quiet f added es q h)

told_quiet : (f : ℕ → Op) (tape : ℕ → ℕ) (o : Opening) (es now : List Event) → IsQuiet es now → IsTold f tape o es → IsTold f tape o now
told_quiet f tape o es now q t = subst (IsTold f tape o) (sym q.split) (record {
  asked = retold_quiet f q.added es q.quiet t.asked;
  words = λ place low. let as_many = quiet_arrived q.added es q.quiet in
      place_stays_later o q.added es place (omega arith) ∙ t.words place (omega arith);
})

told_arrive : (f : ℕ → Op) (tape : ℕ → ℕ) (o : Opening) (word : ℕ → ℕ) (es : List Event) (client n : ℕ) → arrived es ≡ n → TakesTape tape o word → IsTold f tape o es
    → IsTold f tape o (Arrive client (f n) (word (arrived es)) ∷ es)
told_arrive f tape o word es client n is takes t = record {
  asked = ap (λ k. Arrive client (f k) (word (arrived es)) ∷ retold f es) is ∙ ap (λ l. Arrive client (f n) (word (arrived es)) ∷ l) t.asked;
  words = λ place low. either place low (cases_lt place (o.shape.n + arrived es));
}
  where
    either : (place : ℕ) → place < o.shape.n + (arrived es + 1) → (place < o.shape.n + arrived es) ⊎ (o.shape.n + arrived es ≤ place)
        → word_at o (Arrive client (f n) (word (arrived es)) ∷ es) place ≡ tape place
    either place low (inl older) = place_stays o es (Arrive client (f n) (word (arrived es))) place older ∙ t.words place older
    either place low (inr newest) =
        let at : place ≡ o.shape.n + arrived es = omega arith in
        rw (le-ltb place o.shape.n (omega arith), eq-eqb (place - o.shape.n) (arrived es) (omega arith)) (takes.next (arrived es) ∙ ap tape (sym at))

told_asked : (f : ℕ → Op) (tape : ℕ → ℕ) (o : Opening) (word : ℕ → ℕ) (es : List Event) (what : What) (n : ℕ) → arrived es ≡ n → TakesTape tape o word → IsTold f tape o es
    → IsTold f tape o (asked_behind word es (with_op (f n) what))
told_asked f tape o word es (What.Do client op) n is takes t = told_arrive f tape o word es client n is takes t
told_asked f tape o word es (What.A client op) n is takes t = told_arrive f tape o word es client n is takes t
told_asked f tape o word es (What.Read fetch depth) n is takes t = t
told_asked f tape o word es (What.Done fetch) n is takes t = t
told_asked f tape o word es (What.Put version bucket) n is takes t = t
told_asked f tape o word es (What.Ack version) n is takes t = t

told_none : (f : ℕ → Op) (tape : ℕ → ℕ) (o : Opening) (word : ℕ → ℕ) → TakesTape tape o word → IsTold f tape o []
told_none f tape o word takes = record { asked = refl; words = λ place low. rw (lt-ltb place o.shape.n (omega arith)) (takes.first place (omega arith)) }

asked_many : (word : ℕ → ℕ) (es : List Event) (what : What) (x : Op) → arrived (asked_behind word es (with_op x what)) ≡ cond (is_arrival what) (arrived es + 1) (arrived es)
asked_many word es (What.Do client op) x = refl
asked_many word es (What.A client op) x = refl
asked_many word es (What.Read fetch depth) x = refl
asked_many word es (What.Done fetch) x = refl
asked_many word es (What.Put version bucket) x = refl
asked_many word es (What.Ack version) x = refl

played_many : (f : ℕ → Op) (o : Opening) (word : ℕ → ℕ) (steps : List What) (ms : List Move) (es : List Event) → ArePlayed o word (retold_steps f steps) ms es → arrived es ≡ arrivals_in steps
unfolding ArePlayed
played_many f o word [] ms es p = ap arrived p.1
played_many f o word (what ∷ steps) ms es p =
    as_many_arrived (asked_behind word p.1 (with_op (f (arrivals_in steps)) what)) es (step_is_quiet o word p.0 p.1 (with_op (f (arrivals_in steps)) what) ms es p.3)
    ∙ asked_many word p.1 what (f (arrivals_in steps)) ∙ ap (λ n. cond (is_arrival what) (n + 1) n) (played_many f o word steps p.0 p.1 p.2)

pub played_told : (f : ℕ → Op) (tape : ℕ → ℕ) (o : Opening) (word : ℕ → ℕ) (steps : List What) (ms : List Move) (es : List Event) → TakesTape tape o word
    → ArePlayed o word (retold_steps f steps) ms es → IsTold f tape o es
unfolding ArePlayed
played_told f tape o word [] ms es takes p = subst (IsTold f tape o) (sym p.1) (told_none f tape o word takes)
played_told f tape o word (what ∷ steps) ms es takes p =
    told_quiet f tape o (asked_behind word p.1 (with_op (f (arrivals_in steps)) what)) es (step_is_quiet o word p.0 p.1 (with_op (f (arrivals_in steps)) what) ms es p.3)
    (told_asked f tape o word p.1 what (arrivals_in steps) (played_many f o word steps p.0 p.1 p.2) takes (played_told f tape o word steps p.0 p.1 takes p.2))

-- ---- the two sessions side by side

seen_with_op : (x : Op) (what : What) → seen_step what ≡ seen_step (with_op x what)
seen_with_op x (What.Do client op) = refl
seen_with_op x (What.A client op) = refl
seen_with_op x (What.Read fetch depth) = refl
seen_with_op x (What.Done fetch) = refl
seen_with_op x (What.Put version bucket) = refl
seen_with_op x (What.Ack version) = refl

asked_steps : (word words : ℕ → ℕ) (es others : List Event) (x : Op) (what : What) → steps_of es ≡ steps_of others
    → steps_of (asked_behind word es what) ≡ steps_of (asked_behind words others (with_op x what))
asked_steps word words es others x (What.Do client op) steps = rw steps refl
asked_steps word words es others x (What.A client op) steps = rw steps refl
asked_steps word words es others x (What.Read fetch depth) steps = steps
asked_steps word words es others x (What.Done fetch) steps = steps
asked_steps word words es others x (What.Put version bucket) steps = steps
asked_steps word words es others x (What.Ack version) steps = steps

none_alike : (o : Opening) (ms : List Move) (es : List Event) (other : Opening) (ns : List Move) (others : List Event) → o.shape ≡ other.shape → ms ≡ [] → es ≡ [] → ns ≡ []
    → AreAlike o ms es other ns others
none_alike o ms es other ns others shape m e n = record {
  shape = shape;
  leaves = λ i there. let none : arrived es ≡ 0 = ap arrived e in absurd (omega arith);
  moves = ap (map seen) (m ∙ sym n);
}

-- the second session's next step, if the first has played it
record IsNext (f : ℕ → Op) (tape : ℕ → ℕ) (o : Opening) (word : ℕ → ℕ) (before : List Event) (what : What) (whole es : List Event) : Type 0 where
  asked_in : (more : List Event) × (whole ≡ more ++ asked_behind word before what)
  before_in : (more : List Event) × (whole ≡ more ++ before)

is_next : (f : ℕ → Op) (tape : ℕ → ℕ) (o : Opening) (word : ℕ → ℕ) (ms : List Move) (before : List Event) (what : What) (later : List Move) (es : List Event) (whole more : List Event)
    → IsStep o word ms before what later es → whole ≡ more ++ es → IsNext f tape o word before what whole es
is_next f tape o word ms before what later es whole more g split = record {
  asked_in = (more ++ quiet.added, split_asked);
  before_in = ((more ++ quiet.added) ++ front.0, split_asked ∙ ap (λ l. (more ++ quiet.added) ++ l) front.1 ∙ sym (append_assoc (more ++ quiet.added) front.0 before));
}
  where
    quiet : IsQuiet (asked_behind word before what) es
    quiet = step_is_quiet o word ms before what later es g

    split_asked : whole ≡ (more ++ quiet.added) ++ asked_behind word before what
    split_asked = split ∙ ap (λ l. more ++ l) quiet.split ∙ sym (append_assoc more quiet.added (asked_behind word before what))

    front : (front : List Event) × (asked_behind word before what ≡ front ++ before)
    front = asked_front word before what

twin_from : (f : ℕ → Op) (tape : ℕ → ℕ) (o : Opening) (word : ℕ → ℕ) (steps : List What) (ms : List Move) (whole later es : List Event)
    (other : Opening) (words : ℕ → ℕ) (ns : List Move) (others : List Event)
    → whole ≡ later ++ es → FollowsLawfully o whole → IsTwinTape f tape o whole → o.shape ≡ other.shape → TakesTape tape other words → FollowsLawfully other others
    → ArePlayed o word steps ms es → ArePlayed other words (retold_steps f steps) ns others → AreAlike o ms es other ns others
unfolding ArePlayed
twin_from f tape o word [] ms whole later es other words ns others split lawful t shape takes d p q = none_alike o ms es other ns others shape p.0 p.1 q.0
twin_from f tape o word (what ∷ steps) ms whole later es other words ns others split lawful t shape takes d p q =
    let x = f (arrivals_in steps) in
    let lawful_now = earlier_follows o later es (subst (FollowsLawfully o) split lawful) in
    let next = is_next f tape o word p.0 p.1 what ms es whole later p.3 split in
    let more = next.asked_in in
    let front = next.before_in in
    let d_before = step_lawful other words q.0 q.1 (with_op x what) ns others q.3 d in
    let s : IsSession o p.0 p.1 = record { schedule = played_schedule o word steps p.0 p.1 p.2; follows = step_lawful o word p.0 p.1 what ms es p.3 lawful_now } in
    let u : IsSession other q.0 q.1 = record { schedule = played_schedule other words (retold_steps f steps) q.0 q.1 q.2; follows = d_before } in
    let before : AreAlike o p.0 p.1 other q.0 q.1 = twin_from f tape o word steps p.0 whole front.0 p.1 other words q.0 q.1 front.1 lawful t shape takes d_before p.2 q.2 in
    alike_go_on o word p.0 p.1 what ms es other words q.0 q.1 (with_op x what) ns others s.schedule u.schedule lawful_now d before (seen_with_op x what) p.3 q.3
    (twin_leaves f tape o more.0 (asked_behind word p.1 what) other (asked_behind words q.1 (with_op x what)) (subst (FollowsLawfully o) more.1 lawful)
    (subst (IsTwinTape f tape o) more.1 t) shape (asked_steps word words p.1 q.1 x what (alike_steps o p.0 p.1 other q.0 q.1 s u before))
    (told_asked f tape other words q.1 what (arrivals_in steps) (played_many f other words steps q.0 q.1 q.2) takes (played_told f tape other words steps q.0 q.1 takes q.2)))

pub twin_is_alike : TwinIsAlike
twin_is_alike f tape o word steps ms later es other words ns others lawful t shape takes d p q =
    twin_from f tape o word steps ms (later ++ es) later es other words ns others refl lawful t shape takes d p q

next_is_allowed : (f : ℕ → Op) (tape : ℕ → ℕ) (o : Opening) (word : ℕ → ℕ) (what : What) (steps : List What) (ms : List Move) (later es : List Event)
    (other : Opening) (words : ℕ → ℕ) (ns : List Move) (others : List Event)
    → FollowsLawfully o (later ++ es) → IsTwinTape f tape o (later ++ es) → o.shape ≡ other.shape → TakesTape tape other words → FollowsLawfully other others
    → ArePlayed o word (what ∷ steps) ms es → ArePlayed other words (retold_steps f steps) ns others
    → (is_misplaced other ns others (with_op (f (arrivals_in steps)) what) ≡ false) × (is_full other others (with_op (f (arrivals_in steps)) what) ≡ false)
unfolding ArePlayed
next_is_allowed f tape o word what steps ms later es other words ns others lawful t shape takes d p q =
    let lawful_now = earlier_follows o later es lawful in
    let next = is_next f tape o word p.0 p.1 what ms es (later ++ es) later p.3 refl in
    let front = next.before_in in
    let before = twin_from f tape o word steps p.0 (later ++ es) front.0 p.1 other words ns others front.1 lawful t shape takes d p.2 q in
    let s : IsSession o p.0 p.1 = record { schedule = played_schedule o word steps p.0 p.1 p.2; follows = step_lawful o word p.0 p.1 what ms es p.3 lawful_now } in
    let u : IsSession other ns others = record { schedule = played_schedule other words (retold_steps f steps) ns others q; follows = d } in
    let x = f (arrivals_in steps) in
    let tests = alike_tests o p.0 p.1 other ns others (seen_step what) s u before in
    let allowed = played_is_allowed o word p.0 p.1 what ms es p.3 in
    let first = tests_need_no_op o p.0 p.1 what in
    let second = tests_need_no_op other ns others (with_op x what) in (
      sym second.0 ∙ ap (is_misplaced other ns others) (sym (seen_with_op x what)) ∙ sym tests.misplaced ∙ first.0 ∙ allowed.0,
      sym second.1 ∙ ap (is_full other others) (sym (seen_with_op x what)) ∙ sym tests.full ∙ first.1 ∙ allowed.1,
    )

pub twin_meets_no_fault : TwinMeetsNoFault
twin_meets_no_fault f tape o word rest what steps ms later es other words ns others lawful t shape takes d p q =
    let front = played_front o word rest (what ∷ steps) ms es p in
    let split : later ++ es ≡ (later ++ front.later) ++ front.events = ap (λ l. later ++ l) front.split ∙ sym (append_assoc later front.later front.events) in
    next_is_allowed f tape o word what steps front.moves (later ++ front.later) front.events other words ns others (subst (FollowsLawfully o) split lawful)
    (subst (IsTwinTape f tape o) split t) shape takes d front.played q

pub twins_look_alike : TwinsLookAlike
twins_look_alike f tape o word steps ms es again later now other words ns others too newer thus lawful t shape takes d p g q k = record {
  again_same = drained.versions;
  one_shape = one;
  moved = moved;
  traces = leaves_tell_traces first second (subst (FollowsLawfully o) (sym (reverse-reverse now)) lawful) (subst (FollowsLawfully other) (sym (reverse-reverse thus)) d) one same;
}
  where
    first : History
    first = record { opening = o; events = reverse now }

    second : History
    second = record { opening = other; events = reverse thus }

    quiet : IsQuiet es now
    quiet = drain_is_quiet o ms es again later now g

    quiet_too : IsQuiet others thus
    quiet_too = drain_is_quiet other ns others too newer thus k

    before : AreAlike o ms es other ns others
    before = twin_from f tape o word steps ms now quiet.added es other words ns others quiet.split lawful t shape takes
        (earlier_follows other quiet_too.added others (subst (FollowsLawfully other) quiet_too.split d)) p q

    s : IsSchedule o ms es
    s = played_schedule o word steps ms es p

    u : IsSchedule other ns others
    u = played_schedule other words (retold_steps f steps) ns others q

    drained : IsDrainAlike o later now again other newer thus too
    drained = drains_alike o ms es again later now other ns others too newer thus s u lawful d before g k

    alike : AreAlike o later now other newer thus
    alike = drained.alike

    told : IsTold f tape other thus
    told = told_quiet f tape other others thus quiet_too (played_told f tape other words steps ns others takes q)

    steps_same : steps_of now ≡ steps_of thus
    steps_same = alike_steps o later now other newer thus (record { schedule = drain_goes_on o ms es again later now s g; follows = lawful })
        (record { schedule = drain_goes_on other ns others too newer thus u k; follows = d }) alike

    -- a place of the first tape goes to one of the second
    within : (place : ℕ) → place < o.shape.n + arrived now → twin_permutation o now other thus place < other.shape.n + arrived thus
    within place low =
        let blocks : o.shape.n ≡ other.shape.n = ap (λ x. x.n) shape in
        let as_many = same_count now thus steps_same in
        let below = places_within o now other thus (in_range o now lawful) (in_range other thus d) shape steps_same place low in
        omega arith

    moved : HasMovedWords o now other thus
    moved place low =
        told.words (twin_permutation o now other thus place) (within place low)
        ∙ ap tape (retold_is_twin f o now other thus place shape steps_same told.asked) ∙ t.moved place low

    one : IsOneShape first second
    one = record { parameters = shape; steps = same_steps now thus steps_same }

    same : LeavesAgree o (reverse (reverse now)) other (reverse (reverse thus))
    same = (subst (λ l. (i : ℕ) → i < arrived l → fetched_leaf o l i ≡ fetched_leaf other (reverse (reverse thus)) i) (sym (reverse-reverse now))
        (subst (λ l. (i : ℕ) → i < arrived now → fetched_leaf o now i ≡ fetched_leaf other l i) (sym (reverse-reverse thus)) alike.leaves))

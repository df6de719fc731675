-- The drain of a session. Moves and events are newest first.
use Rattle.std.proofs.Common.{◌≡◌, ℕ, ◌+◌, ◌<◌, ◌≤◌, Bool, true, false, not, ◌&&◌, List, [], ◌∷◌, ◌++◌, map, filter, length, None, refl, sym, ap, ◌∙◌, subst, arith, inl, inr, ◌⊎◌, nat_eq, nat_lt, nat_le}
use Rattle.std.specs.List.{flat_map, range_with_len}
use Rattle.std.proofs.lemmas.Bool.{eq-eqb, eqb-true, true≢false, and_from, or_cases, or_left, or_right, false_from_ne_true, lt-ltb, le-leb, not_from_false}
use Rattle.std.proofs.lemmas.List.{append-nil}
use Rattle.std.proofs.lemmas.List.Elements.{filter_agree}
use Rattle.tao_base.specs.declared.session.Event.{Event}
use Rattle.tao_base.specs.declared.session.Event.TheVariants.{Done, Issue, Acked}
use Rattle.tao_base.specs.declared.storage.Bucket.{Bucket}
use Rattle.tao_base.specs.Session.{Opening}
use Rattle.tao_base.specs.Tree.{path}
use Rattle.tao_model.specs.Events.{arrived, issues, acks, is_done, is_acked, is_under_way, is_outstanding}
use Rattle.tao_model.specs.Requests.{fetched_leaf}
use Rattle.tao_model.specs.Lawful.{FollowsLawfully}
use Rattle.tao_model.proofs.FallingPaths.{has}
use Rattle.tao_model.proofs.Growth.{done_stays}
use Rattle.tao_laws.specs.TwoPlays.{LeavesAgree}
use Rattle.tao_laws.specs.Counted.{IsAllAcked}
use Rattle.tao_laws.proofs.CountedWork.{dones_full}
use Rattle.tao_laws.proofs.Listings.{has_filter, has_range}
use Rattle.tao_text.specs.declared.script.What.{What}
use Rattle.tao_schedule.specs.Moves.{Move, Applies, Acknowledges, nodes_issued, seen, is_served}
use Rattle.tao_schedule.specs.Schedules.{Goes, IsSchedule, GoOn}
use Rattle.tao_schedule.specs.Steps.{moves_of, IsPart, AreParts}
use Rattle.tao_schedule.specs.Alike.{AreAlike}
use Rattle.tao_schedule.specs.Drains.{drain_parts, outstanding, again_moves, AreSentAgain, AreDrained, DrainGoesOn, PartDrainGoesOn, DrainIsPlayed, DrainsAlike, DrainEnds}
use Rattle.tao_schedule.proofs.ServerVersions.{under_parts, under_from}
use Rattle.tao_schedule.proofs.ToldEvents.{SeenSame}
use Rattle.tao_schedule.proofs.AlikeSessions.{IsQuiet, AskNone, as_many_arrived, quiet_both, no_more, parts_schedule, parts_alike, parts_are_quiet, parts_lawful, leaves_behind, seen_facts, nodes_same, under_same, outstanding_same, go_moves, go_serves, go_schedule, go_lawful, onto, seen_onto, map_seen}

-- ---- stores sent again

go_again : (o : Opening) (ms : List Move) (es : List Event) (v : ℕ) (xs : List ℕ) (later : List Move) (now : List Event)
    → GoOn o ms es (map (Applies v) xs ++ Acknowledges v ∷ []) later now → now ≡ Acked v ∷ es
unfolding GoOn Goes
go_again o ms es v [] later now g = g.2.1 ∙ g.1.2
go_again o ms es v (x ∷ xs) later now g = go_again o (Applies v x ∷ ms) g.0 v xs later now g.2 ∙ ap (λ l. Acked v ∷ l) g.1.2

sent_schedule : (o : Opening) (ms : List Move) (es : List Event) (again : List ℕ) (later : List Move) (now : List Event) → IsSchedule o ms es → AreSentAgain o ms es again later now
    → IsSchedule o later now
unfolding AreSentAgain
sent_schedule o ms es [] later now s g = subst (λ l. IsSchedule o l now) (sym g.0) (subst (IsSchedule o ms) (sym g.1) s)
sent_schedule o ms es (v ∷ rest) later now s g = sent_schedule o g.0 g.1 rest later now (go_schedule o ms es (again_moves es v) g.0 g.1 s g.2) g.3

sent_lawful : (o : Opening) (ms : List Move) (es : List Event) (again : List ℕ) (later : List Move) (now : List Event) → AreSentAgain o ms es again later now
    → FollowsLawfully o now → FollowsLawfully o es
unfolding AreSentAgain
sent_lawful o ms es [] later now g f = subst (FollowsLawfully o) g.1 f
sent_lawful o ms es (v ∷ rest) later now g f = go_lawful o ms es (again_moves es v) g.0 g.1 g.2 (sent_lawful o g.0 g.1 rest later now g.3 f)

again_quiet : (o : Opening) (ms : List Move) (es : List Event) (v : ℕ) (later : List Move) (now : List Event) → GoOn o ms es (again_moves es v) later now → IsQuiet es now
again_quiet o ms es v later now g = record { added = Acked v ∷ []; quiet = tt; split = go_again o ms es v (nodes_issued es v) later now g }

sent_quiet : (o : Opening) (ms : List Move) (es : List Event) (again : List ℕ) (later : List Move) (now : List Event) → AreSentAgain o ms es again later now → IsQuiet es now
unfolding AreSentAgain
sent_quiet o ms es [] later now g = no_more es now g.1
sent_quiet o ms es (v ∷ rest) later now g = quiet_both es g.1 now (again_quiet o ms es v g.0 g.1 g.2) (sent_quiet o g.0 g.1 rest later now g.3)

drain_asks_none : (xs : List ℕ) → AskNone (flat_map (λ i. What.Read i None ∷ What.Done i ∷ []) xs)
drain_asks_none [] = tt
drain_asks_none (x ∷ xs) = (refl, (refl, drain_asks_none xs))

parts_none : (es : List Event) → AskNone (drain_parts es)
unfolding drain_parts
parts_none es = drain_asks_none (filter (is_under_way es) (range_with_len 0 (arrived es)))

pub drain_is_quiet : (o : Opening) (ms : List Move) (es : List Event) (again : List ℕ) (later : List Move) (now : List Event) → AreDrained o ms es again later now → IsQuiet es now
drain_is_quiet o ms es again later now d =
    quiet_both es d.between now (parts_are_quiet o (λ i. 0) ms es (drain_parts es) d.middle d.between (parts_none es) d.fetched)
    (sent_quiet o d.middle d.between again later now d.sent)

pub part_drain_goes_on : PartDrainGoesOn
part_drain_goes_on o ms es again later now s d =
    sent_schedule o d.middle d.between again later now (parts_schedule o (λ i. 0) ms es d.played d.middle d.between s d.fetched) d.sent

pub drain_is_played : DrainIsPlayed
drain_is_played o ms es again later now d = record {
  played = drain_parts es;
  unplayed = [];
  parts = append-nil (drain_parts es);
  middle = d.middle;
  between = d.between;
  fetched = d.fetched;
  unsent = [];
  versions = inr (refl, append-nil again ∙ d.versions);
  sent = d.sent;
}

pub drain_goes_on : DrainGoesOn
drain_goes_on o ms es again later now s d = part_drain_goes_on o ms es again later now s (drain_is_played o ms es again later now d)

-- ---- two sessions drain

append_seen : (xs ys : List Move) → map seen (xs ++ ys) ≡ map seen xs ++ map seen ys
append_seen [] ys = refl
append_seen (x ∷ xs) ys = ap (λ l. seen x ∷ l) (append_seen xs ys)

again_seen : (es : List Event) (v : ℕ) → map seen (again_moves es v) ≡ again_moves es v
again_seen es v = append_seen (map (Applies v) (nodes_issued es v)) (Acknowledges v ∷ []) ∙ ap (λ l. l ++ Acknowledges v ∷ []) (map_seen (Applies v) (λ node. refl) (nodes_issued es v))

sent_alike : (o : Opening) (ms : List Move) (es : List Event) (again : List ℕ) (later : List Move) (now : List Event)
    (other : Opening) (ns : List Move) (others : List Event) (newer : List Move) (thus : List Event)
    → IsSchedule o ms es → IsSchedule other ns others → FollowsLawfully o now → FollowsLawfully other thus → AreAlike o ms es other ns others
    → AreSentAgain o ms es again later now → AreSentAgain other ns others again newer thus → map seen later ≡ map seen newer
unfolding AreSentAgain
sent_alike o ms es [] later now other ns others newer thus s t f d a g k = ap (map seen) g.0 ∙ a.moves ∙ sym (ap (map seen) k.0)
sent_alike o ms es (v ∷ rest) later now other ns others newer thus s t f d a g k =
    let f_next = sent_lawful o g.0 g.1 rest later now g.3 f in
    let d_next = sent_lawful other k.0 k.1 rest newer thus k.3 d in
    let f_here = go_lawful o ms es (again_moves es v) g.0 g.1 g.2 f_next in
    let d_here = go_lawful other ns others (again_moves others v) k.0 k.1 k.2 d_next in
    let h = seen_facts o ms es other ns others (record { schedule = s; follows = f_here }) (record { schedule = t; follows = d_here }) a.shape a.moves in
    let nodes = nodes_same o es other others v f_here d_here a.shape h a.leaves in
    let moves : map seen g.0 ≡ map seen k.0 =
    ap (map seen) (go_moves o ms es (again_moves es v) g.0 g.1 g.2) ∙ seen_onto (again_moves es v) ms
    ∙ ap (onto (map seen (again_moves es v))) a.moves
    ∙ ap (λ l. onto l (map seen ns)) (again_seen es v ∙ ap (λ l. map (Applies v) l ++ Acknowledges v ∷ []) nodes ∙ sym (again_seen others v))
    ∙ sym (seen_onto (again_moves others v) ns) ∙ sym (ap (map seen) (go_moves other ns others (again_moves others v) k.0 k.1 k.2)) in
    let alike : AreAlike o g.0 g.1 other k.0 k.1 = record {
      shape = a.shape;
      leaves = leaves_behind o es g.1 other others k.1 (again_quiet o ms es v g.0 g.1 g.2) (again_quiet other ns others v k.0 k.1 k.2) f_next d_next h.arrived a.leaves;
      moves = moves;
    } in
    sent_alike o g.0 g.1 rest later now other k.0 k.1 newer thus (go_schedule o ms es (again_moves es v) g.0 g.1 s g.2) (go_schedule other ns others (again_moves others v) k.0 k.1 t k.2) f d alike g.3 k.3

parts_same : (es others : List Event) → SeenSame es others → drain_parts es ≡ drain_parts others
unfolding drain_parts
parts_same es others h =
    ap (flat_map (λ i. What.Read i None ∷ What.Done i ∷ []))
    (filter_agree (is_under_way es) (is_under_way others) (under_same es others h) (range_with_len 0 (arrived es)) ∙ ap (λ n. filter (is_under_way others) (range_with_len 0 n)) h.arrived)

outstanding_list : (es others : List Event) → SeenSame es others → outstanding es ≡ outstanding others
outstanding_list es others h =
    filter_agree (is_outstanding es) (is_outstanding others) (outstanding_same es others h) (range_with_len 1 (issues es)) ∙ ap (λ n. filter (is_outstanding others) (range_with_len 1 n)) h.issues

pub drains_alike : DrainsAlike
drains_alike o ms es again later now other ns others too newer thus s t f d a g k = record {
  versions = versions;
  alike = record {
    shape = a.shape;
    leaves = leaves_behind o g.between now other k.between thus (sent_quiet o g.middle g.between again later now g.sent) (sent_quiet other k.middle k.between too newer thus k.sent) f d
        between.arrived leaves;
    moves = sent_alike o g.middle g.between again later now other k.middle k.between newer thus s_between t_between f d (record { shape = a.shape; leaves = leaves; moves = moves })
        g.sent (subst (λ l. AreSentAgain other k.middle k.between l newer thus) (sym versions) k.sent);
  };
}
  where
    f_between : FollowsLawfully o g.between
    f_between = sent_lawful o g.middle g.between again later now g.sent f

    d_between : FollowsLawfully other k.between
    d_between = sent_lawful other k.middle k.between too newer thus k.sent d

    h : SeenSame es others
    h = seen_facts o ms es other ns others (record { schedule = s; follows = parts_lawful o (λ i. 0) ms es (drain_parts es) g.middle g.between g.fetched f_between })
        (record { schedule = t; follows = parts_lawful other (λ i. 0) ns others (drain_parts others) k.middle k.between k.fetched d_between }) a.shape a.moves

    leaves : LeavesAgree o g.between other k.between
    leaves = leaves_behind o es g.between other others k.between (parts_are_quiet o (λ i. 0) ms es (drain_parts es) g.middle g.between (parts_none es) g.fetched)
        (parts_are_quiet other (λ i. 0) ns others (drain_parts others) k.middle k.between (parts_none others) k.fetched) f_between d_between h.arrived a.leaves

    moves : map seen g.middle ≡ map seen k.middle
    moves = parts_alike o (λ i. 0) ms es (drain_parts es) g.middle g.between other (λ i. 0) ns others k.middle k.between s t f_between d_between a.shape a.moves leaves g.fetched
        (subst (λ l. AreParts other (λ i. 0) ns others l k.middle k.between) (sym (parts_same es others h)) k.fetched)

    s_between : IsSchedule o g.middle g.between
    s_between = parts_schedule o (λ i. 0) ms es (drain_parts es) g.middle g.between s g.fetched

    t_between : IsSchedule other k.middle k.between
    t_between = parts_schedule other (λ i. 0) ns others (drain_parts others) k.middle k.between t k.fetched

    between : SeenSame g.between k.between
    between = seen_facts o g.middle g.between other k.middle k.between (record { schedule = s_between; follows = f_between }) (record { schedule = t_between; follows = d_between }) a.shape moves

    versions : again ≡ too
    versions = g.versions ∙ outstanding_list g.between k.between between ∙ sym k.versions

-- ---- all arrivals are done

done_behind : (es now : List Event) (i : ℕ) → IsQuiet es now → is_done es i ≡ true → is_done now i ≡ true
done_behind es now i q h = ap (λ l. is_done l i) q.split ∙ done_stays q.added es i h

part_done : (o : Opening) (word : ℕ → ℕ) (ms : List Move) (es : List Event) (i : ℕ) (later : List Move) (now : List Event) → IsPart o word ms es (What.Done i) later now → is_done now i ≡ true
unfolding IsPart moves_of GoOn Goes
part_done o word ms es i later now g = ap (λ l. is_done l i) g.1.2.1 ∙ either g.1.1.2.1 g.1.1.2.2
  where
    either : (taken : List Bucket) → ((g.1.0 ≡ Done i taken ∷ es) ⊎ ((version : ℕ) × (nonce : ℕ) × (buckets : List Bucket) × (g.1.0 ≡ Issue version nonce buckets ∷ Done i taken ∷ es)))
        → is_done g.1.0 i ≡ true
    either taken (inl is) = ap (λ l. is_done l i) is ∙ or_left (nat_eq i i) (is_done es i) (eq-eqb i i refl)
    either taken (inr (version, nonce, buckets, is)) = ap (λ l. is_done l i) is ∙ or_left (nat_eq i i) (is_done es i) (eq-eqb i i refl)

fetched_done : (o : Opening) (word : ℕ → ℕ) (ms : List Move) (es : List Event) (xs : List ℕ) (later : List Move) (now : List Event)
    → AreParts o word ms es (flat_map (λ i. What.Read i None ∷ What.Done i ∷ []) xs) later now → (i : ℕ) → has i xs ≡ true → is_done now i ≡ true
unfolding AreParts
fetched_done o word ms es [] later now g i h = absurd (true≢false (sym h))
fetched_done o word ms es (x ∷ xs) later now g i h =
    either (or_cases (nat_eq x i) (has i xs) h) (λ there. fetched_done o word g.3.0 g.3.1 xs later now g.3.3 i there)
    (done_behind g.3.1 now x (parts_are_quiet o word g.3.0 g.3.1 (flat_map (λ j. What.Read j None ∷ What.Done j ∷ []) xs) later now (drain_asks_none xs) g.3.3)
    (part_done o word g.0 g.1 x g.3.0 g.3.1 g.3.2))
  where
    either : (nat_eq x i ≡ true) ⊎ (has i xs ≡ true) → (has i xs ≡ true → is_done now i ≡ true) → is_done now x ≡ true → is_done now i ≡ true
    either (inl same) ih here = subst (λ j. is_done now j ≡ true) (eqb-true x i same) here
    either (inr later) ih here = ih later

between_done : (o : Opening) (word : ℕ → ℕ) (ms : List Move) (es : List Event) (later : List Move) (now : List Event) → AreParts o word ms es (drain_parts es) later now
    → (i : ℕ) → i < arrived es → is_done now i ≡ true
unfolding drain_parts
between_done o word ms es later now g i there = either (is_done es i) refl
  where
    either : (t : Bool) → is_done es i ≡ t → is_done now i ≡ true
    either true is =
        done_behind es now i (parts_are_quiet o word ms es (flat_map (λ j. What.Read j None ∷ What.Done j ∷ []) (filter (is_under_way es) (range_with_len 0 (arrived es)))) later now
        (drain_asks_none (filter (is_under_way es) (range_with_len 0 (arrived es)))) g) is
    either false is = fetched_done o word ms es (filter (is_under_way es) (range_with_len 0 (arrived es))) later now g i
        (has_filter (is_under_way es) i (range_with_len 0 (arrived es))
        ∙ and_from (is_under_way es i) (has i (range_with_len 0 (arrived es))) (under_from es i there is) (has_range 0 (arrived es) i (omega arith) (omega arith)))

-- ---- all stores are acknowledged

read_changes_none : (o : Opening) (word : ℕ → ℕ) (ms : List Move) (es : List Event) (i : ℕ) (later : List Move) (now : List Event) → IsPart o word ms es (What.Read i None) later now → now ≡ es
unfolding IsPart moves_of
read_changes_none o word ms es i later now g = go_serves o ms es i (filter (λ node. not (is_served ms i node)) (path o.shape.l (fetched_leaf o es i))) later now g.1

part_acks : (o : Opening) (word : ℕ → ℕ) (ms : List Move) (es : List Event) (i : ℕ) (later : List Move) (now : List Event) → IsPart o word ms es (What.Done i) later now → acks now ≡ acks es
unfolding IsPart moves_of GoOn Goes
part_acks o word ms es i later now g = ap acks g.1.2.1 ∙ either g.1.1.2.1 g.1.1.2.2
  where
    either : (taken : List Bucket) → ((g.1.0 ≡ Done i taken ∷ es) ⊎ ((version : ℕ) × (nonce : ℕ) × (buckets : List Bucket) × (g.1.0 ≡ Issue version nonce buckets ∷ Done i taken ∷ es)))
        → acks g.1.0 ≡ acks es
    either taken (inl is) = ap acks is
    either taken (inr (version, nonce, buckets, is)) = ap acks is

fetched_acks : (o : Opening) (word : ℕ → ℕ) (ms : List Move) (es : List Event) (xs : List ℕ) (later : List Move) (now : List Event)
    → AreParts o word ms es (flat_map (λ i. What.Read i None ∷ What.Done i ∷ []) xs) later now → acks now ≡ acks es
unfolding AreParts
fetched_acks o word ms es [] later now g = ap acks g.1
fetched_acks o word ms es (x ∷ xs) later now g =
    fetched_acks o word g.3.0 g.3.1 xs later now g.3.3 ∙ part_acks o word g.0 g.1 x g.3.0 g.3.1 g.3.2 ∙ ap acks (read_changes_none o word ms es x g.0 g.1 g.2)

between_acks : (o : Opening) (word : ℕ → ℕ) (ms : List Move) (es : List Event) (later : List Move) (now : List Event) → AreParts o word ms es (drain_parts es) later now → acks now ≡ acks es
unfolding drain_parts
between_acks o word ms es later now g = fetched_acks o word ms es (filter (is_under_way es) (range_with_len 0 (arrived es))) later now g

acked_step : (v version : ℕ) (es : List Event) → is_acked es v ≡ true → is_acked (Acked version ∷ es) v ≡ true
acked_step v version es h = or_right (nat_eq version v) (is_acked es v) h

sent_keeps : (o : Opening) (ms : List Move) (es : List Event) (again : List ℕ) (later : List Move) (now : List Event) (v : ℕ) → AreSentAgain o ms es again later now → is_acked es v ≡ true
    → is_acked now v ≡ true
unfolding AreSentAgain
sent_keeps o ms es [] later now v g h = ap (λ l. is_acked l v) g.1 ∙ h
sent_keeps o ms es (u ∷ rest) later now v g h =
    sent_keeps o g.0 g.1 rest later now v g.3 (ap (λ l. is_acked l v) (go_again o ms es u (nodes_issued es u) g.0 g.1 g.2) ∙ acked_step v u es h)

sent_acked : (o : Opening) (ms : List Move) (es : List Event) (again : List ℕ) (later : List Move) (now : List Event) (v : ℕ) → AreSentAgain o ms es again later now → has v again ≡ true
    → is_acked now v ≡ true
unfolding AreSentAgain
sent_acked o ms es [] later now v g h = absurd (true≢false (sym h))
sent_acked o ms es (u ∷ rest) later now v g h =
    either (or_cases (nat_eq u v) (has v rest) h) (λ there. sent_acked o g.0 g.1 rest later now v g.3 there)
  where
    either : (nat_eq u v ≡ true) ⊎ (has v rest ≡ true) → (has v rest ≡ true → is_acked now v ≡ true) → is_acked now v ≡ true
    either (inl same) ih = sent_keeps o g.0 g.1 rest later now v g.3
        (ap (λ l. is_acked l v) (go_again o ms es u (nodes_issued es u) g.0 g.1 g.2) ∙ or_left (nat_eq u v) (is_acked es v) same)
    either (inr there) ih = ih there

sent_issues : (o : Opening) (ms : List Move) (es : List Event) (again : List ℕ) (later : List Move) (now : List Event) → AreSentAgain o ms es again later now → issues now ≡ issues es
unfolding AreSentAgain
sent_issues o ms es [] later now g = ap issues g.1
sent_issues o ms es (u ∷ rest) later now g = sent_issues o g.0 g.1 rest later now g.3 ∙ ap issues (go_again o ms es u (nodes_issued es u) g.0 g.1 g.2)

sent_acks : (o : Opening) (ms : List Move) (es : List Event) (again : List ℕ) (later : List Move) (now : List Event) → AreSentAgain o ms es again later now → acks now ≡ acks es + length again
unfolding AreSentAgain
sent_acks o ms es [] later now g = let same = ap acks g.1 in omega arith
sent_acks o ms es (u ∷ rest) later now g =
    let more = sent_acks o g.0 g.1 rest later now g.3 in let one = ap acks (go_again o ms es u (nodes_issued es u) g.0 g.1 g.2) in omega arith

all_acked : (o : Opening) (ms : List Move) (es : List Event) (later : List Move) (now : List Event) → AreSentAgain o ms es (outstanding es) later now → IsAllAcked now
all_acked o ms es later now g v some known = either (is_acked es v) refl
  where
    low : v ≤ issues es
    low = let same = sent_issues o ms es (outstanding es) later now g in omega arith

    either : (t : Bool) → is_acked es v ≡ t → is_acked now v ≡ true
    either true is = sent_keeps o ms es (outstanding es) later now v g is
    either false is = sent_acked o ms es (outstanding es) later now v g
        (has_filter (is_outstanding es) v (range_with_len 1 (issues es))
        ∙ and_from (is_outstanding es v) (has v (range_with_len 1 (issues es)))
        (and_from (nat_lt 0 v) (nat_le v (issues es) && not (is_acked es v)) (lt-ltb 0 v some)
        (and_from (nat_le v (issues es)) (not (is_acked es v)) (le-leb v (issues es) low) (not_from_false (is_acked es v) is)))
        (has_range 1 (issues es) v (omega arith) (omega (arith, low))))

pub drain_ends : DrainEnds
drain_ends o ms es again later now f g = record {
  arrivals = as_many_arrived es now quiet;
  finished = λ i. false_from_ne_true (is_under_way now i) (λ way.
      let parts = under_parts now i way in
      let as_many = as_many_arrived es now quiet in
      let low = parts.0 in
      true≢false (sym (finished i (omega arith)) ∙ parts.1));
  all_done = dones_full o now f (λ i there. let as_many = as_many_arrived es now quiet in finished i (omega arith));
  acked = all_acked o g.middle g.between later now (subst (λ l. AreSentAgain o g.middle g.between l later now) g.versions g.sent);
  acks = sent_acks o g.middle g.between again later now g.sent ∙ ap (λ n. n + length again) (between_acks o (λ i. 0) ms es g.middle g.between g.fetched);
}
  where
    first : IsQuiet es g.between
    first = parts_are_quiet o (λ i. 0) ms es (drain_parts es) g.middle g.between (parts_none es) g.fetched

    second : IsQuiet g.between now
    second = sent_quiet o g.middle g.between again later now g.sent

    quiet : IsQuiet es now
    quiet = quiet_both es g.between now first second

    finished : (i : ℕ) → i < arrived es → is_done now i ≡ true
    finished i there = done_behind g.between now i second (between_done o (λ i. 0) ms es g.middle g.between g.fetched i there)

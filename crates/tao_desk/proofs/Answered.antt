-- What an answer to a fetch adds, and what a refused one leaves.
use Rattle.std.proofs.Common.{◌≡◌, ℕ, ◌+◌, ◌*◌, ◌==◌, ◌&&◌, not, nat_lt, Bool, true, false, List, [], reverse, Some, None, is_some, refl, sym, ap, ap₂, ◌∙◌, subst}
use Rattle.std.proofs.lemmas.Bool.{true≢false, eq-eqb}
use Rattle.tao_base.specs.declared.session.Cause.{Cause}
use Rattle.tao_base.specs.declared.session.Event.{Event}
use Rattle.tao_base.specs.declared.session.Event.TheVariants.{Done, Issue, Fault}
use Rattle.tao_base.specs.declared.storage.Bucket.{Bucket}
use Rattle.tao_base.specs.declared.storage.Order.{Order}
use Rattle.tao_base.specs.Limits.{IsShape}
use Rattle.tao_base.specs.Session.{History}
use Rattle.tao_model.specs.Events.{arrived, dones, issues, is_done, is_under_way}
use Rattle.tao_model.specs.Requests.{fetched_leaf, fetches}
use Rattle.tao_model.specs.Residence.{is_resident}
use Rattle.tao_model.specs.Lawful.{FollowsLawfully, OwesNone, MayFollow}
use Rattle.tao_laws.specs.Residents.{IsAsAsked}
use Rattle.tao_laws.proofs.AskedNodes.{as_it_was_asked}
use Rattle.tao_images.specs.Answers.{fetch_refusal, AreFetched, IsAnswered, AddsDone, cause_of, with_event}
use Rattle.tao_images.specs.Orders.{IsOrderOf}
use Rattle.tao_images.specs.Paths.{AreBytes}
use Rattle.tao_images.specs.declared.nodes.Refused.{Refused}
use Rattle.tao_images.proofs.AnswerLemmas.{fetch_is_read, fetch_is_taken, fetch_may_fail, fetch_may_be_done}
use Rattle.tao_processor.specs.State.{ProcessorState, look_refusal, buckets_looked, Issues}
use Rattle.tao_desk.specs.Calls.{LooksAsAsked}
use Rattle.tao_desk.specs.Inside.{IsDesk}
use Rattle.tao_desk.proofs.KeptDesks.{done_keeps, issue_keeps}

not_done : (a d : Bool) → (a && not d) ≡ true → d ≡ false
not_done true false h = refl
not_done true true h = sym h
not_done false d h = absurd (true≢false (sym h))

-- a fetch that is under way reads its nodes as they were when its arrival came
pub looks_as_asked : (h : History) (i : ℕ) → FollowsLawfully h.opening (reverse h.events) → LooksAsAsked h i
looks_as_asked h i follows before after client op word node events number way on away =
    subst (λ (es : List Event). IsAsAsked h.opening (reverse before) (reverse es) node) (sym events)
    (as_it_was_asked h.opening before after client op word node
    (subst (λ (es : List Event). FollowsLawfully h.opening (reverse es)) events follows)
    (subst (λ (es : List Event). is_done (reverse es) (arrived (reverse before)) ≡ false) events
    (subst (λ n. is_done (reverse h.events) n ≡ false) (sym number) (not_done (nat_lt i (arrived (reverse h.events))) (is_done (reverse h.events) i) way)))
    (subst (λ (es : List Event). fetches h.opening (reverse es) (arrived (reverse before)) node ≡ true) events
    (subst (λ n. fetches h.opening (reverse h.events) n node ≡ true) (sym number) on))
    (subst (λ (es : List Event). is_resident h.opening (reverse es) node ≡ false) events away))

-- the refusal of the answer, as the record tells it
refusal_is : (old : ProcessorState) (i : ℕ) {leaf : ℕ} (path : List ℕ) → leaf ≡ fetched_leaf old.history.opening (reverse old.history.events) i → look_refusal old leaf path ≡ fetch_refusal old.key old.history i path
refusal_is old i path at = ap (λ n. look_refusal old n path) at

-- what was read from an answer that is taken
pub was_read : (old : ProcessorState) {mid : ProcessorState} (i : ℕ) {leaf : ℕ} (path : List ℕ) → leaf ≡ fetched_leaf old.history.opening (reverse old.history.events) i → AreBytes path
    → None ≡ look_refusal old leaf path → mid ≡ record old { looked = buckets_looked old leaf path } → AreFetched old.key old.history i path mid.looked
was_read old {mid} i {leaf} path at bytes none state =
    subst (AreFetched old.key old.history i path) (sym (ap (λ (st : ProcessorState). st.looked) state ∙ ap (λ n. buckets_looked old n path) at))
    (fetch_is_read old.key old.history i path bytes (sym (none ∙ refusal_is old i path at)))

-- the session may end with a refused answer
pub may_fail : (old : ProcessorState) {mid : ProcessorState} (i : ℕ) {leaf : ℕ} (path : List ℕ) (refused : Refused) {cause : Cause} → OwesNone old.history.opening (reverse old.history.events)
    → leaf ≡ fetched_leaf old.history.opening (reverse old.history.events) i → true ≡ is_under_way (reverse old.history.events) i → Some refused ≡ look_refusal old leaf path
    → mid ≡ record old { looked = [] } → cause ≡ cause_of i refused → MayFollow mid.history.opening (reverse mid.history.events) (Fault cause)
may_fail old {mid} i {leaf} path refused {cause} owes at way some state is =
    subst (λ (st : ProcessorState). MayFollow st.history.opening (reverse st.history.events) (Fault cause)) (sym state)
    (subst (λ (x : Cause). MayFollow old.history.opening (reverse old.history.events) (Fault x)) (sym is)
    (owes, fetch_may_fail old.key old.history i path refused (sym way) (sym (some ∙ refusal_is old i path at))))

-- and so the answer didn't hold the latest versions
pub not_answered : (old : ProcessorState) (i : ℕ) {leaf : ℕ} (path : List ℕ) (refused : Refused) → IsShape old.history.opening.shape → AreBytes path
    → leaf ≡ fetched_leaf old.history.opening (reverse old.history.events) i → Some refused ≡ look_refusal old leaf path → IsAnswered old.key old.history i path → false ≡ true
not_answered old i path refused shape bytes at some answered =
    sym (ap is_some (some ∙ refusal_is old i path at ∙ (fetch_is_taken old.key old.history i path shape bytes).1 answered))

-- only what was looked at has changed
pub looked_alone : (old : ProcessorState) {mid : ProcessorState} {buckets : List Bucket} → mid ≡ record old { looked = buckets } → mid ≡ record old { looked = mid.looked }
looked_alone old {mid} {buckets} state = state ∙ ap (λ (bs : List Bucket). record old { looked = bs }) (sym (ap (λ (st : ProcessorState). st.looked) state))

-- its Done may come
pub may_be_done : (old : ProcessorState) {mid : ProcessorState} (i : ℕ) (path : List ℕ) → OwesNone old.history.opening (reverse old.history.events)
    → true ≡ is_under_way (reverse old.history.events) i → AreFetched old.key old.history i path mid.looked → mid ≡ record old { looked = mid.looked }
    → MayFollow mid.history.opening (reverse mid.history.events) (Done i mid.looked)
may_be_done old {mid} i path owes way read state =
    subst (λ (h : History). MayFollow h.opening (reverse h.events) (Done i mid.looked)) (sym (ap (λ (st : ProcessorState). st.history) state))
    (owes, fetch_may_be_done old.key old.history i path mid.looked (sym way) read)

-- the record with the Done
pub with_done : (old : ProcessorState) {mid done : ProcessorState} (i : ℕ) → mid ≡ record old { looked = mid.looked } → done ≡ record mid { history = with_event mid.history (Done i mid.looked); holdings = done.holdings; looked = [] }
    → (done.history ≡ with_event old.history (Done i mid.looked)) × (done.key ≡ old.key)
with_done old {mid} {done} i state more = (
  ap (λ (st : ProcessorState). st.history) more ∙ ap (λ (st : ProcessorState). with_event st.history (Done i mid.looked)) state,
  ap (λ (st : ProcessorState). st.key) more ∙ ap (λ (st : ProcessorState). st.key) state,
)

-- an answer that fills no period adds its Done
pub adds_done : (old : ProcessorState) {mid done : ProcessorState} (i : ℕ) (path : List ℕ) → AreFetched old.key old.history i path mid.looked → mid ≡ record old { looked = mid.looked }
    → done ≡ record mid { history = with_event mid.history (Done i mid.looked); holdings = done.holdings; looked = [] } → AddsDone old.key old.history done.history i path None
adds_done old {mid} {done} i path read state more = (mid.looked, read, (with_done old i state more).0)

-- one that fills a period adds its write-back, too
pub adds_issue : (old : ProcessorState) {mid done now : ProcessorState} {order : Order} (i : ℕ) (path : List ℕ) → AreFetched old.key old.history i path mid.looked → mid ≡ record old { looked = mid.looked }
    → done ≡ record mid { history = with_event mid.history (Done i mid.looked); holdings = done.holdings; looked = [] } → Issues done now order
    → AddsDone old.key old.history now.history i path (Some order)
adds_issue old {mid} {done} {now} {order} i path read state more issued =
    let version : order.version ≡ issues (reverse done.history.events) + 1 = ap (λ (x : Order). x.version) issued.sends in
    let before = with_done old i state more in (
      mid.looked,
      issued.buckets,
      read,
      subst (λ v. IsOrderOf old.key old.history.opening.shape v order.nonce issued.buckets order) (sym version)
          (subst (λ k. IsOrderOf k old.history.opening.shape (issues (reverse done.history.events) + 1) order.nonce issued.buckets order) before.1
          (subst (λ (h : History). IsOrderOf done.key h.opening.shape (issues (reverse done.history.events) + 1) order.nonce issued.buckets order) before.0 issued.sends)),
      ap (λ (st : ProcessorState). st.history) issued.state ∙ ap₂ (λ (h : History) v. with_event h (Issue v order.nonce issued.buckets)) before.0 (sym version),
    )

-- the desk after both
pub issued_desk : (word : List ℕ → ℕ → ℕ) {source : List ℕ} {place : ℕ} (old : ProcessorState) {mid done now : ProcessorState} {order : Order} (i : ℕ) → IsDesk word source place old.history
    → mid ≡ record old { looked = mid.looked } → done ≡ record mid { history = with_event mid.history (Done i mid.looked); holdings = done.holdings; looked = [] } → Issues done now order
    → FollowsLawfully now.history.opening (reverse now.history.events) → IsDesk word source place now.history
issued_desk word {source} {place} old {mid} {done} {now} {order} i desk state more issued follows =
    subst (λ (h : History). IsDesk word source place h) (sym adds)
    (issue_keeps word i mid.looked (issues (reverse done.history.events) + 1) order.nonce issued.buckets desk (subst (λ (h : History). FollowsLawfully h.opening (reverse h.events)) adds follows))
  where
    adds : now.history ≡ with_event (with_event old.history (Done i mid.looked)) (Issue (issues (reverse done.history.events) + 1) order.nonce issued.buckets)
    adds = ap (λ (st : ProcessorState). st.history) issued.state ∙ ap (λ (h : History). with_event h (Issue (issues (reverse done.history.events) + 1) order.nonce issued.buckets)) (with_done old i state more).0

-- the desk after a Done that fills no period
pub done_desk : (word : List ℕ → ℕ → ℕ) {source : List ℕ} {place : ℕ} (old : ProcessorState) {mid done : ProcessorState} (i : ℕ) → IsDesk word source place old.history
    → mid ≡ record old { looked = mid.looked } → done ≡ record mid { history = with_event mid.history (Done i mid.looked); holdings = done.holdings; looked = [] }
    → FollowsLawfully done.history.opening (reverse done.history.events)
    → false ≡ (dones (reverse done.history.events) == (issues (reverse done.history.events) + 1) * done.history.opening.shape.k) → IsDesk word source place done.history
done_desk word {source} {place} old {mid} {done} i desk state more follows unfilled =
    subst (λ (h : History). IsDesk word source place h) (sym adds)
    (done_keeps word i mid.looked desk (subst (λ (h : History). FollowsLawfully h.opening (reverse h.events)) adds follows)
    (λ full. true≢false (sym (eq-eqb _ _ full) ∙ sym (subst (λ (h : History). false ≡ (dones (reverse h.events) == (issues (reverse h.events) + 1) * h.opening.shape.k)) adds unfilled))))
  where
    adds : done.history ≡ with_event old.history (Done i mid.looked)
    adds = (with_done old i state more).0

-- The write-backs that are kept, and the line of one that is sent again. The events `es` are newest first.
use Rattle.std.proofs.Common.{◌≡◌, ℕ, ◌+◌, ◌-◌, ◌<◌, ◌≤◌, List, [], ◌∷◌, ◌++◌, codes, cond, length, get_or, refl, sym, ap, ◌∙◌, subst, arith, inl, inr, ◌⊎◌}
use Rattle.std.proofs.lemmas.Bool.{eq-eqb, ne_eqb, cases_lt, le-leb, lt-leb}
use Rattle.std.specs.List.{count_by}
use Rattle.std.proofs.lemmas.List.Recursion.{is_count_by}
use Rattle.std.proofs.lemmas.List.{get_or_append_left, get_or_push, length_push}
use Rattle.tao_base.specs.declared.session.Event.{Event}
use Rattle.tao_base.specs.declared.session.Event.TheVariants.{Arrive, Done, Issue, Acked, Fault}
use Rattle.tao_base.specs.declared.storage.Bucket.{Bucket}
use Rattle.tao_base.specs.Session.{History}
use Rattle.tao_base.specs.Lines.{words_line}
use Rattle.tao_model.specs.Events.{issues, acks}
use Rattle.tao_model.specs.Trace.{nodes_in, again_of}
use Rattle.tao_model.specs.Transcript.{again_line, again_before, acks_in}
use Rattle.tao_trace.specs.Printing.{events_before, sent_once}
use Rattle.tao_trace.specs.Tables.{is_ack, IsSent, AreSent, FitSent, IsNext}
use Rattle.tao_trace.specs.declared.tables.Sent.{Sent}

-- ---- the acknowledgements of the whole record

pub acks_counted : (events : List Event) → count_by is_ack events ≡ acks_in events
acks_counted events = sym (is_count_by acks_in is_ack refl one events)
  where
    one : (e : Event) (rest : List Event) → acks_in (e ∷ rest) ≡ cond (is_ack e) (1 + acks_in rest) (acks_in rest)
    one (Arrive client op word) rest = refl
    one (Done arrival taken) rest = refl
    one (Issue version nonce buckets) rest = refl
    one (Acked version) rest = omega arith
    one (Fault cause) rest = refl

-- ---- before the first event

pub fit_sent_first : (h : History) (again : ℕ) (sent : List Sent) (once : ℕ) → sent ≡ [] → once ≡ sent_once h again → FitSent h 0 again sent once
fit_sent_first h again sent once none same = record {
  rows = record { writes = ap length none; each = λ i d h. let len : length sent ≡ 0 = ap length none in absurd (omega arith) };
  limit = omega arith;
}

-- ---- one event more

-- a write-back more
pub sent_issue : (es : List Event) (version nonce : ℕ) (buckets : List Bucket) (sent : List Sent) (row : Sent)
    → AreSent es sent → version ≡ issues es + 1 → row.nonce ≡ nonce → row.buckets.now ≡ buckets → AreSent (Issue version nonce buckets ∷ es) (sent ++ row ∷ [])
sent_issue es version nonce buckets sent row are next first same = record {
  writes = length_push sent row ∙ ap (λ n. n + 1) are.writes;
  each = λ i d h. either i d h (cases_lt i (length sent));
}
  where
    older : (i : ℕ) (old : Sent) → i < length sent → IsSent es (i + 1) old → IsSent (Issue version nonce buckets ∷ es) (i + 1) old
    older i old low is =
        let len = are.writes in
        let other : version ≡ i + 1 → ⊥ = λ e. omega arith in
        record { line = rw (ne_eqb version (i + 1) other) is.line; request = rw (ne_eqb version (i + 1) other) is.request }

    newest : (i : ℕ) → version ≡ i + 1 → IsSent (Issue version nonce buckets ∷ es) (i + 1) row
    newest i at = record {
      line = rw (eq-eqb version (i + 1) at)
          (ap (λ (v : ℕ). words_line (codes "again") (v ∷ nonce ∷ nodes_in buckets)) at
          ∙ ap (λ (n : ℕ). words_line (codes "again") ((i + 1) ∷ n ∷ nodes_in buckets)) (sym first)
          ∙ ap (λ (l : List Bucket). words_line (codes "again") ((i + 1) ∷ row.nonce ∷ nodes_in l)) (sym same));
      request = rw (eq-eqb version (i + 1) at, at, first, same) refl;
    }

    either : (i : ℕ) (d : Sent) → i < length (sent ++ row ∷ []) → (i < length sent) ⊎ (length sent ≤ i) → IsSent (Issue version nonce buckets ∷ es) (i + 1) (get_or (sent ++ row ∷ []) i d)
    either i d h (inl low) = subst (IsSent (Issue version nonce buckets ∷ es) (i + 1)) (sym (get_or_append_left sent (row ∷ []) d i low)) (older i (get_or sent i d) low (are.each i d low))
    either i d h (inr high) =
        let len = length_push sent row in
        let at : length sent ≡ i = omega arith in
        let count = are.writes in
        let this : version ≡ i + 1 = omega arith in
        subst (IsSent (Issue version nonce buckets ∷ es) (i + 1)) (sym (get_or_push sent row d i at)) (newest i this)

-- an event that is no write-back keeps them
pub sent_stays : (es : List Event) (e : Event) (sent : List Sent) → issues (e ∷ es) ≡ issues es
    → ((v : ℕ) → again_line (e ∷ es) v ≡ again_line es v) → ((v : ℕ) → again_of (e ∷ es) v ≡ again_of es v) → AreSent es sent → AreSent (e ∷ es) sent
sent_stays es e sent count lines requests are = record {
  writes = are.writes ∙ sym count;
  each = λ i d h. let is = are.each i d h in record { line = lines (i + 1) ∙ is.line; request = requests (i + 1) ∙ is.request };
}

fit_so : (h : History) (place next again : ℕ) (e : Event) (sent : List Sent) (once : ℕ) → IsNext h place e → next ≡ place + 1
    → AreSent (e ∷ events_before h place) sent → once ≡ sent_once h again - acks (e ∷ events_before h place) → FitSent h next again sent once
fit_so h place next again e sent once n at rows same = record {
  rows = subst (λ es. AreSent es sent) (sym told) rows;
  limit = same ∙ sym (ap (λ es. sent_once h again - acks es) told);
}
  where
    told : events_before h next ≡ e ∷ events_before h place
    told = ap (events_before h) at ∙ n.before

module _ (h : History) (place next again : ℕ) (sent : List Sent) (once : ℕ) where
  pub fit_sent_arrive : (client : ℕ) (op : _) (word : ℕ) → FitSent h place again sent once → IsNext h place (Arrive client op word) → next ≡ place + 1 → FitSent h next again sent once
  fit_sent_arrive client op word f n at = fit_so h place next again (Arrive client op word) sent once n at
      (sent_stays (events_before h place) (Arrive client op word) sent refl (λ v. refl) (λ v. refl) f.rows) f.limit

  pub fit_sent_done : (arrival : ℕ) (taken : List Bucket) → FitSent h place again sent once → IsNext h place (Done arrival taken) → next ≡ place + 1 → FitSent h next again sent once
  fit_sent_done arrival taken f n at = fit_so h place next again (Done arrival taken) sent once n at
      (sent_stays (events_before h place) (Done arrival taken) sent refl (λ v. refl) (λ v. refl) f.rows) f.limit

  pub fit_sent_fault : (cause : _) → FitSent h place again sent once → IsNext h place (Fault cause) → next ≡ place + 1 → FitSent h next again sent once
  fit_sent_fault cause f n at = fit_so h place next again (Fault cause) sent once n at
      (sent_stays (events_before h place) (Fault cause) sent refl (λ v. refl) (λ v. refl) f.rows) f.limit

  pub fit_sent_acked : (version : ℕ) → FitSent h place again sent once → IsNext h place (Acked version) → next ≡ place + 1 → FitSent h next again sent (once - 1)
  fit_sent_acked version f n at = fit_so h place next again (Acked version) sent (once - 1) n at
      (sent_stays (events_before h place) (Acked version) sent refl (λ v. refl) (λ v. refl) f.rows) (let same = f.limit in omega arith)

  pub fit_sent_issue : (version nonce : ℕ) (buckets : List Bucket) (row : Sent) → FitSent h place again sent once → IsNext h place (Issue version nonce buckets) → next ≡ place + 1
      → row.nonce ≡ nonce → row.buckets.now ≡ buckets → FitSent h next again (sent ++ row ∷ []) once
  fit_sent_issue version nonce buckets row f n at first same = fit_so h place next again (Issue version nonce buckets) (sent ++ row ∷ []) once n at
      (sent_issue (events_before h place) version nonce buckets sent row f.rows n.follows.2.next first same) f.limit

-- ---- the acknowledgement that comes next

-- its version has a row
pub has_row : (h : History) (place again version : ℕ) (sent : List Sent) (once : ℕ) → FitSent h place again sent once → IsNext h place (Acked version)
    → (0 < version) × (version - 1 < length sent)
has_row h place again version sent once f n =
    let low = n.follows.2.1 in
    let high = n.follows.2.2 in
    let len = f.rows.writes in
    (low, omega arith)

pub row_told : (h : History) (place again version : ℕ) (sent : List Sent) (once : ℕ) (row : Sent) → FitSent h place again sent once → IsNext h place (Acked version)
    → row ≡ get_or sent (version - 1) row → IsSent (events_before h place) version row
row_told h place again version sent once row f n at =
    let there = has_row h place again version sent once f n in
    let low = there.0 in
    subst (λ v. IsSent (events_before h place) v row) (omega arith)
    (subst (IsSent (events_before h place) (version - 1 + 1)) (sym at) (f.rows.each (version - 1) row there.1))

pub sent_before : (h : History) (place again version : ℕ) (sent : List Sent) (once : ℕ) → FitSent h place again sent once
    → 0 < once → again_before (sent_once h again) (events_before h place) (Acked version) ≡ []
sent_before h place again version sent once f less =
    let same = f.limit in
    ap (λ b. cond b (again_line (events_before h place) version) []) (lt-leb (sent_once h again) (acks (events_before h place)) (omega arith))

pub sent_again : (h : History) (place again version : ℕ) (sent : List Sent) (once : ℕ) → FitSent h place again sent once
    → once ≡ 0 → again_before (sent_once h again) (events_before h place) (Acked version) ≡ again_line (events_before h place) version
sent_again h place again version sent once f most =
    let same = f.limit in
    ap (λ b. cond b (again_line (events_before h place) version) []) (le-leb (sent_once h again) (acks (events_before h place)) (omega arith))

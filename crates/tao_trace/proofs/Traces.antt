-- The trace after one more event, and the stores that are in it once more. The events `es` are newest first.
use Rattle.std.proofs.Common.{◌≡◌, ℕ, ◌+◌, ◌-◌, ◌<◌, List, [], ◌∷◌, ◌++◌, length, reverse, get_or, refl, sym, ap, ◌∙◌, subst, arith, inl, inr, ◌⊎◌}
use Rattle.std.proofs.Math.Seq.{take-length}
use Rattle.std.proofs.lemmas.Bool.{ne_eqb}
use Rattle.tao_base.specs.declared.calls.Op.{Op}
use Rattle.tao_base.specs.declared.session.Event.{Event}
use Rattle.tao_base.specs.declared.session.Event.TheVariants.{Arrive, Done, Issue, Acked, Fault}
use Rattle.tao_base.specs.declared.storage.Bucket.{Bucket}
use Rattle.tao_base.specs.Session.{Opening, History}
use Rattle.tao_base.specs.Tree.{leaf_of}
use Rattle.tao_model.specs.declared.trace.Request.{Request}
use Rattle.tao_model.specs.declared.trace.Request.TheVariants.{Fetch, Store, Again}
use Rattle.tao_model.specs.Events.{arrived, issues}
use Rattle.tao_model.specs.Requests.{fetched_leaf}
use Rattle.tao_model.specs.Trace.{nodes_in, requests, again_of}
use Rattle.tao_model.specs.Lawful.{FollowsLawfully}
use Rattle.tao_trace.specs.Printing.{events_before}
use Rattle.tao_trace.specs.Places.{PlacesState}
use Rattle.tao_trace.specs.Tables.{Fit, FitSent, IsNext, word_fetched}
use Rattle.tao_trace.specs.declared.tables.Told.{Told}
use Rattle.tao_trace.specs.declared.tables.Sent.{Sent}
use Rattle.tao_trace.proofs.Following.{front_follows}
use Rattle.tao_trace.proofs.Texts.{leaf_is}

-- ---- one event more

-- an event with a request
one_request : (h : History) (place : ℕ) (e : Event) (request : Request) (old new : List Request) → IsNext h place e
    → requests h.opening (e ∷ events_before h place) ≡ requests h.opening (events_before h place) ++ request ∷ []
    → old ≡ requests h.opening (events_before h place) → new ≡ old ++ request ∷ [] → new ≡ requests h.opening (events_before h (place + 1))
one_request h place e request old new n adds before pushed =
    pushed ∙ ap (λ (l : List Request). l ++ request ∷ []) before ∙ sym adds ∙ sym (ap (requests h.opening) n.before)

pub fetch_traced : (h : History) (place client word arrival leaf : ℕ) (op : Op) (told : List Told) (values : List (List ℕ)) (places : PlacesState) (old new : List Request)
    → Fit h place told values places → IsNext h place (Arrive client op word)
    → arrival ≡ length told → leaf ≡ leaf_of h.opening.shape.l (word_fetched h.opening (events_before h place) op word)
    → old ≡ requests h.opening (events_before h place) → new ≡ old ++ Fetch arrival leaf ∷ [] → new ≡ requests h.opening (events_before h (place + 1))
fetch_traced h place client word arrival leaf op told values places old new f n at is before pushed =
    one_request h place (Arrive client op word) (Fetch (arrived (events_before h place)) fetched) old new n refl before
    (pushed ∙ ap (λ (l : ℕ). old ++ Fetch arrival l ∷ []) (is ∙ sym (leaf_is h.opening (events_before h place) client op word n.follows))
    ∙ ap (λ (i : ℕ). old ++ Fetch i fetched ∷ []) (at ∙ f.tables.arrivals))
  where
    fetched : ℕ
    fetched = fetched_leaf h.opening (Arrive client op word ∷ events_before h place) (arrived (events_before h place))

pub store_traced : (h : History) (place version nonce : ℕ) (buckets : List Bucket) (nodes : List ℕ) (old new : List Request)
    → IsNext h place (Issue version nonce buckets) → nodes ≡ nodes_in buckets
    → old ≡ requests h.opening (events_before h place) → new ≡ old ++ Store version nonce nodes ∷ [] → new ≡ requests h.opening (events_before h (place + 1))
store_traced h place version nonce buckets nodes old new n same before pushed =
    one_request h place (Issue version nonce buckets) (Store version nonce (nodes_in buckets)) old new n refl before
    (pushed ∙ ap (λ (l : List ℕ). old ++ Store version nonce l ∷ []) same)

-- an event without one
pub no_request : (h : History) (place : ℕ) (e : Event) (trace : List Request) → IsNext h place e
    → requests h.opening (e ∷ events_before h place) ≡ requests h.opening (events_before h place)
    → trace ≡ requests h.opening (events_before h place) → trace ≡ requests h.opening (events_before h (place + 1))
no_request h place e trace n same before = before ∙ sym same ∙ sym (ap (requests h.opening) n.before)

-- all events
pub all_before : (h : History) (place : ℕ) → place ≡ length h.events → events_before h place ≡ reverse h.events
all_before h place end = ap (events_before h) end ∙ ap reverse (take-length h.events)

-- ---- stores once more

-- no write-back has a version above their number
pub none_above : (o : Opening) (es : List Event) (v : ℕ) → FollowsLawfully o es → (v ≡ 0) ⊎ (issues es < v) → again_of es v ≡ []
none_above o [] v f other = refl
none_above o (Arrive client op word ∷ es) v f other = none_above o es v f.0 other
none_above o (Done arrival taken ∷ es) v f other = none_above o es v f.0 other
none_above o (Issue version nonce buckets ∷ es) v f (inl none) =
    let next = f.2.next in
    let not_this : version ≡ v → ⊥ = λ e. omega arith in
    rw (ne_eqb version v not_this) (none_above o es v f.0 (inl none))
none_above o (Issue version nonce buckets ∷ es) v f (inr above) =
    let next = f.2.next in
    let not_this : version ≡ v → ⊥ = λ e. omega arith in
    rw (ne_eqb version v not_this) (none_above o es v f.0 (inr (omega arith)))
none_above o (Acked version ∷ es) v f other = none_above o es v f.0 other
none_above o (Fault cause ∷ es) v f other = none_above o es v f.0 other

-- the row of a version that was issued
pub row_again : (h : History) (place again version : ℕ) (sent : List Sent) (once : ℕ) (row : Sent) → FitSent h place again sent once
    → (version ≡ 0 → ⊥) → version - 1 < length sent → row ≡ get_or sent (version - 1) row
    → again_of (events_before h place) version ≡ Again version row.nonce (nodes_in row.buckets.now) ∷ []
row_again h place again version sent once row f low high at =
    let this : version - 1 + 1 ≡ version = omega arith in
    subst (λ v. again_of (events_before h place) v ≡ Again v row.nonce (nodes_in row.buckets.now) ∷ []) this
    (subst (λ (r : Sent). again_of (events_before h place) (version - 1 + 1) ≡ Again (version - 1 + 1) r.nonce (nodes_in r.buckets.now) ∷ []) (sym at)
    (f.rows.each (version - 1) row high).request)

-- one that wasn't issued
pub no_row : (h : History) (place again version : ℕ) (sent : List Sent) (once : ℕ) → FollowsLawfully h.opening (reverse h.events) → FitSent h place again sent once
    → (version ≡ 0) ⊎ (length sent < version) → again_of (events_before h place) version ≡ []
no_row h place again version sent once follows f other = none_above h.opening (events_before h place) version (front_follows h place follows) (either other)
  where
    either : (version ≡ 0) ⊎ (length sent < version) → (version ≡ 0) ⊎ (issues (events_before h place) < version)
    either (inl zero_is) = inl zero_is
    either (inr above) = let len = f.rows.writes in inr (omega arith)

-- The write-backs of a record: what each of them has, and that a version has one.
use Rattle.std.proofs.Common.{◌≡◌, ℕ, ◌+◌, ◌*◌, ◌<◌, ◌≤◌, ◌⊎◌, ◌↔◌, inl, inr, Bool, false, List, [], ◌∷◌, reverse, length, zero, suc, All, sym, ap, ◌∙◌, subst, arith}
use Rattle.std.specs.Prelude.{Contains, min, max, IsTrue}
use Rattle.std.proofs.lemmas.Bool.{true≢false}
use Rattle.std.proofs.lemmas.List.{length-map, reverse-reverse}
use Rattle.std.proofs.lemmas.List.Sorted.{Contains-permutation, IsPermutation-reverse}
use Rattle.tao_base.specs.Buckets.{IsInForm}
use Rattle.tao_base.specs.declared.session.Event.{Event}
use Rattle.tao_base.specs.declared.session.Event.TheVariants.{Arrive, Done, Issue, Acked, Fault}
use Rattle.tao_base.specs.declared.storage.Bucket.{Bucket}
use Rattle.tao_base.specs.Limits.{Shape}
use Rattle.tao_base.specs.Links.{order_limit}
use Rattle.tao_base.specs.declared.storage.Order.{Order}
use Rattle.tao_base.specs.Session.{Opening, History}
use Rattle.tao_base.specs.Tree.{node_count}
use Rattle.tao_model.specs.Events.{issues}
use Rattle.tao_model.specs.Lawful.{FollowsLawfully, MayFollow, MayBeIssued, touched_after}
use Rattle.tao_images.specs.Orders.{IsOrderOf, IsIssued}
use Rattle.tao_tables.specs.WriteBacks.{IsRecentList}
use Rattle.tao_tables.proofs.KeptWrites.{recent_is_short}

-- a write-back of a record
pub record IsIssue (o : Opening) (es : List Event) (version : ℕ) (buckets : List Bucket) : Type 0 where
  pub low : 1 ≤ version
  pub high : version ≤ issues es
  pub in_form : All (IsInForm o.shape) buckets
  pub few : length buckets ≤ order_limit o.shape

-- the count of write-backs never falls
issues_grow : (e : Event) (es : List Event) → issues es ≤ issues (e ∷ es)
issues_grow (Arrive client op word) es = omega arith
issues_grow (Done i taken) es = omega arith
issues_grow (Issue version nonce buckets) es = omega arith
issues_grow (Acked version) es = omega arith
issues_grow (Fault cause) es = omega arith

within_limit : (s : Shape) (n : ℕ) → n ≤ node_count s.l → n ≤ s.k * (s.l + 1) → n ≤ order_limit s
within_limit s n nodes periods = least n (node_count s.l) (s.k * (s.l + 1)) nodes periods
  where
    least : (n a b : ℕ) → n ≤ a → n ≤ b → n ≤ min a (max 256 b)
    least n a b low high = omega arith

-- a write-back that may be made now
made : (o : Opening) (es : List Event) (version nonce : ℕ) (buckets : List Bucket) → FollowsLawfully o es → MayBeIssued o es version nonce buckets
    → IsIssue o (Issue version nonce buckets ∷ es) version buckets
made o es version nonce buckets f may =
    let recent : IsRecentList o es (touched_after o es (issues es * o.shape.k)) =
    subst (λ xs. IsRecentList o xs (touched_after o xs (issues xs * o.shape.k))) (reverse-reverse es)
    (recent_is_short o (reverse es) (subst (λ xs. FollowsLawfully o xs) (sym (reverse-reverse es)) f)) in
    let len : length buckets ≡ length (touched_after o es (issues es * o.shape.k)) = sym (length-map buckets (λ (bucket : Bucket). bucket.node)) ∙ ap length may.nodes in
    let next = may.next in
    record {
      low = omega arith;
      high = omega arith;
      in_form = may.in_form;
      few = within_limit o.shape (length buckets) (subst (λ n. n ≤ node_count o.shape.l) (sym len) recent.within) (subst (λ n. n ≤ o.shape.k * (o.shape.l + 1)) (sym len) recent.fits);
    }

issue_from : (o : Opening) (es : List Event) (version nonce : ℕ) (buckets : List Bucket) → FollowsLawfully o es → Contains es (Issue version nonce buckets)
    → IsIssue o es version buckets
issue_from o [] version nonce buckets f (k, low, at) = absurd (omega arith)
issue_from o (e ∷ es) version nonce buckets f (zero, low, at) =
    subst (λ x. IsIssue o (x ∷ es) version buckets) (sym at) (made o es version nonce buckets f.0 (subst (λ x. MayFollow o es x) at f.2))
issue_from o (e ∷ es) version nonce buckets f (suc k, low, at) =
    let is = issue_from o es version nonce buckets f.0 (k, omega arith, at) in
    let grow = issues_grow e es in
    let high = is.high in
    record { low = is.low; high = omega arith; in_form = is.in_form; few = is.few }

one_issue_from : (o : Opening) (es : List Event) (version n m : ℕ) (bs cs : List Bucket) → FollowsLawfully o es → Contains es (Issue version n bs) → Contains es (Issue version m cs)
    → Issue version n bs ≡ Issue version m cs
one_issue_from o [] version n m bs cs f (k, low, at) other = absurd (omega arith)
one_issue_from o (e ∷ es) version n m bs cs f (zero, low, at) (zero, low', at') = sym at ∙ at'
one_issue_from o (e ∷ es) version n m bs cs f (zero, low, at) (suc j, low', at') =
    let may : MayBeIssued o es version n bs = subst (λ x. MayFollow o es x) at f.2 in
    let next = may.next in
    let high = (issue_from o es version m cs f.0 (j, omega arith, at')).high in
    absurd (omega arith)
one_issue_from o (e ∷ es) version n m bs cs f (suc k, low, at) (zero, low', at') =
    let may : MayBeIssued o es version m cs = subst (λ x. MayFollow o es x) at' f.2 in
    let next = may.next in
    let high = (issue_from o es version n bs f.0 (k, omega arith, at)).high in
    absurd (omega arith)
one_issue_from o (e ∷ es) version n m bs cs f (suc k, low, at) (suc j, low', at') =
    one_issue_from o es version n m bs cs f.0 (k, omega arith, at) (j, omega arith, at')

-- what a write-back of a record has
pub issue_is : (o : Opening) (events : List Event) (version nonce : ℕ) (buckets : List Bucket) → FollowsLawfully o (reverse events) → Contains events (Issue version nonce buckets)
    → IsIssue o (reverse events) version buckets
issue_is o events version nonce buckets f there =
    issue_from o (reverse events) version nonce buckets f (Contains-permutation events (reverse events) (Issue version nonce buckets) (IsPermutation-reverse events) there)

-- a version has one write-back
pub one_issue : (o : Opening) (events : List Event) (version n m : ℕ) (bs cs : List Bucket) → FollowsLawfully o (reverse events) → Contains events (Issue version n bs)
    → Contains events (Issue version m cs) → Issue version n bs ≡ Issue version m cs
one_issue o events version n m bs cs f first second =
    one_issue_from o (reverse events) version n m bs cs f (Contains-permutation events (reverse events) (Issue version n bs) (IsPermutation-reverse events) first)
    (Contains-permutation events (reverse events) (Issue version m cs) (IsPermutation-reverse events) second)

-- ---- orders

abbrev nonce_in : Event → ℕ
nonce_in (Arrive client op word) = 0
nonce_in (Done i taken) = 0
nonce_in (Issue version nonce buckets) = nonce
nonce_in (Acked version) = 0
nonce_in (Fault cause) = 0

abbrev buckets_in : Event → List Bucket
buckets_in (Arrive client op word) = []
buckets_in (Done i taken) = []
buckets_in (Issue version nonce buckets) = buckets
buckets_in (Acked version) = []
buckets_in (Fault cause) = []

-- an order of a write-back is issued
pub order_is_issued : (key : List ℕ) (h : History) (n : ℕ) (bs : List Bucket) (order : Order) → Contains h.events (Issue order.version n bs)
    → IsOrderOf key h.opening.shape order.version n bs order → IsIssued key h order
order_is_issued key h n bs order there is =
    let same : n ≡ order.nonce = sym (ap (λ (x : Order). x.nonce) is) in
    (bs, subst (λ m. Contains h.events (Issue order.version m bs)) same there, subst (λ m. IsOrderOf key h.opening.shape order.version m bs order) same is)

-- an order that is issued is that of its version's write-back
pub issued_is_order : (key : List ℕ) (h : History) (n : ℕ) (bs : List Bucket) (order : Order) → FollowsLawfully h.opening (reverse h.events) → Contains h.events (Issue order.version n bs)
    → IsIssued key h order → IsOrderOf key h.opening.shape order.version n bs order
issued_is_order key h n bs order follows there issued =
    let same = one_issue h.opening h.events order.version order.nonce n issued.0 bs follows issued.1 there in
    subst (λ m. IsOrderOf key h.opening.shape order.version m bs order) (ap nonce_in same)
    (subst (λ cs. IsOrderOf key h.opening.shape order.version order.nonce cs order) (ap buckets_in same) issued.2)

-- a version that was never issued
pub none_issued : (key : List ℕ) (h : History) (order : Order) → FollowsLawfully h.opening (reverse h.events) → (order.version ≡ 0) ⊎ (issues (reverse h.events) < order.version)
    → IsTrue false ↔ IsIssued key h order
none_issued key h order follows never = (λ t. absurd (true≢false (sym t)), λ issued. absurd (either never (issue_is h.opening h.events order.version order.nonce issued.0 follows issued.1)))
  where
    either : {bs : List Bucket} → (order.version ≡ 0) ⊎ (issues (reverse h.events) < order.version) → IsIssue h.opening (reverse h.events) order.version bs → ⊥
    either (inl zero_is) is = let low = is.low in omega arith
    either (inr past) is = let high = is.high in omega arith

-- a comparison with the version's write-back tells which order is issued
pub told_by_order : (key : List ℕ) (h : History) (n : ℕ) (bs : List Bucket) (order : Order) {r : Bool} → FollowsLawfully h.opening (reverse h.events) → Contains h.events (Issue order.version n bs)
    → IsTrue r ↔ IsOrderOf key h.opening.shape order.version n bs order → IsTrue r ↔ IsIssued key h order
told_by_order key h n bs order follows there tells = (λ t. order_is_issued key h n bs order there (tells.0 t), λ issued. tells.1 (issued_is_order key h n bs order follows there issued))

-- Held nodes are clean, unless they were touched since the last write-back. The events `es` are newest first.
use Rattle.std.proofs.Common.{◌≡◌, ℕ, ◌+◌, ◌*◌, ◌≤◌, Bool, true, false, not, ◌&&◌, ◌||◌, cond, List, [], ◌∷◌, reverse, All, Option, Some, None, is_some, refl, sym, ap, ◌∙◌, arith, nat_eq, nat_lt, mul-le-mul_right}
use Rattle.std.specs.Option.{option_or}
use Rattle.std.proofs.lemmas.Bool.{lt-ltb, le-ltb, true≢false, or_from}
use Rattle.tao_base.specs.declared.session.Event.{Event}
use Rattle.tao_base.specs.declared.session.Event.TheVariants.{Arrive, Done, Issue, Acked, Fault}
use Rattle.tao_base.specs.declared.storage.Bucket.{Bucket}
use Rattle.tao_base.specs.declared.storage.Entry.{Entry}
use Rattle.tao_base.specs.Limits.{Shape}
use Rattle.tao_base.specs.Session.{Opening}
use Rattle.tao_model.specs.Events.{dones, issues}
use Rattle.tao_model.specs.Requests.{is_real, fetches, fetched_leaf, position}
use Rattle.tao_model.specs.Residence.{last_touch, bucket_of, departs, is_resident, newest_write}
use Rattle.tao_model.specs.Placement.{entries_at}
use Rattle.tao_model.specs.Lawful.{FollowsLawfully, MayBeIssued}
use Rattle.tao_model.proofs.LawfulToWhole.{paced}
use Rattle.tao_laws.proofs.RecentNodes.{written_where_recent}
use Rattle.tao_laws.proofs.WrittenNodes.{leaves_parts}
use Rattle.tao_contents.specs.CleanLaws.{CleanResidents, AreAllClean, touching}
use Rattle.tao_contents.proofs.Cleaned.{real_fetch_keeps_clean, fake_fetch_keeps_clean, issue_cleans, acknowledgement_keeps_clean}
use Rattle.tao_held.specs.Steps.{with_path}
use Rattle.tao_held.specs.Held.{held, after_fetch, found_in, block_on, value_since, newest_entries, entries_of_option, is_recent, WritesHeld}
use Rattle.tao_fresh.specs.FreshLaws.{ResidentsAreClean}
use Rattle.tao_fresh.proofs.WrittenBuckets.{bucket_found}

-- a fetch, real or fake
fetch_keeps_clean : (real : Bool) (s : Shape) (at : ℕ) (leaf : ℕ → ℕ) (resident recent recent' : ℕ → Bool) (taken own newest : ℕ → List Entry) (block : ℕ) (value : List ℕ)
    → ((w : ℕ) → recent' w ≡ false → touching s.l at recent w ≡ false)
    → CleanResidents resident recent own newest
    → CleanResidents (with_path s.l at resident) recent' (after_fetch real s at leaf resident taken own block value) newest
fetch_keeps_clean true s at leaf resident recent recent' taken own newest block value old clean w low held_now is_old =
    real_fetch_keeps_clean s at leaf resident recent taken own newest block value clean w low held_now (old w is_old)
fetch_keeps_clean false s at leaf resident recent recent' taken own newest block value old clean w low held_now is_old =
    fake_fetch_keeps_clean s at leaf resident recent taken own newest clean w low held_now (old w is_old)

-- the Done of number n + 1; `t` says whether it touches the node
old_step : (t : Bool) (n m last : ℕ) → m ≤ n → nat_lt m (cond t (n + 1) last) ≡ false → (nat_lt m last || t) ≡ false
old_step true n m last paced_so old = absurd (true≢false (sym (lt-ltb m (n + 1) (omega arith)) ∙ old))
old_step false n m last paced_so old = or_from (nat_lt m last) false old refl

-- the latest entries of a node after a write-back of what is held
issued_entries : (o : Opening) (es : List Event) (w : ℕ) (buckets : List Bucket) → All (λ bucket. bucket.entries ≡ held o es bucket.node) buckets
    → is_some (bucket_of w buckets) ≡ true → entries_of_option (option_or (bucket_of w buckets) (newest_write o es w)) ≡ held o es w
issued_entries o es w buckets true_ones on = either (bucket_of w buckets) refl on
  where
    either : (x : Option Bucket) → bucket_of w buckets ≡ x → is_some x ≡ true → entries_of_option (option_or x (newest_write o es w)) ≡ held o es w
    either None is on = absurd (true≢false (sym on))
    either (Some x) is on =
        let found = bucket_found (λ bucket. bucket.entries ≡ held o es bucket.node) w buckets true_ones x is in
        found.0 ∙ ap (held o es) found.1

pub unissued_entries : (o : Opening) (es : List Event) (w : ℕ) (buckets : List Bucket) → is_some (bucket_of w buckets) ≡ false
    → entries_of_option (option_or (bucket_of w buckets) (newest_write o es w)) ≡ newest_entries o es w
unissued_entries o es w buckets off = either (bucket_of w buckets) off
  where
    either : (x : Option Bucket) → is_some x ≡ false → entries_of_option (option_or x (newest_write o es w)) ≡ newest_entries o es w
    either None off = refl
    either (Some x) off = absurd (true≢false off)

pub all_clean_at_issue : (o : Opening) (es : List Event) (version nonce : ℕ) (buckets : List Bucket) → MayBeIssued o es version nonce buckets
    → All (λ bucket. bucket.entries ≡ held o es bucket.node) buckets
    → CleanResidents (λ w. is_resident o es w) (λ w. is_recent o es w) (λ w. held o es w) (λ w. newest_entries o es w)
    → AreAllClean (λ w. is_resident o es w) (λ w. held o es w) (λ w. newest_entries o (Issue version nonce buckets ∷ es) w)
all_clean_at_issue o es version nonce buckets may true_ones clean =
    issue_cleans (λ w. is_resident o es w) (λ w. is_recent o es w) (λ w. is_some (bucket_of w buckets)) (λ w. held o es w) (λ w. newest_entries o es w)
    (λ w. newest_entries o (Issue version nonce buckets ∷ es) w)
    (λ w low recent. written_where_recent o es version nonce buckets w may ∙ recent)
    (λ w on. issued_entries o es w buckets true_ones on)
    (λ w off. unissued_entries o es w buckets off) clean

-- a node that an acknowledgement lets go isn't recent
pub departing_is_old : (o : Opening) (es : List Event) (version w : ℕ) → version ≤ issues es → departs o es version w ≡ true → is_recent o es w ≡ false
departing_is_old o es version w known leaves =
    let parts = leaves_parts o es version w leaves in
    let touched = parts.1 in
    let before : version * o.shape.k ≤ issues es * o.shape.k = mul-le-mul_right o.shape.k known in
    le-ltb (issues es * o.shape.k) (last_touch o es w) (omega arith)

-- a node that stays keeps its entries
pub stays_held : (o : Opening) (es : List Event) (version w : ℕ) → is_resident o es w ≡ true → departs o es version w ≡ false → held o (Acked version ∷ es) w ≡ held o es w
unfolding held
stays_held o es version w there stays = either (nat_eq w 0)
  where
    either : (z : Bool) → cond (z || (is_resident o es w && not (departs o es version w))) (held o es w) [] ≡ held o es w
    either true = refl
    either false = rw (there, stays) refl

pub clean_from : (o : Opening) (es : List Event) → FollowsLawfully o es → WritesHeld o es
    → CleanResidents (λ w. is_resident o es w) (λ w. is_recent o es w) (λ w. held o es w) (λ w. newest_entries o es w)
unfolding held
clean_from o [] f h = λ w low there old. absurd (true≢false (sym there))
clean_from o (Arrive client op word ∷ es) f h = clean_from o es f.0 h
clean_from o (Done i taken ∷ es) f h =
    fetch_keeps_clean (is_real es i) o.shape (fetched_leaf o es i) (λ block. position o (Done i taken ∷ es) block) (λ w. is_resident o es w) (λ w. is_recent o es w)
    (λ w. is_recent o (Done i taken ∷ es) w) (entries_at taken) (λ w. held o es w) (λ w. newest_entries o es w) (block_on es i)
    (value_since es (block_on es i) i (found_in o es (λ w. held o es w) i taken))
    (λ w old. old_step (fetches o es i w) (dones es) (issues es * o.shape.k) (last_touch o es w) (paced o es f.0) old)
    (clean_from o es f.0 h)
clean_from o (Issue version nonce buckets ∷ es) f h = λ w low there old. all_clean_at_issue o es version nonce buckets f.2 h.1 (clean_from o es f.0 h.0) w low there
clean_from o (Acked version ∷ es) f h =
    acknowledgement_keeps_clean (λ w. is_resident o es w) (λ w. is_recent o es w) (λ w. departs o es version w) (λ w. held o es w) (λ w. held o (Acked version ∷ es) w)
    (λ w. newest_entries o es w) (λ w there stays. stays_held o es version w there stays) (clean_from o es f.0 h)
clean_from o (Fault cause ∷ es) f h = clean_from o es f.0 h

pub residents_are_clean : ResidentsAreClean
residents_are_clean o events p = clean_from o (reverse events) p.follows p.writes

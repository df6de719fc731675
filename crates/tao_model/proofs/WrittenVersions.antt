-- What was written under a version. The events `es` are newest first.
use Rattle.std.proofs.Common.{◌≡◌, ℕ, ◌+◌, ◌<◌, ◌≤◌, Bool, true, false, ◌&&◌, ◌||◌, List, [], ◌∷◌, ◌++◌, reverse, length, get_or, None, is_some, refl, sym, ap, ◌∙◌, subst, arith, inl, inr, ◌⊎◌, nat_eq}
use Rattle.std.specs.List.{filter_map}
use Rattle.std.proofs.lemmas.Bool.{cases_eq, eq-eqb, ne_eqb}
use Rattle.std.proofs.lemmas.List.{reverse-reverse, get_or_append_left, get_or_push}
use Rattle.std.proofs.lemmas.List.Elements.{filter_map-append}
use Rattle.tao_base.specs.declared.session.Event.{Event}
use Rattle.tao_base.specs.declared.session.Event.TheVariants.{Arrive, Done, Issue, Acked, Fault}
use Rattle.tao_base.specs.declared.storage.Bucket.{Bucket}
use Rattle.tao_base.specs.Session.{Opening}
use Rattle.tao_model.specs.Events.{issues}
use Rattle.tao_model.specs.Residence.{bucket_of, is_issued}
use Rattle.tao_model.specs.LookBacks.{buckets_of, written, written_at, WrittenStays, IssueIsWritten, IssuedIsWritten}
use Rattle.tao_model.specs.Lawful.{FollowsLawfully}
use Rattle.tao_model.proofs.NewestWrites.{versions_listed}
use Rattle.tao_model.proofs.DonesInOrder.{picked_more, picked_same}
use Rattle.tao_model.proofs.Stays.{newest_first}

listed : (o : Opening) (events : List Event) → length (written o events) ≡ issues (reverse events) + 1
listed o events = ap (λ l. length (written o l)) (sym (reverse-reverse events)) ∙ versions_listed o (reverse events)

pub written_stays : WrittenStays
written_stays o events later v node low =
    let long = listed o events in
    ap (λ l. bucket_of node (get_or (o.loaded ∷ l) v [])) (filter_map-append buckets_of events later)
    ∙ ap (bucket_of node) (get_or_append_left (written o events) (filter_map buckets_of later) [] v (omega arith))

pub issue_is_written : IssueIsWritten
issue_is_written o events v nonce buckets node f =
    let follows = subst (FollowsLawfully o) (newest_first events (Issue v nonce buckets)) f in
    let next : v ≡ issues (reverse events) + 1 = follows.2.next in
    ap (λ l. bucket_of node (get_or (o.loaded ∷ l) v [])) (filter_map-append buckets_of events (Issue v nonce buckets ∷ []))
    ∙ ap (bucket_of node) (get_or_push (written o events) buckets [] v (listed o events ∙ sym next))

-- ---- the nodes of a version

abbrev at : Opening → List Event → ℕ → ℕ → Bool
at o es v node = is_some (bucket_of node (get_or (written o (reverse es)) v []))

same_at : (o : Opening) (es : List Event) (e : Event) (v node : ℕ) → buckets_of e ≡ None → at o (e ∷ es) v node ≡ at o es v node
same_at o es e v node none = ap (λ l. is_some (bucket_of node (get_or (o.loaded ∷ l) v []))) (picked_same buckets_of es e none)

more_at : (o : Opening) (es : List Event) (version nonce : ℕ) (buckets : List Bucket) (v node : ℕ)
    → at o (Issue version nonce buckets ∷ es) v node ≡ is_some (bucket_of node (get_or (written o (reverse es) ++ buckets ∷ []) v []))
more_at o es version nonce buckets v node = ap (λ l. is_some (bucket_of node (get_or (o.loaded ∷ l) v []))) (picked_more buckets_of es (Issue version nonce buckets))

-- a version that isn't issued yet has no node
pub issued_past : (o : Opening) (es : List Event) (v node : ℕ) → FollowsLawfully o es → issues es < v → is_issued es v node ≡ false
issued_past o [] v node f high = refl
issued_past o (Arrive client op word ∷ es) v node f high = issued_past o es v node f.0 high
issued_past o (Done arrival taken ∷ es) v node f high = issued_past o es v node f.0 high
issued_past o (Issue version nonce buckets ∷ es) v node f high =
    let next = f.2.next in rw (ne_eqb version v (λ same. omega (arith, next))) (issued_past o es v node f.0 (omega arith))
issued_past o (Acked version ∷ es) v node f high = issued_past o es v node f.0 high
issued_past o (Fault cause ∷ es) v node f high = issued_past o es v node f.0 high

pub issued_at : (o : Opening) (es : List Event) (v node : ℕ) → FollowsLawfully o es → 0 < v → v ≤ issues es → is_issued es v node ≡ at o es v node
issued_at o [] v node f some low = absurd (omega arith)
issued_at o (Arrive client op word ∷ es) v node f some low = issued_at o es v node f.0 some low ∙ sym (same_at o es (Arrive client op word) v node refl)
issued_at o (Done arrival taken ∷ es) v node f some low = issued_at o es v node f.0 some low ∙ sym (same_at o es (Done arrival taken) v node refl)
issued_at o (Issue version nonce buckets ∷ es) v node f some low =
    either (cases_eq version v) (λ less. issued_at o es v node f.0 some less) ∙ sym (more_at o es version nonce buckets v node)
  where
    next : version ≡ issues es + 1
    next = f.2.next

    long : length (written o (reverse es)) ≡ issues es + 1
    long = versions_listed o es

    none : version ≡ v → is_issued es v node ≡ false
    none same = issued_past o es v node f.0 (omega (arith, next, same))

    or_none : (t : Bool) → (t || false) ≡ t
    or_none true = refl
    or_none false = refl

    either : (version ≡ v) ⊎ (version ≡ v → ⊥) → (v ≤ issues es → is_issued es v node ≡ at o es v node)
        → ((nat_eq version v && is_some (bucket_of node buckets)) || is_issued es v node) ≡ is_some (bucket_of node (get_or (written o (reverse es) ++ buckets ∷ []) v []))
    either (inl same) ih = rw (eq-eqb version v same, none same)
        (or_none (is_some (bucket_of node buckets)) ∙ sym (ap (λ l. is_some (bucket_of node l)) (get_or_push (written o (reverse es)) buckets [] v (long ∙ sym next ∙ same))))
    either (inr other) ih = rw (ne_eqb version v other)
        (ih (omega (arith, next, low)) ∙ sym (ap (λ l. is_some (bucket_of node l)) (get_or_append_left (written o (reverse es)) (buckets ∷ []) [] v (omega (arith, next, long, low)))))
issued_at o (Acked version ∷ es) v node f some low = issued_at o es v node f.0 some low ∙ sym (same_at o es (Acked version) v node refl)
issued_at o (Fault cause ∷ es) v node f some low = issued_at o es v node f.0 some low ∙ sym (same_at o es (Fault cause) v node refl)

pub issued_is_written : IssuedIsWritten
issued_is_written o events v node f some low =
    issued_at o (reverse events) v node f some low ∙ ap (λ l. is_some (written_at o l v node)) (reverse-reverse events)

-- What is written is fresh. The events `es` are newest first.
use Rattle.std.proofs.Common.{◌≡◌, ℕ, ◌+◌, ◌*◌, ◌<◌, Bool, true, false, List, [], ◌∷◌, reverse, length, All, sym, ap, ◌∙◌, subst, arith, inl, inr, ◌⊎◌, mod-lt}
use Rattle.std.proofs.lemmas.Bool.{or_right}
use Rattle.std.proofs.lemmas.Nat.{pow_pos}
use Rattle.tao_base.specs.declared.session.Event.{Event}
use Rattle.tao_base.specs.declared.session.Event.TheVariants.{Arrive, Done, Issue, Acked, Fault}
use Rattle.tao_base.specs.declared.storage.Bucket.{Bucket}
use Rattle.tao_base.specs.declared.storage.Entry.{Entry}
use Rattle.tao_base.specs.Limits.{Shape, IsShape}
use Rattle.tao_base.specs.Session.{Opening}
use Rattle.tao_base.specs.Array.{block_at}
use Rattle.tao_base.specs.Tree.{path, is_on_path}
use Rattle.tao_model.specs.Events.{dones, issues, word_at}
use Rattle.tao_model.specs.Requests.{is_real, leaf_at, fetches, fetched_leaf, position}
use Rattle.tao_model.specs.Residence.{is_resident, Unaltered, HasEntriesOf}
use Rattle.tao_model.specs.Placement.{look, entries_at, IsEvicted}
use Rattle.tao_model.specs.FreshCopy.{FreshCopy}
use Rattle.tao_model.specs.Lawful.{FollowsLawfully, OpensWithLoad, MayBeIssued}
use Rattle.tao_model.proofs.OneEviction.{eviction_is_placed}
use Rattle.tao_model.proofs.LawfulToWhole.{follows_opening}
use Rattle.tao_laws.specs.SettledValues.{settled_value}
use Rattle.tao_laws.proofs.RecentNodes.{leaf_low}
use Rattle.tao_contents.specs.CleanLaws.{AreAllClean}
use Rattle.tao_contents.specs.WriteBackLaws.{FreshWrites, IsWrittenOnce, IsUnwritten}
use Rattle.tao_contents.proofs.Opened.{load_writes_fresh}
use Rattle.tao_contents.proofs.WrittenBack.{write_back_is_fresh}
use Rattle.tao_held.specs.Steps.{take_in, put}
use Rattle.tao_held.specs.Held.{held, after_fetch, found_in, block_on, value_since, newest_entries, WritesHeld}
use Rattle.tao_fresh.specs.FreshLaws.{present, last_leaf, FreshWritesOf, WritesAreFresh}
use Rattle.tao_fresh.proofs.WrittenBuckets.{entries_found}
use Rattle.tao_fresh.proofs.CleanNodes.{clean_from, all_clean_at_issue}
use Rattle.tao_fresh.proofs.FreshCopies.{fresh_from}

writes_alike : (s : Shape) (leaf : ℕ → ℕ) (value : ℕ → List ℕ) (filled : ℕ → Bool) (newest newest' : ℕ → List Entry) → ((w : ℕ) → newest w ≡ newest' w)
    → FreshWrites s leaf value filled newest → FreshWrites s leaf value filled newest'
writes_alike s leaf value filled newest newest' same fresh b low = either (fresh b low)
  where
    either : IsWrittenOnce (is_on_path s.l (leaf b)) b (value b) newest ⊎ IsUnwritten (is_on_path s.l (leaf b)) filled s.z b newest
        → IsWrittenOnce (is_on_path s.l (leaf b)) b (value b) newest' ⊎ IsUnwritten (is_on_path s.l (leaf b)) filled s.z b newest'
    either (inl one) = inl (record {
      node = one.node;
      low = one.low;
      lies = one.lies;
      there = ap (look b) (sym (same one.node)) ∙ one.there;
      alone = λ w node other. ap (look b) (sym (same w)) ∙ one.alone w node other;
    })
    either (inr none) = inr (record {
      nowhere = λ w node. ap (look b) (sym (same w)) ∙ none.nowhere w node;
      full = λ w on just. let P : List Entry → Type 0 = λ entries. (length entries ≡ s.z) × All (λ entry. entry.id < b) entries in subst P (same w) (none.full w on just);
    })

-- a fetch ends with an eviction
pub fetch_evicts : (real : Bool) (s : Shape) (at : ℕ) (leaf : ℕ → ℕ) (resident : ℕ → Bool) (taken own : ℕ → List Entry) (block : ℕ) (value : List ℕ)
    → (old : ℕ → List Entry) × IsEvicted s (path s.l at) leaf old (after_fetch real s at leaf resident taken own block value)
fetch_evicts true s at leaf resident taken own block value =
    (put (take_in s.l at resident taken own) block value, eviction_is_placed s (path s.l at) leaf (put (take_in s.l at resident taken own) block value))
fetch_evicts false s at leaf resident taken own block value = (take_in s.l at resident taken own, eviction_is_placed s (path s.l at) leaf (take_in s.l at resident taken own))

-- a write-back is due
due_now : (o : Opening) (es : List Event) (version nonce : ℕ) (buckets : List Bucket) → MayBeIssued o es version nonce buckets → dones es ≡ (issues es + 1) * o.shape.k
due_now o es version nonce buckets may = may.due ∙ ap (λ v. v * o.shape.k) may.next

some_period : (o : Opening) (es : List Event) → FollowsLawfully o es → 0 < o.shape.k
some_period o es f = let opening = follows_opening o es f in let shape : IsShape o.shape = opening.shape in let low = shape.period_low in omega arith

-- right after a write-back, which comes right after a Done
fresh_write_back : (o : Opening) (es : List Event) (version nonce : ℕ) (buckets : List Bucket) → FollowsLawfully o es → MayBeIssued o es version nonce buckets
    → AreAllClean (λ w. is_resident o es w) (λ w. held o es w) (λ w. newest_entries o (Issue version nonce buckets ∷ es) w)
    → FreshCopy o.shape (λ b. position o (Issue version nonce buckets ∷ es) b) (λ b. settled_value o (Issue version nonce buckets ∷ es) b) (present o (Issue version nonce buckets ∷ es))
    → FreshWrites o.shape (λ b. position o (Issue version nonce buckets ∷ es) b) (λ b. settled_value o (Issue version nonce buckets ∷ es) b)
    (is_on_path o.shape.l (last_leaf o es)) (λ w. newest_entries o (Issue version nonce buckets ∷ es) w)
unfolding held
fresh_write_back o [] version nonce buckets f may clean fresh =
    let due = due_now o [] version nonce buckets may in let some = some_period o [] f in absurd (omega arith)
fresh_write_back o (Arrive client op word ∷ es) version nonce buckets f may clean fresh =
    let due = due_now o (Arrive client op word ∷ es) version nonce buckets may in let owes = f.2.0 in absurd (omega arith)
fresh_write_back o (Done i taken ∷ es) version nonce buckets f may clean fresh =
    let evicts = fetch_evicts (is_real es i) o.shape (fetched_leaf o es i) (λ b. position o (Done i taken ∷ es) b) (λ w. is_resident o es w) (entries_at taken) (λ w. held o es w) (block_on es i)
    (value_since es (block_on es i) i (found_in o es (λ w. held o es w) i taken)) in
    write_back_is_fresh o.shape (fetched_leaf o es i) (λ b. position o (Done i taken ∷ es) b) (λ b. settled_value o (Done i taken ∷ es) b) (λ w. is_resident o (Done i taken ∷ es) w)
    evicts.0 (λ w. held o (Done i taken ∷ es) w) (λ w. newest_entries o (Issue version nonce buckets ∷ Done i taken ∷ es) w) (leaf_low o es i)
    (λ w on. or_right (is_resident o es w) (fetches o es i w) on) evicts.1 clean fresh
fresh_write_back o (Issue v n xs ∷ es) version nonce buckets f may clean fresh =
    let due = due_now o (Issue v n xs ∷ es) version nonce buckets may in
    let before = due_now o es v n xs f.2 in
    let some = some_period o es f.0 in
    absurd (omega arith)
fresh_write_back o (Acked v ∷ es) version nonce buckets f may clean fresh =
    let due = due_now o (Acked v ∷ es) version nonce buckets may in let owes = f.2.0 in absurd (omega arith)
fresh_write_back o (Fault cause ∷ es) version nonce buckets f may clean fresh =
    let due = due_now o (Fault cause ∷ es) version nonce buckets may in let owes = f.2.0 in absurd (omega arith)

pub writes_from : (o : Opening) (es : List Event) → OpensWithLoad o → FollowsLawfully o es → WritesHeld o es → Unaltered HasEntriesOf o es → FreshWritesOf o es
unfolding held
writes_from o [] opens f h u =
    writes_alike o.shape (λ b. position o [] b) (λ b. block_at o.first b) (λ w. true) (entries_at o.loaded) (λ w. newest_entries o [] w) (λ w. sym (entries_found w o.loaded))
    (load_writes_fresh o.shape (λ b. leaf_at o [] b) o.first o.loaded (λ b low. mod-lt (word_at o [] b) (pow_pos o.shape.l)) opens.placed)
writes_from o (Arrive client op word ∷ es) opens f h u = writes_from o es opens f.0 h u
writes_from o (Done i taken ∷ es) opens f h u = writes_from o es opens f.0 h u.0
writes_from o (Issue version nonce buckets ∷ es) opens f h u = (
  writes_from o es opens f.0 h.0 u,
  fresh_write_back o es version nonce buckets f.0 f.2 (all_clean_at_issue o es version nonce buckets f.2 h.1 (clean_from o es f.0 h.0))
      (fresh_from o (Issue version nonce buckets ∷ es) opens f h u),
)
writes_from o (Acked version ∷ es) opens f h u = writes_from o es opens f.0 h u
writes_from o (Fault cause ∷ es) opens f h u = writes_from o es opens f.0 h u

pub writes_are_fresh : WritesAreFresh
writes_are_fresh o events p u = writes_from o (reverse events) p.opens p.follows p.writes u

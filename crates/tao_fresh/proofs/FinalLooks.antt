-- When all is done, a scan sees the plain array. The events `es` are newest first.
use Rattle.std.proofs.Common.{◌≡◌, ℕ, ◌+◌, ◌*◌, ◌<◌, ◌≤◌, true, false, List, [], ◌∷◌, reverse, Option, Some, None, is_some, refl, sym, ap, ◌∙◌, arith, inl, inr, ◌⊎◌, nat_lt, mod-lt}
use Rattle.std.specs.Option.{option_or}
use Rattle.std.specs.List.{range_with_len}
use Rattle.std.proofs.lemmas.Bool.{cases_lt, true≢false, and_parts, false_from_ne_true}
use Rattle.std.proofs.lemmas.Nat.{pow_pos}
use Rattle.tao_base.specs.declared.session.Event.{Event}
use Rattle.tao_base.specs.declared.session.Event.TheVariants.{Arrive, Done, Issue, Acked, Fault}
use Rattle.tao_base.specs.declared.storage.Bucket.{Bucket}
use Rattle.tao_base.specs.Session.{Opening}
use Rattle.tao_base.specs.Tree.{node_count}
use Rattle.tao_model.specs.Events.{issues, word_at}
use Rattle.tao_model.specs.Requests.{position, position_word}
use Rattle.tao_model.specs.Residence.{last_touch, bucket_of, is_resident, newest_write}
use Rattle.tao_model.specs.Replies.{array_now}
use Rattle.tao_model.specs.Placement.{entries_at}
use Rattle.tao_model.specs.Lawful.{FollowsLawfully, OpensWithLoad, touched_after}
use Rattle.tao_model.proofs.FallingPaths.{has}
use Rattle.tao_model.proofs.LawfulToWhole.{follows_opening}
use Rattle.tao_held.specs.Held.{held, newest_entries, entries_of_option}
use Rattle.tao_contents.proofs.Seen.{final_array}
use Rattle.tao_laws.specs.SettledValues.{settled_value}
use Rattle.tao_laws.proofs.CountedWork.{work_from}
use Rattle.tao_laws.proofs.Listings.{has_filter, range_has}
use Rattle.tao_laws.proofs.RecentNodes.{bucket_in}
use Rattle.tao_laws.proofs.RightValues.{right_from, length_now}
use Rattle.tao_fresh.specs.FreshLaws.{IsHonestScan, ArrayIsSeen}
use Rattle.tao_fresh.proofs.WrittenBuckets.{bucket_found, entries_found}
use Rattle.tao_fresh.proofs.FreshCopies.{fresh_from}

-- ---- nothing is written outside the tree

past_range : (a n w : ℕ) → a + n ≤ w → has w (range_with_len a n) ≡ false
past_range a n w past = false_from_ne_true (has w (range_with_len a n)) (λ on. let both = range_has a n w on in let high = both.1 in omega arith)

none_of : {X : Type 0} (x : Option X) → is_some x ≡ false → x ≡ None
none_of None off = refl
none_of (Some y) off = absurd (true≢false off)

pub written_past : (o : Opening) (es : List Event) (w : ℕ) → OpensWithLoad o → FollowsLawfully o es → node_count o.shape.l < w → newest_write o es w ≡ None
written_past o [] w opens f past = none_of (bucket_of w o.loaded) (bucket_in w o.loaded ∙ ap (has w) opens.numbered.nodes ∙ past_range 1 (node_count o.shape.l) w (omega arith))
written_past o (Arrive client op word ∷ es) w opens f past = written_past o es w opens f.0 past
written_past o (Done arrival taken ∷ es) w opens f past = written_past o es w opens f.0 past
written_past o (Issue version nonce buckets ∷ es) w opens f past =
    ap (λ x. option_or x (newest_write o es w)) (none_of (bucket_of w buckets) (bucket_in w buckets ∙ ap (has w) f.2.nodes
    ∙ false_from_ne_true (has w (touched_after o es (issues es * o.shape.k))) (λ on. never on)))
    ∙ written_past o es w opens f.0 past
  where
    never : has w (touched_after o es (issues es * o.shape.k)) ≡ true → ⊥
    never on =
        let parts = and_parts (nat_lt (issues es * o.shape.k) (last_touch o es w)) (has w (range_with_len 1 (node_count o.shape.l)))
        (sym (has_filter (λ v. nat_lt (issues es * o.shape.k) (last_touch o es v)) w (range_with_len 1 (node_count o.shape.l))) ∙ on) in
        true≢false (sym parts.1 ∙ past_range 1 (node_count o.shape.l) w (omega arith))
written_past o (Acked version ∷ es) w opens f past = written_past o es w opens f.0 past
written_past o (Fault cause ∷ es) w opens f past = written_past o es w opens f.0 past

-- ---- the scan

scan_reads : (o : Opening) (es : List Event) (taken : List Bucket) → OpensWithLoad o → FollowsLawfully o es → IsHonestScan o es taken
    → (w : ℕ) → 0 < w → is_resident o es w ≡ false → entries_at taken w ≡ newest_entries o es w
scan_reads o es taken opens f scan w low away = sym (entries_found w taken) ∙ either (bucket_of w taken) refl
  where
    either : (x : Option Bucket) → bucket_of w taken ≡ x → entries_of_option (bucket_of w taken) ≡ newest_entries o es w
    either (Some x) is =
        let found = bucket_found (λ bucket. bucket.entries ≡ newest_entries o es bucket.node) w taken scan.honest x is in
        ap entries_of_option is ∙ found.0 ∙ ap (newest_entries o es) found.1
    either None is = ap entries_of_option is ∙ ap entries_of_option (sym (written_past o es w opens f (past (cases_lt (node_count o.shape.l) w))))
      where
        past : (node_count o.shape.l < w) ⊎ (w ≤ node_count o.shape.l) → node_count o.shape.l < w
        past (inl beyond) = beyond
        past (inr within) = absurd (true≢false (sym (scan.all w (omega arith) within away) ∙ sym (bucket_in w taken) ∙ ap is_some is))

pub array_is_seen : ArrayIsSeen
array_is_seen o events taken nodes p u full scan all =
    final_array o.shape (array_now o (reverse events)) (λ b. position o (reverse events) b) (λ b. settled_value o (reverse events) b) (λ w. is_resident o (reverse events) w)
    (λ w. held o (reverse events) w) (λ w. newest_entries o (reverse events) w) (entries_at taken) nodes (record {
      blocks = length_now o (reverse events) ∙ (follows_opening o (reverse events) p.follows).blocks;
      leaves = λ b low. mod-lt (word_at o (reverse events) (position_word o (reverse events) b)) (pow_pos o.shape.l);
      quiet = λ b low. (right_from o (reverse events) b).quiet (λ i there on real. (work_from o (reverse events) p.follows).all full i there);
      honest = scan_reads o (reverse events) taken p.opens p.follows scan;
      fresh = fresh_from o (reverse events) p.opens p.follows p.writes u;
    }) all

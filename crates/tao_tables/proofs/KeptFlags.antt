-- Flags and tags under one more event. The events `es` are newest first.
use Rattle.std.proofs.Common.{◌≡◌, ℕ, ◌+◌, ◌-◌, ◌<◌, ◌≤◌, Bool, true, false, ◌||◌, cond, List, [], ◌∷◌, reverse, replicate, set, get_or, Option, Some, None, is_some, refl, sym, ap, ◌∙◌, arith, inl, inr, ◌⊎◌, nat_eq}
use Rattle.std.specs.Option.{option_or, option_map_or}
use Rattle.std.proofs.lemmas.Bool.{cases_lt, true≢false}
use Rattle.std.proofs.lemmas.List.{length-set, length-replicate, get_or-replicate, get_or_past}
use Rattle.tao_base.specs.declared.session.Event.{Event}
use Rattle.tao_base.specs.declared.session.Event.TheVariants.{Arrive, Done, Issue, Acked, Fault}
use Rattle.tao_base.specs.declared.storage.Bucket.{Bucket}
use Rattle.tao_base.specs.Limits.{session_limit}
use Rattle.tao_base.specs.Session.{Opening}
use Rattle.tao_model.specs.Events.{arrived, issues, is_done, is_acked}
use Rattle.tao_model.specs.Residence.{bucket_of, newest_write, newest_version}
use Rattle.tao_model.specs.Replies.{released}
use Rattle.tao_model.specs.Lawful.{FollowsLawfully}
use Rattle.tao_model.proofs.Stays.{newest_first}
use Rattle.tao_model.proofs.Places.{done_arrived}
use Rattle.tao_model.proofs.Growth.{IsLeading, leading_is}
use Rattle.tao_model.proofs.LawfulToWhole.{arrived_within}
use Rattle.tao_laws.proofs.CountedWork.{acked_known, work_from, shifted}
use Rattle.tao_sequence.specs.Release.{is_done_in}
use Rattle.tao_sequence.proofs.Flags.{raised}
use Rattle.tao_tables.specs.Flags.{TellsFlags, IsFree, FlagsAreTold, FlagsAtStart, ReleasedByFlags, AckedByFlags}
use Rattle.tao_tables.specs.Tags.{TellsTags, ReplacesTags, TagsAreTold, TagsAtStart}
use Rattle.tao_tables.proofs.WrittenTables.{newest_write_is}

-- ---- flags

done_is_free : (o : Opening) (es : List Event) (i : ℕ) (taken : List Bucket) (flags marks : List Bool) → TellsFlags o es flags marks → FollowsLawfully o (Done i taken ∷ es) → IsFree flags i
done_is_free o es i taken flags marks tells f =
    let len = tells.done_len in let limit = arrived_within o es f.0 in let there = f.2.1.arrived in
    record { within = omega arith; down = tells.dones i ∙ f.2.1.under_way }

acked_is_free : (o : Opening) (es : List Event) (version : ℕ) (flags marks : List Bool) → TellsFlags o es flags marks → FollowsLawfully o (Acked version ∷ es) → IsFree marks (version - 1)
acked_is_free o es version flags marks tells f =
    let len = tells.acked_len in let limit = arrived_within o es f.0 in let few = (work_from o es f.0).written in let low = f.2.1 in let high = f.2.2 in
    let back : version - 1 + 1 ≡ version = omega arith in
    record { within = omega arith; down = tells.acks (version - 1) ∙ ap (is_acked es) back ∙ f.2.3 }

done_raised : (o : Opening) (es : List Event) (i : ℕ) (taken : List Bucket) (flags marks : List Bool) → TellsFlags o es flags marks → FollowsLawfully o (Done i taken ∷ es)
    → TellsFlags o (Done i taken ∷ es) (set flags i true) marks
done_raised o es i taken flags marks tells f = record {
  done_len = length-set flags i true ∙ tells.done_len;
  acked_len = tells.acked_len;
  dones = λ j. raised flags i j (done_is_free o es i taken flags marks tells f).within ∙ ap (λ t. nat_eq i j || t) (tells.dones j);
  acks = tells.acks;
}

acked_raised : (o : Opening) (es : List Event) (version : ℕ) (flags marks : List Bool) → TellsFlags o es flags marks → FollowsLawfully o (Acked version ∷ es)
    → TellsFlags o (Acked version ∷ es) flags (set marks (version - 1) true)
acked_raised o es version flags marks tells f = record {
  done_len = tells.done_len;
  acked_len = length-set marks (version - 1) true ∙ tells.acked_len;
  dones = tells.dones;
  acks = λ u. raised marks (version - 1) u (acked_is_free o es version flags marks tells f).within ∙ ap (λ t. nat_eq (version - 1) u || t) (tells.acks u) ∙ sym (shifted es version u f.2.1);
}

pub flags_are_told : FlagsAreTold
flags_are_told o events flags marks tells = record {
  done_free = λ i taken. rw (newest_first events (Done i taken)) (λ f. done_is_free o (reverse events) i taken flags marks tells f);
  acked_free = λ version. rw (newest_first events (Acked version)) (λ f. acked_is_free o (reverse events) version flags marks tells f);
  arrive = λ client op word. rw (newest_first events (Arrive client op word))
      (record { done_len = tells.done_len; acked_len = tells.acked_len; dones = tells.dones; acks = tells.acks });
  done = λ i taken. rw (newest_first events (Done i taken)) (λ f. done_raised o (reverse events) i taken flags marks tells f);
  issue = λ version nonce buckets. rw (newest_first events (Issue version nonce buckets))
      (record { done_len = tells.done_len; acked_len = tells.acked_len; dones = tells.dones; acks = tells.acks });
  acked = λ version. rw (newest_first events (Acked version)) (λ f. acked_raised o (reverse events) version flags marks tells f);
  fault = λ cause. rw (newest_first events (Fault cause)) (record { done_len = tells.done_len; acked_len = tells.acked_len; dones = tells.dones; acks = tells.acks });
}

none_up : (n i : ℕ) → is_done_in (replicate n false) i ≡ false
none_up n i = either (cases_lt i n)
  where
    either : (i < n) ⊎ (n ≤ i) → get_or (replicate n false) i false ≡ false
    either (inl low) = get_or-replicate n i false false low
    either (inr high) = get_or_past (replicate n false) i false (let len = length-replicate n false in omega (arith, len))

pub flags_at_start : FlagsAtStart
flags_at_start o = record {
  done_len = length-replicate (session_limit o.shape) false;
  acked_len = length-replicate (session_limit o.shape) false;
  dones = λ i. none_up (session_limit o.shape) i;
  acks = λ u. none_up (session_limit o.shape) u;
}

-- ---- what is released, and what is acknowledged

pub released_by_flags : ReleasedByFlags
released_by_flags o events done acked r f tells is = either (cases_lt r (released (reverse events))) (cases_lt (released (reverse events)) r)
  where
    leads : IsLeading (is_done (reverse events)) (arrived (reverse events)) (released (reverse events))
    leads = leading_is (is_done (reverse events)) (arrived (reverse events))

    past : released (reverse events) < r → (released (reverse events) < arrived (reverse events)) ⊎ (arrived (reverse events) ≤ released (reverse events)) → ⊥
    past less (inl early) = true≢false (sym (sym (tells.dones (released (reverse events))) ∙ is.below (released (reverse events)) less) ∙ leads.next early)
    past less (inr all) = true≢false (sym (sym (tells.dones (released (reverse events))) ∙ is.below (released (reverse events)) less)
        ∙ done_arrived o (reverse events) (released (reverse events)) f all)

    either : (r < released (reverse events)) ⊎ (released (reverse events) ≤ r) → (released (reverse events) < r) ⊎ (r ≤ released (reverse events)) → r ≡ released (reverse events)
    either (inl less) place = absurd (true≢false (sym (leads.below r less) ∙ sym (tells.dones r) ∙ is.stops))
    either (inr high) (inl less) = absurd (past less (cases_lt (released (reverse events)) (arrived (reverse events))))
    either (inr high) (inr low) = omega arith

pub acked_by_flags : AckedByFlags
acked_by_flags o events done acked r f tells is = record {
  within = within (cases_lt (issues (reverse events)) r);
  below = λ v low high.
      let back : v - 1 + 1 ≡ v = omega arith in
      sym (ap (is_acked (reverse events)) back) ∙ sym (tells.acks (v - 1)) ∙ is.below (v - 1) (omega arith);
  stops = sym (tells.acks r) ∙ is.stops;
}
  where
    within : (issues (reverse events) < r) ⊎ (r ≤ issues (reverse events)) → r ≤ issues (reverse events)
    within (inl less) =
        let known = (acked_known o (reverse events) (issues (reverse events) + 1) f (sym (tells.acks (issues (reverse events))) ∙ is.below (issues (reverse events)) less)).1 in
        absurd (omega arith)
    within (inr low) = low

-- ---- tags

tags_issued : (has_tag : ℕ → Bool) (tag : Bucket → List ℕ) (o : Opening) (es : List Event) (version nonce : ℕ) (buckets : List Bucket) (tags tags' : ℕ → List ℕ)
    → TellsTags has_tag tag o es tags → ReplacesTags has_tag tag version buckets tags tags' → TellsTags has_tag tag o (Issue version nonce buckets ∷ es) tags'
tags_issued has_tag tag o es version nonce buckets tags tags' tells new w low high has = either (bucket_of w buckets) refl has
  where
    either : (x : Option Bucket) → bucket_of w buckets ≡ x → has_tag (cond (is_some (bucket_of w buckets)) version (newest_version es w)) ≡ true
        → tags' w ≡ option_map_or tag (option_or (bucket_of w buckets) (newest_write o es w)) []
    either None is has = new.others w (ap is_some is) ∙ tells w low high (sym (ap (λ x. has_tag (cond (is_some x) version (newest_version es w))) is) ∙ has)
        ∙ sym (ap (λ x. option_map_or tag (option_or x (newest_write o es w)) []) is)
    either (Some x) is has = new.own w x (sym (ap (λ x. has_tag (cond (is_some x) version (newest_version es w))) is) ∙ has) is
        ∙ sym (ap (λ x. option_map_or tag (option_or x (newest_write o es w)) []) is)

pub tags_are_told : TagsAreTold
tags_are_told has_tag tag o events tags tells = record {
  arrive = λ client op word. rw (newest_first events (Arrive client op word)) tells;
  done = λ i taken. rw (newest_first events (Done i taken)) tells;
  issue = λ version nonce buckets tags'. rw (newest_first events (Issue version nonce buckets)) (λ new. tags_issued has_tag tag o (reverse events) version nonce buckets tags tags' tells new);
  acked = λ version. rw (newest_first events (Acked version)) tells;
  fault = λ cause. rw (newest_first events (Fault cause)) tells;
}

pub tags_at_start : TagsAtStart
tags_at_start has_tag tag o tags opening opens are w low high has =
    let newest = newest_write_is o [] w opens opening low high in
    are w newest.bucket has newest.there ∙ sym (ap (λ x. option_map_or tag x []) newest.there)

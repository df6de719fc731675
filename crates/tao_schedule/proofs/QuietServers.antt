-- Acknowledged write-backs have reached the server. Moves and events are newest first.
use Rattle.std.proofs.Common.{◌≡◌, ℕ, ◌+◌, ◌≤◌, Bool, true, false, ◌&&◌, cond, List, [], ◌∷◌, reverse, max, is_some, sym, ap, ◌∙◌, subst, arith, inl, inr, ◌⊎◌, nat_eq}
use Rattle.std.proofs.Math.Nat.{le-max_right}
use Rattle.std.proofs.lemmas.Bool.{eqb-true, true≢false, and_parts, or_cases}
use Rattle.tao_base.specs.declared.session.Event.{Event}
use Rattle.tao_base.specs.declared.session.Event.TheVariants.{Done, Issue, Acked}
use Rattle.tao_base.specs.declared.storage.Bucket.{Bucket}
use Rattle.tao_base.specs.Session.{Opening}
use Rattle.tao_model.specs.Events.{issues, is_acked}
use Rattle.tao_model.specs.Residence.{bucket_of, is_issued, newest_version}
use Rattle.tao_model.specs.Lawful.{FollowsLawfully}
use Rattle.tao_model.specs.LookBacks.{written_at}
use Rattle.tao_model.proofs.NewestWrites.{newest_is_greatest}
use Rattle.tao_model.proofs.NewestWrites.{newest_within}
use Rattle.tao_laws.proofs.AskedNodes.{newest_issued}
use Rattle.tao_laws.proofs.WrittenNodes.{issued_from}
use Rattle.tao_laws.proofs.CountedWork.{acked_known}
use Rattle.tao_schedule.specs.Moves.{Move, Arrives, Serves, Completes, Applies, Acknowledges, server_version, is_applied}
use Rattle.tao_schedule.specs.Schedules.{Goes, IsSchedule, TakesIn}
use Rattle.tao_schedule.specs.Laws.{ServerIsNewest, ServedIsNewest}
use Rattle.tao_schedule.proofs.ServerVersions.{applied_reached, stays_in_step}
use Rattle.tao_schedule.proofs.ToldEvents.{goes_lawful}

-- an acknowledged write-back of the node has reached the server
abbrev IsReached : List Move → List Event → ℕ → ℕ → Type 0
IsReached ms es v node = is_acked es v ≡ true → is_issued es v node ≡ true → v ≤ server_version ms node

reached_issue : (o : Opening) (ms : List Move) (es : List Event) (version nonce : ℕ) (buckets : List Bucket) (v node : ℕ) → FollowsLawfully o (Issue version nonce buckets ∷ es)
    → IsReached ms es v node → IsReached ms (Issue version nonce buckets ∷ es) v node
reached_issue o ms es version nonce buckets v node f ih acked issued = either (or_cases (nat_eq version v && is_some (bucket_of node buckets)) (is_issued es v node) issued)
  where
    either : ((nat_eq version v && is_some (bucket_of node buckets)) ≡ true) ⊎ (is_issued es v node ≡ true) → v ≤ server_version ms node
    either (inl now) =
        let same : version ≡ v = eqb-true version v (and_parts (nat_eq version v) (is_some (bucket_of node buckets)) now).0 in
        let next : version ≡ issues es + 1 = f.2.next in
        let known = (acked_known o es v f.0 acked).1 in
        absurd (omega arith)
    either (inr earlier) = ih acked earlier

reached_taking : (o : Opening) (ms : List Move) (es : List Event) (fetch : ℕ) (now : List Event) (v node : ℕ) → TakesIn o es fetch now → FollowsLawfully o now
    → IsReached ms es v node → IsReached ms now v node
reached_taking o ms es fetch now v node t f ih = either t.1 t.2
  where
    either : (taken : List Bucket) → ((now ≡ Done fetch taken ∷ es) ⊎ ((version : ℕ) × (nonce : ℕ) × (buckets : List Bucket) × (now ≡ Issue version nonce buckets ∷ Done fetch taken ∷ es)))
        → IsReached ms now v node
    either taken (inl is) = subst (λ l. IsReached ms l v node) (sym is) ih
    either taken (inr (version, nonce, buckets, is)) =
        subst (λ l. IsReached ms l v node) (sym is) (reached_issue o ms (Done fetch taken ∷ es) version nonce buckets v node (subst (FollowsLawfully o) is f) ih)

reached_apply : (t : Bool) (version v server : ℕ) → v ≤ server → v ≤ cond t (max version server) server
reached_apply true version v server le = let up = le-max_right version server in omega arith
reached_apply false version v server le = le

acked_reached : (o : Opening) (ms : List Move) (es : List Event) (v node : ℕ) → IsSchedule o ms es → FollowsLawfully o es → IsReached ms es v node
unfolding IsSchedule Goes
acked_reached o [] es v node s f = λ acked issued. absurd (true≢false (sym acked ∙ ap (λ l. is_acked l v) s))
acked_reached o (Arrives client op word ∷ ms) es v node s f =
    subst (λ l. IsReached ms l v node) (sym s.2.1) (acked_reached o ms s.0 v node s.1 (subst (FollowsLawfully o) s.2.1 f).0)
acked_reached o (Serves fetch served ∷ ms) es v node s f = subst (λ l. IsReached ms l v node) (sym s.2.3) (acked_reached o ms s.0 v node s.1 (subst (FollowsLawfully o) s.2.3 f))
acked_reached o (Completes fetch ∷ ms) es v node s f =
    reached_taking o ms s.0 fetch es v node s.2.2 f (acked_reached o ms s.0 v node s.1 (goes_lawful o ms s.0 (Completes fetch) es s.2 f))
acked_reached o (Applies version applied ∷ ms) es v node s f = λ acked issued.
    reached_apply (nat_eq applied node) version v (server_version ms node)
    (subst (λ l. IsReached ms l v node) (sym s.2.2) (acked_reached o ms s.0 v node s.1 (subst (FollowsLawfully o) s.2.2 f)) acked issued)
acked_reached o (Acknowledges version ∷ ms) es v node s f = subst (λ l. IsReached ms l v node) (sym s.2.2) (now (acked_reached o ms s.0 v node s.1 (subst (FollowsLawfully o) s.2.2 f).0) s.2.1)
  where
    now : IsReached ms s.0 v node → ((w : ℕ) → is_issued s.0 version w ≡ true → is_applied ms version w ≡ true) → IsReached ms (Acked version ∷ s.0) v node
    now ih applied acked issued = either (or_cases (nat_eq version v) (is_acked s.0 v) acked)
      where
        either : (nat_eq version v ≡ true) ⊎ (is_acked s.0 v ≡ true) → v ≤ server_version ms node
        either (inl newest) =
            let same : version ≡ v = eqb-true version v newest in
            applied_reached ms v node (subst (λ u. is_applied ms u node ≡ true) same (applied node (subst (λ u. is_issued s.0 u node ≡ true) (sym same) issued)))
        either (inr earlier) = ih earlier issued

pub server_is_newest : ServerIsNewest
server_is_newest o ms es node s f all = either (newest_issued es node)
  where
    ahead : server_version ms node ≤ newest_version es node
    ahead = (stays_in_step o ms es node s f).not_ahead

    either : (newest_version es node ≡ 0) ⊎ (is_issued es (newest_version es node) node ≡ true) → server_version ms node ≡ newest_version es node
    either (inl none) = omega (arith, ahead)
    either (inr issued) =
        let some = (issued_from o es (newest_version es node) node f issued).0 in
        let reached = acked_reached o ms es (newest_version es node) node s f (all (newest_version es node) some (newest_within o es node f)) issued in
        omega (arith, ahead)

pub served_is_newest : ServedIsNewest
served_is_newest o ms events i node s f way on read away =
    ap (λ v. written_at o events v node) ((stays_in_step o ms (reverse events) node s f).served i way on read away) ∙ sym (newest_is_greatest o events node f).bucket

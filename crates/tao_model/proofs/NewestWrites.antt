-- The latest version of a node is the greatest that has it. The events `es` are newest first.
use Rattle.std.proofs.Common.{◌≡◌, ℕ, ◌+◌, ◌<◌, ◌≤◌, cond, List, [], ◌∷◌, ◌++◌, reverse, length, get_or, Option, Some, None, is_some, refl, sym, ap, ◌∙◌, subst, arith}
use Rattle.std.specs.Option.{option_or}
use Rattle.std.proofs.lemmas.List.{reverse-reverse, get_or_append_left, get_or_push, length_push}
use Rattle.tao_base.specs.declared.session.Event.{Event}
use Rattle.tao_base.specs.declared.session.Event.TheVariants.{Arrive, Done, Issue, Acked, Fault}
use Rattle.tao_base.specs.declared.storage.Bucket.{Bucket}
use Rattle.tao_base.specs.Session.{Opening}
use Rattle.tao_model.specs.Greatest.{IsGreatest}
use Rattle.tao_model.specs.Events.{issues}
use Rattle.tao_model.specs.Residence.{bucket_of, newest_write, newest_version}
use Rattle.tao_model.specs.Lawful.{FollowsLawfully}
use Rattle.tao_model.specs.LookBacks.{buckets_of, written, written_at, NewestIsGreatest}
use Rattle.tao_model.proofs.GreatestNumbers.{greatest_step, greatest_none, greatest_same}
use Rattle.tao_model.proofs.DonesInOrder.{picked_more, picked_same}

written_same : (o : Opening) (es : List Event) (e : Event) → buckets_of e ≡ None → written o (reverse (e ∷ es)) ≡ written o (reverse es)
written_same o es e none = ap (λ l. o.loaded ∷ l) (picked_same buckets_of es e none)

written_more : (o : Opening) (es : List Event) (version nonce : ℕ) (buckets : List Bucket)
    → written o (reverse (Issue version nonce buckets ∷ es)) ≡ written o (reverse es) ++ buckets ∷ []
written_more o es version nonce buckets = ap (λ l. o.loaded ∷ l) (picked_more buckets_of es (Issue version nonce buckets))

pub versions_listed : (o : Opening) (es : List Event) → length (written o (reverse es)) ≡ issues es + 1
versions_listed o [] = refl
versions_listed o (Arrive client op word ∷ es) = ap length (written_same o es (Arrive client op word) refl) ∙ versions_listed o es
versions_listed o (Done arrival taken ∷ es) = ap length (written_same o es (Done arrival taken) refl) ∙ versions_listed o es
versions_listed o (Issue version nonce buckets ∷ es) = ap length (written_more o es version nonce buckets) ∙ length_push (written o (reverse es)) buckets ∙ ap (λ n. n + 1) (versions_listed o es)
versions_listed o (Acked version ∷ es) = ap length (written_same o es (Acked version) refl) ∙ versions_listed o es
versions_listed o (Fault cause ∷ es) = ap length (written_same o es (Fault cause) refl) ∙ versions_listed o es

-- the two look-backs for one node agree with the list of write-backs
record IsNewestOf (o : Opening) (told : List Event) (es : List Event) (node : ℕ) : Type 0 where
  version : IsGreatest (λ v. is_some (written_at o told v node)) (issues es) (newest_version es node)
  bucket : newest_write o es node ≡ written_at o told (newest_version es node) node

-- an event that isn't a write-back
same_newest : (o : Opening) (es : List Event) (e : Event) (node : ℕ) → buckets_of e ≡ None → issues (e ∷ es) ≡ issues es → newest_version (e ∷ es) node ≡ newest_version es node
    → newest_write o (e ∷ es) node ≡ newest_write o es node → IsNewestOf o (reverse es) es node → IsNewestOf o (reverse (e ∷ es)) (e ∷ es) node
same_newest o es e node none count version bucket h = record {
  version = subst (λ l. IsGreatest (λ v. is_some (bucket_of node (get_or l v []))) (issues (e ∷ es)) (newest_version (e ∷ es) node)) (sym (written_same o es e none))
      (subst (λ n. IsGreatest (λ v. is_some (bucket_of node (get_or (written o (reverse es)) v []))) n (newest_version (e ∷ es) node)) (sym count)
      (subst (λ r. IsGreatest (λ v. is_some (bucket_of node (get_or (written o (reverse es)) v []))) (issues es) r) (sym version) h.version));
  bucket = bucket ∙ h.bucket ∙ ap (λ v. bucket_of node (get_or (written o (reverse es)) v [])) (sym version)
      ∙ ap (λ l. bucket_of node (get_or l (newest_version (e ∷ es) node) [])) (sym (written_same o es e none));
}

-- a write-back of the next version; `b` is its bucket of the node
newest_issue : (o : Opening) (es : List Event) (version nonce : ℕ) (buckets : List Bucket) (node : ℕ) (b : Option Bucket) → bucket_of node buckets ≡ b → version ≡ issues es + 1
    → IsNewestOf o (reverse es) es node → IsNewestOf o (reverse (Issue version nonce buckets ∷ es)) (Issue version nonce buckets ∷ es) node
newest_issue o es version nonce buckets node b is next h = record {
  version = subst (λ v. IsGreatest (λ u. is_some (at u)) (issues es + 1) (cond (is_some (bucket_of node buckets)) v (newest_version es node))) (sym next)
      (greatest_step (λ u. is_some (at u)) (issues es) (newest_version es node) (is_some (bucket_of node buckets)) (ap is_some newest)
      (greatest_same (λ u. is_some (written_at o (reverse es) u node)) (λ u. is_some (at u)) (issues es) (newest_version es node)
      (λ u some within. ap is_some (older u (omega arith))) h.version));
  bucket = bucket b is;
}
  where
    at : ℕ → Option Bucket
    at u = written_at o (reverse (Issue version nonce buckets ∷ es)) u node

    newest : at (issues es + 1) ≡ bucket_of node buckets
    newest = ap (bucket_of node) (ap (λ l. get_or l (issues es + 1) []) (written_more o es version nonce buckets) ∙ get_or_push (written o (reverse es)) buckets [] (issues es + 1) (versions_listed o es))

    older : (u : ℕ) → u < issues es + 1 → at u ≡ written_at o (reverse es) u node
    older u within = let len = versions_listed o es in
        ap (bucket_of node) (ap (λ l. get_or l u []) (written_more o es version nonce buckets) ∙ get_or_append_left (written o (reverse es)) (buckets ∷ []) [] u (omega arith))

    bucket : (c : Option Bucket) → bucket_of node buckets ≡ c
        → option_or (bucket_of node buckets) (newest_write o es node) ≡ at (cond (is_some (bucket_of node buckets)) version (newest_version es node))
    bucket None none = rw none (h.bucket ∙ sym (older (newest_version es node) (let within = h.version.within in omega arith)))
    bucket (Some x) there = rw there (sym (ap at next ∙ newest ∙ there))

newest_from : (o : Opening) (es : List Event) (node : ℕ) → FollowsLawfully o es → IsNewestOf o (reverse es) es node
newest_from o [] node f = record { version = greatest_none (λ v. is_some (written_at o [] v node)); bucket = refl }
newest_from o (Arrive client op word ∷ es) node f = same_newest o es (Arrive client op word) node refl refl refl refl (newest_from o es node f.0)
newest_from o (Done arrival taken ∷ es) node f = same_newest o es (Done arrival taken) node refl refl refl refl (newest_from o es node f.0)
newest_from o (Issue version nonce buckets ∷ es) node f = newest_issue o es version nonce buckets node (bucket_of node buckets) refl f.2.next (newest_from o es node f.0)
newest_from o (Acked version ∷ es) node f = same_newest o es (Acked version) node refl refl refl refl (newest_from o es node f.0)
newest_from o (Fault cause ∷ es) node f = same_newest o es (Fault cause) node refl refl refl refl (newest_from o es node f.0)

-- no node has a version that wasn't issued
pub newest_within : (o : Opening) (es : List Event) (node : ℕ) → FollowsLawfully o es → newest_version es node ≤ issues es
newest_within o es node f = (newest_from o es node f).version.within

pub newest_is_greatest : NewestIsGreatest
newest_is_greatest o events node f = record { version = is.version; bucket = is.bucket }
  where
    is : IsNewestOf o events (reverse events) node
    is = subst (λ told. IsNewestOf o told (reverse events) node) (reverse-reverse events) (newest_from o (reverse events) node f)

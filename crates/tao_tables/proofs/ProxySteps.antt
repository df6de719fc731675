-- A record that a proxy makes stays one, and owes a write-back if a period is full. The events `es` are newest first.
use Rattle.std.proofs.Common.{◌≡◌, ℕ, ◌+◌, ◌*◌, ◌<◌, ◌≤◌, [], ◌∷◌, reverse, refl, sym, ap, ◌∙◌, subst, arith, inl, inr, ◌⊎◌}
use Rattle.std.proofs.Math.Path.{fun_ext}
use Rattle.std.specs.Prelude.{slice_index}
use Rattle.std.proofs.lemmas.Bool.{cases_lt, lt-ltb, le-ltb}
use Rattle.tao_base.specs.Session.{Opening}
use Rattle.tao_base.specs.Tree.{node_count, leaf_of, is_on_path}
use Rattle.tao_model.specs.Requests.{leaf_at}
use Rattle.tao_model.specs.Placement.{may_load, block_below}
use Rattle.tao_model.specs.Evictions.{load_contents, load_buckets}
use Rattle.tao_model.proofs.LoadedOpenings.{opens_so}
use Rattle.tao_model.proofs.OneLoad.{load_pass}
use Rattle.tao_model.proofs.OnePlacement.{one_placement, placed_alike}
use Rattle.tao_base.specs.declared.session.Event.TheVariants.{Arrive, Done, Issue, Acked, Fault}
use Rattle.tao_model.specs.Events.{dones, issues}
use Rattle.tao_model.specs.Lawful.{FollowsLawfully}
use Rattle.tao_model.proofs.LawfulToWhole.{follows_opening}
use Rattle.tao_model.proofs.Stays.{newest_first}
use Rattle.tao_laws.proofs.CountedWork.{owed_once}
use Rattle.tao_tables.specs.Proxies.{ProxyGoesOn, FollowsOn, OwesInTurn, OpensByLoad}

pub proxy_goes_on : ProxyGoesOn
proxy_goes_on o events is = record {
  arrive = λ client op word. rw (newest_first events (Arrive client op word)) (λ f. record { opens = is.opens; follows = f; writes = is.writes });
  done = λ i taken. rw (newest_first events (Done i taken)) (λ f. record { opens = is.opens; follows = f; writes = is.writes });
  issue = λ version nonce buckets. rw (newest_first events (Issue version nonce buckets)) (λ f true_ones. record { opens = is.opens; follows = f; writes = (is.writes, true_ones) });
  acked = λ version. rw (newest_first events (Acked version)) (λ f. record { opens = is.opens; follows = f; writes = is.writes });
  fault = λ cause. rw (newest_first events (Fault cause)) (λ f. record { opens = is.opens; follows = f; writes = is.writes });
}

pub follows_on : FollowsOn
follows_on o events e f no_fault may = subst (FollowsLawfully o) (sym (newest_first events e)) (f, no_fault, may)

pub owes_in_turn : OwesInTurn
owes_in_turn o events = record {
  arrive = λ client op word. rw (newest_first events (Arrive client op word)) (λ f. f.2.0);
  done = λ i taken. rw (newest_first events (Done i taken)) (λ f other. let most = owed_once o (Done i taken ∷ reverse events) f in omega (arith, other));
  issue = λ version nonce buckets. rw (newest_first events (Issue version nonce buckets)) (λ f.
      let some = (follows_opening o (reverse events) f.0).shape.period_low in
      let due : dones (reverse events) ≡ (issues (reverse events) + 1) * o.shape.k = f.2.due ∙ ap (λ v. v * o.shape.k) f.2.next in
      further (dones (reverse events)) (issues (reverse events)) o.shape.k some due);
  acked = λ version. rw (newest_first events (Acked version)) (λ f. f.2.0);
  fault = λ cause. rw (newest_first events (Fault cause)) (λ f. f.2.0);
}
  where
    further : (d m k : ℕ) → 1 ≤ k → d ≡ (m + 1) * k → d < (m + 1 + 1) * k
    further d m k some due = omega arith

-- ---- the opening

module _ (o : Opening) (leaf : ℕ → ℕ) (leaves : (b : ℕ) → b < o.shape.n → leaf b ≡ leaf_of o.shape.l (slice_index o.words b)) where
  may_alike : (b w : ℕ) → may_load o.shape leaf b w ≡ may_load o.shape (λ block. leaf_at o [] block) b w
  may_alike b w = either (cases_lt b o.shape.n)
    where
      either : (b < o.shape.n) ⊎ (o.shape.n ≤ b) → may_load o.shape leaf b w ≡ may_load o.shape (λ block. leaf_at o [] block) b w
      either (inl low) = rw (lt-ltb b o.shape.n low) (ap (λ at. is_on_path o.shape.l at w) (leaves b low))
      either (inr past) = rw (le-ltb b o.shape.n past) refl

  load_alike : (w : ℕ) → load_contents o.shape leaf o.first w ≡ load_contents o.shape (λ block. leaf_at o [] block) o.first w
  load_alike w = one_placement (may_load o.shape (λ block. leaf_at o [] block)) (node_count o.shape.l) o.shape.z (block_below o.shape.n o.first)
      (load_contents o.shape leaf o.first) (load_contents o.shape (λ block. leaf_at o [] block) o.first)
      (placed_alike (may_load o.shape leaf) (may_load o.shape (λ block. leaf_at o [] block)) (node_count o.shape.l) o.shape.z (block_below o.shape.n o.first) (block_below o.shape.n o.first)
      (load_contents o.shape leaf o.first) (load_contents o.shape leaf o.first) may_alike (λ b. refl) (λ v. refl) (load_pass o.shape leaf o.first))
      (load_pass o.shape (λ block. leaf_at o [] block) o.first) w

pub opens_by_load : OpensByLoad
opens_by_load o leaf is leaves loaded = (opens_so o is (loaded ∙ ap (load_buckets o.shape) (fun_ext (load_alike o leaf leaves))), load_alike o leaf leaves 0)

-- Copies by count: the present contents are lists of the tree in rising id, and have one entry of each block. The events `es` are newest first.
use Rattle.std.proofs.Common.{◌≡◌, ℕ, ◌<◌, Bool, true, false, not, ◌&&◌, ◌||◌, cond, List, [], ◌∷◌, reverse, All, Option, Some, None, refl, sym, ap, ◌∙◌, subst, arith, nat_eq}
use Rattle.std.specs.Option.{option_or}
use Rattle.std.proofs.lemmas.Bool.{ne_eqb, or_parts, or_from, false_from_ne_true, eqb-false}
use Rattle.tao_base.specs.declared.session.Event.{Event}
use Rattle.tao_base.specs.declared.session.Event.TheVariants.{Arrive, Done, Issue, Acked, Fault}
use Rattle.tao_base.specs.declared.storage.Bucket.{Bucket}
use Rattle.tao_base.specs.declared.storage.Entry.{Entry}
use Rattle.tao_base.specs.Limits.{Shape}
use Rattle.tao_base.specs.Session.{Opening}
use Rattle.tao_base.specs.Tree.{node_count, path}
use Rattle.tao_base.specs.Buckets.{Rises, IsInForm}
use Rattle.tao_model.specs.Requests.{is_real, leaf_at, fetches, fetched_leaf, position}
use Rattle.tao_model.specs.Residence.{bucket_of, departs, is_resident, newest_write}
use Rattle.tao_model.specs.Placement.{entries_at}
use Rattle.tao_model.specs.Evictions.{load_contents}
use Rattle.tao_model.specs.Lawful.{FollowsLawfully, OpensWithLoad}
use Rattle.tao_model.proofs.FallingPaths.{has, on_path_has}
use Rattle.tao_model.proofs.OneLoad.{load_pass}
use Rattle.tao_model.proofs.OnePass.{or_none}
use Rattle.tao_held.specs.Held.{held, after_fetch, found_in, block_on, value_since, newest_entries, entries_of_option}
use Rattle.tao_held.proofs.HeldSteps.{fetch_off}
use Rattle.tao_laws.specs.SettledValues.{settled_value}
use Rattle.tao_laws.proofs.RecentNodes.{fetched_in_tree}
use Rattle.tao_contents.specs.Counting.{AreOfTree}
use Rattle.tao_contents.proofs.OneEntry.{fresh_copy_counts}
use Rattle.tao_fresh.specs.FreshLaws.{present, PresentIsOfTree, CopiesAreCounted}
use Rattle.tao_fresh.proofs.WrittenBuckets.{bucket_found}
use Rattle.tao_fresh.proofs.FinalLooks.{written_past}
use Rattle.tao_fresh.proofs.FreshWriteBacks.{fetch_evicts}
use Rattle.tao_fresh.proofs.FreshCopies.{fresh_from}

-- ---- what is held rises

fetch_rises : (real : Bool) (s : Shape) (at : ℕ) (leaf : ℕ → ℕ) (resident : ℕ → Bool) (taken own : ℕ → List Entry) (block : ℕ) (value : List ℕ)
    → ((w : ℕ) → Rises 0 (own w)) → (w : ℕ) → Rises 0 (after_fetch real s at leaf resident taken own block value w)
fetch_rises real s at leaf resident taken own block value rises w = either (has w (0 ∷ path s.l at)) refl
  where
    new : ℕ → List Entry
    new = after_fetch real s at leaf resident taken own block value

    either : (t : Bool) → has w (0 ∷ path s.l at) ≡ t → Rises 0 (new w)
    either true on =
        let moved = (fetch_evicts real s at leaf resident taken own block value).1 in
        subst (Rises 0) (ap (λ t. cond t (new w) []) on) (moved.placed.rises w)
    either false off =
        let parts = or_parts (nat_eq 0 w) (has w (path s.l at)) off in
        subst (Rises 0) (sym (fetch_off real s at leaf resident taken own block value w (above (eqb-false 0 w parts.0)) (on_path_has s.l at w ∙ parts.1))) (rises w)
      where
        above : (0 ≡ w → ⊥) → 0 < w
        above other = omega arith

pub held_rises : (o : Opening) (es : List Event) (w : ℕ) → Rises 0 (held o es w)
unfolding held
held_rises o [] w = either (nat_eq w 0)
  where
    either : (t : Bool) → Rises 0 (cond t (load_contents o.shape (λ block. leaf_at o [] block) o.first 0) [])
    either true = (load_pass o.shape (λ block. leaf_at o [] block) o.first).rises 0
    either false = tt
held_rises o (Arrive client op word ∷ es) w = held_rises o es w
held_rises o (Done i taken ∷ es) w =
    fetch_rises (is_real es i) o.shape (fetched_leaf o es i) (λ block. position o (Done i taken ∷ es) block) (λ v. is_resident o es v) (entries_at taken) (λ v. held o es v)
    (block_on es i) (value_since es (block_on es i) i (found_in o es (λ v. held o es v) i taken)) (λ v. held_rises o es v) w
held_rises o (Issue version nonce buckets ∷ es) w = held_rises o es w
held_rises o (Acked version ∷ es) w = either (nat_eq w 0 || is_resident o (Acked version ∷ es) w) (held_rises o es w)
  where
    either : (t : Bool) → Rises 0 (held o es w) → Rises 0 (cond t (held o es w) [])
    either true ih = ih
    either false ih = tt
held_rises o (Fault cause ∷ es) w = held_rises o es w

-- ---- what was written rises

-- the latest of a write-back or load, and what was written before
written_rises : (s : Shape) (w : ℕ) (buckets : List Bucket) (before : Option Bucket) → All (IsInForm s) buckets → Rises 0 (entries_of_option before)
    → Rises 0 (entries_of_option (option_or (bucket_of w buckets) before))
written_rises s w buckets before forms rises = either (bucket_of w buckets) refl
  where
    either : (x : Option Bucket) → bucket_of w buckets ≡ x → Rises 0 (entries_of_option (option_or x before))
    either None is = rises
    either (Some x) is = (bucket_found (IsInForm s) w buckets forms x is).0.entries.rising

pub newest_rises : (o : Opening) (es : List Event) (w : ℕ) → OpensWithLoad o → FollowsLawfully o es → Rises 0 (newest_entries o es w)
newest_rises o [] w opens f = subst (λ x. Rises 0 (entries_of_option x)) (or_none (bucket_of w o.loaded)) (written_rises o.shape w o.loaded None opens.in_form tt)
newest_rises o (Arrive client op word ∷ es) w opens f = newest_rises o es w opens f.0
newest_rises o (Done i taken ∷ es) w opens f = newest_rises o es w opens f.0
newest_rises o (Issue version nonce buckets ∷ es) w opens f = written_rises o.shape w buckets (newest_write o es w) f.2.in_form (newest_rises o es w opens f.0)
newest_rises o (Acked version ∷ es) w opens f = newest_rises o es w opens f.0
newest_rises o (Fault cause ∷ es) w opens f = newest_rises o es w opens f.0

-- ---- nothing lies outside the tree

resident_past : (o : Opening) (es : List Event) (w : ℕ) → node_count o.shape.l < w → is_resident o es w ≡ false
resident_past o [] w past = refl
resident_past o (Arrive client op word ∷ es) w past = resident_past o es w past
resident_past o (Done i taken ∷ es) w past = or_from (is_resident o es w) (fetches o es i w) (resident_past o es w past)
    (false_from_ne_true (fetches o es i w) (λ on. let there = fetched_in_tree o es i w on in let high = there.1 in omega arith))
resident_past o (Issue version nonce buckets ∷ es) w past = resident_past o es w past
resident_past o (Acked version ∷ es) w past = ap (λ t. t && not (departs o es version w)) (resident_past o es w past)
resident_past o (Fault cause ∷ es) w past = resident_past o es w past

of_tree : (o : Opening) (es : List Event) → OpensWithLoad o → FollowsLawfully o es → AreOfTree o.shape.l (present o es)
of_tree o es opens f = record { rises = λ w. rises w (nat_eq w 0 || is_resident o es w); within = within }
  where
    rises : (w : ℕ) (t : Bool) → Rises 0 (cond t (held o es w) (newest_entries o es w))
    rises w true = held_rises o es w
    rises w false = newest_rises o es w opens f

    within : (w : ℕ) → node_count o.shape.l < w → present o es w ≡ []
    within w past = rw (ne_eqb w 0 (λ same. omega arith), resident_past o es w past) (ap entries_of_option (written_past o es w opens f past))

pub present_is_of_tree : PresentIsOfTree
present_is_of_tree o events p = of_tree o (reverse events) p.opens p.follows

pub copies_are_counted : CopiesAreCounted
copies_are_counted o events block p u low =
    (fresh_copy_counts o.shape (λ b. position o (reverse events) b) (λ b. settled_value o (reverse events) b) (present o (reverse events))
    (of_tree o (reverse events) p.opens p.follows)).0 (fresh_from o (reverse events) p.opens p.follows p.writes u) block low

-- How one more event changes what is held. The events `es` are newest first.
use Rattle.std.proofs.Common.{◌≡◌, ℕ, ◌<◌, Bool, true, false, not, ◌&&◌, cond, List, [], ◌∷◌, reverse, refl, sym, ap, ◌∙◌, arith, nat_eq}
use Rattle.std.proofs.lemmas.Bool.{ne_eqb, or_parts, or_from}
use Rattle.tao_base.specs.declared.session.Event.{Event}
use Rattle.tao_base.specs.declared.session.Event.TheVariants.{Arrive, Done, Issue, Acked, Fault}
use Rattle.tao_base.specs.declared.storage.Entry.{Entry}
use Rattle.tao_base.specs.Limits.{Shape}
use Rattle.tao_base.specs.Session.{Opening}
use Rattle.tao_base.specs.Tree.{path, is_on_path}
use Rattle.tao_model.specs.Placement.{entries_at}
use Rattle.tao_model.specs.Requests.{is_real, fetches, fetched_leaf, position}
use Rattle.tao_model.specs.Residence.{is_resident}
use Rattle.tao_model.proofs.Stays.{newest_first}
use Rattle.tao_model.proofs.FallingPaths.{has, on_path_has}
use Rattle.tao_model.proofs.OneEviction.{eviction_is_placed}
use Rattle.tao_held.specs.Steps.{take_in, put, evict}
use Rattle.tao_held.specs.Held.{held, after_fetch, found_in, block_on, value_since}
use Rattle.tao_held.specs.HeldLaws.{HeldStays, AwayIsEmpty}

pub held_stays : HeldStays
unfolding held
held_stays o events = record {
  arrive = λ client op word w. ap (λ es. held o es w) (newest_first events (Arrive client op word));
  done = λ i taken w. ap (λ es. held o es w) (newest_first events (Done i taken));
  issue = λ version nonce buckets w. ap (λ es. held o es w) (newest_first events (Issue version nonce buckets));
  acked = λ version w. rw (newest_first events (Acked version)) refl;
  fault = λ cause w. ap (λ es. held o es w) (newest_first events (Fault cause));
}

-- a node off the path keeps its entries
pub evict_off : (s : Shape) (at : ℕ) (leaf : ℕ → ℕ) (contents : ℕ → List Entry) (w : ℕ) → 0 < w → is_on_path s.l at w ≡ false → evict s at leaf contents w ≡ contents w
evict_off s at leaf contents w low off = (eviction_is_placed s (path s.l at) leaf contents).others w
    (or_from (nat_eq 0 w) (has w (path s.l at)) (ne_eqb 0 w (λ same. omega arith)) (sym (on_path_has s.l at w) ∙ off))

pub take_in_off : (l at : ℕ) (resident : ℕ → Bool) (taken own : ℕ → List Entry) (w : ℕ) → is_on_path l at w ≡ false → take_in l at resident taken own w ≡ own w
take_in_off l at resident taken own w off = ap (λ p. cond (p && not (resident w)) (taken w) (own w)) off

pub fetch_off : (real : Bool) (s : Shape) (at : ℕ) (leaf : ℕ → ℕ) (resident : ℕ → Bool) (taken own : ℕ → List Entry) (block : ℕ) (value : List ℕ) (w : ℕ) → 0 < w
    → is_on_path s.l at w ≡ false → after_fetch real s at leaf resident taken own block value w ≡ own w
fetch_off false s at leaf resident taken own block value w low off =
    evict_off s at leaf (take_in s.l at resident taken own) w low off ∙ take_in_off s.l at resident taken own w off
fetch_off true s at leaf resident taken own block value w low off =
    evict_off s at leaf (put (take_in s.l at resident taken own) block value) w low off
    ∙ ap (λ t. cond t (put (take_in s.l at resident taken own) block value 0) (take_in s.l at resident taken own w)) (ne_eqb w 0 (λ same. omega arith))
    ∙ take_in_off s.l at resident taken own w off

pub away_empty : (o : Opening) (es : List Event) (w : ℕ) → 0 < w → is_resident o es w ≡ false → held o es w ≡ []
unfolding held
away_empty o [] w low away = rw (ne_eqb w 0 (λ same. omega arith)) refl
away_empty o (Arrive client op word ∷ es) w low away = away_empty o es w low away
away_empty o (Done i taken ∷ es) w low away =
    let parts = or_parts (is_resident o es w) (fetches o es i w) away in
    fetch_off (is_real es i) o.shape (fetched_leaf o es i) (λ block. position o (Done i taken ∷ es) block) (λ v. is_resident o es v) (entries_at taken) (λ v. held o es v)
    (block_on es i) (value_since es (block_on es i) i (found_in o es (λ v. held o es v) i taken)) w low parts.1
    ∙ away_empty o es w low parts.0
away_empty o (Issue version nonce buckets ∷ es) w low away = away_empty o es w low away
away_empty o (Acked version ∷ es) w low away = rw (ne_eqb w 0 (λ same. omega arith), away) refl
away_empty o (Fault cause ∷ es) w low away = away_empty o es w low away

pub away_is_empty : AwayIsEmpty
away_is_empty o events w low away = away_empty o (reverse events) w low away

-- A fetched path keeps the copies fresh.
use Rattle.std.proofs.Common.{◌≡◌, ℕ, Bool, List, ◌∷◌, refl, sym, ap, ◌∙◌, inl, inr, ◌⊎◌}
use Rattle.tao_base.specs.declared.storage.Entry.{Entry}
use Rattle.tao_base.specs.Limits.{Shape}
use Rattle.tao_base.specs.Tree.{path}
use Rattle.tao_model.specs.Placement.{look}
use Rattle.tao_model.specs.FreshCopy.{FreshCopy, current_contents}
use Rattle.tao_model.proofs.OneEviction.{eviction_is_placed}
use Rattle.tao_held.specs.Steps.{take_in, with_path, put, evict, found_copy}
use Rattle.tao_contents.specs.Moves.{CountsInside, CountsOutside, FreshToEvict}
use Rattle.tao_contents.specs.FetchLaws.{TakingInKeeps, FetchFinds, RealFetchKeeps, FakeFetchKeeps}
use Rattle.tao_contents.proofs.Looks.{first_alike}
use Rattle.tao_contents.proofs.MovedCopies.{one_alike, fresh_alike, look_up_finds, fresh_may_be_evicted, put_may_be_evicted, eviction_keeps}
use Rattle.tao_contents.proofs.Current.{HoldsPath, held_path, current_taken_in, current_inside, current_put, evicted_current}

pub taking_in_keeps : TakingInKeeps
taking_in_keeps s at leaf value resident taken own newest honest =
    fresh_alike s leaf leaf value value (current_contents resident own newest) (current_contents (with_path s.l at resident) (take_in s.l at resident taken own) newest)
    (λ b below. refl) (λ b below. refl) (λ w b below. ap (look b) (current_taken_in s.l at resident taken own newest honest w))

pub fetch_finds : FetchFinds
fetch_finds s at leaf value resident taken own newest b below here honest fresh =
    first_alike b (take_in s.l at resident taken own) (current_contents (with_path s.l at resident) (take_in s.l at resident taken own) newest) (0 ∷ path s.l at)
    (λ w inside. ap (look b) (sym (current_inside s.l at (with_path s.l at resident) (take_in s.l at resident taken own) newest (held_path s.l at resident) w inside)))
    ∙ look_up_finds s at leaf value (current_contents (with_path s.l at resident) (take_in s.l at resident taken own) newest) b below here
    (taking_in_keeps s at leaf value resident taken own newest honest fresh)

to_evict_alike : (s : Shape) (at : ℕ) (leaf : ℕ → ℕ) (value : ℕ → List ℕ) (contents other : ℕ → List Entry) → ((w : ℕ) → contents w ≡ other w)
    → FreshToEvict s at leaf value contents → FreshToEvict s at leaf value other
to_evict_alike s at leaf value contents other same ready b below = either (ready b below)
  where
    first : found_copy s.l at other b ≡ found_copy s.l at contents b
    first = first_alike b other contents (0 ∷ path s.l at) (λ w inside. ap (look b) (sym (same w)))

    either : CountsInside s.l at b (value b) contents ⊎ CountsOutside s.l at (leaf b) b (value b) contents
        → CountsInside s.l at b (value b) other ⊎ CountsOutside s.l at (leaf b) b (value b) other
    either (inl inside) = inl (record { first = first ∙ inside.first; none_off = λ w low off. ap (look b) (sym (same w)) ∙ inside.none_off w low off })
    either (inr out) = inr (record {
      none_inside = first ∙ out.none_inside;
      one = one_alike s.l (leaf b) (leaf b) b (value b) (value b) contents other refl refl (λ w. ap (look b) (same w)) out.one;
    })

-- the eviction, if the proxy holds the path
pub evicting_keeps : (s : Shape) (at : ℕ) (leaf : ℕ → ℕ) (value : ℕ → List ℕ) (resident : ℕ → Bool) (own newest : ℕ → List Entry) → HoldsPath s.l at resident
    → FreshToEvict s at leaf value (current_contents resident own newest) → FreshCopy s leaf value (current_contents resident (evict s at leaf own) newest)
evicting_keeps s at leaf value resident own newest holds ready =
    eviction_keeps s at leaf value (current_contents resident own newest) (current_contents resident (evict s at leaf own) newest) ready
    (evicted_current s at leaf resident own (evict s at leaf own) newest holds (eviction_is_placed s (path s.l at) leaf own))

pub fake_fetch_keeps : FakeFetchKeeps
fake_fetch_keeps s at leaf value resident taken own newest honest fresh =
    evicting_keeps s at leaf value (with_path s.l at resident) (take_in s.l at resident taken own) newest (held_path s.l at resident)
    (fresh_may_be_evicted s at leaf value (current_contents (with_path s.l at resident) (take_in s.l at resident taken own) newest)
    (taking_in_keeps s at leaf value resident taken own newest honest fresh))

pub real_fetch_keeps : RealFetchKeeps
real_fetch_keeps s at leaf leaf' value value' resident taken own newest a here changes honest fresh =
    evicting_keeps s at leaf' value' (with_path s.l at resident) (put (take_in s.l at resident taken own) a (value' a)) newest (held_path s.l at resident)
    (to_evict_alike s at leaf' value' (put (current_contents (with_path s.l at resident) (take_in s.l at resident taken own) newest) a (value' a))
    (current_contents (with_path s.l at resident) (put (take_in s.l at resident taken own) a (value' a)) newest)
    (current_put (with_path s.l at resident) (take_in s.l at resident taken own) newest a (value' a))
    (put_may_be_evicted s at leaf leaf' value value' (current_contents (with_path s.l at resident) (take_in s.l at resident taken own) newest) a here changes
    (taking_in_keeps s at leaf value resident taken own newest honest fresh)))

-- A put, as a look-up sees it and as a list.
use Rattle.std.proofs.Common.{◌≡◌, ℕ, List, refl, subst, inl, inr, ◌⊎◌}
use Rattle.std.proofs.Math.Path.{fun_ext}
use Rattle.std.proofs.lemmas.Bool.{eq-eqb, ne_eqb, cases_eq}
use Rattle.tao_held.specs.Steps.{put}
use Rattle.tao_held.proofs.AlikeContents.{put_is_gathered}
use Rattle.tao_flush.specs.Blocks.{PutsValue}
use Rattle.tao_flush.specs.State.{StashState, PositionsState}
use Rattle.tao_base.specs.Buckets.{Rises}
use Rattle.tao_subtree.specs.Residents.{SubtreeState}
use Rattle.tao_base.specs.Limits.{Shape}
use Rattle.tao_holdings.specs.Holding.{HoldingsState, contents_in}
use Rattle.tao_holdings.specs.Parts.{state_of}

pub put_contents : (s : Shape) (sub : SubtreeState) (stash new : StashState) (pos pos' : PositionsState) (b : ℕ) (value : List ℕ) (st : HoldingsState) → state_of s sub stash pos ≡ st
    → Rises 0 new.entries → PutsValue stash.entries new.entries b value → contents_in (state_of s sub new pos') ≡ put (contents_in st) b value
put_contents s sub stash new pos pos' b value st view rises puts =
    subst (λ (st : HoldingsState). contents_in (state_of s sub new pos') ≡ put (contents_in st) b value) view
    (fun_ext (λ w. either w (cases_eq w 0)))
  where
    either : (w : ℕ) → (w ≡ 0) ⊎ (w ≡ 0 → ⊥) → contents_in (state_of s sub new pos') w ≡ put (contents_in (state_of s sub stash pos)) b value w
    either w (inl zero_is) = rw (eq-eqb w 0 zero_is) (put_is_gathered b value stash.entries new.entries rises puts.there puts.others)
    either w (inr other) = rw (ne_eqb w 0 other) refl

-- What the last real arrival on a block tells: whether the next one is real, and which word it uses. The events `es` are newest first.
use Rattle.std.proofs.Common.{◌≡◌, ℕ, ◌+◌, ◌<◌, ◌≤◌, Bool, true, false, ◌&&◌, cond, List, [], ◌∷◌, Option, Some, None, slice_index, refl, sym, ap, ◌∙◌, arith, inl, inr, ◌⊎◌}
use Rattle.std.proofs.lemmas.Bool.{eq-eqb, cases_lt, and_from, lt-ltb, true≢false, cases_eq}
use Rattle.tao_base.specs.declared.calls.Op.TheVariants.{Read}
use Rattle.tao_base.specs.declared.session.Event.{Event}
use Rattle.tao_base.specs.declared.session.Event.TheVariants.{Arrive, Done, Issue, Acked, Fault}
use Rattle.tao_base.specs.Session.{Opening}
use Rattle.tao_model.specs.Greatest.{IsLast}
use Rattle.tao_model.specs.Events.{arrived, is_done, is_on, names, word_of, word_at}
use Rattle.tao_model.specs.Requests.{is_real, real_now, next_word}
use Rattle.tao_model.specs.LookBacks.{is_real_on}
use Rattle.tao_model.proofs.OneMoreEvent.{done_word}
use Rattle.tao_model.proofs.RealArrivals.{free_means, earlier_done}
use Rattle.tao_model.proofs.LastReal.{last_arrive, next_after_last}

-- there was no real arrival: the next one is real, and uses the block's first word
pub record IsFirst (o : Opening) (es : List Event) (block : ℕ) : Type 0 where
  pub real : real_now es (Read block) ≡ true
  pub word : word_at o es (next_word o es block) ≡ slice_index o.words block

-- there was one: the next one is real where it is done, and uses its word
pub record Follows (o : Opening) (es : List Event) (block last : ℕ) : Type 0 where
  pub within : last < arrived es
  pub real : real_now es (Read block) ≡ is_done es last
  pub word : word_at o es (next_word o es block) ≡ word_of es last

named : (block : ℕ) → names block (Read block) ≡ true
named block = eq-eqb block block refl

pub none_on : (o : Opening) (es : List Event) (block : ℕ) → block < o.shape.n → IsLast (is_real_on es block) (arrived es) None → IsFirst o es block
none_on o es block small none = record {
  real = (free_means (is_on es) (is_real es) (is_done es) (arrived es) block (Read block) (named block)).1
      (λ i below on real. absurd (true≢false (sym (and_from (is_real es i) (is_on es i block) real on) ∙ none i below)));
  word = ap (word_at o es) (next_after_last o es block None none) ∙ rw (lt-ltb block o.shape.n small) refl;
}

both : (x y : Bool) → (x && y) ≡ true → (x ≡ true) × (y ≡ true)
both true true h = (refl, refl)
both true false h = absurd (true≢false (sym h))
both false y h = absurd (true≢false (sym h))

pub some_on : (o : Opening) (es : List Event) (block last : ℕ) → IsLast (is_real_on es block) (arrived es) (Some last) → Follows o es block last
some_on o es block last is_last = record {
  within = is_last.0;
  real = either (is_done es last) refl (real_now es (Read block)) refl;
  word = ap (word_at o es) (next_after_last o es block (Some last) is_last) ∙ done_word o es last;
}
  where
    here : (is_real es last ≡ true) × (is_on es last block ≡ true)
    here = both (is_real es last) (is_on es last block) is_last.1

    done_each : is_done es last ≡ true → (i : ℕ) → i < arrived es → is_on es i block ≡ true → is_real es i ≡ true → (i < last) ⊎ (last ≤ i) → (i ≡ last) ⊎ (i ≡ last → ⊥) → is_done es i ≡ true
    done_each d i below on real (inl less) c = earlier_done es last i block is_last.0 here.1 here.0 less on real
    done_each d i below on real (inr more) (inl same) = ap (is_done es) same ∙ d
    done_each d i below on real (inr more) (inr other) =
        absurd (true≢false (sym (and_from (is_real es i) (is_on es i block) real on) ∙ is_last.2 i (omega (arith, other)) below))

    either : (d : Bool) → is_done es last ≡ d → (r : Bool) → real_now es (Read block) ≡ r → real_now es (Read block) ≡ is_done es last
    either true d r is = (free_means (is_on es) (is_real es) (is_done es) (arrived es) block (Read block) (named block)).1
        (λ i below on real. done_each d i below on real (cases_lt i last) (cases_eq i last)) ∙ sym d
    either false d false is = is ∙ sym d
    either false d true is = absurd (true≢false (sym
        ((free_means (is_on es) (is_real es) (is_done es) (arrived es) block (Read block) (named block)).0 is last is_last.0 here.1 here.0) ∙ d))

-- ---- the place of its word

last_on : (es : List Event) (block : ℕ) → (last : Option ℕ) × IsLast (is_real_on es block) (arrived es) last
last_on [] block = (None, λ i below. absurd (omega arith))
last_on (Arrive client op word ∷ es) block =
    let before = last_on es block in (
      cond (real_now es op && names block op) (Some (arrived es)) before.0,
      last_arrive es client op word block before.0 (real_now es op && names block op) refl before.1,
    )
last_on (Done arrival taken ∷ es) block = last_on es block
last_on (Issue version nonce buckets ∷ es) block = last_on es block
last_on (Acked version ∷ es) block = last_on es block
last_on (Fault cause ∷ es) block = last_on es block

-- the place is the block's own before its first real arrival
pub record IsOwn (o : Opening) (es : List Event) (block : ℕ) : Type 0 where
  pub place : next_word o es block ≡ block
  pub first : IsFirst o es block

-- then it is that of the last one
pub record IsOfLast (o : Opening) (es : List Event) (block last : ℕ) : Type 0 where
  pub place : next_word o es block ≡ o.shape.n + last
  pub follows : Follows o es block last

pub next_tells : (o : Opening) (es : List Event) (block : ℕ) → block < o.shape.n → IsOwn o es block ⊎ ((last : ℕ) × IsOfLast o es block last)
next_tells o es block small = either (last_on es block).0 (last_on es block).1
  where
    either : (last : Option ℕ) → IsLast (is_real_on es block) (arrived es) last → IsOwn o es block ⊎ ((last : ℕ) × IsOfLast o es block last)
    either None is = inl (record { place = next_after_last o es block None is; first = none_on o es block small is })
    either (Some last) is = inr (last, record { place = next_after_last o es block (Some last) is; follows = some_on o es block last is })

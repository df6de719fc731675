-- When a slot has no fault, by its id field and whether its other bytes are zero.
use Rattle.std.proofs.Common.{◌≡◌, ℕ, ◌+◌, ◌<◌, ◌≤◌, Bool, true, false, nat_lt, ◌==◌, if◌then◌else◌, Option, Some, None, refl, sym, ◌∙◌, arith, eqb, ltb}
use Rattle.std.proofs.lemmas.Bool.{le-ltb, ltb-false, eq-eqb, ne_eqb, cond-true, cond-false}
use Rattle.tao_base.specs.declared.storage.BucketFault.{BucketFault}
use Rattle.tao_base.specs.declared.storage.BucketFault.TheVariants.{Id, Order, Dummy}
use Rattle.tao_bucket.specs.Reading.{may_follow}

abbrev pub fault_by : ℕ → Option ℕ → ℕ → Bool → Option BucketFault
fault_by n before field zero =
    if nat_lt n field then Some Id else (if field == 0 then (if zero then None else Some Dummy) else (if may_follow before field then None else Some Order))

pub dummy_by : (n : ℕ) (before : Option ℕ) → fault_by n before 0 true ≡ None
dummy_by n before = cond-false (ltb n 0) (Some Id) None (le-ltb n 0 (omega arith))

pub entry_by : (n id : ℕ) (before : Option ℕ) (zero : Bool) → id < n → may_follow before (id + 1) ≡ true → fault_by n before (id + 1) zero ≡ None
entry_by n id before zero within follows =
    cond-false (ltb n (id + 1)) (Some Id) _ (le-ltb n (id + 1) (omega arith))
    ∙ cond-false (eqb (id + 1) 0) _ _ (ne_eqb (id + 1) 0 (λ e. omega arith))
    ∙ cond-true (may_follow before (id + 1)) None (Some Order) follows

-- what a slot without a fault is
pub record IsFaultless (n : ℕ) (before : Option ℕ) (field : ℕ) (zero : Bool) : Type 0 where
  pub within : field ≤ n
  pub dummy : field ≡ 0 → zero ≡ true
  pub follows : 0 < field → may_follow before field ≡ true

some_none : {X A : Type 0} (x : X) → Some x ≡ None → A
some_none x e = absurd cc

cond_none : {X : Type 0} (b : Bool) (x : X) (o : Option X) → (if b then Some x else o) ≡ None → (b ≡ false) × (o ≡ None)
cond_none true x o e = absurd cc
cond_none false x o e = (refl, e)

none_cond : {X : Type 0} (b : Bool) (x : X) → (if b then None else Some x) ≡ None → b ≡ true
none_cond true x e = refl
none_cond false x e = absurd cc

pub faultless : (n field : ℕ) (before : Option ℕ) (zero : Bool) → fault_by n before field zero ≡ None → IsFaultless n before field zero
faultless n field before zero none =
    let first = cond_none (ltb n field) Id _ none in
    record {
      within = ltb-false n field first.0;
      dummy = λ is_zero. none_cond zero Dummy (sym (cond-true (eqb field 0) _ _ (eq-eqb field 0 is_zero)) ∙ first.1);
      follows = λ some. none_cond (may_follow before field) Order (sym (cond-false (eqb field 0) _ _ (ne_eqb field 0 (λ e. omega arith))) ∙ first.1);
    }

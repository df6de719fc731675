-- Which buckets are in form and which records are lawful, in worked cases.
use Rattle.std.proofs.Common.{◌≡◌, ℕ, ◌<◌, ◌≤◌, List, [], ◌∷◌, All, slice_index, refl, ap, arith}
use Rattle.std.proofs.lemmas.Bool.{true≢false, ltb-true}
use Rattle.std.proofs.lemmas.List.Elements.{All-head, All-tail}
use Rattle.tao_base.specs.declared.storage.Bucket.{Bucket}
use Rattle.tao_base.specs.Limits.{Shape}
use Rattle.tao_base.specs.Buckets.{IsInForm}
use Rattle.tao_model.specs.Lawful.{IsLawful}
use Rattle.tao_model.specs.Worked.{entry, zero}
use Rattle.tao_model.specs.WorkedRefusals.{FormsAreTold, both_taken, one_fetched, one_of_three, one_written, RefusalsAreTold}
use Rattle.tao_model.proofs.LawfulTests.{form_by, lawful_by}

pub forms_are_told : FormsAreTold
forms_are_told = record {
  full = form_by _ _ refl;
  falls = λ is. let wrong : 3 ≤ 1 = is.entries.rising.1.0 in omega arith;
  twice = λ is. let wrong : 2 ≤ 1 = is.entries.rising.1.0 in omega arith;
  many = λ is. let wrong : 3 ≤ 2 = is.entries.few in omega arith;
  no_block = λ is. let wrong : 3 < 3 = All-head (λ e. e.id < 3) (entry 3 zero) [] is.entries.ids in omega arith;
  short = λ is. let wrong : 3 ≡ 4 = is.entries.values 0 (entry 0 []) (ltb-true 0 1 refl) in omega arith;
  stash = λ is. let wrong : 1 ≤ 0 = is.low in omega arith;
  past = λ is. let wrong : 4 ≤ 3 = is.high in omega arith;
}

-- the last of two fetched buckets is in form
second_in_form : (s : Shape) (x y : Bucket) → All (IsInForm s) (x ∷ y ∷ []) → IsInForm s y
second_in_form s x y all = All-head (IsInForm s) y [] (All-tail (IsInForm s) x (y ∷ []) all)

pub refusals_are_told : RefusalsAreTold
refusals_are_told = record {
  rises = lawful_by (both_taken (entry 0 zero ∷ entry 1 zero ∷ [])) refl refl refl refl;
  falls = λ is. let wrong : 2 ≤ 0 = (second_in_form _ _ _ is.follows.2.1.in_form).entries.rising.1.0 in omega arith;
  pays = lawful_by (one_fetched (one_written 1 4 5 ∷ [])) refl refl refl refl;
  owes = λ is. let wrong : 1 < 1 = is.owes in omega arith;
  pays_late = λ is. let wrong : 1 < 1 = is.follows.0.2.0 in omega arith;
  skips_a_version = λ is. let wrong : 2 ≡ 1 = is.follows.2.next in omega arith;
  nonce_again = λ is. let wrong : 3 ≡ 4 = is.follows.2.counts_on in omega arith;
  same_nonce = λ is. let wrong : 4 ≡ 5 = ap second is.follows.2.nonces in omega arith;
  before_its_period = λ is. let wrong : 1 ≡ 3 = is.follows.2.due in omega arith;
  acknowledged_early = λ is. let wrong : 1 ≤ 0 = is.follows.2.2 in omega arith;
  done_again = λ is. true≢false is.follows.2.1.under_way;
  done_before_arrival = λ is. let wrong : 1 < 1 = is.follows.2.1.arrived in omega arith;
  ends_with_a_fault = record { opens = quiet.opens; follows = (quiet.follows, refl, (quiet.owes, tt)); owes = quiet.owes };
  goes_on_after_a_fault = λ is. true≢false is.follows.1;
}
  where
    second : List ℕ → ℕ
    second ns = slice_index ns 1

    quiet : IsLawful (one_of_three [])
    quiet = lawful_by (one_of_three []) refl refl refl refl

-- The record of the tests is lawful.
use Rattle.std.proofs.Common.{◌≡◌, ℕ, ◌<◌, ◌≤◌, List, [], ◌∷◌, reverse, length, All, refl, sym, subst, arith, inl}
use Rattle.std.proofs.lemmas.List.Elements.{All-nil, All-cons}
use Rattle.tao_base.specs.declared.calls.Op.TheVariants.{Read, Write, Pad}
use Rattle.tao_base.specs.declared.session.Event.{Event}
use Rattle.tao_base.specs.declared.session.Event.TheVariants.{Arrive, Done, Issue, Acked}
use Rattle.tao_base.specs.declared.storage.Bucket.{Bucket}
use Rattle.tao_base.specs.declared.storage.Entry.{Entry}
use Rattle.tao_base.specs.Session.{Opening}
use Rattle.tao_model.specs.Residence.{newest_version}
use Rattle.tao_base.specs.Buckets.{IsInForm}
use Rattle.tao_model.specs.Lawful.{FollowsLawfully, IsOpening}
use Rattle.tao_trace.specs.Told.{told_opening, told_record, bare}

one : {X : Type 0} (P : X → Type 0) (x : X) → P x → All P (x ∷ [])
one P x p = All-cons P x [] p (All-nil P)

two : {X : Type 0} (P : X → Type 0) (x y : X) → P x → P y → All P (x ∷ y ∷ [])
two P x y p q = All-cons P x (y ∷ []) p (one P y q)

three : {X : Type 0} (P : X → Type 0) (x y z : X) → P x → P y → P z → All P (x ∷ y ∷ z ∷ [])
three P x y z p q r = All-cons P x (y ∷ z ∷ []) p (two P y z q r)

opens : IsOpening told_opening
opens = record {
  shape = record {
    height_low = omega arith;
    height_high = omega arith;
    bucket_low = omega arith;
    bucket_high = omega arith;
    block_low = omega arith;
    block_high = omega arith;
    block_words = refl;
    count_low = omega arith;
    count_high = omega arith;
    period_low = omega arith;
    period_high = omega arith;
    tree = omega arith;
  };
  words = refl;
  blocks = refl;
  values = two (λ (value : List ℕ). length value ≡ told_opening.shape.b) (0 ∷ 0 ∷ 0 ∷ 0 ∷ []) (97 ∷ 97 ∷ 97 ∷ 97 ∷ []) refl refl;
}

form : (node version nonce : ℕ) → 1 ≤ node → node ≤ 3 → IsInForm told_opening.shape (bare node version nonce)
form node version nonce low high = record { low = low; high = high; entries = record { few = omega arith; rising = tt; ids = All-nil (λ (entry : Entry). entry.id < told_opening.shape.n); values = All-nil (λ (entry : Entry). length entry.value ≡ told_opening.shape.b) } }

abbrev since_0 : List Event
since_0 = Arrive 0 (Write 0 (98 ∷ 98 ∷ 98 ∷ 98 ∷ [])) 1 ∷ []

abbrev since_1 : List Event
since_1 = Arrive 1 (Read 0) 1 ∷ since_0

abbrev since_2 : List Event
since_2 = Arrive 2 Pad 0 ∷ since_1

follows_2 : FollowsLawfully told_opening since_2
follows_2 = (((opens, refl, (omega arith, omega arith, omega arith, (omega arith, refl))), refl, (omega arith, omega arith, omega arith, omega arith)), refl, (omega arith, omega arith, omega arith, tt))

abbrev since_3 : List Event
since_3 = Done 1 (bare 1 0 1 ∷ bare 3 0 3 ∷ []) ∷ since_2

follows_3 : FollowsLawfully told_opening since_3
follows_3 = (
  follows_2,
  refl,
  (
    omega arith,
    record {
      arrived = omega arith;
      under_way = refl;
      nodes = refl;
      in_form = two (IsInForm told_opening.shape) (bare 1 0 1) (bare 3 0 3) (form 1 0 1 (omega arith) (omega arith)) (form 3 0 3 (omega arith) (omega arith));
      versions = two (λ (bucket : Bucket). bucket.version ≡ newest_version since_2 bucket.node) (bare 1 0 1) (bare 3 0 3) refl refl;
    },
  ),
)

abbrev since_4 : List Event
since_4 = Done 2 (bare 2 0 2 ∷ []) ∷ since_3

follows_4 : FollowsLawfully told_opening since_4
follows_4 = (
  follows_3,
  refl,
  (
    omega arith,
    record {
      arrived = omega arith;
      under_way = refl;
      nodes = refl;
      in_form = one (IsInForm told_opening.shape) (bare 2 0 2) (form 2 0 2 (omega arith) (omega arith));
      versions = one (λ (bucket : Bucket). bucket.version ≡ newest_version since_3 bucket.node) (bare 2 0 2) refl;
    },
  ),
)

abbrev since_5 : List Event
since_5 = Done 0 [] ∷ since_4

follows_5 : FollowsLawfully told_opening since_5
follows_5 = (follows_4, refl, (omega arith, record { arrived = omega arith; under_way = refl; nodes = refl; in_form = All-nil (IsInForm told_opening.shape); versions = All-nil (λ (bucket : Bucket). bucket.version ≡ newest_version since_4 bucket.node) }))

abbrev since_6 : List Event
since_6 = Issue 1 4 (bare 1 1 4 ∷ bare 2 1 5 ∷ bare 3 1 6 ∷ []) ∷ since_5

follows_6 : FollowsLawfully told_opening since_6
follows_6 = (
  follows_5,
  refl,
  record {
    next = refl;
    due = refl;
    nodes = refl;
    in_form = three (IsInForm told_opening.shape) (bare 1 1 4) (bare 2 1 5) (bare 3 1 6) (form 1 1 4 (omega arith) (omega arith)) (form 2 1 5 (omega arith) (omega arith)) (form 3 1 6 (omega arith) (omega arith));
    versions = three (λ (bucket : Bucket). bucket.version ≡ 1) (bare 1 1 4) (bare 2 1 5) (bare 3 1 6) refl refl refl;
    counts_on = refl;
    nonces = refl;
  },
)

abbrev since_8 : List Event
since_8 = Arrive 0 (Read 1) 5 ∷ Acked 1 ∷ since_6

follows_8 : FollowsLawfully told_opening since_8
follows_8 = ((follows_6, refl, (omega arith, omega arith, omega arith, refl)), refl, (omega arith, omega arith, omega arith, omega arith))

follows_all : FollowsLawfully told_opening (reverse told_record.events)
follows_all = (follows_8, refl, (omega arith, (refl, inl (omega arith, refl, refl))))

-- a record with these events is lawful, and has ten
pub told_lawful : (o : Opening) (events : List Event) → o ≡ told_opening → events ≡ told_record.events → FollowsLawfully o (reverse events)
told_lawful o events a b = subst (λ p. FollowsLawfully p (reverse events)) (sym a) (subst (λ l. FollowsLawfully told_opening (reverse l)) (sym b) follows_all)

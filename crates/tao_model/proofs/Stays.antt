-- What later events don't change. The events are newest first.
use Rattle.std.proofs.Common.{◌≡◌, ℕ, ◌+◌, ◌-◌, ◌<◌, ◌≤◌, List, [], ◌∷◌, ◌++◌, reverse, refl, arith, inl, inr, ◌⊎◌}
use Rattle.std.proofs.lemmas.Bool.{ne_eqb, lt-ltb, le-ltb, cases_lt}
use Rattle.std.proofs.lemmas.List.{reverse-append}
use Rattle.tao_base.specs.declared.session.Event.{Event}
use Rattle.tao_base.specs.declared.session.Event.TheVariants.{Arrive, Done, Issue, Acked, Fault}
use Rattle.tao_base.specs.Session.{Opening}
use Rattle.tao_model.specs.Events.{arrived, is_on, is_pad, client_of, word_of, word_at}
use Rattle.tao_model.specs.Requests.{is_real, settler, word_used}
use Rattle.tao_model.specs.Replies.{plain_reply}

-- an event appended to a record comes first in the reversed list
pub newest_first : (events : List Event) (e : Event) → reverse (events ++ e ∷ []) ≡ e ∷ reverse events
newest_first events e = reverse-append events (e ∷ [])

pub on_stays : (es : List Event) (e : Event) (i block : ℕ) → i < arrived es → is_on (e ∷ es) i block ≡ is_on es i block
on_stays es (Arrive client op word) i block h = rw (ne_eqb i (arrived es) (λ same. omega arith)) refl
on_stays es (Done arrival taken) i block h = refl
on_stays es (Issue version nonce buckets) i block h = refl
on_stays es (Acked version) i block h = refl
on_stays es (Fault cause) i block h = refl

pub pad_stays : (es : List Event) (e : Event) (i : ℕ) → i < arrived es → is_pad (e ∷ es) i ≡ is_pad es i
pad_stays es (Arrive client op word) i h = rw (ne_eqb i (arrived es) (λ same. omega arith)) refl
pad_stays es (Done arrival taken) i h = refl
pad_stays es (Issue version nonce buckets) i h = refl
pad_stays es (Acked version) i h = refl
pad_stays es (Fault cause) i h = refl

pub client_stays : (es : List Event) (e : Event) (i : ℕ) → i < arrived es → client_of (e ∷ es) i ≡ client_of es i
client_stays es (Arrive client op word) i h = rw (ne_eqb i (arrived es) (λ same. omega arith)) refl
client_stays es (Done arrival taken) i h = refl
client_stays es (Issue version nonce buckets) i h = refl
client_stays es (Acked version) i h = refl
client_stays es (Fault cause) i h = refl

pub word_stays : (es : List Event) (e : Event) (i : ℕ) → i < arrived es → word_of (e ∷ es) i ≡ word_of es i
word_stays es (Arrive client op word) i h = rw (ne_eqb i (arrived es) (λ same. omega arith)) refl
word_stays es (Done arrival taken) i h = refl
word_stays es (Issue version nonce buckets) i h = refl
word_stays es (Acked version) i h = refl
word_stays es (Fault cause) i h = refl

pub real_stays : (es : List Event) (e : Event) (i : ℕ) → i < arrived es → is_real (e ∷ es) i ≡ is_real es i
real_stays es (Arrive client op word) i h = rw (ne_eqb i (arrived es) (λ same. omega arith)) refl
real_stays es (Done arrival taken) i h = refl
real_stays es (Issue version nonce buckets) i h = refl
real_stays es (Acked version) i h = refl
real_stays es (Fault cause) i h = refl

pub settler_stays : (es : List Event) (e : Event) (i : ℕ) → i < arrived es → settler (e ∷ es) i ≡ settler es i
settler_stays es (Arrive client op word) i h = rw (ne_eqb i (arrived es) (λ same. omega arith)) refl
settler_stays es (Done arrival taken) i h = refl
settler_stays es (Issue version nonce buckets) i h = refl
settler_stays es (Acked version) i h = refl
settler_stays es (Fault cause) i h = refl

pub used_stays : (o : Opening) (es : List Event) (e : Event) (i : ℕ) → i < arrived es → word_used o (e ∷ es) i ≡ word_used o es i
used_stays o es (Arrive client op word) i h = rw (ne_eqb i (arrived es) (λ same. omega arith)) refl
used_stays o es (Done arrival taken) i h = refl
used_stays o es (Issue version nonce buckets) i h = refl
used_stays o es (Acked version) i h = refl
used_stays o es (Fault cause) i h = refl

pub reply_stays : (o : Opening) (es : List Event) (e : Event) (i : ℕ) → i < arrived es → plain_reply o (e ∷ es) i ≡ plain_reply o es i
reply_stays o es (Arrive client op word) i h = rw (ne_eqb i (arrived es) (λ same. omega arith)) refl
reply_stays o es (Done arrival taken) i h = refl
reply_stays o es (Issue version nonce buckets) i h = refl
reply_stays o es (Acked version) i h = refl
reply_stays o es (Fault cause) i h = refl

-- one more event keeps the word at a place of the tape
pub place_stays : (o : Opening) (es : List Event) (e : Event) (place : ℕ) → place < o.shape.n + arrived es → word_at o (e ∷ es) place ≡ word_at o es place
place_stays o es e place h = either (cases_lt place o.shape.n)
  where
    either : (place < o.shape.n) ⊎ (o.shape.n ≤ place) → word_at o (e ∷ es) place ≡ word_at o es place
    either (inl low) = rw (lt-ltb place o.shape.n low) refl
    either (inr high) = rw (le-ltb place o.shape.n high) (word_stays es e (place - o.shape.n) (omega arith))

-- Stability: what later events don't change. A record's events are oldest first.
use Rattle.std.specs.Prelude.{◌≡◌, ℕ, ◌<◌, ◌≤◌, List, ◌++◌, reverse}
use Rattle.tao_base.specs.declared.session.Event.{Event}
use Rattle.tao_base.specs.Session.{Opening}
use Rattle.tao_model.specs.Events.{arrived, client_of}
use Rattle.tao_model.specs.Requests.{is_real, settler, word_used, fetched_leaf}
use Rattle.tao_model.specs.Replies.{plain_reply, released}
use Rattle.tao_model.specs.Lawful.{FollowsLawfully}

-- nothing that was known of arrival i has changed: client, kind, word, leaf, plain reply and settler
pub record IsAsBefore (o : Opening) (before now : List Event) (i : ℕ) : Type 0 where
  pub client : client_of now i ≡ client_of before i
  pub real : is_real now i ≡ is_real before i
  pub word : word_used o now i ≡ word_used o before i
  pub leaf : fetched_leaf o now i ≡ fetched_leaf o before i
  pub reply : plain_reply o now i ≡ plain_reply o before i
  pub settler : settler now i ≡ settler before i

-- no later event changes an arrival that was made
abbrev pub ArrivalsStay : Type 0
ArrivalsStay = (o : Opening) (events later : List Event) (i : ℕ) → FollowsLawfully o (reverse events) → i < arrived (reverse events)
    → IsAsBefore o (reverse events) (reverse (events ++ later)) i

-- the released count never falls
abbrev pub ReleasedGrows : Type 0
ReleasedGrows = (events later : List Event) → released (reverse events) ≤ released (reverse (events ++ later))

-- The place of the tape word that an arrival uses never changes, whatever the record is.
abbrev pub UsedStays : Type 0
UsedStays = (o : Opening) (events later : List Event) (i : ℕ) → i < arrived (reverse events) → word_used o (reverse (events ++ later)) i ≡ word_used o (reverse events) i

-- A prefix of a record that follows lawfully does too.
abbrev pub PrefixFollows : Type 0
PrefixFollows = (o : Opening) (events later : List Event) → FollowsLawfully o (reverse (events ++ later)) → FollowsLawfully o (reverse events)

-- Laws of what is held. A record's events are oldest first.
use Rattle.std.specs.Prelude.{◌≡◌, ℕ, ◌+◌, ◌<◌, ◌==◌, Bool, true, false, ◌||◌, if◌then◌else◌, List, [], ◌∷◌, ◌++◌, reverse, length, take, drop, Some, is_some, All}
use Rattle.tao_base.specs.declared.calls.Op.{Op}
use Rattle.tao_base.specs.declared.session.Cause.{Cause}
use Rattle.tao_base.specs.declared.session.Event.{Event}
use Rattle.tao_base.specs.declared.session.Event.TheVariants.{Arrive, Done, Issue, Acked, Fault}
use Rattle.tao_base.specs.declared.storage.Bucket.{Bucket}
use Rattle.tao_base.specs.declared.storage.Entry.{Entry}
use Rattle.tao_base.specs.Limits.{Shape}
use Rattle.tao_base.specs.Session.{Opening}
use Rattle.tao_base.specs.Array.{array_after, block_at}
use Rattle.tao_model.specs.Events.{arrived, is_done, is_pad}
use Rattle.tao_model.specs.Requests.{is_settled}
use Rattle.tao_model.specs.Residence.{is_resident}
use Rattle.tao_model.specs.Replies.{ops}
use Rattle.tao_base.specs.Buckets.{Rises}
use Rattle.tao_model.specs.Placement.{look, first_copy}
use Rattle.tao_model.specs.Passes.{gather}
use Rattle.tao_model.specs.Evictions.{evicted}
use Rattle.tao_model.specs.Lawful.{FollowsLawfully}
use Rattle.tao_model.specs.OneMore.{with_one_more}
use Rattle.tao_held.specs.Steps.{entry_of, put}
use Rattle.tao_held.specs.Held.{held, held_done, after_fetch, found_value, served_answer, value_since, value_between}

-- How one more event changes what is held: only a Done changes entries, and an acknowledgement lets nodes go.
pub record HeldMoves (o : Opening) (events : List Event) : Type 0 where
  pub arrive : (client : ℕ) (op : Op) (word : ℕ) (w : ℕ) → held o (with_one_more events (Arrive client op word)) w ≡ held o (reverse events) w
  pub done : (i : ℕ) (taken : List Bucket) (w : ℕ) → held o (with_one_more events (Done i taken)) w ≡ held_done o (reverse events) (λ v. held o (reverse events) v) i taken w
  pub issue : (version nonce : ℕ) (buckets : List Bucket) (w : ℕ) → held o (with_one_more events (Issue version nonce buckets)) w ≡ held o (reverse events) w
  pub acked : (version : ℕ) (w : ℕ) → held o (with_one_more events (Acked version)) w
      ≡ (if w == 0 || is_resident o (with_one_more events (Acked version)) w then held o (reverse events) w else [])
  pub fault : (cause : Cause) (w : ℕ) → held o (with_one_more events (Fault cause)) w ≡ held o (reverse events) w

-- this holds for every record
abbrev pub HeldStays : Type 0
HeldStays = (o : Opening) (events : List Event) → HeldMoves o events

-- A node that the proxy doesn't hold is empty.
abbrev pub AwayIsEmpty : Type 0
AwayIsEmpty = (o : Opening) (events : List Event) (w : ℕ) → 0 < w → is_resident o (reverse events) w ≡ false → held o (reverse events) w ≡ []

-- The answer of a settled arrival doesn't change.
abbrev pub AnswersStay : Type 0
AnswersStay = (o : Opening) (events later : List Event) (j : ℕ) → FollowsLawfully o (reverse (events ++ later)) → j < arrived (reverse events)
    → is_settled (reverse events) j ≡ true → served_answer o (reverse (events ++ later)) j ≡ served_answer o (reverse events) j

-- What was found for a done arrival doesn't change.
abbrev pub FoundStays : Type 0
FoundStays = (o : Opening) (events later : List Event) (i : ℕ) → FollowsLawfully o (reverse (events ++ later)) → is_done (reverse events) i ≡ true
    → found_value o (reverse (events ++ later)) i ≡ found_value o (reverse events) i

-- the values of all entries have so many bytes
abbrev pub HaveLength : ℕ → (ℕ → List Entry) → Type 0
HaveLength bytes contents = (w : ℕ) → All (λ entry. length entry.value ≡ bytes) (contents w)

-- All values that the proxy holds have the length of a block, whether fetched buckets were altered or not.
abbrev pub HeldHaveLength : Type 0
HeldHaveLength = (o : Opening) (events : List Event) → FollowsLawfully o (reverse events) → HaveLength o.shape.b (λ w. held o (reverse events) w)

-- So has what the look-up of a done arrival found.
abbrev pub FoundHaveLength : Type 0
FoundHaveLength = (o : Opening) (events : List Event) (i : ℕ) → FollowsLawfully o (reverse events) → is_done (reverse events) i ≡ true
    → length (found_value o (reverse events) i) ≡ o.shape.b

-- The answer of a settled arrival has it too, and a pad's has no bytes.
abbrev pub AnswersHaveLength : Type 0
AnswersHaveLength = (o : Opening) (events : List Event) (j : ℕ) → FollowsLawfully o (reverse events) → is_settled (reverse events) j ≡ true
    → length (served_answer o (reverse events) j) ≡ (if is_pad (reverse events) j then 0 else o.shape.b)

-- The arrivals from number i on change a value as the plain array does by their operations.
abbrev pub SinceIsFold : Type 0
SinceIsFold = (events : List Event) (blocks : List (List ℕ)) (block i : ℕ) → block < length blocks
    → value_since (reverse events) block i (block_at blocks block) ≡ block_at (array_after blocks (drop i (ops events))) block

-- The same for the k arrivals from number i on.
abbrev pub BetweenIsFold : Type 0
BetweenIsFold = (events : List Event) (blocks : List (List ℕ)) (block i k : ℕ) → block < length blocks
    → value_between (reverse events) block i (i + k) (block_at blocks block) ≡ block_at (array_after blocks (take k (drop i (ops events)))) block

-- ---- contents that agree at every node

-- an eviction depends only on the leaves of the gathered blocks
abbrev pub EvictedAlike : Type 0
EvictedAlike = (s : Shape) (path : List ℕ) (leaf leaf' : ℕ → ℕ) (old : ℕ → List Entry)
    → ((b : ℕ) → is_some (first_copy (0 ∷ path) old b) ≡ true → leaf b ≡ leaf' b) → (w : ℕ) → evicted s path leaf old w ≡ evicted s path leaf' old w

-- all ids are below n
abbrev pub AreIdsBelow : ℕ → (ℕ → List Entry) → Type 0
AreIdsBelow n contents = (w : ℕ) → All (λ entry. entry.id < n) (contents w)

-- A whole fetch too. If all entries are of the store's blocks, only these blocks' leaves count.
abbrev pub FetchedAlike : Type 0
FetchedAlike = (real : Bool) (s : Shape) (at : ℕ) (leaf leaf' : ℕ → ℕ) (resident resident' : ℕ → Bool) (taken own own' : ℕ → List Entry) (block : ℕ) (value : List ℕ)
    → ((b : ℕ) → b < s.n → leaf b ≡ leaf' b) → ((w : ℕ) → resident w ≡ resident' w) → ((w : ℕ) → own w ≡ own' w)
    → AreIdsBelow s.n taken → AreIdsBelow s.n own → (real ≡ true → block < s.n)
    → (w : ℕ) → after_fetch real s at leaf resident taken own block value w ≡ after_fetch real s at leaf' resident' taken own' block value w

-- a put changes only the stash: it still rises, has the new value of the block, and the old values of all others
abbrev pub PutIs : Type 0
PutIs = (contents : ℕ → List Entry) (b : ℕ) (value : List ℕ)
    → Rises 0 (put contents b value 0)
    × ((c : ℕ) → look c (put contents b value 0) ≡ (if b == c then Some value else look c (contents 0)))
    × ((w : ℕ) → 0 < w → put contents b value w ≡ contents w)

-- A list in order that differs from another in one block's value only is that one with the value put.
abbrev pub PutIsGathered : Type 0
PutIsGathered = (b : ℕ) (value : List ℕ) (old new : List Entry) → Rises 0 new → look b new ≡ Some value
    → ((c : ℕ) → (c ≡ b → ⊥) → look c new ≡ look c old) → new ≡ gather (entry_of b value ∷ []) old

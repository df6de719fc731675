-- Laws of requests: what is known while a real arrival is under way, and when none is. A record's events are oldest first.
use Rattle.std.specs.Prelude.{◌≡◌, ℕ, ◌+◌, ◌<◌, ◌≤◌, nat_lt, true, false, List, reverse}
use Rattle.tao_base.specs.declared.session.Event.{Event}
use Rattle.tao_base.specs.Session.{Opening}
use Rattle.tao_base.specs.Array.{block_at}
use Rattle.tao_model.specs.Events.{arrived, is_done, is_on}
use Rattle.tao_model.specs.Requests.{is_real, settler, is_settled, next_word, leaf_at, word_used, fetched_leaf, position_word, position}
use Rattle.tao_model.specs.Replies.{array_now, plain_reply, released}
use Rattle.tao_model.specs.Lawful.{FollowsLawfully}
use Rattle.tao_laws.specs.SettledValues.{settled_value}

-- a real arrival on a block that isn't done yet
pub record IsOpen (es : List Event) (block i : ℕ) : Type 0 where
  pub arrived : i < arrived es
  pub on : is_on es i block ≡ true
  pub real : is_real es i ≡ true
  pub under_way : is_done es i ≡ false

-- each real arrival on the block is done
abbrev pub IsQuiet : List Event → ℕ → Type 0
IsQuiet es block = (i : ℕ) → i < arrived es → is_on es i block ≡ true → is_real es i ≡ true → is_done es i ≡ true

-- At most one real arrival on a block is under way.
abbrev pub OneReal : Type 0
OneReal = (events : List Event) (block i j : ℕ) → IsOpen (reverse events) block i → IsOpen (reverse events) block j → i ≡ j

-- While a real arrival on a block is under way, it uses the word of the block's position, and its own word is the block's next.
-- Otherwise the next word is that of the position.
pub record HandsWordsOn (o : Opening) (es : List Event) (block : ℕ) : Type 0 where
  pub used : (i : ℕ) → IsOpen es block i → word_used o es i ≡ position_word o es block
  pub next : (i : ℕ) → IsOpen es block i → next_word o es block ≡ o.shape.n + i
  pub quiet : IsQuiet es block → next_word o es block ≡ position_word o es block

-- In a record that follows lawfully, words are handed on for every block.
abbrev pub WordsAreHandedOn : Type 0
WordsAreHandedOn = (o : Opening) (events : List Event) (block : ℕ) → FollowsLawfully o (reverse events) → HandsWordsOn o (reverse events) block

-- A real arrival under way fetches the leaf of its block's position. If none is under way, the next one will.
pub record FetchesPosition (o : Opening) (es : List Event) (block : ℕ) : Type 0 where
  pub open_one : (i : ℕ) → IsOpen es block i → fetched_leaf o es i ≡ position o es block
  pub next_one : IsQuiet es block → leaf_at o es (next_word o es block) ≡ position o es block

-- In a record that follows lawfully, this holds for every block.
abbrev pub LeafIsPosition : Type 0
LeafIsPosition = (o : Opening) (events : List Event) (block : ℕ) → FollowsLawfully o (reverse events) → FetchesPosition o (reverse events) block

-- A block's queue starts at the real arrival under way: later ones wait for it, and the block's earlier ones are settled.
pub record IsQueueFrom (es : List Event) (block i : ℕ) : Type 0 where
  pub waits : (j : ℕ) → j < arrived es → is_on es j block ≡ true → i ≤ j → settler es j ≡ i
  pub settled : (j : ℕ) → j < arrived es → is_on es j block ≡ true → is_settled es j ≡ nat_lt j i

-- In any record, the real arrival under way on a block starts the block's queue.
abbrev pub QueueOfBlock : Type 0
QueueOfBlock = (events : List Event) (block i : ℕ) → IsOpen (reverse events) block i → IsQueueFrom (reverse events) block i

-- If no real arrival on a block is under way, all its arrivals are settled.
abbrev pub QuietIsSettled : Type 0
QuietIsSettled = (events : List Event) (block i : ℕ) → IsQuiet (reverse events) block → i < arrived (reverse events) → is_on (reverse events) i block ≡ true
    → is_settled (reverse events) i ≡ true

-- Released arrivals are settled.
abbrev pub ReleasedIsSettled : Type 0
ReleasedIsSettled = (events : List Event) (i : ℕ) → i < released (reverse events) → is_settled (reverse events) i ≡ true

-- The settled value of a block is the plain reply of the real arrival under way on it, or else the plain array's current value.
pub record IsRightValue (o : Opening) (es : List Event) (block : ℕ) : Type 0 where
  pub open_one : (i : ℕ) → IsOpen es block i → settled_value o es block ≡ plain_reply o es i
  pub quiet : IsQuiet es block → settled_value o es block ≡ block_at (array_now o es) block

-- In any record, this holds for every block.
abbrev pub RightValue : Type 0
RightValue = (o : Opening) (events : List Event) (block : ℕ) → IsRightValue o (reverse events) block

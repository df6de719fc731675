-- What one pass may know of the history: the list of the value's entries, which only grows.
use Rattle.std.specs.Prelude.{◌≡◌, ℕ, ◌+◌, ◌-◌, ◌<◌, ◌≤◌, max, List, [], ◌∷◌, ◌++◌, length, Option, Some, true, false, ◌⊎◌}
use Rattle.std.specs.List.{range_with_len}
use Rattle.tao_turn.specs.Lists.{Begins, longer, has, removed, missing, merged, is_empty, RisesFrom}
use Rattle.tao_turn.specs.declared.view.Knowledge.{Knowledge}

-- no entry from position n on was made under one of these shares
abbrev pub NoneMade : {E : Type 0} → (List E → ℕ → Option ℕ) → List E → ℕ → List ℕ → Type 0
NoneMade maker list n shares = (i k : ℕ) → n ≤ i → i < length list → maker list i ≡ Some k → has k shares ≡ false

-- each entry from position n on was made by nobody, or under one of these shares
abbrev pub OwnMade : {E : Type 0} → (List E → ℕ → Option ℕ) → List E → ℕ → List ℕ → Type 0
OwnMade maker list n shares = (i k : ℕ) → n ≤ i → i < length list → maker list i ≡ Some k → has k shares ≡ true

-- all shares of a lock stand in the list
abbrev pub HasAll : ℕ → List ℕ → Type 0
HasAll seats shares = (n : ℕ) → n < seats → has n shares ≡ true

module _ {E : Type 0} where
  -- a pass with these shares that has seen this list and nothing else
  abbrev pub newcomer : List E → List ℕ → Knowledge E
  newcomer list shares = record { ended = 0; seen = list; added = []; told = 0; shares = shares }

  -- after a turn with this ticket that found one list and left another
  abbrev pub after_turn : Knowledge E → ℕ → List E → List E → Knowledge E
  after_turn k ticket found left = record k { ended = ticket + 1; seen = left; added = k.added ++ range_with_len (length found) (length left - length found) }

  -- without the share n, which goes to a pass of its own
  abbrev pub without : ℕ → Knowledge E → Knowledge E
  without n k = record k { shares = removed n k.shares }

  -- with the share n alone, and nothing added
  abbrev pub only : ℕ → Knowledge E → Knowledge E
  only n k = record k { shares = n ∷ []; added = [] }

  -- tickets that were drawn and never served: no turns that the pass knows to have ended, and at most one for each share that it lacks
  pub record AreLeftOut (seats : ℕ) (k : Knowledge E) (ticket serving : ℕ) : Type 0 where
    pub ended : k.ended ≤ serving
    pub some : serving < ticket
    pub most : ticket ≤ serving + length (missing k.shares (range_with_len 0 seats))

  -- what two passes know together
  abbrev pub joined : Knowledge E → Knowledge E → Knowledge E
  joined k m = record { ended = max k.ended m.ended; seen = longer k.seen m.seen; added = merged k.added m.added; told = max k.told m.told; shares = merged k.shares m.shares }

  module _ (maker : List E → ℕ → Option ℕ) where
    -- a pass that knows k may find this list: it goes on from what was seen, nobody else made an entry under the pass's shares, and
    -- its mark is no less than the one that was last glanced
    pub record MayFind (mark_of : List E → ℕ) (k : Knowledge E) (list : List E) : Type 0 where
      pub seen : Begins k.seen list
      pub others : NoneMade maker list (length k.seen) k.shares
      pub mark : k.told ≤ mark_of list

    -- what one pass has seen is a prefix of what the other has seen, and the rest wasn't made under its shares; or the other way round
    abbrev pub AreOfOne : Knowledge E → Knowledge E → Type 0
    AreOfOne k m = (Begins k.seen m.seen × NoneMade maker m.seen (length k.seen) k.shares) ⊎ (Begins m.seen k.seen × NoneMade maker k.seen (length m.seen) m.shares)

  -- the added positions rise and lie in the list that was seen; the shares rise, at least one, and are below `seats`
  pub record IsInOrder (seats : ℕ) (k : Knowledge E) : Type 0 where
    pub added : RisesFrom 0 k.added
    pub within : (i : ℕ) → has i k.added ≡ true → i < length k.seen
    pub shares : RisesFrom 0 k.shares
    pub numbers : (n : ℕ) → has n k.shares ≡ true → n < seats
    pub some_share : is_empty k.shares ≡ false

-- each call leaves in order what a pass knows
pub record StaysInOrder (E : Type 0) : Type 0 where
  pub made : (seats : ℕ) (list : List E) → 0 < seats → IsInOrder seats (newcomer list (range_with_len 0 seats))
  pub left : (seats : ℕ) (k : Knowledge E) (ticket : ℕ) (found list : List E) → IsInOrder seats k → Begins k.seen found → Begins found list → IsInOrder seats (after_turn k ticket found list)
  pub glanced : (seats : ℕ) (k : Knowledge E) (mark : ℕ) → IsInOrder seats k → IsInOrder seats (record k { told = mark })
  pub cut : (seats : ℕ) (k : Knowledge E) (n : ℕ) → IsInOrder seats k → is_empty (removed n k.shares) ≡ false → IsInOrder seats (without n k)
  pub split : (seats : ℕ) (k : Knowledge E) (n : ℕ) → IsInOrder seats k → has n k.shares ≡ true → IsInOrder seats (only n k)
  pub merged : (seats : ℕ) (k m : Knowledge E) → IsInOrder seats k → IsInOrder seats m → IsInOrder seats (joined k m)

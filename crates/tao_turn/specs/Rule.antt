-- The rule of the turn lock. Word 0 is the next ticket, word 1 the ticket that is served, word 2 a mark; the slot has the value.
use Rattle.std.specs.Prelude.{◌≡◌, ℕ, ◌<◌, ◌≤◌, List, [], ◌∷◌, length, Option, Some, Bool, true, false}
use mathlib.Core.Option.{some, none}
use mathlib.Core.Option as maybe
use lib.ListN.{get_elem?}
use Rattle.atomic_table.specs.Table.{State}
use Rattle.tao_turn.specs.Lists.{Begins, is_empty, has}
use Rattle.tao_turn.specs.Histories.{NoneMade, AreOfOne}
use Rattle.tao_turn.specs.Views.{ticket_in, is_holder, list_found, is_live, is_settled}
use Rattle.tao_turn.specs.declared.view.Knowledge.{Knowledge}
use Rattle.tao_turn.specs.declared.view.Stage.{Stage}
use Rattle.tao_turn.specs.declared.view.View.{View}

-- where the value is: at home, or out with the seat j, which found this list
pub data Place (T E : Type 0) : Type 0 where
  home : T → Place T E
  out : ℕ → List E → Place T E

module _ {T E : Type 0} (entries : T → List E) where
  -- the lock's list: that of the value at home, or the one that the holder found
  abbrev pub list_of : Place T E → List E
  list_of (home x) = entries x
  list_of (out j found) = found

  abbrev pub IsInPlace : List (maybe.Option (Option T)) → List (View E) → Place T E → Type 0
  IsInPlace homes views (home x) = homes ≡ some (Some x) ∷ []
  IsInPlace homes views (out j found) = (homes ≡ none ∷ []) × ((v : View E) × (get_elem? views j ≡ some v) × (is_holder v.stage ≡ true))

  abbrev pub IsOut : Place T E → ℕ → List E → Type 0
  IsOut (home x) j found = true ≡ false
  IsOut (out k other) j found = (k ≡ j) × (other ≡ found)

  -- a seat's ticket is not yet served and is no other seat's; only the seat that is served holds the value
  pub record IsQueued (serving next : ℕ) (place : Place T E) (drawer : ℕ → ℕ) (j : ℕ) (stage : Stage E) : Type 0 where
    pub ticket : (t : ℕ) → ticket_in stage ≡ Some t → (serving ≤ t) × (t < next) × (drawer t ≡ j)
    pub held : is_holder stage ≡ true → (ticket_in stage ≡ Some serving) × IsOut place j (list_found stage)

-- a seat that isn't joined away has a share, and its shares are no other seat's
pub record OwnsShares (seats : ℕ) (owner : ℕ → ℕ) (j : ℕ) (live : Bool) (numbers : List ℕ) : Type 0 where
  pub owns : live ≡ true → (n : ℕ) → has n numbers ≡ true → (n < seats) × (owner n ≡ j)
  pub some_share : live ≡ true → is_empty numbers ≡ false

module _ {E : Type 0} where
  -- a seat that isn't joined away has seen a prefix of the list, and nobody else made an entry under its shares
  pub record HasSeen (maker : List E → ℕ → Option ℕ) (list : List E) (live : Bool) (k : Knowledge E) : Type 0 where
    pub seen : live ≡ true → Begins k.seen list
    pub others : live ≡ true → NoneMade maker list (length k.seen) k.shares

  -- What a seat published and glanced is at most the mark. The mark of what it has seen is published, except between the return of the
  -- value and its publishing.
  pub record IsMarked (mark_of : List E → ℕ) (mark : ℕ) (settled : Bool) (published : ℕ) (k : Knowledge E) : Type 0 where
    pub glanced : k.told ≤ mark
    pub within : published ≤ mark
    pub enough : settled ≡ true → mark_of k.seen ≤ published

  -- what was joined comes from one history
  abbrev pub Compares : (List E → ℕ → Option ℕ) → Option (Knowledge E × Knowledge E) → Type 0
  Compares maker joined = (a b : Knowledge E) → joined ≡ Some (a, b) → AreOfOne maker a b

  -- each ticket that is drawn and not yet served is some seat's
  abbrev pub AreDrawn : ℕ → ℕ → (ℕ → ℕ) → List (View E) → Type 0
  AreDrawn serving next drawer views = (t : ℕ) → serving ≤ t → t < next → (v : View E) × (get_elem? views (drawer t) ≡ some v) × (ticket_in v.stage ≡ Some t)

  -- some seat has seen the whole list
  abbrev pub IsKnown : List E → List (View E) → Type 0
  IsKnown list views = (j : ℕ) × ((v : View E) × (get_elem? views j ≡ some v) × (is_live v.stage ≡ true) × (v.known.seen ≡ list))

  -- each share is some seat's
  abbrev pub AreOwned : ℕ → (ℕ → ℕ) → List (View E) → Type 0
  AreOwned seats owner views = (n : ℕ) → n < seats → (v : View E) × (get_elem? views (owner n) ≡ some v) × (is_live v.stage ≡ true) × (has n v.known.shares ≡ true)

module _ {T E : Type 0} (entries : T → List E) (mark_of : List E → ℕ) (maker : List E → ℕ → Option ℕ) (seats : ℕ) where
  -- what holds of the view v, which is number j
  pub record Fits (serving next mark : ℕ) (place : Place T E) (drawer owner : ℕ → ℕ) (j : ℕ) (v : View E) : Type 0 where
    pub queued : IsQueued entries serving next place drawer j v.stage
    pub ended : v.known.ended ≤ serving
    pub history : HasSeen maker (list_of entries place) (is_live v.stage) v.known
    pub shares : OwnsShares seats owner j (is_live v.stage) v.known.shares
    pub marks : IsMarked mark_of mark (is_settled v.stage) v.published v.known
    pub compares : Compares maker v.joined

  -- tickets are served in order, each share is one seat's, some seat knows the whole list, and the mark is no more than the list's
  pub record Turn (s : State (Option T) (View E)) : Type 0 where
    pub place : Place T E
    pub drawer : ℕ → ℕ
    pub owner : ℕ → ℕ
    pub next : ℕ
    pub serving : ℕ
    pub mark : ℕ
    pub words_are : s.words ≡ next ∷ serving ∷ mark ∷ []
    pub small : next < 18446744073709551616
    pub in_order : serving ≤ next
    pub in_place : IsInPlace entries s.homes s.views place
    pub mark_within : mark ≤ mark_of (list_of entries place)
    pub each : (j : ℕ) (v : View E) → get_elem? s.views j ≡ some v → Fits serving next mark place drawer owner j v
    pub drawn : AreDrawn serving next drawer s.views
    pub known : IsKnown (list_of entries place) s.views
    pub owned : AreOwned seats owner s.views

-- A session that a script opens.
use Rattle.std.proofs.Common.{◌≡◌, ℕ, ◌+◌, ◌-◌, ◌^◌, ◌<◌, ◌≤◌, ◌==◌, Bool, false, not, ◌||◌, if◌then◌else◌, List, [], ◌∷◌, length, All, ◌⊎◌, Option, Some, None, IfSome, refl, sym, ap, ap₂, ◌∙◌, subst, arith, inl, inr, eq-eqb, reverse}
use Rattle.std.specs.List.{list_any}
use Rattle.std.proofs.lemmas.List.Elements.{All-head, All-tail}
use Rattle.tao_base.specs.Limits.{Shape}
use Rattle.tao_base.specs.Session.{History}
use Rattle.tao_base.specs.declared.session.Event.{Event}
use Rattle.tao_desk.specs.Calls.{IsStarted}
use Rattle.tao_desk.specs.Refusals.{start_refusal}
use Rattle.tao_desk.specs.Sound.{IsSound}
use Rattle.tao_desk.specs.State.{DeskState}
use Rattle.tao_desk.specs.declared.faults.StartFault.{StartFault}
use Rattle.tao_desk.specs.declared.faults.StartFault.TheVariants.{BlockCount, BlockLength, Memory}
use Rattle.tao_model.specs.Events.{arrived, issues}
use Rattle.tao_model.specs.Lawful.{FollowsLawfully, IsOpening}
use Rattle.tao_schedule.specs.Moves.{Move}
use Rattle.tao_tape.specs.Tapes.{either_word, either_left}
use Rattle.tao_text.specs.declared.script.Script.{Script}
use Rattle.tao_text.specs.Spelling.{IsTape}
use Rattle.tao_text.specs.Texts.{arrivals_in}
use Rattle.tao_tree.specs.Nodes.{TreeState, all_applied, empty_tree}
use Rattle.tao_world.specs.Changes.{image_of}
use Rattle.tao_world.specs.Laws.{begun}
use Rattle.tao_world.specs.Opening.{CanStart, ScriptsCanStart, source_by, source_of, first_blocks}
use Rattle.tao_world.specs.Shows.{Shows}
use Rattle.tao_world.specs.World.{WorldState, IsLeftBy, IsInStep, IsOpened, IsWorld}
use Rattle.tao_world.proofs.LoadedTrees.{opens_shows}
use Rattle.tao_world.proofs.ShownSteps.{shows_in_step}

none_is_some : {X : Type 0} (x : X) → None ≡ Some x → ⊥
none_is_some x same = cc

-- ---- the first values and the tape

none_other : (b : ℕ) (blocks : List (List ℕ)) → All (λ value. length value ≡ b) blocks → list_any (λ value. not (length value == b)) blocks ≡ false
none_other b [] all = refl
none_other b (value ∷ blocks) all =
    ap₂ (λ x y. not x || y) (eq-eqb (length value) b (All-head (λ value. length value ≡ b) value blocks all)) (none_other b blocks (All-tail (λ value. length value ≡ b) value blocks all))

-- first values of the right count and lengths are taken
pub values_taken : (s : Shape) (blocks : List (List ℕ)) → length blocks ≡ s.n → All (λ value. length value ≡ s.b) blocks → start_refusal s blocks ≡ None
values_taken s blocks count values =
    ap (λ (same : Bool). if same then (if list_any (λ value. not (length value == s.b)) blocks then Some BlockLength else None) else Some BlockCount) (eq-eqb (length blocks) s.n count)
    ∙ ap (λ (other : Bool). if other then Some BlockLength else None) (none_other s.b blocks values)

enough : (n : ℕ) (tape : Option (List ℕ)) (key : List ℕ) → n < 2 ^ 32 → IfSome tape (λ words. n ≤ length words) → n ≤ either_left (source_by tape key) 0
enough n (Some words) key low left = let all : length words - 0 ≡ length words = omega arith in omega (arith, left)
enough n None key low left = omega arith

-- the tape has a first word for each block
pub enough_words : (script : Script) (source : List ℕ) → source ≡ source_of script → script.params.n < 2 ^ 32 → CanStart script → script.params.n ≤ either_left source 0
enough_words script source same low can = subst (λ source. script.params.n ≤ either_left source 0) (sym same) (enough script.params.n script.tape script.key low can.words)

words_within : (n more : ℕ) (tape : Option (List ℕ)) (P : List ℕ → Type 0) → IfSome tape (λ words. P words × (n + more ≤ length words)) → IfSome tape (λ words. n ≤ length words)
words_within n more (Some words) P has = let left = has.1 in omega arith
words_within n more None P has = tt

-- so only memory can be short
pub not_memory : (s : Shape) (blocks : List (List ℕ)) (fault : StartFault) → length blocks ≡ s.n → All (λ value. length value ≡ s.b) blocks → (fault ≡ Memory → ⊥)
    → (start_refusal s blocks ≡ Some fault) ⊎ ((fault ≡ Memory) × (start_refusal s blocks ≡ None)) → ⊥
not_memory s blocks fault count values other (inl refused) = none_is_some fault (sym (values_taken s blocks count values) ∙ refused)
not_memory s blocks fault count values other (inr memory) = other memory.0

-- ---- the world

module _ (script : Script) (d : DeskState) (tree : TreeState) (started : IsStarted either_word (source_of script) script.params script.key (first_blocks script.params.n script.params.b script.loads) d)
    (sound : IsSound either_word d) (loaded : tree ≡ all_applied (empty_tree d.history.opening.shape) 0 (image_of d.key d.history.opening.shape 0 d.history.opening.loaded)) where
  abbrev pub world : WorldState
  world = record { desk = d; tree = tree; fetches = []; stores = None ∷ [] }

  history_is : d.history ≡ begun d.history.opening
  history_is = ap (λ (events : List Event). record { opening = d.history.opening; events = events }) started.events

  opening : IsOpening d.history.opening
  opening = subst (λ events. FollowsLawfully d.history.opening (reverse events)) started.events sound.about.lawful.follows

  pub left_by_none : IsLeftBy [] world
  unfolding IsLeftBy
  left_by_none =
      subst (λ (h : History). Shows [] d.key h tree [] (None ∷ [])) (sym history_is)
      (opens_shows d.key d.history.opening tree (record { opening = opening; opens = sound.about.lawful.opens; loaded = loaded }))

  pub opened : IsOpened script world
  opened = record {
    desk = started;
    tree = loaded ∙ ap₂ (λ s key. all_applied (empty_tree s) 0 (image_of key s 0 d.history.opening.loaded)) started.shape started.key_is;
    fetches = refl;
    stores = refl;
  }

  pub is_world : IsWorld world (record { read = []; bytes = [] })
  is_world = record {
    moves = [];
    shows = left_by_none;
    fetch_count = sym (ap (λ (events : List Event). arrived (reverse events)) started.events);
    store_count = sym (ap (λ (events : List Event). issues (reverse events) + 1) started.events);
    rooms = λ i reading found. absurd (none_is_some reading found);
    spare_is = inl (refl, refl);
  }

-- whatever moves were made
pub in_step : (ms : List Move) (w : WorldState) → IsLeftBy ms w → IsSound either_word w.desk → IsInStep w
unfolding IsLeftBy IsInStep
in_step ms w left sound = shows_in_step ms w.desk.key w.desk.history w.tree w.fetches w.stores left sound.about.writes

-- a script that was read can start
pub scripts_can_start : ScriptsCanStart
scripts_can_start script is = record { loads = is.loads; words = words_within script.params.n (arrivals_in script.steps) script.tape (λ words. IsTape words) is.tape }

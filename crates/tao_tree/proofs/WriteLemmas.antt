-- What one more write makes of a node.
use Rattle.std.proofs.Common.{◌≡◌, ◌≢◌, ℕ, ◌-◌, ◌<◌, ◌≤◌, Bool, true, false, nat_eq, List, [], ◌∷◌, ◌++◌, length, fold, slice_set, Option, Some, None, MatchOption, if◌then◌else◌, refl, sym, ap, ◌∙◌, subst, arith, append_assoc, append-nil}
use Rattle.std.specs.List.{All}
use Rattle.std.proofs.lemmas.Bool.{ltb-true, ltb-false, eqb-true, eqb-false}
use Rattle.std.proofs.lemmas.Grind.{get_or-set_at}
use Rattle.std.proofs.lemmas.List.{get_or-set_other, length-set, length-replicate}
use Rattle.std.proofs.lemmas.List.Elements.{All-nil, All-cons, All-head, All-tail, All-push, All-append, All-weaker, All-same}
use Rattle.std.specs.Option.{option_map}
use Rattle.tao_base.specs.Limits.{Shape}
use Rattle.tao_base.specs.Tree.{node_count}
use Rattle.tao_tree.proofs.PathLemmas.{none_at}
use Rattle.tao_tree.specs.Nodes.{Held, TreeState, holding, held_version, empty_tree, held_at, version_at, is_newer}
use Rattle.tao_tree.specs.Writes.{Write, written, IsInTree, IsNewest, NewestStays}

-- what a node holds is the newest of these writes
abbrev Says : List Write → ℕ → Option Held → Type 0
Says writes node held = MatchOption held (All (λ w. w.node ≢ node) writes) (IsNewest writes node)

abbrev kept_in : TreeState → Write → TreeState
kept_in tree w = record tree { held = slice_set tree.held (w.node - 1) (Some (holding w.version w.bytes)) }

held_kept : (tree : TreeState) (w : Write) (node : ℕ) → is_newer w.version (version_at tree w.node) ≡ false → held_at (written tree w) node ≡ held_at tree node
held_kept tree w node old = ap (λ (newer : Bool). held_at (if newer then kept_in tree w else tree) node) old

held_new : (tree : TreeState) (w : Write) (node : ℕ) → w.node ≡ node → 1 ≤ node → node ≤ length tree.held → is_newer w.version (version_at tree w.node) ≡ true
    → held_at (written tree w) node ≡ Some (holding w.version w.bytes)
held_new tree w node same low high new =
    ap (λ (newer : Bool). held_at (if newer then kept_in tree w else tree) node) new ∙ get_or-set_at tree.held (w.node - 1) (node - 1) (Some (holding w.version w.bytes)) None (omega arith) (omega arith)

held_other : (tree : TreeState) (w : Write) (node : ℕ) → w.node ≢ node → 1 ≤ node → 1 ≤ w.node → held_at (written tree w) node ≡ held_at tree node
held_other tree w node other low there =
    let apart : node - 1 ≢ w.node - 1 = λ e. other (omega arith) in
    elim (is_newer w.version (version_at tree w.node)) as (λ (newer : Bool). held_at (if newer then kept_in tree w else tree) node ≡ held_at tree node)
    [ true ↦ get_or-set_other tree.held (w.node - 1) (node - 1) (Some (holding w.version w.bytes)) None apart | false ↦ refl ]

written_length : (tree : TreeState) (w : Write) → length (written tree w).held ≡ length tree.held
written_length tree w =
    elim (is_newer w.version (version_at tree w.node)) as (λ (newer : Bool). length (if newer then kept_in tree w else tree).held ≡ length tree.held)
    [ true ↦ length-set tree.held (w.node - 1) (Some (holding w.version w.bytes)) | false ↦ refl ]

-- a write that doesn't change the node, elsewhere or not newer
says_later : (done : List Write) (w : Write) (node : ℕ) (held : Held) → (w.node ≡ node → w.version ≤ held.version) → IsNewest done node held → IsNewest (done ++ w ∷ []) node held
says_later done w node held no_newer says = record {
  front = says.front;
  back = says.back ++ w ∷ [];
  there = ap (λ ws. ws ++ w ∷ []) says.there ∙ append_assoc says.front (record { version = held.version; node = node; bytes = held.bytes } ∷ says.back) (w ∷ []);
  older = says.older;
  newer = All-push (λ u. u.node ≡ node → u.version ≤ held.version) says.back w says.newer no_newer;
}

says_other : (done : List Write) (w : Write) (node : ℕ) (held : Option Held) → w.node ≢ node → Says done node held → Says (done ++ w ∷ []) node held
says_other done w node None other says = All-push (λ u. u.node ≢ node) done w says other
says_other done w node (Some held) other says = says_later done w node held (λ e. absurd (other e)) says

-- a write that is newer than all at the node
says_new : (done : List Write) (w : Write) (node : ℕ) → w.node ≡ node → All (λ u. u.node ≡ node → u.version < w.version) done → IsNewest (done ++ w ∷ []) node (holding w.version w.bytes)
says_new done w node same older = record {
  front = done;
  back = [];
  there = ap (λ n. done ++ record { version = w.version; node = n; bytes = w.bytes } ∷ []) same;
  older = older;
  newer = All-nil (λ u. u.node ≡ node → u.version ≤ w.version);
}

-- all writes at the node are at most as new as the newest
below_newest : (done : List Write) (node version : ℕ) (held : Held) → held.version < version → IsNewest done node held → All (λ u. u.node ≡ node → u.version < version) done
below_newest done node version held newer says =
    let P : Write → Type 0 = λ u. u.node ≡ node → u.version < version in
    let front : All P says.front = All-weaker (λ u. u.node ≡ node → u.version < held.version) P (λ u h e. let k = h e in omega arith) says.front says.older in
    let back : All P says.back = All-weaker (λ u. u.node ≡ node → u.version ≤ held.version) P (λ u h e. let k = h e in omega arith) says.back says.newer in
    All-same P done (says.front ++ record { version = held.version; node = node; bytes = held.bytes } ∷ says.back) says.there
    (All-append P says.front (record { version = held.version; node = node; bytes = held.bytes } ∷ says.back) front (All-cons P (record { version = held.version; node = node; bytes = held.bytes }) says.back (λ e. newer) back))

says_same : (done : List Write) (tree : TreeState) (w : Write) (node : ℕ) (held : Option Held) (newer : Bool) → held_at tree node ≡ held → is_newer w.version (option_map held_version held) ≡ newer
    → w.node ≡ node → 1 ≤ node → node ≤ length tree.held → Says done node held → Says (done ++ w ∷ []) node (held_at (written tree w) node)
says_same done tree w node None newer here test same low high says =
    let new : is_newer w.version (version_at tree w.node) ≡ true = ap (λ n. is_newer w.version (version_at tree n)) same ∙ ap (λ h. is_newer w.version (option_map held_version h)) here in
    let older : All (λ u. u.node ≡ node → u.version < w.version) done = All-weaker (λ u. u.node ≢ node) (λ u. u.node ≡ node → u.version < w.version) (λ u h e. absurd (h e)) done says in
    subst (Says (done ++ w ∷ []) node) (sym (held_new tree w node same low high new)) (says_new done w node same older)
says_same done tree w node (Some held) true here test same low high says =
    let new : is_newer w.version (version_at tree w.node) ≡ true = ap (λ n. is_newer w.version (version_at tree n)) same ∙ ap (λ h. is_newer w.version (option_map held_version h)) here ∙ test in
    subst (Says (done ++ w ∷ []) node) (sym (held_new tree w node same low high new)) (says_new done w node same (below_newest done node w.version held (ltb-true held.version w.version test) says))
says_same done tree w node (Some held) false here test same low high says =
    let old : is_newer w.version (version_at tree w.node) ≡ false = ap (λ n. is_newer w.version (version_at tree n)) same ∙ ap (λ h. is_newer w.version (option_map held_version h)) here ∙ test in
    subst (Says (done ++ w ∷ []) node) (sym (held_kept tree w node old ∙ here)) (says_later done w node held (λ e. ltb-false held.version w.version test) says)

says_more : (done : List Write) (tree : TreeState) (w : Write) (node : ℕ) (here : Bool) → nat_eq w.node node ≡ here → 1 ≤ w.node → 1 ≤ node → node ≤ length tree.held
    → Says done node (held_at tree node) → Says (done ++ w ∷ []) node (held_at (written tree w) node)
says_more done tree w node true same there low high says = says_same done tree w node (held_at tree node) _ refl refl (eqb-true w.node node same) low high says
says_more done tree w node false other there low high says =
    let apart : w.node ≢ node = eqb-false w.node node other in
    subst (Says (done ++ w ∷ []) node) (sym (held_other tree w node apart low there)) (says_other done w node (held_at tree node) apart says)

newest_after : (s : Shape) (done rest : List Write) (tree : TreeState) (node : ℕ) → length tree.held ≡ node_count s.l → All (IsInTree s) rest → 1 ≤ node → node ≤ node_count s.l
    → Says done node (held_at tree node) → Says (done ++ rest) node (held_at (fold written tree rest) node)
newest_after s done [] tree node len within low high says = subst (λ ws. Says ws node (held_at tree node)) (sym (append-nil done)) says
newest_after s done (w ∷ rest) tree node len within low high says =
    let there : IsInTree s w = All-head (IsInTree s) w rest within in
    subst (λ ws. Says ws node (held_at (fold written (written tree w) rest) node)) (append_assoc done (w ∷ []) rest)
    (newest_after s (done ++ w ∷ []) rest (written tree w) node (written_length tree w ∙ len) (All-tail (IsInTree s) w rest within) low high
    (says_more done tree w node (nat_eq w.node node) refl there.0 low (omega arith) says))

pub newest : NewestStays
newest s writes node within low high =
    let none : held_at (empty_tree s) node ≡ None = none_at (node_count s.l) (node - 1) in
    newest_after s [] writes (empty_tree s) node (length-replicate (node_count s.l) None) within low high
    (subst (Says [] node) (sym none) (All-nil (λ w. w.node ≢ node)))

-- Contents that agree at every node still do after a fetch. Node 0 is the stash.
use Rattle.std.proofs.Common.{◌≡◌, ℕ, ◌<◌, ◌≤◌, Bool, true, false, not, ◌&&◌, cond, List, [], ◌∷◌, Option, Some, None, is_some, refl, sym, ap, ◌∙◌, arith, inl, inr, ◌⊎◌, nat_eq}
use Rattle.std.proofs.Math.Path.{fun_ext}
use Rattle.std.specs.Option.{option_or}
use Rattle.std.proofs.lemmas.Bool.{cases_lt, cases_eq, eq-eqb, ne_eqb, true≢false}
use Rattle.tao_base.specs.declared.storage.Entry.{Entry}
use Rattle.tao_base.specs.Tree.{node_count, path, is_on_path}
use Rattle.tao_base.specs.Buckets.{Rises}
use Rattle.tao_model.specs.Placement.{look, first_copy, may_evict, IsEvicted}
use Rattle.tao_model.specs.Passes.{gather}
use Rattle.tao_model.specs.Evictions.{evicted}
use Rattle.tao_model.proofs.FallingPaths.{has}
use Rattle.tao_model.proofs.RisingEntries.{Below, look_past, same_entries}
use Rattle.tao_model.proofs.FirstCopies.{gathers_more}
use Rattle.tao_model.proofs.OnePlacement.{placed_alike}
use Rattle.tao_model.proofs.OneEviction.{one_eviction, eviction_is_placed}
use Rattle.tao_held.specs.Steps.{take_in, put, entry_of}
use Rattle.tao_held.specs.HeldLaws.{EvictedAlike, AreIdsBelow, FetchedAlike, PutIs, PutIsGathered}

may_same : (g : Option (List ℕ)) (p x y : Bool) → (is_some g ≡ true → x ≡ y) → (is_some g && (p && x)) ≡ (is_some g && (p && y))
may_same g p x y h = either (is_some g) refl
  where
    either : (t : Bool) → is_some g ≡ t → (t && (p && x)) ≡ (t && (p && y))
    either true is = ap (λ c. p && c) (h is)
    either false is = refl

pub evicted_alike : EvictedAlike
evicted_alike s path leaf leaf' old leaves w = one_eviction s path leaf' old (evicted s path leaf old) is w
  where
    before : IsEvicted s path leaf old (evicted s path leaf old)
    before = eviction_is_placed s path leaf old

    is : IsEvicted s path leaf' old (evicted s path leaf old)
    is = record {
      placed = placed_alike (may_evict s.l path leaf old) (may_evict s.l path leaf' old) (node_count s.l) s.z (first_copy (0 ∷ path) old) (first_copy (0 ∷ path) old)
          (λ v. cond (has v (0 ∷ path)) (evicted s path leaf old v) []) (λ v. cond (has v (0 ∷ path)) (evicted s path leaf old v) [])
          (λ b v. may_same (first_copy (0 ∷ path) old b) (has v path) (is_on_path s.l (leaf b) v) (is_on_path s.l (leaf' b) v)
          (λ some. ap (λ at. is_on_path s.l at v) (leaves b some)))
          (λ b. refl) (λ v. refl) before.placed;
      others = before.others;
    }

-- ---- a whole fetch

-- a block with an id of n or more has no copy
none_past : (n b : ℕ) (contents : ℕ → List Entry) (nodes : List ℕ) → AreIdsBelow n contents → n ≤ b → first_copy nodes contents b ≡ None
none_past n b contents [] below past = refl
none_past n b contents (w ∷ ws) below past = ap (λ x. option_or x (first_copy ws contents b)) (look_past n b (contents w) (below w) past) ∙ none_past n b contents ws below past

gathered_below : (n b : ℕ) (contents : ℕ → List Entry) (nodes : List ℕ) → AreIdsBelow n contents → is_some (first_copy nodes contents b) ≡ true → b < n
gathered_below n b contents nodes below some = either (cases_lt b n)
  where
    either : (b < n) ⊎ (n ≤ b) → b < n
    either (inl low) = low
    either (inr past) = absurd (true≢false (sym some ∙ ap is_some (none_past n b contents nodes below past)))

pub take_in_same : (l at : ℕ) (resident resident' : ℕ → Bool) (taken own own' : ℕ → List Entry) → ((w : ℕ) → resident w ≡ resident' w) → ((w : ℕ) → own w ≡ own' w)
    → (w : ℕ) → take_in l at resident taken own w ≡ take_in l at resident' taken own' w
take_in_same l at resident resident' taken own own' residents same w =
    ap (λ r. cond (is_on_path l at w && not r) (taken w) (own w)) (residents w) ∙ ap (cond (is_on_path l at w && not (resident' w)) (taken w)) (same w)

either_below : (n : ℕ) (t : Bool) (xs ys : List Entry) → Below n xs → Below n ys → Below n (cond t xs ys)
either_below n true xs ys a b = a
either_below n false xs ys a b = b

take_in_below : (n l at : ℕ) (resident : ℕ → Bool) (taken own : ℕ → List Entry) → AreIdsBelow n taken → AreIdsBelow n own → AreIdsBelow n (take_in l at resident taken own)
take_in_below n l at resident taken own a b w = either_below n (is_on_path l at w && not (resident w)) (taken w) (own w) (a w) (b w)

-- after a put, every gathered block still has an id below n
put_none : (n b block : ℕ) (value : List ℕ) (own : ℕ → List Entry) (nodes : List ℕ) → AreIdsBelow n own → block < n → is_some (first_copy nodes (put own block value) b) ≡ true → b < n
put_none n b block value own nodes below low some = either (cases_lt b n)
  where
    one_node : (w : ℕ) → n ≤ b → look b (put own block value w) ≡ None
    one_node w past = which (nat_eq w 0)
      where
        which : (t : Bool) → look b (cond t (gather (entry_of block value ∷ []) (own 0)) (own w)) ≡ None
        which true = (gathers_more (entry_of block value ∷ []) (own 0) (omega arith, tt)).1 b
            ∙ ap (λ t. option_or (cond t (Some value) None) (look b (own 0))) (ne_eqb block b (λ same. omega arith)) ∙ look_past n b (own 0) (below 0) past
        which false = look_past n b (own w) (below w) past

    none : (nodes : List ℕ) → n ≤ b → first_copy nodes (put own block value) b ≡ None
    none [] past = refl
    none (w ∷ ws) past = ap (λ x. option_or x (first_copy ws (put own block value) b)) (one_node w past) ∙ none ws past

    either : (b < n) ⊎ (n ≤ b) → b < n
    either (inl is_low) = is_low
    either (inr past) = absurd (true≢false (sym some ∙ ap is_some (none nodes past)))

pub fetched_alike : FetchedAlike
fetched_alike true s at leaf leaf' resident resident' taken own own' block value leaves residents same below_taken below_own low w =
    evicted_alike s (path s.l at) leaf leaf' (put (take_in s.l at resident taken own) block value)
    (λ b some. leaves b (put_none s.n b block value (take_in s.l at resident taken own) (0 ∷ path s.l at) (take_in_below s.n s.l at resident taken own below_taken below_own) (low refl) some)) w
    ∙ ap (λ contents. evicted s (path s.l at) leaf' (put contents block value) w) (fun_ext (take_in_same s.l at resident resident' taken own own' residents same))
fetched_alike false s at leaf leaf' resident resident' taken own own' block value leaves residents same below_taken below_own low w =
    evicted_alike s (path s.l at) leaf leaf' (take_in s.l at resident taken own)
    (λ b some. leaves b (gathered_below s.n b (take_in s.l at resident taken own) (0 ∷ path s.l at) (take_in_below s.n s.l at resident taken own below_taken below_own) some)) w
    ∙ ap (λ contents. evicted s (path s.l at) leaf' contents w) (fun_ext (take_in_same s.l at resident resident' taken own own' residents same))

-- ---- one block put

first_counts : (t : Bool) (x : List ℕ) (o : Option (List ℕ)) → option_or (cond t (Some x) None) o ≡ cond t (Some x) o
first_counts true x o = refl
first_counts false x o = refl

put_gathers : (contents : ℕ → List Entry) (b : ℕ) (value : List ℕ)
    → Rises 0 (put contents b value 0) × ((c : ℕ) → look c (put contents b value 0) ≡ option_or (look c (entry_of b value ∷ [])) (look c (contents 0)))
put_gathers contents b value = gathers_more (entry_of b value ∷ []) (contents 0) (omega arith, tt)

pub put_look : (contents : ℕ → List Entry) (b : ℕ) (value : List ℕ) (c : ℕ) → look c (put contents b value 0) ≡ cond (nat_eq b c) (Some value) (look c (contents 0))
put_look contents b value c = (put_gathers contents b value).1 c ∙ first_counts (nat_eq b c) value (look c (contents 0))

pub put_off : (contents : ℕ → List Entry) (b : ℕ) (value : List ℕ) (w : ℕ) → 0 < w → put contents b value w ≡ contents w
put_off contents b value w low = rw (ne_eqb w 0 (λ same. omega arith)) refl

pub put_is : PutIs
put_is contents b value = ((put_gathers contents b value).0, λ c. put_look contents b value c, λ w low. put_off contents b value w low)

pub put_is_gathered : PutIsGathered
put_is_gathered b value old new rises there others =
    same_entries 0 new (gather (entry_of b value ∷ []) old) rises (put_gathers (λ w. old) b value).0 (λ c. either c (cases_eq b c))
  where
    either : (c : ℕ) → (b ≡ c) ⊎ (b ≡ c → ⊥) → look c new ≡ look c (gather (entry_of b value ∷ []) old)
    either c (inl same) = ap (λ a. look a new) (sym same) ∙ there ∙ sym (put_look (λ w. old) b value c ∙ ap (λ t. cond t (Some value) (look c old)) (eq-eqb b c same))
    either c (inr other) = others c (λ same. other (sym same)) ∙ sym (put_look (λ w. old) b value c ∙ ap (λ t. cond t (Some value) (look c old)) (ne_eqb b c other))

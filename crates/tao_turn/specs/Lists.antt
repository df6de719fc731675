-- Lists of numbers, and prefixes of lists.
use Rattle.std.specs.Prelude.{◌≡◌, ℕ, List, [], ◌∷◌, ◌++◌, length, Bool, true, false, ◌==◌, ◌||◌, if◌then◌else◌, nat_lt, ◌≤◌, ⊤}

-- the first list is a prefix of the second
abbrev pub Begins : {E : Type 0} → List E → List E → Type 0
Begins {E} xs ys = (rest : List E) × (xs ++ rest ≡ ys)

-- the longer of two lists, one of which is a prefix of the other
abbrev pub longer : {E : Type 0} → List E → List E → List E
longer xs ys = if nat_lt (length xs) (length ys) then ys else xs

-- the list has no items
abbrev pub is_empty : {A : Type 0} → List A → Bool
is_empty [] = true
is_empty (x ∷ xs) = false

-- the list has the number
abbrev pub has : ℕ → List ℕ → Bool
has n [] = false
has n (m ∷ ms) = (n == m) || has n ms

-- the list without this number
abbrev pub removed : ℕ → List ℕ → List ℕ
removed n [] = []
removed n (m ∷ ms) = if n == m then removed n ms else m ∷ removed n ms

-- the numbers of the second list that the first doesn't have
abbrev pub missing : List ℕ → List ℕ → List ℕ
missing [] ns = ns
missing (m ∷ ms) ns = removed m (missing ms ns)

-- the number inserted before the first that is greater
abbrev pub put_in : ℕ → List ℕ → List ℕ
put_in n [] = n ∷ []
put_in n (m ∷ ms) = if nat_lt m n then m ∷ put_in n ms else n ∷ m ∷ ms

-- the numbers of both lists, rising if the second rises
abbrev pub merged : List ℕ → List ℕ → List ℕ
merged [] ns = ns
merged (m ∷ ms) ns = put_in m (merged ms ns)

-- no number is less than one before it, or than lo
abbrev pub RisesFrom : ℕ → List ℕ → Type 0
RisesFrom lo [] = ⊤
RisesFrom lo (n ∷ ns) = (lo ≤ n) × RisesFrom n ns

-- what is merged into rising numbers rises, and has the numbers of both
abbrev pub MergingRises : Type 0
MergingRises = (ms ns : List ℕ) → RisesFrom 0 ns → RisesFrom 0 (merged ms ns) × ((k : ℕ) → has k (merged ms ns) ≡ (has k ms || has k ns))

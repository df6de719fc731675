-- Rising entries, told entry by entry and by all of their ids at once.
use Rattle.std.proofs.Common.{◌≡◌, ℕ, zero, suc, ◌+◌, ◌<◌, ◌≤◌, List, [], ◌∷◌, length, map, get_or, sym, subst, arith}
use Rattle.std.specs.List.Sorted.{IsStrictlyIncreasing}
use Rattle.tao_base.specs.Buckets.{Rises}
use Rattle.tao_base.specs.declared.storage.Entry.{Entry}
use Rattle.tao_bucket.specs.Encoding.{id_of}

abbrev ids : List Entry → List ℕ
ids es = map id_of es

-- the first id is at least k, where there is one
first_low : (k : ℕ) (es : List Entry) → Rises k es → 0 < length (ids es) → k ≤ get_or (ids es) 0 0
first_low k [] rises some = absurd (omega arith)
first_low k (e ∷ es) rises some = rises.0

pub strictly : (k : ℕ) (es : List Entry) → Rises k es → IsStrictlyIncreasing (map id_of es)
strictly k [] rises i within = absurd (omega arith)
strictly k (e ∷ es) rises zero within = let low = first_low (e.id + 1) es rises.1 (omega arith) in omega arith
strictly k (e ∷ es) rises (suc i) within =
    let place : suc i + 1 ≡ suc (i + 1) = omega arith in
    subst (λ n. get_or (ids es) i 0 < get_or (ids (e ∷ es)) n 0) (sym place) (strictly (e.id + 1) es rises.1 i (omega arith))

pub rises_from : (k : ℕ) (es : List Entry) → IsStrictlyIncreasing (map id_of es) → (0 < length (map id_of es) → k ≤ get_or (map id_of es) 0 0) → Rises k es
rises_from k [] up low = tt
rises_from k (e ∷ es) up low =
    let later : (i : ℕ) → i + 1 < length (ids es) → get_or (ids es) i 0 < get_or (ids es) (i + 1) 0 =
    λ i within. let place : suc i + 1 ≡ suc (i + 1) = omega arith in subst (λ n. get_or (ids es) i 0 < get_or (ids (e ∷ es)) n 0) place (up (suc i) (omega arith))
    in
    (low (omega arith), rises_from (e.id + 1) es later (λ some. let next : e.id < get_or (ids es) 0 0 = up 0 (omega arith) in omega arith))

pub rises_all : (es : List Entry) → IsStrictlyIncreasing (map id_of es) → Rises 0 es
rises_all es up = rises_from 0 es up (λ some. omega arith)

-- Which bodies are those of a message of a kind, and which are not.
use Rattle.std.proofs.Common.{◌≡◌, inl, inr, ℕ, ◌+◌, ◌^◌, ◌<◌, ◌≤◌, List, ◌∷◌, ◌++◌, length, take, drop, slice_index, get_or, refl, sym, ap, subst, ◌∙◌, arith}
use Rattle.std.specs.Int.{w32, w64, to_be_bytes, from_be_bytes}
use Rattle.std.proofs.lemmas.Bool.{cases_lt}
use Rattle.std.proofs.lemmas.List.{length-take-le, take-append-drop, get_or-take, get_or_past, length-take}
use Rattle.std.proofs.lemmas.Nat.{be_bytes_4, be_bytes_8}
use Rattle.tao_wire.specs.declared.message.Message.{Message}
use Rattle.tao_wire.specs.declared.message.Message.TheVariants.{Fetch, Path, Store, Stored, Get, Put, Value, Refused}
use Rattle.tao_wire.specs.Frames.{content, IsNoContent}
use Rattle.tao_wire.specs.Reading.{IsSomeContent}

abbrev pub AreBytes : List ℕ → Type 0
AreBytes bytes = (i : ℕ) → get_or bytes i 0 < 256

pub small_take : (n : ℕ) (bytes : List ℕ) → AreBytes bytes → AreBytes (take n bytes)
small_take n bytes small i =
    elim (cases_lt i n) [
      | inl h ↦ rw (get_or-take n bytes i 0 h) (small i)
      | inr h ↦ rw (get_or_past (take n bytes) i 0 (omega (arith, length-take n bytes))) (omega arith)
    ]

pub joined_4 : (bytes : List ℕ) (n : ℕ) → 4 ≤ length bytes → AreBytes bytes → n ≡ from_be_bytes w32 (take 4 bytes) → bytes ≡ to_be_bytes w32 n ++ drop 4 bytes
joined_4 bytes n long small is =
    sym (ap (λ front. front ++ drop 4 bytes) (be_bytes_4 (take 4 bytes) n (length-take-le 4 bytes long) (small_take 4 bytes small) is) ∙ take-append-drop 4 bytes)

pub joined_8 : (bytes : List ℕ) (n : ℕ) → 8 ≤ length bytes → AreBytes bytes → n ≡ from_be_bytes w64 (take 8 bytes) → bytes ≡ to_be_bytes w64 n ++ drop 8 bytes
joined_8 bytes n long small is =
    sym (ap (λ front. front ++ drop 8 bytes) (be_bytes_8 (take 8 bytes) n (length-take-le 8 bytes long) (small_take 8 bytes small) is) ∙ take-append-drop 8 bytes)

-- what a message's kind byte says of the length of its content
record KindLength (kind len : ℕ) : Type 0 where
  fetch : kind ≡ 1 → len ≡ 13
  path : kind ≡ 2 → 9 ≤ len
  store : kind ≡ 3 → 5 ≤ len
  stored : kind ≡ 4 → len ≡ 5
  get : kind ≡ 5 → len ≡ 5
  put : kind ≡ 6 → 5 ≤ len
  refused : kind ≡ 8 → len ≡ 2

kind_length : (m : Message) → KindLength (slice_index (content m) 0) (length (content m))
kind_length (Fetch id leaf) = grind arith
kind_length (Path id image) = grind arith
kind_length (Store version image) = grind arith
kind_length (Stored version) = grind arith
kind_length (Get block) = grind arith
kind_length (Put block value) = grind arith
kind_length (Value value) = grind arith
kind_length (Refused code) = grind arith

length_by_kind : (kind : ℕ) (body : List ℕ) (m : Message) → content m ≡ kind ∷ body → KindLength kind (length body + 1)
length_by_kind kind body m e =
    let k : KindLength kind (length (kind ∷ body)) = subst (λ (all : List ℕ). KindLength (slice_index all 0) (length all)) e (kind_length m) in
    subst (KindLength kind) (omega arith) k

pub no_fetch : (body : List ℕ) → (length body ≡ 12 → ⊥) → IsNoContent (1 ∷ body)
no_fetch body other m e = other (let k = (length_by_kind 1 body m e).fetch refl in omega arith)

pub no_path : (body : List ℕ) → length body < 8 → IsNoContent (2 ∷ body)
no_path body short m e = let k = (length_by_kind 2 body m e).path refl in omega arith

pub no_store : (body : List ℕ) → length body < 4 → IsNoContent (3 ∷ body)
no_store body short m e = let k = (length_by_kind 3 body m e).store refl in omega arith

pub no_stored : (body : List ℕ) → (length body ≡ 4 → ⊥) → IsNoContent (4 ∷ body)
no_stored body other m e = other (let k = (length_by_kind 4 body m e).stored refl in omega arith)

pub no_get : (body : List ℕ) → (length body ≡ 4 → ⊥) → IsNoContent (5 ∷ body)
no_get body other m e = other (let k = (length_by_kind 5 body m e).get refl in omega arith)

pub no_put : (body : List ℕ) → length body < 4 → IsNoContent (6 ∷ body)
no_put body short m e = let k = (length_by_kind 6 body m e).put refl in omega arith

pub no_refused : (body : List ℕ) → (length body ≡ 1 → ⊥) → IsNoContent (8 ∷ body)
no_refused body other m e = other (let k = (length_by_kind 8 body m e).refused refl in omega arith)

-- a message of each kind with a list, whether memory suffices for it or not
pub some_path : (body rest : List ℕ) (id : ℕ) → body ≡ to_be_bytes w64 id ++ rest → id < 2 ^ 64 → IsSomeContent (2 ∷ body)
some_path body rest id e small = (Path id rest, (ap (λ all. 2 ∷ all) (sym e), small))

pub some_store : (body rest : List ℕ) (version : ℕ) → body ≡ to_be_bytes w32 version ++ rest → version < 2 ^ 32 → IsSomeContent (3 ∷ body)
some_store body rest version e small = (Store version rest, (ap (λ all. 3 ∷ all) (sym e), small))

pub some_put : (body rest : List ℕ) (block : ℕ) → body ≡ to_be_bytes w32 block ++ rest → block < 2 ^ 32 → IsSomeContent (6 ∷ body)
some_put body rest block e small = (Put block rest, (ap (λ all. 6 ∷ all) (sym e), small))

pub some_value : (body : List ℕ) → IsSomeContent (7 ∷ body)
some_value body = (Value body, (refl, tt))

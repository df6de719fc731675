-- What came, against the frame that was wanted.
use Rattle.std.proofs.Common.{◌≡◌, ◌≢◌, ◌⊎◌, inl, inr, MatchBool, ℕ, ◌+◌, ◌-◌, ◌≤◌, Bool, true, false, List, [], ◌∷◌, ◌++◌, length, take, drop, Option, refl, sym, ap, ap₂, ◌∙◌, subst, arith, append-nil}
use Rattle.std.specs.Int.{w32, w64, to_be_bytes}
use Rattle.std.specs.Io.KnownBytes.{Consumes}
use Rattle.std.proofs.lemmas.Bool.{false≢true}
use Rattle.std.proofs.lemmas.List.{take-append-drop}
use Rattle.tao_base.specs.Transfers.{same}
use Rattle.tao_base.proofs.TransferLemmas.{same_true, same_self}
use Rattle.tao_wire.specs.Frames.{frame, content}
use Rattle.tao_wire.specs.declared.message.Message.{Message}
use Rattle.tao_wire.specs.declared.message.Message.TheVariants.{Path, Stored}
use Rattle.tao_tree.specs.Streams.{IsOtherLength, EndsWithin, IsOtherFrame, ConsumesOther, ConsumesWrong, AnswersFetch, AnswersStore}

pub same_false : (xs ys : List ℕ) → same xs ys ≡ false → xs ≢ ys
same_false xs ys h e = false≢true (sym h ∙ subst (λ zs. same xs zs ≡ true) e (same_self xs))

-- behind the field is the content
content_behind : (message : Message) (c : List ℕ) → frame message ≡ to_be_bytes w32 (length c) ++ c → content message ≡ c
content_behind message c e = ap (drop 4) e

-- a frame of another kind or id is no wanted path's
wrong_head : (id len : ℕ) (c : List ℕ) → take 9 c ≢ 2 ∷ to_be_bytes w64 id → (message : Message) → AnswersFetch id len message → frame message ≢ to_be_bytes w32 (length c) ++ c
wrong_head id len c other message wanted e =
    let said : content (Path id wanted.0) ≡ c = subst (λ m. content m ≡ c) wanted.2 (content_behind message c e) in
    other (sym (ap (take 9) said))

wrong_stored : (version : ℕ) (c : List ℕ) → c ≢ 4 ∷ to_be_bytes w32 version → (message : Message) → AnswersStore version message → frame message ≢ to_be_bytes w32 (length c) ++ c
wrong_stored version c other message wanted e = other (sym (subst (λ m. content m ≡ c) wanted (content_behind message c e)))

-- what came is no frame of that length, so no wanted one
pub other_wrong : (old new : Option (List ℕ)) (IsWanted : Message → Type 0) (len : ℕ) → ConsumesOther old new len → ConsumesWrong old new IsWanted len
other_wrong old new IsWanted len o = record {
  came = o.came;
  taken = o.taken;
  wrong = elim o.other as (λ _. IsOtherLength len o.came ⊎ (EndsWithin len o.came new ⊎ IsOtherFrame IsWanted len o.came)) [ inl h ↦ inl h | inr h ↦ inr (inl h) ];
}

-- a content that was wanted is that path's
pub whole_path : (id : ℕ) (c path : List ℕ) → take 9 c ≡ 2 ∷ to_be_bytes w64 id → path ≡ drop 9 c → to_be_bytes w32 (length c) ++ c ≡ frame (Path id path)
whole_path id c path head rest =
    let all : c ≡ content (Path id path) = sym (take-append-drop 9 c) ∙ ap₂ ◌++◌ head (sym rest) in
    ap (λ d. to_be_bytes w32 (length d) ++ d) all

-- whether what came whole is the wanted answer
pub judged_path : (old new : Option (List ℕ)) (id : ℕ) (c : List ℕ) (right : Bool) → 9 ≤ length c → right ≡ same (take 9 c) (2 ∷ to_be_bytes w64 id) → Consumes old new (to_be_bytes w32 (length c) ++ c)
    → MatchBool right (Consumes old new (frame (Path id (drop 9 c)))) (ConsumesWrong old new (AnswersFetch id (length c - 9)) (length c))
judged_path old new id c true long h came = subst (Consumes old new) (whole_path id c (drop 9 c) (same_true (take 9 c) (2 ∷ to_be_bytes w64 id) (sym h)) refl) came
judged_path old new id c false long h came = record {
  came = to_be_bytes w32 (length c) ++ c;
  taken = came;
  wrong = inr (inr (record { content = c; size = refl; whole = refl; other = wrong_head id (length c - 9) c (same_false (take 9 c) (2 ∷ to_be_bytes w64 id) (sym h)) }));
}

pub judged_stored : (old new : Option (List ℕ)) (version : ℕ) (c : List ℕ) (right : Bool) → length c ≡ 5 → right ≡ same c (4 ∷ to_be_bytes w32 version) → Consumes old new (to_be_bytes w32 (length c) ++ c)
    → MatchBool right (Consumes old new (frame (Stored version))) (ConsumesWrong old new (AnswersStore version) 5)
judged_stored old new version c true five h came =
    subst (λ d. Consumes old new (to_be_bytes w32 (length d) ++ d)) (same_true c (4 ∷ to_be_bytes w32 version) (sym h)) came
judged_stored old new version c false five h came = record {
  came = to_be_bytes w32 (length c) ++ c;
  taken = came;
  wrong = inr (inr (record { content = c; size = five; whole = ap (λ n. to_be_bytes w32 n ++ c) five; other = wrong_stored version c (same_false c (4 ∷ to_be_bytes w32 version) (sym h)) }));
}

-- the kind byte and the id of a path
pub path_head_is : (id : ℕ) (head : List ℕ) → ((image : List ℕ) → head ++ image ≡ content (Path id image)) → head ≡ 2 ∷ to_be_bytes w64 id
path_head_is id head says = sym (append-nil head) ∙ says []

-- a wrong answer to a fetch of a path that has so many bytes
pub wrong_path : (old new : Option (List ℕ)) (id content path : ℕ) → content ≡ 9 + path → ConsumesWrong old new (AnswersFetch id (content - 9)) content → ConsumesWrong old new (AnswersFetch id path) (9 + path)
wrong_path old new id content path long wrong =
    let rest : content - 9 ≡ path = omega arith in
    subst (ConsumesWrong old new (AnswersFetch id path)) long (subst (λ n. ConsumesWrong old new (AnswersFetch id n) content) rest wrong)

pub when_true : (b : Bool) (P Q : Type 0) → b ≡ true → MatchBool b P Q → P
when_true true P Q e h = h
when_true false P Q e h = absurd (false≢true e)

pub when_false : (b : Bool) (P Q : Type 0) → b ≡ false → MatchBool b P Q → Q
when_false true P Q e h = absurd (false≢true (sym e))
when_false false P Q e h = h

-- One more of so many: words of a tape, or arrivals of a session.
use Rattle.std.proofs.Common.{◌≡◌, ℕ, zero, suc, ◌+◌, ◌-◌, ◌<◌, ◌≤◌, Bool, true, false, cond, List, length, Option, Some, None, IfSome, MatchOption, Result, Ok, Err, refl, sym, ap, subst, ◌∙◌, arith, add-zero}
use Rattle.std.specs.Prelude.{IsTrue}
use Rattle.std.specs.Option.{option_map}
use Rattle.std.proofs.lemmas.Bool.{false≢true}
use Rattle.std.proofs.lemmas.Option.{same_Some}
use Rattle.tao_base.specs.Limits.{Shape}
use Rattle.tao_text.specs.declared.draft.Draft.{Draft}
use Rattle.tao_text.specs.declared.faults.TextKind.{TextKind}
use Rattle.tao_text.specs.declared.said.Said.{Said}
use Rattle.tao_text.specs.declared.script.What.{What}
use Rattle.tao_text.specs.declared.text.TextOf.{TextOf}
use Rattle.tao_text.specs.Breaks.{is_arrival}
use Rattle.tao_text.specs.Forms.{◌>>=◌}
use Rattle.tao_text.specs.Parts.{Item}
use Rattle.tao_text.specs.Scripts.{left_behind, one_less}
use Rattle.tao_text.specs.Spelling.{IsTape}
use Rattle.tao_text.proofs.TextAdds.{no_value}
use Rattle.tao_text.proofs.TextDrafts.{Verdict, left_of}

-- one more is used if there is an arrival, and this is left; or there is one and nothing was left
abbrev UsedBy : TextKind → Bool → Option ℕ → ℕ → Result (Option ℕ) TextKind → Type 0
UsedBy kind arrives size used (Ok left) = (left ≡ left_of size (used + cond arrives 1 0)) × IfSome size (λ m. used + cond arrives 1 0 ≤ m) × ¬ (IsTrue arrives × MatchOption size ⊥ (λ m. m ≤ used))
UsedBy kind arrives size used (Err other) = (other ≡ kind) × (IsTrue arrives × MatchOption size ⊥ (λ m. m ≤ used))

abbrev pub Used : TextKind → What → Option ℕ → ℕ → Result (Option ℕ) TextKind → Type 0
Used kind what size used r = UsedBy kind (is_arrival what) size used r

used_by : (kind : TextKind) (arrives : Bool) (size : Option ℕ) (used : ℕ) (left : Option ℕ) → left ≡ left_of size used → IfSome size (λ m. used ≤ m) → UsedBy kind arrives size used (cond arrives (one_less kind left) (Ok left))
used_by kind false size used left is few =
    (is ∙ ap (left_of size) (sym (add-zero used)), subst (λ (n : ℕ). IfSome size (λ m. n ≤ m)) (sym (add-zero used)) few, λ past. false≢true past.0)
used_by kind true None used None is few = (refl, tt, λ past. past.1)
used_by kind true None used (Some n) is few = absurd (no_value n is)
used_by kind true (Some m) used None is few = absurd (no_value (m - used) (sym is))
used_by kind true (Some m) used (Some zero) is few =
    let same : zero ≡ m - used = same_Some zero (m - used) is in
    (refl, (refl, omega arith))
used_by kind true (Some m) used (Some (suc n)) is few =
    let same : suc n ≡ m - used = same_Some (suc n) (m - used) is in
    let less : n ≡ m - (used + 1) = omega arith in
    (ap Some less, omega arith, λ past. let most = past.1 in omega arith)

pub used_less : (kind : TextKind) (what : What) (size : Option ℕ) (used : ℕ) (left : Option ℕ) → left ≡ left_of size used → IfSome size (λ m. used ≤ m) → Used kind what size used (left_behind kind what left)
used_less kind what size used left is few = used_by kind (is_arrival what) size used left is few

pub used_then : (text : TextOf) (so_far : Option Shape) (items : List Item) (number : ℕ) (said : Said) (kind : TextKind) (what : What) (size : Option ℕ) (used : ℕ) (r : Result (Option ℕ) TextKind) (rest : Option ℕ → Result Draft TextKind)
    → Used kind what size used r → ((left : Option ℕ) → Used kind what size used (Ok left) → Verdict text so_far items number said (rest left))
    → (IsTrue (is_arrival what) × MatchOption size ⊥ (λ m. m ≤ used) → Verdict text so_far items number said (Err kind)) → Verdict text so_far items number said (r >>= rest)
used_then text so_far items number said kind what size used (Ok left) rest is f g = f left is
used_then text so_far items number said kind what size used (Err other) rest is f g = subst (λ (k : TextKind). Verdict text so_far items number said (Err k)) (sym is.0) (g is.1)

-- the words of a tape

pub tape_none : (tape : Option (List ℕ)) (used : ℕ) → MatchOption (option_map length tape) ⊥ (λ m. m ≤ used) → MatchOption tape ⊥ (λ tape. length tape ≤ used)
tape_none None used h = h
tape_none (Some tape) used h = h

pub none_tape : (tape : Option (List ℕ)) (used : ℕ) → MatchOption tape ⊥ (λ tape. length tape ≤ used) → MatchOption (option_map length tape) ⊥ (λ m. m ≤ used)
none_tape None used h = h
none_tape (Some tape) used h = h

pub some_room : (tape : Option (List ℕ)) (used : ℕ) → IfSome tape (λ tape. IsTape tape × (used ≤ length tape)) → IfSome (option_map length tape) (λ m. used ≤ m)
some_room None used h = tt
some_room (Some tape) used h = h.1

pub room_left : (tape : Option (List ℕ)) (used now : ℕ) → IfSome tape (λ tape. IsTape tape × (used ≤ length tape)) → IfSome (option_map length tape) (λ m. now ≤ m) → IfSome tape (λ tape. IsTape tape × (now ≤ length tape))
room_left None used now h room = tt
room_left (Some tape) used now h room = (h.0, room)

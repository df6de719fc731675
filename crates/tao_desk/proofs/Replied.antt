-- What a reply is.
use Rattle.std.proofs.Common.{◌≡◌, ℕ, ◌<◌, List, reverse, length, Option, Some, sym, subst, arith}
use Rattle.std.specs.Prelude.{IfSome, if◌then◌else◌}
use Rattle.tao_base.specs.Session.{History}
use Rattle.tao_model.specs.Events.{arrived, is_done, is_pad}
use Rattle.tao_model.specs.Replies.{released, plain_reply}
use Rattle.tao_model.specs.Lawful.{FollowsLawfully}
use Rattle.tao_model.proofs.Growth.{leading_is}
use Rattle.tao_held.specs.Held.{served_answer}
use Rattle.tao_held.proofs.WholeBlocks.{answers_have_length}
use Rattle.tao_laws.proofs.OpenArrivals.{released_is_settled}
use Rattle.tao_images.specs.Answers.{IsUnaltered}
use Rattle.tao_desk.specs.Sound.{IsSoundRecord}

-- if no fetched bucket was forged, it is the plain array's
pub reply_is_plain : {word : List ℕ → ℕ → ℕ} {source : List ℕ} (key : List ℕ) (h : History) (i : ℕ) (x : Option (List ℕ)) → IsSoundRecord word key source h → i < released (reverse h.events)
    → x ≡ Some (served_answer h.opening (reverse h.events) i) → IsUnaltered key h → IfSome x (λ value. value ≡ plain_reply h.opening (reverse h.events) i)
reply_is_plain key h i x sound low is unaltered =
    let within = (leading_is (is_done (reverse h.events)) (arrived (reverse h.events))).within in
    subst (λ (y : Option (List ℕ)). IfSome y (λ value. value ≡ plain_reply h.opening (reverse h.events) i)) (sym is)
    (sound.answers unaltered i (omega (arith, low, within)) (released_is_settled h.events i low))

-- it has a block's bytes, or none for a pad
pub reply_has_length : (h : History) (i : ℕ) (x : Option (List ℕ)) → FollowsLawfully h.opening (reverse h.events) → i < released (reverse h.events)
    → x ≡ Some (served_answer h.opening (reverse h.events) i) → IfSome x (λ value. length value ≡ (if is_pad (reverse h.events) i then 0 else h.opening.shape.b))
reply_has_length h i x follows low is =
    subst (λ (y : Option (List ℕ)). IfSome y (λ value. length value ≡ (if is_pad (reverse h.events) i then 0 else h.opening.shape.b))) (sym is)
    (answers_have_length h.opening h.events i follows (released_is_settled h.events i low))

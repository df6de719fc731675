-- A fetch touches its path and no other node.
use Rattle.std.proofs.Common.{◌≡◌, Bool, true, false, ◌||◌, refl, ap, ◌∙◌}
use Rattle.std.proofs.lemmas.Bool.{or_parts, or_from, or_right}
use Rattle.tao_base.specs.Tree.{is_on_path}
use Rattle.tao_contents.specs.TouchedNodes.{FetchTouchesPath}

or_no : (x : Bool) → (x || false) ≡ x
or_no true = refl
or_no false = refl

pub fetch_touches_path : FetchTouchesPath
fetch_touches_path l at recent = record {
  path = λ w on. or_right (recent w) (is_on_path l at w) on;
  others = λ w off. ap (λ t. recent w || t) off ∙ or_no (recent w);
  not_recent = λ w. (λ not. or_parts (recent w) (is_on_path l at w) not, λ both. or_from (recent w) (is_on_path l at w) both.0 both.1);
}

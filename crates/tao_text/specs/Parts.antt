-- What lines say, part by part.
use Rattle.std.specs.Prelude.{ℕ, Bool, true, false, List, slice_get, filter_map, Option, Some, None}
use Rattle.std.specs.List.{after_first, before_first, list_any}
use Rattle.std.specs.Option.{option_map}
use Rattle.std.specs.Result.{result_ok}
use Rattle.tao_base.specs.Limits.{Shape, in_form, shape_of}
use Rattle.tao_base.specs.declared.calls.Op.{Op}
use Rattle.tao_base.specs.declared.parameters.Form.{Form}
use Rattle.tao_base.specs.declared.storage.Entry.{Entry}
use Rattle.tao_text.specs.declared.said.Said.{Said}
use Rattle.tao_text.specs.declared.script.What.{What}

-- what a line says, with its line number
pub record Item : Type 0 where
  pub line : ℕ
  pub said : Said

-- the parts of what a line says, each None on all other kinds of lines

-- the parameters of a `tree` line, untagged, if they are within the limits
abbrev pub tree_of : Said → Option Shape
tree_of (Said.Tree l z b n k) = result_ok (shape_of l z b n k)
tree_of (Said.Form form) = None
tree_of (Said.Key bytes) = None
tree_of Said.Seal = None
tree_of (Said.Reopen bytes) = None
tree_of (Said.Tape tape) = None
tree_of (Said.Load entry) = None
tree_of (Said.Step what) = None
tree_of Said.Twin = None
tree_of (Said.Op op) = None

-- the form of a `form` line
abbrev pub form_of : Said → Option Form
form_of (Said.Tree l z b n k) = None
form_of (Said.Form form) = Some form
form_of (Said.Key bytes) = None
form_of Said.Seal = None
form_of (Said.Reopen bytes) = None
form_of (Said.Tape tape) = None
form_of (Said.Load entry) = None
form_of (Said.Step what) = None
form_of Said.Twin = None
form_of (Said.Op op) = None

-- the bytes of a `key` line, of any length
abbrev pub key_of : Said → Option (List ℕ)
key_of (Said.Tree l z b n k) = None
key_of (Said.Form form) = None
key_of (Said.Key bytes) = Some bytes
key_of Said.Seal = None
key_of (Said.Reopen bytes) = None
key_of (Said.Tape tape) = None
key_of (Said.Load entry) = None
key_of (Said.Step what) = None
key_of Said.Twin = None
key_of (Said.Op op) = None

-- the words of a `tape` line
abbrev pub tape_of : Said → Option (List ℕ)
tape_of (Said.Tree l z b n k) = None
tape_of (Said.Form form) = None
tape_of (Said.Key bytes) = None
tape_of Said.Seal = None
tape_of (Said.Reopen bytes) = None
tape_of (Said.Tape tape) = Some tape
tape_of (Said.Load entry) = None
tape_of (Said.Step what) = None
tape_of Said.Twin = None
tape_of (Said.Op op) = None

-- the id and first value of a `load` line
abbrev pub load_of : Said → Option Entry
load_of (Said.Tree l z b n k) = None
load_of (Said.Form form) = None
load_of (Said.Key bytes) = None
load_of Said.Seal = None
load_of (Said.Reopen bytes) = None
load_of (Said.Tape tape) = None
load_of (Said.Load entry) = Some entry
load_of (Said.Step what) = None
load_of Said.Twin = None
load_of (Said.Op op) = None

-- the step of a line
abbrev pub step_of : Said → Option What
step_of (Said.Tree l z b n k) = None
step_of (Said.Form form) = None
step_of (Said.Key bytes) = None
step_of Said.Seal = None
step_of (Said.Reopen bytes) = None
step_of (Said.Tape tape) = None
step_of (Said.Load entry) = None
step_of (Said.Step what) = Some what
step_of Said.Twin = None
step_of (Said.Op op) = None

-- the operation of an `op` line
abbrev pub op_of : Said → Option Op
op_of (Said.Tree l z b n k) = None
op_of (Said.Form form) = None
op_of (Said.Key bytes) = None
op_of Said.Seal = None
op_of (Said.Reopen bytes) = None
op_of (Said.Tape tape) = None
op_of (Said.Load entry) = None
op_of (Said.Step what) = None
op_of Said.Twin = None
op_of (Said.Op op) = Some op

-- the line `twin`
abbrev pub is_twin : Said → Bool
is_twin (Said.Tree l z b n k) = false
is_twin (Said.Form form) = false
is_twin (Said.Key bytes) = false
is_twin Said.Seal = false
is_twin (Said.Reopen bytes) = false
is_twin (Said.Tape tape) = false
is_twin (Said.Load entry) = false
is_twin (Said.Step what) = false
is_twin Said.Twin = true
is_twin (Said.Op op) = false

-- the first line with this part, and its number
abbrev pub first_line : {A : Type 0} → (Said → Option A) → List Item → Option (ℕ × A)
first_line part items = slice_get (filter_map (λ item. option_map (λ x. (item.line, x)) (part item.said)) items) 0

-- this part of the first line that has it
abbrev pub first_said : {A : Type 0} → (Said → Option A) → List Item → Option A
first_said part items = option_map (λ at. at.1) (first_line part items)

-- the parameters in the given form, if any
abbrev pub with_form : Option Form → Shape → Shape
with_form None s = s
with_form (Some form) s = in_form s form

-- the parameters that the lines give, in the form that they give
abbrev pub shape_said : List Item → Option Shape
shape_said items = option_map (with_form (first_said form_of items)) (first_said tree_of items)

-- whether there is a line `twin`
abbrev pub has_twin : List Item → Bool
has_twin items = list_any (λ item. is_twin item.said) items

-- the lines of the first play: those before the line `twin`, or all without one
abbrev pub first_play : List Item → List Item
first_play items = before_first (λ item. is_twin item.said) items

-- the lines of the second play: those behind the line `twin`
abbrev pub second_play : List Item → List Item
second_play items = after_first (λ item. is_twin item.said) items

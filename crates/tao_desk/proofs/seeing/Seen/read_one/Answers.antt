use Rattle.std.proofs.Common.{List, ◌++◌, [], All, Option, sym, ap, ◌∙◌, subst}
use Rattle.std.specs.List.{flat_map}
use Rattle.std.specs.Option.{option_copied, option_to_list}
use Rattle.std.proofs.lemmas.List.{append-nil}
use Rattle.std.proofs.lemmas.List.Elements.{All-head}
use Rattle.tao_base.specs.declared.storage.Bucket.{Bucket}
use Rattle.tao_base.specs.declared.storage.Entry.{Entry}
use Rattle.tao_flush.specs.Blocks.{IsEntry}
use Rattle.tao_desk.specs.Scanning.{Sees}
use Rattle.tao_desk.proofs.seeing.Seen.read_one.Goals as goal

pub see-requires : goal.see-requires
see-requires c =
    let given = c.requires.each in
    let held = sym c.bucket.ensures ∙ ap option_copied c.in-Some.is in record {
      each = (
        given.0,
        given.1,
        given.2,
        subst (λ (es : List Entry). All (IsEntry given.0) es) (sym c.as_slice.ensures)
            (All-head (λ (bucket : Bucket). All (IsEntry given.0) bucket.entries) c.in-Some.bucket.now []
            (subst (λ (x : Option Bucket). All (λ (bucket : Bucket). All (IsEntry given.0) bucket.entries) (option_to_list x)) held given.3)),
      );
    }

pub returns-clause-sees : goal.returns-clause-sees
returns-clause-sees c =
    let held = sym c.bucket.ensures ∙ ap option_copied c.in-Some.is in
    λ s before is all. subst (λ (x : Option Bucket). Sees s (before ++ flat_map (λ (bucket : Bucket). bucket.entries) (option_to_list x)) c.see.new.self.values.items c.see.new.self.known.items) (sym held)
    (subst (λ (es : List Entry). Sees s (before ++ es) c.see.new.self.values.items c.see.new.self.known.items) (c.as_slice.ensures ∙ sym (append-nil c.in-Some.bucket.now.entries))
    (c.see.ensures.sees s before is (subst (λ (es : List Entry). All (IsEntry s) es) (sym c.as_slice.ensures)
    (All-head (λ (bucket : Bucket). All (IsEntry s) bucket.entries) c.in-Some.bucket.now []
    (subst (λ (x : Option Bucket). All (λ (bucket : Bucket). All (IsEntry s) bucket.entries) (option_to_list x)) held all)))))

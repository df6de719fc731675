use Rattle.std.proofs.Common.{◌≡◌, ◌^◌, All, map, reverse, sym, ◌∙◌, subst}
use Rattle.tao_base.specs.declared.storage.Bucket.{Bucket}
use Rattle.tao_held.specs.Held.{newest_entries}
use Rattle.tao_images.specs.Answers.{IsUnaltered}
use Rattle.tao_model.specs.Replies.{array_now}
use Rattle.tao_desk.specs.Scanning.{ScanState, entries_seen, values_in}
use Rattle.tao_desk.proofs.Scanned.{seen_values, final_array_is}
use Rattle.tao_desk.proofs.desk.scan.Scan.array.Goals as goal

pub returns-clause-seen : goal.returns-clause-seen
returns-clause-seen g c =
    subst (λ (s : ScanState). c.deref.result.now ≡ values_in s.desk.history.opening.shape (entries_seen s.desk.history.opening (reverse s.desk.history.events) s.taken)) c.self.view_is
    (c.deref.ensures.value ∙ seen_values c.self.invariant.sees)

pub returns-clause-plain : goal.returns-clause-plain
returns-clause-plain g c =
    subst (λ (s : ScanState). IsUnaltered s.desk.key s.desk.history
    → All (λ (bucket : Bucket). bucket.entries ≡ newest_entries s.desk.history.opening (reverse s.desk.history.events) bucket.node) s.taken
    → c.deref.result.now ≡ array_now s.desk.history.opening (reverse s.desk.history.events)) c.self.view_is
    (λ unaltered honest.
    let about = c.params.ensures.sound.about in
    let last = subst (λ (s : ScanState). s.next ≡ 2 ^ s.desk.history.opening.shape.l) (sym c.self.view_is) c.requires in
    c.deref.ensures.value ∙ seen_values c.self.invariant.sees
    ∙ final_array_is c.self.inside.desk.key c.self.inside.desk.history c.self.inside.next (map (λ bucket. bucket.value) c.self.inside.seen.taken.items) c.self.invariant last c.params.ensures.shape
    (record { opens = about.lawful.opens; follows = about.lawful.follows; writes = about.writes }) about.tags unaltered honest)

-- What a write to one part of a slot does to the parts of all slots.
use Rattle.std.proofs.Common.{◌≡◌, ℕ, List, Option, set, get_or, ap, ◌∙◌}
use Rattle.std.proofs.lemmas.List.{map-set, get_or-set_other}
use Rattle.std.proofs.Math.Seq.{map-set_same}
use Rattle.tao_slots.specs.Columns.{buckets_in, links_in, nexts_in, no_links, IsRehung, IsRefilled}
use Rattle.tao_base.specs.declared.storage.Bucket.{Bucket}
use Rattle.tao_slots.specs.declared.slot.Links.{Links}
use Rattle.tao_slots.specs.declared.slot.Slot.{Slot}

pub buckets_kept : (slots : List Slot) (i : ℕ) (slot d : Slot) → slot.bucket ≡ (get_or slots i d).bucket → buckets_in (set slots i slot) ≡ buckets_in slots
buckets_kept slots i slot d same = map-set_same (λ s. s.bucket) slots i slot d same

pub links_kept : (slots : List Slot) (i : ℕ) (slot d : Slot) → slot.links ≡ (get_or slots i d).links → links_in (set slots i slot) ≡ links_in slots
links_kept slots i slot d same = map-set_same (λ s. s.links) slots i slot d same

pub nexts_kept : (slots : List Slot) (i : ℕ) (slot d : Slot) → slot.next ≡ (get_or slots i d).next → nexts_in (set slots i slot) ≡ nexts_in slots
nexts_kept slots i slot d same = map-set_same (λ s. s.next) slots i slot d same

pub rehung : (slots : List Slot) (i : ℕ) (slot d : Slot) → slot.bucket ≡ (get_or slots i d).bucket → slot.links ≡ (get_or slots i d).links → slot.next ≡ (get_or slots i d).next
    → IsRehung slots (set slots i slot)
rehung slots i slot d b l n = record { buckets = buckets_kept slots i slot d b; links = links_kept slots i slot d l; nexts = nexts_kept slots i slot d n }

pub refilled : (slots : List Slot) (i : ℕ) (slot d : Slot) (bucket : Option Bucket) → slot.bucket ≡ bucket → slot.next ≡ (get_or slots i d).next → IsRefilled slots (set slots i slot) i bucket
refilled slots i slot d bucket b n = record {
  buckets = map-set (λ s. s.bucket) slots i slot ∙ ap (set (buckets_in slots) i) b;
  links = λ j other. ap (λ (all : List Links). get_or all j no_links) (map-set (λ s. s.links) slots i slot) ∙ get_or-set_other (links_in slots) i j slot.links no_links other;
  nexts = nexts_kept slots i slot d n;
}

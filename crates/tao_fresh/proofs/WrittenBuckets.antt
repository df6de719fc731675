-- The latest versions of the nodes, and the buckets fetched of them. The events `es` are newest first.
use Rattle.std.proofs.Common.{◌≡◌, ℕ, Bool, true, false, not, cond, List, [], ◌∷◌, All, Option, Some, None, is_some, IfSome, refl, sym, ap, ◌∙◌, subst, arith, nat_eq}
use Rattle.std.proofs.lemmas.Bool.{eqb-true, true≢false, and_from}
use Rattle.std.proofs.lemmas.Option.{same_Some}
use Rattle.std.proofs.lemmas.List.Elements.{All-head, All-tail}
use Rattle.tao_base.specs.declared.session.Event.{Event}
use Rattle.tao_base.specs.declared.storage.Bucket.{Bucket}
use Rattle.tao_base.specs.Session.{Opening}
use Rattle.tao_base.specs.Tree.{path}
use Rattle.tao_model.specs.Requests.{fetched_leaf}
use Rattle.tao_model.specs.Residence.{bucket_of, is_resident, newest_write, HasEntriesOf}
use Rattle.tao_model.specs.Placement.{entries_at}
use Rattle.tao_model.specs.Lawful.{OpensWithLoad, MayBeDone}
use Rattle.tao_model.proofs.FallingPaths.{has, on_path_has}
use Rattle.tao_held.specs.Held.{newest_entries, entries_of_option}
use Rattle.tao_contents.specs.FetchLaws.{IsHonest}
use Rattle.tao_laws.proofs.Listings.{has_filter}
use Rattle.tao_laws.proofs.RecentNodes.{bucket_in, fetched_in_tree}
use Rattle.tao_laws.proofs.AnswersAsWritten.{the_some, was_written}

-- a node's bucket is in the list and has that node
pub bucket_found : (Q : Bucket → Type 0) (node : ℕ) (buckets : List Bucket) → All Q buckets → (x : Bucket) → bucket_of node buckets ≡ Some x → Q x × (x.node ≡ node)
bucket_found Q node [] all x is = absurd (true≢false (sym (ap is_some is)))
bucket_found Q node (b ∷ buckets) all x is = either (nat_eq b.node node) refl is (λ later. bucket_found Q node buckets (All-tail Q b buckets all) x later)
  where
    either : (t : Bool) → nat_eq b.node node ≡ t → cond t (Some b) (bucket_of node buckets) ≡ Some x → (bucket_of node buckets ≡ Some x → Q x × (x.node ≡ node)) → Q x × (x.node ≡ node)
    either true here found ih =
        let same : b ≡ x = same_Some b x found in
        (subst Q same (All-head Q b buckets all), ap (λ y. y.node) (sym same) ∙ eqb-true b.node node here)
    either false other found ih = ih found

-- the entries of a node in a list of buckets are those of its bucket
pub entries_found : (node : ℕ) (buckets : List Bucket) → entries_of_option (bucket_of node buckets) ≡ entries_at buckets node
entries_found node [] = refl
entries_found node (b ∷ buckets) = either (nat_eq b.node node) (entries_found node buckets)
  where
    either : (t : Bool) → entries_of_option (bucket_of node buckets) ≡ entries_at buckets node
        → entries_of_option (cond t (Some b) (bucket_of node buckets)) ≡ cond t b.entries (entries_at buckets node)
    either true ih = refl
    either false ih = ih

-- ---- an honest fetch

honest_one : (write : Option Bucket) (x : Bucket) → is_some write ≡ true → IfSome write (HasEntriesOf x) → x.entries ≡ entries_of_option write
honest_one None x is same = absurd (true≢false (sym is))
honest_one (Some y) x is same = same

pub honest_from : (o : Opening) (es : List Event) (i : ℕ) (taken : List Bucket) → OpensWithLoad o → MayBeDone o es i taken
    → All (λ bucket. IfSome (newest_write o es bucket.node) (HasEntriesOf bucket)) taken
    → IsHonest o.shape.l (fetched_leaf o es i) (λ w. is_resident o es w) (entries_at taken) (λ w. newest_entries o es w)
honest_from o es i taken opens may honest w on away = either (the_some (bucket_of w taken) found)
  where
    inside : has w (path o.shape.l (fetched_leaf o es i)) ≡ true
    inside = sym (on_path_has o.shape.l (fetched_leaf o es i) w) ∙ on

    found : is_some (bucket_of w taken) ≡ true
    found = bucket_in w taken ∙ ap (has w) may.nodes ∙ has_filter (λ v. not (is_resident o es v)) w (path o.shape.l (fetched_leaf o es i))
        ∙ and_from (not (is_resident o es w)) (has w (path o.shape.l (fetched_leaf o es i))) (ap not away) inside

    either : (x : Bucket) × (bucket_of w taken ≡ Some x) → entries_at taken w ≡ newest_entries o es w
    either x =
        let is = bucket_found (λ bucket. IfSome (newest_write o es bucket.node) (HasEntriesOf bucket)) w taken honest x.0 x.1 in
        let there = fetched_in_tree o es i w on in
        sym (entries_found w taken) ∙ ap entries_of_option x.1
        ∙ honest_one (newest_write o es w) x.0 (let high = there.1 in was_written o es w opens there.0 (omega arith)) (subst (λ v. IfSome (newest_write o es v) (HasEntriesOf x.0)) is.1 is.0)

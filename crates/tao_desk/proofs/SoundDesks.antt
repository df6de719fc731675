-- A desk is sound after each call: all promises follow from what its processor and the desk itself keep.
use Rattle.std.proofs.Common.{◌≡◌, ℕ, ◌<◌, ◌≤◌, Bool, true, false, cond, List, reverse, Option, Some, None, is_some, refl, sym, ◌∙◌, subst, arith}
use Rattle.std.specs.Prelude.{IfSome}
use Rattle.std.specs.List.{slice_index_or}
use Rattle.std.proofs.lemmas.Bool.{ne_eqb, true≢false}
use Rattle.tao_base.specs.Buckets.{AreInForm, IsInForm}
use Rattle.tao_base.specs.declared.storage.Bucket.{Bucket}
use Rattle.tao_base.specs.declared.storage.Entry.{Entry}
use Rattle.tao_base.specs.Limits.{Shape}
use Rattle.tao_base.specs.Session.{History}
use Rattle.tao_base.specs.Tree.{node_count}
use Rattle.tao_model.specs.Residence.{is_resident, Unaltered}
use Rattle.tao_flush.specs.Blocks.{IsStash, AreNodeEntries}
use Rattle.tao_held.specs.Held.{held, IsOfProxy}
use Rattle.tao_holdings.specs.Holding.{HoldingsState, is_held, contents_in, AreForms, entries_of}
use Rattle.tao_fresh.specs.FreshLaws.{present}
use Rattle.tao_fresh.proofs.CleanNodes.{residents_are_clean}
use Rattle.tao_fresh.proofs.CountedCopies.{present_is_of_tree}
use Rattle.tao_fresh.proofs.FreshCopies.{copies_are_fresh}
use Rattle.tao_fresh.proofs.FreshWriteBacks.{writes_are_fresh}
use Rattle.tao_fresh.proofs.RightAnswers.{answers_are_right}
use Rattle.tao_tables.proofs.WrittenTables.{newest_write_is}
use Rattle.tao_images.specs.Honesty.{HasTagOf}
use Rattle.tao_images.proofs.AnswerLemmas.{unaltered_is_honest}
use Rattle.tao_processor.specs.State.{ProcessorState, IsProcessorSound}
use Rattle.tao_desk.specs.Inside.{IsDesk}
use Rattle.tao_desk.specs.Sound.{IsSoundRecord, IsSound, AreContentsInForm}

-- entries in form are a node's
node_entries : (s : Shape) (entries : List Entry) → AreInForm s entries → AreNodeEntries s entries
node_entries s entries form = record { few = form.few; each = λ k d low. (form.ids k d low, form.values k d low) }

-- the entries of a held node
pub held_entries : (st : HoldingsState) (w : ℕ) → 1 ≤ w → AreForms st → is_held st w ≡ true → AreNodeEntries st.shape (contents_in st w)
held_entries st w low forms there =
    subst (λ (t : Bool). AreNodeEntries st.shape (cond t st.stash (entries_of (slice_index_or st.nodes w None)))) (sym (ne_eqb w 0 (λ same. omega arith)))
    (either (slice_index_or st.nodes w None) (forms.nodes w) there)
  where
    either : (x : Option Bucket) → IfSome x (λ bucket. (bucket.node ≡ w) × IsInForm st.shape bucket) → is_some x ≡ true → AreNodeEntries st.shape (entries_of x)
    either None is some = absurd (true≢false (sym some))
    either (Some bucket) is some = node_entries st.shape bucket.entries is.1.entries

-- the present contents are in form
contents_in_form : (h : History) (st : HoldingsState) → IsOfProxy h.opening (reverse h.events) → st.shape ≡ h.opening.shape → AreForms st
    → ((w : ℕ) → is_held st w ≡ is_resident h.opening (reverse h.events) w) → ((w : ℕ) → contents_in st w ≡ held h.opening (reverse h.events) w)
    → AreContentsInForm h.opening (reverse h.events)
contents_in_form h st proxy shape forms residents contents = record {
  nodes = λ w low high. either w low high (is_resident h.opening (reverse h.events) w) refl;
  rising = λ w low high. (present_is_of_tree h.opening h.events proxy).rises w;
  stash = subst (λ s. IsStash s (held h.opening (reverse h.events) 0)) shape (subst (λ entries. IsStash st.shape entries) (contents 0) forms.stash);
}
  where
    either : (w : ℕ) → 1 ≤ w → w ≤ node_count h.opening.shape.l → (t : Bool) → is_resident h.opening (reverse h.events) w ≡ t
        → AreNodeEntries h.opening.shape (present h.opening (reverse h.events) w)
    either w low high true is =
        rw (is, ne_eqb w 0 (λ same. omega arith))
        (subst (λ s. AreNodeEntries s (held h.opening (reverse h.events) w)) shape (subst (λ entries. AreNodeEntries st.shape entries) (contents w)
        (held_entries st w low forms (residents w ∙ is))))
    either w low high false is =
        rw (is, ne_eqb w 0 (λ same. omega arith))
        (let newest = newest_write_is h.opening h.events w proxy.opens proxy.follows low high in
        rw newest.there (node_entries h.opening.shape newest.bucket.entries newest.in_form.entries))

-- the record is sound
pub sound_record : {word : List ℕ → ℕ → ℕ} {source : List ℕ} {place : ℕ} (key : List ℕ) (h : History) → IsOfProxy h.opening (reverse h.events)
    → Unaltered (HasTagOf key h.opening.shape) h.opening (reverse h.events) → IsDesk word source place h → IsSoundRecord word key source h
sound_record {word} {source} {place} key h proxy tags desk = record {
  lawful = record { opens = proxy.opens; follows = proxy.follows; owes = desk.owes };
  words = λ j small. desk.words j (subst (λ n. j < n) (sym desk.place_is) small);
  writes = proxy.writes;
  tags = tags;
  fresh_writes = λ unaltered. writes_are_fresh h.opening h.events proxy (unaltered_is_honest key h unaltered tags);
  answers = λ unaltered i there settled. answers_are_right h.opening h.events i proxy (unaltered_is_honest key h unaltered tags) there settled;
}

-- and so is the desk
pub sound_desk : {word : List ℕ → ℕ → ℕ} {source : List ℕ} {place : ℕ} (c : ProcessorState) → IsProcessorSound c
    → IsDesk word source place c.history → IsSound word (record { key = c.key; source = source; history = c.history; holdings = c.holdings })
sound_desk {word} {source} {place} c is desk = record {
  about = sound_record {word = word} {source = source} {place = place} c.key c.history is.proxy is.tags desk;
  residents = is.residents;
  contents = is.contents;
  positions = is.positions;
  numbers = record { counts = is.counts; touches = is.touches; versions = is.versions };
  in_form = contents_in_form c.history c.holdings is.proxy is.shape is.forms is.residents is.contents;
  clean = residents_are_clean c.history.opening c.history.events is.proxy;
  fresh = λ unaltered. copies_are_fresh c.history.opening c.history.events is.proxy (unaltered_is_honest c.key c.history unaltered is.tags);
}

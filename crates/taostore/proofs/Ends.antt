-- A command that has a cause to end so, and has written the text of this end or a part of it, ends as its status says; and the other way round.
use Rattle.std.proofs.Common.{◌≡◌, ◌⊎◌, inl, inr, ℕ, List, Option, take, arith}
use Rattle.tao_text.specs.declared.faults.TextFault.{TextFault}
use Rattle.taostore.specs.declared.output.End.{End}
use Rattle.taostore.specs.declared.output.End.TheVariants.{Done, Refused, Broken, Unbuilt, SourceFailed, NoMemory}
use Rattle.tao_base.specs.Transfers.{PutsAll}
use Rattle.taostore.specs.Output.{Finishes, PutsMore}
use Rattle.taostore.specs.Endings.{EndsAs, status_of}

module _ {K : Type 0} (put : K → Option (List ℕ)) (faults : K → ℕ) (old new : K) where
  pub ends_with : (Cause : End → List ℕ → Type 0) (end : End) (text : List ℕ) (status : ℕ) → Cause end text → Finishes put faults old new (status_of end) text status
      → EndsAs put faults old new Cause status
  ends_with Cause end text status cause (inr (is, part)) = record {
    done = λ h. absurd (omega (arith, h, is));
    refused = λ h. absurd (omega (arith, h, is));
    unplayed = λ h. absurd (omega (arith, h, is));
    source_failed = λ h. absurd (omega (arith, h, is));
    sink_failed = λ h. (end, text, cause, part);
    no_memory = λ h. absurd (omega (arith, h, is));
    known = inr (inr (inr (inr (inl is))));
  }
  ends_with Cause Done text status cause (inl (is, all)) = record {
    done = λ h. (text, cause, all);
    refused = λ h. absurd (omega (arith, h, is));
    unplayed = λ h. absurd (omega (arith, h, is));
    source_failed = λ h. absurd (omega (arith, h, is));
    sink_failed = λ h. absurd (omega (arith, h, is));
    no_memory = λ h. absurd (omega (arith, h, is));
    known = inl is;
  }
  ends_with Cause Refused text status cause (inl (is, all)) = record {
    done = λ h. absurd (omega (arith, h, is));
    refused = λ h. (text, cause, all);
    unplayed = λ h. absurd (omega (arith, h, is));
    source_failed = λ h. absurd (omega (arith, h, is));
    sink_failed = λ h. absurd (omega (arith, h, is));
    no_memory = λ h. absurd (omega (arith, h, is));
    known = inr (inl is);
  }
  ends_with Cause (Broken fault) text status cause (inl (is, all)) = record {
    done = λ h. absurd (omega (arith, h, is));
    refused = λ h. absurd (omega (arith, h, is));
    unplayed = λ h. inl (fault, (text, cause, all));
    source_failed = λ h. absurd (omega (arith, h, is));
    sink_failed = λ h. absurd (omega (arith, h, is));
    no_memory = λ h. absurd (omega (arith, h, is));
    known = inr (inr (inl is));
  }
  ends_with Cause (Unbuilt line) text status cause (inl (is, all)) = record {
    done = λ h. absurd (omega (arith, h, is));
    refused = λ h. absurd (omega (arith, h, is));
    unplayed = λ h. inr (line, (text, cause, all));
    source_failed = λ h. absurd (omega (arith, h, is));
    sink_failed = λ h. absurd (omega (arith, h, is));
    no_memory = λ h. absurd (omega (arith, h, is));
    known = inr (inr (inl is));
  }
  ends_with Cause SourceFailed text status cause (inl (is, all)) = record {
    done = λ h. absurd (omega (arith, h, is));
    refused = λ h. absurd (omega (arith, h, is));
    unplayed = λ h. absurd (omega (arith, h, is));
    source_failed = λ h. (text, cause, all);
    sink_failed = λ h. absurd (omega (arith, h, is));
    no_memory = λ h. absurd (omega (arith, h, is));
    known = inr (inr (inr (inl is)));
  }
  ends_with Cause NoMemory text status cause (inl (is, all)) = record {
    done = λ h. absurd (omega (arith, h, is));
    refused = λ h. absurd (omega (arith, h, is));
    unplayed = λ h. absurd (omega (arith, h, is));
    source_failed = λ h. absurd (omega (arith, h, is));
    sink_failed = λ h. absurd (omega (arith, h, is));
    no_memory = λ h. (text, cause, all);
    known = inr (inr (inr (inr (inr is))));
  }

  -- a cause, its text, and what was written of it
  abbrev pub Ending : (End → List ℕ → Type 0) → ℕ → Type 0
  Ending Cause status = (end : End) × (text : List ℕ) × Cause end text × Finishes put faults old new (status_of end) text status

  unplayed_so : (Cause : End → List ℕ → Type 0) (status : ℕ) → status ≡ 3
      → ((fault : TextFault) × ((text : List ℕ) × Cause (Broken fault) text × PutsAll put faults old new text)) ⊎ ((line : ℕ) × ((text : List ℕ) × Cause (Unbuilt line) text × PutsAll put faults old new text))
      → Ending Cause status
  unplayed_so Cause status is (inl (fault, w)) = (Broken fault, w.0, w.1, inl (is, w.2))
  unplayed_so Cause status is (inr (line, w)) = (Unbuilt line, w.0, w.1, inl (is, w.2))

  known_so : (Cause : End → List ℕ → Type 0) (status : ℕ) → EndsAs put faults old new Cause status
      → (status ≡ 0) ⊎ ((status ≡ 2) ⊎ ((status ≡ 3) ⊎ ((status ≡ 4) ⊎ ((status ≡ 5) ⊎ (status ≡ 8))))) → Ending Cause status
  known_so Cause status e (inl is) = let w = e.done is in (Done, w.0, w.1, inl (is, w.2))
  known_so Cause status e (inr (inl is)) = let w = e.refused is in (Refused, w.0, w.1, inl (is, w.2))
  known_so Cause status e (inr (inr (inl is))) = unplayed_so Cause status is (e.unplayed is)
  known_so Cause status e (inr (inr (inr (inl is)))) = let w = e.source_failed is in (SourceFailed, w.0, w.1, inl (is, w.2))
  known_so Cause status e (inr (inr (inr (inr (inl is))))) = let w = e.sink_failed is in (w.0, w.1, w.2, inr (is, w.3))
  known_so Cause status e (inr (inr (inr (inr (inr is))))) = let w = e.no_memory is in (NoMemory, w.0, w.1, inl (is, w.2))

  pub ends_so : (Cause : End → List ℕ → Type 0) (status : ℕ) → EndsAs put faults old new Cause status → Ending Cause status
  ends_so Cause status e = known_so Cause status e e.known

  -- what holds of each cause holds of how the command ends
  pub ends_for : (Cause Other : End → List ℕ → Type 0) (status : ℕ) → ((end : End) (text : List ℕ) → Cause end text → Other end text) → EndsAs put faults old new Cause status
      → EndsAs put faults old new Other status
  ends_for Cause Other status follows e = let so = ends_so Cause status e in ends_with Other so.0 so.1 status (follows so.0 so.1 so.2) so.3

  finish_puts_more : (status : ℕ) (text : List ℕ) (result : ℕ) → Finishes put faults old new status text result → PutsMore put old new
  finish_puts_more status text result (inl w) = (text, w.1.whole)
  finish_puts_more status text result (inr w) = (take w.1.part text, w.1.front)

  pub end_puts_more : (Cause : End → List ℕ → Type 0) (status : ℕ) → EndsAs put faults old new Cause status → PutsMore put old new
  end_puts_more Cause status e = let so = ends_so Cause status e in finish_puts_more (status_of so.0) so.1 status so.3

  finish_fails : (status : ℕ) (text : List ℕ) (result : ℕ) → Finishes put faults old new status text result → ¬ (faults new ≡ faults old) → result ≡ 5
  finish_fails status text result (inl w) fails = absurd (fails w.1.unfailed)
  finish_fails status text result (inr w) fails = w.0

  pub end_fails : (Cause : End → List ℕ → Type 0) (status : ℕ) → EndsAs put faults old new Cause status → ¬ (faults new ≡ faults old) → status ≡ 5
  end_fails Cause status e = let so = ends_so Cause status e in finish_fails (status_of so.0) so.1 status so.3

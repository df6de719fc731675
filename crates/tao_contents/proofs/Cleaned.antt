-- Clean nodes stay clean, and a write-back makes all clean.
use Rattle.std.proofs.Common.{◌≡◌, ℕ, ◌<◌, Bool, true, false, not, ◌||◌, cond, List, refl, sym, ap, ◌∙◌, arith, inl, inr, ◌⊎◌}
use Rattle.std.proofs.lemmas.Bool.{ne_eqb, cases_Bool, or_parts, and_parts, not-true, true≢false}
use Rattle.tao_base.specs.declared.storage.Entry.{Entry}
use Rattle.tao_base.specs.Tree.{is_on_path}
use Rattle.tao_held.specs.Steps.{take_in, with_path, put, evict}
use Rattle.tao_held.proofs.HeldSteps.{evict_off, take_in_off}
use Rattle.tao_contents.specs.CleanLaws.{CleanResidents, touching, RealFetchKeepsClean, FakeFetchKeepsClean, IssueCleans, AcknowledgementKeepsClean, CurrentIsWritten}

-- a node off the path keeps its entries
was_held : (x y : Bool) → (x || y) ≡ true → y ≡ false → x ≡ true
was_held true y held off = refl
was_held false y held off = absurd (true≢false (sym held ∙ off))

-- contents that changed only on the path
off_path_clean : (l at : ℕ) (resident recent : ℕ → Bool) (own own' newest : ℕ → List Entry) → ((w : ℕ) → 0 < w → is_on_path l at w ≡ false → own' w ≡ own w)
    → CleanResidents resident recent own newest → CleanResidents (with_path l at resident) (touching l at recent) own' newest
off_path_clean l at resident recent own own' newest same clean w low held old =
    let parts = or_parts (recent w) (is_on_path l at w) old in
    same w low parts.1 ∙ clean w low (was_held (resident w) (is_on_path l at w) held parts.1) parts.0

pub fake_fetch_keeps_clean : FakeFetchKeepsClean
fake_fetch_keeps_clean s at leaf resident recent taken own newest clean =
    off_path_clean s.l at resident recent own (evict s at leaf (take_in s.l at resident taken own)) newest
    (λ w low off. evict_off s at leaf (take_in s.l at resident taken own) w low off ∙ take_in_off s.l at resident taken own w off) clean

pub real_fetch_keeps_clean : RealFetchKeepsClean
real_fetch_keeps_clean s at leaf resident recent taken own newest b value clean =
    off_path_clean s.l at resident recent own (evict s at leaf (put (take_in s.l at resident taken own) b value)) newest
    (λ w low off. evict_off s at leaf (put (take_in s.l at resident taken own) b value) w low off
    ∙ ap (λ t. cond t (put (take_in s.l at resident taken own) b value 0) (take_in s.l at resident taken own w)) (ne_eqb w 0 (λ same. omega arith))
    ∙ take_in_off s.l at resident taken own w off) clean

pub issue_cleans : IssueCleans
issue_cleans resident recent issued own newest newest' covers writes keeps clean w low held = either (cases_Bool (issued w))
  where
    old : (recent w ≡ true) ⊎ (recent w ≡ false) → issued w ≡ false → recent w ≡ false
    old (inl touched) off = absurd (true≢false (sym (covers w low touched) ∙ off))
    old (inr is_old) off = is_old

    either : (issued w ≡ true) ⊎ (issued w ≡ false) → own w ≡ newest' w
    either (inl on) = sym (writes w on)
    either (inr off) = clean w low held (old (cases_Bool (recent w)) off) ∙ sym (keeps w off)

pub acknowledgement_keeps_clean : AcknowledgementKeepsClean
acknowledgement_keeps_clean resident recent departs own own' newest stays clean w low held old =
    let parts = and_parts (resident w) (not (departs w)) held in
    stays w parts.0 (not-true (departs w) parts.1) ∙ clean w low parts.0 old

pub current_is_written : CurrentIsWritten
current_is_written resident own newest clean w low = ap (λ t. cond (t || resident w) (own w) (newest w)) (ne_eqb w 0 (λ same. omega arith)) ∙ either (resident w) refl
  where
    either : (t : Bool) → resident w ≡ t → cond t (own w) (newest w) ≡ newest w
    either true held = clean w low held
    either false away = refl

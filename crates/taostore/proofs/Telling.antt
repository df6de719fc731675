-- What is told piece by piece is told whole.
use Rattle.std.proofs.Common.{◌≡◌, inl, inr, ℕ, ◌+◌, ◌-◌, ◌<◌, List, [], ◌++◌, length, flat_map, zero, suc, Option, Some, Result, Ok, Err, refl, sym, ap, ◌∙◌, subst, arith, append_assoc, append-nil}
use Rattle.std.proofs.KnownBytes.{Appends-nil}
use Rattle.std.specs.List.{range_with_len}
use Rattle.tao_base.proofs.TransferLemmas.{puts_then, part_of_more, part_then}
use Rattle.tao_trace.specs.WholeLines.{AreLines, AreFirstLines}
use Rattle.tao_trace.proofs.Ranges.{texts_more}
use Rattle.tao_trace.proofs.WholeLines.{more_lines, each_lines}
use Rattle.taostore.specs.declared.faults.StreamFault.{StreamFault}
use Rattle.taostore.specs.declared.faults.StreamFault.TheVariants.{Failed, NoMemory}
use Rattle.taostore.specs.declared.output.End.TheVariants as ends
use Rattle.taostore.specs.declared.output.End.TheVariants.{Done}
use Rattle.taostore.specs.Endings.{end_line, EndsAs, SessionEnds}
use Rattle.tao_base.specs.Transfers.{PutsAll, PutsPart}
use Rattle.taostore.specs.Output.{Finishes, Tells, TellsLines, session_lines}
use Rattle.tao_base.specs.Session.{History}
use Rattle.tao_trace.proofs.WholeText.{text_is_printed}
use Rattle.taostore.proofs.Ends.{ends_with}

-- the texts of numbers in order
abbrev pub texts : (ℕ → List ℕ) → ℕ → List ℕ
texts f n = flat_map f (range_with_len 0 n)

-- the first of them are a prefix
more_texts : (f : ℕ → List ℕ) (i left : ℕ) → (rest : List ℕ) × (texts f (i + left) ≡ texts f i ++ rest)
more_texts f i zero = ([], ap (texts f) (omega arith) ∙ sym (append-nil (texts f i)))
more_texts f i (suc left) =
    let before = more_texts f i left in (
      before.0 ++ f (i + left),
      ap (texts f) (omega arith) ∙ texts_more f 0 (i + left) (i + left) (omega arith) ∙ ap (λ (l : List ℕ). l ++ f (i + left)) before.1 ∙ append_assoc (texts f i) before.0 (f (i + left)),
    )

module _ {K : Type 0} (put : K → Option (List ℕ)) (faults : K → ℕ) where
  -- nothing was put
  pub puts_none : (a : K) → PutsAll put faults a a []
  puts_none a = record { whole = Appends-nil (put a); unfailed = refl }

  sent_whole : (sent more w0 w1 w2 done lines : List ℕ) → sent ++ w1 ≡ w0 ++ done → more ++ w2 ≡ w1 ++ lines → (sent ++ more) ++ w2 ≡ w0 ++ (done ++ lines)
  sent_whole sent more w0 w1 w2 done lines one two = append_assoc sent more w2
      ∙ ap (λ (l : List ℕ). sent ++ l) two
      ∙ sym (append_assoc sent w1 lines)
      ∙ ap (λ (l : List ℕ). l ++ lines) one
      ∙ append_assoc w0 done lines

  pub tells_then : (a b c : K) (w0 w1 w2 done lines : List ℕ) → Tells put faults a b (w0 ++ done) w1 → Tells put faults b c (w1 ++ lines) w2
      → Tells put faults a c (w0 ++ (done ++ lines)) w2
  tells_then a b c w0 w1 w2 done lines one two = record {
    sent = one.sent ++ two.sent;
    puts = puts_then put faults a b c one.sent two.sent one.puts two.puts;
    whole = sent_whole one.sent two.sent w0 w1 w2 done lines one.whole two.whole;
  }

  pub fails_then : (a b c : K) (w0 w1 done lines : List ℕ) → Tells put faults a b (w0 ++ done) w1 → PutsPart put faults b c (w1 ++ lines)
      → PutsPart put faults a c (w0 ++ (done ++ lines))
  fails_then a b c w0 w1 done lines one p =
      let whole : one.sent ++ (w1 ++ lines) ≡ w0 ++ (done ++ lines) =
      sym (append_assoc one.sent w1 lines) ∙ ap (λ (l : List ℕ). l ++ lines) one.whole ∙ append_assoc w0 done lines in
      subst (PutsPart put faults a c) whole (part_then put faults a b c one.sent (w1 ++ lines) one.puts p)

  -- of some lines the first were told; they are the first of more
  pub stops_sooner : (a b : K) (w0 w1 lines rest : List ℕ) (fault : StreamFault) → TellsLines put faults a b {T = Unit {0}} w0 w1 lines (Err fault)
      → TellsLines put faults a b {T = Unit {0}} w0 w1 (lines ++ rest) (Err fault)
  stops_sooner a b w0 w1 lines rest Failed p = subst (PutsPart put faults a b) (append_assoc w0 lines rest) (part_of_more put faults a b (w0 ++ lines) rest p)
  stops_sooner a b w0 w1 lines rest NoMemory t = (
    t.0,
    record { whole = t.1.whole; rest = t.1.rest ++ rest; front = ap (λ (l : List ℕ). l ++ rest) t.1.front ∙ append_assoc t.0 t.1.rest rest },
    t.2,
  )

  -- whole lines were told, and of those behind them the first
  pub stops_later : (a b c : K) (w0 w1 w2 done lines : List ℕ) (fault : StreamFault) → AreLines done → Tells put faults a b (w0 ++ done) w1
      → TellsLines put faults b c {T = Unit {0}} w1 w2 lines (Err fault) → TellsLines put faults a c {T = Unit {0}} w0 w2 (done ++ lines) (Err fault)
  stops_later a b c w0 w1 w2 done lines Failed whole told p = fails_then a b c w0 w1 done lines told p
  stops_later a b c w0 w1 w2 done lines NoMemory whole told t = (
    done ++ t.0,
    record {
      whole = more_lines done t.0 whole t.1.whole;
      rest = t.1.rest;
      front = ap (λ (l : List ℕ). done ++ l) t.1.front ∙ sym (append_assoc done t.0 t.1.rest);
    },
    tells_then a b c w0 w1 w2 done t.0 told t.2,
  )

  -- nothing of them was told
  pub stops_at_once : (a : K) (waited waits lines : List ℕ) → waits ≡ waited → TellsLines put faults a a {T = Unit {0}} waited waits lines (Err NoMemory)
  stops_at_once a waited waits lines same = (
    [],
    record { whole = inl refl; rest = lines; front = refl },
    record { sent = []; puts = puts_none a; whole = same ∙ sym (append-nil waited) },
  )

  -- one text more was told
  pub one_more_told : (a b c : K) (w0 w1 w2 : List ℕ) (f : ℕ → List ℕ) (i : ℕ) → Tells put faults a b (w0 ++ texts f i) w1
      → Tells put faults b c (w1 ++ f i) w2 → Tells put faults a c (w0 ++ texts f (i + 1)) w2
  one_more_told a b c w0 w1 w2 f i told one =
      subst (λ (l : List ℕ). Tells put faults a c (w0 ++ l) w2) (sym (texts_more f 0 i i (omega arith))) (tells_then a b c w0 w1 w2 (texts f i) (f i) told one)

  -- of the next text not all was told
  pub one_stopped : (a b c : K) (w0 w1 w2 : List ℕ) (f : ℕ → List ℕ) (i n : ℕ) (fault : StreamFault) → ((j : ℕ) → AreLines (f j)) → i < n
      → Tells put faults a b (w0 ++ texts f i) w1 → TellsLines put faults b c {T = Unit {0}} w1 w2 (f i) (Err fault)
      → TellsLines put faults a c {T = Unit {0}} w0 w2 (texts f n) (Err fault)
  one_stopped a b c w0 w1 w2 f i n fault lines below told stopped =
      let later = more_texts f (i + 1) (n - (i + 1)) in
      let whole : texts f n ≡ (texts f i ++ f i) ++ later.0 =
      ap (texts f) (omega arith) ∙ later.1 ∙ ap (λ (l : List ℕ). l ++ later.0) (texts_more f 0 i i (omega arith)) in
      let first = stops_sooner a c w0 w2 (texts f i ++ f i) later.0 fault
      (stops_later a b c w0 w1 w2 (texts f i) (f i) fault (each_lines f lines (range_with_len 0 i)) told stopped) in
      subst (λ (l : List ℕ). TellsLines put faults a c {T = Unit {0}} w0 w2 l (Err fault)) (sym whole) first

  -- what was told waits whole
  pub waits_more : (a : K) (waited waits lines : List ℕ) → waits ≡ waited ++ lines → Tells put faults a a (waited ++ lines) waits
  waits_more a waited waits lines same = record { sent = []; puts = puts_none a; whole = same }

  -- whole lines were told, and then more lines or the first of them
  pub told_then : (a b c : K) (w0 w1 w2 done lines : List ℕ) (result : Result (Unit {0}) StreamFault) → AreLines done → Tells put faults a b (w0 ++ done) w1
      → TellsLines put faults b c {T = Unit {0}} w1 w2 lines result → TellsLines put faults a c {T = Unit {0}} w0 w2 (done ++ lines) result
  told_then a b c w0 w1 w2 done lines (Ok u) whole told more = tells_then a b c w0 w1 w2 done lines told more
  told_then a b c w0 w1 w2 done lines (Err fault) whole told more = stops_later a b c w0 w1 w2 done lines fault whole told more

  -- what was told, and the end behind it
  pub finishes_told : (a b c : K) (text waits end : List ℕ) (status result : ℕ) → Tells put faults a b text waits → Finishes put faults b c status (waits ++ end) result
      → Finishes put faults a c status (text ++ end) result
  finishes_told a b c text waits end status result told (inl all) =
      inl (all.0, subst (PutsAll put faults a c) (sym (append_assoc told.sent waits end) ∙ ap (λ (l : List ℕ). l ++ end) told.whole) (puts_then put faults a b c told.sent (waits ++ end) told.puts all.1))
  finishes_told a b c text waits end status result told (inr part) =
      inr (part.0, subst (PutsPart put faults a c) (sym (append_assoc told.sent waits end) ∙ ap (λ (l : List ℕ). l ++ end) told.whole) (part_then put faults a b c told.sent (waits ++ end) told.puts part.1))

module _ {K : Type 0} (put : K → Option (List ℕ)) (faults : K → ℕ) where
  -- how a session's text ends, by how its lines were told; nothing waited before
  pub ends_done : (a b c : K) (waits : List ℕ) (h : History) (blocks : List (List ℕ)) (result : ℕ) → Tells put faults a b ([] ++ session_lines h blocks) waits
      → Finishes put faults b c 0 (waits ++ end_line Done) result → EndsAs put faults a c (SessionEnds h blocks) result
  ends_done a b c waits h blocks result told finished =
      ends_with put faults a c (SessionEnds h blocks) Done (session_lines h blocks ++ end_line Done) result
      (sym (text_is_printed h 0 (Some blocks) (end_line Done)))
      (finishes_told put faults a b c (session_lines h blocks) waits (end_line Done) 0 result told finished)

  pub ends_short : (a b c : K) (waited waits : List ℕ) (h : History) (blocks : List (List ℕ)) (result : ℕ) → waited ≡ []
      → TellsLines put faults a b {T = Unit {0}} waited waits (session_lines h blocks) (Err NoMemory)
      → Finishes put faults b c 8 (waits ++ end_line ends.NoMemory) result → EndsAs put faults a c (SessionEnds h blocks) result
  ends_short a b c waited waits h blocks result none told finished =
      ends_with put faults a c (SessionEnds h blocks) ends.NoMemory (told.0 ++ end_line ends.NoMemory) result
      (told.0, subst (AreFirstLines told.0) (sym (text_is_printed h 0 (Some blocks) [] ∙ append-nil (session_lines h blocks))) told.1, refl)
      (finishes_told put faults a b c told.0 waits (end_line ends.NoMemory) 8 result (subst (λ (l : List ℕ). Tells put faults a b (l ++ told.0) waits) none told.2) finished)

  pub ends_failed : (a b : K) (waited waits : List ℕ) (h : History) (blocks : List (List ℕ)) → waited ≡ []
      → TellsLines put faults a b {T = Unit {0}} waited waits (session_lines h blocks) (Err Failed) → EndsAs put faults a b (SessionEnds h blocks) 5
  ends_failed a b waited waits h blocks none told =
      ends_with put faults a b (SessionEnds h blocks) Done (session_lines h blocks ++ end_line Done) 5
      (sym (text_is_printed h 0 (Some blocks) (end_line Done)))
      (inr (refl, part_of_more put faults a b (session_lines h blocks) (end_line Done) (subst (λ (l : List ℕ). PutsPart put faults a b (l ++ session_lines h blocks)) none told)))

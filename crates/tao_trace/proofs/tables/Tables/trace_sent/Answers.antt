use Rattle.std.proofs.Common.{◌≡◌, ◌++◌, List, [], sym, ap, ◌∙◌, subst, arith, append-nil, inl, inr}
use Rattle.tao_model.specs.declared.trace.Request.{Request}
use Rattle.tao_model.specs.Trace.{again_of}
use Rattle.tao_trace.specs.Printing.{PrinterState, printed}
use Rattle.tao_trace.proofs.Traces.{no_row}
use Rattle.tao_trace.proofs.tables.Tables.trace_sent.Goals as goal
use Rattle.tao_trace.proofs.tables.Tables.trace_sent.Goals.{then-version-eq0-via-then-version-eq0, then-version-eq0-via-else-version-eq0+then-version-len}

no_more : (trace more : List Request) → more ≡ [] → trace ≡ trace ++ more
no_more trace more none = sym (ap (λ (l : List Request). trace ++ l) none ∙ append-nil trace)

pub returns-then-version-eq0 : goal.returns-then-version-eq0
returns-then-version-eq0 c = no_more _ _ (subst (λ (t : PrinterState). again_of (printed t) c.args.version ≡ []) c.self.view_is
    (no_row _ _ _ _ _ _ c.self.invariant.arrivals.follows c.self.invariant.writes
    (elim c.then-version-eq0.branch [
      | then-version-eq0-via-then-version-eq0 w ↦ inl w.if-version-eq0.true
      | then-version-eq0-via-else-version-eq0+then-version-len w ↦ inr (let len = c.self.inside.sent.ok.0 in omega arith)
    ])))

use Rattle.std.proofs.Common.{refl, ap, ◌∙◌}
use Rattle.tao_record.specs.State.{RecordState}
use Rattle.tao_trace.proofs.ToldRecord.{told_lawful}
use Rattle.tao_trace.proofs.tests.told.Goals as goal

pub returns-clause-lawful : goal.returns-clause-lawful
returns-clause-lawful c = told_lawful c.add_fault.new.self.history.opening c.add_fault.new.self.history.events
    (ap (λ (r : RecordState). r.history.opening) c.add_fault.ensures ∙ c.add_others.ensures.opening ∙ c.add_dones.ensures.opening ∙ c.add_arrivals.ensures.opening ∙ c.in_ok-record_of.ensures.opening)
    (rw (
      c.add_fault.ensures,
      c.add_others.ensures.events,
      c.add_dones.ensures.events,
      c.add_arrivals.ensures.events,
      c.in_ok-record_of.ensures.events,
      c.in_ok-from_slice.ensures,
      c.in_ok-bucket.ensures,
      c.in_ok-bucket-2.ensures,
      c.in_ok-bucket-3.ensures,
      c.in_ok-bucket-4.ensures,
      c.in_ok-bucket-5.ensures,
      c.in_ok-bucket-6.ensures,
    ) refl)

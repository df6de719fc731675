use Rattle.tao_base.specs.declared.session.Cause.TheVariants.{Link}
use Rattle.tao_desk.proofs.Scanned.{failed_scan}
use Rattle.tao_desk.proofs.desk.scan.Scan.fail.Goals as goal

pub invariant_of-self : goal.invariant_of-self
invariant_of-self g c = failed_scan c.self.inside.desk (Link c.args.link) c.self.invariant c.fail.ensures.state

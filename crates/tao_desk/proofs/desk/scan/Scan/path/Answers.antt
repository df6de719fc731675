use Rattle.std.proofs.Common.{◌+◌, ◌^◌, map, vec_capacity, sym, ap, subst}
use Rattle.tao_desk.specs.declared.seeing.Seen.{Seen}
use Rattle.tao_desk.specs.Scanning.{ScanState, IsScan, TakesLeaf}
use Rattle.tao_desk.specs.State.{DeskState}
use Rattle.tao_desk.proofs.Scanned.{refused_scan}
use Rattle.tao_desk.proofs.desk.scan.Scan.path.Goals as goal

pub invariant_of-self : goal.invariant_of-self
invariant_of-self g c =
    subst (λ (s : Seen). IsScan c.read_new.new.self.history c.self.inside.next (map (λ bucket. bucket.value) s.taken.items) s.values.items s.known.items (vec_capacity s.taken)) (sym c.in_err-read_new.ensures.err)
    (refused_scan (2 ^ 32 + c.self.inside.next) c.self.inside.desk c.read_new.new.self c.in_err-read_new.field-0.0 c.self.invariant c.in_err-read_new.ensures.refused)

pub returns-clause-ok : goal.returns-clause-ok
returns-clause-ok g c =
    subst (λ (s : ScanState). TakesLeaf s (record { desk = c.read_new.new.self; next = c.self.inside.next + 1; taken = map (λ bucket. bucket.value) c.read_new.new.seen.taken.items }) c.args.path.now) c.self.view_is
    (record {
      read = c.in_ok-read_new.ensures.read;
      state = ap (λ (d : DeskState). record { desk = d; next = c.self.inside.next + 1; taken = map (λ bucket. bucket.value) c.read_new.new.seen.taken.items }) c.in_ok-read_new.ensures.ok;
    })

use Rattle.tao_images.proofs.Refusals.{refused_node}
use Rattle.tao_images.proofs.laws.refusal_means.Goals as goal

pub returns : goal.returns
returns c = refused_node

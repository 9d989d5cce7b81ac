use Rattle.plan_build.proofs.DocumentsAsNodes.{documents_are_nodes}
use Rattle.plan_build.proofs.laws.documents_are_nodes.Goals as goal

pub returns : goal.returns
returns c = λ p place o own response. documents_are_nodes p place o own response

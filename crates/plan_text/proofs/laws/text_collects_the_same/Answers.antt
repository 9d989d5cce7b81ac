use Rattle.plan_collect.proofs.Collects.{text_collects_the_same}
use Rattle.plan_text.proofs.laws.text_collects_the_same.Goals as goal

pub returns : goal.returns
returns c = λ p o place own depth. text_collects_the_same p o place own depth

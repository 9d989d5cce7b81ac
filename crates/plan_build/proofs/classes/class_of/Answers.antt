-- The types are sorted.
use Rattle.plan_ir.proofs.gql_plain_laws.SortedTexts.{AreSortedOf-is}
use Rattle.plan_build.specs.ClassView.{target_view}
use Rattle.plan_build.proofs.classes.class_of.Goals as goal

pub returns : goal.returns
returns c = λ i. record { target = target_view c.args.group.target; types = AreSortedOf-is c.args.group.types.items c.in_ok-types.types c.in_ok-types.ensures i }

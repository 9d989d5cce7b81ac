-- Nothing is known, and one more name.
use Rattle.std.proofs.Common.{List, Option, sym, subst}
use Rattle.doc_sites.specs.schema_types.ArgumentRules.{Use}
use Rattle.doc_uses.specs.Needs.{Sums}
use Rattle.doc_uses.proofs.needs.Needs.of.Goals as goal

pub names-init : goal.names-init
names-init c = λ next t uses g n. subst (λ (o : Option (List Use)). Sums c.new-needs.result (uses n) (next n) o) (sym (c.new-needs.ensures n)) tt

pub names-preserved : goal.names-preserved
names-preserved c = λ next t uses g. c.in_ok-sum_up.ensures next t uses g (c.names.invariant next t uses g)

pub returns : goal.returns
returns c = λ next t uses g. c.names.invariant next t uses g

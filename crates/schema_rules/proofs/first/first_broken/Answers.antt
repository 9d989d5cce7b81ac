-- The rules in their three parts.
use Rattle.std.proofs.Common.{◌≡◌, ◌++◌, map, sym, ◌∙◌}
use Rattle.std.proofs.lemmas.Result.{IfOk-weaker}
use Rattle.schema_rules.specs.First.{first_rules, later_rules, last_rules}
use Rattle.schema_trees.specs.LocatedView.{def_of}
use Rattle.schema_rules.specs.Rules as rules
use Rattle.gql_graph.proofs.LeastSteps.{first_before, first_after}
use Rattle.schema_rules.proofs.first.first_broken.Goals as goal

pub returns-in-Some : goal.returns-in-Some
returns-in-Some c =
    let ds = map def_of c.args.definitions.now in
    let defs = c.args.tables.now in
    sym (first_before (first_rules defs ds) (later_rules defs ds ++ last_rules defs ds) c.in-Some.found (sym c.in_ok-found.ensures ∙ c.in-Some.is))

pub returns-in-Some-2 : goal.returns-in-Some-2
returns-in-Some-2 c =
    let ds = map def_of c.args.definitions.now in
    let defs = c.args.tables.now in
    sym (first_after (first_rules defs ds) (later_rules defs ds ++ last_rules defs ds) (sym c.in_ok-found.ensures ∙ c.in_default.is)
    ∙ first_before (later_rules defs ds) (last_rules defs ds) c.in-Some-2.found (sym c.in_ok-found-2.ensures ∙ c.in-Some-2.is))

pub returns : goal.returns
returns c =
    let ds = map def_of c.args.definitions.now in
    let defs = c.args.tables.now in
    IfOk-weaker c.first_of_values.result (λ found. found ≡ rules.first_broken (last_rules defs ds)) (λ found. found ≡ rules.first_broken (rules.rules defs ds))
    (λ found e. e ∙ sym (first_after (first_rules defs ds) (later_rules defs ds ++ last_rules defs ds) (sym c.in_ok-found.ensures ∙ c.in_default.is)
    ∙ first_after (later_rules defs ds) (last_rules defs ds) (sym c.in_ok-found-2.ensures ∙ c.in_default-2.is))) c.first_of_values.ensures

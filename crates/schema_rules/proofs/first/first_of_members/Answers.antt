-- Each rule is settled.
use Rattle.std.proofs.Common.{ℕ, List, [], drop, map, Option, ap, sym, ◌∙◌}
use Rattle.gql_graph.specs.Rules.{first_from}
use Rattle.gql_graph.proofs.LeastSteps.{found_before, found_last, noted_alone}
use Rattle.schema_trees.specs.Located.{DefAt}
use Rattle.schema_trees.specs.LocatedView.{def_of}
use Rattle.schema_trees.specs.schema_tables.Types.{Defs}
use Rattle.schema_rules.specs.First.{later_rules}
use Rattle.schema_rules.specs.Rules as rules
use Rattle.schema_rules.specs.declared.fault.Rule.{Rule}
use Rattle.schema_rules.proofs.first.first_of_members.Goals as goal

pub returns : goal.returns
returns c =
    let ds : List DefAt = map def_of c.args.definitions.now in
    let defs : Defs = c.args.tables.now in
    found_last c.settle-4.new.self.found
    ∙ c.settle-4.ensures (rules.interfaces_not_implemented defs ds) (drop 4 (later_rules defs ds)) (noted_alone (rules.interfaces_not_implemented defs ds) _ _ c.new-fields.ensures c.in_ok-interfaces_not_implemented.ensures)
    ∙ c.settle-3.ensures (rules.interfaces_wrong defs ds) (drop 3 (later_rules defs ds)) (noted_alone (rules.interfaces_wrong defs ds) _ _ c.new-interfaces.ensures c.in_ok-interfaces_wrong.ensures)
    ∙ c.settle-2.ensures (rules.kinds_wrong defs ds) (drop 2 (later_rules defs ds)) (noted_alone (rules.kinds_wrong defs ds) _ _ c.new-kinds.ensures c.in_ok-kinds_wrong.ensures)
    ∙ c.settle.ensures (rules.members_not_unique ds) (drop 1 (later_rules defs ds)) (noted_alone (rules.members_not_unique ds) _ _ c.new-repeated.ensures c.in_ok-members_not_unique.ensures)
    ∙ ap (λ (o : Option (Rule × ℕ)). first_from o (later_rules defs ds)) c.new-first.ensures

pub returns-then-is_some : goal.returns-then-is_some
returns-then-is_some c =
    let ds : List DefAt = map def_of c.args.definitions.now in
    let defs : Defs = c.args.tables.now in
    found_last c.settle-3.new.self.found
    ∙ found_before c.settle-3.new.self.found [] (drop 3 (later_rules defs ds)) (sym c.is_some.ensures ∙ c.if-is_some.true)
    ∙ c.settle-3.ensures (rules.interfaces_wrong defs ds) (drop 3 (later_rules defs ds)) (noted_alone (rules.interfaces_wrong defs ds) _ _ c.new-interfaces.ensures c.in_ok-interfaces_wrong.ensures)
    ∙ c.settle-2.ensures (rules.kinds_wrong defs ds) (drop 2 (later_rules defs ds)) (noted_alone (rules.kinds_wrong defs ds) _ _ c.new-kinds.ensures c.in_ok-kinds_wrong.ensures)
    ∙ c.settle.ensures (rules.members_not_unique ds) (drop 1 (later_rules defs ds)) (noted_alone (rules.members_not_unique ds) _ _ c.new-repeated.ensures c.in_ok-members_not_unique.ensures)
    ∙ ap (λ (o : Option (Rule × ℕ)). first_from o (later_rules defs ds)) c.new-first.ensures

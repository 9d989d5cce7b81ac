-- Whether a schema meets all rules, and else the first one that it does not, with the number of the node.
use Rattle.std.specs.Prelude.{◌≡◌, ℕ, Option, Some, None}
use Rattle.std.specs.List.{filter}
use Rattle.schema_rules.specs.declared.fault.Rule.{Rule}
use Rattle.schema_rules.specs.declared.fault.RuleFault.{RuleFault}
use Rattle.schema_rules.specs.declared.fault.RuleFault.TheVariants as F
use Rattle.schema_trees.specs.Located.{locate}
use Rattle.schema_rules.specs.Rules.{has_effect, rules, first_broken}
use Rattle.schema_trees.specs.schema_tables.Types.{Defs}

-- the first rule that does not hold, and the number of the node where it does not
abbrev pub first_fault : Defs → Option (Rule × ℕ)
first_fault defs = first_broken (rules defs (filter has_effect (locate defs)))

abbrev pub IsSound : Defs → Type 0
IsSound defs = first_fault defs ≡ None

-- the fault of a schema that breaks a rule
abbrev pub IsRuleFault : Defs → RuleFault → Type 0
IsRuleFault defs F.NoMemory = Unit {0}
IsRuleFault defs (F.Rule f) = first_fault defs ≡ Some (f.rule, f.node)

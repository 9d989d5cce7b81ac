-- The rules in three parts.
use Rattle.std.specs.Prelude.{ℕ, List, [], ◌∷◌}
use Rattle.schema_trees.specs.Located.{DefAt}
use Rattle.schema_rules.specs.Rules.{names_not_unique, types_not_defined, root_types_wrong, names_reserved, members_not_unique, kinds_wrong, interfaces_wrong, interfaces_not_implemented, members_missing, inputs_need_themselves, defaults_wrong, composites_in_lists}
use Rattle.schema_trees.specs.schema_tables.Types.{Defs}
use Rattle.schema_rules.specs.declared.fault.Rule.{Rule}
use Rattle.schema_rules.specs.declared.fault.Rule.TheVariants as R

-- S1 to S4
abbrev pub first_rules : Defs → List DefAt → List (Rule × List ℕ)
first_rules defs ds = (R.S1, names_not_unique ds) ∷ (R.S2, types_not_defined defs ds) ∷ (R.S3, root_types_wrong defs ds) ∷ (R.S4, names_reserved ds) ∷ []

-- S5 to S8
abbrev pub later_rules : Defs → List DefAt → List (Rule × List ℕ)
later_rules defs ds = (R.S5, members_not_unique ds) ∷ (R.S6, kinds_wrong defs ds) ∷ (R.S7, interfaces_wrong defs ds) ∷ (R.S8, interfaces_not_implemented defs ds) ∷ []

-- S9 to S12
abbrev pub last_rules : Defs → List DefAt → List (Rule × List ℕ)
last_rules defs ds = (R.S9, members_missing defs ds) ∷ (R.S10, inputs_need_themselves defs ds) ∷ (R.S11, defaults_wrong defs ds) ∷ (R.S12, composites_in_lists defs ds) ∷ []

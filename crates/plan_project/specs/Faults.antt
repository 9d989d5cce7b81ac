-- The fault of a rule at the place of a node.
use Rattle.std.specs.Prelude.{◌≡◌, ℕ, zero, suc, List, [], ◌∷◌, Option, Some, None}
use Rattle.plan_ir.specs.gql_ast.declared.place.FilePlace.{FilePlace}
use Rattle.plan_project.specs.declared.fault.ProjectFault.{ProjectFault}
use Rattle.plan_ir.specs.schema_rules.declared.fault.Rule.{Rule}

-- the place of a node by its number, where there is a node of that number
abbrev pub place_at : List FilePlace → ℕ → Option FilePlace
place_at [] n = None
place_at (p ∷ ps) zero = Some p
place_at (p ∷ ps) (suc n) = place_at ps n

abbrev pub fault_at : FilePlace → Rule → ProjectFault
fault_at p r = record { file = p.file; line = p.line; column = p.column; rule = r }

-- the fault of this rule, at the place of this node
pub record IsAt (places : List FilePlace) (rule : Rule) (node : ℕ) (f : ProjectFault) : Type 0 where
  pub place : FilePlace
  pub there : place_at places node ≡ Some place
  pub fault : f ≡ fault_at place rule

-- a rule and a node are found, and this is the fault of that rule at the place of that node
pub record IsFound (found : Option (Rule × ℕ)) (places : List FilePlace) (f : ProjectFault) : Type 0 where
  pub rule : Rule
  pub node : ℕ
  pub first : found ≡ Some (rule, node)
  pub at : IsAt places rule node f

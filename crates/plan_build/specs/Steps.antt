-- Which steps come of nodes, where the objects are of these types.
use Rattle.std.specs.Prelude.{Bool, true, false, cond, List, [], ◌∷◌, codes, Option, Some, None, bytes_eq}
use Rattle.std.specs.List.{filter, list_all}
use Rattle.plan_ir.specs.gql_ast.Value.{Val}
use Rattle.plan_ir.specs.gql_plain.Order.{has_text}
use Rattle.plan_ir.specs.gql_plain.declared.ids.Conn.{Conn}
use Rattle.plan_ir.specs.Additions.{is_abstract}
use Rattle.plan_ir.specs.Nodes as nodes
use Rattle.plan_ir.specs.Nodes.{Nodes}
use Rattle.plan_ir.specs.Normal.{Normal, done, typename, leaf, object, guarded, normal_append}
use Rattle.plan_ir.specs.declared.expanded.Expanded.{Expanded}
use Rattle.plan_ir.specs.declared.guard.Condition.{Condition}
use Rattle.plan_ir.specs.schema_tables.Types.{Text, Defs, base_of, has_id, is_composite, possible}
use Rattle.plan_build.specs.Classes.{Class, Target, classes_of}
use Rattle.plan_build.specs.Conditions.{conditions_of}

-- ---- guards

-- steps behind a guard; nothing to test is no guard
abbrev pub behind : (types : Option (List Text)) → List Condition → Normal → Normal
behind None [] child = child
behind types conditions child = guarded (record { types = types; conditions = conditions }) child done

-- ---- fields

-- a field as its node has it, with what stands below it on these object types
pub record FieldNode : Type 0 where
  pub response : Text
  pub name : Text
  pub arguments : List (Text × Val)
  pub connection : Option Conn

abbrev pub identified : Defs → (of : Text) → List Text
identified defs t = filter (has_id defs) (possible defs t)

abbrev pub leaf_step : FieldNode → Normal
leaf_step f = leaf f.response f.name f.arguments done

abbrev pub object_step : Defs → FieldNode → Target → (child : Normal) → Normal
object_step defs f t child =
    object f.response f.name f.arguments t.many (possible defs t.base) (identified defs t.base) (is_abstract defs t.base) f.connection child done

-- whichever type the field leads to here, the same stands below
abbrev pub target_step : Defs → FieldNode → (child : Normal) → Target → Normal
target_step defs f child t = cond (is_composite defs t.base) (object_step defs f t child) (leaf_step f)

-- a step for each class
abbrev pub guarded_classes : (step : Target → Normal) → List Class → Normal
guarded_classes step [] = done
guarded_classes step (c ∷ cs) = guarded (record { types = Some c.types; conditions = [] }) (step c.target) (guarded_classes step cs)

-- one class alone wants no guard
abbrev pub class_steps : (step : Target → Normal) → List Class → Normal
class_steps step (c ∷ []) = step c.target
class_steps step cs = guarded_classes step cs

abbrev pub field_steps : Defs → List Text → FieldNode → (child : Normal) → Normal
field_steps defs ts f child =
    cond (bytes_eq f.name (codes "__typename")) (typename f.response done) (class_steps (target_step defs f child) (classes_of defs f.name ts))

-- ---- inline fragments

abbrev pub are_within : (types : List Text) → List Text → Bool
are_within ids ts = list_all (λ T. has_text ids T) ts

abbrev pub is_one : List Text → Bool
is_one (T ∷ []) = true
is_one ts = false

-- where each type around is of the fragment's type there is no test of types; where it is one type alone that is not, nothing is taken
abbrev pub on_steps : Defs → List Text → (on : Text) → List Condition → (below : List Text → Normal) → Normal
on_steps defs ts o cs below =
    cond (are_within (possible defs o) ts) (behind None cs (below ts)) (cond (is_one ts) done (behind (Some (possible defs o)) cs (below (possible defs o))))

abbrev pub inline_steps : Defs → List Text → (on : Option Text) → List Condition → (below : List Text → Normal) → Normal
inline_steps defs ts None cs below = behind None cs (below ts)
inline_steps defs ts (Some o) cs below = cond (is_composite defs o) (on_steps defs ts o cs below) done

-- ---- nodes

-- the object types that a field of this static type may lead to: none where it is no composite type
abbrev pub types_at : Defs → (type : Text) → List Text
types_at defs t = cond (is_composite defs t) (possible defs t) []

-- what stands below a field is planned once, for the types that its static type may be
abbrev pub steps_of : Defs → List Text → Nodes → Normal
steps_of defs ts nodes.end = done
steps_of defs ts (nodes.field r n xs ds c of s p rest) =
    normal_append (behind None (conditions_of ds) (field_steps defs ts (record { response = r; name = n; arguments = xs; connection = c }) (steps_of defs (types_at defs (base_of of)) s)))
    (steps_of defs ts rest)
steps_of defs ts (nodes.inline o ds s p rest) = normal_append (inline_steps defs ts o (conditions_of ds) (λ us. steps_of defs us s)) (steps_of defs ts rest)

-- the plan of an operation: its root is one object type
abbrev pub plan_of : Defs → Expanded → Normal
plan_of defs e = steps_of defs (e.root ∷ []) e.selections

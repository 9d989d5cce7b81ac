-- Where documents meet the rules, the default of each local variable of each fragment is a constant.
use Rattle.std.proofs.Common.{◌≡◌, ℕ, Bool, true, false, true≢false, cond, List, [], ◌∷◌, ◌++◌, Option, Some, None, sym}
use Rattle.std.specs.List.{AllByRecursion}
use Rattle.plan_ir.specs.gql_ast.Value.{Val}
use Rattle.plan_ir.specs.gql_ast.declared.document.Document.{Document}
use Rattle.plan_ir.specs.gql_ast.declared.place.Placed.{Placed}
use Rattle.plan_ir.specs.gql_graph.Rules.{each}
use Rattle.plan_build.proofs.CovarianceLists.{all_hold, all_joined, all_parts, first_true, none_each, none_first, none_then, right, then_true}
use Rattle.plan_build.proofs.SuitedNodes.{fragment_holds}
use Rattle.plan_build.specs.Laws.{MeetsRules, definitions}
use Rattle.plan_read.specs.Constants.{HaveConstants, IsConstant}
use Rattle.plan_read.specs.Laws.{LocalsOfDocumentsAreConstant}
use Rattle.plan_ir.specs.relay_marks.Locals.{Local, as_list, defines_locals, local_at, local_of, locals_at, locals_of}
use Rattle.plan_build.specs.relay_rules.RelayRules.{document_rules, default_fits, directives_of_fragment, is_good_local, local_wrong, locals_wrong, locals_wrong_in, relay_rules}
use Rattle.plan_ir.specs.schema_rules.declared.fault.Rule.{Rule}
use Rattle.plan_ir.specs.schema_tables.Fits.{literal_fits}
use Rattle.plan_ir.specs.schema_tables.Types.{Defs}
use Rattle.plan_ir.specs.schema_types.ArgumentRules.{is_input_type}
use Rattle.plan_ir.specs.schema_types.DocumentRules.{argument_rules, field_rules, name_rules}
use Rattle.plan_ir.specs.schema_types.NameRules.{fragments}
use Rattle.plan_ir.specs.schema_types.Sites.{ArgumentAt, DefinitionAt, DirectiveAt, FragmentAt, fragment, operation}
use Rattle.plan_ir.specs.constant_values.Fittings.{is_constant}

module _ (defs : Defs) where
  default_constant : (l : Local) → default_fits defs l.of l.default ≡ true → IsConstant l.default
  default_constant l e = on l.default e where
    on : (d : Option Val) → default_fits defs l.of d ≡ true → IsConstant d
    on None e = tt
    on (Some x) e = first_true (is_constant x) (literal_fits defs x l.of) e

  argument_constant : (x : ArgumentAt) → local_wrong defs x ≡ [] → HaveConstants (local_at x)
  argument_constant x e = on (local_of x.name.name x.value.of) (right (is_good_local defs (local_of x.name.name x.value.of)) x.name.at e) where
    on : (o : Option Local) → is_good_local defs o ≡ true → HaveConstants (as_list o)
    on None g = absurd (true≢false (sym g))
    on (Some l) g = (default_constant l (then_true (is_input_type defs l.of) (default_fits defs l.of l.default) g), tt)

  arguments_constant : (xs : List ArgumentAt) → each (local_wrong defs) xs ≡ [] → HaveConstants (each local_at xs)
  arguments_constant [] e = tt
  arguments_constant (x ∷ xs) e =
      all_joined (λ (l : Local). IsConstant l.default) (local_at x) (each local_at xs) (argument_constant x (none_first (local_wrong defs x) (each (local_wrong defs) xs) e))
      (arguments_constant xs (none_then (local_wrong defs x) (each (local_wrong defs) xs) e))

  directive_constant : (d : DirectiveAt) → locals_wrong_in defs d ≡ [] → HaveConstants (locals_at d)
  directive_constant d e = on (defines_locals d.name.name) e where
    on : (b : Bool) → cond b (each (local_wrong defs) d.arguments) [] ≡ [] → HaveConstants (cond b (each local_at d.arguments) [])
    on true e = arguments_constant d.arguments e
    on false e = tt

  directives_constant : (ds : List DirectiveAt) → each (locals_wrong_in defs) ds ≡ [] → HaveConstants (locals_of ds)
  directives_constant [] e = tt
  directives_constant (d ∷ ds) e =
      all_joined (λ (l : Local). IsConstant l.default) (locals_at d) (locals_of ds) (directive_constant d (none_first (locals_wrong_in defs d) (each (locals_wrong_in defs) ds) e))
      (directives_constant ds (none_then (locals_wrong_in defs d) (each (locals_wrong_in defs) ds) e))

  fragments_constant : (ds : List DefinitionAt) → AllByRecursion (λ d. each (locals_wrong_in defs) (directives_of_fragment d) ≡ []) ds
      → AllByRecursion (λ (f : FragmentAt). HaveConstants (locals_of f.directives)) (fragments ds)
  fragments_constant [] h = tt
  fragments_constant (operation o ∷ ds) h = fragments_constant ds h.1
  fragments_constant (fragment f ∷ ds) h = (directives_constant f.directives h.0, fragments_constant ds h.1)

-- V17
locals_meet : (defs : Defs) (ps : List (Placed Document)) → MeetsRules defs ps → locals_wrong defs (definitions defs ps) ≡ []
locals_meet defs ps meet =
    let ds : List DefinitionAt = definitions defs ps in
    let names = all_parts (λ (r : Rule × List ℕ). r.1 ≡ []) (name_rules defs ds) (field_rules defs ds ++ (argument_rules defs ds ++ relay_rules defs ds)) (all_hold (document_rules defs ds) meet) in
    let fields = all_parts (λ (r : Rule × List ℕ). r.1 ≡ []) (field_rules defs ds) (argument_rules defs ds ++ relay_rules defs ds) names.1 in
    (all_parts (λ (r : Rule × List ℕ). r.1 ≡ []) (argument_rules defs ds) (relay_rules defs ds) fields.1).1.0

pub locals_are_constant : LocalsOfDocumentsAreConstant
locals_are_constant defs ps place meet n f found =
    let ds : List DefinitionAt = definitions defs ps in
    fragment_holds (λ (g : FragmentAt). HaveConstants (locals_of g.directives)) (fragments ds) n f
    (fragments_constant defs ds (none_each (λ d. each (locals_wrong_in defs) (directives_of_fragment d)) ds (locals_meet defs ps meet))) found

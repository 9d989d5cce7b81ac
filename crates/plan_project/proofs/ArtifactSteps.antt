-- The line of a definition by its number.
use Rattle.std.proofs.Common.{◌≡◌, ◌<◌, ◌≤◌, ℕ, zero, suc, List, [], ◌∷◌, length, map, get_or, false, Option, Some, None, option_map, refl, sym, ap, subst, ◌∙◌, arith}
use Rattle.std.specs.List.{AllByRecursion}
use Rattle.plan_read.specs.doc_sites.SitesView.{definition_of}
use Rattle.plan_read.specs.doc_sites.declared.site.DefinitionAt as code
use Rattle.plan_ir.specs.gql_ast.declared.document.Document.{Document}
use Rattle.plan_ir.specs.gql_ast.declared.place.Placed.{Placed}
use Rattle.plan_ir.specs.gql_graph.Rules.{first_broken}
use Rattle.plan_read.specs.plan_expand.Answers.{whole_in, whole_is}
use Rattle.plan_ir.specs.Projects.{definitions_in, project}
use Rattle.plan_ir.specs.Expansion.{Whole, operation_named, whole_operation}
use Rattle.plan_ir.specs.Sizes.{has_too_many_nodes, is_too_deep}
use Rattle.plan_ir.specs.declared.form.Form.TheVariants as F
use Rattle.plan_project.proofs.Accepting.{holds, rest_holds}
use Rattle.plan_project.proofs.LeastLaws.{nothing_first, nothing_then}
use Rattle.plan_project.proofs.NotingLaws.{limits_by}
use Rattle.plan_project.proofs.SoundProjects.{operation_found}
use Rattle.plan_project.specs.Expansions.{IsWithinLimits, lines_at, line_lists, size_rules, too_deep, too_many, whole_of_operation}
use Rattle.plan_ir.specs.schema_rules.declared.fault.Rule.TheVariants as R
use Rattle.plan_ir.specs.schema_tables.Types.{Text, Defs}
use Rattle.plan_ir.specs.schema_types.NameRules.{operations}
use Rattle.plan_ir.specs.schema_types.Sites.{DefinitionAt, OperationAt, operation, fragment}

-- an element of a list that is seen through a function
pub element_of : {X A : Type 0} (view : X → A) (xs : List X) (i : ℕ) (x : X) (d : A) → i < length xs → x ≡ get_or xs i x → get_or (map view xs) i d ≡ view x
element_of view [] i x d h e = absurd (omega arith)
element_of view (y ∷ xs) zero x d h e = sym (ap view e)
element_of view (y ∷ xs) (suc i) x d h e = element_of view xs i x d (omega arith) e

pub none_behind : {A : Type 0} (xs : List A) (i : ℕ) (d : A) → length xs ≤ i → get_or xs i d ≡ d
none_behind [] i d h = refl
none_behind (x ∷ xs) zero d h = absurd (omega arith)
none_behind (x ∷ xs) (suc i) d h = none_behind xs i d (omega arith)

module _ (defs : Defs) (ps : List (Placed Document)) where
  -- where no definition breaks E1 or E2, each is within the limits
  limits_in : (xs : List code.DefinitionAt) (i : ℕ) (x : code.DefinitionAt) → too_many defs ps (map definition_of xs) ≡ [] → too_deep defs ps (map definition_of xs) ≡ []
      → i < length xs → x ≡ get_or xs i x → IsWithinLimits defs ps (definition_of x)
  limits_in [] i x m d h e = absurd (omega arith)
  limits_in (y ∷ xs) zero x m d h e = subst (λ z. IsWithinLimits defs ps (definition_of z)) (sym e) (limits_by defs ps (definition_of y) (nothing_first _ (too_many defs ps (map definition_of xs)) m) (nothing_first _ (too_deep defs ps (map definition_of xs)) d))
  limits_in (y ∷ xs) (suc i) x m d h e =
      limits_in xs i x (nothing_then _ (too_many defs ps (map definition_of xs)) m) (nothing_then _ (too_deep defs ps (map definition_of xs)) d) (omega arith) e

  pub limits_at : (xs : List code.DefinitionAt) (i : ℕ) (x : code.DefinitionAt) → map definition_of xs ≡ definitions_in defs ps → first_broken (size_rules defs ps) ≡ None
      → i < length xs → x ≡ get_or xs i x → IsWithinLimits defs ps (definition_of x)
  limits_at xs i x are small h e =
      let all = definitions_in defs ps in
      let m : too_many defs ps all ≡ [] = holds R.E1 (too_many defs ps all) ((R.E2, too_deep defs ps all) ∷ []) small in
      let d : too_deep defs ps all ≡ [] = holds R.E2 (too_deep defs ps all) [] (rest_holds R.E1 (too_many defs ps all) ((R.E2, too_deep defs ps all) ∷ []) small) in
      limits_in xs i x (ap (too_many defs ps) are ∙ m) (ap (too_deep defs ps) are ∙ d) h e

  lists_of : (xs : List code.DefinitionAt) → map (λ x. lines_at defs ps (definition_of x)) xs ≡ map (lines_at defs ps) (map definition_of xs)
  lists_of [] = refl
  lists_of (x ∷ xs) = ap (λ ls. lines_at defs ps (definition_of x) ∷ ls) (lists_of xs)

  -- the lines, by the definitions that are listed
  pub lists_are : (xs : List code.DefinitionAt) → map definition_of xs ≡ definitions_in defs ps → map (λ x. lines_at defs ps (definition_of x)) xs ≡ line_lists defs ps
  lists_are xs are = lists_of xs ∙ ap (map (lines_at defs ps)) are

  pub line_is : (xs : List code.DefinitionAt) (i : ℕ) (x : code.DefinitionAt) → map definition_of xs ≡ definitions_in defs ps → i < length xs → x ≡ get_or xs i x
      → lines_at defs ps (definition_of x) ≡ get_or (line_lists defs ps) i []
  line_is xs i x are h e =
      sym (element_of (λ (y : code.DefinitionAt). lines_at defs ps (definition_of y)) xs i x [] h e) ∙ ap (λ ls. get_or ls i []) (lists_are xs are)

  same_length : (xs : List code.DefinitionAt) → length (map (λ (y : code.DefinitionAt). lines_at defs ps (definition_of y)) xs) ≡ length xs
  same_length [] = refl
  same_length (x ∷ xs) = ap suc (same_length xs)

  pub lists_length : (xs : List code.DefinitionAt) → map definition_of xs ≡ definitions_in defs ps → length xs ≡ length (line_lists defs ps)
  lists_length xs are = sym (same_length xs) ∙ ap length (lists_are xs are)

  pub no_line : (xs : List code.DefinitionAt) (i : ℕ) → map definition_of xs ≡ definitions_in defs ps → length xs ≤ i → [] ≡ get_or (line_lists defs ps) i []
  no_line xs i are h = let same = lists_length xs are in sym (none_behind (line_lists defs ps) i [] (omega (arith, h, same)))

  -- ---- the operation of a name

  abbrev Limits : Option Whole → Type 0
  Limits w = (whole_is has_too_many_nodes w ≡ false) × (whole_is is_too_deep w ≡ false)

  -- each operation is within the limits
  all_within : (es : List DefinitionAt) → too_many defs ps es ≡ [] → too_deep defs ps es ≡ [] → AllByRecursion (λ (o : OperationAt). Limits (whole_of_operation defs ps o.name)) (operations es)
  all_within [] m d = tt
  all_within (operation o ∷ es) m d = (
    limits_by defs ps (operation o) (nothing_first _ (too_many defs ps es) m) (nothing_first _ (too_deep defs ps es) d),
    all_within es (nothing_then _ (too_many defs ps es) m) (nothing_then _ (too_deep defs ps es) d),
  )
  all_within (fragment f ∷ es) m d = all_within es (nothing_then _ (too_many defs ps es) m) (nothing_then _ (too_deep defs ps es) d)

  -- so the operation of a name is within them
  pub limits_named : (n : Text) → first_broken (size_rules defs ps) ≡ None → Limits (whole_in defs ps F.Operation n)
  limits_named n small = at (operation_named (operations all) n) refl
    where
      all : List DefinitionAt
      all = definitions_in defs ps

      within : AllByRecursion (λ (o : OperationAt). Limits (whole_of_operation defs ps o.name)) (operations all)
      within =
          all_within all (holds R.E1 (too_many defs ps all) ((R.E2, too_deep defs ps all) ∷ []) small)
          (holds R.E2 (too_deep defs ps all) [] (rest_holds R.E1 (too_many defs ps all) ((R.E2, too_deep defs ps all) ∷ []) small))

      at : (found : Option OperationAt) → operation_named (operations all) n ≡ found → Limits (whole_in defs ps F.Operation n)
      at None e = (
        ap (λ (f : Option OperationAt). whole_is has_too_many_nodes (option_map (whole_operation (project defs ps)) f)) e,
        ap (λ (f : Option OperationAt). whole_is is_too_deep (option_map (whole_operation (project defs ps)) f)) e,
      )
      at (Some o) e =
          let two = operation_found (λ (q : OperationAt). Limits (whole_of_operation defs ps q.name)) (operations all) n o within e in
          subst (λ k. Limits (whole_in defs ps F.Operation k)) two.1.same (subst (λ l. Limits (whole_of_operation defs ps l)) two.1.is two.0)

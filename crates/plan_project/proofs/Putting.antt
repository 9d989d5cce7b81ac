-- One definition is put into a table, under its name.
use Rattle.std.proofs.Common.{◌≡◌, true, cond, Option, Some, None, is_some, bytes_eq, ap, sym, subst, ◌∙◌}
use Rattle.plan_ir.specs.gql_ast.declared.document.Definition.{Definition}
use Rattle.plan_ir.specs.gql_ast.declared.document.Definition.TheVariants as D
use Rattle.plan_ir.specs.gql_ast.declared.document.Fragment.{Fragment}
use Rattle.plan_ir.specs.gql_ast.declared.document.Operation.{Operation}
use Rattle.plan_ir.proofs.gql_graph_laws.TextSteps.{same_self}
use Rattle.plan_project.proofs.Looking.{takes_nothing, takes_one}
use Rattle.plan_project.specs.Filling.{Takes, fragment_under, operation_by, operation_under, or_else}
use Rattle.plan_ir.specs.schema_tables.Types.{Text}

-- ---- operations

-- an operation is found under its own name
pub own_operation : (d : Definition) (o : Operation) (m : Text) → d ≡ D.Operation o → o.name ≡ Some m → is_some (operation_under m d) ≡ true
own_operation d o m e f =
    ap (λ x. is_some (operation_under m x)) e ∙ ap (λ (x : Option Text). is_some (operation_by m x o)) f ∙ ap (λ b. is_some (cond b (Some o) None)) (same_self m)

module _ {Y : Type 0} (P : Text → Operation → Y → Type 0) (d : Definition) (old : Text → Option Y) where
  pub operation_put : (o : Operation) (m key : Text) (y : Y) (new : Text → Option Y) → d ≡ D.Operation o → o.name ≡ Some m → key ≡ m
      → ((n : Text) → new n ≡ or_else (old n) (cond (bytes_eq key n) (Some y) None)) → P m o y → Takes P (λ n. operation_under n d) old new
  operation_put o m key y new e f g put p =
      subst (λ x. Takes P (λ n. operation_under n x) old new) (sym e)
      (subst (λ (x : Option Text). Takes P (λ n. operation_by n x o) old new) (sym f)
      (takes_one P old new m o y (λ n. put n ∙ ap (λ (k : Text). or_else (old n) (cond (bytes_eq k n) (Some y) None)) g) p))

  pub no_name : (o : Operation) → d ≡ D.Operation o → o.name ≡ None → Takes P (λ n. operation_under n d) old old
  no_name o e f =
      subst (λ x. Takes P (λ n. operation_under n x) old old) (sym e)
      (subst (λ (x : Option Text). Takes P (λ n. operation_by n x o) old old) (sym f) (takes_nothing P old))

  pub no_operation : (f : Fragment) → d ≡ D.Fragment f → Takes P (λ n. operation_under n d) old old
  no_operation f e = subst (λ x. Takes P (λ n. operation_under n x) old old) (sym e) (takes_nothing P old)

-- ---- fragments

-- a fragment is found under its own name
pub own_fragment : (d : Definition) (f : Fragment) → d ≡ D.Fragment f → is_some (fragment_under f.name d) ≡ true
own_fragment d f e = ap (λ x. is_some (fragment_under f.name x)) e ∙ ap (λ b. is_some (cond b (Some f) None)) (same_self f.name)

module _ {Y : Type 0} (P : Text → Fragment → Y → Type 0) (d : Definition) (old : Text → Option Y) where
  pub fragment_put : (f : Fragment) (key : Text) (y : Y) (new : Text → Option Y) → d ≡ D.Fragment f → key ≡ f.name
      → ((n : Text) → new n ≡ or_else (old n) (cond (bytes_eq key n) (Some y) None)) → P f.name f y → Takes P (λ n. fragment_under n d) old new
  fragment_put f key y new e g put p =
      subst (λ x. Takes P (λ n. fragment_under n x) old new) (sym e)
      (takes_one P old new f.name f y (λ n. put n ∙ ap (λ (k : Text). or_else (old n) (cond (bytes_eq k n) (Some y) None)) g) p)

  pub no_fragment : (o : Operation) → d ≡ D.Operation o → Takes P (λ n. fragment_under n d) old old
  no_fragment o e = subst (λ x. Takes P (λ n. fragment_under n x) old old) (sym e) (takes_nothing P old)

-- It is printed as it stands: there are no local variables in it.
use Rattle.std.proofs.Common.{◌≡◌, OnOk, true, List, [], ◌∷◌, ◌++◌, map, ap, sym, subst, ◌∙◌}
use Rattle.doc_sites.specs.SitesView.{argument_of, directive_of}
use Rattle.doc_sites.specs.declared.site.ArgumentAt.{ArgumentAt}
use Rattle.plan_ir.specs.gql_ast.declared.directive.Directive.{Directive}
use Rattle.plan_ir.specs.Expansion.{argument_pairs, directive_tree, is_printed}
use Rattle.plan_ir.specs.Substitution.{operation_scope}
use Rattle.plan_expand.proofs.DirectiveSteps.{same_arguments, such_shown}
use Rattle.plan_expand.proofs.directives.put_own.Goals as goal

pub returns-then-is_printed : goal.returns-then-is_printed
returns-then-is_printed c =
    let d : Directive = directive_tree (directive_of c.args.directive.now) in
    let shown : is_printed d.name ≡ true = sym c.is_printed.ensures ∙ c.if-is_printed.true in
    subst (λ (ds : List Directive). OnOk c.push.result (c.push.new.self ≡ c.args.printed.now ++ ds))
    ((λ i. record {
      name = c.in_ok-name.ensures i;
      arguments = (c.in_ok-arguments.ensures ∙ ap (λ (xs : List ArgumentAt). argument_pairs (map argument_of xs)) c.deref.ensures.value ∙ sym (same_arguments d.arguments)) i;
    } ∷ [])
    ∙ such_shown is_printed operation_scope d shown) c.push.ensures.ok

-- What is given, else the default.
use Rattle.std.proofs.Common.{◌≡◌, IfOk, Option, option_map, ap, sym, subst, ◌∙◌}
use Rattle.plan_ir.specs.gql_ast.Value.{Val}
use Rattle.plan_ir.specs.gql_ast.ValueView.{value_of}
use Rattle.plan_ir.specs.Substitution as spec
use Rattle.plan_ir.specs.schema_tables.Types.{Text}
use Rattle.plan_expand.specs.LocalsView.{default_view, find_local}
use Rattle.plan_expand.specs.ScopeView.{find_gift, gift_or, scope_of}
use Rattle.plan_expand.specs.declared.local.Local.{Local}
use Rattle.plan_expand.specs.declared.scope.Scope.{Scope}
use Rattle.plan_expand.proofs.scope.value_in.Goals as goal

pub returns-in-Some-find : goal.returns-in-Some-find
returns-in-Some-find c =
    let n : Text = c.args.name.now in
    let same : spec.value_or (find_gift c.in-Spread.given c.as_str-in-Some-find.result.now) (default_view c.in-Some-find.local.now) ≡ scope_of c.args.scope.now n =
    ap (λ (m : Text). spec.value_or (find_gift c.in-Spread.given m) (default_view c.in-Some-find.local.now)) c.as_str-in-Some-find.ensures
    ∙ ap (λ (o : Option Local). gift_or (find_gift c.in-Spread.given n) n (option_map default_view o))
    (sym (ap (option_map (λ l. l.now)) c.in-Some-find.is) ∙ c.find-in-Spread.ensures ∙ ap (find_local c.in-Spread.locals.now) c.as_str-in-Spread.ensures)
    ∙ sym (ap (λ (s : Scope). scope_of s n) c.in-Spread.is) in
    subst (λ (x : Val). IfOk c.value_or.result (λ v. value_of v ≡ x)) same c.value_or.ensures

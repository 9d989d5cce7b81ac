-- The uses at the place of the local variable, told at the node.
use Rattle.std.proofs.Common.{◌≡◌, OnOk, ◌++◌, List, Option, map, option_map, ap, subst, ◌∙◌}
use Rattle.constant_values.specs.gql_graph.Texts.{Text}
use Rattle.constant_values.specs.schema_types.ArgumentRules as rules
use Rattle.doc_uses.specs.doc_sites.SitesView.{argument_of}
use Rattle.relay_marks.specs.Locals.{local_named}
use Rattle.relay_rules.specs.Spreads.{move_use, place_of_local}
use Rattle.doc_uses.specs.UseView.{place_of, use_of, uses_at}
use Rattle.doc_uses.specs.declared.uses.Use.{Use}
use Rattle.relay_dirs.proofs.spread_uses.put_given_to.Goals as goal

pub returns : goal.returns
returns c = λ ls f.
    let name : Text = c.args.argument.now.name.name.now in
    let found : map use_of c.deref.result.now ≡ uses_at c.args.schema.now (argument_of c.args.argument.now) (place_of_local (local_named ls name)) =
    ap (λ (us : List Use). map use_of us) c.deref.ensures.value ∙ c.in_ok-put_argument.ensures
    ∙ ap (λ (us : List Use). map use_of us ++ uses_at c.args.schema.now (argument_of c.args.argument.now) (option_map place_of c.place_of_local-place.result)) c.new-found.ensures.items
    ∙ ap (λ (p : Option rules.Place). uses_at c.args.schema.now (argument_of c.args.argument.now) p) (c.place_of_local-place.ensures ∙ ap place_of_local (c.find_local.ensures ls f)) in
    subst (λ (us : List rules.Use). OnOk c.put_moved.result (map use_of c.put_moved.new.uses.items ≡ map use_of c.args.uses.now.items ++ map (move_use c.args.at) us)) found c.put_moved.ensures

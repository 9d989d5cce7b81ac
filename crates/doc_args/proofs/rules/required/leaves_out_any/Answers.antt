-- One is left out where fewer are counted than have to be given.
use Rattle.std.proofs.Common.{List, [], map, ap, ◌∙◌}
use Rattle.doc_uses.specs.schema_rules.Rules.{names_of}
use Rattle.doc_uses.specs.schema_tables.Required.{required_names}
use Rattle.doc_uses.specs.schema_trees.Located.{Located}
use Rattle.doc_uses.specs.schema_trees.LocatedView.{name_of}
use Rattle.doc_uses.specs.schema_trees.declared.located.NameAt.{NameAt}
use Rattle.doc_uses.specs.schema_types.Sites.{ArgumentAt}
use Rattle.doc_args.proofs.Counts.{some_left_out}
use Rattle.doc_args.proofs.rules.required.leaves_out_any.Goals as goal
use Rattle.doc_args.specs.GivenNames.{count_new}
use Rattle.doc_uses.specs.doc_sites.SitesView.{argument_of}

pub returns : goal.returns
returns c =
    let xs : List ArgumentAt = map argument_of c.args.arguments.now in
    some_left_out xs c.args.inputs.now c.in_ok-count.count c.required_count.result
    (c.in_ok-count.ensures ∙ ap (λ (ns : List NameAt). count_new (required_names c.args.inputs.now) [] (names_of (map name_of ns))) c.deref.ensures.value
    ∙ ap (λ (ns : List Located). count_new (required_names c.args.inputs.now) [] (names_of ns)) c.in_ok-names.ensures) c.required_count.ensures

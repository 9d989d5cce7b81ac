-- What is given, by the local variables of the fragment of that name.
use Rattle.std.proofs.Common.{◌≡◌, List, Option, map, ap, subst, sym, ◌∙◌}
use Rattle.constant_values.specs.schema_types.Sites as sites
use Rattle.doc_uses.specs.doc_sites.SitesView.{argument_of, directive_of}
use Rattle.doc_uses.specs.doc_sites.declared.site.ArgumentAt.{ArgumentAt}
use Rattle.relay_rules.specs.Spreads.{are_given_well, spread_arguments, locals_named}
use Rattle.relay_dirs.specs.Tables.{Finds}
use Rattle.relay_dirs.specs.declared.fragments.Locals.{Locals}
use Rattle.doc_uses.proofs.Steps.{noted_if_not}
use Rattle.relay_dirs.proofs.rules.spreads.note_given_by.Goals as goal

pub returns : goal.returns
returns c = λ fs h.
    let defs = c.args.schema.now in
    let given : map argument_of c.deref.result.now ≡ spread_arguments (map directive_of c.args.directives.now) =
    ap (λ (xs : List ArgumentAt). map argument_of xs) c.deref.ensures.value ∙ c.in_ok-given.ensures in
    noted_if_not _ _ c.in_ok-is_good.is_good _ _ c.note_if.ensures
    (c.in_ok-is_good.ensures (locals_named fs c.args.name.now.name.now)
    (subst (λ (o : Option Locals). Finds o (locals_named fs c.args.name.now.name.now)) (sym c.find-locals.ensures) (h c.args.name.now.name.now))
    ∙ ap (λ (xs : List sites.ArgumentAt). are_given_well defs (locals_named fs c.args.name.now.name.now) xs) given)

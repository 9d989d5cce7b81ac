use Rattle.std.proofs.Common.{◌≡◌, Some, None, sym, ap, ◌∙◌}
use Rattle.schema_tables.proofs.Named.{known_found}
use Rattle.schema_tables.proofs.tables.Tables.directive.Goals as goal
use Rattle.schema_tables.specs.BuiltIn.{built_in_directives, directive_named, directives_of}

pub returns-in-Some : goal.returns-in-Some
returns-in-Some c =
    let among : Some c.in-Some.directive ≡ directive_named (directives_of c.deref.result.now) c.args.name.now = c.in-Some.ensures in
    sym (known_found built_in_directives c.args.name.now (Some c.in-Some.directive) (directive_named (directives_of c.args.self.now) c.args.name.now)
    (ap (λ ds. directive_named (directives_of ds) c.args.name.now) (sym (c.deref.ensures.value ∙ c.self.invariant.built_in)) ∙ sym among))

pub returns-in-None : goal.returns-in-None
returns-in-None c =
    let among : None ≡ directive_named (directives_of c.deref.result.now) c.args.name.now = c.in-None.ensures in
    c.directive_given.ensures
    ∙ sym (known_found built_in_directives c.args.name.now None (directive_named (directives_of c.args.self.now) c.args.name.now)
    (ap (λ ds. directive_named (directives_of ds) c.args.name.now) (sym (c.deref.ensures.value ∙ c.self.invariant.built_in)) ∙ sym among))

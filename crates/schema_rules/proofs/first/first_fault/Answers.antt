-- The definitions that are kept are those of the schema that have an effect.
use Rattle.std.proofs.Common.{◌≡◌, List, map, ap, ◌∙◌}
use Rattle.std.proofs.lemmas.Result.{IfOk-weaker}
use Rattle.std.specs.List.{filter}
use Rattle.schema_rules.specs.Checked as checked
use Rattle.schema_trees.specs.Located.{DefAt, locate}
use Rattle.schema_trees.specs.LocatedView.{def_of}
use Rattle.schema_rules.specs.Rules as rules
use Rattle.schema_rules.proofs.first.first_fault.Goals as goal

pub returns : goal.returns
returns c =
    let kept : List DefAt = map def_of c.deref.result.now in
    let defs = c.args.tables.now in
    let same : kept ≡ filter rules.has_effect (locate defs) =
    ap (map def_of) c.deref.ensures.value ∙ c.keep_with_effect.ensures ∙ ap (filter rules.has_effect) (c.in_ok-definitions.ensures ∙ ap locate c.definitions.ensures) in
    IfOk-weaker c.first_broken.result (λ found. found ≡ rules.first_broken (rules.rules defs kept)) (λ found. found ≡ checked.first_fault defs)
    (λ found e. e ∙ ap (λ (ds : List DefAt). rules.first_broken (rules.rules defs ds)) same) c.first_broken.ensures

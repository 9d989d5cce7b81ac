-- What is put and what is left are the whole.
use Rattle.std.proofs.Common.{◌≡◌, map, drop, option_map}
use Rattle.std.specs.Option.{option_or}
use Rattle.doc_sites.specs.SitesView.{definition_of}
use Rattle.plan_ir.specs.Projects.{place_in}
use Rattle.plan_ir.specs.schema_types.NameRules.{fragment_named, fragments}
use Rattle.plan_ir.specs.schema_tables.Types.{Text}
use Rattle.plan_expand.specs.ReadyView.{find_in, ready_fragment}
use Rattle.plan_expand.proofs.fragments.Fragments.of.Given as goal

abbrev pub invariant-definitions : goal.invariant-definitions
invariant-definitions l =
    (n : Text) → option_or (find_in l.fragments n) (option_map (ready_fragment (place_in l.nodes)) (fragment_named (fragments (map definition_of (drop l.definition-index l.definitions))) n))
    ≡ option_map (ready_fragment (place_in l.nodes)) (fragment_named (fragments (map definition_of l.definitions)) n)

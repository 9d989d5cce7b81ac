-- The fragments that stand ready in the code.
use Rattle.std.specs.BTreeMap.{get_by}
use Rattle.std.specs.Cmp.Lexicographic.{slice_cmp}
use Rattle.std.specs.Ordering.{nat_cmp}
use Rattle.std.specs.Prelude.{cond, map, Option, Some, None, option_map, bytes_eq}
use Rattle.plan_expand.specs.LocalsView.{find_default}
use Rattle.plan_read.specs.Reading.{Find, Ready, ready_fragment}
use Rattle.plan_read.specs.declared.fragments.Fragments.{Fragments}
use Rattle.plan_read.specs.declared.fragments.ReadyFragment.{ReadyFragment}
use Rattle.plan_ir.specs.relay_marks.View.{local_view}
use Rattle.plan_ir.specs.schema_tables.Types.{Text}
use Rattle.plan_ir.specs.schema_types.Sites.{DefinitionAt, operation, fragment}

abbrev pub ready_of : ReadyFragment → Ready
ready_of f = record {
  on = f.on.now;
  selections = f.selections.now;
  locals = find_default f.locals;
  variables = map local_view f.variables;
  inlined = f.is_inline;
}

abbrev pub find_in : Fragments → Find
find_in fragments n = option_map ready_of (get_by (λ k. slice_cmp nat_cmp n k.now) fragments.by_name)

abbrev pub ready_named : Text → Ready → Text → Option Ready
ready_named m r n = cond (bytes_eq m n) (Some r) None

-- what stands ready of a definition, under its name
abbrev pub ready_in : DefinitionAt → Text → Option Ready
ready_in (operation o) n = None
ready_in (fragment f) n = ready_named f.name.name (ready_fragment f) n

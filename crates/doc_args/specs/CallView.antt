-- What calls in the code stand for.
use Rattle.std.specs.Prelude.{[], List, map, Option}
use Rattle.doc_uses.specs.schema_types.ArgumentRules.{inputs, free, unknown, field_takes}
use Rattle.doc_uses.specs.schema_types.ArgumentRules as spec
use Rattle.doc_uses.specs.schema_trees.Located.{Located}
use Rattle.doc_uses.specs.schema_trees.LocatedView.{name_of}
use Rattle.doc_uses.specs.schema_types.Sites.{ArgumentAt}
use Rattle.doc_uses.specs.schema_tables.Types.{Text, Defs}
use Rattle.doc_uses.specs.doc_sites.SitesView.{argument_of}
use Rattle.doc_args.specs.declared.call.Takes.{Takes}
use Rattle.doc_args.specs.declared.call.Takes.TheVariants as T
use Rattle.doc_args.specs.declared.call.Call.{Call}

abbrev pub takes_of : Takes → spec.Takes
takes_of (T.Inputs is) = inputs is
takes_of T.Nothing = inputs []
takes_of T.Free = free
takes_of T.Unknown = unknown

abbrev pub call_of : Call → spec.Call
call_of c = record { name = name_of c.name; takes = takes_of c.takes; arguments = map argument_of c.arguments.now }

-- a field with its arguments
abbrev pub field_call : Defs → (around : Option Text) → Located → List ArgumentAt → spec.Call
field_call defs around n xs = record { name = n; takes = field_takes defs around n.name; arguments = xs }

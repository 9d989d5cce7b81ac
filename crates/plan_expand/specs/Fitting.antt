-- What stands ready in the code is a project's.
use Rattle.std.specs.Prelude.{◌≡◌, Some}
use Rattle.plan_ir.specs.Expansion.{Project, selections_from}
use Rattle.plan_ir.specs.schema_types.NameRules.{fragment_named}
use Rattle.plan_ir.specs.schema_types.Sites.{FragmentAt, sites}
use Rattle.plan_ir.specs.schema_tables.Types.{Text}

-- what stands in a fragment is listed with the numbers of its nodes
abbrev pub IsListed : Project → FragmentAt → Type 0
IsListed p f = f.sites ≡ sites p.defs (selections_from f) (Some f.on.name) f.selections

abbrev pub AreListed : Project → Type 0
AreListed p = (n : Text) (f : FragmentAt) → fragment_named p.fragments n ≡ Some f → IsListed p f

-- All so far fit.
use Rattle.std.proofs.Common.{◌≡◌, List, map, drop}
use Rattle.std.specs.List.{list_all}
use Rattle.doc_uses.specs.doc_sites.SitesView.{argument_of}
use Rattle.relay_marks.specs.Locals.{Local}
use Rattle.relay_rules.specs.Spreads.{fits_local}
use Rattle.relay_dirs.specs.Tables.{Serves}
use Rattle.relay_dirs.proofs.spread_arguments.fit_locals.Given as goal

abbrev pub invariant-given : goal.invariant-given
invariant-given l = (ls : List Local) → Serves l.locals ls
    → list_all (fits_local l.schema ls) (map argument_of (drop l.argument-index l.given)) ≡ list_all (fits_local l.schema ls) (map argument_of l.given)

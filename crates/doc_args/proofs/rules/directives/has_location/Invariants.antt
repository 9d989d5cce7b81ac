-- None so far is this one.
use Rattle.std.proofs.Common.{◌≡◌, drop}
use Rattle.std.specs.List.{list_any}
use Rattle.doc_uses.specs.schema_types.ArgumentRules as rules
use Rattle.doc_args.proofs.rules.directives.has_location.Given as goal

abbrev pub invariant-locations : goal.invariant-locations
invariant-locations l =
    list_any (λ one. rules.same_location one l.wanted) (drop l.location-index l.location-items) ≡ list_any (λ one. rules.same_location one l.wanted) l.locations

-- None so far is `@inline`.
use Rattle.std.proofs.Common.{◌≡◌, map, drop}
use Rattle.plan_expand.specs.doc_sites.SitesView.{directive_of}
use Rattle.plan_read.specs.Reading.{are_inline}
use Rattle.plan_read.proofs.masks.is_inline.Given as goal

abbrev pub invariant-directives : goal.invariant-directives
invariant-directives l = are_inline (map directive_of (drop l.directive-index l.directives)) ≡ are_inline (map directive_of l.directives)

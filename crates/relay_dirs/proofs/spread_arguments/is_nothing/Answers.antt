-- What is given to no local variable does not fit.
use Rattle.std.proofs.Common.{◌≡◌, ◌≤◌, false, List, [], ◌∷◌, length, map, refl, arith}
use Rattle.constant_values.specs.schema_tables.Types.{Defs}
use Rattle.doc_uses.specs.doc_sites.SitesView.{argument_of}
use Rattle.doc_uses.specs.doc_sites.declared.site.ArgumentAt.{ArgumentAt}
use Rattle.relay_rules.specs.Spreads.{are_given_well}
use Rattle.relay_dirs.proofs.spread_arguments.is_nothing.Goals as goal

unfit : (defs : Defs) (xs : List ArgumentAt) → 1 ≤ length xs → false ≡ are_given_well defs [] (map argument_of xs)
unfit defs [] h = absurd (omega (arith, h))
unfit defs (x ∷ xs) h = refl

pub returns-in-len1-up : goal.returns-in-len1-up
returns-in-len1-up c = λ defs. unfit defs c.args.given.now c.in-len1-up.len_at_least

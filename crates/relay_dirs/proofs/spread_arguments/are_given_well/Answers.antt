-- By the local variables of a fragment, or by none.
use Rattle.std.proofs.Common.{◌≡◌, List, [], Option, map, option_map, ap, sym, subst, ◌∙◌}
use Rattle.doc_uses.specs.doc_sites.SitesView.{argument_of}
use Rattle.relay_marks.specs.Locals.{Local}
use Rattle.relay_rules.specs.Spreads.{are_given_well}
use Rattle.relay_dirs.specs.Tables.{Finds}
use Rattle.relay_dirs.specs.declared.fragments.Locals.{Locals}
use Rattle.relay_dirs.proofs.spread_arguments.are_given_well.Goals as goal
use denote.Ref.{Bor}

pub returns-in-Some : goal.returns-in-Some
returns-in-Some c = λ ls f. c.are_served.ensures ls (subst (λ (o : Option (Bor Locals)). Finds (option_map (λ (t : Bor Locals). t.now) o) ls) c.in-Some.is f)

pub returns-in-None : goal.returns-in-None
returns-in-None c = λ ls f.
    let none : ls ≡ [] = subst (λ (o : Option (Bor Locals)). Finds (option_map (λ (t : Bor Locals). t.now) o) ls) c.in-None.is f in
    c.is_nothing.ensures c.args.schema.now ∙ sym (ap (λ (l : List Local). are_given_well c.args.schema.now l (map argument_of c.args.given.now)) none)

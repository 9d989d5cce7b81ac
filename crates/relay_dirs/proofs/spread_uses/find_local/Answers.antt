-- One that is found, and none where there are none.
use Rattle.std.proofs.Common.{◌≡◌, List, [], Option, option_map, ap, sym, subst}
use Rattle.relay_marks.specs.Locals.{Local, local_named}
use Rattle.relay_dirs.specs.Tables.{Finds}
use Rattle.relay_dirs.specs.declared.fragments.Locals.{Locals}
use Rattle.relay_dirs.proofs.spread_uses.find_local.Goals as goal
use denote.Ref.{Bor}

pub returns-in-Some : goal.returns-in-Some
returns-in-Some c = λ ls f.
    c.find.ensures ls (subst (λ (o : Option (Bor Locals)). Finds (option_map (λ (t : Bor Locals). t.now) o) ls) c.in-Some.is f)

pub returns-in-None : goal.returns-in-None
returns-in-None c = λ ls f.
    let none : ls ≡ [] = subst (λ (o : Option (Bor Locals)). Finds (option_map (λ (t : Bor Locals). t.now) o) ls) c.in-None.is f in
    sym (ap (λ (l : List Local). local_named l c.args.name.now) none)

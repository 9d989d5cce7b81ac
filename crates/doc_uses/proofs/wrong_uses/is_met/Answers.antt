-- What is known.
use Rattle.std.proofs.Common.{List, Option, map, option_map, sym, subst}
use Rattle.doc_uses.specs.Needs.{IsKnownHarmless}
use Rattle.doc_uses.specs.UseView.{use_of}
use Rattle.doc_uses.specs.declared.uses.Use.{Use}
use Rattle.doc_uses.proofs.wrong_uses.is_met.Goals as goal
use denote.Ref.{Bor}

pub returns-in-Some : goal.returns-in-Some
returns-in-Some c = λ vs t e.
    subst (λ (o : Option (Bor (List Use))). IsKnownHarmless vs c.args.least.now.at (option_map (λ (us : Bor (List Use)). map use_of us.now) o)) (sym c.in-Some.is) (c.are_harmless.ensures vs t e)

-- What is known is put.
use Rattle.std.proofs.Common.{List, Option, map, option_map, true≢false, sym, subst}
use Rattle.doc_sites.specs.schema_types.ArgumentRules as rules
use Rattle.doc_uses.specs.Needs.{CoversKnown}
use Rattle.doc_uses.specs.UseView.{use_of}
use Rattle.doc_uses.specs.declared.uses.Use.{Use}
use Rattle.doc_uses.proofs.NeedSteps.{covers_both}
use Rattle.doc_uses.proofs.needs.put_known.Goals as goal
use denote.Ref.{Bor}

pub returns-in_ok-has_room-in-Some : goal.returns-in_ok-has_room-in-Some
returns-in_ok-has_room-in-Some c = λ e.
    let all : List rules.Use = map use_of c.put_each.new.all.items in
    let both = covers_both all (map use_of c.args.all.now.items) _ (c.in_ok-has_room-in-Some.ensures e) in (
      both.0,
      subst (λ (o : Option (Bor (List Use))). CoversKnown all (option_map (λ (us : Bor (List Use)). map use_of us.now) o)) (sym c.in-Some.is) both.1,
    )

pub returns-in-None : goal.returns-in-None
returns-in-None c = λ e. absurd (true≢false (sym e))

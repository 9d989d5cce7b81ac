use Rattle.std.proofs.Common.{◌≡◌, length, ◌∷◌, ◌++◌, [], refl, ◌∙◌}
use Rattle.std.proofs.lemmas.Result.{err_from_is_err_and}
use Rattle.gql_syntax.specs.Answers.{wrong_at}
use Rattle.gql_syntax.specs.Nexts.{stopped_at}
use Rattle.gql_syntax.specs.Enclosed.{Takes, closed_at_once, member_fails}
use Rattle.gql_syntax.proofs.Turns.{opened-member, some-behind}
use Rattle.gql_syntax.proofs.enclosed.read_members.Goals as goal

pub returns-then-next_is : goal.returns-then-next_is
returns-then-next_is g c =
    let opens : Takes c.args.opening c.args.cursor.now c.expect.new.cursor = record { there = c.in_ok-expect.ensures.found; source = c.in_ok-expect.ensures.source; places = c.in_ok-expect.ensures.places; text = c.expect.ensures.same } in
    let same : c.fault.result ≡ wrong_at (stopped_at (length c.expect.new.cursor.text) c.expect.new.cursor.source) = c.fault.ensures in
    record { reads = closed_at_once c.expect.new.cursor (record { first = c.expect.new.cursor; opens = opens; members = refl }) (cc) same }

pub returns-in_err-member : goal.returns-in_err-member
returns-in_err-member g c =
    let e = err_from_is_err_and c.from_residual-in_err-member.result c.from_residual-in_err-member.ensures.1 in
    record { reads = rw (e.1, e.2) (member_fails _ _ c.members.members.items c.members.invariant.reads c.members.invariant.unclosed c.in_err-member.ensures) }

pub returns-then-next_is-2 : goal.returns-then-next_is-2
returns-then-next_is-2 g c =
    let fitted : c.shrink_to_fit.new.self.items ≡ c.members.members.items ++ c.in_ok-member.member ∷ [] = c.shrink_to_fit.ensures.items ∙ c.in_ok-push.ensures.items in
    record {
      reads = rw fitted (record {
        last = c.read.new.arg3;
        opened = opened-member c.args.opening c.args.closing _ c.args.cursor.now _ _ c.members.members.items c.in_ok-member.member c.members.invariant.reads c.members.invariant.unclosed c.in_ok-member.ensures;
        some = some-behind c.members.members.items c.in_ok-member.member;
        closes = record { there = cc; source = c.in_ok-skip.ensures.source; places = c.in_ok-skip.ensures.places; text = c.skip.ensures.same };
      });
    }

pub members-preserved : goal.members-preserved
members-preserved g c = record {
  reads = rw c.in_ok-push.ensures.items (opened-member c.args.opening c.args.closing _ c.args.cursor.now _ _ c.members.members.items c.in_ok-member.member c.members.invariant.reads c.members.invariant.unclosed c.in_ok-member.ensures);
  unclosed = cc;
}

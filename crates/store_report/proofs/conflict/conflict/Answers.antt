use Rattle.std.proofs.Common.{Some, map, option_copied, option_map, sym, ap, ◌∙◌}
use Rattle.store_model.specs.Verdicts.{least, put_cmp, places}
use Rattle.store_report.proofs.Clashes.{rises, rising_map, all_agree, IsClash, clash_is}
use Rattle.store_report.proofs.Seatings.{candidates, unlike_candidates, agreed_seats, place_among, first_there, second_there, the_conflict}
use Rattle.store_report.proofs.Takings.{facts_placed}
use Rattle.store_report.proofs.conflict.conflict.Goals as goal
use Rattle.store_report.specs.SaidFacts.{put_of, place_cmp, put_place_cmp}

pub returns-in_default : goal.returns-in_default
returns-in_default c =
    let puts = map put_of c.args.facts.now in
    let rising = rising_map put_of put_place_cmp c.args.facts.now (rises place_cmp facts_placed c.args.facts.now c.requires) in
    sym (agreed_seats puts (places puts) (all_agree puts rising (sym c.in_default.ensures)) (place_among puts))

pub unreachable-requires : goal.unreachable-requires
unreachable-requires c =
    let puts = map put_of c.args.facts.now in
    let rising = rising_map put_of put_place_cmp c.args.facts.now (rises place_cmp facts_placed c.args.facts.now c.requires) in
    let p = put_of c.in-Some.clash.now in
    let clash : IsClash puts p = clash_is puts rising p (sym c.in-Some.ensures) in
    first_there puts p clash (ap (least put_cmp) (sym (candidates p puts)) ∙ sym c.in_ok-first.ensures ∙ ap (λ f. option_map put_of (option_copied f)) c.in_default-2.is)

pub unreachable-requires-in_default-3 : goal.unreachable-requires-in_default-3
unreachable-requires-in_default-3 c =
    let puts = map put_of c.args.facts.now in
    let rising = rising_map put_of put_place_cmp c.args.facts.now (rises place_cmp facts_placed c.args.facts.now c.requires) in
    let p = put_of c.in-Some.clash.now in
    let clash : IsClash puts p = clash_is puts rising p (sym c.in-Some.ensures) in
    let first = put_of c.in-Some-2.first.now in
    second_there puts p clash first (ap (least put_cmp) (sym (unlike_candidates p first.fact.value puts)) ∙ sym c.in_ok-second.ensures ∙ ap (λ f. option_map put_of (option_copied f)) c.in_default-3.is)

pub returns : goal.returns
returns c =
    let puts = map put_of c.args.facts.now in
    let rising = rising_map put_of put_place_cmp c.args.facts.now (rises place_cmp facts_placed c.args.facts.now c.requires) in
    let p = put_of c.in-Some.clash.now in
    let clash : IsClash puts p = clash_is puts rising p (sym c.in-Some.ensures) in
    let first = put_of c.in-Some-2.first.now in
    let second = put_of c.in-Some-3.second.now in
    ap Some c.in_ok-conflict_of.ensures
    ∙ sym (the_conflict puts p first second clash
    (ap (least put_cmp) (sym (candidates p puts)) ∙ sym c.in_ok-first.ensures ∙ ap (λ f. option_map put_of (option_copied f)) c.in-Some-2.is)
    (ap (least put_cmp) (sym (unlike_candidates p first.fact.value puts)) ∙ sym c.in_ok-second.ensures ∙ ap (λ f. option_map put_of (option_copied f)) c.in-Some-3.is))

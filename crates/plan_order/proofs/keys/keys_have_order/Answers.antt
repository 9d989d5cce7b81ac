-- What was noted is what the steps say.
use Rattle.std.proofs.Common.{◌≡◌, true, false, ◌&&◌, ◌||◌, map, ap, sym, ◌∙◌, arith}
use Rattle.std.proofs.lemmas.Grind.{common_steps}
use Rattle.std.specs.List.{list_all}
use Rattle.plan_order.proofs.keys.keys_have_order.Goals as goal
use Rattle.plan_order.specs.HasOrder.{distinct, stands_apart}
use Rattle.plan_order.specs.Responses.{fragments, responses}
use Rattle.plan_order.specs.Walk.{is_none}

pub returns-then-not-branch : goal.returns-then-not-branch
returns-then-not-branch c =
    let s = c.args.steps.now in
    let told : map (λ t. t.now) c.note_steps.new.keys.responses.items ≡ responses s = grind (arith, common_steps) in
    let no : distinct (responses s) ≡ false = ap distinct (sym told) ∙ sym c.in_ok-are_distinct.ensures ∙ c.if-not-branch.true in
    sym (ap (λ b. b && distinct (fragments s) && (is_none (fragments s) || list_all stands_apart (responses s))) no)

pub returns-then-not-branch-2 : goal.returns-then-not-branch-2
returns-then-not-branch-2 c =
    let s = c.args.steps.now in
    let told : map (λ t. t.now) c.note_steps.new.keys.responses.items ≡ responses s = grind (arith, common_steps) in
    let spread : map (λ t. t.now) c.note_steps.new.keys.fragments.items ≡ fragments s = grind (arith, common_steps) in
    let yes : distinct (responses s) ≡ true = ap distinct (sym told) ∙ sym c.in_ok-are_distinct.ensures ∙ c.if-not-branch.false in
    let no : distinct (fragments s) ≡ false = ap distinct (sym spread) ∙ sym c.in_ok-are_distinct-2.ensures ∙ c.if-not-branch-2.true in
    sym (λ i. yes i && no i && (is_none (fragments s) || list_all stands_apart (responses s)))

pub returns : goal.returns
returns c =
    let s = c.args.steps.now in
    let told : map (λ t. t.now) c.note_steps.new.keys.responses.items ≡ responses s = grind (arith, common_steps) in
    let spread : map (λ t. t.now) c.note_steps.new.keys.fragments.items ≡ fragments s = grind (arith, common_steps) in
    let yes : distinct (responses s) ≡ true = ap distinct (sym told) ∙ sym c.in_ok-are_distinct.ensures ∙ c.if-not-branch.false in
    let also : distinct (fragments s) ≡ true = ap distinct (sym spread) ∙ sym c.in_ok-are_distinct-2.ensures ∙ c.if-not-branch-2.false in
    c.do_stand_apart-apart.ensures ∙ (λ i. is_none (spread i) || list_all stands_apart (told i)) ∙ sym (λ i. yes i && also i && (is_none (fragments s) || list_all stands_apart (responses s)))

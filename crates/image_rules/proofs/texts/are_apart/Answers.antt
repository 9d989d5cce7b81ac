use denote.Ref.{Bor}
use Rattle.std.proofs.Common.{◌≡◌, ◌-◌, [], List, ℕ, drop, get_or, map, true, sym, ap, subst, ◌∙◌, arith}
use Rattle.gql_graph.specs.Seen.{Knows}
use Rattle.image_text.specs.Images.{are_apart}
use Rattle.image_rules.proofs.ListLaws.{apart_before, apart_less, apart_more, drop_end, one_back}
use Rattle.image_rules.proofs.texts.are_apart.Goals as goal

abbrev names_of : List (Bor (List ℕ)) → List (List ℕ)
names_of ns = map (λ n. n.now) ns

abbrev nobody : Bor (List ℕ)
nobody = record { ref_ptr = (0, 0); now = [] }

pub names-init : goal.names-init
names-init c =
    let none = drop_end c.args.names.now in
    record {
      known = subst (λ ns. Knows c.new-seen.result.names (names_of ns)) (sym none) c.new-seen.ensures;
      apart = ap (λ ns. are_apart (names_of ns)) none;
      within = omega arith;
    }

pub names-preserved : goal.names-preserved
names-preserved c =
    let ns = c.args.names.now in
    let at = c.names.at in
    let done = names_of (drop at ns) in
    let back = one_back ns at nobody (omega (arith, c.names-test.true)) c.names.invariant.within in
    let one = get_or ns (at - 1) nobody in
    record {
      known = subst (λ xs. Knows c.insert.new.self.names (names_of xs)) (sym back) (c.in_ok-is_new.ensures.known done c.names.invariant.known);
      apart =
          ap (λ xs. are_apart (names_of xs)) back
          ∙ apart_more (λ n. n.now) (drop at ns) one c.in_ok-is_new.is_new (c.in_ok-is_new.ensures.new_name done c.names.invariant.known) c.if-not-is_new.false c.names.invariant.apart;
      within = omega (arith, c.names.invariant.within);
    }

pub returns-then-not-is_new : goal.returns-then-not-is_new
returns-then-not-is_new c =
    let ns = c.args.names.now in
    let at = c.names.at in
    let done = names_of (drop at ns) in
    let back = one_back ns at nobody (omega (arith, c.names-test.true)) c.names.invariant.within in
    let one = get_or ns (at - 1) nobody in
    sym (apart_before (λ n. n.now) ns (at - 1)
    (ap (λ xs. are_apart (names_of xs)) back
    ∙ apart_less (λ n. n.now) (drop at ns) one c.in_ok-is_new.is_new (c.in_ok-is_new.ensures.new_name done c.names.invariant.known) c.if-not-is_new.true))

pub returns : goal.returns
returns c =
    let none : c.names.at ≡ 0 = omega (arith, c.names-test.false) in
    sym (subst (λ k. are_apart (names_of (drop k c.args.names.now)) ≡ true) none c.names.invariant.apart)

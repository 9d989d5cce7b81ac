use Rattle.std.proofs.Common.{◌≡◌, nat_cmp, rules, sym, subst, ◌∙◌}
use Rattle.std.proofs.lemmas.Fn.{always_returns_same}
use Rattle.std.specs.Cmp.Lexicographic.{slice_cmp}
use Rattle.gql_plain.proofs.Searches.{has_text-searched}
use Rattle.gql_plain.proofs.ids.Ids.contains.Goals as goal
use Rattle.gql_plain.specs.Order.{AreInOrder}

pub returns-in-Some : goal.returns-in-Some
returns-in-Some c =
    let facts = c.binary_search_by.ensures in
    let by_text = facts.position (λ one. slice_cmp nat_cmp one c.args.id.now) (always_returns_same _ _ _ (λ a r g called. (search rules, search rules))) in
    let shared = c.in-Some.is in
    let lent = c.deref.ensures in
    let same : c.deref-in-Some.result.now ≡ c.args.self.now = cc in
    let order : AreInOrder c.deref-in-Some.result.now = subst AreInOrder (c.self.view_is ∙ sym same) c.self.invariant in
    c.is_ok.ensures.value ∙ rw (← same) (has_text-searched _ c.args.id.now _ order facts.bound by_text)

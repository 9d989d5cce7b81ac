-- Both places have one type, and both have a default or neither.
use Rattle.std.proofs.Common.{◌≡◌, Some, option_map, ap, sym, ◌∙◌, arith}
use Rattle.doc_sites.specs.gql_ast.TypeView.{ty_of}
use Rattle.doc_uses.specs.UseView.{place_of}
use Rattle.doc_uses.proofs.NeedSteps.{same_types}
use Rattle.doc_uses.proofs.needs.is_same_place.Goals as goal

pub returns-then-one-other : goal.returns-then-one-other
returns-then-one-other c = λ e.
    let types : ty_of c.in-Some.one.of.now ≡ ty_of c.in-Some-other.other.of.now = same_types _ _ (sym c.same_type.ensures ∙ e) in
    let defaults : c.in-Some.one.has_default ≡ c.in-Some-other.other.has_default = grind arith in
    ap (option_map place_of) c.in-Some.is ∙ ap Some (λ k. (types k, defaults k)) ∙ sym (ap (option_map place_of) c.in-Some-other.is)

-- One more name in front.
use Rattle.std.proofs.Common.{◌≡◌, ℕ, ◌+◌, ◌-◌, ◌<◌, List, ◌∷◌, length, drop, ap, sym, ◌∙◌, arith}
use Rattle.std.proofs.lemmas.List.{length-map}
use Rattle.doc_uses.specs.gql_ast.Value.{Val, members_of}
use Rattle.doc_uses.specs.gql_ast.ValueView.{value_of, argument_of}
use Rattle.doc_uses.specs.schema_types.ArgumentRules as rules
use Rattle.doc_uses.specs.schema_tables.Fits.{has_member}
use Rattle.gql_graph.specs.gql_plain.Order.{has_text}
use Rattle.gql_graph.specs.Texts.{Text}
use Rattle.doc_args.proofs.Members.{member_next, seen_next, differ_next}
use Rattle.doc_args.proofs.rules.literals.+names.Goals as goal

pub names_differ_among-members-preserved : goal.names_differ_among-members-preserved
names_differ_among-members-preserved t c =
    let whole : List (Text × Val) = c.args.members.now in
    let name : Text = c.as_str.result.now in
    let value : Val = value_of c.index-member.result.now.value in
    let next : c.members.left ≡ (c.members.left - 1) + 1 = omega arith in
    let size : length c.members-2.inside.items.items ≡ length whole = sym (length-map c.members-2.inside.items.items argument_of) ∙ ap length c.members-2.view_is in
    let low : c.members.left - 1 < length c.members-2.inside.items.items = omega (arith, c.members.invariant.0, size) in
    let s = c.members.invariant.1 in
    let e : drop (c.members.left - 1) whole ≡ (name, value) ∷ drop ((c.members.left - 1) + 1) whole =
    member_next c.members-2.inside.items.items whole (c.members.left - 1) c.index-member.result.now low c.index-member.ensures c.members-2.view_is
    ∙ ap (λ (n : Text). (n, value) ∷ drop ((c.members.left - 1) + 1) whole) (sym c.as_str.ensures) in
    let h : (n : Text) → has_text s.0 n ≡ has_member n (members_of (drop ((c.members.left - 1) + 1) whole)) = λ n. s.2 n ∙ ap (λ (k : ℕ). has_member n (members_of (drop k whole))) next in (
      omega (arith, c.members.invariant.0),
      (name ∷ s.0, c.in_ok-is_new.ensures.known s.0 s.1, seen_next s.0 _ _ name value e h),
      differ_next s.0 _ _ name value c.in_ok-is_new.is_new c.in_ok-is_good.is_good c.members.differ c.are_all-differ.result e h (c.in_ok-is_new.ensures.new_name s.0 s.1) c.in_ok-is_good.ensures
          (c.members.invariant.2 ∙ ap (λ (k : ℕ). rules.names_differ_among (members_of (drop k whole))) next) c.are_all-differ.ensures,
    )

pub names_differ_among-returns : goal.names_differ_among-returns
names_differ_among-returns t c =
    let none : c.members.left ≡ 0 = omega arith in
    c.members.invariant.2 ∙ ap (λ (k : ℕ). rules.names_differ_among (members_of (drop k c.args.members.now))) none

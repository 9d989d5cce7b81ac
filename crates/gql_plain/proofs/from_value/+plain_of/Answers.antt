use Rattle.std.proofs.Common.{◌≡◌, [], ◌∷◌, ◌++◌, sym, ap, ◌∙◌, subst, append_assoc}
use Rattle.std.specs.List.Sorted.{IsStrictlySortedBy}
use Rattle.std.specs.Map.{keys_of}
use Rattle.std.specs.String.{string_cmp}
use Rattle.serde_json.proofs.Views.{Entry}
use Rattle.gql_plain.proofs.JsonLevels.{IsAfter-next, plain_pairs_more, whole_more}
use Rattle.gql_plain.proofs.from_value.+plain_of.Goals as goal

pub pairs_of-push-requires : goal.pairs_of-push-requires
pairs_of-push-requires t c =
    let done = c.members.invariant.0 in
    let e : Entry = (c.in-Some.key.now, c.in-Some.member.now) in
    let all : c.args.members.now.entries ≡ done ++ e ∷ c.next.new.self = c.members.invariant.1 ∙ ap (λ es. done ++ es) c.in-Some.ensures.steps in
    let after = IsAfter-next done e c.next.new.self (subst (λ es. IsStrictlySortedBy string_cmp (keys_of es)) all c.iter-key-items.ensures.ordered) in
    rw (c.in_ok-name.ensures, c.deref.ensures, c.members.invariant.2) after

pub pairs_of-members-preserved : goal.pairs_of-members-preserved
pairs_of-members-preserved t c =
    let done = c.members.invariant.0 in
    let e : Entry = (c.in-Some.key.now, c.in-Some.member.now) in
    let left = c.next.new.self in
    let all : c.args.members.now.entries ≡ done ++ e ∷ left = c.members.invariant.1 ∙ ap (λ es. done ++ es) c.in-Some.ensures.steps in (
      done ++ e ∷ [],
      all ∙ sym (append_assoc done (e ∷ []) left),
      c.in_ok-push.ensures.ok ∙ plain_pairs_more done e _ _ _ c.members.invariant.2 (c.in_ok-name.ensures ∙ c.deref.ensures) c.in_ok-plain_of.ensures.same,
      whole_more done e c.members.invariant.3 c.in_ok-plain_of.ensures.whole,
    )

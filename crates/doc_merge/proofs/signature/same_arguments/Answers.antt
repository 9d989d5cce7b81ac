-- Those of one order are the same set.
use Rattle.std.proofs.Common.{◌≡◌, List, ap, sym, ◌∙◌}
use Rattle.doc_merge.specs.Signatures.{Argument, same_arguments}
use Rattle.doc_merge.proofs.Equals.{same_arguments-itself, same_members-sound}
use Rattle.doc_merge.proofs.ListEnds.{members_of-inj}
use Rattle.doc_merge.proofs.signature.same_arguments.Goals as goal

pub returns-then-same_members : goal.returns-then-same_members
returns-then-same_members c =
    let same : c.args.one.now ≡ c.args.other.now = members_of-inj _ _ (same_members-sound _ _ (sym c.same_members.ensures ∙ c.if-same_members.true)) in
    sym (ap (λ (xs : List Argument). same_arguments c.args.one.now xs) (sym same) ∙ same_arguments-itself c.args.one.now)

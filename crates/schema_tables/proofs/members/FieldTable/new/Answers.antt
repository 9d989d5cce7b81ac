use Rattle.std.proofs.Common.{◌≡◌, ◌+◌, ℕ, List, ◌∷◌, [], ◌++◌, length, take, ap, sym, subst, ◌∙◌}
use Rattle.std.proofs.lemmas.List.{take_all, take_more}
use Rattle.gql_ast.specs.declared.member.FieldTree.{FieldTree}
use Rattle.schema_tables.proofs.FieldsFound.{field_kept}
use Rattle.schema_tables.proofs.members.FieldTable.new.Goals as goal
use Rattle.schema_tables.specs.TableParts.{AreKept}

pub fields-preserved : goal.fields-preserved
fields-preserved c =
    let fs = c.args.fields.now in
    let i = c.fields.field-index in
    subst (λ (ks : List ℕ). AreKept (take (i + 1) fs) ks c.put_arguments.new.arguments.items)
    (ap (λ k. c.fields.kept.items ++ k ∷ []) (sym (c.len.ensures ∙ c.fields.arguments.ok.0)) ∙ sym c.in_ok-push.ensures.items)
    (subst (λ (gs : List FieldTree). AreKept gs (c.fields.kept.items ++ length c.fields.arguments.items ∷ []) c.put_arguments.new.arguments.items)
    (ap (λ f. take i fs ++ f ∷ []) c.field-item.is ∙ sym (take_more fs i c.field-item.result c.fields-test.true))
    (field_kept (take i fs) c.fields.kept.items c.fields.arguments.items c.put_arguments.new.arguments.items c.field-item.result c.fields.invariant c.in_ok-put_arguments.ensures))

pub returns : goal.returns
returns c = record {
  names = c.in_ok-names.ensures;
  arguments = subst (λ (fs : List FieldTree). AreKept fs c.fields.kept.items c.fields.arguments.items) (take_all c.fields.field-index c.args.fields.now c.fields-test.false) c.fields.invariant;
}

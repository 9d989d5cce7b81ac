use Rattle.std.proofs.Common.{◌≡◌, List, [], ◌∷◌, ◌++◌, append_assoc, ◌∙◌}
use Rattle.schema_tables.proofs.built_in.put_definitions.Goals as goal
use Rattle.gql_ast.specs.declared.schema.SchemaDef.{SchemaDef}

two : (xs ys zs : List SchemaDef) (a b x y : SchemaDef) → ys ≡ xs ++ a ∷ [] → zs ≡ ys ++ b ∷ [] → a ≡ x → b ≡ y → zs ≡ xs ++ (x ∷ y ∷ [])
two xs ys zs a b x y p q e f = q ∙ (λ i. p i ++ b ∷ []) ∙ append_assoc xs (a ∷ []) (b ∷ []) ∙ (λ i. xs ++ (e i ∷ f i ∷ []))

pub returns : goal.returns
returns c =
    two c.args.directives.now.items c.push.new.self.items c.push-2.new.self.items c.in_ok-bare.field-0 c.in_ok-bare-2.field-0 _ _
    c.in_ok-push.ensures.items c.in_ok-push-2.ensures.items c.in_ok-bare.ensures c.in_ok-bare-2.ensures

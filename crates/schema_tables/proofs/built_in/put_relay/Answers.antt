use Rattle.std.proofs.Common.{◌≡◌, List, [], ◌∷◌, ◌++◌, append_assoc, ap, ◌∙◌}
use Rattle.schema_tables.proofs.built_in.put_relay.Goals as goal
use Rattle.gql_ast.specs.declared.schema.SchemaDef.{SchemaDef}

three : (xs ys zs ws : List SchemaDef) (a b d x y z : SchemaDef) → ys ≡ xs ++ a ∷ [] → zs ≡ ys ++ b ∷ [] → ws ≡ zs ++ d ∷ [] → a ≡ x → b ≡ y → d ≡ z → ws ≡ xs ++ (x ∷ y ∷ z ∷ [])
three xs ys zs ws a b d x y z p q r e f g =
    r ∙ ap (λ l. l ++ d ∷ []) (q ∙ ap (λ l. l ++ b ∷ []) p) ∙ append_assoc (xs ++ a ∷ []) (b ∷ []) (d ∷ []) ∙ append_assoc xs (a ∷ []) (b ∷ d ∷ [])
    ∙ (λ i. xs ++ (e i ∷ f i ∷ g i ∷ []))

pub returns : goal.returns
returns c =
    three c.args.directives.now.items c.push.new.self.items c.push-2.new.self.items c.push-3.new.self.items c.in_ok-connection.field-0 c.in_ok-bare.field-0 c.in_ok-relay.field-0 _ _ _
    c.in_ok-push.ensures.items c.in_ok-push-2.ensures.items c.in_ok-push-3.ensures.items c.in_ok-connection.ensures c.in_ok-bare.ensures c.in_ok-relay.ensures

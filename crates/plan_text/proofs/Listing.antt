-- Sets and lists of variables as lists of texts.
use Rattle.std.proofs.Common.{◌≡◌, true, false, List, [], ◌∷◌, ◌++◌, length, map, eqb, Bor, refl, ap, ◌∙◌, arith, append_assoc}
use Rattle.std.proofs.lemmas.Bool.{ne_eqb}
use Rattle.plan_ir.specs.gql_ast.declared.variable.VariableDef.{VariableDef}
use Rattle.plan_ir.specs.Nodes.{Nodes, end, field, inline}
use Rattle.plan_ir.specs.NodesView.{nodes_of}
use Rattle.plan_ir.specs.OperationText.{enclose, enclose_some, node_texts, variable_text, variables_text}
use Rattle.plan_ir.specs.declared.node.Node.{Node}
use Rattle.plan_ir.specs.declared.node.Node.TheVariants as N
use Rattle.plan_text.specs.NodeTexts.{node_text}
use Rattle.plan_ir.specs.schema_tables.Types.{Text}

pub node_texts-nodes_of : (xs : List Node) → node_texts (nodes_of xs) ≡ map node_text xs
node_texts-nodes_of [] = refl
node_texts-nodes_of (N.Field r n xs ds c u s p ∷ zs) = ap (λ ts. node_text (N.Field r n xs ds c u s p) ∷ ts) (node_texts-nodes_of zs)
node_texts-nodes_of (N.Inline o ds s p ∷ zs) = ap (λ ts. node_text (N.Inline o ds s p) ∷ ts) (node_texts-nodes_of zs)

-- the four parts of a field, written one after the other
pub field_written : (old a b c s first second third : Text) → first ≡ old ++ a → second ≡ first ++ b → third ≡ second ++ c → third ++ s ≡ old ++ (a ++ b ++ c ++ s)
field_written old a b c s first second third e f g =
    ap (λ z. z ++ s) (g ∙ ap (λ z. z ++ c) (f ∙ ap (λ z. z ++ b) e))
    ∙ ap (λ z. z ++ c ++ s) (append_assoc old a b)
    ∙ ap (λ z. z ++ s) (append_assoc old (a ++ b) c)
    ∙ append_assoc old (a ++ b ++ c) s

-- a set is told where it has a node
pub set_told : (s : Nodes) → (s ≡ end → ⊥) → enclose_some 123 32 125 (node_texts s) ≡ enclose 123 32 125 (node_texts s)
set_told end some = absurd (some refl)
set_told (field r n xs ds c of s p rest) some = refl
set_told (inline o ds s p rest) some = refl

-- variables are told between brackets where there is one
pub variables_told : (vs : List VariableDef) → (vs ≡ [] → ⊥) → variables_text vs ≡ enclose 40 44 41 (map variable_text vs)
variables_told [] some = absurd (some refl)
variables_told (v ∷ vs) some = refl

-- what references lead to, where there is none and where there is one
pub none_told : (vs : List (Bor VariableDef)) → eqb (length vs) 0 ≡ true → variables_text (map (λ (v : Bor VariableDef). v.now) vs) ≡ []
none_told [] e = refl
none_told (v ∷ vs) e = let some : eqb (length (v ∷ vs)) 0 ≡ false = ne_eqb (length (v ∷ vs)) 0 (λ none. omega arith) in absurd cc

pub some_there : (vs : List (Bor VariableDef)) → eqb (length vs) 0 ≡ false → map (λ (v : Bor VariableDef). v.now) vs ≡ [] → ⊥
some_there [] e none = cc
some_there (v ∷ vs) e none = cc

-- The places of schemas and of documents rise with the numbers of their nodes.
use Rattle.std.proofs.Common.{◌≡◌, ◌≤◌, ℕ, zero, suc, List, [], ◌∷◌, Some, refl, sym, subst, inl, inr, arith}
use Rattle.place_order.specs.Rising.{IsNoLater, Rise}
use Rattle.place_order.proofs.TokenOrder.{InOrder, order_append, places_in_order, places_of_file}
use Rattle.plan_ir.proofs.store_model_laws.Least.{Each, each_append, each_so}
use Rattle.plan_ir.specs.gql_ast.declared.document.Document.{Document}
use Rattle.plan_ir.specs.gql_ast.declared.place.FilePlace.{FilePlace}
use Rattle.plan_ir.specs.gql_ast.declared.place.Placed.{Placed}
use Rattle.plan_ir.specs.gql_ast.declared.schema.SchemaTree.{SchemaTree}
use Rattle.plan_ir.specs.gql_lex.Sources.{lex_from}
use Rattle.plan_ir.specs.schema_tables.Types.{Text}
use Rattle.plan_ir.specs.schema_types.DocumentRules.{places_of}
use Rattle.plan_project.specs.Projects.{AreDocuments}
use Rattle.text_places.specs.Naming.{element_at}
use Rattle.plan_project.specs.gql_parse.Documents as documents
use Rattle.plan_project.specs.gql_parse.Trees.{IsDocument}
use Rattle.plan_project.specs.gql_sdl.Schemas as schemas
use Rattle.plan_project.specs.gql_sdl.Trees.{IsSchema}

the_same : (a : FilePlace) → IsNoLater a a
the_same a = inr (refl, inr (refl, omega arith))

no_later : (p : FilePlace) (ps : List FilePlace) → Each (IsNoLater p) ps → (n : ℕ) (b : FilePlace) → element_at ps n ≡ Some b → IsNoLater p b
no_later p [] h n b e = absurd cc
no_later p (q ∷ ps) h zero b e = let s : q ≡ b = cc e in subst (IsNoLater p) s h.0
no_later p (q ∷ ps) h (suc n) b e = no_later p ps h.1 n b e

pub rise : (ps : List FilePlace) → InOrder IsNoLater ps → Rise ps
rise [] h m n a b k e f = absurd cc
rise (p ∷ ps) h zero zero a b k e f = let s : p ≡ a = cc e in let t : p ≡ b = cc f in subst (λ z. IsNoLater z b) s (subst (IsNoLater p) t (the_same p))
rise (p ∷ ps) h zero (suc n) a b k e f = let s : p ≡ a = cc e in subst (λ z. IsNoLater z b) s (no_later p ps h.0 n b f)
rise (p ∷ ps) h (suc m) zero a b k e f = absurd (omega (arith, k))
rise (p ∷ ps) h (suc m) (suc n) a b k e f = rise ps h.1 m n a b (omega (arith, k)) e f

pub schema_rises : (file : ℕ) (text : Text) (p : Placed SchemaTree) → IsSchema file text p → Rise p.places
schema_rises file text p s =
    rise p.places (subst (InOrder IsNoLater) (sym s.tree.places) (places_in_order file text s.tree.utf8 (schemas.nodes_of s.written)))

document_order : (file : ℕ) (text : Text) (p : Placed Document) → IsDocument file text p → InOrder IsNoLater p.places
document_order file text p d = subst (InOrder IsNoLater) (sym d.tree.places) (places_in_order file text d.tree.utf8 (documents.nodes_of d.written))

document_file : (file : ℕ) (text : Text) (p : Placed Document) → IsDocument file text p → Each (λ (q : FilePlace). q.file ≡ file) p.places
document_file file text p d =
    subst (Each (λ (q : FilePlace). q.file ≡ file)) (sym d.tree.places) (places_of_file file text (documents.nodes_of d.written) (lex_from 0 text))

-- documents from a file on stand in that file and later ones
later_files : (file : ℕ) (texts : List Text) (ps : List (Placed Document)) → AreDocuments file texts ps → Each (λ (q : FilePlace). file ≤ q.file) (places_of ps)
later_files file [] [] d = tt
later_files file [] (p ∷ ps) d = absurd d
later_files file (text ∷ texts) [] d = absurd d
later_files file (text ∷ texts) (p ∷ ps) d =
    each_append (λ (q : FilePlace). file ≤ q.file) p.places (places_of ps)
    (each_so (λ (q : FilePlace). q.file ≡ file) (λ (q : FilePlace). file ≤ q.file) p.places (λ q e. omega (arith, e)) (document_file file text p d.0))
    (each_so (λ (q : FilePlace). suc file ≤ q.file) (λ (q : FilePlace). file ≤ q.file) (places_of ps) (λ q h. omega (arith, h)) (later_files (suc file) texts ps d.1))

documents_order : (file : ℕ) (texts : List Text) (ps : List (Placed Document)) → AreDocuments file texts ps → InOrder IsNoLater (places_of ps)
documents_order file [] [] d = tt
documents_order file [] (p ∷ ps) d = absurd d
documents_order file (text ∷ texts) [] d = absurd d
documents_order file (text ∷ texts) (p ∷ ps) d =
    order_append IsNoLater p.places (places_of ps) (document_order file text p d.0) (documents_order (suc file) texts ps d.1)
    (each_so (λ (q : FilePlace). q.file ≡ file) (λ q. Each (IsNoLater q) (places_of ps)) p.places
    (λ q e. each_so (λ (r : FilePlace). suc file ≤ r.file) (IsNoLater q) (places_of ps) (λ r h. inl (omega (arith, e, h))) (later_files (suc file) texts ps d.1))
    (document_file file text p d.0))

pub documents_rise : (file : ℕ) (texts : List Text) (ps : List (Placed Document)) → AreDocuments file texts ps → Rise (places_of ps)
documents_rise file texts ps d = rise (places_of ps) (documents_order file texts ps d)

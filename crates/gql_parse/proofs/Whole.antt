-- The text of a file as a document.
use Rattle.std.proofs.Common.{◌≡◌, ℕ, List, [], map, Result, Ok, IsUtf8, length, refl, sym, ap, subst, ◌∙◌}
use Rattle.gql_syntax.specs.gql_lex.Sources.{lex_from}
use Rattle.gql_syntax.specs.gql_ast.declared.document.Definition.{Definition}
use Rattle.gql_syntax.specs.gql_ast.declared.document.Document.{Document}
use Rattle.gql_syntax.specs.gql_ast.declared.fault.ParseFault.TheVariants as parse
use Rattle.gql_syntax.specs.gql_ast.declared.place.FilePlace.{FilePlace}
use Rattle.gql_syntax.specs.gql_ast.declared.place.Placed.{Placed}
use Rattle.gql_parse.specs.Documents.{Written, definition_of, documents, nodes_of}
use Rattle.gql_parse.specs.Reads.{run_on, Fails, ReadDocument}
use Rattle.gql_parse.specs.Machine.{between, advance, finish}
use Rattle.gql_parse.specs.Trees.{IsDocument}
use Rattle.gql_syntax.specs.Answers.{Tells, LiesIn, fault_in}
use Rattle.gql_syntax.specs.Places.{Ahead}
use Rattle.gql_syntax.specs.Reads.{Anywhere}
use Rattle.gql_syntax.specs.Run.{Stopped}
use Rattle.gql_syntax.specs.Texts.{nesting_limit, IsParseFault}
use Rattle.gql_syntax.specs.declared.fault.Fault.{Fault}
use Rattle.gql_syntax.specs.declared.fault.Fault.TheVariants as fault
use Rattle.gql_parse.proofs.DocumentLaws.{document_laws}
use Rattle.gql_parse.proofs.Standing.{document_machine}
use Rattle.gql_syntax.proofs.Lying.{fault_lies}
use Rattle.gql_syntax.proofs.Reading.{tree_found, tree_only, one_tree, parse_fault_found}

-- where a file begins
abbrev pub beginning : (file : ℕ) → List ℕ → Ahead
beginning file text = record { file = file; text = text; source = lex_from 0 text; places = [] }

-- what is read of the text
abbrev pub reading : List ℕ → Result (List Written) Stopped
reading text = run_on (length text) (between []) (lex_from 0 text)

abbrev pub document_with : List Definition → List FilePlace → Placed Document
document_with ds places = record { tree = record { definitions = ds }; places = places }

pub document_found : (file : ℕ) (text : List ℕ) (from to : Ahead) (ds : List Definition) (places : List FilePlace) → IsUtf8 text → from ≡ beginning file text → ReadDocument from to ds → places ≡ to.places
    → IsDocument file text (document_with ds places)
document_found file text from to ds places u e h p =
    let r : ReadDocument (beginning file text) to ds = subst (λ a. ReadDocument a to ds) e h in
    record {
      written = r.written;
      tree = tree_found documents document_machine document_laws nodes_of file text r.written places u (r.read (length text) refl) (p ∙ sym r.nodes);
      definitions = sym r.viewed;
    }

-- a text is one document only
pub one_document : (file : ℕ) (text : List ℕ) (p q : Placed Document) → IsDocument file text p → IsDocument file text q → p ≡ q
one_document file text p q h k =
    let same : h.written ≡ k.written = one_tree documents document_machine document_laws nodes_of file text h.written k.written p.places q.places h.tree k.tree in
    let definitions : p.tree.definitions ≡ q.tree.definitions = h.definitions ∙ ap (λ ws. map definition_of ws) same ∙ sym k.definitions in
    let places : p.places ≡ q.places = h.tree.places ∙ ap (λ ws. Rattle.gql_syntax.specs.Places.place_nodes file text [] (nodes_of ws) (lex_from 0 text)) same ∙ sym k.tree.places in
    λ i. record { tree = record { definitions = definitions i }; places = places i }

pub tells_reading : (file : ℕ) (text : List ℕ) (from : Ahead) (f : Fault) → from ≡ beginning file text → Fails {K = Unit {0}} Anywhere (λ u. between []) from f → Tells f (reading text)
tells_reading file text from (fault.Wrong code at) e h =
    let x : Fails {K = Unit {0}} Anywhere (λ u. between []) (beginning file text) (fault.Wrong code at) = subst (λ a. Fails {K = Unit {0}} Anywhere (λ u. between []) a (fault.Wrong code at)) e h in
    x tt (length text) refl tt
tells_reading file text from fault.NoMemory e h = tt

pub fault_in_text : (text : List ℕ) (f : Fault) → IsUtf8 text → Tells f (reading text) → LiesIn text f
fault_in_text text f u t = fault_lies (advance nesting_limit) finish text u (between []) f t

pub no_document : (file : ℕ) (text : List ℕ) (p : Placed Document) (f : Fault) → IsDocument file text p → Tells f (reading text) → fault_in file text f ≡ parse.NoMemory
no_document file text p (fault.Wrong code at) h t =
    let read : reading text ≡ Ok h.written = tree_only documents document_machine document_laws nodes_of file text h.written p.places h.tree in cc
no_document file text p fault.NoMemory h t = refl

pub fault_found : (file : ℕ) (text : List ℕ) (f : Fault) → IsUtf8 text → Tells f (reading text) → IsParseFault documents file text (fault_in file text f)
fault_found file text (fault.Wrong code at) u t =
    parse_fault_found documents document_machine document_laws file text _ at u t refl refl refl
fault_found file text fault.NoMemory u t = tt

use Rattle.std.proofs.Common.{◌≡◌, IsUtf8, Ok, Err, sym, ap, subst, ◌∙◌, inl, inr}
use Rattle.gql_syntax.specs.gql_ast.declared.document.Document.{Document}
use Rattle.gql_syntax.specs.gql_ast.declared.place.Placed.{Placed}
use Rattle.gql_parse.specs.Documents.{documents}
use Rattle.gql_parse.specs.Trees.{IsDocument}
use Rattle.gql_syntax.specs.Texts.{IsParseFault}
use Rattle.gql_parse.proofs.Whole.{document_with, document_found, one_document, tells_reading, fault_in_text, no_document, fault_found}
use Rattle.gql_syntax.proofs.Judging.{tells_text}
use Rattle.gql_parse.proofs.parse_document.Goals as goal

pub in_text-requires-clause-lies : goal.in_text-requires-clause-lies
in_text-requires-clause-lies c =
    let utf8 : IsUtf8 c.in_ok-text.text.now = subst IsUtf8 (sym c.in_ok-text.ensures.text) c.in_ok-text.ensures.utf8 in
    fault_in_text c.in_ok-text.text.now c.in-Err.fault utf8 (tells_reading c.args.file c.in_ok-text.text.now c.new-cursor.result c.in-Err.fault c.new-cursor.ensures c.in-Err.ensures.reads)

pub returns-in-Ok-clause-found : goal.returns-in-Ok-clause-found
returns-in-Ok-clause-found c =
    let utf8 : IsUtf8 c.in_ok-text.text.now = subst IsUtf8 (sym c.in_ok-text.ensures.text) c.in_ok-text.ensures.utf8 in
    let same : c.in_ok-text.text.now ≡ c.args.bytes.now = c.in_ok-text.ensures.text in
    subst (λ t. IsDocument c.args.file t (document_with c.in-Ok.definitions c.into_places.result)) same
    (document_found c.args.file c.in_ok-text.text.now c.new-cursor.result c.read_definitions.new.cursor c.in-Ok.definitions c.into_places.result utf8 c.new-cursor.ensures c.in-Ok.ensures.reads c.into_places.ensures)

pub returns-in-Ok-clause-only : goal.returns-in-Ok-clause-only
returns-in-Ok-clause-only c = λ p h.
    let utf8 : IsUtf8 c.in_ok-text.text.now = subst IsUtf8 (sym c.in_ok-text.ensures.text) c.in_ok-text.ensures.utf8 in
    let same : c.in_ok-text.text.now ≡ c.args.bytes.now = c.in_ok-text.ensures.text in
    inr (ap (λ q. Ok q) (one_document c.args.file c.args.bytes.now (document_with c.in-Ok.definitions c.into_places.result) p
    (subst (λ t. IsDocument c.args.file t (document_with c.in-Ok.definitions c.into_places.result)) same
    (document_found c.args.file c.in_ok-text.text.now c.new-cursor.result c.read_definitions.new.cursor c.in-Ok.definitions c.into_places.result utf8 c.new-cursor.ensures c.in-Ok.ensures.reads c.into_places.ensures))
    h))

pub returns-in-Err-clause-only : goal.returns-in-Err-clause-only
returns-in-Err-clause-only c = λ p h.
    let same : c.in_ok-text.text.now ≡ c.args.bytes.now = c.in_ok-text.ensures.text in
    inl (ap (λ f. Err f) (c.in_text.ensures ∙ no_document c.args.file c.in_ok-text.text.now p c.in-Err.fault (subst (λ t. IsDocument c.args.file t p) (sym same) h)
    (tells_reading c.args.file c.in_ok-text.text.now c.new-cursor.result c.in-Err.fault c.new-cursor.ensures c.in-Err.ensures.reads)))

pub returns-in-Err-clause-fault : goal.returns-in-Err-clause-fault
returns-in-Err-clause-fault c =
    let utf8 : IsUtf8 c.in_ok-text.text.now = subst IsUtf8 (sym c.in_ok-text.ensures.text) c.in_ok-text.ensures.utf8 in
    let same : c.in_ok-text.text.now ≡ c.args.bytes.now = c.in_ok-text.ensures.text in
    subst (λ f. IsParseFault documents c.args.file c.args.bytes.now f) (sym c.in_text.ensures)
    (subst (λ t. IsParseFault documents c.args.file t (Rattle.gql_syntax.specs.Answers.fault_in c.args.file c.in_ok-text.text.now c.in-Err.fault)) same
    (fault_found c.args.file c.in_ok-text.text.now c.in-Err.fault utf8 (tells_reading c.args.file c.in_ok-text.text.now c.new-cursor.result c.in-Err.fault c.new-cursor.ensures c.in-Err.ensures.reads)))

pub returns-in-Err-clause-text : goal.returns-in-Err-clause-text
returns-in-Err-clause-text c =
    let utf8 : IsUtf8 c.in_ok-text.text.now = subst IsUtf8 (sym c.in_ok-text.ensures.text) c.in_ok-text.ensures.utf8 in
    let same : c.in_ok-text.text.now ≡ c.args.bytes.now = c.in_ok-text.ensures.text in
    tells_text documents (Placed Document) c.args.file c.args.bytes.now c.in_text.result c.in_ok-text.ensures.utf8
    (subst (λ f. IsParseFault documents c.args.file c.args.bytes.now f) (sym c.in_text.ensures)
    (subst (λ t. IsParseFault documents c.args.file t (Rattle.gql_syntax.specs.Answers.fault_in c.args.file c.in_ok-text.text.now c.in-Err.fault)) same
    (fault_found c.args.file c.in_ok-text.text.now c.in-Err.fault utf8 (tells_reading c.args.file c.in_ok-text.text.now c.new-cursor.result c.in-Err.fault c.new-cursor.ensures c.in-Err.ensures.reads))))

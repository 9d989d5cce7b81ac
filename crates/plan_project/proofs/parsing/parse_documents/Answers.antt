use Rattle.std.proofs.Common.{rules, ◌≡◌, ◌+◌, [], ◌∷◌, ◌++◌, drop, ap, subst, sym, arith}
use Rattle.std.proofs.lemmas.List.{drop_all}
use Rattle.plan_ir.specs.gql_ast.declared.document.Document.{Document}
use Rattle.plan_ir.specs.gql_ast.declared.fault.ParseFault.TheVariants.{NoMemory}
use Rattle.plan_ir.specs.gql_ast.declared.place.Placed.{Placed}
use Rattle.text_places.specs.gql_parse.Trees.{IsDocument}
use Rattle.plan_project.proofs.DocumentLaws.{ReadSoFar, only_of, read-step, read-fault, read-all}
use Rattle.plan_project.proofs.parsing.parse_documents.Goals as goal
use Rattle.plan_project.specs.Verdicts.{texts_of}

pub returns-in-Err-clause-fault : goal.returns-in-Err-clause-fault
returns-in-Err-clause-fault c =
    read-fault 1 c.args.documents.now c.documents.trees (c.documents.file + 1) c.documents.document-index c.document-item.result c.as_bytes.result.now c.in-Err.fault
    c.documents.invariant.so_far c.documents-test.true c.document-item.is c.as_bytes.ensures.value c.in-Err.ensures.fault

pub documents-preserved : goal.documents-preserved
documents-preserved c =
    let file = c.documents.file + 1 in
    let bytes = c.as_bytes.result.now in
    let tree = c.in-Ok.tree in
    let only : (q : Placed Document) → IsDocument file bytes q → q ≡ tree =
    only_of (IsDocument file bytes) c.parse_document.result tree NoMemory c.parse_document.ensures.only c.in-Ok.is in
    let pushed : c.push.new.self ≡ c.documents.trees ++ tree ∷ [] = search rules in
    let so_far = read-step 1 c.args.documents.now c.documents.trees file c.documents.document-index c.document-item.result bytes (file + 1) tree (omega arith)
    c.documents.invariant.so_far c.documents-test.true c.document-item.is c.as_bytes.ensures.value c.in-Ok.ensures.found only in
    record {
      so_far = subst (λ ps. ReadSoFar 1 (texts_of c.args.documents.now) ps (file + 1) (texts_of (drop (c.documents.document-index + 1) c.args.documents.now))) (sym pushed) so_far;
      numbered = let same = c.documents.invariant.numbered in omega (arith, same);
    }

pub returns-clause-found : goal.returns-clause-found
returns-clause-found c =
    read-all 1 (texts_of c.args.documents.now) c.documents.trees (c.documents.file + 1) (texts_of (drop c.documents.document-index c.args.documents.now))
    (ap texts_of (drop_all c.documents.document-index c.args.documents.now c.documents-test.false)) c.documents.invariant.so_far

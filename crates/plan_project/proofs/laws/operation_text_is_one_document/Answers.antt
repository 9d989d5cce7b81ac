use Rattle.plan_project.proofs.TextsAreDocuments.{texts_are_documents}
use Rattle.plan_project.proofs.laws.operation_text_is_one_document.Goals as goal

pub returns : goal.returns
returns c = λ schema texts defs ps accepted name w is file. texts_are_documents schema texts defs ps accepted name w is file

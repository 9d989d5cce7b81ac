-- The text of an operation says it.
use Rattle.gql_parse.proofs.Whole.{one_document}
use Rattle.plan_ir.specs.Expansion.{whole_operation}
use Rattle.plan_ir.specs.OperationText.{operation_text}
use Rattle.plan_ir.specs.declared.expanded.Expanded.{Expanded}
use Rattle.plan_collect.proofs.Collects.{text_collects_the_same}
use Rattle.plan_text.proofs.OperationRead.{spells_printed}
use Rattle.plan_text.proofs.PrintedForms.{is_one_document}
use Rattle.plan_text.specs.Documents.{document_of}
use Rattle.plan_text.specs.Saying.{TextSaysTheOperation}

pub text_says_the_operation : TextSaysTheOperation
text_says_the_operation p o formed utf8 shallow =
    let e : Expanded = (whole_operation p o).expanded in
    record {
      spells = spells_printed e formed;
      reads = λ file.
          let is = is_one_document file e formed utf8 shallow in
          record { is = is; only = λ other there. one_document file (operation_text e) other (document_of file e) there is };
      collects = text_collects_the_same p o;
    }

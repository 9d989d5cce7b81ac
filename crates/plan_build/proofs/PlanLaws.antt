-- What plans of suited operations mean and reach; operations of documents are suited.
use Rattle.std.proofs.Common.{sym, ◌∙◌}
use Rattle.plan_build.proofs.DocumentsAsNodes.{documents_are_nodes}
use Rattle.plan_build.proofs.FieldsAlike.{merging_fields_are_alike}
use Rattle.plan_build.proofs.Reaches.{documents_reach_nodes}
use Rattle.plan_build.proofs.SuitedOperations.{operations_are_suited}
use Rattle.plan_build.specs.Laws.{PlansMeanDocuments, PlansMeanSuitedOperations, PlansReachDocuments, PlansReachSuitedOperations, definitions}
use Rattle.plan_ir.specs.Expansion.{Project, project_of, whole_operation}

-- ---- any operation

pub plans_mean_suited_operations : PlansMeanSuitedOperations
plans_mean_suited_operations p added o plan sound suited alike means own response = means sound suited alike own response ∙ sym (documents_are_nodes p added o own response)

pub plans_reach_suited_operations : PlansReachSuitedOperations
plans_reach_suited_operations p added o plan sound suited alike reaches own m id j = reaches sound suited alike own m id j ∙ sym (documents_reach_nodes p added o own m id j)

-- ---- those of documents

pub plans_mean_documents : PlansMeanDocuments
plans_mean_documents defs ps place added name o plan sound rules found none means own response =
    let p : Project = project_of defs place (definitions defs ps) in
    plans_mean_suited_operations p added o plan sound (operations_are_suited defs ps place name o sound rules found) (merging_fields_are_alike defs (whole_operation p o).expanded none) means own response

pub plans_reach_documents : PlansReachDocuments
plans_reach_documents defs ps place added name o plan sound rules found none reaches own m id j =
    let p : Project = project_of defs place (definitions defs ps) in
    plans_reach_suited_operations p added o plan sound (operations_are_suited defs ps place name o sound rules found) (merging_fields_are_alike defs (whole_operation p o).expanded none) reaches own m id j

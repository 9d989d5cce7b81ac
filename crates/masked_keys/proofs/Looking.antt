-- What reads along documents, and reads by plans, look at.
use Rattle.std.proofs.Common.{◌≡◌, ◌+◌, ℕ, List, [], ◌∷◌, Some, subst, sym}
use Rattle.masked_keys.proofs.Standing.{keys_stand}
use Rattle.masked_keys.specs.Laws.{FragmentPlansLookAtTheirKeys, FragmentsLookAtTheirKeys, LooksAtFragment, LooksAtOperation, OperationPlansLookAtTheirKeys, OperationsLookAtTheirKeys, SuitedFragmentPlansLookAtTheirKeys, SuitedOperationPlansLookAtTheirKeys}
use Rattle.plan_ir.specs.Expansion.{name_or, project_of}
use Rattle.plan_ir.specs.schema_tables.Types.{possible, root}
use Rattle.plan_ir.specs.store_model.Walks.{type_of_record}
use Rattle.plan_read.proofs.ReaderLaws.{readers_mean_fragments, readers_mean_operations, readers_mean_suited_fragments, readers_mean_suited_operations}
use Rattle.plan_read.specs.plan_build.Laws.{definitions}
use Rattle.relay_model.specs.Collection.{part_of}
use Rattle.relay_model.specs.Readings.{depth_of, fragment_part, masked_setting, with_marked}

pub operations_look : OperationsLookAtTheirKeys
operations_look p o own owner m id =
    keys_stand p own (type_of_record (name_or (root p.defs o.kind))) owner m
    (depth_of (part_of (masked_setting p own) o).spreads p (part_of (masked_setting p own) o).selections + 1) (name_or (root p.defs o.kind) ∷ []) (part_of (masked_setting p own) o) id

pub fragments_look : FragmentsLookAtTheirKeys
fragments_look p f operation_type own scope owner m id =
    keys_stand p (with_marked own scope) (type_of_record operation_type) owner m
    (depth_of (fragment_part p f own scope).spreads p (fragment_part p f own scope).selections + 1) (possible p.defs f.on.name) (fragment_part p f own scope) id

pub suited_operation_plans_look : SuitedOperationPlansLookAtTheirKeys
suited_operation_plans_look p o sound constant suited alike own owner m id =
    subst (LooksAtOperation p o own) (sym (readers_mean_suited_operations p o sound constant suited alike own owner m id)) (operations_look p o own owner m id)

pub suited_fragment_plans_look : SuitedFragmentPlansLookAtTheirKeys
suited_fragment_plans_look p f sound constant suited alike operation_type own scope locals owner m id =
    subst (LooksAtFragment p f own scope) (sym (readers_mean_suited_fragments p f sound constant suited alike operation_type own scope locals owner m id))
    (fragments_look p f operation_type own scope owner m id)

pub operation_plans_look : OperationPlansLookAtTheirKeys
operation_plans_look defs ps place name o sound rules found none own owner m id =
    subst (LooksAtOperation (project_of defs place (definitions defs ps)) o own)
    (sym (readers_mean_operations defs ps place name o sound rules found none own owner m id))
    (operations_look (project_of defs place (definitions defs ps)) o own owner m id)

pub fragment_plans_look : FragmentPlansLookAtTheirKeys
fragment_plans_look defs ps place name f sound rules found none operation_type own scope locals owner m id =
    subst (LooksAtFragment (project_of defs place (definitions defs ps)) f own scope)
    (sym (readers_mean_fragments defs ps place name f sound rules found none operation_type own scope locals owner m id))
    (fragments_look (project_of defs place (definitions defs ps)) f operation_type own scope owner m id)

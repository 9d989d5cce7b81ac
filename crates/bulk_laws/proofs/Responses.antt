-- What the operation of the large script finds in the responses of its lines: no fault.
use Rattle.std.proofs.Common.{◌≡◌, ◌<◌, ◌^◌, ℕ, [], ◌∷◌, Some, None, cond, codes, refl, lt-ltb, arith}
use Rattle.std.specs.Fmt.{decimal}
use Rattle.std.specs.Prelude.{bytes_eq, pos}
use Rattle.bulk_laws.proofs.Conflicts.{AreOf, is_content}
use Rattle.bulk_laws.proofs.ReadLines.{age_response, friend_response}
use Rattle.bulk_laws.proofs.Steps.{the_handle}
use Rattle.bulk_laws.specs.BulkProject.{bulk_defs, bulk_operation, bulk_project}
use Rattle.plan_ir.specs.gql_lex.Heads.{head}
use Rattle.plan_ir.specs.gql_lex.Sources.{read}
use Rattle.plan_ir.specs.gql_plain.declared.plain.Plain.TheVariants.{Int, Text as Words}
use Rattle.plan_ir.specs.Expansion.{operation_named, variable_trees}
use Rattle.relay_machine.specs.Machine.{definitions_in, documents_of, said_to}
use Rattle.relay_machine.specs.relay_model.Collection.{collect, part_of}
use Rattle.relay_machine.specs.relay_model.Readings.{no_place}
use Rattle.relay_machine.specs.relay_model.Responses.{whole_setting}
use Rattle.plan_ir.specs.schema_tables.Types.{Text}
use Rattle.plan_ir.specs.schema_types.Environments.{first_failure}
use Rattle.plan_ir.specs.schema_types.NameRules.{operations}
use Rattle.plan_ir.specs.schema_types.Sites.{OperationAt, operation_at}
use Rattle.serde_json.proofs.OnLiterals.{serde_json_on_literals}
use Rattle.serde_json.specs.Data as J
use Rattle.plan_ir.specs.store_model.Said.{Said}
use Rattle.plan_ir.specs.store_model.Says.{Report, response_says}
use Rattle.plan_ir.specs.store_model.Verdicts.{content}
use Rattle.plan_ir.specs.store_record.declared.field.Field.{Field}
use Rattle.plan_ir.specs.store_record.declared.field.Field.TheVariants.{Leaf, Link}

-- the operation of the document
abbrev pub bulk_at : OperationAt
bulk_at = operation_at bulk_defs 1 bulk_operation

pub operation_is_found : operation_named (operations (definitions_in bulk_project)) (codes "B") ≡ Some bulk_at
operation_is_found = refl

pub no_variables_fail : first_failure bulk_defs (variable_trees bulk_at.variables) [] ≡ None
no_variables_fail = refl

abbrev report_of : J.Data → Report
report_of response =
    response_says (collect (whole_setting (documents_of bulk_project) no_place [])) (codes "Query")
    (part_of (whole_setting (documents_of bulk_project) no_place []) bulk_at ∷ []) response

-- the value of each field, by the id and the key
abbrev value_at : (age : ℕ) → Text → Text → Field
value_at age id key =
    cond (bytes_eq key (codes "__typename")) (Leaf (Words (cond (bytes_eq id (codes "client:root")) (codes "__Root") (codes "User"))))
    (cond (bytes_eq key (codes "id")) (Leaf (Words id))
    (cond (bytes_eq key (codes "age")) (Leaf (Int (pos age)))
    (cond (bytes_eq key (codes "me")) (Link (codes "m")) (Link (117 ∷ decimal age)))))

age_faults : (age : ℕ) → age < 1000 → (report_of (age_response age)).faults ≡ []
unfolding serde_json_on_literals read head
age_faults age h = rw (lt-ltb age (2 ^ 63) (omega arith)) refl

age_puts : (age : ℕ) → age < 1000 → AreOf (value_at age) (report_of (age_response age)).puts
unfolding serde_json_on_literals read head
age_puts age h = rw (lt-ltb age (2 ^ 63) (omega arith)) (refl, (refl, (refl, (refl, (refl, tt)))))

friend_faults : (age : ℕ) → age < 1000 → (report_of (friend_response age)).faults ≡ []
unfolding serde_json_on_literals read head
friend_faults age h = rw (lt-ltb age (2 ^ 63) (omega arith)) refl

friend_puts : (age : ℕ) → age < 1000 → AreOf (value_at age) (report_of (friend_response age)).puts
unfolding serde_json_on_literals read head
friend_puts age h = rw (lt-ltb age (2 ^ 63) (omega arith)) (refl, (refl, (refl, (refl, (refl, (refl, (refl, (refl, (refl, tt)))))))))

abbrev pub IsTaken : J.Data → Type 0
IsTaken response = (said : Said) × (said_to bulk_project (the_handle bulk_at) response ≡ content said)

pub age_is_taken : (age : ℕ) → age < 1000 → IsTaken (age_response age)
age_is_taken age h = (_, is_content (value_at age) (report_of (age_response age)) (age_faults age h) (age_puts age h))

pub friend_is_taken : (age : ℕ) → age < 1000 → IsTaken (friend_response age)
friend_is_taken age h = (_, is_content (value_at age) (report_of (friend_response age)) (friend_faults age h) (friend_puts age h))

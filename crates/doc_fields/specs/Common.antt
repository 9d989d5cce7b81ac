-- Pairs of types that are known to have a possible type in common.
use Rattle.std.specs.Prelude.{◌≡◌, true, List, Option, Some, None}
use Rattle.std.specs.BTreeMap.{get_by}
use Rattle.std.specs.Cmp.Lexicographic.{slice_cmp}
use Rattle.std.specs.Ordering.{nat_cmp}
use Rattle.doc_sites.specs.gql_plain.Order.{has_text}
use Rattle.doc_sites.specs.schema_types.FieldRules.{have_common_type}
use Rattle.doc_sites.specs.gql_graph.Seen.{Knows}
use Rattle.doc_sites.specs.schema_tables.Types.{Text, Defs}
use Rattle.doc_sites.specs.gql_graph.declared.seen.Seen.{Seen}
use Rattle.doc_fields.specs.declared.common_types.CommonTypes.{CommonTypes}

-- a type has one in common with each of these
abbrev pub IsCommonWith : Defs → (of : Text) → Seen → Type 0
IsCommonWith defs of seen = (ns : List Text) × Knows seen.names ns × ((on : Text) → has_text ns on ≡ true → have_common_type defs of on ≡ true)

abbrev pub IsCommonIn : Defs → (of : Text) → Option Seen → Type 0
IsCommonIn defs of None = Unit {0}
IsCommonIn defs of (Some seen) = IsCommonWith defs of seen

abbrev pub AreCommon : Defs → CommonTypes → Type 0
AreCommon defs common = (of : Text) → IsCommonIn defs of (get_by (λ k. slice_cmp nat_cmp of k.now) common.by_type)

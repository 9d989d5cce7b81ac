-- In a sound schema an object type is alone, each object type has its own name, and a type that is no composite one may be no object type.
use Rattle.std.proofs.Common.{◌≡◌, ℕ, ◌+◌, Bool, true, false, true≢false, not, ◌||◌, cond, List, [], ◌∷◌, ◌++◌, Option, Some, None, option_map, bytes_eq, refl, ap, sym, subst, ◌∙◌}
use Rattle.std.proofs.lemmas.Bool.{or_parts}
use Rattle.std.specs.List.{filter, filter_map}
use Rattle.std.specs.Option.{option_and_then}
use Rattle.plan_ir.specs.gql_ast.declared.schema.SchemaDef.{SchemaDef}
use Rattle.plan_ir.specs.gql_ast.declared.schema.SchemaDef.TheVariants as S
use Rattle.plan_ir.proofs.gql_graph_laws.TextSteps.{either_of, same_text}
use Rattle.plan_ir.proofs.gql_plain_laws.Booleans.{or_true}
use Rattle.plan_ir.proofs.gql_plain_laws.SortedTexts.{has_text-sorted_texts}
use Rattle.plan_ir.specs.gql_plain.Order.{has_text}
use Rattle.plan_ir.specs.schema_rules.Checked.{IsSound}
use Rattle.plan_ir.specs.schema_rules.Rules.{further_schemas, has_effect, is_object, names_not_unique, repeated_kinds, rules}
use Rattle.plan_ir.specs.schema_tables.BuiltIn.{is_built_in_directive}
use Rattle.plan_ir.specs.schema_tables.Types.{Text, Defs, applies, built_in_scalars, is_built_in_scalar, is_composite, is_composite_kind, is_interface_kind, is_kind, is_object_kind, implements, kind_of, object_name, possible, type_named, type_of, union_members_named}
use Rattle.plan_ir.specs.schema_tables.declared.kind.TypeKind.{TypeKind}
use Rattle.plan_ir.specs.schema_tables.declared.kind.TypeKind.TheVariants.{Scalar}
use Rattle.plan_ir.specs.schema_tables.declared.kind.TypeKind.TheVariants as kinds
use Rattle.plan_ir.specs.schema_trees.DefinitionParts.{directive_name_of, repeated_names, repeats, roots_in, type_name_of}
use Rattle.plan_ir.specs.schema_trees.Located.{Located, DefAt, def_at, def_nodes, defs_at, locate, name_at}
use Rattle.plan_ir.specs.gql_graph.Rules.{each}
use Rattle.plan_build.proofs.Covariance.{possible_in_object, possible_is}
use Rattle.plan_build.proofs.CovarianceLists.{all_hold, in_filter, none_first}
use Rattle.plan_build.proofs.CovarianceRules.{SchemaMeets, implemented, sound_meets}
use Rattle.plan_build.proofs.StepLaws.{AreSound}

-- ---- S1: the names of types differ, from each other and from the built-in scalars

abbrev names_in : ℕ → Defs → List Located
names_in from defs = filter_map type_name_of (filter has_effect (defs_at from defs))

abbrev first_kind : SchemaDef → Defs → Text → Bool → Option TypeKind
first_kind d defs n b = option_map (λ (t : Text × TypeKind). t.1) (option_and_then type_of (cond b (Some d) (type_named defs n)))

abbrev kind_among : Defs → Text → Option TypeKind
kind_among defs n = option_map (λ (t : Text × TypeKind). t.1) (option_and_then type_of (type_named defs n))

abbrev HasScalars : List Text → Type 0
HasScalars before = (t : Text) → is_built_in_scalar t ≡ true → has_text before t ≡ true

-- a name that comes next is new
pub record IsNew (before : List Text) (n : Text) (more : List Located) : Type 0 where
  pub new : has_text before n ≡ false
  pub rest : repeats (n ∷ before) more ≡ []

is_new : (before : List Text) (n : Text) (at : ℕ) (rest : List Located) → repeats before (name_at at n ∷ rest) ≡ [] → IsNew before n rest
is_new before n at rest e = on (has_text before n) refl e where
  on : (b : Bool) → has_text before n ≡ b → cond b ((name_at at n).at ∷ repeats before rest) (repeats (n ∷ before) rest) ≡ [] → IsNew before n rest
  on true h k = absurd cc
  on false h k = record { new = h; rest = k }

more_scalars : (before : List Text) (n : Text) → HasScalars before → HasScalars (n ∷ before)
more_scalars before n h t e = ap (λ (b : Bool). bytes_eq n t || b) (h t e) ∙ or_true (bytes_eq n t)

-- an object type whose name is not among these
abbrev IsFirst : List Text → Defs → Text → Type 0
IsFirst before defs T = (has_text before T ≡ false) × (is_kind is_object_kind (kind_among defs T) ≡ true)

-- behind a definition of another type
behind_other : (before : List Text) (d : SchemaDef) (defs : Defs) (n T : Text) → IsFirst (n ∷ before) defs T
    → (has_text before T ≡ false) × (is_kind is_object_kind (first_kind d defs T (bytes_eq n T)) ≡ true)
behind_other before d defs n T h =
    let parts = or_parts (bytes_eq n T) (has_text before T) h.0 in
    (parts.1, ap (λ (b : Bool). is_kind is_object_kind (first_kind d defs T b)) parts.0 ∙ h.1)

object_first : (defs : Defs) (from : ℕ) (before : List Text) → HasScalars before → repeats before (names_in from defs) ≡ [] → (T : Text) → has_text (filter_map object_name defs) T ≡ true
    → IsFirst before defs T
object_first [] from before scalars e T h = absurd (true≢false (sym h))
object_first (S.Schema ds rs ∷ defs) from before scalars e T h = object_first defs (from + def_nodes (S.Schema ds rs)) before scalars e T h
object_first (S.Directive n xs r ls ∷ defs) from before scalars e T h =
    on (λ k. object_first defs (from + def_nodes (S.Directive n xs r ls)) before scalars k T h) (is_built_in_directive n) e
  where
    on : (repeats before (names_in (from + def_nodes (S.Directive n xs r ls)) defs) ≡ [] → IsFirst before defs T) → (b : Bool)
        → repeats before (filter_map type_name_of (cond (not b) (def_at from (S.Directive n xs r ls) ∷ filter has_effect (defs_at (from + def_nodes (S.Directive n xs r ls)) defs))
        (filter has_effect (defs_at (from + def_nodes (S.Directive n xs r ls)) defs)))) ≡ []
        → IsFirst before defs T
    on later true k = later k
    on later false k = later k
object_first (S.Scalar n ds ∷ defs) from before scalars e T h =
    on (λ k. object_first defs (from + def_nodes (S.Scalar n ds)) before scalars k T h)
    (λ k. object_first defs (from + def_nodes (S.Scalar n ds)) (n ∷ before) (more_scalars before n scalars) k T h) (is_built_in_scalar n) refl e
  where
    rest : List DefAt
    rest = filter has_effect (defs_at (from + def_nodes (S.Scalar n ds)) defs)

    other : IsFirst before defs T → is_built_in_scalar n ≡ true → (b : Bool) → bytes_eq n T ≡ b → b ≡ false
    other first built true k = absurd (true≢false (sym (scalars T (ap is_built_in_scalar (sym (same_text n T k)) ∙ built)) ∙ first.0))
    other first built false k = refl

    built_in : IsFirst before defs T → is_built_in_scalar n ≡ true → IsFirst before (S.Scalar n ds ∷ defs) T
    built_in first built = (first.0, ap (λ (b : Bool). is_kind is_object_kind (first_kind (S.Scalar n ds) defs T b)) (other first built (bytes_eq n T) refl) ∙ first.1)

    own : (repeats (n ∷ before) (filter_map type_name_of rest) ≡ [] → IsFirst (n ∷ before) defs T) → IsNew before n (filter_map type_name_of rest) → IsFirst before (S.Scalar n ds ∷ defs) T
    own later new = behind_other before (S.Scalar n ds) defs n T (later new.rest)

    on : (repeats before (filter_map type_name_of rest) ≡ [] → IsFirst before defs T) → (repeats (n ∷ before) (filter_map type_name_of rest) ≡ [] → IsFirst (n ∷ before) defs T)
        → (b : Bool) → is_built_in_scalar n ≡ b → repeats before (filter_map type_name_of (cond (not b) (def_at from (S.Scalar n ds) ∷ rest) rest)) ≡ []
        → IsFirst before (S.Scalar n ds ∷ defs) T
    on same later true built k = built_in (same k) built
    on same later false built k = own later (is_new before n from (filter_map type_name_of rest) k)
object_first (S.Object n is ds fs ∷ defs) from before scalars e T h =
    on (is_new before n from (names_in (from + def_nodes (S.Object n is ds fs)) defs) e)
    (λ k j. object_first defs (from + def_nodes (S.Object n is ds fs)) (n ∷ before) (more_scalars before n scalars) k T j) (bytes_eq n T) refl h
  where
    d : SchemaDef
    d = S.Object n is ds fs

    on : IsNew before n (names_in (from + def_nodes (S.Object n is ds fs)) defs)
        → (repeats (n ∷ before) (names_in (from + def_nodes (S.Object n is ds fs)) defs) ≡ [] → has_text (filter_map object_name defs) T ≡ true → IsFirst (n ∷ before) defs T)
        → (b : Bool) → bytes_eq n T ≡ b → (b || has_text (filter_map object_name defs) T) ≡ true → IsFirst before (S.Object n is ds fs ∷ defs) T
    on new later true k j =
        (ap (has_text before) (sym (same_text n T k)) ∙ new.new, ap (λ (b : Bool). is_kind is_object_kind (first_kind (S.Object n is ds fs) defs T b)) k)
    on new later false k j = behind_other before (S.Object n is ds fs) defs n T (later new.rest j)
object_first (S.Interface n is ds fs ∷ defs) from before scalars e T h =
    let new = is_new before n from (names_in (from + def_nodes (S.Interface n is ds fs)) defs) e in
    behind_other before (S.Interface n is ds fs) defs n T
    (object_first defs (from + def_nodes (S.Interface n is ds fs)) (n ∷ before) (more_scalars before n scalars) new.rest T h)
object_first (S.Union n ds ms ∷ defs) from before scalars e T h =
    let new = is_new before n from (names_in (from + def_nodes (S.Union n ds ms)) defs) e in
    behind_other before (S.Union n ds ms) defs n T (object_first defs (from + def_nodes (S.Union n ds ms)) (n ∷ before) (more_scalars before n scalars) new.rest T h)
object_first (S.Enum n ds vs ∷ defs) from before scalars e T h =
    let new = is_new before n from (names_in (from + def_nodes (S.Enum n ds vs)) defs) e in
    behind_other before (S.Enum n ds vs) defs n T (object_first defs (from + def_nodes (S.Enum n ds vs)) (n ∷ before) (more_scalars before n scalars) new.rest T h)
object_first (S.Input n ds fs ∷ defs) from before scalars e T h =
    let new = is_new before n from (names_in (from + def_nodes (S.Input n ds fs)) defs) e in
    behind_other before (S.Input n ds fs) defs n T (object_first defs (from + def_nodes (S.Input n ds fs)) (n ∷ before) (more_scalars before n scalars) new.rest T h)

-- ---- no union has the name of a built-in scalar

abbrev NoMembers : Defs → Text → Text → Type 0
NoMembers defs o T = has_text (union_members_named (type_named defs o)) T ≡ false

abbrev members_first : SchemaDef → Defs → Text → Bool → List Text
members_first d defs o b = union_members_named (cond b (Some d) (type_named defs o))

other_name : (before : List Text) (n o : Text) → has_text before n ≡ false → has_text before o ≡ true → bytes_eq n o ≡ false
other_name before n o new old = on (bytes_eq n o) refl where
  on : (b : Bool) → bytes_eq n o ≡ b → b ≡ false
  on true e = absurd (true≢false (sym (ap (has_text before) (same_text n o e) ∙ old) ∙ new))
  on false e = refl

known : (before : List Text) (n o : Text) → has_text before o ≡ true → has_text (n ∷ before) o ≡ true
known before n o h = ap (λ (b : Bool). bytes_eq n o || b) h ∙ or_true (bytes_eq n o)

-- behind a definition of a name that is new
behind_new : (before : List Text) (d : SchemaDef) (defs : Defs) (n o T : Text) → has_text before n ≡ false → has_text before o ≡ true → NoMembers defs o T
    → has_text (members_first d defs o (bytes_eq n o)) T ≡ false
behind_new before d defs n o T new old h = ap (λ (b : Bool). has_text (members_first d defs o b) T) (other_name before n o new old) ∙ h

no_members : (defs : Defs) (from : ℕ) (before : List Text) → repeats before (names_in from defs) ≡ [] → (o T : Text) → has_text before o ≡ true → NoMembers defs o T
no_members [] from before e o T h = refl
no_members (S.Schema ds rs ∷ defs) from before e o T h = no_members defs (from + def_nodes (S.Schema ds rs)) before e o T h
no_members (S.Directive n xs r ls ∷ defs) from before e o T h =
    on (λ k. no_members defs (from + def_nodes (S.Directive n xs r ls)) before k o T h) (is_built_in_directive n) e
  where
    on : (repeats before (names_in (from + def_nodes (S.Directive n xs r ls)) defs) ≡ [] → NoMembers defs o T) → (b : Bool)
        → repeats before (filter_map type_name_of (cond (not b) (def_at from (S.Directive n xs r ls) ∷ filter has_effect (defs_at (from + def_nodes (S.Directive n xs r ls)) defs))
        (filter has_effect (defs_at (from + def_nodes (S.Directive n xs r ls)) defs)))) ≡ []
        → NoMembers defs o T
    on later true k = later k
    on later false k = later k
no_members (S.Scalar n ds ∷ defs) from before e o T h =
    on (λ k. no_members defs (from + def_nodes (S.Scalar n ds)) before k o T h) (λ k. no_members defs (from + def_nodes (S.Scalar n ds)) (n ∷ before) k o T (known before n o h)) (is_built_in_scalar n) e
  where
    rest : List DefAt
    rest = filter has_effect (defs_at (from + def_nodes (S.Scalar n ds)) defs)

    either : NoMembers defs o T → (b : Bool) → has_text (members_first (S.Scalar n ds) defs o b) T ≡ false
    either same true = refl
    either same false = same

    on : (repeats before (filter_map type_name_of rest) ≡ [] → NoMembers defs o T) → (repeats (n ∷ before) (filter_map type_name_of rest) ≡ [] → NoMembers defs o T)
        → (b : Bool) → repeats before (filter_map type_name_of (cond (not b) (def_at from (S.Scalar n ds) ∷ rest) rest)) ≡ [] → NoMembers (S.Scalar n ds ∷ defs) o T
    on same later true k = either (same k) (bytes_eq n o)
    on same later false k = either (later (is_new before n from (filter_map type_name_of rest) k).rest) (bytes_eq n o)
no_members (S.Object n is ds fs ∷ defs) from before e o T h =
    let new = is_new before n from (names_in (from + def_nodes (S.Object n is ds fs)) defs) e in
    behind_new before (S.Object n is ds fs) defs n o T new.new h (no_members defs (from + def_nodes (S.Object n is ds fs)) (n ∷ before) new.rest o T (known before n o h))
no_members (S.Interface n is ds fs ∷ defs) from before e o T h =
    let new = is_new before n from (names_in (from + def_nodes (S.Interface n is ds fs)) defs) e in
    behind_new before (S.Interface n is ds fs) defs n o T new.new h (no_members defs (from + def_nodes (S.Interface n is ds fs)) (n ∷ before) new.rest o T (known before n o h))
no_members (S.Union n ds ms ∷ defs) from before e o T h =
    let new = is_new before n from (names_in (from + def_nodes (S.Union n ds ms)) defs) e in
    behind_new before (S.Union n ds ms) defs n o T new.new h (no_members defs (from + def_nodes (S.Union n ds ms)) (n ∷ before) new.rest o T (known before n o h))
no_members (S.Enum n ds vs ∷ defs) from before e o T h =
    let new = is_new before n from (names_in (from + def_nodes (S.Enum n ds vs)) defs) e in
    behind_new before (S.Enum n ds vs) defs n o T new.new h (no_members defs (from + def_nodes (S.Enum n ds vs)) (n ∷ before) new.rest o T (known before n o h))
no_members (S.Input n ds fs ∷ defs) from before e o T h =
    let new = is_new before n from (names_in (from + def_nodes (S.Input n ds fs)) defs) e in
    behind_new before (S.Input n ds fs) defs n o T new.new h (no_members defs (from + def_nodes (S.Input n ds fs)) (n ∷ before) new.rest o T (known before n o h))

-- ---- a type that is no composite one

no_kind : (k : Option TypeKind) → is_kind is_composite_kind k ≡ false → is_kind is_object_kind k ≡ true → ⊥
no_kind None e f = true≢false (sym f)
no_kind (Some kinds.Object) e f = true≢false e
no_kind (Some k) e f = true≢false (sym f)

no_interface : (k : Option TypeKind) → is_kind is_composite_kind k ≡ false → is_kind is_interface_kind k ≡ true → ⊥
no_interface None e f = true≢false (sym f)
no_interface (Some kinds.Interface) e f = true≢false e
no_interface (Some k) e f = true≢false (sym f)

-- a type that has members is a union
union_kind : (o : Option SchemaDef) (T : Text) → is_kind is_composite_kind (option_map (λ (t : Text × TypeKind). t.1) (option_and_then type_of o)) ≡ false
    → has_text (union_members_named o) T ≡ true → ⊥
union_kind None T e h = true≢false (sym h)
union_kind (Some (S.Union n ds ms)) T e h = true≢false e
union_kind (Some d) T e h = true≢false (sym h)

scalars_there : HasScalars built_in_scalars
scalars_there t e = e

module _ (defs : Defs) (sound : IsSound defs) where
  meets : SchemaMeets defs
  meets = sound_meets defs sound

  differ : repeats built_in_scalars (names_in 1 defs) ≡ []
  differ =
      let ds : List DefAt = filter has_effect (locate defs) in
      let first : names_not_unique ds ≡ [] = (all_hold (rules defs ds) sound).0 in
      let types : List ℕ = repeats built_in_scalars (filter_map type_name_of ds) in
      let directives : List ℕ = repeated_names (filter_map directive_name_of ds) in
      none_first types directives (none_first (types ++ directives) (further_schemas false ds)
      (none_first (types ++ directives ++ further_schemas false ds) (each (λ d. repeated_kinds [] (roots_in d)) ds) first))

  object_kind : (T : Text) → has_text (filter_map object_name defs) T ≡ true → is_kind is_object_kind (kind_of defs T) ≡ true
  object_kind T h =
      let first : IsFirst built_in_scalars defs T = object_first defs 1 built_in_scalars scalars_there differ T h in
      ap (λ (b : Bool). is_kind is_object_kind (cond b (Some Scalar) (kind_among defs T))) first.0 ∙ first.1

  -- what a type may be are object types
  pub are_objects : (o T : Text) → has_text (possible defs o) T ≡ true → is_object defs T ≡ true
  are_objects o T h = object_kind T (possible_is defs o T h).0

  nothing_is : (o T : Text) → is_composite defs o ≡ false → has_text (possible defs o) T ≡ true → ⊥
  nothing_is o T e h =
      let parts = in_filter (λ object. applies defs object o) (filter_map object_name defs) T
      (sym (has_text-sorted_texts (filter (λ object. applies defs object o) (filter_map object_name defs)) T) ∙ h) in
      either_of (bytes_eq T o || implements defs T o) (has_text (union_members_named (type_named defs o)) T) parts.1
      (λ k. either_of (bytes_eq T o) (implements defs T o) k
      (λ i. no_kind (kind_of defs o) e (subst (λ (t : Text). is_kind is_object_kind (kind_of defs t) ≡ true) (same_text T o i) (object_kind T parts.0)))
      (λ i. no_interface (kind_of defs o) e (implemented defs meets T o i).kind))
      (λ m. on m (is_built_in_scalar o) refl e)
    where
      on : has_text (union_members_named (type_named defs o)) T ≡ true → (b : Bool) → is_built_in_scalar o ≡ b → is_kind is_composite_kind (cond b (Some Scalar) (kind_among defs o)) ≡ false → ⊥
      on m true built k = true≢false (sym m ∙ no_members defs 1 built_in_scalars differ o T built)
      on m false built k = union_kind (type_named defs o) T k m

  nothing_at : (o T : Text) → is_composite defs o ≡ false → (b : Bool) → has_text (possible defs o) T ≡ b → b ≡ false
  nothing_at o T e true h = absurd (nothing_is o T e h)
  nothing_at o T e false h = refl

  pub are_sound : AreSound defs
  are_sound = record {
    alone = λ o T e h. possible_in_object defs meets o T e h;
    nothing = λ o T e. nothing_at o T e (has_text (possible defs o) T) refl;
  }
